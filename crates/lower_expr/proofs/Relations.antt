-- The relations are the operators that compare.
use Rattle.std.proofs.Common.{◌≡◌, Bool, true, false, refl}
use Rattle.cstar_base.specs.declared.operators.Op.{Op}
use Rattle.paris_code.specs.declared.operands.Compare.{Compare}
use Rattle.paris_code.specs.declared.operands.Operation.{Operation}
use Rattle.lower_base.specs.declared.operators.Machine.TheVariants as M
use Rattle.lower_base.specs.Operators.{machine_of, relates}

pub compares : (op : Op) (signed : Bool) (relation : Compare) → machine_of op signed ≡ M.Compare relation → relates op ≡ true
unfolding machine_of relates
compares Op.Eq signed relation e = refl
compares Op.Ne signed relation e = refl
compares Op.Lt signed relation e = refl
compares Op.Le signed relation e = refl
compares Op.Gt signed relation e = refl
compares Op.Ge signed relation e = refl
compares _ signed relation e = cc

pub operates : (op : Op) (signed : Bool) (act : Operation) → machine_of op signed ≡ M.Operate act → relates op ≡ false
unfolding machine_of relates
operates Op.Eq signed act e = cc
operates Op.Ne signed act e = cc
operates Op.Lt signed act e = cc
operates Op.Le signed act e = cc
operates Op.Gt signed act e = cc
operates Op.Ge signed act e = cc
operates _ signed act e = refl
