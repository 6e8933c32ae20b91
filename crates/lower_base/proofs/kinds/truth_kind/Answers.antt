use Rattle.std.proofs.Common.{◌≡◌, true, false, ap, Some}
use Rattle.std.proofs.Math.Bool.{Bool-set}
use Rattle.cstar_base.specs.Kinds.{is_kind}
use Rattle.cstar_base.specs.declared.elem.Elem.{Elem}
use Rattle.lower_base.proofs.kinds.truth_kind.Goals as goal

-- any two proofs that a type is one are the same
abbrev with_proof : is_kind 1 false ≡ true → Elem
with_proof kind = record { bits = 1; signed = false; kind = kind }

pub returns : goal.returns
returns c = ap (λ kind. Some (with_proof kind)) (Bool-set (is_kind 1 false) true _ _)
