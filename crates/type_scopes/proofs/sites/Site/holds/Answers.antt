use Rattle.cstar_base.specs.declared.faults.Fault.TheVariants as F
use Rattle.cstar_tree.specs.ExpressionFaults as X
use Rattle.cstar_tree.specs.Scopes as S
use Rattle.type_scopes.proofs.sites.Site.holds.Goals as goal

pub returns-in_default : goal.returns-in_default
returns-in_default c = rw c.in_default.is S.scalar

pub returns-in-None : goal.returns-in-None
returns-in-None c = record {
  of = c.in-Some.shape;
  fault = F.NoShape;
  is_parallel = c.in-Some.is;
  away = rw c.in-None.is X.no_current;
  tells = c.fault.ensures;
}

pub returns-in-Some-current : goal.returns-in-Some-current
returns-in-Some-current c = rw (c.in-Some.is, c.in-Some-current.is, c.if-current-shape.true) S.of_current

pub returns-in-Some-2 : goal.returns-in-Some-2
returns-in-Some-2 c = record {
  of = c.in-Some.shape;
  fault = F.OtherShape;
  is_parallel = c.in-Some.is;
  away = rw c.in-Some-current.is (X.other c.if-current-shape.false);
  tells = c.fault-in-Some-2.ensures;
}
