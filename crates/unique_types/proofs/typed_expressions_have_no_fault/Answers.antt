use Rattle.unique_types.proofs.Faultless.{faultless}
use Rattle.unique_types.proofs.typed_expressions_have_no_fault.Goals as goal

pub returns : goal.returns
returns c = λ program here e t b h fault p stands. faultless stands h
