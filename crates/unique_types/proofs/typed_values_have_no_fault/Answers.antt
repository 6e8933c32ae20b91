use Rattle.unique_types.proofs.Faultless.{faultless_value}
use Rattle.unique_types.proofs.typed_values_have_no_fault.Goals as goal

pub returns : goal.returns
returns c = λ program here e t h fault p stands. faultless_value stands h
