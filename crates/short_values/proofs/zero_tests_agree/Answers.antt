use Rattle.short_values.proofs.NarrowTypes.{zero_test}
use Rattle.short_values.proofs.zero_tests_agree.Goals as goal

pub returns : goal.returns
returns c = zero_test
