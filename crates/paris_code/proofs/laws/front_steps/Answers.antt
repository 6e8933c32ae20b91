use Rattle.std.proofs.Common.{refl}
use Rattle.paris_code.specs.Code.{begun}
use Rattle.paris_code.proofs.laws.front_steps.Goals as goal

pub returns : goal.returns
unfolding begun
returns c = λ image memory. record { no_turn_left = refl; call_and_return = refl; read_at_end = refl; read_of_broken = refl }
