-- The machine's gets are the language's.
use Rattle.std.proofs.Common.{◌∙◌, ap, refl}
use Rattle.std.specs.Prelude.{nat_lt, if◌then◌else◌}
use Rattle.std.proofs.lemmas.Bool.{lt-ltb}
use Rattle.paris_code.specs.Fetching.{of_named, number_or_zero}
use Rattle.paris_code.specs.Memory.{field_number, processors}
use Rattle.source_meaning.specs.Gets.{gotten}
use Rattle.communication_laws.specs.Gets.{GetsAreTheLanguages}

pub gets : GetsAreTheLanguages
unfolding of_named number_or_zero gotten
gets shapes m address a st x bits holds to p is below =
    ap (λ q. if nat_lt q (processors shapes a.set) then field_number m a q else 0) is
    ∙ ap (λ t. if t then field_number m a (to p) else 0) (lt-ltb (to p) (processors shapes a.set) below)
    ∙ holds (to p) below refl
