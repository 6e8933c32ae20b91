-- The refusals of an image.
use Rattle.std.specs.Prelude.{◌≡◌}
use Rattle.paris_code.specs.declared.program.Image.{Image}
use Rattle.paris_code.specs.Sound.{IsSound}
use Rattle.image_check.specs.declared.fault.Rule.{Rule}
use Rattle.image_check.specs.declared.fault.CheckErr.{CheckErr}
use Rattle.image_check.specs.declared.fault.CheckErr.TheVariants as E
use Rattle.image_check.specs.Faults.{number_of, IsAnswer}

-- a refusal hands the image back; it breaks an image rule, and the first that it breaks is answered
abbrev pub IsRefusalOf : Image → CheckErr → Type 0
IsRefusalOf image (E.Bad number at back) =
    (back ≡ image) × ¬ IsSound image × ((rule : Rule) × (number ≡ number_of rule) × IsAnswer image rule at)
IsRefusalOf image (E.Memory back) = back ≡ image
