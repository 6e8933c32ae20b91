use Rattle.std.proofs.Common.{◌∙◌, [], ap, sym}
use Rattle.paris_code.specs.declared.program.Image.{Image}
use Rattle.paris_code.specs.Listing.{listing}
use Rattle.point_runs.proofs.saving.listing_of.Goals as goal

pub returns-in-Ok-clause-listing : goal.returns-in-Ok-clause-listing
returns-in-Ok-clause-listing c =
    let printed = c.in-Ok.ensures.0 [] (λ none. sym c.new-text.ensures.bytes) (c.in-Ok.ensures.1 ∙ c.new-text.ensures.faults) in
    c.into_word.ensures.bytes ∙ sym printed ∙ ap (λ (image : Image). listing image) c.image.ensures.same
