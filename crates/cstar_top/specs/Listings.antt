-- What the command does with listings.
use Rattle.std.specs.Prelude.{ℕ, List}
use Rattle.cstar_io.specs.Output.{Takes, TakesPrefix}
use Rattle.paris_code.specs.declared.program.Image.{Image}
use Rattle.paris_code.specs.Listing.{listing}
use Rattle.paris_code.specs.Sound.{IsSound}
use Rattle.cstar_top.specs.Accepted.{IsImageOf}

-- a sink takes the listing of an image that keeps the image rules and that the compiler makes of the
-- text's program
abbrev pub TakesListing : {O : Type 0} → (O → List ℕ → Type 0) → O → O → List ℕ → Type 0
TakesListing agrees old new text = (image : Image) × IsSound image × IsImageOf text image × Takes agrees old new (listing image)

-- a sink takes the first bytes of one
abbrev pub TakesPartOfListing : {O : Type 0} → (O → List ℕ → Type 0) → O → O → List ℕ → Type 0
TakesPartOfListing agrees old new text = (image : Image) × IsSound image × IsImageOf text image × TakesPrefix agrees old new (listing image)
