-- Where the runs of files begin, and why files are refused.
use Rattle.std.proofs.Common.{◌≡◌, ◌≤◌, ℕ, List, Result, Ok, Err, IfOk, IfErr, length, sym, subst}
use Rattle.cstar_base.specs.declared.faults.Fault.{Fault}
use Rattle.cstar_base.specs.declared.operators.Place.{Place}
use Rattle.cstar_base.specs.declared.operators.Winner.{Winner}
use Rattle.cstar_words.specs.declared.options.Mode.{Mode}
use Rattle.cstar_words.specs.declared.options.Mode.TheVariants as M
use Rattle.listed_images.specs.Meaning.{IsListable}
use Rattle.paris_code.specs.declared.program.Image.{Image}
use Rattle.paris_code.specs.Listing.{listing}
use Rattle.paris_code.specs.Sound.{IsSound}
use Rattle.point_runs.specs.declared.refusal.NoImage.{NoImage}
use Rattle.point_runs.specs.declared.refusal.NoImage.TheVariants as N
use Rattle.point_runs.specs.declared.start.Start.{Start}
use Rattle.point_runs.specs.Assembled.{FitsMachine}
use Rattle.point_runs.specs.Points.{RefusesPoint, Resumes}
use Rattle.point_runs.specs.Refusals.{TellsWhy}
use Rattle.point_runs.specs.Starts.{new_start, origin_of}
use Rattle.cstar_top.specs.Accepted.{IsImageOf}
use Rattle.cstar_top.specs.Refusals.{RefusesRun}
use Rattle.cstar_top.specs.Reported.{Begins}

-- a new run of the image of a program, and of a listing, and one that goes on from a point
pub program_begins : (mode : Mode) (winner : Winner) (text : List ℕ) (image : Image) (r : Result Start NoImage) → mode ≡ M.Run → length text ≤ 1048576 → IsSound image → IsListable image → IsImageOf text image
    → IfOk r (λ start. origin_of start ≡ new_start image winner) → IfOk r (λ start. Begins mode winner text (origin_of start))
program_begins mode winner text image (Ok start) is within sound listable of new =
    subst (λ (m : Mode). Begins m winner text (origin_of start)) (sym is) (image, within, sound, listable, of, new)
program_begins mode winner text image (Err none) is within sound listable of new = tt

pub listing_begins : (mode : Mode) (winner : Winner) (text : List ℕ) (image : Image) (r : Result Start NoImage) → mode ≡ M.Asm → length text ≤ 1048576 → IsSound image → IsListable image → listing image ≡ text → FitsMachine image
    → IfOk r (λ start. origin_of start ≡ new_start image winner) → IfOk r (λ start. Begins mode winner text (origin_of start))
listing_begins mode winner text image (Ok start) is within sound listable listed fits new =
    subst (λ (m : Mode). Begins m winner text (origin_of start)) (sym is) (image, within, sound, listable, listed, fits, new)
listing_begins mode winner text image (Err none) is within sound listable listed fits new = tt

pub point_begins : (mode : Mode) (winner : Winner) (text : List ℕ) (r : Result Start NoImage) → mode ≡ M.Resume
    → IfOk r (λ start. Resumes text (origin_of start)) → IfOk r (λ start. Begins mode winner text (origin_of start))
point_begins mode winner text (Ok start) is resumes =
    subst (λ (m : Mode). Begins m winner text (origin_of start)) (sym is) resumes
point_begins mode winner text (Err none) is resumes = tt

-- why a file is refused, in its mode
pub only_memory : {A : Type 0} (Why : Fault → Place → Type 0) (r : Result A NoImage) → IfErr r (λ none. none ≡ N.Memory) → IfErr r (TellsWhy Why)
only_memory Why (Ok start) is = tt
only_memory Why (Err none) is = subst (λ (e : NoImage). TellsWhy Why e) (sym is) tt

pub points_why : {A : Type 0} (mode : Mode) (text : List ℕ) (r : Result A NoImage) → mode ≡ M.Resume → IfErr r (TellsWhy (RefusesPoint text)) → IfErr r (TellsWhy (RefusesRun mode text))
points_why mode text (Ok start) is why = tt
points_why mode text (Err none) is why = subst (λ (m : Mode). TellsWhy (RefusesRun m text) none) (sym is) (go none why)
  where
    go : (n : NoImage) → TellsWhy (RefusesPoint text) n → TellsWhy (RefusesRun M.Resume text) n
    go (N.Refused fault place) w = w
    go N.Memory w = tt
