-- What a book keeps of its fields.
use Rattle.std.specs.Prelude.{◌≡◌, ℕ, ◌*◌, ◌<◌, ◌≤◌, true, List, length, eqb}
use Rattle.std.specs.List.{IsDistinct}
use Rattle.job_board.specs.declared.entry.Entry.{Entry}
use Rattle.job_board.specs.declared.report.Report.{Report}
use Rattle.job_board.specs.History.{IsLegal, drawn, is_drawn, is_posted, posted}

-- the history is legal, the number that is drawn next is the number of those drawn, and there is room for all that can
-- happen to the jobs
pub record IsKept (jobs : ℕ) (answers : ℕ → Report → Type 0) (count next room : ℕ) (history : List Entry) : Type 0 where
  pub legal : IsLegal jobs answers history
  pub all : count ≡ jobs
  pub most : count ≤ 256
  pub next_is : next ≡ length (drawn history)
  pub within : next ≤ count
  pub roomy : 2 * count ≤ room
  pub drawn_below : (number : ℕ) → is_drawn number history ≡ true → number < count
  pub posted_below : (number : ℕ) → is_posted number history ≡ true → number < count
  pub once : IsDistinct eqb (posted history)
