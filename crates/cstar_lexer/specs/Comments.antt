-- Comments.
use Rattle.std.specs.Prelude.{◌≡◌, ℕ, ◌+◌, ◌-◌, ◌≤◌, ◌<◌, List, length, slice_index}

-- the two bytes that open a comment
abbrev pub OpensComment : List ℕ → Type 0
OpensComment bytes = (slice_index bytes 0 ≡ 47) × (slice_index bytes 1 ≡ 42)

-- the two bytes that close a comment stand at a position
abbrev pub ClosesAt : List ℕ → ℕ → Type 0
ClosesAt bytes at = (slice_index bytes at ≡ 42) × (slice_index bytes (at + 1) ≡ 47)

-- the first n bytes are a comment, which ends with the first close behind its opening
pub record IsComment (bytes : List ℕ) (n : ℕ) : Type 0 where
  pub slash : slice_index bytes 0 ≡ 47
  pub star : slice_index bytes 1 ≡ 42
  pub long : 4 ≤ n
  pub within : n ≤ length bytes
  pub closes : ClosesAt bytes (n - 2)
  pub first : (at : ℕ) → 2 ≤ at → at + 2 < n → ClosesAt bytes at → ⊥
