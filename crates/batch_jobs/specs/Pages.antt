-- What an output in memory tells of the bytes that it was given.
use Rattle.std.specs.Prelude.{◌≡◌, ◌<◌, ℕ, Bool, true, List, length}

-- The bytes that it was given may be this list: where no put failed they are those that it holds, and
-- where one went past the limit they are more than that.
abbrev pub MayHave : ℕ → Bool → ℕ → List ℕ → List ℕ → Type 0
MayHave faults over limit held list = (faults ≡ 0 → list ≡ held) × (over ≡ true → limit < length list)
