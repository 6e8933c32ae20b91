-- The words of a batch: a number of callers, and the names of files.
use Rattle.std.specs.Prelude.{ℕ, ◌-◌, Bool, true, false, ◌&&◌, not, ◌==◌, nat_le, List, [], ◌∷◌, drop, length, get_or, Option, Some, None, is_some, if◌then◌else◌}
use Rattle.std.specs.List.{list_all}

-- the number of callers that a word gives: one digit, 1 to 8
abbrev pub callers_in : List ℕ → Option ℕ
callers_in (digit ∷ []) = if nat_le 49 digit && nat_le digit 56 then Some (digit - 48) else None
callers_in _ = None

-- names of 1 to 4,096 bytes that do not begin with `-`
abbrev pub is_name : List ℕ → Bool
is_name name = nat_le 1 (length name) && (nat_le (length name) 4096 && not (get_or name 0 0 == 45))

-- the words behind the number of callers
abbrev pub names_in : List (List ℕ) → List (List ℕ)
names_in words = drop 1 words

-- 1 to 256 names
abbrev pub are_names : List (List ℕ) → Bool
are_names names = nat_le 1 (length names) && (nat_le (length names) 256 && list_all is_name names)

-- the words are a batch: a number of callers and the names of its files
unfoldable pub is_batch : List (List ℕ) → Bool
is_batch [] = false
is_batch (callers ∷ names) = is_some (callers_in callers) && are_names names
