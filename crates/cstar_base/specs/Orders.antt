-- Folds and first places over numbers, in rising order.
use Rattle.std.specs.Prelude.{ℕ, zero, suc, Bool, ◌+◌, ◌||◌, false, if◌then◌else◌, Option, Some, None}

-- the values of the numbers below n that pass, folded in rising order
unfoldable pub fold_below : (ℕ → ℕ → ℕ) → (ℕ → Bool) → (ℕ → ℕ) → ℕ → ℕ → ℕ
fold_below step passes value start zero = start
fold_below step passes value start (suc n) =
    let rest = fold_below step passes value start n in
    if passes n then step rest (value n) else rest

-- the first of two, or else the second
abbrev pub or_else : Option ℕ → Option ℕ → Option ℕ
or_else (Some k) other = Some k
or_else None other = other

-- the least, and the greatest, of the numbers below n that pass
unfoldable pub least_below : (ℕ → Bool) → ℕ → Option ℕ
least_below passes zero = None
least_below passes (suc n) = or_else (least_below passes n) (if passes n then Some n else None)

unfoldable pub greatest_below : (ℕ → Bool) → ℕ → Option ℕ
greatest_below passes zero = None
greatest_below passes (suc n) = if passes n then Some n else greatest_below passes n

-- one of the numbers from `from` on passes, of so many
unfoldable pub any_of : (ℕ → Bool) → ℕ → ℕ → Bool
any_of passes from zero = false
any_of passes from (suc n) = any_of passes from n || passes (from + n)
