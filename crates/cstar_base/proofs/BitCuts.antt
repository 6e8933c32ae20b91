-- A bit of a number that is cut to k bits, and of one that is shifted down by k.
use Rattle.std.proofs.Common.{◌≡◌, ℕ, ◌+◌, ◌/◌, ◌%◌, ◌^◌, ◌<◌, sym, ◌∙◌, ap}
use Rattle.std.specs.Int.{bit_at}
use Rattle.std.proofs.lemmas.Nat.{shr-shr, div-add-mod'}
use Rattle.std.proofs.lemmas.Nat.Bits.{bit_at_cat_low}

pub bit_at-cut : (x k j : ℕ) → j < k → bit_at (x % 2 ^ k) j ≡ bit_at x j
bit_at-cut x k j h = sym (bit_at_cat_low (x / 2 ^ k) k (x % 2 ^ k) j h) ∙ ap (λ n. bit_at n j) (div-add-mod' x (2 ^ k))

pub bit_at-shr : (x k j : ℕ) → bit_at (x / 2 ^ k) j ≡ bit_at x (k + j)
bit_at-shr x k j = ap (λ n. n % 2) (shr-shr x k j)
