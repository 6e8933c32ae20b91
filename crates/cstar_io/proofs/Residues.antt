-- Counts and sums of bytes, modulo a number.
use Rattle.std.proofs.Common.{◌≡◌, ℕ, ◌+◌, ◌/◌, ◌%◌, ◌^◌, ◌<◌, List, ◌++◌, length, take, get_or, sum, sym, ◌∙◌, ap, arith}
use Rattle.std.proofs.Math.Nat.{mod-add-div, add-mul-mod_self_left, add_comm}
use Rattle.std.proofs.lemmas.List.Sums.{sum_by_more, sum_by-append}
use Rattle.std.proofs.lemmas.List.{length-append}

-- a sum modulo m, of which the first part was taken modulo m before
pub residue_first : (a b m : ℕ) → (a % m + b) % m ≡ (a + b) % m
residue_first a b m =
    sym (ap (λ n. n % m) (omega (arith, mod-add-div a m)) ∙ add-mul-mod_self_left (a % m + b) m (a / m))

-- of which both parts were
pub residue_both : (a b m : ℕ) → (a % m + b % m) % m ≡ (a + b) % m
residue_both a b m =
    residue_first a (b % m) m ∙ ap (λ n. n % m) (add_comm a (b % m)) ∙ residue_first b a m ∙ ap (λ n. n % m) (add_comm b a)

-- one more element of a sum
pub sum_step : (xs : List ℕ) (i d total : ℕ) → i < length xs → total ≡ sum (take i xs) % 2 ^ 32 → (total + get_or xs i d) % 2 ^ 32 ≡ sum (take (i + 1) xs) % 2 ^ 32
sum_step xs i d total below is =
    ap (λ n. (n + get_or xs i d) % 2 ^ 32) is
    ∙ residue_first (sum (take i xs)) (get_or xs i d) (2 ^ 32)
    ∙ ap (λ n. n % 2 ^ 32) (sym (sum_by_more (λ x. x) xs i d below))

-- the sum of two lists
pub sum_joined : (xs ys : List ℕ) (total : ℕ) → sum xs % 2 ^ 32 ≡ total → sum (xs ++ ys) % 2 ^ 32 ≡ (total + sum ys % 2 ^ 32) % 2 ^ 32
sum_joined xs ys total is =
    ap (λ n. n % 2 ^ 32) (sum_by-append (λ x. x) xs ys)
    ∙ sym (residue_both (sum xs) (sum ys) (2 ^ 32))
    ∙ ap (λ n. (n + sum ys % 2 ^ 32) % 2 ^ 32) is

-- the length of two lists
pub length_joined : (xs ys : List ℕ) (count : ℕ) → length xs % 2 ^ 64 ≡ count → length (xs ++ ys) % 2 ^ 64 ≡ (count + length ys) % 2 ^ 64
length_joined xs ys count is =
    ap (λ n. n % 2 ^ 64) (length-append xs ys)
    ∙ sym (residue_first (length xs) (length ys) (2 ^ 64))
    ∙ ap (λ n. (n + length ys) % 2 ^ 64) is
