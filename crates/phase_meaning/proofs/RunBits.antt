-- The bits of a number, and the number of a run of bits.
use Rattle.std.proofs.Common.{◌≡◌, ℕ, suc, zero, ◌+◌, ◌*◌, ◌/◌, ◌%◌, ◌^◌, ◌<◌, sym, ◌∙◌, ap, arith, add_comm, mul_comm}
use Rattle.std.specs.Int.{bit_at}
use Rattle.std.proofs.Math.Numerals.{one-add}
use Rattle.std.proofs.lemmas.Nat.{mod-pow-add}
use Rattle.paris_code.specs.Memory.{run_number}

-- the number of a run by its bits
pub run_number_is : (bits : ℕ → ℕ) (offset n x : ℕ) → ((j : ℕ) → j < n → bits (offset + j) ≡ bit_at x j) → run_number bits offset n ≡ x % 2 ^ n
unfolding run_number
run_number_is bits offset zero x h = omega arith
run_number_is bits offset (suc n) x h =
    let low : run_number bits offset n ≡ x % 2 ^ n = run_number_is bits offset n x (λ j b. h j (omega arith)) in
    let top : bits (offset + n) ≡ bit_at x n = h n (omega arith) in
    let whole : x % 2 ^ (1 + n) ≡ x / 2 ^ n % 2 ^ 1 * 2 ^ n + x % 2 ^ n = mod-pow-add x 1 n in
    ap (λ m. m + 2 ^ n * bits (offset + n)) low ∙ ap (λ b. x % 2 ^ n + 2 ^ n * b) top
    ∙ add_comm (x % 2 ^ n) (2 ^ n * (x / 2 ^ n % 2)) ∙ ap (λ m. m + x % 2 ^ n) (mul_comm (2 ^ n) (x / 2 ^ n % 2))
    ∙ sym whole ∙ ap (λ m. x % 2 ^ m) (one-add n)

-- the number of one bit
pub run_number_one : (bits : ℕ → ℕ) (offset : ℕ) → run_number bits offset 1 ≡ bits offset
unfolding run_number
run_number_one bits offset = let e : 0 + 2 ^ 0 * bits (offset + 0) ≡ bits (offset + 0) = omega arith in e ∙ ap bits (omega arith)
