-- Cells join in any order.
use Rattle.std.proofs.Common.{◌≡◌, ℕ, zero, suc, ◌+◌, ◌*◌, ◌/◌, ◌%◌, ◌^◌, ◌<◌, min, max, bit_or, refl, sym, ap, ◌∙◌, add_comm, add_assoc, arith}
use Rattle.std.proofs.Math.Nat.{max_comm, min_comm, mod-add-mod, add-mod-mod}
use Rattle.std.proofs.lemmas.Nat.{and_comm, or_comm, xor_comm, and_assoc, or_shr, or_mod, div-add-mod'}
use Rattle.std.specs.Int.Bits.{xor_assoc}
use lib.Arith.{bin_ind}
use Rattle.combine_core.specs.declared.kind.Kind.{Kind}
use Rattle.combine_core.specs.declared.kind.Kind.TheVariants.{Add, And, Or, Xor, Min, Max, Last, First}
use Rattle.combine_core.specs.Encodings.{joined}

by_digits : (m n : ℕ) → m / 2 ≡ n / 2 → m % 2 ≡ n % 2 → m ≡ n
by_digits m n h l = let a : m / 2 * 2 + m % 2 ≡ m = div-add-mod' m 2 in let b : n / 2 * 2 + n % 2 ≡ n = div-add-mod' n 2 in omega arith

digit_assoc : (x y z : ℕ) → x < 2 → y < 2 → z < 2 → bit_or (bit_or x y) z ≡ bit_or x (bit_or y z)
digit_assoc zero y z hx hy hz = refl
digit_assoc (suc zero) zero z hx hy hz = refl
digit_assoc (suc zero) (suc zero) zero hx hy hz = refl
digit_assoc (suc zero) (suc zero) (suc zero) hx hy hz = refl
digit_assoc (suc zero) (suc zero) (suc (suc z)) hx hy hz = absurd (omega arith)
digit_assoc (suc zero) (suc (suc y)) z hx hy hz = absurd (omega arith)
digit_assoc (suc (suc x)) y z hx hy hz = absurd (omega arith)

pub or_assoc : (a b c : ℕ) → bit_or (bit_or a b) c ≡ bit_or a (bit_or b c)
or_assoc =
    bin_ind (λ (n : ℕ). (b c : ℕ) → bit_or (bit_or n b) c ≡ bit_or n (bit_or b c)) (λ b c. refl)
    (λ n ih b c. by_digits _ _
    (or_shr (bit_or n b) c 1 ∙ ap (λ (x : ℕ). bit_or x (c / 2)) (or_shr n b 1) ∙ ih (b / 2) (c / 2)
    ∙ sym (or_shr n (bit_or b c) 1 ∙ ap (bit_or (n / 2)) (or_shr b c 1)))
    (or_mod (bit_or n b) c 1 ∙ ap (λ (x : ℕ). bit_or x (c % 2)) (or_mod n b 1)
    ∙ digit_assoc (n % 2) (b % 2) (c % 2) (omega arith) (omega arith) (omega arith)
    ∙ sym (or_mod n (bit_or b c) 1 ∙ ap (bit_or (n % 2)) (or_mod b c 1))))

max_assoc : (a b c : ℕ) → max (max a b) c ≡ max a (max b c)
max_assoc a b c = omega arith

min_assoc : (a b c : ℕ) → min (min a b) c ≡ min a (min b c)
min_assoc a b c = omega arith

pub joined_comm : (k : Kind) (a b : ℕ) → joined k a b ≡ joined k b a
joined_comm Add a b = ap (λ (n : ℕ). n % 2 ^ 64) (add_comm a b)
joined_comm And a b = and_comm a b
joined_comm Or a b = or_comm a b
joined_comm Xor a b = xor_comm a b
joined_comm (Min signed) a b = min_comm a b
joined_comm (Max signed) a b = max_comm a b
joined_comm Last a b = max_comm a b
joined_comm First a b = max_comm a b

pub joined_assoc : (k : Kind) (a b c : ℕ) → joined k (joined k a b) c ≡ joined k a (joined k b c)
joined_assoc Add a b c = mod-add-mod (a + b) (2 ^ 64) c ∙ ap (λ (n : ℕ). n % 2 ^ 64) (add_assoc a b c) ∙ sym (add-mod-mod a (b + c) (2 ^ 64))
joined_assoc And a b c = and_assoc c a b
joined_assoc Or a b c = or_assoc a b c
joined_assoc Xor a b c = xor_assoc a b c
joined_assoc (Min signed) a b c = min_assoc a b c
joined_assoc (Max signed) a b c = max_assoc a b c
joined_assoc Last a b c = max_assoc a b c
joined_assoc First a b c = max_assoc a b c

-- what comes later may as well come earlier
pub joined_swap : (k : Kind) (a b c : ℕ) → joined k (joined k a b) c ≡ joined k (joined k a c) b
joined_swap k a b c = joined_assoc k a b c ∙ ap (joined k a) (joined_comm k b c) ∙ sym (joined_assoc k a c b)
