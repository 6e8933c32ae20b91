-- The parts of a point behind its head: those that were read are those of every point that the bytes begin with.
use Rattle.std.proofs.Common.{◌≡◌, ◌++◌, ◌^◌, ◌<◌, ℕ, List, [], length, refl, sym, ◌∙◌, append_assoc}
use Rattle.checkpoint.specs.declared.point.Point.{Point}
use Rattle.checkpoint.specs.Bytes.{IsCounted, body_of, counted, four_bytes, measured}
use Rattle.checkpoint.proofs.Numbers.{four_length}
use Rattle.checkpoint.proofs.Reading.{behind_counted, behind_four, behind_measured, too_short}

pub body_parts : (p : Point) (rest : List ℕ) → body_of p ++ rest
    ≡ four_bytes p.at ++ (counted p.regs ++ (counted p.returns ++ (measured p.listing ++ (measured p.bits ++ rest))))
unfolding body_of
body_parts p rest = simp append_assoc refl

pub no_at : (s : List ℕ) (p : Point) (rest : List ℕ) → length s < 4 → s ≡ body_of p ++ rest → ⊥
no_at s p rest short e = too_short s (four_bytes p.at) _ 4 (four_length p.at) short (e ∙ body_parts p rest)

after_at : (s : List ℕ) (p : Point) (rest : List ℕ) (n : ℕ) (left : List ℕ) → s ≡ four_bytes n ++ left → s ≡ body_of p ++ rest
    → left ≡ counted p.regs ++ (counted p.returns ++ (measured p.listing ++ (measured p.bits ++ rest)))
after_at s p rest n left e f = behind_four n p.at s left (counted p.regs) _ e (f ∙ body_parts p rest)

pub no_regs : (s : List ℕ) (p : Point) (rest : List ℕ) (n : ℕ) (left : List ℕ) → IsCounted p → s ≡ four_bytes n ++ left
    → ((xs more : List ℕ) → length xs < 2 ^ 32 → left ≡ counted xs ++ more → ⊥) → s ≡ body_of p ++ rest → ⊥
no_regs s p rest n left few e none f = none p.regs _ few.regs (after_at s p rest n left e f)

after_regs : (s : List ℕ) (p : Point) (rest : List ℕ) (n : ℕ) (left regs left2 : List ℕ) → IsCounted p → s ≡ four_bytes n ++ left
    → length regs < 2 ^ 32 → left ≡ counted regs ++ left2 → s ≡ body_of p ++ rest
    → left2 ≡ counted p.returns ++ (measured p.listing ++ (measured p.bits ++ rest))
after_regs s p rest n left regs left2 few e small g f =
    behind_counted regs p.regs left left2 (counted p.returns) _ small few.regs g (after_at s p rest n left e f)

pub no_returns : (s : List ℕ) (p : Point) (rest : List ℕ) (n : ℕ) (left regs left2 : List ℕ) → IsCounted p → s ≡ four_bytes n ++ left
    → length regs < 2 ^ 32 → left ≡ counted regs ++ left2
    → ((xs more : List ℕ) → length xs < 2 ^ 32 → left2 ≡ counted xs ++ more → ⊥) → s ≡ body_of p ++ rest → ⊥
no_returns s p rest n left regs left2 few e small g none f =
    none p.returns _ few.returns (after_regs s p rest n left regs left2 few e small g f)

after_returns : (s : List ℕ) (p : Point) (rest : List ℕ) (n : ℕ) (left regs left2 returns left3 : List ℕ) → IsCounted p → s ≡ four_bytes n ++ left
    → length regs < 2 ^ 32 → left ≡ counted regs ++ left2 → length returns < 2 ^ 32 → left2 ≡ counted returns ++ left3
    → s ≡ body_of p ++ rest → left3 ≡ measured p.listing ++ (measured p.bits ++ rest)
after_returns s p rest n left regs left2 returns left3 few e small g less h f =
    behind_counted returns p.returns left2 left3 (measured p.listing) _ less few.returns h (after_regs s p rest n left regs left2 few e small g f)

pub no_listing : (s : List ℕ) (p : Point) (rest : List ℕ) (n : ℕ) (left regs left2 returns left3 : List ℕ) → IsCounted p → s ≡ four_bytes n ++ left
    → length regs < 2 ^ 32 → left ≡ counted regs ++ left2 → length returns < 2 ^ 32 → left2 ≡ counted returns ++ left3
    → ((xs more : List ℕ) → length xs < 2 ^ 64 → left3 ≡ measured xs ++ more → ⊥) → s ≡ body_of p ++ rest → ⊥
no_listing s p rest n left regs left2 returns left3 few e small g less h none f =
    none p.listing _ few.listing (after_returns s p rest n left regs left2 returns left3 few e small g less h f)

pub no_bits : (s : List ℕ) (p : Point) (rest : List ℕ) (n : ℕ) (left regs left2 returns left3 listing left4 : List ℕ) → IsCounted p → s ≡ four_bytes n ++ left
    → length regs < 2 ^ 32 → left ≡ counted regs ++ left2 → length returns < 2 ^ 32 → left2 ≡ counted returns ++ left3
    → length listing < 2 ^ 64 → left3 ≡ measured listing ++ left4
    → ((xs more : List ℕ) → length xs < 2 ^ 64 → left4 ≡ measured xs ++ more → ⊥) → s ≡ body_of p ++ rest → ⊥
no_bits s p rest n left regs left2 returns left3 listing left4 few e small g less h short i none f =
    none p.bits rest few.bits
    (behind_measured listing p.listing left3 left4 (measured p.bits) rest short few.listing i
    (after_returns s p rest n left regs left2 returns left3 few e small g less h f))

-- the parts that were read are a point's
pub body_read : (p : Point) (s left left2 left3 left4 left5 : List ℕ) → s ≡ four_bytes p.at ++ left → left ≡ counted p.regs ++ left2
    → left2 ≡ counted p.returns ++ left3 → left3 ≡ measured p.listing ++ left4 → left4 ≡ measured p.bits ++ left5 → s ≡ body_of p ++ left5
body_read p s left left2 left3 left4 left5 a b c d e = rw (a, b, c, d, e) (sym (body_parts p left5))

-- no body is longer than another that begins it
pub body_free : (s : List ℕ) (p q : Point) (a b : List ℕ) → IsCounted p → IsCounted q → s ≡ body_of p ++ a → s ≡ body_of q ++ b → a ≡ b
body_free s p q a b few other e f =
    behind_measured p.bits q.bits _ a [] b few.bits other.bits refl
    (behind_measured p.listing q.listing _ (measured p.bits ++ a) (measured q.bits) b few.listing other.listing refl
    (after_returns s q b p.at _ p.regs _ p.returns (measured p.listing ++ (measured p.bits ++ a)) other (e ∙ body_parts p a)
    few.regs refl few.returns refl f))
