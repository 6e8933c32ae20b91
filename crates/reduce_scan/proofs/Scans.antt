-- A scan in parts: each part from the identity, and then joined in order.
use Rattle.std.proofs.Common.{◌≡◌, ℕ, zero, suc, ◌+◌, ◌^◌, ◌<◌, Bool, true, false, cond, refl, sym, ◌∙◌, ap, arith}
use Rattle.std.specs.Prelude.{◌||◌}
use Rattle.cstar_base.proofs.FoldLaws.{fold_once_below, fold_once_assoc}
use Rattle.paris_code.specs.declared.operands.Reduction.{Reduction}
use Rattle.paris_code.specs.Operators.{combiner_of}
use Rattle.cstar_base.specs.Orders.{any_of}
use Rattle.reduce_scan.specs.Running.{running, handed_on}
use Rattle.reduce_scan.proofs.Parts.{once, none, none_below, none_last}

-- one part after another
pub running_on : (c : Reduction) (cut active : ℕ → Bool) (value : ℕ → ℕ) (start m n : ℕ)
    → running c cut active value start (m + n) ≡ running c (λ k. cut (m + k)) (λ k. active (m + k)) (λ k. value (m + k)) (running c cut active value start m) n
unfolding running
running_on c cut active value start m zero = ap (running c cut active value start) (let e : m + 0 ≡ m = omega arith in e)
running_on c cut active value start m (suc n) =
    ap (running c cut active value start) (let e : m + suc n ≡ suc (m + n) = omega arith in e)
    ∙ ap (λ t. cond t (none c) (cond (active (m + n)) (once c (running c cut active value start (m + n)) (value (m + n))) (running c cut active value start (m + n)))) (ap cut (let e : suc (m + n) ≡ m + suc n = omega arith in e))
    ∙ ap (λ r. cond (cut (m + suc n)) (none c) (cond (active (m + n)) (once c r (value (m + n))) r)) (running_on c cut active value start m n)

choose_fits : (c : Reduction) (t a : Bool) (r v : ℕ) → r < 2 ^ 32 → v < 2 ^ 32 → cond t (none c) (cond a (once c r v) r) < 2 ^ 32
choose_fits c true a r v p q = none_below c
choose_fits c false true r v p q = fold_once_below (combiner_of c).0 (combiner_of c).1 r v p q
choose_fits c false false r v p q = p

pub running_fits : (c : Reduction) (cut active : ℕ → Bool) (value : ℕ → ℕ) (start n : ℕ) → start < 2 ^ 32 → ((k : ℕ) → value k < 2 ^ 32) → running c cut active value start n < 2 ^ 32
unfolding running
running_fits c cut active value start zero p fits = p
running_fits c cut active value start (suc n) p fits = choose_fits c (cut (suc n)) (active n) (running c cut active value start n) (value n) (running_fits c cut active value start n p fits) (fits n)

-- one more place
handed_more : (c : Reduction) (before now a : Bool) (start r v : ℕ) → start < 2 ^ 32 → r < 2 ^ 32 → v < 2 ^ 32
    → cond now (none c) (cond a (once c (handed_on c before start r) v) (handed_on c before start r)) ≡ handed_on c (before || now) start (cond now (none c) (cond a (once c r v) r))
handed_more c true true a start r v p q h = refl
handed_more c true false true start r v p q h = refl
handed_more c true false false start r v p q h = refl
handed_more c false true a start r v p q h = refl
handed_more c false false true start r v p q h = fold_once_assoc (combiner_of c).0 (combiner_of c).1 start r v p q h
handed_more c false false false start r v p q h = refl

-- a part that begins with a number, by the same part from the identity and whether something begins in it
pub running_from : (c : Reduction) (cut active : ℕ → Bool) (value : ℕ → ℕ) (start n : ℕ) → start < 2 ^ 32 → ((k : ℕ) → value k < 2 ^ 32)
    → running c cut active value start n ≡ handed_on c (any_of cut 1 n) start (running c cut active value (none c) n)
unfolding running any_of
running_from c cut active value start zero p fits = sym (none_last c start p)
running_from c cut active value start (suc n) p fits =
    ap (λ r. cond (cut (suc n)) (none c) (cond (active n) (once c r (value n)) r)) (running_from c cut active value start n p fits)
    ∙ handed_more c (any_of cut 1 n) (cut (suc n)) (active n) start (running c cut active value (none c) n) (value n) p (running_fits c cut active value (none c) n (none_below c) fits) (fits n)
    ∙ ap (λ t. handed_on c (any_of cut 1 n || t) start (cond (cut (suc n)) (none c) (cond (active n) (once c (running c cut active value (none c) n) (value n)) (running c cut active value (none c) n)))) (ap cut (let e : suc n ≡ 1 + n = omega arith in e))

-- the same where something begins at the same places
pub running_same : (c : Reduction) (cut other active : ℕ → Bool) (value : ℕ → ℕ) (start n : ℕ) → ((j : ℕ) → j < n → cut (suc j) ≡ other (suc j))
    → running c cut active value start n ≡ running c other active value start n
unfolding running
running_same c cut other active value start zero same = refl
running_same c cut other active value start (suc n) same =
    let next : Bool → ℕ → ℕ = λ t r. cond t (none c) (cond (active n) (once c r (value n)) r) in
    ap (λ r. next (cut (suc n)) r) (running_same c cut other active value start n (λ j b. same j (omega arith)))
    ∙ ap (λ t. next t (running c other active value start n)) (same n (omega arith))
