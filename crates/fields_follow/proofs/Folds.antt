-- The machine's fold of a field of 32 bits is the source's fold of its numbers at the active positions.
use Rattle.std.proofs.Common.{◌≡◌, ◌∙◌, ℕ, zero, suc, ◌<◌, ◌^◌, Bool, true, false, not, List, refl, sym, ap, arith, ◌%◌, Some}
use Rattle.std.specs.Prelude.{if◌then◌else◌}
use Rattle.cstar_base.specs.declared.operators.Combiner.{Combiner}
use Rattle.cstar_base.specs.declared.operators.Combiner.TheVariants as C
use Rattle.cstar_base.specs.Folds.{fold_once, identity_of}
use Rattle.cstar_base.specs.Numbers.{greatest_of, least_of, number_of, residue}
use Rattle.cstar_base.specs.Orders.{fold_below}
use Rattle.cstar_base.proofs.FoldLaws.{fold_once_below}
use Rattle.cstar_base.proofs.NumberLaws.{residue_below, residue_of_number}
use Rattle.cstar_base.proofs.OperatorLaws.{sum_by_residues}
use Rattle.cstar_tree.specs.declared.syntax.ReduceOp.{ReduceOp}
use Rattle.cstar_tree.specs.declared.syntax.ReduceOp.TheVariants as R
use Rattle.lower_base.specs.Operators.{fold_of, reduce_op_of}
use Rattle.lower_base.specs.Kinds.{folded_bits, folded_kind}
use Rattle.lower_expr.specs.Kinds.{has_number}
use Rattle.cstar_base.specs.declared.elem.Elem.{Elem}
use Rattle.short_values.specs.Short.{field_fold, put_back}
use Rattle.short_values.proofs.ShortFolds.{short_folds}
use Rattle.paris_code.specs.declared.operands.Field.{Field}
use Rattle.paris_code.specs.declared.operands.Reduction.{Reduction}
use Rattle.paris_code.specs.Fetching.{folded_word, global_fold}
use Rattle.paris_code.specs.Memory.{BitMemory, field_number, is_active, processors, whole_number}
use Rattle.paris_code.specs.Operators.{combiner_of}
use Rattle.paris_code.specs.Shapes.{SetShape}
use Rattle.source_meaning.specs.Reductions.{folded}
use Rattle.source_meaning.specs.Reductions as Source

-- a step that goes on where the number passes
stepped : (one other : ℕ → ℕ → ℕ) (s t : Bool) (a b x y : ℕ) → s ≡ t → (a ≡ b) × (b < 2 ^ 32) → (t ≡ true → x ≡ y) → (t ≡ true → y < 2 ^ 32) → ((i j : ℕ) → i < 2 ^ 32 → j < 2 ^ 32 → one i j ≡ other i j) → ((i j : ℕ) → i < 2 ^ 32 → j < 2 ^ 32 → other i j < 2 ^ 32)
    → ((if s then one a x else a) ≡ (if t then other b y else b)) × ((if t then other b y else b) < 2 ^ 32)
stepped one other true true a b x y e so same few steps below = (ap (λ (i : ℕ). one i x) so.0 ∙ ap (λ (j : ℕ). one b j) (same refl) ∙ steps b y so.1 (few refl), below b y so.1 (few refl))
stepped one other false false a b x y e so same few steps below = so
stepped one other true false a b x y e so same few steps below = cc
stepped one other false true a b x y e so same few steps below = cc

-- two folds are the same, and a word, where what passes is the same, and a word
fold_same : (one other : ℕ → ℕ → ℕ) (f g : ℕ → Bool) (x y : ℕ → ℕ) (a b n : ℕ) → a ≡ b → b < 2 ^ 32 → ((p : ℕ) → p < n → f p ≡ g p) → ((p : ℕ) → p < n → g p ≡ true → x p ≡ y p) → ((p : ℕ) → p < n → g p ≡ true → y p < 2 ^ 32)
    → ((i j : ℕ) → i < 2 ^ 32 → j < 2 ^ 32 → one i j ≡ other i j) → ((i j : ℕ) → i < 2 ^ 32 → j < 2 ^ 32 → other i j < 2 ^ 32)
    → (fold_below one f x a n ≡ fold_below other g y b n) × (fold_below other g y b n < 2 ^ 32)
unfolding fold_below
fold_same one other f g x y a b zero start few passes values small steps below = (start, few)
fold_same one other f g x y a b (suc n) start few passes values small steps below =
    stepped one other (f n) (g n) (fold_below one f x a n) (fold_below other g y b n) (x n) (y n) (passes n (omega arith))
    (fold_same one other f g x y a b n start few (λ p h. passes p (omega arith)) (λ p h. values p (omega arith)) (λ p h. small p (omega arith)) steps below)
    (values n (omega arith)) (small n (omega arith)) steps below

-- the machine's combiner of a reduction, at a sign, and the source's
abbrev pub folding : ReduceOp → Bool → Reduction
folding op signed = fold_of (reduce_op_of op) signed

sum_same : (one other : Bool) (a b : ℕ) → fold_once C.Add one a b ≡ fold_once C.Add other a b
unfolding fold_once
sum_same one other a b = sum_by_residues 32 one a b ∙ sym (sum_by_residues 32 other a b)

once_same : (op : ReduceOp) (signed : Bool) (a b : ℕ) → fold_once (combiner_of (folding op signed)).0 (combiner_of (folding op signed)).1 a b ≡ fold_once (Source.combiner_of op) (not signed) a b
unfolding fold_of reduce_op_of Source.combiner_of fold_once
once_same R.Add signed a b = sum_same false (not signed) a b
once_same R.Sub signed a b = sum_same false (not signed) a b
once_same R.And signed a b = refl
once_same R.Or signed a b = refl
once_same R.Xor signed a b = refl
once_same R.Min true a b = refl
once_same R.Min false a b = refl
once_same R.Max true a b = refl
once_same R.Max false a b = refl

identity_same : (op : ReduceOp) (signed : Bool) → identity_of (combiner_of (folding op signed)).0 (combiner_of (folding op signed)).1 ≡ identity_of (Source.combiner_of op) (not signed)
unfolding fold_of reduce_op_of Source.combiner_of identity_of
identity_same R.Add signed = refl
identity_same R.Sub signed = refl
identity_same R.And signed = refl
identity_same R.Or signed = refl
identity_same R.Xor signed = refl
identity_same R.Min true = refl
identity_same R.Min false = refl
identity_same R.Max true = refl
identity_same R.Max false = refl

pub identity_below : (c : Combiner) (unsigned : Bool) → identity_of c unsigned < 2 ^ 32
unfolding identity_of
identity_below C.Add unsigned = omega arith
identity_below C.And unsigned = omega arith
identity_below C.Or unsigned = omega arith
identity_below C.Xor unsigned = omega arith
identity_below C.Min unsigned = residue_below 32 (greatest_of 32 (not unsigned))
identity_below C.Max unsigned = residue_below 32 (least_of 32 (not unsigned))
identity_below C.Last unsigned = omega arith

-- a number of a field of 32 bits is the word that is folded
word_same : (c : Reduction) (m : BitMemory) (f : Field) (p w : ℕ) → f.len ≡ 32 → field_number m f p ≡ w → w < 2 ^ 32 → folded_word c m f p ≡ w
unfolding folded_word whole_number
word_same c m f p w wide is few =
    ap (λ (n : ℕ). residue 32 (number_of n (not (combiner_of c).1) (field_number m f p))) wide ∙ ap (λ (n : ℕ). residue 32 (number_of 32 (not (combiner_of c).1) n)) is
    ∙ residue_of_number 32 (not (combiner_of c).1) w few

-- The fold over a field, where it and the source are active at the same positions, is the source's fold of its
-- numbers there; and it is a word.
pub global_is : (shapes : List SetShape) (m : BitMemory) (op : ReduceOp) (signed : Bool) (f : Field) (active : ℕ → Bool) (h : ℕ → ℕ) → f.len ≡ 32 → ((p : ℕ) → p < processors shapes f.set → is_active shapes m f.set p ≡ active p)
    → ((p : ℕ) → p < processors shapes f.set → active p ≡ true → field_number m f p ≡ h p) → ((p : ℕ) → p < processors shapes f.set → active p ≡ true → h p < 2 ^ 32)
    → (global_fold shapes m (folding op signed) f ≡ folded (Source.combiner_of op) (not signed) active h (processors shapes f.set)) × (folded (Source.combiner_of op) (not signed) active h (processors shapes f.set) < 2 ^ 32)
unfolding global_fold folded
global_is shapes m op signed f active h wide alike are small =
    fold_same _ _ _ _ _ _ _ _ (processors shapes f.set) (identity_same op signed) (identity_below (Source.combiner_of op) (not signed)) alike
    (λ p below on. word_same (folding op signed) m f p (h p) wide (are p below on) (small p below on)) small
    (λ i j low high. once_same op signed i j) (λ i j low high. fold_once_below (Source.combiner_of op) (not signed) i j low high)

-- The same of a field that has the lowest bits of words of a narrow type, as many as these are folded at, with the sign
-- that is put back.
pub narrow_is : (shapes : List SetShape) (m : BitMemory) (op : ReduceOp) (signed : Bool) (kind : Elem) (f : Field) (active : ℕ → Bool) (h : ℕ → ℕ) → kind.bits < 32 → f.len ≡ folded_bits (folding op signed) (Some kind)
    → ((p : ℕ) → p < processors shapes f.set → is_active shapes m f.set p ≡ active p) → ((p : ℕ) → p < processors shapes f.set → active p ≡ true → field_number m f p ≡ h p % 2 ^ folded_bits (folding op signed) (Some kind))
    → ((p : ℕ) → p < processors shapes f.set → active p ≡ true → has_number kind (h p) ≡ true) → ((p : ℕ) → p < processors shapes f.set → active p ≡ true → h p < 2 ^ 32)
    → (put_back (folded_kind (folding op signed) (Some kind)) (global_fold shapes m (folding op signed) f) ≡ folded (Source.combiner_of op) (not signed) active h (processors shapes f.set)) × (folded (Source.combiner_of op) (not signed) active h (processors shapes f.set) < 2 ^ 32)
unfolding global_fold folded folded_word whole_number
narrow_is shapes m op signed kind f active h few long alike are has small = (
  ap (λ (n : ℕ). put_back (folded_kind c (Some kind)) (field_fold c n passes (λ p. field_number m f p) count)) long
      ∙ short_folds c kind passes (λ p. field_number m f p) h count few (λ p below on. has p below (sym (alike p below) ∙ on)) (λ p below on. are p below (sym (alike p below) ∙ on))
      ∙ words.0,
  words.1,
)
  where
    c : Reduction
    c = folding op signed

    passes : ℕ → Bool
    passes p = is_active shapes m f.set p

    count : ℕ
    count = processors shapes f.set

    words : (field_fold c 32 passes h count ≡ folded (Source.combiner_of op) (not signed) active h count) × (folded (Source.combiner_of op) (not signed) active h count < 2 ^ 32)
    words =
        fold_same _ _ _ _ _ _ _ _ count (identity_same op signed) (identity_below (Source.combiner_of op) (not signed)) alike
        (λ p below on. residue_of_number 32 (not (combiner_of c).1) (h p) (small p below on)) small
        (λ i j low high. once_same op signed i j) (λ i j low high. fold_once_below (Source.combiner_of op) (not signed) i j low high)
