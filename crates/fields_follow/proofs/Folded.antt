-- Values that are folded: their code gives their numbers in a field, at the bits that the fold takes, and there the fold
-- is that of the numbers.
use Rattle.std.proofs.Common.{◌≡◌, ℕ, Bool, true, false, length, Option, Some, None, refl, sym, subst, if◌then◌else◌, ◌+◌, ◌<◌, ◌≤◌, inl, inr, arith}
use Rattle.cstar_base.proofs.NumberLaws.{kind_bits}
use Rattle.cstar_base.specs.declared.elem.Elem.{Elem}
use Rattle.cstar_tree.specs.declared.syntax.ReduceOp.{ReduceOp}
use Rattle.cstar_tree.specs.declared.typed.TExpr.{TExpr}
use Rattle.cstar_tree.specs.declared.typed.Variable.{Variable}
use Rattle.cstar_tree.specs.Typed.{type_of}
use Rattle.code_lengths.specs.Ready.{IsReadyButForFields}
use Rattle.lower_base.specs.declared.emit.Out.{Out}
use Rattle.lower_base.specs.declared.emit.Out.TheVariants as O
use Rattle.lower_base.specs.Drafts.{Draft}
use Rattle.lower_base.specs.Kinds.{fold_by, folded_bits, folded_kind, joins_bits, kind_of}
use Rattle.lower_base.specs.Operators.{fold_of, reduce_op_of}
use Rattle.lower_expr.specs.Kinds.{has_number, reduced_bits}
use Rattle.lower_expr.specs.Steps.{is_kept}
use Rattle.lower_expr.specs.Values.{next_of}
use Rattle.paris_code.specs.declared.operands.Field.{Field}
use Rattle.paris_code.specs.declared.operands.Reduction.{Reduction}
use Rattle.paris_code.specs.Code.{CodeState}
use Rattle.paris_code.specs.Operators.{combiner_of}
use Rattle.source_meaning.specs.State.{State}
use Rattle.code_follows.proofs.Following.{Follows, HasRegisters, Sim}
use Rattle.code_follows.proofs.Operators.{wide_signed}
use Rattle.code_follows.proofs.Settings.{Setting, layout}
use Rattle.fields_follow.specs.Fragment.{HasItsKind, IsFolded, IsWide}
use Rattle.fields_follow.proofs.Computing.{whole_after}
use Rattle.fields_follow.proofs.Folds.{folding}
use Rattle.fields_follow.proofs.Forms.{HasItsCode, pure_kept}
use Rattle.fields_follow.proofs.Instructions.{extents}
use Rattle.fields_follow.proofs.Meaning.{value_in}
use Rattle.fields_follow.proofs.KnownKinds.{kind_few}
use Rattle.fields_follow.proofs.NarrowKinds.{kind_has}
use Rattle.fields_follow.proofs.Outcomes.{Given, given_weaker, meant}
use Rattle.fields_follow.proofs.Passing.{GivesField}
use Rattle.fields_follow.proofs.Places.{HoldsTheFields, PlacesFields}
use Rattle.fields_follow.proofs.Reducing.{FoldsWords, narrow_whole, whole_is}
use Rattle.fields_follow.proofs.ScanForms.{scan_kept, scan_kind, scan_shape}
use Rattle.fields_follow.proofs.Scanned.{scan_valued}
use Rattle.fields_follow.proofs.Scanning.{scanned_in}
use Rattle.fields_follow.proofs.ScanOperands.{GivesScan, scan_operand}
use Rattle.fields_follow.proofs.Sizes.{pure_at}
use Rattle.fields_follow.proofs.Starts.{Starts}

-- a fold of values of a kind takes some bits
folded_some : (combiner : Reduction) (o : Option Elem) → 0 < folded_bits combiner o
unfolding folded_bits
folded_some combiner None = omega arith
folded_some combiner (Some kind) = by (joins_bits combiner) (combiner_of combiner).1 kind.signed
  where
    some : 0 < kind.bits
    some = (kind_bits kind.bits kind.signed kind.kind).0

    by : (a b c : Bool) → 0 < (if a then kind.bits else if b then (if c then 32 else kind.bits) else (if c then kind.bits else kind.bits + 1))
    by true b c = some
    by false true true = omega arith
    by false true false = some
    by false false true = some
    by false false false = omega (arith, some)

-- and no more than 32
folded_most : (combiner : Reduction) (o : Option Elem) → ((kind : Elem) → o ≡ Some kind → kind.bits < 32) → folded_bits combiner o ≤ 32
unfolding folded_bits
folded_most combiner None few = omega arith
folded_most combiner (Some kind) few = by (few kind refl) (joins_bits combiner) (combiner_of combiner).1 kind.signed
  where
    by : kind.bits < 32 → (a b c : Bool) → (if a then kind.bits else if b then (if c then 32 else kind.bits) else (if c then kind.bits else kind.bits + 1)) ≤ 32
    by h true b c = omega (arith, h)
    by h false true true = omega arith
    by h false true false = omega (arith, h)
    by h false false true = omega (arith, h)
    by h false false false = omega (arith, h)

-- so many bits of these numbers are given in a field
abbrev pub InField : (g : Setting) (alive : Variable → Type 0) → ℕ → ℕ → (ℕ → ℕ) → Draft → CodeState → State → Out → Draft → Type 0
InField g alive bits set v d s st out x = (f : Field) × ((out ≡ O.Field f) × GivesField g alive bits (length d.fields) d s set st v f x)

module _ (g : Setting) (alive : Variable → Type 0) (places : PlacesFields g) (fields : HoldsTheFields g) where
  -- a value of 32 bits that is folded
  pub record Foldable (op : ReduceOp) (set : ℕ) (e : TExpr) : Type 0 where
    pub kept : is_kept e ≡ false
    pub wide : IsWide set (type_of e)
    pub number : State → ℕ → ℕ
    pub gives : (d : Draft) (s : CodeState) (st : State) → Starts g alive s (length d.code) d.regs (length d.fields) → Sim g alive st s
        → Follows g (Given g (number st) st (InField g alive (reduced_bits op e) set (number st) d s st)) s (meant g fields e st) (next_of g.typed (layout g) (reduced_bits op e) true e d)
    pub folds : (s : CodeState) (st : State) → Sim g alive st s → FoldsWords g alive op (type_of e).elem.signed places fields set (number st) (reduced_bits op e) (folded_kind (folding op (type_of e).elem.signed) (kind_of e))

module _ (g : Setting) (has : HasRegisters g) (alive : Variable → Type 0) (n : ℕ) (ready : (d : Draft) → IsReadyButForFields g.typed g.instance (layout g) n d) (places : PlacesFields g) (fields : HoldsTheFields g) (op : ReduceOp) (set : ℕ) (e : TExpr) (c : HasItsCode g.typed g.instance alive n e) where
  abbrev signed : Bool
  signed = (type_of e).elem.signed

  -- the fold of these numbers at the bits of a kind
  abbrev FoldsAt : (ℕ → ℕ) → Option Elem → Type 0
  FoldsAt v o = FoldsWords g alive op signed places fields set v (folded_bits (folding op signed) o) (folded_kind (folding op signed) o)

  folds_there : (v : ℕ → ℕ) → IsWide set (type_of e) → FoldsAt v (kind_of e) → FoldsWords g alive op signed places fields set v (reduced_bits op e) (folded_kind (folding op signed) (kind_of e))
  folds_there v wide h =
      subst (λ (b : Bool). FoldsWords g alive op signed places fields set v (folded_bits (fold_of (reduce_op_of op) b) (kind_of e)) (folded_kind (folding op signed) (kind_of e))) (sym (wide_signed (type_of e).elem wide.1)) h

  -- of no narrow type it is that of the words
  folds_whole : (v : ℕ → ℕ) → kind_of e ≡ None → FoldsAt v (kind_of e)
  unfolding folded_bits folded_kind
  folds_whole v none = subst (λ (o : Option Elem). FoldsAt v o) (sym none) (whole_is g alive op signed places fields set v)

  pure_folds : HasItsKind set e → IsWide set (type_of e) → (s : CodeState) (st : State) → Sim g alive st s → FoldsAt (λ q. value_in (extents g set) st e q) (kind_of e)
  pure_folds (pure, inl none) wide s st sim = folds_whole _ none
  pure_folds (pure, inr narrowed) wide s st sim = by (kind_of e) refl
    where
      v : ℕ → ℕ
      v = λ q. value_in (extents g set) st e q

      by : (o : Option Elem) → kind_of e ≡ o → FoldsAt v (kind_of e)
      by None none = folds_whole v none
      by (Some kind) some =
          subst (λ (o : Option Elem). FoldsAt v o) (sym some)
          (narrow_whole g alive op signed places fields set v kind (kind_few e kind some)
          (λ q below. subst (λ (w : ℕ). has_number kind w ≡ true) (pure_at g alive n places fields set e st s sim pure wide c q) (kind_has g alive n places fields set e st s sim pure narrowed c q kind some).0))

  pub folds_so : IsFolded set e → Foldable g alive places fields op set e
  folds_so (inl (is, wide)) = record {
    kept = pure_kept set e is.0;
    wide = wide;
    number = λ st q. value_in (extents g set) st e q;
    gives = λ d s st here sim. whole_after g has alive n ready places fields (reduced_bits op e) set e true (folded_some (fold_by (reduce_op_of op) e) (kind_of e)) (folded_most (fold_by (reduce_op_of op) e) (kind_of e) (kind_few e)) is.0 wide c d s st here sim;
    folds = λ s st sim. folds_there _ wide (pure_folds is wide s st sim);
  }
  folds_so (inr scans) = record {
    kept = scan_kept set e scans;
    wide = scan_shape set e scans;
    number = λ st q. scanned_in g alive places fields set st e q;
    gives = λ d s st here sim.
        given_weaker g s (meant g fields e st) (λ q. scanned_in g alive places fields set st e q) st (GivesScan g has alive n ready places fields set (reduced_bits op e) e d s st) (InField g alive (reduced_bits op e) set (λ q. scanned_in g alive places fields set st e q) d s st) (next_of g.typed (layout g) (reduced_bits op e) true e d)
        (λ out x (h, (same, (gives, apart))). (h, (same, gives)))
        (scan_operand g has alive n ready places fields set (reduced_bits op e) true e scans
        (scan_valued g has alive n ready places fields set (reduced_bits op e) e (folded_some (fold_by (reduce_op_of op) e) (kind_of e)) (folded_most (fold_by (reduce_op_of op) e) (kind_of e) (kind_few e)) scans c) d s st here sim);
    folds = λ s st sim. folds_there _ (scan_shape set e scans) (folds_whole _ (scan_kind set e scans));
  }
