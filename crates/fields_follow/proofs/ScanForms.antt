-- What the lowering sees of values with scans in them, and the numbers of their operands.
use Rattle.std.proofs.Common.{◌≡◌, ◌∙◌, ℕ, ◌==◌, ◌&&◌, not, Bool, true, false, Option, None, Some, refl, ap, ◌⊎◌, inl, inr, if◌then◌else◌}
use Rattle.std.specs.Prelude.{is_none}
use Rattle.cstar_base.specs.declared.elem.Elem.{Elem}
use Rattle.cstar_base.specs.Numbers.{converted}
use Rattle.cstar_base.specs.Operators.{outcome}
use Rattle.cstar_tree.specs.declared.typed.TExpr.{TExpr}
use Rattle.cstar_tree.specs.declared.typed.TExpr as T
use Rattle.cstar_tree.specs.declared.typed.ValueType.{ValueType}
use Rattle.cstar_tree.specs.declared.typed.Variable.{Variable}
use Rattle.cstar_tree.specs.declared.typed.Variable.TheVariants as V
use Rattle.cstar_tree.specs.Typed.{type_of}
use Rattle.lower_base.specs.Kinds.{binary_kind, common_kind, converted_kind, is_bitwise, kind_of, narrow, truth_type}
use Rattle.lower_expr.specs.Kinds.{is_unchanged}
use Rattle.lower_expr.specs.Operands.{own_of}
use Rattle.lower_expr.specs.Steps.{is_kept, word_of}
use Rattle.source_meaning.specs.Constants.{is_constant}
use Rattle.source_meaning.specs.State.{State}
use Rattle.source_meaning.specs.Values.{unary_of}
use Rattle.code_follows.proofs.Settings.{Setting}
use Rattle.fields_follow.specs.Fragment.{IsOperand, IsPromoted, IsPure, IsScan, IsScanned}
use Rattle.fields_follow.proofs.Instructions.{extents}
use Rattle.fields_follow.proofs.Meaning.{either, left_of, right_of, value_in}
use Rattle.fields_follow.proofs.Places.{HoldsTheFields, PlacesFields}
use Rattle.fields_follow.proofs.Scanning.{scanned_in}

-- it has a shape, and 32 bits
pub scan_shape : (set : ℕ) (e : TExpr) → IsScan set e → ((type_of e).shape ≡ Some set) × ((type_of e).elem.bits ≡ 32)
unfolding IsScan
scan_shape set (T.Brackets' ty p inner) is = let h = scan_shape set inner is.1 in (ap (λ (y : ValueType). y.shape) is.0 ∙ h.0, ap (λ (y : ValueType). y.elem.bits) is.0 ∙ h.1)
scan_shape set (T.Scan' ty p source axis combiner direction mode bit way) is = (ap (λ (y : ValueType). y.shape) is.0 ∙ is.2.0, ap (λ (y : ValueType). y.elem.bits) is.0 ∙ is.2.1)
scan_shape set (T.Enumerate ty axis direction way mode bit) is = is.0
scan_shape set (T.Convert' ty p operand) is = is.0
scan_shape set (T.Unary' ty op p operand) is = is.0
scan_shape set (T.Binary' ty place op p left q right) is = is.0
scan_shape set _ is = absurd is

-- it is no constant
pub scan_constant : (set : ℕ) (e : TExpr) → IsScan set e → is_constant e ≡ false
unfolding IsScan is_constant
scan_constant set (T.Brackets' ty p inner) is = ap (λ (o : Option ℕ). is_none o && ty.elem.bits == (type_of inner).elem.bits && is_constant inner) (ap (λ (y : ValueType). y.shape) is.0 ∙ (scan_shape set inner is.1).0)
scan_constant set (T.Scan' ty p source axis combiner direction mode bit way) is = refl
scan_constant set (T.Enumerate ty axis direction way mode bit) is = refl
scan_constant set (T.Convert' ty p operand) is = ap (λ (o : Option ℕ). is_none o && is_constant operand) is.0.0
scan_constant set (T.Unary' ty op p operand) is = ap (λ (o : Option ℕ). is_none o && ty.elem.bits == 32 && is_constant operand) is.0.0
scan_constant set (T.Binary' ty place op p left q right) is = ap (λ (o : Option ℕ). is_none o && ty.elem.bits == 32 && is_constant left && is_constant right) is.0.0
scan_constant set _ is = absurd is

-- it stands in no variable's field, and has no word
pub scan_own : (bits set : ℕ) (e : TExpr) → IsScan set e → own_of bits e ≡ None
unfolding IsScan own_of
scan_own bits set (T.Brackets' ty p inner) is = scan_own bits set inner is.1
scan_own bits set (T.Scan' ty p source axis combiner direction mode bit way) is = refl
scan_own bits set (T.Enumerate ty axis direction way mode bit) is = refl
scan_own bits set (T.Convert' ty p operand) is = by (is_unchanged bits ty.elem (is_kept operand)) (scan_own bits set operand is.1)
  where
    by : (b : Bool) → own_of bits operand ≡ None → (if b then own_of bits operand else None) ≡ None
    by true none = none
    by false none = refl
scan_own bits set (T.Unary' ty op p operand) is = refl
scan_own bits set (T.Binary' ty place op p left q right) is = refl
scan_own bits set _ is = absurd is

pub scanned_word : (set bits : ℕ) (e : TExpr) → IsScanned set bits e → word_of e ≡ None
unfolding IsScan IsScanned word_of
scanned_word set bits (T.Brackets' ty p inner) is = scanned_word set bits inner is.1
scanned_word set bits (T.Convert' ty p operand) is = refl
scanned_word set bits (T.Scan' ty p source axis combiner direction mode bit way) is = refl
scanned_word set bits (T.Enumerate ty axis direction way mode bit) is = refl
scanned_word set bits (T.Unary' ty op p operand) is = refl
scanned_word set bits (T.Binary' ty place op p left q right) is = refl
scanned_word set bits _ is = absurd is

pub scan_word : (set : ℕ) (e : TExpr) → IsScan set e → word_of e ≡ None
unfolding IsScan word_of
scan_word set (T.Brackets' ty p inner) is = scan_word set inner is.1
scan_word set (T.Scan' ty p source axis combiner direction mode bit way) is = refl
scan_word set (T.Enumerate ty axis direction way mode bit) is = refl
scan_word set (T.Convert' ty p operand) is = refl
scan_word set (T.Unary' ty op p operand) is = refl
scan_word set (T.Binary' ty place op p left q right) is = refl
scan_word set _ is = absurd is

-- it is in no register
pub scan_kept : (set : ℕ) (e : TExpr) → IsScan set e → is_kept e ≡ false
unfolding IsScan is_kept
scan_kept set (T.Brackets' ty p inner) is = scan_kept set inner is.1
scan_kept set (T.Scan' ty p source axis combiner direction mode bit way) is = ap (λ (o : Option ℕ). is_none o) (ap (λ (y : ValueType). y.shape) is.0 ∙ is.2.0)
scan_kept set (T.Enumerate ty axis direction way mode bit) is = ap (λ (o : Option ℕ). is_none o) is.0.0
scan_kept set (T.Convert' ty p operand) is = scan_kept set operand is.1
scan_kept set (T.Unary' ty op p operand) is = ap (λ (o : Option ℕ). is_none o) is.0.0
scan_kept set (T.Binary' ty place op p left q right) is = ap (λ (o : Option ℕ). is_none o) is.0.0
scan_kept set _ is = absurd is

-- no narrow type is known of it
pub common_none : (a : Option Elem) → common_kind a None ≡ None
unfolding common_kind
common_none None = refl
common_none (Some kind) = refl

pub none_common : (b : Option Elem) → common_kind None b ≡ None
unfolding common_kind
none_common None = refl
none_common (Some kind) = refl

pub scan_kind : (set : ℕ) (e : TExpr) → IsScan set e → kind_of e ≡ None
unfolding IsScan kind_of converted_kind narrow binary_kind
scan_kind set (T.Brackets' ty p inner) is = scan_kind set inner is.1
scan_kind set (T.Scan' ty p source axis combiner direction mode bit way) is = refl
scan_kind set (T.Enumerate ty axis direction way mode bit) is = refl
scan_kind set (T.Convert' ty p operand) is = ap (λ (o : Option Elem). converted_kind ty.elem o) (scan_kind set operand is.1) ∙ ap (λ (bits : ℕ). if bits == 32 then None else Some ty.elem) is.0.1
scan_kind set (T.Unary' ty op p operand) is = ap (λ (b : Bool). if b then Some truth_type else None) is.1
scan_kind set (T.Binary' ty place op p left q right) is =
    ap (λ (b : Bool). if b then Some truth_type else if is_bitwise op then common_kind (kind_of left) (kind_of right) else None) is.1.0 ∙ by (is_bitwise op) (sides is.2 (λ h. scan_kind set left h) (λ h. scan_kind set right h))
  where
    sides : (IsScan set left × (IsScan set right ⊎ IsOperand set right)) ⊎ (IsOperand set left × IsScan set right) → (IsScan set left → kind_of left ≡ None) → (IsScan set right → kind_of right ≡ None) → common_kind (kind_of left) (kind_of right) ≡ None
    sides (inl (one, any)) f h = ap (λ (o : Option Elem). common_kind o (kind_of right)) (f one) ∙ none_common (kind_of right)
    sides (inr (any, other)) f h = ap (λ (o : Option Elem). common_kind (kind_of left) o) (h other) ∙ common_none (kind_of left)

    by : (b : Bool) → common_kind (kind_of left) (kind_of right) ≡ None → (if b then common_kind (kind_of left) (kind_of right) else None) ≡ None
    by true none = none
    by false none = refl
scan_kind set _ is = absurd is

module _ (g : Setting) (alive : Variable → Type 0) (places : PlacesFields g) (fields : HoldsTheFields g) (set : ℕ) where
  -- an operand has its own numbers
  promoted_number : (e : TExpr) (st : State) (q : ℕ) → IsPromoted set e → scanned_in g alive places fields set st e q ≡ value_in (extents g set) st e q
  unfolding IsPromoted scanned_in value_in
  promoted_number (T.Promote' ty p operand) st q is = refl
  promoted_number (T.Brackets' ty p inner) st q is = promoted_number inner st q is.1
  promoted_number _ st q is = absurd is

  pure_number : (e : TExpr) (st : State) (q : ℕ) → IsPure set e → scanned_in g alive places fields set st e q ≡ value_in (extents g set) st e q
  unfolding IsPure scanned_in value_in
  pure_number (T.Brackets' ty p inner) st q is = pure_number inner st q is.1
  pure_number (T.Binary' ty place op p left r right) st q is =
      ap (λ (a : ℕ). outcome op 32 (not (type_of left).elem.signed) a (scanned_in g alive places fields set st right q)) (either (λ h. pure_number left st q h) (λ h. promoted_number left st q h) (left_of set left right is.2))
      ∙ ap (λ (b : ℕ). outcome op 32 (not (type_of left).elem.signed) (value_in (extents g set) st left q) b) (either (λ h. pure_number right st q h) (λ h. promoted_number right st q h) (right_of set left right is.2))
  pure_number (T.Convert' ty p operand) st q is = ap (λ (w : ℕ). converted ty.elem (type_of operand).elem w) (pure_number operand st q is.2)
  pure_number (T.Variable ty (V.File k)) st q is = refl
  pure_number (T.Variable ty (V.Local k)) st q is = refl
  pure_number (T.Unary' ty op p operand) st q is = ap (λ (w : ℕ). unary_of op w) (pure_number operand st q is.2)
  pure_number (T.LogicalOr' ty p left r right) st q is = refl
  pure_number (T.LogicalAnd' ty p left r right) st q is = refl
  pure_number (T.Choice' ty p test r first s second) st q is = refl
  pure_number (T.ParallelCast' ty p operand) st q is = refl
  pure_number (T.Pcoord ty axis) st q is = refl
  pure_number (T.Dot ty axis) st q is = refl
  pure_number (T.LeftIndex' ty place p indexes x of) st q is = refl
  pure_number _ st q is = absurd is

  pub operand_number : (e : TExpr) (st : State) (q : ℕ) → IsOperand set e → scanned_in g alive places fields set st e q ≡ value_in (extents g set) st e q
  operand_number e st q (inl pure) = pure_number e st q pure
  operand_number e st q (inr promoted) = promoted_number e st q promoted
