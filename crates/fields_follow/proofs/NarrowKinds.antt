-- The narrow type that is known of a parallel value has its words.
use Rattle.std.proofs.Common.{◌≡◌, ◌∙◌, ℕ, ◌<◌, ◌^◌, ◌%◌, ◌==◌, Bool, true, false, not, Option, Some, None, refl, sym, ap, subst, ◌⊎◌, inl, inr, if◌then◌else◌}
use Rattle.std.proofs.lemmas.Nat.{mod_below, pow_pos}
use Rattle.std.proofs.Math.Nat.{mod-eq_of_lt}
use Rattle.cstar_base.specs.declared.elem.Elem.{Elem}
use Rattle.cstar_base.specs.declared.operators.Op.{Op}
use Rattle.cstar_base.specs.Numbers.{converted}
use Rattle.cstar_base.specs.Operators.{outcome}
use Rattle.cstar_tree.specs.declared.typed.TExpr.{TExpr}
use Rattle.cstar_tree.specs.declared.typed.TExpr as T
use Rattle.cstar_tree.specs.declared.typed.ValueType.{ValueType}
use Rattle.cstar_tree.specs.declared.typed.Variable.{Variable}
use Rattle.cstar_tree.specs.declared.typed.Variable.TheVariants as V
use Rattle.cstar_tree.specs.Typed.{type_of}
use Rattle.lower_base.specs.Kinds.{binary_kind, bits_of, common_kind, converted_kind, is_bitwise, kind_of, truth_type}
use Rattle.lower_base.specs.Operators.{relates}
use Rattle.lower_expr.specs.Kinds.{has_number, kind_with, relation_kind}
use Rattle.lower_expr.specs.Steps.{word_of}
use Rattle.paris_code.specs.Code.{CodeState}
use Rattle.paris_code.specs.Memory.{processors}
use Rattle.short_values.proofs.Comparisons.{comparison}
use Rattle.short_values.proofs.NarrowTypes.{is_word, zero_test}
use Rattle.source_meaning.specs.Reductions.{int_type}
use Rattle.source_meaning.specs.State.{State}
use Rattle.source_meaning.specs.Values.{nonzero}
use Rattle.code_follows.proofs.Following.{Sim, held}
use Rattle.code_follows.proofs.Numbers.{held_zero}
use Rattle.code_follows.proofs.Settings.{Setting}
use Rattle.code_follows.proofs.Standing.{some_same}
use Rattle.code_follows.proofs.Words.{below_word, held_wide}
use Rattle.fields_follow.specs.Fragment.{HasItsKind, HasKnownKind, IsNarrowed, IsPromoted, IsPure, IsRelation, IsWide, ReadsSigns, IsRegistered}
use Rattle.fields_follow.proofs.CalmKinds.{promoted_has}
use Rattle.fields_follow.proofs.Forms.{HasItsCode, promoted_kept, pure_kept, pure_word, computed_registered, pure_unregistered}
use Rattle.fields_follow.proofs.Instructions.{extents, shapes}
use Rattle.fields_follow.proofs.JoinedBits.{bitwise_has}
use Rattle.fields_follow.proofs.Meaning.{AreOperands, decided_in, first_in, value_in, word_at, left_of, right_of}
use Rattle.fields_follow.proofs.KnownKinds.{HasWord, bitwise_plain, common_has, convert_has, joined_kind, narrow_has, not_bit, truth_has}
use Rattle.fields_follow.proofs.Places.{HoldsTheFields, PlacesFields}
use Rattle.fields_follow.proofs.Sizes.{choice_parts, binary_parts, brackets_part, cast_code, convert_part, operand_small, pure_at, value_small}
use Rattle.fields_follow.proofs.TestFlags.{is_truth}
use Rattle.fields_follow.proofs.Totals.{held_below}

-- such a value is not promoted
not_promoted : (set : ℕ) (e : TExpr) → IsPromoted set e → IsNarrowed e → ⊥
unfolding IsPromoted IsNarrowed
not_promoted set (T.Promote' ty p operand) is so = so
not_promoted set (T.Brackets' ty p inner) is so = not_promoted set inner is.1 so
not_promoted set _ is so = is

-- of the two sides of a relation one may be a promoted scalar
abbrev pub HaveTheirKinds : ℕ → TExpr → TExpr → Type 0
HaveTheirKinds set left right = (HasItsKind set left × (HasItsKind set right ⊎ IsPromoted set right)) ⊎ (IsPromoted set left × HasItsKind set right)

-- a relation, with the types of its sides
abbrev pub AreRelated : ℕ → Op → TExpr → TExpr → Type 0
AreRelated set op left right = (relates op ≡ true) × HaveTheirKinds set left right × IsWide set (type_of left) × IsWide set (type_of right) × ReadsSigns left right

kind_known : (set : ℕ) (e : TExpr) → IsPure set e → HasKnownKind e ⊎ IsPromoted set e → HasItsKind set e
kind_known set e pure (inl known) = (pure, known)
kind_known set e pure (inr promoted) = let wrong = sym (pure_kept set e pure) ∙ promoted_kept set e promoted in cc

pub are_related : (set : ℕ) (op : Op) (left right : TExpr) → IsRelation set op left right → AreOperands set left right → IsWide set (type_of left) → IsWide set (type_of right) → AreRelated set op left right
are_related set op left right is operands wide other = (is.0, kinds operands, wide, other, is.3)
  where
    kinds : AreOperands set left right → HaveTheirKinds set left right
    kinds (inl (pure, inl also)) = inl (kind_known set left pure is.1, inl (kind_known set right also is.2))
    kinds (inl (pure, inr promoted)) = inl (kind_known set left pure is.1, inr promoted)
    kinds (inr (promoted, pure)) = inr (promoted, kind_known set right pure is.2)

module _ (g : Setting) (alive : Variable → Type 0) (n : ℕ) (places : PlacesFields g) (fields : HoldsTheFields g) where
  -- the word of a value, or of a promoted scalar
  word_has : (set : ℕ) (e : TExpr) (st : State) (s : CodeState) → Sim g alive st s → IsPure set e ⊎ IsPromoted set e → IsNarrowed e ⊎ IsRegistered e → HasItsCode g.typed g.instance alive n e → (q : ℕ)
      → (IsPure set e → IsNarrowed e → (kind : Elem) → kind_of e ≡ Some kind → HasWord kind (word_at (extents g set) st e q)) → (kind : Elem) → kind_of e ≡ Some kind → HasWord kind (word_at (extents g set) st e q)
  word_has set e st s sim (inl pure) (inl narrowed) c q has kind is = has pure narrowed kind is
  word_has set e st s sim (inl pure) (inr registered) c q has kind is = absurd (pure_unregistered set e pure registered)
  word_has set e st s sim (inr promoted) (inl narrowed) c q has kind is = absurd (not_promoted set e promoted narrowed)
  word_has set e st s sim (inr promoted) (inr registered) c q has kind is = promoted_has g alive n set e st s sim promoted registered c q kind is

  -- the number of one of two that are brought together
  part_has : (set : ℕ) (e : TExpr) (st : State) (s : CodeState) → Sim g alive st s → IsPure set e ⊎ IsPromoted set e → IsNarrowed e ⊎ IsRegistered e → IsWide set (type_of e) → HasItsCode g.typed g.instance alive n e → (q : ℕ)
      → (IsPure set e → IsNarrowed e → (kind : Elem) → kind_of e ≡ Some kind → HasWord kind (word_at (extents g set) st e q)) → (kind : Elem) → kind_of e ≡ Some kind → HasWord kind (value_in (extents g set) st e q)
  part_has set e st s sim operand so wide c q has kind is =
      subst (λ (x : ℕ). HasWord kind x) (held_wide (type_of e).elem (value_in (extents g set) st e q) wide.1 (below_word (type_of e).elem.bits _ wide.1 (operand_small g alive n places fields set e st s sim operand c q))) (word_has set e st s sim operand so c q has kind is)

  -- that of one that is converted
  converts_has : (set : ℕ) (ty : ValueType) (operand : TExpr) (st : State) (s : CodeState) → Sim g alive st s → IsPure set operand ⊎ IsPromoted set operand → HasKnownKind operand ⊎ IsRegistered operand → HasItsCode g.typed g.instance alive n operand → (q : ℕ)
      → (IsPure set operand → IsNarrowed operand → (k : Elem) → kind_of operand ≡ Some k → HasWord k (word_at (extents g set) st operand q)) → (kind : Elem) → converted_kind ty.elem (kind_of operand) ≡ Some kind → HasWord kind (held ty.elem (converted ty.elem (type_of operand).elem (value_in (extents g set) st operand q)))
  converts_has set ty operand st s sim is so c q before kind is_kind =
      convert_has ty.elem (type_of operand).elem (kind_of operand) (value_in (extents g set) st operand q) (operand_small g alive n places fields set operand st s sim is c q) (by so) kind is_kind
    where
      by : HasKnownKind operand ⊎ IsRegistered operand → (k : Elem) → kind_of operand ≡ Some k → HasWord k (word_at (extents g set) st operand q)
      by (inl (inl none)) k some = let wrong = sym none ∙ some in cc
      by (inl (inr narrowed)) k some = word_has set operand st s sim is (inl narrowed) c q before k some
      by (inr registered) k some = word_has set operand st s sim is (inr registered) c q before k some

  pub kind_has : (set : ℕ) (e : TExpr) (st : State) (s : CodeState) → Sim g alive st s → IsPure set e → IsNarrowed e → HasItsCode g.typed g.instance alive n e → (q : ℕ) → (kind : Elem) → kind_of e ≡ Some kind → HasWord kind (word_at (extents g set) st e q)
  unfolding IsPure IsNarrowed kind_of value_in binary_kind
  kind_has set (T.Variable ty (V.File k)) st s sim is so c q kind is_kind = narrow_has ty.elem kind _ (value_small g alive n places fields set (T.Variable ty (V.File k)) st s sim is c q) is_kind
  kind_has set (T.Variable ty (V.Local k)) st s sim is so c q kind is_kind = narrow_has ty.elem kind _ (value_small g alive n places fields set (T.Variable ty (V.Local k)) st s sim is c q) is_kind
  kind_has set (T.LeftIndex' ty place p indexes x of) st s sim is so c q kind is_kind =
      narrow_has ty.elem kind _ (value_small g alive n places fields set (T.LeftIndex' ty place p indexes x of) st s sim is c q) is_kind
  kind_has set (T.Brackets' ty p inner) st s sim is so c q kind is_kind =
      subst (λ (y : ValueType). HasWord kind (held y.elem (value_in (extents g set) st inner q))) (sym is.0) (kind_has set inner st s sim is.1 so (brackets_part g alive n places fields ty p inner c) q kind is_kind)
  kind_has set (T.Convert' ty p operand) st s sim is so c q kind is_kind =
      let part = convert_part g alive n places fields ty p operand c in
      converts_has set ty operand st s sim (inl is.2) (inl so) part q (λ pure narrowed k is_k. kind_has set operand st s sim pure narrowed part q k is_k) kind is_kind
  kind_has set (T.ParallelCast' ty p operand) st s sim is so c q kind is_kind =
      let part = convert_part g alive n places fields ty p operand (cast_code g alive n places fields set ty p operand is.0 is.2 c) in
      converts_has set ty operand st s sim is.2 so part q (λ pure narrowed k is_k. kind_has set operand st s sim pure narrowed part q k is_k) kind is_kind
  kind_has set (T.Unary' ty op p operand) st s sim is so c q kind is_kind =
      truth_has ty.elem kind _ (value_in (extents g set) st operand q == 0) (not_bit op (value_in (extents g set) st operand q) so) is.0.1 (sym (ap (λ (b : Bool). if b then Some truth_type else None) so) ∙ is_kind)
  kind_has set (T.LogicalOr' ty p left r right) st s sim is so c q kind is_kind = truth_has ty.elem kind _ _ refl is.0.1 is_kind
  kind_has set (T.LogicalAnd' ty p left r right) st s sim is so c q kind is_kind = truth_has ty.elem kind _ _ refl is.0.1 is_kind
  kind_has set (T.Binary' ty place op p left r right) st s sim is so c q kind is_kind = either so (λ pure narrowed k is_k. kind_has set left st s sim pure narrowed parts.0 q k is_k) (λ pure narrowed k is_k. kind_has set right st s sim pure narrowed parts.1 q k is_k)
    where
      v : ℕ
      v = value_in (extents g set) st left q

      w : ℕ
      w = value_in (extents g set) st right q

      parts : HasItsCode g.typed g.instance alive n left × HasItsCode g.typed g.instance alive n right
      parts = binary_parts g alive n places fields ty place op p r left right c

      Before : TExpr → Type 0
      Before e = IsPure set e → IsNarrowed e → (k : Elem) → kind_of e ≡ Some k → HasWord k (word_at (extents g set) st e q)

      either : (relates op ≡ true) ⊎ ((is_bitwise op ≡ true) × (IsNarrowed left ⊎ IsRegistered left) × (IsNarrowed right ⊎ IsRegistered right)) → Before left → Before right → HasWord kind (held ty.elem (outcome op 32 (not (type_of left).elem.signed) v w))
      either (inl related) one other =
          truth_has ty.elem kind _ (nonzero (outcome op 32 (not (type_of left).elem.signed) v w)) (is_truth op 32 (not (type_of left).elem.signed) v w related) is.0.1
          (sym (ap (λ (b : Bool). if b then Some truth_type else if is_bitwise op then common_kind (kind_of left) (kind_of right) else None) related) ∙ is_kind)
      either (inr joined) one other =
          let both : HasWord kind v × HasWord kind w =
          common_has (kind_of left) (kind_of right) kind v w (joined_kind op (kind_of left) (kind_of right) kind (bitwise_plain op joined.0) joined.0 is_kind) (part_has set left st s sim (left_of set left right is.2) joined.1 is.3 parts.0 q one)
          (part_has set right st s sim (right_of set left right is.2) joined.2 is.4 parts.1 q other) in
          subst (λ (x : ℕ). HasWord kind x) (sym (pure_at g alive n places fields set (T.Binary' ty place op p left r right) st s sim is is.0 c q))
          (bitwise_has op kind (not (type_of left).elem.signed) v w joined.0 both.0.1 both.0.0 both.1.0, both.0.1)
  kind_has set (T.Choice' ty p test b first r second) st s sim is so c q kind is_kind =
      let parts = choice_parts g alive n places fields ty p b r test first second c in
      let v : ℕ = value_in (extents g set) st first q in
      let w : ℕ = value_in (extents g set) st second q in
      let both : HasWord kind v × HasWord kind w =
      common_has (kind_of first) (kind_of second) kind v w is_kind (part_has set first st s sim is.2 so.0 is.4 parts.1 q (λ pure narrowed k is_k. kind_has set first st s sim pure narrowed parts.1 q k is_k))
      (part_has set second st s sim is.3 so.1 is.5 parts.2 q (λ pure narrowed k is_k. kind_has set second st s sim pure narrowed parts.2 q k is_k)) in
      subst (λ (x : ℕ). HasWord kind x) (sym (pure_at g alive n places fields set (T.Choice' ty p test b first r second) st s sim is is.0 c q)) (chosen (nonzero (first_in (type_of test).shape (decided_in st test) (value_in (extents g set) st test q))) v w both)
    where
      chosen : (b : Bool) (v w : ℕ) → HasWord kind v × HasWord kind w → HasWord kind (if b then v else w)
      chosen true v w both = both.0
      chosen false v w both = both.1
  kind_has set (T.Variable ty x) st s sim is so c q kind is_kind = absurd is
  kind_has set _ st s sim is so c q kind is_kind = absurd so

  -- it is 0 where its lowest bits of that type are
  pub zero_told : (set : ℕ) (e : TExpr) (st : State) (s : CodeState) → Sim g alive st s → IsPure set e ⊎ IsPromoted set e → HasKnownKind e ⊎ IsRegistered e → HasItsCode g.typed g.instance alive n e → (q : ℕ)
      → (word_at (extents g set) st e q % 2 ^ bits_of (kind_of e) == 0) ≡ (value_in (extents g set) st e q == 0)
  unfolding bits_of
  zero_told set e st s sim operand so c q = by (kind_of e) refl so ∙ held_zero (type_of e).elem (value_in (extents g set) st e q) (operand_small g alive n places fields set e st s sim operand c q)
    where
      w : ℕ
      w = word_at (extents g set) st e q

      narrow_zero : (kind : Elem) → kind_of e ≡ Some kind → IsNarrowed e ⊎ IsRegistered e → (w % 2 ^ bits_of (kind_of e) == 0) ≡ (w == 0)
      narrow_zero kind some narrow =
          ap (λ (o : Option Elem). w % 2 ^ bits_of o == 0) some
          ∙ zero_test kind (w % 2 ^ kind.bits) w (word_has set e st s sim operand narrow c q (λ pure narrowed k is_k. kind_has set e st s sim pure narrowed c q k is_k) kind some).0 refl

      by : (o : Option Elem) → kind_of e ≡ o → HasKnownKind e ⊎ IsRegistered e → (w % 2 ^ bits_of (kind_of e) == 0) ≡ (w == 0)
      by None none any = ap (λ (o : Option Elem). w % 2 ^ bits_of o == 0) none ∙ ap (λ (m : ℕ). m == 0) (mod-eq_of_lt (held_below (type_of e).elem (value_in (extents g set) st e q)))
      by (Some kind) some (inl (inl none)) = let wrong = sym none ∙ some in cc
      by (Some kind) some (inl (inr narrowed)) = narrow_zero kind some (inl narrowed)
      by (Some kind) some (inr registered) = narrow_zero kind some (inr registered)

  -- ---- the two sides of a relation

  -- a side that has no word of its own
  side_has : (set : ℕ) (e : TExpr) (st : State) (s : CodeState) → Sim g alive st s → HasItsKind set e ⊎ IsPromoted set e → (type_of e).elem.bits ≡ 32 → HasItsCode g.typed g.instance alive n e → word_of e ≡ None → (q : ℕ) → q < processors (shapes g) set → (kind : Elem) → kind_of e ≡ Some kind
      → HasWord kind (word_at (extents g set) st e q)
  side_has set e st s sim (inl (pure, inl none)) wide c no_word q below kind is = let wrong = sym none ∙ is in cc
  side_has set e st s sim (inl (pure, inr narrowed)) wide c no_word q below kind is = kind_has set e st s sim pure narrowed c q kind is
  side_has set e st s sim (inr promoted) wide c no_word q below kind is = promoted_has g alive n set e st s sim promoted (computed_registered set e promoted no_word) c q kind is

  kind_given : (o : Option Elem) (word : ℕ) (kind : Elem) → kind_with o word ≡ Some kind → (o ≡ Some kind) × (has_number kind word ≡ true)
  unfolding kind_with
  kind_given None word kind is = cc
  kind_given (Some k) word kind is = by (has_number k word) refl is
    where
      by : (b : Bool) → has_number k word ≡ b → (if has_number k word then Some k else None) ≡ Some kind → (Some k ≡ Some kind) × (has_number kind word ≡ true)
      by true it_has h = let same : Some k ≡ Some kind = ap (λ (b : Bool). if b then Some k else None) (sym it_has) ∙ h in (same, subst (λ (e : Elem). has_number e word ≡ true) (some_same k kind same) it_has)
      by false other h = let wrong = ap (λ (b : Bool). if b then Some k else None) (sym other) ∙ h in cc

  left_side : (set : ℕ) (left right : TExpr) → HaveTheirKinds set left right → HasItsKind set left ⊎ IsPromoted set left
  left_side set left right (inl h) = inl h.0
  left_side set left right (inr h) = inr h.0

  right_side : (set : ℕ) (left right : TExpr) → HaveTheirKinds set left right → HasItsKind set right ⊎ IsPromoted set right
  right_side set left right (inl h) = h.1
  right_side set left right (inr h) = inl h.1

  kinded_word : (set : ℕ) (e : TExpr) (word : ℕ) → HasItsKind set e → word_of e ≡ Some word → ⊥
  kinded_word set e word is some = let wrong = sym (pure_word set e is.0) ∙ some in cc

  -- both sides have words of the narrow type of the relation
  pub relation_has : (set : ℕ) (left right : TExpr) (st : State) (s : CodeState) → Sim g alive st s → HaveTheirKinds set left right → (type_of left).elem.bits ≡ 32 → (type_of right).elem.bits ≡ 32 → HasItsCode g.typed g.instance alive n left → HasItsCode g.typed g.instance alive n right
      → ((word : ℕ) → word_of left ≡ Some word → (q : ℕ) → word_at (extents g set) st left q ≡ word) → ((word : ℕ) → word_of right ≡ Some word → (q : ℕ) → word_at (extents g set) st right q ≡ word) → (q : ℕ) → q < processors (shapes g) set → (kind : Elem)
      → relation_kind left right ≡ Some kind → HasWord kind (word_at (extents g set) st left q) × HasWord kind (word_at (extents g set) st right q)
  unfolding relation_kind
  relation_has set left right st s sim are wide_left wide_right c_left c_right left_word right_word q below kind is = by (word_of right) (word_of left) refl refl
    where
      v : ℕ
      v = word_at (extents g set) st left q

      w : ℕ
      w = word_at (extents g set) st right q

      known : Option ℕ → Option ℕ → Option Elem
      known r l = elim r as (λ _. Option Elem) [ Some word ↦ kind_with (kind_of left) word | None ↦ elim l as (λ _. Option Elem) [ Some word ↦ kind_with (kind_of right) word | None ↦ common_kind (kind_of left) (kind_of right) ] ]

      at : (r l : Option ℕ) → word_of right ≡ r → word_of left ≡ l → known r l ≡ Some kind
      at r l is_r is_l = ap (known r) (sym is_l) ∙ ap (λ (o : Option ℕ). known o (word_of left)) (sym is_r) ∙ is

      with_right : (word : ℕ) → word_of right ≡ Some word → kind_with (kind_of left) word ≡ Some kind → HaveTheirKinds set left right → HasWord kind v × HasWord kind w
      with_right word some given (inl (one, inl other)) = absurd (kinded_word set right word other some)
      with_right word some given (inr (one, other)) = absurd (kinded_word set right word other some)
      with_right word some given (inl (one, inr other)) =
          let k = kind_given (kind_of left) word kind given in
          let has = side_has set left st s sim (inl one) wide_left c_left (pure_word set left one.0) q below kind k.0 in
          (has, (subst (λ (x : ℕ). has_number kind x ≡ true) (sym (right_word word some q)) k.1, has.1))

      with_left : (word : ℕ) → word_of left ≡ Some word → kind_with (kind_of right) word ≡ Some kind → HaveTheirKinds set left right → HasWord kind v × HasWord kind w
      with_left word some given (inl (one, any)) = absurd (kinded_word set left word one some)
      with_left word some given (inr (one, other)) =
          let k = kind_given (kind_of right) word kind given in
          let has = side_has set right st s sim (inl other) wide_right c_right (pure_word set right other.0) q below kind k.0 in
          ((subst (λ (x : ℕ). has_number kind x ≡ true) (sym (left_word word some q)) k.1, has.1), has)

      by : (r l : Option ℕ) → word_of right ≡ r → word_of left ≡ l → HasWord kind v × HasWord kind w
      by (Some word) l is_r is_l = with_right word is_r (at (Some word) l is_r is_l) are
      by None (Some word) is_r is_l = with_left word is_l (at None (Some word) is_r is_l) are
      by None None is_r is_l =
          common_has (kind_of left) (kind_of right) kind v w (at None None is_r is_l) (λ k is_k. side_has set left st s sim (left_side set left right are) wide_left c_left is_l q below k is_k)
          (λ k is_k. side_has set right st s sim (right_side set left right are) wide_right c_right is_r q below k is_k)

-- numbers of a narrow type compare as the words do
pub narrow_compares : (op : Op) (kind : Elem) (unsigned : Bool) (v w : ℕ) → relates op ≡ true → (kind.signed ≡ true → unsigned ≡ false) → HasWord kind v → HasWord kind w
    → outcome op kind.bits (not kind.signed) (v % 2 ^ kind.bits) (w % 2 ^ kind.bits) ≡ outcome op 32 unsigned v w
narrow_compares op kind unsigned v w related signs one other =
    comparison op kind unsigned (v % 2 ^ kind.bits) (w % 2 ^ kind.bits) related one.1 signs (mod_below v (2 ^ kind.bits) (pow_pos kind.bits)) (mod_below w (2 ^ kind.bits) (pow_pos kind.bits))
    ∙ ap (λ (m : ℕ). outcome op 32 unsigned m (converted int_type kind (w % 2 ^ kind.bits))) (is_word kind (v % 2 ^ kind.bits) v one.0 refl)
    ∙ ap (λ (m : ℕ). outcome op 32 unsigned v m) (is_word kind (w % 2 ^ kind.bits) w other.0 refl)
