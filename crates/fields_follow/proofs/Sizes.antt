-- The numbers of parallel values are numbers of their types.
use Rattle.std.proofs.Common.{◌≡◌, ◌∙◌, ℕ, Bool, if◌then◌else◌, ◌<◌, ◌^◌, true, false, not, Option, Some, None, ◌⊎◌, inl, inr, refl, sym, ap, subst}
use Rattle.std.specs.Prelude.{is_none}
use Rattle.cstar_base.specs.declared.elem.Elem.{Elem}
use Rattle.cstar_base.specs.declared.operators.Op.{Op}
use Rattle.cstar_base.specs.declared.operators.Place.{Place}
use Rattle.cstar_tree.specs.declared.typed.TExpr.{TExpr}
use Rattle.cstar_tree.specs.declared.typed.TExpr as T
use Rattle.cstar_tree.specs.declared.typed.UnaryOp.{UnaryOp}
use Rattle.cstar_tree.specs.declared.typed.UnaryOp.TheVariants as U
use Rattle.cstar_tree.specs.declared.typed.ValueType.{ValueType}
use Rattle.cstar_tree.specs.declared.typed.Variable.{Variable}
use Rattle.cstar_tree.specs.declared.typed.Variable.TheVariants as V
use Rattle.cstar_tree.specs.Conversions.{parallel}
use Rattle.cstar_tree.specs.StatementTypes.{variable_info}
use Rattle.cstar_tree.specs.Typed.{type_of}
use Rattle.code_lengths.specs.Lowerable.{IsLowerable}
use Rattle.code_lengths.specs.Naming.{HasVariable, NamesVariables, plain}
use Rattle.code_lengths.specs.Shaped.{IsShaped}
use Rattle.constant_trees.proofs.Words.{converted_below, from_bool_below, unary_below}
use Rattle.cstar_base.specs.Operators.{outcome}
use Rattle.lower_base.specs.Operators.{negates}
use Rattle.paris_code.specs.Code.{CodeState}
use Rattle.source_meaning.specs.State as Source
use Rattle.source_meaning.specs.State.{State, Outcome}
use Rattle.source_meaning.proofs.ConstantLaws.{Boxed}
use Rattle.code_follows.specs.Fragment.{NamesAmong}
use Rattle.code_follows.proofs.Following.{Sim}
use Rattle.code_follows.proofs.Settings.{Setting}
use Rattle.code_follows.proofs.Words.{below_bits, below_word, held_wide}
use Rattle.fields_follow.specs.Fragment.{HasKnownKind, IsCalm, IsConstant, IsOfFileOrBlock, IsOperation, IsPromoted, IsPure, IsRelation, IsWide}
use Rattle.fields_follow.proofs.Forms.{HasItsCode, operand_shape}
use Rattle.fields_follow.proofs.Instructions.{extents, operation_below}
use Rattle.fields_follow.proofs.Meaning.{computed_in, decided_in, first_in, nobody, nowhere, scalar_in, value_in, word_at, given_in}
use Rattle.fields_follow.proofs.Places.{HoldsTheFields, PlacesFields}
use Rattle.fields_follow.proofs.Variables.{variable_fits}
use Rattle.std.proofs.lemmas.Nat.{pow_pos}
use Rattle.fields_follow.proofs.Calm.{IsCalmly, calm_gives}
use Rattle.source_meaning.specs.Constants.{constant_of}
use Rattle.source_meaning.specs.Expressions.{evaluated}
use Rattle.source_meaning.specs.Values.{Value, at, nonzero, unary_of}
use Rattle.fields_follow.proofs.TestFlags.{is_truth}

-- what is given is a number of the type
number_small : (bits : ℕ) (st : State) (o : Outcome Value) (q : ℕ) → IsCalmly bits st o → at (given_in o) q < 2 ^ bits
unfolding IsCalmly given_in at
number_small bits st (Source.Gives v u) q h = subst (λ (x : Value). at x q < 2 ^ bits) (sym h.0) h.1
number_small bits st (Source.Ends early u) q h = pow_pos bits

module _ (g : Setting) (alive : Variable → Type 0) (n : ℕ) (places : PlacesFields g) (fields : HoldsTheFields g) where
  -- what has code of its parts
  pub binary_parts : (ty : ValueType) (place : Place) (op : Op) (p q : Boxed) (left right : TExpr) → HasItsCode g.typed g.instance alive n (T.Binary' ty place op p left q right) → HasItsCode g.typed g.instance alive n left × HasItsCode g.typed g.instance alive n right
  unfolding IsShaped IsLowerable NamesVariables NamesAmong
  binary_parts ty place op p q left right h = (record { code = record { shaped = h.code.shaped.0; lowerable = h.code.lowerable.2; names = h.code.names.0 }; among = h.among.0 }, record { code = record { shaped = h.code.shaped.1; lowerable = h.code.lowerable.3; names = h.code.names.1 }; among = h.among.1 })

  pub unary_part : (ty : ValueType) (op : UnaryOp) (p : Boxed) (inner : TExpr) → HasItsCode g.typed g.instance alive n (T.Unary' ty op p inner) → HasItsCode g.typed g.instance alive n inner
  unfolding IsShaped IsLowerable NamesVariables NamesAmong
  unary_part ty op p inner h = record { code = record { shaped = h.code.shaped.1; lowerable = h.code.lowerable.1; names = h.code.names }; among = h.among }

  pub brackets_part : (ty : ValueType) (p : Boxed) (inner : TExpr) → HasItsCode g.typed g.instance alive n (T.Brackets' ty p inner) → HasItsCode g.typed g.instance alive n inner
  unfolding IsShaped IsLowerable NamesVariables NamesAmong
  brackets_part ty p inner h = record { code = record { shaped = h.code.shaped.1; lowerable = h.code.lowerable; names = h.code.names }; among = h.among }

  pub convert_part : (ty : ValueType) (p : Boxed) (inner : TExpr) → HasItsCode g.typed g.instance alive n (T.Convert' ty p inner) → HasItsCode g.typed g.instance alive n inner
  unfolding IsShaped IsLowerable NamesVariables NamesAmong
  convert_part ty p inner h = record { code = record { shaped = h.code.shaped.1; lowerable = h.code.lowerable.1; names = h.code.names }; among = h.among }

  -- a cast to a type of the shape has what such a conversion has
  pub cast_code : (set : ℕ) (ty : ValueType) (p : Boxed) (inner : TExpr) → ty.shape ≡ Some set → IsPure set inner ⊎ IsPromoted set inner → HasItsCode g.typed g.instance alive n (T.ParallelCast' ty p inner) → HasItsCode g.typed g.instance alive n (T.Convert' ty p inner)
  unfolding IsShaped IsLowerable NamesVariables NamesAmong
  cast_code set ty p inner shaped operand h = record { code = record { shaped = (ap is_none shaped ∙ sym (ap is_none (operand_shape set inner operand)), h.code.shaped.1); lowerable = (h.code.lowerable.0, h.code.lowerable.2); names = h.code.names }; among = h.among }

  pub choice_parts : (ty : ValueType) (p q r : Boxed) (test first second : TExpr) → HasItsCode g.typed g.instance alive n (T.Choice' ty p test q first r second) → HasItsCode g.typed g.instance alive n test × HasItsCode g.typed g.instance alive n first × HasItsCode g.typed g.instance alive n second
  unfolding IsShaped IsLowerable NamesVariables NamesAmong
  choice_parts ty p q r test first second h = (
    record { code = record { shaped = h.code.shaped.0; lowerable = h.code.lowerable.4; names = h.code.names.0 }; among = h.among.0 },
    record { code = record { shaped = h.code.shaped.1; lowerable = h.code.lowerable.5; names = h.code.names.1 }; among = h.among.1 },
    record { code = record { shaped = h.code.shaped.2; lowerable = h.code.lowerable.6; names = h.code.names.2 }; among = h.among.2 },
  )

  -- a scalar is one of its type
  pub promoted_small : (set : ℕ) (e : TExpr) (st : State) (s : CodeState) → Sim g alive st s → IsPromoted set e → HasItsCode g.typed g.instance alive n e → (q : ℕ) → value_in (extents g set) st e q < 2 ^ (type_of e).elem.bits
  unfolding IsPromoted value_in scalar_in NamesVariables NamesAmong
  promoted_small set (T.Promote' ty p operand) st s sim is c q = subst (λ (e : Elem). scalar_in st operand q < 2 ^ e.bits) (sym is.1) (by is.2.1)
    where
      Small : Option ℕ → Type 0
      Small o = (elim o [ Some word ↦ word | None ↦ computed_in st operand q ]) < 2 ^ (type_of operand).elem.bits

      by : IsConstant operand ⊎ ((constant_of operand ≡ None) × IsCalm operand) → scalar_in st operand q < 2 ^ (type_of operand).elem.bits
      by (inl constant) = subst Small (sym constant.1) constant.2
      by (inr (none, calm)) = subst Small (sym none) (number_small (type_of operand).elem.bits st (evaluated nowhere operand nobody st) q (calm_gives g alive n nowhere nobody st sim.small operand calm c.code.names c.among))
  promoted_small set (T.Brackets' ty p inner) st s sim is c q = subst (λ (y : ValueType). value_in (extents g set) st inner q < 2 ^ y.elem.bits) (sym is.0) (promoted_small set inner st s sim is.1 (brackets_part ty p inner c) q)
  promoted_small set _ st s sim is c q = absurd is

  -- so is that of a variable
  named_small : (set : ℕ) (x : Variable) (ty : ValueType) → IsOfFileOrBlock x → alive x → (v : HasVariable g.typed g.instance n x (plain ty)) → ty.shape ≡ Some set → (st : State) (s : CodeState) → Sim g alive st s → (q : ℕ) → st.parallel x 0 q < 2 ^ ty.elem.bits
  named_small set x ty read living v shaped st s sim q = (variable_fits g alive places fields set x (variable_info v.word (plain ty) v.start) read living v.named shaped refl st s sim).1 q

  pub value_small : (set : ℕ) (e : TExpr) (st : State) (s : CodeState) → Sim g alive st s → IsPure set e → HasItsCode g.typed g.instance alive n e → (q : ℕ) → value_in (extents g set) st e q < 2 ^ (type_of e).elem.bits
  unfolding IsPure IsOfFileOrBlock value_in unary_of negates NamesVariables NamesAmong
  value_small set (T.Variable ty (V.File k)) st s sim is c q = named_small set (V.File k) ty tt c.among c.code.names is st s sim q
  value_small set (T.Variable ty (V.Local k)) st s sim is c q = named_small set (V.Local k) ty tt c.among c.code.names is st s sim q
  value_small set (T.Brackets' ty p inner) st s sim is c q = subst (λ (y : ValueType). value_in (extents g set) st inner q < 2 ^ y.elem.bits) (sym is.0) (value_small set inner st s sim is.1 (brackets_part ty p inner c) q)
  value_small set (T.Unary' ty op p operand) st s sim is c q = below_bits ty.elem.bits _ is.0.1 (by is.1 (value_small set operand st s sim is.2 (unary_part ty op p operand c) q))
    where
      truth : (op : UnaryOp) → negates op ≡ true → unary_of op (value_in (extents g set) st operand q) < 2 ^ 32
      truth U.Not e = from_bool_below _
      truth U.Plus e = cc
      truth U.Minus e = cc
      truth U.Complement e = cc

      by : ((negates op ≡ false) × IsWide set (type_of operand)) ⊎ ((negates op ≡ true) × HasKnownKind operand) → value_in (extents g set) st operand q < 2 ^ (type_of operand).elem.bits → unary_of op (value_in (extents g set) st operand q) < 2 ^ 32
      by (inl h) few = unary_below op (value_in (extents g set) st operand q) (below_word (type_of operand).elem.bits _ h.1.1 few)
      by (inr h) few = truth op h.0
  value_small set (T.LogicalOr' ty p left r right) st s sim is c q = below_bits ty.elem.bits _ is.0.1 (from_bool_below _)
  value_small set (T.LogicalAnd' ty p left r right) st s sim is c q = below_bits ty.elem.bits _ is.0.1 (from_bool_below _)
  value_small set (T.Binary' ty place op p left r right) st s sim is c q =
      let parts = binary_parts ty place op p r left right c in
      below_bits ty.elem.bits _ is.0.1 (by is.1 (left_small is.2 parts.0 (λ pure. value_small set left st s sim pure parts.0 q)) (right_small is.2 parts.1 (λ pure. value_small set right st s sim pure parts.1 q)))
    where
      Operands : Type 0
      Operands = (IsPure set left × (IsPure set right ⊎ IsPromoted set right)) ⊎ (IsPromoted set left × IsPure set right)

      by_right : Operands → IsPure set right ⊎ IsPromoted set right
      by_right (inl h) = h.1
      by_right (inr h) = inl h.1

      left_small : Operands → HasItsCode g.typed g.instance alive n left → (IsPure set left → value_in (extents g set) st left q < 2 ^ (type_of left).elem.bits) → value_in (extents g set) st left q < 2 ^ 32
      left_small (inl h) code small = below_word (type_of left).elem.bits _ is.3.1 (small h.0)
      left_small (inr h) code small = below_word (type_of left).elem.bits _ is.3.1 (promoted_small set left st s sim h.0 code q)

      pure_or_not : IsPure set right ⊎ IsPromoted set right → HasItsCode g.typed g.instance alive n right → (IsPure set right → value_in (extents g set) st right q < 2 ^ (type_of right).elem.bits) → value_in (extents g set) st right q < 2 ^ 32
      pure_or_not (inl pure) code small = below_word (type_of right).elem.bits _ is.4.1 (small pure)
      pure_or_not (inr promoted) code small = below_word (type_of right).elem.bits _ is.4.1 (promoted_small set right st s sim promoted code q)

      right_small : Operands → HasItsCode g.typed g.instance alive n right → (IsPure set right → value_in (extents g set) st right q < 2 ^ (type_of right).elem.bits) → value_in (extents g set) st right q < 2 ^ 32
      right_small h code small = pure_or_not (by_right h) code small

      by : IsOperation op right ⊎ IsRelation set op left right → value_in (extents g set) st left q < 2 ^ 32 → value_in (extents g set) st right q < 2 ^ 32 → outcome op 32 (not (type_of left).elem.signed) (value_in (extents g set) st left q) (value_in (extents g set) st right q) < 2 ^ 32
      by (inl h) one other = operation_below op (type_of left).elem.signed (value_in (extents g set) st left q) (value_in (extents g set) st right q) h.0 one other
      by (inr h) one other = subst (λ (w : ℕ). w < 2 ^ 32) (sym (is_truth op 32 (not (type_of left).elem.signed) (value_in (extents g set) st left q) (value_in (extents g set) st right q) h.0)) (from_bool_below _)
  value_small set (T.Choice' ty p test b first r second) st s sim is c q =
      let parts = choice_parts ty p b r test first second c in
      below_bits ty.elem.bits _ is.0.1 (chosen (nonzero (first_in (type_of test).shape (decided_in st test) (value_in (extents g set) st test q))) _ _ (arm first is.2 is.4 parts.1 (λ pure. value_small set first st s sim pure parts.1 q)) (arm second is.3 is.5 parts.2 (λ pure. value_small set second st s sim pure parts.2 q)))
    where
      chosen : (b : Bool) (v w : ℕ) → v < 2 ^ 32 → w < 2 ^ 32 → (if b then v else w) < 2 ^ 32
      chosen true v w one other = one
      chosen false v w one other = other

      arm : (e : TExpr) → IsPure set e ⊎ IsPromoted set e → IsWide set (type_of e) → HasItsCode g.typed g.instance alive n e → (IsPure set e → value_in (extents g set) st e q < 2 ^ (type_of e).elem.bits) → value_in (extents g set) st e q < 2 ^ 32
      arm e (inl pure) wide code small = below_word (type_of e).elem.bits _ wide.1 (small pure)
      arm e (inr promoted) wide code small = below_word (type_of e).elem.bits _ wide.1 (promoted_small set e st s sim promoted code q)
  value_small set (T.Convert' ty p operand) st s sim is c q = converted_below ty.elem (type_of operand).elem (value_in (extents g set) st operand q)
  value_small set (T.ParallelCast' ty p operand) st s sim is c q = converted_below ty.elem (type_of operand).elem (value_in (extents g set) st operand q)
  value_small set (T.Pcoord ty axis) st s sim is c q = below_bits ty.elem.bits _ is.1 (places.few set axis q)
  value_small set (T.Dot ty axis) st s sim is c q = below_bits ty.elem.bits _ is.1 (places.few set axis q)
  value_small set (T.LeftIndex' ty place p indexes x of) st s sim is c q = named_small of x (parallel ty.elem of) is.1 c.among.0 c.code.names.0 refl st s sim _
  value_small set _ st s sim is c q = absurd is

  -- so one of a type of 32 bits is its word
  pub pure_at : (set : ℕ) (e : TExpr) (st : State) (s : CodeState) → Sim g alive st s → IsPure set e → IsWide set (type_of e) → HasItsCode g.typed g.instance alive n e → (q : ℕ) → word_at (extents g set) st e q ≡ value_in (extents g set) st e q
  pure_at set e st s sim is wide c q = held_wide (type_of e).elem (value_in (extents g set) st e q) wide.1 (below_word (type_of e).elem.bits _ wide.1 (value_small set e st s sim is c q))

  pub operand_small : (set : ℕ) (e : TExpr) (st : State) (s : CodeState) → Sim g alive st s → IsPure set e ⊎ IsPromoted set e → HasItsCode g.typed g.instance alive n e → (q : ℕ) → value_in (extents g set) st e q < 2 ^ (type_of e).elem.bits
  operand_small set e st s sim (inl pure) c q = value_small set e st s sim pure c q
  operand_small set e st s sim (inr promoted) c q = promoted_small set e st s sim promoted c q
