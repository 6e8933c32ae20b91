-- What is constant by its form has a type: that of the constant.
use Rattle.std.proofs.Common.{◌≡◌, ℕ, true, List, [], ◌∷◌, length, Option, Some, None, Box, Vec, refl, sym, ap, subst, ◌∙◌, if◌then◌else◌}
use Rattle.std.specs.Option.{option_map}
use Rattle.std.specs.List.{slice_get}
use Rattle.std.specs.declared.alloc.Global.{Global}
use Rattle.std.proofs.lemmas.Option.{same_Some}
use Rattle.cstar_base.specs.declared.elem.Elem.{Elem}
use Rattle.cstar_base.specs.declared.operators.Place.{Place}
use Rattle.cstar_tree.specs.declared.syntax.BinaryOp.{BinaryOp}
use Rattle.cstar_tree.specs.declared.syntax.BinaryOp.TheVariants as B
use Rattle.cstar_tree.specs.declared.syntax.Cast.{Cast}
use Rattle.cstar_tree.specs.declared.syntax.Expr.{Expr}
use Rattle.cstar_tree.specs.declared.syntax.Expr as E
use Rattle.cstar_tree.specs.declared.syntax.PrefixOp.{PrefixOp}
use Rattle.cstar_tree.specs.declared.syntax.PrefixOp.TheVariants as P
use Rattle.cstar_tree.specs.declared.typed.TExpr.{TExpr}
use Rattle.cstar_tree.specs.declared.typed.TExpr as T
use Rattle.cstar_tree.specs.declared.typed.UnaryOp.{UnaryOp}
use Rattle.cstar_tree.specs.declared.typed.UnaryOp.TheVariants as U
use Rattle.cstar_tree.specs.declared.typed.ValueType.{ValueType}
use Rattle.cstar_tree.specs.Constants.{Constant, about_shape, an_int, axis_among, cast_through, cast_to, combined, complemented, constant, extent_at, extents_meant, negated, number, number_meant, operated, over_one, over_three, over_two, prefixed, product, selected, signed_by}
use Rattle.cstar_tree.specs.Conversions.{IsConverted, IsFitted, IsSpread, common, either, int, promoted, scalar, unsigned}
use Rattle.cstar_tree.specs.Conversions as C
use Rattle.cstar_tree.specs.ExpressionTypes.{Types, cast_elem}
use Rattle.cstar_tree.specs.ExpressionTypes as X
use Rattle.cstar_tree.specs.Headers.{Program}
use Rattle.cstar_tree.specs.Operations.{left_elem, result_elem, right_elem, sign_of}
use Rattle.cstar_tree.specs.Scopes.{Here, extents_of, meaning, part, shape_of}
use Rattle.cstar_tree.specs.Typed.{type_of}
use Rattle.unique_types.proofs.Judged.{converted_type, of_parts}
use Rattle.unique_types.proofs.Bringing.{boxed, cast_elems, converted, scalar_fit}

-- ---- the constants of the parts

record OfOne (f : Constant → Option Constant) (o : Option Constant) (k : Constant) : Type 0 where
  pub first : Constant
  pub is_first : o ≡ Some first
  pub made : f first ≡ Some k

of_one : (f : Constant → Option Constant) (o : Option Constant) {k : Constant} → over_one f o ≡ Some k → OfOne f o k
unfolding over_one
of_one f None is = absurd (cc)
of_one f (Some a) is = record { first = a; is_first = refl; made = is }

record OfMapped {A B : Type 0} (f : A → B) (o : Option A) (k : B) : Type 0 where
  pub from : A
  pub is_from : o ≡ Some from
  pub made : f from ≡ k

of_mapped : {A B : Type 0} (f : A → B) (o : Option A) {k : B} → option_map f o ≡ Some k → OfMapped f o k
of_mapped f None is = absurd (cc)
of_mapped f (Some a) is = record { from = a; is_from = refl; made = cc }

record OfTwo (f : Constant → Constant → Constant) (o p : Option Constant) (k : Constant) : Type 0 where
  pub first : Constant
  pub second : Constant
  pub is_first : o ≡ Some first
  pub is_second : p ≡ Some second
  pub made : f first second ≡ k

of_two : (f : Constant → Constant → Constant) (o p : Option Constant) {k : Constant} → over_two f o p ≡ Some k → OfTwo f o p k
unfolding over_two
of_two f o p is =
    let a = of_one (λ x. option_map (f x) p) o is in let b = of_mapped (f a.first) p a.made in
    record { first = a.first; second = b.from; is_first = a.is_first; is_second = b.is_from; made = b.made }

record OfThree (f : Constant → Constant → Constant → Constant) (o p q : Option Constant) (k : Constant) : Type 0 where
  pub first : Constant
  pub is_first : o ≡ Some first
  pub others : OfTwo (f first) p q k

of_three : (f : Constant → Constant → Constant → Constant) (o p q : Option Constant) {k : Constant} → over_three f o p q ≡ Some k → OfThree f o p q k
unfolding over_three
of_three f o p q is =
    let a = of_one (λ x. over_two (f x) p q) o is in record { first = a.first; is_first = a.is_first; others = of_two (f a.first) p q a.made }

record OfShape (here : Here) (f : List ℕ → Option ℕ) (shape : Option ℕ) (k : Constant) : Type 0 where
  pub is : ℕ
  pub extents : List ℕ
  pub word : ℕ
  pub is_shape : shape ≡ Some is
  pub has_extents : extents_of here is ≡ Some extents
  pub gives : f extents ≡ Some word
  pub made : an_int word ≡ k

about : (f : List ℕ → Option ℕ) (extents : Option (List ℕ)) {k : Constant} → about_shape f extents ≡ Some k → (ns : List ℕ) × (word : ℕ) × (extents ≡ Some ns) × (f ns ≡ Some word) × (an_int word ≡ k)
about f None is = absurd (cc)
about f (Some ns) is = let m = of_mapped an_int (f ns) is in (ns, m.from, refl, m.is_from, m.made)

of_shape : (here : Here) (f : List ℕ → Option ℕ) (shape : Option ℕ) {k : Constant} → about_shape f (extents_meant here shape) ≡ Some k → OfShape here f shape k
of_shape here f None is = absurd (cc)
of_shape here f (Some s) is = let a = about f (extents_of here s) is in record { is = s; extents = a.0; word = a.1; is_shape = refl; has_extents = a.2; gives = a.3; made = a.4 }

-- whether a place is that of a whole expression tells nothing of a constant
pub in_part : (here : Here) (e : Expr) → constant (part here) e ≡ constant here e
unfolding constant extents_of meaning
in_part here (E.Brackets' p _ inner) = in_part here inner
in_part here (E.Casts' casts _ operand) = ap (option_map (cast_through casts.items)) (in_part here operand)
in_part here (E.Prefix' p op _ operand) = ap (over_one (prefixed op)) (in_part here operand)
in_part here (E.Binary' p op _ left _ right) =
    ap (λ (k : Option Constant). over_two (combined op) k (constant (part here) right)) (in_part here left) ∙ ap (over_two (combined op) (constant here left)) (in_part here right)
in_part here (E.Choice' p _ test _ second _ third) =
    ap (λ (k : Option Constant). over_three selected k (constant (part here) second) (constant (part here) third)) (in_part here test)
    ∙ (ap (λ (k : Option Constant). over_three selected (constant here test) k (constant (part here) third)) (in_part here second)
    ∙ ap (over_three selected (constant here test) (constant here second)) (in_part here third))
in_part here (E.DimOf' p shape _ axis) = ap (over_one (λ k. about_shape (λ ns. extent_at ns (axis_among ns (number k))) (extents_meant here (shape_of here shape)))) (in_part here axis)
in_part here _ = refl

-- ---- the nodes

pub record TypedConstant (program : Program) (here : Here) (e : Expr) (k : Constant) : Type 0 where
  pub tree : TExpr
  pub types : Types program here e tree true
  pub type_is : type_of tree ≡ scalar k.elem

same_constant : {program : Program} {here : Here} {e : Expr} {k l : Constant} → k ≡ l → TypedConstant program here e k → TypedConstant program here e l
same_constant {program} {here} {e} is x = subst (TypedConstant program here e) is x

no_shape : {ty : ValueType} {elem : Elem} → ty ≡ scalar elem → ty.shape ≡ None
no_shape is = ap (λ (ty : ValueType). ty.shape) is

no_shapes : {v w : ValueType} {a b : Elem} → v ≡ scalar a → w ≡ scalar b → None ≡ either v.shape w.shape
no_shapes {v = v} x y = ap (λ (ty : ValueType). either ty.shape None) (sym x) ∙ ap (λ (ty : ValueType). either v.shape ty.shape) (sym y)

module _ (program : Program) (here : Here) (p : Place) where
  signed_constant : (op : PrefixOp) (sign : UnaryOp) (operand : Box Expr Global) (f : ℕ → ℕ) {a : Constant} → sign_of op ≡ Some sign → TypedConstant program (part here) operand.value a → TypedConstant program here (E.Prefix p op operand) (signed_by f a)
  unfolding signed_by
  signed_constant op sign operand f is x =
      let c = converted operand.alloc x.tree (promoted (type_of x.tree).elem) in
      record {
        tree = T.Unary (type_of c.box.value) sign c.box;
        types = X.signed operand c.box is x.types c.conversion;
        type_is = converted_type c.conversion ∙ ap (λ (ty : ValueType). of_parts (promoted ty.elem) ty.shape) x.type_is;
      }

  prefix_constant : (op : PrefixOp) (operand : Box Expr Global) {a k : Constant} → prefixed op a ≡ Some k → TypedConstant program (part here) operand.value a → TypedConstant program here (E.Prefix p op operand) k
  unfolding prefixed
  prefix_constant P.Plus operand is x = same_constant (same_Some _ _ is) (signed_constant P.Plus U.Plus operand (λ w. w) refl x)
  prefix_constant P.Minus operand is x = same_constant (same_Some _ _ is) (signed_constant P.Minus U.Minus operand negated refl x)
  prefix_constant P.Complement operand is x = same_constant (same_Some _ _ is) (signed_constant P.Complement U.Complement operand complemented refl x)
  prefix_constant P.Not operand is x = same_constant (same_Some _ _ is) (record {
    tree = T.Unary (record { elem = int; shape = (type_of x.tree).shape }) U.Not (boxed operand.alloc x.tree);
    types = X.logical_not operand (boxed operand.alloc x.tree) x.types;
    type_is = ap (λ (ty : ValueType). of_parts int ty.shape) x.type_is;
  })
  prefix_constant (P.Step op) operand is x = absurd (cc)
  prefix_constant (P.Reduce op) operand is x = absurd (cc)

  binary_constant : (op : BinaryOp) (left right : Box Expr Global) {a b : Constant} → TypedConstant program (part here) left.value a → TypedConstant program (part here) right.value b → TypedConstant program here (E.Binary p op left right) (combined op a b)
  unfolding combined operated
  binary_constant B.LogicalOr left right x y = record {
    tree = T.LogicalOr (record { elem = int; shape = (type_of y.tree).shape }) (boxed left.alloc x.tree) (boxed left.alloc y.tree);
    types = X.logical_or left right (boxed left.alloc x.tree) (boxed left.alloc y.tree) x.types y.types (subst (λ (s : Option ℕ). IsSpread y.tree s y.tree) (sym (no_shape x.type_is)) C.none_wanted);
    type_is = ap (λ (ty : ValueType). of_parts int ty.shape) y.type_is;
  }
  binary_constant B.LogicalAnd left right x y = record {
    tree = T.LogicalAnd (record { elem = int; shape = (type_of y.tree).shape }) (boxed left.alloc x.tree) (boxed left.alloc y.tree);
    types = X.logical_and left right (boxed left.alloc x.tree) (boxed left.alloc y.tree) x.types y.types (subst (λ (s : Option ℕ). IsSpread y.tree s y.tree) (sym (no_shape x.type_is)) C.none_wanted);
    type_is = ap (λ (ty : ValueType). of_parts int ty.shape) y.type_is;
  }
  binary_constant (B.Number op) left right {a = a} x y =
      let f = converted left.alloc x.tree (left_elem op (type_of x.tree).elem (type_of y.tree).elem) in
      let g = converted left.alloc y.tree (right_elem op (type_of x.tree).elem (type_of y.tree).elem) in
      record {
        tree = T.Binary (scalar (result_elem op (type_of x.tree).elem (type_of y.tree).elem)) p op f.box g.box;
        types = X.operation left right f.box g.box x.types y.types (no_shapes x.type_is y.type_is) (scalar_fit f.conversion) (scalar_fit g.conversion);
        type_is = ap (λ (ty : ValueType). scalar (result_elem op ty.elem (type_of y.tree).elem)) x.type_is ∙ ap (λ (ty : ValueType). scalar (result_elem op a.elem ty.elem)) y.type_is;
      }

  choice_constant : (test second third : Box Expr Global) {a b c : Constant} → TypedConstant program (part here) test.value a → TypedConstant program (part here) second.value b → TypedConstant program (part here) third.value c → TypedConstant program here (E.Choice p test second third) (selected a b c)
  unfolding selected
  choice_constant test second third {b = b} x y z =
      let elem = common (type_of y.tree).elem (type_of z.tree).elem in
      let f = converted test.alloc y.tree elem in
      let g = converted test.alloc z.tree elem in
      record {
        tree = T.Choice (scalar elem) (boxed test.alloc x.tree) f.box g.box;
        types = X.choice test second third (boxed test.alloc x.tree) f.box g.box x.types y.types z.types
            (ap (of_parts elem) (no_shapes y.type_is z.type_is ∙ ap (λ (ty : ValueType). either ty.shape (either (type_of y.tree).shape (type_of z.tree).shape)) (sym x.type_is)))
            (scalar_fit f.conversion) (scalar_fit g.conversion);
        type_is = ap (λ (ty : ValueType). scalar (common ty.elem (type_of z.tree).elem)) y.type_is ∙ ap (λ (ty : ValueType). scalar (common b.elem ty.elem)) z.type_is;
      }

  brackets_constant : (inner : Box Expr Global) {k : Constant} → TypedConstant program here inner.value k → TypedConstant program here (E.Brackets p inner) k
  brackets_constant inner x = record { tree = T.Brackets (type_of x.tree) (boxed inner.alloc x.tree); types = X.brackets inner (boxed inner.alloc x.tree) x.types; type_is = x.type_is }

cast_constant : (chain : List Cast) (a : Constant) → cast_elem chain a.elem ≡ (cast_through chain a).elem
unfolding cast_through cast_to
cast_constant [] a = refl
cast_constant (c ∷ cs) a = refl

casts_constant : (program : Program) (here : Here) (chain : Vec Cast Global) (operand : Box Expr Global) {a : Constant} → TypedConstant program (part here) operand.value a → TypedConstant program here (E.Casts chain operand) (cast_through chain.items a)
casts_constant program here chain operand {a} x =
    let elems = cast_elems operand.alloc chain in
    record {
      tree = T.Casts (scalar (cast_elem chain.items (type_of x.tree).elem)) elems (boxed operand.alloc x.tree);
      types = X.casts chain operand elems (boxed operand.alloc x.tree) x.types (ap (λ (ty : ValueType). ty.shape) x.type_is) refl;
      type_is = ap (λ (ty : ValueType). scalar (cast_elem chain.items ty.elem)) x.type_is ∙ ap scalar (cast_constant chain.items a);
    }

-- ---- expressions

abbrev with_hidden : {A : Type 0} → Box A Global → Expr → Box Expr Global
with_hidden hidden e = record { ptr = hidden.ptr; alloc = hidden.alloc; value = e }

pub typed : (program : Program) (here : Here) (e : Expr) {k : Constant} → constant here e ≡ Some k → TypedConstant program here e k
unfolding constant
typed program here (E.Number p value u) is = same_constant (same_Some _ _ is) (record { tree = T.Number (scalar (if u then unsigned else int)) value; types = X.number; type_is = refl })
typed program here (E.Brackets' p hidden inner) is = brackets_constant program here p (with_hidden hidden inner) (typed program here inner is)
typed program here (E.Casts' chain hidden operand) is =
    let o = of_mapped (cast_through chain.items) (constant here operand) is in
    same_constant o.made (casts_constant program here chain (with_hidden hidden operand) (typed program (part here) operand (in_part here operand ∙ o.is_from)))
typed program here (E.Prefix' p op hidden operand) is =
    let o = of_one (prefixed op) (constant here operand) is in
    prefix_constant program here p op (with_hidden hidden operand) o.made (typed program (part here) operand (in_part here operand ∙ o.is_first))
typed program here (E.Binary' p op l left r right) is =
    let o = of_two (combined op) (constant here left) (constant here right) is in
    same_constant o.made (binary_constant program here p op (with_hidden l left) (with_hidden r right) (typed program (part here) left (in_part here left ∙ o.is_first)) (typed program (part here) right (in_part here right ∙ o.is_second)))
typed program here (E.Choice' p a test b second c third) is =
    let o = of_three selected (constant here test) (constant here second) (constant here third) is in
    same_constant o.others.made (choice_constant program here p (with_hidden a test) (with_hidden b second) (with_hidden c third)
    (typed program (part here) test (in_part here test ∙ o.is_first)) (typed program (part here) second (in_part here second ∙ o.others.is_first)) (typed program (part here) third (in_part here third ∙ o.others.is_second)))
typed program here (E.PositionsOf p written) is =
    let o = of_shape here (λ ns. Some (product ns)) (shape_of here written) is in
    same_constant o.made (record { tree = T.PositionsOf (scalar int) o.is (product o.extents); types = X.positions_of o.is_shape o.has_extents; type_is = refl })
typed program here (E.RankOf p written) is =
    let o = of_shape here (λ ns. Some (length ns)) (shape_of here written) is in
    same_constant o.made (record { tree = T.RankOf (scalar int) o.is (length o.extents); types = X.rank_of o.is_shape o.has_extents; type_is = refl })
typed program here (E.DimOf' p written hidden axis) is =
    let a = of_one (λ k. about_shape (λ ns. extent_at ns (axis_among ns (number k))) (extents_meant here (shape_of here written))) (constant here axis) is in
    let o = of_shape here (λ ns. extent_at ns (axis_among ns (number a.first))) (shape_of here written) a.made in
    let at_axis = of_extent o.extents (axis_among o.extents (number a.first)) o.gives in
    same_constant o.made (record { tree = T.DimOf (scalar int) o.is at_axis.0 o.word; types = X.dim_of (with_hidden hidden axis) o.is_shape o.has_extents (ap (λ (k : Option Constant). axis_among o.extents (number_meant k)) a.is_first ∙ at_axis.1) at_axis.2; type_is = refl })
  where
    of_extent : (extents : List ℕ) (axis : Option ℕ) {extent : ℕ} → extent_at extents axis ≡ Some extent → (n : ℕ) × (axis ≡ Some n) × (slice_get extents n ≡ Some extent)
    of_extent extents None none = absurd (cc)
    of_extent extents (Some n) found = (n, refl, found)
typed program here e is = absurd (cc)
