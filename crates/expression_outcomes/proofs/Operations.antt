-- What operators come to, from what their operands come to.
use Rattle.std.proofs.Common.{◌≡◌, inl, inr, ℕ, Bool, true, false, Option, Some, None, Box, Vec, refl, ap, ◌∙◌}
use Rattle.std.specs.declared.alloc.Global.{Global}
use Rattle.cstar_base.specs.declared.operators.Place.{Place}
use Rattle.cstar_tree.specs.declared.syntax.AssignOp.{AssignOp}
use Rattle.cstar_tree.specs.declared.syntax.BinaryOp.{BinaryOp}
use Rattle.cstar_tree.specs.declared.syntax.BinaryOp.TheVariants as B
use Rattle.cstar_tree.specs.declared.syntax.Cast.{Cast}
use Rattle.cstar_tree.specs.declared.syntax.Expr.{Expr}
use Rattle.cstar_tree.specs.declared.syntax.Expr as E
use Rattle.cstar_tree.specs.declared.syntax.PrefixOp.{PrefixOp}
use Rattle.cstar_tree.specs.declared.syntax.PrefixOp.TheVariants as P
use Rattle.cstar_tree.specs.declared.syntax.ReduceOp.{ReduceOp}
use Rattle.cstar_tree.specs.declared.syntax.ShapeRef.{ShapeRef}
use Rattle.cstar_tree.specs.declared.syntax.StepOp.{StepOp}
use Rattle.cstar_tree.specs.declared.syntax.TypeName.{TypeName}
use Rattle.cstar_tree.specs.declared.typed.TExpr.{TExpr}
use Rattle.cstar_tree.specs.declared.typed.UnaryOp.{UnaryOp}
use Rattle.cstar_tree.specs.declared.typed.ValueType.{ValueType}
use Rattle.cstar_tree.specs.Conversions.{common, either, promoted, shape_among}
use Rattle.cstar_tree.specs.ExpressionFaults.{IsStep}
use Rattle.cstar_tree.specs.ExpressionFaults as F
use Rattle.cstar_tree.specs.ExpressionTypes.{IsPlaceOf, IsStorable, Types}
use Rattle.cstar_tree.specs.ExpressionTypes as X
use Rattle.cstar_tree.specs.Headers.{Program}
use Rattle.cstar_tree.specs.Operations.{Target, assigned_elem, folds, left_elem, left_target, many, one, right_elem, sends, sign_of, target_of}
use Rattle.cstar_tree.specs.Scopes.{Here, of_shape, of_written, part, written_type}
use Rattle.cstar_tree.specs.Typed.{type_of}
use Rattle.expression_outcomes.specs.Outcomes.{IsOfProgram, HasItsNames, Outcome}
use Rattle.expression_outcomes.specs.Outcomes as O
use Rattle.expression_outcomes.proofs.Fitting.{fitted, spread}
use Rattle.unique_types.proofs.Bringing.{boxed, cast_elems, converted}
use Rattle.expression_outcomes.proofs.Coming.{AtHandOrAway, HasOutcome, at_hand_or_away, of_program_inside, with_part, with_shape}
use Rattle.expression_outcomes.proofs.Coming as W
use Rattle.unique_types.proofs.Judged.{Operand, of_parts}

-- many targets are parallel
many_parallel : (shape : Option ℕ) (p q : Place) → Some (left_target p shape) ≡ Some (many q) → shape ≡ None → ⊥
many_parallel None p q are none = cc
many_parallel (Some s) p q are none = cc

parallel_targets : {program : Program} {here : Here} {e : Expr} {t : TExpr} {b : Bool} {q : Place} → Types program here e t b → target_of t ≡ Some (many q) → (type_of t).shape ≡ None → ⊥
unfolding target_of
parallel_targets {q = q} (X.left_index {p = p} {given = given} indexes ss is known as_many typed spreads) are none = many_parallel (shape_among given) p q are none
parallel_targets (X.brackets inner i typed) are none = parallel_targets typed are none
parallel_targets other are none = cc

module _ (program : Program) (p : Place) where
  pub brackets : (inner : Box Expr Global) → HasOutcome program inner.value → HasOutcome program (E.Brackets p inner)
  brackets inner from here k i = around (from here k (of_program_inside inner i))
    where
      around : Outcome program here inner.value → Outcome program here (E.Brackets p inner)
      around (O.typed {t = t} h) = O.typed (X.brackets inner (boxed inner.alloc t) h)
      around (O.faulty h) = O.faulty (F.in_brackets inner h)
      around (O.rests h) = O.rests (O.in_brackets inner h)

  -- ---- assignments

  module _ (op : AssignOp) (target value : Box Expr Global) (here : Here) (t : Operand program (part here) target.value) (v : Operand program (part here) value.value) where
    stored : IsPlaceOf here op t.tree → IsStorable op (type_of t.tree).shape (type_of v.tree).shape → Outcome program here (E.Assign p op target value)
    stored place storable =
        let f = fitted target.alloc v.tree (record { elem = assigned_elem op (type_of t.tree).elem (type_of v.tree).elem; shape = (type_of t.tree).shape }) in
        O.typed (X.assign target value (boxed target.alloc t.tree) f.box t.types v.types place storable f.fit)

    in_one : (a b : Option ℕ) (fold : Bool) → target_of t.tree ≡ Some one → (type_of t.tree).shape ≡ a → (type_of v.tree).shape ≡ b → folds op ≡ fold → Outcome program here (E.Assign p op target value)
    in_one (Some s) b fold place is_a is_b is_fold = stored (X.one_place place) (λ none. absurd (cc))
    in_one None None fold place is_a is_b is_fold = stored (X.one_place place) (λ none. inl is_b)
    in_one None (Some s) true place is_a is_b is_fold = stored (X.one_place place) (λ none. inr is_fold)
    in_one None (Some s) false place is_a is_b is_fold = O.faulty (F.at (F.parallel_stored target value t.types v.types place is_a is_b is_fold))

    in_many : (sent whole : Bool) {q : Place} → target_of t.tree ≡ Some (many q) → sends op ≡ sent → here.whole ≡ whole → Outcome program here (E.Assign p op target value)
    in_many false whole are is_sent is_whole = O.faulty (F.at (F.send_operator target value t.types are is_sent))
    in_many true false are is_sent is_whole = O.faulty (F.at (F.send_inside target value t.types v.types are is_sent is_whole))
    in_many true true are is_sent is_whole = stored (X.targets are is_whole is_sent) (λ none. absurd (parallel_targets t.types are none))

    in_target : (o : Option Target) → target_of t.tree ≡ o → Outcome program here (E.Assign p op target value)
    in_target None is = O.faulty (F.at (F.no_target target value t.types v.types is))
    in_target (Some one) is = in_one (type_of t.tree).shape (type_of v.tree).shape (folds op) is refl refl refl
    in_target (Some (many q)) is = in_many (sends op) here.whole is refl refl

  pub assign : (op : AssignOp) (target value : Box Expr Global) → HasOutcome program target.value → HasOutcome program value.value → HasOutcome program (E.Assign p op target value)
  assign op target value from_target from_value here k i =
      with_part (F.target target value) from_target k i (λ t. with_part (F.value target value) from_value k i (λ v. in_target op target value here t v (target_of t.tree) refl))

  -- ---- choices and binary operators

  pub choice : (test second third : Box Expr Global) → HasOutcome program test.value → HasOutcome program second.value → HasOutcome program third.value → HasOutcome program (E.Choice p test second third)
  choice test second third from_test from_second from_third here k i =
      with_part (F.test test second third) from_test k i (λ c. with_part (F.second test second third) from_second k i (λ a. with_part (F.third test second third) from_third k i (λ b.
      let ty : ValueType = record { elem = common (type_of a.tree).elem (type_of b.tree).elem; shape = either (type_of c.tree).shape (either (type_of a.tree).shape (type_of b.tree).shape) } in
      let x = fitted test.alloc a.tree ty in
      let y = fitted test.alloc b.tree ty in
      O.typed (X.choice test second third (boxed test.alloc c.tree) x.box y.box c.types a.types b.types refl x.fit y.fit))))

  operated : (op : BinaryOp) (left right : Box Expr Global) (here : Here) → Operand program (part here) left.value → Operand program (part here) right.value → Outcome program here (E.Binary p op left right)
  operated B.LogicalOr left right here a b = let y = spread left.alloc b.tree (type_of a.tree).shape in O.typed (X.logical_or left right (boxed left.alloc a.tree) y.box a.types b.types y.spread)
  operated B.LogicalAnd left right here a b = let y = spread left.alloc b.tree (type_of a.tree).shape in O.typed (X.logical_and left right (boxed left.alloc a.tree) y.box a.types b.types y.spread)
  operated (B.Number op) left right here a b =
      let shape = either (type_of a.tree).shape (type_of b.tree).shape in
      let x = fitted left.alloc a.tree (record { elem = left_elem op (type_of a.tree).elem (type_of b.tree).elem; shape = shape }) in
      let y = fitted left.alloc b.tree (record { elem = right_elem op (type_of a.tree).elem (type_of b.tree).elem; shape = shape }) in
      O.typed (X.operation left right x.box y.box a.types b.types refl x.fit y.fit)

  pub binary : (op : BinaryOp) (left right : Box Expr Global) → HasOutcome program left.value → HasOutcome program right.value → HasOutcome program (E.Binary p op left right)
  binary op left right from_left from_right here k i =
      with_part (F.left left right) from_left k i (λ a. with_part (F.right left right) from_right k i (λ b. operated op left right here a b))

  -- ---- one operand

  stepped : {here : Here} {e operand : Expr} (x : Operand program (part here) operand) (o : Option Target) → target_of x.tree ≡ o → IsStep p operand e → (target_of x.tree ≡ Some one → Outcome program here e) → Outcome program here e
  stepped x None is step goes_on = O.faulty (F.at (F.no_target_of_step step x.types is))
  stepped x (Some one) is step goes_on = goes_on is
  stepped x (Some (many q)) is step goes_on = O.faulty (F.at (F.send_step step x.types is))

  signed : (op : PrefixOp) {sign : UnaryOp} (operand : Box Expr Global) (here : Here) → sign_of op ≡ Some sign → Operand program (part here) operand.value → Outcome program here (E.Prefix p op operand)
  signed op operand here is x = let c = converted operand.alloc x.tree (promoted (type_of x.tree).elem) in O.typed (X.signed operand c.box is x.types c.conversion)

  reduced : (op : ReduceOp) (operand : Box Expr Global) (here : Here) (x : Operand program (part here) operand.value) (o : Option ℕ) → (type_of x.tree).shape ≡ o → Outcome program here (E.Prefix p (P.Reduce op) operand)
  reduced op operand here x None is = O.faulty (F.at (F.scalar_reduced operand x.types is))
  reduced op operand here x (Some s) is = let c = converted operand.alloc x.tree (promoted (type_of x.tree).elem) in O.typed (X.reduction operand c.box x.types is c.conversion)

  prefixed : (op : PrefixOp) (operand : Box Expr Global) (here : Here) → Operand program (part here) operand.value → Outcome program here (E.Prefix p op operand)
  prefixed P.Plus operand here x = signed P.Plus operand here refl x
  prefixed P.Minus operand here x = signed P.Minus operand here refl x
  prefixed P.Complement operand here x = signed P.Complement operand here refl x
  prefixed P.Not operand here x = O.typed (X.logical_not operand (boxed operand.alloc x.tree) x.types)
  prefixed (P.Reduce op) operand here x = reduced op operand here x (type_of x.tree).shape refl
  prefixed (P.Step op) operand here x = stepped x (target_of x.tree) refl (F.before operand) (λ is. O.typed (X.step_before operand (boxed operand.alloc x.tree) x.types is))

  pub prefix : (op : PrefixOp) (operand : Box Expr Global) → HasOutcome program operand.value → HasOutcome program (E.Prefix p op operand)
  prefix op operand from here k i = with_part (F.of_prefix operand) from k i (λ x. prefixed op operand here x)

  pub postfix : (op : StepOp) (operand : Box Expr Global) → HasOutcome program operand.value → HasOutcome program (E.Postfix p op operand)
  postfix op operand from here k i = with_part (F.of_postfix operand) from k i (λ x. stepped x (target_of x.tree) refl (F.behind operand) (λ is. O.typed (X.step_behind operand (boxed operand.alloc x.tree) x.types is)))

  -- ---- a cast to a written type

  cast_to : (written : TypeName) (ty : ValueType) (operand : Box Expr Global) (here : Here) → written_type here written ≡ Some ty → Operand program (part here) operand.value → AtHandOrAway here.current ty.shape → Outcome program here (E.ParallelCast p written operand)
  cast_to written ty operand here is x (W.at_hand h) = let y = spread operand.alloc x.tree ty.shape in O.typed (X.parallel_cast operand y.box is h x.types y.spread)
  cast_to written ty operand here is x (W.away of away) =
      O.faulty (F.at (F.cast_away operand (is ∙ ap (λ (s : Option ℕ). Some (of_parts ty.elem s)) of) (x.tree, x.types) away))

  by_written : (written : TypeName) (operand : Box Expr Global) (here : Here) (o : Option ShapeRef) → written.shape ≡ o → ((ty : ValueType) → written_type here written ≡ Some ty → Outcome program here (E.ParallelCast p written operand)) → Outcome program here (E.ParallelCast p written operand)
  by_written written operand here None is goes_on = goes_on (record { elem = written.elem; shape = None }) (ap (of_written here written) is)
  by_written written operand here (Some s) is goes_on =
      with_shape s (F.in_cast is) (λ shape known. goes_on (record { elem = written.elem; shape = Some shape }) (ap (of_written here written) is ∙ ap (of_shape written) known))

  pub parallel_cast : (written : TypeName) (operand : Box Expr Global) → HasOutcome program operand.value → HasOutcome program (E.ParallelCast p written operand)
  parallel_cast written operand from here k i =
      by_written written operand here written.shape refl (λ ty is. with_part (F.of_cast operand) from k i (λ x. cast_to written ty operand here is x (at_hand_or_away here.current ty.shape)))

-- ---- casts to scalar types

module _ (program : Program) where
  cast_through : (chain : Vec Cast Global) (operand : Box Expr Global) (here : Here) (x : Operand program (part here) operand.value) (o : Option ℕ) → (type_of x.tree).shape ≡ o → Outcome program here (E.Casts chain operand)
  cast_through chain operand here x None is = O.typed (X.casts chain operand (cast_elems operand.alloc chain) (boxed operand.alloc x.tree) x.types is refl)
  cast_through chain operand here x (Some s) is = O.faulty (F.at (F.parallel_cast chain operand x.types is))

  pub casts : (chain : Vec Cast Global) (operand : Box Expr Global) → HasOutcome program operand.value → HasOutcome program (E.Casts chain operand)
  casts chain operand from here k i = with_part (F.of_casts chain operand) from k i (λ x. cast_through chain operand here x (type_of x.tree).shape refl)
