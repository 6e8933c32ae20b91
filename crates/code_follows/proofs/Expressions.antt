-- The code of every expression of the fragment gives its value, as a value and as an operand.
use Rattle.std.proofs.Common.{◌≡◌, ◌∙◌, ℕ, ◌<◌, ◌^◌, Bool, true, false, List, [], ◌∷◌, length, Option, Some, None, refl, sym, ap, subst, if◌then◌else◌, arith, Vec, Global, inl, inr, ◌⊎◌}
use Rattle.std.specs.Prelude.{IfSome, is_none, is_some, ◌&&◌, ◌||◌, nat_le}
use Rattle.cstar_base.specs.declared.elem.Elem.{Elem}
use Rattle.cstar_base.specs.declared.operators.Op.{Op}
use Rattle.cstar_base.specs.declared.operators.Place.{Place}
use Rattle.cstar_base.specs.Numbers.{converted}
use mathlib.Core.Former.{Count}
use Rattle.cstar_tree.specs.declared.typed.TExpr.{TExpr, Row_of-TExpr, end_of-TExpr, items-the_row-TExpr, more_of-TExpr}
use Rattle.cstar_tree.specs.declared.typed.TExpr as T
use Rattle.cstar_tree.specs.declared.typed.Typed.{Typed}
use Rattle.cstar_tree.specs.declared.typed.UnaryOp.{UnaryOp}
use Rattle.cstar_tree.specs.declared.typed.UnaryOp.TheVariants as U
use Rattle.cstar_tree.specs.declared.typed.ValueType.{ValueType}
use Rattle.cstar_tree.specs.declared.typed.VarInfo.{VarInfo}
use Rattle.cstar_tree.specs.declared.typed.Variable.TheVariants as V
use Rattle.cstar_tree.specs.declared.typed.Variable.{Variable}
use Rattle.cstar_tree.specs.StatementTypes.{variable_info}
use Rattle.cstar_tree.specs.Typed.{type_of}
use Rattle.code_lengths.specs.Lowerable.{GivesValue, InRegister, IsLowerable}
use Rattle.cstar_tree.specs.declared.syntax.AssignOp.{AssignOp}
use Rattle.cstar_tree.specs.declared.syntax.StepOp.{StepOp}
use Rattle.cstar_tree.specs.declared.typed.StepOrder.{StepOrder}
use Rattle.code_lengths.specs.Naming.{HasVariable, NamesVariables, plain}
use Rattle.code_lengths.specs.Ready.{HasCode, HaveCode, IsPlace, IsReadyButForFields}
use Rattle.code_lengths.specs.Shaped.{IsShaped, IsTarget}
use Rattle.code_lengths.proofs.Agreeing.{lengths_if_made}
use Rattle.code_lengths.proofs.OperandPieces.{operand_grows as operand_grown}
use Rattle.constant_trees.proofs.Words.{converted_below}
use Rattle.lower_base.specs.declared.emit.Out.{Out}
use Rattle.lower_base.specs.declared.emit.Out.TheVariants as O
use Rattle.lower_base.specs.Constants.{constant_register}
use Rattle.lower_base.specs.Kinds.{bits_of, kind_of}
use Rattle.lower_base.specs.Drafts.{Draft, Fails, Made, Makes, a_register, first_bits, fresh_for, from, in_field, in_register, shortened, then_make}
use Rattle.lower_base.specs.Layouts.{Layout, field_of, register_of}
use Rattle.lower_expr.specs.declared.operands.Own.{Own}
use Rattle.lower_expr.specs.declared.spots.Spot.{Spot}
use Rattle.lower_expr.specs.declared.spots.Spot.TheVariants as S
use Rattle.lower_expr.proofs.Unary.{done_in_register}
use Rattle.lower_expr.specs.Kinds.{done_as, is_unchanged, list_bits, operand_bits, reduced_bits, unary_bits}
use Rattle.lower_expr.specs.Effects.{computed_to, gone_to, put_to}
use Rattle.lower_expr.specs.Lengths.{arm_length, arm_length_of, bare, used_length_of}
use Rattle.lower_expr.specs.Operands.{are_quiet, held as held_in, in_place, is_plus, is_quiet, operand_by, own_of, standing}
use Rattle.lower_expr.specs.Spots.{loaded}
use Rattle.lower_expr.specs.Steps.{is_kept, register_word, word_for}
use Rattle.lower_comm.specs.Messages.{communicated, part_field, reduced}
use Rattle.lower_comm.specs.News.{all_go_by_news, goes_by_news}
use Rattle.cstar_tree.specs.declared.syntax.ReduceOp.{ReduceOp}
use Rattle.cstar_tree.specs.declared.typed.TExpr.{out-TExpr, items_shown-the_row-TExpr-0}
use denote.Hole.Carrier
use Rattle.paris_code.specs.Code.{CodeState}
use Rattle.lower_expr.specs.Values.{Code, arm_by, arm_of, cast_from, choice_by, condition_by, condition_of, index_read_by, index_read_to, logical_by, lowest, message_by, message_to, news_to, next_of, read_to, register_cast_by, scalar_choice_of, spot_of, truth_of, unary_by, value_of, taken_bits}
use Rattle.quiet_operands.proofs.Unchanged as Quiet
use Rattle.source_meaning.specs.Constants.{constant_of, is_constant, then_value}
use Rattle.source_meaning.specs.Constants as Const
use Rattle.source_meaning.specs.Expressions.{evaluated, mapped}
use Rattle.source_meaning.specs.Narrowing.{and_then, choose, or_then}
use Rattle.source_meaning.specs.State as Source
use Rattle.source_meaning.specs.State.{Outcome, State, then_do}
use Rattle.source_meaning.specs.Values.{Active, Scalar, Scope, Value, at, convert_to, nonzero, number, unary_of}
use Rattle.source_meaning.proofs.ConstantLaws.{Boxed, value_means}
use Rattle.code_follows.specs.Fragment.{AreIn, IsGiven, IsIn, IsOperand, IsPosition, IsVariable, IsWord, naming}
use Rattle.code_follows.proofs.Arguments.{AreDone}
use Rattle.code_follows.proofs.Besides.{IsValued}
use Rattle.code_follows.proofs.Branching.{IsMadeWord, made_word}
use Rattle.code_follows.proofs.Choosing.{Arm_does, IsMadeTo, Lands, arm_follows, arm_made, choice_is, choose_is, constant_arm, fresh_lands, scalar_choice_follows}
use Rattle.code_follows.proofs.CallValues.{arguments_code, call_code, call_value, fresh_call}
use Rattle.code_follows.proofs.Callees.{CallsFollow}
use Rattle.code_follows.proofs.Following.{Arrives, Extends, Follows, HasRegisters, IsScalar, Sim, follows_same, held, keeps_all, then_gives}
use Rattle.code_follows.proofs.Growing.{as_it_was}
use Rattle.code_follows.proofs.Logical.{and_is, joined, logical_follows, or_is}
use Rattle.code_follows.proofs.Settings.{begun_later, At, Begun, Setting, layout, stay}
use Rattle.code_follows.proofs.Values.{and_register, Dest, Does, Value_of, binary_follows, constant_follows, conversion_is, extends_grown, fresh_dest, mapped_is, read_is, rewrapped, unary_follows, variable_follows, with_reg}
use Rattle.code_follows.proofs.Bytes.{byte_follows}
use Rattle.code_follows.proofs.Casts.{casts_follow, fresh_casts}
use Rattle.std.specs.Int.{from_bool}
use Rattle.cstar_base.specs.Operators.{operate, outcome}
use Rattle.code_follows.proofs.Numbers.{held_zero}
use Rattle.code_follows.proofs.Conversions.{conversion_follows, fresh_conversion}
use Rattle.std.proofs.lemmas.Bool.{eqb-true}
use Rattle.code_follows.proofs.Fresh.{IsFresh, fresh_binary, fresh_byte, fresh_choice, fresh_constant, fresh_logical, fresh_unary, fresh_variable, IsClear, clear_fresh}
use Rattle.code_follows.proofs.FreshStores.{assigned_left, step_fresh, stepped_left, store_fresh}
use Rattle.code_follows.proofs.ConstantRegisters.{below_values}
use Rattle.code_follows.proofs.Changing.{scalar_type}
use Rattle.code_follows.proofs.Nested.{assigned_value, fresh_assigned, fresh_stepped, stepped_value}
use Rattle.code_follows.proofs.Stores.{before_values}
use Rattle.code_follows.proofs.Targets.{TargetIs, assign_code, assign_means, bare_target, step_code, step_means, target_type, variable_in}
use Rattle.code_follows.proofs.Standing.{some_same}
use Rattle.code_follows.proofs.Words.{below_bits, below_word, constant_below, held_converted, held_wide, kept, scalar_of}

-- a constant that stands in a register
pub record StandsAs (l : Layout) (e : TExpr) (r : ℕ) : Type 0 where
  pub word : ℕ
  pub constant : is_constant e ≡ true
  pub value : Const.value_of e ≡ Some word
  pub register : constant_register l (held (type_of e).elem word) ≡ Some r

held_stands : (l : Layout) (e : TExpr) (r : ℕ) → held_in l e ≡ Some r → StandsAs l e r
unfolding held_in register_word constant_of
held_stands l e r h = by (is_constant e) (Const.value_of e) refl refl h
  where
    by : (c : Bool) (v : Option ℕ) → is_constant e ≡ c → Const.value_of e ≡ v → then_value (then_value (if c then v else None) (λ w. Some (held (type_of e).elem w))) (constant_register l) ≡ Some r → StandsAs l e r
    by true (Some w) is_c is_v h = record { word = w; constant = is_c; value = is_v; register = h }
    by true None is_c is_v h = cc
    by false v is_c is_v h = cc

-- a unary operator works on the word as on the number
pub unary_same : (op : UnaryOp) (ty : ValueType) → IsOperand op ty → (w : ℕ) → w < 2 ^ ty.elem.bits → unary_of op (held ty.elem w) ≡ unary_of op w
unfolding IsOperand unary_of operate outcome
unary_same U.Not ty its w few = ap from_bool (held_zero ty.elem w few)
unary_same U.Plus ty its w few = ap (unary_of U.Plus) (held_wide ty.elem w its.1 (below_word ty.elem.bits w its.1 few))
unary_same U.Minus ty its w few = ap (unary_of U.Minus) (held_wide ty.elem w its.1 (below_word ty.elem.bits w its.1 few))
unary_same U.Complement ty its w few = ap (unary_of U.Complement) (held_wide ty.elem w its.1 (below_word ty.elem.bits w its.1 few))

-- what is read at a spot into a register is there
loaded_gone : (t : Typed) (l : Layout) (e : TExpr) (there : Spot) (r : ℕ) (d : Draft) → loaded t l e there (O.Scalar r) d ≡ gone_to (O.Scalar r) (loaded t l e there (O.Scalar r) d)
unfolding loaded gone_to then_make in_register in_field
loaded_gone t l e (S.Register source) r d = refl
loaded_gone t l e (S.Whole x) r d = refl
loaded_gone t l e (S.Element array index) r d = refl
loaded_gone t l e (S.Indexed at) r d = by (communicated t l (bare e) at [] (O.Scalar r) d)
  where
    by : (made : Made Out) → then_make made (λ _ after. Makes (O.Scalar r) after) ≡ then_make (then_make made (λ _ after. Makes (O.Scalar r) after)) (λ _ after. Makes (O.Scalar r) after)
    by (Makes v after) = refl
    by Fails = refl

read_gone : (t : Typed) (l : Layout) (e : TExpr) (spot : Draft → Made Spot) (r : ℕ) (d : Draft) → read_to t l e spot (O.Scalar r) d ≡ gone_to (O.Scalar r) (read_to t l e spot (O.Scalar r) d)
unfolding read_to gone_to then_make
read_gone t l e spot r d = by (spot d)
  where
    by : (made : Made Spot) → then_make made (λ there after. loaded t l e there (O.Scalar r) after) ≡ gone_to (O.Scalar r) (then_make made (λ there after. loaded t l e there (O.Scalar r) after))
    by (Makes there after) = loaded_gone t l e there r after
    by Fails = refl

-- a conversion without code is one to 32 bits
unchanged_wide : (bits : ℕ) (elem : Elem) (is_kept : Bool) → is_kept ≡ true → is_unchanged bits elem is_kept ≡ true → elem.bits ≡ 32
unfolding is_unchanged
unchanged_wide bits elem true is so = eqb-true elem.bits 32 so
unchanged_wide bits elem false is so = cc

module _ (g : Setting) (has : HasRegisters g) (alive : Variable → Type 0) (n : ℕ) (files : (k : ℕ) → alive (V.File k)) (ready : (d : Draft) → IsReadyButForFields g.typed g.instance (layout g) n d) (scope : Scope) (active : Active) (calls_follow : CallsFollow g scope active) where
  -- an expression and its code
  abbrev pub Agrees : Bool → ℕ → TExpr → Type 0
  Agrees quiet bits e = Does g has alive (type_of e).elem quiet (λ st. evaluated scope e active st) (λ d. value_of g.typed (layout g) bits e d)

  -- a variable whose own register is an operand
  pub record OwnIs (e : TExpr) (own : Own) (st : State) : Type 0 where
    pub info : VarInfo
    pub scalar : IsScalar g own.variable info
    pub shape : own.shape ≡ None
    pub living : alive own.variable
    pub word : ℕ
    pub gives : evaluated scope e active st ≡ Source.Gives (Scalar word) st
    pub small : word < 2 ^ (type_of e).elem.bits
    pub same : held (type_of e).elem word ≡ held info.elem (st.scalar own.variable)

  own_is : (bits : ℕ) (e : TExpr) (own : Own) (st : State) → (IsIn (naming g.may alive)) e → NamesVariables g.typed g.instance n e → ((x : Variable) (info : VarInfo) → alive x → IsScalar g x info → st.scalar x < 2 ^ info.elem.bits) → own_of bits e ≡ Some own → OwnIs e own st
  unfolding own_of IsIn NamesVariables evaluated is_unchanged then_do at
  own_is bits (T.Variable ty x) own st isin v small is = by (is_none ty.shape || nat_le bits ty.elem.bits) is
    where
      by : (b : Bool) → (if b then Some (record { shape = ty.shape; variable = x }) else None) ≡ Some own → OwnIs (T.Variable ty x) own st
      by false e = cc
      by true e = subst (λ (o : Own). OwnIs (T.Variable ty x) o st) (some_same (record { shape = ty.shape; variable = x }) own e) (record {
        info = variable_info v.word (plain ty) v.start;
        scalar = (v.named, isin.0);
        shape = isin.0;
        living = isin.1;
        word = st.scalar x;
        gives = ap (λ (w : Value). Source.Gives w st) (read_is g has alive st ty x isin.0);
        small = small x (variable_info v.word (plain ty) v.start) isin.1 (v.named, isin.0);
        same = refl;
      })
  own_is bits (T.Brackets' ty p inner) own st h v small is =
      let o = own_is bits inner own st h.1 v small is in
      record { info = o.info; scalar = o.scalar; shape = o.shape; living = o.living; word = o.word; gives = o.gives; small = subst (λ (y : ValueType). o.word < 2 ^ y.elem.bits) (sym h.0) o.small; same = ap (λ (y : ValueType). held y.elem o.word) h.0 ∙ o.same }
  own_is bits (T.Convert' ty p operand) own st h v small is = by (is_unchanged bits ty.elem (is_kept operand)) refl is (λ e. own_is bits operand own st h.1 v small e)
    where
      by : (b : Bool) → is_unchanged bits ty.elem (is_kept operand) ≡ b → (if b then own_of bits operand else None) ≡ Some own → (own_of bits operand ≡ Some own → OwnIs operand own st) → OwnIs (T.Convert' ty p operand) own st
      by false so e rest = cc
      by true so e rest =
          let o = rest e in
          let wide : ty.elem.bits ≡ 32 = unchanged_wide bits ty.elem (is_kept operand) (kept (naming g.may alive) operand h.1) so in
          let below : converted ty.elem (type_of operand).elem o.word < 2 ^ ty.elem.bits = converted_below ty.elem (type_of operand).elem o.word in
          let few : converted ty.elem (type_of operand).elem o.word < 2 ^ 32 = below_word ty.elem.bits (converted ty.elem (type_of operand).elem o.word) wide below in
          record {
            info = o.info;
            scalar = o.scalar;
            shape = o.shape;
            living = o.living;
            word = converted ty.elem (type_of operand).elem o.word;
            gives = ap (λ (r : Outcome Value). then_do r (λ v after. Source.Gives (convert_to ty (type_of operand).elem v) after)) o.gives ∙ ap (λ (w : Value). Source.Gives w st) (conversion_is g has alive ty (type_of operand).elem (Scalar o.word) h.0);
            small = below;
            same = held_wide ty.elem (converted ty.elem (type_of operand).elem o.word) wide few ∙ held_converted ty.elem (type_of operand).elem o.word wide ∙ o.same;
          }
  own_is bits (T.GetChar ty) own st h v small is = cc
  own_is bits (T.Casts' ty elems p operand) own st h v small is = cc
  own_is bits (T.Number ty value) own st h v small is = cc
  own_is bits (T.PositionsOf ty shape value) own st h v small is = cc
  own_is bits (T.RankOf ty shape value) own st h v small is = cc
  own_is bits (T.DimOf ty shape axis value) own st h v small is = cc
  own_is bits (T.Unary' ty op p operand) own st h v small is = cc
  own_is bits (T.Binary' ty place op p left q right) own st h v small is = cc
  own_is bits (T.LogicalOr' ty p left q right) own st h v small is = cc
  own_is bits (T.LogicalAnd' ty p left q right) own st h v small is = cc
  own_is bits (T.Choice' ty p test q first r second) own st h v small is = cc
  own_is bits (T.Assign' ty place op p target q value) own st h v small is = cc
  own_is bits (T.Step' ty op order p target) own st h v small is = cc
  own_is bits (T.Call' ty index p arguments) own st h v small is = cc
  own_is bits (T.Reduce' ty op p operand) own st h v small is = cc
  own_is bits (T.LeftIndex' ty place p indexes x of) own st h v small is = cc
  own_is bits _ own st h v small is = absurd h

  -- an operand where it stands, or by its code
  pub operand_follows : (quiet : Bool) (bits : ℕ) (e : TExpr) (code : Code) → (IsIn (naming g.may alive)) e → NamesVariables g.typed g.instance n e → Does g has alive (type_of e).elem quiet (λ st. evaluated scope e active st) code
      → Does g has alive (type_of e).elem quiet (λ st. evaluated scope e active st) (λ d. operand_by g.typed (layout g) bits code quiet e d)
  unfolding operand_by in_place standing Follows
  operand_follows quiet bits e code isin names does d s st free here sim = by_held (held_in (layout g) e) refl
    where
      by_place : (b : Bool) → quiet ≡ b → (o : Option Own) → (if b then own_of bits e else None) ≡ o → Follows g (Value_of g has alive (type_of e).elem quiet d s) s (evaluated scope e active st) (elim o as (λ _. Made Out) [ Some own ↦ standing g.typed (layout g) bits own d | None ↦ code d ])
      by_place b is_quiet None is = does d s st free here sim
      by_place false is_quiet (Some own) is = cc
      by_place true is_quiet (Some own) is =
          let o = own_is bits e own st isin names sim.small is in
          subst (λ (made : Made Out). Follows g (Value_of g has alive (type_of e).elem quiet d s) s (evaluated scope e active st) made)
          (sym (ap (λ (shape : Option ℕ). elim shape as (λ _. Made Out) [ None ↦ Makes (O.Scalar (register_of (layout g) own.variable)) d | Some _ ↦ then_make (field_of g.typed (layout g) own.variable 0 d) (λ f after. Makes (O.Field (first_bits bits f)) after) ]) o.shape))
          (subst (λ (r : Outcome Value). Follows g (Value_of g has alive (type_of e).elem quiet d s) s r (Makes (O.Scalar (register_of (layout g) own.variable)) d)) (sym o.gives) (λ within. record {
            extended = (0, as_it_was d);
            t = s;
            go = stay g s;
            at = here;
            sim = sim;
            keeps = keeps_all g d s;
            holds = record {
              register = register_of (layout g) own.variable;
              word = o.word;
              is = refl;
              value = refl;
              small = o.small;
              lasts = λ u t later stays same. later.scalars own.variable o.info o.living o.scalar ∙ ap (λ (v : State). held o.info.elem (v.scalar own.variable)) (same is_quiet) ∙ sym o.same;
            };
          }))

      by_held : (o : Option ℕ) → held_in (layout g) e ≡ o
          → Follows g (Value_of g has alive (type_of e).elem quiet d s) s (evaluated scope e active st) (elim o as (λ _. Made Out) [ Some r ↦ Makes (O.Scalar r) d | None ↦ elim (if quiet then own_of bits e else None) as (λ _. Made Out) [ Some own ↦ standing g.typed (layout g) bits own d | None ↦ code d ] ])
      by_held None is = by_place quiet refl (if quiet then own_of bits e else None) refl
      by_held (Some r) is =
          let h = held_stands (layout g) e r is in
          let few : h.word < 2 ^ (type_of e).elem.bits = subst (λ (o : Option ℕ). IfSome o (λ v. v < 2 ^ (type_of e).elem.bits)) h.value (constant_below (naming g.may alive) e isin) in
          let gives : evaluated scope e active st ≡ Source.Gives (Scalar h.word) st = subst (λ (o : Option ℕ). Const.IsValueOf e o) h.value (value_means e h.constant) scope active st in
          subst (λ (o : Outcome Value). Follows g (Value_of g has alive (type_of e).elem quiet d s) s o (Makes (O.Scalar r) d)) (sym gives) (λ within. record {
            extended = (0, as_it_was d);
            t = s;
            go = stay g s;
            at = here;
            sim = sim;
            keeps = keeps_all g d s;
            holds = record {
              register = r;
              word = h.word;
              is = refl;
              value = refl;
              small = few;
              lasts = λ u t later stays same. later.constants (held (type_of e).elem h.word) r h.register;
            };
          })

  -- brackets keep the value
  bracketed : (ty : ValueType) (inner : TExpr) (quiet : Bool) (part : State → Outcome Value) (code : Code) → ty ≡ type_of inner → Does g has alive (type_of inner).elem quiet part code → Does g has alive ty.elem quiet part code
  bracketed ty inner quiet part code same does = subst (λ (y : ValueType). Does g has alive y.elem quiet part code) (sym same) does

  plus_gives : (ty : ValueType) (quiet : Bool) (from : Elem) (code : Code) (part : State → Outcome Value) → IsWord ty → from.bits ≡ 32 → Does g has alive from quiet part code
      → Does g has alive ty.elem quiet (λ st. then_do (part st) (λ v after. Source.Gives (mapped ty (unary_of U.Plus) v) after)) code
  unfolding unary_of at
  plus_gives ty quiet from code part word wide does d s st free here sim =
      then_gives g (Value_of g has alive from quiet d s) (Value_of g has alive ty.elem quiet d s) s (part st) (λ v. mapped ty (unary_of U.Plus) v) (code d) (does d s st free here sim) (λ v u out e arr. goes v u out e arr)
    where
      goes : (v : Value) (u : State) (out : Out) (e : Draft) → Arrives g alive from quiet d s v u out e → Arrives g alive ty.elem quiet d s (mapped ty (unary_of U.Plus) v) u out e
      goes v u out e arr =
          let small : at v 0 < 2 ^ 32 = subst (λ (x : Value). at x 0 < 2 ^ 32) (sym arr.holds.value) (below_word from.bits arr.holds.word wide arr.holds.small) in
          subst (λ (x : Value). Arrives g alive ty.elem quiet d s x u out e) (sym (mapped_is g has alive ty (unary_of U.Plus) v word.0))
          (rewrapped g has alive ty.elem from quiet d e s v (at v 0) u out arr (held_wide ty.elem (at v 0) word.1 small ∙ sym (held_wide from (at v 0) wide small)) (below_bits ty.elem.bits (at v 0) word.1 small))

  -- what has code of its parts
  pub unary_code : (ty : ValueType) (op : UnaryOp) (p : Boxed) (operand : TExpr) → HasCode g.typed g.instance n (T.Unary' ty op p operand) → HasCode g.typed g.instance n operand
  unfolding IsShaped IsLowerable NamesVariables
  unary_code ty op p operand h = record { shaped = h.shaped.1; lowerable = h.lowerable.1; names = h.names }

  pub brackets_code : (ty : ValueType) (p : Boxed) (inner : TExpr) → HasCode g.typed g.instance n (T.Brackets' ty p inner) → HasCode g.typed g.instance n inner
  unfolding IsShaped IsLowerable NamesVariables
  brackets_code ty p inner h = record { shaped = h.shaped.1; lowerable = h.lowerable; names = h.names }

  pub convert_code : (ty : ValueType) (p : Boxed) (operand : TExpr) → HasCode g.typed g.instance n (T.Convert' ty p operand) → HasCode g.typed g.instance n operand
  unfolding IsShaped IsLowerable NamesVariables
  convert_code ty p operand h = record { shaped = h.shaped.1; lowerable = h.lowerable.1; names = h.names }

  pub casts_code : (ty : ValueType) (elems : Vec Elem Global) (p : Boxed) (operand : TExpr) → HasCode g.typed g.instance n (T.Casts' ty elems p operand) → HasCode g.typed g.instance n operand
  unfolding IsShaped IsLowerable NamesVariables
  casts_code ty elems p operand h = record { shaped = h.shaped.1; lowerable = h.lowerable.1; names = h.names }

  pub left_code : (ty : ValueType) (place : Place) (op : Op) (p q : Boxed) (left right : TExpr) → HasCode g.typed g.instance n (T.Binary' ty place op p left q right) → HasCode g.typed g.instance n left
  unfolding IsShaped IsLowerable NamesVariables
  left_code ty place op p q left right h = record { shaped = h.shaped.0; lowerable = h.lowerable.2; names = h.names.0 }

  pub right_code : (ty : ValueType) (place : Place) (op : Op) (p q : Boxed) (left right : TExpr) → HasCode g.typed g.instance n (T.Binary' ty place op p left q right) → HasCode g.typed g.instance n right
  unfolding IsShaped IsLowerable NamesVariables
  right_code ty place op p q left right h = record { shaped = h.shaped.1; lowerable = h.lowerable.3; names = h.names.1 }

  -- what the target of an assignment or a step names
  pub assign_names : (ty : ValueType) (place : Place) (op : AssignOp) (p q : Boxed) (target value : TExpr) → HasCode g.typed g.instance n (T.Assign' ty place op p target q value) → NamesVariables g.typed g.instance n target × HasCode g.typed g.instance n value
  unfolding NamesVariables IsShaped IsLowerable
  assign_names ty place op p q target value c = (c.names.0, record { shaped = c.shaped.3; lowerable = c.lowerable.3; names = c.names.1 })

  pub step_names : (ty : ValueType) (op : StepOp) (order : StepOrder) (p : Boxed) (target : TExpr) → HasCode g.typed g.instance n (T.Step' ty op order p target) → NamesVariables g.typed g.instance n target
  unfolding NamesVariables
  step_names ty op order p target c = c.names

  assigned_place : (ty : ValueType) (place : Place) (op : AssignOp) (p q : Boxed) (target value : TExpr) → HasCode g.typed g.instance n (T.Assign' ty place op p target q value) → IsPlace g.typed g.instance n target
  unfolding IsShaped IsLowerable NamesVariables
  assigned_place ty place op p q target value c = record { target = c.shaped.2; lowerable = c.lowerable.2; names = c.names.0 }

  stepped_place : (ty : ValueType) (op : StepOp) (order : StepOrder) (p : Boxed) (target : TExpr) → HasCode g.typed g.instance n (T.Step' ty op order p target) → IsPlace g.typed g.instance n target
  unfolding IsShaped IsLowerable NamesVariables
  stepped_place ty op order p target c = record { target = c.shaped.1; lowerable = c.lowerable.1; names = c.names }

  pub operand_grows : (quiet : Bool) (bits : ℕ) (e : TExpr) → HasCode g.typed g.instance n e → (d : Draft) → Extends g d (operand_by g.typed (layout g) bits (value_of g.typed (layout g) bits e) quiet e d)
  operand_grows quiet bits e h d = extends_grown g has alive _ d _ _ ((lengths_if_made g.typed g.instance (layout g)).operand bits n quiet e d h (ready d))

  pub named : (ty : ValueType) (x : Variable) → HasCode g.typed g.instance n (T.Variable ty x) → HasVariable g.typed g.instance n x (plain ty)
  unfolding NamesVariables
  named ty x c = c.names

  converts : (ty : ValueType) (quiet : Bool) (bits : ℕ) (p : Boxed) (operand : TExpr) → is_kept operand ≡ true
      → Does g has alive ty.elem quiet (λ st. evaluated scope (T.Convert' ty p operand) active st) (λ d. register_cast_by ty.elem (λ e. value_of g.typed (layout g) bits operand e) d)
      → Does g has alive ty.elem quiet (λ st. evaluated scope (T.Convert' ty p operand) active st) (λ d. value_of g.typed (layout g) bits (T.Convert' ty p operand) d)
  unfolding value_of
  converts ty quiet bits p operand is does d s st free here sim =
      subst (λ (made : Made Out). Follows g (Value_of g has alive ty.elem quiet d s) s (evaluated scope (T.Convert' ty p operand) active st) made)
      (sym (ap (λ (b : Bool). if b then register_cast_by ty.elem (λ e. value_of g.typed (layout g) bits operand e) d else cast_from g.typed (layout g) bits ty operand (λ e. truth_of g.typed (layout g) operand e) (λ m e. value_of g.typed (layout g) m operand e) d) is))
      (does d s st free here sim)

  unary_value : (ty : ValueType) (quiet : Bool) (bits : ℕ) (op : UnaryOp) (operand : TExpr) → IsWord ty → IsOperand op (type_of operand) → Agrees quiet bits operand
      → Does g has alive (type_of operand).elem true (λ st. evaluated scope operand active st) (λ d. operand_by g.typed (layout g) (unary_bits bits op operand) (value_of g.typed (layout g) (unary_bits bits op operand) operand) true operand d)
      → Does g has alive ty.elem quiet (λ st. then_do (evaluated scope operand active st) (λ v after. Source.Gives (mapped ty (unary_of op) v) after))
      (λ d. unary_by (layout g) ty bits op (λ e. value_of g.typed (layout g) bits operand e) (λ e. operand_by g.typed (layout g) (unary_bits bits op operand) (value_of g.typed (layout g) (unary_bits bits op operand) operand) true operand e) d)
  unfolding unary_by is_plus IsOperand
  unary_value ty quiet bits U.Plus operand word its value does = plus_gives ty quiet (type_of operand).elem _ (λ st. evaluated scope operand active st) word its.1 value
  unary_value ty quiet bits U.Minus operand word its value does = unary_follows g has alive ty U.Minus (type_of operand).elem (unary_same U.Minus (type_of operand) its) word refl quiet (λ e. value_of g.typed (layout g) bits operand e) (λ e. operand_by g.typed (layout g) (unary_bits bits U.Minus operand) (value_of g.typed (layout g) (unary_bits bits U.Minus operand) operand) true operand e) (λ st. evaluated scope operand active st) bits does
  unary_value ty quiet bits U.Complement operand word its value does = unary_follows g has alive ty U.Complement (type_of operand).elem (unary_same U.Complement (type_of operand) its) word refl quiet (λ e. value_of g.typed (layout g) bits operand e) (λ e. operand_by g.typed (layout g) (unary_bits bits U.Complement operand) (value_of g.typed (layout g) (unary_bits bits U.Complement operand) operand) true operand e) (λ st. evaluated scope operand active st) bits does
  unary_value ty quiet bits U.Not operand word its value does = unary_follows g has alive ty U.Not (type_of operand).elem (unary_same U.Not (type_of operand) its) word refl quiet (λ e. value_of g.typed (layout g) bits operand e) (λ e. operand_by g.typed (layout g) (unary_bits bits U.Not operand) (value_of g.typed (layout g) (unary_bits bits U.Not operand) operand) true operand e) (λ st. evaluated scope operand active st) bits does

  -- on a register it is done as itself
  done_value : (ty : ValueType) (quiet : Bool) (bits : ℕ) (op : UnaryOp) (operand : TExpr) (part : State → Outcome Value) (code second : Code) → is_kept operand ≡ true
      → Does g has alive ty.elem quiet part (λ d. unary_by (layout g) ty bits op code second d) → Does g has alive ty.elem quiet part (λ d. unary_by (layout g) ty bits (done_as bits op operand) code second d)
  done_value ty quiet bits op operand part code second is does =
      subst (λ (o : UnaryOp). Does g has alive ty.elem quiet part (λ d. unary_by (layout g) ty bits o code second d)) (sym (done_in_register bits op operand is)) does

  -- the register of a value is a fresh one
  fresh_converted : (ty : ValueType) (bits : ℕ) (p : Boxed) (operand : TExpr) → is_kept operand ≡ true → (d : Draft) → IsFresh d (value_of g.typed (layout g) bits operand d) → IsFresh d (value_of g.typed (layout g) bits (T.Convert' ty p operand) d)
  unfolding value_of
  fresh_converted ty bits p operand is d fresh =
      subst (λ (made : Made Out). IsFresh d made)
      (sym (ap (λ (b : Bool). if b then register_cast_by ty.elem (λ e. value_of g.typed (layout g) bits operand e) d else cast_from g.typed (layout g) bits ty operand (λ e. truth_of g.typed (layout g) operand e) (λ m e. value_of g.typed (layout g) m operand e) d) is))
      (fresh_conversion g has alive ty.elem (λ e. value_of g.typed (layout g) bits operand e) d fresh)

  -- the operands of `&&` and of `||` have code that gives values
  record AreOperands (left right : TExpr) : Type 0 where
    pub one : HasCode g.typed g.instance n left
    pub other : HasCode g.typed g.instance n right
    pub one_gives : GivesValue g.typed left
    pub other_gives : GivesValue g.typed right

  or_operands : (ty : ValueType) (p q : Boxed) (left right : TExpr) → HasCode g.typed g.instance n (T.LogicalOr' ty p left q right) → AreOperands left right
  unfolding IsShaped IsLowerable NamesVariables
  or_operands ty p q left right h = record {
    one = record { shaped = h.shaped.0; lowerable = h.lowerable.1; names = h.names.0 };
    other = record { shaped = h.shaped.1; lowerable = h.lowerable.2; names = h.names.1 };
    one_gives = h.lowerable.0.left_gives;
    other_gives = h.lowerable.0.right_gives;
  }

  and_operands : (ty : ValueType) (p q : Boxed) (left right : TExpr) → HasCode g.typed g.instance n (T.LogicalAnd' ty p left q right) → AreOperands left right
  unfolding IsShaped IsLowerable NamesVariables
  and_operands ty p q left right h = record {
    one = record { shaped = h.shaped.0; lowerable = h.lowerable.1; names = h.names.0 };
    other = record { shaped = h.shaped.1; lowerable = h.lowerable.2; names = h.names.1 };
    one_gives = h.lowerable.0.left_gives;
    other_gives = h.lowerable.0.right_gives;
  }

  -- the condition and the arms of `?:` have code that gives values
  pub record AreChosen (test first second : TExpr) : Type 0 where
    pub condition : HasCode g.typed g.instance n test
    pub one : HasCode g.typed g.instance n first
    pub other : HasCode g.typed g.instance n second
    pub condition_gives : GivesValue g.typed test
    pub one_gives : GivesValue g.typed first
    pub other_gives : GivesValue g.typed second

  pub choice_parts : (ty : ValueType) (p q r : Boxed) (test first second : TExpr) → HasCode g.typed g.instance n (T.Choice' ty p test q first r second) → AreChosen test first second
  unfolding IsShaped IsLowerable NamesVariables
  choice_parts ty p q r test first second h = record {
    condition = record { shaped = h.shaped.0; lowerable = h.lowerable.4; names = h.names.0 };
    one = record { shaped = h.shaped.1; lowerable = h.lowerable.5; names = h.names.1 };
    other = record { shaped = h.shaped.2; lowerable = h.lowerable.6; names = h.names.2 };
    condition_gives = h.lowerable.0;
    one_gives = h.lowerable.2.gives;
    other_gives = h.lowerable.3.gives;
  }

  condition_grows : (e : TExpr) → HasCode g.typed g.instance n e → (d : Draft) → Extends g d ((condition_of g.typed (layout g) e).code d)
  unfolding condition_by
  condition_grows e c d = operand_grows true (bits_of (kind_of e)) e c d

  -- an assignment and a step as values
  other_grows : (m k : ℕ) (e : TExpr) → HasCode g.typed g.instance n e → (d : Draft) → Extends g d (operand_by g.typed (layout g) m (value_of g.typed (layout g) k e) true e d)
  other_grows m k e c d = extends_grown g has alive _ d _ _ (operand_grown (Unit {0}) g.typed g.instance (layout g) n m true e (value_of g.typed (layout g) k e) _ d c (ready d) ((lengths_if_made g.typed g.instance (layout g)).value k n e d c (ready d)))

  fresh_assign : (bits : ℕ) (ty : ValueType) (place : Place) (op : AssignOp) (p q : Boxed) (target value : TExpr) → TargetIs g alive n target → NamesVariables g.typed g.instance n target → (IsIn (naming g.may alive)) value → HasCode g.typed g.instance n value
      → ((m : ℕ) (d : Draft) → IsFresh d (value_of g.typed (layout g) m value d)) → (d : Draft) → IsFresh d (value_of g.typed (layout g) bits (T.Assign' ty place op p target q value) d)
  fresh_assign bits ty place op p q target value v names isin c fresh d =
      let w = v.named names in
      let m : ℕ = taken_bits bits op (bare_target g alive n target v) value in
      subst (λ (made : Made Out). IsFresh d made) (sym (assign_code g alive n target v ty place op p q value bits d))
      (fresh_assigned g has alive v.variable (variable_info w.word (plain (type_of target)) w.start) v.living (w.named, v.scalar) place op (T.Assign' ty place op p target q value) value bits (λ e. value_of g.typed (layout g) m value e) d (kept (naming g.may alive) value isin)
      (fresh m d) (λ k b. other_grows k m value c b))

  fresh_step : (bits : ℕ) (ty : ValueType) (op : StepOp) (order : StepOrder) (p : Boxed) (target : TExpr) → TargetIs g alive n target → NamesVariables g.typed g.instance n target → (d : Draft) → IsFresh d (value_of g.typed (layout g) bits (T.Step' ty op order p target) d)
  fresh_step bits ty op order p target v names d =
      let w = v.named names in
      subst (λ (made : Made Out). IsFresh d made) (sym (step_code g alive n target v ty op order p bits d))
      (fresh_stepped g has alive v.variable (variable_info w.word (plain (type_of target)) w.start) v.living (w.named, v.scalar) scope active op order (T.Step' ty op order p target) bits d)

  -- to a variable or at a position
  fresh_assigning : (bits : ℕ) (ty : ValueType) (place : Place) (op : AssignOp) (p q : Boxed) (target value : TExpr) → IsVariable (naming g.may alive) target ⊎ IsPosition (naming g.may alive) target → (IsIn (naming g.may alive)) value → HasCode g.typed g.instance n (T.Assign' ty place op p target q value)
      → ((m : ℕ) (d : Draft) → IsFresh d (value_of g.typed (layout g) m value d)) → (d : Draft) → IsFresh d (value_of g.typed (layout g) bits (T.Assign' ty place op p target q value) d)
  unfolding IsPosition
  fresh_assigning bits ty place op p q target value (inl h) isin c fresh d =
      let names = assign_names ty place op p q target value c in
      fresh_assign bits ty place op p q target value (variable_in g alive n target h) names.0 isin names.1 fresh d
  fresh_assigning bits ty place op p q (T.LeftIndex' left at r indexes x of) value (inr h) isin c fresh d =
      store_fresh g n left at r indexes x of (assigned_left g n left at r indexes x of ty place op p q value c) h.0 has alive ready ty place op p q value bits (kept (naming g.may alive) value isin) fresh (λ m k b. other_grows m k value (assign_names ty place op p q (T.LeftIndex' left at r indexes x of) value c).1 b) d
  fresh_assigning bits ty place op p q _ value (inr h) isin c fresh d = absurd h

  fresh_stepping : (bits : ℕ) (ty : ValueType) (op : StepOp) (order : StepOrder) (p : Boxed) (target : TExpr) → IsVariable (naming g.may alive) target ⊎ IsPosition (naming g.may alive) target → HasCode g.typed g.instance n (T.Step' ty op order p target) → (d : Draft) → IsFresh d (value_of g.typed (layout g) bits (T.Step' ty op order p target) d)
  unfolding IsPosition
  fresh_stepping bits ty op order p target (inl h) c d = fresh_step bits ty op order p target (variable_in g alive n target h) (step_names ty op order p target c) d
  fresh_stepping bits ty op order p (T.LeftIndex' left at r indexes x of) (inr h) c d = step_fresh g n left at r indexes x of (stepped_left g n left at r indexes x of ty op order p c) h.0 has alive ready ty op order p bits d
  fresh_stepping bits ty op order p _ (inr h) c d = absurd h

  -- the code of a fold puts its number in a fresh register
  abbrev folded : ReduceOp → TExpr → Code
  folded op operand d = next_of g.typed (layout g) (reduced_bits op operand) true operand d

  abbrev sends_fold : TExpr → ℕ → Out → Draft → Made Out
  sends_fold e r v d = communicated g.typed (layout g) e O.Nothing (v ∷ []) (O.Scalar r) d

  fold_code : (ty : ValueType) (op : ReduceOp) (p : Boxed) (operand : TExpr) (bits : ℕ) → ty.shape ≡ None → (d : Draft) → value_of g.typed (layout g) bits (T.Reduce' ty op p operand) d ≡ computed_to g.typed (layout g) (O.Scalar d.regs) (T.Reduce' ty op p operand) (with_reg d)
  unfolding value_of computed_to message_by message_to gone_to lowest shortened fresh_for a_register then_make communicated reduced part_field from in_field in_register out-TExpr Carrier.out
  fold_code ty op p operand bits scalar d =
      ap (λ (o : Option ℕ). then_make (fresh_for o 32 d) (λ dest begun. lowest bits (message_to g.typed (layout g) (T.Reduce' ty op p operand) (folded op operand) dest begun))) scalar ∙ by (folded op operand (with_reg d))
    where
      e : TExpr
      e = T.Reduce' ty op p operand

      by : (made : Made Out) → lowest bits (then_make made (λ v after. sends_fold e d.regs v after)) ≡ gone_to (O.Scalar d.regs) (then_make made (λ v after. sends_fold e d.regs v after))
      by (Makes (O.Field f) after) = refl
      by (Makes (O.Scalar r) after) = refl
      by (Makes O.Nothing after) = refl
      by Fails = refl

  -- So is what is put in a register that is given: its code begins with that of a fresh one.
  abbrev BeginsFresh : ℕ → TExpr → Type 0
  BeginsFresh bits e = (d : Draft) → value_of g.typed (layout g) bits e d ≡ computed_to g.typed (layout g) (O.Scalar d.regs) e (with_reg d)

  put_fresh : (bits : ℕ) (e : TExpr) (part : ℕ → Draft → Made Out) → BeginsFresh bits e → ((r : ℕ) (d : Draft) → put_to g.typed (layout g) (O.Scalar r) e d ≡ gone_to (O.Scalar r) (part r d)) → ((r : ℕ) (d : Draft) → computed_to g.typed (layout g) (O.Scalar r) e d ≡ gone_to (O.Scalar r) (part r d))
      → InRegister g.typed e → HasCode g.typed g.instance n e → (d : Draft) → IsFresh d (value_of g.typed (layout g) bits e d)
  unfolding gone_to then_make IsFresh Extends
  put_fresh bits e part begins puts computes stands c d =
      subst (λ (made : Made Out). IsFresh d made) (sym (begins d ∙ computes d.regs (with_reg d)))
      (by (part d.regs (with_reg d)) (subst (λ (made : Made Out). Extends g (with_reg d) made) (puts d.regs (with_reg d)) (extends_grown g has alive _ (with_reg d) _ _ ((lengths_if_made g.typed g.instance (layout g)).put_register d.regs n e (with_reg d) c stands (ready (with_reg d))))))
    where
      by : (made : Made Out) → Extends g (with_reg d) (gone_to (O.Scalar d.regs) made) → IsFresh d (gone_to (O.Scalar d.regs) made)
      by (Makes v e) grows = let regs = grows.1.regs in (omega arith, omega (arith, regs))
      by Fails grows = tt

  -- and its value follows where it does in any register that is to have it
  put_value : (quiet : Bool) (bits : ℕ) (e : TExpr) → BeginsFresh bits e
      → ((d : Draft) (s : CodeState) (st : State) (R : Value → State → Out → Draft → Type 0) (r : ℕ) → Begun g alive d → At g s (length d.code) → Sim g alive st s → Dest g has alive (type_of e).elem d s R r → Follows g R s (evaluated scope e active st) (computed_to g.typed (layout g) (O.Scalar r) e d)) → Agrees quiet bits e
  put_value quiet bits e begins puts d s st free here sim =
      subst (λ (made : Made Out). Follows g (Value_of g has alive (type_of e).elem quiet d s) s (evaluated scope e active st) made) (sym (begins d))
      (puts (with_reg d) s st (Value_of g has alive (type_of e).elem quiet d s) d.regs (begun_later g alive d (with_reg d) 0 (and_register d) free) here sim (fresh_dest g has alive (type_of e).elem quiet d s free))

  fold_fresh : (ty : ValueType) (op : ReduceOp) (p : Boxed) (operand : TExpr) (bits : ℕ) → ty.shape ≡ None → HasCode g.typed g.instance n (T.Reduce' ty op p operand) → (d : Draft) → IsFresh d (value_of g.typed (layout g) bits (T.Reduce' ty op p operand) d)
  unfolding computed_to put_to word_for register_word constant_of is_constant is_kept GivesValue
  fold_fresh ty op p operand bits scalar c =
      put_fresh bits (T.Reduce' ty op p operand) (λ r d. message_to g.typed (layout g) (T.Reduce' ty op p operand) (folded op operand) (O.Scalar r) d) (fold_code ty op p operand bits scalar) (λ r d. refl) (λ r d. refl) (tt, ap is_none scalar) c

  -- a read of one position
  read_code : (ty : ValueType) (place : Place) (p : _) (indexes : Row_of-TExpr _) (x : Variable) (of bits : ℕ) → ty.shape ≡ None → BeginsFresh bits (T.LeftIndex' ty place p indexes x of)
  unfolding value_of spot_of computed_to index_read_by index_read_to fresh_for a_register then_make goes_by_news out-TExpr Carrier.out
  read_code ty place p indexes x of bits scalar d =
      ap (λ (o : Option ℕ). then_make (fresh_for o bits d) (λ dest begun. index_read_to g.typed (layout g) e (λ b. spot_of g.typed (layout g) e b) dest begun)) scalar
      ∙ ap reads by_router ∙ read_gone g.typed (layout g) e (λ b. spot_of g.typed (layout g) e b) d.regs (with_reg d) ∙ sym (ap (λ (b : Bool). gone_to (O.Scalar d.regs) (reads b)) by_router)
    where
      e : TExpr
      e = T.LeftIndex' ty place p indexes x of

      reads : Bool → Made Out
      reads b = if b then news_to g.typed (layout g) e (O.Scalar d.regs) (with_reg d) else read_to g.typed (layout g) e (λ b. spot_of g.typed (layout g) e b) (O.Scalar d.regs) (with_reg d)

      by_router : goes_by_news e ≡ false
      by_router = ap (λ (xs : List TExpr). is_some ty.shape && all_go_by_news of 0 xs) (items_shown-the_row-TExpr-0 p indexes) ∙ ap (λ (o : Option ℕ). is_some o && all_go_by_news of 0 (items-the_row-TExpr _ indexes)) scalar

  pub index_code : (ty : ValueType) (place : Place) (p : _) (indexes : Row_of-TExpr _) (x : Variable) (of : ℕ) → HasCode g.typed g.instance n (T.LeftIndex' ty place p indexes x of) → HaveCode g.typed g.instance n indexes
  unfolding IsShaped IsLowerable NamesVariables
  index_code ty place p indexes x of c = arguments_code g has alive n files ready scope active calls_follow indexes c.shaped c.lowerable.2 c.names.1

  read_fresh : (ty : ValueType) (place : Place) (p : _) (indexes : Row_of-TExpr _) (x : Variable) (of bits : ℕ) → ty.shape ≡ None → HasCode g.typed g.instance n (T.LeftIndex' ty place p indexes x of) → (d : Draft) → IsFresh d (value_of g.typed (layout g) bits (T.LeftIndex' ty place p indexes x of) d)
  unfolding computed_to put_to word_for register_word constant_of is_constant is_kept GivesValue
  read_fresh ty place p indexes x of bits scalar c =
      put_fresh bits (T.LeftIndex' ty place p indexes x of) (λ r d. index_read_to g.typed (layout g) (T.LeftIndex' ty place p indexes x of) (λ b. spot_of g.typed (layout g) (T.LeftIndex' ty place p indexes x of) b) (O.Scalar r) d)
      (read_code ty place p indexes x of bits scalar) (λ r d. refl) (λ r d. refl) (tt, ap is_none scalar) c

  fresh_value : (bits : ℕ) (e : TExpr) → (IsIn (naming g.may alive)) e → HasCode g.typed g.instance n e → (d : Draft) → IsFresh d (value_of g.typed (layout g) bits e d)
  unfolding value_of IsIn
  fresh_value bits (T.Number ty value) h c d = fresh_constant g has alive value d
  fresh_value bits (T.PositionsOf ty shape value) h c d = fresh_constant g has alive value d
  fresh_value bits (T.RankOf ty shape value) h c d = fresh_constant g has alive value d
  fresh_value bits (T.DimOf ty shape axis value) h c d = fresh_constant g has alive value d
  fresh_value bits (T.Variable ty x) h c d = fresh_variable g has alive ty x bits d h.0
  fresh_value bits (T.GetChar ty) h c d = fresh_byte g has alive d
  fresh_value bits (T.Brackets' ty p inner) h c d = fresh_value bits inner h.1 (brackets_code ty p inner c) d
  fresh_value bits (T.Convert' ty p operand) h c d = fresh_converted ty bits p operand (kept (naming g.may alive) operand h.1) d (fresh_value bits operand h.1 (convert_code ty p operand c) d)
  fresh_value bits (T.Casts' ty elems p operand) h c d = fresh_casts g has alive ty false elems.items (type_of operand).elem h.0 h.1 (λ e. value_of g.typed (layout g) bits operand e) d (fresh_value bits operand h.2 (casts_code ty elems p operand c) d)
  fresh_value bits (T.Unary' ty op p operand) h c d =
      fresh_unary g has alive ty bits (done_as bits op operand) (λ e. value_of g.typed (layout g) bits operand e) _ d h.0.0 (fresh_value bits operand h.1 (unary_code ty op p operand c) d) (operand_grows true (unary_bits bits op operand) operand (unary_code ty op p operand c))
  fresh_value bits (T.Binary' ty place op p left q right) h c d =
      fresh_binary g has alive ty bits op place _ _ left right d h.0.0 (operand_grows (is_quiet right) (operand_bits bits op left right) left (left_code ty place op p q left right c)) (operand_grows true (operand_bits bits op left right) right (right_code ty place op p q left right c))
  fresh_value bits (T.LogicalOr' ty p left q right) h c d = fresh_logical g has alive true ty.shape bits (condition_of g.typed (layout g) left) (condition_of g.typed (layout g) right) d h.0.0 (condition_grows left (or_operands ty p q left right c).one) (condition_grows right (or_operands ty p q left right c).other)
  fresh_value bits (T.LogicalAnd' ty p left q right) h c d = fresh_logical g has alive false ty.shape bits (condition_of g.typed (layout g) left) (condition_of g.typed (layout g) right) d h.0.0 (condition_grows left (and_operands ty p q left right c).one) (condition_grows right (and_operands ty p q left right c).other)
  fresh_value bits (T.Choice' ty p test q first r second) h c d =
      let parts = choice_parts ty p q r test first second c in
      fresh_choice g has alive ty bits (is_kept test) _ _ _ first second _ _ d h.0.0 (kept (naming g.may alive) test h.1) (operand_grows (is_kept test || is_quiet first) (bits_of (kind_of test)) test parts.condition) (operand_grows true bits first parts.one) (operand_grows true bits second parts.other)
  fresh_value bits (T.Assign' ty place op p target q value) h c d =
      let names = assign_names ty place op p q target value c in
      fresh_assigning bits ty place op p q target value h.2 h.3 c (λ m e. fresh_value m value h.3 names.1 e) d
  fresh_value bits (T.Step' ty op order p target) h c d = fresh_stepping bits ty op order p target h.2 c d
  fresh_value bits (T.Call' ty index p arguments) h c d = fresh_call g has alive n files ready scope active calls_follow bits ty index p arguments h.0 h.1 c d
  fresh_value bits (T.Reduce' ty op p operand) h c d = fold_fresh ty op p operand bits h.0.0 c d
  fresh_value bits (T.LeftIndex' ty place p indexes x of) h c d = read_fresh ty place p indexes x of bits h.0 c d
  fresh_value bits _ h c d = absurd h

  -- an operand in its place leaves its register alone
  clear_operand : (bits : ℕ) (e : TExpr) (code : Code) → (IsIn (naming g.may alive)) e → NamesVariables g.typed g.instance n e → ((d : Draft) → IsFresh d (code d)) → (st : State) → ((x : Variable) (info : VarInfo) → alive x → IsScalar g x info → st.scalar x < 2 ^ info.elem.bits)
      → (d : Draft) → IsClear (layout g) d (operand_by g.typed (layout g) bits code true e d)
  unfolding operand_by in_place standing IsClear
  clear_operand bits e code isin names fresh st small d = by_held (held_in (layout g) e) refl
    where
      by_place : (o : Option Own) → own_of bits e ≡ o → IsClear (layout g) d (elim o as (λ _. Made Out) [ Some own ↦ standing g.typed (layout g) bits own d | None ↦ code d ])
      by_place None is = clear_fresh (layout g) d (code d) (fresh d)
      by_place (Some own) is =
          let o = own_is bits e own st isin names small is in
          subst (λ (made : Made Out). IsClear (layout g) d made)
          (sym (ap (λ (shape : Option ℕ). elim shape as (λ _. Made Out) [ None ↦ Makes (O.Scalar (register_of (layout g) own.variable)) d | Some _ ↦ then_make (field_of g.typed (layout g) own.variable 0 d) (λ f after. Makes (O.Field (first_bits bits f)) after) ]) o.shape))
          (inl (before_values g has own.variable o.info o.scalar))

      by_held : (o : Option ℕ) → held_in (layout g) e ≡ o → IsClear (layout g) d (elim o as (λ _. Made Out) [ Some r ↦ Makes (O.Scalar r) d | None ↦ elim (own_of bits e) as (λ _. Made Out) [ Some own ↦ standing g.typed (layout g) bits own d | None ↦ code d ] ])
      by_held None is = by_place (own_of bits e) refl
      by_held (Some r) is = let h = held_stands (layout g) e r is in inl (below_values (layout g) (held (type_of e).elem h.word) r h.register)

  operand_value : (quiet : Bool) (bits : ℕ) (e : TExpr) → (IsIn (naming g.may alive)) e → HasCode g.typed g.instance n e → Agrees quiet bits e → Does g has alive (type_of e).elem quiet (λ st. evaluated scope e active st) (λ d. operand_by g.typed (layout g) bits (value_of g.typed (layout g) bits e) quiet e d)
  operand_value quiet bits e h c agrees = operand_follows quiet bits e (λ d. value_of g.typed (layout g) bits e d) h c.names agrees

  pub word_is_made : (bits : ℕ) (e : TExpr) → (IsIn (naming g.may alive)) e → HasCode g.typed g.instance n e → GivesValue g.typed e → (d : Draft) → IsMadeWord (used_length_of g.typed (layout g) bits true e) d (operand_by g.typed (layout g) bits (value_of g.typed (layout g) bits e) true e d) ⊎ (operand_by g.typed (layout g) bits (value_of g.typed (layout g) bits e) true e d ≡ Fails)
  word_is_made bits e h c gives d = made_word g.typed e _ d _ (kept (naming g.may alive) e h) gives ((lengths_if_made g.typed g.instance (layout g)).operand bits n true e d c (ready d))

  logical_value : (is_or : Bool) (ty : ValueType) (quiet : Bool) (bits : ℕ) (left right : TExpr) (next : Value → State → Outcome Value) → IsWord ty → (IsIn (naming g.may alive)) left → (IsIn (naming g.may alive)) right → AreOperands left right
      → ((v : Value) (st : State) → next v st ≡ joined is_or (λ u. evaluated scope right active u) (nonzero (number v)) st) → Agrees true (bits_of (kind_of left)) left → Agrees true (bits_of (kind_of right)) right
      → Does g has alive ty.elem quiet (λ st. then_do (evaluated scope left active st) next) (λ d. logical_by is_or ty.shape bits (condition_of g.typed (layout g) left) (condition_of g.typed (layout g) right) d)
  unfolding condition_by
  logical_value is_or ty quiet bits left right next word h k c next_is one other =
      logical_follows g has alive is_or ty quiet (type_of left).elem (type_of right).elem _ _ _ _ (λ st. evaluated scope left active st) (λ st. evaluated scope right active st) next word
      (operand_value true (bits_of (kind_of left)) left h c.one one) (operand_value true (bits_of (kind_of right)) right k c.other other)
      (word_is_made (bits_of (kind_of left)) left h c.one c.one_gives) (word_is_made (bits_of (kind_of right)) right k c.other c.other_gives) next_is
      bits (condition_of g.typed (layout g) left) (condition_of g.typed (layout g) right) refl refl refl

  arm_is_made : (ty : ValueType) (bits : ℕ) (e : TExpr) → ty.shape ≡ None → (IsIn (naming g.may alive)) e → HasCode g.typed g.instance n e → GivesValue g.typed e → (r : ℕ) (d : Draft) → IsMadeTo r (arm_length_of g.typed (layout g) ty bits e) d (arm_of g.typed (layout g) bits e (O.Scalar r) d) ⊎ (arm_of g.typed (layout g) bits e (O.Scalar r) d ≡ Fails)
  unfolding arm_length_of arm_of
  arm_is_made ty bits e scalar h c gives r d =
      subst (λ (o : Option ℕ). IsMadeTo r (arm_length (is_none o) (used_length_of g.typed (layout g) bits true e) e) d (arm_by (next_of g.typed (layout g) bits true e) e (O.Scalar r) d) ⊎ (arm_by (next_of g.typed (layout g) bits true e) e (O.Scalar r) d ≡ Fails)) (sym scalar)
      (arm_made g r (used_length_of g.typed (layout g) bits true e) (next_of g.typed (layout g) bits true e) e d (word_is_made bits e h c gives d))

  arm_does : (elem : Elem) (bits : ℕ) (e : TExpr) → elem.bits ≡ 32 → (type_of e).elem.bits ≡ 32 → (IsIn (naming g.may alive)) e → HasCode g.typed g.instance n e → GivesValue g.typed e → Agrees true bits e → Arm_does g has alive elem (λ st. evaluated scope e active st) (arm_of g.typed (layout g) bits e)
  unfolding arm_of
  arm_does elem bits e wide also h c gives agrees =
      arm_follows g has alive elem (type_of e).elem _ e (next_of g.typed (layout g) bits true e) (λ st. evaluated scope e active st) wide also (operand_value true bits e h c agrees) (word_is_made bits e h c gives) (λ w is. constant_arm (naming g.may alive) scope active e w h also is)

  -- `?:` into the register of which something is said
  pub choice_goes : (ty : ValueType) (bits : ℕ) (test first second : TExpr) → IsWord ty → (IsIn (naming g.may alive)) test → (IsIn (naming g.may alive)) first → (IsIn (naming g.may alive)) second → IsWord (type_of first) → IsWord (type_of second) → AreChosen test first second → Agrees true (bits_of (kind_of test)) test → Agrees true bits first → Agrees true bits second
      → (d : Draft) (s : CodeState) (st : State) (R : Value → State → Out → Draft → Type 0) (r : ℕ) → Begun g alive d → At g s (length d.code) → Sim g alive st s → Dest g has alive ty.elem d s R r → Lands g has alive r R
      → Follows g R s (then_do (evaluated scope test active st) (λ v after. choose (type_of test).shape v (evaluated scope first) (evaluated scope second) active after)) (scalar_choice_of g.typed (layout g) ty bits test first second (O.Scalar r) d)
  unfolding scalar_choice_of
  choice_goes ty bits test first second word h k m a b c tests one other d s st R r free here sim dest lands =
      scalar_choice_follows g has alive ty.elem (type_of test).elem _ _ _ (next_of g.typed (layout g) (bits_of (kind_of test)) true test) (arm_of g.typed (layout g) bits first) (arm_of g.typed (layout g) bits second)
      (λ u. evaluated scope test active u) (λ u. evaluated scope first active u) (λ u. evaluated scope second active u) (λ v after. choose (type_of test).shape v (evaluated scope first) (evaluated scope second) active after)
      (operand_value true (bits_of (kind_of test)) test h c.condition tests) (arm_does ty.elem bits first word.1 a.1 k c.one c.one_gives one) (arm_does ty.elem bits second word.1 b.1 m c.other c.other_gives other)
      (word_is_made (bits_of (kind_of test)) test h c.condition c.condition_gives) (arm_is_made ty bits first word.0 k c.one c.one_gives) (arm_is_made ty bits second word.0 m c.other c.other_gives)
      (λ v u. choose_is (type_of test).shape v (evaluated scope first) (evaluated scope second) active u (scalar_of (naming g.may alive) test h)) d s st R r free here sim dest lands

  choice_value : (ty : ValueType) (quiet : Bool) (bits : ℕ) (p q r : Boxed) (test first second : TExpr) → IsWord ty → (IsIn (naming g.may alive)) test → (IsIn (naming g.may alive)) first → (IsIn (naming g.may alive)) second → IsWord (type_of first) → IsWord (type_of second) → AreChosen test first second → Agrees true (bits_of (kind_of test)) test → Agrees true bits first → Agrees true bits second
      → Does g has alive ty.elem quiet (λ st. then_do (evaluated scope test active st) (λ v after. choose (type_of test).shape v (evaluated scope first) (evaluated scope second) active after)) (λ d. value_of g.typed (layout g) bits (T.Choice' ty p test q first r second) d)
  unfolding value_of scalar_choice_of arm_of
  choice_value ty quiet bits p q r test first second word h k m a b c tests one other d s st free here sim =
      subst (λ (made : Made Out). Follows g (Value_of g has alive ty.elem quiet d s) s (then_do (evaluated scope test active st) (λ v after. choose (type_of test).shape v (evaluated scope first) (evaluated scope second) active after)) made)
      (sym (ap (λ (b : Bool). choice_by ty bits (is_kept test) (operand_by g.typed (layout g) (bits_of (kind_of test)) (λ e. value_of g.typed (layout g) (bits_of (kind_of test)) test e) (b || is_quiet first) test) (arm_of g.typed (layout g) bits first) (arm_of g.typed (layout g) bits second)
      (arm_length_of g.typed (layout g) ty bits first) (arm_length_of g.typed (layout g) ty bits second) d) (kept (naming g.may alive) test h)
      ∙ choice_is ty bits (is_kept test) (next_of g.typed (layout g) (bits_of (kind_of test)) true test) (arm_of g.typed (layout g) bits first) (arm_of g.typed (layout g) bits second)
      (arm_length_of g.typed (layout g) ty bits first) (arm_length_of g.typed (layout g) ty bits second) d word.0 (kept (naming g.may alive) test h)))
      (choice_goes ty bits test first second word h k m a b c tests one other (with_reg d) s st (Value_of g has alive ty.elem quiet d s) d.regs (begun_later g alive d (with_reg d) 0 (and_register d) free) here sim (fresh_dest g has alive ty.elem quiet d s free) (fresh_lands g has alive ty.elem quiet d s d.regs))

  assign_value : (quiet : Bool) (bits : ℕ) (ty : ValueType) (place : Place) (op : AssignOp) (p q : Boxed) (target value : TExpr) → TargetIs g alive n target → NamesVariables g.typed g.instance n target → ty ≡ type_of target → (IsIn (naming g.may alive)) value → IsGiven op (type_of target) (type_of value) → HasCode g.typed g.instance n value
      → ((m : ℕ) (d : Draft) → IsFresh d (value_of g.typed (layout g) m value d)) → ((calm : Bool) (m : ℕ) → Agrees calm m value) → Agrees quiet bits (T.Assign' ty place op p target q value)
  assign_value quiet bits ty place op p q target value v names same isin given c fresh agrees d s st free here sim =
      let w = v.named names in
      let its : IsGiven op (scalar_type (type_of target).elem) (type_of value) = subst (λ (t : ValueType). IsGiven op t (type_of value)) (target_type g alive n target v) given in
      let m : ℕ = taken_bits bits op (bare_target g alive n target v) value in
      let code : Code = λ e. value_of g.typed (layout g) m value e in
      subst (λ (elem : Elem). Follows g (Value_of g has alive elem quiet d s) s (evaluated scope (T.Assign' ty place op p target q value) active st) (value_of g.typed (layout g) bits (T.Assign' ty place op p target q value) d)) (sym (ap (λ (t : ValueType). t.elem) same))
      (follows_same g (Value_of g has alive (type_of target).elem quiet d s) s (assign_means g alive n target v ty place op p q value same scope active st) (assign_code g alive n target v ty place op p q value bits d)
      (assigned_value g has alive v.variable (variable_info w.word (plain (type_of target)) w.start) v.living (w.named, v.scalar) scope active place op (T.Assign' ty place op p target q value) value bits quiet code (λ u. evaluated scope value active u) its
      (scalar_of (naming g.may alive) value isin) (kept (naming g.may alive) value isin) (agrees false m) (λ k. operand_follows true k value code isin c.names (agrees true m)) (λ k u t other b. clear_operand k value code isin c.names (fresh m) u other.small b) d s st free here sim))

  step_value_follows : (quiet : Bool) (bits : ℕ) (ty : ValueType) (op : StepOp) (order : StepOrder) (p : Boxed) (target : TExpr) → TargetIs g alive n target → NamesVariables g.typed g.instance n target → ty ≡ type_of target → Agrees quiet bits (T.Step' ty op order p target)
  step_value_follows quiet bits ty op order p target v names same d s st free here sim =
      let w = v.named names in
      subst (λ (elem : Elem). Follows g (Value_of g has alive elem quiet d s) s (evaluated scope (T.Step' ty op order p target) active st) (value_of g.typed (layout g) bits (T.Step' ty op order p target) d)) (sym (ap (λ (t : ValueType). t.elem) same))
      (follows_same g (Value_of g has alive (type_of target).elem quiet d s) s (step_means g alive n target v ty op order p same scope active st) (step_code g alive n target v ty op order p bits d)
      (stepped_value g has alive v.variable (variable_info w.word (plain (type_of target)) w.start) v.living (w.named, v.scalar) scope active op order quiet bits (T.Step' ty op order p target) d s st free here sim))

  -- a number that is given to a position
  valued : (value : TExpr) → (IsIn (naming g.may alive)) value → HasCode g.typed g.instance n value → ((calm : Bool) (m : ℕ) → Agrees calm m value) → IsValued g has scope active alive n value
  valued value isin c agrees = record {
    scalar = scalar_of (naming g.may alive) value isin;
    kept = kept (naming g.may alive) value isin;
    code = c;
    does = λ bits. agrees false bits;
    grows = λ bits m d. other_grows m bits value c d;
    operand = λ bits m. operand_follows true m value (value_of g.typed (layout g) bits value) isin c.names (agrees true bits);
    clear = λ bits m st s sim d. clear_operand m value (value_of g.typed (layout g) bits value) isin c.names (λ d. fresh_value bits value isin c d) st sim.small d;
  }

  -- where a target is a position, its indexes are done
  unfoldable TargetDone : TExpr → Type 0
  TargetDone (T.LeftIndex' ty place p indexes x of) = AreDone g has alive scope active false (are_quiet indexes) indexes
  TargetDone _ = Unit {0}

  -- an assignment and a step, to a variable or at a position
  assigning_value : (quiet : Bool) (bits : ℕ) (ty : ValueType) (place : Place) (op : AssignOp) (p q : Boxed) (target value : TExpr) → IsVariable (naming g.may alive) target ⊎ IsPosition (naming g.may alive) target → ty ≡ type_of target → (IsIn (naming g.may alive)) value → IsGiven op (type_of target) (type_of value)
      → HasCode g.typed g.instance n (T.Assign' ty place op p target q value) → TargetDone target → ((calm : Bool) (m : ℕ) → Agrees calm m value) → Agrees quiet bits (T.Assign' ty place op p target q value)
  unfolding IsIn IsPosition TargetDone
  assigning_value quiet bits ty place op p q target value (inl h) same isin given c done agrees =
      let names = assign_names ty place op p q target value c in
      assign_value quiet bits ty place op p q target value (variable_in g alive n target h) names.0 same isin given names.1 (λ m d. fresh_value m value isin names.1 d) agrees
  assigning_value quiet bits ty place op p q (T.LeftIndex' left at r indexes x of) value (inr h) same isin given c done agrees =
      let names = assign_names ty place op p q (T.LeftIndex' left at r indexes x of) value c in
      subst (λ (t : ValueType). Agrees quiet bits (T.Assign' t place op p (T.LeftIndex' left at r indexes x of) q value)) (sym same)
      ((calls_follow.beside has).stores alive files n ready left at place op p q r indexes x of value h (assigned_left g n left at r indexes x of ty place op p q value c) done given (valued value isin names.1 agrees) quiet bits)
  assigning_value quiet bits ty place op p q _ value (inr h) same isin given c done agrees = absurd h

  stepping_value : (quiet : Bool) (bits : ℕ) (ty : ValueType) (op : StepOp) (order : StepOrder) (p : Boxed) (target : TExpr) → IsVariable (naming g.may alive) target ⊎ IsPosition (naming g.may alive) target → ty ≡ type_of target
      → HasCode g.typed g.instance n (T.Step' ty op order p target) → TargetDone target → Agrees quiet bits (T.Step' ty op order p target)
  unfolding IsIn IsPosition TargetDone
  stepping_value quiet bits ty op order p target (inl h) same c done = step_value_follows quiet bits ty op order p target (variable_in g alive n target h) (step_names ty op order p target c) same
  stepping_value quiet bits ty op order p (T.LeftIndex' left at r indexes x of) (inr h) same c done =
      subst (λ (t : ValueType). Agrees quiet bits (T.Step' t op order p (T.LeftIndex' left at r indexes x of))) (sym same)
      ((calls_follow.beside has).steps alive files n ready left at op order p r indexes x of h (stepped_left g n left at r indexes x of ty op order p c) done quiet bits)
  stepping_value quiet bits ty op order p _ (inr h) same c done = absurd h

  mutual
    unfolding evaluated value_of IsIn IsVariable IsPosition AreIn AreDone HaveCode TargetDone IsShaped IsTarget

    pub value_follows : (quiet : Bool) (bits : ℕ) (e : TExpr) → (IsIn (naming g.may alive)) e → HasCode g.typed g.instance n e → Agrees quiet bits e
    value_follows quiet bits (T.Number ty value) h c = λ d s st free here sim. constant_follows g has alive ty.elem quiet value d s st h.0.1 h.1 free here sim
    value_follows quiet bits (T.PositionsOf ty shape value) h c = λ d s st free here sim. constant_follows g has alive ty.elem quiet value d s st h.0.1 h.1 free here sim
    value_follows quiet bits (T.RankOf ty shape value) h c = λ d s st free here sim. constant_follows g has alive ty.elem quiet value d s st h.0.1 h.1 free here sim
    value_follows quiet bits (T.DimOf ty shape axis value) h c = λ d s st free here sim. constant_follows g has alive ty.elem quiet value d s st h.0.1 h.1 free here sim
    value_follows quiet bits (T.Variable ty x) h c = λ d s st free here sim.
        let v = named ty x c in
        variable_follows g has alive quiet bits n ty x d s st h.0 v h.1 free here sim
    value_follows quiet bits (T.GetChar ty) h c = byte_follows g has alive ty.elem quiet h.1
    value_follows quiet bits (T.Brackets' ty p inner) h c = bracketed ty inner quiet _ _ h.0 (value_follows quiet bits inner h.1 (brackets_code ty p inner c))
    value_follows quiet bits (T.Convert' ty p operand) h c =
        converts ty quiet bits p operand (kept (naming g.may alive) operand h.1) (conversion_follows g has alive ty quiet (type_of operand).elem h.0 (λ d. value_of g.typed (layout g) bits operand d) (λ st. evaluated scope operand active st)
        (λ d. fresh_value bits operand h.1 (convert_code ty p operand c) d) (value_follows false bits operand h.1 (convert_code ty p operand c)))
    value_follows quiet bits (T.Casts' ty elems p operand) h c =
        let part = casts_code ty elems p operand c in
        casts_follow g has alive ty quiet elems.items (type_of operand).elem h.0 h.1 (λ d. value_of g.typed (layout g) bits operand d) (λ st. evaluated scope operand active st) (λ d. fresh_value bits operand h.2 part d) (value_follows false bits operand h.2 part)
    value_follows quiet bits (T.Unary' ty op p operand) h c =
        done_value ty quiet bits op operand _ _ _ (kept (naming g.may alive) operand h.1)
        (unary_value ty quiet bits op operand h.0 h.2 (value_follows quiet bits operand h.1 (unary_code ty op p operand c)) (operand_value true (unary_bits bits op operand) operand h.1 (unary_code ty op p operand c) (value_follows true (unary_bits bits op operand) operand h.1 (unary_code ty op p operand c))))
    value_follows quiet bits (T.Binary' ty place op p left q right) h c =
        let one_code = left_code ty place op p q left right c in
        let other_code = right_code ty place op p q left right c in
        binary_follows g has alive ty (is_quiet right) op place (type_of left).elem (type_of right).elem _ (λ st. evaluated scope right active st) scope active h.0 h.3.1 h.4.1
        (λ st calm. Quiet.expression scope right active st calm) (operand_value true (operand_bits bits op left right) right h.2 other_code (value_follows true (operand_bits bits op left right) right h.2 other_code)) (operand_grows true (operand_bits bits op left right) right other_code) quiet bits left right _
        (λ st. evaluated scope left active st) refl (operand_value (is_quiet right) (operand_bits bits op left right) left h.1 one_code (value_follows (is_quiet right) (operand_bits bits op left right) left h.1 one_code))
    value_follows quiet bits (T.LogicalOr' ty p left q right) h c =
        let o = or_operands ty p q left right c in
        logical_value true ty quiet bits left right (λ v after. or_then ty.shape (type_of left).shape v (evaluated scope right) active after) h.0 h.1 h.2 o (λ v st. or_is ty.shape (type_of left).shape v (evaluated scope right) active st h.0.0 (scalar_of (naming g.may alive) left h.1))
        (value_follows true (bits_of (kind_of left)) left h.1 o.one) (value_follows true (bits_of (kind_of right)) right h.2 o.other)
    value_follows quiet bits (T.LogicalAnd' ty p left q right) h c =
        let o = and_operands ty p q left right c in
        logical_value false ty quiet bits left right (λ v after. and_then ty.shape (type_of left).shape v (evaluated scope right) active after) h.0 h.1 h.2 o (λ v st. and_is ty.shape (type_of left).shape v (evaluated scope right) active st h.0.0 (scalar_of (naming g.may alive) left h.1))
        (value_follows true (bits_of (kind_of left)) left h.1 o.one) (value_follows true (bits_of (kind_of right)) right h.2 o.other)
    value_follows quiet bits (T.Choice' ty p test q first r second) h c =
        let o = choice_parts ty p q r test first second c in
        choice_value ty quiet bits p q r test first second h.0 h.1 h.2 h.3 h.4 h.5 o (value_follows true (bits_of (kind_of test)) test h.1 o.condition) (value_follows true bits first h.2 o.one) (value_follows true bits second h.3 o.other)
    value_follows quiet bits (T.Assign' ty place op p target q value) h c =
        let names = assign_names ty place op p q target value c in
        assigning_value quiet bits ty place op p q target value h.2 h.1 h.3 h.4 c (target_done target h.2 (assigned_place ty place op p q target value c)) (λ calm m. value_follows calm m value h.3 names.1)
    value_follows quiet bits (T.Step' ty op order p target) h c = stepping_value quiet bits ty op order p target h.2 h.1 c (target_done target h.2 (stepped_place ty op order p target c))
    value_follows quiet bits (T.Call' ty index p arguments) h c = call_value g has alive n files ready scope active calls_follow quiet bits ty index p arguments h.0 h.1 (arguments_do true (are_quiet arguments) arguments h.2 (call_code g has alive n files ready scope active calls_follow ty index p arguments c)) c
    value_follows quiet bits (T.Reduce' ty op p operand) h c = put_value quiet bits (T.Reduce' ty op p operand) (fold_code ty op p operand bits h.0.0) ((calls_follow.beside has).folds alive files n ready (T.Reduce' ty op p operand) h.1 h.2 c)
    value_follows quiet bits (T.LeftIndex' ty place p indexes x of) h c =
        put_value quiet bits (T.LeftIndex' ty place p indexes x of) (read_code ty place p indexes x of bits h.0)
        ((calls_follow.beside has).reads alive files n ready ty place p indexes x of h c (arguments_do false (are_quiet indexes) indexes h.3 (index_code ty place p indexes x of c)))
    value_follows quiet bits _ h c = absurd h

    target_done : (target : TExpr) → IsVariable (naming g.may alive) target ⊎ IsPosition (naming g.may alive) target → IsPlace g.typed g.instance n target → TargetDone target
    target_done (T.LeftIndex' ty place p indexes x of) (inl h) c = absurd h
    target_done (T.LeftIndex' ty place p indexes x of) (inr h) c = arguments_do false (are_quiet indexes) indexes h.3 (index_code ty place p indexes x of (record { shaped = c.target; lowerable = c.lowerable; names = c.names }))
    target_done _ h c = tt

    -- each argument is done as one of a list
    pub arguments_do : {k : Count} (own quiet : Bool) (row : Row_of-TExpr k) → (AreIn (naming g.may alive)) row → HaveCode g.typed g.instance n row → AreDone g has alive scope active own quiet row
    arguments_do own quiet end_of-TExpr h c = tt
    arguments_do own quiet (more_of-TExpr e rest) h c = (
      record {
        grows = operand_grows quiet (list_bits own e) e c.0;
        does = operand_value quiet (list_bits own e) e h.0 c.0 (value_follows quiet (list_bits own e) e h.0 c.0);
      },
      arguments_do own quiet rest h.1 c.1,
    )

  pub operand : (quiet : Bool) (bits : ℕ) (e : TExpr) → (IsIn (naming g.may alive)) e → HasCode g.typed g.instance n e → Does g has alive (type_of e).elem quiet (λ st. evaluated scope e active st) (λ d. operand_by g.typed (layout g) bits (value_of g.typed (layout g) bits e) quiet e d)
  operand quiet bits e h c = operand_value quiet bits e h c (value_follows quiet bits e h c)
