-- A scalar expression whose value goes to a variable, as it is written there.
use Rattle.std.proofs.Common.{◌≡◌, ◌∙◌, ℕ, Vec, Global, ◌<◌, ◌^◌, Bool, true, false, not, length, slice_index, Option, Some, None, refl, sym, ap, subst, if◌then◌else◌, ◌==◌, inr}
use Rattle.std.specs.Prelude.{IfSome}
use Rattle.std.proofs.lemmas.Bool.{eq-eqb, eqb-true}
use Rattle.cstar_base.specs.declared.elem.Elem.{Elem}
use Rattle.cstar_base.specs.declared.operators.Op.{Op}
use Rattle.cstar_base.specs.declared.operators.Place.{Place}
use Rattle.cstar_base.specs.Numbers.{converted}
use Rattle.cstar_tree.specs.declared.typed.TExpr.{TExpr}
use Rattle.cstar_tree.specs.declared.typed.TExpr as T
use Rattle.cstar_tree.specs.declared.typed.UnaryOp.{UnaryOp}
use Rattle.cstar_tree.specs.declared.typed.UnaryOp.TheVariants as U
use Rattle.cstar_tree.specs.declared.typed.ValueType.{ValueType}
use Rattle.cstar_tree.specs.declared.typed.VarInfo.{VarInfo}
use Rattle.cstar_tree.specs.declared.typed.Variable.{Variable}
use Rattle.cstar_tree.specs.declared.typed.Variable.TheVariants as V
use Rattle.cstar_tree.specs.StatementTypes.{variable_info}
use Rattle.cstar_tree.specs.Typed.{type_of}
use Rattle.code_lengths.specs.Naming.{HasVariable, plain}
use Rattle.code_lengths.specs.Ready.{HasCode, IsReadyButForFields}
use Rattle.lower_base.specs.declared.emit.Out.{Out}
use Rattle.lower_base.specs.declared.emit.Out.TheVariants as O
use Rattle.lower_base.specs.Drafts.{Draft, Fails, Made, Makes, in_register, step as step_of, then_make, with_instr}
use Rattle.lower_base.specs.Kinds.{bits_of, kind_of}
use Rattle.lower_base.specs.Layouts.{register_of}
use Rattle.lower_base.specs.Operators.{negates}
use Rattle.lower_expr.specs.declared.spots.Spot.{Spot}
use Rattle.lower_expr.specs.declared.spots.Spot.TheVariants as S
use Rattle.lower_expr.specs.Effects.{binary_to, gone_to, bits_for, computed_to, register_converted, converted_to, goes_unchanged, logical_to, moved, put_to}
use Rattle.lower_expr.specs.Kinds.{done_as, operand_bits, unary_bits}
use Rattle.lower_expr.specs.Operands.{are_quiet, is_plus, is_quiet}
use Rattle.lower_expr.specs.Spots.{loaded, variable_spot}
use Rattle.lower_expr.specs.Steps.{put_value, register_word, word_for, word_put}
use Rattle.lower_expr.specs.Values.{Code, next_of, read_to, register_binary_of, registers_by, scalar_choice_of, spot_of}
use Rattle.paris_code.specs.declared.instr.Instr.TheVariants as I
use Rattle.paris_code.specs.Code.{CodeState, Goes, begun, with_register}
use Rattle.quiet_operands.proofs.Unchanged as Quiet
use Rattle.source_meaning.specs.Constants.{constant_of, is_constant, then_value}
use Rattle.source_meaning.specs.Constants as Const
use Rattle.source_meaning.specs.Expressions.{evaluated, mapped, operated}
use Rattle.source_meaning.specs.Narrowing.{choose}
use Rattle.source_meaning.specs.State as Source
use Rattle.source_meaning.specs.State.{Outcome, State, then_do, with_scalar}
use Rattle.source_meaning.specs.Targets.{read, variable_target}
use Rattle.source_meaning.specs.Values.{Active, Scalar, Scope, Value, at, convert_to, unary_of}
use Rattle.source_meaning.proofs.ConstantLaws.{Boxed, value_means}
use Rattle.code_follows.specs.Fragment.{AreIn, IsIn, IsOperand, IsWord, elems_of, naming}
use Rattle.code_follows.proofs.Growing.{as_it_was}
use Rattle.code_follows.proofs.Passing.{call_follows}
use Rattle.code_follows.proofs.Choosing.{put_lands}
use Rattle.code_follows.proofs.CallValues.{call_code}
use Rattle.code_follows.proofs.Expressions.{arguments_do, AreChosen, brackets_code, choice_goes, choice_parts, convert_code, index_code, left_code, named, operand, operand_grows, right_code, unary_code, unary_same, value_follows}
use Rattle.code_follows.proofs.Bytes.{byte_put}
use Rattle.code_follows.proofs.Callees.{CallsFollow}
use Rattle.code_follows.proofs.Following.{Arrives, Extends, Follows, HasRegisters, IsScalar, Sim, held, keeps_all, then_follows, then_gives}
use Rattle.code_follows.proofs.Operators.{wide_signed}
use Rattle.code_follows.proofs.Settings.{At, Begun, Setting, and_one, layout, stay}
use Rattle.code_follows.proofs.Stores.{IsPut, variable_dest}
use Rattle.code_follows.proofs.Values.{Dest, Does, Value_of, conversion_is, extends_in_register, mapped_is, negated_follows, read_is, registers_follow, put_by}
use Rattle.constant_trees.proofs.Words.{converted_below}
use Rattle.paris_code.specs.Scalar.{rounded}
use Rattle.code_follows.proofs.Numbers.{Fits, fits_wide, rounded_is}
use Rattle.code_follows.proofs.Words.{below_bits, below_word, constant_below, held_converted, held_wide, kept}

module _ (g : Setting) (has : HasRegisters g) (alive : Variable → Type 0) (n : ℕ) (files : (k : ℕ) → alive (V.File k)) (ready : (d : Draft) → IsReadyButForFields g.typed g.instance (layout g) n d) (scope : Scope) (active : Active) (calls_follow : CallsFollow g scope active)
    (x : Variable) (info : VarInfo) (living : alive x) (scalar : IsScalar g x info) where
  abbrev own : ℕ
  own = register_of (layout g) x

  -- what is said of code that puts a value in the variable
  abbrev pub Put : Elem → Draft → CodeState → Value → State → Out → Draft → Type 0
  Put elem d s v st out e = IsPut g has alive x info living scalar elem d s v st out e

  -- an expression whose value the code puts there
  abbrev pub Puts : Elem → (State → Outcome Value) → (Draft → Made Out) → Type 0
  Puts elem part code = (d : Draft) (s : CodeState) (st : State) → Begun g alive d → At g s (length d.code) → Sim g alive st s → Follows g (Put elem d s) s (part st) (code d)

  -- the variable keeps a number of this type
  abbrev pub Kept : Elem → Type 0
  Kept elem = Fits info.elem elem

  dest : (elem : Elem) (d : Draft) (s : CodeState) → Kept elem → Begun g alive d → Dest g has alive elem d s (Put elem d s) own
  dest elem d s fits free = variable_dest g has alive x info living scalar elem d s fits free

  -- a value copied from where it stands
  copied_to : (elem : Elem) → Kept elem → (part : State → Outcome Value) (code : Draft → Made Out) → Does g has alive elem true part code → Puts elem part (λ d. then_make (code d) (λ v after. put_value (O.Scalar own) v after))
  unfolding put_value then_do Extends Follows begun step_of in_register
  copied_to elem fits part code does d s st free here sim =
      follow_same (part st) (then_follows g (Value_of g has alive elem true d s) (Put elem d s) s s (part st) (λ v after. Source.Gives v after) (code d) (λ v after. in_register v (λ r. Makes (O.Scalar own) (with_instr (I.FrontMove own r) after))) (stay g s) (does d s st free here sim)
      (λ v e. extends_in_register g has alive e v _ (λ r. (1, and_one g (I.FrontMove own r) e))) (λ v u out e arr. moves v u out e arr))
    where
      follow_same : (o : Outcome Value) → Follows g (Put elem d s) s (then_do o (λ v after. Source.Gives v after)) (then_make (code d) (λ v after. put_value (O.Scalar own) v after)) → Follows g (Put elem d s) s o (then_make (code d) (λ v after. put_value (O.Scalar own) v after))
      follow_same (Source.Gives v u) h = h
      follow_same (Source.Ends early u) h = h

      moves : (v : Value) (u : State) (out : Out) (e : Draft) → Arrives g alive elem true d s v u out e → Follows g (Put elem d s) s (Source.Gives v u) (in_register out (λ r. Makes (O.Scalar own) (with_instr (I.FrontMove own r) e)))
      moves v u out e arr =
          let there : slice_index arr.t.registers arr.holds.register ≡ held elem arr.holds.word = arr.holds.lasts u arr.t arr.sim (keeps_all g e arr.t) (λ h. refl) in
          subst (λ (w : Value). Follows g (Put elem d s) s (Source.Gives w u) (in_register out (λ r. Makes (O.Scalar own) (with_instr (I.FrontMove own r) e)))) (sym arr.holds.value)
          (subst (λ (o : Out). Follows g (Put elem d s) s (Source.Gives (Scalar arr.holds.word) u) (in_register o (λ r. Makes (O.Scalar own) (with_instr (I.FrontMove own r) e)))) (sym arr.holds.is)
          (λ within. put_by g has alive (dest elem d s fits free) e arr.extended.0 (I.FrontMove own arr.holds.register) arr.t u arr.holds.word arr.go arr.at arr.sim arr.extended.1 arr.keeps within refl
          (ap (λ (w : ℕ). Goes (with_register own w arr.t)) there) arr.holds.small))

  -- the same word, as a number of another type of 32 bits
  again : (to from : Elem) (d e : Draft) (s : CodeState) (v u : Value) (st : State) (out : Out) (w : ℕ) (p : Put from d s v st out e) → u ≡ Scalar w → w < 2 ^ to.bits → converted info.elem to w ≡ converted info.elem from p.word → Put to d s u st out e
  again to from d e s v u st out w p is small same = record {
    grown = p.grown;
    t = p.t;
    go = p.go;
    at = p.at;
    word = w;
    value = is;
    small = small;
    sim = subst (λ (n : ℕ). Sim g alive (with_scalar x n st) p.t) (sym same) p.sim;
    keeps = p.keeps;
  }

  put_converted : (ty : ValueType) (from : Elem) → ty.shape ≡ None → ty.elem.bits ≡ 32 → info.elem.bits ≡ 32 → (part : State → Outcome Value) (code : Draft → Made Out) → Puts from part code → Puts ty.elem (λ st. then_do (part st) (λ v after. Source.Gives (convert_to ty from v) after)) code
  unfolding at
  put_converted ty from plain wide also part code puts d s st free here sim =
      then_gives g (Put from d s) (Put ty.elem d s) s (part st) (λ v. convert_to ty from v) (code d) (puts d s st free here sim) (λ v u out e p. converts v u out e p)
    where
      converts : (v : Value) (u : State) (out : Out) (e : Draft) → Put from d s v u out e → Put ty.elem d s (convert_to ty from v) u out e
      converts v u out e p =
          let w : ℕ = converted ty.elem from p.word in
          let small : w < 2 ^ ty.elem.bits = converted_below ty.elem from p.word in
          again ty.elem from d e s v (convert_to ty from v) u out w p (conversion_is g has alive ty from v plain ∙ ap (λ (y : Value). Scalar (converted ty.elem from (at y 0))) p.value) small
          (held_converted info.elem ty.elem w also ∙ held_wide ty.elem w wide (below_word ty.elem.bits w wide small) ∙ held_converted ty.elem from p.word wide ∙ sym (held_converted info.elem from p.word also))

  put_mapped : (ty : ValueType) (from : Elem) → IsWord ty → from.bits ≡ 32 → info.elem.bits ≡ 32 → (part : State → Outcome Value) (code : Draft → Made Out) → Puts from part code → Puts ty.elem (λ st. then_do (part st) (λ v after. Source.Gives (mapped ty (unary_of U.Plus) v) after)) code
  unfolding at unary_of
  put_mapped ty from word wide also part code puts d s st free here sim =
      then_gives g (Put from d s) (Put ty.elem d s) s (part st) (λ v. mapped ty (unary_of U.Plus) v) (code d) (puts d s st free here sim) (λ v u out e p. keeps_it v u out e p)
    where
      keeps_it : (v : Value) (u : State) (out : Out) (e : Draft) → Put from d s v u out e → Put ty.elem d s (mapped ty (unary_of U.Plus) v) u out e
      keeps_it v u out e p =
          let few : p.word < 2 ^ 32 = below_word from.bits p.word wide p.small in
          again ty.elem from d e s v (mapped ty (unary_of U.Plus) v) u out p.word p (mapped_is g has alive ty (unary_of U.Plus) v word.0 ∙ ap (λ (w : Value). Scalar (at w 0)) p.value) (below_bits ty.elem.bits p.word word.1 few)
          (held_converted info.elem ty.elem p.word also ∙ held_wide ty.elem p.word word.1 few ∙ sym (held_wide from p.word wide few) ∙ sym (held_converted info.elem from p.word also))

  -- a value of fewer bits is converted into the register
  converted_in : (ty : ValueType) (from : Elem) → ty.shape ≡ None → Kept ty.elem → (part : State → Outcome Value) (code : Draft → Made Out) → Does g has alive from true part code
      → Puts ty.elem (λ st. then_do (part st) (λ v after. Source.Gives (convert_to ty from v) after)) (λ d. then_make (code d) (λ v after. in_register v (λ source. Makes (O.Scalar own) (with_instr (I.FrontConvert own source ty.elem) after))))
  unfolding in_register Extends Follows begun step_of at
  converted_in ty from plain fits part code does d s st free here sim =
      then_follows g (Value_of g has alive from true d s) (Put ty.elem d s) s s (part st) (λ v after. Source.Gives (convert_to ty from v) after) (code d) (λ v after. in_register v (λ r. Makes (O.Scalar own) (with_instr (I.FrontConvert own r ty.elem) after))) (stay g s) (does d s st free here sim)
      (λ v e. extends_in_register g has alive e v _ (λ r. (1, and_one g (I.FrontConvert own r ty.elem) e))) (λ v u out e arr. converts v u out e arr)
    where
      converts : (v : Value) (u : State) (out : Out) (e : Draft) → Arrives g alive from true d s v u out e → Follows g (Put ty.elem d s) s (Source.Gives (convert_to ty from v) u) (in_register out (λ r. Makes (O.Scalar own) (with_instr (I.FrontConvert own r ty.elem) e)))
      converts v u out e arr =
          let w : ℕ = arr.holds.word in
          let number : ℕ = converted ty.elem from w in
          let there : slice_index arr.t.registers arr.holds.register ≡ held from w = arr.holds.lasts u arr.t arr.sim (keeps_all g e arr.t) (λ h. refl) in
          subst (λ (x : Value). Follows g (Put ty.elem d s) s (Source.Gives x u) (in_register out (λ r. Makes (O.Scalar own) (with_instr (I.FrontConvert own r ty.elem) e)))) (sym (conversion_is g has alive ty from v plain ∙ ap (λ (y : Value). Scalar (converted ty.elem from (at y 0))) arr.holds.value))
          (subst (λ (o : Out). Follows g (Put ty.elem d s) s (Source.Gives (Scalar number) u) (in_register o (λ r. Makes (O.Scalar own) (with_instr (I.FrontConvert own r ty.elem) e)))) (sym arr.holds.is)
          (λ within. put_by g has alive (dest ty.elem d s fits free) e arr.extended.0 (I.FrontConvert own arr.holds.register ty.elem) arr.t u number arr.go arr.at arr.sim arr.extended.1 arr.keeps within refl
          (ap (λ (k : ℕ). Goes (with_register own (rounded ty.elem k) arr.t)) there ∙ ap (λ (k : ℕ). Goes (with_register own k arr.t)) (rounded_is ty.elem from w arr.holds.small)) (converted_below ty.elem from w)))

  -- a variable is copied from its register
  variable_put : (ty : ValueType) (y : Variable) → (ty.shape ≡ None) × alive y → Kept ty.elem → HasVariable g.typed g.instance n y (plain ty) → Puts ty.elem (λ st. Source.Gives (read st (variable_target ty.shape y 0)) st) (λ d. read_to g.typed (layout g) (T.Variable ty y) (spot_of g.typed (layout g) (T.Variable ty y)) (O.Scalar own) d)
  unfolding read_to spot_of variable_spot loaded then_make in_register Follows begun step_of
  variable_put ty y named_so fits v d s st free here sim =
      let other : VarInfo = variable_info v.word (plain ty) v.start in
      let there : slice_index s.registers (register_of (layout g) y) ≡ held ty.elem (st.scalar y) = sim.scalars y other named_so.1 (v.named, named_so.0) in
      subst (λ (made : Made Out). Follows g (Put ty.elem d s) s (Source.Gives (read st (variable_target ty.shape y 0)) st) made)
      (sym (ap (λ (o : Option ℕ). loaded g.typed (layout g) (T.Variable ty y) (elim o as (λ _. Spot) [ None ↦ S.Register (register_of (layout g) y) | Some _ ↦ S.Whole y ]) (O.Scalar own) d) named_so.0))
      (subst (λ (w : Value). Follows g (Put ty.elem d s) s (Source.Gives w st) (Makes (O.Scalar own) (with_instr (I.FrontMove own (register_of (layout g) y)) d))) (sym (read_is g has alive st ty y named_so.0))
      (λ within. put_by g has alive (dest ty.elem d s fits free) d 0 (I.FrontMove own (register_of (layout g) y)) s st (st.scalar y) (stay g s) here sim (as_it_was d) (keeps_all g d s) within refl
      (ap (λ (w : ℕ). Goes (with_register own w s)) there) (sim.small y other named_so.1 (v.named, named_so.0))))

  binary_put : (ty : ValueType) (place : Place) (op : Op) (left right : TExpr) → IsWord ty → Kept ty.elem → (IsIn (naming g.may alive)) left → (IsIn (naming g.may alive)) right → IsWord (type_of left) → IsWord (type_of right) → HasCode g.typed g.instance n left → HasCode g.typed g.instance n right
      → Puts ty.elem (λ st. then_do (evaluated scope left active st) (λ v between. then_do (evaluated scope right active between) (λ w after. operated scope active ty place op (not (type_of left).elem.signed) v w after)))
      (λ d. register_binary_of g.typed (layout g) 32 op place left right own d)
  unfolding register_binary_of
  binary_put ty place op left right word fits one two a b c e d s st free here sim =
      let bits : ℕ = operand_bits 32 op left right in
      let first : Code = next_of g.typed (layout g) bits (is_quiet right) left in
      let second : Code = next_of g.typed (layout g) bits true right in
      subst (λ (b : Bool). Follows g (Put ty.elem d s) s (then_do (evaluated scope left active st) (λ v between. then_do (evaluated scope right active between) (λ w after. operated scope active ty place op (not (type_of left).elem.signed) v w after))) (registers_by op b place own first second d))
      (sym (wide_signed (type_of left).elem a.1))
      (registers_follow g has alive ty (is_quiet right) op place (type_of left).elem (type_of right).elem second (λ st. evaluated scope right active st) scope active word a.1 b.1
      (λ u calm. Quiet.expression scope right active u calm) (operand g has alive n files ready scope active calls_follow true bits right two e) (operand_grows g has alive n files ready scope active calls_follow true bits right e)
      d s (Put ty.elem d s) own free (dest ty.elem d s fits free) st first (λ u. evaluated scope left active u) (operand g has alive n files ready scope active calls_follow (is_quiet right) bits left one c) here sim)

  -- a conversion to 32 bits leaves the value to what is converted
  unchanged : (ty : ValueType) (p : Boxed) (inner : TExpr) → ty.elem.bits ≡ 32 → (d : Draft) (s : CodeState) (st : State)
      → Follows g (Put ty.elem d s) s (then_do (evaluated scope inner active st) (λ v after. Source.Gives (convert_to ty (type_of inner).elem v) after)) (computed_to g.typed (layout g) (O.Scalar own) inner d)
      → Follows g (Put ty.elem d s) s (then_do (evaluated scope inner active st) (λ v after. Source.Gives (convert_to ty (type_of inner).elem v) after)) (computed_to g.typed (layout g) (O.Scalar own) (T.Convert' ty p inner) d)
  unfolding computed_to goes_unchanged
  unchanged ty p inner wide d s st h =
      subst (λ (made : Made Out). Follows g (Put ty.elem d s) s (then_do (evaluated scope inner active st) (λ v after. Source.Gives (convert_to ty (type_of inner).elem v) after)) made)
      (sym (ap (λ (b : Bool). if b then computed_to g.typed (layout g) (O.Scalar own) inner d else converted_to g.typed (layout g) (O.Scalar own) (T.Convert' ty p inner) ty.elem inner d) (eq-eqb ty.elem.bits 32 wide))) h

  -- any other has code of its own
  changed : (ty : ValueType) (p : Boxed) (inner : TExpr) → (ty.elem.bits == 32) ≡ false → (d : Draft) → computed_to g.typed (layout g) (O.Scalar own) (T.Convert' ty p inner) d ≡ register_converted g.typed (layout g) own ty.elem inner d
  unfolding computed_to goes_unchanged converted_to
  changed ty p inner narrow d = ap (λ (b : Bool). if b then computed_to g.typed (layout g) (O.Scalar own) inner d else converted_to g.typed (layout g) (O.Scalar own) (T.Convert' ty p inner) ty.elem inner d) narrow

  unary_put : (ty : ValueType) (op : UnaryOp) (p : Boxed) (inner : TExpr) → IsWord ty → Kept ty.elem → IsOperand op (type_of inner) → (IsIn (naming g.may alive)) inner → HasCode g.typed g.instance n inner → Puts (type_of inner).elem (λ st. evaluated scope inner active st) (λ d. computed_to g.typed (layout g) (O.Scalar own) inner d)
      → Puts ty.elem (λ st. then_do (evaluated scope inner active st) (λ v after. Source.Gives (mapped ty (unary_of op) v) after)) (λ d. computed_to g.typed (layout g) (O.Scalar own) (T.Unary' ty op p inner) d)
  unfolding computed_to is_plus bits_for done_as negates IsOperand
  unary_put ty U.Plus p inner word fits a isin c puts = put_mapped ty (type_of inner).elem word a.1 (fits_wide info.elem ty.elem fits word.1) _ _ puts
  unary_put ty U.Minus p inner word fits a isin c puts = λ d s st free here sim.
      negated_follows g has alive ty U.Minus (type_of inner).elem (unary_same U.Minus (type_of inner) a) word refl d s (Put ty.elem d s) own free (dest ty.elem d s fits free) st _ (λ u. evaluated scope inner active u) (operand g has alive n files ready scope active calls_follow true (unary_bits 32 U.Minus inner) inner isin c) here sim
  unary_put ty U.Complement p inner word fits a isin c puts = λ d s st free here sim.
      negated_follows g has alive ty U.Complement (type_of inner).elem (unary_same U.Complement (type_of inner) a) word refl d s (Put ty.elem d s) own free (dest ty.elem d s fits free) st _ (λ u. evaluated scope inner active u) (operand g has alive n files ready scope active calls_follow true (unary_bits 32 U.Complement inner) inner isin c) here sim
  unary_put ty U.Not p inner word fits a isin c puts = λ d s st free here sim.
      negated_follows g has alive ty U.Not (type_of inner).elem (unary_same U.Not (type_of inner) a) word refl d s (Put ty.elem d s) own free (dest ty.elem d s fits free) st _ (λ u. evaluated scope inner active u) (operand g has alive n files ready scope active calls_follow true (unary_bits 32 U.Not inner) inner isin c) here sim

  -- `?:` computes the chosen value straight into the register
  choice_put : (ty : ValueType) (p q r : Boxed) (test first second : TExpr) → IsWord ty → Kept ty.elem → (IsIn (naming g.may alive)) test → (IsIn (naming g.may alive)) first → (IsIn (naming g.may alive)) second → IsWord (type_of first) → IsWord (type_of second) → AreChosen g has alive n files ready scope active calls_follow test first second
      → Puts ty.elem (λ st. then_do (evaluated scope test active st) (λ v after. choose (type_of test).shape v (evaluated scope first) (evaluated scope second) active after)) (λ d. computed_to g.typed (layout g) (O.Scalar own) (T.Choice' ty p test q first r second) d)
  unfolding computed_to bits_for
  choice_put ty p q r test first second word fits h k m a b c d s st free here sim =
      subst (λ (made : Made Out). Follows g (Put ty.elem d s) s (then_do (evaluated scope test active st) (λ v after. choose (type_of test).shape v (evaluated scope first) (evaluated scope second) active after)) made)
      (sym (ap (λ (b : Bool). if b then scalar_choice_of g.typed (layout g) ty 32 test first second (O.Scalar own) d else moved g.typed (layout g) (O.Scalar own) (T.Choice' ty p test q first r second) d) (kept (naming g.may alive) test h)))
      (choice_goes g has alive n files ready scope active calls_follow ty 32 test first second word h k m a b c (value_follows g has alive n files ready scope active calls_follow true (bits_of (kind_of test)) test h c.condition) (value_follows g has alive n files ready scope active calls_follow true 32 first k c.one)
      (value_follows g has alive n files ready scope active calls_follow true 32 second m c.other) d s st (Put ty.elem d s) own free here sim (dest ty.elem d s fits free) (put_lands g has alive x info living scalar ty.elem d s own))

  -- what was put there is there
  gone : (elem : Elem) (d : Draft) (s : CodeState) (o : Outcome Value) (made : Made Out) → Follows g (Put elem d s) s o made → Follows g (Put elem d s) s o (gone_to (O.Scalar own) made)
  unfolding gone_to then_make Follows
  gone elem d s (Source.Gives v u) (Makes out e) h = λ w. let p = h w in record { grown = p.grown; t = p.t; go = p.go; at = p.at; word = p.word; value = p.value; small = p.small; sim = p.sim; keeps = p.keeps }
  gone elem d s (Source.Ends early u) (Makes out e) h = h
  gone elem d s (Source.Gives v u) Fails h = tt
  gone elem d s (Source.Ends early u) Fails h = tt

  -- the result of a call
  call_put : (ty : ValueType) (index : ℕ) (p : Vec (Unit {0}) Global) (row : _) → Kept ty.elem → g.may.calls (Some ty.elem) index (elems_of row) → (AreIn (naming g.may alive)) row → HasCode g.typed g.instance n (T.Call' ty index p row) → Puts ty.elem (λ st. evaluated scope (T.Call' ty index p row) active st) (λ d. computed_to g.typed (layout g) (O.Scalar own) (T.Call' ty index p row) d)
  unfolding computed_to evaluated
  call_put ty index p row fits may isin c d s st free here sim =
      let known = calls_follow.value ty.elem index (elems_of row) may in
      let result = known.1.1 in
      gone ty.elem d s (evaluated scope (T.Call' ty index p row) active st) _
      (call_follows g has alive files scope active calls_follow known.0.0 row
      (arguments_do g has alive n files ready scope active calls_follow true (are_quiet row) row isin (call_code g has alive n files ready scope active calls_follow ty index p row c)) known.0.1
      result.0 result.1.0 ty.elem result.1.1 d s st (Put ty.elem d s) own free here sim (dest ty.elem d s fits free))

  convert_put : (ty : ValueType) (p : Boxed) (inner : TExpr) → IsIn (naming g.may alive) (T.Convert' ty p inner) → Kept ty.elem → HasCode g.typed g.instance n inner → (info.elem.bits ≡ 32 → Puts (type_of inner).elem (λ st. evaluated scope inner active st) (λ d. computed_to g.typed (layout g) (O.Scalar own) inner d))
      → Puts ty.elem (λ st. then_do (evaluated scope inner active st) (λ v after. Source.Gives (convert_to ty (type_of inner).elem v) after)) (λ d. computed_to g.typed (layout g) (O.Scalar own) (T.Convert' ty p inner) d)
  unfolding IsIn register_converted
  convert_put ty p inner h fits c rest d s st free here sim = by (ty.elem.bits == 32) refl
    where
      by : (b : Bool) → (ty.elem.bits == 32) ≡ b → Follows g (Put ty.elem d s) s (then_do (evaluated scope inner active st) (λ v after. Source.Gives (convert_to ty (type_of inner).elem v) after)) (computed_to g.typed (layout g) (O.Scalar own) (T.Convert' ty p inner) d)
      by true is =
          let wide : ty.elem.bits ≡ 32 = eqb-true ty.elem.bits 32 is in
          let also : info.elem.bits ≡ 32 = fits_wide info.elem ty.elem fits wide in
          unchanged ty p inner wide d s st (put_converted ty (type_of inner).elem h.0 wide also _ _ (rest also) d s st free here sim)
      by false is =
          subst (λ (made : Made Out). Follows g (Put ty.elem d s) s (then_do (evaluated scope inner active st) (λ v after. Source.Gives (convert_to ty (type_of inner).elem v) after)) made) (sym (changed ty p inner is d))
          (converted_in ty (type_of inner).elem h.0 fits (λ u. evaluated scope inner active u) (next_of g.typed (layout g) 32 true inner) (operand g has alive n files ready scope active calls_follow true 32 inner h.1 c) d s st free here sim)

  computed_follows : (e : TExpr) → (IsIn (naming g.may alive)) e → HasCode g.typed g.instance n e → Kept (type_of e).elem → Puts (type_of e).elem (λ st. evaluated scope e active st) (λ d. computed_to g.typed (layout g) (O.Scalar own) e d)
  unfolding computed_to evaluated IsIn moved bits_for binary_to in_register logical_to
  computed_follows (T.Number ty value) h c fits = copied_to ty.elem fits _ _ (operand g has alive n files ready scope active calls_follow true 32 (T.Number ty value) h c)
  computed_follows (T.PositionsOf ty shape value) h c fits = copied_to ty.elem fits _ _ (operand g has alive n files ready scope active calls_follow true 32 (T.PositionsOf ty shape value) h c)
  computed_follows (T.RankOf ty shape value) h c fits = copied_to ty.elem fits _ _ (operand g has alive n files ready scope active calls_follow true 32 (T.RankOf ty shape value) h c)
  computed_follows (T.DimOf ty shape axis value) h c fits = copied_to ty.elem fits _ _ (operand g has alive n files ready scope active calls_follow true 32 (T.DimOf ty shape axis value) h c)
  computed_follows (T.Variable ty y) h c fits = variable_put ty y h fits (named g has alive n files ready scope active calls_follow ty y c)
  computed_follows (T.GetChar ty) h c fits = λ d s st free here sim. byte_put g has alive x info living scalar ty.elem h.1 fits d s st free here sim
  computed_follows (T.Brackets' ty p inner) h c fits =
      subst (λ (y : ValueType). Puts y.elem (λ st. evaluated scope inner active st) (λ d. computed_to g.typed (layout g) (O.Scalar own) inner d)) (sym h.0)
      (computed_follows inner h.1 (brackets_code g has alive n files ready scope active calls_follow ty p inner c) (subst (λ (y : ValueType). Kept y.elem) h.0 fits))
  computed_follows (T.Convert' ty p operand) h c fits =
      convert_put ty p operand h fits (convert_code g has alive n files ready scope active calls_follow ty p operand c) (λ wide. computed_follows operand h.1 (convert_code g has alive n files ready scope active calls_follow ty p operand c) (inr wide))
  computed_follows (T.Casts' ty elems p inner) h c fits = copied_to ty.elem fits _ _ (operand g has alive n files ready scope active calls_follow true 32 (T.Casts' ty elems p inner) h c)
  computed_follows (T.Unary' ty op p inner) h c fits =
      unary_put ty op p inner h.0 fits h.2 h.1 (unary_code g has alive n files ready scope active calls_follow ty op p inner c)
      (computed_follows inner h.1 (unary_code g has alive n files ready scope active calls_follow ty op p inner c) (inr (fits_wide info.elem ty.elem fits h.0.1)))
  computed_follows (T.Binary' ty place op p left q right) h c fits = binary_put ty place op left right h.0 fits h.1 h.2 h.3 h.4 (left_code g has alive n files ready scope active calls_follow ty place op p q left right c) (right_code g has alive n files ready scope active calls_follow ty place op p q left right c)
  computed_follows (T.LogicalOr' ty p left q right) h c fits = copied_to ty.elem fits _ _ (operand g has alive n files ready scope active calls_follow true 32 (T.LogicalOr' ty p left q right) h c)
  computed_follows (T.LogicalAnd' ty p left q right) h c fits = copied_to ty.elem fits _ _ (operand g has alive n files ready scope active calls_follow true 32 (T.LogicalAnd' ty p left q right) h c)
  computed_follows (T.Choice' ty p test q first r second) h c fits = choice_put ty p q r test first second h.0 fits h.1 h.2 h.3 h.4 h.5 (choice_parts g has alive n files ready scope active calls_follow ty p q r test first second c)
  computed_follows (T.Assign' ty place op p target q value) h c fits = copied_to ty.elem fits _ _ (operand g has alive n files ready scope active calls_follow true 32 (T.Assign' ty place op p target q value) h c)
  computed_follows (T.Step' ty op order p target) h c fits = copied_to ty.elem fits _ _ (operand g has alive n files ready scope active calls_follow true 32 (T.Step' ty op order p target) h c)
  computed_follows (T.Call' ty index p arguments) h c fits = call_put ty index p arguments fits h.1 h.2 c
  computed_follows (T.Reduce' ty op p operand) h c fits = λ d s st free here sim.
      (calls_follow.beside has).folds alive files n ready (T.Reduce' ty op p operand) h.1 h.2 c d s st (Put ty.elem d s) own free here sim (dest ty.elem d s fits free)
  computed_follows (T.LeftIndex' ty place p indexes x of) h c fits = λ d s st free here sim.
      (calls_follow.beside has).reads alive files n ready ty place p indexes x of h c (arguments_do g has alive n files ready scope active calls_follow false (are_quiet indexes) indexes h.3 (index_code g has alive n files ready scope active calls_follow ty place p indexes x of c)) d s st (Put ty.elem d s) own free here sim (dest ty.elem d s fits free)
  computed_follows _ h c fits = absurd h

  -- a constant goes to the register at once
  word_put_follows : (e : TExpr) (w : ℕ) → (IsIn (naming g.may alive)) e → is_constant e ≡ true → Const.value_of e ≡ Some w → Kept (type_of e).elem → Puts (type_of e).elem (λ st. evaluated scope e active st) (λ d. Makes (O.Scalar own) (with_instr (I.FrontConst own (held (type_of e).elem w)) d))
  unfolding Follows begun step_of
  word_put_follows e w isin constant value fits d s st free here sim =
      let few : w < 2 ^ (type_of e).elem.bits = subst (λ (o : Option ℕ). IfSome o (λ v. v < 2 ^ (type_of e).elem.bits)) value (constant_below (naming g.may alive) e isin) in
      let gives : evaluated scope e active st ≡ Source.Gives (Scalar w) st = subst (λ (o : Option ℕ). Const.IsValueOf e o) value (value_means e constant) scope active st in
      subst (λ (o : Outcome Value). Follows g (Put (type_of e).elem d s) s o (Makes (O.Scalar own) (with_instr (I.FrontConst own (held (type_of e).elem w)) d))) (sym gives)
      (λ within. put_by g has alive (dest (type_of e).elem d s fits free) d 0 (I.FrontConst own (held (type_of e).elem w)) s st w (stay g s) here sim (as_it_was d) (keeps_all g d s) within refl refl few)

  pub put_follows : (e : TExpr) → (IsIn (naming g.may alive)) e → HasCode g.typed g.instance n e → Kept (type_of e).elem → Puts (type_of e).elem (λ st. evaluated scope e active st) (λ d. put_to g.typed (layout g) (O.Scalar own) e d)
  unfolding put_to word_for word_put register_word constant_of
  put_follows e isin c fits d s st free here sim = by (is_constant e) (Const.value_of e) refl refl
    where
      by : (b : Bool) (v : Option ℕ) → is_constant e ≡ b → Const.value_of e ≡ v
          → Follows g (Put (type_of e).elem d s) s (evaluated scope e active st) (elim (then_value (if b then v else None) (λ w. Some (held (type_of e).elem w))) as (λ _. Made Out) [ Some word ↦ Makes (O.Scalar own) (with_instr (I.FrontConst own word) d) | None ↦ computed_to g.typed (layout g) (O.Scalar own) e d ])
      by true (Some w) is_c is_v = word_put_follows e w isin is_c is_v fits d s st free here sim
      by true None is_c is_v = computed_follows e isin c fits d s st free here sim
      by false v is_c is_v = computed_follows e isin c fits d s st free here sim
