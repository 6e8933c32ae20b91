-- The code of a call with its arguments and its result.
use Rattle.std.proofs.Common.{◌≡◌, ◌∙◌, ℕ, zero, suc, ◌+◌, ◌-◌, ◌<◌, ◌≤◌, ◌^◌, Bool, true, List, [], ◌∷◌, length, map, slice_get, slice_index, Option, Some, None, refl, sym, ap, subst, arith}
use Rattle.std.specs.List.{All, slice_index_or}
use Rattle.std.proofs.lemmas.List.{get_or-set_other}
use mathlib.Core.Former.{Count}
use Rattle.cstar_base.specs.declared.elem.Elem.{Elem}
use Rattle.cstar_tree.specs.declared.typed.Instance.{Instance}
use Rattle.cstar_tree.specs.declared.typed.TExpr.{Row_of-TExpr}
use Rattle.cstar_tree.specs.declared.typed.VarInfo.{VarInfo}
use Rattle.cstar_tree.specs.declared.typed.Variable.{Variable}
use Rattle.cstar_tree.specs.declared.typed.Variable.TheVariants as V
use Rattle.lower_base.specs.declared.emit.Out.{Out}
use Rattle.lower_base.specs.declared.emit.Out.TheVariants as O
use Rattle.lower_base.specs.Drafts.{Draft, Made, Makes, from, in_register, step as step_of, then_make, with_instr}
use Rattle.lower_expr.specs.Frames.{argument_passed, called, field_given, finished, passed, register_given, result_given, turn_and_call, zeroed_entry}
use Rattle.lower_expr.specs.Operands.{are_quiet}
use Rattle.lower_expr.specs.Steps.{put_in_field, put_value}
use Rattle.lower_expr.specs.Values.{call_to, values_of}
use Rattle.paris_code.specs.declared.instr.Instr.TheVariants as I
use Rattle.paris_code.specs.Code.{CodeState, Goes, begun, with_register}
use Rattle.source_meaning.specs.Expressions.{operands, values_of as given_values}
use Rattle.source_meaning.specs.Gets.{Operand}
use Rattle.source_meaning.specs.Programs.{calls}
use Rattle.source_meaning.specs.State.{Outcome, State, then_do}
use Rattle.source_meaning.specs.Values.{Active, Nothing, Scope, Value, number}
use Rattle.code_follows.specs.Fragment.{AreTaken, IsScalarVariable, Takes, elems_of}
use Rattle.code_follows.proofs.Arguments.{AreDone, AreHeld, Given, arguments_follow}
use Rattle.code_follows.proofs.Callees.{AreGiven, Callee, CallsFollow, MayCall}
use Rattle.code_follows.proofs.Calling.{CameBack, keeps_passed, sim_passed, turn_follows}
use Rattle.code_follows.proofs.Following.{Extends, Follows, HasRegisters, Keeps, Ran, Sim, at_once, delayed, extends_made, follows_back, held, keeps_all, keeps_on, register_is, then_follows, with_more}
use Rattle.code_follows.proofs.Growing.{Extended, as_it_was, extended}
use Rattle.code_follows.proofs.Lists.{all_first, all_rest}
use Rattle.code_follows.proofs.Numbers.{takes_below, takes_held}
use Rattle.code_follows.proofs.Standing.{some_same}
use Rattle.std.proofs.lemmas.Option.{slice_get_within}
use Rattle.code_follows.proofs.Fresh.{IsFresh, fresh_register, fresh_then}
use Rattle.code_follows.proofs.Settings.{At, Begun, Reaches, Setting, Within, and_one, at_next, begins_here, earlier, layout, one, onto, regs_more, stay}
use Rattle.code_follows.proofs.Values.{Dest, extends_in_register, put_by}

module _ (g : Setting) (has : HasRegisters g) (alive : Variable → Type 0) where
  -- a register holds a value as a variable's
  abbrev StandsAs : ℕ → VarInfo → Value → CodeState → Type 0
  StandsAs register info v s = (slice_index s.registers register ≡ held info.elem (number v)) × (number v < 2 ^ info.elem.bits)

  -- the registers from one on hold these values as parameters
  unfoldable Stand : ℕ → List VarInfo → List Value → CodeState → Type 0
  Stand register [] vs s = Unit {0}
  Stand register (param ∷ params) [] s = ⊥
  Stand register (param ∷ params) (v ∷ vs) s = StandsAs register param v s × Stand (register + 1) params vs s

  abbrev IsAt : ℕ → VarInfo → List Value → CodeState → ℕ → Type 0
  IsAt register info vs s k = StandsAs (register + k) info (slice_index_or vs k Nothing) s

  stand_at : (register : ℕ) (params : List VarInfo) (vs : List Value) (s : CodeState) → Stand register params vs s → (k : ℕ) (info : VarInfo) → slice_get params k ≡ Some info → IsAt register info vs s k
  unfolding Stand
  stand_at register [] vs s h k info is = cc
  stand_at register (param ∷ params) [] s h k info is = absurd h
  stand_at register (param ∷ params) (v ∷ vs) s h zero info is =
      subst (λ (i : VarInfo). IsAt register i (v ∷ vs) s zero) (some_same param info is) (ap (λ (n : ℕ). slice_index s.registers n) (zero_more register) ∙ h.0.0, h.0.1)
    where
      zero_more : (n : ℕ) → n + 0 ≡ n
      zero_more n = omega arith
  stand_at register (param ∷ params) (v ∷ vs) s h (suc k) info is =
      let rest : IsAt (register + 1) info vs s k = stand_at (register + 1) params vs s h.1 k info is in
      (ap (λ (n : ℕ). slice_index s.registers n) (one_more register k) ∙ rest.0, rest.1)
    where
      one_more : (n k : ℕ) → n + suc k ≡ (n + 1) + k
      one_more n k = omega arith

  -- what stands behind the arguments, of a scalar result or of none
  abbrev IsScalarResult : Option VarInfo → Type 0
  IsScalarResult o = (info : VarInfo) → o ≡ Some info → info.shape ≡ None

  turn_more : (index : ℕ) (d : Draft) → Extended d 2 (turn_and_call index d)
  unfolding turn_and_call
  turn_more index d = extended d (with_instr I.FrontTurn d) _ 1 1 (and_one g I.FrontTurn d) (and_one g (I.FrontCall index) (with_instr I.FrontTurn d))

  abbrev register_result : ℕ → ℕ → ℕ → Draft → Draft
  register_result index register r f = with_instr (I.FrontMove r register) (turn_and_call index (with_instr (I.FrontConst register 0) f))

  result_more : (index register r : ℕ) (f : Draft) → Extended f 4 (register_result index register r f)
  result_more index register r f =
      let zeroed : Draft = with_instr (I.FrontConst register 0) f in
      extended f (turn_and_call index zeroed) _ 3 1 (extended f zeroed (turn_and_call index zeroed) 1 2 (and_one g (I.FrontConst register 0) f) (turn_more index zeroed)) (and_one g (I.FrontMove r register) (turn_and_call index zeroed))

  result_is : (index : ℕ) (info : VarInfo) (register : ℕ) (dest : Out) (f : Draft) → info.shape ≡ None → finished index (Some info) register 0 dest f ≡ in_register dest (λ r. Makes dest (register_result index register r f))
  unfolding finished result_given register_given
  result_is index info register dest f scalar = ap (λ (shape : Option ℕ). elim shape as (λ _. Made Out) [ None ↦ register_given index register dest f | Some set ↦ field_given index info set 0 dest f ]) scalar

  extends_finished : (index : ℕ) (o : Option VarInfo) (register : ℕ) (dest : Out) (f : Draft) → IsScalarResult o → Extends g f (finished index o register 0 dest f)
  unfolding Extends finished
  extends_finished index None register dest f scalar = (2, turn_more index f)
  extends_finished index (Some info) register dest f scalar =
      subst (λ (made : Made Out). Extends g f made) (sym (result_is index info register dest f (scalar info refl))) (extends_in_register g has alive f dest _ (λ r. (4, result_more index register r f)))

  fresh_finished : (index : ℕ) (o : Option VarInfo) (register r : ℕ) (d f : Draft) → IsScalarResult o → d.regs ≤ r → r < f.regs → IsFresh d (finished index o register 0 (O.Scalar r) f)
  unfolding IsFresh finished in_register
  fresh_finished index None register r d f scalar low high = tt
  fresh_finished index (Some info) register r d f scalar low high =
      subst (λ (made : Made Out). IsFresh d made) (sym (result_is index info register (O.Scalar r) f (scalar info refl))) (low, let more = (result_more index register r f).regs in omega (arith, high, more))

  -- an argument of a scalar parameter is moved
  abbrev move_behind : (index : ℕ) (o : Option VarInfo) (params : List VarInfo) (outs : List Out) (register : ℕ) (dest : Out) → ℕ → Draft → Made Out
  move_behind index o params outs register dest a e = passed index o params outs (register + 1) 0 dest (with_instr (I.FrontMove register a) e)

  passed_is : (index : ℕ) (o : Option VarInfo) (param : VarInfo) (params : List VarInfo) (v : Out) (outs : List Out) (register : ℕ) (dest : Out) (e : Draft) → param.shape ≡ None
      → passed index o (param ∷ params) (v ∷ outs) register 0 dest e ≡ in_register v (λ a. move_behind index o params outs register dest a e)
  unfolding passed argument_passed put_value then_make in_register
  passed_is index o param params v outs register dest e scalar =
      ap (λ (shape : Option ℕ). then_make (elim shape as (λ _. Made ℕ) [
        | None ↦ then_make (put_value (O.Scalar register) v e) (λ _ after. Makes 0 after)
        | Some set ↦ then_make (zeroed_entry index set param.elem.bits 0 e) (λ place between. then_make (put_in_field place v between) (λ _ after. Makes (0 + 1) after))
      ]) (λ next after. passed index o params outs (register + 1) next dest after)) scalar ∙ by v
    where
      by : (v : Out) → then_make (then_make (put_value (O.Scalar register) v e) (λ _ after. Makes 0 after)) (λ next after. passed index o params outs (register + 1) next dest after) ≡ in_register v (λ a. move_behind index o params outs register dest a e)
      by (O.Scalar a) = refl
      by (O.Field f) = refl
      by O.Nothing = refl

  extends_passed : (index : ℕ) (o : Option VarInfo) (params : List VarInfo) (outs : List Out) (register : ℕ) (dest : Out) (e : Draft) → All IsScalarVariable params → IsScalarResult o → Extends g e (passed index o params outs register 0 dest e)
  unfolding passed
  extends_passed index o [] outs register dest e plain scalar = extends_finished index o register dest e scalar
  extends_passed index o (param ∷ params) [] register dest e plain scalar = extends_finished index o register dest e scalar
  extends_passed index o (param ∷ params) (v ∷ outs) register dest e plain scalar =
      subst (λ (made : Made Out). Extends g e made) (sym (passed_is index o param params v outs register dest e (all_first IsScalarVariable param params plain)))
      (extends_in_register g has alive e v _ (λ a. extends_made g e (with_instr (I.FrontMove register a) e) 1 _ (and_one g (I.FrontMove register a) e) (extends_passed index o params outs (register + 1) dest (with_instr (I.FrontMove register a) e) (all_rest IsScalarVariable param params plain) scalar)))

  fresh_passed : (index : ℕ) (o : Option VarInfo) (params : List VarInfo) (outs : List Out) (register r : ℕ) (d e : Draft) → All IsScalarVariable params → IsScalarResult o → d.regs ≤ r → r < e.regs → IsFresh d (passed index o params outs register 0 (O.Scalar r) e)
  unfolding passed
  fresh_passed index o [] outs register r d e plain scalar low high = fresh_finished index o register r d e scalar low high
  fresh_passed index o (param ∷ params) [] register r d e plain scalar low high = fresh_finished index o register r d e scalar low high
  fresh_passed index o (param ∷ params) (v ∷ outs) register r d e plain scalar low high =
      subst (λ (made : Made Out). IsFresh d made) (sym (passed_is index o param params v outs register (O.Scalar r) e (all_first IsScalarVariable param params plain)))
      (fresh_register g has alive d v _ (λ a. fresh_passed index o params outs (register + 1) r d (with_instr (I.FrontMove register a) e) (all_rest IsScalarVariable param params plain) scalar low (let regs = regs_more g (I.FrontMove register a) e in omega (arith, high, regs))))

  -- the call of what is known
  called_is : {active : Active} {index : ℕ} (m : MayCall g active index) (outs : List Out) (dest : Out) (e : Draft) → called g.typed (layout g) index outs dest e ≡ passed index m.callee.callee.result m.callee.callee.params.items outs m.callee.base 0 dest e
  unfolding called from
  called_is {active} {index} m outs dest e =
      ap (λ (o : Option Instance). from o (λ callee. from (slice_get (layout g).bases index) (λ base. passed index callee.result callee.params.items outs base 0 dest e))) m.callee.is
      ∙ ap (λ (o : Option ℕ). from o (λ base. passed index m.callee.callee.result m.callee.callee.params.items outs base 0 dest e)) m.callee.based

  scalar_result : {active : Active} {index : ℕ} (m : MayCall g active index) → IsScalarResult m.callee.callee.result
  scalar_result m info is = m.callee.result info is

  pub extends_called : {active : Active} {index : ℕ} (m : MayCall g active index) (outs : List Out) (dest : Out) (e : Draft) → Extends g e (called g.typed (layout g) index outs dest e)
  extends_called {active} {index} m outs dest e =
      subst (λ (made : Made Out). Extends g e made) (sym (called_is m outs dest e)) (extends_passed index m.callee.callee.result m.callee.callee.params.items outs m.callee.base dest e m.callee.params (scalar_result m))

  pub fresh_called : {active : Active} {index : ℕ} (m : MayCall g active index) (codes : List Out → Draft → Made (List Out)) (r : ℕ) (d e : Draft) → d.regs ≤ r → r < e.regs → Extends g e (codes [] e) → IsFresh d (call_to g.typed (layout g) index codes (O.Scalar r) e)
  unfolding call_to
  fresh_called {active} {index} m codes r d e low high grows =
      fresh_then g has alive d e (codes [] e) _ grows (λ outs f more.
      subst (λ (made : Made Out). IsFresh d made) (sym (called_is m outs (O.Scalar r) f)) (fresh_passed index m.callee.callee.result m.callee.callee.params.items outs m.callee.base r d f m.callee.params (scalar_result m) low (omega (arith, high, more))))

  module _ (files_live : (k : ℕ) → alive (V.File k)) (scope : Scope) (active : Active) (calls_follow : CallsFollow g scope active) {index : ℕ} (m : MayCall g active index) where
    abbrev c : Callee g index
    c = m.callee

    abbrev source : ℕ
    source = c.base + length c.callee.params.items

    abbrev called_so : List Value → State → Outcome Value
    called_so arguments st = calls g.typed g.most index arguments active st

    -- ---- the arguments go to the parameters

    module _ (quiet : Bool) (e0 : Draft) (s1 : CodeState) (st : State) (R : Value → State → Out → Draft → Type 0) (o : Outcome Value) (outcome : Option VarInfo) (scalar : IsScalarResult outcome) (dest : Out) where
      -- what is behind them
      abbrev Finish : ℕ → List VarInfo → List Value → CodeState → Type 0
      Finish register params values s =
          (f : Draft) (k : ℕ) (t : CodeState) (last : ℕ) → last ≡ register + length params → Extended e0 k f → Reaches g s1 t → At g t (length f.code) → Sim g alive st t → Keeps g e0 s1 t → Stand register params values t
          → ((q : ℕ) → q < register → slice_index t.registers q ≡ slice_index s.registers q) → Follows g R t o (finished index outcome last 0 dest f)

      passes : (params : List VarInfo) (given : List Operand) (outs : List Out) (register : ℕ) → All IsScalarVariable params → AreTaken params (map (λ (o : Operand). o.elem) given) → AreHeld g has alive scope active quiet given outs e0 st s1
          → ((j : ℕ) → register ≤ j → j < register + length params → c.touches j) → register + length params < (layout g).end → (e : Draft) (n : ℕ) (s : CodeState) → Extended e0 n e → Reaches g s1 s → At g s (length e.code) → Sim g alive st s → Keeps g e0 s1 s
          → Finish register params (given_values given) s → Follows g R s o (passed index outcome params outs register 0 dest e)
      unfolding passed AreHeld Stand given_values begun step_of in_register number
      passes [] [] outs register plain takes holding touch room e n s ext go here sim keeps finish = finish e n s register (omega arith) ext go here sim keeps tt (λ q less. refl)
      passes [] (v ∷ given) outs register plain takes holding touch room e n s ext go here sim keeps finish = absurd takes
      passes (param ∷ params) [] outs register plain takes holding touch room e n s ext go here sim keeps finish = absurd takes
      passes (param ∷ params) (v ∷ given) [] register plain takes holding touch room e n s ext go here sim keeps finish = absurd holding
      passes (param ∷ params) (v ∷ given) (out ∷ outs) register plain takes holding touch room e n s ext go here sim keeps finish =
          let holds = holding.0 in
          let is_word : number v.value ≡ holds.word = ap number holds.value in
          let few : number v.value < 2 ^ param.elem.bits = subst (λ (w : ℕ). w < 2 ^ param.elem.bits) (sym is_word) (takes_below param.elem v.elem holds.word takes.0 holds.small) in
          let passed_word : ℕ = held param.elem (number v.value) in
          let stands : slice_index s.registers holds.register ≡ passed_word = holds.lasts st s sim keeps (λ calm. refl) ∙ takes_held param.elem v.elem holds.word takes.0 holds.small ∙ ap (λ (w : ℕ). held param.elem w) (sym is_word) in
          let next : Draft = with_instr (I.FrontMove register holds.register) e in
          let t : CodeState = with_register register passed_word s in
          let inside : register < length s.registers = let slots = has.room in let all = sim.registers in omega (arith, room, slots, all) in
          subst (λ (made : Made Out). Follows g R s o made) (sym (passed_is index outcome param params out outs register dest e (all_first IsScalarVariable param params plain)))
          (subst (λ (w : Out). Follows g R s o (in_register w (λ a. move_behind index outcome params outs register dest a e))) (sym holds.is)
          (delayed g R next s o _ (extends_passed index outcome params outs (register + 1) dest next (all_rest IsScalarVariable param params plain) scalar) (λ within.
          let goes : Reaches g s t = one g s t (begins_here g (I.FrontMove register holds.register) e s within refl here ∙ ap (λ (w : ℕ). Goes (with_register register w s)) stands) refl in
          let touched : c.touches register = touch register (omega arith) (omega arith) in
          let high : e0.regs ≤ g.ends = let own = within.own in let more = regs_more g (I.FrontMove register holds.register) e in let regs = ext.regs in omega (arith, own, more, regs) in
          follows_back g R s t o _ goes
          (passes params given outs (register + 1) (all_rest IsScalarVariable param params plain) takes.1 holding.1 (λ j low up. touch j (omega (arith, low)) (omega (arith, up))) (omega (arith, room)) next (n + 1) t
          (extended e0 e next n 1 ext (and_one g (I.FrontMove register holds.register) e)) (onto g s1 s t go goes) (at_next g (I.FrontMove register holds.register) e s (s.at + 1) here refl)
          (sim_passed g has alive files_live scope active calls_follow m st s register passed_word touched sim)
          (λ q kept. keeps_passed g has alive files_live scope active calls_follow m e0 s register passed_word touched high q kept ∙ keeps q kept)
          (λ f k u last is x went at_u sim_u keeps_u stand below. finish f k u last (omega (arith, is)) x went at_u sim_u keeps_u
          ((below register (omega arith) ∙ register_is g s register passed_word inside, few), stand)
          (λ q less. below q (omega (arith, less)) ∙ get_or-set_other s.registers register q passed_word 0 (λ same. omega (arith, same, less))))))))

    -- the call behind its arguments
    with_arguments : (quiet : Bool) (elems : List Elem) (R : Value → State → Out → Draft → Type 0) (dest : Out) (d : Draft) (s : CodeState) (st : State) (given : List Operand) (u : State) (all : List Out) (e : Draft) → Given g has alive scope active quiet elems d s st [] given u all e
        → AreTaken c.callee.params.items elems
        → ((f : Draft) (k : ℕ) (t : CodeState) → Extended d k f → Reaches g s t → At g t (length f.code) → Sim g alive u t → Keeps g d s t → AreGiven g c (given_values given) t → Follows g R t (called_so (given_values given) u) (finished index c.callee.result source 0 dest f))
        → Follows g R s (scope.call index (given_values given) active u) (called g.typed (layout g) index all dest e)
    with_arguments quiet elems R dest d s st given u all e r takes next =
        subst (λ (call : ℕ → List Value → Active → State → Outcome Value). Follows g R s (call index (given_values given) active u) (called g.typed (layout g) index all dest e)) (sym calls_follow.meant)
        (subst (λ (outs : List Out). Follows g R s (called_so (given_values given) u) (called g.typed (layout g) index outs dest e)) (sym r.is)
        (subst (λ (made : Made Out). Follows g R s (called_so (given_values given) u) made) (sym (called_is m r.more dest e))
        (follows_back g R s r.t (called_so (given_values given) u) _ r.go
        (passes quiet e r.t u R (called_so (given_values given) u) c.callee.result (scalar_result m) dest c.callee.params.items given r.more c.base c.params (subst (λ (es : List Elem). AreTaken c.callee.params.items es) (sym r.are_of) takes) r.held own c.room e 0 r.t (as_it_was e) (stay g r.t) r.at r.sim (keeps_all g e r.t)
        (λ f k t last is x go here sim keeps stand below.
        subst (λ (n : ℕ). Follows g R t (called_so (given_values given) u) (finished index c.callee.result n 0 dest f)) (sym is)
        (next f (r.grown.0 + k) t (extended d e f r.grown.0 k r.grown.1 x) (onto g s r.t t r.go go) here sim (keeps_on g d e r.grown.0 s r.t t r.grown.1 r.keeps keeps)
        (record { words = λ j info is. (there t stand j info is).0; few = λ j info is. (there t stand j info is).1 })))))))
      where
        own : (j : ℕ) → c.base ≤ j → j < c.base + length c.callee.params.items → c.touches j
        own j low up = let same : c.base + (j - c.base) ≡ j = omega (arith, low) in subst (λ (n : ℕ). c.touches n) same (c.own (j - c.base) (omega (arith, low, up)))

        there : (t : CodeState) → Stand c.base c.callee.params.items (given_values given) t → (j : ℕ) (info : VarInfo) → slice_get c.callee.params.items j ≡ Some info → IsAt c.base info (given_values given) t j
        there t stand j info is = stand_at c.base c.callee.params.items (given_values given) t stand j info is

    -- ---- the result

    result_follows : (info : VarInfo) → c.callee.result ≡ Some info → (elem : Elem) → Takes elem info.elem → (d : Draft) (s0 : CodeState) (R : Value → State → Out → Draft → Type 0) (r : ℕ) → Begun g alive d → Dest g has alive elem d s0 R r → (f : Draft) (n : ℕ) (t : CodeState) (u : State) (arguments : List Value) → Extended d n f → Reaches g s0 t
        → At g t (length f.code) → Sim g alive u t → Keeps g d s0 t → AreGiven g c arguments t → Follows g R t (called_so arguments u) (Makes (O.Scalar r) (register_result index source r f))
    unfolding begun step_of
    result_follows info found elem takes d s0 R r free dest f n t u arguments ext go here sim keeps given = at_once g R t (called_so arguments u) (O.Scalar r) (register_result index source r f) (λ within. all within)
      where
        zeroed : Draft
        zeroed = with_instr (I.FrontConst source 0) f

        t1 : CodeState
        t1 = with_register source 0 t

        touched : c.touches source
        touched = c.own (length c.callee.params.items) (omega arith)

        inside : source < length t.registers
        inside = let slots = has.room in let all = sim.registers in let room = c.room in omega (arith, room, slots, all)

        given_still : AreGiven g c arguments t1
        given_still = record { words = λ k info is. let less = slice_get_within c.callee.params.items k info is in get_or-set_other t.registers source (c.base + k) 0 0 (λ same. omega (arith, same, less)) ∙ given.words k info is; few = given.few }

        puts : (v : Value) (w : State) → CameBack g has alive files_live scope active calls_follow m d s0 v w tt (turn_and_call index zeroed) → Within g (register_result index source r f) → R v w (O.Scalar r) (register_result index source r f)
        puts v w back within =
            let given = back.given info found in
            subst (λ (x : Value). R x w (O.Scalar r) (register_result index source r f)) (sym given.1.0)
            (put_by g has alive dest (turn_and_call index zeroed) back.grown.0 (I.FrontMove r source) back.t w given.0 back.go back.at back.sim back.grown.1 back.keeps within refl
            (ap (λ (x : ℕ). Goes (with_register r x back.t)) (given.1.2 ∙ takes_held elem info.elem given.0 takes given.1.1)) (takes_below elem info.elem given.0 takes given.1.1))

        all : Within g (register_result index source r f) → Follows g R t (called_so arguments u) (Makes (O.Scalar r) (register_result index source r f))
        all within =
            let within_call : Within g (turn_and_call index zeroed) = earlier g (turn_and_call index zeroed) (register_result index source r f) 1 (and_one g (I.FrontMove r source) (turn_and_call index zeroed)) within in
            let within_zero : Within g zeroed = earlier g zeroed (turn_and_call index zeroed) 2 (turn_more index zeroed) within_call in
            let goes : Reaches g t t1 = one g t t1 (begins_here g (I.FrontConst source 0) f t within_zero refl here) refl in
            let high : d.regs ≤ g.ends = let own = within_zero.own in let more = regs_more g (I.FrontConst source 0) f in let regs = ext.regs in omega (arith, own, more, regs) in
            follows_back g R t t1 (called_so arguments u) _ goes
            (with_more g (CameBack g has alive files_live scope active calls_follow m d s0) R t1 (called_so arguments u) tt (O.Scalar r) (turn_and_call index zeroed) (register_result index source r f) 1 (and_one g (I.FrontMove r source) (turn_and_call index zeroed))
            (turn_follows g has alive files_live scope active calls_follow m d free s0 zeroed (n + 1) t1 u arguments (extended d f zeroed n 1 ext (and_one g (I.FrontConst source 0) f)) (onto g s0 t t1 go goes) (at_next g (I.FrontConst source 0) f t (t.at + 1) here refl)
            (sim_passed g has alive files_live scope active calls_follow m u t source 0 touched sim) (λ q kept. keeps_passed g has alive files_live scope active calls_follow m d t source 0 touched high q kept ∙ keeps q kept) given_still (λ info is. register_is g t source 0 inside))
            (λ v w back within. puts v w back within))

    -- ---- the call

    abbrev meant : {k : Count} → Row_of-TExpr k → State → Outcome Value
    meant row st = then_do (operands scope row active st) (λ given after. scope.call index (given_values given) active after)

    abbrev made_call : {k : Count} → Row_of-TExpr k → Out → Draft → Made Out
    made_call row dest d = call_to g.typed (layout g) index (values_of g.typed (layout g) true (are_quiet row) row) dest d

    -- a call with a result, whose last instruction writes the register of which something is said
    pub call_follows : {k : Count} (row : Row_of-TExpr k) → AreDone g has alive scope active true (are_quiet row) row → AreTaken c.callee.params.items (elems_of row) → (info : VarInfo) → c.callee.result ≡ Some info → (elem : Elem) → Takes elem info.elem
        → (d : Draft) (s : CodeState) (st : State) (R : Value → State → Out → Draft → Type 0) (r : ℕ) → Begun g alive d → At g s (length d.code) → Sim g alive st s → Dest g has alive elem d s R r → Follows g R s (meant row st) (made_call row (O.Scalar r) d)
    unfolding call_to in_register
    call_follows row done taken info is elem takes d s st R r free here sim dest =
        then_follows g (Given g has alive scope active (are_quiet row) (elems_of row) d s st []) R s s (operands scope row active st) _ _ (λ given after. called g.typed (layout g) index given (O.Scalar r) after) (stay g s)
        (arguments_follow g has alive scope active true (are_quiet row) row (λ calm. calm) done [] d s st free here sim) (λ outs e. extends_called m outs (O.Scalar r) e)
        (λ given u all e x. with_arguments (are_quiet row) (elems_of row) R (O.Scalar r) d s st given u all e x taken (λ f k t ext go at_t sim_t keeps given_t.
        subst (λ (o : Option VarInfo). Follows g R t (called_so (given_values given) u) (finished index o source 0 (O.Scalar r) f)) (sym is)
        (subst (λ (made : Made Out). Follows g R t (called_so (given_values given) u) made) (sym (result_is index info source (O.Scalar r) f (scalar_result m info is)))
        (result_follows info is elem takes d s R r free dest f k t u (given_values given) ext go at_t sim_t keeps given_t))))

    -- a call without one
    pub call_runs : {k : Count} (row : Row_of-TExpr k) → AreDone g has alive scope active true (are_quiet row) row → AreTaken c.callee.params.items (elems_of row) → c.callee.result ≡ None
        → (dest : Out) (d : Draft) (s : CodeState) (st : State) → Begun g alive d → At g s (length d.code) → Sim g alive st s → Follows g (λ v u out e. Ran g alive d s u e) s (meant row st) (made_call row dest d)
    unfolding call_to finished
    call_runs row done taken is dest d s st free here sim =
        then_follows g (Given g has alive scope active (are_quiet row) (elems_of row) d s st []) (λ v u out e. Ran g alive d s u e) s s (operands scope row active st) _ _ (λ given after. called g.typed (layout g) index given dest after) (stay g s)
        (arguments_follow g has alive scope active true (are_quiet row) row (λ calm. calm) done [] d s st free here sim) (λ outs e. extends_called m outs dest e)
        (λ given u all e x. with_arguments (are_quiet row) (elems_of row) (λ v w out f. Ran g alive d s w f) dest d s st given u all e x taken (λ f k t ext go at_t sim_t keeps given_t.
        subst (λ (o : Option VarInfo). Follows g (λ v w out h. Ran g alive d s w h) t (called_so (given_values given) u) (finished index o source 0 dest f)) (sym is)
        (with_more g (CameBack g has alive files_live scope active calls_follow m d s) (λ v w out h. Ran g alive d s w h) t (called_so (given_values given) u) tt O.Nothing (turn_and_call index f) (turn_and_call index f) 0 (as_it_was (turn_and_call index f))
        (turn_follows g has alive files_live scope active calls_follow m d free s f k t u (given_values given) ext go at_t sim_t keeps given_t (λ info found. absurd (let no : Some info ≡ None = sym found ∙ is in cc)))
        (λ v w back within. record { grown = back.grown; t = back.t; go = back.go; at = back.at; sim = back.sim; keeps = back.keeps }))))
