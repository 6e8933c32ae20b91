-- `return`, and the end of a function.
use Rattle.std.proofs.Common.{◌≡◌, ◌∙◌, ℕ, ◌+◌, ◌<◌, ◌^◌, Bool, true, false, length, slice_index, List, Option, Some, None, refl, sym, ap, subst, if◌then◌else◌, arith}
use Rattle.std.proofs.lemmas.List.{get_or-set_other, get_or-set_same}
use Rattle.std.specs.Prelude.{IfSome}
use Rattle.cstar_base.specs.declared.elem.Elem.{Elem}
use Rattle.cstar_tree.specs.declared.typed.TExpr.{TExpr}
use Rattle.cstar_tree.specs.declared.typed.TStmt as S
use Rattle.cstar_tree.specs.declared.typed.VarInfo.{VarInfo}
use Rattle.cstar_tree.specs.declared.typed.Variable.TheVariants as V
use Rattle.cstar_tree.specs.declared.typed.Variable.{Variable}
use Rattle.cstar_tree.specs.Typed.{type_of}
use Rattle.code_lengths.specs.Ready.{HasCode, IsReadyButForFields}
use Rattle.lower_base.specs.declared.emit.Out.{Out}
use Rattle.lower_base.specs.declared.emit.Out.TheVariants as O
use Rattle.lower_base.specs.Drafts.{Draft, Fails, Made, Makes, in_register, step as step_of, then_make, with_instr}
use Rattle.lower_base.specs.Layouts.{result_register}
use Rattle.lower_expr.specs.Steps.{put_value}
use Rattle.lower_expr.specs.Values.{next_of}
use Rattle.lower_stmt.specs.declared.statement.Outcome.{Outcome}
use Rattle.lower_stmt.specs.declared.statement.Outcome.TheVariants as R
use Rattle.lower_stmt.specs.Frames.{with_end}
use Rattle.lower_stmt.specs.Programs.{outcome_of}
use Rattle.lower_stmt.specs.Statements.{given_back, restored, returned as returned_by, statement_of, stored_result}
use Rattle.paris_code.specs.declared.instr.Instr.TheVariants as I
use Rattle.paris_code.specs.declared.operands.Field.{Field}
use Rattle.paris_code.specs.Code as Machine
use Rattle.paris_code.specs.Code.{CodeState, Ends, Goes, begun, returned as returned_to, step, with_register}
use Rattle.source_meaning.specs.Expressions.{evaluated}
use Rattle.source_meaning.specs.State as Source
use Rattle.source_meaning.specs.State.{State, then_do}
use Rattle.source_meaning.specs.Statements.{Returned, executed, returned}
use Rattle.source_meaning.specs.Values.{Active, Scalar, Scope, Value}
use Rattle.code_follows.specs.Fragment.{IsIn, Takes, naming}
use Rattle.code_follows.proofs.ConstantRegisters.{behind_variables}
use Rattle.code_follows.proofs.Declaring.{sim_fewer}
use Rattle.code_follows.proofs.Executing.{Exits, IsGiven, Jumped, Leaves, Left, LeftSo, Returns}
use Rattle.code_follows.proofs.Expressions.{operand}
use Rattle.code_follows.proofs.Callees.{CallsFollow}
use Rattle.code_follows.proofs.Following.{Extends, Follows, HasRegisters, Keeps, Ran, Sim, apart_set, delayed, finished, held, keeps_all, result_kept, spared_kept}
use Rattle.code_follows.proofs.Growing.{Extended, extended}
use Rattle.code_follows.proofs.Restoring.{restored_more}
use Rattle.code_follows.proofs.Settings.{At, Begun, Reaches, Setting, Within, and_one, at_next, begins_here, begun_later, earlier, layout, one, onto, holding}
use Rattle.code_follows.proofs.Statements.{StandsHere, StandsIn}
use Rattle.code_follows.proofs.Values.{Value_of}
use Rattle.code_follows.proofs.Numbers.{takes_below, takes_held}
use Rattle.code_follows.proofs.Words.{scalar_of}

-- the function is left where its code ends
pub leaves : (g : Setting) (alive : Variable → Type 0) (e : Draft) (s : CodeState) → Within g (with_end g.is_main e) → At g s (length e.code) → Leaves g alive s
unfolding begun step_of with_end
leaves g alive e s within at = by g.is_main within
  where
    by : (b : Bool) → Within g (with_instr (if b then I.FrontHalt else I.FrontReturn) e) → step g.image s ≡ (if b then Ends Machine.Done s else Goes (returned_to s))
    by true within = begins_here g I.FrontHalt e s within refl at
    by false within = begins_here g I.FrontReturn e s within refl at

pub end_more : (g : Setting) (e : Draft) → Extended e 1 (with_end g.is_main e)
unfolding with_end
end_more g e = and_one g (if g.is_main then I.FrontHalt else I.FrontReturn) e

-- the function is left at the end of its body
pub left_at_end : (g : Setting) (alive : Variable → Type 0) (d e : Draft) (s : CodeState) (u : State) → Within g (with_end g.is_main e) → Ran g alive d s u e → Returns g alive g.held s u None
unfolding IsGiven
left_at_end g alive d e s u within ran = record {
  t = ran.t;
  go = ran.go;
  sim = ran.sim;
  leaves = leaves g alive e ran.t within ran.at;
  spares = λ r spared. ran.keeps r (spared_kept g d r spared);
  given = ran.keeps (result_register (layout g)) (result_kept g d);
}

module _ (g : Setting) (has : HasRegisters g) (alive : Variable → Type 0) (files : (k : ℕ) → alive (V.File k)) (ready : (n : ℕ) (d : Draft) → IsReadyButForFields g.typed g.instance (layout g) n d) (scope : Scope) (active : Active) (calls_follow : CallsFollow g scope active) (f : Exits) (contexts : List Field) (stands : StandsHere g alive f contexts) where
  -- the saved contexts are loaded behind a draft
  abbrev leaving : Draft → Draft
  leaving after = restored contexts f.frame.saved.in_all after

  -- what is behind the code of a `return`
  abbrev then_leaves : ℕ → Draft → Made ℕ
  then_leaves n after = Makes n (with_end g.is_main (leaving after))

  leaving_more : (e : Draft) → (k : ℕ) × Extended e k (with_end g.is_main (leaving e))
  leaving_more e = let loads = restored_more g contexts f.frame.saved.in_all e in (loads.0 + 1, extended e (leaving e) (with_end g.is_main (leaving e)) loads.0 1 loads.1 (end_more g (leaving e)))

  -- so the code leaves the function where they are loaded
  leads_out : (e : Draft) (s : CodeState) (u : State) → Begun g alive e → At g s (length e.code) → Sim g alive u s → Within g (with_end g.is_main (leaving e)) → (j : Jumped g alive f.all e s u (length (leaving e).code)) × Leaves g alive j.t
  leads_out e s u begun at sim within =
      let j = stands.all.loads alive e s u begun at sim (earlier g (leaving e) (with_end g.is_main (leaving e)) 1 (end_more g (leaving e)) within) in
      (j, leaves g alive (leaving e) j.t within j.at)

  -- the value is put in the register of the result, and the function is left
  abbrev stored_then_leaves : Outcome → ℕ → Out → Draft → Made ℕ
  stored_then_leaves given n out e = then_make (stored_result (layout g) given out e) (λ u after. then_leaves n after)

  extends_stored : (given : Outcome) (n : ℕ) (out : Out) (e : Draft) → (given ≡ R.Parallel → ⊥) → Extends g e (stored_then_leaves given n out e)
  unfolding Extends stored_result put_value in_register then_make
  extends_stored R.Nothing n out e none = leaving_more e
  extends_stored R.Scalar n (O.Scalar r) e none =
      let moves : Draft = with_instr (I.FrontMove (result_register (layout g)) r) e in
      let more = leaving_more moves in
      (1 + more.0, extended e moves (with_end g.is_main (leaving moves)) 1 more.0 (and_one g (I.FrontMove (result_register (layout g)) r) e) more.1)
  extends_stored R.Scalar n (O.Field h) e none = tt
  extends_stored R.Scalar n O.Nothing e none = tt
  extends_stored R.Parallel n out e none = absurd (none refl)

  -- a number in the register of the result is that of no variable and no constant
  result_set : (st : State) (s : CodeState) (v : ℕ) → Sim g alive st s → Sim g alive st (with_register (result_register (layout g)) v s)
  result_set st s v h =
      apart_set g alive st s (result_register (layout g)) v (λ x info scalar e. has.result_apart x info scalar.0 e)
      (λ word q is e. let a = behind_variables (layout g) word q is in let b = has.result in omega (arith, e, a, b)) h

  given_so : (elem : Elem) → ((info : VarInfo) → g.instance.result ≡ Some info → Takes info.elem elem) → (d : Draft) (s0 : CodeState) (w : ℕ) (u : State) (given : Outcome) (n r : ℕ) (e : Draft) (t : CodeState) → (given ≡ R.Parallel → ⊥) → (given ≡ R.Nothing → g.instance.result ≡ None) → Begun g alive e → Reaches g s0 t → Keeps g d s0 t → At g t (length e.code) → Sim g alive u t
      → w < 2 ^ elem.bits → slice_index t.registers r ≡ held elem w → Follows g (Left g alive f d s0) s0 (Source.Gives (Returned (Some (Scalar w))) u) (stored_then_leaves given n (O.Scalar r) e)
  unfolding Follows LeftSo IsGiven stored_result put_value in_register then_make begun step_of
  given_so elem takes d s0 w u R.Nothing n r e t none no_result begun go keeps at sim few is = λ within.
      let (j, ends) = leads_out e t u begun at sim within in
      record {
        t = j.t;
        go = onto g s0 t j.t go j.go;
        sim = sim_fewer (holding g f.all) alive f.outer u j.t (λ x info named h. stands.outer x h) j.sim;
        leaves = ends;
        spares = λ k spared. j.keeps k (spared_kept g e k spared) ∙ keeps k (spared_kept g d k spared);
        given = λ info found. absurd (let no : Some info ≡ None = sym found ∙ no_result refl in cc);
      }
  given_so elem takes d s0 w u R.Scalar n r e t none no_result begun go keeps at sim few is = λ within.
      let q : ℕ = result_register (layout g) in
      let i = I.FrontMove q r in
      let moves : Draft = with_instr i e in
      let more = leaving_more moves in
      let before : Within g moves = earlier g moves (with_end g.is_main (leaving moves)) more.0 more.1 within in
      let t1 : CodeState = with_register q (slice_index t.registers r) t in
      let inside : q < length t.registers = let below = has.result in let long = sim.registers in let room = has.room in omega (arith, below, room, long) in
      let (j, ends) = leads_out moves t1 u (begun_later g alive e moves 1 (and_one g i e) begun) (at_next g i e t (t.at + 1) at refl) (result_set u t (slice_index t.registers r) sim) within in
      record {
        t = j.t;
        go = onto g s0 t j.t go (onto g t t1 j.t (one g t t1 (begins_here g i e t before refl at) refl) j.go);
        sim = sim_fewer (holding g f.all) alive f.outer u j.t (λ x info named h. stands.outer x h) j.sim;
        leaves = ends;
        spares = λ k spared. j.keeps k (spared_kept g moves k spared) ∙ get_or-set_other t.registers q k (slice_index t.registers r) 0 (λ e. has.spared_result (subst (λ (m : ℕ). g.spared m) e spared)) ∙ keeps k (spared_kept g d k spared);
        given = λ info found. (
          w,
          (
            refl,
            takes_below info.elem elem w (takes info found) few,
            j.keeps q (result_kept g moves) ∙ get_or-set_same t.registers q (slice_index t.registers r) 0 inside ∙ is ∙ takes_held info.elem elem w (takes info found) few,
          ),
        );
      }
  given_so elem takes d s0 w u R.Parallel n r e t none no_result begun go keeps at sim few is = absurd (none refl)

  -- `return` with a value
  answers : (elem : Elem) (d : Draft) (s0 : CodeState) (given : Outcome) (n : ℕ) (shape : Option ℕ) → Begun g alive d → shape ≡ None → ((info : VarInfo) → g.instance.result ≡ Some info → Takes info.elem elem) → (given ≡ R.Parallel → ⊥) → (given ≡ R.Nothing → g.instance.result ≡ None) → (o : Source.Outcome Value) (made : Made Out)
      → Follows g (Value_of g has alive elem true d s0) s0 o made → Follows g (Left g alive f d s0) s0 (then_do o (λ v after. Source.Gives (Returned (Some (returned active shape v))) after)) (then_make (then_make made (λ v after. stored_result (layout g) given v after)) (λ u after. then_leaves n after))
  unfolding Follows then_do then_make returned
  answers elem d s0 given n shape free scalar takes none no_result (Source.Gives v u) (Makes out e) h =
      delayed g (Left g alive f d s0) e s0 (Source.Gives (Returned (Some (returned active shape v))) u) (stored_then_leaves given n out e) (extends_stored given n out e none) (λ within.
      let arr = h within in
      let there : slice_index arr.t.registers arr.holds.register ≡ held elem arr.holds.word = arr.holds.lasts u arr.t arr.sim (keeps_all g e arr.t) (λ h. refl) in
      let is : returned active shape v ≡ Scalar arr.holds.word = ap (λ (o : Option ℕ). returned active o v) scalar ∙ arr.holds.value in
      subst (λ (x : Value). Follows g (Left g alive f d s0) s0 (Source.Gives (Returned (Some x)) u) (stored_then_leaves given n out e)) (sym is)
      (subst (λ (o : Out). Follows g (Left g alive f d s0) s0 (Source.Gives (Returned (Some (Scalar arr.holds.word))) u) (stored_then_leaves given n o e)) (sym arr.holds.is)
      (given_so elem takes d s0 arr.holds.word u given n arr.holds.register e arr.t none no_result (begun_later g alive d e arr.extended.0 arr.extended.1 free) arr.go arr.keeps arr.at arr.sim arr.holds.small there)))
  answers elem d s0 given n shape free scalar takes none no_result (Source.Ends early u) (Makes out e) h = finished g (Left g alive f d s0) e s0 early u (stored_then_leaves given n out e) (extends_stored given n out e none) h
  answers elem d s0 given n shape free scalar takes none no_result (Source.Gives v u) Fails h = tt
  answers elem d s0 given n shape free scalar takes none no_result (Source.Ends early u) Fails h = tt

  ends_so : f.frame.is_main ≡ g.is_main → (after : Draft) → with_end f.frame.is_main (leaving after) ≡ with_end g.is_main (leaving after)
  ends_so main after = ap (λ (b : Bool). with_end b (leaving after)) main

  no_outcome : StandsIn g f.frame → f.frame.outcome ≡ R.Nothing → g.instance.result ≡ None
  unfolding outcome_of
  no_outcome framed is = by g.instance.result (sym framed.outcome ∙ is)
    where
      by : (o : Option VarInfo) → outcome_of o ≡ R.Nothing → o ≡ None
      by None e = refl
      by (Some info) e = shaped info.shape e
        where
          shaped : (o : Option ℕ) → (elim o as (λ _. Outcome) [ None ↦ R.Scalar | Some s ↦ R.Parallel ]) ≡ R.Nothing → Some info ≡ None
          shaped None e = cc
          shaped (Some s) e = cc

  pub return_follows : (e : Option TExpr) → IfSome e (λ x. IsIn (naming g.may alive) x × g.may.returns (type_of x).elem) → (n : ℕ) (d : Draft) (s0 : CodeState) (st : State) → StandsIn g f.frame → Begun g alive d → At g s0 (length d.code) → Sim g alive st s0 → IfSome e (λ x. HasCode g.typed g.instance n x)
      → Follows g (Left g alive f d s0) s0 (executed scope (S.Return e) n active st) (statement_of g.typed (layout g) (S.Return e) f.frame contexts n d)
  unfolding executed statement_of returned_by given_back then_make Follows LeftSo IsGiven
  return_follows None h n d s0 st framed free at sim c =
      subst (λ (e : Draft). Follows g (Left g alive f d s0) s0 (Source.Gives (Returned None) st) (Makes n e)) (sym (ends_so framed.main d)) (λ within.
      let (j, ends) = leads_out d s0 st free at sim within in
      record { t = j.t; go = j.go; sim = sim_fewer (holding g f.all) alive f.outer st j.t (λ x info named h. stands.outer x h) j.sim; leaves = ends; spares = λ r spared. j.keeps r (spared_kept g d r spared); given = j.keeps (result_register (layout g)) (result_kept g d) })
  return_follows (Some e) h n d s0 st framed free at sim c =
      subst (λ (m : Made ℕ). Follows g (Left g alive f d s0) s0 (then_do (evaluated scope e active st) (λ v after. Source.Gives (Returned (Some (returned active (type_of e).shape v))) after)) m)
      (λ i. then_make (then_make (next_of g.typed (layout g) (type_of e).elem.bits true e d) (λ v after. stored_result (layout g) f.frame.outcome v after)) (λ u after. Makes n (sym (ends_so framed.main after) i)))
      (answers (type_of e).elem d s0 f.frame.outcome n (type_of e).shape free (scalar_of (naming g.may alive) e h.0) (calls_follow.returns (type_of e).elem h.1) framed.scalar (no_outcome framed) (evaluated scope e active st) (next_of g.typed (layout g) (type_of e).elem.bits true e d)
      (operand g has alive n files (ready n) scope active calls_follow true (type_of e).elem.bits e h.0 c d s0 st free at sim))
