-- How a list of arguments is evaluated: each value stands in a register when the last one does.
use Rattle.std.proofs.Common.{◌≡◌, ◌∙◌, ℕ, ◌+◌, Bool, true, List, [], ◌∷◌, ◌++◌, length, map, refl, sym, ap, append_assoc}
use Rattle.std.proofs.lemmas.List.{append-nil}
use mathlib.Core.Former.{Count}
use Rattle.cstar_base.specs.declared.elem.Elem.{Elem}
use Rattle.cstar_tree.specs.declared.typed.TExpr.{TExpr, Row_of-TExpr, end_of-TExpr, more_of-TExpr}
use Rattle.cstar_tree.specs.declared.typed.Variable.{Variable}
use Rattle.cstar_tree.specs.Typed.{type_of}
use Rattle.lower_base.specs.declared.emit.Out.{Out}
use Rattle.lower_base.specs.Drafts.{Draft, Fails, Made, Makes}
use Rattle.lower_expr.specs.Kinds.{list_bits}
use Rattle.lower_expr.specs.Operands.{are_quiet, is_quiet, operand_by}
use Rattle.lower_expr.specs.Values.{value_of, values_of}
use Rattle.paris_code.specs.Code.{CodeState}
use Rattle.quiet_operands.specs.Quiet.{state_behind}
use Rattle.quiet_operands.proofs.Unchanged as Quiet
use Rattle.source_meaning.specs.Expressions.{evaluated, operands}
use Rattle.source_meaning.specs.Gets.{Operand}
use Rattle.source_meaning.specs.State as Source
use Rattle.source_meaning.specs.State.{Outcome, State, then_do}
use Rattle.source_meaning.specs.Values.{Active, Scope, Value}
use Rattle.code_follows.specs.Fragment.{elems_of}
use Rattle.code_follows.proofs.Following.{Arrives, Extends, Follows, HasRegisters, Holds, Keeps, Sim, extends_then, finishes_later, keeps_all, keeps_on, knowing, then_follows}
use Rattle.code_follows.proofs.Growing.{Extended, as_it_was, extended}
use Rattle.code_follows.proofs.Settings.{At, Begun, Reaches, Setting, begun_later, layout, onto, stay}
use Rattle.code_follows.proofs.Values.{Does, Value_of}

module _ (g : Setting) (has : HasRegisters g) (alive : Variable → Type 0) (scope : Scope) (active : Active) where
  -- seen from an earlier state of the code, with what is made of the value
  pub moved : {A B C : Type 0} (R : A → State → B → Draft → Type 0) (Q : C → State → B → Draft → Type 0) (s t : CodeState) (o : Outcome A) (f : A → C) (made : Made B) → Reaches g s t → Follows g R t o made
      → ((x : A) (st : State) (y : B) (e : Draft) → R x st y e → Q (f x) st y e) → Follows g Q s (then_do o (λ x after. Source.Gives (f x) after)) made
  unfolding Follows then_do
  moved R Q s t (Source.Gives x st) f (Makes y e) go h next = λ w. next x st y e (h w)
  moved R Q s t (Source.Ends early st) f (Makes y e) go h next = λ w. finishes_later g early st s t go (h w)
  moved R Q s t (Source.Gives x st) f Fails go h next = tt
  moved R Q s t (Source.Ends early st) f Fails go h next = tt

  -- each value stands in its register
  unfoldable pub AreHeld : Bool → List Operand → List Out → Draft → State → CodeState → Type 0
  AreHeld quiet [] [] e st s = Unit {0}
  AreHeld quiet (o ∷ given) (out ∷ outs) e st s = Holds g alive o.elem quiet e st s out o.value × AreHeld quiet given outs e st s
  AreHeld quiet _ _ e st s = ⊥

  holds_later : (elem : Elem) (quiet : Bool) (d e : Draft) (k : ℕ) (st u : State) (s t : CodeState) (out : Out) (v : Value) → Extended d k e → Keeps g d s t → (quiet ≡ true → u ≡ st) → Holds g alive elem quiet d st s out v → Holds g alive elem quiet e u t out v
  holds_later elem quiet d e k st u s t out v x keeps same h = record {
    register = h.register;
    word = h.word;
    is = h.is;
    value = h.value;
    small = h.small;
    lasts = λ w later sim kept stays. h.lasts w later sim (keeps_on g d e k s t later x keeps kept) (λ calm. stays calm ∙ same calm);
  }

  pub record Given (quiet_so : Bool) (elems : List Elem) (d : Draft) (s : CodeState) (st : State) (outs : List Out) (given : List Operand) (u : State) (all : List Out) (e : Draft) : Type 0 where
    pub grown : (k : ℕ) × Extended d k e
    pub t : CodeState
    pub go : Reaches g s t
    pub at : At g t (length e.code)
    pub sim : Sim g alive u t
    pub keeps : Keeps g d s t
    pub same : quiet_so ≡ true → u ≡ st
    pub more : List Out
    pub is : all ≡ outs ++ more
    pub held : AreHeld quiet_so given more e u t
    pub are_of : map (λ (o : Operand). o.elem) given ≡ elems

  -- the code of an expression as one of a list gives its value
  pub record IsDone (own quiet : Bool) (e : TExpr) : Type 0 where
    pub grows : (d : Draft) → Extends g d (operand_by g.typed (layout g) (list_bits own e) (value_of g.typed (layout g) (list_bits own e) e) quiet e d)
    pub does : Does g has alive (type_of e).elem quiet (λ st. evaluated scope e active st) (λ d. operand_by g.typed (layout g) (list_bits own e) (value_of g.typed (layout g) (list_bits own e) e) quiet e d)

  unfoldable pub AreDone : {k : Count} → Bool → Bool → Row_of-TExpr k → Type 0
  AreDone own quiet end_of-TExpr = Unit {0}
  AreDone own quiet (more_of-TExpr e rest) = IsDone own quiet e × AreDone own quiet rest

  pub arguments_grow : {k : Count} (own quiet : Bool) (row : Row_of-TExpr k) → AreDone own quiet row → (outs : List Out) (d : Draft) → Extends g d (values_of g.typed (layout g) own quiet row outs d)
  unfolding values_of AreDone Extends
  arguments_grow own quiet end_of-TExpr c outs d = (0, as_it_was d)
  arguments_grow own quiet (more_of-TExpr e rest) c outs d =
      extends_then g d _ (λ v after. values_of g.typed (layout g) own quiet rest (outs ++ v ∷ []) after) (c.0.grows d) (λ v after. arguments_grow own quiet rest c.1 (outs ++ v ∷ []) after)

  -- where all are quiet, so is each
  first_quiet : {k : Count} (quiet : Bool) (e : TExpr) (rest : Row_of-TExpr k) → (quiet ≡ true → are_quiet (more_of-TExpr e rest) ≡ true) → quiet ≡ true → (is_quiet e ≡ true) × (are_quiet rest ≡ true)
  unfolding are_quiet
  first_quiet quiet e rest calm is = Quiet.both (is_quiet e) (are_quiet rest) (calm is)

  pub arguments_follow : {k : Count} (own quiet : Bool) (row : Row_of-TExpr k) → (quiet ≡ true → are_quiet row ≡ true) → AreDone own quiet row → (outs : List Out) (d : Draft) (s : CodeState) (st : State) → Begun g alive d → At g s (length d.code) → Sim g alive st s
      → Follows g (Given quiet (elems_of row) d s st outs) s (operands scope row active st) (values_of g.typed (layout g) own quiet row outs d)
  unfolding AreDone operands values_of Follows AreHeld state_behind
  arguments_follow own quiet end_of-TExpr calm c outs d s st free here sim = λ within. record {
    grown = (0, as_it_was d);
    t = s;
    go = stay g s;
    at = here;
    sim = sim;
    keeps = keeps_all g d s;
    same = λ is. refl;
    more = [];
    is = sym (append-nil outs);
    held = tt;
    are_of = refl;
  }
  arguments_follow own quiet (more_of-TExpr e rest) calm c outs d s st free here sim =
      then_follows g (λ v u out after. (evaluated scope e active st ≡ Source.Gives v u) × Arrives g alive (type_of e).elem quiet d s v u out after) (Given quiet (elems_of (more_of-TExpr e rest)) d s st outs) s s (evaluated scope e active st) _ _ _ (stay g s)
      (knowing g (Value_of g has alive (type_of e).elem quiet d s) s (evaluated scope e active st) _ (c.0.does d s st free here sim))
      (λ v after. arguments_grow own quiet rest c.1 (outs ++ v ∷ []) after)
      (λ v u out after both. first v u out after both (λ f regs. arguments_follow own quiet rest (λ is. (first_quiet quiet e rest calm is).1) c.1 (outs ++ out ∷ []) after f u regs))
    where
      first : (v : Value) (u : State) (out : Out) (after : Draft) → (both : (evaluated scope e active st ≡ Source.Gives v u) × Arrives g alive (type_of e).elem quiet d s v u out after)
          → ((t : CodeState) → Begun g alive after → At g t (length after.code) → Sim g alive u t → Follows g (Given quiet (elems_of rest) after t u (outs ++ out ∷ [])) t (operands scope rest active u) (values_of g.typed (layout g) own quiet rest (outs ++ out ∷ []) after))
          → Follows g (Given quiet (elems_of (more_of-TExpr e rest)) d s st outs) s (then_do (operands scope rest active u) (λ given later. Source.Gives (record { elem = (type_of e).elem; value = v } ∷ given) later)) (values_of g.typed (layout g) own quiet rest (outs ++ out ∷ []) after)
      first v u out after both others =
          let arr = both.1 in
          let still : quiet ≡ true → u ≡ st = λ is. sym (ap (λ (o : Outcome Value). state_behind o) both.0) ∙ Quiet.expression scope e active st (first_quiet quiet e rest calm is).0 in
          moved (Given quiet (elems_of rest) after arr.t u (outs ++ out ∷ [])) (Given quiet (elems_of (more_of-TExpr e rest)) d s st outs) s arr.t (operands scope rest active u) (λ given. record { elem = (type_of e).elem; value = v } ∷ given) _ arr.go (others arr.t (begun_later g alive d after arr.extended.0 arr.extended.1 free) arr.at arr.sim)
          (λ given w all later r. record {
            grown = (arr.extended.0 + r.grown.0, extended d after later arr.extended.0 r.grown.0 arr.extended.1 r.grown.1);
            t = r.t;
            go = onto g s arr.t r.t arr.go r.go;
            at = r.at;
            sim = r.sim;
            keeps = keeps_on g d after arr.extended.0 s arr.t r.t arr.extended.1 arr.keeps r.keeps;
            same = λ is. r.same is ∙ still is;
            more = out ∷ r.more;
            is = r.is ∙ append_assoc outs (out ∷ []) r.more;
            held = (holds_later (type_of e).elem quiet after later r.grown.0 u w arr.t r.t out v r.grown.1 r.keeps r.same arr.holds, r.held);
            are_of = ap (λ (elems : List Elem). (type_of e).elem ∷ elems) r.are_of;
          })
