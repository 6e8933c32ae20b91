-- How statements are left, and what one behind another does.
use Rattle.std.proofs.Common.{◌≡◌, ◌∙◌, ℕ, ◌+◌, Bool, true, false, length, slice_index, refl, sym, ap, subst, Option, Some, None, if◌then◌else◌, ◌≤◌, ◌⊎◌, inl, inr}
use Rattle.std.specs.Prelude.{is_some}
use Rattle.cstar_tree.specs.declared.typed.TExpr.{TExpr}
use Rattle.cstar_tree.specs.declared.typed.TExpr as T
use Rattle.cstar_tree.specs.declared.typed.VarInfo.{VarInfo}
use Rattle.cstar_tree.specs.declared.typed.Variable.TheVariants as V
use Rattle.cstar_tree.specs.declared.typed.Variable.{Variable}
use Rattle.cstar_tree.specs.Typed.{type_of}
use Rattle.code_lengths.specs.Growth.{GrowsOr}
use Rattle.code_lengths.specs.Lowerable.{GivesValue}
use Rattle.code_lengths.specs.Ready.{Arrives as IsAtEnd, HasCode, HasDeclared, IsReadyButForFields}
use Rattle.code_lengths.proofs.Agreeing.{expressions}
use Rattle.code_lengths.proofs.Homes.{still_declared}
use Rattle.code_lengths.proofs.Readiness.{ready_before}
use Rattle.lower_base.specs.declared.emit.Out.{Out}
use Rattle.lower_base.specs.declared.emit.Out.TheVariants as O
use Rattle.lower_base.specs.Drafts.{Draft, Fails, Made, Makes, here, in_register, then_make}
use Rattle.lower_base.specs.Layouts.{result_register}
use Rattle.lower_expr.specs.Lengths.{bare, is_send, is_sent, used_length_of}
use Rattle.lower_expr.specs.Steps.{is_kept}
use Rattle.lower_expr.specs.Values.{next_of}
use Rattle.lower_stmt.specs.declared.statement.Frame.{Frame}
use Rattle.lower_stmt.specs.Statements.{condition_of}
use Rattle.paris_code.specs.Code as Machine
use Rattle.paris_code.specs.Code.{CodeState, Ends, Goes, returned, step}
use Rattle.source_meaning.specs.Expressions.{evaluated}
use Rattle.source_meaning.specs.State as Source
use Rattle.source_meaning.specs.State.{Outcome, State}
use Rattle.source_meaning.specs.Statements.{Broke, Continued, Leaving, Onward, Returned, passes, then_go}
use Rattle.source_meaning.specs.Values.{Active, Scope, Value, nonzero, number}
use Rattle.code_follows.specs.Fragment.{IsIn, IsPosition, IsVariable, May, elems_of, naming}
use Rattle.code_follows.proofs.Expressions.{operand}
use Rattle.code_follows.proofs.Callees.{CallsFollow}
use Rattle.code_follows.proofs.Following.{Arrives, Extends, Follows, HasNumber, HasRegisters, Keeps, Ran, Sim, finishes_later, follows_other, keeps_all, keeps_on, then_follows, spared_kept, result_kept, delayed, finished}
use Rattle.code_follows.proofs.Growing.{Extended, as_it_was, extended, from_growth}
use Rattle.code_follows.proofs.Settings.{At, Begun, Held, Reaches, Setting, holding, layout, onto, stay}
use Rattle.code_follows.proofs.Targets.{variable_in}
use Rattle.code_follows.proofs.Values.{Value_of, extends_in_register}
use Rattle.code_follows.proofs.Numbers.{held_nonzero}
use Rattle.code_follows.proofs.Words.{kept}

pub no_break : Broke ≡ Onward → ⊥
no_break e = cc

pub no_continue : Continued ≡ Onward → ⊥
no_continue e = cc

pub no_return : (v : Option Value) → Returned v ≡ Onward → ⊥
no_return v e = cc

-- a value of the fragment is kept in a register, and there is one
kept_not : (may : May) (e : TExpr) → IsIn may e → is_kept e ≡ false → ⊥
kept_not may e isin h = let k : is_kept e ≡ true = kept may e isin in cc

-- Where a statement stands: in a frame, and what is held of the memory where a jump out of its loop leads, and where its
-- function is left, with the variables that are alive there.
pub record Exits : Type 1 where
  pub frame : Frame
  pub loop : Held
  pub all : Held
  pub lives : Variable → Type 0
  pub outer : Variable → Type 0

-- in the body of a loop around which this is held and these are alive
abbrev pub in_body : Frame → Held → (Variable → Type 0) → Exits → Exits
in_body frame held lives f = record { frame = frame; loop = held; all = f.all; lives = lives; outer = f.outer }

module _ (g : Setting) (alive : Variable → Type 0) where
  -- the code led to a place of the unit, where this is held of the memory
  pub record Jumped (held : Held) (d : Draft) (s : CodeState) (st : State) (place : ℕ) : Type 0 where
    pub t : CodeState
    pub go : Reaches g s t
    pub at : At g t place
    pub sim : Sim (holding g held) alive st t
    pub keeps : Keeps g d s t

  -- the register of the result, where there is one, has what is given back, or what it had where nothing is
  unfoldable pub IsGiven : CodeState → CodeState → Option Value → Type 0
  IsGiven s t None = slice_index t.registers (result_register (layout g)) ≡ slice_index s.registers (result_register (layout g))
  IsGiven s t (Some v) = (info : VarInfo) → g.instance.result ≡ Some info → HasNumber info.elem v (result_register (layout g)) t

  -- the next instruction leaves the function: `main` ends, and any other one goes back
  abbrev pub Leaves : CodeState → Type 0
  Leaves t = step g.image t ≡ (if g.is_main then Ends Machine.Done t else Goes (returned t))

  -- the code comes to where the function is left, and there this is held of the memory
  pub record Returns (held : Held) (s : CodeState) (st : State) (v : Option Value) : Type 0 where
    pub t : CodeState
    pub go : Reaches g s t
    pub sim : Sim (holding g held) alive st t
    pub leaves : Leaves t
    pub spares : (r : ℕ) → g.spared r → slice_index t.registers r ≡ slice_index s.registers r
    pub given : IsGiven s t v

  given_from : (s u t : CodeState) (v : Option Value) → slice_index u.registers (result_register (layout g)) ≡ slice_index s.registers (result_register (layout g)) → IsGiven u t v → IsGiven s t v
  unfolding IsGiven
  given_from s u t None same h = h ∙ same
  given_from s u t (Some v) same h = h

  pub returns_from : (held : Held) (d : Draft) (s t : CodeState) (st : State) (v : Option Value) → Reaches g s t → Keeps g d s t → Returns held t st v → Returns held s st v
  returns_from held d s t st v go keeps r = record {
    t = r.t;
    go = onto g s t r.t go r.go;
    sim = r.sim;
    leaves = r.leaves;
    spares = λ q spared. r.spares q spared ∙ keeps q (spared_kept g d q spared);
    given = given_from s t r.t v (keeps (result_register (layout g)) (result_kept g d)) r.given;
  }

  pub jumped_from : (held : Held) (d e : Draft) (n : ℕ) (s t : CodeState) (st : State) (place : ℕ) → Extended d n e → Reaches g s t → Keeps g d s t → Jumped held e t st place → Jumped held d s st place
  jumped_from held d e n s t st place x go keeps r = record { t = r.t; go = onto g s t r.t go r.go; at = r.at; sim = r.sim; keeps = keeps_on g d e n s t r.t x keeps r.keeps }

module _ (g : Setting) (alive : Variable → Type 0) where
  -- the code arrives behind a draft, and the source goes on
  abbrev pub RanOn : {A : Type 0} → Draft → CodeState → Leaving → State → A → Draft → Type 0
  RanOn d s leaving u y e = (leaving ≡ Onward) × Ran g alive d s u e

  -- how a statement is left: at its end, of which this is said, or where its jump leads
  unfoldable pub LeftSo : (State → Draft → Type 0) → Exits → Draft → CodeState → Leaving → State → ℕ → Draft → Type 0
  LeftSo R f d s Onward st m e = R st e
  LeftSo R f d s Broke st m e = Jumped g f.lives f.loop d s st f.frame.after
  LeftSo R f d s Continued st m e = Jumped g f.lives f.loop d s st f.frame.next
  LeftSo R f d s (Returned v) st m e = Returns g f.outer f.all s st v

  -- at its end the code arrives
  abbrev pub Left : Exits → Draft → CodeState → Leaving → State → ℕ → Draft → Type 0
  Left f d s leaving st m e = LeftSo (λ u h. Ran g alive d s u h) f d s leaving st m e

  -- what is said of its end follows from what else is said
  pub left_other : (R Q : State → Draft → Type 0) (f : Exits) (d : Draft) (s : CodeState) (o : Outcome Leaving) (made : Made ℕ) → ((st : State) (e : Draft) → R st e → Q st e) → Follows g (LeftSo R f d s) s o made → Follows g (LeftSo Q f d s) s o made
  unfolding LeftSo
  left_other R Q f d s o made next h = follows_other g (LeftSo R f d s) (LeftSo Q f d s) s o made h (λ leaving st m e left. by leaving st m e left)
    where
      by : (leaving : Leaving) (st : State) (m : ℕ) (e : Draft) → LeftSo R f d s leaving st m e → LeftSo Q f d s leaving st m e
      by Onward st m e left = next st e left
      by Broke st m e left = left
      by Continued st m e left = left
      by (Returned v) st m e left = left

  -- seen from an earlier draft and state
  pub ran_from : (d e : Draft) (n : ℕ) (s t : CodeState) (st : State) (f : Draft) → Extended d n e → Reaches g s t → Keeps g d s t → Ran g alive e t st f → Ran g alive d s st f
  ran_from d e n s t st f x go keeps r = record {
    grown = (n + r.grown.0, extended d e f n r.grown.0 x r.grown.1);
    t = r.t;
    go = onto g s t r.t go r.go;
    at = r.at;
    sim = r.sim;
    keeps = keeps_on g d e n s t r.t x keeps r.keeps;
  }

  left_from : (f : Exits) (d e : Draft) (n : ℕ) (s t : CodeState) (leaving : Leaving) (st : State) (m : ℕ) (h : Draft) → Extended d n e → Reaches g s t → Keeps g d s t → Left f e t leaving st m h → Left f d s leaving st m h
  unfolding LeftSo
  left_from f d e n s t Onward st m h x go keeps r = ran_from d e n s t st h x go keeps r
  left_from f d e n s t Broke st m h x go keeps r = jumped_from g f.lives f.loop d e n s t st f.frame.after x go keeps r
  left_from f d e n s t Continued st m h x go keeps r = jumped_from g f.lives f.loop d e n s t st f.frame.next x go keeps r
  left_from f d e n s t (Returned v) st m h x go keeps r = returns_from g f.outer f.all d s t st v go keeps r

  pub follows_from : (f : Exits) (d e : Draft) (n : ℕ) (s t : CodeState) (o : Outcome Leaving) (made : Made ℕ) → Extended d n e → Reaches g s t → Keeps g d s t → Follows g (Left f e t) t o made → Follows g (Left f d s) s o made
  unfolding Follows
  follows_from f d e n s t (Source.Gives leaving st) (Makes m h) x go keeps r = λ w. left_from f d e n s t leaving st m h x go keeps (r w)
  follows_from f d e n s t (Source.Ends early st) (Makes m h) x go keeps r = λ w. finishes_later g early st s t go (r w)
  follows_from f d e n s t (Source.Gives leaving st) Fails x go keeps r = tt
  follows_from f d e n s t (Source.Ends early st) Fails x go keeps r = tt

  -- one statement whose code is made, and then another
  pub go_on : (R : State → Draft → Type 0) (f : Exits) (d : Draft) (s : CodeState) (o : Outcome Leaving) (k : State → Outcome Leaving) (m : ℕ) (e : Draft) (made : Made ℕ) → Follows g (LeftSo R f d s) s o (Makes m e) → Extends g e made
      → ((st : State) → R st e → Follows g (Left f d s) s (k st) made) → Follows g (Left f d s) s (then_go o k) made
  unfolding Follows LeftSo then_go
  go_on R f d s (Source.Gives Onward st) k m e made first grows next = delayed g (Left f d s) e s (k st) made grows (λ w. next st (first w))
  go_on R f d s (Source.Gives Broke st) k m e made first grows next = delayed g (Left f d s) e s (Source.Gives Broke st) made grows (λ w. kept_so made (λ p h. first w))
    where
      kept_so : (made : Made ℕ) → ((p : ℕ) (h : Draft) → Left f d s Broke st p h) → Follows g (Left f d s) s (Source.Gives Broke st) made
      kept_so (Makes p h) j = λ w. j p h
      kept_so Fails j = tt
  go_on R f d s (Source.Gives Continued st) k m e made first grows next = delayed g (Left f d s) e s (Source.Gives Continued st) made grows (λ w. kept_so made (λ p h. first w))
    where
      kept_so : (made : Made ℕ) → ((p : ℕ) (h : Draft) → Left f d s Continued st p h) → Follows g (Left f d s) s (Source.Gives Continued st) made
      kept_so (Makes p h) j = λ w. j p h
      kept_so Fails j = tt
  go_on R f d s (Source.Gives (Returned v) st) k m e made first grows next = delayed g (Left f d s) e s (Source.Gives (Returned v) st) made grows (λ w. kept_so made (λ p h. first w))
    where
      kept_so : (made : Made ℕ) → ((p : ℕ) (h : Draft) → Left f d s (Returned v) st p h) → Follows g (Left f d s) s (Source.Gives (Returned v) st) made
      kept_so (Makes p h) j = λ w. j p h
      kept_so Fails j = tt
  go_on R f d s (Source.Ends early st) k m e made first grows next = finished g (Left f d s) e s early st made grows first

  -- a condition's word is tested
  pub record Tested (d : Draft) (s : CodeState) (b : Bool) (st : State) (r : ℕ) (e : Draft) : Type 0 where
    pub grown : (n : ℕ) × Extended d n e
    pub t : CodeState
    pub go : Reaches g s t
    pub at : At g t (length e.code)
    pub sim : Sim g alive st t
    pub keeps : Keeps g d s t
    pub is : nonzero (slice_index t.registers r) ≡ b

  module _ (has : HasRegisters g) (files : (k : ℕ) → alive (V.File k)) (n : ℕ) (ready : (d : Draft) → IsReadyButForFields g.typed g.instance (layout g) n d) (scope : Scope) (active : Active) (calls_follow : CallsFollow g scope active) where
    pub test_follows : (test : TExpr) → (IsIn (naming g.may alive)) test → HasCode g.typed g.instance n test → (d : Draft) (s : CodeState) (st : State) → Begun g alive d → At g s (length d.code) → Sim g alive st s
        → Follows g (Tested d s) s (passes scope active test st) (condition_of g.typed (layout g) test d)
    unfolding passes condition_of Extends Follows in_register number
    test_follows test isin c d s st free here sim =
        then_follows g (Value_of g has alive (type_of test).elem true d s) (Tested d s) s s (evaluated scope test active st) (λ v after. Source.Gives (nonzero (number v)) after) (next_of g.typed (layout g) 32 true test d) (λ v after. in_register v (λ r. Makes r after)) (stay g s)
        (operand g has alive n files ready scope active calls_follow true 32 test isin c d s st free here sim) (λ v e. extends_in_register g has alive e v _ (λ r. (0, as_it_was e))) (λ v u out e arr. tests v u out e arr)
      where
        tests : (v : Value) (u : State) (out : Out) (e : Draft) → Arrives g alive (type_of test).elem true d s v u out e → Follows g (Tested d s) s (Source.Gives (nonzero (number v)) u) (in_register out (λ r. Makes r e))
        tests v u out e arr =
            let there : nonzero (slice_index arr.t.registers arr.holds.register) ≡ nonzero arr.holds.word = ap nonzero (arr.holds.lasts u arr.t arr.sim (keeps_all g e arr.t) (λ h. refl)) ∙ held_nonzero (type_of test).elem arr.holds.word arr.holds.small in
            subst (λ (w : Value). Follows g (Tested d s) s (Source.Gives (nonzero (number w)) u) (in_register out (λ r. Makes r e))) (sym arr.holds.value)
            (subst (λ (o : Out). Follows g (Tested d s) s (Source.Gives (nonzero arr.holds.word) u) (in_register o (λ r. Makes r e))) (sym arr.holds.is)
            (λ within. record { grown = arr.extended; t = arr.t; go = arr.go; at = arr.at; sim = arr.sim; keeps = arr.keeps; is = there }))

    sends_nothing : (target : TExpr) → IsVariable (naming g.may alive) target ⊎ IsPosition (naming g.may alive) target → is_send target ≡ false
    unfolding IsPosition is_send is_sent bare
    sends_nothing target (inl h) = (variable_in g alive n target h).sends
    sends_nothing (T.LeftIndex' ty place p indexes x of) (inr h) = ap is_some h.0
    sends_nothing _ (inr h) = absurd h

    pub gives : (e : TExpr) → (IsIn (naming g.may alive)) e → GivesValue g.typed e
    unfolding GivesValue IsIn
    gives (T.Number ty value) h = tt
    gives (T.PositionsOf ty shape value) h = tt
    gives (T.RankOf ty shape value) h = tt
    gives (T.DimOf ty shape axis value) h = tt
    gives (T.Variable ty x) h = tt
    gives (T.GetChar ty) h = tt
    gives (T.Brackets' ty p inner) h = gives inner h.1
    gives (T.Convert' ty p operand) h = tt
    gives (T.Casts' ty elems p operand) h = tt
    gives (T.Unary' ty op p operand) h = tt
    gives (T.Binary' ty place op p left q right) h = tt
    gives (T.LogicalOr' ty p left q right) h = tt
    gives (T.LogicalAnd' ty p left q right) h = tt
    gives (T.Choice' ty p test q first r second) h = tt
    gives (T.Assign' ty place op p target q value) h = sends_nothing target h.2
    gives (T.Step' ty op order p target) h = tt
    gives (T.Call' ty index p arguments) h = (calls_follow.value ty.elem index (elems_of arguments) h.1).1.0
    gives (T.Reduce' ty op p operand) h = tt
    gives (T.LeftIndex' ty place p indexes x of) h = tt
    gives _ h = absurd h

    -- the code of a condition is made
    pub record TestMade (test : TExpr) (d : Draft) (m : ℕ) : Type 0 where
      pub r : ℕ
      pub e : Draft
      pub is : condition_of g.typed (layout g) test d ≡ Makes r e
      pub extended : Extended d (used_length_of g.typed (layout g) 32 true test) e
      pub declared : HasDeclared g.typed g.instance (layout g) m e

    pub test_made : (test : TExpr) (d : Draft) → (IsIn (naming g.may alive)) test → HasCode g.typed g.instance n test → (m : ℕ) → n ≤ m → HasDeclared g.typed g.instance (layout g) m d → TestMade test d m
    unfolding condition_of GrowsOr IsAtEnd then_make in_register
    test_made test d isin c m less known = by (next_of g.typed (layout g) 32 true test d) refl ((expressions g.typed g.instance (layout g)).operand 32 n true test d c (ready_before ⊥ g.typed g.instance (layout g) n m d less known.ready))
      where
        by : (made : Made Out) → next_of g.typed (layout g) 32 true test d ≡ made → GrowsOr ⊥ d (used_length_of g.typed (layout g) 32 true test) (IsAtEnd g.typed test) made → TestMade test d m
        by (Makes (O.Scalar r) e) is h = record { r = r; e = e; is = ap (λ (m : Made Out). then_make m (λ v after. in_register v (λ q. Makes q after))) is; extended = from_growth d e _ h.1; declared = still_declared g.typed g.instance (layout g) m d e _ h.1 known }
        by (Makes (O.Field f) e) is h = absurd (kept_not (naming g.may alive) test isin h.0)
        by (Makes O.Nothing e) is h = absurd (h.0 (gives test isin))
        by Fails is h = absurd h
