-- A called function runs, from its first instruction to where it goes back.
use Rattle.std.proofs.Common.{◌≡◌, ◌∙◌, ℕ, zero, suc, take, ◌+◌, ◌-◌, ◌<◌, ◌≤◌, ◌^◌, ◌==◌, Bool, true, false, [], ◌∷◌, ◌++◌, List, Vec, Global, length, map, slice_get, slice_index, Option, Some, None, refl, sym, ap, subst, if◌then◌else◌, arith, length-append}
use Rattle.std.specs.List.{Contains}
use Rattle.cstar_compile.specs.Compiled.{IsCompiled}
use Rattle.cstar_link.specs.Linked.{entries_from}
use Rattle.cstar_tree.specs.declared.typed.Instance.{Instance}
use Rattle.cstar_tree.specs.declared.typed.LocalVar.{LocalVar}
use Rattle.cstar_tree.specs.declared.typed.TStmt.{TStmt}
use Rattle.cstar_tree.specs.declared.typed.TStmt as S
use Rattle.cstar_tree.specs.declared.typed.Typed.{Typed}
use Rattle.cstar_tree.specs.declared.typed.VarInfo.{VarInfo}
use Rattle.cstar_tree.specs.declared.typed.Variable.{Variable}
use Rattle.cstar_tree.specs.declared.typed.Variable.TheVariants as V
use Rattle.cstar_tree.specs.TypedParts.{calls_within}
use Rattle.code_lengths.specs.Naming.{IsDeclared, variable_named}
use Rattle.code_lengths.specs.Ready.{HasStatementCode, IsCodable}
use Rattle.lower_base.specs.Constants.{constant_register, register_with}
use Rattle.lower_base.specs.Drafts.{Draft, Made, Makes, then_make}
use Rattle.lower_base.specs.Layouts.{layout_of, register_of, result_register}
use Rattle.lower_stmt.specs.Programs.{blank, body_frame}
use Rattle.lower_stmt.specs.Variables.{declared as declared_in}
use Rattle.lower_stmt.specs.Statements.{body_of, ends_in_return, ended, statements_of, statement_of}
use Rattle.meaning_laws.proofs.Parts.{behind as state_after}
use Rattle.paris_code.specs.declared.program.Entry.{Entry}
use Rattle.paris_code.specs.declared.program.Image.{Image}
use Rattle.paris_code.specs.declared.program.Unit.{Unit as CodeUnit}
use Rattle.paris_code.specs.Code.{CodeState, Goes, returned}
use Rattle.paris_code.specs.Units.{start_at, start_of}
use Rattle.paris_code.specs.Memory.{BitMemory}
use Rattle.source_meaning.specs.Programs.{by_owner, calls, entered, left, result_of, run_body, scalar_given, scope_of}
use Rattle.source_meaning.specs.State as Source
use Rattle.source_meaning.specs.State.{Outcome, State, then_do}
use Rattle.source_meaning.specs.Statements.{Broke, Continued, Leaving, Onward, Returned, executed, initialised}
use Rattle.source_meaning.specs.Values.{Active, Scope, Value, each}
use Rattle.code_follows.specs.Fragment.{IsBody, Beside, IsProgramBeside, OfFileOrParam, IsInStatement}
use Rattle.lower_stmt.specs.declared.statement.Frame.{Frame}
use Rattle.code_follows.proofs.Activations.{activation, callee_known, scalars, words}
use Rattle.code_follows.proofs.Besides.{under_held}
use Rattle.code_follows.proofs.Parts.{BesideFollows}
use Rattle.code_follows.proofs.Induction.{Around, statement_follows}
use Rattle.code_follows.proofs.Callees.{AreGiven, Callee, CallsFollow, ComesBack, Enters, MayCall, RunsBody, Shared}
use Rattle.code_follows.proofs.Closed.{NoJump, begins_closed, closed_row, go_closed}
use Rattle.code_follows.proofs.Endings.{NeverOnward, body_never, never_second}
use Rattle.code_follows.proofs.Executing.{Exits, IsGiven, Left, Returns}
use Rattle.code_follows.proofs.Following.{Finishes, Follows, HasNumber, HasRegisters, IsScalar, Sim, held}
use Rattle.code_follows.proofs.Functions.{RunsFunction, body_made, declares, ends_by, exits, falls, frame, framed, given_back, has, numbered, ready, runs_function, scope, stands_here}
use Rattle.std.specs.Option.{is_some}
use Rattle.std.proofs.lemmas.Nat.{pow_pos}
use Rattle.source_meaning.specs.Reductions.{int_type}
use Rattle.code_follows.proofs.Numbers.{zero_converted}
use Rattle.code_follows.proofs.Regions.{result_is, same_constants, same_end}
use Rattle.code_follows.proofs.Settings.{AreNamedBefore, OpenAmong, At, CallStands, Held, LastsTo, Setting, called_below, one, onto, start}
use Rattle.code_follows.proofs.Standing.{start_in, unit_there}
use Rattle.code_follows.proofs.Units.{blank_homes, blank_regs, not_main, other_is, unit_at}

-- a unit of an image begins where its entry says
starts_there : (us : List CodeUnit) (number start : ℕ) (u : CodeUnit) → slice_get us number ≡ Some u → slice_index (map start_of (entries_from start us)) number ≡ start_in us number start
unfolding entries_from start_in
starts_there [] number start u is = cc
starts_there (v ∷ us) zero start u is = refl
starts_there (v ∷ us) (suc number) start u is = starts_there us number (start + length v.code.items) u is

-- the last of places on a stack, and those below it
last_place : (places : List ℕ) (back : ℕ) → slice_index (places ++ back ∷ []) (length (places ++ back ∷ []) - 1) ≡ back
last_place places back = ap (λ (n : ℕ). slice_index (places ++ back ∷ []) n) (one_less places back) ∙ seam places back
  where
    one_less : (places : List ℕ) (back : ℕ) → length (places ++ back ∷ []) - 1 ≡ length places
    one_less places back = let long = length-append places (back ∷ []) in omega (arith, long)

    seam : (places : List ℕ) (back : ℕ) → slice_index (places ++ back ∷ []) (length places) ≡ back
    seam [] back = refl
    seam (x ∷ places) back = seam places back

below_place : (places : List ℕ) (back : ℕ) → take (length (places ++ back ∷ []) - 1) (places ++ back ∷ []) ≡ places
below_place places back = ap (λ (n : ℕ). take n (places ++ back ∷ [])) (one_less places back) ∙ seam places back
  where
    one_less : (places : List ℕ) (back : ℕ) → length (places ++ back ∷ []) - 1 ≡ length places
    one_less places back = let long = length-append places (back ∷ []) in omega (arith, long)

    seam : (places : List ℕ) (back : ℕ) → take (length places) (places ++ back ∷ []) ≡ places
    seam [] back = refl
    seam (x ∷ places) back = ap (λ (xs : List ℕ). x ∷ xs) (seam places back)

-- what is of the file or a parameter is declared before every block
pub before_all : (x : Variable) → OfFileOrParam x → IsDeclared 0 x
unfolding OfFileOrParam IsDeclared
before_all (V.File k) h = tt
before_all (V.Param k) h = tt
before_all (V.Local k) h = absurd h

-- what stands in the register of the result of a function that was left
module _ (image : Image) (t : Typed) {beside : Beside} (p : IsProgramBeside beside t) (codable : IsCodable t) (compiled : IsCompiled t image) (holding : Held) (number : ℕ) (b : Instance) (is : slice_get t.instances.items number ≡ Some b) (calls_open : List ℕ) (m : ℕ) (s r : CodeState) where
  abbrev result_there : ℕ
  result_there = (layout_of t (words t image p codable compiled) number).base + length b.params.items

  abbrev function : Setting
  function = activation t image p codable compiled holding number b is calls_open m

  where_it_is : result_register (layout_of t (words t image p codable compiled) number) ≡ result_there
  where_it_is = result_is t (scalars t image p codable compiled) (words t image p codable compiled) number b is

  -- 0 where it was left without a value
  zero_given : (leaving : Leaving) (info : VarInfo) → b.result ≡ Some info → result_of (Some info) leaving ≡ each info.shape (λ q. 0) → slice_index r.registers (result_register (layout_of t (words t image p codable compiled) number)) ≡ slice_index s.registers (result_register (layout_of t (words t image p codable compiled) number))
      → slice_index s.registers result_there ≡ 0 → HasNumber info.elem (result_of b.result leaving) result_there r
  unfolding each
  zero_given leaving info found gives same zero_there = (
    0,
    (
      ap (λ (o : Option VarInfo). result_of o leaving) found ∙ gives ∙ ap (λ (o : Option ℕ). each o (λ q. 0)) ((p.each number b is).result info found),
      pow_pos info.elem.bits,
      ap (λ (q : ℕ). slice_index r.registers q) (sym where_it_is) ∙ same ∙ ap (λ (q : ℕ). slice_index s.registers q) where_it_is ∙ zero_there ∙ sym (zero_converted int_type info.elem),
    ),
  )

  result_given : (leaving : Leaving) (u : State) (info : VarInfo) → b.result ≡ Some info → IsGiven function OfFileOrParam s r (given_back leaving) → NoJump (Source.Gives leaving u) → slice_index s.registers result_there ≡ 0
      → HasNumber info.elem (result_of b.result leaving) result_there r
  unfolding IsGiven given_back result_of NoJump
  result_given (Returned (Some v)) u info found h closed zero_there = let w = h info found in (w.0, (w.1.0, w.1.1, ap (λ (q : ℕ). slice_index r.registers q) (sym where_it_is) ∙ w.1.2))
  result_given (Returned None) u info found h closed zero_there = zero_given (Returned None) info found refl h zero_there
  result_given Onward u info found h closed zero_there = zero_given Onward info found refl h zero_there
  result_given Broke u info found h closed zero_there = absurd closed
  result_given Continued u info found h closed zero_there = absurd closed

-- What a function that is called in a state holds, by what its caller holds behind the call.
pub record Opens (outer inner : Held) (live : ℕ → Type 0) (back : ℕ) (st : State) : Type 0 where
  pub enters : (at : ℕ) (u : State) (m : BitMemory) → ((k e p : ℕ) → u.parallel (V.File k) e p ≡ st.parallel (V.File k) e p) → u.winner ≡ st.winner → outer.holds live back st m → inner.holds (λ k. ⊥) at u m
  pub leaves : (at : ℕ) (u v : State) (m : BitMemory) → ((k e p : ℕ) → v.parallel (V.File k) e p ≡ u.parallel (V.File k) e p) → ((k : ℕ) → live k → (e p : ℕ) → v.parallel (V.Local k) e p ≡ st.parallel (V.Local k) e p) → v.winner ≡ u.winner → inner.holds (λ k. ⊥) at u m → outer.holds live back v m
  pub ends : (u : State) (m : BitMemory) → inner.ends u m → outer.ends u m

module _ (t : Typed) (image : Image) {beside : Beside} (p : IsProgramBeside beside t) (codable : IsCodable t) (compiled : IsCompiled t image) where
  -- a function that runs where this is held, and between such places
  abbrev pub running : Held → ℕ → ℕ → ℕ → (number : ℕ) (i : Instance) → slice_get t.instances.items number ≡ Some i → List ℕ → ℕ → Setting
  running held from entries upto number i is opens most = under_held (activation t image p codable compiled held number i is opens most) held from entries upto

  -- where this is known parallel expressions and statements under contexts follow, it is known of each function that is
  -- called there, and what is held lasts to where jumps lead
  pub record AllBeside (Known : Setting → Scope → Active → Type 1) : Type 1 where
    pub follows : (g : Setting) (scope : Scope) (a : Active) → Known g scope a → (has : HasRegisters g) → BesideFollows Known g has scope a
    pub called : (held : Held) (from entries upto : ℕ) (a : Active) (me : ℕ) (i : Instance) (is_me : slice_get t.instances.items me ≡ Some i) (opens : List ℕ) (most : ℕ) → Known (running held from entries upto me i is_me opens most) (scope_of t i (calls t most)) a
        → (number : ℕ) (b : Instance) (is : slice_get t.instances.items number ≡ Some b) (back : List ℕ) (m : ℕ) → (here : CallStands (running held from entries upto me i is_me opens most) number)
        → (live : ℕ → Type 0) (place : ℕ) (st : State) → place ≡ start (running held from entries upto me i is_me opens most) + here.at + 1 → (inside : Held) × (Opens held inside live place st × Known (activation t image p codable compiled inside number b is back m) (scope_of t b (calls t m)) a)
    pub lasts : (g : Setting) (scope : Scope) (a : Active) → Known g scope a → (live : ℕ → Type 0) (target : ℕ) → g.from ≤ target → AreNamedBefore g live target → LastsTo g live g.held target

module _ (t : Typed) (image : Image) {beside : Beside} (p : IsProgramBeside beside t) (codable : IsCodable t) (compiled : IsCompiled t image) (holding : Held) (from entries upto : ℕ) (me : ℕ) (a : Instance) (is_me : slice_get t.instances.items me ≡ Some a) (back_to : List ℕ) (number : ℕ) (b : Instance) (is : slice_get t.instances.items number ≡ Some b)
    (some : 0 < number) (called : Contains (calls_within a.body) number) (m : ℕ) where
  -- the caller, and the function that is called as the caller knows it
  abbrev caller : Setting
  caller = running t image p codable compiled holding from entries upto me a is_me back_to (suc m)

  abbrev called_one : Callee caller number
  called_one = callee_known t image p codable compiled me a is_me back_to (suc m) number b is called holding from entries upto

  module _ (here : CallStands caller number) (active : Active) (arguments : List Value) (st : State) (s : CodeState) (back : ℕ) (inside : Held) (live : ℕ → Type 0) (opens : Opens holding inside live back st) (starts : s.at ≡ start_at image number) (stacked : s.returns ≡ back_to ++ back ∷ []) (shared : Shared caller live back st s) (few : st.turns ≤ m) (given : AreGiven caller called_one arguments s)
      (zero_there : (info : VarInfo) → b.result ≡ Some info → slice_index s.registers ((layout_of t (words t image p codable compiled) number).base + length b.params.items) ≡ 0) where
    abbrev open_calls : List ℕ
    open_calls = back_to ++ back ∷ []

    -- the called function
    abbrev inner : Setting
    inner = activation t image p codable compiled inside number b is open_calls m

    abbrev opening_state : State
    opening_state = entered b arguments active st

    is_other : (number == 0) ≡ false
    is_other = not_main t image (scalars t image p codable compiled) codable compiled number (λ e. omega (arith, some, e))

    abbrev begin : Draft
    begin = blank b.name inner.begins

    stands : At inner s (length begin.code)
    unfolding blank
    stands =
        let u = unit_there compiled.placed.placed.places 0 compiled.before.units.items compiled.after.units.items number inner.unit compiled.placed.placed.units inner.is_unit in
        let there = ap (λ (es : List Entry). slice_index (map start_of es) number) compiled.linked.units ∙ starts_there compiled.after.units.items number 0 u.0 u.1.0 in
        omega (arith, starts, there)

    constants_same : (word : ℕ) → constant_register (layout_of t (words t image p codable compiled) number) word ≡ constant_register (layout_of t (words t image p codable compiled) me) word
    unfolding constant_register
    constants_same word =
        ap (λ (ws : List ℕ). register_with word ws (layout_of t (words t image p codable compiled) number).end) (same_constants t (scalars t image p codable compiled) (words t image p codable compiled) number me)
        ∙ ap (λ (n : ℕ). register_with word (layout_of t (words t image p codable compiled) me).constants n) (same_end t (scalars t image p codable compiled) (words t image p codable compiled) number me)

    sim : Sim inner OfFileOrParam opening_state s
    unfolding entered by_owner scalar_given OfFileOrParam variable_named register_of callee_known
    sim = record {
      registers = shared.registers;
      scalars = λ x info living scalar. value x info living scalar;
      small = λ x info living scalar. small x info living scalar;
      constants = λ word r there. shared.constants word r (sym (constants_same word) ∙ there);
      turns = shared.turns;
      output = shared.output;
      input = shared.input;
      returns = stacked;
      few = few;
      bytes = shared.bytes;
      memory = inside.fewer (λ k. ⊥) (OpenAmong inner OfFileOrParam) s.at opening_state s.memory (λ k is_open. is_open.0) (opens.enters s.at opening_state s.memory (λ k e p. refl) refl shared.memory);
    }
      where
        value : (x : Variable) (info : VarInfo) → OfFileOrParam x → IsScalar inner x info → slice_index s.registers (register_of (layout_of t (words t image p codable compiled) number) x) ≡ held info.elem (opening_state.scalar x)
        value (V.File k) info living named = shared.files k info named.0 named.1
        value (V.Param k) info living named = given.words k info named.0
        value (V.Local k) info living named = absurd living

        small : (x : Variable) (info : VarInfo) → OfFileOrParam x → IsScalar inner x info → opening_state.scalar x < 2 ^ info.elem.bits
        small (V.File k) info living named = shared.small k info named.0 named.1
        small (V.Param k) info living named = given.few k info named.0
        small (V.Local k) info living named = absurd living

    -- ---- what its body gives, and where it goes back

    -- what is said of the inner function's early end is said of the caller's
    ends_early : (early : Source.Early) (u : State) → Finishes inner early u s → Finishes caller early u s
    ends_early early u f = record { t = f.t; ends = record { steps = f.ends.steps; is = f.ends.is }; turns = f.turns; output = f.output; input = f.input; memory = opens.ends u f.t.memory f.memory }

    goes_back : (leaving : Leaving) (u : State) → u.turns ≤ st.turns → Returns inner OfFileOrParam inner.held s u (given_back leaving) → NoJump (Source.Gives leaving u) → ComesBack caller called_one live back s st (result_of b.result leaving) (left st u)
    unfolding left by_owner variable_named register_of callee_known OfFileOrParam
    goes_back leaving u less r closed = record {
      t = there;
      go = let gone = onto inner s r.t there r.go (one inner r.t there leaves refl) in record { by = gone.by; below = λ f k low. gone.below f k (called_below caller number here f low) };
      at = ap (λ (places : List ℕ). slice_index places (length places - 1)) r.sim.returns ∙ last_place back_to back;
      returns = ap (λ (places : List ℕ). take (length places - 1) places) r.sim.returns ∙ below_place back_to back;
      shared = record {
        registers = r.sim.registers;
        files = λ k info named scalar. r.sim.scalars (V.File k) info tt (named, scalar);
        small = λ k info named scalar. r.sim.small (V.File k) info tt (named, scalar);
        constants = λ word q is_there. r.sim.constants word q (constants_same word ∙ is_there);
        turns = r.sim.turns;
        output = r.sim.output;
        input = r.sim.input;
        bytes = r.sim.bytes;
        memory = opens.leaves r.t.at u (left st u) r.t.memory (λ k e p. refl) (λ k is_open e p. refl) refl (inside.fewer (OpenAmong inner OfFileOrParam) (λ k. ⊥) r.t.at u r.t.memory (λ k never. absurd never) r.sim.memory);
      };
      turned = less;
      params_kept = λ k. refl;
      locals_kept = λ k. refl;
      stays = λ q apart behind. r.spares q (behind, apart);
      given = λ info found. given_so leaving info found r.given closed;
    }
      where
        there : CodeState
        there = returned r.t

        leaves : Rattle.paris_code.specs.Code.step image r.t ≡ Goes there
        leaves = r.leaves ∙ ap (λ (c : Bool). if c then Rattle.paris_code.specs.Code.Ends Rattle.paris_code.specs.Code.Done r.t else Goes there) is_other

        given_so : (leaving : Leaving) (info : VarInfo) → b.result ≡ Some info → IsGiven inner OfFileOrParam s r.t (given_back leaving) → NoJump (Source.Gives leaving u)
            → HasNumber info.elem (result_of b.result leaving) ((layout_of t (words t image p codable compiled) number).base + length b.params.items) r.t
        given_so leaving info found h closed = result_given image t p codable compiled inside number b is open_calls m s r.t leaving u info found h closed (zero_there info found)

    -- the code of the body, as that of a block whose variables are cleared
    as_block : (locals : Vec LocalVar Global) (q : Vec (Unit {0}) Global) (row : _) → body_of t (layout_of t (words t image p codable compiled) number) (frame t image p codable compiled inside number b is open_calls m) (S.Block' locals q row) begin
        ≡ then_make (declared_in t (layout_of t (words t image p codable compiled) number) false locals.items 0 begin) (λ n after. statements_of t (layout_of t (words t image p codable compiled) number) row (frame t image p codable compiled inside number b is open_calls m) [] n after)
    unfolding body_of body_frame
    as_block locals q row = ap (λ (c : Bool). then_make (declared_in t (layout_of t (words t image p codable compiled) number) c locals.items 0 begin) (λ n after. statements_of t (layout_of t (words t image p codable compiled) number) row (frame t image p codable compiled inside number b is open_calls m) [] n after)) is_other

    made_here : (body : TStmt) → b.body ≡ body → then_make (body_of t (layout_of t (words t image p codable compiled) number) (frame t image p codable compiled inside number b is open_calls m) body begin) (λ n e. Makes (tt {0}) (ended (number == 0) b.body e)) ≡ Makes (tt {0}) (unit_at t image (scalars t image p codable compiled) codable compiled number b is)
    unfolding body_frame
    made_here body body_is =
        ap (λ (x : TStmt). then_make (body_of t (layout_of t (words t image p codable compiled) number) (frame t image p codable compiled inside number b is open_calls m) x begin) (λ n e. Makes (tt {0}) (ended (number == 0) b.body e))) (sym body_is)
        ∙ ap (λ (c : Bool). then_make (body_of t (layout_of t (words t image p codable compiled) number) (body_frame c b) b.body begin) (λ n e. Makes (tt {0}) (ended c b.body e))) is_other
        ∙ other_is t image (scalars t image p codable compiled) codable compiled number b is is_other

    -- the body of the function follows, where its own calls do
    module _ {Known : Setting → Scope → Active → Type 1} (besides : AllBeside t image p codable compiled Known) (known : Known inner (scope t image p codable compiled inside number b is open_calls m) active)
        (calls_follow : (held : Held) (from entries upto : ℕ) (a : Active) → Known (under_held inner held from entries upto) (scope t image p codable compiled inside number b is open_calls m) a → CallsFollow (under_held inner held from entries upto) (scope t image p codable compiled inside number b is open_calls m) a) where
      came : (o : Outcome Leaving) → (state_after o).turns ≤ st.turns → NoJump o → RunsFunction t image p codable compiled inside number b is open_calls m s o → RunsBody caller called_one live back s st (then_do o (λ leaving after. Source.Gives (result_of b.result leaving) (left st after)))
      unfolding RunsFunction RunsBody then_do state_after left
      came (Source.Gives leaving u) less closed runs = goes_back leaving u less runs closed
      came (Source.Ends early u) less closed runs = ends_early early u runs

      pub body_follows : (body : TStmt) → b.body ≡ body → IsBody inner.may body → RunsBody caller called_one live back s st (run_body t (calls t m) (Some b) arguments active st)
      unfolding IsBody IsInStatement OfFileOrParam statement_of run_body scope_of executed entered
      body_follows (S.Block' locals q row) body_is isin =
          let f = frame t image p codable compiled inside number b is open_calls m in
          let body : TStmt = S.Block' locals q row in
          let c : HasStatementCode t b 0 body = subst (λ (x : TStmt). HasStatementCode t b 0 x) body_is (codable number b is).1 in
          let h = has t image p codable compiled inside number b is open_calls m in
          let numbers = numbered t image p codable compiled inside number b is open_calls m in
          let is_ready = ready t image p codable compiled inside number b is open_calls m in
          let where_it_is = scope t image p codable compiled inside number b is open_calls m in
          let never_rises = falls t image p codable compiled inside number b is open_calls m in
          let around : Around Known inner where_it_is active =
          record { has = h; numbers = numbers; ready = is_ready; calls = calls_follow; falls = never_rises; known = known } in
          let runs : Follows inner (Left inner OfFileOrParam out begin s) s (executed where_it_is body 0 active opening_state) (body_of t (layout_of t (words t image p codable compiled) number) f body begin) =
          subst (λ (made : Made ℕ). Follows inner (Left inner OfFileOrParam out begin s) s (executed where_it_is body 0 active opening_state) made) (sym (as_block locals q row))
          (statement_follows where_it_is (λ g. besides.follows g where_it_is) inner active around [] OfFileOrParam (λ k. tt) 0 before_all body isin.0 out begin s opening_state
          (framed t image p codable compiled inside number b is open_calls m) (stands_here t image p codable compiled inside number b is open_calls m ((calls_follow inside inner.from inner.entries inner.upto active known).lasts (OpenAmong inner OfFileOrParam) 0 (omega arith) (λ k is_open. absurd is_open.0))) (declares t image p codable compiled inside number b is open_calls m begin (blank_homes t image (scalars t image p codable compiled) codable compiled number b)) (record { regs = let regs = blank_regs t image (scalars t image p codable compiled) codable compiled number b in omega (arith, regs); code = omega arith; fields = omega arith; opened = (λ k is_open. absurd is_open.0, λ j k one other is_open. absurd is_open.0) }) stands sim c) in
          let made = body_made t image p codable compiled inside number b is open_calls m (body_of t (layout_of t (words t image p codable compiled) number) f body begin) (made_so body body_is) in
          let never : ends_in_return b.body ≡ true → NeverOnward (executed where_it_is body 0 active opening_state) =
          λ ends. never_second (initialised where_it_is active 0 locals.items _) _ (λ u. body_never where_it_is active locals q row (sym (ap (λ (x : TStmt). ends_in_return x) body_is) ∙ ends) (0 + length locals.items) u) in
          let closed : NoJump (executed where_it_is body 0 active opening_state) = go_closed _ _ (begins_closed where_it_is active 0 locals.items _) (λ u. closed_row where_it_is row isin.1 (0 + length locals.items) active u) in
          subst (λ (x : TStmt). RunsBody caller called_one live back s st (then_do (executed where_it_is x 0 active opening_state) (λ leaving after. Source.Gives (result_of b.result leaving) (left st after)))) (sym body_is)
          (came (executed where_it_is body 0 active opening_state) (never_rises active body 0 opening_state) closed
          (runs_function t image p codable compiled inside number b is open_calls m begin made.e made.n s (executed where_it_is body 0 active opening_state) (ends_by t image p codable compiled inside number b is open_calls m (executed where_it_is body 0 active opening_state) made.e made.unit never) closed
          (subst (λ (x : Made ℕ). Follows inner (Left inner OfFileOrParam out begin s) s (executed where_it_is body 0 active opening_state) x) made.is_made runs)))
        where
          f : Frame
          f = frame t image p codable compiled inside number b is open_calls m

          out : Exits
          out = exits t image p codable compiled inside number b is open_calls m

          made_so : (body : TStmt) → b.body ≡ body → then_make (body_of t (layout_of t (words t image p codable compiled) number) f body begin) (λ n e. Makes (tt {0}) (ended (number == 0) b.body e)) ≡ Makes (tt {0}) (unit_at t image (scalars t image p codable compiled) codable compiled number b is)
          made_so body body_is = made_here body body_is
      body_follows _ body_is isin = absurd isin

module _ (t : Typed) (image : Image) {beside : Beside} (p : IsProgramBeside beside t) (codable : IsCodable t) (compiled : IsCompiled t image) {Known : Setting → Scope → Active → Type 1} (besides : AllBeside t image p codable compiled Known) where
  -- a function that an instance calls enters its code as the source does, wherever it is called
  abbrev pub EntersThere : (number : ℕ) (i : Instance) → slice_get t.instances.items number ≡ Some i → List ℕ → ℕ → (index : ℕ) (c : Instance) → slice_get t.instances.items index ≡ Some c → Contains (calls_within i.body) index → ℕ → Type 1
  EntersThere number i is opens most index c is_c called m =
      (held : Held) (from entries upto : ℕ) (a : Active) → Known (running t image p codable compiled held from entries upto number i is opens most) (scope_of t i (calls t most)) a → (here : CallStands (running t image p codable compiled held from entries upto number i is opens most) index)
      → Enters (running t image p codable compiled held from entries upto number i is opens most) (callee_known t image p codable compiled number i is opens most index c is_c called held from entries upto) m a here.at

  -- the calls in a function follow, where those with one turn fewer do
  pub calls_so : (most number : ℕ) (i : Instance) (is : slice_get t.instances.items number ≡ Some i) (opens : List ℕ)
      → ((index : ℕ) (c : Instance) (is_c : slice_get t.instances.items index ≡ Some c) → 0 < index → (called : Contains (calls_within i.body) index) (m : ℕ) → most ≡ suc m → EntersThere number i is opens most index c is_c called m)
      → (held : Held) (from entries upto : ℕ) (a : Active) → Known (running t image p codable compiled held from entries upto number i is opens most) (scope_of t i (calls t most)) a
      → CallsFollow (running t image p codable compiled held from entries upto number i is opens most) (scope_of t i (calls t most)) a
  unfolding scope_of callee_known
  calls_so most number i is opens enters held from entries upto a known = record {
    meant = refl;
    value = λ elem index given h. ((may_call index h.0 h.1.0 h.1.1 h.1.2, h.1.4), ((h.0, h.1.0, ap is_some h.1.3.1.0), h.1.3));
    effect = λ index given h. (may_call index h.0 h.1.0 h.1.1 h.1.2, h.1.4);
    returns = λ elem h. h;
    beside = λ has. (besides.follows (running t image p codable compiled held from entries upto number i is opens most) (scope_of t i (calls t most)) a known has).expressions;
    lasts = besides.lasts (running t image p codable compiled held from entries upto number i is opens most) (scope_of t i (calls t most)) a known;
  }
    where
      may_call : (index : ℕ) (c : Instance) (is_c : slice_get t.instances.items index ≡ Some c) → 0 < index → Contains (calls_within i.body) index → MayCall (running t image p codable compiled held from entries upto number i is opens most) a index
      may_call index c is_c some called = record {
        callee = callee_known t image p codable compiled number i is opens most index c is_c called held from entries upto;
        enters = λ m e here. enters index c is_c some called m e held from entries upto a known here;
      }

  pub enters_so : (m me : ℕ) (a : Instance) (is_me : slice_get t.instances.items me ≡ Some a) (back_to : List ℕ) (number : ℕ) (b : Instance) (is : slice_get t.instances.items number ≡ Some b) → 0 < number → (called : Contains (calls_within a.body) number) → EntersThere me a is_me back_to (suc m) number b is called m
  unfolding callee_known Enters
  enters_so zero me a is_me back_to number b is some called held from entries upto active known here live arguments st s back back_is starts stacked shared few given zero_there =
      let inside = besides.called held from entries upto active me a is_me back_to (suc zero) known number b is (back_to ++ back ∷ []) zero here live back st back_is in
      body_follows t image p codable compiled held from entries upto me a is_me back_to number b is some called zero here active arguments st s back inside.0 live inside.1.0 starts stacked shared few given zero_there besides inside.1.1
      (calls_so zero number b is (back_to ++ back ∷ []) (λ index c is_c some_c called_c m e. absurd (omega (arith, e)))) b.body refl (p.each number b is).body
  enters_so (suc m) me a is_me back_to number b is some called held from entries upto active known here live arguments st s back back_is starts stacked shared few given zero_there =
      let inside = besides.called held from entries upto active me a is_me back_to (suc (suc m)) known number b is (back_to ++ back ∷ []) (suc m) here live back st back_is in
      body_follows t image p codable compiled held from entries upto me a is_me back_to number b is some called (suc m) here active arguments st s back inside.0 live inside.1.0 starts stacked shared few given zero_there besides inside.1.1
      (calls_so (suc m) number b is (back_to ++ back ∷ []) (λ index c is_c some_c called_c k e.
      subst (λ (n : ℕ). EntersThere number b is (back_to ++ back ∷ []) (suc m) index c is_c called_c n) (fewer m k e) (enters_so m number b is (back_to ++ back ∷ []) index c is_c some_c called_c)))
      b.body refl (p.each number b is).body
    where
      fewer : (m k : ℕ) → suc m ≡ suc k → m ≡ k
      fewer m k e = omega (arith, e)
