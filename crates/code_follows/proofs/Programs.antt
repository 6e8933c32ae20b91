-- The run of a whole program.
use mathlib.Core.Former.{Count}
use Rattle.std.proofs.Common.{◌≡◌, ◌∙◌, ℕ, zero, suc, ◌+◌, ◌<◌, ◌≤◌, ◌^◌, true, List, [], ◌∷◌, map, length, slice_get, slice_index, Option, Some, None, refl, sym, ap, subst, arith, inl, inr, ◌⊎◌}
use Rattle.std.proofs.lemmas.List.{get_or-replicate, length-replicate}
use Rattle.cstar_base.specs.declared.operators.Winner.{Winner}
use Rattle.cstar_compile.specs.Compiled.{IsCompiled}
use Rattle.cstar_tree.specs.declared.typed.Instance.{Instance}
use Rattle.cstar_tree.specs.declared.typed.LocalVar.{LocalVar}
use Rattle.cstar_tree.specs.declared.typed.TExpr.{TExpr}
use Rattle.cstar_tree.specs.declared.typed.TStmt.{TStmt, Row_of-TStmt}
use Rattle.cstar_tree.specs.declared.typed.TStmt as S
use Rattle.cstar_tree.specs.declared.typed.Typed.{Typed}
use Rattle.cstar_tree.specs.declared.typed.VarInfo.{VarInfo}
use Rattle.cstar_tree.specs.declared.typed.Variable.{Variable}
use Rattle.cstar_tree.specs.declared.typed.Variable.TheVariants as V
use Rattle.code_lengths.specs.Naming.{variable_named}
use Rattle.code_lengths.specs.Ready.{HasStatementCode, IsCodable}
use Rattle.code_lengths.proofs.Declaring.{all_at, first_part, info_of, row_variables}
use Rattle.lower_base.specs.Constants.{constant_register, first_free}
use Rattle.lower_base.specs.Drafts.{Draft, Made, Makes, then_make}
use Rattle.lower_base.specs.Layouts.{register_of}
use Rattle.lower_stmt.specs.Programs.{blank, body_frame}
use Rattle.lower_stmt.specs.Statements.{body_of, ended, ends_in_return, statements_of}
use Rattle.lower_stmt.specs.Variables.{all_initialised, declared as declared_in}
use Rattle.paris_code.specs.declared.program.Image.{Image}
use Rattle.paris_code.specs.Memory.{BitMemory}
use Rattle.paris_code.specs.Code as Machine
use Rattle.paris_code.specs.Code.{CodeState, opening}
use Rattle.source_meaning.specs.Programs.{Run, by_owner, calls, entered, left, meaning, result_of, run_body, run_of, scope_of, start_of, start_state, scalar_given}
use Rattle.source_meaning.specs.State as Source
use Rattle.source_meaning.specs.State.{Outcome, State, is_among, then_do, zeroed}
use Rattle.source_meaning.specs.Statements.{Leaving, executed, initialised}
use Rattle.source_meaning.specs.Values.{Active, Scope, number}
use Rattle.code_follows.specs.Agreement.{AreBytes, CodeMeansSource, ComesTo, end_of, mark_of}
use Rattle.code_follows.specs.Fragment.{IsBody, IsFileVariable, Beside, IsIn, IsProgramBeside, IsInStatement, OfFileOrParam, OrAmong}
use Rattle.code_follows.proofs.Activations.{activation, scalars, words}
use Rattle.code_follows.proofs.Besides.{under_held}
use Rattle.code_follows.proofs.Beginnings.{starts_grow, starts_run}
use Rattle.code_follows.proofs.Bodies.{begun_code, begun_follows, begun_grows, block_code, block_initials, block_stands, follows_fewer}
use Rattle.code_follows.proofs.Callees.{CallsFollow}
use Rattle.code_follows.proofs.Closed.{NoJump, begins_closed, closed_row, go_closed}
use Rattle.code_follows.proofs.ConstantRegisters.{constant_at}
use Rattle.code_follows.proofs.Declaring.{among_before, sim_fewer}
use Rattle.code_follows.proofs.Endings.{NeverOnward, body_never, never_second}
use Rattle.code_follows.proofs.Entering.{AllBeside, EntersThere, before_all, calls_so, enters_so}
use Rattle.code_follows.proofs.Executing.{Left}
use Rattle.code_follows.proofs.Following.{held, Extends, Follows, Sim, IsScalar}
use Rattle.code_follows.proofs.Functions.{BodyMade, EndsSo, RunsFunction, among, body_made, declares, ends_by, exits, falls, frame, framed, g, has, numbered, own, ready, runs_function, scope, stands_here}
use Rattle.code_follows.proofs.Growing.{Extended}
use Rattle.code_follows.proofs.Openings.{constants_run}
use Rattle.std.proofs.lemmas.Nat.{pow_pos}
use Rattle.source_meaning.specs.Reductions.{int_type}
use Rattle.code_follows.proofs.Induction.{Around, row_follows}
use Rattle.code_follows.proofs.Numbers.{zero_converted}
use Rattle.code_follows.proofs.Regions.{IsOwn, base_behind, base_inside, below, local_own, own_behind, param_own}
use Rattle.code_follows.proofs.Settings.{begun_fewer, OpenAmong, At, Begun, EndsIn, Held, Reaches, Setting, Within, earlier, ends_later, ends_now, onto, start}
use Rattle.code_follows.proofs.Standing.{start_in}
use Rattle.code_follows.proofs.Clearing.{clears_first}
use Rattle.code_follows.proofs.Standing.{some_same}
use Rattle.code_follows.proofs.Statements.{stands_wider}
use Rattle.code_follows.proofs.Declared.{clears_declare}
use Rattle.code_follows.proofs.Starting.{Now, settled_so}
use Rattle.code_follows.proofs.Units.{constants_grow, empty_unit, main_is, starts_homes, starts_regs, with_constants, with_starts}
use Rattle.paris_code.specs.declared.program.Unit.{Unit as CodeUnit}

-- the code comes to the end of a run, and the memory then holds what is held of its final state
pub record Comes (holding : Held) (image : Image) (s : CodeState) (run : Run) : Type 0 where
  pub to : ComesTo image s run
  pub memory : holding.ends run.final to.last.memory

-- no parallel variable of a block is open
abbrev pub none_open : ℕ → Type 0
none_open k = ⊥

-- what holds of every memory
abbrev pub nothing_held : Held
nothing_held = record { holds = λ live at st m. Unit {0}; ends = λ st m. Unit {0}; finally = λ live at st m h. tt; still = λ live at st u m fields winner h. tt; onward = λ live at to st m behind h. tt; fewer = λ more less at st m among h. tt }

pub starts_at_zero : (us : List CodeUnit) → start_in us 0 0 ≡ 0
unfolding start_in
starts_at_zero [] = refl
starts_at_zero (u ∷ us) = refl

module _ (t : Typed) (image : Image) {beside : Beside} (p : IsProgramBeside beside t) (codable : IsCodable t) (compiled : IsCompiled t image) (holding : Held) (memory : BitMemory) (input : List ℕ) (rest : Source.Rest) (turns : ℕ) (winner : Winner) (are : AreBytes input) (begins : holding.holds none_open 0 (start_state t input rest turns winner) memory) {Known : Setting → Scope → Active → Type 1} (besides : AllBeside t image p codable compiled Known) (known : Known (activation t image p codable compiled holding 0 p.main p.is_main [] turns) (scope_of t p.main (calls t turns)) (λ s p. true)) where
  abbrev main_setting : Setting
  main_setting = g t image p codable compiled holding 0 p.main p.is_main [] turns

  -- all variables but the parallel ones of its blocks
  abbrev alive : Variable → Type 0
  alive x = (k : ℕ) → x ≡ V.Local k → (info : VarInfo) (set : ℕ) → variable_named t p.main (V.Local k) ≡ Some info → info.shape ≡ Some set → ⊥

  abbrev opened : CodeState
  opened = opening image memory turns (record { bytes = input; mark = mark_of rest })

  abbrev first_state : State
  first_state = start_state t input rest turns winner

  abbrev active : Active
  active = λ s p. true

  abbrev in_main : State
  in_main = entered p.main [] active first_state

  abbrev constants_there : Draft
  constants_there = with_constants t image (scalars t image p codable compiled) codable compiled p.main

  abbrev begun_there : Draft
  begun_there = with_starts t image (scalars t image p codable compiled) codable compiled p.main

  starts_grown : (k : ℕ) × Extended constants_there k begun_there
  starts_grown = starts_grow (own t image p codable compiled holding 0 p.main p.is_main [] turns) t.vars.items 0 main_setting constants_there

  begins_at : start main_setting ≡ 0
  begins_at = starts_at_zero compiled.after.units.items

  constant_there : (u : CodeState) → ((i : ℕ) → i < length (own t image p codable compiled holding 0 p.main p.is_main [] turns).constants → slice_index u.registers ((own t image p codable compiled holding 0 p.main p.is_main [] turns).end + i) ≡ slice_index (own t image p codable compiled holding 0 p.main p.is_main [] turns).constants i)
      → (word r : ℕ) → constant_register (own t image p codable compiled holding 0 p.main p.is_main [] turns) word ≡ Some r → slice_index u.registers r ≡ word
  constant_there u are word r is =
      let h = constant_at (own t image p codable compiled holding 0 p.main p.is_main [] turns) word r is in
      ap (λ (q : ℕ). slice_index u.registers q) h.register ∙ are h.index h.inside ∙ h.value

  -- nothing is given to `main`
  none_given : (k : ℕ) → in_main.scalar (V.Param k) ≡ 0
  unfolding entered by_owner scalar_given number
  none_given zero = refl
  none_given (suc k) = refl

  -- a parameter of `main`, if it has any, and a variable of its blocks is 0
  own_zero : (x : Variable) (info : VarInfo) → variable_named t p.main x ≡ Some info → (u : CodeState)
      → ((q : ℕ) → 0 + length t.vars.items ≤ q → q < (own t image p codable compiled holding 0 p.main p.is_main [] turns).end → slice_index u.registers q ≡ 0)
      → IsOwn t (scalars t image p codable compiled) (words t image p codable compiled) 0 p.main (register_of (own t image p codable compiled holding 0 p.main p.is_main [] turns) x) → slice_index u.registers (register_of (own t image p codable compiled holding 0 p.main p.is_main [] turns) x) ≡ held info.elem 0
  own_zero x info is u zeros mine =
      let behind = own_behind t (scalars t image p codable compiled) (words t image p codable compiled) 0 p.main _ p.is_main mine in
      zeros _ (omega (arith, behind)) (below t (scalars t image p codable compiled) (words t image p codable compiled) 0 p.main p.is_main x info is) ∙ sym (zero_converted int_type info.elem)

  register_value : (x : Variable) (info : VarInfo) → variable_named t p.main x ≡ Some info → (u : CodeState) → ((k : ℕ) (info : VarInfo) → slice_get t.vars.items k ≡ Some info → slice_index u.registers (0 + k) ≡ held info.elem info.start)
      → ((q : ℕ) → 0 + length t.vars.items ≤ q → q < (own t image p codable compiled holding 0 p.main p.is_main [] turns).end → slice_index u.registers q ≡ 0) → slice_index u.registers (register_of (own t image p codable compiled holding 0 p.main p.is_main [] turns) x) ≡ held info.elem (in_main.scalar x)
  unfolding entered start_state by_owner start_of scalar_given variable_named register_of
  register_value (V.File k) info is u files zeros = ap (λ (q : ℕ). slice_index u.registers q) (front k) ∙ files k info is ∙ sym (ap (λ (o : Option VarInfo). held info.elem (elim o as (λ _. ℕ) [ None ↦ 0 | Some info ↦ info.start ])) is)
    where
      front : (k : ℕ) → k ≡ 0 + k
      front k = omega arith
  register_value (V.Param k) info is u files zeros =
      own_zero (V.Param k) info is u zeros (param_own t (scalars t image p codable compiled) (words t image p codable compiled) 0 p.main k info p.is_main is) ∙ ap (held info.elem) (sym (none_given k))
  register_value (V.Local k) info is u files zeros = own_zero (V.Local k) info is u zeros (local_own t (scalars t image p codable compiled) (words t image p codable compiled) 0 p.main k info p.is_main is)

  zero_or_started : (x : Variable) (info : VarInfo) → variable_named t p.main x ≡ Some info → in_main.scalar x < 2 ^ info.elem.bits
  unfolding entered start_state by_owner start_of scalar_given variable_named
  zero_or_started (V.File k) info is = subst (λ (o : Option VarInfo). (elim o as (λ _. ℕ) [ None ↦ 0 | Some info ↦ info.start ]) < 2 ^ info.elem.bits) (sym is) (all_at (IsFileVariable beside) t.vars.items k info p.variables is).1
  zero_or_started (V.Param k) info is = subst (λ (n : ℕ). n < 2 ^ info.elem.bits) (sym (none_given k)) (pow_pos info.elem.bits)
  zero_or_started (V.Local k) info is = pow_pos info.elem.bits

  -- the code is at the body, with the constants and the values of the file's variables in their registers
  record Opened : Type 0 where
    pub there : CodeState
    pub go : Reaches main_setting opened there
    pub at : At main_setting there (length begun_there.code)
    pub sim : Sim main_setting alive in_main there

  opened_so : Within main_setting begun_there → Opened
  unfolding blank first_free entered start_state start_of by_owner
  opened_so within =
      let l = own t image p codable compiled holding 0 p.main p.is_main [] turns in
      let at = begins_at in
      let many : length opened.registers ≡ image.slots = length-replicate image.slots 0 in
      let before : Within main_setting constants_there = earlier main_setting constants_there begun_there starts_grown.0 starts_grown.1 within in
      let has_it = has t image p codable compiled holding 0 p.main p.is_main [] turns in
      let free = has_it.free in
      let least = (constants_grow t image (scalars t image p codable compiled) codable compiled p.main).regs in
      let inside = before.regs in
      let room = has_it.room in
      let base = base_behind t (scalars t image p codable compiled) (words t image p codable compiled) 0 p.main p.is_main in
      let end = base_inside t (scalars t image p codable compiled) (words t image p codable compiled) 0 p.main p.is_main in
      let c = constants_run main_setting l.constants l.end (empty_unit t image (scalars t image p codable compiled) codable compiled p.main) opened (omega (arith, at)) before (omega (arith, many, free, least, inside)) in
      let long = c.registers in
      let zeros : (q : ℕ) → q < l.end → slice_index c.t.registers q ≡ 0 = λ q low. c.below q low ∙ get_or-replicate image.slots q 0 0 (omega (arith, low, room)) in
      let b = starts_run l main_setting t.vars.items 0 constants_there c.t (λ k info inside. (p.variables k info inside).1) c.at within (omega (arith, base, end, long, many, room)) (λ q lo hi. zeros q (omega (arith, hi, base, end))) in
      record {
        there = b.t;
        go = onto main_setting opened c.t b.t c.go b.go;
        at = b.at;
        sim = sim_so b.t (b.registers ∙ long ∙ many) b.are (λ q hi low. b.above q hi ∙ zeros q low) (λ i k. b.above (l.end + i) (omega (arith, base, end)) ∙ c.are i k) (b.turns ∙ c.turns) (b.output ∙ c.output) (b.input ∙ c.input) (b.returns ∙ c.returns) (b.memory ∙ c.memory);
      }
    where
      sim_so : (u : CodeState) → length u.registers ≡ image.slots → ((k : ℕ) (info : VarInfo) → slice_get t.vars.items k ≡ Some info → slice_index u.registers (0 + k) ≡ held info.elem info.start)
          → ((q : ℕ) → 0 + length t.vars.items ≤ q → q < (own t image p codable compiled holding 0 p.main p.is_main [] turns).end → slice_index u.registers q ≡ 0)
          → ((i : ℕ) → i < length (own t image p codable compiled holding 0 p.main p.is_main [] turns).constants → slice_index u.registers ((own t image p codable compiled holding 0 p.main p.is_main [] turns).end + i) ≡ slice_index (own t image p codable compiled holding 0 p.main p.is_main [] turns).constants i)
          → u.turns ≡ opened.turns → u.output ≡ opened.output → u.input ≡ opened.input → u.returns ≡ opened.returns → u.memory ≡ memory → Sim main_setting alive in_main u
      sim_so u long files zeros constants same_turns same_output same_input same_returns same_memory = record {
        registers = long;
        scalars = λ x info living scalar. register_value x info scalar.0 u files zeros;
        small = λ x info living scalar. zero_or_started x info scalar.0;
        constants = λ word r is. constant_there u constants word r is;
        turns = same_turns;
        output = same_output;
        input = same_input;
        returns = same_returns;
        few = omega arith;
        bytes = are;
        memory = holding.fewer none_open (OpenAmong main_setting alive) u.at in_main u.memory (λ k is_open. is_open.0 k refl is_open.1.0 is_open.1.1.0 is_open.1.1.1.0 is_open.1.1.1.1) (holding.still none_open u.at first_state in_main u.memory ((λ k e p. refl), (λ k is_open e p. absurd is_open)) refl (subst (λ (m : BitMemory). holding.holds none_open u.at first_state m) (sym same_memory) (holding.onward none_open 0 u.at first_state memory (omega arith) begins)));
      }

  -- ---- the end

  abbrev run_from : Outcome Leaving → Run
  run_from o = run_of (then_do o (λ leaving after. Source.Gives (result_of p.main.result leaving) (left first_state after)))

  comes : (s : CodeState) (o : Outcome Leaving) → Reaches main_setting opened s → RunsFunction t image p codable compiled holding 0 p.main p.is_main [] turns s o → Comes holding image opened (run_from o)
  unfolding RunsFunction then_do run_of left by_owner OfFileOrParam
  comes s (Source.Gives leaving u) go r =
      let ends : EndsIn main_setting s Machine.Done r.t = ends_later main_setting s r.t r.t Machine.Done r.go (ends_now main_setting r.t r.t Machine.Done r.leaves) in
      let x = ends_later main_setting opened s r.t Machine.Done go ends in
      record { to = record { steps = x.steps; last = r.t; ends = x.is; turns = r.sim.turns; output = r.sim.output }; memory = holding.finally (OpenAmong main_setting OfFileOrParam) r.t.at (left first_state u) r.t.memory (holding.still (OpenAmong main_setting OfFileOrParam) r.t.at u (left first_state u) r.t.memory ((λ k e p. refl), (λ k is_open e p. absurd is_open.0)) refl r.sim.memory) }
  comes s (Source.Ends early u) go h =
      let x = ends_later main_setting opened s h.t (end_of early) go h.ends in
      record { to = record { steps = x.steps; last = h.t; ends = x.is; turns = h.turns; output = h.output }; memory = h.memory }

  -- every call in `main` follows
  main_calls : (held : Held) (from entries upto : ℕ) (a : Active) → Known (under_held main_setting held from entries upto) (scope t image p codable compiled holding 0 p.main p.is_main [] turns) a
      → CallsFollow (under_held main_setting held from entries upto) (scope t image p codable compiled holding 0 p.main p.is_main [] turns) a
  main_calls = calls_so t image p codable compiled besides turns 0 p.main p.is_main [] (λ index c is_c some called m e.
      subst (λ (most : ℕ). EntersThere t image p codable compiled besides 0 p.main p.is_main [] most index c is_c called m) (sym e) (enters_so t image p codable compiled besides m 0 p.main p.is_main [] index c is_c some called))

  abbrev calls_in_main : CallsFollow main_setting (scope t image p codable compiled holding 0 p.main p.is_main [] turns) active
  calls_in_main = main_calls holding main_setting.from main_setting.entries main_setting.upto active known

  module _ {k : Count} (locals : List LocalVar) (row : Row_of-TStmt k) where
    abbrev begun_body : State
    begun_body = zeroed 0 (length locals) in_main

  -- a scalar variable is alive, and one of the file or a parameter
  plain_alive : (x : Variable) (info : VarInfo) → IsScalar main_setting x info → alive x
  plain_alive x info scalar k same of set named parallel =
      let is : info ≡ of = some_same info of (sym scalar.0 ∙ ap (λ (y : Variable). variable_named t p.main y) same ∙ named) in
      let wrong : None ≡ Some set = sym scalar.1 ∙ ap (λ (i : VarInfo). i.shape) is ∙ parallel in cc

  was_alive : (many : ℕ) (x : Variable) → OrAmong OfFileOrParam 0 many x → alive x ⊎ (is_among 0 many x ≡ true)
  unfolding OfFileOrParam
  was_alive many (V.File k) h = inl (λ j same of set named parallel. cc)
  was_alive many (V.Param k) h = inl (λ j same of set named parallel. cc)
  was_alive many (V.Local k) (inl h) = absurd h
  was_alive many (V.Local k) (inr h) = inr h

  -- the variables of its blocks are 0
  locals_zero : (k : ℕ) → in_main.scalar (V.Local k) ≡ 0
  unfolding entered by_owner scalar_given start_state
  locals_zero k = refl

  runs : (body : TStmt) → p.main.body ≡ body → IsBody main_setting.may body → Comes holding image opened (run_from (executed (scope t image p codable compiled holding 0 p.main p.is_main [] turns) p.main.body 0 active in_main))
  unfolding IsBody IsInStatement OfFileOrParam body_of body_frame declared_in then_make executed scope_of zeroed Extends
  runs (S.Block' locals q row) is h =
      let f = frame t image p codable compiled holding 0 p.main p.is_main [] turns in
      let out = exits t image p codable compiled holding 0 p.main p.is_main [] turns in
      let wide : Variable → Type 0 = λ x. OrAmong OfFileOrParam 0 (length locals.items) x in
      let one : (k : ℕ) → wide (V.File k) = λ k. inl tt in
      let has_it = has t image p codable compiled holding 0 p.main p.is_main [] turns in
      let numbers = numbered t image p codable compiled holding 0 p.main p.is_main [] turns in
      let is_ready = ready t image p codable compiled holding 0 p.main p.is_main [] turns in
      let here = scope t image p codable compiled holding 0 p.main p.is_main [] turns in
      let never_rises = falls t image p codable compiled holding 0 p.main p.is_main [] turns in
      let framed_so = framed t image p codable compiled holding 0 p.main p.is_main [] turns in
      let among_so = among t image p codable compiled holding 0 p.main p.is_main [] turns in
      let around : Around Known main_setting here active =
      record { has = has_it; numbers = numbers; ready = is_ready; calls = main_calls; falls = never_rises; known = known } in
      let homes = starts_homes t image (scalars t image p codable compiled) codable compiled p.main in
      let regs = starts_regs t image (scalars t image p codable compiled) codable compiled p.main in
      let c : HasStatementCode t p.main 0 (S.Block' locals q row) = subst (λ (s : TStmt). HasStatementCode t p.main 0 s) is (codable 0 p.main p.is_main).1 in
      let own_row = block_code main_setting has_it wide one numbers is_ready here active calls_in_main (never_rises active) [] 0 locals q row c in
      let initial = block_initials main_setting has_it wide one numbers is_ready here active calls_in_main (never_rises active) [] 0 locals q row c in
      let settled = settled_so main_setting has_it wide one is_ready here active calls_in_main OfFileOrParam locals.items 0 (λ x living. inl living) (λ x own. inr own) before_all h.0.1 in
      let stand = first_part (map info_of locals.items) (row_variables row) (block_stands main_setting has_it wide one numbers is_ready here active calls_in_main (never_rises active) [] 0 locals q row c) in
      let none_declared = declares t image p codable compiled holding 0 p.main p.is_main [] turns begun_there homes in
      let first = clears_first main_setting (besides.follows main_setting here active known has_it).locals numbers alive (λ x info scalar. plain_alive x info scalar) locals.items 0 begun_there h.0.0 stand none_declared in
      let declared = clears_declare main_setting true locals.items 0 begun_there first.e first.is stand numbers none_declared in
      let code : Made ℕ = begun_code main_setting has_it wide one numbers is_ready here active calls_in_main (never_rises active) [] locals.items row out 0 first.e in
      let code_is : body_of t (own t image p codable compiled holding 0 p.main p.is_main [] turns) f p.main.body begun_there ≡ code =
      ap (λ (b : TStmt). body_of t (own t image p codable compiled holding 0 p.main p.is_main [] turns) f b begun_there) is
      ∙ ap (λ (m : Made (Unit {0})). then_make (then_make m (λ u between. then_make (all_initialised t (own t image p codable compiled holding 0 p.main p.is_main [] turns) locals.items 0 between) (λ v after. Makes (0 + length locals.items) after))) (λ number after. statements_of t (own t image p codable compiled holding 0 p.main p.is_main [] turns) row f [] number after))
      first.is in
      let made : BodyMade t image p codable compiled holding 0 p.main p.is_main [] turns code = body_made t image p codable compiled holding 0 p.main p.is_main [] turns code
      (sym (ap (λ (m : Made ℕ). then_make m (λ n e. Makes (tt {0}) (ended true p.main.body e))) code_is) ∙ main_is t image (scalars t image p codable compiled) codable compiled p.main p.is_main) in
      let whole : Outcome Leaving = executed here (S.Block' locals q row) 0 active in_main in
      let never : ends_in_return p.main.body ≡ true → NeverOnward whole =
      λ ends. never_second (initialised here active 0 locals.items _) _ (λ u. body_never here active locals q row (sym (ap (λ (x : TStmt). ends_in_return x) is) ∙ ends) (0 + length locals.items) u) in
      let ends : EndsSo t image p codable compiled holding 0 p.main p.is_main [] turns whole made.e = ends_by t image p codable compiled holding 0 p.main p.is_main [] turns whole made.e made.unit never in
      let grown : (j : ℕ) × Extended first.e j made.e = subst (λ (m : Made ℕ). Extends main_setting first.e m) made.is_made (begun_grows main_setting has_it wide one numbers is_ready here active calls_in_main (never_rises active) [] locals.items row out 0 first.e settled initial own_row framed_so among_so declared) in
      let cleared_in : Within main_setting first.e = earlier main_setting first.e made.e grown.0 grown.1 ends.inside in
      let opens = opened_so (earlier main_setting begun_there first.e first.count first.grown cleared_in) in
      let free : Begun main_setting alive begun_there = record { regs = omega (arith, regs); code = omega arith; fields = omega arith; opened = (λ k is_open. absurd (is_open.0 k refl is_open.1.0 is_open.1.1.0 is_open.1.1.1.0 is_open.1.1.1.1), λ j k one other is_open. absurd (is_open.0 j refl is_open.1.0 is_open.1.1.0 is_open.1.1.1.0 is_open.1.1.1.1)) } in
      let ran = first.runs opens.there in_main (λ k. locals_zero k) free opens.at opens.sim cleared_in in
      let now : Variable → Type 0 = λ x. Now main_setting has_it wide one is_ready here active calls_in_main locals.items 0 x in
      let sim : Sim main_setting now (begun_body locals.items row) ran.t = sim_fewer main_setting (λ x. alive x ⊎ (is_among 0 (length locals.items) x ≡ true)) now (begun_body locals.items row) ran.t (λ x info named h. was_alive (length locals.items) x h.0) ran.sim in
      let closed : NoJump whole = go_closed _ _ (begins_closed here active 0 locals.items _) (λ u. closed_row here row h.1 (0 + length locals.items) active u) in
      subst (λ (b : TStmt). Comes holding image opened (run_from (executed here b 0 active in_main))) (sym is)
      (comes ran.t whole (onto main_setting opened opens.there ran.t opens.go ran.go)
      (runs_function t image p codable compiled holding 0 p.main p.is_main [] turns first.e made.e made.n ran.t whole ends closed
      (subst (λ (m : Made ℕ). Follows main_setting (Left main_setting OfFileOrParam out first.e ran.t) ran.t whole m) made.is_made
      (follows_fewer main_setting wide OfFileOrParam (λ x living. inl living) out first.e ran.t whole code
      (begun_follows main_setting has_it wide one numbers is_ready here active calls_in_main (never_rises active) [] locals.items row out 0 first.e ran.t (begun_body locals.items row) settled initial own_row framed_so among_so declared (begun_fewer main_setting (λ x. OrAmong alive 0 (length locals.items) x) wide first.e (λ x living. was_alive (length locals.items) x living) (first.opened cleared_in free)) ran.at sim
      (λ e there u none free at sim_there. row_follows here (λ g. besides.follows g here) main_setting active around [] wide one (0 + length locals.items) (among_before OfFileOrParam 0 (length locals.items) before_all) row h.0.2 out e there u framed_so (stands_wider main_setting OfFileOrParam wide (λ x living. inl living) out [] (stands_here t image p codable compiled holding 0 p.main p.is_main [] turns (calls_in_main.lasts (OpenAmong main_setting OfFileOrParam) 0 (omega arith) (λ k is_open. absurd is_open.0)))) none free at sim_there own_row))))))
  runs _ is h = absurd h

-- the code comes to the end of the source's meaning
pub program_follows : (t : Typed) (image : Image) {beside : Beside} (p : IsProgramBeside beside t) (codable : IsCodable t) (compiled : IsCompiled t image) (holding : Held)
    {Known : Setting → Scope → Active → Type 1} (memory : BitMemory) (input : List ℕ) (rest : Source.Rest) (turns : ℕ) (winner : Winner) → AreBytes input → holding.holds none_open 0 (start_state t input rest turns winner) memory → AllBeside t image p codable compiled Known → Known (activation t image p codable compiled holding 0 p.main p.is_main [] turns) (scope_of t p.main (calls t turns)) (λ s p. true)
    → Comes holding image (opening image memory turns (record { bytes = input; mark = mark_of rest })) (meaning t input rest turns winner)
unfolding meaning run_body
program_follows t image p codable compiled holding memory input rest turns winner are begins besides known =
    subst (λ (o : Option Instance). Comes holding image (opening image memory turns (record { bytes = input; mark = mark_of rest })) (run_of (run_body t (calls t turns) o [] (λ s p. true) (start_state t input rest turns winner)))) (sym p.is_main)
    (runs t image p codable compiled holding memory input rest turns winner are begins besides known p.main.body refl (p.each 0 p.main p.is_main).body)

-- a unit of a program that has nothing beside scalars, where nothing is held
record NothingBeside (g : Setting) : Type 1 where
  pub always : (live : ℕ → Type 0) (at : ℕ) (st : State) (m : BitMemory) → g.held.holds live at st m
  pub ends : (st : State) (m : BitMemory) → g.held.ends st m
  pub effects : (e : TExpr) → g.may.beside.effects e → ⊥
  pub folds : (e : TExpr) → g.may.beside.folds e → ⊥
  pub positions : (x : Variable) → g.may.beside.positions x → ⊥
  pub conditions : (shape : ℕ) (e : TExpr) → g.may.beside.conditions shape e → ⊥
  pub widens : (shape : ℕ) → g.may.beside.widens shape → ⊥
  pub locals : (info : VarInfo) → g.may.beside.locals info → ⊥

pub means_source : CodeMeansSource
unfolding IsIn
means_source t image p codable compiled memory input rest turns winner are =
    (program_follows t image p codable compiled nothing_held {Known = λ g scope a. NothingBeside g} memory input rest turns winner are (tt {0}) (record {
      follows = λ g scope a known has. record {
        expressions = record { effects = λ alive files n ready e h. absurd (known.effects e h); folds = λ alive files n ready e h. absurd (known.folds e h); reads = λ alive files n ready ty place p indexes x of is. absurd (known.positions x is.1); stores = λ alive files n ready ty place sending op p q r indexes x of value is. absurd (known.positions x is.1); steps = λ alive files n ready ty place op order p r indexes x of is. absurd (known.positions x is.1); initials = λ alive files n ready info set e shaped is. absurd (known.effects _ is.1.1.1.0) };
        locals = λ at_start local n d h. absurd (known.locals local.info h);
        wheres = λ alive files n ready shape test q first second h. absurd (known.conditions shape test h);
        widenings = λ alive files n ready shape q body h. absurd (known.widens shape h);
      };
      called = λ held from entries upto a me i is_me opens most known number b is back m here live place st place_is.
          (nothing_held, (record { enters = λ at u n files winner h. tt; leaves = λ at u v n files own winner h. known.always live place v n; ends = λ u n h. known.ends u n }, nothing number b is back m));
      lasts = λ g scope a known live target low named place jump stands leads st n h. known.always live (target + start g) st n;
    }) (nothing 0 p.main p.is_main [] turns)).to
  where
    nothing : (number : ℕ) (i : Instance) (is : slice_get t.instances.items number ≡ Some i) (opens : List ℕ) (most : ℕ) → NothingBeside (activation t image p codable compiled nothing_held number i is opens most)
    nothing number i is opens most = record { always = λ live at st m. tt; ends = λ st m. tt; effects = λ e h. h; folds = λ e h. h; positions = λ x h. h; conditions = λ shape e h. h; widens = λ shape h. h; locals = λ info h. h }
