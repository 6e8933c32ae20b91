-- Jumps and turns of the code.
use Rattle.std.proofs.Common.{◌≡◌, ◌∙◌, ℕ, suc, ◌+◌, ◌-◌, ◌==◌, ◌≤◌, Bool, true, false, not, List, length, slice_index, refl, ap, subst, if◌then◌else◌, arith}
use Rattle.std.proofs.lemmas.Bool.Decides.{nat_tests}
use Rattle.cstar_tree.specs.declared.typed.Variable.{Variable}
use Rattle.lower_base.specs.Drafts.{Draft, step as step_of, with_instr}
use Rattle.lower_stmt.specs.Statements.{loaded, restored}
use Rattle.paris_code.specs.declared.instr.Instr.{Instr}
use Rattle.paris_code.specs.declared.instr.Instr.TheVariants as I
use Rattle.paris_code.specs.declared.operands.Field.{Field}
use Rattle.paris_code.specs.Code as Machine
use Rattle.paris_code.specs.Code.{CodeState, Ends, Goes, begun, jumped}
use Rattle.paris_code.specs.Spans.{JumpsTo, StandsAt}
use Rattle.source_meaning.specs.State as Source
use Rattle.source_meaning.specs.State.{State}
use Rattle.source_meaning.specs.Values.{nonzero}
use Rattle.code_follows.proofs.Following.{Finishes, Sim}
use Rattle.code_follows.proofs.Settings.{OpenAmong, At, LastsTo, Reaches, Setting, Within, begins_here, ends_now, one, start}

-- none of those that are saved is loaded
pub none_restored : (contexts : List Field) (newest : ℕ) (d : Draft) → newest ≡ 0 → restored contexts newest d ≡ d
unfolding restored loaded
none_restored contexts newest d none = ap (λ (k : ℕ). restored contexts k d) none

module _ (g : Setting) (alive : Variable → Type 0) where
  -- the state at another place
  abbrev pub moved_to : ℕ → CodeState → CodeState
  moved_to place s = record s { at = place }

  -- it agrees there too, if what is held of the memory is held there
  sim_there : (st : State) (s : CodeState) (place : ℕ) → g.held.holds (OpenAmong g alive) place st s.memory → Sim g alive st s → Sim g alive st (moved_to place s)
  sim_there st s place holds h = record { registers = h.registers; scalars = h.scalars; small = h.small; constants = h.constants; turns = h.turns; output = h.output; input = h.input; bytes = h.bytes; returns = h.returns; few = h.few; memory = holds }

  -- as it is behind the place
  pub sim_moved : (st : State) (s : CodeState) (place : ℕ) → s.at ≤ place → Sim g alive st s → Sim g alive st (moved_to place s)
  sim_moved st s place behind h = sim_there st s place (g.held.onward (OpenAmong g alive) s.at place st s.memory behind h.memory) h

  -- and where it lasts to where a jump leads
  pub sim_landed : (st : State) (s : CodeState) (at target : ℕ) (jump : Instr) → At g s at → StandsAt g.unit at jump → JumpsTo jump target → LastsTo g (OpenAmong g alive) g.held target → Sim g alive st s → Sim g alive st (moved_to (target + start g) s)
  sim_landed st s at target jump here stands leads lasts h = sim_there st s (target + start g) (lasts at jump stands leads st s.memory (subst (λ (n : ℕ). g.held.holds (OpenAmong g alive) n st s.memory) here h.memory)) h

  -- a jump
  pub jumps : (target : ℕ) (e : Draft) (s : CodeState) → Within g (with_instr (I.FrontJump target) e) → At g s (length e.code) → Reaches g s (moved_to (target + start g) s)
  unfolding begun step_of
  jumps target e s within here = one g s (moved_to (target + start g) s) (begins_here g (I.FrontJump target) e s within refl here) refl

  -- a jump where a word is zero, and one where it is not
  pub skips : (b : Bool) (x target : ℕ) (e : Draft) (s : CodeState) → nonzero (slice_index s.registers x) ≡ b → Within g (with_instr (I.FrontJumpZero x target) e) → At g s (length e.code) → Reaches g s (moved_to (if b then s.at + 1 else target + start g) s)
  unfolding begun step_of
  skips b x target e s is within here =
      one g s (moved_to (if b then s.at + 1 else target + start g) s) (begins_here g (I.FrontJumpZero x target) e s within refl here ∙ ap (λ (n : ℕ). Goes (moved_to n s)) (by (slice_index s.registers x == 0) b is)) refl
    where
      by : (z b : Bool) → not z ≡ b → (if z then target + start g else s.at + 1) ≡ (if b then s.at + 1 else target + start g)
      by true true e = cc
      by true false e = refl
      by false true e = refl
      by false false e = cc

  pub returns_to : (b : Bool) (x target : ℕ) (e : Draft) (s : CodeState) → nonzero (slice_index s.registers x) ≡ b → Within g (with_instr (I.FrontJumpNonzero x target) e) → At g s (length e.code) → Reaches g s (moved_to (if b then target + start g else s.at + 1) s)
  unfolding begun step_of
  returns_to b x target e s is within here =
      one g s (moved_to (if b then target + start g else s.at + 1) s) (begins_here g (I.FrontJumpNonzero x target) e s within refl here ∙ ap (λ (c : Bool). Goes (jumped c (target + start g) s)) is) refl

  -- a turn with none left, and one that is spent
  pub stops : (e : Draft) (s : CodeState) (st : State) → Within g (with_instr I.FrontTurn e) → At g s (length e.code) → Sim g alive st s → st.turns ≡ 0 → Finishes g Source.Stopped st s
  unfolding begun step_of
  stops e s st within here sim none =
      let zero_left : (s.turns == 0) ≡ true = let t = sim.turns in grind (arith, nat_tests, t, none) in
      record {
        t = s;
        ends = ends_now g s s Machine.Stopped (begins_here g I.FrontTurn e s within refl here ∙ ap (λ (b : Bool). if b then Ends Machine.Stopped s else Goes (record s { at = s.at + 1; turns = s.turns - 1 })) zero_left);
        turns = sim.turns;
        output = sim.output;
        input = sim.input;
        memory = g.held.finally (OpenAmong g alive) s.at st s.memory sim.memory;
      }

  -- the state behind a turn
  abbrev pub behind_turn : CodeState → ℕ → CodeState
  behind_turn s left = record s { at = s.at + 1; turns = left }

  pub spends : (e : Draft) (s : CodeState) (st : State) (left : ℕ) → Within g (with_instr I.FrontTurn e) → At g s (length e.code) → Sim g alive st s → st.turns ≡ suc left → Reaches g s (behind_turn s left)
  unfolding begun step_of
  spends e s st left within here sim some =
      let some_left : (s.turns == 0) ≡ false = let t = sim.turns in grind (arith, nat_tests, t, some) in
      let one_less : s.turns - 1 ≡ left = omega (arith, sim.turns, some) in
      one g s (behind_turn s left) (begins_here g I.FrontTurn e s within refl here ∙ ap (λ (b : Bool). if b then Ends Machine.Stopped s else Goes (record s { at = s.at + 1; turns = s.turns - 1 })) some_left
      ∙ ap (λ (n : ℕ). Goes (behind_turn s n)) one_less) refl

  pub sim_spent : (st : State) (s : CodeState) (left : ℕ) → st.turns ≡ suc left → Sim g alive st s → Sim g alive (record st { turns = left }) (behind_turn s left)
  sim_spent st s left some h = record { registers = h.registers; scalars = h.scalars; small = h.small; constants = h.constants; turns = refl; output = h.output; input = h.input; bytes = h.bytes; returns = h.returns; few = let m = h.few in omega (arith, m, some); memory = g.held.still (OpenAmong g alive) (s.at + 1) st (record st { turns = left }) s.memory ((λ k e p. refl), (λ k is_open e p. refl)) refl (g.held.onward (OpenAmong g alive) s.at (s.at + 1) st s.memory (omega arith) h.memory) }
