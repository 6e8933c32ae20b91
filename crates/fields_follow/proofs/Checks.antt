-- An instruction that checks and changes nothing: where nothing fails the code goes on behind it, and else it ends there.
use Rattle.std.proofs.Common.{◌≡◌, ℕ, ◌+◌, Option, Some, None, refl, ap, arith}
use Rattle.cstar_base.specs.declared.faults.RunFault.{RunFault}
use Rattle.cstar_base.specs.declared.operators.Place.{Place}
use Rattle.cstar_tree.specs.declared.typed.Variable.{Variable}
use Rattle.lower_base.specs.Drafts.{Draft, with_instr}
use Rattle.paris_code.specs.declared.instr.Instr.{Instr}
use Rattle.paris_code.specs.Code as Machine
use Rattle.paris_code.specs.Code.{CodeEnd, CodeState, Goes, Next, fault_at, replied, step}
use Rattle.paris_code.specs.Meaning.{bad_or_nothing}
use Rattle.source_meaning.specs.State as Source
use Rattle.source_meaning.specs.State.{State}
use Rattle.code_follows.proofs.Besides.{sim_saying}
use Rattle.code_follows.proofs.Following.{Finishes, finishes_later}
use Rattle.code_follows.proofs.Growing.{extended}
use Rattle.code_follows.proofs.Settings.{OpenAmong, Setting, and_one, at_next, code_more, ends_now, one, onto}
use Rattle.fields_follow.proofs.Passing.{Passes}
use Rattle.fields_follow.proofs.Starts.{starts_next}

-- what it replies
pub check_replies : (i : Instr) (fault : RunFault) (place : Place) (s : CodeState) → ((q : ℕ) → fault_at i q ≡ Machine.Fault fault place (Some q)) → (o : Option ℕ)
    → replied i s (bad_or_nothing o) ≡ (elim o as (λ _. Next) [ None ↦ Goes s | Some q ↦ Machine.Ends (Machine.Fault fault place (Some q)) s ])
check_replies i fault place s same None = refl
check_replies i fault place s same (Some q) = ap (λ (e : CodeEnd). Machine.Ends e s) (same q)

module _ (g : Setting) (alive : Variable → Type 0) (i : Instr) (bound : ℕ) (d e : Draft) (s : CodeState) (st : State) (p : Passes g alive bound d e s st (Unit {0})) where
  unfoldable pub check_passes : step g.image p.t ≡ Goes (Machine.onward p.t) → Passes g alive bound d (with_instr i e) s st (Unit {0})
  check_passes goes = record {
    grown = (p.grown.0 + 1, extended d e (with_instr i e) p.grown.0 1 p.grown.1 (and_one g i e));
    t = Machine.onward p.t;
    go = onto g s p.t (Machine.onward p.t) p.go (one g p.t (Machine.onward p.t) goes refl);
    at = starts_next g alive i e p.t (Machine.onward p.t) (at_next g i e p.t (p.t.at + 1) p.at.stands refl) p.at;
    registers = p.registers;
    sim = sim_saying g alive st p.t (p.t.at + 1) p.t.memory (g.held.onward (OpenAmong g alive) p.t.at (p.t.at + 1) st p.t.memory (omega arith) p.sim.memory) p.sim;
    stays = λ u h first last q below own ends before low after high. p.stays u h first last q below own ends before low after (let l = code_more g i e in omega (arith, high, l));
  }

  pub check_ends : (fault : RunFault) (place : Place) (q : ℕ) → step g.image p.t ≡ Machine.Ends (Machine.Fault fault place (Some q)) (Machine.onward p.t) → Finishes g (Source.Fault fault place (Some q)) st s
  check_ends fault place q ends =
      finishes_later g (Source.Fault fault place (Some q)) st s p.t p.go (record {
        t = Machine.onward p.t;
        ends = ends_now g p.t (Machine.onward p.t) (Machine.Fault fault place (Some q)) ends;
        turns = p.sim.turns;
        output = p.sim.output;
        input = p.sim.input;
        memory = g.held.finally (OpenAmong g alive) p.t.at st p.t.memory p.sim.memory;
      })
