-- What code leaves that is of an update, the unit's code follows: what is kept of the memory lasts over it.
use Rattle.std.proofs.Common.{ℕ, length}
use Rattle.cstar_tree.specs.declared.typed.Variable.{Variable}
use Rattle.cstar_tree.specs.declared.typed.Variable.TheVariants as V
use Rattle.lower_base.specs.Drafts.{Draft}
use Rattle.paris_code.specs.Code.{CodeState}
use Rattle.source_meaning.specs.State.{State}
use Rattle.source_meaning.specs.Values.{Active, Scope}
use Rattle.code_follows.proofs.Following.{Ran, Sim}
use Rattle.code_follows.proofs.Settings.{At, Begun, Reaches, Setting, Within}
use Rattle.fields_follow.proofs.Knowing.{HasKept, KnowsFields, StaysNamed, kept_open, lasts_within, sim_close}
use Rattle.fields_follow.proofs.Leaving.{Leaves, keeps_again, reaches_again, under}
use Rattle.fields_follow.proofs.Starts.{Starts}

module _ (g : Setting) (scope : Scope) (active : Active) (known : KnowsFields g scope active) (alive : Variable → Type 0) (d : Draft) (s : CodeState) (st : State) (begun : Begun g alive d) (at_place : At g s (length d.code)) (files : (k : ℕ) → alive (V.File k)) (sim : Sim g alive st s) where
  -- the code starts there
  pub starts_there : Starts (under g active) alive s (length d.code) d.regs (length d.fields)
  starts_there = record { stands = at_place; free = begun.regs; low = begun.code; files = files; opened = begun.opened }

  -- what is kept of the memory lasts over code behind the draft
  pub kept_behind : (f : Draft) (t : CodeState) → Within g f → Reaches (under g active) s t → StaysNamed g known.kept.saved (length d.code) (length d.fields) (length f.code) s.memory t.memory → HasKept g alive known.kept t.memory
  kept_behind f t within go stays =
      let kept = kept_open g scope active known alive st s sim in
      ((lasts_within g g.from g.entries g.upto (length d.code) (length d.fields) (length f.code) known.kept begun.code begun.fields within.upto known.lasts).code s.memory t.memory stays go.below kept.0, kept.1)

  -- what code leaves that is of an update, the unit's code follows
  pub leaves_ran : (f : Draft) (u : State) → Within g f → Leaves (under g active) alive d f s u → Ran g alive d s u f
  leaves_ran f u within l = record {
    grown = l.grown;
    t = l.t;
    go = reaches_again g active l.go;
    at = l.at.stands;
    sim = sim_close g scope active known alive u l.t l.sim (kept_behind f l.t within l.go (λ h first last p saved. l.stays h first last p ((kept_open g scope active known alive st s sim).1 h.offset saved)));
    keeps = keeps_again g active d s l.t l.registers;
  }
