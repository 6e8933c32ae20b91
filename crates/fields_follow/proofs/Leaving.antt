-- What code of parallel statements leaves, and the same unit where other positions are active.
use Rattle.std.proofs.Common.{◌≡◌, ℕ, ◌+◌, ◌<◌, ◌≤◌, length}
use Rattle.cstar_tree.specs.declared.typed.TExpr.{TExpr}
use Rattle.cstar_tree.specs.declared.typed.Variable.{Variable}
use Rattle.lower_base.specs.Drafts.{Draft}
use Rattle.lower_expr.specs.Effects.{effect_of}
use Rattle.paris_code.specs.declared.operands.Field.{Field}
use Rattle.paris_code.specs.Code.{CodeState}
use Rattle.paris_code.specs.Shapes.{bits_at}
use Rattle.paris_code.specs.Spans.{IsNamedAt}
use Rattle.source_meaning.specs.Expressions.{evaluated}
use Rattle.source_meaning.specs.State.{State}
use Rattle.source_meaning.specs.Values.{Active, Scope}
use Rattle.code_follows.proofs.Besides.{sim_saying, registers_under as registers_there}
use Rattle.code_follows.proofs.Following.{Follows, HasRegisters, IsKept, Keeps, Sim}
use Rattle.code_follows.proofs.Growing.{Extended}
use Rattle.code_follows.proofs.Settings.{OpenAmong, Reaches, Setting, Within, layout}
use Rattle.fields_follow.proofs.Fields.{fields_held}
use Rattle.fields_follow.proofs.Instructions.{SameExtents, number_in, place, shapes}
use Rattle.fields_follow.proofs.Places.{HoldsTheFields, IsOwnField, PlacesFields}
use Rattle.fields_follow.proofs.Starts.{Starts}
use Rattle.fields_follow.proofs.Locals.{IsNoHome, locals_again}

module _ (g : Setting) where
  -- the field ends below the flags of its set
  abbrev pub EndsBelow : Field → Type 0
  EndsBelow h = (place g h).offset + h.len ≤ bits_at (shapes g) h.set

  module _ (alive : Variable → Type 0) where
    -- The code from one draft to another leaves a state, the registers that are kept and, if its answer is used, what stands in own
    -- entries below the flags that are named before it and behind it; it may leave other test flags.
    pub record PassesTests (d e : Draft) (s : CodeState) (u : State) (used : Type 0) : Type 0 where
      pub grown : (n : ℕ) × Extended d n e
      pub t : CodeState
      pub go : Reaches g s t
      pub at : Starts g alive t (length e.code) e.regs (length e.fields)
      pub registers : Keeps g d s t
      pub sim : Sim g alive u t
      pub stays : used → (h : Field) (first last p : ℕ) → h.offset < length d.fields → IsOwnField g h → EndsBelow h → IsNamedAt g.unit h.offset first → first < length d.code → IsNamedAt g.unit h.offset last → length e.code ≤ last → number_in g h t p ≡ number_in g h s p

    -- The code of an update does so too, but for the entries of variables of blocks that are open.
    pub record Leaves (d e : Draft) (s : CodeState) (u : State) : Type 0 where
      pub grown : (n : ℕ) × Extended d n e
      pub t : CodeState
      pub go : Reaches g s t
      pub at : Starts g alive t (length e.code) e.regs (length e.fields)
      pub registers : Keeps g d s t
      pub sim : Sim g alive u t
      pub stays : (h : Field) (first last p : ℕ) → IsNoHome g (OpenAmong g alive) h.offset → h.offset < length d.fields → IsOwnField g h → EndsBelow h → IsNamedAt g.unit h.offset first → first < length d.code → IsNamedAt g.unit h.offset last → length e.code ≤ last → number_in g h t p ≡ number_in g h s p

    module _ (fields : HoldsTheFields g) where
      -- the code of an update leaves the state that it gives in the source
      abbrev pub UpdateLeaves : TExpr → Draft → CodeState → State → Type 0
      UpdateLeaves e d s st = Follows g (λ v u out f. Leaves d f s u) s (evaluated fields.scope e fields.active st) (effect_of g.typed (layout g) e d)

  -- the same unit where these positions are active
  abbrev pub under : Active → Setting
  under a = record g { held = fields_held g a }

  pub places_under : (a : Active) → PlacesFields g → PlacesFields (under a)
  places_under a p = record { ends = p.ends; scans = p.scans; exists = p.exists; files_end = p.files_end; file = p.file; files_apart = p.files_apart; own_file = p.own_file; owns_apart = p.owns_apart; owns_apart_at = p.owns_apart_at; own_and_below = p.own_and_below; file_and_below = p.file_and_below; own_below_called = p.own_below_called; few = p.few; address_ends = p.address_ends; geometry = p.geometry; grids = p.grids }

  -- what the memory holds of it is the fields' numbers
  abbrev pub fields_under : (a : Active) (scope : Scope) → SameExtents g scope → HoldsTheFields (under a)
  fields_under a scope same = record { scope = scope; same_extents = same; active = a; opens = λ live at st m h. h.0; locals = λ live at st m h. locals_again g live at st m h.1; closes = λ live at st m h held. (h, locals_again g live at st m held); ends = λ st m h. h }

  pub within_under : {d : Draft} (a : Active) → Within g d → Within (under a) d
  within_under a w = record { more = w.more; code = w.code; entries = w.entries; fields = w.fields; homes = w.homes; homes_are = w.homes_are; regs = w.regs; own = w.own; upto = w.upto }

  pub reaches_again : {s t : CodeState} (a : Active) → Reaches (under a) s t → Reaches g s t
  reaches_again a r = record { by = r.by; below = r.below }

  pub registers_under : (a : Active) → HasRegisters g → HasRegisters (under a)
  registers_under a h = registers_there g (fields_held g a) g.from g.entries g.upto h

  -- the code starts there as it does in the unit
  pub starts_under : (a : Active) (alive : Variable → Type 0) (s : CodeState) (place regs entries : ℕ) → Starts g alive s place regs entries → Starts (under a) alive s place regs entries
  starts_under a alive s place regs entries h = record { stands = h.stands; free = h.free; low = h.low; files = h.files; opened = h.opened }

  pub starts_again : (a : Active) (alive : Variable → Type 0) (s : CodeState) (place regs entries : ℕ) → Starts (under a) alive s place regs entries → Starts g alive s place regs entries
  starts_again a alive s place regs entries h = record { stands = h.stands; free = h.free; low = h.low; files = h.files; opened = h.opened }

  -- and it keeps the same registers
  pub keeps_again : (a : Active) (d : Draft) (s t : CodeState) → Keeps (under a) d s t → Keeps g d s t
  unfolding IsKept
  keeps_again a d s t keeps = keeps

-- what is so under one context and then another is so under the last
pub sim_last : (g : Setting) (a b : Active) (alive : Variable → Type 0) (st : State) (s : CodeState) → Sim (under (under g a) b) alive st s → Sim (under g b) alive st s
sim_last g a b alive st s h = sim_saying g alive st s s.at s.memory (h.memory.0, locals_again g (OpenAmong g alive) s.at st s.memory h.memory.1) h
