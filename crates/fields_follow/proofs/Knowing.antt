-- What is known of a unit under contexts: which positions are active, and that the memory keeps the contexts that are
-- saved beside the numbers of the file's variables.
use Rattle.std.proofs.Common.{◌≡◌, ◌∙◌, ℕ, ◌<◌, ◌≤◌, ◌⊎◌, inl, inr, Bool, length, refl, arith}
use Rattle.std.specs.Int.{from_bool}
use Rattle.cstar_tree.specs.declared.typed.TExpr.{TExpr}
use Rattle.cstar_tree.specs.declared.typed.VarInfo.{VarInfo}
use Rattle.cstar_tree.specs.declared.typed.Variable.{Variable}
use Rattle.lower_base.specs.Drafts.{Draft}
use Rattle.paris_code.specs.declared.instr.Instr.TheVariants as I
use Rattle.paris_code.specs.declared.operands.Field.{Field}
use Rattle.paris_code.specs.Code.{CodeState}
use Rattle.paris_code.specs.Memory.{BitMemory, field_number, processors}
use Rattle.paris_code.specs.Spans.{IsNamedAt, StandsAt}
use Rattle.source_meaning.specs.Programs.{calls}
use Rattle.source_meaning.specs.State.{Early, State}
use Rattle.source_meaning.specs.Values.{Active, Scope}
use Rattle.code_follows.proofs.Besides.{sim_saying, under_held}
use Rattle.code_follows.proofs.Following.{Finishes, IsKept, Sim}
use Rattle.code_follows.proofs.Settings.{OpenAmong, Held, SameBelow, Setting, Within}
use Rattle.fields_follow.specs.Fragment.{IsCondition, IsParallelVariable, IsFold, IsOfFileOrBlock, IsParallelEffect}
use Rattle.fields_follow.proofs.Fields.{HoldsNumbers, fields_held}
use Rattle.fields_follow.proofs.Instructions.{SameExtents, place, shapes}
use Rattle.fields_follow.proofs.Leaving.{EndsBelow, under}
use Rattle.fields_follow.proofs.Places.{IsOwnField, PlacesFields}
use Rattle.fields_follow.proofs.Locals.{IsNoHome, locals_again}

-- What is kept of the memory, and the own entries in which that stands.
pub record Keeping : Type 1 where
  pub saved : ℕ → Type 0
  pub has : BitMemory → Type 0

-- both of these
abbrev pub both_kept : Keeping → Keeping → Keeping
both_kept one two = record { saved = λ entry. one.saved entry ⊎ two.saved entry; has = λ m. one.has m × two.has m }

module _ (g : Setting) where
  -- it is kept, and stands in no entry of a variable of a block that is open
  abbrev pub IsKeptBeside : (ℕ → Type 0) → Keeping → BitMemory → Type 0
  IsKeptBeside live kept m = kept.has m × ((entry : ℕ) → kept.saved entry → IsNoHome g live entry)

  -- of those that are alive
  abbrev pub HasKept : (Variable → Type 0) → Keeping → BitMemory → Type 0
  HasKept alive kept m = IsKeptBeside (OpenAmong g alive) kept m

  pub first_kept : (live : ℕ → Type 0) (one two : Keeping) (m : BitMemory) → IsKeptBeside live (both_kept one two) m → IsKeptBeside live one m
  first_kept live one two m kept = (kept.0.0, λ entry saved. kept.1 entry (inl saved))

  -- What code leaves that is between these places, where there are so many entries at first: what stands in these own
  -- entries that are named before it and behind it.
  abbrev pub StaysNamed : (ℕ → Type 0) → ℕ → ℕ → ℕ → BitMemory → BitMemory → Type 0
  StaysNamed saved from entries upto m other =
      (h : Field) (first last p : ℕ) → saved h.offset → h.offset < entries → IsOwnField g h → EndsBelow g h → IsNamedAt g.unit h.offset first → first < from → IsNamedAt g.unit h.offset last → upto ≤ last → field_number other (place g h) p ≡ field_number m (place g h) p

  -- So this lasts there: over such code, where that leaves what stands below the unit's entries, and over what is called
  -- from there, where that leaves what stands below its own.
  pub record Lasts (from entries upto : ℕ) (kept : Keeping) : Type 0 where
    pub below : (entry : ℕ) → kept.saved entry → entry < entries
    pub code : (m other : BitMemory) → StaysNamed kept.saved from entries upto m other → SameBelow g.image g.placed g.number m other → kept.has m → kept.has other
    pub calls : (index at : ℕ) → StandsAt g.unit at (I.FrontCall index) → from ≤ at → at < upto → (m other : BitMemory) → SameBelow g.image g.placed index m other → kept.has m → kept.has other

  pub lasts_within : (from entries upto first fields last : ℕ) (kept : Keeping) → from ≤ first → entries ≤ fields → last ≤ upto → Lasts from entries upto kept → Lasts first fields last kept
  lasts_within from entries upto first fields last kept low more high lasts = record {
    below = λ entry saved. let low = lasts.below entry saved in omega (arith, low, more);
    code = λ m other stays. lasts.code m other (λ h one two p saved below own ends before early after late. stays h one two p saved (omega (arith, below, more)) own ends before (omega (arith, early, low)) after (omega (arith, late, high)));
    calls = λ index at stands early late. lasts.calls index at stands (omega (arith, low, early)) (omega (arith, late, high));
  }

  pub lasts_both : (from entries upto : ℕ) (one two : Keeping) → Lasts from entries upto one → Lasts from entries upto two → Lasts from entries upto (both_kept one two)
  lasts_both from entries upto one two a b = record {
    below = λ entry saved. by entry saved;
    code = λ m other stays same both. (a.code m other (λ h first last p saved. stays h first last p (inl saved)) same both.0, b.code m other (λ h first last p saved. stays h first last p (inr saved)) same both.1);
    calls = λ index at stands low high m other same both. (a.calls index at stands low high m other same both.0, b.calls index at stands low high m other same both.1);
  }
    where
      by : (entry : ℕ) → one.saved entry ⊎ two.saved entry → entry < entries
      by entry (inl saved) = a.below entry saved
      by entry (inr saved) = b.below entry saved

  -- a field has flags at some positions
  abbrev pub HasFlags : Field → (ℕ → Type 0) → (ℕ → Bool) → BitMemory → Type 0
  HasFlags f takes flags m = (p : ℕ) → p < processors (shapes g) f.set → takes p → field_number m (place g f) p ≡ from_bool (flags p)

  abbrev pub flags_kept : Field → (ℕ → Type 0) → (ℕ → Bool) → Keeping
  flags_kept f takes flags = record { saved = λ entry. entry ≡ f.offset; has = HasFlags f takes flags }

  pub flags_last : PlacesFields g → (f : Field) (takes : ℕ → Type 0) (flags : ℕ → Bool) (first last from entries upto : ℕ) → IsOwnField g f → f.set < length (shapes g) → EndsBelow g f → f.offset < entries → IsNamedAt g.unit f.offset first → first < from → IsNamedAt g.unit f.offset last → upto ≤ last → Lasts from entries upto (flags_kept f takes flags)
  flags_last places f takes flags first last from entries upto own exists ends inside before low after high = record {
    below = λ entry is. let same = is in omega (arith, same, inside);
    code = λ m other stays same has p below taken. stays f first last p refl inside own ends before low after high ∙ has p below taken;
    calls = λ index at stands early late m other same has p below taken.
        same (place g f) p (places.own_below_called f first at index own exists ends before (omega (arith, low, early)) (λ span held. let most = (held.named last after).1 in omega (arith, late, high, most)) stands) ∙ has p below taken;
  }

  -- where these positions are active, the memory holds the numbers of the file's variables, and this is kept of it
  abbrev pub held_under : Active → Keeping → Held
  held_under a kept = record {
    holds = λ live at st m. (fields_held g a).holds live at st m × IsKeptBeside live kept m;
    ends = HoldsNumbers g.typed g.image;
    finally = λ live at st m h. h.0.0.numbers;
    still = λ live at st u m same winner h. ((fields_held g a).still live at st u m same winner h.0, h.1);
    onward = λ live at to st m behind h. ((fields_held g a).onward live at to st m behind h.0, h.1);
    fewer = λ more less at st m among h. ((fields_held g a).fewer more less at st m among h.0, (h.1.0, λ entry saved k home living. h.1.1 entry saved k home (among k living)));
  }

-- What is known of a unit of such a program, where these positions are active: calls mean what the source says of as many
-- turns as are left at most, and what is kept of the memory beside the fields of the file lasts as long as the code of
-- which the setting speaks.
pub record KnowsFields (g : Setting) (scope : Scope) (a : Active) : Type 1 where
  pub places : PlacesFields g
  pub same_extents : SameExtents g scope
  pub meant : scope.call ≡ calls g.typed g.most
  pub effects : (e : TExpr) → g.may.beside.effects e → IsParallelEffect e
  pub folds : (e : TExpr) → g.may.beside.folds e → IsFold e
  pub positions : (x : Variable) → g.may.beside.positions x → IsOfFileOrBlock x
  pub conditions : (set : ℕ) (e : TExpr) → g.may.beside.conditions set e → IsCondition set e
  pub locals : (info : VarInfo) → g.may.beside.locals info → IsParallelVariable info
  pub kept : Keeping
  pub lasts : Lasts g g.from g.entries g.upto kept
  pub opens : (live : ℕ → Type 0) (at : ℕ) (st : State) (m : BitMemory) → g.held.holds live at st m → (fields_held g a).holds live at st m × IsKeptBeside g live kept m
  pub closes : (live : ℕ → Type 0) (at : ℕ) (st : State) (m : BitMemory) → (fields_held g a).holds live at st m → IsKeptBeside g live kept m → g.held.holds live at st m
  pub ends : (st : State) (m : BitMemory) → HoldsNumbers g.typed g.image st m → g.held.ends st m

module _ (g : Setting) (scope : Scope) (a : Active) (k : KnowsFields g scope a) where
  -- the state agrees with the source where the memory has these fields, and keeps what is kept
  pub sim_open : (alive : Variable → Type 0) (st : State) (s : CodeState) → Sim g alive st s → Sim (under g a) alive st s
  sim_open alive st s h = sim_saying g alive st s s.at s.memory (k.opens (OpenAmong g alive) s.at st s.memory h.memory).0 h

  pub kept_open : (alive : Variable → Type 0) (st : State) (s : CodeState) → Sim g alive st s → HasKept g alive k.kept s.memory
  kept_open alive st s h = (k.opens (OpenAmong g alive) s.at st s.memory h.memory).1

  pub sim_close : (alive : Variable → Type 0) (st : State) (s : CodeState) → Sim (under g a) alive st s → HasKept g alive k.kept s.memory → Sim g alive st s
  sim_close alive st s h kept = sim_saying g alive st s s.at s.memory (k.closes (OpenAmong g alive) s.at st s.memory h.memory kept) h

  -- ---- a part under one context more

  module _ (b : Active) (kept : Keeping) (from entries upto : ℕ) where
    abbrev pub inner : Setting
    inner = under_held g (held_under g b kept) from entries upto

    pub knows_inner : Lasts g from entries upto kept → KnowsFields inner scope b
    knows_inner lasts = record {
      places = let p = k.places in record { ends = p.ends; scans = p.scans; exists = p.exists; files_end = p.files_end; file = p.file; files_apart = p.files_apart; own_file = p.own_file; owns_apart = p.owns_apart; owns_apart_at = p.owns_apart_at; own_and_below = p.own_and_below; file_and_below = p.file_and_below; own_below_called = p.own_below_called; few = p.few; address_ends = p.address_ends; geometry = p.geometry; grids = p.grids };
      same_extents = k.same_extents;
      meant = k.meant;
      effects = k.effects;
      folds = k.folds;
      positions = k.positions;
      conditions = k.conditions;
      locals = k.locals;
      kept = kept;
      lasts = record { below = lasts.below; code = lasts.code; calls = lasts.calls };
      opens = λ live at st m h. ((h.0.0, locals_again g live at st m h.0.1), h.1);
      closes = λ live at st m holds has. ((holds.0, locals_again g live at st m holds.1), has);
      ends = λ st m h. h;
    }

    pub within_inner : (e : Draft) → length e.code ≤ upto → Within g e → Within inner e
    within_inner e high w = record { more = w.more; code = w.code; entries = w.entries; fields = w.fields; homes = w.homes; homes_are = w.homes_are; regs = w.regs; own = w.own; upto = high }

    pub sim_inner : (alive : Variable → Type 0) (st : State) (s : CodeState) → Sim (under g b) alive st s → HasKept g alive kept s.memory → Sim inner alive st s
    sim_inner alive st s h has = sim_saying g alive st s s.at s.memory (h.memory, has) h

    pub sim_outer : (alive : Variable → Type 0) (st : State) (s : CodeState) → Sim inner alive st s → Sim (under g b) alive st s
    sim_outer alive st s h = sim_saying g alive st s s.at s.memory h.memory.0 h

    pub finishes_outer : (early : Early) (st : State) (s : CodeState) → Finishes inner early st s → Finishes g early st s
    finishes_outer early st s f = record { t = f.t; ends = record { steps = f.ends.steps; is = f.ends.is }; turns = f.turns; output = f.output; input = f.input; memory = k.ends st f.t.memory f.memory }

    pub kept_inner : (d : Draft) (r : ℕ) → IsKept g d r → IsKept inner d r
    unfolding IsKept
    kept_inner d r h = h
