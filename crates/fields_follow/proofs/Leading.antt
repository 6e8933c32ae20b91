-- The course of code on which contexts are saved and loaded, and other positions become active.
use Rattle.std.proofs.Common.{◌≡◌, ◌∙◌, ℕ, ◌+◌, ◌<◌, ◌≤◌, ◌⊎◌, inl, inr, Bool, true, not, List, [], ◌∷◌, length, slice_index, refl, sym, ap, subst, arith}
use Rattle.std.specs.Int.{from_bool}
use Rattle.cstar_tree.specs.declared.typed.Variable.{Variable}
use Rattle.lower_base.specs.Drafts.{Draft, Plain, step as step_of, with_instr}
use Rattle.paris_code.specs.declared.instr.Instr.{Instr}
use Rattle.paris_code.specs.declared.instr.Instr.TheVariants as I
use Rattle.paris_code.specs.declared.operands.Field.{Field}
use Rattle.paris_code.specs.declared.program.Owner.{Owner}
use Rattle.paris_code.specs.Code.{CodeState}
use Rattle.paris_code.specs.Memory.{BitMemory, is_tested, processors}
use Rattle.paris_code.specs.Spans.{IsNamedAt, fields_of}
use Rattle.source_meaning.specs.State.{State}
use Rattle.source_meaning.specs.Values.{Active, Scope, nonzero}
use Rattle.code_follows.proofs.Following.{Keeps, Ran, Sim, keeps_all}
use Rattle.code_follows.proofs.Growing.{Extended, as_it_was, extended}
use Rattle.code_follows.proofs.Settings.{OpenAmong, At, Reaches, Setting, Within, and_one, onto, stay}
use Rattle.fields_follow.proofs.Flags.{Stored, Turned, load_context, load_test, narrow_context, set_context, store_context, store_test, turn_context}
use Rattle.fields_follow.proofs.Instructions.{shapes}
use Rattle.fields_follow.proofs.Knowing.{HasKept, Keeping, KnowsFields, Lasts, both_kept, flags_kept, kept_open, sim_close, sim_open}
use Rattle.fields_follow.proofs.Leaving.{under}
use Rattle.fields_follow.proofs.Narrowing.{widened_beside, widened_there, among, among_active, among_beside, among_inactive, others, others_active, others_beside, others_inactive}
use Rattle.fields_follow.proofs.Places.{IsOwnField, PlacesFields, names_first, stands_here}
use Rattle.fields_follow.proofs.Values.{and_entry, with_entry}
use Rattle.source_meaning.specs.Narrowing.{widened as all_active}
use Rattle.fields_follow.proofs.Locals.{IsNoHome}

module _ (g : Setting) where
  -- an instruction that stands next names its only field
  pub named_next : (i : Instr) (saved : Field) (e : Draft) → Within g (with_instr i e) → step_of i ≡ Plain i → fields_of i ≡ saved ∷ [] → IsNamedAt g.unit saved.offset (length e.code)
  named_next i saved e within plain names = names_first g i saved [] (length e.code) (stands_here g i e within plain) names

  -- the test flags of a set tell, where it is active, whether these numbers are not zero
  abbrev pub TestsAre : ℕ → Active → (ℕ → ℕ) → BitMemory → Type 0
  TestsAre shape a v m = (p : ℕ) → p < processors (shapes g) shape → a shape p ≡ true → is_tested (shapes g) m shape p ≡ nonzero (v p)

  -- a saved context says where its set is active, a kept test where numbers are not zero and it is active
  abbrev pub context_kept : Active → Field → Keeping
  context_kept a saved = flags_kept g saved (λ p. Unit {0}) (λ p. a saved.set p)

  abbrev pub HasContext : Active → Field → BitMemory → Type 0
  HasContext a saved m = (context_kept a saved).has m

  abbrev pub tests_kept : Active → (ℕ → ℕ) → Field → Keeping
  tests_kept a v holds = flags_kept g holds (λ p. a holds.set p ≡ true) (λ p. nonzero (v p))

  abbrev pub HasTests : Active → (ℕ → ℕ) → Field → BitMemory → Type 0
  HasTests a v holds m = (tests_kept a v holds).has m

module _ (g : Setting) (scope : Scope) (active : Active) (known : KnowsFields g scope active) (alive : Variable → Type 0) where
  abbrev places : PlacesFields g
  places = known.places

  -- The code from one draft to another has led from a state to another, where these positions are active and this is
  -- kept of the memory.
  pub record Led (a : Active) (kept : BitMemory → Type 0) (d e : Draft) (s : CodeState) (u : State) : Type 0 where
    pub grown : (n : ℕ) × Extended d n e
    pub t : CodeState
    pub go : Reaches g s t
    pub at : At g t (length e.code)
    pub sim : Sim (under g a) alive u t
    pub has : kept t.memory
    pub keeps : Keeps g d s t

  pub led_nowhere : (d : Draft) (s : CodeState) (u : State) → At g s (length d.code) → Sim g alive u s → Led active (HasKept g alive known.kept) d d s u
  led_nowhere d s u at sim = record { grown = (0, as_it_was d); t = s; go = stay g s; at = at; sim = sim_open g scope active known alive u s sim; has = kept_open g scope active known alive u s sim; keeps = keeps_all g d s }

  pub led_ran : (kept : BitMemory → Type 0) (d e : Draft) (s : CodeState) (u : State) → ((m : BitMemory) → kept m → HasKept g alive known.kept m) → Led active kept d e s u → Ran g alive d s u e
  led_ran kept d e s u weaker x = record { grown = x.grown; t = x.t; go = x.go; at = x.at; sim = sim_close g scope active known alive u x.t x.sim (weaker x.t.memory x.has); keeps = x.keeps }

  pub led_weaker : (a : Active) (kept fewer : BitMemory → Type 0) (d e : Draft) (s : CodeState) (u : State) → ((m : BitMemory) → kept m → fewer m) → Led a kept d e s u → Led a fewer d e s u
  led_weaker a kept fewer d e s u weaker x = record { grown = x.grown; t = x.t; go = x.go; at = x.at; sim = x.sim; has = weaker x.t.memory x.has; keeps = x.keeps }

  -- an entry more is no code
  pub led_entry : (a : Active) (kept : BitMemory → Type 0) (set len : ℕ) (owner : Owner) (d e : Draft) (s : CodeState) (u : State) → Led a kept d e s u → Led a kept d (with_entry set len owner e) s u
  led_entry a kept set len owner d e s u x = record { grown = (x.grown.0 + 0, extended d e (with_entry set len owner e) x.grown.0 0 x.grown.1 (and_entry set len owner e)); t = x.t; go = x.go; at = x.at; sim = x.sim; has = x.has; keeps = x.keeps }

  -- ---- instructions

  -- an instruction that writes flags of a set
  led_turned : (a b : Active) (kept other : BitMemory → Type 0) (i : Instr) (d e : Draft) (s : CodeState) (u : State) → (x : Led a kept d e s u) → (turned : Turned g places alive a b e i x.t u) → other turned.t.memory → Led b other d (with_instr i e) s u
  led_turned a b kept other i d e s u x turned has = record {
    grown = (x.grown.0 + 1, extended d e (with_instr i e) x.grown.0 1 x.grown.1 (and_one g i e));
    t = turned.t;
    go = onto g s x.t turned.t x.go turned.go;
    at = turned.at;
    sim = turned.sim;
    has = has;
    keeps = λ r kept_so. ap (λ (registers : List ℕ). slice_index registers r) turned.registers ∙ x.keeps r kept_so;
  }

  -- leaves what lasts
  turned_lasts : (a b : Active) (kept : Keeping) (from entries upto : ℕ) (i : Instr) (e : Draft) (s : CodeState) (u : State) → Lasts g from entries upto kept → (turned : Turned g places alive a b e i s u) → HasKept g alive kept s.memory → HasKept g alive kept turned.t.memory
  turned_lasts a b kept from entries upto i e s u lasts turned has = (lasts.code s.memory turned.t.memory (λ h first last p saved inside own ends before early after late. turned.stays h p ends) turned.go.below has.0, has.1)

  -- an instruction that stores flags in an own entry which is named behind it
  led_stored : (a : Active) (kept : Keeping) (tests : BitMemory → Type 0) (takes : ℕ → Type 0) (v : ℕ → ℕ) (flags : ℕ → Bool) (saved : Field) (i : Instr) (from entries upto later : ℕ) (d e : Draft) (s : CodeState) (u : State) → Lasts g from entries upto kept → from ≤ length e.code → entries ≤ saved.offset → length e.code < upto
      → IsNamedAt g.unit saved.offset later → length e.code < later → ((m other : BitMemory) → ((q p : ℕ) → is_tested (shapes g) other q p ≡ is_tested (shapes g) m q p) → tests m → tests other)
      → IsNoHome g (OpenAmong g alive) saved.offset → (x : Led a (λ m. HasKept g alive kept m × tests m) d e s u) → Stored g places alive a saved.set saved e i x.t u takes v → ((p : ℕ) → p < processors (shapes g) saved.set → takes p → v p ≡ from_bool (flags p)) → Led a (λ m. HasKept g alive (both_kept kept (flags_kept g saved takes flags)) m × tests m) d (with_instr i e) s u
  led_stored a kept tests takes v flags saved i from entries upto later d e s u lasts low newer high named behind same none x stored is = record {
    grown = (x.grown.0 + 1, extended d e (with_instr i e) x.grown.0 1 x.grown.1 (and_one g i e));
    t = stored.t;
    go = onto g s x.t stored.t x.go stored.go;
    at = stored.at;
    sim = stored.sim;
    has = (
      (
        (
          lasts.code x.t.memory stored.t.memory (λ h first last p old inside own ends before early after late.
              stored.stays h first last later p (λ alike. omega (arith, alike, inside, newer)) own before after (omega (arith, early, low)) (omega (arith, late, high)) named behind) stored.go.below x.has.0.0,
          λ p below taken. stored.has p below taken ∙ is p below taken,
        ),
        λ entry old. apart entry old,
      ),
      same x.t.memory stored.t.memory stored.tests x.has.1,
    );
    keeps = λ r kept_so. ap (λ (registers : List ℕ). slice_index registers r) stored.registers ∙ x.keeps r kept_so;
  }
    where
      apart : (entry : ℕ) → kept.saved entry ⊎ (entry ≡ saved.offset) → IsNoHome g (OpenAmong g alive) entry
      apart entry (inl old) = x.has.0.1 entry old
      apart entry (inr same) = subst (λ (n : ℕ). IsNoHome g (OpenAmong g alive) n) (sym same) none

  module _ (a : Active) (kept : Keeping) (from entries upto : ℕ) (lasts : Lasts g from entries upto kept) (d e : Draft) (s : CodeState) (u : State) where
    -- the context of a set is saved
    pub saves_context : (tests : BitMemory → Type 0) (saved : Field) (later : ℕ) → from ≤ length e.code → entries ≤ saved.offset → length e.code < upto → IsOwnField g saved → IsNoHome g (OpenAmong g alive) saved.offset → saved.len ≡ 1 → IsNamedAt g.unit saved.offset later → length e.code < later
        → ((m other : BitMemory) → ((q p : ℕ) → is_tested (shapes g) other q p ≡ is_tested (shapes g) m q p) → tests m → tests other) → Within g (with_instr (I.StoreContext saved) e)
        → Led a (λ m. HasKept g alive kept m × tests m) d e s u → Led a (λ m. HasKept g alive (both_kept kept (context_kept g a saved)) m × tests m) d (with_instr (I.StoreContext saved) e) s u
    saves_context tests saved later low newer high own none bit named behind same within x =
        led_stored a kept tests (λ p. Unit {0}) (λ p. from_bool (a saved.set p)) (λ p. a saved.set p) saved (I.StoreContext saved) from entries upto later d e s u lasts low newer high named behind same none x
        (store_context g places alive a saved.set saved e x.t u own none bit refl within x.at x.sim) (λ p below taken. refl)

    -- the test flags of a set are kept, at the active positions
    pub keeps_tests : (v : ℕ → ℕ) (holds : Field) (later : ℕ) → from ≤ length e.code → entries ≤ holds.offset → length e.code < upto → IsOwnField g holds → IsNoHome g (OpenAmong g alive) holds.offset → holds.len ≡ 1 → IsNamedAt g.unit holds.offset later → length e.code < later → Within g (with_instr (I.StoreTest holds) e)
        → Led a (λ m. HasKept g alive kept m × TestsAre g holds.set a v m) d e s u → Led a (λ m. HasKept g alive (both_kept kept (tests_kept g a v holds)) m × TestsAre g holds.set a v m) d (with_instr (I.StoreTest holds) e) s u
    keeps_tests v holds later low newer high own none bit named behind within x =
        led_stored a kept (TestsAre g holds.set a v) (λ p. a holds.set p ≡ true) (λ p. from_bool (is_tested (shapes g) x.t.memory holds.set p)) (λ p. nonzero (v p)) holds (I.StoreTest holds) from entries upto later d e s u lasts low newer high named behind
        (λ m other same tests p below on. same holds.set p ∙ tests p below on) none x (store_test g places alive a holds.set holds e x.t u own none bit refl within x.at x.sim) (λ p below on. ap from_bool (x.has.1 p below on))

    -- positions where the numbers are zero become inactive, or those where they are not
    pub narrows : (shape : ℕ) (v : ℕ → ℕ) → Within g (with_instr (I.LogandContextWithTest shape) e) → Led a (λ m. HasKept g alive kept m × TestsAre g shape a v m) d e s u → Led (among shape v a) (HasKept g alive kept) d (with_instr (I.LogandContextWithTest shape) e) s u
    narrows shape v within x =
        let turned = narrow_context g places alive a shape e x.t u (among shape v a) (λ p below on. among_active shape v a p on ∙ sym (x.has.1 p below on)) (λ p below off. among_inactive shape v a p off) (λ q p differ. among_beside shape v a q p differ) within x.at x.sim in
        led_turned a (among shape v a) (λ m. HasKept g alive kept m × TestsAre g shape a v m) (HasKept g alive kept) (I.LogandContextWithTest shape) d e s u x turned (turned_lasts a (among shape v a) kept from entries upto (I.LogandContextWithTest shape) e x.t u lasts turned x.has.0)

    pub turns : (shape : ℕ) (v : ℕ → ℕ) → Within g (with_instr (I.LogandcContextWithTest shape) e) → Led a (λ m. HasKept g alive kept m × TestsAre g shape a v m) d e s u → Led (others shape v a) (HasKept g alive kept) d (with_instr (I.LogandcContextWithTest shape) e) s u
    turns shape v within x =
        let turned = turn_context g places alive a shape e x.t u (others shape v a) (λ p below on. others_active shape v a p on ∙ ap not (sym (x.has.1 p below on))) (λ p below off. others_inactive shape v a p off) (λ q p differ. others_beside shape v a q p differ) within x.at x.sim in
        led_turned a (others shape v a) (λ m. HasKept g alive kept m × TestsAre g shape a v m) (HasKept g alive kept) (I.LogandcContextWithTest shape) d e s u x turned (turned_lasts a (others shape v a) kept from entries upto (I.LogandcContextWithTest shape) e x.t u lasts turned x.has.0)

    -- all positions of a set become active
    pub widens : (shape : ℕ) → Within g (with_instr (I.SetContext shape) e) → Led a (HasKept g alive kept) d e s u → Led (all_active shape a) (HasKept g alive kept) d (with_instr (I.SetContext shape) e) s u
    widens shape within x =
        let turned = set_context g places alive a shape e x.t u (all_active shape a) (λ p below. widened_there shape a p) (λ q p differ. widened_beside shape a q p differ) within x.at x.sim in
        led_turned a (all_active shape a) (HasKept g alive kept) (HasKept g alive kept) (I.SetContext shape) d e s u x turned (turned_lasts a (all_active shape a) kept from entries upto (I.SetContext shape) e x.t u lasts turned x.has)

    -- a saved context is loaded
    pub loads_context : (b : Active) (saved : Field) → ((m : BitMemory) → kept.has m → HasContext g b saved m) → ((q p : ℕ) → (q ≡ saved.set → ⊥) → b q p ≡ a q p) → Within g (with_instr (I.LoadContext saved) e) → Led a (HasKept g alive kept) d e s u → Led b (HasKept g alive kept) d (with_instr (I.LoadContext saved) e) s u
    loads_context b saved has beside within x =
        let turned = load_context g places alive a saved.set saved e x.t u b refl (λ p below. has x.t.memory x.has.0 p below tt) beside within x.at x.sim in
        led_turned a b (HasKept g alive kept) (HasKept g alive kept) (I.LoadContext saved) d e s u x turned (turned_lasts a b kept from entries upto (I.LoadContext saved) e x.t u lasts turned x.has)

    -- kept test flags are loaded
    pub loads_tests : (v : ℕ → ℕ) (holds : Field) → ((m : BitMemory) → kept.has m → HasTests g a v holds m) → Within g (with_instr (I.LoadTest holds) e) → Led a (HasKept g alive kept) d e s u → Led a (λ m. HasKept g alive kept m × TestsAre g holds.set a v m) d (with_instr (I.LoadTest holds) e) s u
    loads_tests v holds has within x =
        let loaded = load_test g places alive a holds.set holds e x.t u (λ p. nonzero (v p)) refl (λ p below on. has x.t.memory x.has.0 p below on) within x.at x.sim in
        led_turned a a (HasKept g alive kept) (λ m. HasKept g alive kept m × TestsAre g holds.set a v m) (I.LoadTest holds) d e s u x loaded.0 (turned_lasts a a kept from entries upto (I.LoadTest holds) e x.t u lasts loaded.0 x.has, loaded.1)
