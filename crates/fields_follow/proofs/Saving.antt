-- A context that is saved in an own entry is kept while a part runs, behind which it is loaded.
use Rattle.std.proofs.Common.{◌≡◌, ℕ, ◌+◌, ◌<◌, ◌≤◌, [], length, Option, Some, None, refl, subst, arith}
use Rattle.code_lengths.specs.Ready.{HasDeclared}
use Rattle.cstar_tree.specs.declared.typed.Variable.{Variable}
use Rattle.lower_base.specs.Drafts.{Draft, Made, Makes, step as step_of, with_instr}
use Rattle.lower_stmt.specs.Frames.{in_context}
use Rattle.paris_code.specs.declared.instr.Instr.TheVariants as I
use Rattle.paris_code.specs.declared.operands.Field.{Field}
use Rattle.paris_code.specs.Code.{CodeState}
use Rattle.paris_code.specs.Memory.{BitMemory}
use Rattle.paris_code.specs.Spans.{IsNamedAt}
use Rattle.source_meaning.specs.State.{Ends, Gives, Outcome, State}
use Rattle.source_meaning.specs.Statements.{Broke, Continued, Leaving, Onward, Returned}
use Rattle.source_meaning.specs.Values.{Active, Scope, Value}
use Rattle.code_follows.proofs.Besides.{sim_saying}
use Rattle.code_follows.proofs.Executing.{Exits, IsGiven, Jumped, Left, LeftSo, Returns, left_other, returns_from}
use Rattle.code_follows.proofs.Following.{Follows, Keeps, Ran, Sim, at_once, finishes_later, keeps_all, keeps_on, with_more}
use Rattle.code_follows.proofs.Growing.{Extended, as_it_was, extended}
use Rattle.code_follows.proofs.Parts.{Part, in_one_more}
use Rattle.code_follows.proofs.Restoring.{Inside}
use Rattle.code_follows.proofs.Settings.{OpenAmong, At, Begun, Held, Setting, Within, and_one, begun_later, onto, stay, layout}
use Rattle.fields_follow.proofs.Instructions.{shapes}
use Rattle.fields_follow.proofs.Knowing.{HasKept, IsKeptBeside, Keeping, KnowsFields, Lasts, both_kept, finishes_outer, first_kept, flags_last, inner, kept_inner, knows_inner, lasts_both, lasts_within, sim_inner, sim_outer, within_inner}
use Rattle.fields_follow.proofs.Leading.{HasContext, Led, context_kept, led_ran, loads_context}
use Rattle.fields_follow.proofs.Leaving.{EndsBelow}
use Rattle.fields_follow.proofs.Places.{IsOwnField, PlacesFields, stands_here}

module _ (g : Setting) (scope : Scope) (active : Active) (known : KnowsFields g scope active) (a : Active) (saved : Field) (kept : Keeping) (from entries upto : ℕ) (lasts : Lasts g from entries upto kept) (has : (m : BitMemory) → kept.has m → HasContext g active saved m)
    (weaker : (live : ℕ → Type 0) (m : BitMemory) → IsKeptBeside g live kept m → IsKeptBeside g live known.kept m) (beside : (q p : ℕ) → (q ≡ saved.set → ⊥) → active q p ≡ a q p) where
  -- from wherever this is kept under other positions, the context that is saved is loaded
  loads_back : (alive : Variable → Type 0) (h : Draft) (t : CodeState) (u : State) → At g t (length h.code) → Sim (inner g scope active known a kept from entries upto) alive u t → Within g (with_instr (I.LoadContext saved) h) → Jumped g alive g.held h t u (length (with_instr (I.LoadContext saved) h).code)
  loads_back alive h t u at sim within =
      let now : Led g scope active known alive a (HasKept g alive kept) h h t u =
      record { grown = (0, as_it_was h); t = t; go = stay g t; at = at; sim = sim_outer g scope active known a kept from entries upto alive u t sim; has = sim.memory.1; keeps = keeps_all g h t } in
      let back = led_ran g scope active known alive (HasKept g alive kept) h (with_instr (I.LoadContext saved) h) t u (weaker (OpenAmong g alive)) (loads_context g scope active known alive a kept from entries upto lasts h h t u active saved has beside within now) in
      record { t = back.t; go = back.go; at = back.at; sim = back.sim; keeps = back.keeps }

module _ (g : Setting) (scope : Scope) (active : Active) (known : KnowsFields g scope active) (alive : Variable → Type 0) where
  abbrev places : PlacesFields g
  places = known.places

  -- the field of a context is of a set that there is, and ends below its flags
  pub own_below : (saved : Field) (e : Draft) → Within g (with_instr (I.StoreContext saved) e) → (saved.set < length (shapes g)) × EndsBelow g saved
  unfolding step_of
  own_below saved e w = places.ends (length e.code) (I.StoreContext saved) saved [] (stands_here g (I.StoreContext saved) e w refl) refl tt refl

  -- that of tests ends there too
  pub test_below : (holds : Field) (e : Draft) → Within g (with_instr (I.StoreTest holds) e) → (holds.set < length (shapes g)) × EndsBelow g holds
  unfolding step_of
  test_below holds e w = places.ends (length e.code) (I.StoreTest holds) holds [] (stands_here g (I.StoreTest holds) e w refl) refl tt refl

  -- what is kept where the context of a set is saved
  abbrev pub Kept : Field → Keeping
  Kept saved = both_kept known.kept (context_kept g active saved)

  -- where it is kept, what was kept before is
  pub was_kept : (saved : Field) (live : ℕ → Type 0) (m : BitMemory) → IsKeptBeside g live (Kept saved) m → IsKeptBeside g live known.kept m
  was_kept saved live m has = first_kept g live known.kept (context_kept g active saved) m has

  -- it lasts between the places where that is saved and loaded
  pub kept_lasts : (saved : Field) (d : Draft) (first last from entries upto : ℕ) → Begun g alive d → length d.code ≤ from → length d.fields ≤ entries → upto ≤ g.upto → IsOwnField g saved → (saved.set < length (shapes g)) × EndsBelow g saved → saved.offset < entries → IsNamedAt g.unit saved.offset first → first < from → IsNamedAt g.unit saved.offset last → upto ≤ last
      → Lasts g from entries upto (Kept saved)
  kept_lasts saved d first last from entries upto begun low more high own below inside before early after late =
      lasts_both g from entries upto known.kept (context_kept g active saved)
      (lasts_within g g.from g.entries g.upto from entries upto known.kept (let b = begun.code in omega (arith, b, low)) (let b = begun.fields in omega (arith, b, more)) high known.lasts)
      (flags_last g known.places saved (λ p. Unit {0}) (λ p. active saved.set p) first last from entries upto own below.0 below.1 inside before early after late)

  -- how a part is left: at its end these positions are active, and this is kept
  abbrev pub LedLeft : Active → (BitMemory → Type 0) → Exits → Draft → CodeState → Leaving → State → ℕ → Draft → Type 0
  LedLeft a kept f d s leaving u m e = LeftSo g alive (λ v h. Led g scope active known alive a kept d h s v) f d s leaving u m e

  -- a part under one context more
  module _ (a : Active) (saved : Field) (kept : Keeping) (d begin e : Draft) (s : CodeState) (lasts : Lasts g (length begin.code) (length begin.fields) (length e.code) kept) where
    abbrev there : Setting
    there = inner g scope active known a kept (length begin.code) (length begin.fields) (length e.code)

    -- what is said of it is said of the unit
    module _ (u : State) (x : Led g scope active known alive a (HasKept g alive kept) d begin s u) where
      keeps_outer : (t : CodeState) → Keeps there begin x.t t → Keeps g d s t
      keeps_outer t keeps = keeps_on g d begin x.grown.0 s x.t t x.grown.1 x.keeps (λ r kept_so. keeps r (kept_inner g scope active known a kept (length begin.code) (length begin.fields) (length e.code) begin r kept_so))

      jumped_outer : (held : Held) (lives : Variable → Type 0) (v : State) (place : ℕ) → Jumped there lives held begin x.t v place → Jumped g lives held d s v place
      jumped_outer held lives v place j = record { t = j.t; go = onto g s x.t j.t x.go (record { by = j.go.by; below = j.go.below }); at = j.at; sim = sim_saying g lives v j.t j.t.at j.t.memory j.sim.memory j.sim; keeps = keeps_outer j.t j.keeps }

      given_outer : (lives : Variable → Type 0) (t : CodeState) (given : Option Value) → IsGiven there lives x.t t given → IsGiven g lives x.t t given
      unfolding IsGiven
      given_outer lives t None h = h
      given_outer lives t (Some v) h = h

      returns_outer : (held : Held) (lives : Variable → Type 0) (v : State) (given : Option Value) → Returns there lives held x.t v given → Returns g lives held s v given
      returns_outer held lives v given r =
          returns_from g lives held d s x.t v given x.go x.keeps (record { t = r.t; go = record { by = r.go.by; below = r.go.below }; sim = sim_saying g lives v r.t r.t.at r.t.memory r.sim.memory r.sim; leaves = r.leaves; spares = r.spares; given = given_outer lives r.t given r.given })

      -- so it follows, where what is kept lasts as long as its code
      pub part_leads : (f : Exits) (b n m : ℕ) (run : Active → State → Outcome Leaving) (code : Draft → Made ℕ) → Part KnowsFields g scope alive saved (in_one_more f) b m run code → code begin ≡ Makes m e → HasDeclared g.typed g.instance (layout g) b begin → Begun g alive d → Extended begin n e
          → ((m : BitMemory) → kept.has m → HasContext g active saved m) → ((live : ℕ → Type 0) (m : BitMemory) → IsKeptBeside g live kept m → IsKeptBeside g live known.kept m) → ((q p : ℕ) → (q ≡ saved.set → ⊥) → active q p ≡ a q p) → Follows g (LedLeft a (HasKept g alive kept) f d s) s (run a u) (Makes m e)
      unfolding Follows LeftSo in_context
      part_leads f b n m run code part is none free longer has weaker beside =
          at_once g (LedLeft a (HasKept g alive kept) f d s) s (run a u) m e (λ within.
          let begun : Begun g alive begin = begun_later g alive d begin x.grown.0 x.grown.1 free in
          let inside : Inside g saved there.held (length begin.code) (length begin.fields) (length e.code) =
          record { low = begun.code; more = begun.fields; high = within.upto; loads = λ every h t v at sim w. loads_back g scope active known a saved kept (length begin.code) (length begin.fields) (length e.code) lasts has weaker beside every h t v at sim w } in
          by (run a u) (subst (λ (made : Made ℕ). Follows there (Left there alive (in_one_more f) begin x.t) x.t (run a u) made) is
          (part.follows there.held (length begin.code) (length begin.fields) (length e.code) a inside (knows_inner g scope active known a kept (length begin.code) (length begin.fields) (length e.code) lasts) begin x.t u none
          (record { regs = begun.regs; code = omega arith; fields = omega arith; opened = begun.opened }) x.at (sim_inner g scope active known a kept (length begin.code) (length begin.fields) (length e.code) alive u x.t x.sim x.has))))
        where
          inwards : Within g e → Within there e
          inwards w = within_inner g scope active known a kept (length begin.code) (length begin.fields) (length e.code) e (omega arith) w

          by : (o : Outcome Leaving) → Follows there (Left there alive (in_one_more f) begin x.t) x.t o (Makes m e) → Follows g (LedLeft a (HasKept g alive kept) f d s) s o (Makes m e)
          by (Gives Onward v) h = λ w.
              let ran = h (inwards w) in
              record {
                grown = (x.grown.0 + ran.grown.0, extended d begin e x.grown.0 ran.grown.0 x.grown.1 ran.grown.1);
                t = ran.t;
                go = onto g s x.t ran.t x.go (record { by = ran.go.by; below = ran.go.below });
                at = ran.at;
                sim = sim_outer g scope active known a kept (length begin.code) (length begin.fields) (length e.code) alive v ran.t ran.sim;
                has = ran.sim.memory.1;
                keeps = keeps_outer ran.t ran.keeps;
              }
          by (Gives Broke v) h = λ w. jumped_outer f.loop f.lives v f.frame.after (h (inwards w))
          by (Gives Continued v) h = λ w. jumped_outer f.loop f.lives v f.frame.next (h (inwards w))
          by (Gives (Returned given) v) h = λ w. returns_outer f.all f.outer v given (h (inwards w))
          by (Ends early v) h = λ w. finishes_later g early v s x.t x.go (finishes_outer g scope active known a kept (length begin.code) (length begin.fields) (length e.code) early v x.t (h (inwards w)))

  -- a part whose code is made, and behind it the context is loaded
  pub part_closed : (a : Active) (saved : Field) (kept : Keeping) (f : Exits) (d begin e : Draft) (s : CodeState) (u : State) (k b m : ℕ) (run : Active → State → Outcome Leaving) (code : Draft → Made ℕ) → Part KnowsFields g scope alive saved (in_one_more f) b m run code
      → code begin ≡ Makes m e → HasDeclared g.typed g.instance (layout g) b begin → Begun g alive d → Lasts g (length begin.code) (length begin.fields) (length e.code) kept → ((m : BitMemory) → kept.has m → HasContext g active saved m) → ((live : ℕ → Type 0) (m : BitMemory) → IsKeptBeside g live kept m → IsKeptBeside g live known.kept m) → ((q p : ℕ) → (q ≡ saved.set → ⊥) → active q p ≡ a q p) → Extended begin k e
      → Led g scope active known alive a (HasKept g alive kept) d begin s u → Follows g (LedLeft active (HasKept g alive kept) f d s) s (run a u) (Makes m (with_instr (I.LoadContext saved) e))
  unfolding LeftSo
  part_closed a saved kept f d begin e s u k b m run code part is none begun lasts has weaker beside longer x =
      with_more g (LedLeft a (HasKept g alive kept) f d s) (LedLeft active (HasKept g alive kept) f d s) s (run a u) m m e (with_instr (I.LoadContext saved) e) 1 (and_one g (I.LoadContext saved) e)
      (part_leads a saved kept d begin e s lasts u x f b k m run code part is none begun longer has weaker beside) (λ leaving v left w. by leaving v left w)
    where
      by : (leaving : Leaving) (v : State) → LedLeft a (HasKept g alive kept) f d s leaving v m e → Within g (with_instr (I.LoadContext saved) e) → LedLeft active (HasKept g alive kept) f d s leaving v m (with_instr (I.LoadContext saved) e)
      by Onward v led w = loads_context g scope active known alive a kept (length begin.code) (length begin.fields) (length e.code) lasts d e s v active saved has beside w led
      by Broke v j w = j
      by Continued v j w = j
      by (Returned given) v r w = r

  -- a statement is left so where the context is active again
  pub arrives : (kept : BitMemory → Type 0) (f : Exits) (d : Draft) (s : CodeState) (o : Outcome Leaving) (made : Made ℕ) → ((m : BitMemory) → kept m → HasKept g alive known.kept m) → Follows g (LedLeft active kept f d s) s o made → Follows g (Left g alive f d s) s o made
  arrives kept f d s o made weaker h = left_other g alive (λ v e. Led g scope active known alive active kept d e s v) (λ v e. Ran g alive d s v e) f d s o made (λ v e led. led_ran g scope active known alive kept d e s v weaker led) h

  -- or at once
  pub arrives_now : (kept : BitMemory → Type 0) (f : Exits) (d : Draft) (s : CodeState) (u : State) (m : ℕ) (e : Draft) → ((m : BitMemory) → kept m → HasKept g alive known.kept m) → Led g scope active known alive active kept d e s u → Follows g (Left g alive f d s) s (Gives Onward u) (Makes m e)
  unfolding Follows LeftSo
  arrives_now kept f d s u m e weaker led = λ w. led_ran g scope active known alive kept d e s u weaker led
