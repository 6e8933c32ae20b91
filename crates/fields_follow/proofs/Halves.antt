-- What is computed only where it counts, an operand of `?:` or what stands right of `&&` and `||`: the positions where a
-- condition holds, or where it does not, become inactive, the operand is put in a field where the others are active, and
-- the old context is loaded.
use Rattle.std.proofs.Common.{◌≡◌, ◌∙◌, ℕ, ◌+◌, ◌<◌, ◌≤◌, ◌%◌, ◌^◌, ◌⊎◌, inl, inr, Bool, true, false, not, [], List, length, slice_index, refl, sym, ap, subst, arith, ◌&&◌, ◌||◌, if◌then◌else◌}
use Rattle.std.specs.Int.{from_bool}
use Rattle.cstar_tree.specs.declared.typed.TExpr.{TExpr}
use Rattle.cstar_tree.specs.declared.typed.Variable.{Variable}
use Rattle.code_lengths.specs.Ready.{IsReadyButForFields}
use Rattle.lower_base.specs.declared.emit.Out.{Out}
use Rattle.lower_base.specs.Drafts.{Draft, Fails, Made, Makes, step as step_of, then_make, with_instr}
use Rattle.lower_expr.specs.Values.{narrowed_by}
use Rattle.paris_code.specs.declared.instr.Instr.{Instr}
use Rattle.paris_code.specs.declared.instr.Instr.TheVariants as I
use Rattle.paris_code.specs.declared.operands.Field.{Field}
use Rattle.paris_code.specs.declared.program.Owner.TheVariants as W
use Rattle.paris_code.specs.Code.{CodeState}
use Rattle.paris_code.specs.Memory.{is_active, is_tested, processors}
use Rattle.paris_code.specs.Spans.{IsInUse, IsNamedAt, Span, StandsAt}
use Rattle.paris_code.specs.Writes.{written}
use Rattle.source_meaning.specs.Expressions.{evaluated}
use Rattle.source_meaning.specs.State.{Outcome, State}
use Rattle.source_meaning.specs.Values.{Active, nonzero}
use Rattle.code_follows.proofs.Following.{Extends, HasRegisters, Keeps, Sim, extends_made, extends_then, keeps_on}
use Rattle.code_follows.proofs.Growing.{Extended, extended}
use Rattle.code_follows.proofs.Settings.{OpenAmong, At, Reaches, Setting, Within, and_one, code_more, earlier, layout, onto, regs_more}
use Rattle.code_follows.proofs.Branching.{decides}
use Rattle.fields_follow.proofs.TruthValues.{by_case}
use Rattle.fields_follow.proofs.Arms.{PutsLast, words_of}
use Rattle.fields_follow.proofs.Bits.{field_kept}
use Rattle.fields_follow.proofs.Expressions.{IsMeant}
use Rattle.fields_follow.proofs.FileFields.{Apart, apart_back}
use Rattle.fields_follow.proofs.Flags.{Turned, load_context, narrow_context, turn_context}
use Rattle.fields_follow.proofs.Instructions.{HasNumbers, Puts, number_in, place, shapes}
use Rattle.fields_follow.proofs.Leaving.{EndsBelow, fields_under, keeps_again, places_under, reaches_again, registers_under, starts_again, starts_under, under, within_under}
use Rattle.fields_follow.proofs.Narrowing.{among, among_active, among_beside, among_inactive, others, others_active, others_beside, others_inactive}
use Rattle.fields_follow.proofs.Outcomes.{Ended, after_all, ended_back}
use Rattle.fields_follow.proofs.Passing.{After, Passes, code_longer, fields_longer, passes_all, then_after}
use Rattle.fields_follow.proofs.PassingTests.{tests_passed}
use Rattle.fields_follow.proofs.Places.{HoldsTheFields, IsOwnField, PlacesFields, names_first, stands_here}
use Rattle.fields_follow.proofs.Starts.{Starts, same_entries, starts_later}
use Rattle.fields_follow.proofs.TestFlags.{LeavesTests, Tells, puts_nonzero, tested_behind}
use Rattle.fields_follow.proofs.Truths.{fields_sim, whole_sim, either_or_both}
use Rattle.fields_follow.proofs.Writing.{TakesBehind, elsewhere, instr_takes, own_has, own_sim}
use Rattle.fields_follow.proofs.Locals.{IsNoHome}

-- which positions are active in the first half, and in the second
abbrev pub half : Bool → ℕ → (ℕ → ℕ) → Active → Active
half false set v a = among set v a
half true set v a = others set v a

-- those of other sets are as they were
pub half_beside : (second : Bool) (set : ℕ) (v : ℕ → ℕ) (a : Active) (q p : ℕ) → (q ≡ set → ⊥) → a q p ≡ half second set v a q p
half_beside false set v a q p differ = sym (among_beside set v a q p differ)
half_beside true set v a q p differ = sym (others_beside set v a q p differ)

-- nor are those active that were not
pub half_inactive : (second : Bool) (set : ℕ) (v : ℕ → ℕ) (a : Active) (x : ℕ) → a set x ≡ false → half second set v a set x ≡ false
half_inactive false set v a x off = among_inactive set v a x off
half_inactive true set v a x off = others_inactive set v a x off

-- neither operand decides where both halves are active
pub undecided : (is_or : Bool) (set : ℕ) (v w : ℕ → ℕ) (a : Active) (x : ℕ) → a set x ≡ true → (c : Bool) → half is_or set w (half is_or set v a) set x ≡ c → either_or_both is_or (nonzero (v x)) (nonzero (w x)) ≡ (if c then not is_or else is_or)
undecided false set v w a x on c is = by (nonzero (v x)) refl
  where
    plain : (c : Bool) → c ≡ (if c then true else false)
    plain true = refl
    plain false = refl

    by : (b : Bool) → nonzero (v x) ≡ b → (nonzero (v x) && nonzero (w x)) ≡ (if c then true else false)
    by true some = ap (λ (t : Bool). t && nonzero (w x)) some ∙ sym (among_active set w (among set v a) x (among_active set v a x on ∙ some)) ∙ is ∙ plain c
    by false none =
        ap (λ (t : Bool). t && nonzero (w x)) none
        ∙ ap (λ (t : Bool). if t then true else false) (sym (among_inactive set w (among set v a) x (among_active set v a x on ∙ none)) ∙ is)
undecided true set v w a x on c is = by (nonzero (v x)) refl
  where
    turned : (b c : Bool) → not b ≡ c → b ≡ (if c then false else true)
    turned true true e = cc
    turned true false e = refl
    turned false true e = refl
    turned false false e = cc

    by : (b : Bool) → nonzero (v x) ≡ b → (nonzero (v x) || nonzero (w x)) ≡ (if c then false else true)
    by true some =
        ap (λ (t : Bool). t || nonzero (w x)) some
        ∙ ap (λ (t : Bool). if t then false else true) (sym (others_inactive set w (others set v a) x (others_active set v a x on ∙ ap not some)) ∙ is)
    by false none = ap (λ (t : Bool). t || nonzero (w x)) none ∙ turned (nonzero (w x)) c (sym (others_active set w (others set v a) x (others_active set v a x on ∙ ap not none)) ∙ is)

-- a scalar decides everywhere or nowhere
pub open_both : (is_or : Bool) (set : ℕ) (w : ℕ → ℕ) (a : Active) (x : ℕ) (b : Bool) → nonzero (w x) ≡ b → decides is_or b ≡ false → half is_or set w a set x ≡ a set x
open_both false set w a x true is free = by_case (a set x) (λ on. among_active set w a x on ∙ is ∙ sym on) (λ off. among_inactive set w a x off ∙ sym off)
open_both true set w a x false is free = by_case (a set x) (λ on. others_active set w a x on ∙ ap not is ∙ sym on) (λ off. others_inactive set w a x off ∙ sym off)
open_both false set w a x false is free = cc
open_both true set w a x true is free = cc

pub shut_both : (is_or : Bool) (set : ℕ) (w : ℕ → ℕ) (a : Active) (x : ℕ) (b : Bool) → nonzero (w x) ≡ b → decides is_or b ≡ true → half is_or set w a set x ≡ false
shut_both false set w a x false is shut = by_case (a set x) (λ on. among_active set w a x on ∙ is) (λ off. among_inactive set w a x off)
shut_both true set w a x true is shut = by_case (a set x) (λ on. others_active set w a x on ∙ ap not is) (λ off. others_inactive set w a x off)
shut_both false set w a x true is shut = cc
shut_both true set w a x false is shut = cc

module _ (g : Setting) where
  -- what is said of code holds where the draft before it is within the unit
  pub after_delayed : {A : Type 0} (Q : A → Draft → Type 0) (e : Draft) (made : Made A) → Extends g e made → (Within g e → After g Q made) → After g Q made
  unfolding After Extends
  after_delayed Q e (Makes x f) grows h = λ w. h (earlier g e f grows.0 grows.1 w) w
  after_delayed Q e Fails grows h = tt

  -- what is said where other positions are active
  pub after_under : {A : Type 0} (a : Active) (Q : A → Draft → Type 0) (made : Made A) → After (under g a) Q made → After g Q made
  unfolding After
  after_under a Q (Makes x e) h = λ w. h (within_under g a w)
  after_under a Q Fails h = tt

  -- an own entry that is named before an instruction and behind it is apart from another one that this names
  pub named_apart : PlacesFields g → (h f : Field) (first at last : ℕ) → (h.offset ≡ f.offset → ⊥) → IsOwnField g h → IsOwnField g f → f.set < length (shapes g) → IsNamedAt g.unit h.offset first → first < at → IsNamedAt g.unit h.offset last → at < last → IsNamedAt g.unit f.offset at → Apart (place g f) (place g h)
  named_apart places h f first at last differ own other exists begins early ends late named =
      apart_back (place g h) (place g f) (places.owns_apart_at h f first at differ own other exists begins early (λ (span : Span) (used : IsInUse g.unit h.offset W.Own span). let holds = used.named last ends in let high = holds.1 in omega (arith, high, late)) named)

  -- what ends early where other positions are active ends so in the unit
  pub ended_within : {A : Type 0} (a : Active) (fields : HoldsTheFields g) (s : CodeState) (o : Outcome A) → Ended (under g a) s o → Ended g s o
  ended_within a fields s o h =
      let f = h.finishes in
      record { early = h.early; state = h.state; is = h.is; finishes = record { t = f.t; ends = record { steps = f.ends.steps; is = f.ends.is }; turns = f.turns; output = f.output; input = f.input; memory = fields.ends h.state f.t.memory f.memory } }

module _ (g : Setting) (alive : Variable → Type 0) (places : PlacesFields g) (fields : HoldsTheFields g) where
  -- an instruction that leaves the fields as they are and has made these positions active
  pub record Narrows (b : Active) (e f : Draft) (s : CodeState) (st : State) : Type 0 where
    pub more : Extended e 1 f
    pub t : CodeState
    pub go : Reaches g s t
    pub at : At g t (length f.code)
    pub registers : t.registers ≡ s.registers
    pub sim : Sim (under g b) alive st t
    pub stays : (h : Field) (p : ℕ) → EndsBelow g h → number_in g h t p ≡ number_in g h s p

  narrows_turned : (b : Active) (i : Instr) (e : Draft) (s : CodeState) (st : State) → Turned g places alive fields.active b e i s st → Narrows b e (with_instr i e) s st
  narrows_turned b i e s st h = record { more = and_one g i e; t = h.t; go = h.go; at = h.at; registers = h.registers; sim = h.sim; stays = h.stays }

  pub narrows : (second : Bool) (set : ℕ) (v : ℕ → ℕ) (e : Draft) (s : CodeState) (st : State) → ((p : ℕ) → p < processors (shapes g) set → fields.active set p ≡ true → is_tested (shapes g) s.memory set p ≡ nonzero (v p)) → Within g (narrowed_by second set e) → At g s (length e.code) → Sim g alive st s
      → Narrows (half second set v fields.active) e (narrowed_by second set e) s st
  unfolding narrowed_by
  narrows false set v e s st flags within here sim =
      narrows_turned (among set v a) (I.LogandContextWithTest set) e s st
      (narrow_context g places alive a set e s st (among set v a) (λ p below on. among_active set v a p on ∙ sym (flags p below on)) (λ p below off. among_inactive set v a p off) (λ q p differ. among_beside set v a q p differ) within here (fields_sim g alive places fields st s sim))
    where
      a : Active
      a = fields.active
  narrows true set v e s st flags within here sim =
      narrows_turned (others set v a) (I.LogandcContextWithTest set) e s st
      (turn_context g places alive a set e s st (others set v a) (λ p below on. others_active set v a p on ∙ ap not (sym (flags p below on))) (λ p below off. others_inactive set v a p off) (λ q p differ. others_beside set v a q p differ) within here (fields_sim g alive places fields st s sim))
    where
      a : Active
      a = fields.active

  pub narrowed_more : (second : Bool) (set : ℕ) (e : Draft) → Extended e 1 (narrowed_by second set e)
  unfolding narrowed_by
  narrowed_more false set e = and_one g (I.LogandContextWithTest set) e
  narrowed_more true set e = and_one g (I.LogandcContextWithTest set) e

  -- The code of a half leaves the state, the registers that are kept, and what stands in own entries that are named before
  -- it and behind it, but for a field: that has these words where the half is active, and elsewhere what it had, if it
  -- was named before.
  pub record Halved (set : ℕ) (f saved : Field) (b : Active) (w : ℕ → ℕ) (d e : Draft) (s : CodeState) (st : State) : Type 0 where
    pub grown : (n : ℕ) × Extended d n e
    pub t : CodeState
    pub go : Reaches g s t
    pub at : Starts g alive t (length e.code) e.regs (length e.fields)
    pub registers : Keeps g d s t
    pub sim : Sim g alive st t
    pub ends : EndsBelow g f
    pub somewhere : ℕ
    pub named : IsNamedAt g.unit f.offset somewhere
    pub before : somewhere < length e.code
    pub stays : (h : Field) (first last p : ℕ) → h.offset < length d.fields → (h.offset ≡ f.offset → ⊥) → IsOwnField g h → EndsBelow g h → IsNamedAt g.unit h.offset first → first < length d.code → IsNamedAt g.unit h.offset last → length e.code ≤ last → number_in g h t p ≡ number_in g h s p
    pub puts : (p : ℕ) → p < processors (shapes g) set → b set p ≡ true → (number_in g f t p ≡ w p % 2 ^ f.len) × (w p < 2 ^ 32)
    pub leaves : (first : ℕ) → IsNamedAt g.unit f.offset first → first < length d.code → (p : ℕ) → p < processors (shapes g) set → b set p ≡ false → number_in g f t p ≡ number_in g f s p
    pub saves : (p : ℕ) → p < processors (shapes g) set → number_in g saved t p ≡ from_bool (fields.active set p)

  -- Code has led to a state where these positions are active.
  pub record Leads (b : Active) (d e : Draft) (s : CodeState) (st : State) : Type 0 where
    pub grown : (n : ℕ) × Extended d n e
    pub t : CodeState
    pub go : Reaches g s t
    pub at : Starts (under g b) alive t (length e.code) e.regs (length e.fields)
    pub registers : Keeps g d s t
    pub sim : Sim (under g b) alive st t
    pub stays : (h : Field) (first last p : ℕ) → h.offset < length d.fields → IsOwnField g h → EndsBelow g h → IsNamedAt g.unit h.offset first → first < length d.code → IsNamedAt g.unit h.offset last → length e.code ≤ last → number_in g h t p ≡ number_in g h s p

  module _ (set offset bits : ℕ) (saved : Field) where
    abbrev f : Field
    f = record { set = set; offset = offset; len = bits }

    -- a field of the set, and one that has the old context, which is named already
    pub record Keeping (d : Draft) (s : CodeState) : Type 0 where
      pub exists : set < length (shapes g)
      pub own : IsOwnField g f
      pub none : IsNoHome g (OpenAmong g alive) offset
      pub inside : offset < length d.fields
      pub of_set : saved.set ≡ set
      pub own_saved : IsOwnField g saved
      pub saved_inside : saved.offset < length d.fields
      pub other : saved.offset ≡ offset → ⊥
      pub saved_ends : EndsBelow g saved
      pub somewhere : ℕ
      pub named : IsNamedAt g.unit saved.offset somewhere
      pub before : somewhere < length d.code
      pub saves : (p : ℕ) → p < processors (shapes g) set → number_in g saved s p ≡ from_bool (fields.active set p)

    -- an instruction puts words in the field where these positions are active, and behind it the old context is loaded
    module _ (b : Active) (beside : (q p : ℕ) → (q ≡ set → ⊥) → fields.active q p ≡ b q p) (w : ℕ → ℕ) (d narrow : Draft) (s : CodeState) (st : State) (r : Keeping d s) (x : Leads b d narrow s st) (e : Draft) (i : Instr) (p : Passes (under g b) alive (length narrow.fields) narrow e x.t st (Unit {0})) (puts : Puts (under g b) set i f p.t w) where
      abbrev put_draft : Draft
      put_draft = with_instr i e

      abbrev pub last_draft : Draft
      last_draft = with_instr (I.LoadContext saved) put_draft

      module _ (within_last : Within g last_draft) where
        within_put : Within g put_draft
        within_put = earlier g put_draft last_draft 1 (and_one g (I.LoadContext saved) put_draft) within_last

        there : StandsAt g.unit (length e.code) i
        there = stands_here g i e within_put puts.plain

        named_here : IsNamedAt g.unit offset (length e.code)
        named_here = names_first g i f puts.others (length e.code) there puts.names

        ends_here : (set < length (shapes g)) × EndsBelow g f
        ends_here = places.ends (length e.code) i f puts.others there puts.plain puts.simple puts.names

        loads_named : IsNamedAt g.unit saved.offset (length put_draft.code)
        unfolding step_of
        loads_named = names_first g (I.LoadContext saved) saved [] (length put_draft.code) (stands_here g (I.LoadContext saved) put_draft within_last refl) refl

        put_more : length put_draft.code ≡ length e.code + 1
        put_more = code_more g i e

        longer : (length d.code ≤ length narrow.code) × (length d.fields ≤ length narrow.fields) × (length narrow.code ≤ length e.code)
        longer = (code_longer d narrow x.grown.0 x.grown.1, fields_longer d narrow x.grown.0 x.grown.1, code_longer narrow e p.grown.0 p.grown.1)

        taken : TakesBehind (under g b) set f e put_draft p.t w
        taken = instr_takes (under g b) set i f e p.t w (λ h below. places.own_and_below f h r.own below) (within_under g b within_put) p.at.stands puts

        abbrev put_state : CodeState
        put_state = record p.t { at = taken.behind.place; memory = written taken.takes.write p.t.memory }

        put_sim : Sim (under g b) alive st put_state
        put_sim = own_sim (under g b) (places_under g b places) (fields_under g b fields.scope fields.same_extents) alive set f p.t st w p.sim refl ends_here.0 ends_here.1 taken.takes (length e.code) taken.behind.place p.at.stands (let there = taken.behind.at in let here = p.at.stands in let one = put_more in omega (arith, there, here, one)) r.own r.none named_here

        put_has : HasNumbers (under g b) bits set f put_state w
        put_has = own_has (under g b) (places_under g b places) (fields_under g b fields.scope fields.same_extents) alive set f p.t st w p.sim refl ends_here.0 ends_here.1 taken.takes taken.behind.place

        -- other own entries stay that are named before and behind
        others_stay : (h : Field) (first last q : ℕ) → h.offset < length d.fields → (h.offset ≡ offset → ⊥) → IsOwnField g h → EndsBelow g h → IsNamedAt g.unit h.offset first → first < length d.code → IsNamedAt g.unit h.offset last → length put_draft.code ≤ last → number_in g h put_state q ≡ number_in g h s q
        others_stay h first last q inside differ own ends named early after late =
            let l = longer in
            let one = l.0 in
            let two = l.1 in
            let three = l.2 in
            let more = put_more in
            elsewhere (under g b) (places_under g b places) (fields_under g b fields.scope fields.same_extents) alive set f p.t st w p.sim refl ends_here.0 ends_here.1 taken.takes (place g h) q
            (named_apart g places h f first (length e.code) last differ own r.own ends_here.0 named (omega (arith, early, one, three)) after (omega (arith, late, more)) named_here)
            ∙ p.stays tt h first last q (omega (arith, inside, two)) own ends named (omega (arith, early, one)) after (omega (arith, late, more))
            ∙ x.stays h first last q inside own ends named early after (omega (arith, late, three, more))

        saved_still : (q : ℕ) → q < processors (shapes g) set → number_in g saved put_state q ≡ from_bool (fields.active set q)
        saved_still q below = others_stay saved r.somewhere (length put_draft.code) q r.saved_inside r.other r.own_saved r.saved_ends r.named r.before loads_named (omega arith) ∙ r.saves q below

        -- the old context
        loaded : Turned g places alive b fields.active put_draft (I.LoadContext saved) put_state st
        loaded = load_context g places alive b set saved put_draft put_state st fields.active r.of_set saved_still beside within_last taken.behind.at put_sim

        -- the field where these positions are not active
        left_there : (first : ℕ) → IsNamedAt g.unit offset first → first < length d.code → (q : ℕ) → q < processors (shapes g) set → b set q ≡ false → number_in g f put_state q ≡ number_in g f s q
        left_there first named early q below off =
            let l = longer in
            let one = l.0 in
            let two = l.1 in
            let three = l.2 in
            let inside = r.inside in
            field_kept taken.takes.write p.t.memory (place g f) q (taken.takes.writes q ∙ p.sim.memory.0.flags set q r.exists below ∙ off)
            ∙ p.stays tt f first (length e.code) q (omega (arith, inside, two)) r.own ends_here.1 named (omega (arith, early, one)) named_here (omega arith)
            ∙ x.stays f first (length e.code) q inside r.own ends_here.1 named early named_here (omega (arith, three))

        put_there : (q : ℕ) → q < processors (shapes g) set → b set q ≡ true → (number_in g f put_state q ≡ w q % 2 ^ bits) × (w q < 2 ^ 32)
        put_there q below on = let now : is_active (shapes g) put_state.memory set q ≡ true = put_sim.memory.0.flags set q r.exists below ∙ on in (put_has.are q below now, put_has.small q below now)

        pub halved : Halved set f saved b w d last_draft s st
        halved = record {
          grown = (x.grown.0 + (p.grown.0 + 2), extended d narrow last_draft x.grown.0 (p.grown.0 + 2) x.grown.1 (extended narrow e last_draft p.grown.0 2 p.grown.1 (extended e put_draft last_draft 1 1 (and_one g i e) (and_one g (I.LoadContext saved) put_draft))));
          t = loaded.t;
          go = onto g s x.t loaded.t x.go (onto g x.t p.t loaded.t (reaches_again g b p.go) (onto g p.t put_state loaded.t (reaches_again g b taken.behind.go) loaded.go));
          at =
              let one = put_more in
              let two = code_more g (I.LoadContext saved) put_draft in
              let three = regs_more g i e in
              let four = regs_more g (I.LoadContext saved) put_draft in
              starts_later g alive p.t loaded.t (length e.code) e.regs (length e.fields) (length last_draft.code) last_draft.regs (length last_draft.fields) (omega (arith, one, two)) (omega (arith, three, four)) (let a = same_entries g alive i e in let b = same_entries g alive (I.LoadContext saved) put_draft in omega (arith, a, b)) loaded.at (starts_again g b alive p.t (length e.code) e.regs (length e.fields) p.at);
          registers = λ y kept. ap (λ (registers : List ℕ). slice_index registers y) loaded.registers ∙ keeps_on g d narrow x.grown.0 s x.t p.t x.grown.1 x.registers (keeps_again g b narrow x.t p.t p.registers) y kept;
          sim = whole_sim g alive places fields st loaded.t loaded.sim;
          ends = ends_here.1;
          somewhere = length e.code;
          named = named_here;
          before = let one = put_more in let two = code_more g (I.LoadContext saved) put_draft in omega (arith, one, two);
          stays = λ h first last q inside differ own ends named early after late. loaded.stays h q ends ∙ others_stay h first last q inside differ own ends named early after (let two = code_more g (I.LoadContext saved) put_draft in omega (arith, late, two));
          puts = λ q below on. (loaded.stays f q ends_here.1 ∙ (put_there q below on).0, (put_there q below on).1);
          leaves = λ first named early q below off. loaded.stays f q ends_here.1 ∙ left_there first named early q below off;
          saves = λ q below. loaded.stays saved q r.saved_ends ∙ saved_still q below;
        }

    -- or the code has gone on and left the field as it is, and behind that the old context is loaded
    module _ (b : Active) (beside : (q p : ℕ) → (q ≡ set → ⊥) → fields.active q p ≡ b q p) (c : Active) (none : (p : ℕ) → p < processors (shapes g) set → c set p ≡ false) (w : ℕ → ℕ) (d e over : Draft) (s : CodeState) (st : State) (r : Keeping d s) (x : Leads b d e s st) (more : (k : ℕ) × Extended e k over) (u : CodeState) (go : Reaches g x.t u)
        (at : At g u (length over.code)) (registers : u.registers ≡ x.t.registers) (sim : Sim (under g b) alive st u) (same : (h : Field) (p : ℕ) → number_in g h u p ≡ number_in g h x.t p) (ends : EndsBelow g f) (somewhere : ℕ) (named : IsNamedAt g.unit offset somewhere) (late : length e.code ≤ somewhere) (before : somewhere < length over.code)
        (within_last : Within g (with_instr (I.LoadContext saved) over)) where
      passed_named : IsNamedAt g.unit saved.offset (length over.code)
      unfolding step_of
      passed_named = names_first g (I.LoadContext saved) saved [] (length over.code) (stands_here g (I.LoadContext saved) over within_last refl) refl

      passed_longer : length e.code ≤ length over.code
      passed_longer = code_longer e over more.0 more.1

      saved_there : (q : ℕ) → q < processors (shapes g) set → number_in g saved u q ≡ from_bool (fields.active set q)
      saved_there q below = same saved q ∙ x.stays saved r.somewhere (length over.code) q r.saved_inside r.own_saved r.saved_ends r.named r.before passed_named passed_longer ∙ r.saves q below

      back_there : Turned g places alive b fields.active over (I.LoadContext saved) u st
      back_there = load_context g places alive b set saved over u st fields.active r.of_set saved_there beside within_last at sim

      pub passed_by : Halved set f saved c w d (with_instr (I.LoadContext saved) over) s st
      passed_by = record {
        grown = (x.grown.0 + (more.0 + 1), extended d e (with_instr (I.LoadContext saved) over) x.grown.0 (more.0 + 1) x.grown.1 (extended e over (with_instr (I.LoadContext saved) over) more.0 1 more.1 (and_one g (I.LoadContext saved) over)));
        t = back_there.t;
        go = onto g s x.t back_there.t x.go (onto g x.t u back_there.t go back_there.go);
        at =
            let one = passed_longer in
            let two = code_more g (I.LoadContext saved) over in
            let three = more.1.regs in
            let four = regs_more g (I.LoadContext saved) over in
            let five = fields_longer e over more.0 more.1 in
            let six = same_entries g alive (I.LoadContext saved) over in
            starts_later g alive x.t back_there.t (length e.code) e.regs (length e.fields) (length (with_instr (I.LoadContext saved) over).code) (with_instr (I.LoadContext saved) over).regs (length (with_instr (I.LoadContext saved) over).fields) (omega (arith, one, two)) (omega (arith, three, four)) (omega (arith, five, six)) back_there.at (starts_again g b alive x.t (length e.code) e.regs (length e.fields) x.at);
        registers = λ y kept. ap (λ (rs : List ℕ). slice_index rs y) (back_there.registers ∙ registers) ∙ x.registers y kept;
        sim = whole_sim g alive places fields st back_there.t back_there.sim;
        ends = ends;
        somewhere = somewhere;
        named = named;
        before = let two = code_more g (I.LoadContext saved) over in omega (arith, before, two);
        stays = λ h first last q inside differ own ends named early after behind.
            back_there.stays h q ends ∙ same h q ∙ x.stays h first last q inside own ends named early after (let one = passed_longer in let two = code_more g (I.LoadContext saved) over in omega (arith, behind, one, two));
        puts = λ q below on. (let wrong = sym (none q below) ∙ on in cc);
        leaves = λ first first_named early q below off. back_there.stays f q ends ∙ same f q ∙ x.stays f first somewhere q r.inside r.own ends first_named early named late;
        saves = λ q below. back_there.stays saved q r.saved_ends ∙ saved_there q below;
      }

  -- It is one of other positions and words where the field has these.
  pub halved_as : (set : ℕ) (f saved : Field) (b c : Active) (w u : ℕ → ℕ) (d e : Draft) (s : CodeState) (st : State) (h : Halved set f saved b w d e s st) → ((p : ℕ) → p < processors (shapes g) set → c set p ≡ true → (number_in g f h.t p ≡ u p % 2 ^ f.len) × (u p < 2 ^ 32))
      → ((p : ℕ) → p < processors (shapes g) set → c set p ≡ false → b set p ≡ false) → Halved set f saved c u d e s st
  halved_as set f saved b c w u d e s st h puts fewer = record {
    grown = h.grown;
    t = h.t;
    go = h.go;
    at = h.at;
    registers = h.registers;
    sim = h.sim;
    ends = h.ends;
    somewhere = h.somewhere;
    named = h.named;
    before = h.before;
    stays = h.stays;
    puts = puts;
    leaves = λ first named early p below off. h.leaves first named early p below (fewer p below off);
    saves = h.saves;
  }

  -- behind both halves the field has the words of each where that is active
  pub both_halved : (set : ℕ) (f saved : Field) (v w u : ℕ → ℕ) (d e1 e2 : Draft) (s : CodeState) (st : State) (one : Halved set f saved (half false set v fields.active) w d e1 s st) → Halved set f saved (half true set v fields.active) u e1 e2 one.t st → Halved set f saved fields.active (λ p. if nonzero (v p) then w p else u p) d e2 s st
  both_halved set f saved v w u d e1 e2 s st one two =
      let first_code = code_longer d e1 one.grown.0 one.grown.1 in
      let first_fields = fields_longer d e1 one.grown.0 one.grown.1 in
      let last_code = code_longer e1 e2 two.grown.0 two.grown.1 in
      record {
        grown = (one.grown.0 + two.grown.0, extended d e1 e2 one.grown.0 two.grown.0 one.grown.1 two.grown.1);
        t = two.t;
        go = onto g s one.t two.t one.go two.go;
        at = two.at;
        registers = keeps_on g d e1 one.grown.0 s one.t two.t one.grown.1 one.registers two.registers;
        sim = two.sim;
        ends = two.ends;
        somewhere = one.somewhere;
        named = one.named;
        before = (let early = one.before in omega (arith, early, last_code));
        stays = λ h first last p below differ own ends named early after late. two.stays h first last p (omega (arith, below, first_fields)) differ own ends named (omega (arith, early, first_code)) after late ∙ one.stays h first last p below differ own ends named early after (omega (arith, late, last_code));
        puts = λ p below on. by p below on (nonzero (v p)) refl;
        leaves = λ first named early p below off. two.leaves one.somewhere one.named one.before p below (others_inactive set v fields.active p off) ∙ one.leaves first named early p below (among_inactive set v fields.active p off);
        saves = two.saves;
      }
    where
      by : (p : ℕ) → p < processors (shapes g) set → fields.active set p ≡ true → (b : Bool) → nonzero (v p) ≡ b → (number_in g f two.t p ≡ (if nonzero (v p) then w p else u p) % 2 ^ f.len) × ((if nonzero (v p) then w p else u p) < 2 ^ 32)
      by p below on b is = subst (λ (c : Bool). (number_in g f two.t p ≡ (if c then w p else u p) % 2 ^ f.len) × ((if c then w p else u p) < 2 ^ 32)) (sym is) (there b is)
        where
          there : (b : Bool) → nonzero (v p) ≡ b → (number_in g f two.t p ≡ (if b then w p else u p) % 2 ^ f.len) × ((if b then w p else u p) < 2 ^ 32)
          there true holds = let first = one.puts p below (among_active set v fields.active p on ∙ holds) in (two.leaves one.somewhere one.named one.before p below (others_active set v fields.active p on ∙ ap not holds) ∙ first.0, first.1)
          there false none = two.puts p below (others_active set v fields.active p on ∙ ap not none)

  -- what is found beside one is so behind it
  pub keeping_on : (set offset bits : ℕ) (saved : Field) (b : Active) (w : ℕ → ℕ) (d e : Draft) (s : CodeState) (st : State) → Keeping set offset bits saved d s → (h : Halved set (record { set = set; offset = offset; len = bits }) saved b w d e s st) → Keeping set offset bits saved e h.t
  keeping_on set offset bits saved b w d e s st r h =
      let more = fields_longer d e h.grown.0 h.grown.1 in
      record {
        exists = r.exists;
        own = r.own;
        none = r.none;
        inside = (let inside = r.inside in omega (arith, inside, more));
        of_set = r.of_set;
        own_saved = r.own_saved;
        saved_inside = (let inside = r.saved_inside in omega (arith, inside, more));
        other = r.other;
        saved_ends = r.saved_ends;
        somewhere = r.somewhere;
        named = r.named;
        before = (let longer = code_longer d e h.grown.0 h.grown.1 in let early = r.before in omega (arith, early, longer));
        saves = h.saves;
      }

module _ (g : Setting) (has : HasRegisters g) (alive : Variable → Type 0) (n : ℕ) (ready : (d : Draft) → IsReadyButForFields g.typed g.instance (layout g) n d) (places : PlacesFields g) (fields : HoldsTheFields g) where
  -- an operand, as it is put where these positions are active
  abbrev pub PutsUnder : Active → ℕ → Field → TExpr → (Draft → Made Out) → Type 1
  PutsUnder b set f e made = PutsLast (under g b) (registers_under g b has) alive n ready (places_under g b places) (fields_under g b fields.scope fields.same_extents) set f e made

  abbrev pub IsMeantUnder : Active → ℕ → TExpr → State → Type 0
  IsMeantUnder b set e st = IsMeant (under g b) (registers_under g b has) alive n ready (places_under g b places) (fields_under g b fields.scope fields.same_extents) set e st

  module _ (second : Bool) (set offset bits : ℕ) (saved a : Field) (v : ℕ → ℕ) (operand : TExpr) (d : Draft) (s : CodeState) (st : State) where
    abbrev here_field : Field
    here_field = record { set = set; offset = offset; len = bits }

    abbrev b : Active
    b = half second set v fields.active

    abbrev w : ℕ → ℕ
    w = words_of g has alive n ready places fields set operand st

    -- what a half finds beside: a field that tells where the condition holds
    pub record Ready : Type 0 where
      pub here : Starts g alive s (length d.code) d.regs (length d.fields)
      pub sim : Sim g alive st s
      pub tells : Tells g set a s v
      pub keeping : Keeping g alive places fields set offset bits saved d s

    abbrev tested_draft : Draft
    tested_draft = with_instr (I.NeZero a) d

    abbrev narrow : Draft
    narrow = narrowed_by second set tested_draft

    module _ (r : Ready) (within : Within g narrow) where
      within_tested : Within g tested_draft
      within_tested = earlier g tested_draft narrow 1 (narrowed_more g alive places fields second set tested_draft) within

      -- behind the test
      tests : LeavesTests g alive fields d s set st v tested_draft
      unfolding tests_passed
      tests =
          tested_behind g alive fields places set d d (I.NeZero a) s st v (Unit {0}) (tests_passed g alive (length d.fields) d d s st (Unit {0}) (omega arith) (passes_all g alive (length d.fields) d s st (Unit {0}) r.here r.sim)) tt r.keeping.exists within_tested
          (puts_nonzero g set a s v r.tells)

      -- and where the half is active
      begins : Leads g alive places fields b d narrow s st
      begins =
          let turned = narrows g alive places fields second set v tested_draft tests.leaves.t st tests.flags within tests.leaves.at.stands tests.leaves.sim in
          let one = code_more g (I.NeZero a) d in
          let two = code_longer tested_draft narrow 1 turned.more in
          let more : Extended d (1 + 1) narrow = extended d tested_draft narrow 1 1 (and_one g (I.NeZero a) d) turned.more in
          record {
            grown = (1 + 1, more);
            t = turned.t;
            go = onto g s tests.leaves.t turned.t tests.leaves.go turned.go;
            at = starts_under g b alive turned.t (length narrow.code) narrow.regs (length narrow.fields) (starts_later g alive s turned.t (length d.code) d.regs (length d.fields) (length narrow.code) narrow.regs (length narrow.fields) (omega (arith, one, two)) more.regs (fields_longer d narrow (1 + 1) more) turned.at r.here);
            registers = λ y kept. ap (λ (registers : List ℕ). slice_index registers y) turned.registers ∙ tests.leaves.registers y kept;
            sim = turned.sim;
            stays = λ h first last p inside own ends named early after late. turned.stays h p ends ∙ tests.leaves.stays tt h first last p inside own ends named early after (omega (arith, late, two));
          }

      -- what ends early behind it
      back : {A : Type 0} (o : Outcome A) → Ended (under g b) begins.t o → Ended g s o
      back o early = ended_back g s begins.t o begins.go (ended_within g b fields begins.t o early)

      -- what is known behind the operand
      record Done (x : Out) (e2 : Draft) : Type 0 where
        pub meant : IsMeantUnder b set operand st
        pub e : Draft
        pub i : Instr
        pub is : e2 ≡ with_instr i e
        pub passes : Passes (under g b) alive (length narrow.fields) narrow e begins.t st (Unit {0})
        pub puts : Puts (under g b) set i here_field passes.t w

    -- so what is said behind a half is said of code that begins with it
    pub half_after : Ready → (made : Draft → Made Out) → ((after : Draft) → Extends g after (made after)) → PutsUnder b set here_field operand made → (Q : Out → Draft → Type 0) (rest : Draft → Made Out) → ((after : Draft) → Extends g after (rest after))
        → (IsMeantUnder b set operand st → (e : Draft) → Within g e → Halved g alive places fields set here_field saved b w d e s st → After g Q (rest e))
        → (Ended g s (evaluated fields.scope operand b st) → (x : Out) (e : Draft) → Q x e)
        → After g Q (then_make (made narrow) (λ _ after. rest (with_instr (I.LoadContext saved) after)))
    half_after r made grows puts Q rest rest_grows next ended =
        after_delayed g Q narrow (then_make (made narrow) (λ _ after. behind after)) (extends_then g narrow (made narrow) (λ _ after. behind after) (grows narrow) (λ _ after. behind_grows after)) (λ within.
        then_after g (λ x e. Done r within x e ⊎ Ended g s (evaluated fields.scope operand b st)) Q (made narrow) (λ _ after. behind after)
        (after_under g b (λ x e. Done r within x e ⊎ Ended g s (evaluated fields.scope operand b st)) (made narrow)
        (puts narrow (begins r within).t st (begins r within).at (begins r within).sim (λ x e. Done r within x e ⊎ Ended g s (evaluated fields.scope operand b st))
        (λ meant e i inner passes put. inl (record { meant = meant; e = e; i = i; is = refl; passes = passes; puts = put })) (λ early x after. inr (back r within (evaluated fields.scope operand b st) early))))
        (λ _ after. behind_grows after) (λ x e known. by within x e known))
      where
        behind : Draft → Made Out
        behind after = rest (with_instr (I.LoadContext saved) after)

        behind_grows : (after : Draft) → Extends g after (behind after)
        behind_grows after = extends_made g after (with_instr (I.LoadContext saved) after) 1 (behind after) (and_one g (I.LoadContext saved) after) (rest_grows (with_instr (I.LoadContext saved) after))

        by : (within : Within g narrow) (x : Out) (e : Draft) → Done r within x e ⊎ Ended g s (evaluated fields.scope operand b st) → After g Q (behind e)
        by within x e (inr early) = after_all g Q (behind e) (λ y f. ended early y f)
        by within x e (inl done) =
            subst (λ (e2 : Draft). After g Q (behind e2)) (sym done.is)
            (after_delayed g Q (with_instr (I.LoadContext saved) (with_instr done.i done.e)) (behind (with_instr done.i done.e)) (rest_grows (with_instr (I.LoadContext saved) (with_instr done.i done.e)))
            (λ within_last. next done.meant (with_instr (I.LoadContext saved) (with_instr done.i done.e)) within_last (halved g alive places fields set offset bits saved b (λ q x differ. half_beside second set v fields.active q x differ) w d narrow s st r.keeping (begins r within) done.e done.i done.passes done.puts within_last)))
