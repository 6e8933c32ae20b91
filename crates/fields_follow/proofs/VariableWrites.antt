-- What code leaves that writes the entry of a variable: the variable has other numbers at the positions that pass, and all
-- else is as it was.
use Rattle.std.proofs.Common.{◌≡◌, ◌∙◌, ℕ, ◌+◌, ◌%◌, ◌<◌, ◌≤◌, ◌^◌, Bool, true, false, ◌&&◌, ◌==◌, length, refl, sym, ap, subst, arith, if◌then◌else◌}
use Rattle.std.proofs.lemmas.Bool.{eqb-true}
use Rattle.cstar_tree.specs.declared.typed.VarInfo.{VarInfo}
use Rattle.cstar_tree.specs.declared.typed.Variable.{Variable}
use Rattle.cstar_tree.specs.declared.typed.Variable.TheVariants as V
use Rattle.lower_base.specs.Drafts.{Draft}
use Rattle.paris_code.specs.declared.operands.Field.{Field}
use Rattle.paris_code.specs.declared.program.Owner.TheVariants as W
use Rattle.paris_code.specs.Code.{CodeState}
use Rattle.paris_code.specs.Memory.{BitMemory, field_number, processors}
use Rattle.paris_code.specs.Shapes.{bits_at}
use Rattle.paris_code.specs.Spans.{IsInUse, IsNamedAt, Span}
use Rattle.paris_code.specs.Writes.{Write, written}
use Rattle.source_meaning.specs.State.{State, is_same, with_positions}
use Rattle.code_follows.proofs.Following.{Sim, keeps_less}
use Rattle.code_follows.proofs.Growing.{Extended, extended}
use Rattle.code_follows.proofs.Settings.{At, HaveTheirOwn, OpenAmong, Setting, StandsBelow, onto}
use Rattle.code_follows.proofs.Standing.{some_same}
use Rattle.code_follows.proofs.Stores.{same_is, same_itself}
use Rattle.fields_follow.specs.Fields.{IsElement}
use Rattle.fields_follow.proofs.Bits.{active_apart, bits_written, field_apart, field_kept}
use Rattle.fields_follow.proofs.Fields.{HoldsFields}
use Rattle.fields_follow.proofs.FileFields.{Apart, apart_back}
use Rattle.fields_follow.proofs.Instructions.{place, shapes}
use Rattle.fields_follow.proofs.Leaving.{Leaves, PassesTests}
use Rattle.fields_follow.proofs.Locals.{HoldsLocal, HoldsLocals, IsLocalField, IsNoHome, locals_on, same_local}
use Rattle.fields_follow.proofs.Passing.{code_longer, fields_longer}
use Rattle.fields_follow.proofs.Places.{HoldsTheFields, IsFileField, IsOwnField, PlacesFields, of_file}
use Rattle.fields_follow.proofs.Starts.{starts_later}
use Rattle.fields_follow.proofs.Variables.{Carries, IsEntryFor}
use Rattle.fields_follow.proofs.Writing.{Takes, WritesBehind, few, value_is, with_memory, writes_where}

-- ---- the variable at positions that pass, elsewhere, and others

taken_there : (x : Variable) (passes : ℕ → Bool) (w : ℕ → ℕ) (p : ℕ) (st : State) → passes p ≡ true → (with_positions x 0 passes w st).parallel x 0 p ≡ w p
unfolding with_positions
taken_there x passes w p st on = ap (λ (b : Bool). if b && 0 == 0 && passes p then w p else st.parallel x 0 p) (same_itself x) ∙ ap (λ (b : Bool). if b then w p else st.parallel x 0 p) on

kept_there : (x : Variable) (passes : ℕ → Bool) (w : ℕ → ℕ) (p : ℕ) (st : State) → passes p ≡ false → (with_positions x 0 passes w st).parallel x 0 p ≡ st.parallel x 0 p
unfolding with_positions
kept_there x passes w p st off = ap (λ (b : Bool). if b && 0 == 0 && passes p then w p else st.parallel x 0 p) (same_itself x) ∙ ap (λ (b : Bool). if b then w p else st.parallel x 0 p) off

pub other_kept : (x y : Variable) (e : ℕ) (passes : ℕ → Bool) (w : ℕ → ℕ) (p : ℕ) (st : State) → (x ≡ y → e ≡ 0 → ⊥) → (with_positions x 0 passes w st).parallel y e p ≡ st.parallel y e p
unfolding with_positions
other_kept x y e passes w p st differ = by (is_same x y) (e == 0) refl refl
  where
    by : (a b : Bool) → is_same x y ≡ a → (e == 0) ≡ b → (if is_same x y && e == 0 && passes p then w p else st.parallel y e p) ≡ st.parallel y e p
    by true true same zero = absurd (differ (same_is x y same) (eqb-true e 0 zero))
    by true false same zero = ap (λ (c : Bool). if c && e == 0 && passes p then w p else st.parallel y e p) same ∙ ap (λ (c : Bool). if c && passes p then w p else st.parallel y e p) zero
    by false b same zero = ap (λ (c : Bool). if c && e == 0 && passes p then w p else st.parallel y e p) same

module _ (g : Setting) (places : PlacesFields g) (fields : HoldsTheFields g) (alive : Variable → Type 0) (x : Variable) (info : VarInfo) (set : ℕ) (d : Field) (carries : Carries g alive x info set d) where
  -- ---- its entry is apart from others

  -- that of a variable of the file stands at its field
  at_file : (k : ℕ) → IsElement g.typed k info d.set 0 → IsFileField g k 0 d → place g d ≡ of_file g k 0
  at_file k is own = places.file k 0 info d is (sym carries.len) own

  pub entry_and_below : (f : Field) → StandsBelow g.image g.placed g.number f → Apart (place g d) f
  unfolding IsEntryFor
  entry_and_below f there = by x carries.entry
    where
      by : (y : Variable) → IsEntryFor g y info d → Apart (place g d) f
      by (V.File k) is = subst (λ (h : Field). Apart h f) (sym (at_file k is.0 is.1)) (places.file_and_below k 0 d.set info f is.0 there)
      by (V.Local k) is = places.own_and_below d f is.own there
      by _ is = absurd is

  -- from elements of the file that are not the variable
  file_apart : (j other q : ℕ) (of : VarInfo) → IsElement g.typed j of q other → (x ≡ V.File j → other ≡ 0 → ⊥) → Apart (place g d) (of_file g j other)
  unfolding IsEntryFor
  file_apart j other q of which differ = by x carries.entry differ
    where
      by : (y : Variable) → IsEntryFor g y info d → (y ≡ V.File j → other ≡ 0 → ⊥) → Apart (place g d) (of_file g j other)
      by (V.File k) is differ = subst (λ (h : Field). Apart h (of_file g j other)) (sym (at_file k is.0 is.1)) (places.files_apart k 0 d.set j other q info of is.0 which (λ same zero. differ (ap V.File same) (sym zero)))
      by (V.Local k) is differ = places.own_file j other q of d which is.own
      by _ is differ = absurd is

  -- and from own ones of no variable, or of another, that are in use behind an instruction which names it
  own_apart : (h : Field) (first at : ℕ) → ((k : ℕ) → x ≡ V.Local k → IsLocalField g k info d → h.offset ≡ d.offset → ⊥) → IsOwnField g h → IsNamedAt g.unit h.offset first → first < at → ((span : Span) → IsInUse g.unit h.offset W.Own span → at + 1 ≤ span.last) → IsNamedAt g.unit d.offset at → Apart (place g d) (place g h)
  unfolding IsEntryFor
  own_apart h first at differ own begins early late named = by x carries.entry differ
    where
      by : (y : Variable) → IsEntryFor g y info d → ((k : ℕ) → y ≡ V.Local k → IsLocalField g k info d → h.offset ≡ d.offset → ⊥) → Apart (place g d) (place g h)
      by (V.File k) is differ = subst (λ (f : Field). Apart f (place g h)) (sym (at_file k is.0 is.1)) (apart_back (place g h) (of_file g k 0) (places.own_file k 0 d.set info h is.0 own))
      by (V.Local k) is differ = apart_back (place g h) (place g d) (places.owns_apart_at h d first at (differ k refl is) own is.own (subst (λ (n : ℕ). n < length (shapes g)) (sym carries.of_set) carries.exists) begins early late named)
      by _ is differ = absurd is

  module _ (living : alive x) where
    open_one : (k : ℕ) → x ≡ V.Local k → IsLocalField g k info d → OpenAmong g alive k
    open_one k same is = (subst alive same living, (info, (d.set, (is.known, is.parallel))))

    pub entry_apart : (h : Field) (first at last : ℕ) → IsNoHome g (OpenAmong g alive) h.offset → IsOwnField g h → IsNamedAt g.unit h.offset first → first < at → IsNamedAt g.unit h.offset last → at + 1 ≤ last → IsNamedAt g.unit d.offset at → Apart (place g d) (place g h)
    entry_apart h first at last none own begins early ends late named =
        own_apart h first at (λ k same is alike. none k d.offset (open_one k same is) is.home (sym alike)) own begins early (λ span held. let most = (held.named last ends).1 in omega (arith, most, late)) named

    -- ---- what is left

    module _ (s : CodeState) (st : State) (sim : Sim g alive st s) (w : Write) (run : w.run ≡ place g d) (there to : ℕ) (here : At g s there) (later : s.at + 1 ≤ to) (named : IsNamedAt g.unit d.offset there) (passes : ℕ → Bool) (value : ℕ → ℕ) where
      abbrev behind : BitMemory
      behind = written w s.memory

      abbrev u : State
      u = with_positions x 0 passes value st

      -- the memory has there what the state has
      abbrev pub HasThem : Type 0
      HasThem = (p : ℕ) → p < processors (shapes g) set → field_number behind (place g d) p ≡ u.parallel x 0 p

      elsewhere : (f : Field) (p : ℕ) → Apart (place g d) f → field_number behind f p ≡ field_number s.memory f p
      elsewhere f p apart = field_apart w s.memory f p (subst (λ (h : Field). Apart h f) (sym run) apart)

      was : HoldsFields g.typed g.image fields.active st s.memory
      was = fields.opens (OpenAmong g alive) s.at st s.memory sim.memory

      winner_still : behind.winner ≡ st.winner
      unfolding written
      winner_still = was.winner

      module _ (has : HasThem) (small : (p : ℕ) → value p < 2 ^ info.elem.bits) where
        own_few : (p : ℕ) → u.parallel x 0 p < 2 ^ info.elem.bits
        own_few p = by (passes p) refl
          where
            by : (b : Bool) → passes p ≡ b → u.parallel x 0 p < 2 ^ info.elem.bits
            by true on = subst (λ (n : ℕ). n < 2 ^ info.elem.bits) (sym (taken_there x passes value p st on)) (small p)
            by false off = subst (λ (n : ℕ). n < 2 ^ info.elem.bits) (sym (kept_there x passes value p st off)) (carries.small st s sim p)

        -- an element of the file is the variable, or it stays
        of_element : (j other q : ℕ) (of : VarInfo) → IsElement g.typed j of q other → (p : ℕ) → (p < processors (shapes g) q → field_number behind (of_file g j other) p ≡ u.parallel (V.File j) other p) × (u.parallel (V.File j) other p < 2 ^ of.elem.bits)
        unfolding IsEntryFor
        of_element j other q of which p = by (is_same x (V.File j)) (other == 0) refl refl
          where
            Holds : ℕ → Type 0
            Holds e = (p < processors (shapes g) q → field_number behind (of_file g j e) p ≡ u.parallel (V.File j) e p) × (u.parallel (V.File j) e p < 2 ^ of.elem.bits)

            stays : (x ≡ V.File j → other ≡ 0 → ⊥) → Holds other
            stays differ =
                let same : u.parallel (V.File j) other p ≡ st.parallel (V.File j) other p = other_kept x (V.File j) other passes value p st differ in (
                  λ below. elsewhere (of_file g j other) p (file_apart j other q of which differ) ∙ was.numbers j other q p of which below ∙ sym same,
                  subst (λ (n : ℕ). n < 2 ^ of.elem.bits) (sym same) (was.small j other q p of which),
                )

            is_it : x ≡ V.File j → Holds 0
            is_it same =
                let entry : IsEntryFor g (V.File j) info d = subst (λ (y : Variable). IsEntryFor g y info d) same carries.entry in
                let infos : of ≡ info = some_same of info (sym which.known ∙ entry.0.known) in
                let sets : q ≡ set = some_same q d.set (sym which.parallel ∙ ap (λ (i : VarInfo). i.shape) infos ∙ entry.0.parallel) ∙ carries.of_set in (
                  λ below. ap (λ (f : Field). field_number behind f p) (sym (at_file j entry.0 entry.1)) ∙ has p (subst (λ (n : ℕ). p < processors (shapes g) n) sets below) ∙ ap (λ (y : Variable). u.parallel y 0 p) same,
                  subst (λ (y : Variable). u.parallel y 0 p < 2 ^ of.elem.bits) same (subst (λ (i : VarInfo). u.parallel x 0 p < 2 ^ i.elem.bits) (sym infos) (own_few p)),
                )

            by : (a b : Bool) → is_same x (V.File j) ≡ a → (other == 0) ≡ b → Holds other
            by true true same zero = subst Holds (sym (eqb-true other 0 zero)) (is_it (same_is x (V.File j) same))
            by true false same zero = stays (λ equal none. let wrong = sym zero ∙ ap (λ (n : ℕ). n == 0) none in cc)
            by false b same zero = stays (λ equal none. let wrong = sym same ∙ ap (λ (y : Variable). is_same y (V.File j)) equal ∙ same_itself (V.File j) in cc)

        -- and so is an open variable of a block
        of_locals : HaveTheirOwn g (OpenAmong g alive) → HoldsLocals g (OpenAmong g alive) to u behind
        unfolding IsEntryFor
        of_locals their_own j living_one = by (is_same x (V.Local j)) refl
          where
            held : HoldsLocals g (OpenAmong g alive) s.at st s.memory
            held = fields.locals (OpenAmong g alive) s.at st s.memory sim.memory

            Holding : Type 0
            Holding = (of : VarInfo) × ((f : Field) × (IsLocalField g j of f × HoldsLocal g j of f to u behind))

            stays : (x ≡ V.Local j → ⊥) → Holding
            stays unlike =
                locals_on g (λ i. OpenAmong g alive i × (x ≡ V.Local i → ⊥)) s.at to st u s.memory behind (omega (arith, later))
                (λ i of f both is holds used p below. elsewhere (place g f) p (own_apart f holds.first there (λ k same own alike. their_own i k f.offset d.offset both.0 (open_one k same own) (λ equal. both.1 (same ∙ ap V.Local (sym equal))) is.home own.home alike) is.own holds.named (let early = holds.before in omega (arith, early, here))
                (λ span held_so. let late = used span held_so in omega (arith, late, here, later)) named)) (λ i both p. other_kept x (V.Local i) 0 passes value p st (λ same zero. both.1 same)) (λ i both. held i both.0) j (living_one, unlike)

            is_it : x ≡ V.Local j → Holding
            is_it same =
                let entry : IsLocalField g j info d = subst (λ (y : Variable). IsEntryFor g y info d) same carries.entry in
                let (of, (f, (is, there_held))) = held j living_one in
                let one = same_local g j info of d f entry is in
                let mine : HoldsLocal g j info d s.at st s.memory = subst (λ (i : VarInfo). HoldsLocal g j i d s.at st s.memory) (sym one.0) (subst (λ (h : Field). HoldsLocal g j of h s.at st s.memory) (sym one.1) there_held) in (
                  info,
                  (
                    d,
                    (
                      entry,
                      record {
                        first = mine.first;
                        named = mine.named;
                        before = let early = mine.before in omega (arith, early, later);
                        exists = mine.exists;
                        ends = mine.ends;
                        small = λ p. subst (λ (y : Variable). u.parallel y 0 p < 2 ^ info.elem.bits) same (own_few p);
                        numbers = λ used p below. has p (subst (λ (n : ℕ). p < processors (shapes g) n) carries.of_set below) ∙ ap (λ (y : Variable). u.parallel y 0 p) same;
                      },
                    ),
                  ),
                )

            by : (b : Bool) → is_same x (V.Local j) ≡ b → Holding
            by true same = is_it (same_is x (V.Local j) same)
            by false other = stays (λ equal. let wrong = sym other ∙ ap (λ (y : Variable). is_same y (V.Local j)) equal ∙ same_itself (V.Local j) in cc)

        pub variable_sim : HaveTheirOwn g (OpenAmong g alive) → Sim g alive u (record s { at = to; memory = behind })
        unfolding with_positions
        variable_sim their_own =
            with_memory g places fields alive st u s to w refl refl refl refl refl (record {
              numbers = λ j other q p of which below. (of_element j other q of which p).0 below;
              small = λ j other q p of which. (of_element j other q of which p).1;
              flags = λ q p within below. active_apart (shapes g) w s.memory q p (subst (λ (f : Field). f.offset + f.len ≤ bits_at (shapes g) f.set) (sym run) carries.ends) ∙ was.flags q p within below;
              winner = winner_still;
              bits = bits_written (shapes g) w s.memory was.bits;
            }) (of_locals their_own) sim

    -- where it takes the lowest bits of words at active positions
    pub takes_has : (s : CodeState) (st : State) (sim : Sim g alive st s) (v value : ℕ → ℕ) (takes : Takes g set d s v) (there to : ℕ) (here : At g s there) (later : s.at + 1 ≤ to) (named : IsNamedAt g.unit d.offset there) → ((p : ℕ) → p < processors (shapes g) set → v p < 2 ^ 32 → value p ≡ v p % 2 ^ info.elem.bits)
        → HasThem s st sim takes.write takes.run there to here later named (fields.active set) value
    takes_has s st sim v value takes there to here later named same p below = by (fields.active set p) refl
      where
        exists : d.set < length (shapes g)
        exists = subst (λ (n : ℕ). n < length (shapes g)) (sym carries.of_set) carries.exists

        by : (b : Bool) → fields.active set p ≡ b → field_number (written takes.write s.memory) (place g d) p ≡ (with_positions x 0 (fields.active set) value st).parallel x 0 p
        by true on =
            value_is g places fields alive set d s st v sim carries.of_set exists carries.ends takes p below on
            ∙ ap (λ (n : ℕ). v p % 2 ^ n) carries.len ∙ sym (same p below (few g places fields alive set d s st v sim carries.of_set exists carries.ends takes p below on)) ∙ sym (taken_there x (fields.active set) value p st on)
        by false off =
            field_kept takes.write s.memory (place g d) p (writes_where g places fields alive set d s st v sim carries.of_set exists carries.ends takes p below ∙ off)
            ∙ carries.numbers st s sim there named (omega (arith, here)) p below ∙ sym (kept_there x (fields.active set) value p st off)

    -- code that comes last and writes it
    pub writes_leave : (d0 e f : Draft) (s : CodeState) (st : State) (used : Type 0) (p : PassesTests g alive d0 e s st used) → used → (w : Write) (last : WritesBehind g d e f p.t w) (passes : ℕ → Bool) (value : ℕ → ℕ) → HasThem p.t st p.sim w last.run (length e.code) last.place p.at.stands last.later last.named passes value → ((q : ℕ) → value q < 2 ^ info.elem.bits)
        → Leaves g alive d0 f s (with_positions x 0 passes value st)
    writes_leave d0 e f s st used p wanted w last passes value has small =
        let behind : CodeState = record p.t { at = last.place; memory = written w p.t.memory } in
        let longer = code_longer e f last.more.0 last.more.1 in
        record {
          grown = (p.grown.0 + last.more.0, extended d0 e f p.grown.0 last.more.0 p.grown.1 last.more.1);
          t = behind;
          go = onto g s p.t behind p.go last.go;
          at = starts_later g alive p.t behind (length e.code) e.regs (length e.fields) (length f.code) f.regs (length f.fields) longer last.more.1.regs (fields_longer e f last.more.0 last.more.1) last.at p.at;
          registers = p.registers;
          sim = variable_sim p.t st p.sim w last.run (length e.code) last.place p.at.stands last.later last.named passes value has small p.at.opened.1;
          stays = λ h first final q none below own ends before low after high.
              elsewhere p.t st p.sim w last.run (length e.code) last.place p.at.stands last.later last.named passes value (place g h) q
              (entry_apart h first (length e.code) final none own before (let more = code_longer d0 e p.grown.0 p.grown.1 in omega (arith, low, more)) after (let on = last.later in let there = last.at in let first_at = p.at.stands in omega (arith, high, on, there, first_at)) last.named)
              ∙ p.stays wanted h first final q below own ends before low after (omega (arith, high, longer));
        }

-- an entry that is taken before it is no part of the code
pub leaves_from : (g : Setting) (alive : Variable → Type 0) (d e f : Draft) (s : CodeState) (u : State) → Extended d 0 e → Leaves g alive e f s u → Leaves g alive d f s u
leaves_from g alive d e f s u taken a = record {
  grown = (0 + a.grown.0, extended d e f 0 a.grown.0 taken a.grown.1);
  t = a.t;
  go = a.go;
  at = a.at;
  registers = keeps_less g d e s a.t taken.regs a.registers;
  sim = a.sim;
  stays = λ h first last p none below own ends before low after high.
      let longer = code_longer d e 0 taken in
      let more = fields_longer d e 0 taken in
      a.stays h first last p none (omega (arith, below, more)) own ends before (omega (arith, low, longer)) after high;
}
