-- Code of a parallel expression as it grows: what it leaves of what stood before it, and where its value stands.
use Rattle.std.proofs.Common.{◌≡◌, ◌∙◌, ℕ, ◌+◌, ◌<◌, ◌≤◌, ◌%◌, true, List, ◌∷◌, ◌++◌, Any, length, refl, sym, ap, subst, arith, ◌^◌, ◌⊎◌, inl, inr, length-append, slice_index}
use Rattle.cstar_tree.specs.declared.typed.VarInfo.{VarInfo}
use Rattle.cstar_tree.specs.declared.typed.Variable.{Variable}
use Rattle.lower_base.specs.Drafts.{Draft, Fails, Made, Makes, then_make, with_instr}
use Rattle.paris_code.specs.declared.instr.Instr.{Instr}
use Rattle.paris_code.specs.declared.operands.Field.{Field}
use Rattle.paris_code.specs.Code.{CodeState}
use Rattle.paris_code.specs.Memory.{is_active, processors}
use Rattle.paris_code.specs.Shapes.{bits_at}
use Rattle.paris_code.specs.Spans.{IsNamedAt, StandsAt, entry_of, fields_of}
use Rattle.source_meaning.specs.State.{State}
use Rattle.phase_meaning.proofs.Widths.{cut_cut}
use Rattle.code_follows.proofs.Following.{Extends, Keeps, Sim, held, keeps_all, keeps_less, keeps_on}
use Rattle.code_follows.proofs.Growing.{Extended, as_it_was, extended}
use Rattle.code_follows.proofs.Jumping.{moved_to, sim_moved}
use Rattle.code_follows.proofs.Settings.{OpenAmong, At, Reaches, Setting, Within, and_one, code_more, earlier, onto, start, stay}
use Rattle.fields_follow.proofs.Bits.{first_number}
use Rattle.fields_follow.proofs.Instructions.{AreAlike, HasNumbers, Puts, has_alike, number_in, place, shapes}
use Rattle.fields_follow.proofs.Leaving.{EndsBelow}
use Rattle.fields_follow.proofs.Lengths.{held_first}
use Rattle.fields_follow.proofs.Places.{HoldsTheFields, IsOwnField, PlacesFields, names_first}
use Rattle.fields_follow.proofs.Variables.{Carries}
use Rattle.fields_follow.proofs.Writing.{Lands, PutsNext, lands_behind, next_written, puts_next}
use Rattle.fields_follow.proofs.Starts.{Starts, starts_later, starts_next}
use Rattle.fields_follow.proofs.Locals.{IsNoHome}

longer : {A : Type 0} (xs ys zs : List A) → ys ≡ xs ++ zs → length xs ≤ length ys
longer xs ys zs e = let l : length ys ≡ length xs + length zs = ap length e ∙ length-append xs zs in omega (arith, l)

pub code_longer : (d e : Draft) (n : ℕ) → Extended d n e → length d.code ≤ length e.code
code_longer d e n x = longer d.code e.code x.more x.code

pub fields_longer : (d e : Draft) (n : ℕ) → Extended d n e → length d.fields ≤ length e.fields
fields_longer d e n x = longer d.fields e.fields x.entries x.fields

module _ (g : Setting) where
  -- where code is made that is within the unit, this is said of it
  unfoldable pub After : {A : Type 0} → (A → Draft → Type 0) → Made A → Type 0
  After R (Makes x e) = Within g e → R x e
  After R Fails = Unit {0}

  pub then_after : {A B : Type 0} (R : A → Draft → Type 0) (Q : B → Draft → Type 0) (made : Made A) (next : A → Draft → Made B) → After R made → ((x : A) (e : Draft) → Extends g e (next x e)) → ((x : A) (e : Draft) → R x e → After Q (next x e)) → After Q (then_make made next)
  unfolding After Extends then_make
  then_after R Q (Makes x e) next h grows f = by (next x e) (grows x e) (λ r. f x e r)
    where
      by : (made : Made _) → Extends g e made → (R x e → After Q made) → After Q made
      by (Makes y f) longer then = λ w. then (h (earlier g e f longer.0 longer.1 w)) w
      by Fails longer then = tt
  then_after R Q Fails next h grows f = tt

  pub after_same : {A : Type 0} (R : A → Draft → Type 0) {made alike : Made A} → made ≡ alike → After R alike → After R made
  after_same R same h = subst (λ (m : Made _). After R m) (sym same) h

  pub made_after : {A : Type 0} (R : A → Draft → Type 0) (x : A) (e : Draft) → (Within g e → R x e) → After R (Makes x e)
  unfolding After
  made_after R x e h = h

  -- where none is made, nothing is said
  pub nothing_after : {A : Type 0} (R : A → Draft → Type 0) → After R Fails
  unfolding After
  nothing_after R = tt

  pub after_weaker : {A : Type 0} (R Q : A → Draft → Type 0) (made : Made A) → ((x : A) (e : Draft) → R x e → Q x e) → After R made → After Q made
  unfolding After
  after_weaker R Q (Makes x e) f h = λ w. f x e (h w)
  after_weaker R Q Fails f h = tt

  -- its second, and its third
  pub names_second : (i : Instr) (first f : Field) (others : List Field) (at : ℕ) → StandsAt g.unit at i → fields_of i ≡ first ∷ f ∷ others → IsNamedAt g.unit f.offset at
  names_second i first f others at there names = (i, there, subst (λ (xs : List Field). Any (λ (h : Field). entry_of h ≡ f.offset) xs) (sym names) (1, f, omega arith, refl, refl))

  pub names_third : (i : Instr) (first second f : Field) (others : List Field) (at : ℕ) → StandsAt g.unit at i → fields_of i ≡ first ∷ second ∷ f ∷ others → IsNamedAt g.unit f.offset at
  names_third i first second f others at there names = (i, there, subst (λ (xs : List Field). Any (λ (h : Field). entry_of h ≡ f.offset) xs) (sym names) (2, f, omega arith, refl, refl))

  -- a field is named behind a draft
  abbrev pub Behind : Field → Draft → Type 0
  Behind f e = (later : ℕ) × (IsNamedAt g.unit f.offset later × (length e.code ≤ later))

  -- so it is at the place where the code stands, or behind it
  there_behind : (t : CodeState) (e : Draft) (later : ℕ) → At g t (length e.code) → length e.code ≤ later → t.at ≤ start g + later
  there_behind t e later there behind = omega (arith, there, behind)

  module _ (alive : Variable → Type 0) where
    -- The code from one draft to another leaves the registers that are kept, the state and, if its answer is used, what
    -- stands in own entries below a number, and below the flags, that are named before it and behind it.
    pub record Passes (bound : ℕ) (d e : Draft) (s : CodeState) (st : State) (used : Type 0) : Type 0 where
      pub grown : (n : ℕ) × Extended d n e
      pub t : CodeState
      pub go : Reaches g s t
      pub at : Starts g alive t (length e.code) e.regs (length e.fields)
      pub registers : Keeps g d s t
      pub sim : Sim g alive st t
      pub stays : used → (h : Field) (first last p : ℕ) → h.offset < bound → IsOwnField g h → EndsBelow g h → IsNamedAt g.unit h.offset first → first < length d.code → IsNamedAt g.unit h.offset last → length e.code ≤ last → number_in g h t p ≡ number_in g h s p

    abbrev pub passes_all : (bound : ℕ) (d : Draft) (s : CodeState) (st : State) (used : Type 0) → Starts g alive s (length d.code) d.regs (length d.fields) → Sim g alive st s → Passes bound d d s st used
    passes_all bound d s st used here sim = record {
      grown = (0, as_it_was d);
      t = s;
      go = stay g s;
      at = here;
      registers = keeps_all g d s;
      sim = sim;
      stays = λ wanted h first last p below own ends before low after high. refl;
    }

    -- one piece, and another behind it
    unfoldable pub passes_on : (bound other : ℕ) (d e f : Draft) (s : CodeState) (st : State) (one two both : Type 0) → bound ≤ other → (a : Passes bound d e s st one) → Passes other e f a.t st two → (both → one) → (both → two) → Passes bound d f s st both
    passes_on bound other d e f s st one two both more a b use_one use_two = record {
      grown = (a.grown.0 + b.grown.0, extended d e f a.grown.0 b.grown.0 a.grown.1 b.grown.1);
      t = b.t;
      go = onto g s a.t b.t a.go b.go;
      at = b.at;
      registers = keeps_on g d e a.grown.0 s a.t b.t a.grown.1 a.registers b.registers;
      sim = b.sim;
      stays = λ wanted h first last p below own ends before low after high.
          b.stays (use_two wanted) h first last p (omega (arith, below, more)) own ends before (let l = code_longer d e a.grown.0 a.grown.1 in omega (arith, low, l)) after high
          ∙ a.stays (use_one wanted) h first last p below own ends before low after (let l = code_longer e f b.grown.0 b.grown.1 in omega (arith, high, l));
    }

    -- a piece, and a jump behind it over code
    abbrev pub passes_moved : (bound : ℕ) (d e f : Draft) (s : CodeState) (st : State) (used : Type 0) (p : Passes bound d e s st used) (k : ℕ) → Extended e k f → (place : ℕ) → p.t.at ≤ place → Reaches g p.t (moved_to g alive place p.t) → At g (moved_to g alive place p.t) (length f.code) → Passes bound d f s st used
    passes_moved bound d e f s st used p k more place behind go there = record {
      grown = (p.grown.0 + k, extended d e f p.grown.0 k p.grown.1 more);
      t = moved_to g alive place p.t;
      go = onto g s p.t (moved_to g alive place p.t) p.go go;
      at = starts_later g alive p.t (moved_to g alive place p.t) (length e.code) e.regs (length e.fields) (length f.code) f.regs (length f.fields) (code_longer e f k more) more.regs (fields_longer e f k more) there p.at;
      registers = p.registers;
      sim = sim_moved g alive st p.t place behind p.sim;
      stays = λ wanted h first last q below own ends before low after high. p.stays wanted h first last q below own ends before low after (let l = code_longer e f k more in omega (arith, high, l));
    }

    -- entries and registers that are taken before it are no part of the code
    unfoldable pub passes_from : (bound : ℕ) (d e f : Draft) (s : CodeState) (st : State) (used : Type 0) → Extended d 0 e → Passes bound e f s st used → Passes bound d f s st used
    passes_from bound d e f s st used taken a = record {
      grown = (0 + a.grown.0, extended d e f 0 a.grown.0 taken a.grown.1);
      t = a.t;
      go = a.go;
      at = a.at;
      registers = keeps_less g d e s a.t taken.regs a.registers;
      sim = a.sim;
      stays = λ wanted h first last p below own ends before low after high. a.stays wanted h first last p below own ends before (let l = code_longer d e 0 taken in omega (arith, low, l)) after high;
    }

    -- entries below fewer stay too
    unfoldable pub passes_less : (bound other : ℕ) (d e : Draft) (s : CodeState) (st : State) (used : Type 0) → bound ≤ other → Passes other d e s st used → Passes bound d e s st used
    passes_less bound other d e s st used less p = record {
      grown = p.grown;
      t = p.t;
      go = p.go;
      at = p.at;
      registers = p.registers;
      sim = p.sim;
      stays = λ wanted h first last q below. p.stays wanted h first last q (omega (arith, below, less));
    }

    -- The lowest bits of words stand in an own entry that is new and named by now, in its first bits, or in the first bits
    -- of the field of a variable.
    pub record InOwn (bits bound : ℕ) (e : Draft) (set : ℕ) (f : Field) (t : CodeState) (v : ℕ → ℕ) : Type 0 where
      pub long : ℕ
      pub own : IsOwnField g (record f { len = long })
      pub fits : f.len ≤ long
      pub ends : (place g f).offset + long ≤ bits_at (shapes g) f.set
      pub newer : bound ≤ f.offset
      pub older : f.offset < length e.fields
      pub somewhere : ℕ
      pub named : IsNamedAt g.unit f.offset somewhere
      pub before : somewhere < length e.code
      pub has : HasNumbers g bits set f t v

    pub record InVariable (bits set : ℕ) (f : Field) (st : State) (v : ℕ → ℕ) : Type 0 where
      pub x : Variable
      pub info : VarInfo
      pub carries : Carries g alive x info set (record f { len = info.elem.bits })
      pub len : f.len ≡ bits
      pub fits : f.len ≤ info.elem.bits
      pub same : (p : ℕ) → p < processors (shapes g) set → (v p % 2 ^ bits ≡ held info.elem (st.parallel x 0 p) % 2 ^ bits) × (v p < 2 ^ 32)

    abbrev pub Stands : ℕ → ℕ → Draft → ℕ → Field → CodeState → State → (ℕ → ℕ) → Type 0
    Stands bits bound e set f t st v = InOwn bits bound e set f t v ⊎ InVariable bits set f st v

    -- if it stands in a variable, that has one bit
    abbrev pub HasOneBit : {bits bound : ℕ} {e : Draft} {set : ℕ} {f : Field} {t : CodeState} {st : State} {v : ℕ → ℕ} → Stands bits bound e set f t st v → Type 0
    HasOneBit h = elim h as (λ _. Type 0) [ inl own ↦ Unit {0} | inr variable ↦ variable.info.elem.bits ≡ 1 ]

    -- the field is given by code that passes, and it has the lowest bits of the words
    pub record GivesField (bits bound : ℕ) (d : Draft) (s : CodeState) (set : ℕ) (st : State) (v : ℕ → ℕ) (f : Field) (e : Draft) : Type 0 where
      pub passes : Passes bound d e s st (Behind f e)
      pub stands : Stands bits bound e set f passes.t st v

    -- an entry that is taken before it is no part of the code
    unfoldable pub gives_from : (bits bound : ℕ) (d e f : Draft) (s : CodeState) (set : ℕ) (st : State) (v : ℕ → ℕ) (h : Field) → Extended d 0 e → GivesField bits bound e s set st v h f → GivesField bits bound d s set st v h f
    unfolding passes_from
    gives_from bits bound d e f s set st v h taken gives = record { passes = passes_from bound d e f s st (Behind h f) taken gives.passes; stands = gives.stands }

    -- where the code lands it is given too
    pub gives_landed : (bits bound : ℕ) (d e f : Draft) (s : CodeState) (set : ℕ) (st : State) (v : ℕ → ℕ) (h : Field) → Lands g e f → (before : GivesField bits bound d s set st v h e) → (gives : GivesField bits bound d s set st v h f) × (HasOneBit before.stands → HasOneBit gives.stands)
    unfolding passes_on
    gives_landed bits bound d e f s set st v h lands gives = let (stands, narrow) = by gives.stands in (record { passes = passes; stands = stands }, narrow)
      where
        p : Passes bound d e s st (Behind h e)
        p = gives.passes

        code : length e.code ≤ length f.code
        code = code_longer e f lands.more.0 lands.more.1

        passes : Passes bound d f s st (Behind h f)
        passes =
            passes_on bound bound d e f s st (Behind h e) (Unit {0}) (Behind h f) (omega arith) p
            (passes_moved bound e e f p.t st (Unit {0}) (passes_all bound e p.t st (Unit {0}) p.at p.sim) lands.more.0 lands.more.1 (start g + length f.code) (lands_behind g e f p.t lands p.at.stands) (lands.go p.t p.at.stands) refl) (λ behind. (behind.0, (behind.1.0, (let late = behind.1.1 in omega (arith, late, code))))) (λ behind. tt)

        by : (x : Stands bits bound e set h p.t st v) → (y : Stands bits bound f set h passes.t st v) × (HasOneBit x → HasOneBit y)
        by (inl o) = (inl (record { long = o.long; own = o.own; fits = o.fits; ends = o.ends; newer = o.newer; older = (let l = fields_longer e f lands.more.0 lands.more.1 in let older = o.older in omega (arith, older, l)); somewhere = o.somewhere; named = o.named; before = (let before = o.before in omega (arith, before, code)); has = record { of_set = o.has.of_set; exists = o.has.exists; len = o.has.len; are = o.has.are; small = o.has.small } }), λ one. one)
        by (inr variable) = (inr variable, λ one. one)

    unfoldable pub stands_less : (bits bound other : ℕ) (e : Draft) (set : ℕ) (f : Field) (t : CodeState) (st : State) (v : ℕ → ℕ) → bound ≤ other → Stands bits other e set f t st v → Stands bits bound e set f t st v
    stands_less bits bound other e set f t st v less (inl h) = inl (record { long = h.long; own = h.own; fits = h.fits; ends = h.ends; newer = omega (arith, less, h.newer); older = h.older; somewhere = h.somewhere; named = h.named; before = h.before; has = h.has })
    stands_less bits bound other e set f t st v less (inr h) = inr h

    -- behind code that passes
    unfoldable pub gives_on : (bits bound other : ℕ) (d e f : Draft) (s : CodeState) (set : ℕ) (st : State) (v : ℕ → ℕ) (h : Field) (one : Type 0) → bound ≤ other → (a : Passes bound d e s st one) → (Behind h f → one) → GivesField bits other e a.t set st v h f → GivesField bits bound d s set st v h f
    unfolding passes_on
    gives_on bits bound other d e f s set st v h one less a wanted gives = record {
      passes = passes_on bound other d e f s st one (Behind h f) (Behind h f) less a gives.passes wanted (λ behind. behind);
      stands = stands_less bits bound other f set h gives.passes.t st v less gives.stands;
    }

    module _ (places : PlacesFields g) (fields : HoldsTheFields g) where
      -- which positions are active
      pub flags_of : (st : State) (t : CodeState) (set p : ℕ) → Sim g alive st t → set < length (shapes g) → p < processors (shapes g) set → is_active (shapes g) t.memory set p ≡ fields.active set p
      flags_of st t set p sim exists below = (fields.opens (OpenAmong g alive) t.at st t.memory sim.memory).flags set p exists below

      -- first bits of a field have the lowest bits of its number
      pub first_there : (set : ℕ) (f : Field) (long : ℕ) (st : State) (t : CodeState) → Sim g alive st t → f.set ≡ set → set < length (shapes g) → f.len ≤ long → (place g f).offset + long ≤ bits_at (shapes g) f.set → (p : ℕ) → p < processors (shapes g) set
          → number_in g f t p ≡ number_in g (record f { len = long }) t p % 2 ^ f.len
      first_there set f long st t sim of_set exists fits ends p below =
          first_number (shapes g) t.memory (place g (record f { len = long })) p f.len (fields.opens (OpenAmong g alive) t.at st t.memory sim.memory).bits (subst (λ (n : ℕ). n < length (shapes g)) (sym of_set) exists) (subst (λ (n : ℕ). p < processors (shapes g) n) (sym of_set) below) ends fits

      -- first bits of a variable's field have the lowest bits of its words, where the field has its numbers
      pub first_words : (x : Variable) (info : VarInfo) (set : ℕ) (f : Field) (st : State) (t : CodeState) → Carries g alive x info set (record f { len = info.elem.bits }) → f.len ≤ info.elem.bits → Sim g alive st t → (p : ℕ) → p < processors (shapes g) set
          → number_in g (record f { len = info.elem.bits }) t p ≡ st.parallel x 0 p → number_in g f t p ≡ held info.elem (st.parallel x 0 p) % 2 ^ f.len
      first_words x info set f st t carries fits sim p below there =
          first_there set f info.elem.bits st t sim carries.of_set carries.exists fits carries.ends p below
          ∙ ap (λ (n : ℕ). n % 2 ^ f.len) there ∙ sym (held_first info.elem (st.parallel x 0 p) f.len (carries.small st t sim p) fits)

      -- so the words of a variable are there at every position, where an instruction names its field at this place or behind it
      pub in_variable_numbers : (bits set : ℕ) (f : Field) (st : State) (v : ℕ → ℕ) (t : CodeState) → InVariable bits set f st v → Sim g alive st t → (later : ℕ) → IsNamedAt g.unit f.offset later → t.at ≤ start g + later → (p : ℕ) → p < processors (shapes g) set → (number_in g f t p ≡ v p % 2 ^ bits) × (v p < 2 ^ 32)
      in_variable_numbers bits set f st v t h sim later named behind p below = (
        first_words h.x h.info set f st t h.carries h.fits sim p below (h.carries.numbers st t sim later named behind p below)
            ∙ ap (λ (n : ℕ). held h.info.elem (st.parallel h.x 0 p) % 2 ^ n) h.len ∙ sym (h.same p below).0,
        (h.same p below).1,
      )

      pub in_variable_has : (bits set : ℕ) (f : Field) (st : State) (v : ℕ → ℕ) (t : CodeState) → InVariable bits set f st v → Sim g alive st t → (later : ℕ) → IsNamedAt g.unit f.offset later → t.at ≤ start g + later → HasNumbers g bits set f t v
      in_variable_has bits set f st v t h sim later named behind = record {
        of_set = h.carries.of_set;
        exists = h.carries.exists;
        len = h.len;
        are = λ p below on. (in_variable_numbers bits set f st v t h sim later named behind p below).0;
        small = λ p below on. (h.same p below).1;
      }

      -- so the numbers are there at once, where an instruction names the field behind the code
      pub gives_numbers : (bits bound : ℕ) (d : Draft) (s : CodeState) (set : ℕ) (st : State) (v : ℕ → ℕ) (f : Field) (e : Draft) → (h : GivesField bits bound d s set st v f e) → Behind f e → HasNumbers g bits set f h.passes.t v
      gives_numbers bits bound d s set st v f e h behind = by h.stands
        where
          by : Stands bits bound e set f h.passes.t st v → HasNumbers g bits set f h.passes.t v
          by (inl own) = own.has
          by (inr variable) = in_variable_has bits set f st v h.passes.t variable h.passes.sim behind.0 behind.1.0 (there_behind h.passes.t e behind.0 h.passes.at.stands behind.1.1)

      -- its set, and how many bits it has
      pub gives_set : (bits bound : ℕ) (d : Draft) (s : CodeState) (set : ℕ) (st : State) (v : ℕ → ℕ) (f : Field) (e : Draft) → GivesField bits bound d s set st v f e → (f.set ≡ set) × (set < length (shapes g)) × (f.len ≡ bits)
      gives_set bits bound d s set st v f e h = by h.stands
        where
          by : Stands bits bound e set f h.passes.t st v → (f.set ≡ set) × (set < length (shapes g)) × (f.len ≡ bits)
          by (inl own) = (own.has.of_set, own.has.exists, own.has.len)
          by (inr variable) = (variable.carries.of_set, variable.carries.exists, variable.len)

      -- other words with the same lowest bits are there too
      pub gives_alike : (bits bound : ℕ) (d : Draft) (s : CodeState) (set : ℕ) (st : State) (v w : ℕ → ℕ) (f : Field) (e : Draft) → AreAlike g bits set v w → (h : GivesField bits bound d s set st v f e) → (gives : GivesField bits bound d s set st w f e) × (HasOneBit h.stands → HasOneBit gives.stands)
      gives_alike bits bound d s set st v w f e alike h = let (stands, narrow) = by h.stands in (record { passes = h.passes; stands = stands }, narrow)
        where
          by : (x : Stands bits bound e set f h.passes.t st v) → (y : Stands bits bound e set f h.passes.t st w) × (HasOneBit x → HasOneBit y)
          by (inl own) = (inl (record { long = own.long; own = own.own; fits = own.fits; ends = own.ends; newer = own.newer; older = own.older; somewhere = own.somewhere; named = own.named; before = own.before; has = has_alike g bits set f h.passes.t v w alike own.has }), λ one. one)
          by (inr variable) = (inr (record { x = variable.x; info = variable.info; carries = variable.carries; len = variable.len; fits = variable.fits; same = λ p below. let same = variable.same p below in let other = alike p below same.1 in (other.0 ∙ same.0, other.1) }), λ one. one)

      -- fewer bits of a field that is given
      pub gives_first : (bits fewer bound : ℕ) (d : Draft) (s : CodeState) (set : ℕ) (st : State) (v : ℕ → ℕ) (f : Field) (e : Draft) → fewer ≤ bits → (h : GivesField bits bound d s set st v f e) → (gives : GivesField fewer bound d s set st v (record f { len = fewer }) e) × (HasOneBit h.stands → HasOneBit gives.stands)
      gives_first bits fewer bound d s set st v f e less h = let (stands, narrow) = by h.stands in (record { passes = h.passes; stands = stands }, narrow)
        where
          by : (x : Stands bits bound e set f h.passes.t st v) → (y : Stands fewer bound e set (record f { len = fewer }) h.passes.t st v) × (HasOneBit x → HasOneBit y)
          by (inl own) =
              let fits : fewer ≤ f.len = subst (λ (n : ℕ). fewer ≤ n) (sym own.has.len) less in (
                inl (record {
                  long = own.long;
                  own = own.own;
                  fits = omega (arith, fits, own.fits);
                  ends = own.ends;
                  newer = own.newer;
                  older = own.older;
                  somewhere = own.somewhere;
                  named = own.named;
                  before = own.before;
                  has = record {
                    of_set = own.has.of_set;
                    exists = own.has.exists;
                    len = refl;
                    are = λ p below on.
                        first_there set (record f { len = fewer }) f.len st h.passes.t h.passes.sim own.has.of_set own.has.exists fits (omega (arith, own.ends, own.fits)) p below
                        ∙ ap (λ (n : ℕ). n % 2 ^ fewer) (own.has.are p below on) ∙ cut_cut (v p) fewer bits less;
                    small = own.has.small;
                  };
                }),
                λ one. one,
              )
          by (inr variable) = (inr (record { x = variable.x; info = variable.info; carries = variable.carries; len = refl; fits = (let whole = subst (λ (n : ℕ). n ≤ variable.info.elem.bits) variable.len variable.fits in omega (arith, less, whole)); same = λ p below. (sym (cut_cut (v p) fewer bits less) ∙ ap (λ (n : ℕ). n % 2 ^ fewer) (variable.same p below).0 ∙ cut_cut (held variable.info.elem (st.parallel variable.x 0 p)) fewer bits less, (variable.same p below).1) }), λ one. one)

      -- and behind code that passes, where an instruction names the field then
      pub still_numbers : (bits bound other : ℕ) (d : Draft) (s : CodeState) (set : ℕ) (st : State) (v : ℕ → ℕ) (f : Field) (e e2 : Draft) (used : Type 0) → (h : GivesField bits bound d s set st v f e) → (b : Passes other e e2 h.passes.t st used) → used → length e.fields ≤ other → Behind f e2
          → HasNumbers g bits set f b.t v
      still_numbers bits bound other d s set st v f e e2 used h b wanted more behind = by h.stands
        where
          by : Stands bits bound e set f h.passes.t st v → HasNumbers g bits set f b.t v
          by (inl own) = record {
            of_set = own.has.of_set;
            exists = own.has.exists;
            len = own.has.len;
            are = λ p below on.
                first_there set f own.long st b.t b.sim own.has.of_set own.has.exists own.fits own.ends p below
                ∙ ap (λ (n : ℕ). n % 2 ^ f.len) (b.stays wanted (record f { len = own.long }) own.somewhere behind.0 p (let l = own.older in omega (arith, l, more)) own.own own.ends own.named own.before behind.1.0 behind.1.1)
                ∙ sym (first_there set f own.long st h.passes.t h.passes.sim own.has.of_set own.has.exists own.fits own.ends p below)
                ∙ own.has.are p below (was_on own.has.exists p below on);
            small = λ p below on. own.has.small p below (was_on own.has.exists p below on);
          }
            where
              was_on : set < length (shapes g) → (p : ℕ) → p < processors (shapes g) set → is_active (shapes g) b.t.memory set p ≡ true → is_active (shapes g) h.passes.t.memory set p ≡ true
              was_on exists p below on = flags_of st h.passes.t set p h.passes.sim exists below ∙ sym (flags_of st b.t set p b.sim exists below) ∙ on
          by (inr variable) = in_variable_has bits set f st v b.t variable b.sim behind.0 behind.1.0 (there_behind b.t e2 behind.0 b.at.stands behind.1.1)

      -- an instruction by which an own entry takes numbers
      unfoldable pub next_own : (bits bound : ℕ) (set : ℕ) (i : Instr) (d : Field) (e : Draft) (s : CodeState) (st : State) (v : ℕ → ℕ) → bound ≤ d.offset → d.offset < length e.fields → IsOwnField g d → IsNoHome g (OpenAmong g alive) d.offset → d.set ≡ set → d.len ≡ bits
          → Starts g alive s (length e.code) e.regs (length e.fields) → Sim g alive st s → PutsNext g places fields alive set i d e s v → GivesField bits bound e s set st v d (with_instr i e)
      next_own bits bound set i d e s st v newer older own none of_set long here sim next =
          let w = next_written g places fields alive set i d e s st v here.stands sim of_set next own none in
          let x : Extended e 1 (with_instr i e) = and_one g i e in
          let longer : length (with_instr i e).code ≡ length e.code + 1 = code_more g i e in
          record {
            passes = record {
              grown = (1, x);
              t = w.t;
              go = w.go;
              at = starts_next g alive i e s w.t w.at here;
              registers = λ r kept. ap (λ (registers : List ℕ). slice_index registers r) w.registers;
              sim = w.sim;
              stays = λ wanted h first last p below is_own ends before low after high.
                  w.stays (wanted.0, (wanted.1.0, let l = wanted.1.1 in omega (arith, l, longer))) h first last p (λ same. omega (arith, same, below, newer)) is_own before after (omega (arith, low)) (omega (arith, high, longer));
            };
            stands = inl (record {
              long = d.len;
              own = own;
              fits = omega arith;
              ends = next.ends.1;
              newer = newer;
              older = let l = fields_longer e (with_instr i e) 1 x in omega (arith, older, l);
              somewhere = length e.code;
              named = names_first g i d next.others (length e.code) next.there next.names;
              before = omega (arith, longer);
              has = subst (λ (n : ℕ). HasNumbers g n set d w.t v) long w.has;
            });
          }

      unfoldable pub puts_own : (bits bound : ℕ) (set : ℕ) (i : Instr) (d : Field) (e : Draft) (s : CodeState) (st : State) (v : ℕ → ℕ) → bound ≤ d.offset → d.offset < length e.fields → IsOwnField g d → IsNoHome g (OpenAmong g alive) d.offset → d.set ≡ set → d.len ≡ bits
          → Within g (with_instr i e) → Starts g alive s (length e.code) e.regs (length e.fields) → Sim g alive st s → Puts g set i d s v → GivesField bits bound e s set st v d (with_instr i e)
      puts_own bits bound set i d e s st v newer older own none of_set long within here sim puts = next_own bits bound set i d e s st v newer older own none of_set long here sim (puts_next g places fields alive set i d e s v within here.stands puts)
