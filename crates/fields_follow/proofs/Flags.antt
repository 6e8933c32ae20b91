-- What the instructions on contexts and test flags do.
use Rattle.std.proofs.Common.{◌≡◌, ◌≢◌, ◌∙◌, ℕ, ◌+◌, ◌-◌, ◌%◌, ◌<◌, ◌≤◌, ◌^◌, ◌⊎◌, inl, inr, Bool, true, false, not, ◌&&◌, ◌==◌, List, [], ◌∷◌, length, refl, sym, ap, subst, arith}
use Rattle.std.specs.Int.{bit_at, from_bool}
use Rattle.std.proofs.lemmas.Bool.{cases_eq}
use Rattle.std.proofs.lemmas.Nat.Bits.{bit_at_lowest}
use Rattle.cstar_tree.specs.declared.typed.Variable.{Variable}
use Rattle.constant_trees.proofs.Bringing.{both_true, left_false, right_false}
use Rattle.lower_base.specs.Drafts.{Draft, Plain, step as step_of, with_instr}
use Rattle.paris_code.specs.declared.instr.Instr.{Instr}
use Rattle.paris_code.specs.declared.instr.Instr.TheVariants as I
use Rattle.paris_code.specs.declared.operands.Field.{Field}
use Rattle.paris_code.specs.Code.{CodeState, Goes, applied, begun}
use Rattle.paris_code.specs.Meaning.{after}
use Rattle.paris_code.specs.Memory.{BitMemory, bit_run, context_run, field_number, is_active, is_tested, processors, test_run}
use Rattle.paris_code.specs.Shapes.{SetShape, bits_at}
use Rattle.paris_code.specs.Spans.{IsNamedAt, StandsAt, fields_of}
use Rattle.paris_code.specs.Writes.{Write, covers, written}
use Rattle.source_meaning.specs.State.{State}
use Rattle.source_meaning.specs.Values.{Active}
use Rattle.code_follows.proofs.Besides.{sim_saying}
use Rattle.code_follows.proofs.Following.{Sim}
use Rattle.code_follows.proofs.Settings.{OpenAmong, At, Reaches, Setting, Within, at_next, begins_here, one_writes, placed_instr}
use Rattle.fields_follow.proofs.Bits.{active_apart, bits_written, covers_flag, field_apart, field_written, if_false, if_true}
use Rattle.fields_follow.proofs.FileFields.{Apart, apart_back}
use Rattle.fields_follow.proofs.Instructions.{number_in, place, shapes, wrote}
use Rattle.fields_follow.proofs.Leaving.{EndsBelow, under}
use Rattle.fields_follow.proofs.Named.{NamesFields}
use Rattle.fields_follow.proofs.Places.{IsOwnField, PlacesFields, names_first, of_file, stands_here}
use Rattle.fields_follow.proofs.Locals.{IsNoHome}
use Rattle.fields_follow.proofs.LocalWrites.{behind_flags, behind_own_at}

-- the bit of a truth value
pub bit_is : (x : Bool) → (from_bool x % 2 == 1) ≡ x
bit_is true = refl
bit_is false = refl

pub bit_fits : (x : Bool) (len : ℕ) → len ≡ 1 → from_bool x % 2 ^ len ≡ from_bool x
bit_fits true len e = ap (λ (n : ℕ). 1 % 2 ^ n) e
bit_fits false len e = ap (λ (n : ℕ). 0 % 2 ^ n) e

-- ---- one bit of a set

-- a write to a run
abbrev pub written_to : Field → (ℕ → Bool) → (ℕ → ℕ) → Write
written_to run writes value = record { run = run; writes = writes; value = value }

covers_bit : (set index : ℕ) → covers (bit_run set index) set index ≡ true
unfolding covers
covers_bit set index = grind (arith)

covers_lower : (set index other : ℕ) → other < index → covers (bit_run set index) set other ≡ false
unfolding covers
covers_lower set index other h = grind (arith, h)

covers_other : (f : Field) (set index : ℕ) → (set ≡ f.set → ⊥) → covers f set index ≡ false
covers_other f set index differ = covers_flag f set index (λ same. absurd (differ (sym same)))

module _ (set index : ℕ) (writes : ℕ → Bool) (value : ℕ → ℕ) (m : BitMemory) (p : ℕ) where
  bit_taken : writes p ≡ true → (written (written_to (bit_run set index) writes value) m).bit set p index ≡ value p % 2
  unfolding written
  bit_taken e =
      if_true (covers (bit_run set index) set index && writes p) _ _ (both_true _ _ (covers_bit set index) e)
      ∙ ap (λ (k : ℕ). bit_at (value p) k) (let k : index - index ≡ 0 = omega arith in k) ∙ bit_at_lowest (value p)

  bit_kept : writes p ≡ false → (written (written_to (bit_run set index) writes value) m).bit set p index ≡ m.bit set p index
  unfolding written
  bit_kept e = if_false (covers (bit_run set index) set index && writes p) _ _ (right_false _ _ e)

-- a bit that a write doesn't reach
bit_apart : (w : Write) (m : BitMemory) (set p index : ℕ) → covers w.run set index ≡ false → (written w m).bit set p index ≡ m.bit set p index
unfolding written
bit_apart w m set p index e = if_false (covers w.run set index && w.writes p) _ _ (left_false _ _ e)

-- a write that ends below the flags leaves test flags
tested_apart : (shapes : List SetShape) (w : Write) (m : BitMemory) (set p : ℕ) → w.run.offset + w.run.len ≤ bits_at shapes w.run.set → is_tested shapes (written w m) set p ≡ is_tested shapes m set p
unfolding is_tested
tested_apart shapes w m set p ends =
    ap (λ (n : ℕ). n == 1) (bit_apart w m set p (bits_at shapes set + 1) (covers_flag w.run set (bits_at shapes set + 1) (λ same.
    let low : w.run.offset + w.run.len ≤ bits_at shapes set = subst (λ (n : ℕ). w.run.offset + w.run.len ≤ bits_at shapes n) same ends in omega (arith, low))))

-- what a write of a flag of a set does to the flags
module _ (shapes : List SetShape) (set : ℕ) (writes : ℕ → Bool) (value : ℕ → ℕ) (m : BitMemory) (p : ℕ) where
  abbrev to_context : BitMemory
  to_context = written (written_to (context_run shapes set) writes value) m

  abbrev to_test : BitMemory
  to_test = written (written_to (test_run shapes set) writes value) m

  context_taken : writes p ≡ true → is_active shapes to_context set p ≡ (value p % 2 == 1)
  unfolding is_active
  context_taken e = ap (λ (n : ℕ). n == 1) (bit_taken set (bits_at shapes set) writes value m p e)

  context_kept : writes p ≡ false → is_active shapes to_context set p ≡ is_active shapes m set p
  unfolding is_active
  context_kept e = ap (λ (n : ℕ). n == 1) (bit_kept set (bits_at shapes set) writes value m p e)

  context_other : (q : ℕ) → (q ≡ set → ⊥) → is_active shapes to_context q p ≡ is_active shapes m q p
  unfolding is_active
  context_other q differ = ap (λ (n : ℕ). n == 1) (bit_apart (written_to (context_run shapes set) writes value) m q p (bits_at shapes q) (covers_other (context_run shapes set) q (bits_at shapes q) differ))

  pub test_taken : writes p ≡ true → is_tested shapes to_test set p ≡ (value p % 2 == 1)
  unfolding is_tested
  test_taken e = ap (λ (n : ℕ). n == 1) (bit_taken set (bits_at shapes set + 1) writes value m p e)

  pub context_under_test : (q : ℕ) → is_active shapes to_test q p ≡ is_active shapes m q p
  unfolding is_active
  context_under_test q = ap (λ (n : ℕ). n == 1) (bit_apart (written_to (test_run shapes set) writes value) m q p (bits_at shapes q) (by (cases_eq q set)))
    where
      by : (q ≡ set) ⊎ (q ≢ set) → covers (test_run shapes set) q (bits_at shapes q) ≡ false
      by (inl same) = subst (λ (n : ℕ). covers (test_run shapes set) n (bits_at shapes n) ≡ false) (sym same) (covers_lower set (bits_at shapes set + 1) (bits_at shapes set) (omega arith))
      by (inr differ) = covers_other (test_run shapes set) q (bits_at shapes q) differ

module _ (g : Setting) (places : PlacesFields g) (alive : Variable → Type 0) (a : Active) where
  -- ---- a field takes flags

  -- Behind an instruction by which an own entry takes numbers at some positions: contexts and test flags are as they
  -- were, and so is what stands apart, and what stands in own entries that are named before and behind it, where this one
  -- is named behind it too.
  pub record Stored (set : ℕ) (d : Field) (e : Draft) (i : Instr) (s : CodeState) (st : State) (takes : ℕ → Type 0) (v : ℕ → ℕ) : Type 0 where
    pub t : CodeState
    pub go : Reaches g s t
    pub at : At g t (length (with_instr i e).code)
    pub registers : t.registers ≡ s.registers
    pub sim : Sim (under g a) alive st t
    pub exists : set < length (shapes g)
    pub ends : EndsBelow g d
    pub tests : (q p : ℕ) → is_tested (shapes g) t.memory q p ≡ is_tested (shapes g) s.memory q p
    pub has : (p : ℕ) → p < processors (shapes g) set → takes p → number_in g d t p ≡ v p
    pub beside : (h : Field) (p : ℕ) → Apart (place g d) (place g h) → number_in g h t p ≡ number_in g h s p
    pub stays : (h : Field) (first last later p : ℕ) → (h.offset ≡ d.offset → ⊥) → IsOwnField g h → IsNamedAt g.unit h.offset first → IsNamedAt g.unit h.offset last → first ≤ length e.code → length e.code < last
        → IsNamedAt g.unit d.offset later → length e.code < later → number_in g h t p ≡ number_in g h s p

  -- an instruction whose first field is an own entry, which it writes
  module _ (set : ℕ) (d : Field) (i : Instr) (others : List Field) (e : Draft) (s : CodeState) (st : State) (writes : ℕ → Bool) (value : ℕ → ℕ) (plain : step_of i ≡ Plain i) (simple : NamesFields i) (names : fields_of i ≡ d ∷ others)
      (goes : begun g.image (placed_instr g i) s ≡ Goes (wrote g (written_to (place g d) writes value) s)) (own : IsOwnField g d) (none : IsNoHome g (OpenAmong g alive) d.offset) (of_set : d.set ≡ set) (within : Within g (with_instr i e)) (here : At g s (length e.code)) (sim : Sim (under g a) alive st s) where
    abbrev write : Write
    write = written_to (place g d) writes value

    there : StandsAt g.unit (length e.code) i
    there = stands_here g i e within plain

    named_here : IsNamedAt g.unit d.offset (length e.code)
    named_here = names_first g i d others (length e.code) there names

    d_ends : (d.set < length (shapes g)) × EndsBelow g d
    d_ends = places.ends (length e.code) i d others there plain simple names

    set_exists : set < length (shapes g)
    set_exists = subst (λ (q : ℕ). q < length (shapes g)) of_set d_ends.0

    -- whether a processor is active, by the set of the field
    active_here : (p : ℕ) → p < processors (shapes g) set → is_active (shapes g) s.memory d.set p ≡ a set p
    active_here p below = ap (λ (q : ℕ). is_active (shapes g) s.memory q p) of_set ∙ sim.memory.0.flags set p set_exists below

    elsewhere : (f : Field) (p : ℕ) → Apart (place g d) f → field_number (written write s.memory) f p ≡ field_number s.memory f p
    elsewhere f p apart = field_apart write s.memory f p apart

    winner_still : (written write s.memory).winner ≡ st.winner
    unfolding written
    winner_still = sim.memory.0.winner

    pub stored : (takes : ℕ → Type 0) (v : ℕ → ℕ) → ((p : ℕ) → is_active (shapes g) s.memory d.set p ≡ a set p → takes p → (writes p ≡ true) × (value p % 2 ^ d.len ≡ v p)) → Stored set d e i s st takes v
    stored takes v taken = record {
      t = wrote g write s;
      go = one_writes g s (wrote g write s) (begins_here g i e s within plain here ∙ goes) (λ f p there. elsewhere f p (places.own_and_below d f own there));
      at = at_next g i e s (s.at + 1) here refl;
      registers = refl;
      sim = sim_saying g alive st s (s.at + 1) (written write s.memory) (
        record {
          numbers = λ k element q p info is below. elsewhere (of_file g k element) p (places.own_file k element q info d is own) ∙ sim.memory.0.numbers k element q p info is below;
          small = sim.memory.0.small;
          flags = λ q p within_sets below. active_apart (shapes g) write s.memory q p d_ends.1 ∙ sim.memory.0.flags q p within_sets below;
          winner = winner_still;
          bits = bits_written (shapes g) write s.memory sim.memory.0.bits;
        },
        behind_own_at g places (OpenAmong g alive) (length e.code) s.at (s.at + 1) d st s.memory (written write s.memory) here (omega arith) own d_ends.0 named_here none elsewhere sim.memory.1,
      ) sim;
      exists = set_exists;
      ends = d_ends.1;
      tests = λ q p. tested_apart (shapes g) write s.memory q p d_ends.1;
      has = λ p below takes_it. let both = taken p (active_here p below) takes_it in field_written write s.memory p both.0 ∙ both.1;
      beside = λ h p apart. elsewhere (place g h) p apart;
      stays = λ h first last later p other is_own before behind low high again after_it.
          elsewhere (place g h) p (apart_back (place g h) (place g d) (places.owns_apart h d first (length e.code) last later other is_own own d_ends.0 before behind low high named_here again after_it));
    }

  -- the contexts are stored, at all positions
  pub store_context : (set : ℕ) (saved : Field) (e : Draft) (s : CodeState) (st : State) → IsOwnField g saved → IsNoHome g (OpenAmong g alive) saved.offset → saved.len ≡ 1 → saved.set ≡ set → Within g (with_instr (I.StoreContext saved) e) → At g s (length e.code) → Sim (under g a) alive st s
      → Stored set saved e (I.StoreContext saved) s st (λ p. Unit {0}) (λ p. from_bool (a set p))
  unfolding begun applied after step_of
  store_context set saved e s st own none bit of_set within here sim =
      stored set saved (I.StoreContext saved) [] e s st (λ p. true) (λ p. from_bool (is_active (shapes g) s.memory saved.set p)) refl tt refl refl own none of_set within here sim (λ p. Unit {0}) (λ p. from_bool (a set p)) (λ p active always. (
        refl,
        bit_fits (is_active (shapes g) s.memory saved.set p) saved.len bit ∙ ap from_bool active,
      ))

  -- the test flags are stored, at active positions
  pub store_test : (set : ℕ) (holds : Field) (e : Draft) (s : CodeState) (st : State) → IsOwnField g holds → IsNoHome g (OpenAmong g alive) holds.offset → holds.len ≡ 1 → holds.set ≡ set → Within g (with_instr (I.StoreTest holds) e) → At g s (length e.code) → Sim (under g a) alive st s
      → Stored set holds e (I.StoreTest holds) s st (λ p. a set p ≡ true) (λ p. from_bool (is_tested (shapes g) s.memory set p))
  unfolding begun applied after step_of
  store_test set holds e s st own none bit of_set within here sim =
      stored set holds (I.StoreTest holds) [] e s st (λ p. is_active (shapes g) s.memory holds.set p) (λ p. from_bool (is_tested (shapes g) s.memory holds.set p)) refl tt refl refl own none of_set within here sim (λ p. a set p ≡ true)
      (λ p. from_bool (is_tested (shapes g) s.memory set p)) (λ p active takes. (active ∙ takes, bit_fits (is_tested (shapes g) s.memory holds.set p) holds.len bit ∙ ap (λ (q : ℕ). from_bool (is_tested (shapes g) s.memory q p)) of_set))

  -- ---- a flag is written

  -- Behind an instruction that writes a flag of a set: these positions are active, and no field has changed.
  pub record Turned (b : Active) (e : Draft) (i : Instr) (s : CodeState) (st : State) : Type 0 where
    pub t : CodeState
    pub go : Reaches g s t
    pub at : At g t (length (with_instr i e).code)
    pub registers : t.registers ≡ s.registers
    pub sim : Sim (under g b) alive st t
    pub stays : (h : Field) (p : ℕ) → EndsBelow g h → number_in g h t p ≡ number_in g h s p

  -- a bit above the fields of its set
  pub above_fields : (set index : ℕ) (h : Field) → bits_at (shapes g) set ≤ index → h.offset + h.len ≤ bits_at (shapes g) h.set → Apart (bit_run set index) h
  above_fields set index h high ends = by (cases_eq set h.set)
    where
      by : (set ≡ h.set) ⊎ (set ≢ h.set) → Apart (bit_run set index) h
      by (inl same) = let low : bits_at (shapes g) h.set ≤ index = subst (λ (q : ℕ). bits_at (shapes g) q ≤ index) same high in inr (inr (omega (arith, ends, low)))
      by (inr differ) = inl differ

  -- an instruction that writes one bit above the fields of a set
  module _ (set index : ℕ) (i : Instr) (e : Draft) (s : CodeState) (st : State) (writes : ℕ → Bool) (value : ℕ → ℕ) (plain : step_of i ≡ Plain i) (goes : begun g.image (placed_instr g i) s ≡ Goes (wrote g (written_to (bit_run set index) writes value) s)) (high : bits_at (shapes g) set ≤ index)
      (within : Within g (with_instr i e)) (here : At g s (length e.code)) (sim : Sim (under g a) alive st s) where
    abbrev flag : Write
    flag = written_to (bit_run set index) writes value

    field_still : (h : Field) (p : ℕ) → h.offset + h.len ≤ bits_at (shapes g) h.set → field_number (written flag s.memory) h p ≡ field_number s.memory h p
    field_still h p ends = field_apart flag s.memory h p (above_fields set index h high ends)

    same_winner : (written flag s.memory).winner ≡ st.winner
    unfolding written
    same_winner = sim.memory.0.winner

    flag_written : (b : Active) → ((q p : ℕ) → q < length (shapes g) → p < processors (shapes g) q → is_active (shapes g) (written flag s.memory) q p ≡ b q p) → Turned b e i s st
    flag_written b flags = record {
      t = wrote g flag s;
      go = one_writes g s (wrote g flag s) (begins_here g i e s within plain here ∙ goes) (λ f p there. field_still f p there.ends);
      at = at_next g i e s (s.at + 1) here refl;
      registers = refl;
      sim = sim_saying g alive st s (s.at + 1) (written flag s.memory) (
        record {
          numbers = λ k element q p info is below. field_still (of_file g k element) p (places.files_end k element q info is) ∙ sim.memory.0.numbers k element q p info is below;
          small = sim.memory.0.small;
          flags = flags;
          winner = same_winner;
          bits = bits_written (shapes g) flag s.memory sim.memory.0.bits;
        },
        behind_flags g places (OpenAmong g alive) s.at (s.at + 1) st s.memory (written flag s.memory) (omega arith) field_still sim.memory.1,
      ) sim;
      stays = λ h p ends. field_still (place g h) p ends;
    }

  -- A context flag is written: the numbers that it takes say where the set is active, and elsewhere it is as before.
  module _ (set : ℕ) (i : Instr) (e : Draft) (s : CodeState) (st : State) (writes : ℕ → Bool) (value : ℕ → ℕ) (plain : step_of i ≡ Plain i) (goes : begun g.image (placed_instr g i) s ≡ Goes (wrote g (written_to (context_run (shapes g) set) writes value) s)) (within : Within g (with_instr i e)) (here : At g s (length e.code))
      (sim : Sim (under g a) alive st s) (b : Active) (others : (q p : ℕ) → (q ≡ set → ⊥) → b q p ≡ a q p) where
    context_written : ((p : ℕ) → p < processors (shapes g) set → is_active (shapes g) s.memory set p ≡ a set p → ((writes p ≡ true) × ((value p % 2 == 1) ≡ b set p)) ⊎ ((writes p ≡ false) × (b set p ≡ a set p))) → Turned b e i s st
    context_written takes = flag_written set (bits_at (shapes g) set) i e s st writes value plain goes (omega arith) within here sim b (λ q p exists below. by q p exists below (cases_eq q set))
      where
        at_set : (p : ℕ) → is_active (shapes g) s.memory set p ≡ a set p → ((writes p ≡ true) × ((value p % 2 == 1) ≡ b set p)) ⊎ ((writes p ≡ false) × (b set p ≡ a set p)) → is_active (shapes g) (to_context (shapes g) set writes value s.memory p) set p ≡ b set p
        at_set p was (inl new) = context_taken (shapes g) set writes value s.memory p new.0 ∙ new.1
        at_set p was (inr old) = context_kept (shapes g) set writes value s.memory p old.0 ∙ was ∙ sym old.1

        by : (q p : ℕ) → q < length (shapes g) → p < processors (shapes g) q → (q ≡ set) ⊎ (q ≢ set) → is_active (shapes g) (to_context (shapes g) set writes value s.memory p) q p ≡ b q p
        by q p exists below (inl same) =
            let there : set < length (shapes g) = subst (λ (n : ℕ). n < length (shapes g)) same exists in
            let inside : p < processors (shapes g) set = subst (λ (n : ℕ). p < processors (shapes g) n) same below in
            let was = sim.memory.0.flags set p there inside in
            subst (λ (n : ℕ). is_active (shapes g) (to_context (shapes g) set writes value s.memory p) n p ≡ b n p) (sym same) (at_set p was (takes p inside was))
        by q p exists below (inr differ) = context_other (shapes g) set writes value s.memory p q differ ∙ sim.memory.0.flags q p exists below ∙ sym (others q p differ)

  -- contexts that were stored are loaded
  pub load_context : (set : ℕ) (saved : Field) (e : Draft) (s : CodeState) (st : State) (b : Active) → saved.set ≡ set → ((p : ℕ) → p < processors (shapes g) set → number_in g saved s p ≡ from_bool (b set p)) → ((q p : ℕ) → (q ≡ set → ⊥) → b q p ≡ a q p)
      → Within g (with_instr (I.LoadContext saved) e) → At g s (length e.code) → Sim (under g a) alive st s → Turned b e (I.LoadContext saved) s st
  unfolding begun applied after step_of
  load_context set saved e s st b of_set is others within here sim =
      let has = subst (λ (n : ℕ). (p : ℕ) → p < processors (shapes g) n → number_in g saved s p ≡ from_bool (b n p)) (sym of_set) is in
      context_written saved.set (I.LoadContext saved) e s st (λ p. true) (λ p. number_in g saved s p) refl refl within here sim b (λ q p differ. others q p (λ same. differ (same ∙ sym of_set))) (λ p below was. inl (
        refl,
        ap (λ (n : ℕ). n % 2 == 1) (has p below) ∙ bit_is (b saved.set p),
      ))

  -- all positions of a set become active
  pub set_context : (set : ℕ) (e : Draft) (s : CodeState) (st : State) (b : Active) → ((p : ℕ) → p < processors (shapes g) set → b set p ≡ true) → ((q p : ℕ) → (q ≡ set → ⊥) → b q p ≡ a q p) → Within g (with_instr (I.SetContext set) e) → At g s (length e.code)
      → Sim (under g a) alive st s → Turned b e (I.SetContext set) s st
  unfolding begun applied after step_of
  set_context set e s st b is others within here sim = context_written set (I.SetContext set) e s st (λ p. true) (λ p. 1) refl refl within here sim b others (λ p below was. inl (refl, sym (is p below)))

  -- where a position was active, the flag takes this truth value
  narrower : (old new test : Bool) (value : ℕ) (was : Bool) → was ≡ old → value ≡ from_bool (was && test) → (old ≡ true → new ≡ test) → (old ≡ false → new ≡ false) → ((was ≡ true) × ((value % 2 == 1) ≡ new)) ⊎ ((was ≡ false) × (new ≡ old))
  narrower true new test value was same is active inactive = inl (same, ap (λ (n : ℕ). n % 2 == 1) (is ∙ ap (λ (x : Bool). from_bool (x && test)) same) ∙ bit_is test ∙ sym (active refl))
  narrower false new test value was same is active inactive = inr (same, inactive refl)

  -- positions where the test flag is 0 become inactive
  pub narrow_context : (set : ℕ) (e : Draft) (s : CodeState) (st : State) (b : Active) → ((p : ℕ) → p < processors (shapes g) set → a set p ≡ true → b set p ≡ is_tested (shapes g) s.memory set p) → ((p : ℕ) → p < processors (shapes g) set → a set p ≡ false → b set p ≡ false)
      → ((q p : ℕ) → (q ≡ set → ⊥) → b q p ≡ a q p) → Within g (with_instr (I.LogandContextWithTest set) e) → At g s (length e.code) → Sim (under g a) alive st s → Turned b e (I.LogandContextWithTest set) s st
  unfolding begun applied after step_of
  narrow_context set e s st b active inactive others within here sim =
      context_written set (I.LogandContextWithTest set) e s st (λ p. is_active (shapes g) s.memory set p) (λ p. from_bool (is_active (shapes g) s.memory set p && is_tested (shapes g) s.memory set p)) refl refl within here sim b others (λ p below was.
      narrower (a set p) (b set p) (is_tested (shapes g) s.memory set p) (from_bool (is_active (shapes g) s.memory set p && is_tested (shapes g) s.memory set p)) (is_active (shapes g) s.memory set p) was refl (active p below) (inactive p below))

  -- positions where the test flag is 1 become inactive
  pub turn_context : (set : ℕ) (e : Draft) (s : CodeState) (st : State) (b : Active) → ((p : ℕ) → p < processors (shapes g) set → a set p ≡ true → b set p ≡ not (is_tested (shapes g) s.memory set p)) → ((p : ℕ) → p < processors (shapes g) set → a set p ≡ false → b set p ≡ false)
      → ((q p : ℕ) → (q ≡ set → ⊥) → b q p ≡ a q p) → Within g (with_instr (I.LogandcContextWithTest set) e) → At g s (length e.code) → Sim (under g a) alive st s → Turned b e (I.LogandcContextWithTest set) s st
  unfolding begun applied after step_of
  turn_context set e s st b active inactive others within here sim =
      context_written set (I.LogandcContextWithTest set) e s st (λ p. is_active (shapes g) s.memory set p) (λ p. from_bool (is_active (shapes g) s.memory set p && not (is_tested (shapes g) s.memory set p))) refl refl within here sim b others (λ p below was.
      narrower (a set p) (b set p) (not (is_tested (shapes g) s.memory set p)) (from_bool (is_active (shapes g) s.memory set p && not (is_tested (shapes g) s.memory set p))) (is_active (shapes g) s.memory set p) was refl (active p below) (inactive p below))

  -- test flags that were stored are loaded, at active positions
  pub load_test : (set : ℕ) (holds : Field) (e : Draft) (s : CodeState) (st : State) (tests : ℕ → Bool) → holds.set ≡ set → ((p : ℕ) → p < processors (shapes g) set → a set p ≡ true → number_in g holds s p ≡ from_bool (tests p))
      → Within g (with_instr (I.LoadTest holds) e) → At g s (length e.code) → Sim (under g a) alive st s
      → (back : Turned a e (I.LoadTest holds) s st) × ((p : ℕ) → p < processors (shapes g) set → a set p ≡ true → is_tested (shapes g) back.t.memory set p ≡ tests p)
  unfolding begun applied after step_of flag_written
  load_test set holds e s st tests of_set is within here sim =
      let writes : ℕ → Bool = λ p. is_active (shapes g) s.memory holds.set p in
      let value : ℕ → ℕ = λ p. number_in g holds s p in
      let exists : set < length (shapes g) =
      subst (λ (q : ℕ). q < length (shapes g)) of_set (places.ends (length e.code) (I.LoadTest holds) holds [] (stands_here g (I.LoadTest holds) e within refl) refl tt refl).0 in (
        flag_written holds.set (bits_at (shapes g) holds.set + 1) (I.LoadTest holds) e s st writes value refl refl (omega arith) within here sim a (λ q p there below. context_under_test (shapes g) holds.set writes value s.memory p q ∙ sim.memory.0.flags q p there below),
        λ p below active. subst (λ (q : ℕ). is_tested (shapes g) (to_test (shapes g) holds.set writes value s.memory p) q p ≡ tests p) of_set
            (test_taken (shapes g) holds.set writes value s.memory p (ap (λ (q : ℕ). is_active (shapes g) s.memory q p) of_set ∙ sim.memory.0.flags set p exists below ∙ active)
            ∙ ap (λ (n : ℕ). n % 2 == 1) (is p below active) ∙ bit_is (tests p)),
      )
