-- What an instruction on fields leaves: its destination has the numbers, and all else is as it was.
use Rattle.std.proofs.Common.{◌≡◌, ◌∙◌, ℕ, ◌+◌, ◌%◌, ◌<◌, ◌≤◌, ◌^◌, true, List, ◌∷◌, length, refl, sym, ap, subst, arith}
use Rattle.cstar_tree.specs.declared.typed.Variable.{Variable}
use Rattle.lower_base.specs.Drafts.{Draft, Plain, step as step_of, with_instr}
use Rattle.paris_code.specs.declared.instr.Instr.{Instr}
use Rattle.paris_code.specs.declared.operands.Field.{Field}
use Rattle.paris_code.specs.Code.{CodeState, Goes, begun, step}
use Rattle.paris_code.specs.Memory.{BitMemory, field_number, is_active, processors}
use Rattle.paris_code.specs.Shapes.{bits_at}
use Rattle.paris_code.specs.Spans.{IsNamedAt, StandsAt, fields_of}
use Rattle.paris_code.specs.Writes.{Write, written}
use Rattle.source_meaning.specs.State.{State}
use Rattle.code_follows.specs.Agreement.{AreBytes, mark_of}
use Rattle.code_follows.proofs.Following.{Sim, held}
use Rattle.code_follows.proofs.Growing.{Extended, as_it_was, extended}
use Rattle.code_follows.proofs.Settings.{OpenAmong, At, Reaches, Setting, StandsBelow, Within, ahead, and_one, at_next, begins_here, one_writes, onto, placed_instr, start, stay}
use Rattle.fields_follow.proofs.Bits.{active_apart, bits_written, field_apart, field_written}
use Rattle.fields_follow.proofs.Fields.{HoldsFields}
use Rattle.fields_follow.proofs.FileFields.{Apart, apart_back}
use Rattle.fields_follow.proofs.Instructions.{HasNumbers, Puts, number_in, place, shapes, wrote}
use Rattle.fields_follow.proofs.Places.{HoldsTheFields, IsOwnField, PlacesFields, names_first, of_file, stands_here}
use Rattle.fields_follow.proofs.Locals.{HoldsLocals, IsNoHome}
use Rattle.fields_follow.proofs.LocalWrites.{behind_own_at}

module _ (g : Setting) where
  -- a write of a field, by which it takes the lowest bits of these words where it is active
  pub record Takes (set : ℕ) (d : Field) (s : CodeState) (v : ℕ → ℕ) : Type 0 where
    pub write : Write
    pub run : write.run ≡ place g d
    pub writes : (p : ℕ) → write.writes p ≡ is_active (shapes g) s.memory d.set p
    pub value : (p : ℕ) → p < processors (shapes g) set → is_active (shapes g) s.memory set p ≡ true → write.value p % 2 ^ d.len ≡ v p % 2 ^ d.len
    pub small : (p : ℕ) → p < processors (shapes g) set → is_active (shapes g) s.memory set p ≡ true → v p < 2 ^ 32

  abbrev puts_take : (set : ℕ) (i : Instr) (d : Field) (s : CodeState) (v : ℕ → ℕ) → Puts g set i d s v → Takes set d s v
  puts_take set i d s v puts = record { write = puts.write; run = puts.run; writes = puts.writes; value = puts.value; small = puts.small }

  -- the code from one draft to another does no more than a write of a field
  pub record WritesBehind (d : Field) (e f : Draft) (s : CodeState) (w : Write) : Type 0 where
    pub run : w.run ≡ place g d
    pub named : IsNamedAt g.unit d.offset (length e.code)
    pub more : (k : ℕ) × Extended e k f
    pub place : ℕ
    pub later : s.at + 1 ≤ place
    pub go : Reaches g s (record s { at = place; memory = written w s.memory })
    pub at : At g (record s { at = place; memory = written w s.memory }) (length f.code)

  -- so it is of an instruction
  pub instr_writes : (i : Instr) (d : Field) (others : List Field) (e : Draft) (s : CodeState) (w : Write) → ((f : Field) → StandsBelow g.image g.placed g.number f → Apart (place g d) f) → Within g (with_instr i e) → At g s (length e.code) → step_of i ≡ Plain i → fields_of i ≡ d ∷ others → w.run ≡ place g d
      → begun g.image (placed_instr g i) s ≡ Goes (wrote g w s) → WritesBehind d e (with_instr i e) s w
  instr_writes i d others e s w apart within here plain names run goes = record {
    run = run;
    named = names_first g i d others (length e.code) (stands_here g i e within plain) names;
    more = (1, and_one g i e);
    place = s.at + 1;
    later = omega arith;
    go = one_writes g s (wrote g w s) (begins_here g i e s within plain here ∙ goes) (λ f p there. field_apart w s.memory f p (subst (λ (h : Field). Apart h f) (sym run) (apart f there)));
    at = at_next g i e s (s.at + 1) here refl;
  }

  -- from the end of one draft the code goes at once to that of a later one
  pub record Lands (e f : Draft) : Type 0 where
    pub more : (k : ℕ) × Extended e k f
    pub go : (t : CodeState) → At g t (length e.code) → Reaches g t (record t { at = start g + length f.code })

  pub lands_here : (e : Draft) → Lands e e
  lands_here e = record { more = (0, as_it_was e); go = λ t there. subst (λ (place : ℕ). Reaches g t (record t { at = place })) there (stay g t) }

  pub lands_behind : (e f : Draft) (t : CodeState) → Lands e f → At g t (length e.code) → t.at ≤ start g + length f.code
  lands_behind e f t lands there = ahead g e f lands.more.0 t (start g + length f.code) lands.more.1 there refl

  -- by the write it takes these words
  pub record TakesBehind (set : ℕ) (d : Field) (e f : Draft) (s : CodeState) (v : ℕ → ℕ) : Type 0 where
    pub takes : Takes set d s v
    pub behind : WritesBehind d e f s takes.write

  pub instr_takes : (set : ℕ) (i : Instr) (d : Field) (e : Draft) (s : CodeState) (v : ℕ → ℕ) → ((f : Field) → StandsBelow g.image g.placed g.number f → Apart (place g d) f) → Within g (with_instr i e) → At g s (length e.code) → Puts g set i d s v → TakesBehind set d e (with_instr i e) s v
  instr_takes set i d e s v apart within here puts = record { takes = puts_take set i d s v puts; behind = instr_writes i d puts.others e s puts.write apart within here puts.plain puts.names puts.run puts.goes }

  -- and where it lands behind it
  pub takes_landed : (set : ℕ) (d : Field) (e f h : Draft) (s : CodeState) (v : ℕ → ℕ) → Lands f h → TakesBehind set d e f s v → TakesBehind set d e h s v
  takes_landed set d e f h s v lands takes =
      let b = takes.behind in
      let t : CodeState = record s { at = b.place; memory = written takes.takes.write s.memory } in
      let later : s.at + 1 ≤ start g + length h.code = (let on = lands_behind f h t lands b.at in let late = b.later in omega (arith, on, late)) in
      let go = onto g s t (record t { at = start g + length h.code }) b.go (lands.go t b.at) in
      record { takes = takes.takes; behind = record { run = b.run; named = b.named; more = (b.more.0 + lands.more.0, extended e f h b.more.0 lands.more.0 b.more.1 lands.more.1); place = start g + length h.code; later = later; go = go; at = refl } }

module _ (g : Setting) (places : PlacesFields g) (fields : HoldsTheFields g) (alive : Variable → Type 0) where
  abbrev Opened : State → BitMemory → Type 0
  Opened st m = HoldsFields g.typed g.image fields.active st m

  -- the same memory for a state, whatever the parallel variables are in it
  pub with_memory : (st u : State) (s : CodeState) (at : ℕ) (w : Write) → u.scalar ≡ st.scalar → u.turns ≡ st.turns → u.output ≡ st.output → u.input ≡ st.input → u.rest ≡ st.rest → Opened u (written w s.memory) → HoldsLocals g (OpenAmong g alive) at u (written w s.memory) → Sim g alive st s → Sim g alive u (record s { at = at; memory = written w s.memory })
  with_memory st u s at w scalar turns output input rest opened locals h = record {
    registers = h.registers;
    scalars = λ x info known is. h.scalars x info known is ∙ ap (λ (f : Variable → ℕ). held info.elem (f x)) (sym scalar);
    small = λ x info known is. subst (λ (f : Variable → ℕ). f x < 2 ^ info.elem.bits) (sym scalar) (h.small x info known is);
    constants = h.constants;
    turns = h.turns ∙ sym turns;
    output = h.output ∙ sym output;
    input = h.input ∙ (λ j. record { bytes = sym input j; mark = mark_of (sym rest j) });
    returns = h.returns;
    few = subst (λ (n : ℕ). n ≤ g.most) (sym turns) h.few;
    bytes = subst (λ (b : List ℕ). AreBytes b) (sym input) h.bytes;
    memory = fields.closes (OpenAmong g alive) at u (written w s.memory) opened locals;
  }

  -- Behind an instruction that stands next: the destination has the numbers, and if its answer is used, what stands in
  -- own entries that are named before and behind it stays.
  pub record Written (set : ℕ) (d : Field) (e : Draft) (i : Instr) (s : CodeState) (u : State) (v : ℕ → ℕ) (used : Type 0) : Type 0 where
    pub t : CodeState
    pub go : Reaches g s t
    pub at : At g t (length (with_instr i e).code)
    pub registers : t.registers ≡ s.registers
    pub sim : Sim g alive u t
    pub has : HasNumbers g d.len set d t v
    pub stays : used → (h : Field) (first last p : ℕ) → (h.offset ≡ d.offset → ⊥) → IsOwnField g h → IsNamedAt g.unit h.offset first → IsNamedAt g.unit h.offset last → first ≤ length e.code → length e.code < last → number_in g h t p ≡ number_in g h s p

  module _ (set : ℕ) (d : Field) (s : CodeState) (st : State) (v : ℕ → ℕ) (sim : Sim g alive st s) (of_set : d.set ≡ set) (exists : d.set < length (shapes g)) (ends : (place g d).offset + d.len ≤ bits_at (shapes g) d.set) (takes : Takes g set d s v) where
    was : Opened st s.memory
    was = fields.opens (OpenAmong g alive) s.at st s.memory sim.memory

    set_exists : set < length (shapes g)
    set_exists = subst (λ (q : ℕ). q < length (shapes g)) of_set exists

    abbrev behind : BitMemory
    behind = written takes.write s.memory

    active_still : (q p : ℕ) → q < length (shapes g) → p < processors (shapes g) q → is_active (shapes g) behind q p ≡ fields.active q p
    active_still q p within_sets below =
        active_apart (shapes g) takes.write s.memory q p (subst (λ (f : Field). f.offset + f.len ≤ bits_at (shapes g) f.set) (sym takes.run) ends)
        ∙ was.flags q p within_sets below

    pub writes_where : (p : ℕ) → p < processors (shapes g) set → takes.write.writes p ≡ fields.active set p
    writes_where p below = takes.writes p ∙ ap (λ (q : ℕ). is_active (shapes g) s.memory q p) of_set ∙ was.flags set p set_exists below

    pub value_is : (p : ℕ) → p < processors (shapes g) set → fields.active set p ≡ true → field_number behind (place g d) p ≡ v p % 2 ^ d.len
    value_is p below on =
        ap (λ (f : Field). field_number behind f p) (sym takes.run)
        ∙ field_written takes.write s.memory p (writes_where p below ∙ on)
        ∙ ap (λ (f : Field). takes.write.value p % 2 ^ f.len) takes.run ∙ takes.value p below (was.flags set p set_exists below ∙ on)

    pub few : (p : ℕ) → p < processors (shapes g) set → fields.active set p ≡ true → v p < 2 ^ 32
    few p below on = takes.small p below (was.flags set p set_exists below ∙ on)

    pub elsewhere : (f : Field) (p : ℕ) → Apart (place g d) f → field_number behind f p ≡ field_number s.memory f p
    elsewhere f p apart = field_apart takes.write s.memory f p (subst (λ (h : Field). Apart h f) (sym takes.run) apart)

    winner_still : behind.winner ≡ st.winner
    unfolding written
    winner_still = was.winner

    -- where it is that of an own entry, the state is as it was, and the entry has the numbers
    pub own_sim : (place to : ℕ) → At g s place → s.at + 1 ≤ to → IsOwnField g d → IsNoHome g (OpenAmong g alive) d.offset → IsNamedAt g.unit d.offset place → Sim g alive st (record s { at = to; memory = behind })
    own_sim there at here later own none named =
        with_memory st st s at takes.write refl refl refl refl refl (record {
          numbers = λ k element q p info is below. elsewhere (of_file g k element) p (places.own_file k element q info d is own) ∙ was.numbers k element q p info is below;
          small = was.small;
          flags = active_still;
          winner = winner_still;
          bits = bits_written (shapes g) takes.write s.memory was.bits;
        }) (behind_own_at g places (OpenAmong g alive) there s.at at d st s.memory behind here later own exists named none elsewhere (fields.locals (OpenAmong g alive) s.at st s.memory sim.memory)) sim

    pub own_has : (at : ℕ) → HasNumbers g d.len set d (record s { at = at; memory = behind }) v
    own_has at = record {
      of_set = of_set;
      exists = set_exists;
      len = refl;
      are = λ p below on. value_is p below (sym (active_still set p set_exists below) ∙ on);
      small = λ p below on. few p below (sym (active_still set p set_exists below) ∙ on);
    }

  -- An instruction that stands next, by which a field that ends below the flags takes the lowest bits of these words.
  pub record PutsNext (set : ℕ) (i : Instr) (d : Field) (e : Draft) (s : CodeState) (v : ℕ → ℕ) : Type 0 where
    pub there : StandsAt g.unit (length e.code) i
    pub others : List Field
    pub names : fields_of i ≡ d ∷ others
    pub ends : (d.set < length (shapes g)) × ((place g d).offset + d.len ≤ bits_at (shapes g) d.set)
    pub takes : Takes g set d s v
    pub goes : step g.image s ≡ Goes (wrote g takes.write s)

  pub puts_next : (set : ℕ) (i : Instr) (d : Field) (e : Draft) (s : CodeState) (v : ℕ → ℕ) → Within g (with_instr i e) → At g s (length e.code) → Puts g set i d s v → PutsNext set i d e s v
  puts_next set i d e s v within here puts = record {
    there = there;
    others = puts.others;
    names = puts.names;
    ends = places.ends (length e.code) i d puts.others there puts.plain puts.simple puts.names;
    takes = puts_take g set i d s v puts;
    goes = begins_here g i e s within puts.plain here ∙ puts.goes;
  }
    where
      there : StandsAt g.unit (length e.code) i
      there = stands_here g i e within puts.plain

  -- an own entry takes the numbers
  pub next_written : (set : ℕ) (i : Instr) (d : Field) (e : Draft) (s : CodeState) (st : State) (v : ℕ → ℕ) → At g s (length e.code) → Sim g alive st s → d.set ≡ set → PutsNext set i d e s v → IsOwnField g d → IsNoHome g (OpenAmong g alive) d.offset → Written set d e i s st v ((later : ℕ) × (IsNamedAt g.unit d.offset later × (length e.code < later)))
  next_written set i d e s st v here sim of_set next own none = record {
    t = wrote g takes.write s;
    go = one_writes g s (wrote g takes.write s) next.goes (λ f p there. still f p (places.own_and_below d f own there));
    at = at_next g i e s (s.at + 1) here refl;
    registers = refl;
    sim = own_sim set d s st v sim of_set next.ends.0 next.ends.1 takes (length e.code) (s.at + 1) here (omega arith) own none (names_first g i d next.others (length e.code) next.there next.names);
    has = own_has set d s st v sim of_set next.ends.0 next.ends.1 takes (s.at + 1);
    stays = λ again h first last p other is_own before after low high.
        still (place g h) p (apart_back (place g h) (place g d) (places.owns_apart h d first (length e.code) last again.0 other is_own own next.ends.0 before after low high (names_first g i d next.others (length e.code) next.there next.names) again.1.0 again.1.1));
  }
    where
      takes : Takes g set d s v
      takes = next.takes

      still : (f : Field) (p : ℕ) → Apart (place g d) f → field_number (written takes.write s.memory) f p ≡ field_number s.memory f p
      still = elsewhere set d s st v sim of_set next.ends.0 next.ends.1 takes

  -- so it is where an instruction puts them
  pub own_written : (set : ℕ) (i : Instr) (d : Field) (e : Draft) (s : CodeState) (st : State) (v : ℕ → ℕ) → Within g (with_instr i e) → At g s (length e.code) → Sim g alive st s → d.set ≡ set → Puts g set i d s v → IsOwnField g d → IsNoHome g (OpenAmong g alive) d.offset
      → Written set d e i s st v ((later : ℕ) × (IsNamedAt g.unit d.offset later × (length e.code < later)))
  own_written set i d e s st v within here sim of_set puts own none = next_written set i d e s st v here sim of_set (puts_next set i d e s v within here puts) own none
