-- The steps of a get by NEWS: each moves numbers that a field has at every position, active or not, one way along an axis.
use Rattle.std.proofs.Common.{◌≡◌, ◌∙◌, ℕ, suc, ◌+◌, ◌%◌, ◌<◌, ◌≤◌, ◌^◌, ◌==◌, ◌&&◌, Bool, true, false, not, List, [], ◌∷◌, length, refl, sym, ap, subst, arith, if◌then◌else◌, ◌⊎◌, inl, inr}
use Rattle.std.proofs.lemmas.Bool.Decides.{nat_tests}
use Rattle.cstar_base.specs.declared.elem.Elem.{Elem}
use Rattle.cstar_base.specs.Numbers.{number_of}
use Rattle.cstar_tree.specs.declared.typed.VarInfo.{VarInfo}
use Rattle.cstar_tree.specs.declared.typed.Variable.{Variable}
use Rattle.lower_base.specs.Drafts.{Draft, Plain, step as step_of, with_instr}
use Rattle.lower_comm.specs.declared.gets.Hop.{Hop}
use Rattle.lower_expr.specs.Kinds.{has_number}
use Rattle.lower_comm.specs.Messages.{hopped, is_extended, stepwise, with_hop}
use Rattle.paris_code.specs.declared.instr.Instr.{Instr}
use Rattle.paris_code.specs.declared.instr.Instr.TheVariants as I
use Rattle.paris_code.specs.declared.operands.Field.{Field}
use Rattle.paris_code.specs.declared.operands.GridStep.{GridStep}
use Rattle.paris_code.specs.declared.operands.Konst.{Konst}
use Rattle.paris_code.specs.declared.operands.Konst.TheVariants as K
use Rattle.paris_code.specs.Arguments.{konst_number}
use Rattle.paris_code.specs.Code.{CodeState, Goes, applied, begun}
use Rattle.paris_code.specs.Fetching.{at_active, at_all, of_neighbour}
use Rattle.paris_code.specs.Meaning.{after}
use Rattle.paris_code.specs.Memory.{field_number, is_active, processors}
use Rattle.paris_code.specs.Shapes.{bits_at}
use Rattle.paris_code.specs.Spans.{IsNamedAt, StandsAt}
use Rattle.paris_code.specs.Writes.{Write, written}
use Rattle.phase_meaning.proofs.Alike.{shifted_below}
use Rattle.phase_meaning.proofs.Widths.{cut_cut}
use Rattle.source_meaning.specs.State.{State}
use Rattle.vp_sets.specs.Positions.{are_positive, shifted}
use Rattle.code_follows.proofs.Following.{Sim, held}
use Rattle.code_follows.proofs.Growing.{Extended, extended}
use Rattle.code_follows.proofs.Settings.{OpenAmong, Setting, Within, and_one, at_next, begins_here, code_more, earlier, one_writes, placed_instr, start}
use Rattle.fields_follow.proofs.Bits.{active_apart, bits_written, field_apart, field_written}
use Rattle.fields_follow.proofs.Fields.{HoldsFields}
use Rattle.fields_follow.proofs.FileFields.{apart_back}
use Rattle.fields_follow.proofs.Instructions.{HasNumbers, Puts, extents, number_in, place, puts_extended, puts_move, shapes, wrote}
use Rattle.fields_follow.proofs.Passing.{Passes, in_variable_numbers, names_second, passes_all, passes_on}
use Rattle.fields_follow.proofs.Places.{HoldsTheFields, IsOwnField, PlacesFields, names_first, of_file, stands_here}
use Rattle.fields_follow.proofs.Writing.{with_memory}
use Rattle.fields_follow.proofs.Starts.{Starts, starts_next}
use Rattle.fields_follow.proofs.Totals.{held_below}
use Rattle.fields_follow.proofs.Variables.{Carries}
use Rattle.fields_follow.proofs.Locals.{IsNoHome}
use Rattle.fields_follow.proofs.LocalWrites.{behind_own_at}

module _ (g : Setting) where
  -- a field of so many bits of a set has the lowest bits of these words at every position
  pub record HasEverywhere (bits set : ℕ) (f : Field) (s : CodeState) (v : ℕ → ℕ) : Type 0 where
    pub of_set : f.set ≡ set
    pub exists : set < length (shapes g)
    pub len : f.len ≡ bits
    pub are : (p : ℕ) → p < processors (shapes g) set → number_in g f s p ≡ v p % 2 ^ bits
    pub small : (p : ℕ) → p < processors (shapes g) set → v p < 2 ^ 32

  -- so it has them where it is active
  pub somewhere : (bits set : ℕ) (f : Field) (s : CodeState) (v : ℕ → ℕ) → HasEverywhere bits set f s v → HasNumbers g bits set f s v
  somewhere bits set f s v h = record { of_set = h.of_set; exists = h.exists; len = h.len; are = λ p below on. h.are p below; small = λ p below on. h.small p below }

  -- the position that is so many steps away
  abbrev pub neighbour : ℕ → ℕ → ℕ → ℕ → ℕ
  neighbour set axis k p = shifted (extents g set).own p axis (number_of 32 true k)

  -- the shape is a grid with this axis
  abbrev HasAxis : ℕ → ℕ → Type 0
  HasAxis set axis = (are_positive (extents g set).own ≡ true) × (axis < length (extents g set).own)

  -- the number of a neighbour, as it is fetched
  fetched : (bits set axis k : ℕ) (a : Field) (s : CodeState) (v : ℕ → ℕ) → HasAxis set axis → HasEverywhere bits set a s v → (p : ℕ) → p < processors (shapes g) set
      → (of_neighbour (shapes g) s.memory (place g a) axis k p ≡ v (neighbour set axis k p) % 2 ^ bits) × (v (neighbour set axis k p) < 2 ^ 32)
  unfolding of_neighbour
  fetched bits set axis k a s v grid h p below =
      let low = shifted_below (extents g set).own p axis (number_of 32 true k) grid.0 below grid.1 in
      (ap (λ (n : ℕ). field_number s.memory (place g a) (shifted (extents g n).own p axis (number_of 32 true k))) h.of_set ∙ h.are (neighbour set axis k p) low, h.small (neighbour set axis k p) low)

  puts_news : (bits set axis k : ℕ) (d a : Field) (s : CodeState) (v : ℕ → ℕ) → d.len ≡ bits → HasAxis set axis → HasEverywhere bits set a s v → Puts g set (I.GetFromNews d a axis (K.Imm k)) d s (λ p. v (neighbour set axis k p))
  unfolding begun applied after step_of
  puts_news bits set axis k d a s v long grid h = record {
    plain = refl;
    simple = tt;
    others = _;
    names = refl;
    write = at_active (shapes g) s.memory (place g d) (λ p. of_neighbour (shapes g) s.memory (place g a) axis k p);
    run = refl;
    writes = λ p. refl;
    value = λ p below on.
        let got = fetched bits set axis k a s v grid h p below in
        ap (λ (n : ℕ). n % 2 ^ d.len) got.0 ∙ cut_cut (v (neighbour set axis k p)) d.len bits (omega (arith, long));
    small = λ p below on. (fetched bits set axis k a s v grid h p below).1;
    goes = refl;
  }

  -- steps by given numbers, along axes that there are
  unfoldable pub AreMoves : ℕ → List GridStep → Type 0
  AreMoves set [] = Unit {0}
  AreMoves set (step ∷ steps) = ((k : ℕ) × (step.step ≡ K.Imm k)) × HasAxis set step.axis × AreMoves set steps

  -- the position whose number comes to one by steps: the first of them is the last that is taken on the way there
  unfoldable pub origin : ℕ → List GridStep → ℕ → ℕ
  origin set [] q = q
  origin set (step ∷ steps) q = neighbour set step.axis (konst_number step.step []) (origin set steps q)

  -- the same numbers at the active positions
  pub puts_where : (set : ℕ) (i : Instr) (d : Field) (s : CodeState) (v w : ℕ → ℕ) → ((p : ℕ) → p < processors (shapes g) set → is_active (shapes g) s.memory set p ≡ true → v p ≡ w p) → Puts g set i d s v → Puts g set i d s w
  puts_where set i d s v w same h = record {
    plain = h.plain;
    simple = h.simple;
    others = h.others;
    names = h.names;
    write = h.write;
    run = h.run;
    writes = h.writes;
    value = λ p below on. h.value p below on ∙ ap (λ (n : ℕ). n % 2 ^ d.len) (same p below on);
    small = λ p below on. subst (λ (n : ℕ). n < 2 ^ 32) (same p below on) (h.small p below on);
    goes = h.goes;
  }

  pub puts_same : (set : ℕ) (i : Instr) (d : Field) (s : CodeState) (v w : ℕ → ℕ) → ((p : ℕ) → p < processors (shapes g) set → v p ≡ w p) → Puts g set i d s v → Puts g set i d s w
  puts_same set i d s v w same h = puts_where set i d s v w (λ p below on. same p below) h

  -- the steps go on from the draft
  pub steps_extend : (elem : Elem) (dest : Field) (steps : List GridStep) (hop : Hop) (d : Draft) → (n : ℕ) × Extended d n (stepwise elem dest steps hop d)
  unfolding stepwise with_hop
  steps_extend elem dest [] hop d = (1, and_one g _ d)
  steps_extend elem dest (step ∷ steps) hop d = by (length steps == 0 && not (is_extended elem dest)) (steps_extend elem dest steps (hopped hop) (with_hop step hop d))
    where
      by : (b : Bool) → (n : ℕ) × Extended (with_hop step hop d) n (stepwise elem dest steps (hopped hop) (with_hop step hop d)) → (n : ℕ) × Extended d n (if b then with_instr (I.GetFromNews dest hop.source step.axis step.step) d else stepwise elem dest steps (hopped hop) (with_hop step hop d))
      by true rest = (1, and_one g _ d)
      by false rest = (1 + rest.0, extended d (with_hop step hop d) _ 1 rest.0 (and_one g _ d) rest.1)

  -- the first instruction names the source
  pub names_source : (elem : Elem) (dest : Field) (steps : List GridStep) (hop : Hop) (d : Draft) → Within g (stepwise elem dest steps hop d) → IsNamedAt g.unit hop.source.offset (length d.code)
  unfolding stepwise with_hop step_of
  names_source elem dest [] hop d within = names_second g _ dest hop.source [] (length d.code) (stands_here g (I.Move elem.signed dest hop.source) d within refl) refl
  names_source elem dest (step ∷ steps) hop d within = by (length steps == 0 && not (is_extended elem dest)) within
    where
      by : (b : Bool) → Within g (if b then with_instr (I.GetFromNews dest hop.source step.axis step.step) d else stepwise elem dest steps (hopped hop) (with_hop step hop d)) → IsNamedAt g.unit hop.source.offset (length d.code)
      by true w = names_second g _ dest hop.source [] (length d.code) (stands_here g (I.GetFromNews dest hop.source step.axis step.step) d w refl) refl
      by false w =
          let rest = steps_extend elem dest steps (hopped hop) (with_hop step hop d) in
          names_second g _ hop.next hop.source [] (length d.code) (stands_here g (I.GetFromNewsAlways hop.next hop.source step.axis step.step) d (earlier g _ _ rest.0 rest.1 w) refl) refl

  module _ (places : PlacesFields g) (fields : HoldsTheFields g) (alive : Variable → Type 0) where
    -- The first bits of a variable's field have the lowest bits of its words at every position, where an instruction names
    -- the field at this place or behind it.
    pub variable_everywhere : (bits set : ℕ) (x : Variable) (info : VarInfo) (f : Field) (s : CodeState) (st : State) → Carries g alive x info set f → bits ≤ info.elem.bits → (later : ℕ) → IsNamedAt g.unit f.offset later → s.at ≤ start g + later → Sim g alive st s
        → HasEverywhere bits set (record f { len = bits }) s (λ q. held info.elem (st.parallel x 0 q))
    variable_everywhere bits set x info f s st carries fits later named behind sim = record { of_set = carries.of_set; exists = carries.exists; len = refl; are = λ p below. (numbers p below).0; small = λ p below. (numbers p below).1 }
      where
        numbers : (p : ℕ) → p < processors (shapes g) set → (number_in g (record f { len = bits }) s p ≡ held info.elem (st.parallel x 0 p) % 2 ^ bits) × (held info.elem (st.parallel x 0 p) < 2 ^ 32)
        numbers p below =
            in_variable_numbers g alive places fields bits set (record f { len = bits }) st (λ q. held info.elem (st.parallel x 0 q)) s (record {
              x = x;
              info = info;
              carries = subst (λ (n : ℕ). Carries g alive x info set (record f { len = n })) carries.len carries;
              len = refl;
              fits = fits;
              same = λ q inside. (refl, held_below info.elem (st.parallel x 0 q));
            }) sim later named behind p below

    -- a step into an own entry that is named later
    abbrev hop_instr : ℕ → ℕ → Field → Field → Instr
    hop_instr axis k d a = I.GetFromNewsAlways d a axis (K.Imm k)

    hop_goes : (axis k : ℕ) (d a : Field) (s : CodeState) → begun g.image (placed_instr g (hop_instr axis k d a)) s ≡ Goes (wrote g (at_all (place g d) (λ p. of_neighbour (shapes g) s.memory (place g a) axis k p)) s)
    unfolding begun applied after
    hop_goes axis k d a s = refl

    hop_plain : (axis k : ℕ) (d a : Field) → step_of (hop_instr axis k d a) ≡ Plain (hop_instr axis k d a)
    unfolding step_of
    hop_plain axis k d a = refl

    hop_passes : (bits bound set axis k : ℕ) (d a : Field) (e : Draft) (s : CodeState) (st : State) (v : ℕ → ℕ) → bound ≤ d.offset → IsOwnField g d → IsNoHome g (OpenAmong g alive) d.offset → d.set ≡ set → d.len ≡ bits → HasAxis set axis → HasEverywhere bits set a s v
        → Within g (with_instr (hop_instr axis k d a) e) → IsNamedAt g.unit d.offset (length (with_instr (hop_instr axis k d a) e).code) → Starts g alive s (length e.code) e.regs (length e.fields) → Sim g alive st s
        → (p : Passes g alive bound e (with_instr (hop_instr axis k d a) e) s st (Unit {0})) × HasEverywhere bits set d p.t (λ q. v (neighbour set axis k q))
    unfolding written
    hop_passes bits bound set axis k d a e s st v newer own none of_set long_d grid h within again here sim = (
      record {
        grown = (1, and_one g i e);
        t = wrote g w s;
        go = one_writes g s (wrote g w s) (begins_here g i e s within (hop_plain axis k d a) here.stands ∙ hop_goes axis k d a s) (λ f p there. field_apart w s.memory f p (places.own_and_below d f own there));
        at = starts_next g alive i e s (wrote g w s) (at_next g i e s (s.at + 1) here.stands refl) here;
        registers = λ r kept. refl;
        sim = with_memory g places fields alive st st s (s.at + 1) w refl refl refl refl refl (record {
          numbers = λ j element q p info is below. field_apart w s.memory (of_file g j element) p (places.own_file j element q info d is own) ∙ was.numbers j element q p info is below;
          small = was.small;
          flags = λ q p exists below. active_apart (shapes g) w s.memory q p ends.1 ∙ was.flags q p exists below;
          winner = was.winner;
          bits = bits_written (shapes g) w s.memory was.bits;
        })
            (behind_own_at g places (OpenAmong g alive) (length e.code) s.at (s.at + 1) d st s.memory (written w s.memory) here.stands (omega arith) own ends.0 (names_first g i d (a ∷ []) (length e.code) there refl) none (λ f p apart. field_apart w s.memory f p apart)
            (fields.locals (OpenAmong g alive) s.at st s.memory sim.memory)) sim;
        stays = λ used f first last p below is_own below_flags before low after high.
            field_apart w s.memory (place g f) p
            (apart_back (place g f) (place g d) (places.owns_apart f d first (length e.code) last (length (with_instr i e).code) (λ same. omega (arith, same, below, newer)) is_own own ends.0 before after (omega (arith, low)) (omega (arith, high, long)) (names_first g i d (a ∷ []) (length e.code) there refl) again (omega (arith, long))));
      },
      record {
        of_set = of_set;
        exists = h.exists;
        len = long_d;
        are = λ p below.
            let got = fetched bits set axis k a s v grid h p below in
            field_written w s.memory p refl ∙ ap (λ (n : ℕ). of_neighbour (shapes g) s.memory (place g a) axis k p % 2 ^ n) long_d ∙ ap (λ (n : ℕ). n % 2 ^ bits) got.0 ∙ cut_cut (v (neighbour set axis k p)) bits bits (omega arith);
        small = λ p below. (fetched bits set axis k a s v grid h p below).1;
      },
    )
      where
        i : Instr
        i = hop_instr axis k d a

        w : Write
        w = at_all (place g d) (λ p. of_neighbour (shapes g) s.memory (place g a) axis k p)

        there : StandsAt g.unit (length e.code) i
        there = stands_here g i e within (hop_plain axis k d a)

        long : length (with_instr i e).code ≡ length e.code + 1
        long = code_more g i e

        ends : (d.set < length (shapes g)) × ((place g d).offset + d.len ≤ bits_at (shapes g) d.set)
        ends = places.ends (length e.code) i d (a ∷ []) there (hop_plain axis k d a) tt refl

        was : HoldsFields g.typed g.image fields.active st s.memory
        was = fields.opens (OpenAmong g alive) s.at st s.memory sim.memory

    -- a fresh field of the set
    abbrev IsFresh : ℕ → ℕ → ℕ → Field → Type 0
    IsFresh bits bound set f = (bound ≤ f.offset) × IsOwnField g f × (f.set ≡ set) × (f.len ≡ bits) × IsNoHome g (OpenAmong g alive) f.offset

    hop_by : (bits bound set axis k : ℕ) (c : Konst) (d a : Field) (e : Draft) (s : CodeState) (st : State) (v : ℕ → ℕ) → c ≡ K.Imm k → IsFresh bits bound set d → HasAxis set axis → HasEverywhere bits set a s v
        → Within g (with_instr (I.GetFromNewsAlways d a axis c) e) → IsNamedAt g.unit d.offset (length (with_instr (I.GetFromNewsAlways d a axis c) e).code) → Starts g alive s (length e.code) e.regs (length e.fields) → Sim g alive st s
        → (p : Passes g alive bound e (with_instr (I.GetFromNewsAlways d a axis c) e) s st (Unit {0})) × HasEverywhere bits set d p.t (λ q. v (neighbour set axis (konst_number c []) q))
    hop_by bits bound set axis k c d a e s st v is fresh grid h within again here sim =
        subst
        (λ (c : Konst). Within g (with_instr (I.GetFromNewsAlways d a axis c) e) → IsNamedAt g.unit d.offset (length (with_instr (I.GetFromNewsAlways d a axis c) e).code)
        → (p : Passes g alive bound e (with_instr (I.GetFromNewsAlways d a axis c) e) s st (Unit {0})) × HasEverywhere bits set d p.t (λ q. v (neighbour set axis (konst_number c []) q)))
        (sym is) (λ within again. hop_passes bits bound set axis k d a e s st v fresh.0 fresh.1 fresh.4 fresh.2 fresh.3 grid h within again here sim) within again

    -- where the destination has no more bits than what is read, the last step goes there itself; else the type of the
    -- variable has the words, and they are extended
    abbrev pub Reads : Elem → Field → ℕ → Type 0
    Reads elem dest bits = ((is_extended elem dest ≡ false) × (dest.len ≡ bits)) ⊎ ((is_extended elem dest ≡ true) × (elem.bits ≡ bits) × (dest.len ≤ 32))

    last_step : (elem : Elem) (dest : Field) (step : GridStep) (hop : Hop) (d : Draft) → is_extended elem dest ≡ false → stepwise elem dest (step ∷ []) hop d ≡ with_instr (I.GetFromNews dest hop.source step.axis step.step) d
    unfolding stepwise
    last_step elem dest step hop d enough =
        ap (λ (b : Bool). if not b then with_instr (I.GetFromNews dest hop.source step.axis step.step) d else with_instr (I.Move elem.signed dest (hopped hop).source) (with_hop step hop d)) enough

    one_step : (elem : Elem) (dest : Field) (step : GridStep) (hop : Hop) (d : Draft) → is_extended elem dest ≡ true → stepwise elem dest (step ∷ []) hop d ≡ stepwise elem dest [] (hopped hop) (with_hop step hop d)
    unfolding stepwise
    one_step elem dest step hop d more =
        ap (λ (b : Bool). if not b then with_instr (I.GetFromNews dest hop.source step.axis step.step) d else with_instr (I.Move elem.signed dest (hopped hop).source) (with_hop step hop d)) more

    next_step : (elem : Elem) (dest : Field) (step next : GridStep) (steps : List GridStep) (hop : Hop) (d : Draft) → stepwise elem dest (step ∷ (next ∷ steps)) hop d ≡ stepwise elem dest (next ∷ steps) (hopped hop) (with_hop step hop d)
    unfolding stepwise
    next_step elem dest step next steps hop d =
        ap (λ (last : Bool). if last && not (is_extended elem dest) then with_instr (I.GetFromNews dest hop.source step.axis step.step) d else stepwise elem dest (next ∷ steps) (hopped hop) (with_hop step hop d)) (some (length steps))
      where
        some : (n : ℕ) → (suc n == 0) ≡ false
        some n = grind (arith, nat_tests)

    module _ (elem : Elem) (dest : Field) (bits : ℕ) (reads : Reads elem dest bits) where
      -- a step goes to the destination, as the last one, or on
      abbrev GoesOn : GridStep → List GridStep → Type 0
      GoesOn step steps = (hop : Hop) (d : Draft) → stepwise elem dest (step ∷ steps) hop d ≡ stepwise elem dest steps (hopped hop) (with_hop step hop d)

      on_or_last : (step : GridStep) (steps : List GridStep) → GoesOn step steps ⊎ ((steps ≡ []) × (is_extended elem dest ≡ false) × (dest.len ≡ bits))
      on_or_last step [] = by reads
        where
          by : Reads elem dest bits → GoesOn step [] ⊎ (◌≡◌ {A = List GridStep} [] [] × (is_extended elem dest ≡ false) × (dest.len ≡ bits))
          by (inl h) = inr (refl, h.0, h.1)
          by (inr h) = inl (λ hop d. one_step elem dest step hop d h.0)
      on_or_last step (next ∷ steps) = inl (λ hop d. next_step elem dest step next steps hop d)

      -- the last instruction puts the numbers in the destination
      abbrev pub MovesLast : ℕ → ℕ → List GridStep → Hop → (ℕ → ℕ) → Draft → CodeState → State → Type 0
      MovesLast bound set steps hop v d s st = (e2 : Draft) × ((i : Instr) × ((stepwise elem dest steps hop d ≡ with_instr i e2) × ((p : Passes g alive bound d e2 s st (Unit {0})) × Puts g set i dest p.t (λ q. v (origin set steps q)))))

      -- of words that the type of the variable has
      abbrev pub OfType : ℕ → (ℕ → ℕ) → Type 0
      OfType set v = (q : ℕ) → q < processors (shapes g) set → has_number elem (v q) ≡ true

      pub moves_last : (bound set : ℕ) (steps : List GridStep) (hop : Hop) (v : ℕ → ℕ) (d : Draft) (s : CodeState) (st : State) → AreMoves set steps → OfType set v → IsFresh bits bound set hop.next → IsFresh bits bound set hop.spare → HasEverywhere bits set hop.source s v
          → Within g (stepwise elem dest steps hop d) → Starts g alive s (length d.code) d.regs (length d.fields) → Sim g alive st s → MovesLast bound set steps hop v d s st
      unfolding AreMoves origin stepwise with_hop hopped passes_on
      moves_last bound set [] hop v d s st are of_type fresh spare h within here sim = by reads
        where
          by : Reads elem dest bits → MovesLast bound set [] hop v d s st
          by (inl enough) = (d, (I.Move elem.signed dest hop.source, (refl, (passes_all g alive bound d s st (Unit {0}) here sim, puts_move g bits set elem.signed dest hop.source s v enough.1 (somewhere bits set hop.source s v h)))))
          by (inr more) = (d, (I.Move elem.signed dest hop.source, (refl, (passes_all g alive bound d s st (Unit {0}) here sim, puts_extended g elem set dest hop.source s v more.2 (λ p below on. of_type p below) (subst (λ (n : ℕ). HasNumbers g n set hop.source s v) (sym more.1) (somewhere bits set hop.source s v h))))))
      moves_last bound set (step ∷ steps) hop v d s st are of_type fresh spare h within here sim = by (on_or_last step steps) (λ u of_u next e t fresh spare h within here sim. moves_last bound set steps next u e t st are.2 of_u fresh spare h within here sim)
        where
          by : GoesOn step steps ⊎ ((steps ≡ []) × (is_extended elem dest ≡ false) × (dest.len ≡ bits))
              → ((u : ℕ → ℕ) → OfType set u → (next : Hop) (e : Draft) (t : CodeState) → IsFresh bits bound set next.next → IsFresh bits bound set next.spare → HasEverywhere bits set next.source t u → Within g (stepwise elem dest steps next e) → Starts g alive t (length e.code) e.regs (length e.fields) → Sim g alive st t → MovesLast bound set steps next u e t st)
              → MovesLast bound set (step ∷ steps) hop v d s st
          by (inl on) go =
              let rest = steps_extend elem dest steps (hopped hop) (with_hop step hop d) in
              let later : Within g (stepwise elem dest steps (hopped hop) (with_hop step hop d)) = subst (λ (e : Draft). Within g e) (on hop d) within in
              let (first, moved) = hop_by bits bound set step.axis are.0.0 step.step hop.next hop.source d s st v are.0.1 fresh are.1 h (earlier g _ _ rest.0 rest.1 later) (names_source elem dest steps (hopped hop) (with_hop step hop d) later) here sim in
              let still_of_type : OfType set (λ q. v (neighbour set step.axis (konst_number step.step []) q)) = λ q below. of_type (neighbour set step.axis (konst_number step.step []) q) (shifted_below (extents g set).own q step.axis (number_of 32 true (konst_number step.step [])) are.1.0 below are.1.1) in
              let (e2, (i, (same, (passes, puts)))) = go (λ q. v (neighbour set step.axis (konst_number step.step []) q)) still_of_type (hopped hop) (with_hop step hop d) first.t spare fresh moved later first.at first.sim in
              (e2, (i, (◌∙◌ {b = stepwise elem dest steps (hopped hop) (with_hop step hop d)} {c = with_instr i e2} (on hop d) same, (passes_on g alive bound bound d (with_hop step hop d) e2 s st (Unit {0}) (Unit {0}) (Unit {0}) (omega arith) first passes (λ used. tt) (λ used. tt), puts))))
          by (inr last) go = subst (λ (xs : List GridStep). MovesLast bound set (step ∷ xs) hop v d s st) (sym last.0) (ends step.step are.0.1)
            where
              ends : (c : Konst) → c ≡ K.Imm are.0.0 → MovesLast bound set (step ∷ []) hop v d s st
              ends c is = (d, (I.GetFromNews dest hop.source step.axis step.step, (last_step elem dest step hop d last.1, (passes_all g alive bound d s st (Unit {0}) here sim, subst (λ (c : Konst). Puts g set (I.GetFromNews dest hop.source step.axis c) dest s (λ q. v (neighbour set step.axis (konst_number c []) q))) (sym are.0.1) (puts_news bits set step.axis are.0.0 dest hop.source s v last.2 are.1 h)))))
