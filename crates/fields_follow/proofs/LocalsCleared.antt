-- The code that clears a parallel variable of a block makes its own entry 0 at every position.
use Rattle.std.proofs.Common.{◌≢◌, true, ◌≡◌, ◌∙◌, ℕ, ◌+◌, ◌<◌, ◌≤◌, ◌^◌, ◌&&◌, ◌⊎◌, inl, inr, Bool, false, if◌then◌else◌, nat_lt, List, [], ◌∷◌, ◌++◌, append_assoc, length, slice_get, take, Option, Some, None, refl, sym, ap, subst, arith}
use Rattle.std.specs.Prelude.{nat_le}
use Rattle.std.proofs.lemmas.Bool.{cases_eq}
use Rattle.std.proofs.lemmas.Bool.Decides.{nat_tests}
use Rattle.cstar_tree.specs.declared.typed.VarInfo.{VarInfo}
use Rattle.cstar_tree.specs.declared.typed.Variable.{Variable}
use Rattle.cstar_tree.specs.declared.typed.Variable.TheVariants as V
use Rattle.code_lengths.proofs.Drafting.{append_nothing}
use Rattle.code_lengths.proofs.Declaring.{at_length}
use Rattle.code_lengths.specs.Naming.{variable_named}
use Rattle.code_lengths.specs.Ready.{HasDeclared, NumbersVariables, homes_of}
use Rattle.cstar_tree.specs.Variables.{variables_of}
use Rattle.lower_base.specs.declared.names.LocalName.{LocalName}
use Rattle.lower_base.specs.Drafts.{Draft, Made, Makes, an_entry, step as step_of, then_make, with_instr, with_step}
use Rattle.lower_base.specs.Layouts.{entries_of, nothing_numbered, numbered, register_of}
use Rattle.lower_stmt.specs.Variables.{cleared, cleared_fields, is_kept_so, with_home}
use Rattle.paris_code.specs.declared.instr.Instr.{Instr}
use Rattle.paris_code.specs.declared.instr.Instr.TheVariants as I
use Rattle.paris_code.specs.declared.operands.Field.{Field}
use Rattle.paris_code.specs.declared.program.Owner.TheVariants as W
use Rattle.paris_code.specs.Code.{CodeState, Goes, applied, begun}
use Rattle.paris_code.specs.Elementwise.{elementwise}
use Rattle.paris_code.specs.Meaning.{after}
use Rattle.paris_code.specs.Memory.{BitMemory, field_number}
use Rattle.paris_code.specs.Shapes.{bits_at}
use Rattle.paris_code.specs.Spans.{IsNamedAt}
use Rattle.paris_code.specs.Writes.{Write, written}
use Rattle.source_meaning.specs.State.{State, is_among, zeroed}
use Rattle.source_meaning.specs.Values.{Active, Scope}
use Rattle.code_follows.proofs.Besides.{LocalsClear}
use Rattle.code_follows.proofs.Following.{IsScalar, Ran, Sim, held}
use Rattle.code_follows.proofs.Growing.{Extended, extended}
use Rattle.code_follows.proofs.Numbered.{numbered_at}
use Rattle.fields_follow.proofs.Passing.{fields_longer}
use Rattle.code_follows.proofs.Settings.{HasHome, IsNewIn, IsParallelLocal, OpenAmong, At, Begun, SameBelow, Setting, Within, and_one, at_next, begins_here, code_more, layout, one_home, one_writes, placed_instr}
use Rattle.code_follows.proofs.Standing.{some_same}
use Rattle.fields_follow.proofs.Bits.{field_written, active_apart, bits_written, field_apart}
use Rattle.fields_follow.proofs.Fields.{HoldsFields}
use Rattle.fields_follow.proofs.FileFields.{Apart, apart_back}
use Rattle.fields_follow.proofs.Instructions.{place, shapes, wrote}
use Rattle.fields_follow.proofs.Knowing.{KnowsFields, StaysNamed}
use Rattle.fields_follow.proofs.Leaving.{EndsBelow}
use Rattle.fields_follow.proofs.Places.{IsOwnField, PlacesFields, names_first, of_file, stands_here}
use Rattle.fields_follow.proofs.Values.{and_entry, next_field, one_more, taken, with_entry}
use Rattle.fields_follow.proofs.Locals.{HoldsLocal, HoldsLocals, IsLocalField, IsNoHome, behind_homes, locals_fewer, locals_on}
use Rattle.fields_follow.proofs.LocalWrites.{behind_own_at}
use Rattle.std.proofs.lemmas.Nat.{pow_pos}
use Rattle.std.proofs.Math.Nat.{mod-eq_of_lt}
use Rattle.code_follows.proofs.Declaring.{local_same}

-- the home of the variable is no code
and_home : (d : Draft) → Extended d 0 (with_home d)
unfolding with_home
and_home d = record { more = []; code = append_nothing d.code; long = refl; entries = []; fields = append_nothing d.fields; regs = omega arith; homes = length d.fields ∷ []; homes_are = refl }

module _ (g : Setting) (n : ℕ) (info : VarInfo) (set : ℕ) (named : variable_named g.typed g.instance (V.Local n) ≡ Some info) (parallel : info.shape ≡ Some set) where
  -- no scalar variable is it
  no_scalar : (x : Variable) (of : VarInfo) → IsScalar g x of → x ≡ V.Local n → ⊥
  no_scalar x of scalar same =
      let is : info ≡ of = some_same info of (sym named ∙ ap (λ (y : Variable). variable_named g.typed g.instance y) (sym same) ∙ scalar.0) in
      let wrong : Some set ≡ None = sym parallel ∙ ap (λ (i : VarInfo). i.shape) is ∙ scalar.1 in cc

  -- so the scalar ones are what they were
  same_scalar : (st : State) (x : Variable) (of : VarInfo) → IsScalar g x of → (zeroed n 1 st).scalar x ≡ st.scalar x
  unfolding zeroed is_among
  same_scalar st (V.File k) of scalar = refl
  same_scalar st (V.Param k) of scalar = refl
  same_scalar st (V.Local k) of scalar = by (cases_eq k n)
    where
      other : (k ≡ n → ⊥) → (nat_le n k && nat_lt k (n + 1)) ≡ false
      other differ = grind (arith, nat_tests, differ)

      by : (k ≡ n) ⊎ (k ≡ n → ⊥) → (if nat_le n k && nat_lt k (n + 1) then 0 else st.scalar (V.Local k)) ≡ st.scalar (V.Local k)
      by (inl same) = absurd (no_scalar (V.Local k) of scalar (ap V.Local same))
      by (inr differ) = ap (λ (b : Bool). if b then 0 else st.scalar (V.Local k)) (other differ)

  -- the state behind it agrees where the memory holds what is to be held
  sim_cleared : (before : Variable → Type 0) (st : State) (s : CodeState) (at : ℕ) (m : BitMemory) → g.held.holds (OpenAmong g (λ x. before x ⊎ (x ≡ V.Local n))) at (zeroed n 1 st) m → Sim g before st s → Sim g (λ x. before x ⊎ (x ≡ V.Local n)) (zeroed n 1 st) (record s { at = at; memory = m })
  unfolding zeroed
  sim_cleared before st s at m holds h = record {
    registers = h.registers;
    scalars = λ x of living scalar. h.scalars x of (was x of scalar living) scalar ∙ ap (λ (w : ℕ). held of.elem w) (sym (same_scalar st x of scalar));
    small = λ x of living scalar. subst (λ (w : ℕ). w < 2 ^ of.elem.bits) (sym (same_scalar st x of scalar)) (h.small x of (was x of scalar living) scalar);
    constants = h.constants;
    turns = h.turns;
    output = h.output;
    input = h.input;
    returns = h.returns;
    few = h.few;
    bytes = h.bytes;
    memory = holds;
  }
    where
      was : (x : Variable) (of : VarInfo) → IsScalar g x of → before x ⊎ (x ≡ V.Local n) → before x
      was x of scalar (inl h) = h
      was x of scalar (inr same) = absurd (no_scalar x of scalar same)

module _ (g : Setting) (scope : Scope) (active : Active) (known : KnowsFields g scope active) (n : ℕ) (info : VarInfo) (set : ℕ) (named : variable_named g.typed g.instance (V.Local n) ≡ Some info) (parallel : info.shape ≡ Some set) (d : Draft) where
  abbrev places : PlacesFields g
  places = known.places

  abbrev bits : ℕ
  bits = info.elem.bits

  abbrev taken_for : Draft
  taken_for = with_entry set bits W.Own (with_home d)

  abbrev dest : Field
  dest = next_field set bits (with_home d)

  abbrev clear : Instr
  clear = I.MoveZeroAlways dest

  abbrev behind : Draft
  behind = with_instr clear taken_for

  -- one instruction more, and an entry with its home
  grown : Extended d (0 + (0 + 1)) behind
  grown = extended d (with_home d) behind 0 (0 + 1) (and_home d) (extended (with_home d) taken_for behind 0 1 (and_entry set bits W.Own (with_home d)) (and_one g clear taken_for))

  fields_same : length (with_home d).fields ≡ length d.fields
  unfolding with_home
  fields_same = refl

  code_same : length taken_for.code ≡ length d.code
  unfolding with_home
  code_same = refl

  -- the instruction names the entry
  there : Within g behind → IsNamedAt g.unit dest.offset (length taken_for.code)
  unfolding step_of
  there within = names_first g clear dest [] (length taken_for.code) (stands_here g clear taken_for within refl) refl

  -- it is the home of the variable
  homes_now : behind.homes ≡ d.homes ++ length d.fields ∷ []
  unfolding with_home with_instr with_step
  homes_now = refl

  home : NumbersVariables g.instance (layout g) → HasDeclared g.typed g.instance (layout g) n d → Within g behind → HasHome g n dest.offset
  unfolding variable_named with_home
  home numbers declared within = (
    record { home = before_it; entries = entries_of info },
    (
      ap (λ (names : List LocalName). slice_get names n) numbers ∙ ap (λ (k : ℕ). slice_get (numbered (variables_of g.instance.body) nothing_numbered).locals k) (none n) ∙ numbered_at (variables_of g.instance.body) nothing_numbered n info named,
      ap (λ (homes : List ℕ). slice_get homes before_it) (within.homes_are ∙ ap (λ (homes : List ℕ). homes ++ within.homes) homes_now ∙ append_assoc d.homes (length d.fields ∷ []) within.homes)
          ∙ ap (λ (k : ℕ). slice_get (d.homes ++ length d.fields ∷ within.homes) k) (sym declared.homes) ∙ at_length d.homes (length d.fields) within.homes,
    ),
  )
    where
      none : (k : ℕ) → k ≡ 0 + k
      none k = omega arith

      before_it : ℕ
      before_it = homes_of (take n (variables_of g.instance.body))

  -- so the variable is open behind it
  is_open : NumbersVariables g.instance (layout g) → HasDeclared g.typed g.instance (layout g) n d → Within g behind → IsNewIn g n d behind
  is_open numbers declared within =
      let more = code_more g clear taken_for in
      let first = one_more set bits W.Own (with_home d) in
      let longer = fields_longer taken_for behind 1 (and_one g clear taken_for) in
      let its_own = home numbers declared within in
      let same = fields_same in
      ((dest.offset, (its_own, ((length taken_for.code, (there within, omega (arith, more))), omega (arith, first, longer)))), λ entry has. let equal = one_home g n dest.offset entry its_own has in omega (arith, equal, same))

  module _ (numbers : NumbersVariables g.instance (layout g)) (declared : HasDeclared g.typed g.instance (layout g) n d) (before : Variable → Type 0) (s : CodeState) (st : State) (free : Begun g before d) (at : At g s (length d.code)) (sim : Sim g before st s) (within : Within g behind) where
    write : Write
    write = elementwise (shapes g) (I.MoveZeroAlways (place g dest)) [] s.memory

    goes : begun g.image (placed_instr g clear) s ≡ Goes (wrote g write s)
    unfolding begun applied after write
    goes = refl

    ran_in : place g dest ≡ write.run
    unfolding write
    ran_in = refl

    here : At g s (length taken_for.code)
    here = at ∙ ap (λ (k : ℕ). Rattle.code_follows.proofs.Settings.start g + k) (sym code_same)

    own : IsOwnField g dest
    own = taken g set bits W.Own (with_home d) behind 1 within (and_one g clear taken_for)

    ends : (set < length (shapes g)) × EndsBelow g dest
    unfolding step_of
    ends = places.ends (length taken_for.code) clear dest [] (stands_here g clear taken_for within refl) refl tt refl

    still : (f : Field) (p : ℕ) → Apart (place g dest) f → field_number (written write s.memory) f p ≡ field_number s.memory f p
    still f p apart = field_apart write s.memory f p (subst (λ (h : Field). Apart h f) ran_in apart)

    below : SameBelow g.image g.placed g.number s.memory (written write s.memory)
    below f p low = still f p (places.own_and_below dest f own low)

    stays : StaysNamed g known.kept.saved g.from g.entries g.upto s.memory (written write s.memory)
    stays h first last p saved inside is_own ends_h begins early ends_so late =
        still (place g h) p (apart_back (place g h) (place g dest) (places.owns_apart_at h dest first (length taken_for.code) (λ same. let low = free.fields in let equal = fields_same in omega (arith, same, inside, low, equal)) is_own own ends.0 begins
        (let low = free.code in let equal = code_same in omega (arith, early, low, equal)) (λ span held. let most = (held.named last ends_so).1 in let up = within.upto in let more = code_more g clear taken_for in omega (arith, most, late, up, more)) (there within)))

    holds : HoldsFields g.typed g.image active st s.memory → HoldsFields g.typed g.image active (zeroed n 1 st) (written write s.memory)
    unfolding zeroed is_among written
    holds was = record {
      numbers = λ k element q p of is low. still (of_file g k element) p (places.own_file k element q of dest is own) ∙ was.numbers k element q p of is low;
      small = was.small;
      flags = λ q p exists low. active_apart (shapes g) write s.memory q p (subst (λ (f : Field). f.offset + f.len ≤ bits_at (shapes g) f.set) ran_in ends.1) ∙ was.flags q p exists low;
      winner = was.winner;
      bits = bits_written (shapes g) write s.memory was.bits;
    }

    -- the others have entries of their own
    abbrev Others : ℕ → Type 0
    Others k = OpenAmong g before k × (n ≢ k)

    same_parallel : (k p : ℕ) → n ≢ k → (zeroed n 1 st).parallel (V.Local k) 0 p ≡ st.parallel (V.Local k) 0 p
    unfolding zeroed is_among
    same_parallel k p differ = ap (λ (b : Bool). if b then 0 else st.parallel (V.Local k) 0 p) other
      where
        other : (nat_le n k && nat_lt k (n + 1)) ≡ false
        other = grind (arith, nat_tests, differ)

    others_held : HoldsLocals g (OpenAmong g before) s.at st s.memory → HoldsLocals g Others (s.at + 1) (zeroed n 1 st) (written write s.memory)
    others_held h =
        locals_on g Others (s.at + 1) (s.at + 1) st (zeroed n 1 st) (written write s.memory) (written write s.memory) (omega arith) (λ k of f living is holds used p low. refl) (λ k living p. same_parallel k p living.1)
        (behind_own_at g places Others (length taken_for.code) s.at (s.at + 1) dest st s.memory (written write s.memory) here (omega arith) own ends.0 (there within)
        (λ k entry living home same. behind_homes g (OpenAmong g before) (length d.code) (length d.fields) dest.offset free.opened (let equal = fields_same in omega (arith, equal)) k entry living.0 home same) still (locals_fewer g (OpenAmong g before) Others s.at st s.memory (λ k living. living.0) h))

    -- and it is 0 in its own
    zero_there : (p : ℕ) → (zeroed n 1 st).parallel (V.Local n) 0 p ≡ 0
    unfolding zeroed is_among
    zero_there p = ap (λ (b : Bool). if b then 0 else st.parallel (V.Local n) 0 p) inside
      where
        inside : (nat_le n n && nat_lt n (n + 1)) ≡ true
        inside = grind (arith, nat_tests)

    zero_written : (p : ℕ) → field_number (written write s.memory) (place g dest) p ≡ 0
    unfolding write
    zero_written p = field_written write s.memory p refl ∙ mod-eq_of_lt (pow_pos bits)

    its_own : IsLocalField g n info dest
    its_own = record { known = named; parallel = parallel; home = home numbers declared within; own = own; len = refl }

    all_held : HoldsLocals g (OpenAmong g before) s.at st s.memory → HoldsLocals g (OpenAmong g (λ x. before x ⊎ (x ≡ V.Local n))) (s.at + 1) (zeroed n 1 st) (written write s.memory)
    all_held h k is_open = by (cases_eq n k) is_open.0
      where
        Holding : ℕ → Type 0
        Holding j = (of : VarInfo) × ((f : Field) × (IsLocalField g j of f × HoldsLocal g j of f (s.at + 1) (zeroed n 1 st) (written write s.memory)))

        mine : Holding n
        mine = (
          info,
          (
            dest,
            (
              its_own,
              record {
                first = length taken_for.code;
                named = there within;
                before = omega (arith, here);
                exists = ends.0;
                ends = ends.1;
                small = λ p. subst (λ (w : ℕ). w < 2 ^ info.elem.bits) (sym (zero_there p)) (pow_pos info.elem.bits);
                numbers = λ used p low. zero_written p ∙ sym (zero_there p);
              },
            ),
          ),
        )

        by : (n ≡ k) ⊎ (n ≢ k) → before (V.Local k) ⊎ (V.Local k ≡ V.Local n) → Holding k
        by (inl same) any = subst Holding same mine
        by (inr differ) (inl living) = others_held h k ((living, is_open.1), differ)
        by (inr differ) (inr same) = absurd (differ (sym (local_same k n same)))

    -- what is kept stands in no entry of it, which is new
    beside : ((entry : ℕ) → known.kept.saved entry → IsNoHome g (OpenAmong g before) entry) → (entry : ℕ) → known.kept.saved entry → (k home_of : ℕ) → before (V.Local k) ⊎ (V.Local k ≡ V.Local n) → IsParallelLocal g k → HasHome g k home_of → home_of ≡ entry → ⊥
    beside apart entry saved k home_of (inl living) parallel_one has same = apart entry saved k home_of (living, parallel_one) has same
    beside apart entry saved k home_of (inr is) parallel_one has same =
        let equal = one_home g n home_of dest.offset (subst (λ (j : ℕ). HasHome g j home_of) (local_same k n is) has) (home numbers declared within) in
        let low = known.lasts.below entry saved in
        let fewer = free.fields in
        let there = fields_same in
        omega (arith, equal, low, fewer, there, same)

    clears_it : Ran g (λ x. before x ⊎ (x ≡ V.Local n)) d s (zeroed n 1 st) behind
    unfolding step_of
    clears_it =
        let opened = known.opens (OpenAmong g before) s.at st s.memory sim.memory in
        record {
          grown = (0 + (0 + 1), grown);
          t = wrote g write s;
          go = one_writes g s (wrote g write s) (begins_here g clear taken_for s within refl here ∙ goes) below;
          at = at_next g clear taken_for s (s.at + 1) here refl;
          sim = sim_cleared g n info set named parallel before st s (s.at + 1) (written write s.memory) (known.closes (OpenAmong g (λ x. before x ⊎ (x ≡ V.Local n))) (s.at + 1) (zeroed n 1 st) (written write s.memory) (holds opened.0.0, all_held opened.0.1) (known.lasts.code s.memory (written write s.memory) stays below opened.1.0, λ entry saved k home living. beside opened.1.1 entry saved k home living.0 living.1)) sim;
          keeps = λ r kept. refl;
        }

-- each that the program may have is cleared so
pub locals_clear : (g : Setting) (scope : Scope) (active : Active) → KnowsFields g scope active → LocalsClear g
unfolding cleared cleared_fields then_make an_entry entries_of
locals_clear g scope active known at_start local n d may named numbers declared =
    let is = known.locals local.info may in
    let set = is.0 in
    let parallel = is.1.0 in
    let once : entries_of local.info ≡ 1 =
    ap (λ (o : Option ℕ). elim o as (λ _. ℕ) [ None ↦ 0 | Some s ↦ elim local.info.array as (λ _. ℕ) [ None ↦ 1 | Some m ↦ m ] ]) parallel ∙ ap (λ (o : Option ℕ). elim o as (λ _. ℕ) [ None ↦ 1 | Some m ↦ m ]) is.1.1 in
    record {
      e = behind g scope active known n local.info set named parallel d;
      is =
          ap (λ (o : Option ℕ). elim o as (λ _. Made (Unit {0})) [
            | None ↦ if is_kept_so at_start local then Makes (tt {0}) d else Makes (tt {0}) (with_instr (I.FrontConst (register_of (layout g) (V.Local n)) 0) d)
            | Some s ↦ cleared_fields (entries_of local.info) s local.info.elem.bits (with_home d)
          ]) parallel
          ∙ ap (λ (k : ℕ). cleared_fields k set local.info.elem.bits (with_home d)) once;
      count = 0 + (0 + 1);
      grown = grown g scope active known n local.info set named parallel d;
      opened = λ within. is_open g scope active known n local.info set named parallel d numbers declared within;
      runs = λ before s st free at sim within. clears_it g scope active known n local.info set named parallel d numbers declared before s st free at sim within;
    }
