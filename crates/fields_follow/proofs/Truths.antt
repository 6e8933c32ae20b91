-- Fields of one bit tell where a condition holds.
use Rattle.std.proofs.Common.{◌≡◌, ◌∙◌, inl, inr, ℕ, ◌+◌, ◌%◌, ◌^◌, ◌<◌, ◌≤◌, ◌==◌, Bool, true, false, not, ◌&&◌, ◌||◌, if◌then◌else◌, List, [], ◌∷◌, length, Some, refl, sym, ap, subst, arith, slice_index}
use Rattle.std.specs.Int.{from_bool}
use Rattle.std.proofs.lemmas.Bool.Decides.{nat_tests}
use Rattle.std.proofs.lemmas.Nat.{mod_below}
use Rattle.cstar_base.specs.Operators.{outcome}
use Rattle.cstar_tree.specs.declared.typed.VarInfo.{VarInfo}
use Rattle.cstar_tree.specs.declared.typed.Variable.{Variable}
use Rattle.code_lengths.specs.Naming.{variable_named}
use Rattle.lower_base.specs.Drafts.{Draft, Plain, step as step_of, with_instr}
use Rattle.lower_expr.specs.Joined.{operation_of}
use Rattle.paris_code.specs.declared.instr.Instr.{Instr}
use Rattle.paris_code.specs.declared.instr.Instr.TheVariants as I
use Rattle.paris_code.specs.declared.operands.Field.{Field}
use Rattle.paris_code.specs.Code.{CodeState, Goes, applied, begun}
use Rattle.paris_code.specs.Meaning.{after}
use Rattle.paris_code.specs.Memory.{is_active, is_tested, processors}
use Rattle.paris_code.specs.Operators.{operator_of}
use Rattle.paris_code.specs.Spans.{IsNamedAt, fields_of}
use Rattle.source_meaning.specs.State.{State}
use Rattle.source_meaning.specs.Values.{nonzero}
use Rattle.code_follows.proofs.Besides.{sim_saying}
use Rattle.code_follows.proofs.Following.{Sim, held}
use Rattle.code_follows.proofs.Growing.{extended}
use Rattle.code_follows.proofs.Settings.{OpenAmong, Setting, Within, and_one, code_more, onto, placed_instr, start}
use Rattle.fields_follow.proofs.Flags.{Stored, bit_fits, stored, written_to}
use Rattle.fields_follow.proofs.Instructions.{number_in, place, shapes, wrote}
use Rattle.fields_follow.proofs.Leaving.{EndsBelow, PassesTests, under}
use Rattle.fields_follow.proofs.Named.{NamesFields}
use Rattle.fields_follow.proofs.Passing.{Behind, GivesField, HasOneBit, InVariable, Stands, code_longer, fields_longer, first_there, flags_of, gives_numbers, gives_set, in_variable_numbers}
use Rattle.fields_follow.proofs.PassingTests.{tests_passed}
use Rattle.fields_follow.proofs.Places.{HoldsTheFields, IsOwnField, PlacesFields, names_first, stands_here}
use Rattle.fields_follow.proofs.TestFlags.{Tells, numbers_tell}
use Rattle.fields_follow.proofs.Variables.{entry_named}
use Rattle.fields_follow.proofs.Starts.{starts_next}
use Rattle.fields_follow.proofs.Locals.{IsNoHome, locals_again}

-- two bits joined
abbrev pub either_or_both : Bool → Bool → Bool → Bool
either_or_both is_or a b = if is_or then a || b else a && b

pub joined_bits : (is_or a b : Bool) (len : ℕ) → outcome (operator_of (operation_of is_or)).0 len (operator_of (operation_of is_or)).1 (from_bool a) (from_bool b) % 2 ^ 1 ≡ from_bool (nonzero (from_bool (either_or_both is_or a b)))
unfolding operation_of outcome
joined_bits true true true len = refl
joined_bits true true false len = refl
joined_bits true false true len = refl
joined_bits true false false len = refl
joined_bits false true true len = refl
joined_bits false true false len = refl
joined_bits false false true len = refl
joined_bits false false false len = refl

module _ (g : Setting) (alive : Variable → Type 0) (places : PlacesFields g) (fields : HoldsTheFields g) where
  -- what the state is for the fields alone
  pub fields_sim : (st : State) (s : CodeState) → Sim g alive st s → Sim (under g fields.active) alive st s
  fields_sim st s h = sim_saying g alive st s s.at s.memory (fields.opens (OpenAmong g alive) s.at st s.memory h.memory, locals_again g (OpenAmong g alive) s.at st s.memory (fields.locals (OpenAmong g alive) s.at st s.memory h.memory)) h

  pub whole_sim : (st : State) (s : CodeState) → Sim (under g fields.active) alive st s → Sim g alive st s
  whole_sim st s h = sim_saying g alive st s s.at s.memory (fields.closes (OpenAmong g alive) s.at st s.memory h.memory.0 (locals_again g (OpenAmong g alive) s.at st s.memory h.memory.1)) h

  -- Code of conditions gives a field that is zero where these numbers are, if an instruction behind it names the field.
  pub record GivesTold (d : Draft) (s : CodeState) (set : ℕ) (st : State) (v : ℕ → ℕ) (f : Field) (e : Draft) : Type 0 where
    pub passes : PassesTests g alive d e s st (Behind g f e)
    pub exists : set < length (shapes g)
    pub tells : Behind g f e → Tells g set f passes.t v

  -- what stands in own entries behind a draft and below the flags that are named by now is there in another state too, where
  -- they are named
  abbrev pub Stays : Draft → Draft → CodeState → CodeState → ℕ → Type 0
  Stays d e s t last = (h : Field) (first q : ℕ) → length d.fields ≤ h.offset → h.offset < length e.fields → IsOwnField g h → EndsBelow g h → IsNamedAt g.unit h.offset first → first < length e.code → IsNamedAt g.unit h.offset last → number_in g h t q ≡ number_in g h s q

  -- the variables of one bit have the same numbers
  abbrev pub SameBits : State → State → Type 0
  SameBits u st = (x : Variable) (info : VarInfo) → variable_named g.typed g.instance x ≡ Some info → info.elem.bits ≡ 1 → (q : ℕ) → u.parallel x 0 q ≡ st.parallel x 0 q

  -- It gives a field of one bit that is 1 where, at active positions, these numbers are not zero, if an instruction behind
  -- it names the field. That lasts to where the field is named, whatever variables of more bits have there.
  pub record GivesTruth (d : Draft) (s : CodeState) (set : ℕ) (st : State) (v : ℕ → ℕ) (f : Field) (e : Draft) : Type 0 where
    pub passes : PassesTests g alive d e s st (Behind g f e)
    pub of_set : f.set ≡ set
    pub exists : set < length (shapes g)
    pub len : f.len ≡ 1
    pub are : Behind g f e → (q : ℕ) → q < processors (shapes g) set → fields.active set q ≡ true → number_in g f passes.t q ≡ from_bool (nonzero (v q))
    pub lasts : (u : State) (t : CodeState) (last : ℕ) → SameBits u st → Sim g alive u t → Stays d e passes.t t last → IsNamedAt g.unit f.offset last → length e.code ≤ last → t.at ≤ start g + last → (q : ℕ) → q < processors (shapes g) set → number_in g f t q ≡ number_in g f passes.t q

  -- so it is behind more code of conditions
  pub truth_still : (d e e2 : Draft) (s : CodeState) (set : ℕ) (st : State) (v : ℕ → ℕ) (f : Field) (used : Type 0) (last : ℕ) → (one : GivesTruth d s set st v f e) → (two : PassesTests g alive e e2 one.passes.t st used) → used → IsNamedAt g.unit f.offset last → length e2.code ≤ last
      → (q : ℕ) → q < processors (shapes g) set → number_in g f two.t q ≡ number_in g f one.passes.t q
  truth_still d e e2 s set st v f used last one two wanted named late q below = one.lasts st two.t last (λ x info known one_bit y. refl) two.sim (λ h first p new inside own ends before early there. two.stays wanted h first last p inside own ends before early there late) named
      (let longer = code_longer e e2 two.grown.0 two.grown.1 in omega (arith, longer, late)) (let there = two.at.stands in omega (arith, there, late)) q below

  -- what code gives lasts to where the field is named, where own entries do, and the variable in which it stands
  pub field_lasts : (bits : ℕ) (d : Draft) (s : CodeState) (set : ℕ) (st : State) (v : ℕ → ℕ) (f : Field) (e : Draft) → (h : GivesField g alive bits (length d.fields) d s set st v f e) → (u : State) (t : CodeState) (last : ℕ)
      → ((variable : InVariable g alive bits set f st v) → h.stands ≡ inr variable → (q : ℕ) → u.parallel variable.x 0 q ≡ st.parallel variable.x 0 q) → Sim g alive u t → Stays d e h.passes.t t last → IsNamedAt g.unit f.offset last → length e.code ≤ last → t.at ≤ start g + last
      → (q : ℕ) → q < processors (shapes g) set → number_in g f t q ≡ number_in g f h.passes.t q
  field_lasts bits d s set st v f e h u t last same sim stays named early late q below = by h.stands refl
    where
      of : (f.set ≡ set) × (set < length (shapes g)) × (f.len ≡ bits)
      of = gives_set g alive places fields bits (length d.fields) d s set st v f e h

      by : (x : Stands g alive bits (length d.fields) e set f h.passes.t st v) → h.stands ≡ x → number_in g f t q ≡ number_in g f h.passes.t q
      by (inl own) is =
          first_there g alive places fields set f own.long u t sim of.0 of.1 own.fits own.ends q below
          ∙ ap (λ (m : ℕ). m % 2 ^ f.len) (stays (record f { len = own.long }) own.somewhere q own.newer own.older own.own own.ends own.named own.before named)
          ∙ sym (first_there g alive places fields set f own.long st h.passes.t h.passes.sim of.0 of.1 own.fits own.ends q below)
      by (inr variable) is =
          (in_variable_numbers g alive places fields bits set f u v t (record {
            x = variable.x;
            info = variable.info;
            carries = variable.carries;
            len = variable.len;
            fits = variable.fits;
            same = λ p low. ((variable.same p low).0 ∙ ap (λ (n : ℕ). held variable.info.elem n % 2 ^ bits) (sym (same variable is p)), (variable.same p low).1);
          }) sim last named late q below).0
          ∙ sym (in_variable_numbers g alive places fields bits set f st v h.passes.t variable h.passes.sim last named (let there = h.passes.at.stands in omega (arith, there, early)) q below).0

  -- a field of one bit of a value that is zero where its lowest bit is
  pub field_truth : (d : Draft) (s : CodeState) (set : ℕ) (st : State) (v u : ℕ → ℕ) (f : Field) (e : Draft) → ((q : ℕ) → q < processors (shapes g) set → (v q % 2 ^ 1 == 0) ≡ (u q == 0)) → (h : GivesField g alive 1 (length d.fields) d s set st v f e) → HasOneBit g alive h.stands → GivesTruth d s set st u f e
  unfolding tests_passed
  field_truth d s set st v u f e same h narrow = record {
    passes = tests_passed g alive (length d.fields) d e s st (Behind g f e) (omega arith) h.passes;
    of_set = of.0;
    exists = of.1;
    len = of.2;
    are = λ behind q below on.
        (gives_numbers g alive places fields 1 (length d.fields) d s set st v f e h behind).are q below (flags_of g alive places fields st h.passes.t set q h.passes.sim of.1 below ∙ on)
        ∙ is_bit (v q % 2 ^ 1) (mod_below (v q) (2 ^ 1) (omega arith)) (u q == 0) (same q below);
    lasts = λ other t last same_bits sim stays named early late q below.
        field_lasts 1 d s set st v f e h other t last (λ variable is. same_bits variable.x variable.info (entry_named g variable.x variable.info (record f { len = variable.info.elem.bits }) variable.carries.entry) (subst (λ (x : Stands g alive 1 (length d.fields) e set f h.passes.t st v). HasOneBit g alive x) is narrow)) sim stays named early late q below;
  }
    where
      of : (f.set ≡ set) × (set < length (shapes g)) × (f.len ≡ 1)
      of = gives_set g alive places fields 1 (length d.fields) d s set st v f e h

      is_bit : (n : ℕ) → n < 2 ^ 1 → (b : Bool) → (n == 0) ≡ b → n ≡ from_bool (not b)
      is_bit n few true e = grind (arith, nat_tests, few, e)
      is_bit n few false e = grind (arith, nat_tests, few, e)

  pub field_told : (bits : ℕ) (d : Draft) (s : CodeState) (set : ℕ) (st : State) (v u : ℕ → ℕ) (f : Field) (e : Draft) → ((q : ℕ) → q < processors (shapes g) set → (v q % 2 ^ bits == 0) ≡ (u q == 0)) → GivesField g alive bits (length d.fields) d s set st v f e → GivesTold d s set st u f e
  unfolding tests_passed
  field_told bits d s set st v u f e same h =
      record {
        passes = tests_passed g alive (length d.fields) d e s st (Behind g f e) (omega arith) h.passes;
        exists = (gives_set g alive places fields bits (length d.fields) d s set st v f e h).1;
        tells = λ behind. numbers_tell g bits set f h.passes.t v u same (gives_numbers g alive places fields bits (length d.fields) d s set st v f e h behind);
      }

  -- behind code of conditions, an instruction by which an own entry that is new takes these bits
  module _ (set : ℕ) (d e : Draft) (i : Instr) (f : Field) (others : List Field) (s : CodeState) (st : State) (v value : ℕ → ℕ) (used : Type 0) (p : PassesTests g alive d e s st used) (wanted : used) (newer : length d.fields ≤ f.offset) (older : f.offset < length e.fields) (own : IsOwnField g f) (none : IsNoHome g (OpenAmong g alive) f.offset)
      (of_set : f.set ≡ set) (len : f.len ≡ 1) (plain : step_of i ≡ Plain i) (simple : NamesFields i) (names : fields_of i ≡ f ∷ others)
      (goes : begun g.image (placed_instr g i) p.t ≡ Goes (wrote g (written_to (place g f) (λ q. is_active (shapes g) p.t.memory f.set q) value) p.t)) (within : Within g (with_instr i e)) where
    abbrev Takes : ℕ → Type 0
    Takes q = (q < processors (shapes g) set) × (fields.active set q ≡ true)

    put_truth : ((q : ℕ) → q < processors (shapes g) set → fields.active set q ≡ true → value q % 2 ^ 1 ≡ from_bool (nonzero (v q))) → GivesTruth d s set st v f (with_instr i e)
    put_truth bits = record {
      passes = record {
        grown = (p.grown.0 + 1, extended d e (with_instr i e) p.grown.0 1 p.grown.1 (and_one g i e));
        t = w.t;
        go = onto g s p.t w.t p.go w.go;
        at = starts_next g alive i e p.t w.t w.at p.at;
        registers = λ r kept. ap (λ (registers : List ℕ). slice_index registers r) w.registers ∙ p.registers r kept;
        sim = whole_sim st w.t w.sim;
        stays = λ behind h first last q below is_own ends before low after high.
            w.stays h first last behind.0 q (λ same. omega (arith, same, below, newer)) is_own before after (let l = code_longer d e p.grown.0 p.grown.1 in omega (arith, low, l)) (omega (arith, high, long)) behind.1.0
            (let b = behind.1.1 in omega (arith, b, long))
            ∙ p.stays wanted h first last q below is_own ends before low after (omega (arith, high, long));
      };
      of_set = of_set;
      exists = w.exists;
      len = len;
      are = λ behind q below on. w.has q below (below, on);
      lasts = λ u t last same sim stays named early late q below. stays f (length e.code) q newer (let l = fields_longer e (with_instr i e) 1 (and_one g i e) in omega (arith, older, l)) own w.ends (names_first g i f others (length e.code) (stands_here g i e within plain) names) (omega (arith, long)) named;
    }
      where
        long : length (with_instr i e).code ≡ length e.code + 1
        long = code_more g i e

        w : Stored g places alive fields.active set f e i p.t st Takes (λ q. from_bool (nonzero (v q)))
        w = stored g places alive fields.active set f i others e p.t st (λ q. is_active (shapes g) p.t.memory f.set q) value plain simple names goes own none of_set within p.at.stands (fields_sim st p.t p.sim) Takes (λ q. from_bool (nonzero (v q)))
            (λ q active takes. (active ∙ takes.1, ap (λ (n : ℕ). value q % 2 ^ n) len ∙ bits q takes.0 takes.1))

  -- the test flags, stored
  pub truth_stored : (set : ℕ) (d e : Draft) (f : Field) (s : CodeState) (st : State) (v : ℕ → ℕ) (p : PassesTests g alive d e s st (Unit {0})) → ((q : ℕ) → q < processors (shapes g) set → fields.active set q ≡ true → is_tested (shapes g) p.t.memory set q ≡ nonzero (v q))
      → length d.fields ≤ f.offset → f.offset < length e.fields → IsOwnField g f → IsNoHome g (OpenAmong g alive) f.offset → f.set ≡ set → f.len ≡ 1 → Within g (with_instr (I.StoreTest f) e) → GivesTruth d s set st v f (with_instr (I.StoreTest f) e)
  unfolding begun applied after step_of
  truth_stored set d e f s st v p flags newer older own none of_set len within =
      put_truth set d e (I.StoreTest f) f [] s st v (λ q. from_bool (is_tested (shapes g) p.t.memory f.set q)) (Unit {0}) p tt newer older own none of_set len refl tt refl refl within
      (λ q below on. bit_fits (is_tested (shapes g) p.t.memory f.set q) 1 refl ∙ ap (λ (n : ℕ). from_bool (is_tested (shapes g) p.t.memory n q)) of_set ∙ ap from_bool (flags q below on))
