-- A variable or an own entry that is cleared, and whose lowest bit then is written by an operation on two bits, takes a
-- truth value.
use Rattle.std.proofs.Common.{◌≡◌, ◌∙◌, ℕ, zero, suc, ◌+◌, ◌-◌, ◌%◌, ◌^◌, ◌<◌, ◌≤◌, ◌==◌, ◌&&◌, inl, inr, Bool, true, false, [], ◌∷◌, length, refl, sym, ap, subst, arith, if◌then◌else◌}
use Rattle.std.proofs.lemmas.Bool.Decides.{nat_tests}
use Rattle.std.proofs.lemmas.Nat.Bits.{bit_at-zero, bit_at_lowest}
use Rattle.std.proofs.Math.Nat.{div-eq_of_lt, mod-eq_of_lt, pow-suc}
use Rattle.std.proofs.lemmas.Nat.{pow_pos}
use Rattle.std.specs.Int.{bit_at, from_bool}
use Rattle.std.specs.Prelude.{nat_le, nat_lt}
use Rattle.cstar_base.specs.Operators.{outcome}
use Rattle.cstar_tree.specs.declared.typed.VarInfo.{VarInfo}
use Rattle.cstar_tree.specs.declared.typed.Variable.{Variable}
use Rattle.lower_base.specs.Drafts.{Draft, step as step_of, with_instr}
use Rattle.lower_expr.specs.Joined.{operation_of}
use Rattle.paris_code.specs.declared.instr.Instr.{Instr}
use Rattle.paris_code.specs.declared.instr.Instr.TheVariants as I
use Rattle.paris_code.specs.declared.operands.Field.{Field}
use Rattle.paris_code.specs.declared.operands.Konst.TheVariants as K
use Rattle.paris_code.specs.Code.{CodeState, Goes, applied, begun}
use Rattle.paris_code.specs.Elementwise.{element}
use Rattle.paris_code.specs.Meaning.{after}
use Rattle.paris_code.specs.Memory.{BitMemory, is_active, processors}
use Rattle.paris_code.specs.Operators.{operator_of}
use Rattle.paris_code.specs.Shapes.{bits_at}
use Rattle.paris_code.specs.Spans.{IsNamedAt, StandsAt}
use Rattle.paris_code.specs.Writes.{Write, covers, written}
use Rattle.source_meaning.specs.State.{State, with_positions}
use Rattle.source_meaning.specs.Values.{nonzero}
use Rattle.code_follows.proofs.Growing.{Extended, and_instr, extended}
use Rattle.code_follows.proofs.Settings.{OpenAmong, At, Reaches, Setting, StandsBelow, Within, and_one, at_next, begins_here, code_more, earlier, one_writes, onto, placed_instr, start}
use Rattle.constant_trees.proofs.Words.{from_bool_below}
use Rattle.fields_follow.proofs.Bits.{active_apart, field_apart}
use Rattle.fields_follow.proofs.FileFields.{Apart, apart_back}
use Rattle.fields_follow.proofs.Flags.{written_to}
use Rattle.fields_follow.proofs.Instructions.{number_in, place, shapes, wrote}
use Rattle.fields_follow.proofs.Leaving.{PassesTests}
use Rattle.fields_follow.proofs.Passing.{Behind, GivesField, code_longer, fields_longer, flags_of, names_second, names_third}
use Rattle.fields_follow.proofs.Values.{and_entry, next_field, one_more, taken, with_entry}
use Rattle.paris_code.specs.declared.program.Owner.TheVariants as W
use Rattle.code_follows.proofs.Following.{Sim, keeps_less}
use Rattle.fields_follow.proofs.Starts.{Starts, no_home, starts_later}
use Rattle.fields_follow.proofs.PassingTests.{tests_on}
use Rattle.fields_follow.proofs.Places.{HoldsTheFields, IsOwnField, PlacesFields, names_first, stands_here}
use Rattle.fields_follow.proofs.Truths.{GivesTruth, SameBits, either_or_both, joined_bits, truth_still}
use Rattle.fields_follow.proofs.Writing.{Takes, TakesBehind, elsewhere, own_has, own_sim}
use Rattle.fields_follow.proofs.Locals.{IsNoHome}
use Rattle.fields_follow.proofs.Variables.{Carries, entry_named}
use Rattle.fields_follow.proofs.VariableWrites.{entry_and_below, entry_apart, other_kept, takes_has, variable_sim}
use Rattle.code_lengths.specs.Naming.{variable_named}
use Rattle.code_follows.proofs.Standing.{some_same}

-- ---- two writes are one

-- a bit above the lowest one is that of 0
higher : (x k : ℕ) → 0 < k → bit_at 0 k ≡ bit_at (x % 2) k
higher x zero some = absurd (omega (arith, some))
higher x (suc j) some = bit_at-zero (suc j) ∙ sym (ap (λ (n : ℕ). n % 2) (div-eq_of_lt (let double = pow-suc 2 j in let power = pow_pos j in omega (arith, double, power))))

abbrev lowest_bit : Field → Field
lowest_bit f = record { set = f.set; offset = f.offset; len = 1 }

-- the same positions of a field are cleared, and then its lowest bit is written
two_writes : (f : Field) (writes again : ℕ → Bool) (value : ℕ → ℕ) (m : BitMemory) → 0 < f.len → ((p : ℕ) → again p ≡ writes p)
    → written (written_to (lowest_bit f) again value) (written (written_to f writes (λ p. 0)) m) ≡ written (written_to f writes (λ p. value p % 2)) m
unfolding written covers
two_writes f writes again value m some same = λ j. record { bit = λ set p index. bits set p index j; winner = m.winner }
  where
    by : (p index old : ℕ) (s l n h w : Bool) → nat_le f.offset index ≡ l → nat_lt index (f.offset + 1) ≡ n → nat_lt index (f.offset + f.len) ≡ h
        → (if (s && (l && n)) && w then bit_at (value p) (index - f.offset) else (if (s && (l && h)) && w then bit_at 0 (index - f.offset) else old)) ≡ (if (s && (l && h)) && w then bit_at (value p % 2) (index - f.offset) else old)
    by p index old false l n h w e k i = refl
    by p index old true false n h w e k i = refl
    by p index old true true true false w e k i = absurd (grind (arith, nat_tests, e, k, i, some))
    by p index old true true true true false e k i = refl
    by p index old true true true true true e k i =
        let lowest : index - f.offset ≡ 0 = grind (arith, nat_tests, e, k) in
        ap (λ (n : ℕ). bit_at (value p) n) lowest ∙ bit_at_lowest (value p) ∙ omega arith ∙ sym (bit_at_lowest (value p % 2)) ∙ ap (λ (n : ℕ). bit_at (value p % 2) n) (sym lowest)
    by p index old true true false true true e k i = higher (value p) (index - f.offset) (grind (arith, nat_tests, e, k))
    by p index old true true false true false e k i = refl
    by p index old true true false false w e k i = refl

    bits : (set p index : ℕ) → (written (written_to (lowest_bit f) again value) (written (written_to f writes (λ p. 0)) m)).bit set p index ≡ (written (written_to f writes (λ p. value p % 2)) m).bit set p index
    bits set p index =
        ap (λ (w : Bool). if covers (lowest_bit f) set index && w then bit_at (value p) (index - f.offset) else (if covers f set index && writes p then bit_at 0 (index - f.offset) else m.bit set p index)) (same p)
        ∙ by p index (m.bit set p index) (set == f.set) (nat_le f.offset index) (nat_lt index (f.offset + 1)) (nat_lt index (f.offset + f.len)) (writes p) refl refl refl

-- ---- two bits joined in a field of several

abbrev pub field_at : ℕ → ℕ → ℕ → Field
field_at set offset bits = record { set = set; offset = offset; len = bits }

abbrev clear : ℕ → ℕ → ℕ → Instr
clear set offset bits = I.MoveConstant (field_at set offset bits) (K.Imm 0)

abbrev join : Bool → ℕ → ℕ → ℕ → Field → Field → Instr
join is_or set offset bits a b = I.Operate (operation_of is_or) (lowest_bit (field_at set offset bits)) a b

-- the field is cleared before
abbrev cleared_behind : ℕ → ℕ → ℕ → Draft → Draft
cleared_behind set offset bits e = with_instr (clear set offset bits) e

abbrev pub joined_behind : Bool → ℕ → ℕ → ℕ → Field → Field → Draft → Draft
joined_behind is_or set offset bits a b e = with_instr (join is_or set offset bits a b) (cleared_behind set offset bits e)

pub joined_more : (g : Setting) (is_or : Bool) (set offset bits : ℕ) (a b : Field) (e : Draft) → Extended e 2 (joined_behind is_or set offset bits a b e)
joined_more g is_or set offset bits a b e = and_instr (join is_or set offset bits a b) e (cleared_behind set offset bits e) 1 (and_one g (clear set offset bits) e)

module _ (g : Setting) (set offset bits : ℕ) (some : 0 < bits) (is_or : Bool) (a b : Field) (e : Draft) (s : CodeState) where
  abbrev dest : Field
  dest = field_at set offset bits

  abbrev on : ℕ → Bool
  on q = is_active (shapes g) s.memory set q

  abbrev clears : Write
  clears = written_to (place g dest) on (λ q. 0)

  abbrev s1 : CodeState
  s1 = wrote g clears s

  abbrev number : ℕ → ℕ
  number q = element (shapes g) (I.Operate (operation_of is_or) (place g (lowest_bit dest)) (place g a) (place g b)) [] s1.memory q

  abbrev joins : Write
  joins = written_to (place g (lowest_bit dest)) (λ q. is_active (shapes g) s1.memory set q) number

  clear_goes : begun g.image (placed_instr g (clear set offset bits)) s ≡ Goes s1
  unfolding begun applied after
  clear_goes = refl

  join_goes : begun g.image (placed_instr g (join is_or set offset bits a b)) s1 ≡ Goes (wrote g joins s1)
  unfolding begun applied after
  join_goes = refl

  -- two bits that stay where it is cleared are joined in it
  joined_takes : (v w : ℕ → ℕ) → (dest.set < length (shapes g)) × ((place g dest).offset + dest.len ≤ bits_at (shapes g) dest.set) → ((f : Field) → StandsBelow g.image g.placed g.number f → Apart (place g dest) f) → ((q : ℕ) → q < processors (shapes g) set → number_in g a s1 q ≡ number_in g a s q)
      → ((q : ℕ) → q < processors (shapes g) set → number_in g b s1 q ≡ number_in g b s q) → Within g (joined_behind is_or set offset bits a b e) → At g s (length e.code)
      → ((q : ℕ) → q < processors (shapes g) set → on q ≡ true → number_in g a s q ≡ from_bool (nonzero (v q))) → ((q : ℕ) → q < processors (shapes g) set → on q ≡ true → number_in g b s q ≡ from_bool (nonzero (w q)))
      → TakesBehind g set dest e (joined_behind is_or set offset bits a b e) s (λ q. from_bool (either_or_both is_or (nonzero (v q)) (nonzero (w q))))
  unfolding step_of
  joined_takes v w ends apart still_a still_b within here one_bit other_bit = record {
    takes = record {
      write = both;
      run = refl;
      writes = λ p. refl;
      value = λ p below active.
          ap (λ (n : ℕ). outcome (operator_of (operation_of is_or)).0 1 (operator_of (operation_of is_or)).1 n (number_in g b s1 p) % 2 % 2 ^ bits) (still_a p below ∙ one_bit p below active)
          ∙ ap (λ (n : ℕ). outcome (operator_of (operation_of is_or)).0 1 (operator_of (operation_of is_or)).1 (from_bool (nonzero (v p))) n % 2 % 2 ^ bits) (still_b p below ∙ other_bit p below active)
          ∙ ap (λ (n : ℕ). n % 2 ^ bits) (joined_bits is_or (nonzero (v p)) (nonzero (w p)) 1) ∙ few (either_or_both is_or (nonzero (v p)) (nonzero (w p)));
      small = λ p below active. from_bool_below (either_or_both is_or (nonzero (v p)) (nonzero (w p)));
    };
    behind = record {
      run = refl;
      named = names_first g (clear set offset bits) dest [] (length e.code) (stands_here g (clear set offset bits) e (earlier g (cleared_behind set offset bits e) (joined_behind is_or set offset bits a b e) 1 (and_one g (join is_or set offset bits a b) (cleared_behind set offset bits e)) within) refl) refl;
      more = (2, joined_more g is_or set offset bits a b e);
      place = s.at + 1 + 1;
      later = omega arith;
      go = subst (λ (m : BitMemory). Reaches g s (record s { at = s.at + 1 + 1; memory = m })) (two_writes (place g dest) on (λ q. is_active (shapes g) s1.memory set q) number s.memory some still_active)
          (onto g s s1 (wrote g joins s1) (one_writes g s s1 (begins_here g (clear set offset bits) e s (earlier g (cleared_behind set offset bits e) (joined_behind is_or set offset bits a b e) 1 (and_one g (join is_or set offset bits a b) (cleared_behind set offset bits e)) within) refl here ∙ clear_goes) (λ f q there. field_apart clears s.memory f q (apart f there)))
          (one_writes g s1 (wrote g joins s1) (begins_here g (join is_or set offset bits a b) (cleared_behind set offset bits e) s1 within refl at_join ∙ join_goes) (λ f q there. field_apart joins s1.memory f q (lowest_apart f (apart f there)))));
      at = at_next g (join is_or set offset bits a b) (cleared_behind set offset bits e) s1 (s1.at + 1) at_join refl;
    };
  }
    where
      both : Write
      both = written_to (place g dest) on (λ q. number q % 2)

      lowest_apart : (f : Field) → Apart (place g dest) f → Apart (place g (lowest_bit dest)) f
      lowest_apart f (inl differ) = inl differ
      lowest_apart f (inr (inl low)) = inr (inl (omega (arith, low)))
      lowest_apart f (inr (inr high)) = inr (inr high)

      still_active : (q : ℕ) → is_active (shapes g) s1.memory set q ≡ on q
      still_active q = active_apart (shapes g) clears s.memory set q ends.1

      at_join : At g s1 (length (cleared_behind set offset bits e).code)
      at_join = at_next g (clear set offset bits) e s (s.at + 1) here refl

      few : (x : Bool) → from_bool (nonzero (from_bool x)) % 2 ^ bits ≡ from_bool x % 2 ^ bits
      few true = refl
      few false = refl

-- Behind code that gives two such bits, a field is cleared, and they are joined in it.
module _ (g : Setting) (places : PlacesFields g) (fields : HoldsTheFields g) (alive : Variable → Type 0) (set offset bits : ℕ) (some : 0 < bits) (is_or : Bool) (a b : Field) (d e1 e2 : Draft) (s : CodeState) (st : State) (v w : ℕ → ℕ) (one : GivesTruth g alive places fields d s set st v a e1) (two : GivesTruth g alive places fields e1 one.passes.t set st w b e2) where
  abbrev behind : Draft
  behind = joined_behind is_or set offset bits a b e2

  abbrev cleared_one : Draft
  cleared_one = cleared_behind set offset bits e2

  abbrev joins_to : ℕ → ℕ
  joins_to = λ q. from_bool (either_or_both is_or (nonzero (v q)) (nonzero (w q)))

  pub long : length cleared_one.code ≡ length e2.code + 1
  long = code_more g (clear set offset bits) e2

  abbrev between : CodeState
  between = s1 g set offset bits some is_or a b e2 two.passes.t

  -- own entries that are taken behind them stay where it is cleared, if they are named then
  abbrev OthersStay : Type 0
  OthersStay = (h : Field) (first q : ℕ) → length d.fields ≤ h.offset → IsOwnField g h → IsNamedAt g.unit h.offset first → first < length e2.code → IsNamedAt g.unit h.offset (length cleared_one.code) → number_in g h between q ≡ number_in g h two.passes.t q

  pub cleared_still : (h : Field) (q : ℕ) → Apart (place g (field_at set offset bits)) (place g h) → number_in g h between q ≡ number_in g h two.passes.t q
  cleared_still h q apart = field_apart (clears g set offset bits some is_or a b e2 two.passes.t) two.passes.t.memory (place g h) q apart

  -- it takes 0 then
  abbrev pub clears_it : Takes g set (field_at set offset bits) two.passes.t (λ q. 0)
  clears_it = record { write = clears g set offset bits some is_or a b e2 two.passes.t; run = refl; writes = λ p. refl; value = λ p below active. refl; small = λ p below active. omega arith }

  module _ (within : Within g behind) where
    clears_there : StandsAt g.unit (length e2.code) (clear set offset bits)
    unfolding step_of
    clears_there = stands_here g (clear set offset bits) e2 (earlier g cleared_one behind 1 (and_one g (join is_or set offset bits a b) cleared_one) within) refl

    pub named_dest : IsNamedAt g.unit offset (length e2.code)
    named_dest = names_first g (clear set offset bits) (field_at set offset bits) [] (length e2.code) clears_there refl

    pub dest_ends : (set < length (shapes g)) × ((place g (field_at set offset bits)).offset + bits ≤ bits_at (shapes g) set)
    unfolding step_of
    dest_ends = places.ends (length e2.code) (clear set offset bits) (field_at set offset bits) [] clears_there refl tt refl

    there : StandsAt g.unit (length cleared_one.code) (join is_or set offset bits a b)
    unfolding step_of
    there = stands_here g (join is_or set offset bits a b) cleared_one within refl

    pub named_again : IsNamedAt g.unit offset (length cleared_one.code)
    named_again = names_first g (join is_or set offset bits a b) _ (a ∷ b ∷ []) (length cleared_one.code) there refl

    named_a : IsNamedAt g.unit a.offset (length cleared_one.code)
    named_a = names_second g (join is_or set offset bits a b) _ a (b ∷ []) (length cleared_one.code) there refl

    behind_b : Behind g b e2
    behind_b = (length cleared_one.code, (names_third g (join is_or set offset bits a b) _ a b [] (length cleared_one.code) there refl, (let more = long in omega (arith, more))))

    early : Behind g a e1
    early = (length cleared_one.code, (named_a, (let longer = code_longer e1 e2 two.passes.grown.0 two.passes.grown.1 in let more = long in omega (arith, longer, more))))

    pub both_pass : PassesTests g alive d e2 s st (Unit {0})
    both_pass = tests_on g alive d e1 e2 s st (Behind g a e1) (Behind g b e2) (Unit {0}) one.passes two.passes (λ u. early) (λ u. behind_b)

    -- Where the variables of one bit are then as they were, both bits are, and it takes what they give.
    pub both_joined : (u : State) → SameBits g alive places fields u st → Sim g alive u between → OthersStay → ((f : Field) → StandsBelow g.image g.placed g.number f → Apart (place g (field_at set offset bits)) f) → TakesBehind g set (field_at set offset bits) e2 behind both_pass.t joins_to
    unfolding both_pass tests_on behind_b
    both_joined u same sim_between others below_it =
        joined_takes g set offset bits some is_or a b e2 two.passes.t v w dest_ends below_it still_a still_b within two.passes.at.stands (λ q below on. still q below ∙ one.are early q below (active q below ∙ on)) (λ q below on. two.are behind_b q below (active q below ∙ on))
      where
        more : length cleared_one.code ≡ length e2.code + 1
        more = long

        at_between : between.at ≤ start g + length cleared_one.code
        at_between = let there = two.passes.at.stands in omega (arith, there, more)

        still : (q : ℕ) → q < processors (shapes g) set → number_in g a two.passes.t q ≡ number_in g a one.passes.t q
        still q below = truth_still g alive places fields d e1 e2 s set st v a (Behind g b e2) (length cleared_one.code) one two.passes behind_b named_a (omega (arith, more)) q below

        still_a : (q : ℕ) → q < processors (shapes g) set → number_in g a between q ≡ number_in g a two.passes.t q
        still_a q below =
            let longer = code_longer e1 e2 two.passes.grown.0 two.passes.grown.1 in
            one.lasts u between (length cleared_one.code) same sim_between
            (λ h first p new inside own ends before early_on after. others h first p new own before (omega (arith, early_on, longer)) after ∙ two.passes.stays behind_b h first (length cleared_one.code) p inside own ends before early_on after (omega (arith, more))) named_a (omega (arith, longer, more)) at_between q below
            ∙ sym (still q below)

        still_b : (q : ℕ) → q < processors (shapes g) set → number_in g b between q ≡ number_in g b two.passes.t q
        still_b q below =
            two.lasts u between (length cleared_one.code) same sim_between
            (λ h first p new inside own ends before early_on after. others h first p (let longer = fields_longer d e1 one.passes.grown.0 one.passes.grown.1 in omega (arith, new, longer)) own before early_on after) behind_b.1.0 (omega (arith, more)) at_between q below

        active : (q : ℕ) → q < processors (shapes g) set → fields.active set q ≡ is_active (shapes g) two.passes.t.memory set q
        active q below = sym (flags_of g alive places fields st two.passes.t set q two.passes.sim two.exists below)

-- the entry of a variable
module _ (g : Setting) (places : PlacesFields g) (fields : HoldsTheFields g) (alive : Variable → Type 0) (set offset bits : ℕ) (several : 1 < bits) (x : Variable) (living : alive x) (info : VarInfo) (carries : Carries g alive x info set (field_at set offset bits)) (is_or : Bool) (a b : Field) (d e1 e2 : Draft) (s : CodeState) (st : State) (v w : ℕ → ℕ)
    (here : Starts g alive s (length d.code) d.regs (length d.fields)) (one : GivesTruth g alive places fields d s set st v a e1) (two : GivesTruth g alive places fields e1 one.passes.t set st w b e2) (within : Within g (joined_behind is_or set offset bits a b e2)) where
  abbrev some : 0 < bits
  some = omega (arith, several)

  abbrev passes : PassesTests g alive d e2 s st (Unit {0})
  passes = both_pass g places fields alive set offset bits some is_or a b d e1 e2 s st v w one two within

  pub variable_joined : (p : PassesTests g alive d e2 s st (Unit {0})) × TakesBehind g set (field_at set offset bits) e2 (joined_behind is_or set offset bits a b e2) p.t (λ q. from_bool (either_or_both is_or (nonzero (v q)) (nonzero (w q))))
  variable_joined = (
    passes,
    both_joined g places fields alive set offset bits some is_or a b d e1 e2 s st v w one two within (with_positions x 0 (fields.active set) (λ q. 0) st)
        (λ y of known bit q. other_kept x y 0 (fields.active set) (λ p. 0) q st (λ same zero.
        let infos : info ≡ of = some_same info of (sym (entry_named g x info (field_at set offset bits) carries.entry) ∙ ap (λ (z : Variable). variable_named g.typed g.instance z) same ∙ known) in
        let equal : info.elem.bits ≡ of.elem.bits = ap (λ (i : VarInfo). i.elem.bits) infos in
        let len = carries.len in omega (arith, several, len, equal, bit)))
        (variable_sim g places fields alive x info set (field_at set offset bits) carries living two.passes.t st two.passes.sim clears.write refl (length e2.code) (two.passes.t.at + 1) two.passes.at.stands (omega arith) named (fields.active set) (λ q. 0)
        (takes_has g places fields alive x info set (field_at set offset bits) carries living two.passes.t st two.passes.sim (λ q. 0) (λ q. 0) clears (length e2.code) (two.passes.t.at + 1) two.passes.at.stands (omega arith) named (λ p below few. sym (mod-eq_of_lt (pow_pos info.elem.bits)))) (λ q. pow_pos info.elem.bits) two.passes.at.opened.1)
        (λ h first q new own before early after. cleared_still g places fields alive set offset bits some is_or a b d e1 e2 s st v w one two h q
        (entry_apart g places fields alive x info set (field_at set offset bits) carries living h first (length e2.code) (length (cleared_behind set offset bits e2).code) (no_home g alive (length d.fields) h.offset new here) own before early after
        (let more = long g places fields alive set offset bits some is_or a b d e1 e2 s st v w one two in omega (arith, more)) named))
        (entry_and_below g places fields alive x info set (field_at set offset bits) carries),
  )
    where
      named : IsNamedAt g.unit offset (length e2.code)
      named = named_dest g places fields alive set offset bits some is_or a b d e1 e2 s st v w one two within

      clears : Takes g set (field_at set offset bits) two.passes.t (λ q. 0)
      clears = clears_it g places fields alive set offset bits some is_or a b d e1 e2 s st v w one two

-- an own entry that was taken before them
module _ (g : Setting) (places : PlacesFields g) (fields : HoldsTheFields g) (alive : Variable → Type 0) (set bits : ℕ) (some : 0 < bits) (is_or : Bool) (a b : Field) (d e1 e2 : Draft) (s : CodeState) (st : State) (v w : ℕ → ℕ) where
  abbrev own_behind : Draft
  own_behind = joined_behind is_or set (length d.fields) bits a b e2

  abbrev taken_first : Draft
  taken_first = with_entry set bits W.Own d

  unfoldable pub own_joined : IsNoHome g (OpenAmong g alive) (length d.fields) → (one : GivesTruth g alive places fields taken_first s set st v a e1) → GivesTruth g alive places fields e1 one.passes.t set st w b e2 → Within g own_behind
      → GivesField g alive bits (length d.fields) d s set st (λ q. from_bool (either_or_both is_or (nonzero (v q)) (nonzero (w q)))) (next_field set bits d) own_behind
  own_joined none one two within = record {
    passes = record {
      grown = (0 + (passes.grown.0 + 2), extended d taken_first own_behind 0 (passes.grown.0 + 2) (and_entry set bits W.Own d) whole);
      t = final;
      go = onto g s passes.t final passes.go takes.behind.go;
      at = starts_later g alive passes.t final (length e2.code) e2.regs (length e2.fields) (length own_behind.code) own_behind.regs (length own_behind.fields) (omega (arith, more, last_more)) (joined_more g is_or set (length d.fields) bits a b e2).regs (fields_longer e2 own_behind 2 (joined_more g is_or set (length d.fields) bits a b e2)) takes.behind.at passes.at;
      registers = keeps_less g d taken_first s passes.t (and_entry set bits W.Own d).regs passes.registers;
      sim = own_sim g places fields alive set dest passes.t st joins_to passes.sim refl ends.0 ends.1 takes.takes (length e2.code) takes.behind.place passes.at.stands (let there = takes.behind.at in let here = passes.at.stands in omega (arith, there, here, more, last_more)) own none named;
      stays = λ again h first last q below is_own ends_below before low after high.
          elsewhere g places fields alive set dest passes.t st joins_to passes.sim refl ends.0 ends.1 takes.takes (place g h) q
          (apart_back (place g h) (place g dest) (places.owns_apart h dest first (length e2.code) last again.0 (λ same. omega (arith, same, below)) is_own own ends.0 before after (omega (arith, low, longer)) (omega (arith, high, more, last_more)) named again.1.0 (let after_it = again.1.1 in omega (arith, after_it, more, last_more))))
          ∙ passes.stays tt h first last q (omega (arith, below, first_longer)) is_own ends_below before (omega (arith, low, first_long)) after (omega (arith, high, more, last_more));
    };
    stands = inl (record {
      long = bits;
      own = own;
      fits = omega arith;
      ends = ends.1;
      newer = omega arith;
      older = (let longer = fields_longer taken_first own_behind (passes.grown.0 + 2) whole in omega (arith, first_longer, longer));
      somewhere = length e2.code;
      named = named;
      before = omega (arith, more, last_more);
      has = own_has g places fields alive set dest passes.t st joins_to passes.sim refl ends.0 ends.1 takes.takes takes.behind.place;
    });
  }
    where
      dest : Field
      dest = next_field set bits d

      joins_to : ℕ → ℕ
      joins_to = λ q. from_bool (either_or_both is_or (nonzero (v q)) (nonzero (w q)))

      passes : PassesTests g alive taken_first e2 s st (Unit {0})
      passes = both_pass g places fields alive set (length d.fields) bits some is_or a b taken_first e1 e2 s st v w one two within

      more : length (cleared_behind set (length d.fields) bits e2).code ≡ length e2.code + 1
      more = long g places fields alive set (length d.fields) bits some is_or a b taken_first e1 e2 s st v w one two

      last_more : length own_behind.code ≡ length (cleared_behind set (length d.fields) bits e2).code + 1
      last_more = code_more g (join is_or set (length d.fields) bits a b) (cleared_behind set (length d.fields) bits e2)

      first_longer : length taken_first.fields ≡ length d.fields + 1
      first_longer = one_more set bits W.Own d

      first_long : length d.code ≤ length taken_first.code
      first_long = code_longer d taken_first 0 (and_entry set bits W.Own d)

      longer : length d.code ≤ length e2.code
      longer = let after = code_longer taken_first e2 passes.grown.0 passes.grown.1 in omega (arith, first_long, after)

      whole : Extended taken_first (passes.grown.0 + 2) own_behind
      whole = extended taken_first e2 own_behind passes.grown.0 2 passes.grown.1 (joined_more g is_or set (length d.fields) bits a b e2)

      own : IsOwnField g dest
      own = taken g set bits W.Own d own_behind (passes.grown.0 + 2) within whole

      ends : (set < length (shapes g)) × ((place g dest).offset + bits ≤ bits_at (shapes g) set)
      ends = dest_ends g places fields alive set (length d.fields) bits some is_or a b taken_first e1 e2 s st v w one two within

      named : IsNamedAt g.unit dest.offset (length e2.code)
      named = named_dest g places fields alive set (length d.fields) bits some is_or a b taken_first e1 e2 s st v w one two within

      again : IsNamedAt g.unit dest.offset (length (cleared_behind set (length d.fields) bits e2).code)
      again = named_again g places fields alive set (length d.fields) bits some is_or a b taken_first e1 e2 s st v w one two within

      takes : TakesBehind g set dest e2 own_behind passes.t joins_to
      takes =
          both_joined g places fields alive set (length d.fields) bits some is_or a b taken_first e1 e2 s st v w one two within st (λ x info known bit q. refl)
          (own_sim g places fields alive set dest two.passes.t st (λ q. 0) two.passes.sim refl ends.0 ends.1 (clears_it g places fields alive set (length d.fields) bits some is_or a b taken_first e1 e2 s st v w one two) (length e2.code) (two.passes.t.at + 1) two.passes.at.stands (omega arith) own none named)
          (λ h first q new is_own before early after.
          cleared_still g places fields alive set (length d.fields) bits some is_or a b taken_first e1 e2 s st v w one two h q
          (apart_back (place g h) (place g dest) (places.owns_apart h dest first (length e2.code) (length (cleared_behind set (length d.fields) bits e2).code) (length (cleared_behind set (length d.fields) bits e2).code) (λ same. omega (arith, same, new, first_longer)) is_own own ends.0 before after (omega (arith, early)) (omega (arith, more)) named again (omega (arith, more)))))
          (λ f there. places.own_and_below dest f own there)

      final : CodeState
      final = record passes.t { at = takes.behind.place; memory = written takes.takes.write passes.t.memory }
