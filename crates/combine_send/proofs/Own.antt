-- A target that no sender names gets its own number back.
use Rattle.std.proofs.Common.{◌≡◌, ℕ, zero, suc, ◌+◌, ◌-◌, ◌%◌, ◌^◌, ◌<◌, ◌≤◌, Bool, true, false, ◌&&◌, cond, eqb, leb, ltb, List, Option, Some, None, refl, sym, ◌∙◌, ap, subst, inl, inr, arith}
use Rattle.std.specs.Prelude.{is_some}
use Rattle.std.specs.Int.{bit_at}
use Rattle.std.proofs.Math.Nat.{mod-eq_of_lt}
use Rattle.std.proofs.lemmas.Bool.{cases_eq, cases_Bool, ne_eqb, eqb-true, leb-true, ltb-true, and_parts, false≢true}
use Rattle.cstar_base.specs.declared.elem.Elem.{Elem}
use Rattle.cstar_base.specs.declared.operators.Winner.{Winner}
use Rattle.cstar_base.specs.declared.operators.Winner.TheVariants as W
use Rattle.cstar_base.specs.Kinds.{is_kind}
use Rattle.cstar_base.specs.Numbers.{residue, number_of, truth_of, converted}
use Rattle.cstar_base.specs.Orders.{fold_below, least_below, greatest_below, or_else}
use Rattle.cstar_base.proofs.ConversionLaws.{converted_to_bool}
use Rattle.cstar_base.proofs.NumberLaws.{kind_bits, number_unsigned, number_in_lower, residue_of_pos, residue_of_number, residue_below, modulus_in_word}
use Rattle.paris_code.specs.declared.operands.Field.{Field}
use Rattle.paris_code.specs.declared.operands.Reduction.{Reduction}
use Rattle.paris_code.specs.Fetching.{at_all}
use Rattle.paris_code.specs.Memory.{BitMemory, SameBits, field_number, whole_number, processors}
use Rattle.paris_code.specs.Sending.{sends_to, winner_of, winning_sender, word_kind, combined}
use Rattle.paris_code.specs.Shapes.{SetShape}
use Rattle.paris_code.specs.Writes.{Write, covers, written}
use Rattle.phase_meaning.proofs.Widths.{residue_cut}
use Rattle.combine_send.proofs.Slots.{or_home}

-- a word that has a number of a type in its low bits is converted to it
unsigned_bool : (signed : Bool) → is_kind 1 signed ≡ true → signed ≡ false
unsigned_bool true h = absurd (false≢true h)
unsigned_bool false h = refl

truth_is : (n : ℕ) → n < 2 → truth_of (number_of 32 true n) ≡ n
unfolding truth_of
truth_is zero h = ap truth_of (number_in_lower 32 0 (omega arith))
truth_is (suc zero) h = ap truth_of (number_in_lower 32 1 (omega arith))
truth_is (suc (suc n)) h = absurd (omega arith)

converted_low : (kind : Elem) (w n : ℕ) → n < 2 ^ kind.bits → w < 2 ^ 32 → w % 2 ^ kind.bits ≡ n → (kind.bits ≡ 1 → w ≡ n) → converted kind word_kind w ≡ n
unfolding converted
converted_low kind w n fits word low one = elim (cases_eq kind.bits 1) [
  | inl e ↦ converted_to_bool kind word_kind w e ∙ ap (λ x. truth_of (number_of 32 true x)) (one e) ∙ truth_is n (let b : 2 ^ kind.bits ≡ 2 = ap (λ k. 2 ^ k) e in omega (arith, b))
  | inr many ↦
      ap (λ t. cond t (truth_of (number_of 32 true w)) (residue kind.bits (number_of 32 true w))) (ne_eqb kind.bits 1 many)
      ∙ sym (residue_cut kind.bits (number_of 32 true w) (kind_bits kind.bits kind.signed kind.kind).1)
      ∙ ap (λ x. x % 2 ^ kind.bits) (residue_of_number 32 true w word) ∙ low
]

pub converted_number : (kind : Elem) (n : ℕ) → n < 2 ^ kind.bits → converted kind word_kind n ≡ n
converted_number kind n h = converted_low kind n n h (omega (arith, modulus_in_word kind.bits kind.signed kind.kind)) (mod-eq_of_lt h) (λ e. refl)

-- so is the word of a number of the type itself
pub converted_back : (kind : Elem) (n : ℕ) → n < 2 ^ kind.bits → converted kind word_kind (residue 32 (number_of kind.bits kind.signed n)) ≡ n
converted_back kind n h =
    let z = number_of kind.bits kind.signed n in
    converted_low kind (residue 32 z) n h (residue_below 32 z) (residue_cut kind.bits z (kind_bits kind.bits kind.signed kind.kind).1 ∙ residue_of_number kind.bits kind.signed n h) (λ e.
    let plain : kind.signed ≡ false = unsigned_bool kind.signed (subst (λ b. is_kind b kind.signed ≡ true) e kind.kind) in
    ap (λ s. residue 32 (number_of kind.bits s n)) plain ∙ ap (residue 32) (number_unsigned kind.bits n) ∙ residue_of_pos 32 n ∙ mod-eq_of_lt (omega (arith, h, modulus_in_word kind.bits kind.signed kind.kind)))

-- where no one of so many sends there is no sender
module _ (w : Winner) (sends : ℕ → Bool) where
  quiet : (n : ℕ) → is_some (winner_of w sends (suc n)) ≡ false → (sends n ≡ false) × (is_some (winner_of w sends n) ≡ false)
  unfolding greatest_below least_below
  quiet n none = by w none
    where
      high : (t : Bool) (o : Option ℕ) → is_some (cond t (Some n) o) ≡ false → (t ≡ false) × (is_some o ≡ false)
      high true o e = absurd (false≢true (sym e))
      high false o e = (refl, e)

      low : (t : Bool) (o : Option ℕ) → is_some (or_else o (cond t (Some n) None)) ≡ false → (t ≡ false) × (is_some o ≡ false)
      low t (Some k) e = absurd (false≢true (sym e))
      low true None e = absurd (false≢true (sym e))
      low false None e = (refl, refl)

      by : (v : Winner) → is_some (winner_of v sends (suc n)) ≡ false → (sends n ≡ false) × (is_some (winner_of v sends n) ≡ false)
      by W.High e = high (sends n) (greatest_below sends n) e
      by W.Low e = low (sends n) (least_below sends n) e

  unsent : (step : ℕ → ℕ → ℕ) (value : ℕ → ℕ) (start n : ℕ) → is_some (winner_of w sends n) ≡ false → fold_below step sends value start n ≡ start
  unfolding fold_below
  unsent step value start zero none = refl
  unsent step value start (suc n) none =
      let before = quiet n none in
      ap (λ t. cond t (step (fold_below step sends value start n) (value n)) (fold_below step sends value start n)) before.0 ∙ unsent step value start n before.1

pub combined_home : (shapes : List SetShape) (m : BitMemory) (c : Reduction) (d : Field) (signed : Bool) (address source : Field) (t : ℕ) → is_some (winning_sender shapes m address t) ≡ false
    → combined shapes m c d signed address source t ≡ residue 32 (whole_number m signed d t)
unfolding combined winning_sender
combined_home shapes m c d signed address source t none = unsent m.winner (λ s. sends_to shapes m address t s) _ _ _ (processors shapes address.set) none

pub stays_home : (home : ℕ) (m : BitMemory) (source : Field) (o : Option ℕ) → is_some o ≡ false → or_home home m source o ≡ home
stays_home home m source None none = refl
stays_home home m source (Some k) none = absurd (false≢true (sym none))

-- the numbers of a field have its bits
pub record HasNumbers (m : BitMemory) (f : Field) : Type 0 where
  pub below : (p : ℕ) → field_number m f p < 2 ^ f.len
  pub bits : (p j : ℕ) → j < f.len → bit_at (field_number m f p) j ≡ m.bit f.set p (f.offset + j)

-- a run of bits covers those of its set from its offset on
covered : (f : Field) (s i : ℕ) → covers f s i ≡ true → (s ≡ f.set) × (f.offset ≤ i) × (i < f.offset + f.len)
unfolding covers
covered f s i on =
    let both = and_parts (eqb s f.set) (leb f.offset i && ltb i (f.offset + f.len)) on in
    let ends = and_parts (leb f.offset i) (ltb i (f.offset + f.len)) both.1 in
    (eqb-true s f.set both.0, leb-true f.offset i ends.0, ltb-true i (f.offset + f.len) ends.1)

-- so a write at all positions that leaves the others their own numbers is a write at some
pub own_written : (shapes : List SetShape) (w : Write) (m : BitMemory) (value : ℕ → ℕ) → HasNumbers m w.run
    → ((p : ℕ) → p < processors shapes w.run.set → w.writes p ≡ true → value p ≡ w.value p)
    → ((p : ℕ) → p < processors shapes w.run.set → w.writes p ≡ false → value p ≡ field_number m w.run p)
    → SameBits shapes (written (at_all w.run value) m) (written w m)
unfolding written
own_written shapes w m value numbers gives leaves = record {
  bits = λ s p i exists within bound.
      let new : ℕ = bit_at (value p) (i - w.run.offset) in
      let other : ℕ = bit_at (w.value p) (i - w.run.offset) in
      elim (cases_Bool (covers w.run s i)) [
        | inr off ↦ ap (λ t. cond (t && true) new (m.bit s p i)) off ∙ sym (ap (λ t. cond (t && w.writes p) other (m.bit s p i)) off)
        | inl on ↦
            let at = covered w.run s i on in
            let here : p < processors shapes w.run.set = subst (λ (k : ℕ). p < processors shapes k) at.0 within in
            ap (λ t. cond (t && true) new (m.bit s p i)) on
            ∙ elim (cases_Bool (w.writes p)) [
              | inl takes ↦ ap (λ n. bit_at n (i - w.run.offset)) (gives p here takes) ∙ sym (ap (λ t. cond t other (m.bit s p i)) takes)
              | inr stays ↦
                  ap (λ n. bit_at n (i - w.run.offset)) (leaves p here stays)
                  ∙ numbers.bits p (i - w.run.offset) (omega (arith, at.1, at.2))
                  ∙ ap (m.bit w.run.set p) (let e : w.run.offset + (i - w.run.offset) ≡ i = omega (arith, at.1) in e) ∙ ap (λ k. m.bit k p i) (sym at.0)
                  ∙ sym (ap (λ t. cond t other (m.bit s p i)) stays)
            ]
            ∙ sym (ap (λ t. cond (t && w.writes p) other (m.bit s p i)) on)
      ];
  winner = refl;
}
