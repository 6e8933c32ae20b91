-- A write at the positions of one block.
use Rattle.std.proofs.Common.{◌≡◌, ℕ, zero, suc, mul_comm, ◌+◌, ◌-◌, ◌*◌, ◌/◌, ◌%◌, ◌^◌, ◌<◌, ◌≤◌, Bool, true, false, ◌&&◌, cond, eqb, leb, ltb, List, length, min, sym, ◌∙◌, ap, inl, inr, refl, arith}
use Rattle.std.specs.Int.{bit_at}
use Rattle.std.proofs.lemmas.Bool.{cases_lt, cases_eq, lt-ltb, le-ltb, eq-eqb, ne_eqb}
use Rattle.std.proofs.Math.Nat.{le_refl, pow-suc}
use Rattle.std.proofs.lemmas.Nat.{mul-le, pow_pos}
use Rattle.std.proofs.lemmas.Nat.Bits.{bit_at_cat_high, bit_at_cat_low, bit_at_lowest}
use Rattle.paris_code.specs.Memory.{BitMemory, SameBits, processors, run_number}
use Rattle.paris_code.specs.Shapes.{SetShape}
use Rattle.paris_code.specs.Writes.{Write, covers, written}
use Rattle.phase_gate.specs.declared.rows.Rows.{Rows}
use Rattle.phase_gate.specs.Rows.{row_bit}
use Rattle.phase_meaning.proofs.Partly.{PartlyWritten, none_written, part, part_all}

and_false : (t : Bool) → (t && false) ≡ false
and_false true = refl
and_false false = refl

none_before : (w : Write) (k p : ℕ) → (p < k → w.writes p ≡ false) → (ltb p k && w.writes p) ≡ false
none_before w k p off = elim (cases_lt p k) [
  | inl l ↦ ap (λ t. ltb p k && t) (off l) ∙ and_false (ltb p k)
  | inr g ↦ ap (λ t. t && w.writes p) (le-ltb p k g)
]

-- before the first position that is written nothing is
pub part_before : (shapes : List SetShape) (w : Write) (m : BitMemory) (k : ℕ) → ((p : ℕ) → p < k → w.writes p ≡ false) → PartlyWritten shapes w m k m
part_before shapes w m k off = none_written shapes (part k w) m (λ p _. none_before w k p (off p))

all_after : (w : Write) (k p : ℕ) → (k ≤ p → w.writes p ≡ false) → (ltb p k && w.writes p) ≡ w.writes p
all_after w k p off = elim (cases_lt p k) [
  | inl l ↦ ap (λ t. t && w.writes p) (lt-ltb p k l)
  | inr g ↦ ap (λ t. t && w.writes p) (le-ltb p k g) ∙ sym (off g)
]

-- and behind the last one all is
pub part_after : (shapes : List SetShape) (w : Write) (old m : BitMemory) (k : ℕ) → ((p : ℕ) → k ≤ p → p < processors shapes w.run.set → w.writes p ≡ false)
    → PartlyWritten shapes w old k m → SameBits shapes m (written w old)
unfolding written covers
part_after shapes w old m k off partly = record {
  bits = λ s p i a b c. partly.bits s p i a b c ∙ elim (cases_eq s w.run.set) [
    | inr n ↦
        ap (λ t. cond ((t && (leb w.run.offset i && ltb i (w.run.offset + w.run.len))) && (ltb p k && w.writes p)) (bit_at (w.value p) (i - w.run.offset)) (old.bit s p i)) (ne_eqb s w.run.set n)
        ∙ sym (ap (λ t. cond ((t && (leb w.run.offset i && ltb i (w.run.offset + w.run.len))) && w.writes p) (bit_at (w.value p) (i - w.run.offset)) (old.bit s p i)) (ne_eqb s w.run.set n))
    | inl e ↦
        let here : p < processors shapes w.run.set = omega (arith, ap (processors shapes) e) in
        ap (λ t. cond ((eqb s w.run.set && (leb w.run.offset i && ltb i (w.run.offset + w.run.len))) && t) (bit_at (w.value p) (i - w.run.offset)) (old.bit s p i)) (all_after w k p (λ g. off p g here))
  ];
  winner = partly.winner;
}

-- a bit of the number of a run
run_small : (bits : ℕ → ℕ) (offset n : ℕ) → ((i : ℕ) → bits i < 2) → run_number bits offset n < 2 ^ n
unfolding run_number
run_small bits offset zero two = pow_pos 0
run_small bits offset (suc n) two =
    let top : 2 ^ n * bits (offset + n) ≤ 2 ^ n * 1 = mul-le (2 ^ n) (bits (offset + n)) (2 ^ n) 1 (le_refl (2 ^ n)) (omega (arith, two (offset + n))) in
    let double : 2 ^ suc n ≡ 2 ^ n * 2 = pow-suc 2 n in
    omega (arith, run_small bits offset n two, top, double)

pub run_bit : (bits : ℕ → ℕ) (offset n j : ℕ) → ((i : ℕ) → bits i < 2) → j < n → bit_at (run_number bits offset n) j ≡ bits (offset + j)
unfolding run_number
run_bit bits offset zero j two h = absurd (omega arith)
run_bit bits offset (suc n) j two h =
    let low : ℕ = run_number bits offset n in
    let one : ℕ = bits (offset + n) in
    let turned : low + 2 ^ n * one ≡ one * 2 ^ n + low = omega (arith, mul_comm (2 ^ n) one) in
    ap (λ x. bit_at x j) turned ∙ elim (cases_lt j n) [
      | inl l ↦ bit_at_cat_low one n low j l ∙ run_bit bits offset n j two l
      | inr g ↦
          bit_at_cat_high one n low j (run_small bits offset n two) g
          ∙ ap (λ k. bit_at one k) (let e : j - n ≡ 0 = omega arith in e)
          ∙ bit_at_lowest one ∙ (let e : one % 2 ≡ one = omega (arith, two (offset + n)) in e)
          ∙ ap bits (let e : offset + n ≡ offset + j = omega arith in e)
    ]

pub row_small : (rows : Rows) (position i : ℕ) → row_bit rows position i < 2
unfolding row_bit
row_small rows position i = omega arith
