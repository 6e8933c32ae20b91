-- A write that has been done at the positions before one, step by step.
use Rattle.std.proofs.Common.{◌≡◌, ◌≢◌, ℕ, ◌+◌, ◌-◌, ◌%◌, ◌^◌, ◌<◌, ◌≤◌, Bool, true, false, ◌&&◌, cond, eqb, leb, ltb, List, length, sym, ◌∙◌, ap, inl, inr, refl, arith}
use Rattle.std.specs.Int.{bit_at}
use Rattle.std.proofs.lemmas.Bool.{cases_lt, cases_eq, cases_Bool, lt-ltb, le-ltb, eq-eqb, ne_eqb, and_parts, ltb-true, leb-true}
use Rattle.paris_code.specs.Fetching.{at_one}
use Rattle.paris_code.specs.Memory.{BitMemory, SameBits, processors}
use Rattle.paris_code.specs.Shapes.{SetShape}
use Rattle.paris_code.specs.Writes.{Write, covers, written}
use Rattle.cstar_base.proofs.BitCuts.{bit_at-cut}
use Rattle.phase_meaning.proofs.Locality.{AgreeAt}

-- the part of a write at the positions below k
abbrev pub part : ℕ → Write → Write
part k w = record { run = w.run; writes = λ p. ltb p k && w.writes p; value = λ p. w.value p }

abbrev pub PartlyWritten : List SetShape → Write → BitMemory → ℕ → BitMemory → Type 0
PartlyWritten shapes w old k m = SameBits shapes m (written (part k w) old)

and_false : (t : Bool) → (t && false) ≡ false
and_false true = refl
and_false false = refl

-- a bit of the set's processors that is not written stays
unchosen : (c t : Bool) (x y : ℕ) → t ≡ false → y ≡ cond (c && t) x y
unchosen c t x y e = sym (ap (λ b. cond (c && b) x y) e ∙ ap (λ b. cond b x y) (and_false c))

pub part_none : (shapes : List SetShape) (w : Write) (old : BitMemory) → PartlyWritten shapes w old 0 old
unfolding written
part_none shapes w old = record {
  bits = λ s p i a b c. unchosen (covers w.run s i) (ltb p 0 && w.writes p) _ _ (ap (λ t. t && w.writes p) (le-ltb p 0 (omega arith)));
  winner = refl;
}

-- the position itself is as it was
pub part_at : (shapes : List SetShape) (w : Write) (old m : BitMemory) (k : ℕ) → PartlyWritten shapes w old k m → w.run.set < length shapes → k < processors shapes w.run.set → AgreeAt shapes w.run.set k m old
unfolding written
part_at shapes w old m k partly exists within i b =
    partly.bits w.run.set k i exists within b ∙ sym (unchosen (covers w.run w.run.set i) (ltb k k && w.writes k) _ _ (ap (λ t. t && w.writes k) (le-ltb k k (omega arith))))

-- a position where nothing is written
further : (p k : ℕ) → p ≢ k → ltb p k ≡ ltb p (k + 1)
further p k n = elim (cases_lt p k) [
  | inl l ↦ lt-ltb p k l ∙ sym (lt-ltb p (k + 1) (omega arith))
  | inr g ↦ le-ltb p k g ∙ sym (le-ltb p (k + 1) (omega arith))
]

pub part_skip : (shapes : List SetShape) (w : Write) (old m : BitMemory) (k : ℕ) → w.writes k ≡ false → PartlyWritten shapes w old k m → PartlyWritten shapes w old (k + 1) m
unfolding written
part_skip shapes w old m k off partly = record {
  bits = λ s p i a b c. partly.bits s p i a b c
      ∙ ap (λ t. cond (covers w.run s i && t) (bit_at (w.value p) (i - w.run.offset)) (old.bit s p i)) (elim (cases_eq p k) [
        | inr n ↦ ap (λ t. t && w.writes p) (further p k n)
        | inl e ↦ let out : w.writes p ≡ false = ap w.writes e ∙ off in ap (λ t. ltb p k && t) out ∙ and_false (ltb p k) ∙ sym (ap (λ t. ltb p (k + 1) && t) out ∙ and_false (ltb p (k + 1)))
      ]);
  winner = partly.winner;
}

-- the number of a run is written at a position, modulo 2 to the length
low_bit : (w : Write) (s i k word : ℕ) → covers w.run s i ≡ true → word % 2 ^ w.run.len ≡ w.value k % 2 ^ w.run.len → bit_at word (i - w.run.offset) ≡ bit_at (w.value k) (i - w.run.offset)
unfolding covers
low_bit w s i k word c e =
    let both = and_parts (eqb s w.run.set) (leb w.run.offset i && ltb i (w.run.offset + w.run.len)) c in
    let within = and_parts (leb w.run.offset i) (ltb i (w.run.offset + w.run.len)) both.1 in
    let low = leb-true w.run.offset i within.0 in
    let high = ltb-true i (w.run.offset + w.run.len) within.1 in
    let j : ℕ = i - w.run.offset in
    sym (bit_at-cut word w.run.len j (omega arith)) ∙ ap (λ x. bit_at x j) e ∙ bit_at-cut (w.value k) w.run.len j (omega arith)

pub part_more : (shapes : List SetShape) (w : Write) (old m new : BitMemory) (k word : ℕ) → w.writes k ≡ true → word % 2 ^ w.run.len ≡ w.value k % 2 ^ w.run.len
    → PartlyWritten shapes w old k m → SameBits shapes new (written (at_one w.run k word) m) → PartlyWritten shapes w old (k + 1) new
unfolding written
part_more shapes w old m new k word at is partly step = record {
  bits = λ s p i a b c.
      let value : ℕ = bit_at (w.value p) (i - w.run.offset) in
      let was : ℕ = old.bit s p i in
      step.bits s p i a b c
      ∙ ap (λ x. cond (covers w.run s i && eqb p k) (bit_at word (i - w.run.offset)) x) (partly.bits s p i a b c)
      ∙ elim (cases_Bool (covers w.run s i)) [
        | inr off ↦
            ap (λ t. cond (t && eqb p k) (bit_at word (i - w.run.offset)) (cond (t && (ltb p k && w.writes p)) value was)) off
            ∙ sym (ap (λ t. cond (t && (ltb p (k + 1) && w.writes p)) value was) off)
        | inl on ↦
            ap (λ t. cond (t && eqb p k) (bit_at word (i - w.run.offset)) (cond (t && (ltb p k && w.writes p)) value was)) on
            ∙ elim (cases_eq p k) [
              | inr n ↦ ap (λ t. cond t (bit_at word (i - w.run.offset)) (cond (ltb p k && w.writes p) value was)) (ne_eqb p k n) ∙ ap (λ t. cond (t && w.writes p) value was) (further p k n)
              | inl e ↦ ap (λ t. cond t (bit_at word (i - w.run.offset)) (cond (ltb p k && w.writes p) value was)) (eq-eqb p k e)
                  ∙ low_bit w s i k word on is ∙ ap (λ q. bit_at (w.value q) (i - w.run.offset)) (sym e)
                  ∙ sym (ap (λ t. cond (t && w.writes p) value was) (lt-ltb p (k + 1) (omega arith)) ∙ ap (λ t. cond t value was) (ap w.writes e ∙ at))
            ]
            ∙ sym (ap (λ t. cond (t && (ltb p (k + 1) && w.writes p)) value was) on)
      ];
  winner = step.winner ∙ partly.winner;
}

-- at all positions of the set
pub part_all : (shapes : List SetShape) (w : Write) (old m : BitMemory) (k : ℕ) → processors shapes w.run.set ≤ k → PartlyWritten shapes w old k m → SameBits shapes m (written w old)
unfolding written covers
part_all shapes w old m k all partly = record {
  bits = λ s p i a b c. partly.bits s p i a b c ∙ elim (cases_eq s w.run.set) [
    | inr n ↦
        ap (λ t. cond ((t && (leb w.run.offset i && ltb i (w.run.offset + w.run.len))) && (ltb p k && w.writes p)) (bit_at (w.value p) (i - w.run.offset)) (old.bit s p i)) (ne_eqb s w.run.set n)
        ∙ sym (ap (λ t. cond ((t && (leb w.run.offset i && ltb i (w.run.offset + w.run.len))) && w.writes p) (bit_at (w.value p) (i - w.run.offset)) (old.bit s p i)) (ne_eqb s w.run.set n))
    | inl e ↦
        let below : p < k = omega (arith, ap (processors shapes) e) in
        ap (λ t. cond ((eqb s w.run.set && (leb w.run.offset i && ltb i (w.run.offset + w.run.len))) && (t && w.writes p)) (bit_at (w.value p) (i - w.run.offset)) (old.bit s p i)) (lt-ltb p k below)
  ];
  winner = partly.winner;
}

-- nothing is written
pub none_written : (shapes : List SetShape) (w : Write) (m : BitMemory) → ((p : ℕ) → p < processors shapes w.run.set → w.writes p ≡ false) → SameBits shapes m (written w m)
unfolding written covers
none_written shapes w m off = record {
  bits = λ s p i a b c. elim (cases_eq s w.run.set) [
    | inr n ↦ sym (ap (λ t. cond ((t && (leb w.run.offset i && ltb i (w.run.offset + w.run.len))) && w.writes p) (bit_at (w.value p) (i - w.run.offset)) (m.bit s p i)) (ne_eqb s w.run.set n))
    | inl e ↦ unchosen (eqb s w.run.set && (leb w.run.offset i && ltb i (w.run.offset + w.run.len))) (w.writes p) _ _ (off p (omega (arith, ap (processors shapes) e)))
  ];
  winner = refl;
}
