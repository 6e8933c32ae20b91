-- The bits of a memory, as bytes, and back.
use Rattle.std.proofs.Common.{◌≡◌, ◌∙◌, ◌<◌, ◌≤◌, ◌+◌, ◌-◌, ◌*◌, ◌/◌, ◌%◌, ℕ, zero, suc, List, [], ◌∷◌, ◌++◌, Bool, cond, eqb, true, false, length, get_or, map, inl, inr, refl, sym, ap, arith, lit<, append-nil, length-append}
use Rattle.std.specs.Prelude.{nat_lt}
use Rattle.std.specs.Int.{bit_at, from_bool}
use Rattle.std.specs.List.{concat, range_with_len}
use Rattle.std.proofs.Math.ListN.{get_or-append}
use Rattle.std.proofs.Math.Seq.{get_or-append_right}
use Rattle.std.proofs.lemmas.Bool.{cases_lt, lt-ltb}
use Rattle.std.proofs.lemmas.List.{length-map}
use Rattle.std.proofs.lemmas.List.Folds.{concat-append}
use Rattle.std.proofs.lemmas.List.FromFn.{get_or-map-range_with_len, length-range_with_len, map-range_with_len_more}
use Rattle.std.proofs.lemmas.Nat.{div-mul-add, mod-mul-add, mul-add-lt}
use Rattle.cstar_base.specs.declared.operators.Winner.{Winner}
use Rattle.paris_code.specs.Memory.{BitMemory, SameBits, processors}
use Rattle.paris_code.specs.Shapes.{SetShape, bits_at}
use Rattle.phase_gate.proofs.BlockWrites.{run_bit}
use Rattle.point_bits.specs.Strings.{bit_count, bits_bytes, byte_bit, restored, set_bytes, set_size, start_of, string_bit, string_byte, width_of}
use Rattle.point_bits.proofs.Sizes.{start_below, start_more, start_none}
use Rattle.point_laws.specs.Joined.{HasBits}

-- the bytes of the first sets
abbrev first_sets : List SetShape → BitMemory → ℕ → List ℕ
first_sets shapes m n = concat (map (set_bytes shapes m) (range_with_len 0 n))

joined : (f : ℕ → List ℕ) (old new : List ℕ) (n : ℕ) → old ≡ concat (map f (range_with_len 0 n)) → new ≡ old ++ f n
    → new ≡ concat (map f (range_with_len 0 (n + 1)))
joined f old new n e g =
    g ∙ (ap (λ (t : List ℕ). t ++ f n) e ∙ (ap (λ (t : List ℕ). concat (map f (range_with_len 0 n)) ++ t) (sym (append-nil (f n)))
    ∙ (sym (concat-append (map f (range_with_len 0 n)) (f n ∷ [])) ∙ ap concat (sym (map-range_with_len_more f 0 n n (omega arith))))))

one_more : (shapes : List SetShape) (m : BitMemory) (n : ℕ) → first_sets shapes m n ++ set_bytes shapes m n ≡ first_sets shapes m (n + 1)
one_more shapes m n = joined (set_bytes shapes m) (first_sets shapes m n) (first_sets shapes m n ++ set_bytes shapes m n) n refl refl

bytes_long : (shapes : List SetShape) (m : BitMemory) (set : ℕ) → length (set_bytes shapes m set) ≡ set_size shapes set
unfolding set_bytes
bytes_long shapes m set = length-map (range_with_len 0 (set_size shapes set)) (string_byte shapes m set) ∙ length-range_with_len 0 (set_size shapes set)

next : (n : ℕ) → n + 1 ≡ suc n
next n = omega arith

first_long : (shapes : List SetShape) (m : BitMemory) (n : ℕ) → length (first_sets shapes m n) ≡ start_of shapes n
first_long shapes m zero = sym (start_none shapes)
first_long shapes m (suc n) =
    ap (λ k. length (first_sets shapes m k)) (sym (next n)) ∙ ap length (sym (one_more shapes m n)) ∙ length-append (first_sets shapes m n) (set_bytes shapes m n)
    ∙ (let e : length (first_sets shapes m n) + length (set_bytes shapes m n) ≡ start_of shapes n + set_size shapes n = omega (arith, first_long shapes m n, bytes_long shapes m n) in e)
    ∙ sym (start_more shapes n) ∙ ap (start_of shapes) (next n)

-- where the bytes of a set stand
placed : (shapes : List SetShape) (m : BitMemory) (n set j : ℕ) → set < n → j < set_size shapes set → get_or (first_sets shapes m n) (start_of shapes set + j) 0 ≡ get_or (set_bytes shapes m set) j 0
placed shapes m zero set j below within = absurd (omega arith)
placed shapes m (suc n) set j below within =
    let all = ap (λ k. get_or (first_sets shapes m k) (start_of shapes set + j) 0) (sym (next n)) ∙ ap (λ (xs : List ℕ). get_or xs (start_of shapes set + j) 0) (sym (one_more shapes m n)) in
    elim (cases_lt set n) [
      | inl l ↦ let far : start_of shapes set + set_size shapes set ≤ start_of shapes n =
          omega (arith, start_more shapes set, start_below shapes (set + 1) (n - (set + 1)), ap (start_of shapes) (let e : set + 1 + (n - (set + 1)) ≡ n = omega arith in e)) in
          all ∙ get_or-append (first_sets shapes m n) (set_bytes shapes m n) 0 (start_of shapes set + j) (omega (arith, first_long shapes m n, far)) ∙ placed shapes m n set j l within
      | inr g ↦ let here : set ≡ n = omega arith in
          all ∙ get_or-append_right (first_sets shapes m n) (set_bytes shapes m n) (start_of shapes set + j) 0 (omega (arith, first_long shapes m n, ap (start_of shapes) here))
          ∙ ap (λ k. get_or (set_bytes shapes m n) k 0) (let e : start_of shapes set + j - length (first_sets shapes m n) ≡ j = omega (arith, first_long shapes m n, ap (start_of shapes) here) in e)
          ∙ ap (λ s. get_or (set_bytes shapes m s) j 0) (sym here)
    ]

-- a bit of a set is one of the bytes of all
bit_less : (shapes : List SetShape) (m : BitMemory) (set n : ℕ) → string_bit shapes m set n < 2
unfolding string_bit
bit_less shapes m set n = go (nat_lt n (bit_count shapes set)) (eqb (m.bit set (n / width_of shapes set) (n % width_of shapes set)) 1)
  where
    go : (t b : Bool) → cond t (from_bool b) 0 < 2
    go true true = lit< tt
    go true false = lit< tt
    go false b = lit< tt

bit_placed : (shapes : List SetShape) (m : BitMemory) (set n : ℕ) → set < length shapes → n < 8 * set_size shapes set → byte_bit (bits_bytes shapes m) (8 * start_of shapes set + n) ≡ string_bit shapes m set n
unfolding byte_bit bits_bytes set_bytes string_byte
bit_placed shapes m set n exists within =
    ap (λ q. bit_at (get_or (first_sets shapes m (length shapes)) q 0) ((8 * start_of shapes set + n) % 8)) (let e : (8 * start_of shapes set + n) / 8 ≡ start_of shapes set + n / 8 = omega arith in e)
    ∙ ap (λ j. bit_at (get_or (first_sets shapes m (length shapes)) (start_of shapes set + n / 8) 0) j) (let e : (8 * start_of shapes set + n) % 8 ≡ n % 8 = omega arith in e)
    ∙ ap (λ x. bit_at x (n % 8)) (placed shapes m (length shapes) set (n / 8) exists (omega arith) ∙ get_or-map-range_with_len (string_byte shapes m set) 0 (set_size shapes set) (n / 8) (n / 8) 0 (omega arith) (omega arith))
    ∙ run_bit (string_bit shapes m set) (8 * (n / 8)) 8 (n % 8) (bit_less shapes m set) (omega arith)
    ∙ ap (string_bit shapes m set) (let e : 8 * (n / 8) + n % 8 ≡ n = omega arith in e)

bit_again : (x : ℕ) → x < 2 → from_bool (eqb x 1) ≡ x
bit_again zero h = refl
bit_again (suc zero) h = refl
bit_again (suc (suc x)) h = absurd (omega arith)

bit_kept : (shapes : List SetShape) (m : BitMemory) (set p i : ℕ) → p < processors shapes set → i < bits_at shapes set + 2 → m.bit set p i < 2 → string_bit shapes m set (p * width_of shapes set + i) ≡ m.bit set p i
unfolding string_bit bit_count
bit_kept shapes m set p i position index small =
    let width = width_of shapes set in
    let below : p * width + i < processors shapes set * width = omega (arith, mul-add-lt p width i (processors shapes set) position index) in
    ap (λ t. cond t (from_bool (eqb (m.bit set ((p * width + i) / width) ((p * width + i) % width)) 1)) 0) (lt-ltb (p * width + i) (processors shapes set * width) below)
    ∙ ap (λ q. from_bool (eqb (m.bit set q ((p * width + i) % width)) 1)) (div-mul-add p width i index)
    ∙ ap (λ j. from_bool (eqb (m.bit set p j) 1)) (mod-mul-add p width i index)
    ∙ bit_again (m.bit set p i) small

string_within : (shapes : List SetShape) (set p i : ℕ) → p < processors shapes set → i < bits_at shapes set + 2 → p * width_of shapes set + i < 8 * set_size shapes set
unfolding set_size bit_count
string_within shapes set p i position index =
    let below = mul-add-lt p (width_of shapes set) i (processors shapes set) position index in
    omega (arith, below)

-- the memory whose bits are those of another is that one, where its bits are 0 or 1
pub restored_same : (shapes : List SetShape) (m : BitMemory) (w : Winner) → HasBits shapes m → w ≡ m.winner → SameBits shapes (restored shapes (bits_bytes shapes m) w) m
unfolding restored
restored_same shapes m w bits same = record {
  bits = λ set p i a b c.
      bit_placed shapes m set (p * width_of shapes set + i) a (string_within shapes set p i b c) ∙ bit_kept shapes m set p i b c (bits set p i a b c);
  winner = same;
}
