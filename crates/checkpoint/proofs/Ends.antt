-- Bytes begin with an item as it is written, or they end within one: each beginning of bytes goes on to an item.
use Rattle.std.proofs.Common.{◌≡◌, Bool, ◌++◌, ◌-◌, ◌^◌, ◌<◌, ℕ, zero, suc, List, [], ◌∷◌, length, take, drop, get_or, refl, sym, ◌∙◌, ap, inl, inr, append_assoc, lit<, arith}
use Rattle.std.proofs.Math.ListN.{replicate}
use Rattle.std.proofs.lemmas.Bool.{cases_lt}
use Rattle.std.proofs.lemmas.List.{length-append, length-replicate, length-take-le, take-append-drop}
use Rattle.std.specs.List.{flat_map}
use Rattle.checkpoint.specs.Bytes.{IsCounted, body_of, counted, eight_bytes, four_bytes, measured}
use Rattle.checkpoint.specs.declared.point.Point.{Point}
use Rattle.cstar_base.specs.declared.operators.Winner.{Winner}
use Rattle.checkpoint.proofs.Numbers.{AreBytes, Writes, eight_made, four_made}

-- what the bytes begin with, and what is left; or what makes them an item
pub data Comes (A : Type 0) (write : A → List ℕ) (Can : A → Type 0) (s : List ℕ) : Type 0 where
  whole : (x : A) → Can x → (rest : List ℕ) → AreBytes rest → s ≡ write x ++ rest → Comes A write Can s
  part : (x : A) → Can x → (more : List ℕ) → s ++ more ≡ write x → Comes A write Can s

pub drop_bytes : (k : ℕ) (s : List ℕ) → AreBytes s → AreBytes (drop k s)
drop_bytes zero s bytes = bytes
drop_bytes (suc k) [] bytes = bytes
drop_bytes (suc k) (x ∷ s) bytes = drop_bytes k s (λ i. bytes (suc i))

take_bytes : (k : ℕ) (s : List ℕ) → AreBytes s → (i : ℕ) → get_or (take k s) i 0 < 256
take_bytes zero s bytes i = lit< tt
take_bytes (suc k) [] bytes i = bytes i
take_bytes (suc k) (x ∷ s) bytes zero = bytes 0
take_bytes (suc k) (x ∷ s) bytes (suc i) = take_bytes k s (λ j. bytes (suc j)) i

zero_bytes : (k i : ℕ) → get_or (replicate k 0) i 0 < 256
zero_bytes zero i = lit< tt
zero_bytes (suc k) zero = lit< tt
zero_bytes (suc k) (suc i) = zero_bytes k i

join_bytes : (s t : List ℕ) → AreBytes s → AreBytes t → (i : ℕ) → get_or (s ++ t) i 0 < 256
join_bytes [] t a b i = b i
join_bytes (x ∷ s) t a b zero = a 0
join_bytes (x ∷ s) t a b (suc i) = join_bytes s t (λ j. a (suc j)) b i

-- a number of so many bytes
fixed_comes : (write : ℕ → List ℕ) (k most : ℕ) → ((xs : List ℕ) → length xs ≡ k → AreBytes xs → Writes write most xs)
    → (s : List ℕ) → AreBytes s → Comes ℕ write (λ n. n < most) s
fixed_comes write k most made s bytes = elim (cases_lt (length s) k) [
  | inl short ↦
      let fills : length (s ++ replicate (k - length s) 0) ≡ k =
      length-append s (replicate (k - length s) 0) ∙ omega (arith, length-replicate {A = ℕ} (k - length s) 0) in
      let writes : Writes write most (s ++ replicate (k - length s) 0) =
      made _ fills (join_bytes s (replicate (k - length s) 0) bytes (zero_bytes (k - length s))) in
      part writes.number writes.small (replicate (k - length s) 0) (sym writes.is)
  | inr enough ↦
      let writes : Writes write most (take k s) = made _ (length-take-le k s enough) (take_bytes k s bytes) in
      whole writes.number writes.small (drop k s) (drop_bytes k s bytes)
      (sym (take-append-drop k s) ∙ ap (λ (t : List ℕ). t ++ drop k s) (sym writes.is))
]

four_comes : (s : List ℕ) → AreBytes s → Comes ℕ four_bytes (λ n. n < 2 ^ 32) s
four_comes s bytes = fixed_comes four_bytes 4 (2 ^ 32) four_made s bytes

eight_comes : (s : List ℕ) → AreBytes s → Comes ℕ eight_bytes (λ n. n < 2 ^ 64) s
eight_comes s bytes = fixed_comes eight_bytes 8 (2 ^ 64) eight_made s bytes

-- an item, and then another
pair_comes : (A B : Type 0) (f : A → List ℕ) (g : B → List ℕ) (V : A → Type 0) (W : B → Type 0) (y : B) → W y
    → ((s : List ℕ) → AreBytes s → Comes A f V s) → ((s : List ℕ) → AreBytes s → Comes B g W s)
    → (s : List ℕ) → AreBytes s → Comes (A × B) (λ p. f p.0 ++ g p.1) (λ p. V p.0 × W p.1) s
pair_comes A B f g V W y w first second s bytes = elim (first s bytes) [
  | whole x v rest more e ↦ elim (second rest more) [
    | whole z u left behind h ↦
        whole (x, z) (v, u) left behind (e ∙ (ap (λ (t : List ℕ). f x ++ t) h ∙ sym (append_assoc (f x) (g z) left)))
    | part z u more' h ↦
        part (x, z) (v, u) more' (ap (λ (t : List ℕ). t ++ more') e ∙ (append_assoc (f x) rest more' ∙ ap (λ (t : List ℕ). f x ++ t) h))
  ]
  | part x v more e ↦
      part (x, y) (v, w) (more ++ g y) (sym (append_assoc s more (g y)) ∙ ap (λ (t : List ℕ). t ++ g y) e)
]

-- so many numbers
numbers_comes : (n : ℕ) (s : List ℕ) → AreBytes s → Comes (List ℕ) (flat_map four_bytes) (λ xs. length xs ≡ n) s
numbers_comes zero s bytes = whole [] refl s bytes refl
numbers_comes (suc n) s bytes = elim (pair_comes ℕ (List ℕ) four_bytes (flat_map four_bytes) (λ x. x < 2 ^ 32) (λ xs. length xs ≡ n)
    (replicate n 0) (length-replicate n 0) four_comes (numbers_comes n) s bytes) [
      | whole p can rest behind e ↦ whole (p.0 ∷ p.1) (ap suc can.1) rest behind e
      | part p can more e ↦ part (p.0 ∷ p.1) (ap suc can.1) more e
    ]

counted_comes : (s : List ℕ) → AreBytes s → Comes (List ℕ) counted (λ xs. length xs < 2 ^ 32) s
unfolding counted
counted_comes s bytes = elim (four_comes s bytes) [
  | whole n small rest behind e ↦ elim (numbers_comes n rest behind) [
    | whole xs l left behind' h ↦
        whole xs (omega (arith, l)) left behind'
        (e ∙ (ap (λ (t : List ℕ). four_bytes n ++ t) h ∙ (ap (λ (m : ℕ). four_bytes m ++ (flat_map four_bytes xs ++ left)) (sym l)
        ∙ sym (append_assoc (four_bytes (length xs)) (flat_map four_bytes xs) left))))
    | part xs l more h ↦
        part xs (omega (arith, l)) more
        (ap (λ (t : List ℕ). t ++ more) e ∙ (append_assoc (four_bytes n) rest more ∙ (ap (λ (t : List ℕ). four_bytes n ++ t) h
        ∙ ap (λ (m : ℕ). four_bytes m ++ flat_map four_bytes xs) (sym l))))
  ]
  | part n small more e ↦
      let zeros : length (replicate n 0) ≡ n = length-replicate n 0 in
      part (replicate n 0) (omega (arith, zeros)) (more ++ flat_map four_bytes (replicate n 0))
      (sym (append_assoc s more (flat_map four_bytes (replicate n 0))) ∙ (ap (λ (t : List ℕ). t ++ flat_map four_bytes (replicate n 0)) e
      ∙ ap (λ (m : ℕ). four_bytes m ++ flat_map four_bytes (replicate n 0)) (sym zeros)))
]

-- so many bytes
bytes_come : (n : ℕ) (s : List ℕ) → AreBytes s → Comes (List ℕ) (λ xs. xs) (λ xs. length xs ≡ n) s
bytes_come n s bytes = elim (cases_lt (length s) n) [
  | inl short ↦
      part (s ++ replicate (n - length s) 0)
      (length-append s (replicate (n - length s) 0) ∙ omega (arith, length-replicate {A = ℕ} (n - length s) 0))
      (replicate (n - length s) 0) refl
  | inr enough ↦ whole (take n s) (length-take-le n s enough) (drop n s) (drop_bytes n s bytes) (sym (take-append-drop n s))
]

measured_comes : (s : List ℕ) → AreBytes s → Comes (List ℕ) measured (λ xs. length xs < 2 ^ 64) s
unfolding measured
measured_comes s bytes = elim (eight_comes s bytes) [
  | whole n small rest behind e ↦ elim (bytes_come n rest behind) [
    | whole xs l left behind' h ↦
        whole xs (omega (arith, l)) left behind'
        (e ∙ (ap (λ (t : List ℕ). eight_bytes n ++ t) h ∙ (ap (λ (m : ℕ). eight_bytes m ++ (xs ++ left)) (sym l)
        ∙ sym (append_assoc (eight_bytes (length xs)) xs left))))
    | part xs l more h ↦
        part xs (omega (arith, l)) more
        (ap (λ (t : List ℕ). t ++ more) e ∙ (append_assoc (eight_bytes n) rest more ∙ (ap (λ (t : List ℕ). eight_bytes n ++ t) h
        ∙ ap (λ (m : ℕ). eight_bytes m ++ xs) (sym l))))
  ]
  | part n small more e ↦
      let zeros : length (replicate n 0) ≡ n = length-replicate n 0 in
      part (replicate n 0) (omega (arith, zeros)) (more ++ replicate n 0)
      (sym (append_assoc s more (replicate n 0)) ∙ (ap (λ (t : List ℕ). t ++ replicate n 0) e
      ∙ ap (λ (m : ℕ). eight_bytes m ++ replicate n 0) (sym zeros)))
]

-- the four lists of a point
lists_come : (s : List ℕ) → AreBytes s
    → Comes (List ℕ × (List ℕ × (List ℕ × List ℕ))) (λ l. counted l.0 ++ (counted l.1.0 ++ (measured l.1.1.0 ++ measured l.1.1.1)))
    (λ l. (length l.0 < 2 ^ 32) × ((length l.1.0 < 2 ^ 32) × ((length l.1.1.0 < 2 ^ 64) × (length l.1.1.1 < 2 ^ 64)))) s
lists_come s bytes =
    let none : List ℕ = [] in
    let few : 0 < 2 ^ 32 = lit< tt in
    let short : 0 < 2 ^ 64 = lit< tt in
    pair_comes (List ℕ) (List ℕ × (List ℕ × List ℕ)) counted (λ l. counted l.0 ++ (measured l.1.0 ++ measured l.1.1))
    (λ xs. length xs < 2 ^ 32) (λ l. (length l.0 < 2 ^ 32) × ((length l.1.0 < 2 ^ 64) × (length l.1.1 < 2 ^ 64)))
    (none, (none, none)) (few, (short, short)) counted_comes
    (pair_comes (List ℕ) (List ℕ × List ℕ) counted (λ l. measured l.0 ++ measured l.1)
    (λ xs. length xs < 2 ^ 32) (λ l. (length l.0 < 2 ^ 64) × (length l.1 < 2 ^ 64))
    (none, none) (short, short) counted_comes
    (pair_comes (List ℕ) (List ℕ) measured measured (λ xs. length xs < 2 ^ 64) (λ xs. length xs < 2 ^ 64)
    none short measured_comes measured_comes)) s bytes

abbrev pointed : Winner → Bool → ℕ → List ℕ → List ℕ → List ℕ → List ℕ → Point
pointed winner ended at regs returns listing bits =
    record { winner = winner; ended = ended; at = at; regs = regs; returns = returns; listing = listing; bits = bits }

-- a point with this head
pub record HasHead (winner : Winner) (ended : Bool) (p : Point) : Type 0 where
  pub counted : IsCounted p
  pub winner_is : p.winner ≡ winner
  pub ended_is : p.ended ≡ ended

-- the bodies of points
pub body_comes : (winner : Winner) (ended : Bool) (s : List ℕ) → AreBytes s → Comes Point body_of (HasHead winner ended) s
unfolding body_of
body_comes winner ended s bytes =
    let none : List ℕ = [] in
    let few : 0 < 2 ^ 32 = lit< tt in
    let short : 0 < 2 ^ 64 = lit< tt in
    elim (pair_comes ℕ (List ℕ × (List ℕ × (List ℕ × List ℕ))) four_bytes
    (λ l. counted l.0 ++ (counted l.1.0 ++ (measured l.1.1.0 ++ measured l.1.1.1))) (λ n. n < 2 ^ 32)
    (λ l. (length l.0 < 2 ^ 32) × ((length l.1.0 < 2 ^ 32) × ((length l.1.1.0 < 2 ^ 64) × (length l.1.1.1 < 2 ^ 64))))
    (none, (none, (none, none))) (few, (few, (short, short))) four_comes lists_come s bytes) [
      | whole p can rest behind e ↦
          whole (pointed winner ended p.0 p.1.0 p.1.1.0 p.1.1.1.0 p.1.1.1.1)
          (record { counted = record { regs = can.1.0; returns = can.1.1.0; listing = can.1.1.1.0; bits = can.1.1.1.1 }; winner_is = refl; ended_is = refl })
          rest behind e
      | part p can more e ↦
          part (pointed winner ended p.0 p.1.0 p.1.1.0 p.1.1.1.0 p.1.1.1.1)
          (record { counted = record { regs = can.1.0; returns = can.1.1.0; listing = can.1.1.1.0; bits = can.1.1.1.1 }; winner_is = refl; ended_is = refl })
          more e
    ]
