-- Numbers as rows of bits: how words hold them, and how they are read.
use Rattle.std.proofs.Common.{◌≡◌, ◌≢◌, ℕ, suc, zero, ◌+◌, ◌-◌, ◌*◌, ◌/◌, ◌%◌, ◌^◌, ◌<◌, ◌≤◌, ◌⊎◌, List, [], ◌∷◌, length, get_or, min, cond, nat_lt, refl, sym, ◌∙◌, ap, inl, inr, zero-add, arith}
use Rattle.std.specs.Int.{bit_at}
use Rattle.std.proofs.Math.ListN.{set, length-set, replicate}
use Rattle.std.proofs.lemmas.List.{get_or-set_same, get_or-set_other}
use Rattle.std.proofs.lemmas.Simd.{get_or-replicate}
use Rattle.std.proofs.lemmas.Bool.{cases_lt, cases_eq, lt-ltb, le-ltb}
use Rattle.std.proofs.lemmas.Nat.{mod_below}
use Rattle.cstar_base.proofs.BitCuts.{bit_at-cut, bit_at-shr}
use Rattle.bit_planes.proofs.Planes.{plane-set_same, plane-set_other, number_is, low_bits}
use Rattle.std.proofs.lemmas.Nat.Bits.{bit_at_ones, bit_at_ones_above}
use Rattle.bit_planes.specs.Bits.{bit}
use Rattle.bit_planes.specs.Planes.{plane_at, number}
use Rattle.bit_planes.specs.Rows.{half, held}
use Rattle.bit_planes.specs.Steps.{Transposed}
use Rattle.bit_planes.specs.declared.plane.Plane.{Plane}

-- eight words, each by its place
eight : (f : ℕ → ℕ) (a b c d e g h k : ℕ) → a ≡ f 0 → b ≡ f 1 → c ≡ f 2 → d ≡ f 3 → e ≡ f 4 → g ≡ f 5 → h ≡ f 6 → k ≡ f 7
    → (w : ℕ) → w < 8 → get_or (a ∷ b ∷ c ∷ d ∷ e ∷ g ∷ h ∷ k ∷ []) w 0 ≡ f w
eight f a b c d e g h k p0 p1 p2 p3 p4 p5 p6 p7 zero l = p0
eight f a b c d e g h k p0 p1 p2 p3 p4 p5 p6 p7 (suc zero) l = p1
eight f a b c d e g h k p0 p1 p2 p3 p4 p5 p6 p7 (suc (suc zero)) l = p2
eight f a b c d e g h k p0 p1 p2 p3 p4 p5 p6 p7 (suc (suc (suc zero))) l = p3
eight f a b c d e g h k p0 p1 p2 p3 p4 p5 p6 p7 (suc (suc (suc (suc zero)))) l = p4
eight f a b c d e g h k p0 p1 p2 p3 p4 p5 p6 p7 (suc (suc (suc (suc (suc zero))))) l = p5
eight f a b c d e g h k p0 p1 p2 p3 p4 p5 p6 p7 (suc (suc (suc (suc (suc (suc zero)))))) l = p6
eight f a b c d e g h k p0 p1 p2 p3 p4 p5 p6 p7 (suc (suc (suc (suc (suc (suc (suc zero))))))) l = p7
eight f a b c d e g h k p0 p1 p2 p3 p4 p5 p6 p7 (suc (suc (suc (suc (suc (suc (suc (suc w)))))))) l = absurd (omega arith)

-- the lower half of a word, and the upper one
half_low : (plane : List ℕ) (i : ℕ) → i / 32 % 2 ≡ 0 → half plane i ≡ get_or plane (i / 64) 0 % 2 ^ 32
unfolding half
half_low plane i e = ap (λ q. get_or plane (i / 64) 0 / 2 ^ (32 * q) % 2 ^ 32) e ∙ ap (λ n. n % 2 ^ 32) (let z : get_or plane (i / 64) 0 / 2 ^ 0 ≡ get_or plane (i / 64) 0 = omega arith in z)

half_high : (plane : List ℕ) (i : ℕ) → i / 32 % 2 ≡ 1 → half plane i ≡ get_or plane (i / 64) 0 / 2 ^ 32 % 2 ^ 32
unfolding half
half_high plane i e = ap (λ q. get_or plane (i / 64) 0 / 2 ^ (32 * q) % 2 ^ 32) e

-- the lane stands in the lower half of its word, or in the upper one
halves : (i : ℕ) → (i / 32 % 2 ≡ 0) ⊎ (i / 32 % 2 ≡ 1)
halves i = elim (cases_lt (i / 32 % 2) 1) [ inl l ↦ inl (omega arith) | inr g ↦ inr (omega arith) ]

-- the word of two numbers
abbrev pub pair_of : ℕ → ℕ → ℕ
pair_of low high = high * 2 ^ 32 + low

low_of_pair : (low high : ℕ) → low < 2 ^ 32 → pair_of low high % 2 ^ 32 ≡ low
low_of_pair low high l = omega arith

high_of_pair : (low high : ℕ) → low < 2 ^ 32 → high < 2 ^ 32 → pair_of low high / 2 ^ 32 % 2 ^ 32 ≡ high
high_of_pair low high l h = omega arith

-- the number in the half of a word of two numbers
half_of_pair : (plane : List ℕ) (i low high : ℕ) → low < 2 ^ 32 → high < 2 ^ 32 → get_or plane (i / 64) 0 ≡ pair_of low high
    → (x : ℕ) → (i / 32 % 2 ≡ 0 → low ≡ x) → (i / 32 % 2 ≡ 1 → high ≡ x) → half plane i ≡ x
half_of_pair plane i low high l h word x even odd = elim (halves i) [
  | inl e ↦ half_low plane i e ∙ ap (λ n. n % 2 ^ 32) word ∙ low_of_pair low high l ∙ even e
  | inr o ↦ half_high plane i o ∙ ap (λ n. n / 2 ^ 32 % 2 ^ 32) word ∙ high_of_pair low high l h ∙ odd o
]

-- the word of the numbers at a place and 32 places on
abbrev pub pair_at : List ℕ → ℕ → ℕ
pair_at v at = pair_of (get_or v at 0) (get_or v (at + 32) 0)

pub row_packed : (v : List ℕ) → ((k : ℕ) → k < 512 → get_or v k 0 < 2 ^ 32) → (row : ℕ) → row < 32 → (a b c d e g h k : ℕ)
    → a ≡ pair_at v row → b ≡ pair_at v (row + 64) → c ≡ pair_at v (row + 128) → d ≡ pair_at v (row + 192) → e ≡ pair_at v (row + 256) → g ≡ pair_at v (row + 320) → h ≡ pair_at v (row + 384) → k ≡ pair_at v (row + 448)
    → (i : ℕ) → i < 512 → i % 32 ≡ row → half (a ∷ b ∷ c ∷ d ∷ e ∷ g ∷ h ∷ k ∷ []) i ≡ get_or v i 0
row_packed v fits row rb a b c d e g h k p0 p1 p2 p3 p4 p5 p6 p7 i ib r =
    let at : ℕ = row + 64 * (i / 64) in
    half_of_pair (a ∷ b ∷ c ∷ d ∷ e ∷ g ∷ h ∷ k ∷ []) i (get_or v at 0) (get_or v (at + 32) 0) (fits at (omega arith)) (fits (at + 32) (omega arith))
    (eight (λ w. pair_at v (row + 64 * w)) a b c d e g h k (p0 ∙ ap (pair_at v) (omega arith)) p1 p2 p3 p4 p5 p6 p7 (i / 64) (omega arith))
    (get_or v i 0) (λ e. ap (λ n. get_or v n 0) (omega arith)) (λ o. ap (λ n. get_or v n 0) (omega arith))

-- the products of the halves of two words
abbrev pub product_of_halves : ℕ → ℕ → ℕ
product_of_halves x y = pair_of (x % 2 ^ 32 * (y % 2 ^ 32) % 2 ^ 32) (x / 2 ^ 32 % 2 ^ 32 * (y / 2 ^ 32 % 2 ^ 32) % 2 ^ 32)

pub row_multiplied : (x y : List ℕ) (a b c d e g h k : ℕ) → let product : ℕ → ℕ = λ w. product_of_halves (get_or x w 0) (get_or y w 0) in
    a ≡ product 0 → b ≡ product 1 → c ≡ product 2 → d ≡ product 3 → e ≡ product 4 → g ≡ product 5 → h ≡ product 6 → k ≡ product 7
    → (i : ℕ) → i < 512 → half (a ∷ b ∷ c ∷ d ∷ e ∷ g ∷ h ∷ k ∷ []) i ≡ half x i * half y i % 2 ^ 32
row_multiplied x y a b c d e g h k p0 p1 p2 p3 p4 p5 p6 p7 i ib =
    let u : ℕ = get_or x (i / 64) 0 in
    let v : ℕ = get_or y (i / 64) 0 in
    half_of_pair (a ∷ b ∷ c ∷ d ∷ e ∷ g ∷ h ∷ k ∷ []) i (u % 2 ^ 32 * (v % 2 ^ 32) % 2 ^ 32) (u / 2 ^ 32 % 2 ^ 32 * (v / 2 ^ 32 % 2 ^ 32) % 2 ^ 32)
    (mod_below (u % 2 ^ 32 * (v % 2 ^ 32)) (2 ^ 32) (omega arith)) (mod_below (u / 2 ^ 32 % 2 ^ 32 * (v / 2 ^ 32 % 2 ^ 32)) (2 ^ 32) (omega arith))
    (eight (λ w. product_of_halves (get_or x w 0) (get_or y w 0)) a b c d e g h k p0 p1 p2 p3 p4 p5 p6 p7 (i / 64) (omega arith))
    (half x i * half y i % 2 ^ 32)
    (λ e. sym (ap (λ n. n * half y i % 2 ^ 32) (half_low x i e) ∙ ap (λ n. u % 2 ^ 32 * n % 2 ^ 32) (half_low y i e)))
    (λ o. sym (ap (λ n. n * half y i % 2 ^ 32) (half_high x i o) ∙ ap (λ n. u / 2 ^ 32 % 2 ^ 32 * n % 2 ^ 32) (half_high y i o)))

-- planes whose words are all the word of one number twice
half_repeated : (w x i : ℕ) → w ≡ pair_of x x → x < 2 ^ 32 → i < 512 → half (replicate 8 w) i ≡ x
half_repeated w x i e b ib = half_of_pair (replicate 8 w) i x x b b (get_or-replicate 8 (i / 64) w 0 (omega arith) ∙ e) x (λ e. refl) (λ o. refl)

pub held_repeated : (w x : ℕ) → w ≡ pair_of x x → x < 2 ^ 32 → (i : ℕ) → i < 512 → held (replicate 32 (record { bits = replicate 8 w })) i ≡ x
held_repeated w x e b i ib =
    ap {A = Plane} (λ p. half (p.bits) i) (get_or-replicate 32 (i % 32) (record { bits = replicate 8 w }) (record { bits = [] }) (omega arith)) ∙ half_repeated w x i e b ib

-- a plane whose words have 1 in the lanes below a count
pub first_bits : (count a b c d e g h k : ℕ) → let ones : ℕ → ℕ = λ w. 2 ^ min 64 (count - 64 * w) - 1 in
    a ≡ ones 0 → b ≡ ones 1 → c ≡ ones 2 → d ≡ ones 3 → e ≡ ones 4 → g ≡ ones 5 → h ≡ ones 6 → k ≡ ones 7
    → (i : ℕ) → i < 512 → bit (a ∷ b ∷ c ∷ d ∷ e ∷ g ∷ h ∷ k ∷ []) i ≡ cond (nat_lt i count) 1 0
unfolding bit
first_bits count a b c d e g h k p0 p1 p2 p3 p4 p5 p6 p7 i ib =
    ap (λ n. bit_at n (i % 64)) (eight (λ w. 2 ^ min 64 (count - 64 * w) - 1) a b c d e g h k p0 p1 p2 p3 p4 p5 p6 p7 (i / 64) (omega arith))
    ∙ elim (cases_lt i count) [
      | inl l ↦ bit_at_ones (min 64 (count - 64 * (i / 64))) (i % 64) (omega arith) ∙ sym (ap (λ t. cond t 1 0) (lt-ltb i count l))
      | inr g ↦ bit_at_ones_above (min 64 (count - 64 * (i / 64))) (i % 64) (omega arith) ∙ sym (ap (λ t. cond t 1 0) (le-ltb i count g))
    ]

-- the numbers of the rows before this one are read
pub record RowsRead (row : ℕ) (planes : List Plane) (v : List ℕ) : Type 0 where
  pub long : length v ≡ 512
  pub rows : (k : ℕ) → k < 512 → k % 32 < row → get_or v k 0 ≡ held planes k

-- and those of this row in the words before this one
pub record WordsRead (row word : ℕ) (planes : List Plane) (v : List ℕ) : Type 0 where
  pub long : length v ≡ 512
  pub rows : (k : ℕ) → k < 512 → k % 32 < row → get_or v k 0 ≡ held planes k
  pub words : (k : ℕ) → k < 512 → k % 32 ≡ row → k / 64 < word → get_or v k 0 ≡ held planes k

-- the halves of a word are the numbers of two lanes
low_held : (planes : List Plane) (k row word x : ℕ) → k % 32 ≡ row → k / 64 ≡ word → k / 32 % 2 ≡ 0 → x ≡ get_or (plane_at planes row) word 0 % 2 ^ 32 → x ≡ held planes k
low_held planes k row word x r w e is =
    is ∙ ap (λ n. get_or (plane_at planes n) word 0 % 2 ^ 32) (sym r) ∙ ap (λ n. get_or (plane_at planes (k % 32)) n 0 % 2 ^ 32) (sym w) ∙ sym (half_low (plane_at planes (k % 32)) k e)

high_held : (planes : List Plane) (k row word x : ℕ) → k % 32 ≡ row → k / 64 ≡ word → k / 32 % 2 ≡ 1 → x ≡ get_or (plane_at planes row) word 0 / 2 ^ 32 % 2 ^ 32 → x ≡ held planes k
high_held planes k row word x r w o is =
    is ∙ ap (λ n. get_or (plane_at planes n) word 0 / 2 ^ 32 % 2 ^ 32) (sym r) ∙ ap (λ n. get_or (plane_at planes (k % 32)) n 0 / 2 ^ 32 % 2 ^ 32) (sym w) ∙ sym (half_high (plane_at planes (k % 32)) k o)

pub words_more : (row word : ℕ) → row < 32 → word < 8 → (planes : List Plane) (v : List ℕ) (low high : ℕ) → WordsRead row word planes v
    → low ≡ get_or (plane_at planes row) word 0 % 2 ^ 32 → high ≡ get_or (plane_at planes row) word 0 / 2 ^ 32 % 2 ^ 32
    → WordsRead row (word + 1) planes (set (set v (64 * word + row) low) (64 * word + 32 + row) high)
words_more row word rb wb planes v low high read l h =
    let place : ℕ = 64 * word + row in
    let next : ℕ = 64 * word + 32 + row in
    let w : List ℕ = set v place low in
    let other : (k : ℕ) → k ≢ place → k ≢ next → get_or (set w next high) k 0 ≡ get_or v k 0 =
    λ k n m. get_or-set_other w next k high 0 m ∙ get_or-set_other v place k low 0 n in
    record {
      long = length-set w next high ∙ length-set v place low ∙ read.long;
      rows = λ k kb r. other k (λ e. absurd (omega arith)) (λ e. absurd (omega arith)) ∙ read.rows k kb r;
      words = λ k kb r b. elim (cases_eq k place) [
        | inl e ↦
            ap (λ n. get_or (set w next high) n 0) e ∙ get_or-set_other w next place high 0 (λ n. absurd (omega arith)) ∙ get_or-set_same v place low 0 (omega (arith, read.long))
            ∙ low_held planes k row word low r (omega arith) (omega arith) l
        | inr n ↦ elim (cases_eq k next) [
          | inl e ↦
              ap (λ m. get_or (set w next high) m 0) e ∙ get_or-set_same w next high 0 (omega (arith, read.long, length-set v place low))
              ∙ high_held planes k row word high r (omega arith) (omega arith) h
          | inr m ↦ other k n m ∙ read.words k kb r (omega arith)
        ]
      ];
    }

pub rows_more : (row word : ℕ) → 8 ≤ word → (planes : List Plane) (v : List ℕ) → WordsRead row word planes v → RowsRead (row + 1) planes v
rows_more row word b planes v read = record {
  long = read.long;
  rows = λ k kb r. elim (cases_lt (k % 32) row) [ inl l ↦ read.rows k kb l | inr g ↦ read.words k kb (omega arith) (omega arith) ];
}

-- the rows before this one are packed
pub record RowsPacked (row : ℕ) (v : List ℕ) (planes : List Plane) : Type 0 where
  pub long : length planes ≡ 32
  pub rows : (k : ℕ) → k < 512 → k % 32 < row → held planes k ≡ get_or v k 0

-- a plane that is replaced
held-set_same : (planes : List Plane) (row : ℕ) (new : List ℕ) (k : ℕ) → length planes ≡ 32 → row < 32 → k % 32 ≡ row → held (set planes row (record { bits = new })) k ≡ half new k
held-set_same planes row new k long rb e =
    ap (λ n. half (plane_at (set planes row (record { bits = new })) n) k) e ∙ ap (λ q. half q k) (plane-set_same planes row new (omega arith))

held-set_other : (planes : List Plane) (row : ℕ) (new : List ℕ) (k : ℕ) → k % 32 ≢ row → held (set planes row (record { bits = new })) k ≡ held planes k
held-set_other planes row new k n = ap (λ q. half q k) (plane-set_other planes row (k % 32) (record { bits = new }) n)

pub packed_more : (row : ℕ) → row < 32 → (v : List ℕ) (planes : List Plane) (new : List ℕ) → RowsPacked row v planes
    → ((i : ℕ) → i < 512 → i % 32 ≡ row → half new i ≡ get_or v i 0) → RowsPacked (row + 1) v (set planes row (record { bits = new }))
packed_more row rb v planes new before is = record {
  long = length-set planes row (record { bits = new }) ∙ before.long;
  rows = λ k kb h. elim (cases_eq (k % 32) row) [
    | inl e ↦ held-set_same planes row new k before.long rb e ∙ is k kb e
    | inr n ↦ held-set_other planes row new k n ∙ before.rows k kb (omega arith)
  ];
}

-- the rows before this one are multiplied, and the others are as they were
pub record RowsMultiplied (row : ℕ) (by old new : List Plane) : Type 0 where
  pub long : length new ≡ 32
  pub done : (k : ℕ) → k < 512 → k % 32 < row → held new k ≡ held old k * held by k % 2 ^ 32
  pub rest : (r : ℕ) → row ≤ r → plane_at new r ≡ plane_at old r

-- the planes of a field before j are copied
pub record Copied (offset j : ℕ) (planes copy : List Plane) : Type 0 where
  pub long : length copy ≡ 32
  pub inside : (k : ℕ) → k < j → plane_at copy k ≡ plane_at planes (offset + k)

-- and those from len on are zero, as far as this one
pub record Cut (offset len j : ℕ) (planes copy : List Plane) : Type 0 where
  pub long : length copy ≡ 32
  pub inside : (k : ℕ) → k < len → plane_at copy k ≡ plane_at planes (offset + k)
  pub above : (k i : ℕ) → len ≤ k → k < j → i < 512 → bit (plane_at copy k) i ≡ 0

-- the bits of a number that is held
half_bits : (plane : List ℕ) (i j : ℕ) → i < 512 → j < 32 → bit_at (half plane i) j ≡ bit plane (i - i % 32 + j)
unfolding bit half
half_bits plane i j ib jb =
    bit_at-cut (get_or plane (i / 64) 0 / 2 ^ (32 * (i / 32 % 2))) 32 j jb
    ∙ bit_at-shr (get_or plane (i / 64) 0) (32 * (i / 32 % 2)) j
    ∙ ap (λ w. bit_at (get_or plane w 0) (32 * (i / 32 % 2) + j)) (let e : i / 64 ≡ (i - i % 32 + j) / 64 = omega arith in e)
    ∙ ap (λ n. bit_at (get_or plane ((i - i % 32 + j) / 64) 0) n) (let e : 32 * (i / 32 % 2) + j ≡ (i - i % 32 + j) % 64 = omega arith in e)

half-lt : (plane : List ℕ) (i : ℕ) → half plane i < 2 ^ 32
unfolding half
half-lt plane i = mod_below (get_or plane (i / 64) 0 / 2 ^ (32 * (i / 32 % 2))) (2 ^ 32) (omega arith)

-- the numbers of planes that are transposed rows
pub column_of_rows : (rows planes : List Plane) (len : ℕ) → len ≤ 32 → Transposed rows planes → (i : ℕ) → i < 512 → number planes 0 len i ≡ held rows i % 2 ^ len
column_of_rows rows planes len lb turned i ib = number_is planes 0 len i (held rows i) (λ j jb.
    ap (λ n. bit (plane_at planes n) i) (zero-add j) ∙ turned j i (omega arith) ib ∙ sym (half_bits (plane_at rows (i % 32)) i j ib (omega arith)))

-- the numbers that rows hold which are transposed planes
pub rows_of_field : (planes field rows : List Plane) (offset len : ℕ) → len ≤ 32
    → ((j : ℕ) → j < len → plane_at field j ≡ plane_at planes (offset + j)) → ((j i : ℕ) → len ≤ j → j < 32 → i < 512 → bit (plane_at field j) i ≡ 0) → Transposed field rows
    → (i : ℕ) → i < 512 → held rows i ≡ number planes offset len i
rows_of_field planes field rows offset len lb inside above turned i ib =
    let is : (j : ℕ) → j < 32 → bit_at (held rows i) j ≡ bit (plane_at field j) i = λ j jb.
    half_bits (plane_at rows (i % 32)) i j ib jb ∙ turned (i % 32) (i - i % 32 + j) (omega arith) (omega arith)
    ∙ ap (λ n. bit (plane_at field ((i - i % 32 + j) % 32)) n) (let e : i - i % 32 + j - (i - i % 32 + j) % 32 + i % 32 ≡ i = omega arith in e)
    ∙ ap (λ n. bit (plane_at field n) i) (let e : (i - i % 32 + j) % 32 ≡ j = omega arith in e) in
    sym (number_is planes offset len i (held rows i) (λ j jb. sym (ap (λ q. bit q i) (inside j jb)) ∙ sym (is j (omega arith)))
    ∙ low_bits (held rows i) len 32 (half-lt (plane_at rows (i % 32)) i) (λ j l h. is j h ∙ above j i l h ib))
