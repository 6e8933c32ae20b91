-- What a write leaves in fields and flags.
use Rattle.std.proofs.Common.{◌≡◌, ℕ, suc, zero, ◌+◌, ◌-◌, ◌*◌, ◌^◌, ◌%◌, ◌<◌, ◌≤◌, inl, inr, Bool, true, false, ◌&&◌, ◌==◌, List, length, if◌then◌else◌, refl, sym, ap, ◌∙◌, subst, arith, mul_assoc, mul_comm}
use Rattle.std.specs.Prelude.{nat_le, nat_lt}
use Rattle.std.specs.Int.{bit_at}
use Rattle.std.proofs.lemmas.Bool.{and_right, eqb-true}
use Rattle.std.proofs.lemmas.Nat.{pow-add}
use Rattle.std.proofs.lemmas.Nat.Bits.{bit_at-lt}
use Rattle.std.proofs.Math.Nat.{add-mul-mod_self_right, mod-eq_of_lt, pow-suc}
use Rattle.constant_trees.proofs.Bringing.{both_true, left_false}
use Rattle.paris_code.specs.declared.operands.Field.{Field}
use Rattle.paris_code.specs.Memory.{BitMemory, run_number, field_number, is_active, processors}
use Rattle.paris_code.specs.Shapes.{SetShape, bits_at}
use Rattle.paris_code.specs.Writes.{Write, covers, written}
use Rattle.phase_meaning.proofs.RunBits.{run_number_is}
use Rattle.fields_follow.proofs.FileFields.{Apart}

-- the numbers of two runs with the same bits
pub run_number_same : (f g : ℕ → ℕ) (offset n : ℕ) → ((j : ℕ) → j < n → f (offset + j) ≡ g (offset + j)) → run_number f offset n ≡ run_number g offset n
unfolding run_number
run_number_same f g offset zero same = refl
run_number_same f g offset (suc n) same =
    ap (λ x. x + 2 ^ n * f (offset + n)) (run_number_same f g offset n (λ j b. same j (omega arith)))
    ∙ ap (λ b. run_number g offset n + 2 ^ n * b) (same n (omega arith))

covers_own : (f : Field) (j : ℕ) → j < f.len → covers f f.set (f.offset + j) ≡ true
unfolding covers
covers_own f j h = grind (arith, h)

pub if_true : {A : Type 0} (b : Bool) (x y : A) → b ≡ true → (if b then x else y) ≡ x
if_true true x y e = refl
if_true false x y e = cc

pub if_false : {A : Type 0} (b : Bool) (x y : A) → b ≡ false → (if b then x else y) ≡ y
if_false true x y e = cc
if_false false x y e = refl

-- where the write writes
pub field_written : (w : Write) (m : BitMemory) (p : ℕ) → w.writes p ≡ true → field_number (written w m) w.run p ≡ w.value p % 2 ^ w.run.len
unfolding field_number written
field_written w m p e =
    run_number_is _ w.run.offset w.run.len (w.value p) (λ j h.
    if_true (covers w.run w.run.set (w.run.offset + j) && w.writes p) _ _ (both_true _ _ (covers_own w.run j h) e)
    ∙ ap (λ k. bit_at (w.value p) k) (let k : w.run.offset + j - w.run.offset ≡ j = omega arith in k))

-- and where it does not
pub field_kept : (w : Write) (m : BitMemory) (f : Field) (p : ℕ) → w.writes p ≡ false → field_number (written w m) f p ≡ field_number m f p
unfolding field_number written
field_kept w m f p e = run_number_same _ _ f.offset f.len (λ j h. if_false (covers w.run f.set (f.offset + j) && w.writes p) _ _ (and_right _ _ e))

covers_apart : (f g : Field) (j : ℕ) → Apart f g → j < g.len → covers f g.set (g.offset + j) ≡ false
unfolding covers
covers_apart f g j (inl e) h = grind (arith, e, h)
covers_apart f g j (inr (inl e)) h = grind (arith, e, h)
covers_apart f g j (inr (inr e)) h = grind (arith, e, h)

pub field_apart : (w : Write) (m : BitMemory) (g : Field) (p : ℕ) → Apart w.run g → field_number (written w m) g p ≡ field_number m g p
unfolding field_number written
field_apart w m g p a =
    run_number_same _ _ g.offset g.len (λ j h. if_false (covers w.run g.set (g.offset + j) && w.writes p) _ _ (left_false _ _ (covers_apart w.run g j a h)))

-- flags stand above the fields
pub covers_flag : (f : Field) (set index : ℕ) → (f.set ≡ set → f.offset + f.len ≤ index) → covers f set index ≡ false
unfolding covers
covers_flag f set index h = by (set == f.set) refl
  where
    by : (b : Bool) → (set == f.set) ≡ b → (b && (nat_le f.offset index && nat_lt index (f.offset + f.len))) ≡ false
    by true e = let k : f.offset + f.len ≤ index = h (sym (eqb-true set f.set e)) in grind (arith, k)
    by false e = refl

pub active_apart : (shapes : List SetShape) (w : Write) (m : BitMemory) (set p : ℕ) → w.run.offset + w.run.len ≤ bits_at shapes w.run.set → is_active shapes (written w m) set p ≡ is_active shapes m set p
unfolding is_active written
active_apart shapes w m set p h =
    ap (λ b. b == 1) (if_false (covers w.run set (bits_at shapes set) && w.writes p) _ _ (left_false _ _ (covers_flag w.run set (bits_at shapes set) (λ e. subst (λ s. w.run.offset + w.run.len ≤ bits_at shapes s) e h))))

-- every bit of the fields is 0 or 1
abbrev pub AreBits : List SetShape → BitMemory → Type 0
AreBits shapes m = (set p index : ℕ) → set < length shapes → p < processors shapes set → index < bits_at shapes set → m.bit set p index < 2

pub bits_written : (shapes : List SetShape) (w : Write) (m : BitMemory) → AreBits shapes m → AreBits shapes (written w m)
unfolding written
bits_written shapes w m are set p index exists below low = by (covers w.run set index && w.writes p) (are set p index exists below low)
  where
    by : (b : Bool) → m.bit set p index < 2 → (if b then bit_at (w.value p) (index - w.run.offset) else m.bit set p index) < 2
    by true old = bit_at-lt (w.value p) (index - w.run.offset)
    by false old = old

-- so the first bits of a field have the lowest bits of its number
next_below : (n r b : ℕ) → r < 2 ^ n → b < 2 → r + 2 ^ n * b < 2 ^ suc n
next_below n r zero low few = omega (arith, low, pow-suc 2 n)
next_below n r (suc zero) low few = omega (arith, low, pow-suc 2 n)
next_below n r (suc (suc b)) low few = absurd (omega (arith, few))

run_below : (bits : ℕ → ℕ) (offset n : ℕ) → ((j : ℕ) → j < n → bits (offset + j) < 2) → run_number bits offset n < 2 ^ n
unfolding run_number
run_below bits offset zero are = omega arith
run_below bits offset (suc n) are = next_below n (run_number bits offset n) (bits (offset + n)) (run_below bits offset n (λ j below. are j (omega (arith, below)))) (are n (omega arith))

run_first : (bits : ℕ → ℕ) (offset n k : ℕ) → ((j : ℕ) → j < n + k → bits (offset + j) < 2) → run_number bits offset (n + k) % 2 ^ n ≡ run_number bits offset n
unfolding run_number
run_first bits offset n zero are = ap (λ (i : ℕ). run_number bits offset i % 2 ^ n) (let e : n + 0 ≡ n = omega arith in e) ∙ mod-eq_of_lt (run_below bits offset n (λ j below. are j (omega (arith, below))))
run_first bits offset n (suc k) are =
    let b : ℕ = bits (offset + (n + k)) in
    let more : 2 ^ (n + k) * b ≡ 2 ^ k * b * 2 ^ n = ap (λ (x : ℕ). x * b) (pow-add 2 n k ∙ mul_comm (2 ^ n) (2 ^ k)) ∙ mul_assoc (2 ^ k) (2 ^ n) b ∙ ap (λ (x : ℕ). 2 ^ k * x) (mul_comm (2 ^ n) b) ∙ sym (mul_assoc (2 ^ k) b (2 ^ n)) in
    ap (λ (i : ℕ). run_number bits offset i % 2 ^ n) (let e : n + suc k ≡ suc (n + k) = omega arith in e)
    ∙ ap (λ (x : ℕ). (run_number bits offset (n + k) + x) % 2 ^ n) more
    ∙ add-mul-mod_self_right (run_number bits offset (n + k)) (2 ^ k * b) (2 ^ n)
    ∙ run_first bits offset n k (λ j below. are j (omega (arith, below)))

pub first_number : (shapes : List SetShape) (m : BitMemory) (f : Field) (p n : ℕ) → AreBits shapes m → f.set < length shapes → p < processors shapes f.set → f.offset + f.len ≤ bits_at shapes f.set → n ≤ f.len
    → field_number m (record f { len = n }) p ≡ field_number m f p % 2 ^ n
unfolding field_number
first_number shapes m f p n are exists below ends less =
    sym (ap (λ (i : ℕ). run_number (m.bit f.set p) f.offset i % 2 ^ n) (let e : f.len ≡ n + (f.len - n) = omega (arith, less) in e)
    ∙ run_first (m.bit f.set p) f.offset n (f.len - n) (λ j inside. are f.set p (f.offset + j) exists below (omega (arith, inside, less, ends))))
