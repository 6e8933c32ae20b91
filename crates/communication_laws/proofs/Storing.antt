-- What a write leaves in its field is what a store leaves in a variable.
use Rattle.std.proofs.Common.{◌≡◌, ℕ, ◌+◌, ◌-◌, ◌^◌, ◌%◌, ◌<◌, Bool, true, false, refl, sym, ap, ◌∙◌, arith}
use Rattle.std.specs.Prelude.{◌==◌, ◌&&◌, nat_le, nat_lt, if◌then◌else◌}
use Rattle.std.specs.Int.{bit_at}
use Rattle.std.proofs.lemmas.Bool.{eq-eqb, le-leb, lt-ltb}
use Rattle.cstar_tree.specs.declared.typed.Variable.{Variable}
use Rattle.cstar_tree.specs.declared.typed.Variable.TheVariants as V
use Rattle.paris_code.specs.declared.operands.Field.{Field}
use Rattle.paris_code.specs.Memory.{BitMemory, field_number, run_number}
use Rattle.paris_code.specs.Writes.{Write, covers, written}
use Rattle.phase_meaning.proofs.RunBits.{run_number_is}
use Rattle.source_meaning.specs.State.{State, is_same, with_positions}

covers_own : (f : Field) (j : ℕ) → j < f.len → covers f f.set (f.offset + j) ≡ true
unfolding covers
covers_own f j h =
    ap (λ t. t && (nat_le f.offset (f.offset + j) && nat_lt (f.offset + j) (f.offset + f.len))) (eq-eqb f.set f.set refl)
    ∙ ap (λ t. t && nat_lt (f.offset + j) (f.offset + f.len)) (le-leb f.offset (f.offset + j) (omega arith)) ∙ lt-ltb (f.offset + j) (f.offset + f.len) (omega (arith, h))

-- the number of a field where the write writes, and where it does not
number_written : (w : Write) (m : BitMemory) (p : ℕ) → w.writes p ≡ true → field_number (written w m) w.run p ≡ w.value p % 2 ^ w.run.len
unfolding field_number written
number_written w m p on =
    run_number_is _ w.run.offset w.run.len (w.value p) (λ j h.
    ap (λ t. if t && w.writes p then bit_at (w.value p) (w.run.offset + j - w.run.offset) else m.bit w.run.set p (w.run.offset + j)) (covers_own w.run j h)
    ∙ ap (λ t. if t then bit_at (w.value p) (w.run.offset + j - w.run.offset) else m.bit w.run.set p (w.run.offset + j)) on
    ∙ ap (bit_at (w.value p)) (let k : w.run.offset + j - w.run.offset ≡ j = omega arith in k))

same_number : (f g : ℕ → ℕ) (offset n : ℕ) → ((j : ℕ) → f j ≡ g j) → run_number f offset n ≡ run_number g offset n
same_number f g offset n same = λ i. run_number (λ j. same j i) offset n

number_kept : (w : Write) (m : BitMemory) (p : ℕ) → w.writes p ≡ false → field_number (written w m) w.run p ≡ field_number m w.run p
unfolding field_number written
number_kept w m p off = same_number _ _ w.run.offset w.run.len (λ j.
    ap (λ t. if covers w.run w.run.set j && t then bit_at (w.value p) (j - w.run.offset) else m.bit w.run.set p j) off ∙ by (covers w.run w.run.set j) (bit_at (w.value p) (j - w.run.offset)) (m.bit w.run.set p j))
  where
    by : (t : Bool) (x y : ℕ) → (if t && false then x else y) ≡ y
    by true x y = refl
    by false x y = refl

same_itself : (x : Variable) → is_same x x ≡ true
unfolding is_same
same_itself (V.File k) = eq-eqb k k refl
same_itself (V.Param k) = eq-eqb k k refl
same_itself (V.Local k) = eq-eqb k k refl

-- A position of a field that has what a variable has there, and is written where the variable takes numbers of as many
-- bits, then has what the variable has.
pub stores : (w : Write) (m : BitMemory) (st : State) (x : Variable) (passes : ℕ → Bool) (value : ℕ → ℕ) (p : ℕ) → w.writes p ≡ passes p → (passes p ≡ true → w.value p % 2 ^ w.run.len ≡ value p)
    → field_number m w.run p ≡ st.parallel x 0 p → field_number (written w m) w.run p ≡ (with_positions x 0 passes value st).parallel x 0 p
unfolding with_positions
stores w m st x passes value p alike values holds =
    by (passes p) refl ∙ sym (ap (λ t. if t && 0 == 0 && passes p then value p else st.parallel x 0 p) (same_itself x))
  where
    by : (t : Bool) → passes p ≡ t → field_number (written w m) w.run p ≡ (if passes p then value p else st.parallel x 0 p)
    by true on = number_written w m p (alike ∙ on) ∙ values on ∙ sym (ap (λ t. if t then value p else st.parallel x 0 p) on)
    by false off = number_kept w m p (alike ∙ off) ∙ holds ∙ sym (ap (λ t. if t then value p else st.parallel x 0 p) off)
