-- Runs of a block that are moved between the memory and the string of a set.
use Rattle.std.proofs.Common.{◌≡◌, ℕ, zero, suc, ◌+◌, ◌-◌, ◌*◌, ◌/◌, ◌%◌, ◌<◌, ◌≤◌, eqb, List, get_or, refl, sym, ◌∙◌, ap, inl, inr, arith}
use Rattle.std.specs.Int.{bit_at, from_bool}
use Rattle.std.proofs.lemmas.Nat.{div-add-mod', le-div, mod_below}
use Rattle.paris_code.specs.declared.operands.Field.{Field}
use Rattle.point_bits.specs.Strings.{RunPut, byte_bit, string_at}
use Rattle.point_bits.proofs.Copies.{Moved}

-- a run is put into a string
pub put_moved : (positions width : ℕ) (run : Field) (block : ℕ) (words old new : List ℕ) (source : ℕ → ℕ → ℕ) → RunPut positions width run block words old new
    → ((p j : ℕ) → p / 512 ≡ block → p < positions → j < run.len → bit_at (get_or words (p % 512) 0) j ≡ source p (run.offset + j))
    → Moved positions width run.offset run.len block source (string_at width old) (string_at width new)
put_moved positions width run block words old new source put hold = record {
  inside = λ p i here within l h.
      put.inside p i here within l h ∙ hold p (i - run.offset) here within (omega arith) ∙ ap (source p) (let e : run.offset + (i - run.offset) ≡ i = omega arith in e);
  outside = λ p i within b apart. put.outside p i b (elim apart [ inl a ↦ inl a | inr r ↦ inr (inr r) ]);
}

-- and behind the last position nothing changes
pub behind_kept : (positions width : ℕ) (run : Field) (block : ℕ) (words old new : List ℕ) → 0 < width → RunPut positions width run block words old new
    → (n : ℕ) → positions * width ≤ n → byte_bit new n ≡ byte_bit old n
behind_kept positions width run block words old new wide put n behind =
    let whole : n / width * width + n % width ≡ n = div-add-mod' n width in
    ap (byte_bit new) (sym whole)
    ∙ put.outside (n / width) (n % width) (mod_below n width wide) (inr (inl (le-div positions n width wide behind)))
    ∙ ap (byte_bit old) whole

-- a bit that is 0 or 1 is whether it is 1
pub bit_again : (x : ℕ) → x < 2 → from_bool (eqb x 1) ≡ x
bit_again zero h = refl
bit_again (suc zero) h = refl
bit_again (suc (suc x)) h = absurd (omega arith)

pub byte_bit_small : (bytes : List ℕ) (n : ℕ) → byte_bit bytes n < 2
unfolding byte_bit
byte_bit_small bytes n = omega arith
