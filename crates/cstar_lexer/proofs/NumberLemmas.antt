-- Which fault at a constant is the first.
use Rattle.std.proofs.Common.{◌≡◌, ℕ, ◌^◌, ◌<◌, ◌≤◌, Bool, true, List, arith, lit≤, sym, subst}
use Rattle.std.specs.Prelude.{slice_index}
use Rattle.cstar_base.specs.Faults.{number_of}
use Rattle.cstar_base.specs.declared.faults.Fault.{Fault}
use Rattle.cstar_base.specs.declared.faults.Fault.TheVariants as F
use Rattle.cstar_lexer.specs.Bytes.{goes_on, is_figure, is_letter}
use Rattle.cstar_lexer.specs.Constants.{IsLongestConstant}
use Rattle.cstar_lexer.specs.Faults.{IsFirst}
use Rattle.cstar_lexer.specs.Numbers.{NumberFault, is_glued}
use Rattle.cstar_lexer.specs.Numbers as N
use Rattle.cstar_lexer.proofs.Longest.{one_constant, some_constant}

least_wide : {bytes : List ℕ} {other : Fault} {at : ℕ} → NumberFault bytes other at → at ≡ 0 → 3 ≤ number_of other
least_wide (N.wide c w) e = lit≤ tt
least_wide (N.glued c g) e = absurd (omega (arith, some_constant c.constant))

pub first_wide : {bytes : List ℕ} {n value : ℕ} {suffixed : Bool} → IsLongestConstant bytes n value suffixed → 2 ^ 32 ≤ value → IsFirst (NumberFault bytes) F.Wide 0
first_wide c w = record { stands = N.wide c w; first = λ other at h. omega arith; least = λ other at h e. least_wide h e }

after_glued : {bytes : List ℕ} {n value : ℕ} {suffixed : Bool} → IsLongestConstant bytes n value suffixed → value < 2 ^ 32 → {other : Fault} {at : ℕ} → NumberFault bytes other at → (at ≡ n) × (1 ≤ number_of other)
after_glued c small (N.wide d w) = absurd (let same = one_constant c d in omega (arith, same.1))
after_glued c small (N.glued d g) = let same = one_constant c d in (sym same.0, lit≤ tt)

pub first_glued : {bytes : List ℕ} {n value : ℕ} {suffixed : Bool} → IsLongestConstant bytes n value suffixed → value < 2 ^ 32 → is_glued (slice_index bytes n) ≡ true → IsFirst (NumberFault bytes) F.BadByte n
first_glued c small g = record {
  stands = N.glued c g;
  first = λ other at h. omega (arith, (after_glued c small h).0);
  least = λ other at h e. (after_glued c small h).1;
}

-- the first fault under other names
pub told : {Stands : Fault → ℕ → Type 0} {fault other : Fault} {offset at : ℕ} → other ≡ fault → at ≡ offset → IsFirst Stands fault offset → IsFirst Stands other at
told {Stands} {fault} {other} {offset} {at} e f first = subst (λ (o : Fault). IsFirst Stands o at) (sym e) (subst (λ (n : ℕ). IsFirst Stands fault n) (sym f) first)

pub glued_some : (x : ℕ) → is_glued x ≡ true → x ≡ 0 → ⊥
unfolding is_glued goes_on is_letter is_figure
glued_some x h e = absurd (let f = rw e at h in cc)
