-- How code goes on from one draft to another: what stood is as it was, and so many instructions stand behind it. In
-- between blocks may have declared variables.
use Rattle.std.proofs.Common.{◌≡◌, ◌∙◌, ℕ, ◌+◌, ◌≤◌, List, [], ◌∷◌, ◌++◌, length, refl, ap, arith, append_assoc, length-append}
use Rattle.code_lengths.specs.Growth as Growth
use Rattle.code_lengths.specs.Growth.{Advanced}
use Rattle.code_lengths.proofs.Drafting.{append_nothing}
use Rattle.lower_base.specs.Drafts.{Draft, Fails, Made, Makes, Step, here, step, then_make, with_instr, with_step}
use Rattle.paris_code.specs.declared.instr.Instr.{Instr}
use Rattle.paris_code.specs.declared.program.Virtual.{Virtual}

-- a piece of two, and then another
pub then_three : {A B D : Type 0} (made : Made A) (f : A → Draft → Made B) (h : B → Draft → Made D) → then_make (then_make made f) h ≡ then_make made (λ x e. then_make (f x e) h)
unfolding then_make
then_three (Makes x e) f h = refl
then_three Fails f h = refl

pub record Extended (d : Draft) (n : ℕ) (e : Draft) : Type 0 where
  pub more : List Step
  pub code : e.code ≡ d.code ++ more
  pub long : length more ≡ n
  pub entries : List Virtual
  pub fields : e.fields ≡ d.fields ++ entries
  pub regs : d.regs ≤ e.regs
  pub homes : List ℕ
  pub homes_are : e.homes ≡ d.homes ++ homes

-- code that declares nothing, and code of a statement
pub from_growth : (d e : Draft) (n : ℕ) → Growth.Extended d n e → Extended d n e
from_growth d e n x = record { more = x.more; code = x.code; long = x.long; entries = x.entries; fields = x.fields; regs = x.regs; homes = []; homes_are = x.homes ∙ append_nothing d.homes }

pub from_advanced : (d e : Draft) (n : ℕ) → Advanced d n e → Extended d n e
from_advanced d e n (later, x) = record { more = x.more; code = x.code; long = x.long; entries = x.entries; fields = x.fields; regs = x.regs; homes = later; homes_are = x.homes }

pub as_it_was : (d : Draft) → Extended d 0 d
as_it_was d = record { more = []; code = append_nothing d.code; long = refl; entries = []; fields = append_nothing d.fields; regs = omega arith; homes = []; homes_are = append_nothing d.homes }

pub extended : (d e f : Draft) (a b : ℕ) → Extended d a e → Extended e b f → Extended d (a + b) f
extended d e f a b x y = record {
  more = x.more ++ y.more;
  code = y.code ∙ ap (λ (c : List Step). c ++ y.more) x.code ∙ append_assoc d.code x.more y.more;
  long = length-append x.more y.more ∙ ap (λ (k : ℕ). k + length y.more) x.long ∙ ap (λ (k : ℕ). a + k) y.long;
  entries = x.entries ++ y.entries;
  fields = y.fields ∙ ap (λ (c : List Virtual). c ++ y.entries) x.fields ∙ append_assoc d.fields x.entries y.entries;
  regs = let r1 = x.regs in let r2 = y.regs in omega (arith, r1, r2);
  homes = x.homes ++ y.homes;
  homes_are = y.homes_are ∙ ap (λ (c : List ℕ). c ++ y.homes) x.homes_are ∙ append_assoc d.homes x.homes y.homes;
}

pub and_instr : (i : Instr) (d e : Draft) (n : ℕ) → Extended d n e → Extended d (n + 1) (with_instr i e)
unfolding with_instr with_step
and_instr i d e n x = extended d e (with_instr i e) n 1 x (record { more = step i ∷ []; code = refl; long = refl; entries = []; fields = append_nothing e.fields; regs = omega arith; homes = []; homes_are = append_nothing e.homes })

-- a jump behind so many instructions leads behind the code
pub places : (before after : Draft) (n : ℕ) → Extended before n after → here after ≡ here before + n
unfolding here
places before after n x = ap length x.code ∙ length-append before.code x.more ∙ ap (λ (k : ℕ). length before.code + k) x.long
