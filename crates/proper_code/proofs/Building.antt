-- Code that stays within itself: what is made of a unit appends a stretch from which no jump leads out.
use Rattle.std.proofs.Common.{◌≡◌, ℕ, ◌+◌, ◌<◌, ◌≤◌, arith, inr, Bool, true, false, Option, Some, None, refl, if◌then◌else◌}
use Rattle.paris_code.specs.declared.instr.Instr.{Instr}
use Rattle.paris_code.specs.declared.operands.Field.{Field}
use Rattle.paris_code.specs.declared.program.Owner.{Owner}
use Rattle.lower_base.specs.declared.emit.Out.{Out}
use Rattle.lower_base.specs.declared.emit.Out.TheVariants as O
use Rattle.lower_base.specs.Drafts.{Draft, Step, Made, Makes, Fails, then_make, from, here, step, with_step, with_instr, a_register, an_entry, fresh_for, in_register, in_field}
use Rattle.lower_expr.specs.Values.{lowest}
use Rattle.code_lengths.specs.Growth.{Extended, Grows, GrowsOr}
use Rattle.code_lengths.proofs.Basis.{Basis}
use Rattle.code_lengths.proofs.Drafting.{and_step, as_it_was, entry_grows, extended, register_grows}
use Rattle.proper_code.proofs.Stretches.{IsJump, IsNoCall, Ways, is_inward}
use Rattle.proper_code.proofs.Writing.{Wrote, jump_written, lands_ahead, nothing_written, shut, step_written, written_on}

-- what code relies on, and which units it may call
pub record Setting : Type 1 where
  pub basis : Basis
  pub units : ℕ → Type 0

-- within itself, and with jumps ahead to these places
unfoldable pub inward : Setting → Ways
inward on = record { leads = λ from target. ⊥; calls = on.units; ends = λ s. ⊥ }

unfoldable pub forward : Setting → (ℕ → Type 0) → Ways
forward on P = record { leads = λ from target. (from < target) × P target; calls = on.units; ends = λ s. ⊥ }

-- the second draft has grown from the first, by a stretch
pub record Grew (w : Ways) (d e : Draft) : Type 0 where
  pub count : ℕ
  pub grown : Extended d count e
  pub wrote : Wrote w d e

abbrev pub Built : Setting → Draft → Draft → Type 0
Built on d e = Grew (inward on) d e

unfoldable pub IsBuilt : {A : Type 0} → Setting → Draft → Made A → Type 0
IsBuilt on d (Makes x e) = Built on d e
IsBuilt on d Fails = Unit {0}

-- where what the code relies on is true, what is made is such a draft
pub record Builds {A : Type 0} (on : Setting) (d : Draft) (made : Made A) : Type 0 where
  pub builds : on.basis.holds d → IsBuilt on d made

pub as_before : {w : Ways} (d : Draft) → Grew w d d
as_before {w} d = record { count = 0; grown = as_it_was d; wrote = nothing_written w d d refl }

-- one stretch behind another
pub further : {w : Ways} (d e f : Draft) → Grew w d e → Grew w e f → Grew w d f
further {w} d e f x y = record { count = x.count + y.count; grown = extended d e f x.count y.count x.grown y.grown; wrote = written_on w d e f x.wrote y.wrote }

pub more_step : {w : Ways} (s : Step) (d e : Draft) → is_inward s ≡ true → Grew w d e → Grew w d (with_step s e)
more_step {w} s d e h x = record { count = x.count + 1; grown = and_step s d e x.count x.grown; wrote = step_written w s d e h x.wrote }

pub more : {w : Ways} (i : Instr) (d e : Draft) → is_inward (step i) ≡ true → Grew w d e → Grew w d (with_instr i e)
unfolding with_instr
more i d e h x = more_step (step i) d e h x

pub jump_more : {w : Ways} (s : Step) (target : ℕ) (d e : Draft) → IsJump s target → w.leads (here e) target → Grew w d e → Grew w d (with_step s e)
jump_more {w} s target d e j h x = record { count = x.count + 1; grown = and_step s d e x.count x.grown; wrote = jump_written w s target d e j h x.wrote }

-- what stays within itself does so where it may jump ahead, too
pub may_jump : (on : Setting) (P : ℕ → Type 0) (d e : Draft) → Built on d e → Grew (forward on P) d e
unfolding inward forward
may_jump on P d e x = record { count = x.count; grown = x.grown; wrote = shut (inward on) (forward on P) d e (λ from target h no. absurd no) (λ unit c. c) (λ s no. absurd no) x.wrote }

-- jumps ahead that land are within
pub all_land : (on : Setting) (P : ℕ → Type 0) (d e : Draft) → ((target : ℕ) → P target → (target ≤ here e) × IsNoCall e.code target) → Grew (forward on P) d e → Built on d e
unfolding inward forward
all_land on P d e lands x = record {
  count = x.count;
  grown = x.grown;
  wrote = shut (forward on P) (inward on) d e
      (λ from target h out. let l = lands target out.1 in let a = out.0 in inr (omega (arith, h, a), lands_ahead e from target out.0 l.0 l.1)) (λ unit c. c) (λ s no. no) x.wrote;
}

-- what is made
pub makes : {A : Type 0} {on : Setting} (x : A) (d e : Draft) → Built on d e → Builds on d (Makes x e)
unfolding IsBuilt
makes x d e b = record { builds = λ h. b }

pub fails : {A : Type 0} {on : Setting} (d : Draft) → Builds {A = A} on d Fails
unfolding IsBuilt
fails {A} d = record { builds = λ h. tt }

pub behind : {A : Type 0} {on : Setting} (d e : Draft) (made : Made A) → Built on d e → Builds on e made → Builds on d made
unfolding IsBuilt
behind {A} {on} d e made b x = record { builds = λ h. by made (x.builds (on.basis.lasts d e b.count h b.grown)) }
  where
    by : (made : Made A) → IsBuilt on e made → IsBuilt on d made
    by (Makes y f) c = further d e f b c
    by Fails c = tt

pub bind : {A B : Type 0} {on : Setting} (d : Draft) (made : Made A) (next : A → Draft → Made B) → Builds on d made → ((x : A) (e : Draft) → Builds on e (next x e)) → Builds on d (then_make made next)
unfolding IsBuilt then_make
bind {A} {B} {on} d made next m f = record { builds = λ h. by made h (m.builds h) }
  where
    by : (made : Made A) → on.basis.holds d → IsBuilt on d made → IsBuilt on d (then_make made next)
    by (Makes x e) h b = (behind d e (next x e) b (f x e)).builds h
    by Fails h b = tt

pub on_register : {B : Type 0} {on : Setting} (d : Draft) (v : Out) (next : ℕ → Made B) → ((r : ℕ) → Builds on d (next r)) → Builds on d (in_register v next)
unfolding in_register
on_register d (O.Scalar r) next f = f r
on_register d (O.Field g) next f = fails d
on_register d O.Nothing next f = fails d

pub on_field : {B : Type 0} {on : Setting} (d : Draft) (v : Out) (next : Field → Made B) → ((f : Field) → Builds on d (next f)) → Builds on d (in_field v next)
unfolding in_field
on_field d (O.Scalar r) next f = fails d
on_field d (O.Field g) next f = f g
on_field d O.Nothing next f = fails d

pub looked_up : {A B : Type 0} {on : Setting} (d : Draft) (o : Option A) (next : A → Made B) → ((x : A) → o ≡ Some x → Builds on d (next x)) → Builds on d (from o next)
unfolding from
looked_up d (Some x) next f = f x refl
looked_up d None next f = fails d

pub either : {A : Type 0} {on : Setting} (b : Bool) (d : Draft) (m n : Made A) → Builds on d m → Builds on d n → Builds on d (if b then m else n)
either true d m n f g = f
either false d m n f g = g

-- the same of what is appended alone
pub either_more : {w : Ways} (b : Bool) (d x y : Draft) → Grew w d x → Grew w d y → Grew w d (if b then x else y)
either_more true d x y f g = f
either_more false d x y f g = g

pub option : {A B : Type 0} {on : Setting} (o : Option A) (d : Draft) (m : A → Made B) (n : Made B) → ((x : A) → Builds on d (m x)) → Builds on d n → Builds on d (elim o as (λ _. Made B) [ Some x ↦ m x | None ↦ n ])
option (Some x) d m n f g = f x
option None d m n f g = g

-- fresh registers and entries
pub fresh_register : {on : Setting} (d e : Draft) → Built on d e → Builds on d (a_register e)
unfolding a_register IsBuilt GrowsOr
fresh_register {on} d e x = behind d e _ x (record { builds = λ h. record { count = 0; grown = (register_grows ⊥ e).1; wrote = nothing_written _ e _ refl } })

pub fresh_entry : {on : Setting} (set len : ℕ) (owner : Owner) (d e : Draft) → Built on d e → Builds on d (an_entry set len owner e)
unfolding an_entry IsBuilt GrowsOr
fresh_entry {on} set len owner d e x = behind d e _ x (record { builds = λ h. record { count = 0; grown = (entry_grows ⊥ set len owner e).1; wrote = nothing_written _ e _ refl } })

pub ruleset inner = (as_before, bind, either, either_more, fails, fresh_entry, fresh_register, looked_up, makes, more, more_step, on_field, on_register, option)

pub fresh : {on : Setting} (shape : Option ℕ) (bits : ℕ) (d e : Draft) → Built on d e → Builds on d (fresh_for shape bits e)
unfolding fresh_for
fresh None bits d e x = bind d _ _ (fresh_register d e x) (λ r e. makes _ e e (as_before e))
fresh (Some set) bits d e x = bind d _ _ (fresh_entry set bits _ d e x) (λ f e. makes _ e e (as_before e))

-- code that makes a value, whatever was before
abbrev pub IsInward : {A : Type 0} → Setting → (Draft → Made A) → Type 0
IsInward on code = (d e : Draft) → Built on d e → Builds on d (code e)

pub lowest_builds : {on : Setting} (bits : ℕ) (d : Draft) (made : Made Out) → Builds on d made → Builds on d (lowest bits made)
unfolding lowest
lowest_builds bits d made b = bind d made _ b (λ v e. makes _ e e (as_before e))
