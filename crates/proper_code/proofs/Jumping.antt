-- Jumps over code whose length is known stay within the code that is written.
use Rattle.std.proofs.Common.{◌≡◌, ℕ, ◌+◌, ◌<◌, ◌≤◌, ◌⊎◌, inl, inr, Bool, true, false, refl, sym, ◌∙◌, subst, arith}
use Rattle.paris_code.specs.declared.instr.Instr.{Instr}
use Rattle.paris_code.specs.declared.instr.Instr.TheVariants as I
use Rattle.lower_base.specs.declared.emit.Out.{Out}
use Rattle.lower_base.specs.declared.emit.Out.TheVariants as O
use Rattle.lower_base.specs.Drafts.{Draft, Step, Plain, Made, Makes, Fails, then_make, here, step, with_step, with_instr, in_register}
use Rattle.lower_expr.specs.Values.{jump_if_decided}
use Rattle.code_lengths.specs.Ready.{IsMadeOr}
use Rattle.code_lengths.specs.Growth.{Grows, GrowsOr}
use Rattle.code_lengths.proofs.Agreeing.{places}
use Rattle.code_lengths.proofs.Basis.{GrowsOn}
use Rattle.code_lengths.proofs.Drafting.{and_step, as_it_was}
use Rattle.proper_code.proofs.Stretches.{IsJump, IsNoCall, if_nonzero, if_zero, is_inward}
use Rattle.proper_code.proofs.Writing.{no_call_at_end, no_call_where, not_before, one_further}
use Rattle.proper_code.proofs.Building.{Setting, Builds, Built, Grew, IsBuilt, all_land, as_before, forward, further, jump_more, may_jump, more}

pub one_more : (i : Instr) (e : Draft) → here (with_instr i e) ≡ here e + 1
unfolding with_instr
one_more i e = one_further (step i) e

-- where jumps ahead may lead
abbrev pub To : ℕ → ℕ → Type 0
To place target = target ≡ place

pub jump_out : (on : Setting) (P : ℕ → Type 0) (s : Step) (target : ℕ) (d e : Draft) → IsJump s target → here e < target → P target → Grew (forward on P) d e → Grew (forward on P) d (with_step s e)
unfolding forward
jump_out on P s target d e j ahead p x = jump_more s target d e j (ahead, p) x

-- a jump to the end of what is written behind it
pub over : (on : Setting) (s : Step) (target : ℕ) (d c f : Draft) → IsJump s target → target ≡ here f → here c < target → Built on d c → Built on (with_step s c) f → Built on d f
over on s target d c f j is ahead b x =
    all_land on (To target) d f
    (λ place same. (omega (arith, is, same), subst (λ (n : ℕ). IsNoCall f.code n) (sym (same ∙ is)) (no_call_at_end f)))
    (further d (with_step s c) f (jump_out on (To target) s target d c j ahead refl (may_jump on (To target) d c b)) (may_jump on (To target) (with_step s c) f x))

-- the same, and another one from before the place where it leads
pub over_both : (on : Setting) (s r : Step) (first second : ℕ) (d c e f : Draft) → IsJump s first → IsJump r second → here c < first → here e < second → first ≡ here (with_step r e) → second ≡ here f →
    Built on d c → Built on (with_step s c) e → Built on (with_step r e) f → Built on d f
over_both on s r first second d c e f j k ahead later is end b x y =
    all_land on P d f lands
    (further d (with_step r e) f
    (jump_out on P r second d e k later (inr refl) (further d (with_step s c) e (jump_out on P s first d c j ahead (inl refl) (may_jump on P d c b)) (may_jump on P (with_step s c) e x)))
    (may_jump on P (with_step r e) f y))
  where
    P : ℕ → Type 0
    P target = (target ≡ first) ⊎ (target ≡ second)

    before_end : here (with_step r e) ≤ here f
    before_end = not_before _ (with_step r e) f y.wrote

    lands : (target : ℕ) → P target → (target ≤ here f) × IsNoCall f.code target
    lands target (inl same) = (omega (arith, same, is, before_end), subst (λ (n : ℕ). IsNoCall f.code n) (sym (same ∙ is)) (no_call_where _ (with_step r e) f y.wrote))
    lands target (inr same) = (omega (arith, same, end), subst (λ (n : ℕ). IsNoCall f.code n) (sym (same ∙ end)) (no_call_at_end f))

-- what is made has so many instructions
unfoldable pub IsMeasured : {A : Type 0} → Setting → ℕ → Draft → Made A → Type 0
IsMeasured on n d (Makes x e) = Built on d e × (here e ≡ here d + n)
IsMeasured on n d Fails = Unit {0}

pub record Measures {A : Type 0} (on : Setting) (n : ℕ) (d : Draft) (made : Made A) : Type 0 where
  pub measures : on.basis.holds d → IsMeasured on n d made

pub measured : {A : Type 0} {on : Setting} (P : A → Type 0) (n : ℕ) (d : Draft) (made : Made A) → GrowsOn on.basis d n P made → Builds on d made → Measures on n d made
unfolding GrowsOr IsBuilt IsMeasured
measured {A} {on} P n d made g b = record { measures = λ h. by made (g.grows h) (b.builds h) }
  where
    by : (made : Made A) → GrowsOr on.basis.lacks d n P made → IsBuilt on d made → IsMeasured on n d made
    by (Makes x e) g b = (b, places d e n g.1)
    by Fails g b = tt

-- what looks something up and writes nothing
pub measured_if_made : {A : Type 0} {on : Setting} (P : A → Type 0) (n : ℕ) (d : Draft) (made : Made A) → (IsMadeOr ⊥ made → Grows d n P made) → Builds on d made → Measures on n d made
unfolding GrowsOr IsBuilt IsMeasured IsMadeOr
measured_if_made {A} {on} P n d made g b = record { measures = λ h. by made g (b.builds h) }
  where
    by : (made : Made A) → (IsMadeOr ⊥ made → Grows d n P made) → IsBuilt on d made → IsMeasured on n d made
    by (Makes x e) g b = (b, places d e n (g tt).1)
    by Fails g b = tt

pub one_made : {A : Type 0} {on : Setting} (x : A) (i : Instr) (d : Draft) → is_inward (step i) ≡ true → Measures on 1 d (Makes x (with_instr i d))
unfolding IsMeasured
one_made x i d h = record { measures = λ _. (more i d d h (as_before d), one_more i d) }

pub none_made : {A : Type 0} {on : Setting} (x : A) (d : Draft) → Measures on 0 d (Makes x d)
unfolding IsMeasured
none_made x d = record { measures = λ _. (as_before d, omega arith) }

pub nothing_measured : {A : Type 0} {on : Setting} (n : ℕ) (d : Draft) → Measures {A = A} on n d Fails
unfolding IsMeasured
nothing_measured n d = record { measures = λ _. tt }

pub measured_bind : {A B : Type 0} {on : Setting} (a b : ℕ) (d : Draft) (made : Made A) (next : A → Draft → Made B) → Measures on a d made → ((x : A) (e : Draft) → here e ≡ here d + a → Measures on b e (next x e)) → Measures on (a + b) d (then_make made next)
unfolding IsMeasured then_make
measured_bind {A} {B} {on} a b d made next m f = record { measures = λ h. by made h (m.measures h) }
  where
    on_to : (e : Draft) (rest : Made B) → Built on d e → here e ≡ here d + a → IsMeasured on b e rest → IsMeasured on (a + b) d rest
    on_to e (Makes y g) x is z = (further d e g x z.0, (let c = z.1 in omega (arith, is, c)))
    on_to e Fails x is z = tt

    by : (made : Made A) → on.basis.holds d → IsMeasured on a d made → IsMeasured on (a + b) d (then_make made next)
    by (Makes x e) h z = on_to e (next x e) z.0 z.1 ((f x e z.1).measures (on.basis.lasts d e z.0.count h z.0.grown))
    by Fails h z = tt

pub measured_register : {B : Type 0} {on : Setting} (n : ℕ) (d : Draft) (v : Out) (next : ℕ → Made B) → ((r : ℕ) → Measures on n d (next r)) → Measures on n d (in_register v next)
unfolding in_register
measured_register n d (O.Scalar r) next f = f r
measured_register n d (O.Field g) next f = nothing_measured n d
measured_register n d O.Nothing next f = nothing_measured n d

pub measured_builds : {A : Type 0} {on : Setting} (n : ℕ) (d : Draft) (made : Made A) → Measures on n d made → Builds on d made
unfolding IsMeasured IsBuilt
measured_builds {A} {on} n d made m = record { builds = λ h. by made (m.measures h) }
  where
    by : (made : Made A) → IsMeasured on n d made → IsBuilt on d made
    by (Makes x e) z = z.0
    by Fails z = tt

-- a jump to the end of what is made behind it
pub jump_over : {A : Type 0} {on : Setting} (n : ℕ) (s : Step) (target : ℕ) (c : Draft) (made : Made A) → IsJump s target → target ≡ here c + 1 + n → Measures on n (with_step s c) made → Measures on (1 + n) c made
unfolding IsMeasured
jump_over {A} {on} n s target c made j is m = record { measures = λ h. by made (m.measures (on.basis.lasts c (with_step s c) 1 h (and_step s c c 0 (as_it_was c)))) }
  where
    by : (made : Made A) → IsMeasured on n (with_step s c) made → IsMeasured on (1 + n) c made
    by (Makes x f) z =
        let long = z.1 in
        let step = one_further s c in
        (over on s target c c f j (omega (arith, is, long, step)) (omega (arith, is)) (as_before c) z.0, omega (arith, long, step))
    by Fails z = tt

-- the jump by which a left operand decides
unfoldable pub deciding : Bool → ℕ → ℕ → Step
deciding true test target = Plain (I.FrontJumpNonzero test target)
deciding false test target = Plain (I.FrontJumpZero test target)

pub decides : (is_or : Bool) (test target : ℕ) (d : Draft) → jump_if_decided is_or test target d ≡ with_step (deciding is_or test target) d
unfolding deciding jump_if_decided with_instr step
decides true test target d = refl
decides false test target d = refl

pub deciding_jumps : (is_or : Bool) (test target : ℕ) → IsJump (deciding is_or test target) target
unfolding deciding
deciding_jumps true test target = if_nonzero test target
deciding_jumps false test target = if_zero test target

-- what is made in two steps and a third is made in one and two
pub regrouped : {A B C : Type 0} {on : Setting} (d : Draft) (made : Made A) (next : A → Draft → Made B) (last : B → Draft → Made C) → Builds on d (then_make made (λ x e. then_make (next x e) last)) → Builds on d (then_make (then_make made next) last)
unfolding then_make
regrouped d (Makes x e) next last b = b
regrouped d Fails next last b = b

pub regrouped_back : {A B C : Type 0} {on : Setting} (d : Draft) (made : Made A) (next : A → Draft → Made B) (last : B → Draft → Made C) → Builds on d (then_make (then_make made next) last) → Builds on d (then_make made (λ x e. then_make (next x e) last))
unfolding then_make
regrouped_back d (Makes x e) next last b = b
regrouped_back d Fails next last b = b
