-- Code of statements: its jumps may lead out of it, to where a loop goes on or ends.
use Rattle.std.proofs.Common.{◌≡◌, ℕ, ◌+◌, ◌<◌, ◌≤◌, ◌⊎◌, inl, inr, Bool, true, List, [], ◌∷◌, ◌++◌, length, slice_get, Some, refl, sym, ap, ◌∙◌, subst, arith, if◌then◌else◌}
use Rattle.std.proofs.lemmas.Option.{slice_get_within}
use Rattle.cstar_tree.specs.declared.typed.Instance.{Instance}
use Rattle.cstar_tree.specs.declared.typed.Typed.{Typed}
use Rattle.paris_code.specs.declared.instr.Instr.{Instr}
use Rattle.paris_code.specs.declared.instr.Instr.TheVariants as I
use Rattle.lower_base.specs.Drafts.{Draft, Step, Plain, Made, Makes, Fails, then_make, here, step, with_step, with_instr}
use Rattle.lower_base.specs.Layouts.{Layout}
use Rattle.code_lengths.specs.Growth.{Extended, Grows, GrowsOr, Leads, with_homes}
use Rattle.code_lengths.specs.Ready.{Declares, HasDeclared, IsReady}
use Rattle.code_lengths.proofs.Agreeing.{places}
use Rattle.code_lengths.proofs.Basis.{ready}
use Rattle.proper_code.specs.Control.{Stands}
use Rattle.proper_code.proofs.Stretches.{IsJump, IsNoCall, Ways, at_first, is_inward}
use Rattle.proper_code.proofs.Writing.{Lands, Wrote, jump_written, lands_ahead, no_call_at_end, no_call_where, not_before, shut, step_written, written_on}
use Rattle.proper_code.proofs.Building.{Builds, Built, IsBuilt, inward}
use Rattle.proper_code.proofs.ExpressionControl.{within}

-- the step that ends the unit
abbrev pub end_of : Bool → Step
end_of is_main = Plain (if is_main then I.FrontHalt else I.FrontReturn)

-- jumps lead ahead to some places, and to some back; the instances of the program are called, and the unit
-- has its end
unfoldable pub passing : Typed → Bool → (ℕ → Type 0) → (ℕ → Type 0) → Ways
passing t is_main P back = record {
  leads = λ from target. ((from < target) × P target) ⊎ back target;
  calls = λ unit. unit < length t.instances.items;
  ends = λ s. s ≡ end_of is_main;
}

-- the code of expressions does nothing of that
pub of_expression : (t : Typed) (i : Instance) (l : Layout) (n : ℕ) (is_main : Bool) (P back : ℕ → Type 0) (d e : Draft) → Built (within t i l n) d e → Wrote (passing t is_main P back) d e
unfolding passing inward
of_expression t i l n is_main P back d e b = shut _ (passing t is_main P back) d e (λ from target h no. absurd no) (λ unit c. c) (λ s no. absurd no) b.wrote

-- places where more jumps lead lie in what is written
pub places_within : (t : Typed) (is_main : Bool) (P Q back turns : ℕ → Type 0) (d e : Draft) → ((target : ℕ) → Q target → (target ≤ here e) × IsNoCall e.code target) → ((target : ℕ) → turns target → (here d ≤ target) × Stands e.code target (Plain I.FrontTurn)) →
    Wrote (passing t is_main (λ target. P target ⊎ Q target) (λ target. back target ⊎ turns target)) d e → Wrote (passing t is_main P back) d e
unfolding passing here
places_within t is_main P Q back turns d e ahead behind x =
    shut _ (passing t is_main P back) d e leads (λ unit c. c) (λ s h. h) x
  where
    W : Ways
    W = passing t is_main P back

    turned : (from target : ℕ) → Stands e.code target (Plain I.FrontTurn) → Lands e from target
    turned from target is = record {
      within = let h = slice_get_within e.code target _ is in omega (arith, h);
      no_call = λ unit call. no_turn (sym call ∙ is);
      back = λ _. is;
    }
      where
        no_turn : {unit : ℕ} → Some (Plain (I.FrontCall unit)) ≡ Some (Plain I.FrontTurn) → ⊥
        no_turn h = cc

    leads : (from target : ℕ) → here d ≤ from → ((from < target) × (P target ⊎ Q target)) ⊎ (back target ⊎ turns target) → (((from < target) × P target) ⊎ back target) ⊎ ((here d ≤ target) × Lands e from target)
    leads from target h (inl (a, inl p)) = inl (inl (a, p))
    leads from target h (inl (a, inr q)) = let l = ahead target q in inr (omega (arith, h, a), lands_ahead e from target a l.0 l.1)
    leads from target h (inr (inl b)) = inl (inr b)
    leads from target h (inr (inr b)) = let l = behind target b in inr (l.0, turned from target l.1)

-- what is made is written by such ways
unfoldable pub IsWritten : {A : Type 0} → Ways → Draft → Made A → Type 0
IsWritten w d (Makes x e) = Wrote w d e
IsWritten w d Fails = Unit {0}

pub rebased : {A : Type 0} (w : Ways) (d c : Draft) (made : Made A) → Wrote w d c → IsWritten w c made → IsWritten w d made
unfolding IsWritten
rebased w d c (Makes x e) a b = written_on w d c e a b
rebased w d c Fails a b = tt

pub made_so : {A : Type 0} (w : Ways) (x : A) (d e : Draft) → Wrote w d e → IsWritten w d (Makes x e)
unfolding IsWritten
made_so w x d e b = b

-- a piece of code, and then the rest, by whatever ways
pub written_then : {A B : Type 0} (v w : Ways) (c d : Draft) (made : Made A) (next : A → Draft → Made B) → IsWritten v c made → ((x : A) (e : Draft) → Wrote v c e → IsWritten w d (next x e)) → IsWritten w d (then_make made next)
unfolding IsWritten then_make
written_then v w c d (Makes x e) next m f = f x e m
written_then v w c d Fails next m f = tt

-- code of an expression, of a known length or not
pub measured_then : {A B : Type 0} (t : Typed) (i : Instance) (l : Layout) (k n : ℕ) (is_main : Bool) (P back : ℕ → Type 0) (w : Ways) (passes : A → Type 0) (c d b : Draft) (made : Made A) (next : A → Draft → Made B) → IsReady t i l k d → Grows d n passes made → Builds (within t i l k) d made →
    Wrote (passing t is_main P back) c d → ((x : A) (e : Draft) → Extended d n e → here e ≡ here d + n → Wrote (passing t is_main P back) c e → IsWritten w b (next x e)) → IsWritten w b (then_make made next)
unfolding GrowsOr IsWritten IsBuilt then_make ready
measured_then {A} {B} t i l k n is_main P back w passes c d b made next known g x before f = by made g (x.builds known)
  where
    by : (made : Made A) → Grows d n passes made → IsBuilt (within t i l k) d made → IsWritten w b (then_make made next)
    by (Makes y e) g built = f y e g.1 (places d e n g.1) (written_on _ c d e before (of_expression t i l k is_main P back d e built))
    by Fails g built = tt

pub expression_then : {A B : Type 0} (t : Typed) (i : Instance) (l : Layout) (k : ℕ) (is_main : Bool) (P back : ℕ → Type 0) (w : Ways) (c d b : Draft) (made : Made A) (next : A → Draft → Made B) → IsReady t i l k d → Builds (within t i l k) d made →
    Wrote (passing t is_main P back) c d → ((x : A) (e : Draft) → Wrote (passing t is_main P back) c e → IsWritten w b (next x e)) → IsWritten w b (then_make made next)
unfolding IsWritten IsBuilt then_make ready
expression_then {A} {B} t i l k is_main P back w c d b made next known x before f = by made (x.builds known)
  where
    by : (made : Made A) → IsBuilt (within t i l k) d made → IsWritten w b (then_make made next)
    by (Makes y e) built = f y e (written_on _ c d e before (of_expression t i l k is_main P back d e built))
    by Fails built = tt

-- code that is as long as described, and of which something is known behind it, and then the rest
pub leads_then : {A B : Type 0} (known : A → Draft → Type 0) (n : ℕ) (v w : Ways) (c d b : Draft) (made : Made A) (next : A → Draft → Made B) → Leads d n known made → IsWritten v c made →
    ((x : A) (e : Draft) → known x e → here e ≡ here d + n → Wrote v c e → IsWritten w b (next x e)) → IsWritten w b (then_make made next)
unfolding Leads IsWritten then_make here
leads_then known n v w c d b (Makes x e) next g m f = f x e g.0 (places (with_homes g.1.0 d) e n g.1.1) m
leads_then known n v w c d b Fails next g m f = tt

-- a statement
pub statement_then : {B : Type 0} (t : Typed) (i : Instance) (l : Layout) (k n : ℕ) (v w : Ways) (c d b : Draft) (made : Made ℕ) (next : ℕ → Draft → Made B) → Leads d n (Declares t i l k) made → IsWritten v c made →
    ((e : Draft) → HasDeclared t i l k e → here e ≡ here d + n → Wrote v c e → IsWritten w b (next k e)) → IsWritten w b (then_make made next)
statement_then t i l k n v w c d b made next g m f =
    leads_then (Declares t i l k) n v w c d b made next g m (λ x e known is x1. subst (λ (j : ℕ). IsWritten w b (next j e)) (sym known.0) (f e known.1 is x1))

-- instructions
pub instr_written : (w : Ways) (i : Instr) (d e : Draft) → is_inward (step i) ≡ true → Wrote w d e → Wrote w d (with_instr i e)
unfolding with_instr
instr_written w i d e h x = step_written w (step i) d e h x

-- what stands stays there
pub stands_still : (w : Ways) (d e : Draft) (k : ℕ) (s : Step) → Wrote w d e → Stands d.code k s → Stands e.code k s
stands_still w d e k s x is =
    ap (λ (code : List Step). slice_get code k) x.code ∙ at_first d.code x.more k (slice_get_within d.code k s is) ∙ is

pub stands_last : (s : Step) (d : Draft) → Stands (with_step s d).code (here d) s
unfolding with_step here
stands_last s d = last d.code
  where
    last : (code : List Step) → slice_get (code ++ s ∷ []) (length code) ≡ Some s
    last [] = refl
    last (x ∷ code) = last code

-- more jumps are allowed
pub also_to : (t : Typed) (is_main : Bool) (P Q back turns : ℕ → Type 0) (d e : Draft) → Wrote (passing t is_main P back) d e → Wrote (passing t is_main (λ target. P target ⊎ Q target) (λ target. back target ⊎ turns target)) d e
unfolding passing
also_to t is_main P Q back turns d e x = shut _ (passing t is_main (λ target. P target ⊎ Q target) (λ target. back target ⊎ turns target)) d e leads (λ unit c. c) (λ s h. h) x
  where
    leads : (from target : ℕ) → here d ≤ from → ((from < target) × P target) ⊎ back target → (((from < target) × (P target ⊎ Q target)) ⊎ (back target ⊎ turns target)) ⊎ ((here d ≤ target) × Lands e from target)
    leads from target h (inl out) = inl (inl (out.0, inl out.1))
    leads from target h (inr b) = inl (inr (inl b))

pub jump_ahead : (t : Typed) (is_main : Bool) (P back : ℕ → Type 0) (s : Step) (target : ℕ) (d e : Draft) → IsJump s target → here e < target → P target → Wrote (passing t is_main P back) d e → Wrote (passing t is_main P back) d (with_step s e)
unfolding passing
jump_ahead t is_main P back s target d e j far p x = jump_written (passing t is_main P back) s target d e j (inl (far, p)) x

pub jump_back : (t : Typed) (is_main : Bool) (P back : ℕ → Type 0) (s : Step) (target : ℕ) (d e : Draft) → IsJump s target → back target → Wrote (passing t is_main P back) d e → Wrote (passing t is_main P back) d (with_step s e)
unfolding passing
jump_back t is_main P back s target d e j b x = jump_written (passing t is_main P back) s target d e j (inr b) x

-- where code ends, and where it begins
pub ends_there : (e : Draft) (target : ℕ) → target ≡ here e → (target ≤ here e) × IsNoCall e.code target
ends_there e target is = (omega (arith, is), subst (λ (n : ℕ). IsNoCall e.code n) (sym is) (no_call_at_end e))

pub starts_there : (w : Ways) (c e : Draft) (target : ℕ) → target ≡ here c → Wrote w c e → (target ≤ here e) × IsNoCall e.code target
starts_there w c e target is x = let h = not_before w c e x in (omega (arith, is, h), subst (λ (n : ℕ). IsNoCall e.code n) (sym is) (no_call_where w c e x))

pub regrouped_written : {A B C : Type 0} (w : Ways) (d : Draft) (made : Made A) (next : A → Draft → Made B) (last : B → Draft → Made C) → IsWritten w d (then_make made (λ x e. then_make (next x e) last)) → IsWritten w d (then_make (then_make made next) last)
unfolding then_make
regrouped_written w d (Makes x e) next last b = b
regrouped_written w d Fails next last b = b

-- the same of all that is made
pub leads_to : {A : Type 0} (known : A → Draft → Type 0) (n : ℕ) (v w : Ways) (c d b : Draft) (made : Made A) → Leads d n known made → IsWritten v c made → ((e : Draft) → here e ≡ here d + n → Wrote v c e → Wrote w b e) → IsWritten w b made
unfolding Leads IsWritten here
leads_to known n v w c d b (Makes x e) g m f = f e (places (with_homes g.1.0 d) e n g.1.1) m
leads_to known n v w c d b Fails g m f = tt
