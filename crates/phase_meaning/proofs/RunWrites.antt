-- The bits of a memory when a run of them is written at one processor.
use Rattle.std.proofs.Common.{◌≡◌, ◌≢◌, ℕ, ◌+◌, ◌-◌, ◌<◌, ◌≤◌, ◌⊎◌, Bool, true, false, ◌&&◌, cond, eqb, leb, ltb, sym, ◌∙◌, ap, inl, inr, refl}
use Rattle.std.specs.Int.{bit_at}
use Rattle.std.proofs.lemmas.Bool.{cases_lt, cases_eq, lt-ltb, le-ltb, le-leb, lt-leb, eq-eqb, ne_eqb}
use Rattle.paris_code.specs.declared.operands.Field.{Field}
use Rattle.paris_code.specs.Writes.{covers}

-- the bits of one processor of a set, when a run of them is written
pub run_written : (old new : ℕ → ℕ → ℕ) (at offset len n most : ℕ)
    → ((i : ℕ) → offset ≤ i → i < offset + len → new at i ≡ bit_at n (i - offset))
    → ((p i : ℕ) → i < most → (p ≢ at) ⊎ ((i < offset) ⊎ (offset + len ≤ i)) → new p i ≡ old p i)
    → (p i : ℕ) → i < most → new p i ≡ cond ((leb offset i && ltb i (offset + len)) && eqb p at) (bit_at n (i - offset)) (old p i)
run_written old new at offset len n most inside outside p i b =
    let choice : Bool → ℕ = λ t. cond t (bit_at n (i - offset)) (old p i) in
    elim (cases_eq p at) [
      | inr m ↦ outside p i b (inl m) ∙ sym (ap (λ t. choice ((leb offset i && ltb i (offset + len)) && t)) (ne_eqb p at m) ∙ ap choice (and_false (leb offset i && ltb i (offset + len))))
      | inl e ↦ elim (cases_lt i offset) [
        | inl l ↦ outside p i b (inr (inl l)) ∙ sym (ap (λ t. choice ((t && ltb i (offset + len)) && eqb p at)) (lt-leb offset i l))
        | inr g ↦ elim (cases_lt i (offset + len)) [
          | inr a ↦ outside p i b (inr (inr a)) ∙ sym (ap (λ t. choice ((leb offset i && t) && eqb p at)) (le-ltb i (offset + len) a) ∙ ap (λ t. choice (t && eqb p at)) (and_false (leb offset i)))
          | inl w ↦
              ap (λ q. new q i) e ∙ inside i g w
              ∙ sym (ap (λ t. choice ((t && ltb i (offset + len)) && eqb p at)) (le-leb offset i g) ∙ ap (λ t. choice ((true && t) && eqb p at)) (lt-ltb i (offset + len) w) ∙ ap (λ t. choice ((true && true) && t)) (eq-eqb p at e))
        ]
      ]
    ]
  where
    and_false : (t : Bool) → (t && false) ≡ false
    and_false true = refl
    and_false false = refl

-- the bits of all sets, when a run of one processor's is written
pub set_written : (olds news : ℕ → ℕ → ℕ → ℕ) (run : Field) (at n most : ℕ)
    → ((s p i : ℕ) → s ≢ run.set → news s p i ≡ olds s p i)
    → ((i : ℕ) → run.offset ≤ i → i < run.offset + run.len → news run.set at i ≡ bit_at n (i - run.offset))
    → ((p i : ℕ) → i < most → (p ≢ at) ⊎ ((i < run.offset) ⊎ (run.offset + run.len ≤ i)) → news run.set p i ≡ olds run.set p i)
    → (s p i : ℕ) → (s ≡ run.set → i < most) → news s p i ≡ cond (covers run s i && eqb p at) (bit_at n (i - run.offset)) (olds s p i)
unfolding covers
set_written olds news run at n most others inside outside s p i bound =
    let choice : Bool → ℕ = λ t. cond (t && eqb p at) (bit_at n (i - run.offset)) (olds s p i) in
    elim (cases_eq s run.set) [
      | inr m ↦ others s p i m ∙ sym (ap (λ t. choice (t && (leb run.offset i && ltb i (run.offset + run.len)))) (ne_eqb s run.set m))
      | inl e ↦
          ap (λ k. news k p i) e ∙ run_written (olds run.set) (news run.set) at run.offset run.len n most inside outside p i (bound e)
          ∙ sym (ap (λ t. choice (t && (leb run.offset i && ltb i (run.offset + run.len)))) (eq-eqb s run.set e)
          ∙ ap (λ k. cond ((leb run.offset i && ltb i (run.offset + run.len)) && eqb p at) (bit_at n (i - run.offset)) (olds k p i)) e)
    ]
