-- What code does where the source may end early: what is said of it holds where the source gives these numbers and
-- changes nothing, and else it ends as the source does.
use Rattle.std.proofs.Common.{◌≡◌, ◌∙◌, ℕ, refl, sym, ap, subst, ◌⊎◌, inl, inr}
use Rattle.lower_base.specs.Drafts.{Draft, Fails, Made, Makes, then_make}
use Rattle.paris_code.specs.Code.{CodeState}
use Rattle.cstar_tree.specs.declared.typed.TExpr.{TExpr}
use Rattle.source_meaning.specs.Expressions.{evaluated}
use Rattle.source_meaning.specs.State as Source
use Rattle.source_meaning.specs.State.{Early, Outcome, State, then_do}
use Rattle.source_meaning.specs.Values.{Parallel, Value}
use Rattle.code_follows.proofs.Following.{Extends, Finishes, Follows, finishes_later}
use Rattle.code_follows.proofs.Settings.{Reaches, Setting}
use Rattle.fields_follow.proofs.Places.{HoldsTheFields}
use Rattle.fields_follow.proofs.Passing.{After, after_weaker, made_after, then_after}

-- what an outcome gives, and how it ends
gives_value : {A : Type 0} (x y : A) (u w : State) → Source.Gives x u ≡ Source.Gives y w → x ≡ y
gives_value x y u w is = ap (λ (o : Outcome _). elim o as (λ _. _) [ Source.Gives z v ↦ z | Source.Ends early v ↦ x ]) is

gives_state : {A : Type 0} (x y : A) (u w : State) → Source.Gives x u ≡ Source.Gives y w → u ≡ w
gives_state x y u w is = ap (λ (o : Outcome _). elim o as (λ _. State) [ Source.Gives z v ↦ v | Source.Ends early v ↦ v ]) is

ends_early : {A : Type 0} (a b : Early) (u w : State) → ◌≡◌ {A = Outcome A} (Source.Ends a u) (Source.Ends b w) → a ≡ b
ends_early a b u w is = ap (λ (o : Outcome _). elim o as (λ _. Early) [ Source.Gives z v ↦ a | Source.Ends early v ↦ early ]) is

ends_state : {A : Type 0} (a b : Early) (u w : State) → ◌≡◌ {A = Outcome A} (Source.Ends a u) (Source.Ends b w) → u ≡ w
ends_state a b u w is = ap (λ (o : Outcome _). elim o as (λ _. State) [ Source.Gives z v ↦ v | Source.Ends early v ↦ v ]) is

module _ (g : Setting) where
  -- what an expression does in the source
  abbrev pub meant : HoldsTheFields g → TExpr → State → Outcome Value
  meant fields e st = evaluated fields.scope e fields.active st

  -- the source ends early, and from this state the code does so too
  pub record Ended {A : Type 0} (s : CodeState) (o : Outcome A) : Type 0 where
    pub early : Early
    pub state : State
    pub is : o ≡ Source.Ends early state
    pub finishes : Finishes g early state s

  -- where the source gives these numbers and changes nothing, this is said
  abbrev pub Given : {B : Type 0} → (ℕ → ℕ) → State → (B → Draft → Type 0) → Value → State → B → Draft → Type 0
  Given v st R x u y e = (x ≡ Parallel v) × (u ≡ st) × R y e

  -- it does so, or both end early
  abbrev pub Known : {B : Type 0} → CodeState → Outcome Value → (ℕ → ℕ) → State → (B → Draft → Type 0) → B → Draft → Type 0
  Known s o v st R y e = ((o ≡ Source.Gives (Parallel v) st) × R y e) ⊎ Ended s o

  -- what is said where this is given, and where it ends early, is what code does
  pub outcome_follows : {A B : Type 0} (s : CodeState) (o : Outcome A) (x : A) (u : State) (R : B → Draft → Type 0) (Q : A → State → B → Draft → Type 0) (made : Made B) → ((y : B) (e : Draft) → R y e → Q x u y e) → After g (λ y e. ((o ≡ Source.Gives x u) × R y e) ⊎ Ended s o) made → Follows g Q s o made
  unfolding After Follows
  outcome_follows {A = A} s (Source.Gives z w) x u R Q (Makes y e) so h = λ within. by (h within)
    where
      by : (◌≡◌ {A = Outcome A} (Source.Gives z w) (Source.Gives x u) × R y e) ⊎ Ended {A = A} s (Source.Gives z w) → Q z w y e
      by (inl (is, said)) = subst (λ (t : State). Q z t y e) (sym (gives_state z x w u is)) (subst (λ (a : A). Q a u y e) (sym (gives_value z x w u is)) (so y e said))
      by (inr ended) = let wrong = ended.is in cc
  outcome_follows {A = A} s (Source.Ends early w) x u R Q (Makes y e) so h = λ within. by (h within)
    where
      by : (◌≡◌ {A = Outcome A} (Source.Ends early w) (Source.Gives x u) × R y e) ⊎ Ended {A = A} s (Source.Ends early w) → Finishes g early w s
      by (inl (is, said)) = let wrong = is in cc
      by (inr ended) =
          subst (λ (a : Early). Finishes g a w s) (sym (ends_early early ended.early w ended.state ended.is))
          (subst (λ (t : State). Finishes g ended.early t s) (sym (ends_state early ended.early w ended.state ended.is)) ended.finishes)
  outcome_follows s (Source.Gives z w) x u R Q Fails so h = tt
  outcome_follows s (Source.Ends early w) x u R Q Fails so h = tt

  pub known_follows : {B : Type 0} (s : CodeState) (o : Outcome Value) (v : ℕ → ℕ) (st : State) (R : B → Draft → Type 0) (made : Made B) → After g (Known s o v st R) made → Follows g (Given v st R) s o made
  known_follows s o v st R made h = outcome_follows s o (Parallel v) st R (Given v st R) made (λ y e said. (refl, refl, said)) h

  -- and so it is of all that code does
  pub follows_outcome : {A B : Type 0} (s : CodeState) (o : Outcome A) (R : A → State → B → Draft → Type 0) (made : Made B) → Follows g R s o made → After g (λ y e. ((x : A) × ((u : State) × ((o ≡ Source.Gives x u) × R x u y e))) ⊎ Ended s o) made
  unfolding After Follows
  follows_outcome s (Source.Gives x u) R (Makes y e) h = λ w. inl (x, (u, (refl, h w)))
  follows_outcome s (Source.Ends early u) R (Makes y e) h = λ w. inr (record { early = early; state = u; is = refl; finishes = h w })
  follows_outcome s (Source.Gives x u) R Fails h = tt
  follows_outcome s (Source.Ends early u) R Fails h = tt

  pub follows_known : {B : Type 0} (s : CodeState) (o : Outcome Value) (v : ℕ → ℕ) (st : State) (R : B → Draft → Type 0) (made : Made B) → Follows g (Given v st R) s o made → After g (Known s o v st R) made
  follows_known s o v st R made h =
      after_weaker g (λ y e. ((x : Value) × ((u : State) × ((o ≡ Source.Gives x u) × Given v st R x u y e))) ⊎ Ended s o) (Known s o v st R) made (λ y e so. by y e so) (follows_outcome s o (Given v st R) made h)
    where
      by : (y : _) (e : Draft) → ((x : Value) × ((u : State) × ((o ≡ Source.Gives x u) × Given v st R x u y e))) ⊎ Ended s o → Known s o v st R y e
      by y e (inl (x, (u, (is, given)))) = inl (is ∙ ap (λ (z : Value). Source.Gives z u) given.0 ∙ ap (λ (t : State). Source.Gives (Parallel v) t) given.1, given.2)
      by y e (inr early) = inr early

  -- what always holds is said of any code
  pub after_all : {B : Type 0} (Q : B → Draft → Type 0) (made : Made B) → ((y : B) (e : Draft) → Q y e) → After g Q made
  unfolding After
  after_all Q (Makes y e) h = λ w. h y e
  after_all Q Fails h = tt

  -- a part that may end early, and another
  pub then_outcome : {A B C : Type 0} (s : CodeState) (o : Outcome A) (R : A → State → B → Draft → Type 0) (Q : C → Draft → Type 0) (made : Made B) (next : B → Draft → Made C) → Follows g R s o made → ((y : B) (e : Draft) → Extends g e (next y e))
      → ((x : A) (u : State) → o ≡ Source.Gives x u → (y : B) (e : Draft) → R x u y e → After g Q (next y e)) → (Ended s o → (z : C) (e : Draft) → Q z e) → After g Q (then_make made next)
  then_outcome {A = A} s o R Q made next follows grows given ended = then_after g (λ y e. ((x : A) × ((u : State) × ((o ≡ Source.Gives x u) × R x u y e))) ⊎ Ended s o) Q made next (follows_outcome s o R made follows) grows (λ y e so. by y e so)
    where
      by : (y : _) (e : Draft) → ((x : A) × ((u : State) × ((o ≡ Source.Gives x u) × R x u y e))) ⊎ Ended s o → After g Q (next y e)
      by y e (inl (x, (u, (is, said)))) = given x u is y e said
      by y e (inr early) = after_all Q (next y e) (λ z f. ended early z f)

  pub then_known : {B C : Type 0} (s : CodeState) (o : Outcome Value) (v : ℕ → ℕ) (st : State) (R : B → Draft → Type 0) (Q : C → Draft → Type 0) (made : Made B) (next : B → Draft → Made C) → Follows g (Given v st R) s o made → ((y : B) (e : Draft) → Extends g e (next y e))
      → (o ≡ Source.Gives (Parallel v) st → (y : B) (e : Draft) → R y e → After g Q (next y e)) → (Ended s o → (z : C) (e : Draft) → Q z e) → After g Q (then_make made next)
  then_known s o v st R Q made next follows grows given ended =
      then_outcome s o (Given v st R) Q made next follows grows (λ x u is y e so. given (is ∙ ap (λ (z : Value). Source.Gives z u) so.0 ∙ ap (λ (t : State). Source.Gives (Parallel v) t) so.1) y e so.2) ended

  -- what is said where the source gives them for sure
  pub given_follows : {B : Type 0} (s : CodeState) (o : Outcome Value) (v : ℕ → ℕ) (st : State) (R : B → Draft → Type 0) (made : Made B) → o ≡ Source.Gives (Parallel v) st → After g R made → Follows g (Given v st R) s o made
  given_follows s o v st R made is h = known_follows s o v st R made (after_weaker g R (Known s o v st R) made (λ y e said. inl (is, said)) h)

  pub follows_given : {B : Type 0} (s : CodeState) (o : Outcome Value) (v : ℕ → ℕ) (st : State) (R : B → Draft → Type 0) (made : Made B) → o ≡ Source.Gives (Parallel v) st → Follows g (Given v st R) s o made → After g R made
  follows_given s o v st R made is h = after_weaker g (Known s o v st R) R made (λ y e known. by y e known) (follows_known s o v st R made h)
    where
      by : (y : _) (e : Draft) → Known s o v st R y e → R y e
      by y e (inl (_, said)) = said
      by y e (inr early) = let wrong = sym is ∙ early.is in cc

  -- it says less
  pub given_weaker : {B : Type 0} (s : CodeState) (o : Outcome Value) (v : ℕ → ℕ) (st : State) (R Q : B → Draft → Type 0) (made : Made B) → ((y : B) (e : Draft) → R y e → Q y e) → Follows g (Given v st R) s o made → Follows g (Given v st Q) s o made
  given_weaker s o v st R Q made less h = known_follows s o v st Q made (after_weaker g (Known s o v st R) (Known s o v st Q) made (λ y e known. by y e known) (follows_known s o v st R made h))
    where
      by : (y : _) (e : Draft) → Known s o v st R y e → Known s o v st Q y e
      by y e (inl (is, said)) = inl (is, less y e said)
      by y e (inr early) = inr early

  -- another outcome that is so where this is
  pub outcome_like : {A B : Type 0} (s : CodeState) (o : Outcome Value) (v : ℕ → ℕ) (st : State) (other : Outcome A) (x : A) (u : State) (R : B → Draft → Type 0) (Q : A → State → B → Draft → Type 0) (made : Made B) → (o ≡ Source.Gives (Parallel v) st → other ≡ Source.Gives x u) → (Ended s o → Ended s other)
      → ((y : B) (e : Draft) → R y e → Q x u y e) → Follows g (Given v st R) s o made → Follows g Q s other made
  outcome_like s o v st other x u R Q made gives ends less h =
      outcome_follows s other x u R Q made less (after_weaker g (Known s o v st R) (λ y e. ((other ≡ Source.Gives x u) × R y e) ⊎ Ended s other) made (λ y e known. by y e known) (follows_known s o v st R made h))
    where
      by : (y : _) (e : Draft) → Known s o v st R y e → ((other ≡ Source.Gives x u) × R y e) ⊎ Ended s other
      by y e (inl (is, said)) = inl (gives is, said)
      by y e (inr early) = inr (ends early)

  pub follows_like : {B : Type 0} (s : CodeState) (o other : Outcome Value) (v w : ℕ → ℕ) (st : State) (R Q : B → Draft → Type 0) (made : Made B) → (o ≡ Source.Gives (Parallel v) st → other ≡ Source.Gives (Parallel w) st) → (Ended s o → Ended s other) → ((y : B) (e : Draft) → R y e → Q y e)
      → Follows g (Given v st R) s o made → Follows g (Given w st Q) s other made
  follows_like s o other v w st R Q made gives ends less h = outcome_like s o v st other (Parallel w) st R (Given w st Q) made gives ends (λ y e said. (refl, refl, less y e said)) h

  -- where both end, whatever is said
  pub ended_follows : {A B : Type 0} (R : A → State → B → Draft → Type 0) (s : CodeState) (o : Outcome A) (made : Made B) → Ended s o → Follows g R s o made
  unfolding Follows
  ended_follows R s o made ended = subst (λ (x : Outcome _). Follows g R s x made) (sym ended.is) (by made)
    where
      by : (made : Made _) → Follows g R s (Source.Ends ended.early ended.state) made
      by (Makes y e) = λ within. ended.finishes
      by Fails = tt

  -- what comes behind it ends too
  pub ended_on : {A B : Type 0} (s : CodeState) (o : Outcome A) (k : A → State → Outcome B) → Ended s o → Ended s (then_do o k)
  unfolding then_do
  ended_on s o k ended = record { early = ended.early; state = ended.state; is = ap (λ (x : Outcome _). then_do x k) ended.is; finishes = ended.finishes }

  -- and from a state that the code reaches
  pub ended_back : {A : Type 0} (s t : CodeState) (o : Outcome A) → Reaches g s t → Ended t o → Ended s o
  ended_back s t o go ended = record { early = ended.early; state = ended.state; is = ended.is; finishes = finishes_later g ended.early ended.state s t go ended.finishes }

  -- code behind it of which this is said, whatever the part is
  pub given_through : {B C : Type 0} (s : CodeState) (o : Outcome Value) (v : ℕ → ℕ) (st : State) (R : B → Draft → Type 0) (Q : C → Draft → Type 0) (made : Made B) (next : B → Draft → Made C) → ((y : B) (e : Draft) → Extends g e (next y e)) → ((part : Made B) → After g R part → After g Q (then_make part next))
      → Follows g (Given v st R) s o made → Follows g (Given v st Q) s o (then_make made next)
  unfolding then_make
  given_through s o v st R Q made next grows through h =
      known_follows s o v st Q (then_make made next)
      (then_known s o v st R (Known s o v st Q) made next h grows (λ is y e said. after_weaker g Q (Known s o v st Q) (next y e) (λ z f more. inl (is, more)) (through (Makes y e) (made_after g R y e (λ w. said)))) (λ early z e. inr early))
