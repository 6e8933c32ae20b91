-- A token that the open parts refuse is hopeless: no text of the grammar begins with the tokens up to it.
use Rattle.std.proofs.Common.{◌≡◌, ℕ, zero, suc, ◌+◌, ◌≤◌, ◌<◌, Bool, true, false, List, [], ◌∷◌, ◌++◌, if◌then◌else◌, take, Option, Some, None, arith, refl, sym, ap, subst, ◌∙◌}
use Rattle.std.proofs.lemmas.List.{append_assoc}
use Rattle.std.specs.Option.{option_map}
use Rattle.cstar_tree.specs.declared.token.Token.{Token}
use Rattle.cstar_tree.specs.declared.token.Kind.{Kind}
use Rattle.grammar_parts.specs.Hope.{HasHope, kinds}
use Rattle.grammar_parts.specs.Parts.{Part, Action, take_it, enter, skip, refuse}
use Rattle.grammar_parts.specs.Parts as P
use Rattle.grammar_parts.specs.Actions.{act}
use Rattle.grammar_parts.specs.Readings.{entered, fate, may_end, reach, step, stepped}
use Rattle.grammar_parts.specs.Verdicts.{State, Verdict, around, depth_at, entering, inner_step, is_deep, next, outer_step, read, start, syntax_at, verdict, verdict_at, within}
use Rattle.grammar_parts.proofs.Reaching.{next_fate, no_fate, none_is, some_is}
use Rattle.grammar_parts.proofs.ReadItems.{read_text}

-- all the parts that are open, without the counts
abbrev flat : Option State → Option (List Part)
flat o = option_map (λ (s : State). s.inside ++ s.outside) o

flat_entering : (a : Action) (outside : List Part) → flat (entering a outside) ≡ entered a outside
flat_entering (take_it n parts) outside = refl
flat_entering (enter p parts) outside = refl
flat_entering skip outside = refl
flat_entering refuse outside = refl

flat_outer : (outside : List Part) (kind : Kind) → flat (outer_step outside kind) ≡ step outside kind
unfolding outer_step step
flat_outer [] kind = refl
flat_outer (p ∷ outside) kind = by (flat_outer outside kind) (act p (Some kind)) where
  by : flat (outer_step outside kind) ≡ step outside kind → (a : Action) → flat (around a kind outside (outer_step outside kind)) ≡ stepped a kind outside (step outside kind)
  by more (take_it n parts) = refl
  by more (enter q parts) = flat_entering (act q (Some kind)) (parts ++ outside)
  by more skip = more
  by more refuse = refl

flat_inner : (inside : List Part) (n : ℕ) (outside : List Part) (kind : Kind) → flat (inner_step inside n outside kind) ≡ step (inside ++ outside) kind
unfolding inner_step step
flat_inner [] n outside kind = flat_outer outside kind
flat_inner (p ∷ inside) n outside kind = by (flat_inner inside n outside kind) (act p (Some kind)) where
  by : flat (inner_step inside n outside kind) ≡ step (inside ++ outside) kind → (a : Action) → flat (within a kind inside n outside (inner_step inside n outside kind)) ≡ stepped a kind (inside ++ outside) (step (inside ++ outside) kind)
  by more (take_it m parts) = ap Some (append_assoc parts inside outside)
  by more (enter q parts) = flat_entering (act q (Some kind)) (parts ++ (inside ++ outside))
  by more skip = more
  by more refuse = refl

pub step_some : (s t : State) (kind : Kind) → next s kind ≡ Some t → step (s.inside ++ s.outside) kind ≡ Some (t.inside ++ t.outside)
step_some s t kind h = sym (flat_inner s.inside s.operators s.outside kind) ∙ ap flat h

step_none : (s : State) (kind : Kind) → next s kind ≡ None → step (s.inside ++ s.outside) kind ≡ None
step_none s kind h = sym (flat_inner s.inside s.operators s.outside kind) ∙ ap flat h

syntax_of : Verdict → Option ℕ
syntax_of (syntax_at k) = Some k
syntax_of _ = None

-- the token at which the verdict is one of syntax is the first that the open parts refuse
syntax_fate : (ks : List Kind) (at : ℕ) (s : State) (k : ℕ) → syntax_of (verdict ks at s) ≡ Some k → fate ks at (s.inside ++ s.outside) ≡ Some k
unfolding verdict fate syntax_of
syntax_fate [] at s k h = by (may_end (s.inside ++ s.outside)) h where
  by : (b : Bool) → syntax_of (if b then read else syntax_at at) ≡ Some k → (if b then None else Some at) ≡ Some k
  by true e = e
  by false e = e
syntax_fate (kind ∷ ks) at s k h = by (λ t. syntax_fate ks (at + 1) t k) (next s kind) refl h where
  deep : (t : State) (b : Bool) → syntax_of (if b then depth_at at else verdict ks (at + 1) t) ≡ Some k → syntax_of (verdict ks (at + 1) t) ≡ Some k
  deep t true e = absurd (none_is e)
  deep t false e = e

  by : ((t : State) → syntax_of (verdict ks (at + 1) t) ≡ Some k → fate ks (at + 1) (t.inside ++ t.outside) ≡ Some k) → (o : Option State) → next s kind ≡ o → syntax_of (elim o [ None ↦ syntax_at at | Some t ↦ if is_deep t then depth_at at else verdict ks (at + 1) t ]) ≡ Some k → fate (kind ∷ ks) at (s.inside ++ s.outside) ≡ Some k
  by more None e v = no_fate ks at kind (s.inside ++ s.outside) (step_none s kind e) ∙ v
  by more (Some t) e v = next_fate ks at kind (s.inside ++ s.outside) (t.inside ++ t.outside) (step_some s t kind e) ∙ more t (deep t (is_deep t) v)

-- a refusal rests on the tokens up to it alone
fate_least : (ks : List Kind) (at : ℕ) (s : List Part) (k : ℕ) → fate ks at s ≡ Some k → at ≤ k
unfolding fate
fate_least [] at s k h = by (may_end s) h where
  by : (b : Bool) → (if b then None else Some at) ≡ Some k → at ≤ k
  by true e = absurd (none_is e)
  by false e = let same = some_is e in omega arith
fate_least (kind ∷ ks) at s k h = by (λ t. fate_least ks (at + 1) t k) (step s kind) h where
  by : ((t : List Part) → fate ks (at + 1) t ≡ Some k → at + 1 ≤ k) → (o : Option (List Part)) → elim o [ Some t ↦ fate ks (at + 1) t | None ↦ Some at ] ≡ Some k → at ≤ k
  by more None e = let same = some_is e in omega arith
  by more (Some t) e = let behind = more t e in omega arith

head_or : {A : Type 0} → A → List A → A
head_or x [] = x
head_or x (y ∷ ys) = y

IsEmpty : (A : Type 0) → List A → Type 0
IsEmpty A [] = Unit {0}
IsEmpty A (x ∷ xs) = ⊥

tail_of : {A : Type 0} → List A → List A
tail_of [] = []
tail_of (x ∷ xs) = xs

fate_same : (ks others : List Kind) (at n : ℕ) (s : List Part) (k : ℕ) → fate ks at s ≡ Some k → k < at + n → take n others ≡ take n ks → fate others at s ≡ Some k
unfolding fate head_or IsEmpty tail_of
fate_same ks others at zero s k h below same = absurd (let least = fate_least ks at s k h in omega arith)
fate_same [] [] at (suc n) s k h below same = h
fate_same [] (o ∷ os) at (suc n) s k h below same = absurd (subst {0, 0} (IsEmpty Kind) (sym same) tt)
fate_same (kind ∷ ks) [] at (suc n) s k h below same = absurd (subst {0, 0} (IsEmpty Kind) same tt)
fate_same (kind ∷ ks) (o ∷ os) at (suc n) s k h below same = by (λ t v. fate_same ks os (at + 1) n t k v (omega arith) (ap tail_of same)) (step s kind) refl h where
  first : o ≡ kind
  first = ap (head_or kind) same

  by : ((t : List Part) → fate ks (at + 1) t ≡ Some k → fate os (at + 1) t ≡ Some k) → (next : Option (List Part)) → step s kind ≡ next → elim next [ Some t ↦ fate ks (at + 1) t | None ↦ Some at ] ≡ Some k → fate (o ∷ os) at s ≡ Some k
  by more None e v = no_fate os at o s (ap (step s) first ∙ e) ∙ v
  by more (Some t) e v = next_fate os at o s t (ap (step s) first ∙ e) ∙ more t v

pub no_hope : (tokens : List Token) (k : ℕ) → verdict_at tokens 0 [] 0 (P.items ∷ []) ≡ syntax_at k → HasHope tokens (k + 1) → ⊥
unfolding verdict_at syntax_of reach
no_hope tokens k v hope =
    let refused : fate (kinds tokens) 0 (P.items ∷ []) ≡ Some k = syntax_fate (kinds tokens) 0 start k (ap syntax_of v) in
    let here : fate (kinds hope.whole) 0 (P.items ∷ []) ≡ Some k = fate_same (kinds tokens) (kinds hope.whole) 0 (k + 1) (P.items ∷ []) k refused (omega arith) hope.begins in
    none_is (sym (read_text hope.whole hope.spelled) ∙ here)
