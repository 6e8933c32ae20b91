-- The verdict by open parts is right.
use Rattle.std.proofs.Common.{◌≡◌, ℕ, zero, suc, ◌+◌, ◌≤◌, ◌<◌, Bool, true, false, List, [], ◌∷◌, ◌++◌, if◌then◌else◌, length, take, Option, Some, None, arith, refl, sym, ap, subst, ◌∙◌}
use Rattle.std.proofs.lemmas.Bool.{ltb-false, ltb-true}
use Rattle.std.specs.Prelude.{nat_lt}
use Rattle.std.proofs.lemmas.List.{length-map, take-take}
use Rattle.std.specs.declared.alloc.Global.{Global}
use Rattle.cstar_tree.specs.declared.token.Token.{Token}
use Rattle.cstar_tree.specs.declared.token.Kind.{Kind}
use Rattle.grammar_parts.specs.Parts.{Part}
use Rattle.grammar_parts.specs.Parts as P
use Rattle.grammar_parts.specs.Hope.{HasHope, IsRight, IsTooDeep, kinds}
use Rattle.grammar_parts.specs.Readings.{may_end, open_behind}
use Rattle.grammar_parts.specs.Verdicts.{State, Verdict, depth_at, is_deep, next, read, start, state_behind, syntax_at, verdict, verdict_at}
use Rattle.grammar_parts.proofs.Hopeless.{no_hope, step_some}
use Rattle.grammar_parts.proofs.Hoping.{hope}
use Rattle.grammar_parts.proofs.Reaching.{none_is, some_is}
use Rattle.grammar_parts.proofs.Words.{false-true}

-- a number that a verdict names, or else another one
syntax_number : Verdict → Option ℕ
syntax_number (syntax_at k) = Some k
syntax_number _ = None

depth_number : Verdict → Option ℕ
depth_number (depth_at k) = Some k
depth_number _ = None

IsBefore : Verdict → ℕ → Type 0
IsBefore read i = Unit {0}
IsBefore (syntax_at k) i = i < k
IsBefore (depth_at k) i = i < k

onwards : List Kind → ℕ → Option State → Verdict
onwards ks at o = elim o [ None ↦ syntax_at at | Some t ↦ if is_deep t then depth_at at else verdict ks (at + 1) t ]

states : List Kind → Option State → Option State
states ks o = elim o [ None ↦ None | Some t ↦ state_behind t ks ]

passing : (ks : List Kind) (at i : ℕ) (t : State) (n : ℕ) → ((u : State) → IsBefore (verdict ks (at + 1) u) i → is_deep u ≡ false → state_behind u (take n ks) ≡ Some t → is_deep t ≡ false) → at ≤ i → (o : Option State) → IsBefore (onwards ks at o) i → states (take n ks) o ≡ Some t → is_deep t ≡ false
unfolding IsBefore onwards states
passing ks at i t n later here None before h = absurd (none_is h)
passing ks at i t n later here (Some u) before h = by (is_deep u) refl before where
  by : (b : Bool) → is_deep u ≡ b → IsBefore (if b then depth_at at else verdict ks (at + 1) u) i → is_deep t ≡ false
  by true deep b = absurd (let below : i < at = b in omega arith)
  by false deep b = later u b deep h

-- no token that the verdict passes is too deep
shallow : (ks : List Kind) (at : ℕ) (s t : State) (j : ℕ) → IsBefore (verdict ks at s) (at + j) → is_deep s ≡ false → state_behind s (take (suc j) ks) ≡ Some t → is_deep t ≡ false
unfolding verdict state_behind onwards states
shallow [] at s t j before calm e = ap is_deep (sym (some_is e)) ∙ calm
shallow (kind ∷ ks) at s t zero before calm e = passing ks at (at + 0) t 0 (λ u b c h. ap is_deep (sym (some_is h)) ∙ c) (omega arith) (next s kind) before e
shallow (kind ∷ ks) at s t (suc j) before calm e = let same : at + suc j ≡ at + 1 + j = omega arith in
    passing ks at (at + suc j) t (suc j) (λ u b c h. shallow ks (at + 1) u t j (subst {0, 0} (IsBefore (verdict ks (at + 1) u)) same b) c h) (omega arith) (next s kind) before e

-- the tokens before the one that a verdict names
record Reached (ks : List Kind) (at : ℕ) (s : State) (k : ℕ) : Type 0 where
  pub count : ℕ
  pub number : k ≡ at + count
  pub within : count ≤ length ks
  pub state : State
  pub reached : state_behind s (take count ks) ≡ Some state

further : (kind : Kind) (ks : List Kind) (at : ℕ) (s u : State) (k : ℕ) → next s kind ≡ Some u → Reached ks (at + 1) u k → Reached (kind ∷ ks) at s k
unfolding state_behind states
further kind ks at s u k h r = record { count = suc r.count; number = let n = r.number in omega arith; within = let w = r.within in omega arith; state = r.state; reached = ap (states (take r.count ks)) h ∙ r.reached }

syntax_found : (ks : List Kind) (at : ℕ) (s : State) (k : ℕ) → syntax_number (verdict ks at s) ≡ Some k → Reached ks at s k
unfolding verdict state_behind syntax_number onwards
syntax_found [] at s k e = by (may_end (s.inside ++ s.outside)) e where
  by : (b : Bool) → syntax_number (if b then read else syntax_at at) ≡ Some k → Reached [] at s k
  by true h = absurd (none_is h)
  by false h = record { count = 0; number = let same = some_is h in omega arith; within = omega arith; state = s; reached = refl }
syntax_found (kind ∷ ks) at s k e = by (λ u. syntax_found ks (at + 1) u k) (next s kind) refl e where
  deep : (u : State) → next s kind ≡ Some u → (syntax_number (verdict ks (at + 1) u) ≡ Some k → Reached ks (at + 1) u k) → (b : Bool) → syntax_number (if b then depth_at at else verdict ks (at + 1) u) ≡ Some k → Reached (kind ∷ ks) at s k
  deep u h more true e = absurd (none_is e)
  deep u h more false e = further kind ks at s u k h (more e)

  by : ((u : State) → syntax_number (verdict ks (at + 1) u) ≡ Some k → Reached ks (at + 1) u k) → (o : Option State) → next s kind ≡ o → syntax_number (onwards ks at o) ≡ Some k → Reached (kind ∷ ks) at s k
  by more None h e = record { count = 0; number = let same = some_is e in omega arith; within = omega arith; state = s; reached = refl }
  by more (Some u) h e = deep u h (more u) (is_deep u) e

-- the same with the token itself
record Sunk (ks : List Kind) (at : ℕ) (s : State) (k : ℕ) : Type 0 where
  pub count : ℕ
  pub number : k ≡ at + count
  pub within : suc count ≤ length ks
  pub state : State
  pub reached : state_behind s (take (suc count) ks) ≡ Some state
  pub deep : is_deep state ≡ true

depth_found : (ks : List Kind) (at : ℕ) (s : State) (k : ℕ) → depth_number (verdict ks at s) ≡ Some k → Sunk ks at s k
unfolding verdict state_behind depth_number onwards states
depth_found [] at s k e = by (may_end (s.inside ++ s.outside)) e where
  by : (b : Bool) → depth_number (if b then read else syntax_at at) ≡ Some k → Sunk [] at s k
  by true h = absurd (none_is h)
  by false h = absurd (none_is h)
depth_found (kind ∷ ks) at s k e = by (λ u. depth_found ks (at + 1) u k) (next s kind) refl e where
  deep : (u : State) → next s kind ≡ Some u → (depth_number (verdict ks (at + 1) u) ≡ Some k → Sunk ks (at + 1) u k) → (b : Bool) → is_deep u ≡ b → depth_number (if b then depth_at at else verdict ks (at + 1) u) ≡ Some k → Sunk (kind ∷ ks) at s k
  deep u h more true d e = record { count = 0; number = let same = some_is e in omega arith; within = omega arith; state = u; reached = ap (states []) h; deep = d }
  deep u h more false d e = let r = more e in record { count = suc r.count; number = let n = r.number in omega arith; within = let w = r.within in omega arith; state = r.state; reached = ap (states (take (suc r.count) ks)) h ∙ r.reached; deep = r.deep }

  by : ((u : State) → depth_number (verdict ks (at + 1) u) ≡ Some k → Sunk ks (at + 1) u k) → (o : Option State) → next s kind ≡ o → depth_number (onwards ks at o) ≡ Some k → Sunk (kind ∷ ks) at s k
  by more None h e = absurd (none_is e)
  by more (Some u) h e = deep u h (more u) (is_deep u) refl e

flat_behind : (ks : List Kind) (s t : State) → state_behind s ks ≡ Some t → open_behind (s.inside ++ s.outside) ks ≡ Some (t.inside ++ t.outside)
unfolding state_behind open_behind states
flat_behind [] s t e = ap (λ (u : State). Some (u.inside ++ u.outside)) (some_is e)
flat_behind (kind ∷ ks) s t e = by (λ u. flat_behind ks u t) (next s kind) refl e where
  by : ((u : State) → state_behind u ks ≡ Some t → open_behind (u.inside ++ u.outside) ks ≡ Some (t.inside ++ t.outside)) → (o : Option State) → next s kind ≡ o → states ks o ≡ Some t → open_behind (s.inside ++ s.outside) (kind ∷ ks) ≡ Some (t.inside ++ t.outside)
  by more None h e = absurd (none_is e)
  by more (Some u) h e = ap (λ (o : Option (List Part)). elim o [ Some parts ↦ open_behind parts ks | None ↦ None ]) (step_some s u kind h) ∙ more u e

-- what begins a text begins it with fewer tokens
pub less_hope : (tokens : List Token) (n m : ℕ) → n ≤ m → HasHope tokens m → HasHope tokens n
less_hope tokens n m less h = record { whole = h.whole; begins = sym (take-take n m (kinds h.whole) less) ∙ ap (take n) h.begins ∙ take-take n m (kinds tokens) less; items = h.items; spelled = h.spelled }

not_deep : (tokens : List Token) (token : ℕ) → IsBefore (verdict (kinds tokens) 0 start) token → IsTooDeep tokens token → ⊥
unfolding IsBefore
not_deep tokens token before deep =
    let same : token + 1 ≡ suc token = omega arith in let zero_is : 0 + token ≡ token = omega arith in
    false-true (sym (shallow (kinds tokens) 0 start deep.state token (subst {0, 0} (IsBefore (verdict (kinds tokens) 0 start)) (sym zero_is) before) refl (ap (λ (n : ℕ). state_behind start (take n (kinds tokens))) (sym same) ∙ deep.reached)) ∙ deep.deep)

pub is_right : Global → (tokens : List Token) (v : Verdict) → length tokens ≤ 1048576 → verdict_at tokens 0 [] 0 (P.items ∷ []) ≡ v → IsRight tokens v
unfolding verdict_at IsBefore syntax_number depth_number
is_right heap tokens read few e = λ token deep. not_deep tokens token (subst {0, 0} (λ (v : Verdict). IsBefore v token) (sym e) tt) deep
is_right heap tokens (syntax_at k) few e =
    let r = syntax_found (kinds tokens) 0 start k (ap syntax_number e) in let n = r.number in let w = r.within in
    let count : r.count ≡ k = omega arith in
    let long : length (kinds tokens) ≡ length tokens = length-map tokens (λ (t : Token). t.kind) in
    let reached : state_behind start (take k (kinds tokens)) ≡ Some r.state = ap (λ (i : ℕ). state_behind start (take i (kinds tokens))) (sym count) ∙ r.reached in
    let none : HasHope tokens (k + 1) → ⊥ = no_hope tokens k e in (
      record { before = hope heap tokens k (r.state.inside ++ r.state.outside) (omega arith) few (flat_behind (take k (kinds tokens)) start r.state reached); none = none },
      λ token deep. by (nat_lt token k) token refl deep none,
    ) where
      by : (low : Bool) → (token : ℕ) → nat_lt token k ≡ low → IsTooDeep tokens token → (HasHope tokens (k + 1) → ⊥) → ⊥
      by true token low deep none = not_deep tokens token (subst {0, 0} (λ (v : Verdict). IsBefore v token) (sym e) (ltb-true token k low)) deep
      by false token low deep none = none (less_hope tokens (k + 1) (token + 1) (let high = ltb-false token k low in omega arith) deep.hope)
is_right heap tokens (depth_at k) few e =
    let r = depth_found (kinds tokens) 0 start k (ap depth_number e) in let n = r.number in let w = r.within in
    let count : suc r.count ≡ k + 1 = omega arith in
    let long : length (kinds tokens) ≡ length tokens = length-map tokens (λ (t : Token). t.kind) in
    let reached : state_behind start (take (k + 1) (kinds tokens)) ≡ Some r.state = ap (λ (i : ℕ). state_behind start (take i (kinds tokens))) (sym count) ∙ r.reached in (
      record { hope = hope heap tokens (k + 1) (r.state.inside ++ r.state.outside) (omega arith) few (flat_behind (take (k + 1) (kinds tokens)) start r.state reached); state = r.state; reached = reached; deep = r.deep },
      λ token low deep. not_deep tokens token (subst {0, 0} (λ (v : Verdict). IsBefore v token) (sym e) low) deep,
    )
