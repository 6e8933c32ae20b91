-- How the verdict on a text goes on at a token inside a whole expression.
use Rattle.std.proofs.Common.{◌≡◌, ℕ, ◌+◌, ◌≤◌, Bool, true, false, List, [], ◌∷◌, ◌++◌, ◌||◌, ◌&&◌, if◌then◌else◌, Option, Some, None, arith, refl, sym, ap, subst, ◌∙◌}
use Rattle.std.proofs.lemmas.Bool.{le-ltb}
use Rattle.std.proofs.lemmas.List.{append_assoc}
use Rattle.std.specs.Prelude.{nat_lt}
use Rattle.cstar_base.specs.declared.operators.Place.{Place}
use Rattle.cstar_tree.specs.declared.token.Token.{Token}
use Rattle.cstar_tree.specs.declared.token.Kind.{Kind}
use Rattle.cstar_tree.specs.Positions.{Stands, token_kind}
use Rattle.grammar_parts.specs.Parts.{Part, Action, take_it, enter, skip, refuse, before, levels}
use Rattle.grammar_parts.specs.Actions.{act, IsReal}
use Rattle.grammar_parts.specs.Readings.{is_skipped, kinds_from, may_end}
use Rattle.grammar_parts.specs.Verdicts.{Falls, Goes, State, Verdict, depth_at, entering, inner_step, is_deep, read, syntax_at, verdict, verdict_at, within}
use Rattle.grammar_parts.proofs.Reaching.{kinds_at, kinds_end}

onward : List Kind → ℕ → Option State → Verdict
onward kinds at o = elim o [ None ↦ syntax_at at | Some t ↦ if is_deep t then depth_at at else verdict kinds (at + 1) t ]

pub levels-append : (parts more : List Part) → levels (parts ++ more) ≡ levels parts + levels more
levels-append [] more = omega arith
levels-append (p ∷ parts) more = let e = levels-append parts more in omega arith

-- the verdict at a token rests on the step there
judged : (tokens : List Token) (at : ℕ) (kind : Kind) (inside : List Part) (n : ℕ) (outside : List Part) (o : Option State) → token_kind tokens at ≡ Some kind → inner_step inside n outside kind ≡ o → verdict_at tokens at inside n outside ≡ onward (kinds_from tokens (at + 1)) at o
unfolding verdict_at verdict onward
judged tokens at kind inside n outside o h e = ap (λ (kinds : List Kind). verdict kinds at (record { inside = inside; operators = n; outside = outside })) (kinds_at tokens at kind h) ∙ ap (onward (kinds_from tokens (at + 1)) at) e

judged_end : (tokens : List Token) (at : ℕ) (inside : List Part) (n : ℕ) (outside : List Part) (b : Bool) → token_kind tokens at ≡ None → may_end (inside ++ outside) ≡ b → verdict_at tokens at inside n outside ≡ (if b then read else syntax_at at)
unfolding verdict_at verdict
judged_end tokens at inside n outside b h e = ap (λ (kinds : List Kind). verdict kinds at (record { inside = inside; operators = n; outside = outside })) (kinds_end tokens at h) ∙ ap (λ (b : Bool). if b then read else syntax_at at) e

step_within : (p : Part) (kind : Kind) (inside : List Part) (n : ℕ) (outside : List Part) {action : Action} → act p (Some kind) ≡ action → inner_step (p ∷ inside) n outside kind ≡ within action kind inside n outside (inner_step inside n outside kind)
unfolding inner_step
step_within p kind inside n outside is = ap (λ (a : Action). within a kind inside n outside (inner_step inside n outside kind)) is

deep_is : (b : Bool) (at : ℕ) (v : Verdict) → b ≡ false → (if b then depth_at at else v) ≡ v
deep_is b at v e = ap (λ (x : Bool). if x then depth_at at else v) e

-- the part takes the token, and neither a level nor an operator is too many
pub takes : {tokens : List Token} {at next c : ℕ} {kind : Kind} {place : Place} {parts : List Part} (p : Part) (inside : List Part) (n : ℕ) (outside : List Part) → Stands tokens at kind place next → act p (Some kind) ≡ take_it c parts → levels parts + (levels inside + levels outside) ≤ 100 → n + c ≤ 1000 → verdict_at tokens at (p ∷ inside) n outside ≡ verdict_at tokens next (parts ++ inside) (n + c) outside
unfolding onward verdict_at
takes {tokens} {at} {c = c} {kind = kind} {parts = parts} p inside n outside s is few most =
    judged tokens at kind (p ∷ inside) n outside _ s.kind_is (step_within p kind inside n outside is)
    ∙ deep_is _ at _ (ap (λ (b : Bool). b || nat_lt 1000 (n + c)) (le-ltb 100 (levels (parts ++ inside) + levels outside) (let e = levels-append parts inside in omega arith)) ∙ le-ltb 1000 (n + c) most)
    ∙ ap (λ (i : ℕ). verdict_at tokens i (parts ++ inside) (n + c) outside) (sym s.next_is)

-- one is too many
pub deepens : (tokens : List Token) (at : ℕ) {c : ℕ} {kind : Kind} {parts : List Part} (p : Part) (inside : List Part) (n : ℕ) (outside : List Part) → token_kind tokens at ≡ Some kind → act p (Some kind) ≡ take_it c parts → is_deep (record { inside = parts ++ inside; operators = n + c; outside = outside }) ≡ true → verdict_at tokens at (p ∷ inside) n outside ≡ depth_at at
unfolding onward
deepens tokens at {c} {kind} {parts} p inside n outside stands is deep =
    judged tokens at kind (p ∷ inside) n outside _ stands (step_within p kind inside n outside is) ∙ ap (λ (b : Bool). if b then depth_at at else verdict (kinds_from tokens (at + 1)) (at + 1) (record { inside = parts ++ inside; operators = n + c; outside = outside })) deep

-- two lists of open parts that do the same at what stands here
pub judged_alike : (tokens : List Token) (at : ℕ) (parts others : List Part) (n : ℕ) (outside : List Part) → ((kind : Kind) → token_kind tokens at ≡ Some kind → inner_step parts n outside kind ≡ inner_step others n outside kind) → (token_kind tokens at ≡ None → may_end (parts ++ outside) ≡ may_end (others ++ outside)) → verdict_at tokens at parts n outside ≡ verdict_at tokens at others n outside
judged_alike tokens at parts others n outside some none = by (token_kind tokens at) refl where
  by : (kind : Option Kind) → token_kind tokens at ≡ kind → verdict_at tokens at parts n outside ≡ verdict_at tokens at others n outside
  by (Some kind) h = judged tokens at kind parts n outside _ h (some kind h) ∙ sym (judged tokens at kind others n outside _ h refl)
  by None h = judged_end tokens at parts n outside _ h (none h) ∙ sym (judged_end tokens at others n outside _ h refl)

-- the part is skipped
pub skips : (tokens : List Token) (at : ℕ) (p : Part) (inside : List Part) (n : ℕ) (outside : List Part) → act p (token_kind tokens at) ≡ skip → verdict_at tokens at (p ∷ inside) n outside ≡ verdict_at tokens at inside n outside
unfolding may_end
skips tokens at p inside n outside is = judged_alike tokens at (p ∷ inside) inside n outside (λ kind h. step_within p kind inside n outside (sym (ap (act p) h) ∙ is)) (λ h. ap (λ (a : Action). is_skipped a && may_end (inside ++ outside)) (sym (ap (act p) h) ∙ is))

-- the token cannot stand
pub refuses : (tokens : List Token) (at : ℕ) (p : Part) (inside : List Part) (n : ℕ) (outside : List Part) → act p (token_kind tokens at) ≡ refuse → verdict_at tokens at (p ∷ inside) n outside ≡ syntax_at at
unfolding may_end onward
refuses tokens at p inside n outside is = by (token_kind tokens at) refl where
  by : (kind : Option Kind) → token_kind tokens at ≡ kind → verdict_at tokens at (p ∷ inside) n outside ≡ syntax_at at
  by (Some kind) h = judged tokens at kind (p ∷ inside) n outside _ h (step_within p kind inside n outside (sym (ap (act p) h) ∙ is))
  by None h = judged_end tokens at (p ∷ inside) n outside _ h (ap (λ (a : Action). is_skipped a && may_end (inside ++ outside)) (sym (ap (act p) h) ∙ is))

-- a part that begins as another does, behind which more is wanted
pub opens_as : (tokens : List Token) (at : ℕ) (p q : Part) (parts inside : List Part) (n : ℕ) (outside : List Part) → act p (token_kind tokens at) ≡ before (act q (token_kind tokens at)) parts → IsReal (act q (token_kind tokens at)) → verdict_at tokens at (p ∷ inside) n outside ≡ verdict_at tokens at (q ∷ parts ++ inside) n outside
unfolding may_end
opens_as tokens at p q parts inside n outside is real = judged_alike tokens at (p ∷ inside) (q ∷ parts ++ inside) n outside
    (λ kind h. step_within p kind inside n outside (subst {0, 0} (λ (k : Option Kind). act p k ≡ before (act q k) parts) h is) ∙ both kind (act q (Some kind)) (subst {0, 0} (λ (k : Option Kind). IsReal (act q k)) h real) ∙ sym (step_within q kind (parts ++ inside) n outside refl))
    (λ h. ap (λ (a : Action). is_skipped a && may_end (inside ++ outside)) (subst {0, 0} (λ (k : Option Kind). act p k ≡ before (act q k) parts) h is) ∙ ends (act q None) (subst {0, 0} (λ (k : Option Kind). IsReal (act q k)) h real)) where
      both : (kind : Kind) (a : Action) → IsReal a → within (before a parts) kind inside n outside (inner_step inside n outside kind) ≡ within a kind (parts ++ inside) n outside (inner_step (parts ++ inside) n outside kind)
      both kind (take_it c qs) r = ap (λ (list : List Part). Some (record { inside = list; operators = n + c; outside = outside })) (append_assoc qs parts inside)
      both kind refuse r = refl
      both kind skip r = absurd r
      both kind (enter r rs) h = ap (entering (act r (Some kind))) (ap (λ (list : List Part). list) (append_assoc rs parts (inside ++ outside)) ∙ ap (λ (list : List Part). rs ++ list) (sym (append_assoc parts inside outside)))

      ends : (a : Action) → IsReal a → is_skipped (before a parts) && may_end (inside ++ outside) ≡ is_skipped a && may_end (parts ++ inside ++ outside)
      ends (take_it c qs) r = refl
      ends refuse r = refl
      ends skip r = absurd r
      ends (enter q qs) r = refl

-- more parts beside those that are read
pub beside : (tokens : List Token) (at n to m open_levels : ℕ) (parts left more : List Part) → Goes tokens (levels more + open_levels) at n parts to m left → Goes tokens open_levels at n (parts ++ more) to m (left ++ more)
beside tokens at n to m open_levels parts left more g inside outside e =
    ap (λ (list : List Part). verdict_at tokens at list n outside) (append_assoc parts more inside)
    ∙ g (more ++ inside) outside (omega (arith, levels-append more inside)) ∙ ap (λ (list : List Part). verdict_at tokens to list m outside) (sym (append_assoc left more inside))

pub falls_beside : (tokens : List Token) (at n : ℕ) (v : Verdict) (open_levels : ℕ) (parts more : List Part) → Falls tokens (levels more + open_levels) at n parts v → Falls tokens open_levels at n (parts ++ more) v
falls_beside tokens at n v open_levels parts more f inside outside e =
    ap (λ (list : List Part). verdict_at tokens at list n outside) (append_assoc parts more inside) ∙ f (more ++ inside) outside (omega (arith, levels-append more inside))
