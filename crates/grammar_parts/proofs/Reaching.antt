-- How a reading goes on at a token.
use Rattle.std.proofs.Common.{◌≡◌, ℕ, zero, suc, ◌+◌, Bool, false, List, [], ◌∷◌, ◌++◌, ◌&&◌, if◌then◌else◌, Option, Some, None, arith, refl, sym, ap, subst, ◌∙◌}
use Rattle.std.proofs.lemmas.List.{append_assoc}
use Rattle.cstar_base.specs.declared.operators.Place.{Place}
use Rattle.cstar_tree.specs.declared.token.Token.{Token}
use Rattle.cstar_tree.specs.declared.token.Kind.{Kind}
use Rattle.cstar_tree.specs.Positions.{Stands, token_kind}
use Rattle.grammar_parts.specs.Parts.{Part, Action, take_it, enter, skip, refuse, before}
use Rattle.grammar_parts.specs.Actions.{act, IsStart, IsReal}
use Rattle.grammar_parts.specs.Readings.{step, stepped, entered, is_skipped, may_end, fate, kinds_from, reach}

IsAbsent : (A : Type 0) → Option A → Type 0
IsAbsent A None = Unit {0}
IsAbsent A (Some _) = ⊥

pub none_is : {A : Type 0} {x : A} → None ≡ Some x → ⊥
unfolding IsAbsent
none_is {A} e = subst {0, 0} (IsAbsent A) e tt

or_this : {A : Type 0} → A → Option A → A
or_this x None = x
or_this x (Some y) = y

pub some_is : {A : Type 0} {x y : A} → Some x ≡ Some y → x ≡ y
unfolding or_this
some_is {A} {x} e = ap (or_this x) e

-- the kinds from a position on begin with the one that stands there
pub kinds_at : (tokens : List Token) (at : ℕ) (kind : Kind) → token_kind tokens at ≡ Some kind → kinds_from tokens at ≡ kind ∷ kinds_from tokens (at + 1)
unfolding token_kind
kinds_at [] at kind h = absurd (none_is h)
kinds_at (t ∷ ts) zero kind h = ap (λ (k : Kind). k ∷ kinds_from ts 0) (some_is h)
kinds_at (t ∷ ts) (suc at) kind h = kinds_at ts at kind h ∙ (let e : suc (at + 1) ≡ suc at + 1 = omega arith in ap (λ (n : ℕ). kind ∷ kinds_from (t ∷ ts) n) e)

pub kinds_end : (tokens : List Token) (at : ℕ) → token_kind tokens at ≡ None → kinds_from tokens at ≡ []
unfolding token_kind
kinds_end [] zero h = refl
kinds_end [] (suc at) h = refl
kinds_end (t ∷ ts) zero h = absurd (none_is (sym h))
kinds_end (t ∷ ts) (suc at) h = kinds_end ts at h

-- one token: what can stand is read on, and what cannot ends the reading
pub next_fate : (kinds : List Kind) (at : ℕ) (kind : Kind) (parts next : List Part) → step parts kind ≡ Some next → fate (kind ∷ kinds) at parts ≡ fate kinds (at + 1) next
unfolding fate
next_fate kinds at kind parts next e = ap (λ (o : Option (List Part)). elim o [ Some next ↦ fate kinds (at + 1) next | None ↦ Some at ]) e

pub no_fate : (kinds : List Kind) (at : ℕ) (kind : Kind) (parts : List Part) → step parts kind ≡ None → fate (kind ∷ kinds) at parts ≡ Some at
unfolding fate
no_fate kinds at kind parts e = ap (λ (o : Option (List Part)). elim o [ Some next ↦ fate kinds (at + 1) next | None ↦ Some at ]) e

same_fate : (kinds : List Kind) (at : ℕ) (kind : Kind) (parts others : List Part) → step parts kind ≡ step others kind → fate (kind ∷ kinds) at parts ≡ fate (kind ∷ kinds) at others
unfolding fate
same_fate kinds at kind parts others e = ap (λ (o : Option (List Part)). elim o [ Some next ↦ fate kinds (at + 1) next | None ↦ Some at ]) e

same_end : (at : ℕ) (parts others : List Part) → may_end parts ≡ may_end others → fate [] at parts ≡ fate [] at others
unfolding fate
same_end at parts others e = ap (λ (b : Bool). if b then None else Some at) e

step_by : (p : Part) (kind : Kind) (behind : List Part) {action : Action} → act p (Some kind) ≡ action → step (p ∷ behind) kind ≡ stepped action kind behind (step behind kind)
unfolding step
step_by p kind behind is = ap (λ (a : Action). stepped a kind behind (step behind kind)) is

at_kind : (tokens : List Token) (at : ℕ) (kind : Kind) (parts : List Part) → token_kind tokens at ≡ Some kind → reach tokens at parts ≡ fate (kind ∷ kinds_from tokens (at + 1)) at parts
unfolding reach
at_kind tokens at kind parts h = ap (λ (kinds : List Kind). fate kinds at parts) (kinds_at tokens at kind h)

pub at_none : (tokens : List Token) (at : ℕ) (parts : List Part) → token_kind tokens at ≡ None → reach tokens at parts ≡ fate [] at parts
unfolding reach
at_none tokens at parts h = ap (λ (kinds : List Kind). fate kinds at parts) (kinds_end tokens at h)

-- the part takes the token
pub taken : {tokens : List Token} {at next n : ℕ} {kind : Kind} {place : Place} {parts : List Part} (p : Part) (behind : List Part) → Stands tokens at kind place next → act p (Some kind) ≡ take_it n parts → reach tokens at (p ∷ behind) ≡ reach tokens next (parts ++ behind)
unfolding reach
taken {tokens} {at} {next} {n} {kind} {place} {parts} p behind s is =
    at_kind tokens at kind (p ∷ behind) s.kind_is ∙ next_fate (kinds_from tokens (at + 1)) at kind _ _ (step_by p kind behind is)
    ∙ ap (λ (i : ℕ). reach tokens i (parts ++ behind)) (sym s.next_is)

-- two lists of open parts that do the same at what stands here
pub alike : (tokens : List Token) (at : ℕ) (parts others : List Part) → ((kind : Kind) → token_kind tokens at ≡ Some kind → step parts kind ≡ step others kind) → (token_kind tokens at ≡ None → may_end parts ≡ may_end others) → reach tokens at parts ≡ reach tokens at others
alike tokens at parts others some none = by (token_kind tokens at) refl where
  by : (kind : Option Kind) → token_kind tokens at ≡ kind → reach tokens at parts ≡ reach tokens at others
  by (Some kind) h = at_kind tokens at kind parts h ∙ same_fate (kinds_from tokens (at + 1)) at kind _ _ (some kind h) ∙ sym (at_kind tokens at kind others h)
  by None h = at_none tokens at parts h ∙ same_end at _ _ (none h) ∙ sym (at_none tokens at others h)

-- the part is skipped
pub skipped : (tokens : List Token) (at : ℕ) (p : Part) (behind : List Part) → act p (token_kind tokens at) ≡ skip → reach tokens at (p ∷ behind) ≡ reach tokens at behind
unfolding may_end
skipped tokens at p behind is = alike tokens at (p ∷ behind) behind (λ kind h. step_by p kind behind (sym (ap (act p) h) ∙ is)) (λ h. ap (λ (a : Action). is_skipped a && may_end behind) (sym (ap (act p) h) ∙ is))

-- the token cannot stand
pub refused : (tokens : List Token) (at : ℕ) (p : Part) (behind : List Part) → act p (token_kind tokens at) ≡ refuse → reach tokens at (p ∷ behind) ≡ Some at
unfolding fate may_end
refused tokens at p behind is = by (token_kind tokens at) refl where
  by : (kind : Option Kind) → token_kind tokens at ≡ kind → reach tokens at (p ∷ behind) ≡ Some at
  by (Some kind) h = at_kind tokens at kind (p ∷ behind) h ∙ no_fate (kinds_from tokens (at + 1)) at kind _ (step_by p kind behind (sym (ap (act p) h) ∙ is))
  by None h = at_none tokens at (p ∷ behind) h ∙ ap (λ (a : Action). if is_skipped a && may_end behind then None else Some at) (sym (ap (act p) h) ∙ is)

-- a part at which another begins
pub begins : (tokens : List Token) (at : ℕ) {parts : List Part} (p q : Part) (behind : List Part) → act p (token_kind tokens at) ≡ enter q parts → IsStart (act q (token_kind tokens at)) → reach tokens at (p ∷ behind) ≡ reach tokens at (q ∷ parts ++ behind)
unfolding may_end
begins tokens at {parts} p q behind is start = alike tokens at (p ∷ behind) (q ∷ parts ++ behind)
    (λ kind h. step_by p kind behind (sym (ap (act p) h) ∙ is) ∙ sym (step_by q kind (parts ++ behind) refl ∙ both kind (act q (Some kind)) refl (subst {0, 0} (λ (k : Option Kind). IsStart (act q k)) h start)))
    (λ h. ap (λ (a : Action). is_skipped a && may_end behind) (sym (ap (act p) h) ∙ is) ∙ sym (ends (act q None) (subst {0, 0} (λ (k : Option Kind). IsStart (act q k)) h start))) where
      both : (kind : Kind) (a : Action) → act q (Some kind) ≡ a → IsStart a → stepped a kind (parts ++ behind) (step (parts ++ behind) kind) ≡ entered (act q (Some kind)) (parts ++ behind)
      both kind (take_it n qs) e s = sym (ap (λ (b : Action). entered b (parts ++ behind)) e)
      both kind refuse e s = sym (ap (λ (b : Action). entered b (parts ++ behind)) e)
      both kind skip e s = absurd s
      both kind (enter r rs) e s = absurd s

      ends : (a : Action) → IsStart a → is_skipped a && may_end (parts ++ behind) ≡ false
      ends (take_it n qs) s = refl
      ends refuse s = refl
      ends skip s = absurd s
      ends (enter r rs) s = absurd s

-- a part that begins as another does, behind which more is wanted
pub opens : (tokens : List Token) (at : ℕ) (p q : Part) (parts behind : List Part) → act p (token_kind tokens at) ≡ before (act q (token_kind tokens at)) parts → IsReal (act q (token_kind tokens at)) → reach tokens at (p ∷ behind) ≡ reach tokens at (q ∷ parts ++ behind)
unfolding may_end
opens tokens at p q parts behind is real = alike tokens at (p ∷ behind) (q ∷ parts ++ behind)
    (λ kind h. step_by p kind behind (subst {0, 0} (λ (k : Option Kind). act p k ≡ before (act q k) parts) h is) ∙ both kind (act q (Some kind)) (subst {0, 0} (λ (k : Option Kind). IsReal (act q k)) h real) ∙ sym (step_by q kind (parts ++ behind) refl))
    (λ h. ap (λ (a : Action). is_skipped a && may_end behind) (subst {0, 0} (λ (k : Option Kind). act p k ≡ before (act q k) parts) h is) ∙ ends (act q None) (subst {0, 0} (λ (k : Option Kind). IsReal (act q k)) h real)) where
      both : (kind : Kind) (a : Action) → IsReal a → stepped (before a parts) kind behind (step behind kind) ≡ stepped a kind (parts ++ behind) (step (parts ++ behind) kind)
      both kind (take_it n qs) r = ap Some (append_assoc qs parts behind)
      both kind refuse r = refl
      both kind skip r = absurd r
      both kind (enter q qs) r = ap (entered (act q (Some kind))) (append_assoc qs parts behind)

      ends : (a : Action) → IsReal a → is_skipped (before a parts) && may_end behind ≡ is_skipped a && may_end (parts ++ behind)
      ends (take_it n qs) r = refl
      ends refuse r = refl
      ends skip r = absurd r
      ends (enter q qs) r = refl

-- two parts that do the same
pub same_act : (tokens : List Token) (at : ℕ) (p q : Part) (behind : List Part) → act p (token_kind tokens at) ≡ act q (token_kind tokens at) → reach tokens at (p ∷ behind) ≡ reach tokens at (q ∷ behind)
unfolding may_end
same_act tokens at p q behind is = alike tokens at (p ∷ behind) (q ∷ behind)
    (λ kind h. step_by p kind behind (subst {0, 0} (λ (k : Option Kind). act p k ≡ act q k) h is) ∙ sym (step_by q kind behind refl))
    (λ h. ap (λ (a : Action). is_skipped a && may_end behind) (subst {0, 0} (λ (k : Option Kind). act p k ≡ act q k) h is))
