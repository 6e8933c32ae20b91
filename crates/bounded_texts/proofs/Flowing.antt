-- Texts that are read from a token on without a level or an operator too many, and how one goes on at a
-- token.
use Rattle.std.proofs.Common.{◌≡◌, ℕ, ◌+◌, ◌≤◌, Bool, false, List, [], ◌∷◌, ◌++◌, ◌||◌, ◌&&◌, if◌then◌else◌, Option, Some, None, arith, refl, sym, ap, subst, ◌∙◌}
use Rattle.std.proofs.lemmas.Bool.{le-ltb}
use Rattle.std.proofs.lemmas.List.{append-nil, append_assoc}
use Rattle.std.specs.Prelude.{nat_lt}
use Rattle.cstar_base.specs.declared.operators.Place.{Place}
use Rattle.cstar_tree.specs.declared.token.Token.{Token}
use Rattle.cstar_tree.specs.declared.token.Kind.{Kind}
use Rattle.cstar_tree.specs.Positions.{Stands, token_kind}
use Rattle.grammar_parts.specs.Parts.{Part, Action, take_it, enter, skip, refuse, before, levels}
use Rattle.grammar_parts.specs.Actions.{IsReal, IsStart, act}
use Rattle.grammar_parts.specs.Readings.{is_skipped, kinds_from, may_end}
use Rattle.grammar_parts.specs.Verdicts.{State, Verdict, around, depth_at, entering, inner_step, is_deep, outer_step, read, syntax_at, verdict, verdict_at, within}
use Rattle.grammar_parts.proofs.Judging.{levels-append, opens_as, skips, takes}
use Rattle.grammar_parts.proofs.Reaching.{kinds_at, kinds_end}
use Rattle.cstar_parser.proofs.Outside.{begin_outside, opened_outside, skipped_outside}

-- From a token on the text is read, where these parts are open and there are at most so many operators
-- before it. Which of the parts are open inside the present expression is not said, so that the parts
-- of an expression and those around it are read alike.
pub record Flow (tokens : List Token) (at : ℕ) (parts : List Part) (n : ℕ) : Type 0 where
  pub few : n ≤ 1000
  pub on : (inside outside : List Part) (k : ℕ) → inside ++ outside ≡ parts → k ≤ n → verdict_at tokens at inside k outside ≡ read

pub less : {tokens : List Token} {at n m : ℕ} {parts : List Part} → Flow tokens at parts m → n ≤ m → Flow tokens at parts n
less f low = record { few = let most = f.few in omega arith; on = λ inside outside k e l. f.on inside outside k e (omega arith) }

heads : {p q : Part} {ps qs : List Part} → p ∷ ps ≡ q ∷ qs → p ≡ q
heads e = cc

tails : {p q : Part} {ps qs : List Part} → p ∷ ps ≡ q ∷ qs → ps ≡ qs
tails e = cc

-- ---- states that do the same

judgement : List Kind → ℕ → Option State → Verdict
judgement kinds at o = elim o [ None ↦ syntax_at at | Some t ↦ if is_deep t then depth_at at else verdict kinds (at + 1) t ]

judged : (tokens : List Token) (at : ℕ) (kind : Kind) (inside : List Part) (k : ℕ) (outside : List Part) (o : Option State) → token_kind tokens at ≡ Some kind → inner_step inside k outside kind ≡ o → verdict_at tokens at inside k outside ≡ judgement (kinds_from tokens (at + 1)) at o
unfolding verdict_at verdict judgement
judged tokens at kind inside k outside o h e = ap (λ (kinds : List Kind). verdict kinds at (record { inside = inside; operators = k; outside = outside })) (kinds_at tokens at kind h) ∙ ap (judgement (kinds_from tokens (at + 1)) at) e

pub judged_end : (tokens : List Token) (at : ℕ) (inside : List Part) (k : ℕ) (outside : List Part) (b : Bool) → token_kind tokens at ≡ None → may_end (inside ++ outside) ≡ b → verdict_at tokens at inside k outside ≡ (if b then read else syntax_at at)
unfolding verdict_at verdict
judged_end tokens at inside k outside b h e = ap (λ (kinds : List Kind). verdict kinds at (record { inside = inside; operators = k; outside = outside })) (kinds_end tokens at h) ∙ ap (λ (b : Bool). if b then read else syntax_at at) e

alike : (tokens : List Token) (at : ℕ) (parts : List Part) (k : ℕ) (outside others : List Part) (m : ℕ) (beside : List Part) → ((kind : Kind) → token_kind tokens at ≡ Some kind → inner_step parts k outside kind ≡ inner_step others m beside kind) → (token_kind tokens at ≡ None → may_end (parts ++ outside) ≡ may_end (others ++ beside)) → verdict_at tokens at parts k outside ≡ verdict_at tokens at others m beside
alike tokens at parts k outside others m beside some none = by (token_kind tokens at) refl where
  by : (kind : Option Kind) → token_kind tokens at ≡ kind → verdict_at tokens at parts k outside ≡ verdict_at tokens at others m beside
  by (Some kind) h = judged tokens at kind parts k outside _ h (some kind h) ∙ sym (judged tokens at kind others m beside _ h refl)
  by None h = judged_end tokens at parts k outside _ h (none h) ∙ sym (judged_end tokens at others m beside _ h refl)

step_around : (p : Part) (kind : Kind) (k : ℕ) (outside : List Part) {action : Action} → act p (Some kind) ≡ action → inner_step [] k (p ∷ outside) kind ≡ around action kind outside (outer_step outside kind)
unfolding inner_step outer_step
step_around p kind k outside is = ap (λ (a : Action). around a kind outside (outer_step outside kind)) is

step_within : (p : Part) (kind : Kind) (inside : List Part) (k : ℕ) (outside : List Part) {action : Action} → act p (Some kind) ≡ action → inner_step (p ∷ inside) k outside kind ≡ within action kind inside k outside (inner_step inside k outside kind)
unfolding inner_step
step_within p kind inside k outside is = ap (λ (a : Action). within a kind inside k outside (inner_step inside k outside kind)) is

shallow : (b : Bool) (at : ℕ) (v : Verdict) → b ≡ false → (if b then depth_at at else v) ≡ v
shallow b at v e = ap (λ (x : Bool). if x then depth_at at else v) e

-- operators are forgotten where no expression is open
forget : (tokens : List Token) (at k : ℕ) (outside : List Part) → verdict_at tokens at [] k outside ≡ verdict_at tokens at [] 0 outside
unfolding inner_step
forget tokens at k outside = alike tokens at [] k outside [] 0 outside (λ kind h. refl) (λ h. refl)

-- ---- the same where no expression is open

takes_around : {tokens : List Token} {at next c : ℕ} {kind : Kind} {place : Place} {parts : List Part} (p : Part) (k : ℕ) (outside : List Part) → Stands tokens at kind place next → act p (Some kind) ≡ take_it c parts → levels parts + levels outside ≤ 100 → verdict_at tokens at [] k (p ∷ outside) ≡ verdict_at tokens next [] 0 (parts ++ outside)
unfolding judgement verdict_at
takes_around {tokens} {at} {c = c} {kind = kind} {parts = parts} p k outside s is few =
    judged tokens at kind [] k (p ∷ outside) _ s.kind_is (step_around p kind k outside is)
    ∙ shallow _ at _ (ap (λ (b : Bool). b || nat_lt 1000 0) (le-ltb 100 (levels [] + levels (parts ++ outside)) (let e = levels-append parts outside in omega arith)) ∙ le-ltb 1000 0 (omega arith))
    ∙ ap (λ (i : ℕ). verdict_at tokens i [] 0 (parts ++ outside)) (sym s.next_is)

skips_around : (tokens : List Token) (at : ℕ) (p : Part) (k : ℕ) (outside : List Part) → act p (token_kind tokens at) ≡ skip → verdict_at tokens at [] k (p ∷ outside) ≡ verdict_at tokens at [] 0 outside
skips_around tokens at p k outside is = forget tokens at k (p ∷ outside) ∙ (skipped_outside p [] is begin_outside).on outside refl

opens_around : (tokens : List Token) (at : ℕ) (p q : Part) (parts : List Part) (k : ℕ) (outside : List Part) → act p (token_kind tokens at) ≡ before (act q (token_kind tokens at)) parts → IsReal (act q (token_kind tokens at)) → verdict_at tokens at [] k (p ∷ outside) ≡ verdict_at tokens at [] 0 (q ∷ parts ++ outside)
opens_around tokens at p q parts k outside is real = forget tokens at k (p ∷ outside) ∙ (opened_outside p q parts [] is real begin_outside).on outside refl ∙ ap (λ (list : List Part). verdict_at tokens at [] 0 (q ∷ list ++ outside)) (append-nil parts)

-- ---- a whole expression or type begins

starting : (a : Action) (kind : Kind) (outside : List Part) → IsStart a → entering a outside ≡ within a kind [] 0 outside (inner_step [] 0 outside kind)
starting (take_it c qs) kind outside s =
    let none : c ≡ 0 + c = omega arith in
    ap (λ (list : List Part). Some (record { inside = list; operators = c; outside = outside })) (sym (append-nil qs)) ∙ ap (λ (i : ℕ). Some (record { inside = qs ++ []; operators = i; outside = outside })) none
starting refuse kind outside s = refl
starting skip kind outside s = absurd s
starting (enter r rs) kind outside s = absurd s

no_end : (a : Action) (b : Bool) → IsStart a → false ≡ is_skipped a && b
no_end (take_it c qs) b s = refl
no_end refuse b s = refl
no_end skip b s = absurd s
no_end (enter q qs) b s = absurd s

enters : (tokens : List Token) (at : ℕ) (p q : Part) (parts behind inside : List Part) (k : ℕ) (outside : List Part) → inside ++ outside ≡ p ∷ behind → act p (token_kind tokens at) ≡ enter q parts → IsStart (act q (token_kind tokens at)) → verdict_at tokens at inside k outside ≡ verdict_at tokens at (q ∷ []) 0 (parts ++ behind)
unfolding may_end
enters tokens at p q parts behind inside k outside e is start = alike tokens at inside k outside (q ∷ []) 0 (parts ++ behind)
    (λ kind h. entered kind inside outside e (sym (ap (act p) h) ∙ is) ∙ starting (act q (Some kind)) kind (parts ++ behind) (subst {0, 0} (λ (x : Option Kind). IsStart (act q x)) h start) ∙ sym (step_within q kind [] 0 (parts ++ behind) refl))
    (λ h. ap may_end e ∙ ap (λ (a : Action). is_skipped a && may_end behind) (sym (ap (act p) h) ∙ is) ∙ no_end (act q None) (may_end (parts ++ behind)) (subst {0, 0} (λ (x : Option Kind). IsStart (act q x)) h start)) where
      entered : (kind : Kind) (inside outside : List Part) → inside ++ outside ≡ p ∷ behind → act p (Some kind) ≡ enter q parts → inner_step inside k outside kind ≡ entering (act q (Some kind)) (parts ++ behind)
      entered kind [] outside e is = ap (λ (list : List Part). inner_step [] k list kind) e ∙ step_around p kind k behind is
      entered kind (r ∷ inside) outside e is = step_within r kind inside k outside (ap (λ (x : Part). act x (Some kind)) (heads e) ∙ is) ∙ ap (λ (list : List Part). entering (act q (Some kind)) (parts ++ list)) (tails e)

-- ---- two parts do the same

same_around : (tokens : List Token) (at : ℕ) (p q : Part) (k : ℕ) (outside : List Part) → act p (token_kind tokens at) ≡ act q (token_kind tokens at) → verdict_at tokens at [] k (p ∷ outside) ≡ verdict_at tokens at [] k (q ∷ outside)
unfolding may_end
same_around tokens at p q k outside is = alike tokens at [] k (p ∷ outside) [] k (q ∷ outside)
    (λ kind h. step_around p kind k outside (subst {0, 0} (λ (x : Option Kind). act p x ≡ act q x) h is) ∙ sym (step_around q kind k outside refl))
    (λ h. ap (λ (a : Action). is_skipped a && may_end outside) (subst {0, 0} (λ (x : Option Kind). act p x ≡ act q x) h is))

same_within : (tokens : List Token) (at : ℕ) (p q : Part) (inside : List Part) (k : ℕ) (outside : List Part) → act p (token_kind tokens at) ≡ act q (token_kind tokens at) → verdict_at tokens at (p ∷ inside) k outside ≡ verdict_at tokens at (q ∷ inside) k outside
unfolding may_end
same_within tokens at p q inside k outside is = alike tokens at (p ∷ inside) k outside (q ∷ inside) k outside
    (λ kind h. step_within p kind inside k outside (subst {0, 0} (λ (x : Option Kind). act p x ≡ act q x) h is) ∙ sym (step_within q kind inside k outside refl))
    (λ h. ap (λ (a : Action). is_skipped a && may_end (inside ++ outside)) (subst {0, 0} (λ (x : Option Kind). act p x ≡ act q x) h is))

-- ---- one token

acts : (tokens : List Token) (at : ℕ) {p q : Part} {ps qs : List Part} → p ∷ ps ≡ q ∷ qs → act p (token_kind tokens at) ≡ act q (token_kind tokens at)
acts tokens at e = ap (λ (x : Part). act x (token_kind tokens at)) (heads e)

-- an open part takes a token, with so many operators
pub taken : {tokens : List Token} {at next n c : ℕ} {kind : Kind} {place : Place} {parts behind : List Part} (p : Part) → Stands tokens at kind place next → act p (Some kind) ≡ take_it c parts → levels parts + levels behind ≤ 100 → Flow tokens next (parts ++ behind) (n + c) → Flow tokens at (p ∷ behind) n
taken {tokens} {at} {next} {n} {c} {kind} {parts = parts} {behind = behind} p s is low f = record { few = let most = f.few in omega arith; on = on } where
  on : (inside outside : List Part) (k : ℕ) → inside ++ outside ≡ p ∷ behind → k ≤ n → verdict_at tokens at inside k outside ≡ read
  on [] outside k e l = ap (λ (list : List Part). verdict_at tokens at [] k list) e ∙ takes_around p k behind s is low ∙ f.on [] (parts ++ behind) 0 refl (omega arith)
  on (q ∷ inside) outside k e l =
      let rest : inside ++ outside ≡ behind = tails e in
      takes q inside k outside s (ap (λ (x : Part). act x (Some kind)) (heads e) ∙ is) (let same = ap levels rest in omega (arith, levels-append inside outside)) (let most = f.few in omega arith)
      ∙ f.on (parts ++ inside) outside (k + c) (append_assoc parts inside outside ∙ ap (λ (list : List Part). parts ++ list) rest) (omega arith)

-- with none
pub plain : {tokens : List Token} {at next n : ℕ} {kind : Kind} {place : Place} {parts behind : List Part} (p : Part) → Stands tokens at kind place next → act p (Some kind) ≡ take_it 0 parts → levels parts + levels behind ≤ 100 → Flow tokens next (parts ++ behind) n → Flow tokens at (p ∷ behind) n
plain p s is low f = taken p s is low (less f (omega arith))

-- it is skipped
pub skipped : {tokens : List Token} {at n : ℕ} {behind : List Part} (p : Part) → act p (token_kind tokens at) ≡ skip → Flow tokens at behind n → Flow tokens at (p ∷ behind) n
skipped {tokens} {at} {n} {behind} p is f = record { few = f.few; on = on } where
  on : (inside outside : List Part) (k : ℕ) → inside ++ outside ≡ p ∷ behind → k ≤ n → verdict_at tokens at inside k outside ≡ read
  on [] outside k e l = ap (λ (list : List Part). verdict_at tokens at [] k list) e ∙ skips_around tokens at p k behind is ∙ f.on [] behind 0 refl (omega arith)
  on (q ∷ inside) outside k e l = skips tokens at q inside k outside (acts tokens at e ∙ is) ∙ f.on inside outside k (tails e) l

-- the same the other way
pub unskipped : {tokens : List Token} {at n : ℕ} {behind : List Part} (p : Part) → act p (token_kind tokens at) ≡ skip → Flow tokens at (p ∷ behind) n → Flow tokens at behind n
unskipped {tokens} {at} p is f = record { few = f.few; on = λ inside outside k e l. sym (skips tokens at p inside k outside is) ∙ f.on (p ∷ inside) outside k (ap (λ (list : List Part). p ∷ list) e) l }

-- it begins as another does, behind which more is wanted
pub opens : {tokens : List Token} {at n : ℕ} {behind : List Part} (p q : Part) (parts : List Part) → act p (token_kind tokens at) ≡ before (act q (token_kind tokens at)) parts → IsReal (act q (token_kind tokens at)) → Flow tokens at (q ∷ parts ++ behind) n → Flow tokens at (p ∷ behind) n
opens {tokens} {at} {n} {behind} p q parts is real f = record { few = f.few; on = on } where
  on : (inside outside : List Part) (k : ℕ) → inside ++ outside ≡ p ∷ behind → k ≤ n → verdict_at tokens at inside k outside ≡ read
  on [] outside k e l = ap (λ (list : List Part). verdict_at tokens at [] k list) e ∙ opens_around tokens at p q parts k behind is real ∙ f.on [] (q ∷ parts ++ behind) 0 refl (omega arith)
  on (r ∷ inside) outside k e l = opens_as tokens at r q parts inside k outside (acts tokens at e ∙ is) real ∙ f.on (q ∷ parts ++ inside) outside k (ap (λ (list : List Part). q ∷ list) (append_assoc parts inside outside ∙ ap (λ (list : List Part). parts ++ list) (tails e))) l

-- it does the same
pub same_act : {tokens : List Token} {at n : ℕ} {behind : List Part} (p q : Part) → act p (token_kind tokens at) ≡ act q (token_kind tokens at) → Flow tokens at (q ∷ behind) n → Flow tokens at (p ∷ behind) n
same_act {tokens} {at} {n} {behind} p q is f = record { few = f.few; on = on } where
  on : (inside outside : List Part) (k : ℕ) → inside ++ outside ≡ p ∷ behind → k ≤ n → verdict_at tokens at inside k outside ≡ read
  on [] outside k e l = ap (λ (list : List Part). verdict_at tokens at [] k list) e ∙ same_around tokens at p q k behind is ∙ f.on [] (q ∷ behind) k refl l
  on (r ∷ inside) outside k e l = same_within tokens at r q inside k outside (acts tokens at e ∙ is) ∙ f.on (q ∷ inside) outside k (ap (λ (list : List Part). q ∷ list) (tails e)) l

-- a whole expression or type begins, in which operators are counted anew
pub begins : {tokens : List Token} {at n : ℕ} {behind : List Part} (p q : Part) (parts : List Part) → act p (token_kind tokens at) ≡ enter q parts → IsStart (act q (token_kind tokens at)) → n ≤ 1000 → Flow tokens at (q ∷ parts ++ behind) 0 → Flow tokens at (p ∷ behind) n
begins {tokens} {at} {n} {behind} p q parts is start few f = record { few = few; on = λ inside outside k e l. enters tokens at p q parts behind inside k outside e is start ∙ f.on (q ∷ []) (parts ++ behind) 0 refl (omega arith) }
