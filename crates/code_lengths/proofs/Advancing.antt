-- Units that go on behind statements: what is said of the draft behind is passed on.
use Rattle.std.proofs.Common.{◌≡◌, ℕ, ◌+◌, List, [], ◌++◌, ap, ◌∙◌, subst, append_assoc}
use Rattle.lower_base.specs.Drafts.{Draft, Made, Makes, Fails, then_make}
use Rattle.code_lengths.specs.Growth.{Advanced, Extended, Grows, GrowsOr, Leads, with_homes}
use Rattle.code_lengths.proofs.Drafting.{append_nothing, extended}

-- the same with other homes before and behind
rehomed : (d e : Draft) (n : ℕ) (before after : List ℕ) → after ≡ before → Extended d n e → Extended (record d { homes = before }) n (record e { homes = after })
rehomed d e n before after is x = record { name = x.name; more = x.more; code = x.code; long = x.long; entries = x.entries; fields = x.fields; regs = x.regs; homes = is }

pub advanced : (d e : Draft) (n : ℕ) → Extended d n e → Advanced d n e
advanced d e n x = ([], rehomed d e n (d.homes ++ []) e.homes (x.homes ∙ append_nothing d.homes) x)

further : (d e f : Draft) (a b : ℕ) → Advanced d a e → Advanced e b f → Advanced d (a + b) f
further d e f a b x y = (
  x.0 ++ y.0,
  extended (with_homes (x.0 ++ y.0) d) (with_homes y.0 e) f a b
      (rehomed (with_homes x.0 d) e a (d.homes ++ (x.0 ++ y.0)) (e.homes ++ y.0) (ap (λ (homes : List ℕ). homes ++ y.0) x.1.homes ∙ append_assoc d.homes x.0 y.0) x.1)
      y.1,
)

pub leads : {A : Type 0} (P : A → Draft → Type 0) (x : A) (d e : Draft) (n : ℕ) → P x e → Advanced d n e → Leads d n P (Makes x e)
unfolding Leads
leads P x d e n p g = (p, g)

pub leads_sized : {A : Type 0} (P : A → Draft → Type 0) (d : Draft) (a b : ℕ) (m : Made A) → a ≡ b → Leads d a P m → Leads d b P m
leads_sized P d a b m h g = subst (λ k. Leads d k P m) h g

pub leads_behind : {A : Type 0} (P : A → Draft → Type 0) (d e : Draft) (a b : ℕ) (m : Made A) → Extended d a e → Leads e b P m → Leads d (a + b) P m
unfolding Leads
leads_behind P d e a b (Makes x f) x1 g = (g.0, further d e f a b (advanced d e a x1) g.1)
leads_behind P d e a b Fails x1 g = absurd g

pub leads_then : {A B : Type 0} (P : A → Draft → Type 0) (Q : B → Draft → Type 0) (d : Draft) (a b : ℕ) (m : Made A) (next : A → Draft → Made B) → Leads d a P m →
    ((x : A) (e : Draft) → P x e → Leads e b Q (next x e)) → Leads d (a + b) Q (then_make m next)
unfolding Leads then_make
leads_then P Q d a b (Makes x e) next g f = on (next x e) (f x e g.0)
  where
    on : (made : Made _) → Leads e b Q made → Leads d (a + b) Q made
    on (Makes y f) after = (after.0, further d e f a b g.1 after.1)
    on Fails after = absurd after
leads_then P Q d a b Fails next g f = absurd g

-- what grows leads on, where something of the draft before stays true behind it
pub leads_from : {A : Type 0} (P : A → Type 0) (Q : A → Draft → Type 0) (d : Draft) (n : ℕ) (m : Made A) → ((x : A) (e : Draft) → P x → Extended d n e → Q x e) → Grows d n P m → Leads d n Q m
unfolding Leads GrowsOr
leads_from P Q d n (Makes x e) stays g = (stays x e g.0 g.1, advanced d e n g.1)
leads_from P Q d n Fails stays g = absurd g
