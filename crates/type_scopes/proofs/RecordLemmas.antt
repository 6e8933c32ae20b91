-- The order of faults, and the least of those that are recorded.
use Rattle.std.proofs.Common.{◌≡◌, ◌∙◌, ◌<◌, ◌≤◌, ◌==◌, ◌⊎◌, inl, inr, ℕ, nat_lt, Bool, true, false, Option, Some, None, refl, sym, ap, subst, arith, if◌then◌else◌}
use Rattle.std.proofs.lemmas.Bool.{eqb-false, eqb-true, le-ltb, ltb-false, ltb-true}
use Rattle.std.specs.Option.{option_map}
use Rattle.std.specs.Prelude.{IsNone, MatchOption}
use Rattle.cstar_base.specs.declared.faults.Fault.{Fault}
use Rattle.cstar_base.specs.declared.operators.Place.{Place}
use Rattle.cstar_base.specs.Faults.{number_of}
use Rattle.cstar_tree.specs.FaultOrder.{comes_before}
use Rattle.type_scopes.specs.declared.standing.Standing.{Standing}
use Rattle.type_scopes.specs.Faults.{IsCovered, IsLeastOf, Records, lesser, told}

module _ (a b c d e f : ℕ) where
  abbrev before : Bool
  before = if a == d then (if b == e then nat_lt c f else nat_lt b e) else nat_lt a d

  earlier : before ≡ true → (a ≤ d) × (a ≡ d → b ≤ e) × (a ≡ d → b ≡ e → c < f)
  earlier is = step (a == d) (b == e) refl refl is
    where
      step : (l k : Bool) → (a == d) ≡ l → (b == e) ≡ k → (if l then (if k then nat_lt c f else nat_lt b e) else nat_lt a d) ≡ true → (a ≤ d) × (a ≡ d → b ≤ e) × (a ≡ d → b ≡ e → c < f)
      step true true l k is = let s = eqb-true a d l in let t = eqb-true b e k in (omega arith, λ x. omega arith, λ x y. ltb-true c f is)
      step true false l k is = let s = eqb-true a d l in let t = ltb-true b e is in (omega arith, λ x. omega arith, λ x y. absurd (eqb-false b e k y))
      step false k l _ is = let s = ltb-true a d is in (omega arith, λ x. absurd (eqb-false a d l x), λ x y. absurd (eqb-false a d l x))

  no_earlier : before ≡ false → (d ≤ a) × (a ≡ d → e ≤ b) × (a ≡ d → b ≡ e → f ≤ c)
  no_earlier is = step (a == d) (b == e) refl refl is
    where
      step : (l k : Bool) → (a == d) ≡ l → (b == e) ≡ k → (if l then (if k then nat_lt c f else nat_lt b e) else nat_lt a d) ≡ false → (d ≤ a) × (a ≡ d → e ≤ b) × (a ≡ d → b ≡ e → f ≤ c)
      step true true l k is = let s = eqb-true a d l in let t = eqb-true b e k in (omega arith, λ x. omega arith, λ x y. ltb-false c f is)
      step true false l k is = let s = eqb-true a d l in let t = ltb-false b e is in (omega arith, λ x. omega arith, λ x y. absurd (eqb-false b e k y))
      step false k l _ is = let s = ltb-false a d is in (omega arith, λ x. absurd (eqb-false a d l x), λ x y. absurd (eqb-false a d l x))

  late : d ≤ a → (a ≡ d → e ≤ b) → (a ≡ d → b ≡ e → f ≤ c) → before ≡ false
  late x y z = step (a == d) (b == e) refl refl
    where
      step : (l k : Bool) → (a == d) ≡ l → (b == e) ≡ k → (if l then (if k then nat_lt c f else nat_lt b e) else nat_lt a d) ≡ false
      step true true l k = le-ltb c f (z (eqb-true a d l) (eqb-true b e k))
      step true false l k = le-ltb b e (y (eqb-true a d l))
      step false k l _ = le-ltb a d x

through : (a b c d e f x y z : ℕ) → before a b c d e f ≡ false → before x y z d e f ≡ true → before a b c x y z ≡ false
through a b c d e f x y z first second =
    let n = no_earlier a b c d e f first in
    let m = earlier x y z d e f second in
    late a b c x y z (omega (arith, n.0, m.0)) (
    λ ax.
    let ad : a ≡ d = omega (arith, n.0, m.0) in
    let xd : x ≡ d = omega arith in
    omega (arith, n.1 ad, m.1 xd)
    ) (
    λ ax y_is.
    let ad : a ≡ d = omega (arith, n.0, m.0) in
    let xd : x ≡ d = omega arith in
    let be : b ≡ e = omega (arith, n.1 ad, m.1 xd) in
    let ye : y ≡ e = omega arith in
    omega (arith, n.2 ad be, m.2 xd ye)
    )

-- no fault comes before itself
itself : (fault : Fault) (p : Place) → comes_before fault p fault p ≡ false
itself fault p = late p.line p.col (number_of fault) p.line p.col (number_of fault) (omega arith) (λ x. omega arith) (λ x y. omega arith)

-- what does not come before a fault comes before no lesser one
lesser_covers : (g f l : Fault) (q p o : Place) → comes_before g q l o ≡ false → comes_before f p l o ≡ true → comes_before g q f p ≡ false
lesser_covers g f l q p o = through q.line q.col (number_of g) o.line o.col (number_of l) p.line p.col (number_of f)

same_covered : (f : Fault) (p : Place) (a b : Fault × Place) → a ≡ b → comes_before f p b.0 b.1 ≡ false → comes_before f p a.0 a.1 ≡ false
same_covered f p a b is h = subst (λ (t : Fault × Place). comes_before f p t.0 t.1 ≡ false) (sym is) h

same_covers : (a b : Fault × Place) (s : Standing) → a ≡ b → comes_before b.0 b.1 s.fault s.place ≡ false → comes_before a.0 a.1 s.fault s.place ≡ false
same_covers a b s is h = subst (λ (t : Fault × Place). comes_before t.0 t.1 s.fault s.place ≡ false) (sym is) h

-- no fault is recorded, or one
pub records_none : (P : Fault → Place → Type 0) (old new : Option Standing) → ((f : Fault) (p : Place) → P f p → ⊥) → new ≡ old → Records P old new
records_none P old new none is = record {
  covers = λ f p h. absurd (none f p h);
  kept = λ f p h. subst (λ (l : Option Standing). IsCovered l f p) (sym is) h;
  honest = inl (ap (option_map told) is);
}

pub records_one : (P : Fault → Place → Type 0) (old new : Option Standing) (f : Fault) (p : Place) → P f p → ((g : Fault) (q : Place) → P g q → ◌≡◌ {A = Fault × Place} (g, q) (f, p)) → MatchOption new ⊥ (λ least. told least ≡ lesser old f p) → Records P old new
records_one P old None f p h only is = absurd is
records_one P None (Some s) f p h only is = record {
  covers = λ g q k. same_covers (g, q) (f, p) s (only g q k) (same_covered f p (told s) (f, p) is (itself f p));
  kept = λ g q k. absurd k;
  honest = inr (subst (λ (t : Fault × Place). P t.0 t.1) (sym is) h);
}
records_one P (Some l) (Some s) f p h only is = step (comes_before f p l.fault l.place) refl is
  where
    step : (b : Bool) → comes_before f p l.fault l.place ≡ b → told s ≡ (if b then (f, p) else told l) → Records P (Some l) (Some s)
    step true e is = record {
      covers = λ g q k. same_covers (g, q) (f, p) s (only g q k) (same_covered f p (told s) (f, p) is (itself f p));
      kept = λ g q k. same_covered g q (told s) (f, p) is (lesser_covers g f l.fault q p l.place k e);
      honest = inr (subst (λ (t : Fault × Place). P t.0 t.1) (sym is) h);
    }
    step false e is = record {
      covers = λ g q k. same_covers (g, q) (f, p) s (only g q k) (same_covered f p (told s) (told l) is e);
      kept = λ g q k. same_covered g q (told s) (told l) is k;
      honest = inl (ap (λ (t : Fault × Place). Some t) is);
    }

-- faults are recorded, and then others
carried : (P W : Fault → Place → Type 0) (old new : Option Standing) → ((f : Fault) (p : Place) → P f p → W f p) → option_map told new ≡ option_map told old → MatchOption old ⊥ (λ l. P l.fault l.place) → MatchOption new ⊥ (λ l. W l.fault l.place)
carried P W None new into is h = absurd h
carried P W (Some o) None into is h = absurd (cc)
carried P W (Some o) (Some n) into is h =
    let same : told n ≡ told o = cc in
    subst (λ (t : Fault × Place). W t.0 t.1) (sym same) (into o.fault o.place h)

pub records_both : (P Q W : Fault → Place → Type 0) (old mid new : Option Standing) → ((f : Fault) (p : Place) → W f p → P f p ⊎ Q f p) → ((f : Fault) (p : Place) → P f p → W f p) → ((f : Fault) (p : Place) → Q f p → W f p) → Records P old mid → Records Q mid new → Records W old new
records_both P Q W old mid new split left right first second = record {
  covers = λ f p w. elim (split f p w) [
    | inl h ↦ second.kept f p (first.covers f p h)
    | inr h ↦ second.covers f p h
  ];
  kept = λ f p h. second.kept f p (first.kept f p h);
  honest = elim second.honest [
    | inl same ↦ elim first.honest [
      | inl e ↦ inl (same ∙ e)
      | inr h ↦ inr (carried P W mid new left same h)
    ]
    | inr h ↦ inr (carried Q W new new right refl h)
  ];
}

-- what is recorded of no fault before is the least of all
pub least_of : (W : Fault → Place → Type 0) (least : Option Standing) → Records W None least → IsLeastOf W least
least_of W None all = all.covers
least_of W (Some s) all = (elim all.honest [ inl is ↦ absurd (cc) | inr h ↦ h ], all.covers)

-- faults are told in other words
pub records_as : (P W : Fault → Place → Type 0) (old new : Option Standing) → ((f : Fault) (p : Place) → W f p → P f p) → ((f : Fault) (p : Place) → P f p → W f p) → Records P old new → Records W old new
records_as P W old new from into all = record {
  covers = λ f p w. all.covers f p (from f p w);
  kept = all.kept;
  honest = elim all.honest [ inl same ↦ inl same | inr h ↦ inr (carried P W new new into refl h) ];
}

pub no_least : (least : Option Standing) → IsNone least → least ≡ None
no_least None is = refl
no_least (Some s) is = absurd (cc)
