-- The order of places, and that of faults.
use Rattle.std.proofs.Common.{◌≡◌, ℕ, ◌<◌, ◌≤◌, ◌==◌, ◌⊎◌, inl, inr, nat_lt, Bool, true, false, if◌then◌else◌, arith, refl, sym, ap, ◌∙◌}
use Rattle.std.proofs.lemmas.Bool.{cases_lt, eqb-false, eqb-true, lt-ltb, ltb-true}
use Rattle.cstar_base.specs.declared.faults.Fault.{Fault}
use Rattle.cstar_base.specs.declared.operators.Place.{Place}
use Rattle.cstar_base.specs.Faults.{number_of}
use Rattle.tree_places.specs.Laws.{FaultsFollowPlaces, PlacesStandInOneOrder}
use Rattle.tree_places.specs.Order.{NotBehind}

pub same_place : (p : Place) → NotBehind p p
same_place p = record { lines = omega arith; columns = λ e. omega arith }

pub later : {p q r : Place} → NotBehind p q → NotBehind q r → NotBehind p r
later {p} {q} {r} a b = let f = a.lines in let g = b.lines in record {
  lines = omega arith;
  columns = λ e. (let h = a.columns (omega arith) in let k = b.columns (omega arith) in omega arith);
}

on_earlier_line : (p q : Place) → p.line < q.line → NotBehind p q
on_earlier_line p q h = record { lines = omega arith; columns = λ e. omega arith }

on_one_line : (p q : Place) → p.line ≡ q.line → p.col ≤ q.col → NotBehind p q
on_one_line p q e h = record { lines = omega arith; columns = λ e'. h }

both_ways : (p q : Place) → NotBehind p q → NotBehind q p → p ≡ q
both_ways p q a b =
    let f = a.lines in
    let g = b.lines in
    let e : p.line ≡ q.line = omega arith in
    let h = a.columns e in
    let k = b.columns (sym e) in
    let e' : p.col ≡ q.col = omega arith in
    ap (λ (n : ℕ). record { line = n; col = p.col }) e ∙ ap (λ (n : ℕ). record { line = q.line; col = n }) e'

any_two : (p q : Place) → NotBehind p q ⊎ NotBehind q p
any_two p q = by_lines (cases_lt p.line q.line) (cases_lt q.line p.line) (cases_lt p.col q.col) where
  by_lines : (p.line < q.line) ⊎ (q.line ≤ p.line) → (q.line < p.line) ⊎ (p.line ≤ q.line) → (p.col < q.col) ⊎ (q.col ≤ p.col) → NotBehind p q ⊎ NotBehind q p
  by_lines (inl h) b c = inl (on_earlier_line p q h)
  by_lines (inr g) (inl h) c = inr (on_earlier_line q p h)
  by_lines (inr g) (inr h) (inl c) = inl (on_one_line p q (omega arith) (omega arith))
  by_lines (inr g) (inr h) (inr c) = inr (on_one_line q p (omega arith) c)

pub one_order : PlacesStandInOneOrder
one_order = record { same = same_place; through = λ p q r a b. later a b; both = both_ways; any = any_two }

module _ (fault other : Fault) (p q : Place) where
  chosen : Bool → Bool → Bool
  chosen same_line same_column = if same_line then (if same_column then nat_lt (number_of fault) (number_of other) else nat_lt p.col q.col) else nat_lt p.line q.line

  told_by : (same_line same_column : Bool) → (p.line == q.line) ≡ same_line → (p.col == q.col) ≡ same_column → chosen same_line same_column ≡ true → NotBehind p q
  unfolding chosen
  told_by true true e f h = on_one_line p q (eqb-true p.line q.line e) (let g = eqb-true p.col q.col f in omega arith)
  told_by true false e f h = on_one_line p q (eqb-true p.line q.line e) (let g = ltb-true p.col q.col h in omega arith)
  told_by false f' e f h = on_earlier_line p q (ltb-true p.line q.line h)

  earlier_by : (same_line same_column : Bool) → (p.line == q.line) ≡ same_line → (p.col == q.col) ≡ same_column → (NotBehind q p → ⊥) → chosen same_line same_column ≡ true
  unfolding chosen
  earlier_by true true e f none = absurd (none (on_one_line q p (sym (eqb-true p.line q.line e)) (let g = eqb-true p.col q.col f in omega arith)))
  earlier_by true false e f none = by (cases_lt p.col q.col) where
    by : (p.col < q.col) ⊎ (q.col ≤ p.col) → nat_lt p.col q.col ≡ true
    by (inl h) = lt-ltb p.col q.col h
    by (inr h) = absurd (none (on_one_line q p (sym (eqb-true p.line q.line e)) h))
  earlier_by false f' e f none = by (cases_lt p.line q.line) where
    different : p.line ≡ q.line → ⊥
    different = eqb-false p.line q.line e

    by : (p.line < q.line) ⊎ (q.line ≤ p.line) → nat_lt p.line q.line ≡ true
    by (inl h) = lt-ltb p.line q.line h
    by (inr h) = by_other (cases_lt q.line p.line) where
      by_other : (q.line < p.line) ⊎ (p.line ≤ q.line) → nat_lt p.line q.line ≡ true
      by_other (inl g) = absurd (none (on_earlier_line q p g))
      by_other (inr g) = absurd (different (omega arith))

pub faults : FaultsFollowPlaces
unfolding chosen
faults = record {
  told = λ fault other p q h. told_by fault other p q (p.line == q.line) (p.col == q.col) refl refl h;
  earlier = λ fault other p q none. earlier_by fault other p q (p.line == q.line) (p.col == q.col) refl refl none;
}
