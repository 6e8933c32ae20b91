-- What is recorded, one part after another.
use Rattle.std.proofs.Common.{◌≡◌, ◌&&◌, ◌⊎◌, inl, inr, ℕ, List, Bool, true, false, Option, Some, None, IfOk, OnOk, Result, Ok, Err, refl, sym, ap, subst, ◌∙◌, true≢false}
use Rattle.std.specs.Option.{is_some, option_map}
use Rattle.std.specs.Prelude.{IsSome, MatchOption}
use Rattle.cstar_base.specs.declared.faults.Fault.{Fault}
use Rattle.cstar_base.specs.declared.operators.Place.{Place}
use Rattle.cstar_tree.specs.declared.syntax.Expr.{Expr}
use Rattle.cstar_tree.specs.declared.typed.TExpr.{TExpr}
use Rattle.cstar_tree.specs.ExpressionFaults.{FaultIn, IsPart, ValueFaultIn}
use Rattle.cstar_tree.specs.ExpressionFaults as F
use Rattle.cstar_tree.specs.Headers.{Program}
use Rattle.cstar_tree.specs.Scopes.{Here, part}
use Rattle.type_scopes.specs.Answers.{IsRecorded, IsSettled, part_of}
use Rattle.type_scopes.specs.Faults.{IsCovered, Records, lesser, told}
use Rattle.type_scopes.specs.declared.faults.Untyped.{Untyped}
use Rattle.type_scopes.specs.declared.faults.Untyped.TheVariants as N
use Rattle.type_scopes.specs.declared.standing.Standing.{Standing}
use Rattle.type_scopes.proofs.RecordLemmas.{records_one}
use Rattle.type_expressions.specs.Answers.{IsOutcome}
use Rattle.type_expressions.specs.Recorded.{IfUntyped, IsOfHeader, IsRecordable, IsUntyped, Rests, Tells, TellsOf}
use Rattle.type_expressions.specs.Recorded as R
use Rattle.type_expressions.specs.declared.found.TypedExpr.{TypedExpr}

-- ---- the least fault

covers_itself : (s : Standing) → IsCovered (Some s) s.fault s.place
covers_itself s =
    let all = records_one (λ g q. ◌≡◌ {A = Fault × Place} (g, q) (s.fault, s.place)) None (Some s) s.fault s.place refl (λ g q is. is) refl in
    all.covers s.fault s.place refl

some_kept : (old new : Option Standing) → ((f : Fault) (p : Place) → IsCovered old f p → IsCovered new f p) → IsSome old → IsSome new
some_kept None new kept is = absurd (true≢false (sym is))
some_kept (Some s) None kept is = absurd (kept s.fault s.place (covers_itself s))
some_kept (Some s) (Some t) kept is = refl

some_told : (f : Fault) (p : Place) (old new : Option Standing) → MatchOption new ⊥ (λ least. told least ≡ lesser old f p) → IsSome new
some_told f p old None is = absurd is
some_told f p old (Some s) is = refl

recorded_as : (S T : Fault → Place → Type 0) (new : Option Standing) → ((f : Fault) (p : Place) → S f p → T f p) → MatchOption new ⊥ (λ l. S l.fault l.place) → MatchOption new ⊥ (λ l. T l.fault l.place)
recorded_as S T None into h = absurd h
recorded_as S T (Some s) into h = into s.fault s.place h

told_still : (S : Fault → Place → Type 0) (old new : Option Standing) → option_map told new ≡ option_map told old → MatchOption old ⊥ (λ l. S l.fault l.place) → MatchOption new ⊥ (λ l. S l.fault l.place)
told_still S None new is h = absurd h
told_still S (Some o) None is h = absurd (cc)
told_still S (Some o) (Some n) is h =
    let same : told n ≡ told o = cc in
    subst (λ (t : Fault × Place). S t.0 t.1) (sym same) h

-- ---- what is recorded

-- no fault is
pub tells_same : (S : Fault → Place → Type 0) (W : Type 0) (typed : Bool) (old new : Option Standing) → new ≡ old → (typed ≡ false → W) → Tells S W typed old new
tells_same S W typed old new is why = record {
  kept = λ f p h. subst (λ (l : Option Standing). IsCovered l f p) (sym is) h;
  honest = inl (ap (option_map told) is);
  untyped = λ none. inr (why none);
}

-- one is
pub tells_one : (S : Fault → Place → Type 0) (W : Type 0) (typed : Bool) (old new : Option Standing) (f : Fault) (p : Place) → S f p → MatchOption new ⊥ (λ least. told least ≡ lesser old f p) → Tells S W typed old new
tells_one S W typed old new f p stands is =
    let this : Fault → Place → Type 0 = λ g q. ◌≡◌ {A = Fault × Place} (g, q) (f, p) in
    let all : Records this old new = records_one this old new f p refl (λ g q same. same) is in record {
      kept = all.kept;
      honest = elim all.honest [
        | inl same ↦ inl same
        | inr h ↦ inr (recorded_as this S new (λ g q same. subst (λ (t : Fault × Place). S t.0 t.1) (sym same) stands) h)
      ];
      untyped = λ none. inl (some_told f p old new is);
    }

-- the same in other words
pub tells_as : {S T : Fault → Place → Type 0} {W V : Type 0} {typed : Bool} {old new : Option Standing} → ((f : Fault) (p : Place) → S f p → T f p) → (W → V) → Tells S W typed old new → Tells T V typed old new
tells_as {S} {T} {new = new} into because all = record {
  kept = all.kept;
  honest = elim all.honest [ inl same ↦ inl same | inr h ↦ inr (recorded_as S T new into h) ];
  untyped = λ none. elim (all.untyped none) [ inl some ↦ inl some | inr why ↦ inr (because why) ];
}

-- more is recorded behind it; where that has no tree, it says why, or the first part has none
pub tells_then : {S : Fault → Place → Type 0} {W V : Type 0} {first typed : Bool} {old mid new : Option Standing} → (V → W ⊎ (first ≡ false)) → Tells S W first old mid → Tells S V typed mid new → Tells S W typed old new
tells_then {S} {old = old} {mid = mid} {new = new} because a b = record {
  kept = λ f p h. b.kept f p (a.kept f p h);
  honest = elim b.honest [
    | inl same ↦ elim a.honest [ inl before ↦ inl (same ∙ before) | inr h ↦ inr (told_still S mid new same h) ]
    | inr h ↦ inr h
  ];
  untyped = λ none. elim (b.untyped none) [
    | inl some ↦ inl some
    | inr why ↦ elim (because why) [
      | inl w ↦ inr w
      | inr lack ↦ elim (a.untyped lack) [ inl some ↦ inl (some_kept mid new b.kept some) | inr w ↦ inr w ]
    ]
  ];
}

-- two parts, of which each may have no tree
pub tells_both : {S : Fault → Place → Type 0} {W : Type 0} {first second typed : Bool} {old mid new : Option Standing} → (typed ≡ false → (first ≡ false) ⊎ (second ≡ false)) → Tells S W first old mid → Tells S W second mid new → Tells S W typed old new
tells_both {S} {old = old} {mid = mid} {new = new} either a b = record {
  kept = λ f p h. b.kept f p (a.kept f p h);
  honest = elim b.honest [
    | inl same ↦ elim a.honest [ inl before ↦ inl (same ∙ before) | inr h ↦ inr (told_still S mid new same h) ]
    | inr h ↦ inr h
  ];
  untyped = λ none. elim (either none) [
    | inl lack ↦ elim (a.untyped lack) [ inl some ↦ inl (some_kept mid new b.kept some) | inr w ↦ inr w ]
    | inr lack ↦ b.untyped lack
  ];
}

-- ---- what is settled

recorded : (S : Fault → Place → Type 0) (W : Type 0) (typed : Bool) (u : Untyped) (old new : Option Standing) → IsUntyped S W u → IsRecorded old u new → Tells S W typed old new
recorded S W typed (N.Fault s) old new h is = tells_one S W typed old new s.fault s.place h is
recorded S W typed N.Faulty old new h is = tells_same S W typed old new is (λ none. h)
recorded S W typed N.Memory old new h is = absurd is

pub tells_settled : {A : Type 0} (S : Fault → Place → Type 0) (W : Type 0) (part : Result A Untyped) (r : Option A) (old new : Option Standing) → IfUntyped S W part → r ≡ part_of part → IsSettled old part new → Tells S W (is_some r) old new
tells_settled S W (Ok a) r old new h is settled = tells_same S W (is_some r) old new settled (λ none. absurd (true≢false (sym (ap is_some is) ∙ none)))
tells_settled S W (Err u) r old new h is settled = recorded S W (is_some r) u old new h settled

pub tells_outcome : (S : Fault → Place → Type 0) (W : Type 0) (typed : Result TExpr Untyped) (r : Option TypedExpr) (old new : Option Standing) → IfUntyped S W typed → IsOutcome typed old new r → Tells S W (is_some r) old new
tells_outcome S W (Ok t) None old new h is = absurd is
tells_outcome S W (Ok t) (Some x) old new h is = tells_same S W true old new is.2 (λ none. absurd (true≢false none))
tells_outcome S W (Err u) None old new h is = recorded S W false u old new h is
tells_outcome S W (Err u) (Some x) old new h is = absurd is

-- where one of two is wanting
pub one_of : (a b : Bool) → (a && b) ≡ false → (a ≡ false) ⊎ (b ≡ false)
one_of false b is = inl refl
one_of true b is = inr is

-- what a call answers of a part and of the least fault
pub both_ok : {A E : Type 0} (result : Result A E) (P : A → Type 0) (Q : Type 0) {T : A → Type 0} → ((r : A) → P r → Q → T r) → IfOk result P → OnOk result Q → IfOk result T
both_ok (Ok r) P Q into p q = into r p q
both_ok (Err e) P Q into p q = tt

pub is_none : {A : Type 0} (o : Option A) → ((x : A) → o ≡ Some x → ⊥) → o ≡ None
is_none None never = refl
is_none (Some x) never = absurd (never x refl)

pub lacks : {A : Type 0} (o : Option A) → ((x : A) → o ≡ Some x → ⊥) → is_some o ≡ false
lacks o never = ap is_some (is_none o never)

-- ---- a part of an expression

value_in_part : {program : Program} {here : Here} (there : Here) {e x : Expr} {f : Fault} {p : Place} → IsPart here e (part there) x → ValueFaultIn program (part there) x f p → FaultIn program here e f p
value_in_part there is (F.within h) = F.in_part is h
value_in_part there is (F.without_value h) = F.no_value is h

pub recordable_as : {program : Program} {here there : Here} {S T : Fault → Place → Type 0} → there.shapes ≡ here.shapes → there.around ≡ here.around → ((f : Fault) (p : Place) → S f p → T f p) → (f : Fault) (p : Place) → IsRecordable program there S f p → IsRecordable program here T f p
recordable_as shapes around into f p (R.stands h) = R.stands (into f p h)
recordable_as {program} shapes around into f p (R.in_header h) = R.in_header (subst (λ (k : List (List ℕ)). IsOfHeader program k f p) shapes h)
recordable_as shapes around into f p (R.outside is) = R.outside (sym around ∙ is)

pub tells_of_part : {program : Program} {here : Here} (there : Here) {e x : Expr} {typed : Bool} {old new : Option Standing} → IsPart here e (part there) x → there.shapes ≡ here.shapes → there.around ≡ here.around → Tells (IsRecordable program there (ValueFaultIn program (part there) x)) (Rests program (part there) x) typed old new → TellsOf program here e typed old new
tells_of_part there is shapes around = tells_as (recordable_as {there = there} shapes around (λ f p h. value_in_part there is h)) (λ h. R.in_part is h)
