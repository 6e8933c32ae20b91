-- Outside all functions an expression without a fault has a type, or is told to be no constant.
use Rattle.std.proofs.Common.{◌≡◌, ◌⊎◌, inl, inr, ℕ, Bool, true, false, List, [], Option, None, sym, ap, subst, ◌∙◌}
use Rattle.std.specs.List.{All, slice_get}
use Rattle.std.proofs.lemmas.List.Elements.{All-head}
use Rattle.cstar_base.specs.declared.faults.Fault.{Fault}
use Rattle.cstar_base.specs.declared.operators.Place.{Place}
use Rattle.cstar_tree.specs.declared.syntax.Expr.{Expr}
use Rattle.cstar_tree.specs.declared.typed.TExpr.{TExpr}
use Rattle.cstar_tree.specs.declared.typed.ValueType.{ValueType}
use Rattle.cstar_tree.specs.ExpressionFaults.{AreFaultless, FaultIn, IsAxisPart, IsFaultless, IsPart, IsUntold}
use Rattle.cstar_tree.specs.ExpressionFaults as F
use Rattle.cstar_tree.specs.ExpressionTypes.{HasValue, Types}
use Rattle.cstar_tree.specs.Headers.{Program}
use Rattle.cstar_tree.specs.Scopes.{Here, meaning, part}
use Rattle.expression_outcomes.specs.Outcomes.{HasItsNames, HasType, HasTypedVariables, IsOfProgram, Outcome, Rests}
use Rattle.expression_outcomes.specs.Outcomes as O
use Rattle.expression_outcomes.proofs.ByParts.{every, of_part, parts}
use Rattle.expression_outcomes.proofs.Called.{around_there, elsewhere, place_there}
use Rattle.expression_outcomes.proofs.Coming.{known_there, of_program_inside, of_program_there}
use Rattle.expression_outcomes.proofs.Outcomes.{expression}
use Rattle.unique_types.proofs.Faultless.{axis_part}
use Rattle.unique_types.proofs.Judged.{judged, judged_call}
use Rattle.unique_types.proofs.Parts.{no_faulty_type, parameters_are, part_typed}

variables_elsewhere : (here : Here) (dot : Option ℕ) (whole : Bool) → HasTypedVariables here → HasTypedVariables (elsewhere here dot whole)
unfolding meaning
variables_elsewhere here dot whole typed = typed

variables_there : {here there : Here} {e x : Expr} → IsPart here e there x → HasTypedVariables here → HasTypedVariables there
variables_there {here} {there} is typed = subst HasTypedVariables (sym (place_there is)) (variables_elsewhere here there.dot there.whole typed)

-- what has a type does not rest on a faulty declaration
rests_untyped : {program : Program} {here : Here} {e : Expr} {t : TExpr} {b : Bool} → Rests program here e → here.around ≡ None → HasTypedVariables here → Types program here e t b → ⊥
rests_untyped (O.on_variable {n = n} {v = v} as_one is) outside typed h = typed n.word v is
rests_untyped (O.on_function arguments means is (O.parameter which none)) outside typed h =
    let j = judged_call arguments h in
    no_faulty_type j.types which (ap (λ (l : List (Option ValueType)). slice_get l which) (sym (parameters_are j means is)) ∙ none)
rests_untyped (O.on_function arguments means is (O.result at_function unknown)) outside typed h = cc
rests_untyped (O.in_part is rests) outside typed h = let x = part_typed is h in rests_untyped rests (around_there is ∙ outside) (variables_there is typed) x.types
rests_untyped (O.in_brackets inner rests) outside typed h = let j = judged h in rests_untyped rests outside typed j.types

module _ (program : Program) where
  abbrev NoFault : Here → Expr → Type 0
  NoFault here e = (fault : Fault) (p : Place) → FaultIn program here e fault p → ⊥

  abbrev Found : Here → Expr → Type 0
  Found here e = HasType program here e ⊎ IsUntold program here e

  abbrev IsFound : Expr → Type 0
  IsFound e = (here : Here) → HasItsNames program here → IsOfProgram program here e → here.around ≡ None → HasTypedVariables here → NoFault here e → Found here e

  module _ {here : Here} (k : HasItsNames program here) (outside : here.around ≡ None) (variables : HasTypedVariables here) where
    at_part : {there : Here} {e x : Expr} → All IsFound (parts e) → IsOfProgram program here e → NoFault here e → IsPart here e there x → Found there x
    at_part {there = there} all i none is =
        of_part IsFound all is there (known_there is k) (of_program_there is i) (around_there is ∙ outside) (variables_there is variables) (λ fault p stands. none fault p (F.in_part is stands))

    value_of : {there : Here} {e x : Expr} → NoFault here e → IsPart here e there x → HasType program there x → HasValue program there x
    value_of none is (t, true, h) = (t, h)
    value_of none is (t, false, h) = absurd (none _ _ (F.no_value is h))

    part_faultless : {there : Here} {e x : Expr} → NoFault here e → IsPart here e there x → Found there x → IsFaultless program there x
    part_faultless none is (inl typed) = F.IsFaultless.typed (value_of none is typed)
    part_faultless none is (inr untold) = F.IsFaultless.untold untold

    axis_typed : {e axis : Expr} → NoFault here e → IsAxisPart e axis → Found (part here) axis → HasValue program (part here) axis
    axis_typed none is (inl typed) = value_of none (axis_part is) typed
    axis_typed none is (inr untold) = absurd (none _ _ (F.axis_untold is untold))

    are_faultless : {e : Expr} → All IsFound (parts e) → IsOfProgram program here e → NoFault here e → AreFaultless program here e
    are_faultless all i none =
        F.AreFaultless.faultless outside (λ fault p stands. none fault p (F.at stands))
        (λ axis is. axis_typed none is (at_part all i none (axis_part is)))
        (λ there x is. part_faultless none is (at_part all i none is))

    found_rests : {e : Expr} → Rests program here e → All IsFound (parts e) → IsOfProgram program here e → NoFault here e → Found here e
    found_rests (O.on_variable {n = n} {v = v} as_one is) all i none = absurd (variables n.word v is)
    found_rests (O.on_function arguments means is (O.parameter which no_type)) all i none = inr (F.faulty_call arguments which means is no_type (are_faultless all i none))
    found_rests (O.on_function arguments means is (O.result at_function unknown)) all i none = absurd (cc)
    found_rests (O.in_part is rests) all i none = elim (at_part all i none is) [
      | inl typed ↦ absurd (rests_untyped rests (around_there is ∙ outside) (variables_there is variables) typed.2)
      | inr untold ↦ inr (F.in_untold_part is untold (are_faultless all i none))
    ]
    found_rests (O.in_brackets {p = p} inner rests) all i none =
        elim (All-head IsFound inner.value [] all here k (of_program_inside inner i) outside variables (λ fault q stands. none fault q (F.in_brackets inner stands))) [
          | inl typed ↦ absurd (rests_untyped rests outside variables typed.2)
          | inr untold ↦ inr (F.in_untold_brackets inner untold)
        ]

    found : {e : Expr} → Outcome program here e → All IsFound (parts e) → IsOfProgram program here e → NoFault here e → Found here e
    found (O.typed {t = t} {has_value = b} h) all i none = inl (t, b, h)
    found (O.faulty stands) all i none = absurd (none _ _ stands)
    found (O.rests rests) all i none = found_rests rests all i none

  pub typed_or_untold : (e : Expr) → IsFound e
  typed_or_untold = every IsFound (λ e all here k i outside variables none. found k outside variables (expression program e here k i) all i none)
