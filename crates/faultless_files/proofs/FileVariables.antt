-- Typed variables of a file have no fault, where their names are new.
use Rattle.std.proofs.Common.{◌≡◌, ℕ, ℤ, pos, true, List, [], ◌∷◌, Option, Some, None, refl, sym, ap, subst, ◌∙◌}
use Rattle.std.proofs.lemmas.Option.{none-some, same_Some}
use Rattle.std.specs.Option.{option_map}
use Rattle.cstar_base.specs.Numbers.{number_of}
use Rattle.cstar_base.specs.Numbers.{converted as converted_word}
use Rattle.cstar_base.specs.declared.elem.Elem.{Elem}
use Rattle.cstar_base.specs.declared.faults.Fault.{Fault}
use Rattle.cstar_base.specs.declared.operators.Place.{Place}
use Rattle.cstar_tree.specs.declared.syntax.Declarator.{Declarator}
use Rattle.cstar_tree.specs.declared.syntax.Initializer.{Initializer}
use Rattle.cstar_tree.specs.declared.typed.ValueType.{ValueType}
use Rattle.cstar_tree.specs.declared.typed.VarInfo.{VarInfo}
use Rattle.cstar_tree.specs.BlockScopes.{declared_type}
use Rattle.cstar_tree.specs.Constants.{Constant, cast_to, constant, constant_number, number, number_meant}
use Rattle.cstar_tree.specs.FileFaults.{VariableFault, VariablesFault}
use Rattle.cstar_tree.specs.FileFaults as W
use Rattle.cstar_tree.specs.FileScopes.{Known, behind_variable, file_place}
use Rattle.cstar_tree.specs.Headers.{Program}
use Rattle.cstar_tree.specs.ProgramTypes.{Starts, TypesVariables}
use Rattle.cstar_tree.specs.ProgramTypes as Y
use Rattle.cstar_tree.specs.Scopes.{Binding, Here, VariableType, find}
use Rattle.cstar_tree.specs.StatementTypes.{IsDeclarable}
use Rattle.faultless_files.proofs.NewNames.{NewVariables}
use Rattle.faultless_files.proofs.Declarations.{array_declared, sound_array}
use Rattle.faultless_files.proofs.ExpressionLaws.{laws}
use Rattle.faultless_files.proofs.Lengths.{sound_length}

-- an initialiser is constant, and its value is no fault
record IsStart (here : Here) (i : Initializer) : Type 0 where
  form : Constant
  is_constant : constant here i.value ≡ Some form
  value : ℤ
  number_is : constant_number here i.value ≡ Some value

word_stands : (elem : Elem) (k : Constant) (word : ℕ) → (cast_to elem k).word ≡ Some word → (w : ℕ) × (k.word ≡ Some w)
unfolding cast_to
word_stands elem k word is = by_word (converted_word elem k.elem) k.word is
  where
    by_word : (f : ℕ → ℕ) (given : Option ℕ) → option_map f given ≡ Some word → (w : ℕ) × (given ≡ Some w)
    by_word f None is = elim (none-some word is) [ ]
    by_word f (Some w) is = (w, refl)

number_stands : (k : Constant) (w : ℕ) → k.word ≡ Some w → (n : ℤ) × (number k ≡ Some n)
unfolding number
number_stands k w is = (number_of k.elem.bits k.elem.signed w, ap (option_map (number_of k.elem.bits k.elem.signed)) is)

start_known : {here : Here} {elem : Elem} {given : Option Initializer} {start : ℕ} → Starts here elem given start → (i : Initializer) → given ≡ Some i → IsStart here i
start_known Y.at_zero i is = elim (none-some i is) [ ]
start_known {here = here} {elem = elem} (Y.at_constant {i = j} {k = k} {word = word} known cast) i is =
    let w = word_stands elem k word cast in
    let n = number_stands k w.0 w.1 in
    subst (IsStart here) (same_Some j i is) (record { form = k; is_constant = known; value = n.0; number_is = ap number_meant known ∙ n.1 })

module _ (program : Program) (functions : List Binding) (ty : ValueType) where
  -- a variable with its type
  record IsVariable (known : Known) (d : Declarator) : Type 0 where
    variable : VariableType
    type_is : declared_type (file_place functions known) (Some ty) d.length ≡ Some variable
    declarable : IsDeclarable variable d.initial
    start : ℕ
    starts : Starts (file_place functions (behind_variable functions (Some ty) known d)) variable.value.elem d.initial start

  abbrev AreVariables : Known → List Declarator → Type 0
  AreVariables known [] = Unit {0}
  AreVariables known (d ∷ ds) = IsVariable known d × ((rest : List VarInfo) × TypesVariables functions ty (behind_variable functions (Some ty) known d) ds rest)

  variables_typed : {known : Known} {ds : List Declarator} {vars : List VarInfo} → TypesVariables functions ty known ds vars → AreVariables known ds
  variables_typed Y.no_variable = tt
  variables_typed (Y.next_variable {variable = variable} {start = start} {rest = rest} is may starts more) =
      (record { variable = variable; type_is = is; declarable = may; start = start; starts = starts }, (rest, more))

  sound_variable : {known : Known} {d : Declarator} {fault : Fault} {p : Place} → VariableFault program functions known (Some ty) d fault p → IsVariable known d → find known.names d.name.word ≡ None → ⊥
  sound_variable (W.VariableFault.redeclared {m = m} stands) it new = none-some m (sym new ∙ stands)
  sound_variable {known = known} (W.VariableFault.in_length {e = e} with f) it new =
      let here = file_place functions known in
      let a = array_declared here ty e it.variable (sym (ap (declared_type here (Some ty)) with) ∙ it.type_is) in
      sound_length program here e (pos a.number) a.length_is f
  sound_variable (W.VariableFault.of_array f) it new = sound_array it.variable it.type_is it.declarable f
  sound_variable {known = known} {d = d} (W.VariableFault.in_initial {i = i} {fault = fault} {p = p} given f) it new =
      let here = file_place functions (behind_variable functions (Some ty) known d) in
      let s = start_known it.starts i given in
      let typed = laws.constants program here i.value s.form s.is_constant in
      laws.no_value_fault program here i.value typed.0 typed.1 fault p f
  sound_variable (W.VariableFault.no_constant {i = i} given value none) it new = let s = start_known it.starts i given in none-some s.value (sym none ∙ s.number_is)
  sound_variable {known = known} {d = d} (W.VariableFault.untold {i = i} given f) it new =
      let here = file_place functions (behind_variable functions (Some ty) known d) in
      let s = start_known it.starts i given in
      let typed = laws.constants program here i.value s.form s.is_constant in
      laws.not_untold program here i.value typed.0 true typed.1 f

  pub sound_variables : {known : Known} {ds : List Declarator} {fault : Fault} {p : Place} → VariablesFault program functions (Some ty) known ds fault p → (vars : List VarInfo) → TypesVariables functions ty known ds vars → NewVariables functions (Some ty) known ds → ⊥
  unfolding NewVariables
  sound_variables (W.VariablesFault.first f) vars typed new = let all = variables_typed typed in sound_variable f all.0 new.0
  sound_variables (W.VariablesFault.later f) vars typed new = let all = variables_typed typed in sound_variables f all.1.0 all.1.1 new.1
