-- What a get means, and the target of a send: the positions that its indexes name, and a fault where one of them does not
-- lie within its extent at an active position.
use Rattle.std.proofs.Common.{◌≡◌, ◌∙◌, ℕ, suc, not, List, [], ◌∷◌, length, Option, Some, None, refl, sym, ap}
use Rattle.std.specs.Prelude.{unsigned_abs}
use Rattle.cstar_base.specs.Numbers.{number_of}
use Rattle.cstar_base.specs.declared.faults.RunFault.TheVariants.{Index}
use Rattle.cstar_base.specs.declared.operators.Place.{Place}
use Rattle.cstar_tree.specs.declared.typed.TExpr.{Row_of-TExpr, end_of-TExpr, items-the_row-TExpr, more_of-TExpr}
use Rattle.cstar_tree.specs.declared.typed.TExpr as T
use Rattle.cstar_tree.specs.declared.typed.ValueType.{ValueType}
use Rattle.cstar_tree.specs.declared.typed.Variable.{Variable}
use Rattle.cstar_tree.specs.Typed.{type_of}
use Rattle.source_meaning.specs.Expressions.{evaluated, located, operands}
use Rattle.source_meaning.specs.Gets.{Operand, are_within, coordinates_of, gotten, index_at, named_by}
use Rattle.source_meaning.specs.State.{Ends, Fault, Gives, Outcome, State, then_do}
use Rattle.source_meaning.specs.Targets.{OfTargets, Target, indexed_target, position_target, read}
use Rattle.source_meaning.specs.Values.{Active, Parallel, Scope, at, failing, unless}
use Rattle.vp_sets.specs.Positions.{number_at}
use Rattle.fields_follow.proofs.Meaning.{Extents, coordinates_named, then_ordered, value_in}

-- the values of indexes, with their types
unfoldable pub indexes_at : {k : _} → Extents → State → Row_of-TExpr k → List Operand
indexes_at extents st end_of-TExpr = []
indexes_at extents st (more_of-TExpr index rest) = record { elem = (type_of index).elem; value = Parallel (λ q. value_in extents st index q) } ∷ indexes_at extents st rest

pub as_many : {k : _} (extents : Extents) (st : State) (row : Row_of-TExpr k) → length (indexes_at extents st row) ≡ length (items-the_row-TExpr _ row)
unfolding indexes_at
as_many extents st end_of-TExpr = refl
as_many extents st (more_of-TExpr index rest) = ap suc (as_many extents st rest)

-- the coordinates that they name
coordinates_same : {k : _} (extents : Extents) (st : State) (row : Row_of-TExpr k) (q : ℕ) → coordinates_of (indexes_at extents st row) q ≡ coordinates_named extents st row q
unfolding indexes_at coordinates_of index_at at coordinates_named
coordinates_same extents st end_of-TExpr q = refl
coordinates_same extents st (more_of-TExpr index rest) q = ap (λ (cs : List ℕ). unsigned_abs (number_of (type_of index).elem.bits (type_of index).elem.signed (value_in extents st index q)) ∷ cs) (coordinates_same extents st rest q)

-- the position of a shape that they name at each of their own
abbrev pub target_of : {k : _} → ℕ → Extents → State → Row_of-TExpr k → ℕ → ℕ
target_of of extents st row q = named_by (extents.of of) (indexes_at extents st row) q

pub routed_value : (extents : Extents) (st : State) (ty : ValueType) (place : Place) (p : _) (indexes : Row_of-TExpr _) (x : Variable) (of q : ℕ)
    → value_in extents st (T.LeftIndex' ty place p indexes x of) q ≡ st.parallel x 0 (target_of of extents st indexes q)
unfolding named_by value_in
routed_value extents st ty place p indexes x of q = ap (λ (cs : List ℕ). st.parallel x 0 (number_at (extents.of of) cs)) (sym (coordinates_same extents st indexes q))

module _ (scope : Scope) (active : Active) where
  -- where an index of a set does not lie within its extent of a shape
  abbrev pub outside_at : ℕ → ℕ → List Operand → Option (Option ℕ)
  outside_at set of given = failing scope active (Some set) (λ q. not (are_within (scope.extents of) given q))

  -- what the indexes name, behind their values
  abbrev pub targets_of : ValueType → Place → Variable → ℕ → List Operand → State → Outcome Target
  targets_of ty place x set given st = indexed_target scope active ty.shape place x set given st

  -- where all lie within their extents, the targets are known
  pub targets_given : (ty : ValueType) (place : Place) (p : _) (indexes : Row_of-TExpr _) (x : Variable) (set of : ℕ) (given : List Operand) (st : State) → ty.shape ≡ Some set → operands scope indexes active st ≡ Gives given st → outside_at set of given ≡ None
      → located scope (T.LeftIndex' ty place p indexes x of) active st ≡ Gives (OfTargets x (λ q. named_by (scope.extents of) given q) set) st
  unfolding located then_do indexed_target unless position_target
  targets_given ty place p indexes x set of given st shaped known none =
      ap (λ (o : Outcome (List Operand)). then_do o (λ given after. targets_of ty place x of given after)) known
      ∙ ap (λ (o : Option ℕ). indexed_target scope active o place x of given st) shaped
      ∙ ap (λ (o : Option (Option ℕ)). unless o Index place st (Gives (position_target (Some set) x (λ q. named_by (scope.extents of) given q)) st)) none

  -- else the run ends at the least position where one does not
  pub targets_fault : (ty : ValueType) (place : Place) (p : _) (indexes : Row_of-TExpr _) (x : Variable) (set of : ℕ) (given : List Operand) (st : State) (q : ℕ) → ty.shape ≡ Some set → operands scope indexes active st ≡ Gives given st → outside_at set of given ≡ Some (Some q)
      → located scope (T.LeftIndex' ty place p indexes x of) active st ≡ Ends (Fault Index place (Some q)) st
  unfolding located then_do indexed_target unless
  targets_fault ty place p indexes x set of given st q shaped known some =
      ap (λ (o : Outcome (List Operand)). then_do o (λ given after. targets_of ty place x of given after)) known
      ∙ ap (λ (o : Option ℕ). indexed_target scope active o place x of given st) shaped
      ∙ ap (λ (o : Option (Option ℕ)). unless o Index place st (Gives (position_target (Some set) x (λ q. named_by (scope.extents of) given q)) st)) some

  -- what is read there
  reads_so : (ty : ValueType) (place : Place) (p : _) (indexes : Row_of-TExpr _) (x : Variable) (of : ℕ) (st : State) → evaluated scope (T.LeftIndex' ty place p indexes x of) active st ≡ then_do (located scope (T.LeftIndex' ty place p indexes x of) active st) (λ there after. Gives (read after there) after)
  unfolding evaluated located
  reads_so ty place p indexes x of st = sym (then_ordered (operands scope indexes active st) (λ given after. targets_of ty place x of given after) (λ there after. Gives (read after there) after))

  -- so each position gets the number of its target
  pub routed_gives : (ty : ValueType) (place : Place) (p : _) (indexes : Row_of-TExpr _) (x : Variable) (set of : ℕ) (given : List Operand) (st : State) → ty.shape ≡ Some set → operands scope indexes active st ≡ Gives given st → outside_at set of given ≡ None
      → evaluated scope (T.LeftIndex' ty place p indexes x of) active st ≡ Gives (Parallel (λ q. st.parallel x 0 (named_by (scope.extents of) given q))) st
  unfolding read gotten then_do
  routed_gives ty place p indexes x set of given st shaped known none = reads_so ty place p indexes x of st ∙ ap (λ (o : Outcome Target). then_do o (λ there after. Gives (read after there) after)) (targets_given ty place p indexes x set of given st shaped known none)

  -- or the run ends
  pub routed_faults : (ty : ValueType) (place : Place) (p : _) (indexes : Row_of-TExpr _) (x : Variable) (set of : ℕ) (given : List Operand) (st : State) (q : ℕ) → ty.shape ≡ Some set → operands scope indexes active st ≡ Gives given st → outside_at set of given ≡ Some (Some q)
      → evaluated scope (T.LeftIndex' ty place p indexes x of) active st ≡ Ends (Fault Index place (Some q)) st
  unfolding then_do
  routed_faults ty place p indexes x set of given st q shaped known some = reads_so ty place p indexes x of st ∙ ap (λ (o : Outcome Target). then_do o (λ there after. Gives (read after there) after)) (targets_fault ty place p indexes x set of given st q shaped known some)
