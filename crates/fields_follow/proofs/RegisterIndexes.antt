-- Scalar indexes that stand in registers: how they are read, and that they lie within their extents where they never fail.
use Rattle.std.proofs.Common.{◌≡◌, ℕ, suc, Bool, true, false, not, List, [], ◌∷◌, length, map, Option, Some, None, refl, ap, if◌then◌else◌}
use Rattle.cstar_base.specs.declared.elem.Elem.{Elem}
use Rattle.communication_laws.specs.OnePosition.{registers_with_signs}
use Rattle.cstar_tree.specs.declared.typed.TExpr.{TExpr}
use Rattle.cstar_tree.specs.Typed.{type_of}
use Rattle.lower_base.specs.Operators.{is_signed}
use Rattle.lower_comm.specs.Messages.{signed_registers}
use Rattle.paris_code.specs.declared.operands.RegisterCoordinate.{RegisterCoordinate}
use Rattle.source_meaning.specs.Gets.{Operand, are_within}
use Rattle.source_meaning.specs.Values.{Active, Scope, failing}

-- how indexes of these types are read
unfoldable pub signs_of : List Elem → List ℕ → List RegisterCoordinate
signs_of [] registers = []
signs_of (elem ∷ elems) [] = []
signs_of (elem ∷ elems) (r ∷ registers) = record { register = r; signed = is_signed elem } ∷ signs_of elems registers

pub given_signs : (given : List Operand) (registers : List ℕ) → registers_with_signs given registers ≡ signs_of (map (λ (o : Operand). o.elem) given) registers
unfolding signs_of
given_signs [] registers = refl
given_signs (o ∷ given) [] = refl
given_signs (o ∷ given) (r ∷ registers) = ap (λ (rest : List RegisterCoordinate). record { register = r; signed = is_signed o.elem } ∷ rest) (given_signs given registers)

pub item_signs : (items : List TExpr) (registers : List ℕ) → signed_registers items registers ≡ signs_of (map (λ (e : TExpr). (type_of e).elem) items) registers
unfolding signed_registers signs_of
item_signs [] registers = refl
item_signs (e ∷ items) [] = refl
item_signs (e ∷ items) (r ∷ registers) = ap (λ (rest : List RegisterCoordinate). record { register = r; signed = is_signed (type_of e).elem } ∷ rest) (item_signs items registers)

pub as_long : {A B : Type 0} (f : A → B) (xs : List A) → length (map f xs) ≡ length xs
as_long f [] = refl
as_long f (x ∷ xs) = ap suc (as_long f xs)

-- a scalar index that never fails lies within its extent
pub within_all : (scope : Scope) (active : Active) (extents : List ℕ) (given : List Operand) → failing scope active None (λ p. not (are_within extents given p)) ≡ None → are_within extents given 0 ≡ true
unfolding failing
within_all scope active extents given never = by (are_within extents given 0) never
  where
    by : (b : Bool) → ◌≡◌ {A = Option (Option ℕ)} (if not b then Some None else None) None → b ≡ true
    by true h = refl
    by false h = cc

-- and one that does so never fails
pub never_fails : (scope : Scope) (active : Active) (extents : List ℕ) (given : List Operand) → are_within extents given 0 ≡ true → failing scope active None (λ p. not (are_within extents given p)) ≡ None
unfolding failing
never_fails scope active extents given inside = ap (λ (b : Bool). if not b then Some None else None) inside
