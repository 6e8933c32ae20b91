-- A get by steps names the extents of its shape: `dimof` in its indexes has the extent of the axis, and there is one
-- index for each.
use Rattle.std.proofs.Common.{◌≡◌, ◌∙◌, ℕ, suc, ◌+◌, Bool, true, false, ◌&&◌, ◌==◌, List, [], ◌∷◌, length, Option, Some, None, refl, sym, ap, subst, if◌then◌else◌, arith}
use Rattle.std.specs.Prelude.{slice_get}
use Rattle.std.proofs.lemmas.Bool.Decides.{nat_tests}
use Rattle.std.proofs.lemmas.Option.{slice_get-map}
use Rattle.std.specs.Option.{option_map}
use Rattle.cstar_base.specs.declared.operators.Op.TheVariants as P
use Rattle.cstar_tree.specs.declared.typed.Instance.{Instance}
use Rattle.cstar_tree.specs.declared.typed.ShapeInfo.{ShapeInfo}
use Rattle.cstar_tree.specs.declared.typed.TExpr.{TExpr, Row_of-TExpr, end_of-TExpr, items-the_row-TExpr, more_of-TExpr}
use Rattle.cstar_tree.specs.declared.typed.TExpr as T
use Rattle.cstar_tree.specs.declared.typed.Typed.{Typed}
use Rattle.code_lengths.specs.Naming.{AllNameVariables, HasAxes, NamesVariables}
use Rattle.code_lengths.specs.Naming as N
use Rattle.lower_comm.specs.declared.news.NewsStep.{NewsStep}
use Rattle.lower_comm.specs.News.{is_extent, offset_of, step_of, wrapped_step}
use Rattle.source_meaning.specs.Programs.{extents_of}
use Rattle.code_follows.proofs.Standing.{some_same}
use Rattle.fields_follow.specs.Fragment.{AreSteps, IsIndex}

-- an index names this extent, if any
unfoldable pub NamesExtent : ℕ → TExpr → Type 0
NamesExtent extent (T.Brackets' ty p inner) = NamesExtent extent inner
NamesExtent extent (T.Promote' ty p operand) = NamesExtent extent operand
NamesExtent extent (T.Binary' ty place P.Mod p left q right) = NamesExtent extent right
NamesExtent extent (T.DimOf ty shape axis value) = value ≡ extent
NamesExtent extent _ = Unit {0}

-- one index an axis
unfoldable pub NameExtents : {k : _} → List ℕ → Row_of-TExpr k → Type 0
NameExtents [] end_of-TExpr = Unit {0}
NameExtents (extent ∷ extents) (more_of-TExpr index rest) = NamesExtent extent index × NameExtents extents rest
NameExtents _ _ = ⊥

-- the extents of a shape of a program
abbrev pub extents_in : Typed → ℕ → List ℕ
extents_in t set = extents_of (slice_get t.shapes.items set)

plus_none : (axis : ℕ) → axis ≡ axis + 0
plus_none axis = omega arith

from_none : (j : ℕ) → j ≡ 0 + j
from_none j = omega arith

one_further : (axis j : ℕ) → axis + suc j ≡ axis + 1 + j
one_further axis j = omega arith

-- both tests of a shape and an axis
both_same : (shape of named axis : ℕ) → (shape == of && named == axis) ≡ true → (shape ≡ of) × (named ≡ axis)
both_same shape of named axis is = grind (arith, nat_tests, is)

module _ (t : Typed) (i : Instance) (n : ℕ) (set : ℕ) (extents : List ℕ) (known : slice_get (N.extents_in t) set ≡ Some extents) where
  extent_named : (axis extent : ℕ) (e : TExpr) → is_extent set axis e ≡ true → NamesVariables t i n e → slice_get extents axis ≡ Some extent → NamesExtent extent e
  unfolding is_extent NamesVariables NamesExtent
  extent_named axis extent (T.Promote' ty p operand) is names at = extent_named axis extent operand is names at
  extent_named axis extent (T.Brackets' ty p inner) is names at = extent_named axis extent inner is names at
  extent_named axis extent (T.DimOf ty shape named value) is names at =
      let same = both_same shape set named axis is in
      let own : extents ≡ names.0 = some_same extents names.0 (sym known ∙ (ap (slice_get (N.extents_in t)) (sym same.0) ∙ names.1)) in
      some_same value extent (sym names.2 ∙ (ap (slice_get names.0) same.1 ∙ (ap (λ (xs : List ℕ). slice_get xs axis) (sym own) ∙ at)))
  extent_named axis extent _ is names at = cc

  step_named : (axis extent : ℕ) (e : TExpr) (step : NewsStep) → IsIndex set axis e → step_of set axis e ≡ Some step → NamesVariables t i n e → slice_get extents axis ≡ Some extent → NamesExtent extent e
  unfolding IsIndex step_of NamesVariables NamesExtent
  step_named axis extent (T.Brackets' ty p inner) step is goes names at = step_named axis extent inner step is.1 goes names at
  step_named axis extent (T.Dot ty own) step is goes names at = tt
  step_named axis extent (T.Binary' ty place P.Mod p left q right) step is goes names at = by (is_extent set axis right) refl goes
    where
      by : (b : Bool) → is_extent set axis right ≡ b → (if b then wrapped_step (offset_of left) else None) ≡ Some step → NamesExtent extent right
      by true is_b h = extent_named axis extent right is_b names.1 at
      by false is_b h = cc
  step_named axis extent (T.Binary' ty place op p left q right) step is goes names at = tt
  step_named axis extent _ step is goes names at = absurd is

  each_named : {k : _} (axis : ℕ) (later : List ℕ) (row : Row_of-TExpr k) → ((j : ℕ) → slice_get later j ≡ slice_get extents (axis + j)) → AreSteps set axis row → AllNameVariables t i n row → length (items-the_row-TExpr _ row) ≡ length later → NameExtents later row
  unfolding AreSteps AllNameVariables NameExtents
  each_named axis [] end_of-TExpr from are names many = tt
  each_named axis (extent ∷ later) (more_of-TExpr index rest) from are names many = (
    step_named axis extent index are.0.1.0 are.0.0 are.0.1.1 names.0 (ap (slice_get extents) (plus_none axis) ∙ sym (from 0)),
    each_named (axis + 1) later rest (λ j. from (suc j) ∙ ap (slice_get extents) (one_further axis j)) are.1 names.1 (omega (arith, many)),
  )
  each_named axis [] (more_of-TExpr index rest) from are names many = absurd (omega (arith, many))
  each_named axis (extent ∷ later) end_of-TExpr from are names many = absurd (omega (arith, many))

-- the extents of a shape, as the meaning asks for them
pub own_extents : (t : Typed) (set : ℕ) (extents : List ℕ) → slice_get (N.extents_in t) set ≡ Some extents → extents_in t set ≡ extents
unfolding extents_of
own_extents t set extents known = by (slice_get t.shapes.items set) (sym (slice_get-map (λ (s : ShapeInfo). s.extents.items) t.shapes.items set) ∙ known)
  where
    by : (o : Option ShapeInfo) → option_map (λ (s : ShapeInfo). s.extents.items) o ≡ Some extents → extents_of o ≡ extents
    by None is = cc
    by (Some info) is = some_same _ _ is

pub get_names : {k : _} (t : Typed) (i : Instance) (n of set : ℕ) (row : Row_of-TExpr k) → of ≡ set → AreSteps set 0 row → AllNameVariables t i n row → HasAxes t of (length (items-the_row-TExpr _ row)) → NameExtents (extents_in t of) row
get_names t i n of set row same are names has =
    let steps = subst (λ (s : ℕ). AreSteps s 0 row) (sym same) are in
    subst (λ (xs : List ℕ). NameExtents xs row) (sym (own_extents t of has.0 has.1)) (each_named t i n of has.0 has.1 0 has.0 row (λ j. ap (slice_get has.0) (from_none j)) steps names has.2)
