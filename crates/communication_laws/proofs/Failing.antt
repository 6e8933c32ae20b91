-- Where a check of the active positions of a set fails.
use Rattle.std.proofs.Common.{◌≡◌, ℕ, ◌<◌, Bool, true, false, List, Option, Some, None, ◌∙◌, sym, ap, refl}
use Rattle.std.specs.Prelude.{◌&&◌}
use Rattle.vp_sets.specs.Positions.{position_count}
use Rattle.cstar_base.specs.declared.operators.Winner.TheVariants as W
use Rattle.cstar_base.specs.Orders.{least_below}
use Rattle.paris_code.specs.Memory.{BitMemory, is_active, processors}
use Rattle.paris_code.specs.Shapes.{SetShape, extents_at}
use Rattle.source_meaning.specs.Values.{Active, Scope, failing, positions}
use Rattle.communication_laws.specs.Holding.{HasActive}
use Rattle.communication_laws.specs.Indexes.{failing_at}
use Rattle.communication_laws.proofs.Winners.{winner_alike}

-- the machine's check fails at an active position where the language's does
pub fails_alike : (shapes : List SetShape) (m : BitMemory) (scope : Scope) (active : Active) (set : ℕ) (there fails : ℕ → Bool) → extents_at shapes set ≡ scope.extents set → HasActive shapes m set (active set)
    → ((p : ℕ) → p < processors shapes set → active set p ≡ true → there p ≡ fails p)
    → failing scope active (Some set) fails ≡ failing_at (least_below (λ p. is_active shapes m set p && there p) (processors shapes set))
unfolding failing positions
fails_alike shapes m scope active set there fails own alike same =
    fails_at (least_below (λ p. active set p && fails p) (position_count (scope.extents set)))
    ∙ ap failing_at (sym (winner_alike W.Low _ _ (processors shapes set) (λ p b. ap (λ t. t && there p) (alike p b) ∙ by p b (active set p) refl)
    ∙ ap (λ extents. least_below (λ p. active set p && fails p) (position_count extents)) own))
  where
    fails_at : (o : Option ℕ) → (elim o [ None ↦ None | Some p ↦ Some (Some p) ]) ≡ failing_at o
    fails_at None = refl
    fails_at (Some p) = refl

    by : (p : ℕ) → p < processors shapes set → (t : Bool) → active set p ≡ t → (t && there p) ≡ (t && fails p)
    by p b true on = same p b on
    by p b false on = refl
