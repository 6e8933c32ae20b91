-- Parts of a run that leave the state as it was, and quiet expressions among them.
use Rattle.std.proofs.Common.{◌≡◌, ℕ, Bool, true, false, ◌&&◌, Option, Some, None, refl, ap, ◌∙◌}
use mathlib.Core.Former.{Count}
use Rattle.cstar_base.specs.declared.faults.RunFault.{RunFault}
use Rattle.cstar_base.specs.declared.operators.Place.{Place}
use Rattle.cstar_tree.specs.declared.typed.TExpr.{TExpr, Row_of-TExpr, end_of-TExpr, more_of-TExpr}
use Rattle.cstar_tree.specs.declared.typed.TExpr as T
use Rattle.source_meaning.specs.Expressions.{evaluated, operands, operated}
use Rattle.source_meaning.specs.Narrowing.{Operand, and_then, or_then, choose, where_nonzero, where_zero}
use Rattle.source_meaning.specs.State.{State, Outcome, Gives, Ends, then_do}
use Rattle.source_meaning.specs.Targets.{element_target, indexed_target}
use Rattle.source_meaning.specs.Values.{Value, number, nonzero, Active, Scope, unless}
use Rattle.lower_expr.specs.Operands.{is_quiet, are_quiet}
use Rattle.quiet_operands.specs.Quiet.{state_behind}

-- it gives something or ends, and the state is this one
unfoldable Leaves : {A : Type 0} → State → Outcome A → Type 0
Leaves st o = state_behind o ≡ st

gives : {A : Type 0} (x : A) (st : State) → Leaves st (Gives x st)
unfolding Leaves state_behind
gives x st = refl

then_leaves : {A B : Type 0} (st : State) (o : Outcome A) (next : A → State → Outcome B) → Leaves st o → ((x : A) → Leaves st (next x st)) → Leaves st (then_do o next)
unfolding Leaves state_behind then_do
then_leaves st (Gives x after) next h f = ap (λ (s : State). state_behind (next x s)) h ∙ f x
then_leaves st (Ends early after) next h f = h

unless_leaves : {A : Type 0} (position : Option (Option ℕ)) (fault : RunFault) (place : Place) (st : State) (good : Outcome A) → Leaves st good → Leaves st (unless position fault place st good)
unfolding Leaves state_behind unless
unless_leaves None fault place st good h = h
unless_leaves (Some position) fault place st good h = refl

-- an operand that leaves the state as it was, under any active sets
abbrev Unchanging : State → Operand → Type 0
Unchanging st code = (active : Active) → Leaves st (code active st)

-- both halves of a condition
pub both : (a b : Bool) → (a && b) ≡ true → (a ≡ true) × (b ≡ true)
both true b h = (refl, h)
both false b h = cc

chosen : (b : Bool) (st : State) (first second : Outcome Value) → Leaves st first → Leaves st second → Leaves st (elim b as (λ _. Outcome Value) [ true ↦ first | false ↦ second ])
chosen true st first second g h = g
chosen false st first second g h = h

and_leaves : (whole left : Option ℕ) (v : Value) (right : Operand) (active : Active) (st : State) → Unchanging st right → Leaves st (and_then whole left v right active st)
unfolding and_then
and_leaves whole None v right active st h =
    chosen (nonzero (number v)) st _ _ (then_leaves st _ _ (h active) (λ w. gives _ st)) (gives _ st)
and_leaves whole (Some s) v right active st h = then_leaves st _ _ (h (where_nonzero s v active)) (λ w. gives _ st)

or_leaves : (whole left : Option ℕ) (v : Value) (right : Operand) (active : Active) (st : State) → Unchanging st right → Leaves st (or_then whole left v right active st)
unfolding or_then
or_leaves whole None v right active st h =
    chosen (nonzero (number v)) st _ _ (gives _ st) (then_leaves st _ _ (h active) (λ w. gives _ st))
or_leaves whole (Some s) v right active st h = then_leaves st _ _ (h (where_zero s v active)) (λ w. gives _ st)

choice_leaves : (test : Option ℕ) (v : Value) (first second : Operand) (active : Active) (st : State) → Unchanging st first → Unchanging st second → Leaves st (choose test v first second active st)
unfolding choose
choice_leaves None v first second active st g h = chosen (nonzero (number v)) st _ _ (g active) (h active)
choice_leaves (Some s) v first second active st g h =
    then_leaves st _ _ (g (where_nonzero s v active)) (λ a. then_leaves st _ _ (h (where_zero s v active)) (λ b. gives _ st))

mutual
  unfolding evaluated operands is_quiet are_quiet operated element_target indexed_target

  quiet : (scope : Scope) (e : TExpr) (active : Active) (st : State) → is_quiet e ≡ true → Leaves st (evaluated scope e active st)
  quiet scope (T.Choice' ty p test q first r second) active st h =
      let a = both _ _ h in
      let b = both _ _ a.0 in
      then_leaves st _ _ (quiet scope test active st b.0)
      (λ v. choice_leaves _ v (evaluated scope first) (evaluated scope second) active st (λ now. quiet scope first now st b.1) (λ now. quiet scope second now st a.1))
  quiet scope (T.LogicalOr' ty p left q right) active st h =
      let a = both _ _ h in
      then_leaves st _ _ (quiet scope left active st a.0) (λ v. or_leaves ty.shape _ v (evaluated scope right) active st (λ now. quiet scope right now st a.1))
  quiet scope (T.LogicalAnd' ty p left q right) active st h =
      let a = both _ _ h in
      then_leaves st _ _ (quiet scope left active st a.0) (λ v. and_leaves ty.shape _ v (evaluated scope right) active st (λ now. quiet scope right now st a.1))
  quiet scope (T.Binary' ty place op p left q right) active st h =
      let a = both _ _ h in
      then_leaves st _ _ (quiet scope left active st a.0) (λ v. then_leaves st _ _ (quiet scope right active st a.1) (λ w. unless_leaves _ _ place st _ (gives _ st)))
  quiet scope (T.Unary' ty op p operand) active st h = then_leaves st _ _ (quiet scope operand active st h) (λ v. gives _ st)
  quiet scope (T.Reduce' ty op p operand) active st h = then_leaves st _ _ (quiet scope operand active st h) (λ v. gives _ st)
  quiet scope (T.Casts' ty elems p operand) active st h = then_leaves st _ _ (quiet scope operand active st h) (λ v. gives _ st)
  quiet scope (T.ParallelCast' ty p operand) active st h = then_leaves st _ _ (quiet scope operand active st h) (λ v. gives _ st)
  quiet scope (T.Convert' ty p operand) active st h = then_leaves st _ _ (quiet scope operand active st h) (λ v. gives _ st)
  quiet scope (T.Promote' ty p operand) active st h = then_leaves st _ _ (quiet scope operand active st h) (λ v. gives _ st)
  quiet scope (T.Variable ty x) active st h = gives _ st
  quiet scope (T.Element' ty place array p index) active st h =
      then_leaves st _ _ (quiet scope index active st h) (λ v. then_leaves st _ _ (unless_leaves _ _ place st _ (gives _ st)) (λ there. gives _ st))
  quiet scope (T.Number ty value) active st h = gives _ st
  quiet scope (T.Dot ty axis) active st h = gives _ st
  quiet scope (T.Brackets' ty p inner) active st h = quiet scope inner active st h
  quiet scope (T.LeftIndex' ty place p indexes x of) active st h =
      then_leaves st _ _ (all_quiet scope indexes active st h) (λ given. then_leaves st _ _ (unless_leaves _ _ place st _ (gives _ st)) (λ there. gives _ st))
  quiet scope (T.Pcoord ty axis) active st h = gives _ st
  quiet scope (T.PositionsOf ty shape value) active st h = gives _ st
  quiet scope (T.RankOf ty shape value) active st h = gives _ st
  quiet scope (T.DimOf ty shape axis value) active st h = gives _ st
  quiet scope (T.Scan' ty p source axis combiner direction mode bit within) active st h =
      then_leaves st _ _ (quiet scope source active st h) (λ v. gives _ st)
  quiet scope (T.Enumerate ty axis direction within mode bit) active st h = gives _ st
  quiet scope (T.Assign' ty place op p target q value) active st h = cc
  quiet scope (T.Step' ty op order p target) active st h = cc
  quiet scope (T.Call' ty instance p arguments) active st h = cc
  quiet scope (T.Printf' ty pieces p arguments) active st h = cc
  quiet scope (T.GetChar ty) active st h = cc

  all_quiet : (scope : Scope) {n : Count} (row : Row_of-TExpr n) (active : Active) (st : State) → are_quiet row ≡ true → Leaves st (operands scope row active st)
  all_quiet scope end_of-TExpr active st h = gives _ st
  all_quiet scope (more_of-TExpr e rest) active st h =
      let a = both _ _ h in
      then_leaves st _ _ (quiet scope e active st a.0) (λ v. then_leaves st _ _ (all_quiet scope rest active st a.1) (λ given. gives _ st))

pub expression : (scope : Scope) (e : TExpr) (active : Active) (st : State) → is_quiet e ≡ true → state_behind (evaluated scope e active st) ≡ st
unfolding Leaves
expression scope e active st h = quiet scope e active st h

pub list : (scope : Scope) (n : Count) (row : Row_of-TExpr n) (active : Active) (st : State) → are_quiet row ≡ true → state_behind (operands scope row active st) ≡ st
unfolding Leaves
list scope n row active st h = all_quiet scope row active st h
