-- What a send means: its indexes are located, its value is evaluated, and each target takes what is sent to it; it ends
-- where one of these does.
use Rattle.std.proofs.Common.{◌≡◌, ◌∙◌, ℕ, ◌<◌, ◌^◌, ◌&&◌, Bool, false, Option, Some, None, ap}
use Rattle.cstar_base.specs.Orders.{least_below}
use Rattle.cstar_base.specs.declared.elem.Elem.{Elem}
use Rattle.cstar_base.specs.declared.faults.RunFault.TheVariants.{DivZero}
use Rattle.cstar_base.specs.declared.operators.Place.{Place}
use Rattle.cstar_base.specs.declared.operators.Winner.{Winner}
use Rattle.cstar_tree.specs.declared.syntax.AssignOp.{AssignOp}
use Rattle.cstar_tree.specs.declared.syntax.AssignOp.TheVariants as A
use Rattle.cstar_tree.specs.declared.typed.TExpr.{TExpr}
use Rattle.cstar_tree.specs.declared.typed.TExpr as T
use Rattle.cstar_tree.specs.declared.typed.ValueType.{ValueType}
use Rattle.cstar_tree.specs.declared.typed.Variable.{Variable}
use Rattle.cstar_tree.specs.Typed.{type_of}
use Rattle.source_meaning.specs.Expressions.{evaluated, located}
use Rattle.source_meaning.specs.Reductions.{divides_by_zero}
use Rattle.source_meaning.specs.Sends.{Send, received, sent, value_or, winning_sender}
use Rattle.source_meaning.specs.State.{Early, Ends, Gives, Outcome, State, then_do}
use Rattle.source_meaning.specs.Targets.{OfTargets, Target, assign_to, assigned}
use Rattle.source_meaning.specs.Values.{Active, Nothing, Parallel, Scope, Value, at, failing, positions, unless}
use Rattle.source_meaning.proofs.ConstantLaws.{Boxed}
use Rattle.fields_follow.proofs.Meaning.{as_shaped, none_fails}

module _ (scope : Scope) (active : Active) where
  -- what is sent from the active positions of a set
  abbrev pub sent_from : ℕ → (ℕ → ℕ) → (ℕ → ℕ) → Send
  sent_from set to v = record { count = positions scope set; active = active set; to = to; value = v }

  -- what is sent arrives, as no send divides
  sent_so : (set : ℕ) (x : Variable) (place : Place) (op : AssignOp) (to from : ValueType) (targets v : ℕ → ℕ) (st : State) → to.shape ≡ Some set → ((q : ℕ) → divides_by_zero op (v q) ≡ false)
      → assigned scope active place op to from (OfTargets x targets set) (Parallel v) st ≡ Gives Nothing (sent op to.elem from.elem x (sent_from set targets v) st)
  unfolding assigned assign_to failing unless at
  sent_so set x place op to from targets v st shaped never =
      ap (λ (y : ValueType). assigned scope active place op y from (OfTargets x targets set) (Parallel v) st) (as_shaped to set shaped)
      ∙ ap (λ (f : ℕ → Bool). unless (elim (least_below (λ p. active set p && f p) (positions scope set)) [ None ↦ None | Some p ↦ Some (Some p) ]) DivZero place st (Gives Nothing (sent op to.elem from.elem x (sent_from set targets v) st))) (λ j p. never p j)
      ∙ ap (λ (o : Option ℕ). unless (elim o [ None ↦ None | Some p ↦ Some (Some p) ]) DivZero place st (Gives Nothing (sent op to.elem from.elem x (sent_from set targets v) st))) (none_fails (active set) (positions scope set))

  -- all of it
  pub send_means : (ty : ValueType) (place : Place) (op : AssignOp) (p q : Boxed) (target value : TExpr) (set : ℕ) (x : Variable) (targets v : ℕ → ℕ) (st : State) → ty.shape ≡ Some set → ((r : ℕ) → divides_by_zero op (v r) ≡ false) → located scope target active st ≡ Gives (OfTargets x targets set) st
      → evaluated scope value active st ≡ Gives (Parallel v) st → evaluated scope (T.Assign' ty place op p target q value) active st ≡ Gives Nothing (sent op ty.elem (type_of value).elem x (sent_from set targets v) st)
  unfolding evaluated then_do
  send_means ty place op p q target value set x targets v st shaped never there gives =
      ap (λ (o : Outcome Target). then_do o (λ t between. then_do (evaluated scope value active between) (λ w after. assigned scope active place op ty (type_of value) t w after))) there
      ∙ ap (λ (o : Outcome Value). then_do o (λ w after. assigned scope active place op ty (type_of value) (OfTargets x targets set) w after)) gives
      ∙ sent_so set x place op ty (type_of value) targets v st shaped never

  -- it ends where its target does, and where its value does
  pub target_ends : (ty : ValueType) (place : Place) (op : AssignOp) (p q : Boxed) (target value : TExpr) (early : Early) (u st : State) → located scope target active st ≡ Ends early u → evaluated scope (T.Assign' ty place op p target q value) active st ≡ Ends early u
  unfolding evaluated then_do
  target_ends ty place op p q target value early u st ends = ap (λ (o : Outcome Target). then_do o (λ t between. then_do (evaluated scope value active between) (λ w after. assigned scope active place op ty (type_of value) t w after))) ends

  pub value_ends : (ty : ValueType) (place : Place) (op : AssignOp) (p q : Boxed) (target value : TExpr) (there : Target) (early : Early) (u st : State) → located scope target active st ≡ Gives there st → evaluated scope value active st ≡ Ends early u → evaluated scope (T.Assign' ty place op p target q value) active st ≡ Ends early u
  unfolding evaluated then_do
  value_ends ty place op p q target value there early u st known ends =
      ap (λ (o : Outcome Target). then_do o (λ t between. then_do (evaluated scope value active between) (λ w after. assigned scope active place op ty (type_of value) t w after))) known
      ∙ ap (λ (o : Outcome Value). then_do o (λ w after. assigned scope active place op ty (type_of value) there w after)) ends

-- what a target takes has no more bits than it and what is sent
pub set_few : (w : Winner) (to from : Elem) (send : Send) (bits old target : ℕ) → ((q : ℕ) → send.value q < 2 ^ bits) → old < 2 ^ bits → received w A.Set to from send old target < 2 ^ bits
unfolding received
set_few w to from send bits old target few small = by (winning_sender w send target)
  where
    by : (o : Option ℕ) → value_or old send.value o < 2 ^ bits
    by None = small
    by (Some q) = few q
