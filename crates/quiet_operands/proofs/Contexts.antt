-- Expressions that ignore the context have one value under all active sets.
use Rattle.std.proofs.Common.{◌≡◌, ℕ, zero, suc, Bool, true, false, not, ◌&&◌, ◌==◌, if◌then◌else◌, Option, Some, None, refl, sym, ap, ◌∙◌}
use Rattle.std.specs.Int.{from_bool}
use Rattle.cstar_base.specs.declared.faults.RunFault.TheVariants.{DivZero}
use Rattle.cstar_base.specs.declared.operators.Op.{Op}
use Rattle.cstar_base.specs.declared.operators.Place.{Place}
use Rattle.cstar_base.specs.Operators.{outcome, divides}
use Rattle.cstar_base.specs.Orders.{least_below, or_else}
use Rattle.cstar_tree.specs.declared.typed.TExpr.{TExpr}
use Rattle.cstar_tree.specs.declared.typed.TExpr as T
use Rattle.cstar_tree.specs.declared.typed.ValueType.{ValueType}
use Rattle.cstar_tree.specs.Typed.{type_of}
use Rattle.source_meaning.specs.Expressions.{evaluated, operated}
use Rattle.source_meaning.specs.Narrowing.{Operand, and_then, or_then, choose, where_nonzero, where_zero}
use Rattle.source_meaning.specs.State.{State, Outcome, Gives, then_do}
use Rattle.source_meaning.specs.Values.{Value, number, at, each, positions, nonzero, Active, Scope, failing, unless}
use Rattle.lower_expr.specs.Operands.{ignores_context}
use Rattle.quiet_operands.specs.Quiet.{ContextsAreIgnored, value_given}
use Rattle.quiet_operands.proofs.Unchanged.{both}

-- an operand that gives one value under all active sets, and leaves the state
abbrev Steady : State → Operand → Type 0
Steady st code = (v : Value) × ((active : Active) → code active st ≡ Gives v st)

then_gives : {A B : Type 0} (o : Outcome A) (x : A) (st : State) (next : A → State → Outcome B) → o ≡ Gives x st → then_do o next ≡ next x st
unfolding then_do
then_gives o x st next h = ap (λ (made : Outcome _). then_do made next) h

-- what does not divide does not fail
none_below : (passes : ℕ → Bool) (n : ℕ) → ((k : ℕ) → passes k ≡ false) → least_below passes n ≡ None
unfolding least_below
none_below passes zero h = refl
none_below passes (suc n) h =
    ap (λ (o : Option ℕ). or_else o (if passes n then Some n else None)) (none_below passes n h) ∙ ap (λ (b : Bool). if b then Some n else None) (h n)

and_false : (b : Bool) → (b && false) ≡ false
and_false true = refl
and_false false = refl

never_fails : (scope : Scope) (active : Active) (shape : Option ℕ) (b : Bool) (is_zero : ℕ → Bool) → not b ≡ true → failing scope active shape (λ p. b && is_zero p) ≡ None
unfolding failing
never_fails scope active shape true is_zero h = cc
never_fails scope active None false is_zero h = refl
never_fails scope active (Some s) false is_zero h =
    ap (λ (o : Option ℕ). elim o as (λ _. Option (Option ℕ)) [ None ↦ None | Some p ↦ Some (Some p) ])
    (none_below (λ p. active s p && false) (positions scope s) (λ p. and_false (active s p)))

operated_steady : (scope : Scope) (ty : ValueType) (place : Place) (op : Op) (unsigned : Bool) (v w : Value) (active : Active) (st : State) → not (divides op) ≡ true →
    operated scope active ty place op unsigned v w st ≡ Gives (each ty.shape (λ p. outcome op 32 unsigned (at v p) (at w p))) st
unfolding operated unless
operated_steady scope ty place op unsigned v w active st h =
    ap (λ (o : Option (Option ℕ)). unless o DivZero place st (Gives (each ty.shape (λ p. outcome op 32 unsigned (at v p) (at w p))) st))
    (never_fails scope active ty.shape (divides op) (λ p. at w p == 0) h)

-- one of two, by a truth value that is the same under all active sets
chosen : (b : Bool) (st : State) (first second : Operand) → Steady st first → Steady st second → Steady st (λ active after. elim b as (λ _. Outcome Value) [ true ↦ first active after | false ↦ second active after ])
chosen true st first second g h = g
chosen false st first second g h = h

and_steady : (whole left : Option ℕ) (v : Value) (right : Operand) (st : State) → Steady st right → Steady st (and_then whole left v right)
unfolding and_then
and_steady whole None v right st h =
    chosen (nonzero (number v)) st (λ active after. then_do (right active after) (λ w last. Gives (each whole (λ p. from_bool (nonzero (at w p)))) last)) (λ active after. Gives (each whole (λ _. 0)) after)
    (each whole (λ p. from_bool (nonzero (at h.0 p))), λ active. then_gives _ h.0 st _ (h.1 active)) (each whole (λ _. 0), λ active. refl)
and_steady whole (Some s) v right st h = (_, λ active. then_gives _ h.0 st _ (h.1 (where_nonzero s v active)))

or_steady : (whole left : Option ℕ) (v : Value) (right : Operand) (st : State) → Steady st right → Steady st (or_then whole left v right)
unfolding or_then
or_steady whole None v right st h =
    chosen (nonzero (number v)) st (λ active after. Gives (each whole (λ _. 1)) after) (λ active after. then_do (right active after) (λ w last. Gives (each whole (λ p. from_bool (nonzero (at w p)))) last))
    (each whole (λ _. 1), λ active. refl) (each whole (λ p. from_bool (nonzero (at h.0 p))), λ active. then_gives _ h.0 st _ (h.1 active))
or_steady whole (Some s) v right st h = (_, λ active. then_gives _ h.0 st _ (h.1 (where_zero s v active)))

choice_steady : (test : Option ℕ) (v : Value) (first second : Operand) (st : State) → Steady st first → Steady st second → Steady st (choose test v first second)
unfolding choose
choice_steady None v first second st g h = chosen (nonzero (number v)) st first second g h
choice_steady (Some s) v first second st g h =
    (_, λ active. then_gives _ g.0 st _ (g.1 (where_nonzero s v active)) ∙ then_gives _ h.0 st _ (h.1 (where_zero s v active)))

steady : (scope : Scope) (e : TExpr) (st : State) → ignores_context e ≡ true → Steady st (evaluated scope e)
unfolding evaluated ignores_context
steady scope (T.Choice' ty p test q first r second) st h =
    let a = both _ _ h in
    let b = both _ _ a.0 in
    let v = steady scope test st b.0 in
    let made = choice_steady (type_of test).shape v.0 (evaluated scope first) (evaluated scope second) st (steady scope first st b.1) (steady scope second st a.1) in
    (made.0, λ active. then_gives _ v.0 st _ (v.1 active) ∙ made.1 active)
steady scope (T.LogicalOr' ty p left q right) st h =
    let a = both _ _ h in
    let v = steady scope left st a.0 in
    let made = or_steady ty.shape (type_of left).shape v.0 (evaluated scope right) st (steady scope right st a.1) in
    (made.0, λ active. then_gives _ v.0 st _ (v.1 active) ∙ made.1 active)
steady scope (T.LogicalAnd' ty p left q right) st h =
    let a = both _ _ h in
    let v = steady scope left st a.0 in
    let made = and_steady ty.shape (type_of left).shape v.0 (evaluated scope right) st (steady scope right st a.1) in
    (made.0, λ active. then_gives _ v.0 st _ (v.1 active) ∙ made.1 active)
steady scope (T.Binary' ty place op p left q right) st h =
    let a = both _ _ h in
    let b = both _ _ a.0 in
    let v = steady scope left st b.1 in
    let w = steady scope right st a.1 in
    (_, λ active. then_gives _ v.0 st _ (v.1 active) ∙ (then_gives _ w.0 st _ (w.1 active) ∙ operated_steady scope ty place op (not (type_of left).elem.signed) v.0 w.0 active st b.0))
steady scope (T.Unary' ty op p operand) st h = let v = steady scope operand st h in (_, λ active. then_gives _ v.0 st _ (v.1 active))
steady scope (T.Casts' ty elems p operand) st h = let v = steady scope operand st h in (_, λ active. then_gives _ v.0 st _ (v.1 active))
steady scope (T.ParallelCast' ty p operand) st h = let v = steady scope operand st h in (_, λ active. then_gives _ v.0 st _ (v.1 active))
steady scope (T.Convert' ty p operand) st h = let v = steady scope operand st h in (_, λ active. then_gives _ v.0 st _ (v.1 active))
steady scope (T.Promote' ty p operand) st h = let v = steady scope operand st h in (_, λ active. then_gives _ v.0 st _ (v.1 active))
steady scope (T.Brackets' ty p inner) st h = steady scope inner st h
steady scope (T.Variable ty x) st h = (_, λ active. refl)
steady scope (T.Number ty value) st h = (_, λ active. refl)
steady scope (T.Dot ty axis) st h = (_, λ active. refl)
steady scope (T.Pcoord ty axis) st h = (_, λ active. refl)
steady scope (T.PositionsOf ty shape value) st h = (_, λ active. refl)
steady scope (T.RankOf ty shape value) st h = (_, λ active. refl)
steady scope (T.DimOf ty shape axis value) st h = (_, λ active. refl)
steady scope _ st h = cc

pub ignored : ContextsAreIgnored
unfolding value_given
ignored scope e active other st h =
    let one = steady scope e st h in
    one.1 active ∙ ap (λ (v : Value). Gives v st) (sym (ap value_given (one.1 other)))
