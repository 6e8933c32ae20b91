-- Scalars that change nothing: what they mean wherever they stand, and how the laws of scalar programs see them.
use Rattle.std.proofs.Common.{◌≡◌, ◌∙◌, ◌⊎◌, ℕ, inl, inr, ◌<◌, ◌^◌, ◌==◌, ◌&&◌, Bool, true, false, not, Option, Some, None, refl, sym, ap, subst, if◌then◌else◌}
use Rattle.std.specs.Int.{from_bool}
use Rattle.constant_trees.proofs.Words.{converted_below, from_bool_below, unary_below}
use Rattle.cstar_base.specs.declared.faults.RunFault.TheVariants.{DivZero}
use Rattle.cstar_base.specs.declared.operators.Op.{Op}
use Rattle.cstar_base.specs.declared.operators.Place.{Place}
use Rattle.cstar_base.specs.Numbers.{converted}
use Rattle.cstar_base.specs.Operators.{divides, outcome}
use Rattle.cstar_tree.specs.declared.typed.TExpr.{TExpr}
use Rattle.cstar_tree.specs.declared.typed.TExpr as T
use Rattle.cstar_tree.specs.declared.typed.ValueType.{ValueType}
use Rattle.cstar_tree.specs.declared.typed.VarInfo.{VarInfo}
use Rattle.cstar_tree.specs.declared.typed.Variable.{Variable}
use Rattle.cstar_tree.specs.StatementTypes.{variable_info}
use Rattle.cstar_tree.specs.Typed.{type_of}
use Rattle.code_lengths.specs.Naming.{NamesVariables, plain}
use Rattle.lower_base.specs.Operators.{machine_of}
use Rattle.source_meaning.specs.Expressions.{evaluated, mapped, operated, located}
use Rattle.source_meaning.specs.Narrowing.{Operand, and_then, choose, or_then}
use Rattle.source_meaning.specs.State.{Ends, Fault, Gives, Outcome, State, then_do, with_scalar}
use Rattle.source_meaning.specs.Targets.{read, variable_target, OfScalar, Target, assign_to, assigned, new_value, step_op, step_value, stepped, stored}
use Rattle.source_meaning.specs.Values.{Active, Scalar, Scope, Value, at, cast_through, convert_to, each, failing, nonzero, number, unary_of, unless, positions}
use Rattle.code_follows.specs.Fragment.{IsIn, IsPosition, IsVariable, NamesAmong, naming}
use Rattle.code_follows.proofs.Following.{IsScalar}
use Rattle.code_follows.proofs.Operators.{machine_below, machine_same}
use Rattle.code_follows.proofs.Settings.{Setting}
use Rattle.code_follows.proofs.Words.{below_bits, through_below, within_word, scalar_of}
use Rattle.fields_follow.specs.Fragment.{IsCalm, alone, calling_nothing}
use Rattle.source_meaning.specs.Reductions.{divides_by_zero, folded_into, promoted, updated}
use Rattle.cstar_tree.specs.declared.syntax.AssignOp.{AssignOp}

pub calm_scalar : (e : TExpr) → IsCalm e → (type_of e).shape ≡ None
unfolding IsCalm
calm_scalar (T.Number ty value) h = h.0.0
calm_scalar (T.PositionsOf ty shape value) h = h.0.0
calm_scalar (T.RankOf ty shape value) h = h.0.0
calm_scalar (T.DimOf ty shape axis value) h = h.0.0
calm_scalar (T.Variable ty x) h = h
calm_scalar (T.Brackets' ty p inner) h = ap (λ (y : ValueType). y.shape) h.0 ∙ calm_scalar inner h.1
calm_scalar (T.Convert' ty p operand) h = h.0
calm_scalar (T.Casts' ty elems p operand) h = h.0
calm_scalar (T.Unary' ty op p operand) h = h.0.0
calm_scalar (T.Binary' ty place op p left q right) h = h.0.0
calm_scalar (T.LogicalOr' ty p left q right) h = h.0.0
calm_scalar (T.LogicalAnd' ty p left q right) h = h.0.0
calm_scalar (T.Choice' ty p test q first r second) h = h.0.0
calm_scalar _ h = absurd h

-- it is an expression of scalar programs that calls nothing
pub calm_alone : (e : TExpr) → IsCalm e → IsIn alone e
unfolding IsCalm IsIn
calm_alone (T.Number ty value) h = h
calm_alone (T.PositionsOf ty shape value) h = h
calm_alone (T.RankOf ty shape value) h = h
calm_alone (T.DimOf ty shape axis value) h = h
calm_alone (T.Variable ty x) h = (h, tt)
calm_alone (T.Brackets' ty p inner) h = (h.0, calm_alone inner h.1)
calm_alone (T.Convert' ty p operand) h = (h.0, calm_alone operand h.1)
calm_alone (T.Casts' ty elems p operand) h = (h.0, h.1, calm_alone operand h.2)
calm_alone (T.Unary' ty op p operand) h = (h.0, calm_alone operand h.1, h.2)
calm_alone (T.Binary' ty place op p left q right) h = (h.0, calm_alone left h.1, calm_alone right h.2, h.3, h.4)
calm_alone (T.LogicalOr' ty p left q right) h = (h.0, calm_alone left h.1, calm_alone right h.2)
calm_alone (T.LogicalAnd' ty p left q right) h = (h.0, calm_alone left h.1, calm_alone right h.2)
calm_alone (T.Choice' ty p test q first r second) h = (h.0, calm_alone test h.1, calm_alone first h.2, calm_alone second h.3, h.4, h.5)
calm_alone _ h = absurd h

-- one that calls nothing is one of the variables that it names
target_in : (folds : TExpr → Type 0) (names : Variable → Type 0) (e : TExpr) → IsVariable (calling_nothing folds) e → NamesAmong names e → IsVariable (naming (calling_nothing folds) names) e
unfolding IsVariable NamesAmong
target_in folds names (T.Variable ty x) h among = (h.0, among)
target_in folds names (T.Brackets' ty p inner) h among = (h.0, target_in folds names inner h.1 among)
target_in folds names _ h among = absurd h

-- it has no position
variable_alone : (folds : TExpr → Type 0) (target : TExpr) → IsVariable (calling_nothing folds) target ⊎ IsPosition (calling_nothing folds) target → IsVariable (calling_nothing folds) target
unfolding IsPosition
variable_alone folds target (inl h) = h
variable_alone folds (T.LeftIndex' ty place p indexes x of) (inr h) = absurd h.1
variable_alone folds _ (inr h) = absurd h

pub alone_in : (folds : TExpr → Type 0) (names : Variable → Type 0) (e : TExpr) → IsIn (calling_nothing folds) e → NamesAmong names e → IsIn (naming (calling_nothing folds) names) e
unfolding NamesAmong IsIn
alone_in folds names (T.Number ty value) h among = h
alone_in folds names (T.PositionsOf ty shape value) h among = h
alone_in folds names (T.RankOf ty shape value) h among = h
alone_in folds names (T.DimOf ty shape axis value) h among = h
alone_in folds names (T.Variable ty x) h among = (h.0, among)
alone_in folds names (T.GetChar ty) h among = h
alone_in folds names (T.Brackets' ty p inner) h among = (h.0, alone_in folds names inner h.1 among)
alone_in folds names (T.Convert' ty p operand) h among = (h.0, alone_in folds names operand h.1 among)
alone_in folds names (T.Casts' ty elems p operand) h among = (h.0, h.1, alone_in folds names operand h.2 among)
alone_in folds names (T.Unary' ty op p operand) h among = (h.0, alone_in folds names operand h.1 among, h.2)
alone_in folds names (T.Binary' ty place op p left q right) h among = (h.0, alone_in folds names left h.1 among.0, alone_in folds names right h.2 among.1, h.3, h.4)
alone_in folds names (T.LogicalOr' ty p left q right) h among = (h.0, alone_in folds names left h.1 among.0, alone_in folds names right h.2 among.1)
alone_in folds names (T.LogicalAnd' ty p left q right) h among = (h.0, alone_in folds names left h.1 among.0, alone_in folds names right h.2 among.1)
alone_in folds names (T.Choice' ty p test q first r second) h among = (h.0, alone_in folds names test h.1 among.0, alone_in folds names first h.2 among.1, alone_in folds names second h.3 among.2, h.4, h.5)
alone_in folds names (T.Assign' ty place op p target q value) h among = (h.0, h.1, inl (target_in folds names target (variable_alone folds target h.2) among.0), alone_in folds names value h.3 among.1, h.4)
alone_in folds names (T.Step' ty op order p target) h among = (h.0, h.1, inl (target_in folds names target (variable_alone folds target h.2) among))
alone_in folds names (T.Call' ty index p arguments) h among = absurd h.1
alone_in folds names (T.Reduce' ty op p operand) h among = (h.0, h.1, among)
alone_in folds names (T.LeftIndex' ty place p indexes x of) h among = absurd h.1
alone_in folds names _ h among = absurd h

-- where its targets stand
located_is : (target : TExpr) → IsVariable alone target → (x : Variable) × ((scope : Scope) (active : Active) (st : State) → located scope target active st ≡ Gives (OfScalar x) st)
unfolding IsVariable located variable_target
located_is (T.Variable ty x) h = (x, λ scope active st. ap (λ (o : Option ℕ). Gives (variable_target o x 0) st) h.0)
located_is (T.Brackets' ty p inner) h = located_is inner h.1
located_is _ h = absurd h

-- Its meaning is the same under any contexts, and whatever surrounds it.
module _ (scope other : Scope) (active others : Active) where
  operated_same : (ty : ValueType) (place : Place) (op : Op) (unsigned : Bool) (v w : Value) (st : State) → ty.shape ≡ None → operated scope active ty place op unsigned v w st ≡ operated other others ty place op unsigned v w st
  unfolding operated failing
  operated_same ty place op unsigned v w st scalar =
      ap (λ (o : Option ℕ). unless (failing scope active o (λ p. divides op && at w p == 0)) DivZero place st (Gives (each ty.shape (λ p. outcome op 32 unsigned (at v p) (at w p))) st)) scalar
      ∙ sym (ap (λ (o : Option ℕ). unless (failing other others o (λ p. divides op && at w p == 0)) DivZero place st (Gives (each ty.shape (λ p. outcome op 32 unsigned (at v p) (at w p))) st)) scalar)

  and_same : (whole of : Option ℕ) (v : Value) (f g : Operand) (st : State) → of ≡ None → f active st ≡ g others st → and_then whole of v f active st ≡ and_then whole of v g others st
  unfolding and_then
  and_same whole of v f g st none same =
      ap (λ (o : Option ℕ). and_then whole o v f active st) none
      ∙ ap (λ (o : Outcome Value). elim (nonzero (number v)) as (λ _. Outcome Value) [ true ↦ then_do o (λ w after. Gives (each whole (λ p. from_bool (nonzero (at w p)))) after) | false ↦ Gives (each whole (λ _. 0)) st ]) same
      ∙ sym (ap (λ (o : Option ℕ). and_then whole o v g others st) none)

  or_same : (whole of : Option ℕ) (v : Value) (f g : Operand) (st : State) → of ≡ None → f active st ≡ g others st → or_then whole of v f active st ≡ or_then whole of v g others st
  unfolding or_then
  or_same whole of v f g st none same =
      ap (λ (o : Option ℕ). or_then whole o v f active st) none
      ∙ ap (λ (o : Outcome Value). elim (nonzero (number v)) as (λ _. Outcome Value) [ true ↦ Gives (each whole (λ _. 1)) st | false ↦ then_do o (λ w after. Gives (each whole (λ p. from_bool (nonzero (at w p)))) after) ]) same
      ∙ sym (ap (λ (o : Option ℕ). or_then whole o v g others st) none)

  choose_same : (of : Option ℕ) (v : Value) (f g h k : Operand) (st : State) → of ≡ None → f active st ≡ h others st → g active st ≡ k others st → choose of v f g active st ≡ choose of v h k others st
  unfolding choose
  choose_same of v f g h k st none one two =
      ap (λ (o : Option ℕ). choose o v f g active st) none
      ∙ (λ i. elim (nonzero (number v)) as (λ _. Outcome Value) [ true ↦ one i | false ↦ two i ])
      ∙ sym (ap (λ (o : Option ℕ). choose o v h k others st) none)

  new_same : (op : AssignOp) (to from : ValueType) (old v : Value) → to.shape ≡ None → from.shape ≡ None → new_value scope active op to from old v ≡ new_value other others op to from old v
  unfolding new_value
  new_same op to from old v scalar also =
      (λ i. elim (scalar i) as (λ _. Value) [ Some _ ↦ each to.shape (λ p. updated op to.elem from.elem (at old p) (at v p)) | None ↦ elim (also i) as (λ _. Value) [ None ↦ each to.shape (λ p. updated op to.elem from.elem (at old p) (at v p)) | Some s ↦ Scalar (folded_into op to.elem from.elem (number old) (active s) (λ p. at v p) (positions scope s)) ] ])
      ∙ sym (λ i. elim (scalar i) as (λ _. Value) [ Some _ ↦ each to.shape (λ p. updated op to.elem from.elem (at old p) (at v p)) | None ↦ elim (also i) as (λ _. Value) [ None ↦ each to.shape (λ p. updated op to.elem from.elem (at old p) (at v p)) | Some s ↦ Scalar (folded_into op to.elem from.elem (number old) (others s) (λ p. at v p) (positions other s)) ] ])

  assign_same : (op : AssignOp) (to from : ValueType) (x : Variable) (v : Value) (st : State) → to.shape ≡ None → from.shape ≡ None → assign_to scope active op to from (OfScalar x) v st ≡ assign_to other others op to from (OfScalar x) v st
  unfolding assign_to stored
  assign_same op to from x v st scalar also = ap (λ (new : Value). Gives new (with_scalar x (number new) st)) (new_same op to from (read st (OfScalar x)) v scalar also)

  assigned_same : (place : Place) (op : AssignOp) (to from : ValueType) (x : Variable) (v : Value) (st : State) → to.shape ≡ None → from.shape ≡ None → assigned scope active place op to from (OfScalar x) v st ≡ assigned other others place op to from (OfScalar x) v st
  unfolding assigned failing
  assigned_same place op to from x v st scalar also =
      ap (λ (o : Option ℕ). unless (failing scope active o (λ p. divides_by_zero op (at v p))) DivZero place st (assign_to scope active op to from (OfScalar x) v st)) scalar
      ∙ ap (λ (o : Outcome Value). unless (failing other others None (λ p. divides_by_zero op (at v p))) DivZero place st o) (assign_same op to from x v st scalar also)
      ∙ sym (ap (λ (o : Option ℕ). unless (failing other others o (λ p. divides_by_zero op (at v p))) DivZero place st (assign_to other others op to from (OfScalar x) v st)) scalar)

  pub alone_same : (e : TExpr) → IsIn alone e → (st : State) → evaluated scope e active st ≡ evaluated other e others st
  unfolding IsIn evaluated then_do stepped
  alone_same (T.Number ty value) h st = refl
  alone_same (T.PositionsOf ty shape value) h st = refl
  alone_same (T.RankOf ty shape value) h st = refl
  alone_same (T.DimOf ty shape axis value) h st = refl
  alone_same (T.Variable ty x) h st = refl
  alone_same (T.GetChar ty) h st = refl
  alone_same (T.Brackets' ty p inner) h st = alone_same inner h.1 st
  alone_same (T.Convert' ty p operand) h st = ap (λ (o : Outcome Value). then_do o (λ v after. Gives (convert_to ty (type_of operand).elem v) after)) (alone_same operand h.1 st)
  alone_same (T.Casts' ty elems p operand) h st = ap (λ (o : Outcome Value). then_do o (λ v after. Gives (mapped ty (λ w. cast_through elems.items (type_of operand).elem w) v) after)) (alone_same operand h.2 st)
  alone_same (T.Unary' ty op p operand) h st = ap (λ (o : Outcome Value). then_do o (λ v after. Gives (mapped ty (λ w. unary_of op w) v) after)) (alone_same operand h.1 st)
  alone_same (T.Binary' ty place op p left q right) h st = λ i. then_do (alone_same left h.1 st i) (λ v between. then_do (alone_same right h.2 between i) (λ w after. operated_same ty place op (not (type_of left).elem.signed) v w after h.0.0 i))
  alone_same (T.LogicalOr' ty p left q right) h st = λ i. then_do (alone_same left h.1 st i) (λ v after. or_same ty.shape (type_of left).shape v (λ a u. evaluated scope right a u) (λ a u. evaluated other right a u) after (scalar_of alone left h.1) (alone_same right h.2 after) i)
  alone_same (T.LogicalAnd' ty p left q right) h st = λ i. then_do (alone_same left h.1 st i) (λ v after. and_same ty.shape (type_of left).shape v (λ a u. evaluated scope right a u) (λ a u. evaluated other right a u) after (scalar_of alone left h.1) (alone_same right h.2 after) i)
  alone_same (T.Choice' ty p test q first r second) h st =
      λ i. then_do (alone_same test h.1 st i) (λ v after. choose_same (type_of test).shape v (λ a u. evaluated scope first a u) (λ a u. evaluated scope second a u) (λ a u. evaluated other first a u) (λ a u. evaluated other second a u) after (scalar_of alone test h.1) (alone_same first h.2 after) (alone_same second h.3 after) i)
  alone_same (T.Assign' ty place op p target q value) h st =
      let there = located_is target (variable_alone (λ e. ⊥) target h.2) in
      ap (λ (o : Outcome Target). then_do o (λ at between. then_do (evaluated scope value active between) (λ v after. assigned scope active place op ty (type_of value) at v after))) (there.1 scope active st)
      ∙ (λ i. then_do (alone_same value h.3 st i) (λ v after. assigned_same place op ty (type_of value) there.0 v after h.0 (scalar_of alone value h.3) i))
      ∙ sym (ap (λ (o : Outcome Target). then_do o (λ at between. then_do (evaluated other value others between) (λ v after. assigned other others place op ty (type_of value) at v after))) (there.1 other others st))
  alone_same (T.Step' ty op order p target) h st =
      let there = located_is target (variable_alone (λ e. ⊥) target h.2) in
      ap (λ (o : Outcome Target). then_do o (λ at after. stepped scope active op order ty at after)) (there.1 scope active st)
      ∙ ap (λ (o : Outcome Value). then_do o (λ new after. Gives (step_value order (read st (OfScalar there.0)) new) after)) (assign_same (step_op op) ty (record { elem = promoted ty.elem; shape = ty.shape }) there.0 (each ty.shape (λ _. 1)) st h.0 h.0)
      ∙ sym (ap (λ (o : Outcome Target). then_do o (λ at after. stepped other others op order ty at after)) (there.1 other others st))
  alone_same (T.Call' ty index p arguments) h st = absurd h.1
  alone_same (T.Reduce' ty op p operand) h st = absurd h.1
  alone_same (T.LeftIndex' ty place p indexes x of) h st = absurd h.1
  alone_same _ h st = absurd h

  pub calm_same : (e : TExpr) → IsCalm e → (st : State) → evaluated scope e active st ≡ evaluated other e others st
  calm_same e h st = alone_same e (calm_alone e h) st

-- It gives a number of its type, and the state as it was, or ends early.
unfoldable pub IsCalmly : ℕ → State → Outcome Value → Type 0
IsCalmly bits st (Gives v u) = (v ≡ Scalar (at v 0)) × (at v 0 < 2 ^ bits) × (u ≡ st)
IsCalmly bits st (Ends early u) = Unit {0}

gives_calmly : (bits : ℕ) (st : State) (w : ℕ) → w < 2 ^ bits → IsCalmly bits st (Gives (Scalar w) st)
unfolding IsCalmly at
gives_calmly bits st w few = (refl, few, refl)

ends_calmly : (bits : ℕ) (st u : State) (early : _) → IsCalmly bits st (Ends early u)
unfolding IsCalmly
ends_calmly bits st u early = tt

then_calmly : (few bits : ℕ) (st : State) (o : Outcome Value) (k : Value → State → Outcome Value) → IsCalmly few st o → ((w : ℕ) → w < 2 ^ few → IsCalmly bits st (k (Scalar w) st)) → IsCalmly bits st (then_do o k)
unfolding IsCalmly then_do
then_calmly few bits st (Gives v u) k h next = subst (λ (t : State). IsCalmly bits st (k v t)) (sym h.2) (subst (λ (x : Value). IsCalmly bits st (k x st)) (sym h.0) (next (at v 0) h.1))
then_calmly few bits st (Ends early u) k h next = tt

module _ (g : Setting) (alive : Variable → Type 0) (n : ℕ) (scope : Scope) (active : Active) (st : State) (small : (x : Variable) (info : VarInfo) → alive x → IsScalar g x info → st.scalar x < 2 ^ info.elem.bits) where
  -- a value of scalars
  each_calmly : (ty : ValueType) (f : ℕ → ℕ) → ty.shape ≡ None → f 0 < 2 ^ ty.elem.bits → IsCalmly ty.elem.bits st (Gives (each ty.shape f) st)
  unfolding each
  each_calmly ty f scalar few = subst (λ (o : Option ℕ). IsCalmly ty.elem.bits st (Gives (each o f) st)) (sym scalar) (gives_calmly ty.elem.bits st (f 0) few)

  pub scalar_operated : (ty : ValueType) (place : Place) (op : Op) (unsigned : Bool) (x y : ℕ) → ty.shape ≡ None → operated scope active ty place op unsigned (Scalar x) (Scalar y) st ≡ (if divides op && (y == 0) then Ends (Fault DivZero place None) st else Gives (Scalar (outcome op 32 unsigned x y)) st)
  unfolding operated failing unless each at
  scalar_operated ty place op unsigned x y scalar =
      ap (λ (o : Option ℕ). unless (failing scope active o (λ p. divides op && (y == 0))) DivZero place st (Gives (each o (λ p. outcome op 32 unsigned x y)) st)) scalar ∙ by (divides op && (y == 0))
    where
      by : (b : Bool) → unless (if b then Some None else None) DivZero place st (Gives (Scalar (outcome op 32 unsigned x y)) st) ≡ (if b then Ends (Fault DivZero place None) st else Gives (Scalar (outcome op 32 unsigned x y)) st)
      by true = refl
      by false = refl

  operated_calmly : (ty : ValueType) (place : Place) (op : Op) (signed : Bool) (x y : ℕ) → ty.shape ≡ None → ty.elem.bits ≡ 32 → x < 2 ^ 32 → y < 2 ^ 32 → IsCalmly ty.elem.bits st (operated scope active ty place op (not signed) (Scalar x) (Scalar y) st)
  operated_calmly ty place op signed x y scalar wide few small = subst (λ (o : Outcome Value). IsCalmly ty.elem.bits st o) (sym (scalar_operated ty place op (not signed) x y scalar)) (by (divides op) (y == 0) refl refl)
    where
      given : (divides op ≡ true → (y == 0) ≡ false) → IsCalmly ty.elem.bits st (Gives (Scalar (outcome op 32 (not signed) x y)) st)
      given some = gives_calmly ty.elem.bits st (outcome op 32 (not signed) x y) (below_bits ty.elem.bits _ wide (subst (λ (w : ℕ). w < 2 ^ 32) (machine_same x y few small op signed some) (machine_below x y few small (machine_of op signed))))

      by : (c z : Bool) → divides op ≡ c → (y == 0) ≡ z → IsCalmly ty.elem.bits st (if c && z then Ends (Fault DivZero place None) st else Gives (Scalar (outcome op 32 (not signed) x y)) st)
      by true true is_c is_z = ends_calmly ty.elem.bits st st (Fault DivZero place None)
      by true false is_c is_z = given (λ divided. is_z)
      by false z is_c is_z = given (λ divided. cc)

  truth_calmly : (ty : ValueType) (few : ℕ) (o : Outcome Value) → ty.shape ≡ None → ty.elem.bits ≡ 32 → IsCalmly few st o → IsCalmly ty.elem.bits st (then_do o (λ w after. Gives (each ty.shape (λ p. from_bool (nonzero (at w p)))) after))
  truth_calmly ty few o scalar wide h = then_calmly few ty.elem.bits st o _ h (λ w below. each_calmly ty (λ p. from_bool (nonzero (at (Scalar w) p))) scalar (below_bits ty.elem.bits _ wide (from_bool_below (nonzero (at (Scalar w) 0)))))

  pub calm_gives : (e : TExpr) → IsCalm e → NamesVariables g.typed g.instance n e → NamesAmong alive e → IsCalmly (type_of e).elem.bits st (evaluated scope e active st)
  unfolding IsCalm NamesVariables NamesAmong evaluated mapped convert_to at read variable_target or_then and_then choose
  calm_gives (T.Number ty value) h names among = gives_calmly ty.elem.bits st value (below_bits ty.elem.bits value h.0.1 h.1)
  calm_gives (T.PositionsOf ty shape value) h names among = gives_calmly ty.elem.bits st value (below_bits ty.elem.bits value h.0.1 h.1)
  calm_gives (T.RankOf ty shape value) h names among = gives_calmly ty.elem.bits st value (below_bits ty.elem.bits value h.0.1 h.1)
  calm_gives (T.DimOf ty shape axis value) h names among = gives_calmly ty.elem.bits st value (below_bits ty.elem.bits value h.0.1 h.1)
  calm_gives (T.Variable ty x) h names among = subst (λ (o : Option ℕ). IsCalmly ty.elem.bits st (Gives (read st (variable_target o x 0)) st)) (sym h) (gives_calmly ty.elem.bits st (st.scalar x) (small x (variable_info names.word (plain ty) names.start) among (names.named, h)))
  calm_gives (T.Brackets' ty p inner) h names among = subst (λ (y : ValueType). IsCalmly y.elem.bits st (evaluated scope inner active st)) (sym h.0) (calm_gives inner h.1 names among)
  calm_gives (T.Convert' ty p operand) h names among =
      then_calmly (type_of operand).elem.bits ty.elem.bits st (evaluated scope operand active st) _ (calm_gives operand h.1 names among) (λ w few. each_calmly ty (λ p. converted ty.elem (type_of operand).elem w) h.0 (converted_below ty.elem (type_of operand).elem w))
  calm_gives (T.Casts' ty elems p operand) h names among =
      then_calmly (type_of operand).elem.bits ty.elem.bits st (evaluated scope operand active st) _ (calm_gives operand h.2 names among)
      (λ w few. each_calmly ty (λ p. cast_through elems.items (type_of operand).elem w) h.0 (subst (λ (e : _). cast_through elems.items (type_of operand).elem w < 2 ^ e.bits) (sym h.1) (through_below elems.items (type_of operand).elem w few)))
  calm_gives (T.Unary' ty op p operand) h names among =
      then_calmly (type_of operand).elem.bits ty.elem.bits st (evaluated scope operand active st) _ (calm_gives operand h.1 names among) (λ w few. each_calmly ty (λ p. unary_of op w) h.0.0 (below_bits ty.elem.bits _ h.0.1 (unary_below op w (within_word (type_of operand).elem w few))))
  calm_gives (T.Binary' ty place op p left q right) h names among =
      then_calmly (type_of left).elem.bits ty.elem.bits st (evaluated scope left active st) _ (calm_gives left h.1 names.0 among.0) (λ x few.
      then_calmly (type_of right).elem.bits ty.elem.bits st (evaluated scope right active st) _ (calm_gives right h.2 names.1 among.1) (λ y less.
      operated_calmly ty place op (type_of left).elem.signed x y h.0.0 h.0.1 (within_word (type_of left).elem x few) (within_word (type_of right).elem y less)))
  calm_gives (T.LogicalOr' ty p left q right) h names among =
      then_calmly (type_of left).elem.bits ty.elem.bits st (evaluated scope left active st) _ (calm_gives left h.1 names.0 among.0) (λ x few.
      subst (λ (o : Option ℕ). IsCalmly ty.elem.bits st (or_then ty.shape o (Scalar x) (λ a u. evaluated scope right a u) active st)) (sym (calm_scalar left h.1)) (by (calm_gives right h.2 names.1 among.1) (nonzero (number (Scalar x)))))
    where
      by : IsCalmly (type_of right).elem.bits st (evaluated scope right active st) → (b : Bool) → IsCalmly ty.elem.bits st (elim b as (λ _. Outcome Value) [ true ↦ Gives (each ty.shape (λ _. 1)) st | false ↦ then_do (evaluated scope right active st) (λ w after. Gives (each ty.shape (λ p. from_bool (nonzero (at w p)))) after) ])
      by other true = each_calmly ty (λ p. 1) h.0.0 (below_bits ty.elem.bits 1 h.0.1 (from_bool_below true))
      by other false = truth_calmly ty (type_of right).elem.bits (evaluated scope right active st) h.0.0 h.0.1 other
  calm_gives (T.LogicalAnd' ty p left q right) h names among =
      then_calmly (type_of left).elem.bits ty.elem.bits st (evaluated scope left active st) _ (calm_gives left h.1 names.0 among.0) (λ x few.
      subst (λ (o : Option ℕ). IsCalmly ty.elem.bits st (and_then ty.shape o (Scalar x) (λ a u. evaluated scope right a u) active st)) (sym (calm_scalar left h.1)) (by (calm_gives right h.2 names.1 among.1) (nonzero (number (Scalar x)))))
    where
      by : IsCalmly (type_of right).elem.bits st (evaluated scope right active st) → (b : Bool) → IsCalmly ty.elem.bits st (elim b as (λ _. Outcome Value) [ true ↦ then_do (evaluated scope right active st) (λ w after. Gives (each ty.shape (λ p. from_bool (nonzero (at w p)))) after) | false ↦ Gives (each ty.shape (λ _. 0)) st ])
      by other true = truth_calmly ty (type_of right).elem.bits (evaluated scope right active st) h.0.0 h.0.1 other
      by other false = each_calmly ty (λ p. 0) h.0.0 (below_bits ty.elem.bits 0 h.0.1 (from_bool_below false))
  calm_gives (T.Choice' ty p test q first r second) h names among =
      then_calmly (type_of test).elem.bits ty.elem.bits st (evaluated scope test active st) _ (calm_gives test h.1 names.0 among.0) (λ x few.
      subst (λ (o : Option ℕ). IsCalmly ty.elem.bits st (choose o (Scalar x) (λ a u. evaluated scope first a u) (λ a u. evaluated scope second a u) active st)) (sym (calm_scalar test h.1)) (by (calm_gives first h.2 names.1 among.1) (calm_gives second h.3 names.2 among.2) (nonzero (number (Scalar x)))))
    where
      by : IsCalmly (type_of first).elem.bits st (evaluated scope first active st) → IsCalmly (type_of second).elem.bits st (evaluated scope second active st) → (b : Bool) → IsCalmly ty.elem.bits st (elim b as (λ _. Outcome Value) [ true ↦ evaluated scope first active st | false ↦ evaluated scope second active st ])
      by one other true = subst (λ (m : ℕ). IsCalmly m st (evaluated scope first active st)) (h.4.1 ∙ sym h.0.1) one
      by one other false = subst (λ (m : ℕ). IsCalmly m st (evaluated scope second active st)) (h.5.1 ∙ sym h.0.1) other
  calm_gives _ h names among = absurd h
