-- A constant expression means its value, in every scope and in every state.
use Rattle.std.proofs.Common.{◌≡◌, ℕ, pos, ◌<◌, ◌^◌, Bool, true, false, not, ◌&&◌, ◌==◌, inr, if◌then◌else◌, List, [], ◌∷◌, ◌++◌, length, Option, Some, None, is_none, IfSome, Box, Vec, refl, sym, ap, ◌∙◌, subst}
use Rattle.std.specs.declared.alloc.Global.{Global}
use Rattle.std.specs.Int.{from_bool}
use Rattle.std.proofs.lemmas.Bool.{eqb-true}
use Rattle.cstar_base.specs.declared.elem.Elem.{Elem}
use Rattle.cstar_base.specs.declared.faults.RunFault.TheVariants.{DivZero}
use Rattle.cstar_base.specs.declared.operators.Op.{Op}
use Rattle.cstar_base.specs.declared.operators.Place.{Place}
use Rattle.cstar_base.specs.Numbers.{converted}
use Rattle.cstar_base.specs.Operators.{operate, divides, outcome}
use Rattle.cstar_base.proofs.NumberLaws.{residue_below}
use Rattle.cstar_tree.specs.declared.typed.TExpr.{TExpr}
use Rattle.cstar_tree.specs.declared.typed.TExpr as T
use Rattle.cstar_tree.specs.declared.typed.UnaryOp.{UnaryOp}
use Rattle.cstar_tree.specs.declared.typed.ValueType.{ValueType}
use Rattle.cstar_tree.specs.Typed.{type_of}
use Rattle.source_meaning.specs.Constants.{fits, is_constant, IsConstantOf, Means, IsValueOf, then_value, value_of}
use Rattle.source_meaning.specs.Expressions.{evaluated, operated, mapped}
use Rattle.source_meaning.specs.Narrowing.{and_then, or_then, choose}
use Rattle.source_meaning.specs.State.{State, Outcome, Gives, then_do}
use Rattle.source_meaning.specs.Values.{Value, Scalar, Active, Scope, nonzero, at, number, each, failing, unless, convert_to, cast_type, cast_through, unary_of}

-- the parts of a conjunction
pub and_left : (a b : Bool) → (a && b) ≡ true → a ≡ true
and_left true b h = refl
and_left false b h = h

pub and_right : (a b : Bool) → (a && b) ≡ true → b ≡ true
and_right true b h = h
and_right false b h = absurd (no h)
  where
    no : false ≡ true → ⊥
    no e = cc

pub four : (a b c d : Bool) → (a && b && c && d) ≡ true → (a ≡ true) × (b ≡ true) × (c ≡ true) × (d ≡ true)
four a b c d h =
    let abc : (a && b && c) ≡ true = and_left (a && b && c) d h in
    let ab : (a && b) ≡ true = and_left (a && b) c abc in
    (and_left a b ab, and_right a b ab, and_right (a && b) c abc, and_right (a && b && c) d h)

pub three : (a b c : Bool) → (a && b && c) ≡ true → (a ≡ true) × (b ≡ true) × (c ≡ true)
three a b c h =
    let ab : (a && b) ≡ true = and_left (a && b) c h in
    (and_left a b ab, and_right a b ab, and_right (a && b) c h)

-- a number of a type is below its modulus
pub fits_below : (ty : ValueType) (w : ℕ) → fits ty w ≡ true → w < 2 ^ ty.elem.bits
fits_below ty w h = subst (λ x. x < 2 ^ ty.elem.bits) (eqb-true _ _ h) (residue_below ty.elem.bits (pos w))

-- bounds by equal numbers of bits
pub below : (w m n : ℕ) → (m == n) ≡ true → w < 2 ^ n → w < 2 ^ m
below w m n e h = subst (λ k. w < 2 ^ k) (sym (eqb-true m n e)) h

pub within : (r : Option ℕ) (m n : ℕ) → (m == n) ≡ true → IfSome r (λ v. v < 2 ^ n) → IfSome r (λ v. v < 2 ^ m)
within r m n e h = let P : ℕ → Type 0 = λ k. IfSome r (λ v. v < 2 ^ k) in subst P (sym (eqb-true m n e)) h

-- a part that does the same means the same
abbrev Part : Type 0
Part = Scope → Active → State → Outcome Value

means_along : (f g : Part) (v : Option ℕ) → ((scope : Scope) (active : Active) (st : State) → f scope active st ≡ g scope active st) → Means g v → Means f v
means_along f g (Some v) e m = λ scope active st. e scope active st ∙ m scope active st
means_along f g None e m = λ scope active st. ((m scope active st).0, e scope active st ∙ (m scope active st).1)

-- one part, and then another
then_means : (first : Part) (next : Scope → Active → Value → State → Outcome Value) (v : Option ℕ) (k : ℕ → Option ℕ) → Means first v → ((a : ℕ) → Means (λ scope active st. next scope active (Scalar a) st) (k a)) → Means (λ scope active st. then_do (first scope active st) (next scope active)) (then_value v k)
unfolding then_do
then_means first next (Some a) k m n =
    means_along _ (λ scope active st. next scope active (Scalar a) st) (k a) (λ scope active st. ap (λ r. then_do r (next scope active)) (m scope active st)) (n a)
then_means first next None k m n =
    λ scope active st. ((m scope active st).0, ap (λ r. then_do r (next scope active)) (m scope active st).1)

-- a value of no shape is a number
no_shape : (s : Option ℕ) → is_none s ≡ true → s ≡ None
no_shape None h = refl
no_shape (Some s) h = cc

each_scalar : (s : Option ℕ) (f : ℕ → ℕ) → is_none s ≡ true → each s f ≡ Scalar (f 0)
unfolding each
each_scalar None f h = refl
each_scalar (Some s) f h = cc

mapped_means : (ty : ValueType) (f : ℕ → ℕ) (a : ℕ) → is_none ty.shape ≡ true → Means (λ scope active st. Gives (mapped ty f (Scalar a)) st) (Some (f a))
unfolding mapped at
mapped_means ty f a h = λ scope active st. ap (λ v. Gives v st) (each_scalar ty.shape (λ p. f a) h)

converted_means : (ty : ValueType) (from : Elem) (a : ℕ) → is_none ty.shape ≡ true → Means (λ scope active st. Gives (convert_to ty from (Scalar a)) st) (Some (converted ty.elem from a))
unfolding convert_to at
converted_means ty from a h = λ scope active st. ap (λ v. Gives v st) (each_scalar ty.shape (λ p. converted ty.elem from a) h)

-- a binary operator
operated_by : (zero : Bool) (place : Place) (r : ℕ) → Means (λ scope active st. unless (if zero then Some None else None) DivZero place st (Gives (Scalar r) st)) (if zero then None else Some r)
unfolding unless
operated_by true place r = λ scope active st. (place, refl)
operated_by false place r = λ scope active st. refl

scalar_of : Elem → ValueType
scalar_of elem = record { elem = elem; shape = None }

type_is_scalar : (ty : ValueType) → is_none ty.shape ≡ true → ty ≡ scalar_of ty.elem
unfolding scalar_of
type_is_scalar ty h = λ i. record { elem = ty.elem; shape = no_shape ty.shape h i }

operated_scalar : (elem : Elem) (place : Place) (op : Op) (unsigned : Bool) (a b : ℕ) → Means (λ scope active st. operated scope active (scalar_of elem) place op unsigned (Scalar a) (Scalar b) st) (operate op unsigned a b)
unfolding operated failing operate at each scalar_of
operated_scalar elem place op unsigned a b = operated_by (divides op && b == 0) place (outcome op 32 unsigned a b)

operated_means : (ty : ValueType) (place : Place) (op : Op) (unsigned : Bool) (a b : ℕ) → is_none ty.shape ≡ true → Means (λ scope active st. operated scope active ty place op unsigned (Scalar a) (Scalar b) st) (operate op unsigned a b)
operated_means ty place op unsigned a b h =
    let P : ValueType → Type 0 = λ t. Means (λ scope active st. operated scope active t place op unsigned (Scalar a) (Scalar b) st) (operate op unsigned a b) in
    subst P (sym (type_is_scalar ty h)) (operated_scalar ty.elem place op unsigned a b)

-- `||`, `&&` and `?:` behind a scalar
truth_means : (right : Part) (v : Option ℕ) → Means right v → Means (λ scope active st. then_do (right scope active st) (λ w after. Gives (each None (λ p. from_bool (nonzero (at w p)))) after)) (then_value v (λ w. Some (from_bool (nonzero w))))
unfolding each at
truth_means right v m = then_means right (λ scope active w after. Gives (each None (λ p. from_bool (nonzero (at w p)))) after) v _ m (λ b. λ scope active st. refl)

or_by : (passes : Bool) (right : Part) (v : Option ℕ) → Means right v → Means (λ scope active st. elim passes [ true ↦ Gives (each None (λ _. 1)) st | false ↦ then_do (right scope active st) (λ w after. Gives (each None (λ p. from_bool (nonzero (at w p)))) after) ]) (if passes then Some 1 else then_value v (λ w. Some (from_bool (nonzero w))))
unfolding each
or_by true right v m = λ scope active st. refl
or_by false right v m = truth_means right v m

and_by : (passes : Bool) (right : Part) (v : Option ℕ) → Means right v → Means (λ scope active st. elim passes [ true ↦ then_do (right scope active st) (λ w after. Gives (each None (λ p. from_bool (nonzero (at w p)))) after) | false ↦ Gives (each None (λ _. 0)) st ]) (if passes then then_value v (λ w. Some (from_bool (nonzero w))) else Some 0)
unfolding each
and_by true right v m = truth_means right v m
and_by false right v m = λ scope active st. refl

choose_by : (passes : Bool) (first second : Part) (v w : Option ℕ) → Means first v → Means second w → Means (λ scope active st. elim passes [ true ↦ first scope active st | false ↦ second scope active st ]) (if passes then v else w)
choose_by true first second v w m n = m
choose_by false first second v w m n = n

or_means : (whole s : Option ℕ) (a : ℕ) (right : Part) (v : Option ℕ) → is_none whole ≡ true → is_none s ≡ true → Means right v → Means (λ scope active st. or_then whole s (Scalar a) (right scope) active st) (if nonzero a then Some 1 else then_value v (λ w. Some (from_bool (nonzero w))))
unfolding or_then number
or_means None None a right v h k m = or_by (nonzero a) right v m
or_means None (Some s) a right v h k m = cc
or_means (Some t) s a right v h k m = cc

and_means : (whole s : Option ℕ) (a : ℕ) (right : Part) (v : Option ℕ) → is_none whole ≡ true → is_none s ≡ true → Means right v → Means (λ scope active st. and_then whole s (Scalar a) (right scope) active st) (if nonzero a then then_value v (λ w. Some (from_bool (nonzero w))) else Some 0)
unfolding and_then number
and_means None None a right v h k m = and_by (nonzero a) right v m
and_means None (Some s) a right v h k m = cc
and_means (Some t) s a right v h k m = cc

choose_means : (s : Option ℕ) (a : ℕ) (first second : Part) (v w : Option ℕ) → is_none s ≡ true → Means first v → Means second w → Means (λ scope active st. choose s (Scalar a) (first scope) (second scope) active st) (if nonzero a then v else w)
unfolding choose number
choose_means None a first second v w h m n = choose_by (nonzero a) first second v w m n
choose_means (Some s) a first second v w h m n = cc

-- what the form of an expression says of it and of its parts
abbrev pub Boxed : Type 0
Boxed = Box (Unit {0}) Global

pub brackets_parts : (ty : ValueType) (p : Boxed) (inner : TExpr) → is_constant (T.Brackets' ty p inner) ≡ true → (is_none ty.shape ≡ true) × ((ty.elem.bits == (type_of inner).elem.bits) ≡ true) × (is_constant inner ≡ true)
unfolding is_constant
brackets_parts ty p inner h = three (is_none ty.shape) (ty.elem.bits == (type_of inner).elem.bits) (is_constant inner) h

pub casts_parts : (ty : ValueType) (elems : Vec Elem Global) (p : Boxed) (operand : TExpr) → is_constant (T.Casts' ty elems p operand) ≡ true → (is_none ty.shape ≡ true) × ((ty.elem.bits == (cast_type elems.items (type_of operand).elem).bits) ≡ true) × (is_constant operand ≡ true)
unfolding is_constant
casts_parts ty elems p operand h = three (is_none ty.shape) (ty.elem.bits == (cast_type elems.items (type_of operand).elem).bits) (is_constant operand) h

pub unary_parts : (ty : ValueType) (op : UnaryOp) (p : Boxed) (operand : TExpr) → is_constant (T.Unary' ty op p operand) ≡ true → (is_none ty.shape ≡ true) × ((ty.elem.bits == 32) ≡ true) × (is_constant operand ≡ true)
unfolding is_constant
unary_parts ty op p operand h = three (is_none ty.shape) (ty.elem.bits == 32) (is_constant operand) h

pub binary_parts : (ty : ValueType) (place : Place) (op : Op) (p q : Boxed) (left right : TExpr) → is_constant (T.Binary' ty place op p left q right) ≡ true → (is_none ty.shape ≡ true) × ((ty.elem.bits == 32) ≡ true) × (is_constant left ≡ true) × (is_constant right ≡ true)
unfolding is_constant
binary_parts ty place op p q left right h = four (is_none ty.shape) (ty.elem.bits == 32) (is_constant left) (is_constant right) h

pub or_parts : (ty : ValueType) (p q : Boxed) (left right : TExpr) → is_constant (T.LogicalOr' ty p left q right) ≡ true → (is_none ty.shape ≡ true) × ((ty.elem.bits == 32) ≡ true) × (is_constant left ≡ true) × (is_constant right ≡ true)
unfolding is_constant
or_parts ty p q left right h = four (is_none ty.shape) (ty.elem.bits == 32) (is_constant left) (is_constant right) h

pub and_parts : (ty : ValueType) (p q : Boxed) (left right : TExpr) → is_constant (T.LogicalAnd' ty p left q right) ≡ true → (is_none ty.shape ≡ true) × ((ty.elem.bits == 32) ≡ true) × (is_constant left ≡ true) × (is_constant right ≡ true)
unfolding is_constant
and_parts ty p q left right h = four (is_none ty.shape) (ty.elem.bits == 32) (is_constant left) (is_constant right) h

pub choice_types : (ty : ValueType) (p q r : Boxed) (test first second : TExpr) → is_constant (T.Choice' ty p test q first r second) ≡ true → (is_none ty.shape ≡ true) × ((ty.elem.bits == (type_of first).elem.bits) ≡ true) × ((ty.elem.bits == (type_of second).elem.bits) ≡ true) × (is_constant test ≡ true)
unfolding is_constant
choice_types ty p q r test first second h =
    four (is_none ty.shape) (ty.elem.bits == (type_of first).elem.bits) (ty.elem.bits == (type_of second).elem.bits) (is_constant test)
    (and_left _ (is_constant first) (and_left _ (is_constant second) h))

pub choice_parts : (ty : ValueType) (p q r : Boxed) (test first second : TExpr) → is_constant (T.Choice' ty p test q first r second) ≡ true → (is_constant first ≡ true) × (is_constant second ≡ true)
unfolding is_constant
choice_parts ty p q r test first second h =
    let typed : Bool = is_none ty.shape && ty.elem.bits == (type_of first).elem.bits && ty.elem.bits == (type_of second).elem.bits && is_constant test in
    (and_right typed (is_constant first) (and_left (typed && is_constant first) (is_constant second) h), and_right (typed && is_constant first) (is_constant second) h)

-- a constant is scalar
constant_scalar : (e : TExpr) → is_constant e ≡ true → is_none (type_of e).shape ≡ true
unfolding is_constant
constant_scalar (T.Number ty value) h = and_left _ _ h
constant_scalar (T.PositionsOf ty shape value) h = and_left _ _ h
constant_scalar (T.RankOf ty shape value) h = and_left _ _ h
constant_scalar (T.DimOf ty shape axis value) h = and_left _ _ h
constant_scalar (T.Brackets' ty p inner) h = (brackets_parts ty p inner h).0
constant_scalar (T.Casts' ty elems p operand) h = (casts_parts ty elems p operand h).0
constant_scalar (T.Convert' ty p operand) h = and_left _ _ h
constant_scalar (T.Unary' ty op p operand) h = (unary_parts ty op p operand h).0
constant_scalar (T.Binary' ty place op p left q right) h = (binary_parts ty place op p q left right h).0
constant_scalar (T.LogicalOr' ty p left q right) h = (or_parts ty p q left right h).0
constant_scalar (T.LogicalAnd' ty p left q right) h = (and_parts ty p q left right h).0
constant_scalar (T.Choice' ty p test q first r second) h = (choice_types ty p q r test first second h).0
constant_scalar _ h = cc

pub value_means : (e : TExpr) → is_constant e ≡ true → IsValueOf e (value_of e)
unfolding is_constant value_of evaluated
value_means (T.Number ty value) h = λ scope active st. refl
value_means (T.PositionsOf ty shape value) h = λ scope active st. refl
value_means (T.RankOf ty shape value) h = λ scope active st. refl
value_means (T.DimOf ty shape axis value) h = λ scope active st. refl
value_means (T.Brackets' ty p inner) h = value_means inner (brackets_parts ty p inner h).2
value_means (T.Casts' ty elems p operand) h =
    then_means (λ scope active st. evaluated scope operand active st) (λ scope active v after. Gives (mapped ty (cast_through elems.items (type_of operand).elem) v) after) (value_of operand)
    (λ v. Some (cast_through elems.items (type_of operand).elem v)) (value_means operand (casts_parts ty elems p operand h).2)
    (λ a. mapped_means ty (cast_through elems.items (type_of operand).elem) a (casts_parts ty elems p operand h).0)
value_means (T.Convert' ty p operand) h =
    then_means (λ scope active st. evaluated scope operand active st) (λ scope active v after. Gives (convert_to ty (type_of operand).elem v) after) (value_of operand)
    (λ v. Some (converted ty.elem (type_of operand).elem v)) (value_means operand (and_right _ _ h))
    (λ a. converted_means ty (type_of operand).elem a (and_left _ _ h))
value_means (T.Unary' ty op p operand) h =
    then_means (λ scope active st. evaluated scope operand active st) (λ scope active v after. Gives (mapped ty (unary_of op) v) after) (value_of operand)
    (λ v. Some (unary_of op v)) (value_means operand (unary_parts ty op p operand h).2) (λ a. mapped_means ty (unary_of op) a (unary_parts ty op p operand h).0)
value_means (T.Binary' ty place op p left q right) h =
    let parts = binary_parts ty place op p q left right h in
    then_means (λ scope active st. evaluated scope left active st)
    (λ scope active v between. then_do (evaluated scope right active between) (λ w after. operated scope active ty place op (not (type_of left).elem.signed) v w after)) (value_of left)
    (λ v. then_value (value_of right) (λ w. operate op (not (type_of left).elem.signed) v w)) (value_means left parts.2)
    (λ a. then_means (λ scope active st. evaluated scope right active st) (λ scope active w after. operated scope active ty place op (not (type_of left).elem.signed) (Scalar a) w after) (value_of right)
    (λ w. operate op (not (type_of left).elem.signed) a w) (value_means right parts.3)
    (λ b. operated_means ty place op (not (type_of left).elem.signed) a b parts.0))
value_means (T.LogicalOr' ty p left q right) h =
    let parts = or_parts ty p q left right h in
    then_means (λ scope active st. evaluated scope left active st) (λ scope active v after. or_then ty.shape (type_of left).shape v (evaluated scope right) active after) (value_of left)
    (λ v. if nonzero v then Some 1 else then_value (value_of right) (λ w. Some (from_bool (nonzero w)))) (value_means left parts.2)
    (λ a. or_means ty.shape (type_of left).shape a (λ scope active st. evaluated scope right active st) (value_of right) parts.0 (constant_scalar left parts.2) (value_means right parts.3))
value_means (T.LogicalAnd' ty p left q right) h =
    let parts = and_parts ty p q left right h in
    then_means (λ scope active st. evaluated scope left active st) (λ scope active v after. and_then ty.shape (type_of left).shape v (evaluated scope right) active after) (value_of left)
    (λ v. if nonzero v then then_value (value_of right) (λ w. Some (from_bool (nonzero w))) else Some 0) (value_means left parts.2)
    (λ a. and_means ty.shape (type_of left).shape a (λ scope active st. evaluated scope right active st) (value_of right) parts.0 (constant_scalar left parts.2) (value_means right parts.3))
value_means (T.Choice' ty p test q first r second) h =
    let upper = choice_parts ty p q r test first second h in
    let lower = choice_types ty p q r test first second h in
    then_means (λ scope active st. evaluated scope test active st) (λ scope active v after. choose (type_of test).shape v (evaluated scope first) (evaluated scope second) active after) (value_of test)
    (λ v. if nonzero v then value_of first else value_of second) (value_means test lower.3)
    (λ a. choose_means (type_of test).shape a (λ scope active st. evaluated scope first active st) (λ scope active st. evaluated scope second active st) (value_of first) (value_of second)
    (constant_scalar test lower.3) (value_means first upper.0) (value_means second upper.1))
value_means _ h = cc

-- a chain of casts, cut before its innermost one
type_last : (xs : List Elem) (to from : Elem) → cast_type (xs ++ to ∷ []) from ≡ cast_type xs to
unfolding cast_type
type_last [] to from = refl
type_last (x ∷ xs) to from = refl

through_last : (xs : List Elem) (to from : Elem) (w : ℕ) → cast_through (xs ++ to ∷ []) from w ≡ cast_through xs to (converted to from w)
unfolding cast_through cast_type
through_last [] to from w = refl
through_last (x ∷ xs) to from w =
    ap (λ e. converted x e (cast_through (xs ++ to ∷ []) from w)) (type_last xs to from) ∙ ap (λ v. converted x (cast_type xs to) v) (through_last xs to from w)

-- what is left to do of a chain of casts, after the innermost ones
pub record IsLeft (all : List Elem) (first : Elem) (start : ℕ) (xs : List Elem) (from : Elem) (w : ℕ) : Type 0 where
  pub number : cast_through xs from w ≡ cast_through all first start
  pub elem : cast_type xs from ≡ cast_type all first

left_before_last : (all : List Elem) (first : Elem) (start : ℕ) (xs : List Elem) (to from : Elem) (w : ℕ) → IsLeft all first start (xs ++ to ∷ []) from w → IsLeft all first start xs to (converted to from w)
left_before_last all first start xs to from w l = record { number = sym (through_last xs to from w) ∙ l.number; elem = sym (type_last xs to from) ∙ l.elem }

pub left_after : (all : List Elem) (first : Elem) (start : ℕ) (ys xs : List Elem) (to from : Elem) (w v : ℕ) → ys ≡ xs ++ to ∷ [] → v ≡ converted to from w → IsLeft all first start ys from w → IsLeft all first start xs to v
left_after all first start ys xs to from w v e f l =
    let P : List Elem → Type 0 = λ zs. IsLeft all first start zs from w in
    let Q : ℕ → Type 0 = λ n. IsLeft all first start xs to n in
    subst Q (sym f) (left_before_last all first start xs to from w (subst P e l))

pub nothing_left : (all : List Elem) (first : Elem) (start : ℕ) (xs : List Elem) (from : Elem) (w : ℕ) → length xs ≡ 0 → IsLeft all first start xs from w → (w ≡ cast_through all first start) × (from ≡ cast_type all first)
unfolding cast_through cast_type
nothing_left all first start [] from w e l = (l.number, l.elem)
nothing_left all first start (x ∷ xs) from w e l = cc

-- what the form of a number, or of what is asked of a shape, says of it
pub number_below : (ty : ValueType) (w : ℕ) → (is_none ty.shape && fits ty w) ≡ true → w < 2 ^ ty.elem.bits
number_below ty w h = fits_below ty w (and_right (is_none ty.shape) (fits ty w) h)

-- the answer for a constant expression, and for one that is not constant
pub constant_given : (e : TExpr) (r : Option ℕ) → is_constant e ≡ true → r ≡ value_of e → IsConstantOf e r
unfolding IsConstantOf
constant_given e (Some v) h q = (h, subst (λ o. IsValueOf e o) (sym q) (value_means e h))
constant_given e None h q = inr (subst (λ o. IsValueOf e o) (sym q) (value_means e h))
