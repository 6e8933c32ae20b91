-- Constant expressions: which expressions are constant by their form, and their values.
use Rattle.std.specs.Prelude.{ℕ, ◌-◌, ◌*◌, ◌^◌, ◌==◌, nat_lt, not, true, ℤ, pos, negsuc, List, [], ◌∷◌, length, slice_get, Option, Some, None, if◌then◌else◌}
use Rattle.std.specs.Option.{option_map}
use Rattle.cstar_base.specs.Numbers.{number_of}
use Rattle.cstar_base.specs.Numbers.{converted as converted_word}
use Rattle.cstar_base.specs.Operators.{operate, difference_of}
use Rattle.cstar_base.specs.declared.elem.Elem.{Elem}
use Rattle.cstar_base.specs.declared.operators.Op.{Op}
use Rattle.cstar_tree.specs.declared.syntax.BinaryOp.{BinaryOp}
use Rattle.cstar_tree.specs.declared.syntax.BinaryOp.TheVariants as B
use Rattle.cstar_tree.specs.declared.syntax.Cast.{Cast}
use Rattle.cstar_tree.specs.declared.syntax.Expr.{Expr}
use Rattle.cstar_tree.specs.declared.syntax.Expr as E
use Rattle.cstar_tree.specs.declared.syntax.PrefixOp.{PrefixOp}
use Rattle.cstar_tree.specs.declared.syntax.PrefixOp.TheVariants as P
use Rattle.cstar_tree.specs.Conversions.{common, int, promoted, unsigned}
use Rattle.cstar_tree.specs.Operations.{left_elem, right_elem, result_elem}
use Rattle.cstar_tree.specs.Scopes.{Here, extents_of, shape_of}

-- an expression that is constant by its form: its type, and its value as a residue of the type,
-- which is absent where the value is a fault
pub record Constant : Type 0 where
  pub elem : Elem
  pub word : Option ℕ

abbrev pub an_int : ℕ → Constant
an_int n = record { elem = int; word = Some n }

unfoldable pub cast_to : Elem → Constant → Constant
cast_to elem k = record { elem = elem; word = option_map (converted_word elem k.elem) k.word }

-- casts, the outermost first
unfoldable pub cast_through : List Cast → Constant → Constant
cast_through [] k = k
cast_through (c ∷ cs) k = cast_to c.elem (cast_through cs k)

-- where both have a value
unfoldable pub with_both : (ℕ → ℕ → Option ℕ) → Option ℕ → Option ℕ → Option ℕ
with_both f None b = None
with_both f (Some a) None = None
with_both f (Some a) (Some b) = f a b

unfoldable pub operated : Op → Constant → Constant → Constant
operated op a b =
    let left = left_elem op a.elem b.elem in
    let right = right_elem op a.elem b.elem in
    record { elem = result_elem op a.elem b.elem; word = with_both (operate op (not left.signed)) (cast_to left a).word (cast_to right b).word }

-- 0 or 1
unfoldable pub truth : ℕ → ℕ
truth w = if w == 0 then 0 else 1

-- C's choice: an operand that is not chosen is not evaluated, so a fault in it is none
unfoldable pub chosen : Option ℕ → Option ℕ → Option ℕ → Option ℕ
chosen None second third = None
chosen (Some w) second third = if w == 0 then third else second

unfoldable pub combined : BinaryOp → Constant → Constant → Constant
combined B.LogicalOr a b = record { elem = int; word = chosen a.word (Some 1) (option_map truth b.word) }
combined B.LogicalAnd a b = record { elem = int; word = chosen a.word (option_map truth b.word) (Some 0) }
combined (B.Number op) a b = operated op a b

unfoldable pub selected : Constant → Constant → Constant → Constant
selected test a b =
    let elem = common a.elem b.elem in
    record { elem = elem; word = chosen test.word (cast_to elem a).word (cast_to elem b).word }

-- a word negated, and complemented
unfoldable pub negated : ℕ → ℕ
negated w = difference_of 32 true 0 w

unfoldable pub complemented : ℕ → ℕ
complemented w = 2 ^ 32 - 1 - w

unfoldable pub signed_by : (ℕ → ℕ) → Constant → Constant
signed_by f k = record { elem = promoted k.elem; word = option_map f (cast_to (promoted k.elem) k).word }

unfoldable pub prefixed : PrefixOp → Constant → Option Constant
prefixed P.Plus k = Some (signed_by (λ w. w) k)
prefixed P.Minus k = Some (signed_by negated k)
prefixed P.Complement k = Some (signed_by complemented k)
prefixed P.Not k = Some (record { elem = int; word = option_map (λ w. 1 - truth w) k.word })
prefixed (P.Step op) k = None
prefixed (P.Reduce op) k = None

-- forms over the forms of the parts: constant only if all parts are
unfoldable pub over_one : (Constant → Option Constant) → Option Constant → Option Constant
over_one f None = None
over_one f (Some a) = f a

unfoldable pub over_two : (Constant → Constant → Constant) → Option Constant → Option Constant → Option Constant
over_two f a b = over_one (λ x. option_map (f x) b) a

unfoldable pub over_three : (Constant → Constant → Constant → Constant) → Option Constant → Option Constant → Option Constant → Option Constant
over_three f a b c = over_one (λ x. over_two (f x) b c) a

-- the number that the value of a constant stands for
unfoldable pub number : Constant → Option ℤ
number k = option_map (number_of k.elem.bits k.elem.signed) k.word

-- a number as an axis of a shape with these extents, from 0 to rank - 1
abbrev pub axis_among : List ℕ → Option ℤ → Option ℕ
axis_among extents None = None
axis_among extents (Some (pos n)) = if nat_lt n (length extents) then Some n else None
axis_among extents (Some (negsuc n)) = None

abbrev pub extent_at : List ℕ → Option ℕ → Option ℕ
extent_at extents None = None
extent_at extents (Some axis) = slice_get extents axis

-- how many positions a shape has
unfoldable pub product : List ℕ → ℕ
product [] = 1
product (n ∷ ns) = n * product ns

abbrev pub extents_meant : Here → Option ℕ → Option (List ℕ)
extents_meant here None = None
extents_meant here (Some shape) = extents_of here shape

abbrev pub about_shape : (List ℕ → Option ℕ) → Option (List ℕ) → Option Constant
about_shape f None = None
about_shape f (Some extents) = option_map an_int (f extents)

-- The constant that an expression is, if it is one by its form: numbers, casts to scalar types,
-- `positionsof`, `rankof`, `dimof`, brackets, and operators without an effect and without a
-- reduction.
unfoldable pub constant : Here → Expr → Option Constant
constant here (E.Number p value u) = Some (record { elem = (if u then unsigned else int); word = Some value })
constant here (E.Brackets' p _ inner) = constant here inner
constant here (E.Casts' casts _ operand) = option_map (cast_through casts.items) (constant here operand)
constant here (E.Prefix' p op _ operand) = over_one (prefixed op) (constant here operand)
constant here (E.Binary' p op _ left _ right) = over_two (combined op) (constant here left) (constant here right)
constant here (E.Choice' p _ test _ second _ third) = over_three selected (constant here test) (constant here second) (constant here third)
constant here (E.PositionsOf p shape) = about_shape (λ ns. Some (product ns)) (extents_meant here (shape_of here shape))
constant here (E.RankOf p shape) = about_shape (λ ns. Some (length ns)) (extents_meant here (shape_of here shape))
constant here (E.DimOf' p shape _ axis) = over_one (λ k. about_shape (λ ns. extent_at ns (axis_among ns (number k))) (extents_meant here (shape_of here shape))) (constant here axis)
constant here _ = None

abbrev pub number_meant : Option Constant → Option ℤ
number_meant None = None
number_meant (Some k) = number k

-- the number of a constant expression; none where it is not constant or its value is a fault
abbrev pub constant_number : Here → Expr → Option ℤ
constant_number here e = number_meant (constant here e)

-- the axis that an expression names, of a shape with these extents
abbrev pub axis_of : Here → List ℕ → Expr → Option ℕ
axis_of here extents e = axis_among extents (constant_number here e)
