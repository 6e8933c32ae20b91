-- Short stretches of code, over values that stand somewhere already, stay within themselves.
use Rattle.std.proofs.Common.{ℕ, Bool, List, [], ◌∷◌, refl}
use Rattle.cstar_base.specs.declared.elem.Elem.{Elem}
use Rattle.cstar_base.specs.declared.operators.Op.{Op}
use Rattle.cstar_base.specs.declared.operators.Place.{Place}
use Rattle.cstar_tree.specs.declared.typed.Piece.{Piece}
use Rattle.cstar_tree.specs.declared.typed.Piece.TheVariants as Pc
use Rattle.cstar_tree.specs.declared.typed.TExpr.{TExpr}
use Rattle.cstar_tree.specs.declared.typed.Typed.{Typed}
use Rattle.cstar_tree.specs.declared.typed.UnaryOp.{UnaryOp}
use Rattle.cstar_tree.specs.declared.typed.UnaryOp.TheVariants as Un
use Rattle.cstar_tree.specs.declared.typed.Variable.{Variable}
use Rattle.cstar_tree.specs.declared.typed.Variable.TheVariants as V
use Rattle.paris_code.specs.declared.operands.Field.{Field}
use Rattle.paris_code.specs.declared.operands.Konst.{Konst}
use Rattle.lower_base.specs.declared.emit.Out.{Out}
use Rattle.lower_base.specs.declared.emit.Out.TheVariants as O
use Rattle.lower_base.specs.declared.operators.Machine.{Machine}
use Rattle.lower_base.specs.declared.operators.Machine.TheVariants as M
use Rattle.lower_base.specs.Constants.{constant_register, word_in}
use Rattle.lower_base.specs.Drafts.{Draft, Made, step}
use Rattle.lower_base.specs.Layouts.{Layout, field_of, own_field}
use Rattle.lower_base.specs.Operators.{machine_of}
use Rattle.lower_expr.specs.declared.operands.Own.{Own}
use Rattle.lower_expr.specs.declared.steps.Right.{Right}
use Rattle.lower_expr.specs.declared.steps.Right.TheVariants as R
use Rattle.lower_expr.specs.Operands.{held, in_place, operand_by, standing}
use Rattle.lower_expr.specs.Steps.{constant_in, converted_in_place, field_converted, field_negated, fields_operated, in_a_field, negated, on_fields, on_registers, on_word, operated, pieces_printed, put_in_field, put_test, put_value, register_negated, right_operated, with_field_check, with_register_check, word_put}
use Rattle.proper_code.proofs.Stretches.{Ways, is_inward}
use Rattle.proper_code.proofs.Building.{Setting, Builds, Built, Grew, IsInward, inner, makes, more, on_register, option}

-- numbers in registers, and fields of the unit
pub constant_builds : {on : Setting} (value : ℕ) (d e : Draft) → Built on d e → Builds on d (constant_in value e)
unfolding constant_in is_inward step
constant_builds value d e b = search inner depth 12

pub word_in_builds : {on : Setting} (l : Layout) (word : ℕ) (d e : Draft) → Built on d e → Builds on d (word_in l word e)
unfolding word_in is_inward step
word_in_builds l word d e b = option (constant_register l word) d _ _ (λ r. makes _ d e b) (search inner depth 12)

pub own_field_builds : {on : Setting} (index : ℕ) (d e : Draft) → Built on d e → Builds on d (own_field index e)
unfolding own_field
own_field_builds index d e b = search inner depth 12

pub field_of_builds : {on : Setting} (t : Typed) (l : Layout) (x : Variable) (element : ℕ) (d e : Draft) → Built on d e → Builds on d (field_of t l x element e)
unfolding field_of
field_of_builds t l (V.File k) element d e b = search inner depth 12
field_of_builds t l (V.Param k) element d e b = search (inner, own_field_builds) depth 12
field_of_builds t l (V.Local k) element d e b = search (inner, own_field_builds) depth 12

-- values put somewhere
pub word_put_builds : {on : Setting} (dest : Out) (word : ℕ) (d e : Draft) → Built on d e → Builds on d (word_put dest word e)
unfolding word_put is_inward step
word_put_builds (O.Scalar r) word d e b = search inner depth 12
word_put_builds (O.Field f) word d e b = search inner depth 12
word_put_builds O.Nothing word d e b = search inner depth 12

pub test_builds : {on : Setting} (dest : Field) (d e : Draft) → Built on d e → Builds on d (put_test dest e)
unfolding put_test is_inward step
test_builds dest d e b = search inner depth 12

pub field_converted_builds : {on : Setting} (f : Field) (elem : Elem) (d e : Draft) → Built on d e → Builds on d (field_converted f elem e)
unfolding field_converted is_inward step
field_converted_builds f elem d e b = search (inner, test_builds) depth 12

pub converted_builds : {on : Setting} (v : Out) (elem : Elem) (d e : Draft) → Built on d e → Builds on d (converted_in_place v elem e)
unfolding converted_in_place is_inward step
converted_builds (O.Scalar r) elem d e b = search inner depth 12
converted_builds (O.Field f) elem d e b = search (inner, field_converted_builds) depth 12
converted_builds O.Nothing elem d e b = search inner depth 12

pub put_in_field_builds : {on : Setting} (dest : Field) (v : Out) (d e : Draft) → Built on d e → Builds on d (put_in_field dest v e)
unfolding put_in_field is_inward step
put_in_field_builds dest (O.Scalar r) d e b = search inner depth 12
put_in_field_builds dest (O.Field f) d e b = search inner depth 12
put_in_field_builds dest O.Nothing d e b = search inner depth 12

pub put_value_builds : {on : Setting} (dest v : Out) (d e : Draft) → Built on d e → Builds on d (put_value dest v e)
unfolding put_value is_inward step
put_value_builds (O.Scalar r) v d e b = search inner depth 12
put_value_builds (O.Field f) v d e b = search (inner, put_in_field_builds) depth 12
put_value_builds O.Nothing v d e b = search inner depth 12

pub in_a_field_builds : {on : Setting} (v : Out) (spare : Field) (d e : Draft) → Built on d e → Builds on d (in_a_field v spare e)
unfolding in_a_field is_inward step
in_a_field_builds (O.Scalar r) spare d e b = search inner depth 12
in_a_field_builds (O.Field f) spare d e b = search inner depth 12
in_a_field_builds O.Nothing spare d e b = search inner depth 12

-- operators
checked_register : {w : Ways} (op : Op) (place : Place) (right : ℕ) (d e : Draft) → Grew w d e → Grew w d (with_register_check op place right e)
unfolding with_register_check is_inward step
checked_register op place right d e b = search inner depth 12

checked_field : {w : Ways} (op : Op) (place : Place) (right : Field) (d e : Draft) → Grew w d e → Grew w d (with_field_check op place right e)
unfolding with_field_check is_inward step
checked_field op place right d e b = search inner depth 12

registers_more : {w : Ways} (m : Machine) (dest left right : ℕ) (d e : Draft) → Grew w d e → Grew w d (on_registers m dest left right e)
unfolding on_registers is_inward step
registers_more (M.Operate act) dest left right d e b = search inner depth 12
registers_more (M.Compare relation) dest left right d e b = search inner depth 12

pub operated_more : {w : Ways} (op : Op) (signed : Bool) (place : Place) (dest left right : ℕ) (d e : Draft) → Grew w d e → Grew w d (operated op signed place dest left right e)
unfolding operated
operated_more op signed place dest left right d e b = registers_more (machine_of op signed) dest left right d _ (checked_register op place right d e b)

on_fields_builds : {on : Setting} (m : Machine) (dest left right : Field) (d e : Draft) → Built on d e → Builds on d (on_fields m dest left right e)
unfolding on_fields is_inward step
on_fields_builds (M.Operate act) dest left right d e b = search inner depth 12
on_fields_builds (M.Compare relation) dest left right d e b = search (inner, test_builds) depth 12

on_word_builds : {on : Setting} (m : Machine) (op : Op) (place : Place) (dest left : Field) (word : Konst) (spare : Field) (d e : Draft) → Built on d e → Builds on d (on_word m op place dest left word spare e)
unfolding on_word is_inward step
on_word_builds (M.Operate act) op place dest left word spare d e b = search (inner, on_fields_builds, checked_field) depth 12
on_word_builds (M.Compare relation) op place dest left word spare d e b = search (inner, on_fields_builds, checked_field) depth 12

pub right_operated_builds : {on : Setting} (op : Op) (signed : Bool) (place : Place) (dest left : Field) (right : Right) (spare : Field) (d e : Draft) → Built on d e → Builds on d (right_operated op signed place dest left right spare e)
unfolding right_operated fields_operated
right_operated_builds op signed place dest left (R.Field right) spare d e b = on_fields_builds (machine_of op signed) dest left right d _ (checked_field op place right d e b)
right_operated_builds op signed place dest left (R.Word word) spare d e b = on_word_builds (machine_of op signed) op place dest left word spare d e b

register_negated_builds : {on : Setting} (l : Layout) (op : UnaryOp) (dest source : ℕ) (d e : Draft) → Built on d e → Builds on d (register_negated l op dest source e)
unfolding register_negated is_inward step
register_negated_builds l Un.Plus dest source d e b = search inner depth 12
register_negated_builds l Un.Minus dest source d e b = search inner depth 12
register_negated_builds l Un.Complement dest source d e b = search inner depth 12
register_negated_builds l Un.Not dest source d e b = search (inner, word_in_builds) depth 12

field_negated_builds : {on : Setting} (op : UnaryOp) (dest source : Field) (d e : Draft) → Built on d e → Builds on d (field_negated op dest source e)
unfolding field_negated is_inward step
field_negated_builds Un.Plus dest source d e b = search inner depth 12
field_negated_builds Un.Minus dest source d e b = search inner depth 12
field_negated_builds Un.Complement dest source d e b = search inner depth 12
field_negated_builds Un.Not dest source d e b = search (inner, test_builds) depth 12

pub negated_builds : {on : Setting} (l : Layout) (op : UnaryOp) (dest v : Out) (d e : Draft) → Built on d e → Builds on d (negated l op dest v e)
unfolding negated
negated_builds l op (O.Scalar r) v d e b = search (inner, register_negated_builds) depth 12
negated_builds l op (O.Field f) v d e b = search (inner, field_negated_builds) depth 12
negated_builds l op O.Nothing v d e b = search inner depth 12

-- printing
pub printed_builds : {on : Setting} (pieces : List Piece) (values : List Out) (d e : Draft) → Built on d e → Builds on d (pieces_printed pieces values e)
unfolding pieces_printed is_inward step
printed_builds [] values d e b = search inner depth 12
printed_builds (Pc.Bytes bytes ∷ rest) values d e b = printed_builds rest values d _ (more _ d e refl b)
printed_builds (Pc.Argument format ∷ rest) [] d e b = search inner depth 12
printed_builds (Pc.Argument format ∷ rest) (v ∷ values) d e b = on_register d v _ (λ r. printed_builds rest values d _ (more _ d e refl b))

-- operands where they stand
pub standing_builds : {on : Setting} (t : Typed) (l : Layout) (bits : ℕ) (own : Own) (d e : Draft) → Built on d e → Builds on d (standing t l bits own e)
unfolding standing
standing_builds t l bits own d e b = option own.shape d _ _ (λ _. search (inner, field_of_builds) depth 12) (makes _ d e b)

pub operand_builds : {on : Setting} (t : Typed) (l : Layout) (bits : ℕ) (code : Draft → Made Out) (quiet : Bool) (x : TExpr) → IsInward on code → IsInward on (operand_by t l bits code quiet x)
unfolding operand_by
operand_builds t l bits code quiet x c d e b =
    option (held l x) d _ _ (λ r. makes _ d e b) (option (in_place bits quiet x) d _ _ (λ own. standing_builds t l bits own d e b) (c d e b))
