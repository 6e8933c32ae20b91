-- The code of values over that of their parts stays within itself, where that does.
use Rattle.std.proofs.Common.{ℕ, Bool, ◌==◌, List, [], ◌∷◌, Option, Some, None, refl}
use Rattle.std.specs.Prelude.{nat_lt}
use Rattle.cstar_base.specs.declared.elem.Elem.{Elem}
use Rattle.cstar_base.specs.declared.operators.Op.{Op}
use Rattle.cstar_base.specs.declared.operators.Place.{Place}
use Rattle.cstar_tree.specs.declared.typed.TExpr.{TExpr}
use Rattle.cstar_tree.specs.declared.typed.Typed.{Typed}
use Rattle.cstar_tree.specs.declared.typed.UnaryOp.{UnaryOp}
use Rattle.cstar_tree.specs.declared.typed.ValueType.{ValueType}
use Rattle.cstar_tree.specs.declared.typed.Variable.{Variable}
use Rattle.cstar_tree.specs.Typed.{type_of}
use Rattle.paris_code.specs.declared.operands.Field.{Field}
use Rattle.lower_base.specs.declared.emit.Out.{Out}
use Rattle.lower_base.specs.declared.emit.Out.TheVariants as O
use Rattle.lower_base.specs.declared.operators.Machine.{Machine}
use Rattle.lower_base.specs.declared.operators.Machine.TheVariants as M
use Rattle.lower_base.specs.Drafts.{Draft, Made, step}
use Rattle.lower_base.specs.Layouts.{Layout}
use Rattle.lower_base.specs.Operators.{machine_of}
use Rattle.lower_comm.specs.News.{goes_by_news}
use Rattle.lower_expr.specs.declared.spots.Spot.{Spot}
use Rattle.lower_expr.specs.declared.steps.Right.{Right}
use Rattle.lower_expr.specs.declared.steps.Right.TheVariants as R
use Rattle.lower_expr.specs.Operands.{is_plus}
use Rattle.lower_expr.specs.Positions.{known_position}
use Rattle.lower_expr.specs.Steps.{is_kept, word_of, word_taken}
use Rattle.lower_expr.specs.Values.{Code, Codes, Test, binary_by, byte_in, cast_by, casts_put, compared, coordinate_in, element_spot, extended, fields_by, index_read_by, index_read_to, indexed_spot, message_by, message_to, news_to, nonzero_tested, parallel_binary_by, read_by, read_to, register_cast_by, registers_by, relation_by, right_by, right_given, spare_for, spread_by, spread_into, tested_by, truth_put, unary_by, zero_tested}
use Rattle.proper_code.proofs.Stretches.{Ways, is_inward}
use Rattle.proper_code.proofs.Building.{Setting, Grew, IsInward, as_before, bind, either, fails, fresh, fresh_entry, fresh_register, inner, looked_up, lowest_builds, makes, more, on_register, option}
use Rattle.proper_code.proofs.MessagePieces.{communicated_builds, grid_builds, located_builds}
use Rattle.proper_code.proofs.ShortPieces.{converted_builds, in_a_field_builds, negated_builds, operated_more, right_operated_builds, test_builds, word_in_builds}
use Rattle.proper_code.proofs.TargetPieces.{index_checked_builds, loaded_builds}

-- spread operands
pub spread_into_builds : {on : Setting} (code : Code) (x : TExpr) (dest : Field) → IsInward on code → IsInward on (spread_into code x dest)
unfolding spread_into is_inward step
spread_into_builds code x dest c d e b = option (word_of x) d _ _ (λ word. search inner depth 12) (bind d _ _ (c d e b) (λ v after. in_a_field_builds v dest after after (as_before after)))

pub spread_by_builds : {on : Setting} (code : Code) (x : TExpr) (set bits : ℕ) → IsInward on code → IsInward on (spread_by code x set bits)
unfolding spread_by
spread_by_builds code x set bits c d e b =
    either (is_kept x) d _ _ (bind d _ _ (fresh_entry set bits _ d e b) (λ dest between. bind between _ _ (spread_into_builds code x dest c between between (as_before between)) (λ f after. makes _ after after (as_before after)))) (c d e b)

pub right_by_builds : {on : Setting} (code : Code) (op : Op) (x : TExpr) → IsInward on code → IsInward on (right_by code op x)
unfolding right_by
right_by_builds code op x c d e b = option (word_taken op x) d _ _ (λ word. makes _ d e b) (bind d _ _ (c d e b) (λ v after. looked_up after (right_given v) _ (λ right _. makes right after after (as_before after))))

-- values that are there
pub coordinate_builds : {on : Setting} (shape : Option ℕ) (bits axis : ℕ) → IsInward on (coordinate_in shape bits axis)
unfolding coordinate_in is_inward step
coordinate_builds shape bits axis d e b = search inner depth 12

pub byte_builds : {on : Setting} → IsInward on byte_in
unfolding byte_in is_inward step
byte_builds d e b = search inner depth 12

-- conversions
pub casts_more : {w : Ways} (elems : List Elem) (r : ℕ) (d e : Draft) → Grew w d e → Grew w d (casts_put elems r e)
unfolding casts_put is_inward step
casts_more [] r d e b = b
casts_more (kind ∷ elems) r d e b = more _ d _ refl (casts_more elems r d e b)

pub extended_builds : {on : Setting} (signed : Bool) (dest : Field) (code : Code) → IsInward on code → IsInward on (extended signed dest code)
unfolding extended is_inward step
extended_builds signed dest code c d e b = bind d _ _ (c d e b) (λ v after. search inner depth 12)

pub truth_put_builds : {on : Setting} (dest : Field) (test : Test) → IsInward on test → IsInward on (truth_put dest test)
unfolding truth_put
truth_put_builds dest test c d e b = bind d _ _ (c d e b) (λ _ after. test_builds dest after after (as_before after))

pub cast_by_builds : {on : Setting} (set bits : ℕ) (elem : Elem) (test : Test) (own whole : Code) → IsInward on test → IsInward on own → IsInward on whole → IsInward on (cast_by set bits elem test own whole)
unfolding cast_by
cast_by_builds set bits elem test own whole ct co cw d e b =
    either (elem.bits == 1) d _ _ (bind d _ _ (fresh_entry set bits _ d e b) (λ dest begun. truth_put_builds dest test ct begun begun (as_before begun)))
    (either (nat_lt elem.bits bits) d _ _ (bind d _ _ (fresh_entry set bits _ d e b) (λ dest begun. extended_builds elem.signed dest own co begun begun (as_before begun))) (cw d e b))

pub register_cast_builds : {on : Setting} (elem : Elem) (code : Code) → IsInward on code → IsInward on (register_cast_by elem code)
unfolding register_cast_by
register_cast_builds elem code c d e b = bind d _ _ (c d e b) (λ v after. converted_builds v elem after after (as_before after))

-- unary and binary operators
pub unary_builds : {on : Setting} (l : Layout) (ty : ValueType) (bits : ℕ) (op : UnaryOp) (code operand : Code) → IsInward on code → IsInward on operand → IsInward on (unary_by l ty bits op code operand)
unfolding unary_by
unary_builds l ty bits op code operand c o d e b =
    either (is_plus op) d _ _ (c d e b) (bind d _ _ (fresh ty.shape bits d e b) (λ dest between. bind between _ _ (o between between (as_before between)) (λ v after. negated_builds l op dest v after after (as_before after))))

pub registers_builds : {on : Setting} (op : Op) (signed : Bool) (place : Place) (r : ℕ) (first second : Code) → IsInward on first → IsInward on second → IsInward on (registers_by op signed place r first second)
unfolding registers_by
registers_builds op signed place r first second c s d e b =
    bind d _ _ (c d e b) (λ v between. on_register between v _ (λ a. bind between _ _ (s between between (as_before between)) (λ w after. on_register after w _ (λ z. makes _ after _ (operated_more op signed place r a z after after (as_before after))))))

pub fields_builds : {on : Setting} (op : Op) (signed : Bool) (place : Place) (f spare : Field) (first : Code) (left : TExpr) (second : Code) (right : TExpr) → IsInward on first → IsInward on second → IsInward on (fields_by op signed place f spare first left second right)
unfolding fields_by
fields_builds op signed place f spare first left second right c s d e b =
    bind d _ _ (spread_into_builds first left spare c d e b) (λ a between. bind between _ _ (right_by_builds second op right s between between (as_before between)) (λ z after. right_operated_builds op signed place f a z spare after after (as_before after)))

spare_builds : {on : Setting} (op : Op) (dest : Field) (bits : ℕ) → IsInward on (spare_for op dest bits)
unfolding spare_for
spare_builds op dest bits d e b = search inner depth 12

parallel_binary_builds : {on : Setting} (set bits : ℕ) (op : Op) (place : Place) (first : Code) (left : TExpr) (second : Code) (right : TExpr) → IsInward on first → IsInward on second → IsInward on (parallel_binary_by set bits op place first left second right)
unfolding parallel_binary_by
parallel_binary_builds set bits op place first left second right c s d e b =
    bind d _ _ (fresh_entry set _ _ d e b) (λ dest begun. bind begun _ _ (spare_builds op dest _ begun begun (as_before begun)) (λ spare between.
    lowest_builds bits between _ (fields_builds op _ place dest spare first left second right c s between between (as_before between))))

pub binary_builds : {on : Setting} (shape : Option ℕ) (bits : ℕ) (op : Op) (place : Place) (first : Code) (left : TExpr) (second : Code) (right : TExpr) → IsInward on first → IsInward on second → IsInward on (binary_by shape bits op place first left second right)
unfolding binary_by
binary_builds None bits op place first left second right c s d e b = bind d _ _ (fresh_register d e b) (λ r after. registers_builds op _ place r first second c s after after (as_before after))
binary_builds (Some set) bits op place first left second right c s d e b = parallel_binary_builds set bits op place first left second right c s d e b

-- tests
pub nonzero_builds : {on : Setting} (code : Code) → IsInward on code → IsInward on (nonzero_tested code)
unfolding nonzero_tested is_inward step
nonzero_builds code c d e b = bind d _ _ (c d e b) (λ v after. search inner depth 12)

pub zero_builds : {on : Setting} (code : Code) → IsInward on code → IsInward on (zero_tested code)
unfolding zero_tested is_inward step
zero_builds code c d e b = bind d _ _ (c d e b) (λ v after. search inner depth 12)

pub tested_by_builds : {on : Setting} (has : Bool) (truth : Test) (code : Code) → IsInward on truth → IsInward on code → IsInward on (tested_by has truth code)
unfolding tested_by
tested_by_builds has truth code t c d e b = either has d _ _ (t d e b) (nonzero_builds code c d e b)

compared_builds : {on : Setting} (m : Machine) (left : Field) (right : Right) (spare : Field) → IsInward on (compared m left right spare)
unfolding compared is_inward step
compared_builds (M.Operate act) left right spare d e b = fails d
compared_builds (M.Compare relation) left (R.Field right) spare d e b = search inner depth 12
compared_builds (M.Compare relation) left (R.Word word) spare d e b = search inner depth 12

pub relation_builds : {on : Setting} (set : ℕ) (op : Op) (first : Code) (left : TExpr) (second : Code) (right : TExpr) → IsInward on first → IsInward on second → IsInward on (relation_by set op first left second right)
unfolding relation_by
relation_builds set op first left second right c s d e b =
    bind d _ _ (fresh_entry set _ _ d e b) (λ spare begun. bind begun _ _ (spread_into_builds first left spare c begun begun (as_before begun)) (λ a between.
    bind between _ _ (right_by_builds second op right s between between (as_before between)) (λ z after. compared_builds (machine_of op _) a z spare after after (as_before after))))

-- spots and what stands there
pub element_spot_builds : {on : Setting} (t : Typed) (l : Layout) (ty : ValueType) (place : Place) (array : Variable) (index : Code) → IsInward on index → IsInward on (element_spot t l ty place array index)
unfolding element_spot
element_spot_builds t l ty place array index c d e b =
    bind d _ _ (c d e b) (λ v between. on_register between v _ (λ r. bind between _ _ (index_checked_builds t l array _ place r between between (as_before between)) (λ _ after. makes _ after after (as_before after))))

pub indexed_spot_builds : {on : Setting} (t : Typed) (l : Layout) (x : TExpr) (indexes : Codes) → IsInward on (indexes []) → IsInward on (indexed_spot t l x indexes)
unfolding indexed_spot
indexed_spot_builds t l x indexes c d e b =
    option (known_position t x) d _ _ (λ position. bind d _ _ (word_in_builds l position d e b) (λ r after. makes _ after after (as_before after)))
    (bind d _ _ (fresh (type_of x).shape 32 d e b) (λ at begun. bind begun _ _ (c begun begun (as_before begun)) (λ parts between. bind between _ _ (located_builds x parts at between between (as_before between)) (λ out after. makes _ after after (as_before after)))))

pub read_to_builds : {on : Setting} (t : Typed) (l : Layout) (x : TExpr) (spot : Draft → Made Spot) (dest : Out) → IsInward on spot → IsInward on (read_to t l x spot dest)
unfolding read_to
read_to_builds t l x spot dest c d e b = bind d _ _ (c d e b) (λ there after. loaded_builds t l x there dest after after (as_before after))

pub index_read_to_builds : {on : Setting} (t : Typed) (l : Layout) (x : TExpr) (spot : Draft → Made Spot) (dest : Out) → IsInward on spot → IsInward on (index_read_to t l x spot dest)
unfolding index_read_to news_to
index_read_to_builds t l x spot dest c d e b =
    either (goes_by_news x) d _ _ (bind d _ _ (grid_builds x d e b) (λ _ after. communicated_builds t l x O.Nothing [] dest after after (as_before after))) (read_to_builds t l x spot dest c d e b)

pub read_by_builds : {on : Setting} (t : Typed) (l : Layout) (x : TExpr) (ty : ValueType) (bits : ℕ) (spot : Draft → Made Spot) → IsInward on spot → IsInward on (read_by t l x ty bits spot)
unfolding read_by
read_by_builds t l x ty bits spot c d e b = bind d _ _ (fresh ty.shape bits d e b) (λ dest begun. read_to_builds t l x spot dest c begun begun (as_before begun))

pub index_read_by_builds : {on : Setting} (t : Typed) (l : Layout) (x : TExpr) (ty : ValueType) (bits : ℕ) (spot : Draft → Made Spot) → IsInward on spot → IsInward on (index_read_by t l x ty bits spot)
unfolding index_read_by
index_read_by_builds t l x ty bits spot c d e b = bind d _ _ (fresh ty.shape bits d e b) (λ dest begun. index_read_to_builds t l x spot dest c begun begun (as_before begun))

-- messages and calls
pub message_to_builds : {on : Setting} (t : Typed) (l : Layout) (x : TExpr) (code : Code) (dest : Out) → IsInward on code → IsInward on (message_to t l x code dest)
unfolding message_to
message_to_builds t l x code dest c d e b = bind d _ _ (c d e b) (λ v after. communicated_builds t l x O.Nothing (v ∷ []) dest after after (as_before after))

pub message_by_builds : {on : Setting} (t : Typed) (l : Layout) (x : TExpr) (ty : ValueType) (bits : ℕ) (code : Code) → IsInward on code → IsInward on (message_by t l x ty bits code)
unfolding message_by
message_by_builds t l x ty bits code c d e b = bind d _ _ (fresh ty.shape 32 d e b) (λ dest begun. lowest_builds bits begun _ (message_to_builds t l x code dest c begun begun (as_before begun)))
