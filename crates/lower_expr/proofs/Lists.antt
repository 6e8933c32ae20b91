-- The lengths and the code of lists of expressions, as they stand in memory.
use Rattle.std.proofs.Common.{◌≡◌, ℕ, ◌+◌, List, [], ◌∷◌, ◌++◌, length, slice_get, Option, Some, None, Vec, Box, refl, sym, subst, ap, ◌∙◌, Bool, true, false, ◌&&◌, if◌then◌else◌, is_none}
use Rattle.std.specs.declared.alloc.Global.{Global}
use mathlib.Core.Former.{Count}
use Rattle.cstar_base.specs.declared.operators.Place.{Place}
use Rattle.cstar_tree.specs.declared.typed.Piece.{Piece}
use Rattle.cstar_tree.specs.declared.typed.TExpr.{TExpr, Row_of-TExpr, end_of-TExpr, more_of-TExpr, items-the_row-TExpr, items_hidden-the_row-TExpr-0}
use Rattle.cstar_tree.specs.declared.typed.TExpr as T
use Rattle.cstar_tree.specs.declared.typed.Typed.{Typed}
use Rattle.cstar_tree.specs.declared.typed.ValueType.{ValueType}
use Rattle.cstar_tree.specs.declared.typed.Variable.{Variable}
use Rattle.cstar_tree.specs.Typed.{type_of}
use Rattle.lower_base.specs.declared.emit.Out.{Out}
use Rattle.lower_base.specs.declared.emit.Out.TheVariants as O
use Rattle.lower_base.specs.Constants.{word_in}
use Rattle.lower_base.specs.Drafts.{Draft, Made, Makes, Fails, IsMade, then_make, fresh_for}
use Rattle.lower_base.proofs.Made.{first_made}
use Rattle.lower_base.specs.Layouts.{Layout}
use Rattle.lower_base.specs.Kinds.{bits_of, kind_of}
use Rattle.lower_comm.specs.Messages.{located}
use Rattle.lower_comm.specs.News.{goes_by_news}
use Rattle.lower_expr.specs.declared.spots.Spot.{Spot}
use Rattle.lower_expr.specs.declared.spots.Spot.TheVariants as S
use Rattle.lower_expr.specs.Effects.{computed_to, gone_to}
use Rattle.lower_expr.specs.Frames.{called}
use Rattle.lower_expr.specs.Kinds.{list_bits}
use Rattle.lower_expr.specs.Lengths.{cast_length, conversion_length, logical_length, tested_length, length_of, truth_length_of, used_length_of, spot_length_of, lengths_of, lengths_in, call_length, located_length, news_length, read_length}
use Rattle.lower_expr.specs.Positions.{known_position}
use Rattle.lower_expr.specs.Operands.{is_quiet, are_quiet, all_quiet, operand_by, operand_length}
use Rattle.lower_expr.specs.Steps.{is_kept, pieces_printed}
use Rattle.lower_expr.specs.Values.{call_of, call_to, print_of, indexed_spot, index_read_by, value_of, spot_of, values_of, values_in}

-- the row that a list stands in
abbrev row_of : TExpr → (n : Count) × Row_of-TExpr n
row_of (T.Call' _ _ _ row) = (_, row)
row_of (T.LeftIndex' _ _ _ row _ _) = (_, row)
row_of (T.Printf' _ _ _ row) = (_, row)
row_of _ = (_, end_of-TExpr)

quiet_of_row : (n : _) (row : Row_of-TExpr n) → are_quiet row ≡ all_quiet (items-the_row-TExpr n row)
unfolding are_quiet all_quiet
quiet_of_row n end_of-TExpr = refl
quiet_of_row n (more_of-TExpr e rest) = ap (λ q. is_quiet e && q) (quiet_of_row _ rest)

pub quiet_left_index : (ty : ValueType) (place : Place) (indexes : Vec TExpr Global) (x : Variable) (of : ℕ) →
    is_quiet (T.LeftIndex ty place indexes x of) ≡ all_quiet indexes.items
unfolding is_quiet
quiet_left_index ty place indexes x of =
    let row = row_of (T.LeftIndex ty place indexes x of) in
    quiet_of_row row.0 row.1 ∙ ap all_quiet (items_hidden-the_row-TExpr-0 indexes)

lengths_of_row : (t : Typed) (l : Layout) (own quiet : Bool) (n : _) (row : Row_of-TExpr n) →
    lengths_of t l own quiet row ≡ lengths_in t l own quiet (items-the_row-TExpr n row)
unfolding lengths_of lengths_in
lengths_of_row t l own quiet n end_of-TExpr = refl
lengths_of_row t l own quiet n (more_of-TExpr e rest) =
    ap (λ m. operand_length l (list_bits own e) (length_of t l (list_bits own e) e) quiet e + m) (lengths_of_row t l own quiet _ rest)

lengths_of_items : (t : Typed) (l : Layout) (own : Bool) (n : Count) (row : Row_of-TExpr n) (items : List TExpr) → items-the_row-TExpr n row ≡ items →
    lengths_of t l own (are_quiet row) row ≡ lengths_in t l own (all_quiet items) items
lengths_of_items t l own n row items same =
    lengths_of_row t l own (are_quiet row) n row
    ∙ (ap (λ (q : Bool). lengths_in t l own q (items-the_row-TExpr n row)) (quiet_of_row n row)
    ∙ ap (λ (xs : List TExpr). lengths_in t l own (all_quiet xs) xs) same)

pub length_of_call : (t : Typed) (l : Layout) (bits : ℕ) (ty : ValueType) (instance : ℕ) (arguments : Vec TExpr Global) →
    length_of t l bits (T.Call ty instance arguments)
    ≡ call_length (slice_get t.instances.items instance) (length arguments.items) + lengths_in t l true (all_quiet arguments.items) arguments.items
unfolding length_of
length_of_call t l bits ty instance arguments =
    let row = row_of (T.Call ty instance arguments) in
    let same = items_hidden-the_row-TExpr-0 arguments in
    ap (λ (m : ℕ). call_length (slice_get t.instances.items instance) (length (items-the_row-TExpr row.0 row.1)) + m) (lengths_of_items t l true row.0 row.1 arguments.items same)
    ∙ ap (λ (xs : List TExpr). call_length (slice_get t.instances.items instance) (length xs) + lengths_in t l true (all_quiet arguments.items) arguments.items) same

pub length_of_or : (t : Typed) (l : Layout) (bits : ℕ) (ty : ValueType) (left right : Box TExpr Global) →
    length_of t l bits (T.LogicalOr ty left right)
    ≡ logical_length (is_none ty.shape) bits left.value right.value (used_length_of t l (bits_of (kind_of left.value)) true left.value)
    (used_length_of t l (bits_of (kind_of right.value)) true right.value) (tested_length t l left.value) (tested_length t l right.value)
unfolding length_of tested_length
length_of_or t l bits ty left right = refl

pub length_of_and : (t : Typed) (l : Layout) (bits : ℕ) (ty : ValueType) (left right : Box TExpr Global) →
    length_of t l bits (T.LogicalAnd ty left right)
    ≡ logical_length (is_none ty.shape) bits left.value right.value (used_length_of t l (bits_of (kind_of left.value)) true left.value)
    (used_length_of t l (bits_of (kind_of right.value)) true right.value) (tested_length t l left.value) (tested_length t l right.value)
unfolding length_of tested_length
length_of_and t l bits ty left right = refl

pub length_of_parallel_cast : (t : Typed) (l : Layout) (bits : ℕ) (ty : ValueType) (operand : Box TExpr Global) →
    length_of t l bits (T.ParallelCast ty operand)
    ≡ cast_length l bits ty.elem operand.value (truth_length_of t l operand.value) (λ own. length_of t l own operand.value)
unfolding length_of
length_of_parallel_cast t l bits ty operand = refl

pub length_of_conversion : (t : Typed) (l : Layout) (bits : ℕ) (ty : ValueType) (operand : Box TExpr Global) → is_kept operand.value ≡ false →
    length_of t l bits (T.Convert ty operand)
    ≡ cast_length l bits ty.elem operand.value (truth_length_of t l operand.value) (λ own. length_of t l own operand.value)
unfolding length_of
length_of_conversion t l bits ty operand kept = ap (λ (b : Bool). if b then length_of t l bits operand.value + conversion_length true ty.elem else cast_length l bits ty.elem operand.value (truth_length_of t l operand.value) (λ own. length_of t l own operand.value)) kept

pub length_of_left_index : (t : Typed) (l : Layout) (bits : ℕ) (ty : ValueType) (place : Place) (indexes : Vec TExpr Global) (x : Variable) (of : ℕ) →
    length_of t l bits (T.LeftIndex ty place indexes x of)
    ≡ (if goes_by_news (T.LeftIndex ty place indexes x of) then news_length bits of ty.elem indexes.items
    else located_length t l (T.LeftIndex ty place indexes x of) (lengths_in t l false (all_quiet indexes.items) indexes.items) + read_length bits ty)
unfolding length_of
length_of_left_index t l bits ty place indexes x of =
    let e = T.LeftIndex ty place indexes x of in
    let row = row_of e in
    let same = items_hidden-the_row-TExpr-0 indexes in
    ap (λ (m : ℕ). if goes_by_news e then news_length bits of ty.elem (items-the_row-TExpr row.0 row.1) else located_length t l e m + read_length bits ty) (lengths_of_items t l false row.0 row.1 indexes.items same)
    ∙ ap (λ (xs : List TExpr). if goes_by_news e then news_length bits of ty.elem xs else located_length t l e (lengths_in t l false (all_quiet indexes.items) indexes.items) + read_length bits ty) same

pub length_of_printf : (t : Typed) (l : Layout) (bits : ℕ) (ty : ValueType) (pieces : Vec Piece Global) (arguments : Vec TExpr Global) →
    length_of t l bits (T.Printf ty pieces arguments) ≡ length pieces.items + lengths_in t l false (all_quiet arguments.items) arguments.items
unfolding length_of
length_of_printf t l bits ty pieces arguments =
    let row = row_of (T.Printf ty pieces arguments) in
    ap (λ (m : ℕ). length pieces.items + m) (lengths_of_items t l false row.0 row.1 arguments.items (items_hidden-the_row-TExpr-0 arguments))

pub spot_length_of_left_index : (t : Typed) (l : Layout) (ty : ValueType) (place : Place) (indexes : Vec TExpr Global) (x : Variable) (of : ℕ) →
    spot_length_of t l (T.LeftIndex ty place indexes x of) ≡ located_length t l (T.LeftIndex ty place indexes x of) (lengths_in t l false (all_quiet indexes.items) indexes.items)
unfolding spot_length_of
spot_length_of_left_index t l ty place indexes x of =
    let e = T.LeftIndex ty place indexes x of in
    let row = row_of e in
    ap (λ (m : ℕ). located_length t l e m) (lengths_of_items t l false row.0 row.1 indexes.items (items_hidden-the_row-TExpr-0 indexes))

-- what does the same behind a piece of code does the same with it
pub same_behind : {A B : Type 0} (made : Made A) (f g : A → Draft → Made B) → ((x : A) (d : Draft) → f x d ≡ g x d) → then_make made f ≡ then_make made g
unfolding then_make
same_behind (Makes x d) f g same = same x d
same_behind Fails f g same = refl

values_of_row : (t : Typed) (l : Layout) (own quiet : Bool) (n : _) (row : Row_of-TExpr n) (outs : List Out) (d : Draft) →
    values_of t l own quiet row outs d ≡ values_in t l own quiet (items-the_row-TExpr n row) outs d
unfolding values_of values_in
values_of_row t l own quiet n end_of-TExpr outs d = refl
values_of_row t l own quiet n (more_of-TExpr e rest) outs d =
    same_behind (operand_by t l (list_bits own e) (value_of t l (list_bits own e) e) quiet e d) (λ v after. values_of t l own quiet rest (outs ++ v ∷ []) after)
    (λ v after. values_in t l own quiet (items-the_row-TExpr _ rest) (outs ++ v ∷ []) after)
    (λ v after. values_of_row t l own quiet _ rest (outs ++ v ∷ []) after)

values_of_items : (t : Typed) (l : Layout) (own : Bool) (n : Count) (row : Row_of-TExpr n) (items : List TExpr) → items-the_row-TExpr n row ≡ items →
    (outs : List Out) (d : Draft) → values_of t l own (are_quiet row) row outs d ≡ values_in t l own (all_quiet items) items outs d
values_of_items t l own n row items same outs d =
    values_of_row t l own (are_quiet row) n row outs d
    ∙ (ap (λ (q : Bool). values_in t l own q (items-the_row-TExpr n row) outs d) (quiet_of_row n row)
    ∙ ap (λ (xs : List TExpr). values_in t l own (all_quiet xs) xs outs d) same)

pub call_to_of_row : (t : Typed) (l : Layout) (ty : ValueType) (instance : ℕ) (arguments : Vec TExpr Global) (dest : Out) (d : Draft) →
    (let row = row_of (T.Call ty instance arguments) in call_to t l instance (values_of t l true (are_quiet row.1) row.1) dest d) ≡ call_of t l instance arguments.items dest d
unfolding call_to call_of
call_to_of_row t l ty instance arguments dest d =
    let row = row_of (T.Call ty instance arguments) in
    ap (λ (m : Made (List Out)). then_make m (λ given after. called t l instance given dest after))
    (values_of_items t l true row.0 row.1 arguments.items (items_hidden-the_row-TExpr-0 arguments) [] d)

pub value_of_call : (t : Typed) (l : Layout) (bits : ℕ) (ty : ValueType) (instance : ℕ) (arguments : Vec TExpr Global) (dest : Out) (d begun : Draft) →
    fresh_for ty.shape bits d ≡ Makes dest begun → value_of t l bits (T.Call ty instance arguments) d ≡ call_of t l instance arguments.items dest begun
unfolding value_of then_make
value_of_call t l bits ty instance arguments dest d begun e =
    let row = row_of (T.Call ty instance arguments) in
    ap (λ (m : Made Out). then_make m (λ dest begun. call_to t l instance (values_of t l true (are_quiet row.1) row.1) dest begun)) e
    ∙ call_to_of_row t l ty instance arguments dest begun

pub computed_to_call : (t : Typed) (l : Layout) (ty : ValueType) (instance : ℕ) (arguments : Vec TExpr Global) (dest out : Out) (d after : Draft) →
    call_of t l instance arguments.items dest d ≡ Makes out after → computed_to t l dest (T.Call ty instance arguments) d ≡ Makes dest after
unfolding computed_to gone_to then_make
computed_to_call t l ty instance arguments dest out d after e =
    ap (gone_to dest) (call_to_of_row t l ty instance arguments dest d) ∙ ap (gone_to dest) e

pub value_of_printf : (t : Typed) (l : Layout) (bits : ℕ) (ty : ValueType) (pieces : Vec Piece Global) (arguments : Vec TExpr Global) (d : Draft) →
    value_of t l bits (T.Printf ty pieces arguments) d ≡ print_of t l pieces.items arguments.items d
unfolding value_of print_of
value_of_printf t l bits ty pieces arguments d =
    let row = row_of (T.Printf ty pieces arguments) in
    ap (λ (m : Made (List Out)). then_make m (λ given after. pieces_printed pieces.items given after))
    (values_of_items t l false row.0 row.1 arguments.items (items_hidden-the_row-TExpr-0 arguments) [] d)

pub value_of_left_index : (t : Typed) (l : Layout) (bits : ℕ) (ty : ValueType) (place : Place) (indexes : Vec TExpr Global) (x : Variable) (of : ℕ) (d : Draft) →
    value_of t l bits (T.LeftIndex ty place indexes x of) d
    ≡ index_read_by t l (T.LeftIndex ty place indexes x of) ty bits (spot_of t l (T.LeftIndex ty place indexes x of)) d
unfolding value_of spot_of
value_of_left_index t l bits ty place indexes x of d = refl

either_spot : (o : Option ℕ) (known : ℕ → Made Spot) (one other : Made Spot) → one ≡ other →
    (elim o as (λ _. Made Spot) [ Some position ↦ known position | None ↦ one ]) ≡ (elim o as (λ _. Made Spot) [ Some position ↦ known position | None ↦ other ])
either_spot (Some position) known one other same = refl
either_spot None known one other same = same

pub spot_of_left_index : (t : Typed) (l : Layout) (ty : ValueType) (place : Place) (indexes : Vec TExpr Global) (x : Variable) (of : ℕ) (d : Draft) →
    spot_of t l (T.LeftIndex ty place indexes x of) d ≡ indexed_spot t l (T.LeftIndex ty place indexes x of) (values_in t l false (all_quiet indexes.items) indexes.items) d
unfolding spot_of indexed_spot
spot_of_left_index t l ty place indexes x of d =
    let e = T.LeftIndex ty place indexes x of in
    let row = row_of e in
    either_spot (known_position t e) (λ position. then_make (word_in l position d) (λ r after. Makes (S.Indexed (O.Scalar r)) after)) _ _
    (same_behind (fresh_for (type_of e).shape 32 d)
    (λ at begun. then_make (values_of t l false (are_quiet row.1) row.1 [] begun) (λ parts between. then_make (located e parts at between) (λ out after. Makes (S.Indexed out) after)))
    (λ at begun. then_make (values_in t l false (all_quiet indexes.items) indexes.items [] begun) (λ parts between. then_make (located e parts at between) (λ out after. Makes (S.Indexed out) after)))
    (λ at begun. ap (λ (m : Made (List Out)). then_make m (λ parts between. then_make (located e parts at between) (λ out after. Makes (S.Indexed out) after)))
    (values_of_items t l false row.0 row.1 indexes.items (items_hidden-the_row-TExpr-0 indexes) [] begun)))

-- what is made of such an expression is made of its list
pub call_made : (t : Typed) (l : Layout) (bits : ℕ) (e : TExpr) (ty : ValueType) (instance : ℕ) (arguments : Vec TExpr Global) (given : List TExpr) (dest : Out) (d begun : Draft) →
    e ≡ T.Call ty instance arguments → given ≡ arguments.items → fresh_for ty.shape bits d ≡ Makes dest begun →
    IsMade (value_of t l bits e d) → IsMade (call_of t l instance given dest begun)
call_made t l bits e ty instance arguments given dest d begun is same fresh made =
    let whole = subst (λ (x : TExpr). IsMade (value_of t l bits x d)) is made in
    let items = subst (λ (m : Made Out). IsMade m) (value_of_call t l bits ty instance arguments dest d begun fresh) whole in
    subst (λ (xs : List TExpr). IsMade (call_of t l instance xs dest begun)) (sym same) items

pub computed_call_made : (t : Typed) (l : Layout) (e : TExpr) (ty : ValueType) (instance : ℕ) (arguments : Vec TExpr Global) (given : List TExpr) (dest : Out) (d : Draft) →
    e ≡ T.Call ty instance arguments → given ≡ arguments.items →
    IsMade (computed_to t l dest e d) → IsMade (call_of t l instance given dest d)
unfolding computed_to gone_to
computed_call_made t l e ty instance arguments given dest d is same made =
    let whole = subst (λ (x : TExpr). IsMade (computed_to t l dest x d)) is made in
    let items = subst (λ (m : Made Out). IsMade (gone_to dest m)) (call_to_of_row t l ty instance arguments dest d) whole in
    subst (λ (xs : List TExpr). IsMade (call_of t l instance xs dest d)) (sym same) (first_made _ _ items)

pub printf_made : (t : Typed) (l : Layout) (bits : ℕ) (e : TExpr) (ty : ValueType) (pieces : Vec Piece Global) (arguments : Vec TExpr Global) (texts : List Piece) (given : List TExpr) (d : Draft) →
    e ≡ T.Printf ty pieces arguments → texts ≡ pieces.items → given ≡ arguments.items →
    IsMade (value_of t l bits e d) → IsMade (print_of t l texts given d)
printf_made t l bits e ty pieces arguments texts given d is written same made =
    let whole = subst (λ (x : TExpr). IsMade (value_of t l bits x d)) is made in
    let items = subst (λ (m : Made Out). IsMade m) (value_of_printf t l bits ty pieces arguments d) whole in
    let there = subst (λ (ps : List Piece). IsMade (print_of t l ps arguments.items d)) (sym written) items in
    subst (λ (xs : List TExpr). IsMade (print_of t l texts xs d)) (sym same) there

pub left_index_made : (t : Typed) (l : Layout) (e : TExpr) (ty : ValueType) (place : Place) (indexes : Vec TExpr Global) (x : Variable) (of : ℕ) (given : List TExpr) (d : Draft) →
    e ≡ T.LeftIndex ty place indexes x of → given ≡ indexes.items →
    IsMade (spot_of t l e d) → IsMade (indexed_spot t l e (values_in t l false (all_quiet given) given) d)
left_index_made t l e ty place indexes x of given d is same made =
    let whole = subst (λ (y : TExpr). IsMade (spot_of t l y d)) is made in
    let items = subst (λ (m : Made Spot). IsMade m) (spot_of_left_index t l ty place indexes x of d) whole in
    let there = subst (λ (xs : List TExpr). IsMade (indexed_spot t l (T.LeftIndex ty place indexes x of) (values_in t l false (all_quiet xs) xs) d)) (sym same) items in
    subst (λ (y : TExpr). IsMade (indexed_spot t l y (values_in t l false (all_quiet given) given) d)) (sym is) there
