-- Every expression has code, in a unit that is ready for it: it is as long as described, and the value
-- stands where the expression says.
use denote.Hole.Carrier
use Rattle.std.proofs.Common.{◌≡◌, ℕ, suc, ◌+◌, Bool, true, false, ◌&&◌, List, [], ◌∷◌, ◌++◌, length, Option, Some, None, is_none, is_some, slice_get, refl, sym, ap, ◌∙◌, subst, arith, if◌then◌else◌, append_assoc}
use Rattle.std.specs.List.{All, AllZip}
use Rattle.std.proofs.lemmas.List.Elements.{All-cons, All-head, All-nil, All-tail}
use mathlib.Core.Former.{Count}
use Rattle.cstar_base.specs.declared.operators.Place.{Place}
use Rattle.cstar_tree.specs.declared.syntax.AssignOp.{AssignOp}
use Rattle.cstar_tree.specs.declared.syntax.ReduceOp.{ReduceOp}
use Rattle.cstar_tree.specs.declared.typed.TExpr.{TExpr, Row_of-TExpr, end_of-TExpr, more_of-TExpr, items-the_row-TExpr, items_shown-the_row-TExpr-0, out-TExpr}
use Rattle.cstar_tree.specs.declared.typed.TExpr as T
use Rattle.cstar_tree.specs.declared.typed.Piece.{Piece}
use Rattle.cstar_tree.specs.declared.typed.Instance.{Instance}
use Rattle.cstar_tree.specs.declared.typed.Typed.{Typed}
use Rattle.cstar_tree.specs.declared.typed.ValueType.{ValueType}
use Rattle.cstar_tree.specs.declared.typed.Variable.{Variable}
use Rattle.cstar_tree.specs.Conversions.{parallel}
use Rattle.cstar_tree.specs.Formats.{conversions}
use Rattle.cstar_tree.specs.Typed.{type_of}
use Rattle.lower_base.specs.declared.emit.Out.{Out}
use Rattle.lower_base.specs.declared.emit.Out.TheVariants as O
use Rattle.lower_base.specs.Drafts.{Draft, Made, Makes, then_make, from, fresh_for}
use Rattle.lower_base.specs.Constants.{word_in, word_length}
use Rattle.lower_base.specs.Layouts.{Layout, elements_of}
use Rattle.lower_base.specs.Kinds.{bits_of, kind_of}
use Rattle.lower_comm.specs.Messages.{all_in_registers, all_somewhere, communicated, checked_grid, is_left_index, located, part_field}
use Rattle.lower_comm.specs.News.{goes_by_news}
use Rattle.lower_expr.specs.declared.spots.Spot.{Spot}
use Rattle.lower_expr.specs.declared.spots.Spot.TheVariants as S
use Rattle.lower_expr.specs.Kinds.{done_as}
use Rattle.lower_expr.specs.Lengths.{cast_length, conversion_length, length_of, truth_length_of, tested_length, tested_by_length, arm_length_of, used_length_of, is_send, spot_length_of, lengths_of, call_length, bare, load_length, load_length_of, located_length, moves_length, read_length, reduce_length, news_length, news_moves, news_checked, elements_length, index_check_length}
use Rattle.lower_expr.specs.Operands.{are_quiet, is_plus, operand_by, operand_length}
use Rattle.lower_expr.specs.Positions.{known_position}
use Rattle.lower_expr.specs.Spots.{variable_spot}
use Rattle.lower_expr.specs.Steps.{has_truth, is_kept, pieces_printed}
use Rattle.lower_expr.specs.Values.{Code, Codes, Test, cast_from, condition_by, register_cast_by, value_of, truth_of, spot_of, values_of, element_spot, indexed_spot, news_to, read_by, index_read_to, index_read_by, message_to, message_by, call_to}
use Rattle.lower_expr.proofs.Unary.{is_plus_done}
use Rattle.code_lengths.specs.Growth.{GrowsOr, Stands, Anything}
use Rattle.code_lengths.specs.Lowerable.{AreLowerable, Calls, GivesValue, IsLowerable}
use Rattle.code_lengths.specs.Lowerable as L
use Rattle.code_lengths.specs.Naming.{AllNameVariables, HasBits, HasItsShape, HasVariable, NamesVariables, plain}
use Rattle.code_lengths.specs.Ready.{Arrives}
use Rattle.code_lengths.specs.Shaped.{HasShape, IsShaped, IsTarget, AreShaped}
use Rattle.code_lengths.proofs.Drafting.{nothing_more, IsAt, append_nothing, at_stands, fresh_at, fresh_grows, as_it_was, and_instr}
use Rattle.code_lengths.proofs.Drafting as D
use Rattle.code_lengths.proofs.Basis.{Basis, GrowsOn, standing_as, ready, if_ready, once_ready, plainly, makes, sized, bind, weaker, in_field_grows, lowest_grows, fresh_as, either_grows}
use Rattle.code_lengths.proofs.Readiness.{arrives, arrived, variable_field_grows}
use Rattle.code_lengths.proofs.Pieces.{InRegister, InField, constant_grows, word_in_grows, printed_grows}
use Rattle.code_lengths.proofs.Communication.{AreIndexes, located_grows, register_first, somewhere_first, read_by_news_grows, grid_check_more, grid_checked, reduced_grows, scanned_grows, segment_field_grows, enumerated_grows}
use Rattle.code_lengths.proofs.SpotPieces.{Fits, variable_fits, bare_type}
use Rattle.code_lengths.proofs.CallPieces.{called_grows}
use Rattle.code_lengths.proofs.OperandPieces.{operand_grows}
use Rattle.code_lengths.proofs.ValuePieces.{IsCode, IsTest, IsCondition, Known, of_code, tested_by_grows, zero_grows, relation_grows, binary_grows, logical_grows, arm_grows, choice_grows, unary_grows, casts_grow, cast_by_grows, register_cast_grows, spread_by_grows, coordinate_grows, byte_grows}
use Rattle.code_lengths.proofs.AssignPieces.{is_single, IsSpotCode, reads, assign_writes, step_writes, assign_sends, element_spot_grows, read_to_grows, read_by_grows, assign_grows, step_grows}

-- the codes of a list of values are so long, and the values arrive
abbrev pub AreCodes : Basis → Typed → List TExpr → ℕ → Codes → Type 0
AreCodes on t es n codes = (d : Draft) → GrowsOn on d n (λ (given : List Out). AllZip (Arrives t) es given) (codes [] d)

-- the code of an expression is so long, and its value arrives, in a unit that is ready
abbrev pub Comes : Type 0 → Typed → Instance → Layout → ℕ → TExpr → ℕ → Code → Type 0
Comes lacks t i l n e m code = (d : Draft) → GrowsOn (ready lacks t i l n) d m (Arrives t e) (code d)

-- a value that stands where its expression says arrives, and one that is given stands there
as_said : {on : Basis} (t : Typed) (k : Bool) (e : TExpr) (d : Draft) (m : ℕ) (made : Made Out) → k ≡ is_kept e → GrowsOn on d m (Stands k) made → GrowsOn on d m (Arrives t e) made
as_said t k e d m made h g = weaker (Stands k) (Arrives t e) d m made (λ v s. arrives t e v (standing_as k _ v h s)) g

pub given_code : (lacks : Type 0) (t : Typed) (i : Instance) (l : Layout) (n : ℕ) (e : TExpr) (m : ℕ) (code : Code) → GivesValue t e → Comes lacks t i l n e m code → IsCode (ready lacks t i l n) m (is_kept e) code
given_code lacks t i l n e m code g c d = weaker (Arrives t e) (Stands (is_kept e)) d m _ (λ v a. arrived t e v g a) (c d)

pub operand_comes : (lacks : Type 0) (t : Typed) (i : Instance) (l : Layout) (n bits : ℕ) (quiet : Bool) (e : TExpr) (code : Code) (m : ℕ) → IsShaped e → IsLowerable t e → NamesVariables t i n e → Comes lacks t i l n e m code →
    Comes lacks t i l n e (operand_length l bits m quiet e) (operand_by t l bits code quiet e)
operand_comes lacks t i l n bits quiet e code m h w v c d =
    if_ready (λ r. operand_grows _ t i l n bits quiet e code m d (record { shaped = h; lowerable = w; names = v }) r (once_ready (c d) r))

operand_code : (lacks : Type 0) (t : Typed) (i : Instance) (l : Layout) (n bits : ℕ) (quiet : Bool) (e : TExpr) (code : Code) (m : ℕ) → IsShaped e → IsLowerable t e → NamesVariables t i n e → GivesValue t e → Comes lacks t i l n e m code →
    IsCode (ready lacks t i l n) (operand_length l bits m quiet e) (is_kept e) (operand_by t l bits code quiet e)
operand_code lacks t i l n bits quiet e code m h w v g c = given_code _ t i l n e _ _ g (operand_comes _ t i l n bits quiet e code m h w v c)

-- what brackets hold arrives as they do
in_brackets : (t : Typed) (ty : ValueType) (p : _) (inner : TExpr) (v : Out) → Arrives t inner v → Arrives t (T.Brackets' ty p inner) v
unfolding Arrives GivesValue is_kept
in_brackets t ty p inner (O.Scalar r) a = a
in_brackets t ty p inner (O.Field f) a = a
in_brackets t ty p inner O.Nothing a = a

-- left indexes: what gives values stands somewhere, and for one element in registers
record CanBeIndexes (t : Typed) (k : Bool) (es : List TExpr) : Type 0 where
  give : All (GivesValue t) es
  in_registers : k ≡ true → All (L.InRegister t) es

indexes_in_registers : (t : Typed) (es : List TExpr) (given : List Out) → AllZip (Arrives t) es given → All (L.InRegister t) es → all_in_registers given ≡ true
unfolding all_in_registers
indexes_in_registers t [] [] a r = refl
indexes_in_registers t [] (v ∷ vs) a r = absurd a
indexes_in_registers t (e ∷ es) [] a r = absurd a
indexes_in_registers t (e ∷ es) (v ∷ vs) a r =
    let first = All-head (L.InRegister t) e es r in
    register_first v vs (standing_as _ true v first.1 (arrived t e v first.0 a.0)) (indexes_in_registers t es vs a.1 (All-tail (L.InRegister t) e es r))

indexes_somewhere : (t : Typed) (es : List TExpr) (given : List Out) → AllZip (Arrives t) es given → All (GivesValue t) es → all_somewhere given ≡ true
unfolding all_somewhere
indexes_somewhere t [] [] a g = refl
indexes_somewhere t [] (v ∷ vs) a g = absurd a
indexes_somewhere t (e ∷ es) [] a g = absurd a
indexes_somewhere t (e ∷ es) (v ∷ vs) a g =
    somewhere_first (is_kept e) v vs (arrived t e v (All-head (GivesValue t) e es g) a.0) (indexes_somewhere t es vs a.1 (All-tail (GivesValue t) e es g))

are_indexes : (t : Typed) (k : Bool) (es : List TExpr) (given : List Out) → CanBeIndexes t k es → AllZip (Arrives t) es given → AreIndexes k given
are_indexes t k es given b a = record { in_registers = λ h. indexes_in_registers t es given a (b.in_registers h); somewhere = indexes_somewhere t es given a b.give }

spot_by_indexes : {on : Basis} (t : Typed) (e : TExpr) (es : List TExpr) (codes : Codes) (n : ℕ) (d : Draft) → is_left_index e ≡ true → CanBeIndexes t (is_none (type_of e).shape) es → AreCodes on t es n codes → ((at : Out) → Stands (is_none (type_of e).shape) at → Fits (bare e) (S.Indexed at)) →
    GrowsOn on d (2 + n) (Fits (bare e)) (then_make (fresh_for (type_of e).shape 32 d) (λ at begun. then_make (codes [] begun) (λ parts between. then_make (located e parts at between) (λ out after. Makes (S.Indexed out) after))))
spot_by_indexes t e es codes n d i b c f =
    sized _ d _ _ _ (sum n) (bind (Stands (is_none (type_of e).shape)) _ d 0 _ _ _ (plainly (fresh_grows _ (type_of e).shape 32 d)) (λ at begun h.
    bind (λ (given : List Out). AllZip (Arrives t) es given) _ begun n _ _ _ (c begun) (λ parts between a.
    bind (Stands (is_none (type_of e).shape)) _ between 2 0 _ _ (plainly (located_grows _ (is_none (type_of e).shape) e parts at between i (are_indexes t _ es parts b a) h)) (λ out after k. makes _ (S.Indexed out) after after 0 (f out k) (as_it_was after)))))
  where
    sum : (n : ℕ) → 0 + (n + (2 + 0)) ≡ 2 + n
    sum n = omega arith

spot_in : {on : Basis} (o : Option ℕ) (l : Layout) (e : TExpr) (n : ℕ) (made : Made Spot) (d : Draft) → (is_some o ≡ true → is_none (type_of e).shape ≡ true) → ((at : Out) → Stands (is_none (type_of e).shape) at → Fits (bare e) (S.Indexed at)) → GrowsOn on d n (Fits (bare e)) made →
    GrowsOn on d (elim o as (λ _. ℕ) [ Some position ↦ word_length l position | None ↦ n ]) (Fits (bare e))
    (elim o as (λ _. Made Spot) [ Some position ↦ then_make (word_in l position d) (λ r after. Makes (S.Indexed (O.Scalar r)) after) | None ↦ made ])
spot_in (Some position) l e n made d k f g =
    sized _ d _ _ _ (and_nothing (word_length l position)) (bind Anything _ d _ 0 _ _ (plainly (word_in_grows _ l position d)) (λ r after _. makes _ (S.Indexed (O.Scalar r)) after after 0 (f (O.Scalar r) (k refl)) (as_it_was after)))
  where
    and_nothing : (n : ℕ) → n + 0 ≡ n
    and_nothing n = omega arith
spot_in None l e n made d k f g = g

indexed_spot_grows : {on : Basis} (t : Typed) (l : Layout) (e : TExpr) (es : List TExpr) (codes : Codes) (n : ℕ) (d : Draft) → is_left_index e ≡ true → CanBeIndexes t (is_none (type_of e).shape) es → AreCodes on t es n codes → (is_some (known_position t e) ≡ true → is_none (type_of e).shape ≡ true) → ((at : Out) → Stands (is_none (type_of e).shape) at → Fits (bare e) (S.Indexed at)) →
    GrowsOn on d (located_length t l e n) (Fits (bare e)) (indexed_spot t l e codes d)
unfolding indexed_spot located_length
indexed_spot_grows t l e es codes n d i b c k f = spot_in (known_position t e) l e (2 + n) _ d k f (spot_by_indexes t e es codes n d i b c f)

-- a position is known where one element is meant
some_if : (b : Bool) (o : Option ℕ) → is_some (if b then o else None) ≡ true → b ≡ true
some_if true o h = refl
some_if false o h = cc

known_scalar : (t : Typed) (ty : ValueType) (place : Place) (p : _) (indexes : Row_of-TExpr _) (x : Variable) (of : ℕ) → is_some (known_position t (T.LeftIndex' ty place p indexes x of)) ≡ true → is_none ty.shape ≡ true
unfolding known_position out-TExpr Carrier.out
known_scalar t ty place p indexes x of h = some_if (is_none ty.shape) _ h

-- a message of a value that stands in a field
pub message_to_grows : {on : Basis} (k : Bool) (t : Typed) (l : Layout) (e : TExpr) (code : Code) (n m : ℕ) (dest : Out) (d : Draft) → IsCode on n false code → Stands k dest →
    ((v into : Out) (b : Draft) → InField v → Stands k into → GrowsOn on b m (Stands k) (communicated t l e O.Nothing (v ∷ []) into b)) → GrowsOn on d (n + m) (Stands k) (message_to t l e code dest d)
unfolding message_to
message_to_grows k t l e code n m dest d c s f = bind InField _ d n m _ _ (c d) (λ v after at. f v dest after at s)

message_grows : {on : Basis} (k : Bool) (t : Typed) (l : Layout) (e : TExpr) (ty : ValueType) (bits : ℕ) (code : Code) (n m : ℕ) (d : Draft) → is_none ty.shape ≡ k → IsCode on n false code →
    ((v into : Out) (b : Draft) → InField v → Stands k into → GrowsOn on b m (Stands k) (communicated t l e O.Nothing (v ∷ []) into b)) →
    GrowsOn on d (n + m) (Stands k) (message_by t l e ty bits code d)
unfolding message_by
message_grows k t l e ty bits code n m d h c f =
    sized _ d _ _ _ (nothing_more _) (bind (IsAt k 32) _ d 0 _ _ _ (fresh_as k ty.shape 32 d h) (λ dest begun s.
    lowest_grows k bits begun _ _ (message_to_grows k t l e code n m dest begun c (at_stands k 32 dest s) f)))

-- reads of variables and of elements
one_read : (t : Typed) (l : Layout) (bits : ℕ) (ty : ValueType) (x : Variable) → 0 + load_length t l bits (T.Variable ty x) ≡ 1
unfolding load_length load_length_of bare
one_read t l bits ty x = refl

variable_spots : {on : Basis} (l : Layout) (ty : ValueType) (x : Variable) → IsSpotCode on 0 (bare (T.Variable ty x)) (λ between. Makes (variable_spot l ty x) between)
unfolding bare
variable_spots l ty x d = makes _ _ d d 0 (variable_fits l ty x) (as_it_was d)

variable_value : (lacks : Type 0) (t : Typed) (i : Instance) (l : Layout) (n : ℕ) (ty : ValueType) (bits : ℕ) (x : Variable) (d : Draft) → NamesVariables t i n (T.Variable ty x) →
    GrowsOn (ready lacks t i l n) d 1 (Stands (is_none ty.shape)) (read_by t l (T.Variable ty x) ty bits (λ between. Makes (variable_spot l ty x) between) d)
unfolding bare
variable_value lacks t i l n ty bits x d v = sized _ d _ _ _ (one_read t l bits ty x) (read_by_grows t l (T.Variable ty x) ty bits _ 0 d refl (reads _ t i l n (T.Variable ty x) v) (variable_spots l ty x))

element_value : (lacks : Type 0) (t : Typed) (i : Instance) (l : Layout) (n : ℕ) (ty : ValueType) (bits : ℕ) (place : Place) (array : Variable) (p : _) (index : TExpr) (d : Draft) → HasShape ty → HasItsShape t ty → NamesVariables t i n (T.Element' ty place array p index) → (code : Code) (m : ℕ) → IsCode (ready lacks t i l n) m true code →
    GrowsOn (ready lacks t i l n) d ((m + index_check_length l (elements_of t l array)) + elements_length l (elements_of t l array) 0) (Stands (is_none ty.shape)) (read_by t l (T.Element' ty place array p index) ty bits (element_spot t l ty place array code) d)
unfolding load_length load_length_of bare
element_value lacks t i l n ty bits place array p index d h k v code m c =
    read_by_grows t l (T.Element' ty place array p index) ty bits _ (m + index_check_length l (elements_of t l array)) d refl (reads _ t i l n (T.Element' ty place array p index) v) (λ b. element_spot_grows t l ty place array p index code m b h k c)

-- a list of values behind others
abbrev pub Behind : Typed → List TExpr → List Out → List Out → Type 0
Behind t es outs given = (more : List Out) × (given ≡ outs ++ more) × AllZip (Arrives t) es more

nothing_behind : (t : Typed) (outs : List Out) → Behind t [] outs outs
nothing_behind t outs = ([], append_nothing outs, tt)

one_behind : (t : Typed) (e : TExpr) (es : List TExpr) (outs : List Out) (v : Out) (given : List Out) → Arrives t e v → Behind t es (outs ++ v ∷ []) given → Behind t (e ∷ es) outs given
one_behind t e es outs v given a b = (v ∷ b.0, b.1 ∙ append_assoc outs (v ∷ []) b.0, (a, b.2))

behind_nothing : (t : Typed) (es : List TExpr) (given : List Out) → Behind t es [] given → AllZip (Arrives t) es given
behind_nothing t es given b = subst (λ (vs : List Out). AllZip (Arrives t) es vs) (sym b.1) b.2

pub all_codes : {on : Basis} (t : Typed) (l : Layout) (own quiet : Bool) {k : Count} (row : Row_of-TExpr k) → ((d : Draft) → GrowsOn on d (lengths_of t l own quiet row) (Behind t (items-the_row-TExpr k row) []) (values_of t l own quiet row [] d)) →
    AreCodes on t (items-the_row-TExpr k row) (lengths_of t l own quiet row) (values_of t l own quiet row)
all_codes t l own quiet row c d = weaker (Behind t (items-the_row-TExpr _ row) []) _ d _ _ (λ given b. behind_nothing t _ given b) (c d)

-- calls
pub call_to_grows : (lacks : Type 0) (t : Typed) (i : Instance) (l : Layout) (n : ℕ) (ty : ValueType) (instance : ℕ) (p : _) (arguments : Row_of-TExpr _) (codes : Codes) (m : ℕ) (dest : Out) (d : Draft) → Calls t instance ty (items-the_row-TExpr _ arguments) →
    AreCodes (ready lacks t i l n) t (items-the_row-TExpr _ arguments) m codes → Stands (is_none ty.shape) dest →
    GrowsOn (ready lacks t i l n) d (call_length (slice_get t.instances.items instance) (length (items-the_row-TExpr _ arguments)) + m) (Arrives t (T.Call' ty instance p arguments)) (call_to t l instance codes dest d)
unfolding call_to
call_to_grows lacks t i l n ty instance p arguments codes m dest d k c s =
    sized _ d _ _ _ (sum m (call_length (slice_get t.instances.items instance) (length (items-the_row-TExpr _ arguments)))) (bind (λ (given : List Out). AllZip (Arrives t) (items-the_row-TExpr _ arguments) given) _ d m _ _ _ (c d) (λ given after a.
    if_ready (λ r. called_grows _ t i l n ty instance p arguments given dest after k r a s)))
  where
    sum : (n m : ℕ) → n + m ≡ m + n
    sum n m = omega arith

call_value : (lacks : Type 0) (t : Typed) (i : Instance) (l : Layout) (n : ℕ) (ty : ValueType) (bits : ℕ) (instance : ℕ) (p : _) (arguments : Row_of-TExpr _) (codes : Codes) (m : ℕ) (d : Draft) → Calls t instance ty (items-the_row-TExpr _ arguments) →
    AreCodes (ready lacks t i l n) t (items-the_row-TExpr _ arguments) m codes →
    GrowsOn (ready lacks t i l n) d (call_length (slice_get t.instances.items instance) (length (items-the_row-TExpr _ arguments)) + m) (Arrives t (T.Call' ty instance p arguments)) (then_make (fresh_for ty.shape bits d) (λ dest begun. call_to t l instance codes dest begun))
call_value lacks t i l n ty bits instance p arguments codes m d k c =
    sized _ d _ _ _ (nothing_more _) (bind (Stands (is_none ty.shape)) _ d 0 _ _ _ (plainly (fresh_grows _ ty.shape bits d)) (λ dest begun s. call_to_grows _ t i l n ty instance p arguments codes m dest begun k c s))

-- a get by NEWS
grid_value : (lacks : Type 0) (ty : ValueType) (place : Place) (p : _) (indexes : Row_of-TExpr _) (x : Variable) (of : ℕ) (d : Draft) →
    GrowsOr lacks d (if news_checked of 0 (items-the_row-TExpr _ indexes) then 1 else 0) Anything (checked_grid (T.LeftIndex' ty place p indexes x of) d)
unfolding checked_grid out-TExpr Carrier.out
grid_value lacks ty place p indexes x of d =
    D.sized _ _ d _ _ _ (ap (λ (b : Bool). if b then 1 else 0) (grid_checked of 0 _ ∙ ap (λ (xs : List TExpr). news_checked of 0 xs) (items_shown-the_row-TExpr-0 p indexes))) (D.makes _ _ O.Nothing d _ _ tt (grid_check_more _ place _ d))

news_read : (lacks : Type 0) (t : Typed) (i : Instance) (l : Layout) (n : ℕ) (bits : ℕ) (ty : ValueType) (place : Place) (p : _) (indexes : Row_of-TExpr _) (x : Variable) (of : ℕ) (into : Out) (d : Draft) → HasVariable t i n x (plain (parallel ty.elem of)) → IsAt false bits into →
    GrowsOn (ready lacks t i l n) d (moves_length bits ty.elem (news_moves of 0 (items-the_row-TExpr _ indexes))) InField (communicated t l (T.LeftIndex' ty place p indexes x of) O.Nothing [] into d)
unfolding communicated out-TExpr Carrier.out
news_read lacks t i l n bits ty place p indexes x of into d v s =
    sized _ d _ _ _ (nothing_more _ ∙ ap (λ (xs : List TExpr). moves_length bits ty.elem (news_moves of 0 xs)) (items_shown-the_row-TExpr-0 p indexes))
    (bind Anything InField d 0 _ _ _ (if_ready (λ r. variable_field_grows _ t i l n x (parallel ty.elem of) d r v refl)) (λ source after _. plainly (read_by_news_grows _ bits of _ ty.elem source into after s)))

news_to_grows : (lacks : Type 0) (t : Typed) (i : Instance) (l : Layout) (n : ℕ) (bits : ℕ) (ty : ValueType) (place : Place) (p : _) (indexes : Row_of-TExpr _) (x : Variable) (of : ℕ) (dest : Out) (d : Draft) → HasVariable t i n x (plain (parallel ty.elem of)) → IsAt false bits dest →
    GrowsOn (ready lacks t i l n) d (news_length bits of ty.elem (items-the_row-TExpr _ indexes)) InField (news_to t l (T.LeftIndex' ty place p indexes x of) dest d)
unfolding news_to news_length
news_to_grows lacks t i l n bits ty place p indexes x of dest d v s =
    sized _ d _ _ _ (sum (moves_length bits ty.elem (news_moves of 0 (items-the_row-TExpr _ indexes))) (if news_checked of 0 (items-the_row-TExpr _ indexes) then 1 else 0))
    (bind Anything _ d _ _ _ _ (plainly (grid_value _ ty place p indexes x of d)) (λ _ after _. news_read _ t i l n bits ty place p indexes x of dest after v s))
  where
    sum : (a b : ℕ) → b + a ≡ a + b
    sum a b = omega arith

-- what goes by NEWS is parallel
news_shape : (ty : ValueType) (place : Place) (p : _) (indexes : Row_of-TExpr _) (x : Variable) (of : ℕ) → goes_by_news (T.LeftIndex' ty place p indexes x of) ≡ true → is_none ty.shape ≡ false
unfolding goes_by_news out-TExpr Carrier.out
news_shape ty place p indexes x of h = by ty.shape _ h
  where
    by : (o : Option ℕ) (b : Bool) → (is_some o && b) ≡ true → is_none o ≡ false
    by None b h = cc
    by (Some s) b h = refl

pub index_read_to_grows : (lacks : Type 0) (k : Bool) (t : Typed) (i : Instance) (l : Layout) (n : ℕ) (bits : ℕ) (ty : ValueType) (place : Place) (p : _) (indexes : Row_of-TExpr _) (x : Variable) (of : ℕ) (spot : Draft → Made Spot) (m : ℕ) (dest : Out) (d : Draft) →
    is_none ty.shape ≡ k → NamesVariables t i n (T.LeftIndex' ty place p indexes x of) → IsSpotCode (ready lacks t i l n) m (T.LeftIndex' ty place p indexes x of) spot → IsAt k bits dest →
    GrowsOn (ready lacks t i l n) d (if goes_by_news (T.LeftIndex' ty place p indexes x of) then news_length bits of ty.elem (items-the_row-TExpr _ indexes) else m + read_length bits ty) (Stands k)
    (index_read_to t l (T.LeftIndex' ty place p indexes x of) spot dest d)
unfolding index_read_to load_length load_length_of bare NamesVariables
index_read_to_grows lacks k t i l n bits ty place p indexes x of spot m dest d e v c s =
    either_grows (Stands k) (goes_by_news (T.LeftIndex' ty place p indexes x of)) d _ _ _ _
    (λ g. let f : k ≡ false = sym e ∙ news_shape ty place p indexes x of g in
    weaker InField (Stands k) d _ _ (λ w q. standing_as false k w (sym f) q) (news_to_grows _ t i l n bits ty place p indexes x of dest d v.0 (subst (λ b. IsAt b bits dest) f s)))
    (λ _. read_to_grows k bits t l (T.LeftIndex' ty place p indexes x of) spot dest m d e (reads _ t i l n (T.LeftIndex' ty place p indexes x of) v) c s)

left_index_value : (lacks : Type 0) (t : Typed) (i : Instance) (l : Layout) (n : ℕ) (ty : ValueType) (bits : ℕ) (place : Place) (p : _) (indexes : Row_of-TExpr _) (x : Variable) (of : ℕ) (es : List TExpr) (codes : Codes) (m : ℕ) (d : Draft) → NamesVariables t i n (T.LeftIndex' ty place p indexes x of) → CanBeIndexes t (is_none ty.shape) es → AreCodes (ready lacks t i l n) t es m codes →
    GrowsOn (ready lacks t i l n) d (if goes_by_news (T.LeftIndex' ty place p indexes x of) then news_length bits of ty.elem (items-the_row-TExpr _ indexes) else located_length t l (T.LeftIndex' ty place p indexes x of) m + read_length bits ty) (Stands (is_none ty.shape))
    (index_read_by t l (T.LeftIndex' ty place p indexes x of) ty bits (indexed_spot t l (T.LeftIndex' ty place p indexes x of) codes) d)
unfolding index_read_by bare is_left_index
left_index_value lacks t i l n ty bits place p indexes x of es codes m d v g c =
    sized _ d _ _ _ (nothing_more _) (bind (IsAt (is_none ty.shape) bits) _ d 0 _ _ _ (plainly (fresh_at _ ty.shape bits d)) (λ dest begun s.
    index_read_to_grows _ (is_none ty.shape) t i l n bits ty place p indexes x of _ _ dest begun refl v (λ b. indexed_spot_grows t l (T.LeftIndex' ty place p indexes x of) es codes m b refl g c (known_scalar t ty place p indexes x of) (λ at h. h)) s))

-- what is printed stands in registers
all_printed : (t : Typed) (es : List TExpr) (given : List Out) → AllZip (Arrives t) es given → All (L.InRegister t) es → All InRegister given × (length es ≡ length given)
all_printed t [] [] a r = (All-nil InRegister, refl)
all_printed t [] (v ∷ vs) a r = absurd a
all_printed t (e ∷ es) [] a r = absurd a
all_printed t (e ∷ es) (v ∷ vs) a r =
    let first = All-head (L.InRegister t) e es r in
    let rest = all_printed t es vs a.1 (All-tail (L.InRegister t) e es r) in
    (All-cons InRegister v vs (standing_as _ true v first.1 (arrived t e v first.0 a.0)) rest.0, ap suc rest.1)

printed_value : {on : Basis} (t : Typed) (pieces : List Piece) (es : List TExpr) (codes : Codes) (n : ℕ) (d : Draft) → conversions pieces ≡ length es → All (L.InRegister t) es → AreCodes on t es n codes →
    GrowsOn on d (length pieces + n) (λ (v : Out). v ≡ O.Nothing) (then_make (codes [] d) (λ given after. pieces_printed pieces given after))
printed_value t pieces es codes n d h r c =
    sized _ d _ _ _ (sum n (length pieces)) (bind (λ (given : List Out). AllZip (Arrives t) es given) _ d n _ _ _ (c d) (λ given after a.
    let at = all_printed t es given a r in plainly (printed_grows _ pieces given after (h ∙ at.1) at.0)))
  where
    sum : (n m : ℕ) → n + m ≡ m + n
    sum n m = omega arith

-- a reduction of a value that stands in a field, to a register, and a scan, to a field
pub reduce_grows : {on : Basis} (t : Typed) (l : Layout) (ty : ValueType) (op : ReduceOp) (p : _) (operand : TExpr) (v into : Out) (b : Draft) → InField v → InRegister into →
    GrowsOn on b (reduce_length op operand) InRegister (communicated t l (T.Reduce' ty op p operand) O.Nothing (v ∷ []) into b)
unfolding communicated out-TExpr Carrier.out
reduce_grows t l ty op p operand v into b at s = plainly (reduced_grows _ op operand v into b at s)

pub scan_grows : (lacks : Type 0) (t : Typed) (i : Instance) (l : Layout) (n : ℕ) (ty : ValueType) (p : _) (source : TExpr) (axis : _) (combiner : _) (direction : _) (mode : _) (bit : _) (within : _) → HasBits t i n bit → (v into : Out) (b : Draft) → InField v → InField into →
    GrowsOn (ready lacks t i l n) b 1 InField (communicated t l (T.Scan' ty p source axis combiner direction mode bit within) O.Nothing (v ∷ []) into b)
unfolding communicated part_field from out-TExpr Carrier.out
scan_grows lacks t i l n ty p source axis combiner direction mode bit within names v into b at s =
    in_field_grows _ b 1 v _ at (λ values. bind Anything _ b 0 1 _ _ (if_ready (λ r. segment_field_grows _ t i l n bit b r names)) (λ bits after _. plainly (scanned_grows _ _ values _ bits into after s)))

enumerate_grows : (lacks : Type 0) (t : Typed) (i : Instance) (l : Layout) (n : ℕ) (ty : ValueType) (axis : _) (direction : _) (within : _) (mode : _) (bit : _) (into : Out) (b : Draft) → HasBits t i n bit → InField into →
    GrowsOn (ready lacks t i l n) b 2 InField (communicated t l (T.Enumerate ty axis direction within mode bit) O.Nothing [] into b)
unfolding communicated out-TExpr Carrier.out
enumerate_grows lacks t i l n ty axis direction within mode bit into b names s = if_ready (λ r. enumerated_grows _ t i l n _ bit into b r names s)

-- an operand of `&&` or `||`
pub condition_grows : {on : Basis} (t : Typed) (l : Layout) (e : TExpr) (code : Code) (truth : Test) → IsCode on (used_length_of t l (bits_of (kind_of e)) true e) (is_kept e) (operand_by t l (bits_of (kind_of e)) code true e) → (is_kept e ≡ false → has_truth e ≡ true → IsTest on (truth_length_of t l e) truth) →
    IsCondition on (condition_by t l code truth e)
unfolding condition_by tested_length tested_by_length
condition_grows t l e code truth c f =
    record { code = c; test = λ k. tested_by_grows (has_truth e) _ _ truth _ (f k) (of_code (is_kept e) false _ _ k c) }

-- a parallel value whose truth is told without it stands in a field
field_of_truth : (e : TExpr) → IsShaped e → has_truth e ≡ true → HasShape (type_of e) → is_kept e ≡ false
unfolding has_truth is_kept IsShaped
field_of_truth (T.Brackets' ty p inner) h r s = field_of_truth inner h.1 r (sym h.0 ∙ s)
field_of_truth (T.Variable ty x) h r s = s
field_of_truth (T.Binary' ty place op p left q right) h r s = s
field_of_truth (T.Unary' ty op p operand) h r s = s
field_of_truth _ h r s = cc

-- a conversion of a parallel value, by its codes as an operand and as they are
cast_grows : {on : Basis} (t : Typed) (l : Layout) (bits : ℕ) (ty : ValueType) (e : TExpr) (truth : Test) (code : ℕ → Code) (m : ℕ) (own : ℕ → ℕ) (d : Draft) → ((n : ℕ) → IsCode on (own n) (is_kept e) (code n)) →
    ((n : ℕ) → IsCode on (operand_length l n (own n) true e) (is_kept e) (operand_by t l n (code n) true e)) → (has_truth e ≡ true → IsTest on m truth) →
    GrowsOn on d (cast_length l bits ty.elem e m own) InField (cast_from t l bits ty e truth code d)
unfolding cast_from cast_length tested_by_length
cast_grows t l bits ty e truth code m own d c o f =
    cast_by_grows _ bits ty.elem _ _ _ _ _ _ d
    (tested_by_grows (has_truth e) m _ truth _ f (λ b. spread_by_grows _ e _ _ _ b (o _)))
    (λ b. spread_by_grows _ e _ _ _ b (o _)) (λ b. spread_by_grows _ e _ _ _ b (c bits))

-- a conversion, in its register or of a parallel value
converted_grows : {on : Basis} (t : Typed) (l : Layout) (bits : ℕ) (ty : ValueType) (e : TExpr) (truth : Test) (code : ℕ → Code) (m : ℕ) (own : ℕ → ℕ) (d : Draft) → ((n : ℕ) → IsCode on (own n) (is_kept e) (code n)) →
    ((n : ℕ) → IsCode on (operand_length l n (own n) true e) (is_kept e) (operand_by t l n (code n) true e)) → (is_kept e ≡ false → has_truth e ≡ true → IsTest on m truth) →
    GrowsOn on d (if is_kept e then own bits + conversion_length true ty.elem else cast_length l bits ty.elem e m own) (Stands (is_kept e))
    (if is_kept e then register_cast_by ty.elem (code bits) d else cast_from t l bits ty e truth code d)
converted_grows t l bits ty e truth code m own d c o f =
    either_grows (Stands (is_kept e)) (is_kept e) d _ _ _ _
    (λ k. weaker InRegister _ d _ _ (λ v s. standing_as true _ v (sym k) s) (register_cast_grows ty.elem (code bits) (own bits) d (of_code (is_kept e) true _ _ k (c bits))))
    (λ k. weaker InField _ d _ _ (λ v s. standing_as false _ v (sym k) s) (cast_grows t l bits ty e truth code m own d c o (f k)))

-- an assignment that sends is nowhere, and neither is `printf`
sent_nowhere : (t : Typed) (ty : ValueType) (place : Place) (op : AssignOp) (p : _) (target : TExpr) (q : _) (value : TExpr) → is_send target ≡ true → Arrives t (T.Assign' ty place op p target q value) O.Nothing
unfolding Arrives GivesValue
sent_nowhere t ty place op p target q value s g = cc

printed_nowhere : (t : Typed) (ty : ValueType) (pieces : _) (p : _) (arguments : Row_of-TExpr _) (v : Out) → v ≡ O.Nothing → Arrives t (T.Printf' ty pieces p arguments) v
unfolding Arrives GivesValue
printed_nowhere t ty pieces p arguments v e = subst (λ x. Arrives t (T.Printf' ty pieces p arguments) x) (sym e) (λ g. g)

mutual
  unfolding value_of truth_of condition_by tested_length spot_of values_of length_of truth_length_of spot_length_of lengths_of arm_length_of has_truth is_kept bare is_left_index IsShaped IsTarget AreShaped IsLowerable AreLowerable NamesVariables AllNameVariables

  pub value_grows : (lacks : Type 0) (t : Typed) (i : Instance) (l : Layout) (n bits : ℕ) (e : TExpr) → IsShaped e → IsLowerable t e → NamesVariables t i n e → Comes lacks t i l n e (length_of t l bits e) (value_of t l bits e)
  value_grows lacks t i l n bits (T.Assign' ty place op p target q value) h w v d =
      assign_grows (Arrives t (T.Assign' ty place op p target q value)) t l ty bits place op p target q value _ _ _ _ d (bare_type target h.2) w.1 (λ s. sent_nowhere t ty place op p target q value s)
      (λ s x at. arrives t (T.Assign' ty place op p target q value) x (standing_as (is_single target) _ x (ap (λ (y : ValueType). is_none y.shape) (bare_type target h.2) ∙ ap is_none (sym h.0)) at))
      (reads _ t i l n target v.0) (λ s. assign_writes _ t i l n ty place op p target q value v.0 s) (assign_sends _ t i l n ty place op p target q value v.0) (spot_grows _ t i l n target h.2 w.2 v.0)
      (given_code _ t i l n value _ _ w.0 (value_grows _ t i l n _ value h.3 w.3 v.1)) (λ act. operand_code _ t i l n _ true value _ _ h.3 w.3 v.1 w.0 (value_grows _ t i l n _ value h.3 w.3 v.1))
  value_grows lacks t i l n bits (T.Choice' ty p test q first r second) h w v d =
      as_said t (is_none ty.shape) _ d _ _ refl (choice_grows ty bits (is_kept test) _ _ _ _ _ _ d w.1 (operand_code _ t i l n _ _ test _ _ h.0 w.4 v.0 w.0 (value_grows _ t i l n _ test h.0 w.4 v.0))
      (arm_grows (is_none ty.shape) (is_kept first) first _ _ w.2.in_register (operand_code _ t i l n bits true first _ _ h.1 w.5 v.1 w.2.gives (value_grows _ t i l n bits first h.1 w.5 v.1)))
      (arm_grows (is_none ty.shape) (is_kept second) second _ _ w.3.in_register (operand_code _ t i l n bits true second _ _ h.2 w.6 v.2 w.3.gives (value_grows _ t i l n bits second h.2 w.6 v.2))))
  value_grows lacks t i l n bits (T.LogicalOr' ty p left q right) h w v d =
      as_said t (is_none ty.shape) _ d _ _ refl (logical_grows true ty.shape bits _ _ d
      (condition_grows t l left _ _ (operand_code _ t i l n _ true left _ _ h.0 w.1 v.0 w.0.left_gives (value_grows _ t i l n _ left h.0 w.1 v.0)) (λ k r. truth_grows _ t i l n left h.0 w.1 v.0 r k))
      (condition_grows t l right _ _ (operand_code _ t i l n _ true right _ _ h.1 w.2 v.1 w.0.right_gives (value_grows _ t i l n _ right h.1 w.2 v.1)) (λ k r. truth_grows _ t i l n right h.1 w.2 v.1 r k))
      w.0.left_register w.0.right_register w.0.right_field)
  value_grows lacks t i l n bits (T.LogicalAnd' ty p left q right) h w v d =
      as_said t (is_none ty.shape) _ d _ _ refl (logical_grows false ty.shape bits _ _ d
      (condition_grows t l left _ _ (operand_code _ t i l n _ true left _ _ h.0 w.1 v.0 w.0.left_gives (value_grows _ t i l n _ left h.0 w.1 v.0)) (λ k r. truth_grows _ t i l n left h.0 w.1 v.0 r k))
      (condition_grows t l right _ _ (operand_code _ t i l n _ true right _ _ h.1 w.2 v.1 w.0.right_gives (value_grows _ t i l n _ right h.1 w.2 v.1)) (λ k r. truth_grows _ t i l n right h.1 w.2 v.1 r k))
      w.0.left_register w.0.right_register w.0.right_field)
  value_grows lacks t i l n bits (T.Binary' ty place op p left q right) h w v d =
      as_said t (is_none ty.shape) _ d _ _ refl (binary_grows ty.shape bits op place _ left _ _ right _ d w.0.in_register w.1.in_register
      (operand_code _ t i l n _ _ left _ _ h.0 w.2 v.0 w.0.gives (value_grows _ t i l n _ left h.0 w.2 v.0)) (operand_code _ t i l n _ _ right _ _ h.1 w.3 v.1 w.1.gives (value_grows _ t i l n _ right h.1 w.3 v.1)))
  value_grows lacks t i l n bits (T.Unary' ty op p operand) h w v d =
      as_said t (is_kept operand) _ d _ _ (sym h.0) (unary_grows (is_plus op) l ty bits (done_as bits op operand) (is_kept operand) _ _ _ _ d (is_plus_done bits op operand) h.0 (given_code _ t i l n operand _ _ w.0 (value_grows _ t i l n bits operand h.1 w.1 v))
      (operand_code _ t i l n _ true operand _ _ h.1 w.1 v w.0 (value_grows _ t i l n _ operand h.1 w.1 v)))
  value_grows lacks t i l n bits (T.Step' ty op order p target) h w v d =
      let k = ap (λ (y : ValueType). is_none y.shape) (bare_type target h.1) in
      as_said t (is_single target) _ d _ _ (k ∙ ap is_none (sym h.0)) (step_grows t l ty op order p target bits _ _ d k (reads _ t i l n target v) (step_writes _ t i l n ty op order p target v w.0) (spot_grows _ t i l n target h.1 w.1 v))
  value_grows lacks t i l n bits (T.Reduce' ty op p operand) h w v d =
      as_said t true _ d _ _ (sym w.0) (message_grows true t l (T.Reduce' ty op p operand) ty bits _ _ _ d w.0
      (of_code (is_kept operand) false _ _ w.1.1 (operand_code _ t i l n _ true operand _ _ h w.2 v w.1.0 (value_grows _ t i l n _ operand h w.2 v))) (reduce_grows t l ty op p operand))
  value_grows lacks t i l n bits (T.Casts' ty elems p operand) h w v d =
      bind InRegister _ d _ _ _ _ (of_code (is_kept operand) true _ _ w.0.1 (given_code _ t i l n operand _ _ w.0.0 (value_grows _ t i l n bits operand h.1 w.1 v)) d)
      (λ x after s. as_said t true _ after _ _ (sym h.0) (casts_grow elems.items x after s))
  value_grows lacks t i l n bits (T.ParallelCast' ty p operand) h w v d =
      as_said t false _ d _ _ (sym h.0) (cast_grows t l bits ty operand _ _ _ _ d (λ m. given_code _ t i l n operand _ _ w.0 (value_grows _ t i l n m operand h.1 w.2 v))
      (λ m. operand_code _ t i l n m true operand _ _ h.1 w.2 v w.0 (value_grows _ t i l n m operand h.1 w.2 v)) (λ r. truth_grows _ t i l n operand h.1 w.2 v r (field_of_truth operand h.1 r w.1)))
  value_grows lacks t i l n bits (T.Convert' ty p operand) h w v d =
      as_said t (is_kept operand) _ d _ _ refl (converted_grows t l bits ty operand _ _ _ _ d (λ m. given_code _ t i l n operand _ _ w.0 (value_grows _ t i l n m operand h.1 w.1 v))
      (λ m. operand_code _ t i l n m true operand _ _ h.1 w.1 v w.0 (value_grows _ t i l n m operand h.1 w.1 v)) (λ k r. truth_grows _ t i l n operand h.1 w.1 v r k))
  value_grows lacks t i l n bits (T.Promote' ty p operand) h w v d = as_said t (is_kept operand) _ d _ _ h.0 (given_code _ t i l n operand _ _ w.0 (value_grows _ t i l n bits operand h.1 w.1 v) d)
  value_grows lacks t i l n bits (T.Variable ty x) h w v d = as_said t (is_none ty.shape) _ d _ _ refl (variable_value _ t i l n ty bits x d v)
  value_grows lacks t i l n bits (T.Element' ty place array p index) h w v d =
      as_said t (is_none ty.shape) _ d _ _ refl (element_value _ t i l n ty bits place array p index d h.0 v.0.1.shape v _ _ (of_code (is_kept index) true _ _ w.0.1 (given_code _ t i l n index _ _ w.0.0 (value_grows _ t i l n 32 index h.1 w.1 v.1))))
  value_grows lacks t i l n bits (T.Number ty value) h w v d = as_said t true _ d _ _ (sym h) (plainly (constant_grows _ value d))
  value_grows lacks t i l n bits (T.Dot ty axis) h w v d = as_said t false _ d _ _ (sym h) (coordinate_grows ty.shape bits axis d)
  value_grows lacks t i l n bits (T.Brackets' ty p inner) h w v d = weaker (Arrives t inner) _ d _ _ (λ x a. in_brackets t ty p inner x a) (value_grows _ t i l n bits inner h.1 w v d)
  value_grows lacks t i l n bits (T.Call' ty instance p arguments) h w v d = call_value _ t i l n ty bits instance p arguments _ _ d w.0 (all_codes t l true _ arguments (λ b. values_grow _ t i l n true _ arguments h w.1 v [] b))
  value_grows lacks t i l n bits (T.LeftIndex' ty place p indexes x of) h w v d =
      as_said t (is_none ty.shape) _ d _ _ refl (left_index_value _ t i l n ty bits place p indexes x of _ _ _ d v (record { give = w.0; in_registers = w.1 }) (all_codes t l false _ indexes (λ b. values_grow _ t i l n false _ indexes h w.2 v.1 [] b)))
  value_grows lacks t i l n bits (T.Pcoord ty axis) h w v d = as_said t false _ d _ _ (sym h) (coordinate_grows ty.shape bits axis d)
  value_grows lacks t i l n bits (T.PositionsOf ty shape value) h w v d = as_said t true _ d _ _ (sym h) (plainly (constant_grows _ value d))
  value_grows lacks t i l n bits (T.RankOf ty shape value) h w v d = as_said t true _ d _ _ (sym h) (plainly (constant_grows _ value d))
  value_grows lacks t i l n bits (T.DimOf ty shape axis value) h w v d = as_said t true _ d _ _ (sym h) (plainly (constant_grows _ value d))
  value_grows lacks t i l n bits (T.Scan' ty p source axis combiner direction mode bit within) h w v d =
      as_said t false _ d _ _ (sym w.0) (message_grows false t l (T.Scan' ty p source axis combiner direction mode bit within) ty bits _ _ 1 d w.0
      (of_code (is_kept source) false _ _ w.1.1 (operand_code _ t i l n 32 true source _ _ h w.2 v.1 w.1.0 (value_grows _ t i l n 32 source h w.2 v.1))) (scan_grows _ t i l n ty p source axis combiner direction mode bit within v.0))
  value_grows lacks t i l n bits (T.Enumerate ty axis direction within mode bit) h w v d =
      as_said t false _ d _ _ (sym w) (bind (IsAt false 32) InField d 0 2 _ _ (fresh_as false ty.shape 32 d w) (λ dest after s. lowest_grows false bits after _ _ (enumerate_grows _ t i l n ty axis direction within mode bit dest after v (at_stands false 32 dest s))))
  value_grows lacks t i l n bits (T.Printf' ty pieces p arguments) h w v d =
      weaker (λ (x : Out). x ≡ O.Nothing) _ d _ _ (λ x e. printed_nowhere t ty pieces p arguments x e) (printed_value t pieces.items _ (values_of t l false (are_quiet arguments) arguments) _ d w.0 w.1 (all_codes t l false _ arguments (λ b. values_grow _ t i l n false _ arguments h w.2 v [] b)))
  value_grows lacks t i l n bits (T.GetChar ty) h w v d = as_said t true _ d _ _ (sym h) (byte_grows d)

  -- the test flags of a value that stands in a field and has a truth without its value
  pub truth_grows : (lacks : Type 0) (t : Typed) (i : Instance) (l : Layout) (n : ℕ) (e : TExpr) → IsShaped e → IsLowerable t e → NamesVariables t i n e → has_truth e ≡ true → is_kept e ≡ false → IsTest (ready lacks t i l n) (truth_length_of t l e) (truth_of t l e)
  truth_grows lacks t i l n (T.Brackets' ty p inner) h w v r k d = truth_grows _ t i l n inner h.1 w v r k d
  truth_grows lacks t i l n (T.Variable ty x) h w v r k d =
      bind Anything Known d 0 1 _ _ (if_ready (λ at. variable_field_grows _ t i l n x ty d at v k)) (λ source after _. makes Known tt after _ 1 tt (and_instr _ after after 0 (as_it_was after)))
  truth_grows lacks t i l n (T.Binary' ty place op p left q right) h w v r k d =
      relation_grows _ op _ _ _ _ left right r (operand_code _ t i l n _ _ left _ _ h.0 w.2 v.0 w.0.gives (value_grows _ t i l n _ left h.0 w.2 v.0)) (operand_code _ t i l n _ true right _ _ h.1 w.3 v.1 w.1.gives (value_grows _ t i l n _ right h.1 w.3 v.1)) d
  truth_grows lacks t i l n (T.Unary' ty op p operand) h w v r k d =
      zero_grows _ _ (of_code (is_kept operand) false _ _ (sym h.0 ∙ k) (operand_code _ t i l n _ true operand _ _ h.1 w.1 v w.0 (value_grows _ t i l n _ operand h.1 w.1 v))) d
  truth_grows lacks t i l n _ h w v r k d = cc

  pub spot_grows : (lacks : Type 0) (t : Typed) (i : Instance) (l : Layout) (n : ℕ) (e : TExpr) → IsTarget e → IsLowerable t e → NamesVariables t i n e → IsSpotCode (ready lacks t i l n) (spot_length_of t l e) (bare e) (spot_of t l e)
  spot_grows lacks t i l n (T.Variable ty x) h w v d = makes _ _ d d 0 (variable_fits l ty x) (as_it_was d)
  spot_grows lacks t i l n (T.Element' ty place array p index) h w v d =
      element_spot_grows t l ty place array p index _ _ d h.0 v.0.1.shape (of_code (is_kept index) true _ _ w.0.1 (given_code _ t i l n index _ _ w.0.0 (value_grows _ t i l n 32 index h.1 w.1 v.1)))
  spot_grows lacks t i l n (T.LeftIndex' ty place p indexes x of) h w v d =
      indexed_spot_grows t l (T.LeftIndex' ty place p indexes x of) _ _ _ d refl (record { give = w.0; in_registers = w.1 }) (all_codes t l false _ indexes (λ b. values_grow _ t i l n false _ indexes h w.2 v.1 [] b)) (known_scalar t ty place p indexes x of) (λ at k. k)
  spot_grows lacks t i l n (T.Brackets' ty p inner) h w v d = spot_grows _ t i l n inner h.1 w v d
  spot_grows lacks t i l n _ h w v d = absurd h

  pub values_grow : (lacks : Type 0) (t : Typed) (i : Instance) (l : Layout) (n : ℕ) (own quiet : Bool) {k : Count} (row : Row_of-TExpr k) → AreShaped row → AreLowerable t row → AllNameVariables t i n row → (outs : List Out) (d : Draft) →
      GrowsOn (ready lacks t i l n) d (lengths_of t l own quiet row) (Behind t (items-the_row-TExpr k row) outs) (values_of t l own quiet row outs d)
  values_grow lacks t i l n own quiet end_of-TExpr h w v outs d = makes _ outs d d 0 (nothing_behind t outs) (as_it_was d)
  values_grow lacks t i l n own quiet (more_of-TExpr e rest) h w v outs d =
      bind (Arrives t e) _ d _ _ _ _ (operand_comes _ t i l n _ quiet e _ _ h.0 w.0 v.0 (value_grows _ t i l n _ e h.0 w.0 v.0) d) (λ x after a.
      weaker (Behind t (items-the_row-TExpr _ rest) (outs ++ x ∷ [])) _ after _ _ (λ given b. one_behind t e _ outs x given a b)
      (values_grow _ t i l n own quiet rest h.1 w.1 v.1 (outs ++ x ∷ []) after))
