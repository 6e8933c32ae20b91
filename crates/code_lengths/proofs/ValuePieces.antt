-- The forms of expressions have code, over that of their parts, and it is as long as described.
use Rattle.std.proofs.Common.{◌≡◌, ℕ, suc, ◌+◌, Bool, true, false, not, ◌&&◌, ◌||◌, ◌==◌, nat_lt, List, [], ◌∷◌, length, Option, Some, None, is_none, is_some, refl, sym, ap, ◌∙◌, subst, arith, if◌then◌else◌}
use Rattle.cstar_base.specs.declared.elem.Elem.{Elem}
use Rattle.cstar_base.specs.declared.operators.Op.{Op}
use Rattle.cstar_base.specs.declared.operators.Op.TheVariants as P
use Rattle.cstar_base.specs.declared.operators.Place.{Place}
use Rattle.cstar_base.specs.Operators.{divides}
use Rattle.cstar_tree.specs.declared.typed.TExpr.{TExpr}
use Rattle.cstar_tree.specs.declared.typed.TExpr as T
use Rattle.cstar_tree.specs.declared.typed.UnaryOp.{UnaryOp}
use Rattle.cstar_tree.specs.declared.typed.UnaryOp.TheVariants as Un
use Rattle.cstar_tree.specs.declared.typed.ValueType.{ValueType}
use Rattle.paris_code.specs.declared.instr.Instr.TheVariants as I
use Rattle.paris_code.specs.declared.operands.Field.{Field}
use Rattle.paris_code.specs.declared.operands.Konst.TheVariants as K
use Rattle.lower_base.specs.declared.emit.Out.{Out}
use Rattle.lower_base.specs.declared.emit.Out.TheVariants as O
use Rattle.lower_base.specs.declared.operators.Machine.{Machine}
use Rattle.lower_base.specs.declared.operators.Machine.TheVariants as M
use Rattle.lower_base.specs.Operators.{machine_of, relates}
use Rattle.lower_base.specs.Drafts.{Draft, Made, Makes, then_make, from, with_instr, in_register, in_field, a_field, a_flag, first_bits, fresh_for}
use Rattle.lower_expr.specs.declared.steps.Right.{Right}
use Rattle.lower_expr.specs.declared.steps.Right.TheVariants as R
use Rattle.lower_expr.specs.Joined.{joins, is_flag, flag_by, flag_length, operation_of, cleared, joined}
use Rattle.lower_expr.specs.Kinds.{operation_bits, reads_signed, result_bits}
use Rattle.lower_expr.specs.Lengths.{conversion_length, test_put_length, unary_length, operate_length, joined_length, parallel_logical_length, logical_length, choice_length, arm_length, compared_length, spread_length, spare_length, right_length, binary_length}
use Rattle.lower_base.specs.Layouts.{Layout}
use Rattle.lower_expr.specs.Operands.{is_plus}
use Rattle.lower_expr.specs.Steps.{is_kept, has_word, register_word, word_for, word_put, word_of, word_taken, put_value, right_operated, in_a_field, negated}
use Rattle.lower_expr.specs.Values.{Code, Test, Arm, Condition, spread_into, spread_by, right_given, right_by, coordinate_in, byte_in, casts_put, extended, truth_put, cast_by, register_cast_by, unary_by, registers_by, fields_by, spare_for, parallel_binary_by, binary_by, jump_if_decided, narrowed_by, decided, limited, logical_ended, scalar_logical_by, nonzero_tested, zero_tested, tested_by, compared, relation_by, decided_by, jumped, jumped_over, narrowed_again, limited_by, flag_of, joined_by, narrowing_by, parallel_logical_by, logical_by, arm_by, scalar_choice_by, turned_over, parallel_choice_by, choice_by}
use Rattle.code_lengths.specs.Growth.{Extended, Stands, Anything}
use Rattle.code_lengths.proofs.Drafting.{nothing_more, IsAt, field_grows, as_it_was, resized, and_instr, register_grows, entry_grows, fresh_grows}
use Rattle.code_lengths.proofs.Basis.{Basis, GrowsOn, plainly, makes, sized, behind, bind, weaker, in_register_grows, in_field_grows, lowest_grows, fresh_as, either_grows}
use Rattle.code_lengths.proofs.Pieces.{InRegister, InField, constant_grows, test_grows, put_value_grows, operated_more, register_in_place_grows, fields_operated_grows, word_grows, number_grows, in_a_field_grows, negated_grows}

-- of what the test flags become nothing is said
abbrev pub Known : Unit {0} → Type 0
Known u = Unit {0}

-- the code of an expression is so long, and its value stands where the expression says
abbrev pub IsCode : Basis → ℕ → Bool → Code → Type 0
IsCode on n kept code = (d : Draft) → GrowsOn on d n (Stands kept) (code d)

-- the same, where it is known which of the two that is
pub of_code : {on : Basis} (k b : Bool) (n : ℕ) (code : Code) → k ≡ b → IsCode on n k code → IsCode on n b code
of_code {on} k b n code e c = subst (λ x. IsCode on n x code) e c

-- a promoted constant stands in a register
no_constant : (b : Bool) (e : TExpr) → is_kept e ≡ false → word_of e ≡ None
unfolding word_of is_kept
no_constant b (T.Promote' ty p operand) h = cc
no_constant b (T.Brackets' ty p inner) h = no_constant b inner h
no_constant b _ h = refl

-- parallel operands
spread_into_by : {on : Basis} (w : Option ℕ) (code : Code) (n : ℕ) (k : Bool) (dest : Field) (d : Draft) → IsCode on n k code →
    GrowsOn on d (elim w [ Some _ ↦ 1 | None ↦ n + (if k then 1 else 0) ]) (λ (f : Field). Unit {0})
    (elim w [ Some word ↦ Makes dest (with_instr (I.MoveConstant dest (K.Imm word)) d) | None ↦ then_make (code d) (λ v after. in_a_field v dest after) ])
spread_into_by (Some word) code n k dest d h = makes _ dest d _ 1 tt (and_instr _ d d 0 (as_it_was d))
spread_into_by None code n k dest d h = bind (Stands k) _ d n _ _ _ (h d) (λ v after s. plainly (in_a_field_grows _ k v dest after s))

spread_into_grows : {on : Basis} (code : Code) (e : TExpr) (n : ℕ) (dest : Field) (d : Draft) → IsCode on n (is_kept e) code → GrowsOn on d (spread_length n e) (λ (f : Field). Unit {0}) (spread_into code e dest d)
unfolding spread_into spread_length
spread_into_grows code e n dest d h = spread_into_by (word_of e) code n (is_kept e) dest d h

spread_alone : (n : ℕ) (e : TExpr) → is_kept e ≡ false → n ≡ spread_length n e
unfolding spread_length
spread_alone n e h = by (word_of e) (is_kept e) n (no_constant true e h) h
  where
    by : (w : Option ℕ) (k : Bool) (n : ℕ) → w ≡ None → k ≡ false → n ≡ (elim w as (λ _. ℕ) [ Some _ ↦ 1 | None ↦ n + (if k then 1 else 0) ])
    by (Some x) k n e f = cc
    by None true n e f = cc
    by None false n e f = omega arith

spread_by_kept : {on : Basis} (k : Bool) (code : Code) (e : TExpr) (n set bits : ℕ) (d : Draft) → is_kept e ≡ k → IsCode on n (is_kept e) code →
    GrowsOn on d (spread_length n e) InField (if k then then_make (a_field set bits d) (λ dest between. then_make (spread_into code e dest between) (λ f after. Makes (O.Field f) after)) else code d)
spread_by_kept true code e n set bits d h c =
    sized InField d _ _ _ (nothing_more (spread_length n e)) (bind Anything InField d 0 _ _ _ (plainly (entry_grows _ _ _ _ d)) (λ dest between _.
    sized InField between _ _ _ (and_nothing (spread_length n e)) (bind (λ (f : Field). Unit {0}) InField between _ 0 _ _ (spread_into_grows code e n dest between c)
    (λ f after _. makes InField (O.Field f) after after 0 refl (as_it_was after)))))
  where
    and_nothing : (n : ℕ) → n + 0 ≡ n
    and_nothing n = omega arith
spread_by_kept false code e n set bits d h c =
    sized InField d _ _ _ (spread_alone n e h) (weaker (Stands (is_kept e)) InField d n _ (λ v s. subst (λ b. Stands b v) h s) (c d))

pub spread_by_grows : {on : Basis} (code : Code) (e : TExpr) (n set bits : ℕ) (d : Draft) → IsCode on n (is_kept e) code → GrowsOn on d (spread_length n e) InField (spread_by code e set bits d)
unfolding spread_by
spread_by_grows code e n set bits d h = spread_by_kept (is_kept e) code e n set bits d refl h

-- the right operand, as it is given
abbrev pub IsRight : Op → TExpr → Right → Type 0
IsRight op e (R.Field f) = (word_taken op e ≡ None) × (is_kept e ≡ false)
IsRight op e (R.Word (K.Imm w)) = is_some (word_taken op e) ≡ true
IsRight op e (R.Word (K.Reg r)) = (word_taken op e ≡ None) × (is_kept e ≡ true)

-- how long its code is, without the operation
abbrev pub before_length : ℕ → Op → TExpr → ℕ
before_length n op e = elim (word_taken op e) [ Some _ ↦ 0 | None ↦ n ]

abbrev pub after_length : ℕ → Op → TExpr → ℕ
after_length bits op e = elim (word_taken op e) [ Some _ ↦ if relates op then 2 + test_put_length bits else 1 | None ↦ operate_length bits op false + spare_length op (is_kept e) ]

right_out : {on : Basis} (op : Op) (e : TExpr) (v : Out) (d : Draft) → word_taken op e ≡ None → Stands (is_kept e) v → GrowsOn on d 0 (IsRight op e) (from (right_given v) (λ right. Makes right d))
unfolding right_given from
right_out op e (O.Scalar r) d h s = makes (IsRight op e) (R.Word (K.Reg r)) d d 0 (h, s) (as_it_was d)
right_out op e (O.Field f) d h s = makes (IsRight op e) (R.Field f) d d 0 (h, s) (as_it_was d)
right_out op e O.Nothing d h s = absurd s

right_by_word : {on : Basis} (w : Option ℕ) (code : Code) (n : ℕ) (op : Op) (e : TExpr) (d : Draft) → word_taken op e ≡ w → IsCode on n (is_kept e) code →
    GrowsOn on d (elim w [ Some _ ↦ 0 | None ↦ n ]) (IsRight op e)
    (elim w [ Some word ↦ Makes (R.Word (K.Imm word)) d | None ↦ then_make (code d) (λ v after. from (right_given v) (λ right. Makes right after)) ])
right_by_word (Some word) code n op e d h c = makes (IsRight op e) (R.Word (K.Imm word)) d d 0 (ap is_some h) (as_it_was d)
right_by_word None code n op e d h c =
    sized _ d _ _ _ (and_nothing n) (bind (Stands (is_kept e)) (IsRight op e) d n 0 _ _ (c d) (λ v after s. right_out op e v after h s))
  where
    and_nothing : (n : ℕ) → n + 0 ≡ n
    and_nothing n = omega arith

pub right_by_grows : {on : Basis} (code : Code) (n : ℕ) (op : Op) (e : TExpr) (d : Draft) → IsCode on n (is_kept e) code → GrowsOn on d (before_length n op e) (IsRight op e) (right_by code op e d)
unfolding right_by
right_by_grows code n op e d c = right_by_word (word_taken op e) code n op e d refl c

constant_taken : (o : Option ℕ) (k n : ℕ) → is_some o ≡ true → k ≡ (elim o as (λ _. ℕ) [ Some _ ↦ k | None ↦ n ])
constant_taken (Some w) k n h = refl
constant_taken None k n h = cc

none_taken : (o : Option ℕ) (k n : ℕ) → o ≡ None → n ≡ (elim o as (λ _. ℕ) [ Some _ ↦ k | None ↦ n ])
none_taken (Some w) k n h = cc
none_taken None k n h = refl

no_spare : (bits : ℕ) (op : Op) → operate_length bits op false ≡ operate_length bits op false + spare_length op false
unfolding spare_length
no_spare bits op = omega arith

field_operated : {on : Basis} (op : Op) (signed : Bool) (place : Place) (dest left f spare : Field) (d : Draft) →
    GrowsOn on d (operate_length dest.len op false) InField (right_operated op signed place dest left (R.Field f) spare d)
unfolding right_operated
field_operated op signed place dest left f spare d = plainly (fields_operated_grows _ op signed place dest left f d)

pub right_operated_grows : {on : Basis} (op : Op) (signed : Bool) (place : Place) (e : TExpr) (dest left : Field) (right : Right) (spare : Field) (d : Draft) → IsRight op e right →
    GrowsOn on d (after_length dest.len op e) InField (right_operated op signed place dest left right spare d)
right_operated_grows op signed place e dest left (R.Field f) spare d h =
    sized InField d _ _ _ (no_spare dest.len op ∙ ap (λ b. operate_length dest.len op false + spare_length op b) (sym h.1) ∙ none_taken (word_taken op e) _ _ h.0)
    (field_operated op signed place dest left f spare d)
right_operated_grows op signed place e dest left (R.Word (K.Imm w)) spare d h =
    sized InField d _ _ _ (constant_taken (word_taken op e) _ _ h) (plainly (number_grows _ op signed place dest left w spare d))
right_operated_grows op signed place e dest left (R.Word (K.Reg r)) spare d h =
    sized InField d _ _ _ (ap (λ b. operate_length dest.len op false + spare_length op b) (sym h.1) ∙ none_taken (word_taken op e) _ _ h.0)
    (plainly (word_grows _ op signed place dest left r spare d))

pub right_together : (bits n : ℕ) (op : Op) (e : TExpr) → before_length n op e + after_length bits op e ≡ right_length bits n op e
unfolding right_length
right_together bits n op e = by (word_taken op e) n _ _
  where
    by : (o : Option ℕ) (n k m : ℕ) → (elim o as (λ _. ℕ) [ Some _ ↦ 0 | None ↦ n ]) + (elim o as (λ _. ℕ) [ Some _ ↦ k | None ↦ m ]) ≡ (elim o as (λ _. ℕ) [ Some _ ↦ k | None ↦ n + m ])
    by (Some w) n k m = nothing_more k
    by None n k m = refl

-- binary operators
pub registers_grow : {on : Basis} (bits : ℕ) (op : Op) (signed : Bool) (place : Place) (r : ℕ) (first second : Code) (n m : ℕ) (d : Draft) → IsCode on n true first → IsCode on m true second →
    GrowsOn on d ((n + m) + operate_length bits op true) InRegister (registers_by op signed place r first second d)
unfolding registers_by
registers_grow bits op signed place r first second n m d a b =
    sized InRegister d _ _ _ (three n m (operate_length bits op true)) (bind InRegister InRegister d n _ _ _ (a d) (λ v between sv. in_register_grows _ between _ v _ sv (λ x.
    bind InRegister InRegister between m _ _ _ (b between) (λ w after sw. in_register_grows _ after _ w _ sw (λ y.
    makes InRegister (O.Scalar r) after _ _ refl (operated_more bits op signed place r x y after))))))
  where
    three : (n m k : ℕ) → n + (m + k) ≡ (n + m) + k
    three n m k = omega arith

pub fields_grow : {on : Basis} (op : Op) (signed : Bool) (place : Place) (f spare : Field) (first : Code) (left : TExpr) (n : ℕ) (second : Code) (right : TExpr) (m : ℕ) (d : Draft) →
    IsCode on n (is_kept left) first → IsCode on m (is_kept right) second →
    GrowsOn on d (spread_length n left + right_length f.len m op right) InField (fields_by op signed place f spare first left second right d)
unfolding fields_by
fields_grow op signed place f spare first left n second right m d a b =
    sized InField d _ _ _ (ap (λ x. spread_length n left + x) (right_together f.len m op right)) (bind (λ (f : Field). Unit {0}) InField d (spread_length n left) _ _ _ (spread_into_grows first left n spare d a) (λ x between _.
    bind (IsRight op right) InField between _ _ _ _ (right_by_grows second m op right between b) (λ y after sy.
    right_operated_grows op signed place right f x y spare after sy)))

-- only that of a relation depends on the bits of its result
result_length : (bits : ℕ) (op : Op) (e : TExpr) (m : ℕ) → right_length (result_bits bits op e) m op e ≡ right_length bits m op e
unfolding right_length operate_length result_bits
result_length bits op e m = by (relates op) (divides op) (word_taken op e) (operation_bits bits op e) (spare_length op (is_kept e))
  where
    by : (r v : Bool) (o : Option ℕ) (work s : ℕ) → (elim o as (λ _. ℕ) [
      | Some _ ↦ if r then 2 + test_put_length (if r then bits else work) else 1
      | None ↦ m + ((if v then 2 else (if r then 1 + test_put_length (if r then bits else work) else 1)) + s)
    ]) ≡ (elim o as (λ _. ℕ) [
      | Some _ ↦ if r then 2 + test_put_length bits else 1
      | None ↦ m + ((if v then 2 else (if r then 1 + test_put_length bits else 1)) + s)
    ])
    by true v o work s = refl
    by false v o work s = refl

spare_for_grows : {on : Basis} (op : Op) (dest : Field) (bits : ℕ) (d : Draft) → GrowsOn on d 0 Anything (spare_for op dest bits d)
unfolding spare_for
spare_for_grows {on} op dest bits d = by (relates op)
  where
    by : (b : Bool) → GrowsOn on d 0 Anything (if b then a_field dest.set bits d else Makes dest d)
    by true = plainly (entry_grows _ _ _ _ d)
    by false = makes Anything dest d d 0 tt (as_it_was d)

parallel_binary_grows : {on : Basis} (set bits : ℕ) (op : Op) (place : Place) (first : Code) (left : TExpr) (n : ℕ) (second : Code) (right : TExpr) (m : ℕ) (d : Draft) →
    IsCode on n (is_kept left) first → IsCode on m (is_kept right) second →
    GrowsOn on d (spread_length n left + right_length bits m op right) InField (parallel_binary_by set bits op place first left second right d)
unfolding parallel_binary_by
parallel_binary_grows set bits op place first left n second right m d a b =
    sized InField d _ _ _ (nothing_more _ ∙ nothing_more _) (bind (λ (f : Field). f.len ≡ result_bits bits op right) InField d 0 _ _ _ (plainly (field_grows _ _ _ d)) (λ dest begun h.
    bind Anything InField begun 0 _ _ _ (spare_for_grows op dest _ begun) (λ spare between _. lowest_grows false bits between _ _
    (sized InField between _ _ _ (ap (λ (x : ℕ). spread_length n left + right_length x m op right) h ∙ ap (λ (x : ℕ). spread_length n left + x) (result_length bits op right m))
    (fields_grow op _ place dest spare first left n second right m between a b)))))

pub binary_grows : {on : Basis} (shape : Option ℕ) (bits : ℕ) (op : Op) (place : Place) (first : Code) (left : TExpr) (n : ℕ) (second : Code) (right : TExpr) (m : ℕ) (d : Draft) →
    (is_none shape ≡ true → is_kept left ≡ true) → (is_none shape ≡ true → is_kept right ≡ true) → IsCode on n (is_kept left) first → IsCode on m (is_kept right) second →
    GrowsOn on d (binary_length (is_none shape) bits op n left m right) (Stands (is_none shape)) (binary_by shape bits op place first left second right d)
unfolding binary_by binary_length
binary_grows None bits op place first left n second right m d lk rk a b =
    sized InRegister d _ _ _ (nothing_more _) (bind Anything InRegister d 0 _ _ _ (plainly (register_grows _ d)) (λ r after _. registers_grow bits op _ place r first second n m after (of_code _ true n first (lk refl) a) (of_code _ true m second (rk refl) b)))
binary_grows (Some set) bits op place first left n second right m d lk rk a b = parallel_binary_grows set bits op place first left n second right m d a b

-- jumps and narrower contexts
jump_more : (is_or : Bool) (test target n : ℕ) (d e : Draft) → Extended d n e → Extended d (n + 1) (jump_if_decided is_or test target e)
unfolding jump_if_decided
jump_more true test target n d e x = and_instr _ d e n x
jump_more false test target n d e x = and_instr _ d e n x

narrowed_more : (is_or : Bool) (set n : ℕ) (d e : Draft) → Extended d n e → Extended d (n + 1) (narrowed_by is_or set e)
unfolding narrowed_by
narrowed_more true set n d e x = and_instr _ d e n x
narrowed_more false set n d e x = and_instr _ d e n x

decided_grows : {on : Basis} (is_or : Bool) (v : Out) (n own : ℕ) (d : Draft) → InRegister v → GrowsOn on d 1 (λ (m : ℕ). Unit {0}) (decided is_or v n own d)
unfolding decided
decided_grows is_or v n own d s = in_register_grows _ d 1 v _ s (λ a. makes _ _ d _ 1 tt (jump_more is_or a _ 0 d d (as_it_was d)))

limited_grows : {on : Basis} (saved : Field) (v : Out) (d : Draft) → InField v → GrowsOn on d 3 (λ (f : Field). Unit {0}) (limited saved v d)
unfolding limited
limited_grows saved v d s = in_field_grows _ d 3 v _ s (λ a. makes _ a d _ 3 tt (narrowed_more false _ 2 d _ (and_instr _ d _ 1 (and_instr _ d d 0 (as_it_was d)))))

logical_ended_grows : {on : Basis} (is_or : Bool) (dest : ℕ) (w : Out) (end : ℕ) (d : Draft) → InRegister w → GrowsOn on d 2 InRegister (logical_ended is_or dest w end d)
unfolding logical_ended
logical_ended_grows is_or dest w end d s = in_register_grows _ d 2 w _ s (λ b. makes InRegister (O.Scalar dest) d _ 2 refl (and_instr _ d _ 1 (jump_more is_or b _ 0 d d (as_it_was d))))

scalar_logical_grows : {on : Basis} (is_or : Bool) (first second : Code) (n m : ℕ) (d : Draft) → IsCode on n true first → IsCode on m true second →
    GrowsOn on d ((n + m) + 4) InRegister (scalar_logical_by is_or first second m d)
unfolding scalar_logical_by
scalar_logical_grows is_or first second n m d a b =
    sized InRegister d _ _ _ (sum n m) (bind InRegister InRegister d 1 (n + (1 + (m + 2))) _ _ (plainly (constant_grows _ _ d)) (λ out begun so. in_register_grows _ begun _ out _ so (λ dest.
    bind InRegister InRegister begun n _ _ _ (a begun) (λ v between sv. bind (λ (k : ℕ). Unit {0}) InRegister between 1 _ _ _ (decided_grows is_or v m 3 between sv) (λ end next _.
    bind InRegister InRegister next m 2 _ _ (b next) (λ w after sw. logical_ended_grows is_or dest w end after sw))))))
  where
    sum : (n m : ℕ) → 1 + (n + (1 + (m + 2))) ≡ (n + m) + 4
    sum n m = omega arith

-- tests
abbrev pub IsTest : Basis → ℕ → Test → Type 0
IsTest on n test = (d : Draft) → GrowsOn on d n Known (test d)

nonzero_grows : {on : Basis} (n : ℕ) (code : Code) → IsCode on n false code → IsTest on (n + 1) (nonzero_tested code)
unfolding nonzero_tested
nonzero_grows n code c d =
    bind InField Known d n 1 _ _ (c d) (λ v after s. in_field_grows _ after 1 v _ s (λ source. makes Known tt after _ 1 tt (and_instr _ after after 0 (as_it_was after))))

pub zero_grows : {on : Basis} (n : ℕ) (code : Code) → IsCode on n false code → IsTest on (n + 1) (zero_tested code)
unfolding zero_tested
zero_grows n code c d =
    bind InField Known d n 1 _ _ (c d) (λ v after s. in_field_grows _ after 1 v _ s (λ source. makes Known tt after _ 1 tt (and_instr _ after after 0 (as_it_was after))))

pub tested_by_grows : {on : Basis} (b : Bool) (m n : ℕ) (truth : Test) (code : Code) → (b ≡ true → IsTest on m truth) → IsCode on n false code → IsTest on (if b then m else n + 1) (tested_by b truth code)
unfolding tested_by
tested_by_grows true m n truth code f c d = f refl d
tested_by_grows false m n truth code f c d = nonzero_grows n code c d

-- relations
-- a relation is one of the machine
abbrev Relates : Machine → Type 0
Relates (M.Operate act) = ⊥
Relates (M.Compare relation) = Unit {0}

relation_is : (op : Op) (signed : Bool) → relates op ≡ true → Relates (machine_of op signed)
unfolding relates machine_of
relation_is P.Eq signed r = tt
relation_is P.Ne signed r = tt
relation_is P.Lt signed r = tt
relation_is P.Le signed r = tt
relation_is P.Gt signed r = tt
relation_is P.Ge signed r = tt
relation_is _ signed r = cc

compared_word : {on : Basis} (m : Machine) (left spare : Field) (word : _) (d : Draft) → Relates m → GrowsOn on d 2 Known (compared m left (R.Word word) spare d)
unfolding compared
compared_word (M.Operate act) left spare word d r = absurd r
compared_word (M.Compare relation) left spare word d r = makes Known tt d _ 2 tt (and_instr _ d _ 1 (and_instr _ d d 0 (as_it_was d)))

compared_field : {on : Basis} (m : Machine) (left right spare : Field) (d : Draft) → Relates m → GrowsOn on d 1 Known (compared m left (R.Field right) spare d)
unfolding compared
compared_field (M.Operate act) left right spare d r = absurd r
compared_field (M.Compare relation) left right spare d r = makes Known tt d _ 1 tt (and_instr _ d d 0 (as_it_was d))

two_if_taken : (o : Option ℕ) (n : ℕ) → is_some o ≡ true → 2 ≡ (elim o as (λ _. ℕ) [ Some _ ↦ 2 | None ↦ n ])
two_if_taken (Some w) n h = refl
two_if_taken None n h = cc

rest_if_none : (o : Option ℕ) (n m : ℕ) → o ≡ None → n ≡ m → n ≡ (elim o as (λ _. ℕ) [ Some _ ↦ 2 | None ↦ m ])
rest_if_none (Some w) n m h e = cc
rest_if_none None n m h e = e

-- the comparison behind its operands
ending_length : Op → TExpr → ℕ
ending_length op e = elim (word_taken op e) as (λ _. ℕ) [ Some _ ↦ 2 | None ↦ spare_length op (is_kept e) + 1 ]

spared : (op : Op) (k : Bool) → relates op ≡ true → spare_length op k ≡ (if k then 1 else 0)
unfolding spare_length
spared op true h = ap (λ (b : Bool). if b || divides op then 1 else 0) h
spared op false h = refl

compared_grows : {on : Basis} (op : Op) (m : Machine) (e : TExpr) (left : Field) (right : Right) (spare : Field) (d : Draft) → relates op ≡ true → Relates m → IsRight op e right →
    GrowsOn on d (ending_length op e) Known (compared m left right spare d)
unfolding ending_length
compared_grows op m e left (R.Field f) spare d r q h =
    sized _ d _ _ _ (rest_if_none (word_taken op e) 1 _ h.0 (sym (ap (λ (n : ℕ). n + 1) (spared op (is_kept e) r ∙ ap (λ (b : Bool). if b then 1 else 0) h.1)))) (compared_field m left f spare d q)
compared_grows op m e left (R.Word (K.Imm w)) spare d r q h = sized _ d _ _ _ (two_if_taken (word_taken op e) _ h) (compared_word m left spare _ d q)
compared_grows op m e left (R.Word (K.Reg x)) spare d r q h =
    sized _ d _ _ _ (rest_if_none (word_taken op e) 2 _ h.0 (sym (ap (λ (n : ℕ). n + 1) (spared op (is_kept e) r ∙ ap (λ (b : Bool). if b then 1 else 0) h.1)))) (compared_word m left spare _ d q)

compared_together : (n : ℕ) (op : Op) (e : TExpr) → before_length n op e + ending_length op e ≡ compared_length n op e
unfolding ending_length compared_length
compared_together n op e = by (word_taken op e) n _
  where
    by : (o : Option ℕ) (n m : ℕ) → (elim o as (λ _. ℕ) [ Some _ ↦ 0 | None ↦ n ]) + (elim o as (λ _. ℕ) [ Some _ ↦ 2 | None ↦ m ]) ≡ (elim o as (λ _. ℕ) [ Some _ ↦ 2 | None ↦ n + m ])
    by (Some w) n m = refl
    by None n m = refl

pub relation_grows : {on : Basis} (set : ℕ) (op : Op) (n m : ℕ) (first second : Code) (left right : TExpr) → relates op ≡ true → IsCode on n (is_kept left) first → IsCode on m (is_kept right) second →
    IsTest on (spread_length n left + compared_length m op right) (relation_by set op first left second right)
unfolding relation_by
relation_grows set op n m first second left right r a b d =
    sized _ d _ _ _ (nothing_more _ ∙ ap (λ (x : ℕ). spread_length n left + x) (compared_together m op right))
    (bind Anything Known d 0 _ _ _ (plainly (entry_grows _ _ _ _ d)) (λ spare begun _. bind (λ (f : Field). Unit {0}) Known begun _ _ _ _ (spread_into_grows first left n spare begun a) (λ x between _.
    bind (IsRight op right) Known between _ _ _ _ (right_by_grows second m op right between b) (λ y after s. compared_grows op (machine_of op (reads_signed op left right)) right x y spare after r (relation_is op _ r) s))))

-- the test flag as a value
pub truth_put_grows : {on : Basis} (dest : Field) (test : Test) (n : ℕ) (d : Draft) → IsTest on n test → GrowsOn on d (n + test_put_length dest.len) InField (truth_put dest test d)
unfolding truth_put
truth_put_grows dest test n d a = bind Known InField d n _ _ _ (a d) (λ _ after _. plainly (test_grows _ dest after))

-- `&&` and `||` with a parallel operand
decided_by_grows : {on : Basis} (is_or : Bool) (dest : Field) (first : Code) (second : Test) (n m : ℕ) (d : Draft) → IsCode on n true first → IsTest on m second →
    GrowsOn on d (n + (1 + (m + test_put_length dest.len))) InField (decided_by is_or dest first second m d)
unfolding decided_by
decided_by_grows is_or dest first second n m d a b =
    bind InRegister InField d n _ _ _ (a d) (λ v between s. bind (λ (x : ℕ). Unit {0}) InField between 1 _ _ _ (decided_grows is_or v m _ between s)
    (λ _ next _. truth_put_grows dest second m next b))

jumped_grows : {on : Basis} (is_or : Bool) (w : Out) (d : Draft) → InRegister w → GrowsOn on d 1 Known (jumped is_or w d)
unfolding jumped
jumped_grows is_or w d s = in_register_grows _ d 1 w _ s (λ b. makes Known tt d _ 1 tt (jump_more is_or b _ 0 d d (as_it_was d)))

second_grows : {on : Basis} (is_or kept : Bool) (set m t : ℕ) (code : Code) (test : Test) → IsCode on m kept code → (kept ≡ false → IsTest on t test) →
    IsTest on (if kept then m + 1 else t + 1) (if kept then jumped_over is_or code else narrowed_again is_or set test)
unfolding jumped_over narrowed_again
second_grows is_or true set m t code test a b d = bind InRegister Known d m 1 _ _ (a d) (λ w after s. jumped_grows is_or w after s)
second_grows is_or false set m t code test a b d =
    bind Known Known d t 1 _ _ (b refl d) (λ _ after _. makes Known tt after _ 1 tt (narrowed_more is_or set 0 after after (as_it_was after)))

limited_by_grows : {on : Basis} (is_or : Bool) (dest saved : Field) (first next : Test) (n m : ℕ) (d : Draft) → IsTest on n first → IsTest on m next →
    GrowsOn on d (n + ((2 + m) + 2)) InField (limited_by is_or dest saved first next d)
unfolding limited_by
limited_by_grows is_or dest saved first next n m d a b =
    bind Known InField d n _ _ _ (a d) (λ _ known _. bind Known InField known (2 + m) 2 _ _
    (behind Known known _ 2 m _ (narrowed_more is_or _ 1 known _ (and_instr _ known known 0 (as_it_was known))) (b _))
    (λ _ after _. makes InField (O.Field dest) after _ 2 refl (and_instr _ after _ 1 (and_instr _ after after 0 (as_it_was after)))))

logical_rest : {on : Basis} (is_or lk rk : Bool) (dest saved : Field) (first second : Code) (first_test second_test : Test) (n nt m mt : ℕ) (d : Draft) → IsCode on n lk first → (lk ≡ false → IsTest on nt first_test) → IsCode on m rk second → (rk ≡ false → IsTest on mt second_test) → (lk ≡ true → rk ≡ false) →
    GrowsOn on d (if lk then (n + mt) + (1 + test_put_length dest.len) else (nt + (if rk then m else mt)) + 5) InField
    (if lk then decided_by is_or dest first second_test mt d else limited_by is_or dest saved first_test (if rk then jumped_over is_or second else narrowed_again is_or dest.set second_test) d)
logical_rest is_or true rk dest saved first second first_test second_test n nt m mt d a at b bt f =
    sized InField d _ _ _ (sum n mt (test_put_length dest.len)) (decided_by_grows is_or dest first second_test n mt d a (bt (f refl)))
  where
    sum : (n m put : ℕ) → n + (1 + (m + put)) ≡ (n + m) + (1 + put)
    sum n m put = omega arith
logical_rest is_or false rk dest saved first second first_test second_test n nt m mt d a at b bt f =
    sized InField d _ _ _ (sum rk nt m mt) (limited_by_grows is_or dest saved first_test _ nt _ d (at refl) (second_grows is_or rk dest.set m mt second second_test b bt))
  where
    sum : (rk : Bool) (n m t : ℕ) → n + ((2 + (if rk then m + 1 else t + 1)) + 2) ≡ (n + (if rk then m else t)) + 5
    sum true n m t = omega arith
    sum false n m t = omega arith

pub record IsCondition (on : Basis) (c : Condition) : Type 0 where
  pub code : IsCode on c.long (is_kept c.operand) c.code
  pub test : is_kept c.operand ≡ false → IsTest on c.tested_long c.test

narrowing_grows : {on : Basis} (is_or : Bool) (dest : Field) (left right : Condition) (d : Draft) → IsCondition on left → IsCondition on right → (is_kept left.operand ≡ true → is_kept right.operand ≡ false) →
    GrowsOn on d (if is_kept left.operand then (left.long + right.tested_long) + (2 + test_put_length dest.len) else (left.tested_long + (if is_kept right.operand then right.long else right.tested_long)) + 6) InField
    (narrowing_by is_or dest left right d)
unfolding narrowing_by
narrowing_grows is_or dest left right d a b f =
    sized InField d _ _ _ (sum (is_kept left.operand) (is_kept right.operand) left.long left.tested_long right.long right.tested_long (test_put_length dest.len))
    (bind Anything InField d 0 _ _ _ (plainly (entry_grows _ _ _ _ d)) (λ saved next _.
    behind InField next _ 1 _ _ (and_instr _ next next 0 (as_it_was next))
    (logical_rest is_or (is_kept left.operand) (is_kept right.operand) dest saved left.code right.code left.test right.test left.long left.tested_long right.long right.tested_long _ a.code a.test b.code b.test f)))
  where
    sum : (lk rk : Bool) (n nt m mt put : ℕ) → 0 + (1 + (if lk then (n + mt) + (1 + put) else (nt + (if rk then m else mt)) + 5)) ≡ (if lk then (n + mt) + (2 + put) else (nt + (if rk then m else mt)) + 6)
    sum true rk n nt m mt put = omega arith
    sum false true n nt m mt put = omega arith
    sum false false n nt m mt put = omega arith

-- an operand as a field of one bit, and the operation on two
flag_grows : {on : Basis} (set : ℕ) (c : Condition) (d : Draft) → IsCondition on c → is_kept c.operand ≡ false → GrowsOn on d (flag_length c.long c.tested_long c.operand) Anything (flag_of set c d)
unfolding flag_of flag_by flag_length
flag_grows {on} set c d h k = by (is_flag c.operand)
  where
    and_nothing : (n : ℕ) → n + 0 ≡ n
    and_nothing n = omega arith

    by : (one : Bool) → GrowsOn on d (if one then c.long else c.tested_long + 1) Anything
        (if one then then_make (c.code d) (λ v after. in_field v (λ f. Makes f after))
        else then_make (c.test d) (λ _ between. then_make (a_flag set between) (λ f after. Makes f (with_instr (I.StoreTest f) after))))
    by true = sized Anything d _ _ _ (and_nothing c.long) (bind InField Anything d c.long 0 _ _ (of_code _ false c.long c.code k h.code d) (λ v after s.
        in_field_grows Anything after 0 v _ s (λ f. makes Anything f after after 0 tt (as_it_was after))))
    by false = bind Known Anything d c.tested_long 1 _ _ (h.test k d) (λ _ between _. bind Anything Anything between 0 1 _ _ (plainly (entry_grows _ _ _ _ between)) (λ f after _.
        makes Anything f after _ 1 tt (and_instr _ after after 0 (as_it_was after))))

joined_grows : {on : Basis} (is_or : Bool) (dest f g : Field) (d : Draft) → GrowsOn on d (test_put_length dest.len) InField (joined is_or dest f g d)
unfolding joined cleared test_put_length
joined_grows {on} is_or dest f g d = by (dest.len == 1)
  where
    by : (one : Bool) → GrowsOn on d (if one then 1 else 2) InField
        (Makes (O.Field dest) (with_instr (I.Operate (operation_of is_or) (first_bits 1 dest) f g) (if one then d else with_instr (I.MoveConstant dest (K.Imm 0)) d)))
    by true = makes InField (O.Field dest) d _ 1 refl (and_instr _ d d 0 (as_it_was d))
    by false = makes InField (O.Field dest) d _ 2 refl (and_instr _ d _ 1 (and_instr _ d d 0 (as_it_was d)))

pub joined_by_grows : {on : Basis} (is_or : Bool) (dest : Field) (left right : Condition) (d : Draft) → IsCondition on left → IsCondition on right → is_kept left.operand ≡ false → is_kept right.operand ≡ false →
    GrowsOn on d (joined_length dest.len left.operand right.operand left.long right.long left.tested_long right.tested_long) InField (joined_by is_or dest left right d)
unfolding joined_by joined_length
joined_by_grows is_or dest left right d a b lk rk =
    sized InField d _ _ _ (sum (flag_length left.long left.tested_long left.operand) (flag_length right.long right.tested_long right.operand) (test_put_length dest.len))
    (bind Anything InField d _ _ _ _ (flag_grows dest.set left d a lk) (λ f between _. bind Anything InField between _ _ _ _ (flag_grows dest.set right between b rk) (λ g after _.
    joined_grows is_or dest f g after)))
  where
    sum : (n m put : ℕ) → n + (m + put) ≡ (n + m) + put
    sum n m put = omega arith

-- what is joined stands in fields
pub joined_fields : (left right : TExpr) → joins left right ≡ true → (is_kept left ≡ false) × (is_kept right ≡ false)
unfolding joins
joined_fields left right h = by (is_kept left) (is_kept right) _ h
  where
    by : (l r i : Bool) → (not l && not r && i) ≡ true → (l ≡ false) × (r ≡ false)
    by false false i h = (refl, refl)
    by true r i h = cc
    by false true i h = cc

parallel_logical_grows : {on : Basis} (is_or : Bool) (dest : Field) (left right : Condition) (d : Draft) → IsCondition on left → IsCondition on right → (is_kept left.operand ≡ true → is_kept right.operand ≡ false) →
    GrowsOn on d (parallel_logical_length dest.len left.operand right.operand left.long right.long left.tested_long right.tested_long) InField (parallel_logical_by is_or dest left right d)
unfolding parallel_logical_by parallel_logical_length
parallel_logical_grows is_or dest left right d a b f =
    either_grows InField (joins left.operand right.operand) d _ _ _ _ (λ j. let k = joined_fields left.operand right.operand j in joined_by_grows is_or dest left right d a b k.0 k.1)
    (λ _. narrowing_grows is_or dest left right d a b f)

pub logical_grows : {on : Basis} (is_or : Bool) (shape : Option ℕ) (bits : ℕ) (left right : Condition) (d : Draft) → IsCondition on left → IsCondition on right →
    (is_none shape ≡ true → is_kept left.operand ≡ true) → (is_none shape ≡ true → is_kept right.operand ≡ true) → (is_none shape ≡ false → is_kept left.operand ≡ true → is_kept right.operand ≡ false) →
    GrowsOn on d (logical_length (is_none shape) bits left.operand right.operand left.long right.long left.tested_long right.tested_long) (Stands (is_none shape)) (logical_by is_or shape bits left right d)
unfolding logical_by logical_length
logical_grows is_or None bits left right d a b lk rk f =
    scalar_logical_grows is_or left.code right.code left.long right.long d (of_code _ true left.long left.code (lk refl) a.code) (of_code _ true right.long right.code (rk refl) b.code)
logical_grows is_or (Some set) bits left right d a b lk rk f =
    sized InField d _ _ _ (nothing_more _) (bind (λ (f : Field). f.len ≡ bits) InField d 0 _ _ _ (plainly (field_grows _ _ _ d)) (λ dest begun h.
    sized InField begun _ _ _ (ap (λ (n : ℕ). parallel_logical_length n left.operand right.operand left.long right.long left.tested_long right.tested_long) h)
    (parallel_logical_grows is_or dest left right begun a b (f refl))))

-- arms of `?:`
abbrev pub IsArm : Basis → ℕ → Bool → Arm → Type 0
IsArm on n k arm = (dest : Out) (d : Draft) → Stands k dest → GrowsOn on d n (Stands k) (arm dest d)

pub word_put_grows : {on : Basis} (k : Bool) (dest : Out) (word : ℕ) (d : Draft) → Stands k dest → GrowsOn on d 1 (Stands k) (word_put dest word d)
unfolding word_put
word_put_grows k (O.Scalar r) word d s = makes (Stands k) (O.Scalar r) d _ 1 s (and_instr _ d d 0 (as_it_was d))
word_put_grows k (O.Field f) word d s = makes (Stands k) (O.Field f) d _ 1 s (and_instr _ d d 0 (as_it_was d))
word_put_grows k O.Nothing word d s = absurd s

arm_in : {on : Basis} (o : Option ℕ) (k ke : Bool) (dest : Out) (n : ℕ) (code : Code) (d : Draft) → IsCode on n ke code → (k ≡ true → ke ≡ true) → Stands k dest →
    GrowsOn on d (if not (is_none o) then 1 else n + 1) (Stands k) (elim o as (λ _. Made Out) [ Some word ↦ word_put dest word d | None ↦ then_make (code d) (λ v after. put_value dest v after) ])
arm_in (Some w) k ke dest n code d c f s = word_put_grows k dest w d s
arm_in None k ke dest n code d c f s = bind (Stands ke) (Stands k) d n 1 _ _ (c d) (λ v after g. plainly (put_value_grows _ k ke dest v after s g f))

pub arm_grows : {on : Basis} (k ke : Bool) (e : TExpr) (n : ℕ) (code : Code) → (k ≡ true → ke ≡ true) → IsCode on n ke code → IsArm on (arm_length k n e) k (arm_by code e)
unfolding arm_by arm_length has_word word_for
arm_grows true ke e n code f c (O.Scalar r) d s = arm_in (register_word e) true ke (O.Scalar r) n code d c f refl
arm_grows false ke e n code f c (O.Field g) d s = arm_in (word_of e) false ke (O.Field g) n code d c f refl
arm_grows true ke e n code f c (O.Field g) d s = cc
arm_grows false ke e n code f c (O.Scalar r) d s = cc
arm_grows k ke e n code f c O.Nothing d s = absurd s

-- `?:`
pub scalar_choice_grows : {on : Basis} (k : Bool) (dest : Out) (test : Code) (first second : Arm) (i n m : ℕ) (d : Draft) → Stands k dest → IsCode on i true test → IsArm on n k first → IsArm on m k second →
    GrowsOn on d ((i + (n + m)) + 2) (Stands k) (scalar_choice_by dest test first second n m d)
unfolding scalar_choice_by
scalar_choice_grows k dest test first second i n m d s c a b =
    sized (Stands k) d _ _ _ (sum i n m) (bind InRegister (Stands k) d i _ _ _ (c d) (λ v begun sv. bind (λ (x : ℕ). Unit {0}) (Stands k) begun 1 _ _ _ (decided_grows false v n 2 begun sv) (λ other next _.
    bind (Stands k) (Stands k) next n (1 + m) _ _ (a dest next s) (λ _ half _. behind (Stands k) half _ 1 m _ (and_instr _ half half 0 (as_it_was half)) (b dest _ s)))))
  where
    sum : (i n m : ℕ) → i + (1 + (n + (1 + m))) ≡ (i + (n + m)) + 2
    sum i n m = omega arith

turned_over_more : (saved condition : Field) (d : Draft) → Extended d 3 (turned_over saved condition d)
unfolding turned_over
turned_over_more saved condition d = narrowed_more true _ 2 d _ (and_instr _ d _ 1 (and_instr _ d d 0 (as_it_was d)))

parallel_choice_grows : {on : Basis} (dest : Out) (test : Code) (first second : Arm) (i n m : ℕ) (d : Draft) → InField dest → IsCode on i false test → IsArm on n false first → IsArm on m false second →
    GrowsOn on d ((i + (n + m)) + 7) InField (parallel_choice_by dest test first second d)
unfolding parallel_choice_by
parallel_choice_grows dest test first second i n m d s c a b =
    in_field_grows _ d _ dest _ s (λ f. sized InField d _ _ _ (sum i n m) (bind Anything InField d 0 _ _ _ (plainly (entry_grows _ _ _ _ d)) (λ saved begun _.
    bind InField InField begun i _ _ _ (c begun) (λ v next sv. bind (λ (x : Field). Unit {0}) InField next 3 _ _ _ (limited_grows saved v next sv) (λ condition third _.
    bind InField InField third n _ _ _ (a dest third s) (λ _ fourth _. bind InField InField fourth (3 + m) 1 _ _
    (behind InField fourth _ 3 m _ (turned_over_more saved condition fourth) (b dest _ s)) (λ _ last _. makes InField dest last _ 1 s (and_instr _ last last 0 (as_it_was last)))))))))
  where
    sum : (i n m : ℕ) → 0 + (i + (3 + (n + ((3 + m) + 1)))) ≡ (i + (n + m)) + 7
    sum i n m = omega arith

-- a condition of a scalar one stands in a register
choice_rest : {on : Basis} (k kt : Bool) (dest : Out) (test : Code) (first second : Arm) (i n m : ℕ) (d : Draft) → (k ≡ true → kt ≡ true) → Stands k dest → IsCode on i kt test → IsArm on n k first → IsArm on m k second →
    GrowsOn on d ((i + (n + m)) + choice_length kt) (Stands k) (if kt then scalar_choice_by dest test first second n m d else parallel_choice_by dest test first second d)
unfolding choice_length
choice_rest k true dest test first second i n m d f s c a b = scalar_choice_grows k dest test first second i n m d s c a b
choice_rest false false dest test first second i n m d f s c a b = parallel_choice_grows dest test first second i n m d s c a b
choice_rest true false dest test first second i n m d f s c a b = let e = f refl in cc

pub choice_grows : {on : Basis} (ty : ValueType) (bits : ℕ) (kt : Bool) (test : Code) (first second : Arm) (i n m : ℕ) (d : Draft) → (is_none ty.shape ≡ true → kt ≡ true) → IsCode on i kt test → IsArm on n (is_none ty.shape) first → IsArm on m (is_none ty.shape) second →
    GrowsOn on d ((i + (n + m)) + choice_length kt) (Stands (is_none ty.shape)) (choice_by ty bits kt test first second n m d)
unfolding choice_by
choice_grows ty bits kt test first second i n m d f c a b =
    sized _ d _ _ _ (nothing_more _) (bind (Stands (is_none ty.shape)) _ d 0 _ _ _ (plainly (fresh_grows _ ty.shape bits d)) (λ dest after s. choice_rest (is_none ty.shape) kt dest test first second i n m after f s c a b))

-- casts, unary operators, coordinates
casts_more : (elems : List Elem) (r : ℕ) (d : Draft) → Extended d (length elems) (casts_put elems r d)
unfolding casts_put
casts_more [] r d = as_it_was d
casts_more (kind ∷ inner) r d = resized d _ _ _ (one (length inner)) (and_instr _ d _ _ (casts_more inner r d))
  where
    one : (n : ℕ) → n + 1 ≡ suc n
    one n = omega arith

pub casts_grow : {on : Basis} (elems : List Elem) (v : Out) (d : Draft) → InRegister v → GrowsOn on d (length elems) InRegister (in_register v (λ r. Makes v (casts_put elems r d)))
casts_grow elems v d s = in_register_grows _ d _ v _ s (λ r. makes InRegister v d _ _ s (casts_more elems r d))

-- a conversion of a parallel value to a field, and one in a register
pub extended_grows : {on : Basis} (signed : Bool) (dest : Field) (code : Code) (n : ℕ) (d : Draft) → IsCode on n false code → GrowsOn on d (n + 1) InField (extended signed dest code d)
unfolding extended
extended_grows signed dest code n d c =
    bind InField InField d n 1 _ _ (c d) (λ v after s. in_field_grows _ after 1 v _ s (λ source. makes InField (O.Field dest) after _ 1 refl (and_instr _ after after 0 (as_it_was after))))

pub cast_by_grows : {on : Basis} (set bits : ℕ) (elem : Elem) (test : Test) (own whole : Code) (i n m : ℕ) (d : Draft) → IsTest on i test → IsCode on n false own → IsCode on m false whole →
    GrowsOn on d (if elem.bits == 1 then i + test_put_length bits else (if nat_lt elem.bits bits then n + 1 else m)) InField (cast_by set bits elem test own whole d)
unfolding cast_by
cast_by_grows {on} set bits elem test own whole i n m d a b c = by (elem.bits == 1) (nat_lt elem.bits bits)
  where
    by : (one less : Bool) → GrowsOn on d (if one then i + test_put_length bits else (if less then n + 1 else m)) InField
        (if one then then_make (a_field set bits d) (λ dest begun. truth_put dest test begun)
        else (if less then then_make (a_field set bits d) (λ dest begun. extended elem.signed dest own begun) else whole d))
    by true less =
        sized InField d _ _ _ (nothing_more _) (bind (λ (f : Field). f.len ≡ bits) InField d 0 _ _ _ (plainly (field_grows _ set bits d)) (λ dest begun h.
        sized InField begun _ _ _ (ap (λ (k : ℕ). i + test_put_length k) h) (truth_put_grows dest test i begun a)))
    by false true = sized InField d _ _ _ (nothing_more _) (bind Anything InField d 0 _ _ _ (plainly (entry_grows _ _ _ _ d)) (λ dest begun _. extended_grows elem.signed dest own n begun b))
    by false false = c d

pub register_cast_grows : {on : Basis} (elem : Elem) (code : Code) (n : ℕ) (d : Draft) → IsCode on n true code → GrowsOn on d (n + conversion_length true elem) InRegister (register_cast_by elem code d)
unfolding register_cast_by
register_cast_grows elem code n d c = bind InRegister InRegister d n _ _ _ (c d) (λ v after s. plainly (register_in_place_grows _ v elem after s))

plus_length : (l : Layout) (bits : ℕ) (op : UnaryOp) (k : Bool) (n : ℕ) → is_plus op ≡ true → n ≡ n + unary_length l bits op k
unfolding is_plus unary_length
plus_length l bits Un.Plus k n h = omega arith
plus_length l bits Un.Minus k n h = cc
plus_length l bits Un.Complement k n h = cc
plus_length l bits Un.Not k n h = cc

unary_rest : {on : Basis} (b : Bool) (l : Layout) (ty : ValueType) (bits : ℕ) (op : UnaryOp) (k : Bool) (code operand : Code) (n m : ℕ) (d : Draft) → is_plus op ≡ b → is_none ty.shape ≡ k → IsCode on n k code → IsCode on m k operand →
    GrowsOn on d ((if b then n else m) + unary_length l bits op k) (Stands k) (if b then code d else then_make (fresh_for ty.shape bits d) (λ dest between. then_make (operand between) (λ v after. negated l op dest v after)))
unary_rest true l ty bits op k code operand n m d h e c o = sized _ d _ _ _ (plus_length l bits op k n h) (c d)
unary_rest false l ty bits op k code operand n m d h e c o =
    sized _ d _ _ _ (nothing_more _) (bind (IsAt k bits) _ d 0 _ _ _ (fresh_as k ty.shape bits d e) (λ dest between s.
    bind (Stands k) _ between m _ _ _ (o between) (λ v after t. plainly (negated_grows _ l bits op k dest v after h s t))))

-- the operand of `+` is the value, and that of another operator may stand where it is
pub unary_grows : {on : Basis} (plus : Bool) (l : Layout) (ty : ValueType) (bits : ℕ) (op : UnaryOp) (k : Bool) (code operand : Code) (n m : ℕ) (d : Draft) → is_plus op ≡ plus → is_none ty.shape ≡ k → IsCode on n k code → IsCode on m k operand →
    GrowsOn on d ((if plus then n else m) + unary_length l bits op k) (Stands k) (unary_by l ty bits op code operand d)
unfolding unary_by
unary_grows plus l ty bits op k code operand n m d is h c o =
    sized _ d _ _ _ (ap (λ (b : Bool). (if b then n else m) + unary_length l bits op k) is) (unary_rest (is_plus op) l ty bits op k code operand n m d refl h c o)

pub coordinate_grows : {on : Basis} (shape : Option ℕ) (bits axis : ℕ) (d : Draft) → GrowsOn on d 1 InField (coordinate_in shape bits axis d)
unfolding coordinate_in
coordinate_grows shape bits axis d = bind Anything InField d 0 1 _ _ (plainly (entry_grows _ _ _ _ d)) (λ f after _. makes InField (O.Field f) after _ 1 refl (and_instr _ after after 0 (as_it_was after)))

pub byte_grows : {on : Basis} (d : Draft) → GrowsOn on d 1 InRegister (byte_in d)
unfolding byte_in
byte_grows d = bind Anything InRegister d 0 1 _ _ (plainly (register_grows _ d)) (λ r after _. makes InRegister (O.Scalar r) after _ 1 refl (and_instr _ after after 0 (as_it_was after)))
