-- Short stretches of code are as long as described.
use Rattle.std.proofs.Common.{◌≡◌, ℕ, suc, ◌+◌, ◌≤◌, ◌-◌, Bool, true, false, not, ◌==◌, List, [], ◌∷◌, length, Option, Some, None, refl, arith, if◌then◌else◌, ap}
use Rattle.std.specs.Prelude.{nat_lt}
use Rattle.std.specs.List.{All}
use Rattle.std.proofs.lemmas.List.Elements.{All-head, All-tail}
use Rattle.cstar_base.specs.declared.elem.Elem.{Elem}
use Rattle.cstar_base.specs.declared.operators.Op.{Op}
use Rattle.cstar_base.specs.declared.operators.Op.TheVariants as P
use Rattle.cstar_base.specs.declared.operators.Place.{Place}
use Rattle.cstar_base.specs.Operators.{divides}
use Rattle.cstar_base.proofs.NumberLaws.{kind_bits}
use Rattle.cstar_tree.specs.declared.typed.Piece.{Piece}
use Rattle.cstar_tree.specs.declared.typed.Piece.TheVariants as Pc
use Rattle.cstar_tree.specs.declared.typed.UnaryOp.{UnaryOp}
use Rattle.cstar_tree.specs.declared.typed.UnaryOp.TheVariants as Un
use Rattle.cstar_tree.specs.Formats.{conversions}
use Rattle.paris_code.specs.declared.instr.Instr.TheVariants as I
use Rattle.paris_code.specs.declared.operands.Field.{Field}
use Rattle.paris_code.specs.declared.operands.Konst.{Konst}
use Rattle.paris_code.specs.declared.operands.Konst.TheVariants as K
use Rattle.paris_code.specs.declared.operands.Operation.TheVariants as Act
use Rattle.lower_base.specs.declared.emit.Out.{Out}
use Rattle.lower_base.specs.declared.emit.Out.TheVariants as O
use Rattle.lower_base.specs.declared.operators.Machine.{Machine}
use Rattle.lower_base.specs.declared.operators.Machine.TheVariants as M
use Rattle.lower_base.specs.Constants.{constant_register, word_in, word_length}
use Rattle.lower_base.specs.Drafts.{Draft, Made, Makes, then_make, with_instr, a_register, a_flag, in_register}
use Rattle.lower_base.specs.Layouts.{Layout}
use Rattle.lower_base.specs.Operators.{machine_of, relates}
use Rattle.lower_expr.specs.declared.steps.Right.TheVariants as R
use Rattle.lower_expr.specs.Steps.{constant_in, put_test, field_converted, converted_in_place, put_in_field, put_value, with_register_check, with_field_check, on_registers, operated, on_fields, fields_operated, takes_word, on_word, right_operated, in_a_field, register_negated, field_negated, negated, pieces_printed, shifted_back}
use Rattle.lower_expr.specs.Lengths.{conversion_length, test_put_length, unary_length, operate_length, spare_length}
use Rattle.lower_expr.specs.Operands.{is_plus}
use Rattle.code_lengths.specs.Growth.{Extended, GrowsOr, Stands, Anything}
use Rattle.code_lengths.proofs.Drafting.{IsAt, nothing_more, as_it_was, resized, and_instr, makes, sized, behind, bind, in_register_grows, in_field_grows, register_grows, entry_grows}

-- a value that stands in a register, or in a field
abbrev pub InRegister : Out → Type 0
InRegister v = Stands true v

abbrev pub InField : Out → Type 0
InField v = Stands false v

pub constant_grows : (lacks : Type 0) (value : ℕ) (d : Draft) → GrowsOr lacks d 1 InRegister (constant_in value d)
unfolding constant_in
constant_grows lacks value d =
    bind lacks Anything InRegister d 0 1 _ _ (register_grows lacks d) (λ r e _. makes lacks InRegister (O.Scalar r) e _ 1 refl (and_instr _ e e 0 (as_it_was e)))

-- a number in a register, where it stands or in a fresh one
word_by : (lacks : Type 0) (o : Option ℕ) (word : ℕ) (d : Draft) → GrowsOr lacks d (elim o as (λ _. ℕ) [ Some _ ↦ 0 | None ↦ 1 ]) Anything (elim o as (λ _. Made ℕ) [
  | Some r ↦ Makes r d
  | None ↦ then_make (a_register d) (λ r after. Makes r (with_instr (I.FrontConst r word) after))
])
word_by lacks (Some r) word d = makes lacks Anything r d d 0 tt (as_it_was d)
word_by lacks None word d = bind lacks Anything Anything d 0 1 _ _ (register_grows lacks d) (λ r after _. makes lacks Anything r after _ 1 tt (and_instr _ after after 0 (as_it_was after)))

pub word_in_grows : (lacks : Type 0) (l : Layout) (word : ℕ) (d : Draft) → GrowsOr lacks d (word_length l word) Anything (word_in l word d)
unfolding word_in word_length
word_in_grows lacks l word d = word_by lacks (constant_register l word) word d

-- the test flag goes to a field of one bit at once
pub test_grows : (lacks : Type 0) (dest : Field) (d : Draft) → GrowsOr lacks d (test_put_length dest.len) InField (put_test dest d)
unfolding put_test test_put_length
test_grows lacks dest d = by (dest.len == 1)
  where
    by : (b : Bool) → GrowsOr lacks d (if b then 1 else 2) InField (if b then Makes (O.Field dest) (with_instr (I.StoreTest dest) d)
        else then_make (a_flag dest.set d) (λ kept after. Makes (O.Field dest) (with_instr (I.Move false dest kept) (with_instr (I.StoreTest kept) after))))
    by true = makes lacks InField (O.Field dest) d _ 1 refl (and_instr _ d d 0 (as_it_was d))
    by false =
        bind lacks Anything InField d 0 2 _ _ (entry_grows lacks _ _ _ d)
        (λ kept e _. makes lacks InField (O.Field dest) e _ 2 refl (and_instr _ e _ 1 (and_instr _ e e 0 (as_it_was e))))

pub test_put : (lacks : Type 0) (bits : ℕ) (dest : Field) (d : Draft) → dest.len ≡ bits → GrowsOr lacks d (test_put_length bits) InField (put_test dest d)
test_put lacks bits dest d h = sized lacks InField d _ _ _ (ap test_put_length h) (test_grows lacks dest d)

-- a width is 32, or narrower
below_32 : (n : ℕ) → n ≤ 32 → (b : Bool) → (n == 32) ≡ b → (nat_lt n 32 ≡ not b)
below_32 n h b e = grind (arith, h, e)

pub width : (elem : Elem) → nat_lt elem.bits 32 ≡ not (elem.bits == 32)
width elem = below_32 elem.bits (kind_bits elem.bits elem.signed elem.kind).1 (elem.bits == 32) refl

in_place_by : (lacks : Type 0) (b : Bool) (r : ℕ) (elem : Elem) (d : Draft) → GrowsOr lacks d (if b then 0 else 1) InRegister (Makes (O.Scalar r) (if not b then with_instr (I.FrontConvert r r elem) d else d))
in_place_by lacks true r elem d = makes lacks InRegister (O.Scalar r) d d 0 refl (as_it_was d)
in_place_by lacks false r elem d = makes lacks InRegister (O.Scalar r) d _ 1 refl (and_instr _ d d 0 (as_it_was d))

one_is_narrow : (n : ℕ) → (n == 1) ≡ true → (n == 32) ≡ false
one_is_narrow n e = grind (arith, e)

word_test : test_put_length 32 ≡ 2
unfolding test_put_length
word_test = refl

field_by : (lacks : Type 0) (one full : Bool) (f : Field) (elem : Elem) (d : Draft) → f.len ≡ 32 → (one ≡ true → full ≡ false) →
    GrowsOr lacks d (if full then 0 else (if one then 3 else 2)) InField
    (if one then put_test f (with_instr (I.NeZero f) d) else (if not full then Makes (O.Field f)
    (with_instr (I.OperateConstant (shifted_back elem.signed) f f (K.Imm (32 - elem.bits)))
    (with_instr (I.OperateConstant Act.UShiftLeft f f (K.Imm (32 - elem.bits))) d)) else Makes (O.Field f) d))
field_by lacks true true f elem d w h = absurd (no (h refl))
  where
    no : true ≡ false → ⊥
    no e = cc
field_by lacks true false f elem d w h = behind lacks InField d _ 1 2 _ (and_instr _ d d 0 (as_it_was d)) (sized lacks InField _ _ _ _ word_test (test_put lacks 32 f _ w))
field_by lacks false true f elem d w h = makes lacks InField (O.Field f) d d 0 refl (as_it_was d)
field_by lacks false false f elem d w h = makes lacks InField (O.Field f) d _ 2 refl (and_instr _ d _ 1 (and_instr _ d d 0 (as_it_was d)))

-- what stands in a register, and what stands in a field of 32 bits
pub register_in_place_grows : (lacks : Type 0) (v : Out) (elem : Elem) (d : Draft) → InRegister v → GrowsOr lacks d (conversion_length true elem) InRegister (converted_in_place v elem d)
unfolding converted_in_place conversion_length GrowsOr
register_in_place_grows lacks (O.Scalar r) elem d s = rw (width elem) (in_place_by lacks (elem.bits == 32) r elem d)
register_in_place_grows lacks (O.Field f) elem d s = cc
register_in_place_grows lacks O.Nothing elem d s = absurd s

field_in_place_grows : (lacks : Type 0) (f : Field) (elem : Elem) (d : Draft) → f.len ≡ 32 → GrowsOr lacks d (conversion_length false elem) InField (converted_in_place (O.Field f) elem d)
unfolding converted_in_place conversion_length field_converted
field_in_place_grows lacks f elem d w = rw (width elem) (field_by lacks (elem.bits == 1) (elem.bits == 32) f elem d w (one_is_narrow elem.bits))

pub in_place_grows : (lacks : Type 0) (k : Bool) (v : Out) (elem : Elem) (d : Draft) → IsAt k 32 v → GrowsOr lacks d (conversion_length k elem) (Stands k) (converted_in_place v elem d)
in_place_grows lacks true (O.Scalar r) elem d s = register_in_place_grows lacks (O.Scalar r) elem d refl
in_place_grows lacks false (O.Field f) elem d s = field_in_place_grows lacks f elem d s.1
in_place_grows lacks false (O.Scalar r) elem d s = cc
in_place_grows lacks true (O.Field f) elem d s = let h = s.0 in cc
in_place_grows lacks k O.Nothing elem d s = absurd s

-- copies: to a field from anywhere, and to a register from one
pub put_in_field_grows : (lacks : Type 0) (kept : Bool) (dest : Field) (v : Out) (d : Draft) → Stands kept v → GrowsOr lacks d 1 InField (put_in_field dest v d)
unfolding put_in_field GrowsOr
put_in_field_grows lacks kept dest (O.Scalar r) d s = (refl, and_instr _ d d 0 (as_it_was d))
put_in_field_grows lacks kept dest (O.Field f) d s = (refl, and_instr _ d d 0 (as_it_was d))
put_in_field_grows lacks kept dest O.Nothing d s = absurd s

pub put_value_grows : (lacks : Type 0) (k kept : Bool) (dest v : Out) (d : Draft) → Stands k dest → Stands kept v → (k ≡ true → kept ≡ true) → GrowsOr lacks d 1 (Stands k) (put_value dest v d)
unfolding put_value in_register GrowsOr
put_value_grows lacks true kept (O.Scalar r) (O.Scalar q) d s sv h = (refl, and_instr _ d d 0 (as_it_was d))
put_value_grows lacks true true (O.Scalar r) (O.Field f) d s sv h = cc
put_value_grows lacks true false (O.Scalar r) (O.Field f) d s sv h = let e = h refl in cc
put_value_grows lacks true kept (O.Scalar r) O.Nothing d s sv h = absurd sv
put_value_grows lacks true kept (O.Field f) v d s sv h = cc
put_value_grows lacks false kept (O.Scalar r) v d s sv h = cc
put_value_grows lacks false kept (O.Field f) v d s sv h = put_in_field_grows lacks kept f v d sv
put_value_grows lacks k kept O.Nothing v d s sv h = absurd s

-- binary operators
check_by : (b : Bool) (op : Op) (place : Place) (r : ℕ) (d : Draft) → Extended d (if b then 1 else 0) (if b then with_instr (I.FrontCheckDivisor place r) d else d)
check_by true op place r d = and_instr _ d d 0 (as_it_was d)
check_by false op place r d = as_it_was d

field_check_by : (b : Bool) (op : Op) (place : Place) (r : Field) (d : Draft) → Extended d (if b then 1 else 0) (if b then with_instr (I.CheckDivisor place r) d else d)
field_check_by true op place r d = and_instr _ d d 0 (as_it_was d)
field_check_by false op place r d = as_it_was d

on_registers_more : (m : Machine) (dest left right n : ℕ) (d e : Draft) → Extended d n e → Extended d (n + 1) (on_registers m dest left right e)
unfolding on_registers
on_registers_more (M.Operate act) dest left right n d e x = and_instr _ d e n x
on_registers_more (M.Compare relation) dest left right n d e x = and_instr _ d e n x

one_or_two : (b : Bool) → (if b then 1 else 0) + 1 ≡ (if b then 2 else 1)
one_or_two true = refl
one_or_two false = refl

pub operated_more : (bits : ℕ) (op : Op) (signed : Bool) (place : Place) (dest left right : ℕ) (d : Draft) → Extended d (operate_length bits op true) (operated op signed place dest left right d)
unfolding operated operate_length with_register_check
operated_more bits op signed place dest left right d =
    resized d _ _ _ (one_or_two (divides op)) (on_registers_more (machine_of op signed) dest left right _ d _ (check_by (divides op) op place right d))

machine_length : ℕ → Machine → ℕ
machine_length bits (M.Operate act) = 1
machine_length bits (M.Compare relation) = 1 + test_put_length bits

on_fields_grows : (lacks : Type 0) (m : Machine) (dest left right : Field) (d : Draft) → GrowsOr lacks d (machine_length dest.len m) InField (on_fields m dest left right d)
unfolding on_fields machine_length
on_fields_grows lacks (M.Operate act) dest left right d = makes lacks InField (O.Field dest) d _ 1 refl (and_instr _ d d 0 (as_it_was d))
on_fields_grows lacks (M.Compare relation) dest left right d = behind lacks InField d _ 1 _ _ (and_instr _ d d 0 (as_it_was d)) (test_grows lacks dest _)

fields_length : (bits : ℕ) (op : Op) (signed : Bool) → (if divides op then 1 else 0) + machine_length bits (machine_of op signed) ≡ operate_length bits op false
unfolding divides relates operate_length machine_of machine_length
fields_length bits P.Eq signed = nothing_more _
fields_length bits P.Ne signed = nothing_more _
fields_length bits P.Lt signed = nothing_more _
fields_length bits P.Le signed = nothing_more _
fields_length bits P.Gt signed = nothing_more _
fields_length bits P.Ge signed = nothing_more _
fields_length bits P.Div signed = refl
fields_length bits P.Rem signed = refl
fields_length bits P.Mod signed = refl
fields_length bits _ signed = refl

pub fields_operated_grows : (lacks : Type 0) (op : Op) (signed : Bool) (place : Place) (dest left right : Field) (d : Draft) → GrowsOr lacks d (operate_length dest.len op false) InField (fields_operated op signed place dest left right d)
unfolding fields_operated with_field_check
fields_operated_grows lacks op signed place dest left right d =
    sized lacks InField d _ _ _ (fields_length dest.len op signed) (behind lacks InField d _ _ _ _ (field_check_by (divides op) op place right d) (on_fields_grows lacks (machine_of op signed) dest left right _))

-- an operand that stands in a register
relation_on_word : (lacks : Type 0) (relation : _) (dest left spare : Field) (word : Konst) (d : Draft) →
    GrowsOr lacks d (2 + test_put_length dest.len) InField (on_fields (M.Compare relation) dest left spare (with_instr (I.MoveConstant spare word) d))
unfolding machine_length
relation_on_word lacks relation dest left spare word d =
    sized lacks InField d _ _ _ (two_and _) (behind lacks InField d _ 1 _ _ (and_instr _ d d 0 (as_it_was d)) (on_fields_grows lacks (M.Compare relation) dest left spare _))
  where
    two_and : (n : ℕ) → 1 + (1 + n) ≡ 2 + n
    two_and n = omega arith

relation_on_register : (lacks : Type 0) (relation : _) (dest left spare : Field) (word : Konst) (d : Draft) →
    GrowsOr lacks d ((1 + test_put_length dest.len) + 1) InField (on_fields (M.Compare relation) dest left spare (with_instr (I.MoveConstant spare word) d))
relation_on_register lacks relation dest left spare word d = sized lacks InField d _ _ _ (one_and_one _) (relation_on_word lacks relation dest left spare word d)
  where
    one_and_one : (n : ℕ) → 2 + n ≡ (1 + n) + 1
    one_and_one n = omega arith

divided : (lacks : Type 0) (act : _) (place : Place) (dest left spare : Field) (word : Konst) (d : Draft) →
    GrowsOr lacks d 3 InField (on_fields (M.Operate act) dest left spare (with_instr (I.CheckDivisor place spare) (with_instr (I.MoveConstant spare word) d)))
unfolding machine_length
divided lacks act place dest left spare word d =
    behind lacks InField d _ 2 1 _ (and_instr _ d _ 1 (and_instr _ d d 0 (as_it_was d))) (on_fields_grows lacks (M.Operate act) dest left spare _)

pub word_grows : (lacks : Type 0) (op : Op) (signed : Bool) (place : Place) (dest left : Field) (r : ℕ) (spare : Field) (d : Draft) →
    GrowsOr lacks d (operate_length dest.len op false + spare_length op true) InField (right_operated op signed place dest left (R.Word (K.Reg r)) spare d)
unfolding right_operated on_word machine_of operate_length spare_length relates divides takes_word with_field_check
word_grows lacks P.Eq signed place dest left r spare d = relation_on_register lacks _ dest left spare (K.Reg r) d
word_grows lacks P.Ne signed place dest left r spare d = relation_on_register lacks _ dest left spare (K.Reg r) d
word_grows lacks P.Lt signed place dest left r spare d = relation_on_register lacks _ dest left spare (K.Reg r) d
word_grows lacks P.Le signed place dest left r spare d = relation_on_register lacks _ dest left spare (K.Reg r) d
word_grows lacks P.Gt signed place dest left r spare d = relation_on_register lacks _ dest left spare (K.Reg r) d
word_grows lacks P.Ge signed place dest left r spare d = relation_on_register lacks _ dest left spare (K.Reg r) d
word_grows lacks P.Div signed place dest left r spare d = divided lacks _ place dest left spare (K.Reg r) d
word_grows lacks P.Rem signed place dest left r spare d = divided lacks _ place dest left spare (K.Reg r) d
word_grows lacks P.Mod signed place dest left r spare d = divided lacks _ place dest left spare (K.Reg r) d
word_grows lacks _ signed place dest left r spare d = makes lacks InField (O.Field dest) d _ 1 refl (and_instr _ d d 0 (as_it_was d))

pub number_grows : (lacks : Type 0) (op : Op) (signed : Bool) (place : Place) (dest left : Field) (w : ℕ) (spare : Field) (d : Draft) →
    GrowsOr lacks d (if relates op then 2 + test_put_length dest.len else 1) InField (right_operated op signed place dest left (R.Word (K.Imm w)) spare d)
unfolding right_operated on_word machine_of relates divides takes_word with_field_check
number_grows lacks P.Eq signed place dest left w spare d = relation_on_word lacks _ dest left spare (K.Imm w) d
number_grows lacks P.Ne signed place dest left w spare d = relation_on_word lacks _ dest left spare (K.Imm w) d
number_grows lacks P.Lt signed place dest left w spare d = relation_on_word lacks _ dest left spare (K.Imm w) d
number_grows lacks P.Le signed place dest left w spare d = relation_on_word lacks _ dest left spare (K.Imm w) d
number_grows lacks P.Gt signed place dest left w spare d = relation_on_word lacks _ dest left spare (K.Imm w) d
number_grows lacks P.Ge signed place dest left w spare d = relation_on_word lacks _ dest left spare (K.Imm w) d
number_grows lacks _ signed place dest left w spare d = makes lacks InField (O.Field dest) d _ 1 refl (and_instr _ d d 0 (as_it_was d))

pub in_a_field_grows : (lacks : Type 0) (k : Bool) (v : Out) (spare : Field) (d : Draft) → Stands k v → GrowsOr lacks d (if k then 1 else 0) Anything (in_a_field v spare d)
unfolding in_a_field GrowsOr
in_a_field_grows lacks true (O.Scalar r) spare d s = (tt, and_instr _ d d 0 (as_it_was d))
in_a_field_grows lacks false (O.Scalar r) spare d s = cc
in_a_field_grows lacks true (O.Field f) spare d s = cc
in_a_field_grows lacks false (O.Field f) spare d s = (tt, as_it_was d)
in_a_field_grows lacks k O.Nothing spare d s = absurd s

-- unary operators, of which `+` has no code
register_negated_grows : (lacks : Type 0) (l : Layout) (bits : ℕ) (op : UnaryOp) (dest source : ℕ) (d : Draft) → is_plus op ≡ false → GrowsOr lacks d (unary_length l bits op true) InRegister (register_negated l op dest source d)
unfolding unary_length register_negated is_plus GrowsOr
register_negated_grows lacks l bits Un.Plus dest source d o = cc
register_negated_grows lacks l bits Un.Minus dest source d o = (refl, and_instr _ d d 0 (as_it_was d))
register_negated_grows lacks l bits Un.Complement dest source d o = (refl, and_instr _ d d 0 (as_it_was d))
register_negated_grows lacks l bits Un.Not dest source d o =
    bind lacks Anything InRegister d (word_length l 0) 1 _ _ (word_in_grows lacks l 0 d) (λ zero e _. makes lacks InRegister (O.Scalar dest) e _ 1 refl (and_instr _ e e 0 (as_it_was e)))

field_negated_grows : (lacks : Type 0) (l : Layout) (bits : ℕ) (op : UnaryOp) (dest source : Field) (d : Draft) → is_plus op ≡ false → dest.len ≡ bits → GrowsOr lacks d (unary_length l bits op false) InField (field_negated op dest source d)
unfolding unary_length field_negated is_plus GrowsOr
field_negated_grows lacks l bits Un.Plus dest source d o h = cc
field_negated_grows lacks l bits Un.Minus dest source d o h = (refl, and_instr _ d d 0 (as_it_was d))
field_negated_grows lacks l bits Un.Complement dest source d o h = (refl, and_instr _ d d 0 (as_it_was d))
field_negated_grows lacks l bits Un.Not dest source d o h = behind lacks InField d _ 1 _ _ (and_instr _ d d 0 (as_it_was d)) (test_put lacks bits dest _ h)

pub negated_grows : (lacks : Type 0) (l : Layout) (bits : ℕ) (op : UnaryOp) (k : Bool) (dest v : Out) (d : Draft) → is_plus op ≡ false → IsAt k bits dest → Stands k v → GrowsOr lacks d (unary_length l bits op k) (Stands k) (negated l op dest v d)
unfolding negated
negated_grows lacks l bits op true (O.Scalar r) v d o s t = in_register_grows lacks InRegister d _ v _ t (λ q. register_negated_grows lacks l bits op r q d o)
negated_grows lacks l bits op false (O.Scalar r) v d o s t = cc
negated_grows lacks l bits op true (O.Field f) v d o s t = let h = s.0 in cc
negated_grows lacks l bits op false (O.Field f) v d o s t = in_field_grows lacks InField d _ v _ t (λ g. field_negated_grows lacks l bits op f g d o s.1)
negated_grows lacks l bits op k O.Nothing v d o s t = absurd s

-- printing
pub one_and : (n : ℕ) → 1 + n ≡ suc n
one_and n = omega arith

none_less : (n : ℕ) → 1 + n ≡ 0 → ⊥
none_less n h = omega (arith, h)

one_less : (n m : ℕ) → 1 + n ≡ suc m → n ≡ m
one_less n m h = omega (arith, h)

-- each conversion has a value, in a register
pub printed_grows : (lacks : Type 0) (pieces : List Piece) (values : List Out) (d : Draft) → conversions pieces ≡ length values → All InRegister values →
    GrowsOr lacks d (length pieces) (λ (v : Out). v ≡ O.Nothing) (pieces_printed pieces values d)
unfolding pieces_printed conversions
printed_grows lacks [] values d h s = makes lacks _ O.Nothing d d 0 refl (as_it_was d)
printed_grows lacks (Pc.Bytes bytes ∷ rest) values d h s =
    sized lacks _ d _ _ _ (one_and (length rest)) (behind lacks _ d _ 1 (length rest) _ (and_instr _ d d 0 (as_it_was d)) (printed_grows lacks rest values _ h s))
printed_grows lacks (Pc.Argument format ∷ rest) [] d h s = absurd (none_less _ h)
printed_grows lacks (Pc.Argument format ∷ rest) (v ∷ values) d h s =
    in_register_grows lacks _ d _ v _ (All-head InRegister v values s)
    (λ r. sized lacks _ d _ _ _ (one_and (length rest)) (behind lacks _ d _ 1 (length rest) _ (and_instr _ d d 0 (as_it_was d)) (printed_grows lacks rest values _ (one_less _ _ h) (All-tail InRegister v values s))))
