-- What is read of the row of an instruction is what it holds, and no blank and no newline stands in
-- its words.
use Rattle.std.proofs.Common.{◌≡◌, Bool, true, false, [], ◌++◌, refl, ap, ap₂, ◌∙◌}
use Rattle.std.specs.Prelude.{codes}
use Rattle.paris_code.specs.declared.operands.Operation.{Operation}
use Rattle.paris_code.specs.declared.operands.Operation.TheVariants as P
use Rattle.paris_code.specs.declared.operands.Compare.{Compare}
use Rattle.paris_code.specs.declared.operands.Compare.TheVariants as R
use Rattle.paris_code.specs.declared.operands.Reduction.{Reduction}
use Rattle.paris_code.specs.declared.operands.Reduction.TheVariants as F
use Rattle.cstar_base.specs.declared.formats.NumberFormat.{NumberFormat}
use Rattle.cstar_base.specs.declared.formats.NumberFormat.TheVariants as N
use Rattle.paris_code.specs.declared.instr.Instr.{Instr}
use Rattle.paris_code.specs.declared.instr.Instr.TheVariants as I
use Rattle.paris_code.specs.Mnemonics.{sign_name, operation_name, relation_name, reduction_name, format_name, mnemonic_of}
use Rattle.paris_code.specs.Listing.{operands_of, register_text, coordinate_text, checked_text, checked_register_text, step_text, mode_text, bit_text, inclusion_text}
use Rattle.lower_base.specs.Drafts.{step}
use Rattle.plain_listings.specs.Contents.{IsWord, CoordinateHasWords, CheckedHasWords, RegisterHasWords, StepHasWords, InstrHasWords}
use Rattle.lower_base.specs.Drafts.Step.{Plain, MakesAddress, ChecksTarget, ChecksGrid, FrontMakesAddress, FrontChecksTarget}
use Rattle.plain_listings.proofs.Cuts.{only_append}
use Rattle.plain_listings.proofs.Numbers.{is_solid}
use Rattle.plain_listings.proofs.OperandTexts.{Solid, AreSolid, all_back, all_solid, field_back, konst_back, marked_back, place_back, kind_back, direction_back, mode_back, inclusion_back, bit_back, bytes_back, coordinate_back, checked_back, step_back, checked_register_back, field_solid, konst_solid, marked_solid, place_solid, kind_solid, direction_solid, mode_solid, inclusion_solid, bit_solid, bytes_solid, coordinate_solid, checked_solid, step_solid, checked_register_solid, coordinate_in, checked_in, step_in, checked_register_in, marked_in, mode_in, bit_in, inclusion_in}
use Rattle.plain_listings.proofs.Table.{instruction_in, reads_move, reads_move_constant, reads_move_zero_always, reads_move_always, reads_my_news_coordinate, reads_make_address, reads_operate, reads_operate_constant, reads_negate, reads_lognot, reads_compare, reads_eq_zero, reads_ne_zero, reads_load_test, reads_store_test, reads_load_context, reads_store_context, reads_set_context, reads_logand_context_with_test, reads_logandc_context_with_test, reads_check_target, reads_check_grid, reads_check_divisor, reads_get_from_news, reads_get_from_news_always, reads_get, reads_send_with_overwrite, reads_send_with_combiner, reads_global, reads_scan, reads_read_from_processor, reads_write_to_processor, reads_front_const, reads_front_move, reads_front_operate, reads_front_compare, reads_front_negate, reads_front_lognot, reads_front_convert, reads_front_make_address, reads_front_check_target, reads_front_check_divisor, reads_front_jump, reads_front_jump_zero, reads_front_jump_nonzero, reads_front_turn, reads_front_call, reads_front_return, reads_front_put_bytes, reads_front_put, reads_front_get_byte, reads_front_halt}

-- a function of three and of four equal arguments
ap₃ : {A B C D : Type 0} (f : A → B → C → D) {a x : A} {b y : B} {c z : C} → a ≡ x → b ≡ y → c ≡ z → f a b c ≡ f x y z
ap₃ f {a} {x} {b} {y} {c} {z} p q r = ap₂ (λ u v. f u v c) p q ∙ ap (f x y) r

ap₄ : {A B C D E : Type 0} (f : A → B → C → D → E) {a x : A} {b y : B} {c z : C} {d w : D} → a ≡ x → b ≡ y → c ≡ z → d ≡ w → f a b c d ≡ f x y z w
ap₄ f {a} {x} {b} {y} {c} {z} {d} {w} p q r s = ap₂ (λ u v. f u v c d) p q ∙ ap₂ (f x y) r s

pub instr_back : (i : Instr) → InstrHasWords i → instruction_in (mnemonic_of i) (operands_of i) ≡ step i
unfolding InstrHasWords mnemonic_of operands_of step
instr_back (I.Move signed d a) h = reads_move signed _ ∙ ap₂ (λ x y. Plain (I.Move signed x y)) (field_back d h.0) (field_back a h.1)
instr_back (I.MoveConstant d k) h = reads_move_constant _ ∙ ap₂ (λ x y. Plain (I.MoveConstant x y)) (field_back d h.0) (konst_back k h.1)
instr_back (I.MoveZeroAlways d) h = reads_move_zero_always _ ∙ ap (λ x. Plain (I.MoveZeroAlways x)) (field_back d h)
instr_back (I.MoveAlways d a) h = reads_move_always _ ∙ ap₂ (λ x y. Plain (I.MoveAlways x y)) (field_back d h.0) (field_back a h.1)
instr_back (I.MyNewsCoordinate d axis) h = reads_my_news_coordinate _ ∙ ap₂ (λ x y. Plain (I.MyNewsCoordinate x y)) (field_back d h.0) (marked_back 97 axis h.1)
instr_back (I.MakeAddress d set coordinates) h = reads_make_address _ ∙ ap₃ (λ x y z. MakesAddress x y z) (field_back d h.0) (marked_back 115 set h.1) (all_back CoordinateHasWords coordinate_text coordinate_in coordinate_back coordinates.items h.2)
instr_back (I.Operate op d a b) h = reads_operate op _ ∙ ap₃ (λ x y z. Plain (I.Operate op x y z)) (field_back d h.0) (field_back a h.1) (field_back b h.2)
instr_back (I.OperateConstant op d a k) h = reads_operate_constant op _ ∙ ap₃ (λ x y z. Plain (I.OperateConstant op x y z)) (field_back d h.0) (field_back a h.1) (konst_back k h.2)
instr_back (I.Negate d a) h = reads_negate _ ∙ ap₂ (λ x y. Plain (I.Negate x y)) (field_back d h.0) (field_back a h.1)
instr_back (I.Lognot d a) h = reads_lognot _ ∙ ap₂ (λ x y. Plain (I.Lognot x y)) (field_back d h.0) (field_back a h.1)
instr_back (I.Compare relation a b) h = reads_compare relation _ ∙ ap₂ (λ x y. Plain (I.Compare relation x y)) (field_back a h.0) (field_back b h.1)
instr_back (I.EqZero a) h = reads_eq_zero _ ∙ ap (λ x. Plain (I.EqZero x)) (field_back a h)
instr_back (I.NeZero a) h = reads_ne_zero _ ∙ ap (λ x. Plain (I.NeZero x)) (field_back a h)
instr_back (I.LoadTest a) h = reads_load_test _ ∙ ap (λ x. Plain (I.LoadTest x)) (field_back a h)
instr_back (I.StoreTest d) h = reads_store_test _ ∙ ap (λ x. Plain (I.StoreTest x)) (field_back d h)
instr_back (I.LoadContext a) h = reads_load_context _ ∙ ap (λ x. Plain (I.LoadContext x)) (field_back a h)
instr_back (I.StoreContext d) h = reads_store_context _ ∙ ap (λ x. Plain (I.StoreContext x)) (field_back d h)
instr_back (I.SetContext set) h = reads_set_context _ ∙ ap (λ x. Plain (I.SetContext x)) (marked_back 115 set h)
instr_back (I.LogandContextWithTest set) h = reads_logand_context_with_test _ ∙ ap (λ x. Plain (I.LogandContextWithTest x)) (marked_back 115 set h)
instr_back (I.LogandcContextWithTest set) h = reads_logandc_context_with_test _ ∙ ap (λ x. Plain (I.LogandcContextWithTest x)) (marked_back 115 set h)
instr_back (I.CheckTarget set place coordinates) h = reads_check_target _ ∙ ap₃ (λ x y z. ChecksTarget x y z) (marked_back 115 set h.0) (place_back place h.1) (all_back CheckedHasWords checked_text checked_in checked_back coordinates.items h.2)
instr_back (I.CheckGrid set place steps) h = reads_check_grid _ ∙ ap₃ (λ x y z. ChecksGrid x y z) (marked_back 115 set h.0) (place_back place h.1) (all_back StepHasWords step_text step_in step_back steps.items h.2)
instr_back (I.CheckDivisor place a) h = reads_check_divisor _ ∙ ap₂ (λ x y. Plain (I.CheckDivisor x y)) (place_back place h.0) (field_back a h.1)
instr_back (I.GetFromNews d a axis k) h = reads_get_from_news _ ∙ ap₄ (λ x y z w. Plain (I.GetFromNews x y z w)) (field_back d h.0) (field_back a h.1) (marked_back 97 axis h.2) (konst_back k h.3)
instr_back (I.GetFromNewsAlways d a axis k) h = reads_get_from_news_always _ ∙ ap₄ (λ x y z w. Plain (I.GetFromNewsAlways x y z w)) (field_back d h.0) (field_back a h.1) (marked_back 97 axis h.2) (konst_back k h.3)
instr_back (I.Get d address a) h = reads_get _ ∙ ap₃ (λ x y z. Plain (I.Get x y z)) (field_back d h.0) (field_back address h.1) (field_back a h.2)
instr_back (I.SendWithOverwrite d kind address a) h = reads_send_with_overwrite _ ∙ ap₄ (λ x y z w. Plain (I.SendWithOverwrite x y z w)) (field_back d h.0) (kind_back kind) (field_back address h.1) (field_back a h.2)
instr_back (I.SendWithCombiner combiner d kind address a) h = reads_send_with_combiner combiner _ ∙ ap₄ (λ x y z w. Plain (I.SendWithCombiner combiner x y z w)) (field_back d h.0) (kind_back kind) (field_back address h.1) (field_back a h.2)
instr_back (I.Global combiner r a) h = reads_global combiner _ ∙ ap₂ (λ x y. Plain (I.Global combiner x y)) (marked_back 114 r h.0) (field_back a h.1)
instr_back (I.Scan combiner d a axis direction mode bit within) h = reads_scan combiner _ ∙ ap₄ (λ x y z w. Plain (I.Scan combiner x y z w (mode_in (mode_text mode)) (bit_in (bit_text bit)) (inclusion_in (inclusion_text within)))) (field_back d h.0) (field_back a h.1) (marked_back 97 axis h.2) (direction_back direction) ∙ ap₃ (λ x y z. Plain (I.Scan combiner d a axis direction x y z)) (mode_back mode) (bit_back bit h.3) (inclusion_back within)
instr_back (I.ReadFromProcessor signed r processor a) h = reads_read_from_processor signed _ ∙ ap₃ (λ x y z. Plain (I.ReadFromProcessor signed x y z)) (marked_back 114 r h.0) (marked_back 114 processor h.1) (field_back a h.2)
instr_back (I.WriteToProcessor d processor k) h = reads_write_to_processor _ ∙ ap₃ (λ x y z. Plain (I.WriteToProcessor x y z)) (field_back d h.0) (marked_back 114 processor h.1) (konst_back k h.2)
instr_back (I.FrontConst r n) h = reads_front_const _ ∙ ap₂ (λ x y. Plain (I.FrontConst x y)) (marked_back 114 r h.0) (marked_back 35 n h.1)
instr_back (I.FrontMove r x) h = reads_front_move _ ∙ ap₂ (λ x y. Plain (I.FrontMove x y)) (marked_back 114 r h.0) (marked_back 114 x h.1)
instr_back (I.FrontOperate op r x y) h = reads_front_operate op _ ∙ ap₃ (λ x y z. Plain (I.FrontOperate op x y z)) (marked_back 114 r h.0) (marked_back 114 x h.1) (marked_back 114 y h.2)
instr_back (I.FrontCompare relation r x y) h = reads_front_compare relation _ ∙ ap₃ (λ x y z. Plain (I.FrontCompare relation x y z)) (marked_back 114 r h.0) (marked_back 114 x h.1) (marked_back 114 y h.2)
instr_back (I.FrontNegate r x) h = reads_front_negate _ ∙ ap₂ (λ x y. Plain (I.FrontNegate x y)) (marked_back 114 r h.0) (marked_back 114 x h.1)
instr_back (I.FrontLognot r x) h = reads_front_lognot _ ∙ ap₂ (λ x y. Plain (I.FrontLognot x y)) (marked_back 114 r h.0) (marked_back 114 x h.1)
instr_back (I.FrontConvert r x kind) h = reads_front_convert _ ∙ ap₃ (λ x y z. Plain (I.FrontConvert x y z)) (marked_back 114 r h.0) (marked_back 114 x h.1) (kind_back kind)
instr_back (I.FrontMakeAddress r set registers) h = reads_front_make_address _ ∙ ap₃ (λ x y z. FrontMakesAddress x y z) (marked_back 114 r h.0) (marked_back 115 set h.1) (all_back IsWord register_text marked_in (marked_back 114) registers.items h.2)
instr_back (I.FrontCheckTarget set place registers) h = reads_front_check_target _ ∙ ap₃ (λ x y z. FrontChecksTarget x y z) (marked_back 115 set h.0) (place_back place h.1) (all_back RegisterHasWords checked_register_text checked_register_in checked_register_back registers.items h.2)
instr_back (I.FrontCheckDivisor place x) h = reads_front_check_divisor _ ∙ ap₂ (λ x y. Plain (I.FrontCheckDivisor x y)) (place_back place h.0) (marked_back 114 x h.1)
instr_back (I.FrontJump target) h = reads_front_jump _ ∙ ap (λ x. Plain (I.FrontJump x)) (marked_back 64 target h)
instr_back (I.FrontJumpZero x target) h = reads_front_jump_zero _ ∙ ap₂ (λ x y. Plain (I.FrontJumpZero x y)) (marked_back 114 x h.0) (marked_back 64 target h.1)
instr_back (I.FrontJumpNonzero x target) h = reads_front_jump_nonzero _ ∙ ap₂ (λ x y. Plain (I.FrontJumpNonzero x y)) (marked_back 114 x h.0) (marked_back 64 target h.1)
instr_back I.FrontTurn h = reads_front_turn _
instr_back (I.FrontCall unit) h = reads_front_call _ ∙ ap (λ x. Plain (I.FrontCall x)) (marked_back 117 unit h)
instr_back I.FrontReturn h = reads_front_return _
instr_back (I.FrontPutBytes bytes) h = reads_front_put_bytes _ ∙ ap (λ x. Plain (I.FrontPutBytes x)) (bytes_back bytes h)
instr_back (I.FrontPut format x) h = reads_front_put format _ ∙ ap (λ x. Plain (I.FrontPut format x)) (marked_back 114 x h)
instr_back (I.FrontGetByte r) h = reads_front_get_byte _ ∙ ap (λ x. Plain (I.FrontGetByte x)) (marked_back 114 r h)
instr_back I.FrontHalt h = reads_front_halt _

-- the names in mnemonics
sign_solid : (x : Bool) → Solid (sign_name x)
sign_solid true = refl
sign_solid false = refl

operation_solid : (x : Operation) → Solid (operation_name x)
operation_solid P.SAdd = refl
operation_solid P.SSubtract = refl
operation_solid P.SMultiply = refl
operation_solid P.STruncate = refl
operation_solid P.UTruncate = refl
operation_solid P.SRem = refl
operation_solid P.URem = refl
operation_solid P.SMod = refl
operation_solid P.SMin = refl
operation_solid P.UMin = refl
operation_solid P.SMax = refl
operation_solid P.UMax = refl
operation_solid P.Logand = refl
operation_solid P.Logior = refl
operation_solid P.Logxor = refl
operation_solid P.UShiftLeft = refl
operation_solid P.SShiftRight = refl
operation_solid P.UShiftRight = refl

relation_solid : (x : Compare) → Solid (relation_name x)
relation_solid R.UEq = refl
relation_solid R.UNe = refl
relation_solid R.SLt = refl
relation_solid R.SLe = refl
relation_solid R.SGt = refl
relation_solid R.SGe = refl
relation_solid R.ULt = refl
relation_solid R.ULe = refl
relation_solid R.UGt = refl
relation_solid R.UGe = refl

reduction_solid : (x : Reduction) → Solid (reduction_name x)
reduction_solid F.SAdd = refl
reduction_solid F.Logand = refl
reduction_solid F.Logior = refl
reduction_solid F.Logxor = refl
reduction_solid F.SMin = refl
reduction_solid F.UMin = refl
reduction_solid F.SMax = refl
reduction_solid F.UMax = refl

format_solid : (x : NumberFormat) → Solid (format_name x)
format_solid N.Signed = refl
format_solid N.Unsigned = refl
format_solid N.Hexadecimal = refl
format_solid N.Octal = refl
format_solid N.Character = refl

pub mnemonic_solid : (i : Instr) → Solid (mnemonic_of i)
unfolding mnemonic_of
mnemonic_solid (I.Move signed d a) = only_append is_solid (sign_name signed) (codes "_move_2L" ++ []) (sign_solid signed) refl
mnemonic_solid (I.MoveConstant d k) = refl
mnemonic_solid (I.MoveZeroAlways d) = refl
mnemonic_solid (I.MoveAlways d a) = refl
mnemonic_solid (I.MyNewsCoordinate d axis) = refl
mnemonic_solid (I.MakeAddress d set coordinates) = refl
mnemonic_solid (I.Operate op d a b) = only_append is_solid (operation_name op) (codes "_3_1L" ++ []) (operation_solid op) refl
mnemonic_solid (I.OperateConstant op d a k) = only_append is_solid (operation_name op) (codes "_constant_3_1L" ++ []) (operation_solid op) refl
mnemonic_solid (I.Negate d a) = refl
mnemonic_solid (I.Lognot d a) = refl
mnemonic_solid (I.Compare relation a b) = only_append is_solid (relation_name relation) (codes "_1L" ++ []) (relation_solid relation) refl
mnemonic_solid (I.EqZero a) = refl
mnemonic_solid (I.NeZero a) = refl
mnemonic_solid (I.LoadTest a) = refl
mnemonic_solid (I.StoreTest d) = refl
mnemonic_solid (I.LoadContext a) = refl
mnemonic_solid (I.StoreContext d) = refl
mnemonic_solid (I.SetContext set) = refl
mnemonic_solid (I.LogandContextWithTest set) = refl
mnemonic_solid (I.LogandcContextWithTest set) = refl
mnemonic_solid (I.CheckTarget set place coordinates) = refl
mnemonic_solid (I.CheckGrid set place steps) = refl
mnemonic_solid (I.CheckDivisor place a) = refl
mnemonic_solid (I.GetFromNews d a axis k) = refl
mnemonic_solid (I.GetFromNewsAlways d a axis k) = refl
mnemonic_solid (I.Get d address a) = refl
mnemonic_solid (I.SendWithOverwrite d kind address a) = refl
mnemonic_solid (I.SendWithCombiner combiner d kind address a) = only_append is_solid (reduction_name combiner) (codes "_1L" ++ []) (reduction_solid combiner) refl
mnemonic_solid (I.Global combiner r a) = only_append is_solid (reduction_name combiner) (codes "_1L" ++ []) (reduction_solid combiner) refl
mnemonic_solid (I.Scan combiner d a axis direction mode bit within) = only_append is_solid (reduction_name combiner) (codes "_1L" ++ []) (reduction_solid combiner) refl
mnemonic_solid (I.ReadFromProcessor signed r processor a) = only_append is_solid (sign_name signed) (codes "_read_from_processor_1L" ++ []) (sign_solid signed) refl
mnemonic_solid (I.WriteToProcessor d processor k) = refl
mnemonic_solid (I.FrontConst r n) = refl
mnemonic_solid (I.FrontMove r x) = refl
mnemonic_solid (I.FrontOperate op r x y) = only_append is_solid (operation_name op) [] (operation_solid op) refl
mnemonic_solid (I.FrontCompare relation r x y) = only_append is_solid (relation_name relation) [] (relation_solid relation) refl
mnemonic_solid (I.FrontNegate r x) = refl
mnemonic_solid (I.FrontLognot r x) = refl
mnemonic_solid (I.FrontConvert r x kind) = refl
mnemonic_solid (I.FrontMakeAddress r set registers) = refl
mnemonic_solid (I.FrontCheckTarget set place registers) = refl
mnemonic_solid (I.FrontCheckDivisor place x) = refl
mnemonic_solid (I.FrontJump target) = refl
mnemonic_solid (I.FrontJumpZero x target) = refl
mnemonic_solid (I.FrontJumpNonzero x target) = refl
mnemonic_solid I.FrontTurn = refl
mnemonic_solid (I.FrontCall unit) = refl
mnemonic_solid I.FrontReturn = refl
mnemonic_solid (I.FrontPutBytes bytes) = refl
mnemonic_solid (I.FrontPut format x) = only_append is_solid (format_name format) [] (format_solid format) refl
mnemonic_solid (I.FrontGetByte r) = refl
mnemonic_solid I.FrontHalt = refl

pub operands_solid : (i : Instr) → InstrHasWords i → AreSolid (operands_of i)
unfolding InstrHasWords operands_of
operands_solid (I.Move signed d a) h = (field_solid d h.0, (field_solid a h.1, tt))
operands_solid (I.MoveConstant d k) h = (field_solid d h.0, (konst_solid k h.1, tt))
operands_solid (I.MoveZeroAlways d) h = (field_solid d h, tt)
operands_solid (I.MoveAlways d a) h = (field_solid d h.0, (field_solid a h.1, tt))
operands_solid (I.MyNewsCoordinate d axis) h = (field_solid d h.0, (marked_solid 97 axis refl h.1, tt))
operands_solid (I.MakeAddress d set coordinates) h = (field_solid d h.0, (marked_solid 115 set refl h.1, all_solid CoordinateHasWords coordinate_text coordinate_solid coordinates.items h.2))
operands_solid (I.Operate op d a b) h = (field_solid d h.0, (field_solid a h.1, (field_solid b h.2, tt)))
operands_solid (I.OperateConstant op d a k) h = (field_solid d h.0, (field_solid a h.1, (konst_solid k h.2, tt)))
operands_solid (I.Negate d a) h = (field_solid d h.0, (field_solid a h.1, tt))
operands_solid (I.Lognot d a) h = (field_solid d h.0, (field_solid a h.1, tt))
operands_solid (I.Compare relation a b) h = (field_solid a h.0, (field_solid b h.1, tt))
operands_solid (I.EqZero a) h = (field_solid a h, tt)
operands_solid (I.NeZero a) h = (field_solid a h, tt)
operands_solid (I.LoadTest a) h = (field_solid a h, tt)
operands_solid (I.StoreTest d) h = (field_solid d h, tt)
operands_solid (I.LoadContext a) h = (field_solid a h, tt)
operands_solid (I.StoreContext d) h = (field_solid d h, tt)
operands_solid (I.SetContext set) h = (marked_solid 115 set refl h, tt)
operands_solid (I.LogandContextWithTest set) h = (marked_solid 115 set refl h, tt)
operands_solid (I.LogandcContextWithTest set) h = (marked_solid 115 set refl h, tt)
operands_solid (I.CheckTarget set place coordinates) h = (marked_solid 115 set refl h.0, (place_solid place h.1, all_solid CheckedHasWords checked_text checked_solid coordinates.items h.2))
operands_solid (I.CheckGrid set place steps) h = (marked_solid 115 set refl h.0, (place_solid place h.1, all_solid StepHasWords step_text step_solid steps.items h.2))
operands_solid (I.CheckDivisor place a) h = (place_solid place h.0, (field_solid a h.1, tt))
operands_solid (I.GetFromNews d a axis k) h = (field_solid d h.0, (field_solid a h.1, (marked_solid 97 axis refl h.2, (konst_solid k h.3, tt))))
operands_solid (I.GetFromNewsAlways d a axis k) h = (field_solid d h.0, (field_solid a h.1, (marked_solid 97 axis refl h.2, (konst_solid k h.3, tt))))
operands_solid (I.Get d address a) h = (field_solid d h.0, (field_solid address h.1, (field_solid a h.2, tt)))
operands_solid (I.SendWithOverwrite d kind address a) h = (field_solid d h.0, (kind_solid kind, (field_solid address h.1, (field_solid a h.2, tt))))
operands_solid (I.SendWithCombiner combiner d kind address a) h = (field_solid d h.0, (kind_solid kind, (field_solid address h.1, (field_solid a h.2, tt))))
operands_solid (I.Global combiner r a) h = (marked_solid 114 r refl h.0, (field_solid a h.1, tt))
operands_solid (I.Scan combiner d a axis direction mode bit within) h = (field_solid d h.0, (field_solid a h.1, (marked_solid 97 axis refl h.2, (direction_solid direction, (mode_solid mode, (bit_solid bit h.3, (inclusion_solid within, tt)))))))
operands_solid (I.ReadFromProcessor signed r processor a) h = (marked_solid 114 r refl h.0, (marked_solid 114 processor refl h.1, (field_solid a h.2, tt)))
operands_solid (I.WriteToProcessor d processor k) h = (field_solid d h.0, (marked_solid 114 processor refl h.1, (konst_solid k h.2, tt)))
operands_solid (I.FrontConst r n) h = (marked_solid 114 r refl h.0, (marked_solid 35 n refl h.1, tt))
operands_solid (I.FrontMove r x) h = (marked_solid 114 r refl h.0, (marked_solid 114 x refl h.1, tt))
operands_solid (I.FrontOperate op r x y) h = (marked_solid 114 r refl h.0, (marked_solid 114 x refl h.1, (marked_solid 114 y refl h.2, tt)))
operands_solid (I.FrontCompare relation r x y) h = (marked_solid 114 r refl h.0, (marked_solid 114 x refl h.1, (marked_solid 114 y refl h.2, tt)))
operands_solid (I.FrontNegate r x) h = (marked_solid 114 r refl h.0, (marked_solid 114 x refl h.1, tt))
operands_solid (I.FrontLognot r x) h = (marked_solid 114 r refl h.0, (marked_solid 114 x refl h.1, tt))
operands_solid (I.FrontConvert r x kind) h = (marked_solid 114 r refl h.0, (marked_solid 114 x refl h.1, (kind_solid kind, tt)))
operands_solid (I.FrontMakeAddress r set registers) h = (marked_solid 114 r refl h.0, (marked_solid 115 set refl h.1, all_solid IsWord register_text (λ r h. marked_solid 114 r refl h) registers.items h.2))
operands_solid (I.FrontCheckTarget set place registers) h = (marked_solid 115 set refl h.0, (place_solid place h.1, all_solid RegisterHasWords checked_register_text checked_register_solid registers.items h.2))
operands_solid (I.FrontCheckDivisor place x) h = (place_solid place h.0, (marked_solid 114 x refl h.1, tt))
operands_solid (I.FrontJump target) h = (marked_solid 64 target refl h, tt)
operands_solid (I.FrontJumpZero x target) h = (marked_solid 114 x refl h.0, (marked_solid 64 target refl h.1, tt))
operands_solid (I.FrontJumpNonzero x target) h = (marked_solid 114 x refl h.0, (marked_solid 64 target refl h.1, tt))
operands_solid I.FrontTurn h = tt
operands_solid (I.FrontCall unit) h = (marked_solid 117 unit refl h, tt)
operands_solid I.FrontReturn h = tt
operands_solid (I.FrontPutBytes bytes) h = (bytes_solid bytes h, tt)
operands_solid (I.FrontPut format x) h = (marked_solid 114 x refl h, tt)
operands_solid (I.FrontGetByte r) h = (marked_solid 114 r refl h, tt)
operands_solid I.FrontHalt h = tt
