-- The names that instructions have in a listing.
use Rattle.std.specs.Prelude.{ℕ, Bool, true, false, List, [], ◌∷◌, codes}
use Rattle.std.specs.List.{concat}
use Rattle.paris_code.specs.declared.operands.Operation.{Operation}
use Rattle.paris_code.specs.declared.operands.Operation.TheVariants as P
use Rattle.paris_code.specs.declared.operands.Compare.{Compare}
use Rattle.paris_code.specs.declared.operands.Compare.TheVariants as R
use Rattle.paris_code.specs.declared.operands.Reduction.{Reduction}
use Rattle.paris_code.specs.declared.operands.Reduction.TheVariants as F
use Rattle.cstar_base.specs.declared.formats.NumberFormat.{NumberFormat}
use Rattle.cstar_base.specs.declared.formats.NumberFormat.TheVariants as N
use Rattle.paris_code.specs.declared.instr.Instr.{Instr}
use Rattle.paris_code.specs.declared.instr.Instr.TheVariants as I

-- how a number is read: in two's complement or unsigned
abbrev pub sign_name : Bool → List ℕ
sign_name true = codes "s"
sign_name false = codes "u"

abbrev pub operation_name : Operation → List ℕ
operation_name P.SAdd = codes "s_add"
operation_name P.SSubtract = codes "s_subtract"
operation_name P.SMultiply = codes "s_multiply"
operation_name P.STruncate = codes "s_truncate"
operation_name P.UTruncate = codes "u_truncate"
operation_name P.SRem = codes "s_rem"
operation_name P.URem = codes "u_rem"
operation_name P.SMod = codes "s_mod"
operation_name P.SMin = codes "s_min"
operation_name P.UMin = codes "u_min"
operation_name P.SMax = codes "s_max"
operation_name P.UMax = codes "u_max"
operation_name P.Logand = codes "logand"
operation_name P.Logior = codes "logior"
operation_name P.Logxor = codes "logxor"
operation_name P.UShiftLeft = codes "u_shift_left"
operation_name P.SShiftRight = codes "s_shift_right"
operation_name P.UShiftRight = codes "u_shift_right"

abbrev pub relation_name : Compare → List ℕ
relation_name R.UEq = codes "u_eq"
relation_name R.UNe = codes "u_ne"
relation_name R.SLt = codes "s_lt"
relation_name R.SLe = codes "s_le"
relation_name R.SGt = codes "s_gt"
relation_name R.SGe = codes "s_ge"
relation_name R.ULt = codes "u_lt"
relation_name R.ULe = codes "u_le"
relation_name R.UGt = codes "u_gt"
relation_name R.UGe = codes "u_ge"

abbrev pub reduction_name : Reduction → List ℕ
reduction_name F.SAdd = codes "s_add"
reduction_name F.Logand = codes "logand"
reduction_name F.Logior = codes "logior"
reduction_name F.Logxor = codes "logxor"
reduction_name F.SMin = codes "s_min"
reduction_name F.UMin = codes "u_min"
reduction_name F.SMax = codes "s_max"
reduction_name F.UMax = codes "u_max"

abbrev pub format_name : NumberFormat → List ℕ
format_name N.Signed = codes "s"
format_name N.Unsigned = codes "u"
format_name N.Hexadecimal = codes "x"
format_name N.Octal = codes "o"
format_name N.Character = codes "c"

unfoldable pub mnemonic_of : Instr → List ℕ
mnemonic_of (I.Move signed d a) = concat (codes "CM_" ∷ sign_name signed ∷ codes "_move_2L" ∷ [])
mnemonic_of (I.MoveConstant d k) = codes "CM_u_move_constant_1L"
mnemonic_of (I.MoveZeroAlways d) = codes "CM_u_move_zero_always_1L"
mnemonic_of (I.MoveAlways d a) = codes "CM_u_move_always_1L"
mnemonic_of (I.MyNewsCoordinate d axis) = codes "CM_my_news_coordinate_1L"
mnemonic_of (I.MakeAddress d set coordinates) = codes "X_make_address_1L"
mnemonic_of (I.Operate op d a b) = concat (codes "CM_" ∷ operation_name op ∷ codes "_3_1L" ∷ [])
mnemonic_of (I.OperateConstant op d a k) = concat (codes "CM_" ∷ operation_name op ∷ codes "_constant_3_1L" ∷ [])
mnemonic_of (I.Negate d a) = codes "CM_s_negate_2_1L"
mnemonic_of (I.Lognot d a) = codes "CM_lognot_2_1L"
mnemonic_of (I.Compare relation a b) = concat (codes "CM_" ∷ relation_name relation ∷ codes "_1L" ∷ [])
mnemonic_of (I.EqZero a) = codes "CM_u_eq_zero_1L"
mnemonic_of (I.NeZero a) = codes "CM_u_ne_zero_1L"
mnemonic_of (I.LoadTest a) = codes "CM_load_test"
mnemonic_of (I.StoreTest d) = codes "CM_store_test"
mnemonic_of (I.LoadContext a) = codes "CM_load_context"
mnemonic_of (I.StoreContext d) = codes "CM_store_context"
mnemonic_of (I.SetContext set) = codes "CM_set_context"
mnemonic_of (I.LogandContextWithTest set) = codes "CM_logand_context_with_test"
mnemonic_of (I.LogandcContextWithTest set) = codes "CM_logandc_context_with_test"
mnemonic_of (I.CheckTarget set place coordinates) = codes "X_check_target"
mnemonic_of (I.CheckGrid set place steps) = codes "X_check_grid"
mnemonic_of (I.CheckDivisor place a) = codes "X_check_divisor"
mnemonic_of (I.GetFromNews d a axis k) = codes "X_get_from_news_1L"
mnemonic_of (I.GetFromNewsAlways d a axis k) = codes "X_get_from_news_always_1L"
mnemonic_of (I.Get d address a) = codes "CM_get_1L"
mnemonic_of (I.SendWithOverwrite d kind address a) = codes "CM_send_with_overwrite_1L"
mnemonic_of (I.SendWithCombiner combiner d kind address a) =
    concat (codes "CM_send_with_" ∷ reduction_name combiner ∷ codes "_1L" ∷ [])
mnemonic_of (I.Global combiner r a) = concat (codes "CM_global_" ∷ reduction_name combiner ∷ codes "_1L" ∷ [])
mnemonic_of (I.Scan combiner d a axis direction mode bit within) =
    concat (codes "CM_scan_with_" ∷ reduction_name combiner ∷ codes "_1L" ∷ [])
mnemonic_of (I.ReadFromProcessor signed r processor a) =
    concat (codes "CM_" ∷ sign_name signed ∷ codes "_read_from_processor_1L" ∷ [])
mnemonic_of (I.WriteToProcessor d processor k) = codes "CM_u_write_to_processor_1L"
mnemonic_of (I.FrontConst r n) = codes "FE_const"
mnemonic_of (I.FrontMove r x) = codes "FE_move"
mnemonic_of (I.FrontOperate op r x y) = concat (codes "FE_" ∷ operation_name op ∷ [])
mnemonic_of (I.FrontCompare relation r x y) = concat (codes "FE_" ∷ relation_name relation ∷ [])
mnemonic_of (I.FrontNegate r x) = codes "FE_s_negate"
mnemonic_of (I.FrontLognot r x) = codes "FE_lognot"
mnemonic_of (I.FrontConvert r x kind) = codes "FE_convert"
mnemonic_of (I.FrontMakeAddress r set registers) = codes "FE_make_address"
mnemonic_of (I.FrontCheckTarget set place registers) = codes "FE_check_target"
mnemonic_of (I.FrontCheckDivisor place x) = codes "FE_check_divisor"
mnemonic_of (I.FrontJump target) = codes "FE_jump"
mnemonic_of (I.FrontJumpZero x target) = codes "FE_jump_zero"
mnemonic_of (I.FrontJumpNonzero x target) = codes "FE_jump_nonzero"
mnemonic_of I.FrontTurn = codes "FE_turn"
mnemonic_of (I.FrontCall unit) = codes "FE_call"
mnemonic_of I.FrontReturn = codes "FE_return"
mnemonic_of (I.FrontPutBytes bytes) = codes "FE_put_bytes"
mnemonic_of (I.FrontPut format x) = concat (codes "FE_put_" ∷ format_name format ∷ [])
mnemonic_of (I.FrontGetByte r) = codes "FE_get_byte"
mnemonic_of I.FrontHalt = codes "FE_halt"
