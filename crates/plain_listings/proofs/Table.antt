-- The instructions that rows of words are of: a row is a mnemonic and the texts of operands, and each
-- mnemonic says what its operands are.
use Rattle.std.proofs.Common.{◌≡◌, ℕ, Bool, true, false, cond, ◌&&◌, ◌==◌, List, [], ◌∷◌, ◌++◌, map, drop, refl}
use Rattle.std.specs.Prelude.{codes}
use Rattle.std.specs.List.{concat}
use Rattle.paris_code.specs.declared.operands.Operation.{Operation}
use Rattle.paris_code.specs.declared.operands.Operation.TheVariants as P
use Rattle.paris_code.specs.declared.operands.Compare.{Compare}
use Rattle.paris_code.specs.declared.operands.Compare.TheVariants as R
use Rattle.paris_code.specs.declared.operands.Reduction.{Reduction}
use Rattle.paris_code.specs.declared.operands.Reduction.TheVariants as F
use Rattle.cstar_base.specs.declared.formats.NumberFormat.{NumberFormat}
use Rattle.cstar_base.specs.declared.formats.NumberFormat.TheVariants as N
use Rattle.paris_code.specs.declared.instr.Instr.TheVariants as I
use Rattle.paris_code.specs.Mnemonics.{sign_name, operation_name, relation_name, reduction_name, format_name}
use Rattle.lower_base.specs.Drafts.{Step}
use Rattle.lower_base.specs.Drafts.Step.{Plain, MakesAddress, ChecksTarget, ChecksGrid, FrontMakesAddress, FrontChecksTarget}
use Rattle.plain_listings.proofs.OperandTexts.{piece, field_in, konst_in, marked_in, place_in, kind_in, direction_in, mode_in, inclusion_in, bit_in, bytes_in, coordinate_in, checked_in, step_in, checked_register_in}

-- a mnemonic, and what is read of the operands behind it
abbrev Operands : Type 0
Operands = List (List ℕ)

record Reader : Type 0 where
  name : List ℕ
  reads : Operands → Step

abbrev row : List ℕ → (Operands → Step) → Reader
row name reads = record { name = name; reads = reads }

abbrev pub spells : List ℕ → List ℕ → Bool
spells [] [] = true
spells [] (b ∷ bs) = false
spells (a ∷ xs) [] = false
spells (a ∷ xs) (b ∷ bs) = a == b && spells xs bs

abbrev found : List ℕ → List Reader → Operands → Step
found name [] ops = Plain I.FrontHalt
found name (r ∷ rs) ops = cond (spells name r.name) (r.reads ops) (found name rs ops)

abbrev all_ops : List Operation
all_ops = P.SAdd ∷ P.SSubtract ∷ P.SMultiply ∷ P.STruncate ∷ P.UTruncate ∷ P.SRem ∷ P.URem ∷ P.SMod ∷ P.SMin ∷ P.UMin ∷ P.SMax ∷ P.UMax ∷ P.Logand ∷ P.Logior ∷ P.Logxor ∷ P.UShiftLeft ∷ P.SShiftRight ∷ P.UShiftRight ∷ []

abbrev all_relations : List Compare
all_relations = R.UEq ∷ R.UNe ∷ R.SLt ∷ R.SLe ∷ R.SGt ∷ R.SGe ∷ R.ULt ∷ R.ULe ∷ R.UGt ∷ R.UGe ∷ []

abbrev all_combiners : List Reduction
all_combiners = F.SAdd ∷ F.Logand ∷ F.Logior ∷ F.Logxor ∷ F.SMin ∷ F.UMin ∷ F.SMax ∷ F.UMax ∷ []

abbrev all_formats : List NumberFormat
all_formats = N.Signed ∷ N.Unsigned ∷ N.Hexadecimal ∷ N.Octal ∷ N.Character ∷ []

abbrev all_signs : List Bool
all_signs = true ∷ false ∷ []

-- the mnemonics that say no more than the instruction
abbrev fixed_rows : List Reader
fixed_rows =
    row (codes "CM_u_move_constant_1L") (λ ops. Plain (I.MoveConstant (field_in (piece ops 0)) (konst_in (piece ops 1))))
    ∷ row (codes "CM_u_move_zero_always_1L") (λ ops. Plain (I.MoveZeroAlways (field_in (piece ops 0))))
    ∷ row (codes "CM_u_move_always_1L") (λ ops. Plain (I.MoveAlways (field_in (piece ops 0)) (field_in (piece ops 1))))
    ∷ row (codes "CM_my_news_coordinate_1L") (λ ops. Plain (I.MyNewsCoordinate (field_in (piece ops 0)) (marked_in (piece ops 1))))
    ∷ row (codes "X_make_address_1L") (λ ops. MakesAddress (field_in (piece ops 0)) (marked_in (piece ops 1)) (map coordinate_in (drop 2 ops)))
    ∷ row (codes "CM_s_negate_2_1L") (λ ops. Plain (I.Negate (field_in (piece ops 0)) (field_in (piece ops 1))))
    ∷ row (codes "CM_lognot_2_1L") (λ ops. Plain (I.Lognot (field_in (piece ops 0)) (field_in (piece ops 1))))
    ∷ row (codes "CM_u_eq_zero_1L") (λ ops. Plain (I.EqZero (field_in (piece ops 0))))
    ∷ row (codes "CM_u_ne_zero_1L") (λ ops. Plain (I.NeZero (field_in (piece ops 0))))
    ∷ row (codes "CM_load_test") (λ ops. Plain (I.LoadTest (field_in (piece ops 0))))
    ∷ row (codes "CM_store_test") (λ ops. Plain (I.StoreTest (field_in (piece ops 0))))
    ∷ row (codes "CM_load_context") (λ ops. Plain (I.LoadContext (field_in (piece ops 0))))
    ∷ row (codes "CM_store_context") (λ ops. Plain (I.StoreContext (field_in (piece ops 0))))
    ∷ row (codes "CM_set_context") (λ ops. Plain (I.SetContext (marked_in (piece ops 0))))
    ∷ row (codes "CM_logand_context_with_test") (λ ops. Plain (I.LogandContextWithTest (marked_in (piece ops 0))))
    ∷ row (codes "CM_logandc_context_with_test") (λ ops. Plain (I.LogandcContextWithTest (marked_in (piece ops 0))))
    ∷ row (codes "X_check_target") (λ ops. ChecksTarget (marked_in (piece ops 0)) (place_in (piece ops 1)) (map checked_in (drop 2 ops)))
    ∷ row (codes "X_check_grid") (λ ops. ChecksGrid (marked_in (piece ops 0)) (place_in (piece ops 1)) (map step_in (drop 2 ops)))
    ∷ row (codes "X_check_divisor") (λ ops. Plain (I.CheckDivisor (place_in (piece ops 0)) (field_in (piece ops 1))))
    ∷ row (codes "X_get_from_news_1L") (λ ops. Plain (I.GetFromNews (field_in (piece ops 0)) (field_in (piece ops 1)) (marked_in (piece ops 2)) (konst_in (piece ops 3))))
    ∷ row (codes "X_get_from_news_always_1L") (λ ops. Plain (I.GetFromNewsAlways (field_in (piece ops 0)) (field_in (piece ops 1)) (marked_in (piece ops 2)) (konst_in (piece ops 3))))
    ∷ row (codes "CM_get_1L") (λ ops. Plain (I.Get (field_in (piece ops 0)) (field_in (piece ops 1)) (field_in (piece ops 2))))
    ∷ row (codes "CM_send_with_overwrite_1L") (λ ops. Plain (I.SendWithOverwrite (field_in (piece ops 0)) (kind_in (piece ops 1)) (field_in (piece ops 2)) (field_in (piece ops 3))))
    ∷ row (codes "CM_u_write_to_processor_1L") (λ ops. Plain (I.WriteToProcessor (field_in (piece ops 0)) (marked_in (piece ops 1)) (konst_in (piece ops 2))))
    ∷ row (codes "FE_const") (λ ops. Plain (I.FrontConst (marked_in (piece ops 0)) (marked_in (piece ops 1))))
    ∷ row (codes "FE_move") (λ ops. Plain (I.FrontMove (marked_in (piece ops 0)) (marked_in (piece ops 1))))
    ∷ row (codes "FE_s_negate") (λ ops. Plain (I.FrontNegate (marked_in (piece ops 0)) (marked_in (piece ops 1))))
    ∷ row (codes "FE_lognot") (λ ops. Plain (I.FrontLognot (marked_in (piece ops 0)) (marked_in (piece ops 1))))
    ∷ row (codes "FE_convert") (λ ops. Plain (I.FrontConvert (marked_in (piece ops 0)) (marked_in (piece ops 1)) (kind_in (piece ops 2))))
    ∷ row (codes "FE_make_address") (λ ops. FrontMakesAddress (marked_in (piece ops 0)) (marked_in (piece ops 1)) (map marked_in (drop 2 ops)))
    ∷ row (codes "FE_check_target") (λ ops. FrontChecksTarget (marked_in (piece ops 0)) (place_in (piece ops 1)) (map checked_register_in (drop 2 ops)))
    ∷ row (codes "FE_check_divisor") (λ ops. Plain (I.FrontCheckDivisor (place_in (piece ops 0)) (marked_in (piece ops 1))))
    ∷ row (codes "FE_jump") (λ ops. Plain (I.FrontJump (marked_in (piece ops 0))))
    ∷ row (codes "FE_jump_zero") (λ ops. Plain (I.FrontJumpZero (marked_in (piece ops 0)) (marked_in (piece ops 1))))
    ∷ row (codes "FE_jump_nonzero") (λ ops. Plain (I.FrontJumpNonzero (marked_in (piece ops 0)) (marked_in (piece ops 1))))
    ∷ row (codes "FE_turn") (λ ops. Plain I.FrontTurn)
    ∷ row (codes "FE_call") (λ ops. Plain (I.FrontCall (marked_in (piece ops 0))))
    ∷ row (codes "FE_return") (λ ops. Plain I.FrontReturn)
    ∷ row (codes "FE_put_bytes") (λ ops. Plain (I.FrontPutBytes (bytes_in (piece ops 0))))
    ∷ row (codes "FE_get_byte") (λ ops. Plain (I.FrontGetByte (marked_in (piece ops 0))))
    ∷ row (codes "FE_halt") (λ ops. Plain I.FrontHalt)
    ∷ []

abbrev move_row : Bool → Reader
move_row signed = row (concat (codes "CM_" ∷ sign_name signed ∷ codes "_move_2L" ∷ [])) (λ ops. Plain (I.Move signed (field_in (piece ops 0)) (field_in (piece ops 1))))

abbrev operate_row : Operation → Reader
operate_row op = row (concat (codes "CM_" ∷ operation_name op ∷ codes "_3_1L" ∷ [])) (λ ops. Plain (I.Operate op (field_in (piece ops 0)) (field_in (piece ops 1)) (field_in (piece ops 2))))

abbrev operate_constant_row : Operation → Reader
operate_constant_row op = row (concat (codes "CM_" ∷ operation_name op ∷ codes "_constant_3_1L" ∷ [])) (λ ops. Plain (I.OperateConstant op (field_in (piece ops 0)) (field_in (piece ops 1)) (konst_in (piece ops 2))))

abbrev compare_row : Compare → Reader
compare_row relation = row (concat (codes "CM_" ∷ relation_name relation ∷ codes "_1L" ∷ [])) (λ ops. Plain (I.Compare relation (field_in (piece ops 0)) (field_in (piece ops 1))))

abbrev send_with_combiner_row : Reduction → Reader
send_with_combiner_row combiner = row (concat (codes "CM_send_with_" ∷ reduction_name combiner ∷ codes "_1L" ∷ [])) (λ ops. Plain (I.SendWithCombiner combiner (field_in (piece ops 0)) (kind_in (piece ops 1)) (field_in (piece ops 2)) (field_in (piece ops 3))))

abbrev global_row : Reduction → Reader
global_row combiner = row (concat (codes "CM_global_" ∷ reduction_name combiner ∷ codes "_1L" ∷ [])) (λ ops. Plain (I.Global combiner (marked_in (piece ops 0)) (field_in (piece ops 1))))

abbrev scan_row : Reduction → Reader
scan_row combiner = row (concat (codes "CM_scan_with_" ∷ reduction_name combiner ∷ codes "_1L" ∷ [])) (λ ops. Plain (I.Scan combiner (field_in (piece ops 0)) (field_in (piece ops 1)) (marked_in (piece ops 2)) (direction_in (piece ops 3)) (mode_in (piece ops 4)) (bit_in (piece ops 5)) (inclusion_in (piece ops 6))))

abbrev read_from_processor_row : Bool → Reader
read_from_processor_row signed = row (concat (codes "CM_" ∷ sign_name signed ∷ codes "_read_from_processor_1L" ∷ [])) (λ ops. Plain (I.ReadFromProcessor signed (marked_in (piece ops 0)) (marked_in (piece ops 1)) (field_in (piece ops 2))))

abbrev front_operate_row : Operation → Reader
front_operate_row op = row (concat (codes "FE_" ∷ operation_name op ∷ [])) (λ ops. Plain (I.FrontOperate op (marked_in (piece ops 0)) (marked_in (piece ops 1)) (marked_in (piece ops 2))))

abbrev front_compare_row : Compare → Reader
front_compare_row relation = row (concat (codes "FE_" ∷ relation_name relation ∷ [])) (λ ops. Plain (I.FrontCompare relation (marked_in (piece ops 0)) (marked_in (piece ops 1)) (marked_in (piece ops 2))))

abbrev front_put_row : NumberFormat → Reader
front_put_row format = row (concat (codes "FE_put_" ∷ format_name format ∷ [])) (λ ops. Plain (I.FrontPut format (marked_in (piece ops 0))))

abbrev table : List Reader
table =
    fixed_rows
    ++ (map move_row all_signs
    ++ (map operate_row all_ops
    ++ (map operate_constant_row all_ops
    ++ (map compare_row all_relations
    ++ (map send_with_combiner_row all_combiners
    ++ (map global_row all_combiners
    ++ (map scan_row all_combiners
    ++ (map read_from_processor_row all_signs
    ++ (map front_operate_row all_ops
    ++ (map front_compare_row all_relations
    ++ (map front_put_row all_formats)))))))))))

pub instruction_in : List ℕ → Operands → Step
instruction_in name ops = found name table ops

-- what each mnemonic reads
pub reads_move : (signed : Bool) (ops : Operands) → instruction_in (concat (codes "CM_" ∷ sign_name signed ∷ codes "_move_2L" ∷ [])) ops ≡ Plain (I.Move signed (field_in (piece ops 0)) (field_in (piece ops 1)))
unfolding instruction_in
reads_move true ops = refl
reads_move false ops = refl

pub reads_move_constant : (ops : Operands) → instruction_in (codes "CM_u_move_constant_1L") ops ≡ Plain (I.MoveConstant (field_in (piece ops 0)) (konst_in (piece ops 1)))
unfolding instruction_in
reads_move_constant ops = refl

pub reads_move_zero_always : (ops : Operands) → instruction_in (codes "CM_u_move_zero_always_1L") ops ≡ Plain (I.MoveZeroAlways (field_in (piece ops 0)))
unfolding instruction_in
reads_move_zero_always ops = refl

pub reads_move_always : (ops : Operands) → instruction_in (codes "CM_u_move_always_1L") ops ≡ Plain (I.MoveAlways (field_in (piece ops 0)) (field_in (piece ops 1)))
unfolding instruction_in
reads_move_always ops = refl

pub reads_my_news_coordinate : (ops : Operands) → instruction_in (codes "CM_my_news_coordinate_1L") ops ≡ Plain (I.MyNewsCoordinate (field_in (piece ops 0)) (marked_in (piece ops 1)))
unfolding instruction_in
reads_my_news_coordinate ops = refl

pub reads_make_address : (ops : Operands) → instruction_in (codes "X_make_address_1L") ops ≡ MakesAddress (field_in (piece ops 0)) (marked_in (piece ops 1)) (map coordinate_in (drop 2 ops))
unfolding instruction_in
reads_make_address ops = refl

pub reads_operate : (op : Operation) (ops : Operands) → instruction_in (concat (codes "CM_" ∷ operation_name op ∷ codes "_3_1L" ∷ [])) ops ≡ Plain (I.Operate op (field_in (piece ops 0)) (field_in (piece ops 1)) (field_in (piece ops 2)))
unfolding instruction_in
reads_operate P.SAdd ops = refl
reads_operate P.SSubtract ops = refl
reads_operate P.SMultiply ops = refl
reads_operate P.STruncate ops = refl
reads_operate P.UTruncate ops = refl
reads_operate P.SRem ops = refl
reads_operate P.URem ops = refl
reads_operate P.SMod ops = refl
reads_operate P.SMin ops = refl
reads_operate P.UMin ops = refl
reads_operate P.SMax ops = refl
reads_operate P.UMax ops = refl
reads_operate P.Logand ops = refl
reads_operate P.Logior ops = refl
reads_operate P.Logxor ops = refl
reads_operate P.UShiftLeft ops = refl
reads_operate P.SShiftRight ops = refl
reads_operate P.UShiftRight ops = refl

pub reads_operate_constant : (op : Operation) (ops : Operands) → instruction_in (concat (codes "CM_" ∷ operation_name op ∷ codes "_constant_3_1L" ∷ [])) ops ≡ Plain (I.OperateConstant op (field_in (piece ops 0)) (field_in (piece ops 1)) (konst_in (piece ops 2)))
unfolding instruction_in
reads_operate_constant P.SAdd ops = refl
reads_operate_constant P.SSubtract ops = refl
reads_operate_constant P.SMultiply ops = refl
reads_operate_constant P.STruncate ops = refl
reads_operate_constant P.UTruncate ops = refl
reads_operate_constant P.SRem ops = refl
reads_operate_constant P.URem ops = refl
reads_operate_constant P.SMod ops = refl
reads_operate_constant P.SMin ops = refl
reads_operate_constant P.UMin ops = refl
reads_operate_constant P.SMax ops = refl
reads_operate_constant P.UMax ops = refl
reads_operate_constant P.Logand ops = refl
reads_operate_constant P.Logior ops = refl
reads_operate_constant P.Logxor ops = refl
reads_operate_constant P.UShiftLeft ops = refl
reads_operate_constant P.SShiftRight ops = refl
reads_operate_constant P.UShiftRight ops = refl

pub reads_negate : (ops : Operands) → instruction_in (codes "CM_s_negate_2_1L") ops ≡ Plain (I.Negate (field_in (piece ops 0)) (field_in (piece ops 1)))
unfolding instruction_in
reads_negate ops = refl

pub reads_lognot : (ops : Operands) → instruction_in (codes "CM_lognot_2_1L") ops ≡ Plain (I.Lognot (field_in (piece ops 0)) (field_in (piece ops 1)))
unfolding instruction_in
reads_lognot ops = refl

pub reads_compare : (relation : Compare) (ops : Operands) → instruction_in (concat (codes "CM_" ∷ relation_name relation ∷ codes "_1L" ∷ [])) ops ≡ Plain (I.Compare relation (field_in (piece ops 0)) (field_in (piece ops 1)))
unfolding instruction_in
reads_compare R.UEq ops = refl
reads_compare R.UNe ops = refl
reads_compare R.SLt ops = refl
reads_compare R.SLe ops = refl
reads_compare R.SGt ops = refl
reads_compare R.SGe ops = refl
reads_compare R.ULt ops = refl
reads_compare R.ULe ops = refl
reads_compare R.UGt ops = refl
reads_compare R.UGe ops = refl

pub reads_eq_zero : (ops : Operands) → instruction_in (codes "CM_u_eq_zero_1L") ops ≡ Plain (I.EqZero (field_in (piece ops 0)))
unfolding instruction_in
reads_eq_zero ops = refl

pub reads_ne_zero : (ops : Operands) → instruction_in (codes "CM_u_ne_zero_1L") ops ≡ Plain (I.NeZero (field_in (piece ops 0)))
unfolding instruction_in
reads_ne_zero ops = refl

pub reads_load_test : (ops : Operands) → instruction_in (codes "CM_load_test") ops ≡ Plain (I.LoadTest (field_in (piece ops 0)))
unfolding instruction_in
reads_load_test ops = refl

pub reads_store_test : (ops : Operands) → instruction_in (codes "CM_store_test") ops ≡ Plain (I.StoreTest (field_in (piece ops 0)))
unfolding instruction_in
reads_store_test ops = refl

pub reads_load_context : (ops : Operands) → instruction_in (codes "CM_load_context") ops ≡ Plain (I.LoadContext (field_in (piece ops 0)))
unfolding instruction_in
reads_load_context ops = refl

pub reads_store_context : (ops : Operands) → instruction_in (codes "CM_store_context") ops ≡ Plain (I.StoreContext (field_in (piece ops 0)))
unfolding instruction_in
reads_store_context ops = refl

pub reads_set_context : (ops : Operands) → instruction_in (codes "CM_set_context") ops ≡ Plain (I.SetContext (marked_in (piece ops 0)))
unfolding instruction_in
reads_set_context ops = refl

pub reads_logand_context_with_test : (ops : Operands) → instruction_in (codes "CM_logand_context_with_test") ops ≡ Plain (I.LogandContextWithTest (marked_in (piece ops 0)))
unfolding instruction_in
reads_logand_context_with_test ops = refl

pub reads_logandc_context_with_test : (ops : Operands) → instruction_in (codes "CM_logandc_context_with_test") ops ≡ Plain (I.LogandcContextWithTest (marked_in (piece ops 0)))
unfolding instruction_in
reads_logandc_context_with_test ops = refl

pub reads_check_target : (ops : Operands) → instruction_in (codes "X_check_target") ops ≡ ChecksTarget (marked_in (piece ops 0)) (place_in (piece ops 1)) (map checked_in (drop 2 ops))
unfolding instruction_in
reads_check_target ops = refl

pub reads_check_grid : (ops : Operands) → instruction_in (codes "X_check_grid") ops ≡ ChecksGrid (marked_in (piece ops 0)) (place_in (piece ops 1)) (map step_in (drop 2 ops))
unfolding instruction_in
reads_check_grid ops = refl

pub reads_check_divisor : (ops : Operands) → instruction_in (codes "X_check_divisor") ops ≡ Plain (I.CheckDivisor (place_in (piece ops 0)) (field_in (piece ops 1)))
unfolding instruction_in
reads_check_divisor ops = refl

pub reads_get_from_news : (ops : Operands) → instruction_in (codes "X_get_from_news_1L") ops ≡ Plain (I.GetFromNews (field_in (piece ops 0)) (field_in (piece ops 1)) (marked_in (piece ops 2)) (konst_in (piece ops 3)))
unfolding instruction_in
reads_get_from_news ops = refl

pub reads_get_from_news_always : (ops : Operands) → instruction_in (codes "X_get_from_news_always_1L") ops ≡ Plain (I.GetFromNewsAlways (field_in (piece ops 0)) (field_in (piece ops 1)) (marked_in (piece ops 2)) (konst_in (piece ops 3)))
unfolding instruction_in
reads_get_from_news_always ops = refl

pub reads_get : (ops : Operands) → instruction_in (codes "CM_get_1L") ops ≡ Plain (I.Get (field_in (piece ops 0)) (field_in (piece ops 1)) (field_in (piece ops 2)))
unfolding instruction_in
reads_get ops = refl

pub reads_send_with_overwrite : (ops : Operands) → instruction_in (codes "CM_send_with_overwrite_1L") ops ≡ Plain (I.SendWithOverwrite (field_in (piece ops 0)) (kind_in (piece ops 1)) (field_in (piece ops 2)) (field_in (piece ops 3)))
unfolding instruction_in
reads_send_with_overwrite ops = refl

pub reads_send_with_combiner : (combiner : Reduction) (ops : Operands) → instruction_in (concat (codes "CM_send_with_" ∷ reduction_name combiner ∷ codes "_1L" ∷ [])) ops ≡ Plain (I.SendWithCombiner combiner (field_in (piece ops 0)) (kind_in (piece ops 1)) (field_in (piece ops 2)) (field_in (piece ops 3)))
unfolding instruction_in
reads_send_with_combiner F.SAdd ops = refl
reads_send_with_combiner F.Logand ops = refl
reads_send_with_combiner F.Logior ops = refl
reads_send_with_combiner F.Logxor ops = refl
reads_send_with_combiner F.SMin ops = refl
reads_send_with_combiner F.UMin ops = refl
reads_send_with_combiner F.SMax ops = refl
reads_send_with_combiner F.UMax ops = refl

pub reads_global : (combiner : Reduction) (ops : Operands) → instruction_in (concat (codes "CM_global_" ∷ reduction_name combiner ∷ codes "_1L" ∷ [])) ops ≡ Plain (I.Global combiner (marked_in (piece ops 0)) (field_in (piece ops 1)))
unfolding instruction_in
reads_global F.SAdd ops = refl
reads_global F.Logand ops = refl
reads_global F.Logior ops = refl
reads_global F.Logxor ops = refl
reads_global F.SMin ops = refl
reads_global F.UMin ops = refl
reads_global F.SMax ops = refl
reads_global F.UMax ops = refl

pub reads_scan : (combiner : Reduction) (ops : Operands) → instruction_in (concat (codes "CM_scan_with_" ∷ reduction_name combiner ∷ codes "_1L" ∷ [])) ops ≡ Plain (I.Scan combiner (field_in (piece ops 0)) (field_in (piece ops 1)) (marked_in (piece ops 2)) (direction_in (piece ops 3)) (mode_in (piece ops 4)) (bit_in (piece ops 5)) (inclusion_in (piece ops 6)))
unfolding instruction_in
reads_scan F.SAdd ops = refl
reads_scan F.Logand ops = refl
reads_scan F.Logior ops = refl
reads_scan F.Logxor ops = refl
reads_scan F.SMin ops = refl
reads_scan F.UMin ops = refl
reads_scan F.SMax ops = refl
reads_scan F.UMax ops = refl

pub reads_read_from_processor : (signed : Bool) (ops : Operands) → instruction_in (concat (codes "CM_" ∷ sign_name signed ∷ codes "_read_from_processor_1L" ∷ [])) ops ≡ Plain (I.ReadFromProcessor signed (marked_in (piece ops 0)) (marked_in (piece ops 1)) (field_in (piece ops 2)))
unfolding instruction_in
reads_read_from_processor true ops = refl
reads_read_from_processor false ops = refl

pub reads_write_to_processor : (ops : Operands) → instruction_in (codes "CM_u_write_to_processor_1L") ops ≡ Plain (I.WriteToProcessor (field_in (piece ops 0)) (marked_in (piece ops 1)) (konst_in (piece ops 2)))
unfolding instruction_in
reads_write_to_processor ops = refl

pub reads_front_const : (ops : Operands) → instruction_in (codes "FE_const") ops ≡ Plain (I.FrontConst (marked_in (piece ops 0)) (marked_in (piece ops 1)))
unfolding instruction_in
reads_front_const ops = refl

pub reads_front_move : (ops : Operands) → instruction_in (codes "FE_move") ops ≡ Plain (I.FrontMove (marked_in (piece ops 0)) (marked_in (piece ops 1)))
unfolding instruction_in
reads_front_move ops = refl

pub reads_front_operate : (op : Operation) (ops : Operands) → instruction_in (concat (codes "FE_" ∷ operation_name op ∷ [])) ops ≡ Plain (I.FrontOperate op (marked_in (piece ops 0)) (marked_in (piece ops 1)) (marked_in (piece ops 2)))
unfolding instruction_in
reads_front_operate P.SAdd ops = refl
reads_front_operate P.SSubtract ops = refl
reads_front_operate P.SMultiply ops = refl
reads_front_operate P.STruncate ops = refl
reads_front_operate P.UTruncate ops = refl
reads_front_operate P.SRem ops = refl
reads_front_operate P.URem ops = refl
reads_front_operate P.SMod ops = refl
reads_front_operate P.SMin ops = refl
reads_front_operate P.UMin ops = refl
reads_front_operate P.SMax ops = refl
reads_front_operate P.UMax ops = refl
reads_front_operate P.Logand ops = refl
reads_front_operate P.Logior ops = refl
reads_front_operate P.Logxor ops = refl
reads_front_operate P.UShiftLeft ops = refl
reads_front_operate P.SShiftRight ops = refl
reads_front_operate P.UShiftRight ops = refl

pub reads_front_compare : (relation : Compare) (ops : Operands) → instruction_in (concat (codes "FE_" ∷ relation_name relation ∷ [])) ops ≡ Plain (I.FrontCompare relation (marked_in (piece ops 0)) (marked_in (piece ops 1)) (marked_in (piece ops 2)))
unfolding instruction_in
reads_front_compare R.UEq ops = refl
reads_front_compare R.UNe ops = refl
reads_front_compare R.SLt ops = refl
reads_front_compare R.SLe ops = refl
reads_front_compare R.SGt ops = refl
reads_front_compare R.SGe ops = refl
reads_front_compare R.ULt ops = refl
reads_front_compare R.ULe ops = refl
reads_front_compare R.UGt ops = refl
reads_front_compare R.UGe ops = refl

pub reads_front_negate : (ops : Operands) → instruction_in (codes "FE_s_negate") ops ≡ Plain (I.FrontNegate (marked_in (piece ops 0)) (marked_in (piece ops 1)))
unfolding instruction_in
reads_front_negate ops = refl

pub reads_front_lognot : (ops : Operands) → instruction_in (codes "FE_lognot") ops ≡ Plain (I.FrontLognot (marked_in (piece ops 0)) (marked_in (piece ops 1)))
unfolding instruction_in
reads_front_lognot ops = refl

pub reads_front_convert : (ops : Operands) → instruction_in (codes "FE_convert") ops ≡ Plain (I.FrontConvert (marked_in (piece ops 0)) (marked_in (piece ops 1)) (kind_in (piece ops 2)))
unfolding instruction_in
reads_front_convert ops = refl

pub reads_front_make_address : (ops : Operands) → instruction_in (codes "FE_make_address") ops ≡ FrontMakesAddress (marked_in (piece ops 0)) (marked_in (piece ops 1)) (map marked_in (drop 2 ops))
unfolding instruction_in
reads_front_make_address ops = refl

pub reads_front_check_target : (ops : Operands) → instruction_in (codes "FE_check_target") ops ≡ FrontChecksTarget (marked_in (piece ops 0)) (place_in (piece ops 1)) (map checked_register_in (drop 2 ops))
unfolding instruction_in
reads_front_check_target ops = refl

pub reads_front_check_divisor : (ops : Operands) → instruction_in (codes "FE_check_divisor") ops ≡ Plain (I.FrontCheckDivisor (place_in (piece ops 0)) (marked_in (piece ops 1)))
unfolding instruction_in
reads_front_check_divisor ops = refl

pub reads_front_jump : (ops : Operands) → instruction_in (codes "FE_jump") ops ≡ Plain (I.FrontJump (marked_in (piece ops 0)))
unfolding instruction_in
reads_front_jump ops = refl

pub reads_front_jump_zero : (ops : Operands) → instruction_in (codes "FE_jump_zero") ops ≡ Plain (I.FrontJumpZero (marked_in (piece ops 0)) (marked_in (piece ops 1)))
unfolding instruction_in
reads_front_jump_zero ops = refl

pub reads_front_jump_nonzero : (ops : Operands) → instruction_in (codes "FE_jump_nonzero") ops ≡ Plain (I.FrontJumpNonzero (marked_in (piece ops 0)) (marked_in (piece ops 1)))
unfolding instruction_in
reads_front_jump_nonzero ops = refl

pub reads_front_turn : (ops : Operands) → instruction_in (codes "FE_turn") ops ≡ Plain I.FrontTurn
unfolding instruction_in
reads_front_turn ops = refl

pub reads_front_call : (ops : Operands) → instruction_in (codes "FE_call") ops ≡ Plain (I.FrontCall (marked_in (piece ops 0)))
unfolding instruction_in
reads_front_call ops = refl

pub reads_front_return : (ops : Operands) → instruction_in (codes "FE_return") ops ≡ Plain I.FrontReturn
unfolding instruction_in
reads_front_return ops = refl

pub reads_front_put_bytes : (ops : Operands) → instruction_in (codes "FE_put_bytes") ops ≡ Plain (I.FrontPutBytes (bytes_in (piece ops 0)))
unfolding instruction_in
reads_front_put_bytes ops = refl

pub reads_front_put : (format : NumberFormat) (ops : Operands) → instruction_in (concat (codes "FE_put_" ∷ format_name format ∷ [])) ops ≡ Plain (I.FrontPut format (marked_in (piece ops 0)))
unfolding instruction_in
reads_front_put N.Signed ops = refl
reads_front_put N.Unsigned ops = refl
reads_front_put N.Hexadecimal ops = refl
reads_front_put N.Octal ops = refl
reads_front_put N.Character ops = refl

pub reads_front_get_byte : (ops : Operands) → instruction_in (codes "FE_get_byte") ops ≡ Plain (I.FrontGetByte (marked_in (piece ops 0)))
unfolding instruction_in
reads_front_get_byte ops = refl

pub reads_front_halt : (ops : Operands) → instruction_in (codes "FE_halt") ops ≡ Plain I.FrontHalt
unfolding instruction_in
reads_front_halt ops = refl
