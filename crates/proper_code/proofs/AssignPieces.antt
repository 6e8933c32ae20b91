-- Assignments and steps stay within themselves, where the code of their parts does.
use Rattle.std.proofs.Common.{ℕ, Bool, true, [], ◌∷◌, Option, Some, None}
use Rattle.cstar_base.specs.declared.operators.Op.{Op}
use Rattle.cstar_base.specs.declared.operators.Place.{Place}
use Rattle.cstar_tree.specs.declared.syntax.AssignOp.{AssignOp}
use Rattle.cstar_tree.specs.declared.syntax.StepOp.{StepOp}
use Rattle.cstar_tree.specs.declared.typed.StepOrder.{StepOrder}
use Rattle.cstar_tree.specs.declared.typed.StepOrder.TheVariants as Or
use Rattle.cstar_tree.specs.declared.typed.TExpr.{TExpr}
use Rattle.cstar_tree.specs.declared.typed.Typed.{Typed}
use Rattle.cstar_tree.specs.Typed.{type_of}
use Rattle.paris_code.specs.declared.operands.Field.{Field}
use Rattle.lower_base.specs.declared.emit.Out.{Out}
use Rattle.lower_base.specs.declared.emit.Out.TheVariants as O
use Rattle.lower_base.specs.Drafts.{Draft, Made, step}
use Rattle.lower_base.specs.Layouts.{Layout}
use Rattle.lower_base.specs.Operators.{assign_op_of}
use Rattle.lower_expr.specs.declared.spots.Spot.{Spot}
use Rattle.lower_expr.specs.declared.steps.Right.{Right}
use Rattle.lower_expr.specs.Lengths.{is_send}
use Rattle.lower_expr.specs.Steps.{is_kept}
use Rattle.lower_expr.specs.Values.{Code, assign_by, assigned_by, field_updated, plainly_set_by, register_folded, register_updated, sent_by, set_by, step_by, stepped_at, stepped_in, stepped_once, updated_by}
use Rattle.proper_code.proofs.Stretches.{is_inward}
use Rattle.proper_code.proofs.Building.{Setting, IsInward, as_before, bind, either, fails, fresh, fresh_entry, fresh_register, inner, lowest_builds, makes, on_register}
use Rattle.proper_code.proofs.MessagePieces.{communicated_builds}
use Rattle.proper_code.proofs.ShortPieces.{converted_builds, operand_builds, operated_more, right_operated_builds, word_in_builds}
use Rattle.proper_code.proofs.TargetPieces.{loaded_builds, stored_builds}
use Rattle.proper_code.proofs.ValuePieces.{right_by_builds, spread_by_builds}

set_builds : {on : Setting} (t : Typed) (l : Layout) (x : TExpr) (spot : Draft → Made Spot) (code : Code) → IsInward on spot → IsInward on code → IsInward on (set_by t l x spot code)
unfolding set_by
set_builds t l x spot code s c d e b = bind d _ _ (s d e b) (λ there between. bind between _ _ (c between between (as_before between)) (λ v after. stored_builds t l x there v after after (as_before after)))

sent_builds : {on : Setting} (t : Typed) (l : Layout) (x : TExpr) (spot : Draft → Made Spot) (code : Code) → IsInward on spot → IsInward on code → IsInward on (sent_by t l x spot code)
unfolding sent_by
sent_builds t l x spot code s c d e b =
    bind d _ _ (s d e b) (λ there between. bind between _ _ (c between between (as_before between)) (λ v after. bind after _ _ (stored_builds t l x there v after after (as_before after)) (λ _ last. makes _ last last (as_before last))))

field_updated_builds : {on : Setting} (t : Typed) (l : Layout) (x : TExpr) (op : Op) (signed : Bool) (place : Place) (target : TExpr) (dest spare : Field) (there : Spot) (v : Right) → IsInward on (field_updated t l x op signed place target dest spare there v)
unfolding field_updated
field_updated_builds t l x op signed place target dest spare there v d e b =
    bind d _ _ (loaded_builds t l target there (O.Field dest) d e b) (λ _ begun. bind begun _ _ (right_operated_builds op signed place dest dest v spare begun begun (as_before begun)) (λ _ between.
    bind between _ _ (converted_builds (O.Field dest) (type_of target).elem between between (as_before between)) (λ _ after. stored_builds t l x there (O.Field dest) after after (as_before after))))

register_updated_builds : {on : Setting} (t : Typed) (l : Layout) (x : TExpr) (op : Op) (signed : Bool) (place : Place) (target : TExpr) (dest : ℕ) (there : Spot) (v : Out) → IsInward on (register_updated t l x op signed place target dest there v)
unfolding register_updated
register_updated_builds t l x op signed place target dest there v d e b =
    bind d _ _ (loaded_builds t l target there (O.Scalar dest) d e b) (λ _ between. on_register between v _ (λ r.
    bind between _ _ (converted_builds (O.Scalar dest) (type_of target).elem between _ (operated_more op signed place dest dest r between between (as_before between))) (λ _ after. stored_builds t l x there (O.Scalar dest) after after (as_before after))))

register_folded_builds : {on : Setting} (t : Typed) (l : Layout) (x target : TExpr) (dest : ℕ) (there : Spot) (v : Out) → IsInward on (register_folded t l x target dest there v)
unfolding register_folded
register_folded_builds t l x target dest there v d e b =
    bind d _ _ (fresh_register d e b) (λ old begun. bind begun _ _ (loaded_builds t l target there (O.Scalar old) begun begun (as_before begun)) (λ _ between.
    bind between _ _ (communicated_builds t l x O.Nothing (v ∷ O.Scalar old ∷ []) (O.Scalar dest) between between (as_before between)) (λ _ after. stored_builds t l x there (O.Scalar dest) after after (as_before after))))

updated_builds : {on : Setting} (t : Typed) (l : Layout) (x : TExpr) (op : Op) (place : Place) (target value : TExpr) (shape : Option ℕ) (spot : Draft → Made Spot) (code : Code) → IsInward on spot → IsInward on code → IsInward on (updated_by t l x op place target value shape spot code)
unfolding updated_by
updated_builds t l x op place target value (Some set) spot code s c d e b =
    bind d _ _ (fresh_entry set 32 _ d e b) (λ dest begun. bind begun _ _ (fresh_entry set 32 _ begun begun (as_before begun)) (λ spare next.
    bind next _ _ (s next next (as_before next)) (λ there between. bind between _ _ (right_by_builds _ op value (operand_builds t l 32 code true value c) between between (as_before between)) (λ v after.
    field_updated_builds t l x op _ place target dest spare there v after after (as_before after)))))
updated_builds t l x op place target value None spot code s c d e b =
    bind d _ _ (fresh_register d e b) (λ dest begun. bind begun _ _ (s begun begun (as_before begun)) (λ there between. bind between _ _ (operand_builds t l _ code true value c between between (as_before between)) (λ v after.
    either (is_kept value) after _ _ (register_updated_builds t l x op _ place target dest there v after after (as_before after)) (register_folded_builds t l x target dest there v after after (as_before after)))))

assigned_builds : {on : Setting} (t : Typed) (l : Layout) (x : TExpr) (bits : ℕ) (op : Option Op) (place : Place) (target value : TExpr) (shape : Option ℕ) (spot : Draft → Made Spot) (code : Code) → IsInward on spot → IsInward on code → IsInward on (assigned_by t l x bits op place target value shape spot code)
unfolding assigned_by plainly_set_by
assigned_builds t l x bits None place target value (Some set) spot code s c d e b = set_builds t l x spot _ s (spread_by_builds code value set bits c) d e b
assigned_builds t l x bits None place target value None spot code s c d e b = set_builds t l x spot code s c d e b
assigned_builds t l x bits (Some op) place target value shape spot code s c d e b = updated_builds t l x op place target value shape spot code s c d e b

pub assign_builds : {on : Setting} (t : Typed) (l : Layout) (x : TExpr) (bits : ℕ) (op : AssignOp) (place : Place) (target value : TExpr) (spot : Draft → Made Spot) (code : Code) → IsInward on spot → IsInward on code → IsInward on (assign_by t l x bits op place target value spot code)
unfolding assign_by
assign_builds t l x bits op place target value spot code s c d e b =
    either (is_send target) d _ _ (sent_builds t l x spot _ s (spread_by_builds code value _ _ c) d e b)
    (lowest_builds bits d _ (assigned_builds t l x _ (assign_op_of op) place target value (type_of target).shape spot code s c d e b))

-- steps
stepped_once_builds : {on : Setting} (l : Layout) (op : StepOp) (old new : Out) → IsInward on (stepped_once l op old new)
unfolding stepped_once is_inward step
stepped_once_builds l op old (O.Scalar r) d e b = on_register d old _ (λ q. bind d _ _ (word_in_builds l 1 d e b) (λ one after. search inner depth 12))
stepped_once_builds l op old (O.Field f) d e b = search inner depth 12
stepped_once_builds l op old O.Nothing d e b = fails d

stepped_at_builds : {on : Setting} (t : Typed) (l : Layout) (x : TExpr) (op : StepOp) (target : TExpr) (there : Spot) (old new : Out) → IsInward on (stepped_at t l x op target there old new)
unfolding stepped_at
stepped_at_builds t l x op target there old new d e b =
    bind d _ _ (loaded_builds t l target there old d e b) (λ _ begun. bind begun _ _ (stepped_once_builds l op old new begun begun (as_before begun)) (λ _ between.
    bind between _ _ (converted_builds new (type_of target).elem between between (as_before between)) (λ _ after. stored_builds t l x there new after after (as_before after))))

stepped_in_builds : {on : Setting} (t : Typed) (l : Layout) (x : TExpr) (op : StepOp) (order : StepOrder) (target : TExpr) (there : Spot) (outcome second : Out) → IsInward on (stepped_in t l x op order target there outcome second)
unfolding stepped_in
stepped_in_builds t l x op Or.Prefix target there outcome second d e b = bind d _ _ (stepped_at_builds t l x op target there second outcome d e b) (λ _ after. makes _ after after (as_before after))
stepped_in_builds t l x op Or.Postfix target there outcome second d e b = bind d _ _ (stepped_at_builds t l x op target there outcome second d e b) (λ _ after. makes _ after after (as_before after))

pub step_builds : {on : Setting} (t : Typed) (l : Layout) (x : TExpr) (bits : ℕ) (op : StepOp) (order : StepOrder) (target : TExpr) (spot : Draft → Made Spot) → IsInward on spot → IsInward on (step_by t l x bits op order target spot)
unfolding step_by
step_builds t l x bits op order target spot s d e b =
    bind d _ _ (fresh (type_of target).shape 32 d e b) (λ outcome begun. bind begun _ _ (fresh (type_of target).shape 32 begun begun (as_before begun)) (λ second next.
    bind next _ _ (s next next (as_before next)) (λ there after. lowest_builds bits after _ (stepped_in_builds t l x op order target there outcome second after after (as_before after)))))
