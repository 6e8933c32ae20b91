-- The instructions that send, and the boards that they ask for.
use Rattle.std.proofs.Common.{◌≡◌, ℕ, ◌<◌, ◌-◌, ◌^◌, true, List, length, All, Option, Some, None, refl, sym, ◌∙◌, ap, subst, arith}
use Rattle.std.specs.Prelude.{slice_index, unwrap_or}
use Rattle.vp_sets.proofs.PositionLaws.{geometry_parts}
use Rattle.cstar_base.specs.Numbers.{residue, converted}
use Rattle.combine_core.specs.declared.message.Message.{Message}
use Rattle.combine_core.specs.Cells.{TargetsBelow}
use Rattle.combine_core.specs.Folded.{folded}
use Rattle.combine_board.specs.Values.{Plan}
use Rattle.paris_code.specs.declared.instr.Instr.{Instr}
use Rattle.paris_code.specs.declared.instr.Instr.TheVariants as I
use Rattle.paris_code.specs.declared.operands.Field.{Field}
use Rattle.paris_code.specs.declared.program.Reply.TheVariants as R
use Rattle.paris_code.specs.Fetching.{at_all}
use Rattle.paris_code.specs.Meaning.{Means}
use Rattle.paris_code.specs.Memory.{BitMemory, SameBits, whole_number, processors}
use Rattle.paris_code.specs.Operands.{result_of}
use Rattle.paris_code.specs.Sending.{word_kind}
use Rattle.paris_code.specs.Shapes.{SetShape, no_shape, extents_at}
use Rattle.paris_code.specs.Sound.{IsShape}
use Rattle.paris_code.specs.Writes.{written}
use Rattle.phase_meaning.specs.Apply.{CanApply, is_send}
use Rattle.phase_meaning.proofs.FieldLemmas.{lies}
use Rattle.combine_send.specs.declared.send.Send.{Send}
use Rattle.combine_send.specs.Boards.{CanLoad, IsPlanOf}
use Rattle.combine_send.specs.Sends.{send_of, SendFits}
use Rattle.combine_send.specs.Slots.{AreSlotsFrom, kind_for}
use Rattle.combine_send.proofs.Board.{rises_from, targets_below}
use Rattle.combine_send.proofs.Own.{HasNumbers}
use Rattle.combine_send.proofs.Sent.{combined_means, overwritten_means}

-- an instruction that sends is a send, and has no result
pub is_one : (instr : Instr) → is_send instr ≡ true → send_of instr ≡ None → ⊥
is_one (I.SendWithOverwrite d kind address a) sends none = cc
is_one (I.SendWithCombiner c d kind address a) sends none = cc
is_one _ sends none = cc

pub no_result : (instr : Instr) → is_send instr ≡ true → result_of instr ≡ None
no_result (I.SendWithOverwrite d kind address a) sends = refl
no_result (I.SendWithCombiner c d kind address a) sends = refl
no_result _ sends = cc

-- what holds of the send that an instruction is
of_send : (P : Send → Type 0) (it send : Send) → Some it ≡ Some send → P it → P send
of_send P it send e holds = subst P (ap (λ o. unwrap_or o it) e) holds

pub send_fits : (shapes : List SetShape) (args : List ℕ) (instr : Instr) (send : Send) → CanApply shapes instr args → send_of instr ≡ Some send → SendFits shapes send
send_fits shapes args (I.SendWithOverwrite d kind address a) send can is =
    of_send (λ s. SendFits shapes s) _ send is
    (lies shapes d can.field.0.0 can.set.0, lies shapes address can.field.1 can.set.1, lies shapes a can.field.2.0 can.set.2, can.field.0.1 can.set.0, sym (can.operands can.set.1 can.set.2))
send_fits shapes args (I.SendWithCombiner c d kind address a) send can is =
    of_send (λ s. SendFits shapes s) _ send is
    (lies shapes d can.field.0.0 can.set.0, lies shapes address can.field.1 can.set.1, lies shapes a can.field.2.0 can.set.2, can.field.0.1 can.set.0, sym (can.operands can.set.1 can.set.2))
send_fits shapes args _ send can is = cc

-- a set has few positions, so the slots and the home words of a send can be put on a board
few_positions : (shapes : List SetShape) (set : ℕ) → All IsShape shapes → set < length shapes → processors shapes set < 2 ^ 32 - 1
few_positions shapes set grids exists = omega (arith, (geometry_parts (extents_at shapes set) (grids set no_shape exists).0).3)

pub can_load : (shapes : List SetShape) (m : BitMemory) (send : Send) (home : List ℕ) (slots : List (Option Message)) → All IsShape shapes → SendFits shapes send
    → length slots ≡ processors shapes send.address.set → AreSlotsFrom shapes m send.address send.source (processors shapes send.dest.set) 0 slots → length home ≡ processors shapes send.dest.set
    → CanLoad home slots
can_load shapes m send home slots grids fits each are long = (
  rises_from shapes m send.address send.source (processors shapes send.dest.set) 0 0 slots (omega arith) are,
  subst (λ n. TargetsBelow n slots) (sym long) (targets_below shapes m send.address send.source (processors shapes send.dest.set) slots are),
  omega (arith, each, few_positions shapes send.address.set grids fits.1.0),
  omega (arith, long, few_positions shapes send.dest.set grids fits.0.0),
)

-- a board of these
pub is_plan : (shapes : List SetShape) (m : BitMemory) (send : Send) (plan : Plan) (home : List ℕ) (slots : List (Option Message)) → plan ≡ record { kind = kind_for send.combiner m.winner; slots = slots; home = home }
    → length slots ≡ processors shapes send.address.set → AreSlotsFrom shapes m send.address send.source (processors shapes send.dest.set) 0 slots → length home ≡ processors shapes send.dest.set
    → ((t : ℕ) → t < processors shapes send.dest.set → slice_index home t ≡ residue 32 (whole_number m send.kind.signed send.dest t))
    → IsPlanOf shapes m send plan
is_plan shapes m send plan home slots is each are long at_home =
    subst (λ (p : Plan). IsPlanOf shapes m send p) (sym is) (record { kind = refl; senders = each; slots = are; targets = long; home = at_home })

-- the words that such a board folds, written back, are what the instruction means
abbrev WrittenBack : List SetShape → BitMemory → BitMemory → (ℕ → ℕ) → Send → Type 0
WrittenBack shapes m new words send = SameBits shapes new (written (at_all send.dest (λ t. converted send.kind word_kind (words t))) m)

abbrev FoldedBy : (ℕ → ℕ) → Plan → Type 0
FoldedBy words plan = (t : ℕ) → t < length plan.home → words t ≡ folded plan.kind t (slice_index plan.home t) plan.slots

module _ (shapes : List SetShape) (m : BitMemory) (words : ℕ → ℕ) (send : Send) (plan : Plan) (is : IsPlanOf shapes m send plan) (folds : FoldedBy words plan) where
  by_kind : (t : ℕ) → t < processors shapes send.dest.set → words t ≡ folded (kind_for send.combiner m.winner) t (residue 32 (whole_number m send.kind.signed send.dest t)) plan.slots
  by_kind t b = folds t (omega (arith, b, is.targets)) ∙ ap (λ k. folded k t (slice_index plan.home t) plan.slots) is.kind ∙ ap (λ h. folded (kind_for send.combiner m.winner) t h plan.slots) (is.home t b)

pub sent_means : (shapes : List SetShape) (args others : List ℕ) (m new : BitMemory) (instr : Instr) (send : Send) (plan : Plan) (words : ℕ → ℕ) (numbers : (f : Field) → HasNumbers m f)
    → CanApply shapes instr args → send_of instr ≡ Some send → IsPlanOf shapes m send plan → FoldedBy words plan → WrittenBack shapes m new words send
    → Means shapes instr others m new R.Nothing
sent_means shapes args others m new (I.SendWithOverwrite d kind address a) send plan words numbers can of is folds done =
    let it : Send = record { dest = d; kind = kind; address = address; source = a; combiner = None } in
    let same : send ≡ it = ap (λ o. unwrap_or o it) (sym of) in
    let here : IsPlanOf shapes m it plan = subst (λ s. IsPlanOf shapes m s plan) same is in
    overwritten_means shapes args others m new d kind address a plan.slots words numbers here.slots here.senders (subst (WrittenBack shapes m new words) same done) can (by_kind shapes m words it plan here folds)
sent_means shapes args others m new (I.SendWithCombiner c d kind address a) send plan words numbers can of is folds done =
    let it : Send = record { dest = d; kind = kind; address = address; source = a; combiner = Some c } in
    let same : send ≡ it = ap (λ o. unwrap_or o it) (sym of) in
    let here : IsPlanOf shapes m it plan = subst (λ s. IsPlanOf shapes m s plan) same is in
    combined_means shapes args others m new d kind address a plan.slots words numbers here.slots here.senders (subst (WrittenBack shapes m new words) same done) c can (by_kind shapes m words it plan here folds)
sent_means shapes args others m new _ send plan words numbers can of is folds done = cc
