-- The code of communication and of calls stays within itself.
use denote.Hole.Carrier
use Rattle.std.proofs.Common.{ℕ, ◌+◌, ◌<◌, Bool, not, ◌==◌, ◌&&◌, List, [], ◌∷◌, length, Option, Some, None, refl, append_assoc}
use Rattle.std.proofs.lemmas.Option.{slice_get_within}
use Rattle.cstar_base.specs.declared.elem.Elem.{Elem}
use Rattle.cstar_base.specs.declared.operators.Op.{Op}
use Rattle.cstar_base.specs.declared.operators.Op.TheVariants as P
use Rattle.cstar_base.specs.declared.operators.Place.{Place}
use Rattle.cstar_tree.specs.declared.syntax.ReduceOp.{ReduceOp}
use Rattle.cstar_tree.specs.declared.syntax.ReduceOp.TheVariants as Re
use Rattle.cstar_tree.specs.declared.typed.TExpr.{TExpr, out-TExpr}
use Rattle.cstar_tree.specs.declared.typed.TExpr as T
use Rattle.cstar_tree.specs.declared.typed.Typed.{Typed}
use Rattle.cstar_tree.specs.declared.typed.VarInfo.{VarInfo}
use Rattle.cstar_tree.specs.declared.typed.Variable.{Variable}
use Rattle.paris_code.specs.declared.operands.Field.{Field}
use Rattle.paris_code.specs.declared.operands.GridStep.{GridStep}
use Rattle.paris_code.specs.declared.operands.Reduction.{Reduction}
use Rattle.paris_code.specs.declared.instr.Instr.TheVariants as I
use Rattle.lower_base.specs.declared.emit.Out.{Out}
use Rattle.lower_base.specs.declared.emit.Out.TheVariants as O
use Rattle.lower_comm.specs.declared.gets.Hop.{Hop}
use Rattle.lower_base.specs.Drafts.{Draft, Made, Plain, step, with_instr, with_step, here}
use Rattle.lower_base.specs.Kinds.{fold_kind}
use Rattle.lower_base.specs.Layouts.{Layout}
use Rattle.lower_comm.specs.Messages as C
use Rattle.lower_comm.specs.Messages.{all_in_registers, all_somewhere, assigned, checked_grid, communicated, each_located, enumerated, folded_onto, front_located, gotten_by_steps, hopped, indexed, indexed_field, is_extended, located, located_at, negated_by, part_field, part_register, read_at, reduced, scanned, segment_field, sent, sent_to, sent_value, stepwise, with_fold, with_grid_check, with_hop, with_sign}
use Rattle.lower_expr.specs.Frames as F
use Rattle.lower_expr.specs.Frames.{argument_passed, called, field_given, finished, passed, register_given, result_given, zeroed_entry}
use Rattle.code_lengths.proofs.Drafting.{and_instr, as_it_was}
use Rattle.proper_code.proofs.Stretches.{IsStretch, Ways, is_inward, turn_and_call}
use Rattle.proper_code.proofs.Writing.{stretch_written}
use Rattle.proper_code.proofs.Building.{Setting, Builds, Built, Grew, as_before, bind, either_more, fails, further, inner, inward, looked_up, makes, more, on_field, on_register, option}
use Rattle.proper_code.proofs.ShortPieces.{field_of_builds, put_in_field_builds, put_value_builds}

-- left indexes that are located
located_at_builds : {on : Setting} (place : Place) (of : ℕ) (indexes : List TExpr) (outs : List Out) (at : Out) (d e : Draft) → Built on d e → Builds on d (located_at place of indexes outs at e)
unfolding located_at front_located each_located is_inward
located_at_builds place of indexes outs (O.Scalar r) d e b = search inner depth 12
located_at_builds place of indexes outs (O.Field f) d e b = search inner depth 12
located_at_builds place of indexes outs O.Nothing d e b = search inner depth 12

pub located_builds : {on : Setting} (x : TExpr) (outs : List Out) (at : Out) (d e : Draft) → Built on d e → Builds on d (located x outs at e)
unfolding located out-TExpr Carrier.out
located_builds (T.LeftIndex' ty place p indexes x of) outs at d e b = located_at_builds place of _ outs at d e b
located_builds _ outs at d e b = fails d

grid_checked : {w : Ways} (set : ℕ) (place : Place) (steps : List GridStep) (d e : Draft) → Grew w d e → Grew w d (with_grid_check set place steps e)
unfolding with_grid_check is_inward
grid_checked set place [] d e b = b
grid_checked set place (s ∷ steps) d e b = search inner depth 12

-- gets by NEWS
stepwise_more : {w : Ways} (elem : Elem) (dest : Field) (steps : List GridStep) (hop : Hop) (d e : Draft) → Grew w d e → Grew w d (stepwise elem dest steps hop e)
unfolding stepwise with_hop is_inward step
stepwise_more elem dest [] hop d e b = search inner depth 12
stepwise_more elem dest (s ∷ steps) hop d e b = either_more (length steps == 0 && not (is_extended elem dest)) d _ _ (search inner depth 12) (stepwise_more elem dest steps (hopped hop) d _ (more _ d e refl b))

gotten_builds : {on : Setting} (of : ℕ) (indexes : List TExpr) (elem : Elem) (source dest : Field) (d e : Draft) → Built on d e → Builds on d (gotten_by_steps of indexes elem source dest e)
unfolding gotten_by_steps
gotten_builds of indexes elem source dest d e b = search (inner, stepwise_more) depth 12

read_at_builds : {on : Setting} (of : ℕ) (indexes : List TExpr) (elem : Elem) (source : Field) (at into : Out) (d e : Draft) → Built on d e → Builds on d (read_at of indexes elem source at into e)
unfolding read_at is_inward step
read_at_builds of indexes elem source (O.Scalar r) into d e b = search inner depth 12
read_at_builds of indexes elem source (O.Field f) into d e b = search inner depth 12
read_at_builds of indexes elem source O.Nothing into d e b = search (inner, gotten_builds) depth 12

part_register_builds : {B : Type 0} {on : Setting} (parts : List Out) (k : ℕ) (next : ℕ → Made B) (d : Draft) → ((r : ℕ) → Builds on d (next r)) → Builds on d (part_register parts k next)
unfolding part_register
part_register_builds parts k next d f = looked_up d _ _ (λ out _. on_register d out next f)

part_field_builds : {B : Type 0} {on : Setting} (parts : List Out) (k : ℕ) (next : Field → Made B) (d : Draft) → ((f : Field) → Builds on d (next f)) → Builds on d (part_field parts k next)
unfolding part_field
part_field_builds parts k next d f = looked_up d _ _ (λ out _. on_field d out next f)

-- folds
signed_more : {w : Ways} (kind : Option Elem) (dest : ℕ) (d e : Draft) → Grew w d e → Grew w d (with_sign kind dest e)
unfolding with_sign is_inward step
signed_more None dest d e b = b
signed_more (Some kind) dest d e b = search inner depth 12

fold_more : {w : Ways} (op : Op) (x : TExpr) (dest : ℕ) (source : Field) (d e : Draft) → Grew w d e → Grew w d (with_fold op x dest source e)
unfolding with_fold is_inward step
fold_more op x dest source d e b = signed_more (fold_kind op x) dest d _ (more _ d e refl b)

folded_builds : {on : Setting} (op : Option Op) (value : TExpr) (elem : Elem) (parts : List Out) (into : Out) (d e : Draft) → Built on d e → Builds on d (folded_onto op value elem parts into e)
unfolding folded_onto is_inward step
folded_builds op value elem parts into d e b = search (inner, part_field_builds, part_register_builds, fold_more) depth 14

negated_more : {w : Ways} (op : ReduceOp) (dest : ℕ) (d e : Draft) → Grew w d e → Grew w d (negated_by op dest e)
unfolding negated_by is_inward step
negated_more Re.Sub dest d e b = search inner depth 12
negated_more _ dest d e b = b

reduced_builds : {on : Setting} (op : ReduceOp) (operand : TExpr) (parts : List Out) (into : Out) (d e : Draft) → Built on d e → Builds on d (reduced op operand parts into e)
unfolding reduced
reduced_builds op operand parts into d e b = search (inner, part_field_builds, fold_more, negated_more) depth 14

-- stores and sends
indexed_field_builds : {on : Setting} (t : Typed) (l : Layout) (x : TExpr) (d e : Draft) → Built on d e → Builds on d (indexed_field t l x e)
unfolding indexed_field
indexed_field_builds t l x d e b = search (inner, field_of_builds) depth 12

stored_builds : {on : Setting} (t : Typed) (l : Layout) (target : TExpr) (processor : ℕ) (parts : List Out) (d e : Draft) → Built on d e → Builds on d (C.stored t l target processor parts e)
unfolding C.stored is_inward step
stored_builds t l target processor parts d e b = search (inner, indexed_field_builds, part_register_builds) depth 12

sent_value_builds : {on : Setting} (op : Op) (value : Field) (d e : Draft) → Built on d e → Builds on d (sent_value op value e)
unfolding sent_value is_inward step
sent_value_builds P.Sub value d e b = search inner depth 12
sent_value_builds _ value d e b = makes _ d e b

sent_to_builds : {on : Setting} (op : Option Op) (signed : Bool) (kind : Elem) (dest to value : Field) (d e : Draft) → Built on d e → Builds on d (sent_to op signed kind dest to value e)
unfolding sent_to is_inward step
sent_to_builds None signed kind dest to value d e b = search inner depth 12
sent_to_builds (Some op) signed kind dest to value d e b = search (inner, sent_value_builds) depth 12

sent_builds : {on : Setting} (t : Typed) (l : Layout) (target : TExpr) (op : Option Op) (signed : Bool) (to : Field) (parts : List Out) (d e : Draft) → Built on d e → Builds on d (sent t l target op signed to parts e)
unfolding sent
sent_builds t l target op signed to parts d e b = search (inner, indexed_field_builds, part_field_builds, sent_to_builds) depth 12

assigned_builds : {on : Setting} (t : Typed) (l : Layout) (target : TExpr) (op : Option Op) (value : TExpr) (at : Out) (parts : List Out) (into : Out) (d e : Draft) → Built on d e → Builds on d (assigned t l target op value at parts into e)
unfolding assigned
assigned_builds t l target op value O.Nothing parts into d e b = folded_builds op value _ parts into d e b
assigned_builds t l target op value (O.Scalar r) parts into d e b = stored_builds t l target r parts d e b
assigned_builds t l target op value (O.Field f) parts into d e b = sent_builds t l target op _ f parts d e b

-- scans
scanned_builds : {on : Setting} (combiner : Reduction) (source : Field) (line : _) (bit : Option Field) (into : Out) (d e : Draft) → Built on d e → Builds on d (scanned combiner source line bit into e)
unfolding scanned is_inward step
scanned_builds combiner source line bit into d e b = search inner depth 12

segment_builds : {on : Setting} (t : Typed) (l : Layout) (bit : Option Variable) (d e : Draft) → Built on d e → Builds on d (segment_field t l bit e)
unfolding segment_field
segment_builds t l None d e b = makes _ d e b
segment_builds t l (Some x) d e b = search (inner, field_of_builds) depth 12

enumerated_builds : {on : Setting} (t : Typed) (l : Layout) (line : _) (bit : Option Variable) (into : Out) (d e : Draft) → Built on d e → Builds on d (enumerated t l line bit into e)
unfolding enumerated is_inward step
enumerated_builds t l line bit into d e b = search (inner, segment_builds, scanned_builds) depth 12

-- one communication
pub communicated_builds : {on : Setting} (t : Typed) (l : Layout) (x : TExpr) (at : Out) (parts : List Out) (into : Out) (d e : Draft) → Built on d e → Builds on d (communicated t l x at parts into e)
unfolding communicated out-TExpr Carrier.out
communicated_builds t l (T.LeftIndex' ty place p indexes x of) at parts into d e b = search (inner, field_of_builds, read_at_builds) depth 12
communicated_builds t l (T.Assign' ty place op p target q value) at parts into d e b = assigned_builds t l target _ value at parts into d e b
communicated_builds t l (T.Step' ty op order p target) at parts into d e b = search (inner, stored_builds) depth 12
communicated_builds t l (T.Reduce' ty op p operand) at parts into d e b = reduced_builds op operand parts into d e b
communicated_builds t l (T.Scan' ty p source axis combiner direction mode bit within) at parts into d e b = search (inner, part_field_builds, segment_builds, scanned_builds) depth 12
communicated_builds t l (T.Enumerate ty axis direction within mode bit) at parts into d e b = enumerated_builds t l _ bit into d e b
communicated_builds t l _ at parts into d e b = fails d

pub grid_builds : {on : Setting} (x : TExpr) (d e : Draft) → Built on d e → Builds on d (checked_grid x e)
unfolding checked_grid out-TExpr Carrier.out
grid_builds (T.LeftIndex' ty place p indexes x of) d e b = makes _ d _ (grid_checked _ place _ d e b)
grid_builds _ d e b = fails d

-- calls
zeroed_builds : {on : Setting} (unit set bits index : ℕ) (d e : Draft) → Built on d e → Builds on d (zeroed_entry unit set bits index e)
unfolding zeroed_entry is_inward step
zeroed_builds unit set bits index d e b = search inner depth 12

turn_and_call_more : (on : Setting) (unit : ℕ) (d e : Draft) → on.units unit → Built on d e → Built on d (F.turn_and_call unit e)
unfolding F.turn_and_call with_instr step with_step inward
turn_and_call_more on unit d e known b = further d e _ b (record {
  count = 2;
  grown = and_instr (I.FrontCall unit) e _ 1 (and_instr I.FrontTurn e e 0 (as_it_was e));
  wrote = stretch_written (inward on) e _ (Plain I.FrontTurn ∷ Plain (I.FrontCall unit) ∷ []) (append_assoc e.code (Plain I.FrontTurn ∷ []) (Plain (I.FrontCall unit) ∷ [])) (called_stretch on (here e) unit known);
})
  where
    called_stretch : (on : Setting) (place unit : ℕ) → on.units unit → IsStretch (inward on) place (Plain I.FrontTurn ∷ Plain (I.FrontCall unit) ∷ [])
    called_stretch on place unit known = turn_and_call (inward on) place unit known

register_given_builds : {on : Setting} (unit source : ℕ) (dest : Out) (d e : Draft) → on.units unit → Built on d e → Builds on d (register_given unit source dest e)
unfolding register_given is_inward step
register_given_builds unit source dest d e known b = on_register d dest _ (λ r. makes _ d _ (more _ d _ refl (turn_and_call_more _ unit d _ known (more _ d e refl b))))

field_given_builds : {on : Setting} (unit : ℕ) (info : VarInfo) (set index : ℕ) (dest : Out) (d e : Draft) → on.units unit → Built on d e → Builds on d (field_given unit info set index dest e)
unfolding field_given is_inward step
field_given_builds unit info set index dest d e known b =
    bind d _ _ (zeroed_builds unit set info.elem.bits index d e b) (λ source after. on_field after dest _ (λ f. makes _ after _ (more _ after _ refl (turn_and_call_more _ unit after after known (as_before after)))))

finished_builds : {on : Setting} (unit : ℕ) (outcome : Option VarInfo) (register index : ℕ) (dest : Out) (d e : Draft) → on.units unit → Built on d e → Builds on d (finished unit outcome register index dest e)
unfolding finished result_given
finished_builds unit None register index dest d e known b = makes _ d _ (turn_and_call_more _ unit d e known b)
finished_builds unit (Some info) register index dest d e known b = option info.shape d _ _ (λ set. field_given_builds unit info set index dest d e known b) (register_given_builds unit register dest d e known b)

argument_builds : {on : Setting} (unit : ℕ) (param : VarInfo) (register index : ℕ) (v : Out) (d e : Draft) → Built on d e → Builds on d (argument_passed unit param register index v e)
unfolding argument_passed
argument_builds unit param register index v d e b =
    option param.shape d _ _ (λ set. search (inner, zeroed_builds, put_in_field_builds) depth 12) (search (inner, put_value_builds) depth 12)

passed_builds : {on : Setting} (unit : ℕ) (outcome : Option VarInfo) (params : List VarInfo) (vs : List Out) (register index : ℕ) (dest : Out) (d e : Draft) → on.units unit → Built on d e → Builds on d (passed unit outcome params vs register index dest e)
unfolding passed
passed_builds unit outcome [] vs register index dest d e known b = finished_builds unit outcome register index dest d e known b
passed_builds unit outcome (param ∷ params) [] register index dest d e known b = finished_builds unit outcome register index dest d e known b
passed_builds unit outcome (param ∷ params) (v ∷ vs) register index dest d e known b =
    bind d _ _ (argument_builds unit param register index v d e b) (λ next after. passed_builds unit outcome params vs (register + 1) next dest after after known (as_before after))

-- of the units of a program those of its instances are called
pub called_builds : {on : Setting} (t : Typed) (l : Layout) (unit : ℕ) (arguments : List Out) (dest : Out) (d e : Draft) → ((number : ℕ) → number < length t.instances.items → on.units number) → Built on d e → Builds on d (called t l unit arguments dest e)
unfolding called
called_builds t l unit arguments dest d e known b =
    looked_up d _ _ (λ callee is. looked_up d _ _ (λ base _. passed_builds unit callee.result callee.params.items arguments base 0 dest d e (known unit (slice_get_within t.instances.items unit callee is)) b))
