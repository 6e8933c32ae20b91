-- What locates, reads and writes targets stays within itself: of the elements of an array one is read, or
-- written, and the others are jumped over.
use Rattle.std.proofs.Common.{ℕ, zero, suc, ◌+◌, ◌-◌, ◌^◌, Bool, List, slice_get, refl, arith}
use Rattle.cstar_base.specs.declared.operators.Place.{Place}
use Rattle.cstar_tree.specs.declared.typed.TExpr.{TExpr}
use Rattle.cstar_tree.specs.declared.typed.Typed.{Typed}
use Rattle.cstar_tree.specs.declared.typed.Variable.{Variable}
use Rattle.paris_code.specs.declared.operands.Field.{Field}
use Rattle.paris_code.specs.declared.operands.Compare.TheVariants as C
use Rattle.paris_code.specs.declared.instr.Instr.TheVariants as I
use Rattle.lower_base.specs.declared.emit.Out.{Out}
use Rattle.lower_base.specs.declared.emit.Out.TheVariants as O
use Rattle.lower_base.specs.Constants.{word_in}
use Rattle.lower_base.specs.Drafts.{Draft, Step, Made, Plain, FrontChecksTarget, a_register, here, step, then_make, with_instr, with_step}
use Rattle.lower_base.specs.Layouts.{Layout, elements_of, field_of}
use Rattle.lower_expr.specs.declared.spots.Spot.{Spot}
use Rattle.lower_expr.specs.declared.spots.Spot.TheVariants as S
use Rattle.lower_expr.specs.Spots.{elements_loaded, elements_stored, everywhere_at, field_loaded, field_stored, index_checked, loaded, skips_unless, stored}
use Rattle.lower_expr.specs.Steps.{put_in_field}
use Rattle.code_lengths.specs.Growth.{Anything}
use Rattle.code_lengths.proofs.Readiness.{made_field_grows}
use Rattle.proper_code.proofs.Stretches.{if_nonzero, if_zero, is_inward}
use Rattle.proper_code.proofs.Writing.{one_further}
use Rattle.proper_code.proofs.Building.{Setting, Builds, Built, as_before, behind, bind, fresh_register, inner, looked_up, makes, more_step, on_field}
use Rattle.proper_code.proofs.Jumping.{Measures, jump_over, measured_bind, measured_builds, measured_if_made, none_made, nothing_measured, one_made, over, regrouped, regrouped_back}
use Rattle.proper_code.proofs.MessagePieces.{communicated_builds}
use Rattle.proper_code.proofs.ShortPieces.{field_of_builds, put_value_builds, word_in_builds}

-- a field is copied by one instruction
field_found : {on : Setting} (t : Typed) (l : Layout) (x : Variable) (element : ℕ) (d : Draft) → Measures on 0 d (field_of t l x element d)
field_found t l x element d = measured_if_made Anything 0 d _ (λ there. made_field_grows ⊥ t l x element d there) (field_of_builds t l x element d d (as_before d))

field_loaded_measures : {on : Setting} (t : Typed) (l : Layout) (signed : Bool) (x : Variable) (element : ℕ) (dest : Field) (d : Draft) → Measures on 1 d (field_loaded t l signed x element dest d)
unfolding field_loaded is_inward step
field_loaded_measures t l signed x element dest d = measured_bind 0 1 d _ _ (field_found t l x element d) (λ source after _. one_made _ _ after refl)

put_measures : {on : Setting} (dest : Field) (v : Out) (d : Draft) → Measures on 1 d (put_in_field dest v d)
unfolding put_in_field is_inward step
put_measures dest (O.Scalar r) d = one_made _ _ d refl
put_measures dest (O.Field f) d = one_made _ _ d refl
put_measures dest O.Nothing d = nothing_measured 1 d

field_stored_measures : {on : Setting} (t : Typed) (l : Layout) (x : Variable) (element : ℕ) (v : Out) (d : Draft) → Measures on 1 d (field_stored t l x element v d)
unfolding field_stored
field_stored_measures t l x element v d = measured_bind 0 1 d _ _ (field_found t l x element d) (λ dest between _. measured_bind 1 0 between _ _ (put_measures dest v between) (λ _ after _. none_made v after))

-- one instruction is jumped over unless the index is a number
skip_one : (on : Setting) (index word test : ℕ) (after : Draft) (next : Draft → Made Out) → ((c : Draft) → Measures on 1 c (next c)) →
    Builds on after (next (with_instr (I.FrontJumpZero test (here after + 3)) (with_instr (I.FrontCompare C.UEq test index word) after)))
unfolding with_instr step is_inward
skip_one on index word test after next m =
    let c : Draft = with_step (Plain (I.FrontCompare C.UEq test index word)) after in
    let far = one_further (Plain (I.FrontCompare C.UEq test index word)) after in
    behind after c _ (more_step _ after after refl (as_before after))
    (measured_builds 2 c _ (jump_over 1 (Plain (I.FrontJumpZero test (here after + 3))) (here after + 3) c _ (if_zero test (here after + 3)) (omega (arith, far)) (m _)))

one_skipped : (on : Setting) (l : Layout) (index number : ℕ) (d : Draft) (next : Draft → Made Out) → ((c : Draft) → Measures on 1 c (next c)) → Builds on d (then_make (skips_unless l index number d) (λ _ between. next between))
unfolding skips_unless then_make
one_skipped on l index number d next m =
    regrouped d (word_in l number d) _ _ (bind d _ _ (word_in_builds l number d d (as_before d)) (λ word between.
    regrouped between (a_register between) _ _ (bind between _ _ (fresh_register between between (as_before between)) (λ test after. skip_one on index word test after next m))))

elements_loaded_builds : {on : Setting} (t : Typed) (l : Layout) (signed : Bool) (array : Variable) (index : ℕ) (dest : Field) (many element : ℕ) (d e : Draft) → Built on d e → Builds on d (elements_loaded t l signed array index dest many element e)
unfolding elements_loaded
elements_loaded_builds t l signed array index dest zero element d e b = makes _ d e b
elements_loaded_builds t l signed array index dest (suc many) element d e b =
    behind d e _ b (regrouped_back e (skips_unless l index element e) _ _
    (bind e _ _ (one_skipped _ l index element e _ (λ c. field_loaded_measures t l signed array element dest c)) (λ _ after. elements_loaded_builds t l signed array index dest many (element + 1) after after (as_before after))))

elements_stored_builds : {on : Setting} (t : Typed) (l : Layout) (array : Variable) (index : ℕ) (v : Out) (many element : ℕ) (d e : Draft) → Built on d e → Builds on d (elements_stored t l array index v many element e)
unfolding elements_stored
elements_stored_builds t l array index v zero element d e b = makes _ d e b
elements_stored_builds t l array index v (suc many) element d e b =
    behind d e _ b (regrouped_back e (skips_unless l index element e) _ _
    (bind e _ _ (one_skipped _ l index element e _ (λ c. field_stored_measures t l array element v c)) (λ _ after. elements_stored_builds t l array index v many (element + 1) after after (as_before after))))

-- what a target has, and what it takes
pub loaded_builds : {on : Setting} (t : Typed) (l : Layout) (target : TExpr) (spot : Spot) (dest : Out) (d e : Draft) → Built on d e → Builds on d (loaded t l target spot dest e)
unfolding loaded is_inward step
loaded_builds t l target (S.Register source) dest d e b = search inner depth 12
loaded_builds t l target (S.Whole x) dest d e b = on_field d dest _ (λ f. behind d e _ b (measured_builds 1 e _ (field_loaded_measures t l _ x 0 f e)))
loaded_builds t l target (S.Element array index) dest d e b = on_field d dest _ (λ f. elements_loaded_builds t l _ array index f _ 0 d e b)
loaded_builds t l target (S.Indexed at) dest d e b = search (inner, communicated_builds) depth 12

pub stored_builds : {on : Setting} (t : Typed) (l : Layout) (x : TExpr) (spot : Spot) (v : Out) (d e : Draft) → Built on d e → Builds on d (stored t l x spot v e)
unfolding stored
stored_builds t l x (S.Register dest) v d e b = search (inner, put_value_builds) depth 12
stored_builds t l x (S.Whole y) v d e b = behind d e _ b (measured_builds 1 e _ (field_stored_measures t l y 0 v e))
stored_builds t l x (S.Element array index) v d e b = elements_stored_builds t l array index v _ 0 d e b
stored_builds t l x (S.Indexed at) v d e b = search (inner, communicated_builds) depth 12

-- the check of an index, of which the failing half is jumped over
range_checked : (on : Setting) (place : Place) (set index limit test : ℕ) (extents : List ℕ) (after : Draft) →
    Built on after (with_step (FrontChecksTarget set place (everywhere_at test extents)) (with_instr (I.FrontConst test (2 ^ 32 - 1)) (with_instr (I.FrontJumpNonzero test (here after + 4)) (with_instr (I.FrontCompare C.ULt test index limit) after))))
unfolding with_instr step is_inward
range_checked on place set index limit test extents after =
    let compare : Step = Plain (I.FrontCompare C.ULt test index limit) in
    let jump : Step = Plain (I.FrontJumpNonzero test (here after + 4)) in
    let const : Step = Plain (I.FrontConst test (2 ^ 32 - 1)) in
    let c : Draft = with_step compare after in
    let j : Draft = with_step jump c in
    let k : Draft = with_step const j in
    let one = one_further compare after in
    let two = one_further jump c in
    let three = one_further const j in
    let four = one_further (FrontChecksTarget set place (everywhere_at test extents)) k in
    over on jump (here after + 4) after c (with_step (FrontChecksTarget set place (everywhere_at test extents)) k) (if_nonzero test (here after + 4)) (omega (arith, one, two, three, four)) (omega (arith, one))
    (more_step compare after after refl (as_before after)) (more_step _ j k refl (more_step const j j refl (as_before j)))

pub index_checked_builds : {on : Setting} (t : Typed) (l : Layout) (array : Variable) (set : ℕ) (place : Place) (index : ℕ) (d e : Draft) → Built on d e → Builds on d (index_checked t l array set place index e)
unfolding index_checked
index_checked_builds t l array set place index d e b =
    bind d _ _ (word_in_builds l (elements_of t l array) d e b) (λ limit between. bind between _ _ (fresh_register between between (as_before between)) (λ test after.
    looked_up after (slice_get t.shapes.items set) _ (λ info _. makes test after _ (range_checked _ place set index limit test info.extents.items after))))
