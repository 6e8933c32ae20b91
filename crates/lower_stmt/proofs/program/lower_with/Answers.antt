use Rattle.std.proofs.Common.{◌≡◌, ℕ, ◌∙◌, ◌+◌, ◌<◌, ◌==◌, drop, length, slice_get, Some, Vec, ap, refl, sym, arith}
use Rattle.std.specs.declared.alloc.Global.{Global}
use Rattle.std.proofs.lemmas.Grind.{common_steps}
use Rattle.std.proofs.lemmas.List.{at_drop_more}
use Rattle.std.proofs.lemmas.Option.{slice_get_read}
use Rattle.cstar_tree.specs.declared.typed.Typed.{Typed}
use Rattle.lower_base.specs.Drafts.{Makes, draft}
use Rattle.lower_base.specs.Constants.{first_free}
use Rattle.lower_base.specs.Layouts.{layout, layout_of}
use Rattle.lower_stmt.specs.Programs.{instructions_in, slots_behind, unit_of, units_of}
use Rattle.lower_stmt.proofs.UnitsPushed.{first_unit, instructions_more, one_more_unit, slots_more}
use Rattle.lower_stmt.proofs.program.lower_with.Goals as goal

pub loop-number-init : goal.loop-number-init
unfolding slots_behind instructions_in
loop-number-init c =
    let words = c.args.words.items in
    let same : layout c.in_ok-view.view.names ≡ layout_of c.args.t.now words 0 = c.in_ok-view.ensures.names in
    let free : c.in_ok-slots.slots ≡ first_free (layout_of c.args.t.now words 0) = c.in_ok-slots.ensures ∙ ap first_free same in
    let none = c.new-units.ensures.items in
    record { known = (0, same); program = c.in_ok-view.ensures.typed; bases = c.in_ok-view.ensures.each_instance; units = grind (arith, common_steps, free, none); each = grind (arith, common_steps, none); slots = grind (arith, common_steps, free, none); instructions = grind (arith, common_steps, none); numbered = omega arith }

pub lower_unit-requires : goal.lower_unit-requires
lower_unit-requires c =
    let words = c.args.words.items in
    let known = c.loop-number.invariant.known in
    let same = c.loop-number.invariant.program in
    let program : c.enter.new.self.typed.now ≡ c.args.t.now = c.enter.ensures.typed ∙ same in
    let entered = c.in_ok-enter.ensures.names words known.0 (known.1 ∙ ap (λ (t : Typed). layout_of t words known.0) (sym same)) in
    let seen : layout c.enter.new.self.names ≡ layout_of c.args.t.now words c.loop-number.number =
    entered ∙ ap (λ (t : Typed). layout_of t words c.loop-number.number) same in
    let below : c.loop-number.number < length c.deref-instance-items.result.now = omega arith in
    let item : slice_get c.args.t.now.instances.items c.loop-number.number ≡ Some c.instance-item.result
    = rw (← c.deref-instance-items.ensures.value) (slice_get_read c.deref-instance-items.result.now _ c.loop-number.number c.instance-item.result refl below c.instance-item.is)
    in
    record { made = rw (seen, program) (c.requires.units words c.loop-number.number c.loop-number.slots c.instance-item.result item) }

pub loop-number-preserved : goal.loop-number-preserved
loop-number-preserved c =
    let words = c.args.words.items in
    let known = c.loop-number.invariant.known in
    let same = c.loop-number.invariant.program in
    let program : c.enter.new.self.typed.now ≡ c.args.t.now = c.enter.ensures.typed ∙ same in
    let entered = c.in_ok-enter.ensures.names words known.0 (known.1 ∙ ap (λ (t : Typed). layout_of t words known.0) (sym same)) in
    let seen : layout c.enter.new.self.names ≡ layout_of c.args.t.now words c.loop-number.number =
    entered ∙ ap (λ (t : Typed). layout_of t words c.loop-number.number) same in
    let below : c.loop-number.number < length c.deref-instance-items.result.now = omega arith in
    let more =
    at_drop_more (λ instances. units_of c.args.t.now words instances c.loop-number.number c.loop-number.slots) c.deref-instance-items.result.now
    c.loop-number.number c.instance-item.result below
    in
    let made : unit_of c.args.t.now (layout_of c.args.t.now words c.loop-number.number) (c.loop-number.number == 0) c.loop-number.slots c.instance-item.result
    ≡ Makes tt (draft c.in_ok-unit.unit)
    = rw (← seen, ← program) c.in_ok-unit.ensures.draft
    in
    let first =
    first_unit c.args.t.now words c.instance-item.result (drop (c.loop-number.number + 1) c.deref-instance-items.result.now) c.loop-number.number
    c.loop-number.slots c.in_ok-unit.unit made
    in
    let pushed =
    one_more_unit c.loop-number.units.items c.in_ok-unit.unit
    (units_of c.args.t.now words (drop (c.loop-number.number + 1) c.deref-instance-items.result.now) (c.loop-number.number + 1) c.in_ok-unit.unit.regs)
    in
    let slots = slots_more (first_free (layout_of c.args.t.now words 0)) c.loop-number.units.items c.in_ok-unit.unit in
    let instructions = instructions_more c.loop-number.units.items c.in_ok-unit.unit in
    let items = c.in_ok-push.ensures.items in
    let item = c.instance-item.is in
    let so_far = c.loop-number.invariant.units in
    record {
      known = (c.loop-number.number, seen);
      program = program;
      bases = ap (λ (v : Vec ℕ Global). length v.items) c.enter.ensures.each_instance ∙ c.loop-number.invariant.bases;
      units = cc (more, first, pushed, items, item, so_far);
      each = grind (arith, common_steps, items, c.loop-number.invariant.each);
      slots = cc (slots, items);
      instructions = grind (arith, common_steps, instructions, items);
      numbered = omega arith;
    }
