use Rattle.std.proofs.Common.{◌≡◌, ◌<◌, List, [], ◌∷◌, ◌++◌, length, map, take, get_or, sym, ◌∙◌, ap, subst, arith}
use Rattle.std.proofs.lemmas.List.{take_more}
use Rattle.block_store.specs.Stored.{shape_of_plan}
use Rattle.instruction_runs.specs.declared.deferring.Deferred.{Deferred}
use Rattle.instruction_runs.specs.Passes.{held_in, AllDoneInBlock}
use Rattle.instruction_runs.proofs.Composed.{none_done, one_more, IsOf}
use Rattle.instruction_runs.proofs.settling.do_all_in_block.Goals as goal

pub deferred-init : goal.deferred-init
deferred-init c =
    let pass = c.args.pass.now in
    none_done (map shape_of_plan pass.plans.now) (held_in pass.held.now) pass.batch.now.set c.args.k c.args.block.now.planes.items

pub deferred-preserved : goal.deferred-preserved
deferred-preserved c =
    let pass = c.args.pass.now in
    let shapes = map shape_of_plan pass.plans.now in
    let held = held_in pass.held.now in
    let set = pass.batch.now.set in
    let ds = pass.batch.now.deferred.items in
    let j = c.deferred.d-index in
    let d = c.d-item.result in
    let first = c.args.block.now.planes.items in
    let read = c.as_slice-d-items.ensures in
    let b : j < length ds = omega (arith, ap length read) in
    let at : d ≡ get_or ds j d = c.d-item.is ∙ ap (λ (es : List Deferred). get_or es j d) read in
    subst (λ (es : List Deferred). AllDoneInBlock shapes held set es c.args.k first c.do_in_block.new.block.planes.items)
    (ap (λ (e : Deferred). take j ds ++ e ∷ []) at ∙ sym (take_more ds j d b))
    (one_more shapes held set (take j ds) d c.args.k first c.deferred.block.planes.items c.do_in_block.new.block.planes.items
    (subst (λ (e : Deferred). IsOf shapes set e) (sym at) (c.requires.ready.each j d b)) c.deferred.invariant c.do_in_block.ensures)
