use Rattle.std.proofs.Common.{◌+◌, ◌∙◌, ap, arith, take}
use Rattle.std.specs.Prelude.{min}
use Rattle.cstar_tree.specs.FileScopes.{behind_shapes}
use Rattle.file_names.proofs.Steps.{next_shape, shape_step}
use Rattle.file_names.proofs.numbering.Numbering.shapes.Goals as goal

pub loop-shape-init : goal.loop-shape-init
unfolding behind_shapes
loop-shape-init c functions known numbers = numbers

pub loop-shape-preserved : goal.loop-shape-preserved
loop-shape-preserved c functions known numbers =
    let new = c.in_ok-new.ensures in
    let count = c.saturating_add-self.ensures ∙ ap (λ n. min (n + c.from.result) 65535) new.shapes ∙ ap (λ n. min (c.loop-shape.self.shapes + n) 65535) c.from.ensures in
    rw (next_shape functions known c.args.shapes.now c.loop-shape.shape-index c.shape-item.result (omega arith) c.shape-item.is)
    (shape_step functions c.loop-shape.self _ (behind_shapes functions known (take c.loop-shape.shape-index c.args.shapes.now)) c.shape-item.result c.in_ok-new.new
    (record { is_new = new.is_new; names = new.names; all = new.all }) count new.functions new.variables (c.loop-shape.invariant functions known numbers))
