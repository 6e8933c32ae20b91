use Rattle.std.proofs.Common.{◌∙◌, ◌*◌, ap}
use Rattle.cstar_tree.specs.Room.{bits_of, of_shape}
use Rattle.shape_room.proofs.Counting.{of_shape_counted, times}
use Rattle.shape_room.specs.Counted.{counted}
use Rattle.shape_room.proofs.room.bits.Goals as goal

pub returns : goal.returns
unfolding bits_of
returns c =
    let length = c.from-length.ensures ∙ c.unwrap_or.ensures in
    let product = c.saturating_mul.ensures ∙ ap (λ n. counted (n * c.from-length.result)) c.from.ensures ∙ ap (λ n. counted (c.args.info.now.elem.bits * n)) length ∙ ap counted (times c.args.info.now.elem.bits c.args.info.now.array) in
    c.on_shape.ensures ∙ ap (of_shape c.args.shape c.args.info.now.shape) product ∙ of_shape_counted c.args.shape c.args.info.now.shape _
