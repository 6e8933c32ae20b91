use Rattle.std.proofs.Common.{◌*◌, ap, arith}
use Rattle.reduce_scan.proofs.Order.{position_below, one_row}
use Rattle.reduce_scan.proofs.lines.Lines.position.Goals as goal

pub overflow_mul-result : goal.overflow_mul-result
overflow_mul-result c =
    let l = c.args.self.now in
    let is = c.requires.lines in
    omega (arith, one_row is.rows (l.extent * l.apart) c.args.place (omega (arith, is.filled, c.requires.place)), is.filled, is.few)

pub overflow_mul-result-3 : goal.overflow_mul-result-3
overflow_mul-result-3 c =
    let l = c.args.self.now in
    let is = c.requires.lines in
    omega (arith, position_below l.direction l.extent l.apart is.some is.apart is.rows c.args.place (omega (arith, is.filled, c.requires.place)), is.filled, is.few, ap (λ s. s * l.apart) c.steps_before-step.ensures)

pub overflow_add-result : goal.overflow_add-result
overflow_add-result c =
    let l = c.args.self.now in
    let is = c.requires.lines in
    omega (arith, position_below l.direction l.extent l.apart is.some is.apart is.rows c.args.place (omega (arith, is.filled, c.requires.place)), is.filled, is.few, ap (λ s. s * l.apart) c.steps_before-step.ensures)

pub overflow_add-result-2 : goal.overflow_add-result-2
overflow_add-result-2 c =
    let l = c.args.self.now in
    let is = c.requires.lines in
    omega (arith, position_below l.direction l.extent l.apart is.some is.apart is.rows c.args.place (omega (arith, is.filled, c.requires.place)), is.filled, is.few, ap (λ s. s * l.apart) c.steps_before-step.ensures)

pub returns-clause-bound : goal.returns-clause-bound
returns-clause-bound c =
    let l = c.args.self.now in
    let is = c.requires.lines in
    omega (arith, position_below l.direction l.extent l.apart is.some is.apart is.rows c.args.place (omega (arith, is.filled, c.requires.place)), is.filled, ap (λ s. s * l.apart) c.steps_before-step.ensures)
