use Rattle.std.proofs.Common.{◌∙◌, ◌*◌, suc, drop, take, sym, ap}
use Rattle.vp_sets.specs.Positions.{position_count}
use Rattle.reduce_scan.proofs.Order.{count_split, same_lines}
use Rattle.reduce_scan.proofs.lines.Lines.of.Goals as goal

pub returns-clause-value : goal.returns-clause-value
returns-clause-value c =
    same_lines c.args.direction _ _ _ _ _ _ c.extent.ensures.value c.stride.ensures.value c.positions.ensures.value

pub returns-clause-lines : goal.returns-clause-lines
returns-clause-lines c =
    let xs = c.args.geometry.now in
    let k = c.args.axis in
    record {
      some = c.extent.ensures.positive;
      apart = c.stride.ensures.positive;
      few = c.positions.ensures.bound;
      rows = position_count (take k xs);
      filled = c.positions.ensures.value ∙ count_split xs k c.requires
          ∙ ap (λ e. position_count (take k xs) * (e * position_count (drop (suc k) xs))) (sym c.extent.ensures.value)
          ∙ ap (λ t. position_count (take k xs) * (c.extent.result * t)) (sym c.stride.ensures.value);
    }
