use Rattle.std.proofs.Common.{◌<◌, ◌∙◌, arith}
use Rattle.std.proofs.lemmas.Grind.{common_steps}
use Rattle.lower_base.specs.Layouts.{entries_of}
use Rattle.lower_stmt.proofs.ElementFinals.{final_is, one_more_final}
use Rattle.lower_stmt.proofs.program.add_elements.Goals as goal

pub loop-element-preserved : goal.loop-element-preserved
loop-element-preserved c =
    let below : c.loop-element.element < entries_of c.args.info.now = omega arith in
    let items = c.in_ok-push.ensures.items in
    record {
      items =
          one_more_final c.args.info.now c.args.set (entries_of c.args.info.now) c.loop-element.element c.loop-element.finals.items c.push.new.self.items _ below items
          (final_is c.args.info.now c.args.set c.loop-element.element _ _ _ c.in_ok-name.ensures (grind (arith, common_steps)))
          ∙ c.loop-element.invariant.items;
      count = grind (arith, common_steps);
    }
