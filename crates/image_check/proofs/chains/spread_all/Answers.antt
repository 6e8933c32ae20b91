use Rattle.std.proofs.Common.{◌∙◌}
use Rattle.image_check.proofs.CallLaws.{reached_join}
use Rattle.image_check.proofs.chains.spread_all.Goals as goal

pub rounds-preserved : goal.rounds-preserved
rounds-preserved c =
    record {
      same = c.spread_each.ensures.same ∙ c.rounds.invariant.same;
      kept = λ other marked. c.spread_each.ensures.kept other (c.rounds.invariant.kept other marked);
      only = λ other marked.
          reached_join c.args.calls.now c.args.marks.now.items c.rounds.marks.items c.rounds.invariant.only other (c.spread_each.ensures.only other marked);
    }

pub returns-clause-only : goal.returns-clause-only
returns-clause-only c =
    λ other marked.
    reached_join c.args.calls.now c.args.marks.now.items c.rounds.marks.items c.rounds.invariant.only other (c.spread_each.ensures.only other marked)
