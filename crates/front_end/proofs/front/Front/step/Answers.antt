use Rattle.std.proofs.Common.{sym, ◌∙◌}
use Rattle.front_end.specs.Front.{state_of}
use Rattle.front_end.proofs.Steps.{asked, asks_set, asks_apply}
use Rattle.front_end.proofs.front.Front.step.Goals as goal

pub returns-then-parallel-clause-asks : goal.returns-then-parallel-clause-asks
returns-then-parallel-clause-asks c =
    asked c.args.sound.now (state_of c.args.self.now) c.apply.result _ (state_of c.apply.new.self) _ c.apply.ensures.asks c.apply.ensures.state
    (asks_apply c.args.sound.now c.instr_at-instr.result.now (state_of c.args.self.now) c.instr_at-instr.ensures.is (sym c.parallel.ensures ∙ c.if-parallel.true))

pub returns-in-Some-clause-asks : goal.returns-in-Some-clause-asks
returns-in-Some-clause-asks c =
    asked c.args.sound.now (state_of c.args.self.now) c.set.result _ (state_of c.set.new.self) _ c.set.ensures.asks c.set.ensures.state
    (asks_set c.args.sound.now c.instr_at-instr.result.now (state_of c.args.self.now) c.in-Some.dest c.in-Some.value c.instr_at-instr.ensures.is (sym c.parallel.ensures ∙ c.if-parallel.false) (sym c.computed.ensures.value ∙ c.in-Some.is) c.requires.ready)
