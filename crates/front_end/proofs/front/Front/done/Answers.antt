use Rattle.std.proofs.Common.{refl, sym, ◌∙◌}
use Rattle.front_end.specs.declared.ask.Ask.TheVariants as A
use Rattle.front_end.specs.Front.{state_of}
use Rattle.front_end.proofs.Steps.{asked, asks_set}
use Rattle.front_end.proofs.front.Front.done.Goals as goal

pub returns-in-Some-clause-ran : goal.returns-in-Some-clause-ran
returns-in-Some-clause-ran c = λ yes.
    asked c.args.sound.now (state_of c.args.self.now) A.Ran _ (state_of c.set-ran.new.self) _ refl c.set-ran.ensures.state
    (asks_set c.args.sound.now c.instr_at-instr.result.now (state_of c.args.self.now) c.in-Some.dest c.in-Some.value c.instr_at-instr.ensures.is (sym c.parallel.ensures ∙ c.if-parallel.false) (sym c.computed.ensures.value ∙ c.in-Some.is) c.requires.ready)
