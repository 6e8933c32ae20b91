use Rattle.std.proofs.Common.{◌≡◌, ℕ, List, ◌∙◌, subst, arith}
use Rattle.cstar_io.specs.Output.{Takes, TakesPrefix}
use Rattle.cstar_top.specs.Answers.{status_of}
use Rattle.cstar_top.proofs.Lines.{memory_line}
use Rattle.cstar_top.proofs.report.put_answer.Goals as goal

pub returns-clause-memory : goal.returns-clause-memory
returns-clause-memory g c is =
    let status : status_of c.args.answer ≡ 8 = omega arith in
    subst (λ (xs : List ℕ). Takes g.E.Sink.agrees c.args.err.now c.put_line.new.err xs)
    (c.requires ∙ memory_line c.args.file.now c.args.answer status)
    (c.put_line.ensures.taken (λ six. omega arith))

pub returns-clause-part : goal.returns-clause-part
returns-clause-part g c failed =
    subst (λ (xs : List ℕ). TakesPrefix g.E.Sink.agrees c.args.err.now c.put_line.new.err xs) c.requires (c.put_line.ensures.part failed)
