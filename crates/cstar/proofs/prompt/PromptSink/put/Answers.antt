use Rattle.cstar.proofs.Sent.{all_of_if}
use Rattle.cstar.proofs.prompt.PromptSink.put.Goals as goal

-- src/prompt.rt:30:5
pub returns-then-is_due-clause-part : goal.returns-then-is_due-clause-part
returns-then-is_due-clause-part g c =
    all_of_if (λ prompt. g.S.Sink.agrees prompt.sink) c.args.self.now (record { sink = c.put.new.self; sending = c.args.self.now.sending }) (record { sink = c.flush.new.self; sending = c.args.self.now.sending }) c.args.bytes.now c.flush.result c.in_ok-put.ensures.taken c.flush.ensures.nothing
