use Rattle.std.proofs.Common.{sym, ap, ◌∙◌, length, slice_index}
use Rattle.block_store.specs.Stored.{shapes_in, memory_in}
use Rattle.combine_send.proofs.Instructions.{send_fits, sent_means}
use Rattle.combine_send.proofs.Sent.{stored_numbers}
use Rattle.combine_send.proofs.instruction.run.Goals as goal

pub returns-in-Ok-clause-meaning : goal.returns-in-Ok-clause-meaning
returns-in-Ok-clause-meaning g c = λ others.
    let sent = c.in-Ok.ensures in
    sent_means (shapes_in c.args.store.now) c.requires.can.0 others (memory_in c.args.store.now c.args.winner) (memory_in c.put_back.new.store c.args.winner) c.args.instr.now c.in-Some.send sent.plan
    (λ t. slice_index c.as_slice.result.now t) (λ f. stored_numbers c.args.store.now.sets.items c.args.winner f) c.requires.can.1 (sym c.of.ensures ∙ c.in-Some.is) sent.is (λ t b. ap (λ xs. slice_index xs t) c.as_slice.ensures.value ∙ sent.folds t b) (c.put_back.ensures.memory c.args.winner)

pub words_sent-requires-clause-send : goal.words_sent-requires-clause-send
words_sent-requires-clause-send g c κs live = send_fits (shapes_in c.args.store.now) c.requires.can.0 c.args.instr.now c.in-Some.send c.requires.can.1 (sym c.of.ensures ∙ c.in-Some.is)

pub put_back-requires-clause-words : goal.put_back-requires-clause-words
put_back-requires-clause-words g c = ap length c.as_slice.ensures.value ∙ c.in-Ok.ensures.wide ∙ c.in-Ok.ensures.is.targets
