use Rattle.paris_text.specs.Operands.{operand_text}
use Rattle.paris_text.proofs.Putting.{put_words}
use Rattle.paris_text.proofs.words.put_operands.Goals as goal

pub returns : goal.returns
returns g c = put_words g.O.Sink.agrees g.O.Sink.faults _ _ _ operand_text _ c.put_list.ensures
