use Rattle.paris_code.specs.Listing.{coordinate_text, checked_text, step_text, register_text, checked_register_text}
use Rattle.paris_text.proofs.Putting.{put_words}
use Rattle.paris_text.proofs.words.put_rest.Goals as goal

pub returns-in-Coordinates : goal.returns-in-Coordinates
returns-in-Coordinates g c =
    rw c.in-Coordinates.is (put_words g.O.Sink.agrees g.O.Sink.faults c.args.out.now c.put_list.new.out c.put_list.result coordinate_text c.in-Coordinates.list.now c.put_list.ensures)

pub returns-in-Checked : goal.returns-in-Checked
returns-in-Checked g c =
    rw c.in-Checked.is (put_words g.O.Sink.agrees g.O.Sink.faults c.args.out.now c.put_list-in-Checked.new.out c.put_list-in-Checked.result checked_text c.in-Checked.list.now c.put_list-in-Checked.ensures)

pub returns-in-Steps : goal.returns-in-Steps
returns-in-Steps g c =
    rw c.in-Steps.is (put_words g.O.Sink.agrees g.O.Sink.faults c.args.out.now c.put_list-in-Steps.new.out c.put_list-in-Steps.result step_text c.in-Steps.list.now c.put_list-in-Steps.ensures)

pub returns-in-Registers : goal.returns-in-Registers
returns-in-Registers g c =
    rw c.in-Registers.is (put_words g.O.Sink.agrees g.O.Sink.faults c.args.out.now c.put_list-in-Registers.new.out c.put_list-in-Registers.result register_text c.in-Registers.list.now c.put_list-in-Registers.ensures)

pub returns-in-CheckedRegisters : goal.returns-in-CheckedRegisters
returns-in-CheckedRegisters g c =
    rw c.in-CheckedRegisters.is (put_words g.O.Sink.agrees g.O.Sink.faults c.args.out.now c.put_list-in-CheckedRegisters.new.out c.put_list-in-CheckedRegisters.result checked_register_text c.in-CheckedRegisters.list.now c.put_list-in-CheckedRegisters.ensures)
