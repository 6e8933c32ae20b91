use Rattle.std.proofs.Common.{◌++◌, flat_map, codes, decimal, append_assoc}
use Rattle.paris_code.specs.Mnemonics.{mnemonic_of}
use Rattle.paris_code.specs.Listing.{spaced, operands_of, instruction_line}
use Rattle.paris_text.proofs.Putting.{put_whole, failed_whole}
use Rattle.paris_text.proofs.lines.InstructionLinesStyleInstr.put.Goals as goal

pub returns-in-Ok : goal.returns-in-Ok
returns-in-Ok g c =
    put_whole g.O.Sink.agrees g.O.Sink.faults c.args.out.now c.put_name.new.out c.put_tail.new.out c.put_tail.result
    (instruction_line c.args.number c.args.item.now)
    (decimal c.args.number ++ spaced (mnemonic_of c.args.item.now))
    (flat_map spaced (operands_of c.args.item.now) ++ codes "\n")
    (simp append_assoc)
    c.in-Ok.ensures
    c.put_tail.ensures

pub returns-in-Err : goal.returns-in-Err
returns-in-Err g c =
    failed_whole g.O.Sink.agrees g.O.Sink.faults c.args.out.now c.put_name.new.out
    (instruction_line c.args.number c.args.item.now)
    (decimal c.args.number ++ spaced (mnemonic_of c.args.item.now))
    (flat_map spaced (operands_of c.args.item.now) ++ codes "\n")
    (simp append_assoc)
    c.in-Err.ensures
