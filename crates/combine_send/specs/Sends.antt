-- The send that an instruction is, and what it writes.
use Rattle.std.specs.Prelude.{◌≡◌, List, Option, Some, None}
use Rattle.paris_code.specs.declared.instr.Instr.{Instr}
use Rattle.paris_code.specs.declared.instr.Instr.TheVariants as I
use Rattle.paris_code.specs.declared.operands.Reduction.{Reduction}
use Rattle.paris_code.specs.Memory.{BitMemory}
use Rattle.paris_code.specs.Sending.{overwriting, combining}
use Rattle.paris_code.specs.Shapes.{SetShape}
use Rattle.paris_code.specs.Writes.{Write}
use Rattle.phase_meaning.specs.Apply.{LiesIn}
use Rattle.combine_send.specs.declared.send.Send.{Send}

abbrev pub send_of : Instr → Option Send
send_of (I.SendWithOverwrite d kind address a) = Some (record { dest = d; kind = kind; address = address; source = a; combiner = None })
send_of (I.SendWithCombiner c d kind address a) = Some (record { dest = d; kind = kind; address = address; source = a; combiner = Some c })
send_of _ = None

-- the fields lie in their sets, the destination is as long as its type, and the senders' fields are of one set
abbrev pub SendFits : List SetShape → Send → Type 0
SendFits shapes send =
    LiesIn shapes send.dest × LiesIn shapes send.address × LiesIn shapes send.source
    × (send.dest.len ≡ send.kind.bits) × (send.source.set ≡ send.address.set)

-- what a send writes
abbrev pub sent_by : List SetShape → BitMemory → Send → Option Reduction → Write
sent_by shapes m send None = overwriting shapes m send.dest send.address send.source
sent_by shapes m send (Some c) = combining shapes m c send.dest send.kind send.address send.source

abbrev pub sent : List SetShape → BitMemory → Send → Write
sent shapes m send = sent_by shapes m send send.combiner
