-- When the plain phases can send.
use Rattle.std.specs.Prelude.{◌≡◌, List}
use Rattle.paris_code.specs.Shapes.{SetShape}
use Rattle.phase_gate.specs.declared.sends.Send.{Send}
use Rattle.phase_meaning.specs.Apply.{LiesIn}

-- the fields lie in their sets, and address and source are of one set
abbrev pub SendFits : List SetShape → Send → Type 0
SendFits shapes send =
    LiesIn shapes send.dest × LiesIn shapes send.address × LiesIn shapes send.source
    × (send.source.set ≡ send.address.set)
