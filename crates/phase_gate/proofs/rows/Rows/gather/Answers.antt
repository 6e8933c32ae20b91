use Rattle.std.proofs.Common.{None, refl, arith}
use Rattle.std.proofs.lemmas.List.{get_or-set_same, get_or-set_other}
use Rattle.phase_gate.specs.Rows.{row_bit, room_word}
use Rattle.phase_gate.proofs.rows.Rows.gather.Goals as goal

pub returns-clause-bits : goal.returns-clause-bits
unfolding row_bit
returns-clause-bits c = refl

pub returns-clause-held : goal.returns-clause-held
unfolding room_word
returns-clause-held c =
    let rows = c.args.self.now in
    get_or-set_same rows.room.items c.args.position c.args.word None (omega (arith, rows.room.ok.0))

pub returns-clause-others : goal.returns-clause-others
unfolding room_word
returns-clause-others c = λ p n. get_or-set_other c.args.self.now.room.items c.args.position p c.args.word None n
