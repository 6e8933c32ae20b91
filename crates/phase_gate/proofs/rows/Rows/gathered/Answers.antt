use Rattle.std.proofs.Common.{None, arith}
use Rattle.std.proofs.lemmas.List.{get_or_read}
use Rattle.phase_gate.specs.Rows.{room_word}
use Rattle.phase_gate.proofs.rows.Rows.gathered.Goals as goal

pub returns : goal.returns
unfolding room_word
returns c =
    let rows = c.args.self.now in
    get_or_read rows.room.items c.args.position c.index.result.now (omega (arith, rows.room.ok.0)) c.index.ensures None
