use Rattle.std.proofs.Common.{◌∙◌, ◌<◌, length, get_or, arith, ap, sym}
use Rattle.cstar_base.specs.declared.operators.Place.{Place}
use Rattle.cstar_lexer.specs.Places.{behind_byte}
use Rattle.cstar_lexer.proofs.PlaceLemmas.{behind_more, behind_none}
use Rattle.cstar_lexer.proofs.cursor.Cursor.over.Goals as goal

pub loop-byte-init : goal.loop-byte-init
loop-byte-init c = record { passed = omega arith; place = sym (behind_none _) }

pub loop-byte-preserved : goal.loop-byte-preserved
loop-byte-preserved c =
    let h : c.loop-byte.byte-index < length c.args.piece.now = c.loop-byte-test.true in
    let next = behind_more _ c.args.piece.now c.loop-byte.byte-index h in record {
      passed = omega (arith, c.loop-byte.invariant.passed, c.past-here.ensures.at);
      place = c.past-here.ensures.place ∙ (ap (λ (p : Place). behind_byte p (get_or c.args.piece.now c.loop-byte.byte-index 0)) c.loop-byte.invariant.place ∙ sym next);
    }
