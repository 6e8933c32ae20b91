use Rattle.std.proofs.Common.{◌∙◌, [], sym}
use Rattle.std.specs.Cmp.Lexicographic.{bytes_decides}
use Rattle.paris_asm.proofs.differences.first_difference.Goals as goal

pub returns-in-Ok : goal.returns-in-Ok
returns-in-Ok c =
    let put = c.in-Ok.ensures.0 [] (sym c.in_ok-out.ensures.0) in
    let same = (bytes_decides c.taken.result.now c.args.bytes.now).0 (sym c.if-eq.ensures) in
    put ∙ sym c.taken.ensures ∙ same
