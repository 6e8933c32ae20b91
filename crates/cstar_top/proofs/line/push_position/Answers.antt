use Rattle.std.proofs.Common.{append_assoc}
use Rattle.cstar_top.proofs.line.push_position.Goals as goal

pub returns-in_ok-push_number-in-Some : goal.returns-in_ok-push_number-in-Some
returns-in_ok-push_number-in-Some c =
    rw (c.in-Some.is, c.in_ok-push_number-in-Some.ensures, c.in_ok-extend_from_slice-in-Some.ensures.items) (simp append_assoc)
