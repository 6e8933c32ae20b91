use Rattle.std.proofs.Common.{◌≡◌, drop}
use Rattle.lower_base.specs.Drafts.{draft}
use Rattle.lower_comm.specs.Messages.{stepwise}
use Rattle.lower_comm.proofs.gets.stepwise.Given as goal

abbrev pub invariant-loop-number : goal.invariant-loop-number
invariant-loop-number l =
    stepwise l.elem l.dest (drop l.number l.steps) l.hop (draft l.u) ≡ stepwise l.elem l.dest l.steps l.fn.start (draft l.fn.u)
