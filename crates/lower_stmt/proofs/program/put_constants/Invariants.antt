use Rattle.std.proofs.Common.{◌≡◌, drop}
use Rattle.lower_base.specs.Drafts.{draft}
use Rattle.lower_stmt.specs.Programs.{constants_put}
use Rattle.lower_stmt.proofs.program.put_constants.Given as goal

-- the constants that are left, from here on, give the whole
abbrev pub invariant-loop-word : goal.invariant-loop-word
invariant-loop-word l =
    constants_put (drop l.word-index l.word-items) l.dest (draft l.u) ≡ constants_put l.word-items l.view.names.end (draft l.fn.u)
