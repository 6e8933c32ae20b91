use Rattle.std.proofs.Common.{◌≡◌, ◌≤◌, length, drop}
use Rattle.lower_base.specs.Drafts.{IsMade, draft, out_of}
use Rattle.lower_expr.specs.Frames.{passed}
use Rattle.lower_expr.proofs.frames.pass_all.Given as goal

-- the parameters that are left, from here on, give the whole
abbrev pub invariant-loop-param : goal.invariant-loop-param
invariant-loop-param l = record {
  in_range : l.next ≤ length l.arguments;
  made : IsMade (passed l.unit l.callee.result (drop l.param-index l.params) (drop l.next l.arguments) l.register l.index (out_of l.dest) (draft l.u));
  whole : passed l.unit l.callee.result (drop l.param-index l.params) (drop l.next l.arguments) l.register l.index (out_of l.dest) (draft l.u)
      ≡ passed l.unit l.callee.result l.params l.arguments l.base 0 (out_of l.dest) (draft l.fn.u);
}
