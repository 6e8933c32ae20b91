use Rattle.std.proofs.Common.{◌≡◌, drop}
use Rattle.lower_base.specs.Constants.{register_with}
use Rattle.lower_base.proofs.view.register_with.Given as goal

abbrev pub invariant-loop-held : goal.invariant-loop-held
invariant-loop-held l = register_with l.word (drop l.held-index l.words) l.register ≡ register_with l.word l.words l.first
