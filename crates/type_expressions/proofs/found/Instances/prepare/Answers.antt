use Rattle.std.proofs.Common.{refl, sym, ◌∙◌}
use Rattle.type_expressions.proofs.CallsWithin.{begins_same}
use Rattle.type_expressions.proofs.KeptHeaders.{grows_by_header}
use Rattle.type_expressions.proofs.found.Instances.prepare.Goals as goal

pub returns-then-contains_key-clause-grows : goal.returns-then-contains_key-clause-grows
returns-then-contains_key-clause-grows c = begins_same refl

pub returns-clause-grows : goal.returns-clause-grows
returns-clause-grows c =
    grows_by_header c.args.file.now c.args.self.now (record c.args.self.now { headers = c.insert.new.self }) c.args.reached c.in_ok-header.header (sym c.contains_key.ensures ∙ c.if-contains_key.false) c.in_ok-insert.ensures.entries refl c.in_ok-header.ensures
