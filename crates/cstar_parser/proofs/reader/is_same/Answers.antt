use Rattle.std.proofs.Common.{rules, sym, ◌∙◌}
use denote.Enum.Bare.{same_true}
use Rattle.cstar_tree.specs.contracts.token.Mark.{the_type}
use Rattle.cstar_parser.proofs.reader.is_same.Goals as goal

pub returns-clause-yes : goal.returns-clause-yes
returns-clause-yes c is = same_true the_type (search rules) _ _ (sym c.eq.ensures ∙ is)
