use Rattle.cstar_lexer.proofs.NameLemmas.{defined_last}
use Rattle.cstar_lexer.proofs.macros.Macros.define.Goals as goal

pub returns : goal.returns
returns c = defined_last (λ key. key.items) _ _ c.args.self.now.numbers.entries _ _ c.requires c.in_ok-name.ensures.items c.in_ok-insert.ensures.entries
