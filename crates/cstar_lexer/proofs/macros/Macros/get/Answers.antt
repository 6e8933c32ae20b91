use Rattle.std.proofs.Common.{◌∙◌, nat_eq, sym}
use Rattle.std.specs.Cmp.Lexicographic.{pointwise}
use Rattle.cstar_lexer.proofs.NameLemmas.{lookup_map}
use Rattle.cstar_lexer.proofs.macros.Macros.get.Goals as goal

pub returns : goal.returns
returns c = c.copied.ensures ∙ (c.get.ensures.value ∙ sym (lookup_map (λ key. key.items) (pointwise nat_eq c.args.name.now) c.args.self.now.numbers.entries))
