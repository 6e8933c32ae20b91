use Rattle.std.proofs.Common.{[], refl, arith}
use Rattle.cstar_tree.specs.declared.token.Mark.TheVariants as M
use Rattle.grammar_parts.specs.Parts as P
use Rattle.cstar_parser.proofs.Following.{begin, no_int, seen, skipped}
use Rattle.cstar_parser.proofs.reader.Reader.skip_int.Goals as goal

pub returns-then-is_mark-clause-follows : goal.returns-then-is_mark-clause-follows
returns-then-is_mark-clause-follows c = λ around few. seen M.Int P.int_or_none [] (c.is_mark.ensures.yes c.if-is_mark.true) c.take.ensures refl (omega arith) begin

pub returns-else-is_mark-clause-follows : goal.returns-else-is_mark-clause-follows
returns-else-is_mark-clause-follows c = λ around few. skipped P.int_or_none [] (no_int _ (c.is_mark.ensures.no c.if-is_mark.false)) begin
