use Rattle.std.proofs.Common.{[], arith, refl}
use Rattle.cstar_tree.specs.declared.token.Mark.TheVariants as M
use Rattle.grammar_parts.specs.Parts as P
use Rattle.cstar_parser.proofs.Following.{begin, behind, seen}
use Rattle.cstar_parser.proofs.reader.Reader.read_size.Goals as goal

pub returns-in-Some-Char-clause-follows : goal.returns-in-Some-Char-clause-follows
returns-in-Some-Char-clause-follows c = λ around few. seen M.Char P.width_or_none [] (cc c.in-Some-Char.ensures.found) c.take.ensures refl (omega arith) begin

pub returns-in-Some-Short-clause-follows : goal.returns-in-Some-Short-clause-follows
returns-in-Some-Short-clause-follows c = λ around few. behind [] (c.skip_int.ensures.follows around few) (seen M.Short P.width_or_none [] (cc c.in-Some-Short.ensures.found) c.take-in-Some-Short.ensures refl (omega arith) begin) (omega arith)

pub returns-in-Some-Int-clause-follows : goal.returns-in-Some-Int-clause-follows
returns-in-Some-Int-clause-follows c = λ around few. seen M.Int P.width_or_none [] (cc c.in-Some-Int.ensures.found) c.take-in-Some-Int.ensures refl (omega arith) begin

pub returns-in-Some-Long-clause-follows : goal.returns-in-Some-Long-clause-follows
returns-in-Some-Long-clause-follows c = λ around few. behind [] (c.skip_int-in-Some-Long.ensures.follows around few) (seen M.Long P.width_or_none [] (cc c.in-Some-Long.ensures.found) c.take-in-Some-Long.ensures refl (omega arith) begin) (omega arith)
