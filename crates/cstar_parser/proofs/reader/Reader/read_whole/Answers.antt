use Rattle.std.proofs.Common.{refl}
use Rattle.cstar_parser.proofs.Outside.{whole_outside}
use Rattle.cstar_parser.proofs.ExpressionNodes.{whole_result}
use Rattle.cstar_parser.proofs.reader.Reader.read_whole.Goals as goal

pub returns-clause-read : goal.returns-clause-read
returns-clause-read c = whole_result _ _ _ _ _ c.read_assignment.result refl refl c.read_assignment.ensures.read

pub returns-clause-follows : goal.returns-clause-follows
returns-clause-follows c =
    whole_outside c.args.self.now.tokens.now c.args.levels c.args.spot.now c.read_assignment.new.spot c.read_assignment.result c.read_assignment.ensures.follows
