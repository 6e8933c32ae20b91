use Rattle.std.proofs.Common.{arith}
use Rattle.elementwise.proofs.Coordinates.{counts_on, counts_up, counts_round}
use Rattle.elementwise.proofs.columns.counted.Goals as goal

pub returns-then-rest-gt1-clause-counts : goal.returns-then-rest-gt1-clause-counts
returns-then-rest-gt1-clause-counts c = λ n counts. counts_on c.args.stride c.args.extent n c.args.own c.args.rest c.requires.stride c.if-rest-gt1.true counts

pub returns-then-own-extent-clause-counts : goal.returns-then-own-extent-clause-counts
returns-then-own-extent-clause-counts c = λ n counts. counts_up c.args.stride c.args.extent n c.args.own c.args.rest c.requires.stride (omega (arith, c.if-rest-gt1.false)) c.if-own-extent.true counts

pub returns-else-own-extent-clause-counts : goal.returns-else-own-extent-clause-counts
returns-else-own-extent-clause-counts c = λ n counts. counts_round c.args.stride c.args.extent n c.args.own c.args.rest c.requires.stride (omega (arith, c.if-rest-gt1.false)) c.requires.own (omega (arith, c.if-own-extent.false)) counts
