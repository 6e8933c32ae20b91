use Rattle.std.proofs.Common.{arith}
use Rattle.std.proofs.lemmas.Bool.{ne_eqb}
use Rattle.paris_code.specs.Fetching.{at_one}
use Rattle.phase_meaning.proofs.Partly.{none_written}
use Rattle.block_store.specs.Stored.{shapes_in, memory_in}
use Rattle.news_grid.proofs.one.write_one.Goals as goal

pub returns-then-positions-processor-clause-memory : goal.returns-then-positions-processor-clause-memory
returns-then-positions-processor-clause-memory c = λ w.
    none_written (shapes_in c.args.store.now) (at_one c.args.dest c.args.processor c.args.word) (memory_in c.args.store.now w)
    (λ p b. ne_eqb p c.args.processor (λ e. absurd (omega (arith, b, e, c.if-positions-processor.true, c.positions.ensures))))
