use Rattle.std.proofs.Common.{◌<◌, ◌^◌, ◌∙◌, sym, ap, subst, arith}
use Rattle.cstar_base.specs.Numbers.{residue, number_of}
use Rattle.cstar_base.specs.declared.operators.Winner.TheVariants as W
use Rattle.paris_code.specs.Fetching.{word_of_one}
use Rattle.paris_code.specs.Memory.{whole_number, processors}
use Rattle.phase_meaning.proofs.Tests.{less, not_less}
use Rattle.block_store.specs.Stored.{shapes_in, memory_in}
use Rattle.block_store.proofs.Fetches.{number_below}
use Rattle.news_grid.proofs.one.read_one.Goals as goal

pub returns-then-positions-processor : goal.returns-then-positions-processor
unfolding word_of_one
returns-then-positions-processor c = λ w.
    not_less c.args.processor (processors (shapes_in c.args.store.now) c.args.source.set) (residue 32 (whole_number (memory_in c.args.store.now w) c.args.signed c.args.source c.args.processor)) 0
    (omega (arith, c.positions.ensures, c.if-positions-processor.true))

pub extended-requires-clause-number : goal.extended-requires-clause-number
extended-requires-clause-number c =
    subst (λ n. n < 2 ^ c.args.source.len) (sym (c.read.ensures W.High)) (number_below c.args.store.now.sets.items W.High c.args.source c.args.processor)

pub returns : goal.returns
unfolding word_of_one whole_number
returns c = λ w.
    c.extended.ensures ∙ ap (λ n. residue 32 (number_of c.args.source.len c.args.signed n)) (c.read.ensures w)
    ∙ less c.args.processor (processors (shapes_in c.args.store.now) c.args.source.set) (residue 32 (whole_number (memory_in c.args.store.now w) c.args.signed c.args.source c.args.processor)) 0
    (omega (arith, c.positions.ensures, c.if-positions-processor.false))
