use Rattle.std.proofs.Common.{max, min, ◌∙◌, ap}
use Rattle.bit_planes.specs.Bits.{bit}
use Rattle.bit_planes.proofs.Butterfly.{swapped_first, swapped_second}
use Rattle.bit_planes.proofs.transpose.swapped.Goals as goal

pub returns-clause-first : goal.returns-clause-first
returns-clause-first c = λ i b. c.either.ensures i b
    ∙ ap (λ n. max n (bit c.both-2.result i)) (c.both.ensures i b) ∙ ap (λ n. max (min (bit c.args.first i) (bit c.args.even i)) n) (c.both-2.ensures i b)
    ∙ swapped_first c.args.first c.args.second c.args.even c.opposite-odd.result c.moved_down.result c.moved_up.result c.args.step
    c.requires.step c.requires.even c.opposite-odd.ensures c.moved_down.ensures c.moved_up.ensures i b

pub returns-clause-second : goal.returns-clause-second
returns-clause-second c = λ i b. c.either-2.ensures i b
    ∙ ap (λ n. max n (bit c.both-4.result i)) (c.both-3.ensures i b) ∙ ap (λ n. max (min (bit c.moved_down.result i) (bit c.args.even i)) n) (c.both-4.ensures i b)
    ∙ swapped_second c.args.first c.args.second c.args.even c.opposite-odd.result c.moved_down.result c.moved_up.result c.args.step
    c.requires.step c.requires.even c.opposite-odd.ensures c.moved_down.ensures c.moved_up.ensures i b
