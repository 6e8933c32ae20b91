use Rattle.std.proofs.Common.{◌<◌, ◌^◌}
use Rattle.source_meaning.proofs.ConstantLaws.{IsLeft}
use Rattle.source_meaning.proofs.cast.Given as goal

abbrev pub invariant-loop-elem : goal.invariant-loop-elem
invariant-loop-elem l =
    (goal.iterator-loop-elem).can_next l.elem-iterator ×
    (goal.iterator-loop-elem).is_finite l.elem-iterator ×
    (l.word < 2 ^ l.from.bits) ×
    IsLeft l.elems l.fn.from l.fn.word l.elem-iterator.iter.rest.now l.from l.word
