use Rattle.std.proofs.Common.{◌<◌, ◌^◌, sym, subst, arith}
use Rattle.bit_planes.proofs.Planes.{number-lt}
use Rattle.combine_send.proofs.home.extended_words.Goals as goal

pub extended-requires-clause-number : goal.extended-requires-clause-number
extended-requires-clause-number c =
    subst (λ n. n < 2 ^ c.args.field.len) (sym (c.loop-i.invariant.2 c.loop-i.i (omega arith) c.loop-i-test.true))
    (number-lt c.args.block.now.planes.items c.args.field.offset c.args.field.len c.loop-i.i)
