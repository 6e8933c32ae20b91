use Rattle.std.proofs.Common.{◌≡◌, ◌∙◌}
use Rattle.checkpoint.specs.Bytes.{bytes_of, point_in}
use Rattle.checkpoint.proofs.Lists.{bits_last, bits_within, same_bits}
use Rattle.checkpoint.proofs.loading.load.Goals as goal

pub last-requires : goal.last-requires
last-requires c = bits_within (point_in c.in-Ok.field-0) c.args.bytes.items (c.in-Ok.ensures.inverse ∙ c.as_slice.ensures.value)

pub returns-in-Ok-clause-inverse : goal.returns-in-Ok-clause-inverse
returns-in-Ok-clause-inverse c =
    let is : bytes_of (point_in c.in-Ok.field-0) ≡ c.args.bytes.items = c.in-Ok.ensures.inverse ∙ c.as_slice.ensures.value in
    same_bits (point_in c.in-Ok.field-0) _ (c.of.ensures ∙ c.last.ensures ∙ bits_last (point_in c.in-Ok.field-0) c.args.bytes.items is) ∙ is
