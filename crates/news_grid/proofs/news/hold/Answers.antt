use Rattle.std.proofs.Common.{◌≡◌, ℕ, ◌<◌, ◌+◌, ◌*◌, ◌/◌, ◌%◌, length, List, [], subst, ◌∙◌, ap, arith}
use Rattle.std.proofs.lemmas.List.{get_or-map}
use Rattle.bit_planes.specs.declared.block.Block.{Block}
use Rattle.bit_planes.specs.Planes.{number, plane_at}
use Rattle.block_store.specs.Planes.{planes_in, planes_at}
use Rattle.block_store.proofs.Kernels.{refilled}
use Rattle.news_grid.proofs.Windows.{number_copied, fields_fit}
use Rattle.news_grid.proofs.news.hold.Goals as goal

pub copy_fields-requires-clause-room : goal.copy_fields-requires-clause-room
copy_fields-requires-clause-room g c κs live =
    fields_fit (length c.as_slice.result.now) c.args.field.len (length c.as_mut_slice.result.now) (omega (arith, c.requires.len))
    (omega (arith, ap length c.as_slice.ensures.value, ap length c.as_mut_slice.ensures.value, c.requires.room, c.args.room.now.enough))

pub returns-clause-planes : goal.returns-clause-planes
returns-clause-planes g c = λ k i other b.
    let blocks = c.args.set.now.blocks.items in
    let field = c.args.field in
    let held = c.args.room.now.held in
    let new = c.copy_fields.new.held in
    let same = refilled held.len new held.items (omega (arith, c.copy_fields.ensures.long, c.as_mut_slice.ensures.len)) in
    ap (λ ps. number ps (k * field.len) field.len i) same
    ∙ number_copied blocks new field.offset field.len k i b
    (subst (λ (bs : List Block). (n : ℕ) → n < length bs * field.len → plane_at new n ≡ plane_at (planes_at bs (n / field.len)) (field.offset + n % field.len)) c.as_slice.ensures.value c.copy_fields.ensures.planes)
    ∙ ap (λ ps. number ps field.offset field.len i) (get_or-map planes_in blocks k other [] b)
