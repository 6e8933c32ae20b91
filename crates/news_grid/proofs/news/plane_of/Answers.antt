use Rattle.std.proofs.Common.{◌≡◌, ◌+◌, ◌*◌, ◌/◌, ◌%◌, ◌<◌, length, get_or, subst, sym, ◌∙◌, ap, arith}
use Rattle.std.proofs.Math.Nat.{mod-lt}
use Rattle.bit_planes.specs.declared.block.Block.{Block}
use Rattle.bit_planes.specs.Planes.{plane_at}
use Rattle.block_store.specs.Planes.{planes_in, planes_at}
use Rattle.news_grid.proofs.Windows.{place_block, block_read}
use Rattle.news_grid.proofs.news.plane_of.Goals as goal

pub returns : goal.returns
returns c =
    let blocks = c.args.blocks.now in
    let field = c.args.field in
    let n = c.args.n in
    let len = c.from-len.result in
    let is : len ≡ field.len = c.from-len.ensures in
    let k = c.parted-k.result.0 in
    let j = c.parted-k.result.1 in
    let quotient : k ≡ n / len = c.parted-k.ensures.quotient in
    let remainder : j ≡ n % len = c.parted-k.ensures.remainder in
    let some : 0 < len = omega (arith, c.requires.len) in
    let kb : k < length blocks = subst (λ m. m < length blocks) (sym quotient) (place_block n (length blocks) len some (subst (λ l. n < length blocks * l) (sym is) c.requires.place)) in
    let block = c.index-blocks-k.result in
    let jb : j < len = subst (λ m. m < len) (sym remainder) (mod-lt n some) in
    block_read blocks k (field.offset + j) block c.index.result.now kb c.index-blocks-k.is
    (c.index.ensures ∙ ap (λ (b : Block). get_or (planes_in b) (field.offset + j) c.index.result.now) (sym c.index-blocks-k.is))
    (omega (arith, c.requires.planes k block kb, c.index-blocks-k.is, ap (λ (b : Block). length b.planes.items) c.index-blocks-k.is, jb, is))
    ∙ ap (λ m. plane_at (planes_at blocks m) (field.offset + j)) quotient ∙ ap (λ m. plane_at (planes_at blocks (n / len)) (field.offset + m)) remainder
    ∙ ap (λ l. plane_at (planes_at blocks (n / l)) (field.offset + n % l)) is
