use Rattle.std.proofs.Common.{◌≡◌, ℕ, ◌*◌, length, length-take, take, drop, [], sym, ◌∙◌, ap, arith}
use Rattle.std.proofs.Math.ListN.{get_or-append}
use Rattle.bit_planes.specs.declared.plane.Plane.{Plane}
use Rattle.news_grid.proofs.news.copy_fields.Goals as goal

pub returns-clause-planes : goal.returns-clause-planes
returns-clause-planes g c = λ n b.
    let count : ℕ = length c.args.blocks.now * c.args.field.len in
    let none : Plane = record { bits = [] } in
    let part : length (take count c.args.held.now) ≡ count = simp length-take (omega (arith, c.requires.room)) in
    let long : length c.for_each_mut.new.s ≡ count = c.for_each_mut.auto.s ∙ part in
    let each = c.for_each_mut.ensures n none (omega (arith, part, b)) in
    ap (λ (p : Plane). p.bits) (get_or-append c.for_each_mut.new.s (drop count c.args.held.now) none n (omega (arith, long, b)))
    ∙ ap (λ (p : Plane). p.bits) (sym each.1.left) ∙ each.1.call
