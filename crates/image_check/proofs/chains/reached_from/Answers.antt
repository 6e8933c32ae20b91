use Rattle.std.proofs.Common.{◌≡◌, List, length, replicate, ap, ◌∙◌, arith}
use Rattle.std.specs.Prelude.{Bool, false}
use Rattle.std.proofs.lemmas.List.{length-replicate}
use Rattle.image_check.proofs.CallLaws.{reached_marks}
use Rattle.image_check.proofs.chains.reached_from.Goals as goal

pub returns : goal.returns
returns c =
    let empty : c.in_ok-marks.marks.items ≡ replicate c.args.units false = c.in_ok-marks.ensures.items_if_clones_equal (λ y same. same) in
    let size : length c.in_ok-marks.marks.items ≡ c.args.units =
    ap (λ (m : List Bool). length m) empty ∙ length-replicate c.args.units false in
    reached_marks c.args.units c.args.calls.now c.args.start c.in_ok-marks.marks.items c.set_mark.new.marks.items c.spread_all.new.marks.items
    c.requires empty (c.spread_all.ensures.same ∙ c.set_mark.ensures.same ∙ size)
    (λ inside. c.set_mark.ensures.marked (omega (arith, inside, size)))
    c.set_mark.ensures.only c.spread_all.ensures.kept c.spread_all.ensures.only c.spread_all.ensures.closed
