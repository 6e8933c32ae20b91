use Rattle.std.proofs.Common.{◌∙◌, ap, sym}
use Rattle.cstar_base.specs.Folds.{identity_of}
use Rattle.lane_kernels.specs.Numbers.{ones_before}
use Rattle.reduce_scan.proofs.LaneWords.{idle_fold}
use Rattle.reduce_scan.proofs.folds.FieldFold.of.Goals as goal

pub returns-then-count-eq0 : goal.returns-then-count-eq0
returns-then-count-eq0 c =
    c.identity.ensures.value ∙ ap (λ r. identity_of r.0 r.1) c.combiner-combine.ensures
    ∙ sym (idle_fold c.args.self.now.combiner c.args.block.now.planes.items c.args.self.now.source c.args.self.now.context
    (ap (λ p. ones_before p 512) (sym c.plane.ensures) ∙ sym c.count.ensures ∙ c.if-count-eq0.true))
