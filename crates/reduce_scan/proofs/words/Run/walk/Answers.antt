use Rattle.std.proofs.Common.{refl, ◌∙◌, ap, cond, eqb, ◌+◌, ◌%◌, arith}
use Rattle.std.specs.Prelude.{slice_index}
use Rattle.bit_planes.specs.Bits.{bit}
use Rattle.cstar_base.specs.Folds.{identity_of}
use Rattle.reduce_scan.specs.Running.{running}
use Rattle.reduce_scan.proofs.WordRuns.{walked_more}
use Rattle.reduce_scan.proofs.words.Run.walk.Goals as goal

pub loop-i-init : goal.loop-i-init
unfolding running
loop-i-init g c = record { long = c.told-words; so_far = refl; done = λ j b. absurd (omega arith); rest = λ j b. refl }

pub loop-i-preserved : goal.loop-i-preserved
loop-i-preserved g c =
    let run = c.args.self.now in
    let i = c.loop-i.i in
    walked_more run c.args.words.now i c.loop-i.total c.loop-i.words c.loop-i-test.true c.loop-i.invariant c.step-next.result c.taken.result c.onward-total.result
    (c.requires.step c.loop-i.total (slice_index c.loop-i.words i) c.step-next.result c.step-next.ensures) c.taken.ensures
    (c.onward-total.ensures ∙ ap (λ n. cond (eqb (bit run.cuts ((i + 1) % 512)) 1) n c.step-next.result) (c.identity-none.ensures.value ∙ ap (λ o. identity_of o.0 o.1) c.combiner-combine.ensures))
