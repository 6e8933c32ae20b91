use Rattle.std.proofs.Common.{[], ◌∷◌, List, subst, ap, ◌∙◌}
use Rattle.std.proofs.lemmas.List.{take_all}
use Rattle.std.proofs.lemmas.List.Concat.{flat_map_single}
use Rattle.std.specs.List.{flat_map}
use Rattle.paris_code.specs.declared.operands.Field.{Field}
use Rattle.paris_code.specs.declared.program.Final.{Final}
use Rattle.cstar_link.specs.Sets.{AreRaised, final_field}
use Rattle.cstar_link.proofs.Ends.{raised_step}
use Rattle.cstar_link.proofs.sets.raise_by_finals.Goals as goal

pub loop-last-preserved : goal.loop-last-preserved
loop-last-preserved c =
    let l = c.loop-last in
    raised_step (λ (last : Final). final_field last ∷ []) c.args.finals.now l.last-index c.last-item.result c.args.ends.now l.ends c.raise.new.ends c.last-item.is c.loop-last-test.true l.auto.ends l.invariant c.raise.ensures

pub returns : goal.returns
returns c =
    subst (λ (fs : List Field). AreRaised fs c.args.ends.now c.loop-last.ends)
    (ap (flat_map (λ (last : Final). final_field last ∷ [])) (take_all c.loop-last.last-index c.args.finals.now c.loop-last-test.false)
    ∙ flat_map_single final_field c.args.finals.now)
    c.loop-last.invariant
