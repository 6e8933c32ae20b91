use Rattle.std.proofs.Common.{cond, sym, ap, ◌∙◌}
use Rattle.cstar_base.specs.Folds.{identity_of}
use Rattle.reduce_scan.proofs.Parts.{none}
use Rattle.reduce_scan.proofs.straight.start_from.Goals as goal

pub returns-then-begins_first : goal.returns-then-begins_first
returns-then-begins_first c =
    c.identity.ensures.value ∙ ap (λ o. identity_of o.0 o.1) c.combiner-combine.ensures
    ∙ sym (ap (λ t. cond t (none c.args.scan.now.combiner) c.args.before) (sym c.begins_first.ensures ∙ c.if-begins_first.true))

pub returns : goal.returns
returns c = sym (ap (λ t. cond t (none c.args.scan.now.combiner) c.args.before) (sym c.begins_first.ensures ∙ c.if-begins_first.false))
