use Rattle.std.proofs.Common.{set, sym, ap₂, ◌∙◌, get_or-set_other, length-set, arith}
use Rattle.combine_core.specs.declared.worker.Worker.{Worker}
use Rattle.combine_core.specs.Machine.{both_parts, spent}
use Rattle.combine_core.proofs.Steps.{set_swap, set_both_back, read_default}
use Rattle.combine_core.proofs.machine.merge.Goals as goal

pub returns-in-Err-clause-err : goal.returns-in-Err-clause-err
returns-in-Err-clause-err c =
    let ws = c.args.workers.now.items in
    let from = c.args.from in
    let gone = read_default ws from c.index_mut.result.now spent c.requires.within.1 c.index_mut.ensures.value in
    let back = c.in-Err.ensures.back ∙ c.replace-other.ensures.value ∙ sym gone in
    let still = read_default (set ws from c.replace-other.new.dest) c.args.into c.index_mut-2.result.now spent (omega (arith, length-set ws from c.replace-other.new.dest, c.requires.within.0)) c.index_mut-2.ensures.value in
    set_both_back ws c.args.into from c.absorb.new.self c.replace-other.new.dest c.in-Err.other (c.in-Err.ensures.err ∙ sym still) back

pub returns-clause-ok : goal.returns-clause-ok
returns-clause-ok c =
    let ws = c.args.workers.now.items in
    let from = c.args.from in
    let gone = read_default ws from c.index_mut.result.now spent c.requires.within.1 c.index_mut.ensures.value in
    let still = read_default (set ws from c.replace-other.new.dest) c.args.into c.index_mut-2.result.now spent (omega (arith, length-set ws from c.replace-other.new.dest, c.requires.within.0)) c.index_mut-2.ensures.value in
    let apart = get_or-set_other ws from c.args.into c.replace-other.new.dest spent c.requires.apart in
    set_swap ws c.args.into from c.absorb.new.self c.replace-other.new.dest c.requires.apart
    ∙ ap₂ (λ (x y : Worker). set (set ws c.args.into x) from y)
    (c.in_default.ensures.ok ∙ ap₂ both_parts (sym still ∙ apart) (c.replace-other.ensures.value ∙ sym gone))
    (c.replace-other.ensures.after ∙ c.idle.ensures)
