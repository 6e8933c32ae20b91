use Rattle.std.proofs.Common.{◌≡◌, ◌+◌, ◌*◌, [], sym, ap, ◌∙◌, arith}
use Rattle.phase_meaning.proofs.Entries.{entry}
use Rattle.cstar_base.specs.Folds.{identity_of}
use Rattle.block_store.specs.Planes.{planes_in}
use Rattle.reduce_scan.specs.Parts.{cut_there}
use Rattle.reduce_scan.proofs.Parts.{none}
use Rattle.reduce_scan.proofs.StraightLines.{whole_is, begins_in_part, cut_tail, cut_begins}
use Rattle.reduce_scan.proofs.runs.fold_block_part.Goals as goal

pub returns-then-is_cut-clause-tail : goal.returns-then-is_cut-clause-tail
returns-then-is_cut-clause-tail c =
    let blocks = c.args.set.now.blocks.items in
    let scan = c.args.scan.now in
    let lines = c.args.lines.now in
    let k = c.args.k in
    c.identity.ensures.value ∙ ap (λ o. identity_of o.0 o.1) c.combiner-combine.ensures
    ∙ sym (cut_tail blocks scan lines k (none scan.combiner)
    (ap (cut_there blocks scan lines) (let e : 512 * k + 512 ≡ k * 512 + 512 = omega arith in e) ∙ sym c.is_cut.ensures ∙ c.if-is_cut.true))

pub returns-then-is_cut-clause-begins : goal.returns-then-is_cut-clause-begins
returns-then-is_cut-clause-begins c =
    let blocks = c.args.set.now.blocks.items in
    let scan = c.args.scan.now in
    let lines = c.args.lines.now in
    let k = c.args.k in
    sym (cut_begins blocks scan lines k
    (ap (cut_there blocks scan lines) (let e : 512 * k + 512 ≡ k * 512 + 512 = omega arith in e) ∙ sym c.is_cut.ensures ∙ c.if-is_cut.true))

pub returns-clause-tail : goal.returns-clause-tail
returns-clause-tail c =
    let blocks = c.args.set.now.blocks.items in
    let scan = c.args.scan.now in
    let lines = c.args.lines.now in
    let k = c.args.k in
    let block = c.index.result.now in
    c.fold_own.ensures.total
    ∙ whole_is blocks scan lines c.requires.straight.0 c.requires.straight.1 k (planes_in block)
    (entry planes_in blocks k block [] (omega (arith, c.requires.more, c.requires.can.much)) c.index.ensures) c.requires.more
    (ap (cut_there blocks scan lines) (let e : 512 * k + 512 ≡ k * 512 + 512 = omega arith in e) ∙ sym c.is_cut.ensures ∙ c.if-is_cut.false) (none scan.combiner)

pub returns-clause-begins : goal.returns-clause-begins
returns-clause-begins c =
    let blocks = c.args.set.now.blocks.items in
    let scan = c.args.scan.now in
    let lines = c.args.lines.now in
    let k = c.args.k in
    let block = c.index.result.now in
    c.fold_own.ensures.begins
    ∙ begins_in_part blocks scan lines c.requires.straight.0 c.requires.straight.1 k (planes_in block)
    (entry planes_in blocks k block [] (omega (arith, c.requires.more, c.requires.can.much)) c.index.ensures) c.requires.more
    (ap (cut_there blocks scan lines) (let e : 512 * k + 512 ≡ k * 512 + 512 = omega arith in e) ∙ sym c.is_cut.ensures ∙ c.if-is_cut.false)
