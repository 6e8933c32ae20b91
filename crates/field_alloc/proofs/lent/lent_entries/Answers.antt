use Rattle.std.proofs.Common.{List, length, map, subst, refl, arith}
use Rattle.std.proofs.lemmas.Option.{slice_get_read}
use Rattle.paris_code.specs.declared.program.Virtual.{Virtual}
use Rattle.field_alloc.specs.Lent.{AreMarked, StandFor, flags_of}
use Rattle.field_alloc.proofs.Marks.{AreLentSo, lent_all, lent_more, lent_none}
use Rattle.field_alloc.proofs.lent.lent_entries.Goals as goal

pub loop-unit-init : goal.loop-unit-init
loop-unit-init c = lent_none c.args.units.now (map flags_of c.in_ok-flags.flags.items) c.in_ok-flags.ensures

pub loop-unit-preserved : goal.loop-unit-preserved
loop-unit-preserved c =
    let units = c.args.units.now in
    let i = c.loop-unit.unit-index in
    let u = c.unit-item.result in
    let before = map flags_of c.loop-unit.flags.items in
    let after = map flags_of c.mark_all.new.flags.items in
    let is_u = slice_get_read units (length units) i u refl c.loop-unit-test.true c.unit-item.is in
    lent_more units i u before after is_u c.loop-unit.invariant
    (subst (λ (es : List Virtual). AreMarked (StandFor es) before after) c.as_slice.ensures.value c.mark_all.ensures)

pub returns : goal.returns
returns c =
    let units = c.args.units.now in
    let flags = map flags_of c.loop-unit.flags.items in
    lent_all units flags (subst (λ n. AreLentSo units n flags) (omega arith) c.loop-unit.invariant)
