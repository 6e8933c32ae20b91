use Rattle.std.proofs.Common.{get_or, map, subst, arith}
use Rattle.std.proofs.lemmas.Option.{slice_get-get_or}
use Rattle.paris_code.specs.declared.program.Owner.TheVariants as O
use Rattle.paris_code.specs.declared.program.Virtual.{Virtual}
use Rattle.field_alloc.specs.Lent.{AreMarked, flags_of}
use Rattle.field_alloc.proofs.Marks.{StandBefore, marks_none, stand_all, stand_more}
use Rattle.field_alloc.proofs.lent.mark_all.Goals as goal

pub loop-entry-init : goal.loop-entry-init
loop-entry-init c = marks_none (StandBefore c.args.entries.now 0) (map flags_of c.args.flags.now.items) (λ number entry s. omega (arith, s.1.1))

pub loop-entry-preserved : goal.loop-entry-preserved
loop-entry-preserved c =
    let entries = c.args.entries.now in
    let i = c.loop-entry.entry-index in
    let none : Virtual = record { set = 0; len = 0; owner = O.File 0 } in
    let v : Virtual = get_or entries i none in
    stand_more entries i v (map flags_of c.args.flags.now.items) (map flags_of c.loop-entry.flags.items) (map flags_of c.mark_owner.new.flags.items)
    (slice_get-get_or entries i none c.loop-entry-test.true) c.loop-entry.invariant c.mark_owner.ensures

pub returns : goal.returns
returns c =
    let entries = c.args.entries.now in
    let before = map flags_of c.args.flags.now.items in
    let after = map flags_of c.loop-entry.flags.items in
    stand_all entries before after (subst (λ n. AreMarked (StandBefore entries n) before after) (omega arith) c.loop-entry.invariant)
