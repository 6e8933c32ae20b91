use Rattle.std.proofs.Common.{subst, ap, List, length, sym, arith}
use Rattle.cstar_base.specs.declared.operators.Winner.TheVariants as W
use Rattle.block_store.specs.declared.set.SetPlan.{SetPlan}
use Rattle.block_store.specs.Stored.{shapes_in, memory_in, stored}
use Rattle.block_store.proofs.Stores.{held, few_blocks}
use Rattle.paris_code.specs.Elementwise.{is_elementwise, destination}
use Rattle.paris_code.specs.Meaning.{Means}
use Rattle.paris_code.specs.Memory.{BitMemory}
use Rattle.phase_meaning.specs.Apply.{is_check}
use Rattle.phase_meaning.proofs.Replies.{checked, quiet}
use Rattle.phase_meaning.proofs.FieldLemmas.{destination_runs}
use Rattle.elementwise.proofs.Written.{second_of, run_set, ran_whole, ran_room, ran_means, Did}
use Rattle.elementwise.proofs.everywhere.run.Goals as goal

pub do_in_set-requires-clause-few : goal.do_in_set-requires-clause-few
do_in_set-requires-clause-few g c κs live =
    let shapes = shapes_in c.args.store.now in
    let sets = c.args.store.now.sets.items in
    let set = (destination shapes c.args.instr.now).set in
    let exists = (destination_runs shapes c.args.instr.now c.args.args.now c.requires.can c.in-Some.ensures.0).0.0 in
    let e = run_set c.from.result c.in-Some.to.run c.deref.result.now c.args.store.now.plans.items c.args.instr.now c.from.ensures c.in-Some.ensures.1 c.deref.ensures.value in
    omega (arith, ap length (held shapes sets set c.from.result c.index_mut-set.result.now c.requires.whole exists e c.index_mut-set.ensures.value), few_blocks shapes sets set c.requires.whole exists)

pub returns-clause-whole : goal.returns-clause-whole
returns-clause-whole g c =
    let instr = c.args.instr.now in
    let plans = c.args.store.now.plans.items in
    ran_whole (shapes_in c.args.store.now) instr c.args.args.now c.args.store.now.sets.items c.index_mut-set.result.now c.do_in_set.new.set c.from.result
    c.requires.can c.in-Some.ensures.0 c.requires.whole (run_set c.from.result c.in-Some.to.run c.deref.result.now plans instr c.from.ensures c.in-Some.ensures.1 c.deref.ensures.value)
    c.index_mut-set.ensures.value c.do_in_set.ensures.count
    (subst (λ (ps : List SetPlan). Did ps instr c.args.args.now c.index_mut-set.result.now c.do_in_set.new.set) c.deref-3.ensures.value c.do_in_set.ensures.each) W.High

pub returns-clause-room : goal.returns-clause-room
returns-clause-room g c =
    let instr = c.args.instr.now in
    let plans = c.args.store.now.plans.items in
    ran_room (shapes_in c.args.store.now) instr c.args.args.now c.args.store.now.sets.items c.index_mut-set.result.now c.do_in_set.new.set c.from.result
    c.requires.can c.in-Some.ensures.0 c.requires.whole (run_set c.from.result c.in-Some.to.run c.deref.result.now plans instr c.from.ensures c.in-Some.ensures.1 c.deref.ensures.value)
    c.index_mut-set.ensures.value c.do_in_set.ensures.count
    (subst (λ (ps : List SetPlan). Did ps instr c.args.args.now c.index_mut-set.result.now c.do_in_set.new.set) c.deref-3.ensures.value c.do_in_set.ensures.each)
    (length plans) (length c.args.store.now.room.cells.items) c.requires.room

pub returns-clause-meaning : goal.returns-clause-meaning
returns-clause-meaning g c w =
    let instr = c.args.instr.now in
    let plans = c.args.store.now.plans.items in
    ran_means (shapes_in c.args.store.now) instr c.args.args.now c.args.store.now.sets.items c.index_mut-set.result.now c.do_in_set.new.set c.from.result
    c.requires.can c.in-Some.ensures.0 c.requires.whole (run_set c.from.result c.in-Some.to.run c.deref.result.now plans instr c.from.ensures c.in-Some.ensures.1 c.deref.ensures.value)
    c.index_mut-set.ensures.value c.do_in_set.ensures.count
    (subst (λ (ps : List SetPlan). Did ps instr c.args.args.now c.index_mut-set.result.now c.do_in_set.new.set) c.deref-3.ensures.value c.do_in_set.ensures.each) w

pub returns-in_default-clause-meaning : goal.returns-in_default-clause-meaning
returns-in_default-clause-meaning g c w =
    let shapes = shapes_in c.args.store.now in
    let instr = c.args.instr.now in
    let args = c.args.args.now in
    let m = memory_in c.args.store.now w in
    subst (λ (n : BitMemory). Means shapes instr args m n c.check.result) (ap (λ s. stored s.items w) (sym c.check.ensures.sets))
    (quiet shapes instr args m c.check.result (c.check.ensures.reply w) (checked shapes instr args m (second_of (is_elementwise instr) (is_check instr) c.requires.family c.in_default.ensures)))
