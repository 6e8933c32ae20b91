use Rattle.std.proofs.Common.{◌≡◌, ◌≤◌, ℕ, List, length, subst}
use Rattle.paris_code.specs.Listing.{listing}
use Rattle.cstar_top.specs.Accepted.{IsImageOf}
use Rattle.cstar_top.specs.Refusals.{RefusesRun}
use Rattle.cstar_top.proofs.Starting.{listing_begins, only_memory, point_begins, points_why, program_begins}
use Rattle.cstar_top.proofs.top.start_of.Goals as goal

pub returns-in-Ok-clause-begins : goal.returns-in-Ok-clause-begins
returns-in-Ok-clause-begins c =
    let options = c.args.options.now in
    let text = c.args.text.items in
    let within = subst (λ (xs : List ℕ). length xs ≤ 1048576) c.as_slice.ensures.value c.in-Ok.ensures.within in
    program_begins options.mode options.winner text c.in-Ok.sound c.new_run.result c.in-Run.is within c.in-Ok.ensures.sound c.in-Ok.ensures.listable (subst (λ (bytes : List ℕ). IsImageOf bytes c.in-Ok.sound) c.as_slice.ensures.value c.in-Ok.ensures.compiled) c.new_run.ensures.new

pub returns-in-Ok-clause-refused : goal.returns-in-Ok-clause-refused
returns-in-Ok-clause-refused c =
    only_memory (RefusesRun c.args.options.now.mode c.args.text.items) c.new_run.result c.new_run.ensures.memory

pub returns-in-Ok-assembled-clause-begins : goal.returns-in-Ok-assembled-clause-begins
returns-in-Ok-assembled-clause-begins c =
    let options = c.args.options.now in
    let text = c.args.text.items in
    let same = c.as_slice-in-Asm.ensures.value in
    let within = subst (λ (xs : List ℕ). length xs ≤ 1048576) same c.in-Ok-assembled.ensures.within in
    let listed = subst (λ (xs : List ℕ). listing c.in-Ok-assembled.sound ≡ xs) same c.in-Ok-assembled.ensures.listed in
    listing_begins options.mode options.winner text c.in-Ok-assembled.sound c.new_run-in-Ok-assembled.result c.in-Asm.is within c.in-Ok-assembled.ensures.sound c.in-Ok-assembled.ensures.listable listed c.in-Ok-assembled.ensures.fits c.new_run-in-Ok-assembled.ensures.new

pub returns-in-Ok-assembled-clause-refused : goal.returns-in-Ok-assembled-clause-refused
returns-in-Ok-assembled-clause-refused c =
    only_memory (RefusesRun c.args.options.now.mode c.args.text.items) c.new_run-in-Ok-assembled.result c.new_run-in-Ok-assembled.ensures.memory

pub returns-in-Resume-clause-begins : goal.returns-in-Resume-clause-begins
returns-in-Resume-clause-begins c =
    point_begins c.args.options.now.mode c.args.options.now.winner c.args.text.items c.resumed.result c.in-Resume.is c.resumed.ensures.start

pub returns-in-Resume-clause-refused : goal.returns-in-Resume-clause-refused
returns-in-Resume-clause-refused c =
    points_why c.args.options.now.mode c.args.text.items c.resumed.result c.in-Resume.is c.resumed.ensures.refused
