use Rattle.std.proofs.Common.{◌+◌, ◌*◌, ◌%◌, ◌^◌, subst}
use Rattle.phase_gate.specs.Rows.{memory_of}
use Rattle.phase_meaning.proofs.Addresses.{Goes, goes_end, goes_on}
use Rattle.phase_gate.proofs.row_phases.RowPhases.+address.Goals as goal

pub returns-in-Some-Some : goal.returns-in-Some-Some
returns-in-Some-Some t c =
    goes_on (memory_of c.args.self.now) c.args.extents.now c.in-Some-Some.later.now c.in-Some-Some.extent.now c.args.list.now c.in-Some-Some.rest.now c.in-Some-Some.first.now c.args.args.now c.args.position c.args.number c.coordinate-x.result c.address.result
    c.in-Some-Some.ensures.cases.0 c.in-Some-Some.ensures'.cases.0 c.coordinate-x.ensures
    (subst (λ rest_args. Goes (memory_of c.args.self.now) c.in-Some-Some.later.now c.in-Some-Some.rest.now rest_args c.args.position ((c.args.number * c.in-Some-Some.extent.now % 2 ^ 32 + c.coordinate-x.result) % 2 ^ 32) c.address.result) c.behind.ensures c.address.ensures)

pub returns-in_default-2 : goal.returns-in_default-2
returns-in_default-2 t c = goes_end (memory_of c.args.self.now) c.args.extents.now c.args.list.now c.args.args.now c.args.position c.args.number c.in_default.ensures.cases c.ranges.number.fits
