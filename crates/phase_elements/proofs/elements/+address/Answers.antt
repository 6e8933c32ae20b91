use Rattle.std.proofs.Common.{◌+◌, ◌*◌, ◌%◌, ◌^◌, subst}
use Rattle.phase_meaning.proofs.Addresses.{Goes, goes_end, goes_on}
use Rattle.phase_elements.proofs.elements.+address.Goals as goal

pub returns-in-Some-Some : goal.returns-in-Some-Some
returns-in-Some-Some g t c =
    goes_on (g.M.Readable.memory c.args.m.now) c.args.extents.now c.in-Some-Some.later.now c.in-Some-Some.extent.now c.args.list.now c.in-Some-Some.rest.now c.in-Some-Some.first.now c.args.args.now c.args.position c.args.number c.coordinate-x.result c.address.result
    c.in-Some-Some.ensures.cases.0 c.in-Some-Some.ensures'.cases.0 c.coordinate-x.ensures
    (subst (λ rest_args. Goes (g.M.Readable.memory c.args.m.now) c.in-Some-Some.later.now c.in-Some-Some.rest.now rest_args c.args.position ((c.args.number * c.in-Some-Some.extent.now % 2 ^ 32 + c.coordinate-x.result) % 2 ^ 32) c.address.result) c.behind.ensures c.address.ensures)

pub returns-in_default-2 : goal.returns-in_default-2
returns-in_default-2 g t c = goes_end (g.M.Readable.memory c.args.m.now) c.args.extents.now c.args.list.now c.args.args.now c.args.position c.args.number c.in_default.ensures.cases c.ranges.number.fits
