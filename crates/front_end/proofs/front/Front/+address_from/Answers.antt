use Rattle.std.proofs.Common.{◌^◌, ◌∙◌, arith}
use Rattle.front_end.proofs.Steps.{address_first, address_none}
use Rattle.front_end.proofs.front.Front.+address_from.Goals as goal

pub returns-in-Some-Some : goal.returns-in-Some-Some
returns-in-Some-Some t c =
    c.address_from.ensures
    ∙ address_first c.args.number c.in-Some-Some.extent.now c.register-x.result c.args.extents.now c.in-Some-Some.extents.now c.args.registers.now c.in-Some-Some.rest.now c.args.self.now.registers.items c.in-Some-Some.register.now (2 ^ 32) c.in-Some-Some.ensures.cases.0 c.in-Some-Some.ensures'.cases.0 c.register-x.ensures

pub returns-in_default-2 : goal.returns-in_default-2
returns-in_default-2 t c = address_none c.args.number (2 ^ 32) c.args.extents.now _ c.in_default.ensures.cases (omega arith)
