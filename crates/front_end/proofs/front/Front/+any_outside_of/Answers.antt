use Rattle.std.proofs.Common.{◌≡◌, ap, sym, ◌∙◌}
use Rattle.std.specs.Prelude.{◌||◌, slice_index}
use Rattle.cstar_base.specs.Numbers.{number_of}
use Rattle.paris_code.specs.Checking.{is_outside}
use Rattle.paris_code.specs.Operands.{register_of}
use Rattle.paris_code.specs.Scalar.{any_register_outside, is_read_signed}
use Rattle.front_end.proofs.Steps.{outside_first, outside_no_axis, outside_none}
use Rattle.front_end.proofs.front.Front.+any_outside_of.Goals as goal

pub returns-then-is_outside : goal.returns-then-is_outside
returns-then-is_outside t c =
    let first = outside_first c.args.extents.now c.in-Some-Some.extents.now c.in-Some-Some.extent.now c.args.coordinates.now c.in-Some-Some.rest.now c.in-Some-Some.coordinate.now c.args.self.now.registers.items c.in-Some-Some.ensures.cases.0 c.in-Some-Some.ensures'.cases.0 in
    let test : c.is_outside.result ≡ is_outside c.in-Some-Some.extent.now (number_of 32 (is_read_signed c.in-Some-Some.coordinate.now) (slice_index c.args.self.now.registers.items (register_of c.in-Some-Some.coordinate.now))) =
    c.is_outside.ensures ∙ ap (λ x. is_outside c.in-Some-Some.extent.now (number_of 32 (is_read_signed c.in-Some-Some.coordinate.now) x)) c.register-x.ensures in
    c.if-is_outside.true ∙ sym (first ∙ ap (λ b. b || any_register_outside c.in-Some-Some.extents.now c.in-Some-Some.rest.now c.args.self.now.registers.items) (sym test ∙ c.if-is_outside.true))

pub returns-else-is_outside : goal.returns-else-is_outside
returns-else-is_outside t c =
    let first = outside_first c.args.extents.now c.in-Some-Some.extents.now c.in-Some-Some.extent.now c.args.coordinates.now c.in-Some-Some.rest.now c.in-Some-Some.coordinate.now c.args.self.now.registers.items c.in-Some-Some.ensures.cases.0 c.in-Some-Some.ensures'.cases.0 in
    let test : c.is_outside.result ≡ is_outside c.in-Some-Some.extent.now (number_of 32 (is_read_signed c.in-Some-Some.coordinate.now) (slice_index c.args.self.now.registers.items (register_of c.in-Some-Some.coordinate.now))) =
    c.is_outside.ensures ∙ ap (λ x. is_outside c.in-Some-Some.extent.now (number_of 32 (is_read_signed c.in-Some-Some.coordinate.now) x)) c.register-x.ensures in
    c.any_outside_of.ensures ∙ sym (first ∙ ap (λ b. b || any_register_outside c.in-Some-Some.extents.now c.in-Some-Some.rest.now c.args.self.now.registers.items) (sym test ∙ c.if-is_outside.false))

pub returns-in_default : goal.returns-in_default
returns-in_default t c = outside_none c.args.extents.now c.args.coordinates.now c.args.self.now.registers.items c.in_default.ensures'.cases

pub returns-in_default-2 : goal.returns-in_default-2
returns-in_default-2 t c = outside_no_axis c.args.extents.now c.args.coordinates.now c.args.self.now.registers.items c.in_default.ensures.cases
