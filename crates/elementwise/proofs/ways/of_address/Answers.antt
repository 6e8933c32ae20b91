use Rattle.std.proofs.Common.{◌∷◌, length, sym, ◌∙◌, ap, subst}
use Rattle.std.proofs.lemmas.Bool.{eqb-true}
use Rattle.elementwise.specs.declared.ways.Way.{Way}
use Rattle.elementwise.specs.Ways.{IsWayOf}
use Rattle.elementwise.proofs.Copies.{address_moves, address_constant}
use Rattle.elementwise.proofs.ways.of_address.Goals as goal

pub returns-in-Field : goal.returns-in-Field
returns-in-Field c = λ shapes instr can makes.
    c.of_move.ensures shapes c.args.args.now instr
    (address_moves shapes c.args.args.now instr c.args.dest c.in-Field.f c.args.coordinates.now c.in-Some.rest.now can makes (c.in-Some.ensures.cases.0 ∙ ap (λ k. k ∷ c.in-Some.rest.now) c.in-Field.is) (eqb-true (length c.in-Some.rest.now) 0 (sym c.if-is_empty.ensures)))

pub returns-in-Reg : goal.returns-in-Reg
returns-in-Reg c = λ shapes instr can makes.
    subst (λ (w : Way). IsWayOf shapes instr c.args.args.now w) (sym c.of_one.ensures)
    (address_constant shapes c.args.args.now instr c.args.dest c.in-Reg.field-0 c.next.result c.args.coordinates.now c.in-Some.rest.now can makes (c.in-Some.ensures.cases.0 ∙ ap (λ k. k ∷ c.in-Some.rest.now) c.in-Reg.is) (eqb-true (length c.in-Some.rest.now) 0 (sym c.if-is_empty.ensures)) c.next.ensures)
