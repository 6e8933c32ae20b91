use Rattle.std.proofs.Common.{◌∙◌, ap, refl, sym}
use Rattle.cstar_tree.specs.Room.{expression_room, greatest}
use Rattle.shape_room.proofs.ByRules.{value_by_rules}
use Rattle.shape_room.proofs.Counting.{greatest_alone}
use Rattle.shape_room.specs.Counted.{counted}
use Rattle.shape_room.proofs.room.optional_expression.Goals as goal

pub returns-in-Some : goal.returns-in-Some
returns-in-Some c = rw c.in-Some.is (value_by_rules c.args.shape c.in-Some.e c.expression.ensures ∙ ap counted (sym (greatest_alone (expression_room c.args.shape c.in-Some.e))))

pub returns-in-None : goal.returns-in-None
unfolding greatest
returns-in-None c = rw c.in-None.is refl
