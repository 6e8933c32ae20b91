use Rattle.std.proofs.Common.{◌≡◌, length, arith, [], ◌∷◌}
use Rattle.std.proofs.lemmas.Result.{err_from_is_err_and}
use Rattle.grammar_parts.specs.Parts as P
use Rattle.cstar_parser.proofs.Following.{nothing_behind}
use Rattle.cstar_parser.proofs.Outside.{begin_outside, behind_outside, stop_outside, text_ends, text_stops}
use Rattle.cstar_tree.specs.Items as X
use Rattle.cstar_parser.proofs.StatementFitting.{items_more, no_items}
use Rattle.cstar_parser.proofs.reader.Reader.read_items.Goals as goal

pub items-init : goal.items-init
items-init c = (omega arith, rw c.new-items.ensures.items X.no_item, rw c.new-items.ensures.items no_items, begin_outside)

pub items-preserved : goal.items-preserved
items-preserved c =
    let item = c.in_ok-read_item.ensures.read in
    (item.inside, rw c.in_ok-push.ensures.items (X.one_more c.items.invariant.1 item.spelled), rw c.in_ok-push.ensures.items (items_more _ c.items.invariant.2 item.fits), behind_outside [] c.in_ok-read_item.ensures.follows c.items.invariant.3 (omega arith))

pub returns-clause-spelled : goal.returns-clause-spelled
returns-clause-spelled c =
    let at_end : c.items.spot.at ≡ length c.args.self.now.tokens.now = omega arith in
    rw at_end at c.items.invariant.1

pub returns-in_err-read_item-clause-verdict : goal.returns-in_err-read_item-clause-verdict
returns-in_err-read_item-clause-verdict c =
    let p = err_from_is_err_and c.from_residual.result c.from_residual.ensures.1 in rw (p.1, p.2) (text_stops _ _ (stop_outside _ (P.items ∷ []) [] c.in_err-read_item.ensures.follows c.items.invariant.3 (omega arith)))

pub returns-clause-verdict : goal.returns-clause-verdict
returns-clause-verdict c =
    text_ends c.items.invariant.3 (nothing_behind _ _ c.items-test.false)
