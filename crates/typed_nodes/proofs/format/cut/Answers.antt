use Rattle.typed_nodes.proofs.Cuts.{at_begin, byte, no_form, open_percent, percent, second_percent, value, whole}
use Rattle.typed_nodes.proofs.format.cut.Goals as goal
use Rattle.typed_nodes.proofs.format.cut.Goals.{then-not-after_percent+then-byte-eq37, then-not-after_percent+else-byte-eq37+in_ok-push, else-not-after_percent+then-byte-eq37-2+in_ok-push-2, else-not-after_percent+else-byte-eq37-2+in-Some+in_ok-push_literal+in_ok-push-3}

pub loop-byte-init : goal.loop-byte-init
loop-byte-init c = at_begin c.args.text.now c.new-pieces.ensures.items c.new-literal.ensures.items

pub returns-in_default : goal.returns-in_default
returns-in_default c = no_form c.loop-byte.invariant c.if-not-after_percent.false c.loop-byte-test.true c.if-byte-eq37-2.false c.in_default.ensures

pub loop-byte-preserved : goal.loop-byte-preserved
loop-byte-preserved c = elim c.if-not-after_percent.branch [
  | then-not-after_percent+then-byte-eq37 w ↦ rw (w.pieces-is, w.literal-is, w.conversions-is, w.after_percent-is) (percent c.loop-byte.invariant w.if-not-after_percent.true c.loop-byte-test.true w.if-byte-eq37.true)
  | then-not-after_percent+else-byte-eq37+in_ok-push w ↦ rw (w.pieces-is, w.literal-is, w.conversions-is, w.after_percent-is) (byte c.loop-byte.invariant w.if-not-after_percent.true c.loop-byte-test.true w.if-byte-eq37.false w.in_ok-push.ensures.items)
  | else-not-after_percent+then-byte-eq37-2+in_ok-push-2 w ↦ rw (w.pieces-is, w.literal-is, w.conversions-is, w.after_percent-is) (second_percent c.loop-byte.invariant w.if-not-after_percent.false c.loop-byte-test.true w.if-byte-eq37-2.true w.in_ok-push-2.ensures.items)
  | else-not-after_percent+else-byte-eq37-2+in-Some+in_ok-push_literal+in_ok-push-3 w ↦ rw (w.pieces-is, w.literal-is, w.conversions-is, w.after_percent-is) (value c.loop-byte.invariant w.if-not-after_percent.false c.loop-byte-test.true w.if-byte-eq37-2.false w.in-Some.ensures w.in_ok-push_literal.ensures w.in_ok-push-3.ensures.items w.new-literal-else-byte-eq37-2.ensures.items)
]

pub returns-then-after_percent : goal.returns-then-after_percent
returns-then-after_percent c = open_percent c.loop-byte.invariant c.if-after_percent.true c.loop-byte-test.false

pub returns : goal.returns
returns c = whole c.loop-byte.invariant c.if-after_percent.false c.loop-byte-test.false c.in_ok-push_literal-2.ensures
