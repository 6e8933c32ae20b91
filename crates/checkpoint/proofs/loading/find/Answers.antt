use Rattle.std.proofs.Common.{◌≡◌, ◌<◌, List, ℕ, length, take, drop, ◌-◌, sym, ◌∙◌, ap, arith}
use Rattle.std.proofs.lemmas.Bool.{eqb-true, eqb-false}
use Rattle.std.proofs.lemmas.List.{length-drop, take_all}
use Rattle.checkpoint.specs.Bytes.{Stand, flag_byte, point_in}
use Rattle.checkpoint.proofs.Leaving.{leaves_head, ends_in_head, whole_read, goes_on, ends_in_body, nothing_left, tested, told}
use Rattle.checkpoint.proofs.loading.find.Goals as goal

tail_is : (s : List ℕ) → take (length s - 10) (drop 10 s) ≡ drop 10 s
tail_is s = take_all (length s - 10) (drop 10 s) (omega (arith, length-drop 10 s))

behind : (s passed after : List ℕ) → passed ≡ after → passed ≡ drop 10 s → drop 10 s ≡ after
behind s passed after e f = sym f ∙ e

pub returns-in-Some-clause-bad : goal.returns-in-Some-clause-bad
returns-in-Some-clause-bad c at is =
    told _ c.in-Some.at at is (leaves_head _ _ c.in-Some.ensures.0 c.in-Some.ensures.1 c.in-Some.ensures.2 c.in-Some.ensures.3)

pub returns-then-bytes-lt-HEAD-clause-bad : goal.returns-then-bytes-lt-HEAD-clause-bad
returns-then-bytes-lt-HEAD-clause-bad c at is = told _ _ at is (ends_in_head _ c.if-bytes-lt-HEAD.true c.in_default.ensures)

pub returns-then-is_empty-clause-inverse : goal.returns-then-is_empty-clause-inverse
returns-then-is_empty-clause-inverse c =
    let stand : Stand c.args.bytes.now 10 = λ k h. c.in_default.ensures k (omega arith) in
    let none : length c.in-Ok.rest.now ≡ 0 = eqb-true _ _ (sym c.if-is_empty.ensures) in
    nothing_left _ _ _ (whole_read c.args.bytes.now c.winner_of.result (point_in c.in-Ok.found) c.in-Ok.rest.now c.if-bytes-lt-HEAD.false stand c.winner_of.ensures
    (ap flag_byte c.in-Ok.ensures.ended ∙ tested c.args.bytes.now stand) c.in-Ok.ensures.winner (behind c.args.bytes.now _ _ c.in-Ok.ensures.read (tail_is c.args.bytes.now))) none

pub returns-in-Ok-clause-bad : goal.returns-in-Ok-clause-bad
returns-in-Ok-clause-bad c at is =
    let stand : Stand c.args.bytes.now 10 = λ k h. c.in_default.ensures k (omega arith) in
    let some : 0 < length c.in-Ok.rest.now = omega (arith, eqb-false _ _ (sym c.if-is_empty.ensures)) in
    told _ _ at is (goes_on _ _ _ c.in-Ok.ensures.point (whole_read c.args.bytes.now c.winner_of.result (point_in c.in-Ok.found) c.in-Ok.rest.now c.if-bytes-lt-HEAD.false stand c.winner_of.ensures
    (ap flag_byte c.in-Ok.ensures.ended ∙ tested c.args.bytes.now stand) c.in-Ok.ensures.winner (behind c.args.bytes.now _ _ c.in-Ok.ensures.read (tail_is c.args.bytes.now))) some)

pub returns-in-Err-Short-clause-bad : goal.returns-in-Err-Short-clause-bad
returns-in-Err-Short-clause-bad c at is =
    let stand : Stand c.args.bytes.now 10 = λ k h. c.in_default.ensures k (omega arith) in
    told _ _ at is (ends_in_body c.args.bytes.now (λ i. omega (arith, c.type_inv.bytes i)) c.if-bytes-lt-HEAD.false stand (λ p rest few e. c.in-Err-Short.ensures.short c.in-Err-Short.field-0-is p rest few (tail_is c.args.bytes.now ∙ e)))
