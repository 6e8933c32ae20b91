use Rattle.std.proofs.Common.{◌≡◌, ℕ, ◌<◌, ◌+◌, ◌∙◌, sym, subst, ap, inr, refl, arith}
use Rattle.cstar_base.specs.declared.operators.Winner.{Winner}
use Rattle.paris_code.specs.Memory.{BitMemory, field_number, processors}
use Rattle.paris_code.specs.Sending.{sends_to, winning_sender}
use Rattle.phase_gate.specs.declared.row_phases.RowPhases.{RowPhases}
use Rattle.phase_gate.specs.Rows.{sets_of, memory_of, room_of}
use Rattle.phase_meaning.specs.Sends.{kept}
use Rattle.phase_meaning.proofs.Senders.{mail, mail_none, winners_more, winners_same}
use Rattle.phase_gate.proofs.row_phases.RowPhases.gather_winners.Goals as goal
use Rattle.phase_gate.proofs.row_phases.RowPhases.gather_winners.Goals.{in-Some, in_default}

pub senders-init : goal.senders-init
senders-init c = (c.clear.ensures.sets, c.clear.ensures.memory, λ p b. c.clear.ensures.none p b ∙ sym (mail_none _ _ _ _))

winner_is : (phases : RowPhases) → phases.winner ≡ (memory_of phases).winner
unfolding memory_of
winner_is phases = refl

pub senders-preserved : goal.senders-preserved
senders-preserved c =
    let now = sets_of c.args.self.now in
    let m = memory_of c.args.self.now in
    let send = c.args.send.now in
    let d = send.dest.set in
    let count = processors now d in
    let k = c.senders.sender in
    let was = c.senders.self in
    let here = c.senders.invariant in
    elim c.match-target.branch [
      | in-Some w ↦
          let t = w.in-Some.target in
          let b : t < count = omega (arith, w.in-Some.ensures.0, ap (λ s. processors s d) here.0) in
          let word : w.kept-word.result ≡ kept m.winner (room_of was d t) (field_number m send.source k) =
          w.kept-word.ensures ∙ ap (λ (v : Winner). kept v w.gathered-earlier.result w.field-message.result) (winner_is was ∙ ap (λ (n : BitMemory). n.winner) here.1)
          ∙ ap (λ o. kept m.winner o w.field-message.result) w.gathered-earlier.ensures
          ∙ ap (kept m.winner (room_of was d t)) (w.field-message.ensures.value ∙ ap (λ (n : BitMemory). field_number n send.source k) here.1) in (
            ap sets_of w.self-is ∙ w.gather.ensures.sets ∙ here.0,
            ap memory_of w.self-is ∙ w.gather.ensures.memory ∙ here.1,
            subst (λ (s : RowPhases). (p : ℕ) → p < count → room_of s d p ≡ mail m send.source m.winner (λ x. sends_to now m send.address p x) (k + 1)) (sym w.self-is)
                (winners_more now (sets_of was) m (memory_of was) send.address send.source count k here.0 here.1 (room_of was d) (room_of w.gather.new.self d) t w.kept-word.result
                w.in-Some.ensures.1 b w.gather.ensures.held (λ p n. w.gather.ensures.others d p (inr n)) m.winner here.2 word),
          )
      | in_default w ↦ (
        ap sets_of w.self-is ∙ here.0,
        ap memory_of w.self-is ∙ here.1,
        subst (λ (s : RowPhases). (p : ℕ) → p < count → room_of s d p ≡ mail m send.source m.winner (λ x. sends_to now m send.address p x) (k + 1)) (sym w.self-is)
            (winners_same now (sets_of was) m (memory_of was) send.address send.source count k here.0 here.1 (room_of was d)
            (λ t b. w.in_default.ensures t (omega (arith, b, ap (λ s. processors s d) here.0))) m.winner here.2),
      )
    ]

pub returns-clause-words : goal.returns-clause-words
unfolding winning_sender
returns-clause-words c = λ p b.
    let now = sets_of c.args.self.now in
    let m = memory_of c.args.self.now in
    let send = c.args.send.now in
    c.senders.invariant.2 p b
    ∙ ap (mail m send.source m.winner (λ x. sends_to now m send.address p x))
    (let e : c.senders.sender ≡ processors now send.address.set = omega (arith, c.senders-test.false, c.senders.auto.sender-end, c.positions-sender-end.ensures, ap (λ s. processors s send.address.set) c.clear.ensures.sets) in e)
