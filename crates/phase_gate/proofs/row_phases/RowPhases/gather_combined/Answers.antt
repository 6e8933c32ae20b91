use Rattle.std.proofs.Common.{◌≡◌, ℕ, ◌<◌, ◌+◌, ◌∙◌, sym, subst, ap, inr, arith}
use Rattle.std.specs.Prelude.{unwrap_or}
use Rattle.cstar_base.specs.Folds.{fold_once}
use Rattle.cstar_base.specs.Numbers.{residue}
use Rattle.paris_code.specs.Memory.{BitMemory, field_number, whole_number, processors}
use Rattle.paris_code.specs.Operators.{combiner_of}
use Rattle.paris_code.specs.Sending.{sends_to, winning_sender, combined}
use Rattle.phase_gate.specs.declared.row_phases.RowPhases.{RowPhases}
use Rattle.phase_gate.specs.Rows.{sets_of, memory_of, room_of}
use Rattle.phase_meaning.proofs.Senders.{folded, folded_none, folds_more, folds_same}
use Rattle.phase_gate.proofs.row_phases.RowPhases.gather_combined.Goals as goal
use Rattle.phase_gate.proofs.row_phases.RowPhases.gather_combined.Goals.{in-Some, in_default}

pub senders-init : goal.senders-init
senders-init c = (c.clear.ensures.sets, c.clear.ensures.memory, λ p b. c.clear.ensures.none p b ∙ sym (folded_none _ _ _ _ _))

pub senders-preserved : goal.senders-preserved
senders-preserved c =
    let now = sets_of c.args.self.now in
    let m = memory_of c.args.self.now in
    let send = c.args.send.now in
    let d = send.dest.set in
    let count = processors now d in
    let k = c.senders.sender in
    let was = c.senders.self in
    let here = c.senders.invariant in
    let o = combiner_of c.args.combiner in
    let step : ℕ → ℕ → ℕ = λ total n. fold_once o.0 o.1 total n in
    let value : ℕ → ℕ = λ x. field_number m send.source x in
    let start : ℕ → ℕ = λ p. residue 32 (whole_number m send.kind.signed send.dest p) in
    elim c.match-target.branch [
      | in-Some w ↦
          let t = w.in-Some.target in
          let b : t < count = omega (arith, w.in-Some.ensures.0, ap (λ s. processors s d) here.0) in
          let so_far : w.unwrap_or-so_far.result ≡ unwrap_or (room_of was d t) (start t) =
          w.unwrap_or-so_far.ensures ∙ ap (λ r. unwrap_or r w.word-old.result) w.gathered.ensures
          ∙ ap (unwrap_or (room_of was d t)) (w.word-old.ensures.value ∙ ap (λ (n : BitMemory). residue 32 (whole_number n send.kind.signed send.dest t)) here.1) in
          let word : w.fold_step-word.result ≡ step (unwrap_or (room_of was d t) (start t)) (value k) =
          w.fold_step-word.ensures ∙ ap (λ r. fold_once r.0 r.1 w.unwrap_or-so_far.result w.field-message.result) c.combiner-combine.ensures
          ∙ ap (λ x. step x w.field-message.result) so_far
          ∙ ap (step (unwrap_or (room_of was d t) (start t))) (w.field-message.ensures.value ∙ ap (λ (n : BitMemory). field_number n send.source k) here.1) in (
            ap sets_of w.self-is ∙ w.gather.ensures.sets ∙ here.0,
            ap memory_of w.self-is ∙ w.gather.ensures.memory ∙ here.1,
            subst (λ (s : RowPhases). (p : ℕ) → p < count → room_of s d p ≡ folded step m.winner (λ x. sends_to now m send.address p x) value (start p) (k + 1)) (sym w.self-is)
                (folds_more now (sets_of was) m (memory_of was) send.address send.source count k here.0 here.1 (room_of was d) (room_of w.gather.new.self d) t w.fold_step-word.result
                w.in-Some.ensures.1 b w.gather.ensures.held (λ p n. w.gather.ensures.others d p (inr n)) m.winner step value start here.2 word),
          )
      | in_default w ↦ (
        ap sets_of w.self-is ∙ here.0,
        ap memory_of w.self-is ∙ here.1,
        subst (λ (s : RowPhases). (p : ℕ) → p < count → room_of s d p ≡ folded step m.winner (λ x. sends_to now m send.address p x) value (start p) (k + 1)) (sym w.self-is)
            (folds_same now (sets_of was) m (memory_of was) send.address send.source count k here.0 here.1 (room_of was d)
            (λ t b. w.in_default.ensures t (omega (arith, b, ap (λ s. processors s d) here.0))) m.winner step value start here.2),
      )
    ]

pub returns-clause-words : goal.returns-clause-words
unfolding winning_sender combined
returns-clause-words c = λ p b.
    let now = sets_of c.args.self.now in
    let m = memory_of c.args.self.now in
    let send = c.args.send.now in
    let o = combiner_of c.args.combiner in
    c.senders.invariant.2 p b
    ∙ ap (folded (λ total n. fold_once o.0 o.1 total n) m.winner (λ x. sends_to now m send.address p x) (λ x. field_number m send.source x) (residue 32 (whole_number m send.kind.signed send.dest p)))
    (let e : c.senders.sender ≡ processors now send.address.set = omega (arith, c.senders-test.false, c.senders.auto.sender-end, c.positions-sender-end.ensures, ap (λ s. processors s send.address.set) c.clear.ensures.sets) in e)
