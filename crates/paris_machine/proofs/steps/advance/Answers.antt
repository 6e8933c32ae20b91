use Rattle.std.proofs.Common.{ℕ, [], refl, subst, take}
use Rattle.front_end.specs.declared.ask.Ask.{Ask}
use Rattle.front_end.specs.Front.{AsksAfter, state_of}
use Rattle.paris_machine.specs.Runs.{Puts}
use Rattle.paris_machine.proofs.Following.{for_none, took_none, takes_none, puts_none, falls_behind, ran_falls, put_falls, read_falls, apply_falls, ran_advances, fault_advances, stopped_advances, halted_advances, apply_advances, put_advances, read_advances}
use Rattle.paris_machine.proofs.steps.advance.Goals as goal

pub returns-in-Ran-clause-falls : goal.returns-in-Ran-clause-falls
returns-in-Ran-clause-falls g c =
    let asks = subst (λ (ask : Ask). AsksAfter c.args.sound.now (state_of c.args.front.now) ask c.run-ask.result.1 (state_of c.run-ask.new.self)) c.in-Ran.is c.run-ask.ensures.asks in
    let last = asks.2 in
    falls_behind c.args.sound.now c.image-image.ensures.sound (state_of c.args.front.now) last.0 (state_of c.run-ask.new.self) (g.P.Phases.memory c.args.p.now) asks.0 c.run-ask.result.1 last.1 asks.1
    (ran_falls c.args.sound.now c.image-image.ensures.sound last.0 (state_of c.run-ask.new.self) (g.P.Phases.memory c.args.p.now) last.2 last.3)

pub returns-in-Apply-clause-falls : goal.returns-in-Apply-clause-falls
returns-in-Apply-clause-falls g c =
    let asks = subst (λ (ask : Ask). AsksAfter c.args.sound.now (state_of c.args.front.now) ask c.run-ask.result.1 (state_of c.run-ask.new.self)) c.in-Apply.is c.run-ask.ensures.asks in
    let last = asks.2 in
    for_none c.apply.result _ (falls_behind c.args.sound.now c.image-image.ensures.sound (state_of c.args.front.now) last.0 (state_of c.apply.new.front) (g.P.Phases.memory c.args.p.now) asks.0 c.run-ask.result.1 last.1 asks.1
    (apply_falls c.args.sound.now c.image-image.ensures.sound last.0 (state_of c.run-ask.new.self) (state_of c.apply.new.front) c.in-Apply.at last.2 last.3 c.apply.ensures.stays))

pub returns-in-Literal-clause-falls : goal.returns-in-Literal-clause-falls
returns-in-Literal-clause-falls g c =
    let asks = subst (λ (ask : Ask). AsksAfter c.args.sound.now (state_of c.args.front.now) ask c.run-ask.result.1 (state_of c.run-ask.new.self)) c.in-Literal.is c.run-ask.ensures.asks in
    let last = asks.2 in
    for_none c.put_literal.result _ (falls_behind c.args.sound.now c.image-image.ensures.sound (state_of c.args.front.now) last.0 (state_of c.run-ask.new.self) (g.P.Phases.memory c.args.p.now) asks.0 c.run-ask.result.1 last.1 asks.1
    (put_falls c.args.sound.now c.image-image.ensures.sound last.0 (state_of c.run-ask.new.self) (g.P.Phases.memory c.args.p.now) last.3.0 last.2 last.3.4))

pub returns-in-Digits-clause-falls : goal.returns-in-Digits-clause-falls
returns-in-Digits-clause-falls g c =
    let asks = subst (λ (ask : Ask). AsksAfter c.args.sound.now (state_of c.args.front.now) ask c.run-ask.result.1 (state_of c.run-ask.new.self)) c.in-Digits.is c.run-ask.ensures.asks in
    let last = asks.2 in
    for_none c.put.result _ (falls_behind c.args.sound.now c.image-image.ensures.sound (state_of c.args.front.now) last.0 (state_of c.run-ask.new.self) (g.P.Phases.memory c.args.p.now) asks.0 c.run-ask.result.1 last.1 asks.1
    (put_falls c.args.sound.now c.image-image.ensures.sound last.0 (state_of c.run-ask.new.self) (g.P.Phases.memory c.args.p.now) (take c.in-Digits.len c.in-Digits.text) last.2 last.3.2))

pub returns-in-Byte-clause-falls : goal.returns-in-Byte-clause-falls
returns-in-Byte-clause-falls g c =
    let asks = subst (λ (ask : Ask). AsksAfter c.args.sound.now (state_of c.args.front.now) ask c.run-ask.result.1 (state_of c.run-ask.new.self)) c.in-Byte.is c.run-ask.ensures.asks in
    let last = asks.2 in
    for_none c.read.result _ (falls_behind c.args.sound.now c.image-image.ensures.sound (state_of c.args.front.now) last.0 (state_of c.read.new.front) (g.P.Phases.memory c.args.p.now) asks.0 c.run-ask.result.1 last.1 asks.1
    (read_falls c.args.sound.now c.image-image.ensures.sound last.0 (state_of c.run-ask.new.self) (state_of c.read.new.front) (g.P.Phases.memory c.args.p.now) last.2 last.3 c.read.ensures.stays))

pub returns-in-Ran-clause-meaning : goal.returns-in-Ran-clause-meaning
returns-in-Ran-clause-meaning g c =
    let asks = subst (λ (ask : Ask). AsksAfter c.args.sound.now (state_of c.args.front.now) ask c.run-ask.result.1 (state_of c.run-ask.new.self)) c.in-Ran.is c.run-ask.ensures.asks in
    let last = asks.2 in (
      [],
      (
        [],
        took_none (g.I.Source.left c.args.input.now),
        takes_none g.O.Sink.agrees c.args.out.now,
        (λ e. (e, refl, refl)),
        (asks.0, asks.1, (last.0, last.1, ran_advances c.args.sound.now last.0 (state_of c.run-ask.new.self) (g.P.Phases.memory c.args.p.now) c.args.ended.now last.3)),
      ),
    )

pub returns-in-Apply-clause-meaning : goal.returns-in-Apply-clause-meaning
returns-in-Apply-clause-meaning g c =
    let asks = subst (λ (ask : Ask). AsksAfter c.args.sound.now (state_of c.args.front.now) ask c.run-ask.result.1 (state_of c.run-ask.new.self)) c.in-Apply.is c.run-ask.ensures.asks in
    let last = asks.2 in (
      [],
      (
        [],
        took_none (g.I.Source.left c.args.input.now),
        puts_none c.apply.result g.O.Sink.agrees c.args.out.now c.apply.ensures.output,
        (λ e. (e, refl, c.apply.ensures.input)),
        (asks.0, asks.1, (last.0, last.1, apply_advances c.args.sound.now last.0 (state_of c.run-ask.new.self) (state_of c.apply.new.front) c.in-Apply.at (g.P.Phases.memory c.args.p.now) (g.P.Phases.memory c.apply.new.p) c.apply.result c.args.ended.now last.3 (c.apply.ensures.meaning last.3.0 last.3.2))),
      ),
    )

pub returns-in-Literal-clause-meaning : goal.returns-in-Literal-clause-meaning
returns-in-Literal-clause-meaning g c =
    let asks = subst (λ (ask : Ask). AsksAfter c.args.sound.now (state_of c.args.front.now) ask c.run-ask.result.1 (state_of c.run-ask.new.self)) c.in-Literal.is c.run-ask.ensures.asks in
    let last = asks.2 in
    let puts = c.put_literal.ensures.puts last.3.0 last.3.2 in (
      [],
      (
        last.3.0,
        took_none (g.I.Source.left c.args.input.now),
        puts.1,
        (λ e. (e, refl, c.put_literal.ensures.input)),
        (asks.0, asks.1, (last.0, last.1, put_advances c.args.sound.now last.0 (state_of c.run-ask.new.self) (g.P.Phases.memory c.args.p.now) c.put_literal.result c.args.ended.now last.3.0 puts.0 last.3.4)),
      ),
    )

pub returns-in-Digits-clause-meaning : goal.returns-in-Digits-clause-meaning
returns-in-Digits-clause-meaning g c =
    let asks = subst (λ (ask : Ask). AsksAfter c.args.sound.now (state_of c.args.front.now) ask c.run-ask.result.1 (state_of c.run-ask.new.self)) c.in-Digits.is c.run-ask.ensures.asks in
    let last = asks.2 in (
      [],
      (
        take c.in-Digits.len c.in-Digits.text,
        took_none (g.I.Source.left c.args.input.now),
        subst (λ (n : ℕ). Puts c.put.result g.O.Sink.agrees c.args.out.now c.put.new.out (take n c.in-Digits.text)) c.from.ensures c.put.ensures.puts,
        (λ e. (e, refl, c.put.ensures.input)),
        (asks.0, asks.1, (last.0, last.1, put_advances c.args.sound.now last.0 (state_of c.run-ask.new.self) (g.P.Phases.memory c.args.p.now) c.put.result c.args.ended.now (take c.in-Digits.len c.in-Digits.text) c.put.ensures.only last.3.2)),
      ),
    )

pub returns-in-Byte-clause-meaning : goal.returns-in-Byte-clause-meaning
returns-in-Byte-clause-meaning g c =
    let asks = subst (λ (ask : Ask). AsksAfter c.args.sound.now (state_of c.args.front.now) ask c.run-ask.result.1 (state_of c.run-ask.new.self)) c.in-Byte.is c.run-ask.ensures.asks in
    let last = asks.2 in
    let reads = c.read.ensures.meaning in (
      reads.0,
      (
        [],
        reads.1,
        puts_none c.read.result g.O.Sink.agrees c.args.out.now c.read.ensures.output,
        reads.2,
        (asks.0, asks.1, (last.0, last.1, read_advances c.args.sound.now last.0 (state_of c.run-ask.new.self) (state_of c.read.new.front) (g.P.Phases.memory c.args.p.now) c.read.result c.read.new.ended reads.0 last.3 reads.3)),
      ),
    )

pub returns-in-Fault-clause-meaning : goal.returns-in-Fault-clause-meaning
returns-in-Fault-clause-meaning g c =
    let asks = subst (λ (ask : Ask). AsksAfter c.args.sound.now (state_of c.args.front.now) ask c.run-ask.result.1 (state_of c.run-ask.new.self)) c.in-Fault.is c.run-ask.ensures.asks in
    let last = asks.2 in (
      [],
      (
        [],
        took_none (g.I.Source.left c.args.input.now),
        takes_none g.O.Sink.agrees c.args.out.now,
        (λ e. (e, refl, refl)),
        (asks.0, asks.1, (last.0, last.1, fault_advances c.args.sound.now last.0 (state_of c.run-ask.new.self) (g.P.Phases.memory c.args.p.now) c.args.ended.now c.in-Fault.kind c.in-Fault.place last.3)),
      ),
    )

pub returns-in-Stopped-clause-meaning : goal.returns-in-Stopped-clause-meaning
returns-in-Stopped-clause-meaning g c =
    let asks = subst (λ (ask : Ask). AsksAfter c.args.sound.now (state_of c.args.front.now) ask c.run-ask.result.1 (state_of c.run-ask.new.self)) c.in-Stopped.is c.run-ask.ensures.asks in
    let last = asks.2 in (
      [],
      (
        [],
        took_none (g.I.Source.left c.args.input.now),
        takes_none g.O.Sink.agrees c.args.out.now,
        (λ e. (e, refl, refl)),
        (asks.0, asks.1, (last.0, last.1, stopped_advances c.args.sound.now last.0 (state_of c.run-ask.new.self) (g.P.Phases.memory c.args.p.now) c.args.ended.now last.3)),
      ),
    )

pub returns-in-Halted-clause-meaning : goal.returns-in-Halted-clause-meaning
returns-in-Halted-clause-meaning g c =
    let asks = subst (λ (ask : Ask). AsksAfter c.args.sound.now (state_of c.args.front.now) ask c.run-ask.result.1 (state_of c.run-ask.new.self)) c.in-Halted.is c.run-ask.ensures.asks in
    let last = asks.2 in (
      [],
      (
        [],
        took_none (g.I.Source.left c.args.input.now),
        takes_none g.O.Sink.agrees c.args.out.now,
        (λ e. (e, refl, refl)),
        (asks.0, asks.1, (last.0, last.1, halted_advances c.args.sound.now last.0 (state_of c.run-ask.new.self) (g.P.Phases.memory c.args.p.now) c.args.ended.now last.3)),
      ),
    )
