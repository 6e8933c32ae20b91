use Rattle.std.proofs.Common.{rules, ◌≡◌, ◌+◌, true, if◌then◌else◌, None, subst, sym, ap, ◌∙◌, refl}
use Rattle.std.specs.Prelude.{◌==◌, not}
use Rattle.cstar_base.specs.declared.faults.RunFault.TheVariants.{Index, DivZero}
use Rattle.paris_code.specs.declared.instr.Instr.{Instr}
use Rattle.paris_code.specs.declared.instr.Instr.TheVariants as I
use Rattle.paris_code.specs.Code.{Goes, Ends, Fault}
use Rattle.paris_code.specs.Scalar.{any_register_outside}
use Rattle.paris_code.specs.Shapes.{shapes_of, extents_at}
use Rattle.front_end.specs.Front.{State, state_of, joined}
use Rattle.front_end.proofs.Steps.{IsControl, asked, asks_jump, asks_jump_zero, asks_jump_nonzero, asks_call, asks_return, asks_turn, asks_put, asks_digits, asks_byte, asks_target, asks_halt, is_other}
use Rattle.front_end.proofs.front.Front.control.Goals as goal

pub returns-in-FrontJump-clause-asks : goal.returns-in-FrontJump-clause-asks
returns-in-FrontJump-clause-asks c =
    let old : State = state_of c.args.self.now in
    let is : IsControl c.args.sound.now old (I.FrontJump c.in-FrontJump.target) = subst (λ (i : Instr). IsControl c.args.sound.now old i) c.in-FrontJump.is (c.requires.here, c.requires.scalar, c.requires.other) in
    asked c.args.sound.now old c.jump.result _ (state_of c.jump.new.self) _ c.jump.ensures.asks (c.jump.ensures.state) (asks_jump c.args.sound.now c.in-FrontJump.target old is c.requires.ready)

pub returns-in-FrontJumpZero-clause-asks : goal.returns-in-FrontJumpZero-clause-asks
returns-in-FrontJumpZero-clause-asks c =
    let old : State = state_of c.args.self.now in
    let is : IsControl c.args.sound.now old (I.FrontJumpZero c.in-FrontJumpZero.test c.in-FrontJumpZero.target) = subst (λ (i : Instr). IsControl c.args.sound.now old i) c.in-FrontJumpZero.is (c.requires.here, c.requires.scalar, c.requires.other) in
    asked c.args.sound.now old c.jump-in-FrontJumpZero.result _ (state_of c.jump-in-FrontJumpZero.new.self) _ c.jump-in-FrontJumpZero.ensures.asks (c.jump-in-FrontJumpZero.ensures.state ∙ ap (λ v. record old { at = if v == 0 then c.in-FrontJumpZero.target else old.at + 1 }) c.register-value.ensures) (asks_jump_zero c.args.sound.now c.in-FrontJumpZero.test c.in-FrontJumpZero.target old is c.requires.ready)

pub returns-in-FrontJumpNonzero-clause-asks : goal.returns-in-FrontJumpNonzero-clause-asks
returns-in-FrontJumpNonzero-clause-asks c =
    let old : State = state_of c.args.self.now in
    let is : IsControl c.args.sound.now old (I.FrontJumpNonzero c.in-FrontJumpNonzero.test c.in-FrontJumpNonzero.target) = subst (λ (i : Instr). IsControl c.args.sound.now old i) c.in-FrontJumpNonzero.is (c.requires.here, c.requires.scalar, c.requires.other) in
    asked c.args.sound.now old c.jump-in-FrontJumpNonzero.result _ (state_of c.jump-in-FrontJumpNonzero.new.self) _ c.jump-in-FrontJumpNonzero.ensures.asks (c.jump-in-FrontJumpNonzero.ensures.state ∙ ap (λ v. record old { at = if not (v == 0) then c.in-FrontJumpNonzero.target else old.at + 1 }) c.register-value-in-FrontJumpNonzero.ensures) (asks_jump_nonzero c.args.sound.now c.in-FrontJumpNonzero.test c.in-FrontJumpNonzero.target old is c.requires.ready)

pub returns-in-FrontCall-clause-asks : goal.returns-in-FrontCall-clause-asks
returns-in-FrontCall-clause-asks c =
    let old : State = state_of c.args.self.now in
    let is : IsControl c.args.sound.now old (I.FrontCall c.in-FrontCall.unit) = subst (λ (i : Instr). IsControl c.args.sound.now old i) c.in-FrontCall.is (c.requires.here, c.requires.scalar, c.requires.other) in
    asked c.args.sound.now old c.call.result _ (state_of c.call.new.self) _ c.call.ensures.asks (c.call.ensures.state) (asks_call c.args.sound.now c.in-FrontCall.unit old is c.requires.ready)

pub returns-in-FrontReturn-clause-asks : goal.returns-in-FrontReturn-clause-asks
returns-in-FrontReturn-clause-asks c =
    let old : State = state_of c.args.self.now in
    let is : IsControl c.args.sound.now old (I.FrontReturn) = subst (λ (i : Instr). IsControl c.args.sound.now old i) c.in-FrontReturn.is (c.requires.here, c.requires.scalar, c.requires.other) in
    asked c.args.sound.now old c.give_back.result _ (state_of c.give_back.new.self) _ c.give_back.ensures.asks (c.give_back.ensures.state) (asks_return c.args.sound.now old is c.requires.ready)

pub returns-in-FrontTurn-clause-asks : goal.returns-in-FrontTurn-clause-asks
returns-in-FrontTurn-clause-asks c =
    let old : State = state_of c.args.self.now in
    let is : IsControl c.args.sound.now old (I.FrontTurn) = subst (λ (i : Instr). IsControl c.args.sound.now old i) c.in-FrontTurn.is (c.requires.here, c.requires.scalar, c.requires.other) in
    asked c.args.sound.now old c.turn.result _ (state_of c.turn.new.self) _ c.turn.ensures.asks (c.turn.ensures.state) (asks_turn c.args.sound.now old is c.requires.ready)

pub returns-in-FrontPutBytes-clause-asks : goal.returns-in-FrontPutBytes-clause-asks
returns-in-FrontPutBytes-clause-asks c =
    let old : State = state_of c.args.self.now in
    let is : IsControl c.args.sound.now old (I.FrontPutBytes c.in-FrontPutBytes.bytes) = subst (λ (i : Instr). IsControl c.args.sound.now old i) c.in-FrontPutBytes.is (c.requires.here, c.requires.scalar, c.requires.other) in
    asked c.args.sound.now old c.put.result _ (state_of c.put.new.self) _ c.put.ensures.asks (c.put.ensures.state) (asks_put c.args.sound.now c.in-FrontPutBytes.bytes old is c.requires.ready)

pub returns-in-FrontGetByte-clause-asks : goal.returns-in-FrontGetByte-clause-asks
returns-in-FrontGetByte-clause-asks c =
    let old : State = state_of c.args.self.now in
    let is : IsControl c.args.sound.now old (I.FrontGetByte c.in-FrontGetByte.dest) = subst (λ (i : Instr). IsControl c.args.sound.now old i) c.in-FrontGetByte.is (c.requires.here, c.requires.scalar, c.requires.other) in
    asked c.args.sound.now old c.read.result _ (state_of c.read.new.self) _ c.read.ensures.asks (c.read.ensures.state) (asks_byte c.args.sound.now c.in-FrontGetByte.dest old is)

pub returns-in-FrontPut-clause-asks : goal.returns-in-FrontPut-clause-asks
returns-in-FrontPut-clause-asks c =
    let old : State = state_of c.args.self.now in
    let is : IsControl c.args.sound.now old (I.FrontPut c.in-FrontPut.format c.in-FrontPut.source) = subst (λ (i : Instr). IsControl c.args.sound.now old i) c.in-FrontPut.is (c.requires.here, c.requires.scalar, c.requires.other) in
    asked c.args.sound.now old c.print.result c.print.result (state_of c.print.new.self) _ refl c.print.ensures.state (asks_digits c.args.sound.now c.in-FrontPut.format c.in-FrontPut.source old c.print.result is c.requires.ready c.print.ensures.asks)

pub returns-in-FrontCheckTarget-clause-asks : goal.returns-in-FrontCheckTarget-clause-asks
returns-in-FrontCheckTarget-clause-asks c =
    let old : State = state_of c.args.self.now in
    let is : IsControl c.args.sound.now old (I.FrontCheckTarget c.in-FrontCheckTarget.set c.in-FrontCheckTarget.place c.in-FrontCheckTarget.coordinates) = subst (λ (i : Instr). IsControl c.args.sound.now old i) c.in-FrontCheckTarget.is (c.requires.here, c.requires.scalar, c.requires.other) in
    asked c.args.sound.now old c.check.result _ (state_of c.check.new.self) _ c.check.ensures.asks c.check.ensures.state
    (asks_target c.args.sound.now old (I.FrontCheckTarget c.in-FrontCheckTarget.set c.in-FrontCheckTarget.place c.in-FrontCheckTarget.coordinates) c.any_outside-fails.result Index c.in-FrontCheckTarget.place is c.requires.ready
    (λ m i o. ap (λ b. if b then Ends (Fault Index c.in-FrontCheckTarget.place None) (joined (record old { at = old.at + 1 }) m i o) else Goes (joined (record old { at = old.at + 1 }) m i o)) (sym (c.any_outside-fails.ensures ∙ ap (λ l. any_register_outside (extents_at (shapes_of c.args.sound.now) c.in-FrontCheckTarget.set) l c.args.self.now.registers.items) c.as_slice.ensures.value))))

pub returns-in-FrontCheckDivisor-clause-asks : goal.returns-in-FrontCheckDivisor-clause-asks
returns-in-FrontCheckDivisor-clause-asks c =
    let old : State = state_of c.args.self.now in
    let is : IsControl c.args.sound.now old (I.FrontCheckDivisor c.in-FrontCheckDivisor.place c.in-FrontCheckDivisor.source) = subst (λ (i : Instr). IsControl c.args.sound.now old i) c.in-FrontCheckDivisor.is (c.requires.here, c.requires.scalar, c.requires.other) in
    asked c.args.sound.now old c.check-in-FrontCheckDivisor.result _ (state_of c.check-in-FrontCheckDivisor.new.self) _ c.check-in-FrontCheckDivisor.ensures.asks c.check-in-FrontCheckDivisor.ensures.state
    (asks_target c.args.sound.now old (I.FrontCheckDivisor c.in-FrontCheckDivisor.place c.in-FrontCheckDivisor.source) (c.register-value-in-FrontCheckDivisor.result == 0) DivZero c.in-FrontCheckDivisor.place is c.requires.ready
    (λ m i o. ap (λ v. if v == 0 then Ends (Fault DivZero c.in-FrontCheckDivisor.place None) (joined (record old { at = old.at + 1 }) m i o) else Goes (joined (record old { at = old.at + 1 }) m i o)) (sym c.register-value-in-FrontCheckDivisor.ensures)))

pub returns-in_default : goal.returns-in_default
returns-in_default c =
    let none : is_other c.args.instr.now ≡ true = search rules in
    record {
      fits = c.requires.fits;
      asks = asks_halt c.args.sound.now c.args.instr.now (state_of c.args.self.now) (c.requires.here, c.requires.scalar, c.requires.other) c.requires.ready none;
    }
