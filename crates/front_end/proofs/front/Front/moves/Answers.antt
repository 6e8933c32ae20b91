use Rattle.std.proofs.Common.{◌≡◌, ◌≢◌, ℕ, ◌+◌, ◌-◌, false, if◌then◌else◌, subst, ap, ◌∙◌, refl, arith}
use Rattle.std.specs.Prelude.{◌==◌, not}
use Rattle.std.proofs.lemmas.Bool.Decides.{nat_tests}
use Rattle.paris_code.specs.declared.instr.Instr.{Instr}
use Rattle.paris_code.specs.declared.instr.Instr.TheVariants as I
use Rattle.front_end.specs.declared.ask.Ask.TheVariants as A
use Rattle.front_end.specs.Front.{State, state_of}
use Rattle.front_end.proofs.Steps.{IsControl, asked, asks_jump, asks_jump_zero, asks_jump_nonzero, asks_call, asks_return, asks_turn_spent}
use Rattle.front_end.proofs.front.Front.moves.Goals as goal

some_left : (turns : ℕ) → turns ≢ 0 → (turns == 0) ≡ false
some_left turns some = grind (arith, nat_tests)

pub returns-in-FrontJump-clause-ran : goal.returns-in-FrontJump-clause-ran
returns-in-FrontJump-clause-ran c = λ yes.
    let old : State = state_of c.args.self.now in
    let is : IsControl c.args.sound.now old (I.FrontJump c.in-FrontJump.target) = subst (λ (i : Instr). IsControl c.args.sound.now old i) c.in-FrontJump.is (c.requires.here, c.requires.scalar, c.requires.other) in
    asked c.args.sound.now old A.Ran _ (state_of c.jump-ran.new.self) _ refl (c.jump-ran.ensures.state) (asks_jump c.args.sound.now c.in-FrontJump.target old is c.requires.ready)

pub returns-in-FrontJumpZero-clause-ran : goal.returns-in-FrontJumpZero-clause-ran
returns-in-FrontJumpZero-clause-ran c = λ yes.
    let old : State = state_of c.args.self.now in
    let is : IsControl c.args.sound.now old (I.FrontJumpZero c.in-FrontJumpZero.test c.in-FrontJumpZero.target) = subst (λ (i : Instr). IsControl c.args.sound.now old i) c.in-FrontJumpZero.is (c.requires.here, c.requires.scalar, c.requires.other) in
    asked c.args.sound.now old A.Ran _ (state_of c.jump-ran-in-FrontJumpZero.new.self) _ refl (c.jump-ran-in-FrontJumpZero.ensures.state ∙ ap (λ v. record old { at = if v == 0 then c.in-FrontJumpZero.target else old.at + 1 }) c.register-value.ensures) (asks_jump_zero c.args.sound.now c.in-FrontJumpZero.test c.in-FrontJumpZero.target old is c.requires.ready)

pub returns-in-FrontJumpNonzero-clause-ran : goal.returns-in-FrontJumpNonzero-clause-ran
returns-in-FrontJumpNonzero-clause-ran c = λ yes.
    let old : State = state_of c.args.self.now in
    let is : IsControl c.args.sound.now old (I.FrontJumpNonzero c.in-FrontJumpNonzero.test c.in-FrontJumpNonzero.target) = subst (λ (i : Instr). IsControl c.args.sound.now old i) c.in-FrontJumpNonzero.is (c.requires.here, c.requires.scalar, c.requires.other) in
    asked c.args.sound.now old A.Ran _ (state_of c.jump-ran-in-FrontJumpNonzero.new.self) _ refl (c.jump-ran-in-FrontJumpNonzero.ensures.state ∙ ap (λ v. record old { at = if not (v == 0) then c.in-FrontJumpNonzero.target else old.at + 1 }) c.register-value-in-FrontJumpNonzero.ensures) (asks_jump_nonzero c.args.sound.now c.in-FrontJumpNonzero.test c.in-FrontJumpNonzero.target old is c.requires.ready)

pub returns-in-FrontCall-clause-ran : goal.returns-in-FrontCall-clause-ran
returns-in-FrontCall-clause-ran c = λ yes.
    let old : State = state_of c.args.self.now in
    let is : IsControl c.args.sound.now old (I.FrontCall c.in-FrontCall.unit) = subst (λ (i : Instr). IsControl c.args.sound.now old i) c.in-FrontCall.is (c.requires.here, c.requires.scalar, c.requires.other) in
    asked c.args.sound.now old A.Ran _ (state_of c.call-ran.new.self) _ refl (c.call-ran.ensures.state) (asks_call c.args.sound.now c.in-FrontCall.unit old is c.requires.ready)

pub returns-in-FrontReturn-clause-ran : goal.returns-in-FrontReturn-clause-ran
returns-in-FrontReturn-clause-ran c = λ yes.
    let old : State = state_of c.args.self.now in
    let is : IsControl c.args.sound.now old (I.FrontReturn) = subst (λ (i : Instr). IsControl c.args.sound.now old i) c.in-FrontReturn.is (c.requires.here, c.requires.scalar, c.requires.other) in
    asked c.args.sound.now old A.Ran _ (state_of c.give_back-ran.new.self) _ refl (c.give_back-ran.ensures.state) (asks_return c.args.sound.now old is c.requires.ready)

pub returns-else-self-eq0-clause-ran : goal.returns-else-self-eq0-clause-ran
returns-else-self-eq0-clause-ran c = λ yes.
    let old : State = state_of c.args.self.now in
    let is : IsControl c.args.sound.now old I.FrontTurn = subst (λ (i : Instr). IsControl c.args.sound.now old i) c.in-FrontTurn.is (c.requires.here, c.requires.scalar, c.requires.other) in
    let some : (old.turns == 0) ≡ false = some_left (c.args.self.now.turns) c.if-self-eq0.false in
    let state : state_of c.turn-ran.new.self ≡ record old { at = old.at + 1; turns = old.turns - 1 } = c.turn-ran.ensures.state ∙ ap (λ b. if b then old else record old { at = old.at + 1; turns = old.turns - 1 }) some in
    asked c.args.sound.now old A.Ran _ (state_of c.turn-ran.new.self) _ refl state (asks_turn_spent c.args.sound.now old is some c.requires.ready)
