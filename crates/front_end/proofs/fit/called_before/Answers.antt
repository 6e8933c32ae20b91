use Rattle.std.proofs.Common.{◌-◌, arith}
use Rattle.front_end.proofs.FitLemmas.{behind_call, no_call}
use Rattle.front_end.proofs.fit.called_before.Goals as goal

pub returns-in-FrontCall-clause-some : goal.returns-in-FrontCall-clause-some
returns-in-FrontCall-clause-some c =
    behind_call c.args.sound.now c.args.place (c.args.place - 1) c.in-FrontCall.unit c.instr_at.result.now (omega (arith, c.if-place-eq0.false)) c.instr_at.ensures.is c.instr_at.ensures.keeps c.in-FrontCall.is

pub returns-in_default : goal.returns-in_default
returns-in_default c = record {
  some = tt;
  none = no_call c.args.sound.now c.args.place (c.args.place - 1) c.instr_at.result.now (omega (arith, c.if-place-eq0.false)) c.instr_at.ensures.is c.in_default.not-FrontCall;
}
