use Rattle.std.proofs.Common.{refl}
use Rattle.call_groups.proofs.Functions.{has_calls, has_none}
use Rattle.call_groups.proofs.calls.calls_of.Goals as goal

pub returns : goal.returns
returns c = has_calls c.args.file.now c.args.number c.in-Some.info c.in-Some.function.now _ c.function-2.new.self _ c.in-Some.ensures refl refl c.new-2.ensures c.new-3.ensures.items c.in_ok-function.ensures

pub returns-in_default : goal.returns-in_default
returns-in_default c = has_none c.args.file.now c.args.number c.new.result.items c.in_default.ensures
