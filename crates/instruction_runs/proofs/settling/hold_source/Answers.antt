use Rattle.std.proofs.Common.{Option, sym, ◌∙◌}
use Rattle.paris_code.specs.declared.operands.Field.{Field}
use Rattle.instruction_runs.specs.Passes.{IsFieldIn}
use Rattle.instruction_runs.proofs.Sources.{all_held, none_held, of_the_one}
use Rattle.instruction_runs.proofs.settling.hold_source.Goals as goal

pub hold-requires-clause-len : goal.hold-requires-clause-len
hold-requires-clause-len g c κs live =
    (of_the_one (λ (o : Option Field). IsFieldIn o c.args.set.now.blocks.items) c.args.batch.now.deferred.items c.in-Some.source (sym c.in-Some.ensures) c.requires.sources).0

pub hold-requires-clause-planes : goal.hold-requires-clause-planes
hold-requires-clause-planes g c κs live =
    (of_the_one (λ (o : Option Field). IsFieldIn o c.args.set.now.blocks.items) c.args.batch.now.deferred.items c.in-Some.source (sym c.in-Some.ensures) c.requires.sources).1

pub returns-clause-held : goal.returns-clause-held
returns-clause-held g c = all_held c.args.batch.now.deferred.items c.in-Some.source c.args.set.now.blocks.items c.hold.new.room.held.items c.requires.turns (sym c.in-Some.ensures) c.hold.ensures.planes

pub returns-in_default-clause-held : goal.returns-in_default-clause-held
returns-in_default-clause-held g c = none_held c.args.batch.now.deferred.items c.args.set.now.blocks.items c.args.room.now.held.items (sym c.source.ensures ∙ c.in_default.is)
