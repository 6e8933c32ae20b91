use Rattle.std.proofs.Common.{map}
use Rattle.std.specs.List.{flat_map}
use Rattle.paris_code.specs.Spans.{fields_of}
use Rattle.cstar_link.specs.Sets.{final_field}
use Rattle.cstar_link.proofs.Ends.{raised_more}
use Rattle.cstar_link.proofs.sets.raise_by_all.Goals as goal

pub returns : goal.returns
returns c =
    raised_more (flat_map fields_of c.args.code.now) (map final_field c.args.finals.now) c.args.ends.now c.raise_by_code.new.ends c.raise_by_finals.new.ends c.raise_by_code.auto.ends c.raise_by_code.ensures c.raise_by_finals.ensures
