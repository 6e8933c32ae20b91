use Rattle.std.proofs.Common.{length}
use Rattle.std.specs.String.{string_bytes}
use Rattle.batch_top.proofs.Naming.{names_tested, not_empty}
use Rattle.batch_top.proofs.words.are_names.Goals as goal

pub returns : goal.returns
returns c =
    names_tested string_bytes c.args.names.now c.each_is_name.result
    (not_empty (length c.args.names.now) c.is_empty.result c.is_empty.ensures c.if-is_empty.false) c.if-names.false c.each_is_name.ensures
