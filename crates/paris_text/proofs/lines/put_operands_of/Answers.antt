use Rattle.std.proofs.Common.{map, flat_map, sym, ◌∙◌, ap}
use Rattle.std.proofs.lemmas.Grind.{flat_map-append}
use Rattle.paris_code.specs.Listing.{spaced, operands_of}
use Rattle.paris_text.specs.Operands.{operand_text, fixed_list, rest_words}
use Rattle.paris_text.proofs.Putting.{put_whole, failed_whole}
use Rattle.paris_text.proofs.lines.put_operands_of.Goals as goal

pub returns-in-Ok : goal.returns-in-Ok
returns-in-Ok g c =
    put_whole g.O.Sink.agrees g.O.Sink.faults c.args.out.now c.put_fixed.new.out c.put_rest.new.out c.put_rest.result
    (flat_map spaced (operands_of c.args.instr.now))
    (flat_map spaced (map operand_text (fixed_list c.listed_operands-operands.result.fixed)))
    (flat_map spaced (rest_words c.listed_operands-operands.result.rest))
    (sym (flat_map-append spaced (map operand_text (fixed_list c.listed_operands-operands.result.fixed)) (rest_words c.listed_operands-operands.result.rest)) ∙ ap (flat_map spaced) c.listed_operands-operands.ensures)
    c.in-Ok.ensures
    c.put_rest.ensures

pub returns-in-Err : goal.returns-in-Err
returns-in-Err g c =
    failed_whole g.O.Sink.agrees g.O.Sink.faults c.args.out.now c.put_fixed.new.out
    (flat_map spaced (operands_of c.args.instr.now))
    (flat_map spaced (map operand_text (fixed_list c.listed_operands-operands.result.fixed)))
    (flat_map spaced (rest_words c.listed_operands-operands.result.rest))
    (sym (flat_map-append spaced (map operand_text (fixed_list c.listed_operands-operands.result.fixed)) (rest_words c.listed_operands-operands.result.rest)) ∙ ap (flat_map spaced) c.listed_operands-operands.ensures)
    c.in-Err.ensures
