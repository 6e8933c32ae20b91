use Rattle.image_check.proofs.JumpMarks.{no_target}
use Rattle.image_check.proofs.rule_back_edge.is_no_target.Goals as goal

pub returns : goal.returns
returns c =
    no_target c.args.image.now c.args.marks.now c.args.place c.is_marked.result c.requires.marked c.requires.inside c.is_marked.ensures
