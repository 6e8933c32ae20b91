use Rattle.std.proofs.Common.{◌∙◌, ap}
use Rattle.cstar_base.specs.Numbers.{residue, number_of}
use Rattle.paris_code.specs.Memory.{whole_number}
use Rattle.phase_elements.proofs.reading.word.Goals as goal

pub returns : goal.returns
unfolding whole_number
returns g c = c.extended.ensures ∙ ap (λ n. residue 32 (number_of c.args.f.len c.args.signed n)) c.field.ensures.value
