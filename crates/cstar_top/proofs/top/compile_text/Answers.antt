use Rattle.std.proofs.Common.{inr, arith}
use Rattle.cstar_top.proofs.top.compile_text.Goals as goal

pub returns-in-Ok-compiled-clause-listed : goal.returns-in-Ok-compiled-clause-listed
returns-in-Ok-compiled-clause-listed g c asks none =
    (c.in-Ok-compiled.sound, c.in-Ok-compiled.ensures.sound, c.in-Ok-compiled.ensures.compiled, c.list_image.ensures.listed (λ six. omega arith))

pub returns-in-Ok-compiled-clause-part : goal.returns-in-Ok-compiled-clause-part
returns-in-Ok-compiled-clause-part g c asks =
    inr (c.in-Ok-compiled.sound, c.in-Ok-compiled.ensures.sound, c.in-Ok-compiled.ensures.compiled, c.list_image.ensures.part)
