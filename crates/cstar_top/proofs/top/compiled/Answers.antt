use Rattle.std.proofs.Common.{◌≡◌, inl, inr}
use Rattle.cstar_words.specs.declared.options.Mode.TheVariants as M
use Rattle.cstar_base.specs.declared.faults.Fault.{Fault}
use Rattle.cstar_base.specs.declared.faults.Fault.TheVariants as F
use Rattle.cstar_top.specs.Refusals.{CanName, IsOfText}
use Rattle.cstar_top.proofs.Compiled.{image_of_text}
use Rattle.cstar_top.proofs.EveryUnit.{every_unit}
use Rattle.cstar_top.proofs.Outcomes.{names_more, names_more_in}
use Rattle.cstar_top.proofs.top.compiled.Goals as goal

pub compile-requires-clause-units : goal.compile-requires-clause-units
compile-requires-clause-units c = every_unit c.args.text.now c.in-Ok.program.typed c.in-Ok.ensures.program

pub returns-in-Ok-clause-compiled : goal.returns-in-Ok-clause-compiled
returns-in-Ok-clause-compiled c =
    image_of_text c.args.text.now c.in-Ok.program.typed c.compile.result c.in-Ok.ensures.program c.compile.ensures.compiled

pub returns-in-Ok-clause-refused : goal.returns-in-Ok-clause-refused
returns-in-Ok-clause-refused c =
    names_more_in (λ (fault : Fault). fault ≡ F.NotBuilt) (CanName M.List) c.compile.result (λ fault is. inl is) c.compile.ensures.refused

pub returns-in-Err-clause-refused : goal.returns-in-Err-clause-refused
returns-in-Err-clause-refused c =
    names_more IsOfText (CanName M.List) c.in-Err.no_image (λ fault is. inr is) c.in-Err.ensures.refused
