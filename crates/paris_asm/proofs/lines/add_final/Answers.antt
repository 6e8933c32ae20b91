use Rattle.std.proofs.Common.{List, sym, subst}
use Rattle.std.proofs.lemmas.List.Elements.{All-push}
use Rattle.paris_code.specs.declared.program.Final.{Final}
use Rattle.paris_code.specs.Plain.{AreFinalNames, IsElementName, final_name}
use Rattle.paris_asm.proofs.lines.add_final.Goals as goal

pub returns-in-Ok : goal.returns-in-Ok
returns-in-Ok c = λ named.
    subst (λ (finals : List Final). AreFinalNames finals) (sym c.in-Ok.ensures.items)
    (All-push (λ last. IsElementName (final_name last)) c.args.finals.now.items c.args.last named c.requires)
