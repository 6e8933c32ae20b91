use Rattle.std.proofs.Common.{◌++◌, subst}
use Rattle.cstar_io.specs.Output.{Takes, TakesPrefix}
use Rattle.paris_code.specs.declared.program.Image.{Image}
use Rattle.paris_code.specs.Listing.{listing}
use Rattle.cstar_top.proofs.Lines.{prefix_of_whole}
use Rattle.cstar_top.proofs.run.list_image.Goals as goal

pub returns-in-Ok-clause-listed : goal.returns-in-Ok-clause-listed
returns-in-Ok-clause-listed g c other =
    subst (λ (image : Image). Takes g.O.Sink.agrees c.args.out.now c.sent.new.out (listing image)) c.image.ensures.same
    (λ before is. c.sent.ensures.nothing (before ++ listing c.image.result.now) (c.in-Ok.ensures.0 before is))

pub returns-in-Ok-clause-part : goal.returns-in-Ok-clause-part
returns-in-Ok-clause-part g c =
    subst (λ (image : Image). TakesPrefix g.O.Sink.agrees c.args.out.now c.sent.new.out (listing image)) c.image.ensures.same
    (prefix_of_whole g.O.Sink.agrees c.args.out.now c.print.new.out c.sent.new.out (listing c.image.result.now) c.in-Ok.ensures.0 c.sent.ensures.nothing)

pub returns-in-Err-clause-part : goal.returns-in-Err-clause-part
returns-in-Err-clause-part g c =
    subst (λ (image : Image). TakesPrefix g.O.Sink.agrees c.args.out.now c.print.new.out (listing image)) c.image.ensures.same c.in-Err.ensures.0
