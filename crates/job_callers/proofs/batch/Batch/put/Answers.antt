use Rattle.std.proofs.Common.{◌<◌, length, map, inl, inr, refl, ◌∙◌, subst, arith}
use Rattle.std.proofs.lemmas.List.{length-map}
use Rattle.std.specs.String.{string_bytes}
use Rattle.cstar_io.specs.Faults.{RisesBy}
use Rattle.job_callers.proofs.Growing.{none_taken, not_failed, one_more_taken, part_taken}
use Rattle.job_callers.proofs.batch.Batch.put.Goals as goal

pub names-init : goal.names-init
names-init g c =
    (none_taken g.O.Sink.agrees g.J.Judge.answers (map string_bytes c.args.self.now.names.now) c.args.out.now, refl)

pub names-preserved : goal.names-preserved
names-preserved g c =
    let names = map string_bytes c.args.self.now.names.now in
    let inside : c.names.number < length names = omega (arith, c.names-test.true, length-map c.args.self.now.names.now string_bytes) in (
      one_more_taken g.O.Sink.agrees g.J.Judge.answers names c.args.out.now c.names.out c.put_section.new.out c.names.number inside c.names.invariant.0 c.in-Ok.ensures.whole,
      not_failed c.in-Ok.ensures.other ∙ c.names.invariant.1,
    )

pub returns-in-Err-clause-part : goal.returns-in-Err-clause-part
returns-in-Err-clause-part g c =
    let names = map string_bytes c.args.self.now.names.now in
    let inside : c.names.number < length names = omega (arith, c.names-test.true, length-map c.args.self.now.names.now string_bytes) in
    part_taken g.O.Sink.agrees g.J.Judge.answers names c.args.out.now c.names.out c.put_section.new.out c.names.number inside c.names.invariant.0 c.in-Err.ensures.part

pub returns-in-Err-clause-failed : goal.returns-in-Err-clause-failed
returns-in-Err-clause-failed g c = λ is. subst (λ n. RisesBy n (g.O.Sink.faults c.put_section.new.out)) c.names.invariant.1 (c.in-Err.ensures.failed is)

pub returns-in-Err-clause-other : goal.returns-in-Err-clause-other
returns-in-Err-clause-other g c =
    elim c.in-Err.ensures.other [ inl failed ↦ inl failed | inr same ↦ inr (same ∙ c.names.invariant.1) ]
