use Rattle.std.proofs.Common.{◌≡◌, List, ℕ, arith, inl, inr, map, refl, subst}
use Rattle.std.specs.String.{string_bytes}
use Rattle.batch_top.specs.Batches.{CannotFetch, PutsBatch, PutsPartOfBatch}
use Rattle.batch_top.specs.Endings.{status_of}
use Rattle.batch_top.specs.Words.{names_in}
use Rattle.batch_top.proofs.Endings.{one_unread, status_is}
use Rattle.batch_top.proofs.batch.cstar_batch.Goals as goal

pub returns-in-Some-clause-done : goal.returns-in-Some-clause-done
returns-in-Some-clause-done g c zero =
    subst (λ (names : List (List ℕ)). PutsBatch g.O.Sink.agrees c.args.out.now c.done.new.out g.S.Shelf.tells g.S.Shelf.file c.args.shelf.now names) c.in-Some.ensures.names
    (c.done.ensures.done (status_is c.tell.result (status_of c.done.result) 0 c.tell.ensures.status zero (inl refl)))

pub returns-in-Some-clause-part : goal.returns-in-Some-clause-part
returns-in-Some-clause-part g c =
    subst (λ (names : List (List ℕ)). PutsPartOfBatch g.O.Sink.agrees c.args.out.now c.done.new.out g.S.Shelf.tells g.S.Shelf.file c.args.shelf.now names) c.in-Some.ensures.names c.done.ensures.part

pub returns-in-Some-clause-unread : goal.returns-in-Some-clause-unread
returns-in-Some-clause-unread g c five =
    let own = status_is c.tell.result (status_of c.done.result) 5 c.tell.ensures.status five (inr refl) in
    let unread = c.done.ensures.unread own in (
      unread.0,
      one_unread g.S.Shelf.faults g.S.Shelf.last_failed c.args.shelf.now c.done.new.shelf g.E.Sink.agrees c.args.err.now c.tell.new.err (names_in (map string_bytes c.args.words.now)) c.done.result own
          (subst (λ (names : List (List ℕ)). CannotFetch g.S.Shelf.faults g.S.Shelf.last_failed c.args.shelf.now c.done.new.shelf names c.done.result) c.in-Some.ensures.names unread.1)
          (c.tell.ensures.own (λ six. omega (arith, five, six))),
    )
