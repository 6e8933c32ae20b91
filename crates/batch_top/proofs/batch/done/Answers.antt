use Rattle.std.proofs.Common.{List, ℕ, inr, map, subst, sym}
use Rattle.std.specs.String.{string_bytes}
use Rattle.batch_top.specs.Batches.{AreTexts}
use Rattle.batch_top.proofs.batch.done.Goals as goal

pub returns-in-Ok-clause-done : goal.returns-in-Ok-clause-done
returns-in-Ok-clause-done g c zero = (
  c.as_slice.result.now,
  subst (λ (texts : List (List ℕ)). AreTexts g.S.Shelf.tells g.S.Shelf.file c.args.shelf.now (map string_bytes c.args.asked.now.names.now) texts) (sym c.as_slice.ensures.value) c.in-Ok.ensures.texts,
  c.put_reports.ensures.whole zero,
)

pub returns-in-Ok-clause-part : goal.returns-in-Ok-clause-part
returns-in-Ok-clause-part g c = inr (
  c.as_slice.result.now,
  subst (λ (texts : List (List ℕ)). AreTexts g.S.Shelf.tells g.S.Shelf.file c.args.shelf.now (map string_bytes c.args.asked.now.names.now) texts) (sym c.as_slice.ensures.value) c.in-Ok.ensures.texts,
  c.put_reports.ensures.part,
)
