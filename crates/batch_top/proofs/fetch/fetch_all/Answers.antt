use Rattle.std.proofs.Common.{◌≡◌, ◌<◌, ◌∙◌, ℕ, ◌+◌, List, arith, length, map, refl, sym, subst}
use Rattle.std.specs.String.{string_bytes}
use Rattle.batch_top.proofs.Fetching.{Fetched, one_more_fetched, told_of}
use Rattle.batch_top.proofs.Naming.{said_at}
use Rattle.batch_top.proofs.fetch.fetch_all.Goals as goal

pub names-preserved : goal.names-preserved
names-preserved g c =
    let names = map string_bytes c.args.names.now in
    let count = c.names.name-index in
    let before = c.names.invariant in
    let item = c.name-item.result in
    let inside : count < length c.args.names.now = omega (arith, c.names-test.true) in
    let asked : c.as_str.result.now ≡ string_bytes item = c.as_str.ensures.value in
    let told = told_of g.S.Shelf.tells g.S.Shelf.file c.args.shelf.now c.names.shelf names count (string_bytes item) c.as_str.result.now c.in-Ok.text.items c.of.result
    (said_at string_bytes c.args.names.now count item inside c.name-item.is) asked c.of.ensures before.2 before.3 c.in-Ok.ensures.bytes in (
      subst (λ (texts : List (List ℕ)). Fetched g.S.Shelf.tells g.S.Shelf.file c.args.shelf.now names texts (count + 1)) (sym c.in-Ok-push.ensures.items)
          (one_more_fetched g.S.Shelf.tells g.S.Shelf.file c.args.shelf.now names c.names.texts.items count c.of.result told before.0),
      c.in-Ok.ensures.other refl ∙ before.1,
      c.in-Ok.ensures.tells ∙ before.2,
      λ name. c.in-Ok.ensures.files name ∙ before.3 name,
    )
