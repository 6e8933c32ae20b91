use Rattle.std.proofs.Common.{◌<◌, ◌≤◌, [], ◌∷◌, ◌++◌, length, IfSome, Some, sym, ap, ◌∙◌, subst, length-append, arith}
use Rattle.std.proofs.lemmas.List.Elements.{All-append, All-cons, All-nil}
use Rattle.combine_core.specs.declared.message.Message.{Message}
use Rattle.combine_core.specs.Cells.{RisesFrom, TargetsBelow}
use Rattle.combine_board.proofs.Rises.{low_after, RisesFrom-push, low_after-push}
use Rattle.worker_tests.proofs.boards.many.Goals as goal

pub loop-n-preserved : goal.loop-n-preserved
loop-n-preserved c =
    let os = c.loop-n.slots.items in
    let m : Message = c.message.ensures.0 in
    let was = c.loop-n.invariant in
    let is = c.in_ok-push.ensures.items ∙ ap (λ o. os ++ o ∷ []) c.message.ensures.1 in
    let below : m.target < c.args.targets = (let t = c.message.ensures.3 in omega arith) in
    let low : low_after 0 os ≤ m.sender = (let s = c.message.ensures.2 in let l = was.low in omega arith) in
    let targets = All-append (λ o. IfSome o (λ (x : Message). x.target < c.args.targets)) os (Some m ∷ []) was.targets (All-cons (λ o. IfSome o (λ (x : Message). x.target < c.args.targets)) (Some m) [] below (All-nil (λ o. IfSome o (λ (x : Message). x.target < c.args.targets)))) in
    record {
      senders = subst (λ xs. RisesFrom 0 xs) (sym is) (RisesFrom-push 0 os m was.senders low);
      low = (let e = ap (low_after 0) is ∙ low_after-push 0 os m in let s = c.message.ensures.2 in omega arith);
      targets = subst (λ xs. TargetsBelow c.args.targets xs) (sym is) targets;
      len = (let e = ap length is in let l = was.len in omega (arith, length-append os (Some m ∷ [])));
    }
