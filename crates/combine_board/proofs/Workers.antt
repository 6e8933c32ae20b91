-- Workers of a tree: what a claim, a delivery and a join make of them.
use Rattle.std.proofs.Common.{◌≡◌, ℕ, zero, suc, ◌+◌, ◌-◌, ◌*◌, ◌^◌, true, List, ◌++◌, length, option_to_list, Option, None, refl, sym, ap, ◌∙◌, subst, append_assoc, length-append, arith}
use Rattle.std.proofs.Math.Nat.{pow-succ'}
use Rattle.std.proofs.lemmas.List.Elements.{All-append}
use Rattle.combine_core.specs.declared.message.Message.{Message}
use Rattle.combine_core.specs.declared.worker.Worker.{Worker}
use Rattle.combine_core.specs.Machine.{held_by, idle, next_in, kept_part, both_parts, IsComplete}
use Rattle.combine_board.specs.Values.{WholeHoldsEvery}
use Rattle.combine_board.specs.Tree.{AllDone, IsFinished}
use Rattle.combine_board.proofs.Passes.{complete_when_all}

pub both_finished : (os : List (Option Message)) (d e : ℕ) (v u : Worker) → IsFinished os d v → IsFinished os e u → WholeHoldsEvery os (both_parts v u) → IsFinished os (d + e) (both_parts v u)
both_finished os d e v u f g whole =
    let same : held_by v ++ held_by u ≡ held_by (both_parts v u) = append_assoc (option_to_list v.last) v.others (held_by u) in
    record {
      done = subst (AllDone os) same (All-append (λ x. next_in os x ≡ None) (held_by v) (held_by u) f.done g.done);
      missed = (let a = f.missed in omega arith);
      all =
          let a = f.all in
          let b = g.all in
          let l = length-append (held_by v) (held_by u) in
          let c : length (held_by v ++ held_by u) ≡ length (held_by (both_parts v u)) = ap length same in
          omega arith;
      whole = whole;
    }

pub finished_complete : (os : List (Option Message)) (v : Worker) → IsFinished os (2 ^ 63) v → IsComplete os (held_by v)
finished_complete os v f = complete_when_all os v (f.whole f.all f.missed) f.done

pub kept_fresh : (v : Worker) → v ≡ idle true v.draws → kept_part v ≡ idle true (kept_part v).draws
kept_fresh v e = ap kept_part e

pub pow_half : (n : ℕ) → (n ≡ 0 → ⊥) → 2 ^ n ≡ 2 * 2 ^ (n - 1)
pow_half zero h = absurd (h refl)
pow_half (suc n) h = let e : suc n - 1 ≡ n = omega arith in pow-succ' 2 n ∙ ap (λ (k : ℕ). 2 * 2 ^ k) (sym e)
