use Rattle.std.proofs.Common.{ℕ, List, cond, eqb, ap, sym, ◌∙◌}
use Rattle.std.specs.Prelude.{◌||◌}
use Rattle.std.proofs.lemmas.Bool.{lt-ltb, le-ltb}
use Rattle.bit_planes.specs.Bits.{bit}
use Rattle.bit_planes.specs.Planes.{plane_at}
use Rattle.block_store.proofs.set.taking_lanes.Goals as goal

pub returns-then-always : goal.returns-then-always
returns-then-always c =
    let context = plane_at c.args.block.now.planes.items c.args.plan.now.bits in record {
      takes = λ i b within.
          ap (λ x. eqb x 1) (c.used_lanes.ensures i b ∙ ap (λ t. cond t 1 0) (lt-ltb _ _ within))
          ∙ ap (λ t. t || eqb (bit context i) 1) (sym c.if-always.true);
      quiet = λ i b past off. c.used_lanes.ensures i b ∙ ap (λ t. cond t 1 0) (le-ltb _ _ past);
    }

pub returns : goal.returns
returns c =
    let context = plane_at c.args.block.now.planes.items c.args.plan.now.bits in record {
      takes = λ i b within. ap (λ (p : List ℕ). eqb (bit p i) 1) c.plane.ensures ∙ ap (λ t. t || eqb (bit context i) 1) (sym c.if-always.false);
      quiet = λ i b past off. ap (λ (p : List ℕ). bit p i) c.plane.ensures ∙ off;
    }
