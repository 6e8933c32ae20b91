-- Blocks and sets that are taken from the end.
use Rattle.std.proofs.Common.{◌≡◌, ℕ, suc, ◌+◌, ◌-◌, ◌*◌, ◌/◌, ◌%◌, ◌<◌, List, [], ◌∷◌, ◌++◌, length, get_or, map, take, drop, sym, ◌∙◌, ap, append_assoc, arith}
use Rattle.std.specs.List.{concat, range_with_len}
use Rattle.std.specs.Prelude.{reverse}
use Rattle.std.proofs.Math.Seq.{get_or-append_seam, take-append_seam}
use Rattle.std.proofs.lemmas.List.{length-append, reverse-append, reverse-reverse, take-append-drop}
use Rattle.bit_planes.specs.declared.block.Block.{Block}
use Rattle.bit_planes.specs.declared.plane.Plane.{Plane}
use Rattle.bit_planes.specs.Bits.{bit}
use Rattle.bit_planes.specs.Planes.{plane_at}
use Rattle.block_store.specs.Planes.{block_bit, planes_at, planes_in}
use Rattle.phase_meaning.proofs.Entries.{entry}
use Rattle.vp_sets.specs.Blocks.{block_count}
use Rattle.vp_sets.specs.Positions.{position_count}

-- the last of some first entries of a list is taken
pub record Taken {X : Type 0} (all rest : List X) (x : X) : Type 0 where
  pub left : rest ≡ take (length rest) all
  pub within : length rest < length all
  pub is : x ≡ get_or all (length rest) x

pub taken : {X : Type 0} (all old new : List X) (x : X) → old ≡ take (length old) all → old ≡ new ++ x ∷ [] → Taken all new x
taken all old new x first is =
    let rest = drop (length old) all in
    let whole : all ≡ new ++ (x ∷ rest) = sym (take-append-drop (length old) all) ∙ ap (λ (t : List _). t ++ rest) (sym first ∙ is) ∙ append_assoc new (x ∷ []) rest in
    record {
      left = sym (ap (take (length new)) whole ∙ take-append_seam new (x ∷ rest));
      within = omega (arith, ap length whole, length-append new (x ∷ rest));
      is = sym (ap (λ (t : List _). get_or t (length new) x) whole ∙ get_or-append_seam new x rest x);
    }

-- the blocks of a set
pub blocks_of : (extents : List ℕ) → block_count extents ≡ (position_count extents + 511) / 512
unfolding block_count
blocks_of extents = omega arith

-- the bits of a block
pub block_at : (blocks : List Block) (block : Block) (k p i : ℕ) → k < length blocks → block ≡ get_or blocks k block → p < 512
    → block_bit blocks (512 * k + p) i ≡ bit (plane_at (planes_in block) i) p
unfolding block_bit
block_at blocks block k p i within is low =
    ap (λ q. bit (plane_at (planes_at blocks q) i) ((512 * k + p) % 512)) (let e : (512 * k + p) / 512 ≡ k = omega (arith, low) in e)
    ∙ ap (λ q. bit (plane_at (planes_at blocks k) i) q) (let e : (512 * k + p) % 512 ≡ p = omega (arith, low) in e)
    ∙ ap (λ (ps : List Plane). bit (plane_at ps i) p) (sym (entry planes_in blocks k block [] within is))

-- bytes that are put behind others backward
pub put_backward : (old new part turned : List ℕ) → turned ≡ reverse part → new ≡ old ++ turned → reverse new ≡ part ++ reverse old
put_backward old new part turned e f =
    ap reverse (f ∙ ap (λ (t : List ℕ). old ++ t) e) ∙ reverse-append old (reverse part) ∙ ap (λ (t : List ℕ). t ++ reverse old) (reverse-reverse part)

-- one more at the front
pub front_more : (f : ℕ → List ℕ) (k count : ℕ) → k < count
    → f k ++ concat (map f (range_with_len (k + 1) (count - (k + 1)))) ≡ concat (map f (range_with_len k (count - k)))
front_more f k count within =
    sym (ap (λ n. concat (map f (range_with_len k n))) (let e : count - k ≡ suc (count - (k + 1)) = omega (arith, within) in e))
