-- A run of all positions of a block.
use Rattle.std.proofs.Common.{◌≡◌, ◌≢◌, ℕ, ◌+◌, ◌-◌, ◌*◌, ◌/◌, ◌%◌, ◌^◌, ◌<◌, Bool, false, ◌&&◌, cond, eqb, ltb, List, length, get_or, refl, sym, ◌∙◌, ap, subst, inl, inr, arith}
use Rattle.std.specs.Int.{bit_at}
use Rattle.std.proofs.Math.Nat.{mod-eq_of_lt}
use Rattle.std.proofs.lemmas.Nat.{mod_below, pow_pos}
use Rattle.std.proofs.lemmas.Bool.{cases_eq, eq-eqb, ne_eqb, lt-ltb, le-ltb}
use Rattle.bit_planes.specs.declared.block.Block.{Block}
use Rattle.bit_planes.specs.declared.plane.Plane.{Plane}
use Rattle.bit_planes.specs.Bits.{bit}
use Rattle.bit_planes.specs.Planes.{plane_at}
use Rattle.block_store.specs.Phases.{LanesWritten, WrittenInBlock}
use Rattle.block_store.specs.Planes.{planes_in}
use Rattle.block_store.proofs.AllBlocks.{in_block}
use Rattle.paris_code.specs.declared.operands.Field.{Field}
use Rattle.paris_code.specs.Shapes.{SetShape, extents_at}
use Rattle.phase_gate.specs.Blocks.{at_block}
use Rattle.vp_sets.specs.Positions.{position_count}
use Rattle.paris_code.specs.Writes.{Write, covers}

and_false : (t : Bool) → (t && false) ≡ false
and_false Bool.true = refl
and_false Bool.false = refl

-- a block at whose positions nothing is written
pub unwritten : (shapes : List SetShape) (w : Write) (k : ℕ) (old new : List Plane) → new ≡ old → ((p : ℕ) → p / 512 ≡ k → w.writes p ≡ false) → WrittenInBlock shapes w k old new
unwritten shapes w k old new same off = record {
  long = ap length same;
  done = λ p i here within b.
      ap (λ (ps : List Plane). bit (plane_at ps i) (p % 512)) same
      ∙ sym (ap (λ t. cond (covers w.run w.run.set i && t) (bit_at (w.value p) (i - w.run.offset)) (bit (plane_at old i) (p % 512))) (off p here)
      ∙ ap (λ t. cond t (bit_at (w.value p) (i - w.run.offset)) (bit (plane_at old i) (p % 512))) (and_false (covers w.run w.run.set i)));
  padding = λ p i here past none. ap (λ (ps : List Plane). bit (plane_at ps i) (p % 512)) same;
}

-- each block of a set in one of which a run has become these words
pub written_each : (shapes : List SetShape) (run : Field) (block : ℕ) (words : List ℕ) (old new : List Block) (mask geometry : List ℕ) → geometry ≡ extents_at shapes run.set
    → ((i : ℕ) → i < 512 → bit mask i ≡ cond (ltb (512 * block + i) (position_count geometry)) 1 0)
    → ((none : Block) → LanesWritten run.offset run.len mask (λ i. get_or words i 0 % 2 ^ run.len) (planes_in (get_or old block none)) (planes_in (get_or new block none)))
    → ((k : ℕ) (none : Block) → k ≢ block → get_or new k none ≡ get_or old k none)
    → (j : ℕ) (none : Block) → WrittenInBlock shapes (at_block run block words) j (planes_in (get_or old j none)) (planes_in (get_or new j none))
written_each shapes run block words old new mask geometry is lanes here others j none =
    let w : Write = at_block run block words in
    let count : position_count geometry ≡ position_count (extents_at shapes run.set) = ap position_count is in
    elim (cases_eq j block) [
      | inr n ↦ unwritten shapes w j (planes_in (get_or old j none)) (planes_in (get_or new j none)) (ap planes_in (others j none n)) (λ p at. ne_eqb (p / 512) block (λ e. n (sym at ∙ e)))
      | inl e ↦ subst (λ k. WrittenInBlock shapes w k (planes_in (get_or old k none)) (planes_in (get_or new k none))) (sym e)
          (in_block shapes w block mask (λ i. get_or words i 0 % 2 ^ run.len) (planes_in (get_or old block none)) (planes_in (get_or new block none)) (here none)
          (λ p at within.
          ap (λ x. eqb x 1) (lanes (p % 512) (omega arith) ∙ ap (λ t. cond t 1 0) (lt-ltb (512 * block + p % 512) (position_count geometry) (omega (arith, at, within, count))))
          ∙ sym (eq-eqb (p / 512) block at))
          (λ p at past off. lanes (p % 512) (omega arith) ∙ ap (λ t. cond t 1 0) (le-ltb (512 * block + p % 512) (position_count geometry) (omega (arith, at, past, count))))
          (λ p at within. mod-eq_of_lt (mod_below (get_or words (p % 512) 0) (2 ^ run.len) (pow_pos run.len))))
    ]
