use Rattle.std.proofs.Common.{◌≡◌, ℕ, ◌+◌, ◌-◌, ◌*◌, ◌%◌, ◌<◌, ◌∙◌, cond, get_or, ap, refl, inl, inr, arith}
use Rattle.std.specs.Int.{bit_at}
use Rattle.std.proofs.lemmas.Bool.{lt-ltb, le-ltb}
use Rattle.bit_planes.specs.Bits.{bit}
use Rattle.bit_planes.specs.Planes.{plane_at}
use Rattle.cstar_base.proofs.BitCuts.{bit_at-cut}
use Rattle.point_bits.specs.Strings.{string_at}
use Rattle.point_bits.proofs.Copies.{Moved, copied_none, moved_as, run_more}
use Rattle.point_bits.proofs.parts.block_of.Goals as goal

pub runs-init : goal.runs-init
runs-init c = record {
  long = omega (arith, c.in_ok-block.ensures.long, c.in_ok-block.block.planes.ok.0);
  copied = copied_none c.args.string.positions c.args.string.width (string_at c.args.string.width c.args.bytes.now) (λ p i. bit (plane_at c.in_ok-block.block.planes.items i) p);
  quiet = λ p i past low h. c.in_ok-block.ensures.zeros i p h low;
}

pub runs-preserved : goal.runs-preserved
runs-preserved c =
    let s = c.args.string in
    let run = c.run-run.result in
    let words = c.numbers-words.result in
    let old = c.runs.block.planes.items in
    let new = c.put_words.new.block.planes.items in
    let n = c.runs.number in
    let source : ℕ → ℕ → ℕ = string_at s.width c.args.bytes.now in
    let step = c.put_words.ensures in
    let moved : Moved s.positions s.width run.offset run.len 0 source (λ p i. bit (plane_at old i) p) (λ p i. bit (plane_at new i) p) = record {
      inside = λ p i here within l h.
          let low : p < 512 = omega (arith, within, c.requires.few) in
          let own : p % 512 ≡ p = omega (arith, low) in
          step.inside i p low (c.first_lanes-lanes.ensures p low ∙ ap (λ t. cond t 1 0) (lt-ltb p s.positions within)) l h
          ∙ bit_at-cut (get_or words p 0) run.len (i - run.offset) (omega (arith, l, h))
          ∙ ap (λ q. bit_at (get_or words q 0) (i - run.offset)) (let e : p ≡ p % 512 = omega (arith, low) in e)
          ∙ c.numbers-words.ensures p (i - run.offset) here within (omega (arith, l, h))
          ∙ ap (λ j. source p j) (let e : run.offset + (i - run.offset) ≡ i = omega (arith, l) in e);
      outside = λ p i within b apart. elim apart [
        | inl away ↦ absurd (away (omega (arith, within, c.requires.few)))
        | inr out ↦ ap (λ (plane : _). bit plane p) (step.outside i out)
      ];
    } in
    record {
      long = step.long ∙ c.runs.invariant.long;
      copied = run_more s.positions s.width 0 (32 * n) run.len (32 * (n + 1)) source (λ p i. bit (plane_at old i) p) (λ p i. bit (plane_at new i) p)
          (λ i w h. omega (arith, c.run-run.ensures.len)) c.runs.invariant.copied
          (moved_as s.positions s.width run.offset s.positions s.width (32 * n) run.len 0 source (λ p i. bit (plane_at old i) p) (λ p i. bit (plane_at new i) p) refl refl c.run-run.ensures.offset moved);
      quiet = λ p i past low h. step.kept i p low (c.first_lanes-lanes.ensures p low ∙ ap (λ t. cond t 1 0) (le-ltb p s.positions past)) ∙ c.runs.invariant.quiet p i past low h;
    }

pub returns : goal.returns
returns c = record {
  long = c.runs.invariant.long;
  bits = λ p i within b. c.runs.invariant.copied.here p i within b (omega (arith, within, c.requires.few)) (omega (arith, b, c.runs-test.false, c.runs.auto.number-end, c.runs-number-end.ensures));
  quiet = c.runs.invariant.quiet;
}
