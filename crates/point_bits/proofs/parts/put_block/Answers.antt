use Rattle.std.proofs.Common.{◌≡◌, ℕ, ◌+◌, ◌*◌, ◌%◌, ◌∙◌, ap, refl, arith}
use Rattle.std.specs.Int.{bit_at}
use Rattle.bit_planes.specs.Bits.{bit}
use Rattle.bit_planes.specs.Planes.{plane_at}
use Rattle.bit_planes.proofs.Planes.{number-bits, number-lt}
use Rattle.point_bits.specs.Strings.{string_at}
use Rattle.point_bits.proofs.Copies.{copied_none, moved_as, run_more}
use Rattle.point_bits.proofs.Sizes.{zero_bits}
use Rattle.point_bits.proofs.Steps.{behind_kept, put_moved}
use Rattle.point_bits.proofs.parts.put_block.Goals as goal

pub runs-init : goal.runs-init
runs-init c = record {
  long = refl;
  small = λ k. omega (arith, c.type_inv.bytes k);
  copied = copied_none c.args.string.positions c.args.string.width (λ p i. bit (plane_at c.args.block.now.planes.items i) p) (string_at c.args.string.width c.args.bytes.now);
  behind = λ n _. zero_bits c.args.bytes.now c.requires.zeros n;
}

pub put-requires-clause-small : goal.put-requires-clause-small
put-requires-clause-small c = λ lane h. omega (arith, c.words_of-words.ensures lane h, number-lt c.args.block.now.planes.items c.run-run.result.offset c.run-run.result.len lane)

pub put-requires-clause-bytes : goal.put-requires-clause-bytes
put-requires-clause-bytes c = omega (arith, c.runs.invariant.long, c.requires.long)

pub runs-preserved : goal.runs-preserved
runs-preserved c =
    let s = c.args.string in
    let planes = c.args.block.now.planes.items in
    let run = c.run-run.result in
    let words = c.words_of-words.result in
    let n = c.runs.number in
    let source : ℕ → ℕ → ℕ = λ p i. bit (plane_at planes i) p in
    let moved = put_moved s.positions s.width run 0 words c.runs.bytes c.put.new.bytes source c.put.ensures (λ p j here within h.
    let own : p % 512 ≡ p = omega (arith, within, c.requires.few) in
    ap (λ n. bit_at n j) (c.words_of-words.ensures (p % 512) (omega arith)) ∙ number-bits planes run.offset run.len (p % 512) j h ∙ ap (λ q. bit (plane_at planes (run.offset + j)) q) own) in
    record {
      long = c.put.ensures.long ∙ c.runs.invariant.long;
      small = λ k. omega (arith, c.type_inv.bytes k);
      copied = run_more s.positions s.width 0 (32 * n) run.len (32 * (n + 1)) source (string_at s.width c.runs.bytes) (string_at s.width c.put.new.bytes)
          (λ i w h. omega (arith, c.run-run.ensures.len)) c.runs.invariant.copied
          (moved_as s.positions s.width run.offset s.positions s.width (32 * n) run.len 0 source (string_at s.width c.runs.bytes) (string_at s.width c.put.new.bytes) refl refl c.run-run.ensures.offset moved);
      behind = λ k h. behind_kept s.positions s.width run 0 words c.runs.bytes c.put.new.bytes (omega (arith, c.requires.string.wide)) c.put.ensures k h ∙ c.runs.invariant.behind k h;
    }

pub returns : goal.returns
returns c = record {
  long = c.runs.invariant.long ∙ c.requires.long;
  small = c.runs.invariant.small;
  bits = λ p i within b. c.runs.invariant.copied.here p i within b (omega (arith, within, c.requires.few)) (omega (arith, b, c.runs-test.false, c.runs.auto.number-end, c.runs-number-end.ensures));
  behind = c.runs.invariant.behind;
}
