use Rattle.std.proofs.Common.{◌≡◌, ◌∙◌, ℕ, List, length, ap, subst, arith, refl}
use Rattle.block_store.specs.Stored.{stored}
use Rattle.checkpoint.specs.Bytes.{AreWords}
use Rattle.paris_code.specs.declared.program.Image.{Image}
use Rattle.paris_code.specs.Shapes.{shapes_of}
use Rattle.point_bits.specs.Strings.{bits_bytes}
use Rattle.point_runs.proofs.Points.{few_calls}
use Rattle.point_runs.proofs.saving.point_of.Goals as goal

pub returns-clause-held : goal.returns-clause-held
returns-clause-held c =
    let h = c.slots-slots in
    let calls = few_calls c.args.sound.now 0 0 c.args.kept.returns c.args.kept.at c.image-image.ensures.sound (omega arith) refl c.requires.fits.0.1 in
    record {
      counted = record {
        regs = omega (arith, c.requires.fits.1, ap (λ (i : Image). i.slots) c.image-image.ensures.same, c.slots-slots.ensures);
        returns = omega (arith, calls, ap (λ (i : Image). i.depth) c.image-image.ensures.same, c.depth-depth.ensures);
        listing = omega (arith, c.in_ok-listing.ensures.small);
        bits = omega (arith, c.bits.inside.bytes.ok.0, ap (λ (xs : List ℕ). length xs) c.bits.view_is);
      };
      words = record {
        at = omega arith;
        regs = subst (λ (numbers : List ℕ). AreWords numbers) c.list.ensures c.are_words.ensures;
        returns = subst (λ (numbers : List ℕ). AreWords numbers) c.list-2.ensures c.are_words-2.ensures;
      };
    }

pub returns-clause-point : goal.returns-clause-point
returns-clause-point c = λ w.
    let bits : c.of-bits.result ≡ bits_bytes (shapes_of c.args.sound.now) (stored c.args.sets.items w) = c.of-bits.ensures ∙ c.in_ok-gather.ensures w in
    cc (bits, c.in_ok-listing.ensures.listing)
