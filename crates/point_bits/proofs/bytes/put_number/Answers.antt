use Rattle.std.proofs.Common.{◌≡◌, ℕ, ◌+◌, ◌-◌, ◌*◌, ◌/◌, ◌%◌, ◌^◌, ◌∙◌, get_or, min, max, refl, ap, arith}
use Rattle.std.specs.Int.{bit_at}
use Rattle.std.proofs.Math.Nat.{mod-eq_of_lt}
use Rattle.std.proofs.lemmas.Nat.{pow_pos}
use Rattle.point_bits.proofs.Packed.{moved_fits, put_more}
use Rattle.point_bits.proofs.bytes.put_number.Goals as goal

pub windows-preserved : goal.windows-preserved
windows-preserved c =
    let k = c.windows.k in
    let at = c.args.at in
    let len = c.args.len in
    let place : ℕ = at / 8 + k in
    let old = c.windows.bytes in
    let taken : c.ones.result * 2 ^ (at % 8) % 2 ^ 64 ≡ (2 ^ len - 1) * 2 ^ (at % 8) =
    ap (λ n. n * 2 ^ (at % 8) % 2 ^ 64) c.ones.ensures ∙ mod-eq_of_lt (moved_fits (2 ^ len - 1) len (at % 8) (omega (arith, pow_pos len)) c.requires.len.1 (omega arith)) in
    let moved : c.from.result * 2 ^ (at % 8) % 2 ^ 64 ≡ c.args.number * 2 ^ (at % 8) =
    ap (λ n. n * 2 ^ (at % 8) % 2 ^ 64) c.from.ensures ∙ mod-eq_of_lt (moved_fits c.args.number len (at % 8) c.requires.small c.requires.len.1 (omega arith)) in
    put_more at len c.args.number k c.args.bytes.now old _ c.merged.result c.requires.small
    (omega (arith, c.windows.invariant.long, c.requires.within, c.requires.len.0, c.windows-test.true, c.div_ceil-k-end.ensures, c.from-2.ensures)) refl
    (λ j h. c.merged.ensures j h
    ∙ ap (λ x. max (min (bit_at (get_or old place 0) j) (1 - x)) (bit_at c.byte_of-in-windows.result j)) (c.byte_of.ensures j h ∙ ap (λ n. bit_at n (8 * k + j)) taken)
    ∙ ap (λ x. max (min (bit_at (get_or old place 0) j) (1 - bit_at ((2 ^ len - 1) * 2 ^ (at % 8)) (8 * k + j))) x) (c.byte_of-in-windows.ensures j h ∙ ap (λ n. bit_at n (8 * k + j)) moved))
    c.windows.invariant
