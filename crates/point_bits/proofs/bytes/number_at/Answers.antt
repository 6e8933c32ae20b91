use Rattle.std.proofs.Common.{◌≡◌, ℕ, ◌+◌, ◌*◌, ◌/◌, ◌%◌, ◌^◌, ◌<◌, ◌≤◌, ◌∙◌, get_or, ap, bit_and, subst, arith}
use Rattle.std.specs.Int.{bit_at}
use Rattle.std.proofs.Math.Nat.{mod-eq_of_lt, pow-le-pow_right}
use Rattle.std.proofs.lemmas.Nat.{and_mask}
use Rattle.point_bits.proofs.Packed.{ReadUntil, above_fits, read_more, window_has}
use Rattle.point_bits.proofs.bytes.number_at.Goals as goal

pub windows-preserved : goal.windows-preserved
windows-preserved c =
    let k = c.windows.k in
    let byte = c.from-in-windows.result in
    let is : byte ≡ get_or c.args.bytes.now (c.args.at / 8 + k) 0 = c.from-in-windows.ensures in
    let fits : byte < 256 = omega (arith, is, c.type_inv.bytes (c.args.at / 8 + k)) in
    let few : k < 5 = omega (arith, c.windows-test.true, c.div_ceil-k-end.ensures, c.from.ensures) in
    let most : 2 ^ (8 * (k + 1)) ≤ 2 ^ 64 = pow-le-pow_right {n = 2} (omega arith) {i = 8 * (k + 1)} {j = 64} (omega arith) in
    let whole : byte * 2 ^ (8 * k) % 2 ^ 64 ≡ byte * 2 ^ (8 * k) = mod-eq_of_lt (omega (arith, above_fits byte k fits few, most)) in
    let e : byte * 2 ^ (8 * k) + c.windows.window ≡ c.windows.window + byte * 2 ^ (8 * k) % 2 ^ 64 = omega (arith, whole) in
    subst (λ (w : ℕ). ReadUntil c.args.at (k + 1) w c.args.bytes.now) e (read_more c.args.at k c.windows.window byte c.args.bytes.now fits is c.windows.invariant)

pub returns : goal.returns
returns c = λ j h.
    ap (λ n. bit_at n j) (ap (λ m. bit_and (c.windows.window / 2 ^ (c.args.at % 8)) m) c.ones.ensures ∙ and_mask (c.windows.window / 2 ^ (c.args.at % 8)) c.args.len)
    ∙ window_has c.args.at c.args.len c.windows.k c.windows.window c.args.bytes.now (omega (arith, c.windows-test.false, c.div_ceil-k-end.ensures, c.from.ensures)) c.windows.invariant j h
