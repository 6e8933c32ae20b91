use Rattle.std.proofs.Common.{◌≡◌, ◌-◌, ◌*◌, ◌/◌, ◌%◌, ◌^◌, ◌<◌, ◌≤◌, ℕ, length, get_or, subst, sym, nat_eq, arith}
use Rattle.std.specs.Prelude.{MatchBool}
use Rattle.point_bits.specs.Strings.{byte_bit}
use Rattle.point_bits.proofs.Sizes.{filled_where}
use Rattle.point_bits.proofs.putting_back.is_filled.Goals as goal

pub returns-else-used-eq0 : goal.returns-else-used-eq0
returns-else-used-eq0 c =
    let bytes = c.args.bytes.now in
    let count : ℕ = c.args.string.positions * c.args.string.width in
    subst (λ (n : ℕ). MatchBool (nat_eq (get_or bytes (length bytes - 1) 0 / 2 ^ (n % 8)) 0)
    ((k : ℕ) → count ≤ k → k < 8 * length bytes → byte_bit bytes k ≡ 0) (((k : ℕ) → count ≤ k → k < 8 * length bytes → byte_bit bytes k ≡ 0) → ⊥)) (sym c.bits.ensures)
    (filled_where bytes count c.requires.long (λ e. c.if-used-eq0.false (omega (arith, e, c.bits.ensures))) (omega (arith, c.type_inv.bytes (length bytes - 1))))
