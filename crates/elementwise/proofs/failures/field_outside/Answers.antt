use Rattle.std.proofs.Common.{◌≡◌, ℕ, ◌-◌, ◌^◌, ◌<◌, cond, ltb, min, sym, ◌∙◌, ap, arith}
use Rattle.std.proofs.lemmas.Bool.{lt-ltb}
use Rattle.std.proofs.Math.Nat.{mod-eq_of_lt}
use Rattle.bit_planes.specs.Planes.{number}
use Rattle.bit_planes.proofs.Planes.{number-lt}
use Rattle.elementwise.proofs.Outside.{least_outside, one_shifted, outside_is, other_flag}
use Rattle.elementwise.proofs.failures.field_outside.Goals as goal
use Rattle.elementwise.proofs.failures.field_outside.Goals.{then-signed, else-signed}

pub returns-then-least-mask : goal.returns-then-least-mask
returns-then-least-mask c = λ i b.
    let n = c.args.f.len in
    let x : ℕ = number c.args.planes.now c.args.f.offset n i in
    let least : c.if-signed.least ≡ least_outside c.args.signed n c.args.extent = elim c.if-signed.branch [
      | then-signed w ↦ w.least-is ∙ w.min-least.ensures ∙ ap (min c.args.extent) (one_shifted n c.requires.len.0 c.requires.len.1) ∙ sym (ap (λ s. least_outside s n c.args.extent) w.if-signed.true)
      | else-signed w ↦ w.least-is ∙ sym (ap (λ s. least_outside s n c.args.extent) w.if-signed.false)
    ] in
    c.repeated.ensures i b
    ∙ sym (ap (λ t. cond t 0 1) (lt-ltb x (least_outside c.args.signed n c.args.extent) (omega (arith, number-lt c.args.planes.now c.args.f.offset n i, c.mask.ensures, c.if-least-mask.true, least))))
    ∙ outside_is c.args.signed n c.args.extent x (number-lt c.args.planes.now c.args.f.offset n i)

pub returns : goal.returns
returns c = λ i b.
    let n = c.args.f.len in
    let x : ℕ = number c.args.planes.now c.args.f.offset n i in
    let least : c.if-signed.least ≡ least_outside c.args.signed n c.args.extent = elim c.if-signed.branch [
      | then-signed w ↦ w.least-is ∙ w.min-least.ensures ∙ ap (min c.args.extent) (one_shifted n c.requires.len.0 c.requires.len.1) ∙ sym (ap (λ s. least_outside s n c.args.extent) w.if-signed.true)
      | else-signed w ↦ w.least-is ∙ sym (ap (λ s. least_outside s n c.args.extent) w.if-signed.false)
    ] in
    c.opposite.ensures i b ∙ ap (λ m. 1 - m) (c.less-inside.ensures i b)
    ∙ ap (λ m. 1 - cond (ltb x m) 1 0) (mod-eq_of_lt (let q : c.if-signed.least < 2 ^ n = omega (arith, c.mask.ensures, c.if-least-mask.false, number-lt c.args.planes.now c.args.f.offset n i) in q) ∙ least)
    ∙ other_flag (ltb x (least_outside c.args.signed n c.args.extent))
    ∙ outside_is c.args.signed n c.args.extent x (number-lt c.args.planes.now c.args.f.offset n i)
