-- Each operation on bits, by its gate.
use Rattle.std.proofs.Common.{◌≡◌, ℕ, ◌+◌, ◌-◌, ◌%◌, min, max, cond, sym, ◌∙◌, ap}
use Rattle.bit_planes.specs.Bits.{bit}
use Rattle.lane_kernels.specs.Kernels.{operand_of}
use Rattle.lane_kernels.proofs.Lifted.{operand_of-lt}
use Rattle.elementwise.specs.declared.planar.Planar.{Planar}
use Rattle.elementwise.specs.declared.planar.Planar.TheVariants as L
use Rattle.elementwise.specs.Planar.{gives}
use Rattle.elementwise.proofs.Bits.{operand_is_bit, negative_bit, difference_bit, product_bit, and_bit, or_bit, xor_bit, least_bit, greatest_bit}
use Rattle.elementwise.proofs.planar.on_bits.Goals as goal
use Rattle.elementwise.proofs.planar.on_bits.Goals.{in-Same, in-Complement, in-Negative, in-Add, in-Subtract, in-Multiply, in-And, in-Or, in-Xor, in-Min, in-Max}

pub returns : goal.returns
returns c = λ i b.
    let x : ℕ = operand_of c.args.a.now c.args.planes.now 1 i in
    let y : ℕ = operand_of c.args.b.now c.args.planes.now 1 i in
    let p = operand_of-lt c.args.a.now c.args.planes.now 1 i in
    let q = operand_of-lt c.args.b.now c.args.planes.now 1 i in
    let one : bit c.plane-x.result i ≡ x = c.plane-x.ensures i b ∙ operand_is_bit c.args.a.now c.args.planes.now i in
    let other : bit c.plane-y.result i ≡ y = c.plane-y.ensures i b ∙ operand_is_bit c.args.b.now c.args.planes.now i in
    let two : (f : ℕ → ℕ → ℕ) → f (bit c.plane-x.result i) (bit c.plane-y.result i) ≡ f x y = λ f. ap (λ n. f n (bit c.plane-y.result i)) one ∙ ap (f x) other in
    let by : (o : Planar) → c.args.op ≡ o → bit c.match-op.result i ≡ gives o 1 x y → bit c.match-op.result i ≡ gives c.args.op 1 x y = λ o is e. e ∙ ap (λ (t : Planar). gives t 1 x y) (sym is) in
    elim c.match-op.branch [
      | in-Same w ↦ by L.Same w.in-Same.is (ap (λ v. bit v i) w.result-is ∙ one)
      | in-Complement w ↦ by L.Complement w.in-Complement.is (ap (λ v. bit v i) w.result-is ∙ w.opposite.ensures i b ∙ ap (λ n. 1 - n) one)
      | in-Negative w ↦ by L.Negative w.in-Negative.is (ap (λ v. bit v i) w.result-is ∙ one ∙ negative_bit x p)
      | in-Add w ↦ by L.Add w.in-Add.is (ap (λ v. bit v i) w.result-is ∙ w.differ.ensures i b ∙ two (λ m n. (m + n) % 2))
      | in-Subtract w ↦ by L.Subtract w.in-Subtract.is (ap (λ v. bit v i) w.result-is ∙ w.differ-in-Subtract.ensures i b ∙ two (λ m n. (m + n) % 2) ∙ difference_bit x y p q)
      | in-Multiply w ↦ by L.Multiply w.in-Multiply.is (ap (λ v. bit v i) w.result-is ∙ w.both.ensures i b ∙ two min ∙ product_bit x y p q)
      | in-And w ↦ by L.And w.in-And.is (ap (λ v. bit v i) w.result-is ∙ w.both-in-And.ensures i b ∙ two min ∙ and_bit x y p q)
      | in-Or w ↦ by L.Or w.in-Or.is (ap (λ v. bit v i) w.result-is ∙ w.either.ensures i b ∙ two max ∙ or_bit x y p q)
      | in-Xor w ↦ by L.Xor w.in-Xor.is (ap (λ v. bit v i) w.result-is ∙ w.differ-in-Xor.ensures i b ∙ two (λ m n. (m + n) % 2) ∙ xor_bit x y p q)
      | in-Min w ↦ by (L.Min w.in-Min.unsigned) w.in-Min.is (ap (λ v. bit v i) w.result-is ∙ w.lesser.ensures i b ∙ two (λ m n. cond w.in-Min.unsigned (min m n) (max m n)) ∙ least_bit w.in-Min.unsigned x y p q)
      | in-Max w ↦ by (L.Max w.in-Max.unsigned) w.in-Max.is (ap (λ v. bit v i) w.result-is ∙ w.greater.ensures i b ∙ two (λ m n. cond w.in-Max.unsigned (max m n) (min m n)) ∙ greatest_bit w.in-Max.unsigned x y p q)
    ]
