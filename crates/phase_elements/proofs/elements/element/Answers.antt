use Rattle.std.proofs.Common.{◌≡◌, ℕ, ◌+◌, ◌-◌, ◌*◌, ◌%◌, ◌^◌, List, sym, subst, ap, ◌∙◌, pos, neg_ℤ, bit_and, arith}
use Rattle.std.proofs.lemmas.Nat.{and_mask}
use Rattle.std.proofs.Math.Nat.{mod-mod}
use Rattle.vp_sets.specs.Positions.{number_at, position_count}
use Rattle.cstar_base.specs.Operators.{outcome}
use Rattle.cstar_base.specs.Numbers.{residue}
use Rattle.paris_code.specs.declared.instr.Instr.{Instr}
use Rattle.paris_code.specs.declared.instr.Instr.TheVariants as I
use Rattle.paris_code.specs.Arguments.{coordinate_numbers}
use Rattle.paris_code.specs.Elementwise.{element, destination}
use Rattle.paris_code.specs.Memory.{BitMemory, whole_number, field_number}
use Rattle.paris_code.specs.Operators.{operator_of}
use Rattle.paris_code.specs.Shapes.{SetShape, extents_at}
use Rattle.phase_meaning.specs.Apply.{CanApply}
use Rattle.phase_meaning.proofs.FieldLemmas.{lies}
use Rattle.phase_meaning.proofs.Widths.{residue_within, complement_cut, negative_cut, cut_cut}
use Rattle.phase_elements.proofs.elements.element.Goals as goal

-- a word has the lowest bits of what the instruction gives
abbrev Gives : List SetShape → BitMemory → List ℕ → ℕ → ℕ → Instr → Type 0
Gives shapes m args p word instr = word % 2 ^ (destination shapes instr).len ≡ element shapes instr args m p % 2 ^ (destination shapes instr).len

of : (shapes : List SetShape) (m : BitMemory) (args : List ℕ) (p word : ℕ) (instr is : Instr) → instr ≡ is → CanApply shapes instr args → (CanApply shapes is args → Gives shapes m args p word is) → Gives shapes m args p word instr
of shapes m args p word instr is e can gives =
    subst (Gives shapes m args p word) (sym e) (gives (subst (λ i. CanApply shapes i args) e can))

plus_nothing : (n x : ℕ) → 0 * n + x ≡ x
plus_nothing n x = omega arith

pub returns-in-Move : goal.returns-in-Move
unfolding whole_number
returns-in-Move g c =
    let a = c.args in
    let d = c.in-Move.dest in
    of (g.M.Readable.shapes a.m.now) (g.M.Readable.memory a.m.now) a.args.now a.position c.word.result a.instr.now (I.Move c.in-Move.signed d c.in-Move.source) c.in-Move.is c.requires.can (λ can.
    ap (λ n. n % 2 ^ d.len) c.word.ensures ∙ residue_within d.len _ (lies (g.M.Readable.shapes a.m.now) d can.field.0 can.set.0).2)

pub returns-in-MakeAddress : goal.returns-in-MakeAddress
returns-in-MakeAddress g c =
    let a = c.args in
    let d = c.in-MakeAddress.dest in
    of (g.M.Readable.shapes a.m.now) (g.M.Readable.memory a.m.now) a.args.now a.position c.address.result a.instr.now (I.MakeAddress d c.in-MakeAddress.set c.in-MakeAddress.coordinates) c.in-MakeAddress.is c.requires.can (λ can.
    ap (λ n. n % 2 ^ d.len) c.address.ensures ∙ cut_cut _ d.len 32 (lies (g.M.Readable.shapes a.m.now) d can.field.0 can.set.0).2
    ∙ ap (λ n. n % 2 ^ d.len) (
    plus_nothing (position_count c.extents.result.now) _
    ∙ ap (λ xs. number_at xs (coordinate_numbers (g.M.Readable.memory a.m.now) c.as_slice.result.now a.args.now a.position)) (c.extents.ensures.value ∙ c.geometry-geometry.ensures)
    ∙ ap (λ cs. number_at (extents_at (g.M.Readable.shapes a.m.now) c.in-MakeAddress.set) (coordinate_numbers (g.M.Readable.memory a.m.now) cs a.args.now a.position)) c.as_slice.ensures.value))

pub returns-in-OperateConstant : goal.returns-in-OperateConstant
returns-in-OperateConstant g c =
    let a = c.args in
    let d = c.in-OperateConstant.dest in
    let o = operator_of c.in-OperateConstant.op in
    of (g.M.Readable.shapes a.m.now) (g.M.Readable.memory a.m.now) a.args.now a.position c.operate-in-OperateConstant.result a.instr.now (I.OperateConstant c.in-OperateConstant.op d c.in-OperateConstant.left c.in-OperateConstant.right) c.in-OperateConstant.is c.requires.can (λ can.
    sym (mod-mod c.operate-in-OperateConstant.result (2 ^ d.len))
    ∙ ap (λ n. n % 2 ^ d.len) (
    c.operate-in-OperateConstant.ensures
    ∙ ap (λ x. outcome o.0 d.len o.1 x (bit_and c.konst-in-OperateConstant.result c.mask.result)) c.field-a-in-OperateConstant.ensures.value
    ∙ ap (λ y. outcome o.0 d.len o.1 (field_number (g.M.Readable.memory a.m.now) c.in-OperateConstant.left a.position) y) (
    ap (λ m. bit_and c.konst-in-OperateConstant.result m) c.mask.ensures ∙ and_mask c.konst-in-OperateConstant.result d.len ∙ ap (λ k. k % 2 ^ d.len) c.konst-in-OperateConstant.ensures)))

pub returns-in-Negate : goal.returns-in-Negate
returns-in-Negate g c =
    let a = c.args in
    let d = c.in-Negate.dest in
    of (g.M.Readable.shapes a.m.now) (g.M.Readable.memory a.m.now) a.args.now a.position c.wrapping_neg.result a.instr.now (I.Negate d c.in-Negate.source) c.in-Negate.is c.requires.can (λ can.
    negative_cut d.len c.field-in-Negate.result c.wrapping_neg.result (lies (g.M.Readable.shapes a.m.now) d can.field.0 can.set.0).2 (omega (arith, c.field-in-Negate.ensures.bound, ap (λ k. 2 ^ k) (can.field.1.1 can.set.1 can.set.0))) c.wrapping_neg.type_inv c.wrapping_neg.ensures
    ∙ ap (λ x. residue d.len (neg_ℤ (pos x)) % 2 ^ d.len) c.field-in-Negate.ensures.value)

pub returns-in-Lognot : goal.returns-in-Lognot
returns-in-Lognot g c =
    let a = c.args in
    let d = c.in-Lognot.dest in
    of (g.M.Readable.shapes a.m.now) (g.M.Readable.memory a.m.now) a.args.now a.position (4294967295 - c.field-in-Lognot.result) a.instr.now (I.Lognot d c.in-Lognot.source) c.in-Lognot.is c.requires.can (λ can.
    complement_cut d.len c.field-in-Lognot.result (lies (g.M.Readable.shapes a.m.now) d can.field.0 can.set.0).2 (omega (arith, c.field-in-Lognot.ensures.bound, ap (λ k. 2 ^ k) (can.field.1.1 can.set.1 can.set.0)))
    ∙ ap (λ x. (2 ^ d.len - 1 - x) % 2 ^ d.len) c.field-in-Lognot.ensures.value)
