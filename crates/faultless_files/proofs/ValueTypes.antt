-- The parts of one type.
use Rattle.std.proofs.Common.{◌≡◌, ap}
use Rattle.cstar_tree.specs.declared.typed.ValueType.{ValueType}

pub elem_is : {v w : ValueType} → v ≡ w → v.elem ≡ w.elem
elem_is is = ap (λ (v : ValueType). v.elem) is

pub shape_is : {v w : ValueType} → v ≡ w → v.shape ≡ w.shape
shape_is is = ap (λ (v : ValueType). v.shape) is
