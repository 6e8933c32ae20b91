-- Intrinsics along an axis of the current shape: what they become, and the faults at them.
use Rattle.std.proofs.Common.{◌≡◌, ℕ, ℤ, true, false, Option, Some, None, Box, sym, ap, subst, ◌∙◌}
use Rattle.std.specs.declared.alloc.Global.{Global}
use Rattle.cstar_base.specs.declared.elem.Elem.{Elem}
use Rattle.cstar_base.specs.declared.faults.Fault.TheVariants as Faults
use Rattle.cstar_base.specs.declared.operators.Combiner.{Combiner}
use Rattle.cstar_base.specs.declared.operators.Direction.{Direction}
use Rattle.cstar_base.specs.declared.operators.Inclusion.{Inclusion}
use Rattle.cstar_base.specs.declared.operators.Place.{Place}
use Rattle.cstar_base.specs.declared.operators.SegmentMode.{SegmentMode}
use Rattle.cstar_base.specs.declared.operators.SegmentMode.TheVariants as M
use Rattle.cstar_tree.specs.declared.syntax.Expr.{Expr}
use Rattle.cstar_tree.specs.declared.syntax.Expr as E
use Rattle.cstar_tree.specs.declared.syntax.Name.{Name}
use Rattle.cstar_tree.specs.declared.typed.TExpr.{TExpr}
use Rattle.cstar_tree.specs.declared.typed.TExpr as T
use Rattle.cstar_tree.specs.declared.typed.Variable.{Variable}
use Rattle.cstar_tree.specs.ExpressionFaults.{GoesAlong, HasSource, IsReady, IsSoundAxis, IsSoundBit, Mismatch}
use Rattle.cstar_tree.specs.ExpressionFaults as F
use Rattle.cstar_tree.specs.ExpressionTypes.{IsBit, Types}
use Rattle.cstar_tree.specs.ExpressionTypes as X
use Rattle.cstar_tree.specs.Constants.{axis_among}
use Rattle.cstar_tree.specs.Conversions.{IsConverted, int, promoted}
use Rattle.cstar_tree.specs.Headers.{Program}
use Rattle.cstar_tree.specs.Scopes.{Here, extents_of, part}
use Rattle.cstar_tree.specs.Syntax.{place_of}
use Rattle.cstar_tree.specs.Typed.{type_of}
use Rattle.type_scopes.specs.Answers.{told_by}
use Rattle.type_scopes.specs.declared.faults.Untyped.{Untyped}
use Rattle.type_expressions.specs.Answers.{IsFault}
use Rattle.type_expressions.proofs.OnOperands.{tells}
use Rattle.type_expressions.specs.Along.{AreBits, GoesBy, IsAlong, goes_with}
use Rattle.type_expressions.specs.Along as L
use Rattle.type_expressions.specs.declared.intrinsics.Axis.{Axis}
use Rattle.type_expressions.specs.declared.intrinsics.Axis.TheVariants as A

sound_axis : {program : Program} {here : Here} {e : Expr} {axis : Axis} → IsAlong program here e axis → IsSoundAxis program here e
sound_axis (L.unknown none is) = F.under_none none is
sound_axis (L.known current extents is among) = F.under_shape current extents is among

sound_bit : {here : Here} {written : Option Name} {bit : Option Variable} → AreBits here written bit → IsSoundBit here written
sound_bit L.no_bits = F.no_bit
sound_bit (L.bits v bits current) = F.bit v (F.holds_bits bits) current

pub ready : {program : Program} {here : Here} {e along : Expr} {mode : SegmentMode} {written : Option Name} {axis : Axis} {bit : Option Variable} → GoesAlong e along mode written → HasSource program here e → IsAlong program here along axis → AreBits here written bit → IsReady program here e mode written
ready {along = along} g s a b = record { axis = along; along = g; sound_axis = sound_axis a; sound_bit = sound_bit b; source = s }

-- bits that go with the mode are those of a scan, and else they mismatch
pub is_bit : (mode : SegmentMode) {here : Here} {written : Option Name} {bit : Option Variable} → AreBits here written bit → goes_with mode bit ≡ true → IsBit here mode written bit
is_bit M.NoSegments L.no_bits is = X.no_bit
is_bit M.NoSegments (L.bits v bits current) is = absurd (cc)
is_bit mode L.no_bits is = absurd (cc)
is_bit mode (L.bits v bits current) is = X.bit (λ none. cc) v bits current

pub mismatch : (mode : SegmentMode) {here : Here} {written : Option Name} {bit : Option Variable} → AreBits here written bit → goes_with mode bit ≡ false → Mismatch mode written
mismatch M.NoSegments L.no_bits is = absurd (cc)
mismatch M.NoSegments (L.bits v bits current) is = F.bit_without_segments
mismatch mode L.no_bits is = F.segments_without_bit (λ none. cc)
mismatch mode (L.bits v bits current) is = absurd (cc)

-- under a current shape the axis has its number
pub goes_by : {program : Program} {here : Here} {along : Expr} {axis : Axis} {mode : SegmentMode} {written : Option Name} {bit : Option Variable} {shape number : ℕ} → IsAlong program here along axis → axis ≡ A.Number number → here.current ≡ Some shape → IsBit here mode written bit → GoesBy here along mode written bit shape number
goes_by (L.unknown none is) number current bits = absurd (cc)
goes_by {here = here} {along = along} {shape = shape} {number = number} (L.known {shape = s} {axis = a} {extents = extents} under of is among) number_is current bits =
    let same : s ≡ shape = cc in
    let numbers : a ≡ number = cc in
    record {
      extents = extents;
      of_shape = subst (λ (k : ℕ). extents_of here k ≡ Some extents) same of;
      axis_is = subst (λ (k : Option ℤ). axis_among extents k ≡ Some number) (sym is.1) (among ∙ ap (λ (k : ℕ). Some k) numbers);
      bits = bits;
    }

pub not_unknown : {program : Program} {here : Here} {along : Expr} {axis : Axis} {shape : ℕ} → IsAlong program here along axis → axis ≡ A.Unknown → here.current ≡ Some shape → ⊥
not_unknown (L.unknown none is) unknown current = cc
not_unknown (L.known under of is among) unknown current = cc

-- the trees over an axis, and the faults
pub no_shape : {program : Program} {here : Here} (e along : Expr) {mode : SegmentMode} {written : Option Name} {axis : Axis} {bit : Option Variable} {current : Option ℕ} {p : Place} (u : Untyped) → GoesAlong e along mode written → HasSource program here e → IsAlong program here along axis → AreBits here written bit → here.current ≡ current → (current ≡ None) × (told_by u ≡ Some (Faults.NoShape, p)) → place_of e ≡ p → IsFault program here e u
no_shape e along u g s a b current none place =
    tells u (none.1 ∙ ap (λ (q : Place). Some (Faults.NoShape, q)) (sym place)) (F.intrinsic_alone (ready g s a b) (current ∙ none.0))

pub pcoord_types : (elem : Elem) {program : Program} {here : Here} {p : Place} {axis : Axis} {shape number : ℕ} (along : Box Expr Global) → elem ≡ int → here.current ≡ Some shape → IsAlong program here along.value axis → axis ≡ A.Number number → Types program here (E.Pcoord p along) (T.Pcoord (record { elem = elem; shape = Some shape }) number) true
pcoord_types elem along elem_is current a is =
    let g = goes_by a is current X.no_bit in rw elem_is (X.pcoord along current g.of_shape g.axis_is)

pub enumerate_types : (elem : Elem) {program : Program} {here : Here} {p : Place} {direction : Direction} {mode : SegmentMode} {written : Option Name} {bit : Option Variable} {inclusion : Inclusion} {shape number : ℕ} (along : Box Expr Global) → elem ≡ int → here.current ≡ Some shape → GoesBy here along.value mode written bit shape number → Types program here (E.Enumerate p along direction inclusion mode written) (T.Enumerate (record { elem = elem; shape = Some shape }) number direction inclusion mode bit) true
enumerate_types elem along elem_is current g = rw elem_is (X.enumerate along current g.of_shape g.axis_is g.bits)

pub scan_types : {program : Program} {here : Here} {p : Place} {combiner : Combiner} {direction : Direction} {mode : SegmentMode} {written : Option Name} {bit : Option Variable} {inclusion : Inclusion} {a : TExpr} {elem : Elem} {shape of number : ℕ} (source along : Box Expr Global) (x : Box TExpr Global) → elem ≡ promoted (type_of a).elem → here.current ≡ Some shape → GoesBy here along.value mode written bit shape number → Types program (part here) source.value a true → (type_of a).shape ≡ Some of → IsConverted a elem x.value → Types program here (E.Scan p source along combiner direction mode written inclusion) (T.Scan (record { elem = elem; shape = Some shape }) x number combiner direction mode bit inclusion) true
scan_types {a = a} source along x elem_is current g h is conversion =
    rw elem_is (X.scan source along x current g.of_shape g.axis_is g.bits h is (subst (λ (e : Elem). IsConverted a e x.value) elem_is conversion))
