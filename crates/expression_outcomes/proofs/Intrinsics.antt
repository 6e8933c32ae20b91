-- What `pcoord`, scans and enumerates come to.
use Rattle.std.proofs.Common.{◌≡◌, ◌⊎◌, inl, inr, ℕ, ℤ, List, Option, Some, None, Box, refl, sym, ap, subst, ◌∙◌}
use Rattle.std.specs.declared.alloc.Global.{Global}
use Rattle.std.proofs.lemmas.Bool.Decides.{eqb_tells}
use Rattle.std.proofs.lemmas.Option.{same_Some}
use Rattle.cstar_base.specs.declared.elem.Elem.{Elem}
use Rattle.cstar_base.specs.declared.operators.Combiner.{Combiner}
use Rattle.cstar_base.specs.declared.operators.Direction.{Direction}
use Rattle.cstar_base.specs.declared.operators.Inclusion.{Inclusion}
use Rattle.cstar_base.specs.declared.operators.Place.{Place}
use Rattle.cstar_base.specs.declared.operators.SegmentMode.{SegmentMode}
use Rattle.cstar_base.specs.declared.operators.SegmentMode.TheVariants as M
use Rattle.cstar_tree.specs.declared.syntax.Expr.{Expr}
use Rattle.cstar_tree.specs.declared.syntax.Expr as E
use Rattle.cstar_tree.specs.declared.syntax.Name.{Name}
use Rattle.cstar_tree.specs.declared.typed.Variable.{Variable}
use Rattle.cstar_tree.specs.Constants.{axis_among, constant_number}
use Rattle.cstar_tree.specs.Conversions.{promoted}
use Rattle.cstar_tree.specs.ExpressionFaults.{GoesAlong, HasSource, HoldsBits, IsReady, IsSoundAxis, IsSoundBit, Mismatch, NamesBit}
use Rattle.cstar_tree.specs.ExpressionFaults as F
use Rattle.cstar_tree.specs.ExpressionTypes.{IsBit, IsVariable}
use Rattle.cstar_tree.specs.ExpressionTypes as X
use Rattle.cstar_tree.specs.Headers.{Program}
use Rattle.cstar_tree.specs.Scopes.{Here, VariableType, extents_of, part}
use Rattle.cstar_tree.specs.Typed.{type_of}
use Rattle.expression_outcomes.specs.Outcomes.{HasItsNames, Outcome}
use Rattle.expression_outcomes.specs.Outcomes as O
use Rattle.unique_types.proofs.Bringing.{converted}
use Rattle.expression_outcomes.proofs.Coming.{HasOutcome, with_part, with_variable}
use Rattle.unique_types.proofs.Judged.{IsAlong, Operand, of_parts}
use Rattle.expression_outcomes.proofs.Naming.{variable_of}
use Rattle.unique_types.proofs.Unique.{bits_shape}

-- ---- segment bits

bits_array : {ty : VariableType} {s : ℕ} → HoldsBits ty s → ty.array ≡ None
bits_array (F.holds_bits bits) = refl

bits_one : {ty : VariableType} {s : ℕ} → HoldsBits ty s → ty.value.elem.bits ≡ 1
bits_one (F.holds_bits bits) = bits

-- a variable holds bits of one shape, or of none
holds_bits : (elem : Elem) (shape array : Option ℕ) → ((s : ℕ) × HoldsBits (variable_of (of_parts elem shape) array) s) ⊎ ((s : ℕ) → HoldsBits (variable_of (of_parts elem shape) array) s → ⊥)
holds_bits elem shape (Some extent) = inr (λ s h. let none = bits_array h in cc)
holds_bits elem None None = inr (λ s h. let some = bits_shape h in cc)
holds_bits elem (Some s) None = elim (eqb_tells elem.bits 1) [
  | inl one ↦ inl (s, F.holds_bits one.1)
  | inr other ↦ inr (λ k h. other.1 (bits_one h))
]

one_shape : (a : Option ℕ) (s : ℕ) → (a ≡ Some s) ⊎ (a ≡ Some s → ⊥)
one_shape None s = inr (λ is. cc)
one_shape (Some k) s = elim (eqb_tells k s) [
  | inl same ↦ inl (ap Some same.1)
  | inr other ↦ inr (λ is. other.1 (same_Some _ _ is))
]

no_segments : (mode : SegmentMode) → (mode ≡ M.NoSegments) ⊎ (mode ≡ M.NoSegments → ⊥)
no_segments M.NoSegments = inl refl
no_segments _ = inr (λ is. cc)

-- sound bits fit the mode or do not
fits : {here : Here} (mode : SegmentMode) {bit : Option Name} → IsSoundBit here bit → Mismatch mode bit ⊎ ((v : Option Variable) × IsBit here mode bit v)
fits {here} mode F.IsSoundBit.no_bit = elim (no_segments mode) [
  | inl none ↦ inr (None, subst (λ (m : SegmentMode). IsBit here m None None) (sym none) X.no_bit)
  | inr other ↦ inl (F.segments_without_bit other)
]
fits {here} mode (F.IsSoundBit.bit {n = n} {v = v} is (F.holds_bits one) current) = elim (no_segments mode) [
  | inl none ↦ inl (subst (λ (m : SegmentMode). Mismatch m (Some n)) (sym none) F.bit_without_segments)
  | inr other ↦ inr (Some v, X.bit other is one current)
]

-- ---- what goes along an axis

module _ (program : Program) (here : Here) (e axis : Expr) (mode : SegmentMode) (bit : Option Name) (along : GoesAlong e axis mode bit) (k : HasItsNames program here) where
  inside : (x : Operand program (part here) axis) {number : ℤ} {s : ℕ} {extents : List ℕ} (o : Option ℕ) → constant_number here axis ≡ Some number → here.current ≡ Some s → extents_of here s ≡ Some extents → axis_among extents (Some number) ≡ o → (IsSoundAxis program here axis → Outcome program here e) → Outcome program here e
  inside x None number current known outside goes_on = O.faulty (F.at (F.axis_outside along ((x.tree, x.types), number) current known outside))
  inside x (Some found) number current known is goes_on = goes_on (F.under_shape current known ((x.tree, x.types), number) is)

  under : (x : Operand program (part here) axis) {number : ℤ} (o : Option ℕ) → constant_number here axis ≡ Some number → here.current ≡ o → (IsSoundAxis program here axis → Outcome program here e) → Outcome program here e
  under x None number none goes_on = goes_on (F.under_none none ((x.tree, x.types), number))
  under x {number = n} (Some s) number current goes_on = let extents = k.current s current in inside x (axis_among extents.0 (Some n)) number current extents.1 refl goes_on

  with_axis : (x : Operand program (part here) axis) (o : Option ℤ) → constant_number here axis ≡ o → (IsSoundAxis program here axis → Outcome program here e) → Outcome program here e
  with_axis x None none goes_on = O.faulty (F.at (F.axis_no_constant along (x.tree, x.types) none))
  with_axis x (Some number) is goes_on = under x here.current is refl goes_on

  with_bits : (o : Option Name) → ((n : Name) → o ≡ Some n → NamesBit e mode (Some n)) → (IsSoundBit here o → Outcome program here e) → Outcome program here e
  with_bits None names goes_on = goes_on F.IsSoundBit.no_bit
  with_bits (Some n) names goes_on =
      with_variable n (F.as_bit (names n refl)) (λ v ty is. elim (holds_bits ty.value.elem ty.value.shape ty.array) [
        | inl holds ↦ elim (one_shape here.current holds.0) [
          | inl current ↦ goes_on (F.IsSoundBit.bit is holds.1 current)
          | inr away ↦ O.faulty (F.at (F.bits_away (names n refl) is holds.1 away))
        ]
        | inr never ↦ O.faulty (F.at (F.no_bits (names n refl) is never))
      ])

  along_there : {s : ℕ} {v : Option Variable} → here.current ≡ Some s → IsSoundAxis program here axis → IsBit here mode bit v → IsAlong here axis mode bit
  along_there current (F.under_none none is) b = absurd (cc)
  along_there {v = v} current (F.under_shape {s = s} {known = number} {extents = extents} is known constant found) b =
      record { shape = s; extents = extents; number = number; v = v; is_current = is; has_extents = known; is_axis = ap (axis_among extents) constant.1 ∙ found; is_bit = b }

  at_shape : (o : Option ℕ) → here.current ≡ o → (ready : IsReady program here e mode bit) → IsSoundAxis program here axis → (IsAlong here axis mode bit → Outcome program here e) → Outcome program here e
  at_shape None none ready sound goes_on = O.faulty (F.at (F.intrinsic_alone ready none))
  at_shape (Some s) some ready sound goes_on = elim (fits mode ready.sound_bit) [
    | inl mismatch ↦ O.faulty (F.at (F.mode_mismatch ready mismatch))
    | inr fit ↦ goes_on (along_there some sound fit.1)
  ]

  with_ready : HasSource program here e → Operand program (part here) axis → ((n : Name) → bit ≡ Some n → NamesBit e mode (Some n)) → (IsReady program here e mode bit → IsAlong here axis mode bit → Outcome program here e) → Outcome program here e
  with_ready has x names goes_on =
      with_axis x (constant_number here axis) refl (λ sound. with_bits bit names (λ sound_bit.
      let ready : IsReady program here e mode bit = record { axis = axis; along = along; sound_axis = sound; sound_bit = sound_bit; source = has } in
      at_shape here.current refl ready sound (goes_on ready)))

module _ (program : Program) (p : Place) where
  pub pcoord : (axis : Box Expr Global) → HasOutcome program axis.value → HasOutcome program (E.Pcoord p axis)
  pcoord axis from here k i =
      with_part (F.IsPart.along (F.pcoord axis)) from k i (λ x.
      with_ready program here (E.Pcoord p axis) axis.value M.NoSegments None (F.pcoord axis) k F.no_source x (λ n is. absurd (cc)) (λ ready a.
      O.typed (X.pcoord axis a.is_current a.has_extents a.is_axis)))

  pub enumerate : (axis : Box Expr Global) (direction : Direction) (inclusion : Inclusion) (mode : SegmentMode) (bit : Option Name) → HasOutcome program axis.value → HasOutcome program (E.Enumerate p axis direction inclusion mode bit)
  enumerate axis direction inclusion mode bit from here k i =
      let e = E.Enumerate p axis direction inclusion mode in
      with_part (F.IsPart.along (F.enumerate axis)) from k i (λ x.
      with_ready program here (e bit) axis.value mode bit (F.enumerate axis) k F.for_enumerate x (λ n is. subst (λ (b : Option Name). NamesBit (e bit) mode b) is F.in_enumerate) (λ ready a.
      O.typed (X.enumerate axis a.is_current a.has_extents a.is_axis a.is_bit)))

  module _ (source axis : Box Expr Global) (combiner : Combiner) (direction : Direction) (mode : SegmentMode) (bit : Option Name) (inclusion : Inclusion) where
    abbrev this : Expr
    this = E.Scan p source axis combiner direction mode bit inclusion

    scanned : {here : Here} (y : Operand program (part here) source.value) (o : Option ℕ) → (type_of y.tree).shape ≡ o → IsReady program here this mode bit → IsAlong here axis.value mode bit → Outcome program here this
    scanned y None none ready a = O.faulty (F.at (F.scalar_scanned source axis ready y.types none))
    scanned y (Some of) some ready a =
        let c = converted source.alloc y.tree (promoted (type_of y.tree).elem) in
        O.typed (X.scan source axis c.box a.is_current a.has_extents a.is_axis a.is_bit y.types some c.conversion)

    pub scan : HasOutcome program source.value → HasOutcome program axis.value → HasOutcome program this
    scan from_source from_axis here k i =
        with_part (F.IsPart.source source axis) from_source k i (λ y. with_part (F.IsPart.along (F.scan source axis)) from_axis k i (λ x.
        with_ready program here this axis.value mode bit (F.scan source axis) k (F.HasSource.source source (y.tree, y.types)) x (λ n is. subst (λ (b : Option Name). NamesBit this mode b) is F.in_scan)
        (scanned y (type_of y.tree).shape refl)))
