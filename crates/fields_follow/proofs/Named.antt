-- The fields that an instruction of an image names end below the flags of their sets.
use Rattle.std.proofs.Common.{◌≡◌, ℕ, zero, suc, ◌+◌, ◌<◌, ◌≤◌, Bool, true, false, List, [], ◌∷◌, length, map, filter, flat_map, refl, sym, ap, subst, arith, cond, Option}
use Rattle.std.specs.List.{Contains, slice_index_or}
use Rattle.cstar_base.specs.declared.operators.Direction.{Direction}
use Rattle.cstar_base.specs.declared.operators.Inclusion.{Inclusion}
use Rattle.cstar_base.specs.declared.operators.SegmentMode.{SegmentMode}
use Rattle.cstar_link.specs.Linked.{moved_by}
use Rattle.paris_code.specs.declared.instr.Instr.{Instr}
use Rattle.paris_code.specs.declared.instr.Instr.TheVariants as I
use Rattle.paris_code.specs.declared.operands.Field.{Field}
use Rattle.paris_code.specs.declared.operands.Reduction.{Reduction}
use Rattle.paris_code.specs.declared.program.Image.{Image}
use Rattle.paris_code.specs.declared.rows.Length.TheVariants as L
use Rattle.paris_code.specs.declared.rows.Length.{Length}
use Rattle.paris_code.specs.Moving.{moved, moved_bit, moved_instr}
use Rattle.paris_code.specs.RuleField.{Fits, OperandFits, is_measured}
use Rattle.paris_code.specs.RuleOperands.{BitIsWith}
use Rattle.paris_code.specs.RuleSet.{FieldExists, OperandExists, is_of_set}
use Rattle.paris_code.specs.Rows.{Each, Operand, row_of}
use Rattle.paris_code.specs.Rows as O
use Rattle.paris_code.specs.Shapes.{SetShape, bits_at, extents_at, shapes_of}
use Rattle.paris_code.specs.Sound.{KeepsRules}
use Rattle.paris_code.specs.Spans.{fields_of, fields_of_operand}

-- the first field of an instruction is an operand of its own: it stands in no list of coordinates
abbrev pub NamesFields : Instr → Type 0
NamesFields (I.MakeAddress d set coordinates) = ⊥
NamesFields (I.CheckTarget set place coordinates) = ⊥
NamesFields _ = Unit {0}

-- and each one is: there is no bit of a scan either
abbrev NamesEach : Instr → Type 0
NamesEach (I.MakeAddress d set coordinates) = ⊥
NamesEach (I.CheckTarget set place coordinates) = ⊥
NamesEach (I.Scan combiner d a axis direction mode bit within) = ⊥
NamesEach _ = Unit {0}

-- what holds of each of a list
unfoldable Hold : {A : Type 0} → (A → Type 0) → List A → Type 0
Hold P [] = Unit {0}
Hold P (x ∷ xs) = P x × Hold P xs

each_hold : (P : Operand → Type 0) (ops : List Operand) → Each P ops → Hold P ops
unfolding Hold
each_hold P [] h = tt
each_hold P (a ∷ []) h = (h, tt)
each_hold P (a ∷ (b ∷ [])) h = (h.0, (h.1, tt))
each_hold P (a ∷ (b ∷ (c ∷ []))) h = (h.0, (h.1, (h.2, tt)))
each_hold P (a ∷ (b ∷ (c ∷ (d ∷ rest)))) h = (h.0, (h.1, (h.2, each_hold P (d ∷ rest) h.3)))

hold_rest : (P : Operand → Type 0) (b : Bool) (x : Operand) (xs : List Operand) → Hold P (cond b (x ∷ xs) xs) → Hold P xs
unfolding Hold
hold_rest P true x xs h = h.1
hold_rest P false x xs h = h

hold_first : (P : Operand → Type 0) (b : Bool) (x : Operand) (xs : List Operand) → b ≡ true → Hold P (cond b (x ∷ xs) xs) → P x
unfolding Hold
hold_first P true x xs e h = h.0
hold_first P false x xs e h = cc

hold_there : {A : Type 0} (P : A → Type 0) (xs : List A) (k : ℕ) (x : A) → Hold P xs → k < length xs → slice_index_or xs k x ≡ x → P x
unfolding Hold
hold_there P [] k x h below is = absurd (omega arith)
hold_there P (y ∷ xs) zero x h below is = subst P is h.0
hold_there P (y ∷ xs) (suc k) x h below is = hold_there P xs k x h.1 (omega arith) is

hold_map : {A B : Type 0} (P : B → Type 0) (f : A → B) (xs : List A) → Hold P (map f xs) → Hold (λ (x : A). P (f x)) xs
unfolding Hold
hold_map P f [] h = tt
hold_map P f (x ∷ xs) h = (h.0, hold_map P f xs h.1)

-- the fields of the operands are operands of their own
unfoldable AreOwn : List Operand → Type 0
AreOwn [] = Unit {0}
AreOwn (O.Bit mode bit ∷ ops) = ⊥
AreOwn (O.Coordinates set list ∷ ops) = ⊥
AreOwn (O.Checked set list ∷ ops) = ⊥
AreOwn (op ∷ ops) = AreOwn ops

fields_hold : (Q : Operand → Type 0) (P : Field → Type 0) (test : Operand → Bool) → ((f : Field) (l : Length) → test (O.Bits f l) ≡ true) → ((f : Field) (l : Length) → Q (O.Bits f l) → P f) → (ops : List Operand) → AreOwn ops → Hold Q (filter test ops) → Hold P (flat_map fields_of_operand ops)
unfolding Hold AreOwn
fields_hold Q P test passes gives [] own h = tt
fields_hold Q P test passes gives (O.Bits f l ∷ ops) own h =
    (gives f l (hold_first Q (test (O.Bits f l)) (O.Bits f l) (filter test ops) (passes f l) h), fields_hold Q P test passes gives ops own (hold_rest Q (test (O.Bits f l)) (O.Bits f l) (filter test ops) h))
fields_hold Q P test passes gives (O.Bit mode bit ∷ ops) own h = absurd own
fields_hold Q P test passes gives (O.Coordinates set list ∷ ops) own h = absurd own
fields_hold Q P test passes gives (O.Checked set list ∷ ops) own h = absurd own
fields_hold Q P test passes gives (op ∷ ops) own h = fields_hold Q P test passes gives ops own (hold_rest Q (test op) op (filter test ops) h)

rows_own : (start : ℕ) (p : List ℕ) (i : Instr) → NamesEach i → AreOwn (row_of (moved_by start (moved_instr p i)))
unfolding AreOwn
rows_own start p (I.MakeAddress d set coordinates) names = absurd names
rows_own start p (I.CheckTarget set place coordinates) names = absurd names
rows_own start p (I.Scan combiner d a axis direction mode bit within) names = absurd names
rows_own start p i names = tt

fields_over : (start : ℕ) (p : List ℕ) (i : Instr) → NamesEach i → fields_of (moved_by start (moved_instr p i)) ≡ map (moved p) (fields_of i)
fields_over start p (I.MakeAddress d set coordinates) names = absurd names
fields_over start p (I.CheckTarget set place coordinates) names = absurd names
fields_over start p (I.Scan combiner d a axis direction mode bit within) names = absurd names
fields_over start p i names = refl

length_fits : (shapes : List SetShape) (slots : ℕ) (f : Field) (l : Length) → OperandFits shapes slots (O.Bits f l) → Fits shapes f
length_fits shapes slots f L.Any h = h
length_fits shapes slots f (L.Exactly len) h = h.0
length_fits shapes slots f (L.Like other) h = h.0

each_below : (image : Image) (place start : ℕ) (p : List ℕ) (i : Instr) (f : Field) → KeepsRules image place (moved_by start (moved_instr p i)) → NamesEach i → Contains (fields_of i) f
    → (f.set < length (shapes_of image)) × ((moved p f).offset + f.len ≤ bits_at (shapes_of image) f.set)
each_below image place start p i f rules names there =
    let over = moved_by start (moved_instr p i) in
    let exists : Hold (FieldExists (shapes_of image)) (map (moved p) (fields_of i)) =
    subst (Hold (FieldExists (shapes_of image))) (fields_over start p i names)
    (fields_hold (OperandExists (shapes_of image)) (FieldExists (shapes_of image)) is_of_set (λ g l. refl) (λ g l h. h) (row_of over) (rows_own start p i names) (each_hold (OperandExists (shapes_of image)) (filter is_of_set (row_of over)) rules.set)) in
    let fits : Hold (Fits (shapes_of image)) (map (moved p) (fields_of i)) =
    subst (Hold (Fits (shapes_of image))) (fields_over start p i names)
    (fields_hold (OperandFits (shapes_of image) image.slots) (Fits (shapes_of image)) is_measured (λ g l. refl) (λ g l h. length_fits (shapes_of image) image.slots g l h) (row_of over) (rows_own start p i names) (each_hold (OperandFits (shapes_of image) image.slots) (filter is_measured (row_of over)) rules.field)) in
    let set = hold_there (λ (g : Field). FieldExists (shapes_of image) (moved p g)) (fields_of i) there.0 f (hold_map (FieldExists (shapes_of image)) (moved p) (fields_of i) exists) there.1 there.2 in
    let fit = hold_there (λ (g : Field). Fits (shapes_of image) (moved p g)) (fields_of i) there.0 f (hold_map (Fits (shapes_of image)) (moved p) (fields_of i) fits) there.1 there.2 in
    (set, (fit set).2)

-- a scan, as it stands in the image: its destination is of a set of the image, and ends below the set's flags, the axis
-- is one of the set's grid, and the bit that begins segments is of the set
pub scan_below : (image : Image) (place : ℕ) (p : List ℕ) (combiner : Reduction) (d a : Field) (axis : ℕ) (direction : Direction) (mode : SegmentMode) (bit : Option Field) (within : Inclusion) → KeepsRules image place (moved_instr p (I.Scan combiner d a axis direction mode bit within))
    → (d.set < length (shapes_of image)) × ((moved p d).offset + d.len ≤ bits_at (shapes_of image) d.set) × (axis < length (extents_at (shapes_of image) d.set)) × BitIsWith (shapes_of image) (moved p d) mode (moved_bit p bit)
scan_below image place p combiner d a axis direction mode bit within rules = (rules.set.0, (rules.field.0.0 rules.set.0).2, rules.set.2, rules.operands.1)

-- the first field of an instruction, as it stands in the image: it is of a set of the image, and ends below the set's flags
pub ends_below : (image : Image) (place start : ℕ) (p : List ℕ) (i : Instr) (f : Field) (others : List Field) → KeepsRules image place (moved_by start (moved_instr p i)) → NamesFields i → fields_of i ≡ f ∷ others
    → (f.set < length (shapes_of image)) × ((moved p f).offset + f.len ≤ bits_at (shapes_of image) f.set)
ends_below image place start p (I.MakeAddress d set coordinates) f others rules names is = absurd names
ends_below image place start p (I.CheckTarget set at coordinates) f others rules names is = absurd names
ends_below image place start p (I.Scan combiner d a axis direction mode bit within) f others rules names is =
    let ends = scan_below image place p combiner d a axis direction mode bit within rules in
    let same : d ≡ f = ap (λ (xs : List Field). slice_index_or xs 0 d) is in
    subst (λ (h : Field). (h.set < length (shapes_of image)) × ((moved p h).offset + h.len ≤ bits_at (shapes_of image) h.set)) same (ends.0, ends.1)
ends_below image place start p i f others rules names is = each_below image place start p i f rules tt (subst (λ (xs : List Field). Contains xs f) (sym is) (0, omega arith, refl))
