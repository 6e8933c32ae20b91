-- The operands that texts are of: what is read of the text of an operand is that operand, and no blank
-- and no newline stands in the text.
use Rattle.std.proofs.Common.{◌≡◌, ℕ, zero, suc, ◌<◌, ◌+◌, ◌*◌, ◌/◌, ◌%◌, ◌⊎◌, Bool, true, false, cond, ◌&&◌, ◌==◌, List, [], ◌∷◌, ◌++◌, map, append-nil, eqb-true, subst, refl, sym, ap, ap₂, ◌∙◌, inl, inr, arith, Option, Some, None}
use Rattle.std.specs.Prelude.{decimal, slice_index_or, codes, if◌then◌else◌, flat_map, All}
use Rattle.std.specs.List.{concat}
use Rattle.std.proofs.Math.Bool.{Bool-set}
use Rattle.std.specs.Char.{digit_value}
use Rattle.std.proofs.lemmas.Bool.{cases_eq}
use Rattle.std.proofs.lemmas.Bool.Decides.{nat_tests}
use Rattle.cstar_base.specs.Kinds.{is_kind}
use Rattle.cstar_base.specs.declared.elem.Elem.{Elem}
use Rattle.cstar_base.specs.declared.operators.Place.{Place}
use Rattle.cstar_base.specs.declared.operators.Direction.{Direction}
use Rattle.cstar_base.specs.declared.operators.Direction.TheVariants as D
use Rattle.cstar_base.specs.declared.operators.SegmentMode.{SegmentMode}
use Rattle.cstar_base.specs.declared.operators.SegmentMode.TheVariants as M
use Rattle.cstar_base.specs.declared.operators.Inclusion.{Inclusion}
use Rattle.cstar_base.specs.declared.operators.Inclusion.TheVariants as W
use Rattle.paris_code.specs.declared.operands.Field.{Field}
use Rattle.paris_code.specs.declared.operands.Konst.{Konst}
use Rattle.paris_code.specs.declared.operands.Konst.TheVariants as K
use Rattle.paris_code.specs.declared.operands.Coordinate.{Coordinate}
use Rattle.paris_code.specs.declared.operands.Coordinate.TheVariants as C
use Rattle.paris_code.specs.declared.operands.SignedCoordinate.{SignedCoordinate}
use Rattle.paris_code.specs.declared.operands.RegisterCoordinate.{RegisterCoordinate}
use Rattle.paris_code.specs.declared.operands.GridStep.{GridStep}
use Rattle.paris_code.specs.Mnemonics.{sign_name}
use Rattle.paris_code.specs.Listing.{field_text, konst_text, place_text, kind_text, coordinate_text, read_text, checked_text, checked_register_text, step_text, direction_text, mode_text, bit_text, inclusion_text, register_text, hex_digit, hex_text, bytes_text}
use Rattle.plain_listings.specs.Contents.{IsWord, FieldHasWords, PlaceHasWords, KonstHasWords, CoordinateHasWords, CheckedHasWords, RegisterHasWords, StepHasWords, BitHasWords}
use Rattle.plain_listings.proofs.Cuts.{only, only_append, and_left, and_right, both, lacks, cut, cut_alone, cut_first}
use Rattle.plain_listings.proofs.Numbers.{value, value_back, without, is_solid, number_solid}

-- a piece, and the first byte of a text
abbrev pub piece : List (List ℕ) → ℕ → List ℕ
piece ws n = slice_index_or ws n []

abbrev pub behind : List ℕ → List ℕ
behind [] = []
behind (b ∷ bs) = bs

-- no byte stands in a text
abbrev Lacks : ℕ → List ℕ → Type 0
Lacks c text = only (lacks c) text ≡ true

abbrev pub Solid : List ℕ → Type 0
Solid text = only is_solid text ≡ true

-- a text behind which nothing stands
nothing_behind : (p : ℕ → Bool) (xs : List ℕ) → only p xs ≡ true → only p (xs ++ []) ≡ true
nothing_behind p xs h = only_append p xs [] h refl

-- a mark and a number
pub marked_in : List ℕ → ℕ
marked_in text = value (behind text)

pub marked_back : (mark n : ℕ) → IsWord n → marked_in (mark ∷ (decimal n ++ [])) ≡ n
unfolding marked_in
marked_back mark n h = ap value (append-nil (decimal n)) ∙ value_back n h

pub mark_back : (mark n : ℕ) → IsWord n → marked_in (mark ∷ decimal n) ≡ n
unfolding marked_in
mark_back mark n h = value_back n h

pub marked_solid : (mark n : ℕ) → is_solid mark ≡ true → IsWord n → Solid (mark ∷ (decimal n ++ []))
marked_solid mark n s h = both (is_solid mark) (only is_solid (decimal n ++ [])) s (nothing_behind is_solid (decimal n) (number_solid n h))

marked_lacks : (c mark n : ℕ) → lacks c mark ≡ true → Lacks c (decimal n) → Lacks c (mark ∷ (decimal n ++ []))
marked_lacks c mark n s h = both (lacks c mark) (only (lacks c) (decimal n ++ [])) s (nothing_behind (lacks c) (decimal n) h)

-- `SET:OFFSET:LEN`
pub field_in : List ℕ → Field
field_in text = record { set = value (piece (cut 58 text) 0); offset = value (piece (cut 58 text) 1); len = value (piece (cut 58 text) 2) }

field_cut : (f : Field) → FieldHasWords f → cut 58 (field_text f) ≡ decimal f.set ∷ (decimal f.offset ∷ (decimal f.len ∷ []))
field_cut f h =
    cut_first 58 (decimal f.set) (decimal f.offset ++ 58 ∷ (decimal f.len ++ [])) (without 58 f.set refl h.0)
    ∙ ap (λ ws. decimal f.set ∷ ws) (cut_first 58 (decimal f.offset) (decimal f.len ++ []) (without 58 f.offset refl h.1))
    ∙ ap (λ ws. decimal f.set ∷ (decimal f.offset ∷ ws)) (cut_alone 58 (decimal f.len ++ []) (nothing_behind (lacks 58) (decimal f.len) (without 58 f.len refl h.2)) ∙ ap (λ w. w ∷ []) (append-nil (decimal f.len)))

field_of_cut : List (List ℕ) → Field
field_of_cut ws = record { set = value (piece ws 0); offset = value (piece ws 1); len = value (piece ws 2) }

abbrev field_with : ℕ → ℕ → ℕ → Field
field_with set offset len = record { set = set; offset = offset; len = len }

field_numbers : (f : Field) → FieldHasWords f → field_of_cut (decimal f.set ∷ (decimal f.offset ∷ (decimal f.len ∷ []))) ≡ f
unfolding field_of_cut
field_numbers f h =
    ap₂ (λ x y. field_with x y (value (decimal f.len))) (value_back f.set h.0) (value_back f.offset h.1) ∙ ap (field_with f.set f.offset) (value_back f.len h.2)

pub field_back : (f : Field) → FieldHasWords f → field_in (field_text f) ≡ f
unfolding field_in field_of_cut
field_back f h = ap field_of_cut (field_cut f h) ∙ field_numbers f h

field_only : (p : ℕ → Bool) (f : Field) → p 58 ≡ true → only p (decimal f.set) ≡ true → only p (decimal f.offset) ≡ true → only p (decimal f.len) ≡ true → only p (field_text f) ≡ true
field_only p f m a b c =
    let last : only p (58 ∷ (decimal f.len ++ [])) ≡ true = both (p 58) (only p (decimal f.len ++ [])) m (nothing_behind p (decimal f.len) c) in
    let two : only p (58 ∷ (decimal f.offset ++ 58 ∷ (decimal f.len ++ []))) ≡ true = both (p 58) (only p (decimal f.offset ++ 58 ∷ (decimal f.len ++ []))) m (only_append p (decimal f.offset) (58 ∷ (decimal f.len ++ [])) b last) in
    only_append p (decimal f.set) (58 ∷ (decimal f.offset ++ 58 ∷ (decimal f.len ++ []))) a two

pub field_solid : (f : Field) → FieldHasWords f → Solid (field_text f)
field_solid f h = field_only is_solid f refl (number_solid f.set h.0) (number_solid f.offset h.1) (number_solid f.len h.2)

-- `#N` or `rN`
pub konst_in : List ℕ → Konst
konst_in [] = K.Imm 0
konst_in (b ∷ bs) = cond (b == 35) (K.Imm (value bs)) (K.Reg (value bs))

pub konst_back : (k : Konst) → KonstHasWords k → konst_in (konst_text k) ≡ k
unfolding konst_in
konst_back (K.Imm n) h = ap (λ x. K.Imm (value x)) (append-nil (decimal n)) ∙ ap K.Imm (value_back n h)
konst_back (K.Reg n) h = ap (λ x. K.Reg (value x)) (append-nil (decimal n)) ∙ ap K.Reg (value_back n h)

pub konst_solid : (k : Konst) → KonstHasWords k → Solid (konst_text k)
konst_solid (K.Imm n) h = marked_solid 35 n refl h
konst_solid (K.Reg n) h = marked_solid 114 n refl h

-- a field, or else a register or nothing
by_pieces : {A : Type 0} → List (List ℕ) → A → A → A
by_pieces [] one more = one
by_pieces (w ∷ []) one more = one
by_pieces (w ∷ (v ∷ ws)) one more = more

pub coordinate_in : List ℕ → Coordinate
coordinate_in text = by_pieces (cut 58 text) (C.Reg (marked_in text)) (C.Field (field_in text))

pub coordinate_back : (c : Coordinate) → CoordinateHasWords c → coordinate_in (coordinate_text c) ≡ c
unfolding coordinate_in by_pieces
coordinate_back (C.Field f) h =
    ap (λ ws. by_pieces ws (C.Reg (marked_in (field_text f))) (C.Field (field_in (field_text f)))) (field_cut f h) ∙ ap C.Field (field_back f h)
coordinate_back (C.Reg n) h =
    ap (λ ws. by_pieces ws (C.Reg (marked_in (register_text n))) (C.Field (field_in (register_text n)))) (cut_alone 58 (register_text n) (marked_lacks 58 114 n refl (without 58 n refl h)))
    ∙ ap C.Reg (marked_back 114 n h)

pub coordinate_solid : (c : Coordinate) → CoordinateHasWords c → Solid (coordinate_text c)
coordinate_solid (C.Field f) h = field_solid f h
coordinate_solid (C.Reg n) h = marked_solid 114 n refl h

pub bit_in : List ℕ → Option Field
bit_in text = by_pieces (cut 58 text) None (Some (field_in text))

pub bit_back : (b : Option Field) → BitHasWords b → bit_in (bit_text b) ≡ b
unfolding bit_in by_pieces
bit_back None h = refl
bit_back (Some f) h = ap (λ ws. by_pieces ws None (Some (field_in (field_text f)))) (field_cut f h) ∙ ap Some (field_back f h)

pub bit_solid : (b : Option Field) → BitHasWords b → Solid (bit_text b)
bit_solid None h = refl
bit_solid (Some f) h = field_solid f h

-- `LINE,COL`
place_of_cut : List (List ℕ) → Place
place_of_cut ws = record { line = value (piece ws 0); col = value (piece ws 1) }

pub place_in : List ℕ → Place
place_in text = place_of_cut (cut 44 text)

place_cut : (p : Place) → PlaceHasWords p → cut 44 (place_text p) ≡ decimal p.line ∷ (decimal p.col ∷ [])
place_cut p h =
    cut_first 44 (decimal p.line) (decimal p.col ++ []) (without 44 p.line refl h.0)
    ∙ ap (λ ws. decimal p.line ∷ ws) (cut_alone 44 (decimal p.col ++ []) (nothing_behind (lacks 44) (decimal p.col) (without 44 p.col refl h.1)) ∙ ap (λ w. w ∷ []) (append-nil (decimal p.col)))

abbrev place_with : ℕ → ℕ → Place
place_with line col = record { line = line; col = col }

place_numbers : (p : Place) → PlaceHasWords p → place_of_cut (decimal p.line ∷ (decimal p.col ∷ [])) ≡ p
unfolding place_of_cut
place_numbers p h = ap₂ place_with (value_back p.line h.0) (value_back p.col h.1)

pub place_back : (p : Place) → PlaceHasWords p → place_in (place_text p) ≡ p
unfolding place_in
place_back p h = ap place_of_cut (place_cut p h) ∙ place_numbers p h

pub place_solid : (p : Place) → PlaceHasWords p → Solid (place_text p)
place_solid p h =
    only_append is_solid (decimal p.line) (44 ∷ (decimal p.col ++ [])) (number_solid p.line h.0)
    (both (is_solid 44) (only is_solid (decimal p.col ++ [])) refl (nothing_behind is_solid (decimal p.col) (number_solid p.col h.1)))

-- `s` or `u`
begins : ℕ → List ℕ → Bool
begins c [] = false
begins c (b ∷ bs) = b == c

pub sign_in : List ℕ → Bool
sign_in text = begins 115 text

pub sign_back : (signed : Bool) → sign_in (sign_name signed) ≡ signed
unfolding sign_in begins
sign_back true = refl
sign_back false = refl

-- a coordinate and how it is read
checked_of_cut : List (List ℕ) → SignedCoordinate
checked_of_cut ws = record { coordinate = coordinate_in (piece ws 0); signed = sign_in (piece ws 1) }

pub checked_in : List ℕ → SignedCoordinate
checked_in text = checked_of_cut (cut 47 text)

coordinate_lacks : (c : Coordinate) → CoordinateHasWords c → Lacks 47 (coordinate_text c)
coordinate_lacks (C.Field f) h = field_only (lacks 47) f refl (without 47 f.set refl h.0) (without 47 f.offset refl h.1) (without 47 f.len refl h.2)
coordinate_lacks (C.Reg n) h = marked_lacks 47 114 n refl (without 47 n refl h)

sign_alone : (signed : Bool) → cut 47 (sign_name signed) ≡ sign_name signed ∷ []
sign_alone true = refl
sign_alone false = refl

read_solid : (signed : Bool) → Solid (read_text signed)
read_solid true = refl
read_solid false = refl

abbrev checked_with : Coordinate → Bool → SignedCoordinate
checked_with coordinate signed = record { coordinate = coordinate; signed = signed }

checked_parts : (c : SignedCoordinate) → CheckedHasWords c → checked_of_cut (coordinate_text c.coordinate ∷ (sign_name c.signed ∷ [])) ≡ c
unfolding checked_of_cut
checked_parts c h = ap₂ checked_with (coordinate_back c.coordinate h) (sign_back c.signed)

pub checked_back : (c : SignedCoordinate) → CheckedHasWords c → checked_in (checked_text c) ≡ c
unfolding checked_in
checked_back c h =
    ap checked_of_cut (cut_first 47 (coordinate_text c.coordinate) (sign_name c.signed) (coordinate_lacks c.coordinate h) ∙ ap (λ ws. coordinate_text c.coordinate ∷ ws) (sign_alone c.signed))
    ∙ checked_parts c h

pub checked_solid : (c : SignedCoordinate) → CheckedHasWords c → Solid (checked_text c)
checked_solid c h = only_append is_solid (coordinate_text c.coordinate) (read_text c.signed) (coordinate_solid c.coordinate h) (read_solid c.signed)

checked_register_of_cut : List (List ℕ) → RegisterCoordinate
checked_register_of_cut ws = record { register = marked_in (piece ws 0); signed = sign_in (piece ws 1) }

pub checked_register_in : List ℕ → RegisterCoordinate
checked_register_in text = checked_register_of_cut (cut 47 text)

abbrev register_with : ℕ → Bool → RegisterCoordinate
register_with register signed = record { register = register; signed = signed }

checked_register_parts : (c : RegisterCoordinate) → RegisterHasWords c → checked_register_of_cut (register_text c.register ∷ (sign_name c.signed ∷ [])) ≡ c
unfolding checked_register_of_cut
checked_register_parts c h = ap₂ register_with (marked_back 114 c.register h) (sign_back c.signed)

pub checked_register_back : (c : RegisterCoordinate) → RegisterHasWords c → checked_register_in (checked_register_text c) ≡ c
unfolding checked_register_in
checked_register_back c h =
    ap checked_register_of_cut (cut_first 47 (register_text c.register) (sign_name c.signed) (marked_lacks 47 114 c.register refl (without 47 c.register refl h)) ∙ ap (λ ws. register_text c.register ∷ ws) (sign_alone c.signed))
    ∙ checked_register_parts c h

pub checked_register_solid : (c : RegisterCoordinate) → RegisterHasWords c → Solid (checked_register_text c)
checked_register_solid c h = only_append is_solid (register_text c.register) (read_text c.signed) (marked_solid 114 c.register refl h) (read_solid c.signed)

-- `aN=K`
step_of_cut : List (List ℕ) → GridStep
step_of_cut ws = record { axis = marked_in (piece ws 0); step = konst_in (piece ws 1) }

pub step_in : List ℕ → GridStep
step_in text = step_of_cut (cut 61 text)

konst_lacks : (k : Konst) → KonstHasWords k → Lacks 61 (konst_text k ++ [])
konst_lacks (K.Imm n) h = nothing_behind (lacks 61) (35 ∷ (decimal n ++ [])) (marked_lacks 61 35 n refl (without 61 n refl h))
konst_lacks (K.Reg n) h = nothing_behind (lacks 61) (114 ∷ (decimal n ++ [])) (marked_lacks 61 114 n refl (without 61 n refl h))

abbrev step_with : ℕ → Konst → GridStep
step_with axis step = record { axis = axis; step = step }

step_parts : (s : GridStep) → StepHasWords s → step_of_cut ((97 ∷ (decimal s.axis ++ [])) ∷ (konst_text s.step ∷ [])) ≡ s
unfolding step_of_cut
step_parts s h = ap₂ step_with (marked_back 97 s.axis h.0) (konst_back s.step h.1)

pub step_back : (s : GridStep) → StepHasWords s → step_in (step_text s) ≡ s
unfolding step_in
step_back s h =
    ap step_of_cut (
    cut_first 61 (97 ∷ (decimal s.axis ++ [])) (konst_text s.step ++ []) (marked_lacks 61 97 s.axis refl (without 61 s.axis refl h.0))
    ∙ ap (λ ws. (97 ∷ (decimal s.axis ++ [])) ∷ ws) (cut_alone 61 (konst_text s.step ++ []) (konst_lacks s.step h.1) ∙ ap (λ w. w ∷ []) (append-nil (konst_text s.step)))
    ) ∙ step_parts s h

pub step_solid : (s : GridStep) → StepHasWords s → Solid (step_text s)
step_solid s h =
    only_append is_solid (97 ∷ (decimal s.axis ++ [])) (61 ∷ (konst_text s.step ++ [])) (marked_solid 97 s.axis refl h.0)
    (both (is_solid 61) (only is_solid (konst_text s.step ++ [])) refl (nothing_behind is_solid (konst_text s.step) (konst_solid s.step h.1)))

-- words
pub direction_in : List ℕ → Direction
direction_in text = cond (begins 117 text) D.Upward D.Downward

pub direction_back : (d : Direction) → direction_in (direction_text d) ≡ d
unfolding direction_in begins
direction_back D.Upward = refl
direction_back D.Downward = refl

pub direction_solid : (d : Direction) → Solid (direction_text d)
direction_solid D.Upward = refl
direction_solid D.Downward = refl

pub mode_in : List ℕ → SegmentMode
mode_in text = cond (begins 110 text) M.NoSegments (cond (begins 116 (behind text)) M.StartBit M.SegmentBit)

pub mode_back : (m : SegmentMode) → mode_in (mode_text m) ≡ m
unfolding mode_in begins
mode_back M.NoSegments = refl
mode_back M.StartBit = refl
mode_back M.SegmentBit = refl

pub mode_solid : (m : SegmentMode) → Solid (mode_text m)
mode_solid M.NoSegments = refl
mode_solid M.StartBit = refl
mode_solid M.SegmentBit = refl

pub inclusion_in : List ℕ → Inclusion
inclusion_in text = cond (begins 110 (behind text)) W.Inclusive W.Exclusive

pub inclusion_back : (w : Inclusion) → inclusion_in (inclusion_text w) ≡ w
unfolding inclusion_in begins
inclusion_back W.Inclusive = refl
inclusion_back W.Exclusive = refl

pub inclusion_solid : (w : Inclusion) → Solid (inclusion_text w)
inclusion_solid W.Inclusive = refl
inclusion_solid W.Exclusive = refl

-- `b1`, or the sign and the width
abbrev kind_with : (bits : ℕ) (signed : Bool) → is_kind bits signed ≡ true → Elem
kind_with bits signed kind = record { bits = bits; signed = signed; kind = kind }

kind_of : ℕ → Bool → Elem
kind_of bits signed =
    cond (bits == 1) (kind_with 1 false refl)
    (cond (bits == 8) (cond signed (kind_with 8 true refl) (kind_with 8 false refl))
    (cond (bits == 16) (cond signed (kind_with 16 true refl) (kind_with 16 false refl)) (cond signed (kind_with 32 true refl) (kind_with 32 false refl))))

pub kind_in : List ℕ → Elem
kind_in text = kind_of (value (behind text)) (sign_in text)

same_kind : (b : ℕ) (s : Bool) (k l : is_kind b s ≡ true) → kind_with b s k ≡ kind_with b s l
same_kind b s k l = ap (kind_with b s) (Bool-set (is_kind b s) true k l)

abbrev text_with : ℕ → Bool → List ℕ
text_with bits signed = concat ((if bits == 1 then codes "b" else sign_name signed) ∷ decimal bits ∷ [])

kind_cases : (b : ℕ) (s : Bool) → is_kind b s ≡ true → ((b ≡ 1) × (s ≡ false)) ⊎ ((b ≡ 8) ⊎ ((b ≡ 16) ⊎ (b ≡ 32)))
kind_cases b true k = grind (arith, nat_tests)
kind_cases b false k = grind (arith, nat_tests)

number_read : (n : ℕ) → IsWord n → value (decimal n ++ []) ≡ n
number_read n h = ap value (append-nil (decimal n)) ∙ value_back n h

ReadsKind : Bool → ℕ → Type 0
ReadsKind s b = (k : is_kind b s ≡ true) → kind_in (text_with b s) ≡ kind_with b s k

reads_bit : ReadsKind false 1
unfolding ReadsKind kind_in kind_of sign_in begins
reads_bit k = ap (λ n. kind_of n false) (number_read 1 (omega arith)) ∙ same_kind 1 false refl k

reads_8 : (s : Bool) → ReadsKind s 8
unfolding ReadsKind kind_in kind_of sign_in begins
reads_8 true k = ap (λ n. kind_of n true) (number_read 8 (omega arith)) ∙ same_kind 8 true refl k
reads_8 false k = ap (λ n. kind_of n false) (number_read 8 (omega arith)) ∙ same_kind 8 false refl k

reads_16 : (s : Bool) → ReadsKind s 16
unfolding ReadsKind kind_in kind_of sign_in begins
reads_16 true k = ap (λ n. kind_of n true) (number_read 16 (omega arith)) ∙ same_kind 16 true refl k
reads_16 false k = ap (λ n. kind_of n false) (number_read 16 (omega arith)) ∙ same_kind 16 false refl k

reads_32 : (s : Bool) → ReadsKind s 32
unfolding ReadsKind kind_in kind_of sign_in begins
reads_32 true k = ap (λ n. kind_of n true) (number_read 32 (omega arith)) ∙ same_kind 32 true refl k
reads_32 false k = ap (λ n. kind_of n false) (number_read 32 (omega arith)) ∙ same_kind 32 false refl k

reads_kind : (b : ℕ) (s : Bool) → is_kind b s ≡ true → ReadsKind s b
reads_kind b s k =
    elim (kind_cases b s k) [
      | inl e ↦ subst (λ n. ReadsKind s n) (sym e.0) (subst (λ t. ReadsKind t 1) (sym e.1) reads_bit)
      | inr f ↦ elim f [
        | inl e ↦ subst (λ n. ReadsKind s n) (sym e) (reads_8 s)
        | inr g ↦ elim g [ inl e ↦ subst (λ n. ReadsKind s n) (sym e) (reads_16 s) | inr e ↦ subst (λ n. ReadsKind s n) (sym e) (reads_32 s) ]
      ]
    ]

pub kind_back : (e : Elem) → kind_in (kind_text e) ≡ e
unfolding ReadsKind
kind_back e = reads_kind e.bits e.signed e.kind e.kind

kind_word : (b : ℕ) (s : Bool) → is_kind b s ≡ true → IsWord b
kind_word b s k =
    elim (kind_cases b s k) [ inl e ↦ omega (arith, e.0) | inr f ↦ elim f [ inl e ↦ omega (arith, e) | inr g ↦ elim g [ inl e ↦ omega (arith, e) | inr e ↦ omega (arith, e) ] ] ]

mark_solid : (t s : Bool) → Solid (if t then codes "b" else sign_name s)
mark_solid true s = refl
mark_solid false true = refl
mark_solid false false = refl

pub kind_solid : (e : Elem) → Solid (kind_text e)
kind_solid e = only_append is_solid (if e.bits == 1 then codes "b" else sign_name e.signed) (decimal e.bits ++ []) (mark_solid (e.bits == 1) e.signed) (nothing_behind is_solid (decimal e.bits) (number_solid e.bits (kind_word e.bits e.signed e.kind)))

-- two hexadecimal digits for each byte
abbrev passes_below : (ℕ → Bool) → ℕ → Bool
passes_below p zero = true
passes_below p (suc k) = p k && passes_below p k

passes_at : (p : ℕ → Bool) (k n : ℕ) → passes_below p k ≡ true → n < k → p n ≡ true
passes_at p zero n h l = absurd (omega arith)
passes_at p (suc k) n h l =
    elim (cases_eq n k) [
      | inl e ↦ subst (λ m. p m ≡ true) (sym e) (and_left (p k) (passes_below p k) h)
      | inr d ↦ passes_at p k n (and_right (p k) (passes_below p k) h) (omega (arith, d))
    ]

hex_solid : (n : ℕ) → n < 16 → is_solid (hex_digit n) ≡ true
hex_solid n l = passes_at (λ m. is_solid (hex_digit m)) 16 n refl l

hex_back : (n : ℕ) → n < 16 → digit_value (hex_digit n) ≡ n
hex_back n l = eqb-true (digit_value (hex_digit n)) n (passes_at (λ m. digit_value (hex_digit m) == m) 16 n refl l)

abbrev pairs : List ℕ → List ℕ
pairs [] = []
pairs (a ∷ []) = []
pairs (a ∷ (b ∷ rest)) = (digit_value a * 16 + digit_value b) ∷ pairs rest

pub bytes_in : List ℕ → List ℕ
bytes_in text = pairs (behind text)

high : (b : ℕ) → b < 256 → b / 16 < 16
high b l = omega arith

low : (b : ℕ) → b % 16 < 16
low b = omega arith

byte_back : (b : ℕ) → b < 256 → digit_value (hex_digit (b / 16)) * 16 + digit_value (hex_digit (b % 16)) ≡ b
byte_back b l = ap₂ (λ x y. x * 16 + y) (hex_back (b / 16) (high b l)) (hex_back (b % 16) (low b)) ∙ omega arith

-- what holds of the first item, and of the others
pub first_of_all : {A : Type 0} (P : A → Type 0) (x : A) (xs : List A) → All P (x ∷ xs) → P x
first_of_all P x xs h = h 0 x (omega arith)

pub others_of_all : {A : Type 0} (P : A → Type 0) (x : A) (xs : List A) → All P (x ∷ xs) → All P xs
others_of_all P x xs h k d l = h (suc k) d (omega arith)

abbrev IsByte : ℕ → Type 0
IsByte b = b < 256

pairs_back : (bytes : List ℕ) → All IsByte bytes → pairs (flat_map hex_text bytes) ≡ bytes
pairs_back [] h = refl
pairs_back (b ∷ bs) h = ap₂ (λ x xs. x ∷ xs) (byte_back b (first_of_all IsByte b bs h)) (pairs_back bs (others_of_all IsByte b bs h))

pub bytes_back : (bytes : List ℕ) → All IsByte bytes → bytes_in (bytes_text bytes) ≡ bytes
unfolding bytes_in
bytes_back bytes h = pairs_back bytes h

pairs_solid : (bytes : List ℕ) → All IsByte bytes → Solid (flat_map hex_text bytes)
pairs_solid [] h = refl
pairs_solid (b ∷ bs) h =
    both (is_solid (hex_digit (b / 16))) (is_solid (hex_digit (b % 16)) && only is_solid (flat_map hex_text bs)) (hex_solid (b / 16) (high b (first_of_all IsByte b bs h)))
    (both (is_solid (hex_digit (b % 16))) (only is_solid (flat_map hex_text bs)) (hex_solid (b % 16) (low b)) (pairs_solid bs (others_of_all IsByte b bs h)))

pub bytes_solid : (bytes : List ℕ) → All IsByte bytes → Solid (bytes_text bytes)
bytes_solid bytes h = pairs_solid bytes h

-- lists of operands
abbrev pub AreSolid : List (List ℕ) → Type 0
AreSolid [] = Unit {0}
AreSolid (w ∷ ws) = Solid w × AreSolid ws

module _ {A B : Type 0} (P : A → Type 0) (text : A → B) where
  pub all_back : (read : B → A) → ((x : A) → P x → read (text x) ≡ x) → (xs : List A) → All P xs → map read (map text xs) ≡ xs
  all_back read back [] h = refl
  all_back read back (x ∷ xs) h = ap₂ (λ y ys. y ∷ ys) (back x (first_of_all P x xs h)) (all_back read back xs (others_of_all P x xs h))

module _ {A : Type 0} (P : A → Type 0) (text : A → List ℕ) where
  pub all_solid : ((x : A) → P x → Solid (text x)) → (xs : List A) → All P xs → AreSolid (map text xs)
  all_solid solid [] h = tt
  all_solid solid (x ∷ xs) h = (solid x (first_of_all P x xs h), all_solid solid xs (others_of_all P x xs h))
