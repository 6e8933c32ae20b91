-- The rows of an image: those of its shapes, its registers, its open calls, its finals, its units and
-- its instructions, which their first words tell apart; and what is read of each.
use Rattle.std.proofs.Common.{◌≡◌, ℕ, ◌<◌, Bool, true, false, cond, ◌==◌, List, [], ◌∷◌, ◌++◌, map, length, drop, append_assoc, inl, inr, subst, refl, sym, ap, ap₂, ◌∙◌, arith}
use Rattle.std.specs.Prelude.{flat_map, All, codes, decimal}
use Rattle.std.proofs.lemmas.Fmt.{decimal_nonempty}
use Rattle.std.proofs.lemmas.Bool.Decides.{nat_tests}
use Rattle.paris_code.specs.declared.instr.Instr.{Instr}
use Rattle.paris_code.specs.declared.program.Entry.{Entry}
use Rattle.paris_code.specs.declared.program.Final.{Final}
use Rattle.paris_code.specs.declared.program.ShapeBits.{ShapeBits}
use Rattle.paris_code.specs.Listing.{shape_line, final_line, unit_line, instruction_line, extent_text, kind_text, field_text, spaced, operands_of}
use Rattle.paris_code.specs.Mnemonics.{mnemonic_of}
use Rattle.paris_code.specs.Plain.{IsName, IsNumeral, IsElementName, begins_name, goes_on_name, is_digit, unit_name, final_name}
use Rattle.paris_code.specs.Shapes.{SetShape, shape_of}
use Rattle.lower_base.specs.Drafts.{Step, step}
use Rattle.plain_listings.specs.Contents.{IsWord, ShapeHasWords, FinalHasWords, EntryHasWords, InstrHasWords}
use Rattle.plain_listings.proofs.Cuts.{only, only_append, both, and_left, off, lacks, cut, cut_first}
use Rattle.plain_listings.proofs.Numbers.{value, value_back, digits, other, without, is_solid, number_solid, solid_digit}
use Rattle.plain_listings.proofs.OperandTexts.{Solid, piece, marked_in, mark_back, kind_in, field_in, kind_back, field_back, kind_solid, field_solid, first_of_all, others_of_all}
use Rattle.plain_listings.proofs.Table.{instruction_in, spells}
use Rattle.plain_listings.proofs.Instructions.{instr_back, mnemonic_solid, operands_solid}
use Rattle.plain_listings.proofs.Lines.{Row, line_of, rest_of, IsRow}

-- names have no blank and no newline
name_byte : (b : ℕ) → goes_on_name b ≡ true → is_solid b ≡ true
name_byte b h = grind (arith, nat_tests)

begin_byte : (b : ℕ) → begins_name b ≡ true → is_solid b ≡ true
begin_byte b h = grind (arith, nat_tests)

only_of_all : (p q : ℕ → Bool) → ((b : ℕ) → p b ≡ true → q b ≡ true) → (xs : List ℕ) → All (λ b. p b ≡ true) xs → only q xs ≡ true
only_of_all p q w [] h = refl
only_of_all p q w (x ∷ xs) h = both (q x) (only q xs) (w x (first_of_all (λ b. p b ≡ true) x xs h)) (only_of_all p q w xs (others_of_all (λ b. p b ≡ true) x xs h))

pub name_solid : (name : List ℕ) → IsName name → Solid name
name_solid [] h = elim h [ ]
name_solid (b ∷ bs) h = both (is_solid b) (only is_solid bs) (begin_byte b h.0) (only_of_all goes_on_name is_solid name_byte bs h.1)

numeral_solid : (text : List ℕ) → IsNumeral text → Solid text
numeral_solid [] h = elim h [ ]
numeral_solid (b ∷ bs) h = only_of_all is_digit is_solid solid_digit (b ∷ bs) h.0

bracketed_solid : (text digits : List ℕ) → IsNumeral digits → text ≡ codes "[" ++ (digits ++ codes "]") → Solid text
bracketed_solid text digits h e =
    subst Solid (sym e) (only_append is_solid digits (codes "]") (numeral_solid digits h) refl)

pub element_name_solid : (name : List ℕ) → IsElementName name → Solid name
element_name_solid name h =
    elim h [
      | inl plain ↦ name_solid name plain
      | inr e ↦ subst Solid (sym e.1.3) (only_append is_solid e.0 e.1.0 (name_solid e.0 e.1.1) (bracketed_solid e.1.0 e.1.2.0 e.1.2.1 e.1.2.2))
    ]

-- the row of each part
abbrev pub shape_row : ℕ → ShapeBits → Row
shape_row n s = codes ".shape" ∷ (decimal n ∷ (flat_map extent_text s.extents.items ∷ (decimal s.bits ∷ [])))

abbrev pub slots_row : ℕ → Row
slots_row n = codes ".slots" ∷ (decimal n ∷ [])

abbrev pub depth_row : ℕ → Row
depth_row n = codes ".depth" ∷ (decimal n ∷ [])

abbrev pub final_row : Final → Row
final_row f = codes ".final" ∷ (f.name ∷ (kind_text f.elem ∷ (field_text f.field ∷ [])))

abbrev pub unit_row : ℕ → Entry → Row
unit_row n u = codes ".unit" ∷ (decimal n ∷ (u.name ∷ (decimal u.start ∷ [])))

abbrev pub code_row : ℕ → Instr → Row
code_row n i = decimal n ∷ (mnemonic_of i ∷ operands_of i)

pub shape_is : (n : ℕ) (s : ShapeBits) → shape_line n s ≡ line_of (shape_row n s)
shape_is n s = refl

pub final_is : (f : Final) → final_line f ≡ line_of (final_row f)
final_is f = refl

pub unit_is : (n : ℕ) (u : Entry) → unit_line n u ≡ line_of (unit_row n u)
unit_is n u = refl

words_end : (ws : Row) → flat_map spaced ws ++ 10 ∷ [] ≡ rest_of ws
words_end [] = refl
words_end (w ∷ ws) = append_assoc (32 ∷ w) (flat_map spaced ws) (10 ∷ []) ∙ ap (λ t. 32 ∷ (w ++ t)) (words_end ws)

pub code_is : (n : ℕ) (i : Instr) → instruction_line n i ≡ line_of (code_row n i)
code_is n i = ap (λ t. decimal n ++ (32 ∷ (mnemonic_of i ++ t))) (words_end (operands_of i))

-- each is a row
extents_solid : (xs : List ℕ) → All IsWord xs → Solid (flat_map extent_text xs)
extents_solid [] h = refl
extents_solid (x ∷ xs) h =
    only_append is_solid (extent_text x) (flat_map extent_text xs) (only_append is_solid (decimal x) (93 ∷ []) (number_solid x (first_of_all IsWord x xs h)) refl) (extents_solid xs (others_of_all IsWord x xs h))

pub shape_is_row : (n : ℕ) (s : ShapeBits) → IsWord n → ShapeHasWords s → IsRow (shape_row n s)
shape_is_row n s w h = (refl, (number_solid n w, (extents_solid s.extents.items h.0, (number_solid s.bits h.1, tt))))

pub number_is_row : (n : ℕ) → IsWord n → IsRow (slots_row n) × IsRow (depth_row n)
number_is_row n w = ((refl, (number_solid n w, tt)), (refl, (number_solid n w, tt)))

pub final_is_row : (f : Final) → IsElementName (final_name f) → FinalHasWords f → IsRow (final_row f)
final_is_row f name h = (refl, (element_name_solid f.name name, (kind_solid f.elem, (field_solid f.field h, tt))))

pub unit_is_row : (n : ℕ) (u : Entry) → IsWord n → IsName (unit_name u) → EntryHasWords u → IsRow (unit_row n u)
unit_is_row n u w name h = (refl, (number_solid n w, (name_solid u.name name, (number_solid u.start h, tt))))

pub code_is_row : (n : ℕ) (i : Instr) → IsWord n → InstrHasWords i → IsRow (code_row n i)
code_is_row n i w h = (number_solid n w, (mnemonic_solid i, operands_solid i h))

-- what tells rows apart
begins_digit : List ℕ → Bool
begins_digit [] = false
begins_digit (b ∷ bs) = is_digit b

pub label : Row → ℕ
label row =
    cond (spells (piece row 0) (codes ".shape")) 0
    (cond (spells (piece row 0) (codes ".slots")) 1
    (cond (spells (piece row 0) (codes ".depth")) 2
    (cond (spells (piece row 0) (codes ".final")) 3
    (cond (spells (piece row 0) (codes ".unit")) 4
    (cond (begins_digit (piece row 0)) 5 6)))))

pub shape_label : (n : ℕ) (s : ShapeBits) → label (shape_row n s) ≡ 0
unfolding label
shape_label n s = refl

pub number_labels : (n : ℕ) → (label (slots_row n) ≡ 1) × (label (depth_row n) ≡ 2)
unfolding label
number_labels n = (refl, refl)

pub final_label : (f : Final) → label (final_row f) ≡ 3
unfolding label
final_label f = refl

pub unit_label : (n : ℕ) (u : Entry) → label (unit_row n u) ≡ 4
unfolding label begins_digit
unit_label n u = refl

pub label_of_none : label ([] ∷ []) ≡ 6
unfolding label begins_digit
label_of_none = refl

digit_label : (w : List ℕ) (ws : Row) → 0 < length w → only is_digit w ≡ true → label (w ∷ ws) ≡ 5
unfolding label begins_digit
digit_label [] ws some h = absurd (omega arith)
digit_label (b ∷ bs) ws some h =
    let first : is_digit b ≡ true = and_left (is_digit b) (only is_digit bs) h in
    let e : (b == 46) ≡ false = off (b == 46) (other 46 refl b first) in
    rw (e, first)

pub code_label : (n : ℕ) (i : Instr) → IsWord n → label (code_row n i) ≡ 5
code_label n i w = digit_label (decimal n) (mnemonic_of i ∷ operands_of i) (decimal_nonempty n (omega arith)) (digits n w)

-- what is read of each
abbrev but_last : {A : Type 0} → List A → List A
but_last [] = []
but_last (x ∷ []) = []
but_last (x ∷ (y ∷ ys)) = x ∷ but_last (y ∷ ys)

all_but_last : {A : Type 0} (x : A) (xs : List A) → but_last (xs ++ x ∷ []) ≡ xs
all_but_last x [] = refl
all_but_last x (y ∷ []) = refl
all_but_last x (y ∷ (z ∷ zs)) = ap (λ ws. y ∷ ws) (all_but_last x (z ∷ zs))

extents_in : List ℕ → List ℕ
extents_in text = map marked_in (but_last (cut 93 text))

abbrev bracket : ℕ → List ℕ
bracket x = 91 ∷ decimal x

cut_extents : (xs : List ℕ) → All IsWord xs → cut 93 (flat_map extent_text xs) ≡ map bracket xs ++ ([] ∷ [])
cut_extents [] h = refl
cut_extents (x ∷ xs) h =
    let w : IsWord x = first_of_all IsWord x xs h in
    ap (λ t. cut 93 (91 ∷ t)) (append_assoc (decimal x) (93 ∷ []) (flat_map extent_text xs))
    ∙ cut_first 93 (bracket x) (flat_map extent_text xs) (both (lacks 93 91) (only (lacks 93) (decimal x)) refl (without 93 x refl w))
    ∙ ap (λ ws. bracket x ∷ ws) (cut_extents xs (others_of_all IsWord x xs h))

brackets_back : (xs : List ℕ) → All IsWord xs → map marked_in (map bracket xs) ≡ xs
brackets_back [] h = refl
brackets_back (x ∷ xs) h = ap₂ (λ y ys. y ∷ ys) (mark_back 91 x (first_of_all IsWord x xs h)) (brackets_back xs (others_of_all IsWord x xs h))

extents_back : (xs : List ℕ) → All IsWord xs → extents_in (flat_map extent_text xs) ≡ xs
unfolding extents_in
extents_back xs h = ap (λ ws. map marked_in (but_last ws)) (cut_extents xs h) ∙ ap (map marked_in) (all_but_last [] (map bracket xs)) ∙ brackets_back xs h

abbrev shape_with : List ℕ → ℕ → SetShape
shape_with extents bits = record { extents = extents; bits = bits }

pub shape_in : Row → SetShape
shape_in row = shape_with (extents_in (piece row 2)) (value (piece row 3))

pub shape_back : (n : ℕ) (s : ShapeBits) → ShapeHasWords s → shape_in (shape_row n s) ≡ shape_of s
unfolding shape_in
shape_back n s h = ap₂ shape_with (extents_back s.extents.items h.0) (value_back s.bits h.1)

pub number_in : Row → ℕ
number_in row = value (piece row 1)

pub slots_back : (n : ℕ) → IsWord n → number_in (slots_row n) ≡ n
unfolding number_in
slots_back n w = value_back n w

pub depth_back : (n : ℕ) → IsWord n → number_in (depth_row n) ≡ n
unfolding number_in
depth_back n w = value_back n w

pub final_in : Row → Final
final_in row = record { name = piece row 1; elem = kind_in (piece row 2); field = field_in (piece row 3) }

pub final_back : (f : Final) → FinalHasWords f → final_in (final_row f) ≡ f
unfolding final_in
final_back f h = ap₂ (λ e d. record { name = f.name; elem = e; field = d }) (kind_back f.elem) (field_back f.field h)

pub unit_in : Row → Entry
unit_in row = record { name = piece row 2; start = value (piece row 3) }

pub unit_back : (n : ℕ) (u : Entry) → EntryHasWords u → unit_in (unit_row n u) ≡ u
unfolding unit_in
unit_back n u h = ap (λ s. record { name = u.name; start = s }) (value_back u.start h)

pub code_in : Row → Step
code_in row = instruction_in (piece row 1) (drop 2 row)

pub code_back : (n : ℕ) (i : Instr) → InstrHasWords i → code_in (code_row n i) ≡ step i
unfolding code_in
code_back n i h = instr_back i h
