-- What is read of a listing is what its image holds, so images with one listing hold the same.
use Rattle.std.proofs.Common.{◌≡◌, ℕ, ◌<◌, ◌≤◌, ◌+◌, ◌^◌, false, ◌==◌, List, [], ◌∷◌, ◌++◌, map, map-id, length, append-nil, refl, sym, ap, ap₂, ◌∙◌, arith}
use Rattle.std.specs.Prelude.{flat_map, All}
use Rattle.std.proofs.lemmas.List.Concat.{flat_map-append}
use Rattle.paris_code.specs.declared.program.Entry.{Entry}
use Rattle.paris_code.specs.declared.program.Final.{Final}
use Rattle.paris_code.specs.declared.program.Image.{Image}
use Rattle.paris_code.specs.Listing.{listing, shape_line, slots_line, depth_line, final_line, unit_line, instruction_line}
use Rattle.paris_code.specs.Plain.{IsPlain, IsName, IsElementName, unit_name, final_name}
use Rattle.paris_code.specs.Shapes.{shape_of, shapes_of}
use Rattle.lower_base.specs.Drafts.{step}
use Rattle.plain_listings.specs.Contents.{ShapeHasWords, FinalHasWords, EntryHasWords, InstrHasWords, HasWords, DeterminesImage}
use Rattle.plain_listings.proofs.OperandTexts.{first_of_all, others_of_all, all_back}
use Rattle.plain_listings.proofs.Lines.{Row, line_of, IsRow, Each, each_append, rows_in, rows_back, no_word, numbered_rows, numbered_lines, numbered_each, numbered_back, pick, pick_append, pick_same, pick_other, Labelled}
use Rattle.plain_listings.proofs.Parts.{shape_row, slots_row, depth_row, final_row, unit_row, code_row, shape_is, unit_is, code_is, shape_is_row, number_is_row, final_is_row, unit_is_row, code_is_row, label, shape_label, number_labels, final_label, unit_label, code_label, label_of_none, shape_in, shape_back, number_in, slots_back, depth_back, final_in, final_back, unit_in, unit_back, code_in, code_back}

-- the rows of an image, part by part
abbrev in_order : List Row → List Row → List Row → List Row → List Row → List Row → List Row
in_order shapes slots depth finals units code = shapes ++ (slots ++ (depth ++ (finals ++ (units ++ code))))

abbrev shape_rows : Image → List Row
shape_rows image = numbered_rows shape_row 0 image.shapes.items

abbrev slots_rows : Image → List Row
slots_rows image = slots_row image.slots ∷ []

abbrev depth_rows : Image → List Row
depth_rows image = depth_row image.depth ∷ []

abbrev final_rows : Image → List Row
final_rows image = map final_row image.finals.items

abbrev unit_rows : Image → List Row
unit_rows image = numbered_rows unit_row 0 image.units.items

abbrev code_rows : Image → List Row
code_rows image = numbered_rows code_row 0 image.code.items

abbrev rows_of : Image → List Row
rows_of image = in_order (shape_rows image) (slots_rows image) (depth_rows image) (final_rows image) (unit_rows image) (code_rows image)

-- the listing is the lines of these rows
final_lines : (finals : List Final) → flat_map line_of (map final_row finals) ≡ flat_map final_line finals
final_lines [] = refl
final_lines (f ∷ fs) = ap (λ t. final_line f ++ t) (final_lines fs)

abbrev both_texts : List ℕ → List ℕ → List ℕ
both_texts one other = one ++ other

lines_of_rows : (image : Image) → flat_map line_of (rows_of image) ≡ listing image
unfolding listing
lines_of_rows image =
    flat_map-append line_of (shape_rows image) (slots_row image.slots ∷ (depth_row image.depth ∷ (final_rows image ++ (unit_rows image ++ code_rows image))))
    ∙ ap₂ both_texts (sym (numbered_lines shape_row shape_line shape_is 0 image.shapes.items))
    (ap (λ t. slots_line image.slots ++ (depth_line image.depth ++ t)) (
    flat_map-append line_of (final_rows image) (unit_rows image ++ code_rows image)
    ∙ ap₂ both_texts (final_lines image.finals.items) (
    flat_map-append line_of (unit_rows image) (code_rows image)
    ∙ ap₂ both_texts (sym (numbered_lines unit_row unit_line unit_is 0 image.units.items)) (sym (numbered_lines code_row instruction_line code_is 0 image.code.items))
    )
    ))

-- the rows of each part, picked by their label
pick_rows : (j : ℕ) (a s d f u c : List Row) → pick label j (in_order a s d f u c) ≡ in_order (pick label j a) (pick label j s) (pick label j d) (pick label j f) (pick label j u) (pick label j c)
pick_rows j a s d f u c =
    pick_append label j a (s ++ (d ++ (f ++ (u ++ c)))) ∙ ap (λ t. pick label j a ++ t) (
    pick_append label j s (d ++ (f ++ (u ++ c))) ∙ ap (λ t. pick label j s ++ t) (
    pick_append label j d (f ++ (u ++ c)) ∙ ap (λ t. pick label j d ++ t) (
    pick_append label j f (u ++ c) ∙ ap (λ t. pick label j f ++ t) (pick_append label j u c)
    )
    )
    )

abbrev both_rows : List Row → List Row → List Row
both_rows one other = one ++ other

order_same : {a s d f u c x t e g v b : List Row} → a ≡ x → s ≡ t → d ≡ e → f ≡ g → u ≡ v → c ≡ b → in_order a s d f u c ≡ in_order x t e g v b
order_same p q r w y z = ap₂ both_rows p (ap₂ both_rows q (ap₂ both_rows r (ap₂ both_rows w (ap₂ both_rows y z))))

none_picked : (j : ℕ) (rows : List Row) → (6 == j) ≡ false → pick label j (rows ++ no_word) ≡ pick label j rows
none_picked j rows l =
    pick_append label j rows no_word ∙ ap (λ t. pick label j rows ++ t) (pick_other label j 6 l no_word (label_of_none, tt)) ∙ append-nil (pick label j rows)

module _ (a s d f u c : List Row) (la : Labelled label 0 a) (ls : Labelled label 1 s) (ld : Labelled label 2 d) (lf : Labelled label 3 f) (lu : Labelled label 4 u) (lc : Labelled label 5 c) where
  pick_shapes : pick label 0 (in_order a s d f u c) ≡ a
  pick_shapes = pick_rows 0 a s d f u c ∙ order_same (pick_same label 0 a la) (pick_other label 0 1 refl s ls) (pick_other label 0 2 refl d ld) (pick_other label 0 3 refl f lf) (pick_other label 0 4 refl u lu) (pick_other label 0 5 refl c lc) ∙ append-nil a

  pick_slots : pick label 1 (in_order a s d f u c) ≡ s
  pick_slots = pick_rows 1 a s d f u c ∙ order_same (pick_other label 1 0 refl a la) (pick_same label 1 s ls) (pick_other label 1 2 refl d ld) (pick_other label 1 3 refl f lf) (pick_other label 1 4 refl u lu) (pick_other label 1 5 refl c lc) ∙ append-nil s

  pick_depth : pick label 2 (in_order a s d f u c) ≡ d
  pick_depth = pick_rows 2 a s d f u c ∙ order_same (pick_other label 2 0 refl a la) (pick_other label 2 1 refl s ls) (pick_same label 2 d ld) (pick_other label 2 3 refl f lf) (pick_other label 2 4 refl u lu) (pick_other label 2 5 refl c lc) ∙ append-nil d

  pick_finals : pick label 3 (in_order a s d f u c) ≡ f
  pick_finals = pick_rows 3 a s d f u c ∙ order_same (pick_other label 3 0 refl a la) (pick_other label 3 1 refl s ls) (pick_other label 3 2 refl d ld) (pick_same label 3 f lf) (pick_other label 3 4 refl u lu) (pick_other label 3 5 refl c lc) ∙ append-nil f

  pick_units : pick label 4 (in_order a s d f u c) ≡ u
  pick_units = pick_rows 4 a s d f u c ∙ order_same (pick_other label 4 0 refl a la) (pick_other label 4 1 refl s ls) (pick_other label 4 2 refl d ld) (pick_other label 4 3 refl f lf) (pick_same label 4 u lu) (pick_other label 4 5 refl c lc) ∙ append-nil u

  pick_code : pick label 5 (in_order a s d f u c) ≡ c
  pick_code = pick_rows 5 a s d f u c ∙ order_same (pick_other label 5 0 refl a la) (pick_other label 5 1 refl s ls) (pick_other label 5 2 refl d ld) (pick_other label 5 3 refl f lf) (pick_other label 5 4 refl u lu) (pick_same label 5 c lc)

-- what is read of a listing
abbrev part_in : ℕ → List ℕ → List Row
part_in j text = pick label j (rows_in text)

final_each : (Q : Row → Type 0) (P : Final → Type 0) → ((f : Final) → P f → Q (final_row f)) → (finals : List Final) → All P finals → Each Q (map final_row finals)
final_each Q P good [] h = tt
final_each Q P good (f ∷ fs) h = (good f (first_of_all P f fs h), final_each Q P good fs (others_of_all P f fs h))

abbrev NamedFinal : Final → Type 0
NamedFinal f = IsElementName (final_name f) × FinalHasWords f

abbrev NamedEntry : Entry → Type 0
NamedEntry u = IsName (unit_name u) × EntryHasWords u

module _ (image : Image) (plain : IsPlain image) (words : HasWords image) where
  named_finals : All NamedFinal image.finals.items
  named_finals k d l = (plain.finals k d l, words.finals k d l)

  named_units : All NamedEntry image.units.items
  named_units k d l = (plain.units k d l, words.units k d l)

  few_shapes : 0 + length image.shapes.items ≤ 2 ^ 32
  few_shapes = let h : length image.shapes.items < 2 ^ 32 = words.numbered.0 in omega arith

  few_units : 0 + length image.units.items ≤ 2 ^ 32
  few_units = let h : length image.units.items < 2 ^ 32 = words.numbered.1 in omega arith

  few_code : 0 + length image.code.items ≤ 2 ^ 32
  few_code = let h : length image.code.items < 2 ^ 32 = words.numbered.2 in omega arith

  are_rows : Each IsRow (rows_of image)
  are_rows =
      each_append IsRow (shape_rows image) (slots_rows image ++ (depth_rows image ++ (final_rows image ++ (unit_rows image ++ code_rows image))))
      (numbered_each shape_row IsRow ShapeHasWords shape_is_row 0 image.shapes.items words.shapes few_shapes) (
        (number_is_row image.slots words.slots).0,
        (
          (number_is_row image.depth words.depth).1,
          each_append IsRow (final_rows image) (unit_rows image ++ code_rows image)
              (final_each IsRow NamedFinal (λ f h. final_is_row f h.0 h.1) image.finals.items named_finals)
              (each_append IsRow (unit_rows image) (code_rows image)
              (numbered_each unit_row IsRow NamedEntry (λ n u w h. unit_is_row n u w h.0 h.1) 0 image.units.items named_units few_units)
              (numbered_each code_row IsRow InstrHasWords code_is_row 0 image.code.items words.code few_code)),
        ),
      )

  rows_read : rows_in (listing image) ≡ rows_of image ++ no_word
  rows_read = ap rows_in (sym (lines_of_rows image)) ∙ rows_back (rows_of image) are_rows

  shapes_labelled : Labelled label 0 (shape_rows image)
  shapes_labelled = numbered_each shape_row (λ row. label row ≡ 0) ShapeHasWords (λ n s w h. shape_label n s) 0 image.shapes.items words.shapes few_shapes

  finals_labelled : Labelled label 3 (final_rows image)
  finals_labelled = final_each (λ row. label row ≡ 3) FinalHasWords (λ f h. final_label f) image.finals.items words.finals

  units_labelled : Labelled label 4 (unit_rows image)
  units_labelled = numbered_each unit_row (λ row. label row ≡ 4) EntryHasWords (λ n u w h. unit_label n u) 0 image.units.items words.units few_units

  code_labelled : Labelled label 5 (code_rows image)
  code_labelled = numbered_each code_row (λ row. label row ≡ 5) InstrHasWords (λ n i w h. code_label n i w) 0 image.code.items words.code few_code

  part_read : (j : ℕ) → (6 == j) ≡ false → part_in j (listing image) ≡ pick label j (rows_of image)
  part_read j l = ap (pick label j) rows_read ∙ none_picked j (rows_of image) l

  shapes_part : part_in 0 (listing image) ≡ shape_rows image
  shapes_part = part_read 0 refl ∙ pick_shapes (shape_rows image) (slots_rows image) (depth_rows image) (final_rows image) (unit_rows image) (code_rows image) shapes_labelled ((number_labels image.slots).0, tt) ((number_labels image.depth).1, tt) finals_labelled units_labelled code_labelled

  slots_part : part_in 1 (listing image) ≡ slots_rows image
  slots_part = part_read 1 refl ∙ pick_slots (shape_rows image) (slots_rows image) (depth_rows image) (final_rows image) (unit_rows image) (code_rows image) shapes_labelled ((number_labels image.slots).0, tt) ((number_labels image.depth).1, tt) finals_labelled units_labelled code_labelled

  depth_part : part_in 2 (listing image) ≡ depth_rows image
  depth_part = part_read 2 refl ∙ pick_depth (shape_rows image) (slots_rows image) (depth_rows image) (final_rows image) (unit_rows image) (code_rows image) shapes_labelled ((number_labels image.slots).0, tt) ((number_labels image.depth).1, tt) finals_labelled units_labelled code_labelled

  finals_part : part_in 3 (listing image) ≡ final_rows image
  finals_part = part_read 3 refl ∙ pick_finals (shape_rows image) (slots_rows image) (depth_rows image) (final_rows image) (unit_rows image) (code_rows image) shapes_labelled ((number_labels image.slots).0, tt) ((number_labels image.depth).1, tt) finals_labelled units_labelled code_labelled

  units_part : part_in 4 (listing image) ≡ unit_rows image
  units_part = part_read 4 refl ∙ pick_units (shape_rows image) (slots_rows image) (depth_rows image) (final_rows image) (unit_rows image) (code_rows image) shapes_labelled ((number_labels image.slots).0, tt) ((number_labels image.depth).1, tt) finals_labelled units_labelled code_labelled

  code_part : part_in 5 (listing image) ≡ code_rows image
  code_part = part_read 5 refl ∙ pick_code (shape_rows image) (slots_rows image) (depth_rows image) (final_rows image) (unit_rows image) (code_rows image) shapes_labelled ((number_labels image.slots).0, tt) ((number_labels image.depth).1, tt) finals_labelled units_labelled code_labelled

  shapes_read : map shape_in (part_in 0 (listing image)) ≡ shapes_of image
  shapes_read = ap (map shape_in) shapes_part ∙ numbered_back shape_row shape_in shape_of ShapeHasWords shape_back 0 image.shapes.items words.shapes

  slots_read : map number_in (part_in 1 (listing image)) ≡ image.slots ∷ []
  slots_read = ap (map number_in) slots_part ∙ ap (λ n. n ∷ []) (slots_back image.slots words.slots)

  depth_read : map number_in (part_in 2 (listing image)) ≡ image.depth ∷ []
  depth_read = ap (map number_in) depth_part ∙ ap (λ n. n ∷ []) (depth_back image.depth words.depth)

  finals_read : map final_in (part_in 3 (listing image)) ≡ image.finals.items
  finals_read = ap (map final_in) finals_part ∙ all_back FinalHasWords final_row final_in final_back image.finals.items words.finals

  units_read : map unit_in (part_in 4 (listing image)) ≡ image.units.items
  units_read = ap (map unit_in) units_part ∙ numbered_back unit_row unit_in (λ u. u) EntryHasWords unit_back 0 image.units.items words.units ∙ map-id image.units.items

  code_read : map code_in (part_in 5 (listing image)) ≡ map step image.code.items
  code_read = ap (map code_in) code_part ∙ numbered_back code_row code_in step InstrHasWords code_back 0 image.code.items words.code

-- so what is read of one listing is what both images hold
only_item : List ℕ → ℕ
only_item [] = 0
only_item (n ∷ ns) = n

single : (m n : ℕ) → m ∷ [] ≡ n ∷ [] → m ≡ n
unfolding only_item
single m n e = ap only_item e

pub determines : (one other : Image) → DeterminesImage one other
determines one other p q v w e = record {
  shapes = sym (shapes_read one p v) ∙ ap (λ t. map shape_in (part_in 0 t)) e ∙ shapes_read other q w;
  slots = single one.slots other.slots (sym (slots_read one p v) ∙ ap (λ t. map number_in (part_in 1 t)) e ∙ slots_read other q w);
  depth = single one.depth other.depth (sym (depth_read one p v) ∙ ap (λ t. map number_in (part_in 2 t)) e ∙ depth_read other q w);
  finals = sym (finals_read one p v) ∙ ap (λ t. map final_in (part_in 3 t)) e ∙ finals_read other q w;
  units = sym (units_read one p v) ∙ ap (λ t. map unit_in (part_in 4 t)) e ∙ units_read other q w;
  code = sym (code_read one p v) ∙ ap (λ t. map code_in (part_in 5 t)) e ∙ code_read other q w;
}
