-- The final values that are printed are those of the parallel variables.
use Rattle.std.proofs.Common.{◌≡◌, ◌∙◌, ℕ, pos, zero, suc, ◌+◌, ◌<◌, ◌||◌, List, [], ◌∷◌, ◌++◌, Option, Some, None, slice_get, slice_index, flat_map, codes, refl, sym, ap, subst, arith}
use Rattle.std.specs.Fmt.{signed_decimal}
use Rattle.std.specs.List.{AllZip, concat, range_with_len}
use Rattle.std.proofs.lemmas.List.{append_assoc}
use Rattle.std.proofs.lemmas.List.Concat.{flat_map-cons}
use Rattle.cstar_base.specs.declared.elem.Elem.{Elem}
use Rattle.cstar_base.specs.Numbers.{number_of, residue}
use Rattle.cstar_compile.specs.Compiled.{IsCompiled}
use Rattle.cstar_top.specs.Courses.{closing, closing_text, report, steps_line, where_asked}
use Rattle.cstar_tree.specs.declared.typed.Typed.{Typed}
use Rattle.cstar_tree.specs.declared.typed.VarInfo.{VarInfo}
use Rattle.cstar_words.specs.declared.options.Options.{Options}
use Rattle.field_alloc.specs.Placed.{IsPlacedFinal}
use Rattle.final_values.specs.Finals.{final_number, finals_text, value_text, values_line, values_text}
use Rattle.lower_base.specs.Layouts.{entries_of, first_fields}
use Rattle.lower_stmt.specs.Programs.{element_finals, final_name_of, final_of, finals_of, variable_finals}
use Rattle.paris_code.specs.declared.operands.Field.{Field}
use Rattle.paris_code.specs.declared.program.Final.{Final}
use Rattle.paris_code.specs.declared.program.Image.{Image}
use Rattle.paris_code.specs.Listing.{listing}
use Rattle.paris_code.specs.Memory.{BitMemory, field_number, processors}
use Rattle.paris_code.specs.Shapes.{shapes_of}
use Rattle.paris_code.specs.Sound.{IsSound}
use Rattle.paris_machine.specs.declared.outcome.End.{End as RunEnd}
use Rattle.point_runs.specs.Courses.{Course}
use Rattle.source_meaning.specs.Programs.{Run}
use Rattle.source_meaning.specs.State.{State}
use Rattle.fields_follow.specs.Fields.{IsElement, file_number, positions_of}
use Rattle.fields_follow.specs.Laws.{HasTheNumbers}
use Rattle.fields_follow.proofs.FileFields.{IsTranslated, file_exists, processors_of, same_final, translated}
use Rattle.scalar_runs.specs.Laws.{IsRunOf, told_end}
use Rattle.parallel_runs.specs.Finals.{lines_from, meant_finals, meant_line, meant_report, meant_value, variable_lines}

flat_same : (f g : ℕ → List ℕ) (a n : ℕ) → ((p : ℕ) → p < a + n → f p ≡ g p) → flat_map f (range_with_len a n) ≡ flat_map g (range_with_len a n)
flat_same f g a zero same = refl
flat_same f g a (suc n) same =
    flat_map-cons f a (range_with_len (a + 1) n) ∙ ap (λ (x : List ℕ). x ++ flat_map f (range_with_len (a + 1) n)) (same a (omega arith))
    ∙ ap (λ (x : List ℕ). g a ++ x) (flat_same f g (a + 1) n (λ p below. same p (omega (arith, below)))) ∙ sym (flat_map-cons g a (range_with_len (a + 1) n))

module _ (t : Typed) (image : Image) (compiled : IsCompiled t image) (sound : IsSound image) (st : State) (m : BitMemory) (has : HasTheNumbers t image st m) where
  made : IsTranslated t compiled.lowered.words compiled.before compiled.after image
  made = translated t image compiled sound

  line : Final → List ℕ
  line last = values_line (shapes_of image) m last

  value_same : (k e set p : ℕ) (info : VarInfo) (last : Final) → IsElement t k info set e → slice_get image.finals.items (file_number t k e) ≡ Some last → last.elem ≡ info.elem → p < positions_of t set → value_text m last p ≡ meant_value st k info e p
  unfolding final_number
  value_same k e set p info last is there elem below =
      ap (λ (y : Elem). codes " " ++ signed_decimal (number_of y.bits y.signed (residue y.bits (pos (field_number m last.field p))))) elem
      ∙ ap (λ (n : ℕ). codes " " ++ signed_decimal (number_of info.elem.bits info.elem.signed (residue info.elem.bits (pos n))))
      (ap (λ (f : Field). field_number m f p) (sym (same_final t compiled.lowered.words compiled.before compiled.after image made k e last there)) ∙ has k e set p info is below)

  values_same : (k e set : ℕ) (info : VarInfo) (last : Final) → IsElement t k info set e → slice_get image.finals.items (file_number t k e) ≡ Some last → last.elem ≡ info.elem → last.field.set ≡ set
      → values_text (shapes_of image) m last ≡ flat_map (meant_value st k info e) (range_with_len 0 (positions_of t set))
  unfolding values_text
  values_same k e set info last is there elem of =
      ap (λ (n : ℕ). flat_map (value_text m last) (range_with_len 0 n)) (ap (λ (s : ℕ). processors (shapes_of image) s) of
      ∙ processors_of t compiled.lowered.words compiled.before compiled.after image made set (file_exists t compiled.lowered.words compiled.before compiled.after image made k info set e is))
      ∙ flat_same (value_text m last) (meant_value st k info e) 0 (positions_of t set) (λ p below. value_same k e set p info last is there elem (omega (arith, below)))

  line_same : (k e set : ℕ) (info : VarInfo) (last : Final) → IsElement t k info set e → slice_get image.finals.items (file_number t k e) ≡ Some last → last.name ≡ final_name_of info e → last.elem ≡ info.elem → last.field.set ≡ set
      → line last ≡ meant_line t st k info set e
  unfolding line
  line_same k e set info last is there name elem of =
      ap (λ (word : List ℕ). concat (word ∷ codes ":" ∷ values_text (shapes_of image) m last ∷ codes "\n" ∷ [])) name
      ∙ ap (λ (values : List ℕ). concat (final_name_of info e ∷ codes ":" ∷ values ∷ codes "\n" ∷ [])) (values_same k e set info last is there elem of)

  -- these are the finals of the image from a number on
  abbrev Stand : ℕ → List Final → Type 0
  Stand number finals = (i : ℕ) (last : Final) → slice_get finals i ≡ Some last → slice_get image.finals.items (number + i) ≡ Some last

  moved : (number other : ℕ) (finals : List Final) → number ≡ other → Stand number finals → Stand other finals
  moved number other finals is stand = subst (λ (n : ℕ). Stand n finals) is stand

  elements : (k set : ℕ) (info : VarInfo) → slice_get t.vars.items k ≡ Some info → info.shape ≡ Some set → (left e number : ℕ) → e + left ≡ entries_of info → number ≡ file_number t k e
      → (more finals : List Final) (later : List ℕ) → AllZip IsPlacedFinal (element_finals info set left e number ++ more) finals → Stand number finals
      → ((tail : List Final) → AllZip IsPlacedFinal more tail → Stand (number + left) tail → flat_map line tail ≡ later)
      → flat_map line finals ≡ flat_map (meant_line t st k info set) (range_with_len e left) ++ later
  unfolding element_finals final_of
  elements k set info known parallel zero e number all is more finals later zip stand rest = rest finals zip (moved number (number + 0) finals (omega arith) stand)
  elements k set info known parallel (suc left) e number all is more [] later zip stand rest = absurd zip
  elements k set info known parallel (suc left) e number all is more (last ∷ finals) later zip stand rest =
      let element : IsElement t k info set e = record { known = known; parallel = parallel; within = omega (arith, all) } in
      let there : slice_get image.finals.items (file_number t k e) ≡ Some last = ap (λ (n : ℕ). slice_get image.finals.items n) (let n : file_number t k e ≡ number + 0 = omega (arith, is) in n) ∙ stand 0 last refl in
      flat_map-cons line last finals
      ∙ ap (λ (x : List ℕ). x ++ flat_map line finals) (line_same k e set info last element there zip.0.0 zip.0.1 zip.0.2)
      ∙ ap (λ (x : List ℕ). meant_line t st k info set e ++ x) (elements k set info known parallel left (e + 1) (number + 1) (omega (arith, all)) (omega (arith, is)) more finals later zip.1
      (λ i final at. ap (λ (n : ℕ). slice_get image.finals.items n) (let n : number + 1 + i ≡ number + suc i = omega arith in n) ∙ stand (suc i) final at)
      (λ tail zips stands. rest tail zips (moved (number + 1 + left) (number + suc left) tail (omega arith) stands)))
      ∙ sym (append_assoc (meant_line t st k info set e) (flat_map (meant_line t st k info set) (range_with_len (e + 1) left)) later)
      ∙ ap (λ (x : List ℕ). x ++ later) (sym (flat_map-cons (meant_line t st k info set) e (range_with_len (e + 1) left)))

  variables : (infos : List VarInfo) (k number : ℕ) (finals : List Final) → ((j : ℕ) → slice_get infos j ≡ slice_get t.vars.items (k + j))
      → ((j : ℕ) → slice_index (first_fields number infos) j ≡ slice_index (first_fields 0 t.vars.items) (k + j)) → AllZip IsPlacedFinal (finals_of infos number) finals → Stand number finals
      → flat_map line finals ≡ lines_from t st k infos
  unfolding finals_of first_fields lines_from variable_finals variable_lines entries_of
  variables [] k number [] knows places zip stand = refl
  variables [] k number (last ∷ finals) knows places zip stand = absurd zip
  variables (info ∷ infos) k number finals knows places zip stand =
      by info.shape refl (λ tail zips stands. variables infos (k + 1) (number + entries_of info) tail
      (λ j. knows (suc j) ∙ ap (λ (n : ℕ). slice_get t.vars.items n) (let n : k + suc j ≡ k + 1 + j = omega arith in n))
      (λ j. places (suc j) ∙ ap (λ (n : ℕ). slice_index (first_fields 0 t.vars.items) n) (let n : k + suc j ≡ k + 1 + j = omega arith in n)) zips stands)
    where
      first : k + 0 ≡ k
      first = omega arith

      by : (o : Option ℕ) → info.shape ≡ o → ((tail : List Final) → AllZip IsPlacedFinal (finals_of infos (number + entries_of info)) tail → Stand (number + entries_of info) tail → flat_map line tail ≡ lines_from t st (k + 1) infos)
          → flat_map line finals ≡ variable_lines t st k info ++ lines_from t st (k + 1) infos
      by None none rest =
          rest finals (subst (λ (o : Option ℕ). AllZip IsPlacedFinal (elim o as (λ _. List Final) [ None ↦ [] | Some s ↦ element_finals info s (entries_of info) 0 number ] ++ finals_of infos (number + entries_of info)) finals) none zip)
          (moved number (number + entries_of info) finals
          (let n : entries_of info ≡ 0 = ap (λ (o : Option ℕ). elim o as (λ _. ℕ) [ None ↦ 0 | Some s ↦ elim info.array as (λ _. ℕ) [ None ↦ 1 | Some n ↦ n ] ]) none in omega (arith, n)) stand)
          ∙ ap (λ (o : Option ℕ). elim o as (λ _. List ℕ) [ None ↦ [] | Some s ↦ flat_map (meant_line t st k info s) (range_with_len 0 (entries_of info)) ] ++ lines_from t st (k + 1) infos) (sym none)
      by (Some set) parallel rest =
          elements k set info (sym (knows 0 ∙ ap (λ (n : ℕ). slice_get t.vars.items n) first)) parallel (entries_of info) 0 number (omega arith)
          (let n : number ≡ slice_index (first_fields 0 t.vars.items) k = places 0 ∙ ap (λ (n : ℕ). slice_index (first_fields 0 t.vars.items) n) first in omega (arith, n))
          (finals_of infos (number + entries_of info)) finals (lines_from t st (k + 1) infos)
          (subst (λ (o : Option ℕ). AllZip IsPlacedFinal (elim o as (λ _. List Final) [ None ↦ [] | Some s ↦ element_finals info s (entries_of info) 0 number ] ++ finals_of infos (number + entries_of info)) finals) parallel zip) stand rest
          ∙ ap (λ (o : Option ℕ). elim o as (λ _. List ℕ) [ None ↦ [] | Some s ↦ flat_map (meant_line t st k info s) (range_with_len 0 (entries_of info)) ] ++ lines_from t st (k + 1) infos) (sym parallel)

  -- the text of the final values
  pub finals_same : finals_text (shapes_of image) m image.finals.items ≡ meant_finals t st
  unfolding finals_text line
  finals_same =
      variables t.vars.items 0 0 image.finals.items (λ j. ap (λ (n : ℕ). slice_get t.vars.items n) (let n : j ≡ 0 + j = omega arith in n))
      (λ j. ap (λ (n : ℕ). slice_index (first_fields 0 t.vars.items) n) (let n : j ≡ 0 + j = omega arith in n))
      (subst (λ (xs : List Final). AllZip IsPlacedFinal (finals_of t.vars.items 0) xs) (sym (ap (λ (v : _). v.items) made.linked.finals))
      (subst (λ (xs : List Final). AllZip IsPlacedFinal xs compiled.after.finals.items) made.lowered.finals made.over.placed.finals))
      (λ i last at. ap (λ (n : ℕ). slice_get image.finals.items n) (let n : 0 + i ≡ i = omega arith in n) ∙ at)

-- the report of a run that is that of the meaning, and whose memory has the numbers
pub report_same : (t : Typed) (image : Image) → IsCompiled t image → IsSound image → (options : Options) (run : Run) (course : Course) → IsRunOf run course → HasTheNumbers t image run.final course.memory
    → report options image course ≡ meant_report options image t run course.steps
unfolding closing_text
report_same t image compiled sound options run course same has =
    ap (λ (bytes : List ℕ). where_asked options.listing (listing image) ++ (bytes ++ closing course.end (closing_text options image course.steps course.memory))) same.printed
    ∙ ap (λ (end : RunEnd). where_asked options.listing (listing image) ++ (run.final.output ++ closing end (closing_text options image course.steps course.memory))) same.end
    ∙ ap (λ (text : List ℕ). where_asked options.listing (listing image) ++ (run.final.output ++ closing (told_end run.end) (where_asked (options.finals || options.listing) (codes "\n") ++ (where_asked options.finals text ++ where_asked options.listing (steps_line course.steps)))))
    (finals_same t image compiled sound run.final course.memory has)
