-- Where the fields of the file's parallel variables stand in an image. Each final of a program is one element of
-- one variable, in the order of the variables.
use Rattle.std.proofs.Common.{◌≡◌, ◌≢◌, ◌∙◌, ℕ, zero, suc, ◌+◌, ◌*◌, ◌^◌, ◌<◌, ◌≤◌, ◌==◌, ◌⊎◌, inl, inr, Bool, true, false, if◌then◌else◌, List, [], ◌∷◌, ◌++◌, length, map, slice_get, slice_index, Option, Some, None, refl, sym, ap, subst, arith}
use Rattle.std.specs.Prelude.{All}
use Rattle.std.specs.List.{AllZip, slice_index_or}
use Rattle.std.proofs.lemmas.Bool.{cases_eq, cases_lt, eqb-true}
use Rattle.cstar_compile.specs.Compiled.{IsCompiled}
use Rattle.cstar_link.specs.Linked.{IsLinked}
use Rattle.cstar_link.specs.Sets.{fitted_from}
use Rattle.cstar_tree.specs.declared.typed.ShapeInfo.{ShapeInfo}
use Rattle.cstar_tree.specs.declared.typed.Typed.{Typed}
use Rattle.cstar_tree.specs.declared.typed.VarInfo.{VarInfo}
use Rattle.code_lengths.proofs.Declaring.{all_at}
use Rattle.field_alloc.specs.OverBits.{IsOverBits}
use Rattle.field_alloc.specs.Placed.{IsPlacedFinal}
use Rattle.lower_base.specs.Layouts.{entries_of, first_fields}
use Rattle.lower_stmt.specs.Lowered.{IsLoweredWith}
use Rattle.lower_stmt.specs.Programs.{Space, element_finals, final_of, finals_of, space, spaces_of, variable_finals}
use Rattle.paris_code.specs.declared.operands.Field.{Field}
use Rattle.paris_code.specs.declared.program.Final.{Final}
use Rattle.paris_code.specs.declared.program.Image.{Image}
use Rattle.paris_code.specs.declared.program.Program.{Program}
use Rattle.paris_code.specs.declared.program.ShapeBits.{ShapeBits}
use Rattle.paris_code.specs.Memory.{BitMemory, field_number, fresh_memory, is_active, processors, run_number}
use Rattle.paris_code.specs.RuleField.{Fits}
use Rattle.paris_code.specs.RuleSet.{FieldExists}
use Rattle.paris_code.specs.Shapes.{SetShape, bits_at, extents_at, shape_of, shapes_of}
use Rattle.paris_code.specs.Sound.{IsShape, IsSound, field_of}
use Rattle.source_meaning.specs.Programs.{extents_of}
use Rattle.vp_sets.specs.Positions.{are_positive, coordinate, coordinates, position_count, is_geometry, positions_fit}
use Rattle.std.proofs.lemmas.Bool.Decides.{nat_tests}
use Rattle.vp_sets.proofs.PositionLaws.{extent_bound, geometry_parts, later_count, later_positive}
use Rattle.phase_meaning.proofs.Alike.{coordinate_below}
use Rattle.code_follows.proofs.Standing.{some_same}
use Rattle.fields_follow.specs.Fields.{IsElement, field_or_none, file_field, file_number, positions_of}

-- two runs of bits of sets have none in common
abbrev pub Apart : Field → Field → Type 0
Apart f g = (f.set ≢ g.set) ⊎ ((f.offset + f.len ≤ g.offset) ⊎ (g.offset + g.len ≤ f.offset))

pub apart_back : (f g : Field) → Apart f g → Apart g f
apart_back f g (inl differ) = inl (λ e. differ (sym e))
apart_back f g (inr (inl below)) = inr (inr below)
apart_back f g (inr (inr above)) = inr (inl above)

-- ---- the numbers of the fields

pub front : {A : Type 0} (xs ys : List A) (n : ℕ) (x : A) → slice_get xs n ≡ Some x → slice_get (xs ++ ys) n ≡ Some x
front [] ys n x e = cc
front (y ∷ xs) ys zero x e = e
front (y ∷ xs) ys (suc n) x e = front xs ys n x e

back : {A : Type 0} (xs ys : List A) (n : ℕ) → slice_get (xs ++ ys) (length xs + n) ≡ slice_get ys n
back [] ys n = ap (λ (k : ℕ). slice_get ys k) (let k : 0 + n ≡ n = omega arith in k)
back (x ∷ xs) ys n = ap (λ (k : ℕ). slice_get (x ∷ (xs ++ ys)) k) (let k : suc (length xs) + n ≡ suc (length xs + n) = omega arith in k) ∙ back xs ys n

-- a final is one of a variable's, of a set
pub record IsFinalOf (info : VarInfo) (set : ℕ) (last : Final) : Type 0 where
  pub set_is : last.field.set ≡ set
  pub len_is : last.field.len ≡ info.elem.bits

-- the final at a place of a list
pub record HasFinal (finals : List Final) (place : ℕ) (info : VarInfo) (set : ℕ) : Type 0 where
  pub last : Final
  pub there : slice_get finals place ≡ Some last
  pub of : IsFinalOf info set last

element_there : (info : VarInfo) (set left element number e : ℕ) → e < left → HasFinal (element_finals info set left element number) e info set
unfolding element_finals final_of
element_there info set zero element number e below = absurd (omega arith)
element_there info set (suc left) element number zero below = record { last = final_of info set element number; there = refl; of = record { set_is = refl; len_is = refl } }
element_there info set (suc left) element number (suc e) below =
    let rest = element_there info set left (element + 1) (number + 1) e (omega arith) in record { last = rest.last; there = rest.there; of = rest.of }

elements_long : (info : VarInfo) (set left element number : ℕ) → length (element_finals info set left element number) ≡ left
unfolding element_finals
elements_long info set zero element number = refl
elements_long info set (suc left) element number = ap suc (elements_long info set left (element + 1) (number + 1))

variable_long : (info : VarInfo) (number : ℕ) → length (variable_finals info number) ≡ entries_of info
unfolding variable_finals entries_of
variable_long info number = by info.shape refl
  where
    by : (o : Option ℕ) → info.shape ≡ o → length (variable_finals info number) ≡ entries_of info
    by None same =
        ap (λ (o : Option ℕ). length (elim o as (λ _. List Final) [ None ↦ [] | Some s ↦ element_finals info s (entries_of info) 0 number ])) same
        ∙ sym (ap (λ (o : Option ℕ). elim o as (λ _. ℕ) [ None ↦ 0 | Some s ↦ elim info.array as (λ _. ℕ) [ None ↦ 1 | Some n ↦ n ] ]) same)
    by (Some s) same =
        ap (λ (o : Option ℕ). length (elim o as (λ _. List Final) [ None ↦ [] | Some s ↦ element_finals info s (entries_of info) 0 number ])) same
        ∙ elements_long info s (entries_of info) 0 number

-- the final of an element, and its place
record HasPlace (infos : List VarInfo) (number k : ℕ) (info : VarInfo) (set e : ℕ) : Type 0 where
  pub place : ℕ
  pub there : HasFinal (finals_of infos number) place info set
  pub is : slice_index (first_fields number infos) k + e ≡ number + place

final_placed : (infos : List VarInfo) (number k : ℕ) (info : VarInfo) (set e : ℕ) → slice_get infos k ≡ Some info → info.shape ≡ Some set → e < entries_of info → HasPlace infos number k info set e
unfolding finals_of first_fields variable_finals
final_placed [] number k info set e known parallel within = cc
final_placed (i ∷ infos) number zero info set e known parallel within =
    let same : i ≡ info = some_same i info known in
    let one = element_there info set (entries_of info) 0 number e within in
    let own : variable_finals i number ≡ element_finals info set (entries_of info) 0 number =
    ap (λ (v : VarInfo). variable_finals v number) same
    ∙ ap (λ (o : Option ℕ). elim o as (λ _. List Final) [ None ↦ [] | Some s ↦ element_finals info s (entries_of info) 0 number ]) parallel in
    record {
      place = e;
      there = record { last = one.last; there = front (variable_finals i number) (finals_of infos (number + entries_of i)) e one.last (ap (λ (xs : List Final). slice_get xs e) own ∙ one.there); of = one.of };
      is = refl;
    }
final_placed (i ∷ infos) number (suc k) info set e known parallel within =
    let rest = final_placed infos (number + entries_of i) k info set e known parallel within in
    let long = variable_long i number in
    let is = rest.is in
    record {
      place = entries_of i + rest.place;
      there = record {
        last = rest.there.last;
        there =
            ap (λ (n : ℕ). slice_get (variable_finals i number ++ finals_of infos (number + entries_of i)) (n + rest.place)) (sym long)
            ∙ back (variable_finals i number) (finals_of infos (number + entries_of i)) rest.place ∙ rest.there.there;
        of = rest.there.of;
      };
      is = omega (arith, is);
    }

pub first_there : (next : ℕ) (infos : List VarInfo) (k : ℕ) (info : VarInfo) → slice_get infos k ≡ Some info → slice_get (first_fields next infos) k ≡ Some (slice_index (first_fields next infos) k)
unfolding first_fields
first_there next [] k info known = cc
first_there next (i ∷ infos) zero info known = refl
first_there next (i ∷ infos) (suc k) info known = first_there (next + entries_of i) infos k info known

first_low : (next : ℕ) (infos : List VarInfo) (k : ℕ) (info : VarInfo) → slice_get infos k ≡ Some info → next ≤ slice_index (first_fields next infos) k
unfolding first_fields
first_low next [] k info known = cc
first_low next (i ∷ infos) zero info known = omega arith
first_low next (i ∷ infos) (suc k) info known = let rest = first_low (next + entries_of i) infos k info known in omega (arith, rest)

-- the fields of a variable end where those of a later one begin, or before
in_order : (next : ℕ) (infos : List VarInfo) (j k : ℕ) (a b : VarInfo) → j < k → slice_get infos j ≡ Some a → slice_get infos k ≡ Some b → slice_index (first_fields next infos) j + entries_of a ≤ slice_index (first_fields next infos) k
unfolding first_fields
in_order next [] j k a b before known other = cc
in_order next (i ∷ infos) j zero a b before known other = absurd (omega arith)
in_order next (i ∷ infos) zero (suc k) a b before known other =
    subst (λ (v : VarInfo). next + entries_of v ≤ slice_index (first_fields (next + entries_of i) infos) k) (some_same i a known) (first_low (next + entries_of i) infos k b other)
in_order next (i ∷ infos) (suc j) (suc k) a b before known other = in_order (next + entries_of i) infos j k a b (omega arith) known other

-- ---- the sets of an image

fitted_long : (fields : List Field) (n : ℕ) (shapes : List ShapeBits) → length (map shape_of (fitted_from fields n shapes)) ≡ length shapes
unfolding fitted_from
fitted_long fields n [] = refl
fitted_long fields n (s ∷ shapes) = ap suc (fitted_long fields (n + 1) shapes)

fitted_extents : (fields : List Field) (n : ℕ) (shapes : List ShapeBits) (set : ℕ) → extents_at (map shape_of (fitted_from fields n shapes)) set ≡ extents_at (map shape_of shapes) set
unfolding fitted_from
fitted_extents fields n [] set = refl
fitted_extents fields n (s ∷ shapes) zero = refl
fitted_extents fields n (s ∷ shapes) (suc set) = fitted_extents fields (n + 1) shapes set

no_space : Space
no_space = record { extents = []; bits = 0 }

space_extents : (shapes : List ShapeBits) (set : ℕ) → extents_at (map shape_of shapes) set ≡ (slice_index_or (map space shapes) set no_space).extents
unfolding space no_space
space_extents [] set = refl
space_extents (s ∷ shapes) zero = refl
space_extents (s ∷ shapes) (suc set) = space_extents shapes set

spaces_extents : (infos : List ShapeInfo) (needs : List ℕ) (set : ℕ) → set < length (spaces_of infos needs) → (slice_index_or (spaces_of infos needs) set no_space).extents ≡ extents_of (slice_get infos set)
unfolding spaces_of extents_of
spaces_extents [] needs set below = absurd (omega arith)
spaces_extents (i ∷ infos) [] set below = absurd (omega arith)
spaces_extents (i ∷ infos) (need ∷ needs) zero below = refl
spaces_extents (i ∷ infos) (need ∷ needs) (suc set) below = spaces_extents infos needs set (omega arith)

map_long : {A B : Type 0} (f : A → B) (xs : List A) → length (map f xs) ≡ length xs
map_long f [] = refl
map_long f (x ∷ xs) = ap suc (map_long f xs)

-- ---- the finals over bits

zipped : {A B : Type 0} (R : A → B → Type 0) (xs : List A) (ys : List B) (n : ℕ) (x : A) → AllZip R xs ys → slice_get xs n ≡ Some x → (y : B) × ((slice_get ys n ≡ Some y) × R x y)
zipped R [] ys n x z e = cc
zipped R (a ∷ xs) [] n x z e = absurd z
zipped R (a ∷ xs) (b ∷ ys) zero x z e = (b, (refl, subst (λ (c : _). R c b) (some_same a x e) z.0))
zipped R (a ∷ xs) (b ∷ ys) (suc n) x z e = zipped R xs ys n x z.1 e

-- ---- what is said of a program

-- a program is lowered, placed and linked, and its image keeps the image rules
pub record IsTranslated (t : Typed) (words : List ℕ) (before after : Program) (image : Image) : Type 0 where
  pub lowered : IsLoweredWith t words before
  pub over : IsOverBits before after
  pub linked : IsLinked after image
  pub sound : IsSound image

pub translated : (t : Typed) (image : Image) (c : IsCompiled t image) → IsSound image → IsTranslated t c.lowered.words c.before c.after image
translated t image c sound = record { lowered = c.lowered.as_described; over = c.placed; linked = c.linked; sound = sound }

-- what the memory begins with, but for the winner
abbrev AreFresh : List SetShape → BitMemory → Type 0
AreFresh shapes m = (set position index : ℕ) → set < length shapes → position < processors shapes set → index < bits_at shapes set + 2 → m.bit set position index ≡ (fresh_memory shapes).bit set position index

zero_run : (bits : ℕ → ℕ) (offset n : ℕ) → ((j : ℕ) → j < n → bits (offset + j) ≡ 0) → run_number bits offset n ≡ 0
unfolding run_number
zero_run bits offset zero none = refl
zero_run bits offset (suc n) none =
    let rest : run_number bits offset n ≡ 0 = zero_run bits offset n (λ j below. none j (omega arith)) in
    ap (λ (x : ℕ). x + 2 ^ n * bits (offset + n)) rest ∙ ap (λ (x : ℕ). 0 + 2 ^ n * x) (none n (omega arith)) ∙ (let k : 0 + 2 ^ n * 0 ≡ 0 = omega arith in k)

fresh_below : (shapes : List SetShape) (set position index : ℕ) → index < bits_at shapes set → (fresh_memory shapes).bit set position index ≡ 0
unfolding fresh_memory
fresh_below shapes set position index below = by (index == bits_at shapes set) refl
  where
    by : (b : Bool) → (index == bits_at shapes set) ≡ b → ◌≡◌ {A = ℕ} (if b then 1 else 0) 0
    by true e = let k : index ≡ bits_at shapes set = eqb-true index (bits_at shapes set) e in absurd (omega (arith, k, below))
    by false e = refl

fresh_context : (shapes : List SetShape) (set position : ℕ) → (fresh_memory shapes).bit set position (bits_at shapes set) ≡ 1
unfolding fresh_memory
fresh_context shapes set position = grind arith

-- every position is active at first
pub fresh_active : (shapes : List SetShape) (m : BitMemory) (set p : ℕ) → AreFresh shapes m → set < length shapes → p < processors shapes set → is_active shapes m set p ≡ true
unfolding is_active
fresh_active shapes m set p fresh within below = ap (λ (n : ℕ). n == 1) (fresh set p (bits_at shapes set) within below (omega arith) ∙ fresh_context shapes set p)

-- a bit below the flags is 0 at first, and so is a field of them
pub fresh_bit : (shapes : List SetShape) (m : BitMemory) (set p index : ℕ) → AreFresh shapes m → set < length shapes → p < processors shapes set → index < bits_at shapes set → m.bit set p index ≡ 0
fresh_bit shapes m set p index fresh within below low = fresh set p index within below (omega (arith, low)) ∙ fresh_below shapes set p index low

fresh_zero : (shapes : List SetShape) (m : BitMemory) (f : Field) (p : ℕ) → AreFresh shapes m → f.set < length shapes → f.offset + f.len ≤ bits_at shapes f.set → p < processors shapes f.set → field_number m f p ≡ 0
unfolding field_number
fresh_zero shapes m f p fresh within ends below =
    zero_run (m.bit f.set p) f.offset f.len (λ j inside. fresh f.set p (f.offset + j) within below (omega arith) ∙ fresh_below shapes f.set p (f.offset + j) (omega arith))

geometry_fits : (xs : List ℕ) → is_geometry xs ≡ true → positions_fit xs ≡ true
unfolding is_geometry
geometry_fits xs is = grind (arith, nat_tests, is)

-- each shape is a grid of few positions
geometry_at : (shapes : List SetShape) (set : ℕ) → All IsShape shapes → set < length shapes → is_geometry (extents_at shapes set) ≡ true
geometry_at [] set all exists = absurd (omega (arith, exists))
geometry_at (x ∷ shapes) zero all exists = (all 0 x (omega arith)).0
geometry_at (x ∷ shapes) (suc set) all exists = geometry_at shapes set (λ k d below. all (suc k) d (omega (arith, below))) (omega (arith, exists))

-- a coordinate is below the number of positions, beyond them too
coordinate_most : (xs : List ℕ) (n axis : ℕ) → are_positive xs ≡ true → coordinate xs n axis < position_count xs
unfolding coordinate coordinates position_count
coordinate_most [] n axis positive = omega arith
coordinate_most (x ∷ xs) n zero positive =
    let low : coordinate (x ∷ xs) n zero < x = coordinate_below (x ∷ xs) n zero positive (omega arith) in let high : x ≤ position_count (x ∷ xs) = extent_bound (x ∷ xs) zero positive (omega arith) in omega (arith, low, high)
coordinate_most (x ∷ xs) n (suc axis) positive = let rest = coordinate_most xs n axis (later_positive 1 (x ∷ xs) positive) in let more : position_count xs ≤ position_count (x ∷ xs) = later_count 1 (x ∷ xs) positive in omega (arith, rest, more)

-- so each is a word
few_at : (shapes : List SetShape) (set n axis : ℕ) → All IsShape shapes → coordinate (extents_at shapes set) n axis < 2 ^ 32
unfolding coordinate coordinates
few_at [] set n axis all = omega arith
few_at (x ∷ shapes) zero n axis all =
    let fits = geometry_parts x.extents (all 0 x (omega arith)).0 in let low = coordinate_most x.extents n axis fits.2 in let few = fits.3 in omega (arith, low, few)
few_at (x ∷ shapes) (suc set) n axis all = few_at shapes set n axis (λ k d below. all (suc k) d (omega (arith, below)))

module _ (t : Typed) (words : List ℕ) (before after : Program) (image : Image) (c : IsTranslated t words before after image) where
  -- as many sets as before placing
  pub sets_long : length (shapes_of image) ≡ length before.shapes.items
  sets_long =
      ap (λ (xs : List ShapeBits). length (map shape_of xs)) c.linked.shapes ∙ fitted_long _ 0 after.shapes.items ∙ ap (λ (v : _). length v.items) c.over.shapes

  -- a set of the image has the extents of its shape
  pub extents_are : (set : ℕ) → set < length (shapes_of image) → extents_at (shapes_of image) set ≡ extents_of (slice_get t.shapes.items set)
  extents_are set within =
      ap (λ (xs : List ShapeBits). extents_at (map shape_of xs) set) c.linked.shapes ∙ fitted_extents _ 0 after.shapes.items set
      ∙ ap (λ (v : _). extents_at (map shape_of v.items) set) c.over.shapes ∙ space_extents before.shapes.items set
      ∙ ap (λ (xs : List Space). (slice_index_or xs set no_space).extents) c.lowered.shapes ∙ spaces_extents t.shapes.items t.need.items set below
    where
      below : set < length (spaces_of t.shapes.items t.need.items)
      below = let a = sets_long in let b = map_long space before.shapes.items in let d : length (map space before.shapes.items) ≡ length (spaces_of t.shapes.items t.need.items) = ap length c.lowered.shapes in omega (arith, a, b, d, within)

  -- and as many processors as its shape has positions
  pub processors_of : (set : ℕ) → set < length (shapes_of image) → processors (shapes_of image) set ≡ positions_of t set
  processors_of set within = ap position_count (extents_are set within)

  pub few_coordinates : (set axis p : ℕ) → coordinate (extents_at (shapes_of image) set) p axis < 2 ^ 32
  few_coordinates set axis p = few_at (shapes_of image) set p axis c.sound.shapes.1

  pub grid_geometry : (set : ℕ) → set < length (shapes_of image) → is_geometry (extents_at (shapes_of image) set) ≡ true
  grid_geometry set exists = geometry_at (shapes_of image) set c.sound.shapes.1 exists

  pub grid_fits : (set : ℕ) → set < length (shapes_of image) → positions_fit (extents_at (shapes_of image) set) ≡ true
  grid_fits set exists = geometry_fits (extents_at (shapes_of image) set) (grid_geometry set exists)

  -- the final of an element
  pub final_there : (k : ℕ) (info : VarInfo) (set e : ℕ) → IsElement t k info set e → HasFinal image.finals.items (file_number t k e) info set
  final_there k info set e is =
      let found = final_placed t.vars.items 0 k info set e is.known is.parallel is.within in
      let place : file_number t k e ≡ found.place = found.is ∙ (let z : 0 + found.place ≡ found.place = omega arith in z) in
      let over = zipped IsPlacedFinal before.finals.items after.finals.items found.place found.there.last c.over.placed.finals (ap (λ (xs : List Final). slice_get xs found.place) c.lowered.finals ∙ found.there.there) in
      record {
        last = over.0;
        there = ap (λ (n : ℕ). slice_get image.finals.items n) place ∙ ap (λ (v : _). slice_get v.items found.place) c.linked.finals ∙ over.1.0;
        of = record { set_is = over.1.1.2 ∙ found.there.of.set_is; len_is = over.1.1.3 ∙ found.there.of.len_is };
      }

  pub same_final : (k e : ℕ) (last : Final) → slice_get image.finals.items (file_number t k e) ≡ Some last → file_field t image k e ≡ last.field
  unfolding file_field field_or_none
  same_final k e last is = ap field_or_none is

  -- its set and its length
  pub file_set : (k : ℕ) (info : VarInfo) (set e : ℕ) → IsElement t k info set e → (file_field t image k e).set ≡ set
  file_set k info set e is = let f = final_there k info set e is in ap (λ (x : Field). x.set) (same_final k e f.last f.there) ∙ f.of.set_is

  final_fits : (n : ℕ) (last : Final) → slice_get image.finals.items n ≡ Some last → FieldExists (shapes_of image) last.field × Fits (shapes_of image) last.field
  final_fits n last is = all_at (λ f. FieldExists (shapes_of image) (field_of f) × Fits (shapes_of image) (field_of f)) image.finals.items n last c.sound.finals is

  -- its set is one of the image, and it ends below the flags of that
  pub file_exists : (k : ℕ) (info : VarInfo) (set e : ℕ) → IsElement t k info set e → set < length (shapes_of image)
  file_exists k info set e is = let f = final_there k info set e is in subst (λ (s : ℕ). s < length (shapes_of image)) f.of.set_is (final_fits (file_number t k e) f.last f.there).0

  pub file_ends : (k : ℕ) (info : VarInfo) (set e : ℕ) → IsElement t k info set e → (file_field t image k e).offset + (file_field t image k e).len ≤ bits_at (shapes_of image) (file_field t image k e).set
  file_ends k info set e is =
      let f = final_there k info set e is in
      let fits = final_fits (file_number t k e) f.last f.there in
      subst (λ (x : Field). x.offset + x.len ≤ bits_at (shapes_of image) x.set) (sym (same_final k e f.last f.there)) (fits.1 fits.0).2

  stacked : (k e j d : ℕ) (last other : Final) → slice_get image.finals.items (file_number t k e) ≡ Some last → slice_get image.finals.items (file_number t j d) ≡ Some other → file_number t k e < file_number t j d → last.field.set ≡ other.field.set → last.field.offset + last.field.len ≤ other.field.offset
  stacked k e j d last other is also before_it same =
      c.over.placed.finals_apart (file_number t k e) (file_number t j d) last other before_it (ap (λ (v : _). slice_get v.items (file_number t k e)) (sym c.linked.finals) ∙ is) (ap (λ (v : _). slice_get v.items (file_number t j d)) (sym c.linked.finals) ∙ also) same
      (let long = sets_long in let low : other.field.set < length (shapes_of image) = (final_fits (file_number t j d) other also).0 in omega (arith, long, low))

  -- an element has one number, and no other has it
  one_number : (k : ℕ) (info : VarInfo) (set e j : ℕ) (other : VarInfo) (also d : ℕ) → IsElement t k info set e → IsElement t j other also d → file_number t k e ≡ file_number t j d → (k ≡ j) × (e ≡ d)
  one_number k info set e j other also d one two same = by (cases_lt k j) (cases_lt j k)
    where
      by : (k < j) ⊎ (j ≤ k) → (j < k) ⊎ (k ≤ j) → (k ≡ j) × (e ≡ d)
      by (inl less) _ = let order = in_order 0 t.vars.items k j info other less one.known two.known in let below = one.within in absurd (omega (arith, order, below, same))
      by (inr least) (inl more) = let order = in_order 0 t.vars.items j k other info more two.known one.known in let below = two.within in absurd (omega (arith, order, below, same))
      by (inr least) (inr most) =
          let is : k ≡ j = omega (arith, least, most) in
          let first : slice_index (first_fields 0 t.vars.items) k ≡ slice_index (first_fields 0 t.vars.items) j = ap (λ (n : ℕ). slice_index (first_fields 0 t.vars.items) n) is in
          (is, omega (arith, first, same))

  -- the fields of two elements are apart
  pub files_apart : (k : ℕ) (info : VarInfo) (set e j : ℕ) (other : VarInfo) (also d : ℕ) → IsElement t k info set e → IsElement t j other also d → (k ≡ j → e ≡ d → ⊥) → Apart (file_field t image k e) (file_field t image j d)
  files_apart k info set e j other also d one two differ =
      let f = final_there k info set e one in
      let g = final_there j other also d two in
      subst (λ (x : Field). Apart x (file_field t image j d)) (sym (same_final k e f.last f.there))
      (subst (λ (x : Field). Apart f.last.field x) (sym (same_final j d g.last g.there)) (by f.last g.last f.there g.there (cases_eq f.last.field.set g.last.field.set) (cases_lt (file_number t k e) (file_number t j d)) (cases_lt (file_number t j d) (file_number t k e))))
    where
      by : (last final : Final) → slice_get image.finals.items (file_number t k e) ≡ Some last → slice_get image.finals.items (file_number t j d) ≡ Some final → (last.field.set ≡ final.field.set) ⊎ (last.field.set ≢ final.field.set)
          → (file_number t k e < file_number t j d) ⊎ (file_number t j d ≤ file_number t k e) → (file_number t j d < file_number t k e) ⊎ (file_number t k e ≤ file_number t j d) → Apart last.field final.field
      by last final is there (inr sets) _ _ = inl sets
      by last final is there (inl same) (inl less) _ = inr (inl (stacked k e j d last final is there less same))
      by last final is there (inl same) (inr least) (inl more) = inr (inr (stacked j d k e final last there is more (sym same)))
      by last final is there (inl same) (inr least) (inr most) = let same_one = one_number k info set e j other also d one two (omega (arith, least, most)) in absurd (differ same_one.0 same_one.1)

  -- a field of the file holds 0 at first
  pub fresh_file : (m : BitMemory) (k : ℕ) (info : VarInfo) (set e p : ℕ) → AreFresh (shapes_of image) m → IsElement t k info set e → p < processors (shapes_of image) set → field_number m (file_field t image k e) p ≡ 0
  fresh_file m k info set e p fresh is below =
      let of : (file_field t image k e).set ≡ set = file_set k info set e is in
      fresh_zero (shapes_of image) m (file_field t image k e) p fresh (subst (λ (s : ℕ). s < length (shapes_of image)) (sym of) (file_exists k info set e is)) (file_ends k info set e is) (subst (λ (s : ℕ). p < processors (shapes_of image) s) (sym of) below)
