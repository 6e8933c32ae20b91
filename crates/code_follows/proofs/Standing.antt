-- The code of a unit stands in the image of the placed and linked program, over bits.
use Rattle.std.proofs.Common.{◌≡◌, ℕ, suc, zero, ◌+◌, List, [], ◌∷◌, ◌++◌, length, map, slice_get, Option, Some, None, refl, sym, ap, ◌∙◌, subst, arith}
use Rattle.std.specs.List.{slice_index_or, AllZip}
use Rattle.paris_code.specs.declared.instr.Instr.{Instr}
use Rattle.paris_code.specs.declared.instr.Instr.TheVariants as I
use Rattle.paris_code.specs.declared.program.Unit.{Unit as CodeUnit}
use Rattle.paris_code.specs.declared.program.Program.{Program}
use Rattle.paris_code.specs.declared.program.Image.{Image}
use Rattle.paris_code.specs.Proper.{IsUnit}
use Rattle.paris_code.specs.Spans.{StandsAt}
use Rattle.cstar_link.specs.Linked.{moved_by, code_from}
use Rattle.field_alloc.specs.Placed.{IsPlaced, IsPlacedUnit, ArePlacedUnits}
use Rattle.lower_base.specs.Drafts.{Step, Plain, step as step_of}
use Rattle.paris_code.specs.Moving.{IsMoved, moved_instr}

-- the instruction of a plain step
plain_of : Instr → Step → Instr
plain_of d (Plain i) = i
plain_of d _ = d

plain_same : (i j : Instr) → step_of i ≡ Plain j → i ≡ j
unfolding step_of plain_of
plain_same (I.MakeAddress dest set coordinates) j e = cc
plain_same (I.CheckTarget set place coordinates) j e = cc
plain_same (I.CheckGrid set place steps) j e = cc
plain_same (I.FrontMakeAddress dest set coordinates) j e = cc
plain_same (I.FrontCheckTarget set place coordinates) j e = cc
plain_same i j e = ap (plain_of i) e

placed_plain : (p : List ℕ) (i j over : Instr) → step_of i ≡ Plain j → IsMoved p i over → over ≡ moved_instr p i
unfolding step_of
placed_plain p (I.MakeAddress dest set coordinates) j over e h = cc
placed_plain p (I.CheckTarget set place coordinates) j over e h = cc
placed_plain p _ j over e h = h

pub some_same : {A : Type 0} (x y : A) → Some x ≡ Some y → x ≡ y
some_same {A = A} x y e = ap (λ (o : Option A). elim o as (λ _. A) [ None ↦ x | Some z ↦ z ]) e

-- a step of the description is that of the instruction there
step_there : (code : List Instr) (at : ℕ) (next : Step) → slice_get (map step_of code) at ≡ Some next → (i : Instr) × ((slice_get code at ≡ Some i) × (step_of i ≡ next))
step_there [] at next e = cc
step_there (i ∷ code) zero next e = (i, (refl, some_same (step_of i) next e))
step_there (i ∷ code) (suc at) next e = step_there code at next e

-- the same instruction over bits
zip_there : (p : List ℕ) (code over : List Instr) (at : ℕ) (i : Instr) → AllZip (IsMoved p) code over → slice_get code at ≡ Some i → (o : Instr) × ((slice_get over at ≡ Some o) × IsMoved p i o)
zip_there p [] over at i z e = cc
zip_there p (x ∷ code) [] at i z e = absurd z
zip_there p (x ∷ code) (o ∷ over) zero i z e = (o, (refl, subst (λ (y : Instr). IsMoved p y o) (some_same x i e) z.0))
zip_there p (x ∷ code) (o ∷ over) (suc at) i z e = zip_there p code over at i z.1 e

-- the same unit over bits
pub unit_there : (places : List (List ℕ)) (first : ℕ) (units overs : List CodeUnit) (number : ℕ) (unit : CodeUnit) → ArePlacedUnits places first units overs → slice_get units number ≡ Some unit →
    (over : CodeUnit) × ((slice_get overs number ≡ Some over) × IsPlacedUnit (slice_index_or places (first + number) []) unit over)
unfolding ArePlacedUnits
unit_there places first [] overs number unit h e = cc
unit_there places first (u ∷ us) [] number unit h e = absurd h
unit_there places first (u ∷ us) (o ∷ os) zero unit h e =
    (o, (refl, subst (λ (n : ℕ). IsPlacedUnit (slice_index_or places n []) unit o) (nothing first) (subst (λ (v : CodeUnit). IsPlacedUnit (slice_index_or places first []) v o) (some_same u unit e) h.0)))
  where
    nothing : (n : ℕ) → n ≡ n + 0
    nothing n = omega arith
unit_there places first (u ∷ us) (o ∷ os) (suc number) unit h e =
    let rest = unit_there places (first + 1) us os number unit h.1 e in
    (rest.0, (rest.1.0, subst (λ (n : ℕ). IsPlacedUnit (slice_index_or places n []) unit rest.0) (next first number) rest.1.1))
  where
    next : (n m : ℕ) → (n + 1) + m ≡ n + suc m
    next n m = omega arith

-- where a unit begins in the code of all
unfoldable pub start_in : List CodeUnit → ℕ → ℕ → ℕ
start_in [] number start = start
start_in (u ∷ us) zero start = start
start_in (u ∷ us) (suc number) start = start_in us number (start + length u.code.items)

get_front : (xs ys : List Instr) (n : ℕ) (x : Instr) → slice_get xs n ≡ Some x → slice_get (xs ++ ys) n ≡ Some x
get_front [] ys n x e = cc
get_front (y ∷ xs) ys zero x e = e
get_front (y ∷ xs) ys (suc n) x e = get_front xs ys n x e

get_behind : (xs ys : List Instr) (n : ℕ) → slice_get (xs ++ ys) (length xs + n) ≡ slice_get ys n
get_behind [] ys n = ap (λ (k : ℕ). slice_get ys k) (nothing n)
  where
    nothing : (n : ℕ) → 0 + n ≡ n
    nothing n = omega arith
get_behind (x ∷ xs) ys n = ap (λ (k : ℕ). slice_get (x ∷ (xs ++ ys)) k) (one_more (length xs) n) ∙ get_behind xs ys n
  where
    one_more : (m n : ℕ) → suc m + n ≡ suc (m + n)
    one_more m n = omega arith

map_there : (f : Instr → Instr) (xs : List Instr) (n : ℕ) (x : Instr) → slice_get xs n ≡ Some x → slice_get (map f xs) n ≡ Some (f x)
map_there f [] n x e = cc
map_there f (y ∷ xs) zero x e = ap (λ (o : Option Instr). elim o as (λ _. Option Instr) [ None ↦ None | Some z ↦ Some (f z) ]) e
map_there f (y ∷ xs) (suc n) x e = map_there f xs n x e

length_map : (f : Instr → Instr) (xs : List Instr) → length (map f xs) ≡ length xs
length_map f [] = refl
length_map f (x ∷ xs) = ap suc (length_map f xs)

linked_there : (us : List CodeUnit) (number start at : ℕ) (unit : CodeUnit) (o : Instr) → slice_get us number ≡ Some unit → slice_get unit.code.items at ≡ Some o →
    (begin : ℕ) × ((start_in us number start ≡ start + begin) × (slice_get (code_from start us) (begin + at) ≡ Some (moved_by (start_in us number start) o)))
unfolding start_in code_from
linked_there [] number start at unit o e f = cc
linked_there (u ∷ us) zero start at unit o e f =
    let same : slice_get u.code.items at ≡ Some o = ap (λ (v : CodeUnit). slice_get v.code.items at) (some_same u unit e) ∙ f in
    (0, (nothing start, ap (λ (n : ℕ). slice_get (map (moved_by start) u.code.items ++ code_from (start + length u.code.items) us) n) (front at) ∙ get_front (map (moved_by start) u.code.items) (code_from (start + length u.code.items) us) at (moved_by start o) (map_there (moved_by start) u.code.items at o same)))
  where
    nothing : (n : ℕ) → n ≡ n + 0
    nothing n = omega arith

    front : (n : ℕ) → 0 + n ≡ n
    front n = omega arith
linked_there (u ∷ us) (suc number) start at unit o e f =
    let rest = linked_there us number (start + length u.code.items) at unit o e f in
    let begin : ℕ = length u.code.items + rest.0 in
    let long = length_map (moved_by start) u.code.items in (
      begin,
      (
        rest.1.0 ∙ assoc start (length u.code.items) rest.0,
        ap (λ (n : ℕ). slice_get (map (moved_by start) u.code.items ++ code_from (start + length u.code.items) us) n) (assoc2 (length u.code.items) rest.0 at ∙ ap (λ (k : ℕ). k + (rest.0 + at)) (sym long))
            ∙ get_behind (map (moved_by start) u.code.items) (code_from (start + length u.code.items) us) (rest.0 + at) ∙ rest.1.1,
      ),
    )
  where
    assoc : (a b c : ℕ) → (a + b) + c ≡ a + (b + c)
    assoc a b c = omega arith

    assoc2 : (a b c : ℕ) → (a + b) + c ≡ a + (b + c)
    assoc2 a b c = omega arith

-- An instruction of a unit at a place, whose step the description has, and the one of the image that stands for it.
pub record StandsOver (image : Image) (before after : Program) (placed : IsPlaced before after) (number : ℕ) (unit : CodeUnit) (at : ℕ) (next : Step) : Type 0 where
  pub instr : Instr
  pub over : Instr
  pub stands : StandsAt unit at instr
  pub is : step_of instr ≡ next
  pub moved : IsMoved (slice_index_or placed.places number []) instr over
  pub there : slice_get image.code.items (start_in after.units.items number 0 + at) ≡ Some (moved_by (start_in after.units.items number 0) over)

-- what a setting says of the code of its unit
pub stands_over : (image : Image) (before after : Program) (placed : IsPlaced before after) (number : ℕ) (unit : CodeUnit) → image.code.items ≡ code_from 0 after.units.items → IsUnit before number unit →
    (at : ℕ) (next : Step) → slice_get (map step_of unit.code.items) at ≡ Some next → StandsOver image before after placed number unit at next
stands_over image before after placed number unit linked is_unit at next e =
    let here = step_there unit.code.items at next e in
    let over = unit_there placed.places 0 before.units.items after.units.items number unit placed.units is_unit in
    let zip = zip_there (slice_index_or placed.places (0 + number) []) unit.code.items over.0.code.items at here.0 over.1.1.code here.1.0 in
    let there = linked_there after.units.items number 0 at over.0 zip.0 over.1.0 zip.1.0 in
    let nothing : 0 + there.0 ≡ there.0 = omega arith in
    let number_is : 0 + number ≡ number = omega arith in
    record {
      instr = here.0;
      over = zip.0;
      stands = here.1.0;
      is = here.1.1;
      moved = subst (λ (n : ℕ). IsMoved (slice_index_or placed.places n []) here.0 zip.0) number_is zip.1.1;
      there =
          ap (λ (c : List Instr). slice_get c (start_in after.units.items number 0 + at)) linked
          ∙ ap (λ (n : ℕ). slice_get (code_from 0 after.units.items) (n + at)) (there.1.0 ∙ nothing)
          ∙ there.1.1;
    }

-- where the instruction has no list of coordinates, the image has it with its fields moved
pub stands : (image : Image) (before after : Program) (placed : IsPlaced before after) (number : ℕ) (unit : CodeUnit) → image.code.items ≡ code_from 0 after.units.items → IsUnit before number unit →
    (at : ℕ) (instr : Instr) → slice_get (map step_of unit.code.items) at ≡ Some (Plain instr) →
    StandsAt unit at instr × (slice_get image.code.items (start_in after.units.items number 0 + at) ≡ Some (moved_by (start_in after.units.items number 0) (moved_instr (slice_index_or placed.places number []) instr)))
stands image before after placed number unit linked is_unit at instr e =
    let h = stands_over image before after placed number unit linked is_unit at (Plain instr) e in
    let same : h.instr ≡ instr = plain_same h.instr instr h.is in (
      h.stands ∙ ap Some same,
      h.there
          ∙ ap (λ (o : Instr). Some (moved_by (start_in after.units.items number 0) o))
          (placed_plain (slice_index_or placed.places number []) h.instr instr h.over h.is h.moved ∙ ap (λ (i : Instr). moved_instr (slice_index_or placed.places number []) i) same),
    )
