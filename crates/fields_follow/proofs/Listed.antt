-- Instructions with lists of coordinates: what stands in the unit where its description has such a step, and what the
-- image has for it.
use Rattle.std.proofs.Common.{◌≡◌, ◌∙◌, ℕ, ◌+◌, ◌<◌, ◌≤◌, List, [], length, map, slice_get, Option, Some, ap, subst, Vec, Global}
use Rattle.std.specs.List.{slice_index_or}
use Rattle.cstar_base.specs.declared.operators.Place.{Place}
use Rattle.cstar_link.specs.Linked.{moved_by}
use Rattle.lower_base.specs.Drafts.{ChecksGrid, ChecksTarget, Draft, FrontChecksTarget, FrontMakesAddress, MakesAddress, Step, step as step_of, with_instr, with_step}
use Rattle.paris_code.specs.declared.instr.Instr.{Instr}
use Rattle.paris_code.specs.declared.instr.Instr.TheVariants as I
use Rattle.paris_code.specs.declared.operands.Coordinate.{Coordinate}
use Rattle.paris_code.specs.declared.operands.Field.{Field}
use Rattle.paris_code.specs.declared.operands.GridStep.{GridStep}
use Rattle.paris_code.specs.declared.operands.RegisterCoordinate.{RegisterCoordinate}
use Rattle.paris_code.specs.declared.operands.SignedCoordinate.{SignedCoordinate}
use Rattle.paris_code.specs.declared.program.Image.{Image}
use Rattle.paris_code.specs.Code.{CodeState, begun, begun_at, step}
use Rattle.paris_code.specs.Moving.{IsMoved, moved, moved_coordinate, moved_signed}
use Rattle.paris_code.specs.Shapes.{bits_at, shapes_of}
use Rattle.paris_code.specs.Sound.{KeepsRules}
use Rattle.paris_code.specs.Spans.{StandsAt}
use Rattle.code_follows.proofs.Settings.{At, Setting, start}
use Rattle.code_follows.proofs.Standing.{StandsOver}

-- what a step that makes an address says of it
dest_of : Field → Step → Field
dest_of f (MakesAddress d set coordinates) = d
dest_of f _ = f

set_of : ℕ → Step → ℕ
set_of n (MakesAddress d set coordinates) = set
set_of n (ChecksTarget set place coordinates) = set
set_of n _ = n

made_from : List Coordinate → Step → List Coordinate
made_from cs (MakesAddress d set coordinates) = coordinates
made_from cs _ = cs

-- and one that checks a target
place_of : Place → Step → Place
place_of p (ChecksTarget set place coordinates) = place
place_of p _ = p

checked_in : List SignedCoordinate → Step → List SignedCoordinate
checked_in cs (ChecksTarget set place coordinates) = coordinates
checked_in cs _ = cs

-- the instruction that makes an address of a list of coordinates
pub record MakesIt (d : Field) (set : ℕ) (coordinates : List Coordinate) (i : Instr) : Type 0 where
  pub list : _
  pub is : i ≡ I.MakeAddress d set list
  pub items : list.items ≡ coordinates

pub record ChecksIt (set : ℕ) (place : Place) (coordinates : List SignedCoordinate) (i : Instr) : Type 0 where
  pub list : _
  pub is : i ≡ I.CheckTarget set place list
  pub items : list.items ≡ coordinates

makes_it : (d : Field) (set : ℕ) (coordinates : List Coordinate) (i : Instr) → step_of i ≡ MakesAddress d set coordinates → MakesIt d set coordinates i
unfolding step_of dest_of set_of made_from
makes_it d set coordinates (I.MakeAddress e t list) same = record {
  list = list;
  is = ap (λ (f : Field). I.MakeAddress f t list) (ap (dest_of d) same) ∙ ap (λ (n : ℕ). I.MakeAddress d n list) (ap (set_of set) same);
  items = ap (made_from coordinates) same;
}
makes_it d set coordinates (I.CheckTarget t place list) same = cc
makes_it d set coordinates (I.CheckGrid t place steps) same = cc
makes_it d set coordinates (I.FrontMakeAddress dest t list) same = cc
makes_it d set coordinates (I.FrontCheckTarget t place list) same = cc
makes_it d set coordinates i same = cc

checks_it : (set : ℕ) (place : Place) (coordinates : List SignedCoordinate) (i : Instr) → step_of i ≡ ChecksTarget set place coordinates → ChecksIt set place coordinates i
unfolding step_of set_of place_of checked_in
checks_it set place coordinates (I.CheckTarget t at list) same = record {
  list = list;
  is = ap (λ (n : ℕ). I.CheckTarget n at list) (ap (set_of set) same) ∙ ap (λ (x : Place). I.CheckTarget set x list) (ap (place_of place) same);
  items = ap (checked_in coordinates) same;
}
checks_it set place coordinates (I.MakeAddress e t list) same = cc
checks_it set place coordinates (I.CheckGrid t at steps) same = cc
checks_it set place coordinates (I.FrontMakeAddress dest t list) same = cc
checks_it set place coordinates (I.FrontCheckTarget t at list) same = cc
checks_it set place coordinates i same = cc

-- those of the front end, whose coordinates are registers
registers_made : Step → ℕ × (ℕ × List ℕ)
registers_made (FrontMakesAddress d set registers) = (d, (set, registers))
registers_made _ = (0, (0, []))

registers_checked : Place → Step → ℕ × (Place × List RegisterCoordinate)
registers_checked p (FrontChecksTarget set place registers) = (set, (place, registers))
registers_checked p _ = (0, (p, []))

front_makes : (d set : ℕ) (registers : List ℕ) (i : Instr) → step_of i ≡ FrontMakesAddress d set registers → (list : Vec ℕ Global) × ((i ≡ I.FrontMakeAddress d set list) × (list.items ≡ registers))
unfolding step_of registers_made
front_makes d set registers (I.FrontMakeAddress e t list) same =
    let parts = ap registers_made same in (list, (ap (λ (x : ℕ × (ℕ × List ℕ)). I.FrontMakeAddress x.0 x.1.0 list) parts, ap (λ (x : ℕ × (ℕ × List ℕ)). x.1.1) parts))
front_makes d set registers (I.MakeAddress e t list) same = cc
front_makes d set registers (I.CheckTarget t place list) same = cc
front_makes d set registers (I.CheckGrid t place steps) same = cc
front_makes d set registers (I.FrontCheckTarget t place list) same = cc
front_makes d set registers i same = cc

front_checks : (set : ℕ) (place : Place) (registers : List RegisterCoordinate) (i : Instr) → step_of i ≡ FrontChecksTarget set place registers → (list : Vec RegisterCoordinate Global) × ((i ≡ I.FrontCheckTarget set place list) × (list.items ≡ registers))
unfolding step_of registers_checked
front_checks set place registers (I.FrontCheckTarget t at list) same =
    let parts = ap (registers_checked place) same in
    (list, (ap (λ (x : ℕ × (Place × List RegisterCoordinate)). I.FrontCheckTarget x.0 x.1.0 list) parts, ap (λ (x : ℕ × (Place × List RegisterCoordinate)). x.1.1) parts))
front_checks set place registers (I.MakeAddress e t list) same = cc
front_checks set place registers (I.CheckTarget t at list) same = cc
front_checks set place registers (I.CheckGrid t at steps) same = cc
front_checks set place registers (I.FrontMakeAddress e t list) same = cc
front_checks set place registers i same = cc

-- and that of one that checks steps, which are numbers
grid_checked : Place → Step → ℕ × (Place × List GridStep)
grid_checked p (ChecksGrid set place steps) = (set, (place, steps))
grid_checked p _ = (0, (p, []))

checks_grid : (set : ℕ) (place : Place) (steps : List GridStep) (i : Instr) → step_of i ≡ ChecksGrid set place steps → (list : Vec GridStep Global) × ((i ≡ I.CheckGrid set place list) × (list.items ≡ steps))
unfolding step_of grid_checked
checks_grid set place steps (I.CheckGrid t at list) same =
    let parts = ap (grid_checked place) same in
    (list, (ap (λ (x : ℕ × (Place × List GridStep)). I.CheckGrid x.0 x.1.0 list) parts, ap (λ (x : ℕ × (Place × List GridStep)). x.1.1) parts))
checks_grid set place steps (I.MakeAddress e t list) same = cc
checks_grid set place steps (I.CheckTarget t at list) same = cc
checks_grid set place steps (I.FrontMakeAddress dest t list) same = cc
checks_grid set place steps (I.FrontCheckTarget t at list) same = cc
checks_grid set place steps i same = cc

-- the same with the fields moved
made_over : (p : List ℕ) (d : Field) (set : ℕ) (list : _) (over : Instr) → IsMoved p (I.MakeAddress d set list) over → MakesIt (moved p d) set (map (moved_coordinate p) list.items) over
made_over p d set list (I.MakeAddress e t other) is = record {
  list = other;
  is = ap (λ (f : Field). I.MakeAddress f t other) is.0 ∙ ap (λ (n : ℕ). I.MakeAddress (moved p d) n other) is.1;
  items = is.2;
}
made_over p d set list _ is = absurd is

checked_over : (p : List ℕ) (set : ℕ) (place : Place) (list : _) (over : Instr) → IsMoved p (I.CheckTarget set place list) over → ChecksIt set place (map (moved_signed p) list.items) over
checked_over p set place list (I.CheckTarget t at other) is = record {
  list = other;
  is = ap (λ (n : ℕ). I.CheckTarget n at other) is.0 ∙ ap (λ (x : Place). I.CheckTarget set x other) is.1;
  items = is.2;
}
checked_over p set place list _ is = absurd is

-- what such an instruction of an image names first ends below the flags of its set
pub address_fits : (image : Image) (at : ℕ) (d : Field) (set : ℕ) (list : _) → KeepsRules image at (I.MakeAddress d set list) → (d.set < length (shapes_of image)) × (d.offset + d.len ≤ bits_at (shapes_of image) d.set)
address_fits image at d set list rules = (rules.set.0, (rules.field.0 rules.set.0).2)

module _ (g : Setting) where
  abbrev pub places : List ℕ
  places = slice_index_or g.placed.places g.number []

  -- the instruction of a step stands at the place of the unit, and another for it in the image
  abbrev pub Stands : ℕ → Step → Type 0
  Stands at next = StandsOver g.image g.before g.after g.placed g.number g.unit at next

  -- that of a step that makes an address
  pub record AddressStands (at : ℕ) (d : Field) (set : ℕ) (coordinates : List Coordinate) : Type 0 where
    pub list : _
    pub there : StandsAt g.unit at (I.MakeAddress d set list)
    pub items : list.items ≡ coordinates
    pub over : _
    pub moved_there : slice_get g.image.code.items (start g + at) ≡ Some (I.MakeAddress (moved places d) set over)
    pub moved_items : over.items ≡ map (moved_coordinate places) coordinates

  pub address_stands : (at : ℕ) (d : Field) (set : ℕ) (coordinates : List Coordinate) → Stands at (MakesAddress d set coordinates) → AddressStands at d set coordinates
  address_stands at d set coordinates h =
      let own = makes_it d set coordinates h.instr h.is in
      let other = made_over places d set own.list h.over (subst (λ (i : Instr). IsMoved places i h.over) own.is h.moved) in
      record {
        list = own.list;
        there = h.stands ∙ ap Some own.is;
        items = own.items;
        over = other.list;
        moved_there = h.there ∙ ap (λ (i : Instr). Some (moved_by (start g) i)) other.is;
        moved_items = other.items ∙ ap (map (moved_coordinate places)) own.items;
      }

  -- and that of one that checks a target
  pub record TargetStands (at set : ℕ) (place : Place) (coordinates : List SignedCoordinate) : Type 0 where
    pub list : _
    pub there : StandsAt g.unit at (I.CheckTarget set place list)
    pub items : list.items ≡ coordinates
    pub over : _
    pub moved_there : slice_get g.image.code.items (start g + at) ≡ Some (I.CheckTarget set place over)
    pub moved_items : over.items ≡ map (moved_signed places) coordinates

  pub target_stands : (at set : ℕ) (place : Place) (coordinates : List SignedCoordinate) → Stands at (ChecksTarget set place coordinates) → TargetStands at set place coordinates
  target_stands at set place coordinates h =
      let own = checks_it set place coordinates h.instr h.is in
      let other = checked_over places set place own.list h.over (subst (λ (i : Instr). IsMoved places i h.over) own.is h.moved) in
      record {
        list = own.list;
        there = h.stands ∙ ap Some own.is;
        items = own.items;
        over = other.list;
        moved_there = h.there ∙ ap (λ (i : Instr). Some (moved_by (start g) i)) other.is;
        moved_items = other.items ∙ ap (map (moved_signed places)) own.items;
      }

  -- those of the front end are in the image as they are
  pub front_make_stands : (at d set : ℕ) (registers : List ℕ) → Stands at (FrontMakesAddress d set registers) → (list : Vec ℕ Global) × ((list.items ≡ registers) × (slice_get g.image.code.items (start g + at) ≡ Some (I.FrontMakeAddress d set list)))
  front_make_stands at d set registers h =
      let own = front_makes d set registers h.instr h.is in (own.0, (own.1.1, h.there ∙ ap (λ (i : Instr). Some (moved_by (start g) i)) (subst (λ (i : Instr). IsMoved places i h.over) own.1.0 h.moved)))

  pub front_check_stands : (at set : ℕ) (place : Place) (registers : List RegisterCoordinate) → Stands at (FrontChecksTarget set place registers) → (list : Vec RegisterCoordinate Global) × ((list.items ≡ registers) × (slice_get g.image.code.items (start g + at) ≡ Some (I.FrontCheckTarget set place list)))
  front_check_stands at set place registers h =
      let own = front_checks set place registers h.instr h.is in (own.0, (own.1.1, h.there ∙ ap (λ (i : Instr). Some (moved_by (start g) i)) (subst (λ (i : Instr). IsMoved places i h.over) own.1.0 h.moved)))

  -- and that of one that checks steps, which has no fields
  pub record GridStands (at set : ℕ) (place : Place) (steps : List GridStep) : Type 0 where
    pub list : _
    pub moved_there : slice_get g.image.code.items (start g + at) ≡ Some (I.CheckGrid set place list)
    pub items : list.items ≡ steps

  pub grid_stands : (at set : ℕ) (place : Place) (steps : List GridStep) → Stands at (ChecksGrid set place steps) → GridStands at set place steps
  grid_stands at set place steps h =
      let (list, (is, items)) = checks_grid set place steps h.instr h.is in
      record { list = list; moved_there = h.there ∙ ap (λ (i : Instr). Some (moved_by (start g) i)) (subst (λ (i : Instr). IsMoved places i h.over) is h.moved); items = items }

  -- the code begins what stands in the image where it is
  pub begins_there : (at : ℕ) (i : Instr) (s : CodeState) → slice_get g.image.code.items (start g + at) ≡ Some i → At g s at → step g.image s ≡ begun g.image i s
  unfolding step
  begins_there at i s there here = ap (λ (o : Option Instr). begun_at g.image s o) (ap (λ (n : ℕ). slice_get g.image.code.items n) here ∙ there)

  -- the draft with the instruction is the one with the step
  pub with_address : (e : Draft) (at : ℕ) (d : Field) (set : ℕ) (coordinates : List Coordinate) (h : AddressStands at d set coordinates) → with_instr (I.MakeAddress d set h.list) e ≡ with_step (MakesAddress d set coordinates) e
  unfolding with_instr step_of
  with_address e at d set coordinates h = ap (λ (cs : List Coordinate). with_step (MakesAddress d set cs) e) h.items

  pub with_target : (e : Draft) (at set : ℕ) (place : Place) (coordinates : List SignedCoordinate) (h : TargetStands at set place coordinates) → with_instr (I.CheckTarget set place h.list) e ≡ with_step (ChecksTarget set place coordinates) e
  unfolding with_instr step_of
  with_target e at set place coordinates h = ap (λ (cs : List SignedCoordinate). with_step (ChecksTarget set place cs) e) h.items

  pub with_grid : (e : Draft) (at set : ℕ) (place : Place) (steps : List GridStep) (h : GridStands at set place steps) → with_instr (I.CheckGrid set place h.list) e ≡ with_step (ChecksGrid set place steps) e
  unfolding with_instr step_of
  with_grid e at set place steps h = ap (λ (cs : List GridStep). with_step (ChecksGrid set place cs) e) h.items
