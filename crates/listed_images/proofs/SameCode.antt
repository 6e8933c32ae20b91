-- Two images that hold the same have the same meaning.
use Rattle.std.proofs.Common.{◌≡◌, ◌∙◌, ◌+◌, ◌++◌, cond, ℕ, zero, suc, List, [], ◌∷◌, length, map, Some, Vec, Global, refl, sym, subst, ap, ap₂}
use Rattle.std.specs.List.{slice_get, slice_index}
use Rattle.cstar_base.specs.declared.faults.RunFault.TheVariants.{Index}
use Rattle.cstar_base.specs.declared.operators.Place.{Place}
use Rattle.lower_base.specs.Drafts.{step as step_of}
use Rattle.lower_base.specs.Drafts.Step.{Plain, MakesAddress, ChecksTarget, ChecksGrid, FrontMakesAddress, FrontChecksTarget}
use Rattle.paris_code.specs.declared.instr.Instr.{Instr}
use Rattle.paris_code.specs.declared.instr.Instr.TheVariants as I
use Rattle.paris_code.specs.declared.operands.Coordinate.{Coordinate}
use Rattle.paris_code.specs.declared.operands.Field.{Field}
use Rattle.paris_code.specs.declared.operands.GridStep.{GridStep}
use Rattle.paris_code.specs.declared.operands.RegisterCoordinate.{RegisterCoordinate}
use Rattle.paris_code.specs.declared.operands.SignedCoordinate.{SignedCoordinate}
use Rattle.paris_code.specs.declared.program.Image.{Image}
use Rattle.paris_code.specs.Code.{CodeState, Next, Goes, Ends, Reached, applied, begun, begun_at, checked, code, controlled, go_on, one_more, set_or, step}
use Rattle.paris_code.specs.Kinds.{is_parallel}
use Rattle.paris_code.specs.Meaning.{after}
use Rattle.paris_code.specs.Scalar.{any_register_outside, computed}
use Rattle.paris_code.specs.Shapes.{extents_at, shapes_of}
use Rattle.paris_code.specs.Units.{start_of}
use Rattle.plain_listings.specs.Contents.{SameImage}
use Rattle.plain_listings.proofs.Determined.{determines}
use Rattle.listed_images.specs.Meaning.{DeterminesMeaning}

-- a vector with another list of its length
abbrev with_list : {X : Type 0} (d : Vec X Global) (xs : List X) → d.len ≡ length xs → Vec X Global
with_list d xs p = record { ptr = d.ptr; len = d.len; cap = d.cap; alloc = d.alloc; items = xs; ok = (p, d.ok.1); small = d.small }

-- what looks at the list of a vector alone is the same at vectors with one list
same_at : {X A : Type 0} (f : Vec X Global → A) (c d : Vec X Global) → c.items ≡ d.items
    → ((xs : List X) (p q : d.len ≡ length xs) → f (with_list d xs p) ≡ f (with_list d xs q))
    → ((p : d.len ≡ length c.items) → f c ≡ f (with_list d c.items p)) → f c ≡ f d
same_at f c d e free own =
    let p : d.len ≡ length c.items = d.ok.0 ∙ ap length (sym e) in
    own p ∙ sym (subst (λ xs. (q : d.len ≡ length xs) → f d ≡ f (with_list d xs q)) (sym e) (λ q. free d.items d.ok.0 q) p)

plain_same : (i j : Instr) → Plain i ≡ step_of j → i ≡ j
unfolding step_of
plain_same i (I.MakeAddress d set cs) e = cc
plain_same i (I.CheckTarget set place cs) e = cc
plain_same i (I.CheckGrid set place steps) e = cc
plain_same i (I.FrontMakeAddress r set cs) e = cc
plain_same i (I.FrontCheckTarget set place cs) e = cc
plain_same i j e = cc

module _ (image : Image) (s : CodeState) where
  address_same : (d : Field) (set : ℕ) (cs : Vec Coordinate Global) (j : Instr) → MakesAddress d set cs.items ≡ step_of j → begun image (I.MakeAddress d set cs) s ≡ begun image j s
  unfolding step_of begun applied after
  address_same d set cs (I.MakeAddress e t ds) same =
      let fields : d ≡ e = cc in
      let sets : set ≡ t = cc in
      let lists : cs.items ≡ ds.items = cc in
      same_at (λ v. begun image (I.MakeAddress d set v) s) cs ds lists (λ xs p q. refl) (λ p. refl) ∙ ap₂ (λ x y. begun image (I.MakeAddress x y ds) s) fields sets
  address_same d set cs j same = cc

  target_same : (set : ℕ) (place : Place) (cs : Vec SignedCoordinate Global) (j : Instr) → ChecksTarget set place cs.items ≡ step_of j → begun image (I.CheckTarget set place cs) s ≡ begun image j s
  unfolding step_of begun applied after
  target_same set place cs (I.CheckTarget t at ds) same =
      let sets : set ≡ t = cc in
      let places : place ≡ at = cc in
      let lists : cs.items ≡ ds.items = cc in
      same_at (λ v. begun image (I.CheckTarget set place v) s) cs ds lists (λ xs p q. refl) (λ p. refl) ∙ ap₂ (λ x y. begun image (I.CheckTarget x y ds) s) sets places
  target_same set place cs j same = cc

  grid_same : (set : ℕ) (place : Place) (cs : Vec GridStep Global) (j : Instr) → ChecksGrid set place cs.items ≡ step_of j → begun image (I.CheckGrid set place cs) s ≡ begun image j s
  unfolding step_of begun applied after
  grid_same set place cs (I.CheckGrid t at ds) same =
      let sets : set ≡ t = cc in
      let places : place ≡ at = cc in
      let lists : cs.items ≡ ds.items = cc in
      same_at (λ v. begun image (I.CheckGrid set place v) s) cs ds lists (λ xs p q. refl) (λ p. refl) ∙ ap₂ (λ x y. begun image (I.CheckGrid x y ds) s) sets places
  grid_same set place cs j same = cc

  front_address_same : (r set : ℕ) (cs : Vec ℕ Global) (j : Instr) → FrontMakesAddress r set cs.items ≡ step_of j → begun image (I.FrontMakeAddress r set cs) s ≡ begun image j s
  unfolding step_of begun applied after
  front_address_same r set cs (I.FrontMakeAddress q t ds) same =
      let registers : r ≡ q = cc in
      let sets : set ≡ t = cc in
      let lists : cs.items ≡ ds.items = cc in
      same_at (λ v. begun image (I.FrontMakeAddress r set v) s) cs ds lists (λ xs p q. refl) (λ p. refl) ∙ ap₂ (λ x y. begun image (I.FrontMakeAddress x y ds) s) registers sets
  front_address_same r set cs j same = cc

  front_target_same : (set : ℕ) (place : Place) (cs : Vec RegisterCoordinate Global) (j : Instr) → FrontChecksTarget set place cs.items ≡ step_of j → begun image (I.FrontCheckTarget set place cs) s ≡ begun image j s
  unfolding step_of begun applied after
  front_target_same set place cs (I.FrontCheckTarget t at ds) same =
      let sets : set ≡ t = cc in
      let places : place ≡ at = cc in
      let lists : cs.items ≡ ds.items = cc in
      same_at (λ v. begun image (I.FrontCheckTarget set place v) s) cs ds lists (λ xs p q. refl) (λ p. refl) ∙ ap₂ (λ x y. begun image (I.FrontCheckTarget x y ds) s) sets places
  front_target_same set place cs j same = cc

  -- an instruction means what it means wherever its list of coordinates is kept
  begun_same : (i j : Instr) → step_of i ≡ step_of j → begun image i s ≡ begun image j s
  unfolding step_of
  begun_same (I.MakeAddress d set cs) j same = address_same d set cs j same
  begun_same (I.CheckTarget set place cs) j same = target_same set place cs j same
  begun_same (I.CheckGrid set place cs) j same = grid_same set place cs j same
  begun_same (I.FrontMakeAddress r set cs) j same = front_address_same r set cs j same
  begun_same (I.FrontCheckTarget set place cs) j same = front_target_same set place cs j same
  begun_same i j same = ap (λ k. begun image k s) (plain_same i j same)

-- an instruction without a list stands in both
stands : (is js : List Instr) (k : ℕ) (instr : Instr) → map step_of is ≡ map step_of js → step_of instr ≡ Plain instr → slice_get is k ≡ Some instr → slice_get js k ≡ Some instr
stands [] js k instr same plain at = cc
stands (i ∷ is) [] k instr same plain at = cc
stands (i ∷ is) (j ∷ js) zero instr same plain at =
    let first : step_of i ≡ step_of j = cc in
    let here : i ≡ instr = cc in
    ap Some (sym (plain_same instr j (sym plain ∙ ap step_of (sym here) ∙ first)))
stands (i ∷ is) (j ∷ js) (suc k) instr same plain at =
    let rest : map step_of is ≡ map step_of js = cc in stands is js k instr rest plain at

module _ (one other : Image) (shapes : shapes_of one ≡ shapes_of other) (units : one.units.items ≡ other.units.items) where
  controlled_same : (i : Instr) (s : CodeState) → controlled one i s ≡ controlled other i s
  controlled_same (I.FrontCheckTarget set place cs) s = ap (λ t. checked (any_register_outside (extents_at t set) cs.items s.registers) Index place s) shapes
  controlled_same (I.FrontCall unit) s = ap (λ us. Goes (record s { at = slice_index (map start_of us) unit; returns = s.returns ++ (s.at + 1) ∷ [] })) units
  controlled_same i s = refl

  image_same : (i : Instr) (s : CodeState) → begun one i s ≡ begun other i s
  unfolding begun
  image_same i s = ap₂ (λ t x. cond (is_parallel i) (applied t i s) (set_or (computed t i s.registers) s x)) shapes (controlled_same i s)

  at_same : (is js : List Instr) (k : ℕ) (s : CodeState) → map step_of is ≡ map step_of js → begun_at one s (slice_get is k) ≡ begun_at other s (slice_get js k)
  at_same [] [] k s same = refl
  at_same [] (j ∷ js) k s same = cc
  at_same (i ∷ is) [] k s same = cc
  at_same (i ∷ is) (j ∷ js) zero s same = let first : step_of i ≡ step_of j = cc in image_same i s ∙ begun_same other s i j first
  at_same (i ∷ is) (j ∷ js) (suc k) s same = let rest : map step_of is ≡ map step_of js = cc in at_same is js k s rest

  module _ (same : map step_of one.code.items ≡ map step_of other.code.items) where
    step_same : (s : CodeState) → step one s ≡ step other s
    unfolding step
    step_same s = at_same one.code.items other.code.items s.at s same

    go_same : (f g : CodeState → Reached) → ((t : CodeState) → f t ≡ g t) → (x : Next) → go_on f x ≡ go_on g x
    go_same f g h (Goes s) = ap one_more (h s)
    go_same f g h (Ends end s) = refl

    code_same : (n : ℕ) (s : CodeState) → code one n s ≡ code other n s
    unfolding code
    code_same zero s = refl
    code_same (suc n) s = ap (go_on (λ t. code one n t)) (step_same s) ∙ go_same (λ t. code one n t) (λ t. code other n t) (code_same n) (step other s)

pub same_meaning : (one other : Image) → DeterminesMeaning one other
same_meaning one other listable also listed =
    let same : SameImage one other = determines one other listable.plain also.plain listable.words also.words listed in
    record {
      sets = same.shapes;
      same = λ place instr plain at. stands one.code.items other.code.items place instr same.code plain at;
      step = step_same one other same.shapes same.units same.code;
      code = code_same one other same.shapes same.units same.code;
    }
