-- The units of a scalar program: what the unit of each instance is, and which registers its values have.
use Rattle.std.proofs.Common.{◌≡◌, ◌∙◌, ℕ, zero, suc, ◌+◌, ◌-◌, ◌<◌, ◌≤◌, ◌==◌, Bool, true, false, List, [], ◌∷◌, length, map, slice_get, Option, Some, None, refl, sym, ap, subst, arith, if◌then◌else◌, ◌⊎◌, inl, inr}
use Rattle.std.proofs.lemmas.Bool.{eq-eqb, eqb-true}
use Rattle.std.proofs.lemmas.List.{append-nil}
use Rattle.std.specs.List.{All}
use Rattle.cstar_tree.specs.declared.typed.Instance.{Instance}
use Rattle.cstar_tree.specs.declared.typed.Typed.{Typed}
use Rattle.cstar_tree.specs.declared.typed.VarInfo.{VarInfo}
use Rattle.cstar_tree.specs.declared.typed.Variable.{Variable}
use Rattle.code_lengths.specs.Agreement.{HasUnit, opening_of}
use Rattle.code_lengths.specs.Naming.{variable_named}
use Rattle.code_lengths.specs.Ready.{IsCodable}
use Rattle.code_lengths.proofs.UnitLengths.{units}
use Rattle.cstar_compile.specs.Compiled.{IsCompiled}
use Rattle.lower_base.specs.Constants.{first_free}
use Rattle.lower_base.specs.Drafts.{Draft, Fails, Made, Makes, an_entry, draft, then_make, with_instr, with_step}
use Rattle.lower_base.specs.Layouts.{Layout, entries_of, layout_of, register_of, result_register}
use Rattle.lower_stmt.specs.Programs.{begun, blank, body_frame, constants_put, elements_begun, joined, own_field_of, own_fields_of, own_result_of, scalar_begun, slots_behind, start_value_of, start_values_of, unit_of, units_of}
use Rattle.lower_stmt.specs.Statements.{body_of, ended}
use Rattle.paris_code.specs.declared.instr.Instr.TheVariants as I
use Rattle.paris_code.specs.declared.program.Image.{Image}
use Rattle.paris_code.specs.declared.program.Owner.TheVariants as W
use Rattle.paris_code.specs.declared.program.Unit.{Unit as CodeUnit}
use Rattle.paris_code.specs.Proper.{IsUnit}
use Rattle.code_follows.specs.Fragment.{IsScalarVariable, May}
use Rattle.code_follows.proofs.Beginnings.{start_put, starts_put}
use Rattle.code_follows.proofs.Growing.{Extended, and_instr, as_it_was, extended}
use Rattle.code_follows.proofs.Lists.{all_first, all_rest}
use Rattle.code_follows.proofs.Following.{HasRegisters}
use Rattle.code_follows.proofs.Regions.{BeginsAsScalar, HasScalarInstances, IsScalarInstance, apart, below, in_order, result_apart, result_below, same_constants, same_end, base_behind}
use Rattle.code_follows.proofs.Settings.{Held, Setting, Within}
use Rattle.code_follows.proofs.Standing.{some_same}

-- ---- what a unit begins with

-- the values with which variables of the file begin
starts_are : (t : Typed) (l : Layout) (infos : List VarInfo) (n : ℕ) (d : Draft) → All BeginsAsScalar infos → start_values_of t l infos n d ≡ Makes tt (starts_put l infos n d)
unfolding start_values_of start_value_of then_make start_put starts_put
starts_are t l [] n d all = refl
starts_are t l (info ∷ infos) n d all =
    first (all_first BeginsAsScalar info infos all) ∙ by (info.start == 0) ∙ starts_are t l infos (n + 1) (start_put l info n d) (all_rest BeginsAsScalar info infos all)
  where
    then_rest : Made (Unit {0}) → Made (Unit {0})
    then_rest made = then_make made (λ u after. start_values_of t l infos (n + 1) after)

    begun_by : Option ℕ → Made (Unit {0})
    begun_by shape = elim shape as (λ _. Made (Unit {0})) [ None ↦ Makes tt (scalar_begun l info n d) | Some s ↦ elements_begun t l n info.start (entries_of info) 0 d ]

    first : BeginsAsScalar info → then_rest (if info.start == 0 then Makes tt d else begun_by info.shape) ≡ then_rest (if info.start == 0 then Makes tt d else Makes tt (scalar_begun l info n d))
    first (inl scalar) = ap (λ (o : Option ℕ). then_rest (if info.start == 0 then Makes tt d else begun_by o)) scalar
    first (inr zero_there) =
        let yes : (info.start == 0) ≡ true = eq-eqb info.start 0 zero_there in
        ap (λ (b : Bool). then_rest (if b then Makes tt d else begun_by info.shape)) yes ∙ ap (λ (b : Bool). then_rest (if b then Makes tt d else Makes tt (scalar_begun l info n d))) (sym yes)

    by : (b : Bool) → then_rest (if b then Makes tt d else Makes tt (scalar_begun l info n d)) ≡ start_values_of t l infos (n + 1) (if b then d else scalar_begun l info n d)
    by true = refl
    by false = refl

-- they take no register and no home, nor do constants
start_takes : (l : Layout) (info : VarInfo) (n : ℕ) (d : Draft) → ((start_put l info n d).regs ≡ d.regs) × ((start_put l info n d).homes ≡ d.homes)
unfolding start_put scalar_begun with_instr with_step
start_takes l info n d = by (info.start == 0)
  where
    by : (b : Bool) → ((if b then d else scalar_begun l info n d).regs ≡ d.regs) × ((if b then d else scalar_begun l info n d).homes ≡ d.homes)
    by true = (refl, refl)
    by false = (refl, refl)

starts_take : (l : Layout) (infos : List VarInfo) (n : ℕ) (d : Draft) → ((starts_put l infos n d).regs ≡ d.regs) × ((starts_put l infos n d).homes ≡ d.homes)
unfolding starts_put
starts_take l [] n d = (refl, refl)
starts_take l (info ∷ infos) n d =
    let one = start_takes l info n d in
    let rest = starts_take l infos (n + 1) (start_put l info n d) in
    (rest.0 ∙ one.0, rest.1 ∙ one.1)

constants_take : (words : List ℕ) (r : ℕ) (d : Draft) → ((constants_put words r d).regs ≡ d.regs) × ((constants_put words r d).homes ≡ d.homes)
unfolding constants_put with_instr with_step
constants_take [] r d = (refl, refl)
constants_take (w ∷ words) r d = constants_take words (r + 1) (with_instr (I.FrontConst r w) d)

pub constants_extend : (words : List ℕ) (r : ℕ) (d : Draft) → Extended d (length words) (constants_put words r d)
unfolding constants_put
constants_extend [] r d = as_it_was d
constants_extend (w ∷ words) r d =
    let one : Extended d 1 (with_instr (I.FrontConst r w) d) = and_instr (I.FrontConst r w) d d 0 (as_it_was d) in
    subst (λ (k : ℕ). Extended d k (constants_put words (r + 1) (with_instr (I.FrontConst r w) d))) (count (length words)) (extended d (with_instr (I.FrontConst r w) d) (constants_put words (r + 1) (with_instr (I.FrontConst r w) d)) 1 (length words) one (constants_extend words (r + 1) (with_instr (I.FrontConst r w) d)))
  where
    count : (n : ℕ) → 1 + n ≡ suc n
    count n = omega arith

-- a scalar parameter or result has no field
no_own_field : (info : VarInfo) (d : Draft) → info.shape ≡ None → own_field_of info d ≡ Makes tt d
unfolding own_field_of
no_own_field info d plain = ap (λ (o : Option ℕ). elim o as (λ _. Made (Unit {0})) [ None ↦ Makes tt d | Some s ↦ then_make (an_entry s info.elem.bits W.Own d) (λ index after. Makes tt after) ]) plain

no_own_result : (o : Option VarInfo) (d : Draft) → ((info : VarInfo) → o ≡ Some info → info.shape ≡ None) → own_result_of o d ≡ Makes tt d
unfolding own_result_of
no_own_result None d plain = refl
no_own_result (Some info) d plain = no_own_field info d (plain info refl)

no_own_fields : (infos : List VarInfo) (d : Draft) → All IsScalarVariable infos → own_fields_of infos d ≡ Makes tt d
unfolding own_fields_of then_make
no_own_fields [] d all = refl
no_own_fields (info ∷ infos) d all =
    ap (λ (m : Made (Unit {0})). then_make m (λ u after. own_fields_of infos after)) (no_own_field info d (all_first IsScalarVariable info infos all))
    ∙ no_own_fields infos d (all_rest IsScalarVariable info infos all)

-- `main` begins with the constants and the values of the file's variables, other instances with nothing
unfoldable pub opened : Typed → Layout → Bool → ℕ → Instance → Draft
opened t l true regs i = starts_put l t.vars.items 0 (constants_put l.constants l.end (blank i.name regs))
opened t l false regs i = blank i.name regs

pub opened_regs : (t : Typed) (l : Layout) (is_main : Bool) (regs : ℕ) (i : Instance) → (opened t l is_main regs i).regs ≡ regs
unfolding opened blank
opened_regs t l true regs i = (starts_take l t.vars.items 0 (constants_put l.constants l.end (blank i.name regs))).0 ∙ (constants_take l.constants l.end (blank i.name regs)).0
opened_regs t l false regs i = refl

pub opened_homes : (t : Typed) (l : Layout) (is_main : Bool) (regs : ℕ) (i : Instance) → (opened t l is_main regs i).homes ≡ []
unfolding opened blank
opened_homes t l true regs i = (starts_take l t.vars.items 0 (constants_put l.constants l.end (blank i.name regs))).1 ∙ (constants_take l.constants l.end (blank i.name regs)).1
opened_homes t l false regs i = refl

begun_is : (t : Typed) (l : Layout) (is_main : Bool) (regs : ℕ) (i : Instance) → All BeginsAsScalar t.vars.items → begun t l is_main (blank i.name regs) ≡ Makes tt (opened t l is_main regs i)
unfolding begun opened
begun_is t l true regs i all = starts_are t l t.vars.items 0 (constants_put l.constants l.end (blank i.name regs)) all
begun_is t l false regs i all = refl

opening_is : (t : Typed) (l : Layout) (is_main : Bool) (regs : ℕ) (i : Instance) → All BeginsAsScalar t.vars.items → IsScalarInstance i → opening_of t l is_main regs i ≡ Makes tt (opened t l is_main regs i)
unfolding opening_of then_make
opening_is t l is_main regs i files plain =
    ap (λ (m : Made (Unit {0})). then_make m (λ u d. then_make (own_result_of i.result d) (λ v ready. begun t l is_main ready))) (no_own_fields i.params.items (blank i.name regs) plain.0)
    ∙ ap (λ (m : Made (Unit {0})). then_make m (λ v ready. begun t l is_main ready)) (no_own_result i.result (blank i.name regs) plain.1)
    ∙ begun_is t l is_main regs i files

-- the body of an instance, from a draft on, and its end
abbrev pub body_from : Typed → Layout → Bool → Instance → Draft → Made (Unit {0})
body_from t l is_main i start = then_make (body_of t l (body_frame is_main i) i.body start) (λ n end. Makes tt (ended is_main i.body end))

unit_is : (t : Typed) (l : Layout) (is_main : Bool) (regs : ℕ) (i : Instance) → All BeginsAsScalar t.vars.items → IsScalarInstance i → unit_of t l is_main regs i ≡ body_from t l is_main i (opened t l is_main regs i)
unfolding unit_of then_make
unit_is t l is_main regs i files plain =
    ap (λ (m : Made (Unit {0})). then_make m (λ u d. then_make (own_result_of i.result d) (λ v ready. then_make (begun t l is_main ready) (λ w start. body_from t l is_main i start)))) (no_own_fields i.params.items (blank i.name regs) plain.0)
    ∙ ap (λ (m : Made (Unit {0})). then_make m (λ v ready. then_make (begun t l is_main ready) (λ w start. body_from t l is_main i start))) (no_own_result i.result (blank i.name regs) plain.1)
    ∙ ap (λ (m : Made (Unit {0})). then_make m (λ w start. body_from t l is_main i start)) (begun_is t l is_main regs i files)

made_same : (d e : Draft) → Makes (tt {0}) d ≡ Makes (tt {0}) e → d ≡ e
made_same d e same = ap (λ (m : Made (Unit {0})). elim m as (λ _. Draft) [ Makes x after ↦ after | Fails ↦ d ]) same

-- a unit gives no register back
unit_grows : (t : Typed) (l : Layout) (is_main : Bool) (regs : ℕ) (i : Instance) (h : HasUnit t l is_main regs i) → All BeginsAsScalar t.vars.items → IsScalarInstance i → regs ≤ h.unit.regs
unit_grows t l is_main regs i h files plain =
    let start = made_same h.start (opened t l is_main regs i) (sym h.begins ∙ opening_is t l is_main regs i files plain) in
    let first : h.start.regs ≡ regs = ap (λ (d : Draft). d.regs) start ∙ opened_regs t l is_main regs i in
    let more : h.start.regs ≤ h.unit.regs = h.rest.1.regs in
    omega (arith, first, more)

-- ---- units one behind the other

-- the first register of each, where those of one begin behind those of the one before
unfoldable pub starts_at : List Draft → ℕ → ℕ → ℕ
starts_at [] k r = r
starts_at (d ∷ ds) zero r = r
starts_at (d ∷ ds) (suc k) r = starts_at ds k d.regs

starts_first : (ds : List Draft) (r : ℕ) → starts_at ds 0 r ≡ r
unfolding starts_at
starts_first [] r = refl
starts_first (d ∷ ds) r = refl

-- each begins where the next does, or before
abbrev Climbs : List Draft → ℕ → Type 0
Climbs ds r = (k : ℕ) → starts_at ds k r ≤ starts_at ds (suc k) r

at_most_behind : (ds : List Draft) (r k : ℕ) → Climbs ds r → starts_at ds k r ≤ slots_behind r ds
unfolding starts_at slots_behind
at_most_behind [] r k climbs = omega arith
at_most_behind (d ∷ ds) r zero climbs =
    let one = climbs 0 in
    let first = starts_first ds d.regs in
    let rest = at_most_behind ds d.regs 0 (λ k. climbs (suc k)) in
    omega (arith, one, first, rest)
at_most_behind (d ∷ ds) r (suc k) climbs = at_most_behind ds d.regs k (λ k. climbs (suc k))

climbs_by : (ds : List Draft) (r j n : ℕ) → Climbs ds r → starts_at ds j r ≤ starts_at ds (n + j) r
climbs_by ds r j zero climbs = ap_le (ap (λ (k : ℕ). starts_at ds k r) (nothing j))
  where
    nothing : (j : ℕ) → j ≡ 0 + j
    nothing j = omega arith

    ap_le : starts_at ds j r ≡ starts_at ds (0 + j) r → starts_at ds j r ≤ starts_at ds (0 + j) r
    ap_le e = omega (arith, e)
climbs_by ds r j (suc n) climbs =
    let rest = climbs_by ds r j n climbs in
    let one = climbs (n + j) in
    let same = ap (λ (k : ℕ). starts_at ds k r) (next n j) in
    omega (arith, rest, one, same)
  where
    next : (n j : ℕ) → suc (n + j) ≡ suc n + j
    next n j = omega arith

climbs_to : (ds : List Draft) (r j k : ℕ) → j ≤ k → Climbs ds r → starts_at ds j r ≤ starts_at ds k r
climbs_to ds r j k less climbs =
    let far = climbs_by ds r j (k - j) climbs in
    let same = ap (λ (n : ℕ). starts_at ds n r) (there k j less) in
    omega (arith, far, same)
  where
    there : (k j : ℕ) → j ≤ k → k - j + j ≡ k
    there k j h = omega (arith, h)

-- the unit of an instance is one of these
record HasOwn (t : Typed) (words : List ℕ) (ds : List Draft) (regs k number : ℕ) (i : Instance) : Type 0 where
  own : HasUnit t (layout_of t words number) (number == 0) (starts_at ds k regs) i
  there : slice_get ds k ≡ Some own.unit
  ends : own.unit.regs ≡ starts_at ds (suc k) regs

own_first : (t : Typed) (words : List ℕ) (ds : List Draft) (regs number : ℕ) (i : Instance) (h : HasUnit t (layout_of t words number) (number == 0) regs i) → HasOwn t words (h.unit ∷ ds) regs 0 number i
unfolding starts_at
own_first t words ds regs number i h = record { own = h; there = refl; ends = sym (starts_first ds h.unit.regs) }

own_later : (t : Typed) (words : List ℕ) (d : Draft) (ds : List Draft) (regs k number : ℕ) (i : Instance) → HasOwn t words ds d.regs k number i → HasOwn t words (d ∷ ds) regs (suc k) number i
unfolding starts_at
own_later t words d ds regs k number i h = record { own = h.own; there = h.there; ends = h.ends }

module _ (t : Typed) (words : List ℕ) (codable : IsCodable t) where
  own_of : (number regs : ℕ) (i : Instance) → slice_get t.instances.items number ≡ Some i → HasUnit t (layout_of t words number) (number == 0) regs i
  own_of number regs i is = let c = codable number i is in units t words number (number == 0) regs i is c.0 c.1

  units_from : (i : Instance) (rest : List Instance) (number regs : ℕ) (is : slice_get t.instances.items number ≡ Some i) → units_of t words (i ∷ rest) number regs ≡ (own_of number regs i is).unit ∷ units_of t words rest (number + 1) (own_of number regs i is).unit.regs
  unfolding units_of joined
  units_from i rest number regs is = ap (λ (m : Made (Unit {0})). joined m (λ d. units_of t words rest (number + 1) d.regs)) (own_of number regs i is).made

  -- these are the instances from a number on
  abbrev StandBehind : ℕ → List Instance → Type 0
  StandBehind number xs = (j : ℕ) (i : Instance) → slice_get xs j ≡ Some i → slice_get t.instances.items (number + j) ≡ Some i

  first_there : (number : ℕ) (x : Instance) (xs : List Instance) → StandBehind number (x ∷ xs) → slice_get t.instances.items number ≡ Some x
  first_there number x xs stand = ap (λ (n : ℕ). slice_get t.instances.items n) (nothing number) ∙ stand 0 x refl
    where
      nothing : (n : ℕ) → n ≡ n + 0
      nothing n = omega arith

  rest_there : (number : ℕ) (x : Instance) (xs : List Instance) → StandBehind number (x ∷ xs) → StandBehind (number + 1) xs
  rest_there number x xs stand j i is = ap (λ (n : ℕ). slice_get t.instances.items n) (next number j) ∙ stand (suc j) i is
    where
      next : (n j : ℕ) → n + 1 + j ≡ n + suc j
      next n j = omega arith

  own_there : (xs : List Instance) (number regs k : ℕ) (i : Instance) → StandBehind number xs → slice_get xs k ≡ Some i → HasOwn t words (units_of t words xs number regs) regs k (number + k) i
  own_there [] number regs k i stand is = cc
  own_there (x ∷ xs) number regs zero i stand is =
      let own : HasUnit t (layout_of t words number) (number == 0) regs x = own_of number regs x (first_there number x xs stand) in
      let first = own_first t words (units_of t words xs (number + 1) own.unit.regs) regs number x own in
      subst (λ (y : Instance). HasOwn t words (units_of t words (x ∷ xs) number regs) regs 0 (number + 0) y) (some_same x i is)
      (subst (λ (n : ℕ). HasOwn t words (units_of t words (x ∷ xs) number regs) regs 0 n x) (nothing number)
      (subst (λ (ds : List Draft). HasOwn t words ds regs 0 number x) (sym (units_from x xs number regs (first_there number x xs stand))) first))
    where
      nothing : (n : ℕ) → n ≡ n + 0
      nothing n = omega arith
  own_there (x ∷ xs) number regs (suc k) i stand is =
      let own : HasUnit t (layout_of t words number) (number == 0) regs x = own_of number regs x (first_there number x xs stand) in
      let rest = own_there xs (number + 1) own.unit.regs k i (rest_there number x xs stand) is in
      let later = own_later t words own.unit (units_of t words xs (number + 1) own.unit.regs) regs k (number + 1 + k) i rest in
      subst (λ (n : ℕ). HasOwn t words (units_of t words (x ∷ xs) number regs) regs (suc k) n i) (next number k)
      (subst (λ (ds : List Draft). HasOwn t words ds regs (suc k) (number + 1 + k) i) (sym (units_from x xs number regs (first_there number x xs stand))) later)
    where
      next : (n k : ℕ) → n + 1 + k ≡ n + suc k
      next n k = omega arith

  all_climb : (xs : List Instance) (number regs : ℕ) → HasScalarInstances t → StandBehind number xs → Climbs (units_of t words xs number regs) regs
  unfolding units_of starts_at
  all_climb [] number regs p stand k = omega arith
  all_climb (x ∷ xs) number regs p stand k =
      let is : slice_get t.instances.items number ≡ Some x = first_there number x xs stand in
      let own : HasUnit t (layout_of t words number) (number == 0) regs x = own_of number regs x is in
      subst (λ (ds : List Draft). starts_at ds k regs ≤ starts_at ds (suc k) regs) (sym (units_from x xs number regs is))
      (one own.unit (units_of t words xs (number + 1) own.unit.regs) k (unit_grows t (layout_of t words number) (number == 0) regs x own p.variables (p.each number x is)) (all_climb xs (number + 1) own.unit.regs p (rest_there number x xs stand)))
    where
      one : (d : Draft) (ds : List Draft) (k : ℕ) → regs ≤ d.regs → Climbs ds d.regs → starts_at (d ∷ ds) k regs ≤ starts_at (d ∷ ds) (suc k) regs
      one d ds zero more climbs = let first = starts_first ds d.regs in omega (arith, more, first)
      one d ds (suc k) more climbs = climbs k

-- what a list is mapped to at a place comes from what stands there
mapped_at : (us : List CodeUnit) (k : ℕ) (d : Draft) → slice_get (map draft us) k ≡ Some d → (u : CodeUnit) × ((slice_get us k ≡ Some u) × (draft u ≡ d))
mapped_at [] k d is = cc
mapped_at (u ∷ us) zero d is = (u, (refl, some_same (draft u) d is))
mapped_at (u ∷ us) (suc k) d is = mapped_at us k d is

-- ---- the units of a compiled program

module _ (t : Typed) (image : Image) (p : HasScalarInstances t) (codable : IsCodable t) (compiled : IsCompiled t image) where
  abbrev pub the_words : List ℕ
  the_words = compiled.lowered.words

  abbrev pub layout_at : ℕ → Layout
  layout_at number = layout_of t the_words number

  -- the first register that neither a variable nor a constant has
  abbrev pub first_value : ℕ
  first_value = first_free (layout_of t the_words 0)

  abbrev pub drafts : List Draft
  drafts = units_of t the_words t.instances.items 0 first_value

  -- the registers of the values of an instance are those from one on and before another
  unfoldable pub begins : ℕ → ℕ
  begins number = starts_at drafts number first_value

  unfoldable pub ends : ℕ → ℕ
  ends number = starts_at drafts (suc number) first_value

  all_stand : StandBehind t the_words codable 0 t.instances.items
  all_stand j i is = ap (λ (n : ℕ). slice_get t.instances.items n) (nothing j) ∙ is
    where
      nothing : (j : ℕ) → 0 + j ≡ j
      nothing j = omega arith

  climb : Climbs drafts first_value
  climb = all_climb t the_words codable t.instances.items 0 first_value p all_stand

  pub begins_least : (number : ℕ) → begins number ≤ ends number
  unfolding begins ends
  begins_least number = climb number

  -- the values of a later instance stand behind those of an earlier one
  pub ends_before : (j k : ℕ) → j < k → ends j ≤ begins k
  unfolding begins ends
  ends_before j k less = climbs_to drafts first_value (suc j) k (omega (arith, less)) climb

  -- no register is of values of two instances
  pub values_apart : (j k r : ℕ) → begins j ≤ r → r < ends j → begins k ≤ r → r < ends k → j ≡ k
  values_apart j k r low high other_low other_high = by (in_order j k)
    where
      by : (j < k) ⊎ ((j ≡ k) ⊎ (k < j)) → j ≡ k
      by (inl less) = let h = ends_before j k less in absurd (omega (arith, h, high, other_low))
      by (inr (inl same)) = same
      by (inr (inr more)) = let h = ends_before k j more in absurd (omega (arith, h, low, other_high))

  -- values stand behind the variables and the constants, as all layouts say
  pub begins_free : (other number : ℕ) → first_free (layout_of t the_words other) ≤ begins number
  unfolding begins first_free
  begins_free other number =
      let least = climbs_to drafts first_value 0 number (omega arith) climb in
      let zeroth = starts_first drafts first_value in
      let end = same_end t p the_words other 0 in
      let constants = ap length (same_constants t p the_words other 0) in
      omega (arith, least, zeroth, end, constants)

  pub slots_are : image.slots ≡ slots_behind first_value drafts
  slots_are = compiled.linked.slots ∙ compiled.placed.slots ∙ compiled.lowered.as_described.slots ∙ ap (λ (ds : List Draft). slots_behind first_value ds) compiled.lowered.as_described.units

  pub ends_within : (number : ℕ) → ends number ≤ image.slots
  unfolding ends
  ends_within number = let most = at_most_behind drafts first_value (suc number) climb in let slots = slots_are in omega (arith, most, slots)

  -- The unit of an instance: the program's, what it is as a draft, and that its values end where its
  -- registers do.
  pub record OwnUnit (number : ℕ) (i : Instance) : Type 0 where
    pub unit : Draft
    pub placed : CodeUnit
    pub is_unit : IsUnit compiled.before number placed
    pub drafted : draft placed ≡ unit
    pub made : unit_of t (layout_of t the_words number) (number == 0) (begins number) i ≡ Makes tt unit
    pub last : unit.regs ≡ ends number

  pub own_unit : (number : ℕ) (i : Instance) → slice_get t.instances.items number ≡ Some i → OwnUnit number i
  unfolding begins ends
  own_unit number i is =
      let h : HasOwn t the_words drafts first_value number number i = subst (λ (n : ℕ). HasOwn t the_words drafts first_value number n i) (nothing number) (own_there t the_words codable t.instances.items 0 first_value number i all_stand is) in
      let at = mapped_at compiled.before.units.items number h.own.unit (ap (λ (ds : List Draft). slice_get ds number) compiled.lowered.as_described.units ∙ h.there) in
      record { unit = h.own.unit; placed = at.0; is_unit = at.1.0; drafted = at.1.1; made = h.own.made; last = h.ends }
    where
      nothing : (n : ℕ) → 0 + n ≡ n
      nothing n = omega arith

  abbrev pub unit_at : (number : ℕ) (i : Instance) → slice_get t.instances.items number ≡ Some i → Draft
  unit_at number i is = (own_unit number i is).unit

  abbrev pub setting : (number : ℕ) (i : Instance) → slice_get t.instances.items number ≡ Some i → (ℕ → Type 0) → List ℕ → ℕ → May → Held → Setting
  setting number i is spared returns most may holding = record {
    typed = t;
    words = the_words;
    image = image;
    before = compiled.before;
    after = compiled.after;
    placed = compiled.placed.placed;
    linked = compiled.linked.code;
    number = number;
    unit = (own_unit number i is).placed;
    is_unit = (own_unit number i is).is_unit;
    instance = i;
    is_main = number == 0;
    begins = begins number;
    ends = ends number;
    spared = spared;
    returns = returns;
    most = most;
    may = may;
    held = holding;
    from = 0;
    entries = 0;
    upto = length (own_unit number i is).unit.code;
  }

  pub within_all : (number : ℕ) (i : Instance) (is : slice_get t.instances.items number ≡ Some i) (spared : ℕ → Type 0) (returns : List ℕ) (most : ℕ) (may : May) (holding : Held) → Within (setting number i is spared returns most may holding) (unit_at number i is)
  unfolding draft
  within_all number i is spared returns most may holding = record {
    more = [];
    code = ap (λ (d : Draft). d.code) (own_unit number i is).drafted ∙ sym (append-nil (unit_at number i is).code);
    entries = [];
    fields = ap (λ (d : Draft). d.fields) (own_unit number i is).drafted ∙ sym (append-nil (unit_at number i is).fields);
    homes = [];
    homes_are = ap (λ (d : Draft). d.homes) (own_unit number i is).drafted ∙ sym (append-nil (unit_at number i is).homes);
    regs = let last = (own_unit number i is).last in let h = ends_within number in omega (arith, last, h);
    own = let last = (own_unit number i is).last in omega (arith, last);
    upto = omega arith;
  }

  -- the registers of an instance, where those that are spared are none of its own
  pub has_registers : (number : ℕ) (i : Instance) (is : slice_get t.instances.items number ≡ Some i) (spared : ℕ → Type 0) (returns : List ℕ) (most : ℕ) (may : May) (holding : Held)
      → ((r : ℕ) → spared r → (x : Variable) (info : VarInfo) → variable_named t i x ≡ Some info → r ≡ register_of (layout_of t the_words number) x → ⊥)
      → ((r : ℕ) → spared r → begins number ≤ r → r < ends number → ⊥) → (spared (result_register (layout_of t the_words number)) → ⊥) → HasRegisters (setting number i is spared returns most may holding)
  unfolding first_free
  has_registers number i is spared returns most may holding variables values result = record {
    behind_files = base_behind t p the_words number i is;
    room = let free = begins_free number number in let least = begins_least number in let inside = ends_within number in omega (arith, free, least, inside);
    spared_result = result;
    below = below t p the_words number i is;
    free = begins_free number number;
    result = result_below t p the_words number i is;
    result_apart = result_apart t p the_words number i is;
    spared_variable = variables;
    spared_own = values;
    apart = apart t p the_words number i is;
  }

  -- ---- what a unit is made of

  -- the body of an instance, behind what the unit begins with
  pub made_of : (number : ℕ) (i : Instance) (is : slice_get t.instances.items number ≡ Some i) → body_from t (layout_of t the_words number) (number == 0) i (opened t (layout_of t the_words number) (number == 0) (begins number) i) ≡ Makes tt (unit_at number i is)
  made_of number i is = sym (unit_is t (layout_of t the_words number) (number == 0) (begins number) i p.variables (p.each number i is)) ∙ (own_unit number i is).made

  -- another instance than `main` has nothing before its body
  pub other_is : (number : ℕ) (i : Instance) (is : slice_get t.instances.items number ≡ Some i) → (number == 0) ≡ false → body_from t (layout_of t the_words number) false i (blank i.name (begins number)) ≡ Makes tt (unit_at number i is)
  unfolding opened
  other_is number i is other =
      subst (λ (b : Bool). body_from t (layout_of t the_words number) b i (opened t (layout_of t the_words number) b (begins number) i) ≡ Makes tt (unit_at number i is)) other (made_of number i is)

  pub not_main : (number : ℕ) → (number ≡ 0 → ⊥) → (number == 0) ≡ false
  not_main number differs = by (number == 0) refl
    where
      by : (b : Bool) → (number == 0) ≡ b → b ≡ false
      by true same = absurd (differs (eqb-true number 0 same))
      by false other = refl

  pub blank_regs : (number : ℕ) (i : Instance) → (blank i.name (begins number)).regs ≡ begins number
  unfolding blank
  blank_regs number i = refl

  pub blank_homes : (number : ℕ) (i : Instance) → (blank i.name (begins number)).homes ≡ []
  unfolding blank
  blank_homes number i = refl

  -- `main` has the constants and the values of the file's variables there
  abbrev pub empty_unit : Instance → Draft
  empty_unit i = blank i.name (begins 0)

  abbrev pub with_constants : Instance → Draft
  with_constants i = constants_put (layout_at 0).constants (layout_at 0).end (empty_unit i)

  abbrev pub with_starts : Instance → Draft
  with_starts i = starts_put (layout_at 0) t.vars.items 0 (with_constants i)

  pub constants_grow : (i : Instance) → Extended (empty_unit i) (length (layout_at 0).constants) (with_constants i)
  constants_grow i = constants_extend (layout_at 0).constants (layout_at 0).end (empty_unit i)

  pub starts_regs : (i : Instance) → (with_starts i).regs ≡ begins 0
  unfolding opened
  starts_regs i = opened_regs t (layout_at 0) true (begins 0) i

  pub starts_homes : (i : Instance) → (with_starts i).homes ≡ []
  unfolding opened
  starts_homes i = opened_homes t (layout_at 0) true (begins 0) i

  pub main_is : (i : Instance) (is : slice_get t.instances.items 0 ≡ Some i) → body_from t (layout_of t the_words 0) true i (with_starts i) ≡ Makes tt (unit_at 0 i is)
  unfolding opened
  main_is i is = made_of 0 i is
