-- The indexes of a get, or of a send, are checked, and become the number of the position that they name: both end at the least active
-- position at which one does not lie within its extent.
use Rattle.std.proofs.Common.{◌≡◌, ◌∙◌, ℕ, zero, slice_index, suc, ◌%◌, ◌<◌, ◌≤◌, ◌^◌, ◌&&◌, Bool, true, false, not, List, [], ◌∷◌, ◌++◌, Any, length, map, flat_map, Option, Some, None, refl, sym, ap, subst, arith, ◌⊎◌, inl, inr, if◌then◌else◌}
use Rattle.std.proofs.lemmas.Bool.{cases_lt}
use Rattle.cstar_base.specs.declared.faults.RunFault.TheVariants.{Index}
use Rattle.cstar_base.specs.declared.operators.Place.{Place}
use Rattle.cstar_base.specs.Orders.{least_below, or_else}
use Rattle.code_lengths.proofs.Drafting.{append_nothing}
use Rattle.communication_laws.specs.Indexes.{HasIndexes, failing_at, with_signs}
use Rattle.communication_laws.proofs.Indexes.{addresses, checks_of_indexes, indexes_within_name_positions}
use Rattle.cstar_tree.specs.declared.typed.TExpr.{Row_of-TExpr, TExpr, end_of-TExpr, items-the_row-TExpr, more_of-TExpr}
use Rattle.cstar_tree.specs.declared.typed.Variable.{Variable}
use Rattle.cstar_tree.specs.Typed.{type_of}
use Rattle.lower_base.specs.declared.emit.Out.{Out}
use Rattle.lower_base.specs.declared.emit.Out.TheVariants as O
use Rattle.lower_base.specs.Drafts.{ChecksTarget, Draft, MakesAddress, Step, with_instr, with_step}
use Rattle.lower_base.specs.Operators.{is_signed}
use Rattle.lower_comm.specs.Messages.{index_coordinate, signed_coordinates}
use Rattle.paris_code.specs.declared.instr.Instr.{Instr}
use Rattle.paris_code.specs.declared.instr.Instr.TheVariants as I
use Rattle.paris_code.specs.declared.operands.Coordinate.{Coordinate}
use Rattle.paris_code.specs.declared.operands.Field.{Field}
use Rattle.paris_code.specs.declared.operands.SignedCoordinate.{SignedCoordinate}
use Rattle.paris_code.specs.Checking.{least_failing, set_of_coordinates}
use Rattle.paris_code.specs.Code as Machine
use Rattle.paris_code.specs.Code.{CodeState, Goes, Next, applied, arguments_at, begun, step}
use Rattle.paris_code.specs.Elementwise.{elementwise}
use Rattle.paris_code.specs.Meaning.{after}
use Rattle.paris_code.specs.Memory.{is_active, processors}
use Rattle.paris_code.specs.Moving.{moved_coordinate, moved_signed}
use Rattle.paris_code.specs.Operands.{coordinate_of, registers_of_coordinate}
use Rattle.paris_code.specs.Spans.{StandsAt, entry_of, fields_of, fields_of_coordinate}
use Rattle.source_meaning.specs.Gets.{Operand, are_within}
use Rattle.source_meaning.specs.State as Source
use Rattle.source_meaning.specs.State.{State}
use Rattle.source_meaning.specs.Values.{at, failing, positions}
use Rattle.vp_sets.specs.Positions.{position_count}
use Rattle.vp_sets.proofs.PositionLaws.{geometry_parts}
use Rattle.code_follows.proofs.Following.{Finishes, HasRegisters, Sim}
use Rattle.code_follows.proofs.Growing.{Extended}
use Rattle.code_follows.proofs.Settings.{OpenAmong, At, Setting, Within, and_one, code_more, earlier, layout, next_stands}
use Rattle.fields_follow.specs.Fragment.{AreIndexes, IsPromoted, IsPure, IsRegistered}
use Rattle.fields_follow.proofs.Checks.{check_ends, check_passes, check_replies}
use Rattle.code_lengths.specs.Ready.{IsReadyButForFields}
use Rattle.fields_follow.proofs.Forms.{HasItsCode}
use Rattle.fields_follow.proofs.Indexing.{AllCoded}
use Rattle.fields_follow.proofs.Instructions.{extents, has_words, place, shapes, word_in}
use Rattle.fields_follow.proofs.Listed.{AddressStands, TargetStands, address_stands, begins_there, target_stands, with_address, with_target}
use Rattle.fields_follow.proofs.Listed as Listed
use Rattle.fields_follow.proofs.Meaning.{Extents, value_in}
use Rattle.fields_follow.proofs.Parts.{AllBehind, AllHave, HasField, HasOne, IsBehind, PartsStand, all_have, behind_earlier, words_of}
use Rattle.fields_follow.proofs.Passing.{GivesField, Passes, fields_longer, flags_of, gives_on, next_own}
use Rattle.fields_follow.proofs.Places.{HoldsTheFields, IsOwnField, PlacesFields}
use Rattle.fields_follow.proofs.Routing.{as_many, indexes_at, outside_at, target_of}
use Rattle.fields_follow.proofs.Sizes.{promoted_small, value_small}
use Rattle.fields_follow.proofs.Writing.{PutsNext}
use Rattle.fields_follow.proofs.Locals.{IsNoHome}

-- nothing passes below a number where the least that does is none
least_clear : (f : ℕ → Bool) (n k : ℕ) → least_below f n ≡ None → k < n → f k ≡ false
unfolding least_below
least_clear f zero k none less = absurd (omega (arith, less))
least_clear f (suc n) k none less = by (least_below f n) (f n) refl refl (λ below low. least_clear f n k below low) none (split k n less)
  where
    split : (k n : ℕ) → k < suc n → (k < n) ⊎ (k ≡ n)
    split k n h = elim (cases_lt k n) [ inl low ↦ inl low | inr high ↦ inr (omega (arith, h, high)) ]

    by : (o : Option ℕ) (b : Bool) → least_below f n ≡ o → f n ≡ b → (least_below f n ≡ None → k < n → f k ≡ false) → or_else o (if b then Some n else None) ≡ None → (k < n) ⊎ (k ≡ n) → f k ≡ false
    by None false below here earlier h (inl low) = earlier below low
    by None false below here earlier h (inr same) = ap f same ∙ here
    by None true below here earlier h which = cc
    by (Some x) b below here earlier h which = cc

-- a step of the description is one more instruction
pub and_step : (next : Step) (e : Draft) → Extended e 1 (with_step next e)
unfolding with_step
and_step next e = record { more = next ∷ []; code = refl; long = refl; entries = []; fields = append_nothing e.fields; regs = omega arith; homes = []; homes_are = append_nothing e.homes }

-- what holds of one of a list holds of one of a longer list
any_later : {A : Type 0} (P : A → Type 0) (x : A) (xs : List A) → Any P xs → Any P (x ∷ xs)
any_later P x xs (k, y, less, there, holds) = (suc k, y, omega (arith, less), there, holds)

module _ (g : Setting) where
  abbrev coordinates_in : List Out → List Coordinate
  coordinates_in outs = map index_coordinate outs

  abbrev fields_in : List Out → List Field
  fields_in outs = flat_map fields_of_coordinate (coordinates_in outs)

  -- the signs with which they are checked
  signs_are : {k : _} (extents : Extents) (st : State) (p : List ℕ) (row : Row_of-TExpr k) (outs : List Out) → map (moved_signed p) (signed_coordinates (items-the_row-TExpr _ row) (coordinates_in outs)) ≡ with_signs (indexes_at extents st row) (map (moved_coordinate p) (coordinates_in outs))
  unfolding signed_coordinates indexes_at
  signs_are extents st p end_of-TExpr outs = refl
  signs_are extents st p (more_of-TExpr index rest) [] = refl
  signs_are extents st p (more_of-TExpr index rest) (out ∷ outs) = ap (λ (cs : List SignedCoordinate). record { coordinate = moved_coordinate p (index_coordinate out); signed = is_signed (type_of index).elem } ∷ cs) (signs_are extents st p rest outs)

  module _ (alive : Variable → Type 0) (places : PlacesFields g) (fields : HoldsTheFields g) where
    abbrev Have : ℕ → CodeState → List (ℕ → ℕ) → List Out → Type 0
    Have set t vs outs = AllHave g alive places fields set t vs outs

    -- the set that checks them
    set_is : {k : _} (extents : Extents) (st : State) (set of : ℕ) (t : CodeState) (p : List ℕ) (row : Row_of-TExpr k) (outs : List Out) → Have set t (words_of g set st row) outs → HasField outs → set_of_coordinates of (with_signs (indexes_at extents st row) (map (moved_coordinate p) (coordinates_in outs))) ≡ set
    unfolding indexes_at AllHave HasOne HasField index_coordinate words_of
    set_is extents st set of t p end_of-TExpr [] have some = absurd some
    set_is extents st set of t p end_of-TExpr (out ∷ outs) have some = absurd have
    set_is extents st set of t p (more_of-TExpr index rest) [] have some = absurd some
    set_is extents st set of t p (more_of-TExpr index rest) (O.Field f ∷ outs) have some = have.0.of_set
    set_is extents st set of t p (more_of-TExpr index rest) (O.Scalar r ∷ outs) have some = set_is extents st set of t p rest outs have.1 some
    set_is extents st set of t p (more_of-TExpr index rest) (O.Nothing ∷ outs) have some = absurd have.0

    -- so that set exists
    set_there : (set : ℕ) (t : CodeState) (vs : List (ℕ → ℕ)) (outs : List Out) → Have set t vs outs → HasField outs → set < length (shapes g)
    unfolding AllHave HasOne HasField
    set_there set t vs [] have some = absurd some
    set_there set t [] (out ∷ outs) have some = absurd have
    set_there set t (v ∷ vs) (O.Field f ∷ outs) have some = have.0.exists
    set_there set t (v ∷ vs) (O.Scalar r ∷ outs) have some = set_there set t vs outs have.1 some
    set_there set t (v ∷ vs) (O.Nothing ∷ outs) have some = absurd have.0

    -- they have them at another place of the code too
    one_on : (set : ℕ) (t : CodeState) (v : ℕ → ℕ) (out : Out) → HasOne g alive places fields set t v out → HasOne g alive places fields set (Machine.onward t) v out
    unfolding HasOne word_in
    one_on set t v (O.Field f) has = record { of_set = has.of_set; exists = has.exists; len = has.len; are = has.are; small = has.small }
    one_on set t v (O.Scalar r) has = has
    one_on set t v O.Nothing has = absurd has

    have_on : (set : ℕ) (t : CodeState) (vs : List (ℕ → ℕ)) (outs : List Out) → Have set t vs outs → Have set (Machine.onward t) vs outs
    unfolding AllHave
    have_on set t [] [] have = tt
    have_on set t (v ∷ vs) (out ∷ outs) have = (one_on set t v out have.0, have_on set t vs outs have.1)
    have_on set t [] (out ∷ outs) have = absurd have
    have_on set t (v ∷ vs) [] have = absurd have

    -- an instruction that names them all names them behind a draft
    all_behind : (i : Instr) (later : ℕ) (e : Draft) (outs : List Out) → StandsAt g.unit later i → length e.code ≤ later → ((P : Field → Type 0) → Any P (fields_in outs) → Any P (fields_of i)) → AllBehind g outs e
    unfolding AllBehind IsBehind index_coordinate
    all_behind i later e [] there less names = tt
    all_behind i later e (O.Field f ∷ outs) there less names = (
      (later, ((i, there, names (λ (h : Field). entry_of h ≡ f.offset) (0, f, omega arith, refl, refl)), less)),
      all_behind i later e outs there less (λ P any. names P (any_later P f (fields_in outs) any)),
    )
    all_behind i later e (O.Scalar r ∷ outs) there less names = (tt, all_behind i later e outs there less names)
    all_behind i later e (O.Nothing ∷ outs) there less names = (tt, all_behind i later e outs there less names)

    -- the words of the registers among them
    abbrev words_in : List Coordinate → CodeState → List ℕ
    words_in cs t = map (λ (r : ℕ). slice_index t.registers r) (flat_map registers_of_coordinate cs)

    signed_registers : {k : _} (extents : Extents) (st : State) (set : ℕ) (t : CodeState) (p : List ℕ) (row : Row_of-TExpr k) (outs : List Out) → Have set t (words_of g set st row) outs
        → flat_map (λ (c : SignedCoordinate). registers_of_coordinate (coordinate_of c)) (with_signs (indexes_at extents st row) (map (moved_coordinate p) (coordinates_in outs))) ≡ flat_map registers_of_coordinate (map (moved_coordinate p) (coordinates_in outs))
    unfolding indexes_at AllHave words_of
    signed_registers extents st set t p end_of-TExpr [] have = refl
    signed_registers extents st set t p end_of-TExpr (out ∷ outs) have = absurd have
    signed_registers extents st set t p (more_of-TExpr index rest) [] have = absurd have
    signed_registers extents st set t p (more_of-TExpr index rest) (out ∷ outs) have =
        ap (λ (rs : List ℕ). registers_of_coordinate (moved_coordinate p (index_coordinate out)) ++ rs) (signed_registers extents st set t p rest outs have.1)

    -- what makes an address of them does so
    address_names : (at : ℕ) (d : Field) (set : ℕ) (outs : List Out) (h : AddressStands g at d set (coordinates_in outs)) (P : Field → Type 0) → Any P (fields_in outs) → Any P (fields_of (I.MakeAddress d set h.list))
    address_names at d set outs h P any =
        any_later P d (flat_map fields_of_coordinate h.list.items ++ [])
        (subst (λ (fs : List Field). Any P fs) (append_nothing (flat_map fields_of_coordinate h.list.items)) (subst (λ (cs : List Coordinate). Any P (flat_map fields_of_coordinate cs)) (sym h.items) any))

    -- the check goes on, or ends the run
    check_begun : (set : ℕ) (place_of : Place) (list : _) (s : CodeState)
        → begun g.image (I.CheckTarget set place_of list) s ≡ (elim (least_failing (shapes g) (I.CheckTarget set place_of list) (arguments_at (I.CheckTarget set place_of list) s.registers) s.memory) as (λ _. Next) [ None ↦ Goes (Machine.onward s) | Some q ↦ Machine.Ends (Machine.Fault Index place_of (Some q)) (Machine.onward s) ])
    unfolding begun applied after
    check_begun set place_of list s = check_replies (I.CheckTarget set place_of list) Index place_of (Machine.onward s) (λ q. refl) (least_failing (shapes g) (I.CheckTarget set place_of list) (arguments_at (I.CheckTarget set place_of list) s.registers) s.memory)

    -- where no index is outside, each lies within its extent at the active positions
    pub inside : (set of : ℕ) (given : List Operand) → set < length (shapes g) → of < length (shapes g) → outside_at fields.scope fields.active set of given ≡ None → (q : ℕ) → q < processors (shapes g) set → fields.active set q ≡ true → are_within (extents g of).own given q ≡ true
    unfolding failing positions
    inside set of given exists there none q below on =
        ap (λ (xs : List ℕ). are_within xs given q) (sym (fields.same_extents of there))
        ∙ by (fields.active set q) (are_within (fields.scope.extents of) given q) on
        (least_clear (λ p. fields.active set p && not (are_within (fields.scope.extents of) given p)) (positions fields.scope set) q (is_none (least_below (λ p. fields.active set p && not (are_within (fields.scope.extents of) given p)) (positions fields.scope set)) none)
        (subst (λ (xs : List ℕ). q < position_count xs) (sym (fields.same_extents set exists)) below))
      where
        is_none : (o : Option ℕ) → (elim o as (λ _. Option (Option ℕ)) [ None ↦ None | Some p ↦ Some (Some p) ]) ≡ None → o ≡ None
        is_none None h = refl
        is_none (Some p) h = cc

        by : (a w : Bool) → a ≡ true → (a && not w) ≡ false → w ≡ true
        by true true h k = refl
        by true false h k = cc
        by false w h k = cc

    module _ (has : HasRegisters g) (n : ℕ) (ready : (d : Draft) → IsReadyButForFields g.typed g.instance (layout g) n d) where
      abbrev Coded : {k : _} → Row_of-TExpr k → Type 0
      Coded row = AllCoded g has alive n ready places fields row

      index_small : (set : ℕ) (st : State) (t : CodeState) (index : TExpr) (q : ℕ) → IsPure set index ⊎ (IsPromoted set index × IsRegistered index) → HasItsCode g.typed g.instance alive n index → Sim g alive st t → value_in (extents g set) st index q < 2 ^ (type_of index).elem.bits
      index_small set st t index q (inl pure) c sim = value_small g alive n places fields set index st t sim pure c q
      index_small set st t index q (inr promoted) c sim = promoted_small g alive n places fields set index st t sim promoted.0 c q

      -- where they have their words, the coordinates in the image have the indexes
      indexes_there : {k : _} (set : ℕ) (st : State) (t : CodeState) (row : Row_of-TExpr k) (outs : List Out) (q : ℕ) → AreIndexes set row → Coded row → Sim g alive st t → Have set t (words_of g set st row) outs → q < processors (shapes g) set → is_active (shapes g) t.memory set q ≡ true
          → HasIndexes t.memory (words_in (map (moved_coordinate (Listed.places g)) (coordinates_in outs)) t) q (map (moved_coordinate (Listed.places g)) (coordinates_in outs)) (indexes_at (extents g set) st row)
      unfolding AreIndexes AllCoded AllHave HasOne words_of indexes_at index_coordinate at word_in
      indexes_there set st t end_of-TExpr [] q are coded sim have below on = tt
      indexes_there set st t end_of-TExpr (out ∷ outs) q are coded sim have below on = absurd have
      indexes_there set st t (more_of-TExpr index rest) [] q are coded sim have below on = absurd have
      indexes_there set st t (more_of-TExpr index rest) (O.Field f ∷ outs) q are coded sim have below on =
          (record { wide = have.0.len; word = has_words g set f t _ have.0 q below on; small = index_small set st t index q are.0 coded.0 sim }, indexes_there set st t rest outs q are.1 coded.1 sim have.1 below on)
      indexes_there set st t (more_of-TExpr index rest) (O.Scalar r ∷ outs) q are coded sim have below on =
          (record { wide = tt; word = sym (have.0 q); small = index_small set st t index q are.0 coded.0 sim }, indexes_there set st t rest outs q are.1 coded.1 sim have.1 below on)
      indexes_there set st t (more_of-TExpr index rest) (O.Nothing ∷ outs) q are coded sim have below on = absurd have.0

      -- the instruction that makes the address
      address_next : {k : _} (set of : ℕ) (st : State) (s : CodeState) (row : Row_of-TExpr k) (outs : List Out) (d : Field) (e : Draft) → d.set ≡ set → set < length (shapes g) → of < length (shapes g) → AreIndexes set row → Coded row → Sim g alive st s → Have set s (words_of g set st row) outs → outside_at fields.scope fields.active set of (indexes_at (extents g set) st row) ≡ None
          → At g s (length e.code) → (h : AddressStands g (length e.code) d of (coordinates_in outs)) → PutsNext g places fields alive set (I.MakeAddress d of h.list) d e s (target_of of (extents g set) st row)
      unfolding begun applied after
      address_next set of st s row outs d e of_set exists also are coded sim have none here h = record {
        there = h.there;
        others = _;
        names = refl;
        ends = places.address_ends (length e.code) d of h.over h.moved_there;
        takes = record {
          write = elementwise (shapes g) (I.MakeAddress (place g d) of h.over) args s.memory;
          run = refl;
          writes = λ p. refl;
          value = λ p below on. ap (λ (x : ℕ). x % 2 ^ d.len)
              (addresses (shapes g) s.memory args (place g d) of h.over given p (places.geometry of also)
              (subst (λ (cs : List Coordinate). HasIndexes s.memory (words_in cs s) p cs given) (sym h.moved_items) (indexes_there set st s row outs p are coded sim have below on)) (within p below on));
          small = λ p below on.
              let low = indexes_within_name_positions (extents g of).own given p (within p below on) in
              let few = (geometry_parts (extents g of).own (places.geometry of also)).3 in
              omega (arith, low, few);
        };
        goes = begins_there g (length e.code) (I.MakeAddress (place g d) of h.over) s h.moved_there here;
      }
        where
          args : List ℕ
          args = arguments_at (I.MakeAddress (place g d) of h.over) s.registers

          given : List Operand
          given = indexes_at (extents g set) st row

          within : (p : ℕ) → p < processors (shapes g) set → is_active (shapes g) s.memory set p ≡ true → are_within (extents g of).own given p ≡ true
          within p below on = inside set of given exists also none p below (sym (flags_of g alive places fields st s set p sim exists below) ∙ on)

      -- both
      pub located_after : {k : _} (set of bound : ℕ) (place_of : Place) (row : Row_of-TExpr k) (outs : List Out) (dest : Field) (d e : Draft) (s : CodeState) (st : State) (Q : Draft → Type 0) → AreIndexes set row → HasField outs → Coded row → length (items-the_row-TExpr _ row) ≡ length (extents g of).own → of < length (shapes g)
          → dest.len ≡ 32 → dest.set ≡ set → bound ≤ dest.offset → dest.offset < length e.fields → IsOwnField g dest → IsNoHome g (OpenAmong g alive) dest.offset → PartsStand g alive bound d s set st (words_of g set st row) outs e
          → Within g (with_step (MakesAddress dest of (coordinates_in outs)) (with_step (ChecksTarget of place_of (signed_coordinates (items-the_row-TExpr _ row) (coordinates_in outs))) e))
          → (outside_at fields.scope fields.active set of (indexes_at (extents g set) st row) ≡ None → (f : Draft) → GivesField g alive 32 bound d s set st (target_of of (extents g set) st row) dest f → Q f)
          → ((q : ℕ) → outside_at fields.scope fields.active set of (indexes_at (extents g set) st row) ≡ Some (Some q) → Finishes g (Source.Fault Index place_of (Some q)) st s → (f : Draft) → Q f)
          → Q (with_step (MakesAddress dest of (coordinates_in outs)) (with_step (ChecksTarget of place_of (signed_coordinates (items-the_row-TExpr _ row) (coordinates_in outs))) e))
      unfolding check_passes
      located_after set of bound place_of row outs dest d e s st Q are some coded many also long of_set newer older own none a within known faults = by least refl
        where
          coordinates : List Coordinate
          coordinates = coordinates_in outs

          signed : List SignedCoordinate
          signed = signed_coordinates (items-the_row-TExpr _ row) coordinates

          checking : Step
          checking = ChecksTarget of place_of signed

          making : Step
          making = MakesAddress dest of coordinates

          given : List Operand
          given = indexes_at (extents g set) st row

          t : CodeState
          t = a.passes.t

          target : TargetStands g (length e.code) of place_of signed
          target = target_stands g (length e.code) of place_of signed (next_stands g checking e (earlier g (with_step checking e) (with_step making (with_step checking e)) 1 (and_step making (with_step checking e)) within))

          check : Instr
          check = I.CheckTarget of place_of target.list

          checked : Draft
          checked = with_instr check e

          same_checked : checked ≡ with_step checking e
          same_checked = with_target g e (length e.code) of place_of signed target

          address : AddressStands g (length checked.code) dest of coordinates
          address = address_stands g (length checked.code) dest of coordinates (next_stands g making checked (subst (λ (x : Draft). Within g (with_step making x)) (sym same_checked) within))

          make : Instr
          make = I.MakeAddress dest of address.list

          made : Draft
          made = with_instr make checked

          same_made : made ≡ with_step making (with_step checking e)
          same_made = with_address g checked (length checked.code) dest of coordinates address ∙ ap (with_step making) same_checked

          behind : AllBehind g outs e
          behind = behind_earlier g outs e checked (let more = code_more g check e in omega (arith, more)) (all_behind make (length checked.code) checked outs address.there (omega arith) (address_names (length checked.code) dest of outs address))

          sure : Passes g alive bound d e s st (Unit {0})
          sure = record {
            grown = a.passes.grown;
            t = t;
            go = a.passes.go;
            at = a.passes.at;
            registers = a.passes.registers;
            sim = a.passes.sim;
            stays = λ u. a.passes.stays behind;
          }

          have : Have set t (words_of g set st row) outs
          have = all_have g alive places fields bound d e s set st (AllBehind g outs e) a.passes (words_of g set st row) outs behind (a.stand behind)

          args : List ℕ
          args = arguments_at (I.CheckTarget of place_of target.over) t.registers

          least : Option ℕ
          least = least_failing (shapes g) (I.CheckTarget of place_of target.over) args t.memory

          own_extents : (x : ℕ) → x < length (shapes g) → (extents g x).own ≡ fields.scope.extents x
          own_extents x there = sym (fields.same_extents x there)

          exists : set < length (shapes g)
          exists = set_there set t (words_of g set st row) outs have some

          listed : target.over.items ≡ with_signs given (map (moved_coordinate (Listed.places g)) coordinates)
          listed = target.moved_items ∙ signs_are (extents g set) st (Listed.places g) row outs

          words : args ≡ words_in (map (moved_coordinate (Listed.places g)) coordinates) t
          words = ap (λ (cs : List SignedCoordinate). map (λ (r : ℕ). slice_index t.registers r) (flat_map (λ (c : SignedCoordinate). registers_of_coordinate (coordinate_of c)) cs)) listed ∙ ap (λ (rs : List ℕ). map (λ (r : ℕ). slice_index t.registers r) rs) (signed_registers (extents g set) st set t (Listed.places g) row outs have)

          flags : (q : ℕ) → q < processors (shapes g) set → is_active (shapes g) t.memory set q ≡ fields.active set q
          flags q below = flags_of g alive places fields st t set q a.passes.sim exists below

          outside : outside_at fields.scope fields.active set of given ≡ failing_at least
          outside =
              checks_of_indexes (shapes g) t.memory args fields.scope fields.active set of place_of target.over (map (moved_coordinate (Listed.places g)) coordinates) given (own_extents set exists) (own_extents of also) (as_many (extents g set) st row ∙ many ∙ ap length (own_extents of also)) listed
              (ap (set_of_coordinates of) listed ∙ set_is (extents g set) st set of t (Listed.places g) row outs have some) flags
              (λ q below on. subst (λ (ws : List ℕ). HasIndexes t.memory ws q (map (moved_coordinate (Listed.places g)) coordinates) given) (sym words) (indexes_there set st t row outs q are coded a.passes.sim have below (flags q below ∙ on)))

          stepped : (o : Option ℕ) → least ≡ o → step g.image t ≡ (elim o as (λ _. Next) [ None ↦ Goes (Machine.onward t) | Some q ↦ Machine.Ends (Machine.Fault Index place_of (Some q)) (Machine.onward t) ])
          stepped o is =
              begins_there g (length e.code) (I.CheckTarget of place_of target.over) t target.moved_there a.passes.at.stands ∙ check_begun of place_of target.over t
              ∙ ap (λ (x : Option ℕ). elim x as (λ _. Next) [ None ↦ Goes (Machine.onward t) | Some q ↦ Machine.Ends (Machine.Fault Index place_of (Some q)) (Machine.onward t) ]) is

          no_open : IsNoHome g (OpenAmong g alive) dest.offset
          no_open = none

          by : (o : Option ℕ) → least ≡ o → Q (with_step making (with_step checking e))
          by None none =
              let clear : outside_at fields.scope fields.active set of given ≡ None = outside ∙ ap failing_at none in
              let goes : Passes g alive bound d checked s st (Unit {0}) = check_passes g alive check bound d e s st sure (stepped None none) in
              subst Q same_made (known clear made
              (gives_on g alive 32 bound bound d checked made s set st (target_of of (extents g set) st row) dest (Unit {0}) (omega arith) goes (λ b. tt)
              (next_own g alive places fields 32 bound set make dest checked goes.t st (target_of of (extents g set) st row) newer (let more = fields_longer e checked 1 (and_one g check e) in omega (arith, older, more)) own no_open of_set long goes.at goes.sim
              (address_next set of st goes.t row outs dest checked of_set exists also are coded goes.sim (have_on set t (words_of g set st row) outs have) clear goes.at.stands address))))
          by (Some q) some = faults q (outside ∙ ap failing_at some) (check_ends g alive check bound d e s st sure Index place_of q (stepped (Some q) some)) (with_step making (with_step checking e))
