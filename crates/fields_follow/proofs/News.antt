-- The code of a get from neighbours: a check of the steps that may leave the grid, and the steps, of which the last one puts
-- the numbers in a field, or both end where a position is led out of the grid.
use denote.Hole.Carrier
use Rattle.std.proofs.Common.{◌≡◌, ◌∙◌, ℕ, ◌+◌, ◌<◌, ◌≤◌, ◌^◌, ◌&&◌, Bool, true, not, List, [], ◌∷◌, length, Option, Some, None, refl, sym, ap, subst, arith, if◌then◌else◌, false, inl, inr}
use Rattle.std.specs.Prelude.{is_some, nat_lt}
use Rattle.std.proofs.lemmas.Bool.Decides.{nat_tests}
use Rattle.communication_laws.specs.Indexes.{failing_at}
use Rattle.communication_laws.specs.Steps.{AllLead}
use Rattle.communication_laws.proofs.Steps.{checks_of_steps}
use Rattle.cstar_base.specs.declared.elem.Elem.{Elem}
use Rattle.cstar_base.specs.declared.faults.RunFault.TheVariants.{Index}
use Rattle.cstar_base.specs.declared.operators.Place.{Place}
use Rattle.cstar_base.specs.Orders.{least_below}
use Rattle.cstar_tree.specs.declared.typed.TExpr.{TExpr, Row_of-TExpr, items-the_row-TExpr, items_shown-the_row-TExpr-0, out-TExpr}
use Rattle.cstar_tree.specs.declared.typed.TExpr as T
use Rattle.cstar_tree.specs.declared.typed.Typed.{Typed}
use Rattle.cstar_tree.specs.declared.typed.ValueType.{ValueType}
use Rattle.cstar_tree.specs.declared.typed.VarInfo.{VarInfo}
use Rattle.cstar_tree.specs.declared.typed.Variable.{Variable}
use Rattle.cstar_tree.specs.Conversions.{parallel}
use Rattle.cstar_tree.specs.StatementTypes.{variable_info}
use Rattle.code_lengths.specs.Naming.{HasVariable, plain}
use Rattle.code_lengths.specs.Ready.{IsReadyButForFields}
use Rattle.lower_base.specs.declared.emit.Out.{Out}
use Rattle.lower_base.specs.declared.emit.Out.TheVariants as O
use Rattle.lower_base.specs.Layouts.{Layout, field_of}
use Rattle.lower_base.specs.Drafts.{ChecksGrid, Draft, Made, Makes, Step, an_entry, first_bits, in_field, then_make, with_instr, with_step}
use Rattle.lower_comm.specs.declared.gets.Hop.{Hop}
use Rattle.lower_comm.specs.Messages.{bits_read, checked_grid, communicated, gotten_by_steps, grid_steps, is_extended, moving_steps, read_at, stepwise, with_grid_check}
use Rattle.lower_comm.specs.News.{all_go_by_news, goes_by_news}
use Rattle.lower_expr.specs.declared.spots.Spot.{Spot}
use Rattle.lower_expr.specs.Values.{index_read_to, news_to, read_to}
use Rattle.paris_code.specs.declared.instr.Instr.{Instr}
use Rattle.paris_code.specs.declared.instr.Instr.TheVariants as I
use Rattle.paris_code.specs.declared.operands.Field.{Field}
use Rattle.paris_code.specs.declared.operands.GridStep.{GridStep}
use Rattle.paris_code.specs.declared.program.Owner.TheVariants as W
use Rattle.paris_code.specs.Checking.{least_failing}
use Rattle.paris_code.specs.Code as Machine
use Rattle.paris_code.specs.Code.{CodeState, Goes, Next, applied, arguments_at, begun, step}
use Rattle.paris_code.specs.Meaning.{after}
use Rattle.paris_code.specs.Memory.{processors}
use Rattle.paris_code.specs.Spans.{IsNamedAt}
use Rattle.source_meaning.specs.Expressions.{operands}
use Rattle.source_meaning.specs.Gets.{Operand, are_within, named_by}
use Rattle.source_meaning.specs.State as Source
use Rattle.source_meaning.specs.State.{State}
use Rattle.source_meaning.specs.Values.{Parallel, failing, positions}
use Rattle.vp_sets.specs.Positions.{are_positive, number_at}
use Rattle.code_follows.proofs.Following.{HasRegisters, Sim, held}
use Rattle.code_follows.proofs.Growing.{Extended, extended}
use Rattle.code_follows.proofs.Settings.{Setting, Within, earlier, layout, next_stands, start}
use Rattle.fields_follow.specs.Fragment.{AreSteps, IsOfFileOrBlock}
use Rattle.fields_follow.proofs.Checks.{check_ends, check_passes, check_replies}
use Rattle.fields_follow.proofs.Extents.{NameExtents, extents_in}
use Rattle.fields_follow.proofs.Gets.{all_go, names_long, steps_lead, steps_move}
use Rattle.fields_follow.proofs.Hops.{HasEverywhere, MovesLast, Reads, moves_last, names_source, origin, puts_where, steps_extend, variable_everywhere}
use Rattle.fields_follow.proofs.Instructions.{Puts, extents, shapes}
use Rattle.fields_follow.proofs.Lengths.{held_has}
use Rattle.fields_follow.proofs.Listed.{GridStands, begins_there, grid_stands, with_grid}
use Rattle.fields_follow.proofs.Locating.{inside}
use Rattle.fields_follow.proofs.Meaning.{none_fails, value_in, word_at}
use Rattle.fields_follow.proofs.Neighbours.{LeadAt, fit_positive, moves_are, moves_of, steps_mean}
use Rattle.fields_follow.proofs.Outcomes.{Ended, meant}
use Rattle.fields_follow.proofs.Passing.{After, Passes, after_same, fields_longer, flags_of, made_after, nothing_after, passes_all, passes_from, passes_on}
use Rattle.fields_follow.proofs.Places.{HoldsTheFields, PlacesFields}
use Rattle.fields_follow.proofs.Routing.{as_many, indexes_at, outside_at, routed_faults, routed_gives, routed_value}
use Rattle.fields_follow.proofs.Values.{Finds, FindsOrFails, and_entry, finds_read, next_field, one_more, starts_found, taken, with_entry}
use Rattle.fields_follow.proofs.Starts.{no_home, starts_entry, Starts}
use Rattle.fields_follow.proofs.Variables.{Carries, variable_fits}

-- such a get goes by NEWS
goes : (ty : ValueType) (place : Place) (p : _) (indexes : Row_of-TExpr _) (x : Variable) (of set : ℕ) → ty.shape ≡ Some set → of ≡ set → AreSteps set 0 indexes → goes_by_news (T.LeftIndex' ty place p indexes x of) ≡ true
unfolding goes_by_news out-TExpr Carrier.out
goes ty place p indexes x of set shaped same are =
    ap (λ (xs : List TExpr). is_some ty.shape && all_go_by_news of 0 xs) (items_shown-the_row-TExpr-0 p indexes)
    ∙ ap (λ (n : ℕ). is_some ty.shape && all_go_by_news n 0 (items-the_row-TExpr _ indexes)) same
    ∙ ap (λ (o : Option ℕ). is_some o && all_go_by_news set 0 (items-the_row-TExpr _ indexes)) shaped
    ∙ all_go set 0 indexes are

-- the steps that may leave the grid are checked
grid_is : (ty : ValueType) (place : Place) (p : _) (indexes : Row_of-TExpr _) (x : Variable) (of set : ℕ) (d : Draft) → ty.shape ≡ Some set → of ≡ set
    → checked_grid (T.LeftIndex' ty place p indexes x of) d ≡ Makes O.Nothing (with_grid_check set place (grid_steps set 0 (items-the_row-TExpr _ indexes)) d)
unfolding checked_grid out-TExpr Carrier.out
grid_is ty place p indexes x of set d shaped same =
    ap (λ (xs : List TExpr). Makes O.Nothing (with_grid_check (elim ty.shape as (λ _. ℕ) [ None ↦ of | Some s ↦ s ]) place (grid_steps of 0 xs) d)) (items_shown-the_row-TExpr-0 p indexes)
    ∙ ap (λ (n : ℕ). Makes O.Nothing (with_grid_check (elim ty.shape as (λ _. ℕ) [ None ↦ of | Some s ↦ s ]) place (grid_steps n 0 (items-the_row-TExpr _ indexes)) d)) same
    ∙ ap (λ (o : Option ℕ). Makes O.Nothing (with_grid_check (elim o as (λ _. ℕ) [ None ↦ of | Some s ↦ s ]) place (grid_steps set 0 (items-the_row-TExpr _ indexes)) d)) shaped

-- it is read through the field of its variable
field_read : (t : Typed) (l : Layout) (ty : ValueType) (place : Place) (p : _) (indexes : Row_of-TExpr _) (x : Variable) (of : ℕ) (into : Out) (d : Draft)
    → communicated t l (T.LeftIndex' ty place p indexes x of) O.Nothing [] into d ≡ then_make (field_of t l x 0 d) (λ source after. read_at of (items-the_row-TExpr _ indexes) ty.elem source O.Nothing into after)
unfolding communicated out-TExpr Carrier.out
field_read t l ty place p indexes x of into d = ap (λ (xs : List TExpr). then_make (field_of t l x 0 d) (λ source after. read_at of xs ty.elem source O.Nothing into after)) (items_shown-the_row-TExpr-0 p indexes)

-- so much of the field is read, and two entries are taken to go through
abbrev hop_bits : Elem → Field → Field → ℕ
hop_bits elem dest source = (bits_read elem dest source).len

abbrev for_hop : ℕ → ℕ → Draft → Draft
for_hop read set d = with_entry set read W.Own d

abbrev for_hops : ℕ → ℕ → Draft → Draft
for_hops read set d = with_entry set read W.Own (for_hop read set d)

abbrev hop_of : Field → ℕ → Draft → Hop
hop_of source set d = record { source = source; next = next_field set source.len d; spare = next_field set source.len (for_hop source.len set d) }

offset_read : (elem : Elem) (dest source : Field) → (bits_read elem dest source).offset ≡ source.offset
unfolding bits_read first_bits
offset_read elem dest source = by (is_extended elem dest)
  where
    by : (b : Bool) → (if b then source else record source { len = dest.len }).offset ≡ source.offset
    by true = refl
    by false = refl

-- the steps, from a draft on
abbrev walk : Elem → Field → List GridStep → Field → Draft → Draft
walk elem dest steps source d = stepwise elem dest steps (hop_of (bits_read elem dest source) dest.set d) (for_hops (hop_bits elem dest source) dest.set d)

module _ (g : Setting) where
  code_is : (ty : ValueType) (place : Place) (p : _) (indexes : Row_of-TExpr _) (x : Variable) (of set : ℕ) (f : Field) (spot : Draft → Made Spot) (d : Draft) → ty.shape ≡ Some set → of ≡ set → AreSteps set 0 indexes
      → index_read_to g.typed (layout g) (T.LeftIndex' ty place p indexes x of) spot (O.Field f) d
      ≡ then_make (field_of g.typed (layout g) x 0 (with_grid_check set place (grid_steps set 0 (items-the_row-TExpr _ indexes)) d)) (λ source after. Makes (O.Field f) (walk ty.elem f (moving_steps set 0 (items-the_row-TExpr _ indexes)) source after))
  unfolding index_read_to news_to then_make read_at in_field an_entry gotten_by_steps
  code_is ty place p indexes x of set f spot d shaped same are =
      ap (λ (b : Bool). if b then news_to g.typed (layout g) e (O.Field f) d else read_to g.typed (layout g) e spot (O.Field f) d) (goes ty place p indexes x of set shaped same are)
      ∙ ap (λ (m : Made Out). then_make m (λ _ after. communicated g.typed (layout g) e O.Nothing [] (O.Field f) after)) (grid_is ty place p indexes x of set d shaped same)
      ∙ field_read g.typed (layout g) ty place p indexes x of (O.Field f) checked
      ∙ ap (λ (n : ℕ). then_make (field_of g.typed (layout g) x 0 checked) (λ source after. read_at n (items-the_row-TExpr _ indexes) ty.elem source O.Nothing (O.Field f) after)) same
    where
      e : TExpr
      e = T.LeftIndex' ty place p indexes x of

      checked : Draft
      checked = with_grid_check set place (grid_steps set 0 (items-the_row-TExpr _ indexes)) d

  -- the check goes on, or ends the run
  grid_begun : (set : ℕ) (place_of : Place) (list : _) (s : CodeState)
      → begun g.image (I.CheckGrid set place_of list) s ≡ (elim (least_failing (shapes g) (I.CheckGrid set place_of list) (arguments_at (I.CheckGrid set place_of list) s.registers) s.memory) as (λ _. Next) [ None ↦ Goes (Machine.onward s) | Some q ↦ Machine.Ends (Machine.Fault Index place_of (Some q)) (Machine.onward s) ])
  unfolding begun applied after
  grid_begun set place_of list s = check_replies (I.CheckGrid set place_of list) Index place_of (Machine.onward s) (λ q. refl) (least_failing (shapes g) (I.CheckGrid set place_of list) (arguments_at (I.CheckGrid set place_of list) s.registers) s.memory)

  -- the steps go on from the draft behind the field
  walk_extends : (elem : Elem) (dest : Field) (steps : List GridStep) (source : Field) (d : Draft) → (n : ℕ) × Extended d n (walk elem dest steps source d)
  walk_extends elem dest steps source d =
      let read = hop_bits elem dest source in
      let rest = steps_extend g elem dest steps (hop_of (bits_read elem dest source) dest.set d) (for_hops read dest.set d) in
      (0 + rest.0, extended d (for_hops read dest.set d) (walk elem dest steps source d) 0 rest.0 (extended d (for_hop read dest.set d) (for_hops read dest.set d) 0 0 (and_entry dest.set read W.Own d) (and_entry dest.set read W.Own (for_hop read dest.set d))) rest.1)

  module _ (has : HasRegisters g) (alive : Variable → Type 0) (n : ℕ) (ready : (d : Draft) → IsReadyButForFields g.typed g.instance (layout g) n d) (places : PlacesFields g) (fields : HoldsTheFields g) where
    -- what is read has no more bits than the variable, and has its words
    reading : (elem : Elem) (set of : ℕ) (dest source : Field) (x : Variable) (info : VarInfo) (s : CodeState) (st : State) → dest.len ≤ 32 → info.elem ≡ elem → Carries g alive x info of source → (later : ℕ) → IsNamedAt g.unit source.offset later → s.at ≤ start g + later → Sim g alive st s
        → Reads g places fields alive elem dest (hop_bits elem dest source) × HasEverywhere g (hop_bits elem dest source) of (bits_read elem dest source) s (λ q. held elem (st.parallel x 0 q))
    unfolding bits_read is_extended first_bits
    reading elem set of dest source x info s st most same carries later named behind sim = by (nat_lt elem.bits dest.len) refl
      where
        bits : info.elem.bits ≡ elem.bits
        bits = ap (λ (y : Elem). y.bits) same

        there : (read : ℕ) → read ≤ info.elem.bits → HasEverywhere g read of (record source { len = read }) s (λ q. held elem (st.parallel x 0 q))
        there read fits = subst (λ (y : Elem). HasEverywhere g read of (record source { len = read }) s (λ q. held y (st.parallel x 0 q))) same (variable_everywhere g places fields alive read of x info source s st carries fits later named behind sim)

        part : Bool → Field
        part b = if b then source else first_bits dest.len source

        Given : Bool → Type 0
        Given b = Reads g places fields alive elem dest (part b).len × HasEverywhere g (part b).len of (part b) s (λ q. held elem (st.parallel x 0 q))

        by : (b : Bool) → nat_lt elem.bits dest.len ≡ b → Given (nat_lt elem.bits dest.len)
        by true more = subst Given (sym more) (inr (more, sym bits ∙ sym carries.len, most), there source.len (let all = carries.len in omega (arith, all)))
        by false enough = subst Given (sym enough) (inl (enough, refl), there dest.len (let low : dest.len ≤ elem.bits = grind (arith, nat_tests, enough) in omega (arith, low, bits)))

    -- so the last instruction of the steps puts those of the neighbours
    walks : {m : _} (ty : ValueType) (row : Row_of-TExpr m) (x : Variable) (set offset bits bound : ℕ) (info : VarInfo) (d : Draft) (s : CodeState) (st : State) → bits ≤ 32 → info.elem ≡ ty.elem → AreSteps set 0 row → length (items-the_row-TExpr _ row) ≡ length (extents g set).own → bound ≤ length d.fields
        → Starts g alive s (length d.code) d.regs (length d.fields) → Sim g alive st s → (found : Finds g has alive n ready places fields set x info d) → (Q : Draft → Type 0)
        → ((e2 : Draft) (i : Instr) → Within g (with_instr i e2) → (passes : Passes g alive bound d e2 s st (Unit {0})) → Puts g set i (record { set = set; offset = offset; len = bits }) passes.t (λ q. held ty.elem (st.parallel x 0 (origin g set (moving_steps set 0 (items-the_row-TExpr _ row)) q))) → Q (with_instr i e2))
        → Within g (walk ty.elem (record { set = set; offset = offset; len = bits }) (moving_steps set 0 (items-the_row-TExpr _ row)) found.f found.e) → Q (walk ty.elem (record { set = set; offset = offset; len = bits }) (moving_steps set 0 (items-the_row-TExpr _ row)) found.f found.e)
    unfolding passes_from
    walks ty row x set offset bits bound info d s st most elem are long less here sim found Q last within =
        let (e2, (i, (is_made, (passes, puts)))) = moves in
        subst Q (sym is_made)
        (last e2 i (subst (λ (e : Draft). Within g e) is_made within)
        (passes_from g alive bound d d1 e2 s st (Unit {0}) found.grown (passes_from g alive bound d1 d2 e2 s st (Unit {0}) (and_entry set read W.Own d1) (passes_from g alive bound d2 d3 e2 s st (Unit {0}) (and_entry set read W.Own d2) passes))) puts)
      where
        f : Field
        f = record { set = set; offset = offset; len = bits }

        steps : List GridStep
        steps = moving_steps set 0 (items-the_row-TExpr _ row)

        d1 : Draft
        d1 = found.e

        part : Field
        part = bits_read ty.elem f found.f

        read : ℕ
        read = part.len

        d2 : Draft
        d2 = for_hop read set d1

        d3 : Draft
        d3 = for_hops read set d1

        hop : Hop
        hop = hop_of part set d1

        made : Draft
        made = stepwise ty.elem f steps hop d3

        more : (n : ℕ) × Extended d3 n made
        more = steps_extend g ty.elem f steps hop d3

        behind2 : Extended d2 (0 + more.0) made
        behind2 = extended d2 d3 made 0 more.0 (and_entry set read W.Own d2) more.1

        carries : Carries g alive x info set found.f
        carries = found.carries made (0 + (0 + more.0)) (extended d1 d2 made 0 (0 + more.0) (and_entry set read W.Own d1) behind2) within

        begins : Starts g alive s (length d3.code) d3.regs (length d3.fields)
        begins = starts_entry g alive _ _ (starts_entry g alive _ _ (starts_found g has alive n ready places fields set x info d s found here))

        one : length d2.fields ≡ length d1.fields + 1
        one = one_more set read W.Own d1

        wider : length d.fields ≤ length d1.fields
        wider = fields_longer d d1 0 found.grown

        positive : are_positive (extents g set).own ≡ true
        positive = fit_positive (extents g set).own (places.grids set carries.exists).1

        named : IsNamedAt g.unit found.f.offset (length d3.code)
        named = subst (λ (at : ℕ). IsNamedAt g.unit at (length d3.code)) (offset_read ty.elem f found.f) (names_source g ty.elem f steps hop d3 within)

        given : Reads g places fields alive ty.elem f read × HasEverywhere g read set part s (λ q. held ty.elem (st.parallel x 0 q))
        given = reading ty.elem set set f found.f x info s st most elem carries (length d3.code) named (let stands = begins.stands in omega (arith, stands)) sim

        moves : MovesLast g places fields alive ty.elem f read given.0 bound set steps hop (λ q. held ty.elem (st.parallel x 0 q)) d3 s st
        moves =
            moves_last g places fields alive ty.elem f read given.0 bound set steps hop (λ q. held ty.elem (st.parallel x 0 q)) d3 s st (steps_move g set positive row are long)
            (λ q below. held_has ty.elem (st.parallel x 0 q) (subst (λ (y : Elem). st.parallel x 0 q < 2 ^ y.bits) elem (carries.small st s sim q)))
            (omega (arith, less, wider), taken g set read W.Own d1 made (0 + more.0) within behind2, refl, refl, no_home g alive (length d.fields) (length d1.fields) wider here)
            (omega (arith, less, wider, one), taken g set read W.Own d2 made more.0 within more.1, refl, refl, no_home g alive (length d.fields) (length d2.fields) (omega (arith, wider, one)) here) given.1 within begins sim

    -- behind the check, if there is one
    pub get_last : (ty : ValueType) (place : Place) (p : _) (indexes : Row_of-TExpr _) (x : Variable) (of set offset bits : ℕ) (spot : Draft → Made Spot) (bound : ℕ) (d : Draft) (s : CodeState) (st : State) → bits ≤ 32 → ty.shape ≡ Some set → IsOfFileOrBlock x → of ≡ set → AreSteps set 0 indexes → alive x
        → HasVariable g.typed g.instance n x (plain (parallel ty.elem of)) → NameExtents (extents_in g.typed of) indexes → bound ≤ length d.fields → Starts g alive s (length d.code) d.regs (length d.fields) → Sim g alive st s → (Q : Out → Draft → Type 0)
        → (meant g fields (T.LeftIndex' ty place p indexes x of) st ≡ Source.Gives (Parallel (λ q. value_in (extents g set) st (T.LeftIndex' ty place p indexes x of) q)) st → (e2 : Draft) (i : Instr) → Within g (with_instr i e2) → (passes : Passes g alive bound d e2 s st (Unit {0}))
        → Puts g set i (record { set = set; offset = offset; len = bits }) passes.t (λ q. word_at (extents g set) st (T.LeftIndex' ty place p indexes x of) q) → Q (O.Field (record { set = set; offset = offset; len = bits })) (with_instr i e2))
        → (Ended g s (meant g fields (T.LeftIndex' ty place p indexes x of) st) → (y : Out) (after : Draft) → Q y after)
        → After g Q (index_read_to g.typed (layout g) (T.LeftIndex' ty place p indexes x of) spot (O.Field (record { set = set; offset = offset; len = bits })) d)
    unfolding failing named_by with_grid_check check_passes passes_on then_make
    get_last ty place p indexes x of set offset bits spot bound d s st most shaped read same are living v names less here sim Q last ended =
        after_same g Q (code_is ty place p indexes x of set f spot d shaped same are) (found_there (finds (with_grid_check set place (grid_steps set 0 items) d)))
      where
        items : List TExpr
        items = items-the_row-TExpr _ indexes

        info : VarInfo
        info = variable_info v.word (plain (parallel ty.elem of)) v.start

        finds : (after : Draft) → FindsOrFails g has alive n ready places fields set x info after
        finds after = finds_read g has alive n ready places fields set x info after read living v.named (ap Some same) refl s st sim

        f : Field
        f = record { set = set; offset = offset; len = bits }

        e : TExpr
        e = T.LeftIndex' ty place p indexes x of

        whole : (y : Draft) → Finds g has alive n ready places fields set x info y → Draft
        whole y found_y = walk ty.elem f (moving_steps set 0 items) found_y.f found_y.e

        -- behind a draft with the check, where the field is found
        Goal : Draft → Type 0
        Goal y = (found_y : Finds g has alive n ready places fields set x info y) → Within g (whole y found_y) → Q (O.Field f) (whole y found_y)

        exists : set < length (shapes g)
        exists = (variable_fits g alive places fields set x info read living v.named (ap Some same) refl st s sim).0

        positive : are_positive (extents g set).own ≡ true
        positive = fit_positive (extents g set).own (places.grids set exists).1

        own_names : NameExtents (extents g set).own indexes
        own_names = subst (λ (xs : List ℕ). NameExtents xs indexes) (ap (extents_in g.typed) same ∙ (places.grids set exists).0) names

        long : length items ≡ length (extents g set).own
        long = names_long (extents g set).own indexes own_names

        same_extents : (extents g set).own ≡ fields.scope.extents set
        same_extents = sym (fields.same_extents set exists)

        given : List Operand
        given = indexes_at (extents g set) st indexes

        lead : (operands fields.scope indexes fields.active st ≡ Source.Gives given st) × ((q : ℕ) → LeadAt fields.scope fields.active set (extents g set) same_extents 0 (extents g set).own given items q)
        lead = steps_mean fields.scope fields.active set (extents g set) same_extents indexes st (places.grids set exists).1 are own_names

        outside : Option (Option ℕ)
        outside = outside_at fields.scope fields.active set set given

        means : outside ≡ None → meant g fields e st ≡ Source.Gives (Parallel (λ q. value_in (extents g set) st e q)) st
        means clear =
            subst (λ (m : ℕ). meant g fields (T.LeftIndex' ty place p indexes x m) st ≡ Source.Gives (Parallel (λ q. value_in (extents g set) st (T.LeftIndex' ty place p indexes x m) q)) st) (sym same)
            (routed_gives fields.scope fields.active ty place p indexes x set set given st shaped lead.0 clear
            ∙ ap (λ (xs : List ℕ). Source.Gives (Parallel (λ q. st.parallel x 0 (named_by xs given q))) st) (sym same_extents)
            ∙ ap (λ (w : ℕ → ℕ). Source.Gives (Parallel w) st) (λ j q. sym (routed_value (extents g set) st ty place p indexes x set q) j))

        fault : (q : ℕ) → outside ≡ Some (Some q) → meant g fields e st ≡ Source.Ends (Source.Fault Index place (Some q)) st
        fault q some =
            ap (λ (m : ℕ). meant g fields (T.LeftIndex' ty place p indexes x m) st) same
            ∙ routed_faults fields.scope fields.active ty place p indexes x set set given st q shaped lead.0 some

        found : outside ≡ None → (q : ℕ) → q < processors (shapes g) set → fields.active set q ≡ true → held ty.elem (st.parallel x 0 (origin g set (moving_steps set 0 items) q)) ≡ word_at (extents g set) st e q
        found clear q below on =
            ap (λ (y : ℕ). held ty.elem (st.parallel x 0 y))
            (steps_lead g set positive indexes q are long below ∙ ap (number_at (extents g set).own) (sym ((lead.1 q).1 (inside g alive places fields set set given exists exists clear q below on))))
            ∙ ap (λ (y : ℕ). held ty.elem y) (sym (ap (λ (m : ℕ). value_in (extents g set) st (T.LeftIndex' ty place p indexes x m) q) same ∙ routed_value (extents g set) st ty place p indexes x set q))

        -- the steps, where no index is outside
        walked : outside ≡ None → (y : Draft) → Passes g alive bound d y s st (Unit {0}) → Goal y
        walked clear y sure found_y within =
            walks ty indexes x set offset bits bound info y sure.t st most refl are long (let more = fields_longer d y sure.grown.0 sure.grown.1 in omega (arith, less, more)) sure.at sure.sim found_y (λ z. Q (O.Field f) z)
            (λ e2 i w passes puts.
            last (means clear) e2 i w (passes_on g alive bound bound d y e2 s st (Unit {0}) (Unit {0}) (Unit {0}) (omega arith) sure passes (λ u. tt) (λ u. tt))
            (puts_where g set i f passes.t _ (λ q. word_at (extents g set) st e q) (λ q below on. found clear q below (sym (flags_of g alive places fields st passes.t set q passes.sim exists below) ∙ on)) puts)) within

        begins : Passes g alive bound d d s st (Unit {0})
        begins = passes_all g alive bound d s st (Unit {0}) here sim

        -- nothing is checked, and nothing leaves the grid
        nothing_checked : grid_steps set 0 items ≡ [] → Goal d
        nothing_checked none =
            walked
            (ap (λ (test : ℕ → Bool). elim (least_below (λ q. fields.active set q && not (test q)) (positions fields.scope set)) as (λ _. Option (Option ℕ)) [ None ↦ None | Some q ↦ Some (Some q) ]) (λ j q. (ap (λ (xs : List ℕ). are_within xs given q) (sym same_extents) ∙ (lead.1 q).2 none) j)
            ∙ ap (λ (o : Option ℕ). elim o as (λ _. Option (Option ℕ)) [ None ↦ None | Some q ↦ Some (Some q) ]) (none_fails (fields.active set) (positions fields.scope set))) d begins

        steps_checked : (steps : List GridStep) → grid_steps set 0 items ≡ steps → Goal (with_step (ChecksGrid set place steps) d)
        steps_checked steps are_steps found_it within = subst Goal same_checked (by_least least refl) found_it within
          where
            next : Step
            next = ChecksGrid set place steps

            checked : Draft
            checked = with_step next d

            inside_it : Within g checked
            inside_it =
                let more = walk_extends ty.elem f (moving_steps set 0 items) found_it.f found_it.e in
                earlier g checked (whole checked found_it) (0 + more.0) (extended checked found_it.e (whole checked found_it) 0 more.0 found_it.grown more.1) within

            stands : GridStands g (length d.code) set place steps
            stands = grid_stands g (length d.code) set place steps (next_stands g next d inside_it)

            check : Instr
            check = I.CheckGrid set place stands.list

            same_checked : with_instr check d ≡ checked
            same_checked = with_grid g d (length d.code) set place steps stands

            args : List ℕ
            args = arguments_at check s.registers

            least : Option ℕ
            least = least_failing (shapes g) check args s.memory

            outside_is : outside ≡ failing_at least
            outside_is =
                checks_of_steps (shapes g) s.memory args fields.scope fields.active set place stands.list (moves_of fields.scope fields.active set (extents g set) same_extents 0 items) given same_extents (as_many (extents g set) st indexes ∙ long ∙ ap length same_extents)
                (stands.items ∙ sym are_steps ∙ moves_are fields.scope fields.active set (extents g set) same_extents 0 items) (λ q below. flags_of g alive places fields st s set q sim exists below)
                (λ q below on. subst (λ (xs : List ℕ). AllLead xs q 0 given (moves_of fields.scope fields.active set (extents g set) same_extents 0 items)) same_extents (lead.1 q).0)

            stepped : (o : Option ℕ) → least ≡ o → step g.image s ≡ (elim o as (λ _. Next) [ None ↦ Goes (Machine.onward s) | Some q ↦ Machine.Ends (Machine.Fault Index place (Some q)) (Machine.onward s) ])
            stepped o is_o =
                begins_there g (length d.code) check s stands.moved_there here.stands ∙ grid_begun set place stands.list s
                ∙ ap (λ (x : Option ℕ). elim x as (λ _. Next) [ None ↦ Goes (Machine.onward s) | Some q ↦ Machine.Ends (Machine.Fault Index place (Some q)) (Machine.onward s) ]) is_o

            by_least : (o : Option ℕ) → least ≡ o → Goal (with_instr check d)
            by_least None none = walked (outside_is ∙ ap failing_at none) (with_instr check d) (check_passes g alive check bound d d s st begins (stepped None none))
            by_least (Some q) some = λ found_y w.
                ended (record { early = Source.Fault Index place (Some q); state = st; is = fault q (outside_is ∙ ap failing_at some); finishes = check_ends g alive check bound d d s st begins Index place q (stepped (Some q) some) }) (O.Field f) (whole (with_instr check d) found_y)

        by : (steps : List GridStep) → grid_steps set 0 items ≡ steps → Goal (with_grid_check set place (grid_steps set 0 items) d)
        by [] none = subst (λ (ss : List GridStep). Goal (with_grid_check set place ss d)) (sym none) (nothing_checked none)
        by (first ∷ steps) some = subst (λ (ss : List GridStep). Goal (with_grid_check set place ss d)) (sym some) (steps_checked (first ∷ steps) some)

        found_there : FindsOrFails g has alive n ready places fields set x info (with_grid_check set place (grid_steps set 0 items) d) → After g Q (then_make (field_of g.typed (layout g) x 0 (with_grid_check set place (grid_steps set 0 items) d)) (λ source after. Makes (O.Field f) (walk ty.elem f (moving_steps set 0 items) source after)))
        found_there (inl fails) = after_same g Q (ap (λ (m : Made Field). then_make m (λ source after. Makes (O.Field f) (walk ty.elem f (moving_steps set 0 items) source after))) fails) (nothing_after g Q)
        found_there (inr found_it) =
            after_same g Q (ap (λ (m : Made Field). then_make m (λ source after. Makes (O.Field f) (walk ty.elem f (moving_steps set 0 items) source after))) found_it.is)
            (made_after g Q (O.Field f) (whole (with_grid_check set place (grid_steps set 0 items) d) found_it) (by (grid_steps set 0 items) refl found_it))
