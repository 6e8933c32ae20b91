-- A single position of a parallel variable, which scalar indexes name: the code finds it, or both end as an index does
-- not lie within its extent; it stands in a register, and what the variable has there is read.
use denote.Hole.Carrier
use Rattle.std.proofs.Common.{◌≤◌, ◌≡◌, ◌∙◌, ℕ, ◌+◌, ◌*◌, ◌<◌, ◌^◌, ◌&&◌, Bool, true, false, not, List, [], ◌∷◌, length, map, slice_get, slice_index, Option, Some, None, ◌⊎◌, inl, inr, refl, sym, ap, subst, arith, if◌then◌else◌, Vec, Global}
use Rattle.std.specs.Prelude.{IfSome, is_none, is_some, nat_lt}
use Rattle.cstar_base.specs.declared.elem.Elem.{Elem}
use Rattle.cstar_base.specs.declared.faults.RunFault.TheVariants.{Index}
use Rattle.cstar_base.specs.declared.operators.Place.{Place}
use Rattle.cstar_base.specs.Numbers.{converted}
use Rattle.code_lengths.specs.Naming.{HasAxes, HasVariable, NamesVariables, plain}
use Rattle.code_lengths.specs.Ready.{HasCode, IsReadyButForFields}
use Rattle.communication_laws.specs.KnownPositions.{HaveTheirWords}
use Rattle.communication_laws.specs.OnePosition.{RegistersHaveIndexes, failing_nowhere, registers_with_signs}
use Rattle.communication_laws.proofs.Indexes.{indexes_within_name_positions}
use Rattle.communication_laws.proofs.KnownPositions.{known_positions}
use Rattle.communication_laws.proofs.OnePosition.{reads_of_positions, scalar_addresses, scalar_checks}
use Rattle.cstar_tree.specs.declared.typed.ShapeInfo.{ShapeInfo}
use Rattle.cstar_tree.specs.declared.typed.TExpr.{TExpr, Row_of-TExpr, end_of-TExpr, items-the_row-TExpr, items_shown-the_row-TExpr-0, more_of-TExpr, out-TExpr}
use Rattle.cstar_tree.specs.declared.typed.TExpr as T
use Rattle.cstar_tree.specs.declared.typed.ValueType.{ValueType}
use Rattle.cstar_tree.specs.declared.typed.VarInfo.{VarInfo}
use Rattle.cstar_tree.specs.declared.typed.Variable.{Variable}
use Rattle.cstar_tree.specs.Conversions.{parallel}
use Rattle.cstar_tree.specs.StatementTypes.{variable_info}
use Rattle.cstar_tree.specs.Typed.{type_of}
use Rattle.lower_base.specs.declared.emit.Out.{Out}
use Rattle.lower_base.specs.declared.emit.Out.TheVariants as O
use Rattle.lower_base.specs.Constants.{constant_register, word_in}
use Rattle.lower_base.specs.Drafts.{Draft, Fails, FrontChecksTarget, FrontMakesAddress, Made, Makes, Step, a_register, an_entry, fresh_for, in_register, step as step_of, then_make, with_instr, with_step}
use Rattle.lower_base.specs.Layouts.{field_of}
use Rattle.lower_comm.specs.Messages.{all_in_registers, communicated, front_located, index_register, located as located_code, located_at, read_at, signed_registers}
use Rattle.lower_comm.specs.News.{all_go_by_news, goes_by_news}
use Rattle.lower_expr.specs.declared.spots.Spot.{Spot}
use Rattle.lower_expr.specs.declared.spots.Spot.TheVariants as S
use Rattle.lower_expr.specs.Effects.{computed_to, gone_to}
use Rattle.lower_expr.specs.Lengths.{bare}
use Rattle.lower_expr.specs.Operands.{are_quiet}
use Rattle.lower_expr.specs.Positions.{known_position, position_from, position_in, with_coordinate, with_index}
use Rattle.lower_expr.specs.Spots.{loaded}
use Rattle.lower_expr.specs.Steps.{constant_in, register_word}
use Rattle.lower_expr.specs.Values.{index_read_to, indexed_spot, news_to, read_to, spot_of, values_of}
use Rattle.paris_code.specs.declared.instr.Instr.{Instr}
use Rattle.paris_code.specs.declared.instr.Instr.TheVariants as I
use Rattle.paris_code.specs.declared.operands.Field.{Field}
use Rattle.paris_code.specs.declared.operands.RegisterCoordinate.{RegisterCoordinate}
use Rattle.paris_code.specs.declared.program.Reply.{Reply}
use Rattle.paris_code.specs.Code as Machine
use Rattle.paris_code.specs.Code.{CodeState, Goes, applied, begun, checked, replied, step, with_register}
use Rattle.paris_code.specs.Meaning.{after, reply_of}
use Rattle.paris_code.specs.Memory.{field_number, processors}
use Rattle.paris_code.specs.Scalar.{address_of, any_register_outside}
use Rattle.source_meaning.specs.Constants.{constant_of, is_constant, then_value}
use Rattle.source_meaning.specs.Constants as Const
use Rattle.source_meaning.specs.Expressions.{evaluated, located, operands}
use Rattle.source_meaning.specs.Gets.{Operand, are_within, named_by}
use Rattle.source_meaning.specs.Programs.{extents_of}
use Rattle.source_meaning.specs.Reductions.{int_type}
use Rattle.source_meaning.specs.State as Source
use Rattle.source_meaning.specs.State.{Gives, Outcome, State, then_do}
use Rattle.source_meaning.specs.Targets.{OfPosition, Target, indexed_target, position_target, read}
use Rattle.source_meaning.specs.Values.{Active, Scalar, Scope, Value, at, failing, number, unless}
use Rattle.source_meaning.proofs.ConstantLaws.{value_means}
use Rattle.vp_sets.specs.Positions.{position_count}
use Rattle.vp_sets.proofs.PositionLaws.{geometry_parts}
use Rattle.code_follows.specs.Fragment.{AreIn, IsIn, elems_of, naming}
use Rattle.code_follows.proofs.Arguments.{AreDone, AreHeld, Given, arguments_follow}
use Rattle.code_follows.proofs.Following.{nothing_said, Arrives, Extends, Follows, HasRegisters, Keeps, Sim, arrives_fresh, at_once, finishes_later, follows_same, held, keeps_all, keeps_less, keeps_on, register_at, register_is, register_kept, then_follows, then_gives, extends_then}
use Rattle.code_follows.proofs.Growing.{Extended, as_it_was, extended}
use Rattle.code_follows.proofs.Settings.{OpenAmong, At, Begun, Reaches, Setting, Within, and_one, at_next, begun_later, earlier, ends_now, layout, next_stands, one, onto, placed_instr, regs_more, start, stay}
use Rattle.code_follows.proofs.Standing.{some_same}
use Rattle.code_follows.proofs.Values.{Dest, and_register, constant_follows, put_by, value_stands, with_reg}
use Rattle.code_follows.proofs.Words.{constant_below, held_wide}
use Rattle.fields_follow.specs.Fragment.{IsOfFileOrBlock}
use Rattle.fields_follow.proofs.Extents.{extents_in, own_extents}
use Rattle.fields_follow.proofs.Instructions.{extents, place as place_of, shapes}
use Rattle.fields_follow.proofs.Knowing.{KnowsFields, sim_open}
use Rattle.fields_follow.proofs.Leaving.{fields_under, places_under, registers_under, under, within_under}
use Rattle.fields_follow.proofs.Listed.{begins_there, front_check_stands, front_make_stands}
use Rattle.fields_follow.proofs.Locating.{and_step}
use Rattle.fields_follow.proofs.Meaning.{then_ordered}
use Rattle.fields_follow.proofs.Outcomes.{ended_follows}
use Rattle.fields_follow.proofs.RegisterIndexes.{as_long, given_signs, item_signs, never_fails, signs_of, within_all}
use Rattle.fields_follow.proofs.Places.{names_first, stands_here as stands_in}
use Rattle.fields_follow.proofs.Values.{Finds, finds_extends, finds_read}
use Rattle.fields_follow.proofs.Variables.{Carries, variable_fits}

module _ (g : Setting) (has : HasRegisters g) (alive : Variable → Type 0) (scope : Scope) (active : Active) where
  -- they have their words, and stand in registers
  held_indexes : (quiet : Bool) (given : List Operand) (outs : List Out) (e : Draft) (u : State) (t : CodeState) → Sim g alive u t → AreHeld g has alive scope active quiet given outs e u t
      → (all_in_registers outs ≡ true) × RegistersHaveIndexes t.registers (map index_register outs) given
  unfolding AreHeld all_in_registers index_register at
  held_indexes quiet [] [] e u t sim h = (refl, tt)
  held_indexes quiet (o ∷ given) (out ∷ outs) e u t sim h =
      let rest = held_indexes quiet given outs e u t sim h.1 in
      let holds = h.0 in
      subst (λ (x : Out). (all_in_registers (x ∷ outs) ≡ true) × RegistersHaveIndexes t.registers (index_register x ∷ map index_register outs) (o ∷ given)) (sym holds.is) (
        rest.0,
        (
          record {
            word = holds.lasts u t sim (keeps_all g e t) (λ same. refl) ∙ sym (ap (λ (v : Value). converted int_type o.elem (at v 0)) holds.value);
            small = subst (λ (v : Value). at v 0 < 2 ^ o.elem.bits) (sym holds.value) holds.small;
          },
          rest.1,
        ),
      )
  held_indexes quiet [] (out ∷ outs) e u t sim h = absurd h
  held_indexes quiet (o ∷ given) [] e u t sim h = absurd h

  -- a register keeps its word as long as those do that were taken between these drafts
  abbrev pub Stays : Draft → Draft → CodeState → ℕ → ℕ → Type 0
  Stays d f t q word = (u : State) (later : CodeState) → Sim g alive u later → ((b : ℕ) → d.regs ≤ b → b < f.regs → slice_index later.registers b ≡ slice_index t.registers b) → slice_index later.registers q ≡ word

  stays_fresh : (d f : Draft) (s : CodeState) (u : State) (word q : ℕ) (arr : Arrives g alive int_type false d s (Scalar word) u (O.Scalar q) f) → d.regs ≤ q → q < f.regs → Stays d f arr.t q word
  stays_fresh d f s u word q arr low high later t sim same =
      let there = value_stands g has alive int_type false f u arr.t word q arr.holds in
      same q low high ∙ there.0 u arr.t arr.sim (keeps_all g f arr.t) (λ no. refl) ∙ held_wide int_type word refl there.1

  -- a number stands in a register, where it does at once or in a fresh one
  record StandsThere (d : Draft) (s : CodeState) (st : State) (word q : ℕ) (f : Draft) : Type 0 where
    pub arrives : Arrives g alive int_type false d s (Scalar word) st (O.Scalar q) f
    pub stays : Stays d f arrives.t q word

  word_found : (word : ℕ) (d : Draft) (s : CodeState) (st : State) → word < 2 ^ 32 → Begun g alive d → At g s (length d.code) → Sim g alive st s
      → Follows g (λ (x : Unit {0}) u q f. (u ≡ st) × StandsThere d s st word q f) s (Gives tt st) (word_in (layout g) word d)
  unfolding word_in Follows constant_in a_register then_make
  word_found word d s st few free here sim = by (constant_register (layout g) word) refl (constant_follows g has alive int_type false word d s st refl few free here sim)
    where
      by : (o : Option ℕ) → constant_register (layout g) word ≡ o → Follows g (λ v u out e. Arrives g alive int_type false d s v u out e) s (Gives (Scalar word) st) (constant_in word d)
          → Follows g (λ (x : Unit {0}) u q f. (u ≡ st) × StandsThere d s st word q f) s (Gives tt st) (elim o as (λ _. Made ℕ) [ Some r ↦ Makes r d | None ↦ then_make (a_register d) (λ r after. Makes r (with_instr (I.FrontConst r word) after)) ])
      by (Some r) is fresh = λ within. (
        refl,
        record {
          arrives = record {
            extended = (0, as_it_was d);
            t = s;
            go = stay g s;
            at = here;
            sim = sim;
            keeps = keeps_all g d s;
            holds = record { register = r; word = word; is = refl; value = refl; small = few; lasts = λ u t later stays same. later.constants word r is ∙ sym (held_wide int_type word refl few) };
          };
          stays = λ u t later same. later.constants word r is;
        },
      )
      by None is fresh = λ within. let regs = regs_more g (I.FrontConst d.regs word) (with_reg d) in (refl, record { arrives = fresh within; stays = stays_fresh d _ s st word d.regs (fresh within) (omega arith) (omega (arith, regs)) })

  -- ---- the position

  -- It is named, and stands in a register behind the code.
  pub record Found (of : ℕ) (x : Variable) (d : Draft) (s : CodeState) (there : Target) (u : State) (q : ℕ) (f : Draft) : Type 0 where
    pub position : ℕ
    pub is : there ≡ OfPosition x position
    pub below : position < processors (shapes g) of
    pub arrives : Arrives g alive int_type false d s (Scalar position) u (O.Scalar q) f
    pub stays : Stays d f arrives.t q position

  -- its code: that of a number, or that of indexes, their check and the address
  abbrev pub located_in : Place → ℕ → List TExpr → List Out → ℕ → Draft → Made ℕ
  located_in place of items outs r d = if all_in_registers outs then Makes r (front_located place of items (map index_register outs) r d) else Fails

  abbrev pub found_in : {m : _} → Place → ℕ → Row_of-TExpr m → Draft → Made ℕ
  found_in place of indexes d = elim (position_in g.typed of (items-the_row-TExpr _ indexes)) as (λ _. Made ℕ) [
    | Some position ↦ word_in (layout g) position d
    | None ↦ then_make (values_of g.typed (layout g) false (are_quiet indexes) indexes [] (with_reg d)) (λ outs between. located_in place of (items-the_row-TExpr _ indexes) outs d.regs between)
  ]

  module _ (known : KnowsFields g scope active) where
    -- what the indexes name
    abbrev named : Place → ℕ → Variable → List Operand → State → Outcome Target
    named place of x given u = indexed_target scope active None place x of given u

    named_so : (place : Place) (of : ℕ) (x : Variable) (given : List Operand) (u : State) (o : Option (Option ℕ)) → failing scope active None (λ p. not (are_within (scope.extents of) given p)) ≡ o → named place of x given u ≡ unless o Index place u (Gives (OfPosition x (named_by (scope.extents of) given 0)) u)
    unfolding indexed_target position_target
    named_so place of x given u o is = ap (λ (y : Option (Option ℕ)). unless y Index place u (Gives (OfPosition x (named_by (scope.extents of) given 0)) u)) is

    module _ (place : Place) (of : ℕ) (x : Variable) (items : List TExpr) (quiet : Bool) (d between : Draft) (n : ℕ) (s t : CodeState) (u : State) (given : List Operand) (outs : List Out) (exists : of < length (shapes g)) (many : length items ≡ length (extents g of).own) (elems : map (λ (o : Operand). o.elem) given ≡ map (λ (e : TExpr). (type_of e).elem) items)
        (free : Begun g alive d) (grown : Extended (with_reg d) n between) (go : Reaches g s t) (here : At g t (length between.code)) (sim : Sim g alive u t) (keeps : Keeps g (with_reg d) s t) (are_held : AreHeld g has alive scope active quiet given outs between u t) where
      held_so : (all_in_registers outs ≡ true) × RegistersHaveIndexes t.registers (map index_register outs) given
      held_so = held_indexes quiet given outs between u t sim are_held

      abbrev registers : List ℕ
      registers = map index_register outs

      abbrev signed : List RegisterCoordinate
      signed = signed_registers items registers

      abbrev checking : Step
      checking = FrontChecksTarget of place signed

      abbrev making : Step
      making = FrontMakesAddress d.regs of registers

      abbrev made : Draft
      made = with_step making (with_step checking between)

      abbrev o : Outcome Target
      o = named place of x given u

      abbrev position : ℕ
      position = named_by (scope.extents of) given 0

      same_extents : scope.extents of ≡ (extents g of).own
      same_extents = known.same_extents of exists

      as_many : length given ≡ length (scope.extents of)
      as_many = sym (as_long (λ (o : Operand). o.elem) given) ∙ ap length elems ∙ as_long (λ (e : TExpr). (type_of e).elem) items ∙ many ∙ ap length (sym same_extents)

      abbrev outside : Bool
      outside = any_register_outside (scope.extents of) (registers_with_signs given registers) t.registers

      fails : failing scope active None (λ p. not (are_within (scope.extents of) given p)) ≡ failing_nowhere outside
      fails = scalar_checks scope active of t.registers registers given as_many held_so.1

      located_within : Within g made → Follows g (Found of x d s) s o (Makes d.regs made)
      unfolding begun with_instr step_of with_step Follows unless
      located_within within = by outside refl
        where
          check_there : (list : Vec RegisterCoordinate Global) × ((list.items ≡ signed) × (slice_get g.image.code.items (start g + length between.code) ≡ Some (I.FrontCheckTarget of place list)))
          check_there = front_check_stands g (length between.code) of place signed (next_stands g checking between (earlier g (with_step checking between) made 1 (and_step making (with_step checking between)) within))

          check : Instr
          check = I.FrontCheckTarget of place check_there.0

          checked_draft : Draft
          checked_draft = with_instr check between

          same_checked : checked_draft ≡ with_step checking between
          same_checked = ap (λ (cs : List RegisterCoordinate). with_step (FrontChecksTarget of place cs) between) check_there.1.0

          make_there : (list : Vec ℕ Global) × ((list.items ≡ registers) × (slice_get g.image.code.items (start g + length checked_draft.code) ≡ Some (I.FrontMakeAddress d.regs of list)))
          make_there = front_make_stands g (length checked_draft.code) d.regs of registers (next_stands g making checked_draft (subst (λ (y : Draft). Within g (with_step making y)) (sym same_checked) within))

          make : Instr
          make = I.FrontMakeAddress d.regs of make_there.0

          last : Draft
          last = with_instr make checked_draft

          same_made : last ≡ made
          same_made = ap (λ (rs : List ℕ). with_step (FrontMakesAddress d.regs of rs) checked_draft) make_there.1.0 ∙ ap (with_step making) same_checked

          stepped : step g.image t ≡ checked outside Index place t
          stepped =
              begins_there g (length between.code) check t check_there.1.1 here
              ∙ ap (λ (cs : List RegisterCoordinate). checked (any_register_outside (extents g of).own cs t.registers) Index place t) (check_there.1.0 ∙ item_signs items registers ∙ ap (λ (es : List Elem). signs_of es registers) (sym elems) ∙ sym (given_signs given registers))
              ∙ ap (λ (xs : List ℕ). checked (any_register_outside xs (registers_with_signs given registers) t.registers) Index place t) (sym same_extents)

          by : (b : Bool) → outside ≡ b → Follows g (Found of x d s) s o (Makes d.regs made)
          by true is =
              ended_follows g (Found of x d s) s o (Makes d.regs made) (record {
                early = Source.Fault Index place None;
                state = u;
                is = named_so place of x given u (Some None) (fails ∙ ap failing_nowhere is);
                finishes = finishes_later g (Source.Fault Index place None) u s t go (record {
                  t = Machine.onward t;
                  ends = ends_now g t (Machine.onward t) (Machine.Fault Index place None) (stepped ∙ ap (λ (b : Bool). checked b Index place t) is);
                  turns = sim.turns;
                  output = sim.output;
                  input = sim.input;
                  memory = g.held.finally (OpenAmong g alive) t.at u t.memory sim.memory;
                });
              })
          by false is =
              subst (λ (y : Outcome Target). Follows g (Found of x d s) s y (Makes d.regs made)) (sym (named_so place of x given u None never)) (λ whole. subst (λ (f : Draft). Found of x d s (OfPosition x position) u d.regs f) same_made found)
            where
              never : failing scope active None (λ p. not (are_within (scope.extents of) given p)) ≡ None
              never = fails ∙ ap failing_nowhere is

              inside : are_within (extents g of).own given 0 ≡ true
              inside = subst (λ (xs : List ℕ). are_within xs given 0 ≡ true) same_extents (within_all scope active (scope.extents of) given never)

              same_position : named_by (extents g of).own given 0 ≡ position
              same_position = ap (λ (xs : List ℕ). named_by xs given 0) (sym same_extents)

              below : position < processors (shapes g) of
              below = subst (λ (n : ℕ). n < position_count (extents g of).own) same_position (indexes_within_name_positions (extents g of).own given 0 inside)

              t1 : CodeState
              t1 = Machine.onward t

              t2 : CodeState
              t2 = with_register d.regs position t1

              few : position < 2 ^ 32
              few = let room = (geometry_parts (extents g of).own (known.places.geometry of exists)).3 in omega (arith, below, room)

              goes : step g.image t ≡ Goes t1
              goes = stepped ∙ ap (λ (b : Bool). checked b Index place t) is

              there : At g t1 (length checked_draft.code)
              there = at_next g check between t (t.at + 1) here refl

              makes : step g.image t1 ≡ Goes t2
              makes =
                  begins_there g (length checked_draft.code) make t1 make_there.1.1 there
                  ∙ ap (λ (rs : List ℕ). Goes (with_register d.regs (address_of (extents g of).own rs t.registers) t1)) make_there.1.0
                  ∙ ap (λ (n : ℕ). Goes (with_register d.regs n t1)) (scalar_addresses (extents g of).own t.registers registers given (known.places.geometry of exists) held_so.1 inside ∙ same_position)

              more : Extended d (0 + (n + (1 + 1))) last
              more = extended d (with_reg d) last 0 (n + (1 + 1)) (and_register d) (extended (with_reg d) between last n (1 + 1) grown (extended between checked_draft last 1 1 (and_one g check between) (and_one g make checked_draft)))

              last_regs : last.regs ≡ between.regs
              last_regs = refl

              inside_unit : Within g last
              inside_unit = subst (λ (y : Draft). Within g y) (sym same_made) within

              arrived : Arrives g alive int_type false d s (Scalar position) u (O.Scalar d.regs) last
              arrived =
                  let taken = grown.regs in
                  arrives_fresh g alive int_type false d last s t2 u d.regs position (0 + (n + (1 + 1)), more) (onto g s t t2 go (onto g t t1 t2 (one g t t1 goes refl) (one g t1 t2 makes refl)))
                  (at_next g make checked_draft t1 (t1.at + 1) there refl) (register_at g alive u t d.regs position (t1.at + 1) has free.regs (omega arith) sim)
                  (keeps_on g d d 0 s t t2 (as_it_was d) (keeps_less g d (with_reg d) s t (omega arith) keeps) (register_kept g d t d.regs position has free.regs (omega arith) (omega (arith, taken, inside_unit.own))))
                  free.regs (omega (arith, taken)) few (register_is g t d.regs position (omega (arith, taken, inside_unit.regs, sim.registers)) ∙ sym (held_wide int_type position refl few))

              found : Found of x d s (OfPosition x position) u d.regs last
              found = let taken = grown.regs in record {
                position = position;
                is = refl;
                below = below;
                arrives = arrived;
                stays = stays_fresh d last s u position d.regs arrived (omega arith) (omega (arith, taken));
              }

      located_follows : Follows g (Found of x d s) s o (located_in place of items outs d.regs between)
      unfolding front_located
      located_follows = follows_same g (Found of x d s) s refl (ap (λ (b : Bool). if b then Makes d.regs made else Fails) held_so.0) (at_once g (Found of x d s) s o d.regs made (λ within. located_within within))

    -- ---- indexes that are constants

    constant_given : (e : TExpr) → IsIn (naming g.may alive) e → (w : ℕ) → register_word e ≡ Some w → (st : State) → (v : ℕ) × ((evaluated scope e active st ≡ Gives (Scalar v) st) × (v < 2 ^ (type_of e).elem.bits) × (converted int_type (type_of e).elem v ≡ w))
    unfolding register_word constant_of
    constant_given e isin w is st = by (is_constant e) (Const.value_of e) refl refl is
      where
        by : (c : Bool) (o : Option ℕ) → is_constant e ≡ c → Const.value_of e ≡ o → then_value (if c then o else None) (λ v. Some (converted int_type (type_of e).elem v)) ≡ Some w
            → (v : ℕ) × ((evaluated scope e active st ≡ Gives (Scalar v) st) × (v < 2 ^ (type_of e).elem.bits) × (converted int_type (type_of e).elem v ≡ w))
        by true (Some v) constant has h = (v, (subst (λ (o : Option ℕ). Const.IsValueOf e o) has (value_means e constant) scope active st, subst (λ (o : Option ℕ). IfSome o (λ v. v < 2 ^ (type_of e).elem.bits)) has (constant_below (naming g.may alive) e isin), some_same _ w h))
        by true None constant has h = cc
        by false o constant has h = cc

    constants_given : {m : _} (xs : List ℕ) (first position : ℕ) (row : Row_of-TExpr m) → AreIn (naming g.may alive) row → position_from first xs (items-the_row-TExpr _ row) ≡ Some position → (st : State) → (given : List Operand) × ((operands scope row active st ≡ Gives given st) × HaveTheirWords (items-the_row-TExpr _ row) given)
    unfolding AreIn position_from with_index with_coordinate operands then_do at
    constants_given [] first position end_of-TExpr isin is st = ([], (refl, tt))
    constants_given [] first position (more_of-TExpr e rest) isin is st = cc
    constants_given (x ∷ xs) first position end_of-TExpr isin is st = cc
    constants_given (x ∷ xs) first position (more_of-TExpr e rest) isin is st = by (register_word e) refl is (λ next h. constants_given xs next position rest isin.1 h st)
      where
        Known : Type 0
        Known = (given : List Operand) × ((operands scope (more_of-TExpr e rest) active st ≡ Gives given st) × HaveTheirWords (e ∷ items-the_row-TExpr _ rest) given)

        Rest : Type 0
        Rest = (next : ℕ) → position_from next xs (items-the_row-TExpr _ rest) ≡ Some position → (given : List Operand) × ((operands scope rest active st ≡ Gives given st) × HaveTheirWords (items-the_row-TExpr _ rest) given)

        by_test : (w : ℕ) → register_word e ≡ Some w → (b : Bool) → then_value (if b then Some (first * x + w) else None) (λ next. position_from next xs (items-the_row-TExpr _ rest)) ≡ Some position → Rest → Known
        by_test w is_w true h others =
            let c = constant_given e isin.0 w is_w st in
            let behind = others (first * x + w) h in
            let o : Operand = record { elem = (type_of e).elem; value = Scalar c.0 } in (
              o ∷ behind.0,
              (
                ap (λ (y : Outcome Value). then_do y (λ v between. then_do (operands scope rest active between) (λ given after. Gives (record { elem = (type_of e).elem; value = v } ∷ given) after))) c.1.0
                    ∙ ap (λ (y : Outcome (List Operand)). then_do y (λ given after. Gives (o ∷ given) after)) behind.1.0,
                (record { word = λ word same. c.1.2 ∙ some_same w word (sym is_w ∙ same); small = c.1.1 }, behind.1.1),
              ),
            )
        by_test w is_w false h others = cc

        by : (o : Option ℕ) → register_word e ≡ o → then_value (then_value o (λ w. if nat_lt w x then Some (first * x + w) else None)) (λ next. position_from next xs (items-the_row-TExpr _ rest)) ≡ Some position → Rest → Known
        by (Some w) is_w h others = by_test w is_w (nat_lt w x) h others
        by None is_w h others = cc

    -- ---- all of it

    module _ (n : ℕ) (ready : (d : Draft) → IsReadyButForFields g.typed g.instance (layout g) n d) (ty : ValueType) (place : Place) (p : _) (indexes : Row_of-TExpr _) (x : Variable) (of : ℕ) (scalar : ty.shape ≡ None) (read_so : IsOfFileOrBlock x) (living : alive x) (isin : AreIn (naming g.may alive) indexes) (c : HasCode g.typed g.instance n (T.LeftIndex' ty place p indexes x of)) (done : AreDone g has alive scope active false (are_quiet indexes) indexes) where
      abbrev items : List TExpr
      items = items-the_row-TExpr _ indexes

      pub names : HasVariable g.typed g.instance n x (plain (parallel ty.elem of)) × HasAxes g.typed of (length items)
      unfolding NamesVariables
      names = (c.names.0, c.names.2)

      abbrev pub info : VarInfo
      info = variable_info names.0.word (plain (parallel ty.elem of)) names.0.start

      -- what is known of the variable
      fits : (s : CodeState) (st : State) → Sim g alive st s → (of < length (shapes g)) × ((q : ℕ) → st.parallel x 0 q < 2 ^ info.elem.bits)
      fits s st sim = variable_fits (under g active) alive (places_under g active known.places) (fields_under g active scope known.same_extents) of x info read_so living names.0.named refl refl st s (sim_open g scope active known alive st s sim)

      -- its code finds the field
      abbrev pub FindsIt : Draft → Type 0
      FindsIt d = Finds (under g active) (registers_under g active has) alive n ready (places_under g active known.places) (fields_under g active scope known.same_extents) of x info d

      abbrev pub FindsItOrFails : Draft → Type 0
      FindsItOrFails d = (field_of g.typed (layout g) x 0 d ≡ Fails) ⊎ FindsIt d

      pub finds : (s : CodeState) (st : State) → Sim g alive st s → (d : Draft) → FindsItOrFails d
      finds s st sim d = finds_read (under g active) (registers_under g active has) alive n ready (places_under g active known.places) (fields_under g active scope known.same_extents) of x info d read_so living names.0.named refl refl s st (sim_open g scope active known alive st s sim)

      pub found_extends : (s : CodeState) (st : State) → Sim g alive st s → (d : Draft) → Extends g d (field_of g.typed (layout g) x 0 d)
      unfolding Extends
      found_extends s st sim d = finds_extends (under g active) (registers_under g active has) alive n ready (places_under g active known.places) (fields_under g active scope known.same_extents) of x info d (finds s st sim d)

      extents_are : of < length (shapes g) → extents_in g.typed of ≡ (extents g of).own
      extents_are exists = (known.places.grids of exists).0

      many : of < length (shapes g) → length items ≡ length (extents g of).own
      many exists = names.1.2 ∙ ap length (sym (own_extents g.typed of names.1.0 names.1.1) ∙ extents_are exists)

      abbrev pub single : TExpr
      single = T.LeftIndex' ty place p indexes x of

      abbrev codes : List Out → Draft → Made (List Out)
      codes outs d = values_of g.typed (layout g) false (are_quiet indexes) indexes outs d

      abbrev pub indexed_at : ℕ → Draft → Made Spot
      indexed_at q after = Makes (S.Indexed (O.Scalar q)) after

      spot_behind : (parts : List Out) (r : ℕ) (d : Draft) → then_make (located_code single parts (O.Scalar r) d) (λ out after. Makes (S.Indexed out) after) ≡ then_make (located_in place of items parts r d) indexed_at
      unfolding located_code out-TExpr Carrier.out located_at then_make
      spot_behind parts r d = ap (λ (xs : List TExpr). then_make (located_at place of xs parts (O.Scalar r) d) (λ out after. Makes (S.Indexed out) after)) (items_shown-the_row-TExpr-0 p indexes) ∙ by (all_in_registers parts)
        where
          y : Draft
          y = front_located place of items (map index_register parts) r d

          by : (b : Bool) → then_make (if b then Makes (O.Scalar r) y else Fails) (λ out after. Makes (S.Indexed out) after) ≡ then_make (if b then Makes r y else Fails) indexed_at
          by true = refl
          by false = refl

      pub spot_is : (d : Draft) → spot_of g.typed (layout g) single d ≡ then_make (found_in place of indexes d) indexed_at
      unfolding spot_of indexed_spot known_position out-TExpr Carrier.out fresh_for a_register then_make
      spot_is d =
          ap (λ (xs : List TExpr). elim (if is_none ty.shape then position_in g.typed of xs else None) as (λ _. Made Spot) [ Some position ↦ then_make (word_in (layout g) position d) indexed_at | None ↦ then_make (fresh_for ty.shape 32 d) (λ at begun. then_make (codes [] begun) (λ parts between. then_make (located_code single parts at between) (λ out after. Makes (S.Indexed out) after))) ]) (items_shown-the_row-TExpr-0 p indexes)
          ∙ ap (λ (o : Option ℕ). elim (if is_none o then position_in g.typed of items else None) as (λ _. Made Spot) [ Some position ↦ then_make (word_in (layout g) position d) indexed_at | None ↦ then_make (fresh_for o 32 d) (λ at begun. then_make (codes [] begun) (λ parts between. then_make (located_code single parts at between) (λ out after. Makes (S.Indexed out) after))) ]) scalar
          ∙ by (position_in g.typed of items)
        where
          each : (m : Made (List Out)) → then_make m (λ parts between. then_make (located_code single parts (O.Scalar d.regs) between) (λ out after. Makes (S.Indexed out) after)) ≡ then_make (then_make m (λ outs between. located_in place of items outs d.regs between)) indexed_at
          each (Makes parts between) = spot_behind parts d.regs between
          each Fails = refl

          by : (o : Option ℕ) → (elim o as (λ _. Made Spot) [ Some position ↦ then_make (word_in (layout g) position d) indexed_at | None ↦ then_make (codes [] (with_reg d)) (λ parts between. then_make (located_code single parts (O.Scalar d.regs) between) (λ out after. Makes (S.Indexed out) after)) ])
              ≡ then_make (elim o as (λ _. Made ℕ) [ Some position ↦ word_in (layout g) position d | None ↦ then_make (codes [] (with_reg d)) (λ outs between. located_in place of items outs d.regs between) ]) indexed_at
          by (Some word) = refl
          by None = each (codes [] (with_reg d))

      -- and behind it what reads there
      abbrev reading_in : ℕ → ℕ → Field → Draft → Draft
      reading_in q r source d = with_instr (I.ReadFromProcessor ty.elem.signed r q source) d

      abbrev read_in : ℕ → ℕ → Draft → Made Out
      read_in q r d = then_make (field_of g.typed (layout g) x 0 d) (λ source after. Makes (O.Scalar r) (reading_in q r source after))

      pub load_is : (q r : ℕ) (d : Draft) → loaded g.typed (layout g) single (S.Indexed (O.Scalar q)) (O.Scalar r) d ≡ read_in q r d
      unfolding loaded bare communicated out-TExpr Carrier.out read_at in_register then_make
      load_is q r d = by (field_of g.typed (layout g) x 0 d)
        where
          by : (m : Made Field) → then_make (then_make m (λ source last. Makes (O.Scalar r) (reading_in q r source last))) (λ _ last. Makes (O.Scalar r) last) ≡ then_make m (λ source after. Makes (O.Scalar r) (reading_in q r source after))
          by (Makes source after) = refl
          by Fails = refl

      read_code : (r : ℕ) (d : Draft) → computed_to g.typed (layout g) (O.Scalar r) single d ≡ then_make (found_in place of indexes d) (λ q after. read_in q r after)
      unfolding computed_to index_read_to gone_to read_to goes_by_news out-TExpr Carrier.out then_make loaded bare communicated read_at in_register an_entry
      read_code r d = ap goes by_router ∙ ap (λ (m : Made Spot). gone_to (O.Scalar r) (then_make m loads)) (spot_is d) ∙ each (found_in place of indexes d)
        where
          loads : Spot → Draft → Made Out
          loads there after = loaded g.typed (layout g) single there (O.Scalar r) after

          goes : Bool → Made Out
          goes b = gone_to (O.Scalar r) (if b then news_to g.typed (layout g) single (O.Scalar r) d else read_to g.typed (layout g) single (λ y. spot_of g.typed (layout g) single y) (O.Scalar r) d)

          by_router : goes_by_news single ≡ false
          by_router = ap (λ (xs : List TExpr). is_some ty.shape && all_go_by_news of 0 xs) (items_shown-the_row-TExpr-0 p indexes) ∙ ap (λ (o : Option ℕ). is_some o && all_go_by_news of 0 items) scalar

          each : (m : Made ℕ) → gone_to (O.Scalar r) (then_make (then_make m indexed_at) loads) ≡ then_make m (λ q after. read_in q r after)
          each (Makes q after) = ap (λ (m : Made Out). gone_to (O.Scalar r) m) (load_is q r after) ∙ gone (field_of g.typed (layout g) x 0 after)
            where
              gone : (m : Made Field) → gone_to (O.Scalar r) (then_make m (λ source last. Makes (O.Scalar r) (reading_in q r source last))) ≡ then_make m (λ source last. Makes (O.Scalar r) (reading_in q r source last))
              gone (Makes source last) = refl
              gone Fails = refl
          each Fails = refl

      -- the code finds the position
      pub found_follows : (d : Draft) (s : CodeState) (st : State) → Begun g alive d → At g s (length d.code) → Sim g alive st s → Follows g (Found of x d s) s (located scope single active st) (found_in place of indexes d)
      unfolding located position_in extents_of then_do Extends front_located unless
      found_follows d s st free here sim =
          subst (λ (o : Option ℕ). Follows g (Found of x d s) s (then_do (operands scope indexes active st) (λ given after. indexed_target scope active o place x of given after)) (found_in place of indexes d)) (sym scalar)
          (by (position_in g.typed of items) refl)
        where
          exists : of < length (shapes g)
          exists = (fits s st sim).0

          grows : (outs : List Out) (between : Draft) (b : Bool) → Extends g between (if b then Makes d.regs (front_located place of items (map index_register outs) d.regs between) else Fails)
          grows outs between true = (1 + 1, extended between _ _ 1 1 (and_step _ between) (and_step _ _))
          grows outs between false = tt

          position_so : (position : ℕ) (o : Option ShapeInfo) → (elim o as (λ _. Option ℕ) [ None ↦ None | Some of ↦ position_from 0 of.extents.items items ]) ≡ Some position → position_from 0 (extents_of o) items ≡ Some position
          position_so position None h = cc
          position_so position (Some of) h = h

          by : (o : Option ℕ) → position_in g.typed of items ≡ o → Follows g (Found of x d s) s (then_do (operands scope indexes active st) (λ given after. named place of x given after))
              (elim o as (λ _. Made ℕ) [ Some position ↦ word_in (layout g) position d | None ↦ then_make (codes [] (with_reg d)) (λ outs between. located_in place of items outs d.regs between) ])
          by None none =
              then_follows g (Given g has alive scope active (are_quiet indexes) (elems_of indexes) (with_reg d) s st []) (Found of x d s) s s (operands scope indexes active st) (λ given after. named place of x given after) (codes [] (with_reg d))
              (λ outs between. located_in place of items outs d.regs between) (stay g s)
              (arguments_follow g has alive scope active false (are_quiet indexes) indexes (λ quiet. quiet) done [] (with_reg d) s st (begun_later g alive d (with_reg d) 0 (and_register d) free) here sim) (λ outs between. grows outs between (all_in_registers outs))
              (λ given u outs between r. subst (λ (xs : List Out). Follows g (Found of x d s) s (named place of x given u) (located_in place of items xs d.regs between)) (sym r.is)
              (located_follows place of x items (are_quiet indexes) d between r.grown.0 s r.t u given r.more exists (many exists) r.are_of free r.grown.1 r.go r.at r.sim r.keeps r.held))
          by (Some position) some =
              let from : position_from 0 (extents g of).own items ≡ Some position = subst (λ (xs : List ℕ). position_from 0 xs items ≡ Some position) (extents_are exists) (position_so position (slice_get g.typed.shapes.items of) some) in
              let constants = constants_given (extents g of).own 0 position indexes isin from st in
              let law = known_positions (extents g of).own items constants.0 position (known.places.geometry of exists) constants.1.1 from in
              let same = known.same_extents of exists in
              let below : position < processors (shapes g) of = subst (λ (q : ℕ). q < position_count (extents g of).own) law.1 (indexes_within_name_positions (extents g of).own constants.0 0 law.0) in
              let room = (geometry_parts (extents g of).own (known.places.geometry of exists)).3 in
              follows_same g (Found of x d s) s
              (ap (λ (o : Outcome (List Operand)). then_do o (λ given after. named place of x given after)) constants.1.0
              ∙ named_so place of x constants.0 st None (never_fails scope active (scope.extents of) constants.0 (ap (λ (xs : List ℕ). are_within xs constants.0 0) same ∙ law.0))
              ∙ ap (λ (q : ℕ). Gives (OfPosition x q) st) (ap (λ (xs : List ℕ). named_by xs constants.0 0) same ∙ law.1)) refl
              (then_gives g (λ (x : Unit {0}) u q f. (u ≡ st) × StandsThere d s st position q f) (Found of x d s) s (Gives tt st) (λ y. OfPosition x position) (word_in (layout g) position d) (word_found position d s st (omega (arith, below, room)) free here sim)
              (λ y u q f said. subst (λ (w : State). Found of x d s (OfPosition x position) w q f) (sym said.0) (record { position = position; is = refl; below = below; arrives = said.1.arrives; stays = said.1.stays })))

      -- the field is found, or there is no code
      pub with_field : {B C : Type 0} (R : B → State → C → Draft → Type 0) (s : CodeState) (o : Outcome B) (next : Field → Draft → Made C) (t : CodeState) (u : State) → Sim g alive u t → (f : Draft) → ((found : FindsIt f) → Follows g R s o (next found.f found.e)) → Follows g R s o (then_make (field_of g.typed (layout g) x 0 f) next)
      unfolding then_make
      with_field R s o next t u sim f follows = by (finds t u sim f)
        where
          by : FindsItOrFails f → Follows g R s o (then_make (field_of g.typed (layout g) x 0 f) next)
          by (inl none) = subst (λ (m : Made Field). Follows g R s o (then_make m next)) (sym none) (nothing_said g R s o)
          by (inr found) = subst (λ (m : Made Field). Follows g R s o (then_make m next)) (sym found.is) (follows found)

      pub found_at : (f : Draft) (found : FindsIt f) (t : CodeState) → At g t (length f.code) → At g t (length found.e.code)
      found_at f found t here = subst (λ (c : List Step). At g t (length c)) (sym found.code) here

      -- the instruction that reads there
      pub reads_one : (f : Draft) (found : FindsIt f) (t : CodeState) (u : State) (r q chosen : ℕ) → At g t (length f.code) → Sim g alive u t → chosen < processors (shapes g) of → slice_index t.registers q ≡ chosen → Within g (reading_in q r found.f found.e)
          → begun g.image (placed_instr g (I.ReadFromProcessor ty.elem.signed r q found.f)) t ≡ Goes (with_register r (held ty.elem (u.parallel x 0 chosen)) t)
      unfolding begun applied after number read step_of
      reads_one f found t u r q chosen here sim below stands within =
          ap (λ (reply : Reply). replied (placed_instr g i) (record t { at = t.at + 1 }) reply)
          (ap (λ (n : ℕ). reply_of (shapes g) (placed_instr g i) (n ∷ []) t.memory) stands
          ∙ reads_of_positions (shapes g) t.memory [] r q (place_of g a) u x ty.elem chosen carries.len has_variable (subst (λ (n : ℕ). chosen < processors (shapes g) n) (sym carries.of_set) below))
        where
          e : Draft
          e = found.e

          a : Field
          a = found.f

          i : Instr
          i = I.ReadFromProcessor ty.elem.signed r q a

          at_entry : At g t (length e.code)
          at_entry = found_at f found t here

          carries : Carries (under g active) alive x info of a
          carries = found.carries (with_instr i e) 1 (and_one g i e) (within_under g active within)

          has_variable : (y : ℕ) → y < processors (shapes g) a.set → true ≡ true → field_number t.memory (place_of g a) y ≡ u.parallel x 0 y
          has_variable y below all =
              carries.numbers u t (sim_open g scope active known alive u t sim) (length e.code) (names_first g i a [] (length e.code) (stands_in g i e within refl) refl) (omega (arith, at_entry)) y (subst (λ (n : ℕ). y < processors (shapes g) n) carries.of_set below)

      pub small_there : (u : State) (t : CodeState) (chosen : ℕ) → Sim g alive u t → u.parallel x 0 chosen < 2 ^ ty.elem.bits
      small_there u t chosen sim = (fits t u sim).1 chosen

      -- what is read there
      reads_there : (d : Draft) (s : CodeState) (R : Value → State → Out → Draft → Type 0) (r : ℕ) → Dest g has alive ty.elem d s R r → (there : Target) (u : State) (q : ℕ) (f : Draft) → Found of x d s there u q f → Follows g R s (Gives (read u there) u) (read_in q r f)
      unfolding Follows step_of read
      reads_there d s R r dest there u q f h = subst (λ (y : Target). Follows g R s (Gives (read u y) u) (read_in q r f)) (sym h.is)
          (with_field R s (Gives (Scalar (u.parallel x 0 h.position)) u) (λ source after. Makes (O.Scalar r) (reading_in q r source after)) h.arrives.t u h.arrives.sim f (λ found. λ within.
          put_by g has alive dest found.e (h.arrives.extended.0 + 0) (I.ReadFromProcessor ty.elem.signed r q found.f) h.arrives.t u (u.parallel x 0 h.position) h.arrives.go (found_at f found h.arrives.t h.arrives.at) h.arrives.sim (extended d f found.e h.arrives.extended.0 0 h.arrives.extended.1 found.grown) h.arrives.keeps within refl
          (reads_one f found h.arrives.t u r q h.position h.arrives.at h.arrives.sim h.below (h.stays u h.arrives.t h.arrives.sim (λ b low high. refl)) within) (small_there u h.arrives.t h.position h.arrives.sim)))

      pub reads_follow : (d : Draft) (s : CodeState) (st : State) (R : Value → State → Out → Draft → Type 0) (r : ℕ) → Begun g alive d → At g s (length d.code) → Sim g alive st s → Dest g has alive ty.elem d s R r
          → Follows g R s (evaluated scope single active st) (computed_to g.typed (layout g) (O.Scalar r) single d)
      unfolding evaluated located Extends then_make
      reads_follow d s st R r free here sim dest =
          follows_same g R s (sym (then_ordered (operands scope indexes active st) (λ given between. indexed_target scope active ty.shape place x of given between) (λ there after. Gives (read after there) after))) (read_code r d)
          (then_follows g (Found of x d s) R s s (located scope single active st) (λ there after. Gives (read after there) after) (found_in place of indexes d) (λ q after. read_in q r after) (stay g s) (found_follows d s st free here sim)
          (λ q after. reading_grows q after) (λ there u q f h. reads_there d s R r dest there u q f h))
        where
          reading_grows : (q : ℕ) (after : Draft) → Extends g after (read_in q r after)
          reading_grows q after = extends_then g after (field_of g.typed (layout g) x 0 after) (λ source last. Makes (O.Scalar r) (reading_in q r source last)) (found_extends s st sim after) (λ source last. (1, and_one g (I.ReadFromProcessor ty.elem.signed r q source) last))
