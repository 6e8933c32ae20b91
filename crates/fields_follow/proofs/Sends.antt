-- Sends leave what they leave in the source.
use Rattle.std.proofs.Common.{◌≡◌, ◌∙◌, ℕ, ◌+◌, ◌<◌, ◌%◌, ◌^◌, ◌⊎◌, inl, inr, Bool, true, false, List, [], length, map, Some, None, refl, sym, ap, subst, arith, if◌then◌else◌, Option}
use Rattle.std.specs.Prelude.{is_none, is_some}
use Rattle.std.proofs.Math.Nat.{mod-eq_of_lt}
use Rattle.cstar_base.specs.declared.faults.RunFault.TheVariants.{Index}
use Rattle.cstar_base.specs.declared.operators.Op.{Op}
use Rattle.cstar_base.specs.declared.operators.Op.TheVariants as P
use Rattle.communication_laws.specs.Sends.{sent_word}
use Rattle.constant_trees.proofs.Words.{unary_below}
use Rattle.cstar_tree.specs.declared.typed.UnaryOp.TheVariants as U
use Rattle.cstar_tree.specs.Operations.{folds}
use Rattle.lower_base.specs.Operators.{fold_of, is_signed, assign_op_of}
use Rattle.lower_comm.specs.Messages.{sent_value, all_somewhere, each_located, index_coordinate, sent_to, signed_coordinates}
use Rattle.lower_expr.specs.Kinds.{operator_bits, assigned_bits, longer}
use Rattle.source_meaning.specs.Values.{unary_of, Nothing, Parallel, Value}
use Rattle.code_follows.proofs.Growing.{Extended, extended}
use Rattle.code_follows.proofs.Settings.{earlier, Setting, and_one, layout}
use Rattle.code_follows.proofs.Words.{below_word, held_wide}
use Rattle.fields_follow.specs.Fragment.{AreIndexes, HasPure, IsOfFileOrBlock, IsSent, IsSend, IsSendTarget}
use Rattle.fields_follow.proofs.Passing.{gives_set, After, GivesField, after_same, after_weaker, fields_longer, made_after, nothing_after, then_after}
use Rattle.fields_follow.proofs.SendCode.{sends_extend, IsLike, itself, like_inner, send_at, send_code, sends_out, spot_at, value_sent}
use Rattle.fields_follow.proofs.Sending.{BothStand, both_further, both_negated, combined_leaves, negative_sent, operator_sent, sends_never, sent_as, set_leaves}
use Rattle.fields_follow.proofs.SendValues.{GivesSpread, IsSpread, Sendable, sendable, spread_grows, spread_of}
use Rattle.fields_follow.proofs.Sizes.{brackets_part}
use Rattle.cstar_base.specs.declared.operators.Place.{Place}
use Rattle.cstar_base.proofs.NumberLaws.{kind_bits}
use Rattle.cstar_tree.specs.declared.syntax.AssignOp.{AssignOp}
use Rattle.cstar_tree.specs.declared.syntax.AssignOp.TheVariants as A
use Rattle.cstar_tree.specs.declared.typed.TExpr.{TExpr, Row_of-TExpr, items-the_row-TExpr}
use Rattle.cstar_tree.specs.declared.typed.TExpr as T
use Rattle.cstar_tree.specs.declared.typed.ValueType.{ValueType}
use Rattle.cstar_tree.specs.declared.typed.VarInfo.{VarInfo}
use Rattle.cstar_tree.specs.declared.typed.Variable.{Variable}
use Rattle.cstar_tree.specs.Conversions.{parallel}
use Rattle.cstar_tree.specs.StatementTypes.{variable_info}
use Rattle.cstar_tree.specs.Typed.{type_of}
use Rattle.code_lengths.specs.Lowerable.{IsLowerable}
use Rattle.code_lengths.specs.Naming.{HasAxes, NamesVariables, plain, variable_named}
use Rattle.code_lengths.specs.Ready.{IsReadyButForFields}
use Rattle.code_lengths.specs.Shaped.{IsShaped, IsTarget}
use Rattle.lower_base.specs.declared.emit.Out.{Out}
use Rattle.lower_base.specs.declared.emit.Out.TheVariants as O
use Rattle.lower_base.specs.Drafts.{ChecksTarget, Draft, Fails, Made, Makes, MakesAddress, an_entry, then_make, with_instr, with_step}
use Rattle.lower_base.specs.Layouts.{field_of}
use Rattle.lower_expr.specs.declared.spots.Spot.TheVariants as S
use Rattle.lower_expr.specs.Effects.{effect_of}
use Rattle.lower_expr.specs.Lengths.{bare, is_send, is_sent}
use Rattle.lower_expr.specs.Operands.{are_quiet}
use Rattle.lower_expr.specs.Values.{taken_bits, values_of}
use Rattle.paris_code.specs.declared.instr.Instr.{Instr}
use Rattle.paris_code.specs.declared.instr.Instr.TheVariants as I
use Rattle.paris_code.specs.declared.operands.Field.{Field}
use Rattle.paris_code.specs.declared.program.Owner.TheVariants as W
use Rattle.paris_code.specs.Code.{CodeState}
use Rattle.paris_code.specs.Meaning.{after}
use Rattle.source_meaning.specs.Expressions.{located}
use Rattle.source_meaning.specs.Gets.{Operand, named_by}
use Rattle.source_meaning.specs.Reductions.{divides_by_zero}
use Rattle.source_meaning.specs.Sends.{sent}
use Rattle.source_meaning.specs.State as Source
use Rattle.source_meaning.specs.State.{Gives, Outcome, State}
use Rattle.source_meaning.specs.Targets.{OfTargets, Target}
use Rattle.source_meaning.proofs.ConstantLaws.{Boxed}
use Rattle.code_follows.specs.Fragment.{NamesAmong}
use Rattle.code_follows.proofs.Following.{Extends, HasRegisters, Sim, extends_then, held}
use Rattle.fields_follow.proofs.Computing.{each_after}
use Rattle.fields_follow.proofs.Extents.{own_extents}
use Rattle.fields_follow.proofs.Forms.{HasItsCode}
use Rattle.fields_follow.proofs.Indexing.{AllCoded, KnowsAll, all_coded, all_meant, row_after}
use Rattle.fields_follow.proofs.Instructions.{extents, place, shapes}
use Rattle.fields_follow.proofs.Leaving.{Leaves, UpdateLeaves}
use Rattle.fields_follow.proofs.Lengths.{held_first}
use Rattle.fields_follow.proofs.Locating.{and_step, located_after}
use Rattle.fields_follow.proofs.Outcomes.{Ended, after_all, ended_back, ended_on, meant, outcome_follows, then_known}
use Rattle.fields_follow.proofs.Places.{HoldsTheFields, PlacesFields}
use Rattle.fields_follow.proofs.Routing.{indexes_at, outside_at, target_of, targets_fault, targets_given, targets_of}
use Rattle.fields_follow.proofs.SendMeans.{send_means, sent_from, target_ends, value_ends}
use Rattle.fields_follow.proofs.Starts.{Starts, no_home, starts_entry}
use Rattle.fields_follow.proofs.Updates.{divides_never}
use Rattle.fields_follow.proofs.Values.{Finds, FindsOrFails, and_entry, finds_extends, finds_read, next_field, one_more, starts_found, taken, with_entry}
use Rattle.fields_follow.proofs.Variables.{variable_fits}

-- such a target has its shapes as any expression has
target_shaped : (set : ℕ) (target : TExpr) → IsSendTarget set target → IsTarget target → IsShaped target
unfolding IsSendTarget IsTarget IsShaped
target_shaped set (T.LeftIndex' ty place p indexes variable of) is shaped = shaped
target_shaped set (T.Brackets' ty p inner) is shaped = (ap (λ (y : ValueType). is_none y.shape) is.0, target_shaped set inner is.1 shaped.1)
target_shaped set _ is shaped = absurd is

module _ (g : Setting) (has : HasRegisters g) (alive : Variable → Type 0) (n : ℕ) (ready : (d : Draft) → IsReadyButForFields g.typed g.instance (layout g) n d) (places : PlacesFields g) (fields : HoldsTheFields g) where
  -- A send follows where what its value is follows, and the send itself leaves what is sent.
  sends_by : (aty ty : ValueType) (place_of sending : Place) (op : AssignOp) (p q : Boxed) (r : _) (indexes : Row_of-TExpr _) (target value : TExpr) (variable : Variable) (set of bits : ℕ) (info : VarInfo) → IsOfFileOrBlock variable → alive variable → variable_named g.typed g.instance variable ≡ Some info → info.shape ≡ Some of → info.array ≡ None → IsLike g.typed (layout g) target (T.LeftIndex' ty place_of r indexes variable of) → ty.shape ≡ Some set → aty ≡ type_of target
      → AreIndexes set indexes → HasPure set indexes → AllCoded g has alive n ready places fields indexes → HasAxes g.typed of (length (items-the_row-TExpr _ indexes)) → taken_bits aty.elem.bits op target value ≡ bits → ((x : ℕ) → divides_by_zero op x ≡ false)
      → (number : State → ℕ → ℕ) → IsSpread g has alive n ready places fields bits set value number → HasItsCode g.typed g.instance alive n value
      → (d : Draft) (s : CodeState) (st : State) → Starts g alive s (length d.code) d.regs (length d.fields) → Sim g alive st s
      → ((a : Field) (e : Draft) → BothStand g alive places fields set d st (λ x. target_of of (extents g set) st indexes x) (λ x. number st x) bits (λ x. held (type_of value).elem (number st x)) s a e → (found : Finds g has alive n ready places fields of variable info e)
      → After g (λ out f. Leaves g alive d f s (sent op aty.elem (type_of value).elem variable (sent_from fields.scope fields.active set (λ x. target_of of (extents g set) st indexes x) (λ x. number st x)) st)) (send_at g aty op value (next_field set 32 d) a found.f found.e))
      → UpdateLeaves g alive fields (T.Assign' aty sending op p target q value) d s st
  unfolding each_located located sends_out Extends then_make
  sends_by aty ty place_of sending op p q r indexes target value variable set of bits info read living known_so parallel_so one like shaped same are some coded axes took never number stands c d s st here sim last =
      outcome_follows g s o Nothing u (λ out f. Leaves g alive d f s u) (λ x t out f. Leaves g alive d f s t) (effect_of g.typed (layout g) e d) (λ out f said. said)
      (after_same g Q (send_code g aty ty place_of sending op p q r indexes target value variable set of bits d like shaped same took)
      (then_after g Known Q (values_of g.typed (layout g) false (are_quiet indexes) indexes [] first_draft) (λ parts between. then_make (spot_at g of place_of items address parts between) (λ _ after. value_sent g bits set variable aty op value address after))
      (row_after g has alive n ready places fields indexes (are_quiet indexes) set bound first_draft s st are some coded (each_after g has alive n ready places fields set indexes coded) (omega (arith, first)) (starts_entry g alive _ _ here) sim)
      (λ parts between. extends_then g between (spot_at g of place_of items address parts between) (λ _ after. value_sent g bits set variable aty op value address after) (spot_extends parts between (all_somewhere parts)) (λ _ after. value_extends after)) (λ parts between known. by parts between known)))
    where
      e : TExpr
      e = T.Assign' aty sending op p target q value

      left : TExpr
      left = T.LeftIndex' ty place_of r indexes variable of

      items : List TExpr
      items = items-the_row-TExpr _ indexes

      address : Field
      address = next_field set 32 d

      first_draft : Draft
      first_draft = with_entry set 32 W.Own d

      first : length first_draft.fields ≡ length d.fields + 1
      first = one_more set 32 W.Own d

      bound : ℕ
      bound = length d.fields

      given : List Operand
      given = indexes_at (extents g set) st indexes

      to : ℕ → ℕ
      to x = target_of of (extents g set) st indexes x

      v : ℕ → ℕ
      v x = number st x

      w : ℕ → ℕ
      w x = held (type_of value).elem (number st x)

      u : State
      u = sent op aty.elem (type_of value).elem variable (sent_from fields.scope fields.active set to v) st

      o : Outcome Value
      o = meant g fields e st

      there_in : Outcome Target
      there_in = located fields.scope left fields.active st

      Q : Out → Draft → Type 0
      Q out f = ((o ≡ Source.Gives Nothing u) × Leaves g alive d f s u) ⊎ Ended g s o

      Known : List Out → Draft → Type 0
      Known parts between = KnowsAll g has alive n ready places fields set bound first_draft s st indexes [] parts between

      Located : Draft → Type 0
      Located x = ((there_in ≡ Source.Gives (OfTargets variable to set) st) × GivesField g alive 32 bound first_draft s set st to address x) ⊎ Ended g s there_in

      exists : of < length (shapes g)
      exists = (variable_fits g alive places fields of variable info read living known_so parallel_so one st s sim).0

      finds : (x : Draft) → FindsOrFails g has alive n ready places fields of variable info x
      finds x = finds_read g has alive n ready places fields of variable info x read living known_so parallel_so one s st sim

      grows : (x : Draft) → Extends g x (field_of g.typed (layout g) variable 0 x)
      grows x = finds_extends g has alive n ready places fields of variable info x (finds x)

      many : length items ≡ length (extents g of).own
      many = axes.2 ∙ ap length (sym (own_extents g.typed of axes.0 axes.1) ∙ (places.grids of exists).0)

      checked : List Out → Draft → Draft
      checked parts between = with_step (ChecksTarget of place_of (signed_coordinates items (map index_coordinate parts))) between

      placed : List Out → Draft → Draft
      placed parts between = with_step (MakesAddress address of (map index_coordinate parts)) (checked parts between)

      placed_more : (parts : List Out) (between : Draft) → Extended between (1 + 1) (placed parts between)
      placed_more parts between = extended between (checked parts between) (placed parts between) 1 1 (and_step _ between) (and_step _ (checked parts between))

      spot_extends : (parts : List Out) (between : Draft) (b : Bool) → Extends g between (if b then Makes (S.Indexed (O.Field address)) (placed parts between) else Fails)
      spot_extends parts between true = (1 + 1, placed_more parts between)
      spot_extends parts between false = tt

      value_extends : (x : Draft) → Extends g x (value_sent g bits set variable aty op value address x)
      value_extends x = extends_then g x (spread_of g has alive n ready places fields bits set value x) (λ out after. sends_out g variable aty op value address out after) (spread_grows g has alive n ready places fields bits set value c x) (λ out after. sends_extend g variable aty op value address out after (grows after))

      target_ended : Ended g s there_in → Ended g s o
      target_ended early = record {
        early = early.early;
        state = early.state;
        is = target_ends fields.scope fields.active aty sending op p q target value early.early early.state st (like.means fields.scope fields.active st ∙ early.is);
        finishes = early.finishes;
      }

      value_ended : there_in ≡ Source.Gives (OfTargets variable to set) st → Ended g s (meant g fields value st) → Ended g s o
      value_ended there early = record {
        early = early.early;
        state = early.state;
        is = value_ends fields.scope fields.active aty sending op p q target value (OfTargets variable to set) early.early early.state st (like.means fields.scope fields.active st ∙ there) early.is;
        finishes = early.finishes;
      }

      means : there_in ≡ Source.Gives (OfTargets variable to set) st → meant g fields value st ≡ Source.Gives (Parallel v) st → o ≡ Source.Gives Nothing u
      means there gives = send_means fields.scope fields.active aty sending op p q target value set variable to v st (ap (λ (y : ValueType). y.shape) (same ∙ like.type) ∙ shaped) (λ x. never (v x)) (like.means fields.scope fields.active st ∙ there) gives

      knows : all_meant g has alive n ready places fields indexes st ≡ Source.Gives given st → outside_at fields.scope fields.active set of given ≡ None → there_in ≡ Source.Gives (OfTargets variable to set) st
      knows known clear =
          targets_given fields.scope fields.active ty place_of r indexes variable set of given st shaped known clear
          ∙ ap (λ (xs : List ℕ). Source.Gives (OfTargets variable (λ x. named_by xs given x) set) st) (fields.same_extents of exists)

      send_then : (x : Draft) → Located x → After g Q (value_sent g bits set variable aty op value address x)
      send_then x (inr early) = after_all g Q (value_sent g bits set variable aty op value address x) (λ out f. inr (target_ended early))
      send_then x (inl (there, gives)) =
          then_known g gives.passes.t (meant g fields value st) v st (GivesSpread g has alive n ready places fields bits x gives.passes.t set st w) Q (spread_of g has alive n ready places fields bits set value x) (λ out after. sends_out g variable aty op value address out after)
          (stands x gives.passes.t st gives.passes.at gives.passes.sim) (λ out after. sends_extend g variable aty op value address out after (grows after))
          (λ known out f (a, (is_a, of_value)). after_same g Q (ap (λ (y : Out). sends_out g variable aty op value address y f) is_a) (found_then known a f (record { x = x; address = gives; value = of_value }) (finds f)))
          (λ early out f. inr (value_ended there (ended_back g s gives.passes.t (meant g fields value st) gives.passes.go early)))
        where
          code : Field → Made Field → Made Out
          code a made = then_make made (λ dest after. send_at g aty op value address a dest after)

          found_then : meant g fields value st ≡ Source.Gives (Parallel v) st → (a : Field) (f : Draft) → BothStand g alive places fields set d st to v bits w s a f → FindsOrFails g has alive n ready places fields of variable info f → After g Q (code a (field_of g.typed (layout g) variable 0 f))
          found_then known a f both (inl fails) = after_same g Q (ap (code a) fails) (nothing_after g Q)
          found_then known a f both (inr found) =
              after_same g Q (ap (code a) found.is) (after_weaker g (λ z h. Leaves g alive d h s u) Q (send_at g aty op value address a found.f found.e) (λ z h said. inl (means there known, said)) (last a f both found))

      by : (parts : List Out) (between : Draft) → Known parts between → After g Q (then_make (spot_at g of place_of items address parts between) (λ _ after. value_sent g bits set variable aty op value address after))
      by parts between (inr early) =
          after_all g Q (then_make (spot_at g of place_of items address parts between) (λ _ after. value_sent g bits set variable aty op value address after))
          (λ out f. inr (target_ended (ended_on g s (all_meant g has alive n ready places fields indexes st) (λ given after. targets_of fields.scope fields.active ty place_of variable of given after) early)))
      by parts between (inl (known, stand, found)) =
          then_after g (λ _ x. Located x) Q (spot_at g of place_of items address parts between) (λ _ after. value_sent g bits set variable aty op value address after)
          (after_same g (λ _ x. Located x) (ap (λ (b : Bool). if b then Makes (S.Indexed (O.Field address)) (placed parts between) else Fails) stand.somewhere)
          (made_after g (λ _ x. Located x) (S.Indexed (O.Field address)) (placed parts between) (λ within.
          located_after g alive places fields has n ready set of bound place_of indexes parts address first_draft between s st Located are found coded many exists refl refl (omega arith) (let longer = fields_longer first_draft between stand.passes.grown.0 stand.passes.grown.1 in omega (arith, longer, first))
          (taken g set 32 W.Own d (placed parts between) (stand.passes.grown.0 + (1 + 1)) within (extended first_draft between (placed parts between) stand.passes.grown.0 (1 + 1) stand.passes.grown.1 (placed_more parts between))) (no_home g alive (length d.fields) (length d.fields) (omega arith) here) stand within
          (λ clear x gives. inl (knows known clear, gives))
          (λ y some ends x. inr (record { early = Source.Fault Index place_of (Some y); state = st; is = targets_fault fields.scope fields.active ty place_of r indexes variable set of given st y shaped known some; finishes = ends })))))
          (λ _ after. value_extends after) (λ _ x so. send_then x so)

  -- so many bits are taken of what is sent without an operator, and with one
  taken_plainly : (bits : ℕ) (op : AssignOp) (target value : TExpr) → op ≡ A.Set → is_send target ≡ true → taken_bits bits op target value ≡ (type_of target).elem.bits
  unfolding assign_op_of assigned_bits
  taken_plainly bits op target value set sends = ap (λ (x : AssignOp). taken_bits bits x target value) set ∙ ap (λ (b : Bool). if b then (type_of target).elem.bits else longer bits (type_of target).elem.bits) sends

  taken_wide : (bits set : ℕ) (op : AssignOp) (o : Op) (target value : TExpr) → assign_op_of op ≡ Some o → (type_of target).shape ≡ Some set → taken_bits bits op target value ≡ 32
  unfolding assigned_bits operator_bits
  taken_wide bits set op o target value is shaped =
      ap (λ (x : Option Op). elim x as (λ _. ℕ) [ None ↦ if is_send target then (type_of target).elem.bits else longer bits (type_of target).elem.bits | Some y ↦ operator_bits y (type_of target).shape value ]) is
      ∙ ap (λ (x : Option ℕ). operator_bits o x value) shaped

  -- such a send leaves what it leaves in the source
  abbrev Sends : (aty ty : ValueType) (place_of sending : Place) (op : AssignOp) (p q : Boxed) (target value left : TExpr) (set : ℕ) → Type 0
  Sends aty ty place_of sending op p q target value left set =
      IsLike g.typed (layout g) target left → ty.shape ≡ Some set → aty ≡ type_of target → HasItsCode g.typed g.instance alive n left → Sendable g has alive n ready places fields set value → HasItsCode g.typed g.instance alive n value
      → (d : Draft) (s : CodeState) (st : State) → Starts g alive s (length d.code) d.regs (length d.fields) → Sim g alive st s → UpdateLeaves g alive fields (T.Assign' aty sending op p target q value) d s st

  sets : (aty ty : ValueType) (place_of sending : Place) (p q : Boxed) (r : _) (indexes : Row_of-TExpr _) (target value : TExpr) (variable : Variable) (set of : ℕ) → IsOfFileOrBlock variable → AreIndexes set indexes × HasPure set indexes → (type_of value).elem.bits ≡ aty.elem.bits → Sends aty ty place_of sending A.Set p q target value (T.LeftIndex' ty place_of r indexes variable of) set
  unfolding NamesVariables NamesAmong is_send is_sent bare sent_to assign_op_of then_make
  sets aty ty place_of sending p q r indexes target value variable set of read are long like shaped same c h own d s st here sim =
      sends_by aty ty place_of sending A.Set p q r indexes target value variable set of bits info read c.among.0 c.code.names.0.named refl refl like shaped same are.0 are.1 (all_coded g has alive n ready places fields ty place_of r indexes variable of c) c.code.names.2
      (taken_plainly aty.elem.bits A.Set target value refl (like.sends ∙ ap is_some shaped) ∙ ap (λ (y : ValueType). y.elem.bits) like.type) (λ x. divides_never A.Set x refl)
      h.number (h.spreads bits (kind_bits ty.elem.bits ty.elem.signed ty.elem.kind).0 (kind_bits ty.elem.bits ty.elem.signed ty.elem.kind).1) own d s st here sim
      (λ a e both found. made_after g (λ out f. Leaves g alive d f s u) O.Nothing (with_instr (I.SendWithOverwrite found.f aty.elem (next_field set 32 d) a) found.e)
      (λ within. set_leaves g alive places fields set d st to v of variable info c.among.0 found.f (found.carries (with_instr (I.SendWithOverwrite found.f aty.elem (next_field set 32 d) a) found.e) 1 (and_one g (I.SendWithOverwrite found.f aty.elem (next_field set 32 d) a) found.e) within) w s a found.e
      (both_further g alive places fields set d st to v bits w s a e found.e found.grown both (starts_found g has alive n ready places fields of variable info e both.value.passes.t found both.value.passes.at)) aty.elem (type_of value).elem held_there within))
    where
      bits : ℕ
      bits = ty.elem.bits

      info : VarInfo
      info = variable_info c.code.names.0.word (plain (parallel ty.elem of)) c.code.names.0.start

      to : ℕ → ℕ
      to x = target_of of (extents g set) st indexes x

      v : ℕ → ℕ
      v x = h.number st x

      w : ℕ → ℕ
      w x = held (type_of value).elem (h.number st x)

      u : State
      u = sent A.Set aty.elem (type_of value).elem variable (sent_from fields.scope fields.active set to v) st

      of_type : (type_of value).elem.bits ≡ bits
      of_type = long ∙ ap (λ (y : ValueType). y.elem.bits) (same ∙ like.type)

      held_there : (x : ℕ) → (w x % 2 ^ bits ≡ v x) × (v x < 2 ^ bits)
      held_there x =
          let small : v x < 2 ^ (type_of value).elem.bits = h.small s st sim x in
          let few : v x < 2 ^ bits = subst (λ (m : ℕ). v x < 2 ^ m) of_type small in
          (held_first (type_of value).elem (v x) bits small (omega (arith, of_type)) ∙ mod-eq_of_lt few, few)

  combines : (aty ty : ValueType) (place_of sending : Place) (op : AssignOp) (p q : Boxed) (r : _) (indexes : Row_of-TExpr _) (target value : TExpr) (variable : Variable) (set of : ℕ) → IsOfFileOrBlock variable → AreIndexes set indexes × HasPure set indexes → folds op ≡ true → (type_of value).elem.bits ≡ 32 → Sends aty ty place_of sending op p q target value (T.LeftIndex' ty place_of r indexes variable of) set
  unfolding NamesVariables NamesAmong sent_to sent_value then_make an_entry
  combines aty ty place_of sending op p q r indexes target value variable set of read are folding wide like shaped same c h own d s st here sim =
      sends_by aty ty place_of sending op p q r indexes target value variable set of 32 info read c.among.0 c.code.names.0.named refl refl like shaped same are.0 are.1 (all_coded g has alive n ready places fields ty place_of r indexes variable of c) c.code.names.2
      (taken_wide aty.elem.bits set op operator.0 target value operator.1 (ap (λ (y : ValueType). y.shape) like.type ∙ shaped)) (λ x. sends_never op x folding)
      h.number (h.spreads 32 (omega arith) (omega arith)) own d s st here sim
      (λ a e both found. after_same g R (ap (λ (x : Option Op). then_make (sent_to x signed aty.elem found.f address a found.e) finally) operator.1)
      (by a e found operator.0 operator.1 (both_further g alive places fields set d st to v 32 w s a e found.e found.grown both (starts_found g has alive n ready places fields of variable info e both.value.passes.t found both.value.passes.at)) (sent_as operator.0)))
    where
      operator : (o : Op) × (assign_op_of op ≡ Some o)
      operator = operator_sent op folding

      signed : Bool
      signed = is_signed (type_of value).elem

      info : VarInfo
      info = variable_info c.code.names.0.word (plain (parallel ty.elem of)) c.code.names.0.start

      address : Field
      address = next_field set 32 d

      to : ℕ → ℕ
      to x = target_of of (extents g set) st indexes x

      v : ℕ → ℕ
      v x = h.number st x

      w : ℕ → ℕ
      w x = held (type_of value).elem (h.number st x)

      u : State
      u = sent op aty.elem (type_of value).elem variable (sent_from fields.scope fields.active set to v) st

      R : Out → Draft → Type 0
      R out f = Leaves g alive d f s u

      finally : Out → Draft → Made Out
      finally _ last = Makes O.Nothing last

      of_type : info.elem.bits ≡ aty.elem.bits
      of_type = ap (λ (y : ValueType). y.elem.bits) (sym (same ∙ like.type))

      few : (x : ℕ) → v x < 2 ^ 32
      few x = below_word (type_of value).elem.bits (v x) wide (h.small s st sim x)

      is_word : (x : ℕ) → w x ≡ v x
      is_word x = held_wide (type_of value).elem (v x) wide (few x)

      sending_by : Op → Field → Field → Draft → Made Out
      sending_by o dest source after = Makes O.Nothing (with_instr (I.SendWithCombiner (fold_of o signed) dest aty.elem address source) after)

      by : (a : Field) (e : Draft) (found : Finds g has alive n ready places fields of variable info e) (o : Op) → assign_op_of op ≡ Some o → BothStand g alive places fields set d st to v 32 w s a found.e → (o ≡ P.Sub) ⊎ (((x : ℕ) → sent_word o x ≡ x) × ((f : Field) (y : Draft) → sent_value o f y ≡ Makes f y))
          → After g R (then_make (sent_to (Some o) signed aty.elem found.f address a found.e) finally)
      by a e found o is_op both (inr plain) =
          after_same g R (ap (λ (m : Made Field). then_make (then_make m (sending_by o found.f)) finally) (plain.1 a found.e))
          (made_after g R O.Nothing (with_instr i found.e) (λ within.
          combined_leaves g alive places fields set d st to v of variable info c.among.0 found.f (found.carries (with_instr i found.e) 1 (and_one g i found.e) within) op o is_op folding w s a found.e both aty.elem (type_of value).elem wide of_type
          (λ x. (ap (λ (m : ℕ). m % 2 ^ 32) (is_word x) ∙ mod-eq_of_lt (few x) ∙ sym (plain.0 (v x)), few x)) within))
        where
          i : Instr
          i = I.SendWithCombiner (fold_of o signed) found.f aty.elem address a
      by a e found o is_op both (inl subtracts) =
          after_same g R (ap (λ (x : Op). then_make (sent_to (Some x) signed aty.elem found.f address a e1) finally) subtracts
          ∙ ap (λ (m : ℕ). then_make (then_make (then_make (an_entry m 32 W.Own e1) (λ source after. Makes source (with_instr (I.Negate source a) after))) (sending_by P.Sub found.f)) finally) (gives_set g alive places fields 32 (length both.x.fields) both.x both.address.passes.t set st w a e1 both.value).0)
          (made_after g R O.Nothing (with_instr i e3) (λ within.
          combined_leaves g alive places fields set d st to v of variable info c.among.0 found.f (found.carries (with_instr i e3) (0 + 1 + 1) (extended e1 e3 (with_instr i e3) (0 + 1) 1 more (and_one g i e3)) within) op P.Sub (is_op ∙ ap Some subtracts) folding (λ x. unary_of U.Minus (w x)) s source e3
          (both_negated g alive places fields set d st to v w s a e1 both (earlier g e3 (with_instr i e3) 1 (and_one g i e3) within)) aty.elem (type_of value).elem wide of_type
          (λ x. (ap (λ (m : ℕ). unary_of U.Minus m % 2 ^ 32) (is_word x) ∙ mod-eq_of_lt (unary_below U.Minus (v x) (few x)) ∙ negative_sent (v x) (few x), few x)) within))
        where
          e1 : Draft
          e1 = found.e

          source : Field
          source = next_field set 32 e1

          e2 : Draft
          e2 = with_entry set 32 W.Own e1

          e3 : Draft
          e3 = with_instr (I.Negate source a) e2

          i : Instr
          i = I.SendWithCombiner (fold_of P.Sub signed) found.f aty.elem address source

          more : Extended e1 (0 + 1) e3
          more = extended e1 e2 e3 0 1 (and_entry set 32 W.Own e1) (and_one g (I.Negate source a) e2)

  -- either of these, to what stands within brackets
  sends_to : (aty : ValueType) (sending : Place) (op : AssignOp) (p q : Boxed) (target left value : TExpr) (set : ℕ) → IsLike g.typed (layout g) target left → IsSendTarget set left → aty ≡ type_of target → HasItsCode g.typed g.instance alive n left → IsSent op aty.elem value → Sendable g has alive n ready places fields set value → HasItsCode g.typed g.instance alive n value
      → (d : Draft) (s : CodeState) (st : State) → Starts g alive s (length d.code) d.regs (length d.fields) → Sim g alive st s → UpdateLeaves g alive fields (T.Assign' aty sending op p target q value) d s st
  unfolding IsSendTarget
  sends_to aty sending op p q target (T.LeftIndex' ty place_of r indexes variable of) value set like is same c (inl (plainly, long)) h own d s st here sim =
      subst (λ (x : AssignOp). UpdateLeaves g alive fields (T.Assign' aty sending x p target q value) d s st) (sym plainly) (sets aty ty place_of sending p q r indexes target value variable set of is.1 (is.2, is.3) long like is.0 same c h own d s st here sim)
  sends_to aty sending op p q target (T.LeftIndex' ty place_of r indexes variable of) value set like is same c (inr (folding, wide)) h own d s st here sim =
      combines aty ty place_of sending op p q r indexes target value variable set of is.1 (is.2, is.3) folding wide like is.0 same c h own d s st here sim
  sends_to aty sending op p q target (T.Brackets' ty r inner) value set like is same c is_sent h own d s st here sim =
      sends_to aty sending op p q target inner value set (like_inner g.typed (layout g) target ty r inner is.0 like) is.1 same (brackets_part g alive n places fields ty r inner c) is_sent h own d s st here sim
  sends_to aty sending op p q target _ value set like is same c is_sent h own d s st here sim = absurd is

  pub sends_leave : (e : TExpr) → IsSend e → HasItsCode g.typed g.instance alive n e → (d : Draft) (s : CodeState) (st : State) → Starts g alive s (length d.code) d.regs (length d.fields) → Sim g alive st s → UpdateLeaves g alive fields e d s st
  unfolding IsSend NamesVariables IsShaped IsLowerable NamesAmong
  sends_leave (T.Assign' ty sending op p target q value) is c d s st here sim =
      sends_to ty sending op p q target target value is.2.0 (itself g.typed (layout g) target) is.2.1.0 is.0 (record { code = record { shaped = target_shaped is.2.0 target is.2.1.0 c.code.shaped.2; lowerable = c.code.lowerable.2; names = c.code.names.0 }; among = c.among.0 })
      is.1 (sendable g has alive n ready places fields is.2.0 value is.2.1.1 own) own d s st here sim
    where
      own : HasItsCode g.typed g.instance alive n value
      own = record { code = record { shaped = c.code.shaped.3; lowerable = c.code.lowerable.3; names = c.code.names.1 }; among = c.among.1 }
  sends_leave _ is c d s st here sim = absurd is
