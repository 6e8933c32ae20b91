-- The code of communication is as long as described.
use Rattle.std.proofs.Common.{◌≡◌, ℕ, suc, ◌+◌, Bool, true, false, not, ◌&&◌, ◌||◌, ◌==◌, nat_lt, List, [], ◌∷◌, ◌++◌, length, length-append, Option, Some, None, is_none, refl, sym, ap, ◌∙◌, subst, arith, if◌then◌else◌}
use denote.Hole.Carrier
use Rattle.cstar_base.specs.declared.elem.Elem.{Elem}
use Rattle.cstar_base.specs.declared.operators.Op.{Op}
use Rattle.cstar_base.specs.declared.operators.Op.TheVariants as P
use Rattle.cstar_base.specs.declared.operators.Place.{Place}
use Rattle.cstar_tree.specs.declared.syntax.AssignOp.{AssignOp}
use Rattle.cstar_tree.specs.declared.syntax.AssignOp.TheVariants as A
use Rattle.cstar_tree.specs.declared.syntax.ReduceOp.{ReduceOp}
use Rattle.cstar_tree.specs.declared.syntax.ReduceOp.TheVariants as Rd
use Rattle.cstar_tree.specs.declared.typed.Instance.{Instance}
use Rattle.cstar_tree.specs.declared.typed.TExpr.{TExpr, out-TExpr}
use Rattle.cstar_tree.specs.declared.typed.TExpr as T
use Rattle.cstar_tree.specs.declared.typed.Typed.{Typed}
use Rattle.cstar_tree.specs.declared.typed.ValueType.{ValueType}
use Rattle.cstar_tree.specs.declared.typed.Variable.{Variable}
use Rattle.cstar_tree.specs.Conversions.{parallel}
use Rattle.cstar_tree.specs.Typed.{type_of}
use Rattle.paris_code.specs.declared.instr.Instr.TheVariants as I
use Rattle.paris_code.specs.declared.operands.Field.{Field}
use Rattle.paris_code.specs.declared.operands.GridStep.{GridStep}
use Rattle.paris_code.specs.declared.operands.Reduction.{Reduction}
use Rattle.paris_code.specs.declared.program.Owner.TheVariants as W
use Rattle.lower_base.specs.declared.emit.Out.{Out}
use Rattle.lower_base.specs.declared.emit.Out.TheVariants as O
use Rattle.lower_comm.specs.declared.gets.Hop.{Hop}
use Rattle.lower_comm.specs.declared.news.NewsStep.{NewsStep}
use Rattle.lower_base.specs.Drafts.{Draft, Made, Makes, Fails, then_make, from, with_instr, an_entry, first_bits}
use Rattle.lower_base.specs.Kinds.{fold_kind, fold_length}
use Rattle.lower_base.specs.Layouts.{Layout}
use Rattle.lower_comm.specs.Messages.{all_in_registers, all_somewhere, front_located, each_located, located_at, located, is_left_index, checked_part, grid_steps, with_grid_check, hopped, is_extended, moving_part, moving_steps, stepwise, with_hop, gotten_by_steps, read_at, part_register, part_field, with_sign, with_fold, folded_onto, negated_by, reduced, indexed, indexed_field, stored, sent_value, sent_to, sent, scanned, segment_field, enumerated, communicated}
use Rattle.lower_comm.specs.News.{step_of}
use Rattle.lower_base.specs.Operators.{assign_op_of}
use Rattle.lower_expr.specs.Lengths.{bare, load_length_of, negative_length, reduce_length, send_length, read_length, moves_length, news_move, is_checked, news_moves, news_checked}
use Rattle.code_lengths.specs.Growth.{Extended, GrowsOr, Stands, Anything}
use Rattle.code_lengths.specs.Naming.{HasBits, NamesVariables}
use Rattle.code_lengths.specs.Ready.{IsReadyOr}
use Rattle.code_lengths.proofs.Drafting.{IsAt, nothing_more, at_stands, in_field_at, as_it_was, extended, resized, and_step, and_instr, makes, sized, behind, bind, bind_behind, in_register_grows, in_field_grows, register_grows, entry_grows}
use Rattle.code_lengths.proofs.Pieces.{InRegister, InField}
use Rattle.code_lengths.proofs.Readiness.{ready_behind, variable_field_grows}

-- each value of an index stands somewhere, and for an address in a register all stand in registers
pub record AreIndexes (k : Bool) (outs : List Out) : Type 0 where
  pub in_registers : k ≡ true → all_in_registers outs ≡ true
  pub somewhere : all_somewhere outs ≡ true

pub register_first : (v : Out) (vs : List Out) → InRegister v → all_in_registers vs ≡ true → all_in_registers (v ∷ vs) ≡ true
unfolding all_in_registers
register_first (O.Scalar r) vs s h = h
register_first (O.Field f) vs s h = cc
register_first O.Nothing vs s h = absurd s

pub somewhere_first : (k : Bool) (v : Out) (vs : List Out) → Stands k v → all_somewhere vs ≡ true → all_somewhere (v ∷ vs) ≡ true
unfolding all_somewhere
somewhere_first k (O.Scalar r) vs s h = h
somewhere_first k (O.Field f) vs s h = h
somewhere_first k O.Nothing vs s h = absurd s

-- an address
made_if : (lacks : Type 0) (k b : Bool) (at : Out) (d e : Draft) → b ≡ true → Stands k at → Extended d 2 e → GrowsOr lacks d 2 (Stands k) (if b then Makes at e else Fails)
made_if lacks k true at d e b h x = makes lacks (Stands k) at d e 2 h x
made_if lacks k false at d e b h x = cc

located_at_grows : (lacks : Type 0) (k : Bool) (place : Place) (of : ℕ) (indexes : List TExpr) (outs : List Out) (at : Out) (d : Draft) → AreIndexes k outs → Stands k at → GrowsOr lacks d 2 (Stands k) (located_at place of indexes outs at d)
unfolding located_at front_located each_located
located_at_grows lacks k place of indexes outs (O.Scalar r) d a h = made_if lacks k (all_in_registers outs) (O.Scalar r) d _ (a.in_registers h) h (and_step _ d _ 1 (and_step _ d d 0 (as_it_was d)))
located_at_grows lacks k place of indexes outs (O.Field f) d a h = made_if lacks k (all_somewhere outs) (O.Field f) d _ a.somewhere h (and_step _ d _ 1 (and_step _ d d 0 (as_it_was d)))
located_at_grows lacks k place of indexes outs O.Nothing d a h = absurd h

pub located_grows : (lacks : Type 0) (k : Bool) (e : TExpr) (outs : List Out) (at : Out) (d : Draft) → is_left_index e ≡ true → AreIndexes k outs → Stands k at → GrowsOr lacks d 2 (Stands k) (located e outs at d)
unfolding located is_left_index out-TExpr Carrier.out
located_grows lacks k (T.LeftIndex' ty place p indexes x of) outs at d i a h = located_at_grows lacks k place of _ outs at d a h
located_grows lacks k _ outs at d i a h = cc

-- the check of a get by NEWS
pub some_in : {A : Type 0} → List A → Bool
some_in [] = false
some_in (x ∷ xs) = true

some_in_two : {A : Type 0} (xs ys : List A) → some_in (xs ++ ys) ≡ (some_in xs || some_in ys)
unfolding some_in
some_in_two [] ys = refl
some_in_two (x ∷ xs) ys = refl

checked_by : (b : Bool) (s : GridStep) → some_in (if b then s ∷ [] else []) ≡ b
unfolding some_in
checked_by true s = refl
checked_by false s = refl

part_checked : (axis : ℕ) (s : Option NewsStep) → some_in (checked_part axis s) ≡ is_checked s
unfolding checked_part is_checked some_in
part_checked axis None = refl
part_checked axis (Some s) = checked_by s.checked _

pub grid_checked : (of axis : ℕ) (indexes : List TExpr) → some_in (grid_steps of axis indexes) ≡ news_checked of axis indexes
unfolding grid_steps news_checked some_in
grid_checked of axis [] = refl
grid_checked of axis (e ∷ rest) =
    some_in_two (checked_part axis (step_of of axis e)) (grid_steps of (axis + 1) rest)
    ∙ ap (λ (b : Bool). b || some_in (grid_steps of (axis + 1) rest)) (part_checked axis (step_of of axis e))
    ∙ ap (λ (b : Bool). is_checked (step_of of axis e) || b) (grid_checked of (axis + 1) rest)

pub grid_check_more : (set : ℕ) (place : Place) (steps : List GridStep) (d : Draft) → Extended d (if some_in steps then 1 else 0) (with_grid_check set place steps d)
unfolding with_grid_check some_in
grid_check_more set place [] d = as_it_was d
grid_check_more set place (s ∷ steps) d = and_step _ d d 0 (as_it_was d)

-- the moves
moves_by : (b : Bool) (s : GridStep) → length (if b then [] else s ∷ []) ≡ (if b then 0 else 1)
moves_by true s = refl
moves_by false s = refl

part_moves : (axis : ℕ) (s : Option NewsStep) → length (moving_part axis s) ≡ news_move s
unfolding moving_part news_move
part_moves axis None = refl
part_moves axis (Some s) = moves_by (s.by == 0) _

moves_counted : (of axis : ℕ) (indexes : List TExpr) → length (moving_steps of axis indexes) ≡ news_moves of axis indexes
unfolding moving_steps news_moves
moves_counted of axis [] = refl
moves_counted of axis (e ∷ rest) =
    length-append (moving_part axis (step_of of axis e)) (moving_steps of (axis + 1) rest)
    ∙ ap (λ (n : ℕ). n + length (moving_steps of (axis + 1) rest)) (part_moves axis (step_of of axis e))
    ∙ ap (λ (n : ℕ). news_move (step_of of axis e) + n) (moves_counted of (axis + 1) rest)

hop_more : (step : GridStep) (hop : Hop) (d : Draft) → Extended d 1 (with_hop step hop d)
unfolding with_hop
hop_more step hop d = and_instr _ d d 0 (as_it_was d)

not_zero : (n : ℕ) → (suc n == 0) ≡ false
not_zero n = grind (arith)

some_moves : (bits : ℕ) (elem : Elem) (n : ℕ) → moves_length bits elem (suc n) ≡ (if not (nat_lt elem.bits bits) then suc n else suc n + 1)
unfolding moves_length
some_moves bits elem n = ap (λ (none : Bool). if not none && not (nat_lt elem.bits bits) then suc n else suc n + 1) (not_zero n)

stepwise_on : (elem : Elem) (dest : Field) (step next : GridStep) (steps : List GridStep) (hop : Hop) (d : Draft) →
    stepwise elem dest (step ∷ (next ∷ steps)) hop d ≡ stepwise elem dest (next ∷ steps) (hopped hop) (with_hop step hop d)
unfolding stepwise
stepwise_on elem dest step next steps hop d =
    ap (λ (last : Bool). if last && not (is_extended elem dest) then with_instr (I.GetFromNews dest hop.source step.axis step.step) d else stepwise elem dest (next ∷ steps) (hopped hop) (with_hop step hop d))
    (not_zero (length steps))

one_more_move : (b : Bool) (n : ℕ) → 1 + (if b then suc n else suc n + 1) ≡ (if b then suc (suc n) else suc (suc n) + 1)
one_more_move true n = omega arith
one_more_move false n = omega arith

stepwise_more : (elem : Elem) (dest : Field) (steps : List GridStep) (hop : Hop) (d : Draft) → Extended d (moves_length dest.len elem (length steps)) (stepwise elem dest steps hop d)
unfolding stepwise moves_length is_extended
stepwise_more elem dest [] hop d = and_instr _ d d 0 (as_it_was d)
stepwise_more elem dest (step ∷ []) hop d = by (not (nat_lt elem.bits dest.len))
  where
    by : (b : Bool) → Extended d (if b then 1 else 2) (if b then with_instr (I.GetFromNews dest hop.source step.axis step.step) d else with_instr (I.Move elem.signed dest (hopped hop).source) (with_hop step hop d))
    by true = and_instr _ d d 0 (as_it_was d)
    by false = and_instr _ d _ 1 (hop_more step hop d)
stepwise_more elem dest (step ∷ (next ∷ steps)) hop d =
    let longer : 1 + moves_length dest.len elem (suc (length steps)) ≡ moves_length dest.len elem (suc (suc (length steps))) =
    ap (λ (n : ℕ). 1 + n) (some_moves dest.len elem (length steps)) ∙ one_more_move (not (nat_lt elem.bits dest.len)) (length steps) ∙ sym (some_moves dest.len elem (suc (length steps))) in
    subst (λ (e : Draft). Extended d (moves_length dest.len elem (suc (suc (length steps)))) e) (sym (stepwise_on elem dest step next steps hop d))
    (resized d _ _ _ longer (extended d (with_hop step hop d) _ 1 _ (hop_more step hop d) (stepwise_more elem dest (next ∷ steps) (hopped hop) (with_hop step hop d))))

steps_grow : (lacks : Type 0) (of : ℕ) (indexes : List TExpr) (elem : Elem) (source dest : Field) (d : Draft) → GrowsOr lacks d (moves_length dest.len elem (news_moves of 0 indexes)) InField (gotten_by_steps of indexes elem source dest d)
unfolding gotten_by_steps
steps_grow lacks of indexes elem source dest d =
    sized lacks InField d _ _ _ (nothing_more _)
    (bind lacks Anything InField d 0 _ _ _ (entry_grows lacks _ _ _ d) (λ one b _.
    sized lacks InField b _ _ _ (nothing_more _)
    (bind lacks Anything InField b 0 _ _ _ (entry_grows lacks _ _ _ b) (λ other c _.
    makes lacks InField (O.Field dest) c _ _ refl (resized c _ _ _ (ap (moves_length dest.len elem) (moves_counted of 0 indexes)) (stepwise_more elem dest (moving_steps of 0 indexes) _ c))))))

-- a read through a left index
read_grows : (lacks : Type 0) (bits : ℕ) (ty : ValueType) (of : ℕ) (indexes : List TExpr) (source : Field) (at into : Out) (d : Draft) → Stands (is_none ty.shape) at → IsAt (is_none ty.shape) bits into →
    GrowsOr lacks d (read_length bits ty) (Stands (is_none ty.shape)) (read_at of indexes ty.elem source at into d)
unfolding read_at read_length is_extended
read_grows lacks bits ty of indexes source at into d h s = by ty.shape at h s
  where
    extended_or_not : (b : Bool) (to dest : Field) → InField into → GrowsOr lacks d (if b then 2 else 1) InField (if b then then_make (an_entry dest.set source.len W.Own d)
        (λ got after. Makes into (with_instr (I.Move ty.elem.signed dest got) (with_instr (I.Get got to source) after)))
        else Makes into (with_instr (I.Get dest to (first_bits dest.len source)) d))
    extended_or_not true to dest g =
        bind lacks Anything InField d 0 2 _ _ (entry_grows lacks _ _ _ d)
        (λ got after _. makes lacks InField into after _ 2 g (and_instr _ after _ 1 (and_instr _ after after 0 (as_it_was after))))
    extended_or_not false to dest g = makes lacks InField into d _ 1 g (and_instr _ d d 0 (as_it_was d))

    by : (shape : Option ℕ) (at : Out) → Stands (is_none shape) at → IsAt (is_none shape) bits into → GrowsOr lacks d (if not (is_none shape) && nat_lt ty.elem.bits bits then 2 else 1) (Stands (is_none shape)) (read_at of indexes ty.elem source at into d)
    by None (O.Scalar r) h s = let g = at_stands true bits into s in in_register_grows lacks InRegister d 1 into _ g (λ dest. makes lacks InRegister into d _ 1 g (and_instr _ d d 0 (as_it_was d)))
    by (Some _) (O.Scalar r) h s = cc
    by None (O.Field f) h s = cc
    by (Some _) (O.Field f) h s =
        in_field_at lacks InField d _ bits into _ s (λ dest e. sized lacks InField d _ _ _ (ap (λ (n : ℕ). if nat_lt ty.elem.bits n then 2 else 1) e) (extended_or_not (nat_lt ty.elem.bits dest.len) f dest (at_stands false bits into s)))
    by shape O.Nothing h s = absurd h

pub read_by_news_grows : (lacks : Type 0) (bits : ℕ) (of : ℕ) (indexes : List TExpr) (elem : Elem) (source : Field) (into : Out) (d : Draft) → IsAt false bits into →
    GrowsOr lacks d (moves_length bits elem (news_moves of 0 indexes)) InField (read_at of indexes elem source O.Nothing into d)
unfolding read_at
read_by_news_grows lacks bits of indexes elem source into d s =
    in_field_at lacks InField d _ bits into _ s (λ dest e. sized lacks InField d _ _ _ (ap (λ (n : ℕ). moves_length n elem (news_moves of 0 indexes)) e) (steps_grow lacks of indexes elem source dest d))

-- folds, onto a register, and unary reductions
sign_more : (kind : Option Elem) (dest : ℕ) (d e : Draft) → Extended d 1 e → Extended d (if is_none kind then 1 else 2) (with_sign kind dest e)
unfolding with_sign
sign_more None dest d e x = x
sign_more (Some kind) dest d e x = and_instr _ d e 1 x

fold_more : (op : Op) (e : TExpr) (dest : ℕ) (source : Field) (d : Draft) → Extended d (fold_length op e) (with_fold op e dest source d)
unfolding with_fold fold_length
fold_more op e dest source d = sign_more (fold_kind op e) dest d _ (and_instr _ d d 0 (as_it_was d))

-- behind the fold stand the operator and the conversion
abbrev pub folded_length : Option Op → TExpr → ℕ
folded_length op value = 2 + fold_length (elim op as (λ _. Op) [ None ↦ P.Add | Some given ↦ given ]) value

-- a value that stands in a field is folded onto an old one, in a register
pub folded_onto_grows : (lacks : Type 0) (op : Option Op) (value : TExpr) (elem : Elem) (v old into : Out) (d : Draft) → InField v → InRegister old → InRegister into →
    GrowsOr lacks d (folded_length op value) InRegister (folded_onto op value elem (v ∷ old ∷ []) into d)
unfolding folded_onto part_field part_register from
folded_onto_grows lacks op value elem v old into d sv so s =
    in_field_grows lacks _ d _ v _ sv (λ source. in_register_grows lacks _ d _ old _ so (λ was. in_register_grows lacks _ d _ into _ s (λ dest.
    sized lacks InRegister d _ _ _ (two_behind _) (bind lacks Anything InRegister d 0 _ _ _ (register_grows lacks d) (λ folded after _.
    makes lacks InRegister into after _ _ s (and_instr _ after _ _ (and_instr _ after _ _ (fold_more _ value folded source after))))))))
  where
    two_behind : (n : ℕ) → 0 + ((n + 1) + 1) ≡ 2 + n
    two_behind n = omega arith

negated_more : (op : ReduceOp) (dest n : ℕ) (d e : Draft) → Extended d n e → Extended d (n + negative_length op) (negated_by op dest e)
unfolding negated_by negative_length
negated_more Rd.Sub dest n d e x = and_instr _ d e n x
negated_more _ dest n d e x = resized d e _ _ (and_nothing n) x
  where
    and_nothing : (n : ℕ) → n ≡ n + 0
    and_nothing n = omega arith

pub reduced_grows : (lacks : Type 0) (op : ReduceOp) (operand : TExpr) (v into : Out) (d : Draft) → InField v → InRegister into →
    GrowsOr lacks d (reduce_length op operand) InRegister (reduced op operand (v ∷ []) into d)
unfolding reduced reduce_length part_field from
reduced_grows lacks op operand v into d sv s =
    in_field_grows lacks _ d _ v _ sv (λ source. in_register_grows lacks _ d _ into _ s (λ dest.
    makes lacks InRegister into d _ _ s (negated_more op dest _ d _ (fold_more _ operand dest source d))))

-- what a left index reads, or is assigned to, is located there
abbrev pub IsAddress : TExpr → Out → Type 0
IsAddress (T.LeftIndex' ty place p indexes x of) at = Stands (is_none ty.shape) at
IsAddress _ at = ⊥

-- stores to one element, and sends
indexed_field_grows : (lacks : Type 0) (t : Typed) (i : Instance) (l : Layout) (n : ℕ) (e : TExpr) (at : Out) (d : Draft) → IsReadyOr lacks t i l n d → NamesVariables t i n e → IsAddress (bare e) at → GrowsOr lacks d 0 Anything (indexed_field t l e d)
unfolding indexed_field indexed bare from NamesVariables
indexed_field_grows lacks t i l n (T.LeftIndex' ty place p indexes x of) at d r h a = variable_field_grows lacks t i l n x (parallel ty.elem of) d r h.0 refl
indexed_field_grows lacks t i l n (T.Brackets' ty p inner) at d r h a = indexed_field_grows lacks t i l n inner at d r h a
indexed_field_grows lacks t i l n _ at d r h a = absurd a

-- a store to one element is of a part that stands in a register
pub one_part_stored_grows : (lacks : Type 0) (t : Typed) (i : Instance) (l : Layout) (n : ℕ) (target : TExpr) (at : Out) (processor : ℕ) (v : Out) (d : Draft) → IsReadyOr lacks t i l n d → NamesVariables t i n target → IsAddress (bare target) at → InRegister v →
    GrowsOr lacks d 1 Anything (stored t l target processor (v ∷ []) d)
unfolding stored part_register from
one_part_stored_grows lacks t i l n target at processor v d r h a s =
    bind lacks Anything Anything d 0 1 _ _ (indexed_field_grows lacks t i l n target at d r h a) (λ dest after _. in_register_grows lacks Anything after 1 v _ s (λ value.
    makes lacks Anything O.Nothing after _ 1 tt (and_instr _ after after 0 (as_it_was after))))

combined_grows : (lacks : Type 0) (op : Op) (n : ℕ) (value : Field) (d : Draft) (next : Field → Draft → Made Out) → GrowsOr lacks d n (λ (f : Field). Unit {0}) (sent_value op value d) →
    ((f : Field) (e : Draft) → GrowsOr lacks e 1 (λ (v : Out). Unit {0}) (next f e)) → GrowsOr lacks d (n + 1) (λ (v : Out). Unit {0}) (then_make (sent_value op value d) next)
combined_grows lacks op n value d next g f = bind lacks _ _ d n 1 _ next g (λ x e _. f x e)

negative_grows : (lacks : Type 0) (value : Field) (d : Draft) → GrowsOr lacks d 1 (λ (f : Field). Unit {0}) (sent_value P.Sub value d)
unfolding sent_value
negative_grows lacks value d = bind lacks Anything _ d 0 1 _ _ (entry_grows lacks _ _ _ d) (λ source after _. makes lacks _ source after _ 1 tt (and_instr _ after after 0 (as_it_was after)))

send_to_grows : (lacks : Type 0) (op : AssignOp) (signed : Bool) (kind : Elem) (dest to value : Field) (d : Draft) → GrowsOr lacks d (send_length op) (λ (v : Out). Unit {0}) (sent_to (assign_op_of op) signed kind dest to value d)
unfolding sent_to assign_op_of send_length sent_value
send_to_grows lacks A.Set signed kind dest to value d = makes lacks _ O.Nothing d _ 1 tt (and_instr _ d d 0 (as_it_was d))
send_to_grows lacks A.Sub signed kind dest to value d =
    combined_grows lacks P.Sub 1 value d _ (negative_grows lacks value d) (λ source after. makes lacks _ O.Nothing after _ 1 tt (and_instr _ after after 0 (as_it_was after)))
send_to_grows lacks _ signed kind dest to value d =
    bind lacks (λ (f : Field). Unit {0}) _ d 0 1 (Makes value d) _ (makes lacks _ value d d 0 tt (as_it_was d)) (λ source after _. makes lacks _ O.Nothing after _ 1 tt (and_instr _ after after 0 (as_it_was after)))

pub sent_grows : (lacks : Type 0) (t : Typed) (i : Instance) (l : Layout) (n : ℕ) (target : TExpr) (at : Out) (op : AssignOp) (signed : Bool) (to : Field) (v : Out) (d : Draft) → IsReadyOr lacks t i l n d → NamesVariables t i n target → IsAddress (bare target) at → InField v →
    GrowsOr lacks d (send_length op) Anything (sent t l target (assign_op_of op) signed to (v ∷ []) d)
unfolding sent part_field from
sent_grows lacks t i l n target at op signed to v d r h a s =
    sized lacks _ d _ _ _ (nothing_more (send_length op)) (bind lacks Anything _ d 0 _ _ _ (indexed_field_grows lacks t i l n target at d r h a)
    (λ dest after _. in_field_grows lacks _ after _ v _ s (λ value. send_to_grows lacks op signed _ dest to value after)))

-- scans
pub scanned_grows : (lacks : Type 0) (combiner : Reduction) (source : Field) (line : _) (bit : Option Field) (into : Out) (d : Draft) → InField into → GrowsOr lacks d 1 InField (scanned combiner source line bit into d)
unfolding scanned
scanned_grows lacks combiner source line bit into d s =
    in_field_grows lacks _ d 1 into _ s (λ dest. makes lacks InField into d _ 1 s (and_instr _ d d 0 (as_it_was d)))

pub segment_field_grows : (lacks : Type 0) (t : Typed) (i : Instance) (l : Layout) (n : ℕ) (x : Option Variable) (d : Draft) → IsReadyOr lacks t i l n d → HasBits t i n x → GrowsOr lacks d 0 Anything (segment_field t l x d)
unfolding segment_field
segment_field_grows lacks t i l n None d r h = makes lacks Anything None d d 0 tt (as_it_was d)
segment_field_grows lacks t i l n (Some x) d r h = bind lacks Anything Anything d 0 0 _ _ (variable_field_grows lacks t i l n x h.0 d r h.2 h.1) (λ f after _. makes lacks Anything (Some f) after after 0 tt (as_it_was after))

pub enumerated_grows : (lacks : Type 0) (t : Typed) (i : Instance) (l : Layout) (n : ℕ) (line : _) (bit : Option Variable) (into : Out) (d : Draft) → IsReadyOr lacks t i l n d → HasBits t i n bit → InField into → GrowsOr lacks d 2 InField (enumerated t l line bit into d)
unfolding enumerated
enumerated_grows lacks t i l n line bit into d r h s =
    in_field_grows lacks _ d 2 into _ s (λ dest. bind_behind lacks Anything InField d 0 2 _ _ (entry_grows lacks _ _ _ d)
    (λ ones b _ x. behind lacks InField b _ 1 1 _ (and_instr _ b b 0 (as_it_was b))
    (bind lacks Anything InField _ 0 1 _ _ (segment_field_grows lacks t i l n bit _ (ready_behind lacks t i l n _ d _ (and_instr _ d b 0 x) r) h) (λ bits after _. scanned_grows lacks _ ones line bits into after s))))

pub left_index_read_grows : (lacks : Type 0) (bits : ℕ) (t : Typed) (i : Instance) (l : Layout) (n : ℕ) (b : TExpr) (at into : Out) (d : Draft) → IsReadyOr lacks t i l n d → NamesVariables t i n b → IsAddress b at → IsAt (is_none (type_of b).shape) bits into →
    GrowsOr lacks d (load_length_of t l bits b) (Stands (is_none (type_of b).shape)) (communicated t l b at [] into d)
unfolding communicated load_length_of NamesVariables out-TExpr Carrier.out
left_index_read_grows lacks bits t i l n (T.LeftIndex' ty place p indexes x of) at into d r v h s =
    sized lacks _ d _ _ _ (nothing_more (read_length bits ty)) (bind lacks Anything (Stands (is_none ty.shape)) d 0 _ _ _ (variable_field_grows lacks t i l n x (parallel ty.elem of) d r v.0 refl) (λ source after _. read_grows lacks bits ty of _ source at into after h s))
left_index_read_grows lacks bits t i l n _ at into d r v h s = absurd h
