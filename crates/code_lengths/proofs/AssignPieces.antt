-- Assignments and steps have code, over that of their parts, and it is as long as described.
use denote.Hole.Carrier
use Rattle.std.proofs.Common.{◌≡◌, ℕ, ◌+◌, Bool, true, false, [], ◌∷◌, Option, Some, None, IfSome, IsSome, is_none, is_some, slice_get, unwrap_or, ◌⊎◌, inl, inr, refl, sym, ap, ◌∙◌, subst, arith, if◌then◌else◌}
use Rattle.cstar_base.specs.declared.operators.Op.{Op}
use Rattle.cstar_base.specs.declared.operators.Place.{Place}
use Rattle.cstar_tree.specs.declared.syntax.AssignOp.{AssignOp}
use Rattle.cstar_tree.specs.declared.syntax.AssignOp.TheVariants as A
use Rattle.cstar_tree.specs.declared.syntax.StepOp.{StepOp}
use Rattle.cstar_tree.specs.declared.typed.Instance.{Instance}
use Rattle.cstar_tree.specs.declared.typed.StepOrder.{StepOrder}
use Rattle.cstar_tree.specs.declared.typed.StepOrder.TheVariants as Or
use Rattle.cstar_tree.specs.declared.typed.TExpr.{TExpr, out-TExpr}
use Rattle.cstar_tree.specs.declared.typed.TExpr as T
use Rattle.cstar_tree.specs.declared.typed.Typed.{Typed}
use Rattle.cstar_tree.specs.declared.typed.ValueType.{ValueType}
use Rattle.cstar_tree.specs.declared.typed.Variable.{Variable}
use Rattle.cstar_tree.specs.Operations.{folds}
use Rattle.cstar_tree.specs.Typed.{type_of}
use Rattle.paris_code.specs.declared.operands.Field.{Field}
use Rattle.lower_base.specs.declared.emit.Out.{Out}
use Rattle.lower_base.specs.declared.emit.Out.TheVariants as O
use Rattle.lower_base.specs.Drafts.{Draft, Made, in_register}
use Rattle.lower_base.specs.Layouts.{Layout, elements_of}
use Rattle.lower_comm.specs.Messages.{communicated, assigned}
use Rattle.lower_comm.specs.Messages as M
use Rattle.lower_base.specs.Kinds.{fold_length}
use Rattle.lower_base.specs.Operators.{assign_op_of}
use Rattle.lower_expr.specs.Kinds.{operator_bits}
use Rattle.lower_expr.specs.declared.spots.Spot.{Spot}
use Rattle.lower_expr.specs.declared.spots.Spot.TheVariants as S
use Rattle.lower_expr.specs.declared.steps.Right.{Right}
use Rattle.lower_expr.specs.Lengths.{conversion_length, operate_length, spread_length, bare, is_sent, is_send, index_check_length, load_length, store_length, send_length, set_length, compound_length, assign_length, step_once_length, step_length}
use Rattle.lower_expr.specs.Operands.{operand_by, operand_length}
use Rattle.lower_expr.specs.Spots.{loaded, stored}
use Rattle.lower_expr.specs.Steps.{is_kept}
use Rattle.lower_expr.specs.Values.{Code, lowest, spread_by, element_spot, read_to, read_by, set_by, sent_by, field_updated, register_updated, register_folded, updated_by, plainly_set_by, assigned_by, assign_by, stepped_once, stepped_at, stepped_in, step_by}
use Rattle.code_lengths.specs.Growth.{GrowsOr, Stands, Anything}
use Rattle.code_lengths.specs.Naming.{HasItsShape, NamesVariables}
use Rattle.code_lengths.specs.Ready.{IsReadyOr}
use Rattle.code_lengths.specs.Shaped.{HasShape}
use Rattle.code_lengths.proofs.Drafting.{nothing_more, IsAt, at_stands, field_grows, fresh_at, as_it_was, and_instr, register_grows, entry_grows}
use Rattle.code_lengths.proofs.Basis.{Basis, GrowsOn, standing_as, ready, if_ready, plainly, makes, sized, behind, bind, weaker, in_register_grows, in_field_grows, lowest_grows, fresh_as}
use Rattle.code_lengths.proofs.Pieces.{InRegister, InField, word_in_grows, in_place_grows, operated_more}
use Rattle.code_lengths.proofs.Communication.{IsAddress, one_part_stored_grows, sent_grows, folded_length, folded_onto_grows}
use Rattle.code_lengths.proofs.SpotPieces.{Fits, is_address, loaded_grows, stored_grows, index_checked_grows}
use Rattle.code_lengths.proofs.ValuePieces.{IsCode, of_code, spread_by_grows, IsRight, before_length, after_length, right_by_grows, right_operated_grows, right_together}

-- is the bare target scalar
abbrev pub is_single : TExpr → Bool
is_single target = is_none (type_of (bare target)).shape

-- the code that locates a target, what reads a located one, and what writes a value there
abbrev pub IsSpotCode : Basis → ℕ → TExpr → (Draft → Made Spot) → Type 0
IsSpotCode on n b spot = (d : Draft) → GrowsOn on d n (Fits b) (spot d)

abbrev pub Reads : Basis → Typed → Layout → TExpr → Type 0
Reads on t l target =
    (bits : ℕ) (spot : Spot) (dest : Out) (d : Draft) → Fits (bare target) spot → IsAt (is_single target) bits dest → GrowsOn on d (load_length t l bits target) (Stands (is_single target)) (loaded t l target spot dest d)

abbrev pub Writes : Basis → Typed → Layout → TExpr → TExpr → Type 0
Writes on t l e target =
    (spot : Spot) (v : Out) (d : Draft) → Fits (bare target) spot → Stands (is_single target) v → GrowsOn on d (store_length t l target) (λ (w : Out). w ≡ v) (stored t l e spot v d)

pub element_spot_grows : {on : Basis} (t : Typed) (l : Layout) (ty : ValueType) (place : Place) (array : Variable) (p : _) (index : TExpr) (code : Code) (n : ℕ) (d : Draft) → HasShape ty → HasItsShape t ty → IsCode on n true code →
    GrowsOn on d (n + index_check_length l (elements_of t l array)) (Fits (T.Element' ty place array p index)) (element_spot t l ty place array code d)
unfolding element_spot
element_spot_grows t l ty place array p index code n d h k c =
    bind InRegister _ d n _ _ _ (c d) (λ v between s. in_register_grows _ between _ v _ s (λ r. sized _ between _ _ _ (and_nothing _)
    (bind Anything _ between _ 0 _ _ (plainly (index_checked_grows _ t l array _ place r between (shape_there t ty.shape h k))) (λ _ after _. makes _ (S.Element array r) after after 0 (refl, h) (as_it_was after)))))
  where
    and_nothing : (n : ℕ) → n + 0 ≡ n
    and_nothing n = omega arith

    shape_there : (t : Typed) (o : Option ℕ) → is_none o ≡ false → IfSome o (λ (number : ℕ). IsSome (slice_get t.shapes.items number)) → IsSome (slice_get t.shapes.items (unwrap_or o 0))
    shape_there t (Some number) h k = k
    shape_there t None h k = cc

pub read_to_grows : {on : Basis} (k : Bool) (bits : ℕ) (t : Typed) (l : Layout) (e : TExpr) (spot : Draft → Made Spot) (dest : Out) (n : ℕ) (d : Draft) → is_single e ≡ k → Reads on t l e → IsSpotCode on n (bare e) spot → IsAt k bits dest →
    GrowsOn on d (n + load_length t l bits e) (Stands k) (read_to t l e spot dest d)
unfolding read_to
read_to_grows k bits t l e spot dest n d g f c s =
    bind (Fits (bare e)) _ d n _ _ _ (c d) (λ there after h. weaker (Stands (is_single e)) (Stands k) after _ _ (λ v q. standing_as _ k v g q)
    (f bits there dest after h (subst (λ b. IsAt b bits dest) (sym g) s)))

pub read_by_grows : {on : Basis} (t : Typed) (l : Layout) (e : TExpr) (ty : ValueType) (bits : ℕ) (spot : Draft → Made Spot) (n : ℕ) (d : Draft) → is_single e ≡ is_none ty.shape → Reads on t l e → IsSpotCode on n (bare e) spot →
    GrowsOn on d (n + load_length t l bits e) (Stands (is_none ty.shape)) (read_by t l e ty bits spot d)
unfolding read_by
read_by_grows t l e ty bits spot n d g f c =
    sized _ d _ _ _ (nothing_more _) (bind (IsAt (is_none ty.shape) bits) _ d 0 _ _ _ (plainly (fresh_at _ ty.shape bits d)) (λ dest begun s. read_to_grows (is_none ty.shape) bits t l e spot dest n begun g f c s))

-- a value that is written stands where it did
store_grows : {on : Basis} (t : Typed) (l : Layout) (e target : TExpr) (spot : Spot) (v : Out) (d : Draft) → Writes on t l e target → Fits (bare target) spot → Stands (is_single target) v →
    GrowsOn on d (store_length t l target) (Stands (is_single target)) (stored t l e spot v d)
store_grows t l e target spot v d g h s = weaker (λ w. w ≡ v) _ d _ _ (λ w q. subst (λ x. Stands (is_single target) x) (sym q) s) (g spot v d h s)

-- an assignment without an operator
set_grows : {on : Basis} (t : Typed) (l : Layout) (e target : TExpr) (k : Bool) (spot : Draft → Made Spot) (code : Code) (n m : ℕ) (d : Draft) → is_single target ≡ k → Writes on t l e target → IsSpotCode on n (bare target) spot → IsCode on m k code →
    GrowsOn on d (n + (m + store_length t l target)) (Stands (is_single target)) (set_by t l e spot code d)
unfolding set_by
set_grows t l e target k spot code n m d f g a c =
    bind (Fits (bare target)) _ d n _ _ _ (a d) (λ there between h. bind (Stands k) _ between m _ _ _ (c between) (λ v after s. store_grows t l e target there v after g h (standing_as k _ v (sym f) s)))

swapped : (a b c : ℕ) → a + (b + c) ≡ (a + c) + b
swapped a b c = omega arith

plainly_set_grows : {on : Basis} (t : Typed) (l : Layout) (e target : TExpr) (bits : ℕ) (value : TExpr) (shape : Option ℕ) (spot : Draft → Made Spot) (code : Code) (n m : ℕ) (d : Draft) →
    is_single target ≡ is_none shape → (is_none shape ≡ true → is_kept value ≡ true) → Writes on t l e target → IsSpotCode on n (bare target) spot → IsCode on m (is_kept value) code →
    GrowsOn on d (set_length (is_none shape) (n + store_length t l target) m value) (Stands (is_single target)) (plainly_set_by t l e bits value shape spot code d)
unfolding plainly_set_by set_length
plainly_set_grows t l e target bits value (Some set) spot code n m d h k g a c =
    sized _ d _ _ _ (swapped n (spread_length m value) (store_length t l target)) (set_grows t l e target false spot (spread_by code value set bits) n (spread_length m value) d h g a (λ b. spread_by_grows code value m set bits b c))
plainly_set_grows t l e target bits value None spot code n m d h k g a c =
    sized _ d _ _ _ (swapped n m (store_length t l target)) (set_grows t l e target true spot code n m d h g a (of_code _ true m code (k refl) c))

-- an assignment with an operator, to a parallel target
field_updated_grows : {on : Basis} (t : Typed) (l : Layout) (e target : TExpr) (op : Op) (signed : Bool) (place : Place) (value : TExpr) (dest spare : Field) (there : Spot) (v : Right) (d : Draft) → dest.len ≡ 32 → is_single target ≡ false → Reads on t l target → Writes on t l e target → Fits (bare target) there → IsRight op value v →
    GrowsOn on d (load_length t l 32 target + (after_length 32 op value + (conversion_length false (type_of target).elem + store_length t l target))) (Stands (is_single target))
    (field_updated t l e op signed place target dest spare there v d)
unfolding field_updated
field_updated_grows t l e target op signed place value dest spare there v d w sh f g h r =
    bind (Stands (is_single target)) _ d _ _ _ _ (f 32 there (O.Field dest) d h (sh, w)) (λ _ begun _.
    bind InField _ begun _ _ _ _ (sized InField begun _ _ _ (ap (λ (k : ℕ). after_length k op value) w) (right_operated_grows op signed place value dest dest v spare begun r)) (λ _ between _.
    bind InField _ between _ _ _ _ (plainly (in_place_grows _ false (O.Field dest) (type_of target).elem between (refl, w))) (λ _ after _.
    store_grows t l e target there (O.Field dest) after g h sh)))

-- to a scalar one, of a scalar value and of a parallel one
register_updated_grows : {on : Basis} (t : Typed) (l : Layout) (e target : TExpr) (op : Op) (signed : Bool) (place : Place) (dest : ℕ) (there : Spot) (v : Out) (d : Draft) → is_single target ≡ true → Reads on t l target → Writes on t l e target → Fits (bare target) there → InRegister v →
    GrowsOn on d (load_length t l 32 target + (operate_length 32 op true + (conversion_length true (type_of target).elem + store_length t l target))) (Stands (is_single target))
    (register_updated t l e op signed place target dest there v d)
unfolding register_updated
register_updated_grows t l e target op signed place dest there v d sh f g h s =
    bind (Stands (is_single target)) _ d _ _ _ _ (f 32 there (O.Scalar dest) d h sh) (λ _ between _. in_register_grows _ between _ v _ s (λ r.
    sized _ between _ _ _ (assoc _ _ _) (bind InRegister _ between (operate_length 32 op true + conversion_length true (type_of target).elem) _ _ _
    (behind InRegister between _ _ _ _ (operated_more 32 op signed place dest dest r between) (plainly (in_place_grows _ true (O.Scalar dest) (type_of target).elem _ refl))) (λ _ after _.
    store_grows t l e target there (O.Scalar dest) after g h sh))))
  where
    assoc : (a b c : ℕ) → (a + b) + c ≡ a + (b + c)
    assoc a b c = omega arith

abbrev Folds : Basis → Typed → Layout → TExpr → ℕ → Type 0
Folds on t l e n = (v : Out) (old dest : ℕ) (d : Draft) → InField v → GrowsOn on d n InRegister (communicated t l e O.Nothing (v ∷ O.Scalar old ∷ []) (O.Scalar dest) d)

assign_folds : {on : Basis} (t : Typed) (l : Layout) (ty : ValueType) (place : Place) (op : AssignOp) (p : _) (target : TExpr) (q : _) (value : TExpr) → Folds on t l (T.Assign' ty place op p target q value) (folded_length (assign_op_of op) value)
unfolding communicated assigned out-TExpr Carrier.out
assign_folds t l ty place op p target q value v old dest d s = plainly (folded_onto_grows _ (assign_op_of op) value (type_of target).elem v (O.Scalar old) (O.Scalar dest) d s refl refl)

register_folded_grows : {on : Basis} (n : ℕ) (t : Typed) (l : Layout) (e target : TExpr) (dest : ℕ) (there : Spot) (v : Out) (d : Draft) → is_single target ≡ true → Reads on t l target → Writes on t l e target → Folds on t l e n → Fits (bare target) there → InField v →
    GrowsOn on d (load_length t l 32 target + (n + store_length t l target)) (Stands (is_single target)) (register_folded t l e target dest there v d)
unfolding register_folded
register_folded_grows n t l e target dest there v d sh r g f h s =
    sized _ d _ _ _ (nothing_more _) (bind Anything _ d 0 _ _ _ (plainly (register_grows _ d)) (λ old begun _. bind (Stands (is_single target)) _ begun _ _ _ _ (r 32 there (O.Scalar old) begun h sh) (λ _ between _.
    bind InRegister _ between n _ _ _ (f v old dest between s) (λ _ after _. store_grows t l e target there (O.Scalar dest) after g h sh))))

scalar_rest : {on : Basis} (b : Bool) (n : ℕ) (t : Typed) (l : Layout) (e target : TExpr) (op : Op) (signed : Bool) (place : Place) (dest : ℕ) (there : Spot) (v : Out) (d : Draft) → is_single target ≡ true → Reads on t l target → Writes on t l e target → Folds on t l e n → Fits (bare target) there → Stands b v →
    GrowsOn on d (if b then load_length t l 32 target + (operate_length 32 op true + (conversion_length true (type_of target).elem + store_length t l target)) else load_length t l 32 target + (n + store_length t l target)) (Stands (is_single target))
    (if b then register_updated t l e op signed place target dest there v d else register_folded t l e target dest there v d)
scalar_rest true n t l e target op signed place dest there v d sh r g f h s = register_updated_grows t l e target op signed place dest there v d sh r g h s
scalar_rest false n t l e target op signed place dest there v d sh r g f h s = register_folded_grows n t l e target dest there v d sh r g f h s

compound_sum : (b : Bool) (n m load store operate conversion fold : ℕ) →
    n + (m + (if b then load + (operate + (conversion + store)) else load + (fold + store))) ≡ (if b then (((n + store) + load) + (m + operate)) + conversion else (((n + store) + load) + m) + fold)
compound_sum true n m load store operate conversion fold = omega arith
compound_sum false n m load store operate conversion fold = omega arith

updated_grows : {on : Basis} (t : Typed) (l : Layout) (e target value : TExpr) (op : Op) (place : Place) (shape : Option ℕ) (spot : Draft → Made Spot) (code : Code) (n m : ℕ) (d : Draft) → is_single target ≡ is_none shape → Reads on t l target → Writes on t l e target → Folds on t l e (2 + fold_length op value) → IsSpotCode on n (bare target) spot → IsCode on m (is_kept value) (operand_by t l (operator_bits op shape value) code true value) →
    GrowsOn on d (compound_length (is_none shape) (type_of target).elem ((n + store_length t l target) + load_length t l 32 target) op m value) (Stands (is_single target)) (updated_by t l e op place target value shape spot code d)
unfolding updated_by compound_length operator_bits
updated_grows t l e target value op place (Some set) spot code n m d h f g i a c =
    sized _ d _ _ _ (sum n (before_length m op value) (load_length t l 32 target) (after_length 32 op value) (conversion_length false (type_of target).elem) (store_length t l target) ∙ ap (λ x. (((n + store_length t l target) + load_length t l 32 target) + x) + conversion_length false (type_of target).elem) (right_together 32 m op value))
    (bind (λ (f : Field). f.len ≡ 32) _ d 0 _ _ _ (plainly (field_grows _ _ _ d)) (λ dest begun w. bind Anything _ begun 0 _ _ _ (plainly (entry_grows _ _ _ _ begun)) (λ spare next _.
    bind (Fits (bare target)) _ next n _ _ _ (a next) (λ there between fits. bind (IsRight op value) _ between _ _ _ _ (right_by_grows (operand_by t l 32 code true value) m op value between c) (λ v after r.
    field_updated_grows t l e target op _ place value dest spare there v after w h f g fits r)))))
  where
    sum : (n b load a conversion store : ℕ) → 0 + (0 + (n + (b + (load + (a + (conversion + store)))))) ≡ (((n + store) + load) + (b + a)) + conversion
    sum n b load a conversion store = omega arith
updated_grows t l e target value op place None spot code n m d h f g i a c =
    sized _ d _ _ _ (nothing_more _ ∙ compound_sum (is_kept value) n m (load_length t l 32 target) (store_length t l target) (operate_length 32 op true) (conversion_length true (type_of target).elem) (2 + fold_length op value))
    (bind Anything _ d 0 _ _ _ (plainly (register_grows _ d)) (λ dest begun _. bind (Fits (bare target)) _ begun n _ _ _ (a begun) (λ there between fits. bind (Stands (is_kept value)) _ between m _ _ _ (c between) (λ v after s.
    scalar_rest (is_kept value) _ t l e target op _ place dest there v after h f g i fits s))))

-- a send
spot_of_send : (b : TExpr) (spot : Spot) → is_sent b ≡ true → Fits b spot → (f : Field) × (spot ≡ S.Indexed (O.Field f))
unfolding is_sent
spot_of_send (T.LeftIndex' ty place p indexes x of) (S.Indexed (O.Field f)) s h = (f, refl)
spot_of_send (T.LeftIndex' ty place p indexes x of) (S.Indexed (O.Scalar r)) s h = absurd (by ty.shape s h)
  where
    by : (o : Option ℕ) → is_some o ≡ true → is_none o ≡ true → ⊥
    by None e f = cc
    by (Some n) e f = cc
spot_of_send (T.LeftIndex' ty place p indexes x of) (S.Indexed O.Nothing) s h = absurd h
spot_of_send (T.LeftIndex' ty place p indexes x of) (S.Register r) s h = absurd h
spot_of_send (T.LeftIndex' ty place p indexes x of) (S.Whole y) s h = absurd h
spot_of_send (T.LeftIndex' ty place p indexes x of) (S.Element a r) s h = absurd h
spot_of_send _ spot s h = cc

abbrev pub Sends : Basis → Typed → Layout → TExpr → TExpr → ℕ → Type 0
Sends on t l e target n = (f : Field) (v : Out) (d : Draft) → Fits (bare target) (S.Indexed (O.Field f)) → InField v → GrowsOn on d n Anything (communicated t l e (O.Field f) (v ∷ []) O.Nothing d)

sent_stored : {on : Basis} (t : Typed) (l : Layout) (e target : TExpr) (n : ℕ) (spot : Spot) (f : Field) (v : Out) (d : Draft) → spot ≡ S.Indexed (O.Field f) → Fits (bare target) spot → Sends on t l e target n → InField v → GrowsOn on d n Anything (stored t l e spot v d)
unfolding stored
sent_stored {on} t l e target n spot f v d h fits g s = subst (λ x. GrowsOn on d n Anything (stored t l e x v d)) (sym h)
    (sized _ d _ _ _ (and_nothing n) (bind Anything Anything d n 0 _ _ (g f v d (subst (λ x. Fits (bare target) x) h fits) s) (λ _ after _. makes Anything v after after 0 tt (as_it_was after))))
  where
    and_nothing : (n : ℕ) → n + 0 ≡ n
    and_nothing n = omega arith

sent_by_grows : {on : Basis} (Q : Out → Type 0) (t : Typed) (l : Layout) (e target : TExpr) (spot : Draft → Made Spot) (code : Code) (n m i : ℕ) (d : Draft) → is_send target ≡ true → Q O.Nothing → Sends on t l e target i → IsSpotCode on n (bare target) spot → IsCode on m false code →
    GrowsOn on d ((n + m) + i) Q (sent_by t l e spot code d)
unfolding sent_by is_send
sent_by_grows Q t l e target spot code n m i d s q g a c =
    sized _ d _ _ _ (sum n m i) (bind (Fits (bare target)) Q d n _ _ _ (a d) (λ there between h. bind InField Q between m _ _ _ (c between) (λ v after at.
    let f = spot_of_send (bare target) there s h in
    bind Anything Q after i 0 _ _ (sent_stored t l e target i there f.0 v after f.1 h g at) (λ _ last _. makes Q O.Nothing last last 0 q (as_it_was last)))))
  where
    sum : (n m i : ℕ) → n + (m + (i + 0)) ≡ (n + m) + i
    sum n m i = omega arith

-- an assignment: what is not folded onto a scalar target stands in a register
folds_none : (op : AssignOp) → assign_op_of op ≡ None → folds op ≡ false
unfolding assign_op_of
folds_none A.Set e = refl
folds_none _ e = cc

kept_if_set : (k : Bool) (op : AssignOp) → assign_op_of op ≡ None → (k ≡ true) ⊎ (folds op ≡ true) → k ≡ true
kept_if_set k op e (inl h) = h
kept_if_set k op e (inr h) = let g = folds_none op e in cc

assigned_grows : {on : Basis} (o : Option Op) (t : Typed) (l : Layout) (e target : TExpr) (bits : ℕ) (value : TExpr) (place : Place) (shape : Option ℕ) (spot : Draft → Made Spot) (code : Code) (n m : ℕ) (i : Op → ℕ) (d : Draft) → is_single target ≡ is_none shape → (o ≡ None → is_none shape ≡ true → is_kept value ≡ true) →
    Reads on t l target → Writes on t l e target → Folds on t l e (folded_length o value) → IsSpotCode on n (bare target) spot → IsCode on m (is_kept value) code →
    ((act : Op) → IsCode on (i act) (is_kept value) (operand_by t l (operator_bits act shape value) code true value)) →
    GrowsOn on d (elim o as (λ _. ℕ) [
      | None ↦ set_length (is_none shape) (n + store_length t l target) m value
      | Some o ↦ compound_length (is_none shape) (type_of target).elem ((n + store_length t l target) + load_length t l 32 target) o (i o) value
    ]) (Stands (is_single target)) (assigned_by t l e bits o place target value shape spot code d)
unfolding assigned_by
assigned_grows None t l e target bits value place shape spot code n m i d h k r g f a c b = plainly_set_grows t l e target bits value shape spot code n m d h (k refl) g a c
assigned_grows (Some o) t l e target bits value place shape spot code n m i d h k r g f a c b = updated_grows t l e target value o place shape spot code n (i o) d h r g f a (b o)

assign_rest : {on : Basis} (b : Bool) (Q : Out → Type 0) (t : Typed) (l : Layout) (e target : TExpr) (bits taken : ℕ) (value : TExpr) (op : AssignOp) (place : Place) (spot : Draft → Made Spot) (code : Code) (n m : ℕ) (o : Op → ℕ) (d : Draft) → is_send target ≡ b → is_single target ≡ is_none (type_of target).shape →
    (is_none (type_of target).shape ≡ true → (is_kept value ≡ true) ⊎ (folds op ≡ true)) → (is_send target ≡ true → Q O.Nothing) → (is_send target ≡ false → (v : Out) → Stands (is_single target) v → Q v) →
    Reads on t l target → (is_send target ≡ false → Writes on t l e target) → Folds on t l e (folded_length (assign_op_of op) value) → Sends on t l e target (send_length op) → IsSpotCode on n (bare target) spot → IsCode on m (is_kept value) code →
    ((act : Op) → IsCode on (o act) (is_kept value) (operand_by t l (operator_bits act (type_of target).shape value) code true value)) → (set : ℕ) →
    GrowsOn on d (if b then (n + spread_length m value) + send_length op else elim (assign_op_of op) as (λ _. ℕ) [
      | None ↦ set_length (is_none (type_of target).shape) (n + store_length t l target) m value
      | Some act ↦ compound_length (is_none (type_of target).shape) (type_of target).elem ((n + store_length t l target) + load_length t l 32 target) act (o act) value
    ]) Q (if b then sent_by t l e spot (spread_by code value set taken) d
    else lowest bits (assigned_by t l e taken (assign_op_of op) place target value (type_of target).shape spot code d))
assign_rest true Q t l e target bits taken value op place spot code n m o d s h k x y r g f i a c b set =
    sent_by_grows Q t l e target spot (spread_by code value set taken) n (spread_length m value) (send_length op) d s (x s) i a (λ y. spread_by_grows code value m set taken y c)
assign_rest false Q t l e target bits taken value op place spot code n m o d s h k x y r g f i a c b set =
    weaker (Stands (is_single target)) Q d _ _ (y s) (lowest_grows _ bits d _ _ (assigned_grows (assign_op_of op) t l e target taken value place (type_of target).shape spot code n m o d h (λ e q. kept_if_set (is_kept value) op e (k q)) r (g s) f a c b))

pub assign_grows : {on : Basis} (Q : Out → Type 0) (t : Typed) (l : Layout) (ty : ValueType) (bits : ℕ) (place : Place) (op : AssignOp) (p : _) (target : TExpr) (q : _) (value : TExpr) (spot : Draft → Made Spot) (code : Code) (n m : ℕ) (d : Draft) → type_of (bare target) ≡ type_of target →
    (is_none (type_of target).shape ≡ true → (is_kept value ≡ true) ⊎ (folds op ≡ true)) → (is_send target ≡ true → Q O.Nothing) → (is_send target ≡ false → (v : Out) → Stands (is_single target) v → Q v) →
    Reads on t l target → (is_send target ≡ false → Writes on t l (T.Assign' ty place op p target q value) target) → Sends on t l (T.Assign' ty place op p target q value) target (send_length op) → IsSpotCode on n (bare target) spot → IsCode on m (is_kept value) code →
    ((act : Op) → IsCode on (operand_length l (operator_bits act (type_of target).shape value) m true value) (is_kept value) (operand_by t l (operator_bits act (type_of target).shape value) code true value)) →
    GrowsOn on d (assign_length t l op target n m value) Q (assign_by t l (T.Assign' ty place op p target q value) bits op place target value spot code d)
unfolding assign_by assign_length
assign_grows Q t l ty bits place op p target q value spot code n m d h k x y r g i a c b =
    assign_rest (is_send target) Q t l (T.Assign' ty place op p target q value) target bits _ value op place spot code n m _ d refl (ap (λ (y : ValueType). is_none y.shape) h) k x y
    r g (assign_folds t l ty place op p target q value) i a c b _

-- a step
once_grows : {on : Basis} (l : Layout) (k : Bool) (op : StepOp) (old dest : Out) (d : Draft) → Stands k old → Stands k dest → GrowsOn on d (step_once_length l k) (Stands k) (stepped_once l op old dest d)
unfolding stepped_once step_once_length
once_grows l true op old (O.Scalar r) d s h =
    in_register_grows _ d _ old _ s (λ q. bind Anything InRegister d _ 1 _ _ (plainly (word_in_grows _ l 1 d)) (λ one after _. makes InRegister (O.Scalar r) after _ 1 refl (and_instr _ after after 0 (as_it_was after))))
once_grows l false op old (O.Field f) d s h = in_field_grows _ d 1 old _ s (λ q. makes InField (O.Field f) d _ 1 refl (and_instr _ d d 0 (as_it_was d)))
once_grows l false op old (O.Scalar r) d s h = cc
once_grows l true op old (O.Field f) d s h = cc
once_grows l k op old O.Nothing d s h = absurd h

stepped_at_grows : {on : Basis} (t : Typed) (l : Layout) (e : TExpr) (op : StepOp) (target : TExpr) (there : Spot) (old new : Out) (d : Draft) → Reads on t l target → Writes on t l e target → Fits (bare target) there → IsAt (is_single target) 32 old → IsAt (is_single target) 32 new →
    GrowsOn on d (load_length t l 32 target + (step_once_length l (is_single target) + (conversion_length (is_single target) (type_of target).elem + store_length t l target))) Anything (stepped_at t l e op target there old new d)
unfolding stepped_at
stepped_at_grows t l e op target there old new d r g fits so sn =
    let k = is_single target in
    bind (Stands k) _ d _ _ _ _ (r 32 there old d fits so) (λ _ begun _. bind (Stands k) _ begun _ _ _ _ (once_grows l k op old new begun (at_stands k 32 old so) (at_stands k 32 new sn)) (λ _ between _.
    bind (Stands k) _ between _ _ _ _ (plainly (in_place_grows _ k new (type_of target).elem between sn)) (λ _ after _.
    weaker (Stands k) Anything after _ _ (λ w _. tt) (store_grows t l e target there new after g fits (at_stands k 32 new sn)))))

stepped_in_grows : {on : Basis} (t : Typed) (l : Layout) (e : TExpr) (op : StepOp) (order : StepOrder) (target : TExpr) (there : Spot) (first second : Out) (d : Draft) → Reads on t l target → Writes on t l e target → Fits (bare target) there → IsAt (is_single target) 32 first → IsAt (is_single target) 32 second →
    GrowsOn on d ((load_length t l 32 target + (step_once_length l (is_single target) + (conversion_length (is_single target) (type_of target).elem + store_length t l target))) + 0) (Stands (is_single target)) (stepped_in t l e op order target there first second d)
unfolding stepped_in
stepped_in_grows t l e op Or.Prefix target there first second d r g fits sf ss =
    bind Anything _ d _ 0 _ _ (stepped_at_grows t l e op target there second first d r g fits ss sf) (λ _ after _. makes (Stands (is_single target)) first after after 0 (at_stands (is_single target) 32 first sf) (as_it_was after))
stepped_in_grows t l e op Or.Postfix target there first second d r g fits sf ss =
    bind Anything _ d _ 0 _ _ (stepped_at_grows t l e op target there first second d r g fits sf ss) (λ _ after _. makes (Stands (is_single target)) first after after 0 (at_stands (is_single target) 32 first sf) (as_it_was after))

pub step_grows : {on : Basis} (t : Typed) (l : Layout) (ty : ValueType) (op : StepOp) (order : StepOrder) (p : _) (target : TExpr) (bits : ℕ) (spot : Draft → Made Spot) (n : ℕ) (d : Draft) → is_single target ≡ is_none (type_of target).shape → Reads on t l target → Writes on t l (T.Step' ty op order p target) target → IsSpotCode on n (bare target) spot →
    GrowsOn on d (step_length t l target n) (Stands (is_single target)) (step_by t l (T.Step' ty op order p target) bits op order target spot d)
unfolding step_by step_length
step_grows t l ty op order p target bits spot n d h r g a =
    let k = is_single target in
    sized _ d _ _ _ (sum n (load_length t l 32 target) (step_once_length l k) (conversion_length k (type_of target).elem) (store_length t l target) ∙ ap (λ (b : Bool). (n + (step_once_length l b + conversion_length b (type_of target).elem)) + (load_length t l 32 target + store_length t l target)) h)
    (bind (IsAt k 32) (Stands k) d 0 _ _ _ (fresh_as k (type_of target).shape 32 d (sym h)) (λ first begun sf. bind (IsAt k 32) (Stands k) begun 0 _ _ _ (fresh_as k (type_of target).shape 32 begun (sym h)) (λ second next ss.
    bind (Fits (bare target)) (Stands k) next n _ _ _ (a next) (λ there after fits. lowest_grows k bits after _ _
    (stepped_in_grows t l (T.Step' ty op order p target) op order target there first second after r g fits sf ss)))))
  where
    sum : (n load once conversion store : ℕ) → 0 + (0 + (n + ((load + (once + (conversion + store))) + 0))) ≡ (n + (once + conversion)) + (load + store)
    sum n load once conversion store = omega arith

-- located places, read and written in a unit that is ready
pub reads : (lacks : Type 0) (t : Typed) (i : Instance) (l : Layout) (n : ℕ) (target : TExpr) → NamesVariables t i n target → Reads (ready lacks t i l n) t l target
reads lacks t i l n target v bits spot dest d h s = if_ready (λ r. loaded_grows _ (is_single target) bits t i l n target spot dest d r v refl h s)

-- where left indexes lead
address_kind : (b : TExpr) (at : Out) → IsAddress b at → Stands (is_none (type_of b).shape) at
address_kind (T.LeftIndex' ty place p indexes x of) at h = h
address_kind _ at h = absurd h

one_address : (b : TExpr) (at : Out) → is_sent b ≡ false → Fits b (S.Indexed at) → is_none (type_of b).shape ≡ true
unfolding is_sent
one_address (T.LeftIndex' ty place p indexes x of) at s h = by ty.shape s
  where
    by : (o : Option ℕ) → is_some o ≡ false → is_none o ≡ true
    by None e = refl
    by (Some n) e = cc
one_address _ at s h = absurd h

-- an assignment that is no send stores one value there
assigned_there : (lacks : Type 0) (t : Typed) (i : Instance) (l : Layout) (n : ℕ) (target : TExpr) (op : Option Op) (value : TExpr) (at v : Out) (d : Draft) → IsReadyOr lacks t i l n d → NamesVariables t i n target → IsAddress (bare target) at → InRegister at → InRegister v →
    GrowsOr lacks d 1 Anything (assigned t l target op value at (v ∷ []) O.Nothing d)
unfolding assigned
assigned_there lacks t i l n target op value (O.Scalar r) v d ready names a at s = one_part_stored_grows _ t i l n target (O.Scalar r) r v d ready names a s
assigned_there lacks t i l n target op value (O.Field f) v d ready names a at s = cc
assigned_there lacks t i l n target op value O.Nothing v d ready names a at s = absurd at

pub assign_writes : (lacks : Type 0) (t : Typed) (i : Instance) (l : Layout) (n : ℕ) (ty : ValueType) (place : Place) (op : AssignOp) (p : _) (target : TExpr) (q : _) (value : TExpr) → NamesVariables t i n target → is_send target ≡ false →
    Writes (ready lacks t i l n) t l (T.Assign' ty place op p target q value) target
unfolding communicated is_send out-TExpr Carrier.out
assign_writes lacks t i l n ty place op p target q value names single spot v d h s =
    if_ready (λ r. stored_grows _ t i l n (T.Assign' ty place op p target q value) target spot v d r names h s (λ at fits.
    let a = is_address (bare target) at fits in
    let one = one_address (bare target) at single fits in
    assigned_there _ t i l n target (assign_op_of op) value at v d r names a (standing_as _ true at one (address_kind (bare target) at a)) (standing_as _ true v one s)))

stepped_there : (lacks : Type 0) (t : Typed) (i : Instance) (l : Layout) (n : ℕ) (target : TExpr) (at v : Out) (d : Draft) → IsReadyOr lacks t i l n d → NamesVariables t i n target → IsAddress (bare target) at → InRegister at → InRegister v →
    GrowsOr lacks d 1 Anything (in_register at (λ processor. M.stored t l target processor (v ∷ []) d))
unfolding in_register
stepped_there lacks t i l n target (O.Scalar r) v d ready names a at s = one_part_stored_grows _ t i l n target (O.Scalar r) r v d ready names a s
stepped_there lacks t i l n target (O.Field f) v d ready names a at s = cc
stepped_there lacks t i l n target O.Nothing v d ready names a at s = absurd at

pub step_writes : (lacks : Type 0) (t : Typed) (i : Instance) (l : Layout) (n : ℕ) (ty : ValueType) (op : StepOp) (order : StepOrder) (p : _) (target : TExpr) → NamesVariables t i n target → is_send target ≡ false →
    Writes (ready lacks t i l n) t l (T.Step' ty op order p target) target
unfolding communicated is_send out-TExpr Carrier.out
step_writes lacks t i l n ty op order p target names single spot v d h s =
    if_ready (λ r. stored_grows _ t i l n (T.Step' ty op order p target) target spot v d r names h s (λ at fits.
    let a = is_address (bare target) at fits in
    let one = one_address (bare target) at single fits in
    stepped_there _ t i l n target at v d r names a (standing_as _ true at one (address_kind (bare target) at a)) (standing_as _ true v one s)))

pub assign_sends : (lacks : Type 0) (t : Typed) (i : Instance) (l : Layout) (n : ℕ) (ty : ValueType) (place : Place) (op : AssignOp) (p : _) (target : TExpr) (q : _) (value : TExpr) → NamesVariables t i n target → Sends (ready lacks t i l n) t l (T.Assign' ty place op p target q value) target (send_length op)
unfolding communicated assigned out-TExpr Carrier.out
assign_sends lacks t i l n ty place op p target q value names f v d fits s = if_ready (λ r. sent_grows _ t i l n target (O.Field f) op _ f v d r names (is_address (bare target) (O.Field f) fits) s)
