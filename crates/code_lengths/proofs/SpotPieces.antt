-- The code that reads and writes a located place is as long as described.
use Rattle.std.proofs.Common.{◌≡◌, ℕ, suc, zero, ◌+◌, ◌≤◌, Bool, true, false, [], ◌∷◌, slice_get, Option, Some, None, IsSome, is_none, refl, sym, ap, ◌∙◌, subst, arith}
use Rattle.cstar_base.specs.declared.operators.Place.{Place}
use Rattle.cstar_tree.specs.declared.typed.Instance.{Instance}
use Rattle.cstar_tree.specs.declared.typed.TExpr.{TExpr}
use Rattle.cstar_tree.specs.declared.typed.TExpr as T
use Rattle.cstar_tree.specs.declared.typed.Typed.{Typed}
use Rattle.cstar_tree.specs.declared.typed.ValueType.{ValueType}
use Rattle.cstar_tree.specs.declared.typed.Variable.{Variable}
use Rattle.cstar_tree.specs.Scopes.{VariableType}
use Rattle.cstar_tree.specs.Typed.{type_of}
use Rattle.paris_code.specs.declared.operands.Field.{Field}
use Rattle.lower_base.specs.declared.emit.Out.{Out}
use Rattle.lower_base.specs.declared.emit.Out.TheVariants as O
use Rattle.lower_base.specs.Drafts.{Draft}
use Rattle.lower_base.specs.Layouts.{Layout, elements_of, field_of}
use Rattle.lower_comm.specs.Messages.{communicated}
use Rattle.lower_expr.specs.declared.spots.Spot.{Spot}
use Rattle.lower_expr.specs.declared.spots.Spot.TheVariants as S
use Rattle.lower_base.specs.Constants.{word_length}
use Rattle.lower_expr.specs.Lengths.{bare, elements_length, index_check_length, load_length_of, store_length_of, load_length, store_length}
use Rattle.lower_expr.specs.Spots.{variable_spot, skips_unless, field_loaded, elements_loaded, loaded, field_stored, elements_stored, stored, index_checked}
use Rattle.code_lengths.specs.Shaped.{HasNoShape, HasShape, IsTarget}
use Rattle.code_lengths.specs.Growth.{GrowsOr, Stands, Anything}
use Rattle.code_lengths.specs.Naming.{HasVariable, NamesVariables}
use Rattle.code_lengths.specs.Ready.{IsReadyOr}
use Rattle.code_lengths.proofs.Drafting.{IsAt, at_stands, as_it_was, and_step, and_instr, makes, sized, bind, bind_behind, weaker, in_register_grows, in_field_grows, from_grows, register_grows}
use Rattle.code_lengths.proofs.Pieces.{InRegister, InField, word_in_grows, put_in_field_grows, put_value_grows}
use Rattle.code_lengths.proofs.Readiness.{field_of_grows, ready_behind, variable_field_grows}
use Rattle.code_lengths.proofs.Communication.{IsAddress, left_index_read_grows}

-- a located place is one of the kind that the bare target has
abbrev pub Fits : TExpr → Spot → Type 0
Fits (T.Variable ty x) (S.Register r) = HasNoShape ty
Fits (T.Variable ty x) (S.Whole y) = (y ≡ x) × HasShape ty
Fits (T.Element' ty place array p index) (S.Element a r) = (a ≡ array) × HasShape ty
Fits (T.LeftIndex' ty place p indexes x of) (S.Indexed at) = Stands (is_none ty.shape) at
Fits _ _ = ⊥

skips_grow : (lacks : Type 0) (l : Layout) (index number : ℕ) (d : Draft) → GrowsOr lacks d (word_length l number + 2) Anything (skips_unless l index number d)
unfolding skips_unless
skips_grow lacks l index number d =
    bind lacks Anything Anything d _ 2 _ _ (word_in_grows lacks l number d) (λ word between _. bind lacks Anything Anything between 0 2 _ _ (register_grows lacks between)
    (λ test after _. makes lacks Anything test after _ 2 tt (and_instr _ after _ 1 (and_instr _ after after 0 (as_it_was after)))))

-- from a field that is there, and to one
field_loaded_grows : (lacks : Type 0) (t : Typed) (l : Layout) (signed : Bool) (x : Variable) (element : ℕ) (dest : Field) (d : Draft) → GrowsOr lacks d 0 Anything (field_of t l x element d) → GrowsOr lacks d 1 InField (field_loaded t l signed x element dest d)
unfolding field_loaded
field_loaded_grows lacks t l signed x element dest d g =
    bind lacks Anything InField d 0 1 _ _ g (λ source after _. makes lacks InField (O.Field dest) after _ 1 refl (and_instr _ after after 0 (as_it_was after)))

field_stored_grows : (lacks : Type 0) (t : Typed) (l : Layout) (x : Variable) (element : ℕ) (v : Out) (d : Draft) → GrowsOr lacks d 0 Anything (field_of t l x element d) → InField v → GrowsOr lacks d 1 (λ w. w ≡ v) (field_stored t l x element v d)
unfolding field_stored
field_stored_grows lacks t l x element v d g s =
    bind lacks Anything _ d 0 1 _ _ g (λ dest between _.
    bind lacks InField _ between 1 0 _ _ (put_in_field_grows lacks false dest v between s) (λ _ after _. makes lacks _ v after after 0 refl (as_it_was after)))

one_more_element : (w n : ℕ) → (w + 2) + (1 + n) ≡ (w + 3) + n
one_more_element w n = omega arith

-- an array of so many elements that is there, up to its last one
record IsArray (t : Typed) (i : Instance) (l : Layout) (n : ℕ) (array : Variable) (more element : ℕ) : Type 0 where
  ty : VariableType
  there : HasVariable t i n array ty
  shape : HasShape ty.value
  last : element + more ≤ elements_of t l array

element_grows : (lacks : Type 0) (t : Typed) (i : Instance) (l : Layout) (n : ℕ) (array : Variable) (more element : ℕ) (d : Draft) → IsReadyOr lacks t i l n d → IsArray t i l n array (suc more) element → GrowsOr lacks d 0 Anything (field_of t l array element d)
element_grows lacks t i l n array more element d r a = let last = a.last in field_of_grows lacks t i l n array a.ty element d r a.there a.shape (omega (arith, last))

next_element : (t : Typed) (i : Instance) (l : Layout) (n : ℕ) (array : Variable) (more element : ℕ) → IsArray t i l n array (suc more) element → IsArray t i l n array more (element + 1)
next_element t i l n array more element a = record { ty = a.ty; there = a.there; shape = a.shape; last = let last = a.last in omega (arith, last) }

elements_loaded_grow : (lacks : Type 0) (t : Typed) (i : Instance) (l : Layout) (n : ℕ) (signed : Bool) (array : Variable) (index : ℕ) (dest : Field) (more element : ℕ) (d : Draft) → IsReadyOr lacks t i l n d → IsArray t i l n array more element →
    GrowsOr lacks d (elements_length l more element) InField (elements_loaded t l signed array index dest more element d)
unfolding elements_loaded elements_length
elements_loaded_grow lacks t i l n signed array index dest zero element d r a = makes lacks InField (O.Field dest) d d 0 refl (as_it_was d)
elements_loaded_grow lacks t i l n signed array index dest (suc more) element d r a =
    sized lacks InField d _ _ _ (one_more_element (word_length l element) _) (bind_behind lacks Anything InField d _ _ _ _ (skips_grow lacks l index element d) (λ _ between _ x.
    let ready = ready_behind lacks t i l n _ d between x r in
    bind_behind lacks InField InField between 1 _ _ _ (field_loaded_grows lacks t l signed array element dest between (element_grows lacks t i l n array more element between ready a)) (λ _ after _ y.
    elements_loaded_grow lacks t i l n signed array index dest more (element + 1) after (ready_behind lacks t i l n 1 between after y ready) (next_element t i l n array more element a))))

elements_stored_grow : (lacks : Type 0) (t : Typed) (i : Instance) (l : Layout) (n : ℕ) (array : Variable) (index : ℕ) (v : Out) (more element : ℕ) (d : Draft) → IsReadyOr lacks t i l n d → IsArray t i l n array more element → InField v →
    GrowsOr lacks d (elements_length l more element) (λ w. w ≡ v) (elements_stored t l array index v more element d)
unfolding elements_stored elements_length
elements_stored_grow lacks t i l n array index v zero element d r a s = makes lacks _ v d d 0 refl (as_it_was d)
elements_stored_grow lacks t i l n array index v (suc more) element d r a s =
    sized lacks _ d _ _ _ (one_more_element (word_length l element) _) (bind_behind lacks Anything _ d _ _ _ _ (skips_grow lacks l index element d) (λ _ between _ x.
    let ready = ready_behind lacks t i l n _ d between x r in
    bind_behind lacks (λ w. w ≡ v) _ between 1 _ _ _ (field_stored_grows lacks t l array element v between (element_grows lacks t i l n array more element between ready a) s) (λ _ after _ y.
    elements_stored_grow lacks t i l n array index v more (element + 1) after (ready_behind lacks t i l n 1 between after y ready) (next_element t i l n array more element a) s)))

-- the variables that a bare target names are those of the target
bare_names : (t : Typed) (i : Instance) (n : ℕ) (target : TExpr) → NamesVariables t i n target → NamesVariables t i n (bare target)
unfolding bare NamesVariables
bare_names t i n (T.Brackets' ty p inner) h = bare_names t i n inner h
bare_names t i n _ h = h

-- what a spot of a bare target is of is there: a variable, or an array
whole_grows : (lacks : Type 0) (t : Typed) (i : Instance) (l : Layout) (n : ℕ) (b : TExpr) (x : Variable) (d : Draft) → IsReadyOr lacks t i l n d → NamesVariables t i n b → Fits b (S.Whole x) → GrowsOr lacks d 0 Anything (field_of t l x 0 d)
unfolding NamesVariables
whole_grows lacks t i l n (T.Variable ty y) x d r v h = subst (λ z. GrowsOr lacks d 0 Anything (field_of t l z 0 d)) (sym h.0) (variable_field_grows lacks t i l n y ty d r v h.1)
whole_grows lacks t i l n _ x d r v h = absurd h

all_there : (t : Typed) (i : Instance) (l : Layout) (n : ℕ) (b : TExpr) (a : Variable) (r : ℕ) → NamesVariables t i n b → Fits b (S.Element a r) → IsArray t i l n a (elements_of t l a) 0
unfolding NamesVariables
all_there t i l n (T.Element' ty place array p index) a r v h = record {
  ty = record { value = ty; array = Some v.0.0 };
  there = subst (λ x. HasVariable t i n x (record { value = ty; array = Some v.0.0 })) (sym h.0) v.0.1;
  shape = h.1;
  last = omega arith;
}
all_there t i l n _ a r v h = absurd h

-- which spots a target with a shape, or without one, has
no_shape_of : (b : TExpr) (r : ℕ) → Fits b (S.Register r) → HasNoShape (type_of b)
no_shape_of (T.Variable ty x) r h = h
no_shape_of _ r h = absurd h

shape_of_whole : (b : TExpr) (x : Variable) → Fits b (S.Whole x) → HasShape (type_of b)
shape_of_whole (T.Variable ty y) x h = h.1
shape_of_whole _ x h = absurd h

shape_of_element : (b : TExpr) (a : Variable) (r : ℕ) → Fits b (S.Element a r) → HasShape (type_of b)
shape_of_element (T.Element' ty place array p index) a r h = h.1
shape_of_element _ a r h = absurd h

-- a read of the spot of a bare target
one_read : (t : Typed) (l : Layout) (bits : ℕ) (b : TExpr) (r : ℕ) → Fits b (S.Register r) → load_length_of t l bits b ≡ 1
unfolding load_length_of
one_read t l bits (T.Variable ty x) r h = refl
one_read t l bits _ r h = absurd h

one_read_whole : (t : Typed) (l : Layout) (bits : ℕ) (b : TExpr) (x : Variable) → Fits b (S.Whole x) → load_length_of t l bits b ≡ 1
unfolding load_length_of
one_read_whole t l bits (T.Variable ty y) x h = refl
one_read_whole t l bits _ x h = absurd h

all_read : (t : Typed) (l : Layout) (bits : ℕ) (b : TExpr) (a : Variable) (r : ℕ) → Fits b (S.Element a r) → elements_length l (elements_of t l a) 0 ≡ load_length_of t l bits b
unfolding load_length_of
all_read t l bits (T.Element' ty place array p index) a r h = ap (λ (y : Variable). elements_length l (elements_of t l y) 0) h.0
all_read t l bits _ a r h = absurd h

pub is_address : (b : TExpr) (at : Out) → Fits b (S.Indexed at) → IsAddress b at
is_address (T.LeftIndex' ty place p indexes x of) at h = h
is_address _ at h = absurd h

pub loaded_grows : (lacks : Type 0) (k : Bool) (bits : ℕ) (t : Typed) (i : Instance) (l : Layout) (n : ℕ) (target : TExpr) (spot : Spot) (dest : Out) (d : Draft) → IsReadyOr lacks t i l n d → NamesVariables t i n target → is_none (type_of (bare target)).shape ≡ k →
    Fits (bare target) spot → IsAt k bits dest → GrowsOr lacks d (load_length t l bits target) (Stands k) (loaded t l target spot dest d)
unfolding loaded load_length
loaded_grows lacks k bits t i l n target (S.Register r) dest d ready v e h s =
    let g = at_stands k bits dest s in
    sized lacks _ d _ _ _ (sym (one_read t l bits (bare target) r h))
    (in_register_grows lacks _ d 1 dest _ (subst (λ b. Stands b dest) (sym e ∙ no_shape_of (bare target) r h) g) (λ q. makes lacks (Stands k) dest d _ 1 g (and_instr _ d d 0 (as_it_was d))))
loaded_grows lacks k bits t i l n target (S.Whole x) dest d ready v e h s =
    let f : k ≡ false = sym e ∙ shape_of_whole (bare target) x h in
    sized lacks _ d _ _ _ (sym (one_read_whole t l bits (bare target) x h)) (weaker lacks InField (Stands k) d 1 _ (λ w g. subst (λ b. Stands b w) (sym f) g)
    (in_field_grows lacks InField d 1 dest _ (subst (λ b. Stands b dest) f (at_stands k bits dest s)) (λ to. field_loaded_grows lacks t l _ x 0 to d (whole_grows lacks t i l n (bare target) x d ready (bare_names t i n target v) h))))
loaded_grows lacks k bits t i l n target (S.Element a r) dest d ready v e h s =
    let f : k ≡ false = sym e ∙ shape_of_element (bare target) a r h in
    sized lacks _ d _ _ _ (all_read t l bits (bare target) a r h) (weaker lacks InField (Stands k) d _ _ (λ w g. subst (λ b. Stands b w) (sym f) g)
    (in_field_grows lacks InField d _ dest _ (subst (λ b. Stands b dest) f (at_stands k bits dest s)) (λ to. elements_loaded_grow lacks t i l n _ a r to (elements_of t l a) 0 d ready (all_there t i l n (bare target) a r (bare_names t i n target v) h))))
loaded_grows lacks k bits t i l n target (S.Indexed at) dest d ready v e h s =
    sized lacks _ d _ _ _ (and_nothing (load_length_of t l bits (bare target))) (bind lacks (Stands (is_none (type_of (bare target)).shape)) (Stands k) d _ 0 _ _
    (left_index_read_grows lacks bits t i l n (bare target) at dest d ready (bare_names t i n target v) (is_address (bare target) at h) (subst (λ b. IsAt b bits dest) (sym e) s))
    (λ _ after _. makes lacks (Stands k) dest after after 0 (at_stands k bits dest s) (as_it_was after)))
  where
    and_nothing : (n : ℕ) → n + 0 ≡ n
    and_nothing n = omega arith

-- a write to the spot of a bare target
one_write : (t : Typed) (l : Layout) (b : TExpr) (r : ℕ) → Fits b (S.Register r) → store_length_of t l b ≡ 1
unfolding store_length_of
one_write t l (T.Variable ty x) r h = refl
one_write t l _ r h = absurd h

one_write_whole : (t : Typed) (l : Layout) (b : TExpr) (x : Variable) → Fits b (S.Whole x) → store_length_of t l b ≡ 1
unfolding store_length_of
one_write_whole t l (T.Variable ty y) x h = refl
one_write_whole t l _ x h = absurd h

one_write_at : (t : Typed) (l : Layout) (b : TExpr) (at : Out) → Fits b (S.Indexed at) → store_length_of t l b ≡ 1
unfolding store_length_of
one_write_at t l (T.LeftIndex' ty place p indexes x of) at h = refl
one_write_at t l _ at h = absurd h

all_written : (t : Typed) (l : Layout) (b : TExpr) (a : Variable) (r : ℕ) → Fits b (S.Element a r) → elements_length l (elements_of t l a) 0 ≡ store_length_of t l b
unfolding store_length_of
all_written t l (T.Element' ty place array p index) a r h = ap (λ (y : Variable). elements_length l (elements_of t l y) 0) h.0
all_written t l _ a r h = absurd h

-- the value stands where the target's shape asks, and is what is answered
pub stored_grows : (lacks : Type 0) (t : Typed) (i : Instance) (l : Layout) (n : ℕ) (e target : TExpr) (spot : Spot) (v : Out) (d : Draft) → IsReadyOr lacks t i l n d → NamesVariables t i n target → Fits (bare target) spot → Stands (is_none (type_of (bare target)).shape) v →
    ((at : Out) → Fits (bare target) (S.Indexed at) → GrowsOr lacks d 1 Anything (communicated t l e at (v ∷ []) O.Nothing d)) →
    GrowsOr lacks d (store_length t l target) (λ w. w ≡ v) (stored t l e spot v d)
unfolding stored store_length
stored_grows lacks t i l n e target (S.Register r) v d ready names h s g =
    sized lacks _ d _ _ _ (sym (one_write t l (bare target) r h)) (bind lacks InRegister _ d 1 0 _ _
    (put_value_grows lacks true true (O.Scalar r) v d refl (subst (λ b. Stands b v) (no_shape_of (bare target) r h) s) (λ k. k))
    (λ _ after _. makes lacks _ v after after 0 refl (as_it_was after)))
stored_grows lacks t i l n e target (S.Whole x) v d ready names h s g =
    sized lacks _ d _ _ _ (sym (one_write_whole t l (bare target) x h))
    (field_stored_grows lacks t l x 0 v d (whole_grows lacks t i l n (bare target) x d ready (bare_names t i n target names) h) (subst (λ b. Stands b v) (shape_of_whole (bare target) x h) s))
stored_grows lacks t i l n e target (S.Element a r) v d ready names h s g =
    sized lacks _ d _ _ _ (all_written t l (bare target) a r h)
    (elements_stored_grow lacks t i l n a r v (elements_of t l a) 0 d ready (all_there t i l n (bare target) a r (bare_names t i n target names) h) (subst (λ b. Stands b v) (shape_of_element (bare target) a r h) s))
stored_grows lacks t i l n e target (S.Indexed at) v d ready names h s g =
    sized lacks _ d _ _ _ (sym (one_write_at t l (bare target) at h)) (bind lacks Anything _ d 1 0 _ _ (g at h) (λ _ after _. makes lacks _ v after after 0 refl (as_it_was after)))

-- the range check of a right index, in a shape of the program
pub index_checked_grows : (lacks : Type 0) (t : Typed) (l : Layout) (array : Variable) (set : ℕ) (place : Place) (index : ℕ) (d : Draft) → IsSome (slice_get t.shapes.items set) →
    GrowsOr lacks d (index_check_length l (elements_of t l array)) Anything (index_checked t l array set place index d)
unfolding index_checked index_check_length
index_checked_grows lacks t l array set place index d there =
    bind lacks Anything Anything d _ 4 _ _ (word_in_grows lacks l (elements_of t l array) d) (λ limit between _. bind lacks Anything Anything between 0 4 _ _ (register_grows lacks between) (λ test after _.
    from_grows lacks Anything after 4 _ _ there (λ info _. makes lacks Anything test after _ 4 tt (and_step _ after _ 3 (and_instr _ after _ 2 (and_instr _ after _ 1 (and_instr _ after after 0 (as_it_was after))))))))

-- a variable's spot
spot_by : (shape : Option ℕ) (elem : _) (l : Layout) (x : Variable) → Fits (T.Variable (record { elem = elem; shape = shape }) x) (variable_spot l (record { elem = elem; shape = shape }) x)
unfolding variable_spot
spot_by None elem l x = refl
spot_by (Some s) elem l x = (refl, refl)

pub variable_fits : (l : Layout) (ty : ValueType) (x : Variable) → Fits (T.Variable ty x) (variable_spot l ty x)
variable_fits l ty x = spot_by ty.shape ty.elem l x

-- the type of a target is that of the bare one
pub bare_type : (target : TExpr) → IsTarget target → type_of (bare target) ≡ type_of target
unfolding bare IsTarget
bare_type (T.Variable ty x) h = refl
bare_type (T.Element' ty place array p index) h = refl
bare_type (T.LeftIndex' ty place p indexes x of) h = refl
bare_type (T.Brackets' ty p inner) h = bare_type inner h.1 ∙ sym h.0
bare_type _ h = absurd h
