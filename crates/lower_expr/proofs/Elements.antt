-- One more element of an array is read, written or counted.
use Rattle.std.proofs.Common.{◌≡◌, ℕ, suc, ◌+◌, ◌-◌, ◌<◌, ◌≤◌, Bool, refl, arith}
use Rattle.cstar_tree.specs.declared.typed.Typed.{Typed}
use Rattle.cstar_tree.specs.declared.typed.Variable.{Variable}
use Rattle.paris_code.specs.declared.operands.Field.{Field}
use Rattle.lower_base.specs.declared.emit.Out.{Out}
use Rattle.lower_base.specs.declared.emit.Out.TheVariants as O
use Rattle.lower_base.specs.Drafts.{Draft, IsMade, Makes, then_make}
use Rattle.lower_base.proofs.Made.{first_made}
use Rattle.lower_base.specs.Layouts.{Layout}
use Rattle.lower_base.specs.Constants.{word_length}
use Rattle.lower_expr.specs.Lengths.{elements_length}
use Rattle.lower_expr.specs.Spots.{skips_unless, field_loaded, elements_loaded, field_stored, elements_stored}

-- of the next element too there is such code
pub is_loadable : (t : Typed) (l : Layout) (signed : Bool) (array : Variable) (index : ℕ) (dest : Field) (n i r : ℕ) (d between : Draft) →
    i < n → skips_unless l index i d ≡ Makes r between → IsMade (elements_loaded t l signed array index dest (n - i) i d) →
    IsMade (field_loaded t l signed array i dest between)
unfolding elements_loaded then_make
is_loadable t l signed array index dest n i r d between below skipped made =
    let left : n - i ≡ suc (n - (i + 1)) = omega arith in
    first_made _ _ (rw skipped at (rw left at made))

pub is_storable : (t : Typed) (l : Layout) (array : Variable) (index : ℕ) (v : Out) (n i r : ℕ) (d between : Draft) →
    i < n → skips_unless l index i d ≡ Makes r between → IsMade (elements_stored t l array index v (n - i) i d) →
    IsMade (field_stored t l array i v between)
unfolding elements_stored then_make
is_storable t l array index v n i r d between below skipped made =
    let left : n - i ≡ suc (n - (i + 1)) = omega arith in
    first_made _ _ (rw skipped at (rw left at made))

pub one_loaded : (t : Typed) (l : Layout) (signed : Bool) (array : Variable) (index : ℕ) (dest : Field) (more left element r : ℕ) (d between after : Draft) →
    left ≡ suc more → skips_unless l index element d ≡ Makes r between →
    field_loaded t l signed array element dest between ≡ Makes (O.Field dest) after →
    elements_loaded t l signed array index dest more (element + 1) after ≡ elements_loaded t l signed array index dest left element d
unfolding elements_loaded then_make
one_loaded t l signed array index dest more left element r d between after e skipped got = rw e (rw skipped (rw got refl))

pub one_stored : (t : Typed) (l : Layout) (array : Variable) (index : ℕ) (v : Out) (more left element r : ℕ) (d between after : Draft) →
    left ≡ suc more → skips_unless l index element d ≡ Makes r between →
    field_stored t l array element v between ≡ Makes v after →
    elements_stored t l array index v more (element + 1) after ≡ elements_stored t l array index v left element d
unfolding elements_stored then_make
one_stored t l array index v more left element r d between after e skipped put = rw e (rw skipped (rw put refl))

pub one_counted : (l : Layout) (n i : ℕ) → i < n → elements_length l (n - i) i ≡ (word_length l i + 3) + elements_length l (n - (i + 1)) (i + 1)
unfolding elements_length
one_counted l n i below =
    let left : n - i ≡ suc (n - (i + 1)) = omega arith in
    rw left refl

pub none_counted : (l : Layout) (n i : ℕ) → n ≤ i → elements_length l (n - i) i ≡ 0
unfolding elements_length
none_counted l n i above =
    let left : n - i ≡ 0 = omega arith in
    rw left refl
