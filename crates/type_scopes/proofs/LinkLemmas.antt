-- What is found under a name, by the links between names and variables.
use Rattle.std.proofs.Common.{◌≡◌, ◌≢◌, ℕ, zero, suc, ◌+◌, ◌-◌, ◌<◌, ◌≤◌, ◌==◌, Bool, true, false, is_some, take, List, [], ◌∷◌, ◌++◌, drop, inl, inr, length, get_or, map, reverse, Option, Some, None, Result, Ok, Err, OnOk, OnErr, refl, sym, ap, subst, ◌∙◌, arith, length-append, true≢false}
use Rattle.std.proofs.lemmas.Bool.{cases_lt, eq-eqb, eqb-true, lt-leb, le-leb, ne_eqb}
use Rattle.std.proofs.lemmas.List.Quantifiers.{position-Some}
use Rattle.std.proofs.lemmas.Map.Entries.{length-keys_of}
use Rattle.std.proofs.lemmas.Map.Keys.{IsDistinct-head, IsDistinct-tail}
use Rattle.std.proofs.lemmas.Slice.Eq.{bytes_eq-Decides}
use Rattle.std.proofs.lemmas.Cmp.{nat_list_eq_equiv}
use Rattle.std.specs.List.{AllByRecursion, position_or_len}
use Rattle.std.specs.Map.{keys_of, lookup}
use Rattle.std.specs.declared.alloc.Global.{Global}
use Rattle.std.specs.Prelude.{Vec}
use Rattle.std.proofs.lemmas.List.{drop-drop, length-map, reverse-append, reverse-reverse, length-reverse}
use Rattle.std.specs.Prelude.{bytes_eq, slice_get, slice_index_or, if◌then◌else◌}
use Rattle.std.specs.Option.{option_map}
use Rattle.std.proofs.Math.Seq.{get_or-append_seam}
use Rattle.std.proofs.lemmas.List.{get_or_append_left}
use Rattle.std.proofs.lemmas.Option.{slice_get-get_or}
use Rattle.indexmap.specs.IndexMap.{insert_entry, set_value_at}
use Rattle.indexmap.specs.Layout.{length-set_value_at}
use Rattle.indexmap.proofs.MapLemmas.{Missing-position, absent_from_lookup, insert_entry-absent}
use Rattle.cstar_tree.specs.Scopes.{Binding, Meaning, find}
use Rattle.type_scopes.specs.declared.locals.Local.{Local}
use Rattle.type_scopes.specs.Bindings.{around, bound, named, within}
use Rattle.type_scopes.specs.Links.{is_in, newest, slot_named, words_of, AreDistinct, AreLinked, HaveNewest, IsSlotOf, Slots}

-- the newest variable of a slot
pub at_slot : List Local → ℕ → Option Local
at_slot [] s = None
at_slot (local ∷ older) s = if local.slot == s then Some local else at_slot older s

-- each variable's word is the name just where its slot is the name's
abbrev pub IsNamed : List (List ℕ) → List ℕ → ℕ → List Local → Type 0
IsNamed words word s locals = (k : ℕ) (local : Local) → slice_get locals k ≡ Some local → bytes_eq (slice_index_or words local.slot []) word ≡ (local.slot == s)

abbrev pub found_in : List (List ℕ) → Option Local → Option Meaning
found_in words local = option_map (λ l. (bound words l).meaning) local

pub found : (words : List (List ℕ)) (word : List ℕ) (s : ℕ) (locals : List Local) → IsNamed words word s locals → find (map (bound words) locals) word ≡ found_in words (at_slot locals s)
unfolding find at_slot
found words word s [] named = refl
found words word s (local ∷ older) named = step (local.slot == s) refl (found words word s older (λ k l at. named (suc k) l at))
  where
    step : (b : Bool) → (local.slot == s) ≡ b → find (map (bound words) older) word ≡ found_in words (at_slot older s) → find (map (bound words) (local ∷ older)) word ≡ found_in words (at_slot (local ∷ older) s)
    step true e rest = rw (named 0 local refl ∙ e, e) refl
    step false e rest = rw (named 0 local refl ∙ e, e) rest

-- where no variable's word is the name, nothing is found
pub not_found : (words : List (List ℕ)) (word : List ℕ) (locals : List Local) → ((k : ℕ) (local : Local) → slice_get locals k ≡ Some local → bytes_eq (slice_index_or words local.slot []) word ≡ false) → find (map (bound words) locals) word ≡ None
unfolding find
not_found words word [] none = refl
not_found words word (local ∷ older) none = rw (none 0 local refl) (not_found words word older (λ k l at. none (suc k) l at))

-- the newest variable of a slot by how many were declared before it
pub newest_within : (locals : List Local) (s k : ℕ) → newest locals s ≡ Some k → k < length locals
unfolding newest
newest_within [] s k e = cc
newest_within (local ∷ older) s k e = step (local.slot == s) refl (λ before. newest_within older s k before)
  where
    step : (b : Bool) → (local.slot == s) ≡ b → (newest older s ≡ Some k → k < length older) → k < length (local ∷ older)
    step true is rest =
        let last : Some (length older) ≡ Some k = rw is at e in
        let same : length older ≡ k = cc in
        omega (arith, same)
    step false is rest = omega (arith, rest (rw is at e))

-- of a list to which one is added, that one and those before it
last_at : (xs : List Local) (x : Local) → slice_get (xs ++ x ∷ []) (length xs) ≡ Some x
last_at xs x = slice_get-get_or (xs ++ x ∷ []) (length xs) x (rw (length-append xs (x ∷ [])) (omega arith)) ∙ ap Some (get_or-append_seam xs x [] x)

before_last : (xs : List Local) (x : Local) (k : ℕ) → k < length xs → slice_get (xs ++ x ∷ []) k ≡ slice_get xs k
before_last xs x k within =
    slice_get-get_or (xs ++ x ∷ []) k x (rw (length-append xs (x ∷ [])) (omega (arith, within)))
    ∙ (ap Some (get_or_append_left xs (x ∷ []) x k within) ∙ sym (slice_get-get_or xs k x within))

pub at_newest : (locals : List Local) (s k : ℕ) → newest locals s ≡ Some k → slice_get (reverse locals) k ≡ at_slot locals s
unfolding newest at_slot
at_newest [] s k e = cc
at_newest (local ∷ older) s k e = step (local.slot == s) refl (λ before. at_newest older s k before)
  where
    turned : reverse (local ∷ older) ≡ reverse older ++ local ∷ []
    turned = reverse-append (local ∷ []) older

    step : (b : Bool) → (local.slot == s) ≡ b → (newest older s ≡ Some k → slice_get (reverse older) k ≡ at_slot older s) → slice_get (reverse (local ∷ older)) k ≡ at_slot (local ∷ older) s
    step true is rest =
        let last : Some (length older) ≡ Some k = rw is at e in
        let same : length older ≡ k = cc in
        rw (is, turned, sym same, sym (length-reverse older)) (last_at (reverse older) local)
    step false is rest =
        let before : newest older s ≡ Some k = rw is at e in
        rw (is, turned) (before_last (reverse older) local k (rw (length-reverse older) (newest_within older s k before)) ∙ rest before)

pub at_none : (locals : List Local) (s : ℕ) → newest locals s ≡ None → at_slot locals s ≡ None
unfolding newest at_slot
at_none [] s e = refl
at_none (local ∷ older) s e = step (local.slot == s) refl (λ before. at_none older s before)
  where
    step : (b : Bool) → (local.slot == s) ≡ b → (newest older s ≡ None → at_slot older s ≡ None) → at_slot (local ∷ older) s ≡ None
    step true is rest =
        let no : Some (length older) ≡ None = rw is at e in
        cc
    step false is rest = rw is (rest (rw is at e))

differ : (a b : ℕ) → (a == b) ≡ false → a ≢ b
differ a b is same = true≢false (sym (eq-eqb a b same) ∙ is)

-- the slots when one of them is given another newest variable
pub words-set : (slots : Slots) (s : ℕ) (w : Option ℕ) → words_of (set_value_at slots s w) ≡ words_of slots
words-set [] s w = refl
words-set (e ∷ es) zero w = refl
words-set (e ∷ es) (suc s) w = ap (λ ws. e.0.items ∷ ws) (words-set es s w)

set_there : (slots : Slots) (s : ℕ) (w : Option ℕ) → s < length slots → slice_get (map (λ slot. slot.1) (set_value_at slots s w)) s ≡ Some w
set_there [] s w within = absurd (omega (arith, within))
set_there (e ∷ es) zero w within = refl
set_there (e ∷ es) (suc s) w within = set_there es s w (omega (arith, within))

set_elsewhere : (slots : Slots) (s t : ℕ) (w : Option ℕ) → t ≢ s → slice_get (map (λ slot. slot.1) (set_value_at slots s w)) t ≡ slice_get (map (λ slot. slot.1) slots) t
set_elsewhere [] s t w other = refl
set_elsewhere (e ∷ es) zero zero w other = absurd (other refl)
set_elsewhere (e ∷ es) zero (suc t) w other = refl
set_elsewhere (e ∷ es) (suc s) zero w other = refl
set_elsewhere (e ∷ es) (suc s) (suc t) w other = set_elsewhere es s t w (λ same. other (ap suc same))

-- a variable more
pub linked_more : (n : ℕ) (locals : List Local) (local : Local) → AreLinked n (reverse locals) → local.slot < n → local.hidden ≡ newest (reverse locals) local.slot → AreLinked n (reverse (locals ++ local ∷ []))
linked_more n locals local linked within hides = rw (reverse-append locals (local ∷ [])) each
  where
    each : AreLinked n (local ∷ reverse locals)
    each zero l at =
        let same : local ≡ l = cc in
        subst (λ (x : Local). (x.slot < n) × (x.hidden ≡ newest (reverse locals) x.slot)) same (within, hides)
    each (suc k) l at = linked k l at

pub newest_more : (slots : Slots) (locals : List Local) (local : Local) → HaveNewest slots (reverse locals) → local.slot < length slots → HaveNewest (set_value_at slots local.slot (Some (length locals))) (reverse (locals ++ local ∷ []))
unfolding newest
newest_more slots locals local each within s small = rw (reverse-append locals (local ∷ [])) (step (local.slot == s) refl)
  where
    step : (b : Bool) → (local.slot == s) ≡ b → slice_get (map (λ slot. slot.1) (set_value_at slots local.slot (Some (length locals)))) s ≡ Some (newest (local ∷ reverse locals) s)
    step true is =
        let same : local.slot ≡ s = eqb-true local.slot s is in
        rw (is, sym same, length-reverse locals) (set_there slots local.slot (Some (length locals)) within)
    step false is = rw is (set_elsewhere slots local.slot s (Some (length locals)) (λ same. differ local.slot s is (sym same)) ∙ each s (rw (length-set_value_at slots local.slot (Some (length locals))) at small))

-- a variable less
pub linked_less : (n : ℕ) (locals : List Local) (local : Local) → AreLinked n (reverse (locals ++ local ∷ [])) → AreLinked n (reverse locals)
linked_less n locals local linked = λ k l at. turned (suc k) l at
  where
    turned : AreLinked n (local ∷ reverse locals)
    turned = subst (λ xs. AreLinked n xs) (reverse-append locals (local ∷ [])) linked

pub newest_less : (slots : Slots) (locals : List Local) (local : Local) → AreLinked (length slots) (reverse (locals ++ local ∷ [])) → HaveNewest slots (reverse (locals ++ local ∷ [])) → HaveNewest (set_value_at slots local.slot local.hidden) (reverse locals)
unfolding newest
newest_less slots locals local linked each s small = step (local.slot == s) refl
  where
    turned : AreLinked (length slots) (local ∷ reverse locals)
    turned = subst (λ xs. AreLinked (length slots) xs) (reverse-append locals (local ∷ [])) linked

    own : HaveNewest slots (local ∷ reverse locals)
    own = subst (λ xs. HaveNewest slots xs) (reverse-append locals (local ∷ [])) each

    step : (b : Bool) → (local.slot == s) ≡ b → slice_get (map (λ slot. slot.1) (set_value_at slots local.slot local.hidden)) s ≡ Some (newest (reverse locals) s)
    step true is =
        let same : local.slot ≡ s = eqb-true local.slot s is in
        rw (sym same) (set_there slots local.slot local.hidden (turned 0 local refl).0 ∙ ap Some (turned 0 local refl).1)
    step false is =
        let old : slice_get (map (λ slot. slot.1) slots) s ≡ Some (newest (local ∷ reverse locals) s) = own s (rw (length-set_value_at slots local.slot local.hidden) at small) in
        set_elsewhere slots local.slot s local.hidden (λ same. differ local.slot s is (sym same)) ∙ (rw is at old)

-- slots of different names
names_differ : (slots : Slots) (word : List ℕ) → AllByRecursion (λ key. bytes_eq word key.items ≡ false) (keys_of slots) → (t : ℕ) → t < length slots → bytes_eq word (slice_index_or (words_of slots) t []) ≡ false
names_differ [] word all t within = absurd (omega (arith, within))
names_differ (e ∷ es) word all zero within = all.0
names_differ (e ∷ es) word all (suc t) within = names_differ es word all.1 t (omega (arith, within))

same_name : (word : List ℕ) → bytes_eq word word ≡ true
same_name word = (bytes_eq-Decides word word).1 refl

turned_round : (a b : List ℕ) → bytes_eq a b ≡ false → bytes_eq b a ≡ false
turned_round a b differs = sym (nat_list_eq_equiv.symm a b) ∙ differs

abbrev same_names : Vec ℕ Global → Vec ℕ Global → Bool
same_names a b = bytes_eq a.items b.items

other_name : (slots : Slots) → AreDistinct slots → (s t : ℕ) → s < length slots → t < length slots → t ≢ s → bytes_eq (slice_index_or (words_of slots) t []) (slice_index_or (words_of slots) s []) ≡ false
other_name [] distinct s t ws wt other = absurd (omega (arith, ws))
other_name (e ∷ es) distinct zero zero ws wt other = absurd (other refl)
other_name (e ∷ es) distinct zero (suc t) ws wt other = turned_round e.0.items (slice_index_or (words_of es) t []) (names_differ es e.0.items (IsDistinct-head same_names e.0 (keys_of es) distinct) t (omega (arith, wt)))
other_name (e ∷ es) distinct (suc s) zero ws wt other = names_differ es e.0.items (IsDistinct-head same_names e.0 (keys_of es) distinct) s (omega (arith, ws))
other_name (e ∷ es) distinct (suc s) (suc t) ws wt other = other_name es (IsDistinct-tail same_names e.0 (keys_of es) distinct) s t (omega (arith, ws)) (omega (arith, wt)) (λ same. other (ap suc same))

word_at : (slots : Slots) (s : ℕ) (key : Vec ℕ Global) → s < length slots → slice_index_or (words_of slots) s [] ≡ (get_or (keys_of slots) s key).items
word_at [] s key within = absurd (omega (arith, within))
word_at (e ∷ es) zero key within = refl
word_at (e ∷ es) (suc s) key within = word_at es s key (omega (arith, within))

-- the place of a name is its slot
pub is_slot : (slots : Slots) (word : List ℕ) (s : ℕ) → slot_named slots word ≡ Some s → IsSlotOf slots word s
is_slot [] word s is = absurd (omega (arith, (position-Some (λ (key : List ℕ). bytes_eq word key) [] s [] is).0))
is_slot (e ∷ es) word s is = (within, word_at slots s e.0 within ∙ sym ((bytes_eq-Decides word (get_or (keys_of slots) s e.0).items).0 place.1))
  where
    slots : Slots
    slots = e ∷ es

    place : (s < length (keys_of slots)) × (bytes_eq word (get_or (keys_of slots) s e.0).items ≡ true) × ((j : ℕ) → j < s → bytes_eq word (get_or (keys_of slots) j e.0).items ≡ false)
    place = position-Some (λ key. bytes_eq word key.items) (keys_of slots) s e.0 is

    within : s < length slots
    within = rw (sym (length-keys_of slots)) place.0

-- the slot of a name is that of its variables, and of no other
pub named_by : (slots : Slots) (word : List ℕ) (locals : List Local) (s : ℕ) → AreDistinct slots → AreLinked (length slots) locals → IsSlotOf slots word s → IsNamed (words_of slots) word s locals
named_by slots word locals s distinct linked is k local at = step (local.slot == s) refl
  where
    step : (b : Bool) → (local.slot == s) ≡ b → bytes_eq (slice_index_or (words_of slots) local.slot []) word ≡ (local.slot == s)
    step true same = rw (same, sym is.1, eqb-true local.slot s same) (same_name (slice_index_or (words_of slots) s []))
    step false differs = rw (differs, sym is.1) (other_name slots distinct s local.slot is.0 (linked k local at).0 (differ local.slot s differs))

-- a name with no slot is that of no variable
absent_at : (slots : Slots) (word : List ℕ) → lookup (λ key. bytes_eq word key.items) slots ≡ None → (t : ℕ) → t < length slots → bytes_eq (slice_index_or (words_of slots) t []) word ≡ false
absent_at [] word none t within = absurd (omega (arith, within))
absent_at (e ∷ es) word none t within = step (bytes_eq word e.0.items) refl t within (λ rest u small. absent_at es word rest u small)
  where
    step : (b : Bool) → bytes_eq word e.0.items ≡ b → (t : ℕ) → t < length (e ∷ es)
        → (lookup (λ key. bytes_eq word key.items) es ≡ None → (u : ℕ) → u < length es → bytes_eq (slice_index_or (words_of es) u []) word ≡ false)
        → bytes_eq (slice_index_or (words_of (e ∷ es)) t []) word ≡ false
    step true is t within rest =
        let there : Some e.1 ≡ None = rw is at none in
        cc
    step false is zero within rest = turned_round word e.0.items is
    step false is (suc t) within rest = rest (rw is at none) t (omega (arith, within))

pub named_by_none : (slots : Slots) (word : List ℕ) (locals : List Local) → AreLinked (length slots) locals → slot_named slots word ≡ None → find (map (bound (words_of slots)) locals) word ≡ None
named_by_none slots word locals linked is =
    not_found (words_of slots) word locals (λ k local at. absent_at slots word (Missing-position (λ key. bytes_eq word key.items) slots is).value local.slot (linked k local at).0)

-- what is found under a name by its slot
pub found_by_slot : (slots : Slots) (word : List ℕ) (locals : List Local) (s : ℕ) → AreDistinct slots → AreLinked (length slots) locals → IsSlotOf slots word s → find (map (bound (words_of slots)) locals) word ≡ found_in (words_of slots) (at_slot locals s)
found_by_slot slots word locals s distinct linked is = found (words_of slots) word s locals (named_by slots word locals s distinct linked is)

-- what stands at the slot of a name
pub newest_is : (slots : Slots) (locals : List Local) (s : ℕ) (v : Option ℕ) → HaveNewest slots locals → s < length slots → slice_get (map (λ slot. slot.1) slots) s ≡ Some v → newest locals s ≡ v
newest_is slots locals s v each within at =
    let same : Some (newest locals s) ≡ Some v = sym (each s within) ∙ at in
    cc

pub found_none : (slots : Slots) (word : List ℕ) (locals : List Local) (s : ℕ) → AreDistinct slots → AreLinked (length slots) locals → IsSlotOf slots word s → newest locals s ≡ None → find (map (bound (words_of slots)) locals) word ≡ None
found_none slots word locals s distinct linked is none = found_by_slot slots word locals s distinct linked is ∙ ap (found_in (words_of slots)) (at_none locals s none)

pub found_at : (slots : Slots) (word : List ℕ) (declared : List Local) (s k : ℕ) (local : Local) → AreDistinct slots → AreLinked (length slots) (reverse declared) → IsSlotOf slots word s → newest (reverse declared) s ≡ Some k → slice_get declared k ≡ Some local → find (map (bound (words_of slots)) (reverse declared)) word ≡ Some (bound (words_of slots) local).meaning
found_at slots word declared s k local distinct linked is newest_at at =
    let there : at_slot (reverse declared) s ≡ Some local = sym (at_newest (reverse declared) s k newest_at) ∙ (ap (λ xs. slice_get xs k) (reverse-reverse declared) ∙ at) in
    found_by_slot slots word (reverse declared) s distinct linked is ∙ ap (found_in (words_of slots)) there

pub declared_within : (declared : List Local) (s k : ℕ) → newest (reverse declared) s ≡ Some k → k < length declared
declared_within declared s k is = rw (sym (length-reverse declared)) (newest_within (reverse declared) s k is)

-- a slot more, of a new name
pub inserted : (slots new : Slots) (name : Vec ℕ Global) (word : List ℕ) → name.items ≡ word → slot_named slots word ≡ None → new ≡ insert_entry same_names slots name None → new ≡ slots ++ (name, None) ∷ []
inserted slots new name word is none entries =
    entries ∙ insert_entry-absent same_names name None slots (absent_from_lookup (same_names name) slots (subst (λ (n : List ℕ). lookup (λ key. bytes_eq n key.items) slots ≡ None) (sym is) (Missing-position (λ key. bytes_eq word key.items) slots none).value))

pub new_index : (slots : Slots) (name : Vec ℕ Global) (word : List ℕ) → name.items ≡ word → slot_named slots word ≡ None → position_or_len (same_names name) (keys_of slots) ≡ length slots
new_index slots name word is none = subst (λ (n : List ℕ). position_or_len (λ key. bytes_eq n key.items) (keys_of slots) ≡ length slots) (sym is) (Missing-position (λ key. bytes_eq word key.items) slots none).or_len

pub linked_wider : (slots : Slots) (e : Vec ℕ Global × Option ℕ) (locals : List Local) → AreLinked (length slots) locals → AreLinked (length (slots ++ e ∷ [])) locals
linked_wider slots e locals linked k local at = (rw (length-append slots (e ∷ [])) (omega (arith, (linked k local at).0)), (linked k local at).1)

unused : (n : ℕ) (locals : List Local) → ((k : ℕ) (local : Local) → slice_get locals k ≡ Some local → local.slot < n) → newest locals n ≡ None
unfolding newest
unused n [] few = refl
unused n (local ∷ older) few = rw (ne_eqb local.slot n (λ same. absurd (omega (arith, few 0 local refl, same)))) (unused n older (λ k l at. few (suc k) l at))

value_before : (slots : Slots) (e : Vec ℕ Global × Option ℕ) (s : ℕ) → s < length slots → slice_get (map (λ slot. slot.1) (slots ++ e ∷ [])) s ≡ slice_get (map (λ slot. slot.1) slots) s
value_before [] e s within = absurd (omega (arith, within))
value_before (x ∷ xs) e zero within = refl
value_before (x ∷ xs) e (suc s) within = value_before xs e s (omega (arith, within))

value_last : (slots : Slots) (e : Vec ℕ Global × Option ℕ) → slice_get (map (λ slot. slot.1) (slots ++ e ∷ [])) (length slots) ≡ Some e.1
value_last [] e = refl
value_last (x ∷ xs) e = value_last xs e

pub newest_wider : (slots : Slots) (name : Vec ℕ Global) (locals : List Local) → AreLinked (length slots) locals → HaveNewest slots locals → HaveNewest (slots ++ (name, None) ∷ []) locals
newest_wider slots name locals linked each s small = step (s == length slots) refl
  where
    most : s < length slots + 1
    most = rw (length-append slots ((name, None) ∷ [])) at small

    step : (b : Bool) → (s == length slots) ≡ b → slice_get (map (λ slot. slot.1) (slots ++ (name, None) ∷ [])) s ≡ Some (newest locals s)
    step true is = rw (eqb-true s (length slots) is, unused (length slots) locals (λ k l at. (linked k l at).0)) (value_last slots (name, None))
    step false is =
        let within : s < length slots = omega (arith, differ s (length slots) is, most) in
        value_before slots (name, None) s within ∙ each s within

word_before : (slots : Slots) (e : Vec ℕ Global × Option ℕ) (s : ℕ) → s < length slots → slice_index_or (words_of (slots ++ e ∷ [])) s [] ≡ slice_index_or (words_of slots) s []
word_before [] e s within = absurd (omega (arith, within))
word_before (x ∷ xs) e zero within = refl
word_before (x ∷ xs) e (suc s) within = word_before xs e s (omega (arith, within))

word_last : (slots : Slots) (e : Vec ℕ Global × Option ℕ) → slice_index_or (words_of (slots ++ e ∷ [])) (length slots) [] ≡ e.0.items
word_last [] e = refl
word_last (x ∷ xs) e = word_last xs e

pub new_slot : (slots : Slots) (name : Vec ℕ Global) (word : List ℕ) → name.items ≡ word → IsSlotOf (slots ++ (name, None) ∷ []) word (length slots)
new_slot slots name word is = (rw (length-append slots ((name, None) ∷ [])) (omega arith), word_last slots (name, None) ∙ is)

pub same_bindings : (slots : Slots) (e : Vec ℕ Global × Option ℕ) (locals : List Local) → ((k : ℕ) (local : Local) → slice_get locals k ≡ Some local → local.slot < length slots) → map (bound (words_of (slots ++ e ∷ []))) locals ≡ map (bound (words_of slots)) locals
same_bindings slots e [] few = refl
same_bindings slots e (local ∷ older) few = rw (word_before slots e local.slot (few 0 local refl), same_bindings slots e older (λ k l at. few (suc k) l at)) refl

-- the links after a name was put in, or could not be
pub still_linked : {R E : Type 0} (result : Result R E) (slots new : Slots) (name : Vec ℕ Global) (word : List ℕ) (locals : List Local) → name.items ≡ word → slot_named slots word ≡ None → OnOk result (new ≡ insert_entry same_names slots name None) → OnErr result (new ≡ slots) → AreLinked (length slots) locals → HaveNewest slots locals → AreLinked (length new) locals × HaveNewest new locals
still_linked (Ok r) slots new name word locals is none entries err linked each = rw (inserted slots new name word is none entries) (linked_wider slots (name, None) locals linked, newest_wider slots name locals linked each)
still_linked (Err e) slots new name word locals is none entries err linked each = rw err (linked, each)

-- what the names stand for with a variable more
pub declared_more : (slots : Slots) (w : Option ℕ) (declared : List Local) (local : Local) (word : List ℕ) → IsSlotOf slots word local.slot → map (bound (words_of (set_value_at slots local.slot w))) (reverse (declared ++ local ∷ [])) ≡ named word local.variable local.ty ∷ map (bound (words_of slots)) (reverse declared)
declared_more slots w declared local word is = rw (words-set slots local.slot w, reverse-append declared (local ∷ []), is.1) refl

-- the slot of the last variable
pub last_slot : (n : ℕ) (items rest : List Local) (local : Local) → items ≡ rest ++ local ∷ [] → AreLinked n (reverse items) → local.slot < n
last_slot n items rest local is linked = (subst (λ xs. AreLinked n xs) (ap reverse is ∙ reverse-append rest (local ∷ [])) linked 0 local refl).0

-- what the names stand for with a variable less
pub bound_less : (slots : Slots) (s : ℕ) (w : Option ℕ) (items rest : List Local) (local : Local) → items ≡ rest ++ local ∷ [] → map (bound (words_of (set_value_at slots s w))) (reverse rest) ≡ drop 1 (map (bound (words_of slots)) (reverse items))
bound_less slots s w items rest local is = rw (words-set slots s w, is, reverse-append rest (local ∷ [])) refl

-- and where there is none
pub none_less : (words : List (List ℕ)) (items rest : List Local) → items ≡ rest ++ [] → length items ≡ 0 → map (bound words) (reverse rest) ≡ drop 1 (map (bound words) (reverse items))
none_less words items [] is none = rw is refl
none_less words items (local ∷ rest) is none = absurd (omega (arith, none, ap length is))

-- and the next of a scope's to go
pub next_dropped : (old bs new : List Binding) (scope counter : ℕ) → scope ≤ counter → bs ≡ drop (counter - scope) old → new ≡ drop 1 bs → new ≡ drop (counter + 1 - scope) old
next_dropped old bs new scope counter begun before next =
    let less : drop 1 (drop (counter - scope) old) ≡ drop (counter - scope + 1) old = drop-drop 1 (counter - scope) old in
    let count : counter - scope + 1 ≡ counter + 1 - scope = omega (arith, begun) in
    next ∙ (ap (drop 1) before ∙ (less ∙ ap (λ n. drop n old) count))

-- the names of a scope that are no more
pub all_dropped : (words : List (List ℕ)) (items : List Local) (bs : List Binding) (scope counter : ℕ) → scope ≤ counter → length items ≤ counter → (scope ≤ length items → counter ≤ length items) → (length items ≤ scope → counter ≤ scope) → bs ≡ drop (counter - scope) (map (bound words) (reverse items)) → bs ≡ around scope (map (bound words) (reverse items))
all_dropped words items bs scope counter begun ended most least is =
    let long : length (map (bound words) (reverse items)) ≡ length items = length-map (reverse items) (bound words) ∙ length-reverse items in
    let count : counter - scope ≡ length (map (bound words) (reverse items)) - scope = rw long (elim (cases_lt scope (length items)) [
      | inl l ↦ omega (arith, begun, ended, most (omega (arith, l)))
      | inr g ↦ omega (arith, begun, ended, least g)
    ]) in
    is ∙ ap (λ n. drop n (map (bound words) (reverse items))) count

-- a name has a variable in a scope just where the newest of the name is in it
pub in_scope : (words : List (List ℕ)) (word : List ℕ) (s scope : ℕ) (locals : List Local) → IsNamed words word s locals → is_some (find (take (length locals - scope) (map (bound words) locals)) word) ≡ is_in scope (newest locals s)
unfolding find newest
in_scope words word s scope [] is =
    let none : 0 - scope ≡ 0 = omega arith in
    rw none refl
in_scope words word s scope (local ∷ older) is = elim (cases_lt (length older) scope) [
  | inl out ↦
      let none : length (local ∷ older) - scope ≡ 0 = omega (arith, out) in
      rw none (sym (all_older out (newest (local ∷ older) s) refl))
  | inr l ↦
      let more : length (local ∷ older) - scope ≡ suc (length older - scope) = omega (arith, l) in
      rw more (step (local.slot == s) refl (in_scope words word s scope older (λ k l at. is (suc k) l at)) l)
]
  where
    all_older : length older < scope → (k : Option ℕ) → newest (local ∷ older) s ≡ k → is_in scope k ≡ false
    all_older out None at = refl
    all_older out (Some k) at = lt-leb scope k (omega (arith, out, newest_within (local ∷ older) s k at))

    step : (b : Bool) → (local.slot == s) ≡ b → is_some (find (take (length older - scope) (map (bound words) older)) word) ≡ is_in scope (newest older s) → scope ≤ length older
        → is_some (find (bound words local ∷ take (length older - scope) (map (bound words) older)) word) ≡ is_in scope (newest (local ∷ older) s)
    step true e rest l = rw (is 0 local refl ∙ e, e) (sym (le-leb scope (length older) l))
    step false e rest l = rw (is 0 local refl ∙ e, e) rest

pub declared_in : (slots : Slots) (word : List ℕ) (declared : List Local) (s scope : ℕ) (v : Option ℕ) → AreDistinct slots → AreLinked (length slots) (reverse declared) → HaveNewest slots (reverse declared) → IsSlotOf slots word s → slice_get (map (λ slot. slot.1) slots) s ≡ Some v
    → is_some (find (within scope (map (bound (words_of slots)) (reverse declared))) word) ≡ is_in scope v
declared_in slots word declared s scope v distinct linked each is at =
    let long : length (map (bound (words_of slots)) (reverse declared)) ≡ length (reverse declared) = length-map (reverse declared) (bound (words_of slots)) in
    rw long (in_scope (words_of slots) word s scope (reverse declared) (named_by slots word (reverse declared) s distinct linked is)) ∙ ap (is_in scope) (newest_is slots (reverse declared) s v each is.0 at)
