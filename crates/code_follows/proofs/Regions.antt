-- Where the registers of each instance of a scalar program are.
use Rattle.std.proofs.Common.{◌≡◌, ◌∙◌, ℕ, zero, suc, ◌+◌, ◌<◌, ◌≤◌, ◌==◌, Bool, true, false, List, [], ◌∷◌, ◌++◌, length, length-append, append_assoc, slice_get, Option, Some, None, refl, sym, ap, subst, arith, if◌then◌else◌, ◌⊎◌, inl, inr}
use Rattle.std.proofs.lemmas.Option.{slice_get_within, slice_get_past}
use Rattle.std.proofs.lemmas.List.{append-nil}
use Rattle.std.specs.Cmp.Lexicographic.{pointwise, same_text}
use Rattle.std.specs.List.{All}
use Rattle.std.specs.Prelude.{fold, is_none}
use Rattle.cstar_tree.specs.declared.typed.Instance.{Instance}
use Rattle.cstar_tree.specs.declared.typed.Typed.{Typed}
use Rattle.cstar_tree.specs.declared.typed.VarInfo.{VarInfo}
use Rattle.cstar_tree.specs.declared.typed.Variable.{Variable}
use Rattle.cstar_tree.specs.declared.typed.Variable.TheVariants as V
use Rattle.cstar_tree.specs.Variables.{variables_of}
use Rattle.code_lengths.specs.Naming.{variable_named, IsDeclared}
use Rattle.code_lengths.specs.Ready.{HasDeclared, IsMadeOr, IsReadyButForFields, NumbersVariables}
use Rattle.code_lengths.proofs.Declaring.{all_at, found}
use Rattle.code_lengths.proofs.Readiness.{made_from, or_lacks}
use Rattle.lower_base.specs.Drafts.{Draft, Made, an_entry, from}
use Rattle.paris_code.specs.declared.operands.Field.{Field}
use Rattle.lower_base.specs.declared.names.LocalName.{LocalName}
use Rattle.lower_base.specs.Layouts.{Numbering, Registers, behind, earlier_base, elements_of, entered, entries_of, field_of, first_fields, first_named, layout_of, nothing_numbered, numbered, param_entries, register_of, registers_of, result_register, with_instance, with_local}
use Rattle.code_follows.specs.Fragment.{IsScalarVariable}
use Rattle.code_follows.proofs.Numbered.{numbered_at}
use Rattle.code_follows.proofs.Standing.{some_same}

-- an instance whose parameters and result are scalars
abbrev pub IsScalarInstance : Instance → Type 0
IsScalarInstance i = All IsScalarVariable i.params.items × ((info : VarInfo) → i.result ≡ Some info → info.shape ≡ None)

-- a variable of the file, of which the code at the beginning of `main` makes what it makes of a scalar one
abbrev pub BeginsAsScalar : VarInfo → Type 0
BeginsAsScalar info = IsScalarVariable info ⊎ (info.start ≡ 0)

-- A program whose functions have scalar parameters and results, and whose instances have names of their own.
pub record HasScalarInstances (t : Typed) : Type 0 where
  pub each : (k : ℕ) (i : Instance) → slice_get t.instances.items k ≡ Some i → IsScalarInstance i
  pub names : (j k : ℕ) (a b : Instance) → slice_get t.instances.items j ≡ Some a → slice_get t.instances.items k ≡ Some b → a.name ≡ b.name → j ≡ k
  pub variables : All BeginsAsScalar t.vars.items

-- how many registers an instance has: for its parameters, its result and the variables of its blocks
unfoldable pub size_of : Instance → ℕ
size_of i = length i.params.items + 1 + length (variables_of i.body)

-- the first registers of instances that stand one behind the other, and the first behind them all
unfoldable pub bases_from : ℕ → List Instance → List ℕ
bases_from r [] = []
bases_from r (i ∷ rest) = r ∷ bases_from (r + size_of i) rest

unfoldable pub end_from : ℕ → List Instance → ℕ
end_from r [] = r
end_from r (i ∷ rest) = end_from (r + size_of i) rest

-- ---- how many variables are numbered, and that scalar ones have no homes

numbered_length : (infos : List VarInfo) (n : Numbering) → length (numbered infos n).locals ≡ length n.locals + length infos
unfolding numbered with_local
numbered_length [] n = omega arith
numbered_length (info ∷ infos) n =
    let rest = numbered_length infos (with_local n info) in
    let one = length-append n.locals (record { home = n.homes; entries = entries_of info } ∷ []) in
    sums (length infos) rest one
  where
    sums : (k : ℕ) → length (numbered infos (with_local n info)).locals ≡ length (n.locals ++ record { home = n.homes; entries = entries_of info } ∷ []) + k → length (n.locals ++ record { home = n.homes; entries = entries_of info } ∷ []) ≡ length n.locals + 1
        → length (numbered infos (with_local n info)).locals ≡ length n.locals + suc k
    sums k rest one = omega (arith, rest, one)

fields_length : (next : ℕ) (infos : List VarInfo) → length (first_fields next infos) ≡ length infos
unfolding first_fields
fields_length next [] = refl
fields_length next (info ∷ infos) = ap suc (fields_length (next + entries_of info) infos)

entries_length : (next : ℕ) (infos : List VarInfo) → length (param_entries next infos) ≡ length infos
unfolding param_entries
entries_length next [] = refl
entries_length next (info ∷ infos) = ap suc (entries_length (behind next info) infos)

-- ---- each instance has registers of its own

-- the first with a name is one of them
record Found (j m : ℕ) (wanted : List ℕ) (xs : List Instance) : Type 0 where
  place : ℕ
  one : Instance
  number_is : m ≡ j + place
  there : slice_get xs place ≡ Some one
  named : one.name ≡ wanted

first_found : (j : ℕ) (wanted : List ℕ) (xs : List Instance) (m : ℕ) → first_named j wanted xs ≡ Some m → Found j m wanted xs
unfolding first_named
first_found j wanted [] m found = cc
first_found j wanted (x ∷ xs) m found = by (pointwise ◌==◌ x.name wanted) refl found (λ h. first_found (j + 1) wanted xs m h)
  where
    by : (b : Bool) → b ≡ pointwise ◌==◌ x.name wanted → (if b then Some j else first_named (j + 1) wanted xs) ≡ Some m → (first_named (j + 1) wanted xs ≡ Some m → Found (j + 1) m wanted xs) → Found j m wanted (x ∷ xs)
    by true same found later = let e : j ≡ m = some_same j m found in record { place = 0; one = x; number_is = omega (arith, e); there = refl; named = same_text x.name wanted same }
    by false other found later = let f = later found in record { place = suc f.place; one = f.one; number_is = let n = f.number_is in omega (arith, n); there = f.there; named = f.named }

-- no two of these instances have one name
abbrev HaveNames : List Instance → Type 0
HaveNames all = (j k : ℕ) (a b : Instance) → slice_get all j ≡ Some a → slice_get all k ≡ Some b → a.name ≡ b.name → j ≡ k

none_earlier : (all : List Instance) (r : Registers) (i : Instance) → HaveNames all → slice_get all (length r.bases) ≡ Some i → earlier_base all r i ≡ None
unfolding earlier_base
none_earlier all r i own is = by (first_named 0 i.name all) refl
  where
    by : (o : Option ℕ) → first_named 0 i.name all ≡ o → (elim o as (λ _. Option ℕ) [ None ↦ None | Some k ↦ slice_get r.bases k ]) ≡ None
    by None e = refl
    by (Some m) e =
        let f = first_found 0 i.name all m e in
        let number = f.number_is in
        let same : f.place ≡ length r.bases = own f.place (length r.bases) f.one i f.there is f.named in
        slice_get_past r.bases m (omega (arith, number, same))

with_own : (all : List Instance) (r : Registers) (i : Instance) → earlier_base all r i ≡ None → with_instance all r i ≡ record { bases = r.bases ++ r.end ∷ []; end = r.end + size_of i }
unfolding with_instance size_of
with_own all r i none =
    ap (λ (o : Option ℕ). elim o as (λ _. Registers) [
      | Some base ↦ record r { bases = r.bases ++ base ∷ [] }
      | None ↦ record {
        bases = r.bases ++ r.end ∷ [];
        end = r.end + length (numbered (variables_of i.body) nothing_numbered).locals + length i.params.items + 1;
      }
    ]) none ∙ ap (λ (e : ℕ). record { bases = r.bases ++ r.end ∷ []; end = e }) (count (length (numbered (variables_of i.body) nothing_numbered).locals) (length i.params.items) (length (variables_of i.body)) (numbered_length (variables_of i.body) nothing_numbered))
  where
    count : (n m k : ℕ) → n ≡ 0 + k → r.end + n + m + 1 ≡ r.end + (m + 1 + k)
    count n m k e = omega (arith, e)

all_own : (all rest : List Instance) (r : Registers) → HaveNames all → ((j : ℕ) (i : Instance) → slice_get rest j ≡ Some i → slice_get all (length r.bases + j) ≡ Some i)
    → fold (with_instance all) r rest ≡ record { bases = r.bases ++ bases_from r.end rest; end = end_from r.end rest }
unfolding bases_from end_from
all_own all [] r own there = ap (λ (bases : List ℕ). record { bases = bases; end = r.end }) (sym (append-nil r.bases))
all_own all (i ∷ rest) r own there =
    ap (λ (s : Registers). fold (with_instance all) s rest) (with_own all r i (none_earlier all r i own (ap (λ (n : ℕ). slice_get all n) (nothing (length r.bases)) ∙ there 0 i refl)))
    ∙ all_own all rest (record { bases = r.bases ++ r.end ∷ []; end = r.end + size_of i }) own (λ j k h. ap (λ (n : ℕ). slice_get all n) (next (length (r.bases ++ r.end ∷ [])) (length r.bases) j (length-append r.bases (r.end ∷ []))) ∙ there (suc j) k h)
    ∙ ap (λ (bases : List ℕ). record { bases = bases; end = end_from (r.end + size_of i) rest }) (append_assoc r.bases (r.end ∷ []) (bases_from (r.end + size_of i) rest))
  where
    nothing : (n : ℕ) → n ≡ n + 0
    nothing n = omega arith

    next : (n m j : ℕ) → n ≡ m + 1 → n + j ≡ m + suc j
    next n m j e = omega (arith, e)

-- ---- the stretches of registers that stand one behind the other

as_many : (r : ℕ) (xs : List Instance) → length (bases_from r xs) ≡ length xs
unfolding bases_from
as_many r [] = refl
as_many r (i ∷ xs) = ap suc (as_many (r + size_of i) xs)

end_least : (r : ℕ) (xs : List Instance) → r ≤ end_from r xs
unfolding end_from
end_least r [] = omega arith
end_least r (i ∷ xs) = let h = end_least (r + size_of i) xs in omega (arith, h)

-- the registers of an instance among all
record Stretch (r : ℕ) (xs : List Instance) (k : ℕ) (i : Instance) : Type 0 where
  base : ℕ
  is : slice_get (bases_from r xs) k ≡ Some base
  low : r ≤ base
  high : base + size_of i ≤ end_from r xs

stretch : (r : ℕ) (xs : List Instance) (k : ℕ) (i : Instance) → slice_get xs k ≡ Some i → Stretch r xs k i
unfolding bases_from end_from
stretch r [] k i is = cc
stretch r (x ∷ xs) zero i is =
    let same : x ≡ i = some_same x i is in
    record { base = r; is = refl; low = omega arith; high = subst (λ (y : Instance). r + size_of y ≤ end_from (r + size_of x) xs) same (end_least (r + size_of x) xs) }
stretch r (x ∷ xs) (suc k) i is =
    let rest = stretch (r + size_of x) xs k i is in
    record { base = rest.base; is = rest.is; low = let h = rest.low in omega (arith, h); high = rest.high }

base_least : (r : ℕ) (xs : List Instance) (k base : ℕ) → slice_get (bases_from r xs) k ≡ Some base → r ≤ base
unfolding bases_from
base_least r [] k base is = cc
base_least r (x ∷ xs) zero base is = let e : r ≡ base = some_same r base is in omega (arith, e)
base_least r (x ∷ xs) (suc k) base is = let h = base_least (r + size_of x) xs k base is in omega (arith, h)

-- an earlier instance ends where a later one begins, or before
one_before : (r : ℕ) (xs : List Instance) (j k : ℕ) (a : Instance) (first second : ℕ) → j < k → slice_get xs j ≡ Some a → slice_get (bases_from r xs) j ≡ Some first → slice_get (bases_from r xs) k ≡ Some second → first + size_of a ≤ second
unfolding bases_from
one_before r [] j k a first second less is one other = cc
one_before r (x ∷ xs) j zero a first second less is one other = absurd (omega (arith, less))
one_before r (x ∷ xs) zero (suc k) a first second less is one other =
    let e : r ≡ first = some_same r first one in
    let least : r + size_of x ≤ second = base_least (r + size_of x) xs k second other in
    let own : r + size_of a ≤ second = subst (λ (y : Instance). r + size_of y ≤ second) (some_same x a is) least in
    omega (arith, e, own)
one_before r (x ∷ xs) (suc j) (suc k) a first second less is one other = one_before (r + size_of x) xs j k a first second (omega (arith, less)) is one other

-- one number is below, the same or above
pub in_order : (j k : ℕ) → (j < k) ⊎ ((j ≡ k) ⊎ (k < j))
in_order zero zero = inr (inl refl)
in_order zero (suc k) = inl (omega arith)
in_order (suc j) zero = inr (inr (omega arith))
in_order (suc j) (suc k) = by (in_order j k)
  where
    by : (j < k) ⊎ ((j ≡ k) ⊎ (k < j)) → (suc j < suc k) ⊎ ((suc j ≡ suc k) ⊎ (suc k < suc j))
    by (inl h) = inl (omega (arith, h))
    by (inr (inl h)) = inr (inl (ap suc h))
    by (inr (inr h)) = inr (inr (omega (arith, h)))

-- ---- the layout of an instance

module _ (t : Typed) (p : HasScalarInstances t) (words : List ℕ) where
  registers_are : registers_of t.instances.items (length t.vars.items) ≡ record { bases = bases_from (length t.vars.items) t.instances.items; end = end_from (length t.vars.items) t.instances.items }
  unfolding registers_of
  registers_are = all_own t.instances.items t.instances.items (record { bases = []; end = length t.vars.items }) p.names (λ j i is. ap (λ (n : ℕ). slice_get t.instances.items n) (nothing j) ∙ is)
    where
      nothing : (j : ℕ) → 0 + j ≡ j
      nothing j = omega arith

  bases_are : (number : ℕ) → (layout_of t words number).bases ≡ bases_from (length t.vars.items) t.instances.items
  unfolding layout_of entered
  bases_are number = ap (λ (r : Registers). r.bases) registers_are

  end_is : (number : ℕ) → (layout_of t words number).end ≡ end_from (length t.vars.items) t.instances.items
  unfolding layout_of entered
  end_is number = ap (λ (r : Registers). r.end) registers_are

  -- the layouts of all instances have the same first registers, the same end and the same constants
  pub same_bases : (j k : ℕ) → (layout_of t words j).bases ≡ (layout_of t words k).bases
  unfolding layout_of entered
  same_bases j k = refl

  pub same_end : (j k : ℕ) → (layout_of t words j).end ≡ (layout_of t words k).end
  unfolding layout_of entered
  same_end j k = refl

  pub same_constants : (j k : ℕ) → (layout_of t words j).constants ≡ (layout_of t words k).constants
  unfolding layout_of entered
  same_constants j k = refl

  -- each instance has its registers
  pub as_many_bases : (number : ℕ) → length (layout_of t words number).bases ≡ length t.instances.items
  as_many_bases number = ap length (bases_are number) ∙ as_many (length t.vars.items) t.instances.items

  own_base : (number base : ℕ) → slice_get (layout_of t words number).bases number ≡ Some base → (layout_of t words number).base ≡ base
  unfolding layout_of entered
  own_base number base is = ap (λ (o : Option ℕ). elim o as (λ _. ℕ) [ None ↦ 0 | Some base ↦ base ]) is

  base_there : (number : ℕ) (i : Instance) (is : slice_get t.instances.items number ≡ Some i) → slice_get (layout_of t words number).bases number ≡ Some (stretch (length t.vars.items) t.instances.items number i is).base
  base_there number i is = ap (λ (bases : List ℕ). slice_get bases number) (bases_are number) ∙ (stretch (length t.vars.items) t.instances.items number i is).is

  base_is : (number : ℕ) (i : Instance) (is : slice_get t.instances.items number ≡ Some i) → (layout_of t words number).base ≡ (stretch (length t.vars.items) t.instances.items number i is).base
  base_is number i is = own_base number (stretch (length t.vars.items) t.instances.items number i is).base (base_there number i is)

  -- an instance has the first register that all layouts say it has
  pub base_at : (other number : ℕ) (i : Instance) → slice_get t.instances.items number ≡ Some i → slice_get (layout_of t words other).bases number ≡ Some (layout_of t words number).base
  base_at other number i is =
      ap (λ (bases : List ℕ). slice_get bases number) (same_bases other number) ∙ base_there number i is ∙ ap (λ (n : ℕ). Some n) (sym (base_is number i is))

  -- its registers stand behind those of the file's variables, and before the end
  pub base_behind : (number : ℕ) (i : Instance) → slice_get t.instances.items number ≡ Some i → length t.vars.items ≤ (layout_of t words number).base
  base_behind number i is = let e = base_is number i is in let low = (stretch (length t.vars.items) t.instances.items number i is).low in omega (arith, e, low)

  pub base_inside : (number : ℕ) (i : Instance) → slice_get t.instances.items number ≡ Some i → (layout_of t words number).base + size_of i ≤ (layout_of t words number).end
  base_inside number i is =
      let e = base_is number i is in
      let high = (stretch (length t.vars.items) t.instances.items number i is).high in
      let end = end_is number in
      omega (arith, e, high, end)

  -- those of a later instance stand behind those of an earlier one
  pub base_before : (j k : ℕ) (a b : Instance) → slice_get t.instances.items j ≡ Some a → slice_get t.instances.items k ≡ Some b → j < k → (layout_of t words j).base + size_of a ≤ (layout_of t words k).base
  base_before j k a b one other less =
      let first = base_is j a one in
      let second = base_is k b other in
      let x : Stretch (length t.vars.items) t.instances.items j a = stretch (length t.vars.items) t.instances.items j a one in
      let y : Stretch (length t.vars.items) t.instances.items k b = stretch (length t.vars.items) t.instances.items k b other in
      let h = one_before (length t.vars.items) t.instances.items j k a x.base y.base less one x.is y.is in
      omega (arith, first, second, h)

  -- a register of an instance: of a parameter, of the result or of a variable of a block
  pub record IsOwn (number : ℕ) (i : Instance) (r : ℕ) : Type 0 where
    pub low : (layout_of t words number).base ≤ r
    pub high : r < (layout_of t words number).base + size_of i

  pub own_inside : (number : ℕ) (i : Instance) (r : ℕ) → slice_get t.instances.items number ≡ Some i → IsOwn number i r → r < (layout_of t words number).end
  own_inside number i r is own = let high = own.high in let end = base_inside number i is in omega (arith, high, end)

  pub own_behind : (number : ℕ) (i : Instance) (r : ℕ) → slice_get t.instances.items number ≡ Some i → IsOwn number i r → length t.vars.items ≤ r
  own_behind number i r is own = let low = own.low in let files = base_behind number i is in omega (arith, low, files)

  -- no register is of two instances
  pub own_apart : (j k : ℕ) (a b : Instance) (r : ℕ) → slice_get t.instances.items j ≡ Some a → slice_get t.instances.items k ≡ Some b → IsOwn j a r → IsOwn k b r → j ≡ k
  own_apart j k a b r one other first second = by (in_order j k)
    where
      by : (j < k) ⊎ ((j ≡ k) ⊎ (k < j)) → j ≡ k
      by (inl less) = let b = base_before j k a b one other less in let low = second.low in let high = first.high in absurd (omega (arith, b, low, high))
      by (inr (inl same)) = same
      by (inr (inr more)) = let b = base_before k j b a other one more in let low = first.low in let high = second.high in absurd (omega (arith, b, low, high))

  -- ---- the registers of the variables that an instance knows

  params_are : (number : ℕ) (i : Instance) → slice_get t.instances.items number ≡ Some i → length (layout_of t words number).params ≡ length i.params.items
  unfolding layout_of entered
  params_are number i is =
      ap (λ (o : Option Instance). length (param_entries 0 (elim o as (λ _. List VarInfo) [ None ↦ [] | Some instance ↦ instance.params.items ]))) is ∙ entries_length 0 i.params.items

  pub file_register : (number k : ℕ) → register_of (layout_of t words number) (V.File k) ≡ k
  unfolding register_of
  file_register number k = refl

  pub param_register : (number k : ℕ) → register_of (layout_of t words number) (V.Param k) ≡ (layout_of t words number).base + k
  unfolding register_of
  param_register number k = refl

  pub result_is : (number : ℕ) (i : Instance) → slice_get t.instances.items number ≡ Some i → result_register (layout_of t words number) ≡ (layout_of t words number).base + length i.params.items
  unfolding result_register
  result_is number i is = ap (λ (n : ℕ). (layout_of t words number).base + n) (params_are number i is)

  pub local_register : (number : ℕ) (i : Instance) (k : ℕ) → slice_get t.instances.items number ≡ Some i → register_of (layout_of t words number) (V.Local k) ≡ (layout_of t words number).base + length i.params.items + 1 + k
  unfolding register_of
  local_register number i k is = ap (λ (n : ℕ). n + 1 + k) (result_is number i is)

  pub param_own : (number : ℕ) (i : Instance) (k : ℕ) (info : VarInfo) → slice_get t.instances.items number ≡ Some i → slice_get i.params.items k ≡ Some info → IsOwn number i (register_of (layout_of t words number) (V.Param k))
  unfolding size_of
  param_own number i k info is named =
      let inside = slice_get_within i.params.items k info named in
      let at = param_register number k in
      record { low = omega (arith, at); high = omega (arith, at, inside) }

  pub result_own : (number : ℕ) (i : Instance) → slice_get t.instances.items number ≡ Some i → IsOwn number i (result_register (layout_of t words number))
  unfolding size_of
  result_own number i is = let at = result_is number i is in record { low = omega (arith, at); high = omega (arith, at) }

  pub local_own : (number : ℕ) (i : Instance) (k : ℕ) (info : VarInfo) → slice_get t.instances.items number ≡ Some i → slice_get (variables_of i.body) k ≡ Some info → IsOwn number i (register_of (layout_of t words number) (V.Local k))
  unfolding size_of
  local_own number i k info is named =
      let inside = slice_get_within (variables_of i.body) k info named in
      let at = local_register number i k is in
      record { low = omega (arith, at); high = omega (arith, at, inside) }

  -- each variable has its register
  pub below : (number : ℕ) (i : Instance) → slice_get t.instances.items number ≡ Some i → (x : Variable) (info : VarInfo) → variable_named t i x ≡ Some info → register_of (layout_of t words number) x < (layout_of t words number).end
  unfolding variable_named
  below number i is (V.File k) info named =
      let inside = slice_get_within t.vars.items k info named in
      let at = file_register number k in
      let files = base_behind number i is in
      let end = base_inside number i is in
      omega (arith, inside, at, files, end)
  below number i is (V.Param k) info named = own_inside number i _ is (param_own number i k info is named)
  below number i is (V.Local k) info named = own_inside number i _ is (local_own number i k info is named)

  -- the result has a register of its own
  pub result_below : (number : ℕ) (i : Instance) → slice_get t.instances.items number ≡ Some i → result_register (layout_of t words number) < (layout_of t words number).end
  result_below number i is = own_inside number i _ is (result_own number i is)

  pub result_apart : (number : ℕ) (i : Instance) → slice_get t.instances.items number ≡ Some i → (x : Variable) (info : VarInfo) → variable_named t i x ≡ Some info → register_of (layout_of t words number) x ≡ result_register (layout_of t words number) → ⊥
  unfolding variable_named
  result_apart number i is (V.File k) info named e =
      let inside = slice_get_within t.vars.items k info named in
      let at = file_register number k in
      let low = own_behind number i _ is (result_own number i is) in
      omega (arith, inside, at, low, e)
  result_apart number i is (V.Param k) info named e =
      let inside = slice_get_within i.params.items k info named in
      let at = param_register number k in
      let result = result_is number i is in
      omega (arith, inside, at, result, e)
  result_apart number i is (V.Local k) info named e = let at = local_register number i k is in let result = result_is number i is in omega (arith, at, result, e)

  -- its own variables stand behind those of the file
  params_behind : (number : ℕ) (i : Instance) → slice_get t.instances.items number ≡ Some i → (k : ℕ) → 0 + length t.vars.items ≤ register_of (layout_of t words number) (V.Param k)
  params_behind number i is k = let at = param_register number k in let low = base_behind number i is in omega (arith, at, low)

  behind_files : (number : ℕ) (i : Instance) → slice_get t.instances.items number ≡ Some i → (k : ℕ) → 0 + length t.vars.items ≤ register_of (layout_of t words number) (V.Local k)
  behind_files number i is k = let at = local_register number i k is in let low = base_behind number i is in omega (arith, at, low)

  -- no two variables have one register
  pub apart : (number : ℕ) (i : Instance) → slice_get t.instances.items number ≡ Some i → (x y : Variable) (info other : VarInfo) → variable_named t i x ≡ Some info → variable_named t i y ≡ Some other → register_of (layout_of t words number) x ≡ register_of (layout_of t words number) y → x ≡ y
  unfolding variable_named
  apart number i is (V.File k) (V.File j) info other named also same =
      let first = file_register number k in let second = file_register number j in let equal : k ≡ j = omega (arith, first, second, same) in ap (λ (n : ℕ). V.File n) equal
  apart number i is (V.File k) (V.Param j) info other named also same =
      let inside = slice_get_within t.vars.items k info named in let at = file_register number k in let low = params_behind number i is j in absurd (omega (arith, inside, at, low, same))
  apart number i is (V.File k) (V.Local j) info other named also same =
      let inside = slice_get_within t.vars.items k info named in let at = file_register number k in let low = behind_files number i is j in absurd (omega (arith, inside, at, low, same))
  apart number i is (V.Param k) (V.File j) info other named also same =
      let inside = slice_get_within t.vars.items j other also in let at = file_register number j in let low = params_behind number i is k in absurd (omega (arith, inside, at, low, same))
  apart number i is (V.Local k) (V.File j) info other named also same =
      let inside = slice_get_within t.vars.items j other also in let at = file_register number j in let low = behind_files number i is k in absurd (omega (arith, inside, at, low, same))
  apart number i is (V.Param k) (V.Param j) info other named also same =
      let first = param_register number k in let second = param_register number j in let equal : k ≡ j = omega (arith, first, second, same) in ap (λ (n : ℕ). V.Param n) equal
  apart number i is (V.Local k) (V.Local j) info other named also same =
      let first = local_register number i k is in let second = local_register number i j is in let equal : k ≡ j = omega (arith, first, second, same) in ap (λ (n : ℕ). V.Local n) equal
  apart number i is (V.Param k) (V.Local j) info other named also same =
      let inside = slice_get_within i.params.items k info named in let first = param_register number k in let second = local_register number i j is in absurd (omega (arith, inside, first, second, same))
  apart number i is (V.Local k) (V.Param j) info other named also same =
      let inside = slice_get_within i.params.items j other also in let first = local_register number i k is in let second = param_register number j in absurd (omega (arith, inside, first, second, same))

  -- ---- what the code of an instance relies on

  scalar_only : (info : VarInfo) → IsScalarVariable info → is_none info.shape ≡ false → ⊥
  scalar_only info scalar parallel = let none : is_none info.shape ≡ true = ap is_none scalar in cc

  -- of all variables those of the file alone may be parallel; each unit has entries for their fields
  file_made : (number k element : ℕ) (info : VarInfo) (d : Draft) → slice_get t.vars.items k ≡ Some info → is_none info.shape ≡ false → IsMadeOr ⊥ (field_of t (layout_of t words number) (V.File k) element d)
  unfolding field_of layout_of entered an_entry from IsMadeOr
  file_made number k element info d named parallel =
      let first = found (first_fields 0 t.vars.items) k (let inside = slice_get_within t.vars.items k info named in let long = fields_length 0 t.vars.items in omega (arith, inside, long)) in
      made_from ⊥ (slice_get t.vars.items k) _ info named (made_from ⊥ (slice_get (first_fields 0 t.vars.items) k) _ first.0 first.1 (by info.shape _ parallel (λ set. tt)))
    where
      by : (o : Option ℕ) (next : ℕ → Made Field) → is_none o ≡ false → ((set : ℕ) → IsMadeOr ⊥ (next set)) → IsMadeOr ⊥ (from o next)
      by (Some set) next parallel made = made set
      by None next parallel made = cc

  pub all_numbered : (number : ℕ) (i : Instance) → slice_get t.instances.items number ≡ Some i → NumbersVariables i (layout_of t words number)
  unfolding layout_of entered
  all_numbered number i is = ap (λ (o : Option Instance). (numbered (elim o as (λ _. List VarInfo) [ None ↦ [] | Some instance ↦ variables_of instance.body ]) nothing_numbered).locals) is

  elements_are : (number : ℕ) (i : Instance) → slice_get t.instances.items number ≡ Some i → (x : Variable) (info : VarInfo) → variable_named t i x ≡ Some info → is_none info.shape ≡ false → elements_of t (layout_of t words number) x ≡ entries_of info
  unfolding variable_named elements_of
  elements_are number i is (V.File k) info named parallel = ap (λ (o : Option VarInfo). elim o as (λ _. ℕ) [ None ↦ 0 | Some info ↦ entries_of info ]) named
  elements_are number i is (V.Param k) info named parallel = absurd (scalar_only info (all_at IsScalarVariable i.params.items k info (p.each number i is).0 named) parallel)
  elements_are number i is (V.Local k) info named parallel =
      ap (λ (o : Option LocalName). elim o as (λ _. ℕ) [ None ↦ 0 | Some name ↦ name.entries ])
      (ap (λ (names : List LocalName). slice_get names k) (all_numbered number i is) ∙ ap (λ (j : ℕ). slice_get (numbered (variables_of i.body) nothing_numbered).locals j) (none k) ∙ numbered_at (variables_of i.body) nothing_numbered k info named)
    where
      none : (k : ℕ) → k ≡ 0 + k
      none k = omega arith

  first_fields_made : (number : ℕ) (i : Instance) → slice_get t.instances.items number ≡ Some i → (x : Variable) (info : VarInfo) (element : ℕ) (d : Draft) → variable_named t i x ≡ Some info → IsDeclared 0 x → is_none info.shape ≡ false → IsMadeOr ⊥ (field_of t (layout_of t words number) x element d)
  unfolding variable_named IsDeclared
  first_fields_made number i is (V.File k) info element d named declared parallel = file_made number k element info d named parallel
  first_fields_made number i is (V.Param k) info element d named declared parallel = absurd (scalar_only info (all_at IsScalarVariable i.params.items k info (p.each number i is).0 named) parallel)
  first_fields_made number i is (V.Local k) info element d named declared parallel = absurd (omega (arith, declared))

  pub all_ready : (number : ℕ) (i : Instance) → slice_get t.instances.items number ≡ Some i → (n : ℕ) (d : Draft) → IsReadyButForFields t i (layout_of t words number) n d
  all_ready number i is n d = record {
    elements = λ x info named declared parallel. elements_are number i is x info named parallel;
    fields = λ x info element named declared parallel inside. or_lacks (Unit {0}) _ tt;
    result = λ info given parallel. or_lacks (Unit {0}) _ tt;
    bases = as_many_bases number;
  }

  -- where the code of an instance begins no variable of its blocks is declared
  pub first_declared : (number : ℕ) (i : Instance) → slice_get t.instances.items number ≡ Some i → (d : Draft) → d.homes ≡ [] → HasDeclared t i (layout_of t words number) 0 d
  unfolding numbered
  first_declared number i is d none = record {
    ready = record {
      elements = λ x info named declared parallel. elements_are number i is x info named parallel;
      fields = λ x info element named declared parallel inside. first_fields_made number i is x info element d named declared parallel;
      result = λ info given parallel. absurd (scalar_only info ((p.each number i is).1 info given) parallel);
      bases = as_many_bases number;
    };
    homes = ap length none;
  }
