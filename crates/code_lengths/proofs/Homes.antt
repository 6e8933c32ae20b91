-- Units in which the first variables of an instance's blocks are declared: they stay so as they grow, and
-- one that is cleared is declared then.
use Rattle.std.proofs.Common.{◌≡◌, ℕ, suc, zero, ◌+◌, ◌<◌, ◌⊎◌, inl, inr, Bool, true, false, List, [], ◌∷◌, ◌++◌, length, map, take, slice_get, Option, Some, None, is_none, if◌then◌else◌, refl, sym, ap, ◌∙◌, subst, arith, append_assoc, length-append}
use Rattle.std.proofs.Math.Nat.{eq-or-lt_of_le}
use Rattle.cstar_tree.specs.declared.typed.Instance.{Instance}
use Rattle.cstar_tree.specs.declared.typed.LocalVar.{LocalVar}
use Rattle.cstar_tree.specs.declared.typed.Typed.{Typed}
use Rattle.cstar_tree.specs.declared.typed.VarInfo.{VarInfo}
use Rattle.cstar_tree.specs.declared.typed.Variable.{Variable}
use Rattle.cstar_tree.specs.declared.typed.Variable.TheVariants as V
use Rattle.cstar_tree.specs.Variables.{variables_of}
use Rattle.paris_code.specs.declared.instr.Instr.TheVariants as I
use Rattle.paris_code.specs.declared.program.Owner.TheVariants as W
use Rattle.paris_code.specs.declared.program.Virtual.{Virtual}
use Rattle.lower_base.specs.declared.names.LocalName.{LocalName}
use Rattle.lower_base.specs.Drafts.{Draft, Made, Makes, then_make, with_instr, with_step, an_entry}
use Rattle.lower_base.specs.Layouts.{Layout, Numbering, elements_of, entries_of, field_of, nothing_numbered, numbered, own_field, register_of, with_local}
use Rattle.lower_base.specs.Layouts as Y
use Rattle.lower_base.proofs.Numbering.{numbered_append}
use Rattle.lower_stmt.specs.Lengths.{clear_length_of}
use Rattle.lower_stmt.specs.Variables.{all_cleared, cleared, cleared_fields, is_kept_so, with_home}
use Rattle.code_lengths.specs.Growth.{Extended, Grows, GrowsOr, Leads}
use Rattle.code_lengths.specs.Naming.{IsDeclared, variable_named}
use Rattle.code_lengths.specs.NamingStatements.{StandFrom}
use Rattle.code_lengths.specs.Ready.{IsMadeOr, HasDeclared, IsReady, NumbersVariables, homes_of}
use Rattle.code_lengths.proofs.Advancing.{advanced, leads, leads_then}
use Rattle.code_lengths.proofs.Declaring.{at_length, at_number, found, info_of, second_part, taken}
use Rattle.code_lengths.proofs.Readiness.{made_from, ready_behind, ready_still}
use Rattle.code_lengths.proofs.Drafting.{and_instr, append_nothing, as_it_was, entry_grows, extended, nothing_more, resized}

-- ---- a unit stays as it is

pub still_declared : (t : Typed) (i : Instance) (l : Layout) (n : ℕ) (d e : Draft) (k : ℕ) → Extended d k e → HasDeclared t i l n d → HasDeclared t i l n e
still_declared t i l n d e k x known = record {
  ready = ready_behind ⊥ t i l n k d e x known.ready;
  homes = ap length x.homes ∙ known.homes;
}

-- ---- the next variable

either : (n k : ℕ) → k < n + 1 → (k ≡ n) ⊎ (k < n)
either n k less = eq-or-lt_of_le (omega (arith, less))

-- what holds of those that are declared, and of the next one, holds of one more
and_next : (t : Typed) (i : Instance) (n : ℕ) (next : VarInfo) (P : Variable → VarInfo → Type 0) → slice_get (variables_of i.body) n ≡ Some next →
    ((v : Variable) (info : VarInfo) → variable_named t i v ≡ Some info → IsDeclared n v → P v info) → P (V.Local n) next →
    (v : Variable) (info : VarInfo) → variable_named t i v ≡ Some info → IsDeclared (n + 1) v → P v info
unfolding variable_named IsDeclared
and_next t i n next P is old new (V.File k) info named declared = old (V.File k) info named tt
and_next t i n next P is old new (V.Param k) info named declared = old (V.Param k) info named tt
and_next t i n next P is old new (V.Local k) info named declared = elim (either n k declared) as (λ _. P (V.Local k) info) [
  | inl same ↦ at k info same named
  | inr less ↦ old (V.Local k) info named less
]
  where
    at : (k : ℕ) (info : VarInfo) → k ≡ n → slice_get (variables_of i.body) k ≡ Some info → P (V.Local k) info
    at k info same named =
        let known : next ≡ info = cc in
        subst (λ (k : ℕ). P (V.Local k) info) (sym same) (subst (λ (info : VarInfo). P (V.Local n) info) known new)

next_ready : (t : Typed) (i : Instance) (l : Layout) (n : ℕ) (d : Draft) (info : VarInfo) → slice_get (variables_of i.body) n ≡ Some info → IsReady t i l n d →
    (is_none info.shape ≡ false → elements_of t l (V.Local n) ≡ entries_of info) →
    (is_none info.shape ≡ false → (element : ℕ) → element < entries_of info → IsMadeOr ⊥ (field_of t l (V.Local n) element d)) → IsReady t i l (n + 1) d
next_ready t i l n d info is ready elements fields = record {
  elements = and_next t i n info (λ v known. is_none known.shape ≡ false → elements_of t l v ≡ entries_of known) is ready.elements elements;
  fields = λ v known element named declared.
      and_next t i n info (λ v known. is_none known.shape ≡ false → element < entries_of known → IsMadeOr ⊥ (field_of t l v element d)) is
      (λ v known named declared. ready.fields v known element named declared) (λ shape. fields shape element) v known named declared;
  result = ready.result;
  bases = ready.bases;
}

-- ---- the numbering of variables

abbrev name_of : Numbering → VarInfo → LocalName
name_of n info = record { home = n.homes; entries = entries_of info }

numbered_on : (infos : List VarInfo) (n : Numbering) → (more : List LocalName) × ((numbered infos n).locals ≡ n.locals ++ more)
unfolding numbered with_local
numbered_on [] n = ([], append_nothing n.locals)
numbered_on (info ∷ infos) n =
    let on = numbered_on infos (with_local n info) in
    (name_of n info ∷ on.0, on.1 ∙ append_assoc n.locals (name_of n info ∷ []) on.0)

numbered_first : (info : VarInfo) (infos : List VarInfo) (n : Numbering) → (more : List LocalName) × ((numbered (info ∷ infos) n).locals ≡ n.locals ++ name_of n info ∷ more)
unfolding numbered with_local
numbered_first info infos n =
    let on = numbered_on infos (with_local n info) in
    (on.0, on.1 ∙ append_assoc n.locals (name_of n info ∷ []) on.0)

numbered_long : (infos : List VarInfo) (n : Numbering) → length (numbered infos n).locals ≡ length n.locals + length infos
unfolding numbered with_local
numbered_long [] n = omega arith
numbered_long (info ∷ infos) n =
    let one = length-append n.locals (name_of n info ∷ []) in
    numbered_long infos (with_local n info) ∙ omega (arith, one)

-- the variable that comes next has its name there, by the number of parallel ones before it
name_at : (all : List VarInfo) (n : ℕ) (info : VarInfo) (rest : List VarInfo) (s : StandFrom all n (info ∷ rest)) →
    slice_get (numbered all nothing_numbered).locals n ≡ Some (record { home = homes_of s.before; entries = entries_of info })
name_at all n info rest s =
    let before = numbered s.before nothing_numbered in
    let on = numbered_first info (rest ++ s.behind) before in
    let listed : (numbered all nothing_numbered).locals ≡ before.locals ++ name_of before info ∷ on.0 =
    ap (λ (infos : List VarInfo). (numbered infos nothing_numbered).locals) s.all_are
    ∙ ap (λ (n : Numbering). n.locals) (numbered_append s.before (info ∷ (rest ++ s.behind)) nothing_numbered) ∙ on.1 in
    let number : length before.locals ≡ n = numbered_long s.before nothing_numbered ∙ nothing_more (length s.before) ∙ s.number_is in
    ap (λ (names : List LocalName). slice_get names n) listed
    ∙ ap (λ (k : ℕ). slice_get (before.locals ++ name_of before info ∷ on.0) k) (sym number)
    ∙ at_length before.locals (name_of before info) on.0

-- how many parallel ones there are behind it
homes_behind : (all : List VarInfo) (n : ℕ) (info : VarInfo) (rest : List VarInfo) (s : StandFrom all n (info ∷ rest)) → homes_of (take (n + 1) all) ≡ Y.behind (homes_of s.before) info
unfolding numbered with_local second_part
homes_behind all n info rest s =
    ap homes_of (taken rest (second_part (info ∷ []) rest s))
    ∙ ap (λ (n : Numbering). n.homes) (numbered_append s.before (info ∷ []) nothing_numbered)

-- ---- variables are cleared

entries_sum : (a b c n : ℕ) → a ≡ b + n → b ≡ c + 1 → a ≡ c + suc n
entries_sum a b c n h k = omega (arith, h, k)

-- so many entries more, and no home
cleared_entries : (n set len : ℕ) (d : Draft) → (e : Draft) × (cleared_fields n set len d ≡ Makes tt e) × Extended d n e × (length e.fields ≡ length d.fields + n)
unfolding cleared_fields then_make an_entry GrowsOr with_instr with_step
cleared_entries zero set len d = (d, refl, as_it_was d, omega arith)
cleared_entries (suc n) set len d =
    let own : Virtual = record { set = set; len = len; owner = W.Own } in
    let begun : Draft = record d { fields = d.fields ++ own ∷ [] } in
    let next : Draft = with_instr (I.MoveZeroAlways (record { set = set; offset = length d.fields; len = len })) begun in
    let rest = cleared_entries n set len next in (
      rest.0,
      rest.1,
      resized d rest.0 ((0 + 1) + n) (suc n) (one_and n) (extended d next rest.0 (0 + 1) n (and_instr _ d begun 0 (entry_grows ⊥ set len W.Own d).1) rest.2),
      entries_sum (length rest.0.fields) (length next.fields) (length d.fields) n rest.3 (length-append d.fields (own ∷ [])),
    )
  where
    one_and : (n : ℕ) → (0 + 1) + n ≡ suc n
    one_and n = omega arith

scalar_or_not : (o : Option ℕ) → o ≡ None → is_none o ≡ false → ⊥
scalar_or_not None is other = cc
scalar_or_not (Some s) is other = cc

behind_scalar : (k : ℕ) (info : VarInfo) → info.shape ≡ None → Y.behind k info ≡ k
unfolding Y.behind
behind_scalar k info is = ap (λ (o : Option ℕ). elim o as (λ _. ℕ) [ None ↦ k | Some _ ↦ k + 1 ]) is

behind_parallel : (k : ℕ) (info : VarInfo) (set : ℕ) → info.shape ≡ Some set → Y.behind k info ≡ k + 1
unfolding Y.behind
behind_parallel k info set is = ap (λ (o : Option ℕ). elim o as (λ _. ℕ) [ None ↦ k | Some _ ↦ k + 1 ]) is

pub own_at : (index : ℕ) (d : Draft) → index < length d.fields → IsMadeOr ⊥ (own_field index d)
unfolding own_field IsMadeOr
own_at index d less = let entry = found d.fields index less in made_from ⊥ (slice_get d.fields index) _ entry.0 entry.1 tt

declared_scalar : (t : Typed) (i : Instance) (l : Layout) (n : ℕ) (d : Draft) (info : VarInfo) (rest : List VarInfo) → StandFrom (variables_of i.body) n (info ∷ rest) → info.shape ≡ None →
    HasDeclared t i l n d → HasDeclared t i l (n + 1) d
declared_scalar t i l n d info rest s scalar known = record {
  ready = next_ready t i l n d info (at_number info rest s) known.ready (λ shape. absurd (scalar_or_not info.shape scalar shape)) (λ shape. absurd (scalar_or_not info.shape scalar shape));
  homes = known.homes ∙ ap homes_of (taken (info ∷ rest) s) ∙ sym (homes_behind (variables_of i.body) n info rest s ∙ behind_scalar (homes_of s.before) info scalar);
}

declared_parallel : (t : Typed) (i : Instance) (l : Layout) (n : ℕ) (d e : Draft) (info : VarInfo) (rest : List VarInfo) (set : ℕ) → StandFrom (variables_of i.body) n (info ∷ rest) → NumbersVariables i l →
    info.shape ≡ Some set → HasDeclared t i l n d → Extended (with_home d) (entries_of info) e → length e.fields ≡ length d.fields + entries_of info → HasDeclared t i l (n + 1) e
unfolding with_home field_of elements_of
declared_parallel t i l n d e info rest set s numbers parallel known x long =
    let name : LocalName = record { home = homes_of s.before; entries = entries_of info } in
    let named : slice_get l.locals n ≡ Some name = ap (λ (names : List LocalName). slice_get names n) numbers ∙ name_at (variables_of i.body) n info rest s in
    let count : length d.homes ≡ homes_of s.before = known.homes ∙ ap homes_of (taken (info ∷ rest) s) in
    let home : slice_get e.homes (homes_of s.before) ≡ Some (length d.fields) =
    ap (λ (homes : List ℕ). slice_get homes (homes_of s.before)) x.homes
    ∙ ap (λ (k : ℕ). slice_get (d.homes ++ length d.fields ∷ []) k) (sym count) ∙ at_length d.homes (length d.fields) [] in
    record {
      ready = next_ready t i l n e info (at_number info rest s) (ready_still ⊥ t i l n d e (x.entries, length d.fields ∷ [], x.fields, x.homes) known.ready)
          (λ shape. ap (λ (o : Option LocalName). elim o as (λ _. ℕ) [ None ↦ 0 | Some name ↦ name.entries ]) named)
          (λ shape element within. made_from ⊥ (slice_get l.locals n) _ name named (made_from ⊥ (slice_get e.homes name.home) _ (length d.fields) home (own_at (length d.fields + element) e (omega (arith, long, within)))));
      homes = ap length x.homes ∙ length-append d.homes (length d.fields ∷ []) ∙ ap (λ (k : ℕ). k + 1) count
          ∙ sym (homes_behind (variables_of i.body) n info rest s ∙ behind_parallel (homes_of s.before) info set parallel);
    }

cleared_by : (kept : Bool) (shape : Option ℕ) (t : Typed) (i : Instance) (l : Layout) (info : VarInfo) (rest : List VarInfo) (n : ℕ) (d : Draft) → info.shape ≡ shape →
    StandFrom (variables_of i.body) n (info ∷ rest) → NumbersVariables i l → HasDeclared t i l n d →
    Leads d (elim shape as (λ _. ℕ) [ None ↦ if kept then 0 else 1 | Some s ↦ entries_of info ]) (λ (x : Unit {0}) (e : Draft). HasDeclared t i l (n + 1) e) (elim shape as (λ _. Made (Unit {0})) [
      | None ↦ if kept then Makes tt d else Makes tt (with_instr (I.FrontConst (register_of l (V.Local n)) 0) d)
      | Some s ↦ cleared_fields (entries_of info) s info.elem.bits (with_home d)
    ])
unfolding with_home
cleared_by true None t i l info rest n d is s numbers known = leads _ tt d d 0 (declared_scalar t i l n d info rest s is known) (advanced d d 0 (as_it_was d))
cleared_by false None t i l info rest n d is s numbers known =
    let x = and_instr (I.FrontConst (register_of l (V.Local n)) 0) d d 0 (as_it_was d) in
    leads _ tt d _ 1 (declared_scalar t i l n _ info rest s is (still_declared t i l n d _ 1 x known)) (advanced d _ 1 x)
cleared_by kept (Some set) t i l info rest n d is s numbers known =
    let made = cleared_entries (entries_of info) set info.elem.bits (with_home d) in
    subst (λ (m : Made (Unit {0})). Leads d (entries_of info) (λ (x : Unit {0}) (e : Draft). HasDeclared t i l (n + 1) e) m) (sym made.1)
    (leads _ tt d made.0 _ (declared_parallel t i l n d made.0 info rest set s numbers is known made.2 made.3) (length d.fields ∷ [], made.2))

clear_leads : (t : Typed) (i : Instance) (l : Layout) (at_start : Bool) (local : LocalVar) (rest : List VarInfo) (n : ℕ) (d : Draft) → StandFrom (variables_of i.body) n (local.info ∷ rest) → NumbersVariables i l →
    HasDeclared t i l n d → Leads d (clear_length_of at_start local) (λ (x : Unit {0}) (e : Draft). HasDeclared t i l (n + 1) e) (cleared l at_start local n d)
unfolding cleared clear_length_of
clear_leads t i l at_start local rest n d s numbers known = cleared_by (is_kept_so at_start local) local.info.shape t i l local.info rest n d refl s numbers known

-- how many instructions that takes
unfoldable pub clears : Bool → List LocalVar → ℕ
clears at_start [] = 0
clears at_start (local ∷ locals) = clear_length_of at_start local + clears at_start locals

-- the variables of a block, from a number on, are declared then
pub all_cleared_lead : (t : Typed) (i : Instance) (l : Layout) (at_start : Bool) (locals : List LocalVar) (n : ℕ) (d : Draft) → StandFrom (variables_of i.body) n (map info_of locals) → NumbersVariables i l →
    HasDeclared t i l n d → Leads d (clears at_start locals) (λ (x : Unit {0}) (e : Draft). HasDeclared t i l (n + length locals) e) (all_cleared l at_start locals n d)
unfolding all_cleared clears
all_cleared_lead t i l at_start [] n d s numbers known = leads _ tt d d 0 (subst (λ (k : ℕ). HasDeclared t i l k d) (nothing n) known) (advanced d d 0 (as_it_was d))
  where
    nothing : (n : ℕ) → n ≡ n + 0
    nothing n = omega arith
all_cleared_lead t i l at_start (local ∷ locals) n d s numbers known =
    leads_then (λ (x : Unit {0}) (e : Draft). HasDeclared t i l (n + 1) e) _ d _ _ _ _ (clear_leads t i l at_start local (map info_of locals) n d s numbers known)
    (λ _ after known. subst (λ (k : ℕ). Leads after (clears at_start locals) (λ (x : Unit {0}) (e : Draft). HasDeclared t i l k e) (all_cleared l at_start locals (n + 1) after)) (one_more n (length locals))
    (all_cleared_lead t i l at_start locals (n + 1) after (second_part (local.info ∷ []) (map info_of locals) s) numbers known))
  where
    one_more : (n k : ℕ) → (n + 1) + k ≡ n + suc k
    one_more n k = omega arith
