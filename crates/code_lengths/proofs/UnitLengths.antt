-- The unit of an instance: behind what it begins with it is ready for its body, which is made then. So no
-- unit of a program is left out.
use Rattle.std.proofs.Common.{◌≡◌, ℕ, suc, zero, ◌+◌, ◌<◌, ◌≤◌, ◌==◌, Bool, true, false, List, [], ◌∷◌, ◌++◌, length, fold, slice_get, Option, Some, None, is_none, refl, sym, ap, ◌∙◌, subst, arith, append_assoc, length-append, if◌then◌else◌}
use Rattle.cstar_tree.specs.declared.typed.Instance.{Instance}
use Rattle.cstar_tree.specs.declared.typed.TStmt.{TStmt}
use Rattle.cstar_tree.specs.declared.typed.Typed.{Typed}
use Rattle.cstar_tree.specs.declared.typed.VarInfo.{VarInfo}
use Rattle.cstar_tree.specs.declared.typed.Variable.{Variable}
use Rattle.cstar_tree.specs.declared.typed.Variable.TheVariants as V
use Rattle.cstar_tree.specs.Variables.{variables_of}
use Rattle.paris_code.specs.declared.program.Owner.TheVariants as W
use Rattle.paris_code.specs.declared.program.Virtual.{Virtual}
use Rattle.lower_base.specs.Drafts.{Draft, Made, Makes, Fails, an_entry, then_make}
use Rattle.lower_base.specs.Layouts.{Layout, Registers, elements_of, entered, entries_of, earlier_base, field_of, first_fields, layout_of, nothing_numbered, numbered, own_field, param_entries, registers_of, with_instance}
use Rattle.lower_base.specs.Layouts as Y
use Rattle.lower_stmt.specs.Frames.{with_end}
use Rattle.lower_stmt.specs.Programs.{begun, blank, body_frame, constants_put, elements_begun, joined, own_field_of, own_fields_of, own_result_of, scalar_begun, start_value_of, start_values_of, unit_of, units_of}
use Rattle.lower_stmt.specs.Statements.{body_of, ended, ends_in_return}
use Rattle.code_lengths.specs.Agreement.{HasUnit, ProgramsHaveCode, StandsAmong, UnitsAreAsLongAsDescribed, end_length, opening_of, whole_length}
use Rattle.code_lengths.specs.Growth.{Advanced, Anything, Extended, Grows, GrowsOr, Leads}
use Rattle.code_lengths.specs.Naming.{IsDeclared, variable_named}
use Rattle.code_lengths.specs.Ready.{IsMadeOr, HasDeclared, HasPlainParameters, HasStatementCode, IsCodable, IsReady, NumbersVariables}
use Rattle.code_lengths.proofs.Agreeing.{expressions}
use Rattle.code_lengths.proofs.Advancing.{advanced, leads, leads_then}
use Rattle.code_lengths.proofs.Declaring.{all_at, at_length}
use Rattle.code_lengths.proofs.Drafting.{and_instr, as_it_was, behind, bind, makes, nothing_more, resized, sized}
use Rattle.code_lengths.proofs.Homes.{own_at}
use Rattle.code_lengths.proofs.Readiness.{made_field_grows, made_from}
use Rattle.code_lengths.proofs.StatementLengths.{body_lead, end_more, one_entry_of}

-- ---- what is made in pieces

-- what is made in pieces is made of the first ones together, and then of the rest
two_together : {A B C : Type 0} (m : Made A) (f : A → Draft → Made B) (g : B → Draft → Made C) → then_make m (λ x d. then_make (f x d) g) ≡ then_make (then_make m f) g
unfolding then_make
two_together (Makes x d) f g = refl
two_together Fails f g = refl

three_together : {A B C D : Type 0} (m : Made A) (f : A → Draft → Made B) (g : B → Draft → Made C) (h : C → Draft → Made D) →
    then_make m (λ x d. then_make (f x d) (λ y e. then_make (g y e) h)) ≡ then_make (then_make m (λ x d. then_make (f x d) g)) h
unfolding then_make
three_together (Makes x d) f g h = two_together (f x d) g h
three_together Fails f g h = refl

pub first_made : {B : Type 0} (m : Made (Unit {0})) (next : Unit {0} → Draft → Made B) (d : Draft) → m ≡ Makes tt d → then_make m next ≡ next tt d
unfolding then_make
first_made m next d is = ap (λ (m : Made (Unit {0})). then_make m next) is

-- what grows, and what leads on, is made
grown_made : (d : Draft) (n : ℕ) (m : Made (Unit {0})) → Grows d n Anything m → (e : Draft) × (m ≡ Makes tt e) × Extended d n e
unfolding GrowsOr
grown_made d n (Makes x e) g = (e, refl, g.1)
grown_made d n Fails g = absurd g

led_made : (d : Draft) (n : ℕ) (m : Made (Unit {0})) → Leads d n (λ (x : Unit {0}) (e : Draft). Unit {0}) m → (e : Draft) × (m ≡ Makes tt e) × Advanced d n e
unfolding Leads
led_made d n (Makes x e) g = (e, refl, g.1)
led_made d n Fails g = absurd g

-- ---- the layout of an instance

number_more : (instances : List Instance) (r : Registers) (instance : Instance) → length (with_instance instances r instance).bases ≡ length r.bases + 1
unfolding with_instance
number_more instances r instance = by (earlier_base instances r instance)
  where
    by : (o : Option ℕ) → length (elim o as (λ _. Registers) [
      | Some base ↦ record r { bases = r.bases ++ base ∷ [] }
      | None ↦ record {
        bases = r.bases ++ r.end ∷ [];
        end = r.end + length (numbered (variables_of instance.body) nothing_numbered).locals + length instance.params.items + 1;
      }
    ]).bases ≡ length r.bases + 1
    by (Some base) = length-append r.bases (base ∷ [])
    by None = length-append r.bases (r.end ∷ [])

as_many_bases : (all instances : List Instance) (r : Registers) → length (fold (with_instance all) r instances).bases ≡ length r.bases + length instances
as_many_bases all [] r = omega arith
as_many_bases all (instance ∷ instances) r =
    let one = number_more all r instance in
    as_many_bases all instances (with_instance all r instance) ∙ omega (arith, one)

-- each instance has its registers
bases_are : (t : Typed) (words : List ℕ) (number : ℕ) → length (layout_of t words number).bases ≡ length t.instances.items
unfolding layout_of entered registers_of
bases_are t words number = as_many_bases t.instances.items t.instances.items (record { bases = []; end = length t.vars.items }) ∙ nothing_more (length t.instances.items)

abbrev params_by : Option Instance → List VarInfo
params_by own = elim own [ None ↦ [] | Some instance ↦ instance.params.items ]

params_are : (t : Typed) (words : List ℕ) (number : ℕ) (instance : Instance) → slice_get t.instances.items number ≡ Some instance → (layout_of t words number).params ≡ param_entries 0 instance.params.items
unfolding layout_of entered
params_are t words number instance is = ap (λ (own : Option Instance). param_entries 0 (params_by own)) is

outcome_is : (t : Typed) (words : List ℕ) (number : ℕ) (instance : Instance) → slice_get t.instances.items number ≡ Some instance → (layout_of t words number).outcome ≡ fold Y.behind 0 instance.params.items
unfolding layout_of entered
outcome_is t words number instance is = ap (λ (own : Option Instance). fold Y.behind 0 (params_by own)) is

pub locals_are : (t : Typed) (words : List ℕ) (number : ℕ) (instance : Instance) → slice_get t.instances.items number ≡ Some instance → NumbersVariables instance (layout_of t words number)
unfolding layout_of entered
locals_are t words number instance is = ap (λ (own : Option Instance). (numbered (elim own as (λ _. List VarInfo) [ None ↦ [] | Some instance ↦ variables_of instance.body ]) nothing_numbered).locals) is

first_field : (next : ℕ) (infos : List VarInfo) (k : ℕ) (info : VarInfo) → slice_get infos k ≡ Some info → (first : ℕ) × (slice_get (first_fields next infos) k ≡ Some first)
unfolding first_fields
first_field next [] k info is = absurd (none is)
  where
    none : None ≡ Some info → ⊥
    none is = cc
first_field next (other ∷ infos) zero info is = (next, refl)
first_field next (other ∷ infos) (suc k) info is = first_field (next + entries_of other) infos k info is

shape_there : (o : Option ℕ) → is_none o ≡ false → (set : ℕ) × (o ≡ Some set)
shape_there None parallel = let no : ⊥ = cc in absurd no
shape_there (Some set) parallel = (set, refl)

-- a parallel variable of the file gets an entry in every unit
file_made : (t : Typed) (words : List ℕ) (number k element : ℕ) (info : VarInfo) (d : Draft) → slice_get t.vars.items k ≡ Some info → is_none info.shape ≡ false →
    IsMadeOr ⊥ (field_of t (layout_of t words number) (V.File k) element d)
unfolding field_of layout_of entered an_entry IsMadeOr
file_made t words number k element info d is parallel =
    let first = first_field 0 t.vars.items k info is in
    let set = shape_there info.shape parallel in
    made_from _ (slice_get t.vars.items k) _ info is (made_from _ (slice_get (first_fields 0 t.vars.items) k) _ first.0 first.1 (made_from _ info.shape _ set.0 set.1 tt))

-- ---- the entries of parameters and of the result

le_through : (a b c : ℕ) → a ≤ b → b ≤ c → a ≤ c
le_through a b c first second = omega (arith, first, second)

less_through : (a b c : ℕ) → b ≡ a + 1 → b ≤ c → a < c
less_through a b c first second = omega (arith, first, second)

behind_least : (next : ℕ) (info : VarInfo) → next ≤ Y.behind next info
unfolding Y.behind
behind_least next info = by info.shape
  where
    by : (o : Option ℕ) → next ≤ (elim o as (λ _. ℕ) [ None ↦ next | Some _ ↦ next + 1 ])
    by None = omega arith
    by (Some s) = omega arith

behind_one : (next : ℕ) (info : VarInfo) → is_none info.shape ≡ false → Y.behind next info ≡ next + 1
unfolding Y.behind
behind_one next info parallel = by info.shape parallel
  where
    by : (o : Option ℕ) → is_none o ≡ false → (elim o as (λ _. ℕ) [ None ↦ next | Some _ ↦ next + 1 ]) ≡ next + 1
    by None h = cc
    by (Some s) h = refl

at_least : (next : ℕ) (infos : List VarInfo) → next ≤ fold Y.behind next infos
at_least next [] = omega arith
at_least next (info ∷ infos) = le_through next (Y.behind next info) _ (behind_least next info) (at_least (Y.behind next info) infos)

-- the entry of a parallel parameter is one of those of all of them
param_entry : (next : ℕ) (infos : List VarInfo) (k : ℕ) (info : VarInfo) → slice_get infos k ≡ Some info → is_none info.shape ≡ false →
    (index : ℕ) × (slice_get (param_entries next infos) k ≡ Some index) × (index < fold Y.behind next infos)
unfolding param_entries
param_entry next [] k info is parallel = absurd (none is)
  where
    none : None ≡ Some info → ⊥
    none is = cc
param_entry next (other ∷ infos) zero info is parallel =
    let same : other ≡ info = cc in
    (next, refl, less_through next (Y.behind next other) _ (behind_one next other (ap (λ (info : VarInfo). is_none info.shape) same ∙ parallel)) (at_least (Y.behind next other) infos))
param_entry next (other ∷ infos) (suc k) info is parallel = param_entry (Y.behind next other) infos k info is parallel

-- a unit that has got so many entries, and nothing else that matters
record HasEntries (d : Draft) (m : Made (Unit {0})) (n : ℕ) : Type 0 where
  behind : Draft
  made : m ≡ Makes tt behind
  entries : length behind.fields ≡ n
  homes : behind.homes ≡ d.homes

own_field_has : (info : VarInfo) (d : Draft) → HasEntries d (own_field_of info d) (Y.behind (length d.fields) info)
unfolding own_field_of Y.behind then_make an_entry
own_field_has info d = by info.shape
  where
    by : (o : Option ℕ) → HasEntries d (elim o as (λ _. Made (Unit {0})) [ None ↦ Makes tt d | Some s ↦ then_make (an_entry s info.elem.bits W.Own d) (λ _ after. Makes tt after) ]) (elim o as (λ _. ℕ) [ None ↦ length d.fields | Some _ ↦ length d.fields + 1 ])
    by None = record { behind = d; made = refl; entries = refl; homes = refl }
    by (Some s) =
        let own : Virtual = record { set = s; len = info.elem.bits; owner = W.Own } in
        record { behind = record d { fields = d.fields ++ own ∷ [] }; made = refl; entries = length-append d.fields (own ∷ []); homes = refl }

own_fields_have : (infos : List VarInfo) (d : Draft) → HasEntries d (own_fields_of infos d) (fold Y.behind (length d.fields) infos)
unfolding own_fields_of
own_fields_have [] d = record { behind = d; made = refl; entries = refl; homes = refl }
own_fields_have (info ∷ infos) d =
    let one = own_field_has info d in
    let rest = own_fields_have infos one.behind in
    record {
      behind = rest.behind;
      made = first_made (own_field_of info d) (λ _ after. own_fields_of infos after) one.behind one.made ∙ rest.made;
      entries = rest.entries ∙ ap (λ (k : ℕ). fold Y.behind k infos) one.entries;
      homes = rest.homes ∙ one.homes;
    }

-- how many there are with that of the result
with_result : ℕ → Option VarInfo → ℕ
with_result n None = n
with_result n (Some info) = Y.behind n info

own_result_has : (result : Option VarInfo) (d : Draft) → HasEntries d (own_result_of result d) (with_result (length d.fields) result)
unfolding own_result_of with_result
own_result_has None d = record { behind = d; made = refl; entries = refl; homes = refl }
own_result_has (Some info) d = own_field_has info d

result_least : (n : ℕ) (result : Option VarInfo) → n ≤ with_result n result
unfolding with_result
result_least n None = omega arith
result_least n (Some info) = at_least n (info ∷ [])

result_entry : (n : ℕ) (info : VarInfo) → is_none info.shape ≡ false → with_result n (Some info) ≡ n + 1
unfolding with_result
result_entry n info parallel = behind_one n info parallel

none_declared : (k : ℕ) → k < 0 → ⊥
none_declared k less = omega (arith, less)

-- what a unit begins with: the entries of its parameters and of its result, and no home
record IsBegun (instance : Instance) (start : Draft) : Type 0 where
  entries : with_result (fold Y.behind 0 instance.params.items) instance.result ≤ length start.fields
  homes : start.homes ≡ []

-- ---- what the file's variables begin with

constants_more : (words : List ℕ) (r n : ℕ) (d e : Draft) → Extended d n e → Extended d (n + length words) (constants_put words r e)
unfolding constants_put
constants_more [] r n d e x = resized d e n (n + 0) (omega arith) x
constants_more (word ∷ words) r n d e x = resized d _ _ _ (next n (length words)) (constants_more words (r + 1) (n + 1) d _ (and_instr _ d e n x))
  where
    next : (n k : ℕ) → (n + 1) + k ≡ n + suc k
    next n k = omega arith

-- code of some length
abbrev Begins : Draft → Made (Unit {0}) → Type 0
Begins d m = (n : ℕ) × Grows d n Anything m

module _ (t : Typed) (words : List ℕ) (number : ℕ) where
  abbrev own_layout : Layout
  own_layout = layout_of t words number

  elements_grow : (k value left element : ℕ) (info : VarInfo) (d : Draft) → slice_get t.vars.items k ≡ Some info → is_none info.shape ≡ false →
      Grows d left Anything (elements_begun t own_layout k value left element d)
  unfolding elements_begun
  elements_grow k value zero element info d is parallel = makes _ Anything tt d d 0 tt (as_it_was d)
  elements_grow k value (suc left) element info d is parallel =
      sized _ Anything d _ _ _ (one_and left) (bind _ Anything Anything d 0 (1 + left) _ _ (made_field_grows _ t own_layout (V.File k) element d (file_made t words number k element info d is parallel))
      (λ dest after _. behind _ Anything after _ 1 left _ (and_instr _ after after 0 (as_it_was after)) (elements_grow k value left (element + 1) info _ is parallel)))
    where
      one_and : (n : ℕ) → 0 + (1 + n) ≡ suc n
      one_and n = omega arith

  start_value_grows : (info : VarInfo) (k : ℕ) (d : Draft) → slice_get t.vars.items k ≡ Some info → Begins d (start_value_of t own_layout info k d)
  unfolding start_value_of scalar_begun
  start_value_grows info k d is = by (info.start == 0) info.shape refl
    where
      by : (zero_start : Bool) (shape : Option ℕ) → info.shape ≡ shape → Begins d (if zero_start then Makes tt d else elim shape as (λ _. Made (Unit {0})) [
        | None ↦ Makes tt (scalar_begun own_layout info k d)
        | Some s ↦ elements_begun t own_layout k info.start (entries_of info) 0 d
      ])
      by true shape same = (0, makes _ Anything tt d d 0 tt (as_it_was d))
      by false None same = (2, makes _ Anything tt d _ 2 tt (and_instr _ d _ 1 (and_instr _ d d 0 (as_it_was d))))
      by false (Some s) same = (entries_of info, elements_grow k info.start (entries_of info) 0 info d is (ap is_none same))

  start_values_grow : (before infos : List VarInfo) (d : Draft) → t.vars.items ≡ before ++ infos → Begins d (start_values_of t own_layout infos (length before) d)
  unfolding start_values_of
  start_values_grow before [] d all = (0, makes _ Anything tt d d 0 tt (as_it_was d))
  start_values_grow before (info ∷ infos) d all =
      let one = start_value_grows info (length before) d (ap (λ (infos : List VarInfo). slice_get infos (length before)) all ∙ at_length before info infos) in
      let first = grown_made d one.0 _ one.1 in
      let rest = start_values_grow (before ++ info ∷ []) infos first.0 (all ∙ sym (append_assoc before (info ∷ []) infos)) in (
        one.0 + rest.0,
        subst (λ (m : Made (Unit {0})). Grows d (one.0 + rest.0) Anything m)
            (sym (first_made (start_value_of t own_layout info (length before) d) (λ _ after. start_values_of t own_layout infos (length before + 1) after) first.0 first.1))
            (behind _ Anything d first.0 one.0 rest.0 _ first.2
            (subst (λ (k : ℕ). Grows first.0 rest.0 Anything (start_values_of t own_layout infos k first.0)) (length-append before (info ∷ [])) rest.1)),
      )

  begun_grows : (is_main : Bool) (d : Draft) → Begins d (begun t own_layout is_main d)
  unfolding begun
  begun_grows true d =
      let constants = constants_more own_layout.constants own_layout.end 0 d d (as_it_was d) in
      let values = start_values_grow [] t.vars.items (constants_put own_layout.constants own_layout.end d) refl in
      (_, behind _ Anything d _ _ _ _ constants values.1)
  begun_grows false d = (0, makes _ Anything tt d d 0 tt (as_it_was d))

  -- ---- a unit is ready for the body

  param_ready : (instance : Instance) (k : ℕ) (info : VarInfo) (element : ℕ) (start : Draft) → slice_get t.instances.items number ≡ Some instance → IsBegun instance start →
      slice_get instance.params.items k ≡ Some info → is_none info.shape ≡ false → IsMadeOr ⊥ (field_of t own_layout (V.Param k) element start)
  unfolding field_of
  param_ready instance k info element start is begun named parallel =
      let entry = param_entry 0 instance.params.items k info named parallel in
      let there = entry.2 in
      let within = result_least (fold Y.behind 0 instance.params.items) instance.result in
      let entries = begun.entries in
      made_from _ (slice_get own_layout.params k) _ entry.0 (ap (λ (params : List ℕ). slice_get params k) (params_are t words number instance is) ∙ entry.1)
      (own_at entry.0 start (omega (arith, there, within, entries)))

  body_ready : (instance : Instance) (start : Draft) → slice_get t.instances.items number ≡ Some instance → HasPlainParameters instance → IsBegun instance start → IsReady t instance own_layout 0 start
  unfolding IsDeclared variable_named elements_of
  body_ready instance start is plain begun = record {
    elements = elements;
    fields = fields;
    result = result;
    bases = bases_are t words number;
  }
    where
      elements : (v : Variable) (info : VarInfo) → variable_named t instance v ≡ Some info → IsDeclared 0 v → is_none info.shape ≡ false → elements_of t own_layout v ≡ entries_of info
      elements (V.File k) info named declared parallel = ap (λ (o : Option VarInfo). elim o as (λ _. ℕ) [ None ↦ 0 | Some info ↦ entries_of info ]) named
      elements (V.Param k) info named declared parallel = sym (one_entry_of info (all_at (λ (info : VarInfo). info.array ≡ None) instance.params.items k info plain named) parallel)
      elements (V.Local k) info named declared parallel = absurd (none_declared k declared)

      fields : (v : Variable) (info : VarInfo) (element : ℕ) → variable_named t instance v ≡ Some info → IsDeclared 0 v → is_none info.shape ≡ false → element < entries_of info → IsMadeOr ⊥ (field_of t own_layout v element start)
      fields (V.File k) info element named declared parallel within = file_made t words number k element info start named parallel
      fields (V.Param k) info element named declared parallel within = param_ready instance k info element start is begun named parallel
      fields (V.Local k) info element named declared parallel within = absurd (none_declared k declared)

      result : (info : VarInfo) → instance.result ≡ Some info → is_none info.shape ≡ false → IsMadeOr ⊥ (own_field own_layout.outcome start)
      result info given parallel =
          let at : own_layout.outcome ≡ fold Y.behind 0 instance.params.items = outcome_is t words number instance is in
          let entries : with_result (fold Y.behind 0 instance.params.items) (Some info) ≤ length start.fields =
          subst (λ (result : Option VarInfo). with_result (fold Y.behind 0 instance.params.items) result ≤ length start.fields) given begun.entries in
          let one = result_entry (fold Y.behind 0 instance.params.items) info parallel in
          own_at own_layout.outcome start (omega (arith, at, entries, one))

-- ---- the body

-- the body of an instance, and its end
unfoldable pub rest_of : Typed → Layout → Bool → Instance → Unit {0} → Draft → Made (Unit {0})
rest_of t l is_main instance _ start =
    then_make (body_of t l (body_frame is_main instance) instance.body start) (λ _ end. Makes tt (ended is_main instance.body end))

pub no_context : (is_main : Bool) (instance : Instance) → StandsAmong (body_frame is_main instance) []
unfolding body_frame
no_context is_main instance = record { loop = omega arith; all = refl }

ended_more : (is_main : Bool) (body : TStmt) (d : Draft) → Extended d (end_length body) (ended is_main body d)
unfolding ended end_length
ended_more is_main body d = by (ends_in_return body)
  where
    by : (b : Bool) → Extended d (if b then 0 else 1) (if b then d else with_end is_main d)
    by true = as_it_was d
    by false = end_more is_main 0 d d (as_it_was d)

pub opened : (t : Typed) (l : Layout) (is_main : Bool) (regs : ℕ) (instance : Instance) → unit_of t l is_main regs instance ≡ then_make (opening_of t l is_main regs instance) (rest_of t l is_main instance)
unfolding unit_of opening_of rest_of
opened t l is_main regs instance =
    three_together (own_fields_of instance.params.items (blank instance.name regs)) (λ _ d. own_result_of instance.result d) (λ _ ready. begun t l is_main ready) (rest_of t l is_main instance)

-- what a unit begins with is made, and the unit is ready for the body then
opening_made : (t : Typed) (words : List ℕ) (number : ℕ) (is_main : Bool) (regs : ℕ) (instance : Instance) → (start : Draft) × (opening_of t (layout_of t words number) is_main regs instance ≡ Makes tt start) × IsBegun instance start
unfolding opening_of blank
opening_made t words number is_main regs instance =
    let l = layout_of t words number in
    let params = own_fields_have instance.params.items (blank instance.name regs) in
    let result = own_result_has instance.result params.behind in
    let begins = begun_grows t words number is_main result.behind in
    let start = grown_made result.behind begins.0 (begun t l is_main result.behind) begins.1 in
    let fields : length start.0.fields ≡ length result.behind.fields + length start.2.entries = ap length start.2.fields ∙ length-append result.behind.fields start.2.entries in
    let entries : length result.behind.fields ≡ with_result (fold Y.behind 0 instance.params.items) instance.result =
    result.entries ∙ ap (λ (n : ℕ). with_result n instance.result) params.entries in (
      start.0,
      first_made (own_fields_of instance.params.items (blank instance.name regs)) (λ _ d. then_make (own_result_of instance.result d) (λ _ ready. begun t l is_main ready)) params.behind params.made
          ∙ first_made (own_result_of instance.result params.behind) (λ _ ready. begun t l is_main ready) result.behind result.made ∙ start.1,
      record { entries = omega (arith, fields, entries); homes = start.2.homes ∙ result.homes ∙ params.homes },
    )

-- and then no variable of its blocks is declared
pub begins : (t : Typed) (words : List ℕ) (number : ℕ) (is_main : Bool) (regs : ℕ) (instance : Instance) → slice_get t.instances.items number ≡ Some instance → HasPlainParameters instance →
    (start : Draft) × (opening_of t (layout_of t words number) is_main regs instance ≡ Makes tt start) × HasDeclared t instance (layout_of t words number) 0 start
unfolding numbered
begins t words number is_main regs instance is plain =
    let start = opening_made t words number is_main regs instance in
    (start.0, start.1, record { ready = body_ready t words number instance start.0 is plain start.2; homes = ap length start.2.homes })

body_made : (t : Typed) (words : List ℕ) (number : ℕ) (is_main : Bool) (instance : Instance) (start : Draft) → slice_get t.instances.items number ≡ Some instance →
    HasPlainParameters instance → HasStatementCode t instance 0 instance.body → IsBegun instance start →
    Leads start (whole_length t (layout_of t words number) (body_frame is_main instance) instance.body) (λ (x : Unit {0}) (e : Draft). Unit {0}) (rest_of t (layout_of t words number) is_main instance tt start)
unfolding rest_of whole_length body_frame numbered
body_made t words number is_main instance start is plain code begun =
    let l = layout_of t words number in
    let known : HasDeclared t instance l 0 start = record { ready = body_ready t words number instance start is plain begun; homes = ap length begun.homes } in
    leads_then _ _ start _ _ _ _
    (body_lead t instance l (locals_are t words number instance is) (expressions t instance l) instance.body (body_frame is_main instance) start code.shaped code.lowerable code.names code.stands refl (no_context is_main instance) known)
    (λ _ end _. leads _ tt end _ _ tt (advanced end _ _ (ended_more is_main instance.body end)))

pub units : UnitsAreAsLongAsDescribed
units t words number is_main regs instance is plain code =
    let l = layout_of t words number in
    let start = opening_made t words number is_main regs instance in
    let rest = led_made start.0 _ (rest_of t l is_main instance tt start.0) (body_made t words number is_main instance start.0 is plain code start.2) in
    record {
      start = start.0;
      unit = rest.0;
      begins = start.1;
      made = opened t l is_main regs instance ∙ first_made (opening_of t l is_main regs instance) (rest_of t l is_main instance) start.0 start.1 ∙ rest.1;
      rest = rest.2;
    }

-- ---- all units

joined_made : (m : Made (Unit {0})) (rest : Draft → List Draft) (d : Draft) → m ≡ Makes tt d → joined m rest ≡ d ∷ rest d
unfolding joined
joined_made m rest d is = ap (λ (m : Made (Unit {0})). joined m rest) is

-- the first of the units that are left, and those behind it
first_unit : (t : Typed) (words : List ℕ) (before : List Instance) (instance : Instance) (instances : List Instance) (regs : ℕ) → IsCodable t → t.instances.items ≡ before ++ instance ∷ instances →
    (own : HasUnit t (layout_of t words (length before)) (length before == 0) regs instance)
    × (units_of t words (instance ∷ instances) (length before) regs ≡ own.unit ∷ units_of t words instances (length (before ++ instance ∷ [])) own.unit.regs)
unfolding units_of
first_unit t words before instance instances regs codable all =
    let number = length before in
    let is : slice_get t.instances.items number ≡ Some instance = ap (λ (instances : List Instance). slice_get instances number) all ∙ at_length before instance instances in
    let code = codable number instance is in
    let own = units t words number (number == 0) regs instance is code.0 code.1 in (
      own,
      joined_made (unit_of t (layout_of t words number) (number == 0) regs instance) (λ d. units_of t words instances (number + 1) d.regs) own.unit own.made
          ∙ ap (λ (k : ℕ). own.unit ∷ units_of t words instances k own.unit.regs) (sym (length-append before (instance ∷ []))),
    )

as_many_units : (t : Typed) (words : List ℕ) (before instances : List Instance) (regs : ℕ) → IsCodable t → t.instances.items ≡ before ++ instances →
    length (units_of t words instances (length before) regs) ≡ length instances
unfolding units_of
as_many_units t words before [] regs codable all = refl
as_many_units t words before (instance ∷ instances) regs codable all =
    let first = first_unit t words before instance instances regs codable all in
    ap length first.1 ∙ ap suc (as_many_units t words (before ++ instance ∷ []) instances first.0.unit.regs codable (all ∙ sym (append_assoc before (instance ∷ []) instances)))

-- the unit of an instance stands at its number
abbrev IsUnitAt : Typed → List ℕ → List Draft → ℕ → ℕ → Instance → Type 0
IsUnitAt t words all k number instance = (first : ℕ) × (own : HasUnit t (layout_of t words number) (number == 0) first instance) × (slice_get all k ≡ Some own.unit)

unit_at : (t : Typed) (words : List ℕ) (before instances : List Instance) (regs k number : ℕ) (instance : Instance) → IsCodable t → t.instances.items ≡ before ++ instances → number ≡ length before + k →
    slice_get instances k ≡ Some instance → IsUnitAt t words (units_of t words instances (length before) regs) k number instance
unit_at t words before [] regs k number instance codable all numbered is = let no : ⊥ = cc in absurd no
unit_at t words before (other ∷ instances) regs zero number instance codable all numbered is =
    let first = first_unit t words before other instances regs codable all in
    let units = units_of t words (other ∷ instances) (length before) regs in
    let same : other ≡ instance = cc in
    subst (λ (number : ℕ). IsUnitAt t words units zero number instance) (sym (numbered ∙ nothing_behind (length before)))
    (subst (λ (instance : Instance). IsUnitAt t words units zero (length before) instance) same (regs, first.0, ap (λ (all : List Draft). slice_get all zero) first.1))
  where
    nothing_behind : (n : ℕ) → n + 0 ≡ n
    nothing_behind n = omega arith
unit_at t words before (other ∷ instances) regs (suc k) number instance codable all numbered is =
    let first = first_unit t words before other instances regs codable all in
    let rest = unit_at t words (before ++ other ∷ []) instances first.0.unit.regs k number instance codable (all ∙ sym (append_assoc before (other ∷ []) instances))
    (numbered ∙ next (length before) k ∙ ap (λ (n : ℕ). n + k) (sym (length-append before (other ∷ [])))) is in
    (rest.0, rest.1, ap (λ (all : List Draft). slice_get all (suc k)) first.1 ∙ rest.2)
  where
    next : (n k : ℕ) → n + suc k ≡ (n + 1) + k
    next n k = omega arith

pub programs : ProgramsHaveCode
programs t words regs codable = record {
  all = as_many_units t words [] t.instances.items regs codable refl;
  each = λ number instance is. unit_at t words [] t.instances.items regs number number instance codable refl (sym (nothing_more number)) is;
}
