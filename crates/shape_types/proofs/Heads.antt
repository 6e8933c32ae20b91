-- The head of an instance: its parameters, and the names behind them.
use Rattle.std.proofs.Common.{◌≡◌, ◌≤◌, ◌<◌, ◌+◌, ◌-◌, ℕ, zero, suc, add-one, append_assoc, drop, drop-cons, get_or, length, take, slice_get, Bool, true, false, List, [], ◌∷◌, ◌++◌, Option, Some, None, is_some, is_none, if◌then◌else◌, arith, refl, sym, ap, subst, ◌∙◌}
use Rattle.std.proofs.Math.Seq.{take-length}
use Rattle.std.proofs.lemmas.List.{append-nil, drop_all}
use Rattle.std.specs.Option.{option_flatten}
use Rattle.cstar_tree.specs.declared.syntax.Parameter.{Parameter}
use Rattle.cstar_tree.specs.declared.typed.ValueType.{ValueType}
use Rattle.cstar_tree.specs.declared.typed.VarInfo.{VarInfo}
use Rattle.cstar_tree.specs.declared.typed.Variable.TheVariants as V
use Rattle.cstar_tree.specs.Headers.{behind_parameter, behind_parameters, parameter_types, plain_type}
use Rattle.cstar_tree.specs.ProgramTypes.{TypesParameters, plain_info}
use Rattle.cstar_tree.specs.ProgramTypes as P
use Rattle.cstar_tree.specs.Scopes.{Binding, Here, Meaning, Names, a_variable, declared, find, written_type}
use Rattle.type_scopes.specs.Bindings.{named, type_meant, within}
use Rattle.type_scopes.specs.declared.names.VariableType as Kept

-- ---- names

pub declared_inner : (names : Names) (word : List ℕ) (m : Meaning) → (declared names word m).inner ≡ (if is_some (find names.inner word) then names.inner else record { word = word; meaning = m } ∷ names.inner)
declared_inner names word m = step (is_some (find names.inner word))
  where
    step : (b : Bool) → (if b then names else record { inner = record { word = word; meaning = m } ∷ names.inner; outer = names.outer }).inner ≡ (if b then names.inner else record { word = word; meaning = m } ∷ names.inner)
    step true = refl
    step false = refl

pub declared_outer : (names : Names) (word : List ℕ) (m : Meaning) → (declared names word m).outer ≡ names.outer
declared_outer names word m = step (is_some (find names.inner word))
  where
    step : (b : Bool) → (if b then names else record { inner = record { word = word; meaning = m } ∷ names.inner; outer = names.outer }).outer ≡ names.outer
    step true = refl
    step false = refl

pub all_within : (names : List Binding) → within 0 names ≡ names
all_within names = let all : length names - 0 ≡ length names = omega arith in ap (λ (n : ℕ). take n names) all ∙ take-length names

-- a name that a scope has is not declared again
same_declared : (m : Option Meaning) (old : List Binding) (b : Binding) → (if is_some m then old else b ∷ old) ≡ (if is_none m then b ∷ old else old)
same_declared None old b = refl
same_declared (Some m) old b = refl

-- ---- parameters

-- The parameters before this one are declared and typed, and those from it on are left.
pub record AreParametersTo (start : Here) (types : List (Option ValueType)) (ps : List Parameter) (i : ℕ) (names : List Binding) (complete : Bool) (infos : List VarInfo) : Type 0 where
  pub here : Here
  pub inner : here.names.inner ≡ names
  pub types_left : drop i types ≡ parameter_types here i (drop i ps)
  pub place : behind_parameters here i (drop i ps) ≡ behind_parameters start 0 ps
  pub once : complete ≡ true → length names + length (drop i ps) ≡ length start.names.inner + length ps
  pub typed : complete ≡ true → (rest : List VarInfo) → TypesParameters here i (drop i ps) rest → TypesParameters start 0 ps (infos ++ rest)

pub no_parameters : (start : Here) (types : List (Option ValueType)) (ps : List Parameter) (names : List Binding) (complete : Bool) → types ≡ parameter_types start 0 ps → start.names.inner ≡ names → AreParametersTo start types ps 0 names complete []
no_parameters start types ps names complete all is = record { here = start; inner = is; types_left = all; place = refl; once = λ whole. let many = ap length is in omega (arith, many); typed = λ whole rest h. h }

-- the type of one more parameter, and whether all are typed with it
abbrev pub IsMore : Option ValueType → List ℕ → Bool → List VarInfo → Bool → List VarInfo → Type 0
IsMore None word complete infos after more = after ≡ false
IsMore (Some ty) word complete infos after more = (after ≡ complete) × (more ≡ infos ++ plain_info word ty ∷ [])

head_of : {A : Type 0} (xs : List A) (i : ℕ) (x : A) (rest : List A) → drop i xs ≡ x ∷ rest → (slice_get xs i ≡ Some x) × (drop (suc i) xs ≡ rest)
head_of [] zero x rest is = absurd (cc)
head_of [] (suc i) x rest is = absurd (cc)
head_of (y ∷ ys) zero x rest is = (let e : Some y ≡ Some x = cc in e, let e : ys ≡ rest = cc in e)
head_of (y ∷ ys) (suc i) x rest is = head_of ys i x rest is

pub parameter_more : (start : Here) (types : List (Option ValueType)) (ps : List Parameter) (i : ℕ) (old new : List Binding) (complete now after : Bool) (infos more : List VarInfo) (p : Parameter) (ty : Option ValueType) (kept : Option Kept.VariableType) (is_new : Bool)
    → i < length ps → p ≡ get_or ps i p → ty ≡ option_flatten (slice_get types i) → type_meant kept ≡ plain_type ty
    → new ≡ (if is_new then named p.name.word (V.Param i) kept ∷ old else old) → is_new ≡ is_none (find (within 0 old) p.name.word)
    → (now ≡ true → (is_new ≡ true) × (complete ≡ true)) → IsMore ty p.name.word now infos after more → AreParametersTo start types ps i old complete infos → AreParametersTo start types ps (i + 1) new after more
unfolding parameter_types behind_parameters
parameter_more start types ps i old new complete now after infos more p ty kept is_new inside is typed meant names fresh both grows so_far = record {
  here = behind_parameter so_far.here i p;
  inner =
      declared_inner so_far.here.names p.name.word (a_variable (V.Param i) (plain_type written))
      ∙ (ap (λ (o : Option ValueType). if is_some (find so_far.here.names.inner p.name.word) then so_far.here.names.inner else record { word = p.name.word; meaning = a_variable (V.Param i) (plain_type o) } ∷ so_far.here.names.inner) (sym type_is)
      ∙ (ap (λ (bs : List Binding). if is_some (find bs p.name.word) then bs else record { word = p.name.word; meaning = a_variable (V.Param i) (plain_type ty) } ∷ bs) so_far.inner
      ∙ (same_declared (find old p.name.word) old (record { word = p.name.word; meaning = a_variable (V.Param i) (plain_type ty) })
      ∙ sym (names ∙ (ap (λ (b : Bool). if b then named p.name.word (V.Param i) kept ∷ old else old) (fresh ∙ ap (λ (bs : List Binding). is_none (find bs p.name.word)) (all_within old))
      ∙ ap (λ t. if is_none (find old p.name.word) then record { word = p.name.word; meaning = a_variable (V.Param i) t } ∷ old else old) meant)))));
  types_left = rw add-one (rw add-one at heads.1);
  place = ap (λ (qs : List Parameter). behind_parameters so_far.here i qs) (sym rest) ∙ so_far.place;
  once = λ whole.
      let parts = whole_before ty grows whole in
      let before = so_far.once parts.1 in
      let own : length new ≡ suc (length old) = ap length (names ∙ ap (λ (b : Bool). if b then named p.name.word (V.Param i) kept ∷ old else old) parts.0) in
      let left = ap length rest in
      omega (arith, before, own, left);
  typed = λ whole later h. more_typed ty refl grows whole later h;
}
  where
    written : Option ValueType
    written = written_type so_far.here p.type_name

    rest : drop i ps ≡ p ∷ drop (i + 1) ps
    rest = rw add-one (drop-cons ps i p inside ∙ ap (λ (q : Parameter). q ∷ drop (suc i) ps) (sym is))

    heads : (slice_get types i ≡ Some written) × (drop (suc i) types ≡ parameter_types (behind_parameter so_far.here i p) (i + 1) (drop (i + 1) ps))
    heads = head_of types i written (parameter_types (behind_parameter so_far.here i p) (i + 1) (drop (i + 1) ps)) (so_far.types_left ∙ ap (λ (qs : List Parameter). parameter_types so_far.here i qs) rest)

    type_is : ty ≡ written
    type_is = typed ∙ ap option_flatten heads.0

    whole_before : (t : Option ValueType) → IsMore t p.name.word now infos after more → after ≡ true → (is_new ≡ true) × (complete ≡ true)
    whole_before None g whole = absurd (cc)
    whole_before (Some t) g whole = both (sym g.0 ∙ whole)

    more_typed : (t : Option ValueType) → ty ≡ t → IsMore t p.name.word now infos after more → after ≡ true → (later : List VarInfo) → TypesParameters (behind_parameter so_far.here i p) (i + 1) (drop (i + 1) ps) later → TypesParameters start 0 ps (more ++ later)
    more_typed None e g whole later h = absurd (cc)
    more_typed (Some t) e g whole later h =
        let all = so_far.typed (both (sym g.0 ∙ whole)).1 (plain_info p.name.word t ∷ later) (subst (λ (qs : List Parameter). TypesParameters so_far.here i qs (plain_info p.name.word t ∷ later)) (sym rest) (P.next_parameter (sym type_is ∙ e) h)) in
        subst (TypesParameters start 0 ps) (sym (ap (λ (l : List VarInfo). l ++ later) g.1 ∙ append_assoc infos (plain_info p.name.word t ∷ []) later)) all

pub all_parameters : (start : Here) (types : List (Option ValueType)) (ps : List Parameter) (i : ℕ) (names : List Binding) (complete : Bool) (infos : List VarInfo) → length ps ≤ i → AreParametersTo start types ps i names complete infos
    → ((behind_parameters start 0 ps).names.inner ≡ names) × ((complete ≡ true → TypesParameters start 0 ps infos) × (complete ≡ true → length names ≡ length start.names.inner + length ps))
unfolding behind_parameters
all_parameters start types ps i names complete infos past all =
    let none : drop i ps ≡ [] = drop_all i ps past in (
      ap (λ (h : Here). h.names.inner) (sym all.place ∙ ap (λ (qs : List Parameter). behind_parameters all.here i qs) none) ∙ all.inner,
      (
        λ whole. subst (TypesParameters start 0 ps) (append-nil infos) (all.typed whole [] (subst (λ (qs : List Parameter). TypesParameters all.here i qs []) (sym none) P.no_parameter)),
        λ whole. let left = ap length none in let once = all.once whole in omega (arith, left, once),
      ),
    )
