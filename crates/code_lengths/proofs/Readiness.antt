-- In a unit that is ready for a tree the fields of its variables are there, and stay so as it grows.
use Rattle.std.proofs.Common.{◌≡◌, ℕ, zero, suc, ◌+◌, ◌<◌, ◌≤◌, false, List, [], ◌∷◌, ◌++◌, slice_get, Option, Some, None, is_none, refl, sym, ap, ◌∙◌, subst, arith}
use Rattle.cstar_tree.specs.declared.typed.Instance.{Instance}
use Rattle.cstar_tree.specs.declared.typed.TExpr.{TExpr}
use Rattle.cstar_tree.specs.declared.typed.Typed.{Typed}
use Rattle.cstar_tree.specs.declared.typed.ValueType.{ValueType}
use Rattle.cstar_tree.specs.declared.typed.Variable.{Variable}
use Rattle.cstar_tree.specs.declared.typed.Variable.TheVariants as V
use Rattle.cstar_tree.specs.Scopes.{VariableType}
use Rattle.cstar_tree.specs.StatementTypes.{variable_info}
use Rattle.paris_code.specs.declared.program.Virtual.{Virtual}
use Rattle.lower_base.specs.declared.emit.Out.{Out}
use Rattle.lower_base.specs.declared.emit.Out.TheVariants as O
use Rattle.lower_base.specs.Drafts.{Draft, Fails, Made, Makes, from, an_entry}
use Rattle.lower_base.specs.Layouts.{Layout, elements_of, entries_of, field_of, own_field}
use Rattle.lower_expr.specs.Steps.{is_kept}
use Rattle.code_lengths.specs.Growth.{Extended, GrowsOr, Stands, Anything}
use Rattle.code_lengths.specs.Lowerable.{GivesValue}
use Rattle.code_lengths.specs.Naming.{HasVariable, IsDeclared, plain}
use Rattle.code_lengths.specs.Ready.{Arrives, IsMadeOr, IsReadyOr}
use Rattle.code_lengths.specs.Shaped.{HasShape}
use Rattle.code_lengths.proofs.Drafting.{append_nothing, as_it_was, makes, entry_grows}

made_now : {A : Type 0} (lacks : Type 0) (x : A) (d : Draft) → IsMadeOr lacks (Makes x d)
unfolding IsMadeOr
made_now lacks x d = tt

pub or_lacks : {A : Type 0} (lacks : Type 0) (made : Made A) → lacks → IsMadeOr lacks made
unfolding IsMadeOr
or_lacks lacks (Makes x d) h = tt
or_lacks lacks Fails h = h

pub made_from : {A B : Type 0} (lacks : Type 0) (o : Option A) (next : A → Made B) (x : A) → o ≡ Some x → IsMadeOr lacks (next x) → IsMadeOr lacks (from o next)
unfolding from
made_from lacks o next x e m = subst (λ y. IsMadeOr lacks (from y next)) (sym e) m

-- what is made of what is looked up still is where as much is there
still_from : {A B : Type 0} (lacks : Type 0) (o p : Option A) (next later : A → Made B) → ((x : A) → o ≡ Some x → p ≡ Some x) → ((x : A) → IsMadeOr lacks (next x) → IsMadeOr lacks (later x)) → IsMadeOr lacks (from o next) → IsMadeOr lacks (from p later)
unfolding IsMadeOr from
still_from lacks (Some x) p next later same f m = made_from lacks p later x (same x refl) (f x m)
still_from lacks None p next later same f m = or_lacks lacks (from p later) m

-- and it grows as each does
from_or : {A B : Type 0} (lacks : Type 0) (Q : B → Type 0) (d : Draft) (n : ℕ) (o : Option A) (next : A → Made B) → ((x : A) → IsMadeOr lacks (next x) → GrowsOr lacks d n Q (next x)) → IsMadeOr lacks (from o next) → GrowsOr lacks d n Q (from o next)
unfolding IsMadeOr GrowsOr from
from_or lacks Q d n (Some x) next f m = f x m
from_or lacks Q d n None next f m = m

-- what stands in a list still does where the list is longer
there_still : {A : Type 0} (xs ys : List A) (k : ℕ) (x : A) → slice_get xs k ≡ Some x → slice_get (xs ++ ys) k ≡ Some x
there_still [] ys k x e = cc
there_still (y ∷ xs) ys zero x e = e
there_still (y ∷ xs) ys (suc k) x e = there_still xs ys k x e

-- the second draft has the fields and the homes of the first, and maybe more
abbrev pub Keeps : Draft → Draft → Type 0
Keeps d e = (entries : List Virtual) × (later : List ℕ) × (e.fields ≡ d.fields ++ entries) × (e.homes ≡ d.homes ++ later)

own_field_still : (lacks : Type 0) (index : ℕ) (d e : Draft) → Keeps d e → IsMadeOr lacks (own_field index d) → IsMadeOr lacks (own_field index e)
unfolding own_field
own_field_still lacks index d e k m =
    still_from lacks (slice_get d.fields index) (slice_get e.fields index) _ _ (λ entry is. ap (λ (xs : List Virtual). slice_get xs index) k.2 ∙ there_still d.fields k.0 index entry is) (λ entry h. made_now lacks _ e) m

field_still : (lacks : Type 0) (t : Typed) (l : Layout) (v : Variable) (element : ℕ) (d e : Draft) → Keeps d e → IsMadeOr lacks (field_of t l v element d) → IsMadeOr lacks (field_of t l v element e)
unfolding field_of an_entry
field_still lacks t l (V.File k) element d e s m =
    still_from lacks (slice_get t.vars.items k) (slice_get t.vars.items k) _ _ (λ info is. is)
    (λ info there. still_from lacks (slice_get l.files k) (slice_get l.files k) _ _ (λ first is. is) (λ first at. still_from lacks info.shape info.shape _ _ (λ set is. is) (λ set h. made_now lacks _ _) at) there) m
field_still lacks t l (V.Param k) element d e s m = still_from lacks (slice_get l.params k) (slice_get l.params k) _ _ (λ index is. is) (λ index there. own_field_still lacks index d e s there) m
field_still lacks t l (V.Local k) element d e s m =
    still_from lacks (slice_get l.locals k) (slice_get l.locals k) _ _ (λ name is. is)
    (λ name there. still_from lacks (slice_get d.homes name.home) (slice_get e.homes name.home) _ _ (λ home is. ap (λ (xs : List ℕ). slice_get xs name.home) s.3 ∙ there_still d.homes s.1 name.home home is)
    (λ home at. own_field_still lacks (home + element) d e s at) there) m

-- a unit that is ready stays so as it grows, and is ready where fewer variables are declared
pub ready_still : (lacks : Type 0) (t : Typed) (i : Instance) (l : Layout) (n : ℕ) (d e : Draft) → Keeps d e → IsReadyOr lacks t i l n d → IsReadyOr lacks t i l n e
ready_still lacks t i l n d e s r = record {
  elements = r.elements;
  fields = λ v info element named declared shape below. field_still lacks t l v element d e s (r.fields v info element named declared shape below);
  result = λ info h shape. own_field_still lacks l.outcome d e s (r.result info h shape);
  bases = r.bases;
}

pub ready_behind : (lacks : Type 0) (t : Typed) (i : Instance) (l : Layout) (n k : ℕ) (d e : Draft) → Extended d k e → IsReadyOr lacks t i l n d → IsReadyOr lacks t i l n e
ready_behind lacks t i l n k d e x r = ready_still lacks t i l n d e (x.entries, [], x.fields, x.homes ∙ append_nothing d.homes) r

declared_before : (m n : ℕ) (v : Variable) → m ≤ n → IsDeclared m v → IsDeclared n v
unfolding IsDeclared
declared_before m n (V.File k) h s = tt
declared_before m n (V.Param k) h s = tt
declared_before m n (V.Local k) h s = omega (arith, h, s)

pub ready_before : (lacks : Type 0) (t : Typed) (i : Instance) (l : Layout) (m n : ℕ) (d : Draft) → m ≤ n → IsReadyOr lacks t i l n d → IsReadyOr lacks t i l m d
ready_before lacks t i l m n d h r = record {
  elements = λ v info named declared. r.elements v info named (declared_before m n v h declared);
  fields = λ v info element named declared. r.fields v info element named (declared_before m n v h declared);
  result = r.result;
  bases = r.bases;
}

-- fields that are there have no code
pub own_field_grows : (lacks : Type 0) (index : ℕ) (d : Draft) → IsMadeOr lacks (own_field index d) → GrowsOr lacks d 0 Anything (own_field index d)
unfolding own_field
own_field_grows lacks index d m = from_or lacks Anything d 0 (slice_get d.fields index) _ (λ entry there. makes lacks Anything _ d d 0 tt (as_it_was d)) m

pub made_field_grows : (lacks : Type 0) (t : Typed) (l : Layout) (v : Variable) (element : ℕ) (d : Draft) → IsMadeOr lacks (field_of t l v element d) → GrowsOr lacks d 0 Anything (field_of t l v element d)
unfolding field_of
made_field_grows lacks t l (V.File k) element d m =
    from_or lacks Anything d 0 (slice_get t.vars.items k) _ (λ info there. from_or lacks Anything d 0 (slice_get l.files k) _ (λ first at. from_or lacks Anything d 0 info.shape _ (λ set h. entry_grows lacks _ _ _ d) at) there) m
made_field_grows lacks t l (V.Param k) element d m = from_or lacks Anything d 0 (slice_get l.params k) _ (λ index there. own_field_grows lacks index d there) m
made_field_grows lacks t l (V.Local k) element d m =
    from_or lacks Anything d 0 (slice_get l.locals k) _ (λ name there. from_or lacks Anything d 0 (slice_get d.homes name.home) _ (λ home at. own_field_grows lacks (home + element) d at) there) m

-- the field of an element of a parallel variable that is there
pub field_of_grows : (lacks : Type 0) (t : Typed) (i : Instance) (l : Layout) (n : ℕ) (v : Variable) (ty : VariableType) (element : ℕ) (d : Draft) → IsReadyOr lacks t i l n d → HasVariable t i n v ty → HasShape ty.value →
    element < elements_of t l v → GrowsOr lacks d 0 Anything (field_of t l v element d)
field_of_grows lacks t i l n v ty element d r x h below =
    let same = r.elements v (variable_info x.word ty x.start) x.named x.declared h in
    made_field_grows lacks t l v element d (r.fields v (variable_info x.word ty x.start) element x.named x.declared h (subst (λ (m : ℕ). element < m) same below))

pub one_entry : (shape : Option ℕ) → is_none shape ≡ false → (elim shape as (λ _. ℕ) [ None ↦ 0 | Some s ↦ 1 ]) ≡ 1
one_entry None h = cc
one_entry (Some s) h = refl

-- that of a variable that is no array
pub variable_field_grows : (lacks : Type 0) (t : Typed) (i : Instance) (l : Layout) (n : ℕ) (v : Variable) (ty : ValueType) (d : Draft) → IsReadyOr lacks t i l n d → HasVariable t i n v (plain ty) → HasShape ty → GrowsOr lacks d 0 Anything (field_of t l v 0 d)
unfolding entries_of
variable_field_grows lacks t i l n v ty d r x h =
    let one : elements_of t l v ≡ 1 = r.elements v (variable_info x.word (plain ty) x.start) x.named x.declared h ∙ one_entry ty.shape h in
    field_of_grows lacks t i l n v (plain ty) 0 d r x h (omega (arith, one))

-- a value arrives where its expression says, and is somewhere if there is one
pub arrives : (t : Typed) (e : TExpr) (v : Out) → Stands (is_kept e) v → Arrives t e v
unfolding Arrives
arrives t e (O.Scalar r) s = s
arrives t e (O.Field f) s = s
arrives t e O.Nothing s = absurd s

pub arrived : (t : Typed) (e : TExpr) (v : Out) → GivesValue t e → Arrives t e v → Stands (is_kept e) v
unfolding Arrives
arrived t e (O.Scalar r) g a = a
arrived t e (O.Field f) g a = a
arrived t e O.Nothing g a = absurd (a g)
