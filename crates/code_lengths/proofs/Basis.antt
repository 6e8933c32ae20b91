-- Code that relies on what the unit has where the code comes: what stays as the unit grows, as the fields
-- of its variables do. The pieces of such code are put together as those that rely on nothing.
use Rattle.std.proofs.Common.{◌≡◌, ℕ, ◌+◌, Bool, true, false, Option, is_none, refl, subst, if◌then◌else◌}
use Rattle.cstar_tree.specs.declared.typed.Instance.{Instance}
use Rattle.cstar_tree.specs.declared.typed.Typed.{Typed}
use Rattle.paris_code.specs.declared.operands.Field.{Field}
use Rattle.lower_base.specs.declared.emit.Out.{Out}
use Rattle.lower_base.specs.Drafts.{Draft, Made, Makes, then_make, fresh_for, in_register, in_field}
use Rattle.lower_base.specs.Layouts.{Layout}
use Rattle.lower_expr.specs.Values.{lowest}
use Rattle.code_lengths.specs.Growth.{Extended, GrowsOr, Stands}
use Rattle.code_lengths.specs.Ready.{IsReadyOr}
use Rattle.code_lengths.proofs.Drafting.{IsAt}
use Rattle.code_lengths.proofs.Drafting as D
use Rattle.code_lengths.proofs.Readiness.{ready_behind}

-- what is true of a unit, and of what it grows to; and what is so where there is no code
pub record Basis : Type 1 where
  pub lacks : Type 0
  pub holds : Draft → Type 0
  pub lasts : (d e : Draft) (n : ℕ) → holds d → Extended d n e → holds e

-- where that is true the code is of so many instructions, and its answer passes
pub record GrowsOn {A : Type 0} (on : Basis) (d : Draft) (n : ℕ) (P : A → Type 0) (made : Made A) : Type 0 where
  pub grows : on.holds d → GrowsOr on.lacks d n P made

-- the unit is ready, or lacks fields and this is so
unfoldable pub ready : Type 0 → Typed → Instance → Layout → ℕ → Basis
ready lacks t i l n = record { lacks = lacks; holds = IsReadyOr lacks t i l n; lasts = λ d e k r x. ready_behind lacks t i l n k d e x r }

pub if_ready : {A : Type 0} {lacks : Type 0} {t : Typed} {i : Instance} {l : Layout} {n : ℕ} {d : Draft} {m : ℕ} {P : A → Type 0} {made : Made A} → (IsReadyOr lacks t i l n d → GrowsOr lacks d m P made) → GrowsOn (ready lacks t i l n) d m P made
unfolding ready
if_ready g = record { grows = g }

pub once_ready : {A : Type 0} {lacks : Type 0} {t : Typed} {i : Instance} {l : Layout} {n : ℕ} {d : Draft} {m : ℕ} {P : A → Type 0} {made : Made A} → GrowsOn (ready lacks t i l n) d m P made → IsReadyOr lacks t i l n d → GrowsOr lacks d m P made
unfolding ready
once_ready g r = g.grows r

pub plainly : {A : Type 0} {on : Basis} {d : Draft} {n : ℕ} {P : A → Type 0} {made : Made A} → GrowsOr on.lacks d n P made → GrowsOn on d n P made
plainly g = record { grows = λ h. g }

pub makes : {A : Type 0} {on : Basis} (P : A → Type 0) (x : A) (d e : Draft) (n : ℕ) → P x → Extended d n e → GrowsOn on d n P (Makes x e)
makes P x d e n p g = plainly (D.makes _ P x d e n p g)

pub sized : {A : Type 0} {on : Basis} (P : A → Type 0) (d : Draft) (a b : ℕ) (m : Made A) → a ≡ b → GrowsOn on d a P m → GrowsOn on d b P m
sized P d a b m e g = record { grows = λ h. D.sized _ P d a b m e (g.grows h) }

pub behind : {A : Type 0} {on : Basis} (P : A → Type 0) (d e : Draft) (a b : ℕ) (m : Made A) → Extended d a e → GrowsOn on e b P m → GrowsOn on d (a + b) P m
behind {on} P d e a b m x g = record { grows = λ h. D.behind _ P d e a b m x (g.grows (on.lasts d e a h x)) }

pub bind : {A B : Type 0} {on : Basis} (P : A → Type 0) (Q : B → Type 0) (d : Draft) (a b : ℕ) (m : Made A) (next : A → Draft → Made B) → GrowsOn on d a P m → ((x : A) (e : Draft) → P x → GrowsOn on e b Q (next x e)) → GrowsOn on d (a + b) Q (then_make m next)
bind {on} P Q d a b m next g f = record { grows = λ h. D.bind_behind _ P Q d a b m next (g.grows h) (λ x e p more. (f x e p).grows (on.lasts d e a h more)) }

pub weaker : {A : Type 0} {on : Basis} (P Q : A → Type 0) (d : Draft) (n : ℕ) (m : Made A) → ((x : A) → P x → Q x) → GrowsOn on d n P m → GrowsOn on d n Q m
weaker P Q d n m f g = record { grows = λ h. D.weaker _ P Q d n m f (g.grows h) }

pub in_register_grows : {B : Type 0} {on : Basis} (Q : B → Type 0) (d : Draft) (n : ℕ) (v : Out) (next : ℕ → Made B) → Stands true v → ((r : ℕ) → GrowsOn on d n Q (next r)) → GrowsOn on d n Q (in_register v next)
in_register_grows Q d n v next at f = record { grows = λ h. D.in_register_grows _ Q d n v next at (λ r. (f r).grows h) }

pub in_field_grows : {B : Type 0} {on : Basis} (Q : B → Type 0) (d : Draft) (n : ℕ) (v : Out) (next : Field → Made B) → Stands false v → ((f : Field) → GrowsOn on d n Q (next f)) → GrowsOn on d n Q (in_field v next)
in_field_grows Q d n v next at f = record { grows = λ h. D.in_field_grows _ Q d n v next at (λ r. (f r).grows h) }

pub lowest_grows : {on : Basis} (k : Bool) (bits : ℕ) (d : Draft) (n : ℕ) (made : Made Out) → GrowsOn on d n (Stands k) made → GrowsOn on d n (Stands k) (lowest bits made)
lowest_grows k bits d n made g = record { grows = λ h. D.lowest_grows _ k bits d n made (g.grows h) }

-- where a value stands, said otherwise
pub standing_as : (k b : Bool) (v : Out) → k ≡ b → Stands k v → Stands b v
standing_as k b v e s = subst (λ x. Stands x v) e s

-- a fresh place for a value that is scalar or parallel
pub fresh_as : {on : Basis} (k : Bool) (shape : Option ℕ) (bits : ℕ) (d : Draft) → is_none shape ≡ k → GrowsOn on d 0 (IsAt k bits) (fresh_for shape bits d)
fresh_as {on} k shape bits d h = plainly (subst (λ b. GrowsOr on.lacks d 0 (IsAt b bits) (fresh_for shape bits d)) h (D.fresh_at _ shape bits d))

-- a choice of code, whose side is known
pub either_grows : {A : Type 0} {on : Basis} (P : A → Type 0) (b : Bool) (d : Draft) (x y : ℕ) (m n : Made A) → (b ≡ true → GrowsOn on d x P m) → (b ≡ false → GrowsOn on d y P n) → GrowsOn on d (if b then x else y) P (if b then m else n)
either_grows P true d x y m n f g = f refl
either_grows P false d x y m n f g = g refl
