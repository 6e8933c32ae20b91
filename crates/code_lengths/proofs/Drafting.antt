-- Drafts that grow: by so many instructions, with what was there unchanged.
use Rattle.std.proofs.Common.{◌≡◌, ℕ, ◌+◌, Bool, true, false, List, [], ◌∷◌, ◌++◌, length, Option, Some, None, IsSome, is_none, refl, sym, ap, ◌∙◌, subst, arith, append_assoc, length-append}
use Rattle.paris_code.specs.declared.instr.Instr.{Instr}
use Rattle.paris_code.specs.declared.operands.Field.{Field}
use Rattle.paris_code.specs.declared.program.Owner.{Owner}
use Rattle.paris_code.specs.declared.program.Virtual.{Virtual}
use Rattle.lower_base.specs.declared.emit.Out.{Out}
use Rattle.lower_base.specs.declared.emit.Out.TheVariants as O
use Rattle.lower_base.specs.Drafts.{Draft, Step, Made, Makes, Fails, then_make, from, step, with_step, with_instr, a_register, an_entry, a_field, fresh_for, shortened, in_register, in_field}
use Rattle.lower_expr.specs.Values.{lowest}
use Rattle.code_lengths.specs.Growth.{Extended, GrowsOr, Stands, Anything}

pub append_nothing : {A : Type 0} (xs : List A) → xs ≡ xs ++ []
append_nothing [] = refl
append_nothing (x ∷ xs) = ap (λ ys. x ∷ ys) (append_nothing xs)

pub nothing_more : (n : ℕ) → 0 + n ≡ n
nothing_more n = omega arith

pub as_it_was : (d : Draft) → Extended d 0 d
as_it_was d = record { name = refl; more = []; code = append_nothing d.code; long = refl; entries = []; fields = append_nothing d.fields; regs = omega arith; homes = refl }

pub extended : (d e f : Draft) (a b : ℕ) → Extended d a e → Extended e b f → Extended d (a + b) f
extended d e f a b x y = record {
  name = y.name ∙ x.name;
  more = x.more ++ y.more;
  code = y.code ∙ ap (λ (c : List Step). c ++ y.more) x.code ∙ append_assoc d.code x.more y.more;
  long = length-append x.more y.more ∙ ap (λ (k : ℕ). k + length y.more) x.long ∙ ap (λ (k : ℕ). a + k) y.long;
  entries = x.entries ++ y.entries;
  fields = y.fields ∙ ap (λ (c : List Virtual). c ++ y.entries) x.fields ∙ append_assoc d.fields x.entries y.entries;
  regs = let r1 = x.regs in let r2 = y.regs in omega (arith, r1, r2);
  homes = y.homes ∙ x.homes;
}

pub resized : (d e : Draft) (a b : ℕ) → a ≡ b → Extended d a e → Extended d b e
resized d e a b h x = subst (λ k. Extended d k e) h x

pub and_step : (s : Step) (d e : Draft) (n : ℕ) → Extended d n e → Extended d (n + 1) (with_step s e)
unfolding with_step
and_step s d e n x = extended d e (with_step s e) n 1 x (record {
  name = refl;
  more = s ∷ [];
  code = refl;
  long = refl;
  entries = [];
  fields = append_nothing e.fields;
  regs = omega arith;
  homes = refl;
})

pub and_instr : (i : Instr) (d e : Draft) (n : ℕ) → Extended d n e → Extended d (n + 1) (with_instr i e)
unfolding with_instr
and_instr i d e n x = and_step (step i) d e n x

pub makes : (lacks : Type 0) {A : Type 0} (P : A → Type 0) (x : A) (d e : Draft) (n : ℕ) → P x → Extended d n e → GrowsOr lacks d n P (Makes x e)
unfolding GrowsOr
makes lacks P x d e n p g = (p, g)

pub sized : (lacks : Type 0) {A : Type 0} (P : A → Type 0) (d : Draft) (a b : ℕ) (m : Made A) → a ≡ b → GrowsOr lacks d a P m → GrowsOr lacks d b P m
sized lacks P d a b m h g = subst (λ k. GrowsOr lacks d k P m) h g

pub behind : (lacks : Type 0) {A : Type 0} (P : A → Type 0) (d e : Draft) (a b : ℕ) (m : Made A) → Extended d a e → GrowsOr lacks e b P m → GrowsOr lacks d (a + b) P m
unfolding GrowsOr
behind lacks P d e a b (Makes x f) x1 g = (g.0, extended d e f a b x1 g.1)
behind lacks P d e a b Fails x1 g = g

pub bind : (lacks : Type 0) {A B : Type 0} (P : A → Type 0) (Q : B → Type 0) (d : Draft) (a b : ℕ) (m : Made A) (next : A → Draft → Made B) → GrowsOr lacks d a P m → ((x : A) (e : Draft) → P x → GrowsOr lacks e b Q (next x e)) → GrowsOr lacks d (a + b) Q (then_make m next)
unfolding GrowsOr then_make
bind lacks P Q d a b (Makes x e) next g f = behind lacks Q d e a b (next x e) g.1 (f x e g.0)
bind lacks P Q d a b Fails next g f = g

pub weaker : (lacks : Type 0) {A : Type 0} (P Q : A → Type 0) (d : Draft) (n : ℕ) (m : Made A) → ((x : A) → P x → Q x) → GrowsOr lacks d n P m → GrowsOr lacks d n Q m
unfolding GrowsOr
weaker lacks P Q d n (Makes x e) f g = (f x g.0, g.1)
weaker lacks P Q d n Fails f g = g

-- the same, where the rest may rely on the draft being longer
pub bind_behind : (lacks : Type 0) {A B : Type 0} (P : A → Type 0) (Q : B → Type 0) (d : Draft) (a b : ℕ) (m : Made A) (next : A → Draft → Made B) → GrowsOr lacks d a P m → ((x : A) (e : Draft) → P x → Extended d a e → GrowsOr lacks e b Q (next x e)) → GrowsOr lacks d (a + b) Q (then_make m next)
unfolding GrowsOr then_make
bind_behind lacks P Q d a b (Makes x e) next g f = behind lacks Q d e a b (next x e) g.1 (f x e g.0 g.1)
bind_behind lacks P Q d a b Fails next g f = g

-- what stands in a register, and in a field, and what is there
pub in_register_grows : (lacks : Type 0) {B : Type 0} (Q : B → Type 0) (d : Draft) (n : ℕ) (v : Out) (next : ℕ → Made B) → Stands true v → ((r : ℕ) → GrowsOr lacks d n Q (next r)) → GrowsOr lacks d n Q (in_register v next)
unfolding GrowsOr in_register
in_register_grows lacks Q d n (O.Scalar r) next s f = f r
in_register_grows lacks Q d n (O.Field g) next s f = cc
in_register_grows lacks Q d n O.Nothing next s f = absurd s

pub in_field_grows : (lacks : Type 0) {B : Type 0} (Q : B → Type 0) (d : Draft) (n : ℕ) (v : Out) (next : Field → Made B) → Stands false v → ((f : Field) → GrowsOr lacks d n Q (next f)) → GrowsOr lacks d n Q (in_field v next)
unfolding GrowsOr in_field
in_field_grows lacks Q d n (O.Scalar r) next s f = cc
in_field_grows lacks Q d n (O.Field g) next s f = f g
in_field_grows lacks Q d n O.Nothing next s f = absurd s

pub from_grows : (lacks : Type 0) {A B : Type 0} (Q : B → Type 0) (d : Draft) (n : ℕ) (o : Option A) (next : A → Made B) → IsSome o → ((x : A) → o ≡ Some x → GrowsOr lacks d n Q (next x)) → GrowsOr lacks d n Q (from o next)
unfolding GrowsOr from
from_grows lacks Q d n (Some x) next there f = f x refl
from_grows lacks Q d n None next there f = cc

pub found_grows : (lacks : Type 0) {A B : Type 0} (Q : B → Type 0) (d : Draft) (n : ℕ) (o : Option A) (x : A) (next : A → Made B) → o ≡ Some x → GrowsOr lacks d n Q (next x) → GrowsOr lacks d n Q (from o next)
unfolding from
found_grows lacks Q d n o x next e g = subst (λ y. GrowsOr lacks d n Q (from y next)) (sym e) g

pub register_grows : (lacks : Type 0) (d : Draft) → GrowsOr lacks d 0 Anything (a_register d)
unfolding GrowsOr a_register
register_grows lacks d = (tt, record { name = refl; more = []; code = append_nothing d.code; long = refl; entries = []; fields = append_nothing d.fields; regs = omega arith; homes = refl })

pub entry_grows : (lacks : Type 0) (set len : ℕ) (owner : Owner) (d : Draft) → GrowsOr lacks d 0 Anything (an_entry set len owner d)
unfolding GrowsOr an_entry
entry_grows lacks set len owner d = (tt, record { name = refl; more = []; code = append_nothing d.code; long = refl; entries = record { set = set; len = len; owner = owner } ∷ []; fields = refl; regs = omega arith; homes = refl })

-- a fresh field has as many bits as were asked for
pub field_grows : (lacks : Type 0) (set bits : ℕ) (d : Draft) → GrowsOr lacks d 0 (λ (f : Field). f.len ≡ bits) (a_field set bits d)
unfolding GrowsOr an_entry
field_grows lacks set bits d = (refl, record { name = refl; more = []; code = append_nothing d.code; long = refl; entries = _; fields = refl; regs = omega arith; homes = refl })

-- a value that stands in a register, or in a field of so many bits
abbrev pub IsAt : Bool → ℕ → Out → Type 0
IsAt kept bits (O.Scalar r) = kept ≡ true
IsAt kept bits (O.Field f) = (kept ≡ false) × (f.len ≡ bits)
IsAt kept bits O.Nothing = ⊥

pub at_stands : (k : Bool) (bits : ℕ) (v : Out) → IsAt k bits v → Stands k v
at_stands k bits (O.Scalar r) h = h
at_stands k bits (O.Field f) h = h.0
at_stands k bits O.Nothing h = absurd h

pub in_field_at : (lacks : Type 0) {B : Type 0} (Q : B → Type 0) (d : Draft) (n : ℕ) (bits : ℕ) (v : Out) (next : Field → Made B) → IsAt false bits v → ((f : Field) → f.len ≡ bits → GrowsOr lacks d n Q (next f)) → GrowsOr lacks d n Q (in_field v next)
unfolding GrowsOr in_field
in_field_at lacks Q d n bits (O.Scalar r) next s f = cc
in_field_at lacks Q d n bits (O.Field g) next s f = f g s.1
in_field_at lacks Q d n bits O.Nothing next s f = absurd s

pub fresh_at : (lacks : Type 0) (shape : Option ℕ) (bits : ℕ) (d : Draft) → GrowsOr lacks d 0 (IsAt (is_none shape) bits) (fresh_for shape bits d)
unfolding fresh_for
fresh_at lacks None bits d = bind lacks Anything _ d 0 0 _ _ (register_grows lacks d) (λ r e _. makes lacks _ (O.Scalar r) e e 0 refl (as_it_was e))
fresh_at lacks (Some s) bits d = bind lacks (λ (f : Field). f.len ≡ bits) _ d 0 0 _ _ (field_grows lacks s bits d) (λ f e h. makes lacks _ (O.Field f) e e 0 (refl, h) (as_it_was e))

pub fresh_grows : (lacks : Type 0) (shape : Option ℕ) (bits : ℕ) (d : Draft) → GrowsOr lacks d 0 (Stands (is_none shape)) (fresh_for shape bits d)
fresh_grows lacks shape bits d = weaker lacks (IsAt (is_none shape) bits) _ d 0 _ (λ v s. at_stands (is_none shape) bits v s) (fresh_at lacks shape bits d)

-- the lowest bits of a value stand where it does
lowest_stand : (k : Bool) (bits : ℕ) (v : Out) → Stands k v → Stands k (shortened bits v)
unfolding shortened
lowest_stand k bits (O.Scalar r) h = h
lowest_stand k bits (O.Field f) h = h
lowest_stand k bits O.Nothing h = absurd h

pub lowest_grows : (lacks : Type 0) (k : Bool) (bits : ℕ) (d : Draft) (n : ℕ) (made : Made Out) → GrowsOr lacks d n (Stands k) made → GrowsOr lacks d n (Stands k) (lowest bits made)
unfolding GrowsOr lowest then_make
lowest_grows lacks k bits d n (Makes v e) g = (lowest_stand k bits v g.0, g.1)
lowest_grows lacks k bits d n Fails g = g
