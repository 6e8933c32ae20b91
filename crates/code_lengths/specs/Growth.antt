-- How a unit grows by a piece of code: there is such code, what stood is as it was, and so many
-- instructions stand behind it.
use Rattle.std.specs.Prelude.{◌≡◌, ◌≤◌, ℕ, Bool, true, false, List, ◌++◌, length}
use Rattle.paris_code.specs.declared.program.Virtual.{Virtual}
use Rattle.lower_base.specs.declared.emit.Out.{Out}
use Rattle.lower_base.specs.declared.emit.Out.TheVariants as O
use Rattle.lower_base.specs.Drafts.{Draft, Step, Made, Makes, Fails}

-- The second draft is the first with so many instructions more: it has the same name and the same homes,
-- the code and the entries begin with those that stood, and no register is given back.
pub record Extended (d : Draft) (n : ℕ) (e : Draft) : Type 0 where
  pub name : e.name ≡ d.name
  pub more : List Step
  pub code : e.code ≡ d.code ++ more
  pub long : length more ≡ n
  pub entries : List Virtual
  pub fields : e.fields ≡ d.fields ++ entries
  pub regs : d.regs ≤ e.regs
  pub homes : e.homes ≡ d.homes

-- The same behind a statement, whose blocks may have declared variables: there are homes more.
abbrev pub with_homes : List ℕ → Draft → Draft
with_homes later d = record d { homes = d.homes ++ later }

abbrev pub Advanced : Draft → ℕ → Draft → Type 0
Advanced d n e = (later : List ℕ) × Extended (with_homes later d) n e

-- the code behind this draft is of so many instructions, and its answer passes; where there is none this is so
unfoldable pub GrowsOr : {A : Type 0} → Type 0 → Draft → ℕ → (A → Type 0) → Made A → Type 0
GrowsOr lacks d n P (Makes x e) = P x × Extended d n e
GrowsOr lacks d n P Fails = lacks

-- there is such code
abbrev pub Grows : {A : Type 0} → Draft → ℕ → (A → Type 0) → Made A → Type 0
Grows d n P made = GrowsOr ⊥ d n P made

-- the same of a statement: what passes is said of its answer and of the draft behind it
unfoldable pub Leads : {A : Type 0} → Draft → ℕ → (A → Draft → Type 0) → Made A → Type 0
Leads d n P (Makes x e) = P x e × Advanced d n e
Leads d n P Fails = ⊥

-- a value stands in a register, or in a field
abbrev pub Stands : Bool → Out → Type 0
Stands kept (O.Scalar r) = kept ≡ true
Stands kept (O.Field f) = kept ≡ false
Stands kept O.Nothing = ⊥

-- an answer of which nothing is said
abbrev pub Anything : {A : Type 0} → A → Type 0
Anything x = Unit {0}
