-- The names that a file declares, as typing numbers them: in text order, those of each kind by
-- themselves.
use Rattle.std.specs.Prelude.{◌≡◌, ℕ, ◌+◌, ◌-◌, ◌^◌, ◌<◌, ◌≤◌, List, [], ◌∷◌, ◌++◌, drop, length, map, reverse, slice_get, is_some, Option, Some, None, if◌then◌else◌}
use Rattle.std.specs.Option.{option_map}
use Rattle.cstar_tree.specs.declared.syntax.Function.{Function}
use Rattle.cstar_tree.specs.declared.syntax.Item.TheVariants as I
use Rattle.cstar_tree.specs.declared.syntax.Tree.{Tree}
use Rattle.cstar_tree.specs.declared.typed.Variable.{Variable}
use Rattle.cstar_tree.specs.declared.typed.Variable.TheVariants as V
use Rattle.cstar_tree.specs.FileFaults.{IsNoMain}
use Rattle.cstar_tree.specs.FileScopes.{Known, file_known, functions_named}
use Rattle.cstar_tree.specs.Headers.{Placed}
use Rattle.cstar_tree.specs.Scopes.{Binding, Meaning, a_function, a_shape, a_variable, find}
use Rattle.type_scopes.specs.declared.file.FunctionInfo.{FunctionInfo}
use Rattle.type_scopes.specs.declared.names.FileName.{FileName}
use Rattle.type_scopes.specs.declared.names.FileName.TheVariants as N
use Rattle.type_scopes.specs.FileBindings.{file_names}
use Rattle.file_names.specs.declared.numbering.Numbering.{Numbering}

abbrev pub number_of : Variable → ℕ
number_of (V.File k) = k
number_of (V.Param k) = k
number_of (V.Local k) = k

-- what a name of the file is declared as
abbrev pub declared_as : Meaning → FileName
declared_as (a_shape s) = N.Shape s
declared_as (a_function f) = N.Function f
declared_as (a_variable v ty) = N.Variable (number_of v)

abbrev pub name_of : Binding → List ℕ × FileName
name_of b = (b.word, declared_as b.meaning)

-- the names that are known, in text order, each with what it is declared as
abbrev pub in_text_order : Known → List (List ℕ × FileName)
in_text_order known = map name_of (reverse known.names)

-- so few names that their numbers fit their types: those of shapes have 16 bits, the others 32
pub record HasFewNames (known : Known) : Type 0 where
  pub shapes : length known.shapes < 2 ^ 16
  pub all : length known.names < 2 ^ 32

-- no two names have one word
unfoldable pub AreApart : List Binding → Type 0
AreApart [] = Unit {0}
AreApart (b ∷ bs) = (find bs b.word ≡ None) × AreApart bs

-- the names are those that are known, and so many of each kind
pub record IsNumbered (n : Numbering) (known : Known) : Type 0 where
  pub names : file_names n.names ≡ in_text_order known
  pub apart : AreApart known.names
  pub all : n.all ≡ length known.names
  pub shapes : n.shapes ≡ length known.shapes
  pub functions : n.functions ≡ known.functions
  pub variables : n.variables ≡ known.variables
  pub kinds : length known.shapes + known.functions + known.variables ≡ length known.names

-- so it is where there are few enough
abbrev pub Numbers : Numbering → Known → Type 0
Numbers n known = HasFewNames known → IsNumbered n known

-- how many names are known before a new one; none where the word has a name already
abbrev pub new_at : Known → List ℕ → Option ℕ
new_at known word = if is_some (find known.names word) then None else Some (length known.names)

abbrev pub IsNewAt : Known → List ℕ → Option ℕ → Type 0
IsNewAt known word place = HasFewNames known → place ≡ new_at known word

-- the names that were known when so many were
abbrev pub first_names : ℕ → List Binding → List Binding
first_names n names = drop (length names - n) names

-- a function of the file stands at its item, and in it are known so many names of the file, and all
-- functions
pub record StandsIn (tree : Tree) (known : Known) (info : FunctionInfo) (placed : Placed) : Type 0 where
  pub is_item : slice_get tree.items.items info.item ≡ Some (I.Function placed.function)
  pub within : info.known ≤ length known.names
  pub known_there : placed.known ≡ first_names info.known known.names ++ functions_named tree

abbrev pub StandsAt : Tree → FunctionInfo → Placed → Type 0
StandsAt tree info placed = StandsIn tree (file_known tree) info placed

-- what a name that was found is declared as, and the function that it is
abbrev pub named : Option (ℕ × FileName) → Option FileName
named found = option_map (λ (n : ℕ × FileName). n.1) found

abbrev pub declared_function : Option FileName → Option ℕ
declared_function None = None
declared_function (Some (N.Shape s)) = None
declared_function (Some (N.Function f)) = Some f
declared_function (Some (N.Variable v)) = None

-- the function that was found, if it was, may be `main`
abbrev pub MayBeMain : Option (FunctionInfo × Function) → Type 0
MayBeMain None = Unit {0}
MayBeMain (Some found) = IsNoMain found.1 → ⊥
