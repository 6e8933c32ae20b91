-- The functions that a function calls in its text.
use Rattle.std.specs.Prelude.{◌≡◌, ◌≤◌, ℕ, ◌∷◌, ◌++◌, List, length, map, is_none, slice_get, Some, None, if◌then◌else◌}
use Rattle.cstar_tree.specs.declared.syntax.Item.TheVariants as I
use Rattle.cstar_tree.specs.declared.typed.Variable.TheVariants as V
use Rattle.cstar_tree.specs.Calls.{Call, calls_in_block}
use Rattle.cstar_tree.specs.Headers.{Placed, Reached, body_place}
use Rattle.cstar_tree.specs.Instances.{function_meant}
use Rattle.cstar_tree.specs.Scopes.{Here, find, meaning}
use Rattle.type_scopes.specs.declared.file.File.{File}
use Rattle.type_scopes.specs.declared.file.FunctionInfo.{FunctionInfo}
use Rattle.type_scopes.specs.Bindings.{around, bindings, named, within}
use Rattle.type_scopes.specs.FileBindings.{file_bindings, names_at}
use Rattle.call_groups.specs.declared.calls.Calls.{Calls}

abbrev pub functions_of : List Call → List ℕ
functions_of calls = map (λ (c : Call). c.function) calls

-- the names around the place of the walk stand for the same functions as here
abbrev pub IsKnown : Calls → Here → Type 0
IsKnown calls here = (word : List ℕ) → function_meant (meaning here word) ≡ function_meant (find (names_at calls.file.now calls.locals calls.known) word)

-- the same in a scope, which has the same names
pub record IsKnownIn (scope : ℕ) (calls : Calls) (here : Here) : Type 0 where
  pub deep : scope ≤ length (bindings calls.locals)
  pub inner : (word : List ℕ) → is_none (find here.names.inner word) ≡ is_none (find (within scope (bindings calls.locals)) word)
  pub all : IsKnown calls here

-- the walk adds the functions of these calls, and its place stays
pub record Adds (old new : Calls) (calls : Here → List Call) : Type 0 where
  pub called : (here : Here) → IsKnown old here → new.called.items ≡ old.called.items ++ functions_of (calls here)
  pub names : bindings new.locals ≡ bindings old.locals
  pub file : new.file.now ≡ old.file.now
  pub known : new.known ≡ old.known

-- the function of this number stands in the file, with names known in it that stand for the same
-- functions as the file's
pub record IsFunction (file : File) (f : ℕ) (placed : Placed) : Type 0 where
  pub info : FunctionInfo
  pub is_listed : slice_get file.functions.items f ≡ Some info
  pub is_item : slice_get file.tree.now.items.items info.item ≡ Some (I.Function placed.function)
  pub known : (word : List ℕ) → function_meant (find placed.known word) ≡ function_meant (find (file_bindings file info.known) word)

-- the function of this number calls these in its text, wherever it is reached
abbrev pub HasCalls : File → ℕ → List ℕ → Type 0
HasCalls file f called =
    (placed : Placed) → IsFunction file f placed → (shapes : List (List ℕ)) (r : Reached) → called ≡ functions_of (calls_in_block placed.function.body (body_place shapes placed r))

-- the walk declares a word in its scope, unless the scope has it
pub record Declares (scope : ℕ) (old new : Calls) (word : List ℕ) : Type 0 where
  pub names : bindings new.locals ≡ (if is_none (find (within scope (bindings old.locals)) word) then named word (V.Local 0) None ∷ bindings old.locals else bindings old.locals)
  pub called : new.called.items ≡ old.called.items
  pub file : new.file.now ≡ old.file.now
  pub known : new.known ≡ old.known

-- the walk goes on in its scope, where so many variables were declared before: it adds the functions
-- of these calls
pub record Walks (scope : ℕ) (old new : Calls) (on : Here → Here) (calls : Here → List Call) : Type 0 where
  pub called : (here : Here) → IsKnownIn scope old here → new.called.items ≡ old.called.items ++ functions_of (calls here)
  pub knows : (here : Here) → IsKnownIn scope old here → IsKnownIn scope new (on here)
  pub outer : scope ≤ length (bindings old.locals) → (scope ≤ length (bindings new.locals)) × (around scope (bindings new.locals) ≡ around scope (bindings old.locals))
  pub file : new.file.now ≡ old.file.now
  pub known : new.known ≡ old.known

-- these are the functions of the file
pub record AreFunctions (file : File) (functions : List Placed) : Type 0 where
  pub count : length functions ≡ length file.functions.items
  pub each : (f : ℕ) (placed : Placed) → slice_get functions f ≡ Some placed → IsFunction file f placed
