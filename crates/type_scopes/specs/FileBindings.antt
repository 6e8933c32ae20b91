-- What the names of a file stand for, as they are kept there.
use Rattle.std.specs.Prelude.{◌-◌, ◌+◌, ◌++◌, ℕ, nat_lt, Bool, true, List, [], ◌∷◌, map, slice_get, bytes_eq, Option, Some, None, if◌then◌else◌}
use Rattle.std.specs.List.{IsDistinct}
use Rattle.std.specs.Map.{keys_of}
use Rattle.std.specs.Option.{option_flatten}
use Rattle.cstar_tree.specs.declared.typed.Variable.TheVariants as V
use Rattle.cstar_tree.specs.Scopes as S
use Rattle.cstar_tree.specs.Scopes.{Binding, a_function, a_shape, a_variable}
use Rattle.type_scopes.specs.declared.file.File.{File}
use Rattle.type_scopes.specs.declared.locals.Locals.{Locals}
use Rattle.type_scopes.specs.declared.names.FileName.{FileName}
use Rattle.type_scopes.specs.declared.names.FileName.TheVariants as N
use Rattle.type_scopes.specs.declared.names.FileNames.{FileNames}
use Rattle.type_scopes.specs.declared.names.VariableType.{VariableType}
use Rattle.type_scopes.specs.Bindings.{bindings, type_meant}

-- the names in text order, each with what it is declared as
abbrev pub file_names : FileNames → List (List ℕ × FileName)
file_names names = map (λ e. (e.0.items, e.1)) names.names.entries

-- no two of them have one word
abbrev pub AreApart : FileNames → Type 0
AreApart names = IsDistinct (λ a b. bytes_eq a.items b.items) (keys_of names.names.entries)

-- the name of a word, with its number from this one on
unfoldable pub numbered : ℕ → List (List ℕ × FileName) → List ℕ → Option (ℕ × FileName)
numbered number [] word = None
numbered number (e ∷ es) word = if bytes_eq word e.0 then Some (number, e.1) else numbered (number + 1) es word

-- is the next name known where so many from it on are? Functions are known in the whole file
abbrev pub is_known : ℕ → FileName → Bool
is_known known (N.Shape s) = nat_lt 0 known
is_known known (N.Function f) = true
is_known known (N.Variable v) = nat_lt 0 known

-- what the name stands for that is known, if it is
abbrev pub known_of : ℕ → Option (ℕ × FileName) → Option FileName
known_of known None = None
known_of known (Some found) = if is_known (known - found.0) found.1 then Some found.1 else None

-- what a name of the file stands for: a variable with its type, where it has one
abbrev pub file_meant : List (Option VariableType) → FileName → S.Meaning
file_meant types (N.Shape s) = a_shape s
file_meant types (N.Function f) = a_function f
file_meant types (N.Variable v) = a_variable (V.File v) (type_meant (option_flatten (slice_get types v)))

abbrev pub file_binding : List (Option VariableType) → List ℕ × FileName → Binding
file_binding types e = record { word = e.0; meaning = file_meant types e.1 }

-- what the names stand for that are known where the first so many are
unfoldable pub known_names : List (Option VariableType) → ℕ → List (List ℕ × FileName) → List Binding
known_names types known [] = []
known_names types known (e ∷ es) =
    if is_known known e.1 then file_binding types e ∷ known_names types (known - 1) es else known_names types (known - 1) es

-- what the names of the file stand for where the first so many are known, and what all names do in a
-- function there
abbrev pub file_bindings : File → ℕ → List Binding
file_bindings file known = known_names file.types.items known (file_names file.names)

abbrev pub names_at : File → Locals → ℕ → List Binding
names_at file locals known = bindings locals ++ file_bindings file known
