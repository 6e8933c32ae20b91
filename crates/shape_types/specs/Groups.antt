-- The functions of a file with their groups.
use Rattle.std.specs.Prelude.{ℕ, List, [], ◌∷◌}
use Rattle.type_scopes.specs.declared.file.FunctionInfo.{FunctionInfo}

-- each function is in its group; one for which there is none stays in its own
unfoldable pub in_groups : List FunctionInfo → List ℕ → List FunctionInfo
in_groups [] groups = []
in_groups (info ∷ infos) [] = info ∷ in_groups infos []
in_groups (info ∷ infos) (group ∷ groups) = record info { group = group } ∷ in_groups infos groups
