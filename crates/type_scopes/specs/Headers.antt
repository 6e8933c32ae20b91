-- What is known of the functions of a file, and what the header of one says under a current shape.
use Rattle.std.specs.Prelude.{◌≡◌, ◌↔◌, ◌⊎◌, ℕ, Bool, false, List, slice_get, bytes_eq, Option, Some, None, Vec, if◌then◌else◌}
use Rattle.std.specs.List.{list_any}
use Rattle.std.specs.Option.{option_map}
use Rattle.std.specs.declared.alloc.Global.{Global}
use Rattle.cstar_base.specs.declared.faults.Fault.{Fault}
use Rattle.cstar_base.specs.declared.faults.Fault.TheVariants as F
use Rattle.cstar_base.specs.declared.operators.Place.{Place}
use Rattle.cstar_tree.specs.declared.syntax.Function.{Function}
use Rattle.cstar_tree.specs.declared.syntax.Item.{Item}
use Rattle.cstar_tree.specs.declared.syntax.Item.TheVariants as I
use Rattle.cstar_tree.specs.declared.syntax.Parameter.{Parameter}
use Rattle.cstar_tree.specs.declared.syntax.ResultType.{ResultType}
use Rattle.cstar_tree.specs.declared.syntax.ResultType.TheVariants as T
use Rattle.cstar_tree.specs.declared.syntax.TypeName.{TypeName}
use Rattle.cstar_tree.specs.ExpressionFaults.{kind_of, variable}
use Rattle.cstar_tree.specs.ExpressionTypes.{IsCallable}
use Rattle.cstar_tree.specs.FileFaults.{ParametersFault}
use Rattle.cstar_tree.specs.Headers as H
use Rattle.cstar_tree.specs.Headers.{Placed, a_value, header_place, nothing, parameter_types, returns_of, unknown}
use Rattle.cstar_tree.specs.Scopes.{Here, Meaning, find}
use Rattle.cstar_tree.specs.StatementFaults.{TypeFaultAt}
use Rattle.type_scopes.specs.declared.file.File.{File}
use Rattle.type_scopes.specs.declared.file.FunctionInfo.{FunctionInfo}
use Rattle.type_scopes.specs.declared.headers.Header.{Header}
use Rattle.type_scopes.specs.declared.headers.HeaderScope.{HeaderScope}
use Rattle.type_scopes.specs.declared.headers.Reached.{Reached}
use Rattle.type_scopes.specs.declared.sites.Returns.{Returns}
use Rattle.type_scopes.specs.declared.sites.Returns.TheVariants as R
use Rattle.type_scopes.specs.Faults.{IsLeastOf}
use Rattle.type_scopes.specs.FileBindings.{file_bindings}

-- the function of a number, as it stands in the tree
abbrev pub in_item : FunctionInfo → Option Item → Option (FunctionInfo × Function)
in_item info None = None
in_item info (Some (I.Shapes p shapes)) = None
in_item info (Some (I.Variables declaration)) = None
in_item info (Some (I.Function function)) = Some (info, function)

abbrev pub listed_in : List Item → Option FunctionInfo → Option (FunctionInfo × Function)
listed_in items None = None
listed_in items (Some info) = in_item info (slice_get items info.item)

abbrev pub function_of : File → ℕ → Option (FunctionInfo × Function)
function_of file f = listed_in file.tree.now.items.items (slice_get file.functions.items f)

-- the function of this number stands in the file's tree, with the names of the file that are known in it
pub record IsPlaced (file : File) (f : ℕ) (placed : Placed) : Type 0 where
  pub info : FunctionInfo
  pub is_listed : slice_get file.functions.items f ≡ Some info
  pub is_item : slice_get file.tree.now.items.items info.item ≡ Some (I.Function placed.function)
  pub known : (word : List ℕ) → find placed.known word ≡ find (file_bindings file info.known) word

-- the group of the function of a number, and whether the function around is of the same one
abbrev pub group_of : File → ℕ → Option ℕ
group_of file f = option_map (λ (info : FunctionInfo). info.group) (slice_get file.functions.items f)

abbrev pub IsOfGroup : File → Option ℕ → ℕ → Type 0
IsOfGroup file None f = ⊥
IsOfGroup file (Some around) f = group_of file around ≡ group_of file f

-- is the word a key of the set?
abbrev pub has_word : List (Vec ℕ Global) → List ℕ → Bool
has_word keys word = list_any (λ key. bytes_eq word key.items) keys

-- The names around a type in a header are kept for this place: the earlier parameters are its
-- innermost scope, and the names of the file lie around that.
pub record IsKeptFor (file : File) (scope : HeaderScope) (here : Here) : Type 0 where
  pub current : here.current ≡ scope.current
  pub inner : (word : List ℕ) → option_map kind_of (find here.names.inner word) ≡ (if has_word scope.parameters.keys word then Some variable else None)
  pub outer : (word : List ℕ) → find here.names.outer word ≡ find (file_bindings file scope.known) word

-- a fault of the type of a result, and the fault of a parameter whose name an earlier one has
pub data ResultFault (here : Here) : ResultType → Fault → Place → Type 0 where
  written : {t : TypeName} {fault : Fault} {p : Place} → TypeFaultAt here t fault p → ResultFault here (T.Written t) fault p

pub data NameFault (here : Here) (q : Parameter) : Fault → Place → Type 0 where
  redeclared : {m : Meaning} → find here.names.inner q.name.word ≡ Some m → NameFault here q F.Redeclared q.name.place

-- the faults of an instance but for those of its body
abbrev pub HeaderFault : Here → Function → Fault → Place → Type 0
HeaderFault here function fault p = ResultFault here function.result fault p ⊎ ParametersFault here 0 function.parameters.items fault p

-- what is returned, in the terms of the rules
abbrev pub returned : Returns → H.Returns
returned R.Nothing = nothing
returned (R.Value ty) = a_value ty
returned R.Unknown = unknown

-- where the header of a function stands that is reached under a shape, or none
abbrev pub place_of_header : List (List ℕ) → Placed → Reached → Here
place_of_header shapes placed r = header_place shapes placed (record { function = r.function; current = r.current })

-- the header of a function under a current shape; it has another shape just where the function may
-- not be called there
pub record IsHeader (placed : Placed) (r : Reached) (header : Header) : Type 0 where
  pub parameters : (shapes : List (List ℕ)) → header.parameters.items ≡ parameter_types (place_of_header shapes placed r) 0 placed.function.parameters.items
  pub returns : (shapes : List (List ℕ)) → returned header.returns ≡ returns_of (place_of_header shapes placed r) placed.function.result
  pub at_hand : (header.other_shape ≡ false) ↔ IsCallable r.current header.parameters.items (returned header.returns)
  pub faults : (shapes : List (List ℕ)) → IsLeastOf (HeaderFault (place_of_header shapes placed r) placed.function) header.faults.least
