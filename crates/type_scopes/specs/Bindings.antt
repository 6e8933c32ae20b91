-- What the names of a function stand for around a place, as they are kept there.
use Rattle.std.specs.Prelude.{◌-◌, ℕ, List, [], drop, length, map, reverse, slice_index_or, take, Option, Some, None}
use Rattle.cstar_tree.specs.declared.typed.Variable.{Variable}
use Rattle.cstar_tree.specs.Scopes as S
use Rattle.cstar_tree.specs.Scopes.{Binding, a_function, a_shape, a_variable}
use Rattle.type_scopes.specs.declared.locals.Local.{Local}
use Rattle.type_scopes.specs.declared.locals.Locals.{Locals}
use Rattle.type_scopes.specs.declared.names.Meaning.{Meaning}
use Rattle.type_scopes.specs.declared.names.Meaning.TheVariants as M
use Rattle.type_scopes.specs.declared.names.VariableType.{VariableType}
use Rattle.type_scopes.specs.Links.{words_of}

-- the type of a variable, and what a name stands for, in the terms of the rules
abbrev pub variable_type : VariableType → S.VariableType
variable_type ty = record { value = record { elem = ty.elem; shape = ty.shape }; array = ty.array }

abbrev pub type_meant : Option VariableType → Option S.VariableType
type_meant None = None
type_meant (Some ty) = Some (variable_type ty)

abbrev pub meant : Meaning → S.Meaning
meant (M.Shape s) = a_shape s
meant (M.Function f) = a_function f
meant (M.Variable v ty) = a_variable v (type_meant ty)

-- a variable under its name
abbrev pub named : List ℕ → Variable → Option VariableType → Binding
named word variable ty = record { word = word; meaning = a_variable variable (type_meant ty) }

abbrev pub bound : List (List ℕ) → Local → Binding
bound words local = named (slice_index_or words local.slot []) local.variable local.ty

-- what the names stand for, the newest first
abbrev pub bindings : Locals → List Binding
bindings locals = map (bound (words_of locals.innermost.entries)) (reverse locals.declared.items)

-- the names of a scope and of those in it, where as many were declared before it as its number; and
-- the names of the scopes around it
abbrev pub within : ℕ → List Binding → List Binding
within scope names = take (length names - scope) names

abbrev pub around : ℕ → List Binding → List Binding
around scope names = drop (length names - scope) names
