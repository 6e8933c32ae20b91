-- The place of a statement in the body of a function, and the one that is kept for it.
use Rattle.std.specs.Prelude.{◌≡◌, ◌≤◌, ◌++◌, ℕ, false, List, length, Some}
use Rattle.cstar_tree.specs.declared.typed.ValueType.{ValueType}
use Rattle.cstar_tree.specs.Scopes.{Binding, Here, find}
use Rattle.type_expressions.specs.Walks.{IsAround, IsShape}
use Rattle.type_scopes.specs.Bindings.{bindings, within}
use Rattle.type_scopes.specs.declared.file.File.{File}
use Rattle.type_scopes.specs.declared.sites.Site.{Site}
use Rattle.type_statements.specs.declared.scopes.Scopes.{Scopes}

-- the place is the one of which the file, the scopes of the function and the site tell
pub record IsPlace (file : File) (scopes : Scopes) (site : Site) (here : Here) : Type 0 where
  pub around : IsAround file scopes.locals site here
  pub not_whole : here.whole ≡ false
  pub loop : here.loop ≡ site.in_loop
  pub locals : here.locals ≡ scopes.count

-- the place is in the scope of this number, which is the innermost one
pub record IsInScope (file : File) (scopes : Scopes) (site : Site) (scope : ℕ) (here : Here) : Type 0 where
  pub place : IsPlace file scopes site here
  pub inner : (word : List ℕ) → find here.names.inner word ≡ find (within scope (bindings scopes.locals)) word
  pub is_open : scope ≤ length (bindings scopes.locals)

-- names are declared before others
pub record IsGrown (old new : List Binding) : Type 0 where
  pub more : List Binding
  pub grown : new ≡ more ++ old

-- a type is scalar or of a shape of the file
abbrev pub HasItsShape : Here → ValueType → Type 0
HasItsShape here ty = (shape : ℕ) → ty.shape ≡ Some shape → IsShape here shape
