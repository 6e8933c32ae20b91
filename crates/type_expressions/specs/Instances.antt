-- The instances that were met so far, in the terms of the rules.
use Rattle.std.specs.Prelude.{◌≡◌, ◌==◌, ◌&&◌, ◌↔◌, Bool, List, [], ◌∷◌, ◌++◌, map, Option, if◌then◌else◌}
use Rattle.std.specs.List.{All}
use Rattle.std.specs.Option.{option_eq}
use Rattle.indexmap.specs.IndexMap.{get}
use Rattle.cstar_tree.specs.Headers as H
use Rattle.cstar_tree.specs.Headers.{Placed}
use Rattle.cstar_tree.specs.Instances.{is_met}
use Rattle.type_expressions.specs.declared.found.Instances.{Instances}
use Rattle.type_scopes.specs.Headers.{IsHeader, IsPlaced}
use Rattle.type_scopes.specs.declared.file.File.{File}
use Rattle.type_scopes.specs.declared.headers.Header.{Header}
use Rattle.type_scopes.specs.declared.headers.Reached.{Reached}

-- a function under a current shape
abbrev pub instance_of : Reached → H.Reached
instance_of r = record { function = r.function; current = r.current }

-- the instances that were met, in this order
abbrev pub met : Instances → List H.Reached
met instances = map instance_of instances.reached.keys

-- a further instance is behind them, where it is met for the first time
abbrev pub with_met : H.Reached → List H.Reached → List H.Reached
with_met r before = if is_met r before then before else before ++ r ∷ []

-- the one list begins the other
pub record IsBeginning {A : Type 0} (first all : List A) : Type 0 where
  pub rest : List A
  pub whole : all ≡ first ++ rest

-- is it the same function under the same shape?
abbrev pub is_same : Reached → Reached → Bool
is_same a b = a.function == b.function && option_eq ◌==◌ a.current b.current

-- the header that is kept for it, if one is
abbrev pub kept_header : Instances → Reached → Option Header
kept_header instances r = get is_same instances.headers r

-- the header is that of its function in the file
abbrev pub IsHeaderOf : File → Reached → Header → Type 0
IsHeaderOf file r header = (placed : Placed) → IsPlaced file r.function placed → IsHeader placed r header

-- so are all that are kept
abbrev pub AreHeaders : File → Instances → Type 0
AreHeaders file instances = All (λ (kept : Reached × Header). IsHeaderOf file kept.0 kept.1) instances.headers.entries

-- what was met stays, before all that is met since, and what is kept since are headers of the file
pub record Grows (file : File) (old new : Instances) : Type 0 where
  pub begins : IsBeginning (met old) (met new)
  pub headers : AreHeaders file old ↔ AreHeaders file new
