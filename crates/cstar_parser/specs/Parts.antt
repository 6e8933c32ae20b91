-- The grammar of parts as the reader holds them, in boxes, vectors and structs.
use Rattle.std.specs.Prelude.{◌≡◌, ℕ, List, Option, Some, Vec, Box}
use Rattle.std.specs.declared.alloc.Global.{Global}
use Rattle.cstar_base.specs.declared.operators.Place.{Place}
use Rattle.cstar_tree.specs.declared.token.Token.{Token}
use Rattle.cstar_tree.specs.declared.token.Mark.{Mark}
use Rattle.cstar_tree.specs.declared.token.Kind.TheVariants as K
use Rattle.cstar_tree.specs.declared.syntax.Declaration.{Declaration}
use Rattle.cstar_tree.specs.declared.syntax.Declarator.{Declarator}
use Rattle.cstar_tree.specs.declared.syntax.Expr.{Expr}
use Rattle.cstar_tree.specs.declared.syntax.Function.{Function}
use Rattle.cstar_tree.specs.declared.syntax.Name.{Name}
use Rattle.cstar_tree.specs.declared.syntax.ResultType.{ResultType}
use Rattle.cstar_tree.specs.declared.syntax.TypeName.{TypeName}
use Rattle.cstar_tree.specs.Declarations.{IsDeclaration, IsDeclarator}
use Rattle.cstar_tree.specs.Expressions.{IsIndex, IsRest}
use Rattle.cstar_tree.specs.Items.{IsFunction, IsResult}
use Rattle.cstar_tree.specs.Options.{AreEnumerateOptions, AreScanOptions}
use Rattle.cstar_tree.specs.Positions.{Stands, token_place}
use Rattle.cstar_tree.specs.Statements.{IsPart}
use Rattle.cstar_tree.specs.Types.{IsType}
use Rattle.cstar_parser.specs.declared.intrinsics.EnumerateOptions.{EnumerateOptions}
use Rattle.cstar_parser.specs.declared.intrinsics.ScanOptions.{ScanOptions}
use Rattle.cstar_parser.specs.Heads.{unboxed_part}
use Rattle.cstar_parser.specs.Operands.{IsStrong}

-- the tokens spell what a part holds
abbrev pub by : {A B : Type 0} → (A → B) → (List Token → ℕ → B → ℕ → Type 0) → List Token → ℕ → A → ℕ → Type 0
by held spells tokens from part to = spells tokens from (held part) to

abbrev pub boxed : {A : Type 0} → (List Token → ℕ → A → ℕ → Type 0) → List Token → ℕ → Box A Global → ℕ → Type 0
boxed spells tokens from part to = spells tokens from part.value to

abbrev pub listed : {A : Type 0} → (List Token → ℕ → List A → ℕ → Type 0) → List Token → ℕ → Vec A Global → ℕ → Type 0
listed spells tokens from parts to = spells tokens from parts.items to

-- ---- options of intrinsics

abbrev pub AreOptionsOfScan : List Token → ℕ → ScanOptions → ℕ → Type 0
AreOptionsOfScan tokens from all to = AreScanOptions tokens from all.combiner all.direction all.mode all.bit all.inclusion to

abbrev pub AreOptionsOfEnumerate : List Token → ℕ → EnumerateOptions → ℕ → Type 0
AreOptionsOfEnumerate tokens from all to = AreEnumerateOptions tokens from all.direction all.inclusion all.mode all.bit to

-- ---- expressions

-- one that holds together at least so strongly
abbrev pub IsOperand : ℕ → List Token → ℕ → Box Expr Global → ℕ → Type 0
IsOperand least tokens from e to = IsStrong tokens from least e.value to

abbrev pub IsIndexed : List Token → ℕ → Place × Box Expr Global → ℕ → Type 0
IsIndexed tokens from index to = IsIndex tokens from index.0 index.1.value to

abbrev pub IsExtent : List Token → ℕ → Box Expr Global → ℕ → Type 0
IsExtent tokens from e to = (place : Place) × IsIndex tokens from place e.value to

-- a list with what stands behind its first items
abbrev pub IsRestOf : Vec Expr Global → List Token → ℕ → Vec Expr Global → ℕ → Type 0
IsRestOf list tokens from all to = IsRest tokens from list.items all.items to

-- one that may be left out, and the mark behind it
abbrev pub IsPartTo : Mark → List Token → ℕ → Option (Box Expr Global) → ℕ → Type 0
IsPartTo end tokens from part to = IsPart tokens from (unboxed_part part) end to

-- ---- what stands behind first tokens spells the rest of this

abbrev pub IsDeclaratorOf : Name → List Token → ℕ → Declarator → ℕ → Type 0
IsDeclaratorOf name tokens at d to = (from : ℕ) → Stands tokens from (K.Name name.word) name.place at → IsDeclarator tokens from d to

abbrev pub IsDeclarationOf : TypeName → Name → List Token → ℕ → Declaration → ℕ → Type 0
IsDeclarationOf type_name first tokens at d to = (from mid : ℕ) → IsType tokens from type_name mid → Stands tokens mid (K.Name first.word) first.place at → IsDeclaration tokens from d to

abbrev pub IsFunctionOf : Place → ResultType → Name → List Token → ℕ → Function → ℕ → Type 0
IsFunctionOf place answer name tokens at f to = (from mid : ℕ) → token_place tokens from ≡ Some place → IsResult tokens from answer mid → Stands tokens mid (K.Name name.word) name.place at → IsFunction tokens from f to
