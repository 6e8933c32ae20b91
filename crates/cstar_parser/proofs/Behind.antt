-- Declarations and functions, from what is read behind their first tokens.
use Rattle.std.proofs.Common.{◌≡◌, ℕ, ◌≤◌, Result, Ok, Err, arith}
use Rattle.cstar_base.specs.declared.operators.Place.{Place}
use Rattle.cstar_tree.specs.declared.token.Token.{Token}
use Rattle.cstar_tree.specs.declared.syntax.Declaration.{Declaration}
use Rattle.cstar_tree.specs.declared.syntax.Function.{Function}
use Rattle.cstar_tree.specs.declared.syntax.Name.{Name}
use Rattle.cstar_tree.specs.declared.syntax.ResultType.{ResultType}
use Rattle.cstar_tree.specs.declared.syntax.TypeName.{TypeName}
use Rattle.std.specs.Prelude.{List, Some}
use Rattle.cstar_tree.specs.Bounds.{declaration_expressions}
use Rattle.cstar_tree.specs.Declarations.{IsDeclaration}
use Rattle.cstar_tree.specs.Items.{IsFunction, IsResult}
use Rattle.cstar_tree.specs.Positions.{token_place}
use Rattle.cstar_tree.specs.Types.{IsType}
use Rattle.cstar_parser.specs.declared.fault.ParseFault.{ParseFault}
use Rattle.cstar_parser.specs.declared.spot.Spot.{Spot}
use Rattle.cstar_parser.specs.Fits.{AddsType, FitAll, Fits, FitsBlock, Keeps}
use Rattle.cstar_parser.specs.Parts.{IsDeclarationOf, IsFunctionOf}
use Rattle.cstar_parser.specs.Reading.{IsName, IsRead, Reads}

pub declared : {tokens : List Token} {a b c : Spot} {t : TypeName} {n : Name} (around : ℕ) (d old : Spot) (result : Result Declaration ParseFault) → a.at ≡ old.at → IsRead IsType AddsType tokens a t b → IsRead IsName Keeps tokens b n c → Reads (IsDeclarationOf t n) (λ d. FitAll around (declaration_expressions d)) tokens c d result → Reads IsDeclaration (λ d. FitAll around (declaration_expressions d)) tokens old d result
declared around d old (Ok declaration) here t n x = record { spelled = rw here at (x.spelled _ _ t.spelled n.spelled); fits = x.fits; forward = omega arith; inside = x.inside }
declared around d old (Err fault) here t n x = x

pub function : {tokens : List Token} {a b : Spot} {p : Place} {r : ResultType} {n : Name} (old c : Spot) (result : Result Function ParseFault) → token_place tokens old.at ≡ Some p → IsResult tokens old.at r a.at → old.at ≤ a.at → IsRead IsName Keeps tokens a n b → Reads (IsFunctionOf p r n) (λ f. Fits (FitsBlock 0 f.body)) tokens b c result → Reads IsFunction (λ f. Fits (FitsBlock 0 f.body)) tokens old c result
function old c (Ok f) place answer forward n x = record { spelled = x.spelled _ _ place answer n.spelled; fits = x.fits; forward = omega arith; inside = x.inside }
function old c (Err fault) place answer forward n x = x
