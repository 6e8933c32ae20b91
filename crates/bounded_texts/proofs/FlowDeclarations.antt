-- Texts go on behind declarations within the bounds.
use Rattle.std.proofs.Common.{◌≡◌, ℕ, ◌+◌, ◌≤◌, List, [], ◌∷◌, map, Option, arith, refl, ap}
use Rattle.cstar_tree.specs.declared.token.Token.{Token}
use Rattle.cstar_tree.specs.declared.token.Mark.TheVariants as M
use Rattle.cstar_tree.specs.declared.syntax.Expr.{Expr}
use Rattle.cstar_tree.specs.declared.syntax.Initializer.{Initializer}
use Rattle.cstar_tree.specs.declared.syntax.Declarator.{Declarator}
use Rattle.cstar_tree.specs.declared.syntax.Declaration.{Declaration}
use Rattle.cstar_tree.specs.Bounds.{among, declaration_expressions, declarator_expressions, declared_expressions, levels_in, operators_in}
use Rattle.cstar_tree.specs.Positions.{token_kind}
use Rattle.cstar_tree.specs.Expressions.{IsExpr}
use Rattle.cstar_tree.specs.Declarations.{AreDeclarations, AreDeclarators, IsDeclaration, IsDeclarator, IsInitial, IsLength}
use Rattle.cstar_tree.specs.Declarations as D
use Rattle.cstar_tree.specs.SyntaxParts.{initial_values}
use Rattle.cstar_tree.specs.TypedParts.{concat, optional}
use Rattle.grammar_parts.specs.Parts.{Part, enter, skip, levels}
use Rattle.grammar_parts.specs.Parts as P
use Rattle.grammar_parts.specs.Actions.{act}
use Rattle.grammar_parts.proofs.ReadDeclarations.{EndsName, comma_ends, names_end_type, semicolon_ends}
use Rattle.grammar_parts.proofs.ReadTypes.{starts_type}
use Rattle.grammar_parts.proofs.Words.{Quiet, quiet_at, quiet_bracket}
use Rattle.bounded_texts.proofs.Flowing.{Flow, begins, less, plain, same_act, skipped}
use Rattle.bounded_texts.proofs.FlowExpressions.{expression_flows}
use Rattle.bounded_texts.proofs.FlowTypes.{type_flows}
use Rattle.bounded_texts.proofs.Sizes.{among_both, among_first, among_more, greatest_one}
use Rattle.cstar_parser.proofs.Outside.{expression_start, type_start, typed_declaration}

-- a whole expression
pub whole_flows : {tokens : List Token} {from to : ℕ} {e : Expr} {behind : List Part} → IsExpr tokens from e to → Quiet (token_kind tokens to) → levels behind + levels_in e ≤ 100 → operators_in e ≤ 1000 → Flow tokens to behind 1000 → Flow tokens from (P.whole ∷ behind) 1000
whole_flows {tokens} {from} {behind = behind} x quiet low few f = begins P.whole P.expression [] refl (expression_start (token_kind tokens from)) (omega arith) (expression_flows x quiet behind 0 low (less f (omega arith)))

initial_flows : {tokens : List Token} {from to : ℕ} {initial : Option Initializer} {behind : List Part} → IsInitial tokens from initial to → EndsName (token_kind tokens to) → levels behind + among levels_in (initial_values initial) ≤ 100 → among operators_in (initial_values initial) ≤ 1000 → Flow tokens to behind 1000 → Flow tokens from (P.initial_or_none ∷ behind) 1000
initial_flows D.no_initial q low few f = skipped P.initial_or_none q.no_equal f
initial_flows (D.initial_is {e = e} equal x) q low few f = plain P.initial_or_none equal refl (omega arith) (whole_flows x q.quiet (omega (arith, greatest_one levels_in e)) (omega (arith, greatest_one operators_in e)) f)

no_length_at : {tokens : List Token} {from to : ℕ} {initial : Option Initializer} → IsInitial tokens from initial to → EndsName (token_kind tokens to) → act P.length_or_none (token_kind tokens from) ≡ skip
no_length_at D.no_initial q = q.no_bracket
no_length_at (D.initial_is equal e) q = ap (act P.length_or_none) equal.kind_is

length_flows : {tokens : List Token} {from to : ℕ} {length : Option Expr} {behind : List Part} → IsLength tokens from length to → act P.length_or_none (token_kind tokens to) ≡ skip → levels behind + among levels_in (optional length) ≤ 100 → among operators_in (optional length) ≤ 1000 → Flow tokens to behind 1000 → Flow tokens from (P.length_or_none ∷ behind) 1000
length_flows D.no_length calm low few f = skipped P.length_or_none calm f
length_flows (D.length_is {e = e} open_it x close_it) calm low few f = plain P.length_or_none open_it refl (omega arith)
    (whole_flows x (quiet_at close_it quiet_bracket) (omega (arith, greatest_one levels_in e)) (omega (arith, greatest_one operators_in e)) (plain (P.mark M.RightBracket) close_it refl (omega arith) f))

declarator_flows : {tokens : List Token} {from to : ℕ} {d : Declarator} {behind : List Part} → IsDeclarator tokens from d to → EndsName (token_kind tokens to) → levels behind + among levels_in (declarator_expressions d) ≤ 100 → among operators_in (declarator_expressions d) ≤ 1000 → Flow tokens to behind 1000 → Flow tokens from (P.name ∷ P.length_or_none ∷ P.initial_or_none ∷ behind) 1000
declarator_flows (D.declarator {length = length} {initial = initial} name l i) q low few f =
    let deep = among_both levels_in (optional length) (initial_values initial) in
    let many = among_both operators_in (optional length) (initial_values initial) in
    plain P.name name refl (omega arith) (length_flows l (no_length_at i q) (omega arith) (omega arith) (initial_flows i q (omega arith) (omega arith) f))

-- the same where a function could stand
typed_flows : {tokens : List Token} {from mid to : ℕ} {length : Option Expr} {initial : Option Initializer} {behind : List Part} → IsLength tokens from length mid → IsInitial tokens mid initial to → EndsName (token_kind tokens to) → levels behind + among levels_in (optional length) ≤ 100 → levels behind + among levels_in (initial_values initial) ≤ 100 → among operators_in (optional length) ≤ 1000 → among operators_in (initial_values initial) ≤ 1000 → Flow tokens to (P.more_names ∷ behind) 1000 → Flow tokens from (P.behind_typed_name ∷ behind) 1000
typed_flows (D.length_is {e = e} open_it x close_it) i q low lower few fewer f = plain P.behind_typed_name open_it refl (omega arith)
    (whole_flows x (quiet_at close_it quiet_bracket) (omega (arith, greatest_one levels_in e)) (omega (arith, greatest_one operators_in e)) (plain (P.mark M.RightBracket) close_it refl (omega arith) (initial_flows i q (omega arith) fewer f)))
typed_flows D.no_length (D.initial_is {e = e} equal x) q low lower few fewer f = plain P.behind_typed_name equal refl (omega arith) (whole_flows x q.quiet (omega (arith, greatest_one levels_in e)) (omega (arith, greatest_one operators_in e)) f)
typed_flows D.no_length D.no_initial q low lower few fewer f = same_act P.behind_typed_name P.more_names q.typed f

names_flow : {tokens : List Token} {from to : ℕ} {list : List Declarator} {behind : List Part} → AreDeclarators tokens from list to → EndsName (token_kind tokens to) → levels behind + among levels_in (concat (map declarator_expressions list)) ≤ 100 → among operators_in (concat (map declarator_expressions list)) ≤ 1000 → Flow tokens to (P.more_names ∷ behind) 1000 → Flow tokens from (P.name ∷ P.length_or_none ∷ P.initial_or_none ∷ P.more_names ∷ behind) 1000
names_flow (D.first_name {d = d} x) q low few f = declarator_flows x q (omega (arith, among_first levels_in declarator_expressions d)) (omega (arith, among_first operators_in declarator_expressions d)) f
names_flow (D.next_name {list = list} {d = d} l comma x) q low few f =
    let deep = among_more levels_in declarator_expressions list d in
    let many = among_more operators_in declarator_expressions list d in
    names_flow l (comma_ends comma) (omega arith) (omega arith) (plain P.more_names comma refl (omega arith) (declarator_flows x q (omega arith) (omega arith) f))

pub typed_names_flow : {tokens : List Token} {from to : ℕ} {list : List Declarator} {behind : List Part} → AreDeclarators tokens from list to → EndsName (token_kind tokens to) → levels behind + among levels_in (concat (map declarator_expressions list)) ≤ 100 → among operators_in (concat (map declarator_expressions list)) ≤ 1000 → Flow tokens to (P.more_names ∷ behind) 1000 → Flow tokens from (P.name ∷ P.behind_typed_name ∷ behind) 1000
typed_names_flow (D.first_name {d = d} (D.declarator {length = length} {initial = initial} name l i)) q low few f =
    let deep = among_first levels_in declarator_expressions d in
    let many = among_first operators_in declarator_expressions d in
    let deep_both = among_both levels_in (optional length) (initial_values initial) in
    let many_both = among_both operators_in (optional length) (initial_values initial) in
    plain P.name name refl (omega arith) (typed_flows l i q (omega arith) (omega arith) (omega arith) (omega arith) f)
typed_names_flow (D.next_name {list = list} {d = d} l comma x) q low few f =
    let deep = among_more levels_in declarator_expressions list d in
    let many = among_more operators_in declarator_expressions list d in
    typed_names_flow l (comma_ends comma) (omega arith) (omega arith) (plain P.more_names comma refl (omega arith) (declarator_flows x q (omega arith) (omega arith) f))

declaration_flows : {tokens : List Token} {from to : ℕ} {d : Declaration} {behind : List Part} → IsDeclaration tokens from d to → levels behind + among levels_in (declaration_expressions d) ≤ 100 → among operators_in (declaration_expressions d) ≤ 1000 → Flow tokens to (P.declarations ∷ behind) 1000 → Flow tokens from (P.declarations ∷ behind) 1000
declaration_flows {tokens} {from} (D.declaration type names semicolon) low few f =
    begins P.declarations P.type (P.name ∷ P.length_or_none ∷ P.initial_or_none ∷ P.more_names ∷ P.declarations ∷ [])
    (typed_declaration (token_kind tokens from) (starts_type type)) (type_start (token_kind tokens from)) (omega arith)
    (type_flows type (names_end_type names) (omega arith) (less (names_flow names (semicolon_ends semicolon) (omega arith) few (plain P.more_names semicolon refl (omega arith) f)) (omega arith)))

pub declarations_flow : {tokens : List Token} {from to : ℕ} {list : List Declaration} {behind : List Part} → AreDeclarations tokens from list to → levels behind + among levels_in (declared_expressions list) ≤ 100 → among operators_in (declared_expressions list) ≤ 1000 → Flow tokens to (P.declarations ∷ behind) 1000 → Flow tokens from (P.declarations ∷ behind) 1000
declarations_flow D.no_declaration low few f = f
declarations_flow (D.one_more {list = list} {d = d} l x) low few f =
    let deep = among_more levels_in declaration_expressions list d in
    let many = among_more operators_in declaration_expressions list d in
    declarations_flow l (omega arith) (omega arith) (declaration_flows x (omega arith) (omega arith) f)
