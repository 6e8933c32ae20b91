-- What the open parts of shapes, parameters and items say at a token.
use Rattle.std.proofs.Common.{◌≡◌, ℕ, ◌+◌, ◌≤◌, ◌<◌, ◌^◌, Bool, true, false, List, [], ◌∷◌, ◌++◌, if◌then◌else◌, length, Option, Some, None, arith, lit≤, refl}
use Rattle.std.proofs.lemmas.List.{length-append}
use Rattle.std.specs.declared.alloc.Global.{Global}
use Rattle.cstar_base.specs.declared.operators.Place.{Place}
use Rattle.cstar_tree.specs.declared.token.Token.{Token}
use Rattle.cstar_tree.specs.declared.token.Kind.{Kind}
use Rattle.cstar_tree.specs.declared.token.Kind.TheVariants as K
use Rattle.cstar_tree.specs.declared.token.Mark.TheVariants as M
use Rattle.cstar_tree.specs.declared.syntax.Block.{Block}
use Rattle.cstar_tree.specs.declared.syntax.Expr.{Expr}
use Rattle.cstar_tree.specs.declared.syntax.Function.{Function}
use Rattle.cstar_tree.specs.declared.syntax.Initializer.{Initializer}
use Rattle.cstar_tree.specs.declared.syntax.Item.{Item}
use Rattle.cstar_tree.specs.declared.syntax.Item.TheVariants as V
use Rattle.cstar_tree.specs.declared.syntax.Parameter.{Parameter}
use Rattle.cstar_tree.specs.declared.syntax.ResultType.{ResultType}
use Rattle.cstar_tree.specs.declared.syntax.ResultType.TheVariants as R
use Rattle.cstar_tree.specs.declared.syntax.ShapeDefinition.{ShapeDefinition}
use Rattle.cstar_tree.specs.declared.syntax.TypeName.{TypeName}
use Rattle.cstar_tree.specs.Positions.{Stands, StandsMark, token_place}
use Rattle.cstar_tree.specs.Types.{IsType}
use Rattle.cstar_tree.specs.Types as T
use Rattle.cstar_tree.specs.Expressions as X
use Rattle.cstar_tree.specs.Declarations.{IsInitial, IsLength}
use Rattle.cstar_tree.specs.Declarations as D
use Rattle.cstar_tree.specs.Statements.{IsBlock}
use Rattle.cstar_tree.specs.Items.{AreParameters, IsFunction, IsItem, IsResult}
use Rattle.cstar_tree.specs.Items as I
use Rattle.grammar_parts.specs.Parts.{Part, Action, take_it, enter, skip, refuse, is_taken}
use Rattle.grammar_parts.specs.Parts as P
use Rattle.grammar_parts.specs.Actions.{act, type_action}
use Rattle.grammar_parts.proofs.Meanings.{Gives, means}
use Rattle.grammar_parts.proofs.SoundTypes.{moved}
use Rattle.grammar_parts.proofs.SoundExpressions.{vec}
use Rattle.grammar_parts.proofs.SoundStatements.{declared, sound_more_names}

pub sound_shape_definition : Global → (tokens : List Token) (at : ℕ) (kind : Kind) (place : Place) → Stands tokens at kind place (at + 1) → Gives tokens at 3 P.shape_definition (act P.shape_definition (Some kind))
sound_shape_definition heap tokens at (K.Mark M.LeftBracket) place s = (
  lit≤ tt,
  refl,
  λ to below rest.
      let two = rest.3.1 in let three = rest.3.3.0 in let one = rest.1 in
      let all = rest.3.3.1 at place (rest.2.expr ∷ []) (X.first_index (X.index_is s rest.2.spelled rest.3.2.1)) (omega arith) in
      let few : length all.0 < 2 ^ 41 = (let f = all.6 in omega arith) in
      (record { extents = vec Expr heap all.0 few; name = record { word = all.2; place = all.3 } }, I.shape_definition all.4 all.5),
)
sound_shape_definition heap tokens at other place s = tt

pub sound_more_shapes : (tokens : List Token) (at : ℕ) (kind : Kind) (place : Place) → Stands tokens at kind place (at + 1) → Gives tokens at 2 P.more_shapes (act P.more_shapes (Some kind))
sound_more_shapes tokens at (K.Mark M.Comma) place s = (lit≤ tt, refl, λ to below rest. λ begin list are few. let one = rest.1 in rest.3.1 begin (list ++ rest.2.0 ∷ []) (I.next_shape are s rest.2.1) (omega (arith, length-append list (rest.2.0 ∷ []))))
sound_more_shapes tokens at (K.Mark M.Semicolon) place s = (lit≤ tt, refl, λ to below rest. λ begin list are few. (list, at, place, are, moved rest s, omega (arith, rest)))
sound_more_shapes tokens at other place s = tt

-- parameters
pub typed_parameters : (tokens : List Token) (at : ℕ) (b : Bool) → Gives tokens at 3 P.parameters (if b then enter P.type (P.name ∷ P.more_parameters ∷ []) else skip)
typed_parameters tokens at true = (
  lit≤ tt,
  refl,
  λ to below rest. let n = rest.3.2.2.next_is in let two = rest.3.1 in
      let p : Parameter = record { type_name = rest.2.0; name = record { word = rest.3.2.0; place = rest.3.2.1 } } in
      let all = rest.3.3.1 at (p ∷ []) (I.first_parameter (I.parameter rest.2.1 rest.3.2.2)) (omega arith) in (all.0, I.named all.1, all.2),
)
typed_parameters tokens at false = ([], I.nothing, omega arith)

pub sound_parameters : (tokens : List Token) (at : ℕ) (kind : Kind) (place : Place) → Stands tokens at kind place (at + 1) → Gives tokens at 3 P.parameters (act P.parameters (Some kind))
sound_parameters tokens at (K.Mark M.Void) place s = (lit≤ tt, refl, λ to below rest. ([], AreParameters.void (moved rest s), omega arith))
sound_parameters tokens at other place s = typed_parameters tokens at (is_taken (type_action (Some other)))

pub sound_parameter : (tokens : List Token) (at : ℕ) (kind : Kind) → Gives tokens at 2 P.parameter (act P.parameter (Some kind))
sound_parameter tokens at kind = (lit≤ tt, refl, λ to below rest. (record { type_name = rest.2.0; name = record { word = rest.3.1.0; place = rest.3.1.1 } }, I.parameter rest.2.1 rest.3.1.2))

pub sound_more_parameters : (tokens : List Token) (at : ℕ) (kind : Kind) (place : Place) → Stands tokens at kind place (at + 1) → Gives tokens at 2 P.more_parameters (act P.more_parameters (Some kind))
sound_more_parameters tokens at (K.Mark M.Comma) place s = (lit≤ tt, refl, λ to below rest. λ begin list are few. let one = rest.1 in rest.3.1 begin (list ++ rest.2.0 ∷ []) (I.next_parameter are s rest.2.1) (omega (arith, length-append list (rest.2.0 ∷ []))))
sound_more_parameters tokens at other place s = λ begin list are few. (list, are, few)

-- items
type_place : {tokens : List Token} {from to : ℕ} {t : TypeName} → IsType tokens from t to → token_place tokens from ≡ Some t.place
type_place (T.scalar there words) = there
type_place (T.parallel there words colon shape) = there

a_function : {tokens : List Token} {from a b c d e to : ℕ} {word : List ℕ} {p begin end : Place} {list : List Parameter} → Global → d ≤ 2 ^ 40 → (place : Place) → token_place tokens from ≡ Some place → (result : ResultType) → IsResult tokens from result a → Stands tokens a (K.Name word) p b → StandsMark tokens b M.LeftParen begin c → AreParameters tokens c list d → length list ≤ d → StandsMark tokens d M.RightParen end e → (body : Block) → IsBlock tokens e body to → (item : Item) × IsItem tokens from item to
a_function {word = word} {p = p} {list = list} heap below place there result is name open_it parameters few close_it body braces =
    let fewer : length list < 2 ^ 41 = omega arith in
    let f : Function = record { place = place; result = result; name = record { word = word; place = p }; parameters = vec Parameter heap list fewer; body = body } in
    (V.Function f, I.function_is (I.function f there is name open_it parameters close_it braces))

variables : {tokens : List Token} {from a b c d to : ℕ} {word : List ℕ} {place : Place} {l : Option Expr} → Global → to ≤ 2 ^ 40 → (t : TypeName) → IsType tokens from t a → Stands tokens a (K.Name word) place b → IsLength tokens b l c → b ≤ c → (i : Option Initializer) → IsInitial tokens c i d → c ≤ d → means tokens P.more_names d to → (item : Item) × IsItem tokens from item to
variables {d = d} heap below t type name long first i initial second more = let whole = declared heap below t type name long first i d initial second more in (V.Variables whole.0, I.variables whole.1)

pub sound_behind_typed_name : Global → (tokens : List Token) (at : ℕ) (kind : Kind) (place : Place) → Stands tokens at kind place (at + 1) → Gives tokens at 4 P.behind_typed_name (act P.behind_typed_name (Some kind))
sound_behind_typed_name heap tokens at (K.Mark M.LeftParen) place s = (
  lit≤ tt,
  refl,
  λ to below rest. λ begin mid t word p type name. let two = rest.3.1 in let three = rest.3.3.0 in
      a_function heap (omega arith) t.place (type_place type) (R.Written t) (I.written type) name s rest.2.1 rest.2.2 rest.3.2.1 rest.3.3.1.0 rest.3.3.1.1,
)
sound_behind_typed_name heap tokens at (K.Mark M.LeftBracket) place s = (
  lit≤ tt,
  refl,
  λ to below r0. λ begin mid t word p type name. let r1 = r0.3 in let r2 = r1.3 in let one = r0.1 in let two = r1.1 in
      variables heap below t type name (D.length_is s r0.2.spelled r1.2.1) (omega arith) r2.2.0 r2.2.1 r2.1 r2.3.1,
)
sound_behind_typed_name heap tokens at (K.Mark M.Equal) place s = (
  lit≤ tt,
  refl,
  λ to below r0. λ begin mid t word p type name. let one = r0.1 in
      variables heap below t type name D.no_length (omega arith) (Some (record { place = place; value = r0.2.expr })) (D.initial_is s r0.2.spelled) (omega arith) r0.3.1,
)
sound_behind_typed_name heap tokens at (K.Mark M.Comma) place s = let g = sound_more_names tokens at (K.Mark M.Comma) place s in (lit≤ tt, refl, λ to below rest. λ begin mid t word p type name. variables heap below t type name D.no_length (omega arith) None D.no_initial (omega arith) (g.2 to below rest))
sound_behind_typed_name heap tokens at (K.Mark M.Semicolon) place s = let g = sound_more_names tokens at (K.Mark M.Semicolon) place s in (lit≤ tt, refl, λ to below rest. λ begin mid t word p type name. variables heap below t type name D.no_length (omega arith) None D.no_initial (omega arith) (g.2 to below rest))
sound_behind_typed_name heap tokens at other place s = tt

pub typed_items : (tokens : List Token) (at : ℕ) (b : Bool) → Gives tokens at 6 P.items (if b then enter P.type (P.name ∷ P.behind_typed_name ∷ P.items ∷ []) else refuse)
typed_items tokens at true = (lit≤ tt, refl, λ to below r0. λ begin list are. let r1 = r0.3 in let r2 = r1.3 in let item = r2.2 at r0.0 r0.2.0 r1.2.0 r1.2.1 r0.2.1 r1.2.2 in r2.3.1 begin (list ++ item.0 ∷ []) (I.one_more are item.1))
typed_items tokens at false = tt

pub sound_items : Global → (tokens : List Token) (at : ℕ) (kind : Kind) (place : Place) → Stands tokens at kind place (at + 1) → Gives tokens at 6 P.items (act P.items (Some kind))
sound_items heap tokens at (K.Mark M.Shape) place s = (
  lit≤ tt,
  refl,
  λ to below rest. λ begin list are. let one = rest.1 in let two = rest.3.1 in let three = rest.3.3.0 in
      let all = rest.3.2 (at + 1) (rest.2.0 ∷ []) (I.first_shape rest.2.1) (omega arith) in
      let few : length all.0 < 2 ^ 41 = (let f = all.5 in omega arith) in
      rest.3.3.1 begin (list ++ V.Shapes place (vec ShapeDefinition heap all.0 few) ∷ []) (I.one_more are (I.shapes s all.3 all.4)),
)
sound_items heap tokens at (K.Mark M.Void) place s = (
  lit≤ tt,
  refl,
  λ to below r0. λ begin list are. let r1 = r0.3 in let r2 = r1.3 in let r3 = r2.3 in let r4 = r3.3 in let three = r3.1 in let four = r4.1 in let five = r4.3.0 in
      let item = a_function heap (omega arith) place s.place_is R.Void (IsResult.void s) r0.2.2 r1.2.1 r2.2.1 r2.2.2 r3.2.1 r4.2.0 r4.2.1 in r4.3.1 begin (list ++ item.0 ∷ []) (I.one_more are item.1),
)
sound_items heap tokens at (K.Name word) place s = (
  lit≤ tt,
  refl,
  λ to below r1. λ begin list are. let r2 = r1.3 in let r3 = r2.3 in let r4 = r3.3 in let three = r3.1 in let four = r4.1 in let five = r4.3.0 in
      let item = a_function heap (omega arith) place s.place_is R.Unwritten I.unwritten s r1.2.1 r2.2.1 r2.2.2 r3.2.1 r4.2.0 r4.2.1 in r4.3.1 begin (list ++ item.0 ∷ []) (I.one_more are item.1),
)
sound_items heap tokens at other place s = typed_items tokens at (is_taken (type_action (Some other)))
