-- The typed statements that a statement becomes differ only in where their parts lie in memory.
use Rattle.std.proofs.Common.{◌≡◌, ℕ, List, [], ◌∷◌, ◌++◌, Option, Some, None, refl, sym, ap, ◌∙◌, subst}
use Rattle.std.proofs.lemmas.Option.{same_Some}
use Rattle.std.specs.List.{AllZip}
use mathlib.Core.Former.{Count}
use Rattle.cstar_tree.specs.declared.syntax.Declaration.{Declaration}
use Rattle.cstar_tree.specs.declared.syntax.Declarator.{Declarator}
use Rattle.cstar_tree.specs.declared.syntax.Expr.{Expr}
use Rattle.cstar_tree.specs.declared.syntax.Initializer.{Initializer}
use Rattle.cstar_tree.specs.declared.syntax.Stmt.{Stmt, Row_of-Stmt, end_of-Stmt, more_of-Stmt, items-the_row-Stmt, Held-Stmt-If-3, None', Some'}
use Rattle.cstar_tree.specs.declared.syntax.Stmt as S
use Rattle.cstar_tree.specs.declared.typed.LocalVar.{LocalVar}
use Rattle.cstar_tree.specs.declared.typed.TExpr.{TExpr}
use Rattle.cstar_tree.specs.declared.typed.TStmt.{TStmt}
use Rattle.cstar_tree.specs.declared.typed.ValueType.{ValueType}
use Rattle.cstar_tree.specs.BlockScopes.{behind, behind_declarators}
use Rattle.cstar_tree.specs.Headers.{Program, Returns}
use Rattle.cstar_tree.specs.Scopes.{Here, VariableType, under}
use Rattle.cstar_tree.specs.StatementTypes.{IsReturned, TypesDeclarations, TypesEffectIf, TypesInitial, TypesLocal, TypesLocals, TypesStatement, TypesStatements, TypesTestIf, variable_info}
use Rattle.cstar_tree.specs.StatementTypes as Y
use Rattle.cstar_tree.specs.TypedParts.{optional}
use Rattle.faultless_files.proofs.AlikeStatements.{LocalsAlike, OptionsAlike, StatementsAlike, both_alike, initials_alike, locals_append, options_alike, same_bits, statement_alike}
use Rattle.faultless_files.proofs.AlikeTrees.{AreAlike, fitted_alike}
use Rattle.faultless_files.proofs.SameTrees.{AreNumbered, same}
use Rattle.faultless_files.proofs.StatementForms.{ElseForm, ReturnForm, context_bits, statement_form}

module _ (program : Program) (numbered : AreNumbered program) where
  -- ---- declarations

  same_initial : {here : Here} {v w : ValueType} {i : Option Initializer} {x y : Option TExpr} → v ≡ w → TypesInitial program here v i x → TypesInitial program here w i y → OptionsAlike x y
  same_initial is Y.TypesInitial.no_initial Y.TypesInitial.no_initial = tt
  same_initial is (Y.TypesInitial.initial {i = i} typed at_hand takes fit) (Y.TypesInitial.initial typed_too at_hand_too takes_too fit_too) = fitted_alike is (same program numbered i.value typed typed_too) fit fit_too

  same_local : {here : Here} {ty : ValueType} {d : Declarator} {l k : LocalVar} → TypesLocal program here ty d l → TypesLocal program here ty d k → LocalsAlike l k
  same_local {d = d} a b =
      let one : a.variable ≡ b.variable = same_Some a.variable b.variable (sym a.its_type ∙ b.its_type) in
      record {
        info = a.info ∙ ap (λ (v : VariableType). variable_info d.name.word v 0) one ∙ sym b.info;
        initial = same_initial (ap (λ (v : VariableType). v.value) one) a.initial b.initial;
      }

  same_locals : {here : Here} {ty : ValueType} {ds : List Declarator} {ls ks : List LocalVar} → TypesLocals program here ty ds ls → TypesLocals program here ty ds ks → AllZip LocalsAlike ls ks
  same_locals Y.no_variable Y.no_variable = tt
  same_locals (Y.next_variable a more) (Y.next_variable b others) = (same_local a b, same_locals more others)

  pub same_declarations : {here : Here} {ds : List Declaration} {ls ks : List LocalVar} → TypesDeclarations program here ds ls → TypesDeclarations program here ds ks → AllZip LocalsAlike ls ks
  same_declarations Y.no_declaration Y.no_declaration = tt
  same_declarations {here = here} (Y.next_declaration {ty = ty} {d = d} {ds = ds} {ls = ls} {rest = rest} is typed more) (Y.next_declaration {ty = of} {ls = ks} {rest = others} known typed_too more_too) =
      let one : of ≡ ty = same_Some of ty (sym known ∙ is) in
      locals_append ls ks rest others
      (same_locals typed (subst (λ (t : ValueType). TypesLocals program here t d.variables.items ks) one typed_too))
      (same_declarations more (subst (λ (t : ValueType). TypesDeclarations program (behind_declarators here (Some t) d.variables.items) ds others) one more_too))

  -- ---- the expressions of statements

  same_effect : {here : Here} {e : Option Expr} {x y : Option TExpr} → TypesEffectIf program here e x → TypesEffectIf program here e y → OptionsAlike x y
  same_effect Y.TypesEffectIf.absent Y.TypesEffectIf.absent = tt
  same_effect (Y.TypesEffectIf.present {e = e} a) (Y.TypesEffectIf.present b) = same program numbered e a b

  same_test : {here : Here} {e : Option Expr} {x y : Option TExpr} → TypesTestIf program here e x → TypesTestIf program here e y → OptionsAlike x y
  same_test Y.TypesTestIf.absent Y.TypesTestIf.absent = tt
  same_test (Y.TypesTestIf.present {e = e} a) (Y.TypesTestIf.present b) = same program numbered e a.typed b.typed

  returned_alike : {here : Here} {returns : Returns} {t u f g : TExpr} → AreAlike t u → IsReturned here returns t f → IsReturned here returns u g → AreAlike f g
  returned_alike a (Y.returned at_hand takes fit) (Y.returned at_hand_too takes_too fit_too) = fitted_alike refl a fit fit_too

  module _ (returns : Returns) where
    same_returned : (here : Here) (e : Option Expr) (f g : Option TExpr) → ReturnForm program returns here e f → ReturnForm program returns here e g → OptionsAlike f g
    same_returned here None None None a b = tt
    same_returned here None None (Some g) a b = absurd b
    same_returned here None (Some f) g a b = absurd a
    same_returned here (Some e) None g a b = absurd a
    same_returned here (Some e) (Some f) None a b = absurd b
    same_returned here (Some e) (Some f) (Some g) a b = returned_alike (same program numbered e a.1 b.1) a.2 b.2

    -- ---- statements

    mutual
      pub same_statement : (s : Stmt) {here : Here} {t u : TStmt} → TypesStatement program returns here s t → TypesStatement program returns here s u → StatementsAlike t u
      same_statement (S.Block' p ds _ row) x y =
          let j = statement_form x in let k = statement_form y in let all = same_declarations j.declarations k.declarations in
          statement_alike (same_bits j.locals k.locals all) j.node k.node (initials_alike j.locals k.locals all) (same_row row j.typed k.typed)
      same_statement (S.Expression p e) x y = let j = statement_form x in let k = statement_form y in statement_alike (λ shape. refl) j.3 k.3 (same program numbered e j.2 k.2, tt) tt
      same_statement (S.If' p e _ second third) {here = here} x y =
          let j = statement_form x in let k = statement_form y in
          statement_alike (λ shape. refl) j.6 k.6 (same program numbered e j.3 k.3, tt) (same_statement second j.4 k.4, same_else third (behind here second) j.2 k.2 j.5 k.5)
      same_statement (S.While' p e _ body) x y = let j = statement_form x in let k = statement_form y in statement_alike (λ shape. refl) j.4 k.4 (same program numbered e j.2 k.2, tt) (same_statement body j.3 k.3, tt)
      same_statement (S.Do' p _ body e) x y = let j = statement_form x in let k = statement_form y in statement_alike (λ shape. refl) j.4 k.4 (same program numbered e j.2 k.2, tt) (same_statement body j.3 k.3, tt)
      same_statement (S.For' p first test step _ body) x y =
          let j = statement_form x in let k = statement_form y in
          statement_alike (λ shape. refl) j.8 k.8
          (both_alike (optional j.0 ++ optional j.1) (optional k.0 ++ optional k.1) (optional j.2) (optional k.2)
          (both_alike (optional j.0) (optional k.0) (optional j.1) (optional k.1) (options_alike j.0 k.0 (same_effect j.4 k.4)) (options_alike j.1 k.1 (same_test j.5 k.5)))
          (options_alike j.2 k.2 (same_effect j.6 k.6)))
          (same_statement body j.7 k.7, tt)
      same_statement (S.Return p value) {here = here} x y = let j = statement_form x in let k = statement_form y in statement_alike (λ shape. refl) j.2 k.2 (options_alike j.0 k.0 (same_returned here value j.0 k.0 j.1 k.1)) tt
      same_statement (S.With' p written _ body) {here = here} x y =
          let j = statement_form x in let k = statement_form y in
          let one : k.0 ≡ j.0 = same_Some k.0 j.0 (sym k.2 ∙ j.2) in
          statement_alike (λ shape. refl) j.4 k.4 tt (same_statement body j.3 (subst (λ (n : ℕ). TypesStatement program returns (under here n) body k.1) one k.3), tt)
      same_statement (S.Everywhere' p _ body) x y =
          let j = statement_form x in let k = statement_form y in
          statement_alike (λ shape. ap (λ (n : ℕ). context_bits n 1 shape) (same_Some j.0 k.0 (sym j.2 ∙ k.2))) j.4 k.4 tt (same_statement body j.3 k.3, tt)
      same_statement (S.Where' p e _ second third) {here = here} x y =
          let j = statement_form x in let k = statement_form y in
          statement_alike (λ shape. ap (λ (n : ℕ). context_bits n 2 shape) (same_Some j.0 k.0 (sym j.4 ∙ k.4))) j.8 k.8 (same program numbered e j.5 k.5, tt) (same_statement second j.6 k.6, same_else third (behind here second) j.3 k.3 j.7 k.7)
      same_statement (S.Break p) x y = statement_alike (λ shape. refl) (statement_form x) (statement_form y) tt tt
      same_statement (S.Continue p) x y = statement_alike (λ shape. refl) (statement_form x) (statement_form y) tt tt
      same_statement (S.Empty p) x y = statement_alike (λ shape. refl) (statement_form x) (statement_form y) tt tt

      same_row : {n : Count} (row : Row_of-Stmt n) {here : Here} {ts us : List TStmt} → TypesStatements program returns here (items-the_row-Stmt n row) ts → TypesStatements program returns here (items-the_row-Stmt n row) us → AllZip StatementsAlike ts us
      same_row end_of-Stmt Y.no_statement Y.no_statement = tt
      same_row (more_of-Stmt s rest) (Y.next_statement a more) (Y.next_statement b others) = (same_statement s a b, same_row rest more others)

      same_else : (s : Held-Stmt-If-3) (here : Here) (ts us : List TStmt) → ElseForm program returns here s ts → ElseForm program returns here s us → AllZip StatementsAlike ts us
      same_else None' here [] [] a b = tt
      same_else None' here [] (u ∷ us) a b = absurd b
      same_else None' here (t ∷ ts) us a b = absurd a
      same_else (Some' _ s) here [] us a b = absurd a
      same_else (Some' _ s) here (t ∷ []) [] a b = absurd b
      same_else (Some' _ s) here (t ∷ []) (u ∷ []) a b = (same_statement s a b, tt)
      same_else (Some' _ s) here (t ∷ []) (u ∷ v ∷ us) a b = absurd b
      same_else (Some' _ s) here (t ∷ v ∷ ts) us a b = absurd a

    pub same_statements : (ss : List Stmt) {here : Here} {ts us : List TStmt} → TypesStatements program returns here ss ts → TypesStatements program returns here ss us → AllZip StatementsAlike ts us
    same_statements [] Y.no_statement Y.no_statement = tt
    same_statements (s ∷ ss) (Y.next_statement a more) (Y.next_statement b others) = (same_statement s a b, same_statements ss more others)
