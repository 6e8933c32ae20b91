use Rattle.std.proofs.Common.{◌≡◌, ◌+◌, ◌-◌, ◌^◌, ◌++◌, [], ◌∷◌, true, None, Some, ◌∙◌, ap, sym}
use Rattle.std.specs.Int.{from_bool}
use Rattle.std.specs.Option.{unwrap_or}
use Rattle.std.specs.Prelude.{min}
use Rattle.cstar_tree.specs.FileScopes.{behind_variable, functions_named}
use Rattle.cstar_tree.specs.StatementTypes.{variable_info}
use Rattle.type_scopes.specs.Bindings.{variable_type}
use Rattle.shape_types.specs.FileWalk.{IsStartOf}
use Rattle.shape_types.proofs.FileLoops.{both_parts, start_settled, variable_whole}
use Rattle.shape_types.proofs.variables.variable.Goals as goal
use Rattle.shape_types.proofs.variables.variable.Goals.{then-new+in_ok-push, else-new}

pub returns-in_ok-push-2-clause-typed : goal.returns-in_ok-push-2-clause-typed
returns-in_ok-push-2-clause-typed c start k of knows plain first ty_is of_shape whole =
    let last = both_parts c.declare.new.self.is_whole c.is_some.result (sym c.require.ensures.whole ∙ whole) in
    let middle = both_parts c.variable_type.new.declared.is_whole c.is_new-new.result (sym c.declare.ensures.whole ∙ last.0) in
    let typed = c.in_ok-ty.ensures.typed start k of knows plain.0 ty_is middle.0 in
    let ty : c.unwrap_or-ty.result ≡ typed.of = c.unwrap_or-ty.ensures ∙ ap (λ o. unwrap_or o (record { elem = c.args.written.elem; shape = None; array = None })) typed.is_found in
    let counted = c.declare.ensures.known ∙ (ap (λ b. min (c.variable_type.new.declared.known + from_bool b) (2 ^ 64 - 1)) middle.1 ∙ ap (λ n. min (n + from_bool true) (2 ^ 64 - 1)) c.in_ok-ty.ensures.known) in
    let word = start_settled (IsStartOf c.unwrap_or-ty.result.elem c.in_ok-initial.initial c.args.declarator.now.initial) c.start.result c.in_ok-start.start c.start.ensures c.in_ok-start.ensures.part (sym c.is_some.ensures ∙ last.1) in
    elim c.if-new.branch [
      | then-new+in_ok-push w ↦ (variable_whole start k of c.args.file.now c.args.declared.now.known c.declare.new.self.known c.args.declarator.now c.in_ok-ty.ty c.unwrap_or-ty.result w.push.new.self c.in_ok-initial.initial (unwrap_or c.in_ok-start.start 0) c.args.declared.now.vars.items c.in_ok-info.info c.push-then-new-2.new.self.items
          knows (c.is_new-new.ensures start k knows middle.1) typed of_shape first w.in_ok-push.ensures.items counted (typed.is_found ∙ ap (λ t. Some t) (sym ty)) (λ after. c.in_ok-initial.ensures start (behind_variable (functions_named start.tree.now) (Some of) k c.args.declarator.now) (rw w.file-is after) plain.1 last.0) word (c.in_ok-info.ensures ∙ ap (variable_info c.args.declarator.now.name.word (variable_type c.unwrap_or-ty.result)) c.unwrap_or.ensures) (c.in_ok-push-2.ensures.items ∙ ap (λ v. v.items ++ c.in_ok-info.info ∷ []) (c.require.ensures.vars ∙ (c.declare.ensures.vars ∙ c.in_ok-ty.ensures.vars)))).0
      | else-new w ↦ absurd (let other = sym middle.1 ∙ w.if-new.false in cc)
    ]

pub returns-in_ok-push-2-clause-knows : goal.returns-in_ok-push-2-clause-knows
returns-in_ok-push-2-clause-knows c start k of knows plain first ty_is of_shape whole =
    let last = both_parts c.declare.new.self.is_whole c.is_some.result (sym c.require.ensures.whole ∙ whole) in
    let middle = both_parts c.variable_type.new.declared.is_whole c.is_new-new.result (sym c.declare.ensures.whole ∙ last.0) in
    let typed = c.in_ok-ty.ensures.typed start k of knows plain.0 ty_is middle.0 in
    let ty : c.unwrap_or-ty.result ≡ typed.of = c.unwrap_or-ty.ensures ∙ ap (λ o. unwrap_or o (record { elem = c.args.written.elem; shape = None; array = None })) typed.is_found in
    let counted = c.declare.ensures.known ∙ (ap (λ b. min (c.variable_type.new.declared.known + from_bool b) (2 ^ 64 - 1)) middle.1 ∙ ap (λ n. min (n + from_bool true) (2 ^ 64 - 1)) c.in_ok-ty.ensures.known) in
    let word = start_settled (IsStartOf c.unwrap_or-ty.result.elem c.in_ok-initial.initial c.args.declarator.now.initial) c.start.result c.in_ok-start.start c.start.ensures c.in_ok-start.ensures.part (sym c.is_some.ensures ∙ last.1) in
    elim c.if-new.branch [
      | then-new+in_ok-push w ↦ rw (w.file-is, c.require.ensures.known) (variable_whole start k of c.args.file.now c.args.declared.now.known c.declare.new.self.known c.args.declarator.now c.in_ok-ty.ty c.unwrap_or-ty.result w.push.new.self c.in_ok-initial.initial (unwrap_or c.in_ok-start.start 0) c.args.declared.now.vars.items c.in_ok-info.info c.push-then-new-2.new.self.items
          knows (c.is_new-new.ensures start k knows middle.1) typed of_shape first w.in_ok-push.ensures.items counted (typed.is_found ∙ ap (λ t. Some t) (sym ty)) (λ after. c.in_ok-initial.ensures start (behind_variable (functions_named start.tree.now) (Some of) k c.args.declarator.now) (rw w.file-is after) plain.1 last.0) word (c.in_ok-info.ensures ∙ ap (variable_info c.args.declarator.now.name.word (variable_type c.unwrap_or-ty.result)) c.unwrap_or.ensures) (c.in_ok-push-2.ensures.items ∙ ap (λ v. v.items ++ c.in_ok-info.info ∷ []) (c.require.ensures.vars ∙ (c.declare.ensures.vars ∙ c.in_ok-ty.ensures.vars)))).1
      | else-new w ↦ absurd (let other = sym middle.1 ∙ w.if-new.false in cc)
    ]

pub returns-else-new-2-clause-knows : goal.returns-else-new-2-clause-knows
returns-else-new-2-clause-knows c start k of knows plain first ty_is of_shape whole =
    let last = both_parts c.declare.new.self.is_whole c.is_some.result (sym c.require.ensures.whole ∙ whole) in
    let middle = both_parts c.variable_type.new.declared.is_whole c.is_new-new.result (sym c.declare.ensures.whole ∙ last.0) in
    absurd (let other = sym middle.1 ∙ c.if-new-2.false in cc)
