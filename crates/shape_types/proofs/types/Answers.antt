use Rattle.std.proofs.Common.{◌≡◌, Bool, false, not, refl, subst, sym, true, true≢false}
use Rattle.std.proofs.lemmas.Result.{IfOk-weaker}
use Rattle.cstar_tree.specs.declared.syntax.Tree.{Tree}
use Rattle.cstar_tree.specs.FileScopes.{file_known}
use Rattle.faultless_files.specs.Files.{IsWellNamed}
use Rattle.file_names.specs.Numbers.{HasFewNames}
use Rattle.shape_types.specs.Plain.{IsPlainTree}
use Rattle.shape_types.specs.TypedFiles.{AreTyped, IsTypedFile}
use Rattle.shape_types.proofs.types.Goals as goal

not_false : (b : Bool) → not b ≡ false → b ≡ true
not_false true is = refl
not_false false is = absurd (true≢false is)

pub returns-clause-exact : goal.returns-clause-exact
returns-clause-exact c named plain =
    let few : HasFewNames (file_known c.args.tree.now) = record { shapes = c.has_few_shapes.ensures c.if-not-has_few_shapes.false; all = named } in
    let same = c.new-file.ensures.tree in
    let typed = subst (λ (t : Tree). AreTyped t c.type_file.new.file.shapes.items c.in-Ok.typing) same (c.in-Ok.ensures.typed (subst (λ (t : Tree). HasFewNames (file_known t)) (sym same) few) (subst IsPlainTree (sym same) plain)) in
    let all = typed (not_false c.in-Ok.typing.0.is_whole c.if-not-declared.false) in
    let program = all.2 c.if-not-program.false in
    c.with_needs.ensures.exact c.args.tree.now all.0 all.1 program.0

pub returns-clause-named : goal.returns-clause-named
returns-clause-named c named plain =
    let few : HasFewNames (file_known c.args.tree.now) = record { shapes = c.has_few_shapes.ensures c.if-not-has_few_shapes.false; all = named } in
    let same = c.new-file.ensures.tree in
    let typed = subst (λ (t : Tree). AreTyped t c.type_file.new.file.shapes.items c.in-Ok.typing) same (c.in-Ok.ensures.typed (subst (λ (t : Tree). HasFewNames (file_known t)) (sym same) few) (subst IsPlainTree (sym same) plain)) in
    let all = typed (not_false c.in-Ok.typing.0.is_whole c.if-not-declared.false) in
    let program = all.2 c.if-not-program.false in
    IfOk-weaker c.with_needs.result (IsTypedFile c.args.tree.now) (λ t. IsWellNamed c.args.tree.now) (λ t is. program.1) (c.with_needs.ensures.exact c.args.tree.now all.0 all.1 program.0)
