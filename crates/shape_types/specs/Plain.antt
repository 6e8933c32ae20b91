-- The expressions of a file are plain: the numbers in them have 32 bits.
use Rattle.std.specs.List.{All}
use Rattle.std.specs.Prelude.{IfSome}
use Rattle.cstar_tree.specs.declared.syntax.Declarator.{Declarator}
use Rattle.cstar_tree.specs.declared.syntax.Initializer.{Initializer}
use Rattle.cstar_tree.specs.declared.syntax.Item.{Item}
use Rattle.cstar_tree.specs.declared.syntax.Item.TheVariants as I
use Rattle.cstar_tree.specs.declared.syntax.ShapeDefinition.{ShapeDefinition}
use Rattle.cstar_tree.specs.declared.syntax.Tree.{Tree}
use Rattle.cstar_tree.specs.Scopes.{Here}
use Rattle.type_expressions.specs.Walks.{IsPlain}
use Rattle.type_statements.specs.Ready.{InBlock}

abbrev pub IsPlainDeclarator : Declarator → Type 0
IsPlainDeclarator d = IfSome d.length IsPlain × IfSome d.initial (λ (i : Initializer). IsPlain i.value)

-- so are those of an item, at whatever place a body stands
abbrev pub IsPlainItem : Item → Type 0
IsPlainItem (I.Shapes p shapes) = All (λ (s : ShapeDefinition). All IsPlain s.extents.items) shapes.items
IsPlainItem (I.Variables d) = All IsPlainDeclarator d.variables.items
IsPlainItem (I.Function f) = (here : Here) → InBlock (λ h e. IsPlain e) here f.body

abbrev pub IsPlainTree : Tree → Type 0
IsPlainTree tree = All IsPlainItem tree.items.items
