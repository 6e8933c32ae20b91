-- Reading the syntax tree.
use Rattle.std.specs.Prelude.{List, [], ◌∷◌}
use Rattle.cstar_base.specs.declared.operators.Place.{Place}
use Rattle.cstar_tree.specs.declared.syntax.Expr.{Expr}
use Rattle.cstar_tree.specs.declared.syntax.Expr as E
use Rattle.cstar_tree.specs.declared.syntax.Cast.{Cast}

-- the place of the first of the casts, or else this one
abbrev pub first_place : List Cast → Place → Place
first_place [] otherwise = otherwise
first_place (c ∷ _) _ = c.place

-- the place of an expression's node
abbrev pub place_of : Expr → Place
place_of (E.Assign' p _ _ _ _ _) = p
place_of (E.Choice' p _ _ _ _ _ _) = p
place_of (E.Binary' p _ _ _ _ _) = p
place_of (E.Prefix' p _ _ _) = p
place_of (E.Casts' cs _ e) = first_place cs.items (place_of e)
place_of (E.ParallelCast' p _ _ _) = p
place_of (E.Postfix' p _ _ _) = p
place_of (E.Name n) = n.place
place_of (E.Element' n _ _ _) = n.place
place_of (E.Number p _ _) = p
place_of (E.Dot p) = p
place_of (E.Brackets' p _ _) = p
place_of (E.Call' n _ _) = n.place
place_of (E.LeftIndex' p _ _ _) = p
place_of (E.Pcoord' p _ _) = p
place_of (E.PositionsOf p _) = p
place_of (E.RankOf p _) = p
place_of (E.DimOf' p _ _ _) = p
place_of (E.Scan' p _ _ _ _ _ _ _ _ _) = p
place_of (E.Enumerate' p _ _ _ _ _ _) = p
place_of (E.Printf' p _ _ _) = p
place_of (E.GetChar p) = p
