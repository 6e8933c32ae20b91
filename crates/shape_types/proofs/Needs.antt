-- Where the machine has room, the needs are told as they are.
use Rattle.std.proofs.Common.{◌≡◌, ◌≤◌, ◌+◌, ◌*◌, ◌^◌, ◌&&◌, nat_le, ℕ, zero, suc, ℤ, pos, negsuc, length, map, Bool, true, false, List, [], ◌∷◌, ◌++◌, Option, Some, None, if◌then◌else◌, arith, refl, ap, subst, ◌∙◌}
use Rattle.std.proofs.Math.Nat.{le-mul_of_pos_right, one-le-mul}
use Rattle.cstar_tree.specs.declared.syntax.Expr.{Expr}
use Rattle.cstar_tree.specs.declared.syntax.Item.{Item}
use Rattle.cstar_tree.specs.declared.syntax.ShapeDefinition.{ShapeDefinition}
use Rattle.cstar_tree.specs.declared.syntax.Tree.{Tree}
use Rattle.cstar_tree.specs.declared.typed.Instance.{Instance}
use Rattle.cstar_tree.specs.declared.typed.ShapeInfo.{ShapeInfo}
use Rattle.cstar_tree.specs.declared.typed.Typed.{Typed}
use Rattle.cstar_tree.specs.declared.typed.VarInfo.{VarInfo}
use Rattle.cstar_tree.specs.Constants.{constant_number, product}
use Rattle.cstar_tree.specs.FileScopes.{Known, bounded, defined_extents, extent_of, extents_from, file_place, next_extent}
use Rattle.cstar_tree.specs.ProgramTypes.{TypesFile, TypesItems, TypesShapes}
use Rattle.cstar_tree.specs.ProgramTypes as P
use Rattle.cstar_tree.specs.Room.{HasRoom, blocks, machine_bits, need, needs_from}
use Rattle.cstar_tree.specs.Scopes.{Binding, Here}
use Rattle.shape_room.specs.Counted.{kept}
use Rattle.shape_types.specs.TypedFiles.{IsTypedFile}

-- each shape has a position
unfoldable AreFull : List ShapeInfo → Type 0
AreFull [] = Unit {0}
AreFull (s ∷ ss) = (1 ≤ product s.extents.items) × AreFull ss

-- ---- shapes that are typed

one_extent : (n : Option ℤ) (k : ℕ) → extent_of n ≡ Some k → 1 ≤ k
one_extent None k is = absurd (cc)
one_extent (Some (pos zero)) k is = absurd (cc)
one_extent (Some (pos (suc n))) k is = let e : suc n ≡ k = cc in omega (arith, e)
one_extent (Some (negsuc n)) k is = absurd (cc)

full_extents : (here : Here) (es : List Expr) (ns : List ℕ) → extents_from here es ≡ Some ns → 1 ≤ product ns
unfolding extents_from product
full_extents here [] ns is = let e : [] ≡ ns = cc in subst (λ (l : List ℕ). 1 ≤ product l) e (omega arith)
full_extents here (e ∷ es) ns is = next (extent_of (constant_number here e)) (extents_from here es) refl (full_extents here es) is
  where
    next : (first : Option ℕ) (rest : Option (List ℕ)) → extent_of (constant_number here e) ≡ first → ((tail : List ℕ) → rest ≡ Some tail → 1 ≤ product tail) → next_extent first rest ≡ Some ns → 1 ≤ product ns
    next None rest a b is = absurd (cc)
    next (Some n) None a b is = absurd (cc)
    next (Some n) (Some tail) a b is = let all : n ∷ tail ≡ ns = cc in subst (λ (l : List ℕ). 1 ≤ product l) all (one-le-mul (one_extent (constant_number here e) n a) (b tail refl))

bounded_is : (extents : Option (List ℕ)) (ns : List ℕ) → bounded extents ≡ Some ns → extents ≡ Some ns
bounded_is None ns is = absurd (cc)
bounded_is (Some extents) ns is = by (nat_le (length extents) 4 && nat_le (product extents) (2 ^ 20)) is
  where
    by : (b : Bool) → (if b then Some extents else None) ≡ Some ns → Some extents ≡ Some ns
    by true is = is
    by false is = absurd (cc)

full_definition : (here : Here) (s : ShapeDefinition) (ns : List ℕ) → defined_extents here s ≡ Some ns → 1 ≤ product ns
unfolding defined_extents
full_definition here s ns is = full_extents here s.extents.items ns (bounded_is (extents_from here s.extents.items) ns is)

full_shapes : {functions : List Binding} {known : Known} {ss : List ShapeDefinition} {infos : List ShapeInfo} → TypesShapes functions known ss infos → AreFull infos
unfolding AreFull
full_shapes P.no_shape = tt
full_shapes {functions} (P.next_shape {known = known} {s = s} {info = info} named is rest) = (full_definition (file_place functions known) s info.extents.items is, full_shapes rest)

full_both : (xs ys : List ShapeInfo) → AreFull xs → AreFull ys → AreFull (xs ++ ys)
unfolding AreFull
full_both [] ys first rest = rest
full_both (x ∷ xs) ys first rest = (first.0, full_both xs ys first.1 rest)

full_items : {functions : List Binding} {known : Known} {items : List Item} {infos : List ShapeInfo} {vars : List VarInfo} → TypesItems functions known items infos vars → AreFull infos
unfolding AreFull
full_items P.no_item = tt
full_items (P.shapes {infos = infos} {rest = rest} typed more) = full_both infos rest (full_shapes typed) (full_items more)
full_items (P.variables is typed more) = full_items more
full_items (P.function more) = full_items more

-- ---- needs

small : (n b rest : ℕ) → 1 ≤ b → kept n * 512 * b + rest ≤ 2 ^ 30 → kept n ≡ n
small n b rest some room =
    let more : kept n * 512 ≤ kept n * 512 * b = le-mul_of_pos_right (kept n * 512) (omega (arith, some)) in
    omega (arith, more, room)

one_block : (extents : List ℕ) → 1 ≤ product extents → 1 ≤ blocks extents
unfolding blocks
one_block extents full = omega (arith, full)

all_told : (vars : List VarInfo) (instances : List Instance) (number : ℕ) (shapes : List ShapeInfo) → AreFull shapes → machine_bits shapes (map kept (needs_from vars instances number shapes)) ≤ 2 ^ 30 → map kept (needs_from vars instances number shapes) ≡ needs_from vars instances number shapes
unfolding needs_from machine_bits AreFull
all_told vars instances number [] full room = refl
all_told vars instances number (s ∷ shapes) full room =
    let own = need vars instances number in
    let later = needs_from vars instances (number + 1) shapes in
    let rest = machine_bits shapes (map kept later) in
    let first = small own (blocks s.extents.items) rest (one_block s.extents.items full.0) room in
    ap (λ (n : ℕ). n ∷ map kept later) first ∙ ap (λ (ns : List ℕ). own ∷ ns) (all_told vars instances (number + 1) shapes full.1 (omega (arith, room)))

pub types_file : (tree : Tree) (typed : Typed) → IsTypedFile tree typed → HasRoom typed.shapes.items typed.need.items → TypesFile tree typed
types_file tree typed is room = record {
  items = is.items;
  instances = is.instances;
  needs = is.needs ∙ all_told typed.vars.items typed.instances.items 0 typed.shapes.items (full_items is.items) (subst (λ (ns : List ℕ). HasRoom typed.shapes.items ns) is.needs room);
}
