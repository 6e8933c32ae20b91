-- The initialiser of a parallel variable of a block stores its value as an assignment to that variable does.
use Rattle.std.proofs.Common.{◌≡◌, ◌∙◌, ℕ, ◌+◌, ◌<◌, Bool, not, ◌&&◌, true, length, slice_get, Option, Some, None, refl, sym, ap, subst, arith, inl, if◌then◌else◌}
use Rattle.std.specs.Prelude.{IfSome, IsSome, is_none, nat_le}
use Rattle.std.proofs.lemmas.Bool.Decides.{nat_tests}
use Rattle.cstar_base.specs.declared.faults.RunFault.TheVariants.{DivZero}
use Rattle.cstar_base.specs.declared.operators.Place.{Place}
use Rattle.cstar_base.proofs.NumberLaws.{kind_bits}
use Rattle.cstar_tree.specs.declared.syntax.AssignOp.TheVariants as A
use Rattle.cstar_tree.specs.declared.typed.ShapeInfo.{ShapeInfo}
use Rattle.cstar_tree.specs.declared.typed.TExpr.{TExpr}
use Rattle.cstar_tree.specs.declared.typed.TExpr as T
use Rattle.cstar_tree.specs.declared.typed.ValueType.{ValueType}
use Rattle.cstar_tree.specs.declared.typed.VarInfo.{VarInfo}
use Rattle.cstar_tree.specs.declared.typed.Variable.{Variable}
use Rattle.cstar_tree.specs.declared.typed.Variable.TheVariants as V
use Rattle.cstar_tree.specs.Typed.{type_of}
use Rattle.code_lengths.specs.Lowerable.{IsLowerable}
use Rattle.code_lengths.specs.Naming.{IsDeclared, NamesVariables}
use Rattle.code_lengths.specs.Ready.{HasCode}
use Rattle.code_lengths.specs.Shaped.{IsShaped, IsTarget}
use Rattle.lower_base.specs.declared.emit.Out.{Out}
use Rattle.lower_base.specs.Drafts.{Draft, Fails, Made, Makes, then_make}
use Rattle.lower_base.specs.Operators.{assign_op_of}
use Rattle.lower_expr.specs.declared.operands.Own.{Own}
use Rattle.lower_expr.specs.Effects.{assigned_own, assignment_effect, effect_of, folds, variable_assigned, whole_of, writes_itself}
use Rattle.lower_expr.specs.Operands.{own_of}
use Rattle.lower_expr.specs.Steps.{is_kept}
use Rattle.lower_expr.specs.Values.{value_of}
use Rattle.lower_stmt.specs.Variables.{variable_of}
use Rattle.paris_code.specs.Code.{CodeState}
use Rattle.source_meaning.specs.Expressions.{evaluated, located}
use Rattle.source_meaning.specs.Programs.{extents_of}
use Rattle.source_meaning.specs.Reductions.{divides_by_zero, updated}
use Rattle.source_meaning.specs.State.{Ends, Gives, Outcome, State, then_do, with_positions}
use Rattle.source_meaning.specs.Targets.{assign_to, assigned, new_value, read, stored, variable_target}
use Rattle.source_meaning.specs.Values.{Active, Parallel, Scope, Value, at, each, failing, positions, unless}
use Rattle.source_meaning.proofs.ConstantLaws.{Boxed}
use Rattle.vp_sets.specs.Positions.{is_geometry, rank_fits}
use Rattle.code_follows.specs.Fragment.{type_named}
use Rattle.code_follows.proofs.Besides.{IsCoded, initial_code}
use Rattle.code_follows.proofs.Following.{Follows, Ran}
use Rattle.code_follows.proofs.Settings.{Setting, layout}
use Rattle.fields_follow.proofs.Forms.{either_some}
use Rattle.fields_follow.proofs.Instructions.{shapes}
use Rattle.fields_follow.proofs.Meaning.{none_fails}
use Rattle.fields_follow.proofs.Places.{PlacesFields}

-- what is said behind a value that is stored is said of where it is stored
behind_value : {A B C : Type 0} (g : Setting) (R : State → B → Draft → Type 0) (s : CodeState) (o : Outcome A) (k : A → State → C) (h : A → State → State) (made : Made B) → Follows g (λ v u y f. R u y f) s (then_do o (λ v u. Gives (k v u) (h v u))) made → Follows g (λ v u y f. R (h v u) y f) s o made
unfolding Follows then_do
behind_value g R s (Gives v u) k h (Makes y e) said = said
behind_value g R s (Ends early u) k h (Makes y e) said = said
behind_value g R s (Gives v u) k h Fails said = tt
behind_value g R s (Ends early u) k h Fails said = tt

-- a shape of the image is one of the program's
shape_is : (g : Setting) → PlacesFields g → (set : ℕ) → set < length (shapes g) → IsSome (slice_get g.typed.shapes.items set)
unfolding extents_of is_geometry rank_fits
shape_is g places set exists = by (slice_get g.typed.shapes.items set) (ap is_geometry (places.grids set exists).0 ∙ places.geometry set exists)
  where
    by : (o : Option ShapeInfo) → is_geometry (extents_of o) ≡ true → IsSome o
    by (Some info) is = refl
    by None is = cc

module _ (g : Setting) (n : ℕ) (info : VarInfo) (set : ℕ) (e : TExpr) (place : Place) (p q : Boxed) (shaped : info.shape ≡ Some set) (c : IsCoded g n info e) where
  abbrev variable : TExpr
  variable = T.Variable (type_named info) (V.Local n)

  abbrev pub assignment : TExpr
  assignment = T.Assign' (type_named info) place A.Set p variable q e

  -- the assignment has code too
  pub assignment_coded : PlacesFields g → set < length (shapes g) → HasCode g.typed g.instance (n + 1) assignment
  unfolding IsShaped IsTarget IsLowerable NamesVariables IsDeclared
  assignment_coded places exists = record {
    shaped = (refl, c.value.parallel, tt, c.code.shaped);
    lowerable = (c.value.gives, λ plain. inl (c.value.in_register plain), tt, c.code.lowerable);
    names = (
      record {
        word = info.name;
        start = info.start;
        named = c.named ∙ ap (λ (array : Option ℕ). Some (record info { array = array })) c.plain;
        declared = omega arith;
        shape = subst (λ (o : Option ℕ). IfSome o (λ (number : ℕ). IsSome (slice_get g.typed.shapes.items number))) (sym shaped) (shape_is g places set exists);
      },
      c.code.names,
    );
  }

  writes_own : assigned_own A.Set variable e ≡ Some (record { shape = info.shape; variable = V.Local n })
  unfolding own_of writes_itself folds assign_op_of
  writes_own =
      ap (λ (o : Option Own). elim o as (λ _. Option Own) [ Some own ↦ if writes_itself own A.Set info.elem e then Some own else None | None ↦ None ]) (either_some (is_none info.shape) (nat_le 1 info.elem.bits) mine (let some = (kind_bits info.elem.bits info.elem.signed info.elem.kind).0 in grind (arith, nat_tests, some)))
      ∙ ap (λ (b : Bool). if not (b && not (is_kept e)) && true then Some mine else None) (ap is_none shaped)
    where
      mine : Own
      mine = record { shape = info.shape; variable = V.Local n }

  code_is : (d : Draft) → effect_of g.typed (layout g) assignment d ≡ initial_code g n info e d
  unfolding effect_of assignment_effect assign_op_of variable_of
  code_is d =
      ap (λ (o : Option Own). elim o as (λ _. Made Out) [
        | Some own ↦ then_make (whole_of g.typed (layout g) variable own d) (λ dest after. variable_assigned g.typed (layout g) A.Set place variable e dest after)
        | None ↦ value_of g.typed (layout g) info.elem.bits assignment d
      ]) writes_own

  module _ (scope : Scope) (active : Active) where
    stores : (from : ValueType) (v : Value) (st : State) → assigned scope active place A.Set (type_named info) from (variable_target info.shape (V.Local n) 0) v st ≡ Gives (Parallel (λ x. at v x)) (stored active (variable_target info.shape (V.Local n) 0) v st)
    unfolding assigned failing unless divides_by_zero assign_to new_value read stored each updated variable_target at
    stores from v st =
        subst (λ (o : Option ℕ). assigned scope active place A.Set (record { elem = info.elem; shape = o }) from (variable_target o (V.Local n) 0) v st ≡ Gives (Parallel (λ x. at v x)) (stored active (variable_target o (V.Local n) 0) v st)) (sym shaped)
        (ap (λ (o : Option ℕ). unless (elim o [ None ↦ None | Some x ↦ Some (Some x) ]) DivZero place st (Gives (Parallel (λ x. at v x)) (with_positions (V.Local n) 0 (active set) (λ x. at v x) st))) (none_fails (active set) (positions scope set)))

    means : (st : State) → evaluated scope assignment active st ≡ then_do (evaluated scope e active st) (λ v u. Gives (Parallel (λ x. at v x)) (stored active (variable_target info.shape (V.Local n) 0) v u))
    unfolding evaluated located then_do
    means st = ap (λ (f : Value → State → Outcome Value). then_do (evaluated scope e active st) f) (λ j v u. stores (type_of e) v u j)

    -- its code does what the assignment's does
    pub initial_follows : (alive : Variable → Type 0) (d : Draft) (s : CodeState) (st : State) → Follows g (λ v u out f. Ran g alive d s u f) s (evaluated scope assignment active st) (effect_of g.typed (layout g) assignment d)
        → Follows g (λ v u out f. Ran g alive d s (stored active (variable_target info.shape (V.Local n) 0) v u) f) s (evaluated scope e active st) (initial_code g n info e d)
    initial_follows alive d s st follows =
        behind_value g (λ u out f. Ran g alive d s u f) s (evaluated scope e active st) (λ v u. Parallel (λ x. at v x)) (λ v u. stored active (variable_target info.shape (V.Local n) 0) v u) (initial_code g n info e d)
        (subst (λ (o : Outcome Value). Follows g (λ v u out f. Ran g alive d s u f) s o (initial_code g n info e d)) (means st)
        (subst (λ (m : Made Out). Follows g (λ v u out f. Ran g alive d s u f) s (evaluated scope assignment active st) m) (code_is d) follows))
