-- Parts of statements: what they do within themselves, and their variables.
use Rattle.std.proofs.Common.{◌≡◌, ℕ, zero, suc, ◌+◌, ◌≤◌, Bool, true, false, List, [], ◌∷◌, length, map, reverse, take, Option, Some, None, IfSome, is_none, refl, arith, if◌then◌else◌}
use Rattle.std.specs.List.{All}
use Rattle.std.proofs.lemmas.List.Elements.{All-head, All-tail}
use Rattle.cstar_tree.specs.declared.typed.Instance.{Instance}
use Rattle.cstar_tree.specs.declared.typed.LocalVar.{LocalVar}
use Rattle.cstar_tree.specs.declared.typed.TExpr.{TExpr}
use Rattle.cstar_tree.specs.declared.typed.Typed.{Typed}
use Rattle.cstar_tree.specs.declared.typed.Variable.TheVariants as V
use Rattle.cstar_tree.specs.Variables.{variables_of}
use Rattle.paris_code.specs.declared.instr.Instr.TheVariants as I
use Rattle.paris_code.specs.declared.operands.Field.{Field}
use Rattle.lower_base.specs.declared.emit.Out.{Out}
use Rattle.lower_base.specs.Drafts.{Draft, Made, Makes, then_make, step, with_instr, an_entry}
use Rattle.lower_base.specs.Layouts.{Layout, entries_of, register_of}
use Rattle.lower_expr.specs.Effects.{put_to}
use Rattle.lower_stmt.specs.declared.statement.Outcome.{Outcome}
use Rattle.lower_stmt.specs.declared.statement.Outcome.TheVariants as R
use Rattle.lower_stmt.specs.Statements as L
use Rattle.lower_stmt.specs.Statements.{condition_of, given_back, part_of, returned, stored_result}
use Rattle.lower_stmt.specs.Variables.{all_cleared, all_initialised, cleared, cleared_fields, declared, initialised, is_kept_so, variable_of, with_home}
use Rattle.code_lengths.specs.Lowerable.{IsLowerable, IsValueFor}
use Rattle.code_lengths.specs.LowerableStatements.{IsLowerableLocal}
use Rattle.code_lengths.specs.Naming.{NamesVariables}
use Rattle.code_lengths.specs.NamingStatements.{InitialsNameVariables, StandFrom}
use Rattle.code_lengths.specs.Ready.{HasCode, HasDeclared, NumbersVariables}
use Rattle.code_lengths.specs.ShapedStatements.{AreShapedLocals, IsShapedInitial}
use Rattle.code_lengths.proofs.Declaring.{info_of}
use Rattle.code_lengths.proofs.EffectLengths.{suits_by}
use Rattle.code_lengths.proofs.Homes.{all_cleared_lead}
use Rattle.code_lengths.proofs.NamedLater.{initial_later}
use Rattle.proper_code.proofs.Stretches.{Ways, is_inward}
use Rattle.proper_code.proofs.Writing.{Wrote, nothing_written, written_on}
use Rattle.proper_code.proofs.Building.{Builds, Built, IsInward, Setting, as_before, bind, makes, on_register}
use Rattle.proper_code.proofs.EffectControl.{effect_inward, next_inward, put_inward, standing_then}
use Rattle.proper_code.proofs.ExpressionControl.{within}
use Rattle.proper_code.proofs.Passing.{IsWritten, expression_then, instr_written, leads_then, made_so, passing, written_then}
use Rattle.proper_code.proofs.ShortPieces.{own_field_builds, put_value_builds}

-- an expression whose value is not used, and a condition
pub part_inward : (t : Typed) (i : Instance) (l : Layout) (n : ℕ) (part : Option TExpr) → IfSome part (HasCode t i n) → IsInward (within t i l n) (part_of t l part)
unfolding part_of
part_inward t i l n None c d e b = makes tt d e b
part_inward t i l n (Some x) c d e b = bind d _ _ (effect_inward t i l n x c.shaped c.lowerable c.names d e b) (λ _ after. makes tt after after (as_before after))

pub condition_inward : (t : Typed) (i : Instance) (l : Layout) (n : ℕ) (x : TExpr) → HasCode t i n x → IsInward (within t i l n) (condition_of t l x)
unfolding condition_of
condition_inward t i l n x c d e b = bind d _ _ (next_inward t i l n 32 true x c d e b) (λ v after. on_register after v _ (λ r. makes r after after (as_before after)))

-- what is given back
stored_inward : {on : Setting} (l : Layout) (outcome : Outcome) (v : Out) → IsInward on (stored_result l outcome v)
unfolding stored_result
stored_inward l R.Nothing v d e b = makes tt d e b
stored_inward l R.Scalar v d e b = bind d _ _ (put_value_builds _ v d e b) (λ _ after. makes tt after after (as_before after))
stored_inward l R.Parallel v d e b = bind d _ _ (own_field_builds l.outcome d e b) (λ dest between. bind between _ _ (put_value_builds _ v between between (as_before between)) (λ _ after. makes tt after after (as_before after)))

pub returned_inward : (t : Typed) (i : Instance) (l : Layout) (n : ℕ) (given : Option TExpr) (outcome : Outcome) → IfSome given (HasCode t i n) → IsInward (within t i l n) (returned t l given outcome)
unfolding returned given_back
returned_inward t i l n None outcome c d e b = makes tt d e b
returned_inward t i l n (Some x) outcome c d e b = bind d _ _ (next_inward t i l n _ true x c d e b) (λ v after. stored_inward l outcome v after after (as_before after))

-- contexts that are loaded
pub loaded_written : (w : Ways) (contexts : List Field) (d e : Draft) → Wrote w d e → Wrote w d (L.loaded contexts e)
unfolding L.loaded is_inward step
loaded_written w [] d e x = x
loaded_written w (source ∷ older) d e x = loaded_written w older d _ (instr_written w (I.LoadContext source) d e refl x)

pub restored_written : (w : Ways) (contexts : List Field) (newest : ℕ) (d e : Draft) → Wrote w d e → Wrote w d (L.restored contexts newest e)
unfolding L.restored
restored_written w contexts newest d e x = loaded_written w (take newest (reverse contexts)) d e x

-- variables that become zero
same_code : (w : Ways) (d e f : Draft) → f.code ≡ e.code → Wrote w d e → Wrote w d f
same_code w d e f same x = written_on w d e f x (nothing_written w e f same)

fields_written : (w : Ways) (many set len : ℕ) (d e : Draft) → Wrote w d e → IsWritten w d (cleared_fields many set len e)
unfolding cleared_fields an_entry then_make is_inward step
fields_written w zero set len d e x = made_so w tt d e x
fields_written w (suc many) set len d e x = fields_written w many set len d _ (instr_written w _ d _ refl (same_code w d e _ refl x))

-- a piece that answers nothing
abbrev done : Draft → Made (Unit {0})
done d = Makes tt d

cleared_written : (w : Ways) (l : Layout) (at_start : Bool) (local : LocalVar) (n : ℕ) (d e : Draft) → Wrote w d e → IsWritten w d (cleared l at_start local n e)
unfolding cleared with_home is_inward step
cleared_written w l at_start local n d e x = by local.info.shape
  where
    kept_or_not : (b : Bool) → IsWritten w d (if b then done e else done (with_instr (I.FrontConst (register_of l (V.Local n)) 0) e))
    kept_or_not true = made_so w tt d e x
    kept_or_not false = made_so w tt d _ (instr_written w _ d e refl x)

    by : (shape : Option ℕ) → IsWritten w d (elim shape as (λ _. Made (Unit {0})) [
      | None ↦ if is_kept_so at_start local then Makes tt e else Makes tt (with_instr (I.FrontConst (register_of l (V.Local n)) 0) e)
      | Some s ↦ cleared_fields (entries_of local.info) s local.info.elem.bits (with_home e)
    ])
    by None = kept_or_not (is_kept_so at_start local)
    by (Some s) = fields_written w (entries_of local.info) s local.info.elem.bits d (with_home e) (same_code w d e (with_home e) refl x)

all_cleared_written : (w : Ways) (l : Layout) (at_start : Bool) (locals : List LocalVar) (n : ℕ) (d e : Draft) → Wrote w d e → IsWritten w d (all_cleared l at_start locals n e)
unfolding all_cleared
all_cleared_written w l at_start [] n d e x = made_so w tt d e x
all_cleared_written w l at_start (local ∷ locals) n d e x =
    written_then w w d d _ _ (cleared_written w l at_start local n d e x) (λ _ after y. all_cleared_written w l at_start locals (n + 1) d after y)

-- their initialisers
initial_inward : (t : Typed) (i : Instance) (l : Layout) (all n : ℕ) (local : LocalVar) → (x : Option TExpr) → IsShapedInitial local.info x → IfSome x (λ (x : TExpr). (local.info.array ≡ None) × IsValueFor t local.info.shape x × IsLowerable t x) → IfSome x (NamesVariables t i all) → (d e : Draft) → Built (within t i l all) d e →
    Builds (within t i l all) d (elim x as (λ _. Made (Unit {0})) [
      | None ↦ Makes tt e
      | Some x ↦ then_make (variable_of t l local.info n e) (λ dest between. then_make (put_to t l dest x between) (λ _ after. Makes tt after))
    ])
unfolding variable_of IsShapedInitial
initial_inward t i l all n local None h w v d e b = makes tt d e b
initial_inward t i l all n local (Some x) h w v d e b =
    standing_then t l _ _ d e _ b (λ dest between s. bind between _ _ (put_inward (is_none local.info.shape) t i l all dest x s (record { shaped = h.1; lowerable = w.2; names = v }) (suits_by (is_none local.info.shape) x w.1.in_register w.1.parallel) between between (as_before between))
    (λ _ after. makes tt after after (as_before after)))

all_initialised_inward : (t : Typed) (i : Instance) (l : Layout) (all : ℕ) (locals : List LocalVar) (n : ℕ) → AreShapedLocals locals → All (IsLowerableLocal t) locals → InitialsNameVariables t i n locals → n + length locals ≤ all → IsInward (within t i l all) (all_initialised t l locals n)
unfolding all_initialised initialised AreShapedLocals InitialsNameVariables
all_initialised_inward t i l all [] n h w v less d e b = makes tt d e b
all_initialised_inward t i l all (local ∷ locals) n h w v less d e b =
    bind d _ _ (initial_inward t i l all n local local.initial h.0 (All-head (IsLowerableLocal t) local locals w) (initial_later t i (n + 1) all local.initial (omega (arith, less)) v.0) d e b)
    (λ _ after. all_initialised_inward t i l all locals (n + 1) h.1 (All-tail (IsLowerableLocal t) local locals w) v.1 (omega (arith, less)) after after (as_before after))

-- all of a block's
pub declared_written : (t : Typed) (i : Instance) (l : Layout) → NumbersVariables i l → (is_main : Bool) (P back : ℕ → Type 0) (at_start : Bool) (locals : List LocalVar) (n : ℕ) (d : Draft) → AreShapedLocals locals → All (IsLowerableLocal t) locals → InitialsNameVariables t i n locals →
    StandFrom (variables_of i.body) n (map info_of locals) → HasDeclared t i l n d → IsWritten (passing t is_main P back) d (declared t l at_start locals n d)
unfolding declared
declared_written t i l numbers is_main P back at_start locals n d h w v z y =
    leads_then (λ (x : Unit {0}) e. HasDeclared t i l (n + length locals) e) _ (passing t is_main P back) _ d d d _ _ (all_cleared_lead t i l at_start locals n d z numbers y) (all_cleared_written _ l at_start locals n d d (nothing_written _ d d refl))
    (λ _ between known _ x. expression_then t i l (n + length locals) is_main P back _ d between d _ _ known.ready (all_initialised_inward t i l (n + length locals) locals n h w v (omega arith) between between (as_before between)) x
    (λ _ after x. made_so _ _ d after x))
