-- What is known of the code of parallel expressions and of contexts, wherever fields are known.
use Rattle.std.proofs.Common.{Bool, ℕ, ◌+◌, ◌≡◌, ◌∙◌, inl, inr, length, arith, sym, subst, false, Some}
use Rattle.cstar_base.specs.declared.operators.Place.{Place}
use Rattle.cstar_tree.specs.declared.syntax.AssignOp.{AssignOp}
use Rattle.cstar_tree.specs.declared.syntax.StepOp.{StepOp}
use Rattle.cstar_tree.specs.declared.typed.StepOrder.{StepOrder}
use Rattle.cstar_tree.specs.declared.typed.TExpr.{TExpr, Row_of-TExpr}
use Rattle.cstar_tree.specs.declared.typed.TExpr as T
use Rattle.cstar_tree.specs.declared.typed.ValueType.{ValueType}
use Rattle.cstar_tree.specs.declared.typed.VarInfo.{VarInfo}
use Rattle.cstar_tree.specs.declared.typed.Variable.{Variable}
use Rattle.cstar_tree.specs.declared.typed.Variable.TheVariants as V
use Rattle.cstar_tree.specs.Typed.{type_of}
use Rattle.code_lengths.specs.Ready.{HasCode, IsReadyButForFields}
use Rattle.lower_base.specs.declared.emit.Out.{Out}
use Rattle.lower_base.specs.declared.emit.Out.TheVariants as O
use Rattle.lower_base.specs.Drafts.{Draft}
use Rattle.lower_expr.specs.Effects.{computed_to, effect_of}
use Rattle.lower_expr.specs.Operands.{are_quiet}
use Rattle.lower_expr.specs.Values.{value_of}
use Rattle.paris_code.specs.Code.{CodeState}
use Rattle.source_meaning.specs.Expressions.{evaluated}
use Rattle.source_meaning.specs.State.{State}
use Rattle.source_meaning.specs.Targets.{stored, variable_target}
use Rattle.source_meaning.specs.Values.{Active, Scalar, Scope, Value}
use Rattle.source_meaning.proofs.ConstantLaws.{Boxed}
use Rattle.code_follows.specs.Fragment.{IsAssigned, IsGiven, IsIn, NamesAmong, naming}
use Rattle.code_follows.proofs.Arguments.{AreDone}
use Rattle.code_follows.proofs.Besides.{IsCoded, IsValued, initial_code}
use Rattle.code_follows.proofs.Following.{Follows, HasRegisters, IsKept, Ran, Sim}
use Rattle.code_follows.proofs.Growing.{extended}
use Rattle.code_follows.proofs.Parts.{BesideFollows}
use Rattle.code_follows.proofs.Settings.{At, Begun, Setting, Within, layout, onto}
use Rattle.code_follows.proofs.Values.{Dest, Does}
use Rattle.fields_follow.specs.Fragment.{IsFold, IsOfFileOrBlock, IsParallelEffect}
use Rattle.fields_follow.proofs.Updating.{updates_leave}
use Rattle.fields_follow.proofs.Variables.{variable_fits}
use Rattle.fields_follow.proofs.Contexts.{where_follows}
use Rattle.fields_follow.proofs.Widening.{widening_follows}
use Rattle.fields_follow.proofs.FoldingOnto.{onto_leaves}
use Rattle.fields_follow.proofs.Onto.{LeavesScalars, scalars_stay}
use Rattle.fields_follow.proofs.Forms.{HasItsCode}
use Rattle.fields_follow.proofs.Initials.{assignment, assignment_coded, initial_follows}
use Rattle.fields_follow.proofs.LocalsCleared.{locals_clear}
use Rattle.fields_follow.proofs.Knowing.{KnowsFields, sim_close, sim_open}
use Rattle.fields_follow.proofs.Leaving.{Leaves, fields_under, keeps_again, places_under, reaches_again, starts_again, registers_under, under}
use Rattle.fields_follow.proofs.Ending.{follows_so}
use Rattle.fields_follow.proofs.Passing.{code_longer}
use Rattle.fields_follow.proofs.Places.{HoldsTheFields}
use Rattle.fields_follow.proofs.Reducing.{GivesNumber, number_to}
use Rattle.fields_follow.proofs.Running.{kept_behind, leaves_ran, starts_there}
use Rattle.fields_follow.proofs.ScanAssigning.{scans_leave}
use Rattle.fields_follow.proofs.Reductions.{GivesRegister, fold_type, folds_give}
use Rattle.fields_follow.proofs.Sends.{sends_leave}
use Rattle.fields_follow.proofs.SinglePositions.{reads_follow}
use Rattle.fields_follow.proofs.SingleStores.{assignment_follows, step_follows}
use Rattle.fields_follow.proofs.Starts.{Starts}
use Rattle.fields_follow.proofs.ScalarAssigning.{changing_leaves}

module _ (g : Setting) (scope : Scope) (active : Active) (known : KnowsFields g scope active) (has : HasRegisters g) where
  module _ (alive : Variable → Type 0) (n : ℕ) (ready : (d : Draft) → IsReadyButForFields g.typed g.instance (layout g) n d) (e : TExpr) (c : HasItsCode g.typed g.instance alive n e) (d : Draft) (s : CodeState) (st : State) (begun : Begun g alive d) (at_place : At g s (length d.code)) (files : (k : ℕ) → alive (V.File k)) (sim : Sim g alive st s) where
    -- the code starts there
    abbrev here : Starts (under g active) alive s (length d.code) d.regs (length d.fields)
    here = starts_there g scope active known alive d s st begun at_place files sim

    -- so it does what a fold onto a variable leaves
    onto_ran : (f : Draft) (u : State) → Within g f → LeavesScalars (under g active) alive d s st u f → Ran g alive d s u f
    unfolding IsKept
    onto_ran f u within l = record {
      grown = (l.passes.grown.0 + l.more.0, extended d l.middle f l.passes.grown.0 l.more.0 l.passes.grown.1 l.more.1);
      t = l.t;
      go = reaches_again g active (onto (under g active) s l.passes.t l.t l.passes.go l.writes.go);
      at = l.writes.at;
      sim = sim_close g scope active known alive u l.t l.writes.sim (kept_behind g scope active known alive d s st begun at_place files sim f l.t within (onto (under g active) s l.passes.t l.t l.passes.go l.writes.go) (λ h first last p saved inside own ends before early after late. scalars_stay (under g active) alive d s st u f l h first last p inside own ends before early after late));
      keeps = λ r kept. l.writes.keeps r kept ∙ l.passes.registers r kept;
    }

    -- the fields of the unit, where these positions are active
    abbrev there : HoldsTheFields (under g active)
    there = fields_under g active scope known.same_extents

    -- an update, a fold onto a variable, a scan or a scalar that is assigned, or a send
    effect_follows : IsParallelEffect e → Follows g (λ v u out f. Ran g alive d s u f) s (evaluated scope e active st) (effect_of g.typed (layout g) e d)
    effect_follows (inl is) =
        follows_so g scope active known (λ v u out f. Leaves (under g active) alive d f s u) (λ v u out f. Ran g alive d s u f) s (evaluated scope e active st) (effect_of g.typed (layout g) e d) (λ v u out f within leaves. leaves_ran g scope active known alive d s st begun at_place files sim f u within leaves)
        (updates_leave (under g active) (registers_under g active has) alive n ready (places_under g active known.places) there e is c d s st here (sim_open g scope active known alive st s sim))
    effect_follows (inr (inr (inl is))) =
        follows_so g scope active known (λ v u out f. Leaves (under g active) alive d f s u) (λ v u out f. Ran g alive d s u f) s (evaluated scope e active st) (effect_of g.typed (layout g) e d) (λ v u out f within leaves. leaves_ran g scope active known alive d s st begun at_place files sim f u within leaves)
        (scans_leave (under g active) (registers_under g active has) alive n ready (places_under g active known.places) there e is c d s st here (sim_open g scope active known alive st s sim))
    effect_follows (inr (inr (inr (inr is)))) =
        follows_so g scope active known (λ v u out f. Leaves (under g active) alive d f s u) (λ v u out f. Ran g alive d s u f) s (evaluated scope e active st) (effect_of g.typed (layout g) e d) (λ v u out f within leaves. leaves_ran g scope active known alive d s st begun at_place files sim f u within leaves)
        (sends_leave (under g active) (registers_under g active has) alive n ready (places_under g active known.places) there e is c d s st here (sim_open g scope active known alive st s sim))
    effect_follows (inr (inr (inr (inl is)))) =
        follows_so g scope active known (λ v u out f. Leaves (under g active) alive d f s u) (λ v u out f. Ran g alive d s u f) s (evaluated scope e active st) (effect_of g.typed (layout g) e d) (λ v u out f within leaves. leaves_ran g scope active known alive d s st begun at_place files sim f u within leaves)
        (changing_leaves (under g active) (registers_under g active has) alive n ready (places_under g active known.places) there known.meant e is c d s st here (sim_open g scope active known alive st s sim))
    effect_follows (inr (inl is)) =
        follows_so g scope active known (λ v u out f. LeavesScalars (under g active) alive d s st u f) (λ v u out f. Ran g alive d s u f) s (evaluated scope e active st) (effect_of g.typed (layout g) e d) (λ v u out f within leaves. onto_ran f u within leaves)
        (onto_leaves (under g active) alive n (registers_under g active has) ready (places_under g active known.places) there e is c d s st begun.regs here (sim_open g scope active known alive st s sim))

    number_again : (r w : ℕ) (f : Draft) → Within g f → GivesNumber (under g active) alive d s st r w f → GivesNumber g alive d s st r w f
    number_again r w f within given =
        let p = given.passes in
        let longer = code_longer given.middle f given.puts.more.0 given.puts.more.1 in
        record {
          middle = given.middle;
          passes = record {
            grown = p.grown;
            t = p.t;
            go = reaches_again g active p.go;
            at = starts_again g active alive p.t (length given.middle.code) given.middle.regs (length given.middle.fields) p.at;
            registers = keeps_again g active d s p.t p.registers;
            sim = sim_close g scope active known alive st p.t p.sim (kept_behind g scope active known alive d s st begun at_place files sim f p.t within p.go (λ h first last q saved inside own ends before early after late. p.stays tt h first last q inside own ends before early after (omega (arith, late, longer))));
            stays = p.stays;
          };
          puts = record { more = given.puts.more; place = given.puts.place; go = reaches_again g active given.puts.go; at = given.puts.at; few = given.puts.few };
        }

    -- a fold puts its number where it is to be
    fold_follows : IsFold e → (R : Value → State → Out → Draft → Type 0) (r : ℕ) → Dest g has alive (type_of e).elem d s R r → Follows g R s (evaluated scope e active st) (computed_to g.typed (layout g) (O.Scalar r) e d)
    fold_follows is R r dest =
        follows_so g scope active known Folded R s (evaluated scope e active st) (computed_to g.typed (layout g) (O.Scalar r) e d) by
        (folds_give (under g active) alive (places_under g active known.places) there (registers_under g active has) n ready e is c d s st r here (sim_open g scope active known alive st s sim))
      where
        Folded : Value → State → Out → Draft → Type 0
        Folded x u out f = (w : ℕ) × ((x ≡ Scalar w) × ((u ≡ st) × GivesRegister (under g active) alive r w d s st out f))

        by : (x : Value) (u : State) (out : Out) (f : Draft) → Within g f → Folded x u out f → R x u out f
        by x u out f within (w, (number, (same, (place, given)))) =
            subst (λ (v : Value). R v u out f) (sym number) (subst (λ (t : State). R (Scalar w) t out f) (sym same) (subst (λ (o : Out). R (Scalar w) st o f) (sym place)
            (number_to g alive has (type_of e).elem d s st R r w f (fold_type e is) dest (number_again r w f within given) within)))

-- a read of one position of a parallel variable
read_follows : (g : Setting) (scope : Scope) (active : Active) → KnowsFields g scope active → (has : HasRegisters g) (alive : Variable → Type 0) (n : ℕ) → ((d : Draft) → IsReadyButForFields g.typed g.instance (layout g) n d) → (ty : ValueType) (place : Place) (p : _) (indexes : Row_of-TExpr _) (x : Variable) (of : ℕ)
    → IsIn (naming g.may alive) (T.LeftIndex' ty place p indexes x of) → HasCode g.typed g.instance n (T.LeftIndex' ty place p indexes x of) → AreDone g has alive scope active false (are_quiet indexes) indexes
    → (d : Draft) (s : CodeState) (st : State) (R : Value → State → Out → Draft → Type 0) (r : ℕ) → Begun g alive d → At g s (length d.code) → Sim g alive st s → Dest g has alive ty.elem d s R r
    → Follows g R s (evaluated scope (T.LeftIndex' ty place p indexes x of) active st) (computed_to g.typed (layout g) (O.Scalar r) (T.LeftIndex' ty place p indexes x of) d)
unfolding IsIn
read_follows g scope active known has alive n ready ty place p indexes x of is c done d s st R r free here_at sim dest = reads_follow g has alive scope active known n ready ty place p indexes x of is.0 (known.positions x is.1) is.2 is.3 c done d s st R r free here_at sim dest

-- an assignment to one, and a step of one
store_follows : (g : Setting) (scope : Scope) (active : Active) → KnowsFields g scope active → (has : HasRegisters g) (alive : Variable → Type 0) → ((k : ℕ) → alive (V.File k)) → (n : ℕ) → ((d : Draft) → IsReadyButForFields g.typed g.instance (layout g) n d)
    → (ty : ValueType) (place sending : Place) (op : AssignOp) (p q : Boxed) (r : _) (indexes : Row_of-TExpr _) (x : Variable) (of : ℕ) (value : TExpr) → IsIn (naming g.may alive) (T.LeftIndex' ty place r indexes x of) → HasCode g.typed g.instance n (T.LeftIndex' ty place r indexes x of)
    → AreDone g has alive scope active false (are_quiet indexes) indexes → IsGiven op ty (type_of value) → IsValued g has scope active alive n value
    → (quiet : Bool) (bits : ℕ) → Does g has alive ty.elem quiet (λ st. evaluated scope (T.Assign' ty sending op p (T.LeftIndex' ty place r indexes x of) q value) active st) (λ d. value_of g.typed (layout g) bits (T.Assign' ty sending op p (T.LeftIndex' ty place r indexes x of) q value) d)
unfolding IsIn
store_follows g scope active known has alive files n ready ty place sending op p q r indexes x of value is c done given valued quiet bits = assignment_follows g has alive scope active known files n ready ty place r indexes x of is.0 (known.positions x is.1) is.2 is.3 c done sending op p q value given valued bits quiet

single_step_follows : (g : Setting) (scope : Scope) (active : Active) → KnowsFields g scope active → (has : HasRegisters g) (alive : Variable → Type 0) → ((k : ℕ) → alive (V.File k)) → (n : ℕ) → ((d : Draft) → IsReadyButForFields g.typed g.instance (layout g) n d)
    → (ty : ValueType) (place : Place) (op : StepOp) (order : StepOrder) (p : Boxed) (r : _) (indexes : Row_of-TExpr _) (x : Variable) (of : ℕ) → IsIn (naming g.may alive) (T.LeftIndex' ty place r indexes x of) → HasCode g.typed g.instance n (T.LeftIndex' ty place r indexes x of)
    → AreDone g has alive scope active false (are_quiet indexes) indexes
    → (quiet : Bool) (bits : ℕ) → Does g has alive ty.elem quiet (λ st. evaluated scope (T.Step' ty op order p (T.LeftIndex' ty place r indexes x of)) active st) (λ d. value_of g.typed (layout g) bits (T.Step' ty op order p (T.LeftIndex' ty place r indexes x of)) d)
unfolding IsIn
single_step_follows g scope active known has alive files n ready ty place op order p r indexes x of is c done quiet bits = step_follows g has alive scope active known files n ready ty place r indexes x of is.0 (known.positions x is.1) is.2 is.3 c done op order p bits quiet

-- an initialiser of a parallel variable
initial_stores : (g : Setting) (scope : Scope) (active : Active) → KnowsFields g scope active → (has : HasRegisters g) (alive : Variable → Type 0) → ((k : ℕ) → alive (V.File k)) → (n : ℕ) → ((d : Draft) → IsReadyButForFields g.typed g.instance (layout g) (n + 1) d)
    → (info : VarInfo) (set : ℕ) (e : TExpr) → info.shape ≡ Some set → IsAssigned (naming g.may alive) n info e → IsCoded g n info e → (d : Draft) (s : CodeState) (st : State) → Begun g alive d → At g s (length d.code) → Sim g alive st s
    → Follows g (λ v u out f. Ran g alive d s (stored active (variable_target info.shape (V.Local n) 0) v u) f) s (evaluated scope e active st) (initial_code g n info e d)
unfolding NamesAmong IsOfFileOrBlock
initial_stores g scope active known has alive files n ready info set e shaped (place, (p, (q, is))) c d s st free here_at sim =
    let e' : TExpr = assignment g n info set e place p q shaped c in
    let exists = (variable_fits (under g active) alive (places_under g active known.places) (fields_under g active scope known.same_extents) set (V.Local n) info tt is.1.0 c.named shaped c.plain st s (sim_open g scope active known alive st s sim)).0 in
    initial_follows g n info set e place p q shaped c scope active alive d s st
    (effect_follows g scope active known has alive (n + 1) ready e' (record { code = assignment_coded g n info set e place p q shaped c known.places exists; among = is.1 }) d s st free here_at files sim (known.effects e' is.0))

-- every effect, every fold and every context of it follows
pub besides : (g : Setting) (scope : Scope) (active : Active) → KnowsFields g scope active → (has : HasRegisters g) → BesideFollows KnowsFields g has scope active
besides g scope active known has = record {
  expressions = record {
    effects = λ alive files n ready e h among c d s st free here sim. effect_follows g scope active known has alive n ready e (record { code = c; among = among }) d s st free here files sim (known.effects e h);
    folds = λ alive files n ready e h among c d s st R r free here sim dest. fold_follows g scope active known has alive n ready e (record { code = c; among = among }) d s st free here files sim (known.folds e h) R r dest;
    reads = λ alive files n ready ty place p indexes x of is c done d s st R r free here sim dest. read_follows g scope active known has alive n ready ty place p indexes x of is c done d s st R r free here sim dest;
    stores = λ alive files n ready ty place sending op p q r indexes x of value is c done given valued quiet bits. store_follows g scope active known has alive files n ready ty place sending op p q r indexes x of value is c done given valued quiet bits;
    steps = λ alive files n ready ty place op order p r indexes x of is c done quiet bits. single_step_follows g scope active known has alive files n ready ty place op order p r indexes x of is c done quiet bits;
    initials = λ alive files n ready info set e shaped is c d s st free here sim. initial_stores g scope active known has alive files n ready info set e shaped is c d s st free here sim;
  };
  locals = locals_clear g scope active known;
  wheres = λ alive files n ready shape test p first second h among c f contexts one other. where_follows g has scope active known alive files n ready shape test p first second (known.conditions shape test h) among c f contexts one other;
  widenings = λ alive files n ready shape p body h c f contexts part. widening_follows g scope active known alive n shape p body f contexts part;
}
