-- Parallel expressions beside scalar ones: what is known of the code of those that a program may have; and the same unit
-- where something else is held.
use Rattle.std.proofs.Common.{ℕ, ◌+◌, length, ◌≡◌, ◌⊎◌, Bool, false, true, Some, None}
use Rattle.cstar_base.specs.declared.operators.Place.{Place}
use Rattle.cstar_tree.specs.declared.syntax.AssignOp.{AssignOp}
use Rattle.cstar_tree.specs.declared.syntax.StepOp.{StepOp}
use Rattle.cstar_tree.specs.declared.typed.StepOrder.{StepOrder}
use Rattle.cstar_tree.specs.declared.typed.LocalVar.{LocalVar}
use Rattle.cstar_tree.specs.declared.typed.TExpr.{TExpr, Row_of-TExpr}
use Rattle.cstar_tree.specs.declared.typed.TExpr as T
use Rattle.cstar_tree.specs.declared.typed.ValueType.{ValueType}
use Rattle.cstar_tree.specs.declared.typed.VarInfo.{VarInfo}
use Rattle.cstar_tree.specs.declared.typed.Variable.{Variable}
use Rattle.cstar_tree.specs.declared.typed.Variable.TheVariants as V
use Rattle.cstar_tree.specs.Typed.{type_of}
use Rattle.code_lengths.specs.Lowerable.{IsValueFor}
use Rattle.code_lengths.specs.Naming.{variable_named}
use Rattle.code_lengths.specs.Ready.{HasCode, HasDeclared, IsReadyButForFields, NumbersVariables}
use Rattle.lower_base.specs.declared.emit.Out.{Out}
use Rattle.lower_base.specs.declared.emit.Out.TheVariants as O
use Rattle.lower_base.specs.Drafts.{Draft, Made, Makes, then_make}
use Rattle.lower_expr.specs.Effects.{computed_to, effect_of, put_to}
use Rattle.lower_expr.specs.Operands.{are_quiet, operand_by}
use Rattle.lower_expr.specs.Steps.{is_kept}
use Rattle.lower_expr.specs.Values.{value_of}
use Rattle.lower_stmt.specs.Variables.{cleared, variable_of}
use Rattle.paris_code.specs.Code.{CodeState}
use Rattle.paris_code.specs.Memory.{BitMemory}
use Rattle.source_meaning.specs.Expressions.{evaluated}
use Rattle.source_meaning.specs.State.{State, zeroed}
use Rattle.source_meaning.specs.Targets.{stored, variable_target}
use Rattle.source_meaning.specs.Values.{Active, Scope, Value}
use Rattle.source_meaning.proofs.ConstantLaws.{Boxed}
use Rattle.code_follows.specs.Fragment.{IsAssigned, IsGiven, IsIn, May, NamesAmong, naming}
use Rattle.code_follows.proofs.Arguments.{AreDone}
use Rattle.code_follows.proofs.Following.{Extends, Follows, HasRegisters, Ran, Sim}
use Rattle.code_follows.proofs.Fresh.{IsClear}
use Rattle.code_follows.proofs.Growing.{Extended}
use Rattle.code_follows.proofs.Settings.{OpenAmong, At, Begun, Held, IsNewIn, Setting, Within, layout}
use Rattle.code_follows.proofs.Values.{Dest, Does}

module _ (g : Setting) where
  -- an initialiser of the variable of a block of this number has code, and is a value for it
  pub record IsCoded (n : ℕ) (info : VarInfo) (e : TExpr) : Type 0 where
    pub code : HasCode g.typed g.instance (n + 1) e
    pub named : variable_named g.typed g.instance (V.Local n) ≡ Some info
    pub plain : info.array ≡ None
    pub value : IsValueFor g.typed info.shape e

  -- that code
  abbrev pub initial_code : ℕ → VarInfo → TExpr → Draft → Made Out
  initial_code n info e d = then_make (variable_of g.typed (layout g) info n d) (λ dest after. put_to g.typed (layout g) dest e after)

module _ (g : Setting) (has : HasRegisters g) (scope : Scope) (active : Active) where
  -- what is known of the code of a number that is given to a position
  pub record IsValued (alive : Variable → Type 0) (n : ℕ) (value : TExpr) : Type 1 where
    pub scalar : (type_of value).shape ≡ None
    pub kept : is_kept value ≡ true
    pub code : HasCode g.typed g.instance n value
    pub does : (bits : ℕ) → Does g has alive (type_of value).elem false (λ st. evaluated scope value active st) (λ d. value_of g.typed (layout g) bits value d)
    pub grows : (bits m : ℕ) (d : Draft) → Extends g d (operand_by g.typed (layout g) m (value_of g.typed (layout g) bits value) true value d)
    pub operand : (bits m : ℕ) → Does g has alive (type_of value).elem true (λ st. evaluated scope value active st) (λ d. operand_by g.typed (layout g) m (value_of g.typed (layout g) bits value) true value d)
    pub clear : (bits m : ℕ) (st : State) (s : CodeState) → Sim g alive st s → (d : Draft) → IsClear (layout g) d (operand_by g.typed (layout g) m (value_of g.typed (layout g) bits value) true value d)

  -- Wherever they stand in the function, the code of an effect does what it does in the source, and that of a fold, and of
  -- a read of one position whose indexes are done so, leaves its number in the register that is to have it; so are
  -- assignments to one done, where their values are, and steps of one. That of an initialiser stores its value in a
  -- parallel variable.
  pub record ExpressionsFollow : Type 1 where
    pub effects : (alive : Variable → Type 0) → ((k : ℕ) → alive (V.File k)) → (n : ℕ) → ((d : Draft) → IsReadyButForFields g.typed g.instance (layout g) n d)
        → (e : TExpr) → g.may.beside.effects e → NamesAmong alive e → HasCode g.typed g.instance n e
        → (d : Draft) (s : CodeState) (st : State) → Begun g alive d → At g s (length d.code) → Sim g alive st s
        → Follows g (λ v u out f. Ran g alive d s u f) s (evaluated scope e active st) (effect_of g.typed (layout g) e d)
    pub folds : (alive : Variable → Type 0) → ((k : ℕ) → alive (V.File k)) → (n : ℕ) → ((d : Draft) → IsReadyButForFields g.typed g.instance (layout g) n d)
        → (e : TExpr) → g.may.beside.folds e → NamesAmong alive e → HasCode g.typed g.instance n e
        → (d : Draft) (s : CodeState) (st : State) (R : Value → State → Out → Draft → Type 0) (r : ℕ) → Begun g alive d → At g s (length d.code) → Sim g alive st s
        → Dest g has alive (type_of e).elem d s R r → Follows g R s (evaluated scope e active st) (computed_to g.typed (layout g) (O.Scalar r) e d)
    pub reads : (alive : Variable → Type 0) → ((k : ℕ) → alive (V.File k)) → (n : ℕ) → ((d : Draft) → IsReadyButForFields g.typed g.instance (layout g) n d)
        → (ty : ValueType) (place : Place) (p : _) (indexes : Row_of-TExpr _) (x : Variable) (of : ℕ) → IsIn (naming g.may alive) (T.LeftIndex' ty place p indexes x of) → HasCode g.typed g.instance n (T.LeftIndex' ty place p indexes x of)
        → AreDone g has alive scope active false (are_quiet indexes) indexes → (d : Draft) (s : CodeState) (st : State) (R : Value → State → Out → Draft → Type 0) (r : ℕ) → Begun g alive d → At g s (length d.code) → Sim g alive st s
        → Dest g has alive ty.elem d s R r → Follows g R s (evaluated scope (T.LeftIndex' ty place p indexes x of) active st) (computed_to g.typed (layout g) (O.Scalar r) (T.LeftIndex' ty place p indexes x of) d)
    pub stores : (alive : Variable → Type 0) → ((k : ℕ) → alive (V.File k)) → (n : ℕ) → ((d : Draft) → IsReadyButForFields g.typed g.instance (layout g) n d)
        → (ty : ValueType) (place sending : Place) (op : AssignOp) (p q : Boxed) (r : _) (indexes : Row_of-TExpr _) (x : Variable) (of : ℕ) (value : TExpr) → IsIn (naming g.may alive) (T.LeftIndex' ty place r indexes x of) → HasCode g.typed g.instance n (T.LeftIndex' ty place r indexes x of)
        → AreDone g has alive scope active false (are_quiet indexes) indexes → IsGiven op ty (type_of value) → IsValued alive n value
        → (quiet : Bool) (bits : ℕ) → Does g has alive ty.elem quiet (λ st. evaluated scope (T.Assign' ty sending op p (T.LeftIndex' ty place r indexes x of) q value) active st) (λ d. value_of g.typed (layout g) bits (T.Assign' ty sending op p (T.LeftIndex' ty place r indexes x of) q value) d)
    pub steps : (alive : Variable → Type 0) → ((k : ℕ) → alive (V.File k)) → (n : ℕ) → ((d : Draft) → IsReadyButForFields g.typed g.instance (layout g) n d)
        → (ty : ValueType) (place : Place) (op : StepOp) (order : StepOrder) (p : Boxed) (r : _) (indexes : Row_of-TExpr _) (x : Variable) (of : ℕ) → IsIn (naming g.may alive) (T.LeftIndex' ty place r indexes x of) → HasCode g.typed g.instance n (T.LeftIndex' ty place r indexes x of)
        → AreDone g has alive scope active false (are_quiet indexes) indexes
        → (quiet : Bool) (bits : ℕ) → Does g has alive ty.elem quiet (λ st. evaluated scope (T.Step' ty op order p (T.LeftIndex' ty place r indexes x of)) active st) (λ d. value_of g.typed (layout g) bits (T.Step' ty op order p (T.LeftIndex' ty place r indexes x of)) d)
    pub initials : (alive : Variable → Type 0) → ((k : ℕ) → alive (V.File k)) → (n : ℕ) → ((d : Draft) → IsReadyButForFields g.typed g.instance (layout g) (n + 1) d)
        → (info : VarInfo) (set : ℕ) (e : TExpr) → info.shape ≡ Some set → IsAssigned (naming g.may alive) n info e → IsCoded g n info e
        → (d : Draft) (s : CodeState) (st : State) → Begun g alive d → At g s (length d.code) → Sim g alive st s
        → Follows g (λ v u out f. Ran g alive d s (stored active (variable_target info.shape (V.Local n) 0) v u) f) s (evaluated scope e active st) (initial_code g n info e d)

module _ (g : Setting) where
  -- The code that clears a parallel variable of a block is made, and that variable has its entry and is 0 behind it.
  pub record ClearsOne (at_start : Bool) (local : LocalVar) (n : ℕ) (d : Draft) : Type 1 where
    pub e : Draft
    pub is : cleared (layout g) at_start local n d ≡ Makes tt e
    pub count : ℕ
    pub grown : Extended d count e
    pub opened : Within g e → IsNewIn g n d e
    pub runs : (before : Variable → Type 0) (s : CodeState) (st : State) → Begun g before d → At g s (length d.code) → Sim g before st s → Within g e → Ran g (λ x. before x ⊎ (x ≡ V.Local n)) d s (zeroed n 1 st) e

  -- so it is of each that the program may have
  abbrev pub LocalsClear : Type 1
  LocalsClear =
      (at_start : Bool) (local : LocalVar) (n : ℕ) (d : Draft) → g.may.beside.locals local.info → variable_named g.typed g.instance (V.Local n) ≡ Some local.info → NumbersVariables g.instance (layout g) → HasDeclared g.typed g.instance (layout g) n d → ClearsOne at_start local n d

-- the same unit, where this is held of the memory and what is said of the code holds between these places, with so many
-- entries at the first
abbrev pub under_held : Setting → Held → ℕ → ℕ → ℕ → Setting
under_held g held from entries upto = record g { held = held; from = from; entries = entries; upto = upto }

-- its state agrees too at another place and where it may have others, where its memory holds what is to be held
pub sim_saying : (g : Setting) {held more : Held} {may other : May} {from entries upto first fields last : ℕ} (alive : Variable → Type 0) (st : State) (s : CodeState) (at : ℕ) (m : BitMemory) → more.holds (OpenAmong g alive) at st m
    → Sim (record (under_held g held from entries upto) { may = may }) alive st s → Sim (record (under_held g more first fields last) { may = other }) alive st (record s { at = at; memory = m })
sim_saying g alive st s at m holds h = record {
  registers = h.registers;
  scalars = h.scalars;
  small = h.small;
  constants = h.constants;
  turns = h.turns;
  output = h.output;
  input = h.input;
  returns = h.returns;
  few = h.few;
  bytes = h.bytes;
  memory = holds;
}

-- its registers are the same
pub registers_under : (g : Setting) (held : Held) (from entries upto : ℕ) → HasRegisters g → HasRegisters (under_held g held from entries upto)
registers_under g held from entries upto h = record {
  below = h.below;
  free = h.free;
  behind_files = h.behind_files;
  room = h.room;
  result = h.result;
  result_apart = h.result_apart;
  spared_variable = h.spared_variable;
  spared_result = h.spared_result;
  spared_own = h.spared_own;
  apart = h.apart;
}
