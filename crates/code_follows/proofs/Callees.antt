-- What is known of a function that may be called, and of a run of its code.
use Rattle.std.proofs.Common.{◌≡◌, ℕ, suc, ◌+◌, ◌<◌, ◌≤◌, ◌^◌, List, [], ◌∷◌, ◌++◌, length, slice_get, slice_index, Some, None}
use Rattle.std.specs.List.{All, slice_index_or}
use Rattle.cstar_base.specs.declared.elem.Elem.{Elem}
use Rattle.cstar_tree.specs.declared.typed.Instance.{Instance}
use Rattle.cstar_tree.specs.declared.typed.VarInfo.{VarInfo}
use Rattle.cstar_tree.specs.declared.typed.Variable.{Variable}
use Rattle.cstar_tree.specs.declared.typed.Variable.TheVariants as V
use Rattle.code_lengths.specs.Lowerable.{HasResult}
use Rattle.code_lengths.specs.Naming.{variable_named}
use Rattle.lower_base.specs.Constants.{constant_register}
use Rattle.lower_base.specs.Layouts.{register_of, result_register}
use Rattle.paris_code.specs.Code.{CodeState}
use Rattle.paris_code.specs.Units.{start_at}
use Rattle.source_meaning.specs.Programs.{calls, run_body}
use Rattle.source_meaning.specs.State as Source
use Rattle.source_meaning.specs.State.{Outcome, State}
use Rattle.source_meaning.specs.Values.{Active, Nothing, Scope, Value, number}
use Rattle.code_follows.specs.Agreement.{AreBytes}
use Rattle.code_follows.specs.Fragment.{AreTaken, IsResult, IsScalarVariable, Takes}
use Rattle.code_follows.proofs.Besides.{ExpressionsFollow}
use Rattle.code_follows.proofs.Following.{Finishes, HasNumber, HasRegisters, held, input_of}
use Rattle.code_follows.proofs.Settings.{AreNamedBefore, start, CallStands, LastsTo, Reaches, Setting, layout}

module _ (g : Setting) where
  -- A function with scalar parameters, and a scalar result or none. Its code, and that of what it calls, may
  -- change certain registers beside those of the file; these are none of the caller's.
  pub record Callee (index : ℕ) : Type 1 where
    pub callee : Instance
    pub is : slice_get g.typed.instances.items index ≡ Some callee
    pub base : ℕ
    pub based : slice_get (layout g).bases index ≡ Some base
    pub params : All IsScalarVariable callee.params.items
    pub result : (info : VarInfo) → callee.result ≡ Some info → IsScalarVariable info
    pub touches : ℕ → Type 0
    -- the registers of its parameters, and that of its result behind them
    pub own : (k : ℕ) → k ≤ length callee.params.items → touches (base + k)
    pub room : base + length callee.params.items < (layout g).end
    pub behind_files : length g.typed.vars.items ≤ base
    pub apart_variable : (r : ℕ) → touches r → (x : Variable) (info : VarInfo) → variable_named g.typed g.instance x ≡ Some info → r ≡ register_of (layout g) x → ⊥
    pub apart_value : (r : ℕ) → touches r → g.begins ≤ r → r < g.ends → ⊥
    pub apart_spared : (r : ℕ) → touches r → g.spared r → ⊥
    pub apart_result : touches (result_register (layout g)) → ⊥
    pub apart_constant : (word r : ℕ) → constant_register (layout g) word ≡ Some r → touches r → ⊥

  -- the registers hold the scalar variables of the file and the constants; the rest is as in the source, and the memory
  -- has what is held at a place
  pub record Shared (live : ℕ → Type 0) (place : ℕ) (st : State) (s : CodeState) : Type 0 where
    pub registers : length s.registers ≡ g.image.slots
    pub files : (k : ℕ) (info : VarInfo) → slice_get g.typed.vars.items k ≡ Some info → IsScalarVariable info → slice_index s.registers k ≡ held info.elem (st.scalar (V.File k))
    pub small : (k : ℕ) (info : VarInfo) → slice_get g.typed.vars.items k ≡ Some info → IsScalarVariable info → st.scalar (V.File k) < 2 ^ info.elem.bits
    pub constants : (word r : ℕ) → constant_register (layout g) word ≡ Some r → slice_index s.registers r ≡ word
    pub turns : s.turns ≡ st.turns
    pub output : s.output ≡ st.output
    pub input : s.input ≡ input_of st
    pub bytes : AreBytes st.input
    pub memory : g.held.holds live place st s.memory

  module _ {index : ℕ} (c : Callee index) where
    -- the register of its result
    abbrev pub given_in : ℕ
    given_in = c.base + length c.callee.params.items

    -- the code comes back to a place with what the source gives: the caller's own variables are as they were
    pub record ComesBack (live : ℕ → Type 0) (back : ℕ) (s : CodeState) (before : State) (v : Value) (st : State) : Type 0 where
      pub t : CodeState
      pub go : Reaches g s t
      pub at : t.at ≡ back
      pub returns : t.returns ≡ g.returns
      pub shared : Shared live back st t
      pub turned : st.turns ≤ before.turns
      pub params_kept : (k : ℕ) → st.scalar (V.Param k) ≡ before.scalar (V.Param k)
      pub locals_kept : (k : ℕ) → st.scalar (V.Local k) ≡ before.scalar (V.Local k)
      pub stays : (r : ℕ) → (c.touches r → ⊥) → length g.typed.vars.items ≤ r → slice_index t.registers r ≡ slice_index s.registers r
      pub given : (info : VarInfo) → c.callee.result ≡ Some info → HasNumber info.elem v given_in t

    -- what the code does, by what the source does
    unfoldable pub RunsBody : (ℕ → Type 0) → ℕ → CodeState → State → Outcome Value → Type 0
    RunsBody live back s before (Source.Gives v st) = ComesBack live back s before v st
    RunsBody live back s before (Source.Ends early st) = Finishes g early st s

    -- the parameters hold the arguments
    pub record AreGiven (arguments : List Value) (s : CodeState) : Type 0 where
      pub words : (k : ℕ) (info : VarInfo) → slice_get c.callee.params.items k ≡ Some info → slice_index s.registers (c.base + k) ≡ held info.elem (number (slice_index_or arguments k Nothing))
      pub few : (k : ℕ) (info : VarInfo) → slice_get c.callee.params.items k ≡ Some info → number (slice_index_or arguments k Nothing) < 2 ^ info.elem.bits

    -- the code of its body from its first instruction on, where it is called at a place and so many turns are left at most
    unfoldable pub Enters : ℕ → Active → ℕ → Type 1
    Enters m active at =
        (live : ℕ → Type 0) (arguments : List Value) (st : State) (s : CodeState) (back : ℕ) → back ≡ start g + at + 1 → s.at ≡ start_at g.image index → s.returns ≡ g.returns ++ back ∷ [] → Shared live back st s → st.turns ≤ m → AreGiven arguments s → ((info : VarInfo) → c.callee.result ≡ Some info → slice_index s.registers given_in ≡ 0)
        → RunsBody live back s st (run_body g.typed (calls g.typed m) (Some c.callee) arguments active st)

  -- each function that may be called runs so wherever it is called, with one turn fewer left
  pub record MayCall (active : Active) (index : ℕ) : Type 1 where
    pub callee : Callee index
    pub enters : (m : ℕ) → g.most ≡ suc m → (stands : CallStands g index) → Enters callee m active stands.at

  -- one whose parameters take arguments of these types
  abbrev pub TakesThese : Active → ℕ → List Elem → Type 1
  TakesThese active index given = (m : MayCall active index) × AreTaken m.callee.callee.params.items given

  -- Calls follow the source: a call means what the source says of so many turns, and what is called is known. The
  -- result takes what is returned. So do the parallel expressions, and what is held lasts to where jumps lead.
  pub record CallsFollow (scope : Scope) (active : Active) : Type 1 where
    pub meant : scope.call ≡ calls g.typed g.most
    pub value : (elem : Elem) (index : ℕ) (given : List Elem) → g.may.calls (Some elem) index given → (h : TakesThese active index given) × (HasResult g.typed index × IsResult h.0.callee.callee.result elem)
    pub effect : (index : ℕ) (given : List Elem) → g.may.calls None index given → TakesThese active index given
    pub returns : (elem : Elem) → g.may.returns elem → (info : VarInfo) → g.instance.result ≡ Some info → Takes info.elem elem
    pub beside : (has : HasRegisters g) → ExpressionsFollow g has scope active
    pub lasts : (live : ℕ → Type 0) (target : ℕ) → g.from ≤ target → AreNamedBefore g live target → LastsTo g live g.held target
