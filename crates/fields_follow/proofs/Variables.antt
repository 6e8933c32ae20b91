-- The field in which a parallel variable stands, as code that names it relies on it.
use Rattle.std.proofs.Common.{refl, ◌≡◌, ◌∙◌, ℕ, ◌+◌, ◌<◌, ◌≤◌, ◌^◌, length, None, Some, sym, ap, subst}
use Rattle.cstar_tree.specs.declared.typed.VarInfo.{VarInfo}
use Rattle.cstar_tree.specs.declared.typed.Variable.{Variable}
use Rattle.cstar_tree.specs.declared.typed.Variable.TheVariants as V
use Rattle.code_lengths.specs.Naming.{variable_named}
use Rattle.paris_code.specs.declared.operands.Field.{Field}
use Rattle.paris_code.specs.Code.{CodeState}
use Rattle.paris_code.specs.Memory.{field_number, processors}
use Rattle.paris_code.specs.Shapes.{bits_at}
use Rattle.paris_code.specs.Spans.{IsNamedAt}
use Rattle.source_meaning.specs.State.{State}
use Rattle.code_follows.proofs.Following.{Sim}
use Rattle.code_follows.proofs.Settings.{OpenAmong, Setting, start}
use Rattle.code_follows.proofs.Standing.{some_same}
use Rattle.fields_follow.specs.Fields.{IsElement}
use Rattle.fields_follow.specs.Fragment.{IsOfFileOrBlock}
use Rattle.fields_follow.proofs.Forms.{whole_element}
use Rattle.fields_follow.proofs.Instructions.{number_in, place, shapes}
use Rattle.fields_follow.proofs.Locals.{HoldsLocal, IsLocalField, same_local, used_up_to}
use Rattle.fields_follow.proofs.Places.{HoldsTheFields, IsFileField, PlacesFields, of_file}

module _ (g : Setting) where
  -- the field is the entry for a variable of the file, or for one of a block
  unfoldable pub IsEntryFor : Variable → VarInfo → Field → Type 0
  IsEntryFor (V.File k) info f = IsElement g.typed k info f.set 0 × IsFileField g k 0 f
  IsEntryFor (V.Local k) info f = IsLocalField g k info f
  IsEntryFor _ info f = ⊥

  -- which is the variable of that name
  pub entry_named : (x : Variable) (info : VarInfo) (f : Field) → IsEntryFor x info f → variable_named g.typed g.instance x ≡ Some info
  unfolding IsEntryFor variable_named
  entry_named (V.File k) info f is = is.0.known
  entry_named (V.Local k) info f is = is.known
  entry_named _ info f is = absurd is

module _ (g : Setting) (alive : Variable → Type 0) where
  -- All bits of a variable stand in the field: where an instruction at this place or behind it names the field, it has
  -- the variable's numbers, which are of its type.
  pub record Carries (x : Variable) (info : VarInfo) (set : ℕ) (f : Field) : Type 0 where
    pub entry : IsEntryFor g x info f
    pub of_set : f.set ≡ set
    pub exists : set < length (shapes g)
    pub len : f.len ≡ info.elem.bits
    pub ends : (place g f).offset + f.len ≤ bits_at (shapes g) f.set
    pub small : (st : State) (t : CodeState) → Sim g alive st t → (p : ℕ) → st.parallel x 0 p < 2 ^ info.elem.bits
    pub numbers : (st : State) (t : CodeState) → Sim g alive st t → (later : ℕ) → IsNamedAt g.unit f.offset later → t.at ≤ start g + later → (p : ℕ) → p < processors (shapes g) set → number_in g f t p ≡ st.parallel x 0 p

  -- The entry of a variable of the file has them, whatever names it.
  pub file_numbers : PlacesFields g → (fields : HoldsTheFields g) → (set k : ℕ) (info : VarInfo) (f : Field) → IsElement g.typed k info set 0 → IsFileField g k 0 f → f.set ≡ set → f.len ≡ info.elem.bits → (st : State) (t : CodeState) → Sim g alive st t → (p : ℕ) → p < processors (shapes g) set
      → number_in g f t p ≡ st.parallel (V.File k) 0 p
  file_numbers places fields set k info f is file of_set len st t sim p below =
      ap (λ (x : Field). field_number t.memory x p) (places.file k 0 info f (subst (λ (n : ℕ). IsElement g.typed k info n 0) (sym of_set) is) (sym len) file)
      ∙ (fields.opens (OpenAmong g alive) t.at st t.memory sim.memory).numbers k 0 set p info is below

  -- so it carries the variable
  pub file_carries : PlacesFields g → HoldsTheFields g → (set k : ℕ) (info : VarInfo) (f : Field) → IsElement g.typed k info set 0 → IsFileField g k 0 f → f.set ≡ set → f.len ≡ info.elem.bits → Carries (V.File k) info set f
  unfolding IsEntryFor
  file_carries places fields set k info f is file of_set len = record {
    entry = (subst (λ (n : ℕ). IsElement g.typed k info n 0) (sym of_set) is, file);
    of_set = of_set;
    exists = places.exists k 0 set info is;
    len = len;
    ends = subst (λ (x : Field). x.offset + x.len ≤ bits_at (shapes g) x.set) (sym at_file) (places.files_end k 0 set info is);
    small = λ st t sim p. (fields.opens (OpenAmong g alive) t.at st t.memory sim.memory).small k 0 set p info is;
    numbers = λ st t sim later named behind p below. file_numbers places fields set k info f is file of_set len st t sim p below;
  }
    where
      at_file : place g f ≡ of_file g k 0
      at_file = places.file k 0 info f (subst (λ (n : ℕ). IsElement g.typed k info n 0) (sym of_set) is) (sym len) file

  -- What is held of a parallel variable of a block that is alive: it has its own entry.
  pub record HasLocal (k : ℕ) (info : VarInfo) (set : ℕ) (st : State) (t : CodeState) : Type 0 where
    pub f : Field
    pub of_set : f.set ≡ set
    pub is : IsLocalField g k info f
    pub holds : HoldsLocal g k info f t.at st t.memory

  pub local_held : HoldsTheFields g → (k : ℕ) (info : VarInfo) (set : ℕ) → alive (V.Local k) → variable_named g.typed g.instance (V.Local k) ≡ Some info → info.shape ≡ Some set → (st : State) (t : CodeState) → Sim g alive st t → HasLocal k info set st t
  local_held fields k info set living known shaped st t sim =
      let (of, (f, (is, holds))) = fields.locals (OpenAmong g alive) t.at st t.memory sim.memory k (living, (info, (set, (known, shaped)))) in
      let same : of ≡ info = some_same of info (sym is.known ∙ known) in
      record {
        f = f;
        of_set = some_same f.set set (sym is.parallel ∙ ap (λ (i : VarInfo). i.shape) same ∙ shaped);
        is = subst (λ (i : VarInfo). IsLocalField g k i f) same is;
        holds = subst (λ (i : VarInfo). HoldsLocal g k i f t.at st t.memory) same holds;
      }

  -- A parallel variable of the file, or of a block that is alive, is of a set of the image, and has numbers of its type.
  pub variable_fits : PlacesFields g → HoldsTheFields g → (set : ℕ) (x : Variable) (info : VarInfo) → IsOfFileOrBlock x → alive x → variable_named g.typed g.instance x ≡ Some info → info.shape ≡ Some set → info.array ≡ None → (st : State) (t : CodeState) → Sim g alive st t → (set < length (shapes g)) × ((p : ℕ) → st.parallel x 0 p < 2 ^ info.elem.bits)
  unfolding IsOfFileOrBlock
  variable_fits places fields set (V.File k) info read living known shaped one st t sim =
      let is = whole_element g.typed g.instance k set info known shaped one in (places.exists k 0 set info is, λ p. (fields.opens (OpenAmong g alive) t.at st t.memory sim.memory).small k 0 set p info is)
  variable_fits places fields set (V.Local k) info read living known shaped one st t sim =
      let there = local_held fields k info set living known shaped st t sim in (subst (λ (n : ℕ). n < length (shapes g)) there.of_set there.holds.exists, there.holds.small)
  variable_fits places fields set _ info read living known shaped one st t sim = absurd read

  -- the entry of one of a block carries it
  pub local_carries : HoldsTheFields g → (k : ℕ) (info : VarInfo) (f : Field) → alive (V.Local k) → IsLocalField g k info f → (st : State) (s : CodeState) → Sim g alive st s → Carries (V.Local k) info f.set f
  unfolding IsEntryFor
  local_carries fields k info f living is st s sim = record {
    entry = is;
    of_set = refl;
    exists = (local_holds st s sim).exists;
    len = is.len;
    ends = (local_holds st s sim).ends;
    small = λ st t sim p. (local_holds st t sim).small p;
    numbers = λ st t sim later named behind p below. (local_holds st t sim).numbers (used_up_to g f.offset later t.at named behind) p below;
  }
    where
      local_holds : (st : State) (t : CodeState) → Sim g alive st t → HoldsLocal g k info f t.at st t.memory
      local_holds st t sim =
          let there = local_held fields k info f.set living is.known is.parallel st t sim in
          subst (λ (h : Field). HoldsLocal g k info h t.at st t.memory) (same_local g k info info there.f f there.is is).1 there.holds
