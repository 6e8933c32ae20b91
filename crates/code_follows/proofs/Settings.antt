-- A unit of a compiled program, and how the code of its image stands for its drafts.
use Rattle.std.proofs.Common.{◌≡◌, ◌≢◌, ◌∙◌, ℕ, suc, ◌+◌, ◌<◌, ◌≤◌, List, [], ◌∷◌, ◌++◌, length, map, slice_get, Option, Some, refl, sym, ap, arith, append_assoc, length-append, Bool}
use Rattle.std.specs.List.{slice_index_or}
use Rattle.cstar_link.specs.Linked.{code_from, moved_by}
use Rattle.cstar_tree.specs.declared.typed.Instance.{Instance}
use Rattle.cstar_tree.specs.declared.typed.Typed.{Typed}
use Rattle.cstar_tree.specs.declared.typed.VarInfo.{VarInfo}
use Rattle.cstar_tree.specs.declared.typed.Variable.{Variable}
use Rattle.cstar_tree.specs.declared.typed.Variable.TheVariants as V
use Rattle.code_lengths.specs.Naming.{variable_named}
use Rattle.field_alloc.specs.Placed.{IsPlaced, of_set}
use Rattle.lower_base.specs.declared.names.LocalName.{LocalName}
use Rattle.lower_base.specs.Drafts.{Draft, Plain, Step, step as step_of, with_instr, with_step}
use Rattle.lower_base.specs.Layouts.{Layout, layout_of}
use Rattle.paris_code.specs.declared.instr.Instr.{Instr}
use Rattle.paris_code.specs.declared.instr.Instr.TheVariants as I
use Rattle.paris_code.specs.declared.operands.Field.{Field}
use Rattle.paris_code.specs.declared.program.Final.{Final}
use Rattle.paris_code.specs.declared.program.Image.{Image}
use Rattle.paris_code.specs.declared.program.Program.{Program}
use Rattle.paris_code.specs.declared.program.Unit.{Unit as CodeUnit}
use Rattle.paris_code.specs.declared.program.Virtual.{Virtual}
use Rattle.paris_code.specs.Code.{CodeEnd, CodeState, Ends, Goes, Next, begun, begun_at, code, go_on, step}
use Rattle.paris_code.specs.Memory.{BitMemory, field_number}
use Rattle.paris_code.specs.Moving.{moved_instr}
use Rattle.paris_code.specs.Proper.{IsUnit}
use Rattle.paris_code.specs.Shapes.{bits_at, shapes_of}
use Rattle.paris_code.specs.Spans.{IsNamedAt, JumpsTo, StandsAt}
use Rattle.source_meaning.specs.State.{State}
use Rattle.code_follows.specs.Fragment.{May}
use Rattle.code_follows.proofs.Growing.{Extended, and_instr, as_it_was}
use Rattle.code_follows.proofs.Standing.{StandsOver, some_same, stands, stands_over, start_in}

-- the parallel variables of the file have the same numbers, and so have those of blocks that are open
abbrev pub SameFields : (ℕ → Type 0) → State → State → Type 0
SameFields live u st = ((k e p : ℕ) → u.parallel (V.File k) e p ≡ st.parallel (V.File k) e p) × ((k : ℕ) → live k → (e p : ℕ) → u.parallel (V.Local k) e p ≡ st.parallel (V.Local k) e p)

-- What a memory holds of the source's state where the code stands at a place of the image and these parallel variables of
-- blocks are open, and what of it still where the run ends. It speaks of them, of the file's parallel variables and of the
-- winner alone. What is held at a place is held behind it
-- too, as an entry that is in use behind it is in use there; a jump may lead back.
pub record Held : Type 1 where
  pub holds : (ℕ → Type 0) → ℕ → State → BitMemory → Type 0
  pub ends : State → BitMemory → Type 0
  pub finally : (live : ℕ → Type 0) (at : ℕ) (st : State) (m : BitMemory) → holds live at st m → ends st m
  pub still : (live : ℕ → Type 0) (at : ℕ) (st u : State) (m : BitMemory) → SameFields live u st → u.winner ≡ st.winner → holds live at st m → holds live at u m
  pub onward : (live : ℕ → Type 0) (at to : ℕ) (st : State) (m : BitMemory) → at ≤ to → holds live at st m → holds live to st m
  pub fewer : (more less : ℕ → Type 0) (at : ℕ) (st : State) (m : BitMemory) → ((k : ℕ) → less k → more k) → holds more at st m → holds less at st m

-- A field stands below the own entries of a unit, above the file's fields and below the flags: so do those of the units
-- whose calls are open.
pub record StandsBelow (image : Image) {before after : Program} (placed : IsPlaced before after) (number : ℕ) (f : Field) : Type 0 where
  pub exists : f.set < length before.shapes.items
  pub low : f.offset + f.len ≤ of_set placed.bases number f.set
  pub ends : f.offset + f.len ≤ bits_at (shapes_of image) f.set
  pub files : (file : ℕ) (last : Final) → slice_get after.finals.items file ≡ Some last → last.field.set ≡ f.set → last.field.offset + last.field.len ≤ f.offset

-- what stands in such fields is the same
abbrev pub SameBelow : (image : Image) {before after : Program} → IsPlaced before after → ℕ → BitMemory → BitMemory → Type 0
SameBelow image placed number m other = (f : Field) (p : ℕ) → StandsBelow image placed number f → field_number other f p ≡ field_number m f p

pub record Setting : Type 1 where
  pub typed : Typed
  pub words : List ℕ
  pub image : Image
  pub before : Program
  pub after : Program
  pub placed : IsPlaced before after
  pub linked : image.code.items ≡ code_from 0 after.units.items
  pub number : ℕ
  pub unit : CodeUnit
  pub is_unit : IsUnit before number unit
  pub instance : Instance
  -- whether it is `main`, the registers of its own values, those that its code leaves as they are until it
  -- returns, where the calls that are open go on, and how many turns are left at most, and
  -- which functions may be called, and what the memory holds; what is said of the code holds between these places of
  -- the unit, where there are so many entries at the first of them
  pub is_main : Bool
  pub begins : ℕ
  pub ends : ℕ
  pub spared : ℕ → Type 0
  pub returns : List ℕ
  pub most : ℕ
  pub may : May
  pub held : Held
  pub from : ℕ
  pub entries : ℕ
  pub upto : ℕ

-- the same unit, where this is held of the memory
abbrev pub holding : Setting → Held → Setting
holding g held = record g { held = held }

module _ (g : Setting) where
  abbrev pub whole : List Step
  whole = map step_of g.unit.code.items

  abbrev pub layout : Layout
  layout = layout_of g.typed g.words g.number

  abbrev pub start : ℕ
  start = start_in g.after.units.items g.number 0

  -- a parallel variable of a block
  abbrev pub IsParallelLocal : ℕ → Type 0
  IsParallelLocal k = (info : VarInfo) × ((set : ℕ) × ((variable_named g.typed g.instance (V.Local k) ≡ Some info) × (info.shape ≡ Some set)))

  -- those that are alive
  abbrev pub OpenAmong : (Variable → Type 0) → ℕ → Type 0
  OpenAmong alive k = alive (V.Local k) × IsParallelLocal k

  -- the entry that the unit has for a parallel variable of a block
  abbrev pub HasHome : ℕ → ℕ → Type 0
  HasHome k entry = (name : LocalName) × ((slice_get layout.locals k ≡ Some name) × (slice_get g.unit.homes.items name.home ≡ Some entry))

  -- it has no other
  pub one_home : (k a b : ℕ) → HasHome k a → HasHome k b → a ≡ b
  one_home k a b one other =
      some_same a b (sym one.1.1 ∙ ap (λ (n : LocalName). slice_get g.unit.homes.items n.home) (some_same one.0 other.0 (sym one.1.0 ∙ other.1.0)) ∙ other.1.1)

  -- an entry is named before a place of the unit
  abbrev pub IsNamedBefore : ℕ → ℕ → Type 0
  IsNamedBefore entry place = (first : ℕ) × (IsNamedAt g.unit entry first × (first < place))

  -- each of these variables has an entry that is named before a place
  abbrev pub AreNamedBefore : (ℕ → Type 0) → ℕ → Type 0
  AreNamedBefore live place = (k : ℕ) → live k → (entry : ℕ) × (HasHome k entry × IsNamedBefore entry place)

  -- wherever this is held of these variables at a jump to a place of the unit, it is held at that place
  abbrev pub LastsTo : (ℕ → Type 0) → Held → ℕ → Type 0
  LastsTo live held target = (place : ℕ) (jump : Instr) → StandsAt g.unit place jump → JumpsTo jump target → (st : State) (m : BitMemory) → held.holds live (start + place) st m → held.holds live (target + start) st m

  -- the draft is an early state of the unit
  pub record Within (e : Draft) : Type 0 where
    pub more : List Step
    pub code : whole ≡ e.code ++ more
    pub entries : List Virtual
    pub fields : g.unit.fields.items ≡ e.fields ++ entries
    pub homes : List ℕ
    pub homes_are : g.unit.homes.items ≡ e.homes ++ homes
    pub regs : e.regs ≤ g.image.slots
    pub own : e.regs ≤ g.ends
    pub upto : length e.code ≤ g.upto

  -- code that goes on is longer
  longer : (d e : Draft) (n : ℕ) → Extended d n e → length d.code ≤ length e.code
  longer d e n x = let both = ap (λ (c : List Step). length c) x.code ∙ length-append d.code x.more in omega (arith, both)

  pub earlier : (d e : Draft) (n : ℕ) → Extended d n e → Within e → Within d
  earlier d e n x w = record {
    more = x.more ++ w.more;
    code = w.code ∙ ap (λ (c : List Step). c ++ w.more) x.code ∙ append_assoc d.code x.more w.more;
    entries = x.entries ++ w.entries;
    fields = w.fields ∙ ap (λ (entries : List Virtual). entries ++ w.entries) x.fields ∙ append_assoc d.fields x.entries w.entries;
    homes = x.homes ++ w.homes;
    homes_are = w.homes_are ∙ ap (λ (homes : List ℕ). homes ++ w.homes) x.homes_are ∙ append_assoc d.homes x.homes w.homes;
    regs = omega (arith, x.regs, w.regs);
    own = omega (arith, x.regs, w.own);
    upto = omega (arith, longer d e n x, w.upto);
  }

  -- and has no fewer entries
  more_entries : (d e : Draft) (n : ℕ) → Extended d n e → length d.fields ≤ length e.fields
  more_entries d e n x = let both = ap (λ (entries : List Virtual). length entries) x.fields ∙ length-append d.fields x.entries in omega (arith, both)

  -- the variable has one of so many entries, which is named before a place; so has each of these
  abbrev pub IsOpenAt : ℕ → ℕ → ℕ → Type 0
  IsOpenAt place entries k = (entry : ℕ) × (HasHome k entry × (IsNamedBefore entry place × (entry < entries)))

  -- no two of these variables have the same entry
  abbrev pub HaveTheirOwn : (ℕ → Type 0) → Type 0
  HaveTheirOwn live = (j k one other : ℕ) → live j → live k → j ≢ k → HasHome j one → HasHome k other → one ≢ other

  -- so it is of variables that are open: each has such an entry
  abbrev pub AreOpenAt : (ℕ → Type 0) → ℕ → ℕ → Type 0
  AreOpenAt live place entries = ((k : ℕ) → live k → IsOpenAt place entries k) × HaveTheirOwn live

  -- it has an entry of the draft, which its code names
  abbrev pub IsOpenIn : ℕ → Draft → Type 0
  IsOpenIn k d = IsOpenAt (length d.code) (length d.fields) k

  -- and an earlier draft has none for it
  abbrev pub IsNewIn : ℕ → Draft → Draft → Type 0
  IsNewIn k d e = IsOpenIn k e × ((entry : ℕ) → HasHome k entry → length d.fields ≤ entry)

  -- what is open is so at a later place, and where there are more entries
  pub open_later : (live : ℕ → Type 0) (place later entries more : ℕ) → place ≤ later → entries ≤ more → AreOpenAt live place entries → AreOpenAt live later more
  open_later live place later entries more behind longer opened = (λ k living. later_one k (opened.0 k living), opened.1)
    where
      later_one : (k : ℕ) → IsOpenAt place entries k → IsOpenAt later more k
      later_one k (entry, (home, ((first, (named, before)), inside))) = (entry, (home, ((first, (named, omega (arith, before, behind))), omega (arith, inside, longer))))

  -- and so are fewer
  pub open_fewer : (more less : ℕ → Type 0) (place entries : ℕ) → ((k : ℕ) → less k → more k) → AreOpenAt more place entries → AreOpenAt less place entries
  open_fewer more less place entries among opened = (λ k living. opened.0 k (among k living), λ j k one other first second. opened.1 j k one other (among j first) (among k second))

  pub open_named : (live : ℕ → Type 0) (place later entries : ℕ) → place ≤ later → AreOpenAt live place entries → AreNamedBefore live later
  open_named live place later entries behind opened k living =
      let (entry, (home, ((first, (named, before)), inside))) = opened.0 k living in
      (entry, (home, (first, (named, omega (arith, before, behind)))))

  -- the code of a draft has begun: it stands behind the place, its values behind the registers before them, its
  -- entries behind those that there are, and the variables of blocks that are alive are among these
  pub record Begun (alive : Variable → Type 0) (d : Draft) : Type 0 where
    pub regs : g.begins ≤ d.regs
    pub code : g.from ≤ length d.code
    pub fields : g.entries ≤ length d.fields
    pub opened : AreOpenAt (OpenAmong alive) (length d.code) (length d.fields)

  pub begun_later : (alive : Variable → Type 0) (d e : Draft) (n : ℕ) → Extended d n e → Begun alive d → Begun alive e
  begun_later alive d e n x b = record { regs = omega (arith, x.regs, b.regs); code = omega (arith, longer d e n x, b.code); fields = omega (arith, more_entries d e n x, b.fields); opened = open_later (OpenAmong alive) (length d.code) (length e.code) (length d.fields) (length e.fields) (longer d e n x) (more_entries d e n x) b.opened }

  -- so it has where fewer variables are alive
  pub begun_fewer : (more fewer : Variable → Type 0) (d : Draft) → ((x : Variable) → fewer x → more x) → Begun more d → Begun fewer d
  begun_fewer more fewer d among b = record { regs = b.regs; code = b.code; fields = b.fields; opened = open_fewer (OpenAmong more) (OpenAmong fewer) (length d.code) (length d.fields) (λ k is_open. (among (V.Local k) is_open.0, is_open.1)) b.opened }

  -- a function is called at a place between those of which is spoken
  pub record CallStands (index : ℕ) : Type 0 where
    pub at : ℕ
    pub stands : StandsAt g.unit at (I.FrontCall index)
    pub low : g.from ≤ at
    pub high : at < g.upto

  -- what stands below the entries of the unit stands below those of what it calls
  pub called_below : (index : ℕ) → CallStands index → (f : Field) → StandsBelow g.image g.placed g.number f → StandsBelow g.image g.placed index f
  called_below index here f below = record {
    exists = below.exists;
    low = let behind = g.placed.behind g.number index here.at f.set g.unit g.is_unit here.stands below.exists in let low = below.low in omega (arith, behind, low);
    ends = below.ends;
    files = below.files;
  }

  -- the code stands at a place of the unit
  abbrev pub At : CodeState → ℕ → Type 0
  At s at = s.at ≡ start + at

  -- what stands behind more code is behind the place
  pub ahead : (e f : Draft) (n : ℕ) (s : CodeState) (place : ℕ) → Extended e n f → At s (length e.code) → place ≡ start + length f.code → s.at ≤ place
  ahead e f n s place more begins there = let long = longer e f n more in omega (arith, long, begins, there)

  -- the code goes on from one state as from the other, and leaves what stands below the unit's entries
  pub record Reaches (s t : CodeState) : Type 0 where
    pub by : (k : ℕ) → (j : ℕ) × ((code g.image j s).next ≡ (code g.image k t).next)
    pub below : SameBelow g.image g.placed g.number s.memory t.memory

  pub stay : (s : CodeState) → Reaches s s
  stay s = record { by = λ k. (k, refl); below = λ f p low. refl }

  pub onto : (s t u : CodeState) → Reaches s t → Reaches t u → Reaches s u
  onto s t u a b = record { by = λ k. let y = b.by k in let x = a.by y.0 in (x.0, x.1 ∙ y.1); below = λ f p low. b.below f p low ∙ a.below f p low }

  -- an instruction that writes the memory, and one that leaves it
  pub one_writes : (s t : CodeState) → step g.image s ≡ Goes t → SameBelow g.image g.placed g.number s.memory t.memory → Reaches s t
  unfolding code
  one_writes s t e same = record { by = λ k. (suc k, ap (λ (n : Next). (go_on (λ u. code g.image k u) n).next) e); below = same }

  pub one : (s t : CodeState) → step g.image s ≡ Goes t → t.memory ≡ s.memory → Reaches s t
  one s t e same = one_writes s t e (λ f p low. ap (λ (m : BitMemory). field_number m f p) same)

  -- so many instructions end the run so
  pub record EndsIn (s : CodeState) (end : CodeEnd) (t : CodeState) : Type 0 where
    pub steps : ℕ
    pub is : (code g.image steps s).next ≡ Ends end t

  pub ends_later : (s t u : CodeState) (end : CodeEnd) → Reaches s t → EndsIn t end u → EndsIn s end u
  ends_later s t u end go ends = let x = go.by ends.steps in record { steps = x.0; is = x.1 ∙ ends.is }

  pub ends_now : (s t : CodeState) (end : CodeEnd) → step g.image s ≡ Ends end t → EndsIn s end t
  unfolding code
  ends_now s t end e = record { steps = 1; is = ap (λ (n : Next). (go_on (λ u. code g.image 0 u) n).next) e }

  -- an instruction of the unit as it stands in the image
  abbrev pub placed_instr : Instr → Instr
  placed_instr i = moved_by start (moved_instr (slice_index_or g.placed.places g.number []) i)

  seam : {A : Type 0} (xs : List A) (y : A) (ys : List A) → slice_get (xs ++ y ∷ ys) (length xs) ≡ Some y
  seam [] y ys = refl
  seam (x ∷ xs) y ys = seam xs y ys

  next_here : (next : Step) (d : Draft) → Within (with_step next d) → slice_get whole (length d.code) ≡ Some next
  unfolding with_step
  next_here next d w = ap (λ (c : List Step). slice_get c (length d.code)) (w.code ∙ append_assoc d.code (next ∷ []) w.more) ∙ seam d.code next w.more

  -- the instruction of the step that the draft gets next, with or without a list of coordinates
  pub next_stands : (next : Step) (d : Draft) → Within (with_step next d) → StandsOver g.image g.before g.after g.placed g.number g.unit (length d.code) next
  next_stands next d w = stands_over g.image g.before g.after g.placed g.number g.unit g.linked g.is_unit (length d.code) next (next_here next d w)

  step_here : (i : Instr) (d : Draft) → Within (with_instr i d) → slice_get whole (length d.code) ≡ Some (step_of i)
  unfolding with_instr
  step_here i d w = next_here (step_of i) d w

  -- the instruction that the draft gets next is the one at which the code stands
  pub begins_here : (i : Instr) (d : Draft) (s : CodeState) → Within (with_instr i d) → step_of i ≡ Plain i → At s (length d.code) → step g.image s ≡ begun g.image (placed_instr i) s
  unfolding step
  begins_here i d s w plain at =
      let there = (stands g.image g.before g.after g.placed g.number g.unit g.linked g.is_unit (length d.code) i (step_here i d w ∙ ap Some plain)).1 in
      ap (λ (o : Option Instr). begun_at g.image s o) (ap (λ (n : ℕ). slice_get g.image.code.items n) at ∙ there)

  -- it stands in the unit
  pub stands_here : (i : Instr) (d : Draft) → Within (with_instr i d) → step_of i ≡ Plain i → StandsAt g.unit (length d.code) i
  stands_here i d w plain = (stands g.image g.before g.after g.placed g.number g.unit g.linked g.is_unit (length d.code) i (step_here i d w ∙ ap Some plain)).0

  pub and_one : (i : Instr) (d : Draft) → Extended d 1 (with_instr i d)
  and_one i d = and_instr i d d 0 (as_it_was d)

  pub code_more : (i : Instr) (d : Draft) → length (with_instr i d).code ≡ length d.code + 1
  unfolding with_instr with_step
  code_more i d = length-append d.code (step_of i ∷ [])

  pub regs_more : (i : Instr) (d : Draft) → (with_instr i d).regs ≡ d.regs
  unfolding with_instr with_step
  regs_more i d = refl

  pub at_next : (i : Instr) (d : Draft) (s : CodeState) (n : ℕ) → At s (length d.code) → n ≡ s.at + 1 → n ≡ start + length (with_instr i d).code
  at_next i d s n at is = let m = code_more i d in omega (arith, at, is, m)
