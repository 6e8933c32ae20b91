-- Where the fields of a unit stand in the image, as the code of its expressions relies on it.
use Rattle.std.proofs.Common.{◌≡◌, ◌∙◌, ℕ, ◌+◌, ◌<◌, ◌≤◌, ◌^◌, true, List, [], ◌∷◌, ◌++◌, Any, length, slice_get, Option, Some, refl, sym, ap, subst, arith, append_assoc}
use Rattle.std.specs.List.{slice_index_or}
use Rattle.cstar_base.specs.declared.operators.Direction.{Direction}
use Rattle.cstar_base.specs.declared.operators.Inclusion.{Inclusion}
use Rattle.cstar_base.specs.declared.operators.SegmentMode.{SegmentMode}
use Rattle.cstar_tree.specs.declared.typed.VarInfo.{VarInfo}
use Rattle.code_lengths.proofs.Declaring.{at_length}
use Rattle.lower_base.specs.Drafts.{Draft, Plain, step as step_of, with_instr}
use Rattle.paris_code.specs.declared.instr.Instr.{Instr}
use Rattle.paris_code.specs.declared.instr.Instr.TheVariants as I
use Rattle.paris_code.specs.declared.operands.Field.{Field}
use Rattle.paris_code.specs.declared.operands.Reduction.{Reduction}
use Rattle.paris_code.specs.declared.program.Owner.TheVariants as W
use Rattle.paris_code.specs.declared.program.Virtual.{Virtual}
use Rattle.paris_code.specs.Memory.{BitMemory}
use Rattle.paris_code.specs.Moving.{moved_bit}
use Rattle.paris_code.specs.Proper.{IsEntry, IsOwn}
use Rattle.paris_code.specs.RuleOperands.{BitIsWith}
use Rattle.paris_code.specs.Shapes.{bits_at}
use Rattle.paris_code.specs.Spans.{IsInUse, Span, IsNamedAt, StandsAt, entry_of, fields_of}
use Rattle.source_meaning.specs.State.{State}
use Rattle.source_meaning.specs.Values.{Active, Scope}
use Rattle.code_follows.proofs.Settings.{Setting, StandsBelow, Within, stands_here as stands_so, start}
use Rattle.fields_follow.proofs.Fields.{HoldsFields, HoldsNumbers}
use Rattle.vp_sets.specs.Positions.{coordinate, is_geometry, positions_fit}
use Rattle.fields_follow.proofs.Extents.{extents_in}
use Rattle.fields_follow.specs.Fields.{IsElement, file_field, file_number}
use Rattle.fields_follow.proofs.FileFields.{Apart}
use Rattle.fields_follow.proofs.Instructions.{SameExtents, extents, place, shapes}
use Rattle.fields_follow.proofs.Named.{NamesFields}
use Rattle.fields_follow.proofs.Locals.{HoldsLocals}

module _ (g : Setting) where
  -- the field of an element of a variable of the file
  abbrev pub of_file : ℕ → ℕ → Field
  of_file k element = file_field g.typed g.image k element

  -- the field is an own entry, and it is the entry for an element of the file
  abbrev pub IsOwnField : Field → Type 0
  IsOwnField f = IsOwn g.unit f.offset f.set f.len

  abbrev pub IsFileField : ℕ → ℕ → Field → Type 0
  IsFileField k element f = IsEntry g.unit f.offset (record { set = f.set; len = f.len; owner = W.File (file_number g.typed k element) })

  -- What is known of the unit's fields in the image: those that instructions name end below the flags; the
  -- entry of an element is at its field, which ends below them too, and is apart from those of other elements and
  -- from own entries; two own entries are apart where each is named at an instruction, or before it, and behind it, or where
  -- the one is in use before an instruction and behind it and the other is named there;
  -- both are apart from what stands below the unit's entries, as an own entry that is in use before a call and behind it
  -- stands below those of what is called; and the coordinates of any number are words, and the shapes are grids with the
  -- extents of the source. A field that takes an address ends below the flags too. A scan goes along an axis of its set,
  -- and its bit is of that set.
  pub record PlacesFields : Type 0 where
    pub ends : (at : ℕ) (i : Instr) (f : Field) (others : List Field) → StandsAt g.unit at i → step_of i ≡ Plain i → NamesFields i → fields_of i ≡ f ∷ others → (f.set < length (shapes g)) × ((place g f).offset + f.len ≤ bits_at (shapes g) f.set)
    pub scans : (at : ℕ) (combiner : Reduction) (d a : Field) (axis : ℕ) (direction : Direction) (mode : SegmentMode) (bit : Option Field) (within : Inclusion) → StandsAt g.unit at (I.Scan combiner d a axis direction mode bit within)
        → (axis < length (extents g d.set).own) × BitIsWith (shapes g) (place g d) mode (moved_bit (slice_index_or g.placed.places g.number []) bit)
    pub exists : (k element set : ℕ) (info : VarInfo) → IsElement g.typed k info set element → set < length (shapes g)
    pub files_end : (k element set : ℕ) (info : VarInfo) → IsElement g.typed k info set element → (of_file k element).offset + (of_file k element).len ≤ bits_at (shapes g) (of_file k element).set
    pub file : (k element : ℕ) (info : VarInfo) (f : Field) → IsElement g.typed k info f.set element → info.elem.bits ≡ f.len → IsFileField k element f → place g f ≡ of_file k element
    pub files_apart : (k element set j other t : ℕ) (info of : VarInfo) → IsElement g.typed k info set element → IsElement g.typed j of t other → (k ≡ j → element ≡ other → ⊥) → Apart (of_file k element) (of_file j other)
    pub own_file : (k element set : ℕ) (info : VarInfo) (f : Field) → IsElement g.typed k info set element → IsOwnField f → Apart (place g f) (of_file k element)
    pub owns_apart : (f h : Field) (first at last later : ℕ) → (f.offset ≡ h.offset → ⊥) → IsOwnField f → IsOwnField h → h.set < length (shapes g) → IsNamedAt g.unit f.offset first → IsNamedAt g.unit f.offset last → first ≤ at → at < last
        → IsNamedAt g.unit h.offset at → IsNamedAt g.unit h.offset later → at < later → Apart (place g f) (place g h)
    pub owns_apart_at : (f h : Field) (first at : ℕ) → (f.offset ≡ h.offset → ⊥) → IsOwnField f → IsOwnField h → h.set < length (shapes g) → IsNamedAt g.unit f.offset first → first < at → ((span : Span) → IsInUse g.unit f.offset W.Own span → at + 1 ≤ span.last) → IsNamedAt g.unit h.offset at → Apart (place g f) (place g h)
    pub own_and_below : (f below : Field) → IsOwnField f → StandsBelow g.image g.placed g.number below → Apart (place g f) below
    pub file_and_below : (k element set : ℕ) (info : VarInfo) (below : Field) → IsElement g.typed k info set element → StandsBelow g.image g.placed g.number below → Apart (of_file k element) below
    pub own_below_called : (f : Field) (first at index : ℕ) → IsOwnField f → f.set < length (shapes g) → (place g f).offset + f.len ≤ bits_at (shapes g) f.set → IsNamedAt g.unit f.offset first → first < at → ((span : Span) → IsInUse g.unit f.offset W.Own span → at ≤ span.last) → StandsAt g.unit at (I.FrontCall index)
        → StandsBelow g.image g.placed index (place g f)
    pub few : (set axis p : ℕ) → coordinate (extents g set).own p axis < 2 ^ 32
    pub address_ends : (at : ℕ) (d : Field) (set : ℕ) (over : _) → slice_get g.image.code.items (start g + at) ≡ Some (I.MakeAddress (place g d) set over) → (d.set < length (shapes g)) × ((place g d).offset + d.len ≤ bits_at (shapes g) d.set)
    pub geometry : (set : ℕ) → set < length (shapes g) → is_geometry (extents g set).own ≡ true
    pub grids : (set : ℕ) → set < length (shapes g) → (extents_in g.typed set ≡ (extents g set).own) × (positions_fit (extents g set).own ≡ true)

  -- what the memory holds of the source's state is the numbers of the fields, where these positions are active; and the
  -- extents of the shapes are those of the image
  pub record HoldsTheFields : Type 1 where
    pub scope : Scope
    pub same_extents : SameExtents g scope
    pub active : Active
    pub opens : (live : ℕ → Type 0) (at : ℕ) (st : State) (m : BitMemory) → g.held.holds live at st m → HoldsFields g.typed g.image active st m
    pub locals : (live : ℕ → Type 0) (at : ℕ) (st : State) (m : BitMemory) → g.held.holds live at st m → HoldsLocals g live at st m
    pub closes : (live : ℕ → Type 0) (at : ℕ) (st : State) (m : BitMemory) → HoldsFields g.typed g.image active st m → HoldsLocals g live at st m → g.held.holds live at st m
    pub ends : (st : State) (m : BitMemory) → HoldsNumbers g.typed g.image st m → g.held.ends st m

  -- the instruction that the draft gets next stands in the unit
  pub stands_here : (i : Instr) (d : Draft) → Within g (with_instr i d) → step_of i ≡ Plain i → StandsAt g.unit (length d.code) i
  stands_here i d w plain = stands_so g i d w plain

  -- an entry that a draft has is the unit's
  pub entry_is : (earlier later : List Virtual) (v : Virtual) (e : Draft) → Within g e → e.fields ≡ (earlier ++ v ∷ []) ++ later → IsEntry g.unit (length earlier) v
  entry_is earlier later v e w is =
      ap (λ (xs : List Virtual). slice_get xs (length earlier)) (w.fields ∙ ap (λ (xs : List Virtual). xs ++ w.entries) is ∙ append_assoc (earlier ++ v ∷ []) later w.entries ∙ append_assoc earlier (v ∷ []) (later ++ w.entries))
      ∙ at_length earlier v (later ++ w.entries)

  -- an instruction that stands at a place names its first field there
  pub names_first : (i : Instr) (first : Field) (others : List Field) (at : ℕ) → StandsAt g.unit at i → fields_of i ≡ first ∷ others → IsNamedAt g.unit first.offset at
  names_first i first others at there names = (i, there, subst (λ (xs : List Field). Any (λ (h : Field). entry_of h ≡ first.offset) xs) (sym names) (0, first, omega arith, refl, refl))
