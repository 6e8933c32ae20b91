-- Parallel variables of blocks: the entries in which they stand, and what a memory holds of those that are open.
use Rattle.std.proofs.Common.{◌≡◌, ◌∙◌, ℕ, zero, suc, ◌+◌, ◌<◌, ◌≤◌, ◌^◌, ◌⊎◌, inl, inr, List, [], ◌∷◌, ◌++◌, length, slice_get, Option, Some, None, refl, sym, ap, subst, arith}
use Rattle.cstar_tree.specs.declared.typed.VarInfo.{VarInfo}
use Rattle.cstar_tree.specs.declared.typed.Variable.TheVariants as V
use Rattle.code_lengths.specs.Naming.{variable_named}
use Rattle.lower_base.specs.declared.names.LocalName.{LocalName}
use Rattle.lower_base.specs.Drafts.{Draft, Fails, Made, Makes, from}
use Rattle.lower_base.specs.Layouts.{field_of, own_field}
use Rattle.paris_code.specs.declared.operands.Field.{Field}
use Rattle.paris_code.specs.declared.program.Owner.TheVariants as W
use Rattle.paris_code.specs.declared.program.Virtual.{Virtual}
use Rattle.paris_code.specs.Memory.{BitMemory, field_number, processors}
use Rattle.paris_code.specs.Proper.{IsOwn}
use Rattle.paris_code.specs.Shapes.{bits_at}
use Rattle.paris_code.specs.Spans.{IsInUse, IsNamedAt, JumpsTo, LiesWithin, Span, StandsAt}
use Rattle.source_meaning.specs.State.{State}
use Rattle.code_follows.proofs.Growing.{Extended}
use Rattle.code_follows.proofs.Settings.{AreNamedBefore, AreOpenAt, Held, HasHome, Setting, Within, earlier, layout, one_home, start}
use Rattle.code_follows.proofs.Standing.{some_same}
use Rattle.fields_follow.proofs.Instructions.{place, shapes}
use Rattle.paris_code.specs.declared.instr.Instr.{Instr}
use Rattle.std.proofs.lemmas.Bool.{cases_lt}

-- what a list has, a longer one has too
kept_get : {A : Type 0} (xs ys : List A) (i : ℕ) (x : A) → slice_get xs i ≡ Some x → slice_get (xs ++ ys) i ≡ Some x
kept_get [] ys i x is = cc
kept_get (y ∷ xs) ys zero x is = is
kept_get (y ∷ xs) ys (suc i) x is = kept_get xs ys i x is

module _ (g : Setting) where
  -- it is an own one, and this is its field with all bits
  pub record IsLocalField (k : ℕ) (info : VarInfo) (f : Field) : Type 0 where
    pub known : variable_named g.typed g.instance (V.Local k) ≡ Some info
    pub parallel : info.shape ≡ Some f.set
    pub home : HasHome g k f.offset
    pub own : IsOwn g.unit f.offset f.set f.len
    pub len : f.len ≡ info.elem.bits

  -- each span in which an entry is in use ends at this place of the image or behind it
  abbrev pub StillUsed : ℕ → ℕ → Type 0
  StillUsed entry at = (span : Span) → IsInUse g.unit entry W.Own span → at ≤ start g + span.last

  -- Of an open variable a memory has, at a place of the image, the numbers of the state in a field that is named before
  -- it, as long as that is in use there; they are numbers of its type.
  pub record HoldsLocal (k : ℕ) (info : VarInfo) (f : Field) (at : ℕ) (st : State) (m : BitMemory) : Type 0 where
    pub first : ℕ
    pub named : IsNamedAt g.unit f.offset first
    pub before : start g + first < at
    pub exists : f.set < length (shapes g)
    pub ends : (place g f).offset + f.len ≤ bits_at (shapes g) f.set
    pub small : (p : ℕ) → st.parallel (V.Local k) 0 p < 2 ^ info.elem.bits
    pub numbers : StillUsed f.offset at → (p : ℕ) → p < processors (shapes g) f.set → field_number m (place g f) p ≡ st.parallel (V.Local k) 0 p

  abbrev pub HoldsLocals : (ℕ → Type 0) → ℕ → State → BitMemory → Type 0
  HoldsLocals lives at st m = (k : ℕ) → lives k → (info : VarInfo) × ((f : Field) × (IsLocalField k info f × HoldsLocal k info f at st m))

  -- the entry is none of an open variable's
  abbrev pub IsNoHome : (ℕ → Type 0) → ℕ → Type 0
  IsNoHome lives entry = (k home : ℕ) → lives k → HasHome g k home → home ≡ entry → ⊥

  -- ---- a variable has one field

  -- an entry behind those that there are where they are open is none of theirs
  pub behind_homes : (lives : ℕ → Type 0) (place entries entry : ℕ) → AreOpenAt g lives place entries → entries ≤ entry → IsNoHome lives entry
  behind_homes lives place entries entry opened high k home living has same =
      let (own, (is, (named, inside))) = opened.0 k living in
      let equal = one_home g k own home is has in
      omega (arith, inside, high, same, equal)

  pub same_local : (k : ℕ) (info of : VarInfo) (f h : Field) → IsLocalField k info f → IsLocalField k of h → (info ≡ of) × (f ≡ h)
  same_local k info of f h one other = (
    some_same info of (sym one.known ∙ other.known),
    ap (λ (n : ℕ). field n f.offset f.len) set ∙ ap (λ (n : ℕ). field h.set n f.len) offset ∙ ap (λ (n : ℕ). field h.set h.offset n) len,
  )
    where
      field : ℕ → ℕ → ℕ → Field
      field set offset len = record { set = set; offset = offset; len = len }

      own : ℕ → ℕ → Virtual
      own set len = record { set = set; len = len; owner = W.Own }

      name : one.home.0 ≡ other.home.0
      name = some_same one.home.0 other.home.0 (sym one.home.1.0 ∙ other.home.1.0)

      offset : f.offset ≡ h.offset
      offset = some_same f.offset h.offset (sym one.home.1.1 ∙ ap (λ (n : LocalName). slice_get g.unit.homes.items n.home) name ∙ other.home.1.1)

      entry : own f.set f.len ≡ own h.set h.len
      entry = some_same (own f.set f.len) (own h.set h.len) (sym one.own ∙ ap (λ (n : ℕ). slice_get g.unit.fields.items n) offset ∙ other.own)

      set : f.set ≡ h.set
      set = ap (λ (v : Virtual). v.set) entry

      len : f.len ≡ h.len
      len = ap (λ (v : Virtual). v.len) entry

  -- what code reads of it is that field, if it finds one
  pub local_is : (k : ℕ) (info : VarInfo) (f : Field) (d : Draft) → IsLocalField k info f
      → (field_of g.typed (layout g) (V.Local k) 0 d ≡ Fails) ⊎ ((h : Field) × ((field_of g.typed (layout g) (V.Local k) 0 d ≡ Makes h d) × ((e : Draft) (m : ℕ) → Extended d m e → Within g e → h ≡ f)))
  unfolding field_of own_field from
  local_is k info f d is = by (slice_get d.homes name.home) refl
    where
      name : LocalName
      name = is.home.0

      entry_of : ℕ → Option Virtual → Made Field
      entry_of home o = from o (λ v. Makes (record { set = v.set; offset = home + 0; len = v.len }) d)

      home_of : Option ℕ → Made Field
      home_of o = from o (λ home. entry_of home (slice_get d.fields (home + 0)))

      located : field_of g.typed (layout g) (V.Local k) 0 d ≡ home_of (slice_get d.homes name.home)
      located = ap (λ (o : Option LocalName). from o (λ n. home_of (slice_get d.homes n.home))) is.home.1.0

      no_more : (n : ℕ) → n + 0 ≡ n
      no_more n = omega arith

      same : (home : ℕ) (v : Virtual) → slice_get d.homes name.home ≡ Some home → slice_get d.fields (home + 0) ≡ Some v → (e : Draft) (m : ℕ) → Extended d m e → Within g e → ◌≡◌ {A = Field} (record { set = v.set; offset = home + 0; len = v.len }) f
      same home v at_home at_entry e m more within =
          ap (λ (x : Virtual). entry_field x (home + 0)) entry ∙ ap (λ (n : ℕ). entry_field (record { set = f.set; len = f.len; owner = W.Own }) n) offset
        where
          entry_field : Virtual → ℕ → Field
          entry_field x n = record { set = x.set; offset = n; len = x.len }

          w : Within g d
          w = earlier g d e m more within

          offset : home + 0 ≡ f.offset
          offset = no_more home ∙ some_same home f.offset (sym (ap (λ (xs : List ℕ). slice_get xs name.home) w.homes_are ∙ kept_get d.homes w.homes name.home home at_home) ∙ is.home.1.1)

          entry : v ≡ record { set = f.set; len = f.len; owner = W.Own }
          entry = some_same v (record { set = f.set; len = f.len; owner = W.Own }) (sym (ap (λ (xs : List Virtual). slice_get xs (home + 0)) w.fields ∙ kept_get d.fields w.entries (home + 0) v at_entry) ∙ ap (λ (n : ℕ). slice_get g.unit.fields.items n) offset ∙ is.own)

      found : (home : ℕ) → slice_get d.homes name.home ≡ Some home → (o : Option Virtual) → slice_get d.fields (home + 0) ≡ o
          → (field_of g.typed (layout g) (V.Local k) 0 d ≡ Fails) ⊎ ((h : Field) × ((field_of g.typed (layout g) (V.Local k) 0 d ≡ Makes h d) × ((e : Draft) (m : ℕ) → Extended d m e → Within g e → h ≡ f)))
      found home at_home None e = inl (located ∙ ap home_of at_home ∙ ap (entry_of home) e)
      found home at_home (Some v) e = inr (record { set = v.set; offset = home + 0; len = v.len }, (located ∙ ap home_of at_home ∙ ap (entry_of home) e, same home v at_home e))

      by : (o : Option ℕ) → slice_get d.homes name.home ≡ o
          → (field_of g.typed (layout g) (V.Local k) 0 d ≡ Fails) ⊎ ((h : Field) × ((field_of g.typed (layout g) (V.Local k) 0 d ≡ Makes h d) × ((e : Draft) (m : ℕ) → Extended d m e → Within g e → h ≡ f)))
      by None e = inl (located ∙ ap home_of e)
      by (Some home) e = found home e (slice_get d.fields (home + 0)) refl

  -- ---- what lasts

  -- at a later place, where fields that are in use there have the same numbers, and for a state with the same numbers
  pub locals_on : (lives : ℕ → Type 0) (at to : ℕ) (st u : State) (m other : BitMemory) → at ≤ to
      → ((k : ℕ) (info : VarInfo) (f : Field) → lives k → IsLocalField k info f → HoldsLocal k info f at st m → StillUsed f.offset to → (p : ℕ) → p < processors (shapes g) f.set → field_number other (place g f) p ≡ field_number m (place g f) p)
      → ((k : ℕ) → lives k → (p : ℕ) → u.parallel (V.Local k) 0 p ≡ st.parallel (V.Local k) 0 p) → HoldsLocals lives at st m → HoldsLocals lives to u other
  locals_on lives at to st u m other behind stays same h k living =
      let (info, (f, (is, holds))) = h k living in (
        info,
        (
          f,
          (
            is,
            record {
              first = holds.first;
              named = holds.named;
              before = let early = holds.before in omega (arith, early, behind);
              exists = holds.exists;
              ends = holds.ends;
              small = λ p. subst (λ (n : ℕ). n < 2 ^ info.elem.bits) (sym (same k living p)) (holds.small p);
              numbers = λ used p below. stays k info f living is holds used p below ∙ holds.numbers (λ span is_span. let late = used span is_span in omega (arith, late, behind)) p below ∙ sym (same k living p);
            },
          ),
        ),
      )

  -- where a jump leads, if they are named before that place: an entry that is in use there is so up to a jump back
  pub locals_landed : (lives : ℕ → Type 0) (place target : ℕ) (jump : Instr) → StandsAt g.unit place jump → JumpsTo jump target → AreNamedBefore g lives target → (st : State) (m : BitMemory) → HoldsLocals lives (start g + place) st m → HoldsLocals lives (target + start g) st m
  locals_landed lives place target jump stands leads named st m h k living =
      let (info, (f, (is, holds))) = h k living in
      let (entry, (home, (first, (names, before)))) = named k living in
      let same : entry ≡ f.offset = one_home g k entry f.offset home is.home in
      let there : IsNamedAt g.unit f.offset first = subst (λ (n : ℕ). IsNamedAt g.unit n first) same names in (
        info,
        (
          f,
          (
            is,
            record {
              first = first;
              named = there;
              before = omega (arith, before);
              exists = holds.exists;
              ends = holds.ends;
              small = holds.small;
              numbers = λ used p below. holds.numbers (λ span is_span. late f.offset first there before used span is_span) p below;
            },
          ),
        ),
      )
    where
      late : (entry first : ℕ) → IsNamedAt g.unit entry first → first < target → StillUsed entry (target + start g) → (span : Span) → IsInUse g.unit entry W.Own span → start g + place ≤ start g + span.last
      late entry first there before used span is_span = by (cases_lt place target)
        where
          begins : span.first ≤ first
          begins = (is_span.named first there).0

          ends : target + start g ≤ start g + span.last
          ends = used span is_span

          by : (place < target) ⊎ (target ≤ place) → start g + place ≤ start g + span.last
          by (inl forward) = omega (arith, forward, ends)
          by (inr back) =
              lies (is_span.stretches (record { first = target; last = place }) (jump, stands, leads, back) (omega (arith, begins, before, back), omega (arith, ends)))
            where
              lies : LiesWithin (record { first = target; last = place }) span ⊎ LiesWithin span (record { first = target; last = place }) → start g + place ≤ start g + span.last
              lies (inl within) = let high = within.1 in omega (arith, high)
              lies (inr within) = let low = within.0 in absurd (omega (arith, low, begins, before))

  -- of fewer variables
  pub locals_fewer : (more less : ℕ → Type 0) (at : ℕ) (st : State) (m : BitMemory) → ((k : ℕ) → less k → more k) → HoldsLocals more at st m → HoldsLocals less at st m
  locals_fewer more less at st m fewer h k living = h k (fewer k living)

  -- an entry that an instruction names is in use up to it
  pub used_up_to : (entry later at : ℕ) → IsNamedAt g.unit entry later → at ≤ start g + later → StillUsed entry at
  used_up_to entry later at named behind span used = let late = (used.named later named).1 in omega (arith, late, behind)

-- the same unit holds the same of them, whatever else is held and is said of it
pub locals_again : (g : Setting) {held more : Held} {from entries upto first fields last : ℕ} (lives : ℕ → Type 0) (at : ℕ) (st : State) (m : BitMemory) → HoldsLocals (record g { held = held; from = from; entries = entries; upto = upto }) lives at st m
    → HoldsLocals (record g { held = more; from = first; entries = fields; upto = last }) lives at st m
locals_again g lives at st m h k living =
    let (info, (f, (is, holds))) = h k living in (
      info,
      (
        f,
        (
          record { known = is.known; parallel = is.parallel; home = is.home; own = is.own; len = is.len },
          record { first = holds.first; named = holds.named; before = holds.before; exists = holds.exists; ends = holds.ends; small = holds.small; numbers = holds.numbers },
        ),
      ),
    )
