-- Where the fields of a unit's entries stand in the image, and which of them have no bit in common. An own entry is
-- in use behind the first instruction that names it and up to the last one.
use Rattle.std.proofs.Common.{◌≡◌, ◌≢◌, ◌∙◌, ℕ, ◌+◌, ◌<◌, ◌≤◌, ◌⊎◌, inl, inr, List, [], ◌∷◌, length, slice_get, Option, Some, refl, sym, ap, subst, arith, append_assoc}
use Rattle.std.specs.List.{Contains, slice_index_or}
use Rattle.std.proofs.lemmas.Bool.{cases_eq}
use Rattle.std.proofs.lemmas.Option.{slice_get_within}
use Rattle.cstar_base.specs.declared.operators.Direction.{Direction}
use Rattle.cstar_base.specs.declared.operators.Inclusion.{Inclusion}
use Rattle.cstar_base.specs.declared.operators.SegmentMode.{SegmentMode}
use Rattle.cstar_tree.specs.declared.typed.VarInfo.{VarInfo}
use Rattle.code_lengths.proofs.Declaring.{at_length}
use Rattle.field_alloc.specs.Placed.{IsUsed, begins}
use Rattle.lower_base.specs.Drafts.{Draft, Plain, Step, step as step_of, with_instr, with_step}
use Rattle.paris_code.specs.declared.instr.Instr.{Instr}
use Rattle.paris_code.specs.declared.instr.Instr.TheVariants as I
use Rattle.paris_code.specs.declared.operands.Field.{Field}
use Rattle.paris_code.specs.declared.operands.Reduction.{Reduction}
use Rattle.paris_code.specs.declared.program.Owner.TheVariants as W
use Rattle.paris_code.specs.Moving.{moved, moved_bit}
use Rattle.paris_code.specs.Proper.{IsEntry, IsOwn}
use Rattle.paris_code.specs.RuleOperands.{BitIsWith}
use Rattle.paris_code.specs.Shapes.{SetShape, bits_at, extents_at, shapes_of}
use Rattle.paris_code.specs.Sound.{KeepsRules}
use Rattle.paris_code.specs.Spans.{IsInUse, IsNamedAt, Span, StandsAt, fields_of}
use Rattle.code_follows.proofs.Settings.{Setting, StandsBelow, Within, placed_instr, start, whole}
use Rattle.code_follows.proofs.Standing.{stands}
use Rattle.fields_follow.specs.Fields.{IsElement, file_field, file_number}
use Rattle.fields_follow.proofs.FileFields.{Apart, apart_back, HasFinal, IsTranslated, file_exists, final_there, same_final, sets_long}
use Rattle.fields_follow.proofs.Named.{NamesFields, ends_below, scan_below}
use Rattle.fields_follow.proofs.Naming.{named_again}

module _ (g : Setting) (made : IsTranslated g.typed g.words g.before g.after g.image) where
  -- where the entries of the unit begin, and where a field of the unit stands
  abbrev pub places : List ℕ
  places = slice_index_or g.placed.places g.number []

  abbrev pub at_bits : Field → Field
  at_bits f = moved places f

  abbrev pub shapes : List SetShape
  shapes = shapes_of g.image

  -- the instruction stands at the place of the unit
  abbrev pub IsThere : Instr → ℕ → Type 0
  IsThere i at = slice_get (whole g) at ≡ Some (Plain i)

  pub there : (i : Instr) (d : Draft) → Within g (with_instr i d) → step_of i ≡ Plain i → IsThere i (length d.code)
  unfolding with_instr with_step
  there i d w plain =
      ap (λ (c : List Step). slice_get c (length d.code)) (w.code ∙ append_assoc d.code (step_of i ∷ []) w.more) ∙ at_length d.code (step_of i) w.more ∙ ap Some plain

  stands_so : (i : Instr) (at : ℕ) → IsThere i at → StandsAt g.unit at i × (slice_get g.image.code.items (start g + at) ≡ Some (placed_instr g i))
  stands_so i at is = stands g.image g.before g.after g.placed g.number g.unit g.linked g.is_unit at i is

  rules_there : (i : Instr) (at : ℕ) → IsThere i at → KeepsRules g.image (start g + at) (placed_instr g i)
  rules_there i at is = made.sound.each (start g + at) (placed_instr g i) (stands_so i at is).1

  -- the first field of an instruction there: it is of a set of the image, and ends below the flags of the set
  pub ends : (i : Instr) (at : ℕ) (f : Field) (others : List Field) → IsThere i at → NamesFields i → fields_of i ≡ f ∷ others → (f.set < length shapes) × ((at_bits f).offset + f.len ≤ bits_at shapes f.set)
  ends i at f others is names has = ends_below g.image (start g + at) (start g) places i f others (rules_there i at is) names has

  -- a scan there goes along an axis of its set, and its bit is of the set
  pub scans : (combiner : Reduction) (d a : Field) (axis : ℕ) (direction : Direction) (mode : SegmentMode) (bit : Option Field) (within : Inclusion) (at : ℕ) → IsThere (I.Scan combiner d a axis direction mode bit within) at
      → (axis < length (extents_at shapes d.set)) × BitIsWith shapes (at_bits d) mode (moved_bit places bit)
  scans combiner d a axis direction mode bit within at is =
      let rules = scan_below g.image (start g + at) places combiner d a axis direction mode bit within (rules_there (I.Scan combiner d a axis direction mode bit within) at is) in (rules.2, rules.3)

  pub named : (i : Instr) (at : ℕ) (f : Field) → IsThere i at → Contains (fields_of i) f → IsNamedAt g.unit f.offset at
  named i at f is has = (i, (stands_so i at is).0, (has.0, f, has.1, has.2, refl))

  pub inside : (entry at : ℕ) → IsNamedAt g.unit entry at → at < length g.unit.code.items
  inside entry at n = slice_get_within g.unit.code.items at n.0 n.1

  -- ---- entries

  -- a field of the lowest bits of an own entry
  pub record IsOwnField (f : Field) : Type 0 where
    pub whole : ℕ
    pub own : IsOwn g.unit f.offset f.set whole
    pub fits : f.len ≤ whole

  -- a field that is an element of a variable of the file
  pub record IsFileField (f : Field) (k : ℕ) (info : VarInfo) (e : ℕ) : Type 0 where
    pub element : IsElement g.typed k info f.set e
    pub entry : IsEntry g.unit f.offset (record { set = f.set; len = info.elem.bits; owner = W.File (file_number g.typed k e) })
    pub is : f.len ≡ info.elem.bits

  -- ---- where they stand

  -- a field of an element stands where the file's field does
  pub file_moved : (f : Field) (k : ℕ) (info : VarInfo) (e : ℕ) → IsFileField f k info e → at_bits f ≡ file_field g.typed g.image k e
  file_moved f k info e is =
      let final = final_there g.typed g.words g.before g.after g.image made k info f.set e is.element in
      let begin : begins g.placed.places g.number f.offset ≡ final.last.field.offset =
      g.placed.files g.number f.offset (file_number g.typed k e) g.unit (record { set = f.set; len = info.elem.bits; owner = W.File (file_number g.typed k e) }) final.last g.is_unit is.entry refl
      (ap (λ (v : _). slice_get v.items (file_number g.typed k e)) (sym made.linked.finals) ∙ final.there) in
      let field : ℕ → ℕ → ℕ → Field = λ set offset len. record { set = set; offset = offset; len = len } in
      ap (λ (n : ℕ). field f.set n f.len) begin ∙ ap (λ (n : ℕ). field n final.last.field.offset f.len) (sym final.of.set_is)
      ∙ ap (λ (n : ℕ). field final.last.field.set final.last.field.offset n) (is.is ∙ sym final.of.len_is)
      ∙ sym (same_final g.typed g.words g.before g.after g.image made k e final.last final.there)

  -- an own entry has no bit of a field of the file
  pub own_and_file : (f : Field) (k : ℕ) (info : VarInfo) (set e : ℕ) → IsOwnField f → IsElement g.typed k info set e → Apart (at_bits f) (file_field g.typed g.image k e)
  own_and_file f k info set e own is =
      let final = final_there g.typed g.words g.before g.after g.image made k info set e is in
      subst (λ (x : Field). Apart (at_bits f) x) (sym (same_final g.typed g.words g.before g.after g.image made k e final.last final.there)) (by final (cases_eq final.last.field.set f.set))
    where
      by : (final : HasFinal g.image.finals.items (file_number g.typed k e) info set) → (final.last.field.set ≡ f.set) ⊎ (final.last.field.set ≢ f.set) → Apart (at_bits f) final.last.field
      by final (inr differ) = inl (λ same. differ (sym same))
      by final (inl same) =
          let long = sets_long g.typed g.words g.before g.after g.image made in
          let exists = file_exists g.typed g.words g.before g.after g.image made k info set e is in
          let of : f.set ≡ set = sym same ∙ final.of.set_is in
          inr (inr (g.placed.files_apart g.number f.offset (file_number g.typed k e) f.set own.whole g.unit final.last g.is_unit own.own (omega (arith, long, exists, of))
          (ap (λ (v : _). slice_get v.items (file_number g.typed k e)) (sym made.linked.finals) ∙ final.there) same))

  -- two own entries that are in use at one instruction are apart
  pub owns_apart : (at : ℕ) (f h : Field) → IsOwnField f → IsOwnField h → f.offset ≢ h.offset → f.set < length shapes → at < length g.unit.code.items → IsUsed g.before g.number g.unit f.offset at → IsUsed g.before g.number g.unit h.offset at
      → Apart (at_bits f) (at_bits h)
  owns_apart at f h one other differ exists within use_one use_other = by (cases_eq h.set f.set)
    where
      by : (h.set ≡ f.set) ⊎ (h.set ≢ f.set) → Apart (at_bits f) (at_bits h)
      by (inr sets) = inl (λ same. sets (sym same))
      by (inl same) =
          let long = sets_long g.typed g.words g.before g.after g.image made in
          shorter (g.placed.apart g.number f.offset h.offset f.set one.whole other.whole at g.unit g.is_unit differ (omega (arith, long, exists)) one.own (subst (λ (s : ℕ). IsOwn g.unit h.offset s other.whole) same other.own) within use_one use_other)
        where
          shorter : (begins g.placed.places g.number f.offset + one.whole ≤ begins g.placed.places g.number h.offset) ⊎ (begins g.placed.places g.number h.offset + other.whole ≤ begins g.placed.places g.number f.offset) → Apart (at_bits f) (at_bits h)
          shorter (inl below) = let fits = one.fits in inr (inl (omega (arith, below, fits)))
          shorter (inr above) = let fits = other.fits in inr (inr (omega (arith, above, fits)))

  -- an entry is named before an instruction, and at it or behind
  pub record Lasts (entry at : ℕ) : Type 0 where
    pub first : ℕ
    pub last : ℕ
    named_first : IsNamedAt g.unit entry first
    named_last : IsNamedAt g.unit entry last
    pub before : first < at
    pub behind : at ≤ last

  -- then it is in use there, and not made there
  lasts_used : (entry at : ℕ) → Lasts entry at → IsUsed g.before g.number g.unit entry at
  lasts_used entry at l =
      let low = l.before in
      let high = l.behind in
      inr (
        ((l.first, l.named_first), (λ span held. let a = (held.named l.first l.named_first).0 in let b = (held.named l.last l.named_last).1 in (omega (arith, a, low), omega (arith, b, high)))),
        (λ made_here. let a = (made_here.in_use.named l.first l.named_first).0 in let b = made_here.begins in omega (arith, a, b, low)),
      )

  lasts_apart : (at : ℕ) (f h : Field) → IsOwnField f → IsOwnField h → f.offset ≢ h.offset → f.set < length shapes → Lasts f.offset at → Lasts h.offset at → Apart (at_bits f) (at_bits h)
  lasts_apart at f h one other differ exists l m =
      let high = l.behind in
      let low = inside f.offset l.last l.named_last in
      owns_apart at f h one other differ exists (omega (arith, high, low)) (lasts_used f.offset at l) (lasts_used h.offset at m)

  -- A value that was written at a place or before and is read behind it, and one that is written at that place and
  -- read behind it, have no bit in common. Where an instruction reads the one for the last time and writes the other,
  -- they may.
  goes_on : (entry first last at : ℕ) → IsNamedAt g.unit entry first → IsNamedAt g.unit entry last → first ≤ at → at < last → Lasts entry (at + 1)
  goes_on entry first last at a b low high = record { first = first; last = last; named_first = a; named_last = b; before = omega (arith, low); behind = omega (arith, high) }

  pub written_apart : (at first last later : ℕ) (f h : Field) → IsOwnField f → IsOwnField h → f.offset ≢ h.offset → h.set < length shapes → IsNamedAt g.unit f.offset first → IsNamedAt g.unit f.offset last → first ≤ at → at < last
      → IsNamedAt g.unit h.offset at → IsNamedAt g.unit h.offset later → at < later → Apart (at_bits h) (at_bits f)
  written_apart at first last later f h one other differ exists a b low high c d behind =
      lasts_apart (at + 1) h f other one (λ same. differ (sym same)) exists (goes_on h.offset at later at c d (omega arith) behind) (goes_on f.offset first last at a b low high)

  -- An entry that is in use before an instruction and behind it has no bit of one that the instruction names, though
  -- that may never be named again.
  pub apart_at : (at first : ℕ) (f h : Field) → IsOwnField f → IsOwnField h → f.offset ≢ h.offset → h.set < length shapes → IsNamedAt g.unit f.offset first → first < at → ((span : Span) → IsInUse g.unit f.offset W.Own span → at + 1 ≤ span.last) → IsNamedAt g.unit h.offset at → Apart (at_bits f) (at_bits h)
  apart_at at first f h one other differ exists named_first early late here = by (named_again g.unit h.offset at)
    where
      used : (place : ℕ) → at ≤ place → place ≤ at + 1 → IsUsed g.before g.number g.unit f.offset place
      used place low high = inr (
        ((first, named_first), (λ span held. let a = (held.named first named_first).0 in let b = late span held in (omega (arith, a, early, low), omega (arith, b, high)))),
        (λ made_here. let a = (made_here.in_use.named first named_first).0 in let b = made_here.begins in omega (arith, a, b, early, low)),
      )

      by : ((later : ℕ) × ((at < later) × IsNamedAt g.unit h.offset later)) ⊎ ((later : ℕ) → at < later → IsNamedAt g.unit h.offset later → ⊥) → Apart (at_bits f) (at_bits h)
      by (inl again) =
          let more = again.1.0 in
          let most = inside h.offset again.0 again.1.1 in
          apart_back (at_bits h) (at_bits f) (owns_apart (at + 1) h f other one (λ same. differ (sym same)) exists (omega (arith, more, most)) (lasts_used h.offset (at + 1) (goes_on h.offset at again.0 at here again.1.1 (omega arith) again.1.0)) (used (at + 1) (omega arith) (omega arith)))
      by (inr never) =
          apart_back (at_bits h) (at_bits f) (owns_apart at h f other one (λ same. differ (sym same)) exists (inside h.offset at here) (inr (((at, here), (λ span held. held.named at here)), (λ made_here. never made_here.again.0 made_here.again.1 made_here.again.2))) (used at (omega arith) (omega arith)))

  -- ---- what stands below the entries of the unit

  -- its own entries are apart from that, and the file's fields are too
  pub own_and_below : (f below : Field) → IsOwnField f → StandsBelow g.image g.placed g.number below → Apart (at_bits f) below
  own_and_below f below own there = by (cases_eq f.set below.set)
    where
      by : (f.set ≡ below.set) ⊎ (f.set ≢ below.set) → Apart (at_bits f) below
      by (inr differ) = inl differ
      by (inl same) =
          let low = there.low in
          let above = g.placed.above g.number f.offset below.set own.whole g.unit g.is_unit there.exists (subst (λ (s : ℕ). IsOwn g.unit f.offset s own.whole) same own.own) in
          inr (inr (omega (arith, low, above)))

  pub file_and_below : (k : ℕ) (info : VarInfo) (set e : ℕ) (below : Field) → IsElement g.typed k info set e → StandsBelow g.image g.placed g.number below → Apart (file_field g.typed g.image k e) below
  file_and_below k info set e below is there =
      let final = final_there g.typed g.words g.before g.after g.image made k info set e is in
      subst (λ (x : Field). Apart x below) (sym (same_final g.typed g.words g.before g.after g.image made k e final.last final.there)) (by final (cases_eq final.last.field.set below.set))
    where
      by : (final : HasFinal g.image.finals.items (file_number g.typed k e) info set) → (final.last.field.set ≡ below.set) ⊎ (final.last.field.set ≢ below.set) → Apart final.last.field below
      by final (inr differ) = inl differ
      by final (inl same) = inr (inl (there.files (file_number g.typed k e) final.last (ap (λ (v : _). slice_get v.items (file_number g.typed k e)) (sym made.linked.finals) ∙ final.there) same))

  -- an own entry that is in use before a call and behind it stands below the entries of what is called
  pub own_below_called : (f : Field) (first at index : ℕ) → IsOwnField f → f.set < length shapes → (at_bits f).offset + f.len ≤ bits_at shapes f.set → IsNamedAt g.unit f.offset first → first < at → ((span : Span) → IsInUse g.unit f.offset W.Own span → at ≤ span.last) → StandsAt g.unit at (I.FrontCall index)
      → StandsBelow g.image g.placed index (at_bits f)
  own_below_called f first at index own exists ends before early late stands = record {
    exists = there;
    low =
        let under = g.placed.under g.number f.offset f.set own.whole at g.unit g.is_unit there own.own (slice_get_within g.unit.code.items at (I.FrontCall index) stands) used in
        let behind = g.placed.behind g.number index at f.set g.unit g.is_unit stands there in
        let fits = own.fits in
        omega (arith, under, behind, fits);
    ends = ends;
    files = λ file last is same. g.placed.files_apart g.number f.offset file f.set own.whole g.unit last g.is_unit own.own there is same;
  }
    where
      there : f.set < length g.before.shapes.items
      there = let long = sets_long g.typed g.words g.before g.after g.image made in omega (arith, long, exists)

      used : IsUsed g.before g.number g.unit f.offset at
      used = inr (
        ((first, before), (λ span held. let a = (held.named first before).0 in let b = late span held in (omega (arith, a, early), b))),
        (λ made_here. let a = (made_here.in_use.named first before).0 in let b = made_here.begins in omega (arith, a, b, early)),
      )
