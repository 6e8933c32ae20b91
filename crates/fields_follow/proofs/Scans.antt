-- The code of scans follows: their last instruction puts their numbers in a field.
use Rattle.std.proofs.Common.{◌≡◌, ◌∙◌, ℕ, ◌+◌, ◌<◌, ◌≤◌, ◌^◌, Bool, true, false, not, [], ◌∷◌, length, Option, Some, None, ◌⊎◌, inl, inr, refl, sym, ap, subst, arith}
use Rattle.std.specs.List.{slice_index_or}
use Rattle.std.specs.Prelude.{IfSome, is_none}
use denote.Hole.Carrier
use Rattle.cstar_base.specs.declared.operators.Combiner.{Combiner}
use Rattle.cstar_base.specs.declared.operators.Combiner.TheVariants as C
use Rattle.cstar_base.specs.declared.operators.Direction.{Direction}
use Rattle.cstar_base.specs.declared.operators.Inclusion.{Inclusion}
use Rattle.cstar_base.specs.declared.operators.SegmentMode.{SegmentMode}
use Rattle.cstar_tree.specs.declared.typed.TExpr.{TExpr, out-TExpr}
use Rattle.cstar_tree.specs.declared.typed.TExpr as T
use Rattle.cstar_tree.specs.declared.typed.ValueType.{ValueType}
use Rattle.cstar_tree.specs.declared.typed.VarInfo.{VarInfo}
use Rattle.cstar_tree.specs.declared.typed.Variable.{Variable}
use Rattle.cstar_tree.specs.StatementTypes.{variable_info}
use Rattle.cstar_tree.specs.Typed.{type_of}
use Rattle.code_lengths.specs.Lowerable.{IsLowerable}
use Rattle.code_lengths.specs.Naming.{HasBits, NamesVariables, plain}
use Rattle.code_lengths.specs.Ready.{IsReadyButForFields}
use Rattle.code_lengths.specs.Shaped.{IsShaped}
use Rattle.lower_base.specs.declared.emit.Out.{Out}
use Rattle.lower_base.specs.declared.emit.Out.TheVariants as O
use Rattle.lower_base.specs.Drafts.{Draft, Fails, Made, Makes, an_entry, from, in_field, step as step_of, then_make, with_instr}
use Rattle.lower_base.specs.Operators.{scan_fold_of}
use Rattle.lower_comm.specs.Messages.{communicated, enumerated, part_field, scanned as scanned_by, segment_field}
use Rattle.lower_expr.specs.Values.{message_to, next_of}
use Rattle.paris_code.specs.declared.instr.Instr.{Instr}
use Rattle.paris_code.specs.declared.instr.Instr.TheVariants as I
use Rattle.paris_code.specs.declared.operands.Field.{Field}
use Rattle.paris_code.specs.declared.operands.Konst.TheVariants as K
use Rattle.paris_code.specs.declared.operands.Reduction.TheVariants as F
use Rattle.paris_code.specs.declared.program.Owner.TheVariants as W
use Rattle.paris_code.specs.Code.{CodeState}
use Rattle.paris_code.specs.Memory.{processors}
use Rattle.paris_code.specs.Moving.{moved_bit}
use Rattle.paris_code.specs.RuleOperands.{BitIsWith}
use Rattle.paris_code.specs.Scanning as Machine
use Rattle.paris_code.specs.Spans.{IsNamedAt, StandsAt, fields_of}
use Rattle.source_meaning.specs.Expressions.{scan_over}
use Rattle.source_meaning.specs.Scans.{bit_at}
use Rattle.source_meaning.specs.State as Source
use Rattle.source_meaning.specs.State.{State}
use Rattle.source_meaning.specs.Values.{Parallel}
use Rattle.source_meaning.proofs.ConstantLaws.{Boxed}
use Rattle.communication_laws.specs.Scans.{bit_counts}
use Rattle.code_follows.specs.Fragment.{NamesAmong}
use Rattle.code_follows.proofs.Following.{Extends, Follows, HasRegisters, Sim, extends_then}
use Rattle.code_follows.proofs.Growing.{Extended, as_it_was, extended}
use Rattle.code_follows.proofs.Operators.{wide_signed}
use Rattle.code_follows.proofs.Settings.{At, Setting, Within, and_one, earlier, layout}
use Rattle.fields_follow.specs.Fragment.{IsSegments, IsWide}
use Rattle.fields_follow.proofs.Forms.{HasItsCode}
use Rattle.fields_follow.proofs.Instructions.{HasNumbers, Puts, extents, place, puts_constant, shapes, word_in}
use Rattle.fields_follow.proofs.Neighbours.{fit_positive}
use Rattle.fields_follow.proofs.Outcomes.{Ended, Given, meant, then_known}
use Rattle.fields_follow.proofs.Passing.{fields_longer, After, Behind, GivesField, Passes, after_same, flags_of, gives_from, gives_numbers, made_after, names_second, names_third, nothing_after, passes_less, puts_own}
use Rattle.fields_follow.proofs.Places.{HoldsTheFields, IsOwnField, PlacesFields, stands_here}
use Rattle.fields_follow.proofs.Scanning.{ScanGives, ones_give, puts_scan, scan_ended, scan_gives, scan_instr, scan_numbers, scanned_in, variable_segments}
use Rattle.fields_follow.proofs.Starts.{no_home, starts_entry, Starts, starts_later}
use Rattle.fields_follow.proofs.Values.{FindsOrFails, and_entry, finds_read, next_field, one_more, taken, with_entry}

some_shape : (o : Option ℕ) → is_none o ≡ false → (s : ℕ) × (o ≡ Some s)
some_shape (Some s) h = (s, refl)
some_shape None h = cc

not_twice : (b : Bool) → not (not b) ≡ b
not_twice true = refl
not_twice false = refl

module _ (g : Setting) (has : HasRegisters g) (alive : Variable → Type 0) (n : ℕ) (ready : (d : Draft) → IsReadyButForFields g.typed g.instance (layout g) n d) (places : PlacesFields g) (fields : HoldsTheFields g) (set : ℕ) where
  abbrev moved_field : Option Field → Option Field
  moved_field bits = moved_bit (slice_index_or g.placed.places g.number []) bits

  -- The field of the bits that begin segments, where there are any, is found. The memory has them there where they count,
  -- and an instruction that is next names the field.
  pub record Segments (bit : Option Variable) (d : Draft) : Type 0 where
    pub bits : Option Field
    pub after : Draft
    pub made : segment_field g.typed (layout g) bit d ≡ Makes bits after
    pub grown : Extended d 0 after
    pub same : after.code ≡ d.code
    pub holds : (f : Field) (mode : SegmentMode) (i : Instr) (s : CodeState) (st : State) (active : ℕ → Bool) → Within g (with_instr i after) → ((h : Field) → bits ≡ Some h → IsNamedAt g.unit h.offset (length after.code)) → At g s (length after.code) → f.set ≡ set → set < length (shapes g)
        → BitIsWith (shapes g) (place g f) mode (moved_field bits) → Sim g alive st s → (p : ℕ) → p < processors (shapes g) set → bit_counts mode (active p) ≡ true → Machine.bit_is_one s.memory (moved_field bits) p ≡ bit_at st bit p

  -- or there is no code
  abbrev SegmentsOrFails : Option Variable → Draft → Type 0
  SegmentsOrFails bit d = (segment_field g.typed (layout g) bit d ≡ Fails) ⊎ Segments bit d

  segments : (bit : Option Variable) (d : Draft) → IsSegments bit → HasBits g.typed g.instance n bit → IfSome bit alive → (s : CodeState) (st : State) → Sim g alive st s → SegmentsOrFails bit d
  unfolding segment_field then_make bit_at
  segments None d is names living s st sim = inr (record {
    bits = None;
    after = d;
    made = refl;
    grown = as_it_was d;
    same = refl;
    holds = λ f mode i t u active within named here on exists with_it agrees p below counts. refl;
  })
  segments (Some x) d is names living s st sim = by (finds_read g has alive n ready places fields shape.0 x info d is living names.2.named shape.1 refl s st sim)
    where
      shape : (s_of : ℕ) × (names.0.shape ≡ Some s_of)
      shape = some_shape names.0.shape names.1

      info : VarInfo
      info = variable_info names.2.word (plain names.0) names.2.start

      code : Made Field → Made (Option Field)
      code m = then_make m (λ f after. Makes (Some f) after)

      by : FindsOrFails g has alive n ready places fields shape.0 x info d → SegmentsOrFails (Some x) d
      by (inl fails) = inl (ap code fails)
      by (inr found) = inr (record {
        bits = Some found.f;
        after = found.e;
        made = ap code found.is;
        grown = found.grown;
        same = found.code;
        holds = λ f mode i t u active within named here on exists with_it agrees p below counts.
            variable_segments g alive places fields set x shape.0 info found.f f mode u t active (found.carries (with_instr i found.e) 1 (and_one g i found.e) within) (length found.e.code) (named found.f refl) (omega (arith, here)) on exists with_it agrees p below counts;
      })

  segments_extend : (bit : Option Variable) (d : Draft) → SegmentsOrFails bit d → Extends g d (segment_field g.typed (layout g) bit d)
  unfolding Extends
  segments_extend bit d (inl fails) = subst (λ (m : Made (Option Field)). Extends g d m) (sym fails) tt
  segments_extend bit d (inr b) = subst (λ (m : Made (Option Field)). Extends g d m) (sym b.made) (0, b.grown)

  module _ (axis : ℕ) (combiner : Combiner) (unsigned : Bool) (direction : Direction) (mode : SegmentMode) (bit : Option Variable) (way : Inclusion) (apart : combiner ≡ C.Last → ⊥) where
    abbrev instr : Field → Field → Option Field → Instr
    instr f a bits = scan_instr g fields set axis combiner unsigned direction mode bit way f a bits

    abbrev numbers : State → (ℕ → ℕ) → ℕ → ℕ
    numbers st v q = scan_numbers g fields set axis combiner unsigned direction mode bit way st v q

    -- Behind the code that gives the field of what is scanned the instruction puts the numbers of the scan in a field.
    pub scanned_behind : (f a : Field) (bound : ℕ) (d e : Draft) (s : CodeState) (st : State) (v : ℕ → ℕ) → f.set ≡ set → ((p : ℕ) → v p < 2 ^ 32) → GivesField g alive 32 bound d s set st v a e → (b : Segments bit e) → Within g (with_instr (instr f a b.bits) b.after)
        → (p : Passes g alive bound d b.after s st (Unit {0})) × Puts g set (instr f a b.bits) f p.t (numbers st v)
    unfolding step_of scan_over
    scanned_behind f a bound d e s st v on few gives b within = (
      record {
        grown = (gives.passes.grown.0 + 0, extended d e b.after gives.passes.grown.0 0 gives.passes.grown.1 b.grown);
        t = gives.passes.t;
        go = gives.passes.go;
        at = starts_later g alive gives.passes.t gives.passes.t (length e.code) e.regs (length e.fields) (length b.after.code) b.after.regs (length b.after.fields) (omega (arith, same_length)) b.grown.regs (fields_longer e b.after 0 b.grown) (subst (λ (k : ℕ). At g gives.passes.t k) (sym same_length) gives.passes.at.stands) gives.passes.at;
        registers = gives.passes.registers;
        sim = gives.passes.sim;
        stays = λ u h first later p below own ends before low after high. gives.passes.stays behind h first later p below own ends before low after (omega (arith, high, same_length));
      },
      puts_scan g fields set axis combiner unsigned direction mode bit way f a b.bits gives.passes.t st v apart (subst (λ (k : ℕ). axis < length (extents g k).own) on rules.0) (fit_positive (extents g set).own (places.grids set there.exists).1)
          (λ p below. flags_of g alive places fields st gives.passes.t set p gives.passes.sim there.exists below) there few (b.holds f mode i gives.passes.t st (fields.active set) within (λ h same. names_third g i f a h [] (length b.after.code) stands (ap (λ (o : Option Field). fields_of (instr f a o)) same)) (subst (λ (k : ℕ). At g gives.passes.t k) (sym same_length) gives.passes.at.stands) on there.exists rules.1 gives.passes.sim),
    )
      where
        i : Instr
        i = instr f a b.bits

        same_length : length b.after.code ≡ length e.code
        same_length = ap length b.same

        stands : StandsAt g.unit (length b.after.code) i
        stands = stands_here g i b.after within refl

        behind : Behind g a e
        behind = (length b.after.code, (names_second g i f a _ (length b.after.code) stands refl, omega (arith, same_length)))

        there : HasNumbers g 32 set a gives.passes.t v
        there = gives_numbers g alive places fields 32 bound d s set st v a e gives behind

        rules : (axis < length (extents g f.set).own) × BitIsWith (shapes g) (place g f) mode (moved_field b.bits)
        rules = places.scans (length b.after.code) (scan_fold_of combiner (not unsigned)) f a axis direction mode b.bits way stands

module _ (g : Setting) (has : HasRegisters g) (alive : Variable → Type 0) (n : ℕ) (ready : (d : Draft) → IsReadyButForFields g.typed g.instance (layout g) n d) (places : PlacesFields g) (fields : HoldsTheFields g) (set : ℕ) where
  -- The code puts the numbers of a scan in a field by its last instruction: what is said where an instruction does, behind
  -- code that leaves all as it was, is said of it, and what is said where it ends early.
  abbrev pub PutsScan : Field → TExpr → (Draft → Made Out) → Type 1
  PutsScan f e made =
      (bound : ℕ) (d : Draft) (s : CodeState) (st : State) → bound ≤ length d.fields → Starts g alive s (length d.code) d.regs (length d.fields) → Sim g alive st s → (Q : Out → Draft → Type 0)
      → (ScanGives g alive places fields set e st → (e2 : Draft) (i : Instr) → Within g (with_instr i e2) → (p : Passes g alive bound d e2 s st (Unit {0})) → Puts g set i f p.t (λ q. scanned_in g alive places fields set st e q) → Q (O.Field f) (with_instr i e2))
      → (Ended g s (meant g fields e st) → (x : Out) (after : Draft) → Q x after) → After g Q (made d)

  -- what is scanned is given in a field, and its numbers are words
  pub record SourceGiven (e : TExpr) : Type 0 where
    pub follows : (d : Draft) (s : CodeState) (st : State) → Starts g alive s (length d.code) d.regs (length d.fields) → Sim g alive st s
        → Follows g (Given g (λ q. scanned_in g alive places fields set st e q) st (λ out x. (h : Field) × ((out ≡ O.Field h) × GivesField g alive 32 (length d.fields) d s set st (λ q. scanned_in g alive places fields set st e q) h x))) s (meant g fields e st) (next_of g.typed (layout g) 32 true e d)
    pub few : (s : CodeState) (st : State) → Sim g alive st s → (q : ℕ) → scanned_in g alive places fields set st e q < 2 ^ 32

  -- a scan of a value
  module _ (ty : ValueType) (p : Boxed) (source : TExpr) (axis : ℕ) (combiner : Combiner) (direction : Direction) (mode : SegmentMode) (bit : Option Variable) (way : Inclusion) where
    abbrev whole : TExpr
    whole = T.Scan' ty p source axis combiner direction mode bit way

    pub source_part : HasItsCode g.typed g.instance alive n whole → HasItsCode g.typed g.instance alive n source × HasBits g.typed g.instance n bit × IfSome bit alive
    unfolding IsShaped IsLowerable NamesVariables NamesAmong
    source_part c = (record { code = record { shaped = c.code.shaped; lowerable = c.code.lowerable.2; names = c.code.names.1 }; among = c.among.1 }, c.code.names.0, c.among.0)

    module _ (same : ty ≡ type_of source) (given : SourceGiven source) (wide : IsWide set (type_of source)) (apart : combiner ≡ C.Last → ⊥) (is_bit : IsSegments bit) (c : HasItsCode g.typed g.instance alive n whole) (f : Field) (on : f.set ≡ set) where
      abbrev unsigned : Bool
      unsigned = not ty.elem.signed

      abbrev next : Out → Draft → Made Out
      next out e = communicated g.typed (layout g) whole O.Nothing (out ∷ []) (O.Field f) e

      bits_behind : (s : CodeState) (st : State) → Sim g alive st s → (e : Draft) → SegmentsOrFails g has alive n ready places fields set bit e
      bits_behind s st sim e = segments g has alive n ready places fields set bit e is_bit (source_part c).1 (source_part c).2 s st sim

      abbrev last_instr : Field → Option Field → Instr
      last_instr a bits = scan_instr g fields set axis combiner unsigned direction mode bit way f a bits

      abbrev behind_bits : Field → Made (Option Field) → Made Out
      behind_bits a made = then_make made (λ bits after. Makes (O.Field f) (with_instr (last_instr a bits) after))

      next_is : (a : Field) (e : Draft) → next (O.Field a) e ≡ behind_bits a (segment_field g.typed (layout g) bit e)
      unfolding communicated part_field from in_field out-TExpr Carrier.out scanned_by
      next_is a e =
          ap (λ (b : Bool). then_make (segment_field g.typed (layout g) bit e) (λ bits after. scanned_by (scan_fold_of combiner b) a (record { axis = axis; direction = direction; mode = mode; inclusion = way }) bits (O.Field f) after))
          (wide_signed (type_of source).elem wide.1 ∙ ap (λ (y : ValueType). y.elem.signed) (sym same) ∙ sym (not_twice ty.elem.signed))

      next_grows : (s : CodeState) (st : State) → Sim g alive st s → (out : Out) (e : Draft) → Extends g e (next out e)
      unfolding Extends communicated part_field from in_field out-TExpr Carrier.out
      next_grows s st sim (O.Field a) e =
          subst (λ (m : Made Out). Extends g e m) (sym (next_is a e))
          (extends_then g e (segment_field g.typed (layout g) bit e) (λ bits after. Makes (O.Field f) (with_instr (last_instr a bits) after)) (segments_extend g has alive n ready places fields set bit e (bits_behind s st sim e)) (λ bits after. (1, and_one g (last_instr a bits) after)))
      next_grows s st sim (O.Scalar r) e = tt
      next_grows s st sim O.Nothing e = tt

      pub scan_message : PutsScan f whole (λ d. message_to g.typed (layout g) whole (next_of g.typed (layout g) 32 true source) (O.Field f) d)
      unfolding message_to scanned_in passes_less scanned_behind then_make
      scan_message bound d s st less here sim Q last ended =
          then_known g s (meant g fields source st) v st (λ out x. (h : Field) × ((out ≡ O.Field h) × GivesField g alive 32 (length d.fields) d s set st v h x)) Q (next_of g.typed (layout g) 32 true source d) (λ out e. next out e)
          (given.follows d s st here sim) (λ out e. next_grows s st sim out e) (λ meant_so out e (a, (is, gives)). after_same g Q (ap (λ (o : Out). next o e) is ∙ next_is a e) (by meant_so a e gives (bits_behind s st sim e)))
          (λ early. ended (scan_ended g alive places fields set ty p source axis combiner direction mode bit way s st early))
        where
          v : ℕ → ℕ
          v = λ q. scanned_in g alive places fields set st source q

          few : (q : ℕ) → v q < 2 ^ 32
          few = given.few s st sim

          by : meant g fields source st ≡ Source.Gives (Parallel v) st → (a : Field) (e : Draft) → GivesField g alive 32 (length d.fields) d s set st v a e → SegmentsOrFails g has alive n ready places fields set bit e → After g Q (behind_bits a (segment_field g.typed (layout g) bit e))
          by meant_so a e gives (inl fails) = after_same g Q (ap (behind_bits a) fails) (nothing_after g Q)
          by meant_so a e gives (inr b) =
              after_same g Q (ap (behind_bits a) b.made) (made_after g Q (O.Field f) (with_instr (last_instr a b.bits) b.after) (λ within.
              let (passes, puts) = scanned_behind g has alive n ready places fields set axis combiner unsigned direction mode bit way apart f a (length d.fields) d e s st v on few gives b within in
              last (scan_gives g alive places fields set ty p source axis combiner direction mode bit way st (ap (λ (y : ValueType). y.shape) same ∙ wide.0) meant_so) b.after (last_instr a b.bits) within (passes_less g alive bound (length d.fields) d b.after s st (Unit {0}) less passes) puts))

  -- a scan of ones, which are put in an entry first
  module _ (ty : ValueType) (axis : ℕ) (direction : Direction) (way : Inclusion) (mode : SegmentMode) (bit : Option Variable) (wide : IsWide set ty) (is_bit : IsSegments bit) (c : HasItsCode g.typed g.instance alive n (T.Enumerate ty axis direction way mode bit)) (f : Field) (on : f.set ≡ set) where
    abbrev ones : TExpr
    ones = T.Enumerate ty axis direction way mode bit

    ones_bits : HasBits g.typed g.instance n bit × IfSome bit alive
    unfolding NamesVariables NamesAmong
    ones_bits = (c.code.names, c.among)

    abbrev one_field : Draft → Field
    one_field d = next_field set 32 d

    abbrev one_instr : Draft → Instr
    one_instr d = I.MoveConstant (one_field d) (K.Imm 1)

    abbrev with_ones : Draft → Draft
    with_ones d = with_instr (one_instr d) (with_entry set 32 W.Own d)

    bits_of_ones : (s : CodeState) (st : State) → Sim g alive st s → (d : Draft) → SegmentsOrFails g has alive n ready places fields set bit (with_ones d)
    bits_of_ones s st sim d = segments g has alive n ready places fields set bit (with_ones d) is_bit ones_bits.0 ones_bits.1 s st sim

    abbrev ones_instr : Draft → Option Field → Instr
    ones_instr d bits = scan_instr g fields set axis C.Add (not ty.elem.signed) direction mode bit way f (one_field d) bits

    abbrev behind_ones : Draft → Made (Option Field) → Made Out
    behind_ones d made = then_make made (λ bits after. Makes (O.Field f) (with_instr (ones_instr d bits) after))

    ones_are : (d : Draft) → communicated g.typed (layout g) ones O.Nothing [] (O.Field f) d ≡ behind_ones d (segment_field g.typed (layout g) bit (with_ones d))
    unfolding communicated enumerated in_field out-TExpr Carrier.out scanned_by then_make an_entry scan_fold_of
    ones_are d = ap (λ (k : ℕ). communicated_from (next_field k 32 d) (with_entry k 32 W.Own d)) on
      where
        communicated_from : Field → Draft → Made Out
        communicated_from one b = then_make (segment_field g.typed (layout g) bit (with_instr (I.MoveConstant one (K.Imm 1)) b)) (λ bits after. scanned_by F.SAdd one (record { axis = axis; direction = direction; mode = mode; inclusion = way }) bits (O.Field f) after)

    pub ones_message : PutsScan f ones (λ d. communicated g.typed (layout g) ones O.Nothing [] (O.Field f) d)
    unfolding scanned_in passes_less scanned_behind word_in then_make
    ones_message bound d s st less here sim Q last ended = after_same g Q (ones_are d) (by (bits_of_ones s st sim d))
      where
        d1 : Draft
        d1 = with_entry set 32 W.Own d

        e : Draft
        e = with_ones d

        by : SegmentsOrFails g has alive n ready places fields set bit e → After g Q (behind_ones d (segment_field g.typed (layout g) bit e))
        by (inl fails) = after_same g Q (ap (behind_ones d) fails) (nothing_after g Q)
        by (inr b) =
            after_same g Q (ap (behind_ones d) b.made) (made_after g Q (O.Field f) (with_instr (ones_instr d b.bits) b.after) (λ within.
            let behind : Extended e (0 + 1) (with_instr (ones_instr d b.bits) b.after) = extended e b.after (with_instr (ones_instr d b.bits) b.after) 0 1 b.grown (and_one g (ones_instr d b.bits) b.after) in
            let early : Within g e = earlier g e (with_instr (ones_instr d b.bits) b.after) (0 + 1) behind within in
            let own : IsOwnField g (one_field d) = taken g set 32 W.Own d (with_instr (ones_instr d b.bits) b.after) (1 + (0 + 1)) within (extended d1 e (with_instr (ones_instr d b.bits) b.after) 1 (0 + 1) (and_one g (one_instr d) d1) behind) in
            let gives : GivesField g alive 32 (length d.fields) d s set st (λ q. 1) (one_field d) e =
            gives_from g alive 32 (length d.fields) d d1 e s set st (λ q. 1) (one_field d) (and_entry set 32 W.Own d)
            (puts_own g alive places fields 32 (length d.fields) set (one_instr d) (one_field d) d1 s st (λ q. 1) (omega arith) (let one = one_more set 32 W.Own d in omega (arith, one)) own (no_home g alive (length d.fields) (length d.fields) (omega arith) here) refl refl early (starts_entry g alive _ _ here) sim (puts_constant g set (one_field d) (K.Imm 1) s (omega arith))) in
            let (passes, puts) = scanned_behind g has alive n ready places fields set axis C.Add (not ty.elem.signed) direction mode bit way (λ same. absurd (let wrong = same in cc)) f (one_field d) (length d.fields) d e s st (λ q. 1) on (λ q. omega arith) gives b within in
            last (ones_give g alive places fields set ty axis direction way mode bit st wide.0) b.after (ones_instr d b.bits) within (passes_less g alive bound (length d.fields) d b.after s st (Unit {0}) less passes) puts))
