-- What the instruction of a scan does, and what a scan means: at each position the fold of the active positions that stand
-- before it on its line and in its segment.
use Rattle.std.proofs.Common.{◌≡◌, ◌∙◌, ℕ, ◌+◌, ◌<◌, ◌≤◌, ◌%◌, ◌^◌, ◌==◌, Bool, true, not, List, [], length, Option, Some, refl, sym, ap, subst}
use Rattle.std.specs.List.{slice_index_or}
use Rattle.vp_sets.specs.Lines.{steps_before}
use Rattle.vp_sets.specs.Positions.{are_positive, coordinate}
use Rattle.cstar_base.specs.declared.operators.Combiner.{Combiner}
use Rattle.cstar_base.specs.declared.operators.Combiner.TheVariants as C
use Rattle.cstar_base.specs.declared.operators.Direction.{Direction}
use Rattle.cstar_base.specs.declared.operators.Inclusion.{Inclusion}
use Rattle.cstar_base.specs.declared.operators.Inclusion.TheVariants as N
use Rattle.cstar_base.specs.declared.operators.SegmentMode.{SegmentMode}
use Rattle.cstar_base.specs.declared.operators.SegmentMode.TheVariants as M
use Rattle.cstar_base.specs.Numbers.{converted}
use Rattle.cstar_base.specs.Operators.{outcome}
use Rattle.cstar_base.proofs.FoldLaws.{fold_once_below}
use Rattle.cstar_tree.specs.declared.typed.TExpr.{TExpr}
use Rattle.cstar_tree.specs.declared.typed.TExpr as T
use Rattle.cstar_tree.specs.declared.typed.ValueType.{ValueType}
use Rattle.cstar_tree.specs.declared.typed.VarInfo.{VarInfo}
use Rattle.cstar_tree.specs.declared.typed.Variable.{Variable}
use Rattle.cstar_tree.specs.Typed.{type_of}
use Rattle.lower_base.specs.Drafts.{step as step_of}
use Rattle.lower_base.specs.Operators.{scan_fold_of}
use Rattle.paris_code.specs.declared.instr.Instr.{Instr}
use Rattle.paris_code.specs.declared.instr.Instr.TheVariants as I
use Rattle.paris_code.specs.declared.operands.Field.{Field}
use Rattle.paris_code.specs.Code.{CodeState, applied, begun}
use Rattle.paris_code.specs.Fetching.{at_active}
use Rattle.paris_code.specs.Meaning.{after}
use Rattle.paris_code.specs.Memory.{field_number, is_active, processors}
use Rattle.paris_code.specs.Moving.{moved_bit}
use Rattle.paris_code.specs.RuleOperands.{BitIsWith}
use Rattle.paris_code.specs.Scanning.{ScanOf}
use Rattle.paris_code.specs.Scanning as Machine
use Rattle.paris_code.specs.Spans.{IsNamedAt}
use Rattle.source_meaning.specs.Expressions.{evaluated, scan_of, scan_over}
use Rattle.source_meaning.specs.Scans.{Scan, bit_at}
use Rattle.source_meaning.specs.Scans as Language
use Rattle.source_meaning.specs.State as Source
use Rattle.source_meaning.specs.State.{Outcome, State, then_do}
use Rattle.source_meaning.specs.Values.{Parallel, Value, at, each, unary_of}
use Rattle.source_meaning.proofs.ConstantLaws.{Boxed}
use Rattle.communication_laws.specs.Scans.{HasBits, bit_counts}
use Rattle.communication_laws.proofs.Orders.{fold_few}
use Rattle.communication_laws.proofs.Scans.{scans}
use Rattle.code_follows.proofs.Following.{Sim}
use Rattle.code_follows.proofs.Settings.{Setting, start}
use Rattle.fields_follow.proofs.Folds.{identity_below}
use Rattle.fields_follow.proofs.Instructions.{HasNumbers, Puts, extents, has_words, place, shapes}
use Rattle.fields_follow.proofs.Meaning.{as_shaped, value_in}
use Rattle.fields_follow.proofs.Outcomes.{Ended, ended_on, meant}
use Rattle.fields_follow.proofs.Places.{HoldsTheFields, PlacesFields}
use Rattle.fields_follow.proofs.Variables.{Carries}

module _ (g : Setting) (fields : HoldsTheFields g) (set axis : ℕ) (combiner : Combiner) (unsigned : Bool) (direction : Direction) (mode : SegmentMode) (bit : Option Variable) (inclusion : Inclusion) where
  -- the scan in the source, and its numbers
  abbrev pub scan_in : State → Scan
  scan_in st = scan_over fields.scope fields.active set unsigned axis combiner direction mode bit inclusion st

  abbrev pub scan_numbers : State → (ℕ → ℕ) → ℕ → ℕ
  scan_numbers st v q = Language.scanned (scan_in st) v q

  -- those of words are words
  pub scan_few : (st : State) (v : ℕ → ℕ) (q : ℕ) → ((p : ℕ) → v p < 2 ^ 32) → scan_numbers st v q < 2 ^ 32
  unfolding Language.scanned Language.fold_before scan_over Language.counts_for Language.begins
  scan_few st v q small = by inclusion
    where
      before : Language.fold_before (scan_in st) v q < 2 ^ 32
      before = fold_few _ _ _ _ (steps_before direction _ (coordinate (fields.scope.extents set) q axis)) (identity_below combiner unsigned) (λ i k below on low. fold_once_below combiner unsigned i (v _) low (small _))

      by : (way : Inclusion) → Language.scanned (record (scan_in st) { inclusion = way }) v q < 2 ^ 32
      by N.Inclusive = fold_once_below combiner unsigned _ (v q) before (small q)
      by N.Exclusive = before

  -- its instruction
  abbrev pub scan_instr : Field → Field → Option Field → Instr
  scan_instr d a bits = I.Scan (scan_fold_of combiner (not unsigned)) d a axis direction mode bits inclusion

  -- the field of the bits has in the memory what the scan has
  abbrev pub HasSegments : Option Field → CodeState → State → Type 0
  HasSegments bits s st = HasBits (shapes g) s.memory set (scan_in st) (moved_bit (slice_index_or g.placed.places g.number []) bits)

  -- By it a field takes the numbers of the scan, where another has those that are scanned.
  pub puts_scan : (d a : Field) (bits : Option Field) (s : CodeState) (st : State) (v : ℕ → ℕ) → (combiner ≡ C.Last → ⊥) → axis < length (extents g set).own → are_positive (extents g set).own ≡ true → ((p : ℕ) → p < processors (shapes g) set → is_active (shapes g) s.memory set p ≡ fields.active set p)
      → HasNumbers g 32 set a s v → ((p : ℕ) → v p < 2 ^ 32) → HasSegments bits s st → Puts g set (scan_instr d a bits) d s (λ q. scan_numbers st v q)
  unfolding begun applied after step_of scan_over
  puts_scan d a bits s st v apart there positive alike numbers few segments = record {
    plain = refl;
    simple = tt;
    others = _;
    names = refl;
    write = at_active (shapes g) s.memory (place g d) (λ p. Machine.scanned (shapes g) s.memory machine p);
    run = refl;
    writes = λ p. refl;
    value = λ p below on. ap (λ (n : ℕ). n % 2 ^ d.len) (same p below on);
    small = λ p below on. scan_few st v p few;
    goes = refl;
  }
    where
      machine : ScanOf
      machine = record { combiner = scan_fold_of combiner (not unsigned); source = place g a; axis = axis; direction = direction; mode = mode; bit = moved_bit (slice_index_or g.placed.places g.number []) bits; inclusion = inclusion }

      scope_extents : (extents g set).own ≡ fields.scope.extents set
      scope_extents = sym (fields.same_extents set numbers.exists)

      on_set : (p : ℕ) → p < processors (shapes g) a.set → p < processors (shapes g) set
      on_set p below = subst (λ (k : ℕ). p < processors (shapes g) k) numbers.of_set below

      same : (p : ℕ) → p < processors (shapes g) set → is_active (shapes g) s.memory set p ≡ true → Machine.scanned (shapes g) s.memory machine p ≡ scan_numbers st v p
      same p below on =
          scans (shapes g) s.memory (scan_in st) (place g a) (moved_bit (slice_index_or g.placed.places g.number []) bits) v (ap (λ (n : ℕ). (extents g n).own) numbers.of_set ∙ scope_extents) (subst (λ (xs : List ℕ). are_positive xs ≡ true) scope_extents positive)
          (subst (λ (xs : List ℕ). axis < length xs) scope_extents there) apart (λ q low. ap (λ (k : ℕ). is_active (shapes g) s.memory k q) numbers.of_set ∙ alike q (on_set q low))
          (λ q low active. has_words g set a s v numbers q (on_set q low) (alike q (on_set q low) ∙ active)) (λ q low counts. segments q (on_set q low) counts) p (subst (λ (k : ℕ). p < processors (shapes g) k) (sym numbers.of_set) below) (sym (alike p below) ∙ on)

module _ (g : Setting) (alive : Variable → Type 0) (places : PlacesFields g) (fields : HoldsTheFields g) (set : ℕ) where
  -- the bits of a variable are there at all positions, where an instruction names its field at this place or behind it
  pub variable_segments : (x : Variable) (s_of : ℕ) (info : VarInfo) (f d : Field) (mode : SegmentMode) (st : State) (s : CodeState) (active : ℕ → Bool) → Carries g alive x info s_of f → (later : ℕ) → IsNamedAt g.unit f.offset later → s.at ≤ start g + later
      → d.set ≡ set → set < length (shapes g) → BitIsWith (shapes g) (place g d) mode (Some (place g f)) → Sim g alive st s → (p : ℕ) → p < processors (shapes g) set → bit_counts mode (active p) ≡ true → Machine.bit_is_one s.memory (Some (place g f)) p ≡ bit_at st (Some x) p
  unfolding bit_at
  variable_segments x s_of info f d mode st s active carries later named behind on_d exists with_it sim p below counts = by mode with_it counts
    where
      there : f.set < length (shapes g)
      there = subst (λ (n : ℕ). n < length (shapes g)) (sym carries.of_set) carries.exists

      number : d.set ≡ f.set → (field_number s.memory (place g f) p == 1) ≡ (st.parallel x 0 p == 1)
      number same = ap (λ (n : ℕ). n == 1) (carries.numbers st s sim later named behind p (subst (λ (n : ℕ). p < processors (shapes g) n) (sym on_d ∙ same ∙ carries.of_set) below))

      d_exists : d.set < length (shapes g)
      d_exists = subst (λ (n : ℕ). n < length (shapes g)) (sym on_d) exists

      by : (way : SegmentMode) → BitIsWith (shapes g) (place g d) way (Some (place g f)) → bit_counts way (active p) ≡ true → (field_number s.memory (place g f) p == 1) ≡ (st.parallel x 0 p == 1)
      by M.NoSegments with_bit counted = cc
      by M.StartBit with_bit counted = number (with_bit d_exists there)
      by M.SegmentBit with_bit counted = number (with_bit d_exists there)

  -- the numbers of a value with scans in it, and of its operands
  unfoldable pub scanned_in : State → TExpr → ℕ → ℕ
  scanned_in st (T.Brackets' ty p inner) q = scanned_in st inner q
  scanned_in st (T.Unary' ty op p operand) q = unary_of op (scanned_in st operand q)
  scanned_in st (T.Binary' ty place op p left r right) q = outcome op 32 (not (type_of left).elem.signed) (scanned_in st left q) (scanned_in st right q)
  scanned_in st (T.Convert' ty p operand) q = converted ty.elem (type_of operand).elem (scanned_in st operand q)
  scanned_in st (T.Scan' ty p source axis combiner direction mode bit inclusion) q = scan_numbers g fields set axis combiner (not ty.elem.signed) direction mode bit inclusion st (λ x. scanned_in st source x) q
  scanned_in st (T.Enumerate ty axis direction inclusion mode bit) q = scan_numbers g fields set axis C.Add (not ty.elem.signed) direction mode bit inclusion st (λ x. 1) q
  scanned_in st e q = value_in (extents g set) st e q

  -- in the source it gives them
  abbrev pub ScanGives : TExpr → State → Type 0
  ScanGives e st = meant g fields e st ≡ Source.Gives (Parallel (λ q. scanned_in st e q)) st

  pub scan_gives : (ty : ValueType) (p : Boxed) (source : TExpr) (axis : ℕ) (combiner : Combiner) (direction : Direction) (mode : SegmentMode) (bit : Option Variable) (inclusion : Inclusion) (st : State) → ty.shape ≡ Some set
      → ScanGives source st → ScanGives (T.Scan' ty p source axis combiner direction mode bit inclusion) st
  unfolding evaluated scan_of then_do at scanned_in
  scan_gives ty p source axis combiner direction mode bit inclusion st shaped given =
      ap (λ (o : Outcome Value). then_do o (λ v after. Source.Gives (scan_of fields.scope fields.active ty axis combiner direction mode bit inclusion v after) after)) given
      ∙ ap (λ (y : ValueType). Source.Gives (scan_of fields.scope fields.active y axis combiner direction mode bit inclusion (Parallel (λ q. scanned_in st source q)) st) st) (as_shaped ty set shaped)

  pub ones_give : (ty : ValueType) (axis : ℕ) (direction : Direction) (inclusion : Inclusion) (mode : SegmentMode) (bit : Option Variable) (st : State) → ty.shape ≡ Some set → ScanGives (T.Enumerate ty axis direction inclusion mode bit) st
  unfolding evaluated scan_of at each scanned_in
  ones_give ty axis direction inclusion mode bit st shaped =
      ap (λ (y : ValueType). Source.Gives (scan_of fields.scope fields.active y axis C.Add direction mode bit inclusion (each y.shape (λ _. 1)) st) st) (as_shaped ty set shaped)

  -- it ends where what is scanned does
  pub scan_ended : (ty : ValueType) (p : Boxed) (source : TExpr) (axis : ℕ) (combiner : Combiner) (direction : Direction) (mode : SegmentMode) (bit : Option Variable) (inclusion : Inclusion) (s : CodeState) (st : State) → Ended g s (meant g fields source st) → Ended g s (meant g fields (T.Scan' ty p source axis combiner direction mode bit inclusion) st)
  unfolding evaluated
  scan_ended ty p source axis combiner direction mode bit inclusion s st early = ended_on g s (meant g fields source st) (λ v after. Source.Gives (scan_of fields.scope fields.active ty axis combiner direction mode bit inclusion v after) after) early
