-- A check that passes instructions that wait answers what it answers behind them.
use Rattle.std.proofs.Common.{◌≡◌, ℕ, ◌+◌, ◌<◌, ◌≤◌, ◌⊎◌, true, false, not, ◌&&◌, eqb, Option, List, [], ◌∷◌, refl, sym, ◌∙◌, ap, subst, inl, inr, arith}
use Rattle.std.proofs.lemmas.Bool.{and_parts, not-true}
use Rattle.cstar_base.specs.Orders.{least_below}
use Rattle.paris_code.specs.declared.operands.Field.{Field}
use Rattle.paris_code.specs.declared.instr.Instr.{Instr}
use Rattle.paris_code.specs.declared.instr.Instr.TheVariants as I
use Rattle.paris_code.specs.declared.program.Reply.{Reply}
use Rattle.paris_code.specs.declared.program.Reply.TheVariants as R
use Rattle.paris_code.specs.Checking.{any_leaves}
use Rattle.paris_code.specs.Elementwise.{destination, is_elementwise}
use Rattle.paris_code.specs.Meaning.{after, bad_or_nothing, reply_of, Means}
use Rattle.paris_code.specs.Memory.{BitMemory, SameBits, field_number, is_active, processors}
use Rattle.paris_code.specs.Shapes.{SetShape, bits_at, extents_at}
use Rattle.paris_code.specs.Writes.{Write}
use Rattle.phase_meaning.specs.Apply.{CanApply, LiesIn, is_check}
use Rattle.phase_meaning.proofs.FieldLemmas.{lies}
use Rattle.phase_meaning.proofs.Replies.{checked}
use Rattle.instruction_runs.specs.declared.deferring.Deferred.{Deferred}
use Rattle.instruction_runs.specs.declared.deferring.Work.{Work}
use Rattle.instruction_runs.specs.declared.deferring.Work.TheVariants as W
use Rattle.instruction_runs.specs.Passes.{write_from, write_of_work}
use Rattle.instruction_runs.specs.Passing.{can_pass, leaves_read, lets_pass, writes_context}
use Rattle.instruction_runs.specs.Waiting.{done_all, leaves, AreReady, IsReady, IsWorkOf}
use Rattle.instruction_runs.proofs.Composed.{as_written, bit_stays, bits_alike, first_ready, left_field, numbers_in, rest_ready, winner_stays}

-- what is written lies before the context flag of its set, or behind it
abbrev OffContext : List SetShape → Field → Type 0
OffContext shapes run = (bits_at shapes run.set < run.offset) ⊎ (run.offset + run.len ≤ bits_at shapes run.set)

field_off : (shapes : List SetShape) (f : Field) → LiesIn shapes f → OffContext shapes f
field_off shapes f within = inr within.3

-- so it is where an instruction writes a field or the test flag
element_off : (shapes : List SetShape) (instr : Instr) → CanApply shapes instr [] → is_elementwise instr ≡ true → writes_context instr ≡ false → OffContext shapes (destination shapes instr)
element_off shapes (I.Move signed d a) can is none = field_off shapes d (lies shapes d can.field.0 can.set.0)
element_off shapes (I.MoveConstant d k) can is none = field_off shapes d (lies shapes d can.field.0 can.set)
element_off shapes (I.MoveZeroAlways d) can is none = field_off shapes d (lies shapes d can.field can.set)
element_off shapes (I.MoveAlways d a) can is none = field_off shapes d (lies shapes d can.field.0 can.set.0)
element_off shapes (I.MyNewsCoordinate d axis) can is none = field_off shapes d (lies shapes d can.field can.set.0)
element_off shapes (I.MakeAddress d set coordinates) can is none = field_off shapes d (lies shapes d can.field.0 can.set.0)
element_off shapes (I.Operate op d a b) can is none = field_off shapes d (lies shapes d can.field.0 can.set.0)
element_off shapes (I.OperateConstant op d a k) can is none = field_off shapes d (lies shapes d can.field.0 can.set.0)
element_off shapes (I.Negate d a) can is none = field_off shapes d (lies shapes d can.field.0 can.set.0)
element_off shapes (I.Lognot d a) can is none = field_off shapes d (lies shapes d can.field.0 can.set.0)
element_off shapes (I.StoreTest d) can is none = field_off shapes d (lies shapes d can.field.0 can.set)
element_off shapes (I.StoreContext d) can is none = field_off shapes d (lies shapes d can.field.0 can.set)
element_off shapes (I.Compare relation a b) can is none = inl (omega arith)
element_off shapes (I.EqZero a) can is none = inl (omega arith)
element_off shapes (I.NeZero a) can is none = inl (omega arith)
element_off shapes (I.LoadTest a) can is none = inl (omega arith)
element_off shapes (I.LoadContext a) can is none = cc
element_off shapes (I.SetContext set) can is none = cc
element_off shapes (I.LogandContextWithTest set) can is none = cc
element_off shapes (I.LogandcContextWithTest set) can is none = cc
element_off shapes _ can is none = cc

work_off : (shapes : List SetShape) (held : Field → ℕ → ℕ) (instr : Instr) (m : BitMemory) (work : Work) → CanApply shapes instr [] → IsWorkOf shapes instr work → writes_context instr ≡ false → OffContext shapes (write_of_work shapes held instr m work).run
work_off shapes held instr m (W.Elementwise prepared) can is none = element_off shapes instr can is.elementwise none
work_off shapes held instr m (W.Shift news step) can is none = field_off shapes news.dest is.dest

-- then the same processors are active
active_left : (shapes : List SetShape) (d : Deferred) (m : BitMemory) → IsReady shapes d → writes_context d.instr ≡ false → (set p : ℕ) → is_active shapes (after shapes d.instr [] m) set p ≡ is_active shapes m set p
unfolding is_active
active_left shapes d m ready none set p =
    let w : Write = write_from shapes (numbers_in m) d m in
    let off : OffContext shapes w.run = work_off shapes (numbers_in m) d.instr m d.work ready.can ready.work none in
    ap (λ (x : BitMemory). eqb (x.bit set p (bits_at shapes set)) 1) (as_written shapes d m ready)
    ∙ ap (λ b. eqb b 1) (bit_stays w m set p (bits_at shapes set) (λ e. subst (λ s. (bits_at shapes s < w.run.offset) ⊎ (w.run.offset + w.run.len ≤ bits_at shapes s)) (sym e) off))

-- a check answers the same where the same processors are active, and the fields that it reads are the same
reply_rests : (shapes : List SetShape) (writes : Option Field) (m n : BitMemory) (instr : Instr) (args : List ℕ) → CanApply shapes instr args → leaves_read writes instr ≡ true
    → ((set p : ℕ) → is_active shapes m set p ≡ is_active shapes n set p) → ((f : Field) → LiesIn shapes f → leaves writes f ≡ true → (p : ℕ) → field_number m f p ≡ field_number n f p)
    → reply_of shapes instr args m ≡ reply_of shapes instr args n
reply_rests shapes writes m n (I.CheckGrid set place steps) args can free active fields =
    λ i. bad_or_nothing (least_below (λ p. active set p i && any_leaves (extents_at shapes set) steps.items args p) (processors shapes set))
reply_rests shapes writes m n (I.CheckDivisor place a) args can free active fields =
    λ i. bad_or_nothing (least_below (λ p. active a.set p i && eqb (fields a (lies shapes a can.field can.set) free p i) 0) (processors shapes a.set))
reply_rests shapes writes m n _ args can free active fields = cc

reply_left : (shapes : List SetShape) (d : Deferred) (m : BitMemory) (instr : Instr) (args : List ℕ) → IsReady shapes d → CanApply shapes instr args → lets_pass d instr ≡ true
    → reply_of shapes instr args (after shapes d.instr [] m) ≡ reply_of shapes instr args m
reply_left shapes d m instr args ready can passes =
    let parts = and_parts (not (writes_context d.instr)) (leaves_read d.writes instr) passes in
    reply_rests shapes d.writes (after shapes d.instr [] m) m instr args can parts.1 (active_left shapes d m ready (not-true (writes_context d.instr) parts.0)) (λ f within free p. left_field shapes d m f ready within free p)

reply_behind : (shapes : List SetShape) (set : ℕ) (ds : List Deferred) (m : BitMemory) (instr : Instr) (args : List ℕ) → AreReady shapes set ds → CanApply shapes instr args → can_pass ds instr ≡ true
    → reply_of shapes instr args (done_all shapes ds m) ≡ reply_of shapes instr args m
reply_behind shapes set [] m instr args ready can passes = refl
reply_behind shapes set (d ∷ rest) m instr args ready can passes =
    let parts = and_parts (lets_pass d instr) (can_pass rest instr) passes in
    reply_behind shapes set rest (after shapes d.instr [] m) instr args (rest_ready shapes set d rest ready) can parts.1
    ∙ reply_left shapes d m instr args (first_ready shapes set d rest ready).0 can parts.0

-- what passes is a check
passing_checks : (writes : Option Field) (instr : Instr) → leaves_read writes instr ≡ true → is_check instr ≡ true
passing_checks writes (I.CheckGrid set place steps) free = refl
passing_checks writes (I.CheckDivisor place a) free = refl
passing_checks writes _ free = cc

-- a check that answers the same about two memories, and leaves both
check_means : (shapes : List SetShape) (instr : Instr) (args : List ℕ) (m n left kept : BitMemory) (reply : Reply) → is_check instr ≡ true → reply_of shapes instr args m ≡ reply_of shapes instr args n
    → (SameBits shapes left m → SameBits shapes kept n) → Means shapes instr args m left reply → Means shapes instr args n kept reply
check_means shapes instr args m n left kept R.Memory check e stays means = stays means
check_means shapes instr args m n left kept R.Nothing check e stays means =
    (means.0 ∙ e, subst (λ (x : BitMemory). SameBits shapes kept x) (sym (checked shapes instr args n check)) (stays (subst (λ (x : BitMemory). SameBits shapes left x) (checked shapes instr args m check) means.1)))
check_means shapes instr args m n left kept (R.Value v) check e stays means =
    (means.0 ∙ e, subst (λ (x : BitMemory). SameBits shapes kept x) (sym (checked shapes instr args n check)) (stays (subst (λ (x : BitMemory). SameBits shapes left x) (checked shapes instr args m check) means.1)))
check_means shapes instr args m n left kept (R.Bad position) check e stays means =
    (means.0 ∙ e, subst (λ (x : BitMemory). SameBits shapes kept x) (sym (checked shapes instr args n check)) (stays (subst (λ (x : BitMemory). SameBits shapes left x) (checked shapes instr args m check) means.1)))

-- so an instruction that passes those that wait means before them what it means behind them
pub means_behind : (shapes : List SetShape) (set : ℕ) (ds : List Deferred) (instr : Instr) (args : List ℕ) (m left : BitMemory) (reply : Reply) → AreReady shapes set ds → CanApply shapes instr args → can_pass ds instr ≡ true
    → Means shapes instr args m left reply → Means shapes instr args (done_all shapes ds m) (done_all shapes ds left) reply
means_behind shapes set [] instr args m left reply ready can passes means = means
means_behind shapes set (d ∷ rest) instr args m left reply ready can passes means =
    let ds = d ∷ rest in
    let first = and_parts (lets_pass d instr) (can_pass rest instr) passes in
    let check : is_check instr ≡ true = passing_checks d.writes instr (and_parts (not (writes_context d.instr)) (leaves_read d.writes instr) first.0).1 in
    check_means shapes instr args m (done_all shapes ds m) left (done_all shapes ds left) reply check (sym (reply_behind shapes set ds m instr args ready can passes))
    (λ same. record {
      bits = bits_alike shapes set ds left m ready same.bits;
      winner = winner_stays shapes set ds left ready ∙ same.winner ∙ sym (winner_stays shapes set ds m ready);
    }) means
