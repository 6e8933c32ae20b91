-- What is done in each block, one instruction after another, is done.
use Rattle.std.proofs.Common.{◌≡◌, ◌≢◌, ℕ, zero, suc, ◌+◌, ◌-◌, ◌*◌, ◌/◌, ◌%◌, ◌^◌, ◌<◌, ◌≤◌, ◌⊎◌, Bool, true, false, ◌&&◌, cond, eqb, leb, ltb, Option, Some, None, List, [], ◌∷◌, ◌++◌, All, get_or, length, refl, sym, ◌∙◌, ap, subst, inl, inr, arith}
use Rattle.std.specs.Prelude.{◌||◌}
use Rattle.std.specs.Int.{bit_at}
use Rattle.std.proofs.lemmas.Bool.{cases_eq, ne_eqb, lt-leb, le-ltb, leb-true, and_parts, or_cases}
use Rattle.std.proofs.lemmas.List.Elements.{All-head, All-tail}
use Rattle.vp_sets.specs.Positions.{shifted}
use Rattle.cstar_base.specs.Numbers.{number_of}
use Rattle.bit_planes.specs.declared.plane.Plane.{Plane}
use Rattle.bit_planes.specs.Bits.{bit}
use Rattle.bit_planes.specs.Planes.{plane_at}
use Rattle.paris_code.specs.declared.operands.Field.{Field}
use Rattle.paris_code.specs.declared.instr.Instr.{Instr}
use Rattle.paris_code.specs.Elementwise.{destination, writes_always}
use Rattle.paris_code.specs.Fetching.{of_neighbour}
use Rattle.paris_code.specs.Meaning.{after}
use Rattle.paris_code.specs.Memory.{BitMemory, field_number, run_number, processors}
use Rattle.paris_code.specs.Shapes.{SetShape, bits_at, extents_at}
use Rattle.paris_code.specs.Writes.{Write, covers, written}
use Rattle.phase_meaning.specs.Apply.{CanApply, LiesIn, active_set}
use Rattle.phase_meaning.proofs.FieldLemmas.{destination_runs}
use Rattle.phase_meaning.proofs.Locality.{AgreeAt, element_same, active_same, field_same}
use Rattle.phase_meaning.proofs.Replies.{plain}
use Rattle.block_store.specs.Phases.{WrittenInBlock}
use Rattle.elementwise.specs.Blocks.{block_memory}
use Rattle.instruction_runs.specs.declared.deferring.Deferred.{Deferred}
use Rattle.instruction_runs.specs.declared.deferring.Work.{Work}
use Rattle.instruction_runs.specs.declared.deferring.Work.TheVariants as W
use Rattle.instruction_runs.specs.Passes.{write_of_work, write_from, done_from, AllDoneInBlock}
use Rattle.instruction_runs.specs.Waiting.{done_all, field_written, leaves, lets, set_of, shares, set_of_work, source_of, source_of_work, AreReady, IsReady, IsWorkOf}
use Rattle.instruction_runs.proofs.Deferrals.{field_is, Where}

-- the numbers that a memory has
abbrev pub numbers_in : BitMemory → Field → ℕ → ℕ
numbers_in m f p = field_number m f p

-- ready instructions, the first and those behind it
abbrev pub IsOf : List SetShape → ℕ → Deferred → Type 0
IsOf shapes set d = IsReady shapes d × (set_of d ≡ set)

pub first_ready : (shapes : List SetShape) (set : ℕ) (d : Deferred) (rest : List Deferred) → AreReady shapes set (d ∷ rest) → IsOf shapes set d
first_ready shapes set d rest all = All-head (IsOf shapes set) d rest all.each

pub rest_ready : (shapes : List SetShape) (set : ℕ) (d : Deferred) (rest : List Deferred) → AreReady shapes set (d ∷ rest) → AreReady shapes set rest
rest_ready shapes set d rest all = record { each = All-tail (IsOf shapes set) d rest all.each; turns = all.turns.1 }

-- the set that an instruction writes
work_destined : (shapes : List SetShape) (set : ℕ) (held : Field → ℕ → ℕ) (instr : Instr) (m : BitMemory) (work : Work) → IsWorkOf shapes instr work → set_of_work work ≡ set → (write_of_work shapes held instr m work).run.set ≡ set
work_destined shapes set held instr m (W.Elementwise prepared) is e = sym (ap (λ (r : Field). r.set) is.run) ∙ e
work_destined shapes set held instr m (W.Shift news step) is e = e

pub destined : (shapes : List SetShape) (set : ℕ) (held : Field → ℕ → ℕ) (d : Deferred) (m : BitMemory) → IsOf shapes set d → (write_from shapes held d m).run.set ≡ set
destined shapes set held d m is = work_destined shapes set held d.instr m d.work is.0.work is.1

-- the memory behind an instruction, as a write
work_written : (shapes : List SetShape) (instr : Instr) (m : BitMemory) (work : Work) → IsWorkOf shapes instr work → after shapes instr [] m ≡ written (write_of_work shapes (numbers_in m) instr m work) m
unfolding of_neighbour
work_written shapes instr m (W.Elementwise prepared) is = (plain shapes instr [] m is.elementwise).3
work_written shapes instr m (W.Shift news step) is = is.means m

pub as_written : (shapes : List SetShape) (d : Deferred) (m : BitMemory) → IsReady shapes d → after shapes d.instr [] m ≡ written (write_from shapes (numbers_in m) d m) m
as_written shapes d m ready = work_written shapes d.instr m d.work ready.work

-- writes that are the same at a position, to memories that agree there
record SameAt (w v : Write) (p : ℕ) : Type 0 where
  run : w.run ≡ v.run
  writes : w.writes p ≡ v.writes p
  value : w.value p ≡ v.value p

written_agree : (shapes : List SetShape) (set p : ℕ) (w v : Write) (m n : BitMemory) → SameAt w v p → AgreeAt shapes set p m n → AgreeAt shapes set p (written w m) (written v n)
unfolding written
written_agree shapes set p w v m n same agree = λ i b.
    ap (λ (r : Field). cond (covers r set i && w.writes p) (bit_at (w.value p) (i - r.offset)) (m.bit set p i)) same.run
    ∙ ap (λ t. cond (covers v.run set i && t) (bit_at (w.value p) (i - v.run.offset)) (m.bit set p i)) same.writes
    ∙ ap (λ x. cond (covers v.run set i && v.writes p) (bit_at x (i - v.run.offset)) (m.bit set p i)) same.value
    ∙ ap (λ x. cond (covers v.run set i && v.writes p) (bit_at (v.value p) (i - v.run.offset)) x) (agree i b)

-- where two memories agree at a position, an instruction writes the same there
work_local : (shapes : List SetShape) (set p : ℕ) (held : Field → ℕ → ℕ) (instr : Instr) (m n : BitMemory) (work : Work) → CanApply shapes instr [] → IsWorkOf shapes instr work → set_of_work work ≡ set → AgreeAt shapes set p m n
    → SameAt (write_of_work shapes held instr m work) (write_of_work shapes held instr n work) p
work_local shapes set p held instr m n (W.Elementwise prepared) can is e agree =
    let run : Field = destination shapes instr in
    let own : AgreeAt shapes run.set p m n = subst (λ s. AgreeAt shapes s p m n) (sym (work_destined shapes set held instr m (W.Elementwise prepared) is e)) agree in
    let active : AgreeAt shapes (active_set instr) p m n = subst (λ s. AgreeAt shapes s p m n) (destination_runs shapes instr [] can is.elementwise).1 own in
    record { run = refl; writes = ap (λ t. writes_always instr || t) (active_same shapes m n run.set p own); value = element_same shapes instr [] m n p can active }
work_local shapes set p held instr m n (W.Shift news step) can is e agree =
    let own : AgreeAt shapes news.dest.set p m n = subst (λ s. AgreeAt shapes s p m n) (sym e) agree in
    record { run = refl; writes = ap (λ t. news.always || t) (active_same shapes m n news.dest.set p own); value = refl }

from_agree : (shapes : List SetShape) (set p : ℕ) (held : Field → ℕ → ℕ) (d : Deferred) (m n : BitMemory) → IsOf shapes set d → AgreeAt shapes set p m n
    → AgreeAt shapes set p (written (write_from shapes held d m) m) (written (write_from shapes held d n) n)
from_agree shapes set p held d m n is agree =
    written_agree shapes set p (write_from shapes held d m) (write_from shapes held d n) m n (work_local shapes set p held d.instr m n d.work is.0.can is.0.work is.1 agree) agree

pub run_agrees : (shapes : List SetShape) (set p : ℕ) (held : Field → ℕ → ℕ) (ds : List Deferred) (m n : BitMemory) → AreReady shapes set ds → AgreeAt shapes set p m n
    → AgreeAt shapes set p (done_from shapes held ds m) (done_from shapes held ds n)
run_agrees shapes set p held [] m n all agree = agree
run_agrees shapes set p held (d ∷ rest) m n all agree =
    run_agrees shapes set p held rest (written (write_from shapes held d m) m) (written (write_from shapes held d n) n) (rest_ready shapes set d rest all)
    (from_agree shapes set p held d m n (first_ready shapes set d rest all) agree)

-- what is held of the source of a shift is what the memory has
abbrev pub IsSourced : List SetShape → ℕ → (Field → ℕ → ℕ) → BitMemory → Option Field → Type 0
IsSourced shapes set held m None = Unit {0}
IsSourced shapes set held m (Some f) = (q : ℕ) → q < processors shapes set → held f q ≡ field_number m f q

-- then it writes what it means
work_means : (shapes : List SetShape) (set p : ℕ) (held : Field → ℕ → ℕ) (instr : Instr) (m : BitMemory) (work : Work) → IsWorkOf shapes instr work → set_of_work work ≡ set → p < processors shapes set
    → IsSourced shapes set held m (source_of_work work) → SameAt (write_of_work shapes held instr m work) (write_of_work shapes (numbers_in m) instr m work) p
work_means shapes set p held instr m (W.Elementwise prepared) is e within sourced = record { run = refl; writes = refl; value = refl }
work_means shapes set p held instr m (W.Shift news step) is e within sourced =
    let q : ℕ = shifted (extents_at shapes news.source.set) p news.axis (number_of 32 true news.by) in
    let inside : q < processors shapes set =
    subst (λ s. q < processors shapes s) e (subst (λ s. shifted (extents_at shapes s) p news.axis (number_of 32 true news.by) < processors shapes news.dest.set) is.together
    (is.leads.inside p (subst (λ s. p < processors shapes s) (sym e) within))) in
    record { run = refl; writes = refl; value = sourced q inside }

means_at : (shapes : List SetShape) (set p : ℕ) (held : Field → ℕ → ℕ) (d : Deferred) (m : BitMemory) → IsOf shapes set d → p < processors shapes set → IsSourced shapes set held m (source_of d)
    → AgreeAt shapes set p (written (write_from shapes held d m) m) (after shapes d.instr [] m)
means_at shapes set p held d m is within sourced =
    subst (λ (x : BitMemory). AgreeAt shapes set p (written (write_from shapes held d m) m) x) (sym (as_written shapes d m is.0))
    (written_agree shapes set p (write_from shapes held d m) (write_from shapes (numbers_in m) d m) m m (work_means shapes set p held d.instr m d.work is.0.work is.1 within sourced) (λ i b. refl))

-- memories that agree at each position of a set
abbrev pub AgreeIn : List SetShape → ℕ → BitMemory → BitMemory → Type 0
AgreeIn shapes set m n = (p : ℕ) → p < processors shapes set → AgreeAt shapes set p m n

off_first : (a t : Bool) (x y : ℕ) → cond ((a && false) && t) x y ≡ y
off_first true t x y = refl
off_first false t x y = refl

off_second : (a b t : Bool) (x y : ℕ) → cond ((a && (b && false)) && t) x y ≡ y
off_second true true t x y = refl
off_second true false t x y = refl
off_second false b t x y = refl

-- a field that is not written stays
off_bit : (run : Field) (set i : ℕ) (t : Bool) (x y : ℕ) → (i < run.offset) ⊎ (run.offset + run.len ≤ i) → cond (covers run set i && t) x y ≡ y
unfolding covers
off_bit run set i t x y (inl l) = ap (λ s. cond ((eqb set run.set && (s && ltb i (run.offset + run.len))) && t) x y) (lt-leb run.offset i l) ∙ off_first (eqb set run.set) t x y
off_bit run set i t x y (inr g) = ap (λ s. cond ((eqb set run.set && (leb run.offset i && s)) && t) x y) (le-ltb i (run.offset + run.len) g) ∙ off_second (eqb set run.set) (leb run.offset i) t x y

same_run : (f g : ℕ → ℕ) (offset n : ℕ) → ((j : ℕ) → j < n → f (offset + j) ≡ g (offset + j)) → run_number f offset n ≡ run_number g offset n
unfolding run_number
same_run f g offset zero same = refl
same_run f g offset (suc n) same =
    ap (λ x. x + 2 ^ n * f (offset + n)) (same_run f g offset n (λ j b. same j (omega arith))) ∙ ap (λ b. run_number g offset n + 2 ^ n * b) (same n (omega arith))

-- a bit stays that is of another set, or outside what is written
pub bit_stays : (w : Write) (m : BitMemory) (s p i : ℕ) → (s ≡ w.run.set → (i < w.run.offset) ⊎ (w.run.offset + w.run.len ≤ i)) → (written w m).bit s p i ≡ m.bit s p i
unfolding written covers
bit_stays w m s p i apart = elim (cases_eq s w.run.set) [
  | inl own ↦ off_bit w.run s i (w.writes p) (bit_at (w.value p) (i - w.run.offset)) (m.bit s p i) (apart own)
  | inr other ↦ ap (λ t. cond ((t && (leb w.run.offset i && ltb i (w.run.offset + w.run.len))) && w.writes p) (bit_at (w.value p) (i - w.run.offset)) (m.bit s p i)) (ne_eqb s w.run.set other)
]

field_stays : (w : Write) (m : BitMemory) (f : Field) (q : ℕ) → (f.set ≡ w.run.set → (i : ℕ) → f.offset ≤ i → i < f.offset + f.len → (i < w.run.offset) ⊎ (w.run.offset + w.run.len ≤ i)) → field_number (written w m) f q ≡ field_number m f q
unfolding field_number
field_stays w m f q apart = same_run ((written w m).bit f.set q) (m.bit f.set q) f.offset f.len
    (λ j b. bit_stays w m f.set q (f.offset + j) (λ e. apart e (f.offset + j) (omega arith) (omega (arith, b))))

-- the source of a shift lies in the fields of the set
abbrev pub SourceLies : List SetShape → ℕ → Option Field → Type 0
SourceLies shapes set None = Unit {0}
SourceLies shapes set (Some f) = (f.set ≡ set) × LiesIn shapes f

source_lies : (shapes : List SetShape) (set : ℕ) (instr : Instr) (work : Work) → IsWorkOf shapes instr work → set_of_work work ≡ set → SourceLies shapes set (source_of_work work)
source_lies shapes set instr (W.Elementwise prepared) is e = tt
source_lies shapes set instr (W.Shift news step) is e = (sym is.together ∙ e, is.source)

-- what leaves a field as it is writes none of its bits
apart_by : (shapes : List SetShape) (writes : Option Field) (run source : Field) → Where shapes writes run → leaves writes source ≡ true → source.offset + source.len ≤ bits_at shapes run.set
    → (i : ℕ) → source.offset ≤ i → i < source.offset + source.len → (i < run.offset) ⊎ (run.offset + run.len ≤ i)
apart_by shapes None run source there free within = λ i l h. inl (omega (arith, there, within, h))
apart_by shapes (Some f) run source there free within = λ i l h.
    elim (or_cases (leb (f.offset + f.len) source.offset) (leb (source.offset + source.len) f.offset) free) [
      | inl before ↦ inr (omega (arith, leb-true (f.offset + f.len) source.offset before, ap (λ (r : Field). r.offset) there, ap (λ (r : Field). r.len) there, l))
      | inr behind ↦ inl (omega (arith, leb-true (source.offset + source.len) f.offset behind, ap (λ (r : Field). r.offset) there, h))
    ]

work_where : (shapes : List SetShape) (held : Field → ℕ → ℕ) (instr : Instr) (m : BitMemory) (work : Work) → IsWorkOf shapes instr work → Where shapes (field_written instr) (write_of_work shapes held instr m work).run
work_where shapes held instr m (W.Elementwise prepared) is = field_is shapes instr is.elementwise
work_where shapes held instr m (W.Shift news step) is = subst (λ o. Where shapes o news.dest) (sym is.writes) refl

pub left_field : (shapes : List SetShape) (d : Deferred) (m : BitMemory) (f : Field) → IsReady shapes d → LiesIn shapes f → leaves d.writes f ≡ true → (q : ℕ) → field_number (after shapes d.instr [] m) f q ≡ field_number m f q
left_field shapes d m f ready within free q =
    let w : Write = write_from shapes (numbers_in m) d m in
    let there : Where shapes d.writes w.run = subst (λ o. Where shapes o w.run) (sym ready.writes) (work_where shapes (numbers_in m) d.instr m d.work ready.work) in
    ap (λ (x : BitMemory). field_number x f q) (as_written shapes d m ready)
    ∙ field_stays w m f q (λ e. apart_by shapes d.writes w.run f there free (subst (λ s. f.offset + f.len ≤ bits_at shapes s) e within.3))

-- so what is held of the source of a shift is what the memory has behind each instruction that lets it wait
still_sourced : (shapes : List SetShape) (set : ℕ) (held : Field → ℕ → ℕ) (d : Deferred) (m : BitMemory) (source : Option Field) → IsOf shapes set d → SourceLies shapes set source → lets d source ≡ true
    → IsSourced shapes set held m source → IsSourced shapes set held (after shapes d.instr [] m) source
still_sourced shapes set held d m None is lies free sourced = tt
still_sourced shapes set held d m (Some f) is lies free sourced = λ q b.
    sourced q b ∙ sym (left_field shapes d m f is.0 lies.1 (and_parts (leaves d.writes f) (shares (source_of d) f) free).0 q)

pub lies_of : (shapes : List SetShape) (set : ℕ) (d : Deferred) → IsOf shapes set d → SourceLies shapes set (source_of d)
lies_of shapes set d is = source_lies shapes set d.instr d.work is.0.work is.1

-- instructions that take what is held do what they mean, where that is what the memory has when the first one begins
pub all_means : (shapes : List SetShape) (set : ℕ) (held : Field → ℕ → ℕ) (ds : List Deferred) (m n : BitMemory) → AreReady shapes set ds → AgreeIn shapes set m n
    → All (λ d. IsSourced shapes set held n (source_of d)) ds → AgreeIn shapes set (done_from shapes held ds m) (done_all shapes ds n)
all_means shapes set held [] m n all agree sourced = agree
all_means shapes set held (d ∷ rest) m n all agree sourced =
    let Sourced : Deferred → Type 0 = λ e. IsSourced shapes set held n (source_of e) in
    let is : IsOf shapes set d = first_ready shapes set d rest all in
    let later : AreReady shapes set rest = rest_ready shapes set d rest all in
    all_means shapes set held rest (written (write_from shapes held d m) m) (after shapes d.instr [] n) later
    (λ p b i c. from_agree shapes set p held d m n is (agree p b) i c ∙ means_at shapes set p held d n is b (All-head Sourced d rest sourced) i c)
    (λ k none b. still_sourced shapes set held d n (source_of (get_or rest k none)) is (lies_of shapes set (get_or rest k none) (later.each k none b)) (all.turns.0 k none b) (All-tail Sourced d rest sourced k none b))

-- where two memories agree in the set, so do those behind the instructions
sourced_self : (shapes : List SetShape) (set : ℕ) (m : BitMemory) (source : Option Field) → IsSourced shapes set (numbers_in m) m source
sourced_self shapes set m None = tt
sourced_self shapes set m (Some f) = λ q b. refl

sourced_alike : (shapes : List SetShape) (set : ℕ) (m n : BitMemory) (source : Option Field) → SourceLies shapes set source → AgreeIn shapes set m n → IsSourced shapes set (numbers_in m) n source
sourced_alike shapes set m n None lies agree = tt
sourced_alike shapes set m n (Some f) lies agree = λ q b. field_same shapes m n f q lies.1 (subst (λ s. AgreeAt shapes s q m n) (sym lies.0) (agree q b))

after_agree : (shapes : List SetShape) (set : ℕ) (d : Deferred) (m n : BitMemory) → IsOf shapes set d → AgreeIn shapes set m n → AgreeIn shapes set (after shapes d.instr [] m) (after shapes d.instr [] n)
after_agree shapes set d m n is agree = λ p b i c.
    sym (means_at shapes set p (numbers_in m) d m is b (sourced_self shapes set m (source_of d)) i c)
    ∙ from_agree shapes set p (numbers_in m) d m n is (agree p b) i c
    ∙ means_at shapes set p (numbers_in m) d n is b (sourced_alike shapes set m n (source_of d) (lies_of shapes set d is) agree) i c

pub all_agree : (shapes : List SetShape) (set : ℕ) (ds : List Deferred) (m n : BitMemory) → AreReady shapes set ds → AgreeIn shapes set m n → AgreeIn shapes set (done_all shapes ds m) (done_all shapes ds n)
all_agree shapes set [] m n all agree = agree
all_agree shapes set (d ∷ rest) m n all agree =
    all_agree shapes set rest (after shapes d.instr [] m) (after shapes d.instr [] n) (rest_ready shapes set d rest all) (after_agree shapes set d m n (first_ready shapes set d rest all) agree)

-- another set stays as it is
pub others_stay : (shapes : List SetShape) (set : ℕ) (ds : List Deferred) (m : BitMemory) → AreReady shapes set ds → (s p i : ℕ) → s ≢ set → (done_all shapes ds m).bit s p i ≡ m.bit s p i
others_stay shapes set [] m all s p i n = refl
others_stay shapes set (d ∷ rest) m all s p i n =
    let is : IsOf shapes set d = first_ready shapes set d rest all in
    others_stay shapes set rest (after shapes d.instr [] m) (rest_ready shapes set d rest all) s p i n
    ∙ ap (λ (x : BitMemory). x.bit s p i) (as_written shapes d m is.0)
    ∙ bit_stays (write_from shapes (numbers_in m) d m) m s p i (λ e. absurd (n (e ∙ destined shapes set (numbers_in m) d m is)))

pub winner_stays : (shapes : List SetShape) (set : ℕ) (ds : List Deferred) (m : BitMemory) → AreReady shapes set ds → (done_all shapes ds m).winner ≡ m.winner
unfolding written
winner_stays shapes set [] m all = refl
winner_stays shapes set (d ∷ rest) m all =
    winner_stays shapes set rest (after shapes d.instr [] m) (rest_ready shapes set d rest all) ∙ ap (λ (x : BitMemory). x.winner) (as_written shapes d m (first_ready shapes set d rest all).0)

-- so where two memories agree at each bit, those behind the instructions do
abbrev pub BitsAgree : List SetShape → BitMemory → BitMemory → Type 0
BitsAgree shapes m n = (s p i : ℕ) → s < length shapes → p < processors shapes s → i < bits_at shapes s + 2 → m.bit s p i ≡ n.bit s p i

pub bits_alike : (shapes : List SetShape) (set : ℕ) (ds : List Deferred) (m n : BitMemory) → AreReady shapes set ds → BitsAgree shapes m n → BitsAgree shapes (done_all shapes ds m) (done_all shapes ds n)
bits_alike shapes set ds m n ready agree = λ s p i a b c. elim (cases_eq s set) [
  | inr apart ↦ others_stay shapes set ds m ready s p i apart ∙ agree s p i a b c ∙ sym (others_stay shapes set ds n ready s p i apart)
  | inl e ↦
      ap (λ j. (done_all shapes ds m).bit j p i) e
      ∙ all_agree shapes set ds m n ready (λ q d k h. agree set q k (subst (λ j. j < length shapes) e a) d h) p (subst (λ j. p < processors shapes j) e b) i (subst (λ j. i < bits_at shapes j + 2) e c)
      ∙ ap (λ j. (done_all shapes ds n).bit j p i) (sym e)
]

-- one more is done behind the others
from_more : (shapes : List SetShape) (held : Field → ℕ → ℕ) (ds : List Deferred) (d : Deferred) (m : BitMemory)
    → done_from shapes held (ds ++ d ∷ []) m ≡ written (write_from shapes held d (done_from shapes held ds m)) (done_from shapes held ds m)
from_more shapes held [] d m = refl
from_more shapes held (e ∷ rest) d m = from_more shapes held rest d (written (write_from shapes held e m) m)

-- a block before the first instruction
pub none_done : (shapes : List SetShape) (held : Field → ℕ → ℕ) (set k : ℕ) (planes : List Plane) → AllDoneInBlock shapes held set [] k planes planes
unfolding block_memory
none_done shapes held set k planes = record { long = refl; done = λ p i _ _ _. refl; padding = λ p i _ _ _. refl }

-- what one instruction makes of a block, at the positions of its set
block_agrees : (shapes : List SetShape) (held : Field → ℕ → ℕ) (set : ℕ) (d : Deferred) (k : ℕ) (old new : List Plane) → IsOf shapes set d → WrittenInBlock shapes (write_from shapes held d (block_memory old)) k old new
    → (p : ℕ) → p / 512 ≡ k → p < processors shapes set → AgreeAt shapes set p (block_memory new) (written (write_from shapes held d (block_memory old)) (block_memory old))
unfolding block_memory written
block_agrees shapes held set d k old new is done = λ p here within.
    let w : Write = write_from shapes held d (block_memory old) in
    let e : w.run.set ≡ set = destined shapes set held d (block_memory old) is in
    subst (λ s. AgreeAt shapes s p (block_memory new) (written w (block_memory old))) e
    (λ i b. done.done p i here (subst (λ s. p < processors shapes s) (sym e) within) b)

-- one more instruction in a block
pub one_more : (shapes : List SetShape) (held : Field → ℕ → ℕ) (set : ℕ) (ds : List Deferred) (d : Deferred) (k : ℕ) (first old new : List Plane) → IsOf shapes set d
    → AllDoneInBlock shapes held set ds k first old → WrittenInBlock shapes (write_from shapes held d (block_memory old)) k old new → AllDoneInBlock shapes held set (ds ++ d ∷ []) k first new
unfolding block_memory
one_more shapes held set ds d k first old new is before done =
    let e : (write_from shapes held d (block_memory old)).run.set ≡ set = destined shapes set held d (block_memory old) is in
    record {
      long = done.long ∙ before.long;
      done = λ p i here within b.
          block_agrees shapes held set d k old new is done p here within i b
          ∙ from_agree shapes set p held d (block_memory old) (done_from shapes held ds (block_memory first)) is (λ j c. before.done p j here within c) i b
          ∙ ap (λ (x : BitMemory). x.bit set p i) (sym (from_more shapes held ds d (block_memory first)));
      padding = λ p i here past none.
          done.padding p i here (subst (λ s. processors shapes s ≤ p) (sym e) past)
          (ap (λ s. bit (plane_at old (bits_at shapes s)) (p % 512)) e ∙ before.padding p (bits_at shapes set) here past none ∙ none)
          ∙ before.padding p i here past none;
    }
