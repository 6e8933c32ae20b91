-- What a sink took of a report, and what the end of a run says of its answer.
use Rattle.std.proofs.Common.{◌≡◌, ◌≢◌, ◌∙◌, ℕ, Bool, true, false, List, [], ◌++◌, Option, Some, None, Result, Ok, Err, IfOk, inl, inr, ap, sym, subst, refl, append-nil}
use Rattle.block_store.specs.declared.set.BlockSet.{BlockSet}
use Rattle.block_store.specs.Stored.{stored}
use Rattle.cstar_base.specs.declared.operators.Winner.{Winner}
use Rattle.cstar_io.specs.Output.{Takes, TakesPrefix}
use Rattle.cstar_words.specs.declared.options.Options.{Options}
use Rattle.cstar_io.proofs.Taking.{takes_then, prefix_then, prefix_of_first}
use Rattle.paris_code.specs.Listing.{listing}
use Rattle.paris_code.specs.Memory.{BitMemory, SameBits, fresh_memory}
use Rattle.paris_code.specs.Code.{CodeState, Rest}
use Rattle.paris_code.specs.Shapes.{SetShape, shapes_of}
use Rattle.paris_machine.specs.declared.outcome.End.{End}
use Rattle.paris_machine.specs.declared.outcome.End.TheVariants as E
use Rattle.paris_machine.specs.Ends.{output_broke}
use Rattle.paris_machine.specs.Runs.{Puts, Runs, StaysOver, kept_state}
use Rattle.paris_machine.proofs.Same.{bits_after, runs_to_same}
use Rattle.point_bits.specs.Strings.{restored}
use Rattle.point_runs.specs.Courses.{Course, Feeds, IsCourse}
use Rattle.point_runs.specs.Starts.{Origin, memory_from}
use Rattle.cstar_top.specs.declared.answer.Answer.{Answer}
use Rattle.cstar_top.specs.Courses.{Reports, ReportsPart, answer_to_end, closing, closing_text, where_asked}

-- the same bits, with a winner that was chosen
pub chosen : (shapes : List SetShape) (m n : BitMemory) (winner : Winner) (bits : Option (List ℕ)) → SameBits shapes m (record { bit = n.bit; winner = winner }) → ((w : Winner) → SameBits shapes (record { bit = n.bit; winner = w }) (memory_from shapes w bits)) → SameBits shapes m (memory_from shapes winner bits)
chosen shapes m n winner bits one two = bits_after shapes (memory_from shapes winner bits) (record { bit = n.bit; winner = winner }) m one (two winner)

-- bits that were put back are those that are given
pub put_back_are : (shapes : List SetShape) (m : BitMemory) (found : Option (List ℕ)) (bits bytes : List ℕ) (w winner : Winner) → found ≡ Some bits → bytes ≡ bits → SameBits shapes m (restored shapes bytes w) → SameBits shapes (record { bit = m.bit; winner = winner }) (memory_from shapes winner found)
unfolding restored
put_back_are shapes m found bits bytes w winner is same put =
    subst (λ (o : Option (List ℕ)). SameBits shapes (record { bit = m.bit; winner = winner }) (memory_from shapes winner o)) (sym is)
    (record { bits = λ s p i a b c. put.bits s p i a b c ∙ ap (λ (xs : List ℕ). (restored shapes xs winner).bit s p i) same; winner = refl })

-- and so are those of new phases, where none are given
pub fresh_are : (shapes : List SetShape) (m : BitMemory) (found : Option (List ℕ)) (winner : Winner) → found ≡ None → SameBits shapes m (fresh_memory shapes) → SameBits shapes (record { bit = m.bit; winner = winner }) (memory_from shapes winner found)
fresh_are shapes m found winner is fresh =
    subst (λ (o : Option (List ℕ)). SameBits shapes (record { bit = m.bit; winner = winner }) (memory_from shapes winner o)) (sym is)
    (record { bits = λ s p i a b c. fresh.bits s p i a b c; winner = refl })

-- phases that were made over sets with the bits that are given
pub over_sets : {P E : Type 0} (r : Result P E) (memory : P → Winner → BitMemory) (winner : P → Winner) (shapes : List SetShape) (sets : List BlockSet) (found : Option (List ℕ)) (bits bytes : List ℕ) → found ≡ Some bits → bytes ≡ bits
    → ((w : Winner) → SameBits shapes (stored sets w) (restored shapes bytes w)) → IfOk r (λ p. (w : Winner) → memory p w ≡ stored sets w)
    → IfOk r (λ p. (w : Winner) → SameBits shapes (record { bit = (memory p (winner p)).bit; winner = w }) (memory_from shapes w found))
over_sets (Ok p) memory winner shapes sets found bits bytes is same back made = λ w.
    put_back_are shapes (memory p (winner p)) found bits bytes (winner p) w is same
    (subst (λ (m : BitMemory). SameBits shapes m (restored shapes bytes (winner p))) (sym (made (winner p))) (back (winner p)))
over_sets (Err e) memory winner shapes sets found bits bytes is same back made = tt

-- and new ones
pub over_none : {P E : Type 0} (r : Result P E) (memory : P → BitMemory) (shapes : List SetShape) (found : Option (List ℕ)) → found ≡ None → IfOk r (λ p. SameBits shapes (memory p) (fresh_memory shapes))
    → IfOk r (λ p. (w : Winner) → SameBits shapes (record { bit = (memory p).bit; winner = w }) (memory_from shapes w found))
over_none (Ok p) memory shapes found is fresh = λ w. fresh_are shapes (memory p) found w is fresh
over_none (Err e) memory shapes found is fresh = tt

-- a run from a memory, and then to one with the same bits, is a course to that
pub settled_course : (from : Origin) (turns : ℕ) (m : BitMemory) (course : Course)
    → Runs from.image (λ rest. kept_state from.kept turns from.memory rest []) course.end course.steps (λ rest. kept_state course.stopped course.left m rest course.printed) course.stopped.ended course.taken
    → SameBits (shapes_of from.image) course.memory m → StaysOver from.kept.ended (Some course.end) course.stopped.ended course.taken → IsCourse from turns course
settled_course from turns m course ran same over =
    let first : Rest → CodeState = λ rest. kept_state from.kept turns from.memory rest [] in
    let to : Rest → CodeState = λ rest. kept_state course.stopped course.left m rest course.printed in
    let last : Rest → CodeState = λ rest. kept_state course.stopped course.left course.memory rest course.printed in
    record {
      begun = from.memory;
      same = record { bits = λ set position index a b c. refl; winner = refl };
      ran = runs_to_same from.image first to last course.end course.steps course.stopped.ended course.taken (λ rest. record { bits = same; rest = refl }) ran;
      over = over;
    }

-- a course from some bits is one from the same bits
pub begun_elsewhere : (from : Origin) (m : BitMemory) (turns : ℕ) (course : Course) → SameBits (shapes_of from.image) from.memory m → IsCourse from turns course → IsCourse (record { image = from.image; kept = from.kept; memory = m }) turns course
begun_elsewhere from m turns course same is =
    record { begun = is.begun; same = bits_after (shapes_of from.image) m from.memory is.begun is.same same; ran = is.ran; over = is.over }

-- where no output failed, all that a run printed was taken
pub printed_whole : (end : End) {S : Type 0} (agrees : S → List ℕ → Type 0) (s t : S) (xs : List ℕ) → output_broke end ≡ false → Puts (Some end) agrees s t xs → Takes agrees s t xs
printed_whole E.Done agrees s t xs whole put = put
printed_whole (E.Fault kind place position) agrees s t xs whole put = put
printed_whole E.Stopped agrees s t xs whole put = put
printed_whole E.InputBroken agrees s t xs whole put = put
printed_whole E.OutputBroken agrees s t xs whole put = cc
printed_whole E.Memory agrees s t xs whole put = put

-- what was printed, and the first bytes of what stands behind
pub printed_part : (end : End) {S : Type 0} (agrees : S → List ℕ → Type 0) (s t u : S) (xs text : List ℕ) → Puts (Some end) agrees s t xs → (output_broke end ≡ true → u ≡ t) → TakesPrefix agrees t u (closing end text) → TakesPrefix agrees s u (xs ++ closing end text)
printed_part E.Done agrees s t u xs text put silent part = prefix_then agrees s t u xs text put part
printed_part (E.Fault kind place position) agrees s t u xs text put silent part = prefix_then agrees s t u xs text put part
printed_part E.Stopped agrees s t u xs text put silent part = prefix_then agrees s t u xs text put part
printed_part E.InputBroken agrees s t u xs text put silent part = prefix_then agrees s t u xs [] put part
printed_part E.OutputBroken {S = S} agrees s t u xs text put silent part =
    subst (λ (v : S). TakesPrefix agrees s v (xs ++ [])) (sym (silent refl)) (prefix_of_first agrees s t xs [] put)
printed_part E.Memory agrees s t u xs text put silent part = prefix_then agrees s t u xs [] put part

-- a run that began nothing put nothing behind the listing
pub nothing_behind : {S : Type 0} (agrees : S → List ℕ → Type 0) (s t u : S) (end : End) (xs text : List ℕ) → end ≡ E.Memory → Takes agrees s t xs → TakesPrefix agrees t u (closing end text) → TakesPrefix agrees s u xs
nothing_behind agrees s t u end xs text is all part =
    subst (λ (bytes : List ℕ). TakesPrefix agrees s u bytes) (append-nil xs)
    (prefix_then agrees s t u xs [] all (subst (λ (e : End). TakesPrefix agrees t u (closing e text)) is part))

-- the report of a course that was put whole
pub run_reported : {S : Type 0} (agrees : S → List ℕ → Type 0) (s t u v : S) (left rest : Option (List ℕ)) (options : Options) (from : Origin) (course : Course) (answer : Answer) (More : Course → Type 0) → IsCourse from options.turns course → Feeds from course left rest → Takes agrees s t (where_asked options.listing (listing from.image)) → Puts (Some course.end) agrees t u course.printed → output_broke course.end ≡ false → answer ≡ answer_to_end options.turns course.end → Takes agrees u v (closing course.end (closing_text options from.image course.steps course.memory)) → More course → Reports agrees s v left rest options from answer More
run_reported agrees s t u v left rest options from course answer More is feeds listed put whole same last more =
    let image = from.image in
    let tail = closing course.end (closing_text options image course.steps course.memory) in (
      course,
      is,
      feeds,
      inl same,
      takes_then agrees s t v (where_asked options.listing (listing image)) (course.printed ++ tail) listed
          (takes_then agrees t u v course.printed tail (printed_whole course.end agrees t u course.printed whole put) last),
      more,
    )

-- and of one that was put in part
pub run_part : {S : Type 0} (agrees : S → List ℕ → Type 0) (s t u v : S) (left rest : Option (List ℕ)) (options : Options) (from : Origin) (course : Course) → IsCourse from options.turns course → Feeds from course left rest → Takes agrees s t (where_asked options.listing (listing from.image)) → Puts (Some course.end) agrees t u course.printed → (output_broke course.end ≡ true → v ≡ u) → TakesPrefix agrees u v (closing course.end (closing_text options from.image course.steps course.memory)) → ReportsPart agrees s v left rest options from
run_part agrees s t u v left rest options from course is feeds listed put silent part =
    let image = from.image in
    let text = closing_text options image course.steps course.memory in
    inr (
      course,
      is,
      feeds,
      prefix_then agrees s t v (where_asked options.listing (listing image)) (course.printed ++ closing course.end text) listed
          (printed_part course.end agrees t u v course.printed text put silent part),
    )

-- a status other than 6 is none of a failed output
pub unbroken : (broke : Bool) (status : ℕ) → (broke ≡ true → status ≡ 6) → status ≢ 6 → broke ≡ false
unbroken true status six other = absurd (other (six refl))
unbroken false status six other = refl

-- what is reported of a run from some bits is reported of one from the same bits
pub reported_elsewhere : {S : Type 0} (agrees : S → List ℕ → Type 0) (s v : S) (left rest : Option (List ℕ)) (options : Options) (from : Origin) (m : BitMemory) (answer : Answer) (More Other : Course → Type 0) → SameBits (shapes_of from.image) from.memory m → ((course : Course) → More course → Other course) → Reports agrees s v left rest options from answer More → Reports agrees s v left rest options (record { image = from.image; kept = from.kept; memory = m }) answer Other
reported_elsewhere agrees s v left rest options from m answer More Other same more said =
    (said.0, begun_elsewhere from m options.turns said.0 same said.1, said.2, said.3, said.4, more said.0 said.5)

pub part_elsewhere : {S : Type 0} (agrees : S → List ℕ → Type 0) (s v : S) (left rest : Option (List ℕ)) (options : Options) (from : Origin) (m : BitMemory) → SameBits (shapes_of from.image) from.memory m → ReportsPart agrees s v left rest options from → ReportsPart agrees s v left rest options (record { image = from.image; kept = from.kept; memory = m })
part_elsewhere agrees s v left rest options from m same (inl listed) = inl listed
part_elsewhere agrees s v left rest options from m same (inr said) =
    inr (said.0, begun_elsewhere from m options.turns said.0 same said.1, said.2, said.3)
