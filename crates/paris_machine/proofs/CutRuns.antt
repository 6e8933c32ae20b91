-- A run of the machine that stopped goes on from there as with more turns from the start.
use Rattle.std.proofs.Common.{◌≡◌, ℕ, zero, suc, ◌+◌, Bool, true, false, List, [], ◌++◌, Some, None, refl, sym, ◌∙◌, ap, subst, arith}
use Rattle.std.proofs.lemmas.List.{append_assoc, append-nil}
use Rattle.paris_code.specs.declared.instr.Instr.TheVariants as I
use Rattle.paris_code.specs.declared.program.Image.{Image}
use Rattle.paris_code.specs.Code.{CodeState, Rest, End, Next, Goes, Ends, CodeEnd, Stopped, Reached, code, step}
use Rattle.paris_code.specs.Memory.{BitMemory}
use Rattle.paris_code.specs.Shapes.{SetShape, shapes_of}
use Rattle.paris_code.specs.Sound.{IsSound}
use Rattle.paris_code.specs.Units.{IsAt}
use Rattle.front_end.specs.declared.kept.Kept.{Kept}
use Rattle.paris_machine.specs.declared.outcome.End.{End as RunEnd}
use Rattle.paris_machine.specs.declared.outcome.End.TheVariants as E
use Rattle.paris_machine.specs.Cut.{with_more, printed_behind, next_behind, behind, RunsInTwo}
use Rattle.paris_machine.specs.Runs.{SameState, SameNext, ComesTo, Runs, before, IsLeft, kept_state}
use Rattle.paris_machine.proofs.Cut.{Goes_by, counted, first_of_goes, onward_by, same_start, code_turns, code_append, code_behind, step_behind, where_stopped}
use Rattle.paris_machine.proofs.Following.{left_before}
use Rattle.paris_machine.proofs.Same.{bits_after, step_same, ends_same}

-- where a run stopped: at a turn with none left, with the bits that it left
pub stopped_same : (image : Image) (s t : CodeState) (x : Next) → step image s ≡ x → SameNext (shapes_of image) x (Ends Stopped t) → SameState (shapes_of image) s t × (s.turns ≡ 0) × IsAt image s.at I.FrontTurn
stopped_same image s t (Goes y) e same = absurd same
stopped_same image s t (Ends end y) e same =
    let stands = where_stopped image s y (e ∙ ap (λ (x : CodeEnd). Ends x y) same.0) in
    (subst (λ (x : CodeState). SameState (shapes_of image) x t) stands.0 same.1, stands.1, stands.2)

left_nothing : (ended : Bool) → IsLeft ended (Some E.Stopped) (record { bytes = []; mark = End })
left_nothing true = refl
left_nothing false = tt

pub stopped_at_turn : (image : Image) (from : Rest → CodeState) (end : RunEnd) (steps : ℕ) (stopped : Kept) (left : ℕ) (n : BitMemory) (printed taken : List ℕ) (ended : Bool)
    → Runs image from end steps (λ rest. kept_state stopped left n rest printed) ended taken → end ≡ E.Stopped → (left ≡ 0) × IsAt image stopped.at I.FrontTurn
stopped_at_turn image from end steps stopped left n printed taken ended runs is =
    let nothing : Rest = record { bytes = []; mark = End } in
    let ran : Runs image from E.Stopped steps (λ rest. kept_state stopped left n rest printed) ended taken = subst (λ (e : RunEnd). Runs image from e steps (λ rest. kept_state stopped left n rest printed) ended taken) is runs in
    let run = ran nothing (left_nothing ended) in
    let stop = stopped_same image run.2.0 (kept_state stopped left n nothing printed) (step image run.2.0) refl run.2.2 in (
      ap (λ (x : CodeState). x.turns) stop.0.rest ∙ stop.1,
      subst (λ at. IsAt image at I.FrontTurn) (sym (ap (λ (x : CodeState). x.at) stop.0.rest)) stop.2,
    )

-- the same code from states that are the same but for bits that no set has
same_goes : (image : Image) (n : ℕ) (s y : CodeState) (x : Next) → step image s ≡ x → SameNext (shapes_of image) x (Goes y) → (z : CodeState) × (step image s ≡ Goes z) × SameState (shapes_of image) z y
same_goes image n s y (Goes z) e same = (z, e, same)
same_goes image n s y (Ends end z) e same = absurd same

pub code_same : (image : Image) (sound : IsSound image) (n : ℕ) (s t u : CodeState) → SameState (shapes_of image) s t → Goes_by image n t u → (v : CodeState) × Goes_by image n s v × SameState (shapes_of image) v u
unfolding code
code_same image sound zero s t u same goes = (s, refl, subst (λ (x : CodeState). SameState (shapes_of image) s x) (same_start t u 0 goes) same)
code_same image sound (suc n) s t u same goes =
    let first = first_of_goes image n t u (step image t) refl goes in
    let both : SameNext (shapes_of image) (step image s) (Goes first.0) = subst (λ (x : Next). SameNext (shapes_of image) (step image s) x) first.1 (step_same image sound s t same) in
    let here = same_goes image n s first.0 (step image s) refl both in
    let rest = code_same image sound n here.0 first.0 u here.2 first.2 in
    (rest.0, onward_by image n s here.0 (Goes rest.0) here.1 rest.1, rest.2)

-- the last instruction, behind what was printed before
next_printed : (shapes : List SetShape) (printed : List ℕ) (x y : Next) → SameNext shapes x y → SameNext shapes (next_behind printed x) (next_behind printed y)
next_printed shapes printed (Goes s) (Goes t) same = record { bits = same.bits; rest = ap (λ (x : CodeState). printed_behind printed x) same.rest }
next_printed shapes printed (Ends end s) (Ends other t) same = (same.0, record { bits = same.1.bits; rest = ap (λ (x : CodeState). printed_behind printed x) same.1.rest })
next_printed shapes printed (Goes s) (Ends other t) same = absurd same
next_printed shapes printed (Ends end s) (Goes t) same = absurd same

step_printed : (image : Image) (printed : List ℕ) (s : CodeState) (y : Next) → SameNext (shapes_of image) (step image s) y → SameNext (shapes_of image) (step image (printed_behind printed s)) (next_behind printed y)
step_printed image printed s y same =
    subst (λ (x : Next). SameNext (shapes_of image) x (next_behind printed y)) (sym (step_behind image printed s)) (next_printed (shapes_of image) printed (step image s) y same)

comes_printed : (image : Image) (printed : List ℕ) (s t : CodeState) (end : RunEnd) → ComesTo image s (Some end) t → ComesTo image (printed_behind printed s) (Some end) (printed_behind printed t)
comes_printed image printed s t E.Done came = step_printed image printed s _ came
comes_printed image printed s t (E.Fault kind place position) came = (came.0, came.1, step_printed image printed s _ came.2)
comes_printed image printed s t E.Stopped came = step_printed image printed s _ came
comes_printed image printed s t E.InputBroken came = step_printed image printed s _ came
comes_printed image printed s t E.OutputBroken came = step_printed image printed s _ came
comes_printed image printed s t E.Memory came = (came.0, ap (λ (o : List ℕ). printed ++ o) came.1)

left_stopped : (ended : Bool) (later : Rest) → IsLeft ended None later → IsLeft ended (Some E.Stopped) later
left_stopped true later left = left
left_stopped false later left = tt

-- the second run from where the first stopped
goes_on : (image : Image) (sound : IsSound image) (n k : ℕ) (start mid stopped again last : CodeState) (more : ℕ) (printed : List ℕ)
    → Goes_by image n start mid → SameState (shapes_of image) (with_more more mid) (printed_behind printed again) → Goes_by image k again last
    → (w : CodeState) × Goes_by image (n + k) (with_more more start) w × SameState (shapes_of image) w (printed_behind printed last)
goes_on image sound n k start mid stopped again last more printed first same second =
    let steps : 0 + k ≡ k = omega arith in
    let behind_it : Goes_by image k (printed_behind printed again) (printed_behind printed last) =
    code_behind image k printed again ∙ ap (λ (r : Reached). behind 0 printed r) second ∙ ap (λ (c : ℕ). counted c (Goes (printed_behind printed last))) steps in
    let met = code_same image sound k (with_more more mid) (printed_behind printed again) (printed_behind printed last) same behind_it in (
      met.0,
      code_append image n k (with_more more start) (with_more more mid) (code_turns image n more start mid first) ∙ ap (λ (r : Reached). record { next = r.next; steps = n + r.steps }) met.1,
      met.2,
    )

pub two_runs : (image : Image) → IsSound image → RunsInTwo image
two_runs image sound first stopped last turns more left old between restored new one two steps end printed text taken rest bits ran ran_on over count = λ later ends.
    let met : Rest = before rest later in
    let run = ran met (left_stopped stopped.ended met (left_before stopped.ended last.ended (Some end) rest later over ends)) in
    let next = ran_on later ends in
    let mid : CodeState = run.2.0 in
    let stop = stopped_same image mid (kept_state stopped 0 between met printed) (step image mid) refl run.2.2 in
    let none : mid.turns + more ≡ more = omega (arith, stop.1) in
    let again : CodeState = kept_state stopped more restored met [] in
    let same : SameState (shapes_of image) (with_more more mid) (printed_behind printed again) = record {
      bits = bits_after (shapes_of image) mid.memory between restored bits stop.0.bits;
      rest = ap (λ (o : List ℕ). record again { output = o }) (append-nil printed) ∙ ap (λ (x : CodeState). record x { turns = more; memory = restored }) stop.0.rest ∙ ap (λ (c : ℕ). record mid { turns = c; memory = restored }) (sym none);
    } in
    let all = goes_on image sound run.0 next.0 (kept_state first turns old (before taken met) []) mid (kept_state stopped 0 between met printed) again next.2.0 more printed run.2.1 same next.2.1 in (
      run.0 + next.0,
      omega (arith, count, run.1, next.1),
      (
        all.0,
        subst (λ (bytes : List ℕ). Goes_by image (run.0 + next.0) (kept_state first (turns + more) old (record { bytes = bytes; mark = later.mark }) []) all.0) (sym (append_assoc taken rest later.bytes)) all.1,
        ends_same image sound all.0 (printed_behind printed next.2.0) end (kept_state last left new later (printed ++ text)) all.2 (comes_printed image printed next.2.0 (kept_state last left new later text) end next.2.2),
      ),
    )
