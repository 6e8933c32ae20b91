-- The code with more turns, to the end of its run.
use Rattle.std.proofs.Common.{◌≡◌, ◌∙◌, ◌⊎◌, inl, inr, ℕ, zero, suc, ◌+◌, true, List, [], ◌++◌, Some, refl, sym, ap, subst, arith}
use Rattle.std.proofs.lemmas.List.{append-nil, append_assoc}
use Rattle.cstar_base.specs.Faults.{run_number_of}
use Rattle.paris_code.specs.declared.program.Image.{Image}
use Rattle.paris_code.specs.Code.{CodeEnd, CodeState, Done, Ends, Fault, Goes, InputBroken, Next, Reached, Stopped, code, step}
use Rattle.paris_code.specs.Shapes.{SetShape, shapes_of}
use Rattle.paris_code.specs.Sound.{IsSound}
use Rattle.paris_machine.specs.declared.outcome.End.{End as RunEnd}
use Rattle.paris_machine.specs.declared.outcome.End.TheVariants as E
use Rattle.paris_machine.specs.Cut.{behind, next_behind, printed_behind, with_more}
use Rattle.paris_machine.specs.Runs.{ComesTo, SameNext, SameState}
use Rattle.paris_machine.proofs.Cut.{Goes_by, MoreTurns, code_append, code_behind, code_turns, counted, first_of_goes, later_by, same_start, step_behind, step_turns, where_stopped}
use Rattle.paris_machine.proofs.CutRuns.{code_same}
use Rattle.paris_machine.proofs.Same.{bits_after, ends_same}
use Rattle.turn_laws.specs.Turns.{Begins, is_of_code}

-- an end of the code, as the machine tells it
abbrev pub told : CodeEnd → RunEnd
told Done = E.Done
told (Fault fault place position) = E.Fault (run_number_of fault) place position
told Stopped = E.Stopped
told InputBroken = E.InputBroken

-- the instruction at which the code stands ends the run so, in the state but for bits that no set has
pub record EndsAt (image : Image) (s : CodeState) (end : RunEnd) (t : CodeState) : Type 0 where
  pub last : CodeEnd
  pub state : CodeState
  pub is : end ≡ told last
  pub ends : step image s ≡ Ends last state
  pub same : SameState (shapes_of image) state t

ends_so : (image : Image) (s t : CodeState) (e : CodeEnd) (x : Next) → step image s ≡ x → SameNext (shapes_of image) x (Ends e t) → EndsAt image s (told e) t
ends_so image s t e (Goes u) is same = absurd same
ends_so image s t e (Ends other u) is same = record { last = e; state = u; is = refl; ends = is ∙ ap (λ (c : CodeEnd). Ends c u) same.0; same = same.1 }

pub ends_at : (image : Image) (s t : CodeState) (end : RunEnd) → is_of_code end ≡ true → ComesTo image s (Some end) t → EndsAt image s end t
ends_at image s t E.Done whole came = ends_so image s t Done (step image s) refl came
ends_at image s t (E.Fault kind place position) whole came =
    subst (λ (k : ℕ). EndsAt image s (E.Fault k place position) t) came.1 (ends_so image s t (Fault came.0 place position) (step image s) refl came.2)
ends_at image s t E.Stopped whole came = ends_so image s t Stopped (step image s) refl came
ends_at image s t E.InputBroken whole came = ends_so image s t InputBroken (step image s) refl came
ends_at image s t E.OutputBroken whole came = cc
ends_at image s t E.Memory whole came = cc

-- so many instructions and one that ends the run
abbrev pub RunsTo : Image → CodeState → RunEnd → ℕ → CodeState → Type 0
RunsTo image s end steps t = (n : ℕ) × (steps ≡ n + 1) × ((mid : CodeState) × Goes_by image n s mid × ComesTo image mid (Some end) t)

-- what was printed only grows
begins_itself : (bytes : List ℕ) → Begins bytes bytes
begins_itself bytes = ([], sym (append-nil bytes))

begins_on : (a b c : List ℕ) → Begins a b → Begins b c → Begins a c
begins_on a b c one two = (one.0 ++ two.0, two.1 ∙ ap (λ (x : List ℕ). x ++ two.0) one.1 ∙ append_assoc a one.0 two.0)

-- the state as if it had printed nothing
abbrev silent : CodeState → CodeState
silent s = record s { output = [] }

behind_silent : (s : CodeState) → s ≡ printed_behind s.output (silent s)
behind_silent s = ap (λ (o : List ℕ). record s { output = o }) (sym (append-nil s.output))

goes_begins : (s t : CodeState) (x : Next) → Goes t ≡ next_behind s.output x → Begins s.output t.output
goes_begins s t (Goes u) is = let same : t ≡ printed_behind s.output u = cc in (u.output, ap (λ (x : CodeState). x.output) same)
goes_begins s t (Ends e u) is = cc

ends_begins : (s t : CodeState) (e : CodeEnd) (x : Next) → Ends e t ≡ next_behind s.output x → Begins s.output t.output
ends_begins s t e (Ends other u) is = let same : t ≡ printed_behind s.output u = cc in (u.output, ap (λ (x : CodeState). x.output) same)
ends_begins s t e (Goes u) is = cc

ending_prints : (image : Image) (s t : CodeState) (e : CodeEnd) → step image s ≡ Ends e t → Begins s.output t.output
ending_prints image s t e is =
    ends_begins s t e (step image (silent s)) (sym is ∙ ap (λ (x : CodeState). step image x) (behind_silent s) ∙ step_behind image s.output (silent s))

going_prints : (image : Image) (n : ℕ) (s t : CodeState) → Goes_by image n s t → Begins s.output t.output
going_prints image n s t goes =
    let all : counted n (Goes t) ≡ behind 0 s.output (code image n (silent s)) = sym goes ∙ ap (λ (x : CodeState). code image n x) (behind_silent s) ∙ code_behind image n s.output (silent s) in
    goes_begins s t (code image n (silent s)).next (ap (λ (r : Reached). r.next) all)

-- the rest of a run
rest_of : (image : Image) (n k : ℕ) (s mid t : CodeState) → Goes_by image n s mid → Goes_by image (n + k) s t → Goes_by image k mid t
rest_of image n k s mid t one two =
    let all : later_by n (code image k mid) ≡ counted (n + k) (Goes t) = sym (code_append image n k s mid one) ∙ two in
    let steps : (code image k mid).steps ≡ k = omega (arith, ap (λ (r : Reached). r.steps) all) in
    ap (λ (x : Next). counted (code image k mid).steps x) (ap (λ (r : Reached). r.next) all) ∙ ap (λ (c : ℕ). counted c (Goes t)) steps

not_behind_end : (image : Image) (n k : ℕ) (s mid t u : CodeState) (e : CodeEnd) → Goes_by image n s mid → Goes_by image (n + suc k) s t → step image mid ≡ Ends e u → ⊥
not_behind_end image n k s mid t u e one two ends =
    let next = first_of_goes image k mid t (step image mid) refl (rest_of image n (suc k) s mid t one two) in
    let clash : Ends e u ≡ Goes next.0 = sym ends ∙ next.1 in
    cc

-- which of two numbers is greater, and by how much
abbrev Order : ℕ → ℕ → Type 0
Order a b = ((k : ℕ) × (b ≡ a + suc k)) ⊎ ((a ≡ b) ⊎ ((k : ℕ) × (a ≡ b + suc k)))

order_up : (a b : ℕ) → Order a b → Order (suc a) (suc b)
order_up a b (inl (k, is)) = inl (k, omega (arith, is))
order_up a b (inr (inl is)) = inr (inl (omega (arith, is)))
order_up a b (inr (inr (k, is))) = inr (inr (k, omega (arith, is)))

order : (a b : ℕ) → Order a b
order zero zero = inr (inl refl)
order zero (suc b) = inl (b, omega arith)
order (suc a) zero = inr (inr (a, omega arith))
order (suc a) (suc b) = order_up a b (order a b)

with_more_same : (shapes : List SetShape) (more : ℕ) (s t u : CodeState) → SameState shapes s t → SameState shapes (with_more more s) u → SameState shapes (with_more more t) u
with_more_same shapes more s t u one two = record {
  bits = bits_after shapes t.memory s.memory u.memory two.bits (record { bits = λ set p i a b c. sym (one.bits.bits set p i a b c); winner = sym one.bits.winner });
  rest = two.rest ∙ ap (λ (x : CodeState). record x { turns = x.turns + more; memory = u.memory }) (sym one.rest);
}

-- an instruction that ends the run does so with more turns, unless it stops
ends_with_more : (m : ℕ) (e : CodeEnd) (u : CodeState) (x : Next) → MoreTurns m (Ends e u) x → (e ≡ Stopped) ⊎ (x ≡ Ends e (with_more m u))
ends_with_more m Stopped u x goes = inl refl
ends_with_more m Done u x ends = inr ends
ends_with_more m (Fault fault place position) u x ends = inr ends
ends_with_more m InputBroken u x ends = inr ends

-- what is said of a run that came to one state, and of one with so many turns more
abbrev pub PrintsOnTo : Image → ℕ → RunEnd → RunEnd → ℕ → ℕ → CodeState → CodeState → Type 0
PrintsOnTo image more end other steps others t u =
    Begins t.output u.output × ((end ≡ E.Stopped → ⊥) → (other ≡ end) × (others ≡ steps) × SameState (shapes_of image) (with_more more t) u)

module _ (image : Image) (more : ℕ) (end other : RunEnd) (steps others : ℕ) (t u : CodeState) where
  -- where the run stopped, the other goes on from there
  from_stop : (mid v x y : CodeState) (e : CodeEnd) → SameState (shapes_of image) x t → step image mid ≡ Ends Stopped x → end ≡ E.Stopped → Begins mid.output v.output → step image v ≡ Ends e y → SameState (shapes_of image) y u
      → PrintsOnTo image more end other steps others t u
  from_stop mid v x y e came stops is grew ends to =
      let stands = where_stopped image mid x stops in
      let printed : t.output ≡ mid.output = ap (λ (z : CodeState). z.output) came.rest ∙ ap (λ (z : CodeState). z.output) stands.0 in
      let last : u.output ≡ y.output = ap (λ (z : CodeState). z.output) to.rest in (
        subst (λ (bytes : List ℕ). Begins bytes u.output) (sym printed) (subst (λ (bytes : List ℕ). Begins mid.output bytes) (sym last) (begins_on mid.output v.output y.output grew (ending_prints image v y e ends))),
        λ none. absurd (none is),
      )

  -- both ended with the same instruction
  both_ended : (x y : CodeState) (e f : CodeEnd) → SameState (shapes_of image) x t → SameState (shapes_of image) y u → end ≡ told e → other ≡ told f → Ends f y ≡ Ends e (with_more more x) → others ≡ steps → PrintsOnTo image more end other steps others t u
  both_ended x y e f came to is was same count =
      let ends : f ≡ e = cc in
      let states : y ≡ with_more more x = cc in
      let all : SameState (shapes_of image) (with_more more t) u = with_more_same (shapes_of image) more x t u came (subst (λ (z : CodeState). SameState (shapes_of image) z u) states to) in (
        subst (λ (bytes : List ℕ). Begins t.output bytes) (sym (ap (λ (z : CodeState). z.output) all.rest)) (begins_itself t.output),
        λ none. (was ∙ ap told ends ∙ sym is, count, all),
      )

-- a run with so many turns more prints on
pub more_turns : (image : Image) (sound : IsSound image) (more : ℕ) (s r t u : CodeState) (end other : RunEnd) (steps others : ℕ) → SameState (shapes_of image) (with_more more s) r
    → is_of_code end ≡ true → is_of_code other ≡ true → RunsTo image s end steps t → RunsTo image r other others u → PrintsOnTo image more end other steps others t u
more_turns image sound more s r t u end other steps others same whole entire (n, count, (mid, goes, came)) (m, counts, (last, going, comes)) =
    let met = code_same image sound m (with_more more s) r last same going in
    let v : CodeState = met.0 in
    let behind_all : Goes_by image n (with_more more s) (with_more more mid) = code_turns image n more s mid goes in
    let one = ends_at image mid t end whole came in
    let two = ends_at image v u other entire (ends_same image sound v last other u met.2 comes) in
    let here = ends_with_more more one.last one.state (step image (with_more more mid)) (subst (λ (x : Next). MoreTurns more x (step image (with_more more mid))) one.ends (step_turns image more mid)) in
    by_order v met.1 behind_all one two here (order n m)
  where
    by_order : (v : CodeState) → Goes_by image m (with_more more s) v → Goes_by image n (with_more more s) (with_more more mid) → (one : EndsAt image mid end t) → EndsAt image v other u
        → (one.last ≡ Stopped) ⊎ (step image (with_more more mid) ≡ Ends one.last (with_more more one.state)) → Order n m → PrintsOnTo image more end other steps others t u
    by_order v there behind_all one two here (inr (inr (k, is))) =
        absurd (not_behind_end image m k (with_more more s) v (with_more more mid) two.state two.last there (subst (λ (c : ℕ). Goes_by image c (with_more more s) (with_more more mid)) is behind_all) two.ends)
    by_order v there behind_all one two (inl stops) (inl (k, is)) =
        from_stop image more end other steps others t u mid v one.state two.state two.last one.same (one.ends ∙ ap (λ (e : CodeEnd). Ends e one.state) stops) (one.is ∙ ap told stops)
        (going_prints image (suc k) (with_more more mid) v (rest_of image n (suc k) (with_more more s) (with_more more mid) v behind_all (subst (λ (c : ℕ). Goes_by image c (with_more more s) v) is there))) two.ends two.same
    by_order v there behind_all one two (inr ends) (inl (k, is)) =
        absurd (not_behind_end image n k (with_more more s) (with_more more mid) v (with_more more one.state) one.last behind_all (subst (λ (c : ℕ). Goes_by image c (with_more more s) v) is there) ends)
    by_order v there behind_all one two here (inr (inl is)) =
        let at : v ≡ with_more more mid = same_start v (with_more more mid) m (sym there ∙ subst (λ (c : ℕ). Goes_by image c (with_more more s) (with_more more mid)) is behind_all) in
        by_end v one two here at is
      where
        by_end : (v : CodeState) (one : EndsAt image mid end t) → EndsAt image v other u → (one.last ≡ Stopped) ⊎ (step image (with_more more mid) ≡ Ends one.last (with_more more one.state)) → v ≡ with_more more mid → n ≡ m → PrintsOnTo image more end other steps others t u
        by_end v one two (inl stops) at is =
            from_stop image more end other steps others t u mid v one.state two.state two.last one.same (one.ends ∙ ap (λ (e : CodeEnd). Ends e one.state) stops) (one.is ∙ ap told stops)
            (subst (λ (bytes : List ℕ). Begins mid.output bytes) (sym (ap (λ (z : CodeState). z.output) at)) (begins_itself mid.output)) two.ends two.same
        by_end v one two (inr ends) at is =
            both_ended image more end other steps others t u one.state two.state one.last two.last one.same two.same one.is two.is (sym two.ends ∙ ap (λ (z : CodeState). step image z) at ∙ ends) (omega (arith, count, counts, is))
