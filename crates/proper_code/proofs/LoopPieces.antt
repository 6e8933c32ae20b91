-- The code of loops, and of statements that go one way or another, over that of their parts.
use Rattle.std.proofs.Common.{◌≡◌, ℕ, ◌+◌, ◌<◌, ◌≤◌, ◌⊎◌, inl, inr, Bool, true, false, [], ◌∷◌, Option, Some, None, IfSome, refl, sym, ap, ◌∙◌, subst, arith}
use Rattle.paris_code.specs.declared.instr.Instr.{Instr}
use Rattle.cstar_tree.specs.declared.typed.Instance.{Instance}
use Rattle.cstar_tree.specs.declared.typed.TExpr.{TExpr}
use Rattle.cstar_tree.specs.declared.typed.Typed.{Typed}
use Rattle.paris_code.specs.declared.instr.Instr.TheVariants as I
use Rattle.lower_base.specs.Drafts.{Draft, Step, Plain, Made, Makes, here, step, then_make, with_instr, with_step}
use Rattle.lower_base.specs.Layouts.{Layout}
use Rattle.lower_expr.specs.Lengths.{used_length_of}
use Rattle.lower_stmt.specs.Frames.{with_end}
use Rattle.lower_stmt.specs.Lengths.{condition_length_of, part_length_of}
use Rattle.lower_stmt.specs.Statements.{condition_of, jump_back_of, part_of}
use Rattle.code_lengths.specs.Growth.{Anything, Extended, Leads}
use Rattle.code_lengths.specs.Ready.{Declares, HasCode, HasDeclared, IsReady, NumbersVariables}
use Rattle.code_lengths.proofs.Agreeing.{expressions}
use Rattle.code_lengths.proofs.Drafting.{and_instr, and_step, as_it_was}
use Rattle.code_lengths.proofs.Homes.{still_declared}
use Rattle.code_lengths.proofs.Readiness.{ready_behind}
use Rattle.proper_code.specs.Control.{Stands, target_in}
use Rattle.code_lengths.proofs.StatementLengths.{IsCondition, condition_grows, part_grows}
use Rattle.proper_code.proofs.Stretches.{IsNoCall, Ways, always, end_step, if_nonzero, if_zero, is_inward}
use Rattle.proper_code.proofs.Writing.{Wrote, nothing_written, one_further, step_written, stretch_written, written_on}
use Rattle.proper_code.proofs.Building.{as_before}
use Rattle.proper_code.proofs.Passing.{IsWritten, also_to, ends_there, jump_ahead, jump_back, leads_to, made_so, measured_then, passing, places_within, regrouped_written, stands_last, stands_still, starts_there, statement_then}
use Rattle.proper_code.proofs.StatementPieces.{condition_inward, part_inward}

-- ---- the end of a unit

pub ended_written : (t : Typed) (is_main : Bool) (P back : ℕ → Type 0) (d e : Draft) → Wrote (passing t is_main P back) d e → Wrote (passing t is_main P back) d (with_end is_main e)
unfolding with_end with_instr with_step passing step target_in
ended_written t true P back d e x = written_on _ d e _ x (stretch_written _ e _ (Plain I.FrontHalt ∷ []) refl (end_step _ (here e) (Plain I.FrontHalt) refl (λ unit is. let h = ap is_inward is in cc) refl))
ended_written t false P back d e x = written_on _ d e _ x (stretch_written _ e _ (Plain I.FrontReturn ∷ []) refl (end_step _ (here e) (Plain I.FrontReturn) refl (λ unit is. let h = ap is_inward is in cc) refl))

pub one_instr : (instr : Instr) (e : Draft) → Extended e 1 (with_instr instr e)
one_instr instr e = and_instr instr e e 0 (as_it_was e)

-- ---- loops

-- where a loop goes on, is tested and ends
abbrev pub Loops : ℕ → ℕ → ℕ → ℕ → Type 0
Loops next place after target = (target ≡ next) ⊎ ((target ≡ place) ⊎ (target ≡ after))

abbrev pub around : Typed → Bool → (ℕ → Type 0) → (ℕ → Type 0) → ℕ → ℕ → ℕ → ℕ → Ways
around t is_main P back next place after turn = passing t is_main (λ target. P target ⊎ Loops next place after target) (λ target. back target ⊎ (target ≡ turn))

-- a loop that begins behind a jump to where it is tested, and its turn
pub jumped_in : (t : Typed) (is_main : Bool) (P back : ℕ → Type 0) (next place after turn target : ℕ) (d : Draft) → here d < target → Loops next place after target →
    Wrote (around t is_main P back next place after turn) d (with_instr I.FrontTurn (with_instr (I.FrontJump target) d))
unfolding with_instr step is_inward
jumped_in t is_main P back next place after turn target d ahead to =
    step_written _ (Plain I.FrontTurn) d (with_step (Plain (I.FrontJump target)) d) refl
    (jump_ahead t is_main (λ target. P target ⊎ Loops next place after target) (λ target. back target ⊎ (target ≡ turn)) (Plain (I.FrontJump target)) target d d (always target) ahead (inr to) (nothing_written _ d d refl))

pub jumped_far : (target : ℕ) (d : Draft) → here (with_instr I.FrontTurn (with_instr (I.FrontJump target) d)) ≡ here d + 2
unfolding with_instr step
jumped_far target d = let one = one_further (Plain (I.FrontJump target)) d in let two = one_further (Plain I.FrontTurn) (with_step (Plain (I.FrontJump target)) d) in omega (arith, one, two)

pub turn_there : (target : ℕ) (d : Draft) → Stands (with_instr I.FrontTurn (with_instr (I.FrontJump target) d)).code (here d + 1) (Plain I.FrontTurn)
unfolding with_instr step
turn_there target d =
    subst (λ (k : ℕ). Stands (with_step (Plain I.FrontTurn) (with_step (Plain (I.FrontJump target)) d)).code k (Plain I.FrontTurn)) (one_further (Plain (I.FrontJump target)) d) (stands_last (Plain I.FrontTurn) (with_step (Plain (I.FrontJump target)) d))

-- back to the turn, behind the test if there is one
back_then : {B : Type 0} (t : Typed) (i : Instance) (l : Layout) → NumbersVariables i l → (n : ℕ) (is_main : Bool) (P back : ℕ → Type 0) (w : Ways) (b d : Draft) (test : Option TExpr) (turn : ℕ) (next : Unit {0} → Draft → Made B) → IfSome test (IsCondition t i n) → IsReady t i l n d → back turn →
    ((e : Draft) → here e ≡ here d + (condition_length_of t l test + 1) → Wrote (passing t is_main P back) d e → IsWritten w b (next tt e)) → IsWritten w b (then_make (jump_back_of t l test turn d) next)
unfolding jump_back_of condition_length_of then_make with_instr step
back_then t i l numbers n is_main P back w b d None turn next c ready to f =
    f (with_step (Plain (I.FrontJump turn)) d) (one_further (Plain (I.FrontJump turn)) d) (jump_back t is_main P back (Plain (I.FrontJump turn)) turn d d (always turn) to (nothing_written _ d d refl))
back_then t i l numbers n is_main P back w b d (Some test) turn next c ready to f =
    regrouped_written w b (condition_of t l test d) _ _ (measured_then t i l n (used_length_of t l 32 true test) is_main P back w Anything d d b _ _ ready (condition_grows t i l numbers (expressions t i l) n test d c ready)
    (condition_inward t i l n test c.0 d d (as_before d)) (nothing_written _ d d refl) (λ r after _ is x. let far = one_further (Plain (I.FrontJumpNonzero r turn)) after in
    f (with_step (Plain (I.FrontJumpNonzero r turn)) after) (omega (arith, is, far)) (jump_back t is_main P back (Plain (I.FrontJumpNonzero r turn)) turn d after (if_nonzero r turn) to x)))

pub loop_written : (t : Typed) (i : Instance) (l : Layout) → NumbersVariables i l → (n m long : ℕ) (is_main : Bool) (P back : ℕ → Type 0) (d begun : Draft) (made : Made ℕ) (more test : Option TExpr) (turn next place after : ℕ) →
    Wrote (around t is_main P back next place after turn) d begun → here d ≤ turn → Stands begun.code turn (Plain I.FrontTurn) →
    Leads begun long (Declares t i l m) made → IsWritten (around t is_main P back next place after turn) begun made →
    next ≡ here begun + long → place ≡ next + part_length_of t l more → after ≡ place + (condition_length_of t l test + 1) →
    IfSome more (HasCode t i n) → IfSome test (IsCondition t i n) → ((e : Draft) → HasDeclared t i l m e → IsReady t i l n e) →
    IsWritten (passing t is_main P back) d (then_make made (λ x behind. then_make (part_of t l more behind) (λ _ stepped. then_make (jump_back_of t l test turn stepped) (λ _ end. Makes x end))))
loop_written t i l numbers n m long is_main P back d begun made more test turn next place after start low stands lead body next_is place_is after_is more_code test_code ready =
    statement_then t i l m long V W begun begun d made _ lead body (λ last known at wrote.
    measured_then t i l n (part_length_of t l more) is_main PQ turns W Anything last last d _ _ (ready last known) (part_grows t i l numbers (expressions t i l) n more last more_code (ready last known))
    (part_inward t i l n more more_code last last (as_before last)) (nothing_written V last last refl) (λ _ stepped x is stepped_wrote.
    back_then t i l numbers n is_main PQ turns W d stepped test turn _ test_code (ready_behind _ t i l n _ last stepped x (ready last known)) (inr refl) (λ e end back_wrote.
    made_so W m d e (closed_up last stepped e at is end wrote stepped_wrote back_wrote))))
  where
    PQ : ℕ → Type 0
    PQ target = P target ⊎ Loops next place after target

    turns : ℕ → Type 0
    turns target = back target ⊎ (target ≡ turn)

    V : Ways
    V = passing t is_main PQ turns

    W : Ways
    W = passing t is_main P back

    closed_up : (last stepped e : Draft) → here last ≡ here begun + long → here stepped ≡ here last + part_length_of t l more → here e ≡ here stepped + (condition_length_of t l test + 1) → Wrote V begun last → Wrote V last stepped → Wrote V stepped e → Wrote W d e
    closed_up last stepped e a b c x y z =
        let rest : Wrote V last e = written_on V last stepped e y z in
        let all : Wrote V begun e = written_on V begun last e x rest in
        places_within t is_main P (Loops next place after) back (λ target. target ≡ turn) d e ahead
        (λ target is. (omega (arith, low, is), subst (λ (k : ℕ). Stands e.code k (Plain I.FrontTurn)) (sym is) (stands_still V begun e turn _ all stands))) (written_on V d begun e start all)
      where
        ahead : (target : ℕ) → Loops next place after target → (target ≤ here e) × IsNoCall e.code target
        ahead target (inl is) = starts_there V last e target (is ∙ next_is ∙ sym a) (written_on V last stepped e y z)
        ahead target (inr (inl is)) = starts_there V stepped e target (omega (arith, is, place_is, next_is, a, b)) z
        ahead target (inr (inr is)) = ends_there e target (omega (arith, is, after_is, place_is, next_is, a, b, c))

-- ---- one way or another

-- code of a statement, in which more jumps are allowed
abbrev pub Writes : Typed → Bool → (ℕ → Type 0) → (ℕ → Type 0) → Draft → Made ℕ → Type 1
Writes t is_main P back d made = (Q turns : ℕ → Type 0) → IsWritten (passing t is_main (λ target. P target ⊎ Q target) (λ target. back target ⊎ turns target)) d made

-- none of them back
abbrev NoTurns : ℕ → Type 0
NoTurns target = ⊥

-- an `if` without an `else`
pub one_way : (t : Typed) (i : Instance) (l : Layout) → NumbersVariables i l → (n m long : ℕ) (is_main : Bool) (P back : ℕ → Type 0) (d : Draft) (test : TExpr) (first : Draft → Made ℕ) → IsCondition t i n test → HasDeclared t i l n d →
    ((c : Draft) → HasDeclared t i l n c → Leads c long (Declares t i l m) (first c)) → ((c : Draft) → HasDeclared t i l n c → here c ≡ here d + used_length_of t l 32 true test + 1 → Writes t is_main P back c (first c)) →
    IsWritten (passing t is_main P back) d (then_make (condition_of t l test d) (λ r after. then_make (first (with_instr (I.FrontJumpZero r (here after + long + 1)) after)) (λ m behind. Makes m behind)))
unfolding with_instr step
one_way t i l numbers n m long is_main P back d test first code y lead body =
    measured_then t i l n (used_length_of t l 32 true test) is_main P back W Anything d d d _ _ y.ready (condition_grows t i l numbers (expressions t i l) n test d code y.ready) (condition_inward t i l n test code.0 d d (as_before d)) (nothing_written W d d refl)
    (λ r after x is wrote. rest r after (still_declared t i l n d after (used_length_of t l 32 true test) x y) is wrote)
  where
    W : Ways
    W = passing t is_main P back

    rest : (r : ℕ) (after : Draft) → HasDeclared t i l n after → here after ≡ here d + used_length_of t l 32 true test → Wrote W d after →
        IsWritten W d (then_make (first (with_step (Plain (I.FrontJumpZero r (here after + long + 1))) after)) (λ m behind. Makes m behind))
    rest r after known is wrote =
        let end : ℕ = here after + long + 1 in
        let jump : Step = Plain (I.FrontJumpZero r end) in
        let c : Draft = with_step jump after in
        let there = still_declared t i l n after c 1 (and_step jump after after 0 (as_it_was after)) known in
        let far = one_further jump after in
        let start = jump_ahead t is_main (λ target. P target ⊎ (target ≡ end)) (λ target. back target ⊎ NoTurns target) jump end d after (if_zero r end) (omega arith) (inr refl) (also_to t is_main P (λ target. target ≡ end) back NoTurns d after wrote) in
        statement_then t i l m long _ W c c d _ _ (lead c there) (body c there (omega (arith, far, is)) (λ target. target ≡ end) NoTurns) (λ e _ at x.
        made_so W m d e (places_within t is_main P (λ target. target ≡ end) back NoTurns d e (λ target same. ends_there e target (omega (arith, same, at, far))) (λ target no. absurd no) (written_on _ d c e start x)))

-- where the second way begins, and where it ends
both_land : (w : Ways) (b e : Draft) (other end : ℕ) → other ≡ here b → end ≡ here e → Wrote w b e → (target : ℕ) → (target ≡ other) ⊎ (target ≡ end) → (target ≤ here e) × IsNoCall e.code target
both_land w b e other end begins ends x target (inl is) = starts_there w b e target (is ∙ begins) x
both_land w b e other end begins ends x target (inr is) = ends_there e target (is ∙ ends)

-- one with it
pub two_ways : (t : Typed) (i : Instance) (l : Layout) → NumbersVariables i l → (n m k long last : ℕ) (is_main : Bool) (P back : ℕ → Type 0) (d : Draft) (test : TExpr) (first : Draft → Made ℕ) (second : Draft → Made ℕ) → IsCondition t i n test → HasDeclared t i l n d →
    ((c : Draft) → HasDeclared t i l n c → Leads c long (Declares t i l m) (first c)) → ((c : Draft) → HasDeclared t i l n c → here c ≡ here d + used_length_of t l 32 true test + 1 → Writes t is_main P back c (first c)) →
    ((c : Draft) → HasDeclared t i l m c → Leads c last (Declares t i l k) (second c)) → ((c : Draft) → HasDeclared t i l m c → here c ≡ here d + used_length_of t l 32 true test + 1 + long + 1 → Writes t is_main P back c (second c)) →
    (next : ℕ → Draft → Made ℕ) → ((c : Draft) → next m c ≡ second c) →
    IsWritten (passing t is_main P back) d (then_make (condition_of t l test d) (λ r after. then_make (first (with_instr (I.FrontJumpZero r (here after + long + 1 + 1)) after)) (λ m behind. next m (with_instr (I.FrontJump (here after + long + 1 + 1 + last)) behind))))
unfolding with_instr step
two_ways t i l numbers n m k long last is_main P back d test first second code y lead body lead' body' next same =
    measured_then t i l n (used_length_of t l 32 true test) is_main P back W Anything d d d _ _ y.ready (condition_grows t i l numbers (expressions t i l) n test d code y.ready) (condition_inward t i l n test code.0 d d (as_before d)) (nothing_written W d d refl)
    (λ r after x is wrote. rest r after (still_declared t i l n d after (used_length_of t l 32 true test) x y) is wrote)
  where
    W : Ways
    W = passing t is_main P back

    rest : (r : ℕ) (after : Draft) → HasDeclared t i l n after → here after ≡ here d + used_length_of t l 32 true test → Wrote W d after →
        IsWritten W d (then_make (first (with_step (Plain (I.FrontJumpZero r (here after + long + 1 + 1))) after)) (λ m behind. next m (with_step (Plain (I.FrontJump (here after + long + 1 + 1 + last))) behind)))
    rest r after known is wrote =
        let other : ℕ = here after + long + 1 + 1 in
        let end : ℕ = other + last in
        let Q : ℕ → Type 0 = λ target. (target ≡ other) ⊎ (target ≡ end) in
        let jump : Step = Plain (I.FrontJumpZero r other) in
        let c : Draft = with_step jump after in
        let there = still_declared t i l n after c 1 (and_step jump after after 0 (as_it_was after)) known in
        let far = one_further jump after in
        let start = jump_ahead t is_main (λ target. P target ⊎ Q target) (λ target. back target ⊎ NoTurns target) jump other d after (if_zero r other) (omega arith) (inr (inl refl)) (also_to t is_main P Q back NoTurns d after wrote) in
        statement_then t i l m long _ W c c d _ _ (lead c there) (body c there (omega (arith, far, is)) Q NoTurns) (λ half declared at x.
        let over : Step = Plain (I.FrontJump end) in
        let b : Draft = with_step over half in
        let there' = still_declared t i l m half b 1 (and_step over half half 0 (as_it_was half)) declared in
        let further = one_further over half in
        let begun = jump_ahead t is_main (λ target. P target ⊎ Q target) (λ target. back target ⊎ NoTurns target) over end d half (always end) (omega (arith, at, far)) (inr (inr refl)) (written_on _ d c half start x) in
        subst (λ (made : Made ℕ). IsWritten W d made) (sym (same b))
        (leads_to (Declares t i l k) last _ W b b d (second b) (lead' b there') (body' b there' (omega (arith, at, far, further, is)) Q NoTurns) (λ e at' z.
        places_within t is_main P Q back NoTurns d e (both_land _ b e other end (omega (arith, at, far, further)) (omega (arith, at, far, further, at')) z) (λ target no. absurd no) (written_on _ d b e begun z))))
