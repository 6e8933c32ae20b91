-- Parts of a run, with some turns and with more.
use Rattle.std.proofs.Common.{◌≡◌, ◌∙◌, ℕ, zero, suc, ◌+◌, ◌≤◌, Bool, true, false, List, [], ◌++◌, Option, Some, None, refl, sym, ap, subst, arith}
use Rattle.std.proofs.lemmas.List.{append-nil, append_assoc}
use Rattle.cstar_base.specs.declared.faults.RunFault.{RunFault}
use Rattle.cstar_base.specs.declared.operators.Place.{Place}
use Rattle.source_meaning.specs.State.{Ends, Fault, Gives, InputBroken, Outcome, State, Stopped, spend_turn, then_do}
use Rattle.source_meaning.specs.Values.{unless}
use Rattle.meaning_laws.specs.Turns.{Begins, with_more}

begins_itself : (bytes : List ℕ) → Begins bytes bytes
begins_itself bytes = ([], sym (append-nil bytes))

begins_on : (a b c : List ℕ) → Begins a b → Begins b c → Begins a c
begins_on a b c one two = (one.0 ++ two.0, two.1 ∙ ap (λ (x : List ℕ). x ++ two.0) one.1 ∙ append_assoc a one.0 two.0)

-- the state behind a part of a run, whether it gives something or ends the run
unfoldable pub behind : {A : Type 0} → Outcome A → State
behind (Gives x st) = st
behind (Ends early st) = st

-- a later state has no more turns, and has printed at least as much
abbrev pub Later : State → State → Type 0
Later st t = (t.turns ≤ st.turns) × Begins st.output t.output

pub later_itself : (st : State) → Later st st
later_itself st = (omega arith, begins_itself st.output)

pub later_on : (a b c : State) → Later a b → Later b c → Later a c
later_on a b c one two = (omega (arith, one.0, two.0), begins_on a.output b.output c.output one.1 two.1)

-- What comes with so many turns more: the same with these left, but where the run stopped, whose
-- output is then the beginning.
unfoldable pub GoesOn : ℕ → {A : Type 0} → Outcome A → Outcome A → Type 0
GoesOn m (Gives x t) other = other ≡ Gives x (with_more m t)
GoesOn m (Ends Stopped t) other = Begins t.output (behind other).output
GoesOn m (Ends early t) other = other ≡ Ends early (with_more m t)

-- two parts of a run, of which the second does with m more turns what the first does with at most n
pub record IsPart (m n : ℕ) {A : Type 0} (f g : State → Outcome A) : Type 0 where
  pub first : (st : State) → Later st (behind (f st))
  pub second : (st : State) → Later st (behind (g st))
  pub more : (st : State) → st.turns ≤ n → GoesOn m (f st) (g (with_more m st))

-- the same parts, written otherwise
pub same_part : (m n : ℕ) {A : Type 0} (f f' g g' : State → Outcome A) → ((st : State) → f st ≡ f' st) → ((st : State) → g st ≡ g' st) → IsPart m n f g → IsPart m n f' g'
same_part m n {A} f f' g g' one two part = record {
  first = λ st. subst (λ (o : Outcome A). Later st (behind o)) (one st) (part.first st);
  second = λ st. subst (λ (o : Outcome A). Later st (behind o)) (two st) (part.second st);
  more = λ st few. subst (λ (o : Outcome A). GoesOn m (f' st) o) (two (with_more m st)) (subst (λ (o : Outcome A). GoesOn m o (g (with_more m st))) (one st) (part.more st few));
}

-- with fewer turns
pub part_below : (m n k : ℕ) {A : Type 0} (f g : State → Outcome A) → k ≤ n → IsPart m n f g → IsPart m k f g
part_below m n k f g below part = record { first = part.first; second = part.second; more = λ st few. part.more st (omega (arith, few, below)) }

-- parts that give the same and change the state alike, without a look at the turns
pub part_gives : (m n : ℕ) {A : Type 0} (x y : State → A) (s t : State → State) → ((st : State) → y (with_more m st) ≡ x st) → ((st : State) → t (with_more m st) ≡ with_more m (s st))
    → ((st : State) → Later st (s st)) → ((st : State) → Later st (t st)) → IsPart m n (λ st. Gives (x st) (s st)) (λ st. Gives (y st) (t st))
unfolding behind GoesOn
part_gives m n x y s t one two later again = record {
  first = later;
  second = again;
  more = λ st few. ap (λ z. Gives z (t (with_more m st))) (one st) ∙ ap (λ u. Gives (x st) u) (two st);
}

-- parts that give the same and leave the state
pub part_equal : (m n : ℕ) {A : Type 0} (x y : A) → y ≡ x → IsPart m n (λ st. Gives x st) (λ st. Gives y st)
part_equal m n x y same = part_gives m n (λ st. x) (λ st. y) (λ st. st) (λ st. st) (λ st. same) (λ st. refl) later_itself later_itself

pub part_same : (m n : ℕ) {A : Type 0} (x : A) → IsPart m n (λ st. Gives x st) (λ st. Gives x st)
part_same m n x = part_equal m n x x refl

-- parts that leave no more turns and print on
abbrev pub Grows : {A : Type 0} → (State → Outcome A) → Type 0
Grows f = (st : State) → Later st (behind (f st))

pub grows_then : {A B : Type 0} (f : State → Outcome A) (h : A → State → Outcome B) → Grows f → ((x : A) → Grows (h x)) → Grows (λ st. then_do (f st) h)
unfolding behind then_do
grows_then {A} {B} f h one two st = by_first (f st) (one st)
  where
    by_first : (o : Outcome A) → Later st (behind o) → Later st (behind (then_do o h))
    by_first (Gives x t) later = later_on st t (behind (h x t)) later (two x t)
    by_first (Ends early t) later = later

spent_is : {A : Type 0} (next : State → Outcome A) (st : State) (t : ℕ) → st.turns ≡ t → spend_turn st next ≡ (elim t as (λ _. Outcome A) [ zero ↦ Ends Stopped st | suc k ↦ next (record st { turns = k }) ])
unfolding spend_turn
spent_is {A} next st t is = ap (λ (c : ℕ). elim c as (λ _. Outcome A) [ zero ↦ Ends Stopped st | suc k ↦ next (record st { turns = k }) ]) is

pub grows_spent : {A : Type 0} (f : State → Outcome A) → Grows f → Grows (λ st. spend_turn st f)
unfolding behind
grows_spent {A} f grows st = by_turns st.turns refl
  where
    by_turns : (t : ℕ) → st.turns ≡ t → Later st (behind (spend_turn st f))
    by_turns zero is = subst (λ (o : Outcome A). Later st (behind o)) (sym (spent_is f st zero is)) (later_itself st)
    by_turns (suc k) is =
        let rest = grows (record st { turns = k }) in
        subst (λ (o : Outcome A). Later st (behind o)) (sym (spent_is f st (suc k) is)) (omega (arith, is, rest.0), rest.1)

-- one part, and then another that begins with what the first gave
pub part_then : (m n : ℕ) {A B : Type 0} (f g : State → Outcome A) (h k : A → State → Outcome B) → IsPart m n f g → ((x : A) → IsPart m n (h x) (k x)) → IsPart m n (λ st. then_do (f st) h) (λ st. then_do (g st) k)
unfolding behind GoesOn then_do
part_then m n {A} {B} f g h k one two = record {
  first = grows_then f h one.first (λ x. (two x).first);
  second = grows_then g k one.second (λ x. (two x).second);
  more = λ st few. more_then st few (f st) (g (with_more m st)) (one.first st) (one.more st few);
}
  where
    printed_then : (t : State) (o : Outcome A) → Begins t.output (behind o).output → Begins t.output (behind (then_do o k)).output
    printed_then t (Gives x u) begins = begins_on t.output u.output (behind (k x u)).output begins ((two x).second u).1
    printed_then t (Ends early u) begins = begins

    more_then : (st : State) → st.turns ≤ n → (o p : Outcome A) → Later st (behind o) → GoesOn m o p → GoesOn m (then_do o h) (then_do p k)
    more_then st few (Gives x t) p later goes = subst (λ (q : Outcome A). GoesOn m (h x t) (then_do q k)) (sym goes) ((two x).more t (omega (arith, few, later.0)))
    more_then st few (Ends Stopped t) p later goes = printed_then t p goes
    more_then st few (Ends (Fault fault place position) t) p later goes = ap (λ (q : Outcome A). then_do q k) goes
    more_then st few (Ends InputBroken t) p later goes = ap (λ (q : Outcome A). then_do q k) goes

-- a part that stops, where another goes on
pub part_stops : (m n : ℕ) {A : Type 0} (g : State → Outcome A) → Grows g → IsPart m n (λ st. Ends Stopped st) g
unfolding behind GoesOn
part_stops m n g grows = record { first = later_itself; second = grows; more = λ st few. (grows (with_more m st)).1 }

-- a change of the state that has nothing to do with the turns and the output
pub record IsAside (m : ℕ) (change : State → State) : Type 0 where
  pub more : (st : State) → change (with_more m st) ≡ with_more m (change st)
  pub turns : (st : State) → (change st).turns ≡ st.turns
  pub output : (st : State) → (change st).output ≡ st.output

-- such a change, and then a part
pub part_behind : (m n : ℕ) {A : Type 0} (change : State → State) (f g : State → Outcome A) → IsAside m change → IsPart m n f g → IsPart m n (λ st. f (change st)) (λ st. g (change st))
part_behind m n {A} change f g aside part = record {
  first = λ st. later_from st (behind (f (change st))) (part.first (change st));
  second = λ st. later_from st (behind (g (change st))) (part.second (change st));
  more = λ st few. subst (λ (t : State). GoesOn m (f (change st)) (g t)) (sym (aside.more st)) (part.more (change st) (omega (arith, few, aside.turns st)));
}
  where
    later_from : (st t : State) → Later (change st) t → Later st t
    later_from st t later = (omega (arith, later.0, aside.turns st), subst (λ (bytes : List ℕ). Begins bytes t.output) (aside.output st) later.1)

-- a part, and then a value and such a change by the state before it
pub part_closed : (m n : ℕ) {A B : Type 0} (f g : State → Outcome A) (value : State → A → B) (change : State → State → State) → ((st : State) (x : A) → value (with_more m st) x ≡ value st x) → ((st : State) → IsAside m (change st))
    → ((st t : State) → change (with_more m st) t ≡ change st t) → IsPart m n f g → IsPart m n (λ st. then_do (f st) (λ x t. Gives (value st x) (change st t))) (λ st. then_do (g st) (λ x t. Gives (value st x) (change st t)))
unfolding behind GoesOn then_do
part_closed m n {A} {B} f g value change same aside again part = record {
  first = λ st. later_closed st st (f st) (part.first st);
  second = λ st. later_closed st st (g st) (part.second st);
  more = λ st few. more_closed st (f st) (g (with_more m st)) (part.more st few);
}
  where
    closed : State → A → State → Outcome B
    closed s x t = Gives (value s x) (change s t)

    later_changed : (s st t : State) → Later st t → Later st (change s t)
    later_changed s st t later = (omega (arith, later.0, (aside s).turns t), subst (λ (bytes : List ℕ). Begins st.output bytes) (sym ((aside s).output t)) later.1)

    later_closed : (s st : State) (o : Outcome A) → Later st (behind o) → Later st (behind (then_do o (λ x t. Gives (value s x) (change s t))))
    later_closed s st (Gives x t) later = later_changed s st t later
    later_closed s st (Ends early t) later = later

    printed_closed : (s t : State) (o : Outcome A) → Begins t.output (behind o).output → Begins t.output (behind (then_do o (λ x t. Gives (value s x) (change s t)))).output
    printed_closed s t (Gives x u) begins = subst (λ (bytes : List ℕ). Begins t.output bytes) (sym ((aside s).output u)) begins
    printed_closed s t (Ends early u) begins = begins

    more_closed : (st : State) (o p : Outcome A) → GoesOn m o p → GoesOn m (then_do o (λ x t. Gives (value st x) (change st t))) (then_do p (λ x t. Gives (value (with_more m st) x) (change (with_more m st) t)))
    more_closed st (Gives x t) p goes =
        ap (λ (q : Outcome A). then_do q (λ y u. Gives (value (with_more m st) y) (change (with_more m st) u))) goes
        ∙ ap (λ (y : B). Gives y (change (with_more m st) (with_more m t))) (same st x)
        ∙ ap (λ (u : State). Gives (value st x) u) (again st (with_more m t) ∙ (aside st).more t)
    more_closed st (Ends Stopped t) p goes = printed_closed (with_more m st) t p goes
    more_closed st (Ends (Fault fault place position) t) p goes = ap (λ (q : Outcome A). then_do q (λ y u. Gives (value (with_more m st) y) (change (with_more m st) u))) goes
    more_closed st (Ends InputBroken t) p goes = ap (λ (q : Outcome A). then_do q (λ y u. Gives (value (with_more m st) y) (change (with_more m st) u))) goes

-- a part that fails, or else another
pub part_unless : (m n : ℕ) {A : Type 0} (failing fails : Option (Option ℕ)) (fault : RunFault) (place : Place) (f g : State → Outcome A) → failing ≡ fails → IsPart m n f g
    → IsPart m n (λ st. unless failing fault place st (f st)) (λ st. unless fails fault place st (g st))
unfolding behind GoesOn unless
part_unless m n {A} failing fails fault place f g same part =
    subst (λ (o : Option (Option ℕ)). IsPart m n (λ st. unless failing fault place st (f st)) (λ st. unless o fault place st (g st))) same (by_failing failing)
  where
    by_failing : (o : Option (Option ℕ)) → IsPart m n (λ st. unless o fault place st (f st)) (λ st. unless o fault place st (g st))
    by_failing None = part
    by_failing (Some position) = record { first = later_itself; second = later_itself; more = λ st few. refl }

-- one part or another
pub part_either : (m n : ℕ) {A : Type 0} (b : Bool) (f g h k : State → Outcome A) → IsPart m n f g → IsPart m n h k
    → IsPart m n (λ st. elim b as (λ _. Outcome A) [ true ↦ f st | false ↦ h st ]) (λ st. elim b as (λ _. Outcome A) [ true ↦ g st | false ↦ k st ])
part_either m n true f g h k one two = one
part_either m n false f g h k one two = two

-- a turn is spent before a part
pub part_spent : (m n : ℕ) {A : Type 0} (f g : State → Outcome A) → IsPart m n f g → IsPart m (suc n) (λ st. spend_turn st f) (λ st. spend_turn st g)
unfolding behind GoesOn
part_spent m n {A} f g part = record { first = grows_spent f part.first; second = grows_spent g part.second; more = λ st few. by_turns st st.turns refl few }
  where
    by_turns : (st : State) (t : ℕ) → st.turns ≡ t → st.turns ≤ suc n → GoesOn m (spend_turn st f) (spend_turn (with_more m st) g)
    by_turns st zero is few =
        subst (λ (o : Outcome A). GoesOn m o (spend_turn (with_more m st) g)) (sym (spent_is f st zero is)) (grows_spent g part.second (with_more m st)).1
    by_turns st (suc k) is few =
        let left : st.turns + m ≡ suc (k + m) = omega (arith, is) in
        subst (λ (o : Outcome A). GoesOn m o (spend_turn (with_more m st) g)) (sym (spent_is f st (suc k) is))
        (subst (λ (o : Outcome A). GoesOn m (f (record st { turns = k })) o) (sym (spent_is g (with_more m st) (suc (k + m)) left)) (part.more (record st { turns = k }) (omega (arith, is, few))))
