-- Chains of calls, and marks at units.
use Rattle.std.proofs.Common.{◌≡◌, ℕ, zero, suc, ◌+◌, ◌-◌, ◌<◌, ◌≤◌, List, length, get_or, replicate, refl, sym, ap, ◌∙◌, subst, inl, inr, arith, below_more}
use Rattle.std.specs.Prelude.{Bool, true, false, not, IsTrue, Contains, ◌⊎◌, ◌↔◌}
use Rattle.std.proofs.lemmas.Bool.{false≢true, cases_lt}
use Rattle.std.proofs.lemmas.List.{get_or_past, get_or_default, get_or-replicate, length-replicate}
use Rattle.image_check.specs.declared.chains.Call.{Call}
use Rattle.image_check.specs.Calls.{Chain, AreMadeBy, AreMarks, IsBehind, IsReached, AreCalled, IsClosed, IsDeep, AreLong, KeepsCall}
use Rattle.image_check.specs.Marks.{IsMarked}

pub chain_join : (calls : List Call) (m n a b c : ℕ) → Chain calls m a b → Chain calls n b c → Chain calls (m + n) a c
chain_join calls m zero a b c first last =
    let e : m ≡ m + 0 = omega arith in
    let here : Chain calls m a c = subst (λ (u : ℕ). Chain calls m a u) last first in
    subst (λ (k : ℕ). Chain calls k a c) e here
chain_join calls m (suc n) a b c first (call, among, to, rest) =
    let e : suc (m + n) ≡ m + suc n = omega arith in
    let longer : Chain calls (suc (m + n)) a c = (call, among, to, chain_join calls m n a b call.from first rest) in
    subst (λ (k : ℕ). Chain calls k a c) e longer

pub chain_split : (calls : List Call) (m n a c : ℕ) → Chain calls (m + n) a c → (b : ℕ) × Chain calls m a b × Chain calls n b c
chain_split calls m zero a c whole =
    let e : m + 0 ≡ m = omega arith in
    (c, subst (λ (k : ℕ). Chain calls k a c) e whole, refl)
chain_split calls m (suc n) a c whole =
    let e : m + suc n ≡ suc (m + n) = omega arith in
    let last : Chain calls (suc (m + n)) a c = subst (λ (k : ℕ). Chain calls k a c) e whole in
    let rest : (b : ℕ) × Chain calls m a b × Chain calls n b last.0.from = chain_split calls m n a last.0.from last.3 in
    (rest.0, rest.1, (last.0, last.1, last.2, rest.2))

-- a chain that ends with one of the units begins with one
pub chain_inside : (units : ℕ) (calls : List Call) → AreMadeBy units calls → (n a c : ℕ) → Chain calls n a c → c < units → a < units
chain_inside units calls made zero a c same inside = omega (arith, same, inside)
chain_inside units calls made (suc n) a c (call, among, to, rest) inside =
    chain_inside units calls made n a call.from rest (made call among)

-- a unit with a mark is one of the table
pub marked_inside : (marks : List Bool) (unit : ℕ) → IsMarked marks unit → unit < length marks
marked_inside marks unit marked =
    elim (cases_lt unit (length marks)) [ inl h ↦ h | inr h ↦ absurd (false≢true (sym (get_or_past marks unit false h) ∙ marked)) ]

none_marked : (count unit : ℕ) → IsMarked (replicate count false) unit → ⊥
none_marked count unit marked =
    elim (cases_lt unit count) [
      | inl h ↦ false≢true (sym (get_or-replicate count unit false false h) ∙ marked)
      | inr h ↦ false≢true (sym (get_or_past (replicate count false) unit false (omega (arith, h, length-replicate count false))) ∙ marked)
    ]

-- a call of a unit that is reached reaches the called one
reached_more : (calls : List Call) (first : List Bool) (call : Call) → Contains calls call →
    IsReached calls first call.from → IsReached calls first call.to
reached_more calls first call among (count, (from, marked, chain)) = (suc count, (from, marked, (call, among, refl, chain)))

-- a step that marks the called unit of a call
pub spread_only : (calls : List Call) (first old new : List Bool) (call : Call) → Contains calls call →
    ((unit : ℕ) → IsMarked old unit → IsReached calls first unit) →
    ((unit : ℕ) → IsMarked new unit → IsMarked old unit ⊎ ((call.to ≡ unit) × IsMarked old call.from)) →
    (unit : ℕ) → IsMarked new unit → IsReached calls first unit
spread_only calls first old new call among before only unit marked =
    elim (only unit marked) [
      | inl h ↦ before unit h
      | inr h ↦ subst (λ (u : ℕ). IsReached calls first u) h.0 (reached_more calls first call among (before call.from h.1))
    ]

-- what is reached from units that are reached is reached
pub reached_join : (calls : List Call) (first marks : List Bool) → ((unit : ℕ) → IsMarked marks unit → IsReached calls first unit) →
    (unit : ℕ) → IsReached calls marks unit → IsReached calls first unit
reached_join calls first marks each unit (count, (from, marked, chain)) =
    let begun : IsReached calls first from = each from marked in
    (begun.0 + count, (begun.1.0, begun.1.1, chain_join calls begun.0 count begun.1.0 from unit begun.1.2 chain))

-- marks that are closed are carried along a chain
closed_along : (units : ℕ) (calls : List Call) (marks : List Bool) → AreMadeBy units calls → length marks ≡ units → IsClosed calls marks →
    (count a c : ℕ) → Chain calls count a c → IsMarked marks a → c < units → IsMarked marks c
closed_along units calls marks made size closed zero a c same marked inside = subst (λ (u : ℕ). IsMarked marks u) same marked
closed_along units calls marks made size closed (suc count) a c (call, among, to, rest) marked inside =
    let caller : IsMarked marks call.from = closed_along units calls marks made size closed count a call.from rest marked (made call among) in
    subst (λ (u : ℕ). IsMarked marks u) to (closed call among caller (omega (arith, to, inside, size)))

-- marks that spread from one unit are at those that chains of calls reach from it
pub reached_marks : (units : ℕ) (calls : List Call) (start : ℕ) (clear begun marks : List Bool) → AreMadeBy units calls → clear ≡ replicate units false →
    length marks ≡ units → (start < units → IsMarked begun start) →
    ((unit : ℕ) → IsMarked begun unit → IsMarked clear unit ⊎ (start ≡ unit)) →
    ((unit : ℕ) → IsMarked begun unit → IsMarked marks unit) → ((unit : ℕ) → IsMarked marks unit → IsReached calls begun unit) →
    IsClosed calls marks → AreMarks units marks (λ unit. (count : ℕ) × Chain calls count start unit)
reached_marks units calls start clear begun marks made empty size first alone kept only closed = (
  size,
  (λ unit inside. (
    (λ marked.
        let reached : IsReached calls begun unit = only unit marked in
        elim (alone reached.1.0 reached.1.1) [
          | inl h ↦ absurd (none_marked units reached.1.0 (subst (λ (m : List Bool). IsMarked m reached.1.0) empty h))
          | inr h ↦ (reached.0, subst (λ (u : ℕ). Chain calls reached.0 u unit) (sym h) reached.1.2)
        ]),
    (λ chain.
        closed_along units calls marks made size closed chain.0 start unit chain.1
        (kept start (first (chain_inside units calls made chain.0 start unit chain.1 inside))) inside),
  )),
)

-- the units that marked ones call lie one call further behind
pub next_behind : (units : ℕ) (calls : List Call) (start marks next : List Bool) (count : ℕ) → AreMadeBy units calls → length next ≡ units →
    AreCalled calls marks next → AreMarks units marks (IsBehind calls start count) →
    AreMarks units next (IsBehind calls start (suc count))
next_behind units calls start marks next count made size called known = (
  size,
  (λ unit inside. (
    (λ marked.
        let by : (call : Call) × Contains calls call × (call.to ≡ unit) × IsMarked marks call.from = called.only unit marked in
        let behind : IsBehind calls start count by.0.from = (known.1 by.0.from (made by.0 by.1)).0 by.3 in
        (behind.0, behind.1, (by.0, by.1, by.2, behind.2))),
    (λ behind.
        let call : Call = behind.2.0 in
        let caller : IsMarked marks call.from = (known.1 call.from (made call behind.2.1)).1 (behind.0, behind.1, behind.2.3) in
        subst (λ (u : ℕ). IsMarked next u) behind.2.2 (called.all call behind.2.1 caller (omega (arith, behind.2.2, inside, size)))),
  )),
)

-- marks that call themselves lie behind by any more calls
pub stable_behind : (units : ℕ) (calls : List Call) (start marks : List Bool) (count : ℕ) → AreMadeBy units calls → AreCalled calls marks marks →
    AreMarks units marks (IsBehind calls start count) → (more : ℕ) → AreMarks units marks (IsBehind calls start (count + more))
stable_behind units calls start marks count made called known zero =
    let e : count ≡ count + 0 = omega arith in
    subst (λ (k : ℕ). AreMarks units marks (IsBehind calls start k)) e known
stable_behind units calls start marks count made called known (suc more) =
    let e : suc (count + more) ≡ count + suc more = omega arith in
    let before : AreMarks units marks (IsBehind calls start (count + more)) = stable_behind units calls start marks count made called known more in
    subst (λ (k : ℕ). AreMarks units marks (IsBehind calls start k)) e
    (next_behind units calls start marks marks (count + more) made before.0 called before)

-- one more round of calls; the view is of the marks
pub rounds_more : (units : ℕ) (calls : List Call) (start marks view next : List Bool) (count : ℕ) → AreMadeBy units calls → view ≡ marks →
    (length next ≡ length view) × AreCalled calls view next → AreMarks units marks (IsBehind calls start count) →
    AreMarks units next (IsBehind calls start (count + 1))
rounds_more units calls start marks view next count made seen stepped known =
    let size : length view ≡ length marks = ap (λ (m : List Bool). length m) seen in
    let called : AreCalled calls marks next = subst (λ (m : List Bool). AreCalled calls m next) seen stepped.1 in
    let e : suc count ≡ count + 1 = omega arith in
    subst (λ (k : ℕ). AreMarks units next (IsBehind calls start k)) e
    (next_behind units calls start marks next count made (omega (arith, stepped.0, size, known.0)) called known)

-- a round that changes nothing is the last one
pub rounds_done : (units : ℕ) (calls : List Call) (start marks view next : List Bool) (count rounds : ℕ) → AreMadeBy units calls → view ≡ marks →
    AreCalled calls view next → next ≡ marks → count ≤ rounds → AreMarks units marks (IsBehind calls start count) →
    AreMarks units marks (IsBehind calls start rounds)
rounds_done units calls start marks view next count rounds made seen stepped same before known =
    let called : AreCalled calls marks next = subst (λ (m : List Bool). AreCalled calls m next) seen stepped in
    let still : AreCalled calls marks marks = subst (λ (m : List Bool). AreCalled calls marks m) same called in
    let e : count + (rounds - count) ≡ rounds = omega arith in
    subst (λ (k : ℕ). AreMarks units marks (IsBehind calls start k)) e
    (stable_behind units calls start marks count made still known (rounds - count))

-- the units behind those that unit 0 reaches
pub deep_marks : (units depth : ℕ) (calls : List Call) (reached marks : List Bool) → AreMadeBy units calls →
    AreMarks units reached (λ unit. (count : ℕ) × Chain calls count 0 unit) →
    AreMarks (length reached) marks (IsBehind calls reached depth) → AreMarks units marks (IsDeep calls depth)
deep_marks units depth calls reached marks made begun behind = (
  omega (arith, begun.0, behind.0),
  (λ unit inside.
      let there : unit < length reached = omega (arith, inside, begun.0) in (
        (λ marked.
            let from : IsBehind calls reached depth unit = (behind.1 unit there).0 marked in
            let within : from.0 < units = omega (arith, marked_inside reached from.0 from.1, begun.0) in
            let first : (count : ℕ) × Chain calls count 0 from.0 = (begun.1 from.0 within).0 from.1 in
            (first.0 + depth, omega arith, chain_join calls first.0 depth 0 from.0 unit first.1 from.2)),
        (λ deep.
            let e : deep.0 ≡ (deep.0 - depth) + depth = omega (arith, deep.1) in
            let whole : Chain calls ((deep.0 - depth) + depth) 0 unit = subst (λ (k : ℕ). Chain calls k 0 unit) e deep.2 in
            let parts : (b : ℕ) × Chain calls (deep.0 - depth) 0 b × Chain calls depth b unit = chain_split calls (deep.0 - depth) depth 0 unit whole in
            let within : parts.0 < units = chain_inside units calls made depth parts.0 unit parts.2 inside in
            (behind.1 unit there).1 (parts.0, (begun.1 parts.0 within).1 (deep.0 - depth, parts.1), parts.2)),
      )),
)

-- a cycle gives chains of any length
pump : (calls : List Call) (count unit : ℕ) → Chain calls (suc count) unit unit → (least : ℕ) → (many : ℕ) × (least ≤ many) × Chain calls many unit unit
pump calls count unit whole zero = (0, omega arith, refl)
pump calls count unit whole (suc least) =
    let before : (many : ℕ) × (least ≤ many) × Chain calls many unit unit = pump calls count unit whole least in
    (before.0 + suc count, omega (arith, before.1), chain_join calls before.0 (suc count) unit unit unit before.2 whole)

-- the units that end a chain of as many calls as there are units
pub long_marks : (units : ℕ) (calls : List Call) (all marks : List Bool) → AreMadeBy units calls → all ≡ replicate units true →
    AreMarks (length all) marks (IsBehind calls all units) → AreLong units calls marks
long_marks units calls all marks made full behind unit count inside whole =
    let size : length all ≡ units = ap (λ (m : List Bool). length m) full ∙ length-replicate units true in
    let cycle : (many : ℕ) × (units ≤ many) × Chain calls many unit unit = pump calls count unit whole units in
    let e : cycle.0 ≡ (cycle.0 - units) + units = omega (arith, cycle.1) in
    let last : Chain calls ((cycle.0 - units) + units) unit unit = subst (λ (k : ℕ). Chain calls k unit unit) e cycle.2 in
    let parts : (b : ℕ) × Chain calls (cycle.0 - units) unit b × Chain calls units b unit = chain_split calls (cycle.0 - units) units unit unit last in
    let within : parts.0 < units = chain_inside units calls made units parts.0 unit parts.2 inside in
    let first : IsMarked all parts.0 =
    subst (λ (m : List Bool). IsMarked m parts.0) (sym full) (get_or-replicate units parts.0 true false within) in
    (behind.1 unit (omega (arith, inside, size))).1 (parts.0, first, parts.2)

-- a call of a unit that is on no cycle is on none
pub not_long : (units : ℕ) (calls : List Call) (marks : List Bool) (call : Call) → AreMadeBy units calls → AreLong units calls marks →
    Contains calls call → ¬ IsMarked marks call.to → ((count : ℕ) × Chain calls count call.to call.from) → ⊥
not_long units calls marks call made long among clear (count, chain) =
    let inside : call.to < units = chain_inside units calls made count call.to call.from chain (made call among) in
    clear (long call.to count inside (call, among, refl, chain))

-- a call behind a unit that is too deep
pub not_deep : (calls : List Call) (depth : ℕ) (call : Call) → IsDeep calls depth call.from → KeepsCall calls depth call → ⊥
not_deep calls depth call deep keeps = let below : deep.0 < depth = keeps.1 deep.0 deep.2 in omega (arith, below, deep.1)

pub keeps_call : (calls : List Call) (depth : ℕ) (call : Call) → ¬ IsDeep calls depth call.from →
    ¬ ((count : ℕ) × Chain calls count call.to call.from) → KeepsCall calls depth call
keeps_call calls depth call shallow none = (
  (λ count chain. none (count, chain)),
  (λ count chain. elim (cases_lt count depth) [ inl h ↦ h | inr h ↦ absurd (shallow (count, h, chain)) ]),
)

-- what a mark tells of a cycle; the views are of the calls and of the marks
pub cycle_told : (units : ℕ) (calls view : List Call) (below seen : List Bool) (call : Call) (told : Bool) → view ≡ calls → seen ≡ below →
    call.from < units → AreMarks units below (λ unit. (count : ℕ) × Chain view count call.to unit) →
    (IsTrue told ↔ IsMarked seen call.from) → IsTrue told ↔ ((count : ℕ) × Chain calls count call.to call.from)
cycle_told units calls view below seen call told viewed looked inside known tells =
    let Reached : List Call → Type 0 = λ cs. (count : ℕ) × Chain cs count call.to call.from in
    let Has : List Bool → Type 0 = λ ms. IsMarked ms call.from in (
      (λ marked. subst Reached viewed ((known.1 call.from inside).0 (subst Has looked (tells.0 marked)))),
      (λ cycle. tells.1 (subst Has (sym looked) ((known.1 call.from inside).1 (subst Reached (sym viewed) cycle)))),
    )

pub keeps_told : (calls : List Call) (depth : ℕ) (call : Call) (cyclic : Bool) → ¬ IsDeep calls depth call.from →
    (IsTrue cyclic ↔ ((count : ℕ) × Chain calls count call.to call.from)) → IsTrue (not cyclic) ↔ KeepsCall calls depth call
keeps_told calls depth call true shallow told = (
  (λ t. absurd (false≢true t)),
  (λ keeps. let cycle : (count : ℕ) × Chain calls count call.to call.from = told.0 refl in absurd (keeps.0 cycle.0 cycle.1)),
)
keeps_told calls depth call false shallow told =
    ((λ t. keeps_call calls depth call shallow (λ cycle. false≢true (told.1 cycle))), (λ keeps. refl))

-- the marks are closed under the first so many calls
abbrev pub IsClosedTo : List Call → List Bool → ℕ → Type 0
IsClosedTo calls marks end =
    (k : ℕ) → k < end → (d : Call) → IsMarked marks (get_or calls k d).from → (get_or calls k d).to < length marks → IsMarked marks (get_or calls k d).to

pub closed_more : (calls : List Call) (old new : List Bool) (index : ℕ) (e : Call) → index < length calls → new ≡ old →
    (IsMarked old (get_or calls index e).from → (get_or calls index e).to < length old → IsMarked old (get_or calls index e).to) →
    IsClosedTo calls old index → IsClosedTo calls new (index + 1)
closed_more calls old new index e inside same here before =
    let P : ℕ → Type 0 = λ k. (d : Call) → IsMarked old (get_or calls k d).from → (get_or calls k d).to < length old → IsMarked old (get_or calls k d).to in
    let Q : Call → Type 0 = λ call. IsMarked old call.from → call.to < length old → IsMarked old call.to in
    subst (λ (marks : List Bool). IsClosedTo calls marks (index + 1)) (sym same)
    (below_more P index before (λ d. subst Q (get_or_default calls index e d inside) here))
