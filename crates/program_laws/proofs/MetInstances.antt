-- The instances that are met from one on: those of the rounds, and those of a walk over what was met.
use Rattle.std.proofs.Common.{◌≡◌, ◌≤◌, ◌-◌, ◌+◌, ℕ, zero, suc, List, [], ◌∷◌, ◌++◌, append_assoc, append-nil, drop, length, length-append, map, take, Option, Some, None, Bool, true, false, if◌then◌else◌, arith, refl, sym, ap, subst, ◌∙◌}
use Rattle.std.specs.List.{slice_get}
use Rattle.std.proofs.lemmas.List.{take-append-drop, take-append-le}
use Rattle.std.proofs.lemmas.Option.{same_Some, slice_get_past, slice_get_within}
use Rattle.cstar_tree.specs.Headers.{Placed, Reached}
use Rattle.cstar_tree.specs.Instances.{after_rounds, first_met, is_met, next_round}
use Rattle.cstar_tree.specs.Instances as I
use Rattle.cstar_tree.specs.TypedParts.{concat}
use Rattle.type_expressions.specs.Instances.{IsBeginning, with_met}
use Rattle.type_expressions.specs.Meetings.{meeting}
use Rattle.type_expressions.proofs.CallsWithin.{beginning_both, beginning_same, begins_met}
use Rattle.program_laws.proofs.Lists.{concat_both}
use Rattle.program_laws.specs.MetInstances.{MetInstancesAreThePrograms, called_by, met_behind, with_called}

-- ---- what is met in a list

-- of those before, only which they are counts
same_first_met : (a b rs : List Reached) → ((x : Reached) → is_met x a ≡ is_met x b) → first_met a rs ≡ first_met b rs
unfolding first_met is_met
same_first_met a b [] alike = refl
same_first_met a b (r ∷ rest) alike =
    ap (λ (c : Bool). if c then first_met a rest else r ∷ first_met (r ∷ a) rest) (alike r)
    ∙ ap (λ (fs : List Reached). if is_met r b then fs else r ∷ first_met (r ∷ a) rest) (same_first_met a b rest alike)
    ∙ ap (λ (fs : List Reached). if is_met r b then first_met b rest else r ∷ fs) (same_first_met (r ∷ a) (r ∷ b) rest (λ x. ap (λ (c : Bool). if I.same r x then true else c) (alike x)))

either_way : (a b c : Bool) → (if a then true else if b then true else c) ≡ (if b then true else if a then true else c)
either_way true true c = refl
either_way true false c = refl
either_way false true c = refl
either_way false false c = refl

met_last : (x r : Reached) (before : List Reached) → is_met x (before ++ r ∷ []) ≡ is_met x (r ∷ before)
unfolding is_met
met_last x r [] = refl
met_last x r (y ∷ ys) = ap (λ (c : Bool). if I.same y x then true else c) (met_last x r ys) ∙ either_way (I.same y x) (I.same r x) (is_met x ys)

-- a list that is met behind another is its own first instances behind that
one_met : (before rest : List Reached) (r : Reached) (c : Bool) → meeting before rest ≡ before ++ first_met before rest → meeting (before ++ r ∷ []) rest ≡ (before ++ r ∷ []) ++ first_met (before ++ r ∷ []) rest
    → meeting (if c then before else before ++ r ∷ []) rest ≡ before ++ (if c then first_met before rest else r ∷ first_met (r ∷ before) rest)
one_met before rest r true known new = known
one_met before rest r false known new =
    new
    ∙ append_assoc before (r ∷ []) (first_met (before ++ r ∷ []) rest)
    ∙ ap (λ (fs : List Reached). before ++ r ∷ fs) (same_first_met (before ++ r ∷ []) (r ∷ before) rest (λ x. met_last x r before))

meeting_is : (before rs : List Reached) → meeting before rs ≡ before ++ first_met before rs
unfolding meeting first_met
meeting_is before [] = sym (append-nil before)
meeting_is before (r ∷ rest) = one_met before rest r (is_met r before) (meeting_is before rest) (meeting_is (before ++ r ∷ []) rest)

meeting_both : (before xs ys : List Reached) → meeting before (xs ++ ys) ≡ meeting (meeting before xs) ys
unfolding meeting
meeting_both before [] ys = refl
meeting_both before (x ∷ xs) ys = meeting_both (with_met x before) xs ys

meeting_begins : (before rs : List Reached) → IsBeginning before (meeting before rs)
unfolding meeting
meeting_begins before [] = beginning_same refl
meeting_begins before (r ∷ rest) = beginning_both (begins_met r before) (meeting_begins (with_met r before) rest)

-- ---- one and all that those of a list call

abbrev with_all_called : (Reached → List Reached) → Reached → List Reached → List Reached
with_all_called called main list = meeting (main ∷ []) (concat (map called list))

called_both : (called : Reached → List Reached) (main : Reached) (xs ys : List Reached) → with_all_called called main (xs ++ ys) ≡ meeting (with_all_called called main xs) (concat (map called ys))
called_both called main xs ys = ap (meeting (main ∷ [])) (concat_both called xs ys) ∙ meeting_both (main ∷ []) (concat (map called xs)) (concat (map called ys))

called_one : (called : Reached → List Reached) (main : Reached) (xs : List Reached) (r : Reached) → with_all_called called main (xs ++ r ∷ []) ≡ meeting (with_all_called called main xs) (called r)
unfolding concat
called_one called main xs r = called_both called main xs (r ∷ []) ∙ ap (meeting (with_all_called called main xs)) (append-nil (called r))

called_begins : (called : Reached → List Reached) (main : Reached) (xs ys : List Reached) → IsBeginning xs ys → IsBeginning (with_all_called called main xs) (with_all_called called main ys)
called_begins called main xs ys b =
    subst (IsBeginning (with_all_called called main xs)) (sym (ap (with_all_called called main) b.whole ∙ called_both called main xs b.rest))
    (meeting_begins (with_all_called called main xs) (concat (map called b.rest)))

-- a round
round_is : (shapes : List (List ℕ)) (functions : List Placed) (main : Reached) (list : List Reached) → next_round shapes functions main list ≡ with_all_called (called_by shapes functions) main list
unfolding next_round first_met is_met
round_is shapes functions main list = sym (meeting_is (main ∷ []) (concat (map (called_by shapes functions) list)))

-- ---- the walk

one_more : (xs : List Reached) (n : ℕ) (x : Reached) → slice_get xs n ≡ Some x → take (suc n) xs ≡ take n xs ++ x ∷ []
one_more [] n x is = cc
one_more (y ∷ ys) zero x is = ap (λ (z : Reached). z ∷ []) (same_Some y x is)
one_more (y ∷ ys) (suc n) x is = ap (λ (zs : List Reached). y ∷ zs) (one_more ys n x is)

none_more : (xs : List Reached) (n : ℕ) → slice_get xs n ≡ None → take n xs ≡ xs
none_more [] zero is = refl
none_more [] (suc n) is = refl
none_more (y ∷ ys) zero is = absurd (cc)
none_more (y ∷ ys) (suc n) is = ap (λ (zs : List Reached). y ∷ zs) (none_more ys n is)

none_behind : (xs : List Reached) (n : ℕ) → slice_get xs n ≡ None → length xs ≤ n
none_behind [] n is = omega arith
none_behind (y ∷ ys) zero is = absurd (cc)
none_behind (y ∷ ys) (suc n) is = let less = none_behind ys n is in omega arith

-- one step of the walk: what was walked over is a part of the list that stays, and the list is met by it
record IsWalked (called : Reached → List Reached) (main : Reached) (n : ℕ) (list next : List Reached) : Type 0 where
  pub met : next ≡ with_all_called called main (take (suc n) list)
  pub stays : take (suc n) next ≡ take (suc n) list

step : (called : Reached → List Reached) (main : Reached) (n : ℕ) (list : List Reached) (at : Option Reached) → slice_get list n ≡ at → list ≡ with_all_called called main (take n list) → IsWalked called main n list (with_called called list at)
step called main n list None none met =
    let behind = none_behind list n none in
    let past : slice_get list (suc n) ≡ None = slice_get_past list (suc n) (omega (arith, behind)) in
    record {
      met = met ∙ ap (with_all_called called main) (none_more list n none ∙ sym (none_more list (suc n) past));
      stays = refl;
    }
step called main n list (Some r) is met =
    let less = slice_get_within list n r is in
    let longer = meeting_begins list (called r) in
    record {
      met =
          ap (λ (l : List Reached). meeting l (called r)) met
          ∙ sym (called_one called main (take n list) r)
          ∙ ap (with_all_called called main) (sym (one_more list n r is));
      stays = ap (take (suc n)) longer.whole ∙ take-append-le (suc n) list longer.rest less;
    }

walked : (called : Reached → List Reached) (main : Reached) (n : ℕ) → met_behind called main n ≡ with_all_called called main (take n (met_behind called main n))
unfolding met_behind meeting concat
walked called main zero = refl
walked called main (suc n) =
    let list = met_behind called main n in
    let s = step called main n list (slice_get list n) refl (walked called main n) in
    s.met ∙ ap (with_all_called called main) (sym s.stays)

next_walked : (called : Reached → List Reached) (main : Reached) (n : ℕ) → IsWalked called main n (met_behind called main n) (met_behind called main (suc n))
unfolding met_behind
next_walked called main n = step called main n (met_behind called main n) (slice_get (met_behind called main n) n) refl (walked called main n)

-- where none is left the walk stays
ended : (called : Reached → List Reached) (main : Reached) (n more : ℕ) → slice_get (met_behind called main n) n ≡ None → met_behind called main (more + n) ≡ met_behind called main n
unfolding met_behind
ended called main n zero none = ap (met_behind called main) (let e : zero + n ≡ n = omega arith in e)
ended called main n (suc more) none =
    let list = met_behind called main n in
    let before = ended called main n more none in
    let less = none_behind list n none in
    let past : slice_get list (more + n) ≡ None = slice_get_past list (more + n) (omega (arith, less)) in
    let number : suc more + n ≡ suc (more + n) = omega arith in
    ap (met_behind called main) number
    ∙ ap (λ (l : List Reached). with_called called l (slice_get l (more + n))) before
    ∙ ap (with_called called list) past

-- ---- rounds and walk

first_so_many : (n : ℕ) (list : List Reached) → IsBeginning (take n list) list
first_so_many n list = record { rest = drop n list; whole = sym (take-append-drop n list) }

-- as many rounds meet what a walk over so many does
rounds_meet : (shapes : List (List ℕ)) (functions : List Placed) (main : Reached) (n : ℕ) → IsBeginning (met_behind (called_by shapes functions) main n) (after_rounds n shapes functions main)
unfolding met_behind after_rounds
rounds_meet shapes functions main zero = beginning_same refl
rounds_meet shapes functions main (suc n) =
    let called = called_by shapes functions in
    let list = met_behind called main n in
    let rounds = after_rounds n shapes functions main in
    subst (λ (l : List Reached). IsBeginning l (after_rounds (suc n) shapes functions main)) (sym (next_walked called main n).met)
    (subst (IsBeginning (with_all_called called main (take (suc n) list))) (sym (round_is shapes functions main rounds))
    (called_begins called main (take (suc n) list) rounds (beginning_both (first_so_many (suc n) list) (rounds_meet shapes functions main n))))

-- no round meets one that is not met where the walk has ended
rounds_within : (shapes : List (List ℕ)) (functions : List Placed) (main : Reached) (all : List Reached) → all ≡ with_all_called (called_by shapes functions) main all → (n : ℕ) → IsBeginning (after_rounds n shapes functions main) all
unfolding after_rounds
rounds_within shapes functions main all closed zero = subst (IsBeginning (main ∷ [])) (sym closed) (meeting_begins (main ∷ []) (concat (map (called_by shapes functions) all)))
rounds_within shapes functions main all closed (suc n) =
    let called = called_by shapes functions in
    let rounds = after_rounds n shapes functions main in
    subst (λ (l : List Reached). IsBeginning l all) (sym (round_is shapes functions main rounds))
    (subst (IsBeginning (with_all_called called main rounds)) (sym closed) (called_begins called main rounds all (rounds_within shapes functions main all closed n)))

no_rest : (xs rest more : List Reached) → xs ≡ (xs ++ rest) ++ more → rest ≡ []
no_rest xs [] more is = refl
no_rest xs (r ∷ rest) more is =
    let longer : length xs ≡ length ((xs ++ r ∷ rest) ++ more) = ap length is in
    absurd (omega (arith, longer, length-append (xs ++ r ∷ rest) more, length-append xs (r ∷ rest)))

pub met_are_the_programs : MetInstancesAreThePrograms
met_are_the_programs shapes functions main n rounds less none =
    let called = called_by shapes functions in
    let all = met_behind called main n in
    let number : rounds ≡ (rounds - n) + n = omega (arith, less) in
    let closed = walked called main n ∙ ap (with_all_called called main) (none_more all n none) in
    let within = rounds_within shapes functions main all closed rounds in
    let meet = subst (λ (l : List Reached). IsBeginning l (after_rounds rounds shapes functions main)) (ap (met_behind called main) number ∙ ended called main n (rounds - n) none) (rounds_meet shapes functions main rounds) in
    let no_more = no_rest all meet.rest within.rest (within.whole ∙ ap (λ (l : List Reached). l ++ within.rest) meet.whole) in
    meet.whole ∙ ap (λ (l : List Reached). all ++ l) no_more ∙ append-nil all
