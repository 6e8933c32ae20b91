-- The instances that the calls of an expression meet, from those that its parts meet.
use Rattle.std.proofs.Common.{◌≡◌, ◌<◌, ◌+◌, ℕ, Bool, true, false, List, [], ◌∷◌, ◌++◌, append-nil, append_assoc, get_or, length, take, Option, Some, None, OnOk, Result, Ok, Err, refl, sym, ap, subst, ◌∙◌, if◌then◌else◌}
use Rattle.std.proofs.Math.Seq.{take-length}
use Rattle.cstar_base.specs.declared.operators.Place.{Place}
use Rattle.cstar_tree.specs.declared.syntax.Expr.{Expr}
use Rattle.cstar_tree.specs.declared.syntax.Name.{Name}
use Rattle.cstar_tree.specs.Calls.{Call, call_of, calls_in, calls_in_each}
use Rattle.cstar_tree.specs.Headers.{Reached}
use Rattle.cstar_tree.specs.Instances.{reached_by}
use Rattle.cstar_tree.specs.Scopes.{Here, Meaning, a_function, a_shape, a_variable, find, meaning, part}
use Rattle.cstar_tree.specs.TypedParts.{concat}
use Rattle.type_scopes.specs.Answers.{part_of}
use Rattle.type_scopes.specs.FileBindings.{names_at}
use Rattle.type_scopes.specs.Named.{IsFunctionAmong, TellsNoFunction}
use Rattle.type_scopes.specs.declared.faults.Untyped.{Untyped}
use Rattle.type_scopes.specs.declared.file.File.{File}
use Rattle.type_scopes.specs.declared.locals.Locals.{Locals}
use Rattle.type_scopes.specs.declared.sites.Site.{Site}
use Rattle.type_expressions.specs.Instances.{met, with_met}
use Rattle.type_expressions.specs.Meetings.{Meets, behind_call, meeting}
use Rattle.type_expressions.specs.declared.found.Instances.{Instances}
use Rattle.type_expressions.proofs.CalledFunctions.{called_function}
use Rattle.type_expressions.proofs.Listing.{around_dot, take_more}
use Rattle.type_expressions.proofs.NodeCalls.{calls_elsewhere}
use Rattle.type_expressions.proofs.Walking.{in_part}

-- ---- one list behind another

reached_step : (typed : Bool) (r : Reached) (all first second : List Reached) → all ≡ first ++ second → (if typed then r ∷ all else all) ≡ (if typed then r ∷ first else first) ++ second
reached_step true r all first second is = ap (λ (l : List Reached). r ∷ l) is
reached_step false r all first second is = is

reached_append : (xs ys : List Call) → reached_by (xs ++ ys) ≡ reached_by xs ++ reached_by ys
unfolding reached_by
reached_append [] ys = refl
reached_append (c ∷ cs) ys = reached_step c.typed (record { function = c.function; current = c.current }) (reached_by (cs ++ ys)) (reached_by cs) (reached_by ys) (reached_append cs ys)

meeting_append : (before xs ys : List Reached) → meeting before (xs ++ ys) ≡ meeting (meeting before xs) ys
unfolding meeting
meeting_append before [] ys = refl
meeting_append before (r ∷ rs) ys = meeting_append (with_met r before) rs ys

-- no call meets nothing
meeting_none : (before : List Reached) (calls : List Call) → calls ≡ [] → before ≡ meeting before (reached_by calls)
unfolding meeting reached_by
meeting_none before calls none = sym (ap (λ (cs : List Call). meeting before (reached_by cs)) none)

-- one call meets its instance
meeting_one : (before : List Reached) (f : ℕ) (current : Option ℕ) → meeting before (reached_by (record { function = f; current = current; typed = true } ∷ [])) ≡ with_met (record { function = f; current = current }) before
unfolding meeting reached_by
meeting_one before f current = refl

-- ---- what parts meet

pub meets_none : {old new : Instances} {file : File} {locals : Locals} {site : Site} {calls : Here → List Call} → new ≡ old → ((here : Here) → calls here ≡ []) → Meets old new file locals site calls
meets_none {old = old} {calls = calls} same none = record {
  outside = λ is. ap met same;
  inside = λ here f a there. ap met same ∙ meeting_none (met old) (calls here) (none here);
}

pub meets_as : {old new : Instances} {file : File} {locals : Locals} {site : Site} {calls others : Here → List Call} → ((here : Here) → calls here ≡ others here) → Meets old new file locals site calls → Meets old new file locals site others
meets_as {old = old} same m = record {
  outside = m.outside;
  inside = λ here f a there. m.inside here f a there ∙ ap (λ (cs : List Call). meeting (met old) (reached_by cs)) (same here);
}

pub meets_both : {first second third : Instances} {file : File} {locals : Locals} {site : Site} {calls more : Here → List Call} → Meets first second file locals site calls → Meets second third file locals site more → Meets first third file locals site (λ here. calls here ++ more here)
meets_both {first = first} {calls = calls} {more = more} m n = record {
  outside = λ is. n.outside is ∙ m.outside is;
  inside = λ here f a there.
      n.inside here f a there
      ∙ (ap (λ (before : List Reached). meeting before (reached_by (more here))) (m.inside here f a there)
      ∙ (sym (meeting_append (met first) (reached_by (calls here)) (reached_by (more here)))
      ∙ ap (meeting (met first)) (sym (reached_append (calls here) (more here)))));
}

-- where nothing was met in between
pub meets_from : {old mid new : Instances} {file : File} {locals : Locals} {site : Site} {calls : Here → List Call} → mid ≡ old → Meets mid new file locals site calls → Meets old new file locals site calls
meets_from {new = new} {file = file} {locals = locals} {site = site} {calls = calls} same m = subst (λ (k : Instances). Meets k new file locals site calls) same m

-- so it is at an answer, whatever is answered
pub at_answer : {A E P : Type 0} (r : Result A E) → P → OnOk r P
at_answer (Ok x) holds = holds
at_answer (Err e) holds = tt

-- ---- other places

pub meets_part : {old new : Instances} {file : File} {locals : Locals} {site at_part : Site} (e : Expr) → at_part ≡ record site { whole = false } → Meets old new file locals at_part (λ here. calls_in here e) → Meets old new file locals site (λ here. calls_in here e)
meets_part {old = old} {new = new} {file = file} {locals = locals} {site = site} e is m =
    let n = subst (λ (s : Site). Meets old new file locals s (λ here. calls_in here e)) is m in record {
      outside = n.outside;
      inside = λ here f a there. n.inside (part here) f (in_part a) there ∙ ap (λ (cs : List Call). meeting (met old) (reached_by cs)) (calls_elsewhere here here.dot false e);
    }

meets_dot : {old new : Instances} {file : File} {locals : Locals} {site : Site} (dot : Option ℕ) (e : Expr) → Meets old new file locals (record site { dot = dot }) (λ here. calls_in here e) → Meets old new file locals site (λ here. calls_in here e)
meets_dot {old = old} dot e m = record {
  outside = m.outside;
  inside = λ here f a there. m.inside (record here { dot = dot }) f (around_dot here dot a) there ∙ ap (λ (cs : List Call). meeting (met old) (reached_by cs)) (calls_elsewhere here dot here.whole e);
}

-- ---- lists of parts

each_pushed : (here : Here) (es : List Expr) (x : Expr) → calls_in_each here (es ++ x ∷ []) ≡ calls_in_each here es ++ calls_in here x
unfolding concat
each_pushed here [] x = append-nil (calls_in here x)
each_pushed here (e ∷ es) x = ap (λ (l : List Call). calls_in here e ++ l) (each_pushed here es x) ∙ sym (append_assoc (calls_in here e) (calls_in_each here es) (calls_in here x))

none_of_list : (here : Here) → calls_in_each here [] ≡ []
unfolding concat
none_of_list here = refl

pub none_met : {old new : Instances} {file : File} {locals : Locals} {site : Site} (items : List Expr) → new ≡ old → Meets old new file locals site (λ here. calls_in_each here (take 0 items))
none_met items same = meets_none same none_of_list

pub one_met : {first second third : Instances} {file : File} {locals : Locals} {site : Site} (items : List Expr) (k : ℕ) (x : Expr) (dot : Option ℕ) → k < length items → x ≡ get_or items k x → Meets first second file locals site (λ here. calls_in_each here (take k items)) → Meets second third file locals (record site { dot = dot }) (λ here. calls_in here x) → Meets first third file locals site (λ here. calls_in_each here (take (k + 1) items))
one_met items k x dot within is m n = meets_as (λ here. sym (ap (calls_in_each here) (take_more items k x within is) ∙ each_pushed here (take k items) x)) (meets_both m (meets_dot dot x n))

pub all_met : {old new : Instances} {file : File} {locals : Locals} {site : Site} {calls : Here → List Call} (items : List Expr) → ((here : Here) → calls here ≡ calls_in_each here items) → Meets old new file locals site (λ here. calls_in_each here (take (length items) items)) → Meets old new file locals site calls
all_met items whole m = meets_as (λ here. ap (calls_in_each here) (take-length items) ∙ sym (whole here)) m

-- ---- a call

pub call_meets : {old new : Instances} {file : File} {locals : Locals} {site : Site} (n : Name) (called : Result ℕ Untyped) (named : Option ℕ) (f : ℕ) → IsFunctionAmong (names_at file locals site.known) n called → named ≡ part_of called → named ≡ Some f → met new ≡ behind_call site.function (record { function = f; current = site.current }) (met old) → Meets old new file locals site (λ here. call_of here (meaning here n.word))
call_meets {old = old} {file = file} {locals = locals} {site = site} n called named f among settled found is = record {
  outside = λ none. is ∙ ap (λ (k : Option ℕ). behind_call k (record { function = f; current = site.current }) (met old)) none;
  inside = λ here around a there.
      is ∙ (ap (λ (k : Option ℕ). behind_call k (record { function = f; current = site.current }) (met old)) (sym a.at_site.around ∙ there)
      ∙ (ap (λ (c : Option ℕ). with_met (record { function = f; current = c }) (met old)) (sym a.at_site.current)
      ∙ (sym (meeting_one (met old) f here.current)
      ∙ ap (λ (m : Option Meaning). meeting (met old) (reached_by (call_of here m))) (sym (a.names n.word ∙ called_function (names_at file locals site.known) n called named among settled found)))));
}

uncalled : (here : Here) (m : Option Meaning) (p : Place) (u : Untyped) → TellsNoFunction m p u → call_of here m ≡ []
uncalled here None p u tells = refl
uncalled here (Some (a_shape s)) p u tells = refl
uncalled here (Some (a_function f)) p u tells = absurd tells
uncalled here (Some (a_variable v t)) p u tells = refl

-- where no function is named, a call meets nothing
pub none_called : {old new : Instances} {file : File} {locals : Locals} {site : Site} (n : Name) (called : Result ℕ Untyped) (named : Option ℕ) → IsFunctionAmong (names_at file locals site.known) n called → named ≡ part_of called → ((f : ℕ) → named ≡ Some f → ⊥) → new ≡ old → Meets old new file locals site (λ here. call_of here (meaning here n.word))
none_called n (Ok f) named among settled never same = absurd (never f settled)
none_called {old = old} {file = file} {locals = locals} {site = site} n (Err u) named among settled never same = record {
  outside = λ none. ap met same;
  inside = λ here f a there.
      let names = a.names n.word in
      ap met same ∙ meeting_none (met old) (call_of here (meaning here n.word)) (ap (call_of here) names ∙ uncalled here (find (names_at file locals site.known) n.word) n.place u among);
}
