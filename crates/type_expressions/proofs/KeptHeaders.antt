-- The headers that are kept, and how the instances grow where one more is typed, or one more met.
use Rattle.std.proofs.Common.{◌≡◌, ◌==◌, ◌&&◌, ◌++◌, cond, Bool, true, false, List, [], ◌∷◌, Option, Some, None, refl, sym, subst, ◌∙◌, true≢false}
use Rattle.std.specs.List.{All}
use Rattle.std.specs.Map.{lookup}
use Rattle.std.specs.Option.{is_some, option_eq}
use Rattle.std.proofs.lemmas.Bool.{eqb-true}
use Rattle.std.proofs.lemmas.List.Elements.{All-head, All-pop, All-push, All-tail}
use Rattle.indexmap.proofs.CallerLemmas.{insert_entry-new}
use Rattle.indexmap.specs.IndexMap.{insert_entry}
use Rattle.cstar_tree.specs.Headers as H
use Rattle.type_scopes.specs.declared.file.File.{File}
use Rattle.type_scopes.specs.declared.headers.Header.{Header}
use Rattle.type_scopes.specs.declared.headers.Reached.{Reached}
use Rattle.type_scopes.proofs.FileLemmas.{same_number}
use Rattle.type_expressions.specs.Instances.{AreHeaders, Grows, IsBeginning, IsHeaderOf, is_same, kept_header, met, with_met}
use Rattle.type_expressions.specs.declared.found.Instances.{Instances}
use Rattle.type_expressions.proofs.CallsWithin.{beginning_both, beginning_same, begins_met}

same_instance : (r k : Reached) (functions : Bool) → (r.function == k.function) ≡ functions → (functions && option_eq ◌==◌ r.current k.current) ≡ true → k ≡ r
same_instance r k true is same =
    let currents = (same_number r.current k.current (option_eq ◌==◌ r.current k.current) refl).0 same in
    rw (eqb-true r.function k.function is, currents) refl
same_instance r k false is same = absurd (true≢false (sym same))

found_header : (file : File) (r : Reached) (header : Header) (kept : List (Reached × Header)) → All (λ (e : Reached × Header). IsHeaderOf file e.0 e.1) kept → lookup (is_same r) kept ≡ Some header → IsHeaderOf file r header
found_header file r header [] all is = absurd (cc)
found_header file r header (e ∷ es) all is = by (is_same r e.0) refl is (found_header file r header es (All-tail (λ (e : Reached × Header). IsHeaderOf file e.0 e.1) e es all))
  where
    by : (b : Bool) → is_same r e.0 ≡ b → cond b (Some e.1) (lookup (is_same r) es) ≡ Some header → (lookup (is_same r) es ≡ Some header → IsHeaderOf file r header) → IsHeaderOf file r header
    by true same found rest =
        let own : IsHeaderOf file e.0 e.1 = All-head (λ (e : Reached × Header). IsHeaderOf file e.0 e.1) e es all in
        let here = subst (λ (k : Reached). IsHeaderOf file k e.1) (same_instance r e.0 (r.function == e.0.function) refl same) own in
        subst (λ (h : Header). IsHeaderOf file r h) (let k : e.1 ≡ header = cc in k) here
    by false same found rest = rest found

-- a header that is kept is that of the file, where all are
pub kept_of_file : (file : File) (instances : Instances) (r : Reached) (header : Header) → AreHeaders file instances → kept_header instances r ≡ Some header → IsHeaderOf file r header
kept_of_file file instances r header all is = found_header file r header instances.headers.entries all is

no_header : (kept : Option Header) → is_some kept ≡ false → kept ≡ None
no_header None is = refl
no_header (Some header) is = absurd (true≢false is)

-- one more header is typed
pub grows_by_header : (file : File) (old new : Instances) (r : Reached) (header : Header) → is_some (kept_header old r) ≡ false → new.headers.entries ≡ insert_entry is_same old.headers.entries r header → met new ≡ met old → IsHeaderOf file r header → Grows file old new
grows_by_header file old new r header none entries same head =
    let more : new.headers.entries ≡ old.headers.entries ++ (r, header) ∷ [] = entries ∙ insert_entry-new is_same old.headers r header (no_header (kept_header old r) none) in
    let are : Reached × Header → Type 0 = λ (e : Reached × Header). IsHeaderOf file e.0 e.1 in record {
      begins = beginning_same same;
      headers = (λ all. subst (All are) (sym more) (All-push are old.headers.entries (r, header) all head), λ all. (All-pop are new.headers.entries old.headers.entries (Some (r, header)) more all).0);
    }

-- one more instance is met
pub grows_by_instance : (file : File) (old prepared new : Instances) (r : H.Reached) → Grows file old prepared → new.headers ≡ prepared.headers → met new ≡ with_met r (met prepared) → Grows file old new
grows_by_instance file old prepared new r grows headers is = record {
  begins = beginning_both grows.begins (subst (IsBeginning (met prepared)) (sym is) (begins_met r (met prepared)));
  headers = (λ all. rw headers (grows.headers.0 all), λ all. grows.headers.1 (rw headers at all));
}
