-- Every beginning of a text that the open parts read has hope: its completion.
use Rattle.std.proofs.Common.{◌≡◌, ℕ, suc, ◌+◌, ◌*◌, ◌≤◌, ◌<◌, ◌^◌, true, List, [], ◌∷◌, ◌++◌, length, map, take, Option, Some, None, arith, lit≤, refl, sym, ap, subst, ◌∙◌}
use Rattle.std.proofs.lemmas.List.{append-nil, length-append, length-map, length-take, take-append-le, take-take}
use Rattle.std.specs.declared.alloc.Global.{Global}
use Rattle.cstar_base.specs.declared.operators.Place.{Place}
use Rattle.cstar_tree.specs.declared.token.Token.{Token}
use Rattle.cstar_tree.specs.declared.token.Kind.{Kind}
use Rattle.cstar_tree.specs.declared.token.Mark.{Mark}
use Rattle.cstar_tree.specs.declared.token.Mark.TheVariants as M
use Rattle.cstar_tree.specs.Positions.{Stands, token_kind, token_place}
use Rattle.cstar_tree.specs.Items.{AreItems}
use Rattle.cstar_tree.specs.Items as I
use Rattle.grammar_parts.specs.Parts.{Part, Action, take_it, enter, skip, refuse}
use Rattle.grammar_parts.specs.Parts as P
use Rattle.grammar_parts.specs.Actions.{act}
use Rattle.grammar_parts.specs.Completions.{completion, shortest, shortest_operands}
use Rattle.grammar_parts.specs.Hope.{HasHope, kinds}
use Rattle.grammar_parts.specs.Readings.{entered, kinds_from, open_behind, step, stepped}
use Rattle.grammar_parts.proofs.Filling.{Fills, both_left, both_right, kind_first, token_there}
use Rattle.grammar_parts.proofs.Fills.{fill_all}
use Rattle.grammar_parts.proofs.Meanings.{AllMean, Gives, ahead, are_mild, is_mild, joined, split}
use Rattle.grammar_parts.proofs.Reaching.{none_is, some_is}
use Rattle.grammar_parts.proofs.Sound.{sound}
use Rattle.grammar_parts.proofs.SoundTypes.{mild-append}

abbrev nowhere : Place
nowhere = record { line = 1; col = 1 }

abbrev made : Kind → Token
made kind = record { kind = kind; start = 0; end = 0; place = nowhere }

kinds_made : (ks : List Kind) → kinds (map made ks) ≡ ks
kinds_made [] = refl
kinds_made (k ∷ ks) = ap (λ (l : List Kind). k ∷ l) (kinds_made ks)

-- what an action says of the open parts behind it
fine : Global → (p : Part) (kind : Kind) → is_mild p ≡ true → Gives (made kind ∷ []) 0 16 p (act p (Some kind))
unfolding token_kind token_place
fine heap p kind mild = sound heap (made kind ∷ []) 0 kind nowhere p mild (record { kind_is = refl; place_is = refl; next_is = refl })

record Grown (s : List Part) (t : List Part) (more : ℕ) : Type 0 where
  pub mild : are_mild t ≡ true
  pub short : length t ≤ length s + more

grown_by : (s t u : List Part) (more : ℕ) → t ≡ u → Grown s t more → Grown s u more
grown_by s t u more e g = subst {0, 0} (λ (l : List Part). Grown s l more) e g

grown_in : Global → (tokens : List Token) (p q : Part) (kind : Kind) (qs behind : List Part) (b : Action) → Gives tokens 0 16 q b → length qs < 16 → are_mild (qs ++ behind) ≡ true → (t : List Part) → entered b (qs ++ behind) ≡ Some t → Grown (p ∷ behind) t 32
grown_in heap tokens p q kind qs behind (take_it n rs) g few mild t e = grown_by (p ∷ behind) (rs ++ (qs ++ behind)) t 32 (some_is e) (record { mild = mild-append rs (qs ++ behind) g.1 mild; short = let most = g.0 in omega (arith, length-append rs (qs ++ behind), length-append qs behind) })
grown_in heap tokens p q kind qs behind (enter r rs) g few mild t e = absurd (none_is e)
grown_in heap tokens p q kind qs behind skip g few mild t e = absurd (none_is e)
grown_in heap tokens p q kind qs behind refuse g few mild t e = absurd (none_is e)

grown : Global → (s : List Part) (kind : Kind) (t : List Part) → are_mild s ≡ true → step s kind ≡ Some t → Grown s t 32
unfolding step
grown heap [] kind t mild e = absurd (none_is e)
grown heap (p ∷ behind) kind t mild e = by (grown heap behind kind t (both_right (is_mild p) (are_mild behind) mild)) (act p (Some kind)) (fine heap p kind (both_left (is_mild p) (are_mild behind) mild)) e where
  by : (step behind kind ≡ Some t → Grown behind t 32) → (a : Action) → Gives (made kind ∷ []) 0 16 p a → stepped a kind behind (step behind kind) ≡ Some t → Grown (p ∷ behind) t 32
  by more (take_it n qs) g e = grown_by (p ∷ behind) (qs ++ behind) t 32 (some_is e) (record { mild = mild-append qs behind g.1 (both_right (is_mild p) (are_mild behind) mild); short = let most = g.0 in omega (arith, length-append qs behind) })
  by more (enter q qs) g e = grown_in heap (made kind ∷ []) p q kind qs behind (act q (Some kind)) (fine heap q kind (both_left (is_mild q) (are_mild qs) g.1)) g.0 (mild-append qs behind (both_right (is_mild q) (are_mild qs) g.1) (both_right (is_mild p) (are_mild behind) mild)) t e
  by more skip g e = let m = more e in record { mild = m.mild; short = let few = m.short in omega arith }
  by more refuse g e = absurd (none_is e)

grown_all : Global → (ks : List Kind) (s t : List Part) → are_mild s ≡ true → open_behind s ks ≡ Some t → Grown s t (32 * length ks)
unfolding open_behind
grown_all heap [] s t mild e = grown_by s s t 0 (some_is e) (record { mild = mild; short = omega arith })
grown_all heap (k ∷ ks) s t mild e = by (λ u. grown_all heap ks u t) (step s k) refl e where
  by : ((u : List Part) → are_mild u ≡ true → open_behind u ks ≡ Some t → Grown u t (32 * length ks)) → (o : Option (List Part)) → step s k ≡ o → elim o [ Some next ↦ open_behind next ks | None ↦ None ] ≡ Some t → Grown s t (32 * length (k ∷ ks))
  by more None h e = absurd (none_is e)
  by more (Some u) h e = let first = grown heap s k u mild h in let m = more u first.mild e in record { mild = m.mild; short = let a = first.short in let b = m.short in omega arith }

-- what stands behind a token stands before it
back_in : Global → (tokens : List Token) (at : ℕ) (kind : Kind) (q : Part) (qs behind : List Part) (b : Action) → Gives tokens at 16 q b → (t : List Part) (end : ℕ) → end ≤ 2 ^ 40 → entered b (qs ++ behind) ≡ Some t → AllMean tokens t (at + 1) end → (mid : ℕ) × AllMean tokens (q ∷ qs) at mid × AllMean tokens behind mid end
back_in heap tokens at kind q qs behind (take_it n rs) g t end below e rest =
    let first = split tokens rs (qs ++ behind) (at + 1) end (subst {0, 0} (λ (l : List Part). AllMean tokens l (at + 1) end) (sym (some_is e)) rest) in
    let forward = ahead tokens rs (at + 1) first.0 first.1 in let later = ahead tokens (qs ++ behind) first.0 end first.2 in
    let second = split tokens qs behind first.0 end first.2 in
    (second.0, joined tokens q qs at first.0 second.0 (omega arith) (g.2 first.0 (omega arith) first.1) second.1, second.2)
back_in heap tokens at kind q qs behind (enter r rs) g t end below e rest = absurd (none_is e)
back_in heap tokens at kind q qs behind skip g t end below e rest = absurd (none_is e)
back_in heap tokens at kind q qs behind refuse g t end below e rest = absurd (none_is e)

back : Global → (tokens : List Token) (at : ℕ) (kind : Kind) (place : Place) → Stands tokens at kind place (at + 1) → (s t : List Part) (end : ℕ) → are_mild s ≡ true → end ≤ 2 ^ 40 → step s kind ≡ Some t → AllMean tokens t (at + 1) end → AllMean tokens s at end
unfolding step
back heap tokens at kind place stands [] t end mild below e rest = absurd (none_is e)
back heap tokens at kind place stands (p ∷ behind) t end mild below e rest =
    by (λ h. back heap tokens at kind place stands behind t end (both_right (is_mild p) (are_mild behind) mild) below h rest) (act p (Some kind)) (sound heap tokens at kind place p (both_left (is_mild p) (are_mild behind) mild) stands) e where
      by : (step behind kind ≡ Some t → AllMean tokens behind at end) → (a : Action) → Gives tokens at 16 p a → stepped a kind behind (step behind kind) ≡ Some t → AllMean tokens (p ∷ behind) at end
      by more (take_it n qs) g e =
          let parts = split tokens qs behind (at + 1) end (subst {0, 0} (λ (l : List Part). AllMean tokens l (at + 1) end) (sym (some_is e)) rest) in
          let forward = ahead tokens qs (at + 1) parts.0 parts.1 in let later = ahead tokens behind parts.0 end parts.2 in
          joined tokens p behind at parts.0 end (omega arith) (g.2 parts.0 (omega arith) parts.1) parts.2
      by more (enter q qs) g e =
          let parts = back_in heap tokens at kind q qs behind (act q (Some kind)) (sound heap tokens at kind place q (both_left (is_mild q) (are_mild qs) g.1) stands) t end below e rest in
          let forward = ahead tokens (q ∷ qs) at parts.0 parts.1 in let later = ahead tokens behind parts.0 end parts.2 in
          joined tokens p behind at parts.0 end forward (g.2 parts.0 (omega arith) parts.1) parts.2
      by more skip g e = joined tokens p behind at at end (omega arith) g (more e)
      by more refuse g e = absurd (none_is e)

back_all : Global → (tokens : List Token) (ks rest : List Kind) (at : ℕ) (s t : List Part) (end : ℕ) → kinds_from tokens at ≡ ks ++ rest → are_mild s ≡ true → end ≤ 2 ^ 40 → open_behind s ks ≡ Some t → AllMean tokens t (at + length ks) end → AllMean tokens s at end
unfolding open_behind
back_all heap tokens [] rest at s t end from mild below e behind =
    let same : at + 0 ≡ at = omega arith in subst {0, 0} (λ (l : List Part). AllMean tokens l at end) (sym (some_is e)) (subst {0, 0} (λ (i : ℕ). AllMean tokens t i end) same behind)
back_all heap tokens (k ∷ ks) rest at s t end from mild below e behind =
    let first = kind_first tokens at k (ks ++ rest) from in let there = token_there tokens at k first.0 in
    let same : at + suc (length ks) ≡ at + 1 + length ks = omega arith in
    by (λ u m h. back_all heap tokens ks rest (at + 1) u t end first.1 m below h (subst {0, 0} (λ (i : ℕ). AllMean tokens t i end) same behind)) there.0 there.1 (step s k) refl e where
      by : ((u : List Part) → are_mild u ≡ true → open_behind u ks ≡ Some t → AllMean tokens u (at + 1) end) → (place : Place) → Stands tokens at k place (at + 1) → (o : Option (List Part)) → step s k ≡ o → elim o [ Some next ↦ open_behind next ks | None ↦ None ] ≡ Some t → AllMean tokens s at end
      by more place stands None h e = absurd (none_is e)
      by more place stands (Some u) h e = back heap tokens at k place stands s u end mild below h (more u (grown heap s k u mild h).mild e)

kinds_behind : (tokens : List Token) (ks rest : List Kind) (at : ℕ) → kinds_from tokens at ≡ ks ++ rest → kinds_from tokens (at + length ks) ≡ rest
kinds_behind tokens [] rest at e = let same : at + 0 ≡ at = omega arith in ap (kinds_from tokens) same ∙ e
kinds_behind tokens (k ∷ ks) rest at e = let same : at + suc (length ks) ≡ at + 1 + length ks = omega arith in ap (kinds_from tokens) same ∙ kinds_behind tokens ks rest (at + 1) (kind_first tokens at k (ks ++ rest) e).1

-- completions are short
short_operands : (m : Mark) → length (shortest_operands m) ≤ 14
short_operands M.Scan = lit≤ tt
short_operands other = lit≤ tt

short_part : (p : Part) → length (shortest p) ≤ 16
short_part (P.operands_of m) = let few = short_operands m in omega arith
short_part other = lit≤ tt

short_completion : (s : List Part) → length (completion s) ≤ 16 * length s
short_completion [] = lit≤ tt
short_completion (p ∷ s) = let first = short_part p in let more = short_completion s in omega (arith, length-append (shortest p) (completion s))

pub hope : Global → (tokens : List Token) (n : ℕ) (s : List Part) → n ≤ length tokens → length tokens ≤ 1048576 → open_behind (P.items ∷ []) (take n (kinds tokens)) ≡ Some s → HasHope tokens n
unfolding Fills
hope heap tokens n s within few e =
    let ks : List Kind = take n (kinds tokens) in
    let whole : List Token = map made (ks ++ completion s) in
    let count : length ks ≡ n = omega (arith, length-take n (kinds tokens), length-map tokens (λ (t : Token). t.kind)) in
    let g = grown_all heap ks (P.items ∷ []) s refl e in
    let from : kinds_from whole 0 ≡ ks ++ completion s = kinds_made (ks ++ completion s) in
    let size : length ks + length (completion s ++ []) ≡ length whole = omega (arith, length-map (ks ++ completion s) made, length-append ks (completion s), ap length (append-nil (completion s))) in
    let small : length whole ≤ 2 ^ 40 = (let short = g.short in omega (arith, size, count, short_completion s, ap length (append-nil (completion s)))) in
    let zero_is : 0 + length ks ≡ length ks = omega arith in
    let filled = fill_all heap s g.mild whole (length ks) (length whole) [] (ap (kinds_from whole) (sym zero_is) ∙ kinds_behind whole ks (completion s) 0 from ∙ sym (append-nil (completion s))) size small refl in
    let ends : filled.to ≡ length whole = (let last = filled.ends in omega arith) in
    let all = (back_all heap whole ks (completion s) 0 (P.items ∷ []) s filled.to from refl (omega arith) e (subst {0, 0} (λ (i : ℕ). AllMean whole s i filled.to) (sym zero_is) filled.meant)).1 0 [] I.no_item in
    record {
      whole = whole;
      begins = ap (take n) (kinds_made (ks ++ completion s)) ∙ take-append-le n ks (completion s) (omega arith) ∙ take-take n n (kinds tokens) (omega arith);
      items = all.0;
      spelled = subst {0, 0} (λ (i : ℕ). AreItems whole 0 all.0 i) ends all.1;
    }
