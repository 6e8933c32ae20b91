-- Where `main` begins the registers of its variables are 0 already, and its parallel variables are cleared.
use Rattle.std.proofs.Common.{◌≡◌, ◌∙◌, ℕ, suc, ◌+◌, ◌&&◌, if◌then◌else◌, nat_lt, Bool, true, false, List, [], ◌∷◌, map, length, Option, Some, None, refl, sym, ap, subst, ◌⊎◌, inl, inr}
use Rattle.std.specs.Prelude.{nat_le}
use Rattle.std.specs.List.{All}
use Rattle.cstar_tree.specs.declared.typed.LocalVar.{LocalVar}
use Rattle.cstar_tree.specs.declared.typed.VarInfo.{VarInfo}
use Rattle.cstar_tree.specs.declared.typed.Variable.{Variable}
use Rattle.cstar_tree.specs.declared.typed.Variable.TheVariants as V
use Rattle.cstar_tree.specs.Variables.{variables_of}
use Rattle.code_lengths.specs.Naming.{variable_named}
use Rattle.code_lengths.specs.NamingStatements.{StandFrom}
use Rattle.code_lengths.specs.Ready.{HasDeclared, NumbersVariables}
use Rattle.code_lengths.proofs.Declaring.{first_part, info_of}
use Rattle.lower_base.specs.Drafts.{Draft, Made, Makes, then_make}
use Rattle.lower_base.specs.Layouts.{entries_of}
use Rattle.lower_stmt.specs.Variables.{all_cleared, cleared, cleared_fields, with_home}
use Rattle.paris_code.specs.Code.{CodeState}
use Rattle.source_meaning.specs.State.{State, is_among, zeroed}
use Rattle.code_follows.specs.Fragment.{IsBlockLocal, IsScalarLocal, OrAmong}
use Rattle.code_follows.proofs.Besides.{ClearsOne, LocalsClear}
use Rattle.code_follows.proofs.Declared.{clears_declare}
use Rattle.code_follows.proofs.Declaring.{begun_parallel, first_is_named, first_or_later, is_now, none_among, nothing_zeroed, others_stand, ran_fewer, same_zeroed_at, sim_fewer, sim_same, zeroed_both, zeroed_files, zeroed_twice, zeroed_others, zeroed_all, none_zeroed, other_one}
use Rattle.code_follows.proofs.Executing.{ran_from}
use Rattle.code_follows.proofs.Following.{IsScalar, Ran, Sim, keeps_all}
use Rattle.code_follows.proofs.Growing.{Extended, as_it_was, extended}
use Rattle.code_follows.proofs.Lists.{all_first, all_rest}
use Rattle.code_follows.proofs.Settings.{At, Begun, Setting, Within, begun_fewer, earlier, layout, stay}

-- one of two that are 0
either_way : (b : Bool) (z : ℕ) → z ≡ 0 → (if b then 0 else z) ≡ 0
either_way true z is = refl
either_way false z is = is

-- the variables of blocks are 0
abbrev AreZero : State → Type 0
AreZero st = (k : ℕ) → st.scalar (V.Local k) ≡ 0

zero_too : (n m : ℕ) (st : State) → AreZero st → AreZero (zeroed n m st)
unfolding zeroed is_among
zero_too n m st zeros k = either_way (nat_le n k && nat_lt k (n + m)) (st.scalar (V.Local k)) (zeros k)

-- so they are the same however many become 0
zero_anyway : (n m i j : ℕ) (st : State) → AreZero st → (y : Variable) → (zeroed n m st).scalar y ≡ (zeroed i j st).scalar y
unfolding zeroed is_among
zero_anyway n m i j st zeros (V.File k) = refl
zero_anyway n m i j st zeros (V.Param k) = refl
zero_anyway n m i j st zeros (V.Local k) = either_way (nat_le n k && nat_lt k (n + m)) (st.scalar (V.Local k)) (zeros k) ∙ sym (either_way (nat_le i k && nat_lt k (i + j)) (st.scalar (V.Local k)) (zeros k))

module _ (g : Setting) where
  -- The parallel variables of the block become 0, and are alive from then on; the scalar ones are so before.
  pub record ClearsFirst (before : Variable → Type 0) (locals : List LocalVar) (n : ℕ) (d : Draft) : Type 0 where
    pub e : Draft
    pub is : all_cleared (layout g) true locals n d ≡ Makes tt e
    pub count : ℕ
    pub grown : Extended d count e
    pub opened : Within g e → Begun g before d → Begun g (λ x. OrAmong before n (length locals) x) e
    pub runs : (s : CodeState) (st : State) → AreZero st → Begun g before d → At g s (length d.code) → Sim g before st s → Within g e → Ran g (λ x. before x ⊎ (is_among n (length locals) x ≡ true)) d s (zeroed n (length locals) st) e

  kept_so : {A : Type 0} (local : LocalVar) → IsScalarLocal local → (n : ℕ) (d : Draft) (next : Draft → Made A) → then_make (cleared (layout g) true local n d) (λ u after. next after) ≡ next d
  unfolding cleared then_make
  kept_so local plain n d next =
      ap (λ (o : Option ℕ). then_make (elim o as (λ _. Made (Unit {0})) [
        | None ↦ Makes (tt {0}) d
        | Some s ↦ cleared_fields (entries_of local.info) s local.info.elem.bits (with_home d)
      ]) (λ u after. next after)) plain

  -- the register of a scalar one is 0
  keeps_one : (before : Variable → Type 0) (local : LocalVar) (locals : List LocalVar) (n : ℕ) (d : Draft) → IsScalar g (V.Local n) local.info → before (V.Local n) → ClearsFirst before locals (n + 1) d → ClearsFirst before (local ∷ locals) n d
  unfolding all_cleared zeroed
  keeps_one before local locals n d scalar living rest = record {
    e = rest.e;
    is = kept_so local scalar.1 n d (λ after. all_cleared (layout g) true locals (n + 1) after) ∙ rest.is;
    count = rest.count;
    grown = rest.grown;
    opened = λ within free. begun_fewer g (λ x. OrAmong before (n + 1) (length locals) x) (λ x. OrAmong before n (suc (length locals)) x) rest.e (λ x h. was_alive x (first_or_later before n (length locals) x h)) (rest.opened within free);
    runs = λ s st zeros free at sim within.
        ran_fewer g (λ x. before x ⊎ (is_among (n + 1) (length locals) x ≡ true)) (λ x. before x ⊎ (is_among n (suc (length locals)) x ≡ true)) d s (zeroed (n + 1) (length locals) st) (zeroed n (suc (length locals)) st) rest.e
        (λ x h. was_alive x (first_or_later before n (length locals) x h)) (zero_anyway n (suc (length locals)) (n + 1) (length locals) st zeros) ((λ k e p. same_zeroed_at g n (suc (length locals)) (n + 1) (length locals) st k e p), (λ k is_open e p. zeroed_others n (length locals) st st (λ j f q. refl) k (other_one g n local.info scalar (λ x. before x ⊎ (is_among n (suc (length locals)) x ≡ true)) k is_open) e p)) refl refl refl refl (rest.runs s st zeros free at sim within);
  }
    where
      was_alive : (x : Variable) → (before x ⊎ (is_among (n + 1) (length locals) x ≡ true)) ⊎ (x ≡ V.Local n) → before x ⊎ (is_among (n + 1) (length locals) x ≡ true)
      was_alive x (inl h) = h
      was_alive x (inr e) = inl (subst before (sym e) living)

  -- a parallel one is cleared
  clears_it : (before : Variable → Type 0) (local : LocalVar) (locals : List LocalVar) (n : ℕ) (d : Draft) (one : ClearsOne g true local n d) → ClearsFirst (λ x. before x ⊎ (x ≡ V.Local n)) locals (n + 1) one.e → ClearsFirst before (local ∷ locals) n d
  unfolding all_cleared then_make zeroed
  clears_it before local locals n d one rest = record {
    e = rest.e;
    is = ap (λ (m : Made (Unit {0})). then_make m (λ u after. all_cleared (layout g) true locals (n + 1) after)) one.is ∙ rest.is;
    count = one.count + rest.count;
    grown = extended d one.e rest.e one.count rest.count one.grown rest.grown;
    opened = λ within free. begun_fewer g (λ x. OrAmong (λ y. before y ⊎ (y ≡ V.Local n)) (n + 1) (length locals) x) (λ x. OrAmong before n (suc (length locals)) x) rest.e (λ x h. is_now before n (length locals) x (first_or_later before n (length locals) x h))
        (rest.opened within (begun_parallel g before n d one.e one.count one.grown (one.opened (earlier g one.e rest.e rest.count rest.grown within)) free));
    runs = λ s st zeros free at sim within.
        let now : Variable → Type 0 = λ x. before x ⊎ (x ≡ V.Local n) in
        let first_within : Within g one.e = earlier g one.e rest.e rest.count rest.grown within in
        let first = one.runs before s st free at sim first_within in
        let ran = rest.runs first.t (zeroed n 1 st) (zero_too n 1 st zeros) (begun_parallel g before n d one.e one.count one.grown (one.opened first_within) free) first.at first.sim within in
        let all = ran_from g (λ x. now x ⊎ (is_among (n + 1) (length locals) x ≡ true)) d one.e one.count s first.t (zeroed (n + 1) (length locals) (zeroed n 1 st)) rest.e one.grown first.go first.keeps ran in
        ran_fewer g (λ x. now x ⊎ (is_among (n + 1) (length locals) x ≡ true)) (λ x. before x ⊎ (is_among n (suc (length locals)) x ≡ true)) d s (zeroed (n + 1) (length locals) (zeroed n 1 st)) (zeroed n (suc (length locals)) st) rest.e
        (λ x h. is_now before n (length locals) x (first_or_later before n (length locals) x h)) (zeroed_both n (length locals) st) ((λ k e p. zeroed_twice g n (suc (length locals)) (n + 1) (length locals) st k e p), (λ k is_open e p. zeroed_all n (length locals) st k e p)) refl refl refl refl all;
  }

  pub clears_first : LocalsClear g → NumbersVariables g.instance (layout g) → (before : Variable → Type 0) → ((x : Variable) (info : VarInfo) → IsScalar g x info → before x) → (locals : List LocalVar) (n : ℕ) (d : Draft) → All (IsBlockLocal g.may.beside) locals → StandFrom (variables_of g.instance.body) n (map info_of locals) → HasDeclared g.typed g.instance (layout g) n d → ClearsFirst before locals n d
  unfolding all_cleared then_make zeroed
  clears_first parallels numbers before plain [] n d isin stand known = record {
    e = d;
    is = refl;
    count = 0;
    grown = as_it_was d;
    opened = λ within free. begun_fewer g before (λ x. OrAmong before n 0 x) d nothing_more free;
    runs = λ s st zeros free at sim within. record {
      grown = (0, as_it_was d);
      t = s;
      go = stay g s;
      at = at;
      keeps = keeps_all g d s;
      sim = sim_fewer g before (λ x. before x ⊎ (is_among n 0 x ≡ true)) (zeroed n 0 st) s (λ x info named h. nothing_more x h) (sim_same g before st (zeroed n 0 st) s (nothing_zeroed g n st) ((λ k e p. zeroed_files g n 0 st k e p), (λ k is_open e p. none_zeroed g n st k e p)) refl refl refl refl sim);
    };
  }
    where
      nothing_more : (x : Variable) → before x ⊎ (is_among n 0 x ≡ true) → before x
      nothing_more x (inl h) = h
      nothing_more x (inr h) = absurd (none_among n x h)
  clears_first parallels numbers before plain (local ∷ locals) n d isin stand known =
      either (all_first (IsBlockLocal g.may.beside) local locals isin) (λ more so e known_e. clears_first parallels numbers more so locals (n + 1) e (all_rest (IsBlockLocal g.may.beside) local locals isin) (others_stand g n local.info (map info_of locals) stand) known_e)
    where
      named : variable_named g.typed g.instance (V.Local n) ≡ Some local.info
      named = first_is_named g n local.info (map info_of locals) stand

      -- it is declared behind its code
      declared : (e : Draft) → all_cleared (layout g) true (local ∷ []) n d ≡ Makes tt e → HasDeclared g.typed g.instance (layout g) (n + 1) e
      declared e is = clears_declare g true (local ∷ []) n d e is (first_part (local.info ∷ []) (map info_of locals) stand) numbers known

      either : IsBlockLocal g.may.beside local → ((more : Variable → Type 0) → ((x : Variable) (info : VarInfo) → IsScalar g x info → more x) → (e : Draft) → HasDeclared g.typed g.instance (layout g) (n + 1) e → ClearsFirst more locals (n + 1) e) → ClearsFirst before (local ∷ locals) n d
      either (inl scalar) rest = keeps_one before local locals n d (named, scalar) (plain (V.Local n) local.info (named, scalar)) (rest before plain d (declared d (kept_so local scalar n d (λ after. Makes tt after))))
      either (inr parallel) rest =
          let one = parallels true local n d parallel named numbers known in
          clears_it before local locals n d one (rest (λ x. before x ⊎ (x ≡ V.Local n)) (λ x info h. inl (plain x info h)) one.e (declared one.e (ap (λ (m : Made (Unit {0})). then_make m (λ u after. Makes (tt {0}) after)) one.is)))
