-- Running folds over the words of a block.
use Rattle.std.proofs.Common.{◌≡◌, ℕ, zero, suc, ◌+◌, ◌-◌, ◌%◌, ◌^◌, ◌<◌, ◌≤◌, min, max, Bool, true, false, cond, eqb, List, length, get_or, inl, inr, refl, sym, ◌∙◌, ap, zero-add, add-one, arith}
use Rattle.std.specs.Prelude.{◌||◌, not}
use Rattle.std.specs.Int.{bit_at}
use Rattle.std.proofs.Math.ListN.{set, length-set}
use Rattle.std.proofs.Math.Nat.{mod-eq_of_lt}
use Rattle.std.proofs.lemmas.Bool.{cases_eq, eq-eqb, ne_eqb}
use Rattle.std.proofs.lemmas.List.{get_or-set_same, get_or-set_other}
use Rattle.cstar_base.specs.declared.operators.Inclusion.{Inclusion}
use Rattle.cstar_base.specs.declared.operators.Inclusion.TheVariants as N
use Rattle.cstar_base.specs.Orders.{fold_below, any_of}
use Rattle.bit_planes.specs.declared.plane.Plane.{Plane}
use Rattle.bit_planes.specs.Bits.{bit}
use Rattle.bit_planes.specs.Planes.{plane_at, number}
use Rattle.bit_planes.proofs.Planes.{number-same, number_is, plane-set_same, plane-set_other}
use Rattle.bit_planes.proofs.Words.{bit-lt}
use Rattle.lane_kernels.specs.Numbers.{ones_before}
use Rattle.paris_code.specs.declared.operands.Reduction.{Reduction}
use Rattle.paris_code.specs.Scanning.{with_own}
use Rattle.reduce_scan.specs.declared.words.Run.{Run}
use Rattle.reduce_scan.specs.Running.{running}
use Rattle.reduce_scan.specs.WithinBlocks.{run_to, run_word}
use Rattle.reduce_scan.proofs.Parts.{once, none, none_last}
use Rattle.reduce_scan.proofs.Scans.{running_fits}

-- the bit that a mask chooses
pub chosen_bit : (m a b : ℕ) → m < 2 → a < 2 → b < 2 → max (min m a) (min (1 - m) b) ≡ cond (eqb m 1) a b
chosen_bit zero a b h p q = omega arith
chosen_bit (suc zero) a b h p q = omega arith
chosen_bit (suc (suc m)) a b h p q = absurd (omega arith)

pub digit_is : (d : ℕ) → d < 2 → cond (eqb d 1) 1 0 ≡ d
digit_is zero h = refl
digit_is (suc zero) h = refl
digit_is (suc (suc d)) h = absurd (omega arith)

-- the planes before j are those of the field in the active lanes, and of another number in the others
pub record Chosen (planes : List Plane) (offset context other j : ℕ) (new : List Plane) : Type 0 where
  pub long : length new ≡ 32
  pub bits : (k i : ℕ) → k < j → i < 512 → bit (plane_at new k) i ≡ cond (eqb (bit (plane_at planes context) i) 1) (bit (plane_at planes (offset + k)) i) (bit_at other k)

pub chosen_more : (planes : List Plane) (offset context other j : ℕ) (old : List Plane) (new : List ℕ) → j < 32 → Chosen planes offset context other j old
    → ((i : ℕ) → i < 512 → bit new i ≡ cond (eqb (bit (plane_at planes context) i) 1) (bit (plane_at planes (offset + j)) i) (bit_at other j))
    → Chosen planes offset context other (j + 1) (set old j (record { bits = new }))
chosen_more planes offset context other j old new small before is = record {
  long = length-set old j (record { bits = new }) ∙ before.long;
  bits = λ k i h b. elim (cases_eq k j) [
    | inl e ↦ ap (λ n. bit (plane_at (set old j (record { bits = new })) n) i) e ∙ ap (λ q. bit q i) (plane-set_same old j new (omega (arith, before.long)))
        ∙ is i b ∙ ap (λ n. cond (eqb (bit (plane_at planes context) i) 1) (bit (plane_at planes (offset + n)) i) (bit_at other n)) (sym e)
    | inr n ↦ ap (λ q. bit q i) (plane-set_other old j k (record { bits = new }) n) ∙ before.bits k i (omega arith) b
  ];
}

pub number_chosen : (planes : List Plane) (offset context other : ℕ) (new : List Plane) → other < 2 ^ 32 → Chosen planes offset context other 32 new → (i : ℕ) → i < 512
    → number new 0 32 i ≡ cond (eqb (bit (plane_at planes context) i) 1) (number planes offset 32 i) other
number_chosen planes offset context other new small all i b =
    let a : ℕ = bit (plane_at planes context) i in
    elim (cases_eq a 1) [
      | inl on ↦
          number-same new planes 0 offset 32 i (λ j h. ap (λ n. bit (plane_at new n) i) (zero-add j) ∙ all.bits j i h b ∙ ap (λ t. cond t (bit (plane_at planes (offset + j)) i) (bit_at other j)) (eq-eqb a 1 on))
          ∙ sym (ap (λ t. cond t (number planes offset 32 i) other) (eq-eqb a 1 on))
      | inr off ↦
          number_is new 0 32 i other (λ j h. ap (λ n. bit (plane_at new n) i) (zero-add j) ∙ all.bits j i h b ∙ ap (λ t. cond t (bit (plane_at planes (offset + j)) i) (bit_at other j)) (ne_eqb a 1 off))
          ∙ mod-eq_of_lt small ∙ sym (ap (λ t. cond t (number planes offset 32 i) other) (ne_eqb a 1 off))
    ]

-- where no lane has a 1
pub none_before : (mask : List ℕ) (n : ℕ) → ones_before mask n ≡ 0 → (i : ℕ) → i < n → bit mask i ≡ 0
unfolding ones_before
none_before mask zero e i b = absurd (omega arith)
none_before mask (suc n) e i b = elim (cases_eq i n) [
  | inl same ↦ ap (bit mask) same ∙ omega (arith, e)
  | inr other ↦ none_before mask n (omega (arith, e)) i (omega arith)
]

-- some lane behind the first one has a 1
pub any_is : (mask : List ℕ) (f : ℕ → Bool) → bit mask 0 ≡ 0 → ((i : ℕ) → 0 < i → i < 512 → eqb (bit mask i) 1 ≡ f i) → (n : ℕ) → n < 512
    → any_of f 1 n ≡ not (eqb (ones_before mask (suc n)) 0)
unfolding any_of ones_before
any_is mask f first others zero b = sym (ap (λ o. not (eqb o 0)) (let e : 0 + bit mask 0 ≡ 0 = omega (arith, first) in e))
any_is mask f first others (suc n) b =
    let o : ℕ = ones_before mask (suc n) in
    let d : ℕ = bit mask (suc n) in
    ap (λ t. t || f (1 + n)) (any_is mask f first others n (omega arith))
    ∙ ap (λ t. not (eqb o 0) || t) (ap f (let e : 1 + n ≡ suc n = omega arith in e) ∙ sym (others (suc n) (omega arith) b))
    ∙ more o d (bit-lt mask (suc n))
  where
    more : (o d : ℕ) → d < 2 → (not (eqb o 0) || eqb d 1) ≡ not (eqb (o + d) 0)
    more zero zero h = refl
    more zero (suc zero) h = refl
    more (suc o) d h = ap (λ t. not t || eqb d 1) (ne_eqb (suc o) 0 (λ e. absurd (omega arith))) ∙ ap not (sym (ne_eqb (suc o + d) 0 (λ e. absurd (omega arith))))
    more zero (suc (suc d)) h = absurd (omega arith)

-- what a word takes
pub taken_is : (n : Inclusion) (r : Reduction) (w total before next : ℕ) → total ≡ before → next ≡ once r total w → with_own n (λ t. next) total ≡ with_own n (λ t. once r t w) before
taken_is N.Exclusive r w total before next e is = e
taken_is N.Inclusive r w total before next e is = is ∙ ap (λ t. once r t w) e

-- the words before i have been taken, and the others are as they were
pub record Walked (run : Run) (old : List ℕ) (i total : ℕ) (words : List ℕ) : Type 0 where
  pub long : length words ≡ 512
  pub so_far : total ≡ run_to run old i
  pub done : (j : ℕ) → j < i → get_or words j 0 ≡ run_word run old j
  pub rest : (j : ℕ) → i ≤ j → get_or words j 0 ≡ get_or old j 0

pub walked_more : (run : Run) (old : List ℕ) (i total : ℕ) (words : List ℕ) → i < 512 → Walked run old i total words → (next taken onward : ℕ)
    → next ≡ once run.combiner total (get_or words i 0) → taken ≡ with_own run.inclusion (λ t. next) total
    → onward ≡ cond (eqb (bit run.cuts ((i + 1) % 512)) 1) (none run.combiner) next
    → Walked run old (i + 1) onward (set words i taken)
unfolding running
walked_more run old i total words small before next taken onward step is goes =
    let r : Reduction = run.combiner in
    let w : ℕ = get_or old i 0 in
    let stepped : next ≡ once r total w = step ∙ ap (once r total) (before.rest i (omega arith)) in
    record {
      long = length-set words i taken ∙ before.long;
      so_far = goes ∙ ap (λ n. cond (eqb (bit run.cuts ((i + 1) % 512)) 1) (none r) n) (stepped ∙ ap (λ t. once r t w) before.so_far)
          ∙ ap (λ n. cond (eqb (bit run.cuts (n % 512)) 1) (none r) (once r (run_to run old i) w)) (add-one i) ∙ ap (run_to run old) (sym (add-one i));
      done = λ j h. elim (cases_eq j i) [
        | inl e ↦ ap (λ n. get_or (set words i taken) n 0) e ∙ get_or-set_same words i taken 0 (omega (arith, before.long)) ∙ is
            ∙ taken_is run.inclusion r w total (run_to run old i) next before.so_far stepped ∙ ap (run_word run old) (sym e)
        | inr n ↦ get_or-set_other words i j taken 0 n ∙ before.done j (omega arith)
      ];
      rest = λ j h. get_or-set_other words i j taken 0 (λ e. absurd (omega arith)) ∙ before.rest j (omega arith);
    }

-- the same fold over what is the same at its places
pub running_alike : (c : Reduction) (cut other active same : ℕ → Bool) (value number : ℕ → ℕ) (start n : ℕ)
    → ((j : ℕ) → j < n → cut (suc j) ≡ other (suc j)) → ((j : ℕ) → j < n → active j ≡ same j) → ((j : ℕ) → j < n → value j ≡ number j)
    → running c cut active value start n ≡ running c other same number start n
unfolding running
running_alike c cut other active same value number start zero p q h = refl
running_alike c cut other active same value number start (suc n) p q h =
    let next : Bool → Bool → ℕ → ℕ → ℕ = λ t a v r. cond t (none c) (cond a (once c r v) r) in
    ap (next (cut (suc n)) (active n) (value n)) (running_alike c cut other active same value number start n (λ j b. p j (omega arith)) (λ j b. q j (omega arith)) (λ j b. h j (omega arith)))
    ∙ ap (λ t. next t (active n) (value n) (running c other same number start n)) (p n (omega arith))
    ∙ ap (λ a. next (other (suc n)) a (value n) (running c other same number start n)) (q n (omega arith))
    ∙ ap (λ v. next (other (suc n)) (same n) v (running c other same number start n)) (h n (omega arith))

-- an idle place is one that holds the identity
idle : (c : Reduction) (a : Bool) (r v : ℕ) → r < 2 ^ 32 → once c r (cond a v (none c)) ≡ cond a (once c r v) r
idle c true r v b = refl
idle c false r v b = none_last c r b

pub running_chosen : (c : Reduction) (cut active : ℕ → Bool) (value words : ℕ → ℕ) (start n : ℕ) → start < 2 ^ 32 → ((k : ℕ) → value k < 2 ^ 32)
    → ((j : ℕ) → j < n → words j ≡ cond (active j) (value j) (none c))
    → running c cut (λ j. true) words start n ≡ running c cut active value start n
unfolding running
running_chosen c cut active value words start zero p fits is = refl
running_chosen c cut active value words start (suc n) p fits is =
    ap (λ r. cond (cut (suc n)) (none c) (once c r (words n))) (running_chosen c cut active value words start n p fits (λ j b. is j (omega arith)))
    ∙ ap (λ w. cond (cut (suc n)) (none c) (once c (running c cut active value start n) w)) (is n (omega arith))
    ∙ ap (λ x. cond (cut (suc n)) (none c) x) (idle c (active n) (running c cut active value start n) (value n) (running_fits c cut active value start n p fits))

-- where nothing begins it is a fold
pub running_whole : (c : Reduction) (cut active : ℕ → Bool) (value : ℕ → ℕ) (start n : ℕ) → ((j : ℕ) → j < n → cut (suc j) ≡ false)
    → running c cut active value start n ≡ fold_below (once c) active value start n
unfolding running fold_below
running_whole c cut active value start zero off = refl
running_whole c cut active value start (suc n) off =
    let next : Bool → ℕ → ℕ = λ t r. cond t (none c) (cond (active n) (once c r (value n)) r) in
    ap (next (cut (suc n))) (running_whole c cut active value start n (λ j b. off j (omega arith)))
    ∙ ap (λ t. next t (fold_below (once c) active value start n)) (off n (omega arith))
