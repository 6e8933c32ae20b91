-- Stretches of code: where the jumps of one lead, and that two of them make one.
use Rattle.std.proofs.Common.{◌≡◌, ℕ, zero, suc, ◌+◌, ◌<◌, ◌≤◌, ◌⊎◌, Bool, true, false, List, [], ◌∷◌, ◌++◌, length, slice_get, Some, None, refl, sym, ap, ◌∙◌, subst, arith, length-append, inl, inr}
use Rattle.paris_code.specs.declared.instr.Instr.TheVariants as I
use Rattle.lower_base.specs.Drafts.{Step, Plain}
use Rattle.proper_code.specs.Control.{IsBehindTurn, Stands, ends_unit, target_in}

-- what a stretch may do beside what it does within itself: from where to where its jumps may lead beyond
-- it, which units it may call, and with what it may end
pub record Ways : Type 1 where
  pub leads : ℕ → ℕ → Type 0
  pub calls : ℕ → Type 0
  pub ends : Step → Type 0

-- no call stands there
abbrev pub IsNoCall : List Step → ℕ → Type 0
IsNoCall code k = (unit : ℕ) → Stands code k (Plain (I.FrontCall unit)) → ⊥

-- a place of a stretch that begins at a place, or the one behind it, at which no call stands
pub record IsOpen (place : ℕ) (code : List Step) (target : ℕ) : Type 0 where
  pub at : ℕ
  pub is : target ≡ place + at
  pub within : at ≤ length code
  pub no_call : IsNoCall code at

-- the same, and a turn where it does not lie ahead
pub record IsInside (place : ℕ) (code : List Step) (k target : ℕ) : Type 0 where
  pub open_at : IsOpen place code target
  pub back : open_at.at ≤ k → Stands code open_at.at (Plain I.FrontTurn)

abbrev pub LeadsWell : Ways → ℕ → List Step → ℕ → ℕ → Type 0
LeadsWell w place code k target = w.leads (place + k) target ⊎ IsInside place code k target

-- a stretch that begins at a place
pub record IsStretch (w : Ways) (place : ℕ) (code : List Step) : Type 0 where
  pub jumps : (k target : ℕ) (s : Step) → Stands code k s → target_in s ≡ Some target → LeadsWell w place code k target
  pub calls : (k unit : ℕ) → Stands code k (Plain (I.FrontCall unit)) → w.calls unit × IsBehindTurn code k
  pub ends : (k : ℕ) (s : Step) → Stands code k s → ends_unit s ≡ true → w.ends s

-- elements of two lists in one
pub at_first : {A : Type 0} (xs ys : List A) (k : ℕ) → k < length xs → slice_get (xs ++ ys) k ≡ slice_get xs k
at_first [] ys k h = let no : ⊥ = omega (arith, h) in absurd no
at_first (x ∷ xs) ys zero h = refl
at_first (x ∷ xs) ys (suc k) h = at_first xs ys k (omega (arith, h))

pub at_behind : {A : Type 0} (xs ys : List A) (k : ℕ) → slice_get (xs ++ ys) (length xs + k) ≡ slice_get ys k
at_behind [] ys k = ap (λ (n : ℕ). slice_get ys n) (none_before k)
  where
    none_before : (n : ℕ) → 0 + n ≡ n
    none_before n = omega arith
at_behind (x ∷ xs) ys k = ap (λ (n : ℕ). slice_get (x ∷ (xs ++ ys)) n) (one_before (length xs) k) ∙ at_behind xs ys k
  where
    one_before : (n k : ℕ) → suc n + k ≡ suc (n + k)
    one_before n k = omega arith

pub side : {A : Type 0} (xs : List A) (k : ℕ) → (k < length xs) ⊎ ((j : ℕ) × (k ≡ length xs + j))
side [] k = inr (k, omega arith)
side (x ∷ xs) zero = inl (omega arith)
side (x ∷ xs) (suc k) = elim (side xs k) [ inl h ↦ inl (omega (arith, h)) | inr h ↦ inr (h.0, next (length xs) h.0 h.1) ]
  where
    next : (n j : ℕ) → k ≡ n + j → suc k ≡ suc n + j
    next n j h = omega (arith, h)

-- what stood in one of two lists stands in both
in_first : (xs ys : List Step) (k : ℕ) (s : Step) → Stands xs k s → k < length xs → Stands (xs ++ ys) k s
in_first xs ys k s is below = at_first xs ys k below ∙ is

in_behind : (xs ys : List Step) (k : ℕ) (s : Step) → Stands ys k s → Stands (xs ++ ys) (length xs + k) s
in_behind xs ys k s is = at_behind xs ys k ∙ is

-- a stretch does not begin with a call
pub no_first_call : (w : Ways) (place : ℕ) (code : List Step) → IsStretch w place code → IsNoCall code 0
no_first_call w place code x unit is = let turn = (x.calls 0 unit is).1 in let b = turn.1 in absurd (nothing_before turn.0 b)
  where
    nothing_before : (n : ℕ) → n + 1 ≡ 0 → ⊥
    nothing_before n h = omega (arith, h)

pub no_call_first : (xs ys : List Step) (k : ℕ) → k ≤ length xs → IsNoCall xs k → IsNoCall ys 0 → IsNoCall (xs ++ ys) k
no_call_first xs ys k h a b unit is = by (side xs k)
  where
    by : (k < length xs) ⊎ ((j : ℕ) × (k ≡ length xs + j)) → ⊥
    by (inl below) = a unit (sym (at_first xs ys k below) ∙ is)
    by (inr past) =
        let j0 : past.0 ≡ 0 = (let e = past.1 in omega (arith, e, h)) in
        b unit (sym (at_behind xs ys 0) ∙ ap (λ (n : ℕ). slice_get (xs ++ ys) n) (let e = past.1 in omega (arith, e, j0)) ∙ is)

pub no_call_behind : (xs ys : List Step) (k : ℕ) → IsNoCall ys k → IsNoCall (xs ++ ys) (length xs + k)
no_call_behind xs ys k b unit is = b unit (sym (at_behind xs ys k) ∙ is)

-- places of a stretch are those of a longer one
pub open_first : (place : ℕ) (xs ys : List Step) (target : ℕ) → IsNoCall ys 0 → IsOpen place xs target → IsOpen place (xs ++ ys) target
open_first place xs ys target b o = record {
  at = o.at;
  is = o.is;
  within = let h = o.within in let l = length-append xs ys in omega (arith, h, l);
  no_call = no_call_first xs ys o.at o.within o.no_call b;
}

pub open_behind : (place : ℕ) (xs ys : List Step) (target : ℕ) → IsOpen (place + length xs) ys target → IsOpen place (xs ++ ys) target
open_behind place xs ys target o = record {
  at = length xs + o.at;
  is = let h = o.is in omega (arith, h);
  within = let h = o.within in let l = length-append xs ys in omega (arith, h, l);
  no_call = no_call_behind xs ys o.at o.no_call;
}

inside_first : (place : ℕ) (xs ys : List Step) (k target : ℕ) → k < length xs → IsNoCall ys 0 → IsInside place xs k target → IsInside place (xs ++ ys) k target
unfolding open_first
inside_first place xs ys k target below b x = record {
  open_at = open_first place xs ys target b x.open_at;
  back = λ h. in_first xs ys x.open_at.at _ (x.back h) (omega (arith, h, below));
}

inside_behind : (place : ℕ) (xs ys : List Step) (k target : ℕ) → IsInside (place + length xs) ys k target → IsInside place (xs ++ ys) (length xs + k) target
unfolding open_behind
inside_behind place xs ys k target x = record {
  open_at = open_behind place xs ys target x.open_at;
  back = λ h. in_behind xs ys x.open_at.at _ (x.back (omega (arith, h)));
}

turn_first : (xs ys : List Step) (k : ℕ) → k < length xs → IsBehindTurn xs k → IsBehindTurn (xs ++ ys) k
turn_first xs ys k below h = (h.0, h.1, in_first xs ys h.0 _ h.2 (let e = h.1 in omega (arith, e, below)))

turn_behind : (xs ys : List Step) (k : ℕ) → IsBehindTurn ys k → IsBehindTurn (xs ++ ys) (length xs + k)
turn_behind xs ys k h = (length xs + h.0, (let e = h.1 in omega (arith, e)), in_behind xs ys h.0 _ h.2)

-- two stretches, one behind the other
pub both : (w : Ways) (place : ℕ) (xs ys : List Step) → IsStretch w place xs → IsStretch w (place + length xs) ys → IsStretch w place (xs ++ ys)
both w place xs ys a b = record { jumps = jumps; calls = calls; ends = ends }
  where
    before : (k : ℕ) (s : Step) → Stands (xs ++ ys) k s → k < length xs → Stands xs k s
    before k s is below = sym (at_first xs ys k below) ∙ is

    later : (k j : ℕ) (s : Step) → Stands (xs ++ ys) k s → k ≡ length xs + j → Stands ys j s
    later k j s is e = sym (at_behind xs ys j) ∙ ap (λ (n : ℕ). slice_get (xs ++ ys) n) (sym e) ∙ is

    jump_first : (k target : ℕ) → k < length xs → LeadsWell w place xs k target → LeadsWell w place (xs ++ ys) k target
    jump_first k target below (inl h) = inl h
    jump_first k target below (inr h) = inr (inside_first place xs ys k target below (no_first_call w _ ys b) h)

    jump_behind : (k j target : ℕ) → k ≡ length xs + j → LeadsWell w (place + length xs) ys j target → LeadsWell w place (xs ++ ys) k target
    jump_behind k j target e (inl h) = inl (subst (λ (n : ℕ). w.leads n target) (omega (arith, e)) h)
    jump_behind k j target e (inr h) = inr (subst (λ (n : ℕ). IsInside place (xs ++ ys) n target) (sym e) (inside_behind place xs ys j target h))

    jumps : (k target : ℕ) (s : Step) → Stands (xs ++ ys) k s → target_in s ≡ Some target → LeadsWell w place (xs ++ ys) k target
    jumps k target s is leads = by (side xs k)
      where
        by : (k < length xs) ⊎ ((j : ℕ) × (k ≡ length xs + j)) → LeadsWell w place (xs ++ ys) k target
        by (inl below) = jump_first k target below (a.jumps k target s (before k s is below) leads)
        by (inr past) = jump_behind k past.0 target past.1 (b.jumps past.0 target s (later k past.0 s is past.1) leads)

    calls : (k unit : ℕ) → Stands (xs ++ ys) k (Plain (I.FrontCall unit)) → w.calls unit × IsBehindTurn (xs ++ ys) k
    calls k unit is = by (side xs k)
      where
        by : (k < length xs) ⊎ ((j : ℕ) × (k ≡ length xs + j)) → w.calls unit × IsBehindTurn (xs ++ ys) k
        by (inl below) = let c = a.calls k unit (before k _ is below) in (c.0, turn_first xs ys k below c.1)
        by (inr past) =
            let c = b.calls past.0 unit (later k past.0 _ is past.1) in
            (c.0, subst (λ (n : ℕ). IsBehindTurn (xs ++ ys) n) (sym past.1) (turn_behind xs ys past.0 c.1))

    ends : (k : ℕ) (s : Step) → Stands (xs ++ ys) k s → ends_unit s ≡ true → w.ends s
    ends k s is h = by (side xs k)
      where
        by : (k < length xs) ⊎ ((j : ℕ) × (k ≡ length xs + j)) → w.ends s
        by (inl below) = a.ends k s (before k s is below) h
        by (inr past) = b.ends past.0 s (later k past.0 s is past.1) h

-- no code
pub no_code : (w : Ways) (place : ℕ) → IsStretch w place []
no_code w place = record { jumps = λ k target s is. absurd (none is); calls = λ k unit is. absurd (none is); ends = λ k s is. absurd (none is) }
  where
    none : {s : Step} → None ≡ Some s → ⊥
    none h = cc

-- a step that neither jumps, calls nor ends
unfoldable pub is_inward : Step → Bool
is_inward (Plain (I.FrontJump target)) = false
is_inward (Plain (I.FrontJumpZero x target)) = false
is_inward (Plain (I.FrontJumpNonzero x target)) = false
is_inward (Plain (I.FrontCall unit)) = false
is_inward (Plain I.FrontReturn) = false
is_inward (Plain I.FrontHalt) = false
is_inward _ = true

-- one step
one_step : (w : Ways) (place : ℕ) (s : Step) → ((target : ℕ) → target_in s ≡ Some target → LeadsWell w place (s ∷ []) 0 target) → ((unit : ℕ) → s ≡ Plain (I.FrontCall unit) → ⊥) → (ends_unit s ≡ true → w.ends s) → IsStretch w place (s ∷ [])
one_step w place s j c e = record { jumps = jumps; calls = calls; ends = ends }
  where
    only : (k : ℕ) (other : Step) → slice_get (s ∷ []) k ≡ Some other → (k ≡ 0) × (s ≡ other)
    only zero other h = (refl, cc)
    only (suc k) other h = let no : ⊥ = cc in absurd no

    jumps : (k target : ℕ) (other : Step) → Stands (s ∷ []) k other → target_in other ≡ Some target → LeadsWell w place (s ∷ []) k target
    jumps k target other is leads =
        let o = only k other is in
        subst (λ (n : ℕ). LeadsWell w place (s ∷ []) n target) (sym o.0) (j target (ap target_in o.1 ∙ leads))

    calls : (k unit : ℕ) → Stands (s ∷ []) k (Plain (I.FrontCall unit)) → w.calls unit × IsBehindTurn (s ∷ []) k
    calls k unit is = absurd (c unit (only k _ is).1)

    ends : (k : ℕ) (other : Step) → Stands (s ∷ []) k other → ends_unit other ≡ true → w.ends other
    ends k other is h = let o = only k other is in subst (λ (x : Step). w.ends x) o.1 (e (ap ends_unit o.1 ∙ h))

pub inward_step : (w : Ways) (place : ℕ) (s : Step) → is_inward s ≡ true → IsStretch w place (s ∷ [])
unfolding is_inward target_in ends_unit
inward_step w place s h = one_step w place s (λ target leads. absurd (no_target s target h leads)) (λ unit is. no_call s unit h is) (λ ends. absurd (no_end s h ends))
  where
    no_target : (s : Step) (target : ℕ) → is_inward s ≡ true → target_in s ≡ Some target → ⊥
    no_target (Plain (I.FrontJump _)) target h leads = cc
    no_target (Plain (I.FrontJumpZero _ _)) target h leads = cc
    no_target (Plain (I.FrontJumpNonzero _ _)) target h leads = cc
    no_target _ target h leads = cc

    no_call : (s : Step) (unit : ℕ) → is_inward s ≡ true → s ≡ Plain (I.FrontCall unit) → ⊥
    no_call s unit h is = let x = ap is_inward is in cc

    no_end : (s : Step) → is_inward s ≡ true → ends_unit s ≡ true → ⊥
    no_end (Plain I.FrontReturn) h ends = cc
    no_end (Plain I.FrontHalt) h ends = cc
    no_end _ h ends = cc

-- the step jumps there, whatever it tests
pub data IsJump : Step → ℕ → Type 0 where
  always : (target : ℕ) → IsJump (Plain (I.FrontJump target)) target
  if_zero : (x target : ℕ) → IsJump (Plain (I.FrontJumpZero x target)) target
  if_nonzero : (x target : ℕ) → IsJump (Plain (I.FrontJumpNonzero x target)) target

jumps_there : (s : Step) (target : ℕ) → IsJump s target → (target_in s ≡ Some target) × ((unit : ℕ) → s ≡ Plain (I.FrontCall unit) → ⊥) × (ends_unit s ≡ false)
unfolding target_in ends_unit
jumps_there _ _ (always target) = (refl, (λ unit is. let x = ap target_in is in cc), refl)
jumps_there _ _ (if_zero x target) = (refl, (λ unit is. let x = ap target_in is in cc), refl)
jumps_there _ _ (if_nonzero x target) = (refl, (λ unit is. let x = ap target_in is in cc), refl)

pub jump_step : (w : Ways) (place target : ℕ) (s : Step) → IsJump s target → w.leads place target → IsStretch w place (s ∷ [])
jump_step w place target s j h =
    let is = jumps_there s target j in
    let first = is.0 in
    let last = is.2 in
    one_step w place s (λ other leads. subst (λ (n : ℕ). LeadsWell w place (s ∷ []) 0 n) (some target other (sym first ∙ leads)) (inl (subst (λ (n : ℕ). w.leads n target) (behind_nothing place) h)))
    is.1 (λ e. let no : ⊥ = cc in absurd no)
  where
    behind_nothing : (n : ℕ) → n ≡ n + 0
    behind_nothing n = omega arith

    some : (a b : ℕ) → Some a ≡ Some b → a ≡ b
    some a b h = cc

-- a turn, and the call of a unit
pub turn_and_call : (w : Ways) (place unit : ℕ) → w.calls unit → IsStretch w place (Plain I.FrontTurn ∷ Plain (I.FrontCall unit) ∷ [])
unfolding target_in ends_unit
turn_and_call w place unit c = record { jumps = jumps; calls = calls; ends = ends }
  where
    jumps : (k target : ℕ) (s : Step) → Stands (Plain I.FrontTurn ∷ Plain (I.FrontCall unit) ∷ []) k s → target_in s ≡ Some target → LeadsWell w place (Plain I.FrontTurn ∷ Plain (I.FrontCall unit) ∷ []) k target
    jumps zero target s is leads = let no : ⊥ = cc in absurd no
    jumps (suc zero) target s is leads = let no : ⊥ = cc in absurd no
    jumps (suc (suc k)) target s is leads = let no : ⊥ = cc in absurd no

    calls : (k other : ℕ) → Stands (Plain I.FrontTurn ∷ Plain (I.FrontCall unit) ∷ []) k (Plain (I.FrontCall other)) → w.calls other × IsBehindTurn (Plain I.FrontTurn ∷ Plain (I.FrontCall unit) ∷ []) k
    calls zero other is = let no : ⊥ = cc in absurd no
    calls (suc zero) other is = (let same : unit ≡ other = cc in subst (λ (n : ℕ). w.calls n) same c, (0, refl, refl))
    calls (suc (suc k)) other is = let no : ⊥ = cc in absurd no

    ends : (k : ℕ) (s : Step) → Stands (Plain I.FrontTurn ∷ Plain (I.FrontCall unit) ∷ []) k s → ends_unit s ≡ true → w.ends s
    ends zero s is h = let no : ⊥ = cc in absurd no
    ends (suc zero) s is h = let no : ⊥ = cc in absurd no
    ends (suc (suc k)) s is h = let no : ⊥ = cc in absurd no

-- the end of a unit
pub end_step : (w : Ways) (place : ℕ) (s : Step) → target_in s ≡ None → ((unit : ℕ) → s ≡ Plain (I.FrontCall unit) → ⊥) → w.ends s → IsStretch w place (s ∷ [])
end_step w place s none no_call e = one_step w place s (λ target leads. let no : ⊥ = cc in absurd no) no_call (λ _. e)

-- jumps beyond a stretch lead to places of it after all
pub closed : (w v : Ways) (place : ℕ) (code : List Step) → ((k target : ℕ) → w.leads (place + k) target → LeadsWell v place code k target) → ((unit : ℕ) → w.calls unit → v.calls unit) → ((s : Step) → w.ends s → v.ends s) →
    IsStretch w place code → IsStretch v place code
closed w v place code leads calls ends x = record {
  jumps = λ k target s is jump. by k target (x.jumps k target s is jump);
  calls = λ k unit is. let c = x.calls k unit is in (calls unit c.0, c.1);
  ends = λ k s is h. ends s (x.ends k s is h);
}
  where
    by : (k target : ℕ) → LeadsWell w place code k target → LeadsWell v place code k target
    by k target (inl h) = leads k target h
    by k target (inr h) = inr h

-- a place ahead of a jump
pub ahead : (place : ℕ) (code : List Step) (k target : ℕ) → place + k < target → IsOpen place code target → IsInside place code k target
ahead place code k target h o = record { open_at = o; back = λ below. let e = o.is in let no : ⊥ = omega (arith, e, h, below) in absurd no }
