-- A stretch of code from which no jump leads out, and an end behind it, are the code of a unit.
use Rattle.std.proofs.Common.{◌≡◌, ◌≢◌, ℕ, zero, suc, ◌+◌, ◌<◌, ◌≤◌, ◌⊎◌, inl, inr, Bool, true, false, List, [], ◌∷◌, ◌++◌, length, slice_get, Some, None, refl, sym, ap, ◌∙◌, subst, arith, length-append}
use Rattle.std.proofs.lemmas.Option.{slice_get_within}
use Rattle.cstar_tree.specs.declared.typed.Typed.{Typed}
use Rattle.paris_code.specs.declared.instr.Instr.TheVariants as I
use Rattle.lower_base.specs.Drafts.{Step, Plain}
use Rattle.proper_code.specs.Control.{IsBehindTurn, KeepsControl, Stands, ends_unit, goes_on, target_in}
use Rattle.proper_code.proofs.Stretches.{IsNoCall, IsStretch, LeadsWell, Ways, at_behind, at_first, side}
use Rattle.proper_code.proofs.Passing.{end_of, passing}

-- by these ways code of a unit goes nowhere else
abbrev pub Nowhere : ℕ → Type 0
Nowhere target = ⊥

abbrev pub alone : Typed → Bool → Ways
alone t is_main = passing t is_main Nowhere Nowhere

end_leads : (is_main : Bool) → target_in (end_of is_main) ≡ None
unfolding target_in
end_leads true = refl
end_leads false = refl

end_stops : (is_main : Bool) → goes_on (end_of is_main) ≡ false
unfolding goes_on
end_stops true = refl
end_stops false = refl

end_calls : (is_main : Bool) (unit : ℕ) → end_of is_main ≡ Plain (I.FrontCall unit) → ⊥
unfolding goes_on
end_calls true unit is = let x = ap goes_on is in cc
end_calls false unit is = let x = ap goes_on is in cc

return_ends : ends_unit (Plain I.FrontReturn) ≡ true
unfolding ends_unit
return_ends = refl

halt_ends : ends_unit (Plain I.FrontHalt) ≡ true
unfolding ends_unit
halt_ends = refl

halts_there : Step → Bool
halts_there (Plain I.FrontHalt) = true
halts_there _ = false

by_return : (is_main : Bool) → Plain I.FrontReturn ≡ end_of is_main → is_main ≡ false
unfolding halts_there
by_return true is = let x = ap halts_there is in cc
by_return false is = refl

by_halt : (is_main : Bool) → Plain I.FrontHalt ≡ end_of is_main → is_main ≡ true
unfolding halts_there
by_halt true is = refl
by_halt false is = let x = ap halts_there is in cc

pub keeps_control : (t : Typed) (is_main : Bool) (body : List Step) → IsStretch (alone t is_main) 0 body → KeepsControl (length t.instances.items) is_main (body ++ end_of is_main ∷ [])
unfolding passing
keeps_control t is_main body x = record { begins = omega (arith, long); jumps = jumps; calls = calls; ends = ends; returns = returns; halts = halts }
  where
    long : length (body ++ end_of is_main ∷ []) ≡ length body + 1
    long = length-append body (end_of is_main ∷ [])

    before : (k : ℕ) (s : Step) → Stands (body ++ end_of is_main ∷ []) k s → k < length body → Stands body k s
    before k s is below = sym (at_first body (end_of is_main ∷ []) k below) ∙ is

    still : (k : ℕ) (s : Step) → Stands body k s → Stands (body ++ end_of is_main ∷ []) k s
    still k s is = at_first body (end_of is_main ∷ []) k (slice_get_within body k s is) ∙ is

    last : (j : ℕ) (s : Step) → slice_get (end_of is_main ∷ []) j ≡ Some s → s ≡ end_of is_main
    last zero s is = cc
    last (suc j) s is = let no : ⊥ = cc in absurd no

    at_end : (k j : ℕ) (s : Step) → Stands (body ++ end_of is_main ∷ []) k s → k ≡ length body + j → s ≡ end_of is_main
    at_end k j s is e = last j s (sym (at_behind body (end_of is_main ∷ []) j) ∙ ap (λ (n : ℕ). slice_get (body ++ end_of is_main ∷ []) n) (sym e) ∙ is)

    landing : (k target : ℕ) → LeadsWell (alone t is_main) 0 body k target → (target ≤ length body) × IsNoCall body target × (target ≤ k → Stands body target (Plain I.FrontTurn))
    landing k target (inl (inl out)) = absurd out.1
    landing k target (inl (inr out)) = absurd out
    landing k target (inr h) =
        let at = h.open_at.is in
        let within = h.open_at.within in
        let same : h.open_at.at ≡ target = omega (arith, at) in
        (omega (arith, at, within), subst (λ (n : ℕ). IsNoCall body n) same h.open_at.no_call, λ below. subst (λ (n : ℕ). Stands body n (Plain I.FrontTurn)) same (h.back (omega (arith, at, below))))

    jump_lands : (k target : ℕ) (s : Step) → Stands (body ++ end_of is_main ∷ []) k s → target_in s ≡ Some target → (target ≤ length body) × IsNoCall body target × (target ≤ k → Stands body target (Plain I.FrontTurn))
    jump_lands k target s is leads = by (side body k)
      where
        none : None ≡ Some target → ⊥
        none h = cc

        by : (k < length body) ⊎ ((j : ℕ) × (k ≡ length body + j)) → (target ≤ length body) × IsNoCall body target × (target ≤ k → Stands body target (Plain I.FrontTurn))
        by (inl below) = landing k target (x.jumps k target s (before k s is below) leads)
        by (inr past) = absurd (none (sym (end_leads is_main) ∙ ap target_in (sym (at_end k past.0 s is past.1)) ∙ leads))

    jumps : (k target : ℕ) (s : Step) → Stands (body ++ end_of is_main ∷ []) k s → target_in s ≡ Some target → (target < length (body ++ end_of is_main ∷ [])) × (target ≤ k → Stands (body ++ end_of is_main ∷ []) target (Plain I.FrontTurn))
    jumps k target s is leads =
        let l = jump_lands k target s is leads in
        let a = l.0 in (omega (arith, a, long), λ below. still target _ (l.2 below))

    calls : (k called : ℕ) → Stands (body ++ end_of is_main ∷ []) k (Plain (I.FrontCall called)) → (called < length t.instances.items) × IsBehindTurn (body ++ end_of is_main ∷ []) k × ((from : ℕ) (s : Step) → Stands (body ++ end_of is_main ∷ []) from s → target_in s ≢ Some k)
    calls k called is = by (side body k)
      where
        by : (k < length body) ⊎ ((j : ℕ) × (k ≡ length body + j)) → (called < length t.instances.items) × IsBehindTurn (body ++ end_of is_main ∷ []) k × ((from : ℕ) (s : Step) → Stands (body ++ end_of is_main ∷ []) from s → target_in s ≢ Some k)
        by (inl below) =
            let c = x.calls k called (before k _ is below) in
            (c.0, (c.1.0, c.1.1, still c.1.0 _ c.1.2), λ from s at leads. (jump_lands from k s at leads).1 called (before k _ is below))
        by (inr past) = absurd (end_calls is_main called (sym (at_end k past.0 _ is past.1)))

    ends : (k : ℕ) (s : Step) → Stands (body ++ end_of is_main ∷ []) k s → goes_on s ≡ true → k + 1 < length (body ++ end_of is_main ∷ [])
    ends k s is on = by (side body k)
      where
        no : false ≡ true → ⊥
        no h = cc

        by : (k < length body) ⊎ ((j : ℕ) × (k ≡ length body + j)) → k + 1 < length (body ++ end_of is_main ∷ [])
        by (inl below) = omega (arith, below, long)
        by (inr past) = absurd (no (sym (end_stops is_main) ∙ ap goes_on (sym (at_end k past.0 s is past.1)) ∙ on))

    is_end : (k : ℕ) (s : Step) → Stands (body ++ end_of is_main ∷ []) k s → ends_unit s ≡ true → s ≡ end_of is_main
    is_end k s is e = by (side body k)
      where
        by : (k < length body) ⊎ ((j : ℕ) × (k ≡ length body + j)) → s ≡ end_of is_main
        by (inl below) = x.ends k s (before k s is below) e
        by (inr past) = at_end k past.0 s is past.1

    returns : (k : ℕ) → Stands (body ++ end_of is_main ∷ []) k (Plain I.FrontReturn) → is_main ≡ false
    returns k is = by_return is_main (is_end k _ is return_ends)

    halts : (k : ℕ) → Stands (body ++ end_of is_main ∷ []) k (Plain I.FrontHalt) → is_main ≡ true
    halts k is = by_halt is_main (is_end k _ is halt_ends)
