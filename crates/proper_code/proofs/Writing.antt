-- What is appended to a unit, as stretches of its code.
use Rattle.std.proofs.Common.{◌≡◌, ℕ, ◌+◌, ◌-◌, ◌<◌, ◌≤◌, ◌⊎◌, true, List, [], ◌∷◌, ◌++◌, length, slice_get, refl, ap, ◌∙◌, subst, sym, arith, append_assoc, length-append, inl, inr}
use Rattle.std.proofs.lemmas.Option.{slice_get_within}
use Rattle.paris_code.specs.declared.instr.Instr.TheVariants as I
use Rattle.lower_base.specs.Drafts.{Draft, Step, Plain, here, with_step}
use Rattle.code_lengths.proofs.Drafting.{append_nothing}
use Rattle.proper_code.specs.Control.{Stands}
use Rattle.proper_code.proofs.Stretches.{IsInside, IsJump, IsNoCall, IsStretch, LeadsWell, Ways, at_behind, both, closed, inward_step, is_inward, jump_step, no_code, no_first_call}

-- the second draft is the first with a stretch behind it
pub record Wrote (w : Ways) (d e : Draft) : Type 0 where
  pub more : List Step
  pub code : e.code ≡ d.code ++ more
  pub stretch : IsStretch w (here d) more

pub here_behind : (d e : Draft) (more : List Step) → e.code ≡ d.code ++ more → here e ≡ here d + length more
unfolding here
here_behind d e more is = ap length is ∙ length-append d.code more

pub nothing_written : (w : Ways) (d e : Draft) → e.code ≡ d.code → Wrote w d e
nothing_written w d e same = record { more = []; code = same ∙ append_nothing d.code; stretch = no_code w _ }

pub written_on : (w : Ways) (d e f : Draft) → Wrote w d e → Wrote w e f → Wrote w d f
written_on w d e f x y = record {
  more = x.more ++ y.more;
  code = y.code ∙ ap (λ (c : List Step). c ++ y.more) x.code ∙ append_assoc d.code x.more y.more;
  stretch = both w (here d) x.more y.more x.stretch (subst (λ (n : ℕ). IsStretch w n y.more) (here_behind d e x.more x.code) y.stretch);
}

pub stretch_written : (w : Ways) (d e : Draft) (code : List Step) → e.code ≡ d.code ++ code → IsStretch w (here d) code → Wrote w d e
stretch_written w d e code is x = record { more = code; code = is; stretch = x }

pub not_before : (w : Ways) (d e : Draft) → Wrote w d e → here d ≤ here e
not_before w d e x = let h = here_behind d e x.more x.code in omega (arith, h)

-- no call stands where a stretch begins, nor where the code ends
pub no_call_where : (w : Ways) (d e : Draft) → Wrote w d e → IsNoCall e.code (here d)
unfolding here
no_call_where w d e x unit is =
    no_first_call w (here d) x.more x.stretch unit (sym (at_behind d.code x.more 0) ∙ ap (λ (n : ℕ). slice_get (d.code ++ x.more) n) (behind_nothing (length d.code)) ∙ ap (λ (c : List Step). slice_get c (length d.code)) (sym x.code) ∙ is)
  where
    behind_nothing : (n : ℕ) → n + 0 ≡ n
    behind_nothing n = omega arith

pub no_call_at_end : (e : Draft) → IsNoCall e.code (here e)
unfolding here
no_call_at_end e unit is = let h = slice_get_within e.code (length e.code) _ is in let no : ⊥ = omega (arith, h) in absurd no

-- where a jump from a place may land in the code that is written
pub record Lands (e : Draft) (from target : ℕ) : Type 0 where
  pub within : target ≤ here e
  pub no_call : IsNoCall e.code target
  pub back : target ≤ from → Stands e.code target (Plain I.FrontTurn)

pub lands_ahead : (e : Draft) (from target : ℕ) → from < target → target ≤ here e → IsNoCall e.code target → Lands e from target
lands_ahead e from target h within no_call = record { within = within; no_call = no_call; back = λ below. let no : ⊥ = omega (arith, h, below) in absurd no }

inside_written : (w : Ways) (d e : Draft) (k target : ℕ) (x : Wrote w d e) → here d ≤ target → Lands e (here d + k) target → IsInside (here d) x.more k target
unfolding here
inside_written w d e k target x h o = record {
  open_at = record {
    at = target - here d;
    is = apart;
    within = let a = o.within in let b = here_behind d e x.more x.code in omega (arith, h, a, b);
    no_call = λ unit is. o.no_call unit (moved (Plain (I.FrontCall unit)) is);
  };
  back = λ below. at_once (Plain I.FrontTurn) (o.back (omega (arith, h, below)));
}
  where
    apart : target ≡ here d + (target - here d)
    apart = omega (arith, h)

    same : slice_get e.code target ≡ slice_get x.more (target - here d)
    same = ap (λ (c : List Step). slice_get c target) x.code ∙ ap (λ (n : ℕ). slice_get (d.code ++ x.more) n) apart ∙ at_behind d.code x.more (target - here d)

    moved : (s : Step) → Stands x.more (target - here d) s → Stands e.code target s
    moved s is = same ∙ is

    at_once : (s : Step) → Stands e.code target s → Stands x.more (target - here d) s
    at_once s is = sym same ∙ is

-- the same stretch by other ways, where what leads beyond it by these does so by those, or lands in it
pub shut : (w v : Ways) (d e : Draft) → ((from target : ℕ) → here d ≤ from → w.leads from target → v.leads from target ⊎ ((here d ≤ target) × Lands e from target)) → ((unit : ℕ) → w.calls unit → v.calls unit) → ((s : Step) → w.ends s → v.ends s) → Wrote w d e → Wrote v d e
shut w v d e leads calls ends x = record {
  more = x.more;
  code = x.code;
  stretch = closed w v (here d) x.more (λ k target h. by k target (leads (here d + k) target (omega arith) h)) calls ends x.stretch;
}
  where
    by : (k target : ℕ) → v.leads (here d + k) target ⊎ ((here d ≤ target) × Lands e (here d + k) target) → LeadsWell v (here d) x.more k target
    by k target (inl out) = inl out
    by k target (inr o) = inr (inside_written w d e k target x o.0 o.1)

pub step_written : (w : Ways) (s : Step) (d e : Draft) → is_inward s ≡ true → Wrote w d e → Wrote w d (with_step s e)
unfolding with_step
step_written w s d e h x = written_on w d e (with_step s e) x (stretch_written w e (with_step s e) (s ∷ []) refl (inward_step w (here e) s h))

pub jump_written : (w : Ways) (s : Step) (target : ℕ) (d e : Draft) → IsJump s target → w.leads (here e) target → Wrote w d e → Wrote w d (with_step s e)
unfolding with_step
jump_written w s target d e j h x = written_on w d e (with_step s e) x (stretch_written w e (with_step s e) (s ∷ []) refl (jump_step w (here e) target s j h))

pub one_further : (s : Step) (e : Draft) → here (with_step s e) ≡ here e + 1
unfolding here with_step
one_further s e = length-append e.code (s ∷ [])
