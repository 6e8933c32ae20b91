-- The calls of an image, and which of them keep image rule 3.
use Rattle.std.proofs.Common.{◌≡◌, ◌≢◌, ℕ, zero, suc, ◌+◌, ◌<◌, List, [], ◌∷◌, ◌++◌, length, refl, sym, ap, ◌∙◌, subst, inl, inr, arith, below_more}
use Rattle.std.specs.Prelude.{Contains, ◌↔◌}
use Rattle.std.proofs.lemmas.Option.{slice_get_within}
use Rattle.std.proofs.lemmas.List.Elements.{Contains-push, Contains-push_cases, Contains-append_left}
use Rattle.paris_code.specs.declared.instr.Instr.{Instr}
use Rattle.paris_code.specs.declared.instr.Instr.TheVariants as I
use Rattle.paris_code.specs.declared.program.Image.{Image}
use Rattle.paris_code.specs.Units.{unit_of, IsAt, Path}
use Rattle.paris_code.specs.RuleStack.{KeepsStack}
use Rattle.image_check.specs.declared.chains.Call.{Call}
use Rattle.image_check.specs.Calls.{Chain, AreMadeBy, KeepsCall}
use Rattle.image_check.specs.Stacks.{AreCalls}
use Rattle.image_check.proofs.Starts.{unit_inside}

-- what the code says of a call
abbrev IsReal : Image → Call → Type 0
IsReal image call = (place : ℕ) × IsAt image place (I.FrontCall call.to) × (unit_of image place ≡ call.from)

-- one more instruction, which is a call
pub calls_more : (image : Image) (place : ℕ) (calls : List Call) (call : Call) (instr : Instr) → IsAt image place instr → instr ≡ I.FrontCall call.to →
    call.from ≡ unit_of image place → AreCalls image place calls → AreCalls image (place + 1) (calls ++ call ∷ [])
calls_more image place calls call instr at is from before =
    let here : IsAt image place (I.FrontCall call.to) = cc in
    record {
      real = λ other among. elim (Contains-push_cases calls call other among) [
        | inl h ↦ before.real other h
        | inr h ↦ subst (λ (c : Call). IsReal image c) h (place, here, sym from)
      ];
      each = λ p to below there.
          let P : ℕ → Type 0 = λ p. (to : ℕ) → IsAt image p (I.FrontCall to) → Contains (calls ++ call ∷ []) (record { from = unit_of image p; to = to }) in
          below_more P place
          (λ p lower to there. Contains-append_left calls (call ∷ []) (record { from = unit_of image p; to = to }) (before.each p to lower there))
          (λ to there.
          let same : call.to ≡ to = cc in
          let named : ℕ → ℕ → Call = λ f t. record { from = f; to = t } in
          let one : call ≡ record { from = unit_of image place; to = to } =
          ap (λ (f : ℕ). named f call.to) from ∙ ap (λ (t : ℕ). named (unit_of image place) t) same in
          subst (λ (c : Call). Contains (calls ++ call ∷ []) c) one (Contains-push calls call))
          p below to there;
    }

-- one more instruction, which is no call
pub calls_same : (image : Image) (place : ℕ) (calls : List Call) (instr : Instr) → IsAt image place instr → ((to : ℕ) → instr ≢ I.FrontCall to) →
    AreCalls image place calls → AreCalls image (place + 1) calls
calls_same image place calls instr at none before =
    record {
      real = before.real;
      each = λ p to below there.
          let P : ℕ → Type 0 = λ p. (to : ℕ) → IsAt image p (I.FrontCall to) → Contains calls (record { from = unit_of image p; to = to }) in
          below_more P place (λ p lower to there. before.each p to lower there)
          (λ to there. let same : instr ≡ I.FrontCall to = cc in absurd (none to same))
          p below to there;
    }

-- calls are made by units of the image
pub made_by : (image : Image) (end : ℕ) (calls : List Call) → 0 < length image.units.items → AreCalls image end calls →
    AreMadeBy (length image.units.items) calls
made_by image end calls some known call among =
    let real : IsReal image call = known.real call among in
    omega (arith, unit_inside image real.0 some, real.2)

pub chain_of_path : (image : Image) (calls : List Call) → AreCalls image (length image.code.items) calls →
    (count from to : ℕ) → Path image count from to → Chain calls count from to
chain_of_path image calls known zero from to path = path
chain_of_path image calls known (suc count) from to (place, at, path) = (
  record { from = unit_of image place; to = to },
  known.each place to (slice_get_within image.code.items place (I.FrontCall to) at) at,
  refl,
  chain_of_path image calls known count from (unit_of image place) path,
)

pub path_of_chain : (image : Image) (calls : List Call) → AreCalls image (length image.code.items) calls →
    (count from to : ℕ) → Chain calls count from to → Path image count from to
path_of_chain image calls known zero from to chain = chain
path_of_chain image calls known (suc count) from to (call, among, is, chain) =
    let real : IsReal image call = known.real call among in
    let path : Path image count from call.from = path_of_chain image calls known count from call.from chain in (
      real.0,
      subst (λ (t : ℕ). IsAt image real.0 (I.FrontCall t)) is real.1,
      subst (λ (u : ℕ). Path image count from u) (sym real.2) path,
    )

-- a call keeps the rule where the instruction that makes it does
pub keeps_at_call : (image : Image) (calls : List Call) (place : ℕ) (call : Call) (instr : Instr) → AreCalls image (length image.code.items) calls →
    IsAt image place instr → instr ≡ I.FrontCall call.to → call.from ≡ unit_of image place →
    KeepsCall calls image.depth call ↔ ((i : Instr) → IsAt image place i → KeepsStack image place i)
keeps_at_call image calls place call instr known at is from =
    let here : IsAt image place (I.FrontCall call.to) = cc in (
      (λ keeps i there.
          let same : I.FrontCall call.to ≡ i = cc in
          subst (λ (j : Instr). KeepsStack image place j) same (
            (λ count path.
                keeps.0 count (chain_of_path image calls known count call.to call.from (subst (λ (u : ℕ). Path image count call.to u) (sym from) path))),
            (λ count path.
                keeps.1 count (chain_of_path image calls known count 0 call.from (subst (λ (u : ℕ). Path image count 0 u) (sym from) path))),
          )),
      (λ each.
          let keeps : KeepsStack image place (I.FrontCall call.to) = each (I.FrontCall call.to) here in (
            (λ count chain.
                keeps.0 count (subst (λ (u : ℕ). Path image count call.to u) from (path_of_chain image calls known count call.to call.from chain))),
            (λ count chain.
                keeps.1 count (subst (λ (u : ℕ). Path image count 0 u) from (path_of_chain image calls known count 0 call.from chain))),
          )),
    )
