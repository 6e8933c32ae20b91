-- The bits of a set, copied run by run and block by block.
use Rattle.std.proofs.Common.{◌≡◌, ◌≢◌, ℕ, ◌+◌, ◌/◌, ◌<◌, ◌≤◌, ◌⊎◌, ◌∙◌, inl, inr, subst, arith}
use Rattle.std.proofs.lemmas.Bool.{cases_lt}

-- a run of the positions of a block has been copied
pub record Moved (positions width offset len block : ℕ) (source old new : ℕ → ℕ → ℕ) : Type 0 where
  pub inside : (p i : ℕ) → p / 512 ≡ block → p < positions → offset ≤ i → i < offset + len → new p i ≡ source p i
  pub outside : (p i : ℕ) → p < positions → i < width → (p / 512 ≢ block) ⊎ ((i < offset) ⊎ (offset + len ≤ i)) → new p i ≡ old p i

-- the blocks before one are copied, and of its positions the bits before an index
pub record Copied (positions width block index : ℕ) (source copy : ℕ → ℕ → ℕ) : Type 0 where
  pub blocks : (p i : ℕ) → p < positions → i < width → p / 512 < block → copy p i ≡ source p i
  pub here : (p i : ℕ) → p < positions → i < width → p / 512 ≡ block → i < index → copy p i ≡ source p i

pub copied_none : (positions width : ℕ) (source copy : ℕ → ℕ → ℕ) → Copied positions width 0 0 source copy
copied_none positions width source copy = record {
  blocks = λ p i b w h. absurd (omega arith);
  here = λ p i b w e h. absurd (omega arith);
}

pub run_more : (positions width block index len end : ℕ) (source old new : ℕ → ℕ → ℕ) → ((i : ℕ) → i < width → i < end → i < index + len) → Copied positions width block index source old → Moved positions width index len block source old new
    → Copied positions width block end source new
run_more positions width block index len end source old new far before step = record {
  blocks = λ p i b w h. step.outside p i b w (inl (λ e. absurd (omega arith))) ∙ before.blocks p i b w h;
  here = λ p i b w e h. elim (cases_lt i index) [
    | inl l ↦ step.outside p i b w (inr (inl l)) ∙ before.here p i b w e l
    | inr g ↦ step.inside p i e b g (far i w h)
  ];
}

-- the same by equal numbers
pub moved_as : (positions width offset positions' width' offset' len block : ℕ) (source old new : ℕ → ℕ → ℕ) → positions ≡ positions' → width ≡ width' → offset ≡ offset' → Moved positions width offset len block source old new
    → Moved positions' width' offset' len block source old new
moved_as positions width offset positions' width' offset' len block source old new a b c moved =
    subst (λ (n : ℕ). Moved n width' offset' len block source old new) a (subst (λ (n : ℕ). Moved positions n offset' len block source old new) b (subst (λ (n : ℕ). Moved positions width n len block source old new) c moved))
