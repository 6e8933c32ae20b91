-- A send whose words a board folds is the instruction.
use Rattle.std.proofs.Common.{◌≡◌, ℕ, ◌+◌, ◌<◌, ◌/◌, ◌%◌, ◌^◌, true, List, length, Option, Some, None, refl, sym, ◌∙◌, ap, subst}
use Rattle.std.specs.Prelude.{is_some}
use Rattle.std.specs.Int.{bit_at}
use Rattle.std.proofs.lemmas.Bool.{false≢true}
use Rattle.cstar_base.specs.declared.elem.Elem.{Elem}
use Rattle.cstar_base.specs.declared.operators.Winner.{Winner}
use Rattle.cstar_base.specs.Numbers.{residue, number_of, converted}
use Rattle.bit_planes.proofs.Planes.{number-bits}
use Rattle.combine_core.specs.declared.message.Message.{Message}
use Rattle.combine_core.specs.Folded.{folded}
use Rattle.paris_code.specs.declared.instr.Instr.TheVariants as I
use Rattle.paris_code.specs.declared.operands.Field.{Field}
use Rattle.paris_code.specs.declared.operands.Reduction.{Reduction}
use Rattle.paris_code.specs.declared.program.Reply.TheVariants as R
use Rattle.paris_code.specs.Fetching.{at_all}
use Rattle.paris_code.specs.Meaning.{Means, after}
use Rattle.paris_code.specs.Memory.{BitMemory, SameBits, field_number, whole_number, processors}
use Rattle.paris_code.specs.Sending.{winning_sender, word_kind, overwriting, combining, combined, message_or_zero}
use Rattle.paris_code.specs.Shapes.{SetShape}
use Rattle.paris_code.specs.Writes.{written}
use Rattle.block_store.specs.declared.set.BlockSet.{BlockSet}
use Rattle.block_store.specs.Planes.{planes_at, block_bit}
use Rattle.block_store.specs.Stored.{blocks_at, stored}
use Rattle.block_store.proofs.Fetches.{field_there, number_below}
use Rattle.phase_meaning.specs.Apply.{CanApply}
use Rattle.combine_send.specs.Slots.{AreSlotsFrom, kind_of, kind_for}
use Rattle.combine_send.proofs.Slots.{or_home, combined_is, overwritten_is}
use Rattle.combine_send.proofs.Own.{HasNumbers, converted_number, converted_back, combined_home, stays_home, own_written}

then_same : (shapes : List SetShape) (a b c : BitMemory) → SameBits shapes a b → SameBits shapes b c → SameBits shapes a c
then_same shapes a b c first second = record {
  bits = λ s p i x y z. first.bits s p i x y z ∙ second.bits s p i x y z;
  winner = first.winner ∙ second.winner;
}

-- a store holds numbers in its fields
pub stored_numbers : (sets : List BlockSet) (v : Winner) (f : Field) → HasNumbers (stored sets v) f
unfolding stored block_bit
stored_numbers sets v f = record {
  below = λ p. number_below sets v f p;
  bits = λ p j h. stored_bit p j h;
}
  where
    stored_bit : (p j : ℕ) → j < f.len → bit_at (field_number (stored sets v) f p) j ≡ (stored sets v).bit f.set p (f.offset + j)
    stored_bit p j h = ap (λ n. bit_at n j) (sym (field_there sets v f p)) ∙ number-bits (planes_at (blocks_at sets f.set) (p / 512)) f.offset f.len (p % 512) j h

module _ (shapes : List SetShape) (m new : BitMemory) (d : Field) (kind : Elem) (address source : Field) (words : ℕ → ℕ)
    (numbers : HasNumbers m d) (long : d.len ≡ kind.bits) (done : SameBits shapes new (written (at_all d (λ t. converted kind word_kind (words t))) m)) where
  -- a word that stays at home is the own number
  own_back : (t : ℕ) → words t ≡ residue 32 (whole_number m kind.signed d t) → converted kind word_kind (words t) ≡ field_number m d t
  unfolding whole_number
  own_back t home =
      ap (converted kind word_kind) home ∙ ap (λ n. converted kind word_kind (residue 32 (number_of n kind.signed (field_number m d t)))) long
      ∙ converted_back kind (field_number m d t) (subst (λ n. field_number m d t < 2 ^ n) long (numbers.below t))

  pub sent_combining : (c : Reduction) → ((t : ℕ) → t < processors shapes d.set → words t ≡ combined shapes m c d kind.signed address source t)
      → SameBits shapes new (written (combining shapes m c d kind address source) m)
  sent_combining c are =
      then_same shapes new _ _ done (own_written shapes (combining shapes m c d kind address source) m (λ t. converted kind word_kind (words t)) numbers
      (λ t b some. ap (converted kind word_kind) (are t b))
      (λ t b none. own_back t (are t b ∙ combined_home shapes m c d kind.signed address source t none)))

  message_is : (below : (p : ℕ) → field_number m source p < 2 ^ kind.bits) (home : ℕ) (o : Option ℕ) → is_some o ≡ true → converted kind word_kind (or_home home m source o) ≡ message_or_zero m source o
  message_is below home None some = absurd (false≢true some)
  message_is below home (Some k) some = converted_number kind (field_number m source k) (below k)

  pub sent_overwriting : ((p : ℕ) → field_number m source p < 2 ^ kind.bits)
      → ((t : ℕ) → t < processors shapes d.set → words t ≡ or_home (residue 32 (whole_number m kind.signed d t)) m source (winning_sender shapes m address t))
      → SameBits shapes new (written (overwriting shapes m d address source) m)
  sent_overwriting below are =
      then_same shapes new _ _ done (own_written shapes (overwriting shapes m d address source) m (λ t. converted kind word_kind (words t)) numbers
      (λ t b some. ap (converted kind word_kind) (are t b) ∙ message_is below (residue 32 (whole_number m kind.signed d t)) (winning_sender shapes m address t) some)
      (λ t b none. own_back t (are t b ∙ stays_home (residue 32 (whole_number m kind.signed d t)) m source (winning_sender shapes m address t) none)))

-- the words that a board folds, written back, are what the instruction means, which reads no register
module _ (shapes : List SetShape) (args others : List ℕ) (m new : BitMemory) (d : Field) (kind : Elem) (address source : Field) (slots : List (Option Message)) (words : ℕ → ℕ) (numbers : (f : Field) → HasNumbers m f)
    (are : AreSlotsFrom shapes m address source (processors shapes d.set) 0 slots) (each : length slots ≡ processors shapes address.set)
    (done : SameBits shapes new (written (at_all d (λ t. converted kind word_kind (words t))) m)) where
  pub combined_means : (c : Reduction) → CanApply shapes (I.SendWithCombiner c d kind address source) args
      → ((t : ℕ) → t < processors shapes d.set → words t ≡ folded (kind_of c) t (residue 32 (whole_number m kind.signed d t)) slots)
      → Means shapes (I.SendWithCombiner c d kind address source) others m new R.Nothing
  unfolding after
  combined_means c can folds = (
    refl,
    sent_combining shapes m new d kind address source words (numbers d) (can.field.0.1 can.set.0) done c
        (λ t b. folds t b ∙ combined_is shapes m c d address source kind.signed (processors shapes d.set) t slots b are each),
  )

  pub overwritten_means : CanApply shapes (I.SendWithOverwrite d kind address source) args
      → ((t : ℕ) → t < processors shapes d.set → words t ≡ folded (kind_for None m.winner) t (residue 32 (whole_number m kind.signed d t)) slots)
      → Means shapes (I.SendWithOverwrite d kind address source) others m new R.Nothing
  unfolding after winning_sender
  overwritten_means can folds =
      let long : d.len ≡ kind.bits = can.field.0.1 can.set.0 in
      let same : source.len ≡ kind.bits = can.field.2.1 can.set.2 can.set.0 ∙ long in (
        refl,
        sent_overwriting shapes m new d kind address source words (numbers d) long done (λ p. subst (λ n. field_number m source p < 2 ^ n) same ((numbers source).below p))
            (λ t b. folds t b ∙ overwritten_is shapes m m.winner (residue 32 (whole_number m kind.signed d t)) address source (processors shapes d.set) t slots b are each),
      )
