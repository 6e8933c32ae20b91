-- What a batch ends with.
use Rattle.std.proofs.Common.{◌≡◌, ◌∙◌, ℕ, ◌⊎◌, inl, inr, List, Option, arith, sym}
use Rattle.cstar_io.specs.Output.{Takes}
use Rattle.cstar_io.specs.declared.call.Call.{Call}
use Rattle.batch_top.specs.declared.ending.Ending.{Ending}
use Rattle.batch_top.specs.declared.ending.Ending.TheVariants as E
use Rattle.batch_top.specs.Batches.{CannotFetch, CannotReadOne}
use Rattle.batch_top.specs.Endings.{line_of, status_of}

-- a status that is told, and is not that of a failed output, is that of the ending
pub status_is : (told own wanted : ℕ) → (told ≡ own) ⊎ (told ≡ 6) → told ≡ wanted → wanted ≡ 0 ⊎ wanted ≡ 5 → own ≡ wanted
status_is told own wanted (inl same) is other = sym same ∙ is
status_is told own wanted (inr six) is (inl zero) = absurd (omega arith)
status_is told own wanted (inr six) is (inr five) = absurd (omega arith)

-- with status 5 one of the files could not be read
pub one_unread : {S E : Type 0} → (faults : S → ℕ) (last_failed : S → Option Call) (old new : S) (agrees : E → List ℕ → Type 0) (old_err new_err : E) (names : List (List ℕ)) (ending : Ending)
    → status_of ending ≡ 5 → CannotFetch faults last_failed old new names ending → Takes agrees old_err new_err (line_of ending)
    → CannotReadOne faults last_failed old new agrees old_err new_err names
one_unread faults last_failed old new agrees old_err new_err names (E.CannotRead name) is failed line = (name.now, failed.0, failed.1, failed.2, line)
one_unread faults last_failed old new agrees old_err new_err names E.Done is failed line = absurd failed
one_unread faults last_failed old new agrees old_err new_err names E.Usage is failed line = absurd failed
one_unread faults last_failed old new agrees old_err new_err names E.WriteFault is failed line = absurd failed
one_unread faults last_failed old new agrees old_err new_err names E.Memory is failed line = absurd (omega arith)
