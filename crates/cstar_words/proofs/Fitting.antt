-- What a parse says of the words, by the command line.
use Rattle.std.proofs.Common.{refl, sym, ap, subst, ◌∙◌, true, false, ◌≡◌, ◌⊎◌, [], ◌∷◌, List, ℕ, rules, inl, inr}
use Rattle.clap.specs.Words.{App, HasKind, IsAmong, Kinds, fault_of, is_simple, is_simple_and_free, kind_of}
use Rattle.clap.specs.Walk.{is_empty}
use Rattle.clap.specs.declared.error.Error.{Error}
use Rattle.clap.specs.declared.error.kind.ErrorKind.{ErrorKind}
use Rattle.clap.specs.declared.error.kind.ErrorKind.TheVariants as kind
use Rattle.clap.proofs.OnLiterals.{clap_on_literals}
use Rattle.cstar_words.specs.Line.{command_line}
use Rattle.cstar_words.specs.Reading.{fits_line}

-- the command line is one of which clap tells all
pub simple : is_simple command_line ≡ true
unfolding command_line clap_on_literals
simple = refl

pub simple_and_free : is_simple_and_free command_line ≡ true
unfolding command_line clap_on_literals
simple_and_free = refl

-- where the command line has no kind of error, the words fit it
pub fits : (app : App) (words : List (List ℕ)) → app ≡ command_line → (is_simple_and_free app ≡ true → fault_of app words ≡ []) → fits_line words ≡ true
fits app words same parsed =
    ap is_empty (ap (λ a. fault_of a words) (sym same) ∙ parsed (ap is_simple_and_free same ∙ simple_and_free))

-- an error that is not want of memory comes only where some kind of error does
nonempty : (x : ErrorKind) (xs : Kinds) → is_empty (x ∷ xs) ≡ false
nonempty x xs = search rules

among : (k : ErrorKind) (kinds : Kinds) → IsAmong k kinds → is_empty kinds ≡ false
among k [] is = absurd is
among k (x ∷ xs) is = nonempty x xs

pub misfits : (e : Error) (app : App) (words : List (List ℕ)) → app ≡ command_line → (is_simple_and_free app ≡ true → HasKind (fault_of app words) e)
    → (kind_of e ≡ kind.OutOfMemory → ⊥) → fits_line words ≡ false
misfits e app words same parsed other = elim (parsed (ap is_simple_and_free same ∙ simple_and_free)) [
  | inl memory ↦ absurd (other memory)
  | inr is ↦ ap is_empty (ap (λ a. fault_of a words) (sym same)) ∙ among (kind_of e) (fault_of app words) is
]
