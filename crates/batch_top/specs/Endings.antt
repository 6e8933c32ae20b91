-- What a batch comes to: its status, and the line on its error output.
use Rattle.std.specs.Prelude.{◌≡◌, ℕ, true, false, List, [], ◌++◌, codes}
use Rattle.std.specs.List.{Contains}
use Rattle.cstar_io.specs.Output.{Takes, TakesPrefix}
use Rattle.batch_top.specs.declared.ending.Ending.{Ending}
use Rattle.batch_top.specs.declared.ending.Ending.TheVariants as E
use Rattle.batch_top.specs.Words.{is_batch, names_in}

-- the status of a batch
abbrev pub status_of : Ending → ℕ
status_of E.Done = 0
status_of E.Usage = 2
status_of (E.CannotRead name) = 5
status_of E.WriteFault = 6
status_of E.Memory = 8

abbrev pub usage_line : List ℕ
usage_line = codes "usage: cstar batch CALLERS FILE...\n"

abbrev pub unread_line : List ℕ → List ℕ
unread_line name = codes "cannot read " ++ (name ++ codes "\n")

-- the line on the error output; none for a batch that went well, or whose output failed
abbrev pub line_of : Ending → List ℕ
line_of E.Done = []
line_of E.Usage = usage_line
line_of (E.CannotRead name) = unread_line name.now
line_of E.WriteFault = []
line_of E.Memory = codes "out of memory\n"

-- what a batch of these names can come to: a file that cannot be read is one of them
abbrev pub CanEnd : List (List ℕ) → Ending → Type 0
CanEnd names E.Usage = ⊥
CanEnd names (E.CannotRead name) = Contains names name.now
CanEnd names _ = Unit {0}

-- what the words can come to: usage where they are no batch, and else what a batch can come to
abbrev pub CanFollow : List (List ℕ) → Ending → Type 0
CanFollow words E.Usage = is_batch words ≡ false
CanFollow words ending = (is_batch words ≡ true) × CanEnd (names_in words) ending

-- a sink takes the line of an ending that the words can come to and that has the status
abbrev pub PutsEnding : {E : Type 0} → (E → List ℕ → Type 0) → E → E → List (List ℕ) → ℕ → Type 0
PutsEnding agrees old new words status =
    (ending : Ending) × CanFollow words ending × (status_of ending ≡ status) × Takes agrees old new (line_of ending)

-- a sink takes the first bytes of the line of an ending that the words can come to
abbrev pub PutsPartOfEnding : {E : Type 0} → (E → List ℕ → Type 0) → E → E → List (List ℕ) → Type 0
PutsPartOfEnding agrees old new words =
    (ending : Ending) × CanFollow words ending × TakesPrefix agrees old new (line_of ending)
