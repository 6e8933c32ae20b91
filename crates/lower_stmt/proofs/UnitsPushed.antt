-- One more unit.
use Rattle.std.proofs.Common.{◌≡◌, ℕ, ◌+◌, ◌==◌, List, [], ◌∷◌, ◌++◌, length, map, refl, ap, arith}
use Rattle.std.proofs.lemmas.List.{length-map}
use Rattle.cstar_tree.specs.declared.typed.Instance.{Instance}
use Rattle.cstar_tree.specs.declared.typed.Typed.{Typed}
use Rattle.paris_code.specs.declared.program.Unit as U
use Rattle.lower_base.specs.Drafts.{Draft, Makes, draft, step}
use Rattle.lower_base.specs.Layouts.{layout_of}
use Rattle.lower_stmt.specs.Programs.{instructions_in, joined, slots_behind, unit_of, units_of}

pub first_unit : (t : Typed) (words : List ℕ) (instance : Instance) (instances : List Instance) (number regs : ℕ) (u : U.Unit) →
    unit_of t (layout_of t words number) (number == 0) regs instance ≡ Makes tt (draft u) →
    units_of t words (instance ∷ instances) number regs ≡ draft u ∷ units_of t words instances (number + 1) u.regs
unfolding units_of joined draft
first_unit t words instance instances number regs u made = rw made refl

pub one_more_unit : (units : List U.Unit) (u : U.Unit) (rest : List Draft) → map draft (units ++ u ∷ []) ++ rest ≡ map draft units ++ draft u ∷ rest
one_more_unit [] u rest = refl
one_more_unit (first ∷ units) u rest = ap (λ (all : List Draft). draft first ∷ all) (one_more_unit units u rest)

pub slots_more : (regs : ℕ) (units : List U.Unit) (u : U.Unit) → slots_behind regs (map draft (units ++ u ∷ [])) ≡ u.regs
unfolding slots_behind draft
slots_more regs [] u = refl
slots_more regs (first ∷ units) u = slots_more first.regs units u

pub instructions_more : (units : List U.Unit) (u : U.Unit) → instructions_in (map draft (units ++ u ∷ [])) ≡ instructions_in (map draft units) + length u.code.items
unfolding instructions_in draft
instructions_more [] u =
    let same = length-map u.code.items step in
    grind (arith, same)
instructions_more (first ∷ units) u =
    let more = instructions_more units u in
    grind (arith, more)
