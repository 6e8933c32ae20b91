-- What a jump loads, from the newest saved context on.
use Rattle.std.proofs.Common.{◌≡◌, ℕ, zero, suc, ◌-◌, ◌<◌, List, [], ◌∷◌, ◌++◌, length, refl, arith}
use Rattle.std.proofs.lemmas.List.{reverse-append}
use Rattle.paris_code.specs.declared.instr.Instr.TheVariants as I
use Rattle.paris_code.specs.declared.operands.Field.{Field}
use Rattle.lower_base.specs.Drafts.{Draft, with_instr}
use Rattle.lower_stmt.specs.Statements.{loaded, restored}

pub restored_none : (contexts : List Field) (newest : ℕ) (d : Draft) → newest ≡ 0 → restored contexts newest d ≡ d
unfolding loaded restored
restored_none contexts newest d none = rw none refl

pub restored_outermost : (contexts : List Field) (newest : ℕ) (d : Draft) → length contexts ≡ 0 → 0 < newest → restored contexts newest d ≡ d
unfolding loaded restored
restored_outermost [] newest d none some =
    let one : newest ≡ suc (newest - 1) = omega arith in
    rw one refl
restored_outermost (first ∷ contexts) newest d none some = absurd (omega arith)

pub restored_more : (contexts older : List Field) (source : Field) (newest : ℕ) (d : Draft) → contexts ≡ older ++ source ∷ [] → 0 < newest →
    restored contexts newest d ≡ restored older (newest - 1) (with_instr (I.LoadContext source) d)
unfolding loaded restored
restored_more contexts older source zero d ends some = absurd (omega arith)
restored_more contexts older source (suc left) d ends some =
    let one : suc left - 1 ≡ left = omega arith in
    rw (ends, reverse-append older (source ∷ []), one) refl
