use Rattle.std.proofs.Common.{◌≡◌, ℕ, ◌+◌, ◌*◌, ◌/◌, ◌%◌, ◌<◌, ◌≤◌, [], get_or, ◌∙◌, sym, ap, subst, inl, inr, arith}
use Rattle.std.specs.Prelude.{slice_index}
use Rattle.std.proofs.lemmas.Bool.{cases_eq}
use Rattle.block_store.specs.declared.set.Cell.{Cell}
use Rattle.block_store.specs.Stored.{word_at}
use Rattle.elementwise.proofs.Failing.{first_word}
use Rattle.elementwise.proofs.checks.least_held.Goals as goal

pub returns-then-lane-lt512 : goal.returns-then-lane-lt512
returns-then-lane-lt512 c =
    let cells = c.args.cells.now in
    let k = c.cells.k in
    let none : Cell = record { words = []; cuts = record { bits = [] } } in
    let lane : ℕ = slice_index (get_or cells k none).words 0 in
    let below : lane < 512 = c.if-lane-lt512.true in
    let block : (512 * k + lane) / 512 ≡ k = omega (arith, below) in
    let rest : (512 * k + lane) % 512 ≡ lane = omega (arith, below) in (
      omega (arith, block, c.cells-test.true),
      ap (λ j. word_at cells (512 * j)) block ∙ sym (first_word cells k none (omega (arith, c.cells-test.true, c.requires.cells))) ∙ sym rest,
      λ j h. c.cells.invariant j (omega (arith, h, block)),
    )

pub cells-preserved : goal.cells-preserved
cells-preserved c = λ j h.
    let cells = c.args.cells.now in
    let k = c.cells.k in
    let none : Cell = record { words = []; cuts = record { bits = [] } } in
    elim (cases_eq j k) [
      | inl e ↦ subst (λ i. 512 ≤ word_at cells (512 * i)) (sym e) (omega (arith, first_word cells k none (omega (arith, c.cells-test.true, c.requires.cells)), c.if-lane-lt512.false))
      | inr n ↦ c.cells.invariant j (omega (arith, h, n))
    ]
