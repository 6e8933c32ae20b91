use Rattle.std.proofs.Common.{◌≡◌, ◌∙◌, ℕ, List, ◌+◌, flat_map, take, drop, length, ap, sym, subst, arith}
use Rattle.cstar_io.specs.Output.{Takes}
use Rattle.paris_code.specs.declared.program.Final.{Final}
use Rattle.paris_code.specs.declared.program.Image.{Image}
use Rattle.paris_code.specs.Shapes.{shapes_of}
use Rattle.paris_text.proofs.Putting.{failed_in}
use Rattle.final_values.specs.Finals.{finals_text, values_line}
use Rattle.final_values.proofs.Rows.{text_split, text_whole}
use Rattle.final_values.proofs.lines.put_finals.Goals as goal

pub returns-in-Err : goal.returns-in-Err
unfolding finals_text
returns-in-Err g c =
    let text = values_line (shapes_of c.args.sound.now) (g.P.Phases.memory c.args.phases.now) in
    let items = c.deref-last-items.result.now in
    let n = c.finals.last-index in
    let last = c.last-item.result in
    let same : items ≡ c.args.sound.now.finals.items = c.deref-last-items.ensures.value ∙ ap (λ (i : Image). i.finals.items) c.image.ensures.same in
    let whole = ap (λ (l : List Final). flat_map text l) (sym same) ∙ text_split text items n last c.finals-test.true c.last-item.is in
    failed_in g.O.Sink.agrees g.O.Sink.faults c.args.out.now c.finals.out c.put_final.new.out (flat_map text c.args.sound.now.finals.items) (flat_map text (take n items)) (text last) (flat_map text (drop (n + 1) items)) whole c.finals.invariant c.in-Err.ensures

pub returns : goal.returns
unfolding finals_text
returns g c =
    let text = values_line (shapes_of c.args.sound.now) (g.P.Phases.memory c.args.phases.now) in
    let items = c.deref-last-items.result.now in
    let n = c.finals.last-index in
    let same : items ≡ c.args.sound.now.finals.items = c.deref-last-items.ensures.value ∙ ap (λ (i : Image). i.finals.items) c.image.ensures.same in
    let all : n ≡ length items = omega (arith, c.finals-test.false, c.finals.auto.last-index-end) in
    let whole = text_whole text items n all ∙ ap (λ (l : List Final). flat_map text l) same in
    (subst (λ (bytes : List ℕ). Takes g.O.Sink.agrees c.args.out.now c.finals.out bytes) whole c.finals.invariant.0, c.finals.invariant.1)
