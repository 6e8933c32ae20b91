use Rattle.std.proofs.Common.{◌≡◌, ℕ, List, ◌-◌, length, inr, take, drop, sym, arith}
use Rattle.std.proofs.lemmas.Grind.{common_steps}
use Rattle.std.proofs.lemmas.List.{take-append-drop}
use Rattle.paris_code.specs.Plain.{IsBracketed, IsElementName, IsName}
use Rattle.paris_asm.proofs.plain.is_element_name.Goals as goal

element : (text : List ℕ) (at : ℕ) → IsName (take at text) → IsBracketed (take (length text - at) (drop at text)) → IsElementName text
element text at name bracketed =
    let all : take (length text - at) (drop at text) ≡ drop at text = grind (arith, common_steps) in
    inr (take at text, (take (length text - at) (drop at text), name, bracketed, rw all (sym (take-append-drop at text))))

pub returns-then-is_name : goal.returns-then-is_name
returns-then-is_name c = λ holds. element c.args.text.now c.in-Some.at (c.is_name.ensures c.if-is_name.true) (c.is_bracketed.ensures holds)
