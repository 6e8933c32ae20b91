-- `printf` on scalar arguments of 32 bits.
use Rattle.std.proofs.Common.{◌≡◌, ◌∙◌, ℕ, suc, ◌+◌, Bool, false, Vec, Global, List, [], ◌∷◌, ◌++◌, length, slice_index, map, refl, sym, ap, subst, append_assoc, arith}
use Rattle.std.specs.List.{All}
use Rattle.cstar_base.specs.declared.elem.Elem.{Elem}
use Rattle.std.proofs.lemmas.List.{append-nil}
use mathlib.Core.Former.{Count}
use Rattle.cstar_base.specs.Numerals.{word_text}
use Rattle.cstar_tree.specs.declared.typed.Piece.{Piece}
use Rattle.cstar_tree.specs.declared.typed.Piece.TheVariants as Pc
use Rattle.cstar_tree.specs.declared.typed.TExpr.{Row_of-TExpr}
use Rattle.cstar_tree.specs.declared.typed.TExpr as T
use Rattle.cstar_tree.specs.declared.typed.ValueType.{ValueType}
use Rattle.cstar_tree.specs.declared.typed.Variable.TheVariants as V
use Rattle.cstar_tree.specs.declared.typed.Variable.{Variable}
use Rattle.code_lengths.specs.Lowerable.{IsLowerable}
use Rattle.code_lengths.specs.Naming.{NamesVariables}
use Rattle.code_lengths.specs.Shaped.{IsShaped}
use Rattle.code_lengths.specs.Ready.{HasCode, HaveCode, IsReadyButForFields}
use Rattle.lower_base.specs.declared.emit.Out.{Out}
use Rattle.lower_base.specs.declared.emit.Out.TheVariants as O
use Rattle.lower_base.specs.Drafts.{Draft, Fails, Made, Makes, Plain, in_register, step as step_of, then_make, with_instr}
use Rattle.lower_expr.specs.Operands.{are_quiet}
use Rattle.lower_expr.specs.Steps.{pieces_printed}
use Rattle.lower_expr.specs.Values.{values_of}
use Rattle.paris_code.specs.declared.instr.Instr.TheVariants as I
use Rattle.paris_code.specs.declared.instr.Instr.{Instr}
use Rattle.paris_code.specs.Code.{CodeState, Goes, begun, with_printed}
use Rattle.source_meaning.specs.Expressions.{operands, values_of as given_values}
use Rattle.source_meaning.specs.Gets.{Operand}
use Rattle.source_meaning.specs.Printing.{printed}
use Rattle.source_meaning.specs.State as Source
use Rattle.source_meaning.specs.State.{Outcome, State, then_do, with_output}
use Rattle.source_meaning.specs.Values.{Active, Nothing, Scope, Value, number}
use Rattle.code_follows.specs.Fragment.{AreIn, elems_of, naming}
use Rattle.code_follows.proofs.CallValues.{arguments_code}
use Rattle.code_follows.proofs.Expressions.{arguments_do}
use Rattle.code_follows.proofs.Arguments.{AreHeld, Given, arguments_follow}
use Rattle.code_follows.proofs.Callees.{CallsFollow}
use Rattle.code_follows.proofs.Following.{Extends, Follows, HasRegisters, Keeps, Ran, Sim, delayed, extends_made, finishes_later, keeps_all, keeps_on, then_follows}
use Rattle.code_follows.proofs.Growing.{Extended, as_it_was, extended}
use Rattle.code_follows.proofs.Settings.{OpenAmong, At, Begun, Reaches, Setting, and_one, at_next, begins_here, layout, one, onto, placed_instr, stay}
use Rattle.code_follows.proofs.Values.{extends_in_register}
use Rattle.code_follows.proofs.Words.{below_word, held_wide}

module _ (g : Setting) (has : HasRegisters g) (alive : Variable → Type 0) (n : ℕ) (files : (k : ℕ) → alive (V.File k)) (ready : (d : Draft) → IsReadyButForFields g.typed g.instance (layout g) n d) (scope : Scope) (active : Active) (calls_follow : CallsFollow g scope active) where
  -- ---- the pieces

  -- the words stand in the registers, whatever is printed
  unfoldable Stand : List ℕ → List Out → List ℕ → Type 0
  Stand [] [] registers = Unit {0}
  Stand (w ∷ words) (out ∷ outs) registers = (r : ℕ) × (out ≡ O.Scalar r) × (slice_index registers r ≡ w) × Stand words outs registers
  Stand _ _ registers = ⊥

  stand_now : (quiet : Bool) (given : List Operand) (outs : List Out) (e : Draft) (st : State) (s : CodeState) → Sim g alive st s → All (λ (elem : Elem). elem.bits ≡ 32) (map (λ (o : Operand). o.elem) given) → AreHeld g has alive scope active quiet given outs e st s → Stand (map number (given_values given)) outs s.registers
  unfolding AreHeld Stand given_values number
  stand_now quiet [] [] e st s sim wide h = tt
  stand_now quiet (o ∷ given) (out ∷ outs) e st s sim wide h =
      let holds = h.0 in
      let long : o.elem.bits ≡ 32 = wide 0 o.elem (omega arith) in
      (holds.register, holds.is, holds.lasts st s sim (keeps_all g e s) (λ calm. refl) ∙ held_wide o.elem holds.word long (below_word o.elem.bits holds.word long holds.small) ∙ sym (ap number holds.value), stand_now quiet given outs e st s sim (λ k other less. wide (suc k) other (omega (arith, less))) h.1)
  stand_now quiet [] (out ∷ outs) e st s sim wide h = absurd h
  stand_now quiet (o ∷ given) [] e st s sim wide h = absurd h

  pieces_grow : (pieces : List Piece) (outs : List Out) (d : Draft) → Extends g d (pieces_printed pieces outs d)
  unfolding pieces_printed Extends
  pieces_grow [] outs d = (0, as_it_was d)
  pieces_grow (Pc.Bytes bytes ∷ rest) outs d = extends_made g d (with_instr (I.FrontPutBytes bytes) d) 1 _ (and_one g (I.FrontPutBytes bytes) d) (pieces_grow rest outs (with_instr (I.FrontPutBytes bytes) d))
  pieces_grow (Pc.Argument format ∷ rest) [] d = tt
  pieces_grow (Pc.Argument format ∷ rest) (v ∷ outs) d =
      extends_in_register g has alive d v _ (λ r. extends_made g d (with_instr (I.FrontPut format r) d) 1 _ (and_one g (I.FrontPut format r) d) (pieces_grow rest outs (with_instr (I.FrontPut format r) d)))

  -- the source and the code print the same
  sim_printed : (bytes : List ℕ) (st : State) (s : CodeState) → Sim g alive st s → Sim g alive (with_output bytes st) (with_printed bytes s)
  unfolding with_output
  sim_printed bytes st s h = record { registers = h.registers; scalars = h.scalars; small = h.small; constants = h.constants; turns = h.turns; output = ap (λ (o : List ℕ). o ++ bytes) h.output; input = h.input; bytes = h.bytes; returns = h.returns; few = h.few; memory = g.held.still (OpenAmong g alive) (s.at + 1) st (with_output bytes st) s.memory ((λ k e p. refl), (λ k is_open e p. refl)) refl (g.held.onward (OpenAmong g alive) s.at (s.at + 1) st s.memory (omega arith) h.memory) }

  printed_on : (one rest : List ℕ) (st : State) → with_output (one ++ rest) st ≡ with_output rest (with_output one st)
  unfolding with_output
  printed_on one rest st = ap (λ (o : List ℕ). record st { output = o }) (sym (append_assoc st.output one rest))

  printed_nothing : (st : State) → with_output [] st ≡ st
  unfolding with_output
  printed_nothing st = ap (λ (o : List ℕ). record st { output = o }) (append-nil st.output)

  -- seen from before
  from_before : (d e : Draft) (k : ℕ) (s t : CodeState) (o : Outcome Value) (made : Made Out) → Extended d k e → Reaches g s t → Keeps g d s t → Follows g (λ v u out f. Ran g alive e t u f) t o made → Follows g (λ v u out f. Ran g alive d s u f) s o made
  unfolding Follows
  from_before d e k s t (Source.Gives v u) (Makes out f) x go keeps h = λ w. let r = h w in record {
    grown = (k + r.grown.0, extended d e f k r.grown.0 x r.grown.1);
    t = r.t;
    go = onto g s t r.t go r.go;
    at = r.at;
    sim = r.sim;
    keeps = keeps_on g d e k s t r.t x keeps r.keeps;
  }
  from_before d e k s t (Source.Ends early u) (Makes out f) x go keeps h = λ w. finishes_later g early u s t go (h w)
  from_before d e k s t (Source.Gives v u) Fails x go keeps h = tt
  from_before d e k s t (Source.Ends early u) Fails x go keeps h = tt

  abbrev Prints : List ℕ → Draft → CodeState → State → Made Out → Type 0
  Prints bytes d s st made = Follows g (λ v u out f. Ran g alive d s u f) s (Source.Gives Nothing (with_output bytes st)) made

  prints_one : (instr : Instr) (text rest : List ℕ) (d : Draft) (s : CodeState) (st : State) (made : Made Out) → step_of instr ≡ Plain instr → begun g.image (placed_instr g instr) s ≡ Goes (with_printed text s) → At g s (length d.code) → Extends g (with_instr instr d) made
      → Prints rest (with_instr instr d) (with_printed text s) (with_output text st) made → Prints (text ++ rest) d s st made
  prints_one instr text rest d s st made plain begins here grows later =
      delayed g (λ v u out f. Ran g alive d s u f) (with_instr instr d) s (Source.Gives Nothing (with_output (text ++ rest) st)) made grows (λ within.
      from_before d (with_instr instr d) 1 s (with_printed text s) (Source.Gives Nothing (with_output (text ++ rest) st)) made (and_one g instr d) (one g s (with_printed text s) (begins_here g instr d s within plain here ∙ begins) refl) (λ r kept. refl)
      (subst (λ (u : State). Follows g (λ v w out f. Ran g alive (with_instr instr d) (with_printed text s) w f) (with_printed text s) (Source.Gives Nothing u) made) (sym (printed_on text rest st)) later))

  pieces_follow : (pieces : List Piece) (words : List ℕ) (outs : List Out) (d : Draft) (s : CodeState) (st : State) → At g s (length d.code) → Sim g alive st s → Stand words outs s.registers
      → Prints (printed pieces words) d s st (pieces_printed pieces outs d)
  unfolding pieces_printed printed Stand Follows begun step_of in_register
  pieces_follow [] words outs d s st here sim stand = λ within. record { grown = (0, as_it_was d); t = s; go = stay g s; at = here; sim = subst (λ (u : State). Sim g alive u s) (sym (printed_nothing st)) sim; keeps = keeps_all g d s }
  pieces_follow (Pc.Bytes text ∷ rest) words outs d s st here sim stand =
      prints_one (I.FrontPutBytes text) text (printed rest words) d s st (pieces_printed rest outs (with_instr (I.FrontPutBytes text) d)) refl refl here (pieces_grow rest outs (with_instr (I.FrontPutBytes text) d))
      (pieces_follow rest words outs (with_instr (I.FrontPutBytes text) d) (with_printed text s) (with_output text st) (at_next g (I.FrontPutBytes text) d s (s.at + 1) here refl) (sim_printed text st s sim) stand)
  pieces_follow (Pc.Argument format ∷ rest) words [] d s st here sim stand = tt
  pieces_follow (Pc.Argument format ∷ rest) [] (out ∷ outs) d s st here sim stand = absurd stand
  pieces_follow (Pc.Argument format ∷ rest) (w ∷ words) (out ∷ outs) d s st here sim stand =
      let r : ℕ = stand.0 in
      subst (λ (o : Out). Prints (word_text format w ++ printed rest words) d s st (in_register o (λ source. pieces_printed rest outs (with_instr (I.FrontPut format source) d)))) (sym stand.1)
      (prints_one (I.FrontPut format r) (word_text format w) (printed rest words) d s st (pieces_printed rest outs (with_instr (I.FrontPut format r) d)) refl (ap (λ (x : ℕ). Goes (with_printed (word_text format x) s)) stand.2) here (pieces_grow rest outs (with_instr (I.FrontPut format r) d))
      (pieces_follow rest words outs (with_instr (I.FrontPut format r) d) (with_printed (word_text format w) s) (with_output (word_text format w) st) (at_next g (I.FrontPut format r) d s (s.at + 1) here refl) (sim_printed (word_text format w) st s sim) stand.3))

  -- ---- the whole

  pub printf_follows : {k : Count} (pieces : List Piece) (row : Row_of-TExpr k) → (AreIn (naming g.may alive)) row → All (λ (elem : Elem). elem.bits ≡ 32) (elems_of row) → HaveCode g.typed g.instance n row → (d : Draft) (s : CodeState) (st : State) → Begun g alive d → At g s (length d.code) → Sim g alive st s
      → Follows g (λ v u out e. Ran g alive d s u e) s (then_do (operands scope row active st) (λ given after. Source.Gives Nothing (with_output (printed pieces (map number (given_values given))) after))) (then_make (values_of g.typed (layout g) false (are_quiet row) row [] d) (λ given after. pieces_printed pieces given after))
  printf_follows pieces row isin wide c d s st free here sim =
      then_follows g (Given g has alive scope active (are_quiet row) (elems_of row) d s st []) (λ v u out e. Ran g alive d s u e) s s (operands scope row active st) _ _ _ (stay g s) (arguments_follow g has alive scope active false (are_quiet row) row (λ is. is) (arguments_do g has alive n files ready scope active calls_follow false (are_quiet row) row isin c) [] d s st free here sim) (λ given e. pieces_grow pieces given e)
      (λ given u all e r. subst (λ (outs : List Out). Follows g (λ v w out f. Ran g alive d s w f) s (Source.Gives Nothing (with_output (printed pieces (map number (given_values given))) u)) (pieces_printed pieces outs e)) (sym r.is)
      (from_before d e r.grown.0 s r.t _ _ r.grown.1 r.go r.keeps (pieces_follow pieces (map number (given_values given)) r.more e r.t u r.at r.sim (stand_now (are_quiet row) given r.more e u r.t r.sim (subst (λ (es : List Elem). All (λ (elem : Elem). elem.bits ≡ 32) es) (sym r.are_of) wide) r.held))))

  pub printf_code : (ty : ValueType) (pieces : Vec Piece Global) (p : Vec (Unit {0}) Global) (row : _) → HasCode g.typed g.instance n (T.Printf' ty pieces p row) → HaveCode g.typed g.instance n row
  unfolding IsShaped IsLowerable NamesVariables
  printf_code ty pieces p row c = arguments_code g has alive n files ready scope active calls_follow row c.shaped c.lowerable.2 c.names
