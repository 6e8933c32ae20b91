-- What is sent stands in a field behind its code: a pure value and a scan in their own, and a promoted scalar in one to
-- which it is spread.
use Rattle.std.proofs.Common.{◌≡◌, ℕ, ◌<◌, ◌≤◌, ◌^◌, ◌⊎◌, inl, inr, Bool, true, false, length, Some, None, refl, sym, ap, subst, if◌then◌else◌, Option}
use Rattle.cstar_tree.specs.declared.typed.TExpr.{TExpr}
use Rattle.cstar_tree.specs.declared.typed.Variable.{Variable}
use Rattle.cstar_tree.specs.Typed.{type_of}
use Rattle.code_lengths.proofs.Agreeing.{lengths_if_made}
use Rattle.code_lengths.specs.Ready.{IsReadyButForFields}
use Rattle.lower_base.specs.declared.emit.Out.{Out}
use Rattle.lower_expr.specs.Steps.{in_a_field, is_kept, word_of}
use Rattle.paris_code.specs.declared.operands.Konst.TheVariants as K
use Rattle.code_follows.proofs.Following.{Follows, extends_made, Extends, HasRegisters, Sim, extends_then, follows_same, held}
use Rattle.code_follows.proofs.Growing.{as_it_was}
use Rattle.code_follows.proofs.Words.{below_bits, held_wide}
use Rattle.fields_follow.specs.Fragment.{IsOperand, IsScan}
use Rattle.fields_follow.proofs.Forms.{HasItsCode, pure_kept}
use Rattle.fields_follow.proofs.Outcomes.{Given, given_weaker, meant}
use Rattle.fields_follow.proofs.Operands.{in_field_extends, promoted_spreads}
use Rattle.fields_follow.proofs.Passing.{GivesField}
use Rattle.lower_base.specs.declared.emit.Out.TheVariants as O
use Rattle.lower_base.specs.Drafts.{Draft, Made, Makes, an_entry, then_make, with_instr}
use Rattle.lower_expr.specs.Values.{spread_by, spread_into, value_of}
use Rattle.paris_code.specs.declared.instr.Instr.TheVariants as I
use Rattle.paris_code.specs.declared.operands.Field.{Field}
use Rattle.paris_code.specs.declared.program.Owner.TheVariants as W
use Rattle.paris_code.specs.Code.{CodeState}
use Rattle.source_meaning.specs.State.{State}
use Rattle.code_follows.proofs.Settings.{Setting, and_one, layout}
use Rattle.code_follows.proofs.Values.{extends_grown}
use Rattle.fields_follow.proofs.Computing.{pure_after}
use Rattle.fields_follow.proofs.Instructions.{extents}
use Rattle.fields_follow.proofs.Meaning.{value_in, word_at}
use Rattle.fields_follow.proofs.Places.{HoldsTheFields, PlacesFields}
use Rattle.fields_follow.proofs.ScanForms.{scan_kept, scan_shape}
use Rattle.fields_follow.proofs.Scanned.{scan_valued, scan_words}
use Rattle.fields_follow.proofs.Scanning.{scanned_in}
use Rattle.fields_follow.proofs.ScanOperands.{GivesScan}
use Rattle.fields_follow.proofs.Sizes.{operand_small}
use Rattle.fields_follow.proofs.Starts.{Starts}
use Rattle.fields_follow.proofs.Values.{Gives as GivesOut, IsFlag, and_entry, next_field, with_entry}

module _ (g : Setting) (has : HasRegisters g) (alive : Variable → Type 0) (n : ℕ) (ready : (d : Draft) → IsReadyButForFields g.typed g.instance (layout g) n d) (places : PlacesFields g) (fields : HoldsTheFields g) where
  abbrev code_of : ℕ → TExpr → Draft → Made Out
  code_of bits e d = value_of g.typed (layout g) bits e d

  -- the code of what is sent, as a field
  abbrev pub spread_of : ℕ → ℕ → TExpr → Draft → Made Out
  spread_of bits set e d = spread_by (λ y. code_of bits e y) e set bits d

  abbrev pub GivesSpread : ℕ → Draft → CodeState → ℕ → State → (ℕ → ℕ) → Out → Draft → Type 0
  GivesSpread bits d s set st w out f = (a : Field) × ((out ≡ O.Field a) × GivesField g alive bits (length d.fields) d s set st w a f)

  -- it gives the lowest bits of the words of these numbers
  abbrev pub IsSpread : ℕ → ℕ → TExpr → (State → ℕ → ℕ) → Type 0
  IsSpread bits set e number =
      (d : Draft) (s : CodeState) (st : State) → Starts g alive s (length d.code) d.regs (length d.fields) → Sim g alive st s
      → Follows g (Given g (number st) st (GivesSpread bits d s set st (λ q. held (type_of e).elem (number st q)))) s (meant g fields e st) (spread_of bits set e d)

  -- A value that is sent: its numbers are of its type, and its code gives the lowest bits of their words.
  pub record Sendable (set : ℕ) (e : TExpr) : Type 0 where
    pub number : State → ℕ → ℕ
    pub small : (s : CodeState) (st : State) → Sim g alive st s → (q : ℕ) → number st q < 2 ^ (type_of e).elem.bits
    pub spreads : (bits : ℕ) → 0 < bits → bits ≤ 32 → IsSpread bits set e number

  abbrev numbers_of : ℕ → TExpr → State → ℕ → ℕ
  numbers_of set e st q = value_in (extents g set) st e q

  abbrev spread_if : Bool → ℕ → ℕ → TExpr → Draft → Made Out
  spread_if kept bits set e d = if kept then then_make (an_entry set bits W.Own d) (λ dest between. then_make (spread_into (λ y. code_of bits e y) e dest between) (λ f after. Makes (O.Field f) after)) else code_of bits e d

  operand_spreads : (bits set : ℕ) (e : TExpr) → 0 < bits → bits ≤ 32 → IsOperand set e → HasItsCode g.typed g.instance alive n e → IsSpread bits set e (numbers_of set e)
  unfolding spread_by
  operand_spreads bits set e some most operand c d s st here sim =
      given_weaker g s (meant g fields e st) (λ q. value_in (extents g set) st e q) st (GivesOut g has alive n ready places fields (IsFlag e) bits (length d.fields) d s set st (λ q. word_at (extents g set) st e q)) (GivesSpread bits d s set st (λ q. word_at (extents g set) st e q)) (spread_of bits set e d) (λ out f (a, (is, (gives, apart))). (a, (is, gives)))
      (by operand)
    where
      by : IsOperand set e → Follows g (Given g (λ q. value_in (extents g set) st e q) st (GivesOut g has alive n ready places fields (IsFlag e) bits (length d.fields) d s set st (λ q. word_at (extents g set) st e q))) s (meant g fields e st) (spread_of bits set e d)
      by (inl pure) = follows_same g (Given g (λ q. value_in (extents g set) st e q) st (GivesOut g has alive n ready places fields (IsFlag e) bits (length d.fields) d s set st (λ q. word_at (extents g set) st e q))) s refl (ap (λ (b : Bool). spread_if b bits set e d) (pure_kept set e pure)) (pure_after g has alive n ready places fields bits set e some most pure c d s st here sim)
      by (inr promoted) = promoted_spreads g has alive n ready places fields bits set e promoted c d s st here sim

  scan_spreads : (bits set : ℕ) (e : TExpr) → 0 < bits → bits ≤ 32 → IsScan set e → HasItsCode g.typed g.instance alive n e → IsSpread bits set e (λ st q. scanned_in g alive places fields set st e q)
  unfolding spread_by
  scan_spreads bits set e some most scans c d s st here sim =
      follows_same g (Given g v st (GivesSpread bits d s set st w)) s refl (ap (λ (b : Bool). spread_if b bits set e d) (scan_kept set e scans))
      (given_weaker g s (meant g fields e st) v st (GivesScan g has alive n ready places fields set bits e d s st) (GivesSpread bits d s set st w) (code_of bits e d) (λ out f (a, (is, (gives, apart))). (a, (is, subst (λ (x : ℕ → ℕ). GivesField g alive bits (length d.fields) d s set st x a f) words gives)))
      (scan_valued g has alive n ready places fields set bits e some most scans c d s st here sim))
    where
      v : ℕ → ℕ
      v q = scanned_in g alive places fields set st e q

      w : ℕ → ℕ
      w q = held (type_of e).elem (v q)

      words : ◌≡◌ {A = ℕ → ℕ} (λ q. v q) (λ q. w q)
      words = λ j q. sym (held_wide (type_of e).elem (v q) (scan_shape set e scans).1 (scan_words g has alive n ready places fields set e st s sim scans c q)) j

  -- operands are sent, and scans
  pub sendable : (set : ℕ) (e : TExpr) → IsOperand set e ⊎ IsScan set e → HasItsCode g.typed g.instance alive n e → Sendable set e
  sendable set e (inl operand) c = record {
    number = numbers_of set e;
    small = λ s st sim q. operand_small g alive n places fields set e st s sim operand c q;
    spreads = λ bits some most. operand_spreads bits set e some most operand c;
  }
  sendable set e (inr scans) c = record {
    number = λ st q. scanned_in g alive places fields set st e q;
    small = λ s st sim q. below_bits (type_of e).elem.bits _ (scan_shape set e scans).1 (scan_words g has alive n ready places fields set e st s sim scans c q);
    spreads = λ bits some most. scan_spreads bits set e some most scans c;
  }

  -- the code goes on from where it stands
  pub spread_grows : (bits set : ℕ) (e : TExpr) → HasItsCode g.typed g.instance alive n e → (x : Draft) → Extends g x (spread_of bits set e x)
  unfolding spread_by spread_into an_entry then_make Extends
  spread_grows bits set e c x = by (is_kept e) (word_of e)
    where
      code_grows : (y : Draft) → Extends g y (code_of bits e y)
      code_grows y = extends_grown g has alive _ y _ _ ((lengths_if_made g.typed g.instance (layout g)).value bits n e y c.code (ready y))

      dest : Field
      dest = next_field set bits x

      x1 : Draft
      x1 = with_entry set bits W.Own x

      into : Option ℕ → Made Field
      into o = elim o as (λ _. Made Field) [ Some word ↦ Makes dest (with_instr (I.MoveConstant dest (K.Imm word)) x1) | None ↦ then_make (code_of bits e x1) (λ v after. in_a_field v dest after) ]

      into_grows : (o : Option ℕ) → Extends g x1 (into o)
      into_grows (Some word) = (1, and_one g (I.MoveConstant dest (K.Imm word)) x1)
      into_grows None = extends_then g x1 (code_of bits e x1) (λ v after. in_a_field v dest after) (code_grows x1) (λ v after. in_field_extends g v dest after)

      by : (b : Bool) (o : Option ℕ) → Extends g x (if b then then_make (into o) (λ f after. Makes (O.Field f) after) else code_of bits e x)
      by true o = extends_made g x x1 0 (then_make (into o) (λ f after. Makes (O.Field f) after)) (and_entry set bits W.Own x) (extends_then g x1 (into o) (λ f after. Makes (O.Field f) after) (into_grows o) (λ f after. (0, as_it_was after)))
      by false o = code_grows x
