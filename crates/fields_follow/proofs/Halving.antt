-- Around halves: a field is taken for a value, and one for the context, which is stored in it behind code that leaves what
-- stood. Behind the halves the first one has the words, and all else is as it was.
use Rattle.std.proofs.Common.{◌≡◌, ◌∙◌, ℕ, ◌+◌, ◌<◌, ◌≤◌, ◌%◌, ◌^◌, inl, true, List, [], length, slice_index, refl, sym, ap, arith}
use Rattle.std.specs.Int.{from_bool}
use Rattle.cstar_tree.specs.declared.typed.Variable.{Variable}
use Rattle.code_lengths.specs.Ready.{IsReadyButForFields}
use Rattle.lower_base.specs.declared.emit.Out.TheVariants as O
use Rattle.lower_base.specs.Drafts.{Draft, step as step_of, with_instr}
use Rattle.paris_code.specs.declared.instr.Instr.TheVariants as I
use Rattle.paris_code.specs.declared.operands.Field.{Field}
use Rattle.paris_code.specs.declared.program.Owner.TheVariants as W
use Rattle.paris_code.specs.Code.{CodeState}
use Rattle.paris_code.specs.Memory.{is_active, processors}
use Rattle.paris_code.specs.Spans.{IsNamedAt}
use Rattle.source_meaning.specs.State.{State}
use Rattle.code_follows.proofs.Following.{HasRegisters, Sim, keeps_less, keeps_on}
use Rattle.code_follows.proofs.Growing.{Extended, extended}
use Rattle.code_follows.proofs.Settings.{Setting, Within, and_one, code_more, layout, onto}
use Rattle.fields_follow.proofs.Expressions.{Answers}
use Rattle.fields_follow.proofs.Flags.{Stored, store_context}
use Rattle.fields_follow.proofs.Halves.{Halved, Keeping, named_apart}
use Rattle.fields_follow.proofs.Instructions.{number_in, shapes}
use Rattle.fields_follow.proofs.Passing.{Passes, code_longer, fields_longer, flags_of}
use Rattle.fields_follow.proofs.Places.{HoldsTheFields, IsOwnField, PlacesFields, names_first, stands_here}
use Rattle.fields_follow.proofs.Starts.{Starts, no_home, starts_next}
use Rattle.fields_follow.proofs.Truths.{fields_sim, whole_sim}
use Rattle.fields_follow.proofs.Values.{and_entry, next_field, one_more, taken, with_entry}

-- the draft with both entries, and the field of the context
abbrev pub with_both : ℕ → ℕ → Draft → Draft
with_both bits set d = with_entry set 1 W.Own (with_entry set bits W.Own d)

abbrev pub context_field : ℕ → ℕ → Draft → Field
context_field bits set d = next_field set 1 (with_entry set bits W.Own d)

pub two_more : (bits set : ℕ) (d : Draft) → (length (with_entry set bits W.Own d).fields ≡ length d.fields + 1) × (length (with_both bits set d).fields ≡ length d.fields + 1 + 1)
two_more bits set d =
    let one = one_more set bits W.Own d in
    let two = one_more set 1 W.Own (with_entry set bits W.Own d) in
    (one, omega (arith, one, two))

and_both : (bits set : ℕ) (d : Draft) → Extended d 0 (with_both bits set d)
and_both bits set d = extended d (with_entry set bits W.Own d) (with_both bits set d) 0 0 (and_entry set bits W.Own d) (and_entry set 1 W.Own (with_entry set bits W.Own d))

module _ (g : Setting) (has : HasRegisters g) (alive : Variable → Type 0) (n : ℕ) (ready : (d : Draft) → IsReadyButForFields g.typed g.instance (layout g) n d) (places : PlacesFields g) (fields : HoldsTheFields g) (bits set : ℕ) (d : Draft) (s : CodeState) (st : State) (here : Starts g alive s (length d.code) d.regs (length d.fields)) where
  abbrev begun : Draft
  begun = with_both bits set d

  abbrev f : Field
  f = next_field set bits d

  abbrev saved : Field
  saved = context_field bits set d

  -- the entries are the unit's
  pub both_own : (e : Draft) (k : ℕ) → Extended begun k e → Within g e → IsOwnField g f × IsOwnField g saved
  both_own e k more within = (taken g set bits W.Own d e (0 + k) within (extended (with_entry set bits W.Own d) begun e 0 k (and_entry set 1 W.Own (with_entry set bits W.Own d)) more), taken g set 1 W.Own (with_entry set bits W.Own d) e k within more)

  module _ (e : Draft) (used : Type 0) (bound : ℕ) (less : length d.fields ≤ bound) (p : Passes g alive bound begun e s st used) (within : Within g (with_instr (I.StoreContext saved) e)) where
    abbrev saves : Draft
    saves = with_instr (I.StoreContext saved) e

    own : IsOwnField g f × IsOwnField g saved
    own = both_own saves (p.grown.0 + 1) (extended begun e saves p.grown.0 1 p.grown.1 (and_one g (I.StoreContext saved) e)) within

    -- the entries that there are
    entries : (length begun.fields ≤ length e.fields) × (length e.fields ≤ length saves.fields)
    entries = (fields_longer begun e p.grown.0 p.grown.1, fields_longer e saves 1 (and_one g (I.StoreContext saved) e))

    pub context_stored : Stored g places alive fields.active set saved e (I.StoreContext saved) p.t st (λ x. Unit {0}) (λ x. from_bool (fields.active set x))
    context_stored = store_context g places alive fields.active set saved e p.t st own.1 (no_home g alive (length d.fields) saved.offset (let l = two_more bits set d in let one = l.0 in omega (arith, one)) here) refl refl within p.at.stands (fields_sim g alive places fields st p.t p.sim)

    named_saved : IsNamedAt g.unit saved.offset (length e.code)
    unfolding step_of
    named_saved = names_first g (I.StoreContext saved) saved [] (length e.code) (stands_here g (I.StoreContext saved) e within refl) refl

    -- other own entries stay
    pub beside_context : (h : Field) (first later x : ℕ) → (h.offset ≡ saved.offset → ⊥) → IsOwnField g h → IsNamedAt g.unit h.offset first → first < length e.code → IsNamedAt g.unit h.offset later → length e.code < later → number_in g h context_stored.t x ≡ number_in g h p.t x
    beside_context h first later x differ own_h named early after late = context_stored.beside h x (named_apart g places h saved first (length e.code) later differ own_h own.1 context_stored.exists named early after late named_saved)

    pub context_sim : Sim g alive st context_stored.t
    context_sim = whole_sim g alive places fields st context_stored.t context_stored.sim

    pub context_here : Starts g alive context_stored.t (length saves.code) saves.regs (length saves.fields)
    context_here = starts_next g alive (I.StoreContext saved) e p.t context_stored.t context_stored.at p.at

    pub context_keeping : Keeping g alive places fields set (length d.fields) bits saved saves context_stored.t
    context_keeping =
        let l0 = (two_more bits set d).0 in
        let l1 = (two_more bits set d).1 in
        let l2 = entries.0 in
        let l3 = entries.1 in
        let more = code_more g (I.StoreContext saved) e in
        record {
          exists = context_stored.exists;
          own = own.0;
          none = no_home g alive (length d.fields) (length d.fields) (omega arith) here;
          inside = omega (arith, l1, l2, l3);
          of_set = refl;
          own_saved = own.1;
          saved_inside = omega (arith, l0, l1, l2, l3);
          other = λ same. omega (arith, same, l0);
          saved_ends = context_stored.ends;
          somewhere = length e.code;
          named = named_saved;
          before = omega (arith, more);
          saves = λ x below. context_stored.has x below tt;
        }

    -- what comes behind them has put the words where the positions are active
    pub halves_answer : used → (words : ℕ → ℕ) (final : Draft) → Halved g alive places fields set f saved fields.active words saves final context_stored.t st → (flag : Type 0) → Answers g has alive n ready places fields flag bits (length d.fields) d s set st words (O.Field f) final
    halves_answer wanted words final last flag =
        let l0 = (two_more bits set d).0 in
        let l1 = (two_more bits set d).1 in
        let l2 = entries.0 in
        let l3 = entries.1 in
        let more = code_more g (I.StoreContext saved) e in
        let first_code = code_longer begun e p.grown.0 p.grown.1 in
        let last_code = code_longer saves final last.grown.0 last.grown.1 in
        let last_fields = fields_longer saves final last.grown.0 last.grown.1 in
        let to_saves : Extended d (0 + (p.grown.0 + 1)) saves = extended d begun saves 0 (p.grown.0 + 1) (and_both bits set d) (extended begun e saves p.grown.0 1 p.grown.1 (and_one g (I.StoreContext saved) e)) in (
          f,
          (
            refl,
            (
              record {
                passes = record {
                  grown = (0 + (p.grown.0 + 1) + last.grown.0, extended d saves final (0 + (p.grown.0 + 1)) last.grown.0 to_saves last.grown.1);
                  t = last.t;
                  go = onto g s p.t last.t p.go (onto g p.t context_stored.t last.t context_stored.go last.go);
                  at = last.at;
                  registers = λ y kept. keeps_on g d saves (0 + (p.grown.0 + 1)) s context_stored.t last.t to_saves (λ z kept_so. ap (λ (registers : List ℕ). slice_index registers z) context_stored.registers ∙ keeps_less g d begun s p.t (omega arith) p.registers z kept_so) last.registers y kept;
                  sim = last.sim;
                  stays = λ behind h first later x below own_h ends named early after late.
                      last.stays h first later x (omega (arith, below, l1, l2, l3)) (λ same. omega (arith, same, below)) own_h ends named (omega (arith, early, first_code, more)) after late
                      ∙ beside_context h first later x (λ same. omega (arith, same, below, l0)) own_h named (omega (arith, early, first_code)) after (omega (arith, late, last_code, more))
                      ∙ p.stays wanted h first later x (omega (arith, below, less)) own_h ends named early after (omega (arith, late, last_code, more));
                };
                stands = inl (record {
                  long = bits;
                  own = own.0;
                  fits = omega arith;
                  ends = last.ends;
                  newer = omega arith;
                  older = omega (arith, l1, l2, l3, last_fields);
                  somewhere = last.somewhere;
                  named = last.named;
                  before = last.before;
                  has = record { of_set = refl; exists = context_stored.exists; len = refl; are = λ x below on. (there x below on).0; small = λ x below on. (there x below on).1 };
                });
              },
              λ one. tt,
            ),
          ),
        )
      where
        there : (x : ℕ) → x < processors (shapes g) set → is_active (shapes g) last.t.memory set x ≡ true → (number_in g f last.t x ≡ words x % 2 ^ bits) × (words x < 2 ^ 32)
        there x below on = last.puts x below (sym (flags_of g alive places fields st last.t set x last.sim context_stored.exists below) ∙ on)
