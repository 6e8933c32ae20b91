-- A right operand that is a word is spread over a field, behind the code of a left one that stands in another.
use Rattle.std.proofs.Common.{◌≡◌, ◌∙◌, ℕ, ◌+◌, ◌<◌, ◌≤◌, ◌%◌, ◌^◌, inl, inr, true, length, refl, sym, ap, subst, arith, slice_index, List}
use Rattle.cstar_tree.specs.declared.typed.Variable.{Variable}
use Rattle.lower_base.specs.Drafts.{Draft, step as step_of, with_instr}
use Rattle.paris_code.specs.declared.instr.Instr.{Instr}
use Rattle.paris_code.specs.declared.instr.Instr.TheVariants as I
use Rattle.paris_code.specs.declared.operands.Field.{Field}
use Rattle.paris_code.specs.declared.operands.Konst.{Konst}
use Rattle.paris_code.specs.declared.program.Owner.TheVariants as W
use Rattle.paris_code.specs.Code.{CodeState}
use Rattle.paris_code.specs.Memory.{is_active, processors}
use Rattle.paris_code.specs.Spans.{IsNamedAt}
use Rattle.source_meaning.specs.State.{State}
use Rattle.code_follows.proofs.Following.{Keeps, Sim}
use Rattle.code_follows.proofs.Growing.{extended}
use Rattle.code_follows.proofs.Settings.{OpenAmong, Setting, Within, and_one, code_more}
use Rattle.fields_follow.proofs.Instructions.{HasNumbers, puts_constant, shapes, word_in}
use Rattle.fields_follow.proofs.Passing.{Behind, GivesField, Passes, Stands, code_longer, first_there, flags_of, in_variable_has, passes_less, passes_on, still_numbers}
use Rattle.fields_follow.proofs.Places.{HoldsTheFields, IsOwnField, PlacesFields}
use Rattle.fields_follow.proofs.Values.{next_field, one_more, taken, with_entry}
use Rattle.fields_follow.proofs.Writing.{Written, own_written}
use Rattle.fields_follow.proofs.Starts.{starts_next}
use Rattle.fields_follow.proofs.Locals.{IsNoHome}

module _ (g : Setting) (alive : Variable → Type 0) where
  -- code gives a word that is the same at every position, and stays where registers that are kept do
  pub record GivesWord (bound : ℕ) (d : Draft) (s : CodeState) (st : State) (v : ℕ → ℕ) (k : Konst) (e : Draft) : Type 0 where
    pub passes : Passes g alive bound d e s st (Unit {0})
    pub small : word_in g k passes.t < 2 ^ 32
    pub same : (q : ℕ) → v q ≡ word_in g k passes.t
    pub lasts : (t : CodeState) → Sim g alive st t → Keeps g e passes.t t → word_in g k t ≡ word_in g k passes.t

  -- code passes, and two fields have these words behind it
  pub record HasBoth (bits set bound : ℕ) (a b : Field) (d e : Draft) (s : CodeState) (st : State) (v w : ℕ → ℕ) : Type 0 where
    pub passes : Passes g alive bound d e s st (Unit {0})
    pub left : HasNumbers g bits set a passes.t v
    pub right : HasNumbers g bits set b passes.t w

  module _ (places : PlacesFields g) (fields : HoldsTheFields g) where
    -- where both are named later, in the field that was taken first
    pub spread_behind : (bits set bound : ℕ) (a : Field) (k : Konst) (v w : ℕ → ℕ) (d e1 e2 : Draft) (s : CodeState) (st : State) → IsNoHome g (OpenAmong g alive) (length d.fields) → length (with_entry set bits W.Own d).fields ≤ bound → bound ≤ length e1.fields
        → (left : GivesField g alive bits bound (with_entry set bits W.Own d) s set st v a e1) → GivesWord (length e1.fields) e1 left.passes.t st w k e2
        → (later : ℕ) → Within g (with_instr (I.MoveConstant (next_field set bits d) k) e2) → IsNamedAt g.unit a.offset later → IsNamedAt g.unit (next_field set bits d).offset later → length (with_instr (I.MoveConstant (next_field set bits d) k) e2).code ≤ later
        → HasBoth bits set (length d.fields) a (next_field set bits d) (with_entry set bits W.Own d) (with_instr (I.MoveConstant (next_field set bits d) k) e2) s st v w
    unfolding step_of passes_on passes_less
    spread_behind bits set bound a k v w d e1 e2 s st none low less left right later within named_a named_spare behind_both = record {
      passes = passes_on g alive (length d.fields) (length d.fields) d1 e2 e3 s st (Unit {0}) (Unit {0}) (Unit {0}) (omega arith) (passes_less g alive (length d.fields) bound d1 e2 s st (Unit {0}) (omega (arith, first, low)) both) spreads (λ u. tt) (λ u. tt);
      left = still left.stands;
      right = subst (λ (x : ℕ → ℕ). HasNumbers g bits set spare moved.t x) same_all moved.has;
    }
      where
        d1 : Draft
        d1 = with_entry set bits W.Own d

        first : length d1.fields ≡ length d.fields + 1
        first = one_more set bits W.Own d

        spare : Field
        spare = next_field set bits d

        move : Instr
        move = I.MoveConstant spare k

        e3 : Draft
        e3 = with_instr move e2

        long : length e3.code ≡ length e2.code + 1
        long = code_more g move e2

        longer : length e1.code ≤ length e2.code
        longer = code_longer e1 e2 right.passes.grown.0 right.passes.grown.1

        both : Passes g alive bound d1 e2 s st (Unit {0})
        both =
            passes_on g alive bound (length e1.fields) d1 e1 e2 s st (Behind g a e1) (Unit {0}) (Unit {0}) less left.passes right.passes
            (λ u. (later, (named_a, omega (arith, long, longer, behind_both)))) (λ u. tt)

        own : IsOwnField g spare
        own = taken g set bits W.Own d e3 (both.grown.0 + 1) within (extended d1 e2 e3 both.grown.0 1 both.grown.1 (and_one g move e2))

        Again : Type 0
        Again = (later : ℕ) × (IsNamedAt g.unit spare.offset later × (length e2.code < later))

        again : Again
        again = (later, (named_spare, omega (arith, long, behind_both)))

        moved : Written g places fields alive set spare e2 move right.passes.t st (λ q. word_in g k right.passes.t) Again
        moved = own_written g places fields alive set move spare e2 right.passes.t st (λ q. word_in g k right.passes.t) within right.passes.at.stands right.passes.sim refl (puts_constant g set spare k right.passes.t right.small) own none

        spreads : Passes g alive (length d.fields) e2 e3 right.passes.t st (Unit {0})
        spreads = record {
          grown = (1, and_one g move e2);
          t = moved.t;
          go = moved.go;
          at = starts_next g alive move e2 right.passes.t moved.t moved.at right.passes.at;
          registers = λ r kept. ap (λ (registers : List ℕ). slice_index registers r) moved.registers;
          sim = moved.sim;
          stays = λ u h one last q below own_h ends before low after high. moved.stays again h one last q (λ same. omega (arith, same, below)) own_h before after (omega (arith, low)) (omega (arith, high, long));
        }

        numbers : HasNumbers g bits set a right.passes.t v
        numbers = still_numbers g alive places fields bits bound (length e1.fields) d1 s set st v a e1 e2 (Unit {0}) left right.passes tt (omega arith) (later, (named_a, omega (arith, long, behind_both)))

        was_on : (q : ℕ) → q < processors (shapes g) set → is_active (shapes g) moved.t.memory set q ≡ true → is_active (shapes g) right.passes.t.memory set q ≡ true
        was_on q below on = flags_of g alive places fields st right.passes.t set q right.passes.sim numbers.exists below ∙ sym (flags_of g alive places fields st moved.t set q moved.sim numbers.exists below) ∙ on

        still : Stands g alive bits bound e1 set a left.passes.t st v → HasNumbers g bits set a moved.t v
        still (inl h) = record {
          of_set = numbers.of_set;
          exists = numbers.exists;
          len = numbers.len;
          are = λ q below on.
              first_there g alive places fields set a h.long st moved.t moved.sim numbers.of_set numbers.exists h.fits h.ends q below
              ∙ ap (λ (m : ℕ). m % 2 ^ a.len)
              (moved.stays again (record a { len = h.long }) h.somewhere later q (λ equal. let newer = h.newer in omega (arith, newer, equal, first, low)) h.own h.named named_a (let before = h.before in omega (arith, before, longer)) (omega (arith, long, behind_both)))
              ∙ sym (first_there g alive places fields set a h.long st right.passes.t right.passes.sim numbers.of_set numbers.exists h.fits h.ends q below)
              ∙ numbers.are q below (was_on q below on);
          small = λ q below on. numbers.small q below (was_on q below on);
        }
        still (inr h) = in_variable_has g alive places fields bits set a st v moved.t h moved.sim later named_a (let there = moved.at in omega (arith, there, behind_both))

        same_all : (λ (q : ℕ). word_in g k right.passes.t) ≡ w
        same_all = λ j q. sym (right.same q) j
