-- The instructions by which a field takes truth values: the test flags, stored at once or by way of a bit, the complement
-- of a bit, and two bits joined.
use Rattle.std.proofs.Common.{◌≡◌, ◌∙◌, ℕ, ℤ, ◌-◌, ◌<◌, ◌%◌, ◌^◌, ◌==◌, Bool, true, false, not, [], refl, sym, ap, subst, arith, if◌then◌else◌}
use Rattle.std.specs.Int.{from_bool}
use Rattle.cstar_base.specs.Numbers.{number_of, residue}
use Rattle.cstar_base.specs.Operators.{outcome}
use Rattle.cstar_base.proofs.NumberLaws.{number_unsigned, residue_of_pos}
use Rattle.lower_base.specs.declared.emit.Out.{Out}
use Rattle.lower_base.specs.declared.emit.Out.TheVariants as O
use Rattle.lower_base.specs.Drafts.{Draft, Fails, Made, Makes, a_flag, an_entry, step as step_of, then_make, with_instr}
use Rattle.lower_expr.specs.Joined.{operation_of}
use Rattle.lower_expr.specs.Steps.{put_test}
use Rattle.paris_code.specs.declared.instr.Instr.TheVariants as I
use Rattle.paris_code.specs.declared.operands.Field.{Field}
use Rattle.paris_code.specs.Code.{CodeState, applied, begun}
use Rattle.paris_code.specs.Elementwise.{elementwise}
use Rattle.paris_code.specs.Meaning.{after}
use Rattle.paris_code.specs.Memory.{is_active, is_tested, processors, whole_number}
use Rattle.paris_code.specs.Operators.{operator_of}
use Rattle.phase_meaning.proofs.Widths.{cut_cut}
use Rattle.source_meaning.specs.Values.{nonzero}
use Rattle.code_follows.proofs.Settings.{Setting}
use Rattle.constant_trees.proofs.Words.{from_bool_below}
use Rattle.fields_follow.proofs.Clearing.{field_at}
use Rattle.fields_follow.proofs.Truths.{either_or_both, joined_bits}
use Rattle.fields_follow.proofs.ConditionCode.{put_in, stored_behind}
use Rattle.fields_follow.proofs.Instructions.{Puts, number_in, place, shapes}

-- to one of a word by way of a bit
abbrev pub bit_moved : Field → Field → Draft → Made Out
bit_moved f kept e = Makes (O.Field f) (with_instr (I.Move false f kept) e)

pub through_bit : (set offset bits : ℕ) (made : Made (Unit {0})) → (bits == 1) ≡ false → then_make made (put_in (field_at set offset bits)) ≡ then_make (then_make made (stored_behind set)) (bit_moved (field_at set offset bits))
unfolding then_make put_test an_entry
through_bit set offset bits (Makes x e) several = ap (λ (b : Bool). if b then Makes (O.Field f) (with_instr (I.StoreTest f) e) else then_make (a_flag set e) (λ kept after. Makes (O.Field f) (with_instr (I.Move false f kept) (with_instr (I.StoreTest kept) after)))) several
  where
    f : Field
    f = field_at set offset bits
through_bit set offset bits Fails several = refl

-- one bit takes the flags itself
abbrev pub flag_stored : Field → Unit {0} → Draft → Made Out
flag_stored f _ e = Makes (O.Field f) (with_instr (I.StoreTest f) e)

pub at_once : (set offset : ℕ) (made : Made (Unit {0})) → then_make made (put_in (field_at set offset 1)) ≡ then_make made (flag_stored (field_at set offset 1))
unfolding then_make put_test
at_once set offset (Makes x e) = refl
at_once set offset Fails = refl

module _ (g : Setting) where
  -- a bit that is moved to a field
  pub puts_bit : (set : ℕ) (f kept : Field) (s : CodeState) (v : ℕ → ℕ) → kept.len ≡ 1 → ((q : ℕ) → q < processors (shapes g) set → is_active (shapes g) s.memory set q ≡ true → number_in g kept s q ≡ from_bool (nonzero (v q))) → ((q : ℕ) → v q ≡ from_bool (nonzero (v q)))
      → Puts g set (I.Move false f kept) f s v
  unfolding begun applied after step_of whole_number
  puts_bit set f kept s v bit are truth = record {
    plain = refl;
    simple = tt;
    others = _;
    names = refl;
    write = elementwise (shapes g) (I.Move false (place g f) (place g kept)) [] s.memory;
    run = refl;
    writes = λ p. refl;
    value = λ p below on.
        ap (λ (n : ℕ). residue f.len (number_of n false (number_in g kept s p)) % 2 ^ f.len) bit
        ∙ ap (λ (z : ℤ). residue f.len z % 2 ^ f.len) (number_unsigned 1 (number_in g kept s p)) ∙ ap (λ (w : ℕ). w % 2 ^ f.len) (residue_of_pos f.len (number_in g kept s p))
        ∙ cut_cut (number_in g kept s p) f.len f.len (omega arith) ∙ ap (λ (w : ℕ). w % 2 ^ f.len) (are p below on ∙ sym (truth p));
    small = λ p below on. subst (λ (w : ℕ). w < 2 ^ 32) (sym (truth p)) (from_bool_below (nonzero (v p)));
    goes = refl;
  }

  -- the test flags in a field of one bit
  pub puts_flags : (set offset : ℕ) (s : CodeState) (v : ℕ → ℕ) → ((q : ℕ) → q < processors (shapes g) set → is_active (shapes g) s.memory set q ≡ true → is_tested (shapes g) s.memory set q ≡ nonzero (v q)) → ((q : ℕ) → v q ≡ from_bool (nonzero (v q)))
      → Puts g set (I.StoreTest (field_at set offset 1)) (field_at set offset 1) s v
  unfolding begun applied after step_of
  puts_flags set offset s v tests truth = record {
    plain = refl;
    simple = tt;
    others = _;
    names = refl;
    write = elementwise (shapes g) (I.StoreTest (place g (field_at set offset 1))) [] s.memory;
    run = refl;
    writes = λ p. refl;
    value = λ p below on. ap (λ (b : Bool). from_bool b % 2 ^ 1) (tests p below on) ∙ ap (λ (w : ℕ). w % 2 ^ 1) (sym (truth p));
    small = λ p below on. subst (λ (w : ℕ). w < 2 ^ 32) (sym (truth p)) (from_bool_below (nonzero (v p)));
    goes = refl;
  }

  -- the complement of a bit
  pub puts_turned : (set offset : ℕ) (a : Field) (s : CodeState) (v : ℕ → ℕ) → ((q : ℕ) → q < processors (shapes g) set → is_active (shapes g) s.memory set q ≡ true → number_in g a s q ≡ from_bool (nonzero (v q)))
      → Puts g set (I.Lognot (field_at set offset 1) a) (field_at set offset 1) s (λ q. from_bool (v q == 0))
  unfolding begun applied after step_of
  puts_turned set offset a s v are = record {
    plain = refl;
    simple = tt;
    others = _;
    names = refl;
    write = elementwise (shapes g) (I.Lognot (place g (field_at set offset 1)) (place g a)) [] s.memory;
    run = refl;
    writes = λ p. refl;
    value = λ p below on. ap (λ (m : ℕ). (2 ^ 1 - 1 - m) % 2 ^ 1) (are p below on) ∙ turned (v p == 0);
    small = λ p below on. from_bool_below (v p == 0);
    goes = refl;
  }
    where
      turned : (x : Bool) → (2 ^ 1 - 1 - from_bool (not x)) % 2 ^ 1 ≡ from_bool x % 2 ^ 1
      turned true = refl
      turned false = refl

  -- two bits joined in one
  pub puts_joined : (is_or : Bool) (set offset : ℕ) (a b : Field) (s : CodeState) (v w : ℕ → ℕ) → ((q : ℕ) → q < processors (shapes g) set → is_active (shapes g) s.memory set q ≡ true → number_in g a s q ≡ from_bool (nonzero (v q)))
      → ((q : ℕ) → q < processors (shapes g) set → is_active (shapes g) s.memory set q ≡ true → number_in g b s q ≡ from_bool (nonzero (w q)))
      → Puts g set (I.Operate (operation_of is_or) (field_at set offset 1) a b) (field_at set offset 1) s (λ q. from_bool (either_or_both is_or (nonzero (v q)) (nonzero (w q))))
  unfolding begun applied after step_of
  puts_joined is_or set offset a b s v w one other = record {
    plain = refl;
    simple = tt;
    others = _;
    names = refl;
    write = elementwise (shapes g) (I.Operate (operation_of is_or) (place g (field_at set offset 1)) (place g a) (place g b)) [] s.memory;
    run = refl;
    writes = λ p. refl;
    value = λ p below on.
        ap (λ (n : ℕ). outcome (operator_of (operation_of is_or)).0 1 (operator_of (operation_of is_or)).1 n (number_in g b s p) % 2 ^ 1) (one p below on)
        ∙ ap (λ (n : ℕ). outcome (operator_of (operation_of is_or)).0 1 (operator_of (operation_of is_or)).1 (from_bool (nonzero (v p))) n % 2 ^ 1) (other p below on)
        ∙ joined_bits is_or (nonzero (v p)) (nonzero (w p)) 1 ∙ bit_of (either_or_both is_or (nonzero (v p)) (nonzero (w p)));
    small = λ p below on. from_bool_below (either_or_both is_or (nonzero (v p)) (nonzero (w p)));
    goes = refl;
  }
    where
      bit_of : (x : Bool) → from_bool (nonzero (from_bool x)) ≡ from_bool x % 2 ^ 1
      bit_of true = refl
      bit_of false = refl
