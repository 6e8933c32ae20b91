-- `&&` and `||` of a scalar and a parallel value: a field begins as what a decided left operand gives. Where the scalar
-- decides, the code jumps over that of the right operand, whose truth value the field takes else.
use Rattle.std.proofs.Common.{◌≡◌, ◌∙◌, ℕ, ◌+◌, ◌<◌, ◌≤◌, ◌%◌, ◌^◌, ◌==◌, inl, inr, Bool, true, false, [], ◌∷◌, length, slice_index, Option, Some, refl, sym, ap, subst, arith, if◌then◌else◌}
use Rattle.std.specs.Int.{from_bool}
use Rattle.cstar_tree.specs.declared.typed.TExpr.{TExpr}
use Rattle.cstar_tree.specs.declared.typed.ValueType.{ValueType}
use Rattle.cstar_tree.specs.declared.typed.Variable.{Variable}
use Rattle.cstar_tree.specs.Typed.{type_of}
use Rattle.code_lengths.specs.Growth.{Anything, GrowsOr}
use Rattle.code_lengths.specs.Ready.{IsReadyButForFields}
use Rattle.code_lengths.proofs.Agreeing.{lengths_if_made}
use Rattle.constant_trees.proofs.Words.{from_bool_below}
use Rattle.lower_base.specs.declared.emit.Out.{Out}
use Rattle.lower_base.specs.declared.emit.Out.TheVariants as O
use Rattle.lower_base.specs.Drafts.{Draft, Fails, Made, Makes, an_entry, here as draft_here, in_register, step as step_of, then_make, with_instr}
use Rattle.lower_base.specs.Kinds.{bits_of, kind_of}
use Rattle.lower_expr.specs.Lengths.{test_put_length, tested_length}
use Rattle.lower_expr.specs.Steps.{is_kept, put_test}
use Rattle.lower_expr.specs.Values.{Condition, condition_by, condition_of, decided, decided_by, joined_by, jump_if_decided, jumped_over, limited_by, logical_by, narrowed_again, narrowing_by, next_of, parallel_logical_by, tested, truth_put}
use Rattle.paris_code.specs.declared.instr.Instr.{Instr}
use Rattle.paris_code.specs.declared.instr.Instr.TheVariants as I
use Rattle.paris_code.specs.declared.operands.Field.{Field}
use Rattle.paris_code.specs.declared.operands.Konst.TheVariants as K
use Rattle.paris_code.specs.declared.program.Owner.TheVariants as W
use Rattle.paris_code.specs.Code.{CodeState}
use Rattle.paris_code.specs.Memory.{is_active, processors}
use Rattle.paris_code.specs.Spans.{IsNamedAt}
use Rattle.source_meaning.specs.State as Source
use Rattle.source_meaning.specs.State.{Outcome, State, then_do}
use Rattle.source_meaning.specs.Values.{Parallel, Scalar, Value, at, nonzero, number}
use Rattle.source_meaning.proofs.ConstantLaws.{Boxed}
use Rattle.code_follows.proofs.Branching.{decided_goes, decides, jump_long, jump_more}
use Rattle.code_follows.proofs.Following.{Extends, HasRegisters, Sim, extends_made, extends_then, held, keeps_less}
use Rattle.code_follows.proofs.Growing.{Extended, extended, from_growth, places as ends_at}
use Rattle.code_follows.proofs.Jumping.{moved_to}
use Rattle.code_follows.proofs.Numbers.{held_nonzero}
use Rattle.code_follows.proofs.Settings.{Reaches, Setting, Within, and_one, code_more, layout, start}
use Rattle.code_follows.proofs.Values.{extends_grown}
use Rattle.code_follows.proofs.Words.{kept}
use Rattle.fields_follow.specs.Fragment.{HasItsKind, IsCalm, alone}
use Rattle.fields_follow.proofs.Calm.{IsCalmly, calm_alone, calm_gives}
use Rattle.fields_follow.proofs.Conditions.{HaveTheirCode, joined_left}
use Rattle.fields_follow.proofs.ConditionCode.{put_in}
use Rattle.fields_follow.proofs.Expressions.{Answers, operand_grows}
use Rattle.fields_follow.proofs.Forms.{pure_kept}
use Rattle.fields_follow.proofs.Halves.{after_delayed}
use Rattle.fields_follow.proofs.Halving.{both_own, two_more, with_both}
use Rattle.fields_follow.proofs.Instructions.{extents, number_in, puts_constant, shapes, word_in}
use Rattle.fields_follow.proofs.Leaving.{EndsBelow}
use Rattle.fields_follow.proofs.Meaning.{decided_in, value_in, word_at}
use Rattle.fields_follow.proofs.Outcomes.{Ended, Known, ended_back, ended_on, follows_known, known_follows, meant, then_outcome}
use Rattle.fields_follow.proofs.Passing.{After, Behind, GivesField, Passes, after_same, code_longer, fields_longer, flags_of, gives_numbers, made_after, passes_from, passes_moved, passes_on, puts_own}
use Rattle.fields_follow.proofs.Places.{HoldsTheFields, IsOwnField, PlacesFields, names_first, stands_here}
use Rattle.fields_follow.proofs.Pure.{decided_is, decided_so, logical_of, scalar_meant, scalar_number, scalar_so, undecided_so}
use Rattle.fields_follow.proofs.Scalars.{GivesScalar, scalar_follows}
use Rattle.fields_follow.proofs.Spreading.{GivesWord}
use Rattle.fields_follow.proofs.Starts.{Starts, no_home, starts_entry}
use Rattle.fields_follow.proofs.TestFlags.{truth_is}
use Rattle.fields_follow.proofs.Testing.{IsTested}
use Rattle.fields_follow.proofs.TruthFields.{ComesFrom, tests_put, truth_held}
use Rattle.fields_follow.proofs.TruthValues.{by_case}
use Rattle.fields_follow.proofs.Undecided.{LogicalGives}
use Rattle.fields_follow.proofs.Values.{IsFlag, and_entry, next_field, with_entry}

bit_nonzero : (b : Bool) → nonzero (from_bool b) ≡ b
bit_nonzero true = refl
bit_nonzero false = refl

-- The code that puts a truth value ends with an instruction that names the field.
put_named : (g : Setting) (set offset bits : ℕ) (e : Draft) (Q : Out → Draft → Type 0) → ((h : Draft) → Extended e (test_put_length bits) h → Within g h → (last : ℕ) → IsNamedAt g.unit offset last → length e.code ≤ last → last < length h.code → Q (O.Field (record { set = set; offset = offset; len = bits })) h)
    → After g Q (put_test (record { set = set; offset = offset; len = bits }) e)
unfolding put_test test_put_length then_make an_entry step_of
put_named g set offset bits e Q done = by (bits == 1) refl
  where
    f : Field
    f = record { set = set; offset = offset; len = bits }

    kept_bit : Field
    kept_bit = next_field set 1 e

    after : Draft
    after = with_entry set 1 W.Own e

    stores : Draft
    stores = with_instr (I.StoreTest kept_bit) after

    moves : Draft
    moves = with_instr (I.Move false f kept_bit) stores

    long : (b : Bool) → (bits == 1) ≡ b → (h : Draft) → Extended e (if b then 1 else 2) h → Extended e (if bits == 1 then 1 else 2) h
    long b is h x = subst (λ (c : Bool). Extended e (if c then 1 else 2) h) (sym is) x

    by : (b : Bool) → (bits == 1) ≡ b → After g Q (if bits == 1 then Makes (O.Field f) (with_instr (I.StoreTest f) e) else Makes (O.Field f) moves)
    by true one =
        after_same g Q (ap (λ (b : Bool). if b then Makes (O.Field f) (with_instr (I.StoreTest f) e) else Makes (O.Field f) moves) one)
        (made_after g Q (O.Field f) (with_instr (I.StoreTest f) e) (λ within. done (with_instr (I.StoreTest f) e) (long true one (with_instr (I.StoreTest f) e) (and_one g (I.StoreTest f) e)) within (length e.code) (names_first g (I.StoreTest f) f [] (length e.code) (stands_here g (I.StoreTest f) e within refl) refl) (omega arith) (let more = code_more g (I.StoreTest f) e in omega (arith, more))))
    by false several =
        after_same g Q (ap (λ (b : Bool). if b then Makes (O.Field f) (with_instr (I.StoreTest f) e) else Makes (O.Field f) moves) several)
        (made_after g Q (O.Field f) moves (λ within.
        let one = code_more g (I.StoreTest kept_bit) after in
        let two = code_more g (I.Move false f kept_bit) stores in
        done moves (long false several moves (extended e after moves 0 2 (and_entry set 1 W.Own e) (extended after stores moves 1 1 (and_one g (I.StoreTest kept_bit) after) (and_one g (I.Move false f kept_bit) stores)))) within (length stores.code)
        (names_first g (I.Move false f kept_bit) f (kept_bit ∷ []) (length stores.code) (stands_here g (I.Move false f kept_bit) stores within refl) refl) (omega (arith, one)) (omega (arith, two))))

module _ (g : Setting) (has : HasRegisters g) (alive : Variable → Type 0) (n : ℕ) (ready : (d : Draft) → IsReadyButForFields g.typed g.instance (layout g) n d) (places : PlacesFields g) (fields : HoldsTheFields g) where
  module _ (is_or : Bool) (bits set : ℕ) (ty : ValueType) (p q : Boxed) (left right : TExpr) (shaped : ty.shape ≡ Some set) (calm : IsCalm left) (also : HasItsKind set right) (codes : HaveTheirCode g.typed g.instance alive n left right) (right_tested : IsTested g has alive n ready places fields set right)
      (left_ends : (s : CodeState) (st : State) → Ended g s (meant g fields left st) → Ended g s (meant g fields (logical_of is_or ty p left q right) st)) where
    abbrev whole : TExpr
    whole = logical_of is_or ty p left q right

    abbrev numbers : TExpr → State → ℕ → ℕ
    numbers e st x = value_in (extents g set) st e x

    -- ---- what the code is

    abbrev sets : Field → Instr
    sets f = I.MoveConstant f (K.Imm (from_bool is_or))

    abbrev begins : Draft → Draft
    begins d = with_instr (sets (next_field set bits d)) (with_both bits set d)

    abbrev test_of : Draft → Made (Unit {0})
    test_of d = tested g.typed (layout g) right d

    abbrev left_of : Draft → Made Out
    left_of d = next_of g.typed (layout g) (bits_of (kind_of left)) true left d

    -- behind the scalar
    abbrev behind : Field → Out → Draft → Made Out
    behind f v e = then_make (decided is_or v (tested_length g.typed (layout g) right) (1 + test_put_length bits) e) (λ _ next. truth_put f (λ after. test_of after) next)

    left_kept : is_kept left ≡ true
    left_kept = kept alone left (calm_alone left calm)

    logical_code : (d : Draft) → logical_by is_or ty.shape bits (condition_of g.typed (layout g) left) (condition_of g.typed (layout g) right) d ≡ then_make (left_of (begins d)) (λ v e. behind (next_field set bits d) v e)
    unfolding logical_by an_entry then_make parallel_logical_by narrowing_by decided_by condition_by
    logical_code d =
        ap (λ (o : Option ℕ). logical_by is_or o bits one two d) shaped ∙ ap (λ (b : Bool). if b then joined_by is_or f one two taken_field else narrowing_by is_or f one two taken_field) (joined_left left right left_kept)
        ∙ ap (λ (b : Bool). if b then decided_by is_or f one.code two.test two.tested_long (begins d) else limited_by is_or f saved one.test (if is_kept right then jumped_over is_or two.code else narrowed_again is_or set two.test) (begins d)) left_kept
      where
        one : Condition
        one = condition_of g.typed (layout g) left

        two : Condition
        two = condition_of g.typed (layout g) right

        taken_field : Draft
        taken_field = with_entry set bits W.Own d

        f : Field
        f = next_field set bits d

        saved : Field
        saved = next_field set 1 taken_field

    -- how long it is
    test_long : (e : Draft) → GrowsOr (Unit {0}) e (tested_length g.typed (layout g) right) (λ (u : Unit {0}). Anything u) (test_of e)
    test_long e = (lengths_if_made g.typed g.instance (layout g)).test n right e codes.right_code.code (codes.right_gives, pure_kept set right also.0) (ready e)

    put_grows : (f : Field) (u : Unit {0}) (e : Draft) → Extends g e (put_in f u e)
    unfolding put_test Extends then_make an_entry
    put_grows f u e = by (f.len == 1)
      where
        by : (b : Bool) → Extends g e (if b then Makes (O.Field f) (with_instr (I.StoreTest f) e) else Makes (O.Field f) (with_instr (I.Move false f (next_field f.set 1 e)) (with_instr (I.StoreTest (next_field f.set 1 e)) (with_entry f.set 1 W.Own e))))
        by true = (1, and_one g (I.StoreTest f) e)
        by false = (2, extended e (with_entry f.set 1 W.Own e) _ 0 2 (and_entry f.set 1 W.Own e) (extended (with_entry f.set 1 W.Own e) (with_instr (I.StoreTest (next_field f.set 1 e)) (with_entry f.set 1 W.Own e)) _ 1 1 (and_one g (I.StoreTest (next_field f.set 1 e)) (with_entry f.set 1 W.Own e)) (and_one g (I.Move false f (next_field f.set 1 e)) (with_instr (I.StoreTest (next_field f.set 1 e)) (with_entry f.set 1 W.Own e)))))

    truth_grows : (f : Field) (e : Draft) → Extends g e (then_make (test_of e) (put_in f))
    truth_grows f e = extends_then g e (test_of e) (put_in f) (extends_grown g has alive _ e _ _ (test_long e)) (put_grows f)

    behind_grows : (f : Field) (v : Out) (e : Draft) → Extends g e (behind f v e)
    unfolding decided in_register then_make truth_put Extends
    behind_grows f (O.Scalar r) e =
        let target : ℕ = (draft_here e + tested_length g.typed (layout g) right) + (1 + test_put_length bits) in
        extends_made g e (jump_if_decided is_or r target e) 1 (then_make (test_of (jump_if_decided is_or r target e)) (put_in f)) (jump_more g alive is_or r target e) (truth_grows f (jump_if_decided is_or r target e))
    behind_grows f (O.Field h) e = tt
    behind_grows f O.Nothing e = tt

    -- ---- what it does

    module _ (d : Draft) (s : CodeState) (st : State) (here : Starts g alive s (length d.code) d.regs (length d.fields)) (sim : Sim g alive st s) where
      abbrev f : Field
      f = next_field set bits d

      abbrev begun : Draft
      begun = with_both bits set d

      abbrev taken_field : Draft
      taken_field = with_entry set bits W.Own d

      abbrev words : ℕ → ℕ
      words x = word_at (extents g set) st whole x

      abbrev R : Out → Draft → Type 0
      R out e = Answers g has alive n ready places fields (IsFlag whole) bits (length d.fields) d s set st words out e

      abbrev Q : Out → Draft → Type 0
      Q = Known g s (meant g fields whole st) (numbers whole st) st R

      truth : (x : ℕ) → numbers whole st x ≡ from_bool (nonzero (numbers whole st x))
      truth x =
          let is = scalar_number is_or set ty p q left right shaped calm (extents g set) st x in
          is ∙ truth_is _ ∙ ap (λ (m : ℕ). from_bool (nonzero m)) (sym is)

      module _ (within : Within g (begins d)) where
        own : IsOwnField g f
        own = (both_own g has alive n ready places fields bits set d s st here (begins d) 1 (and_one g (sets f) begun) within).0

        -- the field begins as what a decided left operand gives
        first : GivesField g alive bits (length d.fields) begun s set st (λ x. from_bool is_or) f (begins d)
        unfolding word_in
        first =
            puts_own g alive places fields bits (length d.fields) set (sets f) f begun s st (λ x. from_bool is_or) (omega arith) (let l = (two_more bits set d).1 in omega (arith, l)) own (no_home g alive (length d.fields) (length d.fields) (omega arith) here) refl refl within
            (starts_entry g alive _ _ (starts_entry g alive _ _ here)) sim (puts_constant g set f (K.Imm (from_bool is_or)) s (from_bool_below is_or))

        first_named : IsNamedAt g.unit f.offset (length begun.code)
        unfolding step_of
        first_named = names_first g (sets f) f [] (length begun.code) (stands_here g (sets f) begun within refl) refl

        first_ends : (set < length (shapes g)) × EndsBelow g f
        unfolding step_of
        first_ends = places.ends (length begun.code) (sets f) f [] (stands_here g (sets f) begun within refl) refl tt refl

        first_more : length (begins d).code ≡ length begun.code + 1
        first_more = code_more g (sets f) begun

        taken_more : (length taken_field.fields ≡ length d.fields + 1) × (length begun.fields ≡ length d.fields + 1 + 1) × (length begun.fields ≤ length (begins d).fields)
        taken_more = let l = two_more bits set d in (l.0, l.1, fields_longer begun (begins d) 1 (and_one g (sets f) begun))

        -- behind the scalar, whose word stands in a register
        module _ (between : Draft) (r w : ℕ) (given : meant g fields left st ≡ Source.Gives (Scalar w) st) (word : GivesWord g alive (length (begins d).fields) (begins d) first.passes.t st (λ x. held (type_of left).elem w) (K.Reg r) between) where
          abbrev target : ℕ
          target = (length between.code + tested_length g.typed (layout g) right) + (1 + test_put_length bits)

          abbrev jump : Draft
          jump = jump_if_decided is_or r target between

          abbrev holds : Bool
          holds = nonzero (slice_index word.passes.t.registers r)

          left_is : nonzero w ≡ holds
          unfolding word_in IsCalmly at
          left_is =
              let few : w < 2 ^ (type_of left).elem.bits =
              (subst (λ (y : Outcome Value). IsCalmly (type_of left).elem.bits st y) given (calm_gives g alive n fields.scope fields.active st sim.small left calm codes.left_code.code.names codes.left_code.among)).1 in
              sym (held_nonzero (type_of left).elem w few) ∙ ap nonzero (word.same 0)

          goes : Within g jump → Reaches g word.passes.t (moved_to g alive (if decides is_or holds then target + start g else word.passes.t.at + 1) word.passes.t)
          goes within_jump = decided_goes g alive is_or holds r target between word.passes.t refl within_jump word.passes.at.stands

          -- what stood is there, if the field is named behind it
          abbrev to_left : Passes g alive (length d.fields) taken_field between s st (Behind g f (begins d))
          to_left =
              passes_from g alive (length d.fields) taken_field begun between s st (Behind g f (begins d)) (and_entry set 1 W.Own taken_field)
              (passes_on g alive (length d.fields) (length (begins d).fields) begun (begins d) between s st (Behind g f (begins d)) (Unit {0}) (Behind g f (begins d)) (let l1 = taken_more.1 in let l2 = taken_more.2 in omega (arith, l1, l2)) first.passes word.passes (λ named. named) (λ named. tt))

          -- it does not decide
          undecided : decides is_or holds ≡ false → Within g jump → After g Q (then_make (test_of jump) (put_in f))
          unfolding passes_on passes_from number
          undecided free within_jump =
              follows_known g s (meant g fields whole st) (numbers whole st) st R (then_make (test_of jump) (put_in f))
              (tests_put g has alive n ready places fields set whole d s st (no_home g alive (length d.fields) (length d.fields) (omega arith) here) truth right same_truth comes bits jump (Behind g f (begins d)) before
              (λ later named late. (later, (named, let one = code_longer (begins d) between word.passes.grown.0 word.passes.grown.1 in let two = code_longer between jump 1 (jump_more g alive is_or r target between) in omega (arith, one, two, late)))) (test_of jump)
              (right_tested jump before.t st before.at before.sim))
            where
              u : CodeState
              u = moved_to g alive (word.passes.t.at + 1) word.passes.t

              go : Reaches g word.passes.t u
              go = subst (λ (b : Bool). Reaches g word.passes.t (moved_to g alive (if b then target + start g else word.passes.t.at + 1) word.passes.t)) free (goes within_jump)

              jump_long_so : length jump.code ≡ length between.code + 1
              jump_long_so = jump_long g alive is_or r target between

              before : Passes g alive (length d.fields) taken_field jump s st (Behind g f (begins d))
              before = passes_moved g alive (length d.fields) taken_field between jump s st (Behind g f (begins d)) to_left 1 (jump_more g alive is_or r target between) (word.passes.t.at + 1) (omega arith) go (let there = word.passes.at.stands in let more = jump_long_so in omega (arith, there, more))

              lets_on : decides is_or (nonzero w) ≡ false
              lets_on = ap (decides is_or) left_is ∙ free

              value : (x : ℕ) → numbers whole st x ≡ from_bool (nonzero (numbers right st x))
              value x =
                  scalar_number is_or set ty p q left right shaped calm (extents g set) st x
                  ∙ ap from_bool (undecided_so is_or (nonzero (decided_in st left)) (nonzero (numbers right st x)) (ap (λ (m : ℕ). decides is_or (nonzero m)) (decided_is is_or set ty p q left right shaped calm fields.scope fields.active (Scalar w) st given) ∙ lets_on))

              same_truth : (x : ℕ) → x < processors (shapes g) set → nonzero (numbers right st x) ≡ nonzero (numbers whole st x)
              same_truth x below = sym (ap nonzero (value x) ∙ bit_nonzero (nonzero (numbers right st x)))

              comes : ComesFrom g has alive n ready places fields set whole right s st
              comes = record {
                gives = λ is_right. scalar_meant is_or set ty p q left right shaped calm fields.scope fields.active (Scalar w) st given (extents g set) (λ so. is_right);
                ends = λ early. subst (λ (o : Outcome Value). Ended g s o) (sym (scalar_so is_or set ty p q left right shaped calm fields.scope fields.active (Scalar w) st given ∙ ap (λ (b : Bool). if b then Source.Gives (Parallel (λ x. from_bool is_or)) st else then_do (meant g fields right st) (λ y after. Source.Gives (Parallel (λ x. from_bool (nonzero (at y x)))) after)) lets_on))
                    (ended_on g s (meant g fields right st) (λ y after. Source.Gives (Parallel (λ x. from_bool (nonzero (at y x)))) after) early);
              }

          -- it decides
          shut : decides is_or holds ≡ true → Within g jump → After g Q (then_make (test_of jump) (put_in f))
          unfolding passes_on passes_from number draft_here GrowsOr then_make After
          shut decided_there within_jump = by (test_of jump) (test_long jump)
            where
              closed : decides is_or (nonzero w) ≡ true
              closed = ap (decides is_or) left_is ∙ decided_there

              value : (x : ℕ) → words x ≡ from_bool is_or
              value x =
                  truth_held (type_of whole).elem (numbers whole st x) (truth x) ∙ scalar_number is_or set ty p q left right shaped calm (extents g set) st x
                  ∙ ap from_bool (decided_so is_or (nonzero (decided_in st left)) (nonzero (numbers right st x)) (ap (λ (m : ℕ). decides is_or (nonzero m)) (decided_is is_or set ty p q left right shaped calm fields.scope fields.active (Scalar w) st given) ∙ closed))

              is_whole : meant g fields whole st ≡ Source.Gives (Parallel (numbers whole st)) st
              is_whole = scalar_meant is_or set ty p q left right shaped calm fields.scope fields.active (Scalar w) st given (extents g set) (λ so. let wrong = sym so ∙ closed in cc)

              lands : (h : Draft) → Extended jump (tested_length g.typed (layout g) right + test_put_length bits) h → (last : ℕ) → IsNamedAt g.unit f.offset last → length jump.code ≤ last → R (O.Field f) h
              lands h more last named low =
                  let l0 = taken_more.0 in
                  let l1 = taken_more.1 in
                  let l2 = taken_more.2 in
                  let all : Extended between (1 + (tested_length g.typed (layout g) right + test_put_length bits)) h = extended between jump h 1 (tested_length g.typed (layout g) right + test_put_length bits) (jump_more g alive is_or r target between) more in
                  let ends = ends_at between h (1 + (tested_length g.typed (layout g) right + test_put_length bits)) all in
                  let there = word.passes.at.stands in
                  let jumps = code_longer between jump 1 (jump_more g alive is_or r target between) in
                  let left_more = code_longer (begins d) between word.passes.grown.0 word.passes.grown.1 in
                  let begin_more = first_more in
                  let last_fields = fields_longer between h (1 + (tested_length g.typed (layout g) right + test_put_length bits)) all in
                  let left_fields = fields_longer (begins d) between word.passes.grown.0 word.passes.grown.1 in
                  let last_code = code_longer between h (1 + (tested_length g.typed (layout g) right + test_put_length bits)) all in
                  let behind_first : Behind g f (begins d) = (last, (named, omega (arith, left_more, jumps, low))) in
                  let go : Reaches g word.passes.t (moved_to g alive (target + start g) word.passes.t) = subst (λ (b : Bool). Reaches g word.passes.t (moved_to g alive (if b then target + start g else word.passes.t.at + 1) word.passes.t)) decided_there (goes within_jump) in
                  let moved : Passes g alive (length d.fields) taken_field h s st (Behind g f (begins d)) =
                  passes_moved g alive (length d.fields) taken_field between h s st (Behind g f (begins d)) to_left (1 + (tested_length g.typed (layout g) right + test_put_length bits)) all (target + start g) (omega (arith, there)) go (omega (arith, ends)) in
                  let numbered : (x : ℕ) → x < processors (shapes g) set → is_active (shapes g) moved.t.memory set x ≡ true → number_in g f moved.t x ≡ words x % 2 ^ bits =
                  λ x below on.
                  word.passes.stays tt f (length begun.code) last x (omega (arith, l1, l2)) own first_ends.1 first_named (omega (arith, begin_more)) named (omega (arith, jumps, low))
                  ∙ (gives_numbers g alive places fields bits (length d.fields) begun s set st (λ x. from_bool is_or) f (begins d) first behind_first).are x below
                  (flags_of g alive places fields st first.passes.t set x first.passes.sim first_ends.0 below ∙ sym (flags_of g alive places fields st word.passes.t set x word.passes.sim first_ends.0 below) ∙ on)
                  ∙ ap (λ (m : ℕ). m % 2 ^ bits) (sym (value x)) in (
                    f,
                    (
                      refl,
                      (
                        record {
                          passes = record {
                            grown = (0 + moved.grown.0, extended d taken_field h 0 moved.grown.0 (and_entry set bits W.Own d) moved.grown.1);
                            t = moved.t;
                            go = moved.go;
                            at = moved.at;
                            registers = keeps_less g d taken_field s moved.t (omega arith) moved.registers;
                            sim = moved.sim;
                            stays = λ behind k one later x below own_k ends_k before_one early after late. moved.stays behind_first k one later x below own_k ends_k before_one early after late;
                          };
                          stands = inl (record {
                            long = bits;
                            own = own;
                            fits = omega arith;
                            ends = first_ends.1;
                            newer = omega arith;
                            older = omega (arith, l1, l2, left_fields, last_fields);
                            somewhere = length begun.code;
                            named = first_named;
                            before = omega (arith, begin_more, left_more, last_code);
                            has = record { of_set = refl; exists = first_ends.0; len = refl; are = numbered; small = λ x below on. subst (λ (m : ℕ). m < 2 ^ 32) (sym (value x)) (from_bool_below is_or) };
                          });
                        },
                        λ one. tt,
                      ),
                    ),
                  )

              by : (made : Made (Unit {0})) → GrowsOr (Unit {0}) jump (tested_length g.typed (layout g) right) (λ (u : Unit {0}). Anything u) made → After g Q (then_make made (put_in f))
              by (Makes u e) grown =
                  put_named g set (length d.fields) bits e Q (λ h more within_h last named low high.
                  let x : Extended jump (tested_length g.typed (layout g) right) e = from_growth jump e (tested_length g.typed (layout g) right) grown.1 in
                  inl (is_whole, lands h (extended jump e h (tested_length g.typed (layout g) right) (test_put_length bits) x more) last named (let longer = code_longer jump e (tested_length g.typed (layout g) right) x in omega (arith, longer, low))))
              by Fails grown = tt

          behind_left : After g Q (behind f (O.Scalar r) between)
          unfolding decided in_register then_make truth_put draft_here
          behind_left =
              after_delayed g Q jump (then_make (test_of jump) (put_in f)) (truth_grows f jump) (λ within_jump. by_case (decides is_or holds) (λ decided_there. shut decided_there within_jump) (λ free. undecided free within_jump))

    pub mixed_valued : LogicalGives g has alive n ready places fields is_or bits set ty whole left right
    mixed_valued d s st here sim =
        known_follows g s (meant g fields whole st) (numbers whole st) st (R d s st here sim) (logical_by is_or ty.shape bits (condition_of g.typed (layout g) left) (condition_of g.typed (layout g) right) d)
        (after_same g (Q d s st here sim) (logical_code d)
        (after_delayed g (Q d s st here sim) (begins d) (then_make (left_of (begins d)) (λ v e. behind (next_field set bits d) v e)) (extends_then g (begins d) (left_of (begins d)) (λ v e. behind (next_field set bits d) v e) left_grows (λ v e. behind_grows (next_field set bits d) v e)) (λ within.
        then_outcome g (first d s st here sim within).passes.t (meant g fields left st) (GivesScalar g has alive n ready fields (length (begins d).fields) (begins d) (first d s st here sim within).passes.t st left) (Q d s st here sim) (left_of (begins d)) (λ v e. behind (next_field set bits d) v e)
        (scalar_follows g has alive n ready fields true (bits_of (kind_of left)) (length (begins d).fields) left calm codes.left_code.among codes.left_code.code (begins d) (first d s st here sim within).passes.t st (first d s st here sim within).passes.at (first d s st here sim within).passes.sim)
        (λ v e. behind_grows (next_field set bits d) v e)
        (λ x u is out e (w, (is_w, (same, (r, (is_r, word))))). after_same g (Q d s st here sim) (ap (λ (o : Out). behind (next_field set bits d) o e) is_r)
        (behind_left d s st here sim within e r w (is ∙ ap (λ (v : Value). Source.Gives v u) is_w ∙ ap (λ (t : State). Source.Gives (Scalar w) t) same) word))
        (λ early out e. inr (left_ends s st (ended_back g s (first d s st here sim within).passes.t (meant g fields left st) (first d s st here sim within).passes.go early))))))
      where
        left_grows : Extends g (begins d) (left_of (begins d))
        left_grows = operand_grows g has alive n ready places fields (bits_of (kind_of left)) left codes.left_code true (begins d)
