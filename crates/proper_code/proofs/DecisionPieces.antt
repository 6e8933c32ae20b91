-- Code that evaluates one part or another stays within itself: its jumps lead where its lengths say.
use Rattle.std.proofs.Common.{◌≡◌, ℕ, ◌+◌, Bool, true, false, not, Option, Some, None, is_none, refl, sym, arith, subst, if◌then◌else◌}
use Rattle.std.specs.Int.{from_bool}
use Rattle.cstar_tree.specs.declared.typed.TExpr.{TExpr}
use Rattle.cstar_tree.specs.declared.typed.ValueType.{ValueType}
use Rattle.paris_code.specs.declared.instr.Instr.TheVariants as I
use Rattle.paris_code.specs.declared.operands.Field.{Field}
use Rattle.paris_code.specs.declared.operands.Konst.TheVariants as K
use Rattle.lower_base.specs.declared.emit.Out.{Out}
use Rattle.lower_base.specs.declared.emit.Out.TheVariants as O
use Rattle.lower_base.specs.Drafts.{Draft, Step, Plain, Made, Makes, a_field, a_register, fresh_for, here, in_register, step, then_make, with_instr, with_step}
use Rattle.lower_expr.specs.Joined.{flag_by, is_flag, joined, joins}
use Rattle.lower_expr.specs.Joined as J
use Rattle.lower_expr.specs.Lengths.{test_put_length}
use Rattle.lower_expr.specs.Steps.{is_kept, word_for}
use Rattle.lower_expr.specs.Values.{Arm, Code, Condition, Test, arm_by, choice_by, decided, decided_by, flag_of, joined_by, jump_if_decided, jumped, jumped_over, limited, limited_by, logical_by, logical_ended, narrowed_again, narrowed_by, narrowing_by, parallel_choice_by, parallel_logical_by, scalar_choice_by, scalar_logical_by, truth_put, turned_over}
use Rattle.proper_code.proofs.Stretches.{Ways, always, is_inward}
use Rattle.proper_code.proofs.Building.{Setting, Builds, Built, Grew, IsInward, as_before, bind, either, fails, fresh_entry, fresh_register, inner, makes, more, more_step, on_field, on_register, option}
use Rattle.proper_code.proofs.ShortPieces.{constant_builds, put_value_builds, test_builds, word_put_builds}
use Rattle.proper_code.proofs.Jumping.{IsMeasured, Measures, deciding, deciding_jumps, decides, jump_over, measured, measured_bind, measured_builds, measured_register, one_made, over, over_both, regrouped}
use Rattle.code_lengths.specs.Growth.{Stands}
use Rattle.code_lengths.proofs.Pieces.{test_grows}
use Rattle.code_lengths.proofs.Basis.{plainly}
use Rattle.code_lengths.proofs.Pieces.{InField}
use Rattle.proper_code.proofs.Stretches.{IsJump, if_zero}
use Rattle.code_lengths.proofs.Drafting.{and_step, as_it_was}
use Rattle.proper_code.proofs.Building.{IsBuilt}
use Rattle.proper_code.proofs.Writing.{one_further}

-- a choice of code, whose side is known
either_way : {A : Type 0} {on : Setting} (b : Bool) (d : Draft) (m n : Made A) → (b ≡ true → Builds on d m) → (b ≡ false → Builds on d n) → Builds on d (if b then m else n)
either_way true d m n f g = f refl
either_way false d m n f g = g refl

-- an operand of `&&` or `||` whose code and test are so long, the test where the value stands in a field
pub record IsInwardCondition (on : Setting) (c : Condition) : Type 0 where
  pub code : IsInward on c.code
  pub test : IsInward on c.test
  pub long : (d : Draft) → Measures on c.long d (c.code d)
  pub tested : is_kept c.operand ≡ false → (d : Draft) → Measures on c.tested_long d (c.test d)

-- what a left operand decides is jumped over
decided_over : {A : Type 0} {on : Setting} (is_or : Bool) (v : Out) (n own left : ℕ) (d : Draft) (next : ℕ → Draft → Made A) → own ≡ left + 1 →
    ((c : Draft) → here c ≡ here d + 1 → Measures on (n + left) c (next ((here d + n) + own) c)) → Builds on d (then_make (decided is_or v n own d) next)
unfolding decided in_register then_make
decided_over {A} {on} is_or (O.Scalar a) n own left d next h m = by (decides is_or a ((here d + n) + own) d)
  where
    by : jump_if_decided is_or a ((here d + n) + own) d ≡ with_step (deciding is_or a ((here d + n) + own)) d → Builds on d (next ((here d + n) + own) (jump_if_decided is_or a ((here d + n) + own) d))
    by e =
        subst (λ (f : Draft). Builds on d (next ((here d + n) + own) f)) (sym e)
        (measured_builds (1 + (n + left)) d _ (jump_over (n + left) (deciding is_or a ((here d + n) + own)) ((here d + n) + own) d _ (deciding_jumps is_or a _) (omega (arith, h))
        (m _ (one_further (deciding is_or a ((here d + n) + own)) d))))
decided_over is_or (O.Field f) n own left d next h m = fails d
decided_over is_or O.Nothing n own left d next h m = fails d

-- `&&` and `||` of scalars
logical_ended_measures : {on : Setting} (is_or : Bool) (dest : ℕ) (w : Out) (end : ℕ) (d : Draft) → end ≡ here d + 2 → Measures on 2 d (logical_ended is_or dest w end d)
unfolding logical_ended is_inward step
logical_ended_measures {on} is_or dest w end d h =
    measured_register 2 d w _ (λ b. subst (λ (f : Draft). Measures on 2 d (Makes (O.Scalar dest) (with_instr (I.FrontConst dest (from_bool (not is_or))) f))) (sym (decides is_or b end d))
    (jump_over 1 (deciding is_or b end) end d _ (deciding_jumps is_or b end) (omega (arith, h)) (one_made _ _ (with_step (deciding is_or b end) d) refl)))

scalar_logical_builds : {on : Setting} (is_or : Bool) (first second : Code) (n : ℕ) → IsInward on first → ((d : Draft) → Measures on n d (second d)) → IsInward on (scalar_logical_by is_or first second n)
unfolding scalar_logical_by
scalar_logical_builds is_or first second n c m d e b =
    bind d _ _ (constant_builds _ d e b) (λ out begun. on_register begun out _ (λ dest. bind begun _ _ (c begun begun (as_before begun)) (λ v between.
    decided_over is_or v n 3 2 between _ refl (λ next at. measured_bind n 2 next _ _ (m next) (λ w after is. logical_ended_measures is_or dest w _ after (omega (arith, at, is)))))))

-- `&&` and `||` of parallel operands: the left one is scalar
decided_by_builds : {on : Setting} (is_or : Bool) (dest : Field) (first : Code) (second : Test) (n : ℕ) → IsInward on first → ((d : Draft) → Measures on n d (second d)) → IsInward on (decided_by is_or dest first second n)
unfolding decided_by truth_put
decided_by_builds is_or dest first second n c m d e b =
    bind d _ _ (c d e b) (λ v between. decided_over is_or v n (1 + test_put_length dest.len) (test_put_length dest.len) between _ (one_and (test_put_length dest.len))
    (λ next _. measured_bind n (test_put_length dest.len) next _ _ (m next) (λ _ after _. measured InField (test_put_length dest.len) after _ (plainly (test_grows _ dest after)) (test_builds dest after after (as_before after)))))
  where
    one_and : (n : ℕ) → 1 + n ≡ n + 1
    one_and n = omega arith

-- the left one is parallel, and narrows the context
narrowed_more : {w : Ways} (is_or : Bool) (set : ℕ) (d e : Draft) → Grew w d e → Grew w d (narrowed_by is_or set e)
unfolding narrowed_by is_inward step
narrowed_more is_or set d e b = search inner depth 12

narrowed_again_builds : {on : Setting} (is_or : Bool) (set : ℕ) (test : Test) → IsInward on test → IsInward on (narrowed_again is_or set test)
unfolding narrowed_again
narrowed_again_builds is_or set test c d e b = bind d _ _ (c d e b) (λ _ after. makes _ after _ (narrowed_more is_or set after after (as_before after)))

limited_builds : {on : Setting} (is_or : Bool) (dest saved : Field) (first next : Test) → IsInward on first → IsInward on next → IsInward on (limited_by is_or dest saved first next)
unfolding limited_by is_inward step
limited_builds is_or dest saved first next c t d e b =
    bind d _ _ (c d e b) (λ _ known. bind known _ _ (t known _ (narrowed_more is_or dest.set known _ (more _ known known refl (as_before known)))) (λ _ after. search inner depth 12))

-- one instruction is jumped over, and another one stands behind it
last_skipped : (on : Setting) (is_or : Bool) (test : ℕ) (saved dest : Field) (word : ℕ) (d : Draft) →
    Built on d (with_instr (I.LoadContext saved) (with_instr (I.MoveConstant dest (K.Imm word)) (jump_if_decided is_or test (here d + 2) d)))
unfolding with_instr step is_inward
last_skipped on is_or test saved dest word d =
    subst (λ (f : Draft). Built on d (with_step (Plain (I.LoadContext saved)) (with_step (Plain (I.MoveConstant dest (K.Imm word))) f))) (sym (decides is_or test (here d + 2) d))
    (let s : Step = deciding is_or test (here d + 2) in
    let f : Draft = with_step (Plain (I.MoveConstant dest (K.Imm word))) (with_step s d) in
    let one = one_further s d in
    let two = one_further (Plain (I.MoveConstant dest (K.Imm word))) (with_step s d) in
    more_step (Plain (I.LoadContext saved)) d f refl
    (over on s (here d + 2) d d f (deciding_jumps is_or test (here d + 2)) (omega (arith, one, two)) (omega arith) (as_before d) (more_step _ (with_step s d) (with_step s d) refl (as_before (with_step s d)))))

skipped : (on : Setting) (is_or : Bool) (dest saved : Field) (w : Out) (after : Draft) →
    Builds on after (then_make (jumped is_or w after) (λ _ behind. Makes (O.Field dest) (with_instr (I.LoadContext saved) (with_instr (I.MoveConstant dest (K.Imm (from_bool (not is_or)))) behind))))
unfolding jumped in_register then_make
skipped on is_or dest saved (O.Scalar test) after = makes _ after _ (last_skipped on is_or test saved dest _ after)
skipped on is_or dest saved (O.Field f) after = fails after
skipped on is_or dest saved O.Nothing after = fails after

limited_over_builds : {on : Setting} (is_or : Bool) (dest saved : Field) (first : Test) (code : Code) → IsInward on first → IsInward on code → IsInward on (limited_by is_or dest saved first (jumped_over is_or code))
unfolding limited_by jumped_over is_inward step
limited_over_builds {on} is_or dest saved first code c t d e b =
    bind d _ _ (c d e b) (λ _ known. regrouped known (code _) _ _ (bind known _ _ (t known _ (narrowed_more is_or dest.set known _ (more _ known known refl (as_before known)))) (λ w after. skipped on is_or dest saved w after)))

joined_builds : {on : Setting} (is_or : Bool) (dest left right : Field) → IsInward on (joined is_or dest left right)
unfolding joined J.cleared is_inward step
joined_builds is_or dest left right d e b = search inner depth 12

flag_builds : {on : Setting} (one : Bool) (set : ℕ) (code : Code) (test : Test) → IsInward on code → IsInward on test → IsInward on (flag_by one set code test)
unfolding flag_by is_inward step
flag_builds one set code test c t d e b =
    either one d _ _ (bind d _ _ (c d e b) (λ v after. search inner depth 12)) (bind d _ _ (t d e b) (λ _ between. search inner depth 12))

pub joined_by_builds : {on : Setting} (is_or : Bool) (dest : Field) (left right : Condition) → IsInwardCondition on left → IsInwardCondition on right → IsInward on (joined_by is_or dest left right)
unfolding joined_by flag_of
joined_by_builds is_or dest left right a c d e b =
    bind d _ _ (flag_builds _ dest.set left.code left.test a.code a.test d e b) (λ f between. bind between _ _ (flag_builds _ dest.set right.code right.test c.code c.test between between (as_before between)) (λ g after. joined_builds is_or dest f g after after (as_before after)))

second_way : {on : Setting} (kept is_or : Bool) (dest saved : Field) (first : Test) (right : Condition) → IsInward on first → IsInwardCondition on right →
    IsInward on (limited_by is_or dest saved first (if kept then jumped_over is_or right.code else narrowed_again is_or dest.set right.test))
second_way true is_or dest saved first right c r = limited_over_builds is_or dest saved first right.code c r.code
second_way false is_or dest saved first right c r = limited_builds is_or dest saved first _ c (narrowed_again_builds is_or dest.set right.test r.test)

narrowing_builds : {on : Setting} (is_or : Bool) (dest : Field) (left right : Condition) → IsInwardCondition on left → IsInwardCondition on right → (is_kept left.operand ≡ true → is_kept right.operand ≡ false) → IsInward on (narrowing_by is_or dest left right)
unfolding narrowing_by is_inward step
narrowing_builds is_or dest left right a c f d e b =
    bind d _ _ (fresh_entry dest.set 1 _ d e b) (λ saved next. let ready = more (I.MoveConstant dest (K.Imm (from_bool is_or))) next next refl (as_before next) in
    either_way (is_kept left.operand) next _ _ (λ k. decided_by_builds is_or dest left.code right.test right.tested_long a.code (c.tested (f k)) next _ ready)
    (λ _. second_way (is_kept right.operand) is_or dest saved left.test right a.test c next _ ready))

pub logical_builds : {on : Setting} (is_or : Bool) (shape : Option ℕ) (bits : ℕ) (left right : Condition) → IsInwardCondition on left → IsInwardCondition on right → (is_none shape ≡ false → is_kept left.operand ≡ true → is_kept right.operand ≡ false) → IsInward on (logical_by is_or shape bits left right)
unfolding logical_by parallel_logical_by
logical_builds is_or None bits left right a c f d e b = scalar_logical_builds is_or left.code right.code right.long a.code c.long d e b
logical_builds is_or (Some set) bits left right a c f d e b =
    bind d _ _ (fresh_entry set bits _ d e b) (λ dest begun. either (joins left.operand right.operand) begun _ _ (joined_by_builds is_or dest left right a c begun begun (as_before begun)) (narrowing_builds is_or dest left right a c (f refl) begun begun (as_before begun)))

-- an arm of `?:`
pub arm_builds : {on : Setting} (code : Code) (x : TExpr) (dest : Out) → IsInward on code → IsInward on (arm_by code x dest)
unfolding arm_by
arm_builds code x dest c d e b = option (word_for dest x) d _ _ (λ word. word_put_builds dest word d e b) (bind d _ _ (c d e b) (λ v after. put_value_builds dest v after after (as_before after)))

-- one arm or the other, each as long as described
both_ways : {A B : Type 0} {on : Setting} (s r : Step) (first second n m : ℕ) (c : Draft) (made : Made A) (next : Draft → Made B) → IsJump s first → IsJump r second → first ≡ (here c + n) + 2 → second ≡ first + m →
    Measures on n (with_step s c) made → ((half : Draft) → Measures on m half (next half)) → Builds on c (then_make made (λ _ half. next (with_step r half)))
unfolding IsMeasured IsBuilt then_make
both_ways {A} {B} {on} s r first second n m c made next j k is end a b = record { builds = λ h. by made (on.basis.lasts c _ 1 h (and_step s c c 0 (as_it_was c))) (a.measures (on.basis.lasts c _ 1 h (and_step s c c 0 (as_it_was c)))) }
  where
    rest : (half : Draft) (made : Made B) → Built on (with_step s c) half → here half ≡ here (with_step s c) + n → IsMeasured on m (with_step r half) made → IsBuilt on c made
    rest half (Makes y f) x long q =
        let one = one_further s c in
        let two = one_further r half in
        let more = q.1 in
        over_both on s r first second c c half f j k (omega (arith, is)) (omega (arith, is, end, long, one)) (omega (arith, is, long, one, two)) (omega (arith, is, end, long, one, two, more)) (as_before c) x q.0
    rest half Made.Fails x long q = tt

    by : (made : Made A) → on.basis.holds (with_step s c) → IsMeasured on n (with_step s c) made → IsBuilt on c (then_make made (λ _ half. next (with_step r half)))
    by (Makes x half) h z =
        rest half (next (with_step r half)) z.0 z.1 ((b (with_step r half)).measures (on.basis.lasts half _ 1 (on.basis.lasts (with_step s c) half z.0.count h z.0.grown) (and_step r half half 0 (as_it_was half))))
    by Made.Fails h z = tt

chosen : (on : Setting) (dest v : Out) (first second : Arm) (n m : ℕ) (begun : Draft) → ((d : Draft) → Measures on n d (first dest d)) → ((d : Draft) → Measures on m d (second dest d)) →
    Builds on begun (then_make (decided false v n 2 begun) (λ other next. then_make (first dest next) (λ _ half. second dest (with_instr (I.FrontJump (other + m)) half))))
unfolding decided in_register then_make jump_if_decided with_instr step
chosen on dest (O.Scalar a) first second n m begun f g =
    both_ways (Plain (I.FrontJumpZero a ((here begun + n) + 2))) (Plain (I.FrontJump (((here begun + n) + 2) + m))) ((here begun + n) + 2) (((here begun + n) + 2) + m) n m begun _ (second dest) (if_zero a _) (always _) refl refl (f _) g
chosen on dest (O.Field x) first second n m begun f g = fails begun
chosen on dest O.Nothing first second n m begun f g = fails begun

-- `?:` with a scalar condition
pub scalar_choice_builds : {on : Setting} (dest : Out) (test : Code) (first second : Arm) (n m : ℕ) → IsInward on test → ((d : Draft) → Measures on n d (first dest d)) → ((d : Draft) → Measures on m d (second dest d)) → IsInward on (scalar_choice_by dest test first second n m)
unfolding scalar_choice_by
scalar_choice_builds {on} dest test first second n m c a f d e b = bind d _ _ (c d e b) (λ v begun. chosen on dest v first second n m begun a f)

-- `?:` with a parallel condition
limited_code : {on : Setting} (saved : Field) (v : Out) → IsInward on (limited saved v)
unfolding limited is_inward step
limited_code saved v d e b = on_field d v _ (λ a. makes _ d _ (narrowed_more false a.set d _ (search inner depth 12)))

turned_more : {w : Ways} (saved condition : Field) (d e : Draft) → Grew w d e → Grew w d (turned_over saved condition e)
unfolding turned_over is_inward step
turned_more saved condition d e b = narrowed_more true condition.set d _ (search inner depth 12)

pub parallel_choice_builds : {on : Setting} (dest : Out) (test : Code) (first second : Arm) → IsInward on test → IsInward on (first dest) → IsInward on (second dest) → IsInward on (parallel_choice_by dest test first second)
unfolding parallel_choice_by is_inward step
parallel_choice_builds dest test first second c a f d e b =
    on_field d dest _ (λ g. bind d _ _ (fresh_entry g.set 1 _ d e b) (λ saved begun. bind begun _ _ (c begun begun (as_before begun)) (λ v next. bind next _ _ (limited_code saved v next next (as_before next)) (λ condition third.
    bind third _ _ (a third third (as_before third)) (λ _ fourth. bind fourth _ _ (f fourth _ (turned_more saved condition fourth fourth (as_before fourth))) (λ _ last. search inner depth 12))))))

-- a fresh place for a value stands as its shape says
fresh_then : {A : Type 0} {on : Setting} (shape : Option ℕ) (bits : ℕ) (d e : Draft) (next : Out → Draft → Made A) → Built on d e → ((dest : Out) (after : Draft) → Stands (is_none shape) dest → Builds on after (next dest after)) → Builds on d (then_make (fresh_for shape bits e) next)
unfolding fresh_for then_make
fresh_then None bits d e next b f = regrouped d (a_register e) _ _ (bind d _ _ (fresh_register d e b) (λ r after. f (O.Scalar r) after refl))
fresh_then (Some set) bits d e next b f = regrouped d (a_field set bits e) _ _ (bind d _ _ (fresh_entry set bits _ d e b) (λ g after. f (O.Field g) after refl))

-- an arm that is so long where its value goes to a place of a kind
pub record IsInwardArm (on : Setting) (kept : Bool) (n : ℕ) (arm : Arm) : Type 0 where
  pub code : (dest : Out) → IsInward on (arm dest)
  pub long : (dest : Out) → Stands kept dest → (d : Draft) → Measures on n d (arm dest d)

pub choice_builds : {on : Setting} (ty : ValueType) (bits : ℕ) (kept : Bool) (test : Code) (first second : Arm) (n m : ℕ) → IsInward on test → IsInwardArm on (is_none ty.shape) n first → IsInwardArm on (is_none ty.shape) m second → IsInward on (choice_by ty bits kept test first second n m)
unfolding choice_by
choice_builds ty bits kept test first second n m c a f d e b =
    fresh_then ty.shape bits d e _ b (λ dest after s. either kept after _ _ (scalar_choice_builds dest test first second n m c (a.long dest s) (f.long dest s) after after (as_before after))
    (parallel_choice_builds dest test first second c (a.code dest) (f.code dest) after after (as_before after)))
