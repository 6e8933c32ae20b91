-- `&&` and `||` of scalars.
use Rattle.std.proofs.Common.{◌≡◌, ◌∙◌, ℕ, ◌+◌, ◌<◌, ◌^◌, Bool, true, false, not, length, slice_index, Option, None, refl, sym, ap, subst, if◌then◌else◌, arith, ◌⊎◌, inl, inr}
use Rattle.std.specs.Int.{from_bool}
use Rattle.cstar_base.specs.declared.elem.Elem.{Elem}
use Rattle.cstar_tree.specs.declared.typed.ValueType.{ValueType}
use Rattle.cstar_tree.specs.declared.typed.Variable.{Variable}
use Rattle.constant_trees.proofs.Words.{from_bool_below}
use Rattle.lower_base.specs.declared.emit.Out.{Out}
use Rattle.lower_base.specs.declared.emit.Out.TheVariants as O
use Rattle.lower_base.specs.Drafts.{Draft, Made, Makes, a_register, here, in_register, step as step_of, then_make, with_instr, Fails}
use Rattle.lower_expr.specs.Steps.{constant_in}
use Rattle.lower_expr.specs.Values.{Code, Condition, decided, jump_if_decided, logical_by, logical_ended, scalar_logical_by}
use Rattle.paris_code.specs.declared.instr.Instr.TheVariants as I
use Rattle.paris_code.specs.Code.{CodeState, begun}
use Rattle.source_meaning.specs.Narrowing.{Operand, and_then, or_then}
use Rattle.source_meaning.specs.State as Source
use Rattle.source_meaning.specs.State.{Outcome, State, then_do}
use Rattle.source_meaning.specs.Values.{Active, Scalar, Value, at, each, nonzero, number}
use Rattle.code_follows.specs.Fragment.{IsWord}
use Rattle.code_follows.proofs.Branching.{IsMadeWord, decided_goes, decides, jump_long, jump_more, tested, then_from}
use Rattle.code_follows.proofs.Following.{Arrives, Extends, Follows, HasRegisters, Keeps, Sim, delayed, arrives_fresh, keeps_all, keeps_on, value_kept, follows_same, nothing_said}
use Rattle.code_follows.proofs.Growing.{Extended, extended, places}
use Rattle.code_follows.proofs.Jumping.{moved_to, sim_moved}
use Rattle.code_follows.proofs.Settings.{At, Begun, Reaches, Setting, Within, ahead, and_one, begun_later, earlier, onto, regs_more, start, stay}
use Rattle.code_follows.proofs.Values.{Does, HasWord, Value_of, and_register, takes_word, with_reg}
use Rattle.code_follows.proofs.Words.{below_bits, held_wide}

-- what `&&` or `||` gives behind its left operand, which is not 0 or is
abbrev pub joined : Bool → (State → Outcome Value) → Bool → State → Outcome Value
joined is_or other b st =
    if decides is_or b then Source.Gives (Scalar (from_bool is_or)) st else then_do (other st) (λ w after. Source.Gives (Scalar (from_bool (nonzero (at w 0)))) after)

pub and_is : (whole of : Option ℕ) (v : Value) (right : Operand) (active : Active) (st : State) → whole ≡ None → of ≡ None → and_then whole of v right active st ≡ joined false (λ u. right active u) (nonzero (number v)) st
unfolding and_then each
and_is whole of v right active st scalar also =
    ap (λ (o : Option ℕ). and_then o of v right active st) scalar ∙ ap (λ (o : Option ℕ). and_then None o v right active st) also ∙ by (nonzero (number v))
  where
    by : (b : Bool) → (elim b as (λ _. Outcome Value) [ true ↦ then_do (right active st) (λ w after. Source.Gives (Scalar (from_bool (nonzero (at w 0)))) after) | false ↦ Source.Gives (Scalar 0) st ]) ≡ joined false (λ u. right active u) b st
    by true = refl
    by false = refl

pub or_is : (whole of : Option ℕ) (v : Value) (right : Operand) (active : Active) (st : State) → whole ≡ None → of ≡ None → or_then whole of v right active st ≡ joined true (λ u. right active u) (nonzero (number v)) st
unfolding or_then each
or_is whole of v right active st scalar also =
    ap (λ (o : Option ℕ). or_then o of v right active st) scalar ∙ ap (λ (o : Option ℕ). or_then None o v right active st) also ∙ by (nonzero (number v))
  where
    by : (b : Bool) → (elim b as (λ _. Outcome Value) [ true ↦ Source.Gives (Scalar 1) st | false ↦ then_do (right active st) (λ w after. Source.Gives (Scalar (from_bool (nonzero (at w 0)))) after) ]) ≡ joined true (λ u. right active u) b st
    by true = refl
    by false = refl

-- an operand that decides is what the result begins as, and one that does not is the other
decides_so : (is_or z : Bool) → decides is_or z ≡ true → is_or ≡ z
decides_so true true e = refl
decides_so true false e = cc
decides_so false true e = cc
decides_so false false e = refl

undecided : (is_or z : Bool) → decides is_or z ≡ false → not is_or ≡ z
undecided true true e = cc
undecided true false e = refl
undecided false true e = refl
undecided false false e = cc

module _ (g : Setting) (has : HasRegisters g) (alive : Variable → Type 0) (is_or : Bool) (ty : ValueType) (quiet : Bool) (from to : Elem) (long more : ℕ) (first second : Code) (one other : State → Outcome Value) (next : Value → State → Outcome Value)
    (word : IsWord ty) (one_does : Does g has alive from true one first) (other_does : Does g has alive to true other second)
    (first_made : (d : Draft) → IsMadeWord long d (first d) ⊎ (first d ≡ Fails)) (second_made : (d : Draft) → IsMadeWord more d (second d) ⊎ (second d ≡ Fails)) (next_is : (v : Value) (st : State) → next v st ≡ joined is_or other (nonzero (number v)) st) where
  module _ (d : Draft) (s : CodeState) (st : State) (free : Begun g alive d) (there : At g s (length d.code)) (sim : Sim g alive st s) where
    -- the drafts, one behind another
    abbrev opened : Draft
    opened = with_instr (I.FrontConst d.regs (from_bool is_or)) (with_reg d)

    -- where the code of both operands is made
    module _ (left : IsMadeWord long opened (first opened)) where
      abbrev target : ℕ
      target = (here left.behind + more) + 3

      abbrev leap : Draft
      leap = jump_if_decided is_or left.register target left.behind

      module _ (right : IsMadeWord more leap (second leap)) where
        abbrev again : Draft
        again = jump_if_decided is_or right.register target right.behind

        abbrev done : Draft
        done = with_instr (I.FrontConst d.regs (from_bool (not is_or))) again

        code_is : scalar_logical_by is_or first second more d ≡ Makes (O.Scalar d.regs) done
        unfolding scalar_logical_by constant_in a_register then_make in_register decided logical_ended
        code_is =
            ap (λ (m : Made Out). then_make m (λ v between. then_make (decided is_or v more 3 between) (λ end after. then_make (second after) (λ w last. logical_ended is_or d.regs w end last)))) left.is
            ∙ ap (λ (m : Made Out). then_make m (λ w last. logical_ended is_or d.regs w target last)) right.is

        to_opened : Extended d (0 + 1) opened
        to_opened = extended d (with_reg d) opened 0 1 (and_register d) (and_one g (I.FrontConst d.regs (from_bool is_or)) (with_reg d))

        again_done : Extended again 1 done
        again_done = and_one g (I.FrontConst d.regs (from_bool (not is_or))) again

        right_done : Extended right.behind (1 + 1) done
        right_done = extended right.behind again done 1 1 (jump_more g alive is_or right.register target right.behind) again_done

        leap_done : Extended leap (more + (1 + 1)) done
        leap_done = extended leap right.behind done more (1 + 1) right.extended right_done

        left_done : Extended left.behind (1 + (more + (1 + 1))) done
        left_done = extended left.behind leap done 1 (more + (1 + 1)) (jump_more g alive is_or left.register target left.behind) leap_done

        opened_done : Extended opened (long + (1 + (more + (1 + 1)))) done
        opened_done = extended opened left.behind done long _ left.extended left_done

        to_leap : Extended opened (long + 1) leap
        to_leap = extended opened left.behind leap long 1 left.extended (jump_more g alive is_or left.register target left.behind)

        to_right : Extended opened ((long + 1) + more) right.behind
        to_right = extended opened leap right.behind (long + 1) more to_leap right.extended

        inside : d.regs < opened.regs
        inside = let r = regs_more g (I.FrontConst d.regs (from_bool is_or)) (with_reg d) in omega (arith, r)

        ends_there : target ≡ length done.code
        unfolding here
        ends_there =
            let a = places left.behind done (1 + (more + (1 + 1))) left_done in
            omega (arith, a)

        -- the code arrives, with the result in its register
        landed : (b : Bool) (t : CodeState) (u : State) → Reaches g s t → At g t (length done.code) → Sim g alive u t → Keeps g d s t → slice_index t.registers d.regs ≡ from_bool b → Arrives g alive ty.elem quiet d s (Scalar (from_bool b)) u (O.Scalar d.regs) done
        landed b t u go place held_so keeps is =
            let few : from_bool b < 2 ^ 32 = from_bool_below b in
            let regs = opened_done.regs in
            arrives_fresh g alive ty.elem quiet d done s t u d.regs (from_bool b) (_, extended d opened done (0 + 1) _ to_opened opened_done) go place held_so keeps free.regs (omega (arith, inside, regs))
            (below_bits ty.elem.bits (from_bool b) word.1 few) (is ∙ sym (held_wide ty.elem (from_bool b) word.1 few))

        -- from behind an operand that decides
        leaps : (x : ℕ) (e : Draft) (k : ℕ) → Extended e k done → (z : Bool) (t : CodeState) (u : State) → decides is_or z ≡ true → Within g (jump_if_decided is_or x target e) → At g t (length e.code) → Sim g alive u t → Reaches g s t → Keeps g d s t → slice_index t.registers d.regs ≡ from_bool is_or → nonzero (slice_index t.registers x) ≡ z
            → Arrives g alive ty.elem quiet d s (Scalar (from_bool is_or)) u (O.Scalar d.regs) done
        leaps x e k grown z t u so within place held_so go keeps begins is =
            let t1 : CodeState = moved_to g alive (target + start g) t in
            let goes : Reaches g t t1 = subst (λ (c : Bool). Reaches g t (moved_to g alive (if c then target + start g else t.at + 1) t)) so (decided_goes g alive is_or z x target e t is within place) in
            landed is_or t1 u (onto g s t t1 go goes) (omega (arith, ends_there)) (sim_moved g alive u t (target + start g) (ahead g e done k t (target + start g) grown place (omega (arith, ends_there))) held_so) keeps begins

        -- and past one that does not
        goes_past : (x : ℕ) (e : Draft) (z : Bool) (t : CodeState) → decides is_or z ≡ false → Within g (jump_if_decided is_or x target e) → At g t (length e.code) → nonzero (slice_index t.registers x) ≡ z → Reaches g t (moved_to g alive (t.at + 1) t)
        goes_past x e z t so within place is =
            subst (λ (c : Bool). Reaches g t (moved_to g alive (if c then target + start g else t.at + 1) t)) so (decided_goes g alive is_or z x target e t is within place)

        abbrev Ends_so : State → Bool → Type 0
        Ends_so u z = Arrives g alive ty.elem quiet d s (Scalar (from_bool z)) u (O.Scalar d.regs) done

        -- from behind the right operand
        behind_right : (z c : Bool) (t : CodeState) (u : State) → decides is_or z ≡ c → Within g done → At g t (length right.behind.code) → Sim g alive u t → Reaches g s t → Keeps g d s t → slice_index t.registers d.regs ≡ from_bool is_or → nonzero (slice_index t.registers right.register) ≡ z → Ends_so u z
        unfolding begun step_of
        behind_right z true t u so within place held_so go keeps begins is =
            subst (λ (b : Bool). Ends_so u b) (decides_so is_or z so) (leaps right.register right.behind (1 + 1) right_done z t u so (earlier g again done 1 again_done within) place held_so go keeps begins is)
        behind_right z false t u so within place held_so go keeps begins is =
            let t1 : CodeState = moved_to g alive (t.at + 1) t in
            let long_so = jump_long g alive is_or right.register target right.behind in
            let grown : Extended d ((0 + 1) + ((long + 1) + more)) right.behind = extended d opened right.behind (0 + 1) _ to_opened to_right in
            let grown_again : Extended d (((0 + 1) + ((long + 1) + more)) + 1) again = extended d right.behind again _ 1 grown (jump_more g alive is_or right.register target right.behind) in
            let opened_again : Extended opened (((long + 1) + more) + 1) again = extended opened right.behind again _ 1 to_right (jump_more g alive is_or right.register target right.behind) in
            let regs = opened_again.regs in
            let h : HasWord g has alive (from_bool (not is_or)) d done s u d.regs =
            takes_word g has alive (from_bool (not is_or)) d again _ (I.FrontConst d.regs (from_bool (not is_or))) s t1 u d.regs free
            (onto g s t t1 go (goes_past right.register right.behind z t so (earlier g again done 1 again_done within) place is)) (omega (arith, place, long_so)) (sim_moved g alive u t (t.at + 1) (omega arith) held_so) grown_again keeps within refl refl (omega arith) (omega (arith, inside, regs)) in
            subst (λ (b : Bool). Ends_so u b) (undecided is_or z so) (landed (not is_or) h.t u h.go h.at h.sim h.keeps h.is)

        -- the right operand, behind a left one that does not decide
        goes_right : (v : Value) (u : State) → decides is_or (nonzero (number v)) ≡ false → (h : HasWord g has alive (from_bool is_or) d opened s st d.regs) → (arr : Arrives g alive from true opened h.t v u (O.Scalar left.register) left.behind) → Within g leap
            → Follows g (Value_of g has alive ty.elem quiet d s) s (then_do (other u) (λ w after. Source.Gives (Scalar (from_bool (nonzero (at w 0)))) after)) (Makes (O.Scalar d.regs) done)
        unfolding Extends Follows number at
        goes_right v u so h arr within =
            let t1 : CodeState = moved_to g alive (arr.t.at + 1) arr.t in
            let long_so = jump_long g alive is_or left.register target left.behind in
            let place = arr.at in
            let regs = to_leap.regs in
            let go : Reaches g s t1 = onto g s arr.t t1 (onto g s h.t arr.t h.go arr.go) (goes_past left.register left.behind (nonzero (number v)) arr.t so within arr.at (tested g alive from opened left.behind h.t v u left.register arr)) in
            let keeps : Keeps g d s t1 = keeps_on g d opened h.grown.0 s h.t arr.t h.grown.1 h.keeps arr.keeps in
            let begins : slice_index arr.t.registers d.regs ≡ from_bool is_or = arr.keeps d.regs (value_kept g opened d.regs free.regs inside) ∙ h.is in
            then_from g alive (Value_of g has alive to true leap t1) (Value_of g has alive ty.elem quiet d s) s t1 (other u) (λ w after. Source.Gives (Scalar (from_bool (nonzero (at w 0)))) after) (O.Scalar right.register) right.behind (Makes (O.Scalar d.regs) done) go
            (subst (λ (m : Made Out). Follows g (Value_of g has alive to true leap t1) t1 (other u) m) right.is (other_does leap t1 u (begun_later g alive d leap ((0 + 1) + (long + 1)) (extended d opened leap (0 + 1) (long + 1) to_opened to_leap) free) (omega (arith, place, long_so)) (sim_moved g alive u arr.t (arr.t.at + 1) (omega arith) arr.sim)))
            (1 + 1, right_done)
            (λ w last b. λ inner. behind_right (nonzero (at w 0)) (decides is_or (nonzero (at w 0))) b.t last refl inner b.at b.sim (onto g s t1 b.t go b.go)
            (keeps_on g d leap ((0 + 1) + (long + 1)) s t1 b.t (extended d opened leap (0 + 1) (long + 1) to_opened to_leap) keeps b.keeps) (b.keeps d.regs (value_kept g leap d.regs free.regs (omega (arith, inside, regs))) ∙ begins)
            (tested g alive to leap right.behind t1 w last right.register b ∙ ap nonzero (number_at w b.holds.word b.holds.value)))
          where
            number_at : (w : Value) (x : ℕ) → w ≡ Scalar x → number w ≡ at w 0
            number_at w x e = ap number e ∙ sym (ap (λ (y : Value). at y 0) e)

        pub scalar_logical_follows : Follows g (Value_of g has alive ty.elem quiet d s) s (then_do (one st) next) (scalar_logical_by is_or first second more d)
        unfolding Extends Follows begun step_of
        scalar_logical_follows =
            subst (λ (m : Made Out). Follows g (Value_of g has alive ty.elem quiet d s) s (then_do (one st) next) m) (sym code_is)
            (delayed g (Value_of g has alive ty.elem quiet d s) opened s (then_do (one st) next) (Makes (O.Scalar d.regs) done) (_, opened_done) (λ within. from_opened within))
          where
            by : (h : HasWord g has alive (from_bool is_or) d opened s st d.regs) (v : Value) (u : State) (arr : Arrives g alive from true opened h.t v u (O.Scalar left.register) left.behind) (c : Bool) → decides is_or (nonzero (number v)) ≡ c
                → Follows g (Value_of g has alive ty.elem quiet d s) s (if c then Source.Gives (Scalar (from_bool is_or)) u else then_do (other u) (λ w after. Source.Gives (Scalar (from_bool (nonzero (at w 0)))) after)) (Makes (O.Scalar d.regs) done)
            by h v u arr true so = λ within.
                leaps left.register left.behind (1 + (more + (1 + 1))) left_done (nonzero (number v)) arr.t u so (earlier g leap done (more + (1 + 1)) leap_done within) arr.at arr.sim (onto g s h.t arr.t h.go arr.go)
                (keeps_on g d opened h.grown.0 s h.t arr.t h.grown.1 h.keeps arr.keeps) (arr.keeps d.regs (value_kept g opened d.regs free.regs inside) ∙ h.is) (tested g alive from opened left.behind h.t v u left.register arr)
            by h v u arr false so =
                delayed g (Value_of g has alive ty.elem quiet d s) leap s (then_do (other u) (λ w after. Source.Gives (Scalar (from_bool (nonzero (at w 0)))) after)) (Makes (O.Scalar d.regs) done) (_, leap_done) (λ within. goes_right v u so h arr within)

            from_opened : Within g opened → Follows g (Value_of g has alive ty.elem quiet d s) s (then_do (one st) next) (Makes (O.Scalar d.regs) done)
            from_opened within =
                let h : HasWord g has alive (from_bool is_or) d opened s st d.regs =
                takes_word g has alive (from_bool is_or) d (with_reg d) 0 (I.FrontConst d.regs (from_bool is_or)) s s st d.regs free (stay g s) there sim (and_register d) (keeps_all g d s) within refl refl (omega arith) (omega arith) in
                then_from g alive (Value_of g has alive from true opened h.t) (Value_of g has alive ty.elem quiet d s) s h.t (one st) next (O.Scalar left.register) left.behind (Makes (O.Scalar d.regs) done) h.go
                (subst (λ (m : Made Out). Follows g (Value_of g has alive from true opened h.t) h.t (one st) m) left.is (one_does opened h.t st (begun_later g alive d opened (0 + 1) to_opened free) h.at h.sim)) (_, left_done)
                (λ v u arr. subst (λ (o : Outcome Value). Follows g (Value_of g has alive ty.elem quiet d s) s o (Makes (O.Scalar d.regs) done)) (sym (next_is v u)) (by h v u arr (decides is_or (nonzero (number v))) refl))

  pub logical_follows : (bits : ℕ) (left right : Condition) → left.code ≡ first → right.code ≡ second → right.long ≡ more → Does g has alive ty.elem quiet (λ st. then_do (one st) next) (λ d. logical_by is_or ty.shape bits left right d)
  unfolding logical_by scalar_logical_by constant_in a_register then_make in_register decided
  logical_follows bits left right is_first is_second is_more d s st free there sim =
      subst (λ (m : Made Out). Follows g (Value_of g has alive ty.elem quiet d s) s (then_do (one st) next) m)
      (sym (ap (λ (o : Option ℕ). logical_by is_or o bits left right d) word.0 ∙ ap (λ (c : Code). scalar_logical_by is_or c right.code right.long d) is_first ∙ ap (λ (c : Code). scalar_logical_by is_or first c right.long d) is_second
      ∙ ap (λ (k : ℕ). scalar_logical_by is_or first second k d) is_more))
      (by_first (first_made (opened d s st free there sim)))
    where
      Goes : Type 0
      Goes = Follows g (Value_of g has alive ty.elem quiet d s) s (then_do (one st) next) (scalar_logical_by is_or first second more d)

      by_second : (left : IsMadeWord long (opened d s st free there sim) (first (opened d s st free there sim))) → IsMadeWord more (leap d s st free there sim left) (second (leap d s st free there sim left)) ⊎ (second (leap d s st free there sim left) ≡ Fails) → Goes
      by_second left (inl right) = scalar_logical_follows d s st free there sim left right
      by_second left (inr fails) =
          follows_same g (Value_of g has alive ty.elem quiet d s) s refl
          (ap (λ (m : Made Out). then_make m (λ v between. then_make (decided is_or v more 3 between) (λ end after. then_make (second after) (λ w last. logical_ended is_or d.regs w end last)))) left.is
          ∙ ap (λ (m : Made Out). then_make m (λ w last. logical_ended is_or d.regs w (target d s st free there sim left) last)) fails) (nothing_said g (Value_of g has alive ty.elem quiet d s) s (then_do (one st) next))

      by_first : IsMadeWord long (opened d s st free there sim) (first (opened d s st free there sim)) ⊎ (first (opened d s st free there sim) ≡ Fails) → Goes
      by_first (inl left) = by_second left (second_made (leap d s st free there sim left))
      by_first (inr fails) =
          follows_same g (Value_of g has alive ty.elem quiet d s) s refl
          (ap (λ (m : Made Out). then_make m (λ v between. then_make (decided is_or v more 3 between) (λ end after. then_make (second after) (λ w last. logical_ended is_or d.regs w end last)))) fails)
          (nothing_said g (Value_of g has alive ty.elem quiet d s) s (then_do (one st) next))
