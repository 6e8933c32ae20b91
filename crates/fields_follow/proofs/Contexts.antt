-- `where` follows where what stands under it does.
use Rattle.std.proofs.Common.{◌⊎◌, inl, inr, ◌≡◌, ◌∙◌, ℕ, ◌+◌, ◌<◌, ◌≤◌, true, List, [], ◌∷◌, ◌++◌, length, refl, sym, ap, arith}
use Rattle.code_follows.proofs.Statements.{declared_on}
use Rattle.cstar_tree.specs.declared.typed.TExpr.{TExpr}
use Rattle.cstar_tree.specs.declared.typed.TStmt.{TStmt, Held-TStmt-If-2, None', Some'}
use Rattle.cstar_tree.specs.declared.typed.TStmt as S
use Rattle.cstar_tree.specs.declared.typed.Variable.{Variable}
use Rattle.cstar_tree.specs.declared.typed.Variable.TheVariants as V
use Rattle.code_lengths.specs.Lowerable.{InField}
use Rattle.code_lengths.specs.LowerableStatements.{IsLowerableStatement}
use Rattle.code_lengths.specs.NamingStatements.{StatementNamesVariables, behind}
use Rattle.code_lengths.specs.Ready.{HasCode, HasStatementCode, IsReadyButForFields, HasDeclared}
use Rattle.code_lengths.specs.ShapedStatements.{IsShapedStatement}
use Rattle.lower_base.specs.Drafts.{Draft, Made, Makes, an_entry, step as step_of, then_make, with_instr}
use Rattle.lower_stmt.specs.Frames.{in_context}
use Rattle.lower_stmt.specs.Statements.{closing, kept_for, narrowed, otherwise_of, statement_of, turned, with_kept}
use Rattle.paris_code.specs.declared.instr.Instr.TheVariants as I
use Rattle.paris_code.specs.declared.operands.Field.{Field}
use Rattle.paris_code.specs.Spans.{IsNamedAt}
use Rattle.source_meaning.specs.Expressions.{evaluated}
use Rattle.source_meaning.specs.Narrowing.{where_nonzero, where_zero}
use Rattle.source_meaning.specs.State.{Gives, Outcome, State, then_do}
use Rattle.source_meaning.specs.Statements.{Leaving, Onward, declared, else_executed, executed, then_go}
use Rattle.source_meaning.specs.Values.{Active, Parallel, Scope, Value, nonzero}
use Rattle.paris_code.specs.Code.{CodeState}
use Rattle.source_meaning.proofs.ConstantLaws.{Boxed}
use Rattle.code_follows.proofs.Executing.{Exits, Left, go_on}
use Rattle.code_follows.proofs.Following.{Extends, Follows, HasRegisters, at_once, follows_same}
use Rattle.code_follows.proofs.Growing.{Extended, and_instr, as_it_was, extended}
use Rattle.code_follows.proofs.Parts.{ComesOn, Part, StatementPart, in_one_more}
use Rattle.code_follows.proofs.Settings.{OpenAmong, Setting, Within, and_one, code_more, earlier, layout}
use Rattle.code_follows.specs.Fragment.{NamesAmong}
use Rattle.fields_follow.specs.Fragment.{IsCondition}
use Rattle.fields_follow.proofs.Forms.{HasItsCode}
use Rattle.fields_follow.proofs.Instructions.{shapes}
use Rattle.fields_follow.proofs.Knowing.{HasKept, Keeping, KnowsFields, Lasts, both_kept, first_kept, flags_last, lasts_both}
use Rattle.fields_follow.proofs.Entering.{HasRun, TestMade, condition_runs, code_more_by, condition_in, context_led, entered, entries_more, holds, holds_own, saved, saved_own, test_made, test_declares}
use Rattle.fields_follow.proofs.Saving.{Kept, arrives, arrives_now, kept_lasts, own_below, part_closed, test_below, was_kept}
use Rattle.fields_follow.proofs.Leading.{Led, TestsAre, keeps_tests, led_weaker, loads_tests, named_next, narrows, tests_kept, turns}
use Rattle.fields_follow.proofs.Leaving.{EndsBelow}
use Rattle.fields_follow.proofs.Narrowing.{among, among_beside, others, others_beside}
use Rattle.fields_follow.proofs.Passing.{code_longer, fields_longer}
use Rattle.fields_follow.proofs.Places.{IsOwnField}
use Rattle.fields_follow.proofs.Outcomes.{Ended, ended_follows, ended_on}
use Rattle.fields_follow.proofs.Locals.{behind_homes}
use Rattle.fields_follow.proofs.Values.{one_more}
use Rattle.paris_code.specs.declared.program.Owner.TheVariants as W

-- where the condition gives numbers, the source goes on where they are not zero, and then where they are
where_means : (scope : Scope) (a : Active) (shape : ℕ) (test : TExpr) (p : Boxed) (first : TStmt) (second : Held-TStmt-If-2) (k : ℕ) (v : ℕ → ℕ) (st : State) → evaluated scope test a st ≡ Gives (Parallel v) st
    → executed scope (S.Where' shape test p first second) k a st ≡ then_go (executed scope first k (among shape v a) st) (else_executed scope second (k + declared first) (others shape v a))
unfolding executed then_do
where_means scope a shape test p first second k v st is =
    ap (λ (o : Outcome Value). then_do o (λ x after. then_go (executed scope first k (where_nonzero shape x a) after) (else_executed scope second (k + declared first) (where_zero shape x a)))) is

-- where it ends early, so does the statement
where_ends : (scope : Scope) (a : Active) (shape : ℕ) (test : TExpr) (p : Boxed) (first : TStmt) (second : Held-TStmt-If-2) (k : ℕ) (st : State) (g : Setting) (s : CodeState) → Ended g s (evaluated scope test a st) → Ended g s (executed scope (S.Where' shape test p first second) k a st)
unfolding executed
where_ends scope a shape test p first second k st g s ended =
    ended_on g s (evaluated scope test a st) (λ x after. then_go (executed scope first k (where_nonzero shape x a) after) (else_executed scope second (k + declared first) (where_zero shape x a))) ended

module _ (g : Setting) (has : HasRegisters g) (scope : Scope) (active : Active) (known : KnowsFields g scope active) (alive : Variable → Type 0) (files : (k : ℕ) → alive (V.File k)) (n : ℕ) (ready : (d : Draft) → IsReadyButForFields g.typed g.instance (layout g) n d) where
  -- what is known of the code of the condition
  where_test : (shape : ℕ) (test : TExpr) (p : Boxed) (first : TStmt) (second : Held-TStmt-If-2) → HasStatementCode g.typed g.instance n (S.Where' shape test p first second) → InField g.typed test × HasCode g.typed g.instance n test
  unfolding IsShapedStatement IsLowerableStatement StatementNamesVariables
  where_test shape test p first second c = (c.lowerable.0, record { shaped = c.shaped.0; lowerable = c.lowerable.1; names = c.names.0 })

  -- where nothing is behind `else`
  where_alone : (shape : ℕ) (test : TExpr) (p : Boxed) (first : TStmt) → IsCondition shape test → InField g.typed test → HasItsCode g.typed g.instance alive n test → (f : Exits) (contexts : List Field) → StatementPart KnowsFields g scope alive first n f contexts
      → ComesOn g scope alive active (S.Where' shape test p first None') n f contexts
  unfolding else_executed statement_of an_entry then_make closing narrowed with_kept kept_for otherwise_of step_of Extends
  where_alone shape test p first condition field c f contexts parts d s st declares begun at sim =
      follows_same g (Left g alive f d s) s refl
      (ap (λ (made : Made (Unit {0})). then_make made (λ u known. then_make (closing (saved shape d) (code (inner_of known))) (λ m behind. otherwise_of g.typed (layout g) None' f.frame contexts shape (saved shape d) (holds shape d) m behind))) tests.1.1.0
      ∙ ap (λ (made : Made ℕ). then_make (closing (saved shape d) made) (λ m behind. otherwise_of g.typed (layout g) None' f.frame contexts shape (saved shape d) (holds shape d) m behind)) made.1.0)
      (at_once g (Left g alive f d s) s o (behind n first) last (λ w.
      let w_e : Within g e = earlier g e last 1 (and_one g (I.LoadContext (saved shape d)) e) w in
      let w_inner : Within g inner = earlier g inner e longer.0 longer.1 w_e in
      let w_saves : Within g save = earlier g save inner 1 (and_one g (I.LogandContextWithTest shape) save) w_inner in
      by w (condition_runs g shape d test tests scope active known alive begun s st has n ready condition c files at sim (earlier g after save 1 (and_one g (I.StoreContext (saved shape d)) after) w_saves))))
    where
      v : ℕ → ℕ
      v = λ q. condition_in g scope active known alive shape st test q

      o : Outcome Leaving
      o = executed scope (S.Where' shape test p first None') n active st

      tests : TestMade g shape d test
      tests = test_made g shape d test alive n declares field c

      after : Draft
      after = tests.1.0

      save : Draft
      save = with_instr (I.StoreContext (saved shape d)) after

      inner_of : Draft → Draft
      inner_of known = with_instr (I.LogandContextWithTest shape) (with_instr (I.StoreContext (saved shape d)) known)

      inner : Draft
      inner = inner_of after

      inner_more : Extended after 2 inner
      inner_more = and_instr (I.LogandContextWithTest shape) after save 1 (and_one g (I.StoreContext (saved shape d)) after)

      inner_declares : HasDeclared g.typed g.instance (layout g) n inner
      inner_declares = declared_on g (I.LogandContextWithTest shape) n save (declared_on g (I.StoreContext (saved shape d)) n after (test_declares g shape d test alive n declares field c tests))

      code : Draft → Made ℕ
      code begin = statement_of g.typed (layout g) first (in_context f.frame) (contexts ++ saved shape d ∷ []) n begin

      part : Part KnowsFields g scope alive (saved shape d) (in_one_more f) n (behind n first) (λ a u. executed scope first n a u) code
      part = parts (saved shape d)

      made : (e : Draft) × ((code inner ≡ Makes (behind n first) e) × ((k : ℕ) × Extended inner k e) × HasDeclared g.typed g.instance (layout g) (behind n first) e)
      made = part.made inner inner_declares

      e : Draft
      e = made.0

      longer : (k : ℕ) × Extended inner k e
      longer = made.1.1

      last : Draft
      last = with_instr (I.LoadContext (saved shape d)) e

      by : Within g last → HasRun g shape d test tests scope active known alive begun s st ⊎ Ended g s (evaluated scope test active st) → Follows g (Left g alive f d s) s o (Makes (behind n first) last)
      by w (inr ended) = ended_follows g (Left g alive f d s) s o (Makes (behind n first) last) (where_ends scope active shape test p first None' n st g s ended)
      by w (inl run) =
          let w_e : Within g e = earlier g e last 1 (and_one g (I.LoadContext (saved shape d)) e) w in
          let w_inner : Within g inner = earlier g inner e longer.0 longer.1 w_e in
          let w_saves : Within g save = earlier g save inner 1 (and_one g (I.LogandContextWithTest shape) save) w_inner in
          let w_after : Within g after = earlier g after save 1 (and_one g (I.StoreContext (saved shape d)) after) w_saves in
          let below = own_below g scope active known alive (saved shape d) after w_saves in
          let own : IsOwnField g (saved shape d) = saved_own g shape d test tests w_after in
          let stored : IsNamedAt g.unit (saved shape d).offset (length after.code) = named_next g (I.StoreContext (saved shape d)) (saved shape d) after w_saves refl refl in
          let loaded : IsNamedAt g.unit (saved shape d).offset (length e.code) = named_next g (I.LoadContext (saved shape d)) (saved shape d) e w refl refl in
          let counts = entries_more g shape d test tests in
          let low : length d.code ≤ length after.code = code_more_by g shape d test tests in
          let one : length save.code ≡ length after.code + 1 = code_more g (I.StoreContext (saved shape d)) after in
          let two : length inner.code ≡ length save.code + 1 = code_more g (I.LogandContextWithTest shape) save in
          let fields : length after.fields ≤ length inner.fields = fields_longer after inner 2 inner_more in
          let long : length inner.code ≤ length e.code = code_longer inner e longer.0 longer.1 in
          let lasts : Lasts g (length inner.code) (length inner.fields) (length e.code) (Kept g scope active known alive (saved shape d)) =
          kept_lasts g scope active known alive (saved shape d) d (length after.code) (length e.code) (length inner.code) (length inner.fields) (length e.code) begun (omega (arith, low, one, two)) (omega (arith, counts.1, fields)) w_e.upto own below (omega (arith, counts.1, fields)) stored (omega (arith, one, two)) loaded (omega arith) in
          let led_save : Led g scope active known alive active (λ m. HasKept g alive (Kept g scope active known alive (saved shape d)) m × TestsAre g shape active v m) d save s st =
          context_led g shape d test tests scope active known alive begun s st run sim (length e.code) w_saves loaded (omega (arith, one, two, long)) in
          let led_inner : Led g scope active known alive (among shape v active) (HasKept g alive (Kept g scope active known alive (saved shape d))) d inner s st =
          narrows g scope active known alive active (Kept g scope active known alive (saved shape d)) (length inner.code) (length inner.fields) (length e.code) lasts d save s st shape v w_inner led_save in
          follows_same g (Left g alive f d s) s (where_means scope active shape test p first None' n v st run.0) refl
          (go_on g alive (λ u h. Led g scope active known alive active (HasKept g alive (Kept g scope active known alive (saved shape d))) d h s u) f d s (executed scope first n (among shape v active) st) (λ u. Gives Onward u) (behind n first) last (Makes (behind n first) last)
          (part_closed g scope active known alive (among shape v active) (saved shape d) (Kept g scope active known alive (saved shape d)) f d inner e s st longer.0 n (behind n first) (λ a u. executed scope first n a u) code part made.1.0 inner_declares begun lasts (λ m kept. kept.1) (was_kept g scope active known alive (saved shape d))
          (λ q x differ. sym (among_beside shape v active q x differ)) longer.1 led_inner) (0, as_it_was last)
          (λ u led. arrives_now g scope active known alive (HasKept g alive (Kept g scope active known alive (saved shape d))) f d s u (behind n first) last (was_kept g scope active known alive (saved shape d) (OpenAmong g alive)) led))

  -- where something is
  where_else : (shape : ℕ) (test : TExpr) (p q : Boxed) (first second : TStmt) → IsCondition shape test → InField g.typed test → HasItsCode g.typed g.instance alive n test → (f : Exits) (contexts : List Field) → StatementPart KnowsFields g scope alive first n f contexts
      → StatementPart KnowsFields g scope alive second (behind n first) f contexts → ComesOn g scope alive active (S.Where' shape test p first (Some' q second)) n f contexts
  unfolding declared else_executed statement_of an_entry then_make closing narrowed with_kept kept_for otherwise_of turned step_of Extends
  where_else shape test p q first second condition field c f contexts parts other_parts d s st declares begun at sim =
      follows_same g (Left g alive f d s) s refl
      (ap (λ (made : Made (Unit {0})). then_make made (λ u known. then_make (closing saved_in (code (inner_of known))) rest)) tests.1.1.0
      ∙ ap (λ (made : Made ℕ). then_make (closing saved_in made) rest) made.1.0 ∙ ap (λ (made : Made ℕ). closing saved_in made) other_made.1.0)
      (at_once g (Left g alive f d s) s (executed scope (S.Where' shape test p first (Some' q second)) n active st) m last (λ w.
      let w_f : Within g h = earlier g h last 1 (and_one g (I.LoadContext saved_in) h) w in
      let w_turns : Within g turns_back = earlier g turns_back h far.0 far.1 w_f in
      let w_loads : Within g loads = earlier g loads turns_back 1 (and_one g (I.LogandcContextWithTest shape) loads) w_turns in
      let w_back : Within g back = earlier g back loads 1 (and_one g (I.LoadTest holds_in) back) w_loads in
      let w_e : Within g e = earlier g e back 1 (and_one g (I.LoadContext saved_in) e) w_back in
      let w_inner : Within g inner = earlier g inner e longer.0 longer.1 w_e in
      let w_keep : Within g keep = earlier g keep inner 1 (and_one g (I.LogandContextWithTest shape) keep) w_inner in
      let w_save : Within g save = earlier g save keep 1 (and_one g (I.StoreTest holds_in) save) w_keep in
      by w (condition_runs g shape d test tests scope active known alive begun s st has n ready condition c files at sim (earlier g after save 1 (and_one g (I.StoreContext saved_in) after) w_save))))
    where
      v : ℕ → ℕ
      v = λ x. condition_in g scope active known alive shape st test x

      m : ℕ
      m = behind (behind n first) second

      saved_in : Field
      saved_in = saved shape d

      holds_in : Field
      holds_in = holds shape d

      KeptTests : Keeping
      KeptTests = both_kept (Kept g scope active known alive saved_in) (tests_kept g active v holds_in)

      tests : TestMade g shape d test
      tests = test_made g shape d test alive n declares field c

      after : Draft
      after = tests.1.0

      save : Draft
      save = with_instr (I.StoreContext saved_in) after

      keep : Draft
      keep = with_instr (I.StoreTest holds_in) save

      inner_of : Draft → Draft
      inner_of known = with_instr (I.LogandContextWithTest shape) (with_instr (I.StoreTest holds_in) (with_instr (I.StoreContext saved_in) known))

      inner : Draft
      inner = inner_of after

      inner_more : Extended after 3 inner
      inner_more = and_instr (I.LogandContextWithTest shape) after keep 2 (and_instr (I.StoreTest holds_in) after save 1 (and_one g (I.StoreContext saved_in) after))

      inner_declares : HasDeclared g.typed g.instance (layout g) n inner
      inner_declares = declared_on g (I.LogandContextWithTest shape) n keep (declared_on g (I.StoreTest holds_in) n save (declared_on g (I.StoreContext saved_in) n after (test_declares g shape d test alive n declares field c tests)))

      code : Draft → Made ℕ
      code begin = statement_of g.typed (layout g) first (in_context f.frame) (contexts ++ saved_in ∷ []) n begin

      made : (e : Draft) × ((code inner ≡ Makes (behind n first) e) × ((k : ℕ) × Extended inner k e) × HasDeclared g.typed g.instance (layout g) (behind n first) e)
      made = (parts saved_in).made inner inner_declares

      e : Draft
      e = made.0

      longer : (k : ℕ) × Extended inner k e
      longer = made.1.1

      back : Draft
      back = with_instr (I.LoadContext saved_in) e

      loads : Draft
      loads = with_instr (I.LoadTest holds_in) back

      turns_back : Draft
      turns_back = with_instr (I.LogandcContextWithTest shape) loads

      from_back : Extended back 2 turns_back
      from_back = and_instr (I.LogandcContextWithTest shape) back loads 1 (and_one g (I.LoadTest holds_in) back)

      back_more : Extended inner (longer.0 + 3) turns_back
      back_more = extended inner e turns_back longer.0 3 longer.1 (extended e back turns_back 1 2 (and_one g (I.LoadContext saved_in) e) from_back)

      back_declares : HasDeclared g.typed g.instance (layout g) (behind n first) turns_back
      back_declares = declared_on g (I.LogandcContextWithTest shape) (behind n first) loads (declared_on g (I.LoadTest holds_in) (behind n first) back (declared_on g (I.LoadContext saved_in) (behind n first) e made.1.2))

      other_code : Draft → Made ℕ
      other_code begin = statement_of g.typed (layout g) second (in_context f.frame) (contexts ++ saved_in ∷ []) (behind n first) begin

      rest : ℕ → Draft → Made ℕ
      rest k begin = otherwise_of g.typed (layout g) (Some' q second) f.frame contexts shape saved_in holds_in k begin

      other_made : (h : Draft) × ((other_code turns_back ≡ Makes m h) × ((k : ℕ) × Extended turns_back k h) × HasDeclared g.typed g.instance (layout g) m h)
      other_made = (other_parts saved_in).made turns_back back_declares

      h : Draft
      h = other_made.0

      far : (k : ℕ) × Extended turns_back k h
      far = other_made.1.1

      last : Draft
      last = with_instr (I.LoadContext saved_in) h

      last_more : Extended back (2 + (far.0 + 1)) last
      last_more = extended back turns_back last 2 (far.0 + 1) from_back (extended turns_back h last far.0 1 far.1 (and_one g (I.LoadContext saved_in) h))

      by : Within g last → HasRun g shape d test tests scope active known alive begun s st ⊎ Ended g s (evaluated scope test active st) → Follows g (Left g alive f d s) s (executed scope (S.Where' shape test p first (Some' q second)) n active st) (Makes m last)
      by w (inr ended) = ended_follows g (Left g alive f d s) s (executed scope (S.Where' shape test p first (Some' q second)) n active st) (Makes m last) (where_ends scope active shape test p first (Some' q second) n st g s ended)
      by w (inl run) =
          let w_f : Within g h = earlier g h last 1 (and_one g (I.LoadContext saved_in) h) w in
          let w_turns : Within g turns_back = earlier g turns_back h far.0 far.1 w_f in
          let w_loads : Within g loads = earlier g loads turns_back 1 (and_one g (I.LogandcContextWithTest shape) loads) w_turns in
          let w_back : Within g back = earlier g back loads 1 (and_one g (I.LoadTest holds_in) back) w_loads in
          let w_e : Within g e = earlier g e back 1 (and_one g (I.LoadContext saved_in) e) w_back in
          let w_inner : Within g inner = earlier g inner e longer.0 longer.1 w_e in
          let w_keep : Within g keep = earlier g keep inner 1 (and_one g (I.LogandContextWithTest shape) keep) w_inner in
          let w_save : Within g save = earlier g save keep 1 (and_one g (I.StoreTest holds_in) save) w_keep in
          let w_after : Within g after = earlier g after save 1 (and_one g (I.StoreContext saved_in) after) w_save in
          let below = own_below g scope active known alive saved_in after w_save in
          let below_test : (holds_in.set < length (shapes g)) × EndsBelow g holds_in = test_below g scope active known alive holds_in save w_keep in
          let own : IsOwnField g saved_in = saved_own g shape d test tests w_after in
          let own_test : IsOwnField g holds_in = holds_own g shape d test tests w_after in
          let stored : IsNamedAt g.unit saved_in.offset (length after.code) = named_next g (I.StoreContext saved_in) saved_in after w_save refl refl in
          let stored_test : IsNamedAt g.unit holds_in.offset (length save.code) = named_next g (I.StoreTest holds_in) holds_in save w_keep refl refl in
          let loaded : IsNamedAt g.unit saved_in.offset (length e.code) = named_next g (I.LoadContext saved_in) saved_in e w_back refl refl in
          let loaded_test : IsNamedAt g.unit holds_in.offset (length back.code) = named_next g (I.LoadTest holds_in) holds_in back w_loads refl refl in
          let loaded_last : IsNamedAt g.unit saved_in.offset (length h.code) = named_next g (I.LoadContext saved_in) saved_in h w refl refl in
          let counts = entries_more g shape d test tests in
          let low : length d.code ≤ length after.code = code_more_by g shape d test tests in
          let one : length save.code ≡ length after.code + 1 = code_more g (I.StoreContext saved_in) after in
          let two : length keep.code ≡ length save.code + 1 = code_more g (I.StoreTest holds_in) save in
          let three : length inner.code ≡ length keep.code + 1 = code_more g (I.LogandContextWithTest shape) keep in
          let long : length inner.code ≤ length e.code = code_longer inner e longer.0 longer.1 in
          let four : length back.code ≡ length e.code + 1 = code_more g (I.LoadContext saved_in) e in
          let five : length turns_back.code ≡ length back.code + 2 = let x = code_more g (I.LoadTest holds_in) back in let y = code_more g (I.LogandcContextWithTest shape) loads in omega (arith, x, y) in
          let last_long : length turns_back.code ≤ length h.code = code_longer turns_back h far.0 far.1 in
          let fields : length after.fields ≤ length inner.fields = fields_longer after inner 3 inner_more in
          let more_fields : length inner.fields ≤ length turns_back.fields = fields_longer inner turns_back (longer.0 + 3) back_more in
          let up = w_keep.upto in
          let lasts_early : Lasts g (length save.code) (length (entered shape d).fields) (length keep.code) (Kept g scope active known alive saved_in) =
          kept_lasts g scope active known alive saved_in d (length after.code) (length e.code) (length save.code) (length (entered shape d).fields) (length keep.code) begun (omega (arith, low, one)) (omega (arith, counts.0)) up own below (omega (arith, counts.0)) stored (omega (arith, one)) loaded (omega (arith, three, long)) in
          let lasts : Lasts g (length inner.code) (length inner.fields) (length e.code) KeptTests =
          lasts_both g (length inner.code) (length inner.fields) (length e.code) (Kept g scope active known alive saved_in) (tests_kept g active v holds_in)
          (kept_lasts g scope active known alive saved_in d (length after.code) (length e.code) (length inner.code) (length inner.fields) (length e.code) begun (omega (arith, low, one, two, three)) (omega (arith, counts.1, fields)) w_e.upto own below (omega (arith, counts.1, fields)) stored (omega (arith, one, two, three)) loaded (omega arith))
          (flags_last g known.places holds_in (λ x. active shape x ≡ true) (λ x. nonzero (v x)) (length save.code) (length back.code) (length inner.code) (length inner.fields) (length e.code) own_test below_test.0 below_test.1 (omega (arith, counts.0, counts.1, fields)) stored_test (omega (arith, two, three)) loaded_test (omega (arith, four))) in
          let lasts_late : Lasts g (length turns_back.code) (length turns_back.fields) (length h.code) (Kept g scope active known alive saved_in) =
          kept_lasts g scope active known alive saved_in d (length after.code) (length h.code) (length turns_back.code) (length turns_back.fields) (length h.code) begun (omega (arith, low, one, two, three, long, four, five)) (omega (arith, counts.1, fields, more_fields)) w_f.upto own below (omega (arith, counts.1, fields, more_fields)) stored
          (omega (arith, one, two, three, long, four, five)) loaded_last (omega arith) in
          let led_save : Led g scope active known alive active (λ m. HasKept g alive (Kept g scope active known alive saved_in) m × TestsAre g shape active v m) d save s st =
          context_led g shape d test tests scope active known alive begun s st run sim (length e.code) w_save loaded (omega (arith, one, two, three, long)) in
          let led_keep : Led g scope active known alive active (λ m. HasKept g alive KeptTests m × TestsAre g shape active v m) d keep s st =
          keeps_tests g scope active known alive active (Kept g scope active known alive saved_in) (length save.code) (length (entered shape d).fields) (length keep.code) lasts_early d save s st v holds_in (length back.code) (omega arith) (omega arith) (omega (arith, two)) own_test (behind_homes g (OpenAmong g alive) (length d.code) (length d.fields) holds_in.offset begun.opened (let one = one_more shape 1 W.Own d in omega (arith, one))) refl loaded_test (omega (arith, two, three, long, four)) w_keep led_save in
          let led_inner : Led g scope active known alive (among shape v active) (HasKept g alive KeptTests) d inner s st = narrows g scope active known alive active KeptTests (length inner.code) (length inner.fields) (length e.code) lasts d keep s st shape v w_inner led_keep in
          follows_same g (Left g alive f d s) s (where_means scope active shape test p first (Some' q second) n v st run.0) refl
          (go_on g alive (λ u x. Led g scope active known alive active (HasKept g alive KeptTests) d x s u) f d s (executed scope first n (among shape v active) st) (executed scope second (behind n first) (others shape v active)) (behind n first) back (Makes m last)
          (part_closed g scope active known alive (among shape v active) saved_in KeptTests f d inner e s st longer.0 n (behind n first) (λ a u. executed scope first n a u) code (parts saved_in) made.1.0 inner_declares begun lasts (λ m kept. kept.0.1) (λ live m kept. was_kept g scope active known alive saved_in live m (first_kept g live (Kept g scope active known alive saved_in) (tests_kept g active v holds_in) m kept)) (λ y x differ. sym (among_beside shape v active y x differ)) longer.1 led_inner)
          (2 + (far.0 + 1), last_more)
          (λ u led.
          let led_loads : Led g scope active known alive active (λ m. HasKept g alive KeptTests m × TestsAre g shape active v m) d loads s u = loads_tests g scope active known alive active KeptTests (length inner.code) (length inner.fields) (length e.code) lasts d back s u v holds_in (λ m kept. kept.1) w_loads led in
          let led_turns : Led g scope active known alive (others shape v active) (HasKept g alive KeptTests) d turns_back s u = turns g scope active known alive active KeptTests (length inner.code) (length inner.fields) (length e.code) lasts d loads s u shape v w_turns led_loads in
          arrives g scope active known alive (HasKept g alive (Kept g scope active known alive saved_in)) f d s (executed scope second (behind n first) (others shape v active) u) (Makes m last) (was_kept g scope active known alive saved_in (OpenAmong g alive))
          (part_closed g scope active known alive (others shape v active) saved_in (Kept g scope active known alive saved_in) f d turns_back h s u far.0 (behind n first) m (λ a x. executed scope second (behind n first) a x) other_code (other_parts saved_in) other_made.1.0 back_declares begun lasts_late (λ m kept. kept.1) (was_kept g scope active known alive saved_in) (λ y x differ. sym (others_beside shape v active y x differ)) far.1
          (led_weaker g scope active known alive (others shape v active) (HasKept g alive KeptTests) (HasKept g alive (Kept g scope active known alive saved_in)) d turns_back s u (first_kept g (OpenAmong g alive) (Kept g scope active known alive saved_in) (tests_kept g active v holds_in)) led_turns))))

  -- so it follows either way
  pub where_follows : (shape : ℕ) (test : TExpr) (p : Boxed) (first : TStmt) (second : Held-TStmt-If-2) → IsCondition shape test → NamesAmong alive test → HasStatementCode g.typed g.instance n (S.Where' shape test p first second) → (f : Exits) (contexts : List Field)
      → StatementPart KnowsFields g scope alive first n f contexts → ((q : Boxed) (s : TStmt) → second ≡ Some' q s → StatementPart KnowsFields g scope alive s (behind n first) f contexts) → ComesOn g scope alive active (S.Where' shape test p first second) n f contexts
  where_follows shape test p first None' condition among_so c f contexts parts other_parts =
      let (field, code) = where_test shape test p first None' c in where_alone shape test p first condition field (record { code = code; among = among_so }) f contexts parts
  where_follows shape test p first (Some' q second) condition among_so c f contexts parts other_parts =
      let (field, code) = where_test shape test p first (Some' q second) c in where_else shape test p q first second condition field (record { code = code; among = among_so }) f contexts parts (other_parts q second refl)
