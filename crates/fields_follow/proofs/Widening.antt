-- `everywhere` follows where what stands under it does.
use Rattle.std.proofs.Common.{◌≡◌, ℕ, ◌+◌, ◌≤◌, List, [], ◌∷◌, ◌++◌, length, refl, sym, ap, arith}
use Rattle.code_lengths.specs.Ready.{HasDeclared}
use Rattle.code_follows.proofs.Statements.{declared_on}
use Rattle.fields_follow.proofs.Entering.{declared_entry}
use Rattle.cstar_tree.specs.declared.typed.TStmt.{TStmt}
use Rattle.cstar_tree.specs.declared.typed.TStmt as S
use Rattle.cstar_tree.specs.declared.typed.Variable.{Variable}
use Rattle.code_lengths.specs.NamingStatements.{behind}
use Rattle.lower_base.specs.Drafts.{Draft, Made, Makes, an_entry, step as step_of, then_make, with_instr}
use Rattle.lower_stmt.specs.Frames.{in_context}
use Rattle.lower_stmt.specs.Statements.{closing, statement_of, widened}
use Rattle.paris_code.specs.declared.instr.Instr.TheVariants as I
use Rattle.paris_code.specs.declared.operands.Field.{Field}
use Rattle.paris_code.specs.declared.program.Owner.TheVariants as W
use Rattle.paris_code.specs.Spans.{IsNamedAt}
use Rattle.source_meaning.specs.Narrowing.{widened as all_active}
use Rattle.source_meaning.specs.State.{Outcome}
use Rattle.source_meaning.specs.Statements.{Leaving, executed}
use Rattle.source_meaning.specs.Values.{Active, Scope}
use Rattle.source_meaning.proofs.ConstantLaws.{Boxed}
use Rattle.code_follows.proofs.Executing.{Exits, Left}
use Rattle.code_follows.proofs.Following.{at_once, follows_same}
use Rattle.code_follows.proofs.Growing.{Extended, and_instr}
use Rattle.code_follows.proofs.Parts.{ComesOn, Part, StatementPart, in_one_more}
use Rattle.code_follows.proofs.Settings.{OpenAmong, Setting, Within, and_one, code_more, earlier, layout}
use Rattle.fields_follow.proofs.Knowing.{HasKept, KnowsFields, Lasts}
use Rattle.fields_follow.proofs.Saving.{Kept, arrives, kept_lasts, own_below, part_closed, was_kept}
use Rattle.fields_follow.proofs.Leading.{Led, led_entry, led_nowhere, led_weaker, named_next, saves_context, widens}
use Rattle.fields_follow.proofs.Narrowing.{widened_beside}
use Rattle.fields_follow.proofs.Passing.{code_longer, fields_longer}
use Rattle.fields_follow.proofs.Places.{IsOwnField}
use Rattle.fields_follow.proofs.Values.{next_field, one_more, taken, with_entry}
use Rattle.fields_follow.proofs.Locals.{behind_homes}

module _ (g : Setting) (scope : Scope) (active : Active) (known : KnowsFields g scope active) (alive : Variable → Type 0) (n : ℕ) where
  -- the context is saved, all positions become active, and behind the part it is loaded
  pub widening_follows : (shape : ℕ) (p : Boxed) (body : TStmt) (f : Exits) (contexts : List Field) → StatementPart KnowsFields g scope alive body n f contexts → ComesOn g scope alive active (S.Everywhere' shape p body) n f contexts
  unfolding executed statement_of an_entry then_make widened closing step_of
  widening_follows shape p body f contexts parts d s st declares begun at sim =
      follows_same g (Left g alive f d s) s refl (ap (λ (made : Made ℕ). closing saved made) made.1.0)
      (at_once g (Left g alive f d s) s o (behind n body) (with_instr (I.LoadContext saved) e) (λ w.
      let w_e : Within g e = earlier g e (with_instr (I.LoadContext saved) e) 1 (and_one g (I.LoadContext saved) e) w in
      let w_inner : Within g inner = earlier g inner e longer.0 longer.1 w_e in
      let w_stores : Within g stores = earlier g stores inner 1 (and_one g (I.SetContext shape) stores) w_inner in
      let below = own_below g scope active known alive saved start w_stores in
      let own : IsOwnField g saved = taken g shape 1 W.Own d stores 1 w_stores (and_one g (I.StoreContext saved) start) in
      let first : IsNamedAt g.unit saved.offset (length start.code) = named_next g (I.StoreContext saved) saved start w_stores refl refl in
      let last : IsNamedAt g.unit saved.offset (length e.code) = named_next g (I.LoadContext saved) saved e w refl refl in
      let counts : length start.fields ≡ length d.fields + 1 = one_more shape 1 W.Own d in
      let stored : length stores.code ≡ length start.code + 1 = code_more g (I.StoreContext saved) start in
      let set : length inner.code ≡ length stores.code + 1 = code_more g (I.SetContext shape) stores in
      let fields : length start.fields ≤ length inner.fields = fields_longer start inner 2 inner_more in
      let long : length inner.code ≤ length e.code = code_longer inner e longer.0 longer.1 in
      let lasts : Lasts g (length inner.code) (length inner.fields) (length e.code) (Kept g scope active known alive saved) =
      kept_lasts g scope active known alive saved d (length start.code) (length e.code) (length inner.code) (length inner.fields) (length e.code) begun (omega (arith, stored, set)) (omega (arith, counts, fields)) w_e.upto own below (omega (arith, counts, fields)) first (omega (arith, stored, set)) last (omega arith) in
      let led_start : Led g scope active known alive active (λ m. HasKept g alive known.kept m × Unit {0}) d start s st =
      led_entry g scope active known alive active (λ m. HasKept g alive known.kept m × Unit {0}) shape 1 W.Own d d s st (led_weaker g scope active known alive active (HasKept g alive known.kept) (λ m. HasKept g alive known.kept m × Unit {0}) d d s st (λ m kept. (kept, tt)) (led_nowhere g scope active known alive d s st at sim)) in
      let led_stores : Led g scope active known alive active (λ m. HasKept g alive (Kept g scope active known alive saved) m × Unit {0}) d stores s st =
      saves_context g scope active known alive active known.kept g.from g.entries g.upto known.lasts d start s st (λ m. Unit {0}) saved (length e.code) begun.code begun.fields (let up = w_stores.upto in omega (arith, up, stored)) own (behind_homes g (OpenAmong g alive) (length d.code) (length d.fields) (length d.fields) begun.opened (omega arith)) refl last (omega (arith, stored, set, long)) (λ m other same kept. kept) w_stores led_start in
      let led_inner : Led g scope active known alive (all_active shape active) (HasKept g alive (Kept g scope active known alive saved)) d inner s st =
      widens g scope active known alive active (Kept g scope active known alive saved) (length inner.code) (length inner.fields) (length e.code) lasts d stores s st shape w_inner (led_weaker g scope active known alive active (λ m. HasKept g alive (Kept g scope active known alive saved) m × Unit {0}) (HasKept g alive (Kept g scope active known alive saved)) d stores s st (λ m kept. kept.0) led_stores) in
      arrives g scope active known alive (HasKept g alive (Kept g scope active known alive saved)) f d s o (Makes (behind n body) (with_instr (I.LoadContext saved) e)) (was_kept g scope active known alive saved (OpenAmong g alive))
      (part_closed g scope active known alive (all_active shape active) saved (Kept g scope active known alive saved) f d inner e s st longer.0 n (behind n body) (λ a u. executed scope body n a u) code part made.1.0 inner_declares begun lasts (λ m kept. kept.1) (was_kept g scope active known alive saved) (λ q x differ. sym (widened_beside shape active q x differ)) longer.1 led_inner)))
    where
      start : Draft
      start = with_entry shape 1 W.Own d

      saved : Field
      saved = next_field shape 1 d

      stores : Draft
      stores = with_instr (I.StoreContext saved) start

      inner : Draft
      inner = with_instr (I.SetContext shape) stores

      inner_more : Extended start 2 inner
      inner_more = and_instr (I.SetContext shape) start stores 1 (and_one g (I.StoreContext saved) start)

      inner_declares : HasDeclared g.typed g.instance (layout g) n inner
      inner_declares = declared_on g (I.SetContext shape) n stores (declared_on g (I.StoreContext saved) n start (declared_entry g shape 1 W.Own n d declares))

      code : Draft → Made ℕ
      code after = statement_of g.typed (layout g) body (in_context f.frame) (contexts ++ saved ∷ []) n after

      part : Part KnowsFields g scope alive saved (in_one_more f) n (behind n body) (λ a u. executed scope body n a u) code
      part = parts saved

      made : (e : Draft) × ((code inner ≡ Makes (behind n body) e) × ((k : ℕ) × Extended inner k e) × HasDeclared g.typed g.instance (layout g) (behind n body) e)
      made = part.made inner inner_declares

      e : Draft
      e = made.0

      longer : (k : ℕ) × Extended inner k e
      longer = made.1.1

      o : Outcome Leaving
      o = executed scope body n (all_active shape active) st
