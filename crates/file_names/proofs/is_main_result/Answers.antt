use Rattle.std.proofs.Common.{◌≡◌, ◌∙◌, ◌⊎◌, inl, inr, Option, Some, None, false, is_some, not, ap, refl, sym}
use Rattle.cstar_tree.specs.declared.syntax.ResultType.{ResultType}
use Rattle.cstar_tree.specs.declared.syntax.ResultType.TheVariants as R
use Rattle.cstar_tree.specs.Conversions.{int}
use Rattle.cstar_tree.specs.FileFaults.{IsMainResult}
use Rattle.cstar_tree.specs.FileFaults as W
use Rattle.typed_nodes.proofs.Elems.{same_elem}
use Rattle.file_names.proofs.is_main_result.Goals as goal

not_there : {A : Type 0} (m : Option A) → is_some m ≡ false → m ≡ None
not_there None is = refl
not_there (Some x) is = absurd (cc)

not_written : (r : ResultType) → (r ≡ R.Unwritten) ⊎ (r ≡ R.Void) → IsMainResult r
not_written r (inl is) = rw is W.IsMainResult.unwritten
not_written r (inr is) = rw is W.IsMainResult.void

pub returns-then-is_none : goal.returns-then-is_none
returns-then-is_none c is =
    rw c.in-Written.is (W.IsMainResult.written (same_elem c.in-Written.written.elem int (sym c.eq.ensures ∙ is)) (not_there c.in-Written.written.shape (c.is_none.ensures ∙ ap not c.if-is_none.true)))

pub returns-in-Unwritten : goal.returns-in-Unwritten
returns-in-Unwritten c is = not_written c.args.written.now c.in-Unwritten.is

pub returns-in-Unwritten-2 : goal.returns-in-Unwritten-2
returns-in-Unwritten-2 c is = not_written c.args.written.now c.in-Unwritten.is
