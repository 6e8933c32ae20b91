-- A parallel program, as typing makes it of this text; the tree is written by hand:
--     shape [4]S;
--     int:S p;
--     int s;
--     lift() { where (p < 2) { p += 10; return; } }
--     main() {
--       with (S) { p = pcoord(0); p += 1; where (p < 3) lift(); else p = 12 / p; s = += p; }
--       printf("%d\n", s);
--     }
use Rattle.std.proofs.Common.{ℕ, List, [], ◌∷◌, Some, None, Global, lit<}
use Rattle.cstar_base.specs.declared.formats.NumberFormat.TheVariants.{Signed}
use Rattle.cstar_base.specs.declared.operators.Op.TheVariants as O
use Rattle.cstar_tree.specs.declared.syntax.AssignOp.TheVariants as A
use Rattle.cstar_tree.specs.declared.syntax.ReduceOp.TheVariants as R
use Rattle.cstar_tree.specs.declared.typed.Instance.{Instance}
use Rattle.cstar_tree.specs.declared.typed.Piece.TheVariants as P
use Rattle.cstar_tree.specs.declared.typed.TExpr as T
use Rattle.cstar_tree.specs.declared.typed.TStmt as S
use Rattle.cstar_tree.specs.declared.typed.Typed.{Typed}
use Rattle.cstar_tree.specs.declared.typed.Variable.TheVariants as V
use Rattle.cstar_tree.specs.Instances.{main_word}
use Rattle.cstar_tree.specs.ProgramTypes.{plain_info}
use Rattle.source_meaning.specs.Examples.{all, box, num, number, numbers, own, p, vec}
use Rattle.fields_follow.specs.Fragment.{IsParallelProgram}

abbrev pub s : T.TExpr
s = T.Variable number (V.File 1)

abbrev pub lift_word : List ℕ
lift_word = 108 ∷ 105 ∷ 102 ∷ 116 ∷ []

module _ (heap : Global) where
  -- a function that is called under `where`, and left under another one
  abbrev pub lift : Instance
  lift = record {
    name = lift_word;
    current = Some 0;
    params = vec heap [] (lit< tt);
    result = Some (plain_info lift_word number);
    body =
        S.Block' (vec heap [] (lit< tt)) (vec heap (tt ∷ []) (lit< tt))
        (S.more_of-TStmt (S.Where' 0 (T.Binary' numbers (record { line = 4; col = 19 }) O.Lt (box heap) p (box heap) (all heap (num 2))) (box heap)
        (S.Block' (vec heap [] (lit< tt)) (vec heap (tt ∷ tt ∷ []) (lit< tt))
        (S.more_of-TStmt (S.Expression (T.Assign' numbers (record { line = 4; col = 28 }) A.Add (box heap) p (box heap) (all heap (num 10))))
        (S.more_of-TStmt (S.Return None) S.end_of-TStmt)))
        S.None') S.end_of-TStmt);
  }

  -- `where` and its `else`
  abbrev pub choice : S.TStmt
  choice =
      S.Where' 0 (T.Binary' numbers (record { line = 6; col = 46 }) O.Lt (box heap) p (box heap) (all heap (num 3))) (box heap)
      (S.Expression (T.Call' number 1 (vec heap [] (lit< tt)) T.end_of-TExpr))
      (S.Some' (box heap) (S.Expression (T.Assign' numbers (record { line = 6; col = 66 }) A.Set (box heap) p (box heap) (T.Binary' numbers (record { line = 6; col = 71 }) O.Div (box heap) (all heap (num 12)) (box heap) p))))

  -- the block of `with`
  abbrev pub inner : S.TStmt
  inner =
      S.Block' (vec heap [] (lit< tt)) (vec heap (tt ∷ tt ∷ tt ∷ tt ∷ []) (lit< tt))
      (S.more_of-TStmt (S.Expression (T.Assign' numbers (record { line = 6; col = 16 }) A.Set (box heap) p (box heap) own))
      (S.more_of-TStmt (S.Expression (T.Assign' numbers (record { line = 6; col = 31 }) A.Add (box heap) p (box heap) (all heap (num 1))))
      (S.more_of-TStmt choice
      (S.more_of-TStmt (S.Expression (T.Assign' number (record { line = 6; col = 78 }) A.Set (box heap) s (box heap) (T.Reduce' number R.Add (box heap) p))) S.end_of-TStmt))))

  abbrev pub main : Instance
  main = record {
    name = main_word;
    current = None;
    params = vec heap [] (lit< tt);
    result = Some (plain_info main_word number);
    body =
        S.Block' (vec heap [] (lit< tt)) (vec heap (tt ∷ tt ∷ []) (lit< tt))
        (S.more_of-TStmt (S.With' 0 (box heap) inner)
        (S.more_of-TStmt (S.Expression (T.Printf' number (vec heap (P.Argument Signed ∷ P.Bytes (10 ∷ []) ∷ []) (lit< tt)) (vec heap (tt ∷ []) (lit< tt)) (T.more_of-TExpr s T.end_of-TExpr))) S.end_of-TStmt));
  }

  -- the shape needs 2 bits, 32 for `p`, 167 for the `where` with the quotient, and 68 for that of what is called
  abbrev pub example : Typed
  example = record {
    shapes = vec heap (record { name = 83 ∷ []; extents = vec heap (4 ∷ []) (lit< tt) } ∷ []) (lit< tt);
    vars = vec heap (plain_info (112 ∷ []) numbers ∷ plain_info (115 ∷ []) number ∷ []) (lit< tt);
    instances = vec heap (main ∷ lift ∷ []) (lit< tt);
    need = vec heap (269 ∷ []) (lit< tt);
  }

abbrev pub ExampleIsParallel : Type 0
ExampleIsParallel = (heap : Global) → IsParallelProgram (example heap)
