-- Small programs over a shape of four positions, and what they mean. Memory stands anywhere.
use Rattle.std.specs.Prelude.{◌≡◌, ℕ, false, ◌<◌, ◌-◌, ◌^◌, List, [], ◌∷◌, length, Option, Some, None, Box, Vec, refl}
use Rattle.std.specs.declared.alloc.Global.{Global}
use Rattle.std.proofs.Common.{lit<, le_refl}
use denote.RawPtr.{null_ptr}
use Rattle.cstar_base.specs.declared.faults.RunFault.TheVariants.{Index, DivZero}
use Rattle.cstar_base.specs.declared.operators.Combiner.TheVariants as C
use Rattle.cstar_base.specs.declared.operators.Direction.TheVariants as D
use Rattle.cstar_base.specs.declared.operators.Inclusion.TheVariants as N
use Rattle.cstar_base.specs.declared.operators.Op.{Op}
use Rattle.cstar_base.specs.declared.operators.Op.TheVariants as O
use Rattle.cstar_base.specs.declared.operators.Place.{Place}
use Rattle.cstar_base.specs.declared.operators.SegmentMode.TheVariants as M
use Rattle.cstar_base.specs.declared.operators.Winner.TheVariants as W
use Rattle.cstar_tree.specs.declared.syntax.AssignOp.{AssignOp}
use Rattle.cstar_tree.specs.declared.syntax.AssignOp.TheVariants as A
use Rattle.cstar_tree.specs.declared.syntax.ReduceOp.{ReduceOp}
use Rattle.cstar_tree.specs.declared.syntax.ReduceOp.TheVariants as R
use Rattle.cstar_tree.specs.declared.typed.Instance.{Instance}
use Rattle.cstar_tree.specs.declared.typed.Piece.TheVariants as P
use Rattle.cstar_tree.specs.declared.typed.TExpr.{TExpr, end_of-TExpr, more_of-TExpr}
use Rattle.cstar_tree.specs.declared.typed.TExpr as T
use Rattle.cstar_tree.specs.declared.typed.TStmt.{TStmt, end_of-TStmt, more_of-TStmt, None', Some'}
use Rattle.cstar_tree.specs.declared.typed.TStmt as S
use Rattle.cstar_tree.specs.declared.typed.Typed.{Typed}
use Rattle.cstar_tree.specs.declared.typed.ValueType.{ValueType}
use Rattle.cstar_tree.specs.declared.typed.VarInfo.{VarInfo}
use Rattle.cstar_tree.specs.declared.typed.Variable.TheVariants as V
use Rattle.source_meaning.specs.Programs.{Run, meaning, Done, EndsEarly}
use Rattle.source_meaning.specs.Reductions.{int_type}
use Rattle.source_meaning.specs.State.{InputEnds, InputFails, Fault, Stopped, InputBroken}

-- types: `int`, `int:S` and `bool:S`
abbrev pub number : ValueType
number = record { elem = int_type; shape = None }

abbrev pub numbers : ValueType
numbers = record { elem = int_type; shape = Some 0 }

abbrev pub bits : ValueType
bits = record { elem = record { bits = 1; signed = false; kind = refl }; shape = Some 0 }

-- the places of assignments, operators and left indexes
abbrev pub at_assignment : Place
at_assignment = record { line = 1; col = 1 }

abbrev pub at_operator : Place
at_operator = record { line = 1; col = 2 }

abbrev pub at_index : Place
at_index = record { line = 1; col = 3 }

-- variables of the file: `int:S p = 1, d;`, `int s;`, `bool:S b;` and `int:S a[2];`
abbrev pub variable : ValueType → Option ℕ → ℕ → VarInfo
variable ty array start = record { name = []; elem = ty.elem; shape = ty.shape; array = array; start = start }

abbrev pub p : TExpr
p = T.Variable numbers (V.File 0)

abbrev pub d : TExpr
d = T.Variable numbers (V.File 1)

abbrev pub s : TExpr
s = T.Variable number (V.File 2)

abbrev pub b : TExpr
b = T.Variable bits (V.File 3)

-- an `int`, and the own coordinate
abbrev pub num : ℕ → TExpr
num n = T.Number number n

abbrev pub own : TExpr
own = T.Pcoord numbers 0

module _ (heap : Global) where
  -- lists and boxes as the tree holds them
  abbrev pub vec : {A : Type 0} (xs : List A) → length xs < 2 ^ 63 → Vec A Global
  vec xs small = record { ptr = null_ptr; len = length xs; cap = length xs; alloc = heap; items = xs; ok = (refl, le_refl _); small = small }

  abbrev pub box : Box (Unit {0}) Global
  box = record { ptr = null_ptr; alloc = heap; value = tt }

  -- an expression at every position
  abbrev pub all : TExpr → TExpr
  all e = T.Promote' numbers box e

  -- an assignment to a target of a type, an operator on parallel operands, and one on scalars
  abbrev pub set : ValueType → AssignOp → TExpr → TExpr → TExpr
  set ty op target value = T.Assign' ty at_assignment op box target box value

  abbrev pub apply : ValueType → Op → TExpr → TExpr → TExpr
  apply ty op left right = T.Binary' ty at_operator op box left box right

  -- `[e]x`, and `a[e]`
  abbrev pub at_each : ValueType → TExpr → ℕ → TExpr
  at_each ty index x = T.LeftIndex' ty at_index (vec (tt ∷ []) (lit< tt)) (more_of-TExpr index end_of-TExpr) (V.File x) 0

  abbrev pub element : TExpr → TExpr
  element index = T.Element' numbers at_index (V.File 4) box index

  -- a unary reduction of d, and a scan of the own coordinates with the segment bit b
  abbrev pub fold_d : ReduceOp → TExpr
  fold_d op = T.Reduce' number op box d

  abbrev pub sums_by_segment : TExpr
  sums_by_segment = T.Scan' numbers box own 0 C.Add D.Upward M.SegmentBit (Some (V.File 3)) N.Inclusive

  -- `printf` of a text, and of a number with a conversion
  abbrev pub print_a : TExpr
  print_a = T.Printf' number (vec (P.Bytes (97 ∷ []) ∷ []) (lit< tt)) (vec [] (lit< tt)) end_of-TExpr

  -- statements: an assignment at each active position, one behind the other, a `where`
  abbrev pub assign : TExpr → TExpr → TStmt
  assign target value = S.Expression (set numbers A.Set target value)

  abbrev pub both : TStmt → TStmt → TStmt
  both first second = S.Block' (vec [] (lit< tt)) (vec (tt ∷ tt ∷ []) (lit< tt)) (more_of-TStmt first (more_of-TStmt second end_of-TStmt))

  abbrev pub where_do : TExpr → TStmt → TStmt
  where_do test body = S.Where' 0 test box body None'

  -- a program of this `main` and one function of an `int:S`
  abbrev pub instance : Option VarInfo → TStmt → Instance
  instance result body = record { name = []; current = Some 0; params = vec [] (lit< tt); result = result; body = body }

  abbrev pub program : TStmt → TStmt → Typed
  program main callee = record {
    shapes = vec (record { name = []; extents = vec (4 ∷ []) (lit< tt) } ∷ []) (lit< tt);
    vars = vec (variable numbers None 1 ∷ variable numbers None 0 ∷ variable number None 0 ∷ variable bits None 0 ∷ variable numbers (Some 2) 0 ∷ []) (lit< tt);
    instances = vec (instance None main ∷ instance (Some (variable numbers None 0)) callee ∷ []) (lit< tt);
    need = vec (0 ∷ []) (lit< tt);
  }

  -- its run on no input with three turns, and with the other winner
  abbrev pub run : TStmt → Run
  run main = meaning (program main S.Empty) [] InputEnds 3 W.High

  abbrev pub run_low : TStmt → Run
  run_low main = meaning (program main S.Empty) [] InputEnds 3 W.Low

  -- the final values of d, and of s
  abbrev pub final_d : Run → List ℕ
  final_d r = let held : ℕ → ℕ = r.final.parallel (V.File 1) 0 in held 0 ∷ held 1 ∷ held 2 ∷ held 3 ∷ []

  abbrev pub final_s : Run → ℕ
  final_s r = r.final.scalar (V.File 2)

  -- `where (pcoord(0) > 0) where (pcoord(0) > 1) d = 1; else d = 2;`
  abbrev pub narrower_else : TStmt
  narrower_else =
      where_do (apply numbers O.Gt own (all (num 0)))
      (S.Where' 0 (apply numbers O.Gt own (all (num 1))) box (assign d (all (num 1))) (Some' box (assign d (all (num 2)))))

  -- `while (1) where (pcoord(0)) { d = 5; break; }`, then `d += 1;`
  abbrev pub break_out : TStmt
  break_out =
      both (S.While' (num 1) box (where_do own (both (assign d (all (num 5))) S.Break)))
      (S.Expression (set numbers A.Add d (all (num 1))))

  -- `int:S f() { where (pcoord(0) < 2) return p + 6; }`, and `d = f();`
  abbrev pub returning : TStmt
  returning = where_do (apply numbers O.Lt own (all (num 2))) (S.Return (Some (apply numbers O.Add p (all (num 6)))))

  abbrev pub calling : TStmt
  calling = assign d (T.Call' numbers 1 (vec [] (lit< tt)) end_of-TExpr)

  -- contexts: what is active behind them and behind jumps out of them
  pub record Contexts : Type 0 where
    pub else_inside : final_d (run narrower_else) ≡ 0 ∷ 2 ∷ 1 ∷ 1 ∷ []
    pub after_break : final_d (run break_out) ≡ 1 ∷ 6 ∷ 6 ∷ 6 ∷ []
    pub one_turn : (run break_out).final.turns ≡ 2
    pub after_return : final_d (meaning (program calling returning) [] InputEnds 3 W.High) ≡ 7 ∷ 7 ∷ 0 ∷ 0 ∷ []
    pub one_call : (meaning (program calling returning) [] InputEnds 3 W.High).final.turns ≡ 2

  -- `d = pcoord(0) && 6 / pcoord(0);` and `d = 6 / pcoord(0);`
  abbrev pub six_by_own : TExpr
  six_by_own = apply numbers O.Div (all (num 6)) own

  abbrev pub guarded : TStmt
  guarded = assign d (T.LogicalAnd' numbers box own box six_by_own)

  -- `d = [pcoord(0) + 2]p;` and `a[2] = 1 / 0;`
  abbrev pub far_get : TStmt
  far_get = assign d (at_each numbers (apply numbers O.Add own (all (num 2))) 0)

  abbrev pub far_element : TStmt
  far_element = assign (element (num 2)) (all (apply number O.Div (num 1) (num 0)))

  -- `while (1) printf("a");` and `s = getchar();`
  abbrev pub for_ever : TStmt
  for_ever = S.While' (num 1) box (S.Expression print_a)

  abbrev pub asking : TStmt
  asking = S.Expression (set number A.Set s (T.GetChar number))

  -- how runs end
  pub record Ends : Type 0 where
    pub no_fault_where_narrowed : (run guarded).end ≡ Done
    pub narrowed_values : final_d (run guarded) ≡ 0 ∷ 1 ∷ 1 ∷ 1 ∷ []
    pub fault_at_least : (run (assign d six_by_own)).end ≡ EndsEarly (Fault DivZero at_operator (Some 0))
    pub get_outside : (run far_get).end ≡ EndsEarly (Fault Index at_index (Some 2))
    pub element_before_value : (run far_element).end ≡ EndsEarly (Fault Index at_index None)
    pub stopped : (run for_ever).end ≡ EndsEarly Stopped
    pub printed_before : (run for_ever).final.output ≡ 97 ∷ 97 ∷ 97 ∷ []
    pub at_end : final_s (run asking) ≡ 2 ^ 32 - 1
    pub next_byte : final_s (meaning (program asking S.Empty) (7 ∷ []) InputFails 3 W.High) ≡ 7
    pub broken : (meaning (program asking S.Empty) [] InputFails 3 W.High).end ≡ EndsEarly InputBroken

  -- `[p]d = pcoord(0) + 4;` and `[p]d += pcoord(0) + 4;`, where each position sends to 1
  abbrev pub sending : AssignOp → TStmt
  sending op = S.Expression (set numbers op (at_each numbers p 1) (apply numbers O.Add own (all (num 4))))

  -- `[1]d += pcoord(0);`: a fold into one element
  abbrev pub fold_into : TStmt
  fold_into = S.Expression (set number A.Add (at_each number (num 1) 1) own)

  -- `where (d) s = <?= d;` and the like, where nothing is active
  abbrev pub over_nothing : ReduceOp → TStmt
  over_nothing op = where_do d (S.Expression (set number A.Set s (fold_d op)))

  -- `s += (s = 5);`
  abbrev pub old_after_right : TStmt
  old_after_right = S.Expression (set number A.Add s (set number A.Set s (num 5)))

  -- `where (pcoord(0) == 2) b = 1;`, then a scan with b as segment bit
  abbrev pub segmented : TStmt
  segmented =
      both (where_do (apply numbers O.Eq own (all (num 2))) (S.Expression (set bits A.Set b (T.Convert' bits box (all (num 1))))))
      (assign d sums_by_segment)

  -- communication, folds and old values
  pub record Communication : Type 0 where
    pub last_wins : final_d (run (sending A.Set)) ≡ 0 ∷ 7 ∷ 0 ∷ 0 ∷ []
    pub first_wins : final_d (run_low (sending A.Set)) ≡ 0 ∷ 4 ∷ 0 ∷ 0 ∷ []
    pub combined : final_d (run (sending A.Add)) ≡ 0 ∷ 22 ∷ 0 ∷ 0 ∷ []
    pub into_one : final_d (run fold_into) ≡ 0 ∷ 6 ∷ 0 ∷ 0 ∷ []
    pub least_of_nothing : final_s (run (over_nothing R.Min)) ≡ 2 ^ 31 - 1
    pub all_of_nothing : final_s (run (over_nothing R.And)) ≡ 2 ^ 32 - 1
    pub twice_the_new : final_s (run old_after_right) ≡ 10
    pub by_segment : final_d (run segmented) ≡ 0 ∷ 1 ∷ 2 ∷ 5 ∷ []
