-- What a walk adds in a statement, from its parts.
use Rattle.std.proofs.Common.{◌≡◌, ◌<◌, ◌+◌, ◌-◌, ℕ, zero, suc, List, [], ◌∷◌, ◌++◌, length, take, get_or, map, is_none, slice_get, Option, Some, None, Box, refl, sym, ap, ◌∙◌, subst, arith, add-one, append_assoc, append-nil}
use Rattle.std.specs.declared.alloc.Global.{Global}
use Rattle.std.proofs.lemmas.Option.{same_Some, slice_get_read}
use Rattle.cstar_base.specs.declared.operators.Place.{Place}
use Rattle.cstar_tree.specs.declared.syntax.Block.{Block}
use Rattle.cstar_tree.specs.declared.syntax.Expr.{Expr}
use Rattle.cstar_tree.specs.declared.syntax.ShapeRef.{ShapeRef}
use Rattle.cstar_tree.specs.declared.syntax.Stmt.{Stmt}
use Rattle.cstar_tree.specs.declared.syntax.Stmt as S
use Rattle.cstar_tree.specs.declared.syntax.Stmt.TheFolds.{fold-roll-Stmt, fold_out-Block}
use Rattle.cstar_tree.specs.declared.syntax.Stmt.TheOpen.{Stmt-F}
use Rattle.cstar_tree.specs.declared.syntax.Stmt.TheVariants as rolled
use Rattle.cstar_tree.specs.BlockScopes.{behind_declarations, block_place}
use Rattle.cstar_tree.specs.Calls.{Call, at_each, block_step, calls_in, calls_in_block, calls_in_declarations, calls_in_each, calls_in_statement, statement_step, untyped, within}
use Rattle.cstar_tree.specs.Scopes.{Binding, Here, find, meaning, shape_of, under}
use Rattle.cstar_tree.specs.TypedParts.{concat, optional}
use Rattle.type_scopes.specs.Bindings as B
use Rattle.type_scopes.specs.Bindings.{bindings}
use Rattle.call_groups.specs.declared.calls.Calls.{Calls}
use Rattle.call_groups.specs.Called.{Adds, IsKnown, IsKnownIn, Walks, functions_of}
use Rattle.call_groups.proofs.Adding.{both_added, none_added, same_added}
use Rattle.call_groups.proofs.Declared.{DeclarationsWalk}
use Rattle.call_groups.proofs.Walking.{goes_on, scoped, same_walk, stays}

-- the calls of a statement, at each place
pub record Has (s : Stmt) (calls : Here → List Call) : Type 0 where
  pub at_place : (here : Here) → calls_in_statement s here ≡ calls here

pub block_has : (block : Block) {s : Stmt} → s ≡ S.Block block → Has s (λ here. calls_in_block block (block_place here))
block_has block is = record {
  at_place = λ here.
      ap (λ x. calls_in_statement x here) (is ∙ sym (rolled.rolls-Block block))
      ∙ ap (λ f. f here) (fold-roll-Stmt (Here → List Call) (Here → List Call) statement_step block_step (Stmt-F.Block block))
      ∙ ap (λ f. f (block_place here)) (fold_out-Block (Here → List Call) (Here → List Call) statement_step block_step block);
}

pub expression_has : {p : Place} {e : Expr} {s : Stmt} → s ≡ S.Expression p e → Has s (λ here. calls_in here e)
unfolding concat at_each
expression_has {p = p} {e = e} is = record {
  at_place = λ here.
      ap (λ x. calls_in_statement x here) (is ∙ sym (rolled.rolls-Expression p e))
      ∙ ap (λ f. f here) (fold-roll-Stmt (Here → List Call) (Here → List Call) statement_step block_step (Stmt-F.Expression p e))
      ∙ append-nil (calls_in here e ++ []) ∙ append-nil (calls_in here e);
}

pub empty_has : {p : Place} {s : Stmt} → s ≡ S.Empty p → Has s (λ here. [])
unfolding concat at_each
empty_has {p = p} is = record {
  at_place = λ here.
      ap (λ x. calls_in_statement x here) (is ∙ sym (rolled.rolls-Empty p))
      ∙ ap (λ f. f here) (fold-roll-Stmt (Here → List Call) (Here → List Call) statement_step block_step (Stmt-F.Empty p));
}

pub break_has : {p : Place} {s : Stmt} → s ≡ S.Break p → Has s (λ here. [])
unfolding concat at_each
break_has {p = p} is = record {
  at_place = λ here.
      ap (λ x. calls_in_statement x here) (is ∙ sym (rolled.rolls-Break p))
      ∙ ap (λ f. f here) (fold-roll-Stmt (Here → List Call) (Here → List Call) statement_step block_step (Stmt-F.Break p));
}

pub continue_has : {p : Place} {s : Stmt} → s ≡ S.Continue p → Has s (λ here. [])
unfolding concat at_each
continue_has {p = p} is = record {
  at_place = λ here.
      ap (λ x. calls_in_statement x here) (is ∙ sym (rolled.rolls-Continue p))
      ∙ ap (λ f. f here) (fold-roll-Stmt (Here → List Call) (Here → List Call) statement_step block_step (Stmt-F.Continue p));
}

pub if_alone_has : {p : Place} {e : Expr} {then : Box Stmt Global} {s : Stmt} → s ≡ S.If p e then None → Has s (λ here. calls_in here e ++ calls_in_statement then.value here)
unfolding concat at_each
if_alone_has {p = p} {e = e} {then = then} is = record {
  at_place = λ here.
      ap (λ x. calls_in_statement x here) (is ∙ sym (rolled.rolls-If p e then None))
      ∙ ap (λ f. f here) (fold-roll-Stmt (Here → List Call) (Here → List Call) statement_step block_step (Stmt-F.If p e then None))
      ∙ ap (λ cs. cs ++ (calls_in_statement then.value here ++ [])) (append-nil (calls_in here e)) ∙ ap (λ cs. calls_in here e ++ cs) (append-nil (calls_in_statement then.value here));
}

pub if_else_has : {p : Place} {e : Expr} {then : Box Stmt Global} {otherwise : Box Stmt Global} {s : Stmt} → s ≡ S.If p e then (Some otherwise) → Has s (λ here. calls_in here e ++ (calls_in_statement then.value here ++ calls_in_statement otherwise.value here))
unfolding concat at_each
if_else_has {p = p} {e = e} {then = then} {otherwise = otherwise} is = record {
  at_place = λ here.
      ap (λ x. calls_in_statement x here) (is ∙ sym (rolled.rolls-If p e then (Some otherwise)))
      ∙ ap (λ f. f here) (fold-roll-Stmt (Here → List Call) (Here → List Call) statement_step block_step (Stmt-F.If p e then (Some otherwise)))
      ∙ ap (λ cs. cs ++ (calls_in_statement then.value here ++ (calls_in_statement otherwise.value here ++ []))) (append-nil (calls_in here e)) ∙ ap (λ cs. calls_in here e ++ (calls_in_statement then.value here ++ cs)) (append-nil (calls_in_statement otherwise.value here));
}

pub where_alone_has : {p : Place} {e : Expr} {then : Box Stmt Global} {s : Stmt} → s ≡ S.Where p e then None → Has s (λ here. calls_in here e ++ calls_in_statement then.value here)
unfolding concat at_each
where_alone_has {p = p} {e = e} {then = then} is = record {
  at_place = λ here.
      ap (λ x. calls_in_statement x here) (is ∙ sym (rolled.rolls-Where p e then None))
      ∙ ap (λ f. f here) (fold-roll-Stmt (Here → List Call) (Here → List Call) statement_step block_step (Stmt-F.Where p e then None))
      ∙ ap (λ cs. cs ++ (calls_in_statement then.value here ++ [])) (append-nil (calls_in here e)) ∙ ap (λ cs. calls_in here e ++ cs) (append-nil (calls_in_statement then.value here));
}

pub where_else_has : {p : Place} {e : Expr} {then : Box Stmt Global} {otherwise : Box Stmt Global} {s : Stmt} → s ≡ S.Where p e then (Some otherwise) → Has s (λ here. calls_in here e ++ (calls_in_statement then.value here ++ calls_in_statement otherwise.value here))
unfolding concat at_each
where_else_has {p = p} {e = e} {then = then} {otherwise = otherwise} is = record {
  at_place = λ here.
      ap (λ x. calls_in_statement x here) (is ∙ sym (rolled.rolls-Where p e then (Some otherwise)))
      ∙ ap (λ f. f here) (fold-roll-Stmt (Here → List Call) (Here → List Call) statement_step block_step (Stmt-F.Where p e then (Some otherwise)))
      ∙ ap (λ cs. cs ++ (calls_in_statement then.value here ++ (calls_in_statement otherwise.value here ++ []))) (append-nil (calls_in here e)) ∙ ap (λ cs. calls_in here e ++ (calls_in_statement then.value here ++ cs)) (append-nil (calls_in_statement otherwise.value here));
}

pub while_has : {p : Place} {e : Expr} {body : Box Stmt Global} {s : Stmt} → s ≡ S.While p e body → Has s (λ here. calls_in here e ++ calls_in_statement body.value here)
unfolding concat at_each
while_has {p = p} {e = e} {body = body} is = record {
  at_place = λ here.
      ap (λ x. calls_in_statement x here) (is ∙ sym (rolled.rolls-While p e body))
      ∙ ap (λ f. f here) (fold-roll-Stmt (Here → List Call) (Here → List Call) statement_step block_step (Stmt-F.While p e body))
      ∙ ap (λ cs. cs ++ (calls_in_statement body.value here ++ [])) (append-nil (calls_in here e)) ∙ ap (λ cs. calls_in here e ++ cs) (append-nil (calls_in_statement body.value here));
}

pub do_has : {p : Place} {body : Box Stmt Global} {e : Expr} {s : Stmt} → s ≡ S.Do p body e → Has s (λ here. calls_in_statement body.value here ++ calls_in here e)
unfolding concat at_each
do_has {p = p} {body = body} {e = e} is = record {
  at_place = λ here.
      ap (λ x. calls_in_statement x here) (is ∙ sym (rolled.rolls-Do p body e))
      ∙ ap (λ f. f here) (fold-roll-Stmt (Here → List Call) (Here → List Call) statement_step block_step (Stmt-F.Do p body e));
}

pub return_has : {p : Place} {value : Option Expr} {s : Stmt} → s ≡ S.Return p value → Has s (λ here. calls_in_each here (optional value))
unfolding at_each
return_has {p = p} {value = value} is = record {
  at_place = λ here.
      ap (λ x. calls_in_statement x here) (is ∙ sym (rolled.rolls-Return p value))
      ∙ ap (λ f. f here) (fold-roll-Stmt (Here → List Call) (Here → List Call) statement_step block_step (Stmt-F.Return p value))
      ∙ append-nil (calls_in_each here (optional value));
}

pub with_has : {p : Place} {shape : ShapeRef} {body : Box Stmt Global} {s : Stmt} → s ≡ S.With p shape body → Has s (λ here. within here (shape_of here shape) (calls_in_statement body.value))
unfolding concat at_each
with_has {p = p} {shape = shape} {body = body} is = record {
  at_place = λ here.
      ap (λ x. calls_in_statement x here) (is ∙ sym (rolled.rolls-With p shape body))
      ∙ ap (λ f. f here) (fold-roll-Stmt (Here → List Call) (Here → List Call) statement_step block_step (Stmt-F.With p shape body));
}

pub everywhere_has : {p : Place} {body : Box Stmt Global} {s : Stmt} → s ≡ S.Everywhere p body → Has s (λ here. calls_in_statement body.value here)
unfolding concat at_each
everywhere_has {p = p} {body = body} is = record {
  at_place = λ here.
      ap (λ x. calls_in_statement x here) (is ∙ sym (rolled.rolls-Everywhere p body))
      ∙ ap (λ f. f here) (fold-roll-Stmt (Here → List Call) (Here → List Call) statement_step block_step (Stmt-F.Everywhere p body))
      ∙ append-nil (calls_in_statement body.value here);
}

each_both : (here : Here) (xs ys : List Expr) → calls_in_each here (xs ++ ys) ≡ calls_in_each here xs ++ calls_in_each here ys
unfolding concat
each_both here [] ys = refl
each_both here (x ∷ xs) ys = ap (λ cs. calls_in here x ++ cs) (each_both here xs ys) ∙ sym (append_assoc (calls_in here x) (calls_in_each here xs) (calls_in_each here ys))

pub for_has : {p : Place} {first : Option Expr} {test : Option Expr} {step : Option Expr} {body : Box Stmt Global} {s : Stmt} → s ≡ S.For p first test step body → Has s (λ here. calls_in_each here (optional first) ++ (calls_in_each here (optional test) ++ (calls_in_each here (optional step) ++ calls_in_statement body.value here)))
unfolding at_each
for_has {p = p} {first = first} {test = test} {step = step} {body = body} is = record {
  at_place = λ here.
      ap (λ x. calls_in_statement x here) (is ∙ sym (rolled.rolls-For p first test step body))
      ∙ ap (λ f. f here) (fold-roll-Stmt (Here → List Call) (Here → List Call) statement_step block_step (Stmt-F.For p first test step body))
      ∙ ap (λ cs. calls_in_each here (optional first ++ optional test ++ optional step) ++ cs) (append-nil (calls_in_statement body.value here))
      ∙ ap (λ cs. cs ++ calls_in_statement body.value here) (each_both here (optional first ++ optional test) (optional step) ∙ ap (λ cs. cs ++ calls_in_each here (optional step)) (each_both here (optional first) (optional test)))
      ∙ append_assoc (calls_in_each here (optional first) ++ calls_in_each here (optional test)) (calls_in_each here (optional step)) (calls_in_statement body.value here)
      ∙ append_assoc (calls_in_each here (optional first)) (calls_in_each here (optional test)) (calls_in_each here (optional step) ++ calls_in_statement body.value here);
}

-- ---- what is added

pub stmt_none : {calls : Calls} {s : Stmt} → Has s (λ here. []) → Adds calls calls (calls_in_statement s)
stmt_none {calls = calls} {s = s} is = none_added calls (calls_in_statement s) is.at_place

pub stmt_same : {old new : Calls} {s : Stmt} (calls : Here → List Call) → Has s calls → Adds old new calls → Adds old new (calls_in_statement s)
stmt_same {old = old} {new = new} {s = s} calls is adds = same_added old new calls (calls_in_statement s) adds is.at_place

pub stmt_of : {old new : Calls} {s v : Stmt} → v ≡ s → Adds old new (calls_in_statement v) → Adds old new (calls_in_statement s)
stmt_of {old = old} {new = new} same adds = subst (λ x. Adds old new (calls_in_statement x)) same adds

pub then_adds : {old mid new : Calls} (first second : Here → List Call) → Adds old mid first → Adds mid new second → Adds old new (λ here. first here ++ second here)
then_adds {old = old} {mid = mid} {new = new} first second a b = both_added old mid new first second (λ here. first here ++ second here) a b (λ here. refl)

untyped_same : (cs : List Call) → functions_of (untyped cs) ≡ functions_of cs
untyped_same [] = refl
untyped_same (c ∷ cs) = ap (λ fs. c.function ∷ fs) (untyped_same cs)

known_under : (calls : Calls) (here : Here) (shape : ℕ) → IsKnown calls here → IsKnown calls (under here shape)
unfolding meaning
known_under calls here shape known = known

within_called : (old new : Calls) (s : Stmt) (here : Here) (shape : Option ℕ) → Adds old new (calls_in_statement s) → IsKnown old here → new.called.items ≡ old.called.items ++ functions_of (within here shape (calls_in_statement s))
within_called old new s here None adds known = adds.called here known ∙ ap (λ fs. old.called.items ++ fs) (sym (untyped_same (calls_in_statement s here)))
within_called old new s here (Some shape) adds known = adds.called (under here shape) (known_under old here shape known)

pub with_adds : {old new : Calls} (s : Stmt) (shape : ShapeRef) → Adds old new (calls_in_statement s) → Adds old new (λ here. within here (shape_of here shape) (calls_in_statement s))
with_adds {old = old} {new = new} s shape adds = record {
  called = λ here known. within_called old new s here (shape_of here shape) adds known;
  names = adds.names;
  file = adds.file;
  known = adds.known;
}

nothing_within : (names : List Binding) (n : ℕ) → n ≡ length names → (word : List ℕ) → is_none (find (B.within n names) word) ≡ is_none (find [] word)
nothing_within names n same word = ap (λ k. is_none (find (take k names) word)) (let e : length names - n ≡ 0 = omega arith in e)

opens : (calls : Calls) (here : Here) → IsKnown calls here → IsKnownIn (length (bindings calls.locals)) calls (block_place here)
unfolding meaning
opens calls here known = record {
  deep = omega arith;
  inner = λ word. sym (nothing_within (bindings calls.locals) (length (bindings calls.locals)) refl word);
  all = known;
}

pub block_adds : (old mid new : Calls) (scope : ℕ) (block : Block) (on : Here → Here) → scope ≡ length (bindings old.locals) → Walks scope old mid on (calls_in_block block)
    → bindings new.locals ≡ B.around scope (bindings mid.locals) → new.called.items ≡ mid.called.items → new.file.now ≡ mid.file.now → new.known ≡ mid.known
    → Adds old new (λ here. calls_in_block block (block_place here))
block_adds old mid new scope block on is walk names called file known =
    scoped old mid new on (calls_in_block block) (λ here. calls_in_block block (block_place here)) block_place
    (subst (λ n. Walks n old mid on (calls_in_block block)) is walk)
    (names ∙ ap (λ n. B.around n (bindings mid.locals)) is)
    called file known (opens old) (λ here. refl)

-- ---- the statements of a block

abbrev pub so_far : Block → List Stmt → Here → List Call
so_far block done here = calls_in_declarations here block.declarations.items ++ at_each (behind_declarations here block.declarations.items) (map calls_in_statement done)

abbrev pub BlockWalk : ℕ → Calls → Calls → Block → List Stmt → Type 0
BlockWalk scope old new block done = Walks scope old new (λ here. behind_declarations here block.declarations.items) (so_far block done)

pub block_begins : (scope : ℕ) (old new : Calls) (block : Block) → DeclarationsWalk scope old new block.declarations.items → BlockWalk scope old new block []
unfolding at_each
block_begins scope old new block walk = same_walk scope old new (λ here. calls_in_declarations here block.declarations.items) (so_far block []) (λ here. behind_declarations here block.declarations.items) (λ here. behind_declarations here block.declarations.items) walk (λ here. append-nil (calls_in_declarations here block.declarations.items)) (λ here. refl)

pub each_more : (here : Here) (ss : List Stmt) (i : ℕ) (s : Stmt) → slice_get ss i ≡ Some s → at_each here (map calls_in_statement (take (suc i) ss)) ≡ at_each here (map calls_in_statement (take i ss)) ++ calls_in_statement s here
unfolding at_each
each_more here [] i s is = cc
each_more here (x ∷ ss) zero s is = append-nil (calls_in_statement x here) ∙ ap (λ y. calls_in_statement y here) (same_Some x s is)
each_more here (x ∷ ss) (suc i) s is =
    ap (λ cs. calls_in_statement x here ++ cs) (each_more here ss i s is)
    ∙ sym (append_assoc (calls_in_statement x here) (at_each here (map calls_in_statement (take i ss))) (calls_in_statement s here))

pub block_next : (scope : ℕ) (old mid new : Calls) (block : Block) (ss : List Stmt) (i : ℕ) (s : Stmt) → i < length ss → s ≡ get_or ss i s → BlockWalk scope old mid block (take i ss) → Adds mid new (calls_in_statement s) → BlockWalk scope old new block (take (i + 1) ss)
block_next scope old mid new block ss i s less is before next =
    let at_i = slice_get_read ss (length ss) i s refl less is in
    let behind = λ (here : Here). behind_declarations here block.declarations.items in
    subst (λ n. BlockWalk scope old new block (take n ss)) (sym (add-one i))
    (goes_on scope old mid new (so_far block (take i ss)) (calls_in_statement s) (so_far block (take (suc i) ss)) behind (λ here. here) behind before (stays scope mid new (calls_in_statement s) next)
    (λ here.
    ap (λ cs. calls_in_declarations here block.declarations.items ++ cs) (each_more (behind here) ss i s at_i)
    ∙ sym (append_assoc (calls_in_declarations here block.declarations.items) (at_each (behind here) (map calls_in_statement (take i ss))) (calls_in_statement s (behind here))))
    (λ here. refl))
