-- The nodes that bring a value to a type, and those of operators, from what the calls that make them
-- answer.
use Rattle.std.proofs.Common.{◌≡◌, ◌⊎◌, inl, inr, ℕ, List, map, Option, Box, Vec, ap, subst, ◌∙◌}
use Rattle.std.specs.declared.alloc.Global.{Global}
use Rattle.cstar_base.specs.declared.elem.Elem.{Elem}
use Rattle.cstar_base.specs.declared.operators.Op.{Op}
use Rattle.cstar_base.specs.declared.operators.Place.{Place}
use Rattle.cstar_tree.specs.declared.syntax.AssignOp.{AssignOp}
use Rattle.cstar_tree.specs.declared.syntax.ReduceOp.{ReduceOp}
use Rattle.cstar_tree.specs.declared.typed.TExpr.{TExpr}
use Rattle.cstar_tree.specs.declared.typed.TExpr as T
use Rattle.cstar_tree.specs.declared.typed.UnaryOp.{UnaryOp}
use Rattle.cstar_tree.specs.declared.typed.UnaryOp.TheVariants as U
use Rattle.cstar_tree.specs.declared.typed.ValueType.{ValueType}
use Rattle.cstar_tree.specs.Typed.{type_of}
use Rattle.cstar_tree.specs.Conversions as C
use Rattle.cstar_tree.specs.Conversions.{IsConverted, IsFitted, IsSpread, common, either, int, promoted, scalar}
use Rattle.cstar_tree.specs.Operations.{assigned_elem, left_elem, result_elem, right_elem}
use Rattle.cstar_tree.specs.declared.syntax.Cast.{Cast}
use Rattle.cstar_tree.specs.ExpressionTypes.{cast_elem}
use Rattle.typed_nodes.specs.Operators.{IsAssignment, IsCastChain, IsChoice, IsNumeric, IsReduction, IsSigned, IsUnary}

pub ruleset conversions = (C.as_it_is, C.by_node, C.none_wanted, C.is_parallel, C.at_each_position)

pub reduced : {op : ReduceOp} {a t : TExpr} {x : Box TExpr Global} {e : Elem} {ty : ValueType} → ty ≡ type_of a → e ≡ promoted ty.elem → IsConverted a e x.value → t ≡ T.Reduce (scalar e) op x → IsReduction op a t
reduced {op} {a} {t} {x} {e} ty_is e_is conversion is =
    let same : e ≡ promoted (type_of a).elem = e_is ∙ ap (λ (v : ValueType). promoted v.elem) ty_is in
    record {
      x = x;
      operand = subst (λ (f : Elem). IsConverted a f x.value) same conversion;
      node = is ∙ ap (λ (f : Elem). T.Reduce (scalar f) op x) same;
    }

pub signed : {op : UnaryOp} {a t : TExpr} {x : Box TExpr Global} {e : Elem} {ty of : ValueType} → ty ≡ type_of a → e ≡ promoted ty.elem → IsConverted a e x.value → of ≡ type_of x.value → t ≡ T.Unary of op x → IsSigned op a t
signed {op} {a} {t} {x} {e} ty_is e_is conversion of_is is =
    let same : e ≡ promoted (type_of a).elem = e_is ∙ ap (λ (v : ValueType). promoted v.elem) ty_is in
    record {
      x = x;
      operand = subst (λ (f : Elem). IsConverted a f x.value) same conversion;
      node = is ∙ ap (λ (v : ValueType). T.Unary v op x) of_is;
    }

pub numbered : {p : Place} {op : Op} {a b t : TExpr} {x y : Box TExpr Global} {l r e : Elem} {s : Option ℕ} {u v : ValueType} → u ≡ type_of a → v ≡ type_of b → l ≡ left_elem op u.elem v.elem → r ≡ right_elem op u.elem v.elem → e ≡ result_elem op u.elem v.elem → s ≡ either u.shape v.shape → IsFitted a (record { elem = l; shape = s }) x.value → IsFitted b (record { elem = r; shape = s }) y.value → t ≡ T.Binary (record { elem = e; shape = s }) p op x y → IsNumeric p op a b t
numbered {x = x} {y = y} ua vb l_is r_is e_is s_is f g is = record {
  x = x;
  y = y;
  left = rw (← vb, ← ua, ← l_is, ← s_is) f;
  right = rw (← vb, ← ua, ← r_is, ← s_is) g;
  node = rw (← vb, ← ua, ← e_is, ← s_is) is;
}

pub or_node : {a y : Box TExpr Global} (b : Box TExpr Global) {t : TExpr} {u v w : ValueType} → u ≡ type_of a.value → IsSpread b.value u.shape y.value → w ≡ type_of y.value → v ≡ record { elem = int; shape = w.shape } → t ≡ T.LogicalOr v a y → IsSpread b.value (type_of a.value).shape y.value × (t ≡ T.LogicalOr (record { elem = int; shape = (type_of y.value).shape }) a y)
or_node {a} {y} b u_is s w_is v_is is =
    (subst (λ (k : ValueType). IsSpread b.value k.shape y.value) u_is s, is ∙ ap (λ (k : ValueType). T.LogicalOr k a y) (v_is ∙ ap (λ (k : ValueType). let made : ValueType = record { elem = int; shape = k.shape } in made) w_is))

pub and_node : {a y : Box TExpr Global} (b : Box TExpr Global) {t : TExpr} {u v w : ValueType} → u ≡ type_of a.value → IsSpread b.value u.shape y.value → w ≡ type_of y.value → v ≡ record { elem = int; shape = w.shape } → t ≡ T.LogicalAnd v a y → IsSpread b.value (type_of a.value).shape y.value × (t ≡ T.LogicalAnd (record { elem = int; shape = (type_of y.value).shape }) a y)
and_node {a} {y} b u_is s w_is v_is is =
    (subst (λ (k : ValueType). IsSpread b.value k.shape y.value) u_is s, is ∙ ap (λ (k : ValueType). T.LogicalAnd k a y) (v_is ∙ ap (λ (k : ValueType). let made : ValueType = record { elem = int; shape = k.shape } in made) w_is))

pub chosen : {c x y : Box TExpr Global} {a b t : TExpr} {e : Elem} {s k : Option ℕ} {w u v : ValueType} → w ≡ type_of c.value → u ≡ type_of a → v ≡ type_of b → e ≡ common u.elem v.elem → k ≡ either u.shape v.shape → s ≡ either w.shape k → IsFitted a (record { elem = e; shape = s }) x.value → IsFitted b (record { elem = e; shape = s }) y.value → t ≡ T.Choice (record { elem = e; shape = s }) c x y → IsChoice c a b t
chosen {x = x} {y = y} wc ua vb e_is k_is s_is f g is = record {
  x = x;
  y = y;
  second = rw (← wc, ← vb, ← ua, ← e_is, ← k_is, ← s_is) f;
  third = rw (← wc, ← vb, ← ua, ← e_is, ← k_is, ← s_is) g;
  node = rw (← wc, ← vb, ← ua, ← e_is, ← k_is, ← s_is) is;
}

pub assigned : {p : Place} {op : AssignOp} {target x : Box TExpr Global} {v t : TExpr} {e : Elem} {w u : ValueType} → w ≡ type_of target.value → u ≡ type_of v → e ≡ assigned_elem op w.elem u.elem → IsFitted v (record { elem = e; shape = w.shape }) x.value → t ≡ T.Assign w p op target x → IsAssignment p op target v t
assigned {x = x} w_is u_is e_is f is = record {
  x = x;
  value = rw (← w_is, ← u_is, ← e_is) f;
  node = rw (← w_is) is;
}

pub as_unary : (op : UnaryOp) (a : Box TExpr Global) {t : TExpr} → (op ≡ U.Plus) ⊎ ((op ≡ U.Minus) ⊎ (op ≡ U.Complement)) → IsSigned op a.value t → IsUnary op a t
as_unary U.Not a is h = absurd (elim is [ inl p ↦ cc | inr k ↦ elim k [ inl p ↦ cc | inr p ↦ cc ] ])
as_unary U.Plus a is h = h
as_unary U.Minus a is h = h
as_unary U.Complement a is h = h

pub negated : {op : UnaryOp} (a : Box TExpr Global) {u v : ValueType} → op ≡ U.Not → u ≡ type_of a.value → v ≡ record { elem = int; shape = u.shape } → IsUnary op a (T.Unary v op a)
negated {op} a {u} {v} is u_is v_is =
    rw is (ap (λ (k : ValueType). T.Unary k U.Not a) (v_is ∙ ap (λ (k : ValueType). let made : ValueType = record { elem = int; shape = k.shape } in made) u_is))

pub cast : {chain : List Cast} {a : Box TExpr Global} {elems : Vec Elem Global} {e : Elem} {u : ValueType} → u ≡ type_of a.value → e ≡ cast_elem chain u.elem → elems.items ≡ map (λ (c : Cast). c.elem) chain → IsCastChain chain a (T.Casts (scalar e) elems a)
cast {chain} {a} {elems} {e} u_is e_is listed = record {
  elems = elems;
  listed = listed;
  node = ap (λ (f : Elem). T.Casts (scalar f) elems a) (e_is ∙ ap (λ (k : ValueType). cast_elem chain k.elem) u_is);
}
