-- The nodes of constants: each is the constant that its form makes of the constants of its parts, and
-- none where a part is none.
use Rattle.std.proofs.Common.{◌≡◌, ℕ, ◌<◌, ◌-◌, ◌^◌, Bool, true, false, not, ◌==◌, if◌then◌else◌, Option, Some, None, is_none, IfSome, Box, refl, sym, ap, subst, ◌∙◌, arith}
use Rattle.std.specs.Int.{from_bool}
use Rattle.std.specs.Option.{option_map}
use Rattle.std.specs.declared.alloc.Global.{Global}
use Rattle.std.proofs.lemmas.Bool.{eq-eqb}
use Rattle.cstar_base.specs.declared.elem.Elem.{Elem}
use Rattle.cstar_base.specs.declared.operators.Op.{Op}
use Rattle.cstar_base.specs.declared.operators.Place.{Place}
use Rattle.cstar_base.specs.Operators.{operate}
use Rattle.cstar_tree.specs.declared.syntax.BinaryOp.TheVariants as B
use Rattle.cstar_tree.specs.declared.syntax.PrefixOp.{PrefixOp}
use Rattle.cstar_tree.specs.declared.syntax.PrefixOp.TheVariants as P
use Rattle.cstar_tree.specs.declared.syntax.ReduceOp.{ReduceOp}
use Rattle.cstar_tree.specs.declared.syntax.StepOp.{StepOp}
use Rattle.cstar_tree.specs.declared.typed.TExpr.{TExpr}
use Rattle.cstar_tree.specs.declared.typed.TExpr as T
use Rattle.cstar_tree.specs.declared.typed.ValueType.{ValueType}
use Rattle.cstar_tree.specs.declared.typed.UnaryOp.{UnaryOp}
use Rattle.cstar_tree.specs.declared.typed.UnaryOp.TheVariants as U
use Rattle.cstar_tree.specs.Constants.{Constant, cast_to, chosen, combined, complemented, negated, operated, over_one, over_three, over_two, prefixed, selected, signed_by, truth, with_both}
use Rattle.cstar_tree.specs.Conversions.{IsConverted, IsFitted, IsSpread, common, either, int, promoted}
use Rattle.cstar_tree.specs.Operations.{left_elem, result_elem, right_elem, sign_of}
use Rattle.cstar_tree.specs.Typed.{type_of}
use Rattle.source_meaning.specs.Constants.{is_constant, then_value, value_of}
use Rattle.source_meaning.specs.Values.{nonzero, unary_of}
use Rattle.constant_trees.specs.Laws.{IsAsWritten, IsConstant}
use Rattle.constant_trees.proofs.Bringing.{both_true, converted_constant, converted_none, fitted_constant, fitted_none, left_false, right_false, spread_none, spread_scalar}
use Rattle.constant_trees.proofs.Words.{common_wide, left_wide, operate_below, promoted_wide, result_wide, right_wide, then_mapped, unary_below}

-- ---- brackets

pub brackets : (k : Option Constant) (i : Box TExpr Global) → IsAsWritten k i.value → IsAsWritten k (T.Brackets (type_of i.value) i)
unfolding is_constant value_of
brackets None i h = right_false _ (is_constant i.value) h
brackets (Some k) i g = record {
  form = both_true _ _ (both_true _ _ (ap is_none g.scalar) (eq-eqb (type_of i.value).elem.bits (type_of i.value).elem.bits refl)) g.form;
  scalar = g.scalar;
  elem = g.elem;
  value = g.value;
  fits = g.fits;
}

-- ---- operators before an operand

mapped_fits : (f : ℕ → ℕ) (word : Option ℕ) (bits : ℕ) → bits ≡ 32 → ((w : ℕ) → w < 2 ^ 32 → f w < 2 ^ 32) → IfSome word (λ w. w < 2 ^ bits) → IfSome (option_map f word) (λ w. w < 2 ^ bits)
mapped_fits f None bits wide below fits = tt
mapped_fits f (Some w) bits wide below fits = subst (λ (n : ℕ). f w < 2 ^ n) (sym wide) (below w (subst (λ (n : ℕ). w < 2 ^ n) wide fits))

unary : (sign : UnaryOp) (k : Constant) (x : Box TExpr Global) → k.elem.bits ≡ 32 → IsConstant x.value k → IsConstant (T.Unary (type_of x.value) sign x) (record { elem = k.elem; word = option_map (unary_of sign) k.word })
unfolding is_constant value_of
unary sign k x wide g = record {
  form = both_true _ _ (both_true _ _ (ap is_none g.scalar) (eq-eqb (type_of x.value).elem.bits 32 (ap (λ (e : Elem). e.bits) g.elem ∙ wide))) g.form;
  scalar = g.scalar;
  elem = g.elem;
  value = then_mapped (unary_of sign) (value_of x.value) ∙ ap (option_map (unary_of sign)) g.value;
  fits = mapped_fits (unary_of sign) k.word k.elem.bits wide (unary_below sign) g.fits;
}

by_sign : (op : PrefixOp) (sign : UnaryOp) (k : Constant) (x : Box TExpr Global) → sign_of op ≡ Some sign → IsConstant x.value (cast_to (promoted k.elem) k) → IsAsWritten (prefixed op k) (T.Unary (type_of x.value) sign x)
unfolding prefixed signed_by cast_to unary_of negated complemented
by_sign P.Plus sign k x is g = subst (λ (s : UnaryOp). IsAsWritten (prefixed P.Plus k) (T.Unary (type_of x.value) s x)) (cc) (unary U.Plus (cast_to (promoted k.elem) k) x (promoted_wide k.elem) g)
by_sign P.Minus sign k x is g = subst (λ (s : UnaryOp). IsAsWritten (prefixed P.Minus k) (T.Unary (type_of x.value) s x)) (cc) (unary U.Minus (cast_to (promoted k.elem) k) x (promoted_wide k.elem) g)
by_sign P.Complement sign k x is g =
    subst (λ (s : UnaryOp). IsAsWritten (prefixed P.Complement k) (T.Unary (type_of x.value) s x)) (cc) (unary U.Complement (cast_to (promoted k.elem) k) x (promoted_wide k.elem) g)
by_sign P.Not sign k x is g = absurd (cc)
by_sign (P.Step op) sign k x is g = absurd (cc)
by_sign (P.Reduce op) sign k x is g = absurd (cc)

pub signed : {a : TExpr} (op : PrefixOp) (sign : UnaryOp) (k : Option Constant) (x : Box TExpr Global) → sign_of op ≡ Some sign → IsConverted a (promoted (type_of a).elem) x.value → IsAsWritten k a →
    IsAsWritten (over_one (prefixed op) k) (T.Unary (type_of x.value) sign x)
unfolding over_one is_constant
signed op sign None x is conversion h = right_false _ (is_constant x.value) (converted_none conversion h)
signed {a = a} op sign (Some k) x is conversion g =
    by_sign op sign k x is (subst (λ (e : Elem). IsConstant x.value (cast_to (promoted e) k)) g.elem (converted_constant (promoted_wide (type_of a).elem) conversion g))

not_by : (b : Bool) → from_bool b ≡ 1 - (if b then 0 else 1)
not_by true = refl
not_by false = refl

not_word : (word : Option ℕ) → option_map (λ w. from_bool (w == 0)) word ≡ option_map (λ w. 1 - truth w) word
unfolding truth
not_word None = refl
not_word (Some w) = ap Some (not_by (w == 0))

not_below : (w : ℕ) → 1 - truth w < 2 ^ 32
not_below w = omega arith

not_fits : (word : Option ℕ) → IfSome (option_map (λ w. 1 - truth w) word) (λ w. w < 2 ^ 32)
not_fits None = tt
not_fits (Some w) = not_below w

pub logical_not : (k : Option Constant) (x : Box TExpr Global) → IsAsWritten k x.value → IsAsWritten (over_one (prefixed P.Not) k) (T.Unary (record { elem = int; shape = (type_of x.value).shape }) U.Not x)
unfolding over_one prefixed is_constant value_of unary_of
logical_not None x h = right_false _ (is_constant x.value) h
logical_not (Some k) x g = record {
  form = both_true _ _ (both_true _ _ (ap is_none g.scalar) refl) g.form;
  scalar = g.scalar;
  elem = refl;
  value = then_mapped (λ w. from_bool (w == 0)) (value_of x.value) ∙ (ap (option_map (λ w. from_bool (w == 0))) g.value ∙ not_word k.word);
  fits = not_fits k.word;
}

-- a reduction and a step are no constants, whatever their operand is
pub reduction : (op : ReduceOp) (k : Option Constant) (t : TExpr) → is_constant t ≡ false → IsAsWritten (over_one (prefixed (P.Reduce op)) k) t
unfolding over_one prefixed
reduction op None t h = h
reduction op (Some k) t h = h

pub step : (op : StepOp) (k : Option Constant) (t : TExpr) → is_constant t ≡ false → IsAsWritten (over_one (prefixed (P.Step op)) k) t
unfolding over_one prefixed
step op None t h = h
step op (Some k) t h = h

-- ---- binary operators

both_values : (f : ℕ → ℕ → Option ℕ) (a b : Option ℕ) → then_value a (λ v. then_value b (λ w. f v w)) ≡ with_both f a b
unfolding with_both
both_values f None b = refl
both_values f (Some v) None = refl
both_values f (Some v) (Some w) = refl

both_fit : (op : Op) (unsigned : Bool) (a b : Option ℕ) (m n k : ℕ) → m ≡ 32 → n ≡ 32 → k ≡ 32 → IfSome a (λ w. w < 2 ^ m) → IfSome b (λ w. w < 2 ^ n) → IfSome (with_both (operate op unsigned) a b) (λ w. w < 2 ^ k)
unfolding with_both
both_fit op unsigned None b m n k m_is n_is k_is few few_b = tt
both_fit op unsigned (Some v) None m n k m_is n_is k_is few few_b = tt
both_fit op unsigned (Some v) (Some w) m n k m_is n_is k_is few few_b =
    subst (λ (i : ℕ). IfSome (operate op unsigned v w) (λ r. r < 2 ^ i)) (sym k_is)
    (operate_below op unsigned v w (subst (λ (i : ℕ). v < 2 ^ i) m_is few) (subst (λ (i : ℕ). w < 2 ^ i) n_is few_b))

binary : (ty : ValueType) (p : Place) (op : Op) (elem : Elem) (l r : Constant) (x y : Box TExpr Global) → ty.elem ≡ elem → ty.shape ≡ None → elem.bits ≡ 32 → l.elem.bits ≡ 32 → r.elem.bits ≡ 32 → IsConstant x.value l → IsConstant y.value r →
    IsConstant (T.Binary ty p op x y) (record { elem = elem; word = with_both (operate op (not l.elem.signed)) l.word r.word })
unfolding is_constant value_of
binary ty p op elem l r x y is scalar wide wide_l wide_r g h = record {
  form = both_true _ _ (both_true _ _ (both_true _ _ (ap is_none scalar) (eq-eqb ty.elem.bits 32 (ap (λ (e : Elem). e.bits) is ∙ wide))) g.form) h.form;
  scalar = scalar;
  elem = is;
  value =
      both_values (operate op (not (type_of x.value).elem.signed)) (value_of x.value) (value_of y.value)
      ∙ (ap (λ (e : Elem). with_both (operate op (not e.signed)) (value_of x.value) (value_of y.value)) g.elem
      ∙ (ap (λ (o : Option ℕ). with_both (operate op (not l.elem.signed)) o (value_of y.value)) g.value ∙ ap (with_both (operate op (not l.elem.signed)) l.word) h.value));
  fits = both_fit op (not l.elem.signed) l.word r.word l.elem.bits r.elem.bits elem.bits wide_l wide_r wide g.fits h.fits;
}

-- of two constants a type is made by their types, and a scalar
both_elems : {a b : TExpr} {k l : Constant} (f : Elem → Elem → Elem) → IsConstant a k → IsConstant b l → f (type_of a).elem (type_of b).elem ≡ f k.elem l.elem
both_elems {b = b} {k = k} f g h = ap (λ (e : Elem). f e (type_of b).elem) g.elem ∙ ap (f k.elem) h.elem

both_scalar : {a b : TExpr} {k l : Constant} → IsConstant a k → IsConstant b l → either (type_of a).shape (type_of b).shape ≡ None
both_scalar {b = b} g h = ap (λ (o : Option ℕ). either o (type_of b).shape) g.scalar ∙ h.scalar

pub operation : {a b : TExpr} {shape : Option ℕ} (p : Place) (op : Op) (k l : Option Constant) (x y : Box TExpr Global) → shape ≡ either (type_of a).shape (type_of b).shape →
    IsFitted a (record { elem = left_elem op (type_of a).elem (type_of b).elem; shape = shape }) x.value → IsFitted b (record { elem = right_elem op (type_of a).elem (type_of b).elem; shape = shape }) y.value →
    IsAsWritten k a → IsAsWritten l b → IsAsWritten (over_two (combined (B.Number op)) k l) (T.Binary (record { elem = result_elem op (type_of a).elem (type_of b).elem; shape = shape }) p op x y)
unfolding over_two over_one combined operated cast_to is_constant
operation p op None l x y is fit_a fit_b g h = left_false _ (is_constant y.value) (right_false _ (is_constant x.value) (fitted_none fit_a g))
operation p op (Some k) None x y is fit_a fit_b g h = right_false _ (is_constant y.value) (fitted_none fit_b h)
operation {a = a} {b = b} {shape = shape} p op (Some k) (Some l) x y is fit_a fit_b g h =
    let none : shape ≡ None = is ∙ both_scalar g h in
    let left = left_elem op k.elem l.elem in
    let right = right_elem op k.elem l.elem in
    let wide_left = left_wide op k.elem l.elem in
    let wide_right = right_wide op k.elem l.elem in
    binary (record { elem = result_elem op (type_of a).elem (type_of b).elem; shape = shape }) p op (result_elem op k.elem l.elem) (cast_to left k) (cast_to right l) x y (both_elems (result_elem op) g h) none (result_wide op k.elem l.elem) wide_left wide_right
    (fitted_constant left (both_elems (left_elem op) g h) none wide_left fit_a g) (fitted_constant right (both_elems (right_elem op) g h) none wide_right fit_b h)

-- ---- `||`, `&&` and `?:`

truth_by : (b : Bool) → from_bool (not b) ≡ (if b then 0 else 1)
truth_by true = refl
truth_by false = refl

truth_word : (word : Option ℕ) → then_value word (λ w. Some (from_bool (nonzero w))) ≡ option_map truth word
unfolding truth
truth_word None = refl
truth_word (Some w) = ap Some (truth_by (w == 0))

truth_small : (b : Bool) → (if b then 0 else 1) < 2 ^ 32
truth_small true = omega arith
truth_small false = omega arith

truth_fits : (word : Option ℕ) → IfSome (option_map truth word) (λ w. w < 2 ^ 32)
unfolding truth
truth_fits None = tt
truth_fits (Some w) = truth_small (w == 0)

either_way : (b : Bool) (x y : Option ℕ) → (if not b then x else y) ≡ (if b then y else x)
either_way true x y = refl
either_way false x y = refl

-- C's choice, in the words of the typed tree and in those of the text
chosen_by : (a first second : Option ℕ) → then_value a (λ v. if nonzero v then first else second) ≡ chosen a first second
unfolding chosen
chosen_by None first second = refl
chosen_by (Some v) first second = either_way (v == 0) first second

chosen_word : (a b first f second s : Option ℕ) → a ≡ b → first ≡ f → second ≡ s → then_value a (λ v. if nonzero v then first else second) ≡ chosen b f s
chosen_word a b first f second s is is_f is_s =
    chosen_by a first second ∙ (ap (λ (o : Option ℕ). chosen o first second) is ∙ (ap (λ (o : Option ℕ). chosen b o second) is_f ∙ ap (chosen b f) is_s))

which_fits : (b : Bool) (f s : Option ℕ) (bits : ℕ) → IfSome f (λ w. w < 2 ^ bits) → IfSome s (λ w. w < 2 ^ bits) → IfSome (if b then s else f) (λ w. w < 2 ^ bits)
which_fits true f s bits few few_s = few_s
which_fits false f s bits few few_s = few

chosen_fits : (left f s : Option ℕ) (bits : ℕ) → IfSome f (λ w. w < 2 ^ bits) → IfSome s (λ w. w < 2 ^ bits) → IfSome (chosen left f s) (λ w. w < 2 ^ bits)
unfolding chosen
chosen_fits None f s bits few few_s = tt
chosen_fits (Some w) f s bits few few_s = which_fits (w == 0) f s bits few few_s

pub logical_or : {b : TExpr} (k l : Option Constant) (x y : Box TExpr Global) → IsSpread b (type_of x.value).shape y.value → IsAsWritten k x.value → IsAsWritten l b →
    IsAsWritten (over_two (combined B.LogicalOr) k l) (T.LogicalOr (record { elem = int; shape = (type_of y.value).shape }) x y)
unfolding over_two over_one combined is_constant value_of
logical_or None l x y spread g h = left_false _ (is_constant y.value) (right_false _ (is_constant x.value) g)
logical_or (Some k) None x y spread g h = right_false _ (is_constant y.value) (spread_none spread h)
logical_or (Some k) (Some l) x y spread g of =
    let h = subst (λ (t : TExpr). IsConstant t l) (spread_scalar spread g.scalar) of in
    record {
      form = both_true _ _ (both_true _ _ (both_true _ _ (ap is_none h.scalar) refl) g.form) h.form;
      scalar = h.scalar;
      elem = refl;
      value = chosen_word (value_of x.value) k.word (Some 1) (Some 1) _ (option_map truth l.word) g.value refl (truth_word (value_of y.value) ∙ ap (option_map truth) h.value);
      fits = chosen_fits k.word (Some 1) (option_map truth l.word) 32 (truth_small false) (truth_fits l.word);
    }

pub logical_and : {b : TExpr} (k l : Option Constant) (x y : Box TExpr Global) → IsSpread b (type_of x.value).shape y.value → IsAsWritten k x.value → IsAsWritten l b →
    IsAsWritten (over_two (combined B.LogicalAnd) k l) (T.LogicalAnd (record { elem = int; shape = (type_of y.value).shape }) x y)
unfolding over_two over_one combined is_constant value_of
logical_and None l x y spread g h = left_false _ (is_constant y.value) (right_false _ (is_constant x.value) g)
logical_and (Some k) None x y spread g h = right_false _ (is_constant y.value) (spread_none spread h)
logical_and (Some k) (Some l) x y spread g of =
    let h = subst (λ (t : TExpr). IsConstant t l) (spread_scalar spread g.scalar) of in
    record {
      form = both_true _ _ (both_true _ _ (both_true _ _ (ap is_none h.scalar) refl) g.form) h.form;
      scalar = h.scalar;
      elem = refl;
      value = chosen_word (value_of x.value) k.word _ (option_map truth l.word) (Some 0) (Some 0) g.value (truth_word (value_of y.value) ∙ ap (option_map truth) h.value) refl;
      fits = chosen_fits k.word (option_map truth l.word) (Some 0) 32 (truth_fits l.word) (truth_small true);
    }

selection : (ty : ValueType) (elem : Elem) (k l m : Constant) (c x y : Box TExpr Global) → ty.elem ≡ elem → ty.shape ≡ None → l.elem ≡ elem → m.elem ≡ elem → IsConstant c.value k → IsConstant x.value l → IsConstant y.value m →
    IsConstant (T.Choice ty c x y) (record { elem = elem; word = chosen k.word l.word m.word })
unfolding is_constant value_of
selection ty elem k l m c x y is scalar l_is m_is f g h = record {
  form = both_true _ _ (both_true _ _ (both_true _ _ (both_true _ _ (both_true _ _ (ap is_none scalar) (same_width x.value (g.elem ∙ l_is))) (same_width y.value (h.elem ∙ m_is))) f.form) g.form) h.form;
  scalar = scalar;
  elem = is;
  value = chosen_word (value_of c.value) k.word (value_of x.value) l.word (value_of y.value) m.word f.value g.value h.value;
  fits = chosen_fits k.word l.word m.word elem.bits (subst (λ (e : Elem). IfSome l.word (λ w. w < 2 ^ e.bits)) l_is g.fits) (subst (λ (e : Elem). IfSome m.word (λ w. w < 2 ^ e.bits)) m_is h.fits);
}
  where
    same_width : (t : TExpr) → (type_of t).elem ≡ elem → (ty.elem.bits == (type_of t).elem.bits) ≡ true
    same_width t has = eq-eqb ty.elem.bits (type_of t).elem.bits (ap (λ (e : Elem). e.bits) (is ∙ sym has))

pub choice : {a b : TExpr} {ty : ValueType} (k l m : Option Constant) (c x y : Box TExpr Global) → ty ≡ record { elem = common (type_of a).elem (type_of b).elem; shape = either (type_of c.value).shape (either (type_of a).shape (type_of b).shape) } →
    IsFitted a ty x.value → IsFitted b ty y.value → IsAsWritten k c.value → IsAsWritten l a → IsAsWritten m b → IsAsWritten (over_three selected k l m) (T.Choice ty c x y)
unfolding over_three over_two over_one selected cast_to is_constant
choice None l m c x y is fit_a fit_b f g h = left_false _ (is_constant y.value) (left_false _ (is_constant x.value) (right_false _ (is_constant c.value) f))
choice (Some k) None m c x y is fit_a fit_b f g h = left_false _ (is_constant y.value) (right_false _ (is_constant x.value) (fitted_none fit_a g))
choice (Some k) (Some l) None c x y is fit_a fit_b f g h = right_false _ (is_constant y.value) (fitted_none fit_b h)
choice {a = a} {b = b} {ty = ty} (Some k) (Some l) (Some m) c x y is fit_a fit_b f g h =
    let elem = common l.elem m.elem in
    let elem_is : ty.elem ≡ elem = ap (λ (v : ValueType). v.elem) is ∙ both_elems common g h in
    let of_parts : either (type_of c.value).shape (either (type_of a).shape (type_of b).shape) ≡ None = ap (λ (o : Option ℕ). either o (either (type_of a).shape (type_of b).shape)) f.scalar ∙ both_scalar g h in
    let none : ty.shape ≡ None = ap (λ (v : ValueType). v.shape) is ∙ of_parts in
    let wide = common_wide l.elem m.elem in
    selection ty elem k (cast_to elem l) (cast_to elem m) c x y elem_is none refl refl f (fitted_constant elem elem_is none wide fit_a g) (fitted_constant elem elem_is none wide fit_b h)
