-- The types of fewer than 32 bits that are known of expressions, and what words they have.
use Rattle.std.proofs.Common.{◌≡◌, ◌∙◌, ℕ, ◌<◌, ◌^◌, ◌==◌, Bool, true, false, Option, Some, None, refl, sym, ap, subst, arith, if◌then◌else◌}
use Rattle.std.proofs.lemmas.Bool.{eqb-true}
use Rattle.std.proofs.lemmas.Bool.Decides.{nat_tests}
use Rattle.std.proofs.lemmas.Option.{none-some}
use Rattle.std.specs.Int.{from_bool}
use Rattle.constant_trees.proofs.Words.{converted_below, from_bool_below}
use Rattle.cstar_base.specs.declared.elem.Elem.{Elem}
use Rattle.cstar_base.specs.declared.operators.Op.{Op}
use Rattle.cstar_base.specs.declared.operators.Op.TheVariants as P
use Rattle.cstar_base.specs.Numbers.{converted}
use Rattle.cstar_base.proofs.NumberLaws.{kind_bits}
use Rattle.cstar_tree.specs.declared.typed.TExpr.{TExpr}
use Rattle.cstar_tree.specs.declared.typed.TExpr as T
use Rattle.cstar_tree.specs.declared.typed.UnaryOp.{UnaryOp}
use Rattle.cstar_tree.specs.declared.typed.UnaryOp.TheVariants as U
use Rattle.lower_base.specs.Kinds.{binary_kind, common_kind, converted_kind, has_all, is_bitwise, kind_of, narrow, truth_type}
use Rattle.lower_base.specs.Operators.{negates, relates}
use Rattle.lower_expr.specs.Kinds.{has_number}
use Rattle.short_values.proofs.NarrowTypes.{wider_has}
use Rattle.source_meaning.specs.Reductions.{int_type}
use Rattle.source_meaning.specs.Values.{unary_of}
use Rattle.code_follows.proofs.Following.{held}
use Rattle.code_follows.proofs.Numbers.{word_converted}
use Rattle.code_follows.proofs.Standing.{some_same}
use Rattle.code_follows.proofs.Words.{held_wide}
use Rattle.fields_follow.proofs.Lengths.{held_has}
use Rattle.fields_follow.proofs.TruthValues.{bit_converted}

-- a narrow type is the type itself, which has fewer than 32 bits
narrow_is : (elem kind : Elem) → narrow elem ≡ Some kind → (elem ≡ kind) × (elem.bits < 32)
unfolding narrow
narrow_is elem kind is = by (elem.bits == 32) refl is
  where
    by : (b : Bool) → (elem.bits == 32) ≡ b → (if elem.bits == 32 then None else Some elem) ≡ Some kind → (elem ≡ kind) × (elem.bits < 32)
    by true e h = let none = ap (λ (b : Bool). if b then None else Some elem) (sym e) ∙ h in cc
    by false e h = (
      some_same elem kind (ap (λ (b : Bool). if b then None else Some elem) (sym e) ∙ h),
      (let most = (kind_bits elem.bits elem.signed elem.kind).1 in let other : elem.bits ≡ 32 → ⊥ = λ same. (let equal = ap (λ (n : ℕ). n == 32) same in cc) in grind (arith, nat_tests, most, e)),
    )

-- a type has a word, and fewer bits than one
abbrev pub HasWord : Elem → ℕ → Type 0
HasWord kind word = (has_number kind word ≡ true) × (kind.bits < 32)

pub narrow_has : (elem kind : Elem) (x : ℕ) → x < 2 ^ elem.bits → narrow elem ≡ Some kind → HasWord kind (held elem x)
narrow_has elem kind x few is = let h = narrow_is elem kind is in subst (λ (k : Elem). HasWord k (held elem x)) h.0 (held_has elem x few, h.1)

-- a type that has all numbers of another one is converted to without a change of the word
converted_has : (elem from kind : Elem) (x : ℕ) → x < 2 ^ from.bits → has_all elem kind ≡ true → has_number kind (held from x) ≡ true → held elem (converted elem from x) ≡ held from x
unfolding has_number
converted_has elem from kind x few all has =
    ap (held elem) (sym (word_converted elem from x few)) ∙ eqb-true (converted int_type elem (converted elem int_type (held from x))) (held from x) (wider_has elem kind (held from x) all has)

-- the type of what is converted is that of the value, or the type itself
converted_is : (Q : Elem → Type 0) (elem : Elem) (o : Option Elem) (kind : Elem) → converted_kind elem o ≡ Some kind → (narrow elem ≡ Some kind → Q kind) → ((k : Elem) → o ≡ Some k → has_all elem k ≡ true → Q k) → Q kind
unfolding converted_kind
converted_is Q elem None kind is own other = own is
converted_is Q elem (Some k) kind is own other = by (has_all elem k) refl
  where
    by : (b : Bool) → has_all elem k ≡ b → Q kind
    by true all = subst Q (some_same k kind (ap (λ (b : Bool). if b then Some k else narrow elem) (sym all) ∙ is)) (other k refl all)
    by false few = own (ap (λ (b : Bool). if b then Some k else narrow elem) (sym few) ∙ is)

pub convert_has : (elem from : Elem) (o : Option Elem) (x : ℕ) → x < 2 ^ from.bits → ((k : Elem) → o ≡ Some k → HasWord k (held from x)) → (kind : Elem) → converted_kind elem o ≡ Some kind → HasWord kind (held elem (converted elem from x))
convert_has elem from o x few has kind is =
    converted_is (λ (k : Elem). HasWord k (held elem (converted elem from x))) elem o kind is (λ own. narrow_has elem kind _ (converted_below elem from x) own)
    (λ k is_k all. subst (λ (w : ℕ). HasWord k w) (sym (converted_has elem from k x few all (has k is_k).0)) (has k is_k))

-- the common type of two is one of them, which has all numbers of the other
common_is : (Q : Elem → Type 0) (a b : Option Elem) (kind : Elem) → common_kind a b ≡ Some kind → ((k l : Elem) → a ≡ Some k → b ≡ Some l → has_all k l ≡ true → Q k) → ((k l : Elem) → a ≡ Some k → b ≡ Some l → has_all l k ≡ true → Q l) → Q kind
unfolding common_kind
common_is Q None b kind is one other = cc
common_is Q (Some a) None kind is one other = cc
common_is Q (Some a) (Some b) kind is one other = by (has_all a b) (has_all b a) refl refl
  where
    by : (x y : Bool) → has_all a b ≡ x → has_all b a ≡ y → Q kind
    by true y first second = subst Q (some_same a kind (ap (λ (t : Bool). if t then Some a else if has_all b a then Some b else None) (sym first) ∙ is)) (one a b refl refl first)
    by false true first second = subst Q (some_same b kind (ap (λ (t : Bool). if t then Some b else None) (sym second) ∙ ap (λ (t : Bool). if t then Some a else if has_all b a then Some b else None) (sym first) ∙ is)) (other a b refl refl second)
    by false false first second = let wrong = ap (λ (t : Bool). if t then Some b else None) (sym second) ∙ ap (λ (t : Bool). if t then Some a else if has_all b a then Some b else None) (sym first) ∙ is in cc

-- it has the words of each
pub first_has : (a b : Option Elem) (kind : Elem) (v : ℕ) → common_kind a b ≡ Some kind → ((k : Elem) → a ≡ Some k → HasWord k v) → ((k : Elem) → b ≡ Some k → k.bits < 32) → HasWord kind v
first_has a b kind v is one few = common_is (λ (k : Elem). HasWord k v) a b kind is (λ k l is_k is_l all. one k is_k) (λ k l is_k is_l all. (wider_has l k v all (one k is_k).0, few l is_l))

pub second_has : (a b : Option Elem) (kind : Elem) (w : ℕ) → common_kind a b ≡ Some kind → ((k : Elem) → a ≡ Some k → k.bits < 32) → ((k : Elem) → b ≡ Some k → HasWord k w) → HasWord kind w
second_has a b kind w is few other = common_is (λ (k : Elem). HasWord k w) a b kind is (λ k l is_k is_l all. (wider_has k l w all (other l is_l).0, few k is_k)) (λ k l is_k is_l all. other l is_l)

pub common_has : (a b : Option Elem) (kind : Elem) (v w : ℕ) → common_kind a b ≡ Some kind → ((k : Elem) → a ≡ Some k → HasWord k v) → ((k : Elem) → b ≡ Some k → HasWord k w) → HasWord kind v × HasWord kind w
common_has a b kind v w is one other = (first_has a b kind v is one (λ k is_k. (other k is_k).1), second_has a b kind w is (λ k is_k. (one k is_k).1) other)

-- and that of two values that are joined
pub joined_kind : (op : Op) (a b : Option Elem) (kind : Elem) → relates op ≡ false → is_bitwise op ≡ true → binary_kind op a b ≡ Some kind → common_kind a b ≡ Some kind
unfolding binary_kind
joined_kind op a b kind plain bitwise is =
    sym (ap (λ (t : Bool). if t then Some truth_type else if is_bitwise op then common_kind a b else None) plain ∙ ap (λ (t : Bool). if t then common_kind a b else None) bitwise) ∙ is

-- an operator that joins values bit by bit is no relation
pub bitwise_plain : (op : Op) → is_bitwise op ≡ true → relates op ≡ false
unfolding is_bitwise relates
bitwise_plain P.And e = refl
bitwise_plain P.Or e = refl
bitwise_plain P.Xor e = refl
bitwise_plain _ e = cc

-- the type of truth values has them
bit_has : (b : Bool) → has_number truth_type (from_bool b) ≡ true
unfolding has_number
bit_has b = ap (λ (w : ℕ). converted int_type truth_type w == from_bool b) (bit_converted truth_type int_type b) ∙ ap (λ (w : ℕ). w == from_bool b) (bit_converted int_type truth_type b) ∙ same b
  where
    same : (b : Bool) → (from_bool b == from_bool b) ≡ true
    same true = refl
    same false = refl

pub truth_has : (elem kind : Elem) (w : ℕ) (b : Bool) → w ≡ from_bool b → elem.bits ≡ 32 → Some truth_type ≡ Some kind → HasWord kind (held elem w)
truth_has elem kind w b is wide same =
    subst (λ (k : Elem). HasWord k (held elem w)) (some_same truth_type kind same)
    (subst (λ (x : ℕ). has_number truth_type x ≡ true) (sym (held_wide elem w wide (subst (λ (x : ℕ). x < 2 ^ 32) (sym is) (from_bool_below b)) ∙ is)) (bit_has b), omega arith)

truth_narrow : (kind : Elem) → Some truth_type ≡ Some kind → kind.bits < 32
truth_narrow kind same = subst (λ (k : Elem). k.bits < 32) (some_same truth_type kind same) (omega arith)

pub not_bit : (op : UnaryOp) (x : ℕ) → negates op ≡ true → unary_of op x ≡ from_bool (x == 0)
unfolding negates unary_of
not_bit U.Not x e = refl
not_bit U.Plus x e = cc
not_bit U.Minus x e = cc
not_bit U.Complement x e = cc

-- a kind that is known has fewer than 32 bits
narrow_few : (elem kind : Elem) → narrow elem ≡ Some kind → kind.bits < 32
narrow_few elem kind is = let h = narrow_is elem kind is in subst (λ (k : Elem). k.bits < 32) h.0 h.1

pub kind_few : (e : TExpr) (kind : Elem) → kind_of e ≡ Some kind → kind.bits < 32
unfolding kind_of binary_kind
kind_few (T.Brackets' ty p inner) kind is = kind_few inner kind is
kind_few (T.Promote' ty p operand) kind is = kind_few operand kind is
kind_few (T.Convert' ty p operand) kind is = converted_is (λ (k : Elem). k.bits < 32) ty.elem (kind_of operand) kind is (λ own. narrow_few ty.elem kind own) (λ k is_k all. kind_few operand k is_k)
kind_few (T.ParallelCast' ty p operand) kind is = converted_is (λ (k : Elem). k.bits < 32) ty.elem (kind_of operand) kind is (λ own. narrow_few ty.elem kind own) (λ k is_k all. kind_few operand k is_k)
kind_few (T.Choice' ty p test q first r second) kind is = common_is (λ (k : Elem). k.bits < 32) (kind_of first) (kind_of second) kind is (λ k l is_k is_l all. kind_few first k is_k) (λ k l is_k is_l all. kind_few second l is_l)
kind_few (T.LogicalOr' ty p left q right) kind is = truth_narrow kind is
kind_few (T.LogicalAnd' ty p left q right) kind is = truth_narrow kind is
kind_few (T.Binary' ty place op p left q right) kind is = by (relates op) (is_bitwise op) refl refl (λ k is_k. kind_few left k is_k) (λ k is_k. kind_few right k is_k)
  where
    by : (a b : Bool) → relates op ≡ a → is_bitwise op ≡ b → ((k : Elem) → kind_of left ≡ Some k → k.bits < 32) → ((k : Elem) → kind_of right ≡ Some k → k.bits < 32) → kind.bits < 32
    by true b related bitwise one other = truth_narrow kind (sym (ap (λ (t : Bool). if t then Some truth_type else if is_bitwise op then common_kind (kind_of left) (kind_of right) else None) related) ∙ is)
    by false true plain bitwise one other =
        common_is (λ (k : Elem). k.bits < 32) (kind_of left) (kind_of right) kind (joined_kind op (kind_of left) (kind_of right) kind plain bitwise is) (λ k l is_k is_l all. one k is_k) (λ k l is_k is_l all. other l is_l)
    by false false plain bitwise one other =
        absurd (none-some kind (sym (ap (λ (t : Bool). if t then Some truth_type else if is_bitwise op then common_kind (kind_of left) (kind_of right) else None) plain ∙ ap (λ (t : Bool). if t then common_kind (kind_of left) (kind_of right) else None) bitwise) ∙ is))
kind_few (T.Unary' ty op p operand) kind is = by (negates op) refl
  where
    by : (b : Bool) → negates op ≡ b → kind.bits < 32
    by true e = truth_narrow kind (sym (ap (λ (t : Bool). if t then Some truth_type else None) e) ∙ is)
    by false e = absurd (none-some kind (sym (ap (λ (t : Bool). if t then Some truth_type else None) e) ∙ is))
kind_few (T.Variable ty x) kind is = narrow_few ty.elem kind is
kind_few (T.Element' ty place array p index) kind is = narrow_few ty.elem kind is
kind_few (T.LeftIndex' ty place p indexes x of) kind is = narrow_few ty.elem kind is
kind_few _ kind is = absurd (none-some kind is)
