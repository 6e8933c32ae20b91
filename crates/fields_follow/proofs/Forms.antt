-- What the lowering sees of pure parallel expressions: their types, where they stand, and which have a word.
use Rattle.std.proofs.Common.{◌≡◌, ◌∙◌, ℕ, ◌+◌, ◌<◌, ◌≤◌, ◌^◌, ◌%◌, Bool, true, false, not, ◌&&◌, ◌||◌, ◌==◌, slice_get, Option, Some, None, refl, sym, ap, subst, inl, inr, if◌then◌else◌, ◌⊎◌, arith}
use Rattle.std.specs.Prelude.{is_none, nat_le}
use Rattle.std.proofs.lemmas.Bool.Decides.{nat_tests}
use Rattle.cstar_base.specs.Numbers.{converted}
use Rattle.cstar_tree.specs.declared.typed.Instance.{Instance}
use Rattle.cstar_tree.specs.declared.typed.TExpr.{TExpr}
use Rattle.cstar_tree.specs.declared.typed.TExpr as T
use Rattle.cstar_tree.specs.declared.typed.Typed.{Typed}
use Rattle.cstar_tree.specs.declared.typed.ValueType.{ValueType}
use Rattle.cstar_tree.specs.declared.typed.VarInfo.{VarInfo}
use Rattle.cstar_tree.specs.declared.typed.Variable.TheVariants as V
use Rattle.cstar_tree.specs.StatementTypes.{variable_info}
use Rattle.cstar_tree.specs.Typed.{type_of}
use Rattle.code_lengths.specs.Naming.{HasVariable, NamesVariables, plain, variable_named}
use Rattle.lower_base.specs.Constants.{constant_register}
use Rattle.lower_base.specs.Kinds.{bits_of, converted_kind, has_all, kind_of, narrow}
use Rattle.lower_base.specs.Drafts.{Draft, an_entry, from}
use Rattle.lower_base.specs.Layouts.{Layout, entered, entries_of, field_of, layout_of}
use Rattle.lower_expr.specs.declared.operands.Own.{Own}
use Rattle.lower_expr.specs.Operands.{held, own_of}
use Rattle.lower_expr.specs.Steps.{is_kept, register_word, word_of, has_truth}
use Rattle.paris_code.specs.declared.program.Owner.TheVariants as W
use Rattle.source_meaning.specs.Constants.{constant_of, is_constant, then_value}
use Rattle.source_meaning.specs.Reductions.{int_type}
use Rattle.source_meaning.specs.Expressions.{evaluated, mapped}
use Rattle.source_meaning.specs.State.{Gives, Outcome, State, then_do}
use Rattle.source_meaning.specs.Values.{Active, Parallel, Scalar, Scope, Value, at, convert_to, each}
use Rattle.code_follows.specs.Fragment.{NamesAmong}
use Rattle.code_follows.proofs.Settings.{Setting, layout}
use Rattle.code_follows.proofs.Standing.{some_same}
use Rattle.std.proofs.lemmas.Bool.{eqb-true}
use Rattle.code_follows.proofs.Following.{held as word_of_type}
use Rattle.code_follows.proofs.Numbers.{held_zero}
use Rattle.fields_follow.proofs.Totals.{held_below}
use Rattle.fields_follow.specs.Fragment.{IsCalm, IsConstant, IsDivisor, IsOfFileOrBlock, IsPromoted, IsPure, IsRegistered}
use Rattle.fields_follow.specs.Fields.{IsElement, file_number}
use Rattle.fields_follow.proofs.FileFields.{first_there}
use Rattle.fields_follow.proofs.Meaning.{Extents, as_shaped, computed_in, constant_means, mapped_is, no_constant, read_is, scalar_in, value_in, word_at}
use Rattle.fields_follow.proofs.Lengths.{converted_first}
use Rattle.lower_expr.specs.Kinds.{is_unchanged}
use Rattle.cstar_base.specs.declared.elem.Elem.{Elem}
use Rattle.code_lengths.specs.Ready.{HasCode}
use Rattle.cstar_tree.specs.declared.typed.Variable.{Variable}

-- they have a shape
pub pure_shape : (set : ℕ) (e : TExpr) → IsPure set e → (type_of e).shape ≡ Some set
unfolding IsPure
pure_shape set (T.Variable ty (V.File k)) is = is
pure_shape set (T.Variable ty (V.Local k)) is = is
pure_shape set (T.Brackets' ty p inner) is = ap (λ (y : ValueType). y.shape) is.0 ∙ pure_shape set inner is.1
pure_shape set (T.Unary' ty op p operand) is = is.0.0
pure_shape set (T.LogicalOr' ty p left q right) is = is.0.0
pure_shape set (T.LogicalAnd' ty p left q right) is = is.0.0
pure_shape set (T.Binary' ty place op p left q right) is = is.0.0
pure_shape set (T.Choice' ty p test q first r second) is = is.0.0
pure_shape set (T.Convert' ty p operand) is = is.0
pure_shape set (T.ParallelCast' ty p operand) is = is.0
pure_shape set (T.Pcoord ty axis) is = is.0
pure_shape set (T.Dot ty axis) is = is.0
pure_shape set (T.LeftIndex' ty place p indexes x of) is = is.0
pure_shape set _ is = absurd is

pub promoted_shape : (set : ℕ) (e : TExpr) → IsPromoted set e → (type_of e).shape ≡ Some set
unfolding IsPromoted
promoted_shape set (T.Promote' ty p operand) is = is.0
promoted_shape set (T.Brackets' ty p inner) is = ap (λ (y : ValueType). y.shape) is.0 ∙ promoted_shape set inner is.1
promoted_shape set _ is = absurd is

-- code leaves one that is no constant in a register, and no value that is not promoted
pub computed_registered : (set : ℕ) (e : TExpr) → IsPromoted set e → word_of e ≡ None → IsRegistered e
unfolding IsPromoted IsRegistered word_of register_word
computed_registered set (T.Promote' ty p operand) is none = by is.2.1
  where
    by : IsConstant operand ⊎ ((constant_of operand ≡ None) × IsCalm operand) → IsCalm operand
    by (inl constant) = let wrong = sym none ∙ ap (λ (o : Option ℕ). then_value o (λ v. Some (converted int_type (type_of operand).elem v))) constant.1 in cc
    by (inr (_, calm)) = calm
computed_registered set (T.Brackets' ty p inner) is none = computed_registered set inner is.1 none
computed_registered set _ is none = absurd is

pub pure_unregistered : (set : ℕ) (e : TExpr) → IsPure set e → IsRegistered e → ⊥
unfolding IsPure IsRegistered
pure_unregistered set (T.Promote' ty p operand) is so = is
pure_unregistered set (T.Brackets' ty p inner) is so = pure_unregistered set inner is.1 so
pure_unregistered set _ is so = so

-- no test flag tells whether it is zero
pub promoted_truth : (set : ℕ) (e : TExpr) → IsPromoted set e → has_truth e ≡ false
unfolding IsPromoted has_truth
promoted_truth set (T.Promote' ty p operand) is = refl
promoted_truth set (T.Brackets' ty p inner) is = promoted_truth set inner is.1
promoted_truth set _ is = absurd is

pub operand_shape : (set : ℕ) (e : TExpr) → IsPure set e ⊎ IsPromoted set e → (type_of e).shape ≡ Some set
operand_shape set e (inl pure) = pure_shape set e pure
operand_shape set e (inr promoted) = promoted_shape set e promoted

-- An expression has code, and the variables that it names are alive.
pub record HasItsCode (t : Typed) (i : Instance) (alive : Variable → Type 0) (n : ℕ) (e : TExpr) : Type 0 where
  pub code : HasCode t i n e
  pub among : NamesAmong alive e

shaped : (o : Option ℕ) (set : ℕ) → o ≡ Some set → is_none o ≡ false
shaped o set is = ap is_none is

-- the value of one that is promoted stands in a register
pub pure_kept : (set : ℕ) (e : TExpr) → IsPure set e → is_kept e ≡ false
unfolding IsPure is_kept
pure_kept set (T.Variable ty (V.File k)) is = shaped ty.shape set is
pure_kept set (T.Variable ty (V.Local k)) is = shaped ty.shape set is
pure_kept set (T.Brackets' ty p inner) is = pure_kept set inner is.1
pure_kept set (T.Unary' ty op p operand) is = shaped ty.shape set is.0.0
pure_kept set (T.LogicalOr' ty p left q right) is = shaped ty.shape set is.0.0
pure_kept set (T.LogicalAnd' ty p left q right) is = shaped ty.shape set is.0.0
pure_kept set (T.Binary' ty place op p left q right) is = shaped ty.shape set is.0.0
pure_kept set (T.Choice' ty p test q first r second) is = shaped ty.shape set is.0.0
pure_kept set (T.Convert' ty p operand) is = pure_kept set operand is.2
pure_kept set (T.ParallelCast' ty p operand) is = shaped ty.shape set is.0
pure_kept set (T.Pcoord ty axis) is = shaped ty.shape set is.0
pure_kept set (T.Dot ty axis) is = shaped ty.shape set is.0
pure_kept set (T.LeftIndex' ty place p indexes x of) is = shaped ty.shape set is.0
pure_kept set _ is = absurd is

pub promoted_kept : (set : ℕ) (e : TExpr) → IsPromoted set e → is_kept e ≡ true
unfolding IsPromoted is_kept
promoted_kept set (T.Promote' ty p operand) is = refl
promoted_kept set (T.Brackets' ty p inner) is = promoted_kept set inner is.1
promoted_kept set _ is = absurd is

-- none of them is a constant
pub pure_constant : (set : ℕ) (e : TExpr) → IsPure set e → is_constant e ≡ false
unfolding IsPure is_constant
pure_constant set (T.Variable ty (V.File k)) is = refl
pure_constant set (T.Variable ty (V.Local k)) is = refl
pure_constant set (T.Brackets' ty p inner) is = ap (λ (b : Bool). b && ty.elem.bits == (type_of inner).elem.bits && is_constant inner) (ap (λ (y : ValueType). is_none y.shape) is.0 ∙ shaped (type_of inner).shape set (pure_shape set inner is.1))
pure_constant set (T.Unary' ty op p operand) is = ap (λ (b : Bool). b && ty.elem.bits == 32 && is_constant operand) (shaped ty.shape set is.0.0)
pure_constant set (T.LogicalOr' ty p left q right) is = ap (λ (b : Bool). b && ty.elem.bits == 32 && is_constant left && is_constant right) (shaped ty.shape set is.0.0)
pure_constant set (T.LogicalAnd' ty p left q right) is = ap (λ (b : Bool). b && ty.elem.bits == 32 && is_constant left && is_constant right) (shaped ty.shape set is.0.0)
pure_constant set (T.Binary' ty place op p left q right) is = ap (λ (b : Bool). b && ty.elem.bits == 32 && is_constant left && is_constant right) (shaped ty.shape set is.0.0)
pure_constant set (T.Choice' ty p test q first r second) is =
    ap (λ (b : Bool). b && ty.elem.bits == (type_of first).elem.bits && ty.elem.bits == (type_of second).elem.bits && is_constant test && is_constant first && is_constant second) (shaped ty.shape set is.0.0)
pure_constant set (T.Convert' ty p operand) is = ap (λ (b : Bool). b && is_constant operand) (shaped ty.shape set is.0)
pure_constant set (T.ParallelCast' ty p operand) is = refl
pure_constant set (T.Pcoord ty axis) is = refl
pure_constant set (T.Dot ty axis) is = refl
pure_constant set (T.LeftIndex' ty place p indexes x of) is = refl
pure_constant set _ is = absurd is

promoted_constant : (set : ℕ) (e : TExpr) → IsPromoted set e → is_constant e ≡ false
unfolding IsPromoted is_constant
promoted_constant set (T.Promote' ty p operand) is = refl
promoted_constant set (T.Brackets' ty p inner) is = ap (λ (b : Bool). b && ty.elem.bits == (type_of inner).elem.bits && is_constant inner) (ap (λ (y : ValueType). is_none y.shape) is.0 ∙ shaped (type_of inner).shape set (promoted_shape set inner is.1))
promoted_constant set _ is = absurd is

pub not_held : (l : Layout) (e : TExpr) → is_constant e ≡ false → held l e ≡ None
unfolding held register_word
not_held l e is = ap (λ (o : Option ℕ). then_value (then_value o (λ v. Some (converted int_type (type_of e).elem v))) (constant_register l)) (no_constant e is)

pub pure_not_held : (set : ℕ) (l : Layout) (e : TExpr) → IsPure set e → held l e ≡ None
pure_not_held set l e is = not_held l e (pure_constant set e is)

pub promoted_not_held : (set : ℕ) (l : Layout) (e : TExpr) → IsPromoted set e → held l e ≡ None
promoted_not_held set l e is = not_held l e (promoted_constant set e is)

-- one that is not promoted has no word
pub pure_word : (set : ℕ) (e : TExpr) → IsPure set e → word_of e ≡ None
unfolding IsPure word_of
pure_word set (T.Variable ty (V.File k)) is = refl
pure_word set (T.Variable ty (V.Local k)) is = refl
pure_word set (T.Brackets' ty p inner) is = pure_word set inner is.1
pure_word set (T.Unary' ty op p operand) is = refl
pure_word set (T.LogicalOr' ty p left q right) is = refl
pure_word set (T.LogicalAnd' ty p left q right) is = refl
pure_word set (T.Binary' ty place op p left q right) is = refl
pure_word set (T.Choice' ty p test q first r second) is = refl
pure_word set (T.Convert' ty p operand) is = refl
pure_word set (T.ParallelCast' ty p operand) is = refl
pure_word set (T.Pcoord ty axis) is = refl
pure_word set (T.Dot ty axis) is = refl
pure_word set (T.LeftIndex' ty place p indexes x of) is = refl
pure_word set _ is = absurd is

-- the variable in whose field so many bits of the value stand, which never fails
pub record StandsInVariable (t : Typed) (i : Instance) (alive : Variable → Type 0) (bits set : ℕ) (e : TExpr) : Type 0 where
  pub x : Variable
  pub info : VarInfo
  pub own : own_of bits e ≡ Some (record { shape = Some set; variable = x })
  pub read : IsOfFileOrBlock x
  pub living : alive x
  pub known : variable_named t i x ≡ Some info
  pub parallel : info.shape ≡ Some set
  pub one : info.array ≡ None
  pub fits : bits ≤ info.elem.bits
  pub value : (extents : Extents) (st : State) (q : ℕ) → word_at extents st e q % 2 ^ bits ≡ word_of_type info.elem (st.parallel x 0 q) % 2 ^ bits
  pub flag : bits_of (kind_of e) ≡ 1 → info.elem.bits ≡ 1
  pub means : (scope : Scope) (active : Active) (extents : Extents) (st : State) → evaluated scope e active st ≡ Gives (Parallel (λ q. value_in extents st e q)) st

-- a parallel variable of the file, which is no array, is an element
pub whole_element : (t : Typed) (i : Instance) (k set : ℕ) (info : VarInfo) → variable_named t i (V.File k) ≡ Some info → info.shape ≡ Some set → info.array ≡ None → IsElement t k info set 0
unfolding variable_named entries_of
whole_element t i k set info known shaped one = record {
  known = known;
  parallel = shaped;
  within = subst (λ (o : Option ℕ). 0 < (elim o [ None ↦ 0 | Some s ↦ elim info.array [ None ↦ 1 | Some n ↦ n ] ])) (sym shaped) (subst (λ (o : Option ℕ). 0 < (elim o [ None ↦ 1 | Some n ↦ n ])) (sym one) (omega arith));
}

pub either_some : (a b : Bool) (own : Own) → b ≡ true → (if a || b then Some own else None) ≡ Some own
either_some true b own e = refl
either_some false true own e = refl
either_some false false own e = cc

-- a type of one bit, as it is known, and a conversion to a type of more that is known to have one
flag_elem : (elem : Elem) → bits_of (narrow elem) ≡ 1 → elem.bits ≡ 1
unfolding bits_of narrow
flag_elem elem one = by (elem.bits == 32) refl
  where
    by : (b : Bool) → (elem.bits == 32) ≡ b → elem.bits ≡ 1
    by true wide = let wrong = sym (ap (λ (b : Bool). bits_of (if b then None else Some elem)) wide) ∙ one in omega (arith, wrong)
    by false small = sym (ap (λ (b : Bool). bits_of (if b then None else Some elem)) small) ∙ one

pub flag_converted : (elem : Elem) (k : Option Elem) → (elem.bits == 1) ≡ false → bits_of (converted_kind elem k) ≡ 1 → bits_of k ≡ 1
unfolding converted_kind
flag_converted elem None no_truth one = let wrong = flag_elem elem one in absurd (grind (arith, nat_tests, wrong, no_truth))
flag_converted elem (Some kind) no_truth one = by (has_all elem kind) refl
  where
    by : (b : Bool) → has_all elem kind ≡ b → bits_of (Some kind) ≡ 1
    by true all = sym (ap (λ (b : Bool). bits_of (if b then Some kind else narrow elem)) all) ∙ one
    by false less = let wrong = flag_elem elem (sym (ap (λ (b : Bool). bits_of (if b then Some kind else narrow elem)) less) ∙ one) in absurd (grind (arith, nat_tests, wrong, no_truth))

-- a variable of enough bits
variable_own : (t : Typed) (i : Instance) (alive : Variable → Type 0) (n bits set : ℕ) (ty : ValueType) (x : Variable) → IsOfFileOrBlock x → alive x → ty.shape ≡ Some set → HasVariable t i n x (plain ty) → StandsInVariable t i alive bits set (T.Variable ty x) ⊎ (own_of bits (T.Variable ty x) ≡ None)
unfolding own_of value_in evaluated kind_of
variable_own t i alive n bits set ty x read living is v = by (nat_le bits ty.elem.bits) refl
  where
    own : Own
    own = record { shape = ty.shape; variable = x }

    by : (b : Bool) → nat_le bits ty.elem.bits ≡ b → StandsInVariable t i alive bits set (T.Variable ty x) ⊎ ((if is_none ty.shape || nat_le bits ty.elem.bits then Some own else None) ≡ None)
    by true enough = inl (record {
      x = x;
      info = variable_info v.word (plain ty) v.start;
      own = either_some (is_none ty.shape) (nat_le bits ty.elem.bits) own enough ∙ ap (λ (o : Option ℕ). Some (record { shape = o; variable = x })) is;
      read = read;
      living = living;
      known = v.named;
      parallel = is;
      one = refl;
      fits = grind (arith, nat_tests, enough);
      value = λ extents st q. refl;
      flag = λ one. flag_elem ty.elem one;
      means = λ scope active extents st. ap (λ (v : Value). Gives v st) (read_is scope active ty set x st is);
    })
    by false less = inr (ap (λ (b : Bool). if b || nat_le bits ty.elem.bits then Some own else None) (shaped ty.shape set is) ∙ ap (λ (b : Bool). if b then Some own else None) less)

pub pure_own : (t : Typed) (i : Instance) (alive : Variable → Type 0) (n bits set : ℕ) (e : TExpr) → IsPure set e → NamesVariables t i n e → NamesAmong alive e → StandsInVariable t i alive bits set e ⊎ (own_of bits e ≡ None)
unfolding IsPure own_of NamesVariables NamesAmong value_in is_unchanged evaluated then_do convert_to each at kind_of IsOfFileOrBlock
pure_own t i alive n bits set (T.Variable ty (V.File k)) is v among = variable_own t i alive n bits set ty (V.File k) tt among is v
pure_own t i alive n bits set (T.Variable ty (V.Local k)) is v among = variable_own t i alive n bits set ty (V.Local k) tt among is v
pure_own t i alive n bits set (T.Brackets' ty p inner) is v among = by (pure_own t i alive n bits set inner is.1 v among)
  where
    by : StandsInVariable t i alive bits set inner ⊎ (own_of bits inner ≡ None) → StandsInVariable t i alive bits set (T.Brackets' ty p inner) ⊎ (own_of bits inner ≡ None)
    by (inl h) = inl (record { x = h.x; info = h.info; own = h.own; read = h.read; living = h.living; known = h.known; parallel = h.parallel; one = h.one; fits = h.fits; value = λ extents st q. ap (λ (y : ValueType). word_of_type y.elem (value_in extents st inner q) % 2 ^ bits) is.0 ∙ h.value extents st q; flag = h.flag; means = h.means })
    by (inr h) = inr h
pure_own t i alive n bits set (T.Unary' ty op p operand) is v among = inr refl
pure_own t i alive n bits set (T.LogicalOr' ty p left q right) is v among = inr refl
pure_own t i alive n bits set (T.LogicalAnd' ty p left q right) is v among = inr refl
pure_own t i alive n bits set (T.Binary' ty place op p left q right) is v among = inr refl
pure_own t i alive n bits set (T.Choice' ty p test q first r second) is v among = inr refl
pure_own t i alive n bits set (T.Convert' ty p operand) is v among = by (is_unchanged bits ty.elem (is_kept operand)) refl (pure_own t i alive n bits set operand is.2 v among)
  where
    unchanged : is_unchanged bits ty.elem (is_kept operand) ≡ true → (bits ≤ ty.elem.bits) × ((ty.elem.bits == 1) ≡ false)
    unchanged e =
        let both : (nat_le bits ty.elem.bits && not (ty.elem.bits == 1)) ≡ true = ap (λ (b : Bool). if b then ty.elem.bits == 32 else nat_le bits ty.elem.bits && not (ty.elem.bits == 1)) (sym (pure_kept set operand is.2)) ∙ e in
        (grind (arith, nat_tests, both), grind (arith, nat_tests, both))

    by : (b : Bool) → is_unchanged bits ty.elem (is_kept operand) ≡ b → StandsInVariable t i alive bits set operand ⊎ (own_of bits operand ≡ None) → StandsInVariable t i alive bits set (T.Convert' ty p operand) ⊎ ((if is_unchanged bits ty.elem (is_kept operand) then own_of bits operand else None) ≡ None)
    by true e (inl h) =
        let so = unchanged e in
        inl (record {
          x = h.x;
          info = h.info;
          own = ap (λ (c : Bool). if c then own_of bits operand else None) e ∙ h.own;
          read = h.read;
          living = h.living;
          known = h.known;
          parallel = h.parallel;
          one = h.one;
          fits = h.fits;
          value = λ extents st q. converted_first ty.elem (type_of operand).elem (value_in extents st operand q) bits so.1 so.0 ∙ h.value extents st q;
          flag = λ one. h.flag (flag_converted ty.elem (kind_of operand) so.1 one);
          means = λ scope active extents st.
              ap (λ (o : Outcome Value). then_do o (λ v after. Gives (convert_to ty (type_of operand).elem v) after)) (h.means scope active extents st)
              ∙ ap (λ (y : ValueType). Gives (convert_to y (type_of operand).elem (Parallel (λ q. value_in extents st operand q))) st) (as_shaped ty set is.0);
        })
    by true e (inr h) = inr (ap (λ (c : Bool). if c then own_of bits operand else None) e ∙ h)
    by false e any = inr (ap (λ (c : Bool). if c then own_of bits operand else None) e)
pure_own t i alive n bits set (T.ParallelCast' ty p operand) is v among = inr refl
pure_own t i alive n bits set (T.Pcoord ty axis) is v among = inr refl
pure_own t i alive n bits set (T.Dot ty axis) is v among = inr refl
pure_own t i alive n bits set (T.LeftIndex' ty place p indexes x of) is v among = inr refl
pure_own t i alive n bits set _ is v among = absurd is

-- a promoted scalar that is a constant, whose word is known
pub record HasItsWord (e : TExpr) : Type 0 where
  pub word : ℕ
  pub is : word_of e ≡ Some word
  pub small : word < 2 ^ 32
  pub value : (extents : Extents) (st : State) (q : ℕ) → word_at extents st e q ≡ word
  pub means : (scope : Scope) (active : Active) (extents : Extents) (st : State) → evaluated scope e active st ≡ Gives (Parallel (λ q. value_in extents st e q)) st

pub constant_word : (set : ℕ) (ty : ValueType) (p : _) (operand : TExpr) → ty.shape ≡ Some set → ty.elem ≡ (type_of operand).elem → (constant : IsConstant operand) → (h : HasItsWord (T.Promote' ty p operand)) × (h.word ≡ word_of_type (type_of operand).elem constant.0)
unfolding word_of register_word value_in scalar_in evaluated then_do at
constant_word set ty p operand shaped same constant = (
  record {
    word = word_of_type (type_of operand).elem constant.0;
    is = ap (λ (o : Option ℕ). then_value o (λ v. Some (converted int_type (type_of operand).elem v))) constant.1;
    small = held_below (type_of operand).elem constant.0;
    value = λ extents st q. ap (λ (o : Option ℕ). word_of_type ty.elem (elim o [ Some word ↦ word | None ↦ computed_in st operand q ])) constant.1 ∙ ap (λ (e : Elem). word_of_type e constant.0) same;
    means = λ scope active extents st.
        ap (λ (o : Outcome Value). then_do o (λ v after. Gives (mapped ty (λ w. w) v) after)) (constant_means scope active operand constant.0 st constant.1)
        ∙ ap (λ (v : Value). Gives v st) (mapped_is scope active ty set (λ w. w) (Scalar constant.0) shaped)
        ∙ ap (λ (o : Option ℕ). Gives (Parallel (λ q. elim o [ Some word ↦ word | None ↦ computed_in st operand q ])) st) (sym constant.1);
  },
  refl,
)

-- that of a divisor is not 0
pub divisor_word : (set : ℕ) (e : TExpr) (word : ℕ) → IsPromoted set e → IsDivisor e → word_of e ≡ Some word → (word == 0) ≡ false
unfolding IsPromoted IsDivisor word_of register_word
divisor_word set (T.Promote' ty p operand) word is divisor is_word = by is.2.1
  where
    by : IsConstant operand ⊎ ((constant_of operand ≡ None) × IsCalm operand) → (word == 0) ≡ false
    by (inl constant) =
        let same : word_of_type (type_of operand).elem constant.0 ≡ word = some_same (word_of_type (type_of operand).elem constant.0) word (sym (ap (λ (o : Option ℕ). then_value o (λ v. Some (converted int_type (type_of operand).elem v))) constant.1) ∙ is_word) in
        ap (λ (w : ℕ). w == 0) (sym same) ∙ held_zero (type_of operand).elem constant.0 constant.2 ∙ unless (constant.0 == 0) refl
      where
        unless : (z : Bool) → (constant.0 == 0) ≡ z → (constant.0 == 0) ≡ false
        unless true none = absurd (divisor (constant.1 ∙ ap Some (eqb-true constant.0 0 none)))
        unless false some = some
    by (inr (none, calm)) = let wrong = sym (ap (λ (o : Option ℕ). then_value o (λ v. Some (converted int_type (type_of operand).elem v))) none) ∙ is_word in cc
divisor_word set (T.Brackets' ty p inner) word is divisor is_word = divisor_word set inner word is.1 divisor is_word
divisor_word set _ word is divisor is_word = absurd is

-- the field of an element of the file is a fresh entry for it
pub field_is : (g : Setting) (k element set : ℕ) (info : VarInfo) (d : Draft) → IsElement g.typed k info set element → field_of g.typed (layout g) (V.File k) element d ≡ an_entry set info.elem.bits (W.File (file_number g.typed k element)) d
unfolding field_of from layout_of entered
field_is g k element set info d is =
    ap (λ (o : Option VarInfo). from o (λ i. from (slice_get (layout g).files k) (λ first. from i.shape (λ s. an_entry s i.elem.bits (W.File (first + element)) d)))) is.known
    ∙ ap (λ (o : Option ℕ). from o (λ first. from info.shape (λ s. an_entry s info.elem.bits (W.File (first + element)) d))) (first_there 0 g.typed.vars.items k info is.known)
    ∙ ap (λ (o : Option ℕ). from o (λ s. an_entry s info.elem.bits (W.File (file_number g.typed k element)) d)) is.parallel
