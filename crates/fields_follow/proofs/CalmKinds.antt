-- The narrow type that is known of a scalar that changes nothing has its word, and so it has that of one that is promoted.
use Rattle.source_meaning.specs.Constants.{constant_of}
use Rattle.std.proofs.Common.{◌≡◌, ◌∙◌, ℕ, ◌<◌, ◌^◌, ◌==◌, ◌&&◌, Bool, true, false, not, Option, Some, None, refl, sym, ap, subst, if◌then◌else◌, inl, inr, ◌⊎◌}
use Rattle.std.proofs.lemmas.Nat.{pow_pos}
use Rattle.std.proofs.lemmas.Option.{none-some}
use Rattle.std.specs.Int.{from_bool}
use Rattle.cstar_base.specs.declared.elem.Elem.{Elem}
use Rattle.cstar_base.specs.declared.faults.RunFault.TheVariants.{DivZero}
use Rattle.cstar_base.specs.declared.operators.Op.{Op}
use Rattle.cstar_base.specs.Numbers.{converted}
use Rattle.cstar_base.specs.Operators.{divides, outcome}
use Rattle.cstar_tree.specs.declared.typed.TExpr.{TExpr}
use Rattle.cstar_tree.specs.declared.typed.TExpr as T
use Rattle.cstar_tree.specs.declared.typed.UnaryOp.{UnaryOp}
use Rattle.cstar_tree.specs.declared.typed.ValueType.{ValueType}
use Rattle.cstar_tree.specs.declared.typed.VarInfo.{VarInfo}
use Rattle.cstar_tree.specs.declared.typed.Variable.{Variable}
use Rattle.cstar_tree.specs.StatementTypes.{variable_info}
use Rattle.cstar_tree.specs.Typed.{type_of}
use Rattle.code_lengths.specs.Naming.{NamesVariables, plain}
use Rattle.lower_base.specs.Kinds.{binary_kind, common_kind, is_bitwise, kind_of, truth_type}
use Rattle.lower_base.specs.Operators.{negates, relates}
use Rattle.lower_expr.specs.Kinds.{has_number}
use Rattle.paris_code.specs.Code.{CodeState}
use Rattle.source_meaning.specs.Expressions.{evaluated, mapped}
use Rattle.source_meaning.specs.Narrowing.{and_then, choose, or_then}
use Rattle.source_meaning.specs.Reductions.{int_type}
use Rattle.source_meaning.specs.State.{Ends, Fault, Gives, Outcome, State, then_do}
use Rattle.source_meaning.specs.Targets.{read, variable_target}
use Rattle.source_meaning.specs.Values.{Active, Scalar, Scope, Value, at, convert_to, each, nonzero, number, unary_of}
use Rattle.code_follows.specs.Fragment.{NamesAmong}
use Rattle.code_follows.proofs.Following.{IsScalar, Sim, held}
use Rattle.code_follows.proofs.Numbers.{zero_converted}
use Rattle.code_follows.proofs.Settings.{Setting}
use Rattle.code_follows.proofs.Words.{held_wide, within_word}
use Rattle.fields_follow.specs.Fragment.{IsCalm, IsPromoted, IsConstant, IsRegistered}
use Rattle.fields_follow.proofs.Calm.{IsCalmly, calm_gives, calm_scalar, scalar_operated}
use Rattle.fields_follow.proofs.Forms.{HasItsCode}
use Rattle.fields_follow.proofs.Instructions.{extents, operation_below}
use Rattle.fields_follow.proofs.JoinedBits.{bitwise_has}
use Rattle.fields_follow.proofs.Lengths.{held_has}
use Rattle.fields_follow.proofs.Meaning.{given_in, nobody, nowhere, value_in, word_at, computed_in, constant_means, scalar_in}
use Rattle.fields_follow.proofs.KnownKinds.{HasWord, common_has, convert_has, first_has, joined_kind, kind_few, narrow_has, not_bit, second_has, truth_has}
use Rattle.fields_follow.proofs.Promoted.{brackets_code}
use Rattle.fields_follow.proofs.TestFlags.{is_truth}

-- this holds of the number that an outcome gives, if it gives one
unfoldable Holds : (ℕ → Type 0) → Outcome Value → Type 0
Holds P (Gives v u) = P (at v 0)
Holds P (Ends early u) = Unit {0}

holds_always : (P : ℕ → Type 0) (o : Outcome Value) → ((w : ℕ) → P w) → Holds P o
unfolding Holds
holds_always P (Gives v u) h = h (at v 0)
holds_always P (Ends early u) h = tt

each_holds : (P : ℕ → Type 0) (ty : ValueType) (f : ℕ → ℕ) (u : State) → ty.shape ≡ None → P (f 0) → Holds P (Gives (each ty.shape f) u)
unfolding Holds each at
each_holds P ty f u scalar h = subst (λ (o : Option ℕ). Holds P (Gives (each o f) u)) (sym scalar) h

holds_calmly : (P Q : ℕ → Type 0) (bits : ℕ) (st : State) (o : Outcome Value) → IsCalmly bits st o → ((w : ℕ) → w < 2 ^ bits → P w → Q w) → Holds P o → Holds Q o
unfolding Holds IsCalmly
holds_calmly P Q bits st (Gives v u) calm less h = less (at v 0) calm.1 h
holds_calmly P Q bits st (Ends early u) calm less h = tt

then_holds : (P Q : ℕ → Type 0) (bits : ℕ) (st : State) (o : Outcome Value) (k : Value → State → Outcome Value) → IsCalmly bits st o → Holds P o → ((w : ℕ) → w < 2 ^ bits → P w → Holds Q (k (Scalar w) st)) → Holds Q (then_do o k)
unfolding Holds IsCalmly then_do
then_holds P Q bits st (Gives v u) k calm h next = subst (λ (t : State). Holds Q (k v t)) (sym calm.2) (subst (λ (x : Value). Holds Q (k x st)) (sym calm.0) (next (at v 0) calm.1 h))
then_holds P Q bits st (Ends early u) k calm h next = tt

-- so it does of what is read where nothing is given, which is 0
given_holds : (P : ℕ → Type 0) (bits : ℕ) (st : State) (o : Outcome Value) (q : ℕ) → IsCalmly bits st o → Holds P o → P 0 → P (at (given_in o) q)
unfolding Holds IsCalmly given_in at
given_holds P bits st (Gives v u) q calm h none = subst (λ (x : Value). P (at x q)) (sym calm.0) h
given_holds P bits st (Ends early u) q calm h none = none

zero_has : (elem kind : Elem) → kind.bits < 32 → HasWord kind (held elem 0)
zero_has elem kind few =
    (subst (λ (w : ℕ). has_number kind w ≡ true) (sym (zero_converted int_type elem)) (subst (λ (w : ℕ). has_number kind w ≡ true) (zero_converted int_type kind) (held_has kind 0 (pow_pos kind.bits))), few)

-- the word of a unary operator of 32 bits has the type
unary_has : (op : UnaryOp) (elem : Elem) (w : ℕ) (kind : Elem) → elem.bits ≡ 32 → (if negates op then Some truth_type else None) ≡ Some kind → HasWord kind (held elem (unary_of op w))
unary_has op elem w kind wide is = by (negates op) refl
  where
    by : (b : Bool) → negates op ≡ b → HasWord kind (held elem (unary_of op w))
    by true e = truth_has elem kind _ (w == 0) (not_bit op w e) wide (sym (ap (λ (t : Bool). if t then Some truth_type else None) e) ∙ is)
    by false e = absurd (none-some kind (sym (ap (λ (t : Bool). if t then Some truth_type else None) e) ∙ is))

-- and so has that of a binary one
binary_has : (op : Op) (signed : Bool) (a b : Option Elem) (elem : Elem) (x y : ℕ) (kind : Elem) → elem.bits ≡ 32 → x < 2 ^ 32 → y < 2 ^ 32 → ((k : Elem) → a ≡ Some k → HasWord k x) → ((k : Elem) → b ≡ Some k → HasWord k y) → binary_kind op a b ≡ Some kind → HasWord kind (held elem (outcome op 32 (not signed) x y))
unfolding binary_kind
binary_has op signed a b elem x y kind wide few less one other is = by (relates op) (is_bitwise op) refl refl
  where
    word : ℕ
    word = outcome op 32 (not signed) x y

    chosen : Bool → Bool → Option Elem
    chosen related bitwise = if related then Some truth_type else if bitwise then common_kind a b else None

    by : (r j : Bool) → relates op ≡ r → is_bitwise op ≡ j → HasWord kind (held elem word)
    by true j related bitwise = truth_has elem kind word (nonzero word) (is_truth op 32 (not signed) x y related) wide (sym (ap (λ (r : Bool). chosen r (is_bitwise op)) related) ∙ is)
    by false true plain bitwise =
        let both : HasWord kind x × HasWord kind y = common_has a b kind x y (joined_kind op a b kind plain bitwise is) one other in
        subst (λ (w : ℕ). HasWord kind w) (sym (held_wide elem word wide (operation_below op signed x y plain few less))) (bitwise_has op kind (not signed) x y bitwise both.0.1 both.0.0 both.1.0, both.0.1)
    by false false plain bitwise = absurd (none-some kind (sym (ap (λ (r : Bool). chosen r (is_bitwise op)) plain ∙ ap (λ (j : Bool). chosen false j) bitwise) ∙ is))

module _ (g : Setting) (alive : Variable → Type 0) (n : ℕ) where
  module _ (scope : Scope) (active : Active) (st : State) (small : (x : Variable) (info : VarInfo) → alive x → IsScalar g x info → st.scalar x < 2 ^ info.elem.bits) where
    -- a number's word is one of the narrow type that is known of the expression
    abbrev IsKinded : TExpr → ℕ → Type 0
    IsKinded e w = (kind : Elem) → kind_of e ≡ Some kind → HasWord kind (held (type_of e).elem w)

    calmly : (e : TExpr) → IsCalm e → NamesVariables g.typed g.instance n e → NamesAmong alive e → IsCalmly (type_of e).elem.bits st (evaluated scope e active st)
    calmly e h names among = calm_gives g alive n scope active st small e h names among

    -- that of an operand of 32 bits is the number
    own_word : (e : TExpr) (w : ℕ) → (type_of e).elem.bits ≡ 32 → w < 2 ^ (type_of e).elem.bits → IsKinded e w → (k : Elem) → kind_of e ≡ Some k → HasWord k w
    own_word e w wide few has k is = subst (λ (x : ℕ). HasWord k x) (held_wide (type_of e).elem w wide (within_word (type_of e).elem w few)) (has k is)

    calm_has : (e : TExpr) → IsCalm e → NamesVariables g.typed g.instance n e → NamesAmong alive e → Holds (IsKinded e) (evaluated scope e active st)
    unfolding IsCalm NamesVariables NamesAmong evaluated mapped convert_to at read variable_target or_then and_then choose kind_of Holds
    calm_has (T.Number ty value) h names among = λ kind is. absurd (none-some kind is)
    calm_has (T.PositionsOf ty shape value) h names among = λ kind is. absurd (none-some kind is)
    calm_has (T.RankOf ty shape value) h names among = λ kind is. absurd (none-some kind is)
    calm_has (T.DimOf ty shape axis value) h names among = λ kind is. absurd (none-some kind is)
    calm_has (T.Variable ty x) h names among =
        subst (λ (o : Option ℕ). Holds (IsKinded (T.Variable ty x)) (Gives (read st (variable_target o x 0)) st)) (sym h) (λ kind is. narrow_has ty.elem kind (st.scalar x) (small x (variable_info names.word (plain ty) names.start) among (names.named, h)) is)
    calm_has (T.Brackets' ty p inner) h names among =
        subst (λ (y : ValueType). Holds (λ w. (kind : Elem) → kind_of inner ≡ Some kind → HasWord kind (held y.elem w)) (evaluated scope inner active st)) (sym h.0) (calm_has inner h.1 names among)
    calm_has (T.Convert' ty p operand) h names among =
        then_holds (IsKinded operand) (IsKinded (T.Convert' ty p operand)) (type_of operand).elem.bits st (evaluated scope operand active st) _ (calmly operand h.1 names among) (calm_has operand h.1 names among)
        (λ w few has. each_holds (IsKinded (T.Convert' ty p operand)) ty (λ q. converted ty.elem (type_of operand).elem w) st h.0 (λ kind is. convert_has ty.elem (type_of operand).elem (kind_of operand) w few has kind is))
    calm_has (T.Casts' ty elems p operand) h names among = holds_always (IsKinded (T.Casts' ty elems p operand)) (evaluated scope (T.Casts' ty elems p operand) active st) (λ w kind is. absurd (none-some kind is))
    calm_has (T.Unary' ty op p operand) h names among =
        then_holds (IsKinded operand) (IsKinded (T.Unary' ty op p operand)) (type_of operand).elem.bits st (evaluated scope operand active st) _ (calmly operand h.1 names among) (calm_has operand h.1 names among)
        (λ w few has. each_holds (IsKinded (T.Unary' ty op p operand)) ty (λ q. unary_of op w) st h.0.0 (λ kind is. unary_has op ty.elem w kind h.0.1 is))
    calm_has (T.Binary' ty place op p left q right) h names among =
        then_holds (IsKinded left) (IsKinded whole) (type_of left).elem.bits st (evaluated scope left active st) _ (calmly left h.1 names.0 among.0) (calm_has left h.1 names.0 among.0) (λ x few one.
        then_holds (IsKinded right) (IsKinded whole) (type_of right).elem.bits st (evaluated scope right active st) _ (calmly right h.2 names.1 among.1) (calm_has right h.2 names.1 among.1) (λ y less other.
        subst (λ (o : Outcome Value). Holds (IsKinded whole) o) (sym (scalar_operated g alive n scope active st small ty place op (not (type_of left).elem.signed) x y h.0.0)) (by x y few less one other (divides op && (y == 0)))))
      where
        whole : TExpr
        whole = T.Binary' ty place op p left q right

        by : (x y : ℕ) → x < 2 ^ (type_of left).elem.bits → y < 2 ^ (type_of right).elem.bits → IsKinded left x → IsKinded right y → (b : Bool)
            → Holds (IsKinded whole) (if b then Ends (Fault DivZero place None) st else Gives (Scalar (outcome op 32 (not (type_of left).elem.signed) x y)) st)
        by x y few less one other true = tt
        by x y few less one other false = λ kind is.
            binary_has op (type_of left).elem.signed (kind_of left) (kind_of right) ty.elem x y kind h.0.1 (within_word (type_of left).elem x few) (within_word (type_of right).elem y less) (own_word left x h.3.1 few one) (own_word right y h.4.1 less other) is
    calm_has (T.LogicalOr' ty p left q right) h names among =
        then_holds (λ w. Unit {0}) (IsKinded whole) (type_of left).elem.bits st (evaluated scope left active st) _ (calmly left h.1 names.0 among.0) (holds_always (λ w. Unit {0}) (evaluated scope left active st) (λ w. tt)) (λ x few any.
        subst (λ (o : Option ℕ). Holds (IsKinded whole) (or_then ty.shape o (Scalar x) (λ a u. evaluated scope right a u) active st)) (sym (calm_scalar left h.1)) (by (nonzero (number (Scalar x)))))
      where
        whole : TExpr
        whole = T.LogicalOr' ty p left q right

        truth : (b : Bool) → IsKinded whole (from_bool b)
        truth b kind is = truth_has ty.elem kind (from_bool b) b refl h.0.1 is

        by : (b : Bool) → Holds (IsKinded whole) (elim b as (λ _. Outcome Value) [ true ↦ Gives (each ty.shape (λ _. 1)) st | false ↦ then_do (evaluated scope right active st) (λ w after. Gives (each ty.shape (λ p. from_bool (nonzero (at w p)))) after) ])
        by true = each_holds (IsKinded whole) ty (λ p. 1) st h.0.0 (truth true)
        by false =
            then_holds (λ w. Unit {0}) (IsKinded whole) (type_of right).elem.bits st (evaluated scope right active st) _ (calmly right h.2 names.1 among.1) (holds_always (λ w. Unit {0}) (evaluated scope right active st) (λ w. tt))
            (λ y few any. each_holds (IsKinded whole) ty (λ p. from_bool (nonzero (at (Scalar y) p))) st h.0.0 (truth (nonzero (at (Scalar y) 0))))
    calm_has (T.LogicalAnd' ty p left q right) h names among =
        then_holds (λ w. Unit {0}) (IsKinded whole) (type_of left).elem.bits st (evaluated scope left active st) _ (calmly left h.1 names.0 among.0) (holds_always (λ w. Unit {0}) (evaluated scope left active st) (λ w. tt)) (λ x few any.
        subst (λ (o : Option ℕ). Holds (IsKinded whole) (and_then ty.shape o (Scalar x) (λ a u. evaluated scope right a u) active st)) (sym (calm_scalar left h.1)) (by (nonzero (number (Scalar x)))))
      where
        whole : TExpr
        whole = T.LogicalAnd' ty p left q right

        truth : (b : Bool) → IsKinded whole (from_bool b)
        truth b kind is = truth_has ty.elem kind (from_bool b) b refl h.0.1 is

        by : (b : Bool) → Holds (IsKinded whole) (elim b as (λ _. Outcome Value) [ true ↦ then_do (evaluated scope right active st) (λ w after. Gives (each ty.shape (λ p. from_bool (nonzero (at w p)))) after) | false ↦ Gives (each ty.shape (λ _. 0)) st ])
        by true =
            then_holds (λ w. Unit {0}) (IsKinded whole) (type_of right).elem.bits st (evaluated scope right active st) _ (calmly right h.2 names.1 among.1) (holds_always (λ w. Unit {0}) (evaluated scope right active st) (λ w. tt))
            (λ y few any. each_holds (IsKinded whole) ty (λ p. from_bool (nonzero (at (Scalar y) p))) st h.0.0 (truth (nonzero (at (Scalar y) 0))))
        by false = each_holds (IsKinded whole) ty (λ p. 0) st h.0.0 (truth false)
    calm_has (T.Choice' ty p test q first r second) h names among =
        then_holds (λ w. Unit {0}) (IsKinded whole) (type_of test).elem.bits st (evaluated scope test active st) _ (calmly test h.1 names.0 among.0) (holds_always (λ w. Unit {0}) (evaluated scope test active st) (λ w. tt)) (λ x few any.
        subst (λ (o : Option ℕ). Holds (IsKinded whole) (choose o (Scalar x) (λ a u. evaluated scope first a u) (λ a u. evaluated scope second a u) active st)) (sym (calm_scalar test h.1))
        (by (calm_has first h.2 names.1 among.1) (calm_has second h.3 names.2 among.2) (nonzero (number (Scalar x)))))
      where
        whole : TExpr
        whole = T.Choice' ty p test q first r second

        one : (w : ℕ) → w < 2 ^ (type_of first).elem.bits → IsKinded first w → IsKinded whole w
        one w few has kind is =
            subst (λ (x : ℕ). HasWord kind x) (sym (held_wide ty.elem w h.0.1 (within_word (type_of first).elem w few)))
            (first_has (kind_of first) (kind_of second) kind w is (own_word first w h.4.1 few has) (λ k is_k. kind_few second k is_k))

        other : (w : ℕ) → w < 2 ^ (type_of second).elem.bits → IsKinded second w → IsKinded whole w
        other w few has kind is =
            subst (λ (x : ℕ). HasWord kind x) (sym (held_wide ty.elem w h.0.1 (within_word (type_of second).elem w few)))
            (second_has (kind_of first) (kind_of second) kind w is (λ k is_k. kind_few first k is_k) (own_word second w h.5.1 few has))

        by : Holds (IsKinded first) (evaluated scope first active st) → Holds (IsKinded second) (evaluated scope second active st) → (b : Bool) → Holds (IsKinded whole) (elim b as (λ _. Outcome Value) [ true ↦ evaluated scope first active st | false ↦ evaluated scope second active st ])
        by has also true = holds_calmly (IsKinded first) (IsKinded whole) (type_of first).elem.bits st (evaluated scope first active st) (calmly first h.2 names.1 among.1) one has
        by has also false = holds_calmly (IsKinded second) (IsKinded whole) (type_of second).elem.bits st (evaluated scope second active st) (calmly second h.3 names.2 among.2) other also
    calm_has _ h names among = absurd h

  -- a promoted scalar whose code leaves it in a register has such a word
  pub promoted_has : (set : ℕ) (e : TExpr) (st : State) (s : CodeState) → Sim g alive st s → IsPromoted set e → IsRegistered e → HasItsCode g.typed g.instance alive n e → (q : ℕ) (kind : Elem) → kind_of e ≡ Some kind → HasWord kind (word_at (extents g set) st e q)
  unfolding IsPromoted IsRegistered value_in scalar_in kind_of given_in at NamesVariables NamesAmong
  promoted_has set (T.Promote' ty p operand) st s sim is calm c q kind is_kind =
      let calmly : IsCalmly (type_of operand).elem.bits st (evaluated nowhere operand nobody st) = calm_gives g alive n nowhere nobody st sim.small operand calm c.code.names c.among in
      let Has : ℕ → Type 0 = λ w. HasWord kind (held (type_of operand).elem w) in
      subst (λ (x : Elem). HasWord kind (held x (scalar_in st operand q))) (sym is.1)
      (subst Has (sym (same is.2.1))
      (given_holds Has (type_of operand).elem.bits st (evaluated nowhere operand nobody st) q calmly
      (holds_calmly (IsKinded nowhere nobody st sim.small operand) Has (type_of operand).elem.bits st (evaluated nowhere operand nobody st) calmly (λ w few has. has kind is_kind) (calm_has nowhere nobody st sim.small operand calm c.code.names c.among)) (zero_has (type_of operand).elem kind (kind_few operand kind is_kind))))
    where
      number : Option ℕ → ℕ
      number o = elim o [ Some word ↦ word | None ↦ computed_in st operand q ]

      same : IsConstant operand ⊎ ((constant_of operand ≡ None) × IsCalm operand) → scalar_in st operand q ≡ computed_in st operand q
      same (inl constant) = ap number constant.1 ∙ sym (ap (λ (o : Outcome Value). at (given_in o) q) (constant_means nowhere nobody operand constant.0 st constant.1))
      same (inr (none, also)) = ap number none
  promoted_has set (T.Brackets' ty p inner) st s sim is calm c q kind is_kind =
      subst (λ (y : ValueType). HasWord kind (held y.elem (value_in (extents g set) st inner q))) (sym is.0) (promoted_has set inner st s sim is.1 calm (brackets_code g alive n ty p inner c) q kind is_kind)
  promoted_has set _ st s sim is calm c q kind is_kind = absurd is
