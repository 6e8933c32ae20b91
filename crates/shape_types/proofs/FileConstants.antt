-- The constant expressions of a file: extents, lengths and what variables hold at the start.
use Rattle.std.proofs.Common.{◌≡◌, ℕ, ℤ, pos, negsuc, zero, suc, ◌<◌, ◌^◌, ◌==◌, Bool, true, false, [], length, Option, Some, None, IfOk, IfSome, w64, Result, is_some, refl, sym, ap, subst, ◌∙◌, arith}
use Rattle.std.proofs.lemmas.Bool.{eqb-true}
use Rattle.std.proofs.lemmas.Option.{same_Some}
use Rattle.std.specs.Prelude.{FitsSigned}
use Rattle.std.specs.Option.{option_map, unwrap_or}
use Rattle.constant_trees.proofs.Bringing.{converted_none}
use Rattle.constant_trees.proofs.Words.{then_mapped}
use Rattle.constant_trees.proofs.Written.{in_part, written as typed_as_written}
use Rattle.constant_trees.specs.Laws.{IsAsWritten, IsConstant}
use Rattle.constant_trees.specs.Words.{HasFewPositions, HasWords}
use Rattle.cstar_tree.specs.declared.syntax.Expr as E
use Rattle.cstar_base.proofs.NumberLaws.{residue_of_number}
use Rattle.cstar_base.specs.Numbers.{converted, number_of, truth_of}
use Rattle.cstar_base.specs.declared.elem.Elem.{Elem}
use Rattle.cstar_base.specs.declared.operators.Place.{Place}
use Rattle.cstar_tree.specs.declared.syntax.Declarator.{Declarator}
use Rattle.cstar_tree.specs.declared.syntax.Expr.{Expr}
use Rattle.cstar_tree.specs.declared.syntax.Initializer.{Initializer}
use Rattle.cstar_tree.specs.declared.typed.TExpr.{TExpr}
use Rattle.cstar_tree.specs.declared.typed.ValueType.{ValueType}
use Rattle.cstar_tree.specs.BlockScopes.{with_length}
use Rattle.cstar_tree.specs.Constants.{Constant, cast_to, constant, constant_number}
use Rattle.cstar_tree.specs.Conversions.{IsConverted}
use Rattle.cstar_tree.specs.Conversions as C
use Rattle.cstar_tree.specs.ExpressionTypes.{Types}
use Rattle.cstar_tree.specs.FileScopes.{Known}
use Rattle.cstar_tree.specs.Headers.{Program}
use Rattle.cstar_tree.specs.ProgramTypes.{Starts}
use Rattle.cstar_tree.specs.ProgramTypes as Y
use Rattle.cstar_tree.specs.Scopes.{Here, part}
use Rattle.cstar_tree.specs.Scopes as S
use Rattle.cstar_tree.specs.StatementTypes.{IsDeclarable}
use Rattle.cstar_tree.specs.Typed.{type_of}
use Rattle.source_meaning.specs.Constants.{constant_of, is_constant, value_of}
use Rattle.type_expressions.specs.Instances.{Grows}
use Rattle.type_expressions.specs.Walks.{IsAround, IsPlain, IsValue}
use Rattle.type_expressions.specs.Walks as X
use Rattle.type_expressions.specs.declared.found.Instances.{Instances}
use Rattle.type_expressions.specs.declared.found.TypedExpr.{TypedExpr}
use Rattle.type_scopes.specs.Answers.{part_of}
use Rattle.type_scopes.specs.Bindings.{bindings, type_meant, variable_type}
use Rattle.type_scopes.specs.declared.faults.Untyped.{Untyped}
use Rattle.type_scopes.specs.declared.file.File.{File}
use Rattle.type_scopes.specs.declared.locals.Locals.{Locals}
use Rattle.type_scopes.specs.declared.names.VariableType as Names
use Rattle.type_scopes.specs.declared.sites.Site.{Site}
use Rattle.type_statements.proofs.Declared.{declarable, fits_settled, length_settled, type_there}
use Rattle.type_statements.specs.Declarators.{FitsArray, IsConstantNumber, IsInitial, IsLength, counted, type_with}
use Rattle.type_statements.specs.Ready.{IsReady}
use Rattle.type_statements.specs.declared.declarations.Initial.{Initial}
use Rattle.type_statements.specs.declared.declarations.Length.{Length}
use Rattle.type_statements.specs.declared.declarations.Length.TheVariants as L
use Rattle.shape_types.specs.FileWalk.{HasItsType, Knows, StartsAs, place_in}
use Rattle.shape_types.proofs.KnownPlace.{around_there, calls_there, file_site, headers_since, program_now}

plain_words : (e : Expr) → IsPlain e → HasWords e
unfolding IsPlain HasWords
plain_words (E.Number p value u) h = h
plain_words (E.Brackets' p _ inner) h = plain_words inner h
plain_words (E.Casts' casts _ operand) h = plain_words operand h
plain_words (E.Prefix' p op _ operand) h = plain_words operand h
plain_words (E.Binary' p op _ left _ right) h = (plain_words left h.0, plain_words right h.1)
plain_words (E.Choice' p _ test _ second _ third) h = (plain_words test h.0, plain_words second h.1, plain_words third h.2)
plain_words _ h = tt

-- ---- conversions

truth_stays : (signed : Bool) (w : ℕ) → w < 2 → truth_of (number_of 1 signed w) ≡ w
unfolding truth_of number_of
truth_stays true zero few = refl
truth_stays true (suc zero) few = refl
truth_stays true (suc (suc w)) few = absurd (omega (arith, few))
truth_stays false zero few = refl
truth_stays false (suc zero) few = refl
truth_stays false (suc (suc w)) few = absurd (omega (arith, few))

-- a word of a type stays what it is
stays : (elem : Elem) (w : ℕ) → w < 2 ^ elem.bits → converted elem elem w ≡ w
unfolding converted
stays elem w few = by (elem.bits == 1) refl
  where
    by : (one : Bool) → (elem.bits == 1) ≡ one → converted elem elem w ≡ w
    by true is =
        let narrow : elem.bits ≡ 1 = eqb-true elem.bits 1 is in
        let few_there : w < 2 ^ 1 = subst (λ (n : ℕ). w < 2 ^ n) narrow few in
        rw is (ap (λ (n : ℕ). truth_of (number_of n elem.signed w)) narrow ∙ truth_stays elem.signed w (omega (arith, few_there)))
    by false is = rw is (residue_of_number elem.bits elem.signed w few)

is_value : (t : TExpr) (word : ℕ) → constant_of t ≡ Some word → (is_constant t ≡ true) × (value_of t ≡ Some word)
unfolding constant_of
is_value t word is = by (is_constant t) refl
  where
    by : (b : Bool) → is_constant t ≡ b → (is_constant t ≡ true) × (value_of t ≡ Some word)
    by true e = (e, rw e at is)
    by false e = let none : None ≡ Some word = rw e at is in absurd (cc)

-- a constant that is brought to a type
brought : {x t : TExpr} {elem : Elem} {k : Constant} {word : ℕ} → IsConverted x elem t → IsConstant x k → value_of t ≡ Some word → (cast_to elem k).word ≡ Some word
unfolding cast_to value_of
brought {elem = elem} {k = k} {word = word} (C.as_it_is is) g found =
    let same : k.elem ≡ elem = sym g.elem ∙ is in
    let here : k.word ≡ Some word = sym g.value ∙ found in
    let few : word < 2 ^ k.elem.bits = subst (λ (o : Option ℕ). IfSome o (λ w. w < 2 ^ k.elem.bits)) here g.fits in
    let own : word < 2 ^ elem.bits = subst (λ (e : Elem). word < 2 ^ e.bits) same few in
    ap (option_map (converted elem k.elem)) here ∙ (ap (λ (e : Elem). Some (converted elem e word)) same ∙ ap (λ (w : ℕ). Some w) (stays elem word own))
brought {x = x} {elem = elem} {k = k} {word = word} (C.by_node operand is other) g found =
    let value = then_mapped (converted elem (type_of operand.value).elem) (value_of operand.value) in
    let inner : value_of operand.value ≡ k.word = ap value_of is ∙ g.value in
    let of : (type_of operand.value).elem ≡ k.elem = ap (λ (y : TExpr). (type_of y).elem) is ∙ g.elem in
    sym (value ∙ (ap (λ (e : Elem). option_map (converted elem e) (value_of operand.value)) of ∙ ap (option_map (converted elem k.elem)) inner)) ∙ found

start_of : (program : Program) (here : Here) (i : Initializer) (x t : TExpr) (elem : Elem) (word : ℕ) → HasFewPositions here → IsPlain i.value → Types program (part here) i.value x true → IsConverted x elem t → constant_of t ≡ Some word → Starts here elem (Some i) word
start_of program here i x t elem word few plain typed conversion is = by (constant here i.value) refl
  where
    as_written : IsAsWritten (constant here i.value) x
    as_written = subst (λ (k : Option Constant). IsAsWritten k x) (in_part here i.value) (typed_as_written program typed few (plain_words i.value plain))

    by : (k : Option Constant) → constant here i.value ≡ k → Starts here elem (Some i) word
    by None e =
        let none = converted_none conversion (subst (λ (k : Option Constant). IsAsWritten k x) e as_written) in
        absurd (let k : true ≡ false = sym (is_value t word is).0 ∙ none in cc)
    by (Some k) e = Y.at_constant e (brought conversion (subst (λ (k : Option Constant). IsAsWritten k x) e as_written) (is_value t word is).1)

-- an extent that is found is a number of its type
pub extent_fits : (number : Result ℤ Untyped) (r : Option ℤ) → IfOk number (FitsSigned w64) → r ≡ part_of number → is_some r ≡ true → FitsSigned w64 (unwrap_or r (pos 1))
extent_fits number None fits settled has = absurd (cc)
extent_fits number (Some z) fits settled has = fits_settled number (Some z) z fits settled refl

-- ---- what is typed at file scope

module _ (start : File) (k : Known) (file : File) (n : ℕ) (locals : Locals) (site : Site) (knows : Knows start k file n) (none : bindings locals ≡ []) (at_file : site ≡ file_site n) (old new : Instances) (empty : old.headers.entries ≡ []) (grows : Grows file old new) where
  abbrev pub here : Here
  here = place_in start k

  around : IsAround file locals site here
  around = around_there start k file n locals site knows none at_file

  ready : (e : Expr) → IsPlain e → IsReady new file (program_now start file new) here e
  ready e plain = (calls_there start k file n knows new e (headers_since file old new empty grows), plain)

  number_settled : (e : Expr) (p : Place) (typed : Option TypedExpr) (number : Result ℤ Untyped) (z : ℤ) (r : Option ℤ) → IsPlain e → X.IsTyped new file locals (record site { whole = false }) e typed → IsConstantNumber p typed number → r ≡ part_of number → r ≡ Some z → constant_number here e ≡ Some z
  number_settled e p typed number z r plain h is settled found = length_settled new file locals site e p typed number z r h is settled found (program_now start file new) here around (ready e plain)

  pub extent_settled : (e : Expr) (p : Place) (typed : Option TypedExpr) (number : Result ℤ Untyped) (r : Option ℤ) → IsPlain e → X.IsTyped new file locals (record site { whole = false }) e typed → IsConstantNumber p typed number → r ≡ part_of number → is_some r ≡ true → constant_number here e ≡ Some (unwrap_or r (pos 1))
  extent_settled e p typed number None plain h is settled has = absurd (cc)
  extent_settled e p typed number (Some z) plain h is settled has = number_settled e p typed number z (Some z) plain h is settled refl

  some_ready : (e : Option Expr) → IfSome e IsPlain → IfSome e (IsReady new file (program_now start file new) here)
  some_ready None plain = tt
  some_ready (Some e) plain = ready e plain

  value_parts : (length : Length) (of : ValueType) (ty : Names.VariableType) → type_meant (Some ty) ≡ type_with length (Some of) → record { elem = ty.elem; shape = ty.shape } ≡ of
  value_parts L.Absent of ty is = ap (λ (v : S.VariableType). v.value) (same_Some (variable_type ty) (record { value = of; array = None }) is)
  value_parts L.Faulty of ty is = absurd (cc)
  value_parts (L.Of z) of ty is = by (counted z) is
    where
      by : (c : Option ℤ) → type_meant (Some ty) ≡ with_length of c → record { elem = ty.elem; shape = ty.shape } ≡ of
      by None is = absurd (cc)
      by (Some (pos m)) is = ap (λ (v : S.VariableType). v.value) (same_Some (variable_type ty) (record { value = of; array = Some m }) is)
      by (Some (negsuc m)) is = absurd (cc)

  pub type_settled : {A : Type 0} (of : ValueType) (d : Declarator) (length : Length) (ty : Option ValueType) (r : Option A) (found : Option Names.VariableType) → ty ≡ Some of → IfSome d.length IsPlain → IsLength new file locals site d.length length → ((u : A) → r ≡ Some u → FitsArray ty length d.initial) → is_some r ≡ true → type_meant found ≡ type_with length ty → is_some found ≡ true → HasItsType here of d found
  type_settled of d length ty None found ty_is plain is fitting has typed whole = absurd (cc)
  type_settled of d length ty (Some u) None ty_is plain is fitting has typed whole = absurd (cc)
  type_settled of d length ty (Some u) (Some t) ty_is plain is fitting has typed whole =
      let fits = subst (λ (o : Option ValueType). FitsArray o length d.initial) ty_is (fitting u refl) in
      let with_length = typed ∙ ap (type_with length) ty_is in
      record {
        of = t;
        is_found = refl;
        declared = sym (with_length ∙ type_there new here of d.length length file locals site (program_now start file new) d.initial around (some_ready d.length plain) is fits (sym with_length));
        value = value_parts length of t with_length;
        declarable = λ variable same. subst (λ (v : S.VariableType). IsDeclarable v d.initial) (let e : variable_type t ≡ variable = cc in e) (declarable of length t d.initial fits with_length);
      }

  pub initial_settled : (written : Option Initializer) (initial : Option Initial) → IfSome written (λ (i : Initializer). IsPlain i.value) → IsInitial new file locals site written initial → StartsAs here written initial
  initial_settled None initial plain is elem word start_is = subst (Starts here elem None) (sym start_is) Y.at_zero
  initial_settled (Some i) None plain is elem word start_is = absurd is
  initial_settled (Some i) (Some x) plain is elem word start_is =
      let value = subst (IsValue new file locals site i.value) start_is.2 is.1 in
      let r = ready i.value plain in
      start_of (program_now start file new) here i start_is.0.value start_is.1 elem word around.few plain (value (program_now start file new) here around r.0 r.1) start_is.3 start_is.4

pub none_starts : (here : Here) → StartsAs here None None
none_starts here elem word is = subst (Starts here elem None) (sym is) Y.at_zero
