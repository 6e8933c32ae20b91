-- The code of a call is as long as described.
use Rattle.std.proofs.Common.{◌≡◌, ℕ, suc, ◌+◌, ◌-◌, Bool, true, false, ◌==◌, List, [], ◌∷◌, length, slice_get, Option, Some, None, IfSome, is_none, is_some, refl, sym, ap, ◌∙◌, subst, arith, if◌then◌else◌}
use Rattle.std.specs.List.{AllZip}
use Rattle.std.proofs.lemmas.Option.{same_Some, slice_get-get_or, slice_get_within}
use Rattle.std.proofs.lemmas.Slice.Zip.{AllZip-long}
use Rattle.cstar_tree.specs.declared.typed.Instance.{Instance}
use Rattle.cstar_tree.specs.declared.typed.TExpr.{TExpr, Row_of-TExpr, items-the_row-TExpr}
use Rattle.cstar_tree.specs.declared.typed.TExpr as T
use Rattle.cstar_tree.specs.declared.typed.Typed.{Typed}
use Rattle.cstar_tree.specs.declared.typed.ValueType.{ValueType}
use Rattle.cstar_tree.specs.declared.typed.VarInfo.{VarInfo}
use Rattle.lower_base.specs.declared.emit.Out.{Out}
use Rattle.lower_base.specs.declared.emit.Out.TheVariants as O
use Rattle.lower_base.specs.Drafts.{Draft, Makes, then_make}
use Rattle.lower_base.specs.Layouts.{Layout}
use Rattle.lower_expr.specs.Frames.{turn_and_call, zeroed_entry, register_given, field_given, result_given, finished, argument_passed, passed, called}
use Rattle.lower_expr.specs.Lengths.{params_length, call_length}
use Rattle.lower_expr.specs.Steps.{is_kept, put_value, put_in_field}
use Rattle.code_lengths.specs.Growth.{Extended, GrowsOr, Stands, Anything}
use Rattle.code_lengths.specs.Lowerable.{Calls, GivesValue, IsValueFor}
use Rattle.code_lengths.specs.Ready.{Arrives, IsReadyOr}
use Rattle.code_lengths.proofs.Drafting.{as_it_was, resized, and_instr, makes, sized, bind, in_register_grows, in_field_grows, found_grows, entry_grows}
use Rattle.code_lengths.proofs.Pieces.{InRegister, InField, put_in_field_grows, put_value_grows}
use Rattle.code_lengths.proofs.Readiness.{arrives, arrived}

turn_more : (unit n : ℕ) (d e : Draft) → Extended d n e → Extended d (n + 2) (turn_and_call unit e)
unfolding turn_and_call
turn_more unit n d e x = resized d _ _ _ (two_more n) (and_instr _ d _ (n + 1) (and_instr _ d e n x))
  where
    two_more : (n : ℕ) → (n + 1) + 1 ≡ n + 2
    two_more n = omega arith

zeroed_grows : (lacks : Type 0) (unit set bits index : ℕ) (d : Draft) → GrowsOr lacks d 1 Anything (zeroed_entry unit set bits index d)
unfolding zeroed_entry
zeroed_grows lacks unit set bits index d =
    bind lacks Anything Anything d 0 1 _ _ (entry_grows lacks _ _ _ d) (λ f after _. makes lacks Anything f after _ 1 tt (and_instr _ after after 0 (as_it_was after)))

register_given_grows : (lacks : Type 0) (P : Out → Type 0) (unit source : ℕ) (dest : Out) (d : Draft) → P dest → InRegister dest → GrowsOr lacks d 4 P (register_given unit source dest d)
unfolding register_given
register_given_grows lacks P unit source dest d p s =
    in_register_grows lacks P d 4 dest _ s (λ r. makes lacks P dest d _ 4 p (and_instr _ d _ 3 (turn_more unit 1 d _ (and_instr _ d d 0 (as_it_was d)))))

field_given_grows : (lacks : Type 0) (P : Out → Type 0) (unit : ℕ) (info : VarInfo) (set index : ℕ) (dest : Out) (d : Draft) → P dest → InField dest → GrowsOr lacks d 4 P (field_given unit info set index dest d)
unfolding field_given
field_given_grows lacks P unit info set index dest d p s =
    bind lacks Anything P d 1 3 _ _ (zeroed_grows lacks unit set _ index d) (λ source after _. in_field_grows lacks P after 3 dest _ s (λ f.
    makes lacks P dest after _ 3 p (and_instr _ after _ 2 (turn_more unit 0 after after (as_it_was after)))))

result_by : (lacks : Type 0) (P : Out → Type 0) (shape : Option ℕ) (unit : ℕ) (info : VarInfo) (register index : ℕ) (dest : Out) (d : Draft) → P dest → Stands (is_none shape) dest →
    GrowsOr lacks d 4 P (elim shape [ None ↦ register_given unit register dest d | Some set ↦ field_given unit info set index dest d ])
result_by lacks P None unit info register index dest d p s = register_given_grows lacks P unit register dest d p s
result_by lacks P (Some set) unit info register index dest d p s = field_given_grows lacks P unit info set index dest d p s

-- what is answered passes: where the result goes, if there is one
abbrev IsReturned : (Out → Type 0) → Option VarInfo → Out → Type 0
IsReturned P None dest = P O.Nothing
IsReturned P (Some info) dest = P dest × Stands (is_none info.shape) dest

finished_grows : (lacks : Type 0) (P : Out → Type 0) (unit : ℕ) (outcome : Option VarInfo) (register index : ℕ) (dest : Out) (d : Draft) → IsReturned P outcome dest →
    GrowsOr lacks d (if is_some outcome then 4 else 2) P (finished unit outcome register index dest d)
unfolding finished result_given
finished_grows lacks P unit None register index dest d p = makes lacks P O.Nothing d _ 2 p (turn_more unit 0 d d (as_it_was d))
finished_grows lacks P unit (Some info) register index dest d p = result_by lacks P info.shape unit info register index dest d p.0 p.1

-- an argument stands in a register for a scalar parameter, and anywhere for a parallel one
abbrev IsArgument : VarInfo → Out → Type 0
IsArgument param v = (kept : Bool) × Stands kept v × (is_none param.shape ≡ true → kept ≡ true)

argument_by : (lacks : Type 0) (shape : Option ℕ) (kept : Bool) (unit : ℕ) (param : VarInfo) (register index : ℕ) (v : Out) (d : Draft) → Stands kept v → (is_none shape ≡ true → kept ≡ true) →
    GrowsOr lacks d (if is_some shape then 2 else 1) Anything (elim shape [
      | None ↦ then_make (put_value (O.Scalar register) v d) (λ _ after. Makes index after)
      | Some set ↦ then_make (zeroed_entry unit set param.elem.bits index d) (λ place between.
          then_make (put_in_field place v between) (λ _ after. Makes (index + 1) after))
    ])
argument_by lacks None kept unit param register index v d s h =
    bind lacks InRegister Anything d 1 0 _ _ (put_value_grows lacks true kept (O.Scalar register) v d refl s h) (λ _ after _. makes lacks Anything index after after 0 tt (as_it_was after))
argument_by lacks (Some set) kept unit param register index v d s h =
    bind lacks Anything Anything d 1 1 _ _ (zeroed_grows lacks unit set _ index d) (λ place between _.
    bind lacks InField Anything between 1 0 _ _ (put_in_field_grows lacks kept place v between s) (λ _ after _. makes lacks Anything (index + 1) after after 0 tt (as_it_was after)))

-- what is added to the sum is added to the length
params_more : (params : List VarInfo) (given more sum : ℕ) → params_length params given (sum + more) ≡ more + params_length params given sum
unfolding params_length
params_more [] given more sum = omega arith
params_more (param ∷ rest) given more sum =
    by_given (given == 0) (sum + more) sum more _ _ (ap (λ (n : ℕ). params_length rest (given - 1) n) (swap sum more (if is_some param.shape then 2 else 1)) ∙ params_more rest (given - 1) more (sum + (if is_some param.shape then 2 else 1)))
  where
    swap : (a b c : ℕ) → (a + b) + c ≡ (a + c) + b
    swap a b c = omega arith

    by_given : (b : Bool) (x y more m n : ℕ) → m ≡ more + n → (if b then sum + more else m) ≡ more + (if b then sum else n)
    by_given true x y more m n e = omega arith
    by_given false x y more m n e = e

passed_one : (param : VarInfo) (rest : List VarInfo) (n sum : ℕ) → (if is_some param.shape then 2 else 1) + params_length rest n sum ≡ params_length (param ∷ rest) (suc n) sum
unfolding params_length
passed_one param rest n sum =
    let e : suc n - 1 ≡ n = omega arith in
    sym (params_more rest n (if is_some param.shape then 2 else 1) sum) ∙ ap (λ (k : ℕ). params_length rest k (sum + (if is_some param.shape then 2 else 1))) (sym e)
    ∙ chosen (suc n == 0) sum _ (not_zero n)
  where
    not_zero : (n : ℕ) → (suc n == 0) ≡ false
    not_zero n = grind arith

    chosen : (b : Bool) (x m : ℕ) → b ≡ false → m ≡ (if b then x else m)
    chosen true x m e = cc
    chosen false x m e = refl

passed_grows : (lacks : Type 0) (P : Out → Type 0) (unit : ℕ) (outcome : Option VarInfo) (params : List VarInfo) (vs : List Out) (register index : ℕ) (dest : Out) (d : Draft) → AllZip IsArgument params vs → IsReturned P outcome dest →
    GrowsOr lacks d (params_length params (length vs) (if is_some outcome then 4 else 2)) P (passed unit outcome params vs register index dest d)
unfolding passed params_length argument_passed
passed_grows lacks P unit outcome [] vs register index dest d a p = finished_grows lacks P unit outcome register index dest d p
passed_grows lacks P unit outcome (param ∷ params) [] register index dest d a p = absurd a
passed_grows lacks P unit outcome (param ∷ params) (v ∷ vs) register index dest d a p =
    sized lacks P d _ _ _ (passed_one param params (length vs) (if is_some outcome then 4 else 2))
    (bind lacks Anything P d _ _ _ _ (argument_by lacks param.shape a.0.0 unit param register index v d a.0.1 a.0.2)
    (λ next after _. passed_grows lacks P unit outcome params vs (register + 1) next dest after a.1 p))

-- the values of expressions that are given are arguments
arguments_given : (t : Typed) (params : List VarInfo) (es : List TExpr) (vs : List Out) → AllZip (λ (param : VarInfo) (e : TExpr). IsValueFor t param.shape e) params es → AllZip (Arrives t) es vs → AllZip IsArgument params vs
arguments_given t [] [] [] g a = tt
arguments_given t [] [] (v ∷ vs) g a = absurd a
arguments_given t [] (e ∷ es) vs g a = absurd g
arguments_given t (param ∷ params) [] vs g a = absurd g
arguments_given t (param ∷ params) (e ∷ es) [] g a = absurd a
arguments_given t (param ∷ params) (e ∷ es) (v ∷ vs) g a = ((is_kept e, arrived t e v g.0.gives a.0, g.0.in_register), arguments_given t params es vs g.1 a.1)

-- a call gives a value only if what it calls has a result
returned : (t : Typed) (ty : ValueType) (number : ℕ) (p : _) (arguments : Row_of-TExpr _) (dest : Out) (callee : Instance) → slice_get t.instances.items number ≡ Some callee → (outcome : Option VarInfo) → callee.result ≡ outcome →
    IfSome outcome (λ (info : VarInfo). info.shape ≡ ty.shape) → Stands (is_none ty.shape) dest → IsReturned (Arrives t (T.Call' ty number p arguments)) outcome dest
unfolding Arrives GivesValue is_kept
returned t ty number p arguments dest callee found None e h s =
    λ g. no (sym g.2 ∙ ap (λ (it : Instance). is_some it.result) (same_Some g.0 callee (sym g.1 ∙ found)) ∙ ap is_some e)
  where
    no : true ≡ false → ⊥
    no e = cc
returned t ty number p arguments dest callee found (Some info) e h s =
    (arrives t (T.Call' ty number p arguments) dest s, subst (λ (shape : Option ℕ). Stands (is_none shape) dest) (sym h) s)

-- a call, whose result goes there
pub called_grows : (lacks : Type 0) (t : Typed) (i : Instance) (l : Layout) (n : ℕ) (ty : ValueType) (number : ℕ) (p : _) (arguments : Row_of-TExpr _) (vs : List Out) (dest : Out) (d : Draft) → Calls t number ty (items-the_row-TExpr _ arguments) → IsReadyOr lacks t i l n d →
    AllZip (Arrives t) (items-the_row-TExpr _ arguments) vs → Stands (is_none ty.shape) dest →
    GrowsOr lacks d (call_length (slice_get t.instances.items number) (length (items-the_row-TExpr _ arguments))) (Arrives t (T.Call' ty number p arguments)) (called t l number vs dest d)
unfolding called call_length
called_grows lacks t i l n ty number p arguments vs dest d c r a s =
    let es = items-the_row-TExpr _ arguments in
    let instance = slice_get t.instances.items number in
    let P = Arrives t (T.Call' ty number p arguments) in
    let bases = r.bases in
    let there = slice_get_within t.instances.items number c.callee c.found in
    sized lacks P d _ _ _ (ap (λ (o : Option Instance). call_length o (length vs)) (sym c.found) ∙ ap (call_length instance) (AllZip-long (Arrives t) es vs a))
    (found_grows lacks P d _ instance c.callee _ c.found (found_grows lacks P d _ (slice_get l.bases number) _ _ (slice_get-get_or l.bases number 0 (omega (arith, bases, there)))
    (passed_grows lacks P number c.callee.result c.callee.params.items vs _ 0 dest d (arguments_given t c.callee.params.items es vs c.given a)
    (returned t ty number p arguments dest c.callee c.found c.callee.result refl c.result s))))
