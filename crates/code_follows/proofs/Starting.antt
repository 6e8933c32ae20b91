-- The initialisers of the variables of a block.
use Rattle.std.proofs.Common.{◌≡◌, ◌∙◌, ℕ, ◌+◌, ◌<◌, ◌^◌, Bool, true, false, not, List, [], ◌∷◌, map, length, Option, Some, None, refl, sym, ap, subst, if◌then◌else◌, arith, inl, inr, ◌⊎◌}
use Rattle.std.specs.Prelude.{IfSome, is_none}
use Rattle.std.specs.List.{All}
use Rattle.cstar_tree.specs.declared.typed.LocalVar.{LocalVar}
use Rattle.cstar_tree.specs.declared.typed.TExpr.{TExpr}
use Rattle.cstar_tree.specs.declared.typed.VarInfo.{VarInfo}
use Rattle.cstar_tree.specs.declared.typed.Variable.{Variable}
use Rattle.cstar_tree.specs.declared.typed.Variable.TheVariants as V
use Rattle.cstar_tree.specs.Typed.{type_of}
use Rattle.cstar_tree.specs.Variables.{variables_of}
use Rattle.code_lengths.specs.Growth.{Anything, GrowsOr, Stands}
use Rattle.code_lengths.specs.LowerableStatements.{IsLowerableLocal}
use Rattle.code_lengths.specs.Naming.{IsDeclared, NamesVariables}
use Rattle.code_lengths.specs.NamingStatements.{InitialsNameVariables, StandFrom}
use Rattle.code_lengths.specs.Ready.{HasCode, HasDeclared, IsReadyButForFields}
use Rattle.code_lengths.specs.ShapedStatements.{AreShapedLocals, IsShapedInitial}
use Rattle.code_lengths.proofs.Agreeing.{lengths_if_made}
use Rattle.code_lengths.proofs.Declaring.{info_of}
use Rattle.code_lengths.proofs.Drafting.{bind, weaker}
use Rattle.code_lengths.proofs.Homes.{still_declared}
use Rattle.code_lengths.proofs.Readiness.{made_field_grows}
use Rattle.code_lengths.proofs.StatementLengths.{one_entry_of}
use Rattle.lower_base.specs.declared.emit.Out.{Out}
use Rattle.lower_base.specs.declared.emit.Out.TheVariants as O
use Rattle.lower_base.specs.Drafts.{Draft, Fails, Made, Makes, first_bits, step as step_of, then_make, with_instr}
use Rattle.lower_base.specs.Layouts.{field_of, register_of}
use Rattle.lower_expr.specs.Effects.{computed_to, put_length, put_to}
use Rattle.lower_expr.specs.Operands.{standing}
use Rattle.lower_expr.specs.Steps.{has_word, register_word, word_for, word_put}
use Rattle.lower_stmt.specs.Variables.{all_initialised, begins_constant, initialised as initialised_in, variable_of}
use Rattle.paris_code.specs.declared.instr.Instr.TheVariants as I
use Rattle.paris_code.specs.declared.operands.Field.{Field}
use Rattle.paris_code.specs.Code.{CodeState, begun, with_register}
use Rattle.source_meaning.specs.Constants.{constant_of, is_constant, then_value}
use Rattle.source_meaning.specs.Constants as Const
use Rattle.source_meaning.proofs.ConstantLaws.{value_means}
use Rattle.source_meaning.specs.Expressions.{evaluated}
use Rattle.source_meaning.specs.State as Source
use Rattle.source_meaning.specs.State.{Outcome, State, is_among, is_same, then_do, with_scalar}
use Rattle.source_meaning.specs.Statements.{Broke, Continued, Leaving, Onward, Returned, initialised, initialised_one, then_go}
use Rattle.source_meaning.specs.Targets.{OfScalar, Target, stored, variable_target}
use Rattle.source_meaning.specs.Values.{Active, Scalar, Scope, Value, number}
use Rattle.code_follows.specs.Fragment.{AreInitials, IsAssigned, IsIn, IsInitial, IsScalarLocal, OrAmong, Takes, within, naming}
use Rattle.code_follows.proofs.Besides.{IsCoded, initial_code}
use Rattle.code_follows.proofs.Declaring.{Started, Waits, never_begins, AreBefore, among_before, itself_among, later_among, one_among, first_is_named, others_stand, sim_fewer, started_before}
use Rattle.code_follows.proofs.Growing.{Extended, as_it_was, then_three}
use Rattle.code_follows.proofs.Lists.{all_first, all_rest}
use Rattle.code_follows.proofs.Executing.{RanOn, gives, no_break, no_continue, no_return, ran_from}
use Rattle.code_follows.proofs.Callees.{CallsFollow}
use Rattle.code_follows.proofs.Following.{Extends, Follows, HasRegisters, IsScalar, Keeps, Ran, Sim, delayed, extends_then, finished, finishes_later, follows_other, held, keeps_all, then_follows, variable_kept}
use Rattle.code_follows.proofs.Putting.{put_follows}
use Rattle.code_follows.proofs.Settings.{begun_fewer, At, Begun, Reaches, Setting, and_one, at_next, begins_here, begun_later, layout, one, regs_more, stay}
use Rattle.code_follows.proofs.Standing.{some_same}
use Rattle.code_follows.proofs.Stores.{below_free, same_itself, sim_begun}
use Rattle.code_follows.proofs.Values.{extends_grown}
use Rattle.code_follows.proofs.Words.{among_widened, constant_below, kept, widened}
use Rattle.code_follows.proofs.Numbers.{fits_held, takes_fits, takes_same}
use Rattle.constant_trees.proofs.Words.{converted_below}
use Rattle.cstar_base.specs.declared.elem.Elem.{Elem}
use Rattle.cstar_base.specs.Numbers.{converted}

-- statements that follow an assignment
go_do : {A : Type 0} (o : Outcome A) (h : A → State → State) (k : State → Outcome Leaving) → then_go (then_do o (λ v after. Source.Gives Onward (h v after))) k ≡ then_do o (λ v after. k (h v after))
unfolding then_go then_do
go_do (Source.Gives v u) h k = refl
go_do (Source.Ends early u) h k = refl

-- an expression that is a constant, with the word that holds it
record StandsAsWord (e : TExpr) (word : ℕ) : Type 0 where
  pub value : ℕ
  pub constant : is_constant e ≡ true
  pub is : Const.value_of e ≡ Some value
  pub same : held (type_of e).elem value ≡ word
  pub stands : register_word e ≡ Some word

stands_as : (e : TExpr) (word : ℕ) → register_word e ≡ Some word → StandsAsWord e word
unfolding register_word constant_of
stands_as e word h = by (is_constant e) (Const.value_of e) refl refl h
  where
    by : (b : Bool) (v : Option ℕ) → is_constant e ≡ b → Const.value_of e ≡ v → then_value (if b then v else None) (λ w. Some (held (type_of e).elem w)) ≡ Some word → StandsAsWord e word
    by true (Some w) is_c is_v is = record { value = w; constant = is_c; is = is_v; same = some_same (held (type_of e).elem w) word is; stands = h }
    by true None is_c is_v is = cc
    by false v is_c is_v is = cc

-- a variable begins as a constant, or with another value
begins_either : {A : Type 0} (local : LocalVar) (e : TExpr) → local.initial ≡ Some e → (b : Bool) → begins_constant local ≡ b → ((word : ℕ) → StandsAsWord e word → A) → (begins_constant local ≡ false → A) → A
unfolding begins_constant has_word
begins_either local e is false begins one other = other begins
begins_either {A = A} local e is true begins one other = by (register_word e) refl (sym (ap (λ (o : Option TExpr). elim o as (λ _. Bool) [ None ↦ false | Some e ↦ has_word true e ]) is) ∙ begins)
  where
    by : (o : Option ℕ) → register_word e ≡ o → not (is_none (register_word e)) ≡ true → A
    by (Some word) there h = one word (stands_as e word there)
    by None there h = let none : not (is_none (register_word e)) ≡ false = ap (λ (o : Option ℕ). not (is_none o)) there in cc

-- only a scalar variable that begins as a constant waits
never_constant : (local : LocalVar) → begins_constant local ≡ false → Waits local → ⊥
never_constant local begins w = let wrong = sym begins ∙ w.0 in cc

never_parallel : (local : LocalVar) (set : ℕ) → local.info.shape ≡ Some set → Waits local → ⊥
never_parallel local set shaped w = let wrong = sym w.1 ∙ shaped in cc

declared_itself : (n : ℕ) → IsDeclared (n + 1) (V.Local n)
unfolding IsDeclared
declared_itself n = omega arith

module _ (g : Setting) where
  -- behind what is made so many variables of blocks are declared
  unfoldable pub DeclaredBy : {A : Type 0} → ℕ → Made A → Type 0
  DeclaredBy m (Makes x e) = HasDeclared g.typed g.instance (layout g) m e
  DeclaredBy m Fails = Unit {0}

  pub declared_grown : {A : Type 0} (lacks : Type 0) (m : ℕ) (P : A → Type 0) (d : Draft) (n : ℕ) (made : Made A) → HasDeclared g.typed g.instance (layout g) m d → GrowsOr lacks d n P made → DeclaredBy m made
  unfolding DeclaredBy GrowsOr
  declared_grown lacks m P d n (Makes x e) known h = still_declared g.typed g.instance (layout g) m d e n h.1 known
  declared_grown lacks m P d n Fails known h = tt

  declared_then : {A B : Type 0} (m : ℕ) (made : Made A) (next : A → Draft → Made B) → DeclaredBy m made → ((x : A) (e : Draft) → HasDeclared g.typed g.instance (layout g) m e → DeclaredBy m (next x e)) → DeclaredBy m (then_make made next)
  unfolding DeclaredBy then_make
  declared_then m (Makes x e) next known f = f x e known
  declared_then m Fails next known f = tt

module _ (g : Setting) (has : HasRegisters g) (alive : Variable → Type 0) (files : (k : ℕ) → alive (V.File k)) (ready : (n : ℕ) (d : Draft) → IsReadyButForFields g.typed g.instance (layout g) n d) (scope : Scope) (active : Active) (calls_follow : CallsFollow g scope active) where
  pub go_after : {B D : Type 0} (d : Draft) (s : CodeState) (Q : Leaving → State → D → Draft → Type 0) (o : Outcome Leaving) (k : State → Outcome Leaving) (y : B) (e : Draft) (made : Made D) → Follows g (RanOn g alive d s) s o (Makes y e) → Extends g e made
      → ((u : State) → Ran g alive d s u e → Follows g Q s (k u) made) → Follows g Q s (then_go o k) made
  unfolding Follows then_go
  go_after d s Q (Source.Gives Onward u) k y e made h grows next = delayed g Q e s (k u) made grows (λ w. next u (h w).1)
  go_after d s Q (Source.Gives Broke u) k y e made h grows next = delayed g Q e s (Source.Gives Broke u) made grows (λ w. absurd (no_break (h w).0))
  go_after d s Q (Source.Gives Continued u) k y e made h grows next = delayed g Q e s (Source.Gives Continued u) made grows (λ w. absurd (no_continue (h w).0))
  go_after d s Q (Source.Gives (Returned v) u) k y e made h grows next = delayed g Q e s (Source.Gives (Returned v) u) made grows (λ w. absurd (no_return v (h w).0))
  go_after d s Q (Source.Ends early u) k y e made h grows next = finished g Q e s early u made grows h

  run_from : {A : Type 0} (d e : Draft) (n : ℕ) (s t : CodeState) (o : Outcome Leaving) (made : Made A) → Extended d n e → Reaches g s t → Keeps g d s t → Follows g (RanOn g alive e t) t o made → Follows g (RanOn g alive d s) s o made
  unfolding Follows
  run_from d e n s t (Source.Gives leaving u) (Makes y f) x go keeps h = λ w. ((h w).0, ran_from g alive d e n s t u f x go keeps (h w).1)
  run_from d e n s t (Source.Ends early u) (Makes y f) x go keeps h = λ w. finishes_later g early u s t go (h w)
  run_from d e n s t (Source.Gives leaving u) Fails x go keeps h = tt
  run_from d e n s t (Source.Ends early u) Fails x go keeps h = tt

  -- the initialisers from a number on have code
  unfoldable pub AreCoded : ℕ → List LocalVar → Type 0
  AreCoded n [] = Unit {0}
  AreCoded n (local ∷ locals) = IfSome local.initial (IsCoded g n local.info) × AreCoded (n + 1) locals

  pub coded : (n : ℕ) (locals : List LocalVar) → AreShapedLocals locals → All (IsLowerableLocal g.typed) locals → InitialsNameVariables g.typed g.instance n locals → StandFrom (variables_of g.instance.body) n (map info_of locals) → AreCoded n locals
  unfolding AreCoded AreShapedLocals IsShapedInitial InitialsNameVariables
  coded n [] shaped lowerable names stand = tt
  coded n (local ∷ locals) shaped lowerable names stand = (
    by local.initial shaped.0 (all_first (IsLowerableLocal g.typed) local locals lowerable) names.0,
    coded (n + 1) locals shaped.1 (all_rest (IsLowerableLocal g.typed) local locals lowerable) names.1 (others_stand g n local.info (map info_of locals) stand),
  )
    where
      by : (o : Option TExpr) → IsShapedInitial local.info o → IsLowerableLocal g.typed (record local { initial = o }) → IfSome o (NamesVariables g.typed g.instance (n + 1)) → IfSome o (IsCoded g n local.info)
      by None shape lower name = tt
      by (Some e) shape lower name =
          record { code = record { shaped = shape.1; lowerable = lower.2; names = name }; named = first_is_named g n local.info (map info_of locals) stand; plain = lower.0; value = lower.1 }

  -- the variables that are alive so far into a block
  abbrev pub Now : List LocalVar → ℕ → Variable → Type 0
  Now locals n x = alive x × Started locals n x

  -- An initialiser, whose number a scalar variable takes: it names what is alive there, unless it is a constant. One of a
  -- parallel variable may be assigned to it.
  abbrev Begins : LocalVar → List LocalVar → ℕ → TExpr → Type 0
  Begins local locals n e =
      (IsScalarLocal local × IsIn (naming g.may alive) e × Takes local.info.elem (type_of e).elem × (begins_constant local ≡ false → IsIn (naming g.may (λ z. Now (local ∷ locals) n z)) e))
      ⊎ ((set : ℕ) × ((local.info.shape ≡ Some set) × IsAssigned (naming g.may (λ z. Now (local ∷ locals) n z)) n local.info e))

  -- the initialisers from a number on are so
  unfoldable pub AreSettled : ℕ → List LocalVar → Type 0
  AreSettled n [] = Unit {0}
  AreSettled n (local ∷ locals) = alive (V.Local n) × IfSome local.initial (λ e. Begins local locals n e) × AreSettled (n + 1) locals

  -- those of the fragment are: what they may name is alive, and declared before what still waits
  pub settled_so : (names : Variable → Type 0) (locals : List LocalVar) (n : ℕ) → ((x : Variable) → names x → alive x) → ((x : Variable) → is_among n (length locals) x ≡ true → alive x) → AreBefore names n
      → AreInitials (naming g.may names) n locals → AreSettled n locals
  unfolding AreSettled AreInitials Started
  settled_so names [] n lives own declared h = tt
  settled_so names (local ∷ locals) n lives own declared h = (
    own (V.Local n) (itself_among n (length locals)),
    by local.initial h.0,
    settled_so (λ x. OrAmong names n 1 x) locals (n + 1) here (λ x among. own x (later_among n (length locals) x among)) named h.1,
  )
    where
      here : (x : Variable) → OrAmong names n 1 x → alive x
      here x (inl k) = lives x k
      here x (inr among) = own x (one_among n (length locals) x among)

      named : AreBefore (λ x. OrAmong names n 1 x) (n + 1)
      named x living = among_before names n 1 declared x living

      now : (Waits local → ⊥) → (x : Variable) → OrAmong names n 1 x → Now (local ∷ locals) n x
      now never x living = (here x living, ((λ w same. never w), started_before locals (n + 1) (n + 1) x (omega arith) (named x living)))

      by : (o : Option TExpr) → IfSome o (λ e. IsInitial (within (naming g.may names) n 1) n local e) → IfSome o (λ e. Begins local locals n e)
      by None k = tt
      by (Some e) (inl k) = inl (k.0, widened (within (naming g.may names) n 1) alive here e k.1, k.2, λ begins. widened (within (naming g.may names) n 1) (λ z. Now (local ∷ locals) n z) (now (λ w. never_constant local begins w)) e k.1)
      by (Some e) (inr (set, (shaped, (place, (p, (q, k)))))) =
          inr (set, (shaped, (place, (p, (q, (k.0, among_widened (λ x. OrAmong names n 1 x) (λ z. Now (local ∷ locals) n z) (now (λ w. never_parallel local set shaped w)) _ k.1))))))

  -- the code of one
  variable_is : (info : VarInfo) (n : ℕ) (d : Draft) → info.shape ≡ None → variable_of g.typed (layout g) info n d ≡ Makes (O.Scalar (register_of (layout g) (V.Local n))) d
  unfolding variable_of standing
  variable_is info n d plain =
      ap (λ (o : Option ℕ). elim o as (λ _. Made Out) [
        | None ↦ Makes (O.Scalar (register_of (layout g) (V.Local n))) d
        | Some s ↦ then_make (field_of g.typed (layout g) (V.Local n) 0 d) (λ f after. Makes (O.Field (first_bits info.elem.bits f)) after)
      ]) plain

  abbrev initial_put : VarInfo → ℕ → Option TExpr → Draft → Made (Unit {0})
  initial_put info n o d = elim o [
    | None ↦ Makes tt d
    | Some e ↦ then_make (variable_of g.typed (layout g) info n d) (λ dest between. then_make (put_to g.typed (layout g) dest e between) (λ u after. Makes tt after))
  ]

  put_is : {A : Type 0} (info : VarInfo) (n : ℕ) (e : TExpr) (d : Draft) (next : Unit {0} → Draft → Made A) → then_make (initial_put info n (Some e) d) next ≡ then_make (initial_code g n info e d) (λ out after. next tt after)
  unfolding then_make
  put_is info n e d next = by (variable_of g.typed (layout g) info n d)
    where
      by : (m : Made Out) → then_make (then_make m (λ dest between. then_make (put_to g.typed (layout g) dest e between) (λ u after. Makes tt after))) next ≡ then_make (then_make m (λ dest between. put_to g.typed (layout g) dest e between)) (λ out after. next tt after)
      by (Makes dest between) = then_three (put_to g.typed (layout g) dest e between) (λ u after. Makes tt after) next
      by Fails = refl

  scalar_code : (info : VarInfo) (n : ℕ) (e : TExpr) (d : Draft) → info.shape ≡ None → initial_code g n info e d ≡ put_to g.typed (layout g) (O.Scalar (register_of (layout g) (V.Local n))) e d
  unfolding then_make
  scalar_code info n e d plain = ap (λ (m : Made Out). then_make m (λ dest between. put_to g.typed (layout g) dest e between)) (variable_is info n d plain)

  -- its register holds what is put there
  put_grows : (n : ℕ) (e : TExpr) (d : Draft) → (IsIn (naming g.may alive)) e → HasCode g.typed g.instance (n + 1) e → GrowsOr (Unit {0}) d (put_length g.typed (layout g) true 32 e) (Stands true) (put_to g.typed (layout g) (O.Scalar (register_of (layout g) (V.Local n))) e d)
  put_grows n e d h k =
      (lengths_if_made g.typed g.instance (layout g)).put_register (register_of (layout g) (V.Local n)) (n + 1) e d k (gives g alive has files (n + 1) (ready (n + 1)) scope active calls_follow e h, kept (naming g.may alive) e h) (ready (n + 1) d)

  -- the code of an initialiser
  initial_grows : (local : LocalVar) (locals : List LocalVar) (n : ℕ) (e : TExpr) (d : Draft) → Begins local locals n e → IsCoded g n local.info e → (many : ℕ) × GrowsOr (Unit {0}) d many Anything (initial_code g n local.info e d)
  unfolding variable_of standing then_make first_bits
  initial_grows local locals n e d (inl h) c =
      (_, subst (λ (m : Made Out). GrowsOr (Unit {0}) d (put_length g.typed (layout g) true 32 e) Anything m) (sym (scalar_code local.info n e d h.0)) (weaker (Unit {0}) (Stands true) Anything d _ _ (λ x stands. tt) (put_grows n e d h.1 c.code)))
  initial_grows local locals n e d (inr (set, (shaped, h))) c =
      let info : VarInfo = local.info in
      let parallel : is_none info.shape ≡ false = ap is_none shaped in
      let once = one_entry_of info c.plain parallel in
      let declared : IsDeclared (n + 1) (V.Local n) = declared_itself n in
      let there = (ready (n + 1) d).fields (V.Local n) info 0 c.named declared parallel (omega (arith, once)) in
      let next : Out → Draft → Made Out = λ dest after. put_to g.typed (layout g) dest e after in
      let whole : Field → Draft → Made Out = λ f after. Makes (O.Field (first_bits info.elem.bits f)) after in (
        _,
        subst (λ (o : Option ℕ). GrowsOr (Unit {0}) d (0 + put_length g.typed (layout g) false info.elem.bits e) Anything
            (then_make (elim o as (λ _. Made Out) [ None ↦ Makes (O.Scalar (register_of (layout g) (V.Local n))) d | Some s ↦ then_make (field_of g.typed (layout g) (V.Local n) 0 d) whole ]) next)) (sym shaped)
            (subst (λ (m : Made Out). GrowsOr (Unit {0}) d (0 + put_length g.typed (layout g) false info.elem.bits e) Anything m) (sym (then_three (field_of g.typed (layout g) (V.Local n) 0 d) whole next))
            (bind (Unit {0}) Anything Anything d 0 (put_length g.typed (layout g) false info.elem.bits e) _ _ (made_field_grows (Unit {0}) g.typed (layout g) (V.Local n) 0 d there) (λ f after known.
            weaker (Unit {0}) (Stands false) Anything after _ _ (λ x stands. tt) ((lengths_if_made g.typed g.instance (layout g)).put_field (first_bits info.elem.bits f) (n + 1) e after c.code c.value.gives (c.value.parallel parallel) (ready (n + 1) after))))),
      )

  pub initials_grow : (locals : List LocalVar) (n : ℕ) (d : Draft) → AreSettled n locals → AreCoded n locals → Extends g d (all_initialised g.typed (layout g) locals n d)
  unfolding all_initialised initialised_in AreCoded AreSettled Extends then_make
  initials_grow [] n d settled c = (0, as_it_was d)
  initials_grow (local ∷ locals) n d settled c = by local.initial settled.1 c.0 (λ e. initials_grow locals (n + 1) e settled.2 c.1)
    where
      by : (o : Option TExpr) → IfSome o (λ e. Begins local locals n e) → IfSome o (IsCoded g n local.info) → ((e : Draft) → Extends g e (all_initialised g.typed (layout g) locals (n + 1) e)) → Extends g d (then_make (initial_put local.info n o d) (λ u after. all_initialised g.typed (layout g) locals (n + 1) after))
      by None h k rest = rest d
      by (Some e) h k rest =
          subst (λ (m : Made (Unit {0})). Extends g d m) (sym (put_is local.info n e d (λ u after. all_initialised g.typed (layout g) locals (n + 1) after)))
          (extends_then g d (initial_code g n local.info e d) (λ out after. all_initialised g.typed (layout g) locals (n + 1) after) (extends_grown g has alive _ d _ _ (initial_grows local locals n e d h k).1) (λ out after. rest after))

  -- they declare nothing
  pub initials_declared : (locals : List LocalVar) (n m : ℕ) (d : Draft) → AreSettled n locals → AreCoded n locals → HasDeclared g.typed g.instance (layout g) m d → DeclaredBy g m (all_initialised g.typed (layout g) locals n d)
  unfolding all_initialised initialised_in AreCoded AreSettled DeclaredBy then_make
  initials_declared [] n m d settled c known = known
  initials_declared (local ∷ locals) n m d settled c known = by local.initial settled.1 c.0 (λ e known_e. initials_declared locals (n + 1) m e settled.2 c.1 known_e)
    where
      by : (o : Option TExpr) → IfSome o (λ e. Begins local locals n e) → IfSome o (IsCoded g n local.info) → ((e : Draft) → HasDeclared g.typed g.instance (layout g) m e → DeclaredBy g m (all_initialised g.typed (layout g) locals (n + 1) e))
          → DeclaredBy g m (then_make (initial_put local.info n o d) (λ u after. all_initialised g.typed (layout g) locals (n + 1) after))
      by None h k rest = rest d known
      by (Some e) h k rest =
          subst (λ (made : Made (Unit {0})). DeclaredBy g m made) (sym (put_is local.info n e d (λ u after. all_initialised g.typed (layout g) locals (n + 1) after)))
          (declared_then g m (initial_code g n local.info e d) (λ out after. all_initialised g.typed (layout g) locals (n + 1) after)
          (declared_grown g (Unit {0}) m _ d _ _ known (initial_grows local locals n e d h k).1) (λ out after. rest after))

  -- a value is stored in the next variable, which is alive behind it
  abbrev Stores : List LocalVar → ℕ → TExpr → Draft → CodeState → State → Target → Made Out → Type 0
  Stores locals n e d s st there made = Follows g (λ v u (out : Out) f. Ran g (λ z. Now locals (n + 1) z) d s (stored active there v u) f) s (evaluated scope e active st) made

  abbrev Puts_one : LocalVar → List LocalVar → ℕ → TExpr → Draft → CodeState → State → Type 0
  Puts_one local locals n e d s st = Stores locals n e d s st (OfScalar (V.Local n)) (put_to g.typed (layout g) (O.Scalar (register_of (layout g) (V.Local n))) e d)

  -- a constant
  constant_put : (local : LocalVar) (locals : List LocalVar) (n : ℕ) (e : TExpr) (word : ℕ) (d : Draft) (s : CodeState) (st : State) → IsScalar g (V.Local n) local.info → Takes local.info.elem (type_of e).elem → (IsIn (naming g.may alive)) e → StandsAsWord e word → Begun g alive d → At g s (length d.code) → Sim g (λ z. Now (local ∷ locals) n z) st s
      → Puts_one local locals n e d s st
  unfolding put_to word_for word_put Follows begun step_of Started stored number
  constant_put local locals n e word d s st scalar takes isin c free at sim =
      let r : ℕ = register_of (layout g) (V.Local n) in
      let i = I.FrontConst r word in
      let from : Elem = (type_of e).elem in
      let few : c.value < 2 ^ from.bits = subst (λ (o : Option ℕ). IfSome o (λ v. v < 2 ^ from.bits)) c.is (constant_below (naming g.may alive) e isin) in
      let same : converted local.info.elem from c.value ≡ c.value = takes_same local.info.elem from c.value takes few in
      let own_few : c.value < 2 ^ local.info.elem.bits = subst (λ (w : ℕ). w < 2 ^ local.info.elem.bits) same (converted_below local.info.elem from c.value) in
      let gives_it : evaluated scope e active st ≡ Source.Gives (Scalar c.value) st = subst (λ (o : Option ℕ). Const.IsValueOf e o) c.is (value_means e c.constant) scope active st in
      let is_held : held local.info.elem c.value ≡ word = ap (held local.info.elem) (sym same) ∙ sym (fits_held local.info.elem from c.value (takes_fits local.info.elem from takes) few) ∙ c.same in
      subst (λ (o : Outcome Value). Follows g stores s o (put_to g.typed (layout g) (O.Scalar r) e d)) (sym gives_it)
      (subst (λ (m : Made Out). Follows g stores s (Source.Gives (Scalar c.value) st) m)
      (sym (ap (λ (o : Option ℕ). elim o as (λ _. Made Out) [ Some w ↦ Makes (O.Scalar r) (with_instr (I.FrontConst r w) d) | None ↦ computed_to g.typed (layout g) (O.Scalar r) e d ]) c.stands))
      (λ within.
      let low = below_free g has (V.Local n) local.info scalar in
      let more = regs_more g i d in
      let inside : r < length s.registers = omega (arith, low, free, within.regs, more, sim.registers) in
      let t : CodeState = with_register r word s in
      record {
        grown = (1, and_one g i d);
        t = t;
        go = one g s t (begins_here g i d s within refl at) refl;
        at = at_next g i d s (s.at + 1) at refl;
        keeps = variable_kept g d s (V.Local n) local.info word has scalar.0;
        sim = subst (λ (w : ℕ). Sim g (λ z. Now locals (n + 1) z) (with_scalar (V.Local n) c.value st) (with_register r w s)) is_held
            (sim_begun g has (V.Local n) local.info scalar (λ z. Now (local ∷ locals) n z) (λ z. Now locals (n + 1) z) (λ y later other. (later.0, ((λ w e. no_other y other e), later.1))) st s c.value own_few inside sim);
      }))
    where
      stores : Value → State → Out → Draft → Type 0
      stores v u out f = Ran g (λ z. Now locals (n + 1) z) d s (stored active (OfScalar (V.Local n)) v u) f

      no_other : (y : Variable) → is_same (V.Local n) y ≡ false → y ≡ V.Local n → ⊥
      no_other y other e = let same : is_same (V.Local n) y ≡ true = ap (λ (z : Variable). is_same (V.Local n) z) e ∙ same_itself (V.Local n) in cc

  -- what does not wait is alive where its turn comes, and behind it
  still : (local : LocalVar) (locals : List LocalVar) (n : ℕ) → (Waits local → ⊥) → (y : Variable) → alive y → IsDeclared (n + 1) y → Now (local ∷ locals) n y
  unfolding Started
  still local locals n never y h declared = (h, ((λ w e. never w), started_before locals (n + 1) (n + 1) y (omega arith) declared))

  turn_passed : (local : LocalVar) (locals : List LocalVar) (n : ℕ) (s : CodeState) (st : State) → (Waits local → ⊥) → Sim g (λ z. Now (local ∷ locals) n z) st s → Sim g (λ z. Now locals (n + 1) z) st s
  unfolding Started
  turn_passed local locals n s st never sim = sim_fewer g (λ z. Now (local ∷ locals) n z) (λ z. Now locals (n + 1) z) st s (λ y info named later. (later.0, ((λ w e. never w), later.1))) sim

  -- any other value
  value_put : (local : LocalVar) (locals : List LocalVar) (n : ℕ) (e : TExpr) (d : Draft) (s : CodeState) (st : State) → begins_constant local ≡ false → IsScalar g (V.Local n) local.info → alive (V.Local n) → Takes local.info.elem (type_of e).elem → (IsIn (naming g.may (λ z. Now (local ∷ locals) n z))) e → HasCode g.typed g.instance (n + 1) e
      → Begun g alive d → At g s (length d.code) → Sim g (λ z. Now (local ∷ locals) n z) st s → Puts_one local locals n e d s st
  unfolding Started IsDeclared stored number
  value_put local locals n e d s st begins scalar living takes isin c free at sim =
      follows_other g _ _ s (evaluated scope e active st) (put_to g.typed (layout g) (O.Scalar (register_of (layout g) (V.Local n))) e d)
      (put_follows g has (λ z. Now (local ∷ locals) n z) (n + 1) (λ j. now (V.File j) (files j) tt) (ready (n + 1)) scope active calls_follow (V.Local n) local.info (now (V.Local n) living (declared_itself n)) scalar e isin c (takes_fits local.info.elem (type_of e).elem takes) d s st (begun_fewer g alive (λ z. Now (local ∷ locals) n z) d (λ x h. h.0) free) at sim)
      (λ v u out f p.
      let put : Ran g (λ z. Now locals (n + 1) z) d s (with_scalar (V.Local n) p.word u) f =
      record { grown = p.grown; t = p.t; go = p.go; at = p.at; keeps = p.keeps; sim = turned p.t (with_scalar (V.Local n) p.word u) (subst (λ (w : ℕ). Sim g (λ z. Now (local ∷ locals) n z) (with_scalar (V.Local n) w u) p.t) (takes_same local.info.elem (type_of e).elem p.word takes p.small) p.sim) } in
      subst (λ (w : Value). Ran g (λ z. Now locals (n + 1) z) d s (stored active (OfScalar (V.Local n)) w u) f) (sym p.value) put)
    where
      now : (y : Variable) → alive y → IsDeclared (n + 1) y → Now (local ∷ locals) n y
      now = still local locals n (λ w. never_constant local begins w)

      turned : (t : CodeState) (u : State) → Sim g (λ z. Now (local ∷ locals) n z) u t → Sim g (λ z. Now locals (n + 1) z) u t
      turned t u = turn_passed local locals n t u (λ w. never_constant local begins w)

  -- each initialiser stores its value
  initial_stores : (local : LocalVar) (locals : List LocalVar) (n : ℕ) (e : TExpr) (d : Draft) (s : CodeState) (st : State) → local.initial ≡ Some e → alive (V.Local n) → Begins local locals n e → IsCoded g n local.info e → Begun g alive d → At g s (length d.code) → Sim g (λ z. Now (local ∷ locals) n z) st s
      → Stores locals n e d s st (variable_target local.info.shape (V.Local n) 0) (initial_code g n local.info e d)
  unfolding variable_target IsDeclared
  initial_stores local locals n e d s st is living (inl h) c free at sim =
      let scalar : IsScalar g (V.Local n) local.info = (c.named, h.0) in
      subst (λ (o : Option ℕ). Stores locals n e d s st (variable_target o (V.Local n) 0) (initial_code g n local.info e d)) (sym h.0)
      (subst (λ (m : Made Out). Stores locals n e d s st (OfScalar (V.Local n)) m) (sym (scalar_code local.info n e d h.0))
      (begins_either local e is (begins_constant local) refl (λ word w. constant_put local locals n e word d s st scalar h.2 h.1 w free at sim) (λ begins. value_put local locals n e d s st begins scalar living h.2 (h.3 begins) c.code free at sim)))
  initial_stores local locals n e d s st is living (inr (set, (shaped, h))) c free at sim =
      let never : Waits local → ⊥ = λ w. never_parallel local set shaped w in
      follows_other g _ _ s (evaluated scope e active st) (initial_code g n local.info e d)
      ((calls_follow.beside has).initials (λ z. Now (local ∷ locals) n z) (λ j. still local locals n never (V.File j) (files j) tt) n (ready (n + 1)) local.info set e shaped h c d s st (begun_fewer g alive (λ z. Now (local ∷ locals) n z) d (λ x h. h.0) free) at sim)
      (λ v u out f ran. record { grown = ran.grown; t = ran.t; go = ran.go; at = ran.at; keeps = ran.keeps; sim = turn_passed local locals n ran.t _ never ran.sim })

  pub initials_follow : (locals : List LocalVar) (n : ℕ) (d : Draft) (s : CodeState) (st : State) → AreSettled n locals → AreCoded n locals → Begun g alive d → At g s (length d.code) → Sim g (λ z. Now locals n z) st s
      → Follows g (RanOn g alive d s) s (initialised scope active n locals st) (all_initialised g.typed (layout g) locals n d)
  unfolding all_initialised initialised_in initialised initialised_one AreCoded AreSettled Follows then_make then_go Started
  initials_follow [] n d s st settled c free at sim = λ within. (refl, record { grown = (0, as_it_was d); t = s; go = stay g s; at = at; sim = sim_fewer g (λ z. Now [] n z) alive st s (λ x info named h. (h, tt)) sim; keeps = keeps_all g d s })
  initials_follow (local ∷ locals) n d s st settled c free at sim = by local.initial refl settled.1 c.0 (λ e t u free_e at_e sim_e. initials_follow locals (n + 1) e t u settled.2 c.1 free_e at_e sim_e)
    where
      there : Target
      there = variable_target local.info.shape (V.Local n) 0

      by : (o : Option TExpr) → local.initial ≡ o → IfSome o (λ e. Begins local locals n e) → IfSome o (IsCoded g n local.info)
          → ((e : Draft) (t : CodeState) (u : State) → Begun g alive e → At g t (length e.code) → Sim g (λ z. Now locals (n + 1) z) u t → Follows g (RanOn g alive e t) t (initialised scope active (n + 1) locals u) (all_initialised g.typed (layout g) locals (n + 1) e))
          → Follows g (RanOn g alive d s) s (then_go (initialised_one scope active there o st) (initialised scope active (n + 1) locals)) (then_make (initial_put local.info n o d) (λ u after. all_initialised g.typed (layout g) locals (n + 1) after))
      by None is h k rest = rest d s st free at (turn_passed local locals n s st (λ w. never_constant local (never_begins local is) w) sim)
      by (Some e) is h k rest =
          let next : Draft → Made (Unit {0}) = λ after. all_initialised g.typed (layout g) locals (n + 1) after in
          let go_on : State → Outcome Leaving = λ u. initialised scope active (n + 1) locals u in
          subst (λ (m : Made (Unit {0})). Follows g (RanOn g alive d s) s (then_go (initialised_one scope active there (Some e) st) go_on) m) (sym (put_is local.info n e d (λ u after. next after)))
          (subst (λ (o : Outcome Leaving). Follows g (RanOn g alive d s) s o (then_make (initial_code g n local.info e d) (λ out after. next after))) (sym (go_do (evaluated scope e active st) (λ v after. stored active there v after) go_on))
          (then_follows g (λ v u (out : Out) f. Ran g (λ z. Now locals (n + 1) z) d s (stored active there v u) f) (RanOn g alive d s) s s (evaluated scope e active st) (λ v after. go_on (stored active there v after)) (initial_code g n local.info e d) (λ out after. next after) (stay g s)
          (initial_stores local locals n e d s st is settled.0 h k free at sim) (λ out after. initials_grow locals (n + 1) after settled.2 c.1)
          (λ v u out f ran. run_from d f ran.grown.0 s ran.t (go_on (stored active there v u)) (next f) ran.grown.1 ran.go ran.keeps (rest f ran.t (stored active there v u) (begun_later g alive d f ran.grown.0 ran.grown.1 free) ran.at ran.sim))))
