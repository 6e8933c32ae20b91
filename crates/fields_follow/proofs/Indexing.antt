-- The code of the indexes of a get, or of a send: each stands in a field behind it, or in a register, where the source
-- gives their values, or both end.
use Rattle.std.proofs.Common.{◌≡◌, ◌∙◌, ℕ, ◌≤◌, Bool, false, List, [], ◌∷◌, ◌++◌, length, refl, sym, ap, subst, arith, append_assoc, ◌⊎◌, inl, inr}
use Rattle.cstar_tree.specs.declared.typed.TExpr.{TExpr, Row_of-TExpr, end_of-TExpr, more_of-TExpr}
use Rattle.cstar_tree.specs.declared.typed.TExpr as T
use Rattle.cstar_base.specs.declared.operators.Place.{Place}
use Rattle.cstar_tree.specs.declared.typed.ValueType.{ValueType}
use Rattle.cstar_tree.specs.declared.typed.Variable.{Variable}
use Rattle.cstar_tree.specs.Typed.{type_of}
use Rattle.code_lengths.specs.Lowerable.{AreLowerable, IsLowerable}
use Rattle.code_lengths.specs.Naming.{AllNameVariables, NamesVariables}
use Rattle.code_lengths.specs.Ready.{IsReadyButForFields}
use Rattle.code_lengths.specs.Shaped.{AreShaped, IsShaped}
use Rattle.code_follows.specs.Fragment.{AllAmong, NamesAmong}
use Rattle.code_lengths.proofs.Agreeing.{lengths_if_made}
use Rattle.code_lengths.proofs.Drafting.{append_nothing}
use Rattle.lower_base.specs.declared.emit.Out.{Out}
use Rattle.lower_base.specs.declared.emit.Out.TheVariants as O
use Rattle.lower_base.specs.Drafts.{Draft, Made}
use Rattle.lower_expr.specs.Kinds.{list_bits}
use Rattle.lower_expr.specs.Values.{values_of}
use Rattle.paris_code.specs.declared.operands.Field.{Field}
use Rattle.paris_code.specs.Code.{CodeState}
use Rattle.source_meaning.specs.Expressions.{operands}
use Rattle.source_meaning.specs.Gets.{Operand}
use Rattle.source_meaning.specs.State as Source
use Rattle.source_meaning.specs.State.{Outcome, State, then_do}
use Rattle.source_meaning.specs.Values.{Parallel, Value}
use Rattle.code_follows.proofs.Following.{Extends, Follows, HasRegisters, Sim, extends_then}
use Rattle.code_follows.proofs.Growing.{as_it_was}
use Rattle.code_follows.proofs.Settings.{Setting, layout}
use Rattle.code_follows.proofs.Values.{extends_grown}
use Rattle.fields_follow.specs.Fragment.{AreIndexes, HasPure, IsPromoted, IsPure, IsRegistered}
use Rattle.fields_follow.proofs.Forms.{HasItsCode, promoted_kept, pure_kept}
use Rattle.fields_follow.proofs.Instructions.{extents}
use Rattle.fields_follow.proofs.Meaning.{value_in, word_at}
use Rattle.fields_follow.proofs.Outcomes.{Ended, Given, ended_back, ended_on, given_weaker, meant, then_known}
use Rattle.fields_follow.proofs.Parts.{HasField, PartsStand, field_first, field_last, field_more, none_stand, word_more, words_of}
use Rattle.fields_follow.proofs.Passing.{After, GivesField, after_same, after_weaker, fields_longer, made_after}
use Rattle.fields_follow.proofs.Places.{HoldsTheFields, PlacesFields}
use Rattle.fields_follow.proofs.Promoted.{Registers, registered_after}
use Rattle.fields_follow.proofs.Routing.{indexes_at}
use Rattle.fields_follow.proofs.Starts.{Starts}
use Rattle.fields_follow.proofs.Values.{Gives, IsFlag, Valued, code_of, operand_after, operand_of}

module _ (g : Setting) (has : HasRegisters g) (alive : Variable → Type 0) (n : ℕ) (ready : (d : Draft) → IsReadyButForFields g.typed g.instance (layout g) n d) (places : PlacesFields g) (fields : HoldsTheFields g) where
  -- each has code, and its code gives its words
  unfoldable pub AllCoded : {k : _} → Row_of-TExpr k → Type 0
  AllCoded end_of-TExpr = Unit {0}
  AllCoded (more_of-TExpr e rest) = HasItsCode g.typed g.instance alive n e × AllCoded rest

  row_coded : {k : _} (row : Row_of-TExpr k) → AreShaped row → AreLowerable g.typed row → AllNameVariables g.typed g.instance n row → AllAmong alive row → AllCoded row
  unfolding AllCoded AreShaped AreLowerable AllNameVariables AllAmong
  row_coded end_of-TExpr shaped lowerable names among = tt
  row_coded (more_of-TExpr e rest) shaped lowerable names among = (
    record { code = record { shaped = shaped.0; lowerable = lowerable.0; names = names.0 }; among = among.0 },
    row_coded rest shaped.1 lowerable.1 names.1 among.1,
  )

  -- the indexes of a get that has code
  pub all_coded : (ty : ValueType) (place : Place) (p : _) (indexes : Row_of-TExpr _) (x : Variable) (of : ℕ) → HasItsCode g.typed g.instance alive n (T.LeftIndex' ty place p indexes x of) → AllCoded indexes
  unfolding IsShaped IsLowerable NamesVariables NamesAmong
  all_coded ty place p indexes x of c = row_coded indexes c.code.shaped c.code.lowerable.2 c.code.names.1 c.among.1

  -- each that is not promoted is valued
  unfoldable pub AllValued : {k : _} → ℕ → Row_of-TExpr k → Type 0
  AllValued set end_of-TExpr = Unit {0}
  AllValued set (more_of-TExpr e rest) = (IsPure set e → Valued g has alive n ready places fields 32 set e (code_of g has alive n ready places fields 32 e)) × AllValued set rest

  abbrev code_of_all : {k : _} → Bool → Row_of-TExpr k → List Out → Draft → Made (List Out)
  code_of_all quiet row outs d = values_of g.typed (layout g) false quiet row outs d

  values_extend : {k : _} (quiet : Bool) (row : Row_of-TExpr k) → AllCoded row → (outs : List Out) (d : Draft) → Extends g d (code_of_all quiet row outs d)
  unfolding AllCoded values_of list_bits Extends
  values_extend quiet end_of-TExpr coded outs d = (0, as_it_was d)
  values_extend quiet (more_of-TExpr e rest) coded outs d =
      extends_then g d (operand_of g has alive n ready places fields 32 quiet e d) (λ v after. code_of_all quiet rest (outs ++ v ∷ []) after) (extends_grown g has alive _ d _ _ ((lengths_if_made g.typed g.instance (layout g)).operand 32 n quiet e d coded.0.code (ready d)))
      (λ v after. values_extend quiet rest coded.1 (outs ++ v ∷ []) after)

  -- the values of a list in the source
  abbrev pub all_meant : {k : _} → Row_of-TExpr k → State → Outcome (List Operand)
  all_meant row st = operands fields.scope row fields.active st

  -- they are known, and stand behind the code, one of them in a field, or both end
  abbrev pub KnowsAll : {k : _} → ℕ → ℕ → Draft → CodeState → State → Row_of-TExpr k → List (ℕ → ℕ) → List Out → Draft → Type 0
  KnowsAll set bound d s st row vs outs e = ((all_meant row st ≡ Source.Gives (indexes_at (extents g set) st row) st) × PartsStand g alive bound d s set st (vs ++ words_of g set st row) outs e × HasField outs) ⊎ Ended g s (all_meant row st)

  -- one of them gives its word in a field, or in a register where it is promoted
  abbrev GivesOne : ℕ → Draft → CodeState → State → TExpr → Out → Draft → Type 0
  GivesOne set e t st index out f =
      ((h : Field) × ((out ≡ O.Field h) × GivesField g alive 32 (length e.fields) e t set st (λ q. word_at (extents g set) st index q) h f)) ⊎ (IsPromoted set index × Registers g alive n has ready fields set (length e.fields) e t st index out f)

  one_after : (set : ℕ) (index : TExpr) (quiet : Bool) → IsPure set index ⊎ (IsPromoted set index × IsRegistered index) → HasItsCode g.typed g.instance alive n index → (IsPure set index → Valued g has alive n ready places fields 32 set index (code_of g has alive n ready places fields 32 index))
      → (e : Draft) (t : CodeState) (st : State) → Starts g alive t (length e.code) e.regs (length e.fields) → Sim g alive st t
      → Follows g (Given g (λ q. value_in (extents g set) st index q) st (GivesOne set e t st index)) t (meant g fields index st) (operand_of g has alive n ready places fields 32 quiet index e)
  one_after set index quiet (inl pure) c valued e t st here sim =
      given_weaker g t (meant g fields index st) (λ q. value_in (extents g set) st index q) st (Gives g has alive n ready places fields (IsFlag index) 32 (length e.fields) e t set st (λ q. word_at (extents g set) st index q)) (GivesOne set e t st index) (operand_of g has alive n ready places fields 32 quiet index e)
      (λ out f (h, (is, (gives, apart))). inl (h, (is, gives))) (operand_after g has alive n ready places fields 32 set index quiet pure c (valued pure) e t st here sim)
  one_after set index quiet (inr promoted) c valued e t st here sim =
      given_weaker g t (meant g fields index st) (λ q. value_in (extents g set) st index q) st (Registers g alive n has ready fields set (length e.fields) e t st index) (GivesOne set e t st index) (operand_of g has alive n ready places fields 32 quiet index e) (λ out f gives. inr (promoted.0, gives))
      (registered_after g alive n has ready fields set 32 (length e.fields) quiet index promoted.0 promoted.1 c e t st here sim)

  -- a promoted one is none that is not
  never_both : (set : ℕ) (e : TExpr) → IsPure set e → IsPromoted set e → ⊥
  never_both set e pure promoted = let wrong = sym (pure_kept set e pure) ∙ promoted_kept set e promoted in cc

  parts_after : {k : _} (row : Row_of-TExpr k) (quiet : Bool) (set bound : ℕ) (d : Draft) (s : CodeState) (st : State) (vs : List (ℕ → ℕ)) (outs : List Out) (e : Draft) → AreIndexes set row → HasField outs ⊎ HasPure set row → AllCoded row → AllValued set row → bound ≤ length e.fields → PartsStand g alive bound d s set st vs outs e
      → After g (KnowsAll set bound d s st row vs) (code_of_all quiet row outs e)
  unfolding AreIndexes HasPure AllCoded AllValued values_of list_bits words_of indexes_at operands then_do
  parts_after end_of-TExpr quiet set bound d s st vs outs e are some coded valued less a =
      made_after g (KnowsAll set bound d s st end_of-TExpr vs) outs e (λ within. inl (refl, subst (λ (ws : List (ℕ → ℕ)). PartsStand g alive bound d s set st ws outs e) (append_nothing vs) a, by some))
    where
      by : HasField outs ⊎ ⊥ → HasField outs
      by (inl there) = there
      by (inr never) = absurd never
  parts_after (more_of-TExpr index rest) quiet set bound d s st vs outs e are some coded valued less a =
      then_known g t (meant g fields index st) v st (GivesOne set e t st index) Q (operand_of g has alive n ready places fields 32 quiet index e) (λ out after. code_of_all quiet rest (outs ++ out ∷ []) after)
      (one_after set index quiet are.0 coded.0 valued.0 e t st a.passes.at a.passes.sim)
      (λ out after. values_extend quiet rest coded.1 (outs ++ out ∷ []) after)
      (λ is out f gives. one_given (λ x h longer stand there. parts_after rest quiet set bound d s st (vs ++ w ∷ []) (outs ++ x ∷ []) h are.1 there coded.1 valued.1 longer stand) is out f gives)
      (λ early out f. inr (ended_back g s t (all_meant (more_of-TExpr index rest) st) a.passes.go (ended_on g t (meant g fields index st) next early)))
    where
      t : CodeState
      t = a.passes.t

      v : ℕ → ℕ
      v = λ q. value_in (extents g set) st index q

      w : ℕ → ℕ
      w = λ q. word_at (extents g set) st index q

      Q : List Out → Draft → Type 0
      Q = KnowsAll set bound d s st (more_of-TExpr index rest) vs

      next : Value → State → Outcome (List Operand)
      next = λ x between. then_do (operands fields.scope rest fields.active between) (λ given after. Source.Gives (record { elem = (type_of index).elem; value = x } ∷ given) after)

      first : meant g fields index st ≡ Source.Gives (Parallel v) st → all_meant (more_of-TExpr index rest) st ≡ then_do (all_meant rest st) (λ given after. Source.Gives (record { elem = (type_of index).elem; value = Parallel v } ∷ given) after)
      first is = ap (λ (o : Outcome Value). then_do o next) is

      by : meant g fields index st ≡ Source.Gives (Parallel v) st → (given : List Out) (last : Draft) → KnowsAll set bound d s st rest (vs ++ w ∷ []) given last → Q given last
      by is given last (inl (known, stand, there)) = inl (
        first is ∙ ap (λ (o : Outcome (List Operand)). then_do o (λ given after. Source.Gives (record { elem = (type_of index).elem; value = Parallel v } ∷ given) after)) known,
        subst (λ (ws : List (ℕ → ℕ)). PartsStand g alive bound d s set st ws given last) (append_assoc vs (w ∷ []) (words_of g set st rest)) stand,
        there,
      )
      by is given last (inr early) = inr (record {
        early = early.early;
        state = early.state;
        is = first is ∙ ap (λ (o : Outcome (List Operand)). then_do o (λ given after. Source.Gives (record { elem = (type_of index).elem; value = Parallel v } ∷ given) after)) early.is;
        finishes = early.finishes;
      })

      -- the others behind it
      Later : Type 0
      Later =
          (x : Out) (h : Draft) → bound ≤ length h.fields → PartsStand g alive bound d s set st (vs ++ w ∷ []) (outs ++ x ∷ []) h → HasField (outs ++ x ∷ []) ⊎ HasPure set rest
          → After g (KnowsAll set bound d s st rest (vs ++ w ∷ [])) (code_of_all quiet rest (outs ++ x ∷ []) h)

      goes_on : Later → meant g fields index st ≡ Source.Gives (Parallel v) st → (out : Out) (f : Draft) → length e.fields ≤ length f.fields → PartsStand g alive bound d s set st (vs ++ w ∷ []) (outs ++ out ∷ []) f → HasField (outs ++ out ∷ []) ⊎ HasPure set rest → After g Q (code_of_all quiet rest (outs ++ out ∷ []) f)
      goes_on later is out f more stand there =
          after_weaker g (KnowsAll set bound d s st rest (vs ++ w ∷ [])) Q (code_of_all quiet rest (outs ++ out ∷ []) f) (λ given last known. by is given last known) (later out f (omega (arith, less, more)) stand there)

      still : (out : Out) → IsPromoted set index → HasField outs ⊎ (IsPure set index ⊎ HasPure set rest) → HasField (outs ++ out ∷ []) ⊎ HasPure set rest
      still out promoted (inl there) = inl (field_first outs out there)
      still out promoted (inr (inl pure)) = absurd (never_both set index pure promoted)
      still out promoted (inr (inr later)) = inr later

      one_given : Later → meant g fields index st ≡ Source.Gives (Parallel v) st → (out : Out) (f : Draft) → GivesOne set e t st index out f → After g Q (code_of_all quiet rest (outs ++ out ∷ []) f)
      one_given others is out f (inl (h, (is_h, gives))) =
          after_same g Q (ap (λ (o : Out). code_of_all quiet rest (outs ++ o ∷ []) f) is_h)
          (goes_on others is (O.Field h) f (fields_longer e f gives.passes.grown.0 gives.passes.grown.1) (field_more g alive places fields bound d e f s set st vs outs w h less a gives) (inl (field_last outs h)))
      one_given others is out f (inr (promoted, (r, (is_r, gives)))) =
          after_same g Q (ap (λ (o : Out). code_of_all quiet rest (outs ++ o ∷ []) f) is_r)
          (goes_on others is (O.Scalar r) f (fields_longer e f gives.passes.grown.0 gives.passes.grown.1) (word_more g alive places fields bound d e f s set st vs outs w r less a gives) (still (O.Scalar r) promoted some))

  -- so it is from the first on
  pub row_after : {k : _} (row : Row_of-TExpr k) (quiet : Bool) (set bound : ℕ) (d : Draft) (s : CodeState) (st : State) → AreIndexes set row → HasPure set row → AllCoded row → AllValued set row → bound ≤ length d.fields → Starts g alive s (length d.code) d.regs (length d.fields) → Sim g alive st s
      → After g (KnowsAll set bound d s st row []) (code_of_all quiet row [] d)
  row_after row quiet set bound d s st are some coded valued less here sim = parts_after row quiet set bound d s st [] [] d are (inr some) coded valued less (none_stand g alive bound d s set st here sim)
