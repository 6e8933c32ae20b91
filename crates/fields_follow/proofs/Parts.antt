-- The code of the indexes of a get, or of a send: behind it each value stands in a field, or in a register where it is that
-- of a promoted scalar.
use Rattle.std.proofs.Common.{◌≡◌, ◌∙◌, ℕ, ◌≤◌, true, List, [], ◌∷◌, ◌++◌, length, refl, sym, arith, inl, inr}
use Rattle.cstar_tree.specs.declared.typed.TExpr.{Row_of-TExpr, end_of-TExpr, more_of-TExpr}
use Rattle.cstar_tree.specs.declared.typed.Variable.{Variable}
use Rattle.lower_base.specs.declared.emit.Out.{Out}
use Rattle.lower_base.specs.declared.emit.Out.TheVariants as O
use Rattle.lower_base.specs.Drafts.{Draft}
use Rattle.lower_comm.specs.Messages.{all_somewhere}
use Rattle.paris_code.specs.declared.operands.Konst.TheVariants as K
use Rattle.paris_code.specs.Code.{CodeState}
use Rattle.source_meaning.specs.State.{State}
use Rattle.code_follows.proofs.Following.{Keeps, Sim, keeps_on}
use Rattle.code_follows.proofs.Settings.{Setting}
use Rattle.fields_follow.proofs.Instructions.{HasNumbers, extents, word_in}
use Rattle.fields_follow.proofs.Meaning.{word_at}
use Rattle.fields_follow.proofs.Passing.{Behind, GivesField, Passes, Stands, code_longer, fields_longer, gives_numbers, passes_all, passes_on, stands_less, still_numbers}
use Rattle.fields_follow.proofs.Places.{HoldsTheFields, PlacesFields}
use Rattle.fields_follow.proofs.Spreading.{GivesWord}
use Rattle.fields_follow.proofs.Starts.{Starts}

-- one of them is a field
unfoldable pub HasField : List Out → Type 0
HasField [] = ⊥
HasField (O.Field f ∷ outs) = Unit {0}
HasField (out ∷ outs) = HasField outs

pub field_first : (outs : List Out) (out : Out) → HasField outs → HasField (outs ++ out ∷ [])
unfolding HasField
field_first [] out h = absurd h
field_first (O.Field f ∷ outs) out h = tt
field_first (O.Scalar r ∷ outs) out h = field_first outs out h
field_first (O.Nothing ∷ outs) out h = field_first outs out h

pub field_last : (outs : List Out) (f : _) → HasField (outs ++ O.Field f ∷ [])
unfolding HasField
field_last [] f = tt
field_last (O.Field h ∷ outs) f = tt
field_last (O.Scalar r ∷ outs) f = field_last outs f
field_last (O.Nothing ∷ outs) f = field_last outs f

somewhere_more : (outs : List Out) (out : Out) → all_somewhere outs ≡ true → all_somewhere (out ∷ []) ≡ true → all_somewhere (outs ++ out ∷ []) ≡ true
unfolding all_somewhere
somewhere_more [] out all one = one
somewhere_more (O.Field h ∷ outs) out all one = somewhere_more outs out all one
somewhere_more (O.Scalar r ∷ outs) out all one = somewhere_more outs out all one
somewhere_more (O.Nothing ∷ outs) out all one = cc

module _ (g : Setting) where
  -- the words of the values of a list
  unfoldable pub words_of : {k : _} → ℕ → State → Row_of-TExpr k → List (ℕ → ℕ)
  words_of set st end_of-TExpr = []
  words_of set st (more_of-TExpr e rest) = (λ q. word_at (extents g set) st e q) ∷ words_of set st rest

  -- the fields among these are named behind a draft
  unfoldable pub IsBehind : Out → Draft → Type 0
  IsBehind (O.Field f) e = Behind g f e
  IsBehind out e = Unit {0}

  unfoldable pub AllBehind : List Out → Draft → Type 0
  AllBehind [] e = Unit {0}
  AllBehind (out ∷ outs) e = IsBehind out e × AllBehind outs e

  front_behind : (outs : List Out) (out : Out) (e : Draft) → AllBehind (outs ++ out ∷ []) e → AllBehind outs e × IsBehind out e
  unfolding AllBehind
  front_behind [] out e (b, done) = (tt, b)
  front_behind (first ∷ outs) out e (b, more) = let rest = front_behind outs out e more in ((b, rest.0), rest.1)

  one_earlier : (out : Out) (d e : Draft) → length d.code ≤ length e.code → IsBehind out e → IsBehind out d
  unfolding IsBehind
  one_earlier (O.Field h) d e less (later, (named, after)) = (later, (named, omega (arith, after, less)))
  one_earlier (O.Scalar r) d e less b = tt
  one_earlier O.Nothing d e less b = tt

  pub behind_earlier : (outs : List Out) (d e : Draft) → length d.code ≤ length e.code → AllBehind outs e → AllBehind outs d
  unfolding AllBehind
  behind_earlier [] d e less b = tt
  behind_earlier (out ∷ outs) d e less (b, more) = (one_earlier out d e less b, behind_earlier outs d e less more)

  module _ (alive : Variable → Type 0) where
    -- a register has a word at every position, and will where registers that are kept stay
    pub record HoldsWord (e : Draft) (t : CodeState) (st : State) (v : ℕ → ℕ) (r : ℕ) : Type 0 where
      pub same : (q : ℕ) → v q ≡ word_in g (K.Reg r) t
      pub lasts : (u : CodeState) → Sim g alive st u → Keeps g e t u → word_in g (K.Reg r) u ≡ word_in g (K.Reg r) t

    -- they stand there, with these words
    unfoldable pub OneStands : ℕ → Draft → ℕ → CodeState → State → (ℕ → ℕ) → Out → Type 0
    OneStands bound e set t st v (O.Field f) = Stands g alive 32 bound e set f t st v
    OneStands bound e set t st v (O.Scalar r) = HoldsWord e t st v r
    OneStands bound e set t st v O.Nothing = ⊥

    unfoldable pub AllStand : ℕ → Draft → ℕ → CodeState → State → List (ℕ → ℕ) → List Out → Type 0
    AllStand bound e set t st [] [] = Unit {0}
    AllStand bound e set t st (v ∷ vs) (out ∷ outs) = OneStands bound e set t st v out × AllStand bound e set t st vs outs
    AllStand bound e set t st _ _ = ⊥

    -- code passes, and where they are named behind it they stand there
    pub record PartsStand (bound : ℕ) (d : Draft) (s : CodeState) (set : ℕ) (st : State) (vs : List (ℕ → ℕ)) (outs : List Out) (e : Draft) : Type 0 where
      pub somewhere : all_somewhere outs ≡ true
      pub passes : Passes g alive bound d e s st (AllBehind outs e)
      pub stand : AllBehind outs e → AllStand bound e set passes.t st vs outs

    -- none of them so far
    pub none_stand : (bound : ℕ) (d : Draft) (s : CodeState) (set : ℕ) (st : State) → Starts g alive s (length d.code) d.regs (length d.fields) → Sim g alive st s → PartsStand bound d s set st [] [] d
    unfolding all_somewhere AllStand
    none_stand bound d s set st here sim = record { somewhere = refl; passes = passes_all g alive bound d s st (AllBehind [] d) here sim; stand = λ b. tt }

    one_more_stands : (bound : ℕ) (e : Draft) (set : ℕ) (t : CodeState) (st : State) (v : ℕ → ℕ) (out : Out) (vs : List (ℕ → ℕ)) (outs : List Out) → AllStand bound e set t st vs outs → OneStands bound e set t st v out → AllStand bound e set t st (vs ++ v ∷ []) (outs ++ out ∷ [])
    unfolding AllStand
    one_more_stands bound e set t st v out [] [] all one = (one, tt)
    one_more_stands bound e set t st v out (w ∷ vs) (first ∷ outs) all one = (all.0, one_more_stands bound e set t st v out vs outs all.1 one)
    one_more_stands bound e set t st v out [] (first ∷ outs) all one = absurd all
    one_more_stands bound e set t st v out (w ∷ vs) [] all one = absurd all

    module _ (places : PlacesFields g) (fields : HoldsTheFields g) where
      -- what stands still does behind code that passes
      still_stands : (bound other set : ℕ) (e e2 : Draft) (t : CodeState) (st : State) (v : ℕ → ℕ) (out : Out) (used : Type 0) (one : Type 0) (d : Draft) (s : CodeState) (a : Passes g alive bound d e s st one) → OneStands bound e set a.t st v out
          → (b : Passes g alive other e e2 a.t st used) → used → length e.fields ≤ other → IsBehind out e2 → OneStands bound e2 set b.t st v out
      unfolding OneStands IsBehind
      still_stands bound other set e e2 t st v (O.Field f) used one d s a (inl own) b wanted more behind = inl (record {
        long = own.long;
        own = own.own;
        fits = own.fits;
        ends = own.ends;
        newer = own.newer;
        older = let l = fields_longer e e2 b.grown.0 b.grown.1 in let o = own.older in omega (arith, l, o);
        somewhere = own.somewhere;
        named = own.named;
        before = let l = code_longer e e2 b.grown.0 b.grown.1 in let o = own.before in omega (arith, l, o);
        has = still_numbers g alive places fields 32 bound other e a.t set st v f e e2 used (record { passes = passes_all g alive bound e a.t st (Behind g f e) a.at a.sim; stands = inl own }) b wanted more behind;
      })
      still_stands bound other set e e2 t st v (O.Field f) used one d s a (inr file) b wanted more behind = inr file
      still_stands bound other set e e2 t st v (O.Scalar r) used one d s a word b wanted more behind =
          let there = word.lasts b.t b.sim b.registers in
          record { same = λ q. word.same q ∙ sym there; lasts = λ u sim keeps. word.lasts u sim (keeps_on g e e2 b.grown.0 a.t b.t u b.grown.1 b.registers keeps) ∙ sym there }
      still_stands bound other set e e2 t st v O.Nothing used one d s a stands b wanted more behind = absurd stands

      all_still : (bound other set : ℕ) (e e2 : Draft) (st : State) (used : Type 0) (one : Type 0) (d : Draft) (s : CodeState) (a : Passes g alive bound d e s st one) (vs : List (ℕ → ℕ)) (outs : List Out) → AllStand bound e set a.t st vs outs
          → (b : Passes g alive other e e2 a.t st used) → used → length e.fields ≤ other → AllBehind outs e2 → AllStand bound e2 set b.t st vs outs
      unfolding AllStand AllBehind
      all_still bound other set e e2 st used one d s a [] [] all b wanted more behind = tt
      all_still bound other set e e2 st used one d s a (v ∷ vs) (out ∷ outs) all b wanted more behind =
          (still_stands bound other set e e2 a.t st v out used one d s a all.0 b wanted more behind.0, all_still bound other set e e2 st used one d s a vs outs all.1 b wanted more behind.1)
      all_still bound other set e e2 st used one d s a [] (out ∷ outs) all b wanted more behind = absurd all
      all_still bound other set e e2 st used one d s a (v ∷ vs) [] all b wanted more behind = absurd all

      -- one value more
      parts_more : (bound : ℕ) (d e e2 : Draft) (s : CodeState) (set : ℕ) (st : State) (vs : List (ℕ → ℕ)) (outs : List Out) (v : ℕ → ℕ) (out : Out) → bound ≤ length e.fields → (a : PartsStand bound d s set st vs outs e) → all_somewhere (out ∷ []) ≡ true
          → (b : Passes g alive (length e.fields) e e2 a.passes.t st (IsBehind out e2)) → OneStands bound e2 set b.t st v out → PartsStand bound d s set st (vs ++ v ∷ []) (outs ++ out ∷ []) e2
      unfolding passes_on
      parts_more bound d e e2 s set st vs outs v out less a is b one = record {
        somewhere = somewhere_more outs out a.somewhere is;
        passes = passes_on g alive bound (length e.fields) d e e2 s st (AllBehind outs e) (IsBehind out e2) (AllBehind (outs ++ out ∷ []) e2) less a.passes b (λ behind. earlier behind) (λ behind. (front_behind outs out e2 behind).1);
        stand = λ behind.
            one_more_stands bound e2 set b.t st v out vs outs
            (all_still bound (length e.fields) set e e2 st (IsBehind out e2) (AllBehind outs e) d s a.passes vs outs (a.stand (earlier behind)) b (front_behind outs out e2 behind).1 (omega arith) (front_behind outs out e2 behind).0) one;
      }
        where
          earlier : AllBehind (outs ++ out ∷ []) e2 → AllBehind outs e
          earlier behind = behind_earlier outs e e2 (code_longer e e2 b.grown.0 b.grown.1) (front_behind outs out e2 behind).0

      -- in a field, and in a register
      pub field_more : (bound : ℕ) (d e e2 : Draft) (s : CodeState) (set : ℕ) (st : State) (vs : List (ℕ → ℕ)) (outs : List Out) (v : ℕ → ℕ) (f : _) → bound ≤ length e.fields → (a : PartsStand bound d s set st vs outs e)
          → GivesField g alive 32 (length e.fields) e a.passes.t set st v f e2 → PartsStand bound d s set st (vs ++ v ∷ []) (outs ++ O.Field f ∷ []) e2
      unfolding all_somewhere IsBehind OneStands
      field_more bound d e e2 s set st vs outs v f less a gives = parts_more bound d e e2 s set st vs outs v (O.Field f) less a refl gives.passes (stands_less g alive 32 bound (length e.fields) e2 set f gives.passes.t st v less gives.stands)

      pub word_more : (bound : ℕ) (d e e2 : Draft) (s : CodeState) (set : ℕ) (st : State) (vs : List (ℕ → ℕ)) (outs : List Out) (v : ℕ → ℕ) (r : ℕ) → bound ≤ length e.fields → (a : PartsStand bound d s set st vs outs e)
          → GivesWord g alive (length e.fields) e a.passes.t st v (K.Reg r) e2 → PartsStand bound d s set st (vs ++ v ∷ []) (outs ++ O.Scalar r ∷ []) e2
      unfolding all_somewhere IsBehind OneStands
      word_more bound d e e2 s set st vs outs v r less a gives = parts_more bound d e e2 s set st vs outs v (O.Scalar r) less a refl gives.passes (record { same = gives.same; lasts = gives.lasts })

      -- where they stand, each has its words
      unfoldable pub HasOne : ℕ → CodeState → (ℕ → ℕ) → Out → Type 0
      HasOne set t v (O.Field f) = HasNumbers g 32 set f t v
      HasOne set t v (O.Scalar r) = (q : ℕ) → v q ≡ word_in g (K.Reg r) t
      HasOne set t v O.Nothing = ⊥

      unfoldable pub AllHave : ℕ → CodeState → List (ℕ → ℕ) → List Out → Type 0
      AllHave set t [] [] = Unit {0}
      AllHave set t (v ∷ vs) (out ∷ outs) = HasOne set t v out × AllHave set t vs outs
      AllHave set t _ _ = ⊥

      has_one : (bound : ℕ) (d e : Draft) (s : CodeState) (set : ℕ) (st : State) (one : Type 0) (a : Passes g alive bound d e s st one) (v : ℕ → ℕ) (out : Out) → IsBehind out e → OneStands bound e set a.t st v out → HasOne set a.t v out
      unfolding IsBehind OneStands HasOne
      has_one bound d e s set st one a v (O.Field f) behind stands = gives_numbers g alive places fields 32 bound e a.t set st v f e (record { passes = passes_all g alive bound e a.t st (Behind g f e) a.at a.sim; stands = stands }) behind
      has_one bound d e s set st one a v (O.Scalar r) behind word = word.same
      has_one bound d e s set st one a v O.Nothing behind stands = absurd stands

      pub all_have : (bound : ℕ) (d e : Draft) (s : CodeState) (set : ℕ) (st : State) (one : Type 0) (a : Passes g alive bound d e s st one) (vs : List (ℕ → ℕ)) (outs : List Out) → AllBehind outs e → AllStand bound e set a.t st vs outs → AllHave set a.t vs outs
      unfolding AllBehind AllStand AllHave
      all_have bound d e s set st one a [] [] behind all = tt
      all_have bound d e s set st one a (v ∷ vs) (out ∷ outs) behind all = (has_one bound d e s set st one a v out behind.0 all.0, all_have bound d e s set st one a vs outs behind.1 all.1)
      all_have bound d e s set st one a [] (out ∷ outs) behind all = absurd all
      all_have bound d e s set st one a (v ∷ vs) [] behind all = absurd all
