-- The run of a program with parallel variables: what its memory holds from the first instruction to the end.
use Rattle.std.proofs.Common.{refl, ◌≢◌, Any, ◌≡◌, ◌∙◌, ℕ, ◌+◌, ◌<◌, ◌^◌, ◌⊎◌, inl, inr, true, List, [], slice_get, Option, Some, None, sym, ap, subst, arith}
use Rattle.std.proofs.lemmas.Nat.{pow_pos}
use Rattle.cstar_base.specs.declared.operators.Winner.{Winner}
use Rattle.cstar_compile.specs.Compiled.{IsCompiled}
use Rattle.cstar_tree.specs.declared.typed.Instance.{Instance}
use Rattle.cstar_tree.specs.declared.typed.Typed.{Typed}
use Rattle.cstar_tree.specs.declared.typed.VarInfo.{VarInfo}
use Rattle.cstar_tree.specs.declared.typed.Variable.TheVariants as V
use Rattle.code_lengths.specs.Ready.{IsCodable}
use Rattle.code_lengths.proofs.Declaring.{all_at}
use Rattle.paris_code.specs.declared.program.Image.{Image}
use Rattle.paris_code.specs.Code.{opening}
use Rattle.paris_code.specs.Memory.{BitMemory}
use Rattle.paris_code.specs.Shapes.{shapes_of}
use Rattle.paris_code.specs.Sound.{IsSound}
use Rattle.source_meaning.specs.Programs.{calls, meaning, scope_of, start_of, start_state}
use Rattle.source_meaning.specs.State as Source
use Rattle.source_meaning.specs.State.{State}
use Rattle.source_meaning.specs.Values.{Active, Scope}
use Rattle.code_follows.specs.Agreement.{AreBytes, mark_of}
use Rattle.code_follows.specs.Fragment.{IsFileVariable}
use Rattle.code_follows.proofs.Activations.{activation}
use Rattle.code_follows.proofs.Entering.{Opens, AllBeside, running}
use Rattle.code_follows.proofs.Programs.{nothing_held, Comes, program_follows, none_open}
use Rattle.code_follows.proofs.Settings.{SameBelow, StandsBelow, CallStands, Held, Setting, called_below, start}
use Rattle.fields_follow.specs.Fragment.{IsParallelProgram, fields_beside}
use Rattle.fields_follow.specs.Laws.{ComesToAll, HasTheNumbers, IsNew, ParallelCodeMeansSource}
use Rattle.fields_follow.proofs.Besides.{besides}
use Rattle.fields_follow.proofs.Fields.{HoldsFields, HoldsNumbers, fields_held}
use Rattle.fields_follow.proofs.FileFields.{IsTranslated, extents_are, file_exists, fresh_active, fresh_bit, fresh_file, processors_of, translated}
use Rattle.fields_follow.proofs.Instructions.{SameExtents}
use Rattle.fields_follow.proofs.Joining.{places_fields}
use Rattle.fields_follow.proofs.Knowing.{IsKeptBeside, Keeping, KnowsFields, held_under}
use Rattle.fields_follow.proofs.Places.{PlacesFields}
use Rattle.fields_follow.proofs.Locals.{HoldsLocal, HoldsLocals, IsLocalField, StillUsed, locals_again, locals_landed, locals_on}
use Rattle.paris_code.specs.Spans.{IsNamedAt, entry_of, fields_of}
use Rattle.paris_code.specs.declared.instr.Instr.{Instr}
use Rattle.paris_code.specs.declared.operands.Field.{Field}
use Rattle.std.proofs.lemmas.Bool.{cases_eq}
use Rattle.code_follows.proofs.Standing.{some_same}
use Rattle.paris_code.specs.declared.instr.Instr.TheVariants as I

-- everything is active
abbrev pub everywhere : Active
everywhere = λ set p. true

module _ (t : Typed) (image : Image) (p : IsParallelProgram t) (codable : IsCodable t) (compiled : IsCompiled t image) (sound : IsSound image) where
  made : IsTranslated t compiled.lowered.words compiled.before compiled.after image
  made = translated t image compiled sound

  module _ (held : Held) (number : ℕ) (i : Instance) (is : slice_get t.instances.items number ≡ Some i) (opens : List ℕ) (most : ℕ) where
    abbrev g : Setting
    g = activation t image p codable compiled held number i is opens most

    abbrev scope : Scope
    scope = scope_of t i (calls t most)

    places : PlacesFields g
    places = places_fields g made

    same_extents : SameExtents g scope
    unfolding scope_of
    same_extents set exists = sym (extents_are t compiled.lowered.words compiled.before compiled.after image made set exists)

    meant : scope.call ≡ calls t most
    unfolding scope_of
    meant = refl

  -- what `main` holds
  abbrev main_held : ℕ → Held
  main_held turns = fields_held (g nothing_held 0 p.main p.is_main [] turns) everywhere

  -- what is known of it
  known : (turns : ℕ) → KnowsFields (g (main_held turns) 0 p.main p.is_main [] turns) (scope (main_held turns) 0 p.main p.is_main [] turns) everywhere
  known turns = record {
    places = places (main_held turns) 0 p.main p.is_main [] turns;
    same_extents = same_extents (main_held turns) 0 p.main p.is_main [] turns;
    meant = meant (main_held turns) 0 p.main p.is_main [] turns;
    effects = λ e h. h;
    folds = λ e h. h;
    positions = λ x h. h;
    conditions = λ set e h. h;
    locals = λ info h. h;
    kept = record { saved = λ entry. ⊥; has = λ m. Unit {0} };
    lasts = record { below = λ entry never. absurd never; code = λ m other stays same h. tt; calls = λ index at stands low high m other same h. tt };
    opens = λ live at st m h. ((h.0, locals_again (g nothing_held 0 p.main p.is_main [] turns) live at st m h.1), (tt, λ entry never. absurd never));
    closes = λ live at st m h kept. (h.0, locals_again (g nothing_held 0 p.main p.is_main [] turns) live at st m h.1);
    ends = λ st m h. h;
  }

  module _ (held : Held) (from entries upto : ℕ) (a : Active) (me : ℕ) (i : Instance) (is_me : slice_get t.instances.items me ≡ Some i) (opens : List ℕ) (most : ℕ) where
    abbrev calling : Setting
    calling = running t image p codable compiled held from entries upto me i is_me opens most

    module _ (caller : KnowsFields calling (scope_of t i (calls t most)) a) (number : ℕ) (b : Instance) (is : slice_get t.instances.items number ≡ Some b) (back : List ℕ) (m : ℕ) (here : CallStands calling number) (live : ℕ → Type 0) (place : ℕ) (st : State) (place_is : place ≡ start calling + here.at + 1) where
      -- what one that calls a function keeps there, and the numbers of its variables that are open
      abbrev kept_there : Keeping
      kept_there = record { saved = λ entry. ⊥; has = λ memory. IsKeptBeside calling live caller.kept memory × HoldsLocals calling live place st memory }

      -- what a function holds that is called: beside that the fields of the file, and its own variables
      abbrev called : Setting
      called = g nothing_held number b is back m

      abbrev held_called : Held
      held_called = held_under called a kept_there

      -- an instruction that calls names no entry
      names_none : (entry : ℕ) → IsNamedAt calling.unit entry here.at → ⊥
      names_none entry named = none named.0 (some_same named.0 (I.FrontCall number) (sym named.1 ∙ here.stands)) named.2
        where
          none : (instr : Instr) → instr ≡ I.FrontCall number → Any (λ (f : Field). entry_of f ≡ entry) (fields_of instr) → ⊥
          none instr same any = nothing (subst (λ (j : Instr). Any (λ (f : Field). entry_of f ≡ entry) (fields_of j)) same any)
            where
              nothing : Any (λ (f : Field). entry_of f ≡ entry) [] → ⊥
              nothing any = let low = any.2 in absurd (omega (arith, low))

      -- the entries of those variables that are in use behind the call stand below those of the function
      stands_below : (k : ℕ) (info : VarInfo) (f : Field) (memory : BitMemory) → IsLocalField calling k info f → HoldsLocal calling k info f place st memory → StillUsed calling f.offset place → StandsBelow image calling.placed number (Rattle.fields_follow.proofs.Instructions.place calling f)
      stands_below k info f memory local holds used =
          caller.places.own_below_called f holds.first here.at number local.own holds.exists holds.ends holds.named (before (cases_eq holds.first here.at)) (λ span is_span. let late = used span is_span in omega (arith, late, place_is)) here.stands
        where
          before : (holds.first ≡ here.at) ⊎ (holds.first ≢ here.at) → holds.first < here.at
          before (inl same) = absurd (names_none f.offset (subst (λ (n : ℕ). IsNamedAt calling.unit f.offset n) same holds.named))
          before (inr differ) = let early = holds.before in omega (arith, early, place_is, differ)

      locals_last : (memory other : BitMemory) → SameBelow image calling.placed number memory other → HoldsLocals calling live place st memory → HoldsLocals calling live place st other
      locals_last memory other same held =
          locals_on calling live place place st st memory other (omega arith) (λ k info f living local holds used p below. same (Rattle.fields_follow.proofs.Instructions.place calling f) p (stands_below k info f memory local holds used)) (λ k living p. refl) held

      -- it is known of it, where it is known of the one that calls it: what is kept lasts over its code, and over what it calls
      known_called : KnowsFields (g held_called number b is back m) (scope_of t b (calls t m)) a
      known_called = record {
        places = places held_called number b is back m;
        same_extents = same_extents held_called number b is back m;
        meant = meant held_called number b is back m;
        effects = λ e h. h;
        folds = λ e h. h;
        positions = λ x h. h;
        conditions = λ set e h. h;
        locals = λ info h. h;
        kept = kept_there;
        lasts = record {
          below = λ entry never. absurd never;
          code = λ memory other stays same has. ((caller.lasts.calls number here.at here.stands here.low here.high memory other same has.0.0, has.0.1), locals_last memory other same has.1);
          calls = λ index at stands low high memory other same has.
              let below : SameBelow image calling.placed number memory other = λ f q there. same f q (called_below (g held_called number b is back m) index (record { at = at; stands = stands; low = low; high = high }) f there) in
              ((caller.lasts.calls number here.at here.stands here.low here.high memory other below has.0.0, has.0.1), locals_last memory other below has.1);
        };
        opens = λ live at st memory h. ((h.0.0, locals_again called live at st memory h.0.1), h.1);
        closes = λ live at st memory h kept. ((h.0, locals_again called live at st memory h.1), kept);
        ends = λ st memory h. h;
      }

      opens_called : Opens held held_called live place st
      opens_called = record {
        enters = λ at u memory files winner h.
            let outer = caller.opens live place st memory h in
            (((fields_held called a).still none_open at st u memory (files, (λ k never e p. absurd never)) winner (outer.0.0, (λ k never. absurd never))), ((outer.1, outer.0.1), λ entry never. absurd never));
        leaves = λ at u v memory files own winner h.
            let inside = (fields_held called a).still none_open at u v memory (files, (λ k never e p. absurd never)) winner h.0 in
            caller.closes live place v memory (inside.0, locals_on calling live place place st v memory memory (omega arith) (λ k info f living local holds used p below. refl) (λ k living p. own k living 0 p) h.1.0.1) h.1.0.0;
        ends = caller.ends;
      }

  all_beside : AllBeside t image p codable compiled KnowsFields
  all_beside = record {
    follows = besides;
    called = λ held from entries upto a me i is_me opens most caller number b is back m here live place st place_is. (
      held_called held from entries upto a me i is_me opens most caller number b is back m here live place st place_is,
      (
        opens_called held from entries upto a me i is_me opens most caller number b is back m here live place st place_is,
        known_called held from entries upto a me i is_me opens most caller number b is back m here live place st place_is,
      ),
    );
    lasts = λ unit scope a known live target low named place jump stands leads st memory h.
        let has = known.opens live (start unit + place) st memory h in
        known.closes live (target + start unit) st memory (has.0.0, locals_landed unit live place target jump stands leads named st memory has.0.1) has.1;
  }

  -- a parallel variable of the file begins with 0
  begins_at_zero : (k : ℕ) (info : VarInfo) (set : ℕ) → slice_get t.vars.items k ≡ Some info → info.shape ≡ Some set → start_of t (V.File k) ≡ 0
  unfolding start_of
  begins_at_zero k info set known parallel = ap (λ (o : Option VarInfo). elim o as (λ _. ℕ) [ None ↦ 0 | Some i ↦ i.start ]) known ∙ by (all_at (IsFileVariable fields_beside) t.vars.items k info p.variables known).0
    where
      by : (info.shape ≡ None) ⊎ (fields_beside.variables info × (info.start ≡ 0)) → info.start ≡ 0
      by (inl none) = let differ : None ≡ Some set = sym none ∙ parallel in cc
      by (inr zero) = zero.1

  -- a new memory holds the state in which the run begins
  holds_at_first : (input : List ℕ) (rest : Source.Rest) (turns : ℕ) (winner : Winner) (m : BitMemory) → IsNew image winner m → HoldsFields t image everywhere (start_state t input rest turns winner) m
  unfolding start_state
  holds_at_first input rest turns winner m new = record {
    numbers = λ k e set q info is below. fresh_file t compiled.lowered.words compiled.before compiled.after image made m k info set e q new.bits is below ∙ sym (begins_at_zero k info set is.known is.parallel);
    small = λ k e set q info is. subst (λ (n : ℕ). n < 2 ^ info.elem.bits) (sym (begins_at_zero k info set is.known is.parallel)) (pow_pos info.elem.bits);
    flags = λ set q exists below. fresh_active (shapes_of image) m set q new.bits exists below;
    winner = new.winner;
    bits = λ set q index exists below low. subst (λ (b : ℕ). b < 2) (sym (fresh_bit (shapes_of image) m set q index new.bits exists below low)) (omega arith);
  }

  -- what it holds of the state at the end, at the positions of the source
  numbers_at_last : (st : State) (m : BitMemory) → HoldsNumbers t image st m → HasTheNumbers t image st m
  numbers_at_last st m h k e set q info is below =
      h k e set q info is (subst (λ (n : ℕ). q < n) (sym (processors_of t compiled.lowered.words compiled.before compiled.after image made set (file_exists t compiled.lowered.words compiled.before compiled.after image made k info set e is))) below)

  comes_to_all : (memory : BitMemory) (input : List ℕ) (rest : Source.Rest) (turns : ℕ) (winner : Winner) → AreBytes input → IsNew image winner memory
      → ComesToAll t image (opening image memory turns (record { bytes = input; mark = mark_of rest })) (meaning t input rest turns winner)
  comes_to_all memory input rest turns winner are new =
      let c : Comes (main_held turns) image (opening image memory turns (record { bytes = input; mark = mark_of rest })) (meaning t input rest turns winner) =
      program_follows t image p codable compiled (main_held turns) memory input rest turns winner are (holds_at_first input rest turns winner memory new, (λ k never. absurd never)) all_beside (known turns) in
      record { to = c.to; numbers = numbers_at_last (meaning t input rest turns winner).final c.to.last.memory c.memory }

pub means_source : ParallelCodeMeansSource
means_source t image p codable compiled sound memory input rest turns winner are new = comes_to_all t image p codable compiled sound memory input rest turns winner are new
