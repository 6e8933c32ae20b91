-- The law of scalar programs for scalars that may change variables, and in which values are folded: their code leaves
-- what stands in own entries that are named before it and behind it.
use Rattle.std.proofs.Common.{◌≡◌, ◌∙◌, ℕ, ◌<◌, ◌≤◌, ◌^◌, Bool, length, slice_index, refl, sym, subst, arith}
use Rattle.cstar_tree.specs.declared.typed.TExpr.{TExpr}
use Rattle.cstar_tree.specs.declared.typed.Variable.{Variable}
use Rattle.cstar_tree.specs.declared.typed.Variable.TheVariants as V
use Rattle.cstar_tree.specs.Typed.{type_of}
use Rattle.code_lengths.specs.Ready.{HasCode, IsReadyButForFields}
use Rattle.lower_base.specs.declared.emit.Out.{Out}
use Rattle.lower_base.specs.declared.emit.Out.TheVariants as O
use Rattle.lower_base.specs.Drafts.{Draft, Fails, Made, Makes}
use Rattle.lower_expr.specs.Effects.{computed_to}
use Rattle.lower_expr.specs.Operands.{operand_by}
use Rattle.lower_expr.specs.Values.{value_of}
use Rattle.paris_code.specs.declared.operands.Field.{Field}
use Rattle.paris_code.specs.Code.{CodeState}
use Rattle.paris_code.specs.Memory.{BitMemory, field_number}
use Rattle.paris_code.specs.Spans.{IsNamedAt}
use Rattle.source_meaning.specs.Expressions.{evaluated}
use Rattle.source_meaning.specs.Programs.{calls}
use Rattle.source_meaning.specs.State as Source
use Rattle.source_meaning.specs.State.{Early, Outcome, State}
use Rattle.source_meaning.specs.Values.{Scalar, Value}
use Rattle.code_follows.specs.Fragment.{IsIn, NamesAmong}
use Rattle.code_follows.proofs.Besides.{sim_saying}
use Rattle.code_follows.proofs.Callees.{CallsFollow}
use Rattle.code_follows.proofs.Expressions.{operand}
use Rattle.code_follows.proofs.Following.{Arrives, Finishes, Follows, HasRegisters, IsKept, Keeps, Sim, held, keeps_all}
use Rattle.code_follows.proofs.Settings.{At, Begun, Held, OpenAmong, Setting, Within, layout, open_later}
use Rattle.code_follows.proofs.Values.{Dest}
use Rattle.fields_follow.specs.Fragment.{IsFold, calling_nothing}
use Rattle.fields_follow.proofs.Calm.{alone_in}
use Rattle.fields_follow.proofs.Forms.{HasItsCode}
use Rattle.fields_follow.proofs.Instructions.{place, word_in}
use Rattle.fields_follow.proofs.Leaving.{EndsBelow}
use Rattle.fields_follow.proofs.Locals.{locals_landed}
use Rattle.fields_follow.proofs.Passing.{code_longer, fields_longer}
use Rattle.fields_follow.proofs.Places.{HoldsTheFields, IsOwnField, PlacesFields}
use Rattle.fields_follow.proofs.Reducing.{GivesNumber, number_to}
use Rattle.fields_follow.proofs.Reductions.{GivesRegister, fold_type, folds_give}
use Rattle.fields_follow.proofs.Scalars.{GivesChanged}
use Rattle.fields_follow.proofs.Starts.{Starts}
use Rattle.fields_follow.proofs.Totals.{held_below}

module _ (g : Setting) (has : HasRegisters g) (places : PlacesFields g) (fields : HoldsTheFields g) (d : Draft) (s : CodeState) (low : g.from ≤ length d.code) where
  -- what stands in own entries that are named before the draft and from a place on is what stood there
  abbrev StaysNamed : ℕ → BitMemory → Type 0
  StaysNamed upto m =
      (h : Field) (first last p : ℕ) → h.offset < length d.fields → IsOwnField g h → EndsBelow g h → IsNamedAt g.unit h.offset first → first < length d.code → IsNamedAt g.unit h.offset last → upto ≤ last → field_number m (place g h) p ≡ field_number s.memory (place g h) p

  abbrev held_since : ℕ → Held
  held_since upto = record {
    holds = λ live at st memory. g.held.holds live at st memory × StaysNamed upto memory;
    ends = g.held.ends;
    finally = λ live at st memory h. g.held.finally live at st memory h.0;
    still = λ live at st u memory same winner h. (g.held.still live at st u memory same winner h.0, h.1);
    onward = λ live at to st memory behind h. (g.held.onward live at to st memory behind h.0, h.1);
    fewer = λ more less at st memory among h. (g.held.fewer more less at st memory among h.0, h.1);
  }

  -- the unit from the draft to that place, where values are folded and nothing else is done
  abbrev since : ℕ → Setting
  since upto = record g { may = calling_nothing IsFold; held = held_since upto; from = length d.code; entries = length d.fields; upto = upto }

  since_registers : (upto : ℕ) → HasRegisters (since upto)
  since_registers upto = let h = has in record {
    below = h.below;
    free = h.free;
    behind_files = h.behind_files;
    room = h.room;
    result = h.result;
    result_apart = h.result_apart;
    spared_variable = h.spared_variable;
    spared_result = h.spared_result;
    spared_own = h.spared_own;
    apart = h.apart;
  }

  keeps_since : (upto : ℕ) (e : Draft) (t u : CodeState) → Keeps g e t u → Keeps (since upto) e t u
  unfolding IsKept
  keeps_since upto e t u keeps = keeps

  keeps_back : (upto : ℕ) (e : Draft) (t u : CodeState) → Keeps (since upto) e t u → Keeps g e t u
  unfolding IsKept
  keeps_back upto e t u keeps = keeps

  sim_since : (upto : ℕ) (alive : Variable → Type 0) (st : State) (t : CodeState) → Sim g alive st t → StaysNamed upto t.memory → Sim (since upto) alive st t
  sim_since upto alive st t h stays = sim_saying g alive st t t.at t.memory (h.memory, stays) h

  sim_back : (upto : ℕ) (alive : Variable → Type 0) (st : State) (t : CodeState) → Sim (since upto) alive st t → Sim g alive st t
  sim_back upto alive st t h = sim_saying g alive st t t.at t.memory h.memory.0 h

  -- a later state with the memory that was there
  sim_among : (upto : ℕ) (alive : Variable → Type 0) (st : State) (t later : CodeState) → Sim (since upto) alive st t → Sim g alive st later → Sim (since upto) alive st (record later { at = t.at; memory = t.memory })
  sim_among upto alive st t later was h = sim_saying g alive st later t.at t.memory was.memory h

  -- what code does in the unit it does there
  follows_since : {A B : Type 0} (upto : ℕ) → upto ≤ g.upto → (R Q : A → State → B → Draft → Type 0) (t : CodeState) (o : Outcome A) (made : Made B) → ((x : A) (u : State) (y : B) (e : Draft) → Within (since upto) e → R x u y e → Q x u y e) → Follows g R t o made → Follows (since upto) Q t o made
  unfolding Follows
  follows_since upto high R Q t o made said h = by o made said h
    where
      within_so : (e : Draft) → Within (since upto) e → Within g e
      within_so e w = record { more = w.more; code = w.code; entries = w.entries; fields = w.fields; homes = w.homes; homes_are = w.homes_are; regs = w.regs; own = w.own; upto = let few = w.upto in omega (arith, few, high) }

      finishes_since : (early : Early) (u : State) (t : CodeState) → Finishes g early u t → Finishes (since upto) early u t
      finishes_since early u t f = record { t = f.t; ends = record { steps = f.ends.steps; is = f.ends.is }; turns = f.turns; output = f.output; input = f.input; memory = f.memory }

      by : (o : Outcome _) (made : Made _) → ((x : _) (u : State) (y : _) (e : Draft) → Within (since upto) e → R x u y e → Q x u y e) → Follows g R t o made → Follows (since upto) Q t o made
      by (Source.Gives x u) (Makes y e) said h = λ w. said x u y e w (h (within_so e w))
      by (Source.Ends early u) (Makes y e) said h = λ w. finishes_since early u t (h (within_so e w))
      by (Source.Gives x u) Fails said h = tt
      by (Source.Ends early u) Fails said h = tt

  -- and what it does there, up to where it ends, it does in the unit
  follows_back : {A B : Type 0} (R : ℕ → A → State → B → Draft → Type 0) (Q : A → State → B → Draft → Type 0) (t : CodeState) (o : Outcome A) (made : Made B) → ((x : A) (u : State) (y : B) (e : Draft) → R (length e.code) x u y e → Q x u y e) → ((upto : ℕ) → upto ≤ g.upto → Follows (since upto) (R upto) t o made) → Follows g Q t o made
  unfolding Follows
  follows_back R Q t o made said h = by o made said h
    where
      within_since : (e : Draft) → Within g e → Within (since (length e.code)) e
      within_since e w = record { more = w.more; code = w.code; entries = w.entries; fields = w.fields; homes = w.homes; homes_are = w.homes_are; regs = w.regs; own = w.own; upto = omega arith }

      finishes_back : (upto : ℕ) (early : Early) (u : State) (t : CodeState) → Finishes (since upto) early u t → Finishes g early u t
      finishes_back upto early u t f = record { t = f.t; ends = record { steps = f.ends.steps; is = f.ends.is }; turns = f.turns; output = f.output; input = f.input; memory = f.memory }

      by : (o : Outcome _) (made : Made _) → ((x : _) (u : State) (y : _) (e : Draft) → R (length e.code) x u y e → Q x u y e) → ((upto : ℕ) → upto ≤ g.upto → Follows (since upto) (R upto) t o made) → Follows g Q t o made
      by (Source.Gives x u) (Makes y e) said h = λ w. said x u y e (h (length e.code) w.upto (within_since e w))
      by (Source.Ends early u) (Makes y e) said h = λ w. finishes_back (length e.code) early u t (h (length e.code) w.upto (within_since e w))
      by (Source.Gives x u) Fails said h = tt
      by (Source.Ends early u) Fails said h = tt

  -- a fold puts its number where it is to be
  fold_since : (upto : ℕ) → upto ≤ g.upto → (alive : Variable → Type 0) → ((k : ℕ) → alive (V.File k)) → (n : ℕ) → ((e : Draft) → IsReadyButForFields g.typed g.instance (layout g) n e) → (e : TExpr) → IsFold e → HasItsCode g.typed g.instance alive n e
      → (d1 : Draft) (s1 : CodeState) (st : State) (R : Value → State → Out → Draft → Type 0) (r : ℕ) → Begun (since upto) alive d1 → At g s1 (length d1.code) → Sim (since upto) alive st s1 → Dest (since upto) (since_registers upto) alive (type_of e).elem d1 s1 R r
      → Follows (since upto) R s1 (evaluated fields.scope e fields.active st) (computed_to g.typed (layout g) (O.Scalar r) e d1)
  fold_since upto high alive files n ready e is c d1 s1 st R r begun at_place sim dest =
      follows_since upto high Folded R s1 (evaluated fields.scope e fields.active st) (computed_to g.typed (layout g) (O.Scalar r) e d1) by
      (folds_give g alive places fields has n ready e is c d1 s1 st r here (sim_back upto alive st s1 sim))
    where
      here : Starts g alive s1 (length d1.code) d1.regs (length d1.fields)
      here = record { stands = at_place; free = begun.regs; low = let more = begun.code in omega (arith, more, low); files = files; opened = begun.opened }

      Folded : Value → State → Out → Draft → Type 0
      Folded x u out f = (w : ℕ) × ((x ≡ Scalar w) × ((u ≡ st) × GivesRegister g alive r w d1 s1 st out f))

      again : (w : ℕ) (f : Draft) → Within (since upto) f → GivesNumber g alive d1 s1 st r w f → GivesNumber (since upto) alive d1 s1 st r w f
      again w f within given =
          let p = given.passes in
          let longer = code_longer given.middle f given.puts.more.0 given.puts.more.1 in
          let more_code = begun.code in
          let more_fields = begun.fields in
          let few = within.upto in
          record {
            middle = given.middle;
            passes = record {
              grown = p.grown;
              t = p.t;
              go = record { by = p.go.by; below = p.go.below };
              at = record { stands = p.at.stands; free = p.at.free; low = let l = code_longer d1 given.middle p.grown.0 p.grown.1 in omega (arith, l, more_code); files = files; opened = p.at.opened };
              registers = keeps_since upto d1 s1 p.t p.registers;
              sim = sim_since upto alive st p.t p.sim (λ h first last q below own ends before early after late.
                  p.stays tt h first last q (omega (arith, below, more_fields)) own ends before (omega (arith, early, more_code)) after (omega (arith, late, few, longer)) ∙ sim.memory.1 h first last q below own ends before early after late);
              stays = p.stays;
            };
            puts = record { more = given.puts.more; place = given.puts.place; go = record { by = given.puts.go.by; below = given.puts.go.below }; at = given.puts.at; few = given.puts.few };
          }

      by : (x : Value) (u : State) (out : Out) (f : Draft) → Within (since upto) f → Folded x u out f → R x u out f
      by x u out f within (w, (number, (same, (place, given)))) =
          subst (λ (v : Value). R v u out f) (sym number) (subst (λ (t : State). R (Scalar w) t out f) (sym same) (subst (λ (o : Out). R (Scalar w) st o f) (sym place)
          (number_to (since upto) alive (since_registers upto) (type_of e).elem d1 s1 st R r w f (fold_type e is) dest (again w f within given) within)))

  nothing_called : fields.scope.call ≡ calls g.typed g.most → (upto : ℕ) → upto ≤ g.upto → CallsFollow (since upto) fields.scope fields.active
  unfolding IsIn
  nothing_called around upto high = record {
    meant = around;
    value = λ elem index given none. absurd none;
    effect = λ index given none. absurd none;
    returns = λ elem none. absurd none;
    beside = λ registers. record {
      effects = λ alive files n ready e none. absurd none;
      folds = λ alive files n ready e is among c d1 s1 st R r begun at_place sim dest. fold_since upto high alive files n ready e is (record { code = c; among = among }) d1 s1 st R r begun at_place sim (record { takes = dest.takes });
      reads = λ alive files n ready ty place p indexes x of is. absurd is.1;
      stores = λ alive files n ready ty place sending op p q r indexes x of value is. absurd is.1;
      steps = λ alive files n ready ty place op order p r indexes x of is. absurd is.1;
      initials = λ alive files n ready info set e shaped is. absurd is.1.1.1.0;
    };
    lasts = λ live target behind named place jump stands jumps st memory h. (fields.closes live _ st memory (fields.opens live _ st memory h.0) (locals_landed g live place target jump stands jumps named st memory (fields.locals live _ st memory h.0)), h.1);
  }

-- the value of such a scalar stands in a register
pub folding_follows : (g : Setting) (has : HasRegisters g) → PlacesFields g → (fields : HoldsTheFields g) → fields.scope.call ≡ calls g.typed g.most → (alive : Variable → Type 0) (n : ℕ) (ready : (d : Draft) → IsReadyButForFields g.typed g.instance (layout g) n d) (quiet : Bool) (bits : ℕ) (e : TExpr) → IsIn (calling_nothing IsFold) e → NamesAmong alive e → HasCode g.typed g.instance n e
    → (d : Draft) (s : CodeState) (st : State) → Starts g alive s (length d.code) d.regs (length d.fields) → Sim g alive st s
    → Follows g (GivesChanged g has alive n ready fields (length d.fields) d s e) s (evaluated fields.scope e fields.active st) (operand_by g.typed (layout g) bits (λ after. value_of g.typed (layout g) bits e after) quiet e d)
unfolding word_in
folding_follows g has places fields around alive n ready quiet bits e is among code d s st here sim =
    follows_back g has places fields d s here.low Arrived (GivesChanged g has alive n ready fields (length d.fields) d s e) s (evaluated fields.scope e fields.active st) (operand_by g.typed (layout g) bits (λ after. value_of g.typed (layout g) bits e after) quiet e d)
    (λ x u out f a. gives x u out f a)
    (λ upto high.
    operand (there upto) (since_registers g has places fields d s here.low upto) alive n here.files ready fields.scope fields.active (nothing_called g has places fields d s here.low around upto high) quiet bits e (alone_in IsFold alive e is among) code d s st
    (record { regs = here.free; code = omega arith; fields = omega arith; opened = here.opened }) here.stands
    (sim_since g has places fields d s here.low upto alive st s sim (λ h first last p below own ends before early after late. refl)))
  where
    there : ℕ → Setting
    there upto = since g has places fields d s here.low upto

    Arrived : ℕ → Value → State → Out → Draft → Type 0
    Arrived upto x u out f = Arrives (since g has places fields d s here.low upto) alive (type_of e).elem quiet d s x u out f

    gives : (x : Value) (u : State) (out : Out) (f : Draft) → Arrived (length f.code) x u out f → GivesChanged g has alive n ready fields (length d.fields) d s e x u out f
    gives x u out f a =
        let word : slice_index a.t.registers a.holds.register ≡ held (type_of e).elem a.holds.word = a.holds.lasts u a.t a.sim (keeps_all (since g has places fields d s here.low (length f.code)) f a.t) (λ quiet. refl) in
        let longer = code_longer d f a.extended.0 a.extended.1 in
        let more = a.extended.1.regs in
        let free = here.free in
        let low = here.low in (
          a.holds.word,
          (
            a.holds.value,
            (
              a.holds.small,
              (
                a.holds.register,
                (
                  a.holds.is,
                  record {
                    passes = record {
                      grown = a.extended;
                      t = a.t;
                      go = record { by = a.go.by; below = a.go.below };
                      at = record { stands = a.at; free = omega (arith, more, free); low = omega (arith, longer, low); files = here.files; opened = open_later g (OpenAmong g alive) (length d.code) (length f.code) (length d.fields) (length f.fields) longer (fields_longer d f a.extended.0 a.extended.1) here.opened };
                      registers = keeps_back g has places fields d s here.low (length f.code) d s a.t a.keeps;
                      sim = sim_back g has places fields d s here.low (length f.code) alive u a.t a.sim;
                      stays = λ used h first last p below own ends before early after late. a.sim.memory.1 h first last p below own ends before early after late;
                    };
                    small = subst (λ (w : ℕ). w < 2 ^ 32) (sym word) (held_below (type_of e).elem a.holds.word);
                    same = λ q. sym word;
                    lasts = λ t sim_t keeps.
                        a.holds.lasts u (record t { at = a.t.at; memory = a.t.memory }) (sim_among g has places fields d s here.low (length f.code) alive u a.t t a.sim sim_t) (keeps_since g has places fields d s here.low (length f.code) f a.t t keeps) (λ quiet. refl) ∙ sym word;
                  },
                ),
              ),
            ),
          ),
        )
