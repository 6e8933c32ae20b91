-- The law of scalar programs for scalars that change nothing, whose code stands among that of parallel expressions: it
-- leaves the memory as it is.
use Rattle.std.proofs.Common.{◌≡◌, ◌∙◌, ℕ, ◌<◌, ◌^◌, Bool, false, length, slice_index, refl, sym, ap, subst, arith}
use Rattle.cstar_tree.specs.declared.typed.TExpr.{TExpr}
use Rattle.cstar_tree.specs.declared.typed.Variable.{Variable}
use Rattle.cstar_tree.specs.Typed.{type_of}
use Rattle.code_lengths.specs.Ready.{HasCode, IsReadyButForFields}
use Rattle.lower_base.specs.declared.emit.Out.{Out}
use Rattle.lower_base.specs.declared.emit.Out.TheVariants as O
use Rattle.lower_base.specs.Drafts.{Draft, Fails, Made, Makes}
use Rattle.lower_expr.specs.Operands.{operand_by}
use Rattle.lower_expr.specs.Values.{value_of}
use Rattle.paris_code.specs.declared.operands.Konst.TheVariants as K
use Rattle.paris_code.specs.Code.{CodeState}
use Rattle.paris_code.specs.Memory.{BitMemory, field_number}
use Rattle.source_meaning.specs.Expressions.{evaluated}
use Rattle.source_meaning.specs.Programs.{calls}
use Rattle.source_meaning.specs.State as Source
use Rattle.source_meaning.specs.State.{Early, Outcome, State}
use Rattle.source_meaning.specs.Values.{Scalar, Scope, Value}
use Rattle.code_follows.specs.Fragment.{IsIn, NamesAmong}
use Rattle.code_follows.proofs.Besides.{sim_saying}
use Rattle.code_follows.proofs.Callees.{CallsFollow}
use Rattle.code_follows.proofs.Expressions.{operand, value_follows as value_does}
use Rattle.code_follows.proofs.Following.{Arrives, Finishes, Follows, HasRegisters, IsKept, Keeps, Sim, follows_same, held, keeps_all, knowing, follows_other}
use Rattle.code_follows.proofs.Settings.{Begun, Held, OpenAmong, open_later, Setting, Within, layout}
use Rattle.fields_follow.specs.Fragment.{IsCalm, alone}
use Rattle.fields_follow.proofs.Calm.{IsCalmly, alone_in, alone_same, calm_alone, calm_gives}
use Rattle.fields_follow.proofs.Instructions.{place, word_in}
use Rattle.fields_follow.proofs.Passing.{code_longer, fields_longer}
use Rattle.fields_follow.proofs.Places.{HoldsTheFields}
use Rattle.fields_follow.proofs.Spreading.{GivesWord}
use Rattle.fields_follow.proofs.Starts.{Starts}
use Rattle.fields_follow.proofs.Totals.{held_below}
use Rattle.fields_follow.proofs.Locals.{locals_landed}

module _ (g : Setting) (has : HasRegisters g) (fields : HoldsTheFields g) (m : BitMemory) where
  -- the memory is this one
  abbrev this_memory : Held
  this_memory = record {
    holds = λ live at st memory. g.held.holds live at st memory × (memory ≡ m);
    ends = g.held.ends;
    finally = λ live at st memory h. g.held.finally live at st memory h.0;
    still = λ live at st u memory same winner h. (g.held.still live at st u memory same winner h.0, h.1);
    onward = λ live at to st memory behind h. (g.held.onward live at to st memory behind h.0, h.1);
    fewer = λ more less at st memory among h. (g.held.fewer more less at st memory among h.0, h.1);
  }

  -- the same unit, where nothing else is done
  abbrev calm : Setting
  calm = record g { may = alone; held = this_memory; entries = 0 }

  abbrev around : Scope
  around = record { extents = fields.scope.extents; length_of = fields.scope.length_of; call = calls g.typed g.most }

  calm_registers : HasRegisters calm
  calm_registers = let h = has in record {
    below = h.below;
    free = h.free;
    behind_files = h.behind_files;
    room = h.room;
    result = h.result;
    result_apart = h.result_apart;
    spared_variable = h.spared_variable;
    spared_result = h.spared_result;
    spared_own = h.spared_own;
    apart = h.apart;
  }

  nothing_called : CallsFollow calm around fields.active
  unfolding IsIn
  nothing_called = record {
    meant = refl;
    value = λ elem index given none. absurd none;
    effect = λ index given none. absurd none;
    returns = λ elem none. absurd none;
    beside = λ registers. record { effects = λ alive files n ready e none. absurd none; folds = λ alive files n ready e none. absurd none; reads = λ alive files n ready ty place p indexes x of is. absurd is.1; stores = λ alive files n ready ty place sending op p q r indexes x of value is. absurd is.1; steps = λ alive files n ready ty place op order p r indexes x of is. absurd is.1; initials = λ alive files n ready info set e shaped is. absurd is.1.1.1.0 };
    lasts = λ live target behind named place jump stands jumps st memory h. (fields.closes live _ st memory (fields.opens live _ st memory h.0) (locals_landed g live place target jump stands jumps named st memory (fields.locals live _ st memory h.0)), h.1);
  }

  within_calm : (e : Draft) → Within g e → Within calm e
  within_calm e w = record { more = w.more; code = w.code; entries = w.entries; fields = w.fields; homes = w.homes; homes_are = w.homes_are; regs = w.regs; own = w.own; upto = w.upto }

  sim_calm : (alive : Variable → Type 0) (st : State) (s : CodeState) → s.memory ≡ m → Sim g alive st s → Sim calm alive st s
  sim_calm alive st s same h = sim_saying g alive st s s.at s.memory (h.memory, same) h

  sim_back : (alive : Variable → Type 0) (st : State) (s : CodeState) → Sim calm alive st s → Sim g alive st s
  sim_back alive st s h = sim_saying g alive st s s.at s.memory h.memory.0 h

  -- a later state with the memory that was there
  sim_among : (alive : Variable → Type 0) (st : State) (s t : CodeState) → Sim calm alive st s → Sim g alive st t → Sim calm alive st (record t { at = s.at; memory = s.memory })
  sim_among alive st s t was h = sim_saying g alive st t s.at s.memory was.memory h

  keeps_calm : (d : Draft) (s t : CodeState) → Keeps g d s t → Keeps calm d s t
  unfolding IsKept
  keeps_calm d s t keeps = keeps

  keeps_back : (d : Draft) (s t : CodeState) → Keeps calm d s t → Keeps g d s t
  unfolding IsKept
  keeps_back d s t keeps = keeps

  finishes_back : (early : Early) (st : State) (s : CodeState) → Finishes calm early st s → Finishes g early st s
  finishes_back early st s f = record { t = f.t; ends = record { steps = f.ends.steps; is = f.ends.is }; turns = f.turns; output = f.output; input = f.input; memory = f.memory }

  -- what code does there it does in the unit
  follows_calm : {A B : Type 0} (R Q : A → State → B → Draft → Type 0) (s : CodeState) (o : Outcome A) (made : Made B) → ((x : A) (u : State) (y : B) (e : Draft) → Within g e → R x u y e → Q x u y e) → Follows calm R s o made → Follows g Q s o made
  unfolding Follows
  follows_calm R Q s (Source.Gives x u) (Makes y e) said h = λ within. said x u y e within (h (within_calm e within))
  follows_calm R Q s (Source.Ends early u) (Makes y e) said h = λ within. finishes_back early u s (h (within_calm e within))
  follows_calm R Q s (Source.Gives x u) Fails said h = tt
  follows_calm R Q s (Source.Ends early u) Fails said h = tt

module _ (g : Setting) (has : HasRegisters g) (alive : Variable → Type 0) (n : ℕ) (ready : (d : Draft) → IsReadyButForFields g.typed g.instance (layout g) n d) (fields : HoldsTheFields g) where
  -- the value of a scalar stands in a register, whatever the state is then
  abbrev pub GivesChanged : ℕ → Draft → CodeState → TExpr → Value → State → Out → Draft → Type 0
  GivesChanged bound d s e x u out f = (w : ℕ) × ((x ≡ Scalar w) × ((w < 2 ^ (type_of e).elem.bits) × ((r : ℕ) × ((out ≡ O.Scalar r) × GivesWord g alive bound d s u (λ q. held (type_of e).elem w) (K.Reg r) f))))

  -- of code that gives it there
  abbrev Arrived : Bool → Draft → CodeState → TExpr → Value → State → Out → Draft → Type 0
  Arrived quiet d s e x u out f = Arrives (calm g has fields s.memory) alive (type_of e).elem quiet d s x u out f

  arrived_follows : (quiet : Bool) (bound : ℕ) (e : TExpr) → IsIn alone e → (d : Draft) (s : CodeState) (st : State) → Starts g alive s (length d.code) d.regs (length d.fields) → (made : Made Out)
      → Follows (calm g has fields s.memory) (Arrived quiet d s e) s (evaluated (around g has fields s.memory) e fields.active st) made → Follows g (GivesChanged bound d s e) s (evaluated fields.scope e fields.active st) made
  unfolding word_in
  arrived_follows quiet bound e is d s st here made law =
      follows_same g (GivesChanged bound d s e) s (alone_same fields.scope (around g has fields s.memory) fields.active fields.active e is st) refl
      (follows_calm g has fields s.memory (Arrived quiet d s e) (GivesChanged bound d s e) s (evaluated (around g has fields s.memory) e fields.active st) made (λ x u out f within a. gives x u out f a) law)
    where
      gives : (x : Value) (u : State) (out : Out) (f : Draft) → Arrived quiet d s e x u out f → GivesChanged bound d s e x u out f
      gives x u out f a =
          let word : slice_index a.t.registers a.holds.register ≡ held (type_of e).elem a.holds.word = a.holds.lasts u a.t a.sim (keeps_all (calm g has fields s.memory) f a.t) (λ calm. refl) in (
            a.holds.word,
            (
              a.holds.value,
              (
                a.holds.small,
                (
                  a.holds.register,
                  (
                    a.holds.is,
                    record {
                      passes = record {
                        grown = a.extended;
                        t = a.t;
                        go = record { by = a.go.by; below = a.go.below };
                        at = record {
                          stands = a.at;
                          free = let more = a.extended.1.regs in let free = here.free in omega (arith, more, free);
                          low = let more = code_longer d f a.extended.0 a.extended.1 in let low = here.low in omega (arith, more, low);
                          files = here.files;
                          opened = open_later g (OpenAmong g alive) (length d.code) (length f.code) (length d.fields) (length f.fields) (code_longer d f a.extended.0 a.extended.1) (fields_longer d f a.extended.0 a.extended.1) here.opened;
                        };
                        registers = keeps_back g has fields s.memory d s a.t a.keeps;
                        sim = sim_back g has fields s.memory alive u a.t a.sim;
                        stays = λ used h first last p below own ends before low after high. ap (λ (memory : BitMemory). field_number memory (place g h) p) a.sim.memory.1;
                      };
                      small = subst (λ (w : ℕ). w < 2 ^ 32) (sym word) (held_below (type_of e).elem a.holds.word);
                      same = λ q. sym word;
                      lasts = λ t sim keeps. a.holds.lasts u (record t { at = a.t.at; memory = a.t.memory }) (sim_among g has fields s.memory alive u a.t t a.sim sim) (keeps_calm g has fields s.memory f a.t t keeps) (λ calm. refl) ∙ sym word;
                    },
                  ),
                ),
              ),
            ),
          )

  -- where the code of an operand begins
  abbrev begun : (d : Draft) (s : CodeState) → Starts g alive s (length d.code) d.regs (length d.fields) → Begun (calm g has fields s.memory) alive d
  begun d s here = record { regs = here.free; code = here.low; fields = omega arith; opened = here.opened }

  changed_follows : (quiet : Bool) (bits bound : ℕ) (e : TExpr) → IsIn alone e → NamesAmong alive e → HasCode g.typed g.instance n e → (d : Draft) (s : CodeState) (st : State) → Starts g alive s (length d.code) d.regs (length d.fields) → Sim g alive st s
      → Follows g (GivesChanged bound d s e) s (evaluated fields.scope e fields.active st) (operand_by g.typed (layout g) bits (λ after. value_of g.typed (layout g) bits e after) quiet e d)
  changed_follows quiet bits bound e is among code d s st here sim =
      arrived_follows quiet bound e is d s st here (operand_by g.typed (layout g) bits (λ after. value_of g.typed (layout g) bits e after) quiet e d)
      (operand (calm g has fields s.memory) (calm_registers g has fields s.memory) alive n here.files ready (around g has fields s.memory) fields.active (nothing_called g has fields s.memory) quiet bits e (alone_in (λ x. ⊥) alive e is among) code d s st
      (begun d s here) here.stands (sim_calm g has fields s.memory alive st s refl sim))

  -- where it changes nothing the state is as it was
  abbrev pub GivesScalar : ℕ → Draft → CodeState → State → TExpr → Value → State → Out → Draft → Type 0
  GivesScalar bound d s st e x u out f = (w : ℕ) × ((x ≡ Scalar w) × ((u ≡ st) × ((r : ℕ) × ((out ≡ O.Scalar r) × GivesWord g alive bound d s st (λ q. held (type_of e).elem w) (K.Reg r) f))))

  scalar_so : (bound : ℕ) (e : TExpr) → IsCalm e → NamesAmong alive e → HasCode g.typed g.instance n e → (d : Draft) (s : CodeState) (st : State) → Sim g alive st s → (made : Made Out)
      → Follows g (GivesChanged bound d s e) s (evaluated fields.scope e fields.active st) made → Follows g (GivesScalar bound d s st e) s (evaluated fields.scope e fields.active st) made
  unfolding IsCalmly
  scalar_so bound e is among code d s st sim made changed =
      follows_other g Told (GivesScalar bound d s st e) s o made (knowing g (GivesChanged bound d s e) s o made changed) gives
    where
      o : Outcome Value
      o = evaluated fields.scope e fields.active st

      Told : Value → State → Out → Draft → Type 0
      Told x u out f = (o ≡ Source.Gives x u) × GivesChanged bound d s e x u out f

      gives : (x : Value) (u : State) (out : Out) (f : Draft) → Told x u out f → GivesScalar bound d s st e x u out f
      gives x u out f (given, (w, (is_w, (few, (r, (is_r, word)))))) =
          let same : u ≡ st = (subst (λ (y : Outcome Value). IsCalmly (type_of e).elem.bits st y) given (calm_gives g alive n fields.scope fields.active st sim.small e is code.names among)).2 in
          (w, (is_w, (same, (r, (is_r, subst (λ (t : State). GivesWord g alive bound d s t (λ q. held (type_of e).elem w) (K.Reg r) f) same word)))))

  pub scalar_follows : (quiet : Bool) (bits bound : ℕ) (e : TExpr) → IsCalm e → NamesAmong alive e → HasCode g.typed g.instance n e → (d : Draft) (s : CodeState) (st : State) → Starts g alive s (length d.code) d.regs (length d.fields) → Sim g alive st s
      → Follows g (GivesScalar bound d s st e) s (evaluated fields.scope e fields.active st) (operand_by g.typed (layout g) bits (λ after. value_of g.typed (layout g) bits e after) quiet e d)
  scalar_follows quiet bits bound e is among code d s st here sim =
      scalar_so bound e is among code d s st sim (operand_by g.typed (layout g) bits (λ after. value_of g.typed (layout g) bits e after) quiet e d) (changed_follows quiet bits bound e (calm_alone e is) among code d s st here sim)

  -- and so it is of the code of a value that is used nowhere else
  pub value_follows : (bits bound : ℕ) (e : TExpr) → IsCalm e → NamesAmong alive e → HasCode g.typed g.instance n e → (d : Draft) (s : CodeState) (st : State) → Starts g alive s (length d.code) d.regs (length d.fields) → Sim g alive st s
      → Follows g (GivesScalar bound d s st e) s (evaluated fields.scope e fields.active st) (value_of g.typed (layout g) bits e d)
  value_follows bits bound e is among code d s st here sim =
      scalar_so bound e is among code d s st sim (value_of g.typed (layout g) bits e d)
      (arrived_follows false bound e (calm_alone e is) d s st here (value_of g.typed (layout g) bits e d)
      (value_does (calm g has fields s.memory) (calm_registers g has fields s.memory) alive n here.files ready (around g has fields s.memory) fields.active (nothing_called g has fields s.memory) false bits e (alone_in (λ x. ⊥) alive e (calm_alone e is) among) code d s st
      (begun d s here) here.stands (sim_calm g has fields s.memory alive st s refl sim)))
