-- The code of a call: its arguments go to the parameters, a turn is spent, and the body of what is called runs.
use Rattle.std.proofs.Common.{◌≡◌, ◌∙◌, ℕ, zero, suc, ◌+◌, ◌<◌, ◌≤◌, ◌^◌, List, [], ◌∷◌, ◌++◌, length, slice_get, slice_index, Option, Some, None, refl, sym, ap, subst, arith, ◌⊎◌, inl, inr}
use Rattle.std.specs.List.{slice_index_or}
use Rattle.std.proofs.lemmas.List.{get_or-set_other}
use Rattle.std.proofs.lemmas.Option.{slice_get_cases}
use Rattle.cstar_tree.specs.declared.typed.Instance.{Instance}
use Rattle.cstar_tree.specs.declared.typed.VarInfo.{VarInfo}
use Rattle.cstar_tree.specs.declared.typed.Variable.{Variable}
use Rattle.cstar_tree.specs.declared.typed.Variable.TheVariants as V
use Rattle.code_lengths.specs.Naming.{variable_named}
use Rattle.lower_base.specs.Constants.{first_free}
use Rattle.lower_base.specs.Drafts.{Draft, Makes, step as step_of, with_instr}
use Rattle.lower_base.specs.Layouts.{register_of, result_register}
use Rattle.lower_expr.specs.Frames.{turn_and_call}
use Rattle.paris_code.specs.declared.instr.Instr.TheVariants as I
use Rattle.paris_code.specs.Code.{CodeState, begun, called, with_register}
use Rattle.source_meaning.specs.Programs.{calls, run_body}
use Rattle.source_meaning.specs.State as Source
use Rattle.source_meaning.specs.State.{Outcome, State, spend_turn}
use Rattle.source_meaning.specs.Values.{Active, Scope, Value}
use Rattle.code_follows.proofs.Callees.{AreGiven, Callee, CallsFollow, ComesBack, Enters, MayCall, RunsBody, Shared}
use Rattle.code_follows.proofs.Following.{Follows, HasNumber, HasRegisters, IsKept, IsScalar, Keeps, Sim, apart_set, at_once, finishes_later, held}
use Rattle.code_follows.proofs.Growing.{Extended, extended}
use Rattle.code_follows.proofs.Jumping.{behind_turn, sim_spent, spends, stops}
use Rattle.code_follows.proofs.Settings.{OpenAmong, At, Begun, CallStands, Reaches, Setting, Within, and_one, at_next, begins_here, begun_later, code_more, earlier, layout, one, onto, regs_more, stands_here}

module _ (g : Setting) (has : HasRegisters g) (alive : Variable → Type 0) (files_live : (k : ℕ) → alive (V.File k)) (scope : Scope) (active : Active) (calls_follow : CallsFollow g scope active) where
  -- what the registers share with what is called, and what is held behind the place
  shared_of : (place : ℕ) (st : State) (s : CodeState) → s.at ≤ place → Sim g alive st s → Shared g (OpenAmong g alive) place st s
  unfolding register_of variable_named
  shared_of place st s behind h = record {
    registers = h.registers;
    files = λ k info is scalar. h.scalars (V.File k) info (files_live k) (is, scalar);
    small = λ k info is scalar. h.small (V.File k) info (files_live k) (is, scalar);
    constants = h.constants;
    turns = h.turns;
    output = h.output;
    input = h.input;
    bytes = h.bytes;
    memory = g.held.onward (OpenAmong g alive) s.at place st s.memory behind h.memory;
  }

  module _ {index : ℕ} (m : MayCall g active index) where
    abbrev c : Callee g index
    c = m.callee

    abbrev source : ℕ
    source = c.base + length c.callee.params.items

    -- a register of what is called takes a number
    pub sim_passed : (st : State) (s : CodeState) (r w : ℕ) → c.touches r → Sim g alive st s → Sim g alive st (with_register r w s)
    sim_passed st s r w touched h =
        apart_set g alive st s r w (λ x info scalar e. c.apart_variable r touched x info scalar.0 (sym e)) (λ word q is e. c.apart_constant word q is (subst (λ (n : ℕ). c.touches n) (sym e) touched)) h

    pub keeps_passed : (d : Draft) (s : CodeState) (r w : ℕ) → c.touches r → d.regs ≤ g.ends → Keeps g d s (with_register r w s)
    unfolding IsKept
    keeps_passed d s r w touched high q (inl own) =
        let low = own.0 in
        let up = own.1 in
        get_or-set_other s.registers r q w 0 (λ e. c.apart_value r touched (omega (arith, e, low)) (omega (arith, e, up, high)))
    keeps_passed d s r w touched high q (inr (inl spared)) = get_or-set_other s.registers r q w 0 (λ e. c.apart_spared r touched (subst (λ (n : ℕ). g.spared n) e spared))
    keeps_passed d s r w touched high q (inr (inr is)) = get_or-set_other s.registers r q w 0 (λ e. c.apart_result (subst (λ (n : ℕ). c.touches n) (sym e ∙ is) touched))

    -- what is kept is none of the registers that are changed
    record IsApart (r : ℕ) : Type 0 where
      pub untouched : c.touches r → ⊥
      pub behind : length g.typed.vars.items ≤ r

    is_apart : (d : Draft) (r : ℕ) → d.regs ≤ g.ends → IsKept g d r → IsApart r
    unfolding IsKept first_free result_register register_of variable_named
    is_apart d r high (inl own) = record {
      untouched = λ t. c.apart_value r t own.0 (let up = own.1 in omega (arith, up, high));
      behind = let files = has.behind_files in let result = has.result in let free = has.free in let low = own.0 in omega (arith, files, result, free, low);
    }
    is_apart d r high (inr (inl spared)) = record { untouched = λ t. c.apart_spared r t spared; behind = by (slice_get_cases g.typed.vars.items r).1 }
      where
        by : ((x : VarInfo) × (r < length g.typed.vars.items) × (slice_get g.typed.vars.items r ≡ Some x) × (slice_index_or g.typed.vars.items r x ≡ x)) ⊎ ((length g.typed.vars.items ≤ r) × (slice_get g.typed.vars.items r ≡ None)) → length g.typed.vars.items ≤ r
        by (inl found) = absurd (has.spared_variable r spared (V.File r) found.0 found.2 refl)
        by (inr past) = past.0
    is_apart d r high (inr (inr is)) = record {
      untouched = λ t. c.apart_result (subst (λ (n : ℕ). c.touches n) is t);
      behind = let files = has.behind_files in omega (arith, files, is);
    }

    -- the code is behind the call, with what it gives
    pub record CameBack (d : Draft) (s0 : CodeState) (v : Value) (u : State) (y : Unit {0}) (e : Draft) : Type 0 where
      pub grown : (n : ℕ) × Extended d n e
      pub t : CodeState
      pub go : Reaches g s0 t
      pub at : At g t (length e.code)
      pub sim : Sim g alive u t
      pub keeps : Keeps g d s0 t
      pub given : (info : VarInfo) → c.callee.result ≡ Some info → HasNumber info.elem v source t

    -- the variables of the caller are those of the file and its own, which nothing else changes
    sim_back : (back : ℕ) (s : CodeState) (before u : State) (v : Value) (t : CodeState) → s.registers ≡ t.registers → Sim g alive before t → (b : ComesBack g c (OpenAmong g alive) back s before v u) → Sim g alive u b.t
    unfolding register_of variable_named result_register
    sim_back back s before u v t same sim b = record {
      registers = b.shared.registers;
      scalars = scalars;
      small = small;
      constants = b.shared.constants;
      turns = b.shared.turns;
      output = b.shared.output;
      input = b.shared.input;
      bytes = b.shared.bytes;
      memory = subst (λ (n : ℕ). g.held.holds (OpenAmong g alive) n u b.t.memory) (sym b.at) b.shared.memory;
      returns = b.returns;
      few = let fewer = b.turned in let few = sim.few in omega (arith, fewer, few);
    }
      where
        files : length g.typed.vars.items ≤ (layout g).base
        files = has.behind_files

        stays : (x : Variable) (info : VarInfo) → IsScalar g x info → length g.typed.vars.items ≤ register_of (layout g) x → slice_index b.t.registers (register_of (layout g) x) ≡ slice_index t.registers (register_of (layout g) x)
        stays x info scalar behind = b.stays (register_of (layout g) x) (λ touch. c.apart_variable (register_of (layout g) x) touch x info scalar.0 refl) behind ∙ ap (λ (list : List ℕ). slice_index list (register_of (layout g) x)) same

        scalars : (x : Variable) (info : VarInfo) → alive x → IsScalar g x info → slice_index b.t.registers (register_of (layout g) x) ≡ held info.elem (u.scalar x)
        scalars (V.File k) info known scalar = b.shared.files k info scalar.0 scalar.1
        scalars (V.Param k) info known scalar = stays (V.Param k) info scalar (let f = files in omega (arith, f)) ∙ sim.scalars (V.Param k) info known scalar ∙ ap (λ (w : ℕ). held info.elem w) (sym (b.params_kept k))
        scalars (V.Local k) info known scalar = stays (V.Local k) info scalar (let f = files in omega (arith, f)) ∙ sim.scalars (V.Local k) info known scalar ∙ ap (λ (w : ℕ). held info.elem w) (sym (b.locals_kept k))

        small : (x : Variable) (info : VarInfo) → alive x → IsScalar g x info → u.scalar x < 2 ^ info.elem.bits
        small (V.File k) info known scalar = b.shared.small k info scalar.0 scalar.1
        small (V.Param k) info known scalar = subst (λ (w : ℕ). w < 2 ^ info.elem.bits) (sym (b.params_kept k)) (sim.small (V.Param k) info known scalar)
        small (V.Local k) info known scalar = subst (λ (w : ℕ). w < 2 ^ info.elem.bits) (sym (b.locals_kept k)) (sim.small (V.Local k) info known scalar)

    -- a turn is spent, and the body runs
    module _ (d : Draft) (free : Begun g alive d) (s0 : CodeState) (a : Draft) (n : ℕ) (s : CodeState) (st : State) (arguments : List Value) (grown : Extended d n a) (go : Reaches g s0 s) (here : At g s (length a.code)) (sim : Sim g alive st s) (keeps : Keeps g d s0 s) (given : AreGiven g c arguments s)
        (none : (info : VarInfo) → c.callee.result ≡ Some info → slice_index s.registers source ≡ 0) where
      abbrev turn : Draft
      turn = with_instr I.FrontTurn a

      abbrev behind : Draft
      behind = with_instr (I.FrontCall index) turn

      turn_within : Within g behind → Within g turn
      turn_within within = earlier g turn behind 1 (and_one g (I.FrontCall index) turn) within

      -- the state in which the body begins
      abbrev enters_in : ℕ → CodeState
      enters_in left = called g.image index (behind_turn g alive s left)

      body_follows : (k left : ℕ) → g.most ≡ suc k → st.turns ≡ suc left → Within g behind
          → Follows g (CameBack d s0) s (run_body g.typed (calls g.typed k) (slice_get g.typed.instances.items index) arguments active (record st { turns = left })) (Makes tt behind)
      unfolding Follows RunsBody Enters begun step_of
      body_follows k left most some within =
          subst (λ (o : Option Instance). Follows g (CameBack d s0) s (run_body g.typed (calls g.typed k) o arguments active begun_body) (Makes tt behind)) (sym c.is)
          (after (run_body g.typed (calls g.typed k) (Some c.callee) arguments active begun_body)
          (m.enters k most stands (OpenAmong g alive) arguments begun_body (enters_in left) (spent.at + 1) (let here = there in omega (arith, here)) refl (ap (λ (list : List ℕ). list ++ (spent.at + 1) ∷ []) sim_turned.returns) shared fewer (record { words = given.words; few = given.few }) none))
        where
          begun_body : State
          begun_body = record st { turns = left }

          spent : CodeState
          spent = behind_turn g alive s left

          sim_turned : Sim g alive begun_body spent
          sim_turned = sim_spent g alive st s left some sim

          shared : Shared g (OpenAmong g alive) (spent.at + 1) begun_body (enters_in left)
          shared = let h = shared_of (spent.at + 1) begun_body spent (omega arith) sim_turned in record { registers = h.registers; files = h.files; small = h.small; constants = h.constants; turns = h.turns; output = h.output; input = h.input; bytes = h.bytes; memory = h.memory }

          stands : CallStands g index
          stands =
              let begun : Begun g alive turn = begun_later g alive d turn (n + 1) (extended d a turn n 1 grown (and_one g I.FrontTurn a)) free in
              record { at = length turn.code; stands = stands_here g (I.FrontCall index) turn within refl; low = begun.code; high = let up = within.upto in let more = code_more g (I.FrontCall index) turn in omega (arith, up, more) }

          fewer : left ≤ k
          fewer = let few = sim.few in omega (arith, few, most, some)

          there : At g spent (length turn.code)
          there = at_next g I.FrontTurn a s (s.at + 1) here refl

          goes : Reaches g s (enters_in left)
          goes = onto g s spent (enters_in left) (spends g alive a s st left (turn_within within) here sim some) (one g spent (enters_in left) (begins_here g (I.FrontCall index) turn spent within refl there) refl)

          after : (o : Outcome Value) → RunsBody g c (OpenAmong g alive) (spent.at + 1) (enters_in left) begun_body o → Follows g (CameBack d s0) s o (Makes tt behind)
          after (Source.Ends early u) ran = λ w. finishes_later g early u s (enters_in left) goes ran
          after (Source.Gives v u) ran = λ w. record {
            grown = (n + 2, extended d a behind n 2 grown (extended a turn behind 1 1 (and_one g I.FrontTurn a) (and_one g (I.FrontCall index) turn)));
            t = ran.t;
            go = onto g s0 s ran.t go (onto g s (enters_in left) ran.t goes ran.go);
            at = ran.at ∙ at_next g (I.FrontCall index) turn spent (spent.at + 1) there refl;
            sim = sim_back (spent.at + 1) (enters_in left) begun_body u v spent refl sim_turned ran;
            keeps = λ r kept.
                let apart : IsApart r = is_apart d r (let own = within.own in let regs = grown.regs in let more = regs_more g I.FrontTurn a in let last = regs_more g (I.FrontCall index) turn in omega (arith, own, regs, more, last)) kept in
                ran.stays r apart.untouched apart.behind ∙ keeps r kept;
            given = ran.given;
          }

      pub turn_follows : Follows g (CameBack d s0) s (calls g.typed g.most index arguments active st) (Makes tt (turn_and_call index a))
      unfolding turn_and_call Follows calls spend_turn
      turn_follows = by_most g.most refl
        where
          by_turns : (k : ℕ) → g.most ≡ suc k → (left : ℕ) → st.turns ≡ left
              → Follows g (CameBack d s0) s (elim left as (λ _. Outcome Value) [ zero ↦ Source.Ends Source.Stopped st | suc l ↦ run_body g.typed (calls g.typed k) (slice_get g.typed.instances.items index) arguments active (record st { turns = l }) ]) (Makes tt behind)
          by_turns k most zero none_left = λ within. stops g alive a s st (turn_within within) here sim none_left
          by_turns k most (suc left) some = at_once g (CameBack d s0) s (run_body g.typed (calls g.typed k) (slice_get g.typed.instances.items index) arguments active (record st { turns = left })) tt behind (λ within. body_follows k left most some within)

          by_most : (k : ℕ) → g.most ≡ k → Follows g (CameBack d s0) s (calls g.typed k index arguments active st) (Makes tt behind)
          by_most zero most = λ within. stops g alive a s st (turn_within within) here sim (let few = sim.few in omega (arith, few, most))
          by_most (suc k) most = by_turns k most st.turns refl
