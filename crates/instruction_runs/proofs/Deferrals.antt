-- An instruction that waits does what it was made of.
use Rattle.std.proofs.Common.{◌≡◌, ℕ, ◌<◌, ◌≤◌, true, false, eqb, ltb, Option, Some, None, List, [], ◌∷◌, ◌++◌, All, length, map, drop, get_or, add-one, drop-cons, refl, sym, ◌∙◌, ap, subst, inl, inr, arith}
use Rattle.std.specs.Prelude.{◌+◌, ◌&&◌, ◌||◌}
use Rattle.std.proofs.lemmas.Bool.{and_parts, or_cases, eqb-true}
use Rattle.std.proofs.lemmas.List.{length-map}
use Rattle.std.proofs.lemmas.List.Elements.{All-cons, All-head, All-push, All-tail}
use Rattle.cstar_base.specs.Numbers.{number_of}
use Rattle.paris_code.specs.declared.operands.Field.{Field}
use Rattle.paris_code.specs.declared.program.Reply.TheVariants as R
use Rattle.paris_code.specs.Arguments.{konst_number}
use Rattle.paris_code.specs.declared.instr.Instr.{Instr}
use Rattle.paris_code.specs.declared.instr.Instr.TheVariants as I
use Rattle.paris_code.specs.Elementwise.{destination, is_elementwise}
use Rattle.paris_code.specs.Meaning.{after, reply_of}
use Rattle.paris_code.specs.Memory.{BitMemory, SameBits}
use Rattle.paris_code.specs.Operands.{arguments_of, result_of}
use Rattle.paris_code.specs.Shapes.{SetShape, bits_at, extents_at, rank_at}
use Rattle.phase_meaning.specs.Apply.{CanApply, active_set}
use Rattle.phase_meaning.proofs.FieldLemmas.{destination_runs, lies}
use Rattle.phase_meaning.proofs.Replies.{plain, same_bits}
use Rattle.block_store.specs.declared.set.SetPlan.{SetPlan}
use Rattle.block_store.specs.Stored.{shape_of_plan}
use Rattle.elementwise.specs.declared.preparing.Prepared.{Prepared}
use Rattle.elementwise.specs.Preparing.{IsPrepared}
use Rattle.news_grid.specs.declared.news.News.{News}
use Rattle.news_grid.specs.declared.step.Step.{Step}
use Rattle.news_grid.specs.Steps.{Leads}
use Rattle.instruction_runs.specs.declared.batches.TheConstants.{MOST}
use Rattle.instruction_runs.specs.declared.deferring.Deferred.{Deferred}
use Rattle.instruction_runs.specs.declared.deferring.Work.{Work}
use Rattle.instruction_runs.specs.declared.deferring.Work.TheVariants as W
use Rattle.instruction_runs.specs.Passing.{can_pass, lets_pass}
use Rattle.instruction_runs.specs.Waiting.{all_let, can_wait, done_all, field_written, lets, news_of, or_source, set_of, set_of_work, source_of, source_of_all, takes, with_arguments, working_set, AreInTurn, AreReady, IsDeferral, IsReady, IsShiftOf, IsWorkOf}

-- where an instruction writes: a field, or a flag behind the fields of its set
abbrev pub Where : List SetShape → Option Field → Field → Type 0
Where shapes None run = bits_at shapes run.set ≤ run.offset
Where shapes (Some f) run = run ≡ f

pub field_is : (shapes : List SetShape) (instr : Instr) → is_elementwise instr ≡ true → Where shapes (field_written instr) (destination shapes instr)
field_is shapes (I.Move signed d a) is = refl
field_is shapes (I.MoveConstant d k) is = refl
field_is shapes (I.MoveZeroAlways d) is = refl
field_is shapes (I.MoveAlways d a) is = refl
field_is shapes (I.MyNewsCoordinate d axis) is = refl
field_is shapes (I.MakeAddress d set coordinates) is = refl
field_is shapes (I.Operate op d a b) is = refl
field_is shapes (I.OperateConstant op d a k) is = refl
field_is shapes (I.Negate d a) is = refl
field_is shapes (I.Lognot d a) is = refl
field_is shapes (I.StoreTest d) is = refl
field_is shapes (I.StoreContext d) is = refl
field_is shapes (I.Compare relation a b) is = omega arith
field_is shapes (I.EqZero a) is = omega arith
field_is shapes (I.NeZero a) is = omega arith
field_is shapes (I.LoadTest a) is = omega arith
field_is shapes (I.LoadContext a) is = omega arith
field_is shapes (I.SetContext set) is = omega arith
field_is shapes (I.LogandContextWithTest set) is = omega arith
field_is shapes (I.LogandcContextWithTest set) is = omega arith
field_is shapes _ is = cc

-- an instruction without arguments that can stand for one with them, and answers nothing
pub record StandsFor (shapes : List SetShape) (instr : Instr) (args : List ℕ) (new : Instr) : Type 0 where
  pub answers : (m : BitMemory) → (result_of instr ≡ None) × (reply_of shapes instr args m ≡ R.Nothing)
  pub can : CanApply shapes new []
  pub waits : can_wait new ≡ true
  pub set : working_set new ≡ working_set instr
  pub same : (m : BitMemory) → after shapes new [] m ≡ after shapes instr args m

-- it reads no register
itself : (shapes : List SetShape) (instr : Instr) (args : List ℕ) → CanApply shapes instr args → is_elementwise instr ≡ true → can_wait instr ≡ true → length (arguments_of instr) ≡ 0
    → ((m : BitMemory) → after shapes instr [] m ≡ after shapes instr args m) → StandsFor shapes instr args instr
itself shapes instr args can is waits none same = record {
  answers = λ m. ((plain shapes instr args m is).1, (plain shapes instr args m is).2);
  waits = waits;
  can = record { parallel = can.parallel; slots = can.slots; field = can.field; set = can.set; operands = can.operands; arguments = sym none };
  set = refl;
  same = same;
}

pub stands_for : (shapes : List SetShape) (instr : Instr) (args : List ℕ) → CanApply shapes instr args → can_wait instr ≡ true → StandsFor shapes instr args (with_arguments instr args)
unfolding after
stands_for shapes (I.Move signed d a) args can is = itself shapes (I.Move signed d a) args can refl refl refl (λ m. refl)
stands_for shapes (I.MoveConstant d k) args can is = record {
  answers = λ m. (refl, refl);
  waits = refl;
  can = record { parallel = refl; slots = can.slots; field = (can.field.0, tt); set = can.set; operands = can.operands; arguments = refl };
  set = refl;
  same = λ m. refl;
}
stands_for shapes (I.MoveZeroAlways d) args can is = itself shapes (I.MoveZeroAlways d) args can refl refl refl (λ m. refl)
stands_for shapes (I.MoveAlways d a) args can is = itself shapes (I.MoveAlways d a) args can refl refl refl (λ m. refl)
stands_for shapes (I.MyNewsCoordinate d axis) args can is = itself shapes (I.MyNewsCoordinate d axis) args can refl refl refl (λ m. refl)
stands_for shapes (I.MakeAddress d set coordinates) args can is = cc
stands_for shapes (I.Operate op d a b) args can is = itself shapes (I.Operate op d a b) args can refl refl refl (λ m. refl)
stands_for shapes (I.OperateConstant op d a k) args can is = record {
  answers = λ m. (refl, refl);
  waits = refl;
  can = record { parallel = refl; slots = can.slots; field = (can.field.0, can.field.1, tt); set = can.set; operands = can.operands; arguments = refl };
  set = refl;
  same = λ m. refl;
}
stands_for shapes (I.Negate d a) args can is = itself shapes (I.Negate d a) args can refl refl refl (λ m. refl)
stands_for shapes (I.Lognot d a) args can is = itself shapes (I.Lognot d a) args can refl refl refl (λ m. refl)
stands_for shapes (I.Compare relation a b) args can is = itself shapes (I.Compare relation a b) args can refl refl refl (λ m. refl)
stands_for shapes (I.EqZero a) args can is = itself shapes (I.EqZero a) args can refl refl refl (λ m. refl)
stands_for shapes (I.NeZero a) args can is = itself shapes (I.NeZero a) args can refl refl refl (λ m. refl)
stands_for shapes (I.LoadTest a) args can is = itself shapes (I.LoadTest a) args can refl refl refl (λ m. refl)
stands_for shapes (I.StoreTest d) args can is = itself shapes (I.StoreTest d) args can refl refl refl (λ m. refl)
stands_for shapes (I.LoadContext a) args can is = itself shapes (I.LoadContext a) args can refl refl refl (λ m. refl)
stands_for shapes (I.StoreContext d) args can is = itself shapes (I.StoreContext d) args can refl refl refl (λ m. refl)
stands_for shapes (I.SetContext set) args can is = itself shapes (I.SetContext set) args can refl refl refl (λ m. refl)
stands_for shapes (I.LogandContextWithTest set) args can is = itself shapes (I.LogandContextWithTest set) args can refl refl refl (λ m. refl)
stands_for shapes (I.LogandcContextWithTest set) args can is = itself shapes (I.LogandcContextWithTest set) args can refl refl refl (λ m. refl)
stands_for shapes (I.GetFromNews d a axis k) args can is = record {
  answers = λ m. (refl, refl);
  waits = refl;
  can = record { parallel = refl; slots = can.slots; field = (can.field.0, can.field.1, tt); set = can.set; operands = can.operands; arguments = refl };
  set = refl;
  same = λ m. refl;
}
stands_for shapes (I.GetFromNewsAlways d a axis k) args can is = record {
  answers = λ m. (refl, refl);
  waits = refl;
  can = record { parallel = refl; slots = can.slots; field = (can.field.0, can.field.1, tt); set = can.set; operands = can.operands; arguments = refl };
  set = refl;
  same = λ m. refl;
}
stands_for shapes _ args can is = cc

plain_set : (instr : Instr) → is_elementwise instr ≡ true → active_set instr ≡ working_set instr
plain_set (I.GetFromNews d a axis k) is = cc
plain_set (I.GetFromNewsAlways d a axis k) is = cc
plain_set _ is = refl

-- what is found of a shift
pub shift_is : (shapes : List SetShape) (instr : Instr) (news : News) (step : Step) → CanApply shapes instr [] → news_of instr ≡ Some news → Leads (extents_at shapes news.dest.set) news.axis (number_of 32 true news.by) step
    → IsShiftOf shapes instr news step
unfolding after
shift_is shapes (I.GetFromNews d a axis k) news step can e leads =
    let made : News = record { dest = d; source = a; axis = axis; by = konst_number k []; always = false } in
    let there : made ≡ news = cc in
    let instr : Instr = I.GetFromNews d a axis k in
    subst (λ (n : News). Leads (extents_at shapes n.dest.set) n.axis (number_of 32 true n.by) step → IsShiftOf shapes instr n step) there (λ way. record {
      dest = lies shapes d can.field.0 can.set.0;
      source = lies shapes a can.field.1.0 can.set.1;
      together = can.operands can.set.0 can.set.1;
      lens = can.field.1.1 can.set.1 can.set.0;
      axis = can.set.2;
      leads = way;
      writes = refl;
      set = refl;
      means = λ m. refl;
    }) leads
shift_is shapes (I.GetFromNewsAlways d a axis k) news step can e leads =
    let made : News = record { dest = d; source = a; axis = axis; by = konst_number k []; always = true } in
    let there : made ≡ news = cc in
    let instr : Instr = I.GetFromNewsAlways d a axis k in
    subst (λ (n : News). Leads (extents_at shapes n.dest.set) n.axis (number_of 32 true n.by) step → IsShiftOf shapes instr n step) there (λ way. record {
      dest = lies shapes d can.field.0 can.set.0;
      source = lies shapes a can.field.1.0 can.set.1;
      together = can.operands can.set.0 can.set.1;
      lens = can.field.1.1 can.set.1 can.set.0;
      axis = can.set.2;
      leads = way;
      writes = refl;
      set = refl;
      means = λ m. refl;
    }) leads
shift_is shapes _ news step can e leads = cc

-- its fields and its axis are of its set
pub news_lies : (plans : List SetPlan) (instr : Instr) (news : News) → CanApply (map shape_of_plan plans) instr [] → news_of instr ≡ Some news
    → (news.dest.set < length plans) × (news.axis < rank_at (map shape_of_plan plans) news.dest.set)
news_lies plans (I.GetFromNews d a axis k) news can e =
    let shapes : List SetShape = map shape_of_plan plans in
    let made : News = record { dest = d; source = a; axis = axis; by = konst_number k []; always = false } in
    let there : made ≡ news = cc in
    subst (λ (n : News). (n.dest.set < length plans) × (n.axis < rank_at shapes n.dest.set)) there (omega (arith, can.set.0, length-map plans shape_of_plan), can.set.2)
news_lies plans (I.GetFromNewsAlways d a axis k) news can e =
    let shapes : List SetShape = map shape_of_plan plans in
    let made : News = record { dest = d; source = a; axis = axis; by = konst_number k []; always = true } in
    let there : made ≡ news = cc in
    subst (λ (n : News). (n.dest.set < length plans) × (n.axis < rank_at shapes n.dest.set)) there (omega (arith, can.set.0, length-map plans shape_of_plan), can.set.2)
news_lies plans _ news can e = cc

pub in_shapes : (plans : List SetPlan) (set : ℕ) → set < length plans → set < length (map shape_of_plan plans)
in_shapes plans set b = omega (arith, b, length-map plans shape_of_plan)

-- the set of an elementwise instruction, as it was found
pub prepared_set : (shapes : List SetShape) (instr : Instr) (prepared : Prepared) → CanApply shapes instr [] → IsPrepared shapes instr [] prepared → prepared.to.run.set ≡ active_set instr
prepared_set shapes instr prepared can is = ap (λ (r : Field). r.set) is.run ∙ (destination_runs shapes instr [] can is.elementwise).1

-- the set of what was found
work_set : (shapes : List SetShape) (instr : Instr) (work : Work) → CanApply shapes instr [] → IsWorkOf shapes instr work → set_of_work work ≡ working_set instr
work_set shapes instr (W.Elementwise prepared) can is = prepared_set shapes instr prepared can is ∙ plain_set instr is.elementwise
work_set shapes instr (W.Shift news step) can is = is.set

-- what was made of an instruction
pub deferral : (shapes : List SetShape) (instr : Instr) (args : List ℕ) (new : Instr) (work : Work) (writes : Option Field) → CanApply shapes instr args → can_wait instr ≡ true → new ≡ with_arguments instr args
    → IsWorkOf shapes new work → writes ≡ field_written new → IsDeferral shapes instr args (record { instr = new; work = work; writes = writes })
deferral shapes instr args new work writes can waits is found field =
    let stands : StandsFor shapes instr args new = subst (λ (i : Instr). StandsFor shapes instr args i) (sym is) (stands_for shapes instr args can waits) in
    record {
      waits = waits;
      ready = record { can = stands.can; work = found; writes = field };
      set = work_set shapes new work stands.can found ∙ stands.set;
      means = λ m. (
        sym (stands.answers m).1,
        subst (λ (x : BitMemory). SameBits shapes (after shapes new [] m) x) (stands.same m) (same_bits shapes (after shapes new [] m)),
      );
    }

-- one more is done behind the others
pub done_more : (shapes : List SetShape) (ds : List Deferred) (d : Deferred) (m : BitMemory) → done_all shapes (ds ++ d ∷ []) m ≡ after shapes d.instr [] (done_all shapes ds m)
done_more shapes [] d m = refl
done_more shapes (e ∷ rest) d m = done_more shapes rest d (after shapes e.instr [] m)

-- the set stays, where there were some
same_set : (ds : List Deferred) (set : ℕ) (d : Deferred) → takes set ds d ≡ true → 0 < length ds → set ≡ set_of d
same_set ds set d fits some =
    let own : (eqb (length ds) 0 || eqb set (set_of d)) ≡ true = (and_parts (eqb (length ds) 0 || eqb set (set_of d)) (all_let ds (source_of d)) (and_parts (ltb (length ds) MOST) _ fits).1).0 in
    elim (or_cases (eqb (length ds) 0) (eqb set (set_of d)) own) [
      | inl e ↦ absurd (omega (arith, eqb-true (length ds) 0 e, some))
      | inr e ↦ eqb-true set (set_of d) e
    ]

-- each lets one that all let
each_lets : (ds : List Deferred) (source : Option Field) → all_let ds source ≡ true → All (λ e. lets e source ≡ true) ds
each_lets [] source e = λ k d b. absurd (omega (arith, b))
each_lets (d ∷ rest) source e =
    let parts = and_parts (lets d source) (all_let rest source) e in
    All-cons (λ x. lets x source ≡ true) d rest parts.0 (each_lets rest source parts.1)

-- one more in turn
turns_more : (ds : List Deferred) (d : Deferred) → AreInTurn ds → All (λ e. lets e (source_of d) ≡ true) ds → AreInTurn (ds ++ d ∷ [])
turns_more [] d turns all = ((λ k x b. absurd (omega (arith, b))), tt)
turns_more (e ∷ rest) d turns all = (
  All-push (λ x. lets e (source_of x) ≡ true) rest d turns.0 (All-head (λ x. lets x (source_of d) ≡ true) e rest all),
  turns_more rest d turns.1 (All-tail (λ x. lets x (source_of d) ≡ true) e rest all),
)

pub ready_more : (shapes : List SetShape) (ds : List Deferred) (d : Deferred) (set : ℕ) → takes set ds d ≡ true
    → AreReady shapes set ds → IsReady shapes d → AreReady shapes (set_of d) (ds ++ d ∷ [])
ready_more shapes ds d set fits all is = record {
  each = All-push (λ e. IsReady shapes e × (set_of e ≡ set_of d)) ds d (λ k none b. ((all.each k none b).0, (all.each k none b).1 ∙ same_set ds set d fits (omega (arith, b)))) (is, refl);
  turns = turns_more ds d all.turns
      (each_lets ds (source_of d) (and_parts (eqb (length ds) 0 || eqb set (set_of d)) (all_let ds (source_of d)) (and_parts (ltb (length ds) MOST) _ fits).1).1);
}

-- the instructions from one on
from_one : (ds : List Deferred) (j : ℕ) (d : Deferred) → j < length ds → d ≡ get_or ds j d → drop j ds ≡ d ∷ drop (j + 1) ds
from_one ds j d b e = (let q : drop j ds ≡ get_or ds j d ∷ drop (j + 1) ds = rw (add-one, drop-cons ds j d) in q) ∙ ap (λ (x : Deferred). x ∷ drop (j + 1) ds) (sym e)

pub let_from : (ds : List Deferred) (j : ℕ) (d : Deferred) (source : Option Field) → j < length ds → d ≡ get_or ds j d → all_let (drop j ds) source ≡ (lets d source && all_let (drop (j + 1) ds) source)
let_from ds j d source b e = ap (λ (xs : List Deferred). all_let xs source) (from_one ds j d b e)

pub pass_from : (ds : List Deferred) (j : ℕ) (d : Deferred) (instr : Instr) → j < length ds → d ≡ get_or ds j d → can_pass (drop j ds) instr ≡ (lets_pass d instr && can_pass (drop (j + 1) ds) instr)
pass_from ds j d instr b e = ap (λ (xs : List Deferred). can_pass xs instr) (from_one ds j d b e)

pub source_from : (ds : List Deferred) (j : ℕ) (d : Deferred) → j < length ds → d ≡ get_or ds j d → source_of_all (drop j ds) ≡ or_source (source_of d) (source_of_all (drop (j + 1) ds))
source_from ds j d b e = ap source_of_all (from_one ds j d b e)

-- one that takes from no field can wait behind each
pub none_let : (ds : List Deferred) (source : Option Field) → source ≡ None → all_let ds source ≡ true
none_let [] source e = refl
none_let (d ∷ rest) None e = none_let rest None refl
none_let (d ∷ rest) (Some f) e = cc
