-- The one field from which all shifts take that wait, and what the room holds of it.
use Rattle.std.proofs.Common.{◌≡◌, ℕ, ◌+◌, ◌*◌, ◌<◌, ◌≤◌, true, eqb, Option, Some, None, List, [], ◌∷◌, All, get_or, refl, sym, ◌∙◌, ap, subst, arith}
use Rattle.std.proofs.lemmas.Bool.{and_parts, eqb-true}
use Rattle.std.proofs.lemmas.List.Elements.{All-cons, All-head, All-tail}
use Rattle.cstar_base.specs.declared.operators.Winner.{Winner}
use Rattle.bit_planes.specs.declared.block.Block.{Block}
use Rattle.bit_planes.specs.Planes.{number}
use Rattle.paris_code.specs.declared.operands.Field.{Field}
use Rattle.paris_code.specs.declared.instr.Instr.{Instr}
use Rattle.paris_code.specs.Memory.{is_active, processors}
use Rattle.paris_code.specs.Shapes.{SetShape, bits_at, extents_at}
use Rattle.std.specs.Prelude.{ℤ}
use Rattle.vp_sets.specs.Positions.{shifted}
use Rattle.cstar_base.specs.Numbers.{number_of}
use Rattle.bit_planes.specs.declared.plane.Plane.{Plane}
use Rattle.block_store.specs.Phases.{WrittenInBlock}
use Rattle.elementwise.specs.Blocks.{block_memory}
use Rattle.news_grid.specs.declared.news.News.{News}
use Rattle.news_grid.specs.declared.news.Taking.{Taking}
use Rattle.news_grid.specs.declared.step.Step.{Step}
use Rattle.news_grid.specs.Steps.{number_held}
use Rattle.news_grid.specs.Takings.{Stepped}
use Rattle.instruction_runs.specs.declared.deferring.Work.TheVariants as W
use Rattle.block_store.specs.declared.set.BlockSet.{BlockSet}
use Rattle.block_store.specs.Planes.{HasPlanes}
use Rattle.block_store.specs.Stored.{blocks_in, blocks_at, stored, AreWhole}
use Rattle.news_grid.proofs.Fetches.{held_number, taken_steps}
use Rattle.instruction_runs.specs.declared.deferring.Deferred.{Deferred}
use Rattle.instruction_runs.specs.Passes.{held_in, write_of_work, IsFieldIn, IsHeldOf}
use Rattle.instruction_runs.specs.Waiting.{leaves, lets, or_source, shares, source_of, source_of_all, AreInTurn, AreReady}
use Rattle.instruction_runs.proofs.Composed.{lies_of, IsSourced, SourceLies}

-- what one takes from, if it is a shift, is the same bits as this field
abbrev Shared : Field → Option Field → Type 0
Shared f None = Unit {0}
Shared f (Some g) = (g.offset ≡ f.offset) × (g.len ≡ f.len)

shared_behind : (d : Deferred) (f : Field) (o : Option Field) → source_of d ≡ Some f → lets d o ≡ true → Shared f o
shared_behind d f None at free = tt
shared_behind d f (Some g) at free =
    let same : shares (Some f) g ≡ true = subst (λ o. shares o g ≡ true) at (and_parts (leaves d.writes g) (shares (source_of d) g) free).1 in
    let parts = and_parts (eqb f.offset g.offset) (eqb f.len g.len) same in
    (sym (eqb-true f.offset g.offset parts.0), sym (eqb-true f.len g.len parts.1))

shared_first : (f : Field) (d : Deferred) (rest : List Deferred) (o : Option Field) → source_of d ≡ o → (source_of_all rest ≡ Some f → All (λ e. Shared f (source_of e)) rest) → All (λ e. lets d (source_of e) ≡ true) rest
    → or_source o (source_of_all rest) ≡ Some f → All (λ e. Shared f (source_of e)) (d ∷ rest)
shared_first f d rest None at later turns e = All-cons (λ x. Shared f (source_of x)) d rest (subst (λ o. Shared f o) (sym at) tt) (later e)
shared_first f d rest (Some g) at later turns e =
    let same : g ≡ f = cc in
    All-cons (λ x. Shared f (source_of x)) d rest (subst (λ o. Shared f o) (sym at) (ap (λ (h : Field). h.offset) same, ap (λ (h : Field). h.len) same))
    (λ k none b. shared_behind d f (source_of (get_or rest k none)) (at ∙ ap Some same) (turns k none b))

all_shared : (ds : List Deferred) (f : Field) → AreInTurn ds → source_of_all ds ≡ Some f → All (λ d. Shared f (source_of d)) ds
all_shared [] f turns e = cc
all_shared (d ∷ rest) f turns e = shared_first f d rest (source_of d) refl (all_shared rest f turns.1) turns.0 e

held_shared : (f : Field) (o : Option Field) (blocks : List Block) (held : List Plane) → IsHeldOf (Some f) blocks held → Shared f o → IsHeldOf o blocks held
held_shared f None blocks held is same = tt
held_shared f (Some g) blocks held is same = λ k i other b.
    ap (λ l. number held (k * l) l i) same.1 ∙ is k i other b
    ∙ sym (ap (λ l. number (get_or blocks k other).planes.items g.offset l i) same.1 ∙ ap (λ o. number (get_or blocks k other).planes.items o f.len i) same.0)

-- the room holds the source of each shift, where it holds the one
pub all_held : (ds : List Deferred) (f : Field) (blocks : List Block) (held : List Plane) → AreInTurn ds → source_of_all ds ≡ Some f → IsHeldOf (Some f) blocks held → All (λ d. IsHeldOf (source_of d) blocks held) ds
all_held ds f blocks held turns e is = λ k none b. held_shared f (source_of (get_or ds k none)) blocks held is (all_shared ds f turns e k none b)

none_first : (o later : Option Field) → or_source o later ≡ None → (o ≡ None) × (later ≡ None)
none_first None later e = (refl, e)
none_first (Some f) later e = cc

-- and there is none to be held, where none takes from a field
pub none_held : (ds : List Deferred) (blocks : List Block) (held : List Plane) → source_of_all ds ≡ None → All (λ d. IsHeldOf (source_of d) blocks held) ds
none_held [] blocks held e = λ k d b. absurd (omega (arith, b))
none_held (d ∷ rest) blocks held e =
    let parts = none_first (source_of d) (source_of_all rest) e in
    All-cons (λ x. IsHeldOf (source_of x) blocks held) d rest (subst (λ o. IsHeldOf o blocks held) (sym parts.0) tt) (none_held rest blocks held parts.1)

-- what is true of the sources of all is true of the one
one_first : (P : Option Field → Type 0) (f : Field) (o later : Option Field) → or_source o later ≡ Some f → P o → (later ≡ Some f → P (Some f)) → P (Some f)
one_first P f None later e p q = q e
one_first P f (Some g) later e p q = subst P e p

pub of_the_one : (P : Option Field → Type 0) (ds : List Deferred) (f : Field) → source_of_all ds ≡ Some f → All (λ d. P (source_of d)) ds → P (Some f)
of_the_one P [] f e all = cc
of_the_one P (d ∷ rest) f e all = one_first P f (source_of d) (source_of_all rest) e (All-head (λ x. P (source_of x)) d rest all) (λ q. of_the_one P rest f q (All-tail (λ x. P (source_of x)) d rest all))

-- the sources lie in the planes of the set's blocks
field_in : (shapes : List SetShape) (set : ℕ) (o : Option Field) (blocks : List Block) → SourceLies shapes set o → HasPlanes (bits_at shapes set + 2) blocks → IsFieldIn o blocks
field_in shapes set None blocks lies has = tt
field_in shapes set (Some f) blocks lies has =
    let end : f.offset + f.len ≤ bits_at shapes set = subst (λ s. f.offset + f.len ≤ bits_at shapes s) lies.0 lies.1.3 in
    ((lies.1.1, lies.1.2), λ k none b. omega (arith, end, has k none b))

pub fields_in : (shapes : List SetShape) (set : ℕ) (ds : List Deferred) (blocks : List Block) → AreReady shapes set ds → HasPlanes (bits_at shapes set + 2) blocks → All (λ d. IsFieldIn (source_of d) blocks) ds
fields_in shapes set ds blocks ready has = λ k none b. field_in shapes set (source_of (get_or ds k none)) blocks (lies_of shapes set (get_or ds k none) (ready.each k none b)) has

-- what is held of the sources is what the memory has
module _ (shapes : List SetShape) (sets : List BlockSet) (whole : AreWhole shapes sets) (set : ℕ) (from : BlockSet) (is : blocks_in from ≡ blocks_at sets set) (held : List Plane) (v : Winner) where
  sourced : (o : Option Field) → SourceLies shapes set o → IsHeldOf o (blocks_in from) held → IsSourced shapes set (held_in held) (stored sets v) o
  sourced None lies same = tt
  sourced (Some f) lies same = λ q b.
      held_number shapes sets whole f lies.1 from (is ∙ ap (blocks_at sets) (sym lies.0)) held same v q (subst (λ s. q < processors shapes s) (sym lies.0) b)

  pub all_sourced : (ds : List Deferred) → AreReady shapes set ds → All (λ d. IsHeldOf (source_of d) (blocks_in from) held) ds → All (λ d. IsSourced shapes set (held_in held) (stored sets v) (source_of d)) ds
  all_sourced ds ready same = λ k none b. sourced (source_of (get_or ds k none)) (lies_of shapes set (get_or ds k none) (ready.each k none b)) (same k none b)

-- a shift that has taken what is held a step away has written what is held
pub held_steps : {taking : Taking} (shapes : List SetShape) (instr : Instr) (step : Step) (k : ℕ) (old new : List Plane) → Stepped taking k old new
    → taking.plan.now.geometry ≡ extents_at shapes taking.shift.dest.set → taking.plan.now.bits ≡ bits_at shapes taking.shift.dest.set → taking.shift.source.len ≡ taking.shift.dest.len → taking.shift.dest.set ≡ taking.shift.source.set
    → WrittenInBlock shapes (write_of_work shapes (held_in taking.held.now) instr (block_memory old) (W.Shift taking.shift step)) k old new
unfolding is_active block_memory
held_steps {taking} shapes instr step k old new done grid at lens together =
    let news : News = taking.shift in
    let by : ℤ = number_of 32 true news.by in
    taken_steps shapes (block_memory old) taking k old new grid at (λ p e. refl) (λ p. held_in taking.held.now news.source (shifted (extents_at shapes news.source.set) p news.axis by))
    (λ p e b. ap (λ l. number_held taking.held.now l (shifted (extents_at shapes news.dest.set) p news.axis by)) (sym lens)
    ∙ ap (λ s. number_held taking.held.now news.source.len (shifted (extents_at shapes s) p news.axis by)) together)
    done
