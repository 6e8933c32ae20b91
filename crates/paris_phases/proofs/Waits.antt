-- A machine means the same whether its instructions wait or are done.
use Rattle.std.proofs.Common.{◌≡◌, ℕ, true, List, [], ◌∷◌, All, refl, sym, ◌∙◌, ap, subst, inl, inr, arith}
use Rattle.std.proofs.lemmas.Bool.{cases_eq}
use Rattle.std.proofs.lemmas.Grind.{not_there}
use Rattle.cstar_base.specs.declared.operators.Winner.{Winner}
use Rattle.cstar_base.specs.declared.operators.Winner.TheVariants as W
use Rattle.paris_code.specs.declared.instr.Instr.{Instr}
use Rattle.paris_code.specs.declared.program.Reply.{Reply}
use Rattle.paris_code.specs.declared.program.Reply.TheVariants as R
use Rattle.paris_code.specs.Meaning.{after, Means}
use Rattle.paris_code.specs.Memory.{BitMemory, SameBits}
use Rattle.paris_code.specs.Shapes.{SetShape}
use Rattle.paris_code.specs.Sound.{IsShape}
use Rattle.phase_meaning.specs.Apply.{CanApply, ReplyFits}
use Rattle.phase_meaning.proofs.Alike.{alike}
use Rattle.instruction_runs.specs.declared.deferring.Deferred.{Deferred}
use Rattle.instruction_runs.specs.Passing.{can_pass}
use Rattle.instruction_runs.specs.Waiting.{can_wait, done_all, takes, AreReady, IsDeferral}
use Rattle.instruction_runs.proofs.Composed.{bits_alike, winner_stays}
use Rattle.instruction_runs.proofs.Deferrals.{stands_for}
use Rattle.instruction_runs.proofs.Passing.{means_behind}

-- the same bits, by way of a third memory
pub by_way : (shapes : List SetShape) (l m n : BitMemory) → SameBits shapes l m → SameBits shapes m n → SameBits shapes l n
by_way shapes l m n first then = record {
  bits = λ s p i a b c. first.bits s p i a b c ∙ then.bits s p i a b c;
  winner = first.winner ∙ then.winner;
}

-- from the same bits an instruction means the same
pub means_from : (shapes : List SetShape) (instr : Instr) (args : List ℕ) (m n new : BitMemory) (reply : Reply) → All IsShape shapes → CanApply shapes instr args
    → SameBits shapes m n → Means shapes instr args m new reply → Means shapes instr args n new reply
means_from shapes instr args m n new R.Memory grids can same means = by_way shapes new m n means same
means_from shapes instr args m n new R.Nothing grids can same means =
    let both = alike shapes m n instr args grids can same in
    (means.0 ∙ both.0, by_way shapes new (after shapes instr args m) (after shapes instr args n) means.1 both.1)
means_from shapes instr args m n new (R.Value v) grids can same means =
    let both = alike shapes m n instr args grids can same in
    (means.0 ∙ both.0, by_way shapes new (after shapes instr args m) (after shapes instr args n) means.1 both.1)
means_from shapes instr args m n new (R.Bad position) grids can same means =
    let both = alike shapes m n instr args grids can same in
    (means.0 ∙ both.0, by_way shapes new (after shapes instr args m) (after shapes instr args n) means.1 both.1)

-- none that wait are ready
pub none_ready : (shapes : List SetShape) (set : ℕ) (ds : List Deferred) → ds ≡ [] → AreReady shapes set ds
none_ready shapes set [] e = record { each = λ k d b. absurd (omega (arith, b)); turns = tt }
none_ready shapes set (d ∷ ds) e = cc

-- which sender is to win makes no difference to those that wait
pub chosen : (shapes : List SetShape) (set : ℕ) (ds : List Deferred) (m n : BitMemory) → AreReady shapes set ds → ((s p i : ℕ) → m.bit s p i ≡ n.bit s p i)
    → SameBits shapes (done_all shapes ds n) (record { bit = (done_all shapes ds m).bit; winner = n.winner })
chosen shapes set ds m n ready same = record { bits = bits_alike shapes set ds n m ready (λ s p i _ _ _. sym (same s p i)); winner = winner_stays shapes set ds n ready }

winner_is : (v w : Winner) → ¬ (¬ (v ≡ w)) → v ≡ w
winner_is W.High W.High h = refl
winner_is W.Low W.Low h = refl
winner_is W.High W.Low h = absurd (h (λ e. cc))
winner_is W.Low W.High h = absurd (h (λ e. cc))

bit_is : (x y : ℕ) → ¬ (¬ (x ≡ y)) → x ≡ y
bit_is x y h = elim (cases_eq x y) [
  | inl e ↦ e
  | inr n ↦ absurd (h n)
]

-- and for that it is enough that they are ready merely
pub chosen_merely : (shapes : List SetShape) (set : ℕ) (ds : List Deferred) (m n : BitMemory) → ∥ AreReady shapes set ds ∥₁ → ((s p i : ℕ) → m.bit s p i ≡ n.bit s p i)
    → SameBits shapes (done_all shapes ds n) (record { bit = (done_all shapes ds m).bit; winner = n.winner })
chosen_merely shapes set ds m n ready same = record {
  bits = λ s p i a b c. bit_is _ _ (λ no. not_there ready (λ is. no ((chosen shapes set ds m n is same).bits s p i a b c)));
  winner = winner_is _ _ (λ no. not_there ready (λ is. no (chosen shapes set ds m n is same).winner));
}

-- where none wait, the memory is the store's
pub idle : (shapes : List SetShape) (ds : List Deferred) (m : BitMemory) → ds ≡ [] → done_all shapes ds m ≡ m
idle shapes [] m e = refl
idle shapes (d ∷ ds) m e = cc

pub settled_all : (shapes now : List SetShape) (ds : List Deferred) (m n : BitMemory) → ds ≡ [] → SameBits shapes m n → SameBits shapes (done_all now ds m) n
settled_all shapes now [] m n e same = same
settled_all shapes now (d ∷ ds) m n e same = cc

-- one more instruction waits
pub waits_more : (shapes now : List SetShape) (instr : Instr) (args : List ℕ) (d : Deferred) (m n new : BitMemory) → now ≡ shapes → All IsShape shapes → CanApply shapes instr args
    → IsDeferral shapes instr args d → SameBits shapes m n → new ≡ after now d.instr [] m → Means shapes instr args n new R.Nothing
waits_more shapes now instr args d m n new kept grids can is same e =
    means_from shapes instr args m n new R.Nothing grids can same
    (subst (λ (x : BitMemory). Means shapes instr args m x R.Nothing) (sym (e ∙ ap (λ s. after s d.instr [] m) kept)) (is.means m))

-- it answers nothing
pub nothing_fits : (shapes : List SetShape) (instr : Instr) (args : List ℕ) (m : BitMemory) → CanApply shapes instr args → can_wait instr ≡ true → ReplyFits instr R.Nothing
nothing_fits shapes instr args m can waits = ((stands_for shapes instr args can waits).answers m).0

-- an instruction is done that passes those that wait
pub done_ahead : (shapes now later : List SetShape) (set : ℕ) (instr : Instr) (args : List ℕ) (ds : List Deferred) (before old new : BitMemory) (reply : Reply) → now ≡ shapes → later ≡ shapes
    → AreReady now set ds → can_pass ds instr ≡ true → All IsShape shapes → CanApply shapes instr args
    → SameBits shapes (done_all now ds old) before → Means now instr args old new reply → Means shapes instr args before (done_all later ds new) reply
done_ahead shapes now later set instr args ds before old new reply kept still ready passes grids can same means =
    subst (λ s. Means shapes instr args before (done_all s ds new) reply) (sym still)
    (means_from shapes instr args (done_all shapes ds old) before (done_all shapes ds new) reply grids can (subst (λ s. SameBits shapes (done_all s ds old) before) kept same)
    (means_behind shapes set ds instr args old new reply (subst (λ s. AreReady s set ds) kept ready) can passes (subst (λ s. Means s instr args old new reply) kept means)))
