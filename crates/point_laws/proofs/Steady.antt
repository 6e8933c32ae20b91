-- Code keeps the winner, and bits that are 0 or 1.
use Rattle.std.proofs.Common.{◌≡◌, ◌∙◌, ◌<◌, ◌&&◌, ◌+◌, ◌-◌, ℕ, zero, suc, Bool, true, false, cond, eqb, List, [], ◌∷◌, Option, Some, None, subst, arith, slice_index}
use Rattle.std.specs.Int.{bit_at}
use Rattle.std.specs.List.{slice_get}
use Rattle.cstar_base.specs.declared.faults.RunFault.{RunFault}
use Rattle.cstar_base.specs.declared.faults.RunFault.TheVariants as F
use Rattle.cstar_base.specs.declared.operators.Place.{Place}
use Rattle.cstar_base.specs.declared.operators.Winner.{Winner}
use Rattle.paris_code.specs.declared.instr.Instr.{Instr}
use Rattle.paris_code.specs.declared.instr.Instr.TheVariants as I
use Rattle.paris_code.specs.declared.program.Image.{Image}
use Rattle.paris_code.specs.declared.program.Reply.{Reply}
use Rattle.paris_code.specs.declared.program.Reply.TheVariants as R
use Rattle.paris_code.specs.Code.{CodeState, Mark, End, Broken, Next, Goes, Ends, Stopped, code, step, begun, begun_at, applied, arguments_at, checked, set_or, controlled, replied, given, go_on, turned}
use Rattle.paris_code.specs.Kinds.{is_parallel}
use Rattle.paris_code.specs.Meaning.{after, reply_of, write_of}
use Rattle.paris_code.specs.Memory.{BitMemory, SameBits}
use Rattle.paris_code.specs.Scalar.{any_register_outside, computed}
use Rattle.paris_code.specs.Shapes.{SetShape, extents_at, shapes_of}
use Rattle.paris_code.specs.Writes.{Write, covers, written, written_if}
use Rattle.point_laws.specs.Joined.{HasBits}

pub record Steady (shapes : List SetShape) (winner : Winner) (m : BitMemory) : Type 0 where
  pub same : m.winner ≡ winner
  pub bits : HasBits shapes m

pub steady_same : (shapes : List SetShape) (w : Winner) (m n : BitMemory) → SameBits shapes n m → Steady shapes w m → Steady shapes w n
steady_same shapes w m n same steady = record {
  same = same.winner ∙ steady.same;
  bits = λ s p i a b c. omega (arith, same.bits s p i a b c, steady.bits s p i a b c);
}

bit_small : (x j : ℕ) → bit_at x j < 2
bit_small x j = omega arith

either_small : (t : Bool) (x y : ℕ) → x < 2 → y < 2 → cond t x y < 2
either_small true x y a b = a
either_small false x y a b = b

written_steady : (shapes : List SetShape) (w : Winner) (o : Option Write) (m : BitMemory) → Steady shapes w m → Steady shapes w (written_if o m)
unfolding written
written_steady shapes w None m steady = steady
written_steady shapes w (Some write) m steady = record {
  same = steady.same;
  bits = λ s p i a b c. either_small (covers write.run s i && write.writes p) (bit_at (write.value p) (i - write.run.offset)) (m.bit s p i) (bit_small (write.value p) (i - write.run.offset)) (steady.bits s p i a b c);
}

after_steady : (shapes : List SetShape) (w : Winner) (instr : Instr) (args : List ℕ) (m : BitMemory) → Steady shapes w m → Steady shapes w (after shapes instr args m)
unfolding after
after_steady shapes w instr args m steady = written_steady shapes w (write_of shapes instr args m) m steady

-- what an instruction leads to has such a memory
abbrev pub Leads : List SetShape → Winner → Next → Type 0
Leads shapes w (Goes s) = Steady shapes w s.memory
Leads shapes w (Ends end s) = Steady shapes w s.memory

either_leads : (shapes : List SetShape) (w : Winner) (t : Bool) (x y : Next) → Leads shapes w x → Leads shapes w y → Leads shapes w (cond t x y)
either_leads shapes w true x y a b = a
either_leads shapes w false x y a b = b

replied_leads : (shapes : List SetShape) (w : Winner) (instr : Instr) (s : CodeState) (reply : Reply) → Steady shapes w s.memory → Leads shapes w (replied instr s reply)
replied_leads shapes w instr s R.Nothing steady = steady
replied_leads shapes w instr s (R.Value v) steady = steady
replied_leads shapes w instr s (R.Bad position) steady = steady
replied_leads shapes w instr s R.Memory steady = steady

given_leads : (shapes : List SetShape) (w : Winner) (r : ℕ) (s : CodeState) (bytes : List ℕ) (mark : Mark) → Steady shapes w s.memory → Leads shapes w (given r s bytes mark)
given_leads shapes w r s (byte ∷ bytes) mark steady = steady
given_leads shapes w r s [] End steady = steady
given_leads shapes w r s [] Broken steady = steady

set_leads : (shapes : List SetShape) (w : Winner) (set : Option (ℕ × ℕ)) (s : CodeState) (other : Next) → Steady shapes w s.memory → Leads shapes w other → Leads shapes w (set_or set s other)
set_leads shapes w None s other steady leads = leads
set_leads shapes w (Some set) s other steady leads = steady

checked_leads : (shapes : List SetShape) (w : Winner) (fails : Bool) (fault : RunFault) (place : Place) (s : CodeState) → Steady shapes w s.memory → Leads shapes w (checked fails fault place s)
checked_leads shapes w true fault place s steady = steady
checked_leads shapes w false fault place s steady = steady

turned_leads : (shapes : List SetShape) (w : Winner) (s : CodeState) → Steady shapes w s.memory → Leads shapes w (turned s)
turned_leads shapes w s steady =
    either_leads shapes w (eqb s.turns 0) (Ends Stopped s) (Goes (record s { at = s.at + 1; turns = s.turns - 1 })) steady steady

controlled_leads : (image : Image) (shapes : List SetShape) (w : Winner) (instr : Instr) (s : CodeState) → Steady shapes w s.memory → Leads shapes w (controlled image instr s)
controlled_leads image shapes w (I.FrontCheckTarget set place coordinates) s steady =
    checked_leads shapes w (any_register_outside (extents_at (shapes_of image) set) coordinates.items s.registers) F.Index place s steady
controlled_leads image shapes w (I.FrontCheckDivisor place x) s steady = checked_leads shapes w (eqb (slice_index s.registers x) 0) F.DivZero place s steady
controlled_leads image shapes w (I.FrontJump target) s steady = steady
controlled_leads image shapes w (I.FrontJumpZero x target) s steady = steady
controlled_leads image shapes w (I.FrontJumpNonzero x target) s steady = steady
controlled_leads image shapes w I.FrontTurn s steady = turned_leads shapes w s steady
controlled_leads image shapes w (I.FrontCall unit) s steady = steady
controlled_leads image shapes w I.FrontReturn s steady = steady
controlled_leads image shapes w (I.FrontPutBytes bytes) s steady = steady
controlled_leads image shapes w (I.FrontPut format x) s steady = steady
controlled_leads image shapes w (I.FrontGetByte r) s steady = given_leads shapes w r s s.input.bytes s.input.mark steady
controlled_leads image shapes w _ s steady = steady

applied_leads : (shapes : List SetShape) (w : Winner) (instr : Instr) (s : CodeState) → Steady shapes w s.memory → Leads shapes w (applied shapes instr s)
unfolding applied
applied_leads shapes w instr s steady =
    let args = arguments_at instr s.registers in
    replied_leads shapes w instr (record s { at = s.at + 1; memory = after shapes instr args s.memory }) (reply_of shapes instr args s.memory) (after_steady shapes w instr args s.memory steady)

begun_leads : (image : Image) (w : Winner) (o : Option Instr) (s : CodeState) → Steady (shapes_of image) w s.memory → Leads (shapes_of image) w (begun_at image s o)
unfolding begun
begun_leads image w None s steady = steady
begun_leads image w (Some instr) s steady =
    let shapes = shapes_of image in
    let other = controlled image instr s in
    either_leads shapes w (is_parallel instr) (applied shapes instr s) (set_or (computed shapes instr s.registers) s other) (applied_leads shapes w instr s steady)
    (set_leads shapes w (computed shapes instr s.registers) s other steady (controlled_leads image shapes w instr s steady))

pub step_leads : (image : Image) (w : Winner) (s : CodeState) → Steady (shapes_of image) w s.memory → Leads (shapes_of image) w (step image s)
unfolding step
step_leads image w s steady = begun_leads image w (slice_get image.code.items s.at) s steady

then_steady : (image : Image) (w : Winner) (n : ℕ) (t : CodeState) (x : Next) → Leads (shapes_of image) w x → (go_on (λ u. code image n u) x).next ≡ Goes t
    → ((u : CodeState) → Steady (shapes_of image) w u.memory → (code image n u).next ≡ Goes t → Steady (shapes_of image) w t.memory) → Steady (shapes_of image) w t.memory
then_steady image w n t (Goes u) leads e rest = rest u leads e
then_steady image w n t (Ends end u) leads e rest = cc

pub code_steady : (image : Image) (w : Winner) (n : ℕ) (s t : CodeState) → (code image n s).next ≡ Goes t → Steady (shapes_of image) w s.memory → Steady (shapes_of image) w t.memory
unfolding code
code_steady image w zero s t is steady =
    let same : s ≡ t = cc in subst (λ (x : CodeState). Steady (shapes_of image) w x.memory) same steady
code_steady image w (suc n) s t is steady =
    then_steady image w n t (step image s) (step_leads image w s steady) is (λ u began e. code_steady image w n u t e began)
