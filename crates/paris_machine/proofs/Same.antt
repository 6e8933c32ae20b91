-- A chain of steps, each up to bits that no set has, is the run of the code.
use Rattle.std.proofs.Common.{◌≡◌, ℕ, zero, suc, ◌+◌, ◌-◌, Bool, true, false, if◌then◌else◌, List, [], ◌∷◌, Option, Some, None, refl, sym, ◌∙◌, ap, subst, arith, inl, inr}
use Rattle.std.specs.Prelude.{◌==◌, slice_index}
use Rattle.std.specs.List.{slice_get}
use Rattle.std.proofs.lemmas.Bool.{cases_Bool}
use Rattle.std.proofs.lemmas.List.{length-map}
use Rattle.cstar_base.specs.declared.operators.Place.{Place}
use Rattle.cstar_base.specs.declared.faults.RunFault.{RunFault}
use Rattle.cstar_base.specs.declared.faults.RunFault.TheVariants.{Index, DivZero}
use Rattle.paris_code.specs.declared.instr.Instr.{Instr}
use Rattle.paris_code.specs.declared.instr.Instr.TheVariants as I
use Rattle.paris_code.specs.declared.program.Image.{Image}
use Rattle.paris_code.specs.declared.program.Reply.{Reply}
use Rattle.paris_code.specs.declared.program.Reply.TheVariants as R
use Rattle.paris_code.specs.Code.{CodeState, Rest, Mark, End, Broken, Next, Goes, Ends, Done, Fault, InputBroken, Stopped, Reached, code, go_on, one_more, step, begun, begun_at, applied, controlled, set_or, checked, given, replied, arguments_at}
use Rattle.paris_code.specs.Kinds.{is_parallel}
use Rattle.paris_code.specs.Meaning.{after, reply_of}
use Rattle.paris_code.specs.Memory.{BitMemory, SameBits}
use Rattle.paris_code.specs.Operands.{arguments_of}
use Rattle.paris_code.specs.Scalar.{computed, any_register_outside}
use Rattle.paris_code.specs.Shapes.{SetShape, shapes_of, extents_at}
use Rattle.paris_code.specs.Sound.{IsSound, KeepsRules}
use Rattle.paris_code.specs.Units.{IsAt}
use Rattle.phase_meaning.specs.Apply.{CanApply}
use Rattle.phase_meaning.proofs.Alike.{alike}
use Rattle.paris_machine.specs.declared.outcome.End.{End as RunEnd}
use Rattle.paris_machine.specs.declared.outcome.End.TheVariants as E
use Rattle.paris_machine.specs.Runs.{SameState, SameNext, ComesTo, Runs, before}
use Rattle.paris_machine.proofs.Following.{Reaches, Chains}

pub bits_after : (shapes : List SetShape) (l m n : BitMemory) → SameBits shapes n m → SameBits shapes m l → SameBits shapes n l
bits_after shapes l m n one two = record { bits = λ s p i a b c. one.bits s p i a b c ∙ two.bits s p i a b c; winner = one.winner ∙ two.winner }

state_after : (shapes : List SetShape) (a b c : CodeState) → SameState shapes a b → SameState shapes b c → SameState shapes a c
state_after shapes a b c one two = record {
  bits = bits_after shapes a.memory b.memory c.memory two.bits one.bits;
  rest = two.rest ∙ ap (λ (x : CodeState). record x { memory = c.memory }) one.rest;
}

pub next_after : (shapes : List SetShape) (a b c : Next) → SameNext shapes a b → SameNext shapes b c → SameNext shapes a c
next_after shapes (Goes a) (Goes b) (Goes c) one two = state_after shapes a b c one two
next_after shapes (Ends e a) (Ends f b) (Ends g c) one two = (one.0 ∙ two.0, state_after shapes a b c one.1 two.1)
next_after shapes (Goes a) (Goes b) (Ends g c) one two = absurd two
next_after shapes (Goes a) (Ends f b) c one two = absurd one
next_after shapes (Ends e a) (Goes b) c one two = absurd one
next_after shapes (Ends e a) (Ends f b) (Goes c) one two = absurd two

module _ (image : Image) (sound : IsSound image) (s : CodeState) (n : BitMemory) (same : SameBits (shapes_of image) n s.memory) where
  other : CodeState
  other = record s { memory = n }

  checked_same : (fails : Bool) (fault : RunFault) (place : Place) → SameNext (shapes_of image) (checked fails fault place s) (checked fails fault place (record s { memory = n }))
  checked_same true fault place = (refl, record { bits = same; rest = refl })
  checked_same false fault place = record { bits = same; rest = refl }

  turned_same : (none : Bool) → SameNext (shapes_of image) (if none then Ends Stopped s else Goes (record s { at = s.at + 1; turns = s.turns - 1 })) (if none then Ends Stopped (record s { memory = n }) else Goes (record s { at = s.at + 1; turns = s.turns - 1; memory = n }))
  turned_same true = (refl, record { bits = same; rest = refl })
  turned_same false = record { bits = same; rest = refl }

  given_same : (r : ℕ) (bytes : List ℕ) (mark : Mark) → SameNext (shapes_of image) (given r s bytes mark) (given r (record s { memory = n }) bytes mark)
  given_same r (byte ∷ bytes) mark = record { bits = same; rest = refl }
  given_same r [] End = record { bits = same; rest = refl }
  given_same r [] Broken = (refl, record { bits = same; rest = refl })

  controlled_same : (instr : Instr) → SameNext (shapes_of image) (controlled image instr s) (controlled image instr (record s { memory = n }))
  controlled_same (I.FrontCheckTarget set place coordinates) = checked_same (any_register_outside (extents_at (shapes_of image) set) coordinates.items s.registers) Index place
  controlled_same (I.FrontCheckDivisor place x) = checked_same (slice_index s.registers x == 0) DivZero place
  controlled_same (I.FrontJump target) = record { bits = same; rest = refl }
  controlled_same (I.FrontJumpZero x target) = record { bits = same; rest = refl }
  controlled_same (I.FrontJumpNonzero x target) = record { bits = same; rest = refl }
  controlled_same I.FrontTurn = turned_same (s.turns == 0)
  controlled_same (I.FrontCall unit) = record { bits = same; rest = refl }
  controlled_same I.FrontReturn = record { bits = same; rest = refl }
  controlled_same (I.FrontPutBytes bytes) = record { bits = same; rest = refl }
  controlled_same (I.FrontPut format x) = record { bits = same; rest = refl }
  controlled_same (I.FrontGetByte r) = given_same r s.input.bytes s.input.mark
  controlled_same _ = (refl, record { bits = same; rest = refl })

  set_same : (set : Option (ℕ × ℕ)) (instr : Instr) → SameNext (shapes_of image) (set_or set s (controlled image instr s)) (set_or set (record s { memory = n }) (controlled image instr (record s { memory = n })))
  set_same None instr = controlled_same instr
  set_same (Some set) instr = record { bits = same; rest = refl }

  replied_same : (instr : Instr) (m k : BitMemory) (reply : Reply) → SameBits (shapes_of image) k m → SameNext (shapes_of image) (replied instr (record s { at = s.at + 1; memory = m }) reply) (replied instr (record s { at = s.at + 1; memory = k }) reply)
  replied_same instr m k R.Nothing h = record { bits = h; rest = refl }
  replied_same instr m k (R.Value v) h = record { bits = h; rest = refl }
  replied_same instr m k (R.Bad position) h = (refl, record { bits = h; rest = refl })
  replied_same instr m k R.Memory h = (refl, record { bits = h; rest = refl })

  applied_same : (instr : Instr) → KeepsRules image s.at instr → is_parallel instr ≡ true → SameNext (shapes_of image) (applied (shapes_of image) instr s) (applied (shapes_of image) instr (record s { memory = n }))
  unfolding applied
  applied_same instr keeps parallel =
      let shapes : List SetShape = shapes_of image in
      let args : List ℕ = arguments_at instr s.registers in
      let can : CanApply shapes instr args = record { parallel = parallel; slots = image.slots; field = keeps.field; set = keeps.set; operands = keeps.operands; arguments = length-map (arguments_of instr) (λ r. slice_index s.registers r) } in
      let both = alike shapes n s.memory instr args sound.shapes.1 can same in
      subst (λ (r : Reply). SameNext shapes (replied instr (record s { at = s.at + 1; memory = after shapes instr args s.memory }) (reply_of shapes instr args s.memory)) (replied instr (record s { at = s.at + 1; memory = after shapes instr args n }) r)) (sym both.0)
      (replied_same instr (after shapes instr args s.memory) (after shapes instr args n) (reply_of shapes instr args s.memory) both.1)

  begun_same : (instr : Instr) → KeepsRules image s.at instr → SameNext (shapes_of image) (begun image instr s) (begun image instr (record s { memory = n }))
  unfolding begun
  begun_same instr keeps =
      let choice : Bool → CodeState → Next = λ b t. if b then applied (shapes_of image) instr t else set_or (computed (shapes_of image) instr t.registers) t (controlled image instr t) in
      elim (cases_Bool (is_parallel instr)) [
        | inl on ↦ subst (λ (b : Bool). SameNext (shapes_of image) (choice b s) (choice b (record s { memory = n }))) (sym on) (applied_same instr keeps on)
        | inr off ↦ subst (λ (b : Bool). SameNext (shapes_of image) (choice b s) (choice b (record s { memory = n }))) (sym off) (set_same (computed (shapes_of image) instr s.registers) instr)
      ]

  stepped_same : (o : Option Instr) → slice_get image.code.items s.at ≡ o → SameNext (shapes_of image) (begun_at image s o) (begun_at image (record s { memory = n }) o)
  stepped_same None here = (refl, record { bits = same; rest = refl })
  stepped_same (Some instr) here = begun_same instr (sound.each s.at instr here)

-- a step keeps to the bits of the sets
pub step_same : (image : Image) (sound : IsSound image) (s t : CodeState) → SameState (shapes_of image) s t → SameNext (shapes_of image) (step image s) (step image t)
unfolding step
step_same image sound s t same =
    subst (λ (x : CodeState). SameNext (shapes_of image) (begun_at image s (slice_get image.code.items s.at)) (begun_at image x (slice_get image.code.items x.at))) (sym same.rest)
    (stepped_same image sound s t.memory same.bits (slice_get image.code.items s.at) refl)

-- the code goes from one state to another by just so many instructions
abbrev Goes_by : Image → ℕ → CodeState → CodeState → Type 0
Goes_by image n s t = code image n s ≡ record { next = Goes t; steps = n }

abbrev counted : Next → ℕ → Reached
counted next steps = record { next = next; steps = steps }

plus_one : (n : ℕ) → n + 1 ≡ suc n
plus_one n = omega arith

reached_is : (r : Reached) (next : Next) (steps : ℕ) → r.next ≡ next → r.steps ≡ steps → r ≡ record { next = next; steps = steps }
reached_is r next steps a b = ap (λ (x : Next). record { next = x; steps = r.steps }) a ∙ ap (λ (k : ℕ). record { next = next; steps = k }) b

-- one instruction more
code_onward : (image : Image) (n : ℕ) (s t u : CodeState) → ((y : CodeState) → Goes_by image n y t → Goes_by image (suc n) y u) → Goes_by image (suc n) s t → (x : Next) → step image s ≡ x → Goes_by image (suc (suc n)) s u
unfolding code
code_onward image n s t u more first (Ends end y) e = let clash : Ends end y ≡ Goes t = ap (λ (r : Reached). r.next) (sym (ap (go_on (λ z. code image n z)) e) ∙ first) in cc
code_onward image n s t u more first (Goes y) e =
    let all = sym (ap (go_on (λ z. code image n z)) e) ∙ first in
    let count : (code image n y).steps ≡ n = omega (arith, ap (λ (r : Reached). r.steps) all) in
    let rest : Goes_by image n y t = reached_is (code image n y) (Goes t) n (ap (λ (r : Reached). r.next) all) count in
    ap (go_on (λ z. code image (suc n) z)) e ∙ ap one_more (more y rest) ∙ ap (λ (k : ℕ). counted (Goes u) k) (plus_one (suc n))

code_more : (image : Image) (n : ℕ) (s t u : CodeState) → Goes_by image n s t → step image t ≡ Goes u → Goes_by image (suc n) s u
unfolding code
code_more image zero s t u first next =
    let goes : Goes s ≡ Goes t = ap (λ (r : Reached). r.next) first in
    let same : s ≡ t = cc in
    ap (go_on (λ y. code image 0 y)) (ap (λ (x : CodeState). step image x) same ∙ next)
code_more image (suc n) s t u first next = code_onward image n s t u (λ y rest. code_more image n y t u rest next) first (step image s) refl

-- a chain of steps is a run of the code, up to bits that no set has
abbrev Meets : Image → CodeState → ℕ → CodeState → Type 0
Meets image s n t = (u : CodeState) × Goes_by image n s u × SameState (shapes_of image) u t

reached_more : (image : Image) (s : CodeState) (n : ℕ) (t mid : CodeState) (met : Meets image s n mid) (x : Next) → step image met.0 ≡ x → SameNext (shapes_of image) x (Goes t) → Meets image s (suc n) t
reached_more image s n t mid met (Goes y) e same = (y, code_more image n s met.0 y met.1 e, same)
reached_more image s n t mid met (Ends end y) e same = absurd same

reached : (image : Image) (sound : IsSound image) (s : CodeState) (n : ℕ) (t : CodeState) → Reaches image s n t → Meets image s n t
unfolding code
reached image sound s zero t h = (s, refl, subst (λ (x : CodeState). SameState (shapes_of image) s x) h (record { bits = record { bits = λ set p i a b c. refl; winner = refl }; rest = refl }))
reached image sound s (suc n) t h =
    let met : Meets image s n h.0 = reached image sound s n h.0 h.1 in
    reached_more image s n t h.0 met (step image met.0) refl (next_after (shapes_of image) (step image met.0) (step image h.0) (Goes t) (step_same image sound met.0 h.0 met.2) h.2)

-- the last instruction comes to the same
pub ends_same : (image : Image) (sound : IsSound image) (u mid : CodeState) (end : RunEnd) (t : CodeState) → SameState (shapes_of image) u mid → ComesTo image mid (Some end) t → ComesTo image u (Some end) t
ends_same image sound u mid E.Memory t same h = (
  (h.0.0, subst (λ (at : ℕ). IsAt image at h.0.0) (ap (λ (x : CodeState). x.at) same.rest) h.0.1, h.0.2),
  h.1 ∙ ap (λ (x : CodeState). x.output) same.rest,
)
ends_same image sound u mid E.Done t same h = next_after (shapes_of image) (step image u) (step image mid) _ (step_same image sound u mid same) h
ends_same image sound u mid (E.Fault kind place position) t same h =
    (h.0, h.1, next_after (shapes_of image) (step image u) (step image mid) _ (step_same image sound u mid same) h.2)
ends_same image sound u mid E.Stopped t same h = next_after (shapes_of image) (step image u) (step image mid) _ (step_same image sound u mid same) h
ends_same image sound u mid E.InputBroken t same h = next_after (shapes_of image) (step image u) (step image mid) _ (step_same image sound u mid same) h
ends_same image sound u mid E.OutputBroken t same h = next_after (shapes_of image) (step image u) (step image mid) _ (step_same image sound u mid same) h

pub runs_code : (image : Image) (sound : IsSound image) (from : Rest → CodeState) (end : RunEnd) (steps : ℕ) (to : Rest → CodeState) (ended : Bool) (taken : List ℕ) → Chains image from end steps to ended taken → Runs image from end steps to ended taken
runs_code image sound from end steps to ended taken chains = λ later left.
    let run = chains later left in
    let met = reached image sound (from (before taken later)) run.0 run.2.0 run.2.1 in
    (run.0, run.1, (met.0, met.1, ends_same image sound met.0 run.2.0 end (to later) met.2 run.2.2))

comes_to_same : (image : Image) (s t u : CodeState) (end : RunEnd) → SameState (shapes_of image) t u → ComesTo image s (Some end) t → ComesTo image s (Some end) u
comes_to_same image s t u E.Done same came = next_after (shapes_of image) (step image s) (Ends Done t) (Ends Done u) came (refl, same)
comes_to_same image s t u (E.Fault kind place position) same came = (
  came.0,
  came.1,
  next_after (shapes_of image) (step image s) (Ends (Fault came.0 place position) t) (Ends (Fault came.0 place position) u) came.2 (refl, same),
)
comes_to_same image s t u E.Stopped same came = next_after (shapes_of image) (step image s) (Ends Stopped t) (Ends Stopped u) came (refl, same)
comes_to_same image s t u E.InputBroken same came = next_after (shapes_of image) (step image s) (Ends InputBroken t) (Ends InputBroken u) came (refl, same)
comes_to_same image s t u E.OutputBroken same came = next_after (shapes_of image) (step image s) (Goes t) (Goes u) came same
comes_to_same image s t u E.Memory same came = (came.0, ap (λ (x : CodeState). x.output) same.rest ∙ came.1)

-- a run comes as well to what is the same but for bits that no set has
pub runs_to_same : (image : Image) (from to other : Rest → CodeState) (end : RunEnd) (steps : ℕ) (ended : Bool) (taken : List ℕ) → ((rest : Rest) → SameState (shapes_of image) (to rest) (other rest)) → Runs image from end steps to ended taken → Runs image from end steps other ended taken
runs_to_same image from to other end steps ended taken same ran later left =
    let run = ran later left in (
      run.0,
      run.1,
      (run.2.0, run.2.1, comes_to_same image run.2.0 (to later) (other later) end (same later) run.2.2),
    )
