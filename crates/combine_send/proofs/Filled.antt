-- A slot that is filled by the planes of its sender's block is that of the sender.
use Rattle.std.proofs.Common.{◌≡◌, ℕ, ◌+◌, ◌*◌, ◌/◌, ◌%◌, ◌<◌, ◌≤◌, ◌-◌, Bool, eqb, List, [], length, get_or, Option, Some, None, refl, sym, ◌∙◌, ap, subst, inl, inr, arith}
use Rattle.std.proofs.Math.ListN.{set}
use Rattle.std.proofs.lemmas.Bool.{cases_eq}
use Rattle.std.proofs.lemmas.List.{get_or-map, get_or-set_same, get_or-set_other}
use Rattle.cstar_base.specs.declared.operators.Winner.{Winner}
use Rattle.bit_planes.specs.declared.plane.Plane.{Plane}
use Rattle.bit_planes.specs.declared.block.Block.{Block}
use Rattle.bit_planes.specs.Bits.{bit}
use Rattle.bit_planes.specs.Planes.{plane_at, number}
use Rattle.combine_core.specs.declared.message.Message.{Message}
use Rattle.paris_code.specs.declared.operands.Field.{Field}
use Rattle.paris_code.specs.Memory.{field_number, is_active}
use Rattle.paris_code.specs.Shapes.{SetShape, bits_at}
use Rattle.block_store.specs.declared.set.BlockSet.{BlockSet}
use Rattle.block_store.specs.Planes.{planes_in, planes_at, block_bit}
use Rattle.block_store.specs.Stored.{blocks_at, stored}
use Rattle.block_store.proofs.Fetches.{field_there}
use Rattle.combine_send.specs.declared.senders.Senders.{Senders}
use Rattle.combine_send.specs.Senders.{Sends, IsSlotOf}
use Rattle.combine_send.specs.Slots.{IsSlot}

sends_same : (a b : Bool) (s r t u v w count : ℕ) (slot : Option Message) → a ≡ b → s ≡ r → t ≡ u → v ≡ w → Sends a s t v count slot → Sends b r u w count slot
sends_same a b s r t u v w count slot ab sr tu vw is =
    subst (λ x. Sends x r u w count slot) ab (subst (λ x. Sends a x u w count slot) sr (subst (λ x. Sends a s x w count slot) tu (subst (λ x. Sends a s t x count slot) vw is)))

-- what is read of a block's lane is what its sender holds
pub slot_read : (senders : Senders) (k i : ℕ) (other : Block) (active : Bool) (address value : ℕ) (slot : Option Message) → k < length senders.blocks.now → i < 512
    → (let planes = planes_in (get_or senders.blocks.now k other) in
    active ≡ eqb (bit (plane_at planes senders.context) i) 1
    → address ≡ number planes senders.address.offset senders.address.len i → value ≡ number planes senders.source.offset senders.source.len i
    → Sends active (k * 512 + i) address value senders.targets slot → IsSlotOf senders (512 * k + i) slot)
slot_read senders k i other active address value slot kb ib on to sent =
    let s : ℕ = 512 * k + i in
    let blocks : List Block = senders.blocks.now in
    let planes : List Plane = planes_in (get_or blocks k other) in
    let lane : i ≡ s % 512 = omega (arith, ib) in
    let home : k ≡ s / 512 = omega (arith, ib) in
    let here : planes ≡ planes_at blocks (s / 512) = sym (get_or-map planes_in blocks k other [] kb) ∙ ap (planes_at blocks) home in
    let field : (f : Field) → number planes f.offset f.len i ≡ number (planes_at blocks (s / 512)) f.offset f.len (s % 512) =
    λ f. ap (λ ps. number ps f.offset f.len i) here ∙ ap (number (planes_at blocks (s / 512)) f.offset f.len) lane in
    sends_same active _ (k * 512 + i) s address _ value _ senders.targets slot
    (on ∙ ap (λ ps. eqb (bit (plane_at ps senders.context) i) 1) here ∙ ap (λ l. eqb (bit (plane_at (planes_at blocks (s / 512)) senders.context) l) 1) lane)
    (let e : k * 512 + i ≡ s = omega arith in e) (to ∙ field senders.address) (sent ∙ field senders.source)

-- one more slot is filled
module _ (senders : Senders) (k from : ℕ) (slots : List (Option Message)) (i : ℕ) (slot : Option Message) (within : from + i < length slots) where
  pub one_filled : ((j : ℕ) → from ≤ j → j < from + i → IsSlotOf senders (512 * k + (j - from)) (get_or slots j None)) → IsSlotOf senders (512 * k + i) slot
      → (j : ℕ) → from ≤ j → j < from + (i + 1) → IsSlotOf senders (512 * k + (j - from)) (get_or (set slots (from + i) slot) j None)
  one_filled before here j low high = elim (cases_eq j (from + i)) [
    | inl e ↦
        subst (λ n. IsSlotOf senders (512 * k + n) (get_or (set slots (from + i) slot) j None)) (let z : i ≡ j - from = omega (arith, e) in z)
        (subst (IsSlotOf senders (512 * k + i)) (sym (get_or-set_same slots (from + i) slot None within) ∙ ap (λ n. get_or (set slots (from + i) slot) n None) (sym e)) here)
    | inr n ↦ subst (IsSlotOf senders (512 * k + (j - from))) (sym (get_or-set_other slots (from + i) j slot None n)) (before j low (omega (arith, n, high)))
  ]

  pub none_lost : (j : ℕ) → j < from → get_or (set slots (from + i) slot) j None ≡ get_or slots j None
  none_lost j low = get_or-set_other slots (from + i) j slot None (λ e. absurd (omega (arith, e, low)))

-- the slot of a sender of a block is that by the memory
is_slot : (shapes : List SetShape) (sets : List BlockSet) (v : Winner) (address source : Field) (count s : ℕ) (slot : Option Message) → source.set ≡ address.set
    → Sends (is_active shapes (stored sets v) address.set s) s (field_number (stored sets v) address s) (field_number (stored sets v) source s) count slot
    → IsSlot shapes (stored sets v) address source count s slot
is_slot shapes sets v address source count s None same is = is
is_slot shapes sets v address source count s (Some message) same is = is

pub slot_is : (shapes : List SetShape) (sets : List BlockSet) (v : Winner) (senders : Senders) (s : ℕ) (slot : Option Message)
    → senders.blocks.now ≡ blocks_at sets senders.address.set → senders.context ≡ bits_at shapes senders.address.set → senders.source.set ≡ senders.address.set
    → IsSlotOf senders s slot → IsSlot shapes (stored sets v) senders.address senders.source senders.targets s slot
unfolding is_active stored block_bit
slot_is shapes sets v senders s slot blocks context same is =
    let a : Field = senders.address in
    let lane : ℕ = s % 512 in
    let field : (f : Field) → f.set ≡ a.set → number (planes_at senders.blocks.now (s / 512)) f.offset f.len lane ≡ field_number (stored sets v) f s =
    λ f e. ap (λ bs. number (planes_at bs (s / 512)) f.offset f.len lane) (blocks ∙ ap (blocks_at sets) (sym e)) ∙ field_there sets v f s in
    is_slot shapes sets v a senders.source senders.targets s slot same
    (sends_same _ (is_active shapes (stored sets v) a.set s) s s _ _ _ _ senders.targets slot
    (ap (λ bs. eqb (bit (plane_at (planes_at bs (s / 512)) senders.context) lane) 1) blocks ∙ ap (λ c. eqb (bit (plane_at (planes_at (blocks_at sets a.set) (s / 512)) c) lane) 1) context)
    refl (field a refl) (field senders.source same) is)

-- one more element has what those before it have
pub slot_set : (P : ℕ → Option Message → Type 0) (slots : List (Option Message)) (i : ℕ) (slot : Option Message) → i < length slots → ((j : ℕ) → j < i → P j (get_or slots j None)) → P i slot
    → (j : ℕ) → j < i + 1 → P j (get_or (set slots i slot) j None)
slot_set P slots i slot within before here j low = elim (cases_eq j i) [
  | inl e ↦ subst (λ n. P n (get_or (set slots i slot) n None)) (sym e) (subst (P i) (sym (get_or-set_same slots i slot None within)) here)
  | inr n ↦ subst (P j) (sym (get_or-set_other slots i j slot None n)) (before j (omega (arith, n, low)))
]
