-- A write that is done in each block of a set is done.
use Rattle.std.proofs.Common.{◌≡◌, ℕ, ◌+◌, ◌-◌, ◌*◌, ◌/◌, ◌%◌, ◌^◌, ◌<◌, ◌≤◌, ◌⊎◌, Bool, true, false, ◌&&◌, cond, eqb, leb, ltb, List, [], ◌∷◌, length, get_or, refl, sym, ◌∙◌, ap, subst, inl, inr, arith}
use Rattle.std.specs.Int.{bit_at}
use Rattle.std.proofs.Math.ListN.{set}
use Rattle.std.proofs.lemmas.Bool.{cases_lt, cases_eq, lt-ltb, le-ltb, le-leb, lt-leb, eq-eqb, ne_eqb}
use Rattle.std.proofs.lemmas.List.{get_or-map}
use Rattle.vp_sets.specs.Blocks.{block_count}
use Rattle.cstar_base.specs.declared.operators.Winner.{Winner}
use Rattle.bit_planes.specs.declared.plane.Plane.{Plane}
use Rattle.bit_planes.specs.declared.block.Block.{Block}
use Rattle.bit_planes.specs.Bits.{bit}
use Rattle.bit_planes.specs.Planes.{plane_at}
use Rattle.cstar_base.proofs.BitCuts.{bit_at-cut}
use Rattle.bit_planes.proofs.Words.{bit-lt}
use Rattle.paris_code.specs.declared.operands.Field.{Field}
use Rattle.paris_code.specs.Memory.{SameBits, processors}
use Rattle.paris_code.specs.Shapes.{SetShape, bits_at, extents_at}
use Rattle.paris_code.specs.Writes.{Write, covers, written}
use Rattle.block_store.specs.declared.set.BlockSet.{BlockSet}
use Rattle.block_store.specs.Planes.{planes_in, planes_at, block_bit, HasPlanes}
use Rattle.block_store.specs.Phases.{LanesWritten, WrittenInBlock}
use Rattle.block_store.specs.Stored.{blocks_in, blocks_at, stored, IsWholeSet, AreWhole}
use Rattle.block_store.proofs.Stores.{blocks_old, blocks_new, blocks_other, block_exists, whole_kept, set_kept}

-- choices
and_false : (c : Bool) → (c && false) ≡ false
and_false true = refl
and_false false = refl

picked : (c t : Bool) (x v b : ℕ) → c ≡ true → t ≡ true → x ≡ v → x ≡ cond (c && t) v b
picked c t x v b e f is = is ∙ sym (ap (λ s. cond (s && t) v b) e ∙ ap (λ s. cond (true && s) v b) f)

uncovered : (c t : Bool) (x v b : ℕ) → c ≡ false → x ≡ b → x ≡ cond (c && t) v b
uncovered c t x v b e is = is ∙ sym (ap (λ s. cond (s && t) v b) e)

unpicked : (c t : Bool) (x v b : ℕ) → t ≡ false → x ≡ b → x ≡ cond (c && t) v b
unpicked c t x v b e is = is ∙ sym (ap (λ s. cond (c && s) v b) e ∙ ap (λ s. cond s v b) (and_false c))

covers_in : (run : Field) (set i : ℕ) → set ≡ run.set → run.offset ≤ i → i < run.offset + run.len → covers run set i ≡ true
unfolding covers
covers_in run set i e l h =
    ap (λ t. t && (leb run.offset i && ltb i (run.offset + run.len))) (eq-eqb set run.set e)
    ∙ ap (λ t. t && ltb i (run.offset + run.len)) (le-leb run.offset i l) ∙ lt-ltb i (run.offset + run.len) h

covers_out : (run : Field) (set i : ℕ) → (i < run.offset) ⊎ (run.offset + run.len ≤ i) → covers run set i ≡ false
unfolding covers
covers_out run set i (inl l) = ap (λ t. eqb set run.set && (t && ltb i (run.offset + run.len))) (lt-leb run.offset i l) ∙ and_false (eqb set run.set)
covers_out run set i (inr g) =
    ap (λ t. eqb set run.set && (leb run.offset i && t)) (le-ltb i (run.offset + run.len) g) ∙ ap (λ t. eqb set run.set && t) (and_false (leb run.offset i)) ∙ and_false (eqb set run.set)

in_or_out : (offset len i : ℕ) → ((offset ≤ i) × (i < offset + len)) ⊎ ((i < offset) ⊎ (offset + len ≤ i))
in_or_out offset len i = elim (cases_lt i offset) [
  | inl l ↦ inr (inl l)
  | inr g ↦ elim (cases_lt i (offset + len)) [ inl w ↦ inl (g, w) | inr a ↦ inr (inr a) ]
]

-- a block in which the lanes that a write takes have its numbers
pub in_block : (shapes : List SetShape) (w : Write) (k : ℕ) (mask : List ℕ) (numbers : ℕ → ℕ) (old new : List Plane)
    → LanesWritten w.run.offset w.run.len mask numbers old new
    → ((p : ℕ) → p / 512 ≡ k → p < processors shapes w.run.set → eqb (bit mask (p % 512)) 1 ≡ w.writes p)
    → ((p : ℕ) → p / 512 ≡ k → processors shapes w.run.set ≤ p → bit (plane_at old (bits_at shapes w.run.set)) (p % 512) ≡ 0 → bit mask (p % 512) ≡ 0)
    → ((p : ℕ) → p / 512 ≡ k → p < processors shapes w.run.set → numbers (p % 512) % 2 ^ w.run.len ≡ w.value p % 2 ^ w.run.len)
    → WrittenInBlock shapes w k old new
in_block shapes w k mask numbers old new done takes quiet gives = record {
  long = done.long;
  done = λ p i here within b.
      let lane : ℕ = p % 512 in
      let inside : lane < 512 = omega arith in
      let v : ℕ = bit_at (w.value p) (i - w.run.offset) in
      let c : Bool = covers w.run w.run.set i in
      let t : Bool = w.writes p in
      let x : ℕ = bit (plane_at new i) lane in
      let was : ℕ = bit (plane_at old i) lane in
      elim (cases_eq (bit mask lane) 1) [
        | inl on ↦
            let yes : t ≡ true = sym (takes p here within) ∙ eq-eqb (bit mask lane) 1 on in
            elim (in_or_out w.run.offset w.run.len i) [
              | inl h ↦ picked c t x v was (covers_in w.run w.run.set i refl h.0 h.1) yes
                  (done.inside i lane inside on h.0 h.1
                  ∙ sym (bit_at-cut (numbers lane) w.run.len (i - w.run.offset) (omega (arith, h.0, h.1))) ∙ ap (λ n. bit_at n (i - w.run.offset)) (gives p here within)
                  ∙ bit_at-cut (w.value p) w.run.len (i - w.run.offset) (omega (arith, h.0, h.1)))
              | inr out ↦ uncovered c t x v was (covers_out w.run w.run.set i out) (ap (λ q. bit q lane) (done.outside i out))
            ]
        | inr off ↦
            unpicked c t x v was (sym (takes p here within) ∙ ne_eqb (bit mask lane) 1 off)
            (done.kept i lane inside (let z : bit mask lane ≡ 0 = omega (arith, bit-lt mask lane, off) in z))
      ];
  padding = λ p i here past none. done.kept i (p % 512) (omega arith) (quiet p here past none);
}

-- the planes of a block, by its entry
by_entry : (P : List Plane → List Plane → Type 0) (xs ys : List Block) (k : ℕ) → k < length xs → length ys ≡ length xs
    → ((none : Block) → P (planes_in (get_or xs k none)) (planes_in (get_or ys k none))) → P (planes_at xs k) (planes_at ys k)
by_entry P [] ys k b e h = absurd (omega arith)
by_entry P (x ∷ xs) ys k b e h =
    subst (λ a. P a (planes_at ys k)) (sym (get_or-map planes_in (x ∷ xs) k x [] b))
    (subst (λ a. P (planes_in (get_or (x ∷ xs) k x)) a) (sym (get_or-map planes_in ys k x [] (omega (arith, e)))) (h x))

off_set : (t : Bool) (a b c : Bool) (x y : ℕ) → t ≡ false → y ≡ cond ((t && (a && b)) && c) x y
off_set t a b c x y e = sym (ap (λ s. cond ((s && (a && b)) && c) x y) e)

module _ (shapes : List SetShape) (sets : List BlockSet) (old new : BlockSet) (k : ℕ) (w : Write) (whole : AreWhole shapes sets) (exists : w.run.set < length shapes) (e : k ≡ w.run.set) (at : old ≡ get_or sets k old)
    (count : length (blocks_in new) ≡ length (blocks_in old))
    (each : (j : ℕ) (none : Block) → j < length (blocks_in old) → WrittenInBlock shapes w j (planes_in (get_or (blocks_in old) j none)) (planes_in (get_or (blocks_in new) j none))) where
  there : k < length sets
  there = omega (arith, whole.count)

  by_block : (j : ℕ) → j < length (blocks_in old) → WrittenInBlock shapes w j (planes_at (blocks_in old) j) (planes_at (blocks_in new) j)
  by_block j b = by_entry (λ xs ys. WrittenInBlock shapes w j xs ys) (blocks_in old) (blocks_in new) j b count (λ none. each j none b)

  same : blocks_in old ≡ blocks_at sets w.run.set
  same = blocks_old sets k old new there at ∙ ap (blocks_at sets) e

  long : length (blocks_in old) ≡ block_count (extents_at shapes w.run.set)
  long = ap length same ∙ (whole.each w.run.set exists).count

  pub blocks_written : (v : Winner) → SameBits shapes (stored (set sets k new) v) (written w (stored sets v))
  unfolding stored block_bit written covers
  blocks_written v = record {
    bits = λ s p i in_sets in_set bound. elim (cases_eq s w.run.set) [
      | inr n ↦
          ap (λ bs. block_bit bs p i) (blocks_other sets k old new there at s (λ q. n (q ∙ e)))
          ∙ off_set (eqb s w.run.set) (leb w.run.offset i) (ltb i (w.run.offset + w.run.len)) (w.writes p) (bit_at (w.value p) (i - w.run.offset)) (block_bit (blocks_at sets s) p i) (ne_eqb s w.run.set n)
      | inl q ↦
          let a : ℕ = w.run.set in
          let within : p < processors shapes a = subst (λ j. p < processors shapes j) q in_set in
          let low : i < bits_at shapes a + 2 = subst (λ j. i < bits_at shapes j + 2) q bound in
          let block : p / 512 < length (blocks_in old) = omega (arith, long, block_exists (extents_at shapes a) p within) in
          ap (λ j. block_bit (blocks_at (set sets k new) j) p i) (q ∙ sym e)
          ∙ ap (λ xs. block_bit xs p i) (blocks_new sets k old new there at)
          ∙ (by_block (p / 512) block).done p i refl within low
          ∙ ap (λ x. cond ((eqb a a && (leb w.run.offset i && ltb i (w.run.offset + w.run.len))) && w.writes p) (bit_at (w.value p) (i - w.run.offset)) x) (ap (λ xs. block_bit xs p i) same)
          ∙ ap (λ j. cond ((eqb j a && (leb w.run.offset i && ltb i (w.run.offset + w.run.len))) && w.writes p) (bit_at (w.value p) (i - w.run.offset)) (block_bit (blocks_at sets j) p i)) (sym q)
    ];
    winner = refl;
  }

  kept_block : (p : ℕ) → processors shapes w.run.set ≤ p → p < 512 * block_count (extents_at shapes w.run.set) → block_bit (blocks_in old) p (bits_at shapes w.run.set) ≡ 0
      → block_bit (blocks_in new) p (bits_at shapes w.run.set) ≡ 0
  unfolding block_bit
  kept_block p from til zero = (by_block (p / 512) (omega (arith, long, til))).padding p (bits_at shapes w.run.set) refl from zero ∙ zero

  kept_planes : (most : ℕ) → HasPlanes most (blocks_in old) → HasPlanes most (blocks_in new)
  kept_planes most has = λ j d b.
      let within : j < length (blocks_in old) = omega (arith, count) in
      let was : most ≤ length (planes_at (blocks_in old) j) = subst (λ xs. most ≤ length xs) (sym (get_or-map planes_in (blocks_in old) j d [] within)) (has j d within) in
      subst (λ xs. most ≤ length xs) (get_or-map planes_in (blocks_in new) j d [] b) (omega (arith, was, (by_block j within).long))

  pub blocks_whole : AreWhole shapes (set sets k new)
  blocks_whole = whole_kept sets k old new there at shapes
      (subst (λ j. IsWholeSet shapes j (blocks_in old) → IsWholeSet shapes j (blocks_in new)) (sym e) (set_kept shapes w.run.set (blocks_in old) (blocks_in new) count kept_planes kept_block)) whole
