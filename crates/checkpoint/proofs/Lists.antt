-- The lists of a point, behind their counts, as they are put.
use Rattle.std.proofs.Common.{◌≡◌, ◌++◌, ◌+◌, ◌<◌, ◌≤◌, ◌-◌, ℕ, List, [], ◌∷◌, length, take, drop, get_or, codes, refl, sym, ◌∙◌, ap, append_assoc, arith}
use Rattle.std.proofs.Math.Seq.{drop-append_seam}
use Rattle.std.proofs.lemmas.List.{append-nil, flat_map_more, length-append, take_all, take_more}
use Rattle.std.specs.List.{flat_map}
use Rattle.checkpoint.specs.declared.point.Point.{Point}
use Rattle.checkpoint.specs.Bytes.{bytes_of, counted, eight_bytes, flag_byte, four_bytes, measured, winner_byte}

pub counted_none : (before after head xs : List ℕ) → after ≡ before ++ head → after ≡ before ++ (head ++ flat_map four_bytes (take 0 xs))
counted_none before after head xs e = e ∙ ap (λ (t : List ℕ). before ++ t) (sym (append-nil head))

pub counted_more : (before old new head xs : List ℕ) (i : ℕ) → old ≡ before ++ (head ++ flat_map four_bytes (take i xs))
    → new ≡ old ++ four_bytes (get_or xs i 0) → i < length xs → new ≡ before ++ (head ++ flat_map four_bytes (take (i + 1) xs))
counted_more before old new head xs i e f below =
    f ∙ (ap (λ (t : List ℕ). t ++ four_bytes (get_or xs i 0)) e
    ∙ (append_assoc before (head ++ flat_map four_bytes (take i xs)) (four_bytes (get_or xs i 0))
    ∙ ap (λ (t : List ℕ). before ++ t) (flat_map_more four_bytes head (take i xs) (get_or xs i 0)
    ∙ ap (λ (t : List ℕ). head ++ flat_map four_bytes t) (sym (take_more xs i 0 below)))))

pub counted_all : (before new xs : List ℕ) (i : ℕ) → new ≡ before ++ (four_bytes (length xs) ++ flat_map four_bytes (take i xs))
    → length xs ≤ i → new ≡ before ++ counted xs
unfolding counted
counted_all before new xs i e past = e ∙ ap (λ (t : List ℕ). before ++ (four_bytes (length xs) ++ flat_map four_bytes t)) (take_all i xs past)

-- bytes behind their length
length_before : (third bits : List ℕ) → (third ++ eight_bytes (length bits)) ++ bits ≡ third ++ measured bits
unfolding measured
length_before third bits = append_assoc third (eight_bytes (length bits)) bits

-- the parts of a point but for its bits, put one behind the other
pub all_parts : (point : Point) (start marked won flagged placed first second third all : List ℕ) → start ≡ [] → marked ≡ start ++ codes "PARISCP1"
    → won ≡ marked ++ winner_byte point.winner ∷ [] → flagged ≡ won ++ flag_byte point.ended ∷ []
    → placed ≡ flagged ++ four_bytes point.at → first ≡ placed ++ counted point.regs → second ≡ first ++ counted point.returns
    → third ≡ second ++ measured point.listing → all ≡ third ++ eight_bytes (length point.bits) → all ++ point.bits ≡ bytes_of point
unfolding bytes_of
all_parts point start marked won flagged placed first second third all a b c d e f g h i =
    let whole : third ++ measured point.bits ≡ bytes_of point = rw (h, g, f, e, d, c, b, a) (simp append_assoc refl) in
    ap (λ (t : List ℕ). t ++ point.bits) i ∙ (length_before third point.bits ∙ whole)

-- the bits of a point stand last
front_and_bits : (point : Point) → (front : List ℕ) × (bytes_of point ≡ front ++ point.bits)
front_and_bits point =
    let third = (((codes "PARISCP1" ++ winner_byte point.winner ∷ flag_byte point.ended ∷ []) ++ four_bytes point.at) ++ counted point.regs) ++ counted point.returns in (
      (third ++ measured point.listing) ++ eight_bytes (length point.bits),
      sym (all_parts point _ _ _ _ _ _ _ _ _ refl refl refl refl refl refl refl refl refl),
    )

pub bits_last : (point : Point) (bytes : List ℕ) → bytes_of point ≡ bytes → drop (length bytes - length point.bits) bytes ≡ point.bits
bits_last point bytes e =
    let f = front_and_bits point in
    let is : bytes ≡ f.0 ++ point.bits = sym e ∙ f.1 in
    let n : length bytes - length point.bits ≡ length f.0 = omega (arith, ap length is, length-append f.0 point.bits) in
    ap (λ (k : ℕ). drop k bytes) n ∙ (ap (drop (length f.0)) is ∙ drop-append_seam f.0 point.bits)

-- no more bytes are bits than there are
pub bits_within : (point : Point) (bytes : List ℕ) → bytes_of point ≡ bytes → length point.bits ≤ length bytes
bits_within point bytes e =
    let f = front_and_bits point in
    omega (arith, ap length e, ap length f.1, length-append f.0 point.bits)

-- a point with the same bits
pub same_bits : (point : Point) (bits : List ℕ) → bits ≡ point.bits
    → bytes_of (record { winner = point.winner; ended = point.ended; at = point.at; regs = point.regs; returns = point.returns; listing = point.listing; bits = bits }) ≡ bytes_of point
same_bits point bits is =
    ap (λ (t : List ℕ). bytes_of (record { winner = point.winner; ended = point.ended; at = point.at; regs = point.regs; returns = point.returns; listing = point.listing; bits = t })) is
