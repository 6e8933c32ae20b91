-- The bytes of a point determine it.
use Rattle.std.proofs.Common.{◌≡◌, ◌++◌, ◌^◌, ◌<◌, ℕ, suc, Bool, true, false, List, [], ◌∷◌, codes, length, refl, sym, ◌∙◌, append_assoc, arith}
use Rattle.std.proofs.lemmas.List.{append-nil}
use Rattle.std.specs.List.{flat_map}
use Rattle.cstar_base.specs.declared.operators.Winner.{Winner}
use Rattle.cstar_base.specs.declared.operators.Winner.TheVariants.{High, Low}
use Rattle.checkpoint.specs.declared.point.Point.{Point}
use Rattle.checkpoint.specs.Bytes.{AreWords, BytesDetermine, bytes_of, counted, flag_byte, four_bytes, measured, winner_byte}
use Rattle.checkpoint.proofs.Numbers.{four_length, four_same}
use Rattle.checkpoint.proofs.Reading.{CountTells, LengthTells, SameSplit, count_tells, length_tells, same_split}

winner_same : (v w : Winner) → winner_byte v ≡ winner_byte w → v ≡ w
winner_same High High e = refl
winner_same High Low e = absurd (omega arith)
winner_same Low High e = absurd (omega arith)
winner_same Low Low e = refl

flag_same : (a b : Bool) → flag_byte a ≡ flag_byte b → a ≡ b
flag_same false false e = refl
flag_same false true e = absurd (omega arith)
flag_same true false e = absurd (omega arith)
flag_same true true e = refl

four_split : (m n : ℕ) (a b : List ℕ) → four_bytes m ++ a ≡ four_bytes n ++ b → SameSplit (four_bytes m) (four_bytes n) a b
four_split m n a b e = same_split _ _ _ _ (four_length m ∙ sym (four_length n)) e

-- as many numbers
numbers_same : (xs ys a b : List ℕ) → AreWords xs → AreWords ys → length xs ≡ length ys
    → flat_map four_bytes xs ++ a ≡ flat_map four_bytes ys ++ b → SameSplit xs ys a b
numbers_same [] [] a b small less l e = record { fronts = refl; rests = e }
numbers_same [] (y ∷ ys) a b small less l e = absurd (omega arith)
numbers_same (x ∷ xs) [] a b small less l e = absurd (omega arith)
numbers_same (x ∷ xs) (y ∷ ys) a b small less l e =
    let split = four_split x y _ _ (sym (append_assoc (four_bytes x) (flat_map four_bytes xs) a) ∙ e ∙ append_assoc (four_bytes y) (flat_map four_bytes ys) b) in
    let head : x ≡ y = four_same x y (small 0) (less 0) split.fronts in
    let rest = numbers_same xs ys a b (λ k. small (suc k)) (λ k. less (suc k)) (omega arith) split.rests in
    record { fronts = λ i. head i ∷ rest.fronts i; rests = rest.rests }

counted_same : (xs ys a b : List ℕ) → length xs < 2 ^ 32 → length ys < 2 ^ 32 → AreWords xs → AreWords ys
    → counted xs ++ a ≡ counted ys ++ b → SameSplit xs ys a b
unfolding counted
counted_same xs ys a b few more small less e =
    let tells : CountTells (length xs) ys b (flat_map four_bytes xs ++ a) =
    count_tells (length xs) _ _ ys b few more (append_assoc (four_bytes (length xs)) (flat_map four_bytes xs) a) e in
    numbers_same xs ys a b small less tells.count_is tells.behind_is

measured_same : (xs ys a b : List ℕ) → length xs < 2 ^ 64 → length ys < 2 ^ 64 → measured xs ++ a ≡ measured ys ++ b → SameSplit xs ys a b
unfolding measured
measured_same xs ys a b few more e =
    let tells : LengthTells (length xs) ys b (xs ++ a) = length_tells (length xs) _ _ ys b few more (append_assoc _ xs a) e in
    same_split xs ys a b tells.count_is tells.behind_is

pub bytes_determine : (p q : Point) → BytesDetermine p q
unfolding bytes_of
bytes_determine p q held also e =
    let few = held.counted in
    let more = also.counted in
    let small = held.words in
    let less = also.words in
    let head = same_split (codes "PARISCP1") (codes "PARISCP1") _ _ refl e in
    let flags = same_split (winner_byte p.winner ∷ flag_byte p.ended ∷ []) (winner_byte q.winner ∷ flag_byte q.ended ∷ []) _ _ refl head.rests in
    let won : winner_byte p.winner ≡ winner_byte q.winner = cc in
    let over : flag_byte p.ended ≡ flag_byte q.ended = cc in
    let place = four_split p.at q.at _ _ flags.rests in
    let regs = counted_same p.regs q.regs _ _ few.regs more.regs small.regs less.regs place.rests in
    let returns = counted_same p.returns q.returns _ _ few.returns more.returns small.returns less.returns regs.rests in
    let listing = measured_same p.listing q.listing _ _ few.listing more.listing returns.rests in
    let bits = measured_same p.bits q.bits [] [] few.bits more.bits (append-nil _ ∙ listing.rests ∙ sym (append-nil _)) in
    let winner = winner_same p.winner q.winner won in
    let ended = flag_same p.ended q.ended over in
    let at = four_same p.at q.at small.at less.at place.fronts in
    λ i. record {
      winner = winner i;
      ended = ended i;
      at = at i;
      regs = regs.fronts i;
      returns = returns.fronts i;
      listing = listing.fronts i;
      bits = bits.fronts i;
    }
