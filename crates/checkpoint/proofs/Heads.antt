-- The head of a point: a byte at a place of it, and the bytes that begin one.
use Rattle.std.proofs.Common.{◌≡◌, ◌++◌, ◌<◌, ◌≤◌, ℕ, zero, suc, Bool, true, false, List, length, take, get_or, nat_eq, nat_le, refl, sym, ◌∙◌, ap, true≢false, arith}
use Rattle.std.proofs.lemmas.Bool.{leb-true, eqb-true}
use Rattle.std.proofs.lemmas.List.{get_or-take, length-take-le}
use Rattle.std.proofs.lemmas.Grind.{same_number_lists}
use Rattle.cstar_base.specs.declared.operators.Winner.{Winner}
use Rattle.cstar_base.specs.declared.operators.Winner.TheVariants.{High, Low}
use Rattle.checkpoint.specs.declared.point.Point.{Point}
use Rattle.checkpoint.specs.Bytes.{Stand, body_of, bytes_of, flag_byte, head_of, may_stand, winner_byte}

pub head_and_body : (p : Point) → bytes_of p ≡ head_of p.winner p.ended ++ body_of p
unfolding bytes_of head_of body_of
head_and_body p = refl

pub head_length : (w : Winner) (e : Bool) → length (head_of w e) ≡ 10
unfolding head_of
head_length w e = refl

winner_small : (w : Winner) → nat_le (winner_byte w) 1 ≡ true
winner_small High = refl
winner_small Low = refl

flag_small : (e : Bool) → nat_le (flag_byte e) 1 ≡ true
flag_small false = refl
flag_small true = refl

-- a point has in its head what can stand there
pub head_stands : (p : Point) (k : ℕ) → k < 10 → may_stand k (get_or (bytes_of p) k 0) ≡ true
unfolding bytes_of
head_stands p zero h = refl
head_stands p (suc zero) h = refl
head_stands p (suc (suc zero)) h = refl
head_stands p (suc (suc (suc zero))) h = refl
head_stands p (suc (suc (suc (suc zero)))) h = refl
head_stands p (suc (suc (suc (suc (suc zero))))) h = refl
head_stands p (suc (suc (suc (suc (suc (suc zero)))))) h = refl
head_stands p (suc (suc (suc (suc (suc (suc (suc zero))))))) h = refl
head_stands p (suc (suc (suc (suc (suc (suc (suc (suc zero)))))))) h = winner_small p.winner
head_stands p (suc (suc (suc (suc (suc (suc (suc (suc (suc zero))))))))) h = flag_small p.ended
head_stands p (suc (suc (suc (suc (suc (suc (suc (suc (suc (suc k)))))))))) h = absurd (omega arith)

-- where another byte stands, no point begins
pub head_wrong : (p : Point) (t : List ℕ) (k b : ℕ) → k < 10 → get_or t k 0 ≡ b → may_stand k b ≡ false → bytes_of p ≡ t → ⊥
head_wrong p t k b h at wrong e =
    true≢false (sym (head_stands p k h) ∙ (ap (λ (u : List ℕ). may_stand k (get_or u k 0)) e ∙ (ap (may_stand k) at ∙ wrong)))

head_value : (k b : ℕ) (w : Winner) (e : Bool) → k < 10 → may_stand k b ≡ true → (k ≡ 8 → winner_byte w ≡ b) → (k ≡ 9 → flag_byte e ≡ b)
    → b ≡ get_or (head_of w e) k 0
unfolding head_of
head_value zero b w e h stands won ended = eqb-true b 80 stands
head_value (suc zero) b w e h stands won ended = eqb-true b 65 stands
head_value (suc (suc zero)) b w e h stands won ended = eqb-true b 82 stands
head_value (suc (suc (suc zero))) b w e h stands won ended = eqb-true b 73 stands
head_value (suc (suc (suc (suc zero)))) b w e h stands won ended = eqb-true b 83 stands
head_value (suc (suc (suc (suc (suc zero))))) b w e h stands won ended = eqb-true b 67 stands
head_value (suc (suc (suc (suc (suc (suc zero)))))) b w e h stands won ended = eqb-true b 80 stands
head_value (suc (suc (suc (suc (suc (suc (suc zero))))))) b w e h stands won ended = eqb-true b 49 stands
head_value (suc (suc (suc (suc (suc (suc (suc (suc zero)))))))) b w e h stands won ended = sym (won refl)
head_value (suc (suc (suc (suc (suc (suc (suc (suc (suc zero))))))))) b w e h stands won ended = sym (ended refl)
head_value (suc (suc (suc (suc (suc (suc (suc (suc (suc (suc k)))))))))) b w e h stands won ended = absurd (omega arith)

-- bytes of which each can stand in a head are the beginning of one
pub head_begins : (s : List ℕ) (n : ℕ) (w : Winner) (e : Bool) → n ≤ 10 → n ≤ length s → Stand s n
    → (8 < n → winner_byte w ≡ get_or s 8 0) → (9 < n → flag_byte e ≡ get_or s 9 0) → take n s ≡ take n (head_of w e)
head_begins s n w e most within stand won ended =
    let long : n ≤ length (head_of w e) = omega (arith, head_length w e) in
    let own : length (take n s) ≡ n = length-take-le n s within in
    same_number_lists (take n s) (take n (head_of w e)) (own ∙ sym (length-take-le n (head_of w e) long))
    (λ k h. let below : k < n = omega (arith, own) in
    get_or-take n s k 0 below ∙ (head_value k (get_or s k 0) w e (omega arith) (stand k below)
    (λ is. won (omega arith) ∙ ap (λ (i : ℕ). get_or s i 0) (sym is)) (λ is. ended (omega arith) ∙ ap (λ (i : ℕ). get_or s i 0) (sym is))
    ∙ sym (get_or-take n (head_of w e) k 0 below)))

pub winner_at : ℕ → Winner
winner_at zero = High
winner_at (suc b) = Low

pub flag_at : ℕ → Bool
flag_at zero = false
flag_at (suc b) = true

pub winner_is : (b : ℕ) → b ≤ 1 → winner_byte (winner_at b) ≡ b
unfolding winner_at
winner_is zero h = refl
winner_is (suc zero) h = refl
winner_is (suc (suc b)) h = absurd (omega arith)

pub flag_is : (b : ℕ) → b ≤ 1 → flag_byte (flag_at b) ≡ b
unfolding flag_at
flag_is zero h = refl
flag_is (suc zero) h = refl
flag_is (suc (suc b)) h = absurd (omega arith)

pub flag_tested : (b : ℕ) → b ≤ 1 → flag_byte (nat_eq b 1) ≡ b
flag_tested zero h = refl
flag_tested (suc zero) h = refl
flag_tested (suc (suc b)) h = absurd (omega arith)

pub record Head (s : List ℕ) (n : ℕ) : Type 0 where
  pub winner : Winner
  pub ended : Bool
  pub begins : take n s ≡ take n (head_of winner ended)

-- such a head
pub some_head : (s : List ℕ) (n : ℕ) → n ≤ 10 → n ≤ length s → Stand s n → Head s n
some_head s n most within stand = record {
  winner = winner_at (get_or s 8 0);
  ended = flag_at (get_or s 9 0);
  begins = head_begins s n _ _ most within stand
      (λ h. winner_is (get_or s 8 0) (leb-true _ _ (stand 8 h))) (λ h. flag_is (get_or s 9 0) (leb-true _ _ (stand 9 h)));
}
