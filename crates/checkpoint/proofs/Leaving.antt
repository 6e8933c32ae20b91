-- Where bytes that are no point's leave those of all points.
use Rattle.std.proofs.Common.{◌≡◌, ◌++◌, ◌+◌, ◌-◌, ◌<◌, ◌≤◌, ℕ, Bool, false, List, [], ◌∷◌, length, take, drop, get_or, min, nat_eq, refl, sym, ◌∙◌, ap, append_assoc, lit<, arith}
use Rattle.std.proofs.Math.Seq.{drop-append_seam, take-append_seam, take-append-add, take-length}
use Rattle.std.proofs.lemmas.List.{append-nil, get_or-take, get_or_append_left, length-append, length-take-le, take-append-drop, take-append-le}
use Rattle.std.proofs.lemmas.Bool.{leb-true}
use Rattle.cstar_base.specs.declared.operators.Winner.{Winner}
use Rattle.checkpoint.specs.declared.loading.LoadFault.TheVariants.{Bad}
use Rattle.checkpoint.specs.declared.point.Point.{Point}
use Rattle.checkpoint.specs.Bytes.{BeginsPoint, IsCounted, LeavesAt, Stand, body_of, bytes_of, flag_byte, head_of, may_stand, winner_byte}
use Rattle.checkpoint.proofs.Numbers.{AreBytes}
use Rattle.checkpoint.proofs.Bodies.{body_free}
use Rattle.checkpoint.proofs.Ends.{Comes, HasHead, body_comes, drop_bytes}
use Rattle.checkpoint.proofs.Ends.Comes.{whole, part}
use Rattle.checkpoint.proofs.Heads.{Head, flag_tested, head_and_body, head_begins, head_length, head_wrong, some_head}
use Rattle.checkpoint.proofs.Reading.{SameSplit, same_split}

empty_point : Winner → Bool → Point
empty_point w e = record { winner = w; ended = e; at = 0; regs = []; returns = []; listing = []; bits = [] }

empty_counted : (w : Winner) (e : Bool) → IsCounted (empty_point w e)
unfolding empty_point
empty_counted w e = record { regs = lit< tt; returns = lit< tt; listing = lit< tt; bits = lit< tt }

empty_head : (w : Winner) (e : Bool) → bytes_of (empty_point w e) ≡ head_of w e ++ body_of (empty_point w e)
unfolding empty_point
empty_head w e = head_and_body (record { winner = w; ended = e; at = 0; regs = []; returns = []; listing = []; bits = [] })

-- the beginning of a head begins a point
begins_head : (s : List ℕ) (n : ℕ) → n ≤ 10 → Head s n → BeginsPoint (take n s)
begins_head s n most head =
    let p : Point = empty_point head.winner head.ended in
    let long : n ≤ length (head_of head.winner head.ended) = omega (arith, head_length head.winner head.ended) in
    let front : take n (bytes_of p) ≡ take n s =
    ap (take n) (empty_head head.winner head.ended) ∙ (take-append-le n (head_of head.winner head.ended) (body_of p) long ∙ sym head.begins) in
    (p, empty_counted head.winner head.ended, (drop n (bytes_of p), sym (take-append-drop n (bytes_of p)) ∙ ap (λ (t : List ℕ). t ++ drop n (bytes_of p)) front))

still : (s : List ℕ) (k : ℕ) (more : List ℕ) → k < length s → get_or (take (k + 1) s ++ more) k 0 ≡ get_or s k 0
still s k more within =
    let long : length (take (k + 1) s) ≡ k + 1 = length-take-le (k + 1) s (omega arith) in
    get_or_append_left (take (k + 1) s) more 0 k (omega (arith, long)) ∙ get_or-take (k + 1) s k 0 (omega arith)

-- a byte that no point has at its place
pub leaves_head : (s : List ℕ) (k : ℕ) → k < 10 → k < length s → Stand s k → may_stand k (get_or s k 0) ≡ false → LeavesAt s k
leaves_head s k most within stand wrong = record {
  none = λ is. head_wrong is.0 s k (get_or s k 0) most refl wrong is.2;
  within = omega arith;
  before = begins_head s k (omega arith) (some_head s k (omega arith) (omega arith) stand);
  here = λ h is. head_wrong is.0 _ k (get_or s k 0) most (still s k is.2.0 within) wrong is.2.1;
}

point_length : (p : Point) → length (bytes_of p) ≡ 10 + length (body_of p)
point_length p = ap length (head_and_body p) ∙ (length-append (head_of p.winner p.ended) (body_of p) ∙ omega (arith, head_length p.winner p.ended))

-- bytes that end within a head
pub ends_in_head : (s : List ℕ) → length s < 10 → Stand s (min 10 (length s)) → LeavesAt s (length s)
ends_in_head s short stand = record {
  none = λ is. omega (arith, ap length is.2, point_length is.0);
  within = omega arith;
  before = begins_head s (length s) (omega arith) (some_head s (length s) (omega arith) (omega arith) (λ k h. stand k (omega arith)));
  here = λ h is. omega arith;
}

-- bytes with a head, and a body behind it
pub whole_read : (s : List ℕ) (w : Winner) (p : Point) (rest : List ℕ) → 10 ≤ length s → Stand s 10 → winner_byte w ≡ get_or s 8 0
    → flag_byte p.ended ≡ get_or s 9 0 → p.winner ≡ w → drop 10 s ≡ body_of p ++ rest → s ≡ bytes_of p ++ rest
whole_read s w p rest long stand won ended same read =
    let head : take 10 s ≡ take 10 (head_of p.winner p.ended) =
    head_begins s 10 p.winner p.ended (omega arith) long stand (λ h. ap winner_byte same ∙ won) (λ h. ended) in
    let all : take 10 (head_of p.winner p.ended) ≡ head_of p.winner p.ended =
    ap (λ (n : ℕ). take n (head_of p.winner p.ended)) (sym (head_length p.winner p.ended)) ∙ take-length (head_of p.winner p.ended) in
    sym (take-append-drop 10 s) ∙ (ap (λ (t : List ℕ). t ++ drop 10 s) (head ∙ all)
    ∙ (ap (λ (t : List ℕ). head_of p.winner p.ended ++ t) read
    ∙ (sym (append_assoc (head_of p.winner p.ended) (body_of p) rest) ∙ ap (λ (t : List ℕ). t ++ rest) (sym (head_and_body p)))))

-- no point's bytes go on behind another's
whole_free : (p q : Point) (a b : List ℕ) → IsCounted p → IsCounted q → bytes_of p ++ a ≡ bytes_of q ++ b → a ≡ b
whole_free p q a b few other e =
    let split : SameSplit (head_of p.winner p.ended) (head_of q.winner q.ended) (body_of p ++ a) (body_of q ++ b) =
    same_split _ _ _ _ (head_length p.winner p.ended ∙ sym (head_length q.winner q.ended))
    (sym (append_assoc (head_of p.winner p.ended) (body_of p) a) ∙ (ap (λ (t : List ℕ). t ++ a) (sym (head_and_body p)) ∙ (e
    ∙ (ap (λ (t : List ℕ). t ++ b) (head_and_body q) ∙ append_assoc (head_of q.winner q.ended) (body_of q) b)))) in
    body_free (body_of p ++ a) p q a b few other refl split.rests

count : (s : List ℕ) (p : Point) (rest : List ℕ) → s ≡ bytes_of p ++ rest → length s - length rest ≡ length (bytes_of p)
count s p rest e = omega (arith, ap length e, length-append (bytes_of p) rest)

no_more : (rest : List ℕ) → 0 < length rest → [] ≡ rest → ⊥
no_more rest some e = let l : length rest ≡ 0 = ap length (sym e) in omega arith

one_more : (rest more : List ℕ) → 0 < length rest → [] ≡ take 1 rest ++ more → ⊥
one_more [] more some e = omega arith
one_more (x ∷ rest) more some e = cc

behind_head : (p : Point) (s : List ℕ) → bytes_of p ≡ s → drop 10 s ≡ body_of p
behind_head p s e =
    ap (drop 10) (sym e ∙ head_and_body p) ∙ (ap (λ (n : ℕ). drop n (head_of p.winner p.ended ++ body_of p)) (sym (head_length p.winner p.ended))
    ∙ drop-append_seam (head_of p.winner p.ended) (body_of p))

-- a head, and behind it the beginning of a body
begun : (s : List ℕ) (head : Head s 10) → Comes Point body_of (HasHead head.winner head.ended) (drop 10 s)
    → ((p : Point) (rest : List ℕ) → IsCounted p → drop 10 s ≡ body_of p ++ rest → ⊥) → BeginsPoint s
begun s head (whole p has rest bytes e) short = absurd (short p rest has.counted e)
begun s head (part p has more e) short =
    let same : head_of p.winner p.ended ≡ head_of head.winner head.ended = rw (has.winner_is, has.ended_is) refl in
    let front : take 10 s ≡ head_of p.winner p.ended =
    head.begins ∙ (ap (λ (n : ℕ). take n (head_of head.winner head.ended)) (sym (head_length head.winner head.ended))
    ∙ (take-length (head_of head.winner head.ended) ∙ sym same)) in (
      p,
      has.counted,
      (
        more,
        head_and_body p ∙ (ap (λ (t : List ℕ). head_of p.winner p.ended ++ t) (sym e)
            ∙ (ap (λ (t : List ℕ). t ++ (drop 10 s ++ more)) (sym front) ∙ (sym (append_assoc (take 10 s) (drop 10 s) more)
            ∙ ap (λ (t : List ℕ). t ++ more) (take-append-drop 10 s)))),
      ),
    )

-- bytes that go on behind a point
pub goes_on : (s : List ℕ) (p : Point) (rest : List ℕ) → IsCounted p → s ≡ bytes_of p ++ rest → 0 < length rest → LeavesAt s (length s - length rest)
goes_on s p rest few e some = rw (count s p rest e) (record {
  none = λ is. no_more rest some (whole_free is.0 p [] rest is.1 few (append-nil (bytes_of is.0) ∙ (is.2 ∙ e)));
  within = omega (arith, ap length e, length-append (bytes_of p) rest);
  before = (p, few, ([], sym (append-nil (take (length (bytes_of p)) s) ∙ (ap (take (length (bytes_of p))) e ∙ take-append_seam (bytes_of p) rest))));
  here = λ h is. one_more rest is.2.0 some (whole_free is.0 p [] _ is.1 few (append-nil (bytes_of is.0) ∙ (is.2.1
      ∙ (ap (λ (t : List ℕ). t ++ is.2.0) (ap (take (length (bytes_of p) + 1)) e ∙ take-append-add (bytes_of p) rest 1)
      ∙ append_assoc (bytes_of p) (take 1 rest) is.2.0))));
})

-- bytes that end within a body
pub ends_in_body : (s : List ℕ) → AreBytes s → 10 ≤ length s → Stand s 10
    → ((p : Point) (rest : List ℕ) → IsCounted p → drop 10 s ≡ body_of p ++ rest → ⊥) → LeavesAt s (length s)
ends_in_body s bytes long stand short =
    let head : Head s 10 = some_head s 10 (omega arith) long stand in
    record {
      none = λ is. short is.0 [] is.1 (behind_head is.0 s is.2 ∙ sym (append-nil (body_of is.0)));
      within = omega arith;
      before = rw (take-length s) (begun s head (body_comes head.winner head.ended (drop 10 s) (drop_bytes 10 s bytes)) short);
      here = λ h is. omega arith;
    }

-- a byte that is the flag of a head, as it is tested
pub tested : (s : List ℕ) → Stand s 10 → flag_byte (nat_eq (get_or s 9 0) 1) ≡ get_or s 9 0
tested s stand = flag_tested (get_or s 9 0) (leb-true _ _ (stand 9 (lit< tt)))

pub nothing_left : (s : List ℕ) (p : Point) (rest : List ℕ) → s ≡ bytes_of p ++ rest → length rest ≡ 0 → bytes_of p ≡ s
nothing_left s p [] e l = sym (e ∙ append-nil (bytes_of p))
nothing_left s p (x ∷ rest) e l = absurd (omega arith)

-- where a refusal tells it
pub told : (s : List ℕ) (k at : ℕ) → Bad k ≡ Bad at → LeavesAt s k → LeavesAt s at
told s k at e leaves = let same : k ≡ at = cc in rw (← same) leaves
