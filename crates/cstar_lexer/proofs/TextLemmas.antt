-- A text is read from its first byte on, and its first fault kept.
use Rattle.std.proofs.Common.{◌≡◌, ℕ, ◌+◌, ◌<◌, ◌≤◌, ◌⊎◌, inl, inr, List, [], ◌∷◌, ◌++◌, append_assoc, append-nil, drop, get_or, get_or-drop, arith, lit≤, refl, sym, ◌∙◌, subst}
use Rattle.std.specs.Prelude.{slice_index, Option, Some, None, unwrap_or}
use Rattle.cstar_base.specs.Faults.{number_of}
use Rattle.cstar_base.specs.declared.faults.Fault.{Fault}
use Rattle.cstar_base.specs.declared.faults.Fault.TheVariants as F
use Rattle.cstar_lexer.specs.Bytes.{LineEnds}
use Rattle.cstar_lexer.specs.Faults.{IsFirst}
use Rattle.cstar_lexer.specs.declared.flaw.Flaw.{Flaw}
use Rattle.cstar_lexer.specs.Quoted.{FaultInside, IsBad, IsCut, IsEscape, IsInside, IsPlain, IsQuoted, TextFault}
use Rattle.cstar_lexer.specs.Quoted as Q
use Rattle.cstar_lexer.proofs.QuotedLemmas.{cut_no_escape, escape_begins, escape_long, not_end, one_escape}

pub here : (bytes : List ℕ) (at : ℕ) → get_or (drop at bytes) 0 0 ≡ get_or bytes at 0
here bytes at = let e : get_or (drop at bytes) 0 0 ≡ get_or bytes (at + 0) 0 = get_or-drop at bytes 0 0 in let z : at + 0 ≡ at = omega arith in subst (λ (i : ℕ). get_or (drop at bytes) 0 0 ≡ get_or bytes i 0) z e

pub escape_here : (bytes : List ℕ) (at : ℕ) {n v : ℕ} → IsEscape (drop at bytes) n v → slice_index bytes at ≡ 92
escape_here bytes at e = sym (here bytes at) ∙ escape_begins e

pub bad_here : (bytes : List ℕ) (at : ℕ) → IsBad (drop at bytes) → slice_index bytes at ≡ 92
bad_here bytes at e = sym (here bytes at) ∙ e.begins

cut_here : (bytes : List ℕ) (at : ℕ) → IsCut (drop at bytes) → slice_index bytes at ≡ 92
cut_here bytes at e = sym (here bytes at) ∙ e.0

slash_on_line : (bytes : List ℕ) (at : ℕ) → slice_index bytes at ≡ 92 → LineEnds bytes at → ⊥
slash_on_line bytes at b ends = not_end bytes at 92 b (λ e. absurd (omega arith)) (λ e. absurd (omega arith)) ends

-- a fault from a byte on stands behind it, or at it
pub behind_plain : {bytes : List ℕ} {at offset : ℕ} {fault : Fault} → IsPlain bytes at 34 → FaultInside bytes at fault offset → FaultInside bytes (at + 1) fault offset
behind_plain {bytes} {at} p (Q.ended ends) = absurd (p.on_line ends)
behind_plain {bytes} {at} p (Q.cut cut) = absurd (p.no_escape (cut_here bytes at cut))
behind_plain {bytes} {at} p (Q.bad bad is) = absurd (p.no_escape (bad_here bytes at bad))
behind_plain {bytes} {at} p (Q.wide escape large is) = absurd (p.no_escape (escape_here bytes at escape))
behind_plain {bytes} {at} p (Q.behind_plain q later) = later
behind_plain {bytes} {at} p (Q.behind_escape escape later) = absurd (p.no_escape (escape_here bytes at escape))
behind_plain {bytes} {at} p (Q.behind_bad bad later) = absurd (p.no_escape (bad_here bytes at bad))

pub behind_escape : {bytes : List ℕ} {at n v offset : ℕ} {fault : Fault} → IsEscape (drop at bytes) n v → v < 256 → FaultInside bytes at fault offset → FaultInside bytes (at + n) fault offset
behind_escape {bytes} {at} e small (Q.ended ends) = absurd (slash_on_line bytes at (escape_here bytes at e) ends)
behind_escape {bytes} {at} e small (Q.cut cut) = absurd (cut_no_escape cut e)
behind_escape {bytes} {at} e small (Q.bad bad is) = absurd (bad.none _ _ e)
behind_escape {bytes} {at} e small (Q.wide escape large is) = absurd (let same = one_escape e escape in omega (arith, same.1))
behind_escape {bytes} {at} e small (Q.behind_plain q later) = absurd (q.no_escape (escape_here bytes at e))
behind_escape {bytes} {at} {n} {v} {offset} {fault} e small (Q.behind_escape escape later) = subst (λ (i : ℕ). FaultInside bytes (at + i) fault offset) (sym (one_escape e escape).0) later
behind_escape {bytes} {at} e small (Q.behind_bad bad later) = absurd (bad.none _ _ e)

pub behind_wide : {bytes : List ℕ} {at n v offset : ℕ} {fault : Fault} → IsEscape (drop at bytes) n v → FaultInside bytes at fault offset → FaultInside bytes (at + n) fault offset ⊎ ((offset ≡ at) × (3 ≤ number_of fault))
behind_wide {bytes} {at} e (Q.ended ends) = absurd (slash_on_line bytes at (escape_here bytes at e) ends)
behind_wide {bytes} {at} e (Q.cut cut) = absurd (cut_no_escape cut e)
behind_wide {bytes} {at} e (Q.bad bad is) = absurd (bad.none _ _ e)
behind_wide {bytes} {at} e (Q.wide escape large is) = inr (is, lit≤ tt)
behind_wide {bytes} {at} e (Q.behind_plain q later) = absurd (q.no_escape (escape_here bytes at e))
behind_wide {bytes} {at} {n} {v} {offset} {fault} e (Q.behind_escape escape later) = inl (subst (λ (i : ℕ). FaultInside bytes (at + i) fault offset) (sym (one_escape e escape).0) later)
behind_wide {bytes} {at} e (Q.behind_bad bad later) = absurd (bad.none _ _ e)

pub behind_bad : {bytes : List ℕ} {at offset : ℕ} {fault : Fault} → IsBad (drop at bytes) → FaultInside bytes at fault offset → FaultInside bytes (at + 2) fault offset ⊎ ((offset ≡ at + 1) × (1 ≤ number_of fault))
behind_bad {bytes} {at} b (Q.ended ends) = absurd (slash_on_line bytes at (bad_here bytes at b) ends)
behind_bad {bytes} {at} b (Q.cut cut) = absurd (b.goes_on cut)
behind_bad {bytes} {at} b (Q.bad bad is) = inr (is, lit≤ tt)
behind_bad {bytes} {at} b (Q.wide escape large is) = absurd (b.none _ _ escape)
behind_bad {bytes} {at} b (Q.behind_plain q later) = absurd (q.no_escape (bad_here bytes at b))
behind_bad {bytes} {at} b (Q.behind_escape escape later) = absurd (b.none _ _ escape)
behind_bad {bytes} {at} b (Q.behind_bad bad later) = inl later

-- where a text closes, no fault stands
pub no_fault_closed : {bytes : List ℕ} {at offset : ℕ} {fault : Fault} → slice_index bytes at ≡ 34 → FaultInside bytes at fault offset → ⊥
no_fault_closed {bytes} {at} q (Q.ended ends) = not_end bytes at 34 q (λ e. absurd (omega arith)) (λ e. absurd (omega arith)) ends
no_fault_closed {bytes} {at} q (Q.cut cut) = let b : slice_index bytes at ≡ 92 = cut_here bytes at cut in omega arith
no_fault_closed {bytes} {at} q (Q.bad bad is) = let b : slice_index bytes at ≡ 92 = bad_here bytes at bad in omega arith
no_fault_closed {bytes} {at} q (Q.wide escape large is) = let b : slice_index bytes at ≡ 92 = escape_here bytes at escape in omega arith
no_fault_closed {bytes} {at} q (Q.behind_plain p later) = p.no_quote q
no_fault_closed {bytes} {at} q (Q.behind_escape escape later) = let b : slice_index bytes at ≡ 92 = escape_here bytes at escape in omega arith
no_fault_closed {bytes} {at} q (Q.behind_bad bad later) = let b : slice_index bytes at ≡ 92 = bad_here bytes at bad in omega arith

-- a fault at the quote is an open text
pub open_first : {bytes : List ℕ} {at offset : ℕ} {fault : Fault} → 1 ≤ at → FaultInside bytes at fault offset → offset ≡ 0 → 2 ≤ number_of fault
open_first some (Q.ended ends) e = lit≤ tt
open_first some (Q.cut cut) e = lit≤ tt
open_first some (Q.bad bad is) e = absurd (omega arith)
open_first some (Q.wide escape large is) e = absurd (omega arith)
open_first some (Q.behind_plain p later) e = open_first (omega arith) later e
open_first some (Q.behind_escape escape later) e = open_first (omega arith) later e
open_first some (Q.behind_bad bad later) e = open_first (omega arith) later e

-- what is known of a text that was read up to a byte: its bytes so far, or its first faulty escape
pub record Unflawed (bytes : List ℕ) (at : ℕ) (word : List ℕ) : Type 0 where
  pub whole : (end : ℕ) (rest : List ℕ) → IsInside bytes at end rest → IsInside bytes 1 end (word ++ rest)
  pub later : (fault : Fault) (offset : ℕ) → FaultInside bytes 1 fault offset → FaultInside bytes at fault offset

pub record Flawed (bytes : List ℕ) (at : ℕ) (flaw : Flaw) : Type 0 where
  pub stands : FaultInside bytes 1 flaw.fault flaw.offset
  pub before : flaw.offset < at
  pub later : (fault : Fault) (offset : ℕ) → FaultInside bytes 1 fault offset → FaultInside bytes at fault offset ⊎ ((flaw.offset ≤ offset) × (offset ≡ flaw.offset → number_of flaw.fault ≤ number_of fault))

abbrev pub SoFar : List ℕ → ℕ → List ℕ → Option Flaw → Type 0
SoFar bytes at word None = Unflawed bytes at word
SoFar bytes at word (Some flaw) = Flawed bytes at flaw

-- and every fault from there on is one of the text
abbrev pub Back : List ℕ → ℕ → Type 0
Back bytes at = (fault : Fault) (offset : ℕ) → FaultInside bytes at fault offset → FaultInside bytes 1 fault offset

pub plain_step : (bytes : List ℕ) (at : ℕ) (word : List ℕ) (first : Option Flaw) → IsPlain bytes at 34 → SoFar bytes at word first → SoFar bytes (at + 1) (word ++ slice_index bytes at ∷ []) first
plain_step bytes at word None p so = record {
  whole = λ end rest i. subst (λ (w : List ℕ). IsInside bytes 1 end w) (sym (append_assoc word (slice_index bytes at ∷ []) rest)) (so.whole end (slice_index bytes at ∷ rest) (Q.plain p i refl));
  later = λ fault offset h. behind_plain p (so.later fault offset h);
}
plain_step bytes at word (Some flaw) p so = record {
  stands = so.stands;
  before = omega (arith, so.before);
  later = λ fault offset h. elim (so.later fault offset h) [ inl i ↦ inl (behind_plain p i) | inr r ↦ inr r ];
}

pub escape_step : (bytes : List ℕ) (at n v : ℕ) (word : List ℕ) (first : Option Flaw) → IsEscape (drop at bytes) n v → v < 256 → SoFar bytes at word first → SoFar bytes (at + n) (word ++ v ∷ []) first
escape_step bytes at n v word None e small so = record {
  whole = λ end rest i. subst (λ (w : List ℕ). IsInside bytes 1 end w) (sym (append_assoc word (v ∷ []) rest)) (so.whole end (v ∷ rest) (Q.escape e small i refl));
  later = λ fault offset h. behind_escape e small (so.later fault offset h);
}
escape_step bytes at n v word (Some flaw) e small so = record {
  stands = so.stands;
  before = omega (arith, so.before);
  later = λ fault offset h. elim (so.later fault offset h) [ inl i ↦ inl (behind_escape e small i) | inr r ↦ inr r ];
}

pub wide_step : (bytes : List ℕ) (at n v : ℕ) (word : List ℕ) (first : Option Flaw) (flaw : Flaw) → IsEscape (drop at bytes) n v → 256 ≤ v → flaw.fault ≡ F.Wide → flaw.offset ≡ at → Back bytes at → SoFar bytes at word first → Flawed bytes (at + n) (unwrap_or first flaw)
wide_step bytes at n v word None flaw e large is place back so = record {
  stands = subst (λ (f : Fault). FaultInside bytes 1 f flaw.offset) (sym is) (back F.Wide flaw.offset (Q.wide e large place));
  before = omega (arith, escape_long e);
  later = λ fault offset h. elim (behind_wide e (so.later fault offset h)) [
    | inl i ↦ inl i
    | inr r ↦ inr (omega (arith, r.0), λ same. subst (λ (f : Fault). number_of f ≤ number_of fault) (sym is) r.1)
  ];
}
wide_step bytes at n v word (Some met) flaw e large is place back so = record {
  stands = so.stands;
  before = omega (arith, so.before);
  later = λ fault offset h. elim (so.later fault offset h) [
    | inl i ↦ elim (behind_wide e i) [ inl j ↦ inl j | inr r ↦ inr (omega (arith, r.0, so.before), λ same. absurd (omega (arith, r.0, so.before, same))) ]
    | inr r ↦ inr r
  ];
}

pub bad_step : (bytes : List ℕ) (at : ℕ) (word : List ℕ) (first : Option Flaw) (flaw : Flaw) → IsBad (drop at bytes) → flaw.fault ≡ F.BadByte → flaw.offset ≡ at + 1 → Back bytes at → SoFar bytes at word first → Flawed bytes (at + 2) (unwrap_or first flaw)
bad_step bytes at word None flaw b is place back so = record {
  stands = subst (λ (f : Fault). FaultInside bytes 1 f flaw.offset) (sym is) (back F.BadByte flaw.offset (Q.bad b place));
  before = omega arith;
  later = λ fault offset h. elim (behind_bad b (so.later fault offset h)) [
    | inl i ↦ inl i
    | inr r ↦ inr (omega (arith, r.0), λ same. subst (λ (f : Fault). number_of f ≤ number_of fault) (sym is) r.1)
  ];
}
bad_step bytes at word (Some met) flaw b is place back so = record {
  stands = so.stands;
  before = omega (arith, so.before);
  later = λ fault offset h. elim (so.later fault offset h) [
    | inl i ↦ elim (behind_bad b i) [ inl j ↦ inl j | inr r ↦ inr (omega (arith, r.0, so.before), λ same. absurd (omega (arith, r.0, so.before, same))) ]
    | inr r ↦ inr r
  ];
}

pub first_open : {bytes : List ℕ} → slice_index bytes 0 ≡ 34 → FaultInside bytes 1 F.Open 0 → IsFirst (TextFault bytes) F.Open 0
first_open q stands = record { stands = (q, stands); first = λ other at h. omega arith; least = λ other at h e. open_first (lit≤ tt) h.1 e }

pub first_flaw : {bytes : List ℕ} {at : ℕ} (flaw : Flaw) → slice_index bytes 0 ≡ 34 → slice_index bytes at ≡ 34 → Flawed bytes at flaw → IsFirst (TextFault bytes) flaw.fault flaw.offset
first_flaw flaw q closes so = record {
  stands = (q, so.stands);
  first = λ other offset h. elim (so.later other offset h.1) [ inl i ↦ absurd (no_fault_closed closes i) | inr r ↦ r.0 ];
  least = λ other offset h same. elim (so.later other offset h.1) [ inl i ↦ absurd (no_fault_closed closes i) | inr r ↦ r.1 same ];
}

pub whole_text : (bytes : List ℕ) (at : ℕ) (word : List ℕ) → slice_index bytes 0 ≡ 34 → slice_index bytes at ≡ 34 → Unflawed bytes at word → IsQuoted bytes (at + 1) word
whole_text bytes at word q closes so = (q, subst (λ (w : List ℕ). IsInside bytes 1 (at + 1) w) (append-nil word) (so.whole (at + 1) [] (Q.closes closes refl refl)))
