-- Which fault in a character constant is the first.
use Rattle.std.proofs.Common.{◌≡◌, ℕ, ◌+◌, ◌<◌, ◌≤◌, List, drop, arith, lit≤, refl, sym, ap, ◌∙◌, subst}
use Rattle.std.specs.Prelude.{slice_index}
use Rattle.cstar_base.specs.Faults.{number_of}
use Rattle.cstar_base.specs.declared.faults.Fault.{Fault}
use Rattle.cstar_base.specs.declared.faults.Fault.TheVariants as F
use Rattle.cstar_lexer.specs.Bytes.{LineEnds}
use Rattle.cstar_lexer.specs.Faults.{IsFirst}
use Rattle.cstar_lexer.specs.Quoted.{CharacterFault, IsBad, IsCut, IsEscape, IsOne}
use Rattle.cstar_lexer.specs.Quoted as Q
use Rattle.cstar_lexer.proofs.QuotedLemmas.{cut_no_escape, drop_one, escape_begins, escape_long, not_end, one_escape}

begins_at : (bytes : List ℕ) {n v : ℕ} → IsEscape (drop 1 bytes) n v → slice_index bytes 1 ≡ 92
begins_at bytes e = sym (drop_one bytes) ∙ escape_begins e

pub bad_at : (bytes : List ℕ) → IsBad (drop 1 bytes) → slice_index bytes 1 ≡ 92
bad_at bytes e = sym (drop_one bytes) ∙ e.begins

cut_at : (bytes : List ℕ) → IsCut (drop 1 bytes) → slice_index bytes 1 ≡ 92
cut_at bytes e = sym (drop_one bytes) ∙ e.0

clash : (bytes : List ℕ) {A : Type 0} → slice_index bytes 1 ≡ 39 → slice_index bytes 1 ≡ 92 → A
clash bytes a b = absurd (omega arith)

escaped_on_line : (bytes : List ℕ) → slice_index bytes 1 ≡ 92 → LineEnds bytes 1 → ⊥
escaped_on_line bytes b ends = not_end bytes 1 92 b (λ e. absurd (omega arith)) (λ e. absurd (omega arith)) ends

pub one_one : {bytes : List ℕ} {n m v w : ℕ} → IsOne bytes n v → IsOne bytes m w → (n ≡ m) × (v ≡ w)
one_one {bytes} (Q.plain a long is) (Q.plain b far same) = (long ∙ sym far, is ∙ sym same)
one_one {bytes} (Q.plain a long is) (Q.escape e) = absurd (a.no_escape (begins_at bytes e))
one_one {bytes} (Q.escape e) (Q.plain a long is) = absurd (a.no_escape (begins_at bytes e))
one_one {bytes} (Q.escape e) (Q.escape f) = one_escape e f

one_some : {bytes : List ℕ} {n v : ℕ} → IsOne bytes n v → 0 < n
one_some {bytes} (Q.plain a long is) = omega arith
one_some {bytes} (Q.escape e) = omega (arith, escape_long e)

least_open : {bytes : List ℕ} {other : Fault} {at : ℕ} → CharacterFault bytes other at → at ≡ 0 → 2 ≤ number_of other
least_open (Q.ended q ends) e = lit≤ tt
least_open (Q.cut q cut) e = lit≤ tt
least_open (Q.unclosed q one ends) e = lit≤ tt
least_open (Q.empty q same) e = absurd (omega arith)
least_open (Q.bad q bad) e = absurd (omega arith)
least_open (Q.wide q escape large) e = absurd (omega arith)
least_open (Q.other q one on unclosed) e = absurd (omega arith)

pub first_open : {bytes : List ℕ} → CharacterFault bytes F.Open 0 → IsFirst (CharacterFault bytes) F.Open 0
first_open stands = record { stands = stands; first = λ other at h. omega arith; least = λ other at h e. least_open h e }

only_empty : {bytes : List ℕ} {other : Fault} {at : ℕ} → slice_index bytes 1 ≡ 39 → CharacterFault bytes other at → (1 ≤ at) × (1 ≤ number_of other)
only_empty {bytes} q (Q.ended a ends) = absurd (not_end bytes 1 39 q (λ e. absurd (omega arith)) (λ e. absurd (omega arith)) ends)
only_empty {bytes} q (Q.cut a cut) = clash bytes q (cut_at bytes cut)
only_empty {bytes} q (Q.unclosed a (Q.plain p long is) ends) = absurd (p.no_quote q)
only_empty {bytes} q (Q.unclosed a (Q.escape e) ends) = clash bytes q (begins_at bytes e)
only_empty {bytes} q (Q.empty a same) = (lit≤ tt, lit≤ tt)
only_empty {bytes} q (Q.bad a bad) = (lit≤ tt, lit≤ tt)
only_empty {bytes} q (Q.wide a escape large) = clash bytes q (begins_at bytes escape)
only_empty {bytes} q (Q.other a one on unclosed) = (omega arith, lit≤ tt)

pub first_empty : {bytes : List ℕ} → slice_index bytes 0 ≡ 39 → slice_index bytes 1 ≡ 39 → IsFirst (CharacterFault bytes) F.BadByte 1
first_empty a q = record { stands = Q.empty a q; first = λ other at h. (only_empty q h).0; least = λ other at h e. (only_empty q h).1 }

only_bad : {bytes : List ℕ} {other : Fault} {at : ℕ} → IsBad (drop 1 bytes) → CharacterFault bytes other at → (at ≡ 2) × (1 ≤ number_of other)
only_bad {bytes} b (Q.ended a ends) = absurd (escaped_on_line bytes (bad_at bytes b) ends)
only_bad {bytes} b (Q.cut a cut) = absurd (b.goes_on cut)
only_bad {bytes} b (Q.unclosed a (Q.plain p long is) ends) = absurd (p.no_escape (bad_at bytes b))
only_bad {bytes} b (Q.unclosed a (Q.escape e) ends) = absurd (b.none _ _ e)
only_bad {bytes} b (Q.empty a same) = clash bytes same (bad_at bytes b)
only_bad {bytes} b (Q.bad a bad) = (refl, lit≤ tt)
only_bad {bytes} b (Q.wide a escape large) = absurd (b.none _ _ escape)
only_bad {bytes} b (Q.other a (Q.plain p long is) on unclosed) = absurd (p.no_escape (bad_at bytes b))
only_bad {bytes} b (Q.other a (Q.escape e) on unclosed) = absurd (b.none _ _ e)

pub first_bad : {bytes : List ℕ} → slice_index bytes 0 ≡ 39 → IsBad (drop 1 bytes) → IsFirst (CharacterFault bytes) F.BadByte 2
first_bad a b = record { stands = Q.bad a b; first = λ other at h. omega (arith, (only_bad b h).0); least = λ other at h e. (only_bad b h).1 }

only_wide : {bytes : List ℕ} {other : Fault} {at n v : ℕ} → IsEscape (drop 1 bytes) n v → (LineEnds bytes (n + 1) → ⊥) → CharacterFault bytes other at → (1 ≤ at) × (at ≡ 1 → 3 ≤ number_of other)
only_wide {bytes} e on (Q.ended a ends) = absurd (escaped_on_line bytes (begins_at bytes e) ends)
only_wide {bytes} e on (Q.cut a cut) = absurd (cut_no_escape cut e)
only_wide {bytes} e on (Q.unclosed a one ends) = absurd (on (subst (λ (i : ℕ). LineEnds bytes (i + 1)) (sym (one_one (Q.escape e) one).0) ends))
only_wide {bytes} e on (Q.empty a same) = clash bytes same (begins_at bytes e)
only_wide {bytes} e on (Q.bad a bad) = absurd (bad.none _ _ e)
only_wide {bytes} e on (Q.wide a escape large) = (lit≤ tt, λ h. lit≤ tt)
only_wide {bytes} e on (Q.other a one off unclosed) = (omega arith, λ h. absurd (omega (arith, one_some one)))

pub first_wide : {bytes : List ℕ} {n v : ℕ} → slice_index bytes 0 ≡ 39 → IsEscape (drop 1 bytes) n v → 256 ≤ v → (LineEnds bytes (n + 1) → ⊥) → IsFirst (CharacterFault bytes) F.Wide 1
first_wide a e large on = record { stands = Q.wide a e large; first = λ other at h. (only_wide e on h).0; least = λ other at h same. (only_wide e on h).1 same }

pub only_other : {bytes : List ℕ} {other : Fault} {at n v : ℕ} → IsOne bytes n v → v < 256 → (LineEnds bytes (n + 1) → ⊥) → CharacterFault bytes other at → (at ≡ n + 1) × (1 ≤ number_of other) × (slice_index bytes (n + 1) ≡ 39 → ⊥)
only_other {bytes} (Q.plain p long is) small on (Q.ended a ends) = absurd (p.on_line ends)
only_other {bytes} (Q.escape e) small on (Q.ended a ends) = absurd (escaped_on_line bytes (begins_at bytes e) ends)
only_other {bytes} (Q.plain p long is) small on (Q.cut a cut) = absurd (p.no_escape (cut_at bytes cut))
only_other {bytes} (Q.escape e) small on (Q.cut a cut) = absurd (cut_no_escape cut e)
only_other {bytes} one small on (Q.unclosed a other ends) = absurd (on (subst (λ (i : ℕ). LineEnds bytes (i + 1)) (sym (one_one one other).0) ends))
only_other {bytes} (Q.plain p long is) small on (Q.empty a same) = absurd (p.no_quote same)
only_other {bytes} (Q.escape e) small on (Q.empty a same) = clash bytes same (begins_at bytes e)
only_other {bytes} (Q.plain p long is) small on (Q.bad a bad) = absurd (p.no_escape (bad_at bytes bad))
only_other {bytes} (Q.escape e) small on (Q.bad a bad) = absurd (bad.none _ _ e)
only_other {bytes} (Q.plain p long is) small on (Q.wide a escape large) = absurd (p.no_escape (begins_at bytes escape))
only_other {bytes} (Q.escape e) small on (Q.wide a escape large) = absurd (let same = one_escape e escape in omega (arith, same.1))
only_other {bytes} one small on (Q.other a other off unclosed) = let e = sym (one_one one other).0 in (ap (λ (i : ℕ). i + 1) e, lit≤ tt, subst (λ (i : ℕ). slice_index bytes (i + 1) ≡ 39 → ⊥) e unclosed)

pub first_other : {bytes : List ℕ} {n v : ℕ} → slice_index bytes 0 ≡ 39 → IsOne bytes n v → v < 256 → (LineEnds bytes (n + 1) → ⊥) → (slice_index bytes (n + 1) ≡ 39 → ⊥) → IsFirst (CharacterFault bytes) F.BadByte (n + 1)
first_other a one small on unclosed = record { stands = Q.other a one on unclosed; first = λ other at h. omega (arith, (only_other one small on h).0); least = λ other at h e. (only_other one small on h).1 }
