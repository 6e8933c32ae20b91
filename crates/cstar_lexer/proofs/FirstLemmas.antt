-- The first fault in place of a piece is the first of those of its kind.
use Rattle.std.proofs.Common.{◌≡◌, ℕ, ◌≤◌, Bool, true, List, take, arith, lit≤, subst}
use Rattle.std.specs.Prelude.{slice_index}
use Rattle.cstar_base.specs.Faults.{number_of}
use Rattle.cstar_base.specs.declared.faults.Fault.{Fault}
use Rattle.cstar_base.specs.declared.faults.Fault.TheVariants as F
use Rattle.cstar_lexer.specs.declared.fault.Refusal.{Refusal}
use Rattle.cstar_lexer.specs.declared.fault.Refusal.TheVariants as A
use Rattle.cstar_lexer.specs.Bytes.{is_figure}
use Rattle.cstar_lexer.specs.Comments.{IsComment, OpensComment}
use Rattle.cstar_lexer.specs.Directives.{LineFault}
use Rattle.cstar_lexer.specs.Faults.{IsFirst}
use Rattle.cstar_lexer.specs.Names.{Names}
use Rattle.cstar_lexer.specs.Numbers.{NumberFault}
use Rattle.cstar_lexer.specs.Pieces.{IsRefusedBy}
use Rattle.cstar_lexer.specs.Quoted.{CharacterFault, TextFault}
use Rattle.cstar_lexer.specs.Reading.{IsBlank, IsLine}
use Rattle.cstar_lexer.specs.Refusals.{BeginsNoToken, FaultHere, TokenFault}
use Rattle.cstar_lexer.specs.Refusals as R
use Rattle.cstar_lexer.proofs.FirstBytes.{at_34, at_35, at_39, at_47, character_fault_class, character_fault_quote, figure_class, number_fault_class, number_fault_figure}
use Rattle.cstar_lexer.proofs.OnePiece.{no_comment_fault, one_line}

widened : {Inner Outer : Fault → ℕ → Type 0} {fault : Fault} {offset : ℕ} → ((f : Fault) (o : ℕ) → Inner f o → Outer f o) → ((f : Fault) (o : ℕ) → Outer f o → Inner f o) → IsFirst Inner fault offset → IsFirst Outer fault offset
widened into back first = record {
  stands = into _ _ first.stands;
  first = λ other at f. first.first other at (back other at f);
  least = λ other at f e. first.least other at (back other at f) e;
}

refused_wider : {Inner Outer : Fault → ℕ → Type 0} (refusal : Refusal) → ((f : Fault) (o : ℕ) → Inner f o → Outer f o) → ((f : Fault) (o : ℕ) → Outer f o → Inner f o) → IsRefusedBy Inner refusal → IsRefusedBy Outer refusal
refused_wider (A.Flaw flaw) into back first = widened into back first
refused_wider A.Memory into back first = tt

pub first_constant : {bytes : List ℕ} {fault : Fault} {offset : ℕ} → is_figure (slice_index bytes 0) ≡ true → IsFirst (NumberFault bytes) fault offset → IsFirst (TokenFault bytes) fault offset
first_constant {bytes} figure first = widened (λ f o h. R.constant h) (λ f o h. only h) first
  where
    only : {f : Fault} {o : ℕ} → TokenFault bytes f o → NumberFault bytes f o
    only (R.constant h) = h
    only (R.character h) = absurd (omega (arith, figure_class _ figure, character_fault_class h))
    only (R.text h) = absurd (omega (arith, figure_class _ figure, at_34 _ h.0))
    only (R.byte b) = absurd (cc (figure, b.no_constant))

pub first_character : {bytes : List ℕ} {fault : Fault} {offset : ℕ} → slice_index bytes 0 ≡ 39 → IsFirst (CharacterFault bytes) fault offset → IsFirst (TokenFault bytes) fault offset
first_character {bytes} quote first = widened (λ f o h. R.character h) (λ f o h. only h) first
  where
    only : {f : Fault} {o : ℕ} → TokenFault bytes f o → CharacterFault bytes f o
    only (R.constant h) = absurd (omega (arith, at_39 _ quote, number_fault_class h))
    only (R.character h) = h
    only (R.text h) = absurd (omega (arith, quote, h.0))
    only (R.byte b) = absurd (b.no_character quote)

pub first_text : (bytes : List ℕ) (refusal : Refusal) → slice_index bytes 0 ≡ 34 → IsRefusedBy (TextFault bytes) refusal → IsRefusedBy (TokenFault bytes) refusal
first_text bytes refusal quote first = refused_wider refusal (λ f o h. R.text h) (λ f o h. only h) first
  where
    only : {f : Fault} {o : ℕ} → TokenFault bytes f o → TextFault bytes f o
    only (R.constant h) = absurd (omega (arith, at_34 _ quote, number_fault_class h))
    only (R.character h) = absurd (omega (arith, quote, character_fault_quote h))
    only (R.text h) = h
    only (R.byte b) = absurd (b.no_text quote)

pub first_byte : {bytes : List ℕ} → BeginsNoToken bytes → IsFirst (TokenFault bytes) F.BadByte 0
first_byte {bytes} none = record { stands = R.byte none; first = λ other at f. omega arith; least = λ other at f e. least f }
  where
    least : {f : Fault} {o : ℕ} → TokenFault bytes f o → 1 ≤ number_of f
    least (R.constant h) = absurd (cc (number_fault_figure h, none.no_constant))
    least (R.character h) = absurd (none.no_character (character_fault_quote h))
    least (R.text h) = absurd (none.no_text h.0)
    least (R.byte b) = lit≤ tt

pub first_token : (fresh : Bool) (names : Names) (bytes : List ℕ) (refusal : Refusal) → (OpensComment bytes → ⊥) → (IsBlank (slice_index bytes 0) → ⊥) → (fresh ≡ true → slice_index bytes 0 ≡ 35 → ⊥) → IsRefusedBy (TokenFault bytes) refusal → IsRefusedBy (FaultHere fresh names bytes) refusal
first_token fresh names bytes refusal bare no_blank no_line first = refused_wider refusal (λ f o h. R.token no_blank no_line h) (λ f o h. only h) first
  where
    only : {f : Fault} {o : ℕ} → FaultHere fresh names bytes f o → TokenFault bytes f o
    only (R.comment opens unclosed) = absurd (bare opens)
    only (R.line h l f) = absurd (no_line h l.begins)
    only (R.token a b f) = f

pub first_comment : {fresh : Bool} {names : Names} {bytes : List ℕ} → OpensComment bytes → ((n : ℕ) → IsComment bytes n → ⊥) → IsFirst (FaultHere fresh names bytes) F.Open 0
first_comment {fresh} {names} {bytes} opens none = record { stands = R.comment opens none; first = λ other at f. omega arith; least = λ other at f e. least f }
  where
    least : {f : Fault} {o : ℕ} → FaultHere fresh names bytes f o → 2 ≤ number_of f
    least (R.comment a b) = lit≤ tt
    least (R.line h l f) = absurd (omega (arith, at_47 _ opens.0, at_35 _ l.begins))
    least (R.token a b f) = absurd (no_comment_fault opens f)

pub first_line : (fresh : Bool) (names : Names) (bytes : List ℕ) (refusal : Refusal) {n : ℕ} → fresh ≡ true → IsLine bytes n → IsRefusedBy (LineFault names (take n bytes)) refusal → IsRefusedBy (FaultHere fresh names bytes) refusal
first_line fresh names bytes refusal {n} fr line first = refused_wider refusal (λ f o h. R.line fr line h) (λ f o h. only h) first
  where
    only : {f : Fault} {o : ℕ} → FaultHere fresh names bytes f o → LineFault names (take n bytes) f o
    only (R.comment opens unclosed) = absurd (omega (arith, at_47 _ opens.0, at_35 _ line.begins))
    only {f} {o} (R.line h l g) = subst (λ (i : ℕ). LineFault names (take i bytes) f o) (one_line l line) g
    only (R.token a b g) = absurd (b fr line.begins)
