-- The machine's sends are the language's.
use Rattle.std.specs.Prelude.{◌≡◌, ℕ, ◌<◌, ◌^◌, ◌%◌, true, List, Some, is_some, pos, neg_ℤ}
use Rattle.cstar_base.specs.declared.elem.Elem.{Elem}
use Rattle.cstar_base.specs.declared.operators.Op.{Op}
use Rattle.cstar_base.specs.declared.operators.Op.TheVariants as O
use Rattle.cstar_base.specs.Numbers.{residue}
use Rattle.cstar_tree.specs.declared.syntax.AssignOp.{AssignOp}
use Rattle.cstar_tree.specs.declared.syntax.AssignOp.TheVariants as A
use Rattle.cstar_tree.specs.Operations.{folds}
use Rattle.cstar_tree.specs.declared.typed.Variable.{Variable}
use Rattle.lower_base.specs.Operators.{assign_op_of, fold_of, is_signed}
use Rattle.paris_code.specs.declared.instr.Instr.TheVariants as I
use Rattle.paris_code.specs.declared.operands.Field.{Field}
use Rattle.paris_code.specs.Meaning.{after}
use Rattle.paris_code.specs.Memory.{BitMemory, field_number, processors}
use Rattle.paris_code.specs.Sending.{combining, overwriting, winning_sender}
use Rattle.paris_code.specs.Shapes.{SetShape}
use Rattle.source_meaning.specs.Sends.{Send, is_sent_to, received, sent}
use Rattle.source_meaning.specs.State.{State}
use Rattle.communication_laws.specs.Holding.{HasActive, HasNumbers, HasVariable}

-- the set of a field of addresses has the positions of a send, of which the same are active, and these have their targets
-- there
pub record HasTargets (shapes : List SetShape) (m : BitMemory) (address : Field) (send : Send) : Type 0 where
  pub count : processors shapes address.set ≡ send.count
  pub active : HasActive shapes m address.set send.active
  pub targets : HasNumbers shapes m address send.active send.to

-- The machine writes at the targets to which is sent.
abbrev pub SentTargetsAreTheLanguages : Type 0
SentTargetsAreTheLanguages =
    (shapes : List SetShape) (m : BitMemory) (address : Field) (send : Send) → HasTargets shapes m address send
    → (target : ℕ) → is_some (winning_sender shapes m address target) ≡ is_sent_to send target

-- Without a combiner, where a field of the senders has the lowest bits of their values, it writes those of what the
-- target receives: with as many bits as the values have, the values.
abbrev pub OverwritingSendsAreTheLanguages : Type 0
OverwritingSendsAreTheLanguages =
    (shapes : List SetShape) (m : BitMemory) (d address a : Field) (send : Send) (bits : ℕ) → HasTargets shapes m address send
    → a.set ≡ address.set → HasNumbers shapes m a send.active (λ sender. send.value sender % 2 ^ bits)
    → (to from : Elem) (old target : ℕ) → is_sent_to send target ≡ true
    → (overwriting shapes m d address a).value target ≡ received m.winner A.Set to from send old target % 2 ^ bits

-- what a sender sends with a combiner: what is to be subtracted is added as its negative
abbrev pub sent_word : Op → ℕ → ℕ
sent_word O.Sub word = residue 32 (neg_ℤ (pos word))
sent_word _ word = word

-- the values that are sent are numbers of so many bits
abbrev pub HaveBits : ℕ → Send → Type 0
HaveBits bits send = (sender : ℕ) → sender < send.count → send.active sender ≡ true → send.value sender < 2 ^ bits

-- With a combiner, where the senders have their words and the target its old value, it writes what the target
-- receives, whatever type the target has.
abbrev pub CombiningSendsAreTheLanguages : Type 0
CombiningSendsAreTheLanguages =
    (shapes : List SetShape) (m : BitMemory) (d address a : Field) (send : Send) → HasTargets shapes m address send
    → (op : AssignOp) (operator : Op) → assign_op_of op ≡ Some operator → folds op ≡ true
    → a.set ≡ address.set → HasNumbers shapes m a send.active (λ sender. sent_word operator (send.value sender)) → HaveBits 32 send
    → (to from : Elem) (old target : ℕ) → from.bits ≡ 32 → d.len ≡ to.bits → field_number m d target ≡ old
    → (combining shapes m (fold_of operator (is_signed from)) d to address a).value target ≡ received m.winner op to from send old target

-- So behind such a send the field has what the variable has behind it in the language.
abbrev pub OverwritingSendsStore : Type 0
OverwritingSendsStore =
    (shapes : List SetShape) (m : BitMemory) (args : List ℕ) (d address a : Field) (kind : Elem) (send : Send) (st : State) (x : Variable) → HasTargets shapes m address send
    → a.set ≡ address.set → HasNumbers shapes m a send.active send.value → HaveBits d.len send
    → m.winner ≡ st.winner → HasVariable shapes m d st x
    → (to from : Elem) → HasVariable shapes (after shapes (I.SendWithOverwrite d kind address a) args m) d (sent A.Set to from x send st) x

abbrev pub CombiningSendsStore : Type 0
CombiningSendsStore =
    (shapes : List SetShape) (m : BitMemory) (args : List ℕ) (d address a : Field) (send : Send) (st : State) (x : Variable) → HasTargets shapes m address send
    → (op : AssignOp) (operator : Op) → assign_op_of op ≡ Some operator → folds op ≡ true
    → a.set ≡ address.set → HasNumbers shapes m a send.active (λ sender. sent_word operator (send.value sender)) → HaveBits 32 send
    → m.winner ≡ st.winner → HasVariable shapes m d st x
    → (to from : Elem) → from.bits ≡ 32 → d.len ≡ to.bits
    → HasVariable shapes (after shapes (I.SendWithCombiner (fold_of operator (is_signed from)) d to address a) args m) d (sent op to from x send st) x
