-- Behind a send a field has what the variable has behind it.
use Rattle.std.proofs.Common.{◌≡◌, ℕ, ◌<◌, ◌^◌, ◌%◌, true, ◌∙◌, sym, ap, subst, refl}
use Rattle.std.proofs.Math.Nat.{mod-eq_of_lt}
use Rattle.cstar_base.specs.declared.operators.Winner.{Winner}
use Rattle.cstar_tree.specs.declared.syntax.AssignOp.TheVariants as A
use Rattle.lower_base.specs.Operators.{fold_of, is_signed}
use Rattle.paris_code.specs.Meaning.{after}
use Rattle.paris_code.specs.Memory.{processors}
use Rattle.paris_code.specs.Sending.{combining, message_or_zero, overwriting, winning_sender}
use Rattle.source_meaning.specs.Sends.{is_sent_to, received, sent}
use Rattle.communication_laws.specs.Sends.{CombiningSendsStore, OverwritingSendsStore}
use Rattle.communication_laws.proofs.Sends.{combining_sends, folded_few, overwriting_sends, received_few, target_is}
use Rattle.communication_laws.proofs.Storing.{stores}

pub overwriting_sends_store : OverwritingSendsStore
unfolding after sent
overwriting_sends_store shapes m args d address a kind send st x h of numbers few winner holds to from q below all =
    stores (overwriting shapes m d address a) m st x (λ target. is_sent_to send target) (λ target. received st.winner A.Set to from send (st.parallel x 0 target) target) q
    (target_is shapes m address send h q) is (holds q below refl)
  where
    old : ℕ
    old = st.parallel x 0 q

    inside : (k : ℕ) → k < processors shapes a.set → k < send.count
    inside k b = subst (λ (n : ℕ). k < n) h.count (subst (λ (set : ℕ). k < processors shapes set) of b)

    small : is_sent_to send q ≡ true → received m.winner A.Set to from send old q < 2 ^ d.len
    small sent = received_few shapes m address send h q d.len few to from old sent

    is : is_sent_to send q ≡ true → message_or_zero m a (winning_sender shapes m address q) % 2 ^ d.len ≡ received st.winner A.Set to from send old q
    is sent =
        ap (λ n. n % 2 ^ d.len) (overwriting_sends shapes m d address a send d.len h of (λ k b on. numbers k b on ∙ sym (mod-eq_of_lt (few k (inside k b) on))) to from old q sent ∙ mod-eq_of_lt (small sent))
        ∙ mod-eq_of_lt (small sent) ∙ ap (λ (w : Winner). received w A.Set to from send old q) winner

pub combining_sends_store : CombiningSendsStore
unfolding after sent
combining_sends_store shapes m args d address a send st x h op operator is folding of numbers words winner holds to from wide long q below all =
    stores (combining shapes m (fold_of operator (is_signed from)) d to address a) m st x (λ target. is_sent_to send target) (λ target. received st.winner op to from send (st.parallel x 0 target) target) q
    (target_is shapes m address send h q)
    (λ sent. ap (λ n. n % 2 ^ d.len) (combining_sends shapes m d address a send h op operator is folding of numbers words to from (st.parallel x 0 q) q wide long (holds q below refl))
    ∙ mod-eq_of_lt (subst (λ (n : ℕ). received m.winner op to from send (st.parallel x 0 q) q < 2 ^ n) (sym long) (folded_few m.winner op to from send (st.parallel x 0 q) q folding))
    ∙ ap (λ (w : Winner). received w op to from send (st.parallel x 0 q) q) winner)
    (holds q below refl)
