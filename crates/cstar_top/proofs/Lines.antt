-- What a sink that took a whole line took of it.
use Rattle.std.proofs.Common.{◌≡◌, ◌<◌, ℕ, List, ◌++◌, ◌⊎◌, inl, inr, length, take, sym, ◌∙◌, subst, codes, refl, arith}
use Rattle.std.proofs.Math.Seq.{take-length}
use Rattle.cstar_top.specs.declared.answer.Answer.{Answer}
use Rattle.cstar_top.specs.declared.answer.Answer.TheVariants as A
use Rattle.cstar_top.specs.Answers.{line_of, status_of}
use Rattle.cstar_io.specs.Output.{Takes, TakesPrefix, TakesNothing}

-- all of the bytes, and then nothing, are a prefix of them
pub prefix_of_whole : {S : Type 0} → (agrees : S → List ℕ → Type 0) (s t u : S) (xs : List ℕ) → Takes agrees s t xs → TakesNothing agrees t u → TakesPrefix agrees s u xs
prefix_of_whole agrees s t u xs all nothing =
    (length xs, λ before is. nothing (before ++ take (length xs) xs) (subst (λ zs. agrees t (before ++ zs)) (sym (take-length xs)) (all before is)))

-- the line of want of memory
pub memory_line : (file : List ℕ) (answer : Answer) → status_of answer ≡ 8 → line_of file answer ≡ codes "out of memory\n"
unfolding line_of
memory_line file A.Done e = absurd (omega arith)
memory_line file (A.Fault fault place position) e = absurd (omega arith)
memory_line file A.Usage e = absurd (omega arith)
memory_line file (A.Refused fault place) e = absurd (omega arith)
memory_line file (A.Stopped turns) e = absurd (omega arith)
memory_line file A.CannotRead e = absurd (omega arith)
memory_line file A.WriteFault e = absurd (omega arith)
memory_line file A.InputFault e = absurd (omega arith)
memory_line file A.Memory e = refl
memory_line file A.CannotSave e = absurd (omega arith)

-- a status below 6 is the answer's
pub status_is : (n r s : ℕ) → n < 6 → (r ≡ s) ⊎ ((r ≡ 6) ⊎ (r ≡ 8)) → r ≡ n → s ≡ n
status_is n r s below (inl same) is = sym same ∙ is
status_is n r s below (inr (inl six)) is = absurd (omega arith)
status_is n r s below (inr (inr eight)) is = absurd (omega arith)
