-- One more final of an element.
use Rattle.std.proofs.Common.{◌≡◌, ℕ, suc, ◌+◌, ◌-◌, ◌<◌, List, [], ◌∷◌, ◌++◌, length, refl, append_assoc, length-append, arith}
use Rattle.cstar_tree.specs.declared.typed.VarInfo.{VarInfo}
use Rattle.paris_code.specs.declared.program.Final.{Final}
use Rattle.lower_stmt.specs.Programs.{element_finals, final_name_of, final_of}

next_final : (info : VarInfo) (set n i number : ℕ) → i < n →
    element_finals info set (n - i) i number ≡ final_of info set i number ∷ element_finals info set (n - (i + 1)) (i + 1) (number + 1)
unfolding element_finals
next_final info set n i number below =
    let left : n - i ≡ suc (n - (i + 1)) = omega arith in
    rw left refl

pub final_is : (info : VarInfo) (set i number offset : ℕ) (name : List ℕ) → name ≡ final_name_of info i → offset ≡ number →
    let final : Final = record { name = name; elem = info.elem; field = record { set = set; offset = offset; len = info.elem.bits } } in
    final ≡ final_of info set i number
unfolding final_of
final_is info set i number offset name named numbered = rw (named, numbered) refl

pub one_more_final : (info : VarInfo) (set n i : ℕ) (before after : List Final) (final : Final) → i < n → after ≡ before ++ final ∷ [] →
    final ≡ final_of info set i (length before) →
    after ++ element_finals info set (n - (i + 1)) (i + 1) (length after) ≡ before ++ element_finals info set (n - i) i (length before)
one_more_final info set n i before after final below pushed same =
    let longer : length (before ++ final ∷ []) ≡ length before + 1 = omega (arith, length-append before (final ∷ [])) in
    let next = next_final info set n i (length before) below in
    rw (pushed, longer, next, ← same)
    (append_assoc before (final ∷ []) (element_finals info set (n - (i + 1)) (i + 1) (length before + 1)))
