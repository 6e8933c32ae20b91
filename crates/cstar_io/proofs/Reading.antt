-- What a source that reads ahead has left, where its reader tells its bytes.
use Rattle.std.proofs.Common.{◌≡◌, ℕ, suc, ◌+◌, ◌<◌, ◌≤◌, List, [], ◌∷◌, ◌++◌, take, drop, length, get_or, Option, Some, None, refl, sym, ◌∙◌, ap, subst, add-one, arith}
use Rattle.std.proofs.lemmas.List.{length-take, length-take-le, get_or-take}
use Rattle.std.proofs.Math.ListN.{drop_of_length-le}
use Rattle.std.proofs.Math.Seq.{drop-cons}
use Rattle.std.specs.Io.KnownBytes.{Consumes, Keeps, IsAtEnd}
use Rattle.cstar_io.specs.Input.{ahead}

-- nothing of a piece is left behind its end
pub spent : (piece : List ℕ) (end : ℕ) → drop end (take end piece) ≡ []
spent piece end = drop_of_length-le (take end piece) (omega (arith, length-take end piece))

-- a piece read is what the reader gave
pub piece_read : (old new : Option (List ℕ)) (piece read : List ℕ) (end count : ℕ) → Consumes old new (take count read) → Keeps (ahead piece end end old) (ahead read 0 count new)
piece_read None new piece read end count is = is
piece_read (Some p) None piece read end count is = absurd is
piece_read (Some p) (Some q) piece read end count is =
    sym is ∙ ap (λ xs. xs ++ p) (sym (spent piece end))

-- after a read that failed nothing is lost
pub piece_kept : (old new : Option (List ℕ)) (piece read : List ℕ) (end : ℕ) → Keeps old new → Keeps (ahead piece end end old) (ahead read end end new)
piece_kept None new piece read end is = is
piece_kept (Some p) None piece read end is = absurd is
piece_kept (Some p) (Some q) piece read end is =
    ap (λ xs. xs ++ q) (spent read end) ∙ is ∙ ap (λ xs. xs ++ p) (sym (spent piece end))

pub piece_first : (piece : List ℕ) (at end d : ℕ) → at < end → end ≤ length piece → drop at (take end piece) ≡ get_or piece at d ∷ drop (at + 1) (take end piece)
piece_first piece at end d inside fits =
    drop-cons (take end piece) at d (omega (arith, inside, length-take-le end piece fits))
    ∙ ap (λ x. x ∷ drop (suc at) (take end piece)) (get_or-take end piece at d inside)
    ∙ ap (λ n. get_or piece at d ∷ drop n (take end piece)) (sym (add-one at))

-- a byte out of a piece
pub piece_byte : (rest : Option (List ℕ)) (piece : List ℕ) (at end d : ℕ) → at < end → end ≤ length piece → Consumes (ahead piece at end rest) (ahead piece (at + 1) end rest) (get_or piece at d ∷ [])
piece_byte None piece at end d inside fits = tt
piece_byte (Some p) piece at end d inside fits =
    ap (λ xs. xs ++ p) (piece_first piece at end d inside fits)

-- which was read before
pub byte_after : (a b c : Option (List ℕ)) (xs : List ℕ) → Keeps a b → Consumes b c xs → Consumes a c xs
byte_after None b c xs first second = first
byte_after (Some p) None c xs first second = absurd first
byte_after (Some p) (Some q) None xs first second = absurd second
byte_after (Some p) (Some q) (Some r) xs first second = sym first ∙ second

-- what is left is kept where nothing changes
pub same_kept : (known : Option (List ℕ)) → Keeps known known
same_kept None = tt
same_kept (Some p) = refl

-- a byte out of a piece, after a fill that lost nothing
pub next_byte : (old rest : Option (List ℕ)) (piece : List ℕ) (at end byte : ℕ) → Keeps old (ahead piece at end rest) → at < end → end ≤ length piece → byte ≡ get_or piece at byte → Consumes old (ahead piece (at + 1) end rest) (byte ∷ [])
next_byte old rest piece at end byte kept inside fits is =
    subst (λ b. Consumes old (ahead piece (at + 1) end rest) (b ∷ [])) (sym is)
    (byte_after old (ahead piece at end rest) (ahead piece (at + 1) end rest) (get_or piece at byte ∷ []) kept
    (piece_byte rest piece at end byte inside fits))

-- at the end of a piece and of the reader nothing was left
pub end_reached : (old rest : Option (List ℕ)) (piece : List ℕ) (end : ℕ) → Keeps old (ahead piece end end rest) → IsAtEnd rest → IsAtEnd old
end_reached None rest piece end kept at_end = tt
end_reached (Some p) None piece end kept at_end = absurd kept
end_reached (Some p) (Some q) piece end kept at_end =
    sym kept ∙ ap (λ xs. xs ++ q) (spent piece end) ∙ at_end
