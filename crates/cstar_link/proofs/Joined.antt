-- One more unit behind the others.
use Rattle.std.proofs.Common.{◌≡◌, ℕ, ◌+◌, List, [], ◌∷◌, ◌++◌, length, map, sym, ap, ◌∙◌, arith, append_assoc, append-nil}
use Rattle.std.proofs.lemmas.List.{length-map, length-append}
use Rattle.paris_code.specs.declared.program.Unit.{Unit}
use Rattle.paris_code.specs.declared.program.Entry.{Entry}
use Rattle.paris_code.specs.declared.instr.Instr.{Instr}
use Rattle.cstar_link.specs.Linked.{moved_by, code_from, entries_from}

-- the code of a unit that begins at n
abbrev moved_code : ℕ → Unit → List Instr
moved_code n u = map (moved_by n) u.code.items

-- the entry of a unit that begins at n
abbrev entry_at : ℕ → Unit → Entry
entry_at n u = record { name = u.name; start = n }

-- where the unit behind these begins
next_start : (start : ℕ) (v : Unit) (rest : List Instr) → (start + length v.code.items) + length rest ≡ start + length (map (moved_by start) v.code.items ++ rest)
next_start start v rest = simp (length-append, length-map) (omega arith)

pub code_from-snoc : (start : ℕ) (us : List Unit) (u : Unit) → code_from start (us ++ u ∷ []) ≡ code_from start us ++ map (moved_by (start + length (code_from start us))) u.code.items
unfolding code_from
code_from-snoc start [] u = append-nil (moved_code start u) ∙ ap (λ n. moved_code n u) (let e : start ≡ start + 0 = omega arith in e)
code_from-snoc start (v ∷ us) u =
    let next = start + length v.code.items in
    let here = map (moved_by start) v.code.items in
    ap (λ rest. here ++ rest) (code_from-snoc next us u)
    ∙ sym (append_assoc here (code_from next us) (moved_code (next + length (code_from next us)) u))
    ∙ ap (λ n. (here ++ code_from next us) ++ moved_code n u) (next_start start v (code_from next us))

pub entries_from-snoc : (start : ℕ) (us : List Unit) (u : Unit) → entries_from start (us ++ u ∷ []) ≡ entries_from start us ++ record { name = u.name; start = start + length (code_from start us) } ∷ []
unfolding code_from entries_from
entries_from-snoc start [] u = ap (λ n. entry_at n u ∷ []) (let e : start ≡ start + 0 = omega arith in e)
entries_from-snoc start (v ∷ us) u =
    let next = start + length v.code.items in
    ap (λ rest. entry_at start v ∷ rest)
    (entries_from-snoc next us u ∙ ap (λ n. entries_from next us ++ entry_at n u ∷ []) (next_start start v (code_from next us)))

-- the code of all units so far, and one more
pub joined : (us : List Unit) (u : Unit) (code : List Instr) → code ≡ code_from 0 us → code ++ map (moved_by (length code)) u.code.items ≡ code_from 0 (us ++ u ∷ [])
joined us u code is =
    let same : length (code_from 0 us) ≡ 0 + length (code_from 0 us) = omega arith in
    ap (λ (c : List Instr). c ++ moved_code (length c) u) is
    ∙ ap (λ n. code_from 0 us ++ moved_code n u) same
    ∙ sym (code_from-snoc 0 us u)

-- the entries of all units so far, and one more
pub listed : (us : List Unit) (u : Unit) (code : List Instr) (entries : List Entry) → code ≡ code_from 0 us → entries ≡ entries_from 0 us → entries ++ record { name = u.name; start = length code } ∷ [] ≡ entries_from 0 (us ++ u ∷ [])
listed us u code entries is these =
    let same : length (code_from 0 us) ≡ 0 + length (code_from 0 us) = omega arith in
    ap (λ (es : List Entry). es ++ entry_at (length code) u ∷ []) these
    ∙ ap (λ n. entries_from 0 us ++ entry_at n u ∷ []) (ap length is ∙ same)
    ∙ sym (entries_from-snoc 0 us u)
