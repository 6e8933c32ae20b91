-- Typed statements of alike parts need the same room and call the same instances.
use Rattle.std.proofs.Common.{◌≡◌, ℕ, ◌+◌, max, List, [], ◌∷◌, ◌++◌, map, Option, Some, None, refl, sym, ap, ap₂, ◌∙◌}
use Rattle.std.specs.List.{AllZip}
use Rattle.cstar_tree.specs.declared.typed.LocalVar.{LocalVar}
use Rattle.cstar_tree.specs.declared.typed.TExpr.{TExpr}
use Rattle.cstar_tree.specs.declared.typed.TStmt.{TStmt, map-TStmt, roll-TStmt}
use Rattle.cstar_tree.specs.declared.typed.TStmt.TheFolds.{fold-roll-TStmt}
use Rattle.cstar_tree.specs.declared.typed.TStmt.TheOpen.{TStmt-F}
use Rattle.cstar_tree.specs.Room.{ExpressionRoom, bits_of, expression_room, greatest, statement_room, statement_step}
use Rattle.cstar_tree.specs.TypedParts.{calls_in, calls_within, concat, optional, statement_call_step, total}
use Rattle.faultless_files.proofs.AlikeTrees.{AreAlike, parts_calls}

pub record StatementsAlike (t u : TStmt) : Type 0 where
  pub rooms : (shape : ℕ) → statement_room shape t ≡ statement_room shape u
  pub calls : calls_within t ≡ calls_within u

-- ---- the room and the calls of a statement, from those of its parts

pub record IsStatement (t : TStmt) (own : ℕ → ℕ) (es : List TExpr) (ss : List TStmt) : Type 0 where
  pub rooms_are : (shape : ℕ) → statement_room shape t ≡ own shape + max (greatest (map (expression_room shape) es)) (greatest (map (statement_room shape) ss))
  pub calls_are : calls_within t ≡ concat (map calls_in es) ++ concat (map calls_within ss)

pub by_node : (shape : ℕ) (x : TStmt-F TStmt) {s : TStmt} → roll-TStmt x ≡ s → statement_room shape s ≡ statement_step shape (map-TStmt TStmt ℕ (statement_room shape) x)
unfolding statement_room
by_node shape x is = ap (statement_room shape) (sym is) ∙ fold-roll-TStmt ℕ (statement_step shape) x

pub calls_by : (x : TStmt-F TStmt) {s : TStmt} → roll-TStmt x ≡ s → calls_within s ≡ statement_call_step (map-TStmt TStmt (List ℕ) calls_within x)
calls_by x is = ap calls_within (sym is) ∙ fold-roll-TStmt (List ℕ) statement_call_step x

-- ---- statements of alike parts

expression_rooms : (shape : ℕ) (ts us : List TExpr) → AllZip AreAlike ts us → map (expression_room shape) ts ≡ map (expression_room shape) us
unfolding expression_room
expression_rooms shape [] [] all = refl
expression_rooms shape [] (u ∷ us) all = absurd all
expression_rooms shape (t ∷ ts) [] all = absurd all
expression_rooms shape (t ∷ ts) (u ∷ us) all = ap₂ (λ (r : ℕ) (rs : List ℕ). r ∷ rs) (ap (λ (r : ExpressionRoom). r.value) (all.0.rooms shape)) (expression_rooms shape ts us all.1)

statement_rooms : (shape : ℕ) (ts us : List TStmt) → AllZip StatementsAlike ts us → map (statement_room shape) ts ≡ map (statement_room shape) us
statement_rooms shape [] [] all = refl
statement_rooms shape [] (u ∷ us) all = absurd all
statement_rooms shape (t ∷ ts) [] all = absurd all
statement_rooms shape (t ∷ ts) (u ∷ us) all = ap₂ (λ (r : ℕ) (rs : List ℕ). r ∷ rs) (all.0.rooms shape) (statement_rooms shape ts us all.1)

statement_calls : (ts us : List TStmt) → AllZip StatementsAlike ts us → map calls_within ts ≡ map calls_within us
statement_calls [] [] all = refl
statement_calls [] (u ∷ us) all = absurd all
statement_calls (t ∷ ts) [] all = absurd all
statement_calls (t ∷ ts) (u ∷ us) all = ap₂ (λ (c : List ℕ) (cs : List (List ℕ)). c ∷ cs) all.0.calls (statement_calls ts us all.1)

pub statement_alike : {t u : TStmt} {own other : ℕ → ℕ} {es fs : List TExpr} {ss rs : List TStmt} → ((shape : ℕ) → own shape ≡ other shape) → IsStatement t own es ss → IsStatement u other fs rs → AllZip AreAlike es fs → AllZip StatementsAlike ss rs → StatementsAlike t u
statement_alike {es = es} {fs = fs} {ss = ss} {rs = rs} same a b expressions statements = record {
  rooms = λ shape.
      a.rooms_are shape
      ∙ ap₂ (λ (n m : ℕ). n + m) (same shape) (ap₂ (λ (x y : List ℕ). max (greatest x) (greatest y)) (expression_rooms shape es fs expressions) (statement_rooms shape ss rs statements))
      ∙ sym (b.rooms_are shape);
  calls = a.calls_are ∙ ap₂ (λ (x y : List (List ℕ)). concat x ++ concat y) (parts_calls es fs expressions) (statement_calls ss rs statements) ∙ sym b.calls_are;
}

-- ---- variables of blocks

abbrev pub OptionsAlike : Option TExpr → Option TExpr → Type 0
OptionsAlike None None = Unit {0}
OptionsAlike None (Some u) = ⊥
OptionsAlike (Some t) None = ⊥
OptionsAlike (Some t) (Some u) = AreAlike t u

pub record LocalsAlike (l k : LocalVar) : Type 0 where
  pub info : l.info ≡ k.info
  pub initial : OptionsAlike l.initial k.initial

pub options_alike : (t u : Option TExpr) → OptionsAlike t u → AllZip AreAlike (optional t) (optional u)
options_alike None None all = tt
options_alike None (Some u) all = absurd all
options_alike (Some t) None all = absurd all
options_alike (Some t) (Some u) all = (all, tt)

pub both_alike : (ts us xs ys : List TExpr) → AllZip AreAlike ts us → AllZip AreAlike xs ys → AllZip AreAlike (ts ++ xs) (us ++ ys)
both_alike [] [] xs ys all more = more
both_alike [] (u ∷ us) xs ys all more = absurd all
both_alike (t ∷ ts) [] xs ys all more = absurd all
both_alike (t ∷ ts) (u ∷ us) xs ys all more = (all.0, both_alike ts us xs ys all.1 more)

abbrev pub initials : List LocalVar → List TExpr
initials locals = concat (map (λ (l : LocalVar). optional l.initial) locals)

abbrev pub block_bits : List LocalVar → ℕ → ℕ
block_bits locals shape = total (map (λ (l : LocalVar). bits_of shape l.info) locals)

pub initials_alike : (ls ks : List LocalVar) → AllZip LocalsAlike ls ks → AllZip AreAlike (initials ls) (initials ks)
unfolding concat
initials_alike [] [] all = tt
initials_alike [] (k ∷ ks) all = absurd all
initials_alike (l ∷ ls) [] all = absurd all
initials_alike (l ∷ ls) (k ∷ ks) all = both_alike (optional l.initial) (optional k.initial) (initials ls) (initials ks) (options_alike l.initial k.initial all.0.initial) (initials_alike ls ks all.1)

pub same_bits : (ls ks : List LocalVar) → AllZip LocalsAlike ls ks → (shape : ℕ) → block_bits ls shape ≡ block_bits ks shape
unfolding total
same_bits [] [] all shape = refl
same_bits [] (k ∷ ks) all shape = absurd all
same_bits (l ∷ ls) [] all shape = absurd all
same_bits (l ∷ ls) (k ∷ ks) all shape = ap₂ (λ (n m : ℕ). n + m) (ap (bits_of shape) all.0.info) (same_bits ls ks all.1 shape)

pub locals_append : (ls ks ms ns : List LocalVar) → AllZip LocalsAlike ls ks → AllZip LocalsAlike ms ns → AllZip LocalsAlike (ls ++ ms) (ks ++ ns)
locals_append [] [] ms ns all more = more
locals_append [] (k ∷ ks) ms ns all more = absurd all
locals_append (l ∷ ls) [] ms ns all more = absurd all
locals_append (l ∷ ls) (k ∷ ks) ms ns all more = (all.0, locals_append ls ks ms ns all.1 more)
