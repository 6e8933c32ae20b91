-- How what is read one behind the other follows the verdict.
use Rattle.std.proofs.Common.{◌≡◌, ℕ, ◌+◌, ◌≤◌, ◌<◌, Bool, true, false, List, [], ◌∷◌, ◌++◌, ◌||◌, if◌then◌else◌, Option, Some, None, length, arith, refl, sym, ap, subst, ◌∙◌}
use Rattle.std.proofs.lemmas.Bool.{lt-ltb}
use Rattle.std.proofs.lemmas.List.{append_assoc}
use Rattle.std.proofs.lemmas.Option.{slice_get_past}
use Rattle.std.specs.Prelude.{nat_lt}
use Rattle.cstar_base.specs.declared.operators.Place.{Place}
use Rattle.cstar_tree.specs.declared.token.Token.{Token}
use Rattle.cstar_tree.specs.declared.token.Kind.{Kind}
use Rattle.cstar_tree.specs.declared.token.Kind.TheVariants as K
use Rattle.cstar_tree.specs.declared.token.Mark.{Mark}
use Rattle.cstar_tree.specs.declared.token.Mark.TheVariants as M
use Rattle.cstar_tree.specs.declared.syntax.Name.{Name}
use Rattle.cstar_tree.specs.declared.syntax.ShapeRef.{ShapeRef}
use Rattle.cstar_tree.specs.Types.{IsShape, current, named}
use Rattle.cstar_tree.specs.Positions.{Stands, token_kind}
use Rattle.grammar_parts.specs.Actions.{act, at_mark, has, type_words, width_words, IsReal}
use Rattle.grammar_parts.specs.Parts.{Part, Action, take_it, skip, refuse, before, levels}
use Rattle.grammar_parts.specs.Parts as P
use Rattle.grammar_parts.specs.Verdicts.{depth_at, is_deep, syntax_at, verdict_at}
use Rattle.grammar_parts.proofs.Judging.{beside, deepens, falls_beside, levels-append, opens_as, refuses, skips, takes}
use Rattle.grammar_parts.proofs.Words.{has_it, has_not, takes_mark}
use Rattle.cstar_parser.specs.declared.fault.ParseFault.{ParseFault}
use Rattle.cstar_parser.specs.declared.fault.ParseFault.TheVariants.{Syntax, Depth, Memory}
use Rattle.cstar_parser.specs.declared.spot.Spot.{Spot}
use Rattle.cstar_parser.specs.Fits.{Adds, Keeps, Opens}
use Rattle.cstar_parser.specs.Reading.{IsMark, IsName, IsRead, IsToken}
use Rattle.cstar_parser.specs.Following.{Blames, Falls, Goes, IsLevelTooMany, IsOperatorTooMany, IsOverfull, StopsAt}

-- ---- inside a whole expression

pub begin : {tokens : List Token} {around at n : ℕ} {parts : List Part} → Goes tokens around at n parts at n parts
begin = record { on = λ inside outside e. refl }

-- what is read next, of the parts that are open
pub behind : {tokens : List Token} {around within at n mid m to k : ℕ} {parts first left : List Part} (more : List Part) → Goes tokens within mid m first to k left → Goes tokens around at n parts mid m (first ++ more) → levels more + around ≡ within → Goes tokens around at n parts to k (left ++ more)
behind {tokens} {around} {within} {at} {n} {mid} {m} {to} {k} {parts} {first} {left} more g f e = record { on = λ inside outside h. f.on inside outside h ∙ beside tokens mid m to k around first left more (λ i o x. g.on i o (x ∙ e)) inside outside h }

-- one of them takes a token
pub taken_at : {tokens : List Token} {around at n mid m next k c : ℕ} {parts rest : List Part} {kind : Kind} {place : Place} (p : Part) (more : List Part) → Stands tokens mid kind place next → k ≡ m + c → k ≤ 1000 → act p (Some kind) ≡ take_it c rest → levels rest + (levels more + around) ≤ 100 → Goes tokens around at n parts mid m (p ∷ more) → Goes tokens around at n parts next k (rest ++ more)
taken_at {tokens} {around} {m = m} {next = next} {c = c} {rest = rest} p more s counted most is few f = record {
  on = λ inside outside h.
      let shown = levels-append more inside in
      f.on inside outside h ∙ takes p (more ++ inside) m outside s is (omega arith) (omega arith)
      ∙ ap (λ (list : List Part). verdict_at tokens next list (m + c) outside) (sym (append_assoc rest more inside))
      ∙ ap (λ (i : ℕ). verdict_at tokens next ((rest ++ more) ++ inside) i outside) (sym counted);
}

-- a mark, an operator, a name
pub marked : {tokens : List Token} {around at n : ℕ} {parts rest : List Part} {old new : Spot} {m : Mark} {place : Place} (p : Part) (more : List Part) → IsRead (IsMark m) Keeps tokens old place new → act p (Some (K.Mark m)) ≡ take_it 0 rest → levels rest + (levels more + around) ≤ 100 → Goes tokens around at n parts old.at old.operators (p ∷ more) → Goes tokens around at n parts new.at new.operators (rest ++ more)
marked {new = new} p more r is few f = let kept = r.fits in let most = new.few in taken_at p more r.spelled (omega arith) most is few f

pub bracketed : {tokens : List Token} {around open_levels at n : ℕ} {parts : List Part} {old new : Spot} {m : Mark} {place : Place} (more : List Part) → IsRead (IsMark m) (Opens open_levels) tokens old place new → levels more + around ≤ 100 → Goes tokens around at n parts old.at old.operators (P.mark m ∷ more) → Goes tokens around at n parts new.at new.operators more
bracketed {new = new} {m = m} more r few f = let kept = r.fits.1 in let most = new.few in taken_at (P.mark m) more r.spelled (omega arith) most (takes_mark m) (omega arith) f

pub operated : {tokens : List Token} {around at n : ℕ} {parts rest : List Part} {old new : Spot} {m : Mark} {place : Place} (p : Part) (more : List Part) → IsRead (IsMark m) (Adds 1) tokens old place new → act p (Some (K.Mark m)) ≡ take_it 1 rest → levels rest + (levels more + around) ≤ 100 → Goes tokens around at n parts old.at old.operators (p ∷ more) → Goes tokens around at n parts new.at new.operators (rest ++ more)
operated {new = new} p more r is few f = let most = new.few in taken_at p more r.spelled r.fits most is few f

-- a mark that was seen before
pub seen : {tokens : List Token} {around at n : ℕ} {parts rest : List Part} {old new : Spot} {place : Place} (m : Mark) (p : Part) (more : List Part) → token_kind tokens old.at ≡ Some (K.Mark m) → IsRead IsToken Keeps tokens old place new → act p (Some (K.Mark m)) ≡ take_it 0 rest → levels rest + (levels more + around) ≤ 100 → Goes tokens around at n parts old.at old.operators (p ∷ more) → Goes tokens around at n parts new.at new.operators (rest ++ more)
seen {new = new} m p more found r is few f = let kept = r.fits in let most = new.few in taken_at p more (r.spelled _ found) (omega arith) most is few f

pub name_read : {tokens : List Token} {around at n : ℕ} {parts rest : List Part} {old new : Spot} {name : Name} (p : Part) (more : List Part) → IsRead IsName Keeps tokens old name new → act p (Some (K.Name name.word)) ≡ take_it 0 rest → levels rest + (levels more + around) ≤ 100 → Goes tokens around at n parts old.at old.operators (p ∷ more) → Goes tokens around at n parts new.at new.operators (rest ++ more)
name_read {new = new} p more r is few f = let kept = r.fits in let most = new.few in taken_at p more r.spelled (omega arith) most is few f

-- one of them is skipped
pub skipped : {tokens : List Token} {around at n mid m : ℕ} {parts : List Part} (p : Part) (more : List Part) → act p (token_kind tokens mid) ≡ skip → Goes tokens around at n parts mid m (p ∷ more) → Goes tokens around at n parts mid m more
skipped {tokens} {mid = mid} {m = m} p more is f = record { on = λ inside outside h. f.on inside outside h ∙ skips tokens mid p (more ++ inside) m outside is }

-- one of them begins as another does, with more behind it
pub opened : {tokens : List Token} {around at n mid m : ℕ} {parts : List Part} (p first : Part) (rest more : List Part) → act p (token_kind tokens mid) ≡ before (act first (token_kind tokens mid)) rest → IsReal (act first (token_kind tokens mid)) → Goes tokens around at n parts mid m (p ∷ more) → Goes tokens around at n parts mid m (first ∷ rest ++ more)
opened {tokens} {mid = mid} {m = m} p first rest more is real f = record {
  on = λ inside outside h.
      f.on inside outside h ∙ opens_as tokens mid p first rest (more ++ inside) m outside is real
      ∙ ap (λ (list : List Part). verdict_at tokens mid (first ∷ list) m outside) (sym (append_assoc rest more inside));
}

-- the same where the token is known
pub turned : {tokens : List Token} {around at n mid m : ℕ} {parts : List Part} {kind : Kind} (p first : Part) (rest more : List Part) → token_kind tokens mid ≡ Some kind → act p (Some kind) ≡ before (act first (Some kind)) rest → IsReal (act first (Some kind)) → Goes tokens around at n parts mid m (p ∷ more) → Goes tokens around at n parts mid m (first ∷ rest ++ more)
turned p first rest more stands is real f = opened p first rest more
    (subst {0, 0} (λ (k : Option Kind). act p k ≡ before (act first k) rest) (sym stands) is) (subst {0, 0} (λ (k : Option Kind). IsReal (act first k)) (sym stands) real) f

shape_at : {tokens : List Token} {around at n mid m next k : ℕ} {parts : List Part} {shape : ShapeRef} (more : List Part) → IsShape tokens mid shape next → k ≡ m → k ≤ 1000 → levels more + around ≤ 100 → Goes tokens around at n parts mid m (P.shape ∷ more) → Goes tokens around at n parts next k more
shape_at more (named s) kept most few f = taken_at P.shape more s (omega arith) most refl (omega arith) f
shape_at more (current s) kept most few f = taken_at P.shape more s (omega arith) most refl (omega arith) f

-- the name of a shape, or `current`
pub shaped : {tokens : List Token} {around at n : ℕ} {parts : List Part} {old new : Spot} {shape : ShapeRef} (more : List Part) → IsRead IsShape Keeps tokens old shape new → levels more + around ≤ 100 → Goes tokens around at n parts old.at old.operators (P.shape ∷ more) → Goes tokens around at n parts new.at new.operators more
shaped {new = new} more r few f = let kept = r.fits in let most = new.few in shape_at more r.spelled kept most few f

-- ---- faults

pub stop : {tokens : List Token} {around within at n mid m : ℕ} {parts : List Part} (fault : ParseFault) (first more : List Part) → Blames tokens within mid m first fault → Goes tokens around at n parts mid m (first ++ more) → levels more + around ≡ within → Blames tokens around at n parts fault
stop {tokens} {around} {mid = mid} {m = m} (Syntax k) first more b f e = record { to = λ inside outside h. f.on inside outside h ∙ falls_beside tokens mid m (syntax_at k) around first more (λ i o x. b.to i o (x ∙ e)) inside outside h }
stop {tokens} {around} {mid = mid} {m = m} (Depth k) first more b f e = record { to = λ inside outside h. f.on inside outside h ∙ falls_beside tokens mid m (depth_at k) around first more (λ i o x. b.to i o (x ∙ e)) inside outside h }
stop Memory first more b f e = tt

refused_at : {tokens : List Token} {around at n mid m k : ℕ} {parts : List Part} (p : Part) (more : List Part) → k ≡ mid → act p (token_kind tokens mid) ≡ refuse → Goes tokens around at n parts mid m (p ∷ more) → Falls tokens around at n parts (syntax_at k)
refused_at {tokens} {mid = mid} {m = m} p more here is f = record { to = λ inside outside h. f.on inside outside h ∙ refuses tokens mid p (more ++ inside) m outside is ∙ ap syntax_at (sym here) }

pub deep_at : {tokens : List Token} {around at n mid m k c : ℕ} {parts next : List Part} {kind : Kind} (p : Part) (more : List Part) → k ≡ mid → token_kind tokens mid ≡ Some kind → act p (Some kind) ≡ take_it c next → ((inside outside : List Part) → levels inside + levels outside ≡ around → is_deep (record { inside = next ++ (more ++ inside); operators = m + c; outside = outside }) ≡ true) → Goes tokens around at n parts mid m (p ∷ more) → Falls tokens around at n parts (depth_at k)
deep_at {tokens} {mid = mid} {m = m} p more here stands is deep f = record { to = λ inside outside h. f.on inside outside h ∙ deepens tokens mid p (more ++ inside) m outside stands is (deep inside outside h) ∙ ap depth_at (sym here) }

or_true : (a b : Bool) → b ≡ true → a || b ≡ true
or_true true b e = refl
or_true false b e = e

-- at a token that has to stand there
pub refused : {tokens : List Token} {around at n mid m : ℕ} {parts : List Part} (fault : ParseFault) (p : Part) (more : List Part) → StopsAt tokens p ⊥ mid fault → Goes tokens around at n parts mid m (p ∷ more) → Blames tokens around at n parts fault
refused (Syntax k) p more s f = refused_at p more s.0 s.1 f
refused (Depth k) p more s f = absurd s.1
refused Memory p more s f = tt

-- at a bracket, which opens a level
pub unopened : {tokens : List Token} {around open_levels at n mid m : ℕ} {parts : List Part} (fault : ParseFault) (mark : Mark) (more : List Part) → StopsAt tokens (P.mark mark) (IsLevelTooMany tokens mark mid open_levels) mid fault → open_levels < levels more + around → Goes tokens around at n parts mid m (P.mark mark ∷ more) → Blames tokens around at n parts fault
unopened (Syntax k) mark more s above f = refused_at (P.mark mark) more s.0 s.1 f
unopened {around = around} {open_levels = open_levels} {m = m} (Depth k) mark more s above f = deep_at (P.mark mark) more s.0 s.1.0 (takes_mark mark)
    (λ inside outside h. let shown = levels-append more inside in let many = s.1.1 in ap (λ (b : Bool). b || nat_lt 1000 (m + 0)) (lt-ltb 100 (levels (more ++ inside) + levels outside) (omega arith))) f
unopened Memory mark more s above f = tt

-- at an operator
pub overfull : {tokens : List Token} {around at n mid m : ℕ} {parts rest : List Part} {kind : Kind} (fault : ParseFault) (p : Part) (more : List Part) → token_kind tokens mid ≡ Some kind → act p (Some kind) ≡ take_it 1 rest → IsOverfull mid m fault → Goes tokens around at n parts mid m (p ∷ more) → Blames tokens around at n parts fault
overfull (Syntax k) p more found is s f = absurd s
overfull {m = m} {rest = rest} (Depth k) p more found is s f = deep_at p more s.0 found is (λ inside outside h. let many = s.1 in or_true (nat_lt 100 (levels (rest ++ (more ++ inside)) + levels outside)) (nat_lt 1000 (m + 1)) (lt-ltb 1000 (m + 1) (omega arith))) f
overfull Memory p more found is s f = tt

pub takes_operator : (mark : Mark) → act (P.operator mark) (Some (K.Mark mark)) ≡ take_it 1 []
takes_operator mark = ap (λ (b : Bool). if b then take_it 1 [] else refuse) (has_it mark)

-- at an operator that has to stand there
pub unwritten : {tokens : List Token} {around at n mid m : ℕ} {parts : List Part} (fault : ParseFault) (mark : Mark) (more : List Part) → StopsAt tokens (P.operator mark) (IsOperatorTooMany tokens mark mid m) mid fault → Goes tokens around at n parts mid m (P.operator mark ∷ more) → Blames tokens around at n parts fault
unwritten (Syntax k) mark more s f = refused_at (P.operator mark) more s.0 s.1 f
unwritten (Depth k) mark more s f = overfull (Depth k) (P.operator mark) more s.1.0 (takes_operator mark) (s.0, s.1.1) f
unwritten Memory mark more s f = tt

-- a mark that has to stand there and does not
pub not_mark : (kind : Option Kind) (mark : Mark) → (kind ≡ Some (K.Mark mark) → ⊥) → act (P.mark mark) kind ≡ refuse
not_mark kind mark not = ap (λ (b : Bool). if b then take_it 0 [] else refuse) (has_not kind mark not)

pub no_operator : (kind : Option Kind) (mark : Mark) → (kind ≡ Some (K.Mark mark) → ⊥) → act (P.operator mark) kind ≡ refuse
no_operator kind mark not = ap (λ (b : Bool). if b then take_it 1 [] else refuse) (has_not kind mark not)

pub no_int : (kind : Option Kind) → (kind ≡ Some (K.Mark M.Int) → ⊥) → act P.int_or_none kind ≡ skip
no_int kind not = ap (λ (b : Bool). if b then take_it 0 [] else skip) (has_not kind M.Int not)

pub no_colon : (kind : Option Kind) → (kind ≡ Some (K.Mark M.Colon) → ⊥) → act P.shape_or_none kind ≡ skip
no_colon kind not = ap (λ (b : Bool). if b then take_it 1 (P.shape ∷ []) else skip) (has_not kind M.Colon not)

-- nothing stands behind the last token
pub nothing_behind : (tokens : List Token) (at : ℕ) → length tokens ≤ at → token_kind tokens at ≡ None
unfolding token_kind
nothing_behind tokens at past = rw (slice_get_past tokens at past)

-- no text goes on with what stands here
pub hopeless : {tokens : List Token} {around at n mid m : ℕ} {parts : List Part} (p : Part) (more : List Part) → act p (token_kind tokens mid) ≡ refuse → Goes tokens around at n parts mid m (p ∷ more) → Falls tokens around at n parts (syntax_at mid)
hopeless p more is f = refused_at p more refl is f

-- no mark stands there
pub no_mark : (marks : Mark → Action) (other : Action) (kind : Option Kind) → ((mark : Mark) → kind ≡ Some (K.Mark mark) → ⊥) → at_mark marks other kind ≡ other
no_mark marks other (Some (K.Mark mark)) none = absurd (none mark refl)
no_mark marks other (Some (K.Name word)) none = refl
no_mark marks other (Some (K.Num value unsigned)) none = refl
no_mark marks other (Some (K.Text text)) none = refl
no_mark marks other None none = refl

-- a mark that no type begins with
pub no_type_word : (mark : Mark) → (mark ≡ M.Bool → ⊥) → (mark ≡ M.Signed → ⊥) → (mark ≡ M.Unsigned → ⊥) → width_words mark ≡ skip → type_words mark ≡ refuse
no_type_word M.Bool a b c w = absurd (a refl)
no_type_word M.Signed a b c w = absurd (b refl)
no_type_word M.Unsigned a b c w = absurd (c refl)
no_type_word M.Char a b c w = cc
no_type_word M.Short a b c w = cc
no_type_word M.Int a b c w = cc
no_type_word M.Long a b c w = cc
no_type_word other a b c w = refl

pub no_direction : (kind : Option Kind) → ((mark : Mark) → kind ≡ Some (K.Mark mark) → ⊥) → act P.direction kind ≡ refuse
no_direction (Some (K.Mark mark)) none = absurd (none mark refl)
no_direction (Some (K.Name word)) none = refl
no_direction (Some (K.Num value unsigned)) none = refl
no_direction (Some (K.Text text)) none = refl
no_direction None none = refl

pub no_inclusion : (kind : Option Kind) → ((mark : Mark) → kind ≡ Some (K.Mark mark) → ⊥) → act P.inclusion kind ≡ refuse
no_inclusion (Some (K.Mark mark)) none = absurd (none mark refl)
no_inclusion (Some (K.Name word)) none = refl
no_inclusion (Some (K.Num value unsigned)) none = refl
no_inclusion (Some (K.Text text)) none = refl
no_inclusion None none = refl

real_operator : (b : Bool) → IsReal (if b then take_it 1 [] else refuse)
real_operator true = tt
real_operator false = tt

-- `&` and a name, where `CMC_no_field` does not stand
pub bit_named : (kind : Option Kind) → (kind ≡ Some (K.Mark M.NoField) → ⊥) → act P.bit kind ≡ before (act (P.operator M.Ampersand) kind) (P.name ∷ [])
bit_named kind not = ap (λ (b : Bool). if b then take_it 0 [] else if has kind M.Ampersand then take_it 1 (P.name ∷ []) else refuse) (has_not kind M.NoField not) ∙ by (has kind M.Ampersand) where
  by : (b : Bool) → (if b then take_it 1 (P.name ∷ []) else refuse) ≡ before (if b then take_it 1 [] else refuse) (P.name ∷ [])
  by true = refl
  by false = refl

pub operator_real : (kind : Option Kind) (mark : Mark) → IsReal (act (P.operator mark) kind)
operator_real kind mark = real_operator (has kind mark)
