-- How statements, declarations and items that are read follow the verdict.
use Rattle.std.proofs.Common.{◌≡◌, ℕ, ◌+◌, ◌≤◌, Bool, true, false, List, [], ◌∷◌, ◌++◌, ◌||◌, ◌&&◌, if◌then◌else◌, Option, Some, None, Result, Ok, Err, arith, refl, sym, ap, subst, ◌∙◌}
use Rattle.std.proofs.lemmas.Bool.{le-ltb, lt-ltb}
use Rattle.std.proofs.lemmas.List.{append-nil, append_assoc}
use Rattle.std.specs.Prelude.{nat_lt}
use Rattle.cstar_base.specs.declared.operators.Place.{Place}
use Rattle.cstar_tree.specs.declared.token.Token.{Token}
use Rattle.cstar_tree.specs.declared.token.Kind.{Kind}
use Rattle.cstar_tree.specs.declared.token.Kind.TheVariants as K
use Rattle.cstar_tree.specs.declared.token.Mark.{Mark}
use Rattle.cstar_tree.specs.declared.token.Mark.TheVariants as M
use Rattle.cstar_tree.specs.declared.syntax.Name.{Name}
use Rattle.cstar_tree.specs.declared.syntax.ShapeRef.{ShapeRef}
use Rattle.cstar_tree.specs.Types.{IsShape, current, named}
use Rattle.std.specs.List.{slice_get}
use Rattle.std.specs.Option.{option_map}
use Rattle.cstar_tree.specs.Positions.{Stands, token_kind, token_place}
use Rattle.grammar_parts.specs.Actions.{IsReal, IsStart, act, at_end, at_name, has, header, more_names_action, statement_action, statement_marks, type_action, unary_action, unary_marks}
use Rattle.grammar_parts.specs.Parts.{Part, Action, take_it, enter, skip, refuse, before, is_taken, levels}
use Rattle.grammar_parts.specs.Parts as P
use Rattle.grammar_parts.specs.Readings.{is_skipped, kinds_from, may_end}
use Rattle.grammar_parts.specs.Verdicts.{State, Verdict, around, depth_at, entering, inner_step, is_deep, outer_step, read, syntax_at, verdict, verdict_at, verdict_on, within}
use Rattle.grammar_parts.proofs.Judging.{levels-append, refuses}
use Rattle.grammar_parts.proofs.Reaching.{kinds_at, kinds_end, none_is}
use Rattle.grammar_parts.proofs.Words.{false-true, has_it, has_not, takes_mark}
use Rattle.cstar_parser.specs.declared.fault.ParseFault.{ParseFault}
use Rattle.cstar_parser.specs.declared.fault.ParseFault.TheVariants.{Syntax, Depth, Memory}
use Rattle.cstar_parser.specs.declared.spot.Spot.{Spot}
use Rattle.cstar_parser.specs.Fits.{Keeps}
use Rattle.cstar_parser.specs.Reading.{IsMark, IsName, IsRead}
use Rattle.cstar_parser.specs.Following.{Blames, Goes, StopsAt}
use Rattle.cstar_parser.specs.Heads.{word_of_branch}
use Rattle.cstar_parser.specs.Outside.{Accuses, Fails, IsVerdictFault, Passes, Traces, begins_statement, is_branch, is_jump}

-- ---- the verdict where no expression is open

-- operators are forgotten there
forget : (tokens : List Token) (at n : ℕ) (outside : List Part) → verdict_at tokens at [] n outside ≡ verdict_at tokens at [] 0 outside
unfolding verdict_at verdict inner_step
forget tokens at n outside = by (kinds_from tokens at) where
  by : (kinds : List Kind) → verdict kinds at (record { inside = []; operators = n; outside = outside }) ≡ verdict kinds at (record { inside = []; operators = 0; outside = outside })
  by [] = refl
  by (kind ∷ kinds) = refl

judgement : List Kind → ℕ → Option State → Verdict
judgement kinds at o = elim o [ None ↦ syntax_at at | Some t ↦ if is_deep t then depth_at at else verdict kinds (at + 1) t ]

judged : (tokens : List Token) (at : ℕ) (kind : Kind) (inside : List Part) (outside : List Part) (o : Option State) → token_kind tokens at ≡ Some kind → inner_step inside 0 outside kind ≡ o → verdict_at tokens at inside 0 outside ≡ judgement (kinds_from tokens (at + 1)) at o
unfolding verdict_at verdict judgement
judged tokens at kind inside outside o h e = ap (λ (kinds : List Kind). verdict kinds at (record { inside = inside; operators = 0; outside = outside })) (kinds_at tokens at kind h) ∙ ap (judgement (kinds_from tokens (at + 1)) at) e

judged_end : (tokens : List Token) (at : ℕ) (inside : List Part) (outside : List Part) (b : Bool) → token_kind tokens at ≡ None → may_end (inside ++ outside) ≡ b → verdict_at tokens at inside 0 outside ≡ (if b then read else syntax_at at)
unfolding verdict_at verdict
judged_end tokens at inside outside b h e = ap (λ (kinds : List Kind). verdict kinds at (record { inside = inside; operators = 0; outside = outside })) (kinds_end tokens at h) ∙ ap (λ (b : Bool). if b then read else syntax_at at) e

-- two states that do the same at what stands here
alike : (tokens : List Token) (at : ℕ) (parts outside others beside : List Part) → ((kind : Kind) → token_kind tokens at ≡ Some kind → inner_step parts 0 outside kind ≡ inner_step others 0 beside kind) → (token_kind tokens at ≡ None → may_end (parts ++ outside) ≡ may_end (others ++ beside)) → verdict_at tokens at parts 0 outside ≡ verdict_at tokens at others 0 beside
alike tokens at parts outside others beside some none = by (token_kind tokens at) refl where
  by : (kind : Option Kind) → token_kind tokens at ≡ kind → verdict_at tokens at parts 0 outside ≡ verdict_at tokens at others 0 beside
  by (Some kind) h = judged tokens at kind parts outside _ h (some kind h) ∙ sym (judged tokens at kind others beside _ h refl)
  by None h = judged_end tokens at parts outside _ h (none h) ∙ sym (judged_end tokens at others beside _ h refl)

step_around : (p : Part) (kind : Kind) (outside : List Part) {action : Action} → act p (Some kind) ≡ action → inner_step [] 0 (p ∷ outside) kind ≡ around action kind outside (inner_step [] 0 outside kind)
unfolding inner_step outer_step
step_around p kind outside is = ap (λ (a : Action). around a kind outside (outer_step outside kind)) is

step_within : (q : Part) (kind : Kind) (outside : List Part) → inner_step (q ∷ []) 0 outside kind ≡ within (act q (Some kind)) kind [] 0 outside (inner_step [] 0 outside kind)
unfolding inner_step
step_within q kind outside = refl

shallow : (b : Bool) (at : ℕ) (v : Verdict) → b ≡ false → (if b then depth_at at else v) ≡ v
shallow b at v e = ap (λ (x : Bool). if x then depth_at at else v) e

takes : {tokens : List Token} {at next c : ℕ} {kind : Kind} {place : Place} {parts : List Part} (p : Part) (outside : List Part) → Stands tokens at kind place next → act p (Some kind) ≡ take_it c parts → levels parts + levels outside ≤ 100 → verdict_at tokens at [] 0 (p ∷ outside) ≡ verdict_at tokens next [] 0 (parts ++ outside)
unfolding judgement verdict_at
takes {tokens} {at} {c = c} {kind = kind} {parts = parts} p outside s is few =
    judged tokens at kind [] (p ∷ outside) _ s.kind_is (step_around p kind outside is)
    ∙ shallow _ at _ (ap (λ (b : Bool). b || nat_lt 1000 0) (le-ltb 100 (levels [] + levels (parts ++ outside)) (let e = levels-append parts outside in omega arith)) ∙ le-ltb 1000 0 (omega arith))
    ∙ ap (λ (i : ℕ). verdict_at tokens i [] 0 (parts ++ outside)) (sym s.next_is)

deepens : (tokens : List Token) (at : ℕ) (kind : Kind) (parts : List Part) (outside : List Part) (t : State) → token_kind tokens at ≡ Some kind → inner_step parts 0 outside kind ≡ Some t → is_deep t ≡ true → verdict_at tokens at parts 0 outside ≡ depth_at at
unfolding judgement
deepens tokens at kind parts outside t stands is deep = judged tokens at kind parts outside _ stands is ∙ ap (λ (b : Bool). if b then depth_at at else verdict (kinds_from tokens (at + 1)) (at + 1) t) deep

skips : (tokens : List Token) (at : ℕ) (p : Part) (outside : List Part) → act p (token_kind tokens at) ≡ skip → verdict_at tokens at [] 0 (p ∷ outside) ≡ verdict_at tokens at [] 0 outside
unfolding may_end
skips tokens at p outside is = alike tokens at [] (p ∷ outside) [] outside (λ kind h. step_around p kind outside (sym (ap (act p) h) ∙ is)) (λ h. ap (λ (a : Action). is_skipped a && may_end outside) (sym (ap (act p) h) ∙ is))

turns_down : (tokens : List Token) (at : ℕ) (p : Part) (outside : List Part) → act p (token_kind tokens at) ≡ refuse → verdict_at tokens at [] 0 (p ∷ outside) ≡ syntax_at at
unfolding may_end judgement
turns_down tokens at p outside is = by (token_kind tokens at) refl where
  by : (kind : Option Kind) → token_kind tokens at ≡ kind → verdict_at tokens at [] 0 (p ∷ outside) ≡ syntax_at at
  by (Some kind) h = judged tokens at kind [] (p ∷ outside) _ h (step_around p kind outside (sym (ap (act p) h) ∙ is))
  by None h = judged_end tokens at [] (p ∷ outside) _ h (ap (λ (a : Action). is_skipped a && may_end outside) (sym (ap (act p) h) ∙ is))

-- a part that begins as another does, behind which more is wanted
opens_as : (tokens : List Token) (at : ℕ) (p q : Part) (parts outside : List Part) → act p (token_kind tokens at) ≡ before (act q (token_kind tokens at)) parts → IsReal (act q (token_kind tokens at)) → verdict_at tokens at [] 0 (p ∷ outside) ≡ verdict_at tokens at [] 0 (q ∷ parts ++ outside)
unfolding may_end
opens_as tokens at p q parts outside is real = alike tokens at [] (p ∷ outside) [] (q ∷ parts ++ outside)
    (λ kind h. step_around p kind outside (subst {0, 0} (λ (k : Option Kind). act p k ≡ before (act q k) parts) h is) ∙ both kind (act q (Some kind)) (subst {0, 0} (λ (k : Option Kind). IsReal (act q k)) h real) ∙ sym (step_around q kind (parts ++ outside) refl))
    (λ h. ap (λ (a : Action). is_skipped a && may_end outside) (subst {0, 0} (λ (k : Option Kind). act p k ≡ before (act q k) parts) h is) ∙ ends (act q None) (subst {0, 0} (λ (k : Option Kind). IsReal (act q k)) h real)) where
      both : (kind : Kind) (a : Action) → IsReal a → around (before a parts) kind outside (inner_step [] 0 outside kind) ≡ around a kind (parts ++ outside) (inner_step [] 0 (parts ++ outside) kind)
      both kind (take_it c qs) r = ap (λ (list : List Part). Some (record { inside = []; operators = 0; outside = list })) (append_assoc qs parts outside)
      both kind refuse r = refl
      both kind skip r = absurd r
      both kind (enter r rs) h = ap (entering (act r (Some kind))) (append_assoc rs parts outside)

      ends : (a : Action) → IsReal a → is_skipped (before a parts) && may_end outside ≡ is_skipped a && may_end (parts ++ outside)
      ends (take_it c qs) r = refl
      ends refuse r = refl
      ends skip r = absurd r
      ends (enter q qs) r = refl

-- a whole expression or type begins
enters : (tokens : List Token) (at : ℕ) (p q : Part) (parts outside : List Part) → act p (token_kind tokens at) ≡ enter q parts → IsStart (act q (token_kind tokens at)) → verdict_at tokens at [] 0 (p ∷ outside) ≡ verdict_at tokens at (q ∷ []) 0 (parts ++ outside)
unfolding may_end
enters tokens at p q parts outside is start = alike tokens at [] (p ∷ outside) (q ∷ []) (parts ++ outside)
    (λ kind h. step_around p kind outside (sym (ap (act p) h) ∙ is) ∙ both kind (act q (Some kind)) (subst {0, 0} (λ (k : Option Kind). IsStart (act q k)) h start) ∙ sym (step_within q kind (parts ++ outside)))
    (λ h. ap (λ (a : Action). is_skipped a && may_end outside) (sym (ap (act p) h) ∙ is) ∙ ends (act q None) (subst {0, 0} (λ (k : Option Kind). IsStart (act q k)) h start)) where
      both : (kind : Kind) (a : Action) → IsStart a → entering a (parts ++ outside) ≡ within a kind [] 0 (parts ++ outside) (inner_step [] 0 (parts ++ outside) kind)
      both kind (take_it c qs) s =
          let none : c ≡ 0 + c = omega arith in
          ap (λ (list : List Part). Some (record { inside = list; operators = c; outside = parts ++ outside })) (sym (append-nil qs)) ∙ ap (λ (i : ℕ). Some (record { inside = qs ++ []; operators = i; outside = parts ++ outside })) none
      both kind refuse s = refl
      both kind skip s = absurd s
      both kind (enter r rs) s = absurd s

      ends : (a : Action) → IsStart a → false ≡ is_skipped a && may_end (parts ++ outside)
      ends (take_it c qs) s = refl
      ends refuse s = refl
      ends skip s = absurd s
      ends (enter q qs) s = absurd s

-- ---- steps

pub begin_outside : {tokens : List Token} {around at : ℕ} {parts : List Part} → Passes tokens around at parts at parts
begin_outside = record { on = λ outside h. refl }

beside : (tokens : List Token) (at to open_levels : ℕ) (parts left more : List Part) → Passes tokens (levels more + open_levels) at parts to left → (outside : List Part) → levels outside ≡ open_levels → verdict_at tokens at [] 0 ((parts ++ more) ++ outside) ≡ verdict_at tokens to [] 0 ((left ++ more) ++ outside)
beside tokens at to open_levels parts left more g outside e =
    ap (λ (list : List Part). verdict_at tokens at [] 0 list) (append_assoc parts more outside)
    ∙ g.on (more ++ outside) (omega (arith, levels-append more outside)) ∙ ap (λ (list : List Part). verdict_at tokens to [] 0 list) (sym (append_assoc left more outside))

fails_beside : (tokens : List Token) (at open_levels : ℕ) (parts more : List Part) (v : Verdict) → Fails tokens (levels more + open_levels) at parts v → (outside : List Part) → levels outside ≡ open_levels → verdict_at tokens at [] 0 ((parts ++ more) ++ outside) ≡ v
fails_beside tokens at open_levels parts more v g outside e =
    ap (λ (list : List Part). verdict_at tokens at [] 0 list) (append_assoc parts more outside) ∙ g.to (more ++ outside) (omega (arith, levels-append more outside))

pub behind_outside : {tokens : List Token} {around within at mid to : ℕ} {parts first left : List Part} (more : List Part) → Passes tokens within mid first to left → Passes tokens around at parts mid (first ++ more) → levels more + around ≡ within → Passes tokens around at parts to (left ++ more)
behind_outside {tokens} {around} {mid = mid} {to = to} {first = first} {left = left} more g f e = record { on = λ outside h. f.on outside h ∙ beside tokens mid to around first left more (rw e g) outside h }

pub stop_outside : {tokens : List Token} {around within at mid : ℕ} {parts : List Part} (fault : ParseFault) (first more : List Part) → Accuses tokens within mid first fault → Passes tokens around at parts mid (first ++ more) → levels more + around ≡ within → Accuses tokens around at parts fault
stop_outside {tokens} {around} {mid = mid} (Syntax k) first more b f e = record { to = λ outside h. f.on outside h ∙ fails_beside tokens mid around first more (syntax_at k) (rw e b) outside h }
stop_outside {tokens} {around} {mid = mid} (Depth k) first more b f e = record { to = λ outside h. f.on outside h ∙ fails_beside tokens mid around first more (depth_at k) (rw e b) outside h }
stop_outside Memory first more b f e = tt

-- what is read last
pub last_outside : {A : Type 0} {tokens : List Token} {around within : ℕ} {parts : List Part} (first left more : List Part) (old mid new : Spot) (result : Result A ParseFault) → Traces tokens within first left mid new result → Passes tokens around old.at parts mid.at (first ++ more) → levels more + around ≡ within → Traces tokens around parts (left ++ more) old new result
last_outside first left more old mid new (Ok part) g f e = behind_outside more g f e
last_outside first left more old mid new (Err fault) b f e = stop_outside fault first more b f e

-- an open part takes a token
taken_outside : {tokens : List Token} {around at mid next c : ℕ} {parts rest : List Part} {kind : Kind} {place : Place} (p : Part) (more : List Part) → Stands tokens mid kind place next → act p (Some kind) ≡ take_it c rest → levels rest + (levels more + around) ≤ 100 → Passes tokens around at parts mid (p ∷ more) → Passes tokens around at parts next (rest ++ more)
taken_outside {tokens} {around} {next = next} {rest = rest} p more s is few f = record {
  on = λ outside h.
      let shown = levels-append more outside in
      f.on outside h ∙ takes p (more ++ outside) s is (omega arith) ∙ ap (λ (list : List Part). verdict_at tokens next [] 0 list) (sym (append_assoc rest more outside));
}

pub marked_outside : {tokens : List Token} {around at : ℕ} {parts rest : List Part} {old new : Spot} {m : Mark} {place : Place} (p : Part) (more : List Part) → IsRead (IsMark m) Keeps tokens old place new → act p (Some (K.Mark m)) ≡ take_it 0 rest → levels rest + (levels more + around) ≤ 100 → Passes tokens around at parts old.at (p ∷ more) → Passes tokens around at parts new.at (rest ++ more)
marked_outside p more r is few f = taken_outside p more r.spelled is few f

pub name_outside : {tokens : List Token} {around at : ℕ} {parts rest : List Part} {old new : Spot} {name : Name} (p : Part) (more : List Part) → IsRead IsName Keeps tokens old name new → act p (Some (K.Name name.word)) ≡ take_it 0 rest → levels rest + (levels more + around) ≤ 100 → Passes tokens around at parts old.at (p ∷ more) → Passes tokens around at parts new.at (rest ++ more)
name_outside p more r is few f = taken_outside p more r.spelled is few f

shape_at : {tokens : List Token} {around at mid next : ℕ} {parts : List Part} {shape : ShapeRef} (more : List Part) → IsShape tokens mid shape next → levels more + around ≤ 100 → Passes tokens around at parts mid (P.shape ∷ more) → Passes tokens around at parts next more
shape_at more (named s) few f = taken_outside P.shape more s refl (omega arith) f
shape_at more (current s) few f = taken_outside P.shape more s refl (omega arith) f

pub shaped_outside : {tokens : List Token} {around at : ℕ} {parts : List Part} {old new : Spot} {shape : ShapeRef} (more : List Part) → IsRead IsShape Keeps tokens old shape new → levels more + around ≤ 100 → Passes tokens around at parts old.at (P.shape ∷ more) → Passes tokens around at parts new.at more
shaped_outside more r few f = shape_at more r.spelled few f

pub skipped_outside : {tokens : List Token} {around at mid : ℕ} {parts : List Part} (p : Part) (more : List Part) → act p (token_kind tokens mid) ≡ skip → Passes tokens around at parts mid (p ∷ more) → Passes tokens around at parts mid more
skipped_outside {tokens} {mid = mid} p more is f = record { on = λ outside h. f.on outside h ∙ skips tokens mid p (more ++ outside) is }

pub opened_outside : {tokens : List Token} {around at mid : ℕ} {parts : List Part} (p first : Part) (rest more : List Part) → act p (token_kind tokens mid) ≡ before (act first (token_kind tokens mid)) rest → IsReal (act first (token_kind tokens mid)) → Passes tokens around at parts mid (p ∷ more) → Passes tokens around at parts mid (first ∷ rest ++ more)
opened_outside {tokens} {mid = mid} p first rest more is real f = record {
  on = λ outside h. f.on outside h ∙ opens_as tokens mid p first rest (more ++ outside) is real ∙ ap (λ (list : List Part). verdict_at tokens mid [] 0 (first ∷ list)) (sym (append_assoc rest more outside));
}

pub turned_outside : {tokens : List Token} {around at mid : ℕ} {parts : List Part} {kind : Kind} (p first : Part) (rest more : List Part) → token_kind tokens mid ≡ Some kind → act p (Some kind) ≡ before (act first (Some kind)) rest → IsReal (act first (Some kind)) → Passes tokens around at parts mid (p ∷ more) → Passes tokens around at parts mid (first ∷ rest ++ more)
turned_outside p first rest more stands is real f = opened_outside p first rest more
    (subst {0, 0} (λ (k : Option Kind). act p k ≡ before (act first k) rest) (sym stands) is) (subst {0, 0} (λ (k : Option Kind). IsReal (act first k)) (sym stands) real) f

-- ---- faults

pub refused_outside : {tokens : List Token} {around at mid : ℕ} {parts : List Part} (fault : ParseFault) (p : Part) (more : List Part) → StopsAt tokens p ⊥ mid fault → Passes tokens around at parts mid (p ∷ more) → Accuses tokens around at parts fault
refused_outside {tokens} {mid = mid} (Syntax k) p more s f = record { to = λ outside h. f.on outside h ∙ turns_down tokens mid p (more ++ outside) s.1 ∙ ap syntax_at (sym s.0) }
refused_outside (Depth k) p more s f = absurd s.1
refused_outside Memory p more s f = tt

-- a mark that was seen stands there
pub unmissed : {tokens : List Token} {around at mid : ℕ} {p : Part} {more parts : List Part} (fault : ParseFault) (m : Mark) → token_kind tokens mid ≡ Some (K.Mark m) → StopsAt tokens (P.mark m) ⊥ mid fault → Passes tokens around at parts mid (p ∷ more) → Accuses tokens around at parts fault
unmissed (Syntax k) m found s f = absurd (false-true (sym (ap is_taken (sym (takes_mark m) ∙ sym (ap (act (P.mark m)) found) ∙ s.1))))
unmissed (Depth k) m found s f = absurd s.1
unmissed Memory m found s f = tt

-- ---- whole expressions and types

before_start : (a : Action) (more : List Part) → IsStart a → IsStart (before a more)
before_start (take_it n parts) more s = tt
before_start (enter p parts) more s = absurd s
before_start skip more s = absurd s
before_start refuse more s = tt

marks_start : (mark : Mark) → IsStart (unary_marks mark)
marks_start M.Dot = tt
marks_start other = tt

unary_start : (kind : Option Kind) → IsStart (act P.unary kind)
unary_start (Some (K.Mark mark)) = marks_start mark
unary_start (Some (K.Name word)) = tt
unary_start (Some (K.Num value unsigned)) = tt
unary_start (Some (K.Text text)) = tt
unary_start None = tt

pub expression_start : (kind : Option Kind) → IsStart (act P.expression kind)
expression_start kind = before_start (act P.unary kind) (P.behind_unary ∷ []) (unary_start kind)

pub type_start : (kind : Option Kind) → IsStart (act P.type kind)
type_start (Some (K.Mark M.Bool)) = tt
type_start other = tt

-- one that is entered is read to its end
pub entered_outside : {tokens : List Token} {around within at mid to m : ℕ} {parts : List Part} (p q : Part) (rest more : List Part) → act p (token_kind tokens mid) ≡ enter q rest → IsStart (act q (token_kind tokens mid)) → Goes tokens within mid 0 (q ∷ []) to m [] → levels rest + (levels more + around) ≡ within → Passes tokens around at parts mid (p ∷ more) → Passes tokens around at parts to (rest ++ more)
entered_outside {tokens} {mid = mid} {to = to} {m = m} p q rest more is start g e f = record {
  on = λ outside h.
      let shown = levels-append rest (more ++ outside) in
      let also = levels-append more outside in
      f.on outside h ∙ enters tokens mid p q rest (more ++ outside) is start
      ∙ g.on [] (rest ++ (more ++ outside)) (omega arith) ∙ forget tokens to m (rest ++ (more ++ outside)) ∙ ap (λ (list : List Part). verdict_at tokens to [] 0 list) (sym (append_assoc rest more outside));
}

pub stopped_outside : {tokens : List Token} {around within at mid : ℕ} {parts : List Part} (fault : ParseFault) (p q : Part) (rest more : List Part) → act p (token_kind tokens mid) ≡ enter q rest → IsStart (act q (token_kind tokens mid)) → Blames tokens within mid 0 (q ∷ []) fault → levels rest + (levels more + around) ≡ within → Passes tokens around at parts mid (p ∷ more) → Accuses tokens around at parts fault
stopped_outside {tokens} {mid = mid} (Syntax k) p q rest more is start b e f = record { to = λ outside h. let shown = levels-append rest (more ++ outside) in let also = levels-append more outside in f.on outside h ∙ enters tokens mid p q rest (more ++ outside) is start ∙ b.to [] (rest ++ (more ++ outside)) (omega arith) }
stopped_outside {tokens} {mid = mid} (Depth k) p q rest more is start b e f = record { to = λ outside h. let shown = levels-append rest (more ++ outside) in let also = levels-append more outside in f.on outside h ∙ enters tokens mid p q rest (more ++ outside) is start ∙ b.to [] (rest ++ (more ++ outside)) (omega arith) }
stopped_outside Memory p q rest more is start b e f = tt

-- a whole expression, whose operators are counted from 0
abbrev pub FollowsWhole : {A : Type 0} → List Token → ℕ → ℕ → Spot → Result A ParseFault → Type 0
FollowsWhole tokens around at new (Ok _) = Goes tokens around at 0 (P.expression ∷ []) new.at new.operators []
FollowsWhole tokens around at new (Err fault) = Blames tokens around at 0 (P.expression ∷ []) fault

pub whole_outside : {A : Type 0} (tokens : List Token) (around : ℕ) (old new : Spot) (result : Result A ParseFault) → FollowsWhole tokens around old.at new result → Traces tokens around (P.whole ∷ []) [] old new result
whole_outside tokens around old new (Ok part) g = entered_outside P.whole P.expression [] [] refl (expression_start (token_kind tokens old.at)) g (omega arith) begin_outside
whole_outside tokens around old new (Err fault) b = stopped_outside fault P.whole P.expression [] [] refl (expression_start (token_kind tokens old.at)) b (omega arith) begin_outside

-- ---- statements

abbrev opened_by : Action → ℕ
opened_by (take_it n parts) = levels parts
opened_by (enter p parts) = levels parts
opened_by _ = 0

words_real : (mark : Mark) → IsReal (statement_marks mark)
words_real M.If = tt
words_real other = tt

pub statement_real : (kind : Option Kind) → IsReal (act P.statement kind)
statement_real (Some (K.Mark mark)) = words_real mark
statement_real (Some (K.Name word)) = tt
statement_real (Some (K.Num value unsigned)) = tt
statement_real (Some (K.Text text)) = tt
statement_real None = tt

words_open : (mark : Mark) → opened_by (statement_marks mark) ≡ 1
words_open M.If = refl
words_open other = refl

opens_one : (kind : Option Kind) → opened_by (act P.statement kind) ≡ 1
opens_one (Some (K.Mark mark)) = words_open mark
opens_one (Some (K.Name word)) = refl
opens_one (Some (K.Num value unsigned)) = refl
opens_one (Some (K.Text text)) = refl
opens_one None = refl

left_false : (a b : Bool) → a || b ≡ false → a ≡ false
left_false true b e = e
left_false false b e = refl

right_false : (a b : Bool) → a || b ≡ false → b ≡ false
right_false true b e = absurd (false-true (sym e))
right_false false b e = e

-- a token that begins no statement by itself begins an expression
not_word : (kind : Option Kind) → is_taken (statement_action kind) ≡ false → act P.statement kind ≡ enter P.expression (P.mark M.Semicolon ∷ P.ended ∷ [])
not_word (Some (K.Mark M.LeftBrace)) e = absurd (false-true (sym e))
not_word (Some (K.Mark M.Semicolon)) e = absurd (false-true (sym e))
not_word (Some (K.Mark M.If)) e = absurd (false-true (sym e))
not_word (Some (K.Mark M.Where)) e = absurd (false-true (sym e))
not_word (Some (K.Mark M.While)) e = absurd (false-true (sym e))
not_word (Some (K.Mark M.Do)) e = absurd (false-true (sym e))
not_word (Some (K.Mark M.For)) e = absurd (false-true (sym e))
not_word (Some (K.Mark M.Break)) e = absurd (false-true (sym e))
not_word (Some (K.Mark M.Continue)) e = absurd (false-true (sym e))
not_word (Some (K.Mark M.Return)) e = absurd (false-true (sym e))
not_word (Some (K.Mark M.With)) e = absurd (false-true (sym e))
not_word (Some (K.Mark M.Everywhere)) e = absurd (false-true (sym e))
not_word other e = refl

not_taken : (a : Action) → IsStart a → is_taken a ≡ false → a ≡ refuse
not_taken (take_it n parts) s e = absurd (false-true (sym e))
not_taken (enter p parts) s e = absurd s
not_taken skip s e = absurd s
not_taken refuse s e = refl

-- no statement begins there
pub no_statement : {tokens : List Token} {around at mid : ℕ} {parts : List Part} (more : List Part) → begins_statement (token_kind tokens mid) ≡ false → Passes tokens around at parts mid (P.statement ∷ more) → Fails tokens around at parts (syntax_at mid)
no_statement {tokens} {mid = mid} more none f = record {
  to = λ outside h.
      let kind = token_kind tokens mid in
      let word = left_false (is_taken (statement_action kind)) (is_taken (unary_action kind)) none in
      let unary = not_taken (unary_action kind) (unary_start kind) (right_false (is_taken (statement_action kind)) (is_taken (unary_action kind)) none) in
      f.on outside h ∙ enters tokens mid P.statement P.expression (P.mark M.Semicolon ∷ P.ended ∷ []) (more ++ outside) (not_word kind word) (expression_start kind)
      ∙ refuses tokens mid P.expression [] 0 (P.mark M.Semicolon ∷ P.ended ∷ (more ++ outside)) (ap (λ (a : Action). before a (P.behind_unary ∷ [])) unary);
}

deep_word : (tokens : List Token) (at : ℕ) (kind : Kind) (outside : List Part) (a : Action) → token_kind tokens at ≡ Some kind → act P.statement (Some kind) ≡ a → is_taken a ≡ true → 100 ≤ levels outside → verdict_at tokens at [] 0 (P.statement ∷ outside) ≡ depth_at at
deep_word tokens at kind outside (take_it c parts) stands is taken many =
    let one = ap opened_by (sym is) ∙ opens_one (Some kind) in
    let all = levels-append parts outside in
    deepens tokens at kind [] (P.statement ∷ outside) (record { inside = []; operators = 0; outside = parts ++ outside }) stands (step_around P.statement kind outside is) (ap (λ (b : Bool). b || nat_lt 1000 0) (lt-ltb 100 (levels [] + levels (parts ++ outside)) (omega arith)))
deep_word tokens at kind outside (enter p parts) stands is taken many = absurd (false-true taken)
deep_word tokens at kind outside skip stands is taken many = absurd (false-true taken)
deep_word tokens at kind outside refuse stands is taken many = absurd (false-true taken)

deep_expression : (tokens : List Token) (at : ℕ) (kind : Kind) (outside : List Part) (a : Action) → token_kind tokens at ≡ Some kind → act P.unary (Some kind) ≡ a → is_taken a ≡ true → 100 ≤ levels outside → verdict_at tokens at (P.expression ∷ []) 0 (P.mark M.Semicolon ∷ P.ended ∷ outside) ≡ depth_at at
deep_expression tokens at kind outside (take_it c parts) stands is taken many =
    let first = levels-append (parts ++ P.behind_unary ∷ []) [] in
    deepens tokens at kind (P.expression ∷ []) (P.mark M.Semicolon ∷ P.ended ∷ outside) (record { inside = (parts ++ P.behind_unary ∷ []) ++ []; operators = 0 + c; outside = P.mark M.Semicolon ∷ P.ended ∷ outside }) stands
    (step_within P.expression kind (P.mark M.Semicolon ∷ P.ended ∷ outside) ∙ ap (λ (a : Action). within (before a (P.behind_unary ∷ [])) kind [] 0 (P.mark M.Semicolon ∷ P.ended ∷ outside) (inner_step [] 0 (P.mark M.Semicolon ∷ P.ended ∷ outside) kind)) is)
    (ap (λ (b : Bool). b || nat_lt 1000 (0 + c)) (lt-ltb 100 (levels ((parts ++ P.behind_unary ∷ []) ++ []) + levels (P.mark M.Semicolon ∷ P.ended ∷ outside)) (omega arith)))
deep_expression tokens at kind outside (enter p parts) stands is taken many = absurd (false-true taken)
deep_expression tokens at kind outside skip stands is taken many = absurd (false-true taken)
deep_expression tokens at kind outside refuse stands is taken many = absurd (false-true taken)

-- a statement begins there, and as many levels are open as may be
pub deep_statement : {tokens : List Token} {around at mid : ℕ} {parts : List Part} (more : List Part) → begins_statement (token_kind tokens mid) ≡ true → 100 ≤ levels more + around → Passes tokens around at parts mid (P.statement ∷ more) → Fails tokens around at parts (depth_at mid)
deep_statement {tokens} {mid = mid} more some many f = record { to = λ outside h. let shown = levels-append more outside in f.on outside h ∙ by (token_kind tokens mid) (more ++ outside) refl some (omega arith) } where
  of_kind : (kind : Kind) (outside : List Part) (b : Bool) → token_kind tokens mid ≡ Some kind → is_taken (statement_action (Some kind)) ≡ b → b || is_taken (unary_action (Some kind)) ≡ true → 100 ≤ levels outside → verdict_at tokens mid [] 0 (P.statement ∷ outside) ≡ depth_at mid
  of_kind kind outside true stands word some many = deep_word tokens mid kind outside (act P.statement (Some kind)) stands refl word many
  of_kind kind outside false stands word some many =
      enters tokens mid P.statement P.expression (P.mark M.Semicolon ∷ P.ended ∷ []) outside (ap (act P.statement) stands ∙ not_word (Some kind) word) (expression_start (token_kind tokens mid))
      ∙ deep_expression tokens mid kind outside (act P.unary (Some kind)) stands refl some many

  by : (kind : Option Kind) (outside : List Part) → token_kind tokens mid ≡ kind → begins_statement kind ≡ true → 100 ≤ levels outside → verdict_at tokens mid [] 0 (P.statement ∷ outside) ≡ depth_at mid
  by (Some kind) outside stands some many = of_kind kind outside (is_taken (statement_action (Some kind))) stands refl some many
  by None outside stands some many = absurd (false-true some)

-- the statement is at its end
pub finished : {A : Type 0} (tokens : List Token) (around : ℕ) (old new : Spot) (result : Result A ParseFault) → Traces tokens around (P.statement ∷ []) (P.ended ∷ []) old new result → Traces tokens around (P.statement ∷ []) [] old new result
finished tokens around old new (Ok part) f = skipped_outside P.ended [] refl f
finished tokens around old new (Err fault) b = b

-- `if` and `where`
pub takes_branch : (is_where : Bool) → act P.statement (Some (K.Mark (word_of_branch is_where))) ≡ take_it 0 (P.condition ∷ P.statement ∷ P.else_or_none ∷ P.ended ∷ [])
takes_branch true = refl
takes_branch false = refl

branch_if : (kind : Option Kind) → is_branch kind ≡ true → (kind ≡ Some (K.Mark M.Where) → ⊥) → kind ≡ Some (K.Mark M.If)
branch_if (Some (K.Mark M.Where)) some other = absurd (other refl)
branch_if (Some (K.Mark M.If)) some other = refl
branch_if another some other = absurd (false-true some)

pub branch_word : (kind : Option Kind) (is_where : Bool) → is_branch kind ≡ true → (is_where ≡ true → kind ≡ Some (K.Mark M.Where)) → (is_where ≡ false → kind ≡ Some (K.Mark M.Where) → ⊥) → kind ≡ Some (K.Mark (word_of_branch is_where))
branch_word kind true some where_is other = where_is refl
branch_word kind false some where_is other = branch_if kind some (other refl)

-- ---- parts that begin as others do, or are skipped

pub bracket_of : (kind : Option Kind) (mark : Mark) (parts : List Part) → (if has kind mark then take_it 0 parts else refuse) ≡ before (act (P.mark mark) kind) parts
bracket_of kind mark parts = by (has kind mark) where
  by : (b : Bool) → (if b then take_it 0 parts else refuse) ≡ before (if b then take_it 0 [] else refuse) parts
  by true = refl
  by false = refl

pub not_else : (kind : Option Kind) → (kind ≡ Some (K.Mark M.Else) → ⊥) → act P.else_or_none kind ≡ skip
not_else kind not = ap (λ (b : Bool). if b then take_it 0 (P.statement ∷ []) else skip) (has_not kind M.Else not)

pub not_length : (kind : Option Kind) → (kind ≡ Some (K.Mark M.LeftBracket) → ⊥) → act P.length_or_none kind ≡ skip
not_length kind not = ap (λ (b : Bool). if b then take_it 0 (P.whole ∷ P.mark M.RightBracket ∷ []) else skip) (has_not kind M.LeftBracket not)

pub not_initial : (kind : Option Kind) → (kind ≡ Some (K.Mark M.Equal) → ⊥) → act P.initial_or_none kind ≡ skip
not_initial kind not = ap (λ (b : Bool). if b then take_it 0 (P.whole ∷ []) else skip) (has_not kind M.Equal not)

pub typed_declaration : (kind : Option Kind) → is_taken (type_action kind) ≡ true → act P.declarations kind ≡ enter P.type (P.name ∷ P.length_or_none ∷ P.initial_or_none ∷ P.more_names ∷ P.declarations ∷ [])
typed_declaration kind typed = ap (λ (b : Bool). if b then enter P.type (P.name ∷ P.length_or_none ∷ P.initial_or_none ∷ P.more_names ∷ P.declarations ∷ []) else skip) typed

pub no_declaration : (kind : Option Kind) → is_taken (type_action kind) ≡ false → act P.declarations kind ≡ skip
no_declaration kind untyped = ap (λ (b : Bool). if b then enter P.type (P.name ∷ P.length_or_none ∷ P.initial_or_none ∷ P.more_names ∷ P.declarations ∷ []) else skip) untyped

pub last_name : (kind : Option Kind) → (kind ≡ Some (K.Mark M.Comma) → ⊥) → act P.more_names kind ≡ before (act (P.mark M.Semicolon) kind) []
last_name kind not = ap (λ (b : Bool). if b then take_it 0 (P.name ∷ P.length_or_none ∷ P.initial_or_none ∷ P.more_names ∷ []) else if has kind M.Semicolon then take_it 0 [] else refuse) (has_not kind M.Comma not) ∙ bracket_of kind M.Semicolon []

pub some_statement : (kind : Option Kind) → (kind ≡ Some (K.Mark M.RightBrace) → ⊥) → act P.statements kind ≡ before (act P.statement kind) (P.statements ∷ [])
some_statement kind not = ap (λ (b : Bool). if b then take_it 0 [] else before (statement_action kind) (P.statements ∷ [])) (has_not kind M.RightBrace not)

pub takes_part : (mark : Mark) → act (P.part mark) (Some (K.Mark mark)) ≡ take_it 0 []
takes_part mark = ap (λ (b : Bool). if b then take_it 0 [] else enter P.expression (P.mark mark ∷ [])) (has_it mark)

pub some_part : (kind : Option Kind) (mark : Mark) → (kind ≡ Some (K.Mark mark) → ⊥) → act (P.part mark) kind ≡ enter P.expression (P.mark mark ∷ [])
some_part kind mark not = ap (λ (b : Bool). if b then take_it 0 [] else enter P.expression (P.mark mark ∷ [])) (has_not kind mark not)

pub part_real : (kind : Option Kind) (mark : Mark) → IsReal (act (P.part mark) kind)
part_real kind mark = by (has kind mark) where
  by : (b : Bool) → IsReal (if b then take_it 0 [] else enter P.expression (P.mark mark ∷ []))
  by true = tt
  by false = tt

pub jump_word : (kind : Option Kind) → is_jump kind ≡ true → (kind ≡ Some (K.Mark M.Break) → ⊥) → (kind ≡ Some (K.Mark M.Continue) → ⊥) → kind ≡ Some (K.Mark M.Return)
jump_word (Some (K.Mark M.Break)) some a b = absurd (a refl)
jump_word (Some (K.Mark M.Continue)) some a b = absurd (b refl)
jump_word (Some (K.Mark M.Return)) some a b = refl
jump_word other some a b = absurd (false-true some)

-- a statement of an expression, or an empty one
simple_mark : (mark : Mark) → (mark ≡ M.LeftBrace → ⊥) → (mark ≡ M.If → ⊥) → (mark ≡ M.Where → ⊥) → (mark ≡ M.While → ⊥) → (mark ≡ M.Do → ⊥) → (mark ≡ M.For → ⊥) → (mark ≡ M.With → ⊥) → (mark ≡ M.Everywhere → ⊥) → (mark ≡ M.Break → ⊥) → (mark ≡ M.Continue → ⊥) → (mark ≡ M.Return → ⊥) → act P.statement (Some (K.Mark mark)) ≡ before (act (P.part M.Semicolon) (Some (K.Mark mark))) (P.ended ∷ [])
simple_mark M.LeftBrace a b c d e f g h i j k = absurd (a refl)
simple_mark M.If a b c d e f g h i j k = absurd (b refl)
simple_mark M.Where a b c d e f g h i j k = absurd (c refl)
simple_mark M.While a b c d e f g h i j k = absurd (d refl)
simple_mark M.Do a b c d e f g h i j k = absurd (e refl)
simple_mark M.For a b c d e f g h i j k = absurd (f refl)
simple_mark M.With a b c d e f g h i j k = absurd (g refl)
simple_mark M.Everywhere a b c d e f g h i j k = absurd (h refl)
simple_mark M.Break a b c d e f g h i j k = absurd (i refl)
simple_mark M.Continue a b c d e f g h i j k = absurd (j refl)
simple_mark M.Return a b c d e f g h i j k = absurd (k refl)
simple_mark other a b c d e f g h i j k = refl

pub simple_statement : (there : Option Kind) (mark : Mark) → there ≡ Some (K.Mark mark) → (mark ≡ M.LeftBrace → ⊥) → (mark ≡ M.If → ⊥) → (mark ≡ M.Where → ⊥) → (mark ≡ M.While → ⊥) → (mark ≡ M.Do → ⊥) → (mark ≡ M.For → ⊥) → (mark ≡ M.With → ⊥) → (mark ≡ M.Everywhere → ⊥) → (mark ≡ M.Break → ⊥) → (mark ≡ M.Continue → ⊥) → (mark ≡ M.Return → ⊥) → act P.statement there ≡ before (act (P.part M.Semicolon) there) (P.ended ∷ [])
simple_statement there mark found a b c d e f g h i j k = subst {0, 0} (λ (o : Option Kind). act P.statement o ≡ before (act (P.part M.Semicolon) o) (P.ended ∷ [])) (sym found) (simple_mark mark a b c d e f g h i j k)

pub simple_other : (there : Option Kind) → ((mark : Mark) → there ≡ Some (K.Mark mark) → ⊥) → act P.statement there ≡ before (act (P.part M.Semicolon) there) (P.ended ∷ [])
simple_other (Some (K.Mark mark)) none = absurd (none mark refl)
simple_other (Some (K.Name word)) none = refl
simple_other (Some (K.Num value unsigned)) none = refl
simple_other (Some (K.Text text)) none = refl
simple_other None none = refl

-- ---- items

pub last_shape : (kind : Option Kind) → (kind ≡ Some (K.Mark M.Comma) → ⊥) → act P.more_shapes kind ≡ before (act (P.mark M.Semicolon) kind) []
last_shape kind not = ap (λ (b : Bool). if b then take_it 0 (P.shape_definition ∷ P.more_shapes ∷ []) else if has kind M.Semicolon then take_it 0 [] else refuse) (has_not kind M.Comma not) ∙ bracket_of kind M.Semicolon []

name_alone : (kind : Option Kind) → act P.name kind ≡ before (act P.name kind) []
name_alone (Some (K.Name word)) = refl
name_alone other = refl

pub last_extent : (kind : Option Kind) → (kind ≡ Some (K.Mark M.LeftBracket) → ⊥) → act P.extents kind ≡ before (act P.name kind) []
last_extent kind not = ap (λ (b : Bool). if b then take_it 0 (P.whole ∷ P.mark M.RightBracket ∷ P.extents ∷ []) else at_name (take_it 0 []) refuse kind) (has_not kind M.LeftBracket not) ∙ name_alone kind

pub last_parameter : (kind : Option Kind) → (kind ≡ Some (K.Mark M.Comma) → ⊥) → act P.more_parameters kind ≡ skip
last_parameter kind not = ap (λ (b : Bool). if b then take_it 0 (P.parameter ∷ P.more_parameters ∷ []) else skip) (has_not kind M.Comma not)

type_refused : (kind : Option Kind) → is_taken (type_action kind) ≡ false → act P.type kind ≡ refuse
type_refused kind e = not_taken (act P.type kind) (type_start kind) e

no_close : (kind : Option Kind) → (kind ≡ Some (K.Mark M.RightParen) → ⊥) → act (P.mark M.RightParen) kind ≡ refuse
no_close kind not = ap (λ (b : Bool). if b then take_it 0 [] else refuse) (has_not kind M.RightParen not)

parameters_are : (kind : Option Kind) (b : Bool) → (kind ≡ Some (K.Mark M.Void) → ⊥) → is_taken (type_action kind) ≡ b → act P.parameters kind ≡ (if b then enter P.type (P.name ∷ P.more_parameters ∷ []) else skip)
parameters_are kind b not e = ap (λ (v : Bool). if v then take_it 0 [] else if is_taken (type_action kind) then enter P.type (P.name ∷ P.more_parameters ∷ []) else skip) (has_not kind M.Void not) ∙ ap (λ (x : Bool). if x then enter P.type (P.name ∷ P.more_parameters ∷ []) else skip) e

-- parameters that are neither none nor `void`
pub some_parameters : {tokens : List Token} {around at mid : ℕ} {parts : List Part} (more : List Part) → (token_kind tokens mid ≡ Some (K.Mark M.Void) → ⊥) → (token_kind tokens mid ≡ Some (K.Mark M.RightParen) → ⊥) → Passes tokens around at parts mid (P.parameters ∷ P.mark M.RightParen ∷ more) → Passes tokens around at parts mid (P.parameter ∷ P.more_parameters ∷ P.mark M.RightParen ∷ more)
some_parameters {tokens} {mid = mid} more void close f = record { on = λ outside h. f.on outside h ∙ by (is_taken (type_action (token_kind tokens mid))) (more ++ outside) refl } where
  by : (b : Bool) (outside : List Part) → is_taken (type_action (token_kind tokens mid)) ≡ b → verdict_at tokens mid [] 0 (P.parameters ∷ P.mark M.RightParen ∷ outside) ≡ verdict_at tokens mid [] 0 (P.parameter ∷ P.more_parameters ∷ P.mark M.RightParen ∷ outside)
  by true outside e = opens_as tokens mid P.parameters P.parameter (P.more_parameters ∷ []) (P.mark M.RightParen ∷ outside) (parameters_are (token_kind tokens mid) true void e) tt
  by false outside e =
      skips tokens mid P.parameters (P.mark M.RightParen ∷ outside) (parameters_are (token_kind tokens mid) false void e)
      ∙ turns_down tokens mid (P.mark M.RightParen) outside (no_close (token_kind tokens mid) close)
      ∙ sym (enters tokens mid P.parameter P.type (P.name ∷ []) (P.more_parameters ∷ P.mark M.RightParen ∷ outside) refl (type_start (token_kind tokens mid)) ∙ refuses tokens mid P.type [] 0 (P.name ∷ P.more_parameters ∷ P.mark M.RightParen ∷ outside) (type_refused (token_kind tokens mid) e))

pub typed_item : (kind : Option Kind) → (kind ≡ Some (K.Mark M.Shape) → ⊥) → is_taken (type_action kind) ≡ true → act P.items kind ≡ enter P.type (P.name ∷ P.behind_typed_name ∷ P.items ∷ [])
typed_item kind not typed =
    ap (λ (s : Bool). if s then take_it 0 (P.shape_definition ∷ P.more_shapes ∷ P.items ∷ []) else if is_taken (type_action kind) then enter P.type (P.name ∷ P.behind_typed_name ∷ P.items ∷ []) else if has kind M.Void then take_it 0 (P.name ∷ header ++ P.items ∷ []) else at_name (take_it 0 (header ++ P.items ∷ [])) (at_end kind) kind) (has_not kind M.Shape not)
    ∙ ap (λ (t : Bool). if t then enter P.type (P.name ∷ P.behind_typed_name ∷ P.items ∷ []) else if has kind M.Void then take_it 0 (P.name ∷ header ++ P.items ∷ []) else at_name (take_it 0 (header ++ P.items ∷ [])) (at_end kind) kind) typed

there : (tokens : List Token) (at : ℕ) (place : Place) → token_place tokens at ≡ Some place → token_kind tokens at ≡ None → ⊥
unfolding token_kind token_place
there tokens at place here none = by (slice_get tokens at) here none where
  by : (t : Option Token) → option_map (λ (t : Token). t.place) t ≡ Some place → option_map (λ (t : Token). t.kind) t ≡ None → ⊥
  by (Some t) here none = none_is (sym none)
  by None here none = none_is here

named_kind : (kind : Option Kind) → (kind ≡ None → ⊥) → at_name (take_it 0 (header ++ P.items ∷ [])) (at_end kind) kind ≡ before (act P.name kind) (header ++ P.items ∷ [])
named_kind (Some (K.Name word)) some = refl
named_kind (Some (K.Mark mark)) some = refl
named_kind (Some (K.Num value unsigned)) some = refl
named_kind (Some (K.Text text)) some = refl
named_kind None some = absurd (some refl)

-- a function without a type
pub named_item : (tokens : List Token) (at : ℕ) (place : Place) → token_place tokens at ≡ Some place → (token_kind tokens at ≡ Some (K.Mark M.Shape) → ⊥) → is_taken (type_action (token_kind tokens at)) ≡ false → (token_kind tokens at ≡ Some (K.Mark M.Void) → ⊥) → act P.items (token_kind tokens at) ≡ before (act P.name (token_kind tokens at)) (header ++ P.items ∷ [])
named_item tokens at place here shape type void =
    let kind = token_kind tokens at in
    ap (λ (s : Bool). if s then take_it 0 (P.shape_definition ∷ P.more_shapes ∷ P.items ∷ []) else if is_taken (type_action kind) then enter P.type (P.name ∷ P.behind_typed_name ∷ P.items ∷ []) else if has kind M.Void then take_it 0 (P.name ∷ header ++ P.items ∷ []) else at_name (take_it 0 (header ++ P.items ∷ [])) (at_end kind) kind) (has_not kind M.Shape shape)
    ∙ ap (λ (t : Bool). if t then enter P.type (P.name ∷ P.behind_typed_name ∷ P.items ∷ []) else if has kind M.Void then take_it 0 (P.name ∷ header ++ P.items ∷ []) else at_name (take_it 0 (header ++ P.items ∷ [])) (at_end kind) kind) type
    ∙ ap (λ (v : Bool). if v then take_it 0 (P.name ∷ header ++ P.items ∷ []) else at_name (take_it 0 (header ++ P.items ∷ [])) (at_end kind) kind) (has_not kind M.Void void)
    ∙ named_kind kind (there tokens at place here)

typed_name : (kind : Option Kind) (b e : Bool) → (kind ≡ Some (K.Mark M.LeftParen) → ⊥) → has kind M.LeftBracket ≡ b → has kind M.Equal ≡ e → act P.behind_typed_name kind ≡ (if b then take_it 0 (P.whole ∷ P.mark M.RightBracket ∷ P.initial_or_none ∷ P.more_names ∷ []) else if e then take_it 0 (P.whole ∷ P.more_names ∷ []) else act P.more_names kind)
typed_name kind b e paren is_b is_e =
    ap (λ (p : Bool). if p then take_it 0 (P.parameters ∷ P.mark M.RightParen ∷ P.block ∷ []) else if has kind M.LeftBracket then take_it 0 (P.whole ∷ P.mark M.RightBracket ∷ P.initial_or_none ∷ P.more_names ∷ []) else if has kind M.Equal then take_it 0 (P.whole ∷ P.more_names ∷ []) else more_names_action kind) (has_not kind M.LeftParen paren)
    ∙ ap (λ (x : Bool). if x then take_it 0 (P.whole ∷ P.mark M.RightBracket ∷ P.initial_or_none ∷ P.more_names ∷ []) else if has kind M.Equal then take_it 0 (P.whole ∷ P.more_names ∷ []) else more_names_action kind) is_b
    ∙ ap (λ (x : Bool). if b then take_it 0 (P.whole ∷ P.mark M.RightBracket ∷ P.initial_or_none ∷ P.more_names ∷ []) else if x then take_it 0 (P.whole ∷ P.more_names ∷ []) else more_names_action kind) is_e

names_alone : (kind : Option Kind) → act P.more_names kind ≡ before (act P.more_names kind) []
names_alone kind = by (has kind M.Comma) (has kind M.Semicolon) where
  by : (c s : Bool) → (if c then take_it 0 (P.name ∷ P.length_or_none ∷ P.initial_or_none ∷ P.more_names ∷ []) else if s then take_it 0 [] else refuse) ≡ before (if c then take_it 0 (P.name ∷ P.length_or_none ∷ P.initial_or_none ∷ P.more_names ∷ []) else if s then take_it 0 [] else refuse) []
  by true s = refl
  by false true = refl
  by false false = refl

names_real : (kind : Option Kind) → IsReal (act P.more_names kind)
names_real kind = by (has kind M.Comma) (has kind M.Semicolon) where
  by : (c s : Bool) → IsReal (if c then take_it 0 (P.name ∷ P.length_or_none ∷ P.initial_or_none ∷ P.more_names ∷ []) else if s then take_it 0 [] else refuse)
  by true s = tt
  by false true = tt
  by false false = tt

-- behind the name of a variable
pub variables_behind : {tokens : List Token} {around at mid : ℕ} {parts : List Part} (more : List Part) → (token_kind tokens mid ≡ Some (K.Mark M.LeftParen) → ⊥) → Passes tokens around at parts mid (P.behind_typed_name ∷ more) → Passes tokens around at parts mid (P.length_or_none ∷ P.initial_or_none ∷ P.more_names ∷ more)
variables_behind {tokens} {mid = mid} more paren f = record { on = λ outside h. f.on outside h ∙ by (has (token_kind tokens mid) M.LeftBracket) (has (token_kind tokens mid) M.Equal) (more ++ outside) refl refl } where
  length_is : (b : Bool) → has (token_kind tokens mid) M.LeftBracket ≡ b → act P.length_or_none (token_kind tokens mid) ≡ (if b then take_it 0 (P.whole ∷ P.mark M.RightBracket ∷ []) else skip)
  length_is b e = ap (λ (x : Bool). if x then take_it 0 (P.whole ∷ P.mark M.RightBracket ∷ []) else skip) e

  initial_is : (b : Bool) → has (token_kind tokens mid) M.Equal ≡ b → act P.initial_or_none (token_kind tokens mid) ≡ (if b then take_it 0 (P.whole ∷ []) else skip)
  initial_is b e = ap (λ (x : Bool). if x then take_it 0 (P.whole ∷ []) else skip) e

  by : (b e : Bool) (outside : List Part) → has (token_kind tokens mid) M.LeftBracket ≡ b → has (token_kind tokens mid) M.Equal ≡ e → verdict_at tokens mid [] 0 (P.behind_typed_name ∷ outside) ≡ verdict_at tokens mid [] 0 (P.length_or_none ∷ P.initial_or_none ∷ P.more_names ∷ outside)
  by true e outside is_b is_e = opens_as tokens mid P.behind_typed_name P.length_or_none (P.initial_or_none ∷ P.more_names ∷ []) outside (typed_name (token_kind tokens mid) true e paren is_b is_e ∙ sym (ap (λ (a : Action). before a (P.initial_or_none ∷ P.more_names ∷ [])) (length_is true is_b))) (subst {0, 0} IsReal (sym (length_is true is_b)) tt)
  by false true outside is_b is_e =
      opens_as tokens mid P.behind_typed_name P.initial_or_none (P.more_names ∷ []) outside (typed_name (token_kind tokens mid) false true paren is_b is_e ∙ sym (ap (λ (a : Action). before a (P.more_names ∷ [])) (initial_is true is_e))) (subst {0, 0} IsReal (sym (initial_is true is_e)) tt)
      ∙ sym (skips tokens mid P.length_or_none (P.initial_or_none ∷ P.more_names ∷ outside) (length_is false is_b))
  by false false outside is_b is_e =
      opens_as tokens mid P.behind_typed_name P.more_names [] outside (typed_name (token_kind tokens mid) false false paren is_b is_e ∙ names_alone (token_kind tokens mid)) (names_real (token_kind tokens mid))
      ∙ sym (skips tokens mid P.initial_or_none (P.more_names ∷ outside) (initial_is false is_e))
      ∙ sym (skips tokens mid P.length_or_none (P.initial_or_none ∷ P.more_names ∷ outside) (length_is false is_b))

-- ---- a whole text

pub text_ends : {tokens : List Token} {to : ℕ} → Passes tokens 0 0 (P.items ∷ []) to (P.items ∷ []) → token_kind tokens to ≡ None → verdict_on tokens ≡ read
unfolding may_end
text_ends {tokens} {to} f none = f.on [] refl ∙ judged_end tokens to [] (P.items ∷ []) true none refl

pub text_stops : (tokens : List Token) (fault : ParseFault) → Accuses tokens 0 0 (P.items ∷ []) fault → IsVerdictFault tokens fault
text_stops tokens (Syntax k) f = f.to [] refl
text_stops tokens (Depth k) f = f.to [] refl
text_stops tokens Memory f = tt
