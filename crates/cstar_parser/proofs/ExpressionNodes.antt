-- Expressions made of parts that are read one behind the other.
use Rattle.std.proofs.Common.{◌≡◌, ℕ, ◌+◌, ◌<◌, ◌≤◌, Bool, List, [], ◌∷◌, Some, Vec, Box, Result, Ok, Err, length, arith, lit≤}
use Rattle.std.specs.declared.alloc.Global.{Global}
use Rattle.cstar_base.specs.declared.operators.Place.{Place}
use Rattle.cstar_tree.specs.declared.token.Token.{Token}
use Rattle.cstar_tree.specs.declared.token.Kind.TheVariants as K
use Rattle.cstar_tree.specs.declared.token.Mark.{Mark}
use Rattle.cstar_tree.specs.declared.token.Mark.TheVariants as M
use Rattle.cstar_tree.specs.declared.syntax.AssignOp.{AssignOp}
use Rattle.cstar_tree.specs.declared.syntax.Expr.{Expr}
use Rattle.cstar_tree.specs.declared.syntax.Expr as E
use Rattle.cstar_tree.specs.declared.syntax.Name.{Name}
use Rattle.cstar_tree.specs.declared.syntax.PrefixOp.{PrefixOp}
use Rattle.cstar_tree.specs.declared.syntax.ShapeRef.{ShapeRef}
use Rattle.cstar_tree.specs.declared.syntax.StepOp.{StepOp}
use Rattle.cstar_tree.specs.Positions.{token_kind}
use Rattle.cstar_tree.specs.Operators.{assign_mark, prefix_mark, step_mark}
use Rattle.cstar_tree.specs.Options.{IsBracketedShape, IsText}
use Rattle.cstar_tree.specs.Types.{IsShape}
use Rattle.cstar_tree.specs.Expressions.{IsExpr, AreArguments, AreIndexes, strength_of}
use Rattle.cstar_tree.specs.Expressions as X
use Rattle.cstar_parser.specs.declared.fault.ParseFault.{ParseFault}
use Rattle.cstar_parser.specs.declared.intrinsics.EnumerateOptions.{EnumerateOptions}
use Rattle.cstar_parser.specs.declared.intrinsics.ScanOptions.{ScanOptions}
use Rattle.cstar_parser.specs.declared.spot.Spot.{Spot}
use Rattle.cstar_parser.specs.Fits.{Adds, AddsBit, AddsIndex, AddsMore, AddsPart, AddsParts, FitParts, FitsWhole, Keeps, Opens}
use Rattle.cstar_parser.specs.Parts.{AreOptionsOfEnumerate, AreOptionsOfScan, IsIndexed, IsOperand, IsRestOf, listed}
use Rattle.cstar_parser.specs.Reading.{IsMark, IsName, IsRead, IsToken, Reads}
use Rattle.cstar_parser.proofs.Fitting.{no_parts, one_part, whole}
use Rattle.cstar_parser.proofs.Sizes.{IsSized}
use Rattle.cstar_parser.proofs.Sizes as sizes

-- an expression as the reader answers it
abbrev pub Part : List Token → ℕ → ℕ → Spot → Box Expr Global → Spot → Type 0
Part tokens least around a e b = IsRead (IsOperand least) (AddsPart around) tokens a e b

abbrev Marked : List Token → Mark → Spot → Place → Spot → Type 0
Marked tokens mark a p b = IsRead (IsMark mark) Keeps tokens a p b

abbrev Opened : List Token → Mark → ℕ → Spot → Place → Spot → Type 0
Opened tokens mark around a p b = IsRead (IsMark mark) (Opens around) tokens a p b

abbrev Named : List Token → Spot → Name → Spot → Type 0
Named tokens a n b = IsRead IsName Keeps tokens a n b

part : {tokens : List Token} {a b : Spot} {around least levels operators : ℕ} {e : Box Expr Global} → IsExpr tokens a.at e.value b.at → least ≤ strength_of e.value → IsSized e.value levels operators → around + levels ≤ 100 → b.operators ≡ a.operators + operators → a.at < b.at → b.at ≤ length tokens → Part tokens least around a e b
part spelled strong s deep counted forward inside = record { spelled = record { spelled = spelled; strong = strong }; fits = record { deep = rw s.deep deep; counted = rw s.many counted }; forward = forward; inside = inside }

-- ---- operators

pub assign : {tokens : List Token} {around : ℕ} {a b c d : Spot} {p : Place} {op : AssignOp} {target value : Box Expr Global} {e : Box Expr Global} → e.value ≡ E.Assign p op target value → Part tokens 13 around a target b → token_kind tokens b.at ≡ Some (K.Mark (assign_mark op)) → IsRead IsToken (Adds 1) tokens b p c → Part tokens 0 around c value d → Part tokens 0 around a e d
assign is t found o v = part (rw is (X.assign _ _ t.spelled.spelled t.spelled.strong (o.spelled _ found) v.spelled.spelled)) (rw is (lit≤ tt)) (sizes.assign is) (omega arith) (omega arith) (omega arith) v.inside

pub choice : {tokens : List Token} {around : ℕ} {a b c d f g : Spot} {p colon : Place} {test then otherwise : Box Expr Global} {e : Box Expr Global} → e.value ≡ E.Choice p test then otherwise → Part tokens 2 around a test b → IsRead (IsMark M.Question) (Adds 1) tokens b p c → Part tokens 0 around c then d → IsRead (IsMark M.Colon) (Adds 1) tokens d colon f → Part tokens 1 around f otherwise g → Part tokens 1 around a e g
choice is t q x k o = part (rw is (X.choice _ _ _ t.spelled.spelled t.spelled.strong q.spelled x.spelled.spelled k.spelled o.spelled.spelled o.spelled.strong)) (rw is (lit≤ tt)) (sizes.choice is) (omega arith) (omega arith) (omega arith) o.inside

pub prefix : {tokens : List Token} {around : ℕ} {a b c : Spot} {p : Place} {op : PrefixOp} {operand : Box Expr Global} {e : Box Expr Global} → e.value ≡ E.Prefix p op operand → token_kind tokens a.at ≡ Some (K.Mark (prefix_mark op)) → IsRead IsToken (Adds 1) tokens a p b → Part tokens 13 around b operand c → Part tokens 13 around a e c
prefix is found o x = part (rw is (X.prefix _ (o.spelled _ found) x.spelled.spelled x.spelled.strong)) (rw is (lit≤ tt)) (sizes.prefix is) (omega arith) (omega arith) (omega arith) x.inside

pub postfix : {tokens : List Token} {around : ℕ} {a b c : Spot} {p : Place} {op : StepOp} {operand : Box Expr Global} {e : Box Expr Global} → e.value ≡ E.Postfix p op operand → Part tokens 14 around a operand b → token_kind tokens b.at ≡ Some (K.Mark (step_mark op)) → IsRead IsToken (Adds 1) tokens b p c → Part tokens 14 around a e c
postfix is x found o = part (rw is (X.postfix _ x.spelled.spelled x.spelled.strong (o.spelled _ found))) (rw is (lit≤ tt)) (sizes.postfix is) (omega arith) (omega arith) (omega arith) o.inside

-- ---- operands

pub number : {tokens : List Token} {around : ℕ} {a b : Spot} {p : Place} {value : ℕ} {unsigned : Bool} {e : Box Expr Global} → e.value ≡ E.Number p value unsigned → around ≤ 100 → token_kind tokens a.at ≡ Some (K.Num value unsigned) → IsRead IsToken Keeps tokens a p b → Part tokens 15 around a e b
number is low found n = part (rw is (X.number (n.spelled _ found))) (rw is (lit≤ tt)) (sizes.number is) (omega arith) (omega arith) (omega arith) n.inside

pub name : {tokens : List Token} {around : ℕ} {a b : Spot} {n : Name} {e : Box Expr Global} → e.value ≡ E.Name n → around ≤ 100 → Named tokens a n b → Part tokens 15 around a e b
name is low n = part (rw is (X.name n.spelled)) (rw is (lit≤ tt)) (sizes.name is) (omega arith) (omega arith) (omega arith) n.inside

pub dot : {tokens : List Token} {around : ℕ} {a b : Spot} {p : Place} {e : Box Expr Global} → e.value ≡ E.Dot p → around ≤ 100 → IsRead (IsMark M.Dot) (Adds 1) tokens a p b → Part tokens 15 around a e b
dot is low d = part (rw is (X.dot d.spelled)) (rw is (lit≤ tt)) (sizes.dot is) (omega arith) (omega arith) (omega arith) d.inside

pub positions_of : {tokens : List Token} {around : ℕ} {a b c : Spot} {p : Place} {shape : ShapeRef} {e : Box Expr Global} → e.value ≡ E.PositionsOf p shape → Marked tokens M.PositionsOf a p b → IsRead IsBracketedShape (Opens around) tokens b shape c → Part tokens 15 around a e c
positions_of is w h = part (rw is (X.positions_of w.spelled h.spelled)) (rw is (lit≤ tt)) (sizes.positions_of is) (omega arith) (omega arith) (omega arith) h.inside

pub rank_of : {tokens : List Token} {around : ℕ} {a b c : Spot} {p : Place} {shape : ShapeRef} {e : Box Expr Global} → e.value ≡ E.RankOf p shape → Marked tokens M.RankOf a p b → IsRead IsBracketedShape (Opens around) tokens b shape c → Part tokens 15 around a e c
rank_of is w h = part (rw is (X.rank_of w.spelled h.spelled)) (rw is (lit≤ tt)) (sizes.rank_of is) (omega arith) (omega arith) (omega arith) h.inside

pub getchar : {tokens : List Token} {around : ℕ} {a b c d : Spot} {p begin end : Place} {e : Box Expr Global} → e.value ≡ E.GetChar p → Marked tokens M.GetChar a p b → Opened tokens M.LeftParen around b begin c → Marked tokens M.RightParen c end d → Part tokens 15 around a e d
getchar is w l r = part (rw is (X.getchar w.spelled l.spelled r.spelled)) (rw is (lit≤ tt)) (sizes.getchar is) (omega arith) (omega arith) (omega arith) r.inside

pub brackets : {tokens : List Token} {around : ℕ} {a b c d : Spot} {p end : Place} {inner : Box Expr Global} {e : Box Expr Global} → e.value ≡ E.Brackets p inner → Opened tokens M.LeftParen around a p b → Part tokens 0 (around + 1) b inner c → Marked tokens M.RightParen c end d → Part tokens 15 around a e d
brackets is l x r = part (rw is (X.brackets _ l.spelled x.spelled.spelled r.spelled)) (rw is (lit≤ tt)) (sizes.brackets is) (omega arith) (omega arith) (omega arith) r.inside

pub element : {tokens : List Token} {around : ℕ} {a b c : Spot} {n : Name} {index : Place × Box Expr Global} {e : Box Expr Global} → e.value ≡ E.Element n index.0 index.1 → Named tokens a n b → IsRead IsIndexed (AddsIndex around) tokens b index c → Part tokens 15 around a e c
element is n i = part (rw is (X.element _ n.spelled i.spelled)) (rw is (lit≤ tt)) (sizes.element is) (omega arith) (omega arith) (omega arith) i.inside

pub pcoord : {tokens : List Token} {around : ℕ} {a b c d f : Spot} {p begin end : Place} {axis : Box Expr Global} {e : Box Expr Global} → e.value ≡ E.Pcoord p axis → Marked tokens M.Pcoord a p b → Opened tokens M.LeftParen around b begin c → Part tokens 0 (around + 1) c axis d → Marked tokens M.RightParen d end f → Part tokens 15 around a e f
pcoord is w l x r = part (rw is (X.pcoord _ w.spelled l.spelled x.spelled.spelled r.spelled)) (rw is (lit≤ tt)) (sizes.pcoord is) (omega arith) (omega arith) (omega arith) r.inside

pub dim_of : {tokens : List Token} {around : ℕ} {a b c d f g h : Spot} {p begin comma end : Place} {shape : ShapeRef} {axis : Box Expr Global} {e : Box Expr Global} → e.value ≡ E.DimOf p shape axis → Marked tokens M.DimOf a p b → Opened tokens M.LeftParen around b begin c → IsRead IsShape Keeps tokens c shape d → Marked tokens M.Comma d comma f → Part tokens 0 (around + 1) f axis g → Marked tokens M.RightParen g end h → Part tokens 15 around a e h
dim_of is w l s k x r = part (rw is (X.dim_of _ w.spelled l.spelled s.spelled k.spelled x.spelled.spelled r.spelled)) (rw is (lit≤ tt)) (sizes.dim_of is) (omega arith) (omega arith) (omega arith) r.inside

pub scan : {tokens : List Token} {around : ℕ} {a b c d f g h : Spot} {p begin comma : Place} {source axis : Box Expr Global} {options : ScanOptions} {e : Box Expr Global} → e.value ≡ E.Scan p source axis options.combiner options.direction options.mode options.bit options.inclusion → Marked tokens M.Scan a p b → Opened tokens M.LeftParen around b begin c → Part tokens 0 (around + 1) c source d → Marked tokens M.Comma d comma f → Part tokens 0 (around + 1) f axis g → IsRead AreOptionsOfScan (λ all. AddsBit all.bit) tokens g options h → Part tokens 15 around a e h
scan is w l x k y o = part (rw is (X.scan _ _ w.spelled l.spelled x.spelled.spelled k.spelled y.spelled.spelled o.spelled)) (rw is (lit≤ tt)) (sizes.scan is) (omega arith) (omega arith) (omega arith) o.inside

pub enumerate : {tokens : List Token} {around : ℕ} {a b c d f : Spot} {p begin : Place} {axis : Box Expr Global} {options : EnumerateOptions} {e : Box Expr Global} → e.value ≡ E.Enumerate p axis options.direction options.inclusion options.mode options.bit → Marked tokens M.Enumerate a p b → Opened tokens M.LeftParen around b begin c → Part tokens 0 (around + 1) c axis d → IsRead AreOptionsOfEnumerate (λ all. AddsBit all.bit) tokens d options f → Part tokens 15 around a e f
enumerate is w l x o = part (rw is (X.enumerate _ w.spelled l.spelled x.spelled.spelled o.spelled)) (rw is (lit≤ tt)) (sizes.enumerate is) (omega arith) (omega arith) (omega arith) o.inside

pub call : {tokens : List Token} {around : ℕ} {a b c : Spot} {n : Name} (arguments : Vec Expr Global) {e : Box Expr Global} → e.value ≡ E.Call n arguments → Named tokens a n b → IsRead (listed AreArguments) (AddsParts (around + 1)) tokens b arguments c → Part tokens 15 around a e c
call arguments is n x = part (rw is (X.call _ n.spelled x.spelled)) (rw is (lit≤ tt)) (sizes.call arguments is) (omega arith) (omega arith) (omega arith) x.inside

pub left_index : {tokens : List Token} {around : ℕ} {a b c : Spot} {p : Place} {n : Name} (indexes : Vec Expr Global) {e : Box Expr Global} → e.value ≡ E.LeftIndex p indexes n → AreIndexes tokens a.at p indexes.items b.at → FitParts (around + 1) indexes.items a.operators b.operators → a.at < b.at → Named tokens b n c → Part tokens 15 around a e c
left_index indexes is i f forward n = part (rw is (X.left_index _ i n.spelled)) (rw is (lit≤ tt)) (sizes.left_index indexes is) (omega arith) (omega arith) (omega arith) n.inside

pub printf : {tokens : List Token} {around : ℕ} {a b c d f : Spot} {p begin : Place} {text : List ℕ} (none : Vec Expr Global) (arguments : Vec Expr Global) {e : Box Expr Global} → e.value ≡ E.Printf p text arguments → none.items ≡ [] → Marked tokens M.Printf a p b → Opened tokens M.LeftParen around b begin c → IsRead IsText Keeps tokens c text d → IsRead (IsRestOf none) (AddsMore (around + 1) none) tokens d arguments f → Part tokens 15 around a e f
printf none arguments is bare w l t r = let all = r.fits _ (no_parts _ bare (omega arith)) in part (rw is (X.printf _ w.spelled l.spelled t.spelled (rw bare at r.spelled))) (rw is (lit≤ tt)) (sizes.printf arguments is) (omega arith) (omega arith) (omega arith) r.inside

-- ---- the same expression, of which less is said

pub weakened : {tokens : List Token} {around more : ℕ} {a b : Spot} (least : ℕ) {e : Box Expr Global} → least ≤ more → Part tokens more around a e b → Part tokens least around a e b
weakened least below x = record { spelled = record { spelled = x.spelled.spelled; strong = omega (arith, x.spelled.strong) }; fits = x.fits; forward = x.forward; inside = x.inside }

pub weakened_result : (tokens : List Token) (around : ℕ) (a b : Spot) {more : ℕ} (least : ℕ) → least ≤ more → (result : Result (Box Expr Global) ParseFault) → Reads (IsOperand more) (AddsPart around) tokens a b result → Reads (IsOperand least) (AddsPart around) tokens a b result
weakened_result tokens around a b {more} least below (Ok e) x = weakened {more = more} least below x
weakened_result tokens around a b least below (Err fault) x = x

-- an expression whose operators are counted from 0
pub whole_result : (tokens : List Token) (around : ℕ) (a b old : Spot) (result : Result (Box Expr Global) ParseFault) → a.at ≡ old.at → a.operators ≡ 0 → Reads (IsOperand 0) (AddsPart around) tokens a b result → Reads (IsOperand 0) (FitsWhole around) tokens old b result
whole_result tokens around a b old (Ok e) here none x = record { spelled = rw here at x.spelled; fits = whole b.few (rw none at x.fits); forward = omega arith; inside = x.inside }
whole_result tokens around a b old (Err fault) here none x = x

-- ---- indexes and arguments

pub indexed : {tokens : List Token} {around : ℕ} {a b c d : Spot} {p end : Place} {e : Box Expr Global} → Opened tokens M.LeftBracket around a p b → Part tokens 0 (around + 1) b e c → Marked tokens M.RightBracket c end d → IsRead IsIndexed (AddsIndex around) tokens a (p, e) d
indexed l x r = record { spelled = X.index_is l.spelled x.spelled.spelled r.spelled; fits = record { deep = x.fits.deep; counted = omega arith }; forward = omega arith; inside = r.inside }

pub no_arguments : {tokens : List Token} {around : ℕ} {a b c : Spot} {begin end : Place} {none : Vec Expr Global} → none.items ≡ [] → Opened tokens M.LeftParen around a begin b → Marked tokens M.RightParen b end c → IsRead (listed AreArguments) (AddsParts (around + 1)) tokens a none c
no_arguments bare l r = record { spelled = rw bare (X.no_arguments l.spelled r.spelled); fits = rw (r.fits, l.fits.1) (no_parts _ bare (omega arith)); forward = omega arith; inside = r.inside }

pub some_arguments : {tokens : List Token} {around : ℕ} {a b c d : Spot} {begin : Place} {first : Box Expr Global} {all : Vec Expr Global} (one : Vec Expr Global) → one.items ≡ first.value ∷ [] → Opened tokens M.LeftParen around a begin b → Part tokens 0 (around + 1) b first c → IsRead (IsRestOf one) (AddsMore (around + 1) one) tokens c all d → IsRead (listed AreArguments) (AddsParts (around + 1)) tokens a all d
some_arguments one single l x r = record { spelled = X.some_arguments l.spelled x.spelled.spelled (rw single at r.spelled); fits = r.fits _ (rw single (one_part (record { deep = x.fits.deep; counted = omega arith }))); forward = omega arith; inside = r.inside }
