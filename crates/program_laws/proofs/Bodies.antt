-- What the expressions in the body of a function name and call, the function does.
use Rattle.std.proofs.Common.{◌≡◌, ℕ, ◌+◌, zero, suc, List, [], ◌∷◌, ◌++◌, Bool, true, false, bytes_eq, is_some, length, Option, Some, None, arith, refl, sym, ap, ◌∙◌, if◌then◌else◌}
use Rattle.std.specs.List.{Contains, slice_get}
use Rattle.std.proofs.lemmas.Option.{slice_get_read}
use Rattle.cstar_tree.specs.declared.syntax.Expr.{Expr}
use Rattle.cstar_tree.specs.declared.syntax.Parameter.{Parameter}
use Rattle.cstar_tree.specs.declared.syntax.Tree.{Tree}
use Rattle.cstar_tree.specs.declared.typed.Variable.{Variable}
use Rattle.cstar_tree.specs.declared.typed.Variable.TheVariants as V
use Rattle.cstar_tree.specs.BlockScopes.{declared_type}
use Rattle.cstar_tree.specs.Calls.{Call, calls_in_block}
use Rattle.cstar_tree.specs.FileScopes.{file_functions, file_known}
use Rattle.cstar_tree.specs.Headers.{Leads, Placed, Reached, behind_parameter, behind_parameters, body_place, calls_it, header_place, is_it, plain_type}
use Rattle.cstar_tree.specs.Instances.{called_from, calls_of, calls_of_placed, program_of}
use Rattle.cstar_tree.specs.Scopes.{Binding, Here, Meaning, Names, VariableType, a_function, a_variable, declared, find, meaning, written_type}
use Rattle.program_laws.specs.Bodies.{BlocksCallWhatIsCalled, BodiesCallWhatIsCalled}
use Rattle.program_laws.proofs.AmongCalls.{IsAmong, block_among, has_function}
use Rattle.program_laws.proofs.InBlocks.{IsKept, in_block_at, in_block_both, in_block_map}
use Rattle.program_laws.proofs.SameCalls.{alike_itself, body_same, functions_of}

-- ---- the calls of a function of the file

abbrev at_number : ℕ → Reached
at_number n = record { function = n; current = None }

listed : (shapes : List (List ℕ)) (functions : List Placed) (n : ℕ) (rest : List Placed) (k : ℕ) (placed : Placed) → slice_get rest k ≡ Some placed
    → slice_get (called_from shapes functions n rest) k ≡ Some (functions_of (calls_of shapes functions (at_number (n + k))))
unfolding called_from
listed shapes functions n [] k placed is = absurd (cc)
listed shapes functions n (p ∷ rest) zero placed is =
    ap (λ (m : ℕ). Some (functions_of (calls_of shapes functions (at_number m)))) (let e : n ≡ n + 0 = omega arith in e)
listed shapes functions n (p ∷ rest) (suc k) placed is =
    listed shapes functions (n + 1) rest k placed is
    ∙ ap (λ (m : ℕ). Some (functions_of (calls_of shapes functions (at_number m)))) (let e : (n + 1) + k ≡ n + suc k = omega arith in e)

of_placed : (shapes : List (List ℕ)) (functions : List Placed) (r : Reached) (placed : Placed) → slice_get functions r.function ≡ Some placed → calls_of shapes functions r ≡ calls_in_block placed.function.body (body_place shapes placed r)
unfolding calls_of
of_placed shapes functions r placed is = ap (calls_of_placed shapes r) is

leads : (tree : Tree) (r : Reached) (placed : Placed) → slice_get (file_functions tree) r.function ≡ Some placed
    → (g : ℕ) → Contains (functions_of (calls_in_block placed.function.body (body_place (file_known tree).shapes placed r))) g → Leads (program_of tree).calls r.function g
leads tree r placed is g h =
    let shapes = (file_known tree).shapes in
    let functions = file_functions tree in
    let own = functions_of (calls_in_block placed.function.body (body_place shapes placed r)) in
    let number : 0 + r.function ≡ r.function = omega arith in
    let found =
    listed shapes functions 0 functions r.function placed is
    ∙ ap (λ (n : ℕ). Some (functions_of (calls_of shapes functions (at_number n)))) number
    ∙ ap (λ (cs : List Call). Some (functions_of cs)) (of_placed shapes functions (at_number r.function) placed is)
    ∙ ap (λ (fs : List ℕ). Some fs) (body_same shapes placed (at_number r.function) r) in
    calls_it h.0 found (slice_get_read own (length own) h.0 g refl h.1 (sym h.2)) is_it

pub blocks_call : BlocksCallWhatIsCalled
blocks_call tree r placed is c h = leads tree r placed is c.function (has_function (calls_in_block placed.function.body (body_place (file_known tree).shapes placed r)) c h)

-- ---- places in a body: local names only hide

abbrev OnlyHide : List Binding → List Binding → Type 0
OnlyHide known names = (word : List ℕ) (g : ℕ) → find names word ≡ Some (a_function g) → find known word ≡ Some (a_function g)

record IsWithin (placed : Placed) (f : ℕ) (here : Here) : Type 0 where
  pub around : here.around ≡ Some f
  pub named : OnlyHide placed.known (here.names.inner ++ here.names.outer)

hides : (c : Bool) (v : Variable) (t : Option VariableType) (m : Option Meaning) (g : ℕ) → (if c then Some (a_variable v t) else m) ≡ Some (a_function g) → m ≡ Some (a_function g)
hides true v t m g is = absurd (cc)
hides false v t m g is = is

hides_if_new : (known : List Binding) (a : Names) (word : List ℕ) (v : Variable) (t : Option VariableType) (m : Option Meaning) → OnlyHide known (a.inner ++ a.outer)
    → let names : Names = if is_some m then a else record { inner = record { word = word; meaning = a_variable v t } ∷ a.inner; outer = a.outer } in OnlyHide known (names.inner ++ names.outer)
unfolding find
hides_if_new known a word v t None only x g is = only x g (hides (bytes_eq word x) v t (find (a.inner ++ a.outer) x) g is)
hides_if_new known a word v t (Some m) only x g is = only x g is

hides_declared : (known : List Binding) (a : Names) (word : List ℕ) (v : Variable) (t : Option VariableType) → OnlyHide known (a.inner ++ a.outer) → OnlyHide known ((declared a word (a_variable v t)).inner ++ (declared a word (a_variable v t)).outer)
hides_declared known a word v t only = hides_if_new known a word v t (find a.inner word) only

kept : (placed : Placed) (f : ℕ) → IsKept (IsWithin placed f)
kept placed f = record {
  declared = λ here ty d p. record { around = p.around; named = hides_declared placed.known here.names d.name.word (V.Local here.locals) (declared_type here ty d.length) p.named };
  block = λ here p. record { around = p.around; named = p.named };
  behind = λ here s p. record { around = p.around; named = p.named };
  in_loop = λ here p. record { around = p.around; named = p.named };
  under = λ here shape p. record { around = p.around; named = p.named };
  whole = λ here p. record { around = p.around; named = p.named };
}

behind_header : (placed : Placed) (f : ℕ) (here : Here) (n : ℕ) (ps : List Parameter) → IsWithin placed f here → IsWithin placed f (behind_parameters here n ps)
unfolding behind_parameters
behind_header placed f here n [] w = w
behind_header placed f here n (p ∷ ps) w =
    behind_header placed f (behind_parameter here n p) (n + 1) ps
    (record { around = w.around; named = hides_declared placed.known here.names p.name.word (V.Param n) (plain_type (written_type here p.type_name)) w.named })

in_body : (shapes : List (List ℕ)) (placed : Placed) (r : Reached) → IsWithin placed r.function (body_place shapes placed r)
in_body shapes placed r =
    behind_header placed r.function (header_place shapes placed r) 0 placed.function.parameters.items
    (record { around = refl; named = λ word g is. is })

-- ---- the expressions of a body

pub bodies_call : BodiesCallWhatIsCalled
unfolding meaning
bodies_call tree r placed is =
    let block = placed.function.body in
    let here = body_place (file_known tree).shapes placed r in
    let list = functions_of (calls_in_block block here) in
    let within = in_block_at (IsWithin placed r.function) (kept placed r.function) here block (in_body (file_known tree).shapes placed r) in
    let among = block_among list here here block (alike_itself here.names) (λ f h. h) in
    in_block_map (λ (h : Here) (e : Expr). IsWithin placed r.function h × IsAmong list h e) _
    (λ h e both. record { around = both.0.around; named = both.0.named; called = λ c inside. leads tree r placed is c.function (both.1 c inside) })
    here block (in_block_both (λ (h : Here) (e : Expr). IsWithin placed r.function h) (IsAmong list) here block within among)
