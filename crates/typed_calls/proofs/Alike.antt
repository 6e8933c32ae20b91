-- Places of one function at which names stand for the same functions. The variables may have other
-- numbers and types, and the current shape may be another.
use Rattle.std.proofs.Common.{◌≡◌, ℕ, List, [], ◌∷◌, ◌++◌, Bool, true, false, is_none, is_some, bytes_eq, Option, Some, None, refl, if◌then◌else◌}
use Rattle.cstar_tree.specs.declared.syntax.Declarator.{Declarator}
use Rattle.cstar_tree.specs.declared.syntax.Parameter.{Parameter}
use Rattle.cstar_tree.specs.declared.typed.ValueType.{ValueType}
use Rattle.cstar_tree.specs.declared.typed.Variable.{Variable}
use Rattle.cstar_tree.specs.declared.typed.Variable.TheVariants as V
use Rattle.cstar_tree.specs.BlockScopes.{behind_declarator, block_place, declared_type, in_loop}
use Rattle.cstar_tree.specs.Headers.{Placed, Reached, behind_parameter, behind_parameters, body_place, header_place}
use Rattle.cstar_tree.specs.Instances.{function_meant}
use Rattle.cstar_tree.specs.Scopes.{Here, Meaning, Names, VariableType, a_variable, as_whole, declared, find, index_place, meaning, part, under}

-- the words of the innermost scopes are the same, and each word stands for the same function
pub record AreAlike (base names : Names) : Type 0 where
  pub inner : (word : List ℕ) → is_none (find names.inner word) ≡ is_none (find base.inner word)
  pub all : (word : List ℕ) → function_meant (find (names.inner ++ names.outer) word) ≡ function_meant (find (base.inner ++ base.outer) word)

-- a place of the function of this number, at which names stand for the same functions as at the first
pub record IsAlike (f : ℕ) (base here : Here) : Type 0 where
  pub names : AreAlike base.names here.names
  pub around : here.around ≡ Some f

pub means_alike : {f : ℕ} {base here : Here} → IsAlike f base here → (word : List ℕ) → function_meant (meaning here word) ≡ function_meant (meaning base word)
unfolding meaning
means_alike a word = a.names.all word

-- ---- places with the same names

pub alike_part : {f : ℕ} {base here : Here} → IsAlike f base here → IsAlike f base (part here)
alike_part a = record { names = a.names; around = a.around }

pub alike_index : {f : ℕ} {base here : Here} (word : List ℕ) (axis : ℕ) → IsAlike f base here → IsAlike f base (index_place here word axis)
unfolding index_place
alike_index word axis a = record { names = a.names; around = a.around }

pub alike_whole : {f : ℕ} {base here : Here} → IsAlike f base here → IsAlike f base (as_whole here)
alike_whole a = record { names = a.names; around = a.around }

pub alike_loop : {f : ℕ} {base here : Here} → IsAlike f base here → IsAlike f base (in_loop here)
alike_loop a = record { names = a.names; around = a.around }

pub alike_behind : {f : ℕ} {base here : Here} (locals : ℕ) → IsAlike f base here → IsAlike f base (record here { locals = locals })
alike_behind locals a = record { names = a.names; around = a.around }

pub alike_under : {f : ℕ} {base here : Here} (shape : ℕ) → IsAlike f base here → IsAlike f base (under here shape)
alike_under shape a = record { names = a.names; around = a.around }

pub alike_both_under : {f : ℕ} {base here : Here} (wanted shape : ℕ) → IsAlike f base here → IsAlike f (under base wanted) (under here shape)
alike_both_under wanted shape a = record { names = a.names; around = a.around }

pub alike_block : {f : ℕ} {base here : Here} → IsAlike f base here → IsAlike f (block_place base) (block_place here)
alike_block a = record {
  names = record { inner = λ word. refl; all = a.names.all };
  around = a.around;
}

-- ---- a variable more

same_none : (c : Bool) (m n : Meaning) (x y : Option Meaning) → is_none x ≡ is_none y → is_none (if c then Some m else x) ≡ is_none (if c then Some n else y)
same_none true m n x y same = refl
same_none false m n x y same = same

same_function : (c : Bool) (v w : Variable) (s t : Option VariableType) (x y : Option Meaning) → function_meant x ≡ function_meant y → function_meant (if c then Some (a_variable v s) else x) ≡ function_meant (if c then Some (a_variable w t) else y)
same_function true v w s t x y same = refl
same_function false v w s t x y same = same

abbrev with_word : Names → List ℕ → Meaning → Names
with_word names word m = record { inner = record { word = word; meaning = m } ∷ names.inner; outer = names.outer }

alike_more : (base names : Names) (word : List ℕ) (v w : Variable) (s t : Option VariableType) → AreAlike base names → AreAlike (with_word base word (a_variable w t)) (with_word names word (a_variable v s))
unfolding find
alike_more base names word v w s t a = record {
  inner = λ x. same_none (bytes_eq word x) (a_variable v s) (a_variable w t) (find names.inner x) (find base.inner x) (a.inner x);
  all = λ x. same_function (bytes_eq word x) v w s t (find (names.inner ++ names.outer) x) (find (base.inner ++ base.outer) x) (a.all x);
}

alike_if_new : (base names : Names) (word : List ℕ) (v w : Variable) (s t : Option VariableType) → AreAlike base names → (x y : Option Meaning) → is_none x ≡ is_none y
    → AreAlike (if is_some y then base else with_word base word (a_variable w t)) (if is_some x then names else with_word names word (a_variable v s))
alike_if_new base names word v w s t a None None same = alike_more base names word v w s t a
alike_if_new base names word v w s t a None (Some y) same = cc
alike_if_new base names word v w s t a (Some x) None same = cc
alike_if_new base names word v w s t a (Some x) (Some y) same = a

alike_declared : (base names : Names) (word : List ℕ) (v w : Variable) (s t : Option VariableType) → AreAlike base names → AreAlike (declared base word (a_variable w t)) (declared names word (a_variable v s))
alike_declared base names word v w s t a = alike_if_new base names word v w s t a (find names.inner word) (find base.inner word) (a.inner word)

pub alike_declarator : {f : ℕ} (base here : Here) (d : Declarator) (wanted ty : Option ValueType) → IsAlike f base here → IsAlike f (behind_declarator base wanted d) (behind_declarator here ty d)
alike_declarator base here d wanted ty a = record {
  names = alike_declared base.names here.names d.name.word (V.Local here.locals) (V.Local base.locals) (declared_type here ty d.length) (declared_type base wanted d.length) a.names;
  around = a.around;
}

-- ---- the place of a body

around_parameters : {f : ℕ} (here : Here) (number : ℕ) (ps : List Parameter) → here.around ≡ Some f → (behind_parameters here number ps).around ≡ Some f
unfolding behind_parameters
around_parameters here number [] is = is
around_parameters here number (p ∷ ps) is = around_parameters (behind_parameter here number p) _ ps is

pub alike_body : (shapes : List (List ℕ)) (placed : Placed) (r : Reached) → IsAlike r.function (body_place shapes placed r) (body_place shapes placed r)
alike_body shapes placed r = record {
  names = record { inner = λ word. refl; all = λ word. refl };
  around = around_parameters (header_place shapes placed r) 0 placed.function.parameters.items refl;
}
