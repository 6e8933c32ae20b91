-- A chain of casts of a constant, in the text and in the typed tree.
use Rattle.std.proofs.Common.{◌≡◌, ℕ, ◌<◌, ◌^◌, List, [], ◌∷◌, map, Option, Some, None, IfSome, Box, Vec, refl, sym, ap, ◌∙◌}
use Rattle.std.specs.Option.{option_map}
use Rattle.std.specs.declared.alloc.Global.{Global}
use Rattle.std.proofs.lemmas.Bool.{eq-eqb}
use Rattle.cstar_base.specs.declared.elem.Elem.{Elem}
use Rattle.cstar_base.specs.Numbers.{converted}
use Rattle.cstar_tree.specs.declared.syntax.Cast.{Cast}
use Rattle.cstar_tree.specs.declared.typed.TExpr.{TExpr}
use Rattle.cstar_tree.specs.declared.typed.TExpr as T
use Rattle.cstar_tree.specs.Constants.{Constant, cast_to}
use Rattle.cstar_tree.specs.Constants as C
use Rattle.cstar_tree.specs.Conversions.{scalar}
use Rattle.cstar_tree.specs.ExpressionTypes.{cast_elem}
use Rattle.cstar_tree.specs.Typed.{type_of}
use Rattle.source_meaning.specs.Constants.{is_constant, value_of}
use Rattle.source_meaning.specs.Values.{cast_through, cast_type}
use Rattle.constant_trees.specs.Laws.{IsAsWritten}
use Rattle.constant_trees.proofs.Bringing.{both_true, converted_fits, right_false}
use Rattle.constant_trees.proofs.Words.{then_mapped}

abbrev elems_of : List Cast → List Elem
elems_of chain = map (λ (c : Cast). c.elem) chain

elem_through : (chain : List Cast) (k : Constant) → (C.cast_through chain k).elem ≡ cast_elem chain k.elem
unfolding C.cast_through cast_to
elem_through [] k = refl
elem_through (c ∷ cs) k = refl

type_through : (chain : List Cast) (from : Elem) → cast_type (elems_of chain) from ≡ cast_elem chain from
unfolding cast_type
type_through [] from = refl
type_through (c ∷ cs) from = refl

no_cast : (word : Option ℕ) → word ≡ option_map (λ w. w) word
no_cast None = refl
no_cast (Some w) = refl

one_more : (elem from of : Elem) (word inner : Option ℕ) (through : ℕ → ℕ) → from ≡ of → inner ≡ option_map through word → option_map (converted elem from) inner ≡ option_map (λ w. converted elem of (through w)) word
one_more elem from of word inner through from_is inner_is = ap (λ (e : Elem). option_map (converted elem e) inner) from_is ∙ (ap (option_map (converted elem of)) inner_is ∙ both word)
  where
    both : (o : Option ℕ) → option_map (converted elem of) (option_map through o) ≡ option_map (λ w. converted elem of (through w)) o
    both None = refl
    both (Some w) = refl

word_through : (chain : List Cast) (k : Constant) → (C.cast_through chain k).word ≡ option_map (cast_through (elems_of chain) k.elem) k.word
unfolding C.cast_through cast_to cast_through
word_through [] k = no_cast k.word
word_through (c ∷ cs) k =
    one_more c.elem (C.cast_through cs k).elem (cast_type (elems_of cs) k.elem) k.word (C.cast_through cs k).word (cast_through (elems_of cs) k.elem) (elem_through cs k ∙ sym (type_through cs k.elem)) (word_through cs k)

fits_through : (chain : List Cast) (k : Constant) → IfSome k.word (λ w. w < 2 ^ k.elem.bits) → IfSome (C.cast_through chain k).word (λ w. w < 2 ^ (C.cast_through chain k).elem.bits)
unfolding C.cast_through cast_to
fits_through [] k fits = fits
fits_through (c ∷ cs) k fits = converted_fits c.elem (C.cast_through cs k).elem (C.cast_through cs k).word

pub casts : (chain : Vec Cast Global) (elems : Vec Elem Global) (k : Option Constant) (x : Box TExpr Global) → elems.items ≡ elems_of chain.items → IsAsWritten k x.value →
    IsAsWritten (option_map (C.cast_through chain.items) k) (T.Casts (scalar (cast_elem chain.items (type_of x.value).elem)) elems x)
unfolding is_constant value_of
casts chain elems None x are h = right_false _ (is_constant x.value) h
casts chain elems (Some k) x are g =
    let of = (type_of x.value).elem in
    let outermost : cast_elem chain.items of ≡ cast_type elems.items of = sym (ap (λ (es : List Elem). cast_type es of) are ∙ type_through chain.items of) in
    record {
      form = both_true _ _ (both_true _ _ refl (eq-eqb (cast_elem chain.items of).bits (cast_type elems.items of).bits (ap (λ (e : Elem). e.bits) outermost))) g.form;
      scalar = refl;
      elem = ap (cast_elem chain.items) g.elem ∙ sym (elem_through chain.items k);
      value =
          then_mapped (cast_through elems.items of) (value_of x.value) ∙ (ap (λ (es : List Elem). option_map (cast_through es of) (value_of x.value)) are
          ∙ (ap (λ (e : Elem). option_map (cast_through (elems_of chain.items) e) (value_of x.value)) g.elem
          ∙ (ap (option_map (cast_through (elems_of chain.items) k.elem)) g.value ∙ sym (word_through chain.items k))));
      fits = fits_through chain.items k g.fits;
    }
