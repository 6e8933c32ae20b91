-- What follows of a piece of code that is there: so are its parts.
use Rattle.std.proofs.Common.{◌≡◌, ℕ}
use Rattle.lower_base.specs.declared.emit.Out.{Out}
use Rattle.lower_base.specs.declared.emit.Out.TheVariants as O
use Rattle.lower_base.specs.Drafts.{Draft, Made, Makes, Fails, IsMade, InField, InRegister, in_field, in_register, then_make}
use Rattle.paris_code.specs.declared.operands.Field.{Field}

-- the same code is there too
pub made_too : {A : Type 0} (m n : Made A) → m ≡ n → IsMade n → IsMade m
made_too m n e made = rw e made

-- the first of two pieces
pub first_made : {A B : Type 0} (m : Made A) (next : A → Draft → Made B) → IsMade (then_make m next) → IsMade m
unfolding then_make IsMade
first_made (Makes x d) next made = tt
first_made Fails next made = made

-- the second, behind what the first made
pub second_made : {A B : Type 0} (m : Made A) (next : A → Draft → Made B) (x : A) (after : Draft) → m ≡ Makes x after → IsMade (then_make m next) → IsMade (next x after)
unfolding then_make
second_made m next x after e made = rw e at made

-- a value stands where one that is wanted there has code
pub stands_in_register : {B : Type 0} (v : Out) (next : ℕ → Made B) → IsMade (in_register v next) → InRegister v
unfolding in_register IsMade InRegister
stands_in_register (O.Scalar r) next made = tt
stands_in_register (O.Field f) next made = made
stands_in_register O.Nothing next made = made

pub stands_in_field : {B : Type 0} (v : Out) (next : Field → Made B) → IsMade (in_field v next) → InField v
unfolding in_field IsMade InField
stands_in_field (O.Scalar r) next made = made
stands_in_field (O.Field f) next made = tt
stands_in_field O.Nothing next made = made
