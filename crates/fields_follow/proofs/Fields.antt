-- What a memory holds of a state: in the fields of the file the numbers of its parallel variables.
use Rattle.std.proofs.Common.{arith, refl, ◌≡◌, ◌∙◌, ℕ, ◌<◌, ◌^◌, length, subst, sym}
use Rattle.cstar_tree.specs.declared.typed.Typed.{Typed}
use Rattle.cstar_tree.specs.declared.typed.VarInfo.{VarInfo}
use Rattle.cstar_tree.specs.declared.typed.Variable.TheVariants as V
use Rattle.paris_code.specs.declared.program.Image.{Image}
use Rattle.paris_code.specs.Memory.{BitMemory, field_number, is_active, processors}
use Rattle.paris_code.specs.Shapes.{shapes_of}
use Rattle.source_meaning.specs.State.{State}
use Rattle.source_meaning.specs.Values.{Active}
use Rattle.code_follows.proofs.Settings.{Setting, Held}
use Rattle.fields_follow.specs.Fields.{IsElement, file_field}
use Rattle.fields_follow.proofs.Bits.{AreBits}
use Rattle.fields_follow.proofs.Locals.{HoldsLocals, locals_on, locals_fewer}

-- At every position the fields have the numbers of the variables; these are numbers of their types, beyond the positions
-- too; these positions are active; every bit is 0 or 1.
pub record HoldsFields (t : Typed) (image : Image) (active : Active) (st : State) (m : BitMemory) : Type 0 where
  pub numbers : (k element set p : ℕ) (info : VarInfo) → IsElement t k info set element → p < processors (shapes_of image) set → field_number m (file_field t image k element) p ≡ st.parallel (V.File k) element p
  pub small : (k element set p : ℕ) (info : VarInfo) → IsElement t k info set element → st.parallel (V.File k) element p < 2 ^ info.elem.bits
  pub flags : (set p : ℕ) → set < length (shapes_of image) → p < processors (shapes_of image) set → is_active (shapes_of image) m set p ≡ active set p
  pub winner : m.winner ≡ st.winner
  pub bits : AreBits (shapes_of image) m

-- the numbers alone, wherever a run ends
abbrev pub HoldsNumbers : Typed → Image → State → BitMemory → Type 0
HoldsNumbers t image st m = (k element set p : ℕ) (info : VarInfo) → IsElement t k info set element → p < processors (shapes_of image) set → field_number m (file_field t image k element) p ≡ st.parallel (V.File k) element p

-- the memory keeps the numbers of the parallel variables of the file and of those of blocks that are open, and which
-- positions are active, through every scalar part of the program
abbrev pub fields_held : Setting → Active → Held
fields_held g active = record {
  holds = λ live at st m. HoldsFields g.typed g.image active st m × HoldsLocals g live at st m;
  ends = HoldsNumbers g.typed g.image;
  finally = λ live at st m h. h.0.numbers;
  still = λ live at st u m same winner h. (
    record {
      numbers = λ k e set p info is below. h.0.numbers k e set p info is below ∙ sym (same.0 k e p);
      small = λ k e set p info is. subst (λ (n : ℕ). n < 2 ^ info.elem.bits) (sym (same.0 k e p)) (h.0.small k e set p info is);
      flags = h.0.flags;
      winner = h.0.winner ∙ sym winner;
      bits = h.0.bits;
    },
    locals_on g live at at st u m m (omega arith) (λ k info f living is holds used p below. refl) (λ k living p. same.1 k living 0 p) h.1,
  );
  onward = λ live at to st m behind h. (h.0, locals_on g live at to st st m m behind (λ k info f living is holds used p below. refl) (λ k living p. refl) h.1);
  fewer = λ more less at st m among h. (h.0, locals_fewer g more less at st m among h.1);
}
