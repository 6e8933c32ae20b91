-- What a memory holds of the open variables of blocks behind an instruction that writes one field, or flags.
use Rattle.std.proofs.Common.{◌≡◌, ℕ, ◌+◌, ◌<◌, ◌≤◌, length, refl, arith}
use Rattle.paris_code.specs.declared.operands.Field.{Field}
use Rattle.paris_code.specs.Memory.{BitMemory, field_number}
use Rattle.paris_code.specs.Shapes.{bits_at}
use Rattle.paris_code.specs.Spans.{IsNamedAt}
use Rattle.source_meaning.specs.State.{State}
use Rattle.code_follows.proofs.Settings.{Setting, start}
use Rattle.fields_follow.proofs.FileFields.{Apart, apart_back}
use Rattle.fields_follow.proofs.Instructions.{place, shapes}
use Rattle.fields_follow.proofs.Locals.{HoldsLocals, IsNoHome, locals_on}
use Rattle.fields_follow.proofs.Places.{IsOwnField, PlacesFields}

-- a memory differs from another one in this field alone
abbrev pub DiffersIn : Field → BitMemory → BitMemory → Type 0
DiffersIn d m other = (f : Field) (p : ℕ) → Apart d f → field_number other f p ≡ field_number m f p

module _ (g : Setting) (places : PlacesFields g) (lives : ℕ → Type 0) where
  -- Behind an instruction that writes an own entry of none of them: the entry of one that is in use behind it is apart from
  -- that.
  pub behind_own_at : (at from to : ℕ) (h : Field) (st : State) (m other : BitMemory) → from ≡ start g + at → from + 1 ≤ to → IsOwnField g h → h.set < length (shapes g) → IsNamedAt g.unit h.offset at → IsNoHome g lives h.offset → DiffersIn (place g h) m other → HoldsLocals g lives from st m → HoldsLocals g lives to st other
  behind_own_at at from to h st m other there later own exists named none differs =
      locals_on g lives from to st st m other (omega (arith, later))
      (λ k info f living is holds used p below. differs (place g f) p (apart_back (place g f) (place g h)
      (places.owns_apart_at f h holds.first at (λ same. none k f.offset living is.home same) is.own own exists holds.named (let early = holds.before in omega (arith, early, there)) (λ span used_so. let late = used span used_so in omega (arith, late, there, later)) named))) (λ k living p. refl)

  -- behind one that writes flags alone, which stand above all fields
  pub behind_flags : (at to : ℕ) (st : State) (m other : BitMemory) → at ≤ to → ((f : Field) (p : ℕ) → f.offset + f.len ≤ bits_at (shapes g) f.set → field_number other f p ≡ field_number m f p) → HoldsLocals g lives at st m → HoldsLocals g lives to st other
  behind_flags at to st m other later same = locals_on g lives at to st st m other later (λ k info f living is holds used p below. same (place g f) p holds.ends) (λ k living p. refl)
