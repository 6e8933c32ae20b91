-- Which widths and readings are element types of the language.
use Rattle.std.specs.Prelude.{ℕ, Bool, not, ◌&&◌, ◌||◌, ◌==◌}

-- `bool` is one unsigned bit; the others have 8, 16 or 32 bits, signed or not
abbrev pub is_kind : ℕ → Bool → Bool
is_kind bits signed = (bits == 1 && not signed) || bits == 8 || bits == 16 || bits == 32
