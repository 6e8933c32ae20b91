-- Reading a text by its open parts.
use Rattle.std.specs.Prelude.{ℕ, ◌+◌, Bool, true, false, List, [], ◌∷◌, ◌++◌, map, drop, Option, Some, None, if◌then◌else◌, ◌&&◌}
use Rattle.cstar_tree.specs.declared.token.Token.{Token}
use Rattle.cstar_tree.specs.declared.token.Kind.{Kind}
use Rattle.grammar_parts.specs.Parts.{Part, Action, take_it, enter, skip, refuse}
use Rattle.grammar_parts.specs.Actions.{act}

-- the parts that are open behind a token that some action takes
abbrev pub entered : Action → List Part → Option (List Part)
entered (take_it n parts) behind = Some (parts ++ behind)
entered _ behind = None

abbrev pub stepped : Action → Kind → List Part → Option (List Part) → Option (List Part)
stepped (take_it n parts) kind behind skipped = Some (parts ++ behind)
stepped (enter p parts) kind behind skipped = entered (act p (Some kind)) (parts ++ behind)
stepped skip kind behind skipped = skipped
stepped refuse kind behind skipped = None

-- the parts that are open behind a token, if it can stand where these are open
unfoldable pub step : List Part → Kind → Option (List Part)
step [] kind = None
step (p ∷ behind) kind = stepped (act p (Some kind)) kind behind (step behind kind)

abbrev pub is_skipped : Action → Bool
is_skipped skip = true
is_skipped _ = false

-- whether the text can end where these are open
unfoldable pub may_end : List Part → Bool
may_end [] = true
may_end (p ∷ behind) = is_skipped (act p None) && may_end behind

-- the parts that are open behind tokens of these kinds
unfoldable pub open_behind : List Part → List Kind → Option (List Part)
open_behind parts [] = Some parts
open_behind parts (kind ∷ kinds) = elim (step parts kind) [ Some next ↦ open_behind next kinds | None ↦ None ]

-- the number of the first token that cannot stand, counted from `at`, or None where the whole text is
-- read
unfoldable pub fate : List Kind → ℕ → List Part → Option ℕ
fate [] at parts = if may_end parts then None else Some at
fate (kind ∷ kinds) at parts = elim (step parts kind) [ Some next ↦ fate kinds (at + 1) next | None ↦ Some at ]

abbrev pub kinds_from : List Token → ℕ → List Kind
kinds_from tokens at = map (λ (t : Token). t.kind) (drop at tokens)

-- the same of the tokens of a text from a position on
unfoldable pub reach : List Token → ℕ → List Part → Option ℕ
reach tokens at parts = fate (kinds_from tokens at) at parts
