-- Where the variables of a typed program are, as one of its instances sees it.
use Rattle.std.specs.Prelude.{ℕ, ◌+◌, ◌==◌, if◌then◌else◌, List, [], ◌∷◌, ◌++◌, length, fold, slice_get, Option, Some, None}
use Rattle.std.specs.Cmp.Lexicographic.{pointwise}
use Rattle.cstar_tree.specs.declared.typed.Instance.{Instance}
use Rattle.cstar_tree.specs.declared.typed.Typed.{Typed}
use Rattle.cstar_tree.specs.declared.typed.VarInfo.{VarInfo}
use Rattle.cstar_tree.specs.declared.typed.Variable.{Variable}
use Rattle.cstar_tree.specs.declared.typed.Variable.TheVariants as V
use Rattle.cstar_tree.specs.Variables.{variables_of}
use Rattle.paris_code.specs.declared.operands.Field.{Field}
use Rattle.paris_code.specs.declared.program.Owner.TheVariants as W
use Rattle.lower_base.specs.declared.names.LocalName.{LocalName}
use Rattle.lower_base.specs.declared.names.Names.{Names}
use Rattle.lower_base.specs.Drafts.{Draft, Made, Makes, from, an_entry}

-- For each variable of the file the number of its first field, for each instance its first register
-- with the first that no variable has behind them, the constants that stand in registers from there
-- on, and of this instance: its first register, the entries of its parameters and of its result, and
-- the variables of its blocks.
pub record Layout : Type 0 where
  pub files : List ℕ
  pub bases : List ℕ
  pub end : ℕ
  pub constants : List ℕ
  pub base : ℕ
  pub params : List ℕ
  pub outcome : ℕ
  pub locals : List LocalName

unfoldable pub layout : Names → Layout
layout names = record {
  files = names.files.items;
  bases = names.bases.items;
  end = names.end;
  constants = names.constants.items;
  base = names.base;
  params = names.params.items;
  outcome = names.outcome;
  locals = names.locals.items;
}

-- how many fields a variable has: none, one, or one for each element
unfoldable pub entries_of : VarInfo → ℕ
entries_of info = elim info.shape [ None ↦ 0 | Some s ↦ elim info.array [ None ↦ 1 | Some n ↦ n ] ]

-- how many elements an array has
unfoldable pub elements_of : Typed → Layout → Variable → ℕ
elements_of t l (V.File k) = elim (slice_get t.vars.items k) [ None ↦ 0 | Some info ↦ entries_of info ]
elements_of t l (V.Param k) = 1
elements_of t l (V.Local k) = elim (slice_get l.locals k) [ None ↦ 0 | Some name ↦ name.entries ]

-- the register of a scalar result, which stands behind the parameters
unfoldable pub result_register : Layout → ℕ
result_register l = l.base + length l.params

-- the register of a scalar variable
unfoldable pub register_of : Layout → Variable → ℕ
register_of l (V.File k) = k
register_of l (V.Param k) = l.base + k
register_of l (V.Local k) = result_register l + 1 + k

-- the field of an entry of the unit
unfoldable pub own_field : ℕ → Draft → Made Field
own_field index d =
    from (slice_get d.fields index) (λ entry. Makes (record { set = entry.set; offset = index; len = entry.len }) d)

-- the field of a parallel variable, or of an element of an array; one of the file gets an entry here
unfoldable pub field_of : Typed → Layout → Variable → ℕ → Draft → Made Field
field_of t l (V.File k) element d =
    from (slice_get t.vars.items k) (λ info. from (slice_get l.files k) (λ first. from info.shape
    (λ set. an_entry set info.elem.bits (W.File (first + element)) d)))
field_of t l (V.Param k) element d = from (slice_get l.params k) (λ index. own_field index d)
field_of t l (V.Local k) element d =
    from (slice_get l.locals k) (λ name. from (slice_get d.homes name.home) (λ home. own_field (home + element) d))

-- the number of the first field of each variable, from this one on
unfoldable pub first_fields : ℕ → List VarInfo → List ℕ
first_fields next [] = []
first_fields next (info ∷ infos) = next ∷ first_fields (next + entries_of info) infos

-- the number behind a variable, where the parallel ones are counted
unfoldable pub behind : ℕ → VarInfo → ℕ
behind next info = elim info.shape [ None ↦ next | Some _ ↦ next + 1 ]

-- the entry of each parameter, from this one on
unfoldable pub param_entries : ℕ → List VarInfo → List ℕ
param_entries next [] = []
param_entries next (info ∷ infos) = next ∷ param_entries (behind next info) infos

-- the variables of blocks that are numbered so far, and how many of them are parallel
pub record Numbering : Type 0 where
  pub locals : List LocalName
  pub homes : ℕ

unfoldable pub with_local : Numbering → VarInfo → Numbering
with_local n info = record {
  locals = n.locals ++ record { home = n.homes; entries = entries_of info } ∷ [];
  homes = behind n.homes info;
}

unfoldable pub numbered : List VarInfo → Numbering → Numbering
numbered infos n = fold with_local n infos

abbrev pub nothing_numbered : Numbering
nothing_numbered = record { locals = []; homes = 0 }

-- the number of the first instance with a name
unfoldable pub first_named : ℕ → List ℕ → List Instance → Option ℕ
first_named k name [] = None
first_named k name (instance ∷ instances) = if pointwise ◌==◌ instance.name name then Some k else first_named (k + 1) name instances

-- the first registers of instances so far, and the first register that none of them has
pub record Registers : Type 0 where
  pub bases : List ℕ
  pub end : ℕ

-- where an earlier instance of the same function begins
unfoldable pub earlier_base : List Instance → Registers → Instance → Option ℕ
earlier_base instances r instance =
    elim (first_named 0 instance.name instances) [ None ↦ None | Some k ↦ slice_get r.bases k ]

-- instances of one function share their registers, those of its parameters, its result and the
-- variables of its blocks; another function has its own behind all others
unfoldable pub with_instance : List Instance → Registers → Instance → Registers
with_instance instances r instance =
    elim (earlier_base instances r instance) [
      | Some base ↦ record r { bases = r.bases ++ base ∷ [] }
      | None ↦ record {
        bases = r.bases ++ r.end ∷ [];
        end = r.end + length (numbered (variables_of instance.body) nothing_numbered).locals + length instance.params.items + 1;
      }
    ]

unfoldable pub registers_of : List Instance → ℕ → Registers
registers_of instances variables = fold (with_instance instances) (record { bases = []; end = variables }) instances

-- the numbering as an instance sees it
unfoldable pub entered : Typed → ℕ → Layout → Layout
entered t n l =
    let own : Option Instance = slice_get t.instances.items n in
    let params : List VarInfo = elim own [ None ↦ [] | Some instance ↦ instance.params.items ] in
    let variables : List VarInfo = elim own [ None ↦ [] | Some instance ↦ variables_of instance.body ] in
    record l {
      base = elim (slice_get l.bases n) [ None ↦ 0 | Some base ↦ base ];
      params = param_entries 0 params;
      outcome = fold behind 0 params;
      locals = (numbered variables nothing_numbered).locals;
    }

-- The numbering of a typed program: the variables of the file have the first registers, the
-- instances those behind them, and constants come last.
unfoldable pub layout_of : Typed → List ℕ → ℕ → Layout
layout_of t words n =
    let registers : Registers = registers_of t.instances.items (length t.vars.items) in
    entered t n (record {
      files = first_fields 0 t.vars.items;
      bases = registers.bases;
      end = registers.end;
      constants = words;
      base = 0;
      params = [];
      outcome = 0;
      locals = [];
    })
