-- A function that runs: its setting, the registers that it spares, and what it knows of those that it calls.
use Rattle.std.proofs.Common.{◌≡◌, ◌∙◌, ℕ, ◌+◌, ◌<◌, ◌≤◌, ◌⊎◌, inl, inr, List, length, slice_get, Some, sym, ap, subst, arith}
use Rattle.std.specs.List.{Contains}
use Rattle.std.specs.Option.{option_map}
use Rattle.std.proofs.lemmas.Option.{slice_get-get_or, slice_get-map, slice_get_within}
use Rattle.cstar_compile.specs.Compiled.{IsCompiled}
use Rattle.cstar_tree.specs.declared.typed.Instance.{Instance}
use Rattle.cstar_tree.specs.declared.typed.Typed.{Typed}
use Rattle.cstar_tree.specs.declared.typed.VarInfo.{VarInfo}
use Rattle.cstar_tree.specs.declared.typed.Variable.{Variable}
use Rattle.cstar_tree.specs.declared.typed.Variable.TheVariants as V
use Rattle.cstar_tree.specs.Headers.{Leads, calls_it, is_it}
use Rattle.cstar_tree.specs.TypedParts.{calls_within}
use Rattle.code_lengths.specs.Naming.{variable_named}
use Rattle.code_lengths.specs.Ready.{IsCodable}
use Rattle.lower_base.specs.Constants.{constant_register, first_free}
use Rattle.lower_base.specs.Layouts.{layout_of, register_of}
use Rattle.paris_code.specs.declared.program.Image.{Image}
use Rattle.code_follows.specs.Fragment.{Beside, IsProgramBeside, IsScalarVariable, called_in, may_of}
use Rattle.code_follows.proofs.Besides.{under_held}
use Rattle.code_follows.proofs.Callees.{Callee}
use Rattle.code_follows.proofs.ConstantRegisters.{behind_variables, below_values}
use Rattle.code_follows.proofs.Following.{HasRegisters}
use Rattle.code_follows.proofs.Regions.{BeginsAsScalar, HasScalarInstances, IsOwn, base_at, base_behind, base_inside, local_own, own_apart, own_behind, own_inside, param_own, result_own, same_end, size_of}
use Rattle.code_follows.proofs.Settings.{Held, Setting}
use Rattle.code_follows.proofs.Units.{begins, begins_free, ends, has_registers, setting, the_words, values_apart}

-- a parallel variable of the file begins with 0
begins_as_scalar : (beside : Beside) (info : VarInfo) → IsScalarVariable info ⊎ (beside.variables info × (info.start ≡ 0)) → BeginsAsScalar info
begins_as_scalar beside info (inl scalar) = inl scalar
begins_as_scalar beside info (inr parallel) = inr parallel.1

module _ (t : Typed) (image : Image) {beside : Beside} (p : IsProgramBeside beside t) (codable : IsCodable t) (compiled : IsCompiled t image) where
  pub scalars : HasScalarInstances t
  scalars = record {
    each = λ k i is. let f = p.each k i is in (f.params, f.result);
    names = p.names;
    variables = λ k other inside. begins_as_scalar beside _ (p.variables k other inside).0;
  }

  abbrev pub words : List ℕ
  words = the_words t image scalars codable compiled

  abbrev pub first_of : ℕ → ℕ
  first_of number = begins t image scalars codable compiled number

  abbrev pub last_of : ℕ → ℕ
  last_of number = ends t image scalars codable compiled number

  -- a register is of an instance: of its variables, of its result or of its values
  abbrev pub IsOf : ℕ → Instance → ℕ → Type 0
  IsOf number i r = IsOwn t scalars words number i r ⊎ ((first_of number ≤ r) × (r < last_of number))

  -- what an instance, and those that it may call, can change beside the file's variables
  pub record Touches (number r : ℕ) : Type 0 where
    pub by : ℕ
    pub instance : Instance
    pub is : slice_get t.instances.items by ≡ Some instance
    pub leads : Leads (called_in t) number by
    pub of : IsOf by instance r

  -- and what it leaves as it is
  abbrev pub Spares : ℕ → ℕ → Type 0
  Spares number r = (length t.vars.items ≤ r) × (Touches number r → ⊥)

  pub touched : (number : ℕ) (i : Instance) (r : ℕ) → slice_get t.instances.items number ≡ Some i → IsOf number i r → Touches number r
  touched number i r is of = record { by = number; instance = i; is = is; leads = is_it; of = of }

  -- an instance in a run, with the calls that are open and the turns that are left at most
  abbrev pub activation : Held → (number : ℕ) (i : Instance) → slice_get t.instances.items number ≡ Some i → List ℕ → ℕ → Setting
  activation holding number i is returns most = setting t image scalars codable compiled number i is (λ r. Spares number r) returns most (may_of beside t i) holding

  -- a value stands behind all variables and constants
  behind_all : (number k r : ℕ) → first_of k ≤ r → first_free (layout_of t words number) ≤ r
  behind_all number k r low = let free = begins_free t image scalars codable compiled number k in omega (arith, free, low)

  -- where a register is of two instances they are one
  pub of_one : (j k : ℕ) (a b : Instance) (r : ℕ) → slice_get t.instances.items j ≡ Some a → slice_get t.instances.items k ≡ Some b → IsOf j a r → IsOf k b r → j ≡ k
  unfolding first_free
  of_one j k a b r is_j is_k (inl one) (inl other) = own_apart t scalars words j k a b r is_j is_k one other
  of_one j k a b r is_j is_k (inl one) (inr other) = let inside = own_inside t scalars words j a r is_j one in let free = behind_all j k r other.0 in absurd (omega (arith, inside, free))
  of_one j k a b r is_j is_k (inr one) (inl other) = let inside = own_inside t scalars words k b r is_k other in let free = behind_all k j r one.0 in absurd (omega (arith, inside, free))
  of_one j k a b r is_j is_k (inr one) (inr other) = values_apart t image scalars codable compiled j k r one.0 one.1 other.0 other.1

  -- a variable's register is the file's or the instance's
  pub variable_of : (number : ℕ) (i : Instance) → slice_get t.instances.items number ≡ Some i → (x : Variable) (info : VarInfo) → variable_named t i x ≡ Some info → (register_of (layout_of t words number) x < length t.vars.items) ⊎ IsOwn t scalars words number i (register_of (layout_of t words number) x)
  unfolding variable_named register_of
  variable_of number i is (V.File k) info named = inl (slice_get_within t.vars.items k info named)
  variable_of number i is (V.Param k) info named = inr (param_own t scalars words number i k info is named)
  variable_of number i is (V.Local k) info named = inr (local_own t scalars words number i k info is named)

  pub registers_there : (holding : Held) (number : ℕ) (i : Instance) (is : slice_get t.instances.items number ≡ Some i) (returns : List ℕ) (most : ℕ) → HasRegisters (activation holding number i is returns most)
  registers_there holding number i is returns most =
      has_registers t image scalars codable compiled number i is (λ r. Spares number r) returns most (may_of beside t i) holding variables (λ r spared low high. spared.1 (touched number i r is (inr (low, high))))
      (λ spared. spared.1 (touched number i _ is (inl (result_own t scalars words number i is))))
    where
      variables : (r : ℕ) → Spares number r → (x : Variable) (info : VarInfo) → variable_named t i x ≡ Some info → r ≡ register_of (layout_of t words number) x → ⊥
      variables r spared x info named e = by (variable_of number i is x info named)
        where
          by : (register_of (layout_of t words number) x < length t.vars.items) ⊎ IsOwn t scalars words number i (register_of (layout_of t words number) x) → ⊥
          by (inl file) = let behind = spared.0 in omega (arith, file, behind, e)
          by (inr own) = spared.1 (touched number i r is (inl (subst (λ (q : ℕ). IsOwn t scalars words number i q) (sym e) own)))

  -- ---- what a caller knows of a function that its body calls

  module _ (me : ℕ) (a : Instance) (is_me : slice_get t.instances.items me ≡ Some a) (returns : List ℕ) (most : ℕ) (number : ℕ) (b : Instance) (is : slice_get t.instances.items number ≡ Some b) (called : Contains (calls_within a.body) number) where
    -- the call among those of the program
    calls_mine : slice_get (called_in t) me ≡ Some (calls_within a.body)
    calls_mine = slice_get-map (λ (i : Instance). calls_within i.body) t.instances.items me ∙ ap (option_map (λ (i : Instance). calls_within i.body)) is_me

    call_there : slice_get (calls_within a.body) called.0 ≡ Some number
    call_there = slice_get-get_or (calls_within a.body) called.0 number called.1 ∙ ap Some called.2

    -- what it touches is not the caller's, since it does not lead back to that
    pub not_mine : (r : ℕ) → Touches number r → IsOf me a r → ⊥
    not_mine r h mine =
        let same : h.by ≡ me = of_one h.by me h.instance a r h.is is_me h.of mine in
        p.no_cycle me number called.0 (calls_within a.body) calls_mine call_there (subst (λ (k : ℕ). Leads (called_in t) number k) same h.leads)

    pub mine_too : (r : ℕ) → Touches number r → Touches me r
    mine_too r h = record { by = h.by; instance = h.instance; is = h.is; leads = calls_it called.0 calls_mine call_there h.leads; of = h.of }

    -- it stands behind the variables of the file
    pub touched_behind : (r : ℕ) → Touches number r → length t.vars.items ≤ r
    unfolding first_free
    touched_behind r h = by h.of
      where
        by : IsOf h.by h.instance r → length t.vars.items ≤ r
        by (inl own) = own_behind t scalars words h.by h.instance r h.is own
        by (inr value) = let free = behind_all me h.by r value.0 in let base = base_behind t scalars words me a is_me in let inside = base_inside t scalars words me a is_me in omega (arith, free, base, inside)

    pub no_variable : (r : ℕ) → Touches number r → (x : Variable) (info : VarInfo) → variable_named t a x ≡ Some info → r ≡ register_of (layout_of t words me) x → ⊥
    no_variable r h x info named e = by (variable_of me a is_me x info named)
      where
        by : (register_of (layout_of t words me) x < length t.vars.items) ⊎ IsOwn t scalars words me a (register_of (layout_of t words me) x) → ⊥
        by (inl file) = let behind = touched_behind r h in omega (arith, file, behind, e)
        by (inr own) = not_mine r h (inl (subst (λ (q : ℕ). IsOwn t scalars words me a q) (sym e) own))

    pub no_constant : (word r : ℕ) → constant_register (layout_of t words me) word ≡ Some r → Touches number r → ⊥
    unfolding first_free
    no_constant word r there h = by h.of
      where
        low : (layout_of t words me).end ≤ r
        low = behind_variables (layout_of t words me) word r there

        high : r < first_free (layout_of t words me)
        high = below_values (layout_of t words me) word r there

        by : IsOf h.by h.instance r → ⊥
        by (inl own) = let inside = own_inside t scalars words h.by h.instance r h.is own in let same = same_end t scalars words me h.by in let low = low in omega (arith, inside, same, low)
        by (inr value) = let free = behind_all me h.by r value.0 in let high = high in omega (arith, free, high)

    unfoldable pub callee_known : (holding : Held) (from entries upto : ℕ) → Callee (under_held (activation holding me a is_me returns most) holding from entries upto) number
    unfolding first_free size_of
    callee_known holding from entries upto = record {
      callee = b;
      is = is;
      base = (layout_of t words number).base;
      based = base_at t scalars words me number b is;
      params = (p.each number b is).params;
      result = (p.each number b is).result;
      touches = λ r. Touches number r;
      own = λ k inside. touched number b ((layout_of t words number).base + k) is (inl (own_there k inside));
      room = let inside = base_inside t scalars words number b is in let same = same_end t scalars words me number in omega (arith, inside, same);
      behind_files = base_behind t scalars words number b is;
      apart_variable = no_variable;
      apart_value = λ r h low high. not_mine r h (inr (low, high));
      apart_spared = λ r h spared. spared.1 (mine_too r h);
      apart_result = λ h. not_mine _ h (inl (result_own t scalars words me a is_me));
      apart_constant = no_constant;
    }
      where
        own_there : (k : ℕ) → k ≤ length b.params.items → IsOwn t scalars words number b ((layout_of t words number).base + k)
        own_there k inside = record { low = omega arith; high = omega (arith, inside) }
