-- What one instruction on fields does: its destination takes the lowest bits of a word at each active position.
use Rattle.std.proofs.Common.{◌≡◌, ◌∙◌, ℕ, ◌+◌, ◌-◌, ◌%◌, ◌<◌, ◌≤◌, ◌^◌, Bool, true, false, not, List, [], ◌∷◌, ◌==◌, length, slice_index, Some, None, if◌then◌else◌, refl, ap, subst, sym, arith}
use Rattle.std.specs.Prelude.{pos, neg_ℤ, unwrap_or}
use Rattle.std.specs.List.{slice_index_or}
use Rattle.std.proofs.lemmas.Nat.{mod_below, pow_pos}
use Rattle.std.proofs.Math.Nat.{mod-eq_of_lt}
use Rattle.std.proofs.lemmas.Bool.{eqb-true}
use Rattle.cstar_base.specs.declared.elem.Elem.{Elem}
use Rattle.cstar_base.specs.declared.operators.Op.{Op}
use Rattle.cstar_base.specs.declared.operators.Op.TheVariants as P
use Rattle.cstar_base.specs.Numbers.{number_of, residue}
use Rattle.cstar_base.specs.Operators.{divides, modulus_of, operate, outcome, quotient_of, remainder_of}
use Rattle.cstar_base.proofs.NumberLaws.{residue_of_number}
use Rattle.cstar_tree.specs.declared.typed.UnaryOp.TheVariants as U
use Rattle.constant_trees.proofs.Words.{unary_below}
use Rattle.lower_base.specs.declared.operators.Machine.TheVariants as M
use Rattle.lower_base.specs.Drafts.{Plain, step as step_of}
use Rattle.lower_base.specs.Operators.{machine_of, operation_of, relates}
use Rattle.lower_expr.specs.Kinds.{has_number}
use Rattle.paris_code.specs.declared.instr.Instr.{Instr}
use Rattle.paris_code.specs.declared.instr.Instr.TheVariants as I
use Rattle.paris_code.specs.declared.operands.Field.{Field}
use Rattle.paris_code.specs.declared.operands.Konst.{Konst}
use Rattle.paris_code.specs.declared.operands.Konst.TheVariants as K
use Rattle.paris_code.specs.Code.{CodeState, Goes, applied, begun}
use Rattle.paris_code.specs.Elementwise.{elementwise}
use Rattle.paris_code.specs.Meaning.{after}
use Rattle.paris_code.specs.Memory.{field_number, is_active, processors, whole_number}
use Rattle.paris_code.specs.Moving.{moved}
use Rattle.paris_code.specs.Operators.{operator_of}
use Rattle.paris_code.specs.Scalar.{operated}
use Rattle.paris_code.specs.Shapes.{SetShape, extents_at, shapes_of}
use Rattle.paris_code.specs.Spans.{fields_of}
use Rattle.paris_code.specs.Writes.{Write, written}
use Rattle.phase_meaning.proofs.Widths.{cut_cut}
use Rattle.short_values.proofs.LowestBits.{complement, negative}
use Rattle.short_values.proofs.NarrowTypes.{extended}
use Rattle.source_meaning.specs.Values.{Scope, unary_of}
use Rattle.vp_sets.specs.Positions.{coordinate}
use Rattle.code_follows.proofs.Operators.{by_machine, machine_below, machine_same}
use Rattle.code_follows.proofs.Settings.{Setting, placed_instr}
use Rattle.fields_follow.proofs.Lengths.{Keeps}
use Rattle.fields_follow.proofs.Meaning.{Extents}
use Rattle.fields_follow.proofs.Named.{NamesFields}

-- an operator that is no relation is one of the machine's operations
pub operation_is : (op : Op) (signed : Bool) → relates op ≡ false → machine_of op signed ≡ M.Operate (operation_of op signed)
unfolding machine_of relates
operation_is P.Eq signed e = cc
operation_is P.Ne signed e = cc
operation_is P.Lt signed e = cc
operation_is P.Le signed e = cc
operation_is P.Gt signed e = cc
operation_is P.Ge signed e = cc
operation_is _ signed e = refl

divided : (n : ℕ) (z : Bool) → z ≡ false → n ≡ unwrap_or (if z then None else Some n) 0
divided n false some = refl
divided n true some = cc

-- what the operation gives is what the machine does
by_operation : (op : Op) (signed : Bool) (a b : ℕ) → relates op ≡ false → (divides op ≡ true → (b == 0) ≡ false) → outcome (operator_of (operation_of op signed)).0 32 (operator_of (operation_of op signed)).1 a b ≡ by_machine (machine_of op signed) a b
unfolding by_machine machine_of operation_of operated operate divides relates
by_operation P.Add signed a b e some = refl
by_operation P.Sub signed a b e some = refl
by_operation P.Mul signed a b e some = refl
by_operation P.And signed a b e some = refl
by_operation P.Or signed a b e some = refl
by_operation P.Xor signed a b e some = refl
by_operation P.Min true a b e some = refl
by_operation P.Min false a b e some = refl
by_operation P.Max true a b e some = refl
by_operation P.Max false a b e some = refl
by_operation P.Shl signed a b e some = refl
by_operation P.Shr true a b e some = refl
by_operation P.Shr false a b e some = refl
by_operation P.Div true a b e some = divided _ (b == 0) (some refl)
by_operation P.Div false a b e some = divided _ (b == 0) (some refl)
by_operation P.Rem true a b e some = divided _ (b == 0) (some refl)
by_operation P.Rem false a b e some = divided _ (b == 0) (some refl)
by_operation P.Mod true a b e some = divided _ (b == 0) (some refl)
by_operation P.Mod false a b e some = divided _ (b == 0) (some refl)
by_operation _ signed a b e some = cc

-- by 0 all give 0
by_zero : (op : Op) (signed : Bool) (a : ℕ) → divides op ≡ true → (outcome (operator_of (operation_of op signed)).0 32 (operator_of (operation_of op signed)).1 a 0 ≡ 0) × (outcome op 32 (not signed) a 0 ≡ 0)
unfolding operation_of divides outcome quotient_of remainder_of modulus_of
by_zero P.Div true a e = (refl, refl)
by_zero P.Div false a e = (refl, refl)
by_zero P.Rem true a e = (refl, refl)
by_zero P.Rem false a e = (refl, refl)
by_zero P.Mod true a e = (refl, refl)
by_zero P.Mod false a e = (refl, refl)
by_zero _ signed a e = cc

-- so both give the same of all words, and a word
operation_so : (op : Op) (signed : Bool) (a b : ℕ) → relates op ≡ false → a < 2 ^ 32 → b < 2 ^ 32 →
    (outcome (operator_of (operation_of op signed)).0 32 (operator_of (operation_of op signed)).1 a b ≡ outcome op 32 (not signed) a b) × (outcome op 32 (not signed) a b < 2 ^ 32)
operation_so op signed a b operates few small = by (divides op) (b == 0) refl refl
  where
    unless_zero : (divides op ≡ true → (b == 0) ≡ false)
        → (outcome (operator_of (operation_of op signed)).0 32 (operator_of (operation_of op signed)).1 a b ≡ outcome op 32 (not signed) a b) × (outcome op 32 (not signed) a b < 2 ^ 32)
    unless_zero some = (
      by_operation op signed a b operates some ∙ machine_same a b few small op signed some,
      subst (λ (n : ℕ). n < 2 ^ 32) (machine_same a b few small op signed some) (machine_below a b few small (machine_of op signed)),
    )

    by : (c z : Bool) → divides op ≡ c → (b == 0) ≡ z → (outcome (operator_of (operation_of op signed)).0 32 (operator_of (operation_of op signed)).1 a b ≡ outcome op 32 (not signed) a b) × (outcome op 32 (not signed) a b < 2 ^ 32)
    by true true divided none =
        let zero_so = by_zero op signed a divided in
        subst (λ (n : ℕ). (outcome (operator_of (operation_of op signed)).0 32 (operator_of (operation_of op signed)).1 a n ≡ outcome op 32 (not signed) a n) × (outcome op 32 (not signed) a n < 2 ^ 32)) (sym (eqb-true b 0 none))
        (zero_so.0 ∙ sym zero_so.1, subst (λ (n : ℕ). n < 2 ^ 32) (sym zero_so.1) (omega arith))
    by true false divided some = unless_zero (λ h. some)
    by false z plain any = unless_zero (λ h. cc)

pub operation_same : (op : Op) (signed : Bool) (a b : ℕ) → relates op ≡ false → a < 2 ^ 32 → b < 2 ^ 32 → outcome (operator_of (operation_of op signed)).0 32 (operator_of (operation_of op signed)).1 a b ≡ outcome op 32 (not signed) a b
operation_same op signed a b operates few small = (operation_so op signed a b operates few small).0

pub operation_below : (op : Op) (signed : Bool) (a b : ℕ) → relates op ≡ false → a < 2 ^ 32 → b < 2 ^ 32 → outcome op 32 (not signed) a b < 2 ^ 32
operation_below op signed a b operates few small = (operation_so op signed a b operates few small).1

pub whole : (n : ℕ) → n < 2 ^ 32 → n % 2 ^ 32 ≡ n
whole n few = mod-eq_of_lt {n = n} {m = 2 ^ 32} few

-- at 32 bits it keeps the words
pub whole_keeps : (op : Op) (signed : Bool) (y : ℕ) → relates op ≡ false → Keeps op signed 32 y
whole_keeps op signed y operates m n x few small p q =
    ap (λ (k : ℕ). outcome (operator_of (operation_of op signed)).0 32 (operator_of (operation_of op signed)).1 k n) (p ∙ whole x few)
    ∙ ap (λ (k : ℕ). outcome (operator_of (operation_of op signed)).0 32 (operator_of (operation_of op signed)).1 x k) (q ∙ whole y small)
    ∙ operation_same op signed x y operates few small ∙ sym (whole (outcome op 32 (not signed) x y) (operation_below op signed x y operates few small))

module _ (g : Setting) where
  abbrev pub shapes : List SetShape
  shapes = shapes_of g.image

  -- the extents of a shape of the image, and those of every one
  abbrev pub extents : ℕ → Extents
  extents set = record { own = extents_at shapes set; of = extents_at shapes }

  -- those of a scope are the same
  abbrev pub SameExtents : Scope → Type 0
  SameExtents scope = (set : ℕ) → set < length shapes → scope.extents set ≡ (extents set).own

  -- where a field of the unit stands in the image, and the number that it has at a position
  abbrev pub place : Field → Field
  place f = moved (slice_index_or g.placed.places g.number []) f

  abbrev pub number_in : Field → CodeState → ℕ → ℕ
  number_in f s p = field_number s.memory (place f) p

  abbrev pub wrote : Write → CodeState → CodeState
  wrote w s = record s { at = s.at + 1; memory = written w s.memory }

  -- a field of so many bits of a set has at the active positions the lowest bits of these words
  pub record HasNumbers (bits set : ℕ) (f : Field) (s : CodeState) (v : ℕ → ℕ) : Type 0 where
    pub of_set : f.set ≡ set
    pub exists : set < length shapes
    pub len : f.len ≡ bits
    pub are : (p : ℕ) → p < processors shapes set → is_active shapes s.memory set p ≡ true → number_in f s p ≡ v p % 2 ^ bits
    pub small : (p : ℕ) → p < processors shapes set → is_active shapes s.memory set p ≡ true → v p < 2 ^ 32

  -- one of 32 bits has the words
  pub has_words : (set : ℕ) (f : Field) (s : CodeState) (v : ℕ → ℕ) → HasNumbers 32 set f s v → (p : ℕ) → p < processors shapes set → is_active shapes s.memory set p ≡ true → number_in f s p ≡ v p
  has_words set f s v h p below on = h.are p below on ∙ whole (v p) (h.small p below on)

  -- an instruction by which a field takes the lowest bits of these words where it is active
  pub record Puts (set : ℕ) (i : Instr) (d : Field) (s : CodeState) (v : ℕ → ℕ) : Type 0 where
    pub plain : step_of i ≡ Plain i
    pub simple : NamesFields i
    pub others : List Field
    pub names : fields_of i ≡ d ∷ others
    pub write : Write
    pub run : write.run ≡ place d
    pub writes : (p : ℕ) → write.writes p ≡ is_active shapes s.memory d.set p
    pub value : (p : ℕ) → p < processors shapes set → is_active shapes s.memory set p ≡ true → write.value p % 2 ^ d.len ≡ v p % 2 ^ d.len
    pub small : (p : ℕ) → p < processors shapes set → is_active shapes s.memory set p ≡ true → v p < 2 ^ 32
    pub goes : begun g.image (placed_instr g i) s ≡ Goes (wrote write s)

  -- other words with the same lowest bits
  abbrev pub AreAlike : ℕ → ℕ → (ℕ → ℕ) → (ℕ → ℕ) → Type 0
  AreAlike bits set v w = (p : ℕ) → p < processors shapes set → v p < 2 ^ 32 → (w p % 2 ^ bits ≡ v p % 2 ^ bits) × (w p < 2 ^ 32)

  -- as those that are the same have
  pub alike_same : (bits set : ℕ) (v w : ℕ → ℕ) → ((p : ℕ) → p < processors shapes set → v p < 2 ^ 32 → w p ≡ v p) → AreAlike bits set v w
  alike_same bits set v w same p below few = let is = same p below few in (ap (λ (n : ℕ). n % 2 ^ bits) is, subst (λ (n : ℕ). n < 2 ^ 32) (sym is) few)

  pub has_alike : (bits set : ℕ) (f : Field) (s : CodeState) (v w : ℕ → ℕ) → AreAlike bits set v w → HasNumbers bits set f s v → HasNumbers bits set f s w
  has_alike bits set f s v w alike h = record {
    of_set = h.of_set;
    exists = h.exists;
    len = h.len;
    are = λ p below on. h.are p below on ∙ sym (alike p below (h.small p below on)).0;
    small = λ p below on. (alike p below (h.small p below on)).1;
  }

  pub puts_alike : (set : ℕ) (i : Instr) (d : Field) (s : CodeState) (v w : ℕ → ℕ) → AreAlike d.len set v w → Puts set i d s v → Puts set i d s w
  puts_alike set i d s v w alike h = record {
    plain = h.plain;
    simple = h.simple;
    others = h.others;
    names = h.names;
    write = h.write;
    run = h.run;
    writes = h.writes;
    value = λ p below on. h.value p below on ∙ sym (alike p below (h.small p below on)).0;
    small = λ p below on. (alike p below (h.small p below on)).1;
    goes = h.goes;
  }

  -- a move, of what is residue of the number that a field has
  moves : (set : ℕ) (signed : Bool) (d a : Field) (s : CodeState) (v : ℕ → ℕ) → ((p : ℕ) → p < processors shapes set → is_active shapes s.memory set p ≡ true → (residue d.len (number_of a.len signed (number_in a s p)) % 2 ^ d.len ≡ v p % 2 ^ d.len) × (v p < 2 ^ 32)) → Puts set (I.Move signed d a) d s v
  unfolding begun applied after step_of whole_number
  moves set signed d a s v moved = record {
    plain = refl;
    simple = tt;
    others = _;
    names = refl;
    write = elementwise shapes (I.Move signed (place d) (place a)) [] s.memory;
    run = refl;
    writes = λ p. refl;
    value = λ p below on. (moved p below on).0;
    small = λ p below on. (moved p below on).1;
    goes = refl;
  }

  -- to a field of as many bits, and to one of more or fewer, where a type has the words that is read so
  pub puts_move : (bits set : ℕ) (signed : Bool) (d a : Field) (s : CodeState) (v : ℕ → ℕ) → d.len ≡ bits → HasNumbers bits set a s v → Puts set (I.Move signed d a) d s v
  puts_move bits set signed d a s v long has =
      moves set signed d a s v (λ p below on. (
        ap (λ (n : ℕ). residue d.len (number_of n signed (number_in a s p)) % 2 ^ d.len) (has.len ∙ sym long)
            ∙ ap (λ (w : ℕ). w % 2 ^ d.len) (residue_of_number d.len signed (number_in a s p) (subst (λ (n : ℕ). n < 2 ^ d.len) (sym (has.are p below on ∙ ap (λ (n : ℕ). v p % 2 ^ n) (sym long))) (mod_below (v p) (2 ^ d.len) (pow_pos d.len))) ∙ has.are p below on ∙ ap (λ (n : ℕ). v p % 2 ^ n) (sym long))
            ∙ cut_cut (v p) d.len d.len (omega arith),
        has.small p below on,
      ))

  pub puts_extended : (kind : Elem) (set : ℕ) (d a : Field) (s : CodeState) (v : ℕ → ℕ) → d.len ≤ 32 → ((p : ℕ) → p < processors shapes set → is_active shapes s.memory set p ≡ true → has_number kind (v p) ≡ true) → HasNumbers kind.bits set a s v → Puts set (I.Move kind.signed d a) d s v
  puts_extended kind set d a s v most of_kind has =
      moves set kind.signed d a s v (λ p below on. (
        ap (λ (n : ℕ). residue d.len (number_of n kind.signed (number_in a s p)) % 2 ^ d.len) has.len
            ∙ ap (λ (w : ℕ). w % 2 ^ d.len) (extended kind d.len (number_in a s p) (v p) most (of_kind p below on) (has.are p below on))
            ∙ cut_cut (v p) d.len d.len (omega arith),
        has.small p below on,
      ))

  -- a word that is given, or that stands in a register
  unfoldable pub word_in : Konst → CodeState → ℕ
  word_in (K.Imm w) s = w
  word_in (K.Reg r) s = slice_index s.registers r

  pub puts_constant : (set : ℕ) (d : Field) (k : Konst) (s : CodeState) → word_in k s < 2 ^ 32 → Puts set (I.MoveConstant d k) d s (λ p. word_in k s)
  unfolding begun applied after step_of word_in
  puts_constant set d (K.Imm w) s few = record {
    plain = refl;
    simple = tt;
    others = _;
    names = refl;
    write = elementwise shapes (I.MoveConstant (place d) (K.Imm w)) [] s.memory;
    run = refl;
    writes = λ p. refl;
    value = λ p below on. refl;
    small = λ p below on. few;
    goes = refl;
  }
  puts_constant set d (K.Reg r) s few = record {
    plain = refl;
    simple = tt;
    others = _;
    names = refl;
    write = elementwise shapes (I.MoveConstant (place d) (K.Reg r)) (slice_index s.registers r ∷ []) s.memory;
    run = refl;
    writes = λ p. refl;
    value = λ p below on. refl;
    small = λ p below on. few;
    goes = refl;
  }

  -- an operator on words, as the instruction has it of their lowest bits and as the language has it
  done : (op : Op) (signed : Bool) (bits len m n x y : ℕ) → len ≡ bits → Keeps op signed bits y → x < 2 ^ 32 → y < 2 ^ 32 → m ≡ x % 2 ^ bits → n ≡ y % 2 ^ bits
      → outcome (operator_of (operation_of op signed)).0 len (operator_of (operation_of op signed)).1 m n % 2 ^ len ≡ outcome op 32 (not signed) x y % 2 ^ len
  done op signed bits len m n x y long keeps few small e f =
      ap (λ (b : ℕ). outcome (operator_of (operation_of op signed)).0 b (operator_of (operation_of op signed)).1 m n % 2 ^ b) long
      ∙ ap (λ (w : ℕ). w % 2 ^ bits) (keeps m n x few small e f) ∙ cut_cut (outcome op 32 (not signed) x y) bits bits (omega arith)
      ∙ ap (λ (b : ℕ). outcome op 32 (not signed) x y % 2 ^ b) (sym long)

  pub puts_operate : (bits set : ℕ) (op : Op) (signed : Bool) (d a b : Field) (s : CodeState) (v w : ℕ → ℕ) → relates op ≡ false → ((p : ℕ) → Keeps op signed bits (w p)) → d.len ≡ bits → HasNumbers bits set a s v → HasNumbers bits set b s w
      → Puts set (I.Operate (operation_of op signed) d a b) d s (λ p. outcome op 32 (not signed) (v p) (w p))
  unfolding begun applied after step_of
  puts_operate bits set op signed d a b s v w operates keeps long one other = record {
    plain = refl;
    simple = tt;
    others = _;
    names = refl;
    write = elementwise shapes (I.Operate (operation_of op signed) (place d) (place a) (place b)) [] s.memory;
    run = refl;
    writes = λ p. refl;
    value = λ p below on. done op signed bits d.len (number_in a s p) (number_in b s p) (v p) (w p) long (keeps p) (one.small p below on) (other.small p below on) (one.are p below on) (other.are p below on);
    small = λ p below on. operation_below op signed (v p) (w p) operates (one.small p below on) (other.small p below on);
    goes = refl;
  }

  pub puts_operate_constant : (bits set : ℕ) (op : Op) (signed : Bool) (d a : Field) (k : Konst) (s : CodeState) (v : ℕ → ℕ) → relates op ≡ false → Keeps op signed bits (word_in k s) → d.len ≡ bits → HasNumbers bits set a s v → word_in k s < 2 ^ 32
      → Puts set (I.OperateConstant (operation_of op signed) d a k) d s (λ p. outcome op 32 (not signed) (v p) (word_in k s))
  unfolding begun applied after step_of word_in
  puts_operate_constant bits set op signed d a (K.Imm w) s v operates keeps long one few = record {
    plain = refl;
    simple = tt;
    others = _;
    names = refl;
    write = elementwise shapes (I.OperateConstant (operation_of op signed) (place d) (place a) (K.Imm w)) [] s.memory;
    run = refl;
    writes = λ p. refl;
    value = λ p below on. done op signed bits d.len (number_in a s p) (w % 2 ^ d.len) (v p) w long keeps (one.small p below on) few (one.are p below on) (ap (λ (n : ℕ). w % 2 ^ n) long);
    small = λ p below on. operation_below op signed (v p) w operates (one.small p below on) few;
    goes = refl;
  }
  puts_operate_constant bits set op signed d a (K.Reg r) s v operates keeps long one few = record {
    plain = refl;
    simple = tt;
    others = _;
    names = refl;
    write = elementwise shapes (I.OperateConstant (operation_of op signed) (place d) (place a) (K.Reg r)) (slice_index s.registers r ∷ []) s.memory;
    run = refl;
    writes = λ p. refl;
    value = λ p below on.
        let w : ℕ = slice_index s.registers r in
        done op signed bits d.len (number_in a s p) (w % 2 ^ d.len) (v p) w long keeps (one.small p below on) few (one.are p below on) (ap (λ (n : ℕ). w % 2 ^ n) long);
    small = λ p below on. operation_below op signed (v p) (slice_index s.registers r) operates (one.small p below on) few;
    goes = refl;
  }

  pub puts_negate : (bits set : ℕ) (d a : Field) (s : CodeState) (v : ℕ → ℕ) → bits ≤ 32 → d.len ≡ bits → HasNumbers bits set a s v → Puts set (I.Negate d a) d s (λ p. unary_of U.Minus (v p))
  unfolding begun applied after step_of
  puts_negate bits set d a s v most long has = record {
    plain = refl;
    simple = tt;
    others = _;
    names = refl;
    write = elementwise shapes (I.Negate (place d) (place a)) [] s.memory;
    run = refl;
    writes = λ p. refl;
    value = λ p below on.
        ap (λ (n : ℕ). residue n (neg_ℤ (pos (number_in a s p))) % 2 ^ n) long ∙ ap (λ (w : ℕ). w % 2 ^ bits) (negative bits (number_in a s p) (v p) most (has.small p below on) (has.are p below on))
        ∙ cut_cut (unary_of U.Minus (v p)) bits bits (omega arith) ∙ ap (λ (n : ℕ). unary_of U.Minus (v p) % 2 ^ n) (sym long);
    small = λ p below on. unary_below U.Minus (v p) (has.small p below on);
    goes = refl;
  }

  pub puts_lognot : (bits set : ℕ) (d a : Field) (s : CodeState) (v : ℕ → ℕ) → bits ≤ 32 → d.len ≡ bits → HasNumbers bits set a s v → Puts set (I.Lognot d a) d s (λ p. unary_of U.Complement (v p))
  unfolding begun applied after step_of
  puts_lognot bits set d a s v most long has = record {
    plain = refl;
    simple = tt;
    others = _;
    names = refl;
    write = elementwise shapes (I.Lognot (place d) (place a)) [] s.memory;
    run = refl;
    writes = λ p. refl;
    value = λ p below on.
        ap (λ (n : ℕ). (2 ^ n - 1 - number_in a s p) % 2 ^ n) long ∙ ap (λ (w : ℕ). w % 2 ^ bits) (complement bits (number_in a s p) (v p) most (has.small p below on) (has.are p below on))
        ∙ cut_cut (unary_of U.Complement (v p)) bits bits (omega arith) ∙ ap (λ (n : ℕ). unary_of U.Complement (v p) % 2 ^ n) (sym long);
    small = λ p below on. unary_below U.Complement (v p) (has.small p below on);
    goes = refl;
  }

  -- the own coordinates on an axis, where they are words
  pub puts_coordinate : (set axis : ℕ) (d : Field) (s : CodeState) → d.set ≡ set → ((p : ℕ) → p < processors shapes set → coordinate (extents set).own p axis < 2 ^ 32) → Puts set (I.MyNewsCoordinate d axis) d s (λ p. coordinate (extents set).own p axis)
  unfolding begun applied after step_of
  puts_coordinate set axis d s of_set few = record {
    plain = refl;
    simple = tt;
    others = _;
    names = refl;
    write = elementwise shapes (I.MyNewsCoordinate (place d) axis) [] s.memory;
    run = refl;
    writes = λ p. refl;
    value = λ p below on. ap (λ (n : ℕ). coordinate (extents n).own p axis % 2 ^ d.len) of_set;
    small = λ p below on. few p below;
    goes = refl;
  }
