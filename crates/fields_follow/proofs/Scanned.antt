-- The code of a scan, as a value and as what becomes the value of a field.
use Rattle.std.proofs.Common.{◌≡◌, ◌∙◌, ℕ, ◌<◌, ◌≤◌, ◌%◌, ◌^◌, ◌==◌, ◌&&◌, ◌||◌, Bool, true, false, not, [], ◌∷◌, length, Option, Some, None, refl, sym, ap, subst, arith, ◌⊎◌, inl, inr, if◌then◌else◌}
use Rattle.std.specs.Prelude.{nat_le, nat_lt, unwrap_or}
use Rattle.std.proofs.lemmas.Bool.{eqb-true}
use Rattle.std.proofs.lemmas.Bool.Decides.{nat_tests}
use Rattle.constant_trees.proofs.Words.{converted_below, unary_below}
use Rattle.cstar_base.specs.declared.elem.Elem.{Elem}
use Rattle.cstar_base.specs.declared.operators.Combiner.TheVariants as C
use Rattle.cstar_base.specs.declared.operators.Op.{Op}
use Rattle.cstar_base.specs.declared.operators.Place.{Place}
use Rattle.cstar_tree.specs.declared.typed.TExpr.{TExpr}
use Rattle.cstar_tree.specs.declared.typed.TExpr as T
use Rattle.cstar_tree.specs.declared.typed.UnaryOp.{UnaryOp}
use Rattle.cstar_tree.specs.declared.typed.UnaryOp.TheVariants as U
use Rattle.cstar_tree.specs.declared.typed.ValueType.{ValueType}
use Rattle.cstar_tree.specs.declared.typed.Variable.{Variable}
use Rattle.cstar_tree.specs.Typed.{type_of}
use Rattle.code_lengths.specs.Ready.{IsReadyButForFields}
use Rattle.lower_base.specs.Kinds.{bits_of, kind_of}
use Rattle.lower_base.specs.Operators.{negates}
use Rattle.lower_comm.specs.Messages.{communicated}
use Rattle.lower_base.specs.declared.emit.Out.{Out}
use Rattle.lower_base.specs.declared.emit.Out.TheVariants as O
use Rattle.lower_base.specs.Drafts.{Draft, Made, Makes, Plain, a_field, an_entry, fresh_for, in_field, step as step_of, then_make, with_instr}
use Rattle.lower_expr.specs.Kinds.{done_as, operand_bits, operation_bits, reads_signed, unary_bits}
use Rattle.lower_expr.specs.Effects.{binary_to, bits_for, computed_to, converted_to, field_binary_to, fits_field, goes_unchanged, gone_to, keeps_bits, moved, put_to}
use Rattle.lower_expr.specs.Joined.{is_flag}
use Rattle.lower_expr.specs.Operands.{is_plus, is_quiet, operand_by}
use Rattle.lower_expr.specs.Steps.{field_negated, negated, put_in_field, put_value, word_for, word_put}
use Rattle.lower_expr.specs.Values.{extended as extended_by, field_binary_of, fields_by, lowest, message_by, message_to, next_of, unary_by, value_of}
use Rattle.paris_code.specs.declared.instr.Instr.{Instr}
use Rattle.paris_code.specs.declared.instr.Instr.TheVariants as I
use Rattle.paris_code.specs.declared.operands.Field.{Field}
use Rattle.paris_code.specs.declared.operands.Konst.TheVariants as K
use Rattle.paris_code.specs.declared.program.Owner.TheVariants as W
use Rattle.paris_code.specs.Code.{CodeState}
use Rattle.paris_code.specs.Spans.{fields_of}
use Rattle.phase_meaning.proofs.Widths.{cut_cut}
use Rattle.source_meaning.specs.Expressions.{evaluated}
use Rattle.source_meaning.specs.State as Source
use Rattle.source_meaning.specs.State.{Outcome, State, then_do}
use Rattle.source_meaning.proofs.ConstantLaws.{Boxed}
use Rattle.source_meaning.specs.Values.{Parallel, Value, at, convert_to, each, unary_of}
use Rattle.code_follows.proofs.Following.{Extends, Follows, HasRegisters, Sim, follows_same}
use Rattle.code_follows.proofs.Settings.{Setting, Within, and_one, layout}
use Rattle.code_follows.proofs.Words.{below_bits, below_word, within_word}
use Rattle.fields_follow.specs.Fragment.{IsOperand, IsPure, IsScan, IsScanned, IsWide}
use Rattle.fields_follow.proofs.Effects.{gone_same}
use Rattle.fields_follow.proofs.Expressions.{IsSign, binary_code, convert_code, convert_ended, done_as_it_is, negated_is, negating, own_result, puts_negating, signed_as, unary_ended, wide_operands}
use Rattle.fields_follow.proofs.Computing.{whole_after}
use Rattle.fields_follow.proofs.Forms.{HasItsCode, flag_converted}
use Rattle.fields_follow.proofs.Instructions.{AreAlike, HasNumbers, Puts, operation_below, puts_alike, puts_move}
use Rattle.fields_follow.proofs.Lengths.{Keeps, cut_converted, divides_wide, operation_most}
use Rattle.fields_follow.proofs.Outcomes.{Ended, Given, follows_like, given_weaker, known_follows, meant, then_known}
use Rattle.fields_follow.proofs.Passing.{After, Behind, GivesField, Passes, after_same, gives_alike, gives_numbers, made_after, names_second, passes_from, passes_less}
use Rattle.fields_follow.proofs.Places.{HoldsTheFields, PlacesFields, stands_here}
use Rattle.fields_follow.proofs.Scanning.{ScanGives, scan_few, scanned_in}
use Rattle.fields_follow.proofs.ScanForms.{operand_number, scan_kept, scan_shape, scanned_word}
use Rattle.fields_follow.proofs.ScanOperands.{GivesScan, ScanValued, own_numbers, right_keeps, scan_operand, sides_after}
use Rattle.fields_follow.proofs.Scans.{PutsScan, SourceGiven, ones_message, scan_message, source_part}
use Rattle.fields_follow.proofs.Meaning.{as_shaped, either, unary_means}
use Rattle.fields_follow.proofs.Sizes.{binary_parts, brackets_part, convert_part, operand_small, unary_part, value_small}
use Rattle.fields_follow.proofs.Starts.{no_home, starts_entry, Starts}
use Rattle.fields_follow.proofs.Values.{IsFlag, and_entry, first_given, next_field, one_more, with_entry}

no_flag : (elem : Elem) → elem.bits ≡ 32 → (elem.bits == 1) ≡ false
no_flag elem wide = ap (λ (n : ℕ). n == 1) wide

pub right_side : (set : ℕ) (left right : TExpr) → (IsScan set left × (IsScan set right ⊎ IsOperand set right)) ⊎ (IsOperand set left × IsScan set right) → IsScan set right ⊎ IsOperand set right
right_side set left right (inl h) = h.1
right_side set left right (inr h) = inl h.1

pub left_side : (set : ℕ) (left right : TExpr) → (IsScan set left × (IsScan set right ⊎ IsOperand set right)) ⊎ (IsOperand set left × IsScan set right) → IsScan set left ⊎ IsOperand set left
left_side set left right (inl h) = inl h.0
left_side set left right (inr h) = inr h.0

module _ (g : Setting) (has : HasRegisters g) (alive : Variable → Type 0) (n : ℕ) (ready : (d : Draft) → IsReadyButForFields g.typed g.instance (layout g) n d) (places : PlacesFields g) (fields : HoldsTheFields g) (set : ℕ) where
  abbrev number : TExpr → State → ℕ → ℕ
  number e st q = scanned_in g alive places fields set st e q

  abbrev Puts_ : Field → TExpr → (Draft → Made Out) → Type 1
  Puts_ f e made = PutsScan g has alive n ready places fields set f e made

  abbrev ScanGiven : ℕ → TExpr → Draft → CodeState → State → Out → Draft → Type 0
  ScanGiven bits e d s st out x = GivesScan g has alive n ready places fields set bits e d s st out x

  abbrev Valued : ℕ → TExpr → (Draft → Made Out) → Type 0
  Valued bits e code = ScanValued g has alive n ready places fields set bits e code

  -- what puts it in the entry that is taken first gives it
  own_given : (bits : ℕ) (e : TExpr) (made : Draft → Made Out) (d : Draft) (s : CodeState) (st : State) → bits ≤ 32 → Starts g alive s (length d.code) d.regs (length d.fields) → Sim g alive st s → Puts_ (next_field set 32 d) e made
      → Follows g (Given g (λ q. number e st q) st (ScanGiven bits e d s st)) s (meant g fields e st) (lowest bits (made (with_entry set 32 W.Own d)))
  own_given bits e made d s st most here sim whole =
      known_follows g s (meant g fields e st) (λ q. number e st q) st (ScanGiven bits e d s st) (lowest bits (made (with_entry set 32 W.Own d)))
      (first_given g has alive n ready places fields 32 bits (length d.fields) d s set st (λ q. number e st q) (IsFlag e) (ScanGives g alive places fields set e st) (Ended g s (meant g fields e st)) (made (with_entry set 32 W.Own d)) most
      (whole (length d.fields) (with_entry set 32 W.Own d) s st (let one = one_more set 32 W.Own d in omega (arith, one)) (starts_entry g alive _ _ here) sim (λ out f. (ScanGives g alive places fields set e st × ScanGiven 32 e d s st out f) ⊎ Ended g s (meant g fields e st))
      (λ given e2 i within passes puts. inl (given, own_result g has alive n ready places fields 32 set d e2 s st (λ q. number e st q) i within (no_home g alive (length d.fields) (length d.fields) (omega arith) here) passes puts)) (λ early x f. inr early)))

  -- the numbers of operands and of such values are words
  pub plain_few : (e : TExpr) (st : State) (s : CodeState) → Sim g alive st s → IsOperand set e → IsWide set (type_of e) → HasItsCode g.typed g.instance alive n e → (q : ℕ) → number e st q < 2 ^ 32
  plain_few e st s sim plain wide code q = subst (λ (m : ℕ). m < 2 ^ 32) (sym (operand_number g alive places fields set e st q plain)) (below_word (type_of e).elem.bits _ wide.1 (operand_small g alive n places fields set e st s sim plain code q))

  pub scan_words : (e : TExpr) (st : State) (s : CodeState) → Sim g alive st s → IsScan set e → HasItsCode g.typed g.instance alive n e → (q : ℕ) → number e st q < 2 ^ 32
  unfolding IsScan scanned_in
  scan_words (T.Brackets' ty p inner) st s sim is c q = scan_words inner st s sim is.1 (brackets_part g alive n places fields ty p inner c) q
  scan_words (T.Scan' ty p source axis combiner direction mode bit way) st s sim is c q =
      let part = (source_part g has alive n ready places fields set ty p source axis combiner direction mode bit way c).0 in
      scan_few g fields set axis combiner (not ty.elem.signed) direction mode bit way st _ q (λ x. either (λ h. scan_words source st s sim h part x) (λ h. subst (λ (m : ℕ). m < 2 ^ 32) (sym (operand_number g alive places fields set source st x (inl h))) (below_word (type_of source).elem.bits _ is.2.1 (value_small g alive n places fields set source st s sim h part x))) is.1)
  scan_words (T.Enumerate ty axis direction way mode bit) st s sim is c q = scan_few g fields set axis C.Add (not ty.elem.signed) direction mode bit way st _ q (λ x. omega arith)
  scan_words (T.Convert' ty p operand) st s sim is c q = below_word ty.elem.bits _ is.0.1 (converted_below ty.elem (type_of operand).elem (number operand st q))
  scan_words (T.Unary' ty op p operand) st s sim is c q = unary_below op (number operand st q) (scan_words operand st s sim is.2 (unary_part g alive n places fields ty op p operand c) q)
  scan_words (T.Binary' ty place op p left r right) st s sim is c q =
      let parts = binary_parts g alive n places fields ty place op p r left right c in
      operation_below op (type_of left).elem.signed (number left st q) (number right st q) is.1.0 (left_few is.2 parts.0 (λ h. scan_words left st s sim h parts.0 q)) (right_few (right_side set left right is.2) parts.1 (λ h. scan_words right st s sim h parts.1 q))
    where
      left_few : (IsScan set left × (IsScan set right ⊎ IsOperand set right)) ⊎ (IsOperand set left × IsScan set right) → HasItsCode g.typed g.instance alive n left → (IsScan set left → number left st q < 2 ^ 32) → number left st q < 2 ^ 32
      left_few (inl h) code rest = rest h.0
      left_few (inr h) code rest = plain_few left st s sim h.0 is.3 code q

      right_few : IsScan set right ⊎ IsOperand set right → HasItsCode g.typed g.instance alive n right → (IsScan set right → number right st q < 2 ^ 32) → number right st q < 2 ^ 32
      right_few (inl h) code rest = rest h
      right_few (inr h) code rest = plain_few right st s sim h is.4 code q
  scan_words _ st s sim is c q = absurd is

  -- what a scan is of
  scan_source : (source : TExpr) → IsWide set (type_of source) → HasItsCode g.typed g.instance alive n source → (IsScan set source → Valued 32 source (λ d. value_of g.typed (layout g) 32 source d)) → (IsScan set source → (s : CodeState) (st : State) → Sim g alive st s → (q : ℕ) → number source st q < 2 ^ 32)
      → IsScan set source ⊎ IsPure set source → SourceGiven g has alive n ready places fields set source
  scan_source source wide c valued few (inl scans) = record {
    follows = λ d s st here sim.
        given_weaker g s (meant g fields source st) (λ q. number source st q) st (ScanGiven 32 source d s st) (λ out x. (h : Field) × ((out ≡ O.Field h) × GivesField g alive 32 (length d.fields) d s set st (λ q. number source st q) h x)) (next_of g.typed (layout g) 32 true source d)
        (λ out x (h, (same, (gives, apart))). (h, (same, gives))) (scan_operand g has alive n ready places fields set 32 true source scans (valued scans) d s st here sim);
    few = few scans;
  }
  scan_source source wide c valued few (inr pure) = record {
    follows = λ d s st here sim.
        subst (λ (v : ℕ → ℕ). Follows g (Given g v st (λ out x. (h : Field) × ((out ≡ O.Field h) × GivesField g alive 32 (length d.fields) d s set st v h x))) s (meant g fields source st) (next_of g.typed (layout g) 32 true source d)) (own_numbers g has alive n ready places fields set source st (inl pure))
        (whole_after g has alive n ready places fields 32 set source true (omega arith) (omega arith) pure wide c d s st here sim);
    few = λ s st sim q. subst (λ (m : ℕ). m < 2 ^ 32) (sym (operand_number g alive places fields set source st q (inl pure))) (below_word (type_of source).elem.bits _ wide.1 (value_small g alive n places fields set source st s sim pure c q));
  }

  -- an instruction from its field to another one, behind its code
  from_scan : (bits : ℕ) (e : TExpr) (dest : Field) (i : Field → Instr) (next : Out → Draft → Made Out) (w : ℕ → ℕ) (bound : ℕ) (d : Draft) (s : CodeState) (st : State) → ((a : Field) → step_of (i a) ≡ Plain (i a)) → ((a : Field) → fields_of (i a) ≡ dest ∷ a ∷ [])
      → ((x : Out) (after : Draft) → Extends g after (next x after)) → ((a : Field) (after : Draft) → next (O.Field a) after ≡ Makes (O.Field dest) (with_instr (i a) after)) → ((a : Field) (t : CodeState) → HasNumbers g bits set a t (λ q. number e st q) → Puts g set (i a) dest t w)
      → IsScan set e → Valued bits e (λ d. value_of g.typed (layout g) bits e d) → bound ≤ length d.fields → Starts g alive s (length d.code) d.regs (length d.fields) → Sim g alive st s → (Q : Out → Draft → Type 0)
      → (ScanGives g alive places fields set e st → (e1 : Draft) (i : Instr) → Within g (with_instr i e1) → (p : Passes g alive bound d e1 s st (Unit {0})) → Puts g set i dest p.t w → Q (O.Field dest) (with_instr i e1)) → (Ended g s (meant g fields e st) → (x : Out) (f : Draft) → Q x f)
      → After g Q (then_make (next_of g.typed (layout g) bits true e d) (λ v after. next v after))
  from_scan bits e dest i next w bound d s st plain both grows is_next puts is valued less here sim Q last ended =
      then_known g s (meant g fields e st) (λ q. number e st q) st (ScanGiven bits e d s st) Q (next_of g.typed (layout g) bits true e d) (λ out after. next out after)
      (scan_operand g has alive n ready places fields set bits true e is valued d s st here sim) grows
      (λ given out e1 (a, (same, (gives, apart))). after_same g Q (ap (λ (o : Out). next o e1) same ∙ is_next a e1) (made_after g Q (O.Field dest) (with_instr (i a) e1) (λ within.
      let behind : Behind g a e1 = (length e1.code, (names_second g (i a) dest a [] (length e1.code) (stands_here g (i a) e1 within (plain a)) (both a), omega arith)) in
      last given e1 (i a) within (record {
        grown = gives.passes.grown;
        t = gives.passes.t;
        go = gives.passes.go;
        at = gives.passes.at;
        registers = gives.passes.registers;
        sim = gives.passes.sim;
        stays = λ u h first later p below. gives.passes.stays behind h first later p (omega (arith, below, less));
      }) (puts a gives.passes.t (gives_numbers g alive places fields bits (length d.fields) d s set st (λ q. number e st q) a e1 gives behind))))) ended

  -- a sign before it
  signed_from : (bits : ℕ) (op : UnaryOp) (dest : Field) (operand : TExpr) (bound : ℕ) (d : Draft) (s : CodeState) (st : State) → bits ≤ 32 → IsSign g has alive n ready places fields op → dest.len ≡ bits → IsScan set operand → Valued bits operand (λ d. value_of g.typed (layout g) bits operand d)
      → bound ≤ length d.fields → Starts g alive s (length d.code) d.regs (length d.fields) → Sim g alive st s → (Q : Out → Draft → Type 0)
      → (ScanGives g alive places fields set operand st → (e1 : Draft) (i : Instr) → Within g (with_instr i e1) → (p : Passes g alive bound d e1 s st (Unit {0})) → Puts g set i dest p.t (λ q. unary_of op (number operand st q)) → Q (O.Field dest) (with_instr i e1)) → (Ended g s (meant g fields operand st) → (x : Out) (f : Draft) → Q x f)
      → After g Q (then_make (next_of g.typed (layout g) bits true operand d) (λ v after. negated (layout g) op (O.Field dest) v after))
  unfolding negated in_field Extends step_of
  signed_from bits op dest operand bound d s st most sign long is valued less here sim Q last ended =
      from_scan bits operand dest (λ a. negating g has alive n ready places fields op dest a) (λ v after. negated (layout g) op (O.Field dest) v after) (λ q. unary_of op (number operand st q)) bound d s st (λ a. plain op a sign) (λ a. both op a sign) grows (λ a after. negated_is g has alive n ready places fields op dest a after sign)
      (λ a t numbers. puts_negating g has alive n ready places fields bits set op dest a t (λ q. number operand st q) most sign long numbers) is valued less here sim Q last ended
    where
      one_more_instr : (op : UnaryOp) (f : Field) (after : Draft) → IsSign g has alive n ready places fields op → Extends g after (field_negated op dest f after)
      one_more_instr op f after sign = subst (λ (m : Made Out). Extends g after m) (sym (negated_is g has alive n ready places fields op dest f after sign)) (1, and_one g (negating g has alive n ready places fields op dest f) after)

      grows : (x : Out) (after : Draft) → Extends g after (negated (layout g) op (O.Field dest) x after)
      grows (O.Scalar r) after = tt
      grows (O.Field f) after = one_more_instr op f after sign
      grows O.Nothing after = tt

      plain : (op : UnaryOp) (a : Field) → IsSign g has alive n ready places fields op → step_of (negating g has alive n ready places fields op dest a) ≡ Plain (negating g has alive n ready places fields op dest a)
      plain U.Minus a is = refl
      plain U.Complement a is = refl
      plain U.Plus a is = refl
      plain U.Not a is = refl

      both : (op : UnaryOp) (a : Field) → IsSign g has alive n ready places fields op → fields_of (negating g has alive n ready places fields op dest a) ≡ dest ∷ a ∷ []
      both U.Minus a is = refl
      both U.Complement a is = refl
      both U.Plus a is = refl
      both U.Not a is = refl

  signed_gives : (ty : ValueType) (op : UnaryOp) (p : Boxed) (operand : TExpr) (st : State) → ty.shape ≡ Some set → ScanGives g alive places fields set operand st → ScanGives g alive places fields set (T.Unary' ty op p operand) st
  unfolding scanned_in
  signed_gives ty op p operand st shaped given = unary_means fields.scope fields.active set ty op p operand (λ q. number operand st q) st shaped given

  signed_by : (bits : ℕ) (ty : ValueType) (op : UnaryOp) (p : Boxed) (operand : TExpr) → bits ≤ 32 → IsScan set (T.Unary' ty op p operand) → IsSign g has alive n ready places fields op → Valued bits operand (λ d. value_of g.typed (layout g) bits operand d) → Valued bits (T.Unary' ty op p operand) (λ d. value_of g.typed (layout g) bits (T.Unary' ty op p operand) d)
  unfolding IsScan value_of unary_by unary_bits fresh_for then_make an_entry scanned_in
  signed_by bits ty op p operand most is sign valued d s st here sim =
      known_follows g s (meant g fields e st) (λ q. number e st q) st (ScanGiven bits e d s st) (value_of g.typed (layout g) bits e d)
      (after_same g Q
      (ap (λ (o : UnaryOp). if is_plus o then value_of g.typed (layout g) bits operand d else then_make (fresh_for ty.shape bits d) (λ dest between. then_make (operand_by g.typed (layout g) (unary_bits bits op operand) (value_of g.typed (layout g) (unary_bits bits op operand) operand) true operand between) (λ x after. negated (layout g) o dest x after))) (done_as_it_is g has alive n ready places fields bits op operand sign.1)
      ∙ ap (λ (b : Bool). if b then value_of g.typed (layout g) bits operand d else then_make (fresh_for ty.shape bits d) (λ dest between. then_make (operand_by g.typed (layout g) (unary_bits bits op operand) (value_of g.typed (layout g) (unary_bits bits op operand) operand) true operand between) (λ x after. negated (layout g) op dest x after))) sign.0
      ∙ ap (λ (b : Bool). then_make (fresh_for ty.shape bits d) (λ dest between. then_make (operand_by g.typed (layout g) (if b then bits_of (kind_of operand) else bits) (value_of g.typed (layout g) (if b then bits_of (kind_of operand) else bits) operand) true operand between) (λ x after. negated (layout g) op dest x after))) sign.1
      ∙ ap (λ (o : Option ℕ). then_make (fresh_for o bits d) (λ dest between. then_make (next_of g.typed (layout g) bits true operand between) (λ x after. negated (layout g) op dest x after))) is.0.0)
      (signed_from bits op (next_field set bits d) operand (length d.fields) (with_entry set bits W.Own d) s st most sign refl is.2 valued (let one = one_more set bits W.Own d in omega (arith, one)) (starts_entry g alive _ _ here) sim Q
      (λ given e1 i within passes puts. inl (signed_gives ty op p operand st is.0.0 given, own_result g has alive n ready places fields bits set d e1 s st (λ q. number e st q) i within (no_home g alive (length d.fields) (length d.fields) (omega arith) here) passes puts)) (λ early x f. inr (unary_ended g has alive n ready places fields ty op p operand s st early))))
    where
      e : TExpr
      e = T.Unary' ty op p operand

      Q : Out → Draft → Type 0
      Q out f = (ScanGives g alive places fields set e st × ScanGiven bits e d s st out f) ⊎ Ended g s (meant g fields e st)

  signed_valued : (bits : ℕ) (ty : ValueType) (op : UnaryOp) (p : Boxed) (operand : TExpr) → bits ≤ 32 → IsScan set (T.Unary' ty op p operand) → Valued bits operand (λ d. value_of g.typed (layout g) bits operand d) → Valued bits (T.Unary' ty op p operand) (λ d. value_of g.typed (layout g) bits (T.Unary' ty op p operand) d)
  unfolding IsScan value_of unary_by unary_bits fresh_for then_make an_entry scanned_in kind_of bits_of is_plus negates done_as unary_of
  signed_valued bits ty U.Plus p operand most is valued =
      λ d s st here sim.
      follows_like g s (meant g fields operand st) (meant g fields (T.Unary' ty U.Plus p operand) st) (λ q. number operand st q) (λ q. number operand st q) st (ScanGiven bits operand d s st) (ScanGiven bits (T.Unary' ty U.Plus p operand) d s st) (value_of g.typed (layout g) bits operand d)
      (λ given. signed_gives ty U.Plus p operand st is.0.0 given) (λ early. unary_ended g has alive n ready places fields ty U.Plus p operand s st early)
      (λ out f (h, (same, (gives, apart))). (h, (same, (gives, λ one. absurd (let wrong = one in omega (arith, wrong)))))) (valued d s st here sim)
  signed_valued bits ty U.Minus p operand most is valued = signed_by bits ty U.Minus p operand most is (refl, refl) valued
  signed_valued bits ty U.Complement p operand most is valued = signed_by bits ty U.Complement p operand most is (refl, refl) valued
  signed_valued bits ty U.Not p operand most is valued = absurd (let wrong = is.1 in cc)

  -- a conversion to another type of 32 bits changes no number
  converted_same : (ty : ValueType) (p : Boxed) (operand : TExpr) (st : State) → IsScan set (T.Convert' ty p operand) → AreAlike g 32 set (λ q. number operand st q) (λ q. number (T.Convert' ty p operand) st q)
  unfolding IsScan scanned_in
  converted_same ty p operand st is q below few =
      let cut : number (T.Convert' ty p operand) st q ≡ number operand st q % 2 ^ ty.elem.bits = cut_converted ty.elem (type_of operand).elem (number operand st q) (no_flag ty.elem is.0.1) (scan_shape set operand is.1).1 few in
      (ap (λ (m : ℕ). m % 2 ^ 32) cut ∙ ap (λ (k : ℕ). number operand st q % 2 ^ k % 2 ^ 32) is.0.1 ∙ cut_cut (number operand st q) 32 32 (omega arith), below_word ty.elem.bits _ is.0.1 (converted_below ty.elem (type_of operand).elem (number operand st q)))

  converted_gives : (ty : ValueType) (p : Boxed) (operand : TExpr) (st : State) → ty.shape ≡ Some set → ScanGives g alive places fields set operand st → ScanGives g alive places fields set (T.Convert' ty p operand) st
  unfolding scanned_in evaluated then_do convert_to each at
  converted_gives ty p operand st shaped given =
      ap (λ (o : Outcome Value). then_do o (λ v after. Source.Gives (convert_to ty (type_of operand).elem v) after)) given
      ∙ ap (λ (y : ValueType). Source.Gives (convert_to y (type_of operand).elem (Parallel (λ q. number operand st q))) st) (as_shaped ty set shaped)

  converted_valued : (bits : ℕ) (ty : ValueType) (p : Boxed) (operand : TExpr) → bits ≤ 32 → IsScan set (T.Convert' ty p operand) → HasItsCode g.typed g.instance alive n (T.Convert' ty p operand) → Valued bits operand (λ d. value_of g.typed (layout g) bits operand d) → Valued bits (T.Convert' ty p operand) (λ d. value_of g.typed (layout g) bits (T.Convert' ty p operand) d)
  unfolding IsScan kind_of
  converted_valued bits ty p operand most is c whole d s st here sim =
      follows_same g (Given g (λ q. number e st q) st (ScanGiven bits e d s st)) s refl
      (convert_code g has alive n ready places fields bits ty p operand d (no_flag ty.elem is.0.1) (scan_kept set operand is.1)
      ∙ ap (λ (b : Bool). if b then then_make (a_field (unwrap_or ty.shape 0) bits d) (λ dest begun. extended_by ty.elem.signed dest (next_of g.typed (layout g) ty.elem.bits true operand) begun) else value_of g.typed (layout g) bits operand d) enough)
      (follows_like g s (meant g fields operand st) (meant g fields e st) (λ q. number operand st q) (λ q. number e st q) st (ScanGiven bits operand d s st) (ScanGiven bits e d s st) (value_of g.typed (layout g) bits operand d)
      (λ given. converted_gives ty p operand st is.0.0 given) (λ early. convert_ended g has alive n ready places fields ty p operand s st early)
      (λ out f (h, (same, (gives, narrow))). let both = gives_alike g alive places fields bits (length d.fields) d s set st (λ q. number operand st q) (λ q. number e st q) h f (λ q below few. let alike = converted_same ty p operand st is q below few in (sym (cut_cut (number e st q) bits 32 most) ∙ ap (λ (m : ℕ). m % 2 ^ bits) alike.0 ∙ cut_cut (number operand st q) bits 32 most, alike.1)) gives in (h, (same, (both.0, λ flag. both.1 (narrow (flag_converted ty.elem (kind_of operand) (no_flag ty.elem is.0.1) flag)))))) (whole d s st here sim))
    where
      e : TExpr
      e = T.Convert' ty p operand

      enough : nat_lt ty.elem.bits bits ≡ false
      enough = let wide = is.0.1 in grind (arith, nat_tests, wide, most)

  -- an operator
  operated_valued : (bits : ℕ) (ty : ValueType) (place : Place) (op : Op) (p q : Boxed) (left right : TExpr) → 0 < bits → bits ≤ 32 → IsScan set (T.Binary' ty place op p left q right) → HasItsCode g.typed g.instance alive n (T.Binary' ty place op p left q right)
      → (IsScan set left → Valued (operation_bits bits op right) left (λ d. value_of g.typed (layout g) (operation_bits bits op right) left d)) → (IsScan set right → Valued (operation_bits bits op right) right (λ d. value_of g.typed (layout g) (operation_bits bits op right) right d))
      → Valued bits (T.Binary' ty place op p left q right) (λ d. value_of g.typed (layout g) bits (T.Binary' ty place op p left q right) d)
  unfolding IsScan scanned_in
  operated_valued bits ty place op p q left right some most is c left_valued right_valued d s st here sim =
      known_follows g s (meant g fields e st) (λ x. number e st x) st (ScanGiven bits e d s st) (value_of g.typed (layout g) bits e d)
      (after_same g (λ out f. (ScanGives g alive places fields set e st × ScanGiven bits e d s st out f) ⊎ Ended g s (meant g fields e st)) (binary_code g has alive n ready places fields bits set ty place op p q left right d is.0.0 is.1.0 is.3.1)
      (first_given g has alive n ready places fields works bits (length d.fields) d s set st (λ x. number e st x) (IsFlag e) (ScanGives g alive places fields set e st) (Ended g s (meant g fields e st)) _ (operation_most bits op right most).0
      (sides_after g has alive n ready places fields set works ty place op p q (next_field set works d) left right d s st more (operation_most bits op right most).1 is.0.0 is.1 (divides_wide bits op right) (λ x. right_keeps g has alive n ready places fields set bits op (type_of left).elem.signed right st s sim most is.1 (right_side set left right is.2) is.4 parts.1 x) refl
      is.2 is.3 is.4 parts.0 parts.1 left_valued right_valued here sim (λ out f. (ScanGives g alive places fields set e st × ScanGiven works e d s st out f) ⊎ Ended g s (meant g fields e st))
      (λ given e2 i within passes puts. inl (given, own_result g has alive n ready places fields works set d e2 s st (λ x. number e st x) i within (no_home g alive (length d.fields) (length d.fields) (omega arith) here) passes puts)) (λ early x f. inr early))))
    where
      e : TExpr
      e = T.Binary' ty place op p left q right

      works : ℕ
      works = operation_bits bits op right

      parts : HasItsCode g.typed g.instance alive n left × HasItsCode g.typed g.instance alive n right
      parts = binary_parts g alive n places fields ty place op p q left right c

      more : 0 < works
      more = let less = (operation_most bits op right most).0 in omega (arith, some, less)

  -- its value
  pub scan_valued : (bits : ℕ) (e : TExpr) → 0 < bits → bits ≤ 32 → IsScan set e → HasItsCode g.typed g.instance alive n e → Valued bits e (λ d. value_of g.typed (layout g) bits e d)
  unfolding IsScan value_of scanned_in message_by fresh_for then_make an_entry kind_of evaluated
  scan_valued bits (T.Brackets' ty p inner) some most is c = scan_valued bits inner some most is.1 (brackets_part g alive n places fields ty p inner c)
  scan_valued bits (T.Scan' ty p source axis combiner direction mode bit way) some most is c =
      let part = (source_part g has alive n ready places fields set ty p source axis combiner direction mode bit way c).0 in
      let given = scan_source source is.2 part (λ scans. scan_valued 32 source (omega arith) (omega arith) scans part) (λ scans s st sim q. scan_words source st s sim scans part q) in
      λ d s st here sim.
      follows_same g (Given g (λ q. number whole st q) st (ScanGiven bits whole d s st)) s refl (ap (λ (o : Option ℕ). then_make (fresh_for o 32 d) (λ dest begun. lowest bits (code dest begun))) (scan_shape set whole is).0)
      (own_given bits whole (λ after. code (O.Field (next_field set 32 d)) after) d s st most here sim (scan_message g has alive n ready places fields set ty p source axis combiner direction mode bit way is.0 (given is.1) is.2 is.3 is.4 c (next_field set 32 d) refl))
    where
      whole : TExpr
      whole = T.Scan' ty p source axis combiner direction mode bit way

      code : Out → Draft → Made Out
      code dest after = message_to g.typed (layout g) whole (next_of g.typed (layout g) 32 true source) dest after
  scan_valued bits (T.Enumerate ty axis direction way mode bit) some most is c =
      λ d s st here sim.
      follows_same g (Given g (λ q. number ones st q) st (ScanGiven bits ones d s st)) s refl (ap (λ (o : Option ℕ). then_make (fresh_for o 32 d) (λ dest begun. lowest bits (code dest begun))) is.0.0)
      (own_given bits ones (λ after. code (O.Field (next_field set 32 d)) after) d s st most here sim (ones_message g has alive n ready places fields set ty axis direction way mode bit is.0 is.1 c (next_field set 32 d) refl))
    where
      ones : TExpr
      ones = T.Enumerate ty axis direction way mode bit

      code : Out → Draft → Made Out
      code dest after = communicated g.typed (layout g) ones O.Nothing [] dest after
  scan_valued bits (T.Convert' ty p operand) some most is c = converted_valued bits ty p operand most is c (scan_valued bits operand some most is.1 (convert_part g alive n places fields ty p operand c))
  scan_valued bits (T.Unary' ty op p operand) some most is c = signed_valued bits ty op p operand most is (scan_valued bits operand some most is.2 (unary_part g alive n places fields ty op p operand c))
  scan_valued bits (T.Binary' ty place op p left q right) some most is c =
      let parts = binary_parts g alive n places fields ty place op p q left right c in
      let works = (operation_most bits op right most).1 in
      let more : 0 < operation_bits bits op right = (let less = (operation_most bits op right most).0 in omega (arith, some, less)) in
      operated_valued bits ty place op p q left right some most is c (λ scans. scan_valued (operation_bits bits op right) left more works scans parts.0) (λ scans. scan_valued (operation_bits bits op right) right more works scans parts.1)
  scan_valued bits _ some most is c = absurd is

  -- moved to a field of as many bits
  scan_moved : (f : Field) (bits : ℕ) (e : TExpr) → 0 < bits → bits ≤ 32 → f.len ≡ bits → IsScan set e → HasItsCode g.typed g.instance alive n e → Puts_ f e (λ d. moved g.typed (layout g) (O.Field f) e d)
  unfolding moved bits_for put_value put_in_field Extends step_of
  scan_moved f bits e some most long is c bound d s st less here sim Q last ended =
      from_scan f.len e f (λ a. I.Move true f a) (λ v after. put_value (O.Field f) v after) (λ q. number e st q) bound d s st (λ a. refl) (λ a. refl) grows (λ a after. refl) (λ a t numbers. puts_move g f.len set true f a t (λ q. number e st q) refl numbers) is (scan_valued f.len e (omega (arith, some, long)) (omega (arith, most, long)) is c) less here sim Q last ended
    where
      grows : (x : Out) (after : Draft) → Extends g after (put_value (O.Field f) x after)
      grows (O.Scalar r) after = (1, and_one g (I.MoveConstant f (K.Reg r)) after)
      grows (O.Field h) after = (1, and_one g (I.Move true f h) after)
      grows O.Nothing after = tt

  -- a sign before it
  signed_computed : (f : Field) (bits : ℕ) (ty : ValueType) (op : UnaryOp) (p : Boxed) (operand : TExpr) → 0 < bits → bits ≤ 32 → f.len ≡ bits → IsScan set (T.Unary' ty op p operand) → HasItsCode g.typed g.instance alive n operand → Puts_ f operand (λ d. computed_to g.typed (layout g) (O.Field f) operand d)
      → Puts_ f (T.Unary' ty op p operand) (λ d. computed_to g.typed (layout g) (O.Field f) (T.Unary' ty op p operand) d)
  unfolding IsScan computed_to scanned_in is_plus negates unary_bits bits_for done_as unary_of
  signed_computed f bits ty U.Plus p operand some most long is c whole bound d s st less here sim Q last ended =
      whole bound d s st less here sim Q (λ given e2 i within passes puts. last (signed_gives ty U.Plus p operand st is.0.0 given) e2 i within passes puts) (λ early. ended (unary_ended g has alive n ready places fields ty U.Plus p operand s st early))
  signed_computed f bits ty U.Minus p operand some most long is c whole bound d s st less here sim Q last ended =
      signed_from f.len U.Minus f operand bound d s st (omega (arith, most, long)) (refl, refl) refl is.2 (scan_valued f.len operand (omega (arith, some, long)) (omega (arith, most, long)) is.2 c) less here sim Q (λ given e2 i within passes puts. last (signed_gives ty U.Minus p operand st is.0.0 given) e2 i within passes puts) (λ early. ended (unary_ended g has alive n ready places fields ty U.Minus p operand s st early))
  signed_computed f bits ty U.Complement p operand some most long is c whole bound d s st less here sim Q last ended =
      signed_from f.len U.Complement f operand bound d s st (omega (arith, most, long)) (refl, refl) refl is.2 (scan_valued f.len operand (omega (arith, some, long)) (omega (arith, most, long)) is.2 c) less here sim Q (λ given e2 i within passes puts. last (signed_gives ty U.Complement p operand st is.0.0 given) e2 i within passes puts) (λ early. ended (unary_ended g has alive n ready places fields ty U.Complement p operand s st early))
  signed_computed f bits ty U.Not p operand some most long is c whole bound d s st less here sim Q last ended = absurd (let wrong = is.1 in cc)

  -- Of a value that is converted to a type of at least so many bits, as many of its lowest bits are those of the operand.
  converted_computed : (f : Field) (bits : ℕ) (ty : ValueType) (p : Boxed) (operand : TExpr) → bits ≤ 32 → f.len ≡ bits → ty.shape ≡ Some set → (ty.elem.bits == 1) ≡ false → bits ≤ ty.elem.bits → (type_of operand).elem.bits ≡ 32 → HasItsCode g.typed g.instance alive n (T.Convert' ty p operand)
      → Puts_ f operand (λ d. computed_to g.typed (layout g) (O.Field f) operand d) → Puts_ f (T.Convert' ty p operand) (λ d. computed_to g.typed (layout g) (O.Field f) (T.Convert' ty p operand) d)
  unfolding computed_to scanned_in goes_unchanged keeps_bits
  converted_computed f bits ty p operand most long shaped no_truth enough wide c whole bound d s st less here sim Q last ended =
      after_same g Q (ap (λ (b : Bool). if b then computed_to g.typed (layout g) (O.Field f) operand d else converted_to g.typed (layout g) (O.Field f) (T.Convert' ty p operand) ty.elem operand d) kept)
      (whole bound d s st less here sim Q
      (λ given e2 i within passes puts. last (converted_gives ty p operand st shaped given) e2 i within passes (puts_alike g set i f passes.t (λ q. number operand st q) (λ q. number (T.Convert' ty p operand) st q) alike puts)) (λ early. ended (convert_ended g has alive n ready places fields ty p operand s st early)))
    where
      kept : (nat_le f.len ty.elem.bits && (not (ty.elem.bits == 1) || is_flag operand)) ≡ true
      kept = ap (λ (b : Bool). nat_le f.len ty.elem.bits && (not b || is_flag operand)) no_truth ∙ by_both (nat_le f.len ty.elem.bits) (grind (arith, nat_tests, enough, long))
        where
          by_both : (a : Bool) → a ≡ true → (a && true) ≡ true
          by_both true h = refl
          by_both false h = cc

      alike : AreAlike g f.len set (λ q. number operand st q) (λ q. number (T.Convert' ty p operand) st q)
      alike q below few =
          let cut : number (T.Convert' ty p operand) st q ≡ number operand st q % 2 ^ ty.elem.bits = cut_converted ty.elem (type_of operand).elem (number operand st q) no_truth wide few in
          let fits : f.len ≤ ty.elem.bits = omega (arith, enough, long) in
          let low : number (T.Convert' ty p operand) st q < 2 ^ ty.elem.bits = converted_below ty.elem (type_of operand).elem (number operand st q) in
          (ap (λ (m : ℕ). m % 2 ^ f.len) cut ∙ cut_cut (number operand st q) f.len ty.elem.bits fits, within_word ty.elem (number (T.Convert' ty p operand) st q) low)

  -- an operator
  operated_computed : (f : Field) (bits : ℕ) (ty : ValueType) (place : Place) (op : Op) (p q : Boxed) (left right : TExpr) → 0 < bits → bits ≤ 32 → f.len ≡ bits → f.set ≡ set → IsScan set (T.Binary' ty place op p left q right) → HasItsCode g.typed g.instance alive n (T.Binary' ty place op p left q right)
      → Puts_ f (T.Binary' ty place op p left q right) (λ d. computed_to g.typed (layout g) (O.Field f) (T.Binary' ty place op p left q right) d)
  unfolding computed_to binary_to field_binary_to field_binary_of then_make an_entry passes_from passes_less IsScan fits_field scanned_in
  operated_computed f bits ty place op p q left right some most long on is c bound d s st less here sim Q last ended = by (operation_bits f.len op right == f.len) refl
    where
      whole : TExpr
      whole = T.Binary' ty place op p left q right

      parts : HasItsCode g.typed g.instance alive n left × HasItsCode g.typed g.instance alive n right
      parts = binary_parts g alive n places fields ty place op p q left right c

      few : f.len ≤ 32
      few = omega (arith, most, long)

      more : 0 < f.len
      more = omega (arith, some, long)

      fitting : Bool → Made Out
      fitting b = if b then then_make (a_field f.set (operand_bits f.len op left right) d) (λ spare after. field_binary_of g.typed (layout g) f.len op place left right f spare after) else moved g.typed (layout g) (O.Field f) whole d

      chosen : (b : Bool) → operation_bits f.len op right == f.len ≡ b → computed_to g.typed (layout g) (O.Field f) whole d ≡ fitting b
      chosen b fits = ap (λ (c : Bool). fitting (c || operation_bits f.len op right == f.len)) is.1.0 ∙ ap fitting fits

      by : (b : Bool) → operation_bits f.len op right == f.len ≡ b → After g Q (computed_to g.typed (layout g) (O.Field f) whole d)
      by true fits =
          let works : operation_bits f.len op right ≡ f.len = eqb-true (operation_bits f.len op right) f.len fits in
          after_same g Q
          (chosen true fits
          ∙ ap (λ (k : ℕ). then_make (a_field k (operand_bits f.len op left right) d) (λ spare after. field_binary_of g.typed (layout g) f.len op place left right f spare after)) on
          ∙ ap (λ (k : ℕ). then_make (a_field set k d) (λ spare after. fields_by op (reads_signed op left right) place f spare (operand_by g.typed (layout g) k (value_of g.typed (layout g) k left) (is_quiet right) left) left (operand_by g.typed (layout g) k (value_of g.typed (layout g) k right) true right) right after)) (wide_operands f.len op left right is.1.0 ∙ works)
          ∙ ap (λ (signed : Bool). fields_by op signed place f (next_field set f.len d) (next_of g.typed (layout g) f.len (is_quiet right) left) left (next_of g.typed (layout g) f.len true right) right (with_entry set f.len W.Own d)) (signed_as op left right is.1.0 is.3.1))
          (sides_after g has alive n ready places fields set f.len ty place op p q f left right d s st more few is.0.0 is.1 (λ divided. sym works ∙ divides_wide f.len op right divided) (λ x. subst (λ (k : ℕ). Keeps op (type_of left).elem.signed k (number right st x)) works (right_keeps g has alive n ready places fields set f.len op (type_of left).elem.signed right st s sim few is.1 (right_side set left right is.2) is.4 parts.1 x)) refl
          is.2 is.3 is.4 parts.0 parts.1 (λ scans. scan_valued f.len left more few scans parts.0) (λ scans. scan_valued f.len right more few scans parts.1) here sim Q
          (λ given e2 i within passes puts. last given e2 i within (passes_less g alive bound (length d.fields) d e2 s st (Unit {0}) less (passes_from g alive (length d.fields) d (with_entry set f.len W.Own d) e2 s st (Unit {0}) (and_entry set f.len W.Own d) passes)) puts) ended)
      by false other = after_same g Q (chosen false other) (scan_moved f bits whole some most long is c bound d s st less here sim Q last ended)

  -- a scan becomes the value of a field: one of 32 bits by the scan itself
  scan_computed : (f : Field) (bits : ℕ) (e : TExpr) → 0 < bits → bits ≤ 32 → f.len ≡ bits → f.set ≡ set → IsScan set e → HasItsCode g.typed g.instance alive n e → Puts_ f e (λ d. computed_to g.typed (layout g) (O.Field f) e d)
  unfolding IsScan computed_to scanned_in evaluated bits_for
  scan_computed f bits (T.Brackets' ty p inner) some most long on is c = scan_computed f bits inner some most long on is.1 (brackets_part g alive n places fields ty p inner c)
  scan_computed f bits (T.Scan' ty p source axis combiner direction mode bit way) some most long on is c =
      λ bound d s st less here sim Q last ended.
      by_bits (f.len == 32) refl bound d s st less here sim Q last ended
    where
      whole : TExpr
      whole = T.Scan' ty p source axis combiner direction mode bit way

      part : HasItsCode g.typed g.instance alive n source
      part = (source_part g has alive n ready places fields set ty p source axis combiner direction mode bit way c).0

      given : SourceGiven g has alive n ready places fields set source
      given = scan_source source is.2 part (λ scans. scan_valued 32 source (omega arith) (omega arith) scans part) (λ scans s st sim q. scan_words source st s sim scans part q) is.1

      code : Bool → Draft → Made Out
      code b d = if b then gone_to (O.Field f) (message_to g.typed (layout g) whole (next_of g.typed (layout g) 32 true source) (O.Field f) d) else moved g.typed (layout g) (O.Field f) whole d

      by_bits : (b : Bool) → (f.len == 32) ≡ b → Puts_ f whole (λ d. code (f.len == 32) d)
      by_bits true wide bound d s st less here sim Q last ended =
          after_same g Q (ap (λ (b : Bool). code b d) wide)
          (gone_same g has alive n ready places fields (O.Field f) Q _ (scan_message g has alive n ready places fields set ty p source axis combiner direction mode bit way is.0 given is.2 is.3 is.4 c f on bound d s st less here sim (λ out e. Q (O.Field f) e) last (λ early x after. ended early (O.Field f) after)))
      by_bits false narrow bound d s st less here sim Q last ended = after_same g Q (ap (λ (b : Bool). code b d) narrow) (scan_moved f bits whole some most long is c bound d s st less here sim Q last ended)
  scan_computed f bits (T.Enumerate ty axis direction way mode bit) some most long on is c = scan_moved f bits (T.Enumerate ty axis direction way mode bit) some most long is c
  scan_computed f bits (T.Convert' ty p operand) some most long on is c = converted_computed f bits ty p operand most long is.0.0 (no_flag ty.elem is.0.1) (let wide = is.0.1 in omega (arith, wide, most)) (scan_shape set operand is.1).1 c (scan_computed f bits operand some most long on is.1 (convert_part g alive n places fields ty p operand c))
  scan_computed f bits (T.Unary' ty op p operand) some most long on is c = let part = unary_part g alive n places fields ty op p operand c in signed_computed f bits ty op p operand some most long is part (scan_computed f bits operand some most long on is.2 part)
  scan_computed f bits (T.Binary' ty place op p left q right) some most long on is c = operated_computed f bits ty place op p q left right some most long on is c
  scan_computed f bits _ some most long on is c = absurd is

  pub scanned_small : (bits : ℕ) (e : TExpr) (st : State) (s : CodeState) → Sim g alive st s → IsScanned set bits e → HasItsCode g.typed g.instance alive n e → (q : ℕ) → number e st q < 2 ^ (type_of e).elem.bits
  unfolding IsScanned scanned_in
  scanned_small bits (T.Brackets' ty p inner) st s sim is c q = subst (λ (y : ValueType). number inner st q < 2 ^ y.elem.bits) (sym is.0) (scanned_small bits inner st s sim is.1 (brackets_part g alive n places fields ty p inner c) q)
  scanned_small bits (T.Convert' ty p operand) st s sim is c q = converted_below ty.elem (type_of operand).elem (number operand st q)
  scanned_small bits e st s sim is c q = below_bits (type_of e).elem.bits _ (scan_shape set e is).1 (scan_words e st s sim is c q)

  -- so does one that is converted
  scanned_computed : (f : Field) (bits : ℕ) (e : TExpr) → 0 < bits → bits ≤ 32 → f.len ≡ bits → f.set ≡ set → IsScanned set bits e → HasItsCode g.typed g.instance alive n e → Puts_ f e (λ d. computed_to g.typed (layout g) (O.Field f) e d)
  unfolding IsScanned computed_to scanned_in evaluated
  scanned_computed f bits (T.Brackets' ty p inner) some most long on is c = scanned_computed f bits inner some most long on is.1 (brackets_part g alive n places fields ty p inner c)
  scanned_computed f bits (T.Convert' ty p operand) some most long on is c = converted_computed f bits ty p operand most long is.0 is.1 is.2 (scan_shape set operand is.3).1 c (scan_computed f bits operand some most long on is.3 (convert_part g alive n places fields ty p operand c))
  scanned_computed f bits e some most long on is c = scan_computed f bits e some most long on is c

  pub scanned_last : (f : Field) (bits : ℕ) (e : TExpr) → 0 < bits → bits ≤ 32 → f.len ≡ bits → f.set ≡ set → IsScanned set bits e → HasItsCode g.typed g.instance alive n e → Puts_ f e (λ d. put_to g.typed (layout g) (O.Field f) e d)
  unfolding put_to word_for
  scanned_last f bits e some most long on is c bound d s st less here sim Q last ended =
      after_same g Q (ap (λ (o : Option ℕ). elim o as (λ _. Made Out) [ Some word ↦ word_put (O.Field f) word d | None ↦ computed_to g.typed (layout g) (O.Field f) e d ]) (scanned_word set bits e is))
      (scanned_computed f bits e some most long on is c bound d s st less here sim Q last ended)
