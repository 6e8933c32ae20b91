-- Assignments of values with scans in them to parallel variables follow.
use Rattle.std.proofs.Common.{◌≡◌, ◌∙◌, ℕ, ◌<◌, ◌≤◌, ◌^◌, ◌==◌, true, false, length, Option, Some, None, refl, sym, ap, subst, arith, inl}
use Rattle.std.proofs.Math.Nat.{mod-eq_of_lt}
use Rattle.cstar_base.specs.declared.elem.Elem.{Elem}
use Rattle.cstar_base.specs.declared.operators.Op.{Op}
use Rattle.cstar_base.specs.declared.operators.Place.{Place}
use Rattle.cstar_base.proofs.NumberLaws.{kind_bits}
use Rattle.cstar_tree.specs.declared.syntax.AssignOp.{AssignOp}
use Rattle.cstar_tree.specs.declared.typed.TExpr.{TExpr}
use Rattle.cstar_tree.specs.declared.typed.TExpr as T
use Rattle.cstar_tree.specs.declared.typed.ValueType.{ValueType}
use Rattle.cstar_tree.specs.declared.typed.Variable.{Variable}
use Rattle.cstar_tree.specs.Typed.{type_of}
use Rattle.code_lengths.specs.Ready.{IsReadyButForFields}
use Rattle.lower_base.specs.declared.emit.Out.{Out}
use Rattle.lower_base.specs.Drafts.{Draft, with_instr}
use Rattle.lower_base.specs.Operators.{assign_op_of}
use Rattle.lower_expr.specs.Kinds.{operation_bits}
use Rattle.lower_expr.specs.Values.{right_by}
use Rattle.paris_code.specs.Code.{CodeState}
use Rattle.source_meaning.specs.State.{State}
use Rattle.source_meaning.proofs.ConstantLaws.{Boxed}
use Rattle.code_follows.proofs.Following.{HasRegisters, Sim}
use Rattle.code_follows.proofs.Settings.{Setting, layout}
use Rattle.fields_follow.proofs.Writing.{lands_here}
use Rattle.fields_follow.specs.Fragment.{HasOperation, IsOperation, IsScan, IsScanAssigned, IsScanFor, IsScanned}
use Rattle.fields_follow.proofs.Assigning.{Begins, Q, assigned_follows, code, entry_of, is_elem, operator_after, plain_after, where_assigned}
use Rattle.fields_follow.proofs.Forms.{HasItsCode}
use Rattle.fields_follow.proofs.Leaving.{UpdateLeaves}
use Rattle.fields_follow.proofs.Operands.{GivesRight, RightField, Takes}
use Rattle.fields_follow.proofs.Outcomes.{given_weaker, meant}
use Rattle.fields_follow.proofs.Passing.{After}
use Rattle.fields_follow.proofs.Places.{HoldsTheFields, PlacesFields}
use Rattle.fields_follow.proofs.ScanForms.{scan_shape}
use Rattle.fields_follow.proofs.ScanOperands.{right_keeps, scan_right}
use Rattle.fields_follow.proofs.Scanned.{scan_valued, scan_words, scanned_last, scanned_small}
use Rattle.fields_follow.proofs.Scanning.{scanned_in}
use Rattle.fields_follow.proofs.Starts.{Starts}
use Rattle.fields_follow.proofs.Values.{operand_of}

module _ (g : Setting) (has : HasRegisters g) (alive : Variable → Type 0) (n : ℕ) (ready : (d : Draft) → IsReadyButForFields g.typed g.instance (layout g) n d) (places : PlacesFields g) (fields : HoldsTheFields g) where
  assigns : (ty : ValueType) (place : Place) (op : AssignOp) (p q : Boxed) (target value : TExpr) (set : ℕ) (same : ty ≡ type_of target) (operates : HasOperation op ty.elem value) → IsScanFor set ty.elem.bits op value → HasItsCode g.typed g.instance alive n value → (d : Draft) (s : CodeState) (st : State) → Begins g has alive n ready places fields set target d s st
      → UpdateLeaves g alive fields (T.Assign' ty place op p target q value) d s st
  assigns ty place op p q target value set same operates is_value c d s st b =
      assigned_follows g has alive n ready places fields ty place op p q target value set same operates d s st b number (by (assign_op_of op) refl operates is_value)
    where
      bits : ℕ
      bits = b.to.info.elem.bits

      fits : (0 < bits) × (bits ≤ 32)
      fits = kind_bits b.to.info.elem.bits b.to.info.elem.signed b.to.info.elem.kind

      long : ty.elem.bits ≡ bits
      long = ap (λ (e : Elem). e.bits) (is_elem g has alive n ready places fields ty place op p q target value set same operates d s st b)

      number : ℕ → ℕ
      number = λ y. scanned_in g alive places fields set st value y

      Said : Out → Draft → Type 0
      Said = Q g has alive n ready places fields ty place op p q target value set same operates d s st b number

      by : (o : Option Op) → assign_op_of op ≡ o → (elim o as (λ _. Type 0) [ None ↦ (type_of value).elem.bits ≡ ty.elem.bits | Some x ↦ IsOperation x value × ((type_of value).elem.bits ≡ 32) × ((ty.elem.bits == 1) ≡ false) × (operation_bits ty.elem.bits x value ≡ ty.elem.bits) ])
          → (elim o as (λ _. Type 0) [ None ↦ IsScanned set ty.elem.bits value | Some x ↦ IsScan set value ]) → After g Said (code g has alive n ready places fields ty place op p q target value set same operates d s st b (assign_op_of op))
      by None none as_long scans =
          let scanned : IsScanned set bits value = subst (λ (m : ℕ). IsScanned set m value) long scans in
          let few : (y : ℕ) → number y < 2 ^ bits = λ y. subst (λ (m : ℕ). number y < 2 ^ m) (as_long ∙ long) (scanned_small g has alive n ready places fields set bits value st s b.sim scanned c y) in
          plain_after g has alive n ready places fields ty place op p q target value set same operates d s st b number none number few (λ y. sym (mod-eq_of_lt (few y)))
          (λ last ended. scanned_last g has alive n ready places fields set (entry_of g has alive n ready places fields set target d s st b) bits value fits.0 fits.1 refl refl scanned c (length b.found.e.fields) b.found.e s st (omega arith) b.here b.sim Said
          (λ given e2 i within passes puts. last given e2 i (with_instr i e2) within passes puts (lands_here g (with_instr i e2))) ended)
      by (Some x) is known scans =
          operator_after g has alive n ready places fields ty place op p q target value set same operates d s st b number x is known (λ y. scan_words g has alive n ready places fields set value st s b.sim scans c y)
          (λ signed y. right_keeps g has alive n ready places fields set bits x signed value st s b.sim fits.1 known.0 (inl scans) (scan_shape set value scans) c y)
          (λ e t here sim. given_weaker g t (meant g fields value st) number st (RightField g has alive n ready places fields bits e t set st number) (λ right f. Takes x right × GivesRight g has alive n ready places fields bits (length e.fields) e t set st number right f) (right_by (operand_of g has alive n ready places fields bits true value) x value e)
          (λ right f h. ((λ word alike divided. let wrong = sym h.1.0 ∙ alike in cc), inl h)) (scan_right g has alive n ready places fields set bits x value scans (scan_valued g has alive n ready places fields set bits value fits.0 fits.1 scans c) e t st here sim)) c

  -- the assignment of a scan leaves what it leaves in the source
  pub scans_leave : (e : TExpr) → IsScanAssigned e → HasItsCode g.typed g.instance alive n e → (d : Draft) (s : CodeState) (st : State) → Starts g alive s (length d.code) d.regs (length d.fields) → Sim g alive st s → UpdateLeaves g alive fields e d s st
  unfolding IsScanAssigned
  scans_leave (T.Assign' ty place op p target q value) is c d s st here sim =
      where_assigned g has alive n ready places fields ty place op p q target value is.2.0 is.0 is.1 is.2.1.0 c d s st here sim (λ b part. assigns ty place op p q target value is.2.0 is.0 is.1 is.2.1.1 part d s st b)
  scans_leave _ is c d s st here sim = absurd is
