-- Element types are the same where their widths and signs are.
use Rattle.std.proofs.Common.{◌≡◌, ℕ, Bool, true, false, refl, ap, subst, ◌&&◌}
use Rattle.std.proofs.Math.Bool.{Bool-set, beq}
use Rattle.std.proofs.Math.Dec.{eqb}
use Rattle.std.proofs.lemmas.Bool.{eqb-true, eq-eqb}
use Rattle.cstar_base.specs.Kinds.{is_kind}
use Rattle.cstar_base.specs.declared.elem.Elem.{Elem}

pub same_parts : (a b : Elem) → a.bits ≡ b.bits → a.signed ≡ b.signed → a ≡ b
same_parts a b p q =
    subst (λ (n : ℕ). (k : is_kind n b.signed ≡ true) → a ≡ record { bits = n; signed = b.signed; kind = k }) p
    (subst (λ (s : Bool). (k : is_kind a.bits s ≡ true) → a ≡ record { bits = a.bits; signed = s; kind = k }) q
    (λ k. ap (λ (h : is_kind a.bits a.signed ≡ true). let e : Elem = record { bits = a.bits; signed = a.signed; kind = h } in e) (Bool-set _ _ a.kind k))) b.kind

beq-true : (a b : Bool) → beq a b ≡ true → a ≡ b
beq-true true true h = refl
beq-true false false h = refl
beq-true true false h = cc
beq-true false true h = cc

beq-refl : (a : Bool) → beq a a ≡ true
beq-refl true = refl
beq-refl false = refl

both : (x y : Bool) → (x && y) ≡ true → (x ≡ true) × (y ≡ true)
both true true h = (refl, refl)
both true false h = (refl, h)
both false true h = (h, refl)
both false false h = (h, h)

pub same_elem : (a b : Elem) → (eqb a.bits b.bits && beq a.signed b.signed) ≡ true → a ≡ b
same_elem a b h = let t = both (eqb a.bits b.bits) (beq a.signed b.signed) h in same_parts a b (eqb-true a.bits b.bits t.0) (beq-true a.signed b.signed t.1)

pub other_elem : (a b : Elem) → (eqb a.bits b.bits && beq a.signed b.signed) ≡ false → a ≡ b → ⊥
other_elem a b h is =
    let x : eqb a.bits b.bits ≡ true = eq-eqb a.bits b.bits (ap (λ (e : Elem). e.bits) is) in
    let y : beq a.signed b.signed ≡ true = subst (λ (s : Bool). beq a.signed s ≡ true) (ap (λ (e : Elem). e.signed) is) (beq-refl a.signed) in
    cc
