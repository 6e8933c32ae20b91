use Rattle.std.proofs.Common.{◌≡◌, ℕ, ◌+◌, Bool, List, [], ◌∷◌, ◌++◌, Vec, Global, length, map, sym, ap, ◌∙◌, subst, refl, arith}
use Rattle.std.proofs.lemmas.List.{length_push}
use Rattle.std.proofs.lemmas.Option.{slice_get_read, slice_get_within}
use Rattle.std.specs.List.{slice_index_or}
use Rattle.field_alloc.specs.Lent.{flags_of}
use Rattle.field_alloc.specs.Named.{AreUnitApart, IsInUseAt, IsUnitUnder, IsUsedAt}
use Rattle.field_alloc.specs.Places.{items_of}
use Rattle.field_alloc.proofs.Held.{all_pairs_more, all_rows_more, flagged_apart, flagged_under}
use Rattle.field_alloc.proofs.owns.starts_of_units.Goals as goal

pub loop-unit-preserved : goal.loop-unit-preserved
loop-unit-preserved c =
    let units = c.args.units.now in
    let sets = c.args.sets in
    let flags = map flags_of c.args.lent.now in
    let i = c.loop-unit.unit-index in
    let u = c.unit-item.result in
    let rows = c.loop-unit.starts.items in
    let v = c.in_ok-own.own.starts in
    let w = c.in_ok-own.own.ends in
    let is_u = slice_get_read units (length units) i u refl c.loop-unit-test.true c.unit-item.is in
    let row_is : c.flags_at.result.now ≡ slice_index_or flags i [] = c.flags_at.ensures ∙ ap (λ k. slice_index_or flags k []) (let e : c.len.result ≡ i = omega arith in e) in
    let new = flagged_apart units flags i u sets v.items c.requires.lent is_u
    (subst (λ (l : List Bool). AreUnitApart u (IsInUseAt u l) sets v.items) row_is c.in_ok-own.ensures.apart) in
    let lower = flagged_under units flags i u sets v.items w.items c.requires.lent is_u
    (subst (λ (l : List Bool). IsUnitUnder u (IsInUseAt u l) sets v.items w.items) row_is c.in_ok-own.ensures.under) in
    record {
      long = ap length c.in_ok-push.ensures.items ∙ length_push rows v ∙ ap (λ n. n + 1) c.loop-unit.invariant.long;
      apart = λ number unit lt is.
          subst (λ (l : List (Vec ℕ Global)). AreUnitApart unit (IsUsedAt units number unit) sets (slice_index_or (map items_of l) number []))
          (sym {A = List (Vec ℕ Global)} c.in_ok-push.ensures.items)
          (all_rows_more (λ n z l. AreUnitApart z (IsUsedAt units n z) sets l) units rows v i u c.loop-unit.invariant.long is_u c.loop-unit.invariant.apart new number unit lt is);
      tops_long = ap length c.in_ok-push-2.ensures.items ∙ length_push c.loop-unit.tops.items w ∙ ap (λ n. n + 1) c.loop-unit.invariant.tops_long;
      under = λ number unit lt is.
          subst (λ (l : List (Vec ℕ Global)). IsUnitUnder unit (IsUsedAt units number unit) sets (slice_index_or (map items_of l) number []) (slice_index_or (map items_of c.push-in-loop-unit.new.self.items) number []))
          (sym {A = List (Vec ℕ Global)} c.in_ok-push.ensures.items)
          (subst (λ (l : List (Vec ℕ Global)). IsUnitUnder unit (IsUsedAt units number unit) sets (slice_index_or (map items_of (rows ++ v ∷ [])) number []) (slice_index_or (map items_of l) number []))
          (sym {A = List (Vec ℕ Global)} c.in_ok-push-2.ensures.items)
          (all_pairs_more (λ n z l m. IsUnitUnder z (IsUsedAt units n z) sets l m) units rows c.loop-unit.tops.items v w i u c.loop-unit.invariant.long c.loop-unit.invariant.tops_long is_u c.loop-unit.invariant.under
          lower number unit lt is));
    }

pub returns-clause-apart : goal.returns-clause-apart
returns-clause-apart c = λ number unit is.
    let within = slice_get_within c.args.units.now number unit is in
    c.loop-unit.invariant.apart number unit (omega arith) is

pub returns-clause-under : goal.returns-clause-under
returns-clause-under c = λ number unit is.
    let within = slice_get_within c.args.units.now number unit is in
    c.loop-unit.invariant.under number unit (omega arith) is
