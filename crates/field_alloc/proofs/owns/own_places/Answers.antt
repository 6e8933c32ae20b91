use Rattle.std.proofs.Common.{◌≡◌, ℕ, ◌+◌, ◌<◌, ◌≤◌, List, [], ◌∷◌, ◌++◌, Vec, Global, length, map, sym, ap, ◌∙◌, subst, refl, arith}
use Rattle.std.proofs.lemmas.List.{length_push}
use Rattle.std.proofs.lemmas.Option.{slice_get_read, slice_get_within}
use Rattle.std.specs.List.{slice_index, slice_index_or}
use Rattle.paris_code.specs.declared.program.Virtual.{Virtual}
use Rattle.field_alloc.specs.Named.{AreAllBehind, AreLifted, AreUnitApart, IsBased, IsUnitAbove, IsUnitUnder, IsUsedAt}
use Rattle.field_alloc.specs.Places.{items_of}
use Rattle.field_alloc.proofs.Held.{all_pairs_more, all_rows_more, lifted_above, lifted_apart, lifted_based}
use Rattle.field_alloc.proofs.owns.own_places.Goals as goal

pub loop-unit-preserved : goal.loop-unit-preserved
loop-unit-preserved c =
    let units = c.args.units.now in
    let sets = length c.args.ends.now in
    let i = c.loop-unit.unit-index in
    let u = c.unit-item.result in
    let rows = c.loop-unit.places.items in
    let v = c.in_ok-own.own in
    let starts = c.in_ok-starts.starts.items in
    let base = c.as_slice-in-loop-unit-2.result.now in
    let row = c.row-in-loop-unit.result.now in
    let is_u = slice_get_read units (length units) i u refl c.loop-unit-test.true c.unit-item.is in
    let number_is : c.len-number.result ≡ i = omega arith in
    let row_is : row ≡ slice_index_or (map items_of starts) i [] =
    c.row-in-loop-unit.ensures
    ∙ ap (λ (l : List (Vec ℕ Global)). slice_index_or (map items_of l) c.len-number.result []) c.as_slice-in-loop-unit-3.ensures.value
    ∙ ap (λ k. slice_index_or (map items_of starts) k []) number_is in
    let here = subst (λ (l : List ℕ). AreUnitApart u (IsUsedAt units i u) sets l) (sym row_is) (c.in_ok-starts.ensures.apart i u is_u) in
    let lifted = subst (λ (es : List Virtual). AreLifted es base row v.items) c.as_slice-in-loop-unit.ensures.value c.in_ok-own.ensures in
    let new = lifted_apart u (IsUsedAt units i u) sets base row v.items lifted here in
    let base_is = c.as_slice-in-loop-unit-2.ensures.value in
    let higher = subst (λ (l : List ℕ). (set : ℕ) → set < sets → slice_index c.args.ends.now set ≤ slice_index l set) (sym base_is) c.in_ok-base.ensures in
    let newer = lifted_above u c.args.ends.now base row v.items lifted higher in
    let tops = c.starts_of_units.new.tops.items in
    let lower = subst (λ (l : List ℕ). IsUnitUnder u (IsUsedAt units i u) sets l (slice_index_or (map items_of tops) i [])) (sym row_is) (c.in_ok-starts.ensures.under i u is_u) in
    let newest = subst (λ (l : List ℕ). IsBased u (IsUsedAt units i u) sets (slice_index_or (map items_of tops) i []) v.items l) base_is (lifted_based u (IsUsedAt units i u) sets base row v.items (slice_index_or (map items_of tops) i []) lifted lower) in
    record {
      long = ap length c.in_ok-push.ensures.items ∙ length_push rows v ∙ ap (λ n. n + 1) c.loop-unit.invariant.long;
      apart = λ number unit lt is.
          subst (λ (l : List (Vec ℕ Global)). AreUnitApart unit (IsUsedAt units number unit) sets (slice_index_or (map items_of l) number []))
          (sym {A = List (Vec ℕ Global)} c.in_ok-push.ensures.items)
          (all_rows_more (λ n w l. AreUnitApart w (IsUsedAt units n w) sets l) units rows v i u c.loop-unit.invariant.long is_u c.loop-unit.invariant.apart new number unit lt is);
      above = λ number unit lt is.
          subst (λ (l : List (Vec ℕ Global)). IsUnitAbove c.args.ends.now unit (slice_index_or (map items_of l) number []))
          (sym {A = List (Vec ℕ Global)} c.in_ok-push.ensures.items)
          (all_rows_more (λ n w l. IsUnitAbove c.args.ends.now w l) units rows v i u c.loop-unit.invariant.long is_u c.loop-unit.invariant.above newer number unit lt is);
      bases_long = ap length c.in_ok-push-2.ensures.items ∙ length_push c.loop-unit.bases.items c.in_ok-base.base ∙ ap (λ n. n + 1) c.loop-unit.invariant.bases_long;
      based = λ number unit lt is.
          subst (λ (l : List (Vec ℕ Global)). IsBased unit (IsUsedAt units number unit) sets (slice_index_or (map items_of tops) number []) (slice_index_or (map items_of l) number []) (slice_index_or (map items_of c.push-in-loop-unit.new.self.items) number []))
          (sym {A = List (Vec ℕ Global)} c.in_ok-push.ensures.items)
          (subst (λ (l : List (Vec ℕ Global)). IsBased unit (IsUsedAt units number unit) sets (slice_index_or (map items_of tops) number []) (slice_index_or (map items_of (rows ++ v ∷ [])) number []) (slice_index_or (map items_of l) number []))
          (sym {A = List (Vec ℕ Global)} c.in_ok-push-2.ensures.items)
          (all_pairs_more (λ n w l m. IsBased w (IsUsedAt units n w) sets (slice_index_or (map items_of tops) n []) l m) units rows c.loop-unit.bases.items v c.in_ok-base.base i u c.loop-unit.invariant.long c.loop-unit.invariant.bases_long is_u c.loop-unit.invariant.based
          newest number unit lt is));
    }

pub returns-then-are_all_behind : goal.returns-then-are_all_behind
returns-then-are_all_behind c =
    let units = c.args.units.now in
    let sets = length c.args.ends.now in
    let places = c.loop-unit.places.items in
    let bases = c.loop-unit.bases.items in
    let tops = c.starts_of_units.new.tops.items in
    let behind =
    subst (λ (l : List (Vec ℕ Global)). AreAllBehind units sets (map items_of l) (map items_of tops)) c.as_slice-3.ensures.value
    (subst (λ (l : List (Vec ℕ Global)). AreAllBehind units sets (map items_of c.as_slice-3.result.now) (map items_of l)) c.as_slice-4.ensures.value
    (c.are_all_behind.ensures c.if-are_all_behind.true)) in
    record {
      apart = λ number unit is.
          let within = slice_get_within units number unit is in
          c.loop-unit.invariant.apart number unit (omega arith) is;
      above = λ number unit is.
          let within = slice_get_within units number unit is in
          c.loop-unit.invariant.above number unit (omega arith) is;
      stacked = record {
        bases = map items_of bases;
        tops = map items_of tops;
        behind = behind;
        based = λ number unit is.
            let within = slice_get_within units number unit is in
            c.loop-unit.invariant.based number unit (omega arith) is;
      };
    }
