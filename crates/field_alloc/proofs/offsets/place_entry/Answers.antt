use Rattle.std.proofs.Common.{ℕ, ◌+◌, ◌<◌, ◌≤◌, List, length, get_or, ap, ◌∙◌, arith}
use Rattle.std.proofs.lemmas.Option.{slice_get-get_or}
use Rattle.std.specs.List.{slice_index}
use Rattle.paris_code.specs.declared.program.Owner.TheVariants as O
use Rattle.paris_code.specs.declared.program.Virtual.{Virtual}
use Rattle.field_alloc.proofs.Sweeps.{below_last, below_skip, in_set, owner_read, set_read, swept_more, swept_skip}
use Rattle.field_alloc.proofs.offsets.place_entry.Goals as goal

pub returns-in_default : goal.returns-in_default
returns-in_default c = record {
  swept = λ before h. swept_skip _ _ _ _ _ before _ _ h (λ len a p. c.in_default.not-Own (owner_read _ _ _ _ len a p));
  below = λ top le h. below_skip _ _ _ _ _ top h (λ len a p. c.in_default.not-Own (owner_read _ _ _ _ len a p));
}

pub returns-then-entry-set : goal.returns-then-entry-set
returns-then-entry-set c = record {
  swept = λ before h. swept_skip _ _ _ _ _ before _ _ h (λ len a p. c.if-entry-set.true (set_read _ _ _ _ len a p));
  below = λ top le h. below_skip _ _ _ _ _ top h (λ len a p. c.if-entry-set.true (set_read _ _ _ _ len a p));
}

pub returns-in_default-spans : goal.returns-in_default-spans
returns-in_default-spans c = record {
  swept = λ before h. swept_skip _ _ _ _ _ before _ _ h (λ len a p. c.in_default-spans.not-Some a p.span_is);
  below = λ top le h. below_skip _ _ _ _ _ top h (λ len a p. c.in_default-spans.not-Some a p.span_is);
}

pub returns : goal.returns
returns c =
    let fields = c.args.fields.now in
    let n = c.args.number in
    let v : Virtual = get_or fields n (record { set = 0; len = 0; owner = O.File 0 }) in
    let start = c.highest-start.result in
    let span = c.in-Some.span in
    let raised = c.raise.new.heights.items in
    let made = c.make_room.new.heights.items in
    let p = in_set fields c.args.spans.now c.args.set n v span (slice_get-get_or fields n _ c.requires.number) c.if-entry-set.false c.in-Own.is c.in-Some.is in
    let in_starts : n < length c.args.starts.now.items = omega arith in
    record {
      swept = λ before h.
          swept_more fields c.args.spans.now c.args.size c.args.set n before c.args.starts.now.items c.args.heights.now.items h v.len start span raised p in_starts
          (c.raise.ensures.length ∙ c.in_ok-make_room.ensures.length)
          (λ at in_code held.
          let small : at < 4294967295 = omega arith in
          let e = ap (λ (l : List ℕ). slice_index l at) c.as_slice.ensures.value in
          let r = c.in_ok-make_room.ensures.risen at in
          let most = c.highest-start.ensures at small held in
          omega arith)
          (λ at in_code held.
          let small : at < 4294967295 = omega arith in
          let in_made : at < length made = omega (arith, c.in_ok-make_room.ensures.length) in
          let r = c.raise.ensures.raised at small in_made held in
          omega (arith, c.in-Some-checked_add.ensures, c.from.ensures))
          (λ at.
          let r = c.in_ok-make_room.ensures.risen at in
          let q = c.raise.ensures.risen at in
          omega arith);
      below = λ top le h.
          below_last fields c.args.spans.now c.args.set n c.args.starts.now.items top h v.len start span p in_starts
          (let e : start + v.len ≤ top = omega (arith, c.in-Some-checked_add.ensures, c.from.ensures) in e);
    }
