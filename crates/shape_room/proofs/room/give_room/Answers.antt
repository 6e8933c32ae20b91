use Rattle.std.proofs.Common.{◌∙◌, ap, length, refl, sym, arith}
use Rattle.std.proofs.lemmas.Option.{get_or_from_slice_get, slice_get_read, slice_get_within}
use Rattle.std.specs.Prelude.{slice_set}
use Rattle.cstar_tree.specs.Room.{own_room}
use Rattle.shape_room.proofs.Counting.{sum, whole}
use Rattle.shape_room.specs.Counted.{counted}
use Rattle.shape_room.proofs.room.give_room.Goals as goal

pub returns-in_default : goal.returns-in_default
returns-in_default c = record {
  given = λ i is. absurd (omega (arith, slice_get_within c.args.instances.now c.args.number i is, c.in_default.ensures.lookup.3));
  none = λ none. refl;
}

pub returns : goal.returns
returns c =
    let lookup = c.in-Some.ensures.lookup in
    record {
      given = λ i is.
          let caller = lookup.1 ∙ get_or_from_slice_get c.args.instances.now c.args.number i c.in-Some.caller.now is in
          let own = c.instance.ensures ∙ ap (λ i. counted (own_room c.args.shape i)) caller in
          ap (slice_set c.args.rooms.now c.args.number) (sum _ _ own (whole c.greatest_called-greatest.ensures c.greatest_called-greatest.type_inv) c.saturating_add.ensures);
      none = λ none. cc (sym none ∙ slice_get_read c.args.instances.now (length c.args.instances.now) c.args.number c.in-Some.caller.now refl lookup.3.0 lookup.1);
    }
