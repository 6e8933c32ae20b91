use Rattle.faultless_files.proofs.Files.{files_accepted}
use Rattle.shape_types.proofs.Needs.{types_file}
use Rattle.shape_types.proofs.check.Goals as goal

pub returns-then-has_room-clause-exact : goal.returns-then-has_room-clause-exact
returns-then-has_room-clause-exact c few plain =
    let room = rw (c.as_slice.ensures.value, c.as_slice-2.ensures.value) at (c.has_room.ensures.0 c.if-has_room.true) in
    types_file c.args.tree.now c.in_ok-typed.typed (c.in_ok-typed.ensures.exact few plain) room

pub returns-then-has_room-clause-new : goal.returns-then-has_room-clause-new
returns-then-has_room-clause-new c few plain = let typed = c.in_ok-typed.ensures.exact few plain in typed.new

pub returns-then-has_room-clause-accepted : goal.returns-then-has_room-clause-accepted
returns-then-has_room-clause-accepted c few plain nodes =
    let room = rw (c.as_slice.ensures.value, c.as_slice-2.ensures.value) at (c.has_room.ensures.0 c.if-has_room.true) in
    let tree = c.args.tree.now in
    let typed = c.in_ok-typed.typed in
    files_accepted tree typed (types_file tree typed (c.in_ok-typed.ensures.exact few plain) room) c.in_ok-typed.ensures.typed (record { named = c.in_ok-typed.ensures.named few plain; few_nodes = nodes }) room
