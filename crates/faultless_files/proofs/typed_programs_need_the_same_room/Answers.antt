use Rattle.faultless_files.proofs.SameRooms.{same_machine_bits}
use Rattle.faultless_files.proofs.typed_programs_need_the_same_room.Goals as goal

pub returns : goal.returns
returns c = same_machine_bits
