use Rattle.std.proofs.Common.{◌≡◌, ◌≤◌, length, map, take, slice_index}
use Rattle.std.specs.List.{flat_map}
use Rattle.paris_code.specs.Operands.{coordinate_of, registers_of_coordinate, registers_of_step}
use Rattle.front_end.specs.Front.{state_of}
use Rattle.front_end.proofs.front.Front.gather.Given as goal

abbrev pub invariant-addresses : goal.invariant-addresses
invariant-addresses l = (length l.self.args.items ≤ l.coordinate-index) × (l.self.args.items ≡ map (λ r. slice_index l.initial.self.registers.items r) (flat_map registers_of_coordinate (take l.coordinate-index l.coordinate-items))) × (state_of l.self ≡ record (state_of l.initial.self) { args = l.self.args.items })

abbrev pub invariant-targets : goal.invariant-targets
invariant-targets l = (length l.self.args.items ≤ l.checked-index) × (l.self.args.items ≡ map (λ r. slice_index l.initial.self.registers.items r) (flat_map (λ c. registers_of_coordinate (coordinate_of c)) (take l.checked-index l.checked-items))) × (state_of l.self ≡ record (state_of l.initial.self) { args = l.self.args.items })

abbrev pub invariant-steps : goal.invariant-steps
invariant-steps l = (length l.self.args.items ≤ l.step-index) × (l.self.args.items ≡ map (λ r. slice_index l.initial.self.registers.items r) (flat_map registers_of_step (take l.step-index l.step-items))) × (state_of l.self ≡ record (state_of l.initial.self) { args = l.self.args.items })
