use Rattle.std.proofs.Common.{◌≡◌, ℕ, ◌<◌, ◌^◌, ◌++◌, drop, length, map}
use Rattle.lower_base.specs.Drafts.{draft}
use Rattle.lower_base.specs.Constants.{first_free}
use Rattle.lower_base.specs.Layouts.{layout, layout_of}
use Rattle.lower_stmt.specs.Programs.{instructions_in, slots_behind, units_of}
use Rattle.lower_stmt.proofs.program.lower_with.Given as goal

-- the numbering is one of the program's; the units so far, and those of the instances that are left,
-- are the whole, each instance having one; the registers go on behind them; and their instructions
-- are counted
abbrev pub invariant-loop-number : goal.invariant-loop-number
invariant-loop-number l = record {
  known : (k : ℕ) × (layout l.view.names ≡ layout_of l.t l.fn.words.items k);
  program : l.view.typed.now ≡ l.t;
  bases : length l.view.names.bases.items ≡ length l.t.instances.items;
  units :
      map draft l.units.items ++ units_of l.t l.fn.words.items (drop l.number l.t.instances.items) l.number l.slots
      ≡ units_of l.t l.fn.words.items l.t.instances.items 0 (first_free (layout_of l.t l.fn.words.items 0));
  each : length l.units.items ≡ l.number;
  slots : l.slots ≡ slots_behind (first_free (layout_of l.t l.fn.words.items 0)) (map draft l.units.items);
  instructions : l.instructions ≡ instructions_in (map draft l.units.items);
  numbered : l.instructions < 2 ^ 32;
}
