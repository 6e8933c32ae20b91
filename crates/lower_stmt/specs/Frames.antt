-- Where a statement stands in its function.
use Rattle.std.specs.Prelude.{ℕ, Bool, true, false, if◌then◌else◌}
use Rattle.paris_code.specs.declared.instr.Instr.TheVariants as I
use Rattle.lower_base.specs.Drafts.{Draft, with_instr}
use Rattle.lower_stmt.specs.declared.statement.Frame.{Frame}
use Rattle.lower_stmt.specs.declared.statement.Outcome.TheVariants as R
use Rattle.lower_stmt.specs.Lengths.{at_loop, one_more}

-- does the function give back a value
unfoldable pub has_result : Frame → Bool
has_result f = elim f.outcome [ R.Nothing ↦ false | R.Scalar ↦ true | R.Parallel ↦ true ]

-- in the body of a loop, whose `continue` jumps to the one place and whose `break` to the other
unfoldable pub in_loop : ℕ → ℕ → Frame → Frame
in_loop next after f = record f { after = after; next = next; saved = at_loop f.saved }

-- where one more context is saved
unfoldable pub in_context : Frame → Frame
in_context f = record f { saved = one_more f.saved }

-- the end of `main`, or of another function
unfoldable pub with_end : Bool → Draft → Draft
with_end is_main d = with_instr (if is_main then I.FrontHalt else I.FrontReturn) d
