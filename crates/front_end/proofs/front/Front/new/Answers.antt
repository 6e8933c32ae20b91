use Rattle.std.proofs.Common.{◌≡◌, ℕ, [], replicate, ◌∙◌}
use Rattle.paris_code.specs.declared.program.Image.{Image}
use Rattle.front_end.specs.Front.{State, state_of}
use Rattle.front_end.specs.Kept.{IsRunStart}
use Rattle.front_end.proofs.front.Front.new.Goals as goal

starts : (image : Image) (turns : ℕ) (s : State) → s.at ≡ 0 → s.registers ≡ replicate image.slots 0 → s.returns ≡ [] → s.turns ≡ turns → IsRunStart image turns s
starts image turns s first registers returns turns_left memory input = cc

pub returns-in-Ok : goal.returns-in-Ok
returns-in-Ok c =
    let goes_on = c.in-Ok.ensures.front in
    let opens = c.in_ok-kept.ensures.opens in
    record {
      fits = goes_on.fits;
      start = starts c.args.sound.now c.args.turns (state_of c.in-Ok.front) (goes_on.at ∙ opens.0) (goes_on.registers ∙ opens.1) (goes_on.returns ∙ opens.2) goes_on.turns_left;
      wanted = goes_on.wanted;
    }
