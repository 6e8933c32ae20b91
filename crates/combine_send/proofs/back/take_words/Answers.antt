use Rattle.std.proofs.Common.{◌%◌, ◌^◌, ap}
use Rattle.std.specs.Prelude.{slice_index}
use Rattle.combine_send.proofs.back.take_words.Goals as goal

pub returns : goal.returns
returns c = record {
  mask = c.taking_lanes-lanes.result;
  numbers = λ i. slice_index c.converted_words-numbers.result i % 2 ^ c.args.send.now.dest.len;
  lanes = c.taking_lanes-lanes.ensures;
  written = c.put_words.ensures;
  gives = λ i b within. ap (λ n. n % 2 ^ c.args.send.now.dest.len) (c.converted_words-numbers.ensures i b within);
}
