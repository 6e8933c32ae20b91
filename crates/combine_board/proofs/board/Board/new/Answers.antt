use Rattle.std.proofs.Common.{◌<◌, ◌^◌, [], ◌∷◌, ℕ, map, slice_index, sym, ap, ◌∙◌, subst, None}
use Rattle.atomic_table.specs.Table.{opening}
use Rattle.combine_core.specs.Encodings.{encoded_home}
use Rattle.combine_core.specs.Kept.{IsSetting}
use Rattle.combine_board.specs.Values.{Plan}
use Rattle.combine_board.specs.Rule.{Holds, IsPass, first_view}
use Rattle.combine_board.proofs.Calls.{task_plan}
use Rattle.combine_board.proofs.Passes.{first_pass}
use Rattle.combine_board.proofs.Steps.{first_holds, first_told}
use Rattle.combine_board.proofs.board.Board.new.Goals as goal

pub of_words-requires : goal.of_words-requires
of_words-requires g c =
    let a : Plan = task_plan (g.C.Combine.combines c.args.combiner) c.args.slots.items c.args.home.items in
    let setting : IsSetting a.slots a.home = record {
      rises = c.requires.senders;
      targets = c.requires.targets;
      words = subst (λ xs. (t : ℕ) → slice_index xs t < 2 ^ 32) c.as_slice.ensures.value c.in_ok-words.ensures.fits;
      few_slots = c.requires.few_slots;
      few_cells = c.requires.few_cells;
    } in
    let words = c.as_slice-2.ensures.value ∙ c.in_ok-words.ensures.words ∙ ap (λ xs. 0 ∷ map (encoded_home a.kind) xs) c.as_slice.ensures.value in
    subst (λ ws. Holds a (opening ws [] (first_view a))) (sym words) (first_holds a setting)

pub invariant_of-pass : goal.invariant_of-pass
invariant_of-pass g c =
    let a : Plan = task_plan (g.C.Combine.combines c.args.combiner) c.args.slots.items c.args.home.items in
    let setting : IsSetting a.slots a.home = record {
      rises = c.requires.senders;
      targets = c.requires.targets;
      words = subst (λ xs. (t : ℕ) → slice_index xs t < 2 ^ 32) c.as_slice.ensures.value c.in_ok-words.ensures.fits;
      few_slots = c.requires.few_slots;
      few_cells = c.requires.few_cells;
    } in
    let me = c.in_ok-table.ensures.4 in
    (ap (λ m. m.1) me, subst (λ m. IsPass m.0 None None None 0) (sym me) (first_pass a (first_told a setting)))
