use Rattle.std.proofs.Common.{rules, ap, ap₂, true, codes, ◌≡◌, ◌∙◌}
use Rattle.std.proofs.lemmas.Result.{IfOk-weaker}
use Rattle.clap.specs.Words.{App, Rule, app_of, new_rule, rule_of, with_rule}
use Rattle.clap.specs.Simple.{app_of_fields, on_top}
use Rattle.clap.specs.declared.builder.command.Command.{Command}
use Rattle.clap.specs.declared.builder.command.Command.TheOpen.{Command-F}
use Rattle.cstar_words.specs.Line.{bare_line, command_line, flag_rule, valued_rule}
use Rattle.cstar_words.proofs.line.command.Goals as goal

pub returns : goal.returns
unfolding command_line
returns c =
    let bare : app_of c.disable_help_flag.result ≡ bare_line =
    ap app_of_fields c.disable_help_flag.ensures
    ∙ ap (λ (f : Command-F Command). app_of_fields (record f { disable_help_flag = true })) c.no_binary_name.ensures
    ∙ ap (on_top (λ top. record top { no_binary_name = true; disable_help_flag = true })) c.new.ensures.app in
    let with_file = c.in_ok-arg.ensures.shape c.new-2.ensures.optional.1 ∙ ap₂ with_rule bare c.new-2.ensures.rule in
    let with_mode = c.in_ok-arg-2.ensures.shape c.valued.ensures.local ∙ ap₂ with_rule with_file c.valued.ensures.rule in
    let with_workers = c.in_ok-arg-3.ensures.shape c.valued-2.ensures.local ∙ ap₂ with_rule with_mode c.valued-2.ensures.rule in
    let with_turns = c.in_ok-arg-4.ensures.shape c.valued-3.ensures.local ∙ ap₂ with_rule with_workers c.valued-3.ensures.rule in
    let with_finals = c.in_ok-arg-5.ensures.shape c.flag.ensures.local ∙ ap₂ with_rule with_turns c.flag.ensures.rule in
    let with_listing = c.in_ok-arg-6.ensures.shape c.flag-2.ensures.local ∙ ap₂ with_rule with_finals c.flag-2.ensures.rule in
    let with_seed = c.in_ok-arg-7.ensures.shape c.valued-4.ensures.local ∙ ap₂ with_rule with_listing c.valued-4.ensures.rule in
    let with_winner = c.in_ok-arg-8.ensures.shape c.valued-5.ensures.local ∙ ap₂ with_rule with_seed c.valued-5.ensures.rule in
    IfOk-weaker c.arg-9.result _ _ (λ command added. added.shape c.valued-6.ensures.local ∙ ap₂ with_rule with_winner c.valued-6.ensures.rule) c.arg-9.ensures
