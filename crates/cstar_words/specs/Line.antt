-- The command line as a command of clap.
use Rattle.std.specs.Prelude.{ℕ, true, List, Some, codes}
use Rattle.clap.specs.Words.{App, Rule, new_app, new_rule, with_rule}
use Rattle.clap.specs.Simple.{on_top}
use Rattle.clap.specs.declared.builder.action.ArgAction.TheVariants.{SetTrue}

-- `--name VALUE` or `--name=VALUE`
abbrev pub valued_rule : List ℕ → Rule
valued_rule name = record (new_rule name) { long = Some name }

-- `--name`
abbrev pub flag_rule : List ℕ → Rule
flag_rule name = record (new_rule name) { long = Some name; action = Some SetTrue }

-- a command that has no options yet: its first word is no program's name, and it knows no `--help`
abbrev pub bare_line : App
bare_line = on_top (λ top. record top { no_binary_name = true; disable_help_flag = true }) (new_app (codes "cstar"))

-- FILE and the options
unfoldable pub command_line : App
command_line =
    with_rule (with_rule (with_rule (with_rule (with_rule (with_rule (with_rule (with_rule (with_rule bare_line
    (new_rule (codes "FILE")))
    (valued_rule (codes "mode")))
    (valued_rule (codes "workers")))
    (valued_rule (codes "turns")))
    (flag_rule (codes "finals")))
    (flag_rule (codes "listing")))
    (valued_rule (codes "seed")))
    (valued_rule (codes "winner")))
    (valued_rule (codes "save"))
