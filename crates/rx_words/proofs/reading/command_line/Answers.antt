use Rattle.std.proofs.Common.{rules, ◌≡◌, ◌∙◌, ap, ap₂, codes, true}
use Rattle.std.proofs.lemmas.Result.{IfOk-weaker}
use Rattle.clap.specs.Words.{App, app_of, new_rule, with_rule}
use Rattle.clap.specs.Simple.{app_of_fields, on_top}
use Rattle.clap.specs.declared.builder.command.Command.{Command}
use Rattle.clap.specs.declared.builder.command.Command.TheOpen.{Command-F}
use Rattle.rx_words.specs.CommandLine.{program}
use Rattle.rx_words.proofs.reading.command_line.Goals as goal

-- the settings of the command line
abbrev set : App → App
set = on_top (λ s. record s { no_binary_name = true; disable_help_flag = true })

pub returns : goal.returns
returns c =
    let fields = c.disable_help_flag.ensures ∙ ap (λ (f : Command-F Command). record f { disable_help_flag = true }) c.no_binary_name.ensures in
    let base : app_of c.disable_help_flag.result ≡ program = ap app_of_fields fields ∙ ap set c.new.ensures.app in
    let first : app_of c.in_ok-arg.field-0 ≡ with_rule program (new_rule (codes "command")) = c.in_ok-arg.ensures.shape (search rules) ∙ ap₂ with_rule base (search rules) in
    let second : app_of c.in_ok-arg-2.field-0 ≡ with_rule (with_rule program (new_rule (codes "command"))) (new_rule (codes "rounds")) = c.in_ok-arg-2.ensures.shape (search rules) ∙ ap₂ with_rule first (search rules) in
    let third = c.in_ok-arg-3.ensures.shape c.flag.ensures.local ∙ ap₂ with_rule second c.flag.ensures.rule in
    IfOk-weaker c.arg-4.result _ _ (λ r adds. adds.shape c.flag-2.ensures.local ∙ ap₂ with_rule third c.flag-2.ensures.rule) c.arg-4.ensures
