use Rattle.std.proofs.Common.{◌≡◌, ◌∙◌, ap, ap₂, codes, false, true, sym}
use Rattle.clap.proofs.WalkLemmas.{first_value-rows, one_text-rows}
use Rattle.clap.specs.Words.{App, first_of, one_of, found_of, is_simple, matches_of, takes}
use Rattle.clap.specs.declared.error.kind.ErrorKind.TheVariants as kind
use Rattle.rx_words.specs.Words.{texts}
use Rattle.rx_words.specs.CommandLine.{task_found}
use Rattle.rx_words.proofs.Taken.{asked-rounds, line_is_simple, valid-found}
use Rattle.rx_words.proofs.Spelled.{refused-none, spelled-is}
use Rattle.rx_words.proofs.reading.read_words.Goals as goal

pub returns-in-Ok-clause-task : goal.returns-in-Ok-clause-task
returns-in-Ok-clause-task c =
    let app = c.in_ok-command_line.ensures in
    let rows = (c.in-Ok.ensures.matches (ap is_simple app ∙ line_is_simple)).0 ∙ ap (λ (a : App). matches_of a (texts c.args.words.now)) app in
    let command = c.get_str.ensures ∙ first_value-rows (found_of c.in-Ok.matches) (codes "command") ∙ ap (first_of (codes "command")) rows in
    let rounds = c.get_str-in-Ok.ensures ∙ first_value-rows (found_of c.in-Ok.matches) (codes "rounds") ∙ ap (first_of (codes "rounds")) rows in
    let counts = one_text-rows (found_of c.in-Ok.matches) (codes "counts") ∙ ap (one_of (codes "counts")) rows in
    let ops = one_text-rows (found_of c.in-Ok.matches) (codes "ops") ∙ ap (one_of (codes "ops")) rows in
    c.if_spelled.ensures
    ∙ spelled-is (texts c.args.words.now) c.task_found-found.result (λ task is.
    c.task_found-found.ensures ∙ ap₂ (λ a b. task_found a b c.get_flag.result c.get_flag-in-Ok.result) command rounds
    ∙ (valid-found (texts c.args.words.now) task is).found c.get_flag.result c.get_flag-in-Ok.result
    ((λ e. c.get_flag.ensures.value (counts ∙ e)), (λ e. c.get_flag.ensures.other (counts ∙ e)))
    ((λ e. c.get_flag-in-Ok.ensures.value (ops ∙ e)), (λ e. c.get_flag-in-Ok.ensures.other (ops ∙ e))))

pub returns-in-Ok-clause-rounds : goal.returns-in-Ok-clause-rounds
returns-in-Ok-clause-rounds c = asked-rounds (texts c.args.words.now) c.if_spelled.result (returns-in-Ok-clause-task c)

pub returns-in-Err-2-clause-task : goal.returns-in-Err-2-clause-task
returns-in-Err-2-clause-task c =
    let app = c.in_ok-command_line.ensures in
    refused-none (texts c.args.words.now) (λ task asked.
    let taken = (valid-found (texts c.args.words.now) task asked).taken in
    let is : c.kind.result ≡ kind.OutOfMemory = c.kind.ensures ∙ c.in-Err.ensures.passes (ap (λ (a : App). takes a (texts c.args.words.now)) app ∙ taken) in
    let other = sym c.eq.ensures ∙ c.if-eq.false in
    let clash : true ≡ false = rw is at other in cc)
