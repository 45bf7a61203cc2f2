use Rattle.std.proofs.Common.{rules, ◌≡◌, ◌<◌, true, false, length, Some, Option, option_map}
use Rattle.rx_script.specs.declared.form.Form.{Form}
use Rattle.rx_script.specs.Lines.{form_of, has_targets}
use Rattle.rx_script.specs.Readings.{reading, form_in_bounds}
use Rattle.rx_script.proofs.Formed.{form-target, some-length, texts, words-no_target, words-out, words-step}
use Rattle.rx_script.proofs.line.read_words.Goals as goal

pub has_targets_at-requires : goal.has_targets_at-requires
has_targets_at-requires c =
    let form : ◌≡◌ {A = Option Form} (Some c.in-Some.form) (option_map (reading c.args.paths.now) (form_of (texts c.args.words.now))) = search rules in
    let here : c.checked.result.now ≡ c.args.paths.now = search rules in
    rw here (form-target c.args.paths.now (form_of (texts c.args.words.now)) c.in-Some.form form)

pub returns-then-not-has_targets_at-clause-read : goal.returns-then-not-has_targets_at-clause-read
returns-then-not-has_targets_at-clause-read c =
    let count : 0 < length c.args.words.now = some-length c.args.words.now c.if-is_empty.ensures in
    let form : ◌≡◌ {A = Option Form} (Some c.in-Some.form) (option_map (reading c.args.paths.now) (form_of (texts c.args.words.now))) = search rules in
    let targets : has_targets c.args.paths.now c.in-Some.form.step ≡ false = search rules in
    words-no_target c.args.paths.now c.args.words.now c.in-Some.form count form targets

pub returns-then-not-is_in_bounds-clause-read : goal.returns-then-not-is_in_bounds-clause-read
returns-then-not-is_in_bounds-clause-read c =
    let count : 0 < length c.args.words.now = some-length c.args.words.now c.if-is_empty.ensures in
    let form : ◌≡◌ {A = Option Form} (Some c.in-Some.form) (option_map (reading c.args.paths.now) (form_of (texts c.args.words.now))) = search rules in
    let targets : has_targets c.args.paths.now c.in-Some.form.step ≡ true = search rules in
    let bounds : form_in_bounds c.args.paths.now c.in-Some.form ≡ false = search rules in
    words-out c.args.paths.now c.args.words.now c.in-Some.form count form targets bounds

pub returns-clause-read : goal.returns-clause-read
returns-clause-read c =
    let count : 0 < length c.args.words.now = some-length c.args.words.now c.if-is_empty.ensures in
    let form : ◌≡◌ {A = Option Form} (Some c.in-Some.form) (option_map (reading c.args.paths.now) (form_of (texts c.args.words.now))) = search rules in
    let targets : has_targets c.args.paths.now c.in-Some.form.step ≡ true = search rules in
    let bounds : form_in_bounds c.args.paths.now c.in-Some.form ≡ true = search rules in
    words-step c.args.paths.now c.args.words.now c.in-Some.form count form targets bounds
