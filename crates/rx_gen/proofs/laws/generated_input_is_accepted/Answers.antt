use Rattle.std.proofs.Common.{◌≡◌, Ok, sym, subst}
use Rattle.rx_script.specs.Input.{Input}
use Rattle.rx_script.specs.Lines.{steps_of}
use Rattle.rx_accept.specs.Programs.{IsSoundText}
use Rattle.rx_gen.specs.Generated.{script_text}
use Rattle.rx_gen.specs.Meant.{generated_program, generated_steps}
use Rattle.rx_gen.proofs.Dividing.{parts}
use Rattle.rx_gen.proofs.WholeScript.{none_sliced, script_steps}
use Rattle.rx_gen.proofs.Tokens.{sound_text}
use Rattle.rx_gen.proofs.laws.generated_input_is_accepted.Goals as goal

pub returns-clause-judged : goal.returns-clause-judged
returns-clause-judged c =
    λ n. subst (λ (i : Input). IsSoundText generated_program i.program × (steps_of generated_program i.script ≡ Ok (generated_steps n))) (sym (parts (script_text n))) (sound_text, script_steps n)

pub returns-clause-unsliced : goal.returns-clause-unsliced
returns-clause-unsliced c = none_sliced
