-- An input, by its parts.
use Rattle.std.proofs.Common.{◌≡◌, ◌∙◌, List, ℕ, ap}
use Rattle.rx_base.specs.Values.{Text}
use Rattle.rx_script.specs.Input.{input_of}

-- the parts of an input make it up
pub parts-are : (input : List ℕ) (program : Text) (script : List ℕ) → program ≡ (input_of input).program → script ≡ (input_of input).script
    → record { program = program; script = script } ≡ input_of input
parts-are input program script one two =
    ap (λ (l : Text). record { program = l; script = script }) one ∙ ap (λ (l : List ℕ). record { program = (input_of input).program; script = l }) two
