-- What an example says.
use Rattle.std.specs.Prelude.{ℕ, Bool, false, List}
use Rattle.rx_base.specs.Values.{Text}
use Rattle.rx_ast.specs.Syntax.{Program}
use Rattle.rx_step.specs.declared.step.Step.{Step}
use Rattle.rx_model.specs.Turns.{AnyRender}
use Rattle.rx_model.specs.Machine.{Reports}

-- the machine may write these bytes for a program and a script, with the operations on hosts or without
abbrev pub Writes : Program → List Step → (ops : Bool) → Text → Type 0
Writes p steps ops bytes = (bodies : ℕ) × Reports AnyRender p steps (record { counts = false; ops = ops }) bytes bodies
