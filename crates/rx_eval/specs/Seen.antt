-- What a body is evaluated from, as the definitions have them.
use Rattle.std.specs.Option.{option_copied}
use Rattle.rx_meaning.specs.Body as body
use Rattle.rx_eval.specs.declared.inputs.Inputs.{Inputs}

-- the inputs of a body
abbrev pub inputs_of : Inputs → body.Inputs
inputs_of i =
    record {
      props = i.props.now;
      children = i.children.now;
      hooks = option_copied i.hooks;
      contexts = i.contexts.now;
      versions = i.versions.now;
      resources = i.resources.now;
    }
