use Rattle.std.proofs.Common.{sym, ap, ◌∙◌}
use Rattle.rx_ast.specs.Syntax.{slots}
use Rattle.rx_ast.proofs.Lists.{slots-slots_of}
use Rattle.rx_ast.proofs.body.Fragment.children.Goals as goal

pub returns : goal.returns
returns c = c.deref.ensures.value ∙ (sym (slots-slots_of _) ∙ ap slots c.self.view_is)
