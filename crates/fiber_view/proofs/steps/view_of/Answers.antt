use Rattle.std.proofs.Common.{◌∙◌, refl, ap}
use Rattle.rx_lines.specs.Lines.{Options, report_bytes}
use Rattle.rx_model.specs.State.{state_lines}
use Rattle.fiber_view.proofs.steps.view_of.Goals as goal

pub returns-clause-ok : goal.returns-clause-ok
returns-clause-ok c = λ s stands.
    record {
      title_is = refl;
      lines_are = refl;
      yields_is = refl;
      tree_is = c.in_ok-tree.ensures.ok s stands;
      hooks_are = c.in_ok-hooks.ensures.ok s stands ∙ ap (λ (o : Options). report_bytes o (state_lines c.args.root.now.rendering.program s)) c.in_ok-tree.ensures.options;
      facts = c.facts_of.ensures s stands;
    }

pub returns-clause-options : goal.returns-clause-options
returns-clause-options c = c.in_ok-hooks.ensures.options ∙ c.in_ok-tree.ensures.options
