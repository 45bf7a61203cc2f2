use Rattle.std.proofs.Common.{rules, ◌∙◌, ℕ, ap, le_trans}
use Rattle.std.specs.Prelude.{Option, is_some}
use Rattle.rx_forest.specs.Forests.{Held}
use Rattle.rx_host.specs.Kept.{forest_kept}
use Rattle.rx_host.proofs.Removing.{lifting-begin, lifting-next, lifting-end, fewer-children, first-none}
use Rattle.rx_host.proofs.tree.HostTree.lift_children.Goals as goal

pub children-init : goal.children-init
children-init c = record { lifting = lifting-begin (forest_kept c.args.self.now) c.args.child c.args.host c.requires.nowhere; count = search rules; spare = search rules }

pub append_to-requires-clause-parent : goal.append_to-requires-clause-parent
append_to-requires-clause-parent c = ap (λ (k : ℕ → Option Held). is_some (k c.args.host)) c.children.invariant.lifting.held ∙ c.requires.held

pub children-smaller : goal.children-smaller
children-smaller c =
    fewer-children (forest_kept c.args.self.now) (forest_kept c.children.self) (forest_kept c.append_to.new.self) c.args.child c.args.host c.in-Some.grandchild c.requires.other
    c.children.invariant.lifting c.in-Some.ensures.first c.in-Some.ensures.alone c.append_to.ensures.stands

pub children-preserved : goal.children-preserved
children-preserved c = record {
  lifting = lifting-next (forest_kept c.args.self.now) (forest_kept c.children.self) (forest_kept c.append_to.new.self) c.args.child c.args.host c.in-Some.grandchild c.requires.other
      c.children.invariant.lifting c.in-Some.ensures.first c.in-Some.ensures.alone c.append_to.ensures.stands;
  count = c.append_to.ensures.count ∙ c.children.invariant.count;
  spare = le_trans c.children.invariant.spare c.append_to.ensures.spare;
}

pub returns-clause-lifts : goal.returns-clause-lifts
returns-clause-lifts c =
    lifting-end (forest_kept c.args.self.now) (forest_kept c.children.self) c.args.child c.args.host c.children.invariant.lifting
    (first-none ((forest_kept c.children.self).children c.args.child) c.in_default.ensures.first)
