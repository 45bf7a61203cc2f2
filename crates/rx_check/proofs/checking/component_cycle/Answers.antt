use Rattle.std.proofs.Common.{◌≡◌, List, Some, None, subst}
use Rattle.std.specs.Prelude.{IfOk, MatchOption}
use Rattle.rx_base.specs.Values.{Name}
use Rattle.rx_rules.specs.Names.{component_names}
use Rattle.rx_order.specs.Graphs.{Graph, first, cycle_names}
use Rattle.rx_check.proofs.checking.component_cycle.Goals as goal

pub first_cycle-requires : goal.first_cycle-requires
first_cycle-requires c = rw c.requires.graph c.requires.order

pub returns : goal.returns
returns c =
    let P : List Name → Type 0 = λ ns.
    IfOk c.first_cycle.result (λ o. MatchOption o (first (cycle_names c.args.graph.now ns) ≡ None) (λ x. first (cycle_names c.args.graph.now ns) ≡ Some x.now)) in
    let Q : Graph → Type 0 = λ g.
    IfOk c.first_cycle.result (λ o. MatchOption o (first (cycle_names g (component_names c.args.program.now)) ≡ None) (λ x. first (cycle_names g (component_names c.args.program.now)) ≡ Some x.now)) in
    subst Q c.requires.graph (subst P c.requires.names c.first_cycle.ensures)
