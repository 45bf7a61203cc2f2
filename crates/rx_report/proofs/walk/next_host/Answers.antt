use Rattle.std.proofs.Common.{◌≡◌, ℕ, ◌∷◌, List, Some, reverse, sym, ◌∙◌, ap, subst}
use Rattle.rx_forest.specs.Forests.{HostForest}
use Rattle.rx_host.specs.Kept.{forest_kept}
use Rattle.rx_report.specs.Walks.{ToGo}
use Rattle.rx_report.proofs.Going.{goes_down, nearest_first}
use Rattle.rx_report.proofs.walk.next_host.Goals as goal

pub returns : goal.returns
returns c = λ h left l lines to_go.
    let f : HostForest = forest_kept c.args.hosts.now in
    let above : reverse c.push.new.self.items ≡ c.args.host ∷ reverse c.args.above.now.items =
    ap (λ (ns : List ℕ). reverse ns) c.in_ok-push.ensures.items ∙ nearest_first c.args.above.now.items c.args.host in
    subst (λ (ns : List ℕ). ToGo f ns (Some c.in-Some.child) left lines) (sym above)
    (goes_down f (reverse c.args.above.now.items) c.args.host c.in-Some.child h left l lines (sym c.in-Some.is ∙ c.first_child.ensures) to_go)
