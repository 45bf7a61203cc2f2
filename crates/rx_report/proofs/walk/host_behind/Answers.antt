use Rattle.std.proofs.Common.{◌≡◌, ℕ, [], ◌∷◌, List, Option, reverse, sym, ◌∙◌, ap, subst, arith, append-nil}
use Rattle.rx_forest.specs.Forests.{HostForest}
use Rattle.rx_host.specs.Kept.{forest_kept}
use Rattle.rx_report.specs.Walks.{Behind, ToGo}
use Rattle.rx_report.proofs.Going.{goes_on, is_over, goes_up, none_comes, nearest_first, none_above}
use Rattle.rx_report.proofs.walk.host_behind.Goals as goal

pub returns-then-is_some : goal.returns-then-is_some
returns-then-is_some c = λ level left lines h.
    let now = c.up.invariant level left lines h in
    goes_on (forest_kept c.args.hosts.now) (reverse c.up.above.items) now.0 c.up.last c.next_sibling-next.result left lines (sym c.is_some.ensures ∙ c.if-is_some.true) c.next_sibling-next.ensures now.1

pub returns-in_err-last : goal.returns-in_err-last
returns-in_err-last c = λ level left lines h.
    let f : HostForest = forest_kept c.args.hosts.now in
    let now = c.up.invariant level left lines h in
    let none = none_comes f c.up.last c.next_sibling-next.result (sym c.is_some.ensures ∙ c.if-is_some.false) c.next_sibling-next.ensures in
    let same : c.up.above.items ≡ c.pop.new.self.items = c.in_err-last.ensures.items ∙ append-nil c.pop.new.self.items in
    let before : reverse c.up.above.items ≡ [] = none_above c.up.above.items (omega (arith, c.up.above.ok.0, c.in_err-last.ensures.cases.0)) in
    let after : reverse c.pop.new.self.items ≡ [] = ap (λ (ns : List ℕ). reverse ns) (sym same) ∙ before in
    subst (λ (ns : List ℕ). ToGo f ns c.from_residual.result left lines) (sym after)
    (subst (λ (o : Option ℕ). ToGo f [] o left lines) (sym c.from_residual.ensures)
    (is_over f now.0 c.up.last left lines none (subst (λ (ns : List ℕ). Behind f ns now.0 c.up.last left lines) before now.1)))

pub up-preserved : goal.up-preserved
up-preserved c = λ level left lines h.
    let f : HostForest = forest_kept c.args.hosts.now in
    let now = c.up.invariant level left lines h in
    let none = none_comes f c.up.last c.next_sibling-next.result (sym c.is_some.ensures ∙ c.if-is_some.false) c.next_sibling-next.ensures in
    let before : reverse c.up.above.items ≡ c.in_ok-last.last ∷ reverse c.pop.new.self.items =
    ap (λ (ns : List ℕ). reverse ns) c.in_ok-last.ensures.items ∙ nearest_first c.pop.new.self.items c.in_ok-last.last in
    goes_up f (reverse c.pop.new.self.items) c.in_ok-last.last now.0 c.up.last left lines none (subst (λ (ns : List ℕ). Behind f ns now.0 c.up.last left lines) before now.1)
