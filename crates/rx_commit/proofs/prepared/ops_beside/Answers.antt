use Rattle.std.proofs.Common.{◌≡◌, [], List, length, sym, ap, ◌∙◌, eqb-true}
use Rattle.std.proofs.lemmas.Result.{IfOk-weaker}
use Rattle.std.specs.Option.{option_copied}
use Rattle.rx_forest.specs.Hosts.{Host, hosts}
use Rattle.rx_forest.specs.HostOps.{ops_between}
use Rattle.rx_host_ops.specs.Among.{ops_among}
use Rattle.rx_commit.proofs.Beside.{none-left, ops-of-all, ops-of-left}
use Rattle.rx_commit.proofs.prepared.ops_beside.Goals as goal

pub returns-then-is_empty : goal.returns-then-is_empty
returns-then-is_empty c =
    let placed = c.args.placed.now in
    let count : length placed ≡ 0 = eqb-true (length placed) 0 (sym c.is_empty.ensures ∙ c.if-is_empty.true) in
    let empty : placed ≡ [] = none-left placed count in
    let before = option_copied c.as_ref-before.result in
    IfOk-weaker c.changes_from.result _ _
    (λ ops is old new beside present of tells.
    ops-of-left old new c.args.beside.now placed ops.items before beside c.requires.placed empty c.as_ref-before.ensures.value
    (λ distinct. is distinct ∙ ap (λ (hs : List Host). ops_between (hosts before) hs []) c.requires.after) present of)
    c.changes_from.ensures

pub returns-else-is_empty : goal.returns-else-is_empty
returns-else-is_empty c =
    let placed = c.args.placed.now in
    let told = c.args.told.now in
    let before = option_copied c.as_ref-before.result in
    IfOk-weaker c.ops_from.result _ _
    (λ ops is old new beside present of tells.
    ops-of-all old new c.args.beside.now placed told ops.items before beside c.requires.placed c.as_ref-before.ensures.value tells
    (is ∙ ap (λ (hs : List Host). ops_among (hosts before) hs told placed) c.requires.after) present of)
    c.ops_from.ensures
