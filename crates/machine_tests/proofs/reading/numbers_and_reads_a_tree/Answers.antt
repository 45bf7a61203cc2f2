use Rattle.std.proofs.Common.{Some, None, refl, sym, ap, ◌∙◌, subst}
use Rattle.rx_elem.specs.Numbers.{Numbers, numbered}
use Rattle.rx_elem.specs.Trees.{node, of_host}
use Rattle.rx_elem.specs.Trees as trees
use Rattle.rx_links.specs.Drafts.{grafted}
use Rattle.rx_fiber.specs.Reading.{no_more, gap, next, whole, IsTreeOf}
use Rattle.machine_tests.proofs.reading.numbers_and_reads_a_tree.Goals as goal

-- the root alone stands for a tree of one node
pub read_in_progress-requires : goal.read_in_progress-requires
read_in_progress-requires g c =
    let x = node c.in_ok-element.element (of_host None) trees.none trees.none in
    let is = c.new-3.ensures in
    let start = c.in_ok-start.ensures.ok in
    let tree =
    subst (IsTreeOf (Some x)) (sym (ap (λ t. grafted t.draft) start))
    (next (whole (record { at = ap (λ v. v.place) is; element = ap (λ v. v.element) is; stage = ap (λ v. v.stage) is }) refl no_more) no_more) in
    let from : Numbers = record { instance = 3; host = 5 } in
    ((numbered from x).1, c.number_made-next.ensures.tree x tree (None, subst (IsTreeOf None) (sym (ap (λ t. t.current) start ∙ ap (λ t. t.current) c.new-tree.ensures)) (gap no_more), tt))
