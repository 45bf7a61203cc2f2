use Rattle.std.proofs.Common.{◌≡◌, ◌<◌, ◌≤◌, ◌++◌, ◌∷◌, [], Option, length, map, take, ℕ, sym, ap, ◌∙◌, arith}
use Rattle.std.proofs.lemmas.List.{length-map, take_all, take_more}
use Rattle.rx_elem.specs.Trees.{Node}
use Rattle.rx_links.specs.Drafts.{or_else}
use Rattle.rx_read.specs.Lists.{list_of}
use Rattle.rx_read.specs.Places.{first_node}
use Rattle.rx_beside.specs.Slots.{with_gone}
use Rattle.rx_beside.proofs.Gone.{got_map, gone_at, gone_length}
use Rattle.rx_beside.proofs.lists.with_gone.Goals as goal

pub going-preserved : goal.going-preserved
going-preserved c =
    let f : Option ℕ → Option Node = λ o. first_node (list_of c.args.tree.now o) in
    let i = c.going.i in
    let ns = c.args.nodes.now in
    let os = map f c.args.olds.now in
    let xs = with_gone ns os in
    let x = or_else c.index-nodes-i.result (f c.index-olds-i.result) in
    let even : length ns ≡ length os = c.requires.even ∙ sym (length-map c.args.olds.now f) in
    let within : i < length ns = omega (arith, c.requires.even, c.going-test.true) in
    let all : i < length xs = omega (arith, gone_length ns os even, even, within) in
    c.in_ok-push.ensures.items
    ∙ ap (λ z. c.going.whole.items ++ z ∷ []) c.in_ok-or_gone.ensures
    ∙ ap (λ l. l ++ x ∷ []) c.going.invariant
    ∙ ap (λ z. take i xs ++ z ∷ []) (gone_at ns os i c.index-nodes-i.result (f c.index-olds-i.result) even within c.index-nodes-i.is (got_map f c.args.olds.now i c.index-olds-i.result c.going-test.true c.index-olds-i.is))
    ∙ sym (take_more xs i x all)

pub returns : goal.returns
returns c =
    let f : Option ℕ → Option Node = λ o. first_node (list_of c.args.tree.now o) in
    let ns = c.args.nodes.now in
    let os = map f c.args.olds.now in
    let even : length ns ≡ length os = c.requires.even ∙ sym (length-map c.args.olds.now f) in
    let n = length-map c.args.olds.now f in
    let l : length (with_gone ns os) ≤ c.going.i = omega (arith, gone_length ns os even, n, c.going-test.false) in
    c.going.invariant ∙ take_all c.going.i (with_gone ns os) l
