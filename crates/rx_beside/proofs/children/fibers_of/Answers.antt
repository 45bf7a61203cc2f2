use Rattle.std.proofs.Common.{◌≤◌, ◌++◌, Option, ℕ, length, map, Some, sym, ap, ◌∙◌, subst, arith}
use Rattle.std.proofs.lemmas.List.{length-map}
use Rattle.rx_elem.specs.Trees.{Node}
use Rattle.rx_lists.specs.Shapes.{size}
use Rattle.rx_lists.proofs.Frames.{some-at}
use Rattle.rx_links.specs.Drafts.{Makes}
use Rattle.rx_read.specs.Lists.{list_of}
use Rattle.rx_read.specs.Places.{places_in, first_places, first_node}
use Rattle.rx_beside.proofs.Here.{list_goes}
use Rattle.rx_beside.proofs.children.fibers_of.Goals as goal

pub going-preserved : goal.going-preserved
going-preserved c =
    let t = c.args.tree.now in
    let f : Option ℕ → Option Node = λ o. first_node (list_of t o) in
    let i = c.in-Some.id in
    let xs = c.going.fibers.items in
    let n = length (map f xs) in
    let r = c.next_node-next in
    record {
      inside = r.ensures.inside;
      places =
          list_goes (map f xs) _ _ (first_places n (list_of t (Some i))) (places_in n (list_of t c.going.next)) (λ k. places_in k (list_of t r.result)) c.going.invariant.places
          (ap (λ o. places_in n (list_of t o)) c.in-Some.is ∙ r.ensures.places n)
          (c.in_ok-add_fiber.ensures.places ∙ ap (λ k. map f xs ++ first_places k (list_of t (Some i))) (sym (length-map xs f)));
      nodes = c.in_ok-add_fiber.ensures.nodes c.going.invariant.nodes;
      made = λ m.
          let (made, within, all) = c.going.invariant.made m in
          let this = some-at c.going.next (Makes t.draft) i made c.in-Some.is in
          let here : size (list_of t (Some i)) ≤ size (list_of t c.args.first) = subst (λ o. size (list_of t o) ≤ size (list_of t c.args.first)) c.in-Some.is within in
          let lower = r.ensures.lower in
          (r.ensures.made this, omega (arith, here, lower), c.in_ok-add_fiber.ensures.made c.args.first (record { made = this; within = here }) all);
    }
