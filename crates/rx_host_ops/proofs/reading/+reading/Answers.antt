use Rattle.std.proofs.Common.{arith, ap, sym, ◌∙◌, ◌+◌, ◌++◌, drop}
use Rattle.std.proofs.lemmas.Result.{on_ok_weaker}
use Rattle.std.specs.List.{filter_map}
use Rattle.rx_elem.specs.Trees.{mark_of}
use Rattle.rx_elem.specs.Spots.{spots_in, around_children}
use Rattle.rx_forest.specs.Hosts.{host_at}
use Rattle.rx_host_ops.proofs.Lists.{height-get}
use Rattle.rx_host_ops.proofs.Parts.{hosts_below, hosts-parts, hosts-more, hosts-vacant}
use Rattle.rx_host_ops.proofs.reading.+reading.Goals as goal
use Rattle.rx_host_ops.proofs.reading.+reading.Goals.{add_in-in-Some+in_ok-add_from, add_in-in_default}

pub add_from-returns : goal.add_from-returns
add_from-returns t c =
    let own = c.add_host.new.found.items in
    let inside = c.add_in.new.found.items in
    let node = c.args.node.now in
    on_ok_weaker c.add_in-2.result
    (λ all a host concealed. hosts-parts a node c.args.found.now.items own inside c.add_in-2.new.found.items
    (c.in_ok-add_host.ensures.added a node host concealed c.element.ensures c.mark-mark.ensures)
    (c.in_ok-add_in.ensures (around_children a (mark_of node))
    (sym (ap (λ m. (around_children a m).host) c.mark-mark.ensures) ∙ c.parent_below.ensures a host)
    (sym (ap (λ m. (around_children a m).concealed) c.mark-mark.ensures) ∙ c.concealed_below.ensures a concealed)
    ∙ ap (λ f. own ++ filter_map host_at (spots_in (around_children a (mark_of node)) f)) c.children.ensures.all)
    (all a host concealed ∙ ap (λ f. inside ++ filter_map host_at (spots_in a f)) c.fallback.ensures.all))
    c.add_in-2.ensures

pub add_in-add_from-requires : goal.add_in-add_from-requires
add_in-add_from-requires t c =
    (omega (arith, height-get c.args.places.now c.loop-place.place-index c.place-item.result c.in-Some.node c.loop-place-test.true c.place-item.is c.in-Some.is), tt)

pub add_in-loop-place-preserved : goal.add_in-loop-place-preserved
add_in-loop-place-preserved t c a host concealed =
    elim c.match-place.branch [
      | add_in-in-Some+in_ok-add_from w ↦
          hosts-more a c.args.places.now c.loop-place.place-index c.place-item.result w.in-Some.node c.loop-place.found.items c.match-place.found.items
          c.loop-place-test.true c.place-item.is w.in-Some.is (ap (λ v. v.items) w.found-is ∙ w.in_ok-add_from.ensures a host concealed) ∙ c.loop-place.invariant a host concealed
      | add_in-in_default w ↦
          ap (λ v. v.items ++ hosts_below a (drop (c.loop-place.place-index + 1) c.args.places.now)) w.found-is
          ∙ (ap (λ hs. c.loop-place.found.items ++ hs) (hosts-vacant a c.args.places.now c.loop-place.place-index c.place-item.result c.loop-place-test.true c.place-item.is w.in_default.is)
          ∙ c.loop-place.invariant a host concealed)
    ]
