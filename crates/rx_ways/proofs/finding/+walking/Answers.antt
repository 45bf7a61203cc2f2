use Rattle.std.proofs.Common.{◌||◌, sym, ap, ◌∙◌, subst, arith, IfSome}
use Rattle.rx_set.specs.Sets.{holds}
use Rattle.rx_lists.specs.Shapes.{Holds}
use Rattle.rx_links.specs.Readers.{list_from}
use Rattle.rx_fiber.proofs.OldReads.{some_held, rest_held}
use Rattle.rx_ways.specs.Walk.{finds_among, hinted, puts_among}
use Rattle.rx_ways.specs.WaySets.{is_put}
use Rattle.rx_ways.proofs.Along.{fewer_behind, found_more, put_more}
use Rattle.rx_ways.proofs.Standing.{or_joined}
use Rattle.rx_ways.proofs.finding.+walking.Goals as goal

pub walk-siblings-preserved : goal.walk-siblings-preserved
walk-siblings-preserved t c =
    let current = c.args.tree.now.current in
    let linked = c.facts.ensures.linked in
    let hint = hinted c.args.before.now c.args.sent.now in
    let stirred = holds c.args.stirred.now in
    let i = c.in-Some.id in
    let o = c.siblings.next in
    let q = c.next_sibling-next.result in
    let held = some_held current o i c.siblings.invariant.inside c.in-Some.is in
    let behind = c.next_sibling-next.ensures.current held in
    let within = c.siblings.invariant.within in
    let less = fewer_behind hint stirred current linked o q i held c.in-Some.is behind in
    record {
      inside = subst (λ x. IfSome x (Holds current)) (sym behind) (rest_held current linked i held);
      finds = or_joined c.siblings.found c.in_ok-found.field-0 (finds_among hint stirred (list_from current q))
          ∙ ap (λ b. c.siblings.found || b) (ap (λ b. b || finds_among hint stirred (list_from current q)) c.in_ok-found.ensures.finds ∙ sym (found_more hint stirred current linked o q i held c.in-Some.is behind))
          ∙ c.siblings.invariant.finds;
      puts = λ n.
          ap (λ b. b || puts_among hint stirred n (list_from current q)) (c.in_ok-found.ensures.puts n)
          ∙ or_joined (is_put c.siblings.ways n) _ (puts_among hint stirred n (list_from current q))
          ∙ ap (λ b. is_put c.siblings.ways n || b) (sym (put_more hint stirred current linked o q i held c.in-Some.is behind n))
          ∙ c.siblings.invariant.puts n;
      within = omega (arith, within, less);
    }
