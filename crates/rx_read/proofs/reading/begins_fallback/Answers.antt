use Rattle.std.proofs.Common.{sym, ap, ◌∙◌}
use Rattle.rx_lists.proofs.Frames.{some-at}
use Rattle.rx_fiber.specs.OldLists.{is_fallback, begins_fallback}
use Rattle.rx_read.specs.Lists.{list_of}
use Rattle.rx_read.proofs.Links.{by_value}
use Rattle.rx_read.proofs.Listing.{begins_is}
use Rattle.rx_read.proofs.reading.begins_fallback.Goals as goal

pub returns-in-Some : goal.returns-in-Some
returns-in-Some c =
    let t = c.args.tree.now in
    let l = by_value t c.facts.ensures.fits c.facts.ensures.linked c.in-Some.id c.value.result.now (some-at _ _ _ c.requires c.in-Some.is) c.value.ensures.current c.value.ensures.made in
    c.is_fallback.ensures ∙ ap is_fallback c.stage.ensures ∙ sym (begins_is t c.in-Some.id c.value.result.now l.0 l.1 l.2) ∙ ap (λ o. begins_fallback (list_of t o)) (sym c.in-Some.is)
