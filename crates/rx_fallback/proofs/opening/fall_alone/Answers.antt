use Rattle.std.specs.Option.{option_copied}
use Rattle.std.proofs.Common.{refl, sym, ap, ◌∙◌, subst}
use Rattle.rx_links.specs.Readers.{list_from}
use Rattle.rx_fiber.specs.OldLists.{fallback_list}
use Rattle.rx_fallback.specs.Opening.{HasOpenedAs, given_as, given_elements, given_fibers}
use Rattle.rx_children.proofs.Nodes.{bare_made}
use Rattle.rx_fallback.proofs.Falling.{room_alone, left_alone, left_old}
use Rattle.rx_fallback.proofs.FallbackKids.{alone_kids}
use Rattle.rx_fallback.proofs.OldFallback.{given_next, same_old}
use Rattle.rx_fallback.proofs.opening.fall_alone.Goals as goal

pub open_listed-requires-clause-beside : goal.open_listed-requires-clause-beside
open_listed-requires-clause-beside c =
    room_alone c.args.tree.now c.args.at c.args.awaits c.alternate.result c.old_fallback-first_old.result c.requires.left c.requires.gone c.place_facts.ensures c.facts.ensures.linked
    (c.alternate.ensures.made (bare_made c.args.tree.now c.args.at c.place_facts.ensures c.requires.bare)) c.old_fallback-first_old.ensures.list

pub returns-clause-opened : goal.returns-clause-opened
returns-clause-opened c st d l h =
    let t = c.args.tree.now in
    let given = option_copied c.args.given in
    let s = list_from t.current c.old_fallback-first_old.result in
    let old = left_old t st c.args.at c.args.awaits d l c.place_facts.ensures c.alternate.result (c.alternate.ensures.made (bare_made t c.args.at c.place_facts.ensures c.requires.bare)) in
    subst (λ f. HasOpenedAs c.open_listed.new.tree st d f) (sym c.opened_at.ensures)
    (left_alone t st c.args.at c.args.awaits d l c.facts.ensures.linked (given_as given c.args.visible c.args.generation) c.open_listed.new.tree (given_elements given s) (given_fibers given s) c.in_ok-first.first c.in_ok-first.ensures.opened
    (given_next t st c.args.at c.args.awaits d l c.facts.ensures.linked given c.args.visible c.args.generation h s
    (same_old t t l.old c.alternate.result c.old_fallback-first_old.result c.old_fallback-first_old.ensures.list old refl))
    (c.requires.gone st d l))

pub returns-clause-kids : goal.returns-clause-kids
returns-clause-kids c =
    let t = c.args.tree.now in
    let s = list_from t.current c.old_fallback-first_old.result in
    alone_kids t c.open_listed.new.tree c.args.at c.args.awaits (option_copied c.args.given) c.args.visible c.args.generation s c.in_ok-first.first c.opened_at.result
    (c.old_fallback-first_old.ensures.list ∙ ap (λ o. fallback_list (list_from t.current o)) (c.alternate.ensures.made (bare_made t c.args.at c.place_facts.ensures c.requires.bare)))
    c.in_ok-first.ensures.opened c.opened_at.ensures
