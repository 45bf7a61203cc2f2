use Rattle.std.specs.Option.{option_copied}
use Rattle.std.proofs.Common.{ap, inr, sym, subst, ◌∙◌, IfSome}
use Rattle.rx_lists.specs.Shapes.{Holds}
use Rattle.rx_links.specs.Drafts.{old_of}
use Rattle.rx_links.specs.Readers.{list_from}
use Rattle.rx_fallback.specs.Opening.{HasOpenedAs, fallback_behind, given_as, given_elements, given_fibers}
use Rattle.rx_children.proofs.Nodes.{bare_made}
use Rattle.rx_fallback.proofs.Falling.{kept_made, kept_sibling, kept_free, room_beside, left_beside, left_old, new_made, new_link}
use Rattle.rx_fallback.proofs.FallbackKids.{beside_kids}
use Rattle.rx_fallback.proofs.OldFallback.{given_next, same_old}
use Rattle.rx_fallback.proofs.opening.fall_beside.Goals as goal

pub put_fallback-requires-clause-made : goal.put_fallback-requires-clause-made
put_fallback-requires-clause-made c =
    kept_made c.args.tree.now c.keep_primary.new.tree c.args.at c.args.awaits c.alternate.result c.requires.left c.place_facts.ensures
    (c.alternate.ensures.made (bare_made c.args.tree.now c.args.at c.place_facts.ensures c.requires.bare)) c.keep_primary.ensures.kept c.keep_primary.ensures.current c.place_facts-2.ensures

pub put_fallback-requires-clause-old_sibling : goal.put_fallback-requires-clause-old_sibling
put_fallback-requires-clause-old_sibling c =
    kept_sibling c.args.tree.now c.keep_primary.new.tree c.args.at c.args.awaits c.alternate.result c.requires.left c.place_facts.ensures
    (c.alternate.ensures.made (bare_made c.args.tree.now c.args.at c.place_facts.ensures c.requires.bare)) c.keep_primary.ensures.kept c.keep_primary.ensures.current
    c.old_beside-beside.result c.place_facts-2.ensures c.facts-2.ensures.fits c.facts-2.ensures.linked
    (c.old_beside-beside.ensures.is ∙ ap (λ q. fallback_behind (list_from c.args.tree.now.current q))
    (c.alternate-2.ensures.made (bare_made c.args.tree.now c.args.at c.place_facts.ensures c.requires.bare)
    ∙ sym (c.alternate.ensures.made (bare_made c.args.tree.now c.args.at c.place_facts.ensures c.requires.bare))))

pub put_fallback-requires-clause-unused : goal.put_fallback-requires-clause-unused
put_fallback-requires-clause-unused c =
    kept_free c.args.tree.now c.keep_primary.new.tree c.args.at c.args.awaits c.alternate.result c.requires.left c.place_facts.ensures
    (c.alternate.ensures.made (bare_made c.args.tree.now c.args.at c.place_facts.ensures c.requires.bare)) c.keep_primary.ensures.kept c.keep_primary.ensures.current
    c.old_beside-beside.result c.place_facts-2.ensures c.facts-2.ensures.fits c.facts-2.ensures.linked
    (c.old_beside-beside.ensures.is ∙ ap (λ q. fallback_behind (list_from c.args.tree.now.current q))
    (c.alternate-2.ensures.made (bare_made c.args.tree.now c.args.at c.place_facts.ensures c.requires.bare)
    ∙ sym (c.alternate.ensures.made (bare_made c.args.tree.now c.args.at c.place_facts.ensures c.requires.bare))))

pub make_listed-requires-clause-held : goal.make_listed-requires-clause-held
make_listed-requires-clause-held c =
    subst (λ k. IfSome c.old_fallback-first_old.result (Holds k)) (sym (c.in_ok-id.ensures.current ∙ c.keep_primary.ensures.current)) c.old_fallback-first_old.ensures.held

pub make_listed-requires-clause-beside : goal.make_listed-requires-clause-beside
make_listed-requires-clause-beside c =
    room_beside c.args.tree.now c.keep_primary.new.tree c.args.at c.args.awaits c.alternate.result c.requires.left c.place_facts.ensures
    (c.alternate.ensures.made (bare_made c.args.tree.now c.args.at c.place_facts.ensures c.requires.bare)) c.keep_primary.ensures.kept c.keep_primary.ensures.current
    c.put_fallback.new.tree c.old_beside-beside.result c.old_fallback-first_old.result c.in_ok-id.id c.requires.keeps c.facts.ensures.linked
    (c.old_beside-beside.ensures.is ∙ ap (λ q. fallback_behind (list_from c.args.tree.now.current q))
    (c.alternate-2.ensures.made (bare_made c.args.tree.now c.args.at c.place_facts.ensures c.requires.bare)
    ∙ sym (c.alternate.ensures.made (bare_made c.args.tree.now c.args.at c.place_facts.ensures c.requires.bare)))) c.in_ok-id.ensures.put c.old_fallback-first_old.ensures.list

pub first_child-requires : goal.first_child-requires
first_child-requires c =
    let given = option_copied c.args.given in
    let s = list_from c.put_fallback.new.tree.current c.old_fallback-first_old.result in
    inr (new_made (given_as given c.args.visible c.args.generation) c.put_fallback.new.tree c.make_listed.new.tree c.in_ok-id.id c.old_fallback-first_old.result (given_elements given s) (given_fibers given s)
    (room_beside c.args.tree.now c.keep_primary.new.tree c.args.at c.args.awaits c.alternate.result c.requires.left c.place_facts.ensures
    (c.alternate.ensures.made (bare_made c.args.tree.now c.args.at c.place_facts.ensures c.requires.bare)) c.keep_primary.ensures.kept c.keep_primary.ensures.current
    c.put_fallback.new.tree c.old_beside-beside.result c.old_fallback-first_old.result c.in_ok-id.id c.requires.keeps c.facts.ensures.linked
    (c.old_beside-beside.ensures.is ∙ ap (λ q. fallback_behind (list_from c.args.tree.now.current q))
    (c.alternate-2.ensures.made (bare_made c.args.tree.now c.args.at c.place_facts.ensures c.requires.bare)
    ∙ sym (c.alternate.ensures.made (bare_made c.args.tree.now c.args.at c.place_facts.ensures c.requires.bare)))) c.in_ok-id.ensures.put c.old_fallback-first_old.ensures.list)
    c.in_ok-make_listed.ensures.made c.place_facts-4.ensures)

pub returns-clause-opened : goal.returns-clause-opened
returns-clause-opened c st d l h =
    let given = option_copied c.args.given in
    let s = list_from c.put_fallback.new.tree.current c.old_fallback-first_old.result in
    let beside = room_beside c.args.tree.now c.keep_primary.new.tree c.args.at c.args.awaits c.alternate.result c.requires.left c.place_facts.ensures
    (c.alternate.ensures.made (bare_made c.args.tree.now c.args.at c.place_facts.ensures c.requires.bare)) c.keep_primary.ensures.kept c.keep_primary.ensures.current
    c.put_fallback.new.tree c.old_beside-beside.result c.old_fallback-first_old.result c.in_ok-id.id c.requires.keeps c.facts.ensures.linked
    (c.old_beside-beside.ensures.is ∙ ap (λ q. fallback_behind (list_from c.args.tree.now.current q))
    (c.alternate-2.ensures.made (bare_made c.args.tree.now c.args.at c.place_facts.ensures c.requires.bare)
    ∙ sym (c.alternate.ensures.made (bare_made c.args.tree.now c.args.at c.place_facts.ensures c.requires.bare)))) c.in_ok-id.ensures.put c.old_fallback-first_old.ensures.list in
    let made = new_made (given_as given c.args.visible c.args.generation) c.put_fallback.new.tree c.make_listed.new.tree c.in_ok-id.id c.old_fallback-first_old.result (given_elements given s) (given_fibers given s) beside
    c.in_ok-make_listed.ensures.made c.place_facts-4.ensures in
    let old = left_old c.args.tree.now st c.args.at c.args.awaits d l c.place_facts.ensures c.alternate.result
    (c.alternate.ensures.made (bare_made c.args.tree.now c.args.at c.place_facts.ensures c.requires.bare)) in
    subst (λ f. HasOpenedAs c.make_listed.new.tree st d f) (sym c.opened_at.ensures)
    (left_beside c.args.tree.now st c.args.at c.args.awaits d l c.facts.ensures.linked (given_as given c.args.visible c.args.generation) c.keep_primary.new.tree c.put_fallback.new.tree
    c.make_listed.new.tree c.old_beside-beside.result c.in_ok-id.id (given_elements given s) (given_fibers given s) c.first_child.result
    c.keep_primary.ensures.kept c.keep_primary.ensures.current c.in_ok-id.ensures.put c.in_ok-make_listed.ensures.made
    (given_next c.args.tree.now st c.args.at c.args.awaits d l c.facts.ensures.linked given c.args.visible c.args.generation h s
    (same_old c.args.tree.now c.put_fallback.new.tree l.old c.alternate.result c.old_fallback-first_old.result c.old_fallback-first_old.ensures.list old
    (c.in_ok-id.ensures.current ∙ c.keep_primary.ensures.current)))
    (new_link (given_as given c.args.visible c.args.generation) c.put_fallback.new.tree c.make_listed.new.tree c.in_ok-id.id c.old_fallback-first_old.result (given_elements given s) (given_fibers given s) beside
    c.in_ok-make_listed.ensures.made c.place_facts-4.ensures c.first_child.result (c.first_child.ensures.made made))
    (c.requires.keeps st d l)
    (c.old_beside-beside.ensures.is ∙ ap (λ q. fallback_behind (list_from c.args.tree.now.current q))
    (left_old c.args.tree.now st c.args.at c.args.awaits d l c.place_facts.ensures c.alternate-2.result
    (c.alternate-2.ensures.made (bare_made c.args.tree.now c.args.at c.place_facts.ensures c.requires.bare)))))

pub returns-clause-kids : goal.returns-clause-kids
returns-clause-kids c =
    let given = option_copied c.args.given in
    let s = list_from c.put_fallback.new.tree.current c.old_fallback-first_old.result in
    let beside = room_beside c.args.tree.now c.keep_primary.new.tree c.args.at c.args.awaits c.alternate.result c.requires.left c.place_facts.ensures
    (c.alternate.ensures.made (bare_made c.args.tree.now c.args.at c.place_facts.ensures c.requires.bare)) c.keep_primary.ensures.kept c.keep_primary.ensures.current
    c.put_fallback.new.tree c.old_beside-beside.result c.old_fallback-first_old.result c.in_ok-id.id c.requires.keeps c.facts.ensures.linked
    (c.old_beside-beside.ensures.is ∙ ap (λ q. fallback_behind (list_from c.args.tree.now.current q))
    (c.alternate-2.ensures.made (bare_made c.args.tree.now c.args.at c.place_facts.ensures c.requires.bare)
    ∙ sym (c.alternate.ensures.made (bare_made c.args.tree.now c.args.at c.place_facts.ensures c.requires.bare)))) c.in_ok-id.ensures.put c.old_fallback-first_old.ensures.list in
    let made = new_made (given_as given c.args.visible c.args.generation) c.put_fallback.new.tree c.make_listed.new.tree c.in_ok-id.id c.old_fallback-first_old.result (given_elements given s) (given_fibers given s) beside
    c.in_ok-make_listed.ensures.made c.place_facts-4.ensures in
    beside_kids c.args.tree.now c.make_listed.new.tree c.args.at c.args.awaits given c.args.visible c.args.generation s c.first_child.result c.opened_at.result
    (same_old c.args.tree.now c.put_fallback.new.tree (old_of c.args.tree.now.draft c.args.at) c.alternate.result c.old_fallback-first_old.result c.old_fallback-first_old.ensures.list
    (c.alternate.ensures.made (bare_made c.args.tree.now c.args.at c.place_facts.ensures c.requires.bare)) (c.in_ok-id.ensures.current ∙ c.keep_primary.ensures.current)) c.place_facts.ensures
    c.keep_primary.new.tree c.put_fallback.new.tree c.old_beside-beside.result c.in_ok-id.id c.keep_primary.ensures.kept c.in_ok-id.ensures.put c.in_ok-make_listed.ensures.made
    (new_link (given_as given c.args.visible c.args.generation) c.put_fallback.new.tree c.make_listed.new.tree c.in_ok-id.id c.old_fallback-first_old.result (given_elements given s) (given_fibers given s) beside
    c.in_ok-make_listed.ensures.made c.place_facts-4.ensures c.first_child.result (c.first_child.ensures.made made))
    c.opened_at.ensures
