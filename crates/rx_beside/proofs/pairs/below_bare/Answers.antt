use Rattle.std.proofs.Common.{Some, is_some, inl, sym, ap, ◌∙◌, arith}
use Rattle.rx_links.specs.Drafts.{grafted, old_kids}
use Rattle.rx_links.specs.Readers.{made_kids_of}
use Rattle.rx_read.specs.Lists.{list_of}
use Rattle.rx_read.specs.Places.{places_in}
use Rattle.rx_read.proofs.Relisted.{child_in}
use Rattle.rx_beside.proofs.Standing.{below_made, beside_at, made_first, old_held, old_leads, old_node, new_node, made_some, made_lower}
use Rattle.rx_beside.proofs.Staying.{through_by}
use Rattle.rx_beside.proofs.pairs.below_bare.Goals as goal

pub is_alternate-requires : goal.is_alternate-requires
is_alternate-requires c =
    let p = c.requires.pair in
    child_in c.args.tree.now c.facts.ensures.fits c.facts.ensures.linked c.args.only.now.pair.new p.made c.in_ok-new.new (sym c.in_ok-new.was ∙ c.first_child-2.ensures.made p.made)

pub stand_alone-requires : goal.stand_alone-requires
stand_alone-requires c =
    let t = c.args.tree.now in
    let fits = c.facts.ensures.fits in
    let linked = c.facts.ensures.linked in
    let p = c.requires.pair in
    let old = c.args.only.now.pair.old in
    let new = c.args.only.now.pair.new in
    let held = old_held t fits linked new p.made old p.old in
    let leads = sym c.in_ok-new.was ∙ c.first_child-2.ensures.made p.made in
    let below = below_made t fits linked new p.made old p.old c.in_ok-new.new c.in_ok-old.old (sym c.in_ok-old.was ∙ c.first_child.ensures.current held) leads (c.is_alternate.ensures.current c.if-not-is_alternate.false) in
    record { old = inl below.0; made = below.1; is_for = c.is_alternate.ensures.made c.if-not-is_alternate.false below.1 }

pub returns-clause-lower : goal.returns-clause-lower
returns-clause-lower c =
    let t = c.args.tree.now in
    let fits = c.facts.ensures.fits in
    let linked = c.facts.ensures.linked in
    let p = c.requires.pair in
    let old = c.args.only.now.pair.old in
    let new = c.args.only.now.pair.new in
    let held = old_held t fits linked new p.made old p.old in
    let leads = sym c.in_ok-new.was ∙ c.first_child-2.ensures.made p.made in
    let below = below_made t fits linked new p.made old p.old c.in_ok-new.new c.in_ok-old.old (sym c.in_ok-old.was ∙ c.first_child.ensures.current held) leads (c.is_alternate.ensures.current c.if-not-is_alternate.false) in
    let b = beside_at t fits linked new p.made in
    let entry = made_first t fits linked new b c.in_ok-new.new leads below.1 in
    let l = made_lower t new b (Some c.in_ok-new.new) entry in
    l

pub returns-clause-passes : goal.returns-clause-passes
returns-clause-passes c =
    let t = c.args.tree.now in
    let fits = c.facts.ensures.fits in
    let linked = c.facts.ensures.linked in
    let p = c.requires.pair in
    let old = c.args.only.now.pair.old in
    let new = c.args.only.now.pair.new in
    let held = old_held t fits linked new p.made old p.old in
    let leads = sym c.in_ok-new.was ∙ c.first_child-2.ensures.made p.made in
    let below = below_made t fits linked new p.made old p.old c.in_ok-new.new c.in_ok-old.old (sym c.in_ok-old.was ∙ c.first_child.ensures.current held) leads (c.is_alternate.ensures.current c.if-not-is_alternate.false) in
    let b = beside_at t fits linked new p.made in
    let entry = made_first t fits linked new b c.in_ok-new.new leads below.1 in
    let l = made_lower t new b (Some c.in_ok-new.new) entry in
    let bare = c.requires.bare c.if-not-only.false in
    let are = bare.are in
    let o = old_node t linked new old p.old held bare.was bare.old are.had are.was are.had_shown in
    let n = new_node t new b bare.is bare.new are.mark are.is are.shown in
    let alone = c.in_ok-bare.ensures.alone in
    record {
      pair = alone.pair;
      stands = alone.stands;
      within = omega (arith, l);
      passes =
          through_by _ _ _ _ _ _ _ _ (places_in 0 (old_kids t new)) (places_in 0 (grafted (made_kids_of t.draft new))) o n
          (ap (places_in 0) (sym (old_leads t fits linked new p.made old p.old c.first_child.result c.first_child.ensures.current))
          ∙ (ap (λ o. places_in 0 (list_of t o)) c.in_ok-old.was ∙ alone.old_places))
          (ap (places_in 0) (sym (made_some t new b (ap is_some (sym entry)))) ∙ (ap (λ o. places_in 0 (list_of t o)) (sym entry) ∙ alone.new_places))
          are.bare c.requires.stands;
    }
