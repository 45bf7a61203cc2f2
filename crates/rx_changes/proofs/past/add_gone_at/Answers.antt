use Rattle.std.proofs.Common.{◌++◌, ◌∙◌, [], ◌∷◌, get_or, ap, sym, flat_map}
use Rattle.std.specs.Option.{option_copied}
use Rattle.rx_elem.specs.Trees.{forest}
use Rattle.rx_elem.specs.Spots.{Around, spots}
use Rattle.rx_effect.specs.EffectLog.{destroyed_at}
use Rattle.rx_changes.specs.Phases.{phase_seen}
use Rattle.rx_changes.proofs.Growing.{grown, got, none_more}
use Rattle.rx_changes.proofs.Logged.{gone_lines, gone_lines-append, gone_lines-some, gone_lines-none}
use Rattle.rx_changes.proofs.past.add_gone_at.Goals as goal
use Rattle.rx_changes.proofs.past.add_gone_at.Goals.{in-Some+in_ok-add_old, in_default}

pub loop-place-preserved : goal.loop-place-preserved
loop-place-preserved c =
    let p = phase_seen c.args.phase in
    let v = c.args.visible in
    let old = forest c.args.old.now in
    let k = c.loop-place.place-index in
    let x = get_or c.args.places.now k 0 in
    let before = c.loop-place.lines.items in
    let after = c.match-node_at.lines.items in
    grown (gone_lines p v old) (gone_lines-append p v old) c.args.places.now k x c.args.lines.now.items before after
    c.loop-place-test.true (got c.args.places.now k 0 c.loop-place-test.true) c.loop-place.invariant
    (elim c.match-node_at.branch [
      | in-Some+in_ok-add_old w ↦
          ap (λ ls. ls.items) w.lines-is
          ∙ w.in_ok-add_old.ensures
          ∙ ap (λ (a : Around). before ++ flat_map (destroyed_at p) (spots a w.in-Some.node.now)) c.old_around-around.ensures
          ∙ ap (λ ls. before ++ ls) (gone_lines-some p v old x w.in-Some.node.now (ap option_copied (sym w.in-Some.is) ∙ c.node_at.ensures))
      | in_default w ↦
          none_more before after (gone_lines p v old (x ∷ [])) (ap (λ ls. ls.items) w.lines-is) (gone_lines-none p v old x (ap option_copied (sym w.in_default.is) ∙ c.node_at.ensures))
    ])
