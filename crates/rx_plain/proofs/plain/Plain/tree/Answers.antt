use Rattle.std.proofs.Common.{◌∙◌, Option, List, ap}
use Rattle.std.specs.Option.{option_copied}
use Rattle.std.proofs.lemmas.Result.{on_ok_weaker}
use Rattle.rx_elem.specs.Trees.{Node}
use Rattle.rx_forest.specs.Hosts.{Host, hosts}
use Rattle.rx_lines.specs.Lines.{tree_lines}
use Rattle.rx_writing.specs.Written.{with_lines}
use Rattle.rx_plain.specs.Plained.{Plained}
use Rattle.rx_plain.proofs.Reading.{reached_hosts}
use Rattle.rx_plain.proofs.Runnable.{runnable_bounded}
use Rattle.rx_plain.proofs.plain.Plain.tree.Goals as goal

pub show_hosts-requires : goal.show_hosts-requires
show_hosts-requires c =
    let p = c.args.checked.now in
    let s = c.requires.0 in
    let h = c.requires.1 in
    let tree = c.as_ref.ensures.value ∙ ap (λ (v : Plained). v.tree) c.self.view_is ∙ h.tree in
    reached_hosts p (runnable_bounded p c.program.ensures.runnable) c.program.ensures.accepted s h.reached (hosts (option_copied c.as_ref.result))
    (ap (λ (t : Option Node). hosts t) tree ∙ c.ends_are_not_read.ensures.hosts s.tree)

pub returns-clause-ok : goal.returns-clause-ok
returns-clause-ok c =
    on_ok_weaker c.show_hosts.result
    (λ ok s h.
    let tree = c.as_ref.ensures.value ∙ ap (λ (v : Plained). v.tree) c.self.view_is ∙ h.tree in
    ok ∙ ap (λ (hs : List Host). with_lines c.args.log.now (tree_lines hs)) (ap (λ (t : Option Node). hosts t) tree ∙ c.ends_are_not_read.ensures.hosts s.tree))
    c.show_hosts.ensures.ok
