use Rattle.std.proofs.Common.{◌∙◌, None, Option, ap, sym}
use Rattle.std.specs.Option.{option_copied}
use Rattle.std.proofs.lemmas.Result.{on_ok_weaker}
use Rattle.rx_elem.specs.Spots.{mounted}
use Rattle.rx_elem.specs.Trees.{Node}
use Rattle.rx_lines.specs.Lines.{no_instance, with_line}
use Rattle.rx_model.specs.State.{find_from}
use Rattle.rx_step.specs.Steps.{Path}
use Rattle.rx_plain.specs.Plained.{Plained}
use Rattle.rx_plain.proofs.Sending.{nowhere_done, sent_done}
use Rattle.rx_plain.proofs.plain.Plain.send_along.Goals as goal

pub returns-in-None-clause-ok : goal.returns-in-None-clause-ok
returns-in-None-clause-ok c =
    on_ok_weaker c.no_instance_line.result
    (λ are s h.
    let p = c.args.checked.now in
    let tree = c.as_ref.ensures.value ∙ ap (λ (v : Plained). v.tree) c.self.view_is ∙ h.tree in
    let all = c.deref.ensures.value ∙ c.in_ok-all.ensures ∙ ap (λ (t : Option Node). mounted t) tree ∙ c.ends_are_not_read.ensures.mounted s.tree in
    let found = c.find.ensures ∙ (λ i. find_from p (all i) None (c.dispatch_path-path.ensures i)) in
    nowhere_done p s c.args.dispatch.now _ c.args.log.now c.no_instance_line.new.self (sym found ∙ ap option_copied c.in-None.is) h
    (are ∙ ap (λ (path : Path). with_line c.args.log.now (no_instance path)) c.dispatch_path-path.ensures))
    c.no_instance_line.ensures.written

pub returns-clause-ok : goal.returns-clause-ok
returns-clause-ok c =
    on_ok_weaker c.send_to.result
    (λ sends s h.
    let p = c.args.checked.now in
    let tree = c.as_ref.ensures.value ∙ ap (λ (v : Plained). v.tree) c.self.view_is ∙ h.tree in
    let all = c.deref.ensures.value ∙ c.in_ok-all.ensures ∙ ap (λ (t : Option Node). mounted t) tree ∙ c.ends_are_not_read.ensures.mounted s.tree in
    let found = c.find.ensures ∙ (λ i. find_from p (all i) None (c.dispatch_path-path.ensures i)) in
    let here = sym found ∙ ap option_copied c.in-Some.is in
    sent_done p s c.args.dispatch.now _ c.send_to.new.self c.args.log.now here (sends s h here))
    c.send_to.ensures.ok
