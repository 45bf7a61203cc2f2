use Rattle.std.proofs.Common.{◌≡◌, ◌++◌, OnOk, Some, sym, ap, ◌∙◌, subst}
use Rattle.rx_elem.specs.ElementView.{element_seen}
use Rattle.rx_forest.specs.Hosts.{tag, by_name, content_of}
use Rattle.rx_forest.specs.HostOps.{content_ops}
use Rattle.rx_host_ops.proofs.content.add_changes.Goals as goal

pub returns-in-Host : goal.returns-in-Host
returns-in-Host c b d eb ed =
    let seen : Some (tag c.in-Host.field-0 (by_name c.in-Host.attrs.items)) ≡ Some b = ap (λ k. content_of (element_seen k)) (sym c.in-Host.is) ∙ ap content_of c.kind.ensures ∙ eb in
    let same : tag c.in-Host.field-0 (by_name c.in-Host.attrs.items) ≡ b = cc in
    subst (λ x. OnOk c.add_tag.result (c.add_tag.new.ops.items ≡ c.args.ops.now.items ++ content_ops c.args.host x d))
    (ap (λ xs. tag c.in-Host.field-0 (by_name xs)) c.deref.ensures.value ∙ same) (c.add_tag.ensures c.in-Host.field-0 d ed)
