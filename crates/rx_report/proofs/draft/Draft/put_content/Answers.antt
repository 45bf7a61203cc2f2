use Rattle.std.proofs.Common.{◌≡◌, ◌++◌, List, OnOk, sym, ◌∙◌, ap, subst, append_assoc}
use Rattle.std.specs.Prelude.{codes, flat_map}
use Rattle.rx_base.specs.Values.{Text, Name}
use Rattle.rx_elem.specs.declared.attr.Attr.{Attr}
use Rattle.rx_forest.specs.Forests.{Held, body_of}
use Rattle.rx_forest.specs.Hosts.{Content, tag}
use Rattle.rx_host.specs.declared.entry.HostKind.{HostKind}
use Rattle.rx_host.specs.declared.entry.HostKind.TheVariants.{Element}
use Rattle.rx_host.specs.Kept.{body_as}
use Rattle.rx_lines.specs.Lines.{content_text, value_text}
use Rattle.rx_report.proofs.OneList.{same_content}
use Rattle.rx_report.proofs.draft.Draft.put_content.Goals as goal

pub returns-in_ok-put_name-in-Element-clause-put : goal.returns-in_ok-put_name-in-Element-clause-put
returns-in_ok-put_name-in-Element-clause-put c = λ h held by_name.
    let name : Name = c.in-Element.name in
    let attrs : List Attr = c.attrs.result.now in
    let begun : Text = c.args.self.now.begun in
    let list : Text = flat_map (λ a. codes " " ++ a.name ++ codes "=" ++ value_text a.value) attrs in
    let kind : c.args.host.now.kind ≡ Element name = sym c.kind.ensures ∙ c.in-Element.is in
    let body : body_of (tag name attrs) ≡ body_of h.content =
    ap (λ (list : List Attr). body_as (Element name) list) c.attrs.ensures.attrs
    ∙ ap (λ (k : HostKind). body_as k c.args.host.now.attrs) (sym kind) ∙ ap (λ (x : Held). x.body) held in
    let same : tag name attrs ≡ h.content = same_content (tag name attrs) h.content c.attrs.ensures.by_name by_name body in
    let text : c.put_name.new.self.begun ++ list ≡ begun ++ content_text h.content =
    ap (λ (t : Text). t ++ list) c.in_ok-put_name-in-Element.ensures.put ∙ append_assoc begun name list ∙ ap (λ (x : Content). begun ++ content_text x) same in
    subst (λ (t : Text). OnOk c.put_attrs.result (c.put_attrs.new.self.begun ≡ t)) text c.put_attrs.ensures.put
