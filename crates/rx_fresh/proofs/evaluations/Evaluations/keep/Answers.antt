use Rattle.std.proofs.Common.{◌≡◌, ◌∙◌, List, ℤ, [], ap, sym, subst}
use Rattle.rx_fresh.specs.Giving.{ready_seen}
use Rattle.rx_fresh.specs.Evaluated.{Evaluation, Gives, childless}
use Rattle.rx_fresh.proofs.Evaluating.{evaluated, versions_in}
use Rattle.rx_fresh.proofs.evaluations.Evaluations.keep.Goals as goal

pub returns : goal.returns
returns c p cs vs rs all gives =
    let r = c.in_ok-copy.field-0 in
    let e : Evaluation =
    record {
      component = c.args.component;
      props = c.new.result;
      hooks = c.args.hooks;
      elements = r.elements.value.items;
      effects = r.effects.value.items;
      initials = r.initials.value;
      reads = r.reads.value.items;
      versions = r.versions.value.items;
    } in
    let empty : c.args.ready.now.versions.value.items ≡ [] = sym (c.deref-2.ensures.value ∙ ap (λ v. v.items) c.deref.ensures) ∙ c.is_free.ensures c.if-not-is_free.false in
    let none : e.versions ≡ [] = ap versions_in c.in_ok-copy.ensures ∙ empty in
    let props : c.args.props.now ≡ c.new.result = sym (c.new.ensures ∙ c.in_ok-from_slice.ensures.items ∙ c.as_slice.ensures) in
    c.put.ensures p all
    (evaluated p e cs vs rs none
    (subst (λ b. Gives p c.args.component (childless c.new.result c.args.hooks cs vs rs) b) (sym c.in_ok-copy.ensures)
    (subst (λ (ps : List ℤ). Gives p c.args.component (childless ps c.args.hooks cs vs rs) (ready_seen c.args.ready.now)) props gives)))
