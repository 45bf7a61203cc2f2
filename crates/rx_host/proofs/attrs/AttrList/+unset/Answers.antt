use Rattle.std.proofs.Common.{◌≡◌, sym, ◌∙◌}
use Rattle.rx_host.proofs.Attributes.{other-by-name, here-named}
use Rattle.rx_host.proofs.attrs.AttrList.+unset.Goals as goal
use Rattle.rx_host.proofs.attrs.AttrList.+unset.Goals.{in-More-1, in-End-1}

pub invariant_of-self-else-eq : goal.invariant_of-self-else-eq
invariant_of-self-else-eq t c =
    let other = rw (c.text.ensures, c.text-in-More.ensures) at c.if-eq.ensures in
    let sorted = rw c.in-More.is at c.self.invariant in
    rw (c.unset.ensures.attrs, c.deref_mut-else-eq.ensures.value) (other-by-name c.args.name.now c.in-More.attr c.in-More.rest.value (sym other) sorted)

pub returns-then-eq-clause-values : goal.returns-then-eq-clause-values
returns-then-eq-clause-values t c other =
    let equal = rw (c.text.ensures, c.text-in-More.ensures) at c.if-eq.ensures in
    let sorted = rw c.in-More.is at c.self.invariant in
    let old = rw c.in-More.is at c.self.view_is in
    let behind = c.replace-behind.ensures.value ∙ c.deref_mut.ensures.value in
    let step = here-named c.args.name.now c.in-More.attr c.in-More.rest.value other (sym equal) sorted in
    let is : c.match-self-behind.self ≡ c.in-More.rest.value = elim c.match-self-behind.branch [ in-More-1 w ↦ w.self-is ∙ c.behind.view_is ∙ behind | in-End-1 w ↦ w.self-is ∙ c.behind.view_is ∙ behind ] in
    rw (is, ← old) step
