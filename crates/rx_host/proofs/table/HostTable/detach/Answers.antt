use Rattle.std.proofs.Common.{◌∙◌, ap, sym}
use Rattle.std.specs.Prelude.{Option, option_and_then}
use Rattle.rx_host.specs.declared.entry.HostEntry.{HostEntry}
use Rattle.rx_host.specs.Linking.{host_in}
use Rattle.rx_host.proofs.Tabled.{detaches-none, detach-steps, placed-parent, held-of}
use Rattle.rx_host.proofs.table.HostTable.detach.Goals as goal

pub returns-in_default-clause-links : goal.returns-in_default-clause-links
returns-in_default-clause-links c children sound =
    detaches-none _ children c.args.host sound (ap (λ (o : Option HostEntry). option_and_then (λ e. e.parent) o) (sym c.in_default.ensures.value))

pub returns-in_default-parent-clause-links : goal.returns-in_default-parent-clause-links
returns-in_default-parent-clause-links c children sound =
    detaches-none _ children c.args.host sound (ap (λ (o : Option HostEntry). option_and_then (λ e. e.parent) o) (sym c.in-Some.ensures.value) ∙ c.in_default-parent.is)

pub returns-clause-links : goal.returns-clause-links
returns-clause-links c children sound =
    let at = c.in-Some.ensures.value in
    detach-steps c.args.self.now c.set_behind.new.self c.set_ahead.new.self c.set_place.new.self children c.args.host c.in-Some-parent.parent c.in-Some.entry.now.before
    c.in-Some.entry.now.after sound (ap (λ (o : Option HostEntry). option_and_then (λ e. e.parent) o) (sym at) ∙ c.in-Some-parent.is)
    (ap (λ (o : Option HostEntry). option_and_then (λ e. e.before) o) at) (ap (λ (o : Option HostEntry). option_and_then (λ e. e.after) o) at) c.set_behind.ensures.links
    c.set_behind.ensures.kept c.set_ahead.ensures.links c.set_ahead.ensures.kept c.set_place.ensures.links

pub returns-clause-nowhere : goal.returns-clause-nowhere
returns-clause-nowhere c =
    let under = ap (λ (o : Option HostEntry). option_and_then (λ e. e.parent) o) (sym c.in-Some.ensures.value) ∙ c.in-Some-parent.is in
    let held = held-of (λ e. e.parent) (host_in c.args.self.now c.args.host) c.in-Some-parent.parent under in
    placed-parent c.set_ahead.new.self c.set_place.new.self c.args.host _ _ _
    (c.set_place.ensures.links (c.set_ahead.ensures.kept.held c.args.host ∙ c.set_behind.ensures.kept.held c.args.host ∙ held))
