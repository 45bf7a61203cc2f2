use Rattle.std.proofs.Common.{◌≡◌, ℕ, not, length, take, ap, sym, ◌∙◌}
use Rattle.rx_hook_store.specs.Store.{kept_hooks}
use Rattle.rx_model.specs.State.{State, committed_values, hooks_at, name_of}
use Rattle.rx_mounts.specs.Shown.{KeepsOne}
use Rattle.rx_mounts.proofs.Showing.{written-line}
use Rattle.rx_mounts.proofs.hooks.show_one.Goals as goal

pub returns-clause-ok : goal.returns-clause-ok
returns-clause-ok c =
    let p = c.args.checked.now in
    let m = c.args.instance.now in
    let kept = kept_hooks c.args.hooks.now in
    let name : c.in_ok-name.name ≡ name_of p m.component = c.in_ok-name.ensures ∙ (c.name_of.ensures ∙ ap (name_of p) c.component.ensures) in
    let names : c.deref.result.now ≡ hooks_at p m.component = c.deref.ensures.value ∙ (c.in_ok-names.ensures.names ∙ ap (hooks_at p) c.component-2.ensures) in
    let most : c.len.result ≡ length c.deref.result.now = c.len.ensures ∙ sym c.deref.ensures.len in
    let values : (s : State) → KeepsOne p s kept m → c.deref-2.result.now ≡ take (length c.deref.result.now) (committed_values p s.journal m) =
    λ s k. c.deref-2.ensures.value ∙ (c.in_ok-values.ensures p s k ∙ ap (λ (n : ℕ). take n (committed_values p s.journal m)) most) in
    written-line c.state_line.result p kept m c.args.log.now c.state_line.new.self c.number.result c.in_ok-name.name c.deref.result.now c.deref-2.result.now (not c.is_visible-hidden.result)
    c.number.ensures name names (ap not c.is_visible-hidden.ensures) values c.state_line.ensures.written
