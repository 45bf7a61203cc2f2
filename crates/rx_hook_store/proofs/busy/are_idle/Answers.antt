use Rattle.std.proofs.Common.{◌≡◌, ◌∙◌, ap, arith, false, sym, rules}
use Rattle.std.proofs.lemmas.Bool.Decides.{nat_tests}
use Rattle.rx_lane.specs.Lanes.{is_empty}
use Rattle.rx_hooks.specs.Hooks.{work_of_hooks}
use Rattle.rx_hook_store.proofs.Idle.{idle_where}
use Rattle.rx_hook_store.proofs.Working.{is_some_work}
use Rattle.rx_hook_store.proofs.busy.are_idle.Goals as goal

pub returns-then-is_none : goal.returns-then-is_none
returns-then-is_none c is answers histories stand lanes cut below =
    let none : is_some_work c.work.result ≡ false = search rules in
    idle_where lanes cut (record { updates = 18446744073709551615; resolutions = 18446744073709551615 }) histories
    (λ n lt. grind (arith, nat_tests))
    (ap is_empty (sym (c.pending_lanes.ensures answers histories stand)) ∙ sym c.is_none.ensures ∙ c.if-is_none.true)
    (ap (λ l. is_some_work (work_of_hooks l (record { updates = 18446744073709551615; resolutions = 18446744073709551615 }) histories)) (sym c.none.ensures)
    ∙ ap is_some_work (sym (c.work.ensures answers histories stand)) ∙ none)
