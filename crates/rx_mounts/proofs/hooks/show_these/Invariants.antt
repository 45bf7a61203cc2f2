use Rattle.std.proofs.Common.{◌≡◌, take, map, ◌∷◌}
use Rattle.rx_hook_store.specs.Store.{kept_hooks}
use Rattle.rx_lines.specs.Lines as report
use Rattle.rx_model.specs.State.{State, state_line}
use Rattle.rx_mounts.specs.Shown.{KeepsThese}
use Rattle.rx_writing.specs.Written.{with_lines}
use Rattle.rx_mounts.proofs.hooks.show_these.Given as goal

-- the report has the lines of the instances so far
abbrev pub invariant-showing : goal.invariant-showing
invariant-showing l =
    (s : State) → KeepsThese l.checked s (kept_hooks l.hooks) l.all
    → l.log ≡ with_lines l.fn.log (report.state_head ∷ map (state_line l.checked s.journal) (take l.instance-index l.all))
