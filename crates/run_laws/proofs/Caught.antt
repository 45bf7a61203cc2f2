-- Each visible error boundary of a tree that a render of an accepted program gives has caught what it had caught, or else what its children throw.
use Rattle.std.specs.Prelude.{◌≡◌, ◌≤◌}
use Rattle.std.proofs.Common.{subst, sym}
use Rattle.rx_ast.specs.Syntax.{Program}
use Rattle.rx_rules.specs.Bounds.{depth_bound}
use Rattle.rx_elem.specs.Numbers.{numbered}
use Rattle.rx_meaning.specs.Catches.{Catches}
use Rattle.rx_meaning.specs.Fresh.{default_contexts, depth_limit}
use Rattle.commit_laws.proofs.Catching.{tree_catches}
use Rattle.rx_model.specs.Laws.{CatchLaw}

pub all_catch : (p : Program) → CatchLaw p
all_catch p bounded s old new next same gives =
    subst (λ (q : Program). Catches depth_limit s (default_contexts q) old (numbered next new).1) same
    (tree_catches s old new next (subst (λ (q : Program). depth_bound q ≤ depth_limit) (sym same) bounded.shallow) gives)
