use Rattle.rx_root.proofs.root.Root.+finish_renders.Given as goal

-- the renders that are left
abbrev pub decreases-finish_renders : goal.decreases-finish_renders
decreases-finish_renders g l = l.limit
