-- How long the lists of a program are.
use Rattle.std.specs.Prelude.{◌≤◌}
use Rattle.rx_ast.specs.Syntax.{Slot, Slots}
use Rattle.rx_ast.specs.Syntax as syntax

-- no `for` in a slot makes more than 1,024 turns, as in each program that is accepted
abbrev mutual
  pub HasShortLoops : Slot → Type 0
  HasShortLoops syntax.null = Unit {0}
  HasShortLoops (syntax.words t) = Unit {0}
  HasShortLoops (syntax.number_of e) = Unit {0}
  HasShortLoops syntax.children = Unit {0}
  HasShortLoops (syntax.repeated i e limit s) = (limit ≤ 1024) × HasShortLoops s
  HasShortLoops (syntax.choice c s t) = HasShortLoops s × HasShortLoops t
  HasShortLoops (syntax.host n attrs w ss) = HaveShortLoops ss
  HasShortLoops (syntax.comp n attrs w ss) = HaveShortLoops ss
  HasShortLoops (syntax.boundary k f w ss) = HasShortLoops f × HaveShortLoops ss
  HasShortLoops (syntax.catcher k f w ss) = HasShortLoops f × HaveShortLoops ss
  HasShortLoops (syntax.provider n k e w ss) = HaveShortLoops ss
  HasShortLoops (syntax.enclosed b s) = HasShortLoops s

  -- the same of each slot of a list
  pub HaveShortLoops : Slots → Type 0
  HaveShortLoops syntax.no_slots = Unit {0}
  HaveShortLoops (syntax.slot s ss) = HasShortLoops s × HaveShortLoops ss
