-- The numbers of a trimmed tree: those of the tree itself.
use Rattle.std.specs.Prelude.{◌≡◌}
use Rattle.std.proofs.Common.{refl, ap, ◌∙◌}
use Rattle.rx_elem.specs.Trees.{Node, node, Forest, none, vacant, child}
use Rattle.rx_elem.specs.Numbers.{Numbers, numbered, numbered_in, numbered_mark}
use Rattle.end_laws.specs.Trimmed.{vacant_before, trimmed, trimmed_in}

numbered_before : (next : Numbers) (ns : Forest) → numbered_in next (vacant_before ns) ≡ ((numbered_in next ns).0, vacant_before (numbered_in next ns).1)
numbered_before next none = refl
numbered_before next (vacant ns) = refl
numbered_before next (child n ns) = refl

mutual
  pub numbered_same : (next : Numbers) (n : Node) → numbered next (trimmed n) ≡ ((numbered next n).0, trimmed (numbered next n).1)
  numbered_same next (node e m ns fs) =
      rw (numbered_in_same (numbered_mark next m).0 ns, numbered_in_same (numbered_in (numbered_mark next m).0 ns).0 fs) refl

  numbered_in_same : (next : Numbers) (ns : Forest) → numbered_in next (trimmed_in ns) ≡ ((numbered_in next ns).0, trimmed_in (numbered_in next ns).1)
  numbered_in_same next none = refl
  numbered_in_same next (vacant ns) =
      numbered_before next (trimmed_in ns) ∙ ap (λ x. (x.0, vacant_before x.1)) (numbered_in_same next ns)
  numbered_in_same next (child n ns) =
      rw (numbered_same next n, numbered_in_same (numbered next n).0 ns) refl
