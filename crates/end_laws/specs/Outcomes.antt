-- What becomes of a render, by the trimmed tree.
use Rattle.rx_meaning.specs.Outcome.{Outcome, commit, defer}
use Rattle.end_laws.specs.Trimmed.{trimmed}

-- what becomes of a render, with the tree that it commits trimmed
abbrev pub trimmed_outcome : Outcome → Outcome
trimmed_outcome (commit n) = commit (trimmed n)
trimmed_outcome (defer a) = defer a
