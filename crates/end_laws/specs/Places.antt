-- What a place gives, and what a list of places gives, by the trimmed trees.
use Rattle.rx_meaning.specs.Fresh.{Place, empty, made, waits, throws, Places, all_made, one_waits, one_throws}
use Rattle.end_laws.specs.Trimmed.{trimmed, trimmed_in}

-- what a place gives, with its node trimmed
abbrev pub trimmed_place : Place → Place
trimmed_place empty = empty
trimmed_place (made n) = made (trimmed n)
trimmed_place (waits a) = waits a
trimmed_place (throws x) = throws x

-- what a list of places gives, with its trees trimmed
abbrev pub trimmed_places : Places → Places
trimmed_places (all_made ns) = all_made (trimmed_in ns)
trimmed_places (one_waits a) = one_waits a
trimmed_places (one_throws x) = one_throws x
