-- What a place or a list of places gives, as the definitions have it.
use Rattle.rx_elem.specs.Trees.{forest}
use Rattle.rx_meaning.specs.Fresh as meaning
use Rattle.rx_fresh.specs.declared.place.Place.{Place}
use Rattle.rx_fresh.specs.declared.place.Place.TheVariants as place
use Rattle.rx_fresh.specs.declared.place.Places.{Places}
use Rattle.rx_fresh.specs.declared.place.Places.TheVariants as places

-- what a place gives
abbrev pub place_seen : Place → meaning.Place
place_seen place.Empty = meaning.empty
place_seen (place.Made n) = meaning.made n
place_seen (place.Waits a) = meaning.waits a
place_seen (place.Throws x) = meaning.throws x

-- what a list of places gives
abbrev pub places_seen : Places → meaning.Places
places_seen (places.AllMade ns) = meaning.all_made (forest ns.items)
places_seen (places.OneWaits a) = meaning.one_waits a
places_seen (places.OneThrows x) = meaning.one_throws x
