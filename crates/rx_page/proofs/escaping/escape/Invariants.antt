use Rattle.std.proofs.Common.{◌≡◌, take}
use Rattle.rx_page.specs.Escaping.{escaped}
use Rattle.rx_page.proofs.escaping.escape.Given as goal

abbrev pub invariant-bytes : goal.invariant-bytes
invariant-bytes l = l.html.items ≡ escaped (take l.byte-index l.text)
