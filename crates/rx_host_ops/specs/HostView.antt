-- What a host is, by its element.
use Rattle.std.specs.Prelude.{[], unwrap_or}
use Rattle.rx_elem.specs.Elements.{Element}
use Rattle.rx_forest.specs.Hosts.{Content, letters, content_of}

-- what the element of a host says; another element isn't asked
abbrev pub content_seen : Element → Content
content_seen e = unwrap_or (content_of e) (letters [])
