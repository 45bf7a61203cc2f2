-- What is read out of a trimmed tree: the same nodes stand in the same order, each trimmed, with the same around them.
use Rattle.std.specs.Prelude.{◌≡◌, Option, None, Some, length, map, filter, filter_map}
use Rattle.std.proofs.Common.{refl, ap, ◌∙◌}
use Rattle.std.proofs.lemmas.List.{map-append, length-map}
use Rattle.rx_elem.specs.Trees.{mark_of, Node, node, Forest, none, vacant, child}
use Rattle.rx_elem.specs.Spots.{Around, at_root, around_children, Spot, spots, spots_in, tree_spots, spot_mark, mounted_in, mounted, hidden_spots}
use Rattle.rx_elem.specs.Trees.{awaits_in, is_hidden}
use Rattle.rx_forest.specs.Hosts.{host_at, hosts}
use Rattle.rx_meaning.specs.Outcome.{visible_awaits}
use Rattle.end_laws.specs.Trimmed.{vacant_before, trimmed, trimmed_in, trimmed_if}
use Rattle.end_laws.proofs.Lists.{map_same, filter_same, filter_map_same}

-- a spot with its node trimmed
abbrev pub trimmed_spot : Spot → Spot
trimmed_spot s = record { at = trimmed s.at; around = s.around }

spots_before : (a : Around) (ns : Forest) → spots_in a (vacant_before ns) ≡ spots_in a ns
spots_before a none = refl
spots_before a (vacant ns) = refl
spots_before a (child n ns) = refl

mutual
  pub spots_same : (a : Around) (n : Node) → spots a (trimmed n) ≡ map trimmed_spot (spots a n)
  spots_same a (node e m ns fs) =
      rw (spots_in_same (around_children a m) ns, spots_in_same a fs, map-append trimmed_spot (spots_in (around_children a m) ns) (spots_in a fs)) refl

  pub spots_in_same : (a : Around) (ns : Forest) → spots_in a (trimmed_in ns) ≡ map trimmed_spot (spots_in a ns)
  spots_in_same a none = refl
  spots_in_same a (vacant ns) = spots_before a (trimmed_in ns) ∙ spots_in_same a ns
  spots_in_same a (child n ns) =
      rw (spots_same a n, spots_in_same a ns, map-append trimmed_spot (spots a n) (spots_in a ns)) refl

pub tree_spots_same : (t : Option Node) → tree_spots (trimmed_if t) ≡ map trimmed_spot (tree_spots t)
tree_spots_same None = refl
tree_spots_same (Some n) = spots_same at_root n

-- What is read of each spot

pub mark_same : (n : Node) → mark_of (trimmed n) ≡ mark_of n
mark_same (node e m ns fs) = refl

host_same : (a : Around) (n : Node) → host_at (record { at = trimmed n; around = a }) ≡ host_at (record { at = n; around = a })
host_same a (node e m ns fs) = refl

-- What is read of all

pub mounted_same : (t : Option Node) → mounted (trimmed_if t) ≡ mounted t
mounted_same t =
    ap (filter_map mounted_in) (tree_spots_same t)
    ∙ filter_map_same trimmed_spot mounted_in (λ s. rw (mark_same s.at) refl) (tree_spots t)

pub hosts_same : (t : Option Node) → hosts (trimmed_if t) ≡ hosts t
hosts_same t =
    ap (filter_map host_at) (tree_spots_same t) ∙ filter_map_same trimmed_spot host_at (λ s. host_same s.around s.at) (tree_spots t)

pub count_same : (t : Option Node) → length (tree_spots (trimmed_if t)) ≡ length (tree_spots t)
count_same t = ap length (tree_spots_same t) ∙ length-map (tree_spots t) trimmed_spot

hidden_same : (t : Option Node) → hidden_spots (trimmed_if t) ≡ map trimmed_spot (hidden_spots t)
hidden_same t =
    ap (filter (λ s. is_hidden (spot_mark s))) (tree_spots_same t)
    ∙ filter_same trimmed_spot (λ s. is_hidden (spot_mark s)) (λ s. rw (mark_same s.at) refl) (tree_spots t)

pub hidden_count_same : (t : Option Node) → length (hidden_spots (trimmed_if t)) ≡ length (hidden_spots t)
hidden_count_same t = ap length (hidden_same t) ∙ length-map (hidden_spots t) trimmed_spot

pub visible_awaits_same : (t : Option Node) → visible_awaits (trimmed_if t) ≡ visible_awaits t
visible_awaits_same t =
    ap (λ l. map (λ s. awaits_in (spot_mark s)) (filter (λ s. s.around.visible) l)) (hidden_same t)
    ∙ (ap (map (λ s. awaits_in (spot_mark s))) (filter_same trimmed_spot (λ s. s.around.visible) (λ s. refl) (hidden_spots t))
    ∙ map_same trimmed_spot (λ s. awaits_in (spot_mark s)) (λ s. rw (mark_same s.at) refl) (filter (λ s. s.around.visible) (hidden_spots t)))
