-- The hosts of a list of fibers, one after the other.
use Rattle.std.proofs.Common.{◌≡◌, ℕ, zero, suc, ◌+◌, ◌-◌, List, [], ◌∷◌, ◌++◌, length, refl, sym, ap, ◌∙◌, Option, Some, None}
use Rattle.std.specs.List.{filter_map}
use Rattle.std.proofs.lemmas.List.{append_assoc, append-nil}
use Rattle.std.proofs.lemmas.List.Elements.{filter_map-append}
use Rattle.rx_elem.specs.Trees.{Mark, Node, node, Forest, forest}
use Rattle.rx_elem.specs.Spots.{Around, around_children, at_root, spots, spots_in}
use Rattle.rx_forest.specs.Hosts.{Host, host_at, hosts}
use Rattle.rx_lists.specs.Shapes.{Shape, none, fiber}
use Rattle.rx_links.specs.Drafts.{Trees}
use Rattle.rx_fiber.specs.Fibers.{Fiber, begun}
use Rattle.rx_fiber.specs.OldLists.{filled, primary_list, fallback_list}
use Rattle.rx_fiber.specs.Reading.{IsTreeOf}
use Rattle.end_laws.specs.Trimmed.{trimmed}
use Rattle.end_laws.proofs.Read.{hosts_same}
use Rattle.rx_read.specs.Lists.{list_of}
use Rattle.rx_read.specs.Places.{mark_in, node_from, node_if, own_places, places_in, fallback_behind, first_node}
use Rattle.rx_read.proofs.Links.{Linked}
use Rattle.rx_read.proofs.Listing.{node_read}
use Rattle.rx_read.proofs.Trims.{tree_places}
use Rattle.rx_host_ops.proofs.Parts.{hosts-parts, own_host}
use Rattle.rx_host_list.specs.Listed.{first_hosts, hosts_in}

-- Vacant places have no nodes

filled-spots : (a : Around) (k : ℕ) (ns : List (Option Node)) → spots_in a (forest (filled k None ++ ns)) ≡ spots_in a (forest ns)
filled-spots a zero ns = refl
filled-spots a (suc k) ns = filled-spots a k ns

own-spots : (a : Around) (o : Option Mark) (n : ℕ) (v : Fiber) (kids : Forest) (behind : Option Forest)
    → spots_in a (forest (own_places o n v kids behind)) ≡ spots_in a (forest (node_if o v kids behind ∷ []))
own-spots a None n v kids behind = refl
own-spots a (Some m) n v kids behind = filled-spots a (v.place - n) (Some (node_from v m kids behind) ∷ [])

spots-append : (a : Around) (ns ms : List (Option Node)) → spots_in a (forest (ns ++ ms)) ≡ spots_in a (forest ns) ++ spots_in a (forest ms)
spots-append a [] ms = refl
spots-append a (None ∷ ns) ms = spots-append a ns ms
spots-append a (Some x ∷ ns) ms = ap (λ ss. spots a x ++ ss) (spots-append a ns ms) ∙ sym (append_assoc (spots a x) (spots_in a (forest ns)) (spots_in a (forest ms)))

-- a list has the nodes of its first fiber, then those of the others, if from whatever place on the others have the same
pub list-spots : (a : Around) (n id : ℕ) (v : Fiber) (ks rs : Shape Fiber) → ((m : ℕ) → spots_in a (forest (places_in m rs)) ≡ spots_in a (forest (places_in 0 rs)))
    → spots_in a (forest (places_in n (fiber id v ks rs))) ≡ spots_in a (forest (first_node (fiber id v ks rs) ∷ [])) ++ spots_in a (forest (places_in 0 rs))
list-spots a n id v ks rs same =
    let kids = forest (places_in 0 ks) in
    let own = own_places (mark_in v.stage) n v kids (fallback_behind rs) in
    spots-append a own (places_in (n + length own) rs)
    ∙ ap (λ ss. ss ++ spots_in a (forest (places_in (n + length own) rs))) (own-spots a (mark_in v.stage) n v kids (fallback_behind rs))
    ∙ ap (λ ss. spots_in a (forest (first_node (fiber id v ks rs) ∷ [])) ++ ss) (same (n + length own))

-- from whatever place on, a list has the same nodes
pub any-place : (a : Around) (s : Shape Fiber) (n : ℕ) → spots_in a (forest (places_in n s)) ≡ spots_in a (forest (places_in 0 s))
any-place a none n = refl
any-place a (fiber id v ks rs) n = list-spots a n id v ks rs (any-place a rs) ∙ sym (list-spots a 0 id v ks rs (any-place a rs))

-- Fiber by fiber

-- the hosts of a list are those of its first fiber, then those of the others
hosts-step : (a : Around) (id : ℕ) (v : Fiber) (ks rs : Shape Fiber) → hosts_in a (fiber id v ks rs) ≡ first_hosts a (fiber id v ks rs) ++ hosts_in a rs
hosts-step a id v ks rs =
    ap (filter_map host_at) (list-spots a 0 id v ks rs (any-place a rs))
    ∙ filter_map-append host_at (spots_in a (forest (first_node (fiber id v ks rs) ∷ []))) (spots_in a (forest (places_in 0 rs)))

module _ (t : Trees Fiber) (i : ℕ) (v : Fiber) (c s : Option ℕ) (l : Linked t i v c s) where
  step-linked : (a : Around) → hosts_in a (list_of t (Some i)) ≡ first_hosts a (list_of t (Some i)) ++ hosts_in a (list_of t s)
  step-linked a = let e = l.list in rw e (hosts-step a i v (list_of t c) (list_of t s))

  -- with the hosts of a fiber added, those of the rest of the list are left
  pub list-step : (o : Option ℕ) (a : Around) (before after all : List Host) → o ≡ Some i → after ≡ before ++ first_hosts a (list_of t (Some i))
      → before ++ hosts_in a (list_of t o) ≡ all → after ++ hosts_in a (list_of t s) ≡ all
  list-step o a before after all is e left =
      ap (λ hs. hs ++ hosts_in a (list_of t s)) e
      ∙ append_assoc before (first_hosts a (list_of t (Some i))) (hosts_in a (list_of t s))
      ∙ ap (λ hs. before ++ hs) (sym (step-linked a))
      ∙ ap (λ q. before ++ hosts_in a (list_of t q)) (sym is)
      ∙ left

  -- a fiber that stands for no node has no hosts
  pub none-first : mark_in v.stage ≡ None → (a : Around) (before : List Host) → before ≡ before ++ first_hosts a (list_of t (Some i))
  none-first m a before = let e = l.list in rw (e, m) (sym (append-nil before))

  -- the node that a fiber stands for, by its lists
  abbrev pub node_here : Mark → Node
  node_here m = node v.element m (forest (places_in 0 (primary_list (list_of t (Some i))))) (forest (places_in 0 (fallback_list (list_of t (Some i)))))

  -- the hosts of a fiber with this mark: its own, then those of its children, then those of its fallback
  pub node-parts : (m : Mark) → v.stage ≡ begun m → (a : Around) (before own inside all : List Host) → own ≡ before ++ own_host a (node_here m)
      → inside ≡ own ++ hosts_in (around_children a m) (primary_list (list_of t (Some i))) → all ≡ inside ++ hosts_in a (fallback_list (list_of t (Some i)))
      → all ≡ before ++ first_hosts a (list_of t (Some i))
  node-parts m is a before own inside all e f g =
      hosts-parts a (node_here m) before own inside all e f g
      ∙ ap (λ ss. before ++ filter_map host_at ss) (sym (append-nil (spots a (node_here m))))
      ∙ ap (λ o. before ++ filter_map host_at (spots_in a (forest (o ∷ [])))) (node_read t i v c s l m is (node_here m) _ _ refl refl refl)

-- The whole tree

-- the hosts that the fibers of a tree tell are its hosts
pub tree-hosts : (x : Node) (s : Shape Fiber) → IsTreeOf (Some x) s → hosts_in at_root s ≡ hosts (Some x)
tree-hosts x s is =
    ap (λ ns. filter_map host_at (spots_in at_root (forest ns))) (tree_places x s is)
    ∙ ap (filter_map host_at) (append-nil (spots at_root (trimmed x)))
    ∙ hosts_same (Some x)
