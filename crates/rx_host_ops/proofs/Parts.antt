-- The hosts of a node and below, part by part.
use Rattle.std.proofs.Common.{◌≡◌, ℕ, ◌+◌, ◌<◌, true, false, List, [], ◌∷◌, ◌++◌, Option, Some, None, is_some, unwrap_or, option_map, length, get_or, drop, refl, sym, ap, ◌∙◌, append_assoc}
use Rattle.std.specs.List.{cons_option, filter_map}
use Rattle.std.proofs.lemmas.List.Elements.{filter_map-append}
use Rattle.rx_elem.specs.Elements.{Element}
use Rattle.rx_elem.specs.Trees.{Node, node, mark_of, children_of, fallback_of, forest}
use Rattle.rx_elem.specs.Spots.{Around, around_children, spots, spots_in}
use Rattle.rx_forest.specs.Hosts.{Host, Content, letters, content_of, host_as, host_at}
use Rattle.rx_host_ops.specs.HostView.{content_seen}
use Rattle.rx_host_ops.proofs.Lists.{front}

-- the host of a node, if it is one
abbrev pub own_host : Around → Node → List Host
own_host a n = cons_option (host_at (record { at = n; around = a })) []

-- the hosts of a node and below
abbrev pub hosts_from : Around → Node → List Host
hosts_from a n = filter_map host_at (spots a n)

-- the hosts of a list and below
abbrev pub hosts_below : Around → List (Option Node) → List Host
hosts_below a ns = filter_map host_at (spots_in a (forest ns))

cons_option-append : (o : Option Host) (hs : List Host) → cons_option o hs ≡ cons_option o [] ++ hs
cons_option-append None hs = refl
cons_option-append (Some h) hs = refl

-- a node comes before what is below it, and a boundary's primary before its fallback
hosts-node : (a : Around) (n : Node)
    → hosts_from a n ≡ own_host a n ++ (filter_map host_at (spots_in (around_children a (mark_of n)) (children_of n)) ++ filter_map host_at (spots_in a (fallback_of n)))
hosts-node a (node e m ns fs) =
    cons_option-append _ (filter_map host_at (spots_in (around_children a m) ns ++ spots_in a fs))
    ∙ ap (λ xs. own_host a (node e m ns fs) ++ xs) (filter_map-append host_at (spots_in (around_children a m) ns) (spots_in a fs))

-- the parts added one after another are all
pub hosts-parts : (a : Around) (n : Node) (before own inside all : List Host) → own ≡ before ++ own_host a n
    → inside ≡ own ++ filter_map host_at (spots_in (around_children a (mark_of n)) (children_of n)) → all ≡ inside ++ filter_map host_at (spots_in a (fallback_of n))
    → all ≡ before ++ hosts_from a n
hosts-parts a n before own inside all e f g =
    g
    ∙ ap (λ xs. xs ++ filter_map host_at (spots_in a (fallback_of n))) (f ∙ ap (λ xs. xs ++ filter_map host_at (spots_in (around_children a (mark_of n)) (children_of n))) e)
    ∙ append_assoc (before ++ own_host a n) (filter_map host_at (spots_in (around_children a (mark_of n)) (children_of n))) (filter_map host_at (spots_in a (fallback_of n)))
    ∙ append_assoc before (own_host a n) _
    ∙ ap (λ xs. before ++ xs) (sym (hosts-node a n))

-- one node more
pub hosts-more : (a : Around) (ns : List (Option Node)) (k : ℕ) (o : Option Node) (n : Node) (before after : List Host) → k < length ns → o ≡ get_or ns k o → o ≡ Some n
    → after ≡ before ++ hosts_from a n → after ++ hosts_below a (drop (k + 1) ns) ≡ before ++ hosts_below a (drop k ns)
hosts-more a ns k o n before after h e f g =
    ap (λ xs. xs ++ hosts_below a (drop (k + 1) ns)) g
    ∙ append_assoc before (hosts_from a n) (hosts_below a (drop (k + 1) ns))
    ∙ ap (λ xs. before ++ xs) (sym (ap (hosts_below a) (front ns k o h e) ∙ ap (λ x. hosts_below a (x ∷ drop (k + 1) ns)) f ∙ filter_map-append host_at (spots a n) (spots_in a (forest (drop (k + 1) ns)))))

-- a place with no node
pub hosts-vacant : (a : Around) (ns : List (Option Node)) (k : ℕ) (o : Option Node) → k < length ns → o ≡ get_or ns k o → o ≡ None
    → hosts_below a (drop (k + 1) ns) ≡ hosts_below a (drop k ns)
hosts-vacant a ns k o h e f = sym (ap (hosts_below a) (front ns k o h e) ∙ ap (λ x. hosts_below a (x ∷ drop (k + 1) ns)) f)

-- the host of an element that is shown
pub host-seen : (a : Around) (n : ℕ) (e : Element) → is_some (content_of e) ≡ true → Some (host_as a n (content_seen e)) ≡ option_map (host_as a n) (content_of e)
host-seen a n e h = go (content_of e) h
  where
    go : (o : Option Content) → is_some o ≡ true → Some (host_as a n (unwrap_or o (letters []))) ≡ option_map (host_as a n) o
    go None h = absurd (cc)
    go (Some c) h = refl

-- another element stands for no host
pub no-host-seen : (a : Around) (n : ℕ) (e : Element) → is_some (content_of e) ≡ false → None ≡ option_map (host_as a n) (content_of e)
no-host-seen a n e h = go (content_of e) h
  where
    go : (o : Option Content) → is_some o ≡ false → None ≡ option_map (host_as a n) o
    go None h = refl
    go (Some c) h = absurd (cc)
