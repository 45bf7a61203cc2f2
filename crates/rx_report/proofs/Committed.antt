-- The hosts of a committed tree are in tree order.
use Rattle.std.specs.Prelude.{◌≡◌, ℕ, false, List, [], ◌∷◌, ◌++◌, Option, Some, None, refl}
use Rattle.std.specs.List.{AllByRecursion}
use Rattle.std.proofs.Common.{sym, ◌∙◌, ap, subst, append_assoc}
use Rattle.rx_elem.specs.Elements.{Element}
use Rattle.rx_elem.specs.Elements as elements
use Rattle.rx_elem.specs.Trees.{Mark, is_host, of_instance, of_host, of_boundary, of_catcher, plain, Node, node, Forest, none, vacant}
use Rattle.rx_elem.specs.Trees as trees
use Rattle.rx_elem.specs.Spots.{Around, around_children, at_root}
use Rattle.rx_forest.specs.Hosts.{Host, Content, tag, letters, content_of, by_name, host_as, hosts, host_numbered}
use Rattle.host_laws.specs.Related.{HaveOwnNames, AreAlike, old_content}
use Rattle.host_laws.specs.Commits.{AreNumbered, AreNumbered_in, IsCommit}
use Rattle.host_laws.proofs.Listing.{hosts_at, hosts_in, in-child, host_first, other_first, same_above}
use Rattle.host_laws.proofs.Owned.{below-append, all_at, parts_at, all_child, parts_child}
use Rattle.rx_report.specs.TreeOrder.{StandBelow, nothing, child, IsByName, AreInTreeOrder}
use Rattle.rx_report.proofs.ByName.{put_by_name}

-- hosts below a number, and then more below it
both_below : (p : ℕ) (xs ys : List Host) → StandBelow p xs → StandBelow p ys → StandBelow p (xs ++ ys)
both_below _ _ ys nothing t = t
both_below p _ ys (child {below = below} {later = later} h par b l) t =
    subst (λ hs. StandBelow p (h ∷ hs)) (sym (append_assoc below later ys)) (child h par b (both_below p later ys l t))

-- what is below a node that is no host
other_below : (a : Around) (e : Element) (m : Mark) (ns fs : Forest) → is_host m ≡ false
    → StandBelow (around_children a m).host (hosts_in (around_children a m) ns) → StandBelow a.host (hosts_in a fs) → StandBelow a.host (hosts_at a (node e m ns fs))
other_below a e m ns fs h s t =
    subst (StandBelow a.host) (sym (other_first a e m ns fs h ∙ below-append a m ns fs))
    (both_below a.host (hosts_in (around_children a m) ns) (hosts_in a fs) (subst (λ p. StandBelow p (hosts_in (around_children a m) ns)) (same_above a m h) s) t)

mutual
  order_at : (a : Around) (n : Node) → AreNumbered n → StandBelow a.host (hosts_at a n)
  order_at a (node e (of_host None) ns fs) k = absurd k.0
  order_at a (node e (of_host (Some n)) ns fs) k =
      let m : Mark = of_host (Some n) in
      subst (StandBelow a.host) (sym (host_first a e n ns fs k.0.0 k.0.1 ∙ ap (λ hs. host_as a n k.0.0 ∷ hs) (below-append a m ns fs)))
      (child (host_as a n k.0.0) refl (order_in (around_children a m) ns k.1) (order_in a fs k.2))
  order_at a (node e (of_instance i) ns fs) k = other_below a e (of_instance i) ns fs refl (order_in (around_children a (of_instance i)) ns k.1) (order_in a fs k.2)
  order_at a (node e (of_boundary s) ns fs) k = other_below a e (of_boundary s) ns fs refl (order_in (around_children a (of_boundary s)) ns k.1) (order_in a fs k.2)
  order_at a (node e (of_catcher c) ns fs) k = other_below a e (of_catcher c) ns fs refl (order_in (around_children a (of_catcher c)) ns k.1) (order_in a fs k.2)
  order_at a (node e plain ns fs) k = other_below a e plain ns fs refl (order_in (around_children a plain) ns k.1) (order_in a fs k.2)

  order_in : (a : Around) (ns : Forest) → AreNumbered_in ns → StandBelow a.host (hosts_in a ns)
  order_in a none k = nothing
  order_in a (vacant ns) k = order_in a ns k
  order_in a (trees.child n ns) k =
      subst (StandBelow a.host) (sym (in-child a n ns)) (both_below a.host (hosts_at a n) (hosts_in a ns) (order_at a n k.0) (order_in a ns k.1))

-- the attributes of a content have names of their own
abbrev OwnNames : Content → Type 0
OwnNames (tag name attrs) = HaveOwnNames attrs
OwnNames (letters t) = Unit {0}

own_content : (c d : Content) → AreAlike c d → OwnNames d
own_content (tag m old) (tag name new) a = a.1
own_content (letters s) (letters t) a = tt
own_content (tag m old) (letters t) a = tt
own_content (letters s) (tag name new) a = absurd a

content_in_order : (e : Element) (c : Content) → content_of e ≡ Some c → OwnNames c → IsByName c
content_in_order elements.null c is own = absurd (cc)
content_in_order (elements.text t) c is own = let same : letters t ≡ c = cc in subst IsByName same tt
content_in_order (elements.host n k attrs es) c is own =
    let same : tag n (by_name attrs) ≡ c = cc in
    subst IsByName same (put_by_name attrs (subst OwnNames (sym same) own))
content_in_order (elements.comp n k ps es) c is own = absurd (cc)
content_in_order (elements.list marked es) c is own = absurd (cc)
content_in_order (elements.boundary k f es) c is own = absurd (cc)
content_in_order (elements.catcher k f es) c is own = absurd (cc)
content_in_order (elements.provider n k x es) c is own = absurd (cc)

mutual
  named_at : (a : Around) (n : Node) → AreNumbered n → AllByRecursion (λ h. OwnNames h.content) (hosts_at a n) → AllByRecursion (λ h. IsByName h.content) (hosts_at a n)
  named_at a (node e m ns fs) k own =
      let parts = parts_at (λ h. OwnNames h.content) a e m ns fs k.0 own in
      all_at (λ h. IsByName h.content) a e m ns fs k.0 (λ n c is con. content_in_order e c con (parts.0 n c is con)) (named_in (around_children a m) ns k.1 parts.1) (named_in a fs k.2 parts.2)

  named_in : (a : Around) (ns : Forest) → AreNumbered_in ns → AllByRecursion (λ h. OwnNames h.content) (hosts_in a ns) → AllByRecursion (λ h. IsByName h.content) (hosts_in a ns)
  named_in a none k own = tt
  named_in a (vacant ns) k own = named_in a ns k own
  named_in a (trees.child n ns) k own =
      let parts = parts_child (λ h. OwnNames h.content) a n ns own in
      all_child (λ h. IsByName h.content) a n ns (named_at a n k.0 parts.0) (named_in a ns k.1 parts.1)

own_all : (old hs : List Host) → AllByRecursion (λ h. AreAlike (old_content (host_numbered old h.number) h) h.content) hs → AllByRecursion (λ h. OwnNames h.content) hs
own_all old [] a = tt
own_all old (h ∷ hs) a = (own_content (old_content (host_numbered old h.number) h) h.content a.0, own_all old hs a.1)

-- the hosts of a committed tree are in tree order
pub commit_order : (old : Option Node) (new : Node) → IsCommit old new → AreInTreeOrder (hosts (Some new))
commit_order old new c = record {
  order = order_at at_root new c.new_sound.numbered;
  distinct = c.new_sound.distinct;
  above = c.new_sound.above;
  by_name = named_at at_root new c.new_sound.numbered (own_all (hosts old) (hosts (Some new)) c.kinds);
}
