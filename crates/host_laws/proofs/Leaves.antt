-- In a tree in which no text has children, each host's parent can have children.
use Rattle.std.specs.Prelude.{◌≡◌, ℕ, Bool, true, false, ◌||◌, List, Some, None, nat_eq, refl}
use Rattle.std.specs.List.{AllByRecursion}
use Rattle.std.proofs.Common.{sym, ap, subst}
use Rattle.std.proofs.lemmas.Option.{same_Some}
use Rattle.rx_susp.specs.declared.boundary.BoundaryState.TheVariants.{Shown, Hidden}
use Rattle.rx_elem.specs.Elements.{Element}
use Rattle.rx_elem.specs.Elements as elements
use Rattle.rx_elem.specs.Trees.{of_instance, of_host, of_boundary, of_catcher, plain, Node, node, Forest, none, vacant, child}
use Rattle.rx_elem.specs.Spots.{Around, around_children}
use Rattle.rx_forest.specs.Hosts.{Host, Content, content_of, tag, host_as, by_name}
use Rattle.host_laws.specs.Related.{can_hold, is_element}
use Rattle.host_laws.specs.Commits.{HasNone, AreNumbered, AreNumbered_in, TextsAreLeaves, TextsAreLeaves_in}
use Rattle.host_laws.proofs.Listing.{hosts_at, hosts_in}
use Rattle.host_laws.proofs.Owned.{IsOwn, all_at, all_child, parts_at, parts_child}

module _ (all : List Host) where
  -- a host's parent can have children
  abbrev Holds : Host → Type 0
  Holds h = can_hold all h.parent ≡ true

  or_right : (a b : Bool) → b ≡ true → (a || b) ≡ true
  or_right true b h = refl
  or_right false b h = h

  -- the children of an element stand under it, and a text has none
  element_holds : (a : Around) (e : Element) (n : ℕ) (c : Content) → content_of e ≡ Some c → IsOwn all (host_as a n c) → (ns : Forest) → HasNone e ns
      → (can_hold all n ≡ true → AllByRecursion Holds (hosts_in (around_children a (of_host (Some n))) ns))
      → AllByRecursion Holds (hosts_in (around_children a (of_host (Some n))) ns)
  element_holds a elements.null n c is own ns leaf below = absurd (cc)
  element_holds a (elements.text t) n c is own ns leaf below =
      subst (λ ns. AllByRecursion Holds (hosts_in (around_children a (of_host (Some n))) ns)) (sym leaf) tt
  element_holds a (elements.host name k attrs es) n c is own ns leaf below =
      let same : tag name (by_name attrs) ≡ c = same_Some _ _ is in
      let element : is_element c ≡ true = ap is_element (sym same) in
      below (or_right (nat_eq n 0) _ (rw own element))
  element_holds a (elements.comp i k ps es) n c is own ns leaf below = absurd (cc)
  element_holds a (elements.list marked es) n c is own ns leaf below = absurd (cc)
  element_holds a (elements.boundary k f es) n c is own ns leaf below = absurd (cc)
  element_holds a (elements.catcher k f es) n c is own ns leaf below = absurd (cc)
  element_holds a (elements.provider i k x es) n c is own ns leaf below = absurd (cc)

  mutual
    pub parents_hold_at : (a : Around) (x : Node) → can_hold all a.host ≡ true → AreNumbered x → TextsAreLeaves x → AllByRecursion (IsOwn all) (hosts_at a x)
        → AllByRecursion Holds (hosts_at a x)
    parents_hold_at a (node e (of_host None) ns fs) h num leaves own = absurd num.0
    parents_hold_at a (node e (of_host (Some n)) ns fs) h num leaves own =
        let parts = parts_at (IsOwn all) a e (of_host (Some n)) ns fs num.0 own in
        all_at Holds a e (of_host (Some n)) ns fs num.0 (λ m c mark is. h)
        (element_holds a e n num.0.0 num.0.1 (parts.0 n num.0.0 refl num.0.1) ns leaves.0
        (λ k. parents_hold_in (around_children a (of_host (Some n))) ns k num.1 leaves.1 parts.1))
        (parents_hold_in a fs h num.2 leaves.2 parts.2)
    parents_hold_at a (node e (of_instance i) ns fs) h num leaves own =
        let parts = parts_at (IsOwn all) a e (of_instance i) ns fs num.0 own in
        all_at Holds a e (of_instance i) ns fs num.0 (λ m c mark is. h)
        (parents_hold_in (around_children a (of_instance i)) ns h num.1 leaves.1 parts.1) (parents_hold_in a fs h num.2 leaves.2 parts.2)
    parents_hold_at a (node e (of_boundary Shown) ns fs) h num leaves own =
        let parts = parts_at (IsOwn all) a e (of_boundary Shown) ns fs num.0 own in
        all_at Holds a e (of_boundary Shown) ns fs num.0 (λ m c mark is. h)
        (parents_hold_in (around_children a (of_boundary Shown)) ns h num.1 leaves.1 parts.1) (parents_hold_in a fs h num.2 leaves.2 parts.2)
    parents_hold_at a (node e (of_boundary (Hidden w)) ns fs) h num leaves own =
        let parts = parts_at (IsOwn all) a e (of_boundary (Hidden w)) ns fs num.0 own in
        all_at Holds a e (of_boundary (Hidden w)) ns fs num.0 (λ m c mark is. h)
        (parents_hold_in (around_children a (of_boundary (Hidden w))) ns h num.1 leaves.1 parts.1) (parents_hold_in a fs h num.2 leaves.2 parts.2)
    parents_hold_at a (node e (of_catcher z) ns fs) h num leaves own =
        let parts = parts_at (IsOwn all) a e (of_catcher z) ns fs num.0 own in
        all_at Holds a e (of_catcher z) ns fs num.0 (λ m c mark is. h)
        (parents_hold_in (around_children a (of_catcher z)) ns h num.1 leaves.1 parts.1) (parents_hold_in a fs h num.2 leaves.2 parts.2)
    parents_hold_at a (node e plain ns fs) h num leaves own =
        let parts = parts_at (IsOwn all) a e plain ns fs num.0 own in
        all_at Holds a e plain ns fs num.0 (λ m c mark is. h)
        (parents_hold_in (around_children a plain) ns h num.1 leaves.1 parts.1) (parents_hold_in a fs h num.2 leaves.2 parts.2)

    parents_hold_in : (a : Around) (ns : Forest) → can_hold all a.host ≡ true → AreNumbered_in ns → TextsAreLeaves_in ns → AllByRecursion (IsOwn all) (hosts_in a ns)
        → AllByRecursion Holds (hosts_in a ns)
    parents_hold_in a none h num leaves own = tt
    parents_hold_in a (vacant ns) h num leaves own = parents_hold_in a ns h num leaves own
    parents_hold_in a (child x ns) h num leaves own =
        let parts = parts_child (IsOwn all) a x ns own in
        all_child Holds a x ns (parents_hold_at a x h num.0 leaves.0 parts.0) (parents_hold_in a ns h num.1 leaves.1 parts.1)
