-- Hosts that go on keep their kinds.
use Rattle.std.specs.Prelude.{◌≡◌, ℕ, ◌≤◌, true, List, Option, Some, None, refl}
use Rattle.std.specs.List.{AllByRecursion}
use Rattle.std.proofs.Common.{ap, subst, ◌∙◌}
use Rattle.std.proofs.lemmas.Option.{same_Some}
use Rattle.rx_elem.specs.Elements.{Element}
use Rattle.rx_elem.specs.Elements as elements
use Rattle.rx_elem.specs.Identity.{old_places}
use Rattle.rx_elem.specs.Trees.{Mark, of_instance, of_host, of_boundary, of_catcher, plain, Node, node, Forest, none, vacant, child, host_number, is_host, elements_in, children_if, fallback_if}
use Rattle.rx_elem.specs.Spots.{Around, around_children}
use Rattle.rx_elem.specs.Compare.{old_nodes}
use Rattle.rx_forest.specs.Hosts.{Host, Content, content_of, host_as, host_numbered}
use Rattle.rx_forest.specs.HostOps.{bare}
use Rattle.host_laws.specs.Related.{AreAlike, old_content}
use Rattle.host_laws.specs.Commits.{HasNumber, AreNumbered, AreNumbered_in}
use Rattle.host_laws.proofs.Listing.{hosts_at, hosts_in}
use Rattle.replay_laws.proofs.Growing.{first, rest, MarkGrows, Grows, Grows_in}
use Rattle.host_laws.proofs.Owned.{IsOwn, all_at, all_child, parts_at, parts_child}
use Rattle.replay_laws.proofs.OldLists.{IfOld, EachOld, EachIn, each_old, first_each, rest_each}
use Rattle.replay_laws.proofs.Fine.{AttrsOwn, IsFine, AllFine, alike}

-- a new host begins bare
bare_alike : (e : Element) (c : Content) → content_of e ≡ Some c → AttrsOwn e → AreAlike (bare c) c
bare_alike elements.null c is own = absurd (cc)
bare_alike (elements.text t) c is own = subst (λ c. AreAlike (bare c) c) (same_Some _ _ is) tt
bare_alike (elements.host n k attrs es) c is own = subst (λ c. AreAlike (bare c) c) (same_Some _ _ is) (refl, own)
bare_alike (elements.comp n k ps es) c is own = absurd (cc)
bare_alike (elements.list marked es) c is own = absurd (cc)
bare_alike (elements.boundary k f es) c is own = absurd (cc)
bare_alike (elements.catcher k f es) c is own = absurd (cc)
bare_alike (elements.provider n k x es) c is own = absurd (cc)

-- a host with this number
the_host : (m : Mark) (n : ℕ) → is_host m ≡ true → host_number m ≡ Some n → m ≡ of_host (Some n)
the_host (of_instance i) n h k = absurd (cc)
the_host (of_boundary s) n h k = absurd (cc)
the_host (of_catcher z) n h k = absurd (cc)
the_host plain n h k = absurd (cc)
the_host (of_host o) n h k = ap of_host k

content_there : (e : Element) (m : Mark) (n : ℕ) → m ≡ of_host (Some n) → HasNumber e m → (c : Content) × (content_of e ≡ Some c)
content_there e m n is h = subst (HasNumber e) is h

module _ (next : ℕ) (all : List Host) (later : (n : ℕ) → next ≤ n → host_numbered all n ≡ None) where
  -- a host is of the kind that it was
  abbrev KeepsKind : Host → Type 0
  KeepsKind h = AreAlike (old_content (host_numbered all h.number) h) h.content

  -- the hosts of an old node are those of their numbers
  abbrev Found : Node → Type 0
  Found o = AreNumbered o × (a : Around) × AllByRecursion (IsOwn all) (hosts_at a o)

  found_in : (a : Around) (os : Forest) → AreNumbered_in os → AllByRecursion (IsOwn all) (hosts_in a os) → EachIn Found os
  found_in a none k h = tt
  found_in a (vacant os) k h = found_in a os k h
  found_in a (child o os) k h = let parts = parts_child (IsOwn all) a o os h in ((k.0, a, parts.0), found_in a os k.1 parts.1)

  found_children : (o : Option Node) → IfOld Found o → EachIn Found (children_if o)
  found_children None h = tt
  found_children (Some (node e m os gs)) h =
      let parts = parts_at (IsOwn all) h.1 e m os gs h.0.0 h.2 in found_in (around_children h.1 m) os h.0.1 parts.1

  found_fallback : (o : Option Node) → IfOld Found o → EachIn Found (fallback_if o)
  found_fallback None h = tt
  found_fallback (Some (node e m os gs)) h =
      let parts = parts_at (IsOwn all) h.1 e m os gs h.0.0 h.2 in found_in h.1 gs h.0.2 parts.2

  own_kind : (o : Option Node) → IfOld Found o → (e : Element) (n : ℕ) (c : Content) → MarkGrows next e (Some n) o true → content_of e ≡ Some c → AttrsOwn e
      → (b : Around) → KeepsKind (host_as b n c)
  own_kind None f e n c g is own b = rw (later n (g n refl)) (bare_alike e c is own)
  own_kind (Some (node e' m' os gs)) f e n c g is own b =
      let same : g.2 ≡ n = cc in
      let mark : m' ≡ of_host (Some n) = the_host m' n g.0 (g.4 ∙ ap Some same) in
      let was = content_there e' m' n mark f.0.0 in
      let there : host_numbered all n ≡ Some (host_as f.1 n was.0) = (parts_at (IsOwn all) f.1 e' m' os gs f.0.0 f.2).0 n was.0 mark was.1 in
      rw there (alike e e' c was.0 g.1 is was.1 own)

  mutual
    pub kinds_at : (o : Option Node) (b : Around) (x : Node) → Grows next o x → AreNumbered x → IsFine x → IfOld Found o → AllByRecursion KeepsKind (hosts_at b x)
    kinds_at o b (node e m ns fs) g num fine f =
        all_at KeepsKind b e m ns fs num.0
        (λ n c mark is. own_kind o f e n c (subst (λ m. MarkGrows next e (host_number m) o (is_host m)) mark g.0) is fine.2 b)
        (kinds_in (old_nodes (children_if o) (elements_in ns)) (around_children b m) ns g.1 num.1 fine.3
        (each_old Found (children_if o) (found_children o f) (old_places (elements_in (children_if o)) (elements_in ns))))
        (kinds_in (old_nodes (fallback_if o) (elements_in fs)) b fs g.2 num.2 fine.4
        (each_old Found (fallback_if o) (found_fallback o f) (old_places (elements_in (fallback_if o)) (elements_in fs))))

    kinds_in : (os : List (Option Node)) (b : Around) (ns : Forest) → Grows_in next os ns → AreNumbered_in ns → AllFine ns → EachOld Found os → AllByRecursion KeepsKind (hosts_in b ns)
    kinds_in os b none g num fine f = tt
    kinds_in os b (vacant ns) g num fine f = kinds_in (rest os) b ns g num fine (rest_each Found os f)
    kinds_in os b (child x ns) g num fine f =
        all_child KeepsKind b x ns (kinds_at (first os) b x g.0 num.0 fine.0 (first_each Found os f))
        (kinds_in (rest os) b ns g.1 num.1 fine.1 (rest_each Found os f))
