-- Where there is no instance, and where no boundary is hidden.
use Rattle.std.proofs.Common.{◌≡◌, ℕ, Bool, true, false, not, ◌&&◌, ◌||◌, [], ◌++◌, refl, sym, ◌∙◌}
use Rattle.std.proofs.lemmas.List.Elements.{filter_map-append}
use Rattle.rx_base.specs.Awaits.{awaits_where, has, nothing}
use Rattle.rx_base.specs.AwaitsLaws.{awaits_agree}
use Rattle.rx_elem.specs.Spots.{Around, around_children, mounted_at, mounted_in, spots, spots_in}
use Rattle.rx_elem.specs.Trees.{Forest, Mark, Node, awaits_in, child, is_hidden, node, none, of_boundary, of_catcher, of_host, of_instance, plain, vacant}
use Rattle.rx_node.specs.Hides.{hides_in, hides_within}
use Rattle.rx_node.specs.Mounts.{is_instance, mounts_in, mounts_within}
use Rattle.rx_susp.specs.declared.boundary.BoundaryState.TheVariants.{Shown, Hidden}
use Rattle.rx_spots.specs.Waits.{waits_from, waits_in}
use Rattle.rx_spots.proofs.Mounting.{mounted-node, own_mounted}
use Rattle.rx_spots.proofs.Waiting.{none-where}

neither : (a b : Bool) → a || b ≡ false → (a ≡ false) × (b ≡ false)
neither true b h = absurd (cc h)
neither false b h = (refl, h)

no_own : (a : Around) (m : Mark) → is_instance m ≡ false → own_mounted a m ≡ []
no_own a (of_instance i) h = absurd (cc h)
no_own a (of_host n) h = refl
no_own a (of_boundary b) h = refl
no_own a (of_catcher c) h = refl
no_own a plain h = refl

mutual
  -- no instance is found where there is none
  pub nothing_mounted : (a : Around) (n : Node) → mounts_within n ≡ false → mounted_at (spots a n) ≡ []
  nothing_mounted a (node e m ns fs) h =
      let outer = neither (is_instance m) (mounts_in ns || mounts_in fs) h in
      let inner = neither (mounts_in ns) (mounts_in fs) outer.1 in
      mounted-node a (node e m ns fs)
      ∙ (λ i. no_own a m outer.0 i ++ (nothing_mounted_in (around_children a m) ns inner.0 i ++ nothing_mounted_in a fs inner.1 i))

  nothing_mounted_in : (a : Around) (ns : Forest) → mounts_in ns ≡ false → mounted_at (spots_in a ns) ≡ []
  nothing_mounted_in a none h = refl
  nothing_mounted_in a (vacant ns) h = nothing_mounted_in a ns h
  nothing_mounted_in a (child n ns) h =
      let both = neither (mounts_within n) (mounts_in ns) h in
      filter_map-append mounted_in (spots a n) (spots_in a ns) ∙ (λ i. nothing_mounted a n both.0 i ++ nothing_mounted_in a ns both.1 i)

waits_not : (m : Mark) (r : ℕ) → is_hidden m ≡ false → has (awaits_in m) r ≡ false
waits_not (of_instance i) r h = refl
waits_not (of_host n) r h = refl
waits_not (of_boundary Shown) r h = refl
waits_not (of_boundary (Hidden a)) r h = absurd (cc h)
waits_not (of_catcher c) r h = refl
waits_not plain r h = refl

shown : (a x y : Bool) (w : Bool) → a ≡ false → w ≡ false → x ≡ false → y ≡ false → ((w || (not a && x)) || y) ≡ false
shown a x y w h k f g = rw (h, k, f, g) refl

mutual
  waits_nowhere : (n : Node) (r : ℕ) → hides_within n ≡ false → waits_from n r ≡ false
  waits_nowhere (node e m ns fs) r h =
      let outer = neither (is_hidden m) (hides_in ns || hides_in fs) h in
      let inner = neither (hides_in ns) (hides_in fs) outer.1 in
      shown (is_hidden m) (waits_in ns r) (waits_in fs r) (has (awaits_in m) r) outer.0 (waits_not m r outer.0) (waits_nowhere_in ns r inner.0) (waits_nowhere_in fs r inner.1)

  waits_nowhere_in : (ns : Forest) (r : ℕ) → hides_in ns ≡ false → waits_in ns r ≡ false
  waits_nowhere_in none r h = refl
  waits_nowhere_in (vacant ns) r h = waits_nowhere_in ns r h
  waits_nowhere_in (child n ns) r h =
      let both = neither (hides_within n) (hides_in ns) h in
      λ i. waits_nowhere n r both.0 i || waits_nowhere_in ns r both.1 i

-- nothing is waited for where no boundary is hidden
pub nothing_awaited : (n : Node) → hides_within n ≡ false → nothing ≡ awaits_where (waits_from n)
nothing_awaited n h = none-where ∙ awaits_agree _ _ (λ r small. sym (waits_nowhere n r h))
