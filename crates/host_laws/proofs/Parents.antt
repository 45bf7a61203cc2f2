-- In the listing of a tree each host's parent stands before it.
use Rattle.std.specs.Prelude.{◌≡◌, ℕ, Bool, true, false, ◌||◌, ◌⊎◌, List, [], ◌∷◌, ◌++◌, Some, None, filter_map, nat_eq, refl}
use Rattle.std.specs.List.{AllByRecursion}
use Rattle.std.proofs.Common.{sym, ◌∙◌, ap, subst, inl, inr}
use Rattle.std.proofs.lemmas.Bool.Decides.{Decides-eqb}
use Rattle.std.proofs.lemmas.List.Elements.{filter_map-append}
use Rattle.host_laws.specs.Commits.{AreNumbered, AreNumbered_in}
use Rattle.host_laws.specs.Related.{AreDistinct, ParentsFirst}
use Rattle.rx_elem.specs.Spots.{Around, around_children, spots_in}
use Rattle.rx_susp.specs.declared.boundary.BoundaryState.TheVariants.{Shown, Hidden}
use Rattle.rx_elem.specs.Trees.{of_instance, of_host, of_boundary, of_catcher, plain, Node, node, Forest, none, vacant, child}
use Rattle.rx_forest.specs.Hosts.{Host, host_at, host_as, has_host}
use Rattle.host_laws.proofs.Placing.{neither}
use Rattle.host_laws.proofs.Listing.{hosts_at, hosts_in, in-child, host_first, has_host-append, distinct-append, split_hosts}

-- the parents of hosts are one number or among some hosts
abbrev pub Within : ℕ → List Host → List Host → Type 0
Within p total hs = AllByRecursion (λ h. (h.parent ≡ p) ⊎ (has_host total h.parent ≡ true)) hs

Within-append : (p : ℕ) (total xs ys : List Host) → Within p total xs → Within p total ys → Within p total (xs ++ ys)
Within-append p total [] ys a b = b
Within-append p total (x ∷ xs) ys a b = (a.0, Within-append p total xs ys a.1 b)

-- more hosts, and another number that is among them
Within-more : (p q : ℕ) (total more hs : List Host) → ((q ≡ p) ⊎ (has_host more q ≡ true)) → ((n : ℕ) → has_host total n ≡ true → has_host more n ≡ true)
    → Within q total hs → Within p more hs
Within-more p q total more [] e m w = tt
Within-more p q total more (h ∷ hs) e m w = (first e w.0, Within-more p q total more hs e m w.1)
  where
    first : ((q ≡ p) ⊎ (has_host more q ≡ true)) → ((h.parent ≡ q) ⊎ (has_host total h.parent ≡ true)) → (h.parent ≡ p) ⊎ (has_host more h.parent ≡ true)
    first (inl e) (inl f) = inl (f ∙ e)
    first (inr e) (inl f) = inr (ap (has_host more) f ∙ e)
    first e (inr f) = inr (m h.parent f)

first-append : (p : ℕ) (xs ys : List Host) → ParentsFirst xs → ParentsFirst ys → Within p xs xs → has_host ys p ≡ false
    → ((q : ℕ) → has_host xs q ≡ true → has_host ys q ≡ false) → ParentsFirst (xs ++ ys)
first-append p xs ys f g w o apart = go xs f (outside xs w)
  where
    outside : (zs : List Host) → Within p xs zs → AllByRecursion (λ h. has_host ys h.parent ≡ false) zs
    outside [] w = tt
    outside (z ∷ zs) w = (elim (w.0) [ inl e ↦ ap (has_host ys) e ∙ o | inr e ↦ apart z.parent e ], outside zs w.1)

    go : (zs : List Host) → ParentsFirst zs → AllByRecursion (λ h. has_host ys h.parent ≡ false) zs → ParentsFirst (zs ++ ys)
    go [] f a = g
    go (z ∷ zs) f a = (has_host-append (z ∷ zs) ys z.parent ∙ rw (f.0, a.0) refl, go zs f.1 a.1)

or_left : (a b : Bool) → a ≡ true → (a || b) ≡ true
or_left true b h = refl
or_left false b h = absurd (cc)

or_right : (a b : Bool) → b ≡ true → (a || b) ≡ true
or_right true b h = refl
or_right false b h = h

abbrev pub Good : ℕ → List Host → Type 0
Good p hs = ParentsFirst hs × Within p hs hs

-- two parts, the first under p' and the second under p
good_parts : (p p' : ℕ) (xs ys : List Host) → AreDistinct (xs ++ ys) → has_host ys p' ≡ false → Good p' xs → Good p ys → ParentsFirst (xs ++ ys)
good_parts p p' xs ys d o g h = first-append p' xs ys g.0 h.0 g.1 o (distinct-append xs ys d).2

good_both : (p : ℕ) (xs ys : List Host) → AreDistinct (xs ++ ys) → has_host ys p ≡ false → Good p xs → Good p ys → Good p (xs ++ ys)
good_both p xs ys d o g h = (
  good_parts p p xs ys d o g h,
  Within-append p (xs ++ ys) xs ys
      (Within-more p p xs (xs ++ ys) xs (inl refl) (λ n k. has_host-append xs ys n ∙ or_left (has_host xs n) (has_host ys n) k) g.1)
      (Within-more p p ys (xs ++ ys) ys (inl refl) (λ n k. has_host-append xs ys n ∙ or_right (has_host xs n) (has_host ys n) k) h.1),
)

-- a host above the first part
good_host : (p n : ℕ) (h : Host) (xs ys : List Host) → h.number ≡ n → h.parent ≡ p → AreDistinct (xs ++ ys) → has_host (xs ++ ys) n ≡ false
    → has_host (h ∷ (xs ++ ys)) p ≡ false → Good n xs → Good p ys → Good p (h ∷ (xs ++ ys))
good_host p n h xs ys num par d out o g k =
    let parts : (has_host xs n ≡ false) × (has_host ys n ≡ false) = neither _ _ (sym (has_host-append xs ys n) ∙ out) in
    let own : has_host (h ∷ (xs ++ ys)) n ≡ true = ap (λ b. b || has_host (xs ++ ys) n) (ap (λ m. nat_eq m n) num ∙ (Decides-eqb n n).1 refl) in (
      (ap (has_host (h ∷ (xs ++ ys))) par ∙ o, good_parts p n xs ys d parts.1 g k),
      (
        inl par,
        Within-append p (h ∷ (xs ++ ys)) xs ys
            (Within-more p n xs (h ∷ (xs ++ ys)) xs (inr own) (λ m l. or_right (nat_eq h.number m) _ (has_host-append xs ys m ∙ or_left (has_host xs m) (has_host ys m) l)) g.1)
            (Within-more p p ys (h ∷ (xs ++ ys)) ys (inl refl) (λ m l. or_right (nat_eq h.number m) _ (has_host-append xs ys m ∙ or_right (has_host xs m) (has_host ys m) l)) k.1),
      ),
    )

abbrev below : Around → Around → Forest → Forest → List Host
below a a' ns fs = filter_map host_at (spots_in a' ns ++ spots_in a fs)

below-append : (a a' : Around) (ns fs : Forest) → below a a' ns fs ≡ hosts_in a' ns ++ hosts_in a fs
below-append a a' ns fs = filter_map-append host_at (spots_in a' ns) (spots_in a fs)

abbrev Fine : ℕ → List Host → Type 0
Fine p hs = AreDistinct hs × (has_host hs p ≡ false)

mutual
  pub good_at : (a : Around) (n : Node) → AreNumbered n → AreDistinct (hosts_at a n) → has_host (hosts_at a n) a.host ≡ false → Good a.host (hosts_at a n)
  good_at a (node e (of_host None) ns fs) k d o = absurd k.0
  good_at a (node e (of_host (Some n)) ns fs) k d o =
      let h : Host = host_as a n k.0.0 in
      let a' : Around = around_children a (of_host (Some n)) in
      let eq = below-append a a' ns fs in
      let first : hosts_at a (node e (of_host (Some n)) ns fs) ≡ h ∷ below a a' ns fs = host_first a e n ns fs k.0.0 k.0.1 in
      let dd : AreDistinct (h ∷ below a a' ns fs) = subst AreDistinct first d in
      let oo : has_host (h ∷ below a a' ns fs) a.host ≡ false = subst (λ hs. has_host hs a.host ≡ false) first o in
      let d' : AreDistinct (hosts_in a' ns ++ hosts_in a fs) = subst AreDistinct eq dd.1 in
      let parts = distinct-append (hosts_in a' ns) (hosts_in a fs) d' in
      let outs = neither _ _ oo in
      let out = split_hosts a a' ns fs a.host outs.1 in
      let out' = split_hosts a a' ns fs n dd.0 in
      subst (Good a.host) (sym first) (subst (λ r. Good a.host (h ∷ r)) (sym eq)
      (good_host a.host n h (hosts_in a' ns) (hosts_in a fs) refl refl d' (ap (λ r. has_host r n) (sym eq) ∙ dd.0) (ap (λ r. has_host (h ∷ r) a.host) (sym eq) ∙ oo)
      (good_in a' ns k.1 parts.0 out'.0) (good_in a fs k.2 parts.1 out.1)))
  good_at a (node e (of_instance i) ns fs) k d o =
      let a' : Around = around_children a (of_instance i) in
      let eq = below-append a a' ns fs in
      let d' : AreDistinct (hosts_in a' ns ++ hosts_in a fs) = subst AreDistinct eq d in
      let parts = distinct-append (hosts_in a' ns) (hosts_in a fs) d' in
      let out = split_hosts a a' ns fs a.host o in
      subst (Good a.host) (sym eq) (good_both a.host (hosts_in a' ns) (hosts_in a fs) d' out.1 (good_in a' ns k.1 parts.0 out.0) (good_in a fs k.2 parts.1 out.1))
  good_at a (node e plain ns fs) k d o =
      let a' : Around = around_children a plain in
      let eq = below-append a a' ns fs in
      let d' : AreDistinct (hosts_in a' ns ++ hosts_in a fs) = subst AreDistinct eq d in
      let parts = distinct-append (hosts_in a' ns) (hosts_in a fs) d' in
      let out = split_hosts a a' ns fs a.host o in
      subst (Good a.host) (sym eq) (good_both a.host (hosts_in a' ns) (hosts_in a fs) d' out.1 (good_in a' ns k.1 parts.0 out.0) (good_in a fs k.2 parts.1 out.1))
  good_at a (node e (of_boundary Shown) ns fs) k d o =
      let a' : Around = around_children a (of_boundary Shown) in
      let eq = below-append a a' ns fs in
      let d' : AreDistinct (hosts_in a' ns ++ hosts_in a fs) = subst AreDistinct eq d in
      let parts = distinct-append (hosts_in a' ns) (hosts_in a fs) d' in
      let out = split_hosts a a' ns fs a.host o in
      subst (Good a.host) (sym eq) (good_both a.host (hosts_in a' ns) (hosts_in a fs) d' out.1 (good_in a' ns k.1 parts.0 out.0) (good_in a fs k.2 parts.1 out.1))
  good_at a (node e (of_boundary (Hidden z)) ns fs) k d o =
      let a' : Around = around_children a (of_boundary (Hidden z)) in
      let eq = below-append a a' ns fs in
      let d' : AreDistinct (hosts_in a' ns ++ hosts_in a fs) = subst AreDistinct eq d in
      let parts = distinct-append (hosts_in a' ns) (hosts_in a fs) d' in
      let out = split_hosts a a' ns fs a.host o in
      subst (Good a.host) (sym eq) (good_both a.host (hosts_in a' ns) (hosts_in a fs) d' out.1 (good_in a' ns k.1 parts.0 out.0) (good_in a fs k.2 parts.1 out.1))
  good_at a (node e (of_catcher z) ns fs) k d o =
      let a' : Around = around_children a (of_catcher z) in
      let eq = below-append a a' ns fs in
      let d' : AreDistinct (hosts_in a' ns ++ hosts_in a fs) = subst AreDistinct eq d in
      let parts = distinct-append (hosts_in a' ns) (hosts_in a fs) d' in
      let out = split_hosts a a' ns fs a.host o in
      subst (Good a.host) (sym eq) (good_both a.host (hosts_in a' ns) (hosts_in a fs) d' out.1 (good_in a' ns k.1 parts.0 out.0) (good_in a fs k.2 parts.1 out.1))

  pub good_in : (a : Around) (ns : Forest) → AreNumbered_in ns → AreDistinct (hosts_in a ns) → has_host (hosts_in a ns) a.host ≡ false → Good a.host (hosts_in a ns)
  good_in a none k d o = (tt, tt)
  good_in a (vacant ns) k d o = good_in a ns k d o
  good_in a (child n ns) k d o =
      let eq = in-child a n ns in
      let d' : AreDistinct (hosts_at a n ++ hosts_in a ns) = subst AreDistinct eq d in
      let parts = distinct-append (hosts_at a n) (hosts_in a ns) d' in
      let out : (has_host (hosts_at a n) a.host ≡ false) × (has_host (hosts_in a ns) a.host ≡ false) =
      neither _ _ (sym (has_host-append (hosts_at a n) (hosts_in a ns) a.host) ∙ ap (λ hs. has_host hs a.host) (sym eq) ∙ o) in
      subst (Good a.host) (sym eq) (good_both a.host (hosts_at a n) (hosts_in a ns) d' out.1 (good_at a n k.0 parts.0 out.0) (good_in a ns k.1 parts.1 out.1))
