-- Nodes that a walk may pass by: no host there has a wanted parent, if neither the host above is wanted nor one of them.
use Rattle.std.proofs.Common.{◌≡◌, ℕ, Bool, true, false, ◌||◌, List, [], ◌∷◌, ◌++◌, Option, Some, None, nat_eq, map, refl, sym, ap, ◌∙◌}
use Rattle.std.specs.List.{filter_map}
use Rattle.std.proofs.lemmas.Bool.Decides.{Decides-eqb}
use Rattle.std.proofs.lemmas.List.{map-append}
use Rattle.std.proofs.lemmas.List.Elements.{filter-append, filter_map-append}
use Rattle.std.proofs.lemmas.List.Folds.{list_any-append}
use Rattle.rx_elem.specs.Elements.{Element}
use Rattle.rx_elem.specs.Trees.{Mark, of_instance, of_host, of_boundary, of_catcher, plain, Node, node, Forest, none, vacant, child, host_number}
use Rattle.rx_elem.specs.Spots.{Around, Spot, around_children, spots, spots_in, spot_mark}
use Rattle.rx_forest.specs.Forests.{is_among}
use Rattle.rx_forest.specs.Hosts.{Content, content_of, host_at}
use Rattle.host_laws.specs.Siblings.{with_parents}
use Rattle.host_laws.specs.Commits.{AreNumbered, AreNumbered_in}
use Rattle.host_laws.proofs.Listing.{same_above}
use Rattle.rx_host_list.specs.Walks.{numbers_at}

pub among-append : (ss ts : List Spot) (q : ℕ) → is_among (numbers_at (ss ++ ts)) q ≡ (is_among (numbers_at ss) q || is_among (numbers_at ts) q)
among-append ss ts q =
    ap (λ ns. is_among ns q) (filter_map-append (λ s. host_number (spot_mark s)) ss ts) ∙ list_any-append (nat_eq q) (numbers_at ss) (numbers_at ts)

or_first : (a b : Bool) → a ≡ true → (a || b) ≡ true
or_first true b h = refl
or_first false b h = absurd (cc)

or_second : (a b : Bool) → b ≡ true → (a || b) ≡ true
or_second true b h = refl
or_second false b h = h

pub among_first : (ss ts : List Spot) (q : ℕ) → is_among (numbers_at ss) q ≡ true → is_among (numbers_at (ss ++ ts)) q ≡ true
among_first ss ts q h = among-append ss ts q ∙ or_first _ _ h

pub among_second : (ss ts : List Spot) (q : ℕ) → is_among (numbers_at ts) q ≡ true → is_among (numbers_at (ss ++ ts)) q ≡ true
among_second ss ts q h = among-append ss ts q ∙ or_second (is_among (numbers_at ss) q) _ h

pub told-append : (w : ℕ → Bool) (ss ts : List Spot)
    → with_parents w (filter_map host_at (ss ++ ts)) ≡ with_parents w (filter_map host_at ss) ++ with_parents w (filter_map host_at ts)
told-append w ss ts =
    ap (with_parents w) (filter_map-append host_at ss ts) ∙ filter-append (λ h. w h.parent) (filter_map host_at ss) (filter_map host_at ts)

module _ (w : ℕ → Bool) where
  -- no number of these is wanted
  abbrev IsUnwanted : List Spot → Type 0
  IsUnwanted ss = (n : ℕ) → is_among (numbers_at ss) n ≡ true → w n ≡ false

  -- a node with an unwanted host above is not told
  own_passed : (a : Around) (e : Element) (m : Mark) (ns fs : Forest) → w a.host ≡ false
      → with_parents w (filter_map host_at (record { at = node e m ns fs; around = a } ∷ [])) ≡ []
  own_passed a e (of_instance i) ns fs out = refl
  own_passed a e (of_host None) ns fs out = refl
  own_passed a e (of_host (Some n)) ns fs out = go (content_of e) refl
    where
      go : (o : Option Content) → content_of e ≡ o → with_parents w (filter_map host_at (record { at = node e (of_host (Some n)) ns fs; around = a } ∷ [])) ≡ []
      go None q = rw q refl
      go (Some c) q = rw (q, out) refl
  own_passed a e (of_boundary b) ns fs out = refl
  own_passed a e (of_catcher c) ns fs out = refl
  own_passed a e plain ns fs out = refl

  -- the host above the children is unwanted too
  below_passed : (a : Around) (e : Element) (m : Mark) (ns fs : Forest) → w a.host ≡ false → IsUnwanted (record { at = node e m ns fs; around = a } ∷ [])
      → w ((around_children a m).host) ≡ false
  below_passed a e (of_instance i) ns fs out un = out
  below_passed a e (of_host None) ns fs out un = out
  below_passed a e (of_host (Some n)) ns fs out un = un n (rw ((Decides-eqb n n).1 refl) refl)
  below_passed a e (of_boundary b) ns fs out un = ap w (same_above a (of_boundary b) refl) ∙ out
  below_passed a e (of_catcher c) ns fs out un = out
  below_passed a e plain ns fs out un = out

  both_passed : (ss ts : List Spot) → with_parents w (filter_map host_at ss) ≡ [] → with_parents w (filter_map host_at ts) ≡ [] → with_parents w (filter_map host_at (ss ++ ts)) ≡ []
  both_passed ss ts p q = told-append w ss ts ∙ rw (p, q) refl

  mutual
    node_passed : (a : Around) (n : Node) → w a.host ≡ false → IsUnwanted (spots a n) → with_parents w (filter_map host_at (spots a n)) ≡ []
    node_passed a (node e m ns fs) out un =
        let own : List Spot = record { at = node e m ns fs; around = a } ∷ [] in
        let kids : List Spot = spots_in (around_children a m) ns in
        let behind : List Spot = spots_in a fs in
        both_passed own (kids ++ behind) (own_passed a e m ns fs out)
        (both_passed kids behind
        (list_passed (around_children a m) ns (below_passed a e m ns fs out (λ n h. un n (among_first own (kids ++ behind) n h)))
        (λ n h. un n (among_second own (kids ++ behind) n (among_first kids behind n h))))
        (list_passed a fs out (λ n h. un n (among_second own (kids ++ behind) n (among_second kids behind n h)))))

    pub list_passed : (a : Around) (ns : Forest) → w a.host ≡ false → IsUnwanted (spots_in a ns) → with_parents w (filter_map host_at (spots_in a ns)) ≡ []
    list_passed a none out un = refl
    list_passed a (vacant ns) out un = list_passed a ns out un
    list_passed a (child n ns) out un =
        both_passed (spots a n) (spots_in a ns)
        (node_passed a n out (λ q h. un q (among_first (spots a n) (spots_in a ns) q h)))
        (list_passed a ns out (λ q h. un q (among_second (spots a n) (spots_in a ns) q h)))

-- The numbers of a numbered tree are those of its hosts

abbrev AreTheirs : List Spot → Type 0
AreTheirs ss = numbers_at ss ≡ map (λ h. h.number) (filter_map host_at ss)

theirs-append : (ss ts : List Spot) → AreTheirs ss → AreTheirs ts → AreTheirs (ss ++ ts)
theirs-append ss ts p q =
    filter_map-append (λ s. host_number (spot_mark s)) ss ts
    ∙ rw (p, q) (sym (map-append (λ h. h.number) (filter_map host_at ss) (filter_map host_at ts)))
    ∙ ap (map (λ h. h.number)) (sym (filter_map-append host_at ss ts))

own_theirs : (a : Around) (e : Element) (m : Mark) (ns fs : Forest) → AreNumbered (node e m ns fs) → AreTheirs (record { at = node e m ns fs; around = a } ∷ [])
own_theirs a e (of_instance i) ns fs k = refl
own_theirs a e (of_host None) ns fs k = absurd k.0
own_theirs a e (of_host (Some n)) ns fs k = let is = k.0.1 in rw is refl
own_theirs a e (of_boundary b) ns fs k = refl
own_theirs a e (of_catcher c) ns fs k = refl
own_theirs a e plain ns fs k = refl

mutual
  pub numbers-hosts : (a : Around) (n : Node) → AreNumbered n → AreTheirs (spots a n)
  numbers-hosts a (node e m ns fs) k =
      theirs-append (record { at = node e m ns fs; around = a } ∷ []) (spots_in (around_children a m) ns ++ spots_in a fs) (own_theirs a e m ns fs k)
      (theirs-append (spots_in (around_children a m) ns) (spots_in a fs) (numbers_in-hosts (around_children a m) ns k.1) (numbers_in-hosts a fs k.2))

  numbers_in-hosts : (a : Around) (ns : Forest) → AreNumbered_in ns → AreTheirs (spots_in a ns)
  numbers_in-hosts a none k = refl
  numbers_in-hosts a (vacant ns) k = numbers_in-hosts a ns k
  numbers_in-hosts a (child n ns) k = theirs-append (spots a n) (spots_in a ns) (numbers-hosts a n k.0) (numbers_in-hosts a ns k.1)
