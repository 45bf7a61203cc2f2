-- The children that stand keep their order under each host of a tree that was rendered against an old one.
use Rattle.std.specs.Prelude.{option_and_then, option_map, ◌≡◌, ℕ, zero, suc, Bool, true, false, ◌||◌, ◌⊎◌, List, [], ◌∷◌, ◌++◌, Option, Some, None, map, filter, filter_map, slice_get, refl}
use Rattle.std.specs.List.{zip, cons_option}
use Rattle.std.specs.Option.{option_flatten}
use Rattle.std.proofs.Common.{sym, ◌∙◌, ap, subst, inl, inr}
use Rattle.std.proofs.lemmas.Bool.Decides.{Decides-eqb}
use Rattle.std.proofs.lemmas.Option.{same_Some}
use Rattle.std.proofs.lemmas.List.Elements.{filter_map-append}
use Rattle.host_laws.specs.Commits.{front_in, WasHost, first_past, rest_pasts}
use Rattle.rx_elem.specs.Compare.{Change, Past, Above, change_of, above_children, above_fallback, pasts, node_at}
use Rattle.rx_elem.specs.Elements.{Element}
use Rattle.rx_elem.specs.Identity.{old_places, moves}
use Rattle.rx_elem.specs.Spots.{Around, around_children, spots_in}
use Rattle.rx_elem.specs.Trees.{Mark, of_instance, of_host, of_boundary, of_catcher, plain, Node, node, Forest, none, vacant, child, places, elements_in, children_if, fallback_if}
use Rattle.rx_forest.specs.Forests.{children_in}
use Rattle.rx_forest.specs.Hosts.{Host, Content, content_of, host_at, host_as, has_host}
use Rattle.host_laws.proofs.Fronts.{Fair, Fair_in}
use Rattle.host_laws.proofs.Fronts.{children_same}
use Rattle.host_laws.proofs.Listing.{hosts_at, hosts_in, FrontsAre, FrontsAre_in, has_host-append, in-child}

abbrev pub OldFronts : List Host → Option Node → Type 0
OldFronts L None = Unit {0}
OldFronts L (Some o) = FrontsAre L o

abbrev AllOld : List Host → List Past → Type 0
AllOld L [] = Unit {0}
AllOld L (p ∷ ps) = OldFronts L p.old × AllOld L ps

old_place : (L : List Host) (os : Forest) → FrontsAre_in L os → (i : ℕ) → OldFronts L (option_flatten (slice_get (places os) i))
old_place L none f i = tt
old_place L (vacant os) f zero = tt
old_place L (vacant os) f (suc i) = old_place L os f i
old_place L (child o os) f zero = f.0
old_place L (child o os) f (suc i) = old_place L os f.1 i

old_pasts : (L : List Host) (os : Forest) → FrontsAre_in L os → (ps : List (Option ℕ)) (bs : List Bool)
    → AllOld L (map (λ x. let p : Past = record { old = x.0; moved = x.1 } in p) (zip (map (option_and_then (node_at os)) ps) bs))
old_pasts L os f [] bs = tt
old_pasts L os f (p ∷ ps) [] = tt
old_pasts L os f (None ∷ ps) (b ∷ bs) = (tt, old_pasts L os f ps bs)
old_pasts L os f (Some i ∷ ps) (b ∷ bs) = (old_place L os f i, old_pasts L os f ps bs)

old_primary : (L : List Host) (o : Option Node) → OldFronts L o → FrontsAre_in L (children_if o)
old_primary L None f = tt
old_primary L (Some (node e m ns fs)) f = f.1

old_fallback : (L : List Host) (o : Option Node) → OldFronts L o → FrontsAre_in L (fallback_if o)
old_fallback L None f = tt
old_fallback L (Some (node e m ns fs)) f = f.2

first_old : (L : List Host) (ps : List Past) → AllOld L ps → OldFronts L (first_past ps).old
first_old L [] f = tt
first_old L (p ∷ ps) f = f.0

rest_old : (L : List Host) (ps : List Past) → AllOld L ps → AllOld L (rest_pasts ps)
rest_old L [] f = tt
rest_old L (p ∷ ps) f = f.1

either : (a b : Bool) → (a || b) ≡ true → (a ≡ true) ⊎ (b ≡ true)
either true b h = inl refl
either false b h = inr h

in_either : (b b' : Around) (ns fs : Forest) (q : ℕ) → has_host (filter_map host_at (spots_in b' ns ++ spots_in b fs)) q ≡ true
    → (has_host (hosts_in b' ns) q ≡ true) ⊎ (has_host (hosts_in b fs) q ≡ true)
in_either b b' ns fs q h =
    either _ _ (sym (has_host-append (hosts_in b' ns) (hosts_in b fs) q)
    ∙ ap (λ hs. has_host hs q) (sym (filter_map-append host_at (spots_in b' ns) (spots_in b fs))) ∙ h)

module _ (s k w : ℕ → Bool) (newL oldL : List Host) (unheld : (n : ℕ) → w n ≡ false → children_in oldL n ≡ []) where
  -- under a host of the tree
  own_order : (a : Above) (p : Past) (e : Element) (n : ℕ) (ns fs : Forest) → Fair s k w a p (node e (of_host (Some n)) ns fs)
      → children_in newL n ≡ front_in ns → OldFronts oldL p.old → filter s (children_in newL n) ≡ filter s (filter k (children_in oldL n))
  own_order a p e n ns fs f new old =
      let same : filter s (front_in ns) ≡ filter s (filter k (front_in (children_if p.old))) =
      children_same s k w (above_children (change_of a p (node e (of_host (Some n)) ns fs))) (children_if p.old) ns f.1 f.3 in
      let num : f.0.0 ≡ n = same_Some _ _ (sym f.0.1) in
      ap (filter s) new ∙ same ∙ ap (λ xs. filter s (filter k xs)) (sym (was p.old old (subst (λ m. WasHost k w m p.old) num f.0.3)))
    where
      was : (o : Option Node) → OldFronts oldL o → WasHost k w n o → children_in oldL n ≡ front_in (children_if o)
      was None old g = unheld n g
      was (Some (node e' m' os gs)) old g = old.0 n g.1

-- a host of a part is its first one, or below that
host_either : (b : Around) (e : Element) (n : ℕ) (ns fs : Forest) (q : ℕ) → has_host (hosts_at b (node e (of_host (Some n)) ns fs)) q ≡ true
    → (n ≡ q) ⊎ (has_host (filter_map host_at (spots_in (around_children b (of_host (Some n))) ns ++ spots_in b fs)) q ≡ true)
host_either b e n ns fs q h = go (content_of e) h
  where
    go : (o : Option Content)
        → has_host (cons_option (option_map (host_as b n) o) (filter_map host_at (spots_in (around_children b (of_host (Some n))) ns ++ spots_in b fs))) q ≡ true
        → (n ≡ q) ⊎ (has_host (filter_map host_at (spots_in (around_children b (of_host (Some n))) ns ++ spots_in b fs)) q ≡ true)
    go None h = inr h
    go (Some c) h = elim (either _ _ h) [ inl i ↦ inl ((Decides-eqb n q).0 i) | inr r ↦ inr r ]

mutual
  pub order_at : (s k w : ℕ → Bool) (newL oldL : List Host) → ((n : ℕ) → w n ≡ false → children_in oldL n ≡ []) → (a : Above) (p : Past) (n : Node) → Fair s k w a p n
      → FrontsAre newL n → OldFronts oldL p.old → (b : Around) (q : ℕ) → has_host (hosts_at b n) q ≡ true
      → filter s (children_in newL q) ≡ filter s (filter k (children_in oldL q))
  order_at s k w newL oldL u a p (node e m ns fs) f new old b q h =
      go m refl f new h (λ x. elim (in_either b (around_children b m) ns fs q x) [
        | inl x ↦ orders_in s k w newL oldL u (above_children c) (pasts (children_if p.old) (elements_in ns)) ns f.3 new.1
            (old_pasts oldL (children_if p.old) (old_primary oldL p.old old) (old_places (elements_in (children_if p.old)) (elements_in ns))
            (moves (old_places (elements_in (children_if p.old)) (elements_in ns)))) (around_children b m) q x
        | inr x ↦ orders_in s k w newL oldL u (above_fallback c) (pasts (fallback_if p.old) (elements_in fs)) fs f.4 new.2
            (old_pasts oldL (fallback_if p.old) (old_fallback oldL p.old old) (old_places (elements_in (fallback_if p.old)) (elements_in fs))
            (moves (old_places (elements_in (fallback_if p.old)) (elements_in fs)))) b q x
      ])
    where
      c : Change
      c = change_of a p (node e m ns fs)

      go : (x : Mark) → m ≡ x → Fair s k w a p (node e x ns fs) → FrontsAre newL (node e x ns fs) → has_host (hosts_at b (node e x ns fs)) q ≡ true
          → (has_host (filter_map host_at (spots_in (around_children b m) ns ++ spots_in b fs)) q ≡ true
          → filter s (children_in newL q) ≡ filter s (filter k (children_in oldL q)))
          → filter s (children_in newL q) ≡ filter s (filter k (children_in oldL q))
      go (of_host None) g f new h rest = rest (subst (λ x. has_host (filter_map host_at (spots_in (around_children b x) ns ++ spots_in b fs)) q ≡ true) (sym g) h)
      go (of_host (Some n)) g f new h rest =
          elim (host_either b e n ns fs q h) [
            | inl i ↦ subst (λ q. filter s (children_in newL q) ≡ filter s (filter k (children_in oldL q))) i
                (own_order s k w newL oldL u a p e n ns fs f (new.0 n refl) old)
            | inr r ↦ rest (subst (λ x. has_host (filter_map host_at (spots_in (around_children b x) ns ++ spots_in b fs)) q ≡ true) (sym g) r)
          ]
      go (of_instance i) g f new h rest = rest (subst (λ x. has_host (filter_map host_at (spots_in (around_children b x) ns ++ spots_in b fs)) q ≡ true) (sym g) h)
      go (of_boundary t) g f new h rest = rest (subst (λ x. has_host (filter_map host_at (spots_in (around_children b x) ns ++ spots_in b fs)) q ≡ true) (sym g) h)
      go (of_catcher z) g f new h rest = rest (subst (λ x. has_host (filter_map host_at (spots_in (around_children b x) ns ++ spots_in b fs)) q ≡ true) (sym g) h)
      go plain g f new h rest = rest (subst (λ x. has_host (filter_map host_at (spots_in (around_children b x) ns ++ spots_in b fs)) q ≡ true) (sym g) h)

  pub orders_in : (s k w : ℕ → Bool) (newL oldL : List Host) → ((n : ℕ) → w n ≡ false → children_in oldL n ≡ []) → (a : Above) (ps : List Past) (ns : Forest) → Fair_in s k w a ps ns
      → FrontsAre_in newL ns → AllOld oldL ps → (b : Around) (q : ℕ) → has_host (hosts_in b ns) q ≡ true
      → filter s (children_in newL q) ≡ filter s (filter k (children_in oldL q))
  orders_in s k w newL oldL u a ps none f new old b q h = absurd (cc)
  orders_in s k w newL oldL u a ps (vacant ns) f new old b q h = orders_in s k w newL oldL u a (rest_pasts ps) ns f new (rest_old oldL ps old) b q h
  orders_in s k w newL oldL u a ps (child n ns) f new old b q h =
      elim (either _ _ (sym (has_host-append (hosts_at b n) (hosts_in b ns) q) ∙ ap (λ hs. has_host hs q) (sym (in-child b n ns)) ∙ h)) [
        | inl x ↦ order_at s k w newL oldL u a (first_past ps) n f.0 new.0 (first_old oldL ps old) b q x
        | inr x ↦ orders_in s k w newL oldL u a (rest_pasts ps) ns f.1 new.1 (rest_old oldL ps old) b q x
      ]
