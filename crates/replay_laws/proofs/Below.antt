-- What is below a host that is gone is gone.
use Rattle.std.specs.Prelude.{◌≡◌, ℕ, suc, ◌+◌, ◌≤◌, Bool, true, false, cond, List, [], ◌∷◌, Option, Some, None, map, nat_eq, option_and_then, slice_get, refl}
use Rattle.std.specs.List.{AllByRecursion}
use Rattle.std.specs.Option.{option_flatten}
use Rattle.std.proofs.Common.{arith, sym, ap, subst}
use Rattle.std.proofs.lemmas.Bool.Decides.{Decides-eqb}
use Rattle.rx_susp.specs.declared.boundary.BoundaryState.TheVariants.{Shown, Hidden}
use Rattle.rx_elem.specs.Elements.{Element}
use Rattle.rx_elem.specs.Identity.{old_places, is_reused}
use Rattle.rx_elem.specs.Trees.{Mark, of_instance, of_host, of_boundary, of_catcher, plain, Node, node, Forest, none, vacant, child, places, host_number, is_host, elements_in}
use Rattle.rx_elem.specs.Spots.{Around, around_children}
use Rattle.rx_elem.specs.Compare.{old_nodes, node_at}
use Rattle.rx_forest.specs.Hosts.{Host}
use Rattle.host_laws.specs.Commits.{AreNumbered, AreNumbered_in}
use Rattle.host_laws.proofs.Listing.{hosts_at, hosts_in}
use Rattle.replay_laws.proofs.Counts.{is_number, one_if, times, times_in}
use Rattle.replay_laws.proofs.Growing.{MarkGrows, Grows, Grows_in}
use Rattle.replay_laws.proofs.Losing.{gone_times, lost, lost_in}
use Rattle.host_laws.proofs.Owned.{all_at, all_child}
use Rattle.replay_laws.proofs.Listed.{all_numbered}
use Rattle.replay_laws.proofs.OldLists.{IfOld, EachOld, EachIn, each_old, reused_old, StandBeside, stand_beside}

pub each_numbered : (os : Forest) → AreNumbered_in os → EachIn AreNumbered os
each_numbered none h = tt
each_numbered (vacant os) h = each_numbered os h
each_numbered (child o os) h = (h.0, each_numbered os h.1)

module _ (next : ℕ) (k gone : ℕ → Bool) (stays : (n : ℕ) → k n ≡ true → gone n ≡ false) where
  -- a host whose parent is gone is gone
  abbrev GoesToo : Host → Type 0
  GoesToo h = gone h.parent ≡ true → k h.number ≡ false

  abbrev AllGo : Around → Node → Type 0
  AllGo a o = AllByRecursion GoesToo (hosts_at a o)

  weaker : (hs : List Host) → AllByRecursion (λ h. k h.number ≡ false) hs → AllByRecursion GoesToo hs
  weaker [] h = tt
  weaker (x ∷ hs) h = ((λ g. h.0), weaker hs h.1)

  -- the old children: those that are new ones, and those that are gone
  old_list : (a : Around) (whole : Forest) (ps : List (Option ℕ)) → EachOld (AllGo a) (map (option_and_then (node_at whole)) ps) → (p : ℕ) (os : Forest) → AreNumbered_in os
      → ((n : ℕ) → 1 ≤ gone_times n ps p os → k n ≡ false) → ((i q : ℕ) → q ≡ p + i → node_at whole q ≡ option_flatten (slice_get (places os) i))
      → AllByRecursion GoesToo (hosts_in a os)
  old_list a whole ps h p none num lost at = tt
  old_list a whole ps h p (vacant os) num lost at = old_list a whole ps h (p + 1) os num lost (λ i q e. at (suc i) q (omega arith))
  old_list a whole ps h p (child o os) num lost at =
      all_child GoesToo a o os (go (is_reused ps p) refl)
      (old_list a whole ps h (p + 1) os num.1 (λ n l. lost n (omega arith)) (λ i q e. at (suc i) q (omega arith)))
    where
      go : (b : Bool) → is_reused ps p ≡ b → AllGo a o
      go true e = subst (IfOld (AllGo a)) (at 0 p (omega arith)) (reused_old (AllGo a) whole ps p h e)
      go false e =
          weaker (hosts_at a o) (all_numbered k a o num.0 (λ n l.
          let here : cond (is_reused ps p) 0 (times n o) ≡ times n o = ap (λ b. cond b 0 (times n o)) e in
          lost n (omega arith)))

  inner : (a : Around) → gone a.host ≡ false → (e e' : Element) (m m' : Mark) (os gs : Forest) → MarkGrows next e (host_number m) (Some (node e' m' os gs)) (is_host m)
      → ((n : ℕ) → 1 ≤ one_if (is_number n (host_number m)) → k n ≡ true) → gone (around_children a m').host ≡ false
  inner a h e e' m (of_instance i) os gs g there = h
  inner a h e e' m (of_boundary Shown) os gs g there = h
  inner a h e e' m (of_boundary (Hidden w)) os gs g there = h
  inner a h e e' m (of_catcher z) os gs g there = h
  inner a h e e' m plain os gs g there = h
  inner a h e e' m (of_host None) os gs g there = h
  inner a h e e' m (of_host (Some n')) os gs g there = go (is_host m) g
    where
      go : (b : Bool) → MarkGrows next e (host_number m) (Some (node e' (of_host (Some n')) os gs)) b → gone n' ≡ false
      go true g =
          let same : n' ≡ g.2 = cc in
          let number : host_number m ≡ Some n' = rw same g.3 in
          let self : nat_eq n' n' ≡ true = (Decides-eqb n' n').1 refl in
          let own : one_if (is_number n' (host_number m)) ≡ 1 = rw number (ap one_if self) in
          stays n' (there n' (omega arith))
      go false g = absurd (cc)

  mutual
    pub below_at : (a : Around) → gone a.host ≡ false → (o x : Node) → Grows next (Some o) x → AreNumbered o → ((n : ℕ) → 1 ≤ times n x → k n ≡ true)
        → ((n : ℕ) → 1 ≤ lost n (Some o) x → k n ≡ false) → AllGo a o
    below_at a h (node e' m' os gs) (node e m ns fs) g num there lost =
        all_at GoesToo a e' m' os gs num.0 (λ n c is con l. absurd (cc (h, l)))
        (old_list (around_children a m') os (old_places (elements_in os) (elements_in ns))
        (below_in (around_children a m') (inner a h e e' m m' os gs g.0 (λ n l. there n (omega arith))) (old_nodes os (elements_in ns)) ns (stand_beside os ns) g.1
        (each_old AreNumbered os (each_numbered os num.1) (old_places (elements_in os) (elements_in ns))) (λ n l. there n (omega arith)) (λ n l. lost n (omega arith)))
        0 os num.1 (λ n l. lost n (omega arith)) (λ i q e. let same : q ≡ i = omega arith in ap (node_at os) same))
        (old_list a gs (old_places (elements_in gs) (elements_in fs))
        (below_in a h (old_nodes gs (elements_in fs)) fs (stand_beside gs fs) g.2
        (each_old AreNumbered gs (each_numbered gs num.2) (old_places (elements_in gs) (elements_in fs))) (λ n l. there n (omega arith)) (λ n l. lost n (omega arith)))
        0 gs num.2 (λ n l. lost n (omega arith)) (λ i q e. let same : q ≡ i = omega arith in ap (node_at gs) same))

    below_in : (a : Around) → gone a.host ≡ false → (os : List (Option Node)) (ns : Forest) → StandBeside os ns → Grows_in next os ns → EachOld AreNumbered os
        → ((n : ℕ) → 1 ≤ times_in n ns → k n ≡ true) → ((n : ℕ) → 1 ≤ lost_in n os ns → k n ≡ false) → EachOld (AllGo a) os
    below_in a h os none s g num there lost = subst (EachOld (AllGo a)) (sym s) tt
    below_in a h [] (vacant ns) s g num there lost = tt
    below_in a h (o ∷ os) (vacant ns) s g num there lost = (subst (IfOld (AllGo a)) (sym s.0) tt, below_in a h os ns s.1 g num.1 there lost)
    below_in a h [] (child x ns) s g num there lost = tt
    below_in a h (None ∷ os) (child x ns) s g num there lost =
        (tt, below_in a h os ns s g.1 num.1 (λ n l. there n (omega arith)) (λ n l. lost n (omega arith)))
    below_in a h (Some o ∷ os) (child x ns) s g num there lost = (
      below_at a h o x g.0 num.0 (λ n l. there n (omega arith)) (λ n l. lost n (omega arith)),
      below_in a h os ns s g.1 num.1 (λ n l. there n (omega arith)) (λ n l. lost n (omega arith)),
    )
