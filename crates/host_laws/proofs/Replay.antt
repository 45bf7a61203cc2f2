-- The operations of a commit make the new tree of hosts of the old one.
use Rattle.std.specs.Prelude.{◌≡◌, ℕ, Bool, true, false, ◌&&◌, [], Option, Some, None, filter, nat_eq, refl}
use Rattle.std.proofs.Common.{sym, ◌∙◌, ap, subst}
use Rattle.std.proofs.lemmas.Bool.Decides.{Decides-eqb}
use Rattle.host_laws.specs.Commits.{front_if, IsSound, IfSound, from_root, is_taken, IsRendered, IsCommit, placed_by}
use Rattle.host_laws.specs.Related.{AreDistinct, AreRelated, ParentsFirst, has_gone, rest_of, stands}
use Rattle.rx_elem.specs.Compare.{above_root}
use Rattle.rx_elem.specs.Spots.{at_root}
use Rattle.rx_elem.specs.Trees.{Node}
use Rattle.rx_forest.specs.Forests.{children_in, forest_of, Replays}
use Rattle.rx_forest.specs.HostOps.{host_ops}
use Rattle.rx_forest.specs.Hosts.{hosts, has_host}
use Rattle.host_laws.proofs.Fronts.{Fair}
use Rattle.host_laws.proofs.Placing.{neither}
use Rattle.host_laws.proofs.Fronts.{node_same}
use Rattle.host_laws.proofs.Listing.{front_children, fronts_in_listing, nothing_at}
use Rattle.host_laws.proofs.Parents.{good_at}
use Rattle.host_laws.proofs.Placed.{fair_from}
use Rattle.host_laws.proofs.Ordered.{OldFronts, order_at}
use Rattle.host_laws.proofs.Between.{between_replays}

no_children : (old : Option Node) → IfSound old → (q : ℕ) → has_host (hosts old) q ≡ false → nat_eq 0 q ≡ false → children_in (hosts old) q ≡ []
no_children None s q h e = refl
no_children (Some n) s q h e = nothing_at at_root n s.numbered q h e

root_children : (old : Option Node) → IfSound old → children_in (hosts old) 0 ≡ front_if old
root_children None s = refl
root_children (Some n) s = front_children at_root n 0 s.numbered s.above

old_fronts : (old : Option Node) → IfSound old → OldFronts (hosts old) old
old_fronts None s = tt
old_fronts (Some n) s = fronts_in_listing at_root n s.numbered s.distinct s.above

no_container : (old : Option Node) → IfSound old → has_host (hosts old) 0 ≡ false
no_container None s = refl
no_container (Some n) s = s.above

-- the children that stand keep their order, under each host
pub order_holds : (old : Option Node) (new : Node) → IfSound old → IsSound new → IsRendered old new → (q : ℕ)
    → filter (stands (placed_by old new)) ((rest_of (hosts old) (hosts (Some new))).children q)
    ≡ filter (stands (placed_by old new)) (children_in (hosts (Some new)) q)
order_holds old new so sn r q = go (has_host (hosts (Some new)) q) refl (has_host (hosts old) q) refl (nat_eq 0 q) refl
  where
    s : ℕ → Bool
    s = stands (placed_by old new)

    k : ℕ → Bool
    k = has_host (hosts (Some new))

    f : Fair (stands (placed_by old new)) (has_host (hosts (Some new))) (is_taken old) above_root (from_root old) new
    f = fair_from (placed_by old new) (has_host (hosts (Some new))) (is_taken old) above_root (from_root old) new at_root r sn.numbered sn.distinct (λ q h. refl)

    unheld : (n : ℕ) → is_taken old n ≡ false → children_in (hosts old) n ≡ []
    unheld n h = let parts : (nat_eq 0 n ≡ false) × (has_host (hosts old) n ≡ false) = neither _ _ h in no_children old so n parts.1 parts.0

    at_root_same : filter s (filter k (children_in (hosts old) 0)) ≡ filter s (children_in (hosts (Some new)) 0)
    at_root_same =
        ap (λ xs. filter s (filter k xs)) (root_children old so) ∙ sym (node_same s k (is_taken old) above_root (from_root old) new f).0
        ∙ ap (filter s) (sym (root_children (Some new) sn))

    under_host : has_host (hosts (Some new)) q ≡ true → filter s (filter k (children_in (hosts old) q)) ≡ filter s (children_in (hosts (Some new)) q)
    under_host h = sym (order_at s k (is_taken old) (hosts (Some new)) (hosts old) unheld above_root (from_root old) new f
        (fronts_in_listing at_root new sn.numbered sn.distinct sn.above) (old_fronts old so) at_root q h)

    go : (a : Bool) → has_host (hosts (Some new)) q ≡ a → (b : Bool) → has_host (hosts old) q ≡ b → (c : Bool) → nat_eq 0 q ≡ c
        → filter (stands (placed_by old new)) ((rest_of (hosts old) (hosts (Some new))).children q) ≡ filter (stands (placed_by old new)) (children_in (hosts (Some new)) q)
    go true e b f c g =
        let stays : has_gone (hosts old) (hosts (Some new)) q ≡ false = rw e (and_false (has_host (hosts old) q)) in
        rw stays (under_host e)
      where
        and_false : (b : Bool) → (b && false) ≡ false
        and_false true = refl
        and_false false = refl
    go false e true f true g = let same : 0 ≡ q = (Decides-eqb 0 q).0 g in absurd (cc (ap (has_host (hosts old)) same, no_container old so))
    go false e false f true g =
        let stays : has_gone (hosts old) (hosts (Some new)) q ≡ false = rw f refl in
        rw stays (subst (λ q. filter s (filter k (children_in (hosts old) q)) ≡ filter s (children_in (hosts (Some new)) q)) ((Decides-eqb 0 q).0 g) at_root_same)
    go false e true f false g =
        let gone : has_gone (hosts old) (hosts (Some new)) q ≡ true = rw (f, e) refl in
        rw (gone, no_children (Some new) sn q e g) refl
    go false e false f false g =
        let stays : has_gone (hosts old) (hosts (Some new)) q ≡ false = rw f refl in
        rw (stays, no_children (Some new) sn q e g, no_children old so q f g) refl

distinct_hosts : (old : Option Node) → IfSound old → AreDistinct (hosts old)
distinct_hosts None s = tt
distinct_hosts (Some n) s = s.distinct

pub parents_stand_first : (old : Option Node) → IfSound old → ParentsFirst (hosts old)
parents_stand_first None s = tt
parents_stand_first (Some n) s = (good_at at_root n s.numbered s.distinct s.above).0

-- so the lists of hosts are related
pub related : (old : Option Node) (new : Node) → IsCommit old new → AreRelated (hosts old) (hosts (Some new)) (placed_by old new)
related old new c = record {
  distinct_old = distinct_hosts old c.old_sound;
  distinct_new = c.new_sound.distinct;
  parents_first = parents_stand_first old c.old_sound;
  gone_below = c.gone_below;
  kinds = c.kinds;
  order = order_holds old new c.old_sound c.new_sound c.rendered;
}

-- the operations of a commit make the new forest of the old one
pub commit_replays : (old : Option Node) (new : Node) → IsCommit old new → Replays (forest_of (hosts old)) (host_ops old new) (forest_of (hosts (Some new)))
unfolding host_ops
commit_replays old new c = between_replays (hosts old) (hosts (Some new)) (placed_by old new) (related old new c)
