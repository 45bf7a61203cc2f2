-- Hosts in a tree that is made anew, by placing each of them.
use Rattle.std.proofs.Common.{◌≡◌, ℕ, Bool, true, false, cond, List, [], ◌∷◌, Option, Some, map, refl, sym, ap, subst, ◌∙◌}
use Rattle.std.specs.Prelude.{filter, nat_eq, ◌||◌}
use Rattle.std.specs.List.{AllByRecursion}
use Rattle.std.proofs.lemmas.Bool.Decides.{Decides-eqb}
use Rattle.rx_elem.specs.Trees.{Node}
use Rattle.rx_elem.specs.Spots.{at_root}
use Rattle.rx_forest.specs.declared.op.HostOp.{HostOp}
use Rattle.rx_forest.specs.Forests.{HostForest, CanBeReplayed, Replays, children_in, forest_of}
use Rattle.rx_forest.specs.Hosts.{Content, Host, has_host, hosts, host_numbered}
use Rattle.rx_forest.specs.Hosts as content
use Rattle.rx_forest.specs.HostOps.{bare, is_placed, ops_between}
use Rattle.host_laws.specs.Commits.{IsCommit}
use Rattle.host_laws.specs.Related.{AreAlike, AreDistinct, AreRelated, KeepKinds, old_content, stands}
use Rattle.host_laws.proofs.Between.{between_replays}
use Rattle.host_laws.proofs.Leaves.{parents_hold_at}
use Rattle.host_laws.proofs.OneResult.{replays_once}
use Rattle.host_laws.proofs.Owned.{each_own}
use Rattle.host_laws.proofs.Parents.{good_at}
use Rattle.host_laws.proofs.Replayable.{operations_made}
use Rattle.rx_report.specs.TreeOrder.{AreInTreeOrder, nothing}
use Rattle.rx_mounts.specs.Committed.{AreCommitted, none_yet, committed}

-- the numbers of hosts
abbrev pub numbers : List Host → List ℕ
numbers hs = map (λ h. h.number) hs

or-true : (b : Bool) → b || true ≡ true
or-true true = refl
or-true false = refl

-- hosts that are placed are so with one number more
one_more : (n : ℕ) (placed : List ℕ) (hs : List Host) → AllByRecursion (λ h. is_placed placed h.number ≡ true) hs
    → AllByRecursion (λ h. is_placed (n ∷ placed) h.number ≡ true) hs
one_more n placed [] a = tt
one_more n placed (h ∷ hs) a = (ap (λ b. nat_eq h.number n || b) a.0 ∙ or-true (nat_eq h.number n), one_more n placed hs a.1)

-- each host of a list has its number among theirs
all_placed : (hs : List Host) → AllByRecursion (λ h. is_placed (numbers hs) h.number ≡ true) hs
all_placed [] = tt
all_placed (h ∷ hs) =
    let self : nat_eq h.number h.number ≡ true = (Decides-eqb h.number h.number).1 refl in
    (rw self refl, one_more h.number (numbers hs) hs (all_placed hs))

-- so none stands
none_stands : (placed : List ℕ) (q : ℕ) (hs : List Host) → AllByRecursion (λ h. is_placed placed h.number ≡ true) hs → filter (stands placed) (children_in hs q) ≡ []
none_stands placed q [] a = refl
none_stands placed q (h ∷ hs) a = go (none_stands placed q hs a.1) (nat_eq h.parent q)
  where
    go : filter (stands placed) (children_in hs q) ≡ [] → (b : Bool)
        → filter (stands placed) (map (λ g. g.number) (cond b (h ∷ filter (λ g. nat_eq g.parent q) hs) (filter (λ g. nat_eq g.parent q) hs))) ≡ []
    go rest true = rw a.0 rest
    go rest false = rest

-- a content that is like one before is like that with which a host of it is made
alike_bare : (b c : Content) → AreAlike b c → AreAlike (bare c) c
alike_bare (content.tag m old) (content.tag name new) a = (refl, a.1)
alike_bare (content.tag m old) (content.letters t) a = absurd a
alike_bare (content.letters s) (content.tag name new) a = absurd a
alike_bare (content.letters s) (content.letters t) a = tt

new_kinds : (old hs : List Host) → KeepKinds old hs → KeepKinds [] hs
new_kinds old [] k = tt
new_kinds old (h ∷ hs) k = (alike_bare (old_content (host_numbered old h.number) h) h.content k.0, new_kinds old hs k.1)

-- hosts that a commit makes can be made of none
first_related : (old hs : List Host) → AreDistinct hs → KeepKinds old hs → AreRelated [] hs (numbers hs)
first_related old hs distinct kinds = record {
  distinct_old = tt;
  distinct_new = distinct;
  parents_first = tt;
  gone_below = tt;
  kinds = new_kinds old hs kinds;
  order = λ q. sym (none_stands (numbers hs) q hs (all_placed hs));
}

related_anew : (hs : List Host) → AreCommitted hs → AreRelated [] hs (numbers hs)
related_anew hs (none_yet is) = subst (λ xs. AreRelated [] xs (numbers xs)) (sym is) (first_related [] [] tt tt)
related_anew hs (committed old new c leaves is) =
    subst (λ xs. AreRelated [] xs (numbers xs)) (sym is) (first_related (hosts old) (hosts (Some new)) c.new_sound.distinct c.kinds)

made_anew : (hs : List Host) → AreCommitted hs → CanBeReplayed (forest_of []) (ops_between [] hs (numbers hs))
made_anew hs (none_yet is) =
    subst (λ xs. CanBeReplayed (forest_of []) (ops_between [] xs (numbers xs))) (sym is) (operations_made [] [] [] (first_related [] [] tt tt) tt tt refl)
made_anew hs (committed old new c leaves is) =
    let all = hosts (Some new) in
    subst (λ xs. CanBeReplayed (forest_of []) (ops_between [] xs (numbers xs))) (sym is)
    (operations_made [] all (numbers all) (first_related (hosts old) all c.new_sound.distinct c.kinds)
    (good_at at_root new c.new_sound.numbered c.new_sound.distinct c.new_sound.above).0
    (parents_hold_at all at_root new refl c.new_sound.numbered leaves (each_own all c.new_sound.distinct)) c.new_sound.above)

-- the operations that place each of them can be made in a tree without hosts
pub made_here : (hs : List Host) (f : HostForest) (ops : List HostOp) (ns : List ℕ) → AreCommitted hs → f ≡ forest_of [] → ops ≡ ops_between [] hs ns → ns ≡ numbers hs
    → CanBeReplayed f ops
made_here hs f ops ns k e is are =
    subst (λ (g : HostForest). CanBeReplayed g ops) (sym e)
    (subst (CanBeReplayed (forest_of [])) (sym (is ∙ ap (ops_between [] hs) are)) (made_anew hs k))

-- and they make the tree of all
pub forest_here : (hs : List Host) (f g : HostForest) (ops : List HostOp) (ns : List ℕ) → AreCommitted hs → f ≡ forest_of [] → ops ≡ ops_between [] hs ns → ns ≡ numbers hs
    → Replays f ops g → g ≡ forest_of hs
forest_here hs f g ops ns k e is are r =
    replays_once (forest_of []) (ops_between [] hs (numbers hs)) g (forest_of hs)
    (subst (λ (xs : List HostOp). Replays (forest_of []) xs g) (is ∙ ap (ops_between [] hs) are) (subst (λ (h : HostForest). Replays h ops g) e r))
    (between_replays [] hs (numbers hs) (related_anew hs k))

-- they are in tree order
pub in_order : ((old : Option Node) (new : Node) → IsCommit old new → AreInTreeOrder (hosts (Some new))) → (hs : List Host) → AreCommitted hs → AreInTreeOrder hs
in_order each hs (none_yet is) = subst AreInTreeOrder (sym is) (record { order = nothing; distinct = tt; above = refl; by_name = tt })
in_order each hs (committed old new c leaves is) = subst AreInTreeOrder (sym is) (each old new c)
