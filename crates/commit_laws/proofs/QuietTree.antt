-- If nothing is hidden and each update is done, each refresh too, the committed tree is what all updates give.
use Rattle.std.specs.List.{list_any}
use Rattle.std.specs.Prelude.{Bool, List, Option, Some, [], cond, false, filter, length, nat_eq, not, refl, suc, true, zero, ℕ, ◌&&◌, ◌||◌, ◌∷◌, ◌≡◌, ◌≤◌}
use Rattle.std.proofs.Common.{ap, arith, subst, sym, ◌∙◌}
use Rattle.rx_rules.specs.Bounds.{depth_bound}
use Rattle.rx_elem.specs.Elements.{Element}
use Rattle.rx_elem.specs.Numbers.{Numbers, numbered}
use Rattle.rx_elem.specs.Spots.{kept_instances, visible_instances}
use Rattle.rx_elem.specs.Trees.{Forest, Instance, Mark, Node, child, children_if, element_of, is_caught, node, node_over, none, of_boundary, of_catcher, of_host, of_instance, plain, vacant}
use Rattle.rx_meaning.specs.Fresh.{Contexts, Places, Renders, Shape, Sight, absent, all_made, before, default_contexts, depth_limit, fresh, guarded, made, one_list, one_throws, one_waits, over, over_boundary, over_catcher, place_of, render_part, rendered, root_element, shape_of, throwing, two_lists, version_seen, waiting}
use Rattle.rx_queue.specs.History.{stands_done}
use Rattle.rx_queue.specs.Journal.{Posted, Resolution, Target, belongs_to, hook, is_included, resolutions_by, resource, same_target}
use Rattle.rx_susp.specs.declared.boundary.BoundaryState.TheVariants.{Hidden, Shown}
use Rattle.rx_catch.specs.declared.state.CatchState.TheVariants.{Caught, Fine}
use Rattle.rx_elem.proofs.Deciding.{same_number}
use Rattle.rx_elem.proofs.Over.{over_children, over_fallback}
use Rattle.commit_laws.proofs.Settling.{of_resource, tree_seen}
use Rattle.commit_laws.proofs.Soundness.{calm_is_still, resolution_keeps}
use Rattle.commit_laws.proofs.TakeOver.{done_is_included, rendered_again}
use Rattle.commit_laws.specs.HiddenWaits.{AllNumbered, AllSeen, Numbered, Seen}
use Rattle.commit_laws.specs.Quiet.{AllDone, AllShown, NoneHidden, RefreshesDone}
use Rattle.rx_meaning.specs.Settled.{AllCalm, DoneBefore, HasValuesOf, IsCalm, IsSettled, IsSound, IsStill, ReadsHold, includes, is_stirred, known_by, version_done}
use Rattle.rx_elem.proofs.Numbering.{numbered_element}

passes_done : (i d b : Bool) → (b ≡ true → d ≡ true) → (i && (not d && b)) ≡ false
passes_done true true b h = refl
passes_done false d b h = refl
passes_done true false true h = absurd (cc (h refl))
passes_done true false false h = refl

one_belongs : (set : List ℕ) (n : ℕ) → includes set n ≡ true → (t : Target) → belongs_to (n ∷ []) t ≡ true → belongs_to set t ≡ true
one_belongs set n h (hook i k) there = go (nat_eq i n) refl there
  where
    go : (b : Bool) → nat_eq i n ≡ b → (b || false) ≡ true → includes set i ≡ true
    go true e x = subst (λ (m : ℕ). includes set m ≡ true) (sym (same_number i n e)) h
    go false e x = absurd (cc x)
one_belongs set n h (resource r) there = absurd (cc there)

all_done_calm : (s : Sight) (set : List ℕ) (n : ℕ) → includes set n ≡ true → (us : List Posted) → AllDone set us
    → list_any (λ u. is_included s.lanes s.cut u && (not (stands_done u.standing) && belongs_to (n ∷ []) u.target)) us ≡ false
all_done_calm s set n h [] d = refl
all_done_calm s set n h (u ∷ us) d =
    rw (passes_done (is_included s.lanes s.cut u) (stands_done u.standing) (belongs_to (n ∷ []) u.target) (λ x. d.0 (one_belongs set n h u.target x)), all_done_calm s set n h us d.1) refl

module _ (s : Sight) (visible kept : List ℕ) (done : AllDone visible s.journal.updates) where
  instance_calm : (i : Instance) (n : ℕ) → i.number ≡ Some n → includes visible n ≡ true → is_stirred s (of_instance i) ≡ false
  instance_calm i n number seen = rw number (all_done_calm s visible n seen s.journal.updates done)

  mutual
    pub tree_calm : (x : Node) → Numbered x → NoneHidden x → Seen visible kept true x → IsCalm s x
    tree_calm (node e (of_instance i) ns fs) n h k =
        (instance_calm i n.0.0 n.0.1 (k.0 n.0.0 n.0.1), all_calm ns n.1 h.1 k.1, all_calm fs n.2 h.2 k.2)
    tree_calm (node e (of_host g) ns fs) n h k = (refl, all_calm ns n.1 h.1 k.1, all_calm fs n.2 h.2 k.2)
    tree_calm (node e plain ns fs) n h k = (refl, all_calm ns n.1 h.1 k.1, all_calm fs n.2 h.2 k.2)
    tree_calm (node e (of_boundary Shown) ns fs) n h k = (refl, all_calm ns n.1 h.1 k.1, all_calm fs n.2 h.2 k.2)
    tree_calm (node e (of_boundary (Hidden a)) ns fs) n h k = absurd (cc h.0)
    tree_calm (node e (of_catcher c) ns fs) n h k = (refl, all_calm ns n.1 h.1 k.1, all_calm fs n.2 h.2 k.2)

    all_calm : (ns : Forest) → AllNumbered ns → AllShown ns → AllSeen visible kept true ns → AllCalm s ns
    all_calm none n h k = tt
    all_calm (vacant ns) n h k = all_calm ns n h k
    all_calm (child x ns) n h k = (tree_calm x n.0 h.0 k.0, all_calm ns n.1 h.1 k.1)

-- What a render gives at a place is a node of its element.

over_element : (e : Element) (m : Mark) (ns : Forest) → element_of (node_over e m ns) ≡ e
over_element e m ns = go (is_caught m) refl
  where
    go : (b : Bool) → is_caught m ≡ b → element_of (node_over e m ns) ≡ e
    go true h = ap element_of (over_fallback e m ns h)
    go false h = ap element_of (over_children e m ns h)

over_made : (e : Element) (m : Mark) (ps : Places) (n : Node) → over e m ps ≡ made n → element_of n ≡ e
over_made e m (all_made ns) n same = let equal : node_over e m ns ≡ n = cc in ap element_of (sym equal) ∙ over_element e m ns
over_made e m (one_waits a) n same = absurd (cc same)
over_made e m (one_throws x) n same = absurd (cc same)

place_element : (below : Contexts → Renders) (e : Element) (old : Option Node) (shape : Shape) (n : Node) → place_of below e old shape ≡ made n → element_of n ≡ e
place_element below e old absent n h = absurd (cc h)
place_element below e old (waiting r v) n h = absurd (cc h)
place_element below e old (throwing x) n h = absurd (cc h)
place_element below e old (one_list m p) n h = over_made e m (render_part below p) n h
place_element below e old (two_lists p f) n h = go (render_part below p) (render_part below f) h
  where
    go : (ps qs : Places) → over_boundary e old ps qs ≡ made n → element_of n ≡ e
    go (all_made ns) qs same = let equal : node e (of_boundary Shown) ns none ≡ n = cc in ap element_of (sym equal)
    go (one_waits a) (all_made fs) same = let equal : node e (of_boundary (Hidden a)) (children_if old) fs ≡ n = cc in ap element_of (sym equal)
    go (one_waits a) (one_waits b) same = absurd (cc same)
    go (one_waits a) (one_throws x) same = absurd (cc same)
    go (one_throws x) qs same = absurd (cc same)
place_element below e old (guarded p f) n h = go (render_part below p) (render_part below f) h
  where
    go : (ps qs : Places) → over_catcher e ps qs ≡ made n → element_of n ≡ e
    go (all_made ns) qs same = let equal : node e (of_catcher Fine) ns none ≡ n = cc in ap element_of (sym equal)
    go (one_waits a) qs same = absurd (cc same)
    go (one_throws x) qs same = over_made e (of_catcher (Caught x)) qs n same

rendered_element : (k : ℕ) (s : Sight) (cs : Contexts) (e : Element) (old : Option Node) (n : Node) → rendered k s cs e old ≡ made n → element_of n ≡ e
unfolding rendered
rendered_element zero s cs e old n h = absurd (cc h)
rendered_element (suc k) s cs e old n h = place_element (rendered k s) e old (shape_of s cs e old) n h

-- A commit leaves the root's element at the root.
pub root_stays : (s : Sight) (old : Option Node) (new : Node) (from : Numbers) → fresh s old ≡ made new → element_of (numbered from new).1 ≡ root_element s.program
unfolding fresh
root_stays s old new from gives =
    numbered_element from new ∙ rendered_element depth_limit s (default_contexts s.program) (root_element s.program) old new gives

calm_root : (s : Sight) (x : Node) → depth_bound s.program ≤ depth_limit → DoneBefore s.cut s.journal.updates → IsSettled s.program (known_by s) x
    → IsStill s (default_contexts s.program) x → element_of x ≡ root_element s.program → fresh s (Some x) ≡ made x
unfolding fresh depth_bound
calm_root s x deep before settled still root =
    subst (λ (e : Element). rendered depth_limit s (default_contexts s.program) e (Some x) ≡ made x) root
    (rendered_again depth_limit s (default_contexts s.program) x before settled still (rw root (omega arith)))

-- Versions

done_refreshes : (s : Sight) (r : ℕ) (us : List Posted) → DoneBefore s.cut us → RefreshesDone us
    → filter (λ u. stands_done u.standing) (filter (λ u. same_target (resource r) u.target) us) ≡ filter (is_included s.lanes s.cut) (filter (λ u. same_target (resource r) u.target) us)
done_refreshes s r [] before done = refl
done_refreshes s r (u ∷ us) before done = go (same_target (resource r) u.target) refl (done_refreshes s r us before.1 done.1)
  where
    go : (b : Bool) → same_target (resource r) u.target ≡ b
        → filter (λ u. stands_done u.standing) (filter (λ u. same_target (resource r) u.target) us) ≡ filter (is_included s.lanes s.cut) (filter (λ u. same_target (resource r) u.target) us)
        → filter (λ u. stands_done u.standing) (cond b (u ∷ filter (λ u. same_target (resource r) u.target) us) (filter (λ u. same_target (resource r) u.target) us))
        ≡ filter (is_included s.lanes s.cut) (cond b (u ∷ filter (λ u. same_target (resource r) u.target) us) (filter (λ u. same_target (resource r) u.target) us))
    go true same rest =
        let is_done = done.0 (of_resource r u.target same) in
        rw (done_is_included s.lanes s.cut u before.0 is_done, is_done, rest) refl
    go false same rest = rest

-- If each refresh is done, any render sees the versions that are done.
pub quiet_versions : (s : Sight) → DoneBefore s.cut s.journal.updates → RefreshesDone s.journal.updates → version_done s.journal.updates ≡ version_seen s
quiet_versions s before done = λ i r. length (done_refreshes s r s.journal.updates before done i)

-- If nothing is hidden and each update of a visible instance is done, and each refresh, any render gives the committed tree again.
pub quiet_tree : (s : Sight) (x : Node) (rs : List Resolution) (next : ℕ) → depth_bound s.program ≤ depth_limit → DoneBefore s.cut s.journal.updates
    → HasValuesOf rs (resolutions_by s.cut s.journal) → IsSound s.program (record { updates = s.journal.updates; resolutions = rs }) next (Some x) → Numbered x
    → element_of x ≡ root_element s.program → NoneHidden x → AllDone (visible_instances (Some x)) s.journal.updates → RefreshesDone s.journal.updates → fresh s (Some x) ≡ made x
quiet_tree s x rs next deep before more sound numbers root none_hidden done refreshed =
    let now = resolution_keeps s.program s.journal.updates rs (resolutions_by s.cut s.journal) next (Some x) more sound in
    let reads = subst (λ (version : ℕ → ℕ). ReadsHold version (default_contexts s.program) x) (quiet_versions s before refreshed) now.reads in
    calm_root s x deep before now.settled
    (calm_is_still s (default_contexts s.program) x
    (tree_calm s (visible_instances (Some x)) (kept_instances (Some x)) done x numbers none_hidden (tree_seen x)) reads) root
