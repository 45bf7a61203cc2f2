-- No update is lost at a commit: in the new tree it is done, its lane is pending, or it is owed to what is kept.
use Rattle.std.specs.List.{list_any}
use Rattle.std.specs.Prelude.{Bool, List, None, Option, Some, [], cond, false, filter_map, if◌then◌else◌, map, nat_eq, nat_le, nat_lt, not, refl, slice_get, suc, true, zero, ℕ, ◌&&◌, ◌++◌, ◌+◌, ◌<◌, ◌||◌, ◌∷◌, ◌≡◌, ◌≤◌, ◌⊎◌}
use Rattle.std.proofs.Common.{ap, arith, inl, inr, subst, sym, ◌∙◌}
use Rattle.std.proofs.lemmas.Bool.Decides.{nat_tests}
use Rattle.rx_base.specs.declared.cut.Cut.{Cut}
use Rattle.rx_elem.specs.Numbers.{Numbers, numbered}
use Rattle.rx_elem.specs.Spots.{at_root, kept_instances, mounted, spots, visible_instances}
use Rattle.rx_elem.specs.Trees.{Node}
use Rattle.rx_meaning.specs.Fresh.{Sight, default_contexts, depth_limit, fresh, made, root_element}
use Rattle.rx_meaning.specs.Outcome.{journal_after}
use Rattle.rx_lane.specs.Lanes.{Lanes}
use Rattle.rx_lane.specs.SetLaws.{has-lanes_where}
use Rattle.rx_lane.specs.declared.lane.Lane.{Lane}
use Rattle.rx_queue.specs.History.{stands_done, stands_owed}
use Rattle.rx_queue.specs.Journal.{Posted, Target, belongs_to, has_later, hook, is_resource, marked_update, resource, same_target}
use Rattle.rx_queue.specs.declared.entry.Standing.{Standing}
use Rattle.rx_queue.specs.declared.entry.Standing.TheVariants.{Done, Open, Owed}
use Rattle.rx_elem.proofs.Deciding.{same_itself, or_left, or_right, both_hold}
use Rattle.commit_laws.proofs.OwnNumbers.{CountIs, both_lists, has_occurs, not_below, numbered_counts, occurs, rendered_counts, spots_times}
use Rattle.commit_laws.proofs.Settling.{kept_at, kept_listed, visible_at, visible_listed}
use Rattle.rx_meaning.specs.Again.{AccountedBefore}
use Rattle.rx_meaning.specs.Settled.{TargetsBelow, includes, times_numbered, times_numbered_if}
use Rattle.rx_lane.specs.Lanes as lanes_of

-- the same as of a state, of its parts
abbrev pub NoneLost : Option Node → List Posted → Lanes → Type 0
NoneLost tree us pending =
    (n : ℕ) (u : Posted) → slice_get us n ≡ Some u
    → ((belongs_to (visible_instances tree) u.target ≡ true) ⊎ (belongs_to (kept_instances tree) u.target ≡ true)) ⊎ (is_resource u.target ≡ true)
    → (stands_done u.standing ≡ true)
    ⊎ ((lanes_of.has pending u.update.lane ≡ true) ⊎ ((stands_owed u.standing ≡ true) × (belongs_to (kept_instances tree) u.target ≡ true)))

pub more_pending : (tree : Option Node) (us : List Posted) (a b : Lanes) → ((l : Lane) → lanes_of.has a l ≡ true → lanes_of.has b l ≡ true) → NoneLost tree us a → NoneLost tree us b
more_pending tree us a b more h n u there mounted = go (h n u there mounted)
  where
    go : (stands_done u.standing ≡ true)
        ⊎ ((lanes_of.has a u.update.lane ≡ true) ⊎ ((stands_owed u.standing ≡ true) × (belongs_to (kept_instances tree) u.target ≡ true)))
        → (stands_done u.standing ≡ true)
        ⊎ ((lanes_of.has b u.update.lane ≡ true) ⊎ ((stands_owed u.standing ≡ true) × (belongs_to (kept_instances tree) u.target ≡ true)))
    go (inl d) = inl d
    go (inr (inl x)) = inr (inl (more u.update.lane x))
    go (inr (inr o)) = inr (inr o)

pub got_push : (us : List Posted) (u v : Posted) (n : ℕ) → slice_get (us ++ u ∷ []) n ≡ Some v → (slice_get us n ≡ Some v) ⊎ (u ≡ v)
got_push [] u v zero h = inr (cc)
got_push [] u v (suc n) h = absurd (cc h)
got_push (w ∷ us) u v zero h = inl h
got_push (w ∷ us) u v (suc n) h = got_push us u v n h

pub push_pending : (tree : Option Node) (us : List Posted) (u : Posted) (a : Lanes) → lanes_of.has a u.update.lane ≡ true → NoneLost tree us a → NoneLost tree (us ++ u ∷ []) a
push_pending tree us u a pending h n v there mounted = go (got_push us u v n there)
  where
    go : (slice_get us n ≡ Some v) ⊎ (u ≡ v)
        → (stands_done v.standing ≡ true)
        ⊎ ((lanes_of.has a v.update.lane ≡ true) ⊎ ((stands_owed v.standing ≡ true) × (belongs_to (kept_instances tree) v.target ≡ true)))
    go (inl e) = h n v e mounted
    go (inr e) = inr (inl (subst (λ (w : Posted). lanes_of.has a w.update.lane ≡ true) e pending))

-- Lanes

pub union_left : (a b : Lanes) (l : Lane) → lanes_of.has a l ≡ true → lanes_of.has (lanes_of.union a b) l ≡ true
union_left a b l h = has-lanes_where (λ x. lanes_of.has a x || lanes_of.has b x) l ∙ or_left (lanes_of.has a l) (lanes_of.has b l) h

pub union_right : (a b : Lanes) (l : Lane) → lanes_of.has b l ≡ true → lanes_of.has (lanes_of.union a b) l ≡ true
union_right a b l h = has-lanes_where (λ x. lanes_of.has a x || lanes_of.has b x) l ∙ or_right (lanes_of.has a l) (lanes_of.has b l) h

pub one_itself : (l : Lane) → lanes_of.has (lanes_of.one l) l ≡ true
one_itself l = has-lanes_where (lanes_of.same_lane l) l ∙ same_itself (lanes_of.priority l)

any_got : (test : Posted → Bool) (us : List Posted) (n : ℕ) (u : Posted) → slice_get us n ≡ Some u → test u ≡ true → list_any test us ≡ true
any_got test [] n u h k = absurd (cc h)
any_got test (w ∷ us) zero u h k = let same : w ≡ u = cc in or_left (test w) (list_any test us) (ap test same ∙ k)
any_got test (w ∷ us) (suc n) u h k = or_right (test w) (list_any test us) (any_got test us n u h k)

-- One update

abbrev marked_as : (x l bv bk : Bool) → Standing → Standing
marked_as x l bv bk st = if (x && (stands_done st || stands_owed st || l)) && bv then Done else if x && (not (stands_done st) && (l && bk)) then Owed else st

abbrev Fate : Type 0 → Standing → Bool → Type 0
Fate P st bk = (stands_done st ≡ true) ⊎ (P ⊎ ((stands_owed st ≡ true) × (bk ≡ true)))

one_fate : (P : Type 0) (x l bv bk pend oldkept : Bool) (st : Standing) → (stands_done st ≡ true → x ≡ true) → (stands_owed st ≡ true → x ≡ true)
    → (bv ≡ true) ⊎ (bk ≡ true)
    → (stands_done st ≡ true) ⊎ ((pend ≡ true) ⊎ ((stands_owed st ≡ true) × (oldkept ≡ true)))
    → (x ≡ false → l ≡ true → P) → (pend ≡ true → l ≡ false → P) → Fate P (marked_as x l bv bk st) bk
one_fate P true l true bk pend oldkept Done d o m old later stays = inl refl
one_fate P true l false bk pend oldkept Done d o m old later stays = inl refl
one_fate P true l true bk pend oldkept Owed d o m old later stays = inl refl
one_fate P true true false true pend oldkept Owed d o m old later stays = inr (inr (refl, refl))
one_fate P true false false true pend oldkept Owed d o m old later stays = inr (inr (refl, refl))
one_fate P true l false false pend oldkept Owed d o (inl m) old later stays = absurd (cc m)
one_fate P true l false false pend oldkept Owed d o (inr m) old later stays = absurd (cc m)
one_fate P true true true bk pend oldkept Open d o m old later stays = inl refl
one_fate P true true false true pend oldkept Open d o m old later stays = inr (inr (refl, refl))
one_fate P true true false false pend oldkept Open d o (inl m) old later stays = absurd (cc m)
one_fate P true true false false pend oldkept Open d o (inr m) old later stays = absurd (cc m)
one_fate P true false bv bk pend oldkept Open d o m (inl e) later stays = absurd (cc e)
one_fate P true false bv bk pend oldkept Open d o m (inr (inl e)) later stays = inr (inl (stays e refl))
one_fate P true false bv bk pend oldkept Open d o m (inr (inr e)) later stays = absurd (cc e.0)
one_fate P false l bv bk pend oldkept Done d o m old later stays = absurd (cc (d refl))
one_fate P false l bv bk pend oldkept Owed d o m old later stays = absurd (cc (o refl))
one_fate P false true bv bk pend oldkept Open d o m old later stays = inr (inl (later refl refl))
one_fate P false false bv bk pend oldkept Open d o m (inl e) later stays = absurd (cc e)
one_fate P false false bv bk pend oldkept Open d o m (inr (inl e)) later stays = inr (inl (stays e refl))
one_fate P false false bv bk pend oldkept Open d o m (inr (inr e)) later stays = absurd (cc e.0)

-- Instances of the new tree

times_of : (x : Node) (i : ℕ) → (includes (visible_instances (Some x)) i ≡ true) ⊎ (includes (kept_instances (Some x)) i ≡ true) → 1 ≤ times_numbered i x
times_of x i (inl v) =
    let seen : includes (filter_map visible_at (spots at_root x)) i ≡ true = ap (λ (l : List ℕ). includes l i) (sym (visible_listed x)) ∙ v in
    omega (arith, has_occurs i (filter_map visible_at (spots at_root x)) seen, both_lists i (spots at_root x), spots_times i at_root x)
times_of x i (inr k) =
    let seen : includes (filter_map kept_at (spots at_root x)) i ≡ true = ap (λ (l : List ℕ). includes l i) (sym (kept_listed x)) ∙ k in
    omega (arith, has_occurs i (filter_map kept_at (spots at_root x)) seen, both_lists i (spots at_root x), spots_times i at_root x)

occurs_has : (n : ℕ) (xs : List ℕ) → includes xs n ≡ false → occurs n xs ≡ 0
occurs_has n [] h = refl
occurs_has n (x ∷ xs) h = go (nat_eq n x) h (occurs_has n xs)
  where
    go : (b : Bool) → (b || includes xs n) ≡ false → (includes xs n ≡ false → occurs n xs ≡ 0) → cond b 1 0 + occurs n xs ≡ 0
    go true k rest = absurd (cc k)
    go false k rest = let nothing = rest k in omega arith

listed_of : (tree : Option Node) (i : ℕ) → 1 ≤ times_numbered_if i tree → (includes (visible_instances tree) i ≡ true) ⊎ (includes (kept_instances tree) i ≡ true)
listed_of None i h = absurd (omega arith)
listed_of (Some x) i h = go (includes (visible_instances (Some x)) i) (includes (kept_instances (Some x)) i) refl refl
  where
    go : (v k : Bool) → includes (visible_instances (Some x)) i ≡ v → includes (kept_instances (Some x)) i ≡ k
        → (v ≡ true) ⊎ (k ≡ true)
    go true k e f = inl refl
    go false true e f = inr refl
    go false false e f =
        let none_seen = occurs_has i (filter_map visible_at (spots at_root x)) (ap (λ (l : List ℕ). includes l i) (sym (visible_listed x)) ∙ e) in
        let none_kept = occurs_has i (filter_map kept_at (spots at_root x)) (ap (λ (l : List ℕ). includes l i) (sym (kept_listed x)) ∙ f) in
        absurd (omega (arith, none_seen, none_kept, both_lists i (spots at_root x), spots_times i at_root x, h))

was_mounted : (s : Sight) (old : Option Node) (new : Node) (from : Numbers) → fresh s old ≡ made new → (i : ℕ) → i < from.instance
    → (includes (visible_instances (Some (numbered from new).1)) i ≡ true) ⊎ (includes (kept_instances (Some (numbered from new).1)) i ≡ true)
    → (includes (visible_instances old) i ≡ true) ⊎ (includes (kept_instances old) i ≡ true)
unfolding fresh
was_mounted s old new from gives i low mounted =
    listed_of old i
    (omega (arith, times_of (numbered from new).1 i mounted, numbered_counts i from new, counts, not_below from.instance (numbered from new).0.instance i low))
  where
    counts : times_numbered i new ≤ times_numbered_if i old
    counts =
        let h : CountIs i (times_numbered_if i old) (fresh s old) = rendered_counts i depth_limit s (default_contexts s.program) (root_element s.program) old in
        let k : CountIs i (times_numbered_if i old) (made new) = rw gives at h in k

-- A commit

pub got_mapped : (f : Posted → Posted) (us : List Posted) (n : ℕ) (v : Posted) → slice_get (map f us) n ≡ Some v → (u : Posted) × (slice_get us n ≡ Some u) × (f u ≡ v)
got_mapped f [] n v h = absurd (cc h)
got_mapped f (u ∷ us) zero v h = (u, refl, cc)
got_mapped f (u ∷ us) (suc n) v h = got_mapped f us n v h

got_accounted : (cut : Cut) (us : List Posted) → AccountedBefore cut us → (n : ℕ) (u : Posted) → slice_get us n ≡ Some u
    → (stands_done u.standing ≡ true → nat_lt u.update.number cut.updates ≡ true) × (stands_owed u.standing ≡ true → nat_lt u.update.number cut.updates ≡ true)
got_accounted cut [] h n u there = absurd (cc there)
got_accounted cut (w ∷ us) h zero u there =
    let same : w ≡ u = cc in
    subst (λ (v : Posted). (stands_done v.standing ≡ true → nat_lt v.update.number cut.updates ≡ true) × (stands_owed v.standing ≡ true → nat_lt v.update.number cut.updates ≡ true)) same h.0
got_accounted cut (w ∷ us) h (suc n) u there = got_accounted cut us h.1 n u there

got_below : (next : ℕ) (us : List Posted) → TargetsBelow next us → (n : ℕ) (u : Posted) → slice_get us n ≡ Some u → (k i : ℕ) → next ≤ i → same_target (hook i k) u.target ≡ false
got_below next [] h n u there k i late = absurd (cc there)
got_below next (w ∷ us) h zero u there k i late =
    let same : w ≡ u = cc in subst (λ (v : Posted). same_target (hook i k) v.target ≡ false) same (h.0 k i late)
got_below next (w ∷ us) h (suc n) u there k i late = got_below next us h.1 n u there k i late

target_low : (next : ℕ) (i k : ℕ) → ((q j : ℕ) → next ≤ j → same_target (hook j q) (hook i k) ≡ false) → i < next
target_low next i k g = go (nat_lt i next) refl
  where
    go : (b : Bool) → nat_lt i next ≡ b → i < next
    go true e = grind (arith, nat_tests)
    go false e =
        let late : next ≤ i = grind (arith, nat_tests) in
        let x : same_target (hook i k) (hook i k) ≡ true = rw (same_itself i, same_itself k) refl in
        absurd (cc (x, g k i late))

old_mounted : (s : Sight) (old : Option Node) (new : Node) (from : Numbers) → fresh s old ≡ made new → (t : Target) → ((k i : ℕ) → from.instance ≤ i → same_target (hook i k) t ≡ false)
    → ((belongs_to (visible_instances (Some (numbered from new).1)) t ≡ true) ⊎ (belongs_to (kept_instances (Some (numbered from new).1)) t ≡ true)) ⊎ (is_resource t ≡ true)
    → ((belongs_to (visible_instances old) t ≡ true) ⊎ (belongs_to (kept_instances old) t ≡ true)) ⊎ (is_resource t ≡ true)
old_mounted s old new from gives (hook i k) low (inl mounted) = inl (was_mounted s old new from gives i (target_low from.instance i k low) mounted)
old_mounted s old new from gives (hook i k) low (inr h) = absurd (cc h)
old_mounted s old new from gives (resource r) low mounted = inr refl

-- an update of an instance that is visible, or of a resource, is shown by a commit; another one of an instance that is mounted is kept
shown_or_kept : (v k r : Bool) → ((v ≡ true) ⊎ (k ≡ true)) ⊎ (r ≡ true) → ((v || r) ≡ true) ⊎ (k ≡ true)
shown_or_kept v k r (inl (inl h)) = inl (or_left v r h)
shown_or_kept v k r (inl (inr h)) = inr h
shown_or_kept v k r (inr h) = inl (or_right v r h)

pub commit_none_lost : (s : Sight) (old : Option Node) (new : Node) (from : Numbers) (pending still : Lanes) → fresh s old ≡ made new
    → AccountedBefore s.cut s.journal.updates → TargetsBelow from.instance s.journal.updates
    → ((l : Lane) → lanes_of.has s.lanes l ≡ true → has_later s.cut s.journal l ≡ true → lanes_of.has still l ≡ true)
    → NoneLost old s.journal.updates pending
    → NoneLost (Some (numbered from new).1) (journal_after s.lanes s.cut (numbered from new).1 s.journal).updates (lanes_of.union (lanes_of.minus pending s.lanes) still)
commit_none_lost s old new from pending still gives accounted targets comes lost n v there mounted =
    let u = got_mapped (marked_update s.lanes s.cut (visible_instances tree) (kept_instances tree)) s.journal.updates n v there in
    let before = got_accounted s.cut s.journal.updates accounted n u.0 u.1 in
    subst (λ (w : Posted). Fate (lanes_of.has after w.update.lane ≡ true) w.standing (belongs_to (kept_instances tree) w.target)) u.2
    (one_fate (lanes_of.has after u.0.update.lane ≡ true) (nat_lt u.0.update.number s.cut.updates) (lanes_of.has s.lanes u.0.update.lane)
    (belongs_to (visible_instances tree) u.0.target || is_resource u.0.target) (belongs_to (kept_instances tree) u.0.target) (lanes_of.has pending u.0.update.lane) (belongs_to (kept_instances old) u.0.target) u.0.standing
    before.0 before.1
    (shown_or_kept (belongs_to (visible_instances tree) u.0.target) (belongs_to (kept_instances tree) u.0.target) (is_resource u.0.target) (mounted_so u.0 u.2))
    (lost n u.0 u.1 (old_mounted s old new from gives u.0.target (got_below from.instance s.journal.updates targets n u.0 u.1) (mounted_so u.0 u.2)))
    (λ e l. comes_again u.0 u.1 e l) (λ e l. stays_so u.0.update.lane e l))
  where
    tree : Option Node
    tree = Some (numbered from new).1

    after : Lanes
    after = lanes_of.union (lanes_of.minus pending s.lanes) still

    mounted_so : (u : Posted) → marked_update s.lanes s.cut (visible_instances tree) (kept_instances tree) u ≡ v
        → ((belongs_to (visible_instances tree) u.target ≡ true) ⊎ (belongs_to (kept_instances tree) u.target ≡ true)) ⊎ (is_resource u.target ≡ true)
    mounted_so u same =
        subst (λ (t : Target). ((belongs_to (visible_instances tree) t ≡ true) ⊎ (belongs_to (kept_instances tree) t ≡ true)) ⊎ (is_resource t ≡ true)) (ap (λ (w : Posted). w.target) (sym same)) mounted

    comes_again : (u : Posted) → slice_get s.journal.updates n ≡ Some u → nat_lt u.update.number s.cut.updates ≡ false → lanes_of.has s.lanes u.update.lane ≡ true
        → lanes_of.has after u.update.lane ≡ true
    comes_again u got e l =
        let late : nat_le s.cut.updates u.update.number ≡ true = grind (arith, nat_tests) in
        let here : (nat_le s.cut.updates u.update.number && lanes_of.same_lane u.update.lane u.update.lane) ≡ true = both_hold (nat_le s.cut.updates u.update.number) (lanes_of.same_lane u.update.lane u.update.lane) late (same_itself (lanes_of.priority u.update.lane)) in
        union_right (lanes_of.minus pending s.lanes) still u.update.lane
        (comes u.update.lane l (any_got (λ w. nat_le s.cut.updates w.update.number && lanes_of.same_lane w.update.lane u.update.lane) s.journal.updates n u got here))

    stays_so : (l : Lane) → lanes_of.has pending l ≡ true → lanes_of.has s.lanes l ≡ false → lanes_of.has after l ≡ true
    stays_so l e f =
        union_left (lanes_of.minus pending s.lanes) still l
        (has-lanes_where (λ x. lanes_of.has pending x && not (lanes_of.has s.lanes x)) l ∙ both_hold (lanes_of.has pending l) (not (lanes_of.has s.lanes l)) e (ap not f))
