-- A quiet state shows everything.
use Rattle.std.specs.List.{enumerate_from}
use Rattle.std.specs.Prelude.{Bool, IfSome, List, None, Option, Some, [], cond, false, filter, filter_map, fold, length, map, nat_eq, refl, slice_get, suc, true, zero, ℕ, ℤ, ◌++◌, ◌+◌, ◌||◌, ◌∷◌, ◌≡◌, ◌≤◌}
use Rattle.std.proofs.Common.{ap, arith, inl, inr, subst, sym, ◌∙◌}
use Rattle.rx_ast.specs.Syntax.{Program}
use Rattle.rx_base.specs.declared.cut.Cut.{Cut}
use Rattle.rx_rules.specs.Bounds.{depth_bound}
use Rattle.rx_elem.specs.Spots.{Around, Mounted, Spot, around_children, at_root, hidden_count, kept_instances, mounted, numbers_of, spot_mark, spots, spots_in, visible_instances}
use Rattle.rx_elem.specs.Trees.{Forest, Mark, Node, child, is_hidden, node, none, vacant}
use Rattle.rx_meaning.specs.Expressions.{answers_of}
use Rattle.rx_meaning.specs.Fresh.{depth_limit, fresh, made}
use Rattle.rx_lane.specs.Lanes.{Lanes, is_empty}
use Rattle.rx_lane.specs.declared.lane.Lane.{Lane}
use Rattle.rx_model.specs.Kept.{IsAccountedFor, NoUpdateIsLost}
use Rattle.rx_model.specs.Laws.{QuietLaw, ShowsAll, everything}
use Rattle.rx_model.specs.State.{State}
use Rattle.rx_queue.specs.History.{Answers, applied, stands_done}
use Rattle.rx_queue.specs.Journal.{Posted, Resolution, Target, belongs_to, committed_value, cut_now, hook, in_order, is_resource, resource, same_target, updates_of}
use Rattle.std.proofs.Math.Seq.{take-length}
use Rattle.run_laws.proofs.AlongRuns.{reached_carries}
use Rattle.run_laws.proofs.Carrying.{all_accounted, done_before}
use Rattle.commit_laws.proofs.HiddenLaw.{all_mounted, numbered_at}
use Rattle.rx_elem.proofs.Deciding.{same_itself, same_number, and_passes}
use Rattle.run_laws.proofs.KeptFacts.{none_lost}
use Rattle.commit_laws.proofs.QuietTree.{quiet_tree}
use Rattle.commit_laws.proofs.Settling.{kept_at, kept_listed, target_has, visible_at, visible_listed, within_visible}
use Rattle.run_laws.specs.Carried.{Carries}
use Rattle.commit_laws.specs.Quiet.{AllDone, AllShown, NoneHidden, RefreshesDone}
use Rattle.rx_meaning.specs.Settled.{HasValuesOf, includes}
use Rattle.rx_lane.specs.Lanes as lanes_of

pub empty_has : (lanes : Lanes) (l : Lane) → is_empty lanes ≡ true → lanes_of.has lanes l ≡ false
empty_has [] l h = refl
empty_has (x ∷ xs) l h = absurd (cc h)

-- Nothing hidden

abbrev NoneAt : List Spot → Type 0
NoneAt [] = Unit {0}
NoneAt (x ∷ xs) = (is_hidden (spot_mark x) ≡ false) × NoneAt xs

none_at : (xs : List Spot) → length (filter (λ s. is_hidden (spot_mark s)) xs) ≡ 0 → NoneAt xs
none_at [] h = tt
none_at (x ∷ xs) h = go (is_hidden (spot_mark x)) refl h (none_at xs)
  where
    go : (b : Bool) → is_hidden (spot_mark x) ≡ b → length (cond b (x ∷ filter (λ s. is_hidden (spot_mark s)) xs) (filter (λ s. is_hidden (spot_mark s)) xs)) ≡ 0
        → (length (filter (λ s. is_hidden (spot_mark s)) xs) ≡ 0 → NoneAt xs) → NoneAt (x ∷ xs)
    go true e k rest = absurd (omega arith)
    go false e k rest = (e, rest k)

none_first : (xs ys : List Spot) → NoneAt (xs ++ ys) → NoneAt xs
none_first [] ys h = tt
none_first (x ∷ xs) ys h = (h.0, none_first xs ys h.1)

none_last : (xs ys : List Spot) → NoneAt (xs ++ ys) → NoneAt ys
none_last [] ys h = h
none_last (x ∷ xs) ys h = none_last xs ys h.1

mutual
  tree_shown : (a : Around) (x : Node) → NoneAt (spots a x) → NoneHidden x
  tree_shown a (node e m ns fs) h = (
    h.0,
    all_shown (around_children a m) ns (none_first (spots_in (around_children a m) ns) (spots_in a fs) h.1),
    all_shown a fs (none_last (spots_in (around_children a m) ns) (spots_in a fs) h.1),
  )

  all_shown : (a : Around) (ns : Forest) → NoneAt (spots_in a ns) → AllShown ns
  all_shown a none h = tt
  all_shown a (vacant ns) h = all_shown a ns h
  all_shown a (child x ns) h = (tree_shown a x (none_first (spots a x) (spots_in a ns) h), all_shown a ns (none_last (spots a x) (spots_in a ns) h))

abbrev AllVisible : List Spot → Type 0
AllVisible [] = Unit {0}
AllVisible (x ∷ xs) = (x.around.visible ≡ true) × AllVisible xs

visible_append : (xs ys : List Spot) → AllVisible xs → AllVisible ys → AllVisible (xs ++ ys)
visible_append [] ys h k = k
visible_append (x ∷ xs) ys h k = (h.0, visible_append xs ys h.1 k)

below_visible : (a : Around) (m : Mark) → a.visible ≡ true → is_hidden m ≡ false → (around_children a m).visible ≡ true
below_visible a m v h = within_visible a m ∙ (ap (λ b. cond b false a.visible) h ∙ v)

mutual
  all_seen : (a : Around) (x : Node) → a.visible ≡ true → NoneHidden x → AllVisible (spots a x)
  all_seen a (node e m ns fs) v h =
      (v, visible_append (spots_in (around_children a m) ns) (spots_in a fs) (all_seen_in (around_children a m) ns (below_visible a m v h.0) h.1) (all_seen_in a fs v h.2))

  all_seen_in : (a : Around) (ns : Forest) → a.visible ≡ true → AllShown ns → AllVisible (spots_in a ns)
  all_seen_in a none v h = tt
  all_seen_in a (vacant ns) v h = all_seen_in a ns v h
  all_seen_in a (child x ns) v h = visible_append (spots a x) (spots_in a ns) (all_seen a x v h.0) (all_seen_in a ns v h.1)

visible_all : (xs : List Spot) → AllVisible xs → filter_map visible_at xs ≡ filter_map numbered_at xs
visible_all [] h = refl
visible_all (x ∷ xs) h = rw (h.0, visible_all xs h.1) refl

kept_none : (xs : List Spot) → AllVisible xs → filter_map kept_at xs ≡ []
kept_none [] h = refl
kept_none (x ∷ xs) h = rw (h.0, kept_none xs h.1) refl

shown_tree : (x : Node) → hidden_count (Some x) ≡ 0 → NoneHidden x
shown_tree x h = tree_shown at_root x (none_at (spots at_root x) h)

-- if nothing is hidden, each instance is visible, and none is kept
quiet_lists : (tree : Option Node) → hidden_count tree ≡ 0 → (visible_instances tree ≡ numbers_of (mounted tree)) × (kept_instances tree ≡ [])
quiet_lists None h = (refl, refl)
quiet_lists (Some x) h =
    let all = all_seen at_root x refl (shown_tree x h) in (
      visible_listed x ∙ (visible_all (spots at_root x) all ∙ sym (all_mounted (spots at_root x))),
      kept_listed x ∙ kept_none (spots at_root x) all,
    )

-- Updates

none_belongs : (t : Target) → belongs_to [] t ≡ true → ⊥
none_belongs (hook i k) h = cc h
none_belongs (resource r) h = cc h

all_done : (s : State) → NoUpdateIsLost s → kept_instances s.tree ≡ [] → ((l : Lane) → lanes_of.has s.schedule.pending l ≡ false)
    → AllDone (visible_instances s.tree) s.journal.updates
all_done s lost none_kept free = from s.journal.updates (λ n u there b. one u (lost n u there (inl (inl b))))
  where
    one : (u : Posted) → IsAccountedFor s u → stands_done u.standing ≡ true
    one u (inl d) = d
    one u (inr (inl pending)) = absurd (cc (free u.update.lane, pending))
    one u (inr (inr owed)) =
        let k : belongs_to [] u.target ≡ true = subst (λ (l : List ℕ). belongs_to l u.target ≡ true) none_kept owed.1 in absurd (none_belongs u.target k)

    from : (us : List Posted) → ((n : ℕ) (u : Posted) → slice_get us n ≡ Some u → belongs_to (visible_instances s.tree) u.target ≡ true → stands_done u.standing ≡ true)
        → AllDone (visible_instances s.tree) us
    from [] f = tt
    from (u ∷ us) f = (f zero u refl, from us (λ n v there. f (suc n) v there))

pub refreshes_done : (s : State) → NoUpdateIsLost s → ((l : Lane) → lanes_of.has s.schedule.pending l ≡ false) → RefreshesDone s.journal.updates
refreshes_done s lost free = from s.journal.updates (λ n u there b. one u b (lost n u there (inr b)))
  where
    never_kept : (t : Target) → is_resource t ≡ true → belongs_to (kept_instances s.tree) t ≡ true → ⊥
    never_kept (hook i k) h there = cc h
    never_kept (resource r) h there = cc there

    one : (u : Posted) → is_resource u.target ≡ true → IsAccountedFor s u → stands_done u.standing ≡ true
    one u is (inl d) = d
    one u is (inr (inl pending)) = absurd (cc (free u.update.lane, pending))
    one u is (inr (inr owed)) = absurd (never_kept u.target is owed.1)

    from : (us : List Posted) → ((n : ℕ) (u : Posted) → slice_get us n ≡ Some u → is_resource u.target ≡ true → stands_done u.standing ≡ true) → RefreshesDone us
    from [] f = tt
    from (u ∷ us) f = (f zero u refl, from us (λ n v there. f (suc n) v there))

-- Hooks

mapped_at : (f : ℕ × ℤ → ℤ) (i : ℕ) (xs : List ℤ) (k : ℕ) (x : ℤ) → slice_get xs k ≡ Some x → slice_get (map f (enumerate_from i xs)) k ≡ Some (f (i + k, x))
mapped_at f i [] k x h = absurd (cc h)
mapped_at f i (y ∷ ys) zero x h =
    let same : y ≡ x = cc in
    let e : i ≡ i + 0 = omega arith in
    ap (λ (z : ℤ). Some (f (i, z))) same ∙ ap (λ (n : ℕ). Some (f (n, x))) e
mapped_at f i (y ∷ ys) (suc k) x h =
    let e : (i + 1) + k ≡ i + suc k = omega arith in
    mapped_at f (i + 1) ys k x h ∙ ap (λ (n : ℕ). Some (f (n, x))) e

done_all : (set : List ℕ) (n k : ℕ) → includes set n ≡ true → (us : List Posted) → AllDone set us
    → filter (λ u. stands_done u.standing) (filter (λ u. same_target (hook n k) u.target) us) ≡ filter (λ u. true) (filter (λ u. same_target (hook n k) u.target) us)
done_all set n k there [] h = refl
done_all set n k there (u ∷ us) h = go (same_target (hook n k) u.target) refl (done_all set n k there us h.1)
  where
    go : (b : Bool) → same_target (hook n k) u.target ≡ b
        → filter (λ u. stands_done u.standing) (filter (λ u. same_target (hook n k) u.target) us) ≡ filter (λ u. true) (filter (λ u. same_target (hook n k) u.target) us)
        → filter (λ u. stands_done u.standing) (cond b (u ∷ filter (λ u. same_target (hook n k) u.target) us) (filter (λ u. same_target (hook n k) u.target) us))
        ≡ filter (λ u. true) (cond b (u ∷ filter (λ u. same_target (hook n k) u.target) us) (filter (λ u. same_target (hook n k) u.target) us))
    go true e r = let d : stands_done u.standing ≡ true = h.0 (target_has set n k u.target true there e) in rw (d, r) refl
    go false e r = r

value_shown : (answers : Answers) (set : List ℕ) (n k : ℕ) (x : ℤ) (us : List Posted) → includes set n ≡ true → AllDone set us
    → committed_value answers x (filter (λ u. same_target (hook n k) u.target) us) ≡ in_order answers x (filter (λ u. same_target (hook n k) u.target) us)
unfolding committed_value in_order
value_shown answers set n k x us there h = ap (λ (vs : List Posted). fold (λ now u. applied answers now u.update.op) x vs) (done_all set n k there us h)

hooks_shown : (p : Program) (s : State) (set : List ℕ) (m : Mounted) → includes set m.number ≡ true → AllDone set s.journal.updates → ShowsAll p s m
hooks_shown p s set m there done k initial h =
    mapped_at (λ h. committed_value (answers_of p) h.1 (updates_of (hook m.number h.0) s.journal)) 0 m.initials k initial h
    ∙ (ap (λ (n : ℕ). Some (committed_value (answers_of p) initial (updates_of (hook m.number n) s.journal))) zero_more
    ∙ ap Some (value_shown (answers_of p) set m.number k initial s.journal.updates there done))
  where
    zero_more : 0 + k ≡ k
    zero_more = omega arith

number_got : (all : List Mounted) (m : Mounted) (k : ℕ) → slice_get all k ≡ Some m → includes (numbers_of all) m.number ≡ true
number_got [] m k h = absurd (cc h)
number_got (x ∷ xs) m zero h =
    let same : x ≡ m = cc in
    let itself : nat_eq m.number x.number ≡ true = subst (λ (n : ℕ). nat_eq m.number n ≡ true) (ap (λ (y : Mounted). y.number) (sym same)) (same_itself m.number) in
    rw itself refl
number_got (x ∷ xs) m (suc k) h = or_right (nat_eq m.number x.number) (includes (numbers_of xs) m.number) (number_got xs m k h)
  where
    or_right : (a b : Bool) → b ≡ true → (a || b) ≡ true
    or_right true b h = refl
    or_right false b h = h

tree_shows : (p : Program) (s : State) (tree : Option Node) (known : List Resolution) (last : Cut) → depth_bound p ≤ depth_limit → Carries p s.journal s.numbers tree known last
    → hidden_count tree ≡ 0 → AllDone (visible_instances tree) s.journal.updates → RefreshesDone s.journal.updates → IfSome tree (λ n. fresh (everything p s) (Some n) ≡ made n)
tree_shows p s None known last deep c h done refreshed = tt
tree_shows p s (Some n) known last deep c h done refreshed =
    quiet_tree (everything p s) n known s.numbers.instance deep (done_before (cut_now s.journal) s.journal.updates (all_accounted (cut_now s.journal) s.journal.updates c.below))
    (subst (λ (xs : List Resolution). HasValuesOf known xs) (sym (take-length s.journal.resolutions)) c.seen) c.sound c.numbered c.rooted (shown_tree n h) done refreshed

-- A quiet state that can be reached shows everything.
pub quiet_shows : (p : Program) → QuietLaw p
quiet_shows p bounded s reached quiet =
    let parts = and_passes (is_empty s.schedule.pending) (nat_eq (hidden_count s.tree) 0) quiet in
    let shown : hidden_count s.tree ≡ 0 = same_number (hidden_count s.tree) 0 parts.1 in
    let lists = quiet_lists s.tree shown in
    let done = all_done s (none_lost p bounded s reached) lists.1 (λ l. empty_has s.schedule.pending l parts.0) in
    let c = reached_carries p bounded.shallow bounded.declared s reached in
    record {
      hooks = λ k m there. hooks_shown p s (visible_instances s.tree) m (ap (λ (l : List ℕ). includes l m.number) lists.0 ∙ number_got (mounted s.tree) m k there) done;
      tree = tree_shows p s s.tree c.0 c.1 bounded.shallow c.2 shown done (refreshes_done s (none_lost p bounded s reached) (λ l. empty_has s.schedule.pending l parts.0));
    }
