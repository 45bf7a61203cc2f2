-- A commit leaves a settled tree: its marks make of the values that a render saw the values that are done.
use Rattle.std.specs.List.{cons_option, enumerate_from}
use Rattle.std.specs.Prelude.{Bool, List, None, Option, Some, [], cond, false, filter, filter_map, if◌then◌else◌, length, map, nat_eq, nat_lt, not, option_and_then, option_map, refl, suc, true, ℕ, ℤ, ◌&&◌, ◌||◌, ◌++◌, ◌+◌, ◌∷◌, ◌≡◌, ◌≤◌}
use Rattle.std.proofs.Common.{ap, arith, subst, ◌∙◌}
use Rattle.std.proofs.lemmas.Bool.Decides.{nat_tests}
use Rattle.rx_elem.specs.Spots.{Around, Mounted, Spot, around_children, at_root, kept_instances, mounted_as, mounted_at, numbers_of, spot_mark, spots, spots_in, visible_instances}
use Rattle.rx_elem.specs.Trees.{Forest, Mark, Node, child, instance_in, is_hidden, node, none, of_boundary, of_catcher, of_host, of_instance, plain, vacant}
use Rattle.rx_meaning.specs.Expressions.{answers_of}
use Rattle.rx_meaning.specs.Fresh.{Sight, hook_values, version_seen}
use Rattle.rx_queue.specs.History.{Answers, applied, stands_done}
use Rattle.rx_queue.specs.Journal.{Posted, Resolution, Target, belongs_to, committed_value, hook, is_included, is_resource, marked_update, resolutions_by, resource, same_target, standing_after, state_from, state_of}
use Rattle.rx_queue.specs.declared.entry.Standing.{Standing}
use Rattle.rx_queue.specs.declared.entry.Standing.TheVariants.{Done, Open, Owed}
use Rattle.rx_susp.specs.declared.boundary.BoundaryState.TheVariants.{Hidden, Shown}
use Rattle.commit_laws.proofs.TakeOver.{done_is_included}
use Rattle.rx_elem.proofs.Deciding.{and_passes, or_left, or_right, same_number}
use Rattle.commit_laws.specs.HiddenWaits.{AllSeen, NumberSeen, Seen}
use Rattle.rx_meaning.specs.Settled.{DoneBefore, Known, TargetsBelow, done_values, includes, number_of, version_done}
use Rattle.rx_lane.specs.Lanes as lanes_of

-- Marks

-- each update of this target passes the one test after a change exactly if it passed the other before
abbrev EachPasses : Target → (Posted → Posted) → (Posted → Bool) → List Posted → Type 0
EachPasses t f test [] = Unit {0}
EachPasses t f test (u ∷ us) = (same_target t u.target ≡ true → stands_done (f u).standing ≡ test u) × EachPasses t f test us

-- a change of standings alone
abbrev pub with_standing : (Posted → Standing) → Posted → Posted
with_standing f u = record u { standing = f u }

states_change : (answers : Answers) (t : Target) (f : Posted → Standing) (test : Posted → Bool) (us : List Posted) → EachPasses t (with_standing f) test us → (x : ℤ)
    → state_from answers (λ u. stands_done u.standing) x (filter (λ u. same_target t u.target) (map (with_standing f) us)) ≡ state_from answers test x (filter (λ u. same_target t u.target) us)
states_change answers t f test [] h x = refl
states_change answers t f test (u ∷ us) h x = go (same_target t u.target) refl (states_change answers t f test us h.1)
  where
    pick : (b : Bool) → test u ≡ b → stands_done (f u) ≡ b
        → ((x : ℤ) → state_from answers (λ u. stands_done u.standing) x (filter (λ u. same_target t u.target) (map (with_standing f) us)) ≡ state_from answers test x (filter (λ u. same_target t u.target) us))
        → state_from answers (λ u. stands_done u.standing) x (with_standing f u ∷ filter (λ u. same_target t u.target) (map (with_standing f) us))
        ≡ state_from answers test x (u ∷ filter (λ u. same_target t u.target) us)
    pick true y z r = rw (y, z, r (applied answers x u.update.op)) refl
    pick false y z r = rw (y, z, r x) refl

    go : (b : Bool) → same_target t u.target ≡ b
        → ((x : ℤ) → state_from answers (λ u. stands_done u.standing) x (filter (λ u. same_target t u.target) (map (with_standing f) us)) ≡ state_from answers test x (filter (λ u. same_target t u.target) us))
        → state_from answers (λ u. stands_done u.standing) x (cond b (with_standing f u ∷ filter (λ u. same_target t u.target) (map (with_standing f) us)) (filter (λ u. same_target t u.target) (map (with_standing f) us)))
        ≡ state_from answers test x (cond b (u ∷ filter (λ u. same_target t u.target) us) (filter (λ u. same_target t u.target) us))
    go true same r = pick (test u) refl (h.0 same) r
    go false same r = r x

-- as many pass the one test after the change as passed the other before
counts_change : (t : Target) (f : Posted → Standing) (test : Posted → Bool) (us : List Posted) → EachPasses t (with_standing f) test us
    → length (filter (λ u. stands_done u.standing) (filter (λ u. same_target t u.target) (map (with_standing f) us))) ≡ length (filter test (filter (λ u. same_target t u.target) us))
counts_change t f test [] h = refl
counts_change t f test (u ∷ us) h = go (same_target t u.target) refl (counts_change t f test us h.1)
  where
    pick : (b : Bool) → test u ≡ b → stands_done (f u) ≡ b
        → length (filter (λ u. stands_done u.standing) (filter (λ u. same_target t u.target) (map (with_standing f) us))) ≡ length (filter test (filter (λ u. same_target t u.target) us))
        → length (filter (λ u. stands_done u.standing) (with_standing f u ∷ filter (λ u. same_target t u.target) (map (with_standing f) us)))
        ≡ length (filter test (u ∷ filter (λ u. same_target t u.target) us))
    pick true y z r = rw (y, z) (ap suc r)
    pick false y z r = rw (y, z) r

    go : (b : Bool) → same_target t u.target ≡ b
        → length (filter (λ u. stands_done u.standing) (filter (λ u. same_target t u.target) (map (with_standing f) us))) ≡ length (filter test (filter (λ u. same_target t u.target) us))
        → length (filter (λ u. stands_done u.standing) (cond b (with_standing f u ∷ filter (λ u. same_target t u.target) (map (with_standing f) us)) (filter (λ u. same_target t u.target) (map (with_standing f) us))))
        ≡ length (filter test (cond b (u ∷ filter (λ u. same_target t u.target) us) (filter (λ u. same_target t u.target) us)))
    go true same r = pick (test u) refl (h.0 same) r
    go false same r = r

-- the target of a hook has its instance
pub target_has : (set : List ℕ) (n k : ℕ) (t : Target) (b : Bool) → includes set n ≡ b → same_target (hook n k) t ≡ true → belongs_to set t ≡ b
target_has set n k (hook i l) b h same =
    let both = and_passes (nat_eq n i) (nat_eq k l) same in
    let equal : n ≡ i = same_number n i both.0 in
    subst (λ (m : ℕ). includes set m ≡ b) equal h
target_has set n k (resource r) b h same = absurd (cc same)

-- it is no resource
pub no_resource : (n k : ℕ) (t : Target) → same_target (hook n k) t ≡ true → is_resource t ≡ false
no_resource n k (hook i l) same = refl
no_resource n k (resource r) same = absurd (cc same)

-- the target of a refresh is a resource
pub of_resource : (r : ℕ) (t : Target) → same_target (resource r) t ≡ true → is_resource t ≡ true
of_resource r (hook i l) same = absurd (cc same)
of_resource r (resource q) same = refl

owed_or : (x b : Bool) (st : Standing) → stands_done st ≡ false → stands_done (if x && (not (stands_done st) && b) then Owed else st) ≡ false
owed_or true true Open h = refl
owed_or true false Open h = refl
owed_or false b Open h = refl
owed_or true true Owed h = refl
owed_or true false Owed h = refl
owed_or false b Owed h = refl
owed_or x b Done h = absurd (cc h)

done_stays : (x b : Bool) → stands_done (if x && (not (stands_done Done) && b) then Owed else Done) ≡ true
done_stays true b = refl
done_stays false b = refl

-- an update of a visible instance, or of a resource, is done exactly if it was included
done_when_shown : (inc shown x b : Bool) (st : Standing) → shown ≡ true → (stands_done st ≡ true → inc ≡ true)
    → stands_done (if inc && shown then Done else if x && (not (stands_done st) && b) then Owed else st) ≡ inc
done_when_shown true shown x b st h k = rw h refl
done_when_shown false shown x b Open h k = owed_or x b Open refl
done_when_shown false shown x b Owed h k = owed_or x b Owed refl
done_when_shown false shown x b Done h k = absurd (cc (k refl))

not_owed : (x b : Bool) (st : Standing) → stands_done (if x && (not (stands_done st) && b) then Owed else st) ≡ stands_done st
not_owed x b Open = owed_or x b Open refl
not_owed x b Owed = owed_or x b Owed refl
not_owed x b Done = done_stays x b

-- an update of another one is done exactly if it was
done_when_kept : (inc shown x b : Bool) (st : Standing) → shown ≡ false → stands_done (if inc && shown then Done else if x && (not (stands_done st) && b) then Owed else st) ≡ stands_done st
done_when_kept true shown x b st h = rw h (not_owed x b st)
done_when_kept false shown x b st h = not_owed x b st

pub neither : (a b : Bool) → a ≡ false → b ≡ false → (a || b) ≡ false
neither a b h k = rw (h, k) refl

module _ (s : Sight) (visible kept : List ℕ) (before : DoneBefore s.cut s.journal.updates) where
  mark : Posted → Standing
  mark u = standing_after s.lanes s.cut visible kept u

  -- what is known for good after the commit
  abbrev pub after_commit : Known
  after_commit = record { updates = map (marked_update s.lanes s.cut visible kept) s.journal.updates; resolutions = resolutions_by s.cut s.journal }

  visible_pass : (n k : ℕ) → includes visible n ≡ true → (us : List Posted) → DoneBefore s.cut us
      → EachPasses (hook n k) (marked_update s.lanes s.cut visible kept) (is_included s.lanes s.cut) us
  visible_pass n k h [] d = tt
  visible_pass n k h (u ∷ us) d = (
    λ same. done_when_shown (is_included s.lanes s.cut u) (belongs_to visible u.target || is_resource u.target)
        (nat_lt u.update.number s.cut.updates) (lanes_of.has s.lanes u.update.lane && belongs_to kept u.target) u.standing
        (or_left (belongs_to visible u.target) (is_resource u.target) (target_has visible n k u.target true h same)) (done_is_included s.lanes s.cut u d.0),
    visible_pass n k h us d.1,
  )

  kept_pass : (n k : ℕ) → includes visible n ≡ false → (us : List Posted) → EachPasses (hook n k) (marked_update s.lanes s.cut visible kept) (λ u. stands_done u.standing) us
  kept_pass n k h [] = tt
  kept_pass n k h (u ∷ us) = (
    λ same. done_when_kept (is_included s.lanes s.cut u) (belongs_to visible u.target || is_resource u.target)
        (nat_lt u.update.number s.cut.updates) (lanes_of.has s.lanes u.update.lane && belongs_to kept u.target) u.standing
        (neither (belongs_to visible u.target) (is_resource u.target) (target_has visible n k u.target false h same) (no_resource n k u.target same)),
    kept_pass n k h us,
  )

  -- the values that a visible instance had in the render are done
  pub visible_values : (n : ℕ) → includes visible n ≡ true → (initials : List ℤ) → hook_values s n initials ≡ done_values s.program after_commit n initials
  unfolding state_of committed_value
  visible_values n h initials = from 0 initials
    where
      from : (k : ℕ) (xs : List ℤ)
          → map (λ h. state_of (answers_of s.program) s.lanes s.cut h.1 (filter (λ u. same_target (hook n h.0) u.target) s.journal.updates)) (enumerate_from k xs)
          ≡ map (λ h. committed_value (answers_of s.program) h.1 (filter (λ u. same_target (hook n h.0) u.target) after_commit.updates)) (enumerate_from k xs)
      from k [] = refl
      from k (x ∷ xs) =
          rw (states_change (answers_of s.program) (hook n k) (standing_after s.lanes s.cut visible kept) (is_included s.lanes s.cut) s.journal.updates (visible_pass n k h s.journal.updates before) x, from (k + 1) xs) refl

  -- those of a kept one stay
  pub kept_values : (rs : List Resolution) (n : ℕ) → includes visible n ≡ false → (initials : List ℤ)
      → done_values s.program (record { updates = s.journal.updates; resolutions = rs }) n initials ≡ done_values s.program after_commit n initials
  unfolding committed_value
  kept_values rs n h initials = from 0 initials
    where
      from : (k : ℕ) (xs : List ℤ)
          → map (λ h. committed_value (answers_of s.program) h.1 (filter (λ u. same_target (hook n h.0) u.target) s.journal.updates)) (enumerate_from k xs)
          ≡ map (λ h. committed_value (answers_of s.program) h.1 (filter (λ u. same_target (hook n h.0) u.target) after_commit.updates)) (enumerate_from k xs)
      from k [] = refl
      from k (x ∷ xs) =
          rw (states_change (answers_of s.program) (hook n k) (standing_after s.lanes s.cut visible kept) (λ u. stands_done u.standing) s.journal.updates (kept_pass n k h s.journal.updates) x, from (k + 1) xs) refl

  -- the refreshes of a resource that are done are those that the render included
  refresh_pass : (r : ℕ) (us : List Posted) → DoneBefore s.cut us → EachPasses (resource r) (marked_update s.lanes s.cut visible kept) (is_included s.lanes s.cut) us
  refresh_pass r [] d = tt
  refresh_pass r (u ∷ us) d = (
    λ same. done_when_shown (is_included s.lanes s.cut u) (belongs_to visible u.target || is_resource u.target)
        (nat_lt u.update.number s.cut.updates) (lanes_of.has s.lanes u.update.lane && belongs_to kept u.target) u.standing
        (or_right (belongs_to visible u.target) (is_resource u.target) (of_resource r u.target same)) (done_is_included s.lanes s.cut u d.0),
    refresh_pass r us d.1,
  )

  -- the versions that the render saw are done
  pub versions_are_done : (r : ℕ) → version_done after_commit.updates r ≡ version_seen s r
  versions_are_done r =
      counts_change (resource r) (standing_after s.lanes s.cut visible kept) (is_included s.lanes s.cut) s.journal.updates (refresh_pass r s.journal.updates before)

  none_of : (n k : ℕ) (us : List Posted) (next : ℕ) → next ≤ n → TargetsBelow next us → filter (λ u. same_target (hook n k) u.target) (map (marked_update s.lanes s.cut visible kept) us) ≡ []
  none_of n k [] next l h = refl
  none_of n k (u ∷ us) next l h = rw (h.0 k n l, none_of n k us next l h.1) refl

  -- a new instance has no update yet
  pub new_values : (n next : ℕ) → next ≤ n → TargetsBelow next s.journal.updates → (initials : List ℤ) → done_values s.program after_commit n initials ≡ initials
  unfolding committed_value
  new_values n next l h initials = from 0 initials
    where
      from : (k : ℕ) (xs : List ℤ)
          → map (λ h. committed_value (answers_of s.program) h.1 (filter (λ u. same_target (hook n h.0) u.target) after_commit.updates)) (enumerate_from k xs) ≡ xs
      from k [] = refl
      from k (x ∷ xs) = rw (none_of n k s.journal.updates next l h, from (k + 1) xs) refl

-- Where the instances of a tree are listed

abbrev SpotSeen : (visible kept : List ℕ) → Spot → Type 0
SpotSeen visible kept x = NumberSeen visible kept x.around.visible (number_of (spot_mark x))

abbrev AllSpots : (visible kept : List ℕ) → List Spot → Type 0
AllSpots visible kept [] = Unit {0}
AllSpots visible kept (x ∷ xs) = SpotSeen visible kept x × AllSpots visible kept xs

first_spots : (visible kept : List ℕ) (xs ys : List Spot) → AllSpots visible kept (xs ++ ys) → AllSpots visible kept xs
first_spots visible kept [] ys h = tt
first_spots visible kept (x ∷ xs) ys h = (h.0, first_spots visible kept xs ys h.1)

last_spots : (visible kept : List ℕ) (xs ys : List Spot) → AllSpots visible kept (xs ++ ys) → AllSpots visible kept ys
last_spots visible kept [] ys h = h
last_spots visible kept (x ∷ xs) ys h = last_spots visible kept xs ys h.1

pub within_visible : (a : Around) (m : Mark) → (around_children a m).visible ≡ cond (is_hidden m) false a.visible
within_visible a (of_instance i) = refl
within_visible a (of_host None) = refl
within_visible a (of_host (Some n)) = refl
within_visible a plain = refl
within_visible a (of_boundary Shown) = refl
within_visible a (of_boundary (Hidden w)) = refl
within_visible a (of_catcher k) = refl

mutual
  spots_seen : (visible kept : List ℕ) (a : Around) (n : Node) → AllSpots visible kept (spots a n) → Seen visible kept a.visible n
  spots_seen visible kept a (node e m ns fs) h = (
    h.0,
    subst (λ (v : Bool). AllSeen visible kept v ns) (within_visible a m)
        (all_spots_seen visible kept (around_children a m) ns (first_spots visible kept (spots_in (around_children a m) ns) (spots_in a fs) h.1)),
    all_spots_seen visible kept a fs (last_spots visible kept (spots_in (around_children a m) ns) (spots_in a fs) h.1),
  )

  all_spots_seen : (visible kept : List ℕ) (a : Around) (ns : Forest) → AllSpots visible kept (spots_in a ns) → AllSeen visible kept a.visible ns
  all_spots_seen visible kept a none h = tt
  all_spots_seen visible kept a (vacant ns) h = all_spots_seen visible kept a ns h
  all_spots_seen visible kept a (child n ns) h = (
    spots_seen visible kept a n (first_spots visible kept (spots a n) (spots_in a ns) h),
    all_spots_seen visible kept a ns (last_spots visible kept (spots a n) (spots_in a ns) h),
  )

-- what is listed of some spots is among these
abbrev pub Among : (Spot → Option ℕ) → List Spot → List ℕ → Type 0
Among f xs set = (i : ℕ) → includes (filter_map f xs) i ≡ true → includes set i ≡ true

-- a number if this holds
abbrev pub number_if : Bool → Option ℕ → Option ℕ
number_if true n = n
number_if false n = None

abbrev pub visible_at : Spot → Option ℕ
visible_at s = number_if s.around.visible (number_of (spot_mark s))

abbrev pub kept_at : Spot → Option ℕ
kept_at s = number_if (not s.around.visible) (number_of (spot_mark s))

none_if : (v : Bool) → number_if v None ≡ None
none_if true = refl
none_if false = refl

one_listed : (f : Bool → Bool) (a : Around) (m : Mark) (ys : List Mounted)
    → numbers_of (filter (λ m. f m.visible) (cons_option (option_and_then (mounted_as a) (instance_in m)) ys)) ≡ cons_option (number_if (f a.visible) (number_of m)) (numbers_of (filter (λ m. f m.visible) ys))
one_listed f a (of_instance i) ys = go i.number (f a.visible) refl
  where
    go : (n : Option ℕ) (v : Bool) → f a.visible ≡ v
        → numbers_of (filter (λ m. f m.visible) (cons_option (option_map (λ n. record { number = n; component = i.component; initials = i.initials; owner = a.owner; visible = a.visible }) n) ys))
        ≡ cons_option (number_if v n) (numbers_of (filter (λ m. f m.visible) ys))
    go None v same = rw (none_if v) refl
    go (Some n) true same = rw same refl
    go (Some n) false same = rw same refl
one_listed f a (of_host h) ys = rw (none_if (f a.visible)) refl
one_listed f a plain ys = rw (none_if (f a.visible)) refl
one_listed f a (of_boundary b) ys = rw (none_if (f a.visible)) refl
one_listed f a (of_catcher k) ys = rw (none_if (f a.visible)) refl

all_listed : (f : Bool → Bool) (xs : List Spot) → numbers_of (filter (λ m. f m.visible) (mounted_at xs)) ≡ filter_map (λ s. number_if (f s.around.visible) (number_of (spot_mark s))) xs
all_listed f [] = refl
all_listed f (x ∷ xs) =
    one_listed f x.around (spot_mark x) (mounted_at xs)
    ∙ ap (cons_option (number_if (f x.around.visible) (number_of (spot_mark x)))) (all_listed f xs)

-- the instances of a tree, by its spots
pub visible_listed : (n : Node) → visible_instances (Some n) ≡ filter_map visible_at (spots at_root n)
visible_listed n = all_listed (λ v. v) (spots at_root n)

pub kept_listed : (n : Node) → kept_instances (Some n) ≡ filter_map kept_at (spots at_root n)
kept_listed n = all_listed not (spots at_root n)

pub among_first : (f : Spot → Option ℕ) (x : Spot) (xs : List Spot) (set : List ℕ) → Among f (x ∷ xs) set → (i : ℕ) → f x ≡ Some i → includes set i ≡ true
among_first f x xs set h i same = h i (there (f x) same)
  where
    number_is_itself : nat_eq i i ≡ true
    number_is_itself = grind (arith, nat_tests)

    there : (o : Option ℕ) → o ≡ Some i → includes (filter_map f (x ∷ xs)) i ≡ true
    there o e = rw same (rw number_is_itself refl)

pub among_rest : (f : Spot → Option ℕ) (x : Spot) (xs : List Spot) (set : List ℕ) → Among f (x ∷ xs) set → Among f xs set
among_rest f x xs set h i there = h i (go (f x) refl)
  where
    go : (o : Option ℕ) → f x ≡ o → includes (filter_map f (x ∷ xs)) i ≡ true
    go None e = rw e there
    go (Some n) e = rw e (or_right (nat_eq i n) (includes (filter_map f xs) i) there)

listed_seen : (visible kept : List ℕ) (xs : List Spot) → Among visible_at xs visible → Among kept_at xs kept → AllSpots visible kept xs
listed_seen visible kept [] h l = tt
listed_seen visible kept (x ∷ xs) h l = (
  go x.around.visible refl (among_first visible_at x xs visible h) (among_first kept_at x xs kept l),
  listed_seen visible kept xs (among_rest visible_at x xs visible h) (among_rest kept_at x xs kept l),
)
  where
    go : (v : Bool) → x.around.visible ≡ v
        → ((i : ℕ) → number_if v (number_of (spot_mark x)) ≡ Some i → includes visible i ≡ true)
        → ((i : ℕ) → number_if (not v) (number_of (spot_mark x)) ≡ Some i → includes kept i ≡ true)
        → NumberSeen visible kept v (number_of (spot_mark x))
    go true e f g = f
    go false e f g = g

pub tree_seen : (n : Node) → Seen (visible_instances (Some n)) (kept_instances (Some n)) true n
tree_seen n = spots_seen (visible_instances (Some n)) (kept_instances (Some n)) at_root n
    (listed_seen (visible_instances (Some n)) (kept_instances (Some n)) (spots at_root n)
    (λ i h. ap (λ (l : List ℕ). includes l i) (visible_listed n) ∙ h) (λ i h. ap (λ (l : List ℕ). includes l i) (kept_listed n) ∙ h))
