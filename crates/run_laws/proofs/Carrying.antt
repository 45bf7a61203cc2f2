-- What the steps of the machine do to what a state carries.
use Rattle.std.specs.Prelude.{Bool, List, None, Option, Some, [], cond, false, filter, filter_map, length, map, nat_eq, nat_lt, option_and_then, refl, slice_get, suc, take, true, zero, ℕ, ◌++◌, ◌+◌, ◌<◌, ◌||◌, ◌∷◌, ◌≡◌, ◌≤◌}
use Rattle.std.proofs.Common.{ap, append-nil, append_assoc, arith, le_trans, subst, sym, ◌∙◌}
use Rattle.std.proofs.lemmas.Bool.Decides.{nat_tests}
use Rattle.std.proofs.lemmas.List.{length-append}
use Rattle.std.proofs.Math.Seq.{take-length}
use Rattle.rx_ast.specs.Syntax.{Program}
use Rattle.rx_base.specs.declared.cut.Cut.{Cut}
use Rattle.rx_rules.specs.Bounds.{depth_bound}
use Rattle.rx_elem.specs.Numbers.{Numbers, numbered}
use Rattle.rx_elem.specs.Spots.{Mounted, Spot, at_root, kept_instances, mounted, numbers_of, spot_mark, spots, visible_instances}
use Rattle.rx_elem.specs.Trees.{Node}
use Rattle.rx_meaning.specs.Fresh.{default_contexts, depth_limit, fresh, made, part}
use Rattle.rx_meaning.specs.Outcome.{journal_after}
use Rattle.rx_lane.specs.Lanes.{Lanes}
use Rattle.rx_model.specs.State.{find_from, instance_found, is_step, step_to}
use Rattle.rx_queue.specs.History.{stands_done, stands_owed}
use Rattle.rx_queue.specs.Journal.{Journal, Posted, Resolution, cut_now, hook, marked_update, resolutions_by, same_target}
use Rattle.rx_queue.specs.declared.entry.Standing.{Standing}
use Rattle.rx_queue.specs.declared.entry.Standing.TheVariants.{Open}
use Rattle.rx_step.specs.Steps.{Path}
use Rattle.commit_laws.proofs.HiddenLaw.{all_mounted, commit_hides, numbered_at}
use Rattle.rx_elem.proofs.Deciding.{same_itself, same_number}
use Rattle.commit_laws.proofs.OwnNumbers.{has_occurs, occurs, occurs_option, spot_times, spots_times}
use Rattle.commit_laws.proofs.QuietTree.{root_stays}
use Rattle.commit_laws.proofs.ResourceLaws.{values_stay}
use Rattle.commit_laws.proofs.Soundness.{commit_keeps, update_keeps}
use Rattle.rx_meaning.specs.Again.{AccountedBefore, AllOpen}
use Rattle.run_laws.specs.Carried.{Carries, IfCommitted, NumbersBelow, RendersOn, sight_at}
use Rattle.commit_laws.specs.HiddenWaits.{HiddenWaits, Numbered}
use Rattle.rx_meaning.specs.Settled.{DoneBefore, HasOwnNumbers, HasValuesOf, includes, number_of}
use Rattle.rx_rules.specs.Reads.{ReadsDeclared}

more_of : (a b c : List Resolution) → HasValuesOf a b → HasValuesOf b c → HasValuesOf a c
more_of a b c f g r v x h = g r v x (f r v x h)

-- a longer list has the values of a shorter one that it begins with
taken_more : (n : ℕ) (rs more : List Resolution) → n ≤ length rs → HasValuesOf (take n rs) (rs ++ more)
taken_more n rs more l =
    subst (λ (xs : List Resolution). HasValuesOf (take n rs) xs) (take-length (rs ++ more))
    (values_stay (record { updates = []; resolutions = rs }) [] more (record { updates = 0; resolutions = n }) (record { updates = 0; resolutions = length (rs ++ more) }) (le_trans l (longer_list rs more)))
  where
    longer_list : (xs ys : List Resolution) → length xs ≤ length (xs ++ ys)
    longer_list xs ys = simp length-append (omega arith)

more_appended : (rs more : List Resolution) → HasValuesOf rs (rs ++ more)
more_appended rs more = subst (λ (xs : List Resolution). HasValuesOf xs (rs ++ more)) (take-length rs) (taken_more (length rs) rs more (omega arith))

-- Journals

below_push : (n : ℕ) (us : List Posted) (u : Posted) → NumbersBelow n us → u.update.number < n + 1 → NumbersBelow (n + 1) (us ++ u ∷ [])
below_push n [] u h k = (k, tt)
below_push n (v ∷ us) u h k = (omega (arith, h.0), below_push n us u h.1 k)

below_marked : (n : ℕ) (lanes : Lanes) (cut : Cut) (visible kept : List ℕ) (us : List Posted) → NumbersBelow n us → NumbersBelow n (map (marked_update lanes cut visible kept) us)
below_marked n lanes cut visible kept [] h = tt
below_marked n lanes cut visible kept (u ∷ us) h = (h.0, below_marked n lanes cut visible kept us h.1)

marked_length : (lanes : Lanes) (cut : Cut) (visible kept : List ℕ) (us : List Posted) → length (map (marked_update lanes cut visible kept) us) ≡ length us
marked_length lanes cut visible kept [] = refl
marked_length lanes cut visible kept (u ∷ us) = omega (arith, marked_length lanes cut visible kept us)

pub all_accounted : (cut : Cut) (us : List Posted) → NumbersBelow cut.updates us → AccountedBefore cut us
all_accounted cut [] h = tt
all_accounted cut (u ∷ us) h =
    let passes : nat_lt u.update.number cut.updates ≡ true = let lt = h.0 in grind (arith, nat_tests) in
    ((λ d. passes, λ o. passes), all_accounted cut us h.1)

accounted_push : (cut : Cut) (us : List Posted) (u : Posted) → AccountedBefore cut us → u.standing ≡ Open → AccountedBefore cut (us ++ u ∷ [])
accounted_push cut [] u h k = ((λ d. absurd (not_done u.standing k d), λ o. absurd (not_owed u.standing k o)), tt)
  where
    not_done : (st : Standing) → st ≡ Open → stands_done st ≡ true → ⊥
    not_done st e d = let x : stands_done Open ≡ true = rw e at d in cc x

    not_owed : (st : Standing) → st ≡ Open → stands_owed st ≡ true → ⊥
    not_owed st e d = let x : stands_owed Open ≡ true = rw e at d in cc x
accounted_push cut (v ∷ us) u h k = (h.0, accounted_push cut us u h.1 k)

pub done_before : (cut : Cut) (us : List Posted) → AccountedBefore cut us → DoneBefore cut us
done_before cut [] h = tt
done_before cut (u ∷ us) h = (h.0.0, done_before cut us h.1)

open_push : (us : List Posted) (u : Posted) → AllOpen us → u.standing ≡ Open → AllOpen (us ++ u ∷ [])
open_push [] u h k = (ap stands_done k, ap stands_owed k, tt)
open_push (v ∷ us) u h k = (h.0, h.1, open_push us u h.2 k)

-- An update

last_update : (p : Program) (j : Journal) (cut : Cut) (tree : Option Node) (u : Posted) → u.standing ≡ Open → IfCommitted p j cut tree
    → IfCommitted p (record j { updates = j.updates ++ u ∷ [] }) cut tree
last_update p j cut None u k h = tt
last_update p j cut (Some n) u k h =
    record {
      lanes = h.lanes;
      journal = h.journal;
      seen = h.seen;
      accounted = h.accounted;
      within = h.within;
      waits = h.waits;
      new = h.new ++ u ∷ [];
      opened = open_push h.new u h.opened k;
      updates_are = ap (λ (us : List Posted). us ++ u ∷ []) h.updates_are ∙ append_assoc (journal_after h.lanes cut n h.journal).updates h.new (u ∷ []);
      more = h.more;
      resolutions_are = h.resolutions_are;
    }

pub update_carries : (p : Program) (j : Journal) (numbers : Numbers) (tree : Option Node) (u : Posted) → u.standing ≡ Open → u.update.number ≡ length j.updates
    → ((k i : ℕ) → numbers.instance ≤ i → same_target (hook i k) u.target ≡ false)
    → (known : List Resolution) (last : Cut) → Carries p j numbers tree known last → Carries p (record j { updates = j.updates ++ u ∷ [] }) numbers tree known last
update_carries p j numbers tree u is_open number below known last c =
    record {
      below = subst (λ (n : ℕ). NumbersBelow n (j.updates ++ u ∷ [])) (sym (pushed_length j.updates u)) (below_push (length j.updates) j.updates u c.below (omega (arith, number)));
      sound = update_keeps p j.updates known numbers.instance tree u (ap stands_done is_open) below c.sound;
      seen = c.seen;
      numbered = c.numbered;
      rooted = c.rooted;
      updates_before = let l = c.updates_before in let m = pushed_length j.updates u in omega arith;
      resolutions_before = c.resolutions_before;
      committed = last_update p j last tree u is_open c.committed;
    }
  where
    pushed_length : (us : List Posted) (u : Posted) → length (us ++ u ∷ []) ≡ length us + 1
    pushed_length us u = simp length-append (omega arith)

pub update_renders : (p : Program) (j : Journal) (known : List Resolution) (from : Cut) (lanes : Lanes) (cut : Cut) (u : Posted) → u.standing ≡ Open
    → RendersOn p j known from lanes cut → RendersOn p (record j { updates = j.updates ++ u ∷ [] }) known from lanes cut
update_renders p j known from lanes cut u is_open r =
    record {
      updates_grow = r.updates_grow;
      resolutions_grow = r.resolutions_grow;
      updates_before = let l = r.updates_before in let m : length (j.updates ++ u ∷ []) ≡ length j.updates + 1 = simp length-append (omega arith) in omega arith;
      resolutions_before = r.resolutions_before;
      accounted = accounted_push cut j.updates u r.accounted is_open;
      more = r.more;
    }

-- A resolution

last_resolution : (p : Program) (j : Journal) (cut : Cut) (tree : Option Node) (x : Resolution) → IfCommitted p j cut tree
    → IfCommitted p (record j { resolutions = j.resolutions ++ x ∷ [] }) cut tree
last_resolution p j cut None x h = tt
last_resolution p j cut (Some n) x h =
    record {
      lanes = h.lanes;
      journal = h.journal;
      seen = h.seen;
      accounted = h.accounted;
      within = h.within;
      waits = h.waits;
      new = h.new;
      opened = h.opened;
      updates_are = h.updates_are;
      more = h.more ++ x ∷ [];
      resolutions_are = ap (λ (xs : List Resolution). xs ++ x ∷ []) h.resolutions_are ∙ append_assoc h.journal.resolutions h.more (x ∷ []);
    }

longer : (xs : List Resolution) (x : Resolution) → length xs ≤ length (xs ++ x ∷ [])
longer xs x = simp length-append (omega arith)

pub resolution_carries : (p : Program) (j : Journal) (numbers : Numbers) (tree : Option Node) (x : Resolution)
    → (known : List Resolution) (last : Cut) → Carries p j numbers tree known last → Carries p (record j { resolutions = j.resolutions ++ x ∷ [] }) numbers tree known last
resolution_carries p j numbers tree x known last c =
    record {
      below = c.below;
      sound = c.sound;
      seen = more_of known j.resolutions (j.resolutions ++ x ∷ []) c.seen (more_appended j.resolutions (x ∷ []));
      numbered = c.numbered;
      rooted = c.rooted;
      updates_before = c.updates_before;
      resolutions_before = le_trans c.resolutions_before (longer j.resolutions x);
      committed = last_resolution p j last tree x c.committed;
    }

pub resolution_renders : (p : Program) (j : Journal) (known : List Resolution) (from : Cut) (lanes : Lanes) (cut : Cut) (x : Resolution)
    → RendersOn p j known from lanes cut → RendersOn p (record j { resolutions = j.resolutions ++ x ∷ [] }) known from lanes cut
resolution_renders p j known from lanes cut x r =
    record {
      updates_grow = r.updates_grow;
      resolutions_grow = r.resolutions_grow;
      updates_before = r.updates_before;
      resolutions_before = le_trans r.resolutions_before (longer j.resolutions x);
      accounted = r.accounted;
      more = more_of known (resolutions_by cut j) (resolutions_by cut (record j { resolutions = j.resolutions ++ x ∷ [] })) r.more
          (values_stay j j.updates (x ∷ []) cut cut (omega arith));
    }

-- A render that starts

pub start_renders : (p : Program) (j : Journal) (numbers : Numbers) (tree : Option Node) (lanes : Lanes) (known : List Resolution) (last : Cut) → Carries p j numbers tree known last
    → RendersOn p j known last lanes (cut_now j)
start_renders p j numbers tree lanes known last c =
    record {
      updates_grow = c.updates_before;
      resolutions_grow = c.resolutions_before;
      updates_before = omega arith;
      resolutions_before = omega arith;
      accounted = all_accounted (cut_now j) j.updates c.below;
      more = subst (λ (xs : List Resolution). HasValuesOf known xs) (sym (take-length j.resolutions)) c.seen;
    }

-- A commit

pub commit_carries : (p : Program) (j : Journal) (numbers : Numbers) (tree : Option Node) (lanes : Lanes) (cut : Cut) (seen : ℕ) (new : Node)
    → depth_bound p ≤ depth_limit → ReadsDeclared p → (known : List Resolution) (last : Cut) → Carries p j numbers tree known last → RendersOn p j known last lanes cut
    → fresh (sight_at p j lanes cut seen) tree ≡ made new
    → Carries p (journal_after lanes cut (numbered numbers new).1 j) (numbered numbers new).0 (Some (numbered numbers new).1)
    (resolutions_by cut j) cut
commit_carries p j numbers tree lanes cut seen new deep declared known last c r gives =
    record {
      below = subst (λ (n : ℕ). NumbersBelow n (map (marked_update lanes cut (visible_instances (Some (numbered numbers new).1)) (kept_instances (Some (numbered numbers new).1))) j.updates))
          (sym (marked_length lanes cut (visible_instances (Some (numbered numbers new).1)) (kept_instances (Some (numbered numbers new).1)) j.updates))
          (below_marked (length j.updates) lanes cut (visible_instances (Some (numbered numbers new).1)) (kept_instances (Some (numbered numbers new).1)) j.updates c.below);
      sound = commit_keeps (sight_at p j lanes cut seen) tree new numbers known deep declared (done_before cut j.updates r.accounted) r.more c.sound gives;
      seen = subst (λ (xs : List Resolution). HasValuesOf (resolutions_by cut j) xs) (append-nil j.resolutions) (taken_more cut.resolutions j.resolutions [] r.resolutions_before);
      numbered = hides.1;
      rooted = root_stays (sight_at p j lanes cut seen) tree new numbers gives;
      updates_before = let same = marked_length lanes cut (visible_instances (Some (numbered numbers new).1)) (kept_instances (Some (numbered numbers new).1)) j.updates in
          let l = r.updates_before in omega arith;
      resolutions_before = r.resolutions_before;
      committed =
          record {
            lanes = lanes;
            journal = j;
            seen = seen;
            accounted = r.accounted;
            within = r.resolutions_before;
            waits = hides.0;
            new = [];
            opened = tt;
            updates_are = sym (append-nil after);
            more = [];
            resolutions_are = sym (append-nil j.resolutions);
          };
    }
  where
    after : List Posted
    after = (journal_after lanes cut (numbered numbers new).1 j).updates

    hides : HiddenWaits depth_limit (sight_at p j lanes cut seen) (default_contexts p) (numbered numbers new).1 × Numbered (numbered numbers new).1
    hides = commit_hides (sight_at p j lanes cut seen) tree new numbers c.numbered gives

-- Instances that a path leads to

number_there : (all : List Mounted) (m : Mounted) (test : Mounted → Bool) (k : ℕ) → slice_get (filter test all) k ≡ Some m → includes (numbers_of all) m.number ≡ true
number_there [] m test k h = absurd (cc h)
number_there (x ∷ xs) m test k h = go (test x) k h (number_there xs m test)
  where
    or_right : (a b : Bool) → b ≡ true → (a || b) ≡ true
    or_right true b h = refl
    or_right false b h = h

    go : (b : Bool) (k : ℕ) → slice_get (cond b (x ∷ filter test xs) (filter test xs)) k ≡ Some m
        → ((k : ℕ) → slice_get (filter test xs) k ≡ Some m → includes (numbers_of xs) m.number ≡ true) → includes (numbers_of (x ∷ xs)) m.number ≡ true
    go false k e rest = or_right (nat_eq m.number x.number) (includes (numbers_of xs) m.number) (rest k e)
    go true zero e rest =
        let same : x ≡ m = cc in
        let itself : nat_eq m.number x.number ≡ true = subst (λ (n : ℕ). nat_eq m.number n ≡ true) (ap (λ (y : Mounted). y.number) (sym same)) (same_itself m.number) in
        rw itself refl
    go true (suc k) e rest = or_right (nat_eq m.number x.number) (includes (numbers_of xs) m.number) (rest k e)

found_there : (p : Program) (all : List Mounted) (owner : Option ℕ) (path : Path) (m : Mounted) → find_from p all owner path ≡ Some m → includes (numbers_of all) m.number ≡ true
found_there p all owner [] m h = absurd (cc h)
found_there p all owner (part ∷ []) m h = number_there all m (is_step p owner part.0) part.1 h
found_there p all owner (part ∷ q ∷ parts) m h = go (step_to p all owner part) h (λ n. found_there p all (Some n.number) (q ∷ parts) m)
  where
    go : (x : Option Mounted) → option_and_then (λ n. find_from p all (Some n.number) (q ∷ parts)) x ≡ Some m
        → ((n : Mounted) → find_from p all (Some n.number) (q ∷ parts) ≡ Some m → includes (numbers_of all) m.number ≡ true) → includes (numbers_of all) m.number ≡ true
    go None e rest = absurd (cc e)
    go (Some n) e rest = rest n e

listed_times : (n : ℕ) (xs : List Spot) → occurs n (filter_map numbered_at xs) ≡ spot_times n xs
listed_times n [] = refl
listed_times n (x ∷ xs) = omega (arith, occurs_option n (number_of (spot_mark x)) (filter_map numbered_at xs), listed_times n xs)

found_below : (p : Program) (next : ℕ) (tree : Option Node) (path : Path) (m : Mounted) → HasOwnNumbers next tree → instance_found p tree path ≡ Some m
    → (i : ℕ) → next ≤ i → nat_eq i m.number ≡ false
found_below p next None path m own h i late = absurd (none_there (found_there p (mounted None) None path m h))
  where
    none_there : includes (numbers_of (mounted None)) m.number ≡ true → ⊥
    none_there x = cc x
found_below p next (Some x) path m own h i late = go (nat_eq i m.number) refl
  where
    there : includes (filter_map numbered_at (spots at_root x)) m.number ≡ true
    there = ap (λ (l : List ℕ). includes l m.number) (sym (all_mounted (spots at_root x))) ∙ found_there p (mounted (Some x)) None path m h

    go : (b : Bool) → nat_eq i m.number ≡ b → b ≡ false
    go false e = refl
    go true e =
        let some = has_occurs m.number (filter_map numbered_at (spots at_root x)) there in
        let same : i ≡ m.number = same_number i m.number e in
        absurd (omega (arith, some, listed_times m.number (spots at_root x), spots_times m.number at_root x, (own m.number).1 (omega arith)))

pub target_below : (p : Program) (next : ℕ) (tree : Option Node) (path : Path) (m : Mounted) → HasOwnNumbers next tree → instance_found p tree path ≡ Some m
    → (h k i : ℕ) → next ≤ i → same_target (hook i k) (hook m.number h) ≡ false
target_below p next tree path m own found h k i late = rw (found_below p next tree path m own found i late) refl
