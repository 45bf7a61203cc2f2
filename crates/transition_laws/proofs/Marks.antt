-- What a commit makes of an update: what it includes is settled, what was settled stays so, and nothing else becomes done or owed.
use Rattle.std.specs.Prelude.{◌≡◌, ◌⊎◌, ℕ, Bool, true, false, not, ◌||◌, ◌&&◌, if◌then◌else◌, List, Option, Some, refl, slice_get}
use Rattle.std.specs.List.{AllByRecursion}
use Rattle.std.proofs.Common.{inl, inr}
use Rattle.rx_base.specs.declared.cut.Cut.{Cut}
use Rattle.rx_lane.specs.Lanes.{Lanes, has}
use Rattle.rx_elem.specs.Trees.{Node}
use Rattle.rx_elem.specs.Spots.{visible_instances, kept_instances}
use Rattle.rx_queue.specs.declared.entry.Standing.{Standing}
use Rattle.rx_queue.specs.declared.entry.Standing.TheVariants.{Done, Open, Owed}
use Rattle.rx_queue.specs.History.{stands_done, stands_owed}
use Rattle.rx_queue.specs.Journal.{Target, Posted, belongs_to, hook, is_before, is_included, is_resource, marked_update, resource}
use Rattle.commit_laws.proofs.NoneLost.{NoneLost}
use Rattle.transition_laws.specs.Transitions.{is_accounted, is_gone, is_settled}
use Rattle.transition_laws.proofs.Facts.{Pends}
use Rattle.transition_laws.proofs.Lists.{all_got}

-- Included updates

pub included_parts : (lanes : Lanes) (cut : Cut) (u : Posted) → is_accounted u ≡ false → is_included lanes cut u ≡ true → (is_before cut u ≡ true) × (has lanes u.update.lane ≡ true)
included_parts lanes cut u = go (is_before cut u) (stands_done u.standing) (stands_owed u.standing) (has lanes u.update.lane)
  where
    go : (x d o l : Bool) → (d || o) ≡ false → (x && (d || o || l)) ≡ true → (x ≡ true) × (l ≡ true)
    go true true o l e h = absurd (cc e)
    go true false true l e h = absurd (cc e)
    go true false false l e h = (refl, h)
    go false d o l e h = absurd (cc h)

pub included_if : (lanes : Lanes) (cut : Cut) (u : Posted) → is_before cut u ≡ true → has lanes u.update.lane ≡ true → is_included lanes cut u ≡ true
included_if lanes cut u = go (is_before cut u) (stands_done u.standing) (stands_owed u.standing) (has lanes u.update.lane)
  where
    go : (x d o l : Bool) → x ≡ true → l ≡ true → (x && (d || o || l)) ≡ true
    go true true o l h k = refl
    go true false true l h k = refl
    go true false false l h k = k
    go false d o l h k = absurd (cc h)

-- The standing after a commit

-- of an update before the cut or not, with one of the lanes or not, of a visible instance or a resource or not, of a kept instance or not
abbrev after : (x l shown kept : Bool) → Standing → Standing
after x l shown kept st =
    if x && (stands_done st || stands_owed st || l) && shown then Done else if x && (not (stands_done st) && (l && kept)) then Owed else st

accounted_stays : (x l shown kept : Bool) (st : Standing) → (stands_done st || stands_owed st) ≡ true → (stands_done (after x l shown kept st) || stands_owed (after x l shown kept st)) ≡ true
accounted_stays true l true kept Done h = refl
accounted_stays true l false kept Done h = refl
accounted_stays false l shown kept Done h = refl
accounted_stays true l true kept Owed h = refl
accounted_stays true true false true Owed h = refl
accounted_stays true true false false Owed h = refl
accounted_stays true false false kept Owed h = refl
accounted_stays false l shown kept Owed h = refl
accounted_stays x l shown kept Open h = absurd (cc h)

accounted_was : (x l shown kept : Bool) (st : Standing) → (stands_done (after x l shown kept st) || stands_owed (after x l shown kept st)) ≡ true
    → ((stands_done st || stands_owed st) ≡ true) ⊎ ((x && (stands_done st || stands_owed st || l)) ≡ true)
accounted_was x l shown kept Done h = inl refl
accounted_was x l shown kept Owed h = inl refl
accounted_was true true shown kept Open h = inr refl
accounted_was true false shown kept Open h = absurd (cc h)
accounted_was false l shown kept Open h = absurd (cc h)

included_of_hook : (x l visible kept : Bool) (st : Standing) → (x && (stands_done st || stands_owed st || l)) ≡ true
    → ((stands_done (after x l (visible || false) kept st) || stands_owed (after x l (visible || false) kept st)) || not (visible || kept)) ≡ true
included_of_hook true l true kept Done h = refl
included_of_hook true l false kept Done h = refl
included_of_hook true l true kept Owed h = refl
included_of_hook true true false true Owed h = refl
included_of_hook true true false false Owed h = refl
included_of_hook true false false kept Owed h = refl
included_of_hook true true true kept Open h = refl
included_of_hook true true false true Open h = refl
included_of_hook true true false false Open h = refl
included_of_hook true false visible kept Open h = absurd (cc h)
included_of_hook false l visible kept st h = absurd (cc h)

module _ (lanes : Lanes) (cut : Cut) (new : Node) where
  -- an update as it stands after the commit of this tree
  abbrev pub mark : Posted → Posted
  mark u = marked_update lanes cut (visible_instances (Some new)) (kept_instances (Some new)) u

  -- What is done or owed stays so.
  pub accounted_later : (u : Posted) → is_accounted u ≡ true → is_accounted (mark u) ≡ true
  accounted_later u =
      accounted_stays (is_before cut u) (has lanes u.update.lane) (belongs_to (visible_instances (Some new)) u.target || is_resource u.target) (belongs_to (kept_instances (Some new)) u.target) u.standing

  -- What becomes so is included.
  pub accounted_before : (u : Posted) → is_accounted (mark u) ≡ true → (is_accounted u ≡ true) ⊎ (is_included lanes cut u ≡ true)
  accounted_before u =
      accounted_was (is_before cut u) (has lanes u.update.lane) (belongs_to (visible_instances (Some new)) u.target || is_resource u.target) (belongs_to (kept_instances (Some new)) u.target) u.standing

  -- What is included is settled.
  pub included_settled : (u : Posted) → is_included lanes cut u ≡ true → is_settled (Some new) (mark u) ≡ true
  included_settled u = go u.target refl
    where
      go : (t : Target) → u.target ≡ t → is_included lanes cut u ≡ true → is_settled (Some new) (mark u) ≡ true
      go (hook i k) is h =
          rw is (included_of_hook (is_before cut u) (has lanes u.update.lane) (belongs_to (visible_instances (Some new)) (hook i k)) (belongs_to (kept_instances (Some new)) (hook i k)) u.standing h)
      go (resource r) is h = rw (is, h) refl

  -- What was settled stays so, if what was gone does.
  pub settled_later : (old : Option Node) (u : Posted) → (is_gone old u.target ≡ true → is_gone (Some new) u.target ≡ true) → is_settled old u ≡ true → is_settled (Some new) (mark u) ≡ true
  settled_later old u gone h = go (is_accounted u) (is_gone old u.target) refl refl h
    where
      or_last : (a b : Bool) → b ≡ true → (a || b) ≡ true
      or_last true b e = refl
      or_last false b e = e

      or_first : (a b : Bool) → a ≡ true → (a || b) ≡ true
      or_first true b e = refl
      or_first false b e = absurd (cc e)

      go : (a b : Bool) → is_accounted u ≡ a → is_gone old u.target ≡ b → (a || b) ≡ true → is_settled (Some new) (mark u) ≡ true
      go true b e f h = or_first (is_accounted (mark u)) (is_gone (Some new) u.target) (accounted_later u e)
      go false true e f h = or_last (is_accounted (mark u)) (is_gone (Some new) u.target) (gone f)
      go false false e f h = absurd (cc h)

-- Lanes of what isn't settled

-- what isn't gone is mounted, or a resource
not_gone : (tree : Option Node) (t : Target) → is_gone tree t ≡ false
    → ((belongs_to (visible_instances tree) t ≡ true) ⊎ (belongs_to (kept_instances tree) t ≡ true)) ⊎ (is_resource t ≡ true)
not_gone tree (hook i k) h = go (belongs_to (visible_instances tree) (hook i k)) (belongs_to (kept_instances tree) (hook i k)) h
  where
    go : (a b : Bool) → not (a || b) ≡ false → ((a ≡ true) ⊎ (b ≡ true)) ⊎ (false ≡ true)
    go true b e = inl (inl refl)
    go false true e = inl (inr refl)
    go false false e = absurd (cc e)
not_gone tree (resource r) h = inr refl

-- If no update is lost, each is settled or its lane is pending.
pub lost_pends : (tree : Option Node) (us : List Posted) (pending : Lanes) → NoneLost tree us pending → AllByRecursion (Pends tree pending) us
lost_pends tree us pending lost = all_got (Pends tree pending) us (λ n u there. go n u there (stands_done u.standing) (stands_owed u.standing) (is_gone tree u.target) refl refl refl)
  where
    go : (n : ℕ) (u : Posted) → slice_get us n ≡ Some u → (d o g : Bool) → stands_done u.standing ≡ d → stands_owed u.standing ≡ o → is_gone tree u.target ≡ g → Pends tree pending u
    go n u there true o g e f x = inl (rw e refl)
    go n u there false true g e f x = inl (rw (e, f) refl)
    go n u there false false true e f x = inl (rw (e, f, x) refl)
    go n u there false false false e f x = fate (lost n u there (not_gone tree u.target x))
      where
        clash : {b : Bool} → b ≡ true → b ≡ false → ⊥
        clash h k = cc (h, k)

        fate : (stands_done u.standing ≡ true) ⊎ ((has pending u.update.lane ≡ true) ⊎ ((stands_owed u.standing ≡ true) × (belongs_to (kept_instances tree) u.target ≡ true))) → Pends tree pending u
        fate (inl h) = absurd (clash h e)
        fate (inr (inl h)) = inr h
        fate (inr (inr h)) = absurd (clash h.0 f)
