-- The instances that are mounted have numbers below the next one, and others link nothing.
use Rattle.std.proofs.Common.{◌≡◌, ℕ, zero, suc, ◌+◌, ◌<◌, ◌≤◌, Bool, true, false, cond, nat_eq, Option, Some, None, List, [], ◌∷◌, filter_map, slice_get, refl, ap, ◌∙◌, arith}
use Rattle.std.specs.List.{cons_option}
use Rattle.std.specs.Option.{option_and_then, option_map}
use Rattle.std.proofs.lemmas.Bool.Decides.{nat_tests}
use Rattle.rx_step.specs.declared.step.LaneWord.{LaneWord}
use Rattle.rx_step.specs.declared.step.LaneWord.TheVariants as word
use Rattle.rx_elem.specs.Trees.{Mark, Node, instance_in, of_boundary, of_catcher, of_host, of_instance, plain}
use Rattle.rx_elem.specs.Numbers.{numbered}
use Rattle.rx_elem.specs.Spots.{Around, Mounted, Spot, at_root, mounted, mounted_as, mounted_in, spot_mark, spots}
use Rattle.rx_queue.specs.declared.update.Op.{Op}
use Rattle.rx_queue.specs.Journal.{hook, resource}
use Rattle.rx_hooks.specs.Hooks.{links_with}
use Rattle.rx_meaning.specs.Settled.{HasOwnNumbers, is_numbered_so, number_of}
use Rattle.rx_model.specs.State.{Progress, State, linked_lanes}
use Rattle.rx_model.specs.Accepting.{dispatched_for, lane_of}
use Rattle.rx_model.specs.Committing.{committed_state}
use Rattle.commit_laws.proofs.CommitSettles.{number_rises}
use Rattle.commit_laws.proofs.OwnNumbers.{spot_times, spots_times}
use Rattle.rx_hook_store.specs.Commits.{LinksBelow}
use Rattle.rx_hook_store.proofs.Dispatching.{instance_apart, linked-other}

-- ---- numbers

-- a mounted instance has its number
numbered_so : (a : Around) (m : Mark) (x : Mounted) → option_and_then (mounted_as a) (instance_in m) ≡ Some x → is_numbered_so x.number (number_of m) ≡ true
numbered_so a (of_instance i) x e = go i.number e
  where
    go : (n : Option ℕ) → option_map (λ n. record { number = n; component = i.component; initials = i.initials; owner = a.owner; visible = a.visible }) n ≡ Some x
        → is_numbered_so x.number n ≡ true
    go None e = cc
    go (Some n) e =
        let y : Mounted = record { number = n; component = i.component; initials = i.initials; owner = a.owner; visible = a.visible } in
        let same : y ≡ x = cc in
        let at : n ≡ x.number = ap (λ (z : Mounted). z.number) same in
        grind (arith, nat_tests)
numbered_so a (of_host h) x e = cc
numbered_so a (of_boundary b) x e = cc
numbered_so a (of_catcher c) x e = cc
numbered_so a plain x e = cc

one_more : (b : Bool) (n : ℕ) → b ≡ true → 1 ≤ cond b 1 0 + n
one_more true n e = omega arith
one_more false n e = cc

counted : (xs : List Spot) (k : ℕ) (m : Mounted) → slice_get (filter_map mounted_in xs) k ≡ Some m → 1 ≤ spot_times m.number xs
counted [] k m e = cc
counted (x ∷ xs) k m e = go (mounted_in x) refl k e (λ l at. counted xs l m at)
  where
    go : (o : Option Mounted) → mounted_in x ≡ o → (k : ℕ) → slice_get (cons_option o (filter_map mounted_in xs)) k ≡ Some m
        → ((l : ℕ) → slice_get (filter_map mounted_in xs) l ≡ Some m → 1 ≤ spot_times m.number xs) → 1 ≤ spot_times m.number (x ∷ xs)
    go None is k e rest = omega (arith, rest k e)
    go (Some y) is zero e rest =
        let same : y ≡ m = cc in
        let here = numbered_so x.around (spot_mark x) m (is ∙ ap (λ z. Some z) same) in
        one_more (is_numbered_so m.number (number_of (spot_mark x))) (spot_times m.number xs) here
    go (Some y) is (suc k) e rest = omega (arith, rest k e)

-- an instance that is mounted came before the next number
pub mounted_below : (next : ℕ) (tree : Option Node) (k : ℕ) (m : Mounted) → HasOwnNumbers next tree → slice_get (mounted tree) k ≡ Some m → m.number < next
mounted_below next None k m own at = cc
mounted_below next (Some x) k m own at =
    let some = counted (spots at_root x) k m at in
    let same = spots_times m.number at_root x in
    let none = (own m.number).1 in
    grind (arith)

-- ---- links

pub links_later : (s t : State) → t.linked ≡ s.linked → s.numbers.instance ≤ t.numbers.instance → LinksBelow s → LinksBelow t
links_later s t same later below k i le = ap (λ ls. linked_lanes ls (hook i k)) same ∙ below k i (omega arith)

-- a commit gives further numbers
pub links_committed : (s : State) (g : Progress) (new : Node) → LinksBelow s → LinksBelow (committed_state s g (numbered s.numbers new))
links_committed s g new below = links_later s (committed_state s g (numbered s.numbers new)) refl (number_rises s.numbers new) below

-- a dispatch to an instance that is there links its own hook alone
pub links_dispatched : (s : State) (w : LaneWord) (i k : ℕ) (o : Op) → i < s.numbers.instance → LinksBelow s → LinksBelow (dispatched_for s w (hook i k) o)
links_dispatched s word.Sync i k o lt below l j le = below l j le
links_dispatched s word.Input i k o lt below l j le = below l j le
links_dispatched s word.Default i k o lt below l j le = below l j le
links_dispatched s word.Transition i k o lt below l j le =
    let other : nat_eq i j ≡ false = grind (arith, nat_tests) in
    linked-other s.linked (hook j l) (hook i k) (links_with (lane_of s word.Transition) s.schedule.pending (linked_lanes s.linked (hook i k))) (instance_apart i j l k other)
    ∙ below l j le

-- a refresh links no hook
pub links_refreshed : (s : State) (w : LaneWord) (r : ℕ) (o : Op) → LinksBelow s → LinksBelow (dispatched_for s w (resource r) o)
links_refreshed s word.Sync r o below l j le = below l j le
links_refreshed s word.Input r o below l j le = below l j le
links_refreshed s word.Default r o below l j le = below l j le
links_refreshed s word.Transition r o below l j le =
    linked-other s.linked (hook j l) (resource r) (links_with (lane_of s word.Transition) s.schedule.pending (linked_lanes s.linked (resource r))) refl ∙ below l j le
