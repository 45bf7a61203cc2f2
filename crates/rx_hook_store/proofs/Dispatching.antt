-- A dispatch: what it makes of the hooks of its instance, and that what is kept stays that of the machine's state.
use Rattle.std.proofs.Common.{◌≡◌, ℕ, ℤ, zero, suc, ◌+◌, ◌≤◌, Bool, true, false, not, ◌&&◌, cond, nat_eq, Option, Some, List, [], ◌∷◌, length, filter, find, slice_get, refl, sym, ap, ◌∙◌, subst, arith}
use Rattle.std.specs.Option.{option_map_or}
use Rattle.std.proofs.lemmas.Bool.Decides.{nat_tests}
use Rattle.rx_lane.specs.declared.lane.Lane.{Lane}
use Rattle.rx_lane.specs.Lanes.{Lanes, no_lanes}
use Rattle.rx_step.specs.declared.step.LaneWord.{LaneWord}
use Rattle.rx_step.specs.declared.step.LaneWord.TheVariants as word
use Rattle.rx_queue.specs.declared.update.Op.{Op}
use Rattle.rx_queue.specs.declared.update.Update.{Update}
use Rattle.rx_queue.specs.declared.entry.Standing.TheVariants.{Open}
use Rattle.rx_queue.specs.Journal.{Journal, Target, hook, resource, same_target}
use Rattle.rx_queue.specs.History.{History, pushed}
use Rattle.rx_queue.specs.Bridge.{IsHistoryOf}
use Rattle.rx_queue.proofs.Bridging.{others_stay, pushed_agrees, with_posted}
use Rattle.rx_ast.specs.Syntax.{Program}
use Rattle.rx_elem.specs.Spots.{mounted}
use Rattle.rx_hooks.specs.declared.hook.Hook.{Hook}
use Rattle.rx_hooks.specs.Hooks.{HookHistory, changed_at, links_with}
use Rattle.rx_model.specs.State.{Linked, State, linked_lanes}
use Rattle.rx_model.specs.Accepting.{dispatched_for, lane_of, next_update, with_linked}
use Rattle.rx_model.specs.HooksOf.{AreHooksFrom, IsHookOf, KeepsAllHooks}
use Rattle.rx_hook_store.specs.Changing.{dispatched_hook}

-- ---- one hook of a list

-- two changes of one hook
pub changed_at-twice : (place : ℕ) (f g : HookHistory → HookHistory) (hs : List HookHistory) → changed_at place f (changed_at place g hs) ≡ changed_at place (λ h. f (g h)) hs
changed_at-twice place f g [] = refl
changed_at-twice zero f g (h ∷ hs) = refl
changed_at-twice (suc place) f g (h ∷ hs) = ap (λ ks. h ∷ ks) (changed_at-twice place f g hs)

-- the hook that is changed
pub get-changed_at : (place : ℕ) (f : HookHistory → HookHistory) (hs : List HookHistory) (h : HookHistory) → slice_get hs place ≡ Some h → slice_get (changed_at place f hs) place ≡ Some (f h)
get-changed_at place f [] h e = cc
get-changed_at zero f (k ∷ hs) h e = let same : k ≡ h = cc in ap (λ (x : HookHistory). Some (f x)) same
get-changed_at (suc place) f (k ∷ hs) h e = get-changed_at place f hs h e

-- ---- targets

same_both : (i j : ℕ) (b : Bool) → nat_eq i i ≡ true → b ≡ true → (nat_eq i i && b) ≡ true
same_both i j true e f = rw e refl
same_both i j false e f = cc

pub same_target-itself : (t : Target) → same_target t t ≡ true
same_target-itself (hook i k) = same_both i i (nat_eq k k) (grind (arith, nat_tests)) (grind (arith, nat_tests))
same_target-itself (resource r) = grind (arith, nat_tests)

and_first : (a b : Bool) → (a && b) ≡ true → a ≡ true
and_first true b e = refl
and_first false b e = cc

and_second : (a b : Bool) → (a && b) ≡ true → b ≡ true
and_second true b e = e
and_second false b e = cc

number_equal : (i j : ℕ) → nat_eq i j ≡ true → i ≡ j
number_equal i j e = grind (arith, nat_tests)

pub targets_equal : (t u : Target) → same_target t u ≡ true → t ≡ u
targets_equal (hook i k) (hook j l) e =
    ap (λ n. hook n k) (number_equal i j (and_first (nat_eq i j) (nat_eq k l) e)) ∙ ap (λ n. hook j n) (number_equal k l (and_second (nat_eq i j) (nat_eq k l) e))
targets_equal (hook i k) (resource r) e = absurd (let f : false ≡ true = e in cc)
targets_equal (resource r) (hook j l) e = absurd (let f : false ≡ true = e in cc)
targets_equal (resource r) (resource q) e = ap resource (number_equal r q e)

-- ---- links

-- what one hook links doesn't change what another one does
find-without : (t u : Target) → same_target t u ≡ false → (all : List Linked)
    → find (λ (l : Linked). same_target t l.target) (filter (λ (l : Linked). not (same_target u l.target)) all) ≡ find (λ (l : Linked). same_target t l.target) all
find-without t u other [] = refl
find-without t u other (l ∷ all) = go (same_target u l.target) refl (find-without t u other all)
  where
    test : Linked → Bool
    test = λ (m : Linked). same_target t m.target

    rest : List Linked
    rest = filter (λ (m : Linked). not (same_target u m.target)) all

    go : (b : Bool) → same_target u l.target ≡ b → find (λ (m : Linked). same_target t m.target) (filter (λ (m : Linked). not (same_target u m.target)) all) ≡ find (λ (m : Linked). same_target t m.target) all
        → find (λ (m : Linked). same_target t m.target) (cond (not b) (l ∷ filter (λ (m : Linked). not (same_target u m.target)) all) (filter (λ (m : Linked). not (same_target u m.target)) all))
        ≡ find (λ (m : Linked). same_target t m.target) (l ∷ all)
    go true e h = let is_other : same_target t l.target ≡ false = ap (λ v. same_target t v) (sym (targets_equal u l.target e)) ∙ other in rw is_other h
    go false e h = rw h refl

pub linked-other : (all : List Linked) (t u : Target) (lanes : Lanes) → same_target t u ≡ false → linked_lanes (with_linked all u lanes) t ≡ linked_lanes all t
linked-other all t u lanes other = rw other (ap (λ o. option_map_or (λ (l : Linked). l.lanes) o no_lanes) (find-without t u other all))

pub linked-own : (all : List Linked) (t : Target) (lanes : Lanes) → linked_lanes (with_linked all t lanes) t ≡ lanes
linked-own all t lanes = rw (same_target-itself t) refl

-- ---- the hooks of the state

-- another hook stays that of the state
other_hook : (s : State) (w : LaneWord) (t u : Target) (o : Op) (x : ℤ) (h : HookHistory) → same_target t u ≡ false → IsHookOf s t x h → IsHookOf (dispatched_for s w u o) t x h
other_hook s word.Sync t u o x h other is =
    record { history_is = others_stay s.journal t x h.updates (next_update s.journal u o (lane_of s word.Sync)) other is.history_is; linked_is = is.linked_is }
other_hook s word.Input t u o x h other is =
    record { history_is = others_stay s.journal t x h.updates (next_update s.journal u o (lane_of s word.Input)) other is.history_is; linked_is = is.linked_is }
other_hook s word.Default t u o x h other is =
    record { history_is = others_stay s.journal t x h.updates (next_update s.journal u o (lane_of s word.Default)) other is.history_is; linked_is = is.linked_is }
other_hook s word.Transition t u o x h other is =
    record {
      history_is = others_stay s.journal t x h.updates (next_update s.journal u o (lane_of s word.Transition)) other is.history_is;
      linked_is = is.linked_is ∙ sym (linked-other s.linked t u (links_with (lane_of s word.Transition) s.schedule.pending (linked_lanes s.linked u)) other);
    }

-- the update that is sent is the journal's next
sent_history : (j : Journal) (t : Target) (x : ℤ) (h : History) (u : Update) (l : Lane) → u.number ≡ length j.updates → u.lane ≡ l → IsHistoryOf j t x h
    → IsHistoryOf (with_posted j (next_update j t u.op l)) t x (pushed u h)
sent_history j t x h u l number lane is =
    let v : Update = record { number = length j.updates; op = u.op; lane = l } in
    let same : u ≡ v = (λ i. record { number = number i; op = u.op; lane = lane i }) in
    subst (λ (w : Update). IsHistoryOf (with_posted j (record { target = t; update = w; standing = Open })) t x (pushed u h)) same (pushed_agrees j t x h u (same_target-itself t) is)

-- the hook of the dispatch is that of the state after it
target_hook : (s : State) (w : LaneWord) (t : Target) (u : Update) (x : ℤ) (h : HookHistory) → u.number ≡ length s.journal.updates → u.lane ≡ lane_of s w → IsHookOf s t x h
    → IsHookOf (dispatched_for s w t u.op) t x (dispatched_hook w u s.schedule.pending h)
target_hook s word.Sync t u x h number lane is =
    record { history_is = sent_history s.journal t x h.updates u (lane_of s word.Sync) number lane is.history_is; linked_is = is.linked_is }
target_hook s word.Input t u x h number lane is =
    record { history_is = sent_history s.journal t x h.updates u (lane_of s word.Input) number lane is.history_is; linked_is = is.linked_is }
target_hook s word.Default t u x h number lane is =
    record { history_is = sent_history s.journal t x h.updates u (lane_of s word.Default) number lane is.history_is; linked_is = is.linked_is }
target_hook s word.Transition t u x h number lane is =
    record {
      history_is = sent_history s.journal t x h.updates u (lane_of s word.Transition) number lane is.history_is;
      linked_is =
          ap (λ (l : Lane). links_with l s.schedule.pending h.linked) lane
          ∙ ap (λ (ls : Lanes). links_with (lane_of s word.Transition) s.schedule.pending ls) is.linked_is
          ∙ sym (linked-own s.linked t (links_with (lane_of s word.Transition) s.schedule.pending (linked_lanes s.linked t)));
    }

-- hooks that are no target stay
pub others_dispatched : (s : State) (w : LaneWord) (u : Target) (o : Op) (i k : ℕ) (xs : List ℤ) (hs : List HookHistory)
    → ((l : ℕ) → k ≤ l → same_target (hook i l) u ≡ false) → AreHooksFrom s i k xs hs → AreHooksFrom (dispatched_for s w u o) i k xs hs
others_dispatched s w u o i k [] [] other are = tt
others_dispatched s w u o i k [] (h ∷ hs) other are = absurd are
others_dispatched s w u o i k (x ∷ xs) [] other are = absurd are
others_dispatched s w u o i k (x ∷ xs) (h ∷ hs) other are = (
  other_hook s w (hook i k) u o x h (other k (omega arith)) are.0,
  others_dispatched s w u o i (suc k) xs hs (λ l le. other l (omega arith)) are.1,
)

other_place : (i k l : ℕ) → nat_eq k l ≡ false → same_target (hook i k) (hook i l) ≡ false
other_place i k l e = go (nat_eq i i)
  where
    go : (b : Bool) → (b && nat_eq k l) ≡ false
    go true = e
    go false = refl

-- the hooks of the instance of the dispatch
pub hooks_dispatched : (s : State) (w : LaneWord) (u : Update) (i n k place : ℕ) (xs : List ℤ) (hs : List HookHistory) → n ≡ k + place
    → u.number ≡ length s.journal.updates → u.lane ≡ lane_of s w → AreHooksFrom s i k xs hs
    → AreHooksFrom (dispatched_for s w (hook i n) u.op) i k xs (changed_at place (dispatched_hook w u s.schedule.pending) hs)
hooks_dispatched s w u i n k place [] [] at number lane are = tt
hooks_dispatched s w u i n k place [] (h ∷ hs) at number lane are = absurd are
hooks_dispatched s w u i n k place (x ∷ xs) [] at number lane are = absurd are
hooks_dispatched s w u i n k zero (x ∷ xs) (h ∷ hs) at number lane are =
    let here : k ≡ n = omega arith in (
      subst (λ m. IsHookOf (dispatched_for s w (hook i m) u.op) (hook i k) x (dispatched_hook w u s.schedule.pending h)) here (target_hook s w (hook i k) u x h number lane are.0),
      others_dispatched s w (hook i n) u.op i (suc k) xs hs (λ l le. other_place i l n (grind (arith, nat_tests))) are.1,
    )
hooks_dispatched s w u i n k (suc place) (x ∷ xs) (h ∷ hs) at number lane are = (
  other_hook s w (hook i k) (hook i n) u.op x h (other_place i k n (grind (arith, nat_tests))) are.0,
  hooks_dispatched s w u i n (suc k) place xs hs (omega arith) number lane are.1,
)

-- the hooks of another instance
pub instance_apart : (i m l n : ℕ) → nat_eq i m ≡ false → same_target (hook m l) (hook i n) ≡ false
instance_apart i m l n e = go (nat_eq m i) (grind (arith, nat_tests))
  where
    go : (b : Bool) → b ≡ false → (b && nat_eq l n) ≡ false
    go b f = rw f refl

-- a dispatch leaves the tree
pub tree_dispatched : (s : State) (w : LaneWord) (t : Target) (o : Op) → (dispatched_for s w t o).tree ≡ s.tree
tree_dispatched s word.Sync t o = refl
tree_dispatched s word.Input t o = refl
tree_dispatched s word.Default t o = refl
tree_dispatched s word.Transition t o = refl

-- a refresh is sent to no hook
pub keeps_refreshed : (p : Program) (s : State) (w : LaneWord) (r : ℕ) (o : Op) (kept : ℕ → Option (List Hook)) → KeepsAllHooks p s kept → KeepsAllHooks p (dispatched_for s w (resource r) o) kept
keeps_refreshed p s w r o kept keeps k m at =
    let g = keeps k m (subst (λ x. slice_get (mounted x) k ≡ Some m) (tree_dispatched s w (resource r) o) at) in
    (g.0, g.1, (g.2.0, g.2.1, others_dispatched s w (resource r) o m.number 0 m.initials g.2.0 (λ l le. refl) g.2.2))
