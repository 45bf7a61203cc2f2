-- Hooks in which no update is open, and none is owed, are idle.
use Rattle.std.proofs.Common.{◌≡◌, ℕ, Bool, true, false, not, ◌&&◌, ◌||◌, nat_lt, List, [], ◌∷◌, refl, sym, ◌∙◌, arith}
use Rattle.std.specs.List.{list_any}
use Rattle.std.proofs.lemmas.Bool.Decides.{nat_tests}
use Rattle.rx_base.specs.declared.cut.Cut.{Cut}
use Rattle.rx_lane.specs.declared.lane.Lane.{Lane}
use Rattle.rx_lane.specs.Lanes.{Lanes, has, is_empty, no_lanes, same_lane}
use Rattle.rx_lane.specs.SetLaws.{has-lanes_where}
use Rattle.rx_queue.specs.declared.entry.Entry.{Entry}
use Rattle.rx_queue.specs.declared.entry.Standing.{Standing}
use Rattle.rx_queue.specs.declared.entry.Standing.TheVariants as standing
use Rattle.rx_queue.specs.History.{is_open, is_pending, stands_done, stands_open, stands_owed}
use Rattle.rx_hooks.specs.Hooks.{HookHistory, pending_of_hooks, work_of_hooks}
use Rattle.rx_hook_store.specs.Gives.{has_work_in, has_work_in_update}
use Rattle.rx_hook_store.proofs.Working.{is_some_work, neither, work_is}

both_false : (a : Bool) (b : Bool) → (a && b) ≡ false → b ≡ true → a ≡ false
both_false true b none is = cc
both_false false b none is = refl

-- an update that isn't open, and that isn't owed before a later cut, gives no work
no_work_by : (far near among : Bool) (x : Standing) → (near ≡ true → far ≡ true) → stands_open x ≡ false
    → ((far && (stands_done x || stands_owed x || false)) && not (stands_done x)) ≡ false
    → ((near && (stands_done x || stands_owed x || among)) && not (stands_done x)) ≡ false
no_work_by far near among standing.Open later shut none = absurd (cc shut)
no_work_by far true among standing.Done later shut none = refl
no_work_by far false among standing.Done later shut none = refl
no_work_by far true among standing.Owed later shut none = let is : far ≡ true = later refl in absurd (cc)
no_work_by far false among standing.Owed later shut none = refl

module _ (lanes : Lanes) (cut last : Cut) (later : (n : ℕ) → nat_lt n cut.updates ≡ true → nat_lt n last.updates ≡ true) where
  -- none of these updates is open
  abbrev NoneOpen : List Entry → Type 0
  NoneOpen es = (l : Lane) → is_pending es l ≡ false

  in_updates : (es : List Entry) → NoneOpen es → list_any (has_work_in_update no_lanes last) es ≡ false → list_any (has_work_in_update lanes cut) es ≡ false
  in_updates [] shut none = refl
  in_updates (e ∷ es) shut none =
      let parts = neither (has_work_in_update no_lanes last e) (list_any (has_work_in_update no_lanes last) es) none in
      let itself : same_lane e.update.lane e.update.lane ≡ true = grind (arith, nat_tests) in
      let here = neither (is_open e && same_lane e.update.lane e.update.lane) (is_pending es e.update.lane) (shut e.update.lane) in
      let calm : has_work_in_update lanes cut e ≡ false =
      no_work_by (nat_lt e.update.number last.updates) (nat_lt e.update.number cut.updates) (has lanes e.update.lane) e.standing (later e.update.number)
      (both_false (is_open e) _ here.0 itself) parts.0 in
      rw calm (in_updates es (λ l. (neither (is_open e && same_lane e.update.lane l) (is_pending es l) (shut l)).1) parts.1)

  in_hooks : (hs : List HookHistory) → ((l : Lane) → list_any (λ (h : HookHistory). is_pending h.updates.entries l) hs ≡ false) → has_work_in no_lanes last hs ≡ false
      → has_work_in lanes cut hs ≡ false
  in_hooks [] shut none = refl
  in_hooks (h ∷ hs) shut none =
      let parts = neither (list_any (has_work_in_update no_lanes last) h.updates.entries) (has_work_in no_lanes last hs) none in
      let calm = in_updates h.updates.entries
      (λ l. (neither (is_pending h.updates.entries l) (list_any (λ (h : HookHistory). is_pending h.updates.entries l) hs) (shut l)).0) parts.0 in
      rw calm
      (in_hooks hs (λ l. (neither (is_pending h.updates.entries l) (list_any (λ (h : HookHistory). is_pending h.updates.entries l) hs) (shut l)).1) parts.1)

none_has : (ls : Lanes) (l : Lane) → is_empty ls ≡ true → has ls l ≡ false
none_has [] l e = refl
none_has (m ∷ ls) l e = absurd (cc e)

-- hooks are idle if no update of them is pending, and a render without lanes at the last cut has no work in them
pub idle_where : (lanes : Lanes) (cut last : Cut) (hs : List HookHistory) → ((n : ℕ) → nat_lt n cut.updates ≡ true → nat_lt n last.updates ≡ true)
    → is_empty (pending_of_hooks hs) ≡ true → is_some_work (work_of_hooks no_lanes last hs) ≡ false → has_work_in lanes cut hs ≡ false
idle_where lanes cut last hs later shut none =
    in_hooks lanes cut last later hs
    (λ l. sym (has-lanes_where (λ m. list_any (λ (h : HookHistory). is_pending h.updates.entries m) hs) l) ∙ none_has (pending_of_hooks hs) l shut)
    (sym (work_is no_lanes last hs) ∙ none)
