-- Facts on one hook, carried to a list of hooks.
use Rattle.std.proofs.Common.{◌≡◌, ℕ, zero, suc, ◌+◌, ◌<◌, ◌∙◌, Bool, true, false, ◌||◌, ◌↔◌, if◌then◌else◌, add-one, Some, List, [], ◌∷◌, ◌++◌, length, take, map, get_or, slice_get, refl, sym, ap, arith, subst}
use Rattle.std.specs.List.{list_any, AllZip}
use Rattle.std.proofs.Math.ListN.{set}
use Rattle.std.proofs.lemmas.List.Folds.{list_any-append}
use Rattle.rx_base.specs.declared.cut.Cut.{Cut}
use Rattle.rx_lane.specs.declared.lane.Lane.{Lane}
use Rattle.rx_lane.specs.Lanes.{Lanes, has, lanes_where, no_lanes, union}
use Rattle.rx_lane.specs.SetLaws.{has-lanes_where, lanes_agree}
use Rattle.rx_queue.specs.declared.queue.Work.{Work}
use Rattle.rx_queue.specs.declared.queue.Work.TheVariants.{New, Owed, Nothing}
use Rattle.rx_queue.specs.History.{Answers, IsAboveDone, is_pending, pending_of, state_of}
use Rattle.rx_queue.specs.Stands.{work_of}
use Rattle.rx_hooks.specs.declared.hook.Hook.{Hook}
use Rattle.rx_hooks.specs.Hooks.{AllAboveDone, HookHistory, HookStandsFor, HooksStandFor, changed_at, is_new_work, is_owed_work, rendered, room_at, states_of, pending_of_hooks, work_among, work_of_hooks}

-- ---- what each hook does, all do

-- a hook is rendered: it keeps standing for its history, and keeps the history's state
abbrev pub Renders : Answers → Lanes → Cut → Hook → Hook → Type 0
Renders answers lanes cut old new = (history : HookHistory) → HookStandsFor answers old history → IsAboveDone cut history.updates
    → HookStandsFor answers new (rendered lanes cut history) × (new.processed.value ≡ state_of answers lanes cut history.updates)

pub stand-rendered : (answers : Answers) (lanes : Lanes) (cut : Cut) (before after : List Hook) (histories : List HookHistory) → AllZip (Renders answers lanes cut) before after
    → HooksStandFor answers before histories → AllAboveDone cut histories → HooksStandFor answers after (map (rendered lanes cut) histories)
stand-rendered answers lanes cut [] [] [] steps stand above = tt
stand-rendered answers lanes cut [] [] (h ∷ hs) steps stand above = absurd stand
stand-rendered answers lanes cut [] (b ∷ after) hs steps stand above = absurd steps
stand-rendered answers lanes cut (a ∷ before) [] hs steps stand above = absurd steps
stand-rendered answers lanes cut (a ∷ before) (b ∷ after) [] steps stand above = absurd stand
stand-rendered answers lanes cut (a ∷ before) (b ∷ after) (h ∷ hs) steps stand above =
    ((steps.0 h stand.0 above.0).0, stand-rendered answers lanes cut before after hs steps.1 stand.1 above.1)

pub values-rendered : (answers : Answers) (lanes : Lanes) (cut : Cut) (before after : List Hook) (histories : List HookHistory) → AllZip (Renders answers lanes cut) before after
    → HooksStandFor answers before histories → AllAboveDone cut histories → map (λ (k : Hook). k.processed.value) after ≡ states_of answers lanes cut histories
values-rendered answers lanes cut [] [] [] steps stand above = refl
values-rendered answers lanes cut [] [] (h ∷ hs) steps stand above = absurd stand
values-rendered answers lanes cut [] (b ∷ after) hs steps stand above = absurd steps
values-rendered answers lanes cut (a ∷ before) [] hs steps stand above = absurd steps
values-rendered answers lanes cut (a ∷ before) (b ∷ after) [] steps stand above = absurd stand
values-rendered answers lanes cut (a ∷ before) (b ∷ after) (h ∷ hs) steps stand above =
    let here = (steps.0 h stand.0 above.0).1 in
    let rest = values-rendered answers lanes cut before after hs steps.1 stand.1 above.1 in
    rw (here, rest) refl

-- a hook changes as a change of its history says
abbrev pub Changes : (HookHistory → HookHistory) → Hook → Hook → Type 0
Changes change old new = (answers : Answers) (history : HookHistory) → HookStandsFor answers old history → HookStandsFor answers new (change history)

pub stand-changed : (answers : Answers) (change : HookHistory → HookHistory) (before after : List Hook) (histories : List HookHistory)
    → AllZip (Changes change) before after
    → HooksStandFor answers before histories → HooksStandFor answers after (map change histories)
stand-changed answers change [] [] [] steps stand = tt
stand-changed answers change [] [] (h ∷ hs) steps stand = absurd stand
stand-changed answers change [] (b ∷ after) hs steps stand = absurd steps
stand-changed answers change (a ∷ before) [] hs steps stand = absurd steps
stand-changed answers change (a ∷ before) (b ∷ after) [] steps stand = absurd stand
stand-changed answers change (a ∷ before) (b ∷ after) (h ∷ hs) steps stand =
    (steps.0 answers h stand.0, stand-changed answers change before after hs steps.1 stand.1)

-- one hook changes
pub stand-changed_at : (answers : Answers) (kept : List Hook) (histories : List HookHistory) (place : ℕ) (change : HookHistory → HookHistory) (d new : Hook) → place < length kept
    → HooksStandFor answers kept histories → ((history : HookHistory) → HookStandsFor answers (get_or kept place d) history → HookStandsFor answers new (change history))
    → HooksStandFor answers (set kept place new) (changed_at place change histories)
stand-changed_at answers [] histories place change d new within stand one = absurd (omega arith)
stand-changed_at answers (k ∷ kept) [] place change d new within stand one = absurd stand
stand-changed_at answers (k ∷ kept) (h ∷ hs) zero change d new within stand one = (one h stand.0, stand.1)
stand-changed_at answers (k ∷ kept) (h ∷ hs) (suc place) change d new within stand one =
    (stand.0, stand-changed_at answers kept hs place change d new (omega arith) stand.1 one)

-- one hook gives way to one that stands for just what it stood for
pub stand-as_at : (answers : Answers) (kept : List Hook) (histories : List HookHistory) (place : ℕ) (d new : Hook) → place < length kept
    → ((history : HookHistory) → HookStandsFor answers (get_or kept place d) history ↔ HookStandsFor answers new history)
    → HooksStandFor answers kept histories ↔ HooksStandFor answers (set kept place new) histories
stand-as_at answers [] histories place d new within alike = absurd (omega arith)
stand-as_at answers (k ∷ kept) [] zero d new within alike = (λ stand. absurd stand, λ stand. absurd stand)
stand-as_at answers (k ∷ kept) [] (suc place) d new within alike = (λ stand. absurd stand, λ stand. absurd stand)
stand-as_at answers (k ∷ kept) (h ∷ hs) zero d new within alike = (λ stand. ((alike h).0 stand.0, stand.1), λ stand. ((alike h).1 stand.0, stand.1))
stand-as_at answers (k ∷ kept) (h ∷ hs) (suc place) d new within alike =
    let rest = stand-as_at answers kept hs place d new (omega arith) alike in
    (λ stand. (stand.0, rest.0 stand.1), λ stand. (stand.0, rest.1 stand.1))

-- one hook of the list
pub stand-at : (answers : Answers) (kept : List Hook) (histories : List HookHistory) (place : ℕ) (d : Hook) (history : HookHistory)
    → HooksStandFor answers kept histories → slice_get histories place ≡ Some history → HookStandsFor answers (get_or kept place d) history
stand-at answers [] [] place d history stand is = cc
stand-at answers [] (h ∷ hs) place d history stand is = absurd stand
stand-at answers (k ∷ kept) [] place d history stand is = absurd stand
stand-at answers (k ∷ kept) (h ∷ hs) zero d history stand is = let same : h ≡ history = cc in subst (λ x. HookStandsFor answers k x) same stand.0
stand-at answers (k ∷ kept) (h ∷ hs) (suc place) d history stand is = stand-at answers kept hs place d history stand.1 is

pub stand-length : (answers : Answers) (kept : List Hook) (histories : List HookHistory) → HooksStandFor answers kept histories → length histories ≡ length kept
stand-length answers [] [] stand = refl
stand-length answers [] (h ∷ hs) stand = absurd stand
stand-length answers (k ∷ kept) [] stand = absurd stand
stand-length answers (k ∷ kept) (h ∷ hs) stand = omega (arith, stand-length answers kept hs stand.1)

-- ---- work

-- what two tests on a list of works say, and one work more
work_of_tests : (a b : Bool) (w : Work) → (if a || (is_new_work w || false) then New else (if b || (is_owed_work w || false) then Owed else Nothing))
    ≡ work_among ((if a then New else (if b then Owed else Nothing)) ∷ w ∷ [])
work_of_tests true b w = refl
work_of_tests false true New = refl
work_of_tests false true Owed = refl
work_of_tests false true Nothing = refl
work_of_tests false false New = refl
work_of_tests false false Owed = refl
work_of_tests false false Nothing = refl

pub work_among-push : (works : List Work) (w : Work) → work_among (works ++ w ∷ []) ≡ work_among (work_among works ∷ w ∷ [])
work_among-push works w =
    ap (λ b. if b then New else (if list_any is_owed_work (works ++ w ∷ []) then Owed else Nothing)) (list_any-append is_new_work works (w ∷ []))
    ∙ ap (λ b. if list_any is_new_work works || (is_new_work w || false) then New else (if b then Owed else Nothing)) (list_any-append is_owed_work works (w ∷ []))
    ∙ work_of_tests (list_any is_new_work works) (list_any is_owed_work works) w

-- one hook more: its work is the history's
pub work-more : (answers : Answers) (lanes : Lanes) (cut : Cut) (kept : List Hook) (histories : List HookHistory) (i : ℕ) (d : Hook) (w : Work) → i < length kept
    → HooksStandFor answers kept histories → ((history : HookHistory) → HookStandsFor answers (get_or kept i d) history → w ≡ work_of lanes cut history.updates.entries)
    → work_among (work_of_hooks lanes cut (take i histories) ∷ w ∷ []) ≡ work_of_hooks lanes cut (take (i + 1) histories)
work-more answers lanes cut kept histories i d w within stand one =
    sym (ap work_among (works-more kept histories i d within stand one) ∙ work_among-push (map (λ (h : HookHistory). work_of lanes cut h.updates.entries) (take i histories)) w)
  where
    works-more : (kept : List Hook) (histories : List HookHistory) (i : ℕ) (d : Hook) → i < length kept → HooksStandFor answers kept histories
        → ((history : HookHistory) → HookStandsFor answers (get_or kept i d) history → w ≡ work_of lanes cut history.updates.entries)
        → map (λ (h : HookHistory). work_of lanes cut h.updates.entries) (take (i + 1) histories) ≡ map (λ (h : HookHistory). work_of lanes cut h.updates.entries) (take i histories) ++ w ∷ []
    works-more [] histories i d within stand one = absurd (omega arith)
    works-more (k ∷ kept) [] i d within stand one = absurd stand
    works-more (k ∷ kept) (h ∷ hs) zero d within stand one = ap (λ v. v ∷ []) (sym (one h stand.0))
    works-more (k ∷ kept) (h ∷ hs) (suc i) d within stand one =
        let rest = rw add-one at (works-more kept hs i d (omega arith) stand.1 one) in
        rw add-one (ap (λ l. work_of lanes cut h.updates.entries ∷ l) rest)

-- ---- one hook more

pub stand-push : (answers : Answers) (kept : List Hook) (histories : List HookHistory) (k : Hook) (h : HookHistory) → HooksStandFor answers kept histories → HookStandsFor answers k h
    → HooksStandFor answers (kept ++ k ∷ []) (histories ++ h ∷ [])
stand-push answers [] [] k h stand one = (one, tt)
stand-push answers [] (b ∷ hs) k h stand one = absurd stand
stand-push answers (a ∷ kept) [] k h stand one = absurd stand
stand-push answers (a ∷ kept) (b ∷ hs) k h stand one = (stand.0, stand-push answers kept hs k h stand.1 one)

-- ---- pending lanes

pub no-pending : no_lanes ≡ pending_of_hooks []
unfolding lanes_where
no-pending = refl

or_assoc : (a b c : Bool) → (a || (b || c)) ≡ ((a || b) || c)
or_assoc true b c = refl
or_assoc false b c = refl

or_false : (b : Bool) → (b || false) ≡ b
or_false true = refl
or_false false = refl

pending-has : (answers : Answers) (kept : List Hook) (histories : List HookHistory) (i : ℕ) (d : Hook) (here : Lanes) (l : Lane) → i < length kept → HooksStandFor answers kept histories
    → ((history : HookHistory) → HookStandsFor answers (get_or kept i d) history → here ≡ pending_of history.updates.entries)
    → list_any (λ (h : HookHistory). is_pending h.updates.entries l) (take (i + 1) histories) ≡ (list_any (λ (h : HookHistory). is_pending h.updates.entries l) (take i histories) || has here l)
pending-has answers [] histories i d here l within stand one = absurd (omega arith)
pending-has answers (k ∷ kept) [] i d here l within stand one = absurd stand
pending-has answers (k ∷ kept) (h ∷ hs) zero d here l within stand one =
    or_false (is_pending h.updates.entries l) ∙ sym (ap (λ (s : Lanes). has s l) (one h stand.0) ∙ has-lanes_where (is_pending h.updates.entries) l)
pending-has answers (k ∷ kept) (h ∷ hs) (suc i) d here l within stand one =
    let rest = rw add-one at (pending-has answers kept hs i d here l (omega arith) stand.1 one) in
    rw add-one (ap (λ b. is_pending h.updates.entries l || b) rest ∙ or_assoc (is_pending h.updates.entries l) (list_any (λ (h : HookHistory). is_pending h.updates.entries l) (take i hs)) (has here l))

-- one hook more adds its lanes
pub pending-more : (answers : Answers) (kept : List Hook) (histories : List HookHistory) (i : ℕ) (d : Hook) (here : Lanes) → i < length kept → HooksStandFor answers kept histories
    → ((history : HookHistory) → HookStandsFor answers (get_or kept i d) history → here ≡ pending_of history.updates.entries)
    → union (pending_of_hooks (take i histories)) here ≡ pending_of_hooks (take (i + 1) histories)
pending-more answers kept histories i d here within stand one =
    lanes_agree (λ l. has (pending_of_hooks (take i histories)) l || has here l) (λ l. list_any (λ (h : HookHistory). is_pending h.updates.entries l) (take (i + 1) histories))
    (λ l. ap (λ b. b || has here l) (has-lanes_where (λ m. list_any (λ (h : HookHistory). is_pending h.updates.entries m) (take i histories)) l)
    ∙ sym (pending-has answers kept histories i d here l within stand one))

-- ---- room

-- the room of one hook of the list
pub room-at : (kept : List Hook) (place : ℕ) (d : Hook) → place < length kept → room_at place kept ≡ (get_or kept place d).queue.room
room-at [] place d within = absurd (omega arith)
room-at (k ∷ kept) zero d within = refl
room-at (k ∷ kept) (suc place) d within = room-at kept place d (omega arith)

-- the room of a hook that takes its place
pub room-set : (kept : List Hook) (place : ℕ) (new : Hook) → place < length kept → room_at place (set kept place new) ≡ new.queue.room
room-set [] place new within = absurd (omega arith)
room-set (k ∷ kept) zero new within = refl
room-set (k ∷ kept) (suc place) new within = room-set kept place new (omega arith)

-- a hook that takes its place with the same room leaves the room of each
pub room-same : (kept : List Hook) (place other : ℕ) (d new : Hook) → place < length kept → (get_or kept place d).queue.room ≡ new.queue.room
    → room_at other (set kept place new) ≡ room_at other kept
room-same [] place other d new within same = absurd (omega arith)
room-same (k ∷ kept) zero zero d new within same = sym same
room-same (k ∷ kept) zero (suc other) d new within same = refl
room-same (k ∷ kept) (suc place) zero d new within same = refl
room-same (k ∷ kept) (suc place) (suc other) d new within same = room-same kept place other d new (omega arith) same
