-- What a render of hooks leaves as it was: their states, what is done, and whose they are.
use Rattle.std.proofs.Common.{◌≡◌, ℕ, ℤ, suc, ◌<◌, Bool, true, false, cond, nat_lt, List, [], ◌∷◌, map, filter, refl, sym, ap, ◌∙◌, subst, arith, add-one}
use Rattle.std.specs.List.{AllByRecursion, enumerate_from}
use Rattle.std.proofs.lemmas.Bool.Decides.{nat_tests}
use Rattle.rx_base.specs.declared.cut.Cut.{Cut}
use Rattle.rx_lane.specs.Lanes.{Lanes}
use Rattle.rx_queue.specs.declared.entry.Entry.{Entry}
use Rattle.rx_queue.specs.History.{Answers, History, IsAboveDone, applied, is_done, noted, processed, stands_done}
use Rattle.rx_queue.specs.History as history
use Rattle.rx_queue.specs.Journal.{Posted, Target, committed_value, hook, same_target, state_of, updates_of}
use Rattle.rx_queue.specs.Bridge.{posted_as}
use Rattle.rx_queue.proofs.Bridging.{committed_values_agree, states_agree}
use Rattle.rx_queue.proofs.Histories.{state_from-map}
use Rattle.rx_hooks.specs.Hooks.{AllAboveDone, HookHistory, rendered, states_of}
use Rattle.rx_meaning.specs.Settled.{DoneBefore}
use Rattle.rx_model.specs.State.{State}
use Rattle.rx_model.specs.HooksOf.{AreHooksFrom, IsHookOf}
use Rattle.rx_hook_store.specs.Gives.{committed_of}

-- ---- states

-- the state after the updates that pass a test is the same if what a render notes does not tell on it
state-noted : (answers : Answers) (lanes : Lanes) (cut : Cut) (test : Entry → Bool) → ((e : Entry) → test (noted lanes cut e) ≡ test e) → (state : ℤ) (es : List Entry)
    → history.state_from answers test state (map (noted lanes cut) es) ≡ history.state_from answers test state es
state-noted answers lanes cut test same state es = state_from-map answers test test (noted lanes cut) (λ e. refl) state es (all es)
  where
    all : (es : List Entry) → AllByRecursion (λ (e : Entry). test (noted lanes cut e) ≡ test e) es
    all [] = tt
    all (e ∷ es) = (same e, all es)

-- the states for any lanes are the same after a render
pub states-seen : (answers : Answers) (lanes others : Lanes) (cut : Cut) (hs : List HookHistory)
    → states_of answers others cut (map (rendered lanes cut) hs) ≡ states_of answers others cut hs
states-seen answers lanes others cut [] = refl
states-seen answers lanes others cut (h ∷ hs) =
    ap (λ x. x ∷ states_of answers others cut (map (rendered lanes cut) hs)) (state-noted answers lanes cut (history.is_included others cut) (λ e. refl) h.updates.initial h.updates.entries)
    ∙ ap (λ xs. history.state_of answers others cut h.updates ∷ xs) (states-seen answers lanes others cut hs)

-- so are those for its own
pub states-rendered : (answers : Answers) (lanes : Lanes) (cut : Cut) (hs : List HookHistory)
    → states_of answers lanes cut (map (rendered lanes cut) hs) ≡ states_of answers lanes cut hs
states-rendered answers lanes cut hs = states-seen answers lanes lanes cut hs

-- so are the committed values
pub committed-rendered : (answers : Answers) (lanes : Lanes) (cut : Cut) (hs : List HookHistory) → committed_of answers (map (rendered lanes cut) hs) ≡ committed_of answers hs
committed-rendered answers lanes cut [] = refl
committed-rendered answers lanes cut (h ∷ hs) =
    ap (λ x. x ∷ committed_of answers (map (rendered lanes cut) hs)) (state-noted answers lanes cut is_done (λ e. refl) h.updates.initial h.updates.entries)
    ∙ ap (λ xs. history.committed_value answers h.updates ∷ xs) (committed-rendered answers lanes cut hs)

-- ---- what is done

above-noted : (lanes : Lanes) (cut : Cut) (es : List Entry) → AllByRecursion (λ (e : Entry). is_done e ≡ true → e.update.number < cut.updates) es
    → AllByRecursion (λ (e : Entry). is_done e ≡ true → e.update.number < cut.updates) (map (noted lanes cut) es)
above-noted lanes cut [] above = tt
above-noted lanes cut (e ∷ es) above = (above.0, above-noted lanes cut es above.1)

-- the cut lies above what is done after a render too
pub above-rendered : (lanes : Lanes) (cut : Cut) (hs : List HookHistory) → AllAboveDone cut hs → AllAboveDone cut (map (rendered lanes cut) hs)
above-rendered lanes cut [] above = tt
above-rendered lanes cut (h ∷ hs) above = (above-noted lanes cut h.updates.entries above.0, above-rendered lanes cut hs above.1)

-- ---- again

noted-noted : (lanes : Lanes) (cut : Cut) (es : List Entry) → map (noted lanes cut) (map (noted lanes cut) es) ≡ map (noted lanes cut) es
noted-noted lanes cut [] = refl
noted-noted lanes cut (e ∷ es) = ap (λ fs. noted lanes cut e ∷ fs) (noted-noted lanes cut es)

-- a render that comes again changes nothing more
pub rendered-rendered : (lanes : Lanes) (cut : Cut) (hs : List HookHistory) → map (rendered lanes cut) (map (rendered lanes cut) hs) ≡ map (rendered lanes cut) hs
rendered-rendered lanes cut [] = refl
rendered-rendered lanes cut (h ∷ hs) =
    ap (λ es. record h { updates = record h.updates { entries = es } } ∷ map (rendered lanes cut) (map (rendered lanes cut) hs)) (noted-noted lanes cut h.updates.entries)
    ∙ ap (λ ks. rendered lanes cut h ∷ ks) (rendered-rendered lanes cut hs)

-- ---- whose they are

posted-noted : (t : Target) (lanes : Lanes) (cut : Cut) (es : List Entry) → map (posted_as t) (map (noted lanes cut) es) ≡ map (posted_as t) es
posted-noted t lanes cut [] = refl
posted-noted t lanes cut (e ∷ es) = ap (λ us. posted_as t e ∷ us) (posted-noted t lanes cut es)

pub hook-rendered : (s : State) (t : Target) (x : ℤ) (lanes : Lanes) (cut : Cut) (h : HookHistory) → IsHookOf s t x h → IsHookOf s t x (rendered lanes cut h)
hook-rendered s t x lanes cut h is =
    record {
      history_is = record {
        initial_is = is.history_is.initial_is;
        updates_are = posted-noted t lanes cut h.updates.entries ∙ is.history_is.updates_are;
      };
      linked_is = is.linked_is;
    }

-- hooks of an instance are its hooks after a render too
pub hooks-rendered : (s : State) (i k : ℕ) (xs : List ℤ) (lanes : Lanes) (cut : Cut) (hs : List HookHistory) → AreHooksFrom s i k xs hs
    → AreHooksFrom s i k xs (map (rendered lanes cut) hs)
hooks-rendered s i k [] lanes cut [] are = tt
hooks-rendered s i k [] lanes cut (h ∷ hs) are = absurd are
hooks-rendered s i k (x ∷ xs) lanes cut [] are = absurd are
hooks-rendered s i k (x ∷ xs) lanes cut (h ∷ hs) are =
    (hook-rendered s (hook i k) x lanes cut h are.0, hooks-rendered s i (suc k) xs lanes cut hs are.1)

-- ---- by the journal

done-filtered : (cut : Cut) (test : Posted → Bool) (us : List Posted) → DoneBefore cut us → DoneBefore cut (filter test us)
done-filtered cut test [] done = tt
done-filtered cut test (u ∷ us) done = go (test u) (done-filtered cut test us done.1)
  where
    go : (b : Bool) → DoneBefore cut (filter test us) → DoneBefore cut (cond b (u ∷ filter test us) (filter test us))
    go true rest = (done.0, rest)
    go false rest = rest

below : (m n : ℕ) → nat_lt m n ≡ true → m < n
below m n e = grind (arith, nat_tests)

above-posted : (t : Target) (cut : Cut) (es : List Entry) → DoneBefore cut (map (posted_as t) es)
    → AllByRecursion (λ (e : Entry). is_done e ≡ true → e.update.number < cut.updates) es
above-posted t cut [] done = tt
above-posted t cut (e ∷ es) done = (λ is. below e.update.number cut.updates (done.0 is), above-posted t cut es done.1)

-- if what is done lies before the cut, the cut lies above what is done of each hook
pub above-journal : (s : State) (i k : ℕ) (xs : List ℤ) (cut : Cut) (hs : List HookHistory) → DoneBefore cut s.journal.updates → AreHooksFrom s i k xs hs
    → AllAboveDone cut hs
above-journal s i k [] cut [] done are = tt
above-journal s i k [] cut (h ∷ hs) done are = absurd are
above-journal s i k (x ∷ xs) cut [] done are = absurd are
above-journal s i k (x ∷ xs) cut (h ∷ hs) done are = (
  above-posted (hook i k) cut h.updates.entries
      (subst (DoneBefore cut) (sym are.0.history_is.updates_are) (done-filtered cut (λ u. same_target (hook i k) u.target) s.journal.updates done)),
  above-journal s i (suc k) xs cut hs done are.1,
)

-- the states of an instance's hooks are those that the journal gives
pub states-journal : (answers : Answers) (lanes : Lanes) (cut : Cut) (s : State) (i k : ℕ) (xs : List ℤ) (hs : List HookHistory) → AreHooksFrom s i k xs hs
    → states_of answers lanes cut hs ≡ map (λ (h : ℕ × ℤ). state_of answers lanes cut h.1 (updates_of (hook i h.0) s.journal)) (enumerate_from k xs)
states-journal answers lanes cut s i k [] [] are = refl
states-journal answers lanes cut s i k [] (h ∷ hs) are = absurd are
states-journal answers lanes cut s i k (x ∷ xs) [] are = absurd are
states-journal answers lanes cut s i k (x ∷ xs) (h ∷ hs) are =
    ap (λ y. y ∷ states_of answers lanes cut hs) (states_agree answers lanes cut s.journal (hook i k) x h.updates are.0.history_is)
    ∙ ap (λ ys. state_of answers lanes cut x (updates_of (hook i k) s.journal) ∷ ys)
    (states-journal answers lanes cut s i (suc k) xs hs are.1
    ∙ ap (λ n. map (λ (h : ℕ × ℤ). state_of answers lanes cut h.1 (updates_of (hook i h.0) s.journal)) (enumerate_from n xs)) (sym (add-one k)))

-- the committed values of an instance's hooks are those that the journal gives
pub committed-journal : (answers : Answers) (s : State) (i k : ℕ) (xs : List ℤ) (hs : List HookHistory) → AreHooksFrom s i k xs hs
    → committed_of answers hs ≡ map (λ (h : ℕ × ℤ). committed_value answers h.1 (updates_of (hook i h.0) s.journal)) (enumerate_from k xs)
committed-journal answers s i k [] [] are = refl
committed-journal answers s i k [] (h ∷ hs) are = absurd are
committed-journal answers s i k (x ∷ xs) [] are = absurd are
committed-journal answers s i k (x ∷ xs) (h ∷ hs) are =
    ap (λ y. y ∷ committed_of answers hs) (committed_values_agree answers s.journal (hook i k) x h.updates are.0.history_is)
    ∙ ap (λ ys. committed_value answers x (updates_of (hook i k) s.journal) ∷ ys)
    (committed-journal answers s i (suc k) xs hs are.1
    ∙ ap (λ n. map (λ (h : ℕ × ℤ). committed_value answers h.1 (updates_of (hook i h.0) s.journal)) (enumerate_from n xs)) (sym (add-one k)))
