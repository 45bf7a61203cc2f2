-- Work in kept hooks: it is what the updates of their histories say, and if there is none a render sees the committed values. If there is no news, it sees what a render without lanes sees.
use Rattle.std.proofs.Common.{◌≡◌, ℕ, ℤ, Bool, true, false, not, ◌&&◌, ◌||◌, if◌then◌else◌, Some, List, [], ◌∷◌, map, refl, sym, ap, ◌∙◌}
use Rattle.std.specs.List.{AllByRecursion, list_any}
use Rattle.rx_base.specs.declared.cut.Cut.{Cut}
use Rattle.rx_lane.specs.Lanes.{Lanes, has, no_lanes}
use Rattle.rx_queue.specs.declared.entry.Entry.{Entry}
use Rattle.rx_queue.specs.declared.entry.Standing.{Standing}
use Rattle.rx_queue.specs.declared.entry.Standing.TheVariants as standing
use Rattle.rx_queue.specs.declared.queue.Work.{Work}
use Rattle.rx_queue.specs.declared.queue.Work.TheVariants.{New, Owed, Nothing}
use Rattle.rx_queue.specs.History.{Answers, committed_value, is_before, is_done, is_included, is_new, is_owed_before, state_of, stands_done, stands_open, stands_owed}
use Rattle.rx_queue.specs.Stands.{work_of}
use Rattle.rx_queue.proofs.Histories.{done_are_included, state_from-agree}
use Rattle.rx_hooks.specs.declared.hook.Hook.{Hook}
use Rattle.rx_hooks.specs.Hooks.{AllAboveDone, HookHistory, HooksStandFor, is_new_work, is_owed_work, states_of, work_among, work_of_hooks}
use Rattle.rx_meaning.specs.Expressions.{answers_of}
use Rattle.rx_meaning.specs.Fresh.{Sight, hook_values}
use Rattle.rx_meaning.specs.Settled.{done_values, known_by}
use Rattle.commit_laws.specs.WaitsAgain.{without_lanes}
use Rattle.rx_hook_store.specs.Gives.{GivesValues, committed_of, has_news_in, has_work_in, has_work_in_update}
use Rattle.rx_hook_store.proofs.Stores.{KeptBy}

-- ---- which work there is

-- there is work, new or owed
abbrev pub is_some_work : Work → Bool
is_some_work New = true
is_some_work Owed = true
is_some_work Nothing = false

-- there is some if a test finds new work or a test finds owed work
by_tests : (new owed : Bool) → is_some_work (if new then New else (if owed then Owed else Nothing)) ≡ (new || owed)
by_tests true owed = refl
by_tests false true = refl
by_tests false false = refl

regroup : (a b c d : Bool) → ((a || b) || (c || d)) ≡ ((a || c) || (b || d))
regroup true b c d = refl
regroup false true true d = refl
regroup false true false d = refl
regroup false false c d = refl

-- a list has an element that passes one of two tests if it has one that passes the first, or one that passes the second
any_of_two : {A : Type 0} (either one other : A → Bool) → ((x : A) → either x ≡ (one x || other x)) → (xs : List A) → list_any either xs ≡ (list_any one xs || list_any other xs)
any_of_two either one other are [] = refl
any_of_two either one other are (x ∷ xs) =
    ap (λ b. b || list_any either xs) (are x)
    ∙ ap (λ b. (one x || other x) || b) (any_of_two either one other are xs)
    ∙ regroup (one x) (other x) (list_any one xs) (list_any other xs)

-- an included update that isn't done is new if it is open, and owed before the cut if it is owed
new_or_owed : (below : Bool) (x : Standing) (among : Bool) → ((below && (stands_done x || stands_owed x || among)) && not (stands_done x))
    ≡ (((below && (stands_done x || stands_owed x || among)) && stands_open x) || (below && stands_owed x))
new_or_owed true standing.Open true = refl
new_or_owed true standing.Open false = refl
new_or_owed true standing.Done among = refl
new_or_owed true standing.Owed among = refl
new_or_owed false x among = refl

in_history : (lanes : Lanes) (cut : Cut) (es : List Entry) → is_some_work (work_of lanes cut es) ≡ list_any (has_work_in_update lanes cut) es
in_history lanes cut es =
    by_tests (list_any (is_new lanes cut) es) (list_any (is_owed_before cut) es)
    ∙ sym (any_of_two (has_work_in_update lanes cut) (is_new lanes cut) (is_owed_before cut) (λ e. new_or_owed (is_before cut e) e.standing (has lanes e.update.lane)) es)

among_works : (ws : List Work) → is_some_work (work_among ws) ≡ list_any is_some_work ws
among_works ws = by_tests (list_any is_new_work ws) (list_any is_owed_work ws) ∙ sym (any_of_two is_some_work is_new_work is_owed_work one ws)
  where
    one : (w : Work) → is_some_work w ≡ (is_new_work w || is_owed_work w)
    one New = refl
    one Owed = refl
    one Nothing = refl

-- there is work in hooks if an included update of one of them is not done
pub work_is : (lanes : Lanes) (cut : Cut) (hs : List HookHistory) → is_some_work (work_of_hooks lanes cut hs) ≡ has_work_in lanes cut hs
work_is lanes cut hs = among_works (map (λ (h : HookHistory). work_of lanes cut h.updates.entries) hs) ∙ each hs
  where
    each : (hs : List HookHistory) → list_any is_some_work (map (λ (h : HookHistory). work_of lanes cut h.updates.entries) hs) ≡ has_work_in lanes cut hs
    each [] = refl
    each (h ∷ hs) =
        ap (λ b. b || list_any is_some_work (map (λ (h : HookHistory). work_of lanes cut h.updates.entries) hs)) (in_history lanes cut h.updates.entries)
        ∙ ap (λ b. list_any (has_work_in_update lanes cut) h.updates.entries || b) (each hs)

-- ---- if there is none

pub neither : (a b : Bool) → (a || b) ≡ false → (a ≡ false) × (b ≡ false)
neither true b none = absurd (cc none)
neither false b none = (refl, none)

included_as_done : (included done : Bool) → (done ≡ true → included ≡ true) → (included && not done) ≡ false → included ≡ done
included_as_done true true above none = refl
included_as_done true false above none = cc
included_as_done false true above none = above refl
included_as_done false false above none = refl

-- what is included is what is done
all_as_done : (lanes : Lanes) (cut : Cut) (es : List Entry) → AllByRecursion (λ (e : Entry). is_done e ≡ true → is_included lanes cut e ≡ true) es
    → list_any (has_work_in_update lanes cut) es ≡ false → AllByRecursion (λ (e : Entry). is_included lanes cut e ≡ is_done e) es
all_as_done lanes cut [] above none = tt
all_as_done lanes cut (e ∷ es) above none =
    let parts = neither (has_work_in_update lanes cut e) (list_any (has_work_in_update lanes cut) es) none in
    (included_as_done (is_included lanes cut e) (is_done e) above.0 parts.0, all_as_done lanes cut es above.1 parts.1)

-- the states are the committed values
pub states_committed : (answers : Answers) (lanes : Lanes) (cut : Cut) (hs : List HookHistory) → AllAboveDone cut hs → has_work_in lanes cut hs ≡ false
    → states_of answers lanes cut hs ≡ committed_of answers hs
states_committed answers lanes cut [] above none = refl
states_committed answers lanes cut (h ∷ hs) above none =
    let parts = neither (list_any (has_work_in_update lanes cut) h.updates.entries) (has_work_in lanes cut hs) none in
    let same = all_as_done lanes cut h.updates.entries (done_are_included lanes cut h.updates.entries above.0) parts.0 in
    ap (λ x. x ∷ states_of answers lanes cut hs) (state_from-agree answers (is_included lanes cut) is_done h.updates.initial h.updates.entries same)
    ∙ ap (λ xs. committed_value answers h.updates ∷ xs) (states_committed answers lanes cut hs above.1 parts.1)

-- if this tells whether a render has work in the hooks of an instance and it has none, the render sees the committed values
pub sees_committed : (lanes : Lanes) (cut : Cut) (i : ℕ) (kept : KeptBy) (has_work : Bool)
    → ((answers : Answers) (hooks : List Hook) (hs : List HookHistory) → kept i ≡ Some hooks → HooksStandFor answers hooks hs → has_work ≡ has_work_in lanes cut hs)
    → (s : Sight) (initials : List ℤ) → s.lanes ≡ lanes → s.cut ≡ cut → GivesValues s kept i initials → has_work ≡ false
    → hook_values s i initials ≡ done_values s.program (known_by s) i initials
sees_committed lanes cut i kept has_work tells s initials lanes_are cut_is g none =
    let none_in : has_work_in s.lanes s.cut g.histories ≡ false =
    ap (λ l. has_work_in l s.cut g.histories) lanes_are
    ∙ (ap (λ c. has_work_in lanes c g.histories) cut_is ∙ (sym (tells (answers_of s.program) g.hooks g.histories g.kept_is g.stand) ∙ none)) in
    sym g.values_are ∙ (states_committed (answers_of s.program) s.lanes s.cut g.histories g.above_done none_in ∙ g.done_are)

-- ---- news

new_only : (one : Bool) (other : Bool) → is_new_work (if one then New else (if other then Owed else Nothing)) ≡ one
new_only true other = refl
new_only false true = refl
new_only false false = refl

-- there is news in hooks if an included update of one of them is neither done nor owed
pub news_are : (lanes : Lanes) (cut : Cut) (hs : List HookHistory) → is_new_work (work_of_hooks lanes cut hs) ≡ has_news_in lanes cut hs
news_are lanes cut hs = new_only (list_any is_new_work (works hs)) (list_any is_owed_work (works hs)) ∙ each hs
  where
    works : List HookHistory → List Work
    works hs = map (λ (h : HookHistory). work_of lanes cut h.updates.entries) hs

    each : (hs : List HookHistory) → list_any is_new_work (map (λ (h : HookHistory). work_of lanes cut h.updates.entries) hs) ≡ has_news_in lanes cut hs
    each [] = refl
    each (h ∷ hs) =
        ap (λ b. b || list_any is_new_work (map (λ (h : HookHistory). work_of lanes cut h.updates.entries) hs))
        (new_only (list_any (is_new lanes cut) h.updates.entries) (list_any (is_owed_before cut) h.updates.entries))
        ∙ ap (λ b. list_any (is_new lanes cut) h.updates.entries || b) (each hs)

-- an update that gives no work is not new
work_or_new : (included : Bool) (x : Standing) → (included && not (stands_done x)) ≡ false → (included && stands_open x) ≡ false
work_or_new true standing.Open none = absurd (cc none)
work_or_new true standing.Done none = refl
work_or_new true standing.Owed none = refl
work_or_new false x none = refl

none_new : (lanes : Lanes) (cut : Cut) (es : List Entry) → list_any (has_work_in_update lanes cut) es ≡ false → list_any (is_new lanes cut) es ≡ false
none_new lanes cut [] none = refl
none_new lanes cut (e ∷ es) none =
    let parts = neither (has_work_in_update lanes cut e) (list_any (has_work_in_update lanes cut) es) none in
    let old : is_new lanes cut e ≡ false = work_or_new (is_included lanes cut e) e.standing parts.0 in
    rw old (none_new lanes cut es parts.1)

-- if there is no work there is no news
pub no_news : (lanes : Lanes) (cut : Cut) (hs : List HookHistory) → has_work_in lanes cut hs ≡ false → has_news_in lanes cut hs ≡ false
no_news lanes cut [] none = refl
no_news lanes cut (h ∷ hs) none =
    let parts = neither (list_any (has_work_in_update lanes cut) h.updates.entries) (has_work_in lanes cut hs) none in
    let old = none_new lanes cut h.updates.entries parts.0 in
    rw old (no_news lanes cut hs parts.1)

-- an update that is not new is included for no lanes if it is included
without : (below : Bool) (x : Standing) (among : Bool) → ((below && (stands_done x || stands_owed x || among)) && stands_open x) ≡ false
    → (below && (stands_done x || stands_owed x || false)) ≡ (below && (stands_done x || stands_owed x || among))
without true standing.Open true none = absurd (cc none)
without true standing.Open false none = refl
without true standing.Done among none = refl
without true standing.Owed among none = refl
without false x among none = refl

all_without : (lanes : Lanes) (cut : Cut) (es : List Entry) → list_any (is_new lanes cut) es ≡ false
    → AllByRecursion (λ (e : Entry). is_included no_lanes cut e ≡ is_included lanes cut e) es
all_without lanes cut [] none = tt
all_without lanes cut (e ∷ es) none =
    let parts = neither (is_new lanes cut e) (list_any (is_new lanes cut) es) none in
    (without (is_before cut e) e.standing (has lanes e.update.lane) parts.0, all_without lanes cut es parts.1)

-- if there is none, the states are those for no lanes
pub states_without : (answers : Answers) (lanes : Lanes) (cut : Cut) (hs : List HookHistory) → has_news_in lanes cut hs ≡ false
    → states_of answers no_lanes cut hs ≡ states_of answers lanes cut hs
states_without answers lanes cut [] none = refl
states_without answers lanes cut (h ∷ hs) none =
    let parts = neither (list_any (is_new lanes cut) h.updates.entries) (has_news_in lanes cut hs) none in
    ap (λ x. x ∷ states_of answers no_lanes cut hs)
    (state_from-agree answers (is_included no_lanes cut) (is_included lanes cut) h.updates.initial h.updates.entries (all_without lanes cut h.updates.entries parts.0))
    ∙ ap (λ xs. state_of answers lanes cut h.updates ∷ xs) (states_without answers lanes cut hs parts.1)

-- if this tells whether a render has news in the hooks of an instance and it has none, the render sees the values that a render without lanes sees
pub sees_without : (lanes : Lanes) (cut : Cut) (i : ℕ) (kept : KeptBy) (has_news : Bool)
    → ((answers : Answers) (hooks : List Hook) (hs : List HookHistory) → kept i ≡ Some hooks → HooksStandFor answers hooks hs → has_news ≡ has_news_in lanes cut hs)
    → (s : Sight) (initials : List ℤ) → s.lanes ≡ lanes → s.cut ≡ cut → GivesValues s kept i initials → has_news ≡ false
    → hook_values (without_lanes s) i initials ≡ hook_values s i initials
sees_without lanes cut i kept has_news tells s initials lanes_are cut_is g none =
    let none_in : has_news_in s.lanes s.cut g.histories ≡ false =
    ap (λ l. has_news_in l s.cut g.histories) lanes_are
    ∙ (ap (λ c. has_news_in lanes c g.histories) cut_is ∙ (sym (tells (answers_of s.program) g.hooks g.histories g.kept_is g.stand) ∙ none)) in
    sym g.without_are ∙ (states_without (answers_of s.program) s.lanes s.cut g.histories none_in ∙ g.values_are)
