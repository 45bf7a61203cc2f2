-- A dispatch changes nothing of a render whose cut it lies behind.
use Rattle.std.specs.Prelude.{◌≡◌, ℕ, zero, suc, ◌≤◌, ◌<◌, Bool, true, false, ◌&&◌, cond, nat_lt, List, [], ◌∷◌, ◌++◌, filter, fold, length, ℤ, Result, Ok, Err, OnOk, OnErr, refl}
use Rattle.std.specs.List.{AllByRecursion}
use Rattle.std.proofs.Common.{sym, ap, ◌∙◌, subst, arith}
use Rattle.std.proofs.lemmas.Bool.Decides.{nat_tests}
use Rattle.std.proofs.lemmas.List.{append-nil}
use Rattle.std.proofs.lemmas.Result.{on_ok_weaker, on_err_weaker}
use Rattle.rx_base.specs.declared.cut.Cut.{Cut}
use Rattle.rx_lane.specs.declared.lane.Lane.{Lane}
use Rattle.rx_lane.specs.Lanes.{Lanes, has, no_lanes}
use Rattle.rx_ast.specs.Syntax.{Program}
use Rattle.rx_step.specs.declared.step.LaneWord.{LaneWord}
use Rattle.rx_step.specs.declared.step.LaneWord.TheVariants as word
use Rattle.rx_queue.specs.declared.entry.Entry.{Entry}
use Rattle.rx_queue.specs.declared.update.Op.{Op}
use Rattle.rx_queue.specs.declared.update.Update.{Update}
use Rattle.rx_queue.specs.History.{Answers, applied, committed_value, is_done, is_included, new_entry, pushed, state_of}
use Rattle.rx_queue.specs.History as history
use Rattle.rx_queue.specs.Journal.{Journal, Target, hook}
use Rattle.rx_hooks.specs.Hooks.{AllAboveDone, HookHistory, changed_at, states_of}
use Rattle.rx_meaning.specs.Expressions.{answers_of}
use Rattle.rx_meaning.specs.Fresh.{Sight}
use Rattle.rx_model.specs.State.{State, Progress}
use Rattle.rx_model.specs.Accepting.{dispatched_for, in_event, lane_of, next_update}
use Rattle.rx_model.specs.HooksOf.{KeepsAllHooks}
use Rattle.rx_hook_store.specs.Store.{Kept, kept_hooks}
use Rattle.rx_hook_store.specs.Changing.{ChangesHooks, dispatched_hook}
use Rattle.rx_hook_store.specs.Gives.{GivesValues, committed_of}
use Rattle.rx_hook_store.proofs.Sending.{change_stands, is_after}
use Rattle.rx_hook_store.proofs.Staying.{all_stay}
use Rattle.rx_hook_store.proofs.Stores.{KeptBy, by_number, gives-same}
use Rattle.rx_render.specs.declared.at.At.{At}
use Rattle.rx_render.specs.declared.at.At.TheVariants.{Begins, Completes, Over}
use Rattle.rx_render.specs.Rendering.{Rendering, IfLeft}
use Rattle.rx_render.specs.Renders.{Renders, IsUnderWay, IsRendering, IsLater, with_hooks}
use Rattle.rx_render.proofs.Later.{renders_later}

-- The states of hooks

not_before : (lanes : Lanes) (cut : Cut) (u : Update) → cut.updates ≤ u.number → is_included lanes cut (new_entry u) ≡ false
not_before lanes cut u late = go (nat_lt u.number cut.updates) (grind (arith, nat_tests))
  where
    go : (b : Bool) → b ≡ false → (b && has lanes u.lane) ≡ false
    go b e = rw e refl

filter_sent : (test : Entry → Bool) (u : Update) (es : List Entry) → test (new_entry u) ≡ false → filter test (es ++ new_entry u ∷ []) ≡ filter test es
filter_sent test u [] out = ap (λ b. cond b (new_entry u ∷ []) []) out
filter_sent test u (e ∷ es) out = ap (λ fs. cond (test e) (e ∷ fs) fs) (filter_sent test u es out)

-- the state of a hook that is sent an update behind the cut is as it was
state_sent : (answers : Answers) (lanes : Lanes) (cut : Cut) (u : Update) (h : history.History) → cut.updates ≤ u.number
    → state_of answers lanes cut (pushed u h) ≡ state_of answers lanes cut h
state_sent answers lanes cut u h late = ap (λ es. fold (λ now (e : Entry). applied answers now e.update.op) h.initial es) (filter_sent (is_included lanes cut) u h.entries (not_before lanes cut u late))

-- so is its committed value, since the update is open
value_sent : (answers : Answers) (u : Update) (h : history.History) → committed_value answers (pushed u h) ≡ committed_value answers h
value_sent answers u h = ap (λ es. fold (λ now (e : Entry). applied answers now e.update.op) h.initial es) (filter_sent is_done u h.entries refl)

-- the updates of a hook after a dispatch
updates_sent : (w : LaneWord) (u : Update) (pending : Lanes) (h : HookHistory) → (dispatched_hook w u pending h).updates ≡ pushed u h.updates
updates_sent word.Sync u pending h = refl
updates_sent word.Input u pending h = refl
updates_sent word.Default u pending h = refl
updates_sent word.Transition u pending h = refl

states_sent : (answers : Answers) (lanes : Lanes) (cut : Cut) (w : LaneWord) (u : Update) (pending : Lanes) (place : ℕ) (hs : List HookHistory) → cut.updates ≤ u.number
    → states_of answers lanes cut (changed_at place (dispatched_hook w u pending) hs) ≡ states_of answers lanes cut hs
states_sent answers lanes cut w u pending place [] late = refl
states_sent answers lanes cut w u pending zero (h ∷ hs) late =
    ap (λ x. x ∷ states_of answers lanes cut hs) (ap (state_of answers lanes cut) (updates_sent w u pending h) ∙ state_sent answers lanes cut u h.updates late)
states_sent answers lanes cut w u pending (suc place) (h ∷ hs) late =
    ap (λ xs. state_of answers lanes cut h.updates ∷ xs) (states_sent answers lanes cut w u pending place hs late)

values_sent : (answers : Answers) (w : LaneWord) (u : Update) (pending : Lanes) (place : ℕ) (hs : List HookHistory)
    → committed_of answers (changed_at place (dispatched_hook w u pending) hs) ≡ committed_of answers hs
values_sent answers w u pending place [] = refl
values_sent answers w u pending zero (h ∷ hs) =
    ap (λ x. x ∷ committed_of answers hs) (ap (committed_value answers) (updates_sent w u pending h) ∙ value_sent answers u h.updates)
values_sent answers w u pending (suc place) (h ∷ hs) = ap (λ xs. committed_value answers h.updates ∷ xs) (values_sent answers w u pending place hs)

-- What is done

above_pushed : (cut : Cut) (u : Update) (es : List Entry) → AllByRecursion (λ (e : Entry). is_done e ≡ true → e.update.number < cut.updates) es
    → AllByRecursion (λ (e : Entry). is_done e ≡ true → e.update.number < cut.updates) (es ++ new_entry u ∷ [])
above_pushed cut u [] h = ((λ d. let f : false ≡ true = d in cc), tt)
above_pushed cut u (e ∷ es) h = (h.0, above_pushed cut u es h.1)

above_sent : (cut : Cut) (w : LaneWord) (u : Update) (pending : Lanes) (place : ℕ) (hs : List HookHistory) → AllAboveDone cut hs
    → AllAboveDone cut (changed_at place (dispatched_hook w u pending) hs)
above_sent cut w u pending place [] h = tt
above_sent cut w u pending zero (k ∷ hs) h = (subst (history.IsAboveDone cut) (sym (updates_sent w u pending k)) (above_pushed cut u k.updates.entries h.0), h.1)
above_sent cut w u pending (suc place) (k ∷ hs) h = (h.0, above_sent cut w u pending place hs h.1)

-- The values that a render sees

gives_changed : (s : Sight) (w : LaneWord) (u : Update) (pending : Lanes) (place i : ℕ) (old new : KeptBy) → s.cut.updates ≤ u.number
    → ChangesHooks (changed_at place (dispatched_hook w u pending)) i old new → (k : ℕ) (initials : List ℤ) → GivesValues s old k initials → GivesValues s new k initials
gives_changed s w u pending place i old new late c k initials g = by_number i k here (λ other. gives-same s k old new initials (c.others k other) g)
  where
    change : List HookHistory → List HookHistory
    change = changed_at place (dispatched_hook w u pending)

    here : i ≡ k → GivesValues s new k initials
    here same =
        record {
          hooks = c.here.after;
          kept_is = is_after change i old new c k same;
          histories = change g.histories;
          stand = change_stands change i old new c (answers_of s.program) k g.hooks g.histories same g.kept_is g.stand;
          above_done = above_sent s.cut w u pending place g.histories g.above_done;
          values_are = states_sent (answers_of s.program) s.lanes s.cut w u pending place g.histories late ∙ g.values_are;
          without_are = states_sent (answers_of s.program) no_lanes s.cut w u pending place g.histories late ∙ g.without_are;
          done_are = values_sent (answers_of s.program) w u pending place g.histories ∙ g.done_are;
        }

-- A rendering

both_left : (at : At) {A B C : Type 0} → IfLeft at A → IfLeft at B → (A → B → C) → IfLeft at C
both_left (Begins id) a b f = f a b
both_left (Completes id) a b f = f a b
both_left Over a b f = tt

-- a render that is under way is with other hooks that give it its values too
pub goes_with : (old : Rendering) (hooks : Kept) (way : IsUnderWay old)
    → ((k : ℕ) (initials : List ℤ) → GivesValues way.sight (kept_hooks old.hooks) k initials → GivesValues way.sight (kept_hooks hooks) k initials) → IsUnderWay (with_hooks old hooks)
goes_with old hooks way gives =
    record {
      sight = way.sight;
      tree = way.tree;
      sees = record { program = way.sees.program; resources = way.sees.resources; declared = way.sees.declared; lanes = way.sees.lanes; cut = way.sees.cut; throws = way.sees.throws };
      gives = λ k m there. gives m.number m.initials (way.gives k m there);
      current = way.current;
      done = way.done;
      settled = way.settled;
      waits = way.waits;
      reads = way.reads;
      covers = way.covers;
      come = record { cursor = way.come.cursor; comes = way.come.comes; goes = way.come.goes; drawn = way.come.drawn; given = way.come.given; olds = way.come.olds; rests = way.come.rests; reached = way.come.reached };
    }

-- one whose hooks go on giving what they gave is one
pub kept_rendering : (old : Rendering) (hooks : Kept)
    → ((s : Sight) (k : ℕ) (initials : List ℤ) → GivesValues s (kept_hooks old.hooks) k initials → GivesValues s (kept_hooks hooks) k initials)
    → IsRendering old → IsRendering (with_hooks old hooks)
kept_rendering old hooks gives is =
    record {
      known = is.known;
      bounded = is.bounded;
      under_way = both_left old.at is.under_way is.under_way (λ way again. goes_with old hooks way (gives way.sight));
      gathered = is.gathered;
      gathering = is.gathering;
    }

-- one to whose hooks an update is sent is one, if the cut lies before it whenever a unit is left
pub sent_rendering : {T E : Type 0} (result : Result T E) (old : Rendering) (hooks : Kept) (w : LaneWord) (u : Update) (pending : Lanes) (place i : ℕ)
    → OnOk result (ChangesHooks (changed_at place (dispatched_hook w u pending)) i (kept_hooks old.hooks) (kept_hooks hooks))
    → OnErr result ((n : ℕ) → kept_hooks hooks n ≡ kept_hooks old.hooks n) → IfLeft old.at (old.cut.updates ≤ u.number) → IsRendering old → IsRendering (with_hooks old hooks)
sent_rendering result old hooks w u pending place i ok err later is =
    record { known = is.known; bounded = is.bounded; under_way = both_left old.at is.under_way later goes; gathered = is.gathered; gathering = is.gathering }
  where
    gives : (s : Sight) → s.cut.updates ≤ u.number → (k : ℕ) (initials : List ℤ) → GivesValues s (kept_hooks old.hooks) k initials → GivesValues s (kept_hooks hooks) k initials
    gives s late k initials g = go result ok err
      where
        go : {T E : Type 0} (r : Result T E) → OnOk r (ChangesHooks (changed_at place (dispatched_hook w u pending)) i (kept_hooks old.hooks) (kept_hooks hooks))
            → OnErr r ((n : ℕ) → kept_hooks hooks n ≡ kept_hooks old.hooks n) → GivesValues s (kept_hooks hooks) k initials
        go (Ok x) c same = gives_changed s w u pending place i (kept_hooks old.hooks) (kept_hooks hooks) late c k initials g
        go (Err y) c same = gives-same s k (kept_hooks old.hooks) (kept_hooks hooks) initials (same k) g

    goes : IsUnderWay old → old.cut.updates ≤ u.number → IsUnderWay (with_hooks old hooks)
    goes way late = goes_with old hooks way (gives way.sight (subst (λ c. c.updates ≤ u.number) (sym way.sees.cut) late))

-- A render of the machine

event_tree : (w : LaneWord) (s : State) (t : Target) (l : Lane) → (in_event w s t l).tree ≡ s.tree
event_tree word.Sync s t l = refl
event_tree word.Input s t l = refl
event_tree word.Default s t l = refl
event_tree word.Transition s t l = refl

event_seen : (w : LaneWord) (s : State) (t : Target) (l : Lane) → (in_event w s t l).seen ≡ s.seen
event_seen word.Sync s t l = refl
event_seen word.Input s t l = refl
event_seen word.Default s t l = refl
event_seen word.Transition s t l = refl

event_journal : (w : LaneWord) (s : State) (t : Target) (l : Lane) → (in_event w s t l).journal ≡ s.journal
event_journal word.Sync s t l = refl
event_journal word.Input s t l = refl
event_journal word.Default s t l = refl
event_journal word.Transition s t l = refl

pub dispatch_later : (g : Progress) (st : State) (w : LaneWord) (t : Target) (o : Op) → g.cut.updates ≤ length st.journal.updates → IsLater g st (dispatched_for st w t o)
dispatch_later g st w t o past =
    let l = lane_of st w in
    let u = next_update st.journal t o l in
    record {
      tree = event_tree w st t l;
      seen = event_seen w st t l;
      new = u ∷ [];
      more = [];
      updates = ap (λ (j : Journal). j.updates ++ u ∷ []) (event_journal w st t l);
      resolutions = ap (λ (j : Journal). j.resolutions) (event_journal w st t l) ∙ sym (append-nil st.journal.resolutions);
      after = (past, tt);
      opened = (refl, refl, tt);
    }

-- hooks stand for the state after a dispatch that is the next
abbrev pub KeepsSent : LaneWord → Update → (pending : Lanes) → (place instance : ℕ) → Rendering → Kept → Type 0
KeepsSent w u pending place i v hooks =
    (p : Program) (st : State) → u.number ≡ length st.journal.updates → u.lane ≡ lane_of st w → pending ≡ st.schedule.pending
    → KeepsAllHooks p st (kept_hooks v.hooks) → KeepsAllHooks p (dispatched_for st w (hook i place) u.op) (kept_hooks hooks)

-- a render is in progress after it
abbrev pub RendersSent : LaneWord → Update → (pending : Lanes) → (place instance : ℕ) → Rendering → Rendering → Type 0
RendersSent w u pending place i v new =
    (p : Program) (st : State) (g : Progress) → u.number ≡ length st.journal.updates → u.lane ≡ lane_of st w → pending ≡ st.schedule.pending
    → Renders p st g v → Renders p (dispatched_for st w (hook i place) u.op) g new

sent_renders : (v : Rendering) (hooks : Kept) (w : LaneWord) (u : Update) (pending : Lanes) (place i : ℕ) → KeepsSent w u pending place i v hooks
    → RendersSent w u pending place i v (with_hooks v hooks)
sent_renders v hooks w u pending place i keeps p st g number lane same r =
    renders_later p st (dispatched_for st w (hook i place) u.op) g v hooks r (dispatch_later g st w (hook i place) u.op r.past.updates) (keeps p st number lane same r.keeps)

-- it is with hooks that stand for the same state
pub with_kept : (v : Rendering) (hooks : Kept) (p : Program) (st : State) (g : Progress) → KeepsAllHooks p st (kept_hooks hooks) → Renders p st g v → Renders p st g (with_hooks v hooks)
with_kept v hooks p st g keeps r =
    record {
      program = r.program;
      resources = r.resources;
      declared = r.declared;
      lanes = r.lanes;
      cut = r.cut;
      seen = r.seen;
      throws = r.throws;
      current = r.current;
      keeps = keeps;
      done = r.done;
      past = r.past;
      settled = r.settled;
      rooted = r.rooted;
      waits = r.waits;
      reads = r.reads;
      covers = r.covers;
      come = record { cursor = r.come.cursor; comes = r.come.comes; goes = r.come.goes; drawn = r.come.drawn; given = r.come.given; olds = r.come.olds; rests = r.come.rests; reached = r.come.reached };
      costs = record { flags = r.costs.flags; are = r.costs.are; counted = r.costs.counted; undue = r.costs.undue };
    }

-- so it is if memory ran out
unsent_renders : (v : Rendering) (hooks : Kept) → ((n : ℕ) → kept_hooks hooks n ≡ kept_hooks v.hooks n) → (p : Program) (st : State) (g : Progress) → Renders p st g v
    → Renders p st g (with_hooks v hooks)
unsent_renders v hooks same p st g r = with_kept v hooks p st g (all_stay st st refl refl p (kept_hooks v.hooks) (kept_hooks hooks) refl same r.keeps) r

-- From the value that was opened

module _ {T E : Type 0} (result : Result T E) (value inside : Rendering) (same : inside ≡ value) (hooks : Kept) (w : LaneWord) (u : Update) (pending : Lanes) (place i : ℕ) where
  pub then_rendering : OnOk result (ChangesHooks (changed_at place (dispatched_hook w u pending)) i (kept_hooks inside.hooks) (kept_hooks hooks))
      → OnErr result ((n : ℕ) → kept_hooks hooks n ≡ kept_hooks inside.hooks n) → IfLeft value.at (value.cut.updates ≤ u.number) → IsRendering inside
      → IsRendering (with_hooks inside hooks)
  then_rendering ok err later is = sent_rendering result inside hooks w u pending place i ok err (subst (λ v. IfLeft v.at (v.cut.updates ≤ u.number)) (sym same) later) is

  pub then_states : OnOk result (KeepsSent w u pending place i inside hooks) → OnOk result (KeepsSent w u pending place i value hooks)
  then_states h = subst (λ v. OnOk result (KeepsSent w u pending place i v hooks)) same h

  pub then_renders : OnOk result (KeepsSent w u pending place i inside hooks) → OnOk result (RendersSent w u pending place i value (with_hooks inside hooks))
  then_renders h =
      subst (λ v. OnOk result (RendersSent w u pending place i v (with_hooks inside hooks))) same
      (on_ok_weaker result (sent_renders inside hooks w u pending place i) h)

  pub then_stays : OnErr result ((n : ℕ) → kept_hooks hooks n ≡ kept_hooks inside.hooks n)
      → OnErr result ((p : Program) (st : State) (g : Progress) → Renders p st g value → Renders p st g (with_hooks inside hooks))
  then_stays h =
      subst (λ v. OnErr result ((p : Program) (st : State) (g : Progress) → Renders p st g v → Renders p st g (with_hooks inside hooks))) same
      (on_err_weaker result (unsent_renders inside hooks) h)
