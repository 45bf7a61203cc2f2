-- What is kept by instance, over a dispatch; and what is told of one hook.
use Rattle.std.proofs.Common.{◌≡◌, ℕ, ℤ, zero, suc, ◌+◌, ◌<◌, ◌≤◌, Bool, false, ◌&&◌, nat_eq, nat_lt, Option, Some, Result, List, [], ◌∷◌, ◌++◌, length, map, slice_get, refl, sym, ap, ◌∙◌, subst, arith}
use Rattle.std.specs.List.{enumerate_from}
use Rattle.std.specs.Option.{IsSomeAnd}
use Rattle.std.specs.Result.{IfOk, OnOk}
use Rattle.std.proofs.lemmas.Bool.Decides.{nat_tests}
use Rattle.std.proofs.lemmas.List.{map-append}
use Rattle.std.proofs.lemmas.Result.{IfOk-weaker, on_ok_weaker}
use Rattle.rx_base.specs.declared.cut.Cut.{Cut}
use Rattle.rx_lane.specs.Lanes.{Lanes, has}
use Rattle.rx_ast.specs.Syntax.{Program}
use Rattle.rx_step.specs.declared.step.LaneWord.{LaneWord}
use Rattle.rx_step.specs.declared.step.LaneWord.TheVariants as word
use Rattle.rx_elem.specs.Spots.{Mounted, mounted}
use Rattle.rx_queue.specs.declared.entry.Entry.{Entry}
use Rattle.rx_queue.specs.declared.update.Update.{Update}
use Rattle.rx_queue.specs.History.{Answers, new_entry, noted}
use Rattle.rx_queue.specs.History as histories
use Rattle.rx_queue.specs.Journal.{committed_value, hook, updates_of}
use Rattle.rx_queue.proofs.Bridging.{committed_values_agree}
use Rattle.rx_hooks.specs.declared.hook.Hook.{Hook}
use Rattle.rx_hooks.specs.Hooks.{HookHistory, HooksStandFor, changed_at, rendered}
use Rattle.rx_hooks.proofs.Lists.{stand-length}
use Rattle.rx_meaning.specs.Expressions.{answers_of}
use Rattle.rx_model.specs.State.{State, committed_values, linked_lanes}
use Rattle.rx_model.specs.Accepting.{dispatched_for, lane_of}
use Rattle.rx_model.specs.HooksOf.{AreHooksFrom, IsHookOf, KeepsAllHooks}
use Rattle.rx_hook_store.specs.Rendered.{IsRendered, KeepsInstance}
use Rattle.rx_hook_store.specs.Changing.{ChangesHooks, dispatched_hook, lanes_linked}
use Rattle.rx_hook_store.proofs.Stores.{KeptBy, all-keep, by_number, each-keeps}
use Rattle.rx_hook_store.proofs.Dispatching.{hooks_dispatched, instance_apart, others_dispatched, tree_dispatched}

-- ---- a render and a dispatch

new_noted : (lanes : Lanes) (cut : Cut) (u : Update) → cut.updates ≤ u.number → noted lanes cut (new_entry u) ≡ new_entry u
new_noted lanes cut u late = go (nat_lt u.number cut.updates) (grind (arith, nat_tests))
  where
    go : (b : Bool) → b ≡ false → (let e : Entry = record (new_entry u) { included = b && has lanes u.lane } in e) ≡ new_entry u
    go b e = rw e refl

entries_noted : (lanes : Lanes) (cut : Cut) (u : Update) (es : List Entry) → cut.updates ≤ u.number
    → map (noted lanes cut) (es ++ new_entry u ∷ []) ≡ map (noted lanes cut) es ++ new_entry u ∷ []
entries_noted lanes cut u es late = map-append (noted lanes cut) es (new_entry u ∷ []) ∙ ap (λ (e : Entry). map (noted lanes cut) es ++ e ∷ []) (new_noted lanes cut u late)

one_rendered : (lanes : Lanes) (cut : Cut) (w : LaneWord) (u : Update) (pending : Lanes) (h : HookHistory) → cut.updates ≤ u.number
    → rendered lanes cut (dispatched_hook w u pending h) ≡ dispatched_hook w u pending (rendered lanes cut h)
one_rendered lanes cut word.Sync u pending h late =
    ap (λ (es : List Entry). let k : HookHistory = record { updates = record { initial = h.updates.initial; entries = es }; linked = h.linked } in k) (entries_noted lanes cut u h.updates.entries late)
one_rendered lanes cut word.Input u pending h late =
    ap (λ (es : List Entry). let k : HookHistory = record { updates = record { initial = h.updates.initial; entries = es }; linked = h.linked } in k) (entries_noted lanes cut u h.updates.entries late)
one_rendered lanes cut word.Default u pending h late =
    ap (λ (es : List Entry). let k : HookHistory = record { updates = record { initial = h.updates.initial; entries = es }; linked = h.linked } in k) (entries_noted lanes cut u h.updates.entries late)
one_rendered lanes cut word.Transition u pending h late =
    ap (λ (es : List Entry). let k : HookHistory = record { updates = record { initial = h.updates.initial; entries = es }; linked = (dispatched_hook word.Transition u pending h).linked } in k)
    (entries_noted lanes cut u h.updates.entries late)

-- a dispatch behind the cut doesn't change what a render processed
all_rendered : (lanes : Lanes) (cut : Cut) (w : LaneWord) (u : Update) (pending : Lanes) (place : ℕ) (hs : List HookHistory) → cut.updates ≤ u.number
    → changed_at place (dispatched_hook w u pending) (map (rendered lanes cut) hs) ≡ map (rendered lanes cut) (changed_at place (dispatched_hook w u pending) hs)
all_rendered lanes cut w u pending place [] late = refl
all_rendered lanes cut w u pending zero (h ∷ hs) late = ap (λ k. k ∷ map (rendered lanes cut) hs) (sym (one_rendered lanes cut w u pending h late))
all_rendered lanes cut w u pending (suc place) (h ∷ hs) late = ap (λ ks. rendered lanes cut h ∷ ks) (all_rendered lanes cut w u pending place hs late)

-- ---- what is kept of one instance changes

module _ (change : List HookHistory → List HookHistory) (i : ℕ) (old new : KeptBy) (c : ChangesHooks change i old new) where
  were : (k : ℕ) (hooks : List Hook) → i ≡ k → old k ≡ Some hooks → hooks ≡ c.here.before
  were k hooks same e = let was = c.here.was in let at : old i ≡ old k = ap old same in cc

  -- its hooks stand for the histories after the change
  pub change_stands : (answers : Answers) (k : ℕ) (hooks : List Hook) (hs : List HookHistory) → i ≡ k → old k ≡ Some hooks → HooksStandFor answers hooks hs
      → HooksStandFor answers c.here.after (change hs)
  change_stands answers k hooks hs same e stand = c.here.stand answers hs (subst (λ (l : List Hook). HooksStandFor answers l hs) (were k hooks same e) stand)

  -- they are kept under its number
  pub is_after : (k : ℕ) → i ≡ k → new k ≡ Some c.here.after
  is_after k same = ap new (sym same) ∙ c.here.is

-- ---- a dispatch

module _ (p : Program) (s : State) (w : LaneWord) (u : Update) (i place : ℕ) (old new : KeptBy) (number : u.number ≡ length s.journal.updates) (lane : u.lane ≡ lane_of s w)
    (c : ChangesHooks (changed_at place (dispatched_hook w u s.schedule.pending)) i old new) where
  abbrev change : List HookHistory → List HookHistory
  change = changed_at place (dispatched_hook w u s.schedule.pending)

  abbrev after : State
  after = dispatched_for s w (hook i place) u.op

  are_here : (k : ℕ) (initials : List ℤ) (hs : List HookHistory) → i ≡ k → AreHooksFrom s k 0 initials hs → AreHooksFrom after k 0 initials (change hs)
  are_here k initials hs same are =
      let at : place ≡ 0 + place = omega arith in
      subst (λ n. AreHooksFrom after n 0 initials (change hs)) same (hooks_dispatched s w u i place 0 place initials hs at number lane (subst (λ n. AreHooksFrom s n 0 initials hs) (sym same) are))

  are_there : (k : ℕ) (initials : List ℤ) (hs : List HookHistory) → nat_eq i k ≡ false → AreHooksFrom s k 0 initials hs → AreHooksFrom after k 0 initials hs
  are_there k initials hs other are = others_dispatched s w (hook i place) u.op k 0 initials hs (λ l le. instance_apart i k l place other) are

  keeps_sent : (k : ℕ) (initials : List ℤ) → KeepsInstance p s old k initials → KeepsInstance p after new k initials
  keeps_sent k initials g =
      by_number i k
      (λ same. record {
        hooks = c.here.after;
        kept_is = is_after change i old new c k same;
        histories = change g.histories;
        stand = change_stands change i old new c (answers_of p) k g.hooks g.histories same g.kept_is g.stand;
        are_of = are_here k initials g.histories same g.are_of;
      })
      (λ other. record { hooks = g.hooks; kept_is = c.others k other ∙ g.kept_is; histories = g.histories; stand = g.stand; are_of = are_there k initials g.histories other g.are_of })

  rendered_sent : (lanes : Lanes) (cut : Cut) (k : ℕ) (initials : List ℤ) → cut.updates ≤ u.number → IsRendered p s lanes cut old k initials → IsRendered p after lanes cut new k initials
  rendered_sent lanes cut k initials late g =
      by_number i k
      (λ same. record {
        hooks = c.here.after;
        kept_is = is_after change i old new c k same;
        histories = change g.histories;
        stand = subst (λ (hs : List HookHistory). HooksStandFor (answers_of p) c.here.after hs) (all_rendered lanes cut w u s.schedule.pending place g.histories late)
            (change_stands change i old new c (answers_of p) k g.hooks (map (rendered lanes cut) g.histories) same g.kept_is g.stand);
        are_of = are_here k initials g.histories same g.are_of;
      })
      (λ other. record { hooks = g.hooks; kept_is = c.others k other ∙ g.kept_is; histories = g.histories; stand = g.stand; are_of = are_there k initials g.histories other g.are_of })

  all_sent : KeepsAllHooks p s old → KeepsAllHooks p after new
  all_sent keeps =
      all-keep p after new
      (λ k m at. keeps_sent m.number m.initials (each-keeps p s old keeps k m (subst (λ t. slice_get (mounted t) k ≡ Some m) (tree_dispatched s w (hook i place) u.op) at)))

-- ---- one hook of the state

-- the hook at a place of an instance's
pub record HookThere (s : State) (i k place : ℕ) (xs : List ℤ) (hs : List HookHistory) : Type 0 where
  pub initial : ℤ
  pub initial_at : slice_get xs place ≡ Some initial
  pub history : HookHistory
  pub history_at : slice_get hs place ≡ Some history
  pub is_of : IsHookOf s (hook i (k + place)) initial history

pub hook_there : (s : State) (i k place : ℕ) (xs : List ℤ) (hs : List HookHistory) → place < length hs → AreHooksFrom s i k xs hs → HookThere s i k place xs hs
hook_there s i k place [] [] lt are = absurd (omega arith)
hook_there s i k place [] (h ∷ hs) lt are = absurd are
hook_there s i k place (x ∷ xs) [] lt are = absurd are
hook_there s i k zero (x ∷ xs) (h ∷ hs) lt are =
    let same : k ≡ k + 0 = omega arith in
    record { initial = x; initial_at = refl; history = h; history_at = refl; is_of = subst (λ n. IsHookOf s (hook i n) x h) same are.0 }
hook_there s i k (suc place) (x ∷ xs) (h ∷ hs) lt are =
    let rest = hook_there s i (suc k) place xs hs (omega arith) are.1 in
    let same : suc k + place ≡ k + suc place = omega arith in
    record {
      initial = rest.initial;
      initial_at = rest.initial_at;
      history = rest.history;
      history_at = rest.history_at;
      is_of = subst (λ n. IsHookOf s (hook i n) rest.initial rest.history) same rest.is_of;
    }

get-numbered : (f : ℕ × ℤ → ℤ) (k place : ℕ) (xs : List ℤ) (x : ℤ) → slice_get xs place ≡ Some x → slice_get (map f (enumerate_from k xs)) place ≡ Some (f (k + place, x))
get-numbered f k place [] x e = cc
get-numbered f k zero (y ∷ xs) x e =
    let same : y ≡ x = cc in
    let at : k ≡ k + 0 = omega arith in
    ap (λ z. Some (f (k, z))) same ∙ ap (λ n. Some (f (n, x))) at
get-numbered f k (suc place) (y ∷ xs) x e =
    let at : (k + 1) + place ≡ k + suc place = omega arith in
    get-numbered f (k + 1) place xs x e ∙ ap (λ n. Some (f (n, x))) at

-- the hook of a place that is kept
module _ (p : Program) (s : State) (kept : KeptBy) (i place : ℕ) (initials : List ℤ) (has_place : IsSomeAnd (kept i) (λ (hooks : List Hook). place < length hooks)) (g : KeepsInstance p s kept i initials) where
  pub kept_there : HookThere s i 0 place initials g.histories
  kept_there =
      let within = subst (λ (o : Option (List Hook)). IsSomeAnd o (λ (hooks : List Hook). place < length hooks)) g.kept_is has_place in
      let same = stand-length (answers_of p) g.hooks g.histories g.stand in
      hook_there s i 0 place initials g.histories (omega arith) g.are_of

-- what it links is what the state says
pub tells_linked : {E : Type 0} (result : Result (Option Lanes) E) (w : LaneWord) (u : Update) (pending : Lanes) (i place : ℕ) (kept : KeptBy)
    → IsSomeAnd (kept i) (λ (hooks : List Hook). place < length hooks)
    → IfOk result (λ lanes. (answers : Answers) (hooks : List Hook) (histories : List HookHistory) (history : HookHistory) → kept i ≡ Some hooks → HooksStandFor answers hooks histories
    → slice_get histories place ≡ Some history → lanes ≡ lanes_linked w u pending history.linked)
    → IfOk result (λ lanes. (p : Program) (s : State) (initials : List ℤ) → KeepsInstance p s kept i initials → lanes ≡ lanes_linked w u pending (linked_lanes s.linked (hook i place)))
tells_linked result w u pending i place kept has_place told =
    IfOk-weaker result _ _
    (λ lanes tells p s initials g.
    let there = kept_there p s kept i place initials has_place g in
    let at : 0 + place ≡ place = omega arith in
    tells (answers_of p) g.hooks g.histories there.history g.kept_is g.stand there.history_at
    ∙ ap (λ (ls : Lanes). lanes_linked w u pending ls) (there.is_of.linked_is ∙ ap (λ n. linked_lanes s.linked (hook i n)) at))
    told

-- its committed value is the state's
pub tells_committed : (result : ℤ) (i place : ℕ) (kept : KeptBy) → IsSomeAnd (kept i) (λ (hooks : List Hook). place < length hooks)
    → ((answers : Answers) (hooks : List Hook) (hs : List HookHistory) (h : HookHistory) → kept i ≡ Some hooks → HooksStandFor answers hooks hs
    → slice_get hs place ≡ Some h → result ≡ histories.committed_value answers h.updates)
    → (p : Program) (s : State) (k : ℕ) (m : Mounted) → KeepsAllHooks p s kept → slice_get (mounted s.tree) k ≡ Some m → m.number ≡ i
    → slice_get (committed_values p s.journal m) place ≡ Some result
tells_committed result i place kept has_place told p s k m keeps at is =
    let has_here : IsSomeAnd (kept m.number) (λ (hooks : List Hook). place < length hooks) = subst (λ n. IsSomeAnd (kept n) (λ (hooks : List Hook). place < length hooks)) (sym is) has_place in
    let g = each-keeps p s kept keeps k m at in
    let there = kept_there p s kept m.number place m.initials has_here g in
    let value = told (answers_of p) g.hooks g.histories there.history (ap kept (sym is) ∙ g.kept_is) g.stand there.history_at in
    get-numbered (λ h. committed_value (answers_of p) h.1 (updates_of (hook m.number h.0) s.journal)) 0 place m.initials there.initial there.initial_at
    ∙ ap (λ x. Some x) (sym (value ∙ committed_values_agree (answers_of p) s.journal (hook m.number (0 + place)) there.initial there.history.updates there.is_of.history_is))

-- ---- a dispatch that may want memory

module _ {T E : Type 0} (result : Result T E) (w : LaneWord) (u : Update) (pending : Lanes) (i place : ℕ) (old new : KeptBy)
    (ok : OnOk result (ChangesHooks (changed_at place (dispatched_hook w u pending)) i old new)) where
  pub then_keeps : OnOk result ((p : Program) (s : State) → u.number ≡ length s.journal.updates → u.lane ≡ lane_of s w → pending ≡ s.schedule.pending
      → KeepsAllHooks p s old → KeepsAllHooks p (dispatched_for s w (hook i place) u.op) new)
  then_keeps =
      on_ok_weaker result
      (λ c p s number lane same. all_sent p s w u i place old new number lane (subst (λ (ls : Lanes). ChangesHooks (changed_at place (dispatched_hook w u ls)) i old new) same c))
      ok

  pub then_rendered : OnOk result ((p : Program) (s : State) (lanes : Lanes) (cut : Cut) (k : ℕ) (initials : List ℤ) → u.number ≡ length s.journal.updates → u.lane ≡ lane_of s w
      → pending ≡ s.schedule.pending → cut.updates ≤ u.number → IsRendered p s lanes cut old k initials
      → IsRendered p (dispatched_for s w (hook i place) u.op) lanes cut new k initials)
  then_rendered =
      on_ok_weaker result
      (λ c p s lanes cut k initials number lane same late.
      rendered_sent p s w u i place old new number lane (subst (λ (ls : Lanes). ChangesHooks (changed_at place (dispatched_hook w u ls)) i old new) same c) lanes cut k initials late)
      ok
