-- After a commit what is kept stands for the machine's state.
use Rattle.std.proofs.Common.{◌≡◌, ℕ, ℤ, zero, suc, ◌≤◌, Bool, true, false, not, ◌&&◌, ◌||◌, cond, if◌then◌else◌, nat_eq, Option, Some, List, [], ◌∷◌, map, filter, slice_get, refl, sym, ap, ◌∙◌, subst, arith}
use Rattle.std.specs.List.{list_any}
use Rattle.std.proofs.lemmas.Bool.Decides.{nat_tests}
use Rattle.rx_lane.specs.Lanes.{has}
use Rattle.rx_ast.specs.Syntax.{Program}
use Rattle.rx_elem.specs.Numbers.{Numbers}
use Rattle.rx_elem.specs.Trees.{Node}
use Rattle.rx_elem.specs.Spots.{Mounted, kept_instances, mounted, numbers_of, visible_instances}
use Rattle.rx_queue.specs.declared.entry.Standing.{Standing}
use Rattle.rx_queue.specs.declared.entry.Standing.TheVariants.{Done, Open, Owed}
use Rattle.rx_queue.specs.declared.entry.Entry.{Entry}
use Rattle.rx_queue.specs.History.{stands_done, stands_owed}
use Rattle.rx_queue.specs.History as history
use Rattle.rx_queue.specs.Bridge.{posted_as}
use Rattle.rx_queue.specs.Journal.{Posted, Target, belongs_to, hook, is_resource, marked_update, same_target}
use Rattle.rx_queue.proofs.Bridging.{committed_agrees, owed_agrees}
use Rattle.rx_hooks.specs.declared.hook.Hook.{Hook}
use Rattle.rx_hooks.specs.Hooks.{HookHistory, HooksStandFor, committed_hook, owed_hook, rendered}
use Rattle.rx_hooks.specs.Hooks as hooks_of
use Rattle.rx_meaning.specs.Expressions.{answers_of}
use Rattle.rx_meaning.specs.Settled.{HasOwnNumbers, TargetsBelow, includes}
use Rattle.rx_hook_store.specs.Gives.{has_work_in, has_work_in_update}
use Rattle.rx_model.specs.State.{Progress, State}
use Rattle.rx_model.specs.Committing.{committed_state}
use Rattle.rx_model.specs.HooksOf.{AreHooksFrom, KeepsAllHooks}
use Rattle.commit_laws.proofs.OwnNumbers.{own_numbers_apart}
use Rattle.rx_hook_store.specs.Rendered.{KeepsInstance}
use Rattle.rx_hook_store.specs.Changing.{HooksChange}
use Rattle.rx_hook_store.specs.Commits.{LinksBelow, SettlesHooks, hidden, made, shown, untouched}
use Rattle.rx_hook_store.proofs.Stores.{KeptBy, all-keep}

-- ---- which instances are shown

-- an instance of a list that passes a test is among those that pass
passes_in : (test : Mounted → Bool) (ms : List Mounted) (k : ℕ) (m : Mounted) → slice_get ms k ≡ Some m → test m ≡ true → list_any (nat_eq m.number) (numbers_of (filter test ms)) ≡ true
passes_in test [] k m at pass = cc
passes_in test (x ∷ ms) zero m at pass =
    let same : x ≡ m = cc in
    let itself : nat_eq m.number m.number ≡ true = grind (arith, nat_tests) in
    subst (λ (y : Mounted). list_any (nat_eq m.number) (numbers_of (filter test (y ∷ ms))) ≡ true) (sym same) (rw (pass, itself) refl)
passes_in test (x ∷ ms) (suc k) m at pass = go (test x) (passes_in test ms k m at pass)
  where
    more : (b : Bool) → list_any (nat_eq m.number) (numbers_of (filter test ms)) ≡ true → (b || list_any (nat_eq m.number) (numbers_of (filter test ms))) ≡ true
    more true h = refl
    more false h = h

    go : (b : Bool) → list_any (nat_eq m.number) (numbers_of (filter test ms)) ≡ true → list_any (nat_eq m.number) (numbers_of (cond b (x ∷ filter test ms) (filter test ms))) ≡ true
    go true h = more (nat_eq m.number x.number) h
    go false h = h

not_both : (a b : Bool) → (a ≡ true → b ≡ false) → b ≡ true → a ≡ false
not_both true b apart e = let f = apart refl in cc
not_both false b apart e = refl

not_hidden : (b : Bool) → b ≡ false → not b ≡ true
not_hidden true e = cc
not_hidden false e = refl

-- ---- hooks after a commit

or_false_parts : (a b : Bool) → (a || b) ≡ false → (a ≡ false) × (b ≡ false)
or_false_parts true b e = absurd (cc e)
or_false_parts false b e = (refl, e)

module _ (program : Program) (s : State) (g : Progress) (fixed : Numbers × Node) (n : ℕ) where
  abbrev after : State
  after = committed_state s g fixed

  abbrev visible : List ℕ
  visible = visible_instances (Some fixed.1)

  abbrev kept : List ℕ
  kept = kept_instances (Some fixed.1)

  -- what a render of a shown instance included is done
  hooks_shown : includes visible n ≡ true → includes kept n ≡ false → (k : ℕ) (xs : List ℤ) (hs : List HookHistory) → AreHooksFrom s n k xs hs
      → AreHooksFrom after n k xs (map committed_hook (map (rendered g.lanes g.cut) hs))
  hooks_shown is_in is_out k [] [] are = tt
  hooks_shown is_in is_out k [] (h ∷ hs) are = absurd are
  hooks_shown is_in is_out k (x ∷ xs) [] are = absurd are
  hooks_shown is_in is_out k (x ∷ xs) (h ∷ hs) are = (
    record {
      history_is = committed_agrees g.lanes g.cut visible kept s.journal (hook n k) x h.updates is_in is_out are.0.history_is;
      linked_is = are.0.linked_is;
    },
    hooks_shown is_in is_out (suc k) xs hs are.1,
  )

  -- what a hidden instance has before the cut is owed
  hooks_hidden : includes visible n ≡ false → includes kept n ≡ true → (k : ℕ) (xs : List ℤ) (hs : List HookHistory) → AreHooksFrom s n k xs hs
      → AreHooksFrom after n k xs (map (owed_hook g.lanes g.cut) hs)
  hooks_hidden is_out is_in k [] [] are = tt
  hooks_hidden is_out is_in k [] (h ∷ hs) are = absurd are
  hooks_hidden is_out is_in k (x ∷ xs) [] are = absurd are
  hooks_hidden is_out is_in k (x ∷ xs) (h ∷ hs) are = (
    record {
      history_is = owed_agrees g.lanes g.cut visible kept s.journal (hook n k) x h.updates is_out is_in are.0.history_is;
      linked_is = are.0.linked_is;
    },
    hooks_hidden is_out is_in (suc k) xs hs are.1,
  )

  -- if a render has no work in a hook's updates, they stand as before
  updates_left : (t : Target) (es : List Entry) → list_any (has_work_in_update g.lanes g.cut) es ≡ false
      → map (marked_update g.lanes g.cut visible kept) (map (posted_as t) es) ≡ map (posted_as t) es
  updates_left t [] calm = refl
  updates_left t (e ∷ es) calm =
      let parts = or_false_parts (has_work_in_update g.lanes g.cut e) (list_any (has_work_in_update g.lanes g.cut) es) calm in
      ap (λ (x : Standing). let u : Posted = record { target = t; update = e.update; standing = x } in u ∷ map (marked_update g.lanes g.cut visible kept) (map (posted_as t) es))
      (by_tests e.standing (history.is_before g.cut e) (has g.lanes e.update.lane) (belongs_to visible t || is_resource t) (belongs_to kept t) parts.0)
      ∙ ap (λ (us : List Posted). posted_as t e ∷ us) (updates_left t es parts.1)
    where
      by_tests : (x : Standing) (before among seen hid : Bool) → ((before && (stands_done x || stands_owed x || among)) && not (stands_done x)) ≡ false
          → (if (before && (stands_done x || stands_owed x || among)) && seen then Done else (if before && (not (stands_done x) && (among && hid)) then Owed else x)) ≡ x
      by_tests Open true true seen hid calm = absurd (let f : ⊥ = cc in f)
      by_tests Open true false seen hid calm = refl
      by_tests Open false among seen hid calm = refl
      by_tests Done true among true hid calm = refl
      by_tests Done true among false hid calm = refl
      by_tests Done false among seen hid calm = refl
      by_tests Owed true among seen hid calm = absurd (let f : ⊥ = cc in f)
      by_tests Owed false among seen hid calm = refl

  -- the updates of a target after the commit
  updates_after : (t : Target) (us : List Posted) → filter (λ (u : Posted). same_target t u.target) (map (marked_update g.lanes g.cut visible kept) us)
      ≡ map (marked_update g.lanes g.cut visible kept) (filter (λ (u : Posted). same_target t u.target) us)
  updates_after t [] = refl
  updates_after t (u ∷ us) = go (same_target t u.target) (updates_after t us)
    where
      go : (b : Bool) → filter (λ (u : Posted). same_target t u.target) (map (marked_update g.lanes g.cut visible kept) us)
          ≡ map (marked_update g.lanes g.cut visible kept) (filter (λ (u : Posted). same_target t u.target) us)
          → cond b (marked_update g.lanes g.cut visible kept u ∷ filter (λ (u : Posted). same_target t u.target) (map (marked_update g.lanes g.cut visible kept) us))
          (filter (λ (u : Posted). same_target t u.target) (map (marked_update g.lanes g.cut visible kept) us))
          ≡ map (marked_update g.lanes g.cut visible kept) (cond b (u ∷ filter (λ (u : Posted). same_target t u.target) us) (filter (λ (u : Posted). same_target t u.target) us))
      go true e = ap (λ (vs : List Posted). marked_update g.lanes g.cut visible kept u ∷ vs) e
      go false e = e

  -- the hooks of an instance in which the render has no work stay
  hooks_left : (k : ℕ) (xs : List ℤ) (hs : List HookHistory) → has_work_in g.lanes g.cut hs ≡ false → AreHooksFrom s n k xs hs → AreHooksFrom after n k xs hs
  hooks_left k [] [] calm are = tt
  hooks_left k [] (h ∷ hs) calm are = absurd are
  hooks_left k (x ∷ xs) [] calm are = absurd are
  hooks_left k (x ∷ xs) (h ∷ hs) calm are =
      let parts = or_false_parts (list_any (has_work_in_update g.lanes g.cut) h.updates.entries) (has_work_in g.lanes g.cut hs) calm in (
        record {
          history_is = record {
            initial_is = are.0.history_is.initial_is;
            updates_are =
                sym (updates_left (hook n k) h.updates.entries parts.0) ∙ ap (map (marked_update g.lanes g.cut visible kept)) are.0.history_is.updates_are
                ∙ sym (updates_after (hook n k) s.journal.updates);
          };
          linked_is = are.0.linked_is;
        },
        hooks_left (suc k) xs hs parts.1 are.1,
      )

  none_yet : (k : ℕ) (us : List Posted) → s.numbers.instance ≤ n → TargetsBelow s.numbers.instance us
      → filter (λ (u : Posted). same_target (hook n k) u.target) (map (marked_update g.lanes g.cut visible kept) us) ≡ []
  none_yet k [] new below = refl
  none_yet k (u ∷ us) new below = rw (below.0 k n new) (none_yet k us new below.1)

  -- a new instance was sent nothing
  hooks_made : s.numbers.instance ≤ n → TargetsBelow s.numbers.instance s.journal.updates → LinksBelow s → (k : ℕ) (xs : List ℤ) → AreHooksFrom after n k xs (map hooks_of.mounted xs)
  hooks_made new below links k [] = tt
  hooks_made new below links k (x ∷ xs) = (
    record {
      history_is = record { initial_is = refl; updates_are = sym (none_yet k s.journal.updates new below) };
      linked_is = sym (links k n new);
    },
    hooks_made new below links (suc k) xs,
  )

-- ---- what is kept

changed : (change : List HookHistory → List HookHistory) (p : Program) (t : State) (new : KeptBy) (k : ℕ) (initials : List ℤ) (o : Option (List Hook)) (c : HooksChange change o (new k))
    (hooks : List Hook) (hs : List HookHistory) → o ≡ Some hooks → HooksStandFor (answers_of p) hooks hs → AreHooksFrom t k 0 initials (change hs) → KeepsInstance p t new k initials
changed change p t new k initials o c hooks hs is stand are =
    let was = c.was in
    let same : hooks ≡ c.before = cc in
    record {
      hooks = c.after;
      kept_is = c.is;
      histories = change hs;
      stand = c.stand (answers_of p) hs (subst (λ (l : List Hook). HooksStandFor (answers_of p) l hs) same stand);
      are_of = are;
    }

-- after a commit what is kept stands for the state
pub committed_keeps : (p : Program) (s : State) (g : Progress) (fixed : Numbers × Node) (old new : KeptBy) → TargetsBelow s.numbers.instance s.journal.updates → LinksBelow s
    → HasOwnNumbers fixed.0.instance (Some fixed.1)
    → ((k : ℕ) (m : Mounted) → slice_get (mounted (Some fixed.1)) k ≡ Some m → SettlesHooks p s g old new m) → KeepsAllHooks p (committed_state s g fixed) new
committed_keeps p s g fixed old new below links own settles = all-keep p (committed_state s g fixed) new (λ k m at. go k m at (settles k m at))
  where
    apart : (i : ℕ) → includes (kept_instances (Some fixed.1)) i ≡ true → includes (visible_instances (Some fixed.1)) i ≡ false
    apart = own_numbers_apart fixed.0.instance fixed.1 own

    go : (k : ℕ) (m : Mounted) → slice_get (mounted (Some fixed.1)) k ≡ Some m → SettlesHooks p s g old new m → KeepsInstance p (committed_state s g fixed) new m.number m.initials
    go k m at (shown visible is c) =
        let is_in : includes (visible_instances (Some fixed.1)) m.number ≡ true = passes_in (λ (m : Mounted). m.visible) (mounted (Some fixed.1)) k m at visible in
        let is_out : includes (kept_instances (Some fixed.1)) m.number ≡ false = not_both _ _ (apart m.number) is_in in
        changed (map committed_hook) p (committed_state s g fixed) new m.number m.initials (old m.number) c is.hooks (map (rendered g.lanes g.cut) is.histories) is.kept_is is.stand
        (hooks_shown p s g fixed m.number is_in is_out 0 m.initials is.histories is.are_of)
    go k m at (hidden visible is c) =
        let is_in : includes (kept_instances (Some fixed.1)) m.number ≡ true =
        passes_in (λ (m : Mounted). not m.visible) (mounted (Some fixed.1)) k m at (not_hidden m.visible visible) in
        changed (map (owed_hook g.lanes g.cut)) p (committed_state s g fixed) new m.number m.initials (old m.number) c is.hooks is.histories is.kept_is is.stand
        (hooks_hidden p s g fixed m.number (apart m.number is_in) is_in 0 m.initials is.histories is.are_of)
    go k m at (untouched is calm same) =
        record {
          hooks = is.hooks;
          kept_is = same ∙ is.kept_is;
          histories = is.histories;
          stand = is.stand;
          are_of = hooks_left p s g fixed m.number 0 m.initials is.histories calm is.are_of;
        }
    go k m at (made new_one are) =
        record {
          hooks = are.hooks;
          kept_is = are.is;
          histories = map hooks_of.mounted m.initials;
          stand = are.stand (answers_of p);
          are_of = hooks_made p s g fixed m.number new_one below links 0 m.initials;
        }
