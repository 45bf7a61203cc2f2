-- What a walk over the fibers of an old node tells of the causes in its tree.
use Rattle.std.specs.Prelude.{◌≡◌, ℕ, ℤ, Bool, true, false, not, ◌&&◌, List, Option, Some, None, ◌⊎◌, IsSome, option_and_then}
use Rattle.std.proofs.Common.{refl, sym, ap, ◌∙◌, subst, inl, inr}
use Rattle.rx_base.specs.Awaits.{Awaits}
use Rattle.rx_base.specs.declared.cut.Cut.{Cut}
use Rattle.rx_lane.specs.Lanes.{Lanes}
use Rattle.rx_elem.specs.Trees.{Instance, Mark, Node, instance_in, is_hidden, mark_of, node, of_boundary, of_catcher, of_host, of_instance, plain}
use Rattle.rx_elem.specs.Trees as trees
use Rattle.rx_susp.specs.declared.boundary.BoundaryState.TheVariants.{Hidden, Shown}
use Rattle.rx_queue.specs.History.{Answers}
use Rattle.rx_hooks.specs.declared.hook.Hook.{Hook}
use Rattle.rx_hooks.specs.Hooks.{HookHistory, HooksStandFor}
use Rattle.rx_lists.specs.Shapes.{Shape, fiber}
use Rattle.rx_lists.specs.Shapes as shapes
use Rattle.rx_links.specs.Drafts.{shape_or_none}
use Rattle.rx_links.specs.Readers.{list_from}
use Rattle.rx_meaning.specs.Fresh.{Contexts, Sight, hook_values}
use Rattle.rx_meaning.specs.Settled.{done_values, known_by}
use Rattle.commit_laws.specs.Each as each
use Rattle.commit_laws.specs.Idle.{IsIdle, IsIdleMark}
use Rattle.rx_ways.specs.Ways.{Covers}
use Rattle.rx_fiber.specs.Fibers.{Fiber}
use Rattle.rx_fiber.specs.Reading.{IsFor, whole, alone, beside, IsOld, new, of, next}
use Rattle.rx_hook_store.specs.Gives.{GivesValues, has_work_in}
use Rattle.rx_causes.specs.declared.scene.Scene.{Scene}
use Rattle.rx_causes.specs.Marks.{begun_mark, keeps_children, mark_at, EachBut, EachFiber, EachFiberBut, IsFreeOver, SomeFiber, SomeNode, is_spared}
use Rattle.rx_causes.specs.Scenes.{GivesHooks, KeepsHooks, TellsCalm, read_another}
use Rattle.rx_causes.specs.Hidden.{ForEach, KeepsHooksIf}
use Rattle.rx_causes.specs.Idle.{HasNoCause, HasNoCauseAt, HasNoWork, KeepsTree, LeadsAt, Rests, is_anew}
use Rattle.rx_causes.proofs.Marks.{mark_is}
use Rattle.rx_causes.proofs.Walks.{at_node, of_fiber, each_but, each_covered, each_fiber, some_node, spared, no_but, no_marks}
use Rattle.rx_causes.proofs.Still.{keeps_none}

-- The fiber of an old node

-- this holds of the mark of the first fiber of a list, and of each below it
abbrev pub EachOfFirst : (Option Mark → Type 0) → Shape Fiber → Type 0
EachOfFirst P shapes.none = ⊥
EachOfFirst P (fiber id v ks rs) = P (begun_mark v.stage) × EachFiber P ks

-- it holds of that of the first, or of some below it
abbrev pub SomeOfFirst : (Option Mark → Type 0) → Shape Fiber → Type 0
SomeOfFirst P shapes.none = ⊥
SomeOfFirst P (fiber id v ks rs) = P (begun_mark v.stage) ⊎ SomeFiber P ks

-- it holds of that of the first, and of each below but for those of instances that stand on no way, and all below these
abbrev pub EachOfFirstBut : (way : ℕ → Bool) → (Option Mark → Type 0) → Shape Fiber → Type 0
EachOfFirstBut way P shapes.none = ⊥
EachOfFirstBut way P (fiber id v ks rs) = P (begun_mark v.stage) × EachFiberBut way P ks

-- the list from the fiber on
pub old_list : (c : Shape Fiber) (o : Option ℕ) (x : Node) (i : ℕ) (s : Shape Fiber) → IsOld c o (Some x) → o ≡ Some i → list_from c (Some i) ≡ s → (n : ℕ) × (rest : Shape Fiber) × IsFor n x s rest
old_list c _ _ i s (of {j = j} {n = n} {x = x} {s = l} here leads (next {rest = rest} is a)) o_is list =
    let q : j ≡ i = cc in
    let f : l ≡ s = sym (ap shape_or_none here) ∙ (ap (λ k. list_from c (Some k)) q ∙ list) in
    (n, rest, subst (λ y. IsFor n x y rest) f is)

module _ (P : Option Mark → Type 0) where
  first_each : P None → (n : ℕ) (x : Node) (s rest : Shape Fiber) → IsFor n x s rest → each.ForEach (λ m. P (Some m)) x → EachOfFirst P s
  first_each empty n _ _ rest (whole {v = v} {m = m} {ns = ns} {ks = ks} is shown a) h = (at_node P v m is.stage h.0, each_fiber P empty 0 ns ks a h.1)
  first_each empty n _ _ rest (alone {v = v} {m = m} {fs = fs} {ks = ks} is hidden gone a) h = (at_node P v m is.stage h.0, each_fiber P empty 0 fs ks a h.2)
  first_each empty n _ _ rest (beside {v = v} {m = m} {ns = ns} {ks = ks} is hidden some a s f) h = (at_node P v m is.stage h.0, each_fiber P empty 0 ns ks a h.1)

  node_some : (P None → ⊥) → (n : ℕ) (x : Node) (s rest : Shape Fiber) → IsFor n x s rest → SomeOfFirst P s → SomeNode (λ m. P (Some m)) x
  node_some never n _ _ rest (whole {v = v} {m = m} {ns = ns} {ks = ks} is shown a) h = elim h [
    | inl here ↦ inl (of_fiber P v m is.stage here)
    | inr below ↦ inr (inl (some_node P never 0 ns ks a below))
  ]
  node_some never n _ _ rest (alone {v = v} {m = m} {fs = fs} {ks = ks} is hidden gone a) h = elim h [
    | inl here ↦ inl (of_fiber P v m is.stage here)
    | inr below ↦ inr (inr (some_node P never 0 fs ks a below))
  ]
  node_some never n _ _ rest (beside {v = v} {m = m} {ns = ns} {ks = ks} is hidden some a s f) h = elim h [
    | inl here ↦ inl (of_fiber P v m is.stage here)
    | inr below ↦ inr (inl (some_node P never 0 ns ks a below))
  ]

-- Without causes

-- an instance with a number has no work if its hooks have none
pub no_work : (kept : ℕ → Option (List Hook)) (lanes : Lanes) (cut : Cut) (i : Instance) (n : ℕ) → i.number ≡ Some n
    → ((answers : Answers) (hooks : List Hook) (histories : List HookHistory) → kept n ≡ Some hooks → HooksStandFor answers hooks histories → false ≡ has_work_in lanes cut histories)
    → ((s : Sight) (initials : List ℤ) → s.lanes ≡ lanes → s.cut ≡ cut → GivesValues s kept n initials → hook_values s n initials ≡ done_values s.program (known_by s) n initials)
    → HasNoWork kept lanes cut i
no_work kept lanes cut i n number tells values = record {
  number = n;
  is_numbered = number;
  tells = λ m answers hooks histories there have stand.
      let q : n ≡ m = (let f : Some n ≡ Some m = sym number ∙ there in cc) in tells answers hooks histories (ap kept q ∙ have) stand;
  values = λ s lanes_are cut_is gives. rw number (ap Some (values s i.initials lanes_are cut_is (gives i n refl number)));
}

module _ (kept : ℕ → Option (List Hook)) (lanes : Lanes) (cut : Cut) where
  no_cause_shown : (m : Mark) → HasNoCause kept lanes cut m → is_hidden m ≡ false
  no_cause_shown (of_instance i) h = refl
  no_cause_shown (of_host n) h = refl
  no_cause_shown (of_boundary b) h = h
  no_cause_shown (of_catcher c) h = refl
  no_cause_shown plain h = refl

  module _ (s : Sight) (lanes_are : s.lanes ≡ lanes) (cut_is : s.cut ≡ cut) where
    mark_idle : (m : Mark) → HasNoCause kept lanes cut m → GivesHooks s kept (instance_in m) → IsIdleMark s m
    mark_idle (of_instance i) h gives = h.values s lanes_are cut_is gives
    mark_idle (of_host n) h gives = tt
    mark_idle (of_boundary Shown) h gives = tt
    mark_idle (of_boundary (Hidden a)) h gives = let q : ⊥ = cc in q
    mark_idle (of_catcher c) h gives = tt
    mark_idle plain h gives = tt

    -- an old node is idle whose fiber has none, if those below have none but for those that are passed
    node_idle : (way : ℕ → Bool) (n : ℕ) (x : Node) (l rest : Shape Fiber) → IsFor n x l rest → EachOfFirstBut way (HasNoCauseAt kept lanes cut) l → ForEach (GivesHooks s kept) x → Covers way (IsIdleMark s) x → IsIdle s x
    node_idle way n _ _ rest (whole {v = v} {m = m} {ns = ns} {ks = ks} is shown a) h gives covers = (
      mark_idle m (of_fiber (HasNoCauseAt kept lanes cut) v m is.stage h.0) gives.0,
      each_covered way (HasNoCauseAt kept lanes cut) (λ m. GivesHooks s kept (instance_in m)) (IsIdleMark s) mark_idle 0 ns ks a h.1 gives.1 covers.1,
      tt,
    )
    node_idle way n _ _ rest (alone {v = v} {m = m} {ns = ns} {fs = fs} {ks = ks} is falling gone a) h gives covers = (
      mark_idle m (of_fiber (HasNoCauseAt kept lanes cut) v m is.stage h.0) gives.0,
      no_marks (IsIdleMark s) ns gone,
      each_covered way (HasNoCauseAt kept lanes cut) (λ m. GivesHooks s kept (instance_in m)) (IsIdleMark s) mark_idle 0 fs ks a h.1 gives.2 covers.2,
    )
    node_idle way n _ _ rest (beside {v = v} {m = m} is hidden some a s f) h gives covers =
        absurd (let f = no_cause_shown m (of_fiber (HasNoCauseAt kept lanes cut) v m is.stage h.0) in let q : ⊥ = cc in q)

    -- so is one whose fiber is that of an instance on no way, by the ways
    spared_idle : (way : ℕ → Bool) (n : ℕ) (x : Node) (i : ℕ) (v : Fiber) (below behind rest : Shape Fiber) → IsFor n x (fiber i v below behind) rest → is_spared way (begun_mark v.stage) ≡ true → Covers way (IsIdleMark s) x → IsIdle s x
    spared_idle way n _ _ _ _ _ rest (whole {v = v} {e = e} {m = m} {ns = ns} is shown a) off covers = spared way (IsIdleMark s) v m (node e m ns trees.none) is.stage off covers.0
    spared_idle way n _ _ _ _ _ rest (alone {v = v} {e = e} {m = m} {ns = ns} {fs = fs} is falling gone a) off covers = spared way (IsIdleMark s) v m (node e m ns fs) is.stage off covers.0
    spared_idle way n _ _ _ _ _ rest (beside {v = v} {e = e} {m = m} {ns = ns} {fs = fs} is hidden some a w f) off covers = spared way (IsIdleMark s) v m (node e m ns fs) is.stage off covers.0

  mark_rests : (m : Mark) → HasNoCause kept lanes cut m → Rests kept lanes cut m
  mark_rests (of_instance i) h = (subst IsSome (sym h.is_numbered) refl, h.tells)
  mark_rests (of_host n) h = tt
  mark_rests (of_boundary b) h = tt
  mark_rests (of_catcher c) h = tt
  mark_rests plain h = tt

  -- each of its nodes rests, but for those that are passed
  node_rests : (way : ℕ → Bool) (n : ℕ) (x : Node) (l rest : Shape Fiber) → IsFor n x l rest → EachOfFirstBut way (HasNoCauseAt kept lanes cut) l → EachBut way (Rests kept lanes cut) x
  node_rests way n _ _ rest (whole {v = v} {m = m} {ns = ns} {ks = ks} is shown a) h =
      inr (mark_rests m (of_fiber (HasNoCauseAt kept lanes cut) v m is.stage h.0), each_but way (HasNoCauseAt kept lanes cut) (Rests kept lanes cut) mark_rests 0 ns ks a h.1, tt)
  node_rests way n _ _ rest (alone {v = v} {m = m} {ns = ns} {fs = fs} {ks = ks} is falling gone a) h =
      inr (mark_rests m (of_fiber (HasNoCauseAt kept lanes cut) v m is.stage h.0), no_but way (Rests kept lanes cut) ns gone, each_but way (HasNoCauseAt kept lanes cut) (Rests kept lanes cut) mark_rests 0 fs ks a h.1)
  node_rests way n _ _ rest (beside {v = v} {m = m} is hidden some a s f) h =
      absurd (let f = no_cause_shown m (of_fiber (HasNoCauseAt kept lanes cut) v m is.stage h.0) in let q : ⊥ = cc in q)

-- one whose fiber is that of an instance on no way is passed itself
spared_rests : (way : ℕ → Bool) (Q : Mark → Type 0) (n : ℕ) (x : Node) (i : ℕ) (v : Fiber) (below behind rest : Shape Fiber) → IsFor n x (fiber i v below behind) rest → is_spared way (begun_mark v.stage) ≡ true → EachBut way Q x
spared_rests way Q n _ _ _ _ _ rest (whole is shown a) off = inl (ap (is_spared way) (sym (ap begun_mark is.stage)) ∙ off)
spared_rests way Q n _ _ _ _ _ rest (alone is falling gone a) off = inl (ap (is_spared way) (sym (ap begun_mark is.stage)) ∙ off)
spared_rests way Q n _ _ _ _ _ rest (beside is hidden some a w f) off = inl (ap (is_spared way) (sym (ap begun_mark is.stage)) ∙ off)

-- a component's instance that reads nothing anew, and has no work, is calm
pub calm_without : (kept : ℕ → Option (List Hook)) (scene : Scene) (cs : Contexts) (m : Option Mark) (component : Bool) → component ≡ true → is_anew scene component cs (option_and_then instance_in m) ≡ false
    → HasNoCauseAt kept scene.lanes scene.cut m → TellsCalm scene kept cs (option_and_then instance_in m) true
calm_without kept scene cs None component so same h = let q : ⊥ = cc in absurd q
calm_without kept scene cs (Some (of_instance i)) component so same h =
    let reads : read_another scene cs i ≡ false = same in
    record { work = false; tells = h.tells; is = rw (h.is_numbered, reads) refl }
calm_without kept scene cs (Some (of_host n)) component so same h = let q : ⊥ = cc in absurd q
calm_without kept scene cs (Some (of_boundary b)) component so same h = let q : ⊥ = cc in absurd q
calm_without kept scene cs (Some (of_catcher b)) component so same h = let q : ⊥ = cc in absurd q
calm_without kept scene cs (Some plain) component so same h = let q : ⊥ = cc in absurd q

-- a mark without a cause hides no children
pub keeps_without : (kept : ℕ → Option (List Hook)) (lanes : Lanes) (cut : Cut) (m : Option Mark) → HasNoCauseAt kept lanes cut m → keeps_children true m ≡ true
keeps_without kept lanes cut None h = refl
keeps_without kept lanes cut (Some m) h = ap (λ b. true && not b) (no_cause_shown kept lanes cut m h)

none_old : (c : Shape Fiber) (o : Option ℕ) (i : ℕ) → IsOld c o None → o ≡ Some i → ⊥
none_old c _ i new o_is = cc

-- an old node that is there has a mark
pub mark_there : (c : Shape Fiber) (o : Option ℕ) (i : ℕ) (old : Option Node) → IsOld c o old → o ≡ Some i → IsSome (mark_at c o)
mark_there c _ i _ new o_is = cc
mark_there c o i (Some x) was o_is = subst IsSome (sym (mark_is c o (Some x) was)) refl

-- one that keeps its children is no hidden boundary
pub not_hidden : (c : Shape Fiber) (o : Option ℕ) (x : Node) (a : Awaits) → keeps_children true (mark_at c o) ≡ true → IsOld c o (Some x) → mark_of x ≡ of_boundary (Hidden a) → ⊥
not_hidden c o x a keeps was is =
    let f : keeps_children true (mark_at c o) ≡ false = ap (keeps_children true) (mark_is c o (Some x) was ∙ ap Some is) in
    let q : ⊥ = cc in
    q

pub told_again : (b : Bool) → not b ≡ false → b ≡ true
told_again true h = refl
told_again false h = cc

pub shown_again : (b : Bool) → not b ≡ true → b ≡ false
shown_again true h = cc
shown_again false h = refl

-- The tree of an old node

module _ (c : Shape Fiber) (o : Option ℕ) (i : ℕ) (o_is : o ≡ Some i) (v : Fiber) (below behind : Shape Fiber) (list : list_from c (Some i) ≡ fiber i v below behind) (kept : ℕ → Option (List Hook)) where
  -- hooks are kept of its fibers
  pub keeps_fibers : KeepsTree kept c o → KeepsHooks kept (option_and_then instance_in (begun_mark v.stage)) × EachFiber (λ m. KeepsHooks kept (option_and_then instance_in m)) below
  keeps_fibers k = by_old k.node k.was k.keeps
    where
      by_old : (old : Option Node) → IsOld c o old → KeepsHooksIf kept old → KeepsHooks kept (option_and_then instance_in (begun_mark v.stage)) × EachFiber (λ m. KeepsHooks kept (option_and_then instance_in m)) below
      by_old None was h = absurd (none_old c o i was o_is)
      by_old (Some x) was h =
          let (n, rest, is) = old_list c o x i (fiber i v below behind) was o_is list in
          first_each (λ m. KeepsHooks kept (option_and_then instance_in m)) (keeps_none kept) n x (fiber i v below behind) rest is h

  module _ (lanes : Lanes) (cut : Cut) (x : Node) (was : IsOld c o (Some x)) where
    -- it is idle if none of them has a cause, but for those that are passed
    pub tree_idle : (way : ℕ → Bool) → IsFreeOver way (HasNoCauseAt kept lanes cut) (begun_mark v.stage) below → (s : Sight) → s.lanes ≡ lanes → s.cut ≡ cut
        → ForEach (GivesHooks s kept) x → Covers way (IsIdleMark s) x → IsIdle s x
    tree_idle way free s lanes_are cut_is gives covers =
        let (n, rest, is) = old_list c o x i (fiber i v below behind) was o_is list in
        elim free.1 [
          | inl off ↦ spared_idle kept lanes cut s lanes_are cut_is way n x i v below behind rest is off covers
          | inr more ↦ node_idle kept lanes cut s lanes_are cut_is way n x (fiber i v below behind) rest is (free.0, more) gives covers
        ]

    -- each of its nodes rests then, but for those that are passed
    pub tree_rests : (way : ℕ → Bool) → IsFreeOver way (HasNoCauseAt kept lanes cut) (begun_mark v.stage) below → EachBut way (Rests kept lanes cut) x
    tree_rests way free =
        let (n, rest, is) = old_list c o x i (fiber i v below behind) was o_is list in
        elim free.1 [
          | inl off ↦ spared_rests way (Rests kept lanes cut) n x i v below behind rest is off
          | inr more ↦ node_rests kept lanes cut way n x (fiber i v below behind) rest is (free.0, more)
        ]

    -- one of its nodes leads to a cause if one of them does
    pub tree_cause : (way : ℕ → Bool) → LeadsAt way kept lanes cut (begun_mark v.stage) ⊎ SomeFiber (LeadsAt way kept lanes cut) below
        → SomeNode (λ m. LeadsAt way kept lanes cut (Some m)) x
    tree_cause way some =
        let (n, rest, is) = old_list c o x i (fiber i v below behind) was o_is list in
        node_some (LeadsAt way kept lanes cut) (never_leads way) n x (fiber i v below behind) rest is some
      where
        never_leads : (way : ℕ → Bool) → LeadsAt way kept lanes cut None → ⊥
        never_leads way (inl on) = let q : ⊥ = cc in q
        never_leads way (inr e) = e
