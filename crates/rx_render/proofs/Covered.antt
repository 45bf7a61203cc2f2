-- Ways cover a tree: when a render starts, and while updates come that lie behind its cut.
use Rattle.std.specs.Prelude.{◌≡◌, ℕ, Bool, true, false, List, ◌++◌, Option, Some, None, IsSome, option_map, refl}
use Rattle.std.proofs.Common.{sym, ap, ◌∙◌, subst}
use Rattle.rx_base.specs.declared.cut.Cut.{Cut}
use Rattle.rx_lane.specs.Lanes.{Lanes}
use Rattle.rx_ast.specs.Syntax.{Program}
use Rattle.rx_elem.specs.Trees.{Forest, Instance, Mark, Node, child, node, none, of_boundary, of_catcher, of_host, of_instance, plain, vacant, instance_in}
use Rattle.rx_susp.specs.declared.boundary.BoundaryState.TheVariants.{Hidden, Shown}
use Rattle.rx_hooks.specs.declared.hook.Hook.{Hook}
use Rattle.rx_hooks.specs.Hooks.{HookHistory, HooksStandFor}
use Rattle.rx_queue.specs.History.{Answers}
use Rattle.rx_queue.specs.Journal.{Posted, Resolution}
use Rattle.rx_meaning.specs.Again.{AllOpen}
use Rattle.rx_meaning.specs.Fresh.{Sight, hook_values}
use Rattle.rx_meaning.specs.Settled.{done_values, known_by}
use Rattle.commit_laws.specs.Each.{ForEach, ForEachIn}
use Rattle.commit_laws.specs.Idle.{HasCommittedValues, IsIdle, IsIdleMark}
use Rattle.render_laws.specs.OldNodes.{OldHas}
use Rattle.render_laws.specs.SameSight.{AllAfter}
use Rattle.run_laws.proofs.IdleLater.{idle_later}
use Rattle.rx_ways.specs.Ways.{Covers, CoversIn, CoversIf, IsQuiet}
use Rattle.rx_hook_store.specs.Gives.{has_work_in}
use Rattle.rx_hook_store.specs.Working.{AreAllWorking}
use Rattle.rx_hook_store.proofs.Working.{sees_committed}
use Rattle.rx_model.specs.State.{Progress, State}
use Rattle.rx_model.specs.Committing.{sight_of}
use Rattle.rx_model.specs.HooksOf.{KeepsAllHooks}
use Rattle.rx_causes.specs.Idle.{Rests}
use Rattle.rx_causes.specs.Scenes.{TellsWork}
use Rattle.cost_laws.specs.Undue.{IsUndue}
use Rattle.begin_laws.proofs.Hooks.{undue_at}
use Rattle.begin_laws.specs.Mounting.{IfMounted, HasInstances, HasInstancesIn}
use Rattle.rx_render.specs.Renders.{GivesAll}
use Rattle.rx_render.proofs.Going.{gives_instance}
use Rattle.rx_render.proofs.Instances.{tree_instances}

-- A longer journal

module _ (way : ℕ → Bool) (s : Sight) (new : List Posted) (more : List Resolution) (late : AllAfter s.cut.updates new) (opened : AllOpen new) where
  abbrev later : Sight
  later = record s { journal = record { updates = s.journal.updates ++ new; resolutions = s.journal.resolutions ++ more } }

  mutual
    node_later : (x : Node) → Covers way (IsIdleMark s) x → Covers way (IsIdleMark later) x
    node_later (node e m ns fs) h = ((λ n at off. idle_later s new more late opened (node e m ns fs) (h.0 n at off)), list_later ns h.1, list_later fs h.2)

    list_later : (ns : Forest) → CoversIn way (IsIdleMark s) ns → CoversIn way (IsIdleMark later) ns
    list_later none h = tt
    list_later (vacant ns) h = list_later ns h
    list_later (child x ns) h = (node_later x h.0, list_later ns h.1)

  pub covered_later : (tree : Option Node) → CoversIf way (IsIdleMark s) tree → CoversIf way (IsIdleMark later) tree
  covered_later None h = tt
  covered_later (Some x) h = node_later x h

-- The start of a render

-- in the hooks of an instance that is not one of these a render with these lanes at this cut has no work
abbrev pub HaveNoWork : (working : ℕ → Bool) → (kept : ℕ → Option (List Hook)) → Lanes → Cut → Type 0
HaveNoWork working kept lanes cut =
    (n : ℕ) (answers : Answers) (hooks : List Hook) (histories : List HookHistory) → working n ≡ false → kept n ≡ Some hooks → HooksStandFor answers hooks histories → has_work_in lanes cut histories ≡ false

-- that is so if each in whose hooks it has work is one of these
pub others_rest : (working : ℕ → Bool) (kept : ℕ → Option (List Hook)) (lanes : Lanes) (cut : Cut) → AreAllWorking lanes cut kept working → HaveNoWork working kept lanes cut
others_rest working kept lanes cut all n answers hooks histories off have stand = go (has_work_in lanes cut histories) refl
  where
    go : (b : Bool) → has_work_in lanes cut histories ≡ b → has_work_in lanes cut histories ≡ false
    go false is = is
    go true is =
        let on = all n hooks have (record { answers = answers; histories = histories; stand = stand; has = is }) in
        let f : true ≡ false = sym on ∙ off in
        cc

module _ (way stirred : ℕ → Bool) (kept : ℕ → Option (List Hook)) (s : Sight) (tree : Option Node) (calm : HaveNoWork stirred kept s.lanes s.cut) (gives : GivesAll s tree kept) where
  instance_idle : (i : Instance) → IfMounted tree (Some i) → (n : ℕ) → i.number ≡ Some n → stirred n ≡ false → HasCommittedValues s i
  instance_idle i has n is quiet =
      let same : hook_values s n i.initials ≡ done_values s.program (known_by s) n i.initials =
      sees_committed s.lanes s.cut n kept false (λ answers hooks histories have stand. sym (calm n answers hooks histories quiet have stand)) s i.initials refl refl
      (gives_instance s tree kept gives (Some i) has i n refl is) refl in
      ap (option_map (λ k. hook_values s k i.initials)) is ∙ (ap Some same ∙ ap (option_map (λ k. done_values s.program (known_by s) k i.initials)) (sym is))

  mark_idle : (m : Mark) → IfMounted tree (instance_in m) → IsQuiet stirred m → IsIdleMark s m
  mark_idle (of_instance i) has h = instance_idle i has h.0 h.1 h.2
  mark_idle (of_host x) has h = tt
  mark_idle plain has h = tt
  mark_idle (of_catcher c) has h = tt
  mark_idle (of_boundary Shown) has h = tt
  mark_idle (of_boundary (Hidden a)) has h = cc

  mutual
    node_idle : (x : Node) → HasInstances tree x → ForEach (IsQuiet stirred) x → IsIdle s x
    node_idle (node e m ns fs) has h = (mark_idle m has.0 h.0, list_idle ns has.1 h.1, list_idle fs has.2 h.2)

    list_idle : (ns : Forest) → HasInstancesIn tree ns → ForEachIn (IsQuiet stirred) ns → ForEachIn (IsIdleMark s) ns
    list_idle none has h = tt
    list_idle (vacant ns) has h = list_idle ns has h
    list_idle (child x ns) has h = (node_idle x has.0 h.0, list_idle ns has.1 h.1)

  mutual
    node_covered : (x : Node) → HasInstances tree x → Covers way (IsQuiet stirred) x → Covers way (IsIdleMark s) x
    node_covered (node e m ns fs) has h = ((λ n at off. node_idle (node e m ns fs) has (h.0 n at off)), list_covered ns has.1 h.1, list_covered fs has.2 h.2)

    list_covered : (ns : Forest) → HasInstancesIn tree ns → CoversIn way (IsQuiet stirred) ns → CoversIn way (IsIdleMark s) ns
    list_covered none has h = tt
    list_covered (vacant ns) has h = list_covered ns has h
    list_covered (child x ns) has h = (node_covered x has.0 h.0, list_covered ns has.1 h.1)

  pub start_covered : CoversIf way (IsQuiet stirred) tree → CoversIf way (IsIdleMark s) tree
  start_covered h = go tree (tree_instances tree) h
    where
      go : (old : Option Node) → OldHas (HasInstances tree) old → CoversIf way (IsQuiet stirred) old → CoversIf way (IsIdleMark s) old
      go None has h = tt
      go (Some x) has h = node_covered x has h

-- ways on which all instances stand cover any tree
module _ (way : ℕ → Bool) (all : (n : ℕ) → way n ≡ true) (P : Mark → Type 0) where
  mutual
    node_all : (x : Node) → Covers way P x
    node_all (node e m ns fs) = ((λ n at off. let f : true ≡ false = sym (all n) ∙ off in cc), list_all ns, list_all fs)

    list_all : (ns : Forest) → CoversIn way P ns
    list_all none = tt
    list_all (vacant ns) = list_all ns
    list_all (child x ns) = (node_all x, list_all ns)

  pub all_covered : (tree : Option Node) → CoversIf way P tree
  all_covered None = tt
  all_covered (Some x) = node_all x

-- What holds of marks

module _ (way : ℕ → Bool) (P Q : Mark → Type 0) (more : (m : Mark) → P m → Q m) where
  mutual
    each_more : (x : Node) → ForEach P x → ForEach Q x
    each_more (node e m ns fs) h = (more m h.0, all_more ns h.1, all_more fs h.2)

    all_more : (ns : Forest) → ForEachIn P ns → ForEachIn Q ns
    all_more none h = tt
    all_more (vacant ns) h = all_more ns h
    all_more (child x ns) h = (each_more x h.0, all_more ns h.1)

  mutual
    covers_more : (x : Node) → Covers way P x → Covers way Q x
    covers_more (node e m ns fs) h = ((λ n at off. each_more (node e m ns fs) (h.0 n at off)), covers_all ns h.1, covers_all fs h.2)

    covers_all : (ns : Forest) → CoversIn way P ns → CoversIn way Q ns
    covers_all none h = tt
    covers_all (vacant ns) h = covers_all ns h
    covers_all (child x ns) h = (covers_more x h.0, covers_all ns h.1)

  -- ways cover a tree for what follows too
  pub covers_if : (tree : Option Node) → CoversIf way P tree → CoversIf way Q tree
  covers_if None h = tt
  covers_if (Some x) h = covers_more x h

-- No update is due

module _ (way stirred : ℕ → Bool) (p : Program) (st : State) (g : Progress) (kept : ℕ → Option (List Hook)) (keeps : KeepsAllHooks p st kept) (calm : HaveNoWork stirred kept g.lanes g.cut) where
  quiet_rests : (m : Mark) → IsQuiet stirred m → Rests kept g.lanes g.cut m
  quiet_rests (of_instance i) h = (subst IsSome (sym h.1) refl, tells)
    where
      tells : TellsWork kept g.lanes g.cut (Some i) false
      tells n answers hooks histories number have stand =
          let same : h.0 ≡ n = (let f : Some h.0 ≡ Some n = sym h.1 ∙ number in cc) in
          sym (calm n answers hooks histories (subst (λ (k : ℕ). stirred k ≡ false) same h.2) have stand)
  quiet_rests (of_host x) h = tt
  quiet_rests (of_boundary b) h = tt
  quiet_rests (of_catcher c) h = tt
  quiet_rests plain h = tt

  mutual
    node_undue : (x : Node) → HasInstances st.tree x → ForEach (IsQuiet stirred) x → ForEach (IsUndue (sight_of p st g)) x
    node_undue (node e m ns fs) has h = (undue_at p st g kept keeps m has.0 (quiet_rests m h.0), list_undue ns has.1 h.1, list_undue fs has.2 h.2)

    list_undue : (ns : Forest) → HasInstancesIn st.tree ns → ForEachIn (IsQuiet stirred) ns → ForEachIn (IsUndue (sight_of p st g)) ns
    list_undue none has h = tt
    list_undue (vacant ns) has h = list_undue ns has h
    list_undue (child x ns) has h = (node_undue x has.0 h.0, list_undue ns has.1 h.1)

  mutual
    undue_covered : (x : Node) → HasInstances st.tree x → Covers way (IsQuiet stirred) x → Covers way (IsUndue (sight_of p st g)) x
    undue_covered (node e m ns fs) has h = ((λ n at off. node_undue (node e m ns fs) has (h.0 n at off)), undue_list ns has.1 h.1, undue_list fs has.2 h.2)

    undue_list : (ns : Forest) → HasInstancesIn st.tree ns → CoversIn way (IsQuiet stirred) ns → CoversIn way (IsUndue (sight_of p st g)) ns
    undue_list none has h = tt
    undue_list (vacant ns) has h = undue_list ns has h
    undue_list (child x ns) has h = (undue_covered x has.0 h.0, undue_list ns has.1 h.1)

  pub start_undue : CoversIf way (IsQuiet stirred) st.tree → CoversIf way (IsUndue (sight_of p st g)) st.tree
  start_undue h = go st.tree (tree_instances st.tree) h
    where
      go : (old : Option Node) → OldHas (HasInstances st.tree) old → CoversIf way (IsQuiet stirred) old → CoversIf way (IsUndue (sight_of p st g)) old
      go None has h = tt
      go (Some x) has h = undue_covered x has h
