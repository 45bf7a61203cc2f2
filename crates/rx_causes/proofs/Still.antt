-- What a walk over the fibers of a hidden boundary tells of what it keeps.
use Rattle.std.specs.Prelude.{◌≡◌, ℕ, ℤ, ◌<◌, ◌≤◌, nat_lt, Bool, true, false, List, length, Option, Some, None, option_and_then, slice_index_or}
use Rattle.std.proofs.Common.{refl, sym, ap, ◌∙◌, subst, arith}
use Rattle.std.proofs.lemmas.Bool.Decides.{nat_tests}
use Rattle.rx_base.specs.Awaits.{Awaits, has, resource_limit}
use Rattle.rx_base.specs.declared.cut.Cut.{Cut}
use Rattle.rx_lane.specs.Lanes.{Lanes}
use Rattle.rx_rules.specs.Names.{resources as names}
use Rattle.rx_elem.specs.Trees.{Forest, Instance, Mark, Node, children_if, children_of, instance_in, mark_of, node, of_boundary, of_catcher, of_host, of_instance, plain}
use Rattle.rx_elem.specs.Trees as trees
use Rattle.rx_queue.specs.History.{Answers}
use Rattle.rx_queue.specs.Journal.{resolutions_by}
use Rattle.rx_hooks.specs.declared.hook.Hook.{Hook}
use Rattle.rx_hooks.specs.Hooks.{HookHistory, HooksStandFor}
use Rattle.rx_lists.specs.Shapes.{Shape}
use Rattle.rx_links.specs.Readers.{list_from, value_of, IsLinked}
use Rattle.rx_meaning.specs.Again.{AllValuesAgree, AreUnresolved, MarkAgrees, ValuesAgree}
use Rattle.rx_meaning.specs.Fresh.{Sight, hook_values, resources_seen, version_seen}
use Rattle.commit_laws.specs.WaitsAgain.{without_lanes}
use Rattle.commit_laws.proofs.Versions.{value_past}
use Rattle.rx_fiber.specs.Fibers.{Fiber, Stage}
use Rattle.rx_fiber.specs.OldLists.{primary_list}
use Rattle.rx_fiber.specs.Reading.{AreFor, IsOld, of}
use Rattle.rx_fiber.proofs.OldLists.{primary_is}
use Rattle.rx_hook_store.specs.Gives.{GivesValues, has_news_in}
use Rattle.rx_causes.specs.Marks.{begun_mark, mark_at}
use Rattle.rx_causes.specs.Scenes.{GivesHooks, KeepsHooks, TellsNews, number_in}
use Rattle.rx_causes.specs.Hidden.{ForEach, ForEachIn, ForEachFiber, ForSomeIn, ForSomeFiber, GivesHooksIn, HasNews, HasNoNews, HasSameValues, KeepsOld}
use Rattle.rx_causes.proofs.Marks.{mark_is}
use Rattle.rx_causes.proofs.Walks.{each_fiber, each_node, some_node}

-- Instances without news

mark_agrees : (s : Sight) (m : Mark) → HasSameValues s (instance_in m) → MarkAgrees (without_lanes s) s m
mark_agrees s (of_instance i) same = same i refl
mark_agrees s (of_host h) same = tt
mark_agrees s (of_boundary b) same = tt
mark_agrees s (of_catcher c) same = tt
mark_agrees s plain same = tt

module _ (kept : ℕ → Option (List Hook)) (lanes : Lanes) (cut : Cut) (s : Sight) (lanes_are : s.lanes ≡ lanes) (cut_is : s.cut ≡ cut) where
  mutual
    values_agree : (x : Node) → ForEach (HasNoNews kept lanes cut) x → ForEach (GivesHooks s kept) x → ValuesAgree (without_lanes s) s x
    values_agree (node e m ns fs) h g = (mark_agrees s m (h.0.same s lanes_are cut_is g.0), all_agree ns h.1 g.1, all_agree fs h.2 g.2)

    -- they have the values that a render without lanes sees
    pub all_agree : (ns : Forest) → ForEachIn (HasNoNews kept lanes cut) ns → GivesHooksIn s kept ns → AllValuesAgree (without_lanes s) s ns
    all_agree trees.none h g = tt
    all_agree (trees.vacant ns) h g = all_agree ns h g
    all_agree (trees.child x ns) h g = (values_agree x h.0 g.0, all_agree ns h.1 g.1)

module _ (kept : ℕ → Option (List Hook)) (lanes : Lanes) (cut : Cut) where
  mutual
    node_told : (x : Node) → ForEach (HasNoNews kept lanes cut) x → ForEach (λ i. TellsNews kept lanes cut i false) x
    node_told (node e m ns fs) h = (h.0.tells, all_told ns h.1, all_told fs h.2)

    -- no test tells of news in their hooks
    pub all_told : (ns : Forest) → ForEachIn (HasNoNews kept lanes cut) ns → ForEachIn (λ i. TellsNews kept lanes cut i false) ns
    all_told trees.none h = tt
    all_told (trees.vacant ns) h = all_told ns h
    all_told (trees.child x ns) h = (node_told x h.0, all_told ns h.1)

-- one with a number has none if its hooks have none
pub none_at : (kept : ℕ → Option (List Hook)) (lanes : Lanes) (cut : Cut) (i : Option Instance) (n : ℕ) → number_in i ≡ Some n
    → ((answers : Answers) (hooks : List Hook) (histories : List HookHistory) → kept n ≡ Some hooks → HooksStandFor answers hooks histories → false ≡ has_news_in lanes cut histories)
    → ((s : Sight) (initials : List ℤ) → s.lanes ≡ lanes → s.cut ≡ cut → GivesValues s kept n initials → hook_values (without_lanes s) n initials ≡ hook_values s n initials)
    → HasNoNews kept lanes cut i
none_at kept lanes cut i n number tells same = record {
  tells = λ m answers hooks histories there have stand.
      let q : n ≡ m = (let f : Some n ≡ Some m = sym number ∙ there in cc) in tells answers hooks histories (ap kept q ∙ have) stand;
  same = λ s lanes_are cut_is gives j there.
      let own : j.number ≡ Some n = sym (ap number_in there) ∙ number in
      rw own (ap Some (same s j.initials lanes_are cut_is (gives j n there own)));
}

-- one without a number has none
pub none_without : (kept : ℕ → Option (List Hook)) (lanes : Lanes) (cut : Cut) (i : Option Instance) → number_in i ≡ None → HasNoNews kept lanes cut i
none_without kept lanes cut i gone = record {
  tells = λ n answers hooks histories there have stand. absurd (let q : Some n ≡ None = sym there ∙ gone in cc);
  same = λ s lanes_are cut_is gives j there.
      let own : j.number ≡ None = sym (ap number_in there) ∙ gone in
      rw own refl;
}

pub keeps_none : (kept : ℕ → Option (List Hook)) → KeepsHooks kept None
keeps_none kept n e = cc

news_of_none : (kept : ℕ → Option (List Hook)) (lanes : Lanes) (cut : Cut) → HasNews kept lanes cut None → ⊥
news_of_none kept lanes cut h = let e = h.is_numbered in cc

-- What a hidden boundary keeps

module _ (c : Shape Fiber) (linked : IsLinked c) (o link : Option ℕ) (list : list_from c link ≡ primary_list (list_from c o)) where
  kept_are : (old : Option Node) → IsOld c o old → AreFor 0 (children_if old) (list_from c link)
  kept_are old was = subst (AreFor 0 (children_if old)) (sym list) (primary_is c linked o old was).are

  -- its fibers have hooks that are kept
  pub kept_fibers : (kept : ℕ → Option (List Hook)) → KeepsOld kept c o → ForEachFiber (KeepsHooks kept) (list_from c link)
  kept_fibers kept k = each_fiber (λ m. KeepsHooks kept (option_and_then instance_in m)) (keeps_none kept) 0 (children_if k.node) (list_from c link) (kept_are k.node k.was) k.keeps

  module _ (kept : ℕ → Option (List Hook)) (lanes : Lanes) (cut : Cut) (x : Node) (was : IsOld c o (Some x)) where
    kept_quiet : ForEachFiber (HasNoNews kept lanes cut) (list_from c link) → ForEachIn (HasNoNews kept lanes cut) (children_of x)
    kept_quiet none = each_node (λ m. HasNoNews kept lanes cut (option_and_then instance_in m)) 0 (children_of x) (list_from c link) (kept_are (Some x) was) none

    pub kept_agrees : (s : Sight) → s.lanes ≡ lanes → s.cut ≡ cut → ForEachFiber (HasNoNews kept lanes cut) (list_from c link) → GivesHooksIn s kept (children_of x)
        → AllValuesAgree (without_lanes s) s (children_of x)
    kept_agrees s lanes_are cut_is none gives =
        all_agree kept lanes cut s lanes_are cut_is (children_of x) (kept_quiet none) gives

    pub kept_told : ForEachFiber (HasNoNews kept lanes cut) (list_from c link) → ForEachIn (λ i. TellsNews kept lanes cut i false) (children_of x)
    kept_told none = all_told kept lanes cut (children_of x) (kept_quiet none)

    pub kept_news : ForSomeFiber (HasNews kept lanes cut) (list_from c link) → ForSomeIn (HasNews kept lanes cut) (children_of x)
    kept_news some = some_node (λ m. HasNews kept lanes cut (option_and_then instance_in m)) (news_of_none kept lanes cut) 0 (children_of x) (list_from c link) (kept_are (Some x) was) some

pub no_old : (c : Shape Fiber) (o : Option ℕ) (x : Node) → o ≡ None → IsOld c o (Some x) → ⊥
no_old c _ _ gone (of here leads a) = let q : ⊥ = cc in q

-- the stage of the old node's fiber tells its mark
module _ (c : Shape Fiber) (o : Option ℕ) (i : ℕ) (v : Fiber) (s : Stage) (o_is : o ≡ Some i) (value : Some v ≡ value_of c i) (stage : s ≡ v.stage) where
  pub stage_mark : begun_mark s ≡ mark_at c o
  stage_mark =
      ap begun_mark stage
      ∙ (ap (option_and_then (λ (u : Fiber). begun_mark u.stage)) value ∙ ap (λ q. mark_at c q) (sym o_is))

  pub told_mark : (m : Mark) → begun_mark s ≡ Some m → mark_at c o ≡ Some m
  told_mark m e = sym stage_mark ∙ e

  module _ (x : Node) (was : IsOld c o (Some x)) where
    pub marks_node : (m : Mark) → begun_mark s ≡ Some m → mark_of x ≡ m
    marks_node m e = let f = mark_is c o (Some x) was in let g = told_mark m e in cc

    pub node_marks : (m : Mark) → mark_of x ≡ m → begun_mark s ≡ Some m
    node_marks m e = stage_mark ∙ (mark_is c o (Some x) was ∙ ap Some e)

-- Its resources

-- none of what it waits for has a value, if none of a number that a program reaches has
pub none_resolved : (s : Sight) (a : Awaits) (resources : List (Option ℤ)) → resources ≡ resources_seen s → length (names s.program) ≤ resource_limit
    → ((r : ℕ) → r < resource_limit → has a r ≡ true → slice_index_or resources r None ≡ None) → AreUnresolved s a
none_resolved s a resources same few none r awaited = subst (λ xs. slice_index_or xs r None ≡ None) same (by_limit (nat_lt r resource_limit) refl)
  where
    by_limit : (b : Bool) → nat_lt r resource_limit ≡ b → slice_index_or resources r None ≡ None
    by_limit true e = none r (grind (arith, nat_tests)) awaited
    by_limit false e =
        let late : resource_limit ≤ r = grind (arith, nat_tests) in
        ap (λ xs. slice_index_or xs r None) same ∙ value_past (resolutions_by s.cut s.journal) (version_seen s) (length (names s.program)) r (omega arith)
