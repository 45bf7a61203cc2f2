-- What is compared alike comes to the same: effects, placements and outcome.
use Rattle.std.specs.Prelude.{◌≡◌, Bool, true, false, List, [], ◌∷◌, Option, cond, fold, map, refl}
use Rattle.std.proofs.Common.{ap, sym, ◌∙◌}
use Rattle.rx_base.specs.Awaits.{Awaits}
use Rattle.rx_base.specs.Awaits as awaits
use Rattle.rx_lane.specs.Lanes.{Lanes, only_transitions}
use Rattle.rx_elem.specs.Trees.{Node, mark_of, awaits_in}
use Rattle.rx_elem.specs.Compare.{Change, Compared, compare_trees}
use Rattle.rx_effect.specs.EffectLog.{layout, passive, layout_log, passive_of}
use Rattle.rx_meaning.specs.Outcome.{commit, defer, all_awaits, outcome, outcome_by, newly_hidden}
use Rattle.prune_laws.proofs.Alike.{IsAlike}

pub layout_alike : (c d : Compared) → IsAlike c d → layout_log c ≡ layout_log d
layout_alike c d h = rw (h.destroys layout, h.creates layout) refl

pub passive_alike : (c d : Compared) → IsAlike c d → passive_of c ≡ passive_of d
passive_alike c d h = rw (h.destroys passive, h.creates passive) refl

-- what changes wait for
abbrev waits : List Change → List Awaits
waits cs = map (λ c. awaits_in (mark_of c.new)) cs

deferred_by : (lanes : Lanes) (n q : Node) (a : Awaits) (cs ds : List Change) → waits cs ≡ waits ds → outcome_by lanes q cs ≡ defer a → outcome_by lanes n ds ≡ defer a
deferred_by lanes n q a [] [] e h = absurd (cc h)
deferred_by lanes n q a [] (d ∷ ds) e h = absurd (cc h)
deferred_by lanes n q a (c ∷ cs) [] e h = absurd (cc e)
deferred_by lanes n q a (c ∷ cs) (d ∷ ds) e h = go (only_transitions lanes) h
  where
    go : (b : Bool) → cond b (defer (all_awaits (c ∷ cs))) (commit q) ≡ defer a → cond b (defer (all_awaits (d ∷ ds))) (commit n) ≡ defer a
    go true k = sym (ap (λ ws. defer (fold awaits.union awaits.nothing ws)) e) ∙ k
    go false k = absurd (cc k)

committed_by : (lanes : Lanes) (n q : Node) (cs ds : List Change) → waits cs ≡ waits ds → outcome_by lanes q cs ≡ commit q → outcome_by lanes n ds ≡ commit n
committed_by lanes n q [] [] e h = refl
committed_by lanes n q [] (d ∷ ds) e h = absurd (cc e)
committed_by lanes n q (c ∷ cs) [] e h = absurd (cc e)
committed_by lanes n q (c ∷ cs) (d ∷ ds) e h = go (only_transitions lanes) h
  where
    go : (b : Bool) → cond b (defer (all_awaits (c ∷ cs))) (commit q) ≡ commit q → cond b (defer (all_awaits (d ∷ ds))) (commit n) ≡ commit n
    go true k = absurd (cc k)
    go false k = refl

pub deferred_alike : (lanes : Lanes) (o p : Option Node) (n q : Node) (a : Awaits) → IsAlike (compare_trees p q) (compare_trees o n)
    → outcome lanes p q ≡ defer a → outcome lanes o n ≡ defer a
deferred_alike lanes o p n q a alike = deferred_by lanes n q a (newly_hidden p q) (newly_hidden o n) alike.hides

pub committed_alike : (lanes : Lanes) (o p : Option Node) (n q : Node) → IsAlike (compare_trees p q) (compare_trees o n)
    → outcome lanes p q ≡ commit q → outcome lanes o n ≡ commit n
committed_alike lanes o p n q alike = committed_by lanes n q (newly_hidden p q) (newly_hidden o n) alike.hides
