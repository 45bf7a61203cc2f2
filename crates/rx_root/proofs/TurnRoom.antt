-- A turn makes one commit at most, so the numbers of a root leave room for the turns that follow.
use Rattle.std.proofs.Common.{◌≡◌, inl, inr, ℕ, suc, ◌+◌, ◌≤◌, Bool, true, false, cond, length, refl, sym, ap, ◌∙◌, subst, arith, Option, Some, None}
use Rattle.std.proofs.lemmas.List.{length-map}
use Rattle.rx_lane.specs.declared.lane.Lane.TheVariants as lane
use Rattle.rx_lane.specs.Lanes.{has}
use Rattle.rx_ast.specs.Syntax.{Program}
use Rattle.rx_rules.specs.Versions.{greatest_node_limit}
use Rattle.rx_elem.specs.Trees.{Node}
use Rattle.rx_elem.specs.Numbers.{numbered}
use Rattle.rx_sched.specs.declared.choice.Choice.{Choice}
use Rattle.rx_sched.specs.declared.choice.Choice.TheVariants as choice
use Rattle.rx_sched.specs.Schedule.{Schedule}
use Rattle.rx_meaning.specs.Fresh.{fresh, made}
use Rattle.rx_meaning.specs.Outcome.{Outcome, commit, defer, outcome}
use Rattle.rx_lines.specs.Lines.{Counts}
use Rattle.rx_model.specs.State.{State, Progress}
use Rattle.rx_model.specs.Stretch.{Stretch, silent}
use Rattle.rx_model.specs.Committing.{passive_run, starting, sight_of, committed_state, schedule_deferred, ended, ended_by}
use Rattle.rx_model.specs.Turns.{OfRender, gone_on, GoesOn, Continues, TurnBy, Turn, choice_of}
use Rattle.rx_model.specs.Laws.{IsBounded, IsReached}
use Rattle.run_laws.proofs.AlongRuns.{commit_is}
use Rattle.rx_root.specs.Rooted.{Rooted}
use Rattle.rx_root.specs.Stands.{StandsBy}
use Rattle.rx_root.specs.Turning.{HasRoomForTurns}
use Rattle.rx_kept.proofs.NumbersGrow.{instances_grow, hosts_grow}
use Rattle.rx_root.proofs.CommitReady.{few_nodes}

-- one commit was made at most, of a tree with few nodes, and nothing was accepted
pub record Grows (s t : State) : Type 0 where
  pub commits : t.commits ≤ s.commits + 1
  pub instances : t.numbers.instance ≤ s.numbers.instance + greatest_node_limit
  pub hosts : t.numbers.host ≤ s.numbers.host + greatest_node_limit
  pub updates : length t.journal.updates ≡ length s.journal.updates
  pub resolutions : length t.journal.resolutions ≡ length s.journal.resolutions

none_grows : (s : State) → Grows s s
none_grows s = record { commits = omega arith; instances = omega arith; hosts = omega arith; updates = refl; resolutions = refl }

moved_grows : (s : State) (schedule : Schedule) (progress : Option Progress) → Grows s (record s { schedule = schedule; progress = progress })
moved_grows s schedule progress = record { commits = omega arith; instances = omega arith; hosts = omega arith; updates = refl; resolutions = refl }

sync_grows : (b : Bool) (s t : State) → Grows s t → Grows s (cond b (passive_run t) (silent t)).after
sync_grows true s t h = record { commits = h.commits; instances = h.instances; hosts = h.hosts; updates = h.updates; resolutions = h.resolutions }
sync_grows false s t h = h

committed_grows : (p : Program) → IsBounded p → (s : State) (g : Progress) (tree : Node) → IsReached p s → fresh (sight_of p s g) s.tree ≡ made tree
    → Grows s (committed_state s g (numbered s.numbers tree))
committed_grows p bounded s g tree reached gives =
    let few = few_nodes p bounded s g tree reached gives in
    record {
      commits = omega arith;
      instances = omega (arith, instances_grow s.numbers tree, few);
      hosts = omega (arith, hosts_grow s.numbers tree, few);
      updates = length-map s.journal.updates _;
      resolutions = refl;
    }

ended_grows : (p : Program) → IsBounded p → (s : State) (g : Progress) (counts : Counts) (tree : Node) → IsReached p s → fresh (sight_of p s g) s.tree ≡ made tree
    → Grows s (ended s g counts tree).after
ended_grows p bounded s g counts tree reached gives = go (outcome g.lanes s.tree tree) refl
  where
    go : (o : Outcome) → outcome g.lanes s.tree tree ≡ o → Grows s (ended_by s g counts o).after
    go (defer waits) e = moved_grows s (schedule_deferred s g waits) None
    go (commit new) e =
        let same : new ≡ tree = commit_is p bounded.shallow bounded.declared g.lanes s.tree tree new e in
        sync_grows (has g.lanes lane.Sync) s (committed_state s g (numbered s.numbers new))
        (committed_grows p bounded s g new reached (gives ∙ ap made (sym same)))

same_grows : (s : State) (r q : Stretch) → r ≡ q → Grows s q.after → Grows s r.after
same_grows s r q e h = subst (λ (x : Stretch). Grows s x.after) (sym e) h

goes_grows : (A : OfRender) (p : Program) → IsBounded p → (s : State) (g : Progress) (budget : Option ℕ) (r : Stretch) → IsReached p s → GoesOn A p s g budget r → Grows s r.after
goes_grows A p bounded s g budget r reached (inl f, asked) = same_grows s r _ f.stretch_is (ended_grows p bounded s g f.counts f.tree reached f.rendered)
goes_grows A p bounded s g budget r reached (inr y, asked) = same_grows s r _ y.stretch_is (moved_grows s s.schedule (Some (gone_on g y.budget y.bodies)))

continues_grows : (A : OfRender) (p : Program) → IsBounded p → (s : State) (x : Option Progress) (budget : Option ℕ) (r : Stretch) → IsReached p s → Continues A p s x budget r → Grows s r.after
continues_grows A p bounded s None budget r reached h = absurd h
continues_grows A p bounded s (Some g) budget r reached h = goes_grows A p bounded s g budget r reached h

turn_grows_by : (A : OfRender) (p : Program) → IsBounded p → (s : State) (c : Choice) (budget : Option ℕ) (r : Stretch) → IsReached p s → IsReached p (passive_run s).after → TurnBy A p s c budget r → Grows s r.after
turn_grows_by A p bounded s choice.None budget r reached then h = same_grows s r (silent s) h (none_grows s)
turn_grows_by A p bounded s choice.Keep budget r reached then h = continues_grows A p bounded s s.progress budget r reached h
turn_grows_by A p bounded s (choice.Start lanes) budget r reached then h =
    let on = goes_grows A p bounded (passive_run s).after (starting s lanes) budget h.rest then h.begins in
    subst (λ (x : Stretch). Grows s x.after) (sym h.stretch_is)
    (record { commits = on.commits; instances = on.instances; hosts = on.hosts; updates = on.updates; resolutions = on.resolutions })

-- so much a turn grows
pub turn_grows : (A : OfRender) (p : Program) → IsBounded p → (s : State) (budget : Option ℕ) (r : Stretch) → IsReached p s → IsReached p (passive_run s).after → Turn A p s budget r → Grows s r.after
turn_grows A p bounded s budget r reached then h = turn_grows_by A p bounded s (choice_of s) budget r reached then h

-- and it leaves room for the turns that follow
pub room_after : (p : Program) (s t : State) (a b : Rooted → Type 0) (v w : Rooted) (turns : ℕ) → StandsBy p s a v → StandsBy p t b w → Grows s t → HasRoomForTurns (suc turns) v → HasRoomForTurns turns w
room_after p s t a b v w turns h i grows room =
    let commits : w.commits ≤ v.commits + 1 = omega (arith, grows.commits, h.commits, i.commits) in
    let instances : w.numbers.instance ≤ v.numbers.instance + greatest_node_limit = rw (h.numbers, i.numbers) grows.instances in
    let hosts : w.numbers.host ≤ v.numbers.host + greatest_node_limit = rw (h.numbers, i.numbers) grows.hosts in
    record {
      commits = omega (arith, commits, room.commits);
      instances = omega (arith, instances, room.instances);
      hosts = omega (arith, hosts, room.hosts);
    }
