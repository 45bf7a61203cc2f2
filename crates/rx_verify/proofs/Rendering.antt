-- The plain machine in a turn.
use Rattle.std.proofs.Common.{◌≡◌, inl, inr, ℕ, ◌+◌, ◌<◌, ◌≤◌, ◌^◌, Bool, true, false, List, [], ◌++◌, Option, Some, None, map, take, drop, append-nil, refl, sym, ap, ◌∙◌, subst, arith}
use Rattle.std.specs.Prelude.{IfSome, option_map}
use Rattle.std.specs.Option.{unwrap_or}
use Rattle.rx_ast.specs.Syntax.{Program}
use Rattle.rx_step.specs.declared.step.Step.{Step}
use Rattle.rx_elem.specs.Trees.{Node}
use Rattle.rx_lane.specs.Lanes.{Lanes, has, lanes_where}
use Rattle.rx_sched.specs.Events.{no_event}
use Rattle.rx_sched.specs.declared.choice.Choice.TheVariants as choice
use Rattle.rx_effect.specs.EffectLog.{Passive, passive_log}
use Rattle.rx_meaning.specs.Fresh.{fresh, made}
use Rattle.rx_lines.specs.Lines.{Counts, Written, logged, report_bytes}
use Rattle.rx_given.specs.declared.passing.Place.{Place}
use Rattle.rx_model.specs.State.{Progress, State}
use Rattle.rx_model.specs.Committing.{ended, passive_run, sight_of, starting}
use Rattle.rx_model.specs.Turns.{choice_of, gone_on, slice_of, unit_bound}
use Rattle.rx_model.specs.Kept.{IsSet}
use Rattle.rx_model.specs.Laws.{IsReached}
use Rattle.choice_laws.specs.Choosing.{Fit}
use Rattle.choice_laws.specs.Telling.{counted}
use Rattle.end_laws.specs.Trimmed.{trimmed}
use Rattle.rx_plain.specs.Doing.{HasDone}
use Rattle.rx_plain.specs.Plained.{Going, Plained}
use Rattle.rx_plain.specs.Stands.{GoesOnWith, HasProgress, StandsFor, StandsWith}
use Rattle.rx_writing.specs.Written.{with_lines}
use Rattle.rx_verify.specs.declared.verdict.Verdict.TheVariants.{No}
use Rattle.rx_verify.specs.Verdicts.{IsVerdict}
use Rattle.rx_verify.specs.Ends.{TellsEnd, TellsEndOf}
use Rattle.rx_verify.specs.Following.{IsPlace, Leads, Left, Way, turns}
use Rattle.rx_verify.specs.Knowing.{Laws}
use Rattle.rx_verify.specs.Turning.{CanFollow, FollowsBetween, FollowsRender, Judges, LeadsOn, StandsBetween, StandsInTurn}
use Rattle.rx_verify.proofs.Following.{bytes-none}
use Rattle.rx_verify.proofs.Passing.{Differs, Passes, log-bytes, place-if}
use Rattle.rx_kept.proofs.Choosing.{keeps_some, start_is_set}
use Rattle.rx_verify.proofs.Reaching.{end_reached, ended_event, keep_leads, kept, kept-is, start_leads, started, started-is}
use Rattle.rx_verify.proofs.Telling.{InTurn, among-itself, end-differs, end-follows, may-yield, must-end, run-leads, start-differs}

-- the render of a machine that stands for a state with one
pub record IsGoing (p : Program) (s : State) (g : Progress) (v : Plained) : Type 0 where
  pub going : Going
  pub is : v.going ≡ Some going
  pub with : GoesOnWith p s g going

pub its-render : (p : Program) (s : State) (g : Progress) (v : Plained) → StandsWith p s (Some g) v → IsGoing p s g v
its-render p s g v h = go v.going refl h.progress
  where
    go : (x : Option Going) → v.going ≡ x → HasProgress p s (Some g) x → IsGoing p s g v
    go None e h = absurd h
    go (Some x) e h = record { going = x; is = e; with = h }

-- it stands for a state, with the render that the state has
pub stands-some : (p : Program) (s : State) (g : Progress) (v : Plained) → s.progress ≡ Some g → StandsFor p s v → StandsWith p s (Some g) v
stands-some p s g v e h = subst (λ (x : Option Progress). StandsWith p s x v) e h

-- a report that is followed in a turn
pub in-turn : (p : Program) → Laws p → (steps : List Step) (bytes : List ℕ) (place : Place) (budget : Option ℕ) (left : Left) (v : Plained) (f : FollowsRender p steps bytes place budget left v) → IsPlace bytes place
    → v.commits + 1 < 2 ^ 62 → InTurn p steps bytes budget left f.start f.before f.render place
in-turn p laws steps bytes place budget left v f at few =
    record { laws = laws; followed = f.followed; goes = f.goes_on; at = at; passed = f.passed; later = f.later; few = omega (arith, few, f.stands.commits) }

-- What a finished render does

-- what is known of a machine that ended a render with these counts, and of what was passed then
abbrev pub Finished : Program → (bytes : List ℕ) (place then : Place) (v w : Plained) → Counts → Bool → Type 0
Finished p bytes place then v w c agrees =
    (s : State) (g : Progress) → StandsWith p s (Some g) v
    → (x : Node) × (fresh (sight_of p s g) s.tree ≡ made x)
    × (IsReached p (ended s g c x).after → (StandsFor p (ended s g c x).after w) × Passes bytes place then (report_bytes counted (ended s g c x).lines) agrees)

-- a render, the end of it, and what was passed then
pub finished-by : (p : Program) (bytes : List ℕ) (place then : Place) (v mid w : Plained) (c : Counts) (n : Node) (empty new : Written) (written : List ℕ) (agrees : Bool)
    → ((s : State) (g : Progress) → StandsWith p s (Some g) v → (x : Node) × (fresh (sight_of p s g) s.tree ≡ made x) × (trimmed n ≡ trimmed x))
    → ((s : State) (g : Progress) → StandsWith p s (Some g) v → StandsWith p s (Some g) mid)
    → ((s : State) (g : Progress) (x : Node) → StandsWith p s (Some g) mid → fresh (sight_of p s g) s.tree ≡ made x → trimmed n ≡ trimmed x → IsReached p (ended s g c x).after → HasDone p (ended s g c x) w empty new)
    → empty ≡ record { options = counted; bytes = [] } → written ≡ new.bytes → Passes bytes place then written agrees → Finished p bytes place then v w c agrees
finished-by p bytes place then v mid w c n empty new written agrees tree stands ends none is passes = λ s g h.
    let r = tree s g h in (
      r.0,
      r.1,
      λ reached.
          let d = ends s g r.0 (stands s g h) r.1 r.2 reached in
          (d.stands, subst (λ xs. Passes bytes place then xs agrees) (is ∙ log-bytes empty new (ended s g c r.0).lines none d.written) passes),
    )

few-bodies : (p : Program) (s : State) (g : Progress) (v : Plained) → StandsWith p s (Some g) v → g.bodies ≤ g.units
few-bodies p s g v h = (its-render p s g v h).with.bodies

pub finish-judges : (p : Program) → Laws p → (steps : List Step) (bytes : List ℕ) (place then : Place) (budget : Option ℕ) (left : Left) (v w : Plained) (c : Counts) (agrees : Bool)
    → Finished p bytes place then v w c agrees → IsPlace bytes place → v.commits + 1 < 2 ^ 62 → CanFollow budget left → (f : FollowsRender p steps bytes place budget left v)
    → Fit p f.render.progress (slice_of f.render.state f.render.progress budget) c → TellsEnd f.render.progress.lanes c (drop place.bytes bytes)
    → Judges p steps bytes then (FollowsBetween p steps bytes then left w) agrees
finish-judges p laws steps bytes place then budget left v w c agrees does at few follow f fit tells = by_answer agrees d.3.1
  where
    s : State
    s = f.render.state

    g : Progress
    g = f.render.progress

    found : (x : Node) × (fresh (sight_of p s g) s.tree ≡ made x) × (IsReached p (ended s g c x).after → (StandsFor p (ended s g c x).after w) × Passes bytes place then (report_bytes counted (ended s g c x).lines) agrees)
    found = does s g f.stands

    reached : IsReached p (ended s g c found.0).after
    reached = end_reached p s g budget c found.0 (few-bodies p s g v f.stands) f.leads fit found.1

    d : (x : Node) × (fresh (sight_of p s g) s.tree ≡ made x) × (IsReached p (ended s g c x).after) × ((StandsFor p (ended s g c x).after w) × Passes bytes place then (report_bytes counted (ended s g c x).lines) agrees)
    d = (found.0, found.1, reached, found.2 reached)

    turn : InTurn p steps bytes budget left f.start f.before f.render place
    turn = in-turn p laws steps bytes place budget left v f at few

    by_answer : (b : Bool) → Passes bytes place then (report_bytes counted (ended s g c d.0).lines) b → Judges p steps bytes then (FollowsBetween p steps bytes then left w) b
    by_answer true h =
        record {
          at = record { state = (ended s g c d.0).after; stands = d.3.0; between = ended_event s g c d.0 ∙ f.between };
          followed =
              end-follows p steps bytes budget left f.start f.before f.render place turn c d.0 (record { fit = fit; tells = tells; gives = d.1; follow = follow; reached = d.2 }) then h.passed h.later;
        }
    by_answer false h =
        end-differs p steps bytes budget left f.start f.before f.render place turn c d.0 (record { fit = fit; tells = tells; gives = d.1; follow = follow; reached = d.2 }) then.lines h.lines h.other

-- and it stands for a state between two events
pub finish-stands : (p : Program) (bytes : List ℕ) (place then : Place) (budget : Option ℕ) (v w : Plained) (c : Counts) (agrees : Bool) → Finished p bytes place then v w c agrees
    → (t : StandsInTurn p budget v) → Fit p t.progress (slice_of t.state t.progress budget) c → StandsBetween p w
finish-stands p bytes place then budget v w c agrees does t fit =
    let found = does t.state t.progress t.stands in
    let d = found.2 (end_reached p t.state t.progress budget c found.0 (few-bodies p t.state t.progress v t.stands) t.leads fit found.1) in
    record { state = (ended t.state t.progress c found.0).after; stands = d.0; between = ended_event t.state t.progress c found.0 ∙ t.between }

-- and the place behind what was passed is one
pub finish-place : (p : Program) (bytes : List ℕ) (place then : Place) (budget : Option ℕ) (v w : Plained) (c : Counts) (agrees : Bool) → Finished p bytes place then v w c agrees
    → (t : StandsInTurn p budget v) → Fit p t.progress (slice_of t.state t.progress budget) c → agrees ≡ true → IsPlace bytes then
finish-place p bytes place then budget v w c agrees does t fit e =
    let found = does t.state t.progress t.stands in
    let d = found.2 (end_reached p t.state t.progress budget c found.0 (few-bodies p t.state t.progress v t.stands) t.leads fit found.1) in
    place-if bytes place then (report_bytes counted (ended t.state t.progress c found.0).lines) agrees d.1 e

-- What a render that goes on does

-- the next line tells no end that the render may have
pub no-end : (p : Program) → Laws p → (steps : List Step) (bytes : List ℕ) (place : Place) (budget : Option ℕ) (left : Left) (v : Plained) (f : FollowsRender p steps bytes place budget left v)
    → (told : (c : Counts) → Fit p f.render.progress (slice_of f.render.state f.render.progress budget) c → TellsEndOf (v.commits + 1) f.render.progress.lanes c (drop place.bytes bytes) → ⊥)
    → (c : Counts) → Fit p f.render.progress (slice_of f.render.state f.render.progress budget) c → TellsEndOf (f.render.state.commits + 1) f.render.progress.lanes c (drop place.bytes bytes) → ⊥
no-end p laws steps bytes place budget left v f told c fit tells =
    told c fit (subst (λ n. TellsEndOf (n + 1) f.render.progress.lanes c (drop place.bytes bytes)) (sym f.stands.commits) tells)

-- the render uses up its slice and stays unfinished
gone-reached : (p : Program) (s : State) (g : Progress) (budget : Option ℕ) (n : ℕ) → LeadsOn p s g budget → slice_of s g budget ≡ Some n → g.units + n < unit_bound p
    → IsReached p (record s { progress = Some (gone_on g n 0) })
gone-reached p s g budget n leads sliced less =
    leads (record { lines = []; bodies = 0; after = record s { progress = Some (gone_on g n 0) } })
    (inr (record { budget = n; bodies = 0; sliced = sliced; in_bound = less; one_a_unit = omega arith; stretch_is = refl }), tt)

-- What is known of a machine that may have used up the slice of a render.
pub record Yielded (p : Program) (budget : Option ℕ) (v w : Plained) (slice : Option ℕ) (used : ℕ) (agrees : Bool) : Type 0 where
  pub yes : agrees ≡ true → (n : ℕ) × (slice ≡ Some n) × (used + n < unit_bound p)
      × ((q : Program) (s : State) (g : Progress) → StandsWith q s (Some g) v → IsReached q (record s { progress = Some (gone_on g n 0) }) → StandsFor q (record s { progress = Some (gone_on g n 0) }) w)
  pub not : agrees ≡ false → IfSome slice (λ n. unit_bound p ≤ used + n)
  pub slices : (s : State) (g : Progress) → StandsWith p s (Some g) v → slice ≡ slice_of s g budget
  pub units : (s : State) (g : Progress) → StandsWith p s (Some g) v → g.units ≡ used

yielded-with : (p : Program) (budget : Option ℕ) (v w : Plained) (slice : Option ℕ) (used : ℕ) → Yielded p budget v w slice used true → (s : State) (g : Progress) → StandsWith p s (Some g) v → LeadsOn p s g budget
    → (n : ℕ) × (slice_of s g budget ≡ Some n) × (g.units + n < unit_bound p) × (IsReached p (record s { progress = Some (gone_on g n 0) })) × (StandsFor p (record s { progress = Some (gone_on g n 0) }) w)
yielded-with p budget v w slice used y s g h leads =
    let r = y.yes refl in
    let sliced : slice_of s g budget ≡ Some r.0 = sym (y.slices s g h) ∙ r.1 in
    let less : g.units + r.0 < unit_bound p = omega (arith, r.2, y.units s g h) in
    let reached = gone-reached p s g budget r.0 leads sliced less in
    (r.0, sliced, less, reached, r.3 p s g h reached)

pub yield-stands : (p : Program) (budget : Option ℕ) (v w : Plained) (slice : Option ℕ) (used : ℕ) (agrees : Bool) → Yielded p budget v w slice used agrees → (t : StandsInTurn p budget v) → agrees ≡ true → StandsBetween p w
yield-stands p budget v w slice used true y t e =
    let r = yielded-with p budget v w slice used y t.state t.progress t.stands t.leads in
    record { state = record t.state { progress = Some (gone_on t.progress r.0 0) }; stands = r.4; between = t.between }
yield-stands p budget v w slice used false y t e = cc

pub yield-judges : (p : Program) → Laws p → (steps : List Step) (bytes : List ℕ) (place : Place) (budget : Option ℕ) (left : Left) (v w : Plained) (slice : Option ℕ) (used : ℕ) (agrees : Bool)
    → Yielded p budget v w slice used agrees → IsPlace bytes place → v.commits + 1 < 2 ^ 62 → CanFollow budget left → (f : FollowsRender p steps bytes place budget left v)
    → ((c : Counts) → Fit p f.render.progress (slice_of f.render.state f.render.progress budget) c → TellsEndOf (v.commits + 1) f.render.progress.lanes c (drop place.bytes bytes) → ⊥)
    → Judges p steps bytes place (FollowsBetween p steps bytes place left w) agrees
yield-judges p laws steps bytes place budget left v w slice used false y at few follow f told =
    must-end p steps bytes budget left f.start f.before f.render place (in-turn p laws steps bytes place budget left v f at few) (no-end p laws steps bytes place budget left v f told)
    (forced (slice_of f.render.state f.render.progress budget) (sym (y.slices f.render.state f.render.progress f.stands)))
  where
    forced : (z : Option ℕ) → z ≡ slice → IfSome z (λ n. unit_bound p ≤ f.render.progress.units + n)
    forced z e = subst (λ x. IfSome x (λ n. unit_bound p ≤ f.render.progress.units + n)) (sym e) (weaker slice (y.not refl))
      where
        weaker : (x : Option ℕ) → IfSome x (λ n. unit_bound p ≤ used + n) → IfSome x (λ n. unit_bound p ≤ f.render.progress.units + n)
        weaker None h = tt
        weaker (Some n) h = omega (arith, h, y.units f.render.state f.render.progress f.stands)
yield-judges p laws steps bytes place budget left v w slice used true y at few follow f told =
    let r = yielded-with p budget v w slice used y f.render.state f.render.progress f.stands f.leads in
    record {
      at = record { state = record f.render.state { progress = Some (gone_on f.render.progress r.0 0) }; stands = r.4; between = f.between };
      followed =
          may-yield p steps bytes budget left f.start f.before f.render place (in-turn p laws steps bytes place budget left v f at few) (no-end p laws steps bytes place budget left v f told) r.0 r.1 r.2
          (goes follow r.0 r.1 r.3 (omega (arith, few-bodies p f.render.state f.render.progress v f.stands)));
    }
  where
    gone : ℕ → State
    gone n = record f.render.state { progress = Some (gone_on f.render.progress n 0) }

    goes : CanFollow budget left → (n : ℕ) → slice_of f.render.state f.render.progress budget ≡ Some n → IsReached p (gone n) → f.render.progress.bodies + 0 ≤ f.render.progress.units + n → Way p left (gone n)
    goes (inl none) n sliced reached few = absurd (let clash : ◌≡◌ {A = Option ℕ} None (Some n) = ap (slice_of f.render.state f.render.progress) (sym none) ∙ sliced in cc)
    goes (inr (xs, e)) n sliced reached few =
        let r = laws.progresses laws.bounded (gone n) reached xs in
        record { from = gone n; among = among-itself (gone n) few; stretch = r.0; leads = subst (λ l. Leads p l (gone n) r.0) (sym e) (run-leads p xs (gone n) r.0 r.1) }

-- What is told of the render of a machine, with its slice
pub record Told (p : Program) (budget : Option ℕ) (v : Plained) (slice : Option ℕ) (used : ℕ) (lanes : Lanes) : Type 0 where
  pub slices : (s : State) (g : Progress) → StandsWith p s (Some g) v → slice ≡ slice_of s g budget
  pub units : (s : State) (g : Progress) → StandsWith p s (Some g) v → g.units ≡ used
  pub lanes_are : (s : State) (g : Progress) → StandsWith p s (Some g) v → lanes_where (has lanes) ≡ g.lanes

pub told-by : (p : Program) (budget : Option ℕ) (v : Plained) (slice : Option ℕ) (units : Option ℕ) (used : ℕ) (all : Option Lanes) (other lanes : Lanes) → units ≡ option_map (λ (x : Going). x.units) v.going → used ≡ unwrap_or units 0
    → all ≡ option_map (λ (x : Going). x.lanes) v.going → lanes ≡ unwrap_or all other → ((s : State) (g : Progress) → StandsWith p s (Some g) v → slice ≡ slice_of s g budget) → Told p budget v slice used lanes
told-by p budget v slice units used all other lanes a b c d slices =
    record {
      slices = slices;
      units =
          λ s g h.
          let r = its-render p s g v h in
          let is : used ≡ r.going.units = b ∙ ap (λ o. unwrap_or o 0) (a ∙ ap (option_map (λ (x : Going). x.units)) r.is) in
          sym (is ∙ r.with.units);
      lanes_are =
          λ s g h.
          let r = its-render p s g v h in
          let is : lanes ≡ r.going.lanes = d ∙ ap (λ o. unwrap_or o other) (c ∙ ap (option_map (λ (x : Going). x.lanes)) r.is) in
          ap (λ l. lanes_where (has l)) (is ∙ r.with.lanes) ∙ sym r.with.lanes_are_set;
    }

-- How a render of a turn goes on or starts

pub keeps-render : (p : Program) → Laws p → (steps : List Step) (bytes : List ℕ) (place : Place) (budget : Option ℕ) (left : Left) (v : Plained) (f : FollowsBetween p steps bytes place (turns budget left) v)
    → choice_of f.at.state ≡ choice.Keep → FollowsRender p steps bytes place budget left v
keeps-render p laws steps bytes place budget left v f e =
    let s = f.at.state in
    let k = keeps_some s e in
    record {
      start = place;
      before = s;
      followed = f.followed;
      render = kept s k.0;
      goes_on = kept-is s k.0 e k.1;
      stands = stands-some p s k.0 v k.1 f.at.stands;
      between = f.at.between;
      leads = keep_leads p laws s k.0 budget f.at.stands.reached f.at.between e k.1;
      passed = sym (append-nil (take place.bytes bytes)) ∙ ap (λ xs. take place.bytes bytes ++ xs) (sym bytes-none);
      later = omega arith;
    }

pub keeps-turn : (p : Program) → Laws p → (budget : Option ℕ) (v : Plained) (t : StandsBetween p v) → choice_of t.state ≡ choice.Keep → StandsInTurn p budget v
keeps-turn p laws budget v t e =
    let k = keeps_some t.state e in
    record {
      state = t.state;
      progress = k.0;
      stands = stands-some p t.state k.0 v k.1 t.stands;
      between = t.between;
      leads = keep_leads p laws t.state k.0 budget t.stands.reached t.between e k.1;
    }

-- the render that a machine starts
abbrev pub Starts : Plained → Plained → Lanes → Type 0
Starts v w lanes =
    (p : Program) (s : State) → StandsFor p s v → s.event ≡ no_event → IsSet lanes → StandsWith p (passive_run s).after (Some (starting s lanes)) w

abbrev pub starts-turn : (p : Program) → Laws p → (budget : Option ℕ) (v w : Plained) (lanes : Lanes) → Starts v w lanes → (t : StandsBetween p v) → choice_of t.state ≡ choice.Start lanes → StandsInTurn p budget w
starts-turn p laws budget v w lanes starts t e =
    record {
      state = (passive_run t.state).after;
      progress = starting t.state lanes;
      stands = starts p t.state t.stands t.between (start_is_set t.state lanes e);
      between = t.between;
      leads = start_leads p laws t.state lanes budget t.stands.reached t.between e;
    }

-- the lines of the passive effects that run first
pub first-lines : (p : Program) (s : State) (v : Plained) (empty new : Written) (written : List ℕ) → StandsFor p s v → empty ≡ record { options = counted; bytes = [] }
    → new ≡ with_lines empty (map logged (passive_log v.passive)) → written ≡ new.bytes → written ≡ report_bytes counted (passive_run s).lines
first-lines p s v empty new written h none is bytes =
    bytes ∙ log-bytes empty new (map logged (passive_log v.passive)) none is ∙ ap (λ (q : Passive). report_bytes counted (map logged (passive_log q))) h.passive

pub starts-render : (p : Program) → Laws p → (steps : List Step) (bytes : List ℕ) (place then : Place) (budget : Option ℕ) (left : Left) (v w : Plained) (lanes : Lanes) (written : List ℕ) → Starts v w lanes
    → (f : FollowsBetween p steps bytes place (turns budget left) v) → choice_of f.at.state ≡ choice.Start lanes → written ≡ report_bytes counted (passive_run f.at.state).lines → Passes bytes place then written true
    → FollowsRender p steps bytes then budget left w
starts-render p laws steps bytes place then budget left v w lanes written starts f e is h =
    let s = f.at.state in
    let t = starts-turn p laws budget v w lanes starts f.at e in
    record {
      start = place;
      before = s;
      followed = f.followed;
      render = started s lanes;
      goes_on = started-is s lanes e;
      stands = t.stands;
      between = t.between;
      leads = t.leads;
      passed = h.passed ∙ ap (λ xs. take place.bytes bytes ++ xs) is;
      later = h.later;
    }

pub starts-differ : (p : Program) → Laws p → (steps : List Step) (bytes : List ℕ) (place then : Place) (budget : Option ℕ) (left : Left) (v : Plained) (lanes : Lanes) (written : List ℕ) → IsPlace bytes place
    → (f : FollowsBetween p steps bytes place (turns budget left) v) → choice_of f.at.state ≡ choice.Start lanes → written ≡ report_bytes counted (passive_run f.at.state).lines → Passes bytes place then written false
    → IsVerdict p steps bytes (No (then.lines + 1))
starts-differ p laws steps bytes place then budget left v lanes written at f e is h =
    let s = f.at.state in
    let d = subst (λ xs. Differs bytes place then.lines xs) is h in
    start-differs p laws steps bytes budget left place s f.followed at (started s lanes) (started-is s lanes e) then.lines d.lines d.other
