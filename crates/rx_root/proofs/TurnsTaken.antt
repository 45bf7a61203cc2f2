-- The turns that a root takes are turns of the machine.
use Rattle.rx_sched.specs.Events.{no_event}
use Rattle.std.proofs.Common.{◌≡◌, ◌≢◌, inl, inr, ℕ, suc, ◌+◌, Bool, true, false, cond, List, [], refl, sym, ap, ◌∙◌, subst, arith, add-zero, add_assoc, Option, Some, None}
use Rattle.std.specs.Prelude.{OnOk, Result, Ok, Err}
use Rattle.rx_lane.specs.declared.lane.Lane.TheVariants as lane
use Rattle.rx_lane.specs.Lanes.{Lanes, has}
use Rattle.rx_ast.specs.Syntax.{Program}
use Rattle.rx_elem.specs.Trees.{Node}
use Rattle.rx_sched.specs.declared.choice.Choice.{Choice}
use Rattle.rx_sched.specs.declared.choice.Choice.TheVariants as choice
use Rattle.rx_elem.specs.Numbers.{numbered}
use Rattle.rx_meaning.specs.Outcome.{Outcome, commit, defer, outcome}
use Rattle.rx_lines.specs.Lines.{Line, Counts, Written}
use Rattle.rx_model.specs.State.{State, Progress}
use Rattle.rx_model.specs.Stretch.{Stretch, silent, followed_by}
use Rattle.rx_model.specs.Committing.{passive_run, starting, committed_state, bodies_since, ended, ended_by}
use Rattle.rx_model.specs.Turns.{AnyRender, OfRender, slice_of, gone_on, GoesOn, Continues, TurnBy, Turn, choice_of}
use Rattle.rx_model.specs.Machine.{FlushSync, FlushWithin}
use Rattle.rx_model.specs.Laws.{IsReached}
use Rattle.rx_writing.specs.Written.{passive_lines, with_lines}
use Rattle.rx_root.specs.Rooted.{Rooted}
use Rattle.rx_root.specs.Stands.{StandsWith, Stands}
use Rattle.rx_root.specs.Paying.{Pays}
use Rattle.rx_root.specs.Turning.{counts_of, HasDone, Takes, LeadsOn, HasFinished, HasYielded}
use Rattle.rx_kept.proofs.TurnReached.{reached_turn}
use Rattle.rx_root.proofs.TurnLines.{with_none, with_both}

-- What goes on

-- a root that stands for a state has its render
pub stands_some : (p : Program) (s : State) (g : Progress) (v : Rooted) → s.progress ≡ Some g → Stands p s v → StandsWith p s (Some g) v
stands_some p s g v e h = subst (λ (x : Option Progress). StandsWith p s x v) e h

pub continues_turn : (A : OfRender) (p : Program) (s : State) (g : Progress) (budget : Option ℕ) (r : Stretch) → choice_of s ≡ choice.Keep → s.progress ≡ Some g → GoesOn A p s g budget r → Turn A p s budget r
continues_turn A p s g budget r e f h =
    subst (λ (c : Choice). TurnBy A p s c budget r) (sym e) (subst (λ (x : Option Progress). Continues A p s x budget r) (sym f) h)

pub starts_turn : (A : OfRender) (p : Program) (s : State) (lanes : Lanes) (budget : Option ℕ) (rest : Stretch) → choice_of s ≡ choice.Start lanes
    → GoesOn A p (passive_run s).after (starting s lanes) budget rest → Turn A p s budget (followed_by (passive_run s) rest)
starts_turn A p s lanes budget rest e h =
    subst (λ (c : Choice). TurnBy A p s c budget (followed_by (passive_run s) rest)) (sym e) (record { rest = rest; begins = h; stretch_is = refl })

-- so what a render leads to is reached
pub keep_leads : (p : Program) (s : State) (g : Progress) (budget : Option ℕ) → IsReached p s → s.event ≡ no_event → choice_of s ≡ choice.Keep → s.progress ≡ Some g → LeadsOn p s g budget
keep_leads p s g budget reached none e f r h = reached_turn AnyRender p s budget r reached none (continues_turn AnyRender p s g budget r e f h)

pub start_leads : (p : Program) (s : State) (lanes : Lanes) (budget : Option ℕ) → IsReached p s → s.event ≡ no_event → choice_of s ≡ choice.Start lanes
    → LeadsOn p (passive_run s).after (starting s lanes) budget
start_leads p s lanes budget reached none e r h =
    reached_turn AnyRender p s budget (followed_by (passive_run s) r) reached none (starts_turn AnyRender p s lanes budget r e h)

-- A render that goes on

-- the bodies of the end of a render are those since the turn began
sync_bodies : (b : Bool) (s : State) → (cond b (passive_run s) (silent s)).bodies ≡ 0
sync_bodies true s = refl
sync_bodies false s = refl

ended_bodies : (s : State) (g : Progress) (counts : Counts) (o : Outcome) → bodies_since g counts ≡ (ended_by s g counts o).bodies
ended_bodies s g counts (commit new) =
    sym (add-zero (bodies_since g counts)) ∙ ap (λ (n : ℕ). bodies_since g counts + n) (sym (sync_bodies (has g.lanes lane.Sync) (committed_state s g (numbered s.numbers new))))
ended_bodies s g counts (defer waits) = refl

pub goes_finished : (p : Program) (s : State) (g : Progress) (budget : Option ℕ) (v w : Rooted) (log new : Written) (steps counted : ℕ)
    → (h : HasFinished p s g (slice_of s g budget) v steps counted) → HasDone p (ended s g (counts_of v) h.tree) w log new → Takes p (GoesOn Pays p s g budget) w log new steps counted
goes_finished p s g budget v w log new steps counted h done =
    let since = ended_bodies s g (counts_of v) (outcome g.lanes s.tree h.tree) in
    let pays : Pays p s g (ended s g (counts_of v) h.tree) =
    record { few = omega (arith, since, h.evaluated); all = λ over. omega (arith, since, h.evaluated); are = λ over. h.are } in
    record { stretch = ended s g (counts_of v) h.tree; asked = (inl h.finishes, pays); done = done; bodies = h.bodies ∙ ap (λ (n : ℕ). steps + n) since }

-- what has yielded is still in progress
goes_still : (s : State) (g : Progress) (budget bodies : ℕ) (r : Stretch) → r ≡ record { lines = []; bodies = bodies; after = record s { progress = Some (gone_on g budget bodies) } } → r.after.progress ≡ None → ⊥
goes_still s g budget bodies r e over = let f : Some (gone_on g budget bodies) ≡ None = sym (ap (λ (x : Stretch). x.after.progress) e) ∙ over in cc

pub goes_yielded : (p : Program) (s : State) (g : Progress) (budget : Option ℕ) (v : Rooted) (log : Written) (steps counted : ℕ) → LeadsOn p s g budget
    → HasYielded p s g (slice_of s g budget) v steps counted → Takes p (GoesOn Pays p s g budget) v log log steps counted
goes_yielded p s g budget v log steps counted leads h =
    record {
      stretch = h.stretch;
      asked = (
        inr h.yields,
        record {
          few = h.few;
          all = λ over. absurd (goes_still s g h.yields.budget h.yields.bodies h.stretch h.yields.stretch_is over);
          are = λ over. absurd (goes_still s g h.yields.budget h.yields.bodies h.stretch h.yields.stretch_is over);
        },
      );
      done = record { stands = h.stands (leads h.stretch (inr h.yields, tt)); written = sym (ap (λ (ls : List Line). with_lines log ls) h.silently ∙ with_none log) };
      bodies = h.bodies;
    }

-- A turn

pub takes_none : (p : Program) (s : State) (budget : Option ℕ) (v : Rooted) (log : Written) (steps : ℕ) → Stands p s v → choice_of s ≡ choice.None → Takes p (Turn Pays p s budget) v log log steps steps
takes_none p s budget v log steps h e =
    record {
      stretch = silent s;
      asked = subst (λ (c : Choice). TurnBy Pays p s c budget (silent s)) (sym e) refl;
      done = record { stands = h; written = sym (with_none log) };
      bodies = sym (add-zero steps);
    }

pub takes_on : (p : Program) (s : State) (g : Progress) (budget : Option ℕ) (v : Rooted) (log new : Written) (steps counted : ℕ) → choice_of s ≡ choice.Keep → s.progress ≡ Some g
    → Takes p (GoesOn Pays p s g budget) v log new steps counted → Takes p (Turn Pays p s budget) v log new steps counted
takes_on p s g budget v log new steps counted e f h =
    record { stretch = h.stretch; asked = continues_turn Pays p s g budget h.stretch e f h.asked; done = h.done; bodies = h.bodies }

pub takes_start : (p : Program) (s : State) (lanes : Lanes) (budget : Option ℕ) (v : Rooted) (log mid new : Written) (steps counted : ℕ) → choice_of s ≡ choice.Start lanes
    → mid ≡ with_lines log (passive_lines s.passive) → Takes p (GoesOn Pays p (passive_run s).after (starting s lanes) budget) v mid new steps counted
    → Takes p (Turn Pays p s budget) v log new steps counted
takes_start p s lanes budget v log mid new steps counted e passive h =
    record {
      stretch = followed_by (passive_run s) h.stretch;
      asked = starts_turn Pays p s lanes budget h.stretch e h.asked;
      done = record {
        stands = h.done.stands;
        written = h.done.written ∙ ap (λ (r : Written). with_lines r h.stretch.lines) passive ∙ with_both log (passive_lines s.passive) h.stretch.lines;
      };
      bodies = h.bodies ∙ ap (λ (n : ℕ). steps + n) (zero_plus h.stretch.bodies);
    }
  where
    zero_plus : (n : ℕ) → n ≡ 0 + n
    zero_plus n = omega arith

-- A flush

pub flush_none : (p : Program) (s : State) (limit : ℕ) (v : Rooted) (log : Written) (steps : ℕ) → Stands p s v → choice_of s ≡ choice.None
    → Takes p (FlushWithin Pays limit p s) v log log steps steps
flush_none p s limit v log steps h e =
    record {
      stretch = silent s;
      asked = (0, omega arith, (e, refl));
      done = record { stands = h; written = sym (with_none log) };
      bodies = sym (add-zero steps);
    }

pub flush_more : (p : Program) (s : State) (limit : ℕ) (v w : Rooted) (log mid new : Written) (steps between counted : ℕ) → choice_of s ≢ choice.None
    → (first : Takes p (Turn Pays p s None) v log mid steps between) → Takes p (FlushWithin Pays limit p first.stretch.after) w mid new between counted
    → Takes p (FlushWithin Pays (suc limit) p s) w log new steps counted
flush_more p s limit v w log mid new steps between counted some first rest =
    record {
      stretch = followed_by first.stretch rest.stretch;
      asked = (suc rest.asked.0, omega (arith, rest.asked.1), (some, first.stretch, rest.stretch, first.asked, rest.asked.2, refl));
      done = record {
        stands = rest.done.stands;
        written = rest.done.written ∙ ap (λ (r : Written). with_lines r rest.stretch.lines) first.done.written ∙ with_both log first.stretch.lines rest.stretch.lines;
      };
      bodies = rest.bodies ∙ ap (λ (n : ℕ). n + rest.stretch.bodies) first.bodies ∙ add_assoc steps first.stretch.bodies rest.stretch.bodies;
    }

pub sync_none : (p : Program) (s : State) (v : Rooted) (log : Written) (steps : ℕ) → Stands p s v → has s.schedule.pending lane.Sync ≡ false
    → Takes p (FlushSync Pays (has s.schedule.pending lane.Sync) p s) v log log steps steps
sync_none p s v log steps h e =
    subst (λ (b : Bool). Takes p (FlushSync Pays b p s) v log log steps steps) (sym e)
    (record { stretch = silent s; asked = refl; done = record { stands = h; written = sym (with_none log) }; bodies = sym (add-zero steps) })

pub sync_turn : (p : Program) (s : State) (v : Rooted) (log new : Written) (steps counted : ℕ) → has s.schedule.pending lane.Sync ≡ true
    → Takes p (Turn Pays p s None) v log new steps counted → Takes p (FlushSync Pays (has s.schedule.pending lane.Sync) p s) v log new steps counted
sync_turn p s v log new steps counted e h =
    subst (λ (b : Bool). Takes p (FlushSync Pays b p s) v log new steps counted) (sym e)
    (record { stretch = h.stretch; asked = h.asked; done = h.done; bodies = h.bodies })

-- What a call promises on its Ok

pub on_ok : {T E : Type 0} (r : Result T E) (A B : Type 0) → (A → B) → OnOk r A → OnOk r B
on_ok (Ok x) A B f h = f h
on_ok (Err e) A B f h = tt

-- an end of a render that becomes of it so
pub ended_as : (p : Program) (s : State) (g : Progress) (counts : Counts) (tree : Node) (o : Outcome) (v : Rooted) (log new : Written) → o ≡ outcome g.lanes s.tree tree
    → (IsReached p (ended_by s g counts o).after → HasDone p (ended_by s g counts o) v log new) → IsReached p (ended s g counts tree).after → HasDone p (ended s g counts tree) v log new
ended_as p s g counts tree o v log new e done =
    subst (λ (x : Outcome). IsReached p (ended_by s g counts x).after → HasDone p (ended_by s g counts x) v log new) e done
