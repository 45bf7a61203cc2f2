-- What a report tells of a turn.
use Rattle.std.proofs.Common.{◌≡◌, ℕ, ◌+◌, ◌<◌, ◌≤◌, ◌^◌, Bool, true, false, cond, List, [], ◌∷◌, ◌++◌, Option, Some, None, take, drop, append-nil, append_assoc, refl, sym, ap, ap₂, ◌∙◌, subst, arith, inl, inr}
use Rattle.std.specs.Prelude.{◌⊎◌, IfSome, option_map}
use Rattle.rx_lane.specs.declared.lane.Lane.TheVariants as lane
use Rattle.rx_lane.specs.Lanes.{Lanes, has}
use Rattle.rx_ast.specs.Syntax.{Program}
use Rattle.rx_step.specs.declared.step.Step.{Step}
use Rattle.rx_elem.specs.Trees.{Node}
use Rattle.rx_elem.specs.Numbers.{numbered}
use Rattle.rx_sched.specs.declared.choice.Choice.TheVariants as choice
use Rattle.rx_meaning.specs.Fresh.{fresh, made}
use Rattle.rx_meaning.specs.Fresh as rendering
use Rattle.rx_meaning.specs.Outcome.{Outcome, commit, defer, outcome}
use Rattle.rx_lines.specs.Lines.{Counts, Line, committed, deferred, line_bytes, report_bytes}
use Rattle.rx_given.specs.declared.passing.Place.{Place}
use Rattle.rx_given.specs.Lines.{ends_in, shared}
use Rattle.rx_model.specs.State.{Progress, State}
use Rattle.rx_model.specs.Stretch.{Stretch, followed_by, silent}
use Rattle.rx_model.specs.Committing.{committed_state, ended, ended_by, passive_run, sight_of}
use Rattle.rx_model.specs.Machine.{RunTo}
use Rattle.rx_model.specs.Turns.{AnyRender, choice_of, gone_on, slice_of, unit_bound}
use Rattle.rx_model.specs.Laws.{IsBounded, IsReached}
use Rattle.rx_rules.proofs.Limits.{limits_nodes}
use Rattle.choice_laws.specs.Choosing.{Fit, FinishesAs, IsAmong, MayTurn, Render, YieldsAs, render_by, with_bodies}
use Rattle.choice_laws.specs.Telling.{AreShown, CountsComeLast, FinishesTell, IsFinishOf, bytes_from_here, commits, counted, defers}
use Rattle.rx_verify.specs.declared.verdict.Verdict.TheVariants.{No}
use Rattle.rx_verify.specs.Verdicts.{IsReported, IsVerdict}
use Rattle.rx_verify.specs.Ends.{HasNumber, TellsEnd, TellsEndOf}
use Rattle.rx_verify.specs.Following.{Agrees, IsFollowed, IsPlace, Leads, Left, Way, all_of, turns}
use Rattle.rx_verify.specs.Knowing.{Laws}
use Rattle.rx_verify.proofs.Following.{agrees-fewer, bytes-append, bytes-followed, bytes-none, differs_on, follow_on, judged_here, judged_there}
use Rattle.rx_verify.proofs.Texts.{Shares, comes-first, end-is-line, has-next, next-is, shares}

-- States that are the same but for bodies

-- a state with a render of no more bodies than units is one of its own
pub among-itself : (s : State) → IfSome s.progress (λ g. g.bodies ≤ g.units) → IsAmong s s
among-itself s h = go s.progress refl h
  where
    go : (x : Option Progress) → s.progress ≡ x → IfSome x (λ g. g.bodies ≤ g.units) → IsAmong s s
    go None e h = (0, subst (λ y. IfSome y (λ g. 0 ≤ g.units)) (sym e) tt, same e)
      where
        same : s.progress ≡ None → s ≡ with_bodies 0 s
        same e = ap (λ y. record s { progress = y }) (e ∙ ap (option_map (λ (g : Progress). record g { bodies = 0 })) (sym e))
    go (Some g) e h = (g.bodies, subst (λ y. IfSome y (λ k. g.bodies ≤ k.units)) (sym e) h, same e)
      where
        same : s.progress ≡ Some g → s ≡ with_bodies g.bodies s
        same e = ap (λ y. record s { progress = y }) (e ∙ ap (option_map (λ (k : Progress). record k { bodies = g.bodies })) (sym e))

pub among-none : (s : State) → s.progress ≡ None → IsAmong s s
among-none s e = among-itself s (subst (λ y. IfSome y (λ g. g.bodies ≤ g.units)) (sym e) tt)

-- a state without a render is the only one of its own
pub only-one : (s t : State) → s.progress ≡ None → IsAmong s t → t ≡ s
only-one s t e (b, fits, is) = is ∙ ap (λ y. record s { progress = y }) (ap (option_map (λ (g : Progress). record g { bodies = b })) e ∙ sym e)

-- The steps that are left are a run

pub leads-run : (p : Program) (xs : List Step) (s : State) (r : Stretch) → Leads p (all_of xs) s r → RunTo AnyRender p s xs r
leads-run p [] s r h = h
leads-run p (x ∷ xs) s r h = (h.0, h.1, h.2, leads-run p xs h.0.after h.1 h.3, h.4)

pub run-leads : (p : Program) (xs : List Step) (s : State) (r : Stretch) → RunTo AnyRender p s xs r → Leads p (all_of xs) s r
run-leads p [] s r h = h
run-leads p (x ∷ xs) s r h = (h.0, h.1, h.2, run-leads p xs h.0.after h.1 h.3, h.4)

-- two lines that come first tell the same counts
pub same-told : FinishesTell → CountsComeLast → (lanes : Lanes) (c d : Counts) (bytes : List ℕ) → AreShown c → AreShown d → TellsEnd lanes c bytes → TellsEnd lanes d bytes → c ≡ d
same-told tells last lanes c d bytes a b x y =
    let f = comes-first bytes x.line x.is_first in
    let g = comes-first bytes y.line y.is_first in
    (tells lanes lanes c d x.said y.said x.says y.says a b bytes
    (f.rest, f.whole ∙ ap (λ zs. zs ++ f.rest) (x.text ∙ sym (last lanes c x.said x.says))) (g.rest, g.whole ∙ ap (λ zs. zs ++ g.rest) (y.text ∙ sym (last lanes d y.said y.says)))).1

pub same-counts : (p : Program) → Laws p → (lanes : Lanes) (c d : Counts) (bytes : List ℕ) → AreShown c → AreShown d → TellsEnd lanes c bytes → TellsEnd lanes d bytes → c ≡ d
same-counts p laws = same-told laws.tells laws.last

-- The ends of renders

-- what becomes of a state at the end of a render does not hang on counts
after-same : (s : State) (g : Progress) (c d : Counts) (o : Outcome) → (ended_by s g c o).after ≡ (ended_by s g d o).after
after-same s g c d (commit new) = refl
after-same s g c d (defer waits) = refl

pub ended-same : (s : State) (g : Progress) (c d : Counts) (tree : Node) → (ended s g c tree).after ≡ (ended s g d tree).after
ended-same s g c d tree = after-same s g c d (outcome g.lanes s.tree tree)

sync-none : (b : Bool) (t : State) → t.progress ≡ None → (cond b (passive_run t) (silent t)).after.progress ≡ None
sync-none true t e = e
sync-none false t e = e

none-by : (s : State) (g : Progress) (c : Counts) (o : Outcome) → (ended_by s g c o).after.progress ≡ None
none-by s g c (commit new) = sync-none (has g.lanes lane.Sync) (committed_state s g (numbered s.numbers new)) refl
none-by s g c (defer waits) = refl

pub ended-none : (s : State) (g : Progress) (c : Counts) (tree : Node) → (ended s g c tree).after.progress ≡ None
ended-none s g c tree = none-by s g c (outcome g.lanes s.tree tree)

-- The end of a render writes first that it is finished.
pub record SaysFirst (s : State) (g : Progress) (c : Counts) (lines : List Line) : Type 0 where
  pub said : Line
  pub rest : List Line
  pub says : IsFinishOf g.lanes c said
  pub number : HasNumber (s.commits + 1) said
  pub are : lines ≡ said ∷ rest

says-by : (s : State) (g : Progress) (c : Counts) (o : Outcome) → SaysFirst s g c (ended_by s g c o).lines
says-by s g c (commit new) =
    record {
      said = committed (s.commits + 1) g.lanes c (numbered s.numbers new).1;
      rest = _;
      says = commits (s.commits + 1) (numbered s.numbers new).1;
      number = refl;
      are = refl;
    }
says-by s g c (defer waits) = record { said = deferred g.lanes c; rest = []; says = defers; number = tt; are = refl }

pub says-first : (s : State) (g : Progress) (c : Counts) (tree : Node) → SaysFirst s g c (ended s g c tree).lines
says-first s g c tree = says-by s g c (outcome g.lanes s.tree tree)

small : (p : Program) → IsBounded p → unit_bound p < 2 ^ 64
small p b = omega (arith, b.small, limits_nodes p)

-- counts that a render may have are shown
pub fit-shown : (p : Program) → IsBounded p → (g : Progress) (slice : Option ℕ) (c : Counts) → Fit p g slice c → AreShown c
fit-shown p b g slice c f =
    let few = small p b in
    record { units = omega (arith, f.in_bound, few); bodies = omega (arith, f.in_bound, f.fewer_bodies, few) }

-- Ways

some-render : (x y : Render) → ◌≡◌ {A = Option Render} (Some x) (Some y) → x ≡ y
some-render x y e = cc

made-one : (x y : Node) → ◌≡◌ {A = rendering.Place} (made x) (made y) → x ≡ y
made-one x y e = cc

some-number : (m n : ℕ) → ◌≡◌ {A = Option ℕ} (Some m) (Some n) → m ≡ n
some-number m n e = cc

-- what a way does first, in a turn
pub record Turned (p : Program) (budget : Option ℕ) (left : Left) (s : State) (whole : List ℕ) : Type 0 where
  pub first : Stretch
  pub rest : Stretch
  pub may : MayTurn p s budget first.lines first.after
  pub leads : Leads p left first.after rest
  pub writes : whole ≡ report_bytes counted first.lines ++ bytes_from_here rest

pub turned : (p : Program) → Laws p → (budget : Option ℕ) (left : Left) (s : State) (v : Way p (turns budget left) s) → Turned p budget left s (bytes_from_here v.stretch)
turned p laws budget left s v =
    record {
      first = v.leads.0;
      rest = v.leads.1;
      may = laws.free s v.from v.among budget v.leads.0 v.leads.2;
      leads = v.leads.3;
      writes = ap bytes_from_here v.leads.4 ∙ bytes-followed v.leads.0 v.leads.1;
    }

-- each turn that may be is the first of a way
pub turning : (p : Program) → Laws p → (budget : Option ℕ) (left : Left) (s : State) (lines : List Line) (t : State) → MayTurn p s budget lines t → (q : Stretch) → Leads p left t q
    → (v : Way p (turns budget left) s) × (bytes_from_here v.stretch ≡ report_bytes counted lines ++ bytes_from_here q)
turning p laws budget left s lines t may q leads =
    let r = laws.taken s t budget lines may in (
      record {
        from = with_bodies r.0 s;
        among = (r.0, r.1, refl);
        stretch = followed_by r.2 q;
        leads = (r.2, q, r.3, subst (λ u. Leads p left u q) (sym r.5) leads, refl);
      },
      bytes-followed r.2 q ∙ ap (λ ls. report_bytes counted ls ++ bytes_from_here q) r.4,
    )

-- If nothing is left to render

no-render : (s : State) (x : Render) → choice_of s ≡ choice.None → render_by s (choice_of s) ≡ Some x → ⊥
no-render s x none e = let clash : ◌≡◌ {A = Option Render} None (Some x) = ap (render_by s) (sym none) ∙ e in cc

rested : (p : Program) → Laws p → (budget : Option ℕ) (left : Left) (s : State) → choice_of s ≡ choice.None → (v : Way p (turns budget left) s)
    → (w : Way p left s) × (bytes_from_here v.stretch ≡ [] ++ bytes_from_here w.stretch)
rested p laws budget left s none v = go (turned p laws budget left s v)
  where
    go : Turned p budget left s (bytes_from_here v.stretch) → (w : Way p left s) × (bytes_from_here v.stretch ≡ [] ++ bytes_from_here w.stretch)
    go t = by_may t t.may
      where
        by_may : (t : Turned p budget left s (bytes_from_here v.stretch)) → MayTurn p s budget t.first.lines t.first.after
            → (w : Way p left s) × (bytes_from_here v.stretch ≡ [] ++ bytes_from_here w.stretch)
        by_may t (inl rests) = (
          record { from = t.first.after; among = rests.2; stretch = t.rest; leads = t.leads },
          t.writes ∙ ap (λ ls. report_bytes counted ls ++ bytes_from_here t.rest) rests.1 ∙ ap (λ xs. xs ++ bytes_from_here t.rest) bytes-none,
        )
        by_may t (inr renders) = absurd (no-render s renders.0 none renders.1)

pub rests : (p : Program) → Laws p → (steps : List Step) (bytes : List ℕ) (budget : Option ℕ) (left : Left) (start : Place) (s : State) → IsFollowed p steps bytes start (turns budget left) s
    → choice_of s ≡ choice.None → IsFollowed p steps bytes start left s
rests p laws steps bytes budget left start s f none =
    follow_on p steps bytes start start (turns budget left) left s s [] f (sym (append-nil (take start.bytes bytes))) (omega arith)
    (λ w.
    let r = turning p laws budget left s [] w.from (inl (none, refl, w.among)) w.stretch w.leads in
    (r.0, r.1 ∙ ap (λ xs. xs ++ bytes_from_here w.stretch) bytes-none))
    (λ v agrees. rested p laws budget left s none v)
    (rested p laws budget left s none f.goes).0

-- If a render goes on

-- what a way does first, with this render
pub record Rendered (p : Program) (budget : Option ℕ) (left : Left) (x : Render) (whole : List ℕ) : Type 0 where
  pub first : Stretch
  pub rest : Stretch
  pub ends : FinishesAs p x budget first.lines first.after ⊎ YieldsAs p x budget first.lines first.after
  pub leads : Leads p left first.after rest
  pub writes : whole ≡ report_bytes counted first.lines ++ bytes_from_here rest

rendered-by : (p : Program) (budget : Option ℕ) (left : Left) (s : State) (x : Render) (whole : List ℕ) → render_by s (choice_of s) ≡ Some x → (t : Turned p budget left s whole)
    → MayTurn p s budget t.first.lines t.first.after → Rendered p budget left x whole
rendered-by p budget left s x whole goes t (inl rests) = absurd (no-render s x rests.0 goes)
rendered-by p budget left s x whole goes t (inr renders) =
    let same : renders.0 ≡ x = some-render renders.0 x (sym renders.1 ∙ goes) in
    record {
      first = t.first;
      rest = t.rest;
      ends = subst (λ y. FinishesAs p y budget t.first.lines t.first.after ⊎ YieldsAs p y budget t.first.lines t.first.after) same renders.2;
      leads = t.leads;
      writes = t.writes;
    }

pub rendered : (p : Program) → Laws p → (budget : Option ℕ) (left : Left) (s : State) (x : Render) → render_by s (choice_of s) ≡ Some x → (v : Way p (turns budget left) s)
    → Rendered p budget left x (bytes_from_here v.stretch)
rendered p laws budget left s x goes v = let t = turned p laws budget left s v in rendered-by p budget left s x (bytes_from_here v.stretch) goes t t.may

-- what the end of a render writes, behind the lines that run first
pub record WritesEnd (x : Render) (c : Counts) (whole : List ℕ) : Type 0 where
  pub said : Line
  pub says : IsFinishOf x.progress.lanes c said
  pub number : HasNumber (x.state.commits + 1) said
  pub more : List ℕ
  pub is : whole ≡ report_bytes counted x.first ++ (line_bytes counted said ++ more)

bytes-cons : (l : Line) (ls : List Line) → report_bytes counted (l ∷ ls) ≡ line_bytes counted l ++ report_bytes counted ls
unfolding report_bytes
bytes-cons l ls = refl

pub writes-end : (p : Program) (budget : Option ℕ) (left : Left) (x : Render) (whole : List ℕ) (r : Rendered p budget left x whole) (e : FinishesAs p x budget r.first.lines r.first.after) → WritesEnd x e.counts whole
writes-end p budget left x whole r e =
    let f = says-first x.state x.progress e.counts e.tree in
    record {
      said = f.said;
      says = f.says;
      number = f.number;
      more = report_bytes counted f.rest ++ bytes_from_here r.rest;
      is =
          r.writes ∙ ap (λ ls. report_bytes counted ls ++ bytes_from_here r.rest) (e.lines_are ∙ ap (λ ls. x.first ++ ls) f.are)
          ∙ ap (λ xs. xs ++ bytes_from_here r.rest) (bytes-append x.first (f.said ∷ f.rest) ∙ ap (λ xs. report_bytes counted x.first ++ xs) (bytes-cons f.said f.rest))
          ∙ append_assoc (report_bytes counted x.first) (line_bytes counted f.said ++ report_bytes counted f.rest) (bytes_from_here r.rest)
          ∙ ap (λ xs. report_bytes counted x.first ++ xs) (append_assoc (line_bytes counted f.said) (report_bytes counted f.rest) (bytes_from_here r.rest));
    }

-- each way writes first the lines that run first
pub starts-with : (p : Program) (budget : Option ℕ) (left : Left) (x : Render) (whole : List ℕ) → Rendered p budget left x whole → (more : List ℕ) × (whole ≡ report_bytes counted x.first ++ more)
starts-with p budget left x whole r = by_end r.ends
  where
    by_end : FinishesAs p x budget r.first.lines r.first.after ⊎ YieldsAs p x budget r.first.lines r.first.after → (more : List ℕ) × (whole ≡ report_bytes counted x.first ++ more)
    by_end (inl e) = let w = writes-end p budget left x whole r e in (line_bytes counted w.said ++ w.more, w.is)
    by_end (inr y) = (bytes_from_here r.rest, r.writes ∙ ap (λ ls. report_bytes counted ls ++ bytes_from_here r.rest) y.lines_are)

-- the lines that run first do not come next
pub start-differs : (p : Program) → Laws p → (steps : List Step) (bytes : List ℕ) (budget : Option ℕ) (left : Left) (start : Place) (s : State) → IsFollowed p steps bytes start (turns budget left) s
    → IsPlace bytes start → (x : Render) → render_by s (choice_of s) ≡ Some x → (n : ℕ) → n ≡ start.lines + ends_in (take (shared (drop start.bytes bytes) (report_bytes counted x.first)) (report_bytes counted x.first))
    → ((more : List ℕ) → drop start.bytes bytes ≡ report_bytes counted x.first ++ more → ⊥) → IsVerdict p steps bytes (No (n + 1))
start-differs p laws steps bytes budget left start s f at x goes n lines other =
    let some = starts-with p budget left x (bytes_from_here f.goes.stretch) (rendered p laws budget left s x goes f.goes) in
    differs_on p steps bytes start n (turns budget left) s (report_bytes counted x.first) f at lines other (f.goes, some.0, some.1)
    (λ v agrees. starts-with p budget left x (bytes_from_here v.stretch) (rendered p laws budget left s x goes v))

-- In a turn, a report is followed up to where it begins, and has the lines that run first: the render is this, and this is the place behind these lines.
pub record InTurn (p : Program) (steps : List Step) (bytes : List ℕ) (budget : Option ℕ) (left : Left) (start : Place) (s : State) (x : Render) (place : Place) : Type 0 where
  pub laws : Laws p
  pub followed : IsFollowed p steps bytes start (turns budget left) s
  pub goes : render_by s (choice_of s) ≡ Some x
  pub at : IsPlace bytes place
  pub passed : take place.bytes bytes ≡ take start.bytes bytes ++ report_bytes counted x.first
  pub later : start.lines ≤ place.lines
  pub few : x.state.commits + 1 < 2 ^ 64

module _ (p : Program) (steps : List Step) (bytes : List ℕ) (budget : Option ℕ) (left : Left) (start : Place) (s : State) (x : Render) (place : Place) (t : InTurn p steps bytes budget left start s x place) where
  -- what a way is, and what it writes
  abbrev Ways : Type 0
  Ways = Way p (turns budget left) s

  abbrev writes : Ways → List ℕ
  writes v = bytes_from_here v.stretch

  way : (v : Ways) → Rendered p budget left x (writes v)
  way v = rendered p t.laws budget left s x t.goes v

  -- behind the lines that run first
  behind-first : (whole more : List ℕ) → whole ≡ report_bytes counted x.first ++ more → take start.bytes bytes ++ whole ≡ take place.bytes bytes ++ more
  behind-first whole more e =
      ap (λ xs. take start.bytes bytes ++ xs) e ∙ sym (append_assoc (take start.bytes bytes) (report_bytes counted x.first) more) ∙ ap (λ xs. xs ++ more) (sym t.passed)

  sharing : (whole more : List ℕ) (k : ℕ) → place.lines ≤ k → whole ≡ report_bytes counted x.first ++ more → Agrees bytes k (take start.bytes bytes ++ whole) → Shares (drop place.bytes bytes) more
  sharing whole more k h e agrees =
      shares bytes place more t.at (agrees-fewer bytes place.lines k (take place.bytes bytes ++ more) h (subst (Agrees bytes k) (behind-first whole more e) agrees))

  -- a way that agrees and ends the render tells so in the next line
  end-told : (v : Ways) (k : ℕ) → place.lines ≤ k → Agrees bytes k (take start.bytes bytes ++ writes v) → (e : FinishesAs p x budget (way v).first.lines (way v).first.after)
      → TellsEndOf (x.state.commits + 1) x.progress.lanes e.counts (drop place.bytes bytes)
  end-told v k h agrees e =
      let w = writes-end p budget left x (writes v) (way v) e in
      let shown = fit-shown p t.laws.bounded x.progress (slice_of x.state x.progress budget) e.counts e.fit in
      let line = end-is-line (x.state.commits + 1) x.progress.lanes e.counts w.said t.few shown w.says w.number in
      record {
        tells =
            record {
              line = line_bytes counted w.said;
              is_first = next-is (drop place.bytes bytes) (line_bytes counted w.said ++ w.more) (line_bytes counted w.said) w.more (sharing (writes v) (line_bytes counted w.said ++ w.more) k h w.is agrees) line refl;
              said = w.said;
              says = w.says;
              text = t.laws.last x.progress.lanes e.counts w.said w.says;
            };
        number = w.number;
      }

  -- the next line tells no end of the render that it may have
  abbrev pub NoEnd : Type 0
  NoEnd = (c : Counts) → Fit p x.progress (slice_of x.state x.progress budget) c → TellsEndOf (x.state.commits + 1) x.progress.lanes c (drop place.bytes bytes) → ⊥

  -- if the render must end, the next line is judged
  pub must-end : NoEnd → IfSome (slice_of x.state x.progress budget) (λ n. unit_bound p ≤ x.progress.units + n) → IsVerdict p steps bytes (No (place.lines + 1))
  must-end none forced =
      let some = starts-with p budget left x (writes t.followed.goes) (way t.followed.goes) in
      judged_here p steps bytes place t.at some.0
      (subst (IsReported p steps) (behind-first (writes t.followed.goes) some.0 some.1) (t.followed.comes t.followed.goes))
      (λ o reported agrees.
      let v = t.followed.only o reported (agrees-fewer bytes start.lines place.lines o t.later agrees) in
      never v.0 (subst (Agrees bytes place.lines) v.1 agrees) (way v.0).ends)
    where
      stays : (y : Option ℕ) (units : ℕ) → IfSome y (λ n. unit_bound p ≤ x.progress.units + n) → y ≡ Some units → x.progress.units + units < unit_bound p → ⊥
      stays None units h e less = cc
      stays (Some n) units h e less = omega (arith, h, less, some-number n units e)

      never : (v : Ways) → Agrees bytes place.lines (take start.bytes bytes ++ writes v) → FinishesAs p x budget (way v).first.lines (way v).first.after ⊎ YieldsAs p x budget (way v).first.lines (way v).first.after → ⊥
      never v agrees (inl e) = none e.counts e.fit (end-told v place.lines (omega arith) agrees e)
      never v agrees (inr y) = stays (slice_of x.state x.progress budget) y.units forced y.sliced y.in_bound

  -- the state in which the render goes on after so many units
  abbrev pub gone : ℕ → State
  gone n = record x.state { progress = Some (gone_on x.progress n 0) }

  -- if the render may yield, and the next line tells no end of it that it may have, it yields
  pub may-yield : NoEnd → (n : ℕ) → slice_of x.state x.progress budget ≡ Some n → x.progress.units + n < unit_bound p → Way p left (gone n) → IsFollowed p steps bytes place left (gone n)
  may-yield none n sliced less goes =
      follow_on p steps bytes start place (turns budget left) left s (gone n) (report_bytes counted x.first) t.followed t.passed t.later
      (λ w. turning p t.laws budget left s x.first w.from (inr (x, t.goes, inr (record { units = n; sliced = sliced; in_bound = less; lines_are = refl; after = w.among }))) w.stretch w.leads)
      (λ v agrees. yields v agrees (way v).ends)
      goes
    where
      yields : (v : Ways) → Agrees bytes place.lines (take start.bytes bytes ++ writes v) → FinishesAs p x budget (way v).first.lines (way v).first.after ⊎ YieldsAs p x budget (way v).first.lines (way v).first.after
          → (w : Way p left (gone n)) × (writes v ≡ report_bytes counted x.first ++ bytes_from_here w.stretch)
      yields v agrees (inl e) = absurd (none e.counts e.fit (end-told v place.lines (omega arith) agrees e))
      yields v agrees (inr y) =
          let same : y.units ≡ n = some-number y.units n (sym y.sliced ∙ sliced) in (
            record { from = (way v).first.after; among = subst (λ m. IsAmong (gone m) (way v).first.after) same y.after; stretch = (way v).rest; leads = (way v).leads },
            (way v).writes ∙ ap (λ ls. report_bytes counted ls ++ bytes_from_here (way v).rest) y.lines_are,
          )

  -- If the next line tells an end of the render that it may have, the render ends so.
  pub record EndsSo (c : Counts) (tree : Node) : Type 0 where
    pub fit : Fit p x.progress (slice_of x.state x.progress budget) c
    pub tells : TellsEnd x.progress.lanes c (drop place.bytes bytes)
    pub gives : fresh (sight_of p x.state x.progress) x.state.tree ≡ made tree
    pub follow : (budget ≡ None) ⊎ ((xs : List Step) × (left ≡ all_of xs))
    pub reached : IsReached p (ended x.state x.progress c tree).after

  module _ (c : Counts) (tree : Node) (so : EndsSo c tree) where
    abbrev pub end : Stretch
    end = ended x.state x.progress c tree

    abbrev pub written : List ℕ
    written = report_bytes counted end.lines

    finishes : FinishesAs p x budget (x.first ++ end.lines) end.after
    finishes = record { counts = c; fit = so.fit; tree = tree; rendered = so.gives; lines_are = refl; after_is = refl }

    both-parts : (xs : List ℕ) → report_bytes counted (x.first ++ end.lines) ++ xs ≡ report_bytes counted x.first ++ (written ++ xs)
    both-parts xs = ap (λ ys. ys ++ xs) (bytes-append x.first end.lines) ∙ append_assoc (report_bytes counted x.first) written xs

    -- each way on from the end is one from where the turn begins
    end-comes : (w : Way p left end.after) → (v : Ways) × (writes v ≡ report_bytes counted x.first ++ (written ++ bytes_from_here w.stretch))
    end-comes w =
        let one = only-one end.after w.from (ended-none x.state x.progress c tree) w.among in
        let r = turning p t.laws budget left s (x.first ++ end.lines) end.after (inr (x, t.goes, inl finishes)) w.stretch (subst (λ u. Leads p left u w.stretch) one w.leads) in
        (r.0, r.1 ∙ both-parts (bytes_from_here w.stretch))

    -- a way that ends the render with these counts goes on from the end
    end-on : (v : Ways) (e : FinishesAs p x budget (way v).first.lines (way v).first.after) → (e.counts ≡ c) → (w : Way p left end.after) × (writes v ≡ report_bytes counted x.first ++ (written ++ bytes_from_here w.stretch))
    end-on v e same =
        let one = made-one e.tree tree (sym e.rendered ∙ so.gives) in
        let is : ended x.state x.progress e.counts e.tree ≡ end = ap₂ (λ k n. ended x.state x.progress k n) same one in
        let after : (way v).first.after ≡ end.after = e.after_is ∙ ap (λ r. r.after) is in (
          record {
            from = (way v).first.after;
            among = subst (IsAmong end.after) (sym after) (among-none end.after (ended-none x.state x.progress c tree));
            stretch = (way v).rest;
            leads = (way v).leads;
          },
          (way v).writes ∙ ap (λ ls. report_bytes counted ls ++ bytes_from_here (way v).rest) (e.lines_are ∙ ap (λ r. x.first ++ r.lines) is) ∙ both-parts (bytes_from_here (way v).rest),
        )

    -- a yield behind which steps are left does not have the next line
    never-yields : (v : Ways) (k : ℕ) → place.lines ≤ k → Agrees bytes k (take start.bytes bytes ++ writes v) → YieldsAs p x budget (way v).first.lines (way v).first.after → ⊥
    never-yields v k h agrees y = by_left so.follow
      where
        no-slice : budget ≡ None → ⊥
        no-slice e = let clash : ◌≡◌ {A = Option ℕ} None (Some y.units) = ap (slice_of x.state x.progress) (sym e) ∙ y.sliced in cc

        whole : writes v ≡ report_bytes counted x.first ++ bytes_from_here (way v).rest
        whole = (way v).writes ∙ ap (λ ls. report_bytes counted ls ++ bytes_from_here (way v).rest) y.lines_are

        next : (rest : List ℕ) × (bytes_from_here (way v).rest ≡ so.tells.line ++ rest)
        next = has-next (drop place.bytes bytes) (bytes_from_here (way v).rest) so.tells.line (sharing (writes v) (bytes_from_here (way v).rest) k h whole agrees) so.tells.is_first

        line : so.tells.line ≡ line_bytes counted so.tells.said
        line = so.tells.text ∙ sym (t.laws.last x.progress.lanes c so.tells.said so.tells.says)

        within : (z : Option ℕ) → IfSome z (λ n. c.units ≤ x.progress.units + n) → z ≡ Some y.units → c.units ≤ x.progress.units + y.units
        within None h e = cc
        within (Some n) h e = omega (arith, h, some-number n y.units e)

        by_left : (budget ≡ None) ⊎ ((xs : List Step) × (left ≡ all_of xs)) → ⊥
        by_left (inl e) = no-slice e
        by_left (inr (xs, e)) =
            let b = y.after in
            let later : Progress = record (gone_on x.progress y.units 0) { bodies = b.0 } in
            let at : (way v).first.after.progress ≡ Some later = ap (λ (u : State). u.progress) b.2 in
            t.laws.decides t.laws.bounded (way v).first.after later at c so.tells.said so.tells.says (within (slice_of x.state x.progress budget) so.fit.in_slice y.sliced) xs (way v).rest
            (leads-run p xs (way v).first.after (way v).rest (subst (λ l. Leads p l (way v).first.after (way v).rest) e (way v).leads))
            (next.0, next.1 ∙ ap (λ zs. zs ++ next.0) line)

    -- each way that agrees ends the render so
    end-only : (v : Ways) (k : ℕ) → place.lines ≤ k → Agrees bytes k (take start.bytes bytes ++ writes v) → (w : Way p left end.after) × (writes v ≡ report_bytes counted x.first ++ (written ++ bytes_from_here w.stretch))
    end-only v k h agrees = by_end (way v).ends
      where
        by_end : FinishesAs p x budget (way v).first.lines (way v).first.after ⊎ YieldsAs p x budget (way v).first.lines (way v).first.after
            → (w : Way p left end.after) × (writes v ≡ report_bytes counted x.first ++ (written ++ bytes_from_here w.stretch))
        by_end (inl e) =
            let told = (end-told v k h agrees e).tells in
            end-on v e (same-counts p t.laws x.progress.lanes e.counts c (drop place.bytes bytes) (fit-shown p t.laws.bounded x.progress (slice_of x.state x.progress budget) e.counts e.fit)
            (fit-shown p t.laws.bounded x.progress (slice_of x.state x.progress budget) c so.fit) told so.tells)
        by_end (inr y) = absurd (never-yields v k h agrees y)

    -- there is a way on from the end
    pub end-goes : Way p left end.after
    end-goes = by_left so.follow
      where
        by_end : budget ≡ None → FinishesAs p x budget (way t.followed.goes).first.lines (way t.followed.goes).first.after ⊎ YieldsAs p x budget (way t.followed.goes).first.lines (way t.followed.goes).first.after → Way p left end.after
        by_end none (inl e) =
            let one = made-one e.tree tree (sym e.rendered ∙ so.gives) in
            let after : (way t.followed.goes).first.after ≡ end.after =
            e.after_is ∙ ap (λ n. (ended x.state x.progress e.counts n).after) one ∙ ended-same x.state x.progress e.counts c tree in
            record {
              from = (way t.followed.goes).first.after;
              among = subst (IsAmong end.after) (sym after) (among-none end.after (ended-none x.state x.progress c tree));
              stretch = (way t.followed.goes).rest;
              leads = (way t.followed.goes).leads;
            }
        by_end none (inr y) = absurd (let clash : ◌≡◌ {A = Option ℕ} None (Some y.units) = ap (slice_of x.state x.progress) (sym none) ∙ y.sliced in cc)

        by_left : (budget ≡ None) ⊎ ((xs : List Step) × (left ≡ all_of xs)) → Way p left end.after
        by_left (inl none) = by_end none (way t.followed.goes).ends
        by_left (inr (xs, e)) =
            let r = t.laws.progresses t.laws.bounded end.after so.reached xs in
            record { from = end.after; among = among-none end.after (ended-none x.state x.progress c tree); stretch = r.0; leads = subst (λ l. Leads p l end.after r.0) (sym e) (run-leads p xs end.after r.0 r.1) }

    -- the lines of the end come next
    pub end-follows : (then : Place) → take then.bytes bytes ≡ take place.bytes bytes ++ written → place.lines ≤ then.lines → IsFollowed p steps bytes then left end.after
    end-follows then passed later =
        follow_on p steps bytes start then (turns budget left) left s end.after (report_bytes counted x.first ++ written) t.followed
        (passed ∙ ap (λ xs. xs ++ written) t.passed ∙ append_assoc (take start.bytes bytes) (report_bytes counted x.first) written) (omega (arith, t.later, later))
        (λ w. let r = end-comes w in (r.0, r.1 ∙ sym (append_assoc (report_bytes counted x.first) written (bytes_from_here w.stretch))))
        (λ v agrees. let r = end-only v then.lines later agrees in (r.0, r.1 ∙ sym (append_assoc (report_bytes counted x.first) written (bytes_from_here r.0.stretch))))
        end-goes

    -- they do not
    pub end-differs : (n : ℕ) → n ≡ place.lines + ends_in (take (shared (drop place.bytes bytes) written) written) → ((more : List ℕ) → drop place.bytes bytes ≡ written ++ more → ⊥) → IsVerdict p steps bytes (No (n + 1))
    end-differs n lines other =
        let some = end-comes end-goes in
        judged_there p steps bytes place n written t.at lines other (bytes_from_here end-goes.stretch)
        (subst (IsReported p steps) (behind-first (writes some.0) (written ++ bytes_from_here end-goes.stretch) some.1) (t.followed.comes some.0))
        (λ o reported agrees.
        let v = t.followed.only o reported (agrees-fewer bytes start.lines n o (omega (arith, t.later, lines)) agrees) in
        let r = end-only v.0 n (omega (arith, lines)) (subst (Agrees bytes n) v.1 agrees) in
        (bytes_from_here r.0.stretch, v.1 ∙ behind-first (writes v.0) (written ++ bytes_from_here r.0.stretch) r.1))
