-- A render in progress, and the room for numbers, while all else changes.
use Rattle.std.proofs.Common.{◌≡◌, ℕ, ◌≤◌, Option, Some, None, length, sym, ap, ◌∙◌, subst, arith}
use Rattle.rx_ast.specs.Syntax.{Program}
use Rattle.rx_elem.specs.Numbers.{Numbers}
use Rattle.rx_queue.specs.Journal.{Journal, has_later}
use Rattle.rx_meaning.specs.Settled.{DoneBefore}
use Rattle.rx_model.specs.State.{Progress, State}
use Rattle.rx_plain.specs.Plained.{Going, Plained}
use Rattle.rx_plain.specs.Stands.{GoesOnWith, HasProgress, HasRoomFor}
use Rattle.rx_kept.specs.Seeing.{AreSeen}

-- a render goes on with one of a state with the same journal
pub goes_on_same : (p : Program) (s t : State) (g : Progress) (x : Going) → t.journal ≡ s.journal → t.seen ≡ s.seen → GoesOnWith p s g x → GoesOnWith p t g x
goes_on_same p s t g x journal seen h =
    record {
      lanes = h.lanes;
      cut = h.cut;
      done = subst (λ (j : Journal). DoneBefore g.cut j.updates) (sym journal) h.done;
      updates = subst (λ (j : Journal). g.cut.updates ≤ length j.updates) (sym journal) h.updates;
      resolutions = subst (λ (j : Journal). g.cut.resolutions ≤ length j.resolutions) (sym journal) h.resolutions;
      seen = subst (λ (j : Journal). AreSeen (record { program = p; journal = j; lanes = g.lanes; cut = g.cut; seen = t.seen }) x.seen) (sym journal)
          (subst (λ (n : ℕ). AreSeen (record { program = p; journal = s.journal; lanes = g.lanes; cut = g.cut; seen = n }) x.seen) (sym seen) h.seen);
      units = h.units;
      bodies = h.bodies;
      lanes_are_set = h.lanes_are_set;
      later = λ l. h.later l ∙ ap (λ (j : Journal). has_later g.cut j l) (sym journal);
    }

-- the render that a state has in progress goes on so
pub progress_same : (p : Program) (s t : State) (g : Option Progress) (x : Option Going) → t.journal ≡ s.journal → t.seen ≡ s.seen → HasProgress p s g x → HasProgress p t g x
progress_same p s t None None journal seen h = tt
progress_same p s t (Some g) (Some x) journal seen h = goes_on_same p s t g x journal seen h
progress_same p s t None (Some x) journal seen h = absurd h
progress_same p s t (Some g) None journal seen h = absurd h

-- room for steps is room for as many if the numbers stay
pub room_same : (v w : Plained) → w.updates ≡ v.updates → w.resolutions ≡ v.resolutions → w.commits ≡ v.commits → w.numbers ≡ v.numbers → (k : ℕ) → HasRoomFor k v → HasRoomFor k w
room_same v w updates resolutions commits numbers k h =
    let instance = ap (λ (n : Numbers). n.instance) numbers in
    let host = ap (λ (n : Numbers). n.host) numbers in
    record {
      updates = (let a = h.updates in omega (arith, a, updates));
      resolutions = (let a = h.resolutions in omega (arith, a, resolutions));
      commits = (let a = h.commits in omega (arith, a, commits));
      instances = (let a = h.instances in omega (arith, a, instance));
      hosts = (let a = h.hosts in omega (arith, a, host));
    }
