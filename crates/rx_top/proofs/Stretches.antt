-- A run so far, and how it goes on.
use Rattle.std.proofs.Common.{◌≡◌, ℕ, ◌+◌, ◌≤◌, ◌^◌, List, [], ◌∷◌, ◌++◌, take, refl, sym, ap, ap₂, ◌∙◌, append_assoc, append-nil, add_assoc, add-zero, subst, arith}
use Rattle.std.specs.declared.option.Option.{Option}
use Rattle.std.specs.Io.KnownBytes.{Appends}
use Rattle.std.proofs.KnownBytes.{Appends-nil, Appends-trans}
use Rattle.std.proofs.lemmas.Grind.{flat_map-append}
use Rattle.rx_io.specs.Whole.{IsPartOf, AppendsPart}
use Rattle.rx_ast.specs.Syntax.{Program}
use Rattle.rx_step.specs.declared.step.Step.{Step}
use Rattle.rx_elem.specs.Numbers.{Numbers}
use Rattle.rx_lines.specs.Lines.{Line, Options, Written, line_bytes, report_bytes}
use Rattle.rx_model.specs.State.{State, opening}
use Rattle.rx_model.specs.Stretch.{Stretch, silent, followed_by}
use Rattle.rx_model.specs.Turns.{OfRender}
use Rattle.rx_model.specs.Machine.{RunTo, StepTo}
use Rattle.rx_model.specs.Breaking.{BreaksOff}
use Rattle.rx_root.specs.Paying.{Pays}
use Rattle.rx_root.specs.Rooted.{Rooted}
use Rattle.rx_root.specs.Stands.{Stands, HasRoomFor}
use Rattle.rx_root.specs.Turning.{Takes}
use Rattle.rx_top.specs.Outcome.{Writes}
use Rattle.rx_top.specs.Reports.{StepLosesLines, StepBreaksOff}
use Rattle.rx_top.specs.Running.{WritesRun}

-- the bytes of lines, one after another
pub report_bytes-append : (o : Options) (a b : List Line) → report_bytes o (a ++ b) ≡ report_bytes o a ++ report_bytes o b
unfolding report_bytes
report_bytes-append o a b = flat_map-append (line_bytes o) a b

-- stretches follow one another, however they are grouped
followed-assoc : (a b c : Stretch) → followed_by (followed_by a b) c ≡ followed_by a (followed_by b c)
followed-assoc a b c =
    ap₂ (λ (l : List Line) (n : ℕ). record { lines = l; bodies = n; after = c.after }) (append_assoc a.lines b.lines c.lines) (add_assoc a.bodies b.bodies c.bodies)

-- a stretch that nothing follows
followed-silent : (r : Stretch) → followed_by r (silent r.after) ≡ r
followed-silent r = ap₂ (λ (l : List Line) (n : ℕ). record { lines = l; bodies = n; after = r.after }) (append-nil r.lines) (add-zero r.bodies)

-- Runs

-- a run of these steps, and then of those
pub run-append : (Asked : OfRender) (p : Program) (s : State) (xs ys : List Step) (done more : Stretch) → RunTo Asked p s xs done → RunTo Asked p done.after ys more
    → RunTo Asked p s (xs ++ ys) (followed_by done more)
run-append Asked p s [] ys done more is run =
    let same : more ≡ followed_by (silent s) more = ap (λ (n : ℕ). record { lines = more.lines; bodies = n; after = more.after }) (omega arith) in
    subst (λ d. RunTo Asked p d.after ys more → RunTo Asked p s ys (followed_by d more)) (sym is) (λ h. subst (RunTo Asked p s ys) same h) run
run-append Asked p s (x ∷ xs) ys done more h run =
    let tail = run-append Asked p h.0.after xs ys h.1 more h.3 (subst (λ (d : Stretch). RunTo Asked p d.after ys more) h.4 run) in
    (h.0, followed_by h.1 more, h.2, tail, ap (λ (d : Stretch). followed_by d more) h.4 ∙ followed-assoc h.0 h.1 more)

-- a run, and then one step more
pub run-more : (Asked : OfRender) (p : Program) (s : State) (xs : List Step) (x : Step) (done last : Stretch) → RunTo Asked p s xs done → StepTo Asked p done.after x last
    → RunTo Asked p s (xs ++ x ∷ []) (followed_by done last)
run-more Asked p s xs x done last run step =
    run-append Asked p s xs (x ∷ []) done last run (last, silent last.after, step, refl, sym (followed-silent last))

-- The run so far

-- some steps of a script are taken, all their lines are written and their bodies counted, and these steps are left
pub record SoFar (p : Program) (o : Options) (s : State) (script : List Step) (w v : Option (List ℕ)) (used_old used : ℕ) (root : Rooted) (left : List Step) : Type 0 where
  pub before : List Step
  pub steps_are : script ≡ before ++ left
  pub run : WritesRun p o s before w v used_old used root

-- a step that a root takes, with the bytes of its lines
pub record Stepped (p : Program) (o : Options) (s : State) (x : Step) (after : Rooted) (bytes : List ℕ) (used_old used : ℕ) : Type 0 where
  pub last : Stretch
  pub step : StepTo Pays p s x last
  pub stands : Stands p last.after after
  pub bytes_are : bytes ≡ report_bytes o last.lines
  pub counted : used ≡ used_old + last.bodies

pub so_far-starts : (p : Program) (o : Options) (s : State) (script : List Step) (w : Option (List ℕ)) (used : ℕ) (root : Rooted) → Stands p s root
    → SoFar p o s script w w used used root script
unfolding report_bytes
so_far-starts p o s script w used root stands =
    record { before = []; steps_are = refl; run = record { taken = silent s; runs = refl; stands = stands; written = Appends-nil w; counted = omega arith } }

pub so_far-next : (p : Program) (o : Options) (s : State) (script left : List Step) (x : Step) (w v u : Option (List ℕ)) (bytes : List ℕ) (used_old used used_new : ℕ) (root after : Rooted)
    → (before : SoFar p o s script w v used_old used root (x ∷ left)) → Stepped p o before.run.taken.after x after bytes used used_new → Appends v u bytes
    → SoFar p o s script w u used_old used_new after left
so_far-next p o s script left x w v u bytes used_old used used_new root after before here wrote =
    let run = before.run in
    let all = Appends-trans w v u (report_bytes o run.taken.lines) (report_bytes o here.last.lines) run.written (subst (Appends v u) here.bytes_are wrote) in
    record {
      before = before.before ++ x ∷ [];
      steps_are = before.steps_are ∙ sym (append_assoc before.before (x ∷ []) left);
      run = record {
        taken = followed_by run.taken here.last;
        runs = run-more Pays p s before.before x run.taken here.last run.runs here.step;
        stands = here.stands;
        written = subst (Appends w u) (sym (report_bytes-append o run.taken.lines here.last.lines)) all;
        counted = omega (arith, run.counted, here.counted);
      };
    }

-- the sink fails in the lines of the next step
pub so_far-lost : (p : Program) (o : Options) (s : State) (script left : List Step) (x : Step) (w v u : Option (List ℕ)) (bytes : List ℕ) (used_old used used_new : ℕ) (root after : Rooted)
    → (before : SoFar p o s script w v used_old used root (x ∷ left)) → Stepped p o before.run.taken.after x after bytes used used_new → AppendsPart v u bytes
    → Writes w u used_old used_new (StepLosesLines Pays p s script o)
so_far-lost p o s script left x w v u bytes used_old used used_new root after before here wrote =
    let run = before.run in (
      report_bytes o run.taken.lines ++ wrote.0,
      run.taken.bodies + here.last.bodies,
      record {
        before = before.before;
        last = x;
        behind = left;
        steps_are = before.steps_are;
        taken = run.taken;
        runs = run.runs;
        lost = here.last;
        takes = here.step;
        begun = wrote.0;
        is_part = subst (IsPartOf wrote.0) here.bytes_are wrote.1;
        part_is = refl;
        bodies_are = refl;
      },
      Appends-trans w v u (report_bytes o run.taken.lines) wrote.0 run.written wrote.2,
      omega (arith, run.counted, here.counted),
    )

-- the next step finds no memory
pub so_far-short : (p : Program) (o : Options) (s : State) (script left : List Step) (x : Step) (w v : Option (List ℕ)) (used_old used used_new : ℕ) (root : Rooted)
    → (before : SoFar p o s script w v used_old used root (x ∷ left)) → (last : Stretch) → BreaksOff Pays p before.run.taken.after x last → used_new ≡ used + last.bodies
    → Writes w v used_old used_new (StepBreaksOff Pays p s script o)
so_far-short p o s script left x w v used_old used used_new root before last breaks counted =
    let run = before.run in (
      report_bytes o run.taken.lines,
      run.taken.bodies + last.bodies,
      record {
        whole = followed_by run.taken last;
        breaks = record {
          before = before.before;
          broken = x;
          behind = left;
          steps_are = before.steps_are;
          taken = run.taken;
          runs = run.runs;
          last = last;
          breaks = breaks;
          stretch_is = refl;
        };
        part_is = refl;
        bodies_are = refl;
      },
      run.written,
      omega (arith, run.counted, counted),
    )

pub so_far-ends : (p : Program) (o : Options) (s : State) (script : List Step) (w v : Option (List ℕ)) (used_old used : ℕ) (root : Rooted)
    → SoFar p o s script w v used_old used root [] → WritesRun p o s script w v used_old used root
so_far-ends p o s script w v used_old used root before =
    subst (λ l. WritesRun p o s l w v used_old used root) (sym (before.steps_are ∙ append-nil before.before)) before.run

-- room for more steps is room for fewer
pub room-fewer : (m n : ℕ) (v : Rooted) → m ≤ n → HasRoomFor n v → HasRoomFor m v
room-fewer m n v fewer room =
    record {
      updates = omega (arith, fewer, room.updates);
      resolutions = omega (arith, fewer, room.resolutions);
      commits = omega (arith, fewer, room.commits);
      instances = omega (arith, fewer, room.instances);
      hosts = omega (arith, fewer, room.hosts);
    }

-- the bytes of a log that was cut to nothing before these lines
pub logged : (o : Options) (before cut log : Written) (bytes : List ℕ) (lines : List Line) → cut ≡ record { options = before.options; bytes = take 0 before.bytes }
    → log ≡ record { options = cut.options; bytes = cut.bytes ++ report_bytes cut.options lines } → before.options ≡ o → bytes ≡ log.bytes → bytes ≡ report_bytes o lines
logged o before cut log bytes lines c l p b =
    b ∙ ap (λ (w : Written). w.bytes) l ∙ ap (λ (w : Written). w.bytes ++ report_bytes w.options lines) c ∙ ap (λ (x : Options). report_bytes x lines) p

-- a step that a root takes if its log was cut to nothing before
pub stepped : (p q : Program) (o : Options) (s : State) (x : Step) (after : Rooted) (before cut log : Written) (bytes : List ℕ) (used_old used : ℕ) → q ≡ p
    → Takes q (StepTo Pays q s x) after cut log used_old used → cut ≡ record { options = before.options; bytes = take 0 before.bytes } → before.options ≡ o → bytes ≡ log.bytes
    → Stepped p o s x after bytes used_old used
stepped p q o s x after before cut log bytes used_old used same takes c l b =
    record {
      last = takes.stretch;
      step = subst (λ t. StepTo Pays t s x takes.stretch) same takes.asked;
      stands = subst (λ t. Stands t takes.stretch.after after) same takes.done.stands;
      bytes_are = logged o before cut log bytes takes.stretch.lines c takes.done.written l b;
      counted = takes.bodies;
    }

-- a root at the start has room for every script
pub room-opening : (p : Program) (n : ℕ) (v : Rooted) → n ≤ 2 ^ 32 → Stands p opening v → HasRoomFor n v
room-opening p n v few stands =
    record {
      updates = omega (arith, few, stands.updates);
      resolutions = omega (arith, few, stands.resolutions);
      commits = omega (arith, few, stands.commits);
      instances = omega (arith, few, ap (λ (m : Numbers). m.instance) stands.numbers);
      hosts = omega (arith, few, ap (λ (m : Numbers). m.host) stands.numbers);
    }
