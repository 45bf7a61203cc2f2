-- A run, the end line behind it, and where its report is cut off.
use Rattle.std.proofs.Common.{◌≡◌, ◌∙◌, ℕ, ◌+◌, List, [], ◌∷◌, ◌++◌, inl, inr, sym, ap, append_assoc, append-nil, refl, subst}
use Rattle.std.specs.Prelude.{Result, Ok, Err, OnErr}
use Rattle.std.specs.declared.option.Option.{Option}
use Rattle.std.specs.Io.KnownBytes.{Appends}
use Rattle.std.proofs.KnownBytes.{Appends-trans}
use Rattle.rx_io.specs.Whole.{AppendsPart}
use Rattle.rx_ast.specs.Syntax.{Program}
use Rattle.rx_step.specs.declared.step.Step.{Step}
use Rattle.rx_lines.specs.Lines.{Options, report_bytes}
use Rattle.rx_model.specs.State.{State, opening, end_line}
use Rattle.rx_model.specs.Stretch.{Stretch, followed_by}
use Rattle.rx_model.specs.Turns.{OfRender, AnyRender}
use Rattle.rx_model.specs.Machine.{RunTo}
use Rattle.rx_model.specs.Laws.{IsBounded, Progresses, QuietLaw}
use Rattle.rx_model.proofs.AskingLess.{any-run}
use Rattle.rx_model.proofs.Reached.{runs-reach, start-reached}
use Rattle.rx_root.specs.Paying.{Pays}
use Rattle.rx_root.specs.Rooted.{Rooted}
use Rattle.rx_top.specs.Outcome.{Writes}
use Rattle.rx_top.specs.Reports.{IsReport, BeginsReport, StepLosesLines, IsLostReport, StepBreaksOff, BreaksOffAt, IsShortReport}
use Rattle.rx_top.specs.Running.{WritesRun}
use Rattle.rx_top.proofs.Stretches.{report_bytes-append, run-append, run-more}

-- what is written has less
pub writes-less : (P Q : List ℕ → ℕ → Type 0) → ((part : List ℕ) (bodies : ℕ) → P part bodies → Q part bodies) → (w u : Option (List ℕ)) (used_old used : ℕ) → Writes w u used_old used P
    → Writes w u used_old used Q
writes-less P Q less w u used_old used wrote = (wrote.0, wrote.1, less wrote.0 wrote.1 wrote.2, wrote.3, wrote.4)

-- what holds anyway holds if there is an error
pub on-err : {T E P : Type 0} (r : Result T E) → P → OnErr r P
on-err (Ok x) p = tt
on-err (Err e) p = p

-- the bytes of the end line
abbrev pub end_bytes : Options → State → List ℕ
end_bytes o s = report_bytes o (end_line s ∷ [])

module _ (p : Program) (bounded : IsBounded p) (law : QuietLaw p) (o : Options) (script : List Step) where
  -- the report of a run with these lines
  reports : (Asked : OfRender) (r : Stretch) → RunTo Asked p opening script r → (text : List ℕ) → text ≡ report_bytes o r.lines ++ end_bytes o r.after
      → IsReport Asked p script o text r.bodies
  reports Asked r run text is =
      record {
        reports = record {
          lines = r.lines ++ end_line r.after ∷ [];
          run = record { whole = r; runs = run; lines_are = refl; bodies_are = refl };
          bytes_are = is ∙ sym (report_bytes-append o r.lines (end_line r.after ∷ []));
        };
        quiet = law bounded r.after (runs-reach p opening (start-reached p) script r (any-run Asked p opening script r run));
      }

  module _ (progress : Progresses p) where
    -- what begins the lines of some steps of a script begins the report of a run
    begins : (before left : List Step) → script ≡ before ++ left → (r : Stretch) → RunTo AnyRender p opening before r → (part rest : List ℕ) → part ++ rest ≡ report_bytes o r.lines
        → BeginsReport p script o part
    begins before left is r run part rest all =
        let more = progress bounded r.after (runs-reach p opening (start-reached p) before r run) left in
        let tail = report_bytes o more.0.lines ++ end_bytes o more.0.after in
        let whole : part ++ (rest ++ tail) ≡ report_bytes o (r.lines ++ more.0.lines) ++ end_bytes o more.0.after =
        sym (append_assoc part rest tail) ∙ ap (λ l. l ++ tail) all ∙ sym (append_assoc (report_bytes o r.lines) (report_bytes o more.0.lines) (end_bytes o more.0.after))
        ∙ ap (λ l. l ++ end_bytes o more.0.after) (sym (report_bytes-append o r.lines more.0.lines)) in
        let runs = subst (λ l. RunTo AnyRender p opening l (followed_by r more.0)) (sym is) (run-append AnyRender p opening before left r more.0 run more.1) in
        (rest ++ tail, r.bodies + more.0.bodies, reports AnyRender (followed_by r more.0) runs (part ++ (rest ++ tail)) whole)

    -- a step whose lines are lost
    pub step-lost : (part : List ℕ) (bodies : ℕ) → StepLosesLines Pays p opening script o part bodies → IsLostReport p script o part bodies
    step-lost part bodies h =
        let steps : script ≡ (h.before ++ h.last ∷ []) ++ h.behind = h.steps_are ∙ sym (append_assoc h.before (h.last ∷ []) h.behind) in
        let run = any-run Pays p opening (h.before ++ h.last ∷ []) (followed_by h.taken h.lost) (run-more Pays p opening h.before h.last h.taken h.lost h.runs h.takes) in
        let all : (report_bytes o h.taken.lines ++ h.begun) ++ h.is_part.0 ≡ report_bytes o (h.taken.lines ++ h.lost.lines) =
        append_assoc (report_bytes o h.taken.lines) h.begun h.is_part.0 ∙ ap (λ l. report_bytes o h.taken.lines ++ l) (sym h.is_part.1)
        ∙ sym (report_bytes-append o h.taken.lines h.lost.lines) in
        record {
          begins = begins (h.before ++ h.last ∷ []) h.behind steps (followed_by h.taken h.lost) run part h.is_part.0 (ap (λ l. l ++ h.is_part.0) h.part_is ∙ all);
          loses = inl h;
        }

    -- a step that finds no memory
    pub step-short : (part : List ℕ) (bodies : ℕ) → StepBreaksOff Pays p opening script o part bodies → IsShortReport p script o part bodies
    step-short part bodies h =
        let b = h.breaks in
        record {
          begins = begins b.before (b.broken ∷ b.behind) b.steps_are b.taken (any-run Pays p opening b.before b.taken b.runs) part [] (append-nil part ∙ h.part_is);
          breaks = inl h;
        }

    -- an end line that finds no memory
    pub end-short : (w v : Option (List ℕ)) (used_old used : ℕ) (root : Rooted) → WritesRun p o opening script w v used_old used root → Writes w v used_old used (IsShortReport p script o)
    end-short w v used_old used root r = (
      report_bytes o r.taken.lines,
      r.taken.bodies,
      record {
        begins = begins script [] (sym (append-nil script)) r.taken (any-run Pays p opening script r.taken r.runs) (report_bytes o r.taken.lines) [] (append-nil (report_bytes o r.taken.lines));
        breaks = inr (record { taken = r.taken; runs = r.runs; part_is = refl; bodies_are = refl });
      },
      r.written,
      r.counted,
    )

  -- a whole report
  pub end-done : (w v u : Option (List ℕ)) (used_old used : ℕ) (root : Rooted) (end : List ℕ)
      → (r : WritesRun p o opening script w v used_old used root) → end ≡ end_bytes o r.taken.after → Appends v u end → Writes w u used_old used (IsReport Pays p script o)
  end-done w v u used_old used root end r is wrote = (
    report_bytes o r.taken.lines ++ end,
    r.taken.bodies,
    reports Pays r.taken r.runs (report_bytes o r.taken.lines ++ end) (ap (λ l. report_bytes o r.taken.lines ++ l) is),
    Appends-trans w v u (report_bytes o r.taken.lines) end r.written wrote,
    r.counted,
  )

  -- an end line that is lost
  pub end-lost : (w v u : Option (List ℕ)) (used_old used : ℕ) (root : Rooted) (end : List ℕ)
      → (r : WritesRun p o opening script w v used_old used root) → end ≡ end_bytes o r.taken.after → AppendsPart v u end → Writes w u used_old used (IsLostReport p script o)
  end-lost w v u used_old used root end r is wrote =
      let lost = wrote.1 in
      let told : end_bytes o r.taken.after ≡ wrote.0 ++ lost.0 = sym is ∙ lost.1 in
      let all : (report_bytes o r.taken.lines ++ wrote.0) ++ lost.0 ≡ report_bytes o r.taken.lines ++ end_bytes o r.taken.after =
      append_assoc (report_bytes o r.taken.lines) wrote.0 lost.0 ∙ ap (λ l. report_bytes o r.taken.lines ++ l) (sym told) in (
        report_bytes o r.taken.lines ++ wrote.0,
        r.taken.bodies,
        record {
          begins = (lost.0, r.taken.bodies, reports AnyRender r.taken (any-run Pays p opening script r.taken r.runs) ((report_bytes o r.taken.lines ++ wrote.0) ++ lost.0) all);
          loses = inr (record { taken = r.taken; runs = r.runs; begun = wrote.0; is_part = (lost.0, told, lost.2); part_is = refl; bodies_are = refl });
        },
        Appends-trans w v u (report_bytes o r.taken.lines) wrote.0 r.written wrote.2,
        r.counted,
      )

-- a run whose bodies alone are counted, broken off behind its last step
pub end-breaks : (p : Program) (o : Options) (script : List Step) (w v : Option (List ℕ)) (used_old used : ℕ) (root : Rooted)
    → WritesRun p o opening script w v used_old used root → Writes w v used_old used (BreaksOffAt p script o)
end-breaks p o script w v used_old used root r = (
  report_bytes o r.taken.lines,
  r.taken.bodies,
  inr (record { taken = r.taken; runs = r.runs; part_is = refl; bodies_are = refl }),
  r.written,
  r.counted,
)
