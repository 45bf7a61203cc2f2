-- Reports of scripts that close with the steps that print the tree of hosts and all hooks.
use Rattle.std.specs.Prelude.{Bool, List, [], if◌then◌else◌, map, refl, true, ℕ, ◌++◌, ◌+◌, ◌∷◌, ◌≡◌}
use Rattle.std.proofs.Common.{ap, append-nil, append_assoc, subst, sym, ◌∙◌}
use Rattle.rx_ast.specs.Syntax.{Program}
use Rattle.rx_forest.specs.Hosts.{Host, hosts}
use Rattle.rx_lines.specs.Lines.{Line, Options, end_pending, end_quiet, host_lines, level_in, line_bytes, report_bytes, state_head, tree_head, tree_host, tree_lines}
use Rattle.rx_elem.specs.Spots.{Mounted, hidden_count, mounted}
use Rattle.rx_model.specs.Accepting.{between_events}
use Rattle.rx_model.specs.Turns.{OfRender, AnyRender}
use Rattle.rx_model.specs.Machine.{Reports, RunTo}
use Rattle.rx_model.proofs.AskingLess.{any-run}
use Rattle.rx_model.specs.State.{State, end_line, is_quiet, opening, state_line, state_lines}
use Rattle.rx_model.specs.Stretch.{Stretch, followed_by, silent, writes}
use Rattle.rx_queue.specs.Journal.{Journal}
use Rattle.rx_step.specs.declared.step.Step.{Step}
use Rattle.rx_step.specs.declared.step.Step.TheVariants as step
use Rattle.sync_laws.proofs.Ends.{sync_law}
use Rattle.sync_laws.specs.Sync.{EndsWith, ReportsCloseAlike, ShowTheSame, all_in_sync, closed, closing_lines, step_in_sync}

closed_in_sync : (xs ys : List Step) → all_in_sync (xs ++ ys) ≡ all_in_sync xs ++ all_in_sync ys
closed_in_sync [] ys = refl
closed_in_sync (x ∷ xs) ys =
    ap (λ (zs : List Step). step_in_sync x ++ zs) (closed_in_sync xs ys) ∙ sym (append_assoc (step_in_sync x) (all_in_sync xs) (all_in_sync ys))

bytes_append : (o : Options) (xs ys : List Line) → report_bytes o (xs ++ ys) ≡ report_bytes o xs ++ report_bytes o ys
unfolding report_bytes
bytes_append o [] ys = refl
bytes_append o (x ∷ xs) ys =
    ap (λ (t : List ℕ). line_bytes o x ++ t) (bytes_append o xs ys) ∙ sym (append_assoc (line_bytes o x) (report_bytes o xs) (report_bytes o ys))

-- a stretch ends with the lines that show what is there in the end
abbrev Shows : Program → Stretch → Type 0
Shows p r = (first : List Line) × (r.lines ≡ first ++ (tree_lines (hosts r.after.tree) ++ state_lines p r.after))

module _ (p : Program) where
  last_shows : (s : State) (r : Stretch) → RunTo AnyRender p s (step.Tree ∷ step.State ∷ []) r → Shows p r
  last_shows s r run =
      subst (Shows p) (sym run.4) (tree_shows run.0 run.1 run.2 run.3)
    where
      whole : Shows p (followed_by (writes (tree_lines (hosts s.tree)) (between_events s)) (followed_by (writes (state_lines p s) (between_events s)) (silent (between_events s))))
      whole = ([], ap (λ (ls : List Line). tree_lines (hosts s.tree) ++ ls) (append-nil (state_lines p s)))

      ending : (q : Stretch) → q ≡ silent (between_events s)
          → Shows p (followed_by (writes (tree_lines (hosts s.tree)) (between_events s)) (followed_by (writes (state_lines p s) (between_events s)) q))
      ending q e =
          subst (λ (x : Stretch). Shows p (followed_by (writes (tree_lines (hosts s.tree)) (between_events s)) (followed_by (writes (state_lines p s) (between_events s)) x))) (sym e) whole

      state_shows : (first rest : Stretch) → first ≡ writes (state_lines p s) (between_events s) → rest ≡ silent first.after
          → Shows p (followed_by (writes (tree_lines (hosts s.tree)) (between_events s)) (followed_by first rest))
      state_shows first rest e =
          subst (λ (x : Stretch). rest ≡ silent x.after → Shows p (followed_by (writes (tree_lines (hosts s.tree)) (between_events s)) (followed_by x rest))) (sym e) (ending rest)

      tree_shows : (first rest : Stretch) → first ≡ writes (tree_lines (hosts s.tree)) (between_events s) → RunTo AnyRender p first.after (step.State ∷ []) rest → Shows p (followed_by first rest)
      tree_shows first rest e =
          subst (λ (x : Stretch). RunTo AnyRender p x.after (step.State ∷ []) rest → Shows p (followed_by x rest)) (sym e)
          (λ run. subst (λ (x : Stretch). Shows p (followed_by (writes (tree_lines (hosts s.tree)) (between_events s)) x)) (sym run.4) (state_shows run.0 run.1 run.2 run.3))

  closed_shows : (xs : List Step) (s : State) (r : Stretch) → RunTo AnyRender p s (closed xs) r → Shows p r
  closed_shows [] s r run = last_shows s r run
  closed_shows (x ∷ xs) s r run =
      let later = closed_shows xs run.0.after run.1 run.3 in
      subst (Shows p) (sym run.4) (
        run.0.lines ++ later.0,
        ap (λ (ls : List Line). run.0.lines ++ ls) later.1
            ∙ sym (append_assoc run.0.lines later.0 (tree_lines (hosts run.1.after.tree) ++ state_lines p run.1.after)),
      )

  -- a report of a script that closes so ends with what it shows in the end
  ends_with : (Asked : OfRender) (o : Options) (steps : List Step) (bytes : List ℕ) (bodies : ℕ) (a : Reports Asked p steps o bytes bodies) → Shows p a.run.whole → EndsWith bytes (report_bytes o (closing_lines p a.run.whole.after))
  ends_with Asked o steps bytes bodies a shows = (
    report_bytes o shows.0,
    a.bytes_are ∙ (ap (report_bytes o) lines ∙ bytes_append o shows.0 (closing_lines p a.run.whole.after)),
  )
    where
      lines : a.lines ≡ shows.0 ++ closing_lines p a.run.whole.after
      lines =
          a.run.lines_are
          ∙ (ap (λ (ls : List Line). ls ++ end_line a.run.whole.after ∷ []) shows.1
          ∙ append_assoc shows.0 (tree_lines (hosts a.run.whole.after.tree) ++ state_lines p a.run.whole.after) (end_line a.run.whole.after ∷ []))

  -- two states that show the same close their reports with the same bytes, if both are quiet
  closing_same : (o : Options) (s t : State) → ShowTheSame p s t → is_quiet s ≡ true → is_quiet t ≡ true → report_bytes o (closing_lines p t) ≡ report_bytes o (closing_lines p s)
  closing_same o s t same quiet quiet_too =
      sym (split s ∙ ((λ i. (same.trees o i ++ report_bytes o (same.states i)) ++ report_bytes o (ends i ∷ [])) ∙ sym (split t)))
    where
      split : (u : State) → report_bytes o (closing_lines p u) ≡ (report_bytes o (tree_lines (hosts u.tree)) ++ report_bytes o (state_lines p u)) ++ report_bytes o (end_line u ∷ [])
      split u =
          bytes_append o (tree_lines (hosts u.tree) ++ state_lines p u) (end_line u ∷ [])
          ∙ ap (λ (b : List ℕ). b ++ report_bytes o (end_line u ∷ [])) (bytes_append o (tree_lines (hosts u.tree)) (state_lines p u))

      quiet_end : (u : State) → is_quiet u ≡ true → end_line u ≡ end_quiet
      quiet_end u q = ap (λ (b : Bool). if b then end_quiet else end_pending u.schedule.pending (hidden_count u.tree)) q

      ends : end_line s ≡ end_line t
      ends = quiet_end s quiet ∙ sym (quiet_end t quiet_too)

  -- What is shown of hosts, hooks and a quiet end hangs on no option

  hosts_any : (o u : Options) (known : List (ℕ × ℕ)) (hs : List Host) → report_bytes o (host_lines known hs) ≡ report_bytes u (host_lines known hs)
  unfolding report_bytes
  hosts_any o u known [] = refl
  hosts_any o u known (h ∷ hs) =
      ap (λ (t : List ℕ). line_bytes o (tree_host (level_in known h.parent + 1) h) ++ t) (hosts_any o u ((h.number, level_in known h.parent + 1) ∷ known) hs)

  states_any : (o u : Options) (j : Journal) (ms : List Mounted) → report_bytes o (map (state_line p j) ms) ≡ report_bytes u (map (state_line p j) ms)
  unfolding report_bytes
  states_any o u j [] = refl
  states_any o u j (m ∷ ms) = ap (λ (t : List ℕ). line_bytes o (state_line p j m) ++ t) (states_any o u j ms)

  lines_any : (o u : Options) (s : State) → report_bytes o (tree_lines (hosts s.tree) ++ state_lines p s) ≡ report_bytes u (tree_lines (hosts s.tree) ++ state_lines p s)
  unfolding report_bytes
  lines_any o u s =
      bytes_append o (tree_lines (hosts s.tree)) (state_lines p s)
      ∙ ((λ i. (line_bytes o tree_head ++ hosts_any o u [] (hosts s.tree) i) ++ (line_bytes o state_head ++ states_any o u s.journal (mounted s.tree) i))
      ∙ sym (bytes_append u (tree_lines (hosts s.tree)) (state_lines p s)))

  closing_any : (o u : Options) (s : State) → is_quiet s ≡ true → report_bytes o (closing_lines p s) ≡ report_bytes u (closing_lines p s)
  unfolding report_bytes
  closing_any o u s quiet =
      bytes_append o (tree_lines (hosts s.tree) ++ state_lines p s) (end_line s ∷ [])
      ∙ ((λ i. lines_any o u s i ++ ends i) ∙ sym (bytes_append u (tree_lines (hosts s.tree) ++ state_lines p s) (end_line s ∷ [])))
    where
      ends : report_bytes o (end_line s ∷ []) ≡ report_bytes u (end_line s ∷ [])
      ends =
          subst (λ (b : Bool). report_bytes o ((if b then end_quiet else end_pending s.schedule.pending (hidden_count s.tree)) ∷ [])
          ≡ report_bytes u ((if b then end_quiet else end_pending s.schedule.pending (hidden_count s.tree)) ∷ [])) (sym quiet) refl

-- If a script closes with these steps, the reports of two such runs close with the same bytes.
pub reports_close_alike : (First Second : OfRender) (p : Program) → ReportsCloseAlike First Second p
reports_close_alike First Second p bounded apart steps o u bytes others bodies more a b steady steady_too quiet quiet_too =
    let same = sync_law First Second p bounded apart (closed steps) a.lines b.lines bodies more a.run b.run steady steady_too quiet quiet_too in
    let other : RunTo AnyRender p opening (closed (all_in_sync steps)) b.run.whole =
    subst (λ (xs : List Step). RunTo AnyRender p opening xs b.run.whole) (closed_in_sync steps (step.Tree ∷ step.State ∷ [])) (any-run Second p opening (all_in_sync (closed steps)) b.run.whole b.run.runs) in (
      ends_with p First o (closed steps) bytes bodies a (closed_shows p steps opening a.run.whole (any-run First p opening (closed steps) a.run.whole a.run.runs)),
      subst (EndsWith others) (closing_any p u o b.run.whole.after quiet_too ∙ closing_same p o a.run.whole.after b.run.whole.after same quiet quiet_too)
          (ends_with p Second u (all_in_sync (closed steps)) others more b (closed_shows p (all_in_sync steps) opening b.run.whole other)),
    )
