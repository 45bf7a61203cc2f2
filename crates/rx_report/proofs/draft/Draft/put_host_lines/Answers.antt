use Rattle.std.proofs.Common.{rules, ◌≡◌, ℕ, ◌+◌, ◌<◌, ◌^◌, ◌++◌, List, ◌∷◌, Option, Some, reverse, refl, sym, ap, ◌∙◌, subst, length, arith}
use Rattle.std.proofs.lemmas.List.{length-reverse}
use Rattle.rx_base.specs.Values.{Text}
use Rattle.rx_forest.specs.Forests.{HostForest}
use Rattle.rx_forest.specs.Hosts.{Host}
use Rattle.rx_host.specs.Kept.{forest_kept}
use Rattle.rx_lines.specs.Lines.{Line, line_bytes, tree_host}
use Rattle.rx_report.specs.Walks.{ToGo}
use Rattle.rx_report.proofs.Bounded.{all_listed}
use Rattle.rx_report.proofs.Progress.{Progress, begins, Turn, turn, goes_on, ends}
use Rattle.rx_report.proofs.draft.Draft.put_host_lines.Goals as goal

pub hosts-init : goal.hosts-init
hosts-init c = record {
  done = refl;
  fits = search rules;
  lines = λ o all t is.
      let f : HostForest = forest_kept c.args.hosts.now in
      subst (λ (ns : List ℕ). Progress f o all c.args.self.now.begun c.args.self.now.begun (reverse ns) c.first_child-next.result 0) (sym c.no_numbers-above.ensures)
      (begins f o all c.args.self.now.begun c.first_child-next.result t is c.first_child-next.ensures);
}

pub returns-in_default-clause-put : goal.returns-in_default-clause-put
returns-in_default-clause-put c = λ o all t is.
    let f : HostForest = forest_kept c.args.hosts.now in
    ends f o all c.args.self.now.begun c.hosts.self.begun (reverse c.hosts.above.items) c.hosts._listed
    (subst (λ (next : Option ℕ). Progress f o all c.args.self.now.begun c.hosts.self.begun (reverse c.hosts.above.items) next c.hosts._listed) c.in_default.is (c.hosts.invariant.lines o all t is))

pub hosts-preserved : goal.hosts-preserved
hosts-preserved c = record {
  done = c.put_host_line.ensures.done ∙ c.hosts.invariant.done;
  fits = search rules;
  lines = λ o all t is.
      let f : HostForest = forest_kept c.args.hosts.now in
      let n : ℕ = c.in-Some.host in
      let fits : n < 2 ^ 64 = omega arith in
      let p : Progress f o all c.args.self.now.begun c.hosts.self.begun (reverse c.hosts.above.items) (Some n) c.hosts._listed =
      subst (λ (next : Option ℕ). Progress f o all c.args.self.now.begun c.hosts.self.begun (reverse c.hosts.above.items) next c.hosts._listed) c.in-Some.is (c.hosts.invariant.lines o all t is) in
      let now : Turn f (reverse c.hosts.above.items) n p.left p.left_lines = turn f (reverse c.hosts.above.items) n p.left p.left_lines p.to_go in
      let deep : c.len.result + 1 ≡ length (reverse c.hosts.above.items) + 1 = omega (arith, length-reverse c.hosts.above.items, c.hosts.above.ok.0, c.len.ensures) in
      let wrote : c.put_host_line.new.self.begun ≡ c.hosts.self.begun ++ line_bytes o (tree_host (length (reverse c.hosts.above.items) + 1) now.host) =
      c.in_ok-put_host_line.ensures.put o now.host now.held now.by_name ∙ ap (λ (k : ℕ). c.hosts.self.begun ++ line_bytes o (tree_host k now.host)) deep in
      let line : Line = tree_host (length (reverse c.hosts.above.items) + 1) now.host in
      let turned : ToGo f (reverse c.hosts.above.items) (Some n) (now.host ∷ now.others) (line ∷ now.other_lines) =
      subst (λ (hs : List Host). ToGo f (reverse c.hosts.above.items) (Some n) hs (line ∷ now.other_lines)) now.hosts_are
      (subst (λ (ls : List Line). ToGo f (reverse c.hosts.above.items) (Some n) p.left ls) now.lines_are p.to_go) in
      let to_go : ToGo f (reverse c.next_host.new.above.items) c.in_ok-next.next now.others now.other_lines =
      c.in_ok-next.ensures now.host now.others line now.other_lines turned in
      goes_on f o all c.args.self.now.begun c.hosts.self.begun c.put_host_line.new.self.begun (reverse c.hosts.above.items) (reverse c.next_host.new.above.items) n c.in_ok-next.next c.hosts._listed p now fits
      wrote to_go;
}

pub returns-clause-put : goal.returns-clause-put
returns-clause-put c = λ o all t is.
    let f : HostForest = forest_kept c.args.hosts.now in
    let old : Text = c.args.self.now.begun in
    let above : List ℕ = reverse c.hosts.above.items in
    all_listed f o all old c.hosts.self.begun above c.hosts.next c.hosts._listed t (c.hosts.invariant.lines o all t is) c.hosts.invariant.fits c.hosts-test.false
