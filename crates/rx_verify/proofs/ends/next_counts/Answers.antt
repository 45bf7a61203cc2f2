use Rattle.std.proofs.Common.{◌≡◌, ◌++◌, ◌∷◌, [], sym, ◌∙◌}
use Rattle.rx_lane.specs.Lanes.{has, lanes_where}
use Rattle.rx_lines.specs.Lines.{committed, deferred}
use Rattle.rx_verify.proofs.Heads.{commit_head, cut-empty, defer_head, head-is, if-none, if-some, no_counts, some_tree, tells-commit, tells-defer, tells-nothing}
use Rattle.rx_verify.proofs.ends.next_counts.Goals as goal

pub returns-in-Some-counts_behind-clause-found : goal.returns-in-Some-counts_behind-clause-found
returns-in-Some-counts_behind-clause-found c =
    let lanes = lanes_where (has c.args.lanes) in
    let line = committed c.args.commit lanes no_counts some_tree in
    let head : c.bytes.result.now ≡ commit_head c.args.commit lanes ++ 10 ∷ [] = c.bytes.ensures ∙ head-is _ _ line c.new-head.ensures (c.in_ok-commit_line.ensures.written some_tree) in
    tells-commit c.args.commit lanes _ _ c.in-Some.line.now c.without_end.result.now (sym c.in-Some.ensures) (c.without_end.ensures (commit_head c.args.commit lanes) head) c.in-Some-counts_behind.ensures.found

pub returns-clause-found : goal.returns-clause-found
returns-clause-found c =
    let lanes = lanes_where (has c.args.lanes) in
    let line = committed c.args.commit lanes no_counts some_tree in
    let empty = cut-empty _ _ _ line c.new-head.ensures (c.in_ok-commit_line.ensures.written some_tree) c.cut.ensures in
    let head : c.bytes-2.result.now ≡ defer_head lanes ++ 10 ∷ [] = c.bytes-2.ensures ∙ head-is _ _ (deferred lanes no_counts) empty c.in_ok-defer_line.ensures.written in
    if-some c.counts_behind-2.result
    (λ told is. tells-defer lanes _ _ c.in-Some.line.now c.without_end-2.result.now (sym c.in-Some.ensures) (c.without_end-2.ensures (defer_head lanes) head) is) c.counts_behind-2.ensures.found

pub returns-clause-none : goal.returns-clause-none
returns-clause-none c =
    let lanes = lanes_where (has c.args.lanes) in
    let line = committed c.args.commit lanes no_counts some_tree in
    let head : c.bytes.result.now ≡ commit_head c.args.commit lanes ++ 10 ∷ [] = c.bytes.ensures ∙ head-is _ _ line c.new-head.ensures (c.in_ok-commit_line.ensures.written some_tree) in
    let empty = cut-empty _ _ _ line c.new-head.ensures (c.in_ok-commit_line.ensures.written some_tree) c.cut.ensures in
    let other : c.bytes-2.result.now ≡ defer_head lanes ++ 10 ∷ [] = c.bytes-2.ensures ∙ head-is _ _ (deferred lanes no_counts) empty c.in_ok-defer_line.ensures.written in
    if-none c.counts_behind-2.result
    (λ never units bodies small low.
    tells-nothing c.args.commit lanes (record { units = units; bodies = bodies }) _ c.in-Some.line.now c.without_end.result.now c.without_end-2.result.now (sym c.in-Some.ensures)
    (c.without_end.ensures (commit_head c.args.commit lanes) head) (c.without_end-2.ensures (defer_head lanes) other) (c.in_default-counts_behind.ensures.none units bodies small low) (never units bodies small low))
    c.counts_behind-2.ensures.none
