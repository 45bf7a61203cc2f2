-- What sums up a run.
use Rattle.std.proofs.Common.{◌≡◌, ◌∙◌, ℕ, List, ◌∷◌, drop, length, ap, refl}
use Rattle.rx_base.specs.Values.{Text}
use Rattle.rx_ast.specs.Syntax.{Program}
use Rattle.rx_step.specs.declared.step.Step.TheVariants as step
use Rattle.rx_elem.specs.Spots.{node_count}
use Rattle.rx_forest.specs.Hosts.{hosts}
use Rattle.rx_lines.specs.Lines.{Line, tree_head, tree_lines, report_bytes}
use Rattle.rx_gen.specs.Generated.{summary_text}
use Rattle.rx_model.specs.State.{State}
use Rattle.rx_model.specs.Stretch.{Stretch}
use Rattle.rx_model.specs.Machine.{StepTo}
use Rattle.rx_root.specs.Paying.{Pays}
use Rattle.rx_root.specs.Rooted.{Rooted}
use Rattle.rx_root.specs.Stands.{Stands}
use Rattle.rx_top.specs.Outcome.{plain, tree_bytes, summary_of}

-- the head of the lines of all hosts has five bytes
head_bytes : (lines : List Line) → drop 5 (report_bytes plain (tree_head ∷ lines)) ≡ report_bytes plain lines
unfolding report_bytes
head_bytes lines = refl

-- behind the head stand the lines of the hosts
behind_head : (s : State) → drop 5 (report_bytes plain (tree_lines (hosts s.tree))) ≡ tree_bytes s
behind_head s = head_bytes (drop 1 (tree_lines (hosts s.tree)))

-- what is read of a root after it has printed its hosts sums up what was before
pub summed : (n : ℕ) (p : Program) (s : State) (r : Stretch) (root : Rooted) (updates commits nodes : ℕ) (tree bytes : Text) → StepTo Pays p s step.Tree r → Stands p r.after root
    → updates ≡ root.updates → commits ≡ root.commits → nodes ≡ node_count r.after.tree → tree ≡ drop 5 bytes → bytes ≡ report_bytes plain r.lines
    → summary_text n updates commits nodes tree ≡ summary_of n s
summed n p s r root updates commits nodes tree bytes is stands u c m t b =
    let us : updates ≡ length s.journal.updates = u ∙ stands.updates ∙ ap (λ (q : Stretch). length q.after.journal.updates) is in
    let cs : commits ≡ s.commits = c ∙ stands.commits ∙ ap (λ (q : Stretch). q.after.commits) is in
    let ms : nodes ≡ node_count s.tree = m ∙ ap (λ (q : Stretch). node_count q.after.tree) is in
    let ts : tree ≡ tree_bytes s = t ∙ ap (λ (l : Text). drop 5 l) (b ∙ ap (λ (q : Stretch). report_bytes plain q.lines) is) ∙ behind_head s in
    ap (λ (k : ℕ). summary_text n k commits nodes tree) us ∙ ap (λ (k : ℕ). summary_text n (length s.journal.updates) k nodes tree) cs
    ∙ ap (λ (k : ℕ). summary_text n (length s.journal.updates) s.commits k tree) ms
    ∙ ap (λ (l : Text). summary_text n (length s.journal.updates) s.commits (node_count s.tree) l) ts
