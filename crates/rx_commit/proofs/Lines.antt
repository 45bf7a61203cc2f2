-- The lines of a prepared commit.
use Rattle.std.proofs.Common.{◌≡◌, ℕ, ℤ, false, List, [], ◌∷◌, ◌++◌, Option, sym, ap, ◌∙◌}
use Rattle.std.specs.Prelude.{map, if◌then◌else◌}
use Rattle.rx_lane.specs.declared.lane.Lane.TheVariants as lane
use Rattle.rx_lane.specs.Lanes.{Lanes, has, lanes_where}
use Rattle.rx_lane.specs.SetLaws.{has-lanes_where}
use Rattle.rx_elem.specs.Elements.{null}
use Rattle.rx_elem.specs.Trees.{Node, node, none, plain}
use Rattle.rx_elem.specs.Compare.{compare_trees}
use Rattle.rx_effect.specs.declared.log.LogLine.{LogLine}
use Rattle.rx_effect.specs.EffectLog.{Passive, layout_log}
use Rattle.rx_forest.specs.declared.op.HostOp.{HostOp}
use Rattle.rx_forest.specs.HostOps.{host_ops}
use Rattle.rx_meaning.specs.Outcome.{newly_caught}
use Rattle.rx_lines.specs.Lines.{Counts, Line, Written, caught, committed, operated, logged, with_line}
use Rattle.rx_commit.specs.Shown.{Prepared, Prepares}
use Rattle.rx_commit.specs.Written.{sync_lines, lines_of}
use Rattle.rx_writing.specs.Written.{GoesOn, passive_lines, with_lines}
use Rattle.rx_writing.proofs.Behind.{goes_on-line, with_lines-nil, with_lines-append, with_lines-cons}

-- a set of lanes made anew has the lane Sync if the set has it
pub sync-anew : (lanes : Lanes) (passive : Passive) → sync_lines lanes passive ≡ sync_lines (lanes_where (has lanes)) passive
sync-anew lanes passive = ap (λ b. if b then passive_lines passive else []) (sym (has-lanes_where (has lanes) lane.Sync))

-- a commit without the lane Sync runs no passive effect itself
pub sync-none : (lanes : Lanes) (passive : Passive) (r : Written) → has lanes lane.Sync ≡ false → r ≡ with_lines r (sync_lines lanes passive)
sync-none lanes passive r e = sym (with_lines-nil r) ∙ ap (λ b. with_lines r (if b then passive_lines passive else [])) (sym e)

-- a report that got the line of a commit, whatever its tree, went on
pub goes_on-commit : (r a : Written) (number : ℕ) (lanes : Lanes) (counts : Counts) → ((tree : Node) → a ≡ with_line r (committed number lanes counts tree)) → GoesOn r a
goes_on-commit r a number lanes counts is =
    let some = node null plain none none in
    goes_on-line r a (committed number lanes counts some) (is some)

-- a line, then operations, then what is caught, and then effects
pub own-parts : (r a b m c : Written) (l : Line) (ops xs : List HostOp) (vs ws : List ℤ) (log ys : List LogLine) → xs ≡ ops → ws ≡ vs → ys ≡ log → a ≡ with_line r l
    → b ≡ with_lines a (map operated xs) → m ≡ with_lines b (map caught ws) → c ≡ with_lines m (map logged ys)
    → c ≡ with_lines r (l ∷ (map operated ops ++ (map caught vs ++ map logged log)))
own-parts r a b m c l ops xs vs ws log ys d v e f g q h =
    h
    ∙ ap (λ (ls : List LogLine). with_lines m (map logged ls)) e
    ∙ ap (λ (w : Written). with_lines w (map logged log)) (q ∙ ap (λ (zs : List ℤ). with_lines b (map caught zs)) v)
    ∙ sym (with_lines-append b (map caught vs) (map logged log))
    ∙ ap (λ (w : Written). with_lines w (map caught vs ++ map logged log))
    (g ∙ ap (λ (os : List HostOp). with_lines a (map operated os)) d ∙ ap (λ (w : Written). with_lines w (map operated ops)) f)
    ∙ sym (with_lines-append (with_line r l) (map operated ops) (map caught vs ++ map logged log))
    ∙ sym (with_lines-cons r l (map operated ops ++ (map caught vs ++ map logged log)))

-- the lines of a prepared commit are those of the commit that it prepares
pub prepared-lines : (number : ℕ) (lanes : Lanes) (counts : Counts) (old : Option Node) (new : Node) (x : Prepared) → Prepares old new x
    → (committed number lanes counts new ∷ (map operated x.ops ++ (map caught x.caught ++ map logged x.layout))) ++ sync_lines lanes x.passive ≡ lines_of number lanes counts old new
prepared-lines number lanes counts old new x is =
    ap (λ (ops : List HostOp). (committed number lanes counts new ∷ (map operated ops ++ (map caught x.caught ++ map logged x.layout))) ++ sync_lines lanes x.passive) is.ops_are
    ∙ ap (λ (vs : List ℤ). (committed number lanes counts new ∷ (map operated (host_ops old new) ++ (map caught vs ++ map logged x.layout))) ++ sync_lines lanes x.passive) is.caught_is
    ∙ ap (λ (log : List LogLine). (committed number lanes counts new ∷ (map operated (host_ops old new) ++ (map caught (newly_caught old new) ++ map logged log))) ++ sync_lines lanes x.passive) is.layout_is
    ∙ ap (λ (p : Passive). (committed number lanes counts new ∷ (map operated (host_ops old new) ++ (map caught (newly_caught old new) ++ map logged (layout_log (compare_trees old new))))) ++ sync_lines lanes p) is.passive_is

-- its own lines, and those of the passive effects that it runs itself, are all its lines
pub commit-lines : (number : ℕ) (lanes : Lanes) (counts : Counts) (old : Option Node) (new : Node) (x : Prepared) (r a b : Written) → Prepares old new x
    → a ≡ with_lines r (committed number (lanes_where (has lanes)) counts new ∷ (map operated x.ops ++ (map caught x.caught ++ map logged x.layout))) → b ≡ with_lines a (sync_lines lanes x.passive)
    → b ≡ with_lines r (lines_of number (lanes_where (has lanes)) counts old new)
commit-lines number lanes counts old new x r a b is own sync =
    let first : List Line = committed number (lanes_where (has lanes)) counts new ∷ (map operated x.ops ++ (map caught x.caught ++ map logged x.layout)) in
    sync
    ∙ ap (λ (w : Written). with_lines w (sync_lines lanes x.passive)) own
    ∙ sym (with_lines-append r first (sync_lines lanes x.passive))
    ∙ ap (λ (ls : List Line). with_lines r (first ++ ls)) (sync-anew lanes x.passive)
    ∙ ap (with_lines r) (prepared-lines number (lanes_where (has lanes)) counts old new x is)
