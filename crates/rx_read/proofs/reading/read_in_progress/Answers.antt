use Rattle.std.proofs.Common.{◌≡◌, Some, None, sym, ◌∙◌, subst}
use Rattle.rx_fiber.specs.Reading.{IsTreeOf}
use Rattle.end_laws.specs.Trimmed.{trimmed}
use Rattle.rx_read.proofs.Links.{from_draft}
use Rattle.rx_read.proofs.reading.read_in_progress.Goals as goal

pub unreachable-requires : goal.unreachable-requires
unreachable-requires c =
    let t = c.args.tree.now in
    let l = from_draft t c.facts.ensures.fits c.facts.ensures.linked c.in_progress.result c.in_progress.ensures in
    let e = c.in_ok-node.ensures (Some c.requires.0) (subst (IsTreeOf (Some c.requires.0)) (sym l.0) c.requires.1) in
    let q : None ≡ Some (trimmed c.requires.0) = sym c.in-None.is ∙ e in
    cc

pub returns : goal.returns
returns c x tree =
    let t = c.args.tree.now in
    let l = from_draft t c.facts.ensures.fits c.facts.ensures.linked c.in_progress.result c.in_progress.ensures in
    let e = c.in_ok-node.ensures (Some x) (subst (IsTreeOf (Some x)) (sym l.0) tree) in
    let q : Some c.in-Some.node ≡ Some (trimmed x) = sym c.in-Some.is ∙ e in
    cc
