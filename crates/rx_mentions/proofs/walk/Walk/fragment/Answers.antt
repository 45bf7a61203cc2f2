use Rattle.std.proofs.Common.{◌≡◌, ap, sym, ◌∙◌}
use Rattle.rx_ast.specs.Syntax.{slots_of}
use Rattle.rx_mentions.proofs.Depths.{slots_of-slots}
use Rattle.rx_mentions.proofs.walk.Walk.fragment.Goals as goal

pub returns : goal.returns
returns c =
    let same : slots_of c.children.result.now ≡ c.args.fragment.now = ap slots_of c.children.ensures ∙ slots_of-slots _ in
    rw (sym same) c.children-2.ensures.mentions
