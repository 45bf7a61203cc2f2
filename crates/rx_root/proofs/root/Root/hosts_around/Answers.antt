use Rattle.std.proofs.Common.{Some, length, sym, ◌∙◌, subst, eqb-true}
use Rattle.std.proofs.lemmas.Result.{IfOk-weaker}
use Rattle.rx_links.specs.Drafts.{grafted}
use Rattle.rx_fiber.specs.Reading.{IsTreeOf}
use Rattle.rx_commit.proofs.Beside.{none-told}
use Rattle.rx_root.specs.Rooted.{Rooted}
use Rattle.rx_root.proofs.root.Root.hosts_around.Goals as goal

pub returns-then-is_empty : goal.returns-then-is_empty
returns-then-is_empty c = λ old new beside left_is placed_is is sound there.
    none-told c.args.placed.now _ new (eqb-true (length c.args.placed.now) 0 (sym c.is_empty.ensures ∙ c.if-is_empty.true)) c.new.ensures.items

pub returns : goal.returns
returns c =
    IfOk-weaker c.hosts_below.result _ _
    (λ told tells old new beside left_is placed_is is sound there.
    tells new (subst (λ (v : Rooted). IsTreeOf (Some new) (grafted v.rendering.trees.draft)) (sym c.self.view_is) there) sound c.args.placed.now
    (c.in_ok-parents.ensures old new beside left_is placed_is is sound))
    c.hosts_below.ensures
