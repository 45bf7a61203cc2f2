use Rattle.std.proofs.Common.{◌≡◌, true, Some, refl, sym, ap, ◌∙◌, inr}
use Rattle.rx_lists.specs.Shapes.{first}
use Rattle.rx_links.specs.Drafts.{kids_of}
use Rattle.rx_links.specs.Readers.{rest_of}
use Rattle.rx_fiber.specs.Fibers.{Fiber}
use Rattle.rx_ways.specs.Ways.{is_way}
use Rattle.rx_hook_store.specs.Store.{kept_hooks}
use Rattle.rx_causes.specs.Marks.{is_free}
use Rattle.rx_causes.proofs.Free.{free_here}
use Rattle.rx_causes.proofs.idle.leads_to_cause.Goals as goal

pub returns-then-is_free-clause-none : goal.returns-then-is_free-clause-none
returns-then-is_free-clause-none c free_is v there =
    let trees = c.args.tree.now.current in
    let i = c.args.id in
    let way = is_way c.args.scene.now.ways.now in
    let kept = kept_hooks c.args.hooks.now in
    let lanes = c.args.scene.now.lanes in
    let cut = c.args.scene.now.cut in
    let here = c.value-fiber.ensures.current c.requires.held in
    let same : c.value-fiber.result.now ≡ v = (let f : Some c.value-fiber.result.now ≡ Some v = here ∙ sym there in cc) in
    let free : is_free v.subtree ≡ true = ap (λ (u : Fiber). is_free u.subtree) (sym same) ∙ (ap is_free (sym c.subtree.ensures) ∙ (sym c.is_free.ensures ∙ c.if-is_free.true)) in
    let (own, below) = free_here trees c.facts.ensures.linked c.requires.gathered i c.requires.held v there (first (kids_of trees i)) refl (first (rest_of trees i)) refl way kept lanes cut free in
    (own, inr below)
