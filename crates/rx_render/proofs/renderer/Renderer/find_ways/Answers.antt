use Rattle.std.proofs.Common.{subst, sym}
use Rattle.rx_set.specs.Sets.{holds}
use Rattle.rx_model.specs.HooksOf.{KeepsAllHooks}
use Rattle.rx_hook_store.specs.Store.{kept_hooks}
use Rattle.rx_hook_store.specs.Working.{AreOnlyWorking}
use Rattle.rx_fiber.specs.Reading.{IsTreeOf}
use Rattle.rx_ways.specs.Ways.{is_way}
use Rattle.rx_render.specs.Rendering.{Rendering}
use Rattle.rx_render.specs.Renders.{GivesAll}
use Rattle.rx_render.proofs.Advancing.{if_ok}
use Rattle.rx_render.proofs.Covered.{others_rest, start_covered, start_undue}
use Rattle.rx_render.proofs.renderer.Renderer.find_ways.Goals as goal

pub returns-clause-idle : goal.returns-clause-idle
returns-clause-idle c =
    let kept = kept_hooks c.self.inside.hooks in
    let working = holds c.in_ok-working.working in
    let calm = others_rest working kept c.args.lanes c.args.cut c.in_ok-working.ensures.all in
    if_ok c.find_ways.result
    (λ w covers s tree next lanes_are cut_is gives is numbered own.
    start_covered (is_way w) working kept s tree (rw (lanes_are, cut_is) calm)
    (subst (λ (v : Rendering). GivesAll s tree (kept_hooks v.hooks)) (sym c.self.view_is) gives) (covers tree next (subst (λ (v : Rendering). IsTreeOf tree v.trees.current) (sym c.self.view_is) is) numbered own)) c.find_ways.ensures.covers

pub returns-clause-undue : goal.returns-clause-undue
returns-clause-undue c =
    let kept = kept_hooks c.self.inside.hooks in
    let working = holds c.in_ok-working.working in
    let calm = others_rest working kept c.args.lanes c.args.cut c.in_ok-working.ensures.all in
    if_ok c.find_ways.result
    (λ w covers p st g next lanes_are cut_is keeps is numbered own.
    start_undue (is_way w) working p st g kept
    (subst (λ (v : Rendering). KeepsAllHooks p st (kept_hooks v.hooks)) (sym c.self.view_is) keeps) (rw (lanes_are, cut_is) calm) (covers st.tree next (subst (λ (v : Rendering). IsTreeOf st.tree v.trees.current) (sym c.self.view_is) is) numbered own)) c.find_ways.ensures.covers

pub returns-clause-lead : goal.returns-clause-lead
returns-clause-lead c =
    let working = holds c.in_ok-working.working in
    if_ok c.find_ways.result
    (λ w exact tree n is on. record {
      these = working;
      work = subst (λ (v : Rendering). AreOnlyWorking c.args.lanes c.args.cut (kept_hooks v.hooks) working) c.self.view_is c.in_ok-working.ensures.only;
      leads_there = exact tree n (subst (λ (v : Rendering). IsTreeOf tree v.trees.current) (sym c.self.view_is) is) on;
    }) c.find_ways.ensures.exact
