use Rattle.std.specs.Prelude.{◌≡◌, Some, None, slice_get}
use Rattle.std.proofs.Common.{refl, sym, ap, ◌∙◌}
use Rattle.std.proofs.lemmas.Option.{slice_get-get_or}
use Rattle.rx_ast.specs.Syntax.{as_function}
use Rattle.rx_check.proofs.Placing.{listed, passed, no_function}
use Rattle.rx_check.proofs.places.function_places.Goals as goal
use Rattle.rx_check.proofs.places.function_places.Goals.{in-Function+in_ok-push, in_default}

pub loop-declaration-preserved : goal.loop-declaration-preserved
loop-declaration-preserved c =
    let same = c.declarations-declaration-items.ensures in
    let (place_is, all) = c.loop-declaration.invariant in
    let at : slice_get c.args.program.now.declarations c.loop-declaration.declaration-index ≡ Some c.declaration-item.result =
    rw (← same) (slice_get-get_or c.declarations-declaration-items.result.now c.loop-declaration.declaration-index _ c.loop-declaration-test.true ∙ ap Some (sym c.declaration-item.is)) in
    elim c.match-declaration.branch [
      | in-Function+in_ok-push w ↦ (
        rw place_is refl,
        rw (w.places-is, w.in_ok-push.ensures.items, place_is)
            (listed as_function c.args.program.now.declarations c.loop-declaration.places.items c.declaration-item.result w.in-Function.field-0 c.loop-declaration.declaration-index at (rw (← c.declaration.view_is, w.in-Function.is) refl) ∙ all),
      )
      | in_default w ↦ (
        rw place_is refl,
        rw w.places-is
            (passed as_function c.args.program.now.declarations c.loop-declaration.places.items c.declaration-item.result c.loop-declaration.declaration-index at (rw (← c.declaration.view_is) (no_function c.declaration.inside.kind w.in_default.not-Function)) ∙ all),
      )
    ]
