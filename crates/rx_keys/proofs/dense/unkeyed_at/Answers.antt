use Rattle.std.proofs.Common.{◌≡◌, ◌∙◌, Some, true, false, sym, ap, rules, is_none}
use Rattle.std.specs.Prelude.{slice_get}
use Rattle.std.proofs.lemmas.Option.{slice_get-get_or}
use Rattle.rx_elem.specs.Elements.{key_of}
use Rattle.rx_keys.proofs.ByKey.{unkeyed-there, unkeyed-past}
use Rattle.rx_keys.proofs.dense.unkeyed_at.Goals as goal
use Rattle.rx_keys.proofs.dense.unkeyed_at.Goals.{else-place-old-via-then-place-old+else-is_none, else-place-old-via-else-place-old}

pub returns-then-is_none : goal.returns-then-is_none
returns-then-is_none c =
    let there : slice_get c.args.old.now c.args.place ≡ Some c.index-old-place.result =
    slice_get-get_or c.args.old.now c.args.place c.index-old-place.result c.if-place-old.true ∙ ap Some (sym c.index-old-place.is) in
    let none : true ≡ is_none (key_of c.index-old-place.result) = search rules in
    unkeyed-there c.args.old.now c.args.place c.index-old-place.result true there none

pub returns : goal.returns
returns c =
    elim c.else-place-old.branch [
      | else-place-old-via-then-place-old+else-is_none w ↦
          let there : slice_get c.args.old.now c.args.place ≡ Some w.index-old-place.result =
          slice_get-get_or c.args.old.now c.args.place w.index-old-place.result w.if-place-old.true ∙ ap Some (sym w.index-old-place.is) in
          let some : false ≡ is_none (key_of w.index-old-place.result) = search rules in
          unkeyed-there c.args.old.now c.args.place w.index-old-place.result false there some
      | else-place-old-via-else-place-old w ↦ unkeyed-past c.args.old.now c.args.place w.if-place-old.false
    ]
