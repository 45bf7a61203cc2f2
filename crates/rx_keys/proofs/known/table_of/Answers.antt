use Rattle.std.proofs.Common.{rules, ◌≡◌, ◌&&◌, ℤ, Some, cond, nat_eq, ap, ◌∙◌, w64}
use Rattle.std.specs.Ordering.{int_eq}
use Rattle.std.specs.HashMap.{get}
use Rattle.std.proofs.lemmas.Int.{ints, to_z-of_z}
use mir.Val.{to_z, of_z}
use Rattle.rx_elem.specs.Identity.{at_key}
use Rattle.rx_keys.specs.declared.identity.Identity.TheVariants.{Key, Index}
use Rattle.rx_keys.specs.Found.{Table, same_pair}
use Rattle.rx_keys.proofs.Finding.{found_from-more}
use Rattle.rx_keys.proofs.known.table_of.Goals as goal
use Rattle.rx_keys.proofs.known.table_of.Goals.{in-Key+in_ok-insert-in-Key, in-Index}

pub loop-place-preserved : goal.loop-place-preserved
loop-place-preserved c k o =
    elim c.match-ids-place.branch [
      | in-Key+in_ok-insert-in-Key w ↦
          let written : to_z w64 (of_z w64 w.value.result) ≡ w.in-Key.key = to_z-of_z w64 w.value.result (search (rules, ints)) ∙ w.value.ensures in
          found_from-more c.args.ids.now c.loop-place.place _ (Key w.in-Key.key w.in-Key.earlier) _ _ (at_key k o) _ c.loop-place-test.true w.in-Key.is (c.loop-place.invariant k o)
          (ap (λ (t : Table). get same_pair t (k, o)) w.table-is
          ∙ w.in_ok-insert-in-Key.ensures.updates.0 (k, o)
          ∙ ap (λ (x : ℤ). cond (int_eq x k && nat_eq w.in-Key.earlier o) (Some c.loop-place.place) (get same_pair c.loop-place.table (k, o))) written)
      | in-Index w ↦
          found_from-more c.args.ids.now c.loop-place.place _ (Index w.in-Index.field-0) _ _ (at_key k o) _ c.loop-place-test.true w.in-Index.is (c.loop-place.invariant k o)
          (ap (λ (t : Table). get same_pair t (k, o)) w.table-is)
    ]
