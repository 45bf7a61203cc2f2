use Rattle.std.proofs.Common.{◌∙◌, ◌++◌, ◌∷◌, [], List, ap, arith, if◌then◌else◌, is_ok, map, sym, take, ℤ}
use Rattle.std.proofs.lemmas.List.{map-append, take_more}
use Rattle.rx_hooks.specs.declared.hook.Hook.{Hook}
use Rattle.rx_hooks.proofs.hooks.push_values.Goals as goal

pub pushing-preserved : goal.pushing-preserved
pushing-preserved c =
    let value : Hook → ℤ = λ k. k.processed.value in
    let hooks = c.args.hooks.now in
    let i = c.pushing.hook-index in
    let x = c.hook-item.result in
    let before = c.pushing.values.items in
    record {
      so_far = c.push.ensures.items
          ∙ ap (λ r. if is_ok r then before ++ value x ∷ [] else before) c.unwrap.ensures
          ∙ ap (λ (l : List ℤ). l ++ value x ∷ []) c.pushing.invariant.so_far
          ∙ ap (λ (k : Hook). map value (take i hooks) ++ value k ∷ []) c.hook-item.is
          ∙ sym (ap (λ (l : List Hook). map value l) (take_more hooks i x c.pushing-test.true) ∙ map-append value (take i hooks) _);
      room = omega (arith, c.pushing.invariant.room, c.push.ensures.capacity);
    }
