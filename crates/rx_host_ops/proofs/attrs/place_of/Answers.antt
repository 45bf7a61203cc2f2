use Rattle.std.proofs.Common.{sym, ap, ◌∙◌, is_le, nat_cmp}
use Rattle.std.specs.Cmp.Lexicographic.{slice_cmp}
use Rattle.rx_host_ops.proofs.Sorting.{put-here, put-behind}
use Rattle.rx_host_ops.proofs.attrs.place_of.Goals as goal

pub returns-then-le-clause-put : goal.returns-then-le-clause-put
returns-then-le-clause-put c a e =
    put-here c.args.attrs.now c.loop-place.place c.index-attrs-place.result a c.loop-place-test.true c.index-attrs-place.is
    (ap (λ n. is_le (slice_cmp nat_cmp n c.index-attrs-place.result.now.name)) (e ∙ sym c.text.ensures)
    ∙ ap (λ n. is_le (slice_cmp nat_cmp c.text.result.now n)) (ap (λ r. r.now.name) c.index-attrs-place.is ∙ sym c.text-in-loop-place.ensures)
    ∙ sym c.le.ensures ∙ c.if-le.true)
    (c.loop-place.invariant a e)

pub loop-place-preserved : goal.loop-place-preserved
loop-place-preserved c a e =
    put-behind c.args.attrs.now c.loop-place.place c.index-attrs-place.result a c.loop-place-test.true c.index-attrs-place.is
    (ap (λ n. is_le (slice_cmp nat_cmp n c.index-attrs-place.result.now.name)) (e ∙ sym c.text.ensures)
    ∙ ap (λ n. is_le (slice_cmp nat_cmp c.text.result.now n)) (ap (λ r. r.now.name) c.index-attrs-place.is ∙ sym c.text-in-loop-place.ensures)
    ∙ sym c.le.ensures ∙ c.if-le.false)
    (c.loop-place.invariant a e)
