use Rattle.std.proofs.Common.{◌≡◌, ◌∙◌, ◌+◌, ◌++◌, None, ap, arith, drop, replicate, sym}
use Rattle.std.proofs.lemmas.Result.{IfOk-weaker}
use Rattle.rx_elem.specs.Trees.{forest}
use Rattle.rx_node.specs.MarkView.{mark_seen}
use Rattle.end_laws.specs.Trimmed.{trimmed_in}
use Rattle.rx_numbers.proofs.Ends.{all_trimmed, one_trimmed, one_vacant, vacants, whole_trimmed}
use Rattle.rx_numbers.proofs.Fixed.{fixed_trimmed}
use Rattle.rx_numbers.proofs.Fronts.{height-get, in_front}
use Rattle.rx_numbers.proofs.trimming.+trimming.Goals as goal
use Rattle.rx_numbers.proofs.trimming.+trimming.Goals.{trim_all-in-Some+else-vacant-test+in_ok-trim-in-Some+in_ok-push-in-Some-2, trim_all-in-None}

pub trim-returns-then-is_fixed : goal.trim-returns-then-is_fixed
trim-returns-then-is_fixed t c =
    IfOk-weaker c.copy.result _ _ (λ x e. e ∙ sym (fixed_trimmed c.args.node.now (sym c.is_fixed.ensures ∙ c.if-is_fixed.true))) c.copy.ensures

pub trim-returns : goal.trim-returns
trim-returns t c =
    IfOk-weaker c.new.result _ _
    (λ x e. e
    ∙ whole_trimmed c.args.node.now c.in_ok-element.element (mark_seen c.in_ok-mark.mark) (forest c.children.result.now) (forest c.fallback.result.now) (forest c.in_ok-children.children.items)
    (forest c.in_ok-fallback.fallback.items) (c.in_ok-element.ensures ∙ c.element.ensures) (c.in_ok-mark.ensures ∙ c.mark.ensures) c.children.ensures.all c.in_ok-children.ensures
    c.fallback.ensures.all c.in_ok-fallback.ensures)
    c.new.ensures

pub trim_all-trim-requires : goal.trim_all-trim-requires
trim_all-trim-requires t c = (omega (arith, height-get c.args.places.now c.loop-place.place-index c.place-item.result c.in-Some.node c.loop-place-test.true c.place-item.is c.in-Some.is), tt)

pub trim_all-loop-place-preserved : goal.trim_all-loop-place-preserved
trim_all-loop-place-preserved t c =
    let places = c.args.places.now in
    let i = c.loop-place.place-index in
    let x = c.place-item.result in
    let done = c.loop-place.all.items in
    let more = c.match-place.all.items in
    let rest = trimmed_in (forest (drop (i + 1) places)) in
    elim c.match-place.branch [
      | trim_all-in-Some+else-vacant-test+in_ok-trim-in-Some+in_ok-push-in-Some-2 w ↦
          let all : w.vacant._vacant ≡ c.loop-place.vacant = omega (arith, w.vacant-test.false, w.vacant.auto._vacant-end) in
          record {
            trees =
                ap (λ k. in_front more (vacants k rest)) w.vacant-is
                ∙ one_trimmed places done w.vacant.all.items more i c.loop-place.vacant x w.in-Some.node w.in_ok-trim-in-Some.field-0 (trimmed_in (forest places)) c.loop-place-test.true
                c.place-item.is w.in-Some.is w.in_ok-trim-in-Some.ensures (w.vacant.invariant ∙ ap (λ k. done ++ replicate k None) all)
                (ap (λ v. v.items) w.all-is ∙ w.in_ok-push-in-Some-2.ensures.items) c.loop-place.invariant.trees;
            few = omega (arith, w.vacant-is);
          }
      | trim_all-in-None w ↦
          record {
            trees =
                ap (λ v. in_front v.items (vacants c.match-place.vacant rest)) w.all-is ∙ ap (λ k. in_front done (vacants k rest)) w.vacant-is
                ∙ one_vacant places done i c.loop-place.vacant x (trimmed_in (forest places)) c.loop-place-test.true c.place-item.is w.in-None.is c.loop-place.invariant.trees;
            few = omega (arith, w.vacant-is, c.loop-place.invariant.few);
          }
    ]

pub trim_all-returns : goal.trim_all-returns
trim_all-returns t c =
    all_trimmed c.args.places.now c.loop-place.all.items c.loop-place.place-index c.loop-place.vacant (trimmed_in (forest c.args.places.now)) c.loop-place-test.false
    c.loop-place.invariant.trees
