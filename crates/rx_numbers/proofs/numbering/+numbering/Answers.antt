use Rattle.std.proofs.Common.{◌≡◌, ◌∙◌, ◌+◌, ap, arith, drop, subst, sym}
use Rattle.std.proofs.lemmas.Result.{IfOk-weaker}
use Rattle.rx_elem.specs.Numbers.{numbered, numbered_in}
use Rattle.rx_elem.specs.Trees.{forest}
use Rattle.rx_node.specs.MarkView.{mark_seen}
use Rattle.rx_numbers.specs.Room.{FitIn, numbers_seen}
use Rattle.rx_numbers.proofs.Fixed.{fixed_numbered}
use Rattle.rx_numbers.proofs.Fronts.{all_numbered, height-get, in_front, none_counted, none_numbered, one_counted, one_numbered}
use Rattle.rx_numbers.proofs.Rising.{behind_is, children_fit, mark_fits, one_fits, whole_is}
use Rattle.rx_numbers.proofs.numbering.+numbering.Goals as goal
use Rattle.rx_numbers.proofs.numbering.+numbering.Goals.{number_all-in-Some+in_ok-number-in-Some+in_ok-push-in-Some, number_all-in-None+in_ok-push-in-None}

pub number-returns-then-is_fixed-clause-tree : goal.number-returns-then-is_fixed-clause-tree
number-returns-then-is_fixed-clause-tree t c =
    let same = fixed_numbered (numbers_seen c.args.next.now) c.args.node.now (sym c.is_fixed.ensures ∙ c.if-is_fixed.true) in
    IfOk-weaker c.copy.result _ _ (λ x e. e ∙ sym (ap (λ p. p.1) same)) c.copy.ensures

pub number-returns-then-is_fixed-clause-next : goal.number-returns-then-is_fixed-clause-next
number-returns-then-is_fixed-clause-next t c =
    let same = fixed_numbered (numbers_seen c.args.next.now) c.args.node.now (sym c.is_fixed.ensures ∙ c.if-is_fixed.true) in
    IfOk-weaker c.copy.result _ _ (λ x e. sym (ap (λ p. p.0) same)) c.copy.ensures

pub number-number_mark-requires : goal.number-number_mark-requires
number-number_mark-requires t c = mark_fits (numbers_seen c.args.next.now) c.args.node.now (mark_seen c.mark.result.now) c.mark.ensures c.requires

pub number-number_all-requires : goal.number-number_all-requires
number-number_all-requires t c = (
  omega (arith, c.children.ensures.lower),
  children_fit (numbers_seen c.args.next.now) (numbers_seen c.number_mark.new.next) c.args.node.now (mark_seen c.mark.result.now) (forest c.children.result.now) c.mark.ensures
      c.in_ok-mark.ensures.next c.children.ensures.all c.requires,
)

pub number-number_all-requires-2 : goal.number-number_all-requires-2
number-number_all-requires-2 t c =
    let behind =
    behind_is (numbers_seen c.args.next.now) (numbers_seen c.number_mark.new.next) (numbers_seen c.number_all.new.next) c.args.node.now (mark_seen c.mark.result.now)
    (forest c.children.result.now) (forest c.fallback.result.now) c.mark.ensures c.in_ok-mark.ensures.next c.children.ensures.all c.in_ok-children.ensures.next c.fallback.ensures.all in
    (omega (arith, c.fallback.ensures.lower), subst FitIn (sym behind) c.requires)

pub number-returns-clause-tree : goal.number-returns-clause-tree
number-returns-clause-tree t c =
    IfOk-weaker c.new.result _ _
    (λ x e. e
    ∙ whole_is (numbers_seen c.args.next.now) (numbers_seen c.number_mark.new.next) (numbers_seen c.number_all.new.next) c.args.node.now c.in_ok-element.element (mark_seen c.mark.result.now)
    (mark_seen c.in_ok-mark.mark) (forest c.in_ok-children.children.items) (forest c.in_ok-fallback.fallback.items) (forest c.children.result.now) (forest c.fallback.result.now)
    (c.in_ok-element.ensures ∙ c.element.ensures) c.mark.ensures c.in_ok-mark.ensures.mark c.in_ok-mark.ensures.next c.children.ensures.all c.in_ok-children.ensures.trees
    c.in_ok-children.ensures.next c.fallback.ensures.all c.in_ok-fallback.ensures.trees)
    c.new.ensures

pub number-returns-clause-next : goal.number-returns-clause-next
number-returns-clause-next t c =
    IfOk-weaker c.new.result _ _
    (λ x e. c.in_ok-fallback.ensures.next
    ∙ behind_is (numbers_seen c.args.next.now) (numbers_seen c.number_mark.new.next) (numbers_seen c.number_all.new.next) c.args.node.now (mark_seen c.mark.result.now)
    (forest c.children.result.now) (forest c.fallback.result.now) c.mark.ensures c.in_ok-mark.ensures.next c.children.ensures.all c.in_ok-children.ensures.next c.fallback.ensures.all)
    c.new.ensures

pub number_all-number-requires : goal.number_all-number-requires
number_all-number-requires t c = (
  omega (arith, height-get c.args.places.now c.loop-place.place-index c.place-item.result c.in-Some.node c.loop-place-test.true c.place-item.is c.in-Some.is),
  one_fits (numbers_seen c.loop-place.next) (numbered_in (numbers_seen c.args.next.now) (forest c.args.places.now)).0 c.args.places.now c.loop-place.place-index c.place-item.result c.in-Some.node
      c.loop-place-test.true c.place-item.is c.in-Some.is c.loop-place.invariant.next c.requires,
)

pub number_all-loop-place-preserved : goal.number_all-loop-place-preserved
number_all-loop-place-preserved t c =
    let before = numbers_seen c.loop-place.next in
    let after = numbers_seen c.match-place.next in
    let places = c.args.places.now in
    let i = c.loop-place.place-index in
    let x = c.place-item.result in
    let done = c.loop-place.all.items in
    let more = c.match-place.all.items in
    let whole = numbered_in (numbers_seen c.args.next.now) (forest places) in
    elim c.match-place.branch [
      | number_all-in-Some+in_ok-number-in-Some+in_ok-push-in-Some w ↦
          let now : after ≡ (numbered before w.in-Some.node).0 = ap numbers_seen w.next-is ∙ w.in_ok-number-in-Some.ensures.next in
          record {
            trees =
                one_numbered before after places done more i x w.in-Some.node w.in_ok-number-in-Some.field-0 whole.1 c.loop-place-test.true c.place-item.is w.in-Some.is
                w.in_ok-number-in-Some.ensures.tree now (ap (λ v. v.items) w.all-is ∙ w.in_ok-push-in-Some.ensures.items) c.loop-place.invariant.trees;
            next = one_counted before after places i x w.in-Some.node whole.0 c.loop-place-test.true c.place-item.is w.in-Some.is now c.loop-place.invariant.next;
          }
      | number_all-in-None+in_ok-push-in-None w ↦
          record {
            trees =
                ap (λ p. in_front more (numbered_in (numbers_seen p) (forest (drop (i + 1) places))).1) w.next-is
                ∙ none_numbered before places done more i x whole.1 c.loop-place-test.true c.place-item.is w.in-None.is (ap (λ v. v.items) w.all-is ∙ w.in_ok-push-in-None.ensures.items)
                c.loop-place.invariant.trees;
            next =
                ap (λ p. (numbered_in (numbers_seen p) (forest (drop (i + 1) places))).0) w.next-is
                ∙ none_counted before places i x whole.0 c.loop-place-test.true c.place-item.is w.in-None.is c.loop-place.invariant.next;
          }
    ]

pub number_all-returns-clause-trees : goal.number_all-returns-clause-trees
number_all-returns-clause-trees t c =
    all_numbered (numbers_seen c.loop-place.next) c.args.places.now c.loop-place.all.items c.loop-place.place-index (numbered_in (numbers_seen c.args.next.now) (forest c.args.places.now)).1
    c.loop-place-test.false c.loop-place.invariant.trees
