use Rattle.std.specs.Prelude.{Result, Ok, Err, Some, IfOk, OnOk}
use Rattle.std.proofs.Common.{sym, ap, ◌∙◌, subst}
use Rattle.rx_elem.specs.Numbers.{numbered}
use Rattle.rx_links.specs.Drafts.{grafted}
use Rattle.rx_fiber.specs.Reading.{IsTreeOf}
use Rattle.rx_read.specs.NumbersView.{numbers_seen}
use Rattle.rx_render.specs.Rendering.{Rendering}
use Rattle.rx_root.specs.Rooted.{Rooted}
use Rattle.rx_root.specs.Turning.{HasNumbered, StandsAtEnd}
use Rattle.rx_root.specs.contracts.root.Root.{the_view}
use Rattle.rx_root.proofs.CommitReady.{few_at_end}
use Rattle.rx_root.proofs.root.Root.number.Goals as goal

if_ok : {A E : Type 0} {P Q : A → Type 0} (r : Result A E) → ((a : A) → P a → Q a) → IfOk r P → IfOk r Q
if_ok (Ok a) f h = f a h
if_ok (Err e) f h = tt

in_any : {A E : Type 0} {P : Type 0} (r : Result A E) → P → OnOk r P
in_any (Ok a) h = h
in_any (Err e) h = tt

pub number-self-inside-requires-clause-few : goal.number-self-inside-requires-clause-few
number-self-inside-requires-clause-few c =
    let is = c.requires.end in
    let h = subst (λ (v : Rooted). StandsAtEnd is.program is.state is.progress is.tree v) (sym c.self.view_is) is.stands in
    (is.tree, h.progress.there, few_at_end is.program is.state is.progress is.tree c.args.self.now c.facts.ensures.bounded is.stands)

pub finished-requires-clause-finished : goal.finished-requires-clause-finished
finished-requires-clause-finished c =
    let is = c.requires.end in
    let h = subst (λ (v : Rooted). StandsAtEnd is.program is.state is.progress is.tree v) (sym c.self.view_is) is.stands in (
      (numbered is.state.numbers is.tree).1,
      subst (λ n. IsTreeOf (Some (numbered n is.tree).1) (grafted c.number-self-inside.new.self.trees.draft)) h.numbers (c.number-self-inside.ensures.tree is.tree h.progress.there h.numbered),
    )

pub finished-requires-clause-current : goal.finished-requires-clause-current
finished-requires-clause-current c =
    let is = c.requires.end in
    let h = subst (λ (v : Rooted). StandsAtEnd is.program is.state is.progress is.tree v) (sym c.self.view_is) is.stands in
    (is.state.tree, subst (λ (r : Rendering). IsTreeOf is.state.tree r.trees.current) (sym c.number-self-inside.ensures.draft) h.current)

pub returns-clause-beside : goal.returns-clause-beside
returns-clause-beside c =
    if_ok c.finished.result
    (λ b told p s g tree h.
    let k = subst (λ (v : Rooted). StandsAtEnd p s g tree v) (sym c.self.view_is) h in
    told s.tree (numbered s.numbers tree).1
    (subst (λ (r : Rendering). IsTreeOf s.tree r.trees.current) (sym c.number-self-inside.ensures.draft) k.current)
    (subst (λ n. IsTreeOf (Some (numbered n tree).1) (grafted c.number-self-inside.new.self.trees.draft)) k.numbers (c.number-self-inside.ensures.tree tree k.progress.there k.numbered)))
    c.finished.ensures

pub returns-clause-numbers : goal.returns-clause-numbers
returns-clause-numbers c =
    in_any c.finished.result
    (λ p s g tree h.
    let k = subst (λ (v : Rooted). StandsAtEnd p s g tree v) (sym c.self.view_is) h in
    let old = c.self.inside.renderer in
    let e = c.number-self-inside.ensures.draft in
    let next : Rooted = record (the_view c.self.inside) { numbers = numbers_seen c.number-self-inside.result; rendering = c.number-self-inside.new.self } in
    subst (λ (o : Rooted). HasNumbered p s g tree o next) c.self.view_is
    (record {
      there = subst (λ n. IsTreeOf (Some (numbered n tree).1) (grafted c.number-self-inside.new.self.trees.draft)) k.numbers (c.number-self-inside.ensures.tree tree k.progress.there k.numbered);
      next = c.number-self-inside.ensures.numbers tree k.progress.there k.numbered ∙ ap (λ n. (numbered n tree).0) k.numbers;
      rest = ap (λ (r : Rendering). record (the_view c.self.inside) { numbers = numbers_seen c.number-self-inside.result; rendering = r })
          (e ∙ ap (λ d. record old { trees = record old.trees { draft = d } }) (sym (ap (λ (r : Rendering). r.trees.draft) e)));
    }))
