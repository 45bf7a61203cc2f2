use Rattle.std.proofs.Common.{◌+◌, ◌<◌, ◌≤◌, drop, sym, subst}
use Rattle.std.specs.Prelude.{IfSome}
use Rattle.std.proofs.lemmas.Result.{IfOk-weaker}
use Rattle.choice_laws.specs.Choosing.{Fit}
use Rattle.rx_verify.specs.Ends.{TellsEnd, TellsEndOf}
use Rattle.rx_verify.proofs.Rendering.{told-by, yield-judges, yield-stands}
use Rattle.rx_verify.proofs.turns.go_on.Goals as goal

pub finish-requires-clause-in_turn : goal.finish-requires-clause-in_turn
finish-requires-clause-in_turn g c =
    let p = c.args.checked.now in
    let t = c.requires.in_turn in
    let told = told-by p c.args.budget c.args.plain.now c.slice-slice.result c.units.result c.unwrap_or-used.result c.lanes.result c.none.result c.unwrap_or-lanes.result c.units.ensures c.unwrap_or-used.ensures c.lanes.ensures c.unwrap_or-lanes.ensures (c.slice-slice.ensures p) in
    let found = rw c.in-Some.is at c.in_ok-counts.ensures.found in
    (c.args.budget, t, subst (λ z. Fit p t.progress z (record { units = c.in-Some.counts.units; bodies = c.in-Some.counts.bodies })) (told.slices t.state t.progress t.stands) (found.1 p t.progress (told.units t.state t.progress t.stands) (sym c.most_units-bound.ensures)))

pub returns-in-Some-clause-judged : goal.returns-in-Some-clause-judged
returns-in-Some-clause-judged g c =
    let p = c.args.checked.now in
    let told = told-by p c.args.budget c.args.plain.now c.slice-slice.result c.units.result c.unwrap_or-used.result c.lanes.result c.none.result c.unwrap_or-lanes.result c.units.ensures c.unwrap_or-used.ensures c.lanes.ensures c.unwrap_or-lanes.ensures (c.slice-slice.ensures p) in
    let found = rw c.in-Some.is at c.in_ok-counts.ensures.found in
    IfOk-weaker c.finish.result _ _
    (λ agrees judged script left follow f.
    let s = f.render.state in
    let x = f.render.progress in
    judged script c.args.budget left follow f (subst (λ z. Fit p x z (record { units = c.in-Some.counts.units; bodies = c.in-Some.counts.bodies })) (told.slices s x f.stands) (found.1 p x (told.units s x f.stands) (sym c.most_units-bound.ensures)))
    (subst (λ l. TellsEnd l (record { units = c.in-Some.counts.units; bodies = c.in-Some.counts.bodies }) (drop c.args.place.now.bytes c.args.report.now)) (told.lanes_are s x f.stands) found.0)) c.finish.ensures.judged

pub returns-in-None-clause-judged : goal.returns-in-None-clause-judged
returns-in-None-clause-judged g c = λ script left follow f.
    let p = c.args.checked.now in
    let told = told-by p c.args.budget c.args.plain.now c.slice-slice.result c.units.result c.unwrap_or-used.result c.lanes.result c.none.result c.unwrap_or-lanes.result c.units.ensures c.unwrap_or-used.ensures c.lanes.ensures c.unwrap_or-lanes.ensures (c.slice-slice.ensures p) in
    let none = rw c.in-None.is at c.in_ok-counts.ensures.none in
    let s = f.render.state in
    let x = f.render.progress in
    yield-judges p c.known.ensures script c.args.report.now c.args.place.now c.args.budget left c.args.plain.now c.yields.new.plain c.slice-slice.result c.unwrap_or-used.result c.yields.result
    (record {
      yes =
          λ e.
          let r = c.yields.ensures.yes e in
          (r.0, r.1, subst (λ b. c.unwrap_or-used.result + r.0 < b) c.most_units-bound.ensures r.2, r.3);
      not = λ e. subst (λ b. IfSome c.slice-slice.result (λ n. b ≤ c.unwrap_or-used.result + n)) c.most_units-bound.ensures (c.yields.ensures.not e);
      slices = told.slices;
      units = told.units;
    }) c.requires.place c.requires.room.commits follow f
    (λ d fit tells.
    none p x d (told.units s x f.stands) (sym c.most_units-bound.ensures) (subst (λ z. Fit p x z d) (sym (told.slices s x f.stands)) fit)
    (subst (λ l. TellsEndOf (c.commits.result + 1) l d (drop c.args.place.now.bytes c.args.report.now)) (sym (told.lanes_are s x f.stands)) (subst (λ n. TellsEndOf (n + 1) x.lanes d (drop c.args.place.now.bytes c.args.report.now)) (sym c.commits.ensures) tells)))

pub returns-in-None-clause-stands : goal.returns-in-None-clause-stands
returns-in-None-clause-stands g c =
    let p = c.args.checked.now in
    let told = told-by p c.args.budget c.args.plain.now c.slice-slice.result c.units.result c.unwrap_or-used.result c.lanes.result c.none.result c.unwrap_or-lanes.result c.units.ensures c.unwrap_or-used.ensures c.lanes.ensures c.unwrap_or-lanes.ensures (c.slice-slice.ensures p) in
    yield-stands p c.args.budget c.args.plain.now c.yields.new.plain c.slice-slice.result c.unwrap_or-used.result c.yields.result
    (record {
      yes =
          λ e.
          let r = c.yields.ensures.yes e in
          (r.0, r.1, subst (λ b. c.unwrap_or-used.result + r.0 < b) c.most_units-bound.ensures r.2, r.3);
      not = λ e. subst (λ b. IfSome c.slice-slice.result (λ n. b ≤ c.unwrap_or-used.result + n)) c.most_units-bound.ensures (c.yields.ensures.not e);
      slices = told.slices;
      units = told.units;
    }) c.requires.in_turn
