use Rattle.std.proofs.Common.{◌≡◌, ◌++◌, ◌∷◌, [], Some, None, decimal, append_assoc, ◌∙◌, true}
use Rattle.std.specs.Prelude.{codes}
use Rattle.std.proofs.lemmas.Bool.Decides.{Decides-eqb}
use Rattle.std.proofs.lemmas.Slice.Eq.{strip_prefix_is}
use Rattle.rx_lines.specs.Lines.{counts_text}
use Rattle.rx_given.proofs.Digits.{bodies_told, end_told, more_told, none_of, some_of, told}
use Rattle.rx_given.proofs.counts.counts_behind.Goals as goal

pub returns-in_err-strip_prefix-clause-none : goal.returns-in_err-strip_prefix-clause-none
returns-in_err-strip_prefix-clause-none c =
    rw c.from_residual.ensures
    (λ u b small low tells.
    strip_prefix_is Decides-eqb c.args.line.now c.args.text.now None c.in_err-strip_prefix.ensures.cases (counts_text true (record { units = u; bodies = b }) ++ 10 ∷ [])
    (tells ∙ append_assoc c.args.text.now (counts_text true (record { units = u; bodies = b })) (10 ∷ [])))

pub returns-in_err-behind-2-clause-none : goal.returns-in_err-behind-2-clause-none
returns-in_err-behind-2-clause-none c =
    let line = c.args.line.now in
    let text = c.args.text.now in
    let some = c.in_ok-strip_prefix.field-0.now in
    let first : line ≡ text ++ some = strip_prefix_is Decides-eqb line text (Some c.in_ok-strip_prefix.field-0) c.in_ok-strip_prefix.ensures.cases in
    let units : some ≡ codes " units " ++ c.in_ok-behind.behind.now = strip_prefix_is Decides-eqb some (codes " units ") (Some c.in_ok-behind.behind) c.in_ok-behind.ensures.cases in
    rw c.from_residual-in_err-behind-2.ensures
    (λ u b small low tells.
    strip_prefix_is Decides-eqb c.in_ok-units.behind.now (codes "bodies ") None c.in_err-behind-2.ensures.cases (decimal b ++ 10 ∷ [])
    (more_told line text some c.in_ok-behind.behind.now c.in_ok-units.behind.now c.in_ok-units.units u b c.in_ok-units.ensures.small small first units c.in_ok-units.ensures.found tells))

pub returns-in_err-bodies-clause-none : goal.returns-in_err-bodies-clause-none
returns-in_err-bodies-clause-none c =
    let line = c.args.line.now in
    let text = c.args.text.now in
    let some = c.in_ok-strip_prefix.field-0.now in
    let first : line ≡ text ++ some = strip_prefix_is Decides-eqb line text (Some c.in_ok-strip_prefix.field-0) c.in_ok-strip_prefix.ensures.cases in
    let units : some ≡ codes " units " ++ c.in_ok-behind.behind.now = strip_prefix_is Decides-eqb some (codes " units ") (Some c.in_ok-behind.behind) c.in_ok-behind.ensures.cases in
    let more : c.in_ok-units.behind.now ≡ codes "bodies " ++ c.in_ok-behind-2.behind.now =
    strip_prefix_is Decides-eqb c.in_ok-units.behind.now (codes "bodies ") (Some c.in_ok-behind-2.behind) c.in_ok-behind-2.ensures.cases in
    rw c.from_residual-in_err-bodies.ensures
    (λ u b small low tells.
    c.in_err-bodies.ensures.none b [] low
    (bodies_told line text some c.in_ok-behind.behind.now c.in_ok-units.behind.now c.in_ok-behind-2.behind.now c.in_ok-units.units u b c.in_ok-units.ensures.small small first units
    c.in_ok-units.ensures.found more tells))

pub returns-then-not-is_empty-clause-none : goal.returns-then-not-is_empty-clause-none
returns-then-not-is_empty-clause-none c = λ u b small low tells.
    let line = c.args.line.now in
    let text = c.args.text.now in
    let some = c.in_ok-strip_prefix.field-0.now in
    let first : line ≡ text ++ some = strip_prefix_is Decides-eqb line text (Some c.in_ok-strip_prefix.field-0) c.in_ok-strip_prefix.ensures.cases in
    let units : some ≡ codes " units " ++ c.in_ok-behind.behind.now = strip_prefix_is Decides-eqb some (codes " units ") (Some c.in_ok-behind.behind) c.in_ok-behind.ensures.cases in
    let more : c.in_ok-units.behind.now ≡ codes "bodies " ++ c.in_ok-behind-2.behind.now =
    strip_prefix_is Decides-eqb c.in_ok-units.behind.now (codes "bodies ") (Some c.in_ok-behind-2.behind) c.in_ok-behind-2.ensures.cases in
    some_of c.in_ok-bodies.behind.now c.is_empty.result c.is_empty.ensures c.if-not-is_empty.true
    (end_told line text some c.in_ok-behind.behind.now c.in_ok-units.behind.now c.in_ok-behind-2.behind.now c.in_ok-bodies.behind.now c.in_ok-units.units u c.in_ok-bodies.bodies b
    c.in_ok-units.ensures.small c.in_ok-bodies.ensures.small small low first units c.in_ok-units.ensures.found more c.in_ok-bodies.ensures.found tells)

pub returns-clause-found : goal.returns-clause-found
returns-clause-found c =
    let line = c.args.line.now in
    let text = c.args.text.now in
    let some = c.in_ok-strip_prefix.field-0.now in
    let first : line ≡ text ++ some = strip_prefix_is Decides-eqb line text (Some c.in_ok-strip_prefix.field-0) c.in_ok-strip_prefix.ensures.cases in
    let units : some ≡ codes " units " ++ c.in_ok-behind.behind.now = strip_prefix_is Decides-eqb some (codes " units ") (Some c.in_ok-behind.behind) c.in_ok-behind.ensures.cases in
    let more : c.in_ok-units.behind.now ≡ codes "bodies " ++ c.in_ok-behind-2.behind.now =
    strip_prefix_is Decides-eqb c.in_ok-units.behind.now (codes "bodies ") (Some c.in_ok-behind-2.behind) c.in_ok-behind-2.ensures.cases in
    told line text some c.in_ok-behind.behind.now c.in_ok-behind-2.behind.now c.in_ok-units.behind.now c.in_ok-bodies.behind.now c.in_ok-units.units c.in_ok-bodies.bodies first units
    c.in_ok-units.ensures.found more c.in_ok-bodies.ensures.found (none_of c.in_ok-bodies.behind.now c.is_empty.result c.is_empty.ensures c.if-not-is_empty.false)
