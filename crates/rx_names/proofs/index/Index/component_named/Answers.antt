use Rattle.std.proofs.Common.{◌≡◌, ◌∙◌, sym, ap, map}
use Rattle.std.specs.Prelude.{position, bytes_eq, Some, None}
use Rattle.rx_ast.specs.Syntax.{components}
use Rattle.rx_names.proofs.Places.{named-at, named-none}
use Rattle.rx_names.proofs.index.Index.component_named.Goals as goal

pub returns-in-None : goal.returns-in-None
returns-in-None c =
    let found : position (bytes_eq c.args.name.now) (map (λ d. d.name) (components c.self.inside.program.now)) ≡ None =
    ap (λ ns. position (bytes_eq c.args.name.now) ns) (sym c.self.invariant.0.components_are) ∙ (sym c.position.ensures ∙ c.in-None.is) in
    rw (← c.self.view_is) (named-none (λ d. d.name) c.args.name.now (components c.self.inside.program.now) found)

pub returns-in-Some : goal.returns-in-Some
returns-in-Some c =
    let found : position (bytes_eq c.args.name.now) (map (λ d. d.name) (components c.self.inside.program.now)) ≡ Some c.in-Some.number =
    ap (λ ns. position (bytes_eq c.args.name.now) ns) (sym c.self.invariant.0.components_are) ∙ (sym c.position.ensures ∙ c.in-Some.is) in
    let same = ap (λ p. position (bytes_eq c.args.name.now) (map (λ d. d.name) (components p))) (sym c.self.view_is) ∙ found in
    rw (named-at (λ d. d.name) c.args.name.now (components c.args.self.now) c.in-Some.number same) c.component.ensures
