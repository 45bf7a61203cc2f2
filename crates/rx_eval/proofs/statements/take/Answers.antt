use Rattle.std.proofs.Common.{◌≡◌, ◌∙◌, ap, subst, map, IfOk, Some, None}
use Rattle.rx_meaning.specs.Expressions.{value_in}
use Rattle.std.specs.Prelude.{slice_index_or, pos}
use Rattle.rx_meaning.specs.Body.{taken, with_read, with_resource, with_effect}
use Rattle.rx_eval.specs.Steps.{frame_of, step_taken}
use Rattle.rx_eval.proofs.statements.take.Goals as goal

pub returns-in_ok-effect-in-Effect : goal.returns-in_ok-effect-in-Effect
returns-in_ok-effect-in-Effect c =
    let given = c.in_ok-effect-in-Effect.ensures c.args.env.now in
    let values : c.in_ok-values-in-Effect.values ≡ map (value_in c.args.evaluator.now c.args.env.now) c.in-Effect.dependencies.items = rw (← c.deref.ensures.value) c.in_ok-values-in-Effect.ensures in
    rw (← c.statement.view_is, c.in-Effect.is)
    (ap taken (given ∙ ap (λ vs. with_effect (record { layout = c.in-Effect.layout; label = c.in-Effect.label; values = vs }) (frame_of c.args.env.now c.args.gathered.now)) values))

pub returns-in_ok-read-in-Context : goal.returns-in_ok-read-in-Context
returns-in_ok-read-in-Context c =
    rw (← c.statement.view_is, c.in-Context.is)
    (ap taken (c.in_ok-read-in-Context.ensures c.args.env.now c.in-Context.name
    ∙ ap (λ k. with_read c.in-Context.name k (slice_index_or c.args.inputs.now.contexts.now k (pos 0)) (frame_of c.args.env.now c.args.gathered.now)) c.context-context.ensures))

pub returns-in-Resource : goal.returns-in-Resource
returns-in-Resource c =
    rw (← c.statement.view_is, c.in-Resource.is)
    (subst
    (λ r. IfOk c.read_resource.result (λ s.
    step_taken (Some c.in-Resource.name) c.args.env.now c.read_resource.new.self s
    ≡ with_resource c.in-Resource.name r (slice_index_or c.args.inputs.now.versions.now r 0) (slice_index_or c.args.inputs.now.resources.now r None) (frame_of c.args.env.now c.args.gathered.now)))
    c.resource-resource.ensures (c.read_resource.ensures c.args.env.now c.in-Resource.name))
