-- What statements have given so far, as the definitions have it.
use Rattle.std.specs.Prelude.{[], ◌∷◌, ℤ, Option, Some, None}
use Rattle.rx_base.specs.Values.{Name}
use Rattle.rx_ast.specs.Syntax.{Statement, state, reducer, transition, context, use_resource, constant, effect, throw_if}
use Rattle.rx_meaning.specs.Expressions.{Env}
use Rattle.rx_meaning.specs.Body.{Frame, Taken, stopped_at, thrown, taken}
use Rattle.rx_eval.specs.declared.statements.Gathered.{Gathered}
use Rattle.rx_eval.specs.declared.statements.Step.{Step}
use Rattle.rx_eval.specs.declared.statements.Step.TheVariants as step

-- the frame of the values of names and what is gathered beside them
abbrev pub frame_of : Env → Gathered → Frame
frame_of env g = record { env = env; hooks = g.hooks; initials = g.initials.items; effects = g.effects.items; reads = g.reads.items; versions = g.versions.items }

-- the name that a statement binds
abbrev pub name_in : Statement → Option Name
name_in (state x setter e) = Some x
name_in (reducer x setter f e) = Some x
name_in (transition x starter) = Some x
name_in (context x source) = Some x
name_in (use_resource x r) = Some x
name_in (constant x e) = Some x
name_in (effect layout label es) = None
name_in (throw_if e) = None

-- the values of names after a statement that binds this name, if any
abbrev pub named : Option Name → ℤ → Env → Env
named None v env = env
named (Some x) v env = (x, v) ∷ env

-- what a statement gives that binds this name, if any, and did this
abbrev pub step_taken : Option Name → Env → Gathered → Step → Taken
step_taken x env g (step.Value v) = taken (frame_of (named x v env) g)
step_taken x env g (step.Wait r v) = stopped_at r v
step_taken x env g (step.Throw v) = thrown v

-- the frame before the first statement, if names have these values
abbrev pub opened : Env → Frame
opened env = record { env = env; hooks = 0; initials = []; effects = []; reads = []; versions = [] }
