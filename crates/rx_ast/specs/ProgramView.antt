-- The parts of a program as plain data.
use Rattle.rx_ast.specs.Syntax as syntax
use Rattle.rx_ast.specs.declared.body.BodyKind.{BodyKind}
use Rattle.rx_ast.specs.declared.body.BodyKind.TheVariants as body
use Rattle.rx_ast.specs.declared.statement.StatementKind.{StatementKind}
use Rattle.rx_ast.specs.declared.statement.StatementKind.TheVariants as statement
use Rattle.rx_ast.specs.declared.declaration.ParameterKind.{ParameterKind}
use Rattle.rx_ast.specs.declared.declaration.ParameterKind.TheVariants as parameter
use Rattle.rx_ast.specs.declared.declaration.DeclarationKind.{DeclarationKind}
use Rattle.rx_ast.specs.declared.declaration.DeclarationKind.TheVariants as declaration

-- the body of a kind with its part
abbrev pub body_of : BodyKind → syntax.Body
body_of (body.Slot s) = syntax.single s
body_of (body.Fragment f) = syntax.fragment f
body_of (body.Enclosed f) = syntax.enclosed_fragment f

-- the statement of a kind with its parts
abbrev pub statement_of : StatementKind → syntax.Statement
statement_of (statement.State x s e) = syntax.state x s e
statement_of (statement.Reducer x s f e) = syntax.reducer x s f e
statement_of (statement.Transition x s) = syntax.transition x s
statement_of (statement.Context x c) = syntax.context x c
statement_of (statement.Resource x r) = syntax.use_resource x r
statement_of (statement.Constant x e) = syntax.constant x e
statement_of (statement.Effect l t es) = syntax.effect l t es.items
statement_of (statement.Throw e) = syntax.throw_if e

-- the parameter of a kind
abbrev pub parameter_of : ParameterKind → syntax.Parameter
parameter_of (parameter.Integer x) = syntax.integer x
parameter_of parameter.Children = syntax.given_children

-- the declaration of a kind with its part
abbrev pub declaration_of : DeclarationKind → syntax.Declaration
declaration_of (declaration.Context c) = syntax.of_context c
declaration_of (declaration.Function f) = syntax.of_function f
declaration_of (declaration.Component c) = syntax.of_component c
