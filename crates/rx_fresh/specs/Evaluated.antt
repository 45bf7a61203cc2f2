-- What the last evaluations of bodies were made from, and what they gave.
use Rattle.std.specs.Prelude.{◌≡◌, ℕ, ℤ, false, nat_eq, List, [], Option, Some, option_map}
use Rattle.std.specs.Map.{lookup}
use Rattle.rx_ast.specs.Syntax.{Program}
use Rattle.rx_rules.specs.Names.{component_at}
use Rattle.rx_elem.specs.Elements.{Element}
use Rattle.rx_elem.specs.declared.effect.ContextRead.{ContextRead}
use Rattle.rx_elem.specs.declared.effect.EffectRecord.{EffectRecord}
use Rattle.rx_elem.specs.declared.effect.VersionRead.{VersionRead}
use Rattle.rx_meaning.specs.Body.{Body, Inputs, body_of, ready}
use Rattle.rx_meaning.specs.Fresh.{Contexts}
use Rattle.rx_meaning.specs.Settled.{read_anew}

-- the evaluation of a body that was given no children: its component, its props, the values of its hooks, and what it gave when it was ready
pub record Evaluation : Type 0 where
  pub component : ℕ
  pub props : List ℤ
  pub hooks : List ℤ
  pub elements : List Element
  pub effects : List EffectRecord
  pub initials : List ℤ
  pub reads : List ContextRead
  pub versions : List VersionRead

-- the inputs of a body that is given no children
abbrev pub childless : (props hooks : List ℤ) → Contexts → (versions : List ℕ) → (resources : List (Option ℤ)) → Inputs
childless props hooks cs versions resources =
    record { props = props; children = []; hooks = Some hooks; contexts = cs; versions = versions; resources = resources }

-- a component gives this body from these inputs
abbrev pub Gives : Program → (component : ℕ) → Inputs → Body → Type 0
Gives p component inputs b = option_map (λ d. body_of p d inputs) (component_at p component) ≡ Some b

-- what an evaluation gave
abbrev pub given_by : Evaluation → Body
given_by e = ready e.elements e.effects e.initials e.reads e.versions

-- an evaluation is right for a program: its component gives the same again, where each context that it read has that value, whatever the resources are
abbrev pub IsEvaluated : Program → Evaluation → Type 0
IsEvaluated p e =
    (cs : Contexts) (versions : List ℕ) (resources : List (Option ℤ)) → read_anew cs e.reads ≡ false
    → Gives p e.component (childless e.props e.hooks cs versions resources) (given_by e)

-- the evaluations under the numbers of instances are right for a program
abbrev pub AreEvaluated : Program → List (ℕ × Evaluation) → Type 0
AreEvaluated p es = (n : ℕ) (e : Evaluation) → lookup (nat_eq n) es ≡ Some e → IsEvaluated p e

-- an evaluation was made from these, and each context has the value that it read
pub record IsMadeFrom (e : Evaluation) (c : ℕ) (ps hs : List ℤ) (cs : Contexts) : Type 0 where
  pub component : e.component ≡ c
  pub props : e.props ≡ ps
  pub hooks : e.hooks ≡ hs
  pub contexts : read_anew cs e.reads ≡ false
