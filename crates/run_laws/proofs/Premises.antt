-- A program with a choice of boundaries, the children of both waiting, meets all premises of the laws; so they speak of something.
use Rattle.std.specs.Prelude.{◌≡◌, ℕ, zero, suc, ◌≤◌, true, false, [], ◌∷◌, Option, Some, None, codes, refl}
use Rattle.std.proofs.Common.{arith, subst}
use Rattle.rx_ast.specs.Syntax.{Program, Component, of_component, single, slot, no_slots, body_slots, by_tag, at_once, unkeyed}
use Rattle.rx_ast.specs.Syntax as syntax
use Rattle.rx_rules.specs.Names.{component_at}
use Rattle.rx_rules.specs.Bounds.{node_bound, depth_bound, root_throws, root_waits, body_by}
use Rattle.rx_rules.specs.Versions.{node_limit}
use Rattle.rx_meaning.specs.Fresh.{depth_limit}
use Rattle.rx_model.specs.Laws.{IsBounded}
use Rattle.rx_rules.specs.Reads.{AllDeclared, ReadsDeclared}
use Rattle.rx_rules.specs.Keys.{KeysApart, keyed_places, SlotsKeysApart}

-- function Leaf() { const u = use("r"); return {u}; }
abbrev leaf : Component
leaf =
    record {
      name = codes "Leaf";
      memo = false;
      braces = false;
      parameters = [];
      statements = syntax.use_resource (codes "u") (codes "r") ∷ [];
      body = single (syntax.number_of (syntax.variable (codes "u")));
    }

-- a boundary around a keyed leaf
abbrev around_leaf : syntax.Slot
around_leaf =
    syntax.boundary unkeyed (syntax.words (codes "wait")) by_tag
    (slot (syntax.comp (codes "Leaf") (syntax.key (syntax.number 1) ∷ []) at_once no_slots) (slot (syntax.words (codes "more")) no_slots))

-- function App() { const [n, s] = useState(0); return n ? <Suspense ..> : <div><Suspense ..></div>; }
abbrev app : Component
app =
    record {
      name = codes "App";
      memo = false;
      braces = false;
      parameters = [];
      statements = syntax.state (codes "n") (codes "s") (syntax.number 0) ∷ [];
      body = single (syntax.choice (syntax.variable (codes "n")) around_leaf (syntax.host (codes "div") [] by_tag (slot around_leaf no_slots)));
    }

abbrev pub boundaries : Program
boundaries = record { second = false; declarations = of_component leaf ∷ of_component app ∷ [] }

abbrev IfApart : Option Component → Type 0
IfApart None = Unit {0}
IfApart (Some d) = (keyed_places (body_slots d.body) ≤ 1) × SlotsKeysApart (body_slots d.body)

abbrev IfDeclared : Option Component → Type 0
IfDeclared None = Unit {0}
IfDeclared (Some d) = AllDeclared boundaries d.statements

apart_at : (c : ℕ) → IfApart (component_at boundaries c)
apart_at zero = search arith
apart_at (suc zero) = search arith
apart_at (suc (suc c)) = tt

pub apart : KeysApart boundaries
apart c d e = subst IfApart e (apart_at c)

pub small : node_bound boundaries ≤ node_limit boundaries
unfolding node_bound body_by
small = omega arith

shallow : depth_bound boundaries ≤ depth_limit
unfolding depth_bound body_by
shallow = omega arith

ready : root_waits (λ c. true) boundaries ≡ false
unfolding root_waits body_by
ready = refl

caught : root_throws (λ c. true) boundaries ≡ false
unfolding root_throws body_by
caught = refl

declared_at : (c : ℕ) → IfDeclared (component_at boundaries c)
declared_at zero = (tt, tt)
declared_at (suc zero) = (tt, tt)
declared_at (suc (suc c)) = tt

declared : ReadsDeclared boundaries
declared c d e = subst IfDeclared e (declared_at c)

pub bounded : IsBounded boundaries
bounded = record { rooted = refl; ready = ready; caught = caught; shallow = shallow; small = small; apart = apart; declared = declared }

-- twelve nodes at most: App, in each branch the boundary with its leaf and the text of that, its text and its fallback, and the host of the second branch
pub exactly : node_bound boundaries ≡ 12
unfolding node_bound body_by
exactly = refl
