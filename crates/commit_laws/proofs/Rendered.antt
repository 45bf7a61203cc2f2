-- What a render leaves: each component that was rendered is as its body gave it.
use Rattle.std.specs.Prelude.{List, None, Some, false, map, true, ℕ, ℤ, ◌≡◌}
use Rattle.rx_ast.specs.Syntax.{Component}
use Rattle.rx_rules.specs.Names.{component_at}
use Rattle.rx_elem.specs.Elements.{Element, Elements, listed}
use Rattle.rx_elem.specs.Spots.{kept_instances, visible_instances}
use Rattle.rx_elem.specs.Trees.{Forest, Instance, Node, child, is_hidden, node, none, vacant}
use Rattle.rx_meaning.specs.Body.{body_of, ready}
use Rattle.rx_meaning.specs.Fresh.{Contexts, Sight, resource_numbers, values_of, version_seen}
use Rattle.rx_meaning.specs.Touched.{contexts_below}
use Rattle.rx_meaning.specs.Settled.{AllSettled, IfHidden, IsOwnBy, Known, includes, read_anew, refreshed}
use Rattle.rx_queue.specs.Journal.{resolutions_by, values_at}

-- a component's body gave this at this sight, and so it does in whatever contexts and versions agree with the reads, as those of its place and of the sight do
pub record IsBodyIn (s : Sight) (at : Contexts) (number : ℕ) (props : List ℤ) (given : Elements) (i : Instance) (es : List Element) : Type 0 where
  pub component : Component
  pub is_component : component_at s.program number ≡ Some component
  pub is_of : i.component ≡ number
  pub initials : List ℤ
  pub mounts : i.number ≡ None → i.initials ≡ initials
  pub was_read : read_anew at i.reads ≡ false
  pub was_seen : refreshed (version_seen s) i.versions ≡ false
  pub gives : (cs : Contexts) (version : ℕ → ℕ) → read_anew cs i.reads ≡ false → refreshed version i.versions ≡ false
      → body_of s.program component (record { props = props; children = listed given; hooks = values_of s i; contexts = cs; versions = map version (resource_numbers s.program); resources = values_at (resolutions_by s.cut s.journal) (map version (resource_numbers s.program)) })
      ≡ ready es i.effects initials i.reads i.versions

-- each component that was rendered is as its body gave it, and what hidden boundaries keep is settled as before
abbrev mutual
  pub IsRendered : Sight → Known → Contexts → Node → Type 0
  IsRendered s k cs (node e m ns fs) =
      IsOwnBy (IsBodyIn s cs) e m ns fs × IfHidden (is_hidden m) (AllSettled s.program k ns) (AllRendered s k (contexts_below e cs) ns) × AllRendered s k cs fs

  -- the same for the trees of a list
  pub AllRendered : Sight → Known → Contexts → Forest → Type 0
  AllRendered s k cs none = Unit {0}
  AllRendered s k cs (vacant ns) = AllRendered s k cs ns
  AllRendered s k cs (child n ns) = IsRendered s k cs n × AllRendered s k cs ns

-- no instance is both visible and kept
abbrev pub AreApart : Node → Type 0
AreApart n = (i : ℕ) → includes (kept_instances (Some n)) i ≡ true → includes (visible_instances (Some n)) i ≡ false
