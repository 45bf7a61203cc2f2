-- What is a cause to evaluate the body of a component, or to try the children of a hidden boundary again.
use Rattle.std.specs.Prelude.{ℕ, Bool, true, false, not, ◌&&◌, ◌||◌, List, ℤ, Option, Some, None, is_some, slice_index_or}
use Rattle.std.specs.List.{enumerate_from, list_any}
use Rattle.std.specs.Option.{option_map_or}
use Rattle.rx_base.specs.Awaits.{Awaits}
use Rattle.rx_susp.specs.declared.boundary.BoundaryState.{BoundaryState}
use Rattle.rx_susp.specs.Boundary.{awaits_of, hides}
use Rattle.rx_elem.specs.Elements.{Element}
use Rattle.rx_elem.specs.Elements as elements
use Rattle.rx_elem.specs.Trees.{Forest, Instance, Node, boundary_in, child, children_of, instance_in, mark_of, node, none, vacant}
use Rattle.rx_queue.specs.History.{stands_done}
use Rattle.rx_queue.specs.Journal.{Posted, hook, is_included, is_new, updates_of}
use Rattle.rx_meaning.specs.Fresh.{Contexts, Sight, old_instance, resources_seen}
use Rattle.rx_meaning.specs.Touched.{component_in, has_same_inputs, is_read_anew, is_refreshed, may_throw_anew, sees_refresh}

-- Updates

-- an included update isn't done
abbrev pub is_due : Sight → Posted → Bool
is_due s u = is_included s.lanes s.cut u && not (stands_done u.standing)

-- an included update is neither done nor owed
abbrev pub is_news : Sight → Posted → Bool
is_news s u = is_new s.lanes s.cut u

-- an update of one of the hooks of an instance, which have these values at mount, passes a test
abbrev pub some_update : (Posted → Bool) → Sight → (instance : ℕ) → (initials : List ℤ) → Bool
some_update test s n initials = list_any (λ h. list_any test (updates_of (hook n h.0) s.journal)) (enumerate_from 0 initials)

-- Components

-- the component of an instance is called: it has no number yet, an included update of one of its hooks isn't done, or a context has another value or a resource another version than it read
abbrev pub is_called : Sight → Contexts → Option Instance → Bool
is_called s cs None = true
is_called s cs (Some i) =
    option_map_or (λ n. some_update (is_due s) s n i.initials) i.number true || (list_any (is_read_anew cs) i.reads || list_any (is_refreshed s) i.versions)

-- a component's place has a cause of its own
abbrev pub has_cause : Sight → Contexts → Element → Option Node → Bool
has_cause s cs elements.null old = false
has_cause s cs (elements.text t) old = false
has_cause s cs (elements.host n k attrs es) old = false
has_cause s cs (elements.comp c k ps es) old = is_called s cs (old_instance old)
has_cause s cs (elements.list marked es) old = false
has_cause s cs (elements.boundary k f es) old = false
has_cause s cs (elements.catcher k f es) old = false
has_cause s cs (elements.provider c k x es) old = false

-- a component's place is dirty: it has a cause of its own, or the component has other props or other children than when it was evaluated last
abbrev pub is_dirty : Sight → Contexts → Element → Option Node → Bool
is_dirty s cs e old = is_some (component_in e) && (has_cause s cs e old || not (has_same_inputs e old))

-- Boundaries

-- one of these resources has a value
abbrev pub has_value : Sight → Awaits → Bool
has_value s a = list_any (λ r. is_some (slice_index_or (resources_seen s) r None)) a

-- an instance has news, if there is one and it has a number
abbrev pub instance_news : Sight → Option Instance → Bool
instance_news s i = option_map_or (λ j. option_map_or (λ n. some_update (is_news s) s n j.initials) j.number false) i false

-- an instance of a tree has news
abbrev mutual
  pub news_at : Sight → Node → Bool
  news_at s (node e m ns fs) = instance_news s (instance_in m) || (news_in s ns || news_in s fs)

  -- the same for the trees of a list
  pub news_in : Sight → Forest → Bool
  news_in s none = false
  news_in s (vacant ns) = news_in s ns
  news_in s (child n ns) = news_at s n || news_in s ns

-- nothing new has come for a boundary with this state that keeps these: no resource has another version than before, nothing that it awaits has a value, no instance that it keeps has news, and nothing may throw anew
abbrev pub is_left_waiting : Sight → Forest → BoundaryState → Bool
is_left_waiting s ns state = hides state && not (sees_refresh s || (has_value s (awaits_of state) || (news_in s ns || may_throw_anew s)))

-- an old node is a hidden boundary for which nothing new has come
abbrev pub waits_still : Sight → Option Node → Bool
waits_still s None = false
waits_still s (Some old) = option_map_or (is_left_waiting s (children_of old)) (boundary_in (mark_of old)) false
