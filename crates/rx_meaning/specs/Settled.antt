-- What a committed tree keeps is what its bodies give: for the updates that are done and the versions of resources that have a value.
use Rattle.std.specs.List.{enumerate_from, list_any}
use Rattle.std.specs.Prelude.{Bool, List, None, Option, Some, [], cond, false, filter, length, map, nat_eq, nat_lt, not, option_to_list, slice_set, true, if◌then◌else◌, ℕ, ℤ, ◌||◌, ◌+◌, ◌∷◌, ◌≡◌, ◌≤◌, ◌⊎◌}
use Rattle.rx_ast.specs.Syntax.{Component, Program}
use Rattle.rx_base.specs.Awaits.{Awaits}
use Rattle.rx_base.specs.declared.cut.Cut.{Cut}
use Rattle.rx_rules.specs.Names.{component_at}
use Rattle.rx_elem.specs.Elements.{Element, Elements, listed}
use Rattle.rx_elem.specs.Trees.{Forest, Instance, Mark, Node, child, elements_in, is_caught, is_hidden, node, none, of_boundary, of_catcher, of_host, of_instance, plain, vacant}
use Rattle.rx_elem.specs.declared.effect.ContextRead.{ContextRead}
use Rattle.rx_elem.specs.declared.effect.VersionRead.{VersionRead}
use Rattle.rx_meaning.specs.Body.{body_of, ready}
use Rattle.rx_meaning.specs.Expressions.{answers_of}
use Rattle.rx_meaning.specs.Fresh.{Contexts, Shape, Sight, absent, default_contexts, guarded, one_list, part, resource_numbers, two_lists}
use Rattle.rx_meaning.specs.Touched.{contexts_below, has_update, is_read_anew, touched_instance}
use Rattle.rx_queue.specs.History.{stands_done}
use Rattle.rx_queue.specs.Journal.{Posted, Resolution, committed_value, hook, resolutions_by, resource, same_target, value_in, values_at}
use Rattle.rx_susp.specs.declared.boundary.BoundaryState.TheVariants.{Hidden, Shown}
use Rattle.rx_catch.specs.declared.state.CatchState.TheVariants.{Fine, Caught}
use Rattle.rx_elem.specs.Elements as elements

-- what is known for good: the updates, of which some are done, and how versions of resources were resolved
pub record Known : Type 0 where
  pub updates : List Posted
  pub resolutions : List Resolution

-- the values of an instance's hooks, by the updates that are done
abbrev pub done_values : Program → Known → (instance : ℕ) → (initials : List ℤ) → List ℤ
done_values p k instance initials =
    map (λ h. committed_value (answers_of p) h.1 (filter (λ u. same_target (hook instance h.0) u.target) k.updates)) (enumerate_from 0 initials)

-- one of these contexts has another value than the one that was read
abbrev pub read_anew : Contexts → List ContextRead → Bool
read_anew cs reads = list_any (is_read_anew cs) reads

-- one of these resources has another version than the one that was read
abbrev pub refreshed : (version : ℕ → ℕ) → List VersionRead → Bool
refreshed version reads = list_any (λ r. not (nat_eq (version r.resource) r.version)) reads

-- A component's body gives these elements, and the effects and reads of its instance, in whatever contexts and versions agree with the reads.
pub record IsBodyOf (p : Program) (k : Known) (number : ℕ) (props : List ℤ) (given : Elements) (i : Instance) (es : List Element) : Type 0 where
  pub component : Component
  pub is_component : component_at p number ≡ Some component
  pub is_of : i.component ≡ number
  pub instance : ℕ
  pub is_numbered : i.number ≡ Some instance
  pub initials : List ℤ
  pub gives : (cs : Contexts) (version : ℕ → ℕ) → read_anew cs i.reads ≡ false → refreshed version i.versions ≡ false
      → body_of p component (record { props = props; children = listed given; hooks = Some (done_values p k instance i.initials); contexts = cs; versions = map version (resource_numbers p); resources = values_at k.resolutions (map version (resource_numbers p)) })
      ≡ ready es i.effects initials i.reads i.versions

-- A node has the mark and the children of its element, given what is asked of a component. What a hidden boundary keeps may come from another element.
abbrev pub IsOwnBy : (ℕ → List ℤ → Elements → Instance → List Element → Type 0) → Element → Mark → (children fallback : Forest) → Type 0
IsOwnBy asks elements.null m ns fs = ⊥
IsOwnBy asks (elements.text t) m ns fs = (h : Option ℕ) × (m ≡ of_host h) × (ns ≡ none) × (fs ≡ none)
IsOwnBy asks (elements.host n key attrs es) m ns fs = (h : Option ℕ) × (m ≡ of_host h) × (elements_in ns ≡ listed es) × (fs ≡ none)
IsOwnBy asks (elements.comp c key props given) m ns fs =
    (i : Instance) × (m ≡ of_instance i) × asks c props given i (elements_in ns) × (fs ≡ none)
IsOwnBy asks (elements.list marked es) m ns fs = (m ≡ plain) × (elements_in ns ≡ listed es) × (fs ≡ none)
IsOwnBy asks (elements.boundary key f es) m ns fs =
    ((m ≡ of_boundary Shown) × (elements_in ns ≡ listed es) × (fs ≡ none)) ⊎ ((a : Awaits) × (m ≡ of_boundary (Hidden a)) × (elements_in fs ≡ f ∷ []))
IsOwnBy asks (elements.catcher key f es) m ns fs =
    ((m ≡ of_catcher Fine) × (elements_in ns ≡ listed es) × (fs ≡ none)) ⊎ ((x : ℤ) × (m ≡ of_catcher (Caught x)) × (ns ≡ none) × (elements_in fs ≡ f ∷ []))
IsOwnBy asks (elements.provider c key x es) m ns fs = (m ≡ plain) × (elements_in ns ≡ listed es) × (fs ≡ none)

-- a node is its own: what its element and, for a component, its body give
abbrev pub IsOwn : Program → Known → Element → Mark → (children fallback : Forest) → Type 0
IsOwn p k = IsOwnBy (IsBodyOf p k)

-- each node of a tree is its own, what is kept too
abbrev mutual
  pub IsSettled : Program → Known → Node → Type 0
  IsSettled p k (node e m ns fs) = IsOwn p k e m ns fs × AllSettled p k ns × AllSettled p k fs

  -- the same for the trees of a list
  pub AllSettled : Program → Known → Forest → Type 0
  AllSettled p k none = Unit {0}
  AllSettled p k (vacant ns) = AllSettled p k ns
  AllSettled p k (child n ns) = IsSettled p k n × AllSettled p k ns

-- what a render knows for good
abbrev pub known_by : Sight → Known
known_by s = record { updates = s.journal.updates; resolutions = resolutions_by s.cut s.journal }

-- what is done lies before the cut
abbrev pub DoneBefore : Cut → List Posted → Type 0
DoneBefore cut [] = Unit {0}
DoneBefore cut (u ∷ us) = (stands_done u.standing ≡ true → nat_lt u.update.number cut.updates ≡ true) × DoneBefore cut us

-- an instance with a cause, or a boundary that is hidden, which is tried again
abbrev pub has_cause : Sight → Contexts → Mark → Bool
has_cause s cs (of_instance i) = touched_instance s cs (Some i)
has_cause s cs (of_host h) = false
has_cause s cs plain = false
has_cause s cs (of_catcher c) = false
has_cause s cs (of_boundary Shown) = false
has_cause s cs (of_boundary (Hidden a)) = true

-- no node of a subtree has a cause
abbrev mutual
  pub IsStill : Sight → Contexts → Node → Type 0
  IsStill s cs (node e m ns fs) = (has_cause s cs m ≡ false) × AllStill s (contexts_below e cs) ns × AllStill s cs fs

  -- the same for the trees of a list
  pub AllStill : Sight → Contexts → Forest → Type 0
  AllStill s cs none = Unit {0}
  AllStill s cs (vacant ns) = AllStill s cs ns
  AllStill s cs (child n ns) = IsStill s cs n × AllStill s cs ns

-- what a place renders that has no cause: its own children again, with no body evaluated
abbrev pub kept_shape : Contexts → Element → Mark → (children fallback : Forest) → Shape
kept_shape cs elements.null m ns fs = absent
kept_shape cs (elements.text t) m ns fs = one_list m (part cs (elements_in ns) ns)
kept_shape cs (elements.host n key attrs es) m ns fs = one_list m (part cs (elements_in ns) ns)
kept_shape cs (elements.comp c key props given) m ns fs = one_list m (part cs (elements_in ns) ns)
kept_shape cs (elements.list marked es) m ns fs = one_list m (part cs (elements_in ns) ns)
kept_shape cs (elements.boundary key f es) m ns fs = two_lists (part cs (elements_in ns) ns) (part cs (f ∷ []) fs)
kept_shape cs (elements.catcher key f es) m ns fs =
    if is_caught m then one_list m (part cs (elements_in fs) fs) else guarded (part cs (elements_in ns) ns) (part cs (f ∷ []) none)
kept_shape cs (elements.provider c key x es) m ns fs = one_list m (part (slice_set cs c x) (elements_in ns) ns)

-- the first if a node is a hidden boundary, else the second
abbrev pub IfHidden : Bool → Type 0 → Type 0 → Type 0
IfHidden true A B = A
IfHidden false A B = B

-- an old tree that may be missing is settled
abbrev pub IfSettled : Program → Known → Option Node → Type 0
IfSettled p k None = Unit {0}
IfSettled p k (Some n) = IsSettled p k n

-- no update is of an instance that has yet to come
abbrev pub TargetsBelow : ℕ → List Posted → Type 0
TargetsBelow next [] = Unit {0}
TargetsBelow next (u ∷ us) = ((k : ℕ) (i : ℕ) → next ≤ i → same_target (hook i k) u.target ≡ false) × TargetsBelow next us

-- what had a value has it still
abbrev pub HasValuesOf : List Resolution → List Resolution → Type 0
HasValuesOf rs more = (r v : ℕ) (x : ℤ) → value_in rs r v ≡ Some x → value_in more r v ≡ Some x

-- an instance is one of these
abbrev pub includes : (instances : List ℕ) → ℕ → Bool
includes set i = list_any (nat_eq i) set

-- a number that may be missing is this one
abbrev pub is_numbered_so : ℕ → Option ℕ → Bool
is_numbered_so n None = false
is_numbered_so n (Some k) = nat_eq n k

-- the number of an instance's mark
abbrev pub number_of : Mark → Option ℕ
number_of (of_instance i) = i.number
number_of (of_host h) = None
number_of (of_boundary b) = None
number_of (of_catcher c) = None
number_of plain = None

-- how many instances of a tree have this number
abbrev mutual
  pub times_numbered : ℕ → Node → ℕ
  times_numbered n (node e m ns fs) = cond (is_numbered_so n (number_of m)) 1 0 + (times_numbered_in n ns + times_numbered_in n fs)

  -- the same for the trees of a list
  pub times_numbered_in : ℕ → Forest → ℕ
  times_numbered_in n none = 0
  times_numbered_in n (vacant ns) = times_numbered_in n ns
  times_numbered_in n (child x ns) = times_numbered n x + times_numbered_in n ns

-- the same for a tree that may be missing
abbrev pub times_numbered_if : ℕ → Option Node → ℕ
times_numbered_if n None = 0
times_numbered_if n (Some x) = times_numbered n x

-- each instance of a tree has a number of its own, and all are below the next one
abbrev pub HasOwnNumbers : ℕ → Option Node → Type 0
HasOwnNumbers next old = (n : ℕ) → (times_numbered_if n old ≤ 1) × (next ≤ n → times_numbered_if n old ≡ 0)

-- an instance read other values than these contexts give, or other versions than these
abbrev pub reads_another : (version : ℕ → ℕ) → Contexts → Mark → Bool
reads_another version cs (of_instance i) = read_anew cs i.reads || refreshed version i.versions
reads_another version cs (of_host h) = false
reads_another version cs (of_boundary b) = false
reads_another version cs (of_catcher c) = false
reads_another version cs plain = false

-- what is rendered of a tree read the contexts of its place, and the resources in these versions
abbrev mutual
  pub ReadsHold : (version : ℕ → ℕ) → Contexts → Node → Type 0
  ReadsHold version cs (node e m ns fs) =
      (reads_another version cs m ≡ false) × IfHidden (is_hidden m) (Unit {0}) (AllReadsHold version (contexts_below e cs) ns) × AllReadsHold version cs fs

  -- the same for the trees of a list
  pub AllReadsHold : (version : ℕ → ℕ) → Contexts → Forest → Type 0
  AllReadsHold version cs none = Unit {0}
  AllReadsHold version cs (vacant ns) = AllReadsHold version cs ns
  AllReadsHold version cs (child n ns) = ReadsHold version cs n × AllReadsHold version cs ns

-- the same for a tree that may be missing
abbrev pub IfReadsHold : (version : ℕ → ℕ) → Contexts → Option Node → Type 0
IfReadsHold version cs None = Unit {0}
IfReadsHold version cs (Some n) = ReadsHold version cs n

-- the version of a resource that the last commit showed, by these updates
abbrev pub version_done : List Posted → (resource : ℕ) → ℕ
version_done us r = length (filter (λ u. stands_done u.standing) (filter (λ u. same_target (resource r) u.target) us))

-- What is kept of the committed tree: bodies give it, each instance has a number of its own, and what it read is what the last commit showed.
pub record IsSound (p : Program) (k : Known) (next : ℕ) (tree : Option Node) : Type 0 where
  pub settled : IfSettled p k tree
  pub own_numbers : HasOwnNumbers next tree
  pub targets : TargetsBelow next k.updates
  pub reads : IfReadsHold (version_done k.updates) (default_contexts p) tree

-- an included update of an instance isn't done, or a boundary is hidden
abbrev pub is_stirred : Sight → Mark → Bool
is_stirred s (of_instance i) = has_update s (option_to_list i.number)
is_stirred s (of_host h) = false
is_stirred s plain = false
is_stirred s (of_catcher c) = false
is_stirred s (of_boundary Shown) = false
is_stirred s (of_boundary (Hidden a)) = true

-- no update of a subtree is included that isn't done, and no boundary of it is hidden
abbrev mutual
  pub IsCalm : Sight → Node → Type 0
  IsCalm s (node e m ns fs) = (is_stirred s m ≡ false) × AllCalm s ns × AllCalm s fs

  -- the same for the trees of a list
  pub AllCalm : Sight → Forest → Type 0
  AllCalm s none = Unit {0}
  AllCalm s (vacant ns) = AllCalm s ns
  AllCalm s (child n ns) = IsCalm s n × AllCalm s ns
