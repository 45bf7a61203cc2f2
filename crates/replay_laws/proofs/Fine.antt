-- Nodes that stand for what their elements say: hosts for hosts, and none for null.
use Rattle.std.specs.Prelude.{◌≡◌, ℕ, ◌<◌, Bool, true, false, Option, Some, None, refl}
use Rattle.std.proofs.Common.{sym, subst}
use Rattle.std.proofs.lemmas.Option.{same_Some}
use Rattle.std.proofs.lemmas.Slice.Eq.{bytes_eq-Decides}
use Rattle.rx_elem.specs.Elements.{Element, kind_of, same_kind, is_present}
use Rattle.rx_elem.specs.Elements as elements
use Rattle.rx_elem.specs.Trees.{Mark, Node, node, Forest, none, vacant, child, host_number, is_caught, is_host, element_of}
use Rattle.rx_forest.specs.Hosts.{Content, tag, letters, content_of, by_name}
use Rattle.host_laws.specs.Commits.{HasNone, TextsAreLeaves, TextsAreLeaves_in}
use Rattle.host_laws.specs.Related.{HaveOwnNames, AreAlike}
use Rattle.replay_laws.proofs.OldLists.{NoNull}

-- an element stands for a host or a text
abbrev pub is_hostlike : Element → Bool
is_hostlike elements.null = false
is_hostlike (elements.text t) = true
is_hostlike (elements.host n k attrs es) = true
is_hostlike (elements.comp c k ps es) = false
is_hostlike (elements.list marked es) = false
is_hostlike (elements.boundary k f es) = false
is_hostlike (elements.catcher k f es) = false
is_hostlike (elements.provider c k x es) = false

-- the attributes of a host have names of their own
abbrev pub AttrsOwn : Element → Type 0
AttrsOwn elements.null = Unit {0}
AttrsOwn (elements.text t) = Unit {0}
AttrsOwn (elements.host n k attrs es) = HaveOwnNames (by_name attrs)
AttrsOwn (elements.comp c k ps es) = Unit {0}
AttrsOwn (elements.list marked es) = Unit {0}
AttrsOwn (elements.boundary k f es) = Unit {0}
AttrsOwn (elements.catcher k f es) = Unit {0}
AttrsOwn (elements.provider c k x es) = Unit {0}

-- an error boundary that has caught nothing has no fallback
abbrev pub LacksFallback : Element → Mark → Forest → Type 0
LacksFallback elements.null m fs = Unit {0}
LacksFallback (elements.text t) m fs = Unit {0}
LacksFallback (elements.host n k attrs es) m fs = Unit {0}
LacksFallback (elements.comp c k ps es) m fs = Unit {0}
LacksFallback (elements.list marked es) m fs = Unit {0}
LacksFallback (elements.boundary k f es) m fs = Unit {0}
LacksFallback (elements.catcher k f es) m fs = is_caught m ≡ false → fs ≡ none
LacksFallback (elements.provider c k x es) m fs = Unit {0}

-- each node is a host exactly if its element is one, no node is one of null, attributes have names of their own, no text has children, and no error boundary that has caught nothing has a fallback
abbrev mutual
  pub IsFine : Node → Type 0
  IsFine (node e m ns fs) = (is_host m ≡ is_hostlike e) × (is_present e ≡ true) × AttrsOwn e × AllFine ns × AllFine fs × HasNone e ns × LacksFallback e m fs

  pub AllFine : Forest → Type 0
  AllFine none = Unit {0}
  AllFine (vacant ns) = AllFine ns
  AllFine (child x ns) = IsFine x × AllFine ns

-- the numbers of a tree's hosts lie below the next one
abbrev pub NumberBelow : ℕ → Option ℕ → Type 0
NumberBelow next None = Unit {0}
NumberBelow next (Some n) = n < next

abbrev mutual
  pub IsBelow : ℕ → Node → Type 0
  IsBelow next (node e m ns fs) = NumberBelow next (host_number m) × AllBelow next ns × AllBelow next fs

  pub AllBelow : ℕ → Forest → Type 0
  AllBelow next none = Unit {0}
  AllBelow next (vacant ns) = AllBelow next ns
  AllBelow next (child x ns) = IsBelow next x × AllBelow next ns

pub fine_present : (x : Node) → IsFine x → is_present (element_of x) ≡ true
fine_present (node e m ns fs) h = h.1

pub fine_no_null : (ns : Forest) → AllFine ns → NoNull ns
fine_no_null none h = tt
fine_no_null (vacant ns) h = fine_no_null ns h
fine_no_null (child x ns) h = (fine_present x h.0, fine_no_null ns h.1)

mutual
  pub fine_leaves : (x : Node) → IsFine x → TextsAreLeaves x
  fine_leaves (node e m ns fs) h = (h.5, all_fine_leaves ns h.3, all_fine_leaves fs h.4)

  all_fine_leaves : (ns : Forest) → AllFine ns → TextsAreLeaves_in ns
  all_fine_leaves none h = tt
  all_fine_leaves (vacant ns) h = all_fine_leaves ns h
  all_fine_leaves (child x ns) h = (fine_leaves x h.0, all_fine_leaves ns h.1)

-- Elements of one kind

-- if one is a host, the other is
pub same_hostlike : (e e' : Element) → same_kind (kind_of e) (kind_of e') ≡ true → is_hostlike e ≡ is_hostlike e'
same_hostlike elements.null elements.null h = absurd (cc)
same_hostlike elements.null (elements.text t') h = absurd (cc)
same_hostlike elements.null (elements.host n' k' attrs' es') h = absurd (cc)
same_hostlike elements.null (elements.comp c' k' ps' es') h = absurd (cc)
same_hostlike elements.null (elements.list marked es') h = absurd (cc)
same_hostlike elements.null (elements.boundary k' f' es') h = absurd (cc)
same_hostlike elements.null (elements.catcher k' f' es') h = absurd (cc)
same_hostlike elements.null (elements.provider c' k' x' es') h = absurd (cc)
same_hostlike (elements.text t) elements.null h = absurd (cc)
same_hostlike (elements.text t) (elements.text t') h = refl
same_hostlike (elements.text t) (elements.host n' k' attrs' es') h = absurd (cc)
same_hostlike (elements.text t) (elements.comp c' k' ps' es') h = absurd (cc)
same_hostlike (elements.text t) (elements.list marked es') h = absurd (cc)
same_hostlike (elements.text t) (elements.boundary k' f' es') h = absurd (cc)
same_hostlike (elements.text t) (elements.catcher k' f' es') h = absurd (cc)
same_hostlike (elements.text t) (elements.provider c' k' x' es') h = absurd (cc)
same_hostlike (elements.host n k attrs es) elements.null h = absurd (cc)
same_hostlike (elements.host n k attrs es) (elements.text t') h = absurd (cc)
same_hostlike (elements.host n k attrs es) (elements.host n' k' attrs' es') h = refl
same_hostlike (elements.host n k attrs es) (elements.comp c' k' ps' es') h = absurd (cc)
same_hostlike (elements.host n k attrs es) (elements.list marked es') h = absurd (cc)
same_hostlike (elements.host n k attrs es) (elements.boundary k' f' es') h = absurd (cc)
same_hostlike (elements.host n k attrs es) (elements.catcher k' f' es') h = absurd (cc)
same_hostlike (elements.host n k attrs es) (elements.provider c' k' x' es') h = absurd (cc)
same_hostlike (elements.comp c k ps es) elements.null h = absurd (cc)
same_hostlike (elements.comp c k ps es) (elements.text t') h = absurd (cc)
same_hostlike (elements.comp c k ps es) (elements.host n' k' attrs' es') h = absurd (cc)
same_hostlike (elements.comp c k ps es) (elements.comp c' k' ps' es') h = refl
same_hostlike (elements.comp c k ps es) (elements.list marked es') h = absurd (cc)
same_hostlike (elements.comp c k ps es) (elements.boundary k' f' es') h = absurd (cc)
same_hostlike (elements.comp c k ps es) (elements.catcher k' f' es') h = absurd (cc)
same_hostlike (elements.comp c k ps es) (elements.provider c' k' x' es') h = absurd (cc)
same_hostlike (elements.list marked es) elements.null h = absurd (cc)
same_hostlike (elements.list marked es) (elements.text t') h = absurd (cc)
same_hostlike (elements.list marked es) (elements.host n' k' attrs' es') h = absurd (cc)
same_hostlike (elements.list marked es) (elements.comp c' k' ps' es') h = absurd (cc)
same_hostlike (elements.list marked es) (elements.list marked' es') h = refl
same_hostlike (elements.list marked es) (elements.boundary k' f' es') h = absurd (cc)
same_hostlike (elements.list marked es) (elements.catcher k' f' es') h = absurd (cc)
same_hostlike (elements.list marked es) (elements.provider c' k' x' es') h = absurd (cc)
same_hostlike (elements.boundary k f es) elements.null h = absurd (cc)
same_hostlike (elements.boundary k f es) (elements.text t') h = absurd (cc)
same_hostlike (elements.boundary k f es) (elements.host n' k' attrs' es') h = absurd (cc)
same_hostlike (elements.boundary k f es) (elements.comp c' k' ps' es') h = absurd (cc)
same_hostlike (elements.boundary k f es) (elements.list marked es') h = absurd (cc)
same_hostlike (elements.boundary k f es) (elements.boundary k' f' es') h = refl
same_hostlike (elements.boundary k f es) (elements.catcher k' f' es') h = absurd (cc)
same_hostlike (elements.boundary k f es) (elements.provider c' k' x' es') h = absurd (cc)
same_hostlike (elements.catcher k f es) elements.null h = absurd (cc)
same_hostlike (elements.catcher k f es) (elements.text t') h = absurd (cc)
same_hostlike (elements.catcher k f es) (elements.host n' k' attrs' es') h = absurd (cc)
same_hostlike (elements.catcher k f es) (elements.comp c' k' ps' es') h = absurd (cc)
same_hostlike (elements.catcher k f es) (elements.list marked es') h = absurd (cc)
same_hostlike (elements.catcher k f es) (elements.boundary k' f' es') h = absurd (cc)
same_hostlike (elements.catcher k f es) (elements.catcher k' f' es') h = refl
same_hostlike (elements.catcher k f es) (elements.provider c' k' x' es') h = absurd (cc)
same_hostlike (elements.provider c k x es) elements.null h = absurd (cc)
same_hostlike (elements.provider c k x es) (elements.text t') h = absurd (cc)
same_hostlike (elements.provider c k x es) (elements.host n' k' attrs' es') h = absurd (cc)
same_hostlike (elements.provider c k x es) (elements.comp c' k' ps' es') h = absurd (cc)
same_hostlike (elements.provider c k x es) (elements.list marked es') h = absurd (cc)
same_hostlike (elements.provider c k x es) (elements.boundary k' f' es') h = absurd (cc)
same_hostlike (elements.provider c k x es) (elements.catcher k' f' es') h = absurd (cc)
same_hostlike (elements.provider c k x es) (elements.provider c' k' x' es') h = refl

-- and of alike content
pub alike : (e e' : Element) (c d : Content) → same_kind (kind_of e) (kind_of e') ≡ true → content_of e ≡ Some c → content_of e' ≡ Some d → AttrsOwn e → AreAlike d c
alike elements.null e' c d h is was own = absurd (cc)
alike (elements.text t) elements.null c d h is was own = absurd (cc)
alike (elements.text t) (elements.text t') c d h is was own = let one : letters t ≡ c = same_Some _ _ is in let two : letters t' ≡ d = same_Some _ _ was in subst (λ d. AreAlike d c) two (subst (AreAlike (letters t')) one tt)
alike (elements.text t) (elements.host n' k' attrs' es') c d h is was own = absurd (cc)
alike (elements.text t) (elements.comp c' k' ps' es') c d h is was own = absurd (cc)
alike (elements.text t) (elements.list marked es') c d h is was own = absurd (cc)
alike (elements.text t) (elements.boundary k' f' es') c d h is was own = absurd (cc)
alike (elements.text t) (elements.catcher k' f' es') c d h is was own = absurd (cc)
alike (elements.text t) (elements.provider c' k' x' es') c d h is was own = absurd (cc)
alike (elements.host n k attrs es) elements.null c d h is was own = absurd (cc)
alike (elements.host n k attrs es) (elements.text t') c d h is was own = absurd (cc)
alike (elements.host n k attrs es) (elements.host n' k' attrs' es') c d h is was own =
    let one : tag n (by_name attrs) ≡ c = same_Some _ _ is in
    let two : tag n' (by_name attrs') ≡ d = same_Some _ _ was in
    let names : n' ≡ n = sym ((bytes_eq-Decides n n').0 h) in
    subst (λ d. AreAlike d c) two (subst (AreAlike (tag n' (by_name attrs'))) one (names, own))
alike (elements.host n k attrs es) (elements.comp c' k' ps' es') c d h is was own = absurd (cc)
alike (elements.host n k attrs es) (elements.list marked es') c d h is was own = absurd (cc)
alike (elements.host n k attrs es) (elements.boundary k' f' es') c d h is was own = absurd (cc)
alike (elements.host n k attrs es) (elements.catcher k' f' es') c d h is was own = absurd (cc)
alike (elements.host n k attrs es) (elements.provider c' k' x' es') c d h is was own = absurd (cc)
alike (elements.comp i k ps es) e' c d h is was own = absurd (cc)
alike (elements.list marked es) e' c d h is was own = absurd (cc)
alike (elements.boundary k f es) e' c d h is was own = absurd (cc)
alike (elements.catcher k f es) e' c d h is was own = absurd (cc)
alike (elements.provider i k x es) e' c d h is was own = absurd (cc)
