-- What a commit leaves is settled.
use Rattle.std.specs.Prelude.{Bool, List, None, Option, Some, [], cond, false, is_some, length, map, refl, suc, true, zero, ℕ, ℤ, ◌∷◌, ◌≡◌, ◌≤◌}
use Rattle.std.proofs.Common.{ap, arith, inl, inr, subst, sym, ◌∙◌}
use Rattle.rx_ast.specs.Syntax.{Component, Context, Program, components, contexts}
use Rattle.rx_rules.specs.Bounds.{depth_bound}
use Rattle.rx_rules.specs.Names.{component_at, component_number, root_name}
use Rattle.rx_elem.specs.Elements.{Element, Elements, listed}
use Rattle.rx_elem.specs.Numbers.{Numbers, numbered, numbered_host, numbered_in, numbered_instance, numbered_mark}
use Rattle.rx_elem.specs.Spots.{kept_instances, visible_instances}
use Rattle.rx_elem.specs.Trees.{Forest, Instance, Mark, Node, child, elements_in, is_hidden, node, none, of_boundary, of_catcher, of_host, of_instance, plain, vacant}
use Rattle.rx_meaning.specs.Body.{Inputs, body_of, ready}
use Rattle.rx_meaning.specs.Fresh.{Contexts, Place, Sight, before, default_contexts, default_of, depth_limit, fresh, made, place_of, rendered, resource_numbers, root_element, shape_of_component, values_of}
use Rattle.rx_meaning.specs.Touched.{contexts_below}
use Rattle.commit_laws.proofs.BodyLaw.{agreeing, body_agrees, body_mounted}
use Rattle.commit_laws.proofs.Leaving.{PlaceIs, rendered_is}
use Rattle.commit_laws.proofs.Naming.{HasComponents, some_got}
use Rattle.commit_laws.proofs.Settling.{after_commit, kept_values, new_values, tree_seen, visible_values}
use Rattle.commit_laws.specs.HiddenWaits.{AllSeen, NumberSeen, Seen}
use Rattle.commit_laws.proofs.Rendered.{AllRendered, AreApart, IsBodyIn, IsRendered}
use Rattle.rx_meaning.specs.Settled.{AllSettled, DoneBefore, HasValuesOf, IfHidden, IfSettled, IsBodyOf, IsOwnBy, IsSettled, Known, TargetsBelow, done_values, includes, number_of}
use Rattle.rx_rules.specs.Reads.{ReadsDeclared}
use Rattle.rx_queue.specs.Journal.{Resolution, resolutions_by, values_at}
use Rattle.rx_elem.specs.Elements as elements

-- Numbering

pub elements_stay : (c : Numbers) (ns : Forest) → elements_in (numbered_in c ns).1 ≡ elements_in ns
elements_stay c none = refl
elements_stay c (vacant ns) = ap (λ es. elements.null ∷ es) (elements_stay c ns)
elements_stay c (child (node e m ps fs) ns) = ap (λ es. e ∷ es) (elements_stay (numbered c (node e m ps fs)).0 ns)

none_stays : (c : Numbers) (ns : Forest) → ns ≡ none → (numbered_in c ns).1 ≡ none
none_stays c ns same = ap (λ (x : Forest). (numbered_in c x).1) same

pub mark_rises : (c : Numbers) (m : Mark) → c.instance ≤ (numbered_mark c m).0.instance
mark_rises c (of_instance i) = go i.number
  where
    go : (n : Option ℕ) → c.instance ≤ (numbered_instance c i n).0.instance
    go None = omega arith
    go (Some n) = omega arith
mark_rises c (of_host h) = go h
  where
    go : (n : Option ℕ) → c.instance ≤ (numbered_host c n).0.instance
    go None = omega arith
    go (Some n) = omega arith
mark_rises c plain = omega arith
mark_rises c (of_boundary b) = omega arith
mark_rises c (of_catcher k) = omega arith

mutual
  pub number_rises : (c : Numbers) (n : Node) → c.instance ≤ (numbered c n).0.instance
  number_rises c (node e m ns fs) =
      omega (arith, mark_rises c m, numbers_rise (numbered_mark c m).0 ns, numbers_rise (numbered_in (numbered_mark c m).0 ns).0 fs)

  pub numbers_rise : (c : Numbers) (ns : Forest) → c.instance ≤ (numbered_in c ns).0.instance
  numbers_rise c none = omega arith
  numbers_rise c (vacant ns) = numbers_rise c ns
  numbers_rise c (child n ns) = omega (arith, number_rises c n, numbers_rise (numbered c n).0 ns)

hidden_stays : (c : Numbers) (m : Mark) → is_hidden (numbered_mark c m).1 ≡ is_hidden m
hidden_stays c (of_instance i) = go i.number
  where
    go : (n : Option ℕ) → is_hidden (numbered_instance c i n).1 ≡ false
    go None = refl
    go (Some n) = refl
hidden_stays c (of_host h) = go h
  where
    go : (n : Option ℕ) → is_hidden (numbered_host c n).1 ≡ false
    go None = refl
    go (Some n) = refl
hidden_stays c plain = refl
hidden_stays c (of_boundary b) = refl
hidden_stays c (of_catcher k) = refl

host_marked : (c : Numbers) (h : Option ℕ) → (g : Option ℕ) × ((numbered_host c h).1 ≡ of_host g)
host_marked c None = (Some c.host, refl)
host_marked c (Some n) = (Some n, refl)

-- what is asked of a component
abbrev Asks : Type 1
Asks = ℕ → List ℤ → Elements → Instance → List Element → Type 0

-- an instance keeps what is asked of it when it is numbered
abbrev Carries : Numbers → (visible kept : List ℕ) → Bool → Asks → Asks → Type 0
Carries c visible kept v B D =
    (k : ℕ) (props : List ℤ) (given : Elements) (i : Instance) (es : List Element) → NumberSeen visible kept v (number_of (numbered_instance c i i.number).1) → B k props given i es
    → (j : Instance) × ((numbered_instance c i i.number).1 ≡ of_instance j) × D k props given j es

own_carried : (c : Numbers) (visible kept : List ℕ) (v : Bool) (B D : Asks) → Carries c visible kept v B D
    → (e : Element) (m : Mark) (ns fs ms gs : Forest) → elements_in ms ≡ elements_in ns → (ns ≡ none → ms ≡ none) → elements_in gs ≡ elements_in fs → (fs ≡ none → gs ≡ none)
    → NumberSeen visible kept v (number_of (numbered_mark c m).1) → IsOwnBy B e m ns fs → IsOwnBy D e (numbered_mark c m).1 ms gs
own_carried c visible kept v B D carry elements.null m ns fs ms gs a b x y seen own = absurd own
own_carried c visible kept v B D carry (elements.text t) m ns fs ms gs a b x y seen own =
    let host = host_marked c own.0 in
    (host.0, ap (λ (q : Mark). (numbered_mark c q).1) own.1 ∙ host.1, b own.2, y own.3)
own_carried c visible kept v B D carry (elements.host n key attrs es) m ns fs ms gs a b x y seen own =
    let host = host_marked c own.0 in
    (host.0, ap (λ (q : Mark). (numbered_mark c q).1) own.1 ∙ host.1, a ∙ own.2, y own.3)
own_carried c visible kept v B D carry (elements.comp k key props given) m ns fs ms gs a b x y seen own =
    let carried = carry k props given own.0 (elements_in ns) (subst (λ (q : Mark). NumberSeen visible kept v (number_of (numbered_mark c q).1)) own.1 seen) own.2 in
    (carried.0, ap (λ (q : Mark). (numbered_mark c q).1) own.1 ∙ carried.1, subst (λ (es : List Element). D k props given carried.0 es) (sym a) carried.2, y own.3)
own_carried c visible kept v B D carry (elements.list marked es) m ns fs ms gs a b x y seen own =
    (ap (λ (q : Mark). (numbered_mark c q).1) own.0, a ∙ own.1, y own.2)
own_carried c visible kept v B D carry (elements.boundary key f es) m ns fs ms gs a b x y seen (inl own) =
    inl (ap (λ (q : Mark). (numbered_mark c q).1) own.0, a ∙ own.1, y own.2)
own_carried c visible kept v B D carry (elements.boundary key f es) m ns fs ms gs a b x y seen (inr own) =
    inr (own.0, ap (λ (q : Mark). (numbered_mark c q).1) own.1, x ∙ own.2)
own_carried c visible kept v B D carry (elements.catcher key f es) m ns fs ms gs a b x y seen (inl own) =
    inl (ap (λ (q : Mark). (numbered_mark c q).1) own.0, a ∙ own.1, y own.2)
own_carried c visible kept v B D carry (elements.catcher key f es) m ns fs ms gs a b x y seen (inr own) =
    inr (own.0, ap (λ (q : Mark). (numbered_mark c q).1) own.1, b own.2, x ∙ own.3)
own_carried c visible kept v B D carry (elements.provider k key z es) m ns fs ms gs a b x y seen own =
    (ap (λ (q : Mark). (numbered_mark c q).1) own.0, a ∙ own.1, y own.2)

module _ (s : Sight) (rs : List Resolution) (visible kept : List ℕ) (before : DoneBefore s.cut s.journal.updates)
    (apart : (i : ℕ) → includes kept i ≡ true → includes visible i ≡ false) (next : ℕ) (below : TargetsBelow next s.journal.updates) (more : HasValuesOf rs (resolutions_by s.cut s.journal)) where
  -- what was known before the commit, and after it
  abbrev old_known : Known
  old_known = record { updates = s.journal.updates; resolutions = rs }

  abbrev new_known : Known
  new_known = after_commit s visible kept before

  -- the versions of the resources, and the values of these that the render sees
  abbrev all_versions : (ℕ → ℕ) → List ℕ
  all_versions version = map version (resource_numbers s.program)

  abbrev all_values : (ℕ → ℕ) → List (Option ℤ)
  all_values version = values_at (resolutions_by s.cut s.journal) (all_versions version)

  -- Bodies

  seen_body : (cs : Contexts) (k : ℕ) (props : List ℤ) (given : Elements) (i : Instance) (es : List Element) (n : ℕ) → i.number ≡ Some n → includes visible n ≡ true
      → IsBodyIn s cs k props given i es → IsBodyOf s.program new_known k props given i es
  seen_body cs k props given i es n number seen b =
      record {
        component = b.component;
        is_component = b.is_component;
        is_of = b.is_of;
        instance = n;
        is_numbered = number;
        initials = b.initials;
        gives = λ ds version agrees same. go ds version (values_of s i) (values number) (b.gives ds version agrees same);
      }
    where
      values : i.number ≡ Some n → values_of s i ≡ Some (done_values s.program new_known n i.initials)
      values same = rw same (ap Some (visible_values s visible kept before n seen i.initials))

      go : (ds : Contexts) (version : ℕ → ℕ) (h : Option (List ℤ)) → h ≡ Some (done_values s.program new_known n i.initials)
          → body_of s.program b.component (record { props = props; children = listed given; hooks = h; contexts = ds; versions = all_versions version; resources = all_values version }) ≡ ready es i.effects b.initials i.reads i.versions
          → body_of s.program b.component (record { props = props; children = listed given; hooks = Some (done_values s.program new_known n i.initials); contexts = ds; versions = all_versions version; resources = all_values version })
          ≡ ready es i.effects b.initials i.reads i.versions
      go ds version h same x = rw same at x

  fresh_body : (cs : Contexts) (k : ℕ) (props : List ℤ) (given : Elements) (i : Instance) (es : List Element) (n : ℕ) → i.number ≡ None → next ≤ n
      → IsBodyIn s cs k props given i es → IsBodyOf s.program new_known k props given (record i { number = Some n }) es
  fresh_body cs k props given i es n number late b =
      record {
        component = b.component;
        is_component = b.is_component;
        is_of = b.is_of;
        instance = n;
        is_numbered = refl;
        initials = [];
        gives = λ ds version agrees same. rw mounted
            (body_mounted s.program (record { props = props; children = listed given; hooks = None; contexts = ds; versions = all_versions version; resources = all_values version })
            b.initials b.component es i.effects i.reads i.versions (go ds version (values_of s i) unnumbered (b.gives ds version agrees same)));
      }
    where
      unnumbered : values_of s i ≡ None
      unnumbered = rw number refl

      go : (ds : Contexts) (version : ℕ → ℕ) (h : Option (List ℤ)) → h ≡ None
          → body_of s.program b.component (record { props = props; children = listed given; hooks = h; contexts = ds; versions = all_versions version; resources = all_values version }) ≡ ready es i.effects b.initials i.reads i.versions
          → body_of s.program b.component (record { props = props; children = listed given; hooks = None; contexts = ds; versions = all_versions version; resources = all_values version })
          ≡ ready es i.effects b.initials i.reads i.versions
      go ds version h same x = rw same at x

      mounted : done_values s.program new_known n i.initials ≡ b.initials
      mounted = new_values s visible kept before n next late below i.initials ∙ b.mounts number

  kept_body : (k : ℕ) (props : List ℤ) (given : Elements) (i : Instance) (es : List Element) → ((n : ℕ) → i.number ≡ Some n → includes kept n ≡ true)
      → IsBodyOf s.program old_known k props given i es → IsBodyOf s.program new_known k props given i es
  kept_body k props given i es seen b =
      record {
        component = b.component;
        is_component = b.is_component;
        is_of = b.is_of;
        instance = b.instance;
        is_numbered = b.is_numbered;
        initials = b.initials;
        gives = λ ds version agrees same. rw (sym (kept_values s visible kept before rs b.instance (apart b.instance (seen b.instance b.is_numbered)) i.initials))
            (body_agrees s.program (was ds version) ds version (all_versions version) (all_values version) b.component es i.effects b.initials i.reads i.versions
            (agreeing s.program (was ds version) ds version version rs (resolutions_by s.cut s.journal) refl refl more i.reads i.versions agrees same)
            (b.gives ds version agrees same));
      }
    where
      was : Contexts → (ℕ → ℕ) → Inputs
      was ds version =
          record {
            props = props;
            children = listed given;
            hooks = Some (done_values s.program old_known b.instance i.initials);
            contexts = ds;
            versions = all_versions version;
            resources = values_at rs (all_versions version);
          }

  carry_visible : (c : Numbers) → next ≤ c.instance → (cs : Contexts) → Carries c visible kept true (IsBodyIn s cs) (IsBodyOf s.program new_known)
  carry_visible c late cs k props given i es seen b = go i.number refl seen
    where
      go : (n : Option ℕ) → i.number ≡ n → NumberSeen visible kept true (number_of (numbered_instance c i n).1)
          → (j : Instance) × ((numbered_instance c i n).1 ≡ of_instance j) × IsBodyOf s.program new_known k props given j es
      go None number l = (record i { number = Some c.instance }, refl, fresh_body cs k props given i es c.instance number late b)
      go (Some n) number l = (i, refl, seen_body cs k props given i es n number (l n number) b)

  carry_kept : (c : Numbers) → Carries c visible kept false (IsBodyOf s.program old_known) (IsBodyOf s.program new_known)
  carry_kept c k props given i es seen b = go i.number refl seen
    where
      go : (n : Option ℕ) → i.number ≡ n → NumberSeen visible kept false (number_of (numbered_instance c i n).1)
          → (j : Instance) × ((numbered_instance c i n).1 ≡ of_instance j) × IsBodyOf s.program new_known k props given j es
      go None number l = absurd (cc (number, b.is_numbered))
      go (Some n) number l = (i, refl, kept_body k props given i es l b)

  -- Trees

  mutual
    kept_settles : (c : Numbers) (n : Node) → Seen visible kept false (numbered c n).1 → IsSettled s.program old_known n → IsSettled s.program new_known (numbered c n).1
    kept_settles c (node e m ns fs) seen h = (
      own_carried c visible kept false (IsBodyOf s.program old_known) (IsBodyOf s.program new_known) (carry_kept c) e m ns fs
          (numbered_in (numbered_mark c m).0 ns).1 (numbered_in (numbered_in (numbered_mark c m).0 ns).0 fs).1
          (elements_stay (numbered_mark c m).0 ns) (none_stays (numbered_mark c m).0 ns)
          (elements_stay (numbered_in (numbered_mark c m).0 ns).0 fs) (none_stays (numbered_in (numbered_mark c m).0 ns).0 fs)
          seen.0 h.0,
      all_kept_settle (numbered_mark c m).0 ns (still_kept (is_hidden (numbered_mark c m).1) seen.1) h.1,
      all_kept_settle (numbered_in (numbered_mark c m).0 ns).0 fs seen.2 h.2,
    )
      where
        still_kept : (b : Bool) → AllSeen visible kept (cond b false false) (numbered_in (numbered_mark c m).0 ns).1
            → AllSeen visible kept false (numbered_in (numbered_mark c m).0 ns).1
        still_kept true x = x
        still_kept false x = x

    all_kept_settle : (c : Numbers) (ns : Forest) → AllSeen visible kept false (numbered_in c ns).1 → AllSettled s.program old_known ns → AllSettled s.program new_known (numbered_in c ns).1
    all_kept_settle c none seen h = tt
    all_kept_settle c (vacant ns) seen h = all_kept_settle c ns seen h
    all_kept_settle c (child n ns) seen h = (kept_settles c n seen.0 h.0, all_kept_settle (numbered c n).0 ns seen.1 h.1)

  pick : {A B R : Type 0} (b : Bool) (ns : Forest) → IfHidden b A B → AllSeen visible kept (cond b false true) ns
      → (A → AllSeen visible kept false ns → R) → (B → AllSeen visible kept true ns → R) → R
  pick true ns h seen f g = f h seen
  pick false ns h seen f g = g h seen

  mutual
    rendered_settles : (c : Numbers) → next ≤ c.instance → (cs : Contexts) (n : Node) → Seen visible kept true (numbered c n).1
        → IsRendered s old_known cs n → IsSettled s.program new_known (numbered c n).1
    rendered_settles c late cs (node e m ns fs) seen h = (
      own_carried c visible kept true (IsBodyIn s cs) (IsBodyOf s.program new_known) (carry_visible c late cs) e m ns fs
          (numbered_in (numbered_mark c m).0 ns).1 (numbered_in (numbered_in (numbered_mark c m).0 ns).0 fs).1
          (elements_stay (numbered_mark c m).0 ns) (none_stays (numbered_mark c m).0 ns)
          (elements_stay (numbered_in (numbered_mark c m).0 ns).0 fs) (none_stays (numbered_in (numbered_mark c m).0 ns).0 fs)
          seen.0 h.0,
      pick {A = AllSettled s.program old_known ns} {B = AllRendered s old_known (contexts_below e cs) ns} {R = AllSettled s.program new_known (numbered_in (numbered_mark c m).0 ns).1}
          (is_hidden m) (numbered_in (numbered_mark c m).0 ns).1 h.1
          (subst (λ (b : Bool). AllSeen visible kept (cond b false true) (numbered_in (numbered_mark c m).0 ns).1) (hidden_stays c m) seen.1)
          (λ x y. all_kept_settle (numbered_mark c m).0 ns y x)
          (λ x y. all_rendered_settle (numbered_mark c m).0 (omega (arith, mark_rises c m)) (contexts_below e cs) ns y x),
      all_rendered_settle (numbered_in (numbered_mark c m).0 ns).0 (omega (arith, mark_rises c m, numbers_rise (numbered_mark c m).0 ns)) cs fs seen.2 h.2,
    )

    all_rendered_settle : (c : Numbers) → next ≤ c.instance → (cs : Contexts) (ns : Forest) → AllSeen visible kept true (numbered_in c ns).1
        → AllRendered s old_known cs ns → AllSettled s.program new_known (numbered_in c ns).1
    all_rendered_settle c late cs none seen h = tt
    all_rendered_settle c late cs (vacant ns) seen h = all_rendered_settle c late cs ns seen h
    all_rendered_settle c late cs (child n ns) seen h =
        (rendered_settles c late cs n seen.0 h.0, all_rendered_settle (numbered c n).0 (omega (arith, number_rises c n)) cs ns seen.1 h.1)

-- A render that gives a tree

pub root_found : (n : ℕ) (s : Sight) (cs : Contexts) (c : ℕ) (key : _) (props : List ℤ) (given : Elements) (old : Option Node) (new : Node)
    → rendered n s cs (elements.comp c key props given) old ≡ made new → is_some (component_at s.program c) ≡ true
unfolding rendered
root_found zero s cs c key props given old new h = absurd (cc h)
root_found (suc n) s cs c key props given old new h = go (component_at s.program c) h
  where
    go : (d : Option Component) → place_of (rendered n s) (elements.comp c key props given) old (shape_of_component s cs c props given old d) ≡ made new → is_some d ≡ true
    go None k = absurd (cc k)
    go (Some d) k = refl

defaults_length : (p : Program) (cs : List Context) → length (map (default_of p) cs) ≡ length cs
defaults_length p [] = refl
defaults_length p (c ∷ cs) = omega (arith, defaults_length p cs)

pub fresh_is : (s : Sight) (k : Known) (old : Option Node) (new : Node) → depth_bound s.program ≤ depth_limit → ReadsDeclared s.program → IfSettled s.program k old → fresh s old ≡ made new
    → IsRendered s k (default_contexts s.program) new
unfolding fresh depth_bound
fresh_is s k old new deep declared settled gives =
    let root = root_found depth_limit s (default_contexts s.program) (component_number s.program root_name) None [] elements.none old new gives in
    let some : HasComponents s.program = some_got (components s.program) (component_number s.program root_name) root in
    go (rendered depth_limit s (default_contexts s.program) (root_element s.program) old) gives
    (rendered_is s k declared some depth_limit (default_contexts s.program) (root_element s.program) old (defaults_length s.program (contexts s.program)) (root, tt) (omega arith) settled)
  where
    go : (p : Place) → p ≡ made new → PlaceIs s k (default_contexts s.program) (root_element s.program) p → IsRendered s k (default_contexts s.program) new
    go p same h = let x : PlaceIs s k (default_contexts s.program) (root_element s.program) (made new) = rw same at h in x.1

-- What a commit leaves is settled, by the marks that it sets.
pub commit_settles : (s : Sight) (old : Option Node) (new : Node) (from : Numbers) (rs : List Resolution) → depth_bound s.program ≤ depth_limit → ReadsDeclared s.program
    → (before : DoneBefore s.cut s.journal.updates) → TargetsBelow from.instance s.journal.updates → HasValuesOf rs (resolutions_by s.cut s.journal)
    → IfSettled s.program (record { updates = s.journal.updates; resolutions = rs }) old
    → fresh s old ≡ made new → AreApart (numbered from new).1
    → IsSettled s.program (after_commit s (visible_instances (Some (numbered from new).1)) (kept_instances (Some (numbered from new).1)) before) (numbered from new).1
commit_settles s old new from rs deep declared before targets more settled gives apart =
    rendered_settles s rs (visible_instances (Some (numbered from new).1)) (kept_instances (Some (numbered from new).1)) before apart from.instance targets more
    from (omega arith) (default_contexts s.program) new (tree_seen (numbered from new).1)
    (fresh_is s (record { updates = s.journal.updates; resolutions = rs }) old new deep declared settled gives)
