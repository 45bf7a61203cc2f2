-- What keeps its old children: a clone, and a component without a cause.
use Rattle.std.specs.Prelude.{◌≡◌, ℕ, ℤ, Bool, true, false, not, ◌&&◌, List, Option, Some, None, Result, Ok, Err, IfOk, IsSome, is_some, option_map, [], ◌∷◌}
use Rattle.std.specs.Option.{option_map_or}
use Rattle.std.proofs.Common.{refl, sym, ap, ◌∙◌, subst, inl, inr}
use Rattle.rx_ast.specs.Syntax.{Program, Component}
use Rattle.rx_rules.specs.Names.{component_at}
use Rattle.rx_elem.specs.Elements.{Element, Elements, Key, listed}
use Rattle.rx_elem.specs.Elements as elements
use Rattle.rx_elem.specs.Trees.{Instance, Mark, of_instance, Node, node, Forest, elements_in, mark_of, children_if, is_hidden, instance_in, caught_in, old_caught, fallback_if}
use Rattle.rx_fiber.specs.Surround.{fallback_in, is_catcher}
use Rattle.rx_elem.proofs.Deciding.{or_fails}
use Rattle.rx_elem.proofs.SelfMatch.{NoNull}
use Rattle.rx_lists.specs.Shapes.{Shape}
use Rattle.rx_links.specs.Drafts.{Trees}
use Rattle.rx_links.specs.Readers.{made_value_of}
use Rattle.rx_meaning.specs.Body.{body_of, ready}
use Rattle.rx_meaning.specs.Fresh.{Sight, Contexts, one_list, part, hook_values, inputs_at, instance_after, old_instance, resources_seen, shape_of_body, shape_of_component, version_seen, versions_seen}
use Rattle.rx_meaning.specs.Settled.{Known, IsBodyOf, IsOwn, IfSettled, done_values, known_by, read_anew, refreshed}
use Rattle.commit_laws.proofs.TakeOver.{settled_no_null}
use Rattle.rx_fiber.specs.Fibers.{Fiber}
use Rattle.rx_fiber.specs.Reading.{IsOld}
use Rattle.rx_causes.specs.declared.scene.Scene.{Scene}
use Rattle.rx_causes.specs.Marks.{mark_at, keeps_children}
use Rattle.rx_causes.specs.Scenes.{IsCalmAt, IsSceneOf, TellsCalm, number_in, read_another, version_in}
use Rattle.rx_causes.proofs.Marks.{mark_is}
use Rattle.rx_causes.proofs.Causes.{shown_again}
use Rattle.rx_children.specs.Nodes.{parts_in, begun_children}
use Rattle.rx_queue.specs.History.{Answers}
use Rattle.rx_hooks.specs.declared.hook.Hook.{Hook}
use Rattle.rx_hooks.specs.Hooks.{HookHistory, HooksStandFor}
use Rattle.rx_hook_store.specs.Gives.{has_work_in}
use Rattle.rx_node.specs.MarkView.{instance_seen}
use Rattle.rx_node.specs.declared.mark.Instance as code
use Rattle.rx_children.specs.Origins.{StoodIn}
use Rattle.rx_begin.proofs.Standing.{both_true}

-- The children of an old node

pub old_no_null : (p : Program) (k : Known) (old : Option Node) → IfSettled p k old → NoNull (children_if old)
old_no_null p k None h = tt
old_no_null p k (Some (node e m ns fs)) h = settled_no_null p k ns h.1

-- the children of a node of no component are those of its element
own_children : (p : Program) (k : Known) (e : Element) (m : Mark) (ns fs : Forest) → IsOwn p k e m ns fs → parts_in e ≡ None → is_hidden m ≡ false → (is_catcher e ≡ true → caught_in m ≡ None) → begun_children e ≡ elements_in ns
own_children p k elements.null m ns fs own none_in shown fine = absurd own
own_children p k (elements.text t) m ns fs own none_in shown fine = sym (ap elements_in own.2)
own_children p k (elements.host n key attrs es) m ns fs own none_in shown fine = sym own.2
own_children p k (elements.comp c key props given) m ns fs own none_in shown fine = absurd (let q : ⊥ = cc in q)
own_children p k (elements.list marked es) m ns fs own none_in shown fine = sym own.1
own_children p k (elements.boundary key f es) m ns fs (inl own) none_in shown fine = sym own.1
own_children p k (elements.catcher key f es) m ns fs (inl own) none_in shown fine = sym own.1
own_children p k (elements.catcher key f es) m ns fs (inr own) none_in shown fine = absurd (let g = sym (ap caught_in own.1) ∙ fine refl in let q : ⊥ = cc in q)
own_children p k (elements.boundary key f es) m ns fs (inr own) none_in shown fine = absurd (let q : true ≡ false = sym (ap is_hidden own.1) ∙ shown in let r : ⊥ = cc in r)
own_children p k (elements.provider c key x es) m ns fs own none_in shown fine = sym own.1

-- so a place that keeps its children has those of its element
pub kept_children : (p : Program) (k : Known) (c : Shape Fiber) (o : Option ℕ) (old : Option Node) (e : Element) (cloned : Bool) → IsOld c o old → IfSettled p k old → (cloned ≡ true → StoodIn old e)
    → parts_in e ≡ None → (is_catcher e ≡ true → old_caught old ≡ None) → keeps_children cloned (mark_at c o) ≡ true → begun_children e ≡ elements_in (children_if old)
kept_children p k c o old e cloned is settled stood none_in fine kept =
    let (so, shown) = both_true cloned (not (option_map_or is_hidden (mark_at c o) false)) kept in by_old old fine (mark_is c o old is) settled (stood so) (shown_again (option_map_or is_hidden (mark_at c o) false) shown)
  where
    by_old : (x : Option Node) → (is_catcher e ≡ true → old_caught x ≡ None) → mark_at c o ≡ option_map mark_of x → IfSettled p k x → StoodIn x e → option_map_or is_hidden (mark_at c o) false ≡ false → begun_children e ≡ elements_in (children_if x)
    by_old None fine mark h same shown = cc
    by_old (Some (node f m ns fs)) fine mark h same shown =
        let g : f ≡ e = cc in
        let l : is_hidden m ≡ false = sym (ap (λ q. option_map_or is_hidden q false) mark) ∙ shown in
        subst (λ y. begun_children y ≡ elements_in ns) g (own_children p k f m ns fs h.0 (ap parts_in g ∙ none_in) l (λ so. fine (ap is_catcher (sym g) ∙ so)))

-- Components

same_inputs : (s : Sight) (cs : Contexts) (d : Component) (props : List ℤ) (given : Elements) (i : Instance) (n : ℕ) (values : List ℤ) → i.number ≡ Some n → hook_values s n i.initials ≡ values
    → inputs_at s cs props given (Some i) ≡ record { props = props; children = listed given; hooks = Some values; contexts = cs; versions = versions_seen s; resources = resources_seen s }
same_inputs s cs d props given i n values number same = rw (number, same) refl

same_instance : (c : ℕ) (i : Instance) (initials : List ℤ) → i.component ≡ c → instance_after c (Some i) initials i.reads i.versions i.effects ≡ i
same_instance c i initials same = rw (sym same) refl

body_shape : (s : Sight) (cs : Contexts) (c : ℕ) (key : Key) (props : List ℤ) (given : Elements) (i : Instance) (ns fs : Forest) (e : Element) → IsBodyOf s.program (known_by s) c props given i (elements_in ns) → IsCalmAt s cs i
    → shape_of_component s cs c props given (Some (node e (of_instance i) ns fs)) (component_at s.program c) ≡ one_list (of_instance i) (part cs (elements_in ns) ns)
body_shape s cs c key props given i ns fs e body calm =
    let same_number : calm.number ≡ body.instance = (let f : Some calm.number ≡ Some body.instance = sym calm.is_numbered ∙ body.is_numbered in cc) in
    let values : hook_values s body.instance i.initials ≡ done_values s.program (known_by s) body.instance i.initials =
    subst (λ n. hook_values s n i.initials ≡ done_values s.program (known_by s) n i.initials) same_number calm.values in
    let again : body_of s.program body.component (inputs_at s cs props given (Some i)) ≡ ready (elements_in ns) i.effects body.initials i.reads i.versions =
    ap (body_of s.program body.component)
    (same_inputs s cs body.component props given i body.instance (done_values s.program (known_by s) body.instance i.initials) body.is_numbered values)
    ∙ body.gives cs (version_seen s) calm.reads calm.versions in
    ap (shape_of_component s cs c props given (Some (node e (of_instance i) ns fs))) body.is_component
    ∙ (ap (shape_of_body cs c (Some (node e (of_instance i) ns fs))) again
    ∙ ap (λ j. one_list (of_instance j) (part cs (elements_in ns) ns)) (same_instance c i body.initials body.is_of))

-- A component without a cause gives what its old node has.
pub calm_shape : (s : Sight) (cs : Contexts) (c : ℕ) (key : Key) (props : List ℤ) (given : Elements) (old : Option Node) (i : Instance) → IfSettled s.program (known_by s) old
    → StoodIn old (elements.comp c key props given) → old_instance old ≡ Some i → IsCalmAt s cs i
    → shape_of_component s cs c props given old (component_at s.program c) ≡ one_list (of_instance i) (part cs (elements_in (children_if old)) (children_if old))
calm_shape s cs c key props given None i settled same there calm = cc
calm_shape s cs c key props given (Some (node e m ns fs)) i settled same there calm =
    let f : e ≡ elements.comp c key props given = cc in by_element (subst (λ y. IsOwn s.program (known_by s) y m ns fs) f settled.0)
  where
    by_element : IsOwn s.program (known_by s) (elements.comp c key props given) m ns fs
        → shape_of_component s cs c props given (Some (node e m ns fs)) (component_at s.program c) ≡ one_list (of_instance i) (part cs (elements_in ns) ns)
    by_element own =
        let j : own.0 ≡ i = (let f : Some own.0 ≡ Some i = sym (ap instance_in own.1) ∙ there in cc) in
        let k : m ≡ of_instance i = own.1 ∙ ap of_instance j in
        subst (λ x. shape_of_component s cs c props given (Some (node e x ns fs)) (component_at s.program c) ≡ one_list (of_instance i) (part cs (elements_in ns) ns)) (sym k)
        (body_shape s cs c key props given i ns fs e (subst (λ x. IsBodyOf s.program (known_by s) c props given x (elements_in ns)) j own.2) calm)

-- What is told of a cause

-- the versions of a scene are those that the render sees
pub seen_versions : (scene : Scene) (s : Sight) → IsSceneOf scene s → version_in scene ≡ version_seen s
seen_versions scene s is = λ i r. is.versions r i

-- what it read is the same if nothing of it is another
pub reads_same : (scene : Scene) (cs : Contexts) (i : Instance) (anew : Bool) → anew ≡ read_another scene cs i → not anew ≡ true → (read_anew cs i.reads ≡ false) × (refreshed (version_in scene) i.versions ≡ false)
reads_same scene cs i anew is calm = or_fails (read_anew cs i.reads) (refreshed (version_in scene) i.versions) (sym is ∙ shown_again anew calm)

pub work_decides : (work anew : Bool) → work ≡ true → not work ≡ (not work && not anew)
work_decides work anew h = rw h refl

-- from a number, by what the hooks and the reads tell
pub calm_told : (kept : ℕ → Option (List Hook)) (scene : Scene) (cs : Contexts) (o : Option code.Instance) (i : code.Instance) (n : ℕ) (work anew calm : Bool) → o ≡ Some i → i.number ≡ Some n
    → ((answers : Answers) (hooks : List Hook) (histories : List HookHistory) → kept n ≡ Some hooks → HooksStandFor answers hooks histories → work ≡ has_work_in scene.lanes scene.cut histories)
    → anew ≡ read_another scene cs (instance_seen i) → calm ≡ (not work && not anew) → TellsCalm scene kept cs (option_map instance_seen o) calm
calm_told kept scene cs o i n work anew calm is number tells reads same =
    let seen : option_map instance_seen o ≡ Some (instance_seen i) = ap (option_map instance_seen) is in
    subst (λ x. TellsCalm scene kept cs x calm) (sym seen)
    (record {
      work = work;
      tells = λ m answers hooks histories there have stand.
          let q : n ≡ m = (let f : Some n ≡ Some m = sym number ∙ there in cc) in tells answers hooks histories (ap kept q ∙ have) stand;
      is = same ∙ (ap (λ b. not work && not b) reads ∙ ap (λ x. is_some x && (not work && not (read_another scene cs (instance_seen i)))) (sym number));
    })

-- without a number nothing is calm
pub none_calm : (kept : ℕ → Option (List Hook)) (scene : Scene) (cs : Contexts) (o : Option Instance) → number_in o ≡ None → TellsCalm scene kept cs o false
none_calm kept scene cs o gone = record {
  work = true;
  tells = λ n answers hooks histories there. absurd (let f : None ≡ Some n = sym gone ∙ there in let q : ⊥ = cc in q);
  is = ap (λ x. is_some x && false) (sym gone);
}

-- What is told of the fiber whose place begins

pub parts_here : (t : Trees Fiber) (q : ℕ) (w v : Fiber) (e : Element) (x : Option (ℕ × (List ℤ × List Element))) → Some w ≡ made_value_of t.draft q → Some v ≡ made_value_of t.draft q → e ≡ w.element
    → parts_in e ≡ x → parts_in v.element ≡ x
parts_here t q w v e x is here same parts = let so : w ≡ v = cc in ap (λ u. parts_in u.element) (sym so) ∙ (ap parts_in (sym same) ∙ parts)

pub if_both : {A E : Type 0} (r : Result A E) (P Q : A → Type 0) {R : A → Type 0} → ((a : A) → P a → R a → Q a) → IfOk r P → IfOk r R → IfOk r Q
if_both (Ok a) P Q f h g = f a h g
if_both (Err e) P Q f h g = tt

pub no_parts : (x : Option (ℕ × (List ℤ × List Element))) → x ≡ None → IsSome x → ⊥
no_parts None e h = let q : ⊥ = cc in q
no_parts (Some y) e h = let q : ⊥ = cc in q

-- The fallback of an old node

pub fallback_no_null : (p : Program) (k : Known) (old : Option Node) → IfSettled p k old → NoNull (fallback_if old)
fallback_no_null p k None h = tt
fallback_no_null p k (Some (node e m ns fs)) h = settled_no_null p k fs h.2

own_caught : (p : Program) (k : Known) (e : Element) (m : Mark) (ns fs : Forest) (x : ℤ) → IsOwn p k e m ns fs → is_catcher e ≡ true → caught_in m ≡ Some x → fallback_in e ∷ [] ≡ elements_in fs
own_caught p k elements.null m ns fs x own so caught = cc
own_caught p k (elements.text t) m ns fs x own so caught = cc
own_caught p k (elements.host n key attrs es) m ns fs x own so caught = cc
own_caught p k (elements.comp c key props given) m ns fs x own so caught = cc
own_caught p k (elements.list marked es) m ns fs x own so caught = cc
own_caught p k (elements.boundary key f es) m ns fs x own so caught = cc
own_caught p k (elements.catcher key f es) m ns fs x (inl own) so caught = absurd (let g = sym (ap caught_in own.0) ∙ caught in let q : ⊥ = cc in q)
own_caught p k (elements.catcher key f es) m ns fs x (inr own) so caught = sym own.3
own_caught p k (elements.provider c key y es) m ns fs x own so caught = cc

-- that of an error boundary that had caught a value, given again, is that of its element
pub caught_fallback : (p : Program) (k : Known) (e : Element) (old : Option Node) (x : ℤ) → IfSettled p k old → StoodIn old e → is_catcher e ≡ true → old_caught old ≡ Some x → fallback_in e ∷ [] ≡ elements_in (fallback_if old)
caught_fallback p k e None x settled same so caught = cc
caught_fallback p k e (Some (node f m ns fs)) x settled same so caught =
    let g : f ≡ e = cc in
    own_caught p k e m ns fs x (subst (λ y. IsOwn p k y m ns fs) g settled.0) so caught
