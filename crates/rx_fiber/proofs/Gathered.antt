-- What is at or below fibers, taken together.
use Rattle.std.specs.Prelude.{◌≡◌, ◌||◌, ℕ, Bool, true, false, Option, Some, None, eqb, if◌then◌else◌}
use Rattle.std.proofs.Common.{refl, sym, ap, ◌∙◌, subst}
use Rattle.rx_lists.specs.Shapes.{Shape, none, fiber, first, Holds}
use Rattle.rx_links.specs.Drafts.{or_else, list_at, kids_at, kids_of, kids_under, shape_or_none}
use Rattle.rx_links.specs.Readers.{IsLinked, value_of, rest_of, list_from}
use Rattle.rx_fiber.specs.declared.subtree.Subtree.{Subtree}
use Rattle.rx_fiber.specs.Fibers.{Fiber, nothing, joined}
use Rattle.rx_fiber.specs.Subtrees.{subtrees_of, IsGathered, IsGatheredOver}

or_again : (a b c : Bool) → (a || b) || c ≡ a || (b || c)
or_again true b c = refl
or_again false b c = refl

or_false : (a : Bool) → a || false ≡ a
or_false true = refl
or_false false = refl

or_same : (a b : Bool) → a || (a || b) ≡ a || b
or_same true b = refl
or_same false b = refl

abbrev of_four : Bool → Bool → Bool → Bool → Subtree
of_four x u y z = record { reads = x; uses = u; hides = y; instances = z }

four : (x u y z a v b c : Bool) → x ≡ a → u ≡ v → y ≡ b → z ≡ c → of_four x u y z ≡ of_four a v b c
four x u y z a v b c e h f g = rw (e, h, f, g) refl

pub joined_again : (a b c : Subtree) → joined (joined a b) c ≡ joined a (joined b c)
joined_again a b c =
    four _ _ _ _ _ _ _ _ (or_again a.reads b.reads c.reads) (or_again a.uses b.uses c.uses) (or_again a.hides b.hides c.hides) (or_again a.instances b.instances c.instances)

pub joined_nothing : (a : Subtree) → joined a nothing ≡ a
joined_nothing a = four _ _ _ _ _ _ _ _ (or_false a.reads) (or_false a.uses) (or_false a.hides) (or_false a.instances)

pub joined_same : (a b : Subtree) → joined a (joined a b) ≡ joined a b
joined_same a b = four _ _ _ _ _ _ _ _ (or_same a.reads b.reads) (or_same a.uses b.uses) (or_same a.hides b.hides) (or_same a.instances b.instances)

-- one fiber of a list is taken more
pub one_joined : (c : Shape Fiber) → IsLinked c → (i : ℕ) → Holds c i → (next behind : Option ℕ) (v : Fiber) → next ≡ Some i → Some v ≡ value_of c i → behind ≡ first (rest_of c i)
    → (before after whole : Subtree) → joined before (subtrees_of (list_from c next)) ≡ whole → after ≡ joined before v.subtree → joined after (subtrees_of (list_from c behind)) ≡ whole
one_joined c linked i h next behind v is value leads before after whole tells more =
    let (w, w_is, list) = linked.list i h in
    let same : v ≡ w = (let q : Some v ≡ Some w = value ∙ w_is in cc) in
    let rest : list_from c behind ≡ rest_of c i = ap (list_from c) leads ∙ sym (linked.rest i h) in
    let here : subtrees_of (list_from c next) ≡ joined w.subtree (subtrees_of (rest_of c i)) = ap (λ o. subtrees_of (list_from c o)) is ∙ ap subtrees_of list in
    ap (λ s. joined after (subtrees_of s)) rest
    ∙ (ap (λ b. joined b (subtrees_of (rest_of c i))) (more ∙ ap (λ u. joined before u.subtree) same)
    ∙ (joined_again before w.subtree (subtrees_of (rest_of c i)) ∙ (ap (joined before) (sym here) ∙ tells)))

-- each list of a gathered tree is gathered
pub gathered_at : (c : Shape Fiber) (i : ℕ) → IsGathered c → IsGathered (shape_or_none (list_at c i))
gathered_at none i g = tt
gathered_at (fiber id v ks rs) i g = by_test (eqb id i) (list_at ks i) refl (gathered_at ks i g.1) (gathered_at rs i g.2)
  where
    by_test : (b : Bool) (s : Option (Shape Fiber)) → list_at ks i ≡ s → IsGathered (shape_or_none (list_at ks i)) → IsGathered (shape_or_none (list_at rs i))
        → IsGathered (shape_or_none (if b then Some (fiber id v ks rs) else or_else s (list_at rs i)))
    by_test true s e inner behind = g
    by_test false None e inner behind = behind
    by_test false (Some s) e inner behind = subst (λ o. IsGathered (shape_or_none o)) e inner

-- and so is each fiber over its children
pub gathered_over : (c : Shape Fiber) → IsLinked c → (i : ℕ) → Holds c i → IsGathered c → (v : Fiber) → value_of c i ≡ Some v → IsGatheredOver v (kids_of c i)
gathered_over c linked i h g v value =
    let (w, w_is, list) = linked.list i h in
    let same : w ≡ v = (let q : Some w ≡ Some v = sym w_is ∙ value in cc) in
    let here : IsGathered (fiber i w (kids_of c i) (rest_of c i)) = subst IsGathered list (gathered_at c i g) in
    subst (λ u. IsGatheredOver u (kids_of c i)) same (here.0, here.1)

-- the children of each fiber are gathered
pub gathered_kids : (c : Shape Fiber) (i : ℕ) → IsGathered c → IsGathered (kids_of c i)
gathered_kids none i g = tt
gathered_kids (fiber id v ks rs) i g = by_test (eqb id i) (kids_at ks i) refl (gathered_kids ks i g.1) (gathered_kids rs i g.2)
  where
    by_test : (b : Bool) (s : Option (Shape Fiber)) → kids_at ks i ≡ s → IsGathered (shape_or_none (kids_at ks i)) → IsGathered (shape_or_none (kids_at rs i))
        → IsGathered (shape_or_none (if b then Some ks else or_else s (kids_at rs i)))
    by_test true s e inner behind = g.1
    by_test false None e inner behind = behind
    by_test false (Some s) e inner behind = subst (λ o. IsGathered (shape_or_none o)) e inner

pub gathered_under : (c : Shape Fiber) (o : Option ℕ) → IsGathered c → IsGathered (kids_under c o)
gathered_under c None g = tt
gathered_under c (Some i) g = gathered_kids c i g
