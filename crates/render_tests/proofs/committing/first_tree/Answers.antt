use Rattle.std.proofs.Common.{◌≡◌, List, [], ◌∷◌, ◌++◌, Option, Some, None, refl, sym, ap, subst, ◌∙◌}
use Rattle.std.specs.Prelude.{codes}
use Rattle.std.proofs.lemmas.Result.{IfOk-weaker}
use Rattle.rx_elem.specs.Elements.{Element}
use Rattle.rx_elem.specs.Elements as elements
use Rattle.rx_elem.specs.Trees.{Instance, Node, node, none, child, forest, of_host, of_instance}
use Rattle.rx_node.specs.MarkView.{instance_seen}
use Rattle.host_laws.specs.Commits.{IsCommit}
use Rattle.render_tests.proofs.committing.first_tree.Goals as goal

-- a paragraph
abbrev below : Node
below = node (elements.host (codes "p") None [] elements.none) (of_host (Some 1)) none none

-- an instance with a paragraph below it
abbrev first : Element → Instance → Node
first e i = node e (of_instance i) (child below none) none

-- it can be the first tree
is_commit : (e : Element) (i : Instance) → IsCommit None (first e i)
is_commit e i = record {
  old_sound = tt;
  new_sound = record { numbered = (tt, (((_, refl), tt, tt), tt), tt); distinct = (refl, tt); above = refl };
  rendered = (tt, (λ p h. refl), (λ p h. refl), (((1, refl, refl), (λ p h. refl), (λ p h. refl), tt, tt), tt), tt);
  gone_below = tt;
  kinds = ((refl, tt), tt);
}

-- a node with these parts is that tree
is_first : (e : Element) (i : Instance) (n p : Node) (xs ys zs : List (Option Node)) → n ≡ node e (of_instance i) (forest ys) (forest zs) → p ≡ below → xs ≡ []
    → ys ≡ xs ++ Some p ∷ [] → zs ≡ [] → n ≡ first e i
is_first e i n p xs ys zs is a b c d =
    is
    ∙ ap (λ (ps : List (Option Node)). node e (of_instance i) (forest ys) (forest ps)) d
    ∙ ap (λ (ps : List (Option Node)). node e (of_instance i) (forest ps) none) (c ∙ ap (λ (ps : List (Option Node)). ps ++ Some p ∷ []) b)
    ∙ ap (λ (m : Node). node e (of_instance i) (child m none) none) a

pub returns-clause-commit : goal.returns-clause-commit
returns-clause-commit c =
    let e : Element = c.in_ok-element.element in
    let i : Instance = instance_seen c.in_ok-instance.field-0 in
    let ys : List (Option Node) = c.push.new.self.items in
    let zs : List (Option Node) = c.new-5.result.items in
    IfOk-weaker c.new-6.result (λ (n : Node). n ≡ node e (of_instance i) (forest ys) (forest zs)) (IsCommit None)
    (λ n is.
    subst (IsCommit None)
    (sym (is_first e i n c.in_ok-paragraph.field-0 c.new-children.result.items ys zs is
    c.in_ok-paragraph.ensures c.new-children.ensures.items c.in_ok-push.ensures.items c.new-5.ensures.items))
    (is_commit e i))
    c.new-6.ensures
