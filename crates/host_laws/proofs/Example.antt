-- A commit that swaps two keyed hosts, drops a third and adds a text: the premises of the law hold.
use Rattle.std.specs.Prelude.{◌≡◌, ℕ, zero, suc, [], ◌∷◌, Some, None, pos, refl}
use Rattle.std.proofs.Common.{subst}
use Rattle.host_laws.specs.Commits.{IsCommit, IsRendered, FairGone}
use Rattle.host_laws.specs.Related.{KeepKinds, GoneBelow}
use Rattle.rx_elem.specs.Elements.{Element, Elements}
use Rattle.rx_elem.specs.Trees.{Node, node, children_of, none, vacant, child, of_host, elements_in}
use Rattle.rx_forest.specs.Forests.{forest_of, Replays}
use Rattle.rx_forest.specs.HostOps.{host_ops}
use Rattle.rx_forest.specs.Hosts.{hosts, has_host}
use Rattle.rx_forest.specs.declared.op.HostOp.TheVariants as op
use Rattle.rx_elem.specs.Elements as elements
use Rattle.host_laws.proofs.Replay.{commit_replays}

abbrev entry : ℕ → Element
entry k = elements.host (k ∷ []) (Some (pos k)) [] elements.none

abbrev list_of : Elements → Element
list_of es = elements.host (9 ∷ []) None [] es

abbrev before : Node
before = node (list_of (elements.more (entry 5) (elements.more (entry 6) (elements.more (entry 7) elements.none)))) (of_host (Some 1))
    (child (node (entry 5) (of_host (Some 2)) none none)
    (child (node (entry 6) (of_host (Some 3)) none none)
    (child (node (entry 7) (of_host (Some 4)) none none) none))) none

abbrev after : Node
after = node (list_of (elements.more (entry 6) (elements.more elements.null (elements.more (entry 5) (elements.more (elements.text (8 ∷ [])) elements.none))))) (of_host (Some 1))
    (child (node (entry 6) (of_host (Some 3)) none none)
    (vacant
    (child (node (entry 5) (of_host (Some 2)) none none)
    (child (node (elements.text (8 ∷ [])) (of_host (Some 5)) none none) none)))) none

ops : host_ops (Some before) after ≡ op.Remove 4 ∷ op.CreateText 5 (8 ∷ []) ∷ op.Place 2 1 None ∷ op.Place 5 1 None ∷ []
unfolding host_ops
ops = refl

gone : FairGone (λ n. has_host (hosts (Some after)) n) (children_of before) (elements_in (children_of after))
gone zero h = absurd (cc)
gone (suc zero) h = absurd (cc)
gone (suc (suc zero)) h = refl
gone (suc (suc (suc p))) h = refl

rendered : IsRendered (Some before) after
rendered = (
  (1, refl, (refl, refl, refl)),
  gone,
  (λ p h. refl),
  (
    ((3, refl, (refl, refl, refl)), (λ p h. refl), (λ p h. refl), tt, tt),
    (
      ((2, refl, (refl, refl, refl)), (λ p h. refl), (λ p h. refl), tt, tt),
      (((5, refl, refl), (λ p h. refl), (λ p h. refl), tt, tt), tt),
    ),
  ),
  tt,
)

kinds : KeepKinds (hosts (Some before)) (hosts (Some after))
kinds = ((refl, tt), ((refl, tt), ((refl, tt), (tt, tt))))

below : GoneBelow (hosts (Some before)) (hosts (Some after))
below = ((λ h. absurd (cc)), ((λ h. absurd (cc)), ((λ h. absurd (cc)), ((λ h. refl), tt))))

is_commit : IsCommit (Some before) after
is_commit = record {
  old_sound = record { numbered = ((_, refl), (((_, refl), tt, tt), (((_, refl), tt, tt), (((_, refl), tt, tt), tt))), tt); distinct = (refl, (refl, (refl, (refl, tt)))); above = refl };
  new_sound = record { numbered = ((_, refl), (((_, refl), tt, tt), (((_, refl), tt, tt), (((_, refl), tt, tt), tt))), tt); distinct = (refl, (refl, (refl, (refl, tt)))); above = refl };
  rendered = rendered;
  gone_below = below;
  kinds = kinds;
}

-- so the law says of it
swapped : Replays (forest_of (hosts (Some before))) (op.Remove 4 ∷ op.CreateText 5 (8 ∷ []) ∷ op.Place 2 1 None ∷ op.Place 5 1 None ∷ []) (forest_of (hosts (Some after)))
swapped = subst (λ os. Replays (forest_of (hosts (Some before))) os (forest_of (hosts (Some after)))) ops (commit_replays (Some before) after is_commit)
