use Rattle.std.proofs.Common.{◌∙◌, refl, sym, subst}
use Rattle.std.specs.Prelude.{◌≡◌, ℕ, List, [], ◌∷◌, Some, None, nat_eq, false}
use Rattle.rx_base.specs.Values.{Name, Text}
use Rattle.rx_elem.specs.declared.attr.AttrValue.{AttrValue}
use Rattle.rx_forest.specs.declared.op.HostOp.{HostOp}
use Rattle.rx_forest.specs.declared.op.HostOp.TheVariants as op
use Rattle.rx_forest.specs.Forests.{HostForest, IsUnder, CanBeReplayed, created, placed, valued, tag, letters}
use Rattle.rx_host.specs.Kept.{no_hosts}
use Rattle.rx_host.proofs.Removing.{alone}
use Rattle.tree_tests.proofs.hosts.a_list_is_made.Goals as goal

-- a host without children is not above another one
apart : (f : HostForest) (n m : ℕ) → f.children n ≡ [] → nat_eq m n ≡ false → IsUnder f n m → ⊥
apart f n m childless other under = cc (sym other ∙ alone f n childless m under)

-- the hosts of the list, which stand nowhere yet
abbrev made : Name → Name → Text → HostForest
made ul li t = created (created (created no_hosts 1 (tag ul (λ a. None))) 2 (tag li (λ a. None))) 3 (letters t)

-- the last two operations
last : (ul li id : Name) (t : Text) (v : AttrValue) (f : HostForest) → f ≡ placed (placed (placed (made ul li t) 1 0 None) 3 1 None) 2 1 (Some 3)
    → CanBeReplayed f (op.SetAttr 1 id v ∷ op.Hide 2 ∷ [])
last ul li id t v f e =
    subst (λ (h : HostForest). CanBeReplayed h (op.SetAttr 1 id v ∷ op.Hide 2 ∷ [])) (sym e)
    (refl, λ g set. subst (λ (h : HostForest). CanBeReplayed h (op.Hide 2 ∷ [])) (sym set) (refl, λ k hidden. tt))

-- the hosts are placed
places : (ul li id : Name) (t : Text) (v : AttrValue) (f : HostForest) → f ≡ made ul li t
    → CanBeReplayed f (op.Place 1 0 None ∷ op.Place 3 1 None ∷ op.Place 2 1 (Some 3) ∷ op.SetAttr 1 id v ∷ op.Hide 2 ∷ [])
places ul li id t v f e =
    let second : HostForest = placed (made ul li t) 1 0 None in
    let third : HostForest = placed second 3 1 None in
    subst (λ (h : HostForest). CanBeReplayed h (op.Place 1 0 None ∷ op.Place 3 1 None ∷ op.Place 2 1 (Some 3) ∷ op.SetAttr 1 id v ∷ op.Hide 2 ∷ [])) (sym e) (
      (refl, refl, refl, apart (made ul li t) 1 0 refl refl),
      λ g first. subst (λ (h : HostForest). CanBeReplayed h (op.Place 3 1 None ∷ op.Place 2 1 (Some 3) ∷ op.SetAttr 1 id v ∷ op.Hide 2 ∷ [])) (sym first) (
        (refl, refl, refl, apart second 3 1 refl refl),
        λ k next. subst (λ (h : HostForest). CanBeReplayed h (op.Place 2 1 (Some 3) ∷ op.SetAttr 1 id v ∷ op.Hide 2 ∷ [])) (sym next)
            ((refl, refl, refl, apart third 2 1 refl refl), λ l placed_last. last ul li id t v l placed_last),
      ),
    )

-- all operations
all : (ul li id : Name) (t : Text) (v : AttrValue) (f : HostForest) → f ≡ no_hosts
    → CanBeReplayed f (op.Create 1 ul ∷ op.Create 2 li ∷ op.CreateText 3 t ∷ op.Place 1 0 None ∷ op.Place 3 1 None ∷ op.Place 2 1 (Some 3) ∷ op.SetAttr 1 id v ∷ op.Hide 2 ∷ [])
all ul li id t v f e =
    subst (λ (h : HostForest). CanBeReplayed h (op.Create 1 ul ∷ op.Create 2 li ∷ op.CreateText 3 t ∷ op.Place 1 0 None ∷ op.Place 3 1 None ∷ op.Place 2 1 (Some 3) ∷ op.SetAttr 1 id v ∷ op.Hide 2 ∷ [])) (sym e) (
      refl,
      λ g first. subst (λ (h : HostForest). CanBeReplayed h (op.Create 2 li ∷ op.CreateText 3 t ∷ op.Place 1 0 None ∷ op.Place 3 1 None ∷ op.Place 2 1 (Some 3) ∷ op.SetAttr 1 id v ∷ op.Hide 2 ∷ [])) (sym first) (
        refl,
        λ k next. subst (λ (h : HostForest). CanBeReplayed h (op.CreateText 3 t ∷ op.Place 1 0 None ∷ op.Place 3 1 None ∷ op.Place 2 1 (Some 3) ∷ op.SetAttr 1 id v ∷ op.Hide 2 ∷ [])) (sym next)
            (refl, λ l made_last. places ul li id t v l made_last),
      ),
    )

pub replay-requires : goal.replay-requires
replay-requires g c = all c.in_ok-new.field-0 c.in_ok-new-2.field-0 c.in_ok-new-4.field-0 c.in_ok-new-3.field-0 _ _ c.new-tree.ensures
