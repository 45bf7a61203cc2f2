-- How the logic stores fibers.
use Rattle.std.specs.Prelude.{◌≡◌, ℕ, Bool, List, Option, Some, None, ◌⊎◌, refl}
use Rattle.std.specs.Coded.{Coded, code_by, coded×, coded⊎, coded_ℕ, coded_bool, coded_list, coded_option}
use Rattle.std.proofs.Common.{inl, inr}
use Rattle.rx_base.specs.Awaits.{Awaits}
use Rattle.rx_elem.specs.Elements.{Element}
use Rattle.rx_elem.specs.ElementCode.{element_code}
use Rattle.rx_elem.specs.Trees.{Mark}
use Rattle.rx_node.specs.NodeCode.{mark_code}
use Rattle.rx_fiber.specs.Fibers.{Stage, waiting, begun, trying, guarding, fallback, Fiber}
use Rattle.rx_fiber.specs.declared.stage.Origin.{Origin}
use Rattle.rx_fiber.specs.declared.subtree.Subtree.{Subtree}

abbrev numbers : Coded (List ℕ)
numbers = coded_list coded_ℕ

abbrev origin_code : Coded Origin
origin_code =
    code_by (Bool × (Bool × ℕ)) (coded× coded_bool (coded× coded_bool coded_ℕ))
    (λ c. (c.cloned, (c.visible, c.generation))) (λ p. record { cloned = p.0; visible = p.1.0; generation = p.1.1 }) (λ _. refl)

abbrev StageParts : Type 0
StageParts = (Origin ⊎ Mark) ⊎ (Option Origin ⊎ Awaits)

abbrev of_stage : Stage → StageParts
of_stage (waiting c) = inl (inl c)
of_stage (begun m) = inl (inr m)
of_stage (trying c) = inr (inl (Some c))
of_stage guarding = inr (inl None)
of_stage (fallback a) = inr (inr a)

abbrev to_stage : StageParts → Stage
to_stage (inl (inl c)) = waiting c
to_stage (inl (inr m)) = begun m
to_stage (inr (inl (Some c))) = trying c
to_stage (inr (inl None)) = guarding
to_stage (inr (inr a)) = fallback a

abbrev stage_back : (s : Stage) → to_stage (of_stage s) ≡ s
stage_back (waiting c) = refl
stage_back (begun m) = refl
stage_back (trying c) = refl
stage_back guarding = refl
stage_back (fallback a) = refl

abbrev stage_code : Coded Stage
stage_code = code_by StageParts (coded⊎ (coded⊎ origin_code mark_code) (coded⊎ (coded_option origin_code) numbers)) of_stage to_stage stage_back

abbrev subtree_code : Coded Subtree
subtree_code =
    code_by (Bool × (Bool × (Bool × Bool))) (coded× coded_bool (coded× coded_bool (coded× coded_bool coded_bool)))
    (λ s. (s.reads, (s.uses, (s.hides, s.instances)))) (λ p. record { reads = p.0; uses = p.1.0; hides = p.1.1.0; instances = p.1.1.1 }) (λ _. refl)

-- a fiber as it is stored, from which it can be read back
abbrev pub fiber_code : Coded Fiber
fiber_code =
    code_by (ℕ × (Element × (Stage × Subtree))) (coded× coded_ℕ (coded× element_code (coded× stage_code subtree_code)))
    (λ v. (v.place, (v.element, (v.stage, v.subtree)))) (λ p. record { place = p.0; element = p.1.0; stage = p.1.1.0; subtree = p.1.1.1 }) (λ _. refl)
