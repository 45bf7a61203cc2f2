-- Of which generation the children of a place are.
use Rattle.std.specs.Prelude.{◌≡◌, ℕ, Bool, true, false, cond, Option}
use Rattle.std.proofs.Common.{refl, ◌∙◌}
use Rattle.rx_lists.specs.Shapes.{Shape}
use Rattle.rx_meaning.specs.Generations.{generation_below}
use Rattle.rx_fiber.specs.Fibers.{Fiber}
use Rattle.rx_children.specs.Origins.{TellsSteady}
use Rattle.rx_begin.specs.Kids.{kids_as}

-- the generation that is computed is that of the definition
pub below_here : (made : ℕ) (component kept listed : Bool) (own : ℕ) (evaluated keeps for_children : Bool) (generation : ℕ) → made ≡ generation_below component kept listed own
    → component ≡ evaluated → kept ≡ keeps → listed ≡ for_children → own ≡ generation → made ≡ generation_below evaluated keeps for_children generation
below_here made component kept listed own evaluated keeps for_children generation is e f g h = is ∙ (λ i. generation_below (e i) (f i) (g i) (h i))

-- what is kept is of generation 0
pub kept_below : (keeps for_children : Bool) (generation children made : ℕ) → children ≡ cond keeps 0 made → made ≡ generation_below false keeps for_children generation → children ≡ generation_below false keeps for_children generation
kept_below true true generation children made is below = is
kept_below true false generation children made is below = is
kept_below false for_children generation children made is below = is ∙ below

-- so are the children of a component that is skipped
pub component_below : (evaluated visible keeps for_children : Bool) (generation made : ℕ) → made ≡ generation_below true keeps for_children generation → (evaluated ≡ false → keeps ≡ true)
    → (kids_as evaluated visible made).generation ≡ generation_below evaluated keeps for_children generation
component_below true visible keeps for_children generation made below skipped = below
component_below false visible true true generation made below skipped = refl
component_below false visible true false generation made below skipped = refl
component_below false visible false for_children generation made below skipped = absurd (let q : false ≡ true = skipped refl in let r : ⊥ = cc in r)

-- their old ones are visible if the place is steady
pub kids_steady : (c : Shape Fiber) (o : Option ℕ) (v : Fiber) (evaluated steady : Bool) (made : ℕ) → TellsSteady c o v steady → TellsSteady c o v (kids_as evaluated steady made).visible
kids_steady c o v true steady made tells = tells
kids_steady c o v false steady made tells = tells
