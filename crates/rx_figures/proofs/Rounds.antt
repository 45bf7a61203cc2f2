-- Rounds over a table: what they give, and that they may end when nothing changes.
use Rattle.std.proofs.Common.{◌≡◌, ◌<◌, ◌-◌, List, [], Option, Some, None, refl, sym, ap, ◌∙◌, arith}
use Rattle.std.specs.Prelude.{ℕ, zero, suc, slice_get, slice_index}
use Rattle.std.specs.Option.{option_map_or}
use Rattle.rx_ast.specs.Syntax.{Program, Component, Function, components, functions}
use Rattle.rx_rules.specs.Names.{component_at}
use Rattle.rx_rules.specs.Bounds.{body_by, body_if}
use Rattle.rx_figures.specs.Figures.{figures, no_figures, known_in, round_of, rounds}
use Rattle.rx_figures.specs.Costs.{function_cost, cost_if, body_cost, cost_round, cost_rounds}
use Rattle.rx_order.proofs.Rounds.{together, get-map}
use Rattle.rx_figures.specs.declared.figures.Figures.{Figures}

-- Nodes, levels and waits

-- a round more at the end
rounds-after : (n : ℕ) (p : Program) (t : List Figures) → rounds n p (round_of p t) ≡ round_of p (rounds n p t)
unfolding rounds
rounds-after zero p t = refl
rounds-after (suc n) p t = rounds-after n p (round_of p t)

body_if-known : (b : ℕ → Figures) (p : Program) (o : Option Component)
    → body_if (figures p) b p o ≡ option_map_or (λ c. body_if (figures p) b p (Some c)) o no_figures
body_if-known b p None = refl
body_if-known b p (Some c) = refl

-- so many rounds give what is counted of bodies if components nest at most so deep
pub body_by-rounds : (n : ℕ) (p : Program) (c : ℕ) → body_by (figures p) n p c ≡ known_in (rounds n p []) c
unfolding body_by rounds
body_by-rounds zero p c = refl
body_by-rounds (suc n) p c =
    ap (λ b. body_if (figures p) b p (component_at p c)) (together (body_by (figures p) n p) (known_in (rounds n p [])) (body_by-rounds n p))
    ∙ (body_if-known (known_in (rounds n p [])) p (component_at p c)
    ∙ (sym (get-map _ no_figures (components p) c) ∙ ap (λ t. known_in t c) (sym (rounds-after n p []))))

-- a table that a round leaves as it is stays so
pub rounds-settled : (n : ℕ) (p : Program) (t : List Figures) → round_of p t ≡ t → rounds n p t ≡ t
unfolding rounds
rounds-settled zero p t h = refl
rounds-settled (suc n) p t h = ap (λ u. rounds n p u) h ∙ rounds-settled n p t h

-- a round less is left
pub rounds-step : (n : ℕ) (p : Program) (t : List Figures) → 0 < n → rounds n p t ≡ rounds (n - 1) p (round_of p t)
unfolding rounds
rounds-step zero p t h = absurd (omega (arith, h))
rounds-step (suc n) p t h = let e : suc n - 1 ≡ n = omega arith in rw e refl

-- Costs

cost_rounds-after : (n : ℕ) (p : Program) (t : List ℕ) → cost_rounds n p (cost_round p t) ≡ cost_round p (cost_rounds n p t)
unfolding cost_rounds
cost_rounds-after zero p t = refl
cost_rounds-after (suc n) p t = cost_rounds-after n p (cost_round p t)

cost_if-known : (b : ℕ → ℕ) (p : Program) (o : Option Function) → cost_if b p o ≡ option_map_or (body_cost b p) o 0
cost_if-known b p None = refl
cost_if-known b p (Some f) = refl

-- so many rounds give the costs if calls nest at most so deep
pub function_cost-rounds : (n : ℕ) (p : Program) (f : ℕ) → function_cost n p f ≡ slice_index (cost_rounds n p []) f
unfolding function_cost cost_rounds
function_cost-rounds zero p f = refl
function_cost-rounds (suc n) p f =
    ap (λ b. cost_if b p (slice_get (functions p) f)) (together (function_cost n p) (slice_index (cost_rounds n p [])) (function_cost-rounds n p))
    ∙ (cost_if-known (slice_index (cost_rounds n p [])) p (slice_get (functions p) f)
    ∙ (sym (get-map _ 0 (functions p) f) ∙ ap (λ t. slice_index t f) (sym (cost_rounds-after n p []))))

-- the costs of all functions at once
pub costs-rounds : (n : ℕ) (p : Program) → function_cost n p ≡ slice_index (cost_rounds n p [])
costs-rounds n p = together (function_cost n p) (slice_index (cost_rounds n p [])) (function_cost-rounds n p)

pub cost_rounds-settled : (n : ℕ) (p : Program) (t : List ℕ) → cost_round p t ≡ t → cost_rounds n p t ≡ t
unfolding cost_rounds
cost_rounds-settled zero p t h = refl
cost_rounds-settled (suc n) p t h = ap (λ u. cost_rounds n p u) h ∙ cost_rounds-settled n p t h

pub cost_rounds-step : (n : ℕ) (p : Program) (t : List ℕ) → 0 < n → cost_rounds n p t ≡ cost_rounds (n - 1) p (cost_round p t)
unfolding cost_rounds
cost_rounds-step zero p t h = absurd (omega (arith, h))
cost_rounds-step (suc n) p t h = let e : suc n - 1 ≡ n = omega arith in rw e refl
