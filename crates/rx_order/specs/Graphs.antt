-- Which numbers lead to which, and which lead to themselves.
use Rattle.std.specs.Prelude.{◌≡◌, ◌≤◌, ℕ, zero, suc, ◌+◌, Bool, true, false, ◌&&◌, ◌||◌, ◌++◌, nat_eq, List, [], ◌∷◌, Option, Some, None, length, map, cond, unwrap_or, slice_get, slice_index_or}
use Rattle.std.specs.List.{list_any, list_all, cons_option}
use Rattle.rx_base.specs.Values.{Name}

-- the first of a list
abbrev pub first : {A : Type 0} → List A → Option A
first [] = None
first (x ∷ xs) = Some x

-- for each number, the numbers to which it leads in one step
abbrev pub Graph : Type 0
Graph = List (List ℕ)

-- the numbers to which a number leads in one step
abbrev pub next_of : Graph → ℕ → List ℕ
next_of g x = unwrap_or (slice_get g x) []

-- a number leads to another in one step or more, and at most so many
unfoldable pub leads_to : Graph → ℕ → ℕ → ℕ → Bool
leads_to g zero x y = false
leads_to g (suc n) x y = list_any (λ z. nat_eq z y || leads_to g n z y) (next_of g x)

-- the name of a number that leads to itself
abbrev pub name_on_cycle : Graph → List Name → ℕ → Option Name
name_on_cycle g names x = cond (leads_to g (length g) x x) (slice_get names x) None

-- the names of those that lead to themselves among numbers from here on, one for each row
abbrev pub cycle_names_from : Graph → List Name → ℕ → Graph → List Name
cycle_names_from g names x [] = []
cycle_names_from g names x (row ∷ rows) = cons_option (name_on_cycle g names x) (cycle_names_from g names (x + 1) rows)

-- the names of those that lead to themselves, in order
abbrev pub cycle_names : Graph → List Name → List Name
cycle_names g names = cycle_names_from g names 0 g

-- whether a number leads there in one step more, from which numbers lead there before
abbrev pub leads : (target : ℕ) → List Bool → List ℕ → Bool
leads y table row = list_any (λ z. nat_eq z y || slice_index_or table z false) row

-- one round over all numbers
abbrev pub lead_round : Graph → (target : ℕ) → List Bool → List Bool
lead_round g y table = map (leads y table) g

-- so many rounds
unfoldable pub lead_rounds : Graph → (target : ℕ) → ℕ → List Bool → List Bool
lead_rounds g y zero table = table
lead_rounds g y (suc n) table = lead_rounds g y n (lead_round g y table)

-- a number is one of these
abbrev pub is_among : List ℕ → ℕ → Bool
is_among ns x = list_any (nat_eq x) ns

-- each of these numbers in order leads only to earlier ones, or to those that were finished before
abbrev pub finishes : Graph → (before order : List ℕ) → Bool
finishes g before [] = true
finishes g before (x ∷ xs) = list_all (is_among before) (next_of g x) && finishes g (before ++ x ∷ []) xs

-- the numbers stand in an order in which each leads only to earlier ones, and they are no more than the rows
pub record IsFinished (g : Graph) (order : List ℕ) : Type 0 where
  pub finishes_all : finishes g [] order ≡ true
  pub few : length order ≤ length g
