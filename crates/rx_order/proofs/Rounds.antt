-- Rounds over a table: what they give, and that they may end when nothing changes.
use Rattle.std.proofs.Common.{◌≡◌, ◌<◌, ◌-◌, ◌||◌, Bool, false, List, [], ◌∷◌, Option, Some, None, refl, sym, ap, ◌∙◌, arith, get_or, map}
use Rattle.std.specs.Prelude.{ℕ, zero, suc, nat_eq, slice_get, slice_index_or, unwrap_or}
use Rattle.std.specs.List.{list_any}
use Rattle.std.specs.Option.{option_map_or}
use Rattle.rx_order.specs.Graphs.{Graph, next_of, leads_to, leads, lead_round, lead_rounds}

-- functions that agree are equal
pub together : {A B : Type 0} (f g : A → B) → ((x : A) → f x ≡ g x) → f ≡ g
together f g h = λ i x. h x i

-- what stands at a place of a list to which a function was applied
pub get-map : {A B : Type 0} (f : A → B) (d : B) (xs : List A) (i : ℕ) → get_or (map f xs) i d ≡ option_map_or f (slice_get xs i) d
get-map f d [] i = refl
get-map f d (x ∷ xs) zero = refl
get-map f d (x ∷ xs) (suc i) = get-map f d xs i

lead_rounds-after : (g : Graph) (y n : ℕ) (t : List Bool) → lead_rounds g y n (lead_round g y t) ≡ lead_round g y (lead_rounds g y n t)
unfolding lead_rounds
lead_rounds-after g y zero t = refl
lead_rounds-after g y (suc n) t = lead_rounds-after g y n (lead_round g y t)

leads-known : (b : ℕ → Bool) (y : ℕ) (o : Option (List ℕ))
    → list_any (λ z. nat_eq z y || b z) (unwrap_or o []) ≡ option_map_or (λ row. list_any (λ z. nat_eq z y || b z) row) o false
leads-known b y None = refl
leads-known b y (Some row) = refl

-- so many rounds give which numbers lead to one in so many steps
pub leads_to-rounds : (g : Graph) (n x y : ℕ) → leads_to g n x y ≡ slice_index_or (lead_rounds g y n []) x false
unfolding leads_to lead_rounds
leads_to-rounds g zero x y = refl
leads_to-rounds g (suc n) x y =
    ap (λ b. list_any (λ z. nat_eq z y || b z) (next_of g x)) (together (λ z. leads_to g n z y) (λ z. slice_index_or (lead_rounds g y n []) z false) (λ z. leads_to-rounds g n z y))
    ∙ (leads-known (λ z. slice_index_or (lead_rounds g y n []) z false) y (slice_get g x)
    ∙ (sym (get-map (leads y (lead_rounds g y n [])) false g x) ∙ ap (λ t. slice_index_or t x false) (sym (lead_rounds-after g y n []))))

pub lead_rounds-settled : (g : Graph) (y n : ℕ) (t : List Bool) → lead_round g y t ≡ t → lead_rounds g y n t ≡ t
unfolding lead_rounds
lead_rounds-settled g y zero t h = refl
lead_rounds-settled g y (suc n) t h = ap (λ u. lead_rounds g y n u) h ∙ lead_rounds-settled g y n t h

pub lead_rounds-step : (g : Graph) (y n : ℕ) (t : List Bool) → 0 < n → lead_rounds g y n t ≡ lead_rounds g y (n - 1) (lead_round g y t)
unfolding lead_rounds
lead_rounds-step g y zero t h = absurd (omega (arith, h))
lead_rounds-step g y (suc n) t h = let e : suc n - 1 ≡ n = omega arith in rw e refl
