-- Which elements are given again, and of which generation one is that a render made anew.
use Rattle.std.specs.Prelude.{ℕ, suc, pred, min, max, Bool, cond, ◌-◌, ◌^◌}

-- The element of a place is of generation 0 if it is the committed one, given again. What the body of a component makes, if that is evaluated, is of one generation more than the component's own element, and as deep as a count of 32 bits goes.
abbrev pub made_by : ℕ → ℕ
made_by generation = min (suc generation) (2 ^ 32 - 1)

-- what stands in a list for `children` is of the generation of the component that it was given to, whose body made the list
abbrev pub given_to : ℕ → ℕ
given_to generation = pred generation

-- the generation of an element by that of its place: one that is another than the committed one was made anew
abbrev pub own_generation : (again : Bool) → ℕ → ℕ
own_generation again generation = cond again 0 (max 1 generation)

-- the generation of a node's children, by whether a body was evaluated, whether the node's element was given again, whether it is a list that stands for `children`, and the generation of its place
abbrev pub generation_below : (evaluated again for_children : Bool) → ℕ → ℕ
generation_below evaluated again for_children generation =
    let own = own_generation again generation in
    cond evaluated (made_by own) (cond for_children (given_to own) own)
