-- Where a cause stands in a tree, and the instances that lead to one.
use Rattle.std.specs.Prelude.{ℕ, Bool, false, ◌&&◌, ◌||◌, Option, Some, None}
use Rattle.std.specs.Option.{option_map_or}
use Rattle.rx_elem.specs.Trees.{Forest, Mark, Node, child, is_hidden, node, none, vacant}
use Rattle.rx_meaning.specs.Settled.{is_numbered_so, number_of}

-- a node is a cause by its mark: an instance with one of these numbers, or a hidden boundary
abbrev pub is_cause : (stirred : ℕ → Bool) → Mark → Bool
is_cause stirred m = option_map_or stirred (number_of m) false || is_hidden m

-- a cause stands at a node or below, in what is kept and in fallbacks too
abbrev mutual
  pub stirs : (stirred : ℕ → Bool) → Node → Bool
  stirs stirred (node e m ns fs) = is_cause stirred m || (stirs_in stirred ns || stirs_in stirred fs)

  -- the same for the trees of a list
  pub stirs_in : (stirred : ℕ → Bool) → Forest → Bool
  stirs_in stirred none = false
  stirs_in stirred (vacant ns) = stirs_in stirred ns
  stirs_in stirred (child n ns) = stirs stirred n || stirs_in stirred ns

-- an instance of a tree has this number, and a cause stands at it or below
abbrev mutual
  pub leads_from : (stirred : ℕ → Bool) → ℕ → Node → Bool
  leads_from stirred n (node e m ns fs) =
      (is_numbered_so n (number_of m) && stirs stirred (node e m ns fs)) || (leads_in stirred n ns || leads_in stirred n fs)

  -- the same for the trees of a list
  pub leads_in : (stirred : ℕ → Bool) → ℕ → Forest → Bool
  leads_in stirred n none = false
  leads_in stirred n (vacant ns) = leads_in stirred n ns
  leads_in stirred n (child x ns) = leads_from stirred n x || leads_in stirred n ns

-- the same for a tree that may be missing
abbrev pub leads : (stirred : ℕ → Bool) → ℕ → Option Node → Bool
leads stirred n None = false
leads stirred n (Some x) = leads_from stirred n x
