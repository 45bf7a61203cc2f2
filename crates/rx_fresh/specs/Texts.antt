-- Nodes of texts.
use Rattle.std.specs.Prelude.{◌≡◌, ℕ, List, [], ◌∷◌, Option, Some, None}
use Rattle.rx_base.specs.Values.{Text}
use Rattle.rx_elem.specs.Elements.{Element, text}
use Rattle.rx_elem.specs.Trees.{Node, Forest, node, none, child, of_host}
use Rattle.rx_meaning.specs.Fresh.{old_host}

-- the node of a text, with its number if it has one
abbrev pub text_node : Text → (number : Option ℕ) → Node
text_node t number = node (text t) (of_host number) none none

-- a node is that of the text that an element is
pub record IsTextOf (n : Node) (e : Element) : Type 0 where
  pub shown : Text
  pub new : e ≡ text shown
  pub old : n ≡ text_node shown (old_host (Some n))

-- what stands in an old place is the node of the text that an element is
abbrev pub IsTextAt : Option Node → Element → Type 0
IsTextAt None e = ⊥
IsTextAt (Some n) e = IsTextOf n e

-- each old place has the node of the text that stands there anew
abbrev pub AreSameTexts : Forest → List Element → Type 0
AreSameTexts none [] = Unit {0}
AreSameTexts (child n ns) (e ∷ es) = IsTextOf n e × AreSameTexts ns es
AreSameTexts _ _ = ⊥
