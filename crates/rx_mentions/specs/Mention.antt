-- What a program mentions in a place of its text, with what the checks ask of it.
use Rattle.std.specs.Prelude.{ℕ, Bool, List}
use Rattle.rx_base.specs.Values.{Name}
use Rattle.rx_mentions.specs.declared.count.Count.{Count}

pub data Mention : Type 0 where
  -- a name is introduced, and whether it is among those that may not be introduced again
  Introduced : Name → (again : Bool) → Mention
  -- a variable whose name stands for no value there
  Unknown : Name → Mention
  -- a call of a function with so many arguments
  Call : (function : Name) → (arguments : ℕ) → Mention
  -- a function that reduces a hook's state
  Reduction : (function : Name) → Mention
  -- a context that is read or provided
  Context : Name → Mention
  -- an element of a component: its attributes without `key`, and whether it holds a child
  Element : (component : Name) → (attributes : List Name) → (filled : Bool) → Mention
  -- an element of the host
  Host : Name → Mention
  -- `children`, and whether it is a parameter
  Children : (known : Bool) → Mention
  -- a resource that is used
  Resource : Name → Mention
  -- a text of so many bytes between quotes
  Quoted : ℕ → Mention
  -- so many of a thing
  Counted : Count → ℕ → Mention
