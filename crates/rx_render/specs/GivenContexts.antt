-- Which values the contexts have at the places that a render has yet to come to: those that the providers around them give.
use Rattle.std.specs.Prelude.{◌≡◌, ℕ, ℤ, List, [], ◌∷◌, None, slice_set}
use Rattle.rx_meaning.specs.Fresh.{Contexts}
use Rattle.rx_meaning.specs.Cursor.{Open, around, trying, falling, guarding, Frame, Cursor, at_place, at_end, ended}
use Rattle.rx_fiber.specs.Stood.{given_in}
use Rattle.rx_fiber.specs.Surround.{given_along}

-- the values of the contexts below providers that give these, the nearest first
abbrev pub given_contexts : Contexts → List (ℕ × ℤ) → Contexts
given_contexts base [] = base
given_contexts base (w ∷ ws) = slice_set (given_contexts base ws) w.0 w.1

-- an open boundary is no provider, and the fallback that it may come to has the values that are given around it
abbrev pub OpenGiven : Contexts → Open → List (ℕ × ℤ) → Type 0
OpenGiven base (around e m) ws = Unit {0}
OpenGiven base (trying e old f) ws = (given_in e ≡ None) × (f.contexts ≡ given_contexts base ws)
OpenGiven base (falling e old a) ws = Unit {0}
OpenGiven base (guarding e f) ws = (given_in e ≡ None) × (f.contexts ≡ given_contexts base ws)

-- so do the lists of the open nodes have those that are given around them
abbrev pub FramesGiven : Contexts → List Frame → Type 0
FramesGiven base [] = Unit {0}
FramesGiven base (f ∷ fs) = (f.contexts ≡ given_contexts base (given_along (f ∷ fs))) × OpenGiven base f.node (given_along fs) × FramesGiven base fs

-- and the place of a cursor
abbrev pub CursorGiven : Contexts → Cursor → Type 0
CursorGiven base (at_place levels fs cs e old) = (cs ≡ given_contexts base (given_along fs)) × FramesGiven base fs
CursorGiven base (at_end levels fs o done) = FramesGiven base fs
CursorGiven base (ended p) = Unit {0}
