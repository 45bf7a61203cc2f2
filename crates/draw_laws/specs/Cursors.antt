-- What a render in progress has yet to come to fits the program.
use Rattle.std.specs.Prelude.{List, [], ◌∷◌, Option}
use Rattle.rx_ast.specs.Syntax.{Program}
use Rattle.rx_elem.specs.Elements.{Element, gathered}
use Rattle.rx_elem.specs.Trees.{Node}
use Rattle.rx_meaning.specs.Fresh.{Part}
use Rattle.rx_meaning.specs.Cursor.{Open, around, trying, falling, guarding, Frame, Cursor, at_place, at_end, ended}
use Rattle.draw_laws.specs.Drawn.{IsDrawn, AreDrawn}

-- the elements of a list of children fit
abbrev pub PartDrawn : Program → Part → Type 0
PartDrawn p part = AreDrawn p (gathered part.elements)

-- each element beside an old node fits
abbrev pub PairsDrawn : Program → List (Element × Option Node) → Type 0
PairsDrawn p [] = Unit {0}
PairsDrawn p (x ∷ xs) = IsDrawn p x.0 × PairsDrawn p xs

-- the element of an open node fits, and so does the fallback that it may open
abbrev pub OpenDrawn : Program → Open → Type 0
OpenDrawn p (around e m) = IsDrawn p e
OpenDrawn p (trying e old f) = IsDrawn p e × PartDrawn p f
OpenDrawn p (falling e old a) = IsDrawn p e
OpenDrawn p (guarding e f) = IsDrawn p e × PartDrawn p f

-- so do the nodes that are open and the elements of their lists that are to come
abbrev pub FramesDrawn : Program → List Frame → Type 0
FramesDrawn p [] = Unit {0}
FramesDrawn p (f ∷ fs) = OpenDrawn p f.node × PairsDrawn p f.rest × FramesDrawn p fs

-- what a render has come to and what follows fits the program
abbrev pub CursorDrawn : Program → Cursor → Type 0
CursorDrawn p (at_place levels fs cs e old) = IsDrawn p e × FramesDrawn p fs
CursorDrawn p (at_end levels fs o done) = OpenDrawn p o × FramesDrawn p fs
CursorDrawn p (ended x) = Unit {0}
