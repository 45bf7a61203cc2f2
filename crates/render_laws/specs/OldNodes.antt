-- What holds of each old node that a render may still come to.
use Rattle.std.specs.Prelude.{List, [], ◌∷◌, Option, Some, None}
use Rattle.rx_elem.specs.Elements.{Element}
use Rattle.rx_elem.specs.Trees.{Node, Forest, none, vacant, child}
use Rattle.rx_meaning.specs.Cursor.{Open, around, trying, falling, guarding, Frame, Cursor, at_place, at_end, ended}

-- each node of a list has the property
abbrev pub AllHave : (Node → Type 0) → Forest → Type 0
AllHave P none = Unit {0}
AllHave P (vacant ns) = AllHave P ns
AllHave P (child n ns) = P n × AllHave P ns

-- the old node has it, if there is one
abbrev pub OldHas : (Node → Type 0) → Option Node → Type 0
OldHas P None = Unit {0}
OldHas P (Some n) = P n

-- each old node beside an element has it
abbrev pub PairsHave : (Node → Type 0) → List (Element × Option Node) → Type 0
PairsHave P [] = Unit {0}
PairsHave P (x ∷ xs) = OldHas P x.1 × PairsHave P xs

-- each old node that an open node may still come to has it
abbrev pub OpenHas : (Node → Type 0) → Open → Type 0
OpenHas P (around e m) = Unit {0}
OpenHas P (trying e old f) = OldHas P old × AllHave P f.old
OpenHas P (falling e old a) = OldHas P old
OpenHas P (guarding e f) = AllHave P f.old

-- so have those of the frames
abbrev pub FramesHave : (Node → Type 0) → List Frame → Type 0
FramesHave P [] = Unit {0}
FramesHave P (f ∷ fs) = PairsHave P f.rest × OpenHas P f.node × FramesHave P fs

-- each old node at the cursor and after it has the property
abbrev pub CursorHas : (Node → Type 0) → Cursor → Type 0
CursorHas P (at_place n fs cs e old) = OldHas P old × FramesHave P fs
CursorHas P (at_end n fs o done) = FramesHave P fs
CursorHas P (ended p) = Unit {0}
