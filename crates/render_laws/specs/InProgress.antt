-- What holds of a render in progress, after so many units and bodies, at the place where it stands.
use Rattle.std.specs.Prelude.{◌≡◌, ℕ, suc, ◌+◌, ◌≤◌, List, [], ◌∷◌, Option}
use Rattle.rx_ast.specs.Syntax.{Program}
use Rattle.rx_meaning.specs.Levels.{Fits, PartFits}
use Rattle.rx_elem.specs.Elements.{Element}
use Rattle.rx_elem.specs.Trees.{Node}
use Rattle.rx_meaning.specs.Fresh.{Sight, empty, made, waits, throws, fresh}
use Rattle.rx_meaning.specs.Cursor.{Open, around, trying, falling, guarding, Frame, Cursor, at_place, at_end, ended, StandsAtNode}
use Rattle.rx_meaning.specs.Rest.{gives}
use Rattle.rx_meaning.specs.Counts.{each_unit, each_body, left, whole}

-- the places that are left of a list need no more levels
abbrev pub AllFit : ℕ → Program → List (Element × Option Node) → Type 0
AllFit n p [] = Unit {0}
AllFit n p (x ∷ xs) = Fits n p x.0 × AllFit n p xs

-- nor the fallback that an open boundary, of Suspense or of errors, may come to
abbrev pub OpenFits : ℕ → Program → Open → Type 0
OpenFits n p (around e m) = Unit {0}
OpenFits n p (trying e old f) = PartFits n p f
OpenFits n p (falling e old a) = Unit {0}
OpenFits n p (guarding e f) = PartFits n p f

-- nor those of the frames
abbrev pub FramesFit : ℕ → Program → List Frame → Type 0
FramesFit n p [] = Unit {0}
FramesFit n p (f ∷ fs) = AllFit n p f.rest × OpenFits n p f.node × FramesFit (suc n) p fs

-- nor those of a cursor
abbrev pub CursorFits : Program → Cursor → Type 0
CursorFits p (at_place n fs cs e old) = Fits n p e × FramesFit n p fs
CursorFits p (at_end n fs o done) = FramesFit n p fs
CursorFits p (ended q) = Unit {0}

-- one if a render has ended in a node
abbrev pub if_ended : Cursor → ℕ
if_ended (at_place n fs cs e old) = 0
if_ended (at_end n fs o done) = 0
if_ended (ended empty) = 0
if_ended (ended (made m)) = 1
if_ended (ended (waits a)) = 0
if_ended (ended (throws x)) = 0

-- what holds of each moment of a render
pub record InProgress (s : Sight) (old : Option Node) (units bodies : ℕ) (c : Cursor) : Type 0 where
  pub gives_fresh : gives s c ≡ fresh s old
  pub fits : CursorFits s.program c
  pub stands : StandsAtNode c
  pub units_bound : units + left each_unit s c ≤ whole each_unit s old
  pub bodies_bound : bodies + left each_body s c ≤ whole each_body s old
  pub fewer : bodies + if_ended c ≤ units
