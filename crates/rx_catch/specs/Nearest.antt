-- The boundaries around a place: the nearest one that takes a throw, and the nearest one that takes a wait.
use Rattle.std.specs.Prelude.{ℕ, List, Option, Some, None, fold}
use Rattle.rx_catch.specs.declared.handlers.Handler.{Handler}
use Rattle.rx_catch.specs.declared.handlers.Handler.TheVariants.{Catch, Boundary}

-- the nearest error boundary at a handler, if this is the one outside of it
abbrev pub nearer_catch : Option ℕ → Handler → Option ℕ
nearer_catch outside (Catch n) = Some n
nearer_catch outside (Boundary n) = outside

-- the nearest Suspense boundary at a handler, if this is the one outside of it
abbrev pub nearer_boundary : Option ℕ → Handler → Option ℕ
nearer_boundary outside (Catch n) = outside
nearer_boundary outside (Boundary n) = Some n

-- of these, the outermost first, the nearest error boundary
abbrev pub nearest_catch : List Handler → Option ℕ
nearest_catch hs = fold nearer_catch None hs

-- of these, the outermost first, the nearest Suspense boundary
abbrev pub nearest_boundary : List Handler → Option ℕ
nearest_boundary hs = fold nearer_boundary None hs
