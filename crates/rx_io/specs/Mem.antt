-- Sources and sinks in memory that fail in the calls that they were told.
use Rattle.std.specs.Prelude.{ℕ, ◌+◌, ◌-◌, ◌^◌, min, List, drop, ◌++◌}

-- a source in memory: the bytes not yet read, the most bytes that a call moves, the calls that fail, how many were made, and how many failed
pub record Feed : Type 0 where
  pub left : List ℕ
  pub most : ℕ
  pub failing : List ℕ
  pub calls : ℕ
  pub faults : ℕ

-- a sink in memory: the bytes written, the greatest number of them, and the rest as of a source
pub record Tray : Type 0 where
  pub written : List ℕ
  pub room : ℕ
  pub most : ℕ
  pub failing : List ℕ
  pub calls : ℕ
  pub faults : ℕ

-- one more, or the same at the type's end
abbrev pub next_count : ℕ → ℕ
next_count n = min (n + 1) (2 ^ 64 - 1)

-- as many bytes as a call may move, if it isn't told how many
abbrev pub any_count : ℕ
any_count = 2 ^ 64 - 1

-- the source after a call that took n bytes
abbrev pub after_read : Feed → ℕ → Feed
after_read feed n = record feed { left = drop n feed.left; calls = next_count feed.calls }

-- the source after a call that failed
abbrev pub after_failed_read : Feed → Feed
after_failed_read feed = record feed { calls = next_count feed.calls; faults = next_count feed.faults }

-- the sink after a call that took a piece
abbrev pub after_write : Tray → List ℕ → Tray
after_write tray piece = record tray { written = tray.written ++ piece; calls = next_count tray.calls }

-- the sink after a call that failed
abbrev pub after_failed_write : Tray → Tray
after_failed_write tray = record tray { calls = next_count tray.calls; faults = next_count tray.faults }
