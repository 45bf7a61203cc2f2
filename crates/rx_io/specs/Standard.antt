-- The adapters over std's reader and writer, as what they hold.
use Rattle.std.specs.Prelude.{ℕ}
use Rattle.rx_io.specs.declared.standard.StdSource.{StdSource}
use Rattle.rx_io.specs.declared.standard.StdSink.{StdSink}

-- the reader that a source reads from
abbrev pub reader_of : {R : Type 0} → StdSource R → R
reader_of source = source.inner

-- how often it has failed
abbrev pub source_faults : {R : Type 0} → StdSource R → ℕ
source_faults source = source.faults

-- the writer that a sink writes to
abbrev pub writer_of : {W : Type 0} → StdSink W → W
writer_of sink = sink.inner

-- how often it has failed
abbrev pub sink_faults : {W : Type 0} → StdSink W → ℕ
sink_faults sink = sink.faults
