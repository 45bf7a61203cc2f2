use Rattle.std.proofs.Common.{◌≡◌, ◌++◌, [], drop}
use Rattle.run_page.specs.Marks.{marks_from}
use Rattle.run_page.proofs.marks.put_marks.Given as goal

abbrev pub invariant-bytes : goal.invariant-bytes
invariant-bytes l = l.html ++ marks_from l.line.items (drop l.byte-index l.text) ≡ l.fn.html ++ marks_from [] l.text
