-- The reader behind the line that starts where it stands.
use Rattle.std.specs.Prelude.{◌+◌, drop}
use Rattle.text.specs.Lines.{lines_of, first_length}
use Rattle.lines.specs.declared.LineReader.{LineReader}

abbrev pub behind : LineReader → LineReader
behind r = record { file = r.file; at = r.at + first_length (lines_of (drop r.at r.file.now)) }
