-- What the readers' answers say: of the bytes that the reader held before and of those that it read meanwhile, and of those that
-- it holds now.
use Rattle.std.specs.Prelude.{◌≡◌, ℕ, Bool, true, false, ◌<◌, ◌≤◌, List, [], ◌∷◌, ◌++◌, length}
use Rattle.station.specs.Outside.{faults_behind}
use Rattle.station.specs.Since.{since, Grows}
use Rattle.station.specs.Sources.{SourceState}
use Rattle.line_io.specs.Lines.{lines_of, IsOpen, StartsLonger}
use Rattle.line_io.specs.Reader.{Reader}
use Rattle.line_io.specs.declared.bytes.NextByte.{NextByte}
use Rattle.line_io.specs.declared.bytes.NextByte.TheVariants.{Byte, End as ByteEnd, Failed as ByteFailed}
use Rattle.definitions.specs.declared.limits.TheConstants.{LONGEST_LINE}
use Rattle.line_io.specs.declared.lines.NextLine.{NextLine}
use Rattle.line_io.specs.declared.lines.NextLine.TheVariants.{Line, Last, TooLong, End as LineEnd, Failed as LineFailed}

-- A source was read on: it has what it had, gave more or nothing, and counts a fault more exactly where it failed.
pub record Drew (before now : SourceState) (failed : Bool) : Type 0 where
  pub same : now.whole ≡ before.whole
  pub grows : Grows before.seen now.seen
  pub counted : now.faults ≡ faults_behind failed before.faults

-- whether a byte could not be read
abbrev pub is_byte_failed : NextByte → Bool
is_byte_failed (Byte byte) = false
is_byte_failed ByteEnd = false
is_byte_failed ByteFailed = true

-- The byte is the first of them. The end comes exactly where none is held and none left, and a fault only where none is held.
abbrev pub GaveByte : (bytes : List ℕ) → (ended : Bool) → (now : List ℕ) → NextByte → Type 0
GaveByte bytes ended now (Byte byte) = bytes ≡ byte ∷ now
GaveByte bytes ended now ByteEnd = (bytes ≡ []) × (ended ≡ true) × (now ≡ [])
GaveByte bytes ended now ByteFailed = (bytes ≡ []) × (now ≡ [])

-- A byte was read, where these bytes were held before and those are held now.
pub record ReadsByte (before now : SourceState) (held left : List ℕ) (answer : NextByte) : Type 0 where
  pub drew : Drew before now (is_byte_failed answer)
  pub gave : GaveByte (held ++ since before.seen now.seen) now.ended left answer

-- whether a line could not be read
abbrev pub is_line_failed : NextLine → Bool
is_line_failed Line = false
is_line_failed Last = false
is_line_failed TooLong = false
is_line_failed LineEnd = false
is_line_failed LineFailed = true

-- The line is the first of them, up to its LF; the last one may lack the LF, and comes so only where nothing is left. The end
-- comes exactly where none is held and none left, TooLong exactly where the first line is longer than a line may be, whatever
-- stands behind those read. Where the source fails, no line among those read has its LF.
abbrev pub GaveLine : (bytes : List ℕ) → (ended : Bool) → (now : List ℕ) → NextLine → (line : List ℕ) → Type 0
GaveLine bytes ended now Line line = IsOpen line × (bytes ≡ line ++ 10 ∷ now)
GaveLine bytes ended now Last line = IsOpen line × (0 < length line) × (bytes ≡ line) × (ended ≡ true) × (now ≡ [])
GaveLine bytes ended now LineEnd line = (bytes ≡ []) × (ended ≡ true) × (now ≡ [])
GaveLine bytes ended now TooLong line = (rest : List ℕ) → StartsLonger LONGEST_LINE (lines_of (bytes ++ rest))
GaveLine bytes ended now LineFailed line = IsOpen line × (bytes ≡ line) × (now ≡ [])

-- A line was read, where the reader held these bytes before, and is now as `reader`.
pub record ReadsLine (before now : SourceState) (held : List ℕ) (reader : Reader) (answer : NextLine) : Type 0 where
  pub drew : Drew before now (is_line_failed answer)
  pub gave : GaveLine (held ++ since before.seen now.seen) now.ended reader.pending answer reader.line
  pub short : length reader.line ≤ LONGEST_LINE
