-- LoggerText: the one text by which a player knows its live logger, and what it says line by line.
use Rattle.std.specs.Prelude.{◌≡◌, ℕ, List, [], ◌∷◌, ◌++◌, Result, Ok, Err, Option, codes}
use Rattle.hex.specs.Hex.{encode_lower}
use Rattle.byte_fields.specs.Fronts as fronts
use Rattle.byte_fields.specs.Fronts.{behind}
use Rattle.text_lines.specs.Lines.{ended_lines_of, joined, one_within}
use Rattle.text_lines.specs.Reading.{◌>>=◌, line_at}
use Rattle.text_fields.specs.declared.fault.TextFault.{TextFault}
use Rattle.text_fields.specs.declared.fault.TextFault.TheVariants.{At}
use Rattle.rosters.specs.declared.logger.Logger.{Logger}
use Rattle.rosters.specs.Addrs.{Addr}
use Rattle.rosters.specs.Fields.{addr_then, line_end, pass_then, space}
use Rattle.rosters.specs.Reading.{alone, end_at, me_said}
use Rattle.rosters.specs.Text.{FitsAddr, FitsPass, addr_text, end_line, me_line, version_line}

-- ---- the text

-- `logger A.B.C.D PORT SHOWS`
abbrev pub logger_line : Logger → List ℕ
logger_line l = codes "logger " ++ addr_text l.addr (space ∷ (encode_lower l.shows ++ (line_end ∷ [])))

-- the logger's line stands where a roster has those of the other players
abbrev pub logger_lines : (own : Addr) → Logger → List (List ℕ)
logger_lines own l = version_line ∷ me_line own ∷ logger_line l ∷ end_line ∷ []

-- an address and a pass that fit their fields
pub record FitsLogger (l : Logger) : Type 0 where
  pub addr : FitsAddr l.addr
  pub shows : FitsPass l.shows

-- the text of a player with this address says this logger
pub record SaysLogger (own : Addr) (l : Logger) (text : List ℕ) : Type 0 where
  pub own_fits : FitsAddr own
  pub fits : FitsLogger l
  pub text_is : text ≡ joined (logger_lines own l)

-- the same, whatever the own address is
abbrev pub IsLoggerFrom : Logger → List ℕ → Type 0
IsLoggerFrom l text = (own : Addr) × SaysLogger own l text

-- ---- what it says, line by line

-- the logger that a line says
unfoldable pub logger_said : List ℕ → Option Logger
logger_said line =
    fronts.◌>>=◌ (behind (codes "logger ") line) (λ rest.
    fronts.◌>>=◌ (addr_then space rest) (λ addr.
    fronts.◌>>=◌ (pass_then line_end addr.1) (λ shows.
    alone (record { addr = addr.0; shows = shows.0 }, shows.1))))

-- the logger that these lines say, or the first of them at fault
unfoldable pub logger_by : List (List ℕ) → Result Logger TextFault
logger_by lines = do
  version ← line_at (At 1) (one_within (codes "roster") 1 1) lines
  own ← line_at (At 2) me_said version.1
  logger ← line_at (At 3) logger_said own.1
  end ← end_at 4 logger.1
  Ok logger.0

-- the logger that a text says, or its first line at fault
abbrev pub logger_at : List ℕ → Result Logger TextFault
logger_at text = logger_by (ended_lines_of text)

-- the answer is the logger, or the number of the first line at fault
abbrev pub IsAnswer : Result Logger TextFault → Result Logger ℕ → Type 0
IsAnswer said (Ok l) = said ≡ Ok l
IsAnswer said (Err line) = said ≡ Err (At line)
