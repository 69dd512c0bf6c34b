-- What reading a text answers, from what the text says.
use Rattle.std.proofs.Common.{◌≡◌, ℕ, true, List, Result, Ok, Err, refl, sym, ap, subst, ◌∙◌}
use Rattle.std.proofs.lemmas.Bool.{false≢true}
use Rattle.std.specs.Prelude.{IfOk}
use Rattle.sha2.specs.Sha256.{sha256}
use Rattle.definitions.specs.declared.world.Cell.{Cell}
use Rattle.definitions.specs.declared.world.Seat.{Seat}
use Rattle.definitions.specs.World.{Game}
use Rattle.grid_world.specs.declared.fault.SessionFault.{SessionFault}
use Rattle.grid_world.specs.declared.fault.SessionFault.TheVariants.{At, Memory}
use Rattle.text_lines.specs.Lines.{ended_lines_of, joined}
use Rattle.grid_world.specs.Text.{session_text}
use Rattle.grid_world.specs.Sessions.{game_of, starts_of}
use Rattle.text_lines.specs.Reading.{◌>>=◌, fault_of}
use Rattle.text_lines.specs.Answers.{Faults, Gives, IsRead}
use Rattle.text_lines.proofs.Answers.{faults, is_found, is_read}
use Rattle.text_lines.proofs.Steps.{bind_ok, ok_is}
use Rattle.grid_world.specs.Reading.{Head, head_at, seats_at, walls_at, Said, said_by, session_fault, game_at}
use Rattle.grid_world.specs.Answers.{IsReadFrom, is_memory}
use Rattle.text_lines.proofs.Joined.{joined-ended_lines_of}
use Rattle.grid_world.proofs.Kept.{ReadsParts, walled, session_kept, lines_kept, length-sha256}
use Rattle.grid_world.proofs.Again.{said_of, said_again, ended_lines_of-session_text}

-- what the parts of a text say
abbrev made : Head → List Seat → List Cell → Said
made head seats walls = record { version = head.version; grid = walled head.grid walls; rules = head.rules; turns = head.turns; ahead = head.ahead; seats = seats }

said_parts : (lines : List (List ℕ)) (said : Said) → said_by lines ≡ Ok said → (head : Head) × (seats : List Seat) × (walls : List Cell) × ReadsParts lines head seats walls × (made head seats walls ≡ said)
unfolding said_by
said_parts lines said e =
    let a = bind_ok (head_at lines) _ said e in
    let b = bind_ok (seats_at a.0.0 a.0.0.players 0 a.0.1) _ said a.2 in
    let c = bind_ok (walls_at a.0.0.grid (starts_of b.0.0) b.0.1 _ _) _ said b.2 in
    (a.0.0, b.0.0, c.0, record { seats_from = a.0.1; walls_from = b.0.1; head_is = a.1; seats_are = b.1; walls_are = c.1 }, ok_is {E = SessionFault} (made a.0.0 b.0.0 c.0) said c.2)

-- the session that something said makes
abbrev played : List ℕ → Said → Game
played id said = game_of said.version id said.grid said.rules said.turns said.ahead said.seats

said_found : (text : List ℕ) (said : Said) → said_by (ended_lines_of text) ≡ Ok said → IsReadFrom (played (sha256 text) said) text
unfolding session_text
said_found text said e =
    let parts = said_parts (ended_lines_of text) said e in
    subst (λ (s : Said). IsReadFrom (played (sha256 text) s) text) parts.4
    (record {
      session = session_kept (sha256 text) (ended_lines_of text) parts.0 parts.1 parts.2 (length-sha256 text) parts.3;
      text_is = sym (joined-ended_lines_of text) ∙ ap joined (lines_kept (sha256 text) (ended_lines_of text) parts.0 parts.1 parts.2 parts.3);
      id_is = refl;
    })

-- what a text says is a session of this text
pub game_found : (text : List ℕ) (game : Game) → game_at text ≡ Ok game → IsReadFrom game text
unfolding game_at
game_found text game e =
    let a = bind_ok (said_by (ended_lines_of text)) _ game e in
    subst (λ (g : Game). IsReadFrom g text) (ok_is {E = SessionFault} (played (sha256 text) a.0) game a.2) (said_found text a.0 a.1)

-- a session's text says the session
pub game_again : (text : List ℕ) (game : Game) → IsReadFrom game text → game_at text ≡ Ok game
unfolding game_at
game_again text game from =
    let said : said_by (ended_lines_of text) ≡ Ok (said_of game) = ap said_by (ap ended_lines_of from.text_is ∙ ended_lines_of-session_text game from.session) ∙ said_again game from.session in
    rw said (ap (λ (id : List ℕ). Ok (record game { id = id })) (sym from.id_is))

fault_game : (id : List ℕ) (read : Result Said SessionFault) → fault_of (read >>= λ said. Ok (played id said)) ≡ fault_of read
fault_game id (Ok said) = refl
fault_game id (Err e) = refl

pub fault_at : (text : List ℕ) → fault_of (game_at text) ≡ session_fault text
unfolding game_at session_fault
fault_at text = fault_game (sha256 text) (said_by (ended_lines_of text))

-- ---- what the reader answers

pub found_in : (text : List ℕ) (r : Result Game SessionFault) → Gives is_memory (λ s. s) r (game_at text) → IfOk r (λ s. IsReadFrom s text)
found_in text r given = is_found is_memory (λ s. IsReadFrom s text) r (game_at text) (game_found text) given

only_memory : (e : SessionFault) → is_memory e ≡ true → e ≡ Memory
only_memory Memory h = refl
only_memory (At line what) h = absurd (false≢true h)

pub read_of : (text : List ℕ) (r : Result Game SessionFault) (game : Game) → Gives is_memory (λ s. s) r (game_at text) → IsReadFrom game text → IsRead Memory game r
read_of text r game given from = is_read is_memory Memory r (game_at text) game only_memory given (game_again text game from)

pub faults_of : (text : List ℕ) (r : Result Game SessionFault) → Gives is_memory (λ s. s) r (game_at text) → Faults is_memory r (session_fault text)
faults_of text r given = subst (Faults is_memory r) (fault_at text) (faults is_memory r (game_at text) given)
