-- Seats: what the steps do at a player's seat, where its peer stands, or none if it is hostile.
use Rattle.std.specs.Prelude.{ℕ, List, [], Option, Some, None, map, option_map, if◌then◌else◌}
use Rattle.std.specs.List.{range_with_len}
use Rattle.definitions.specs.declared.world.Move.{Move}
use Rattle.definitions.specs.declared.openings.Nonce.{Nonce}
use Rattle.definitions.specs.declared.frames.TurnFrame.{TurnFrame}
use Rattle.definitions.specs.declared.logs.Entry.{Entry}
use Rattle.definitions.specs.World.{Game, players_of}
use Rattle.definitions.specs.Steps.{after_choice, after_got, after_stop}
use Rattle.peer_core.specs.Views.{PeerState}
use Rattle.schedule.specs.declared.steps.StepAnswer.{StepAnswer}
use Rattle.schedule.specs.declared.steps.StepAnswer.TheVariants.{NotHonest}
use Rattle.schedule.specs.Steps.{choice_answer, frame_answer, is_hostile, stop_answer}

-- the log of the peer at the seat
abbrev pub log_at : Option PeerState → Option (List Entry)
log_at seat = option_map (λ s. s.entries) seat

-- the answer of the peer at the seat, if there is one
abbrev pub said_at : Option PeerState → (PeerState → StepAnswer) → StepAnswer
said_at None answer = NotHonest
said_at (Some s) answer = answer s

-- the seat behind what gives its peer such a log
abbrev pub seat_with : (PeerState → List Entry) → Option PeerState → Option PeerState
seat_with log None = None
seat_with log (Some s) = Some (record s { entries = log s })

-- the peer's answer to a choice, and its log behind it
abbrev pub says_to_choice : Move → PeerState → StepAnswer
says_to_choice mv s = choice_answer s.game s.me s.entries mv

abbrev pub log_with_choice : Move → Nonce → PeerState → List Entry
log_with_choice mv nonce s = after_choice s.game s.me s.entries mv nonce

-- the same of a frame of q
abbrev pub says_to_frame : ℕ → TurnFrame → PeerState → StepAnswer
says_to_frame q f s = frame_answer s.game s.me s.entries q (Some f)

abbrev pub log_with_frame : ℕ → TurnFrame → PeerState → List Entry
log_with_frame q f s = after_got s.game s.me s.entries q f

-- the same of a stop
abbrev pub says_to_stop : ℕ → PeerState → StepAnswer
says_to_stop keep s = stop_answer s.entries keep

abbrev pub log_with_stop : ℕ → PeerState → List Entry
log_with_stop keep s = after_stop s.game s.me s.entries keep

-- the seats before the first step: each honest player's peer with an empty log
abbrev pub first_seat : Game → (hostile q : ℕ) → Option PeerState
first_seat game hostile q = if is_hostile hostile q then None else Some (record { game = game; me = q; entries = [] })

abbrev pub first_seats : Game → (hostile : ℕ) → List (Option PeerState)
first_seats game hostile = map (first_seat game hostile) (range_with_len 0 (players_of game))
