-- Sending: the batch of datagrams that go out between two polls.
use Rattle.std.specs.Prelude.{ℕ, List, [], ◌∷◌, Option, Some, None, drop, take, flat_map, length, map, min}
use Rattle.definitions.specs.World.{Game}
use Rattle.definitions.specs.declared.frames.TurnFrame.{TurnFrame}
use Rattle.definitions.specs.declared.logs.Entry.{Entry}
use Rattle.definitions.specs.Held.{next_place}
use Rattle.definitions.specs.Logs.{made}
use Rattle.datagram_post.specs.Moved.{Mail}
use Rattle.letters.specs.declared.letter.Letter.{Letter}
use Rattle.letters.specs.Spelling.{letter_bytes}
use Rattle.peer_rules.specs.Addresses.{told_addr}
use Rattle.post_rules.specs.declared.partners.Partner.{Partner}
use Rattle.post_rules.specs.declared.limits.TheConstants.{MOST_FRAMES}
use Rattle.post_rules.specs.Views.{View}

-- the place that the player wants next, among so many own frames
abbrev pub asked : (made : ℕ) → Partner → ℕ
asked made p = min p.told made

-- the own frames that are sent to the player: the next ones from the place that it wants on
abbrev pub next_frames : List TurnFrame → Partner → List TurnFrame
next_frames frames p = take MOST_FRAMES (drop (asked (length frames) p) frames)

-- one datagram for each of them, and where there is none one without a frame
abbrev pub parts : List TurnFrame → List (Option TurnFrame)
parts [] = None ∷ []
parts (f ∷ fs) = Some f ∷ map Some fs

-- what the player is told: the session, the own number, the pass shown to it, and the place that
-- is wanted of it next
abbrev pub letter_to : Game → (me : ℕ) → List Entry → Partner → Option TurnFrame → Letter
letter_to game me h p frame = record {
  id = game.id;
  player = me;
  pass = p.link.shows;
  next = next_place game me h p.link.player;
  frame = frame;
}

-- the datagram that says so
abbrev pub mail_to : Game → (me : ℕ) → List Entry → Partner → Option TurnFrame → Mail
mail_to game me h p frame = record { to = told_addr p.link.addr; bytes = letter_bytes (letter_to game me h p frame) }

-- the datagrams that are sent to a player between two polls
abbrev pub mails_to : Game → (me : ℕ) → List Entry → Partner → List Mail
mails_to game me h p = map (mail_to game me h p) (parts (next_frames (made h) p))

-- all datagrams that are sent between two polls, player by player
abbrev pub batch_of : Game → (me : ℕ) → List Entry → List Partner → List Mail
batch_of game me h partners = flat_map (mails_to game me h) partners

-- the same of what a history shows
abbrev pub batch : View → List Mail
batch v = batch_of v.setting.game v.setting.me v.kept v.partners
